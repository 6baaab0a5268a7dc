use Rattle.opt_reducer.proofs.Parts.{leaf_stays}
use Rattle.opt_reducer.proofs.leaf.is_leaf.Goals as goal

pub returns-in_default : goal.returns-in_default
returns-in_default c = let d = c.in_default in λ i. leaf_stays _ d.not-InterpolatedString d.not-Array d.not-Map d.not-Variable d.not-MethodCall d.not-Stmt d.not-FnCall d.not-Dot d.not-Index d.not-And d.not-Or d.not-Coalesce
