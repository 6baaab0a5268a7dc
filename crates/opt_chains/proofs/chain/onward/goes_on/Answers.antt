use Rattle.std.proofs.Common.{◌∙◌, ap}
use Rattle.ast_types.specs.Reading.{expr_of}
use Rattle.ast_types.proofs.Cases.{expr_cases}
use Rattle.opt_chains.specs.Onward.{goes_on}
use Rattle.opt_chains.proofs.OtherChains.{ends}
use Rattle.opt_chains.proofs.chain.onward.goes_on.Goals as goal

pub returns-in_default : goal.returns-in_default
returns-in_default c = ends (expr_cases c.args.right.now) c.in_default.not-Dot c.in_default.not-Index ∙ ap (λ b. goes_on b (expr_of c.args.right.now)) (c.if-contains.ensures tt)
