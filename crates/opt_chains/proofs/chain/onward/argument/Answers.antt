use Rattle.std.proofs.Common.{◌∙◌, ap}
use Rattle.ast_types.specs.Reading.{expr_of}
use Rattle.ast_types.proofs.Cases.{expr_cases}
use Rattle.opt_chains.specs.Onward.{argument}
use Rattle.opt_chains.proofs.OtherChains.{itself}
use Rattle.opt_chains.proofs.chain.onward.argument.Goals as goal

pub returns-in_default : goal.returns-in_default
returns-in_default c = itself (expr_cases c.args.right.now) c.in_default.not-Dot c.in_default.not-Index ∙ ap (λ b. argument b (expr_of c.args.right.now)) (c.if-contains.ensures tt)
