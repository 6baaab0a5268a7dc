use Rattle.std.proofs.Common.{◌≡◌, subst}
use Rattle.std.specs.Prelude.{IfOk}
use Rattle.ast_types.specs.Reading.{expr_of}
use Rattle.opt_chains.proofs.OtherChains.{plain_constant}
use Rattle.opt_chains.proofs.chain.chain.constant_of.Goals as goal

pub returns-in_default : goal.returns-in_default
returns-in_default c = subst (λ o. IfOk c.from_dynamic.result (λ e. expr_of e ≡ o)) (plain_constant c.args.value c.in_default.not-FnPtr) c.from_dynamic.ensures.value
