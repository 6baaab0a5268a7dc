use Rattle.std.proofs.Common.{◌≡◌, subst}
use Rattle.std.specs.Prelude.{IfOk}
use Rattle.ast_nodes.specs.Lent.{lent_value}
use Rattle.ast_types.proofs.Cases.{expr_cases}
use Rattle.opt_chains.proofs.OtherParts.{no_literal}
use Rattle.opt_chains.proofs.parts.answers.whole_value.Goals as goal

pub returns-in_default : goal.returns-in_default
returns-in_default c = subst (λ o. IfOk c.constant_value.result (λ v. lent_value v ≡ o)) (no_literal (expr_cases c.args.expr.now) c.in_default.not-Array c.in_default.not-Map) c.constant_value.ensures
