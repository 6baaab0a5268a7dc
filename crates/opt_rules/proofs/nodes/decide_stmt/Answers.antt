use Rattle.std.proofs.Common.{refl}
use Rattle.opt_rules.proofs.Passing.{switch_decided}
use Rattle.opt_rules.proofs.nodes.decide_stmt.Goals as goal

pub returns-in-Expr : goal.returns-in-Expr
returns-in-Expr c = λ r. c.open_braces.ensures.step r _

pub returns-in-If : goal.returns-in-If
returns-in-If c = c.decide_if.ensures.step

pub returns-in-Switch : goal.returns-in-Switch
returns-in-Switch c = switch_decided _ _ _ _ _ _ c.decide_switch.ensures

pub returns-in_default : goal.returns-in_default
returns-in_default c = λ r. (refl, refl)
