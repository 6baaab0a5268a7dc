use Rattle.std.proofs.Common.{sym, ap, ◌∙◌}
use Rattle.theory_rewriting.specs.Tables.{arm_decides}
use Rattle.theory_rewriting.proofs.rules.Shrunk.{is_below}
use Rattle.opt_switch.proofs.ArmPlaces.{not_below, arm_there, arm_missing}
use Rattle.opt_switch.proofs.arms.decided.Goals as goal

pub returns-in-Some : goal.returns-in-Some
returns-in-Some c = c.constant_bool.ensures ∙ ap arm_decides (arm_there c.args.arms.now c.args.place c.in-Some.arm.now (is_below _ _ (sym c.in-Some.ensures.lookup.0)) c.in-Some.ensures.lookup.1)

pub returns-in-None : goal.returns-in-None
returns-in-None c = ap arm_decides (arm_missing c.args.arms.now c.args.place (not_below _ _ (sym c.in-None.ensures.lookup.0)))
