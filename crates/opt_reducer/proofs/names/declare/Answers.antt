use Rattle.std.proofs.Common.{refl}
use Rattle.std.proofs.lemmas.Result.{on_ok_weaker}
use Rattle.opt_base.specs.State.{progress}
use Rattle.opt_reducer.proofs.Parts.{noted_as, declares_nothing}
use Rattle.opt_reducer.proofs.names.declare.Goals as goal

pub returns-in-Var : goal.returns-in-Var
returns-in-Var c = on_ok_weaker _ (noted_as _ _ c.in-Var.flags c.in-Var.field-2 c.args.statement.now (progress c.args.state.now).known (progress c.note.new.state).known c.args.state.now.is_dirty c.note.new.state.is_dirty c.get.ensures c.in-Var.is) c.note.ensures

pub returns-in_default : goal.returns-in_default
returns-in_default c = (refl, declares_nothing _ _ c.in_default.not-Var)
