use Rattle.std.proofs.Common.{◌≡◌, drop}
use Rattle.opt_base.specs.State.{progress}
use Rattle.ast_types.specs.Reading.{shared_names}
use Rattle.opt_stmts.specs.SettledAssignments.{knows_some}
use Rattle.opt_stmts.proofs.assign.share.knows_some.Given as goal

abbrev pub invariant-loop-name : goal.invariant-loop-name
invariant-loop-name l = knows_some (progress l.state).known (shared_names l.names) ≡ knows_some (progress l.state).known (shared_names (drop l.name-index l.names))
