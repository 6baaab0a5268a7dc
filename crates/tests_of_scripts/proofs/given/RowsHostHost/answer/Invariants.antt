use Rattle.std.proofs.Common.{◌≡◌, drop, length}
use Rattle.tests_of_scripts.specs.HostRows.{answer_among}
use Rattle.tests_of_scripts.proofs.given.RowsHostHost.answer.Given as goal

-- what is left decides
abbrev pub invariant-loop-row : goal.invariant-loop-row
invariant-loop-row l = answer_among (drop l.row-index l.self.answers) (length l.past) l.call.name ≡ answer_among l.self.answers (length l.past) l.call.name
