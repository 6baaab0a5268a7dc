use Rattle.std.proofs.Common.{false, drop}
use Rattle.base_text.specs.Text.{Text}
use Rattle.theory_grammar.specs.Statements.{ReadsNames}
use Rattle.syntax_grammar.proofs.functions.past_names.Given as goal

-- what is left decides
abbrev pub invariant-loop-param : goal.invariant-loop-param
invariant-loop-param l = (rest : Text) → ReadsNames l.owed (drop l.place l.text) (drop l.param-index l.params) rest → ReadsNames false (drop l.at l.text) l.params rest
