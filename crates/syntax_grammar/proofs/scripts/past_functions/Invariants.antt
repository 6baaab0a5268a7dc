use Rattle.std.proofs.Common.{◌≡◌, drop, map}
use Rattle.std.specs.Rc.{rc_value}
use Rattle.base_text.specs.Text.{Text}
use Rattle.ast_types.specs.Reading.{function_of}
use Rattle.theory_meaning.specs.Tree.{Stmts}
use Rattle.theory_grammar.specs.Statements.{ReadsScript}
use Rattle.syntax_grammar.proofs.scripts.past_functions.Given as goal

-- what is left decides
abbrev pub invariant-loop-i : goal.invariant-loop-i
invariant-loop-i l = (l.next.functions ≡ l.i) × ((ss : Stmts) (rest : Text) → ReadsScript l.next.owed (drop l.next.place l.text) ss (map function_of (map rc_value (drop l.next.functions l.functions))) rest → ReadsScript l.done.owed (drop l.done.place l.text) ss (map function_of (map rc_value (drop l.done.functions l.functions))) rest)
