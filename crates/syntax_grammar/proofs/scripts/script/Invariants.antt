use Rattle.std.proofs.Common.{false, drop, map}
use Rattle.std.specs.Rc.{rc_value}
use Rattle.base_text.specs.Text.{Text}
use Rattle.ast_types.specs.Reading.{function_of, stmts_of}
use Rattle.theory_grammar.specs.Statements.{ReadsScript}
use Rattle.syntax_grammar.proofs.scripts.script.Given as goal

-- what is left decides
abbrev pub invariant-loop-statement : goal.invariant-loop-statement
invariant-loop-statement l = (rest : Text) → ReadsScript l.done.owed (drop l.done.place l.text) (stmts_of (drop l.statement-index l.statements)) (map function_of (map rc_value (drop l.done.functions l.functions))) rest → ReadsScript false (drop l.at l.text) (stmts_of l.statements) (map function_of (map rc_value l.functions)) rest
