use Rattle.std.proofs.Common.{false, drop}
use Rattle.base_text.specs.Text.{Text}
use Rattle.ast_types.specs.Reading.{stmts_of}
use Rattle.theory_grammar.specs.Statements.{ReadsStmts}
use Rattle.syntax_grammar.proofs.statements.+statements.Given as goal

-- what is left decides
abbrev pub invariant-list-loop-node : goal.invariant-list-loop-node
invariant-list-loop-node l = (rest : Text) → ReadsStmts l.owed (drop l.place l.text) (stmts_of (drop l.node-index l.nodes)) rest → ReadsStmts false (drop l.at l.text) (stmts_of l.nodes) rest
