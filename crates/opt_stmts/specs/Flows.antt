-- Statements by their declared parts.
use Rattle.std.specs.Prelude.{◌≡◌, Bool, true, false}
use Rattle.ast_types.specs.declared.stmt.FlowControl.{FlowControl}
use Rattle.theory_meaning.specs.Tree.{Stmt, If, While}
use Rattle.ast_types.specs.Reading.{expr_of, stmts_of}
use Rattle.theory_rewriting.specs.Steps.{StmtRewrite}

abbrev pub if_of : FlowControl → Stmt
if_of f = If (expr_of f.expr) (stmts_of f.body.block) (stmts_of f.branch.block)

abbrev pub loop_of : FlowControl → Stmt
loop_of f = While (expr_of f.expr) (stmts_of f.body.block)

-- an `if` was joined with the one alone in it, or stays
abbrev pub Joined : Bool → Stmt → Stmt → Type 0
Joined true x x' = (w : Bool) → StmtRewrite false w x x'
Joined false x x' = x' ≡ x
