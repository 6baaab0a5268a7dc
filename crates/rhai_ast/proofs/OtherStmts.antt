-- All other statements, where a match names some.
use Rattle.std.proofs.Common.{◌≡◌, false, refl}
use Rattle.ast_types.specs.declared.stmt.Stmt as declared_stmt
use Rattle.theory_meaning.specs.Queries.{is_control_flow_break, is_noop, is_self_terminated, returns_value}
use Rattle.theory_meaning.specs.Tree.{Stmt}
use Rattle.ast_types.proofs.Cases.{StmtCase, block_case, break_loop_case, call_statement_case, expression_case, for_case, if_case, noop_case, return_case, switch_case, try_catch_case, while_case}
use Rattle.ast_types.proofs.OtherKinds.{NoNoop, NoBreak, NoReturn, NoIf, NoSwitch, NoCallStatement, NoBlock, NoExpression, NoWhile, NoFor, NoTry}

pub no_noop : {x : declared_stmt.Stmt} {s : Stmt} → StmtCase x s → NoNoop x → false ≡ is_noop s
no_noop (noop_case p) n = absurd (n p refl)
no_noop _ n = refl

pub no_break : {x : declared_stmt.Stmt} {s : Stmt} → StmtCase x s
    → NoBreak x
    → NoReturn x
    → false ≡ is_control_flow_break s
no_break (break_loop_case e k p) a b = absurd (a e k p refl)
no_break (return_case e k p) a b = absurd (b e k p refl)
no_break _ a b = refl

pub no_value : {x : declared_stmt.Stmt} {s : Stmt} → StmtCase x s
    → NoIf x
    → NoSwitch x
    → NoCallStatement x
    → NoBlock x
    → NoExpression x
    → false ≡ returns_value s
no_value (if_case f p) i s c b e = absurd (i f p refl)
no_value (switch_case x p) i s c b e = absurd (s x p refl)
no_value (call_statement_case f p) i s c b e = absurd (c f p refl)
no_value (block_case x) i s c b e = absurd (b x refl)
no_value (expression_case x) i s c b e = absurd (e x refl)
no_value _ i s c b e = refl

pub needs_semicolon : {x : declared_stmt.Stmt} {s : Stmt} → StmtCase x s
    → NoIf x
    → NoSwitch x
    → NoWhile x
    → NoFor x
    → NoBlock x
    → NoTry x
    → false ≡ is_self_terminated s
needs_semicolon (if_case f p) i s w o b t = absurd (i f p refl)
needs_semicolon (switch_case x p) i s w o b t = absurd (s x p refl)
needs_semicolon (while_case f p) i s w o b t = absurd (w f p refl)
needs_semicolon (for_case f p) i s w o b t = absurd (o f p refl)
needs_semicolon (block_case x) i s w o b t = absurd (b x refl)
needs_semicolon (try_catch_case f p) i s w o b t = absurd (t f p refl)
needs_semicolon _ i s w o b t = refl
