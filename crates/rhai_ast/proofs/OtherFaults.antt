-- All other nodes, where a match names some.
use Rattle.std.proofs.Common.{◌≡◌, Bool, true, false, if◌then◌else◌, refl}
use Rattle.ast_types.specs.declared.expr.Expr as declared_expr
use Rattle.theory_meaning.specs.Faults.{is_catch}
use Rattle.ast_types.specs.declared.stmt.Stmt as declared_stmt
use Rattle.theory_meaning.specs.Plain.{is_plain_expr, is_plain_stmt}
use Rattle.theory_meaning.specs.Shape.{catch_name, is_left_side, is_member, is_rest}
use Rattle.theory_meaning.specs.Tree.{Expr, Stmt}
use Rattle.theory_meaning.specs.Walk.{Around, Member, OfExpr, Whole, around_parts, right_role, whole}
use Rattle.ast_types.proofs.Cases.{ExprCase, StmtCase, call_case, call_statement_case, dot_case, share_case, index_case, method_call_case, property_case, this_ptr_case, unit_case, variable_case}
use Rattle.ast_types.proofs.OtherKinds.{NoDot, NoIndex, NoVariable, NoProperty, NoMethod, NoThis, NoCall, NoUnit, NoCallStatement, NoShare}

-- it is none of these
pub no_chain : {x : declared_expr.Expr} {e : Expr} (is_dot is_last : Bool) → ExprCase x e → NoDot x → NoIndex x → (if is_dot then is_member e else is_last) ≡ is_rest is_dot is_last e
no_chain is_dot is_last (dot_case s k p) a b = absurd (a s k p refl)
no_chain is_dot is_last (index_case s k p) a b = absurd (b s k p refl)
no_chain is_dot is_last _ a b = refl

pub no_sides : {x : declared_expr.Expr} {e : Expr} (a : Around) → ExprCase x e → NoDot x → NoIndex x → whole a.in_loop ≡ around_parts (OfExpr e) a
no_sides a (dot_case s k p) b c = absurd (b s k p refl)
no_sides a (index_case s k p) b c = absurd (c s k p refl)
no_sides a _ b c = refl

pub no_step : {x : declared_expr.Expr} {e : Expr} (is_dot : Bool) → ExprCase x e → NoDot x → NoIndex x → (if is_dot then Member else Whole) ≡ right_role is_dot false e
no_step is_dot (dot_case s k p) a b = absurd (a s k p refl)
no_step is_dot (index_case s k p) a b = absurd (b s k p refl)
no_step is_dot _ a b = refl

pub no_member : {x : declared_expr.Expr} {e : Expr} → ExprCase x e
    → NoProperty x → NoMethod x
    → false ≡ is_member e
no_member (property_case n p) a b = absurd (a n p refl)
no_member (method_call_case c p) a b = absurd (b c p refl)
no_member _ a b = refl

pub no_left_side : {x : declared_expr.Expr} {e : Expr} → ExprCase x e → NoVariable x → NoThis x → NoDot x → NoIndex x → false ≡ is_left_side e
no_left_side (variable_case v short p) a b c d = absurd (a v short p refl)
no_left_side (this_ptr_case p) a b c d = absurd (b p refl)
no_left_side (dot_case s k p) a b c d = absurd (c s k p refl)
no_left_side (index_case s k p) a b c d = absurd (d s k p refl)
no_left_side _ a b c d = refl

pub no_call : {x : declared_expr.Expr} {e : Expr} → ExprCase x e
    → NoMethod x → NoCall x
    → true ≡ is_plain_expr e
no_call (method_call_case f p) a b = absurd (a f p refl)
no_call (call_case f p) a b = absurd (b f p refl)
no_call _ a b = refl

pub no_catch : {x : declared_expr.Expr} {e : Expr} → ExprCase x e → NoUnit x → NoVariable x → false ≡ is_catch (catch_name e)
no_catch (unit_case p) a b = absurd (a p refl)
no_catch (variable_case v short p) a b = absurd (b v short p refl)
no_catch _ a b = refl

-- ---- statements

pub plain_alone : {x : declared_stmt.Stmt} {s : Stmt} → StmtCase x s
    → NoCallStatement x
    → NoShare x
    → true ≡ is_plain_stmt s
plain_alone (call_statement_case f p) a b = absurd (a f p refl)
plain_alone (share_case xs) a b = absurd (b xs refl)
plain_alone _ a b = refl
