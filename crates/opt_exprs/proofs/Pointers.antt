-- Constant pointers, and the values that stand behind their own.
use Rattle.std.proofs.Common.{◌≡◌, ℕ, false, List, [], ◌∷◌, ◌++◌, length, drop, Option, Some, None, is_some, refl, sym, ap, ◌∙◌, append_assoc}
use Rattle.std.proofs.lemmas.List.{append-nil}
use Rattle.rhai_base.specs.Value.{Text, Value, PointerV, Values, items, values}
use Rattle.rhai_base.specs.Builtin.{operator_of}
use Rattle.rhai_base.specs.Operators.{Operator}
use Rattle.base_tokens.specs.declared.token.Token.{Token}
use Rattle.theory_meaning.specs.Constants.{array_value, joined_value, map_value, constant_value, constant_values, value_and}
use Rattle.theory_meaning.specs.Engine.{Engine}
use Rattle.theory_meaning.specs.Tree.{Callee, Expr, Exprs, Stmt}
use Rattle.ast_types.specs.declared.expr.Expr as declared_expr
use Rattle.ast_types.specs.declared.stmt.Stmt as declared_stmt
use Rattle.ast_types.specs.Reading.{exprs_of, mark_by, mark_of}
use Rattle.ast_types.proofs.Cases.{ExprCase, dynamic_constant_case, interpolated_string_case, array_case, map_case, call_case, StmtCase, call_statement_case}
use Rattle.ast_types.proofs.ItemLists.{exprs_of-end}
use Rattle.theory_rewriting.specs.Folding.{folded}
use Rattle.ast_types.proofs.OtherKinds.{NoCall, NoCallStatement, NoDynamic}
use Rattle.opt_exprs.specs.Words.{curried, with_values, pointer_alone, value_by, expr_value, statement_value}

-- ---- what is no pointer

array_alone : (vs : Option (List Value)) → None ≡ pointer_alone (array_value vs)
array_alone None = refl
array_alone (Some vs) = refl

text_alone : (vs : Option (List Value)) → None ≡ pointer_alone (joined_value vs)
text_alone None = refl
text_alone (Some vs) = refl

map_alone : (vs : Option (List (Text × Value))) → None ≡ pointer_alone (map_value vs)
map_alone None = refl
map_alone (Some vs) = refl

pub no_pointer : {x : declared_expr.Expr} {e : Expr} → ExprCase x e → NoDynamic x → None ≡ pointer_alone (constant_value e)
no_pointer (dynamic_constant_case v p) h = absurd (h v p refl)
no_pointer (interpolated_string_case xs p) h = text_alone _
no_pointer (array_case xs p) h = array_alone _
no_pointer (map_case m p) h = map_alone _
no_pointer _ h = refl

-- ---- a pointer before other arguments

items_values : (vs : List Value) → items (values vs) ≡ vs
items_values [] = refl
items_values (v ∷ vs) = ap (λ us. v ∷ us) (items_values vs)

curried_same : (f g : Text) (us : List Value) (ws : Values) (os : Option (List Value)) → f ≡ g → values us ≡ ws → with_values f us os ≡ curried (value_and (Some (PointerV g ws)) os)
curried_same f g us ws None p q = refl
curried_same f g us ws (Some vs) p q = λ i. Some (PointerV (p i) (values ((sym (items_values us) ∙ ap items q) i ++ vs)))

pub curried_by : (o : Option Value) (os : Option (List Value)) (f : Text) (us : List Value) → Some (PointerV f (values us)) ≡ pointer_alone o → with_values f us os ≡ curried (value_and o os)
curried_by (Some (PointerV g ws)) os f us h =
    let name : f ≡ g = cc in
    let own : values us ≡ ws = cc in
    curried_same f g us ws os name own
curried_by _ os f us h = absurd cc

pub curried_none : (o : Option Value) (os : Option (List Value)) → None ≡ pointer_alone o → None ≡ curried (value_and o os)
curried_none None os h = refl
curried_none (Some (PointerV f us)) os h = absurd cc
curried_none (Some v) None h = refl
curried_none (Some v) (Some vs) h = refl

-- ---- values behind those of a pointer, one by one

pub with_none : (f : Text) (us : List Value) (o : Option (List Value)) → is_some o ≡ false → None ≡ with_values f us o
with_none f us None h = refl
with_none f us (Some vs) h = absurd cc

pub with_more : (f : Text) (us : List Value) (v : Value) (o : Option (List Value)) → with_values f us (value_and (Some v) o) ≡ with_values f (us ++ v ∷ []) o
with_more f us v None = refl
with_more f us v (Some vs) = ap (λ ws. Some (PointerV f (values ws))) (sym (append_assoc us (v ∷ []) vs))

pub with_same : {f g : Text} {us ws : List Value} → f ≡ g → us ≡ ws → (o : Option (List Value)) → with_values f us o ≡ with_values g ws o
with_same p q o = λ i. with_values (p i) (q i) o

pub with_all : (xs : List declared_expr.Expr) (i : ℕ) (f : Text) (us : List Value) → i ≡ length xs → with_values f us (constant_values (exprs_of (drop i xs))) ≡ Some (PointerV f (values us))
with_all xs i f us h =
    ap (λ j. with_values f us (constant_values (exprs_of (drop j xs)))) h
    ∙ ap (λ es. with_values f us (constant_values es)) (exprs_of-end xs)
    ∙ ap (λ ws. Some (PointerV f (values ws))) (append-nil us)

-- ---- calls and their tokens

value_marked : (r : Engine) (o : Option Operator) (c : Callee) (es : Exprs) → folded r c es ≡ value_by r (mark_by o) c es
value_marked r None c es = refl
value_marked r (Some op) c es = refl

pub value_at : (r : Engine) (t : Token) (c : Callee) (es : Exprs) → folded r c es ≡ value_by r (mark_of (Some t)) c es
value_at r t c es = value_marked r (operator_of t) c es

pub no_call_value : (r : Engine) {x : declared_expr.Expr} {e : Expr} → ExprCase x e → NoCall x → None ≡ expr_value r e
no_call_value r (call_case c p) h = absurd (h c p refl)
no_call_value r _ h = refl

pub no_statement_value : (r : Engine) {x : declared_stmt.Stmt} {s : Stmt} → StmtCase x s → NoCallStatement x → None ≡ statement_value r s
no_statement_value r (call_statement_case c p) h = absurd (h c p refl)
no_statement_value r _ h = refl
