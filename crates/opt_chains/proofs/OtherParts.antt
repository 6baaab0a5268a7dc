-- Values and nodes by their kinds: which of them answer nothing.
use Rattle.std.proofs.Common.{◌≡◌, Bool, true, false, not, List, [], ◌∷◌, Option, Some, None, is_some, ◌↔◌, IsTrue, refl, sym, ap}
use Rattle.std.specs.Prelude.{ℤ}
use Rattle.rhai_base.specs.declared.dynamic.Dynamic.{Dynamic}
use Rattle.rhai_base.specs.Reading.{DynamicCase, int_case, str_case, array_case, map_case}
use Rattle.rhai_base.specs.Value.{Text, Value, Values, Fields, IntV, TextV, ArrayV, MapV}
use Rattle.base_tokens.specs.declared.token.Token.{Token}
use Rattle.rhai_base.specs.Operators.{Operator}
use Rattle.rhai_base.specs.Builtin.{operator_of}
use Rattle.ast_types.specs.declared.expr.Expr as declared_expr
use Rattle.ast_types.specs.Reading.{exprs_of, pairs_of, mark_by, mark_of}
use Rattle.ast_types.proofs.Cases.{ExprCase, integer_constant_case, dynamic_constant_case, interpolated_string_case, array_case as array_expr, map_case as map_expr, property_case, method_call_case}
use Rattle.theory_meaning.specs.Constants.{constant_value, constant_values, constant_entries, array_value, map_value, joined_value, text_constants}
use Rattle.theory_meaning.specs.Engine.{Engine}
use Rattle.theory_meaning.specs.Tree.{Expr, UnitConstant, Pairs}
use Rattle.theory_meaning.specs.Elements.{element}
use Rattle.theory_rewriting.specs.Answering.{property_of, index_of}
use Rattle.theory_rewriting.specs.Indexing.{indexed}
use Rattle.theory_rewriting.specs.Known.{Known}
use Rattle.ast_types.proofs.OtherKinds.{NoArray, NoMap, NoMethod, NoProperty, NoInteger, NoDynamic}
use Rattle.opt_chains.specs.Answers.{whole_value, has_no_token, is_empty, member_answer, entry_of, known_answer}
use Rattle.opt_chains.specs.Literals.{integer_of, property_for, entry_for, literal_part, found_part}
use Rattle.opt_chains.specs.declared.parts.literals.Found.{Found}
use Rattle.rhai_base.proofs.OtherKinds.{NoInt, NoStr, NoItems, NoMembers}

-- ---- values

-- an array at the integer that an index is
pub at_integer : (vs : Values) (o : Option Value) (n : ℤ) → Some n ≡ integer_of o → index_of (Some (ArrayV vs)) o ≡ element vs n
at_integer vs (Some (IntV m)) n h = let same : n ≡ m = cc in ap (element vs) (sym same)
at_integer vs _ n h = absurd cc

pub no_property : {v : Dynamic} {w : Value} → DynamicCase v w → NoMembers v → (x : Text) → None ≡ property_of (Some w) x
no_property (map_case es) h x = absurd (h es refl)
no_property _ h x = refl

pub no_place : {v : Dynamic} {w : Value} → DynamicCase v w → NoItems v → NoStr v → NoInt v → (i : ℤ) → None ≡ indexed w (IntV i)
no_place (array_case vs) a t n i = absurd (a vs refl)
no_place (str_case s) a t n i = absurd (t s refl)
no_place (int_case m) a t n i = absurd (n m refl)
no_place _ a t n i = refl

array_index : (vs : Values) {j : Dynamic} {w : Value} → DynamicCase j w → NoInt j → None ≡ indexed (ArrayV vs) w
array_index vs (int_case m) n = absurd (n m refl)
array_index vs _ n = refl

text_index : (s : Text) {j : Dynamic} {w : Value} → DynamicCase j w → NoInt j → None ≡ indexed (TextV s) w
text_index s (int_case m) n = absurd (n m refl)
text_index s _ n = refl

int_index : (i : ℤ) {j : Dynamic} {w : Value} → DynamicCase j w → NoInt j → None ≡ indexed (IntV i) w
int_index i (int_case m) n = absurd (n m refl)
int_index i _ n = refl

map_index : (fs : Fields) {j : Dynamic} {w : Value} → DynamicCase j w → NoStr j → None ≡ indexed (MapV fs) w
map_index fs (str_case s) t = absurd (t s refl)
map_index fs _ t = refl

pub no_index : (v : Value) {j : Dynamic} {w : Value} → DynamicCase j w → NoInt j → NoStr j → None ≡ indexed v w
no_index (ArrayV vs) c n t = array_index vs c n
no_index (TextV s) c n t = text_index s c n
no_index (IntV i) c n t = int_index i c n
no_index (MapV fs) c n t = map_index fs c t
no_index _ c n t = refl

pub property_indexed : (v : Value) (x : Text) → property_of (Some v) x ≡ indexed v (TextV x)
property_indexed (MapV fs) x = refl
property_indexed _ x = refl

pub property_entry : (o : Option Value) (x : Text) → property_of o x ≡ entry_of o (Some (TextV x))
property_entry (Some (MapV fs)) x = refl
property_entry (Some _) x = refl
property_entry None x = refl

pub no_entry : (v : Value) {j : Dynamic} {w : Value} → DynamicCase j w → NoStr j → None ≡ entry_of (Some v) (Some w)
no_entry (MapV fs) (str_case s) t = absurd (t s refl)
no_entry (MapV fs) _ t = refl
no_entry _ c t = refl

pub entry_of_none : (v : Value) → None ≡ entry_of (Some v) None
entry_of_none (MapV fs) = refl
entry_of_none _ = refl

pub no_integer : {v : Dynamic} {w : Value} → DynamicCase v w → NoInt v → None ≡ integer_of (Some w)
no_integer (int_case m) n = absurd (n m refl)
no_integer _ n = refl

pub no_key : (ps : Pairs) {j : Dynamic} {w : Value} → DynamicCase j w → NoStr j → None ≡ entry_for ps (Some w)
no_key ps (str_case s) t = absurd (t s refl)
no_key ps _ t = refl

-- ---- nodes

pub no_literal : {x : declared_expr.Expr} {e : Expr} → ExprCase x e → NoArray x → NoMap x → constant_value e ≡ whole_value e
no_literal (array_expr xs p) a m = absurd (a xs p refl)
no_literal (map_expr y p) a m = absurd (m y p refl)
no_literal _ a m = refl

pub no_member : (r : Engine) (optional : Bool) (v : Value) {x : declared_expr.Expr} {e : Expr} → ExprCase x e → NoProperty x → NoMethod x → None ≡ member_answer r optional v e
no_member r optional v (property_case y p) h m = absurd (h y p refl)
no_member r optional v (method_call_case c p) h m = absurd (m c p refl)
no_member r optional v _ h m = refl

pub no_known_property : (ks : List Known) (b : Expr) {x : declared_expr.Expr} {e : Expr} → ExprCase x e → NoProperty x → None ≡ known_answer ks true b e
no_known_property ks b (property_case y p) h = absurd (h y p refl)
no_known_property ks b _ h = refl

text_no_integer : (o : Option (List Value)) → None ≡ integer_of (joined_value o)
text_no_integer None = refl
text_no_integer (Some vs) = refl

array_no_integer : (o : Option (List Value)) → None ≡ integer_of (array_value o)
array_no_integer None = refl
array_no_integer (Some vs) = refl

map_no_integer : (o : Option (List (Text × Value))) → None ≡ integer_of (map_value o)
map_no_integer None = refl
map_no_integer (Some vs) = refl

pub no_integer_constant : {x : declared_expr.Expr} {e : Expr} → ExprCase x e → NoInteger x → NoDynamic x → None ≡ integer_of (constant_value e)
no_integer_constant (integer_constant_case n p) i d = absurd (i n p refl)
no_integer_constant (dynamic_constant_case v p) i d = absurd (d v p refl)
no_integer_constant (interpolated_string_case xs p) i d = text_no_integer (text_constants (exprs_of xs))
no_integer_constant (array_expr xs p) i d = array_no_integer (constant_values (exprs_of xs))
no_integer_constant (map_expr y p) i d = map_no_integer (constant_entries (pairs_of y.0))
no_integer_constant _ i d = refl

pub no_property_for : (ps : Pairs) {x : declared_expr.Expr} {e : Expr} → ExprCase x e → NoProperty x → None ≡ property_for ps e
no_property_for ps (property_case y p) h = absurd (h y p refl)
no_property_for ps _ h = refl

pub no_found : (f : Found) {x : declared_expr.Expr} {e : Expr} → ExprCase x e → NoArray x → NoMap x → found_part e f ≡ UnitConstant
no_found f (array_expr xs p) a m = absurd (a xs p refl)
no_found f (map_expr y p) a m = absurd (m y p refl)
no_found f _ a m = refl

-- ---- calls

mark_token : (o : Option Operator) → false ≡ has_no_token (mark_by o)
mark_token None = refl
mark_token (Some op) = refl

pub no_token : (t : Option Token) → not (is_some t) ≡ has_no_token (mark_of t)
no_token None = refl
no_token (Some t) = mark_token (operator_of t)

pub no_arguments : (xs : List declared_expr.Expr) (b : Bool) → (IsTrue b ↔ (xs ≡ [])) → b ≡ is_empty (exprs_of xs)
no_arguments [] b h = h.1 refl
no_arguments (x ∷ xs) true h = let z = h.0 refl in absurd cc
no_arguments (x ∷ xs) false h = refl

pub no_literal_part : (dot : Bool) (a : Expr) {x : declared_expr.Expr} {e : Expr} → ExprCase x e → NoArray x → NoMap x → None ≡ literal_part dot e a
no_literal_part dot a (array_expr xs p) n m = absurd (n xs p refl)
no_literal_part dot a (map_expr y p) n m = absurd (m y p refl)
no_literal_part dot a _ n m = refl

pub ruleset kinds_of_values = (property_indexed, property_entry, entry_of_none, no_arguments, no_token)
