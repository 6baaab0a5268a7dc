-- Parts of an interpolated text that stay: of those in normal form the empty ones are seen to be, and no two texts stand side by side.
use Rattle.std.proofs.Common.{◌≡◌, ◌<◌, ℕ, zero, suc, ◌/◌, ◌%◌, ◌==◌, Bool, true, false, ◌||◌, List, [], ◌∷◌, ◌++◌, length, Option, Some, None, refl, ap, ◌∙◌, if◌then◌else◌, arith}
use Rattle.std.specs.Prelude.{ℤ, pos, negsuc, codes}
use Rattle.std.specs.Char.{encode_utf8}
use Rattle.std.specs.Fmt.{signed_decimal, digits, digits_onto, digit_glyph}
use Rattle.std.proofs.lemmas.List.{length-append}
use Rattle.rhai_base.specs.Value.{Text, Value, UnitV, BoolV, IntV, FloatV, CharV, TextV, ArrayV, MapV, PointerV, RangeV, RangeInclusiveV, holds_float, text_of, form}
use Rattle.theory_meaning.specs.Constants.{constant_value, constant_values, text_constants, constant_entries, array_value, map_value, joined_value}
use Rattle.theory_meaning.specs.Control.{texts_joined}
use Rattle.theory_meaning.specs.Tree.{Expr, DynamicConstant, BoolConstant, IntegerConstant, FloatConstant, CharConstant, StringConstant, UnitConstant, InterpolatedString, ArrayOf, MapOf, Exprs, no_exprs, expr}
use Rattle.theory_rewriting.specs.Context.{Context}
use Rattle.theory_rewriting.specs.Normal.{IsNormal}
use Rattle.theory_rewriting.specs.Operands.{TextTo, in_other_parts, texts_join, empty_goes}
use Rattle.theory_rewriting.specs.Rewriting.{ExprTo, same_expr, by_expr_rule, ExprsTo, exprs_none, exprs_more}
use Rattle.theory_rewriting.specs.Rules as rule
use Rattle.opt_exprs.specs.Parts.{is_empty_value, is_empty_part, first_joins, any_changes}

-- ---- the text of a value other than unit and the empty text, and of one without a float

either_some : (b : Bool) (x : ℕ) (xs ys : List ℕ) → 0 < length ys → 0 < length (if b then x ∷ xs else ys)
either_some true x xs ys h = omega arith
either_some false x xs ys h = h

digits_some : (k n x : ℕ) (xs : List ℕ) → 0 < length (digits_onto k 10 false n (x ∷ xs))
digits_some zero n x xs = omega arith
digits_some (suc k) n x xs = let d = digit_glyph false (n % 10) in either_some (n / 10 == 0) d (x ∷ xs) _ (digits_some k (n / 10) d (x ∷ xs))

decimal_some : (n : ℕ) → 0 < length (digits 10 false n)
unfolding digits
decimal_some n = let d = digit_glyph false (n % 10) in either_some (n / 10 == 0) d [] (digits_onto 63 10 false (n / 10) (d ∷ [])) (digits_some 63 (n / 10) d [])

number_some : (n : ℤ) → 0 < length (signed_decimal n)
number_some (pos n) = decimal_some n
number_some (negsuc n) = omega arith

char_some : (c : ℕ) → 0 < length (encode_utf8 c)
unfolding encode_utf8
char_some c = grind arith

some_text : (t : Text) → 0 < length t → t ≡ [] → ⊥
some_text t h e = absurd (omega (arith, ap length e))

range_some : (a b : ℤ) (dots : Text) → 0 < length ((signed_decimal a ++ dots) ++ signed_decimal b)
range_some a b dots = omega (arith, length-append (signed_decimal a ++ dots) (signed_decimal b), length-append (signed_decimal a) dots, number_some a)

value_empty : (v : Value) → holds_float v ≡ false → text_of v ≡ [] → is_empty_value v ≡ true
unfolding text_of form
value_empty UnitV f h = refl
value_empty (TextV []) f h = refl
value_empty (TextV (c ∷ cs)) f h = absurd cc
value_empty (BoolV true) f h = absurd cc
value_empty (BoolV false) f h = absurd cc
value_empty (IntV n) f h = absurd (some_text _ (number_some n) h)
value_empty (FloatV x) f h = absurd cc
value_empty (CharV c) f h = absurd (some_text _ (char_some c) h)
value_empty (ArrayV vs) f h = absurd cc
value_empty (MapV fs) f h = absurd cc
value_empty (PointerV g vs) f h = absurd cc
value_empty (RangeV a b) f h = absurd (some_text _ (range_some a b (codes "..")) h)
value_empty (RangeInclusiveV a b) f h = absurd (some_text _ (range_some a b (codes "..=")) h)

-- ---- a part in normal form is no literal text of constants

not_empty : (v : Value) → is_empty_value v ≡ false → (o : Option Value) (w : Value) → o ≡ Some v → o ≡ Some w → holds_float w ≡ false → text_of w ≡ [] → ⊥
not_empty v n o w h i f e = let same : v ≡ w = cc in let m : is_empty_value v ≡ true = ap is_empty_value same ∙ value_empty w f e in absurd cc

array_not_empty : (o : Option (List Value)) (w : Value) → array_value o ≡ Some w → holds_float w ≡ false → text_of w ≡ [] → ⊥
array_not_empty None w h f e = absurd cc
array_not_empty (Some vs) w h f e = not_empty _ refl _ w refl h f e

map_not_empty : (o : Option (List (Text × Value))) (w : Value) → map_value o ≡ Some w → holds_float w ≡ false → text_of w ≡ [] → ⊥
map_not_empty None w h f e = absurd cc
map_not_empty (Some vs) w h f e = not_empty _ refl _ w refl h f e

constant_text : {k : Context} {es : Exprs} (v : Value) → IsNormal (ExprTo k) (InterpolatedString es) → joined_value (text_constants es) ≡ Some v → ⊥
constant_text {es = es} v n h = by (text_constants es) refl h where
  by : (o : Option (List Value)) → text_constants es ≡ o → joined_value o ≡ Some v → ⊥
  by None q h = absurd cc
  by (Some vs) q h = let same : StringConstant (texts_joined text_of vs) ≡ InterpolatedString es = n false true _ (by_expr_rule (rule.text_folds vs q)) in absurd cc

part_empty : {k : Context} (e : Expr) (v : Value) → IsNormal (ExprTo k) e → constant_value e ≡ Some v → holds_float v ≡ false → text_of v ≡ [] → is_empty_part e ≡ true
part_empty (DynamicConstant w) v n h f e = ap is_empty_value (let same : w ≡ v = cc in same) ∙ value_empty v f e
part_empty (StringConstant t) v n h f e = ap is_empty_value (let same : TextV t ≡ v = cc in same) ∙ value_empty v f e
part_empty UnitConstant v n h f e = refl
part_empty (BoolConstant b) v n h f e = absurd (not_empty (BoolV b) refl _ v refl h f e)
part_empty (IntegerConstant m) v n h f e = absurd (not_empty (IntV m) refl _ v refl h f e)
part_empty (FloatConstant x) v n h f e = absurd (not_empty (FloatV x) refl _ v refl h f e)
part_empty (CharConstant c) v n h f e = absurd (not_empty (CharV c) refl _ v refl h f e)
part_empty (ArrayOf es) v n h f e = absurd (array_not_empty (constant_values es) v h f e)
part_empty (MapOf ps template) v n h f e = absurd (map_not_empty (constant_entries ps) v h f e)
part_empty (InterpolatedString es) v n h f e = absurd (constant_text v n h)
part_empty _ v n h f e = absurd cc

-- ---- the parts of a list in normal form

same_exprs : {k : Context} {d : Bool} (es : Exprs) → ExprsTo k d d es es
same_exprs no_exprs = exprs_none
same_exprs (expr e es) = exprs_more same_expr (same_exprs es)

first_normal : {k : Context} {e : Expr} {es : Exprs} → IsNormal (ExprsTo k) (expr e es) → IsNormal (ExprTo k) e
first_normal {e = e} {es = es} n = λ d d' e' q. let same : expr e' es ≡ expr e es = n d d' _ (exprs_more q (same_exprs es)) in cc

rest_normal : {k : Context} {e : Expr} {es : Exprs} → IsNormal (ExprsTo k) (expr e es) → IsNormal (ExprsTo k) es
rest_normal {e = e} {es = es} n = λ d d' es' q. let same : expr e es' ≡ expr e es = n d d' _ (exprs_more same_expr q) in cc

-- ---- no change is left

neither : (a b : Bool) → a || b ≡ false → (a ≡ false) × (b ≡ false)
neither true b h = absurd cc
neither false b h = (refl, h)

first_changes : (e : Expr) (es : Exprs) → any_changes (expr e es) ≡ false → (is_empty_part e ≡ false) × (first_joins (expr e es) ≡ false) × (any_changes es ≡ false)
first_changes e es h =
    let a = neither (is_empty_part e) (first_joins (expr e es) || any_changes es) h in
    let b = neither (first_joins (expr e es)) (any_changes es) a.1 in
    (a.0, b.0, b.1)

pub no_part_changes : {k : Context} {es es' : Exprs} → IsNormal (ExprsTo k) es → any_changes es ≡ false → TextTo es es' → ⊥
no_part_changes n h (in_other_parts {e = e} {es = es} p) = no_part_changes (rest_normal n) (first_changes e es h).2 p
no_part_changes n h (texts_join {t = t} {u = u} {es = es}) = let joins : true ≡ false = (first_changes (StringConstant t) (expr (StringConstant u) es) h).1 in absurd cc
no_part_changes n h (empty_goes {e = e} {es = es} v q f i) =
    let empty : is_empty_part e ≡ true = part_empty e v (first_normal n) q f i in
    let stays : is_empty_part e ≡ false = (first_changes e es h).0 in
    absurd cc
