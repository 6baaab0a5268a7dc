-- Of reduced parts one level tells whether a literal is a constant.
use Rattle.std.proofs.Common.{◌≡◌, Bool, true, false, ◌&&◌, Option, None, is_some, refl, sym, ap, ◌∙◌}
use Rattle.theory_meaning.specs.Constants.{constant_value, constant_values, constant_entries, text_constants, are_floatless, is_constant}
use Rattle.theory_meaning.specs.Engine.{Engine}
use Rattle.theory_meaning.specs.Tree.{Expr, DynamicConstant, BoolConstant, IntegerConstant, FloatConstant, CharConstant, StringConstant, UnitConstant, InterpolatedString, ArrayOf, MapOf, Exprs, no_exprs, expr, Pairs, no_pairs, pair}
use Rattle.theory_meaning.proofs.PureTrees.{split}
use Rattle.theory_rewriting.specs.Residue.{IsReducedExpr, AreReducedExprs, AreReducedPairs, ExprParts}
use Rattle.ast_types.specs.declared.expr.Expr as declared_expr
use Rattle.ast_types.proofs.Cases.{ExprCase, interpolated_string_case, array_case, map_case}
use Rattle.ast_types.proofs.OtherKinds.{NoArray, NoMap, NoText}
use Rattle.ast_types.proofs.ItemLists.{is_some-value_and, is_some-entry_and, is_some-array_value, is_some-joined_value, is_some-where_floatless, is_some-map_value}
use Rattle.opt_base.specs.Whole.{is_whole, are_whole, are_whole_members, has_whole_parts}

-- what is whole is a constant
whole_constant : (e : Expr) → is_whole e ≡ true → is_constant e ≡ true
whole_constant (DynamicConstant v) h = refl
whole_constant (BoolConstant b) h = refl
whole_constant (IntegerConstant n) h = refl
whole_constant (FloatConstant x) h = refl
whole_constant (CharConstant c) h = refl
whole_constant (StringConstant t) h = refl
whole_constant UnitConstant h = refl
whole_constant _ h = absurd cc

-- and a reduced constant is whole
none_some : {A : Type 0} (o : Option A) → o ≡ None → is_some o ≡ false
none_some o h = ap is_some h

not_both : {A : Type 0} {b : Bool} → b ≡ false → b ≡ true → A
not_both h i = absurd (let z : false ≡ true = sym h ∙ i in cc)

constant_whole : (r : Engine) (e : Expr) → IsReducedExpr r e → is_constant e ≡ true → is_whole e ≡ true
constant_whole r (DynamicConstant v) h i = refl
constant_whole r (BoolConstant b) h i = refl
constant_whole r (IntegerConstant n) h i = refl
constant_whole r (FloatConstant x) h i = refl
constant_whole r (CharConstant c) h i = refl
constant_whole r (StringConstant t) h i = refl
constant_whole r UnitConstant h i = refl
constant_whole r (InterpolatedString es) h i = not_both (is_some-joined_value (text_constants es) ∙ none_some (text_constants es) h.0) i
constant_whole r (ArrayOf es) h i = not_both (is_some-array_value (constant_values es) ∙ none_some (constant_values es) h.0) i
constant_whole r (MapOf ps template) h i = not_both (is_some-map_value (constant_entries ps) ∙ none_some (constant_entries ps) h.0) i
constant_whole r _ h i = absurd cc

-- ---- as equations

same_by : (a b : Bool) → (a ≡ true → b ≡ true) → (b ≡ true → a ≡ true) → b ≡ a
same_by true b f g = f refl
same_by false true f g = sym (g refl)
same_by false false f g = refl

is_whole-constant : (r : Engine) (e : Expr) → IsReducedExpr r e → is_constant e ≡ is_whole e
is_whole-constant r e h = same_by (is_whole e) (is_constant e) (whole_constant e) (constant_whole r e h)

both : {a b c d : Bool} → a ≡ b → c ≡ d → a && c ≡ b && d
both {b = b} {c = c} p q = ap (λ x. x && c) p ∙ ap (λ x. b && x) q

are_whole-constant : (r : Engine) (es : Exprs) → AreReducedExprs r es → is_some (constant_values es) ≡ are_whole es
are_whole-constant r no_exprs h = refl
are_whole-constant r (expr e es) h = is_some-value_and (constant_value e) (constant_values es) ∙ both (is_whole-constant r e h.0) (are_whole-constant r es h.1)

members-constant : (r : Engine) (ps : Pairs) → AreReducedPairs r ps → is_some (constant_entries ps) ≡ are_whole_members ps
members-constant r no_pairs h = refl
members-constant r (pair k e ps) h = is_some-entry_and k (constant_value e) (constant_entries ps) ∙ both (is_whole-constant r e h.0) (members-constant r ps h.1)

-- a node whose parts are reduced is a constant if its parts are whole
pub whole_parts : (r : Engine) (e : Expr) → ExprParts r e → is_constant e ≡ has_whole_parts e
whole_parts r (InterpolatedString es) h = is_some-joined_value (text_constants es) ∙ is_some-where_floatless (are_floatless es) (constant_values es) ∙ ap (λ b. are_floatless es && b) (are_whole-constant r es h.1.1)
whole_parts r (ArrayOf es) h = is_some-array_value (constant_values es) ∙ are_whole-constant r es h.1.1
whole_parts r (MapOf ps template) h = is_some-map_value (constant_entries ps) ∙ members-constant r ps h.1.1
whole_parts r _ h = refl

-- of what is no literal of parts
pub other_whole : {x : declared_expr.Expr} {e : Expr} → ExprCase x e → NoText x → NoArray x → NoMap x → is_whole e ≡ has_whole_parts e
other_whole (interpolated_string_case xs p) t a m = absurd (t xs p refl)
other_whole (array_case xs p) t a m = absurd (a xs p refl)
other_whole (map_case y p) t a m = absurd (m y p refl)
other_whole _ t a m = refl

-- ---- whatever the parts are, it is a constant then

are_whole-values : (es : Exprs) → are_whole es ≡ true → is_some (constant_values es) ≡ true
are_whole-values no_exprs h = refl
are_whole-values (expr e es) h = let z = split (is_whole e) (are_whole es) h in is_some-value_and (constant_value e) (constant_values es) ∙ both (whole_constant e z.0) (are_whole-values es z.1)

members-values : (ps : Pairs) → are_whole_members ps ≡ true → is_some (constant_entries ps) ≡ true
members-values no_pairs h = refl
members-values (pair k e ps) h = let z = split (is_whole e) (are_whole_members ps) h in is_some-entry_and k (constant_value e) (constant_entries ps) ∙ both (whole_constant e z.0) (members-values ps z.1)

pub has_whole-constant : (e : Expr) → has_whole_parts e ≡ true → is_constant e ≡ true
has_whole-constant (InterpolatedString es) h =
    let z = split (are_floatless es) (are_whole es) h in
    is_some-joined_value (text_constants es) ∙ is_some-where_floatless (are_floatless es) (constant_values es) ∙ both z.0 (are_whole-values es z.1)
has_whole-constant (ArrayOf es) h = is_some-array_value (constant_values es) ∙ are_whole-values es h
has_whole-constant (MapOf ps template) h = is_some-map_value (constant_entries ps) ∙ members-values ps h
has_whole-constant e h = whole_constant e h
