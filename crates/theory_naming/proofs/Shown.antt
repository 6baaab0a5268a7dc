-- A value's text doesn't show which of two names it holds, where no pointer's text does.
use Rattle.std.proofs.Common.{◌≡◌, Bool, true, false, ◌++◌, refl, ap}
use Rattle.std.specs.Prelude.{codes}
use Rattle.rhai_base.specs.Value.{Text, Value, PointerV, Values, Fields, comma, form, form_items, form_fields, inner, text_of}
use Rattle.theory_naming.specs.Naming.{Like, unit_like, bool_like, int_like, float_like, char_like, text_like, array_like, map_like, pointer_like, range_like, inclusive_like, LikeAll, none_like, item_like, LikeFields, no_fields_like, field_like}

module _ (N : Text → Text → Type 0) (shown : (f g : Text) (vs ws : Values) → N f g → inner (PointerV f vs) ≡ inner (PointerV g ws)) where
  mutual
    unfolding form form_items form_fields

    inner_kept : (v w : Value) → Like N v w → inner v ≡ inner w
    inner_kept _ _ unit_like = refl
    inner_kept _ _ (bool_like b) = refl
    inner_kept _ _ (int_like n) = refl
    inner_kept _ _ (float_like c) = refl
    inner_kept _ _ (char_like c) = refl
    inner_kept _ _ (text_like t) = refl
    inner_kept _ _ (array_like h) = ap (λ t. codes "[" ++ t ++ codes "]") (items_kept true _ _ h)
    inner_kept _ _ (map_like h) = ap (λ t. codes "#{" ++ t ++ codes "}") (fields_kept true _ _ h)
    inner_kept _ _ (pointer_like {f = f} {g = g} {vs = vs} {ws = ws} n h) = shown f g vs ws n
    inner_kept _ _ (range_like a b) = refl
    inner_kept _ _ (inclusive_like a b) = refl

    items_kept : (first : Bool) (vs ws : Values) → LikeAll N vs ws → form_items false first vs ≡ form_items false first ws
    items_kept first _ _ none_like = refl
    items_kept first _ _ (item_like h k) = λ i. comma first ++ inner_kept _ _ h i ++ items_kept false _ _ k i

    fields_kept : (first : Bool) (fs gs : Fields) → LikeFields N fs gs → form_fields false first fs ≡ form_fields false first gs
    fields_kept first _ _ no_fields_like = refl
    fields_kept first _ _ (field_like k h r) = λ i. comma first ++ codes "\"" ++ k ++ codes "\": " ++ inner_kept _ _ h i ++ fields_kept false _ _ r i

  pub text_kept : (v w : Value) → Like N v w → text_of v ≡ text_of w
  unfolding text_of
  text_kept _ _ unit_like = refl
  text_kept _ _ (bool_like b) = refl
  text_kept _ _ (int_like n) = refl
  text_kept _ _ (float_like c) = refl
  text_kept _ _ (char_like c) = refl
  text_kept _ _ (text_like t) = refl
  text_kept _ _ (array_like h) = inner_kept _ _ (array_like h)
  text_kept _ _ (map_like h) = inner_kept _ _ (map_like h)
  text_kept _ _ (pointer_like {f = f} {g = g} {vs = vs} {ws = ws} n h) = shown f g vs ws n
  text_kept _ _ (range_like a b) = refl
  text_kept _ _ (inclusive_like a b) = refl
