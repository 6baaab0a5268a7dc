-- Constants that hold no float: texts write them alike under every host.
use Rattle.std.proofs.Common.{◌≡◌, Bool, true, false, not, ◌||◌, cond, List, [], ◌∷◌, ◌++◌, Option, Some, None, refl, sym, ap, ◌∙◌, subst, if◌then◌else◌}
use Rattle.rhai_base.specs.Value.{Text, Value, values, Fields, no_fields, field, same_text, holds_float, hold_float, fields_hold_float, text_of}
use Rattle.rhai_base.specs.Operators.{text_lt}
use Rattle.theory_meaning.specs.Act.{Host}
use Rattle.theory_meaning.specs.Constants.{array_value, map_value, joined_value, where_floatless, text_constants, value_and, entry_and, is_floatless, are_floatless, pairs_are_floatless, constant_value, constant_values, constant_entries}
use Rattle.theory_meaning.specs.Control.{text_in, texts_joined}
use Rattle.theory_meaning.specs.Elements.{with_entry, with_entries}
use Rattle.theory_meaning.specs.Tree.{Expr, DynamicConstant, BoolConstant, IntegerConstant, FloatConstant, CharConstant, StringConstant, UnitConstant, InterpolatedString, ArrayOf, MapOf, Exprs, no_exprs, expr, Pairs, no_pairs, pair}
use Rattle.theory_meaning.proofs.PureTrees.{no, split}

abbrev or_this : {A : Type 0} → A → Option A → A
or_this a None = a
or_this a (Some b) = b

some_is : {A : Type 0} (a b : A) → Some a ≡ Some b → a ≡ b
some_is a b h = ap (or_this a) h

no_value : {A B : Type 0} {b : B} → None ≡ Some b → A
no_value {b = b} h = absurd (let z : None ≡ Some b = h in cc)

not_held : (b : Bool) → not b ≡ true → b ≡ false
not_held false h = refl
not_held true h = no h

neither : (a b : Bool) → a ≡ false → b ≡ false → (a || b) ≡ false
neither false b h k = k
neither true b h k = absurd (let z : true ≡ false = h in cc)

apart : (a b : Bool) → (a || b) ≡ false → (a ≡ false) × (b ≡ false)
apart false b h = (refl, h)
apart true b h = absurd (let z : true ≡ false = h in cc)

-- ---- entries

chosen_entry : (b : Bool) (fs gs : Fields) → fields_hold_float fs ≡ false → fields_hold_float gs ≡ false → fields_hold_float (if b then fs else gs) ≡ false
chosen_entry true fs gs h k = h
chosen_entry false fs gs h k = k

entry_floatless : (fs : Fields) (k : Text) (w : Value) → fields_hold_float fs ≡ false → holds_float w ≡ false → fields_hold_float (with_entry fs k w) ≡ false
entry_floatless no_fields k w h j = neither (holds_float w) false j refl
entry_floatless (field l v fs) k w h j =
    let z = apart (holds_float v) (fields_hold_float fs) h in
    chosen_entry (same_text l k) (field k w fs) _ (neither (holds_float w) (fields_hold_float fs) j z.1)
    (chosen_entry (text_lt k l) (field k w (field l v fs)) (field l v (with_entry fs k w)) (neither (holds_float w) (fields_hold_float (field l v fs)) j h)
    (neither (holds_float v) (fields_hold_float (with_entry fs k w)) z.0 (entry_floatless fs k w z.1 j)))

data NoneHeld : List (Text × Value) → Type 0 where
  none_held : NoneHeld []
  one_more : {k : Text} {v : Value} {ps : List (Text × Value)} → holds_float v ≡ false → NoneHeld ps → NoneHeld ((k, v) ∷ ps)

entries_floatless : (fs : Fields) {ps : List (Text × Value)} → NoneHeld ps → fields_hold_float fs ≡ false → fields_hold_float (with_entries fs ps) ≡ false
entries_floatless fs none_held h = h
entries_floatless fs (one_more {k = k} {v = v} j q) h = entries_floatless (with_entry fs k v) q (entry_floatless fs k v h j)

-- ---- constants

text_floatless : (o : Option (List Value)) (v : Value) → joined_value o ≡ Some v → holds_float v ≡ false
text_floatless (Some vs) v h = ap holds_float (sym (some_is _ v h))
text_floatless None v h = no_value h

array_floatless : (o : Option (List Value)) → ((us : List Value) → o ≡ Some us → hold_float (values us) ≡ false) → (v : Value) → array_value o ≡ Some v → holds_float v ≡ false
array_floatless (Some us) k v h = ap holds_float (sym (some_is _ v h)) ∙ k us refl
array_floatless None k v h = no_value h

map_floatless : (o : Option (List (Text × Value))) → ((us : List (Text × Value)) → o ≡ Some us → NoneHeld us) → (v : Value) → map_value o ≡ Some v → holds_float v ≡ false
map_floatless (Some us) k v h = ap holds_float (sym (some_is _ v h)) ∙ entries_floatless no_fields (k us refl) refl
map_floatless None k v h = no_value h

more_held : (o : Option Value) (os : Option (List Value)) (vs : List Value) → ((v : Value) → o ≡ Some v → holds_float v ≡ false) → ((us : List Value) → os ≡ Some us → hold_float (values us) ≡ false) → value_and o os ≡ Some vs → hold_float (values vs) ≡ false
more_held (Some u) (Some us) vs k q h = ap (λ zs. hold_float (values zs)) (sym (some_is (u ∷ us) vs h)) ∙ neither (holds_float u) (hold_float (values us)) (k u refl) (q us refl)
more_held None os vs k q h = no_value h
more_held (Some u) None vs k q h = no_value h

as_free : {us vs : List (Text × Value)} → us ≡ vs → NoneHeld us → NoneHeld vs
as_free e h = subst NoneHeld e h

more_free : (n : Text) (o : Option Value) (os : Option (List (Text × Value))) (vs : List (Text × Value)) → ((v : Value) → o ≡ Some v → holds_float v ≡ false) → ((us : List (Text × Value)) → os ≡ Some us → NoneHeld us) → entry_and n o os ≡ Some vs → NoneHeld vs
more_free n (Some u) (Some us) vs k q h = as_free (some_is ((n, u) ∷ us) vs h) (one_more (k u refl) (q us refl))
more_free n None os vs k q h = no_value h
more_free n (Some u) None vs k q h = no_value h

mutual
  pub floatless : (e : Expr) → is_floatless e ≡ true → (v : Value) → constant_value e ≡ Some v → holds_float v ≡ false
  floatless (DynamicConstant u) p v h = ap holds_float (sym (some_is u v h)) ∙ not_held (holds_float u) p
  floatless (BoolConstant b) p v h = ap holds_float (sym (some_is _ v h))
  floatless (IntegerConstant n) p v h = ap holds_float (sym (some_is _ v h))
  floatless (FloatConstant x) p v h = no p
  floatless (CharConstant c) p v h = ap holds_float (sym (some_is _ v h))
  floatless (StringConstant t) p v h = ap holds_float (sym (some_is _ v h))
  floatless UnitConstant p v h = ap holds_float (sym (some_is _ v h))
  floatless (InterpolatedString es) p v h = text_floatless (text_constants es) v h
  floatless (ArrayOf es) p v h = array_floatless (constant_values es) (λ us q. args_floatless es p us q) v h
  floatless (MapOf ps template) p v h = map_floatless (constant_entries ps) (λ us q. pairs_floatless ps p us q) v h
  floatless _ p v h = no_value h

  pub args_floatless : (es : Exprs) → are_floatless es ≡ true → (vs : List Value) → constant_values es ≡ Some vs → hold_float (values vs) ≡ false
  args_floatless no_exprs p vs h = ap (λ us. hold_float (values us)) (sym (some_is [] vs h))
  args_floatless (expr e es) p vs h =
      let z = split (is_floatless e) (are_floatless es) p in
      more_held (constant_value e) (constant_values es) vs (λ v q. floatless e z.0 v q) (λ us q. args_floatless es z.1 us q) h

  pairs_floatless : (ps : Pairs) → pairs_are_floatless ps ≡ true → (vs : List (Text × Value)) → constant_entries ps ≡ Some vs → NoneHeld vs
  pairs_floatless no_pairs p vs h = as_free (some_is [] vs h) none_held
  pairs_floatless (pair n e ps) p vs h =
      let z = split (is_floatless e) (pairs_are_floatless ps) p in
      more_free n (constant_value e) (constant_entries ps) vs (λ v q. floatless e z.0 v q) (λ us q. pairs_floatless ps z.1 us q) h

-- ---- texts

pub text_alone : (h : Host) (v : Value) → holds_float v ≡ false → text_in h v ≡ text_of v
text_alone h v q = ap (λ b. cond b (h.text v) (text_of v)) q

pub texts_alone : (h : Host) (vs : List Value) → hold_float (values vs) ≡ false → texts_joined (text_in h) vs ≡ texts_joined text_of vs
unfolding texts_joined
texts_alone h [] q = refl
texts_alone h (v ∷ vs) q =
    let z = apart (holds_float v) (hold_float (values vs)) q in
    λ i. text_alone h v z.0 i ++ texts_alone h vs z.1 i

parts_are : (b : Bool) (o : Option (List Value)) (vs : List Value) → where_floatless b o ≡ Some vs → (b ≡ true) × (o ≡ Some vs)
parts_are true o vs h = (refl, h)
parts_are false o vs h = no_value h

-- the parts of a text whose parts have values that hold no float
pub text_parts : (es : Exprs) (vs : List Value) → text_constants es ≡ Some vs → (are_floatless es ≡ true) × (constant_values es ≡ Some vs)
text_parts es vs h = parts_are (are_floatless es) (constant_values es) vs h

pub texts_constant : (h : Host) (es : Exprs) (vs : List Value) → text_constants es ≡ Some vs → texts_joined (text_in h) vs ≡ texts_joined text_of vs
texts_constant h es vs q = let z = text_parts es vs q in texts_alone h vs (args_floatless es z.0 vs z.1)
