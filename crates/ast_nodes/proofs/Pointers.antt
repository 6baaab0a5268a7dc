-- Expressions for pointers.
use Rattle.std.proofs.Common.{◌≡◌, ◌≢◌, ◌↔◌, IsTrue, Bool, false, List, [], ◌∷◌, map, true, Some, refl, sym, ap, ◌∙◌}
use Rattle.rhai_base.specs.declared.dynamic.Dynamic.{Dynamic}
use Rattle.rhai_base.specs.Value.{Text, PointerV, no_values, values}
use Rattle.rhai_base.specs.Reading.{value_of}
use Rattle.theory_meaning.specs.Constants.{constant_for, literal_value, pointer_call}
use Rattle.theory_meaning.proofs.LiteralLaws.{constant_for_law}
use Rattle.base_tokens.specs.Names.{is_valid_name}
use Rattle.theory_meaning.specs.Tree.{DynamicConstant}

-- a pointer with values is held as it is
pub constant_for-curried : (f : Text) (vs : List Dynamic) → vs ≢ [] → constant_for (PointerV f (values (map value_of vs))) ≡ DynamicConstant (PointerV f (values (map value_of vs)))
constant_for-curried f [] h = absurd (h refl)
constant_for-curried f (v ∷ vs) h = refl

-- one without values is called for
pub constant_for-bare : (f : Text) (vs : List Dynamic) → vs ≡ [] → constant_for (PointerV f (values (map value_of vs))) ≡ pointer_call f
constant_for-bare f vs h = ap (λ us. constant_for (PointerV f (values (map value_of us)))) h

-- the call for a pointer writes the pointer out
pub pointer_written : (f : Text) (vs : List Dynamic) → is_valid_name f ≡ true → vs ≡ [] → literal_value (pointer_call f) ≡ Some (PointerV f (values (map value_of vs)))
pointer_written f vs h e = constant_for_law (PointerV f no_values) h ∙ ap (λ (us : List Dynamic). Some (PointerV f (values (map value_of us)))) (sym e)

-- what is not found to have values has none
pub none_curried : (b : Bool) (vs : List Dynamic) → IsTrue b ↔ (vs ≢ []) → b ≡ false → vs ≡ []
none_curried b [] h e = refl
none_curried true (v ∷ vs) h e = cc
none_curried false (v ∷ vs) h e = absurd (let z : false ≡ true = h.1 (λ w. cc) in cc)

pub ruleset pointers = (constant_for-curried, constant_for-bare, pointer_written, none_curried)
