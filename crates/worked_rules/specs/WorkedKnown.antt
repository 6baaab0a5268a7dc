-- Worked answers on names that are known.
use Rattle.std.specs.Prelude.{◌≡◌, Bool, true, false, [], ◌∷◌, Some, None, codes, refl}
use Prim.Native.String.{String}
use Rattle.rhai_base.specs.Value.{Value}
use Rattle.theory_meaning.specs.Act.{ScopeEntry, OfName}
use Rattle.theory_meaning.specs.Desugar.{name_kind}
use Rattle.theory_meaning.specs.WorkedForms.{i}
use Rattle.theory_rewriting.specs.Known.{Known, look, shadow, shadow_all, Fits}

abbrev constant : String → Value → Known
constant x v = record { root = OfName (codes x); value = Some v }

abbrev entry : String → Bool → Value → ScopeEntry
entry x c v = record { name = codes x; kind = name_kind c; value = v }

known_constant : look (constant "y" (i 2) ∷ constant "x" (i 1) ∷ []) (codes "x") ≡ Some (i 1)
known_constant = refl

latest_wins : look (constant "x" (i 2) ∷ constant "x" (i 1) ∷ []) (codes "x") ≡ Some (i 2)
latest_wins = refl

nothing_known : look (constant "y" (i 2) ∷ []) (codes "x") ≡ None
nothing_known = refl

shadowed : look (shadow (codes "x") (constant "x" (i 1) ∷ [])) (codes "x") ≡ None
shadowed = refl

others_stay : look (shadow (codes "y") (constant "x" (i 1) ∷ [])) (codes "x") ≡ Some (i 1)
others_stay = refl

all_shadowed : look (shadow_all (codes "x" ∷ codes "y" ∷ []) (constant "x" (i 1) ∷ [])) (codes "x") ≡ None
all_shadowed = refl

-- what is known fits a constant of that value, and a name that is not found
fits_nothing : Fits (i 1) None
fits_nothing = tt

fits_constant : Fits (i 1) (Some (entry "x" true (i 1)))
fits_constant = (refl, refl)

no_other_value : Fits (i 1) (Some (entry "x" true (i 2))) → ⊥
no_other_value h = absurd (let e : i 2 ≡ i 1 = h.1 in cc)

no_variable : Fits (i 1) (Some (entry "x" false (i 1))) → ⊥
no_variable h = absurd (let e : false ≡ true = h.0 in cc)
