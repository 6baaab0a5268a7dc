-- Paths without names.
use Rattle.std.proofs.Common.{◌≡◌, ◌↔◌, IsTrue, Bool, true, false, List, [], ◌∷◌, map, refl}
use Rattle.base_tokens.specs.declared.ident.Ident.{Ident}
use Rattle.base_tokens.specs.Paths.{is_none}

-- a path is empty where no name stands in it
pub unnamed : (b : Bool) (path : List Ident) → IsTrue b ↔ (path ≡ []) → b ≡ is_none (map (λ i. i.name) path)
unnamed true [] h = refl
unnamed true (i ∷ path) h = absurd (let z : (i ∷ path) ≡ [] = h.0 refl in cc)
unnamed false [] h = h.1 refl
unnamed false (i ∷ path) h = refl
