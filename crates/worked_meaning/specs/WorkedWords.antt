-- Rows of the lists of names, computed from them alone.
use Rattle.std.specs.Prelude.{◌≡◌, true, false, [], ◌∷◌, map, length, codes, refl}
use Rattle.base_tokens.specs.Names.{is_among, barred, reserved, is_valid_name}

-- what asks for a name of the script that may be gone
asking_for_names : map (λ f. is_among f barred) (codes "eval" ∷ codes "is_def_var" ∷ codes "is_def_fn" ∷ codes "print" ∷ codes "call" ∷ []) ≡ true ∷ true ∷ true ∷ false ∷ false ∷ []
asking_for_names = refl

three_ask : length barred ≡ 3
three_ask = refl

-- no function of a script has one of their names
are_reserved : map (λ f. is_among f reserved) barred ≡ true ∷ true ∷ true ∷ []
are_reserved = refl

valid_names : map is_valid_name (codes "f" ∷ codes "_a1" ∷ codes "anon$1" ∷ codes "anon$" ∷ codes "1a" ∷ codes "print" ∷ []) ≡ true ∷ true ∷ true ∷ false ∷ false ∷ false ∷ []
valid_names = refl
