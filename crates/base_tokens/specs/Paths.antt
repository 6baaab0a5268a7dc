-- Paths of names.
use Rattle.std.specs.Prelude.{Bool, true, false, List, [], ◌∷◌, ◌++◌, codes, flat_map}
use Rattle.base_tokens.specs.declared.ident.Ident.{Ident}
use Rattle.base_text.specs.Text.{Text}

-- no name
abbrev pub is_none : {A : Type 0} → List A → Bool
is_none [] = true
is_none (x ∷ xs) = false

-- a name after another one
abbrev pub next_name : Ident → Text
next_name n = codes "::" ++ n.name

abbrev pub names_joined : List Ident → Text
names_joined [] = []
names_joined (n ∷ ns) = n.name ++ flat_map next_name ns
