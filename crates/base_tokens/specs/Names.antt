-- Names that functions may have, and names that mean something to the language.
use Rattle.std.specs.Prelude.{ℕ, Bool, true, false, not, ◌&&◌, ◌||◌, List, [], ◌∷◌, Option, Some, None, if◌then◌else◌, codes, ◌==◌, nat_lt}
use Rattle.base_text.specs.Text.{Text, same_text}

abbrev pub is_among : Text → List Text → Bool
is_among t [] = false
is_among t (u ∷ us) = same_text u t || is_among t us

abbrev pub are_all : {A : Type 0} → (A → Bool) → List A → Bool
are_all p [] = true
are_all p (x ∷ xs) = p x && are_all p xs

abbrev pub reserved : List Text
reserved = codes "eval" ∷ codes "Fn" ∷ codes "call" ∷ codes "curry" ∷ codes "is_shared" ∷ codes "is_def_var" ∷ codes "is_def_fn" ∷ codes "type_of" ∷ codes "this" ∷ codes "print" ∷ codes "debug" ∷ []

abbrev pub within : ℕ → ℕ → ℕ → Bool
within low high c = not (nat_lt c low) && not (nat_lt high c)

abbrev pub is_letter : ℕ → Bool
is_letter c = within 65 90 c || within 97 122 c

-- a letter, a digit or `_`
abbrev pub is_word : ℕ → Bool
is_word c = is_letter c || within 48 57 c || c == 95

-- any number of `_`, a letter, and then letters, digits and `_`
abbrev pub is_identifier : Text → Bool
is_identifier [] = false
is_identifier (c ∷ cs) = (c == 95 && is_identifier cs) || (is_letter c && are_all is_word cs)

abbrev pub after : Text → Text → Option Text
after [] t = Some t
after (c ∷ cs) [] = None
after (c ∷ cs) (d ∷ ds) = if c == d then after cs ds else None

abbrev pub are_some_words : Option Text → Bool
are_some_words None = false
are_some_words (Some []) = false
are_some_words (Some (c ∷ cs)) = are_all is_word (c ∷ cs)

-- what the names of functions without a name of their own begin with
abbrev pub anonymous : Text
anonymous = codes "anon$"

abbrev pub is_valid_name : Text → Bool
is_valid_name t = not (is_among t reserved) && (is_identifier t || are_some_words (after anonymous t))

-- the symbols of the operators
abbrev pub symbols : List Text
symbols = codes "+" ∷ codes "-" ∷ codes "*" ∷ codes "/" ∷ codes "%" ∷ codes "**" ∷ codes "<<" ∷ codes ">>" ∷ codes "&" ∷ codes "|" ∷ codes "^" ∷ codes "==" ∷ codes "!=" ∷ codes "<" ∷ codes ">" ∷ codes "<=" ∷ codes ">=" ∷ codes ".." ∷ codes "..=" ∷ codes "!" ∷ []

-- functions that ask for what the optimiser may take away
abbrev pub barred : List Text
barred = codes "eval" ∷ codes "is_def_var" ∷ codes "is_def_fn" ∷ []
