-- Texts, as their bytes.
use Rattle.std.specs.Prelude.{ℕ, Bool, List, bytes_eq}

abbrev pub Text : Type 0
Text = List ℕ

abbrev pub same_text : Text → Text → Bool
same_text = bytes_eq
