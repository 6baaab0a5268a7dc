-- Which text lines in print are read from.
use Rattle.std.specs.Prelude.{◌≡◌, ◌++◌, ◌⊎◌, codes}
use Rattle.rhai_base.specs.Value.{Text}

-- the text is these lines, or all of them but the end of the last one
abbrev pub AreLinesOf : Text → Text → Type 0
AreLinesOf text lines = (lines ≡ text) ⊎ (lines ≡ text ++ codes "\n")
