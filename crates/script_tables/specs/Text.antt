-- Doc texts of scripts.
use Rattle.std.specs.Prelude.{[], ◌∷◌, ◌++◌, Option, Some, None}
use Rattle.rhai_base.specs.Value.{Text}

abbrev pub text_or_empty : Option Text → Text
text_or_empty None = []
text_or_empty (Some t) = t

-- both, with a newline between them, or the one that is not empty
abbrev pub join_docs : Text → Text → Text
join_docs [] b = b
join_docs (c ∷ cs) [] = c ∷ cs
join_docs (c ∷ cs) (d ∷ ds) = ((c ∷ cs) ++ 10 ∷ []) ++ d ∷ ds
