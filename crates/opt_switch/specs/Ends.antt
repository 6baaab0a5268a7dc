-- How far a list of arms is tried: up to the first true one.
use Rattle.std.specs.Prelude.{ℕ, suc, Bool, true, false, List, [], ◌∷◌, Option, Some, None}
use Rattle.theory_meaning.specs.Tree.{Arms}
use Rattle.theory_rewriting.specs.Tables.{arm_of, arm_decides}

abbrev pub ends_with : Option Bool → ℕ → ℕ
ends_with (Some true) n = 1
ends_with (Some false) n = suc n
ends_with None n = suc n

abbrev pub end_of : Arms → List ℕ → ℕ
end_of as' [] = 0
end_of as' (i ∷ is) = ends_with (arm_decides (arm_of as' i)) (end_of as' is)
