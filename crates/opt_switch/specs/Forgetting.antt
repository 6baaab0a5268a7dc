-- Answers of arms that no list names.
use Rattle.std.specs.Prelude.{ℕ, Bool, true, false, not, ◌||◌, ◌&&◌, List, [], ◌∷◌, set}
use Rattle.theory_meaning.specs.Queries.{is_unit}
use Rattle.theory_meaning.specs.Tree.{Expr, UnitConstant, Arms, no_arms, arm}

-- with the places marked that are named
abbrev pub marked : List Bool → List ℕ → List Bool
marked ms [] = ms
marked ms (i ∷ is) = marked (set ms i true) is

abbrev pub answer_left : Bool → Expr → Expr
answer_left true a = a
answer_left false a = UnitConstant

-- the answers that are not marked become unit
abbrev pub forgets : List Bool → Arms → Arms
forgets ms no_arms = no_arms
forgets [] (arm c a as') = arm c a as'
forgets (m ∷ ms) (arm c a as') = arm c (answer_left m a) (forgets ms as')

abbrev pub loses_answer : Bool → Expr → Bool
loses_answer m a = not m && not (is_unit a)

-- whether one of them is not unit yet
abbrev pub loses_answers : List Bool → Arms → Bool
loses_answers ms no_arms = false
loses_answers [] (arm c a as') = false
loses_answers (m ∷ ms) (arm c a as') = loses_answer m a || loses_answers ms as'
