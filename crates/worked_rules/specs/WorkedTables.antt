-- For conditions of the rules of `switch`: two scripts that the rule without it would take for one, and what each does.
use Rattle.std.specs.Prelude.{◌≡◌, ℕ, true, false, List, [], ◌∷◌, Option, Some, None, pos, codes, refl}
use Rattle.rhai_base.specs.Value.{UnitV, PointerV, values}
use Rattle.theory_meaning.specs.Act.{WrongKind}
use Rattle.theory_meaning.specs.Faults.{NoOperands, finding}
use Rattle.theory_meaning.specs.Run.{WithValue, WithStuck}
use Rattle.theory_meaning.specs.Tree.{Expr, BoolConstant, UnitConstant, BlockExpr, And, SwitchCase, SwitchRange, SwitchTable, ExclusiveInt, Stmt, If, Switch, ExprStmt, exprs, arms, no_stmts, stmts}
use Rattle.theory_meaning.specs.Walk.{outermost, over_stmt}
use Rattle.theory_meaning.specs.WorkedForms.{int, call, ran, ends, i}
use Rattle.worked_rules.specs.WorkedConditions.{Differ}
use Rattle.worked_rules.specs.WorkedRewrites.{asks_f}

abbrev t : Expr
t = BoolConstant true

abbrev n : Expr
n = BoolConstant false

abbrev ask : Expr
ask = call "f" []

-- { e }, which is no constant
abbrev braced : Expr → Expr
braced e = BlockExpr (stmts (ExprStmt e ∷ []))

abbrev show : Expr → List Stmt
show e = ExprStmt e ∷ []

-- a `switch` without ranges
abbrev on : ℕ → List ℕ → SwitchCase
on v is = record { value = i v; arms = is }

abbrev table : List SwitchCase → Option ℕ → SwitchTable
table cs d = record { cases = cs; ranges = []; default = d }

abbrev among : Expr → List (Expr × Expr) → List SwitchCase → Option ℕ → List Stmt
among e as' cs d = Switch e (arms as') (table cs d) ∷ []

-- ---- one arm is left, or none

-- the subject is a constant: switch f() { 1 => 5, _ => 2 }, and what it is over 1 and over 2
subject_is_asked : Differ (among ask ((t, int 5) ∷ (t, int 2) ∷ []) (on 1 (0 ∷ []) ∷ []) (Some 1)) (ends (WithValue (i 2)) asks_f) (show (int 5)) (ends (WithValue (i 5)) [])
unfolding ran
subject_is_asked = (refl, refl)

subject_of_if_is_asked : Differ (among ask ((braced t, int 5) ∷ []) (on 1 (0 ∷ []) ∷ []) None) (ends (WithValue UnitV) asks_f) (If (braced t) (stmts (show (int 5))) no_stmts ∷ []) (ends (WithValue (i 5)) [])
unfolding ran
subject_of_if_is_asked = (refl, refl)

subject_of_default_is_asked : Differ (among ask ((t, int 5) ∷ (t, int 2) ∷ []) (on 1 (0 ∷ []) ∷ []) (Some 1)) (ends (WithValue (i 2)) asks_f) (show (int 2)) (ends (WithValue (i 2)) [])
unfolding ran
subject_of_default_is_asked = (refl, refl)

-- the first arm that is left is true: switch 1 { 1 if {true} => 3, 1 => 5 }, and the second answer
earlier_arm_answers : Differ (among (int 1) ((braced t, int 3) ∷ (t, int 5) ∷ []) (on 1 (0 ∷ 1 ∷ []) ∷ []) None) (ends (WithValue (i 3)) []) (show (int 5)) (ends (WithValue (i 5)) [])
unfolding ran
earlier_arm_answers = (refl, refl)

-- and so is it known: switch 1 { 1 if {false} => 5 }, and its answer
arm_may_be_false : Differ (among (int 1) ((braced n, int 5) ∷ []) (on 1 (0 ∷ []) ∷ []) None) (ends (WithValue UnitV) []) (show (int 5)) (ends (WithValue (i 5)) [])
unfolding ran
arm_may_be_false = (refl, refl)

-- an `if` has one arm: switch 1 { 1 if {false} => 3, 1 => 5 }, and if {false} { 3 }
second_arm_answers : Differ (among (int 1) ((braced n, int 3) ∷ (t, int 5) ∷ []) (on 1 (0 ∷ 1 ∷ []) ∷ []) None) (ends (WithValue (i 5)) []) (If (braced n) (stmts (show (int 3))) no_stmts ∷ []) (ends (WithValue UnitV) [])
unfolding ran
second_arm_answers = (refl, refl)

-- that of the subject's value: switch 2 { 1 if {true} => 5 }, and if {true} { 5 }
arm_of_another_value : Differ (among (int 2) ((braced t, int 5) ∷ []) (on 1 (0 ∷ []) ∷ []) None) (ends (WithValue UnitV) []) (If (braced t) (stmts (show (int 5))) no_stmts ∷ []) (ends (WithValue (i 5)) [])
unfolding ran
arm_of_another_value = (refl, refl)

-- the default answers where no arm is left: switch 1 { 1 => 5, _ => 2 }, and 2
arm_before_default : Differ (among (int 1) ((t, int 5) ∷ (t, int 2) ∷ []) (on 1 (0 ∷ []) ∷ []) (Some 1)) (ends (WithValue (i 5)) []) (show (int 2)) (ends (WithValue (i 2)) [])
unfolding ran
arm_before_default = (refl, refl)

-- ---- the table of a constant

abbrev five_six : List (Expr × Expr)
five_six = (t, int 5) ∷ (t, int 6) ∷ []

-- the subject is one: switch {2} { 1 => 5, 2 => 6 } with the list of 1 alone
other_subject : Differ (among (braced (int 2)) five_six (on 1 (0 ∷ []) ∷ on 2 (1 ∷ []) ∷ []) None) (ends (WithValue (i 6)) []) (among (braced (int 2)) five_six (on 1 (0 ∷ []) ∷ []) None) (ends (WithValue UnitV) [])
unfolding ran
other_subject = (refl, refl)

-- the arms that are left for it stay: switch 1 { 1 => 5, 2 => 6 } with the list of 2 alone
arms_for_it_stay : Differ (among (int 1) five_six (on 1 (0 ∷ []) ∷ on 2 (1 ∷ []) ∷ []) None) (ends (WithValue (i 5)) []) (among (int 1) five_six (on 2 (1 ∷ []) ∷ []) None) (ends (WithValue UnitV) [])
unfolding ran
arms_for_it_stay = (refl, refl)

-- and so does the default: switch 2 { 1 => 5, _ => 6 } without it
default_stays : Differ (among (int 2) five_six (on 1 (0 ∷ []) ∷ []) (Some 1)) (ends (WithValue (i 6)) []) (among (int 2) five_six (on 1 (0 ∷ []) ∷ []) None) (ends (WithValue UnitV) [])
unfolding ran
default_stays = (refl, refl)

-- the new table fits where the old one did: a list for a pointer in the place of that of 2
still_a_table : Differ (among (int 1) five_six (on 1 (0 ∷ []) ∷ on 2 (1 ∷ []) ∷ []) None) (ends (WithValue (i 5)) []) (among (int 1) five_six (on 1 (0 ∷ []) ∷ record { value = PointerV (codes "f") (values []); arms = [] } ∷ []) None) (ends (WithStuck WrongKind) [])
unfolding ran
still_a_table = (refl, refl)

-- it lists no other arms, which were no nodes and may be ill-formed: the list of 2 names the arm that none named
abbrev ill_arm : List SwitchCase → Stmt
ill_arm cs = Switch (int 1) (arms ((t, int 5) ∷ (t, And (exprs [])) ∷ [])) (table cs None)

no_new_nodes : (over_stmt finding (ill_arm (on 1 (0 ∷ 0 ∷ []) ∷ on 2 (0 ∷ []) ∷ [])) outermost ≡ None) × (over_stmt finding (ill_arm (on 1 (0 ∷ []) ∷ on 2 (1 ∷ []) ∷ [])) outermost ≡ Some NoOperands)
no_new_nodes = (refl, refl)

-- ---- the table of any subject

-- a list with an arm stays: switch {1} { 1 => 5 }, and switch {1} {}
listed_arm_stays : Differ (among (braced (int 1)) ((t, int 5) ∷ []) (on 1 (0 ∷ []) ∷ []) None) (ends (WithValue (i 5)) []) (among (braced (int 1)) ((t, int 5) ∷ []) [] None) (ends (WithValue UnitV) [])
unfolding ran
listed_arm_stays = (refl, refl)

-- ranges are tried in order until one answers, so what stands after a true one in another range stays:
-- switch 7 { 0..5 => 1, 3..10 => 2 }, and without the second
abbrev ranges : List SwitchRange → SwitchTable
ranges rs = record { cases = []; ranges = rs; default = None }

abbrev from_to : ℕ → ℕ → ℕ → SwitchRange
from_to a b j = record { range = ExclusiveInt (pos a) (pos b); arm = j }

later_range_stays : Differ (Switch (int 7) (arms ((t, int 1) ∷ (t, int 2) ∷ [])) (ranges (from_to 0 5 0 ∷ from_to 3 10 1 ∷ [])) ∷ []) (ends (WithValue (i 2)) []) (Switch (int 7) (arms ((t, int 1) ∷ (t, int 2) ∷ [])) (ranges (from_to 0 5 0 ∷ [])) ∷ []) (ends (WithValue UnitV) [])
unfolding ran
later_range_stays = (refl, refl)

-- an empty case list stays where a range stands: switch 1 { 1 if false => 1, 0..5 => 2 } is unit
empty_list_hides_ranges : Differ (Switch (int 1) (arms ((n, int 1) ∷ (t, int 2) ∷ [])) (record { cases = on 1 [] ∷ []; ranges = from_to 0 5 1 ∷ []; default = None }) ∷ []) (ends (WithValue UnitV) []) (Switch (int 1) (arms ((n, int 1) ∷ (t, int 2) ∷ [])) (ranges (from_to 0 5 1 ∷ [])) ∷ []) (ends (WithValue (i 2)) [])
unfolding ran
empty_list_hides_ranges = (refl, refl)

-- and where a later list of its value stands
empty_list_hides_list : Differ (Switch (int 1) (arms ((t, int 1) ∷ [])) (table (on 1 [] ∷ on 1 (0 ∷ []) ∷ []) None) ∷ []) (ends (WithValue UnitV) []) (Switch (int 1) (arms ((t, int 1) ∷ [])) (table (on 1 (0 ∷ []) ∷ []) None) ∷ []) (ends (WithValue (i 1)) [])
unfolding ran
empty_list_hides_list = (refl, refl)

-- the answer of an arm that a list names stays: switch 1 { 1 => 5 }, and switch 1 { 1 => () }
listed_answer : Differ (Switch (int 1) (arms ((t, int 5) ∷ [])) (table (on 1 (0 ∷ []) ∷ []) None) ∷ []) (ends (WithValue (i 5)) []) (Switch (int 1) (arms ((t, UnitConstant) ∷ [])) (table (on 1 (0 ∷ []) ∷ []) None) ∷ []) (ends (WithValue UnitV) [])
unfolding ran
listed_answer = (refl, refl)
