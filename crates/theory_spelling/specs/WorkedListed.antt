-- Tables of which not all arms are listed, and cases that are not in order.
use Rattle.std.specs.Prelude.{◌≡◌, ℕ, true, List, [], ◌∷◌, Option, None, Some, pos, codes, refl}
use Rattle.rhai_base.specs.Value.{IntV}
use Rattle.theory_meaning.specs.Tree.{Expr, BoolConstant, Variable, SwitchCase, SwitchRange, SwitchTable, ExclusiveInt, Stmt, Switch, arms}
use Rattle.theory_spelling.specs.Listed.{listed_switch}

abbrev t : Expr
t = BoolConstant true

abbrev a : Expr
a = Variable [] (codes "a")

abbrev b : Expr
b = Variable [] (codes "b")

abbrev c : Expr
c = Variable [] (codes "c")

abbrev case : ℕ → List ℕ → SwitchCase
case n is = record { value = IntV (pos n); arms = is }

abbrev range : ℕ → ℕ → ℕ → SwitchRange
range from to i = record { range = ExclusiveInt (pos from) (pos to); arm = i }

abbrev table : List SwitchCase → List SwitchRange → Option ℕ → SwitchTable
table cs rs d = record { cases = cs; ranges = rs; default = d }

abbrev bare : List (Expr × Expr) → SwitchTable → Stmt
bare as' u = listed_switch a (arms as') u

abbrev left : List (Expr × Expr) → SwitchTable → Stmt
left as' u = Switch a (arms as') u

-- switch a { 1 if c => a, 1 if b => b, 1 => c }, of which a constant c took the first arm
arm_is_gone : bare ((c, a) ∷ (b, b) ∷ (t, c) ∷ []) (table (case 1 (1 ∷ 2 ∷ []) ∷ []) [] None) ≡ left ((b, b) ∷ (t, c) ∷ []) (table (case 1 (0 ∷ 1 ∷ []) ∷ []) [] None)
arm_is_gone = refl

-- switch a { 2 => b, 1 | 3 => c } with another arm at the head of each
cases_in_order : bare ((c, a) ∷ (t, b) ∷ (t, c) ∷ []) (table (case 1 (2 ∷ []) ∷ case 2 (1 ∷ []) ∷ case 3 (2 ∷ []) ∷ []) [] None) ≡ left ((t, b) ∷ (t, c) ∷ []) (table (case 2 (0 ∷ []) ∷ case 1 (1 ∷ []) ∷ case 3 (1 ∷ []) ∷ []) [] None)
cases_in_order = refl

-- what a range or the default names stays
others_stay : bare ((t, a) ∷ (c, a) ∷ (t, b) ∷ (c, c) ∷ (t, c) ∷ []) (table [] (range 2 5 2 ∷ []) (Some 4)) ≡ left ((t, b) ∷ (t, c) ∷ []) (table [] (range 2 5 0 ∷ []) (Some 1))
others_stay = refl

-- two cases of one value stay as they are: the first is taken
same_values : bare ((t, a) ∷ (t, b) ∷ []) (table (case 1 (1 ∷ []) ∷ case 1 (0 ∷ []) ∷ []) [] None) ≡ left ((t, a) ∷ (t, b) ∷ []) (table (case 1 (1 ∷ []) ∷ case 1 (0 ∷ []) ∷ []) [] None)
same_values = refl

-- an arm that isn't there still isn't
missing_arm : bare ((c, a) ∷ (t, b) ∷ []) (table (case 1 (1 ∷ 7 ∷ []) ∷ []) [] None) ≡ left ((t, b) ∷ []) (table (case 1 (0 ∷ 6 ∷ []) ∷ []) [] None)
missing_arm = refl
