-- A `switch` over a constant: over which values it is reducible, and what it comes to.
use Rattle.std.specs.Prelude.{◌≡◌, true, false, List, [], ◌∷◌, Option, Some, None, ℕ, pos, codes, refl}
use Rattle.rhai_base.specs.Value.{Value, UnitV, BoolV, CharV, TextV, ArrayV, PointerV, values}
use Rattle.theory_meaning.specs.Act.{WrongKind}
use Rattle.theory_meaning.specs.Run.{WithValue, WithStuck}
use Rattle.theory_meaning.specs.Tree.{Expr, DynamicConstant, BoolConstant, CharConstant, StringConstant, UnitConstant, ArrayOf, Variable, SwitchCase, SwitchRange, SwitchTable, ExclusiveInt, Stmt, If, Switch, ExprStmt, FnCallStmt, NoToken, exprs, arms, stmts}
use Rattle.theory_meaning.specs.WorkedForms.{int, call, ran, ends, asked, i}
use Rattle.theory_rewriting.specs.Reducible.{is_chosen}
use Rattle.theory_rewriting.specs.Rewriting.{then_stmts, by_stmt_rule, in_head}
use Rattle.theory_rewriting.specs.Rules.{statement_of_call, switch_answers, switch_is_if, switch_defaults}
use Rattle.worked_rules.specs.WorkedRewrites.{Row, asks_f}

abbrev t : Expr
t = BoolConstant true

abbrev n : Expr
n = BoolConstant false

abbrev case : Value → List ℕ → SwitchCase
case v is = record { value = v; arms = is }

abbrev range : ℕ → ℕ → ℕ → SwitchRange
range a b j = record { range = ExclusiveInt (pos a) (pos b); arm = j }

abbrev table : List SwitchCase → List SwitchRange → Option ℕ → SwitchTable
table cs rs d = record { cases = cs; ranges = rs; default = d }

abbrev on : Expr → List (Expr × Expr) → SwitchTable → List Stmt
on e as' cs = Switch e (arms as') cs ∷ []

-- g()
abbrev g : Stmt
g = FnCallStmt (record { namespace = []; name = codes "g"; captures = false; token = NoToken }) (exprs [])

-- ---- reducible

-- one case of a value, and a table without any
abbrev one_case : Value → SwitchTable
one_case v = table (case v (0 ∷ []) ∷ []) [] None

abbrev nothing : SwitchTable
nothing = table [] [] None

each_constant : is_chosen (int 1) (one_case (i 1)) ∷ is_chosen t (one_case (BoolV true)) ∷ is_chosen (CharConstant 97) (one_case (CharV 97)) ∷ is_chosen (StringConstant (codes "a")) (one_case (TextV (codes "a"))) ∷ is_chosen UnitConstant (one_case UnitV) ∷ is_chosen (DynamicConstant (ArrayV (values (i 1 ∷ [])))) (one_case (ArrayV (values (i 1 ∷ [])))) ∷ []
    ≡ true ∷ true ∷ true ∷ true ∷ true ∷ true ∷ []
each_constant = refl

-- over 1 with a case of 2, or with none
no_case : is_chosen (int 1) (one_case (i 2)) ∷ is_chosen UnitConstant nothing ∷ [] ≡ true ∷ true ∷ []
no_case = refl

-- over 1 where a range holds it, and where a list has two arms
decided_by_more : is_chosen (int 1) (table [] (range 0 3 0 ∷ []) None) ∷ is_chosen (int 1) (table (case (i 1) (0 ∷ 1 ∷ []) ∷ []) [] None) ∷ [] ≡ false ∷ false ∷ []
decided_by_more = refl

-- a pointer isn't hashable, also in an array; a name and an array of constants are no constants of one piece
others : is_chosen (DynamicConstant (PointerV (codes "f") (values []))) nothing ∷ is_chosen (DynamicConstant (ArrayV (values (PointerV (codes "f") (values []) ∷ [])))) nothing ∷ is_chosen (Variable [] (codes "x")) nothing ∷ is_chosen (ArrayOf (exprs (int 1 ∷ []))) nothing ∷ [] ≡ false ∷ false ∷ false ∷ false ∷ []
others = refl

-- ---- rewritten

-- switch 2 { 1 => f(), 2 => g() }
over_an_integer : Row (on (int 2) ((t, call "f" []) ∷ (t, call "g" []) ∷ []) (table (case (i 1) (0 ∷ []) ∷ case (i 2) (1 ∷ []) ∷ []) [] None)) (g ∷ []) (ends (WithValue UnitV) (asked "g" [] ∷ []))
unfolding ran
over_an_integer = (then_stmts (in_head (by_stmt_rule (switch_answers (i 2) 1 [] refl refl refl refl refl))) (in_head (by_stmt_rule statement_of_call)), refl, refl)

-- switch "a" { "a" if f() => 1, _ => 2 }, where f() is no bool
over_a_text : Row (on (StringConstant (codes "a")) ((call "f" [], int 1) ∷ (t, int 2) ∷ []) (table (case (TextV (codes "a")) (0 ∷ []) ∷ []) [] (Some 1))) (If (call "f" []) (stmts (ExprStmt (int 1) ∷ [])) (stmts (ExprStmt (int 2) ∷ [])) ∷ []) (ends (WithStuck WrongKind) asks_f)
unfolding ran
over_a_text = (in_head (by_stmt_rule (switch_is_if (TextV (codes "a")) 0 refl refl refl refl (λ h. absurd cc))), refl, refl)

-- switch true { _ => 3 }
over_a_bool : Row (on t ((t, int 3) ∷ []) (table [] [] (Some 0))) (ExprStmt (int 3) ∷ []) (ends (WithValue (i 3)) [])
unfolding ran
over_a_bool = (in_head (by_stmt_rule (switch_defaults (BoolV true) refl refl refl)), refl, refl)

-- switch () { () => 1 }
over_unit : Row (on UnitConstant ((t, int 1) ∷ []) (table (case UnitV (0 ∷ []) ∷ []) [] None)) (ExprStmt (int 1) ∷ []) (ends (WithValue (i 1)) [])
unfolding ran
over_unit = (in_head (by_stmt_rule (switch_answers UnitV 0 [] refl refl refl refl refl)), refl, refl)

-- switch 7 { 5..8 => 1, _ => 2 }
in_a_range : Row (on (int 7) ((t, int 1) ∷ (t, int 2) ∷ []) (table [] (range 5 8 0 ∷ []) (Some 1))) (ExprStmt (int 1) ∷ []) (ends (WithValue (i 1)) [])
unfolding ran
in_a_range = (in_head (by_stmt_rule (switch_answers (i 7) 0 [] refl refl refl refl refl)), refl, refl)

-- switch 6 { 6 if false => 1, 5..8 => 2, _ => 3 }: the list of 6 hides the range
past_a_hidden_range : Row (on (int 6) ((n, int 1) ∷ (t, int 2) ∷ (t, int 3) ∷ []) (table (case (i 6) (0 ∷ []) ∷ []) (range 5 8 1 ∷ []) (Some 2))) (ExprStmt (int 3) ∷ []) (ends (WithValue (i 3)) [])
unfolding ran
past_a_hidden_range = (in_head (by_stmt_rule (switch_defaults (i 6) refl refl refl)), refl, refl)
