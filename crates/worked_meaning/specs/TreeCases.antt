-- Answers for single cases of the definitions: queries, faults, plain scripts, the order of the walk, paths.
use Rattle.std.specs.Prelude.{◌≡◌, ℕ, Bool, true, false, List, [], ◌∷◌, ◌++◌, Option, Some, None, pos, codes, refl, option_map, map, length}
use Rattle.rhai_base.specs.Value.{BoolV}
use Rattle.rhai_base.specs.Operators.{Plus, Multiply}
use Rattle.base_tokens.specs.declared.token.Token.TheVariants as token
use Rattle.base_tokens.specs.Refusals.{number_of_fault}
use Rattle.theory_meaning.specs.Faults.{script_fault}
use Rattle.theory_meaning.specs.Paths.{stmts_paths}
use Rattle.theory_meaning.specs.Plain.{is_plain}
use Rattle.theory_meaning.specs.Queries.{is_pure_expr, is_pure, is_internally_pure, is_block_dependent, is_valid_postfix, constant_args}
use Rattle.theory_meaning.specs.Tree.{Expr, DynamicConstant, BoolConstant, IntegerConstant, StringConstant, UnitConstant, InterpolatedString, MapOf, BlockExpr, And, Or, Coalesce, ExclusiveInt, Stmt, Switch, While, Do, For, Assignment, FnCallStmt, Block, TryCatch, ExprStmt, BreakLoop, Return, Import, Export, no_expr, an_expr, arms, pairs, no_stmts, no_exprs, exprs, stmts}
use Rattle.theory_meaning.specs.Walk.{Node, OfExpr, over_stmts, arms_at, listed}
use Rattle.worked_meaning.specs.Terms.{i, int, var, op, callee, fn, let', const', array, at, dot, prop, meth}

-- whether all arguments are constants
constant_arguments : constant_args no_exprs ∷ constant_args (exprs (int 1 ∷ UnitConstant ∷ [])) ∷ constant_args (exprs (int 1 ∷ var "x" ∷ [])) ∷ [] ≡ true ∷ true ∷ false ∷ []
constant_arguments = refl

-- `do {} while false` is pure; `until false`, an impure body and a guard of another form are not
do_once : is_pure (Do false false (BoolConstant false) no_stmts) ∷ is_pure (Do true false (BoolConstant false) no_stmts) ∷ is_pure (Do false false (BoolConstant false) (stmts (ExprStmt (fn "f" []) ∷ []))) ∷ is_pure (While (DynamicConstant (BoolV false)) no_stmts) ∷ [] ≡ true ∷ false ∷ false ∷ false ∷ []
do_once = refl

-- pure parts in nodes that are no constants: `${{ 1 }}`, #{a: { 1 }}, { 1 } && true, { 1 } || true, { 1 } ?? 2, and with f() in each
abbrev braces : Expr → Expr
braces e = BlockExpr (stmts (ExprStmt e ∷ []))

abbrev holding : Expr → List Expr
holding e = InterpolatedString (exprs (braces e ∷ [])) ∷ MapOf (pairs ((codes "a", braces e) ∷ [])) (codes "a" ∷ []) ∷ And (exprs (braces e ∷ BoolConstant true ∷ [])) ∷ Or (exprs (braces e ∷ BoolConstant true ∷ [])) ∷ Coalesce (exprs (braces e ∷ int 2 ∷ [])) ∷ []

pure_kinds : map (λ e. is_pure_expr e) (holding (int 1)) ∷ map (λ e. is_pure_expr e) (holding (fn "f" [])) ∷ [] ≡ (true ∷ true ∷ true ∷ true ∷ true ∷ []) ∷ (false ∷ false ∷ false ∷ false ∷ false ∷ []) ∷ []
pure_kinds = refl

-- a `switch` of which an index past its arms stands in a list, or is the default
abbrev past_the_table : List ℕ → ℕ → Bool
past_the_table ns d = is_pure (Switch (int 1) (arms ((BoolConstant true, int 2) ∷ [])) (record { cases = record { value = i 1; arms = ns } ∷ []; ranges = []; default = Some d }))

past_arms : past_the_table (5 ∷ []) 0 ∷ past_the_table (0 ∷ []) 5 ∷ [] ≡ true ∷ false ∷ []
past_arms = refl

-- export x; import f(), and import "m"
dependent_or_pure_inside : is_block_dependent (Export (codes "x") []) ∷ is_internally_pure (Import (fn "f" []) []) ∷ is_internally_pure (Import (StringConstant (codes "m")) []) ∷ [] ≡ true ∷ false ∷ true ∷ []
dependent_or_pure_inside = refl

-- the tokens that go into any expression, and those that follow a name alone
abbrev followers : Expr → List Bool
followers e = map (λ t. is_valid_postfix t e) (token.Period ∷ token.Elvis ∷ token.LeftBracket ∷ token.QuestionBracket ∷ token.LeftParen ∷ token.Unit ∷ token.Bang ∷ token.DoubleColon ∷ [])

postfixes : followers (int 1) ∷ followers (prop "p") ∷ followers (var "x") ∷ []
    ≡ (true ∷ true ∷ true ∷ true ∷ false ∷ false ∷ false ∷ false ∷ []) ∷ (true ∷ true ∷ true ∷ true ∷ true ∷ false ∷ false ∷ false ∷ []) ∷ (true ∷ true ∷ true ∷ true ∷ true ∷ true ∷ true ∷ true ∷ []) ∷ []
postfixes = refl

-- the number of the first fault
abbrev fault : List Stmt → Option ℕ
fault ss = option_map number_of_fault (script_fault (record { statements = stmts ss; functions = [] }))

-- braces that begin with `break`, and then the value
abbrev breaks_then : Expr → Expr
breaks_then e = BlockExpr (stmts (BreakLoop true false no_expr ∷ ExprStmt e ∷ []))

-- a guard and an iterable are no bodies of their loop
no_bodies : fault (For (codes "x") None (breaks_then (array [])) no_stmts ∷ []) ∷ fault (Do false false (breaks_then (BoolConstant true)) no_stmts ∷ []) ∷ fault (Do false false (BoolConstant true) (stmts (BreakLoop true false no_expr ∷ [])) ∷ []) ∷ fault (For (codes "x") None (array []) (stmts (BreakLoop true false no_expr ∷ [])) ∷ []) ∷ [] ≡ Some 24 ∷ Some 24 ∷ None ∷ None ∷ []
no_bodies = refl

-- a `switch` whose range names an arm, with a default
abbrev ranged : ℕ → Option ℕ → Option ℕ
ranged n d = fault (Switch (int 1) (arms ((BoolConstant true, int 1) ∷ (BoolConstant true, int 2) ∷ [])) (record { cases = []; ranges = record { range = ExclusiveInt (pos 0) (pos 1); arm = n } ∷ []; default = d }) ∷ [])

range_table : ranged 2 None ∷ ranged 1 (Some 1) ∷ ranged 0 (Some 1) ∷ [] ≡ Some 31 ∷ Some 31 ∷ None ∷ []
range_table = refl

-- a function's body counts
plain_bodies : is_plain (record { statements = no_stmts; functions = record { name = codes "g"; this_type = None; params = []; body = stmts (FnCallStmt (callee "eval") no_exprs ∷ []) } ∷ [] }) ≡ false
plain_bodies = refl

-- the integers of a tree in the order of the walk
abbrev own : Node → List Expr → List Expr
own (OfExpr (IntegerConstant n)) es = IntegerConstant n ∷ es
own _ es = es

abbrev integers : List Stmt → List Expr
integers ss = over_stmts (record { none = []; both = λ a b. a ++ b; node = own; within = λ s a. a; arms = λ t as'. arms_at [] (λ a b. a ++ b) as' (listed t) }) (stmts ss)

walk_order : integers (TryCatch (var "x") (stmts (ExprStmt (int 1) ∷ [])) (stmts (ExprStmt (int 2) ∷ [])) ∷ While (int 3) (stmts (ExprStmt (int 4) ∷ [])) ∷ Do true false (int 5) (stmts (ExprStmt (int 6) ∷ [])) ∷ For (codes "x") None (int 7) (stmts (ExprStmt (int 8) ∷ [])) ∷ Assignment None (at (int 9) (int 10)) (int 11) ∷ ExprStmt (dot (int 12) (meth "f" (int 13 ∷ []))) ∷ ExprStmt (MapOf (pairs ((codes "b", int 14) ∷ (codes "a", int 15) ∷ [])) []) ∷ Return true false (an_expr (int 16)) ∷ Import (int 17) [] ∷ Switch (int 18) (arms ((int 24, int 25) ∷ (int 21, int 22) ∷ (int 19, int 20) ∷ (int 0, int 0) ∷ [])) (record { cases = record { value = i 1; arms = 2 ∷ 9 ∷ [] } ∷ []; ranges = record { range = ExclusiveInt (pos 0) (pos 1); arm = 1 } ∷ []; default = Some 0 }) ∷ [])
    ≡ map (λ n. int n) (1 ∷ 2 ∷ 3 ∷ 4 ∷ 5 ∷ 6 ∷ 7 ∷ 8 ∷ 9 ∷ 10 ∷ 11 ∷ 12 ∷ 13 ∷ 14 ∷ 15 ∷ 16 ∷ 17 ∷ 18 ∷ 19 ∷ 20 ∷ 21 ∷ 22 ∷ 24 ∷ 25 ∷ [])
walk_order = refl

-- const A = 40 + 2; let b = 123; const B = b * A; const C = 999; b = A + C; { const Z = 0; print(Z); }, and how deep its nodes stand
abbrev declarations : List Stmt
declarations = const' "A" (op Plus (int 40 ∷ int 2 ∷ [])) ∷ let' "b" (int 123) ∷ const' "B" (op Multiply (var "b" ∷ var "A" ∷ [])) ∷ const' "C" (int 999) ∷ Assignment None (var "b") (op Plus (var "A" ∷ var "C" ∷ [])) ∷ Block (stmts (const' "Z" (int 0) ∷ FnCallStmt (callee "print") (exprs (var "Z" ∷ [])) ∷ [])) ∷ []

depths : map length (stmts_paths (stmts declarations)) ≡ 1 ∷ 2 ∷ 3 ∷ 3 ∷ 1 ∷ 2 ∷ 1 ∷ 2 ∷ 3 ∷ 3 ∷ 1 ∷ 2 ∷ 1 ∷ 2 ∷ 2 ∷ 3 ∷ 3 ∷ 1 ∷ 2 ∷ 3 ∷ 2 ∷ 3 ∷ []
depths = refl
