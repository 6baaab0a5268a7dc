-- Worked runs of small scripts, computed from the definitions alone: constants, operators, blocks and lists.
use Rattle.std.specs.Prelude.{◌≡◌, true, false, [], ◌∷◌, codes, refl}
use Rattle.rhai_base.specs.Value.{UnitV, BoolV, CharV, TextV, ArrayV, values}
use Rattle.rhai_base.specs.Operators.{Plus, Not}
use Rattle.theory_meaning.specs.Act.{WrongKind}
use Rattle.theory_meaning.specs.Run.{WithValue, WithThrown, WithStuck}
use Rattle.theory_meaning.specs.Tree.{OfOperator, BoolConstant, DynamicConstant, UnitConstant, CharConstant, StringConstant, ArrayOf, BlockExpr, Block, ExprStmt, FnCallStmt, exprs, stmts}
use Rattle.theory_meaning.specs.WorkedForms.{int, op, call, nothing_set, joining, overriding, ran, ends, asked, i}

-- no statements
no_statements : ran nothing_set joining [] ≡ ends (WithValue UnitV) []
unfolding ran
no_statements = refl

-- 42; {}
empty_block_last : ran nothing_set joining (ExprStmt (int 42) ∷ Block (stmts []) ∷ []) ≡ ends (WithValue UnitV) []
unfolding ran
empty_block_last = refl

-- 9223372036854775807 + 1, and one less
overflow : ran nothing_set joining (ExprStmt (op Plus (int 9223372036854775807 ∷ int 1 ∷ [])) ∷ []) ≡ ends (WithThrown (TextV (codes "arithmetic"))) []
unfolding ran
overflow = refl

no_overflow : ran nothing_set joining (ExprStmt (op Plus (int 9223372036854775806 ∷ int 1 ∷ [])) ∷ []) ≡ ends (WithValue (i 9223372036854775807)) []
unfolding ran
no_overflow = refl

-- !true
negation : ran nothing_set joining (ExprStmt (op Not (BoolConstant true ∷ [])) ∷ []) ≡ ends (WithValue (BoolV false)) []
unfolding ran
negation = refl

-- 1 + 2: a call as a statement, where the host joins texts, and with fast operators
overridden_statement : ran (overriding (codes "+") (codes "i64" ∷ codes "i64" ∷ []) false) joining (FnCallStmt (record { namespace = []; name = codes "+"; captures = false; token = OfOperator Plus }) (exprs (int 1 ∷ int 2 ∷ [])) ∷ []) ≡ ends (WithValue (TextV (codes "12"))) (asked "+" (i 1 ∷ i 2 ∷ []) ∷ [])
unfolding ran
overridden_statement = refl

sum_fast : ran (overriding (codes "+") (codes "i64" ∷ codes "i64" ∷ []) true) joining (ExprStmt (op Plus (int 1 ∷ int 2 ∷ [])) ∷ []) ≡ ends (WithValue (i 3)) []
unfolding ran
sum_fast = refl

-- a constant of its own for unit is stuck when it is reached
no_meaning : ran nothing_set joining (ExprStmt (ArrayOf (exprs (call "f" [] ∷ DynamicConstant UnitV ∷ []))) ∷ []) ≡ ends (WithStuck WrongKind) (asked "f" [] ∷ [])
unfolding ran
no_meaning = refl

-- [(), true, 1, 'A', "t", a value]
all_constants : ran nothing_set joining (ExprStmt (ArrayOf (exprs (UnitConstant ∷ BoolConstant true ∷ int 1 ∷ CharConstant 65 ∷ StringConstant (codes "t") ∷ DynamicConstant (ArrayV (values [])) ∷ []))) ∷ []) ≡ ends (WithValue (ArrayV (values (UnitV ∷ BoolV true ∷ i 1 ∷ CharV 65 ∷ TextV (codes "t") ∷ ArrayV (values []) ∷ [])))) []
unfolding ran
all_constants = refl

-- { { f(); 7 } }; the value of a block is that of its last statement
blocks : ran nothing_set joining (ExprStmt (BlockExpr (stmts (Block (stmts (ExprStmt (call "f" (UnitConstant ∷ [])) ∷ ExprStmt (int 7) ∷ [])) ∷ []))) ∷ []) ≡ ends (WithValue (i 7)) (asked "f" (UnitV ∷ []) ∷ [])
unfolding ran
blocks = refl
