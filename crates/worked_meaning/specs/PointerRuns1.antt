-- Runs with pointers that hold values, of scripts made at random, as an evaluator of its own computed them.
use Rattle.std.specs.Prelude.{◌≡◌, true, false, [], ◌∷◌, None, Some, pos, negsuc, codes, refl}
use Rattle.rhai_base.specs.Value.{UnitV, BoolV, IntV, CharV, TextV, ArrayV, MapV, PointerV, RangeV, RangeInclusiveV, values, field, no_fields}
use Rattle.rhai_base.specs.Operators.{Plus, Minus, Multiply, Divide, Modulo, ShiftLeft, BitAnd, BitOr, BitXor, EqualTo, NotEqualTo, Less, Greater, LessOrEqual, GreaterOrEqual, Not}
use Rattle.theory_meaning.specs.Act.{Answers, Unbound, WriteToConstant, NoPlace, UnboundThis, AnswersThrow}
use Rattle.theory_meaning.specs.Run.{AtStatements, WithValue, WithThrown, WithStuck, WithoutTurns}
use Rattle.theory_meaning.specs.Tree.{OfOperator, NoToken, ExclusiveInt, DynamicConstant, BoolConstant, IntegerConstant, CharConstant, StringConstant, UnitConstant, ArrayOf, MapOf, Variable, ThisPtr, MethodCall, BlockExpr, FnCall, Dot, Index, And, Coalesce, pair, no_pairs, no_expr, an_expr, arm, no_arms, Switch, While, Do, For, Var, Assignment, TryCatch, ExprStmt, BreakLoop, Return, exprs, stmts, InclusiveInt, InterpolatedString, Noop, If, FnCallStmt, Block}
use Rattle.worked_meaning.specs.EvaluatedForms.{callee, flags, property, table, case, function, entry, asked, binding, override, renamed, engine, ends, named, host, ran}

-- const c = <#{}>
-- let m = c
-- let m = 63
-- let c = <"b">
-- let m = m
-- let y = ()
-- text(g(y, ()))
-- m = +(m, Index!(false, m))
-- fn array.g() { let c = <Fn(g)> }
-- fn h() {}
full_9000049 : ran (engine (binding (codes "a") (MapV (field (codes "a") (BoolV false) (field (codes "b") (TextV (codes "ab")) no_fields))) ∷ []) ([]) ([]) true) (host (named (codes "h") (AnswersThrow UnitV ∷ Answers (IntV (pos 64)) None ∷ Answers (MapV (field (codes "a") (IntV (pos 2)) (field (codes "k") (CharV 98) no_fields))) (Some (TextV (codes "b"))) ∷ Answers (IntV (pos 0)) None ∷ []) ∷ []) (Answers (PointerV (codes "g") (values ((CharV 97) ∷ []))) None ∷ AnswersThrow UnitV ∷ Answers (IntV (negsuc 0)) None ∷ []) (binding (codes "ns::a") (IntV (pos 5)) ∷ binding (codes "ns::x") (BoolV false) ∷ [])) ((function (Some (codes "array")) (codes "g") ([]) ((Var false false (codes "c") (DynamicConstant (PointerV (codes "g") (values ([]))))) ∷ [])) ∷ (function None (codes "h") ([]) ([])) ∷ []) ((Var true false (codes "c") (DynamicConstant (MapV no_fields))) ∷ (Var false false (codes "m") (Variable ([]) (codes "c"))) ∷ (Var false false (codes "m") (IntegerConstant (pos 63))) ∷ (Var false false (codes "c") (DynamicConstant (TextV (codes "b")))) ∷ (Var false false (codes "m") (Variable ([]) (codes "m"))) ∷ (Var false false (codes "y") UnitConstant) ∷ (ExprStmt (InterpolatedString (exprs ((FnCall (callee [] (codes "g") false NoToken) (exprs ((Variable ([]) (codes "y")) ∷ UnitConstant ∷ []))) ∷ [])))) ∷ (Assignment None (Variable ([]) (codes "m")) (FnCall (callee [] (codes "+") false (OfOperator Plus)) (exprs ((Variable ([]) (codes "m")) ∷ (Index (flags false true) (BoolConstant false) (Variable ([]) (codes "m"))) ∷ [])))) ∷ []) AtStatements (entry (codes "a") false UnitV ∷ []) 0 ≡ ends (WithThrown UnitV) (entry (codes "a") false UnitV ∷ entry (codes "c") true (MapV no_fields) ∷ entry (codes "m") false (MapV no_fields) ∷ entry (codes "m") false (IntV (pos 63)) ∷ entry (codes "c") false (TextV (codes "b")) ∷ entry (codes "m") false (IntV (pos 63)) ∷ entry (codes "y") false UnitV ∷ []) None (asked None (codes "g") (UnitV ∷ UnitV ∷ []) ∷ asked (Some (BoolV false)) (codes "index$get$") ((IntV (pos 63)) ∷ []) ∷ []) 0
unfolding ran
full_9000049 = refl

-- let a = 7
-- let c = "f"
-- let x = true
-- let y = -1
-- const x = false
-- block { try { throw false } catch b { -9223372036854775808; 63 }; try { (); 7; <Fn(g)>; throw 3 } catch c { block { let y = 7; Dot(<Fn(k)>, call()) } } }
-- fn k() { y }
full_9000220 : ran (engine ([]) ([]) (renamed (codes "i64") (codes "int") ∷ []) false) (host (named (codes "push") (Answers (BoolV false) None ∷ Answers (CharV 233) (Some (BoolV false)) ∷ Answers (IntV (negsuc 1)) None ∷ []) ∷ named (codes "get$a") (AnswersThrow (IntV (negsuc 1)) ∷ Answers (CharV 98) None ∷ Answers (IntV (pos 0)) None ∷ Answers UnitV (Some UnitV) ∷ []) ∷ []) (Answers (CharV 233) None ∷ Answers (IntV (pos 0)) (Some (ArrayV (values ([])))) ∷ Answers (ArrayV (values ([]))) (Some (ArrayV (values (UnitV ∷ (IntV (pos 0)) ∷ (CharV 97) ∷ [])))) ∷ Answers (PointerV (codes "g") (values ([]))) (Some (IntV (pos 0))) ∷ []) (binding (codes "ns::a") (IntV (pos 5)) ∷ binding (codes "ns::x") (BoolV false) ∷ [])) ((function None (codes "k") ([]) ((ExprStmt (Variable ([]) (codes "y"))) ∷ [])) ∷ []) ((Var false false (codes "a") (IntegerConstant (pos 7))) ∷ (Var false false (codes "c") (StringConstant (codes "f"))) ∷ (Var false false (codes "x") (BoolConstant true)) ∷ (Var false false (codes "y") (IntegerConstant (negsuc 0))) ∷ (Var true false (codes "x") (BoolConstant false)) ∷ (Block (stmts ((TryCatch (Variable ([]) (codes "b")) (stmts ((Return true false (an_expr (BoolConstant false))) ∷ [])) (stmts ((ExprStmt (IntegerConstant (negsuc 9223372036854775807))) ∷ (ExprStmt (IntegerConstant (pos 63))) ∷ []))) ∷ (TryCatch (Variable ([]) (codes "c")) (stmts ((ExprStmt UnitConstant) ∷ (ExprStmt (IntegerConstant (pos 7))) ∷ (ExprStmt (DynamicConstant (PointerV (codes "g") (values ((TextV (codes "")) ∷ []))))) ∷ (Return true false (an_expr (IntegerConstant (pos 3)))) ∷ [])) (stmts ((Block (stmts ((Var false false (codes "y") (IntegerConstant (pos 7))) ∷ (ExprStmt (Dot (flags false false) (DynamicConstant (PointerV (codes "k") (values ([])))) (MethodCall (callee [] (codes "call") false NoToken) (exprs ([]))))) ∷ []))) ∷ []))) ∷ []))) ∷ []) AtStatements ([]) 3 ≡ ends (WithStuck Unbound) (entry (codes "a") false (IntV (pos 7)) ∷ entry (codes "c") false (TextV (codes "f")) ∷ entry (codes "x") false (BoolV true) ∷ entry (codes "y") false (IntV (negsuc 0)) ∷ entry (codes "x") true (BoolV false) ∷ []) None ([]) 2
unfolding ran
full_9000220 = refl

-- switch coalesce(9223372036854775806) { true:  |  | default - | { true } => x, { (); <#{"b": Fn(h), "k": -1}>; for (a, b) in <[5, 6]> { print(b); print(a) }; false } => [y] }
-- call +((), ())
-- let a = debug!()
-- fn k() { y }
full_9000242 : ran (engine (binding (codes "x") (RangeInclusiveV (pos 3) (pos 5)) ∷ []) (override (codes "!") ((codes "array") ∷ (codes "range") ∷ []) ∷ override (codes "!") ((codes "i64") ∷ (codes "i64") ∷ []) ∷ override (codes "**=") ((codes "i64") ∷ (codes "i64") ∷ []) ∷ override (codes "-") ((codes "char") ∷ (codes "Fn") ∷ []) ∷ override (codes "..=") ((codes "map") ∷ (codes "string") ∷ []) ∷ override (codes "/") ((codes "()") ∷ []) ∷ override (codes "==") ((codes "map") ∷ []) ∷ override (codes ">=") ((codes "()") ∷ []) ∷ override (codes "|") ((codes "i64") ∷ (codes "i64") ∷ []) ∷ []) (renamed (codes "array") (codes "list") ∷ renamed (codes "map") (codes "object") ∷ []) false) (host ([]) ([]) (binding (codes "ns::a") (IntV (pos 5)) ∷ binding (codes "ns::x") (IntV (negsuc 1)) ∷ [])) ((function None (codes "k") ([]) ((ExprStmt (Variable ([]) (codes "y"))) ∷ [])) ∷ []) ((Switch (Coalesce (exprs ((IntegerConstant (pos 9223372036854775806)) ∷ []))) (arm (BlockExpr (stmts ((ExprStmt (BoolConstant true)) ∷ []))) (Variable ([]) (codes "x")) (arm (BlockExpr (stmts ((ExprStmt UnitConstant) ∷ (ExprStmt (DynamicConstant (MapV (field (codes "b") (PointerV (codes "h") (values ((IntV (pos 63)) ∷ []))) (field (codes "k") (IntV (negsuc 0)) no_fields))))) ∷ (For (codes "a") (Some (codes "b")) (DynamicConstant (ArrayV (values ((IntV (pos 5)) ∷ (IntV (pos 6)) ∷ [])))) (stmts ((ExprStmt (FnCall (callee [] (codes "print") false NoToken) (exprs ((Variable ([]) (codes "b")) ∷ [])))) ∷ (ExprStmt (FnCall (callee [] (codes "print") false NoToken) (exprs ((Variable ([]) (codes "a")) ∷ [])))) ∷ []))) ∷ (ExprStmt (BoolConstant false)) ∷ []))) (ArrayOf (exprs ((Variable ([]) (codes "y")) ∷ []))) no_arms)) (table (case (BoolV true) ([]) ∷ []) ([]) None)) ∷ (FnCallStmt (callee [] (codes "+") false (OfOperator Plus)) (exprs (UnitConstant ∷ UnitConstant ∷ []))) ∷ (Var false false (codes "a") (FnCall (callee [] (codes "debug") true NoToken) (exprs ([])))) ∷ []) AtStatements ([]) 5 ≡ ends (WithValue UnitV) (entry (codes "a") false UnitV ∷ []) None (asked None (codes "+") (UnitV ∷ UnitV ∷ []) ∷ asked None (codes "debug") ([]) ∷ []) 5
unfolding ran
full_9000242 = refl

-- let y = 'z'
-- const x = -2
-- let a = ()
-- let c = +(false, false)
-- !=(false, true)
-- fn array.h() { noop; block { ""; 9223372036854775806 } }
-- fn h(c) { return; this ^= 63 }
full_9000309 : ran (engine (binding (codes "x") (PointerV (codes "f") (values ((IntV (pos 63)) ∷ []))) ∷ binding (codes "a") (RangeV (negsuc 1) (pos 1)) ∷ []) (override (codes "%=") ((codes "i64") ∷ (codes "i64") ∷ []) ∷ override (codes "+") ((codes "char") ∷ (codes "range") ∷ []) ∷ override (codes "+") ((codes "i64") ∷ (codes "i64") ∷ []) ∷ override (codes "+=") ((codes "i64") ∷ (codes "i64") ∷ []) ∷ override (codes "-=") ((codes "char") ∷ []) ∷ override (codes "-=") ((codes "range=") ∷ []) ∷ override (codes "..") ((codes "range") ∷ (codes "char") ∷ []) ∷ override (codes "^") ((codes "Fn") ∷ (codes "range=") ∷ []) ∷ override (codes "|") ((codes "char") ∷ []) ∷ []) ([]) false) (host (named (codes "+") (Answers (ArrayV (values ((IntV (pos 63)) ∷ (CharV 98) ∷ (BoolV true) ∷ []))) None ∷ Answers (MapV (field (codes "a") (IntV (pos 63)) no_fields)) (Some (BoolV false)) ∷ Answers (IntV (pos 3)) None ∷ Answers (ArrayV (values (UnitV ∷ (TextV (codes "")) ∷ []))) None ∷ Answers UnitV (Some UnitV) ∷ []) ∷ []) (Answers (CharV 98) None ∷ Answers (IntV (pos 7)) None ∷ Answers (BoolV false) (Some (RangeInclusiveV (pos 3) (pos 2))) ∷ AnswersThrow (CharV 98) ∷ []) (binding (codes "ns::a") (IntV (pos 5)) ∷ binding (codes "ns::x") (ArrayV (values ([]))) ∷ [])) ((function (Some (codes "array")) (codes "h") ([]) (Noop ∷ (Block (stmts ((ExprStmt (StringConstant (codes ""))) ∷ (ExprStmt (IntegerConstant (pos 9223372036854775806))) ∷ []))) ∷ [])) ∷ (function None (codes "h") ((codes "c") ∷ []) ((Return false false no_expr) ∷ (Assignment (Some BitXor) ThisPtr (IntegerConstant (pos 63))) ∷ [])) ∷ []) ((Var false false (codes "y") (CharConstant 122)) ∷ (Var true false (codes "x") (IntegerConstant (negsuc 1))) ∷ (Var false false (codes "a") UnitConstant) ∷ (Var false false (codes "c") (FnCall (callee [] (codes "+") false (OfOperator Plus)) (exprs ((BoolConstant false) ∷ (BoolConstant false) ∷ [])))) ∷ (ExprStmt (FnCall (callee [] (codes "!=") false (OfOperator NotEqualTo)) (exprs ((BoolConstant false) ∷ (BoolConstant true) ∷ [])))) ∷ []) AtStatements (entry (codes "a") true (PointerV (codes "f") (values ((CharV 97) ∷ []))) ∷ entry (codes "a") true (IntV (pos 1)) ∷ entry (codes "m") true UnitV ∷ []) 10 ≡ ends (WithValue (BoolV true)) (entry (codes "m") true UnitV ∷ entry (codes "a") true (IntV (pos 1)) ∷ entry (codes "a") true (PointerV (codes "f") (values ((CharV 97) ∷ []))) ∷ entry (codes "y") false (CharV 122) ∷ entry (codes "x") true (IntV (negsuc 1)) ∷ entry (codes "a") false UnitV ∷ entry (codes "c") false (ArrayV (values ((IntV (pos 63)) ∷ (CharV 98) ∷ (BoolV true) ∷ []))) ∷ []) None (asked None (codes "+") ((BoolV false) ∷ (BoolV false) ∷ []) ∷ []) 10
unfolding ran
full_9000309 = refl

-- const b = 'z'
-- const c = 3
-- switch Index(b, Index("b", Dot!(1, f()))) {  |  | default 4 | true => Dot(b, push(c)), true => text(false, true, "é"), { 64; "ab"; 'a'; block { let y = #{}; Dot(y, Dot(a, g())) = f() } } => Index(b, Dot?(2, Index!(f(), "b"))), () => coalesce(9223372036854775807, 'b', 0), true => b }
-- fn i64.h(y, y) { return Dot(y, a) }
-- fn k() { y }
full_9000533 : ran (engine (binding (codes "y") (IntV (negsuc 9223372036854775807)) ∷ []) (override (codes "<<=") ((codes "Fn") ∷ (codes "range") ∷ []) ∷ override (codes ">=") ((codes "range") ∷ []) ∷ override (codes ">>") ((codes "i64") ∷ (codes "i64") ∷ []) ∷ []) ([]) false) (host ([]) (Answers (PointerV (codes "g") (values ((CharV 98) ∷ []))) None ∷ Answers UnitV (Some (IntV (negsuc 0))) ∷ Answers (PointerV (codes "h") (values ([]))) None ∷ AnswersThrow (CharV 233) ∷ Answers (RangeV (negsuc 1) (pos 0)) None ∷ []) (binding (codes "ns::a") (IntV (pos 5)) ∷ binding (codes "ns::x") (CharV 97) ∷ [])) ((function (Some (codes "i64")) (codes "h") ((codes "y") ∷ (codes "y") ∷ []) ((Return false false (an_expr (Dot (flags false false) (Variable ([]) (codes "y")) (property (codes "get$a") (codes "set$a") (codes "a"))))) ∷ [])) ∷ (function None (codes "k") ([]) ((ExprStmt (Variable ([]) (codes "y"))) ∷ [])) ∷ []) ((Var true false (codes "b") (CharConstant 122)) ∷ (Var true false (codes "c") (IntegerConstant (pos 3))) ∷ (Switch (Index (flags false false) (Variable ([]) (codes "b")) (Index (flags false false) (StringConstant (codes "b")) (Dot (flags false true) (IntegerConstant (pos 1)) (MethodCall (callee [] (codes "f") false NoToken) (exprs ([])))))) (arm (BoolConstant true) (Dot (flags false false) (Variable ([]) (codes "b")) (MethodCall (callee [] (codes "push") false NoToken) (exprs ((Variable ([]) (codes "c")) ∷ [])))) (arm (BoolConstant true) (InterpolatedString (exprs ((BoolConstant false) ∷ (BoolConstant true) ∷ (StringConstant (195 ∷ 169 ∷ [])) ∷ []))) (arm (BlockExpr (stmts ((ExprStmt (IntegerConstant (pos 64))) ∷ (ExprStmt (StringConstant (codes "ab"))) ∷ (ExprStmt (CharConstant 97)) ∷ (Block (stmts ((Var false false (codes "y") (MapOf no_pairs ([]))) ∷ (Assignment None (Dot (flags false false) (Variable ([]) (codes "y")) (Dot (flags false false) (property (codes "get$a") (codes "set$a") (codes "a")) (MethodCall (callee [] (codes "g") false NoToken) (exprs ([]))))) (FnCall (callee [] (codes "f") false NoToken) (exprs ([])))) ∷ []))) ∷ []))) (Index (flags false false) (Variable ([]) (codes "b")) (Dot (flags true false) (IntegerConstant (pos 2)) (Index (flags false true) (MethodCall (callee [] (codes "f") false NoToken) (exprs ([]))) (StringConstant (codes "b"))))) (arm UnitConstant (Coalesce (exprs ((IntegerConstant (pos 9223372036854775807)) ∷ (CharConstant 98) ∷ (IntegerConstant (pos 0)) ∷ []))) (arm (BoolConstant true) (Variable ([]) (codes "b")) no_arms))))) (table ([]) ([]) (Some 4))) ∷ []) AtStatements (entry (codes "m") true (CharV 233) ∷ entry (codes "c") false (IntV (pos 2)) ∷ entry (codes "m") true UnitV ∷ []) 5 ≡ ends (WithValue (CharV 122)) (entry (codes "m") true UnitV ∷ entry (codes "c") false (IntV (pos 2)) ∷ entry (codes "m") true (CharV 233) ∷ entry (codes "b") true (CharV 122) ∷ entry (codes "c") true (IntV (pos 3)) ∷ []) None (asked (Some (CharV 122)) (codes "index$get$") ((TextV (codes "b")) ∷ []) ∷ asked (Some (PointerV (codes "g") (values ((CharV 98) ∷ [])))) (codes "index$get$") ((IntV (pos 1)) ∷ []) ∷ asked (Some UnitV) (codes "f") ([]) ∷ []) 5
unfolding ran
full_9000533 = refl

-- let y = true
-- y %= coalesce(y)
-- throw Dot(y, Index!(a, "b"))
full_9000775 : ran (engine ([]) (override (codes "%") ((codes "string") ∷ (codes "char") ∷ []) ∷ override (codes "%=") ((codes "i64") ∷ (codes "i64") ∷ []) ∷ []) (renamed (codes "array") (codes "list") ∷ renamed (codes "map") (codes "object") ∷ []) true) (host (named (codes "index$get$") (AnswersThrow (PointerV (codes "g") (values ((CharV 233) ∷ []))) ∷ Answers (TextV (codes "f")) (Some UnitV) ∷ Answers (BoolV false) None ∷ Answers (IntV (pos 63)) None ∷ []) ∷ named (codes "g") (Answers (IntV (negsuc 0)) (Some (IntV (negsuc 9223372036854775807))) ∷ Answers (BoolV true) None ∷ Answers (MapV (field (codes "k") (TextV (codes "")) no_fields)) None ∷ []) ∷ []) (Answers (MapV no_fields) (Some (IntV (pos 0))) ∷ Answers (ArrayV (values ((BoolV true) ∷ []))) (Some (TextV (codes "f"))) ∷ []) (binding (codes "ns::a") (IntV (pos 5)) ∷ binding (codes "ns::x") (ArrayV (values ((IntV (pos 2)) ∷ []))) ∷ [])) ([]) ((Var false false (codes "y") (BoolConstant true)) ∷ (Assignment (Some Modulo) (Variable ([]) (codes "y")) (Coalesce (exprs ((Variable ([]) (codes "y")) ∷ [])))) ∷ (Return true false (an_expr (Dot (flags false false) (Variable ([]) (codes "y")) (Index (flags false true) (property (codes "get$a") (codes "set$a") (codes "a")) (StringConstant (codes "b")))))) ∷ []) AtStatements (entry (codes "b") true (PointerV (codes "g") (values ((TextV (codes "a")) ∷ []))) ∷ entry (codes "x") false (RangeInclusiveV (negsuc 0) (pos 2)) ∷ []) 0 ≡ ends (WithThrown (TextV (codes "f"))) (entry (codes "x") false (RangeInclusiveV (negsuc 0) (pos 2)) ∷ entry (codes "b") true (PointerV (codes "g") (values ((TextV (codes "a")) ∷ []))) ∷ entry (codes "y") false (MapV no_fields) ∷ []) None (asked None (codes "%") ((BoolV true) ∷ (BoolV true) ∷ []) ∷ asked (Some UnitV) (codes "index$get$") ((TextV (codes "b")) ∷ []) ∷ []) 0
unfolding ran
full_9000775 = refl

-- const c = -1
-- const b = ()
-- block {}
-- if { 'a'; block { let a = <[[1], [2]]>; Index(a, Index!(1, { a = <[[3]]>; 0 })) }; true } { if false { false; -9223372036854775808 } else {}; b ^= 9223372036854775806 } else { for (c, a) in <Fn(h)> { (); <0..=0>; <["f", (), Fn(h)]> } }
-- let c = 63
-- fn i64.g() { block {}; return { false; "ab" } }
-- fn k() { y }
full_9000958 : ran (engine (binding (codes "y") (IntV (pos 1)) ∷ binding (codes "b") (IntV (pos 0)) ∷ []) (override (codes "^=") ((codes "()") ∷ (codes "i64") ∷ []) ∷ []) (renamed (codes "i64") (codes "int") ∷ []) true) (host (named (codes "f") ([]) ∷ []) (Answers (IntV (pos 1)) None ∷ Answers (MapV (field (codes "b") UnitV (field (codes "k") (TextV (codes "f")) no_fields))) (Some (RangeInclusiveV (pos 1) (pos 2))) ∷ AnswersThrow (PointerV (codes "g") (values ([]))) ∷ Answers (ArrayV (values ((CharV 98) ∷ (CharV 233) ∷ (IntV (pos 1)) ∷ []))) (Some (ArrayV (values ((IntV (pos 9223372036854775807)) ∷ (IntV (pos 63)) ∷ [])))) ∷ Answers (TextV (codes "b")) (Some (CharV 97)) ∷ []) (binding (codes "ns::a") (IntV (pos 5)) ∷ binding (codes "ns::x") (IntV (pos 9223372036854775807)) ∷ [])) ((function (Some (codes "i64")) (codes "g") ([]) ((Block (stmts ([]))) ∷ (Return false false (an_expr (BlockExpr (stmts ((ExprStmt (BoolConstant false)) ∷ (ExprStmt (StringConstant (codes "ab"))) ∷ []))))) ∷ [])) ∷ (function None (codes "k") ([]) ((ExprStmt (Variable ([]) (codes "y"))) ∷ [])) ∷ []) ((Var true false (codes "c") (IntegerConstant (negsuc 0))) ∷ (Var true false (codes "b") UnitConstant) ∷ (Block (stmts ([]))) ∷ (If (BlockExpr (stmts ((ExprStmt (CharConstant 97)) ∷ (Block (stmts ((Var false false (codes "a") (DynamicConstant (ArrayV (values ((ArrayV (values ((IntV (pos 1)) ∷ []))) ∷ (ArrayV (values ((IntV (pos 2)) ∷ []))) ∷ []))))) ∷ (ExprStmt (Index (flags false false) (Variable ([]) (codes "a")) (Index (flags false true) (IntegerConstant (pos 1)) (BlockExpr (stmts ((Assignment None (Variable ([]) (codes "a")) (DynamicConstant (ArrayV (values ((ArrayV (values ((IntV (pos 3)) ∷ []))) ∷ []))))) ∷ (ExprStmt (IntegerConstant (pos 0))) ∷ [])))))) ∷ []))) ∷ (ExprStmt (BoolConstant true)) ∷ []))) (stmts ((If (BoolConstant false) (stmts ((ExprStmt (BoolConstant false)) ∷ (ExprStmt (IntegerConstant (negsuc 9223372036854775807))) ∷ [])) (stmts ([]))) ∷ (Assignment (Some BitXor) (Variable ([]) (codes "b")) (IntegerConstant (pos 9223372036854775806))) ∷ [])) (stmts ((For (codes "c") (Some (codes "a")) (DynamicConstant (PointerV (codes "h") (values ((RangeV (pos 2) (pos 1)) ∷ [])))) (stmts ((ExprStmt UnitConstant) ∷ (ExprStmt (DynamicConstant (RangeInclusiveV (pos 0) (pos 0)))) ∷ (ExprStmt (DynamicConstant (ArrayV (values ((TextV (codes "f")) ∷ UnitV ∷ (PointerV (codes "h") (values ([]))) ∷ []))))) ∷ []))) ∷ []))) ∷ (Var false false (codes "c") (IntegerConstant (pos 63))) ∷ []) AtStatements (entry (codes "c") false (IntV (pos 9223372036854775807)) ∷ entry (codes "a") true (IntV (negsuc 0)) ∷ []) 2 ≡ ends (WithStuck NoPlace) (entry (codes "a") true (IntV (negsuc 0)) ∷ entry (codes "c") false (IntV (pos 9223372036854775807)) ∷ entry (codes "c") true (IntV (negsuc 0)) ∷ entry (codes "b") true UnitV ∷ []) None ([]) 2
unfolding ran
full_9000958 = refl

-- let x = 9223372036854775807
-- const a = x
-- let m = <Fn(g)>
-- let m = 'é'
-- block { let y = 7; Dot(<Fn(k)>, call()) }
-- let x = <7>
-- const a = false
-- fn k() { y }
full_9001166 : ran (engine (binding (codes "c") (BoolV true) ∷ binding (codes "x") (IntV (negsuc 0)) ∷ []) (override (codes "!=") ((codes "i64") ∷ (codes "i64") ∷ []) ∷ override (codes "&") ((codes "Fn") ∷ []) ∷ override (codes "*") ((codes "Fn") ∷ (codes "string") ∷ []) ∷ override (codes "+") ((codes "i64") ∷ (codes "i64") ∷ []) ∷ override (codes "/") ((codes "i64") ∷ []) ∷ override (codes "<<=") ((codes "Fn") ∷ (codes "Fn") ∷ []) ∷ override (codes ">>=") ((codes "array") ∷ (codes "string") ∷ []) ∷ override (codes ">>=") ((codes "range=") ∷ []) ∷ []) ([]) false) (host ([]) (Answers UnitV (Some (RangeV (pos 0) (pos 2))) ∷ Answers (RangeInclusiveV (pos 0) (negsuc 0)) (Some (MapV (field (codes "b") (IntV (pos 9223372036854775806)) (field (codes "k") (IntV (pos 2)) no_fields)))) ∷ Answers (PointerV (codes "f") (values ((BoolV true) ∷ []))) None ∷ AnswersThrow (PointerV (codes "f") (values ((CharV 122) ∷ []))) ∷ []) (binding (codes "ns::a") (IntV (pos 5)) ∷ binding (codes "ns::x") (CharV 98) ∷ [])) ((function None (codes "k") ([]) ((ExprStmt (Variable ([]) (codes "y"))) ∷ [])) ∷ []) ((Var false false (codes "x") (IntegerConstant (pos 9223372036854775807))) ∷ (Var true false (codes "a") (Variable ([]) (codes "x"))) ∷ (Var false false (codes "m") (DynamicConstant (PointerV (codes "g") (values ((IntV (pos 3)) ∷ []))))) ∷ (Var false false (codes "m") (CharConstant 233)) ∷ (Block (stmts ((Var false false (codes "y") (IntegerConstant (pos 7))) ∷ (ExprStmt (Dot (flags false false) (DynamicConstant (PointerV (codes "k") (values ([])))) (MethodCall (callee [] (codes "call") false NoToken) (exprs ([]))))) ∷ []))) ∷ (Var false false (codes "x") (DynamicConstant (IntV (pos 7)))) ∷ (Var true false (codes "a") (BoolConstant false)) ∷ []) AtStatements (entry (codes "b") false (MapV (field (codes "k") (IntV (pos 0)) no_fields)) ∷ entry (codes "y") true (IntV (pos 9223372036854775807)) ∷ entry (codes "c") true (CharV 98) ∷ []) 1 ≡ ends (WithStuck Unbound) (entry (codes "c") true (CharV 98) ∷ entry (codes "y") true (IntV (pos 9223372036854775807)) ∷ entry (codes "b") false (MapV (field (codes "k") (IntV (pos 0)) no_fields)) ∷ entry (codes "x") false (IntV (pos 9223372036854775807)) ∷ entry (codes "a") true (IntV (pos 9223372036854775807)) ∷ entry (codes "m") false (PointerV (codes "g") (values ((IntV (pos 3)) ∷ []))) ∷ entry (codes "m") false (CharV 233) ∷ []) None ([]) 0
unfolding ran
full_9001166 = refl

-- let m = false
-- let c = <#{"b": ()}>
-- block { if false {} else { 63 }; c ^= m }
-- return
-- fn h(a) { block { <true>; block { let y = 7; print(k()) } } }
-- fn array.h(a) {}
-- fn array.g(m) { return coalesce(m, 1, 9223372036854775807) }
-- fn k() { y }
full_9001388 : ran (engine (binding (codes "m") (TextV (codes "b")) ∷ []) ([]) ([]) false) (host ([]) (Answers (PointerV (codes "g") (values ((BoolV true) ∷ []))) (Some (TextV (codes "ab"))) ∷ Answers (CharV 97) (Some (CharV 122)) ∷ Answers (PointerV (codes "f") (values ([]))) (Some (TextV (codes "ab"))) ∷ []) (binding (codes "ns::a") (IntV (pos 5)) ∷ binding (codes "ns::x") (BoolV false) ∷ [])) ((function None (codes "h") ((codes "a") ∷ []) ((Block (stmts ((ExprStmt (DynamicConstant (BoolV true))) ∷ (Block (stmts ((Var false false (codes "y") (IntegerConstant (pos 7))) ∷ (ExprStmt (FnCall (callee [] (codes "print") false NoToken) (exprs ((FnCall (callee [] (codes "k") false NoToken) (exprs ([]))) ∷ [])))) ∷ []))) ∷ []))) ∷ [])) ∷ (function (Some (codes "array")) (codes "h") ((codes "a") ∷ []) ([])) ∷ (function (Some (codes "array")) (codes "g") ((codes "m") ∷ []) ((Return false false (an_expr (Coalesce (exprs ((Variable ([]) (codes "m")) ∷ (IntegerConstant (pos 1)) ∷ (IntegerConstant (pos 9223372036854775807)) ∷ []))))) ∷ [])) ∷ (function None (codes "k") ([]) ((ExprStmt (Variable ([]) (codes "y"))) ∷ [])) ∷ []) ((Var false false (codes "m") (BoolConstant false)) ∷ (Var false false (codes "c") (DynamicConstant (MapV (field (codes "b") UnitV no_fields)))) ∷ (Block (stmts ((If (BoolConstant false) (stmts ([])) (stmts ((ExprStmt (IntegerConstant (pos 63))) ∷ []))) ∷ (Assignment (Some BitXor) (Variable ([]) (codes "c")) (Variable ([]) (codes "m"))) ∷ []))) ∷ (Return false false no_expr) ∷ []) AtStatements (entry (codes "a") true (CharV 233) ∷ entry (codes "c") true (MapV (field (codes "b") (BoolV false) no_fields)) ∷ []) 1 ≡ ends (WithValue UnitV) (entry (codes "c") true (MapV (field (codes "b") (BoolV false) no_fields)) ∷ entry (codes "a") true (CharV 233) ∷ entry (codes "m") false (BoolV false) ∷ entry (codes "c") false (PointerV (codes "g") (values ((BoolV true) ∷ []))) ∷ []) None (asked None (codes "^") ((MapV (field (codes "b") UnitV no_fields)) ∷ (BoolV false) ∷ []) ∷ []) 1
unfolding ran
full_9001388 = refl

-- let x = call(curry(Fn("f"), 1), 1)
-- let x = <Fn(f)>
-- const m = <[]>
-- const y = <"a">
-- let b = -2
-- for a in <-2..=-3> {}
-- loop { try { throw x } catch b {}; break 9223372036854775807 }
-- noop
-- fn map.g(y, x) { return {} }
-- fn g(c, x) {}
full_9001767 : ran (engine (binding (codes "b") (RangeV (pos 1) (pos 1)) ∷ binding (codes "a") (TextV (codes "a")) ∷ []) (override (codes "!") ((codes "string") ∷ []) ∷ override (codes "**=") ((codes "i64") ∷ (codes "i64") ∷ []) ∷ override (codes "*=") ((codes "Fn") ∷ (codes "char") ∷ []) ∷ override (codes "*=") ((codes "i64") ∷ (codes "char") ∷ []) ∷ override (codes "+") ((codes "i64") ∷ (codes "i64") ∷ []) ∷ override (codes "-") ((codes "char") ∷ (codes "map") ∷ []) ∷ override (codes "/=") ((codes "i64") ∷ []) ∷ override (codes "|=") ((codes "bool") ∷ []) ∷ override (codes "|=") ((codes "i64") ∷ (codes "i64") ∷ []) ∷ []) (renamed (codes "i64") (codes "int") ∷ []) true) (host (named (codes "g") (Answers (TextV (codes "")) None ∷ Answers (BoolV true) None ∷ Answers (ArrayV (values (UnitV ∷ UnitV ∷ []))) (Some (CharV 122)) ∷ []) ∷ named (codes "index$get$") ([]) ∷ []) (Answers (IntV (negsuc 1)) (Some (ArrayV (values (UnitV ∷ (IntV (pos 9223372036854775807)) ∷ (TextV (codes "")) ∷ [])))) ∷ Answers UnitV None ∷ Answers (IntV (negsuc 1)) None ∷ Answers (ArrayV (values ((CharV 122) ∷ (BoolV false) ∷ []))) (Some (MapV (field (codes "b") (TextV (195 ∷ 169 ∷ [])) no_fields))) ∷ []) (binding (codes "ns::a") (IntV (pos 5)) ∷ binding (codes "ns::x") (ArrayV (values ([]))) ∷ [])) ((function (Some (codes "map")) (codes "g") ((codes "y") ∷ (codes "x") ∷ []) ((Return false false (an_expr (BlockExpr (stmts ([]))))) ∷ [])) ∷ (function None (codes "g") ((codes "c") ∷ (codes "x") ∷ []) ([])) ∷ []) ((Var false false (codes "x") (FnCall (callee [] (codes "call") false NoToken) (exprs ((FnCall (callee [] (codes "curry") false NoToken) (exprs ((FnCall (callee [] (codes "Fn") false NoToken) (exprs ((StringConstant (codes "f")) ∷ []))) ∷ (IntegerConstant (pos 1)) ∷ []))) ∷ (IntegerConstant (pos 1)) ∷ [])))) ∷ (Var false false (codes "x") (DynamicConstant (PointerV (codes "f") (values ((ArrayV (values ((IntV (pos 3)) ∷ (IntV (pos 9223372036854775807)) ∷ []))) ∷ []))))) ∷ (Var true false (codes "m") (DynamicConstant (ArrayV (values ([]))))) ∷ (Var true false (codes "y") (DynamicConstant (TextV (codes "a")))) ∷ (Var false false (codes "b") (IntegerConstant (negsuc 1))) ∷ (For (codes "a") None (DynamicConstant (RangeInclusiveV (negsuc 1) (negsuc 2))) (stmts ([]))) ∷ (While UnitConstant (stmts ((TryCatch (Variable ([]) (codes "b")) (stmts ((Return true false (an_expr (Variable ([]) (codes "x")))) ∷ [])) (stmts ([]))) ∷ (BreakLoop true false (an_expr (IntegerConstant (pos 9223372036854775807)))) ∷ []))) ∷ Noop ∷ []) AtStatements ([]) 5 ≡ ends (WithValue UnitV) (entry (codes "x") false (IntV (negsuc 1)) ∷ entry (codes "x") false (PointerV (codes "f") (values ((ArrayV (values ((IntV (pos 3)) ∷ (IntV (pos 9223372036854775807)) ∷ []))) ∷ []))) ∷ entry (codes "m") true (ArrayV (values ([]))) ∷ entry (codes "y") true (TextV (codes "a")) ∷ entry (codes "b") false (IntV (negsuc 1)) ∷ []) None (asked None (codes "f") ((IntV (pos 1)) ∷ (IntV (pos 1)) ∷ []) ∷ []) 4
unfolding ran
full_9001767 = refl

-- const c = coalesce(<[]>, y, 'z')
-- try { throw c } catch b { if false { for (a, a) in <5..7> { print(a) }; 63 } else {} }
-- let x = ""
-- fn k() { y }
full_9002037 : ran (engine (binding (codes "y") UnitV ∷ []) (override (codes "**") ((codes "array") ∷ []) ∷ override (codes "..") ((codes "range=") ∷ []) ∷ override (codes "<<=") ((codes "Fn") ∷ (codes "array") ∷ []) ∷ override (codes "<=") ((codes "()") ∷ (codes "Fn") ∷ []) ∷ override (codes ">") ((codes "i64") ∷ (codes "i64") ∷ []) ∷ override (codes ">>=") ((codes "i64") ∷ (codes "i64") ∷ []) ∷ override (codes "^") ((codes "i64") ∷ (codes "i64") ∷ []) ∷ override (codes "|") ((codes "map") ∷ []) ∷ override (codes "|") ((codes "string") ∷ (codes "i64") ∷ []) ∷ []) ([]) false) (host ([]) (Answers (IntV (pos 2)) (Some (TextV (codes ""))) ∷ Answers (PointerV (codes "h") (values (UnitV ∷ []))) (Some (MapV (field (codes "a") (CharV 97) no_fields))) ∷ []) (binding (codes "ns::a") (IntV (pos 5)) ∷ binding (codes "ns::x") (IntV (negsuc 0)) ∷ [])) ((function None (codes "k") ([]) ((ExprStmt (Variable ([]) (codes "y"))) ∷ [])) ∷ []) ((Var true false (codes "c") (Coalesce (exprs ((DynamicConstant (ArrayV (values ([])))) ∷ (Variable ([]) (codes "y")) ∷ (CharConstant 122) ∷ [])))) ∷ (TryCatch (Variable ([]) (codes "b")) (stmts ((Return true false (an_expr (Variable ([]) (codes "c")))) ∷ [])) (stmts ((If (BoolConstant false) (stmts ((For (codes "a") (Some (codes "a")) (DynamicConstant (RangeV (pos 5) (pos 7))) (stmts ((ExprStmt (FnCall (callee [] (codes "print") false NoToken) (exprs ((Variable ([]) (codes "a")) ∷ [])))) ∷ []))) ∷ (ExprStmt (IntegerConstant (pos 63))) ∷ [])) (stmts ([]))) ∷ []))) ∷ (Var false false (codes "x") (StringConstant (codes ""))) ∷ []) AtStatements (entry (codes "m") false (IntV (pos 0)) ∷ entry (codes "b") true (BoolV false) ∷ entry (codes "x") false (PointerV (codes "f") (values ((BoolV false) ∷ []))) ∷ []) 1 ≡ ends (WithValue UnitV) (entry (codes "x") false (PointerV (codes "f") (values ((BoolV false) ∷ []))) ∷ entry (codes "b") true (BoolV false) ∷ entry (codes "m") false (IntV (pos 0)) ∷ entry (codes "c") true (ArrayV (values ([]))) ∷ entry (codes "x") false (TextV (codes "")) ∷ []) None ([]) 1
unfolding ran
full_9002037 = refl

-- let b = 64
-- let m = call(Fn("f"), 1)
-- if { (); true } { m } else {}
-- this = Index!(b, 64)
full_9002068 : ran (engine (binding (codes "b") (MapV (field (codes "a") (IntV (negsuc 1)) no_fields)) ∷ []) ([]) (renamed (codes "i64") (codes "int") ∷ []) false) (host ([]) (Answers (PointerV (codes "f") (values ([]))) None ∷ Answers (MapV no_fields) (Some (ArrayV (values ([])))) ∷ []) (binding (codes "ns::a") (IntV (pos 5)) ∷ binding (codes "ns::x") (MapV (field (codes "b") (TextV (codes "f")) (field (codes "k") (BoolV true) no_fields))) ∷ [])) ([]) ((Var false false (codes "b") (IntegerConstant (pos 64))) ∷ (Var false false (codes "m") (FnCall (callee [] (codes "call") false NoToken) (exprs ((FnCall (callee [] (codes "Fn") false NoToken) (exprs ((StringConstant (codes "f")) ∷ []))) ∷ (IntegerConstant (pos 1)) ∷ [])))) ∷ (If (BlockExpr (stmts ((ExprStmt UnitConstant) ∷ (ExprStmt (BoolConstant true)) ∷ []))) (stmts ((ExprStmt (Variable ([]) (codes "m"))) ∷ [])) (stmts ([]))) ∷ (Assignment None ThisPtr (Index (flags false true) (Variable ([]) (codes "b")) (IntegerConstant (pos 64)))) ∷ []) AtStatements (entry (codes "b") false UnitV ∷ entry (codes "y") true (ArrayV (values ((IntV (pos 64)) ∷ []))) ∷ entry (codes "c") true (PointerV (codes "h") (values ((TextV (codes "a")) ∷ []))) ∷ []) 0 ≡ ends (WithThrown (TextV (codes "bit bounds"))) (entry (codes "c") true (PointerV (codes "h") (values ((TextV (codes "a")) ∷ []))) ∷ entry (codes "y") true (ArrayV (values ((IntV (pos 64)) ∷ []))) ∷ entry (codes "b") false UnitV ∷ entry (codes "b") false (IntV (pos 64)) ∷ entry (codes "m") false (PointerV (codes "f") (values ([]))) ∷ []) None (asked None (codes "f") ((IntV (pos 1)) ∷ []) ∷ []) 0
unfolding ran
full_9002068 = refl

-- const a = "a"
-- switch <Fn(f)> { -2: 2 | 0..3: 2, -1..=0: 0 | default 4 | true => coalesce(a), a => #{a: a}, true => a, >=(2, 3) => 9223372036854775807, true => and(<=(-2, 7), <(64, 0)) }
-- for c in <-2..=1> { throw }
-- fn f(m) { Index(m, Index!(y, 2)); if ==(9223372036854775806, ()) { for (a, a) in <5..7> { print(a) }; 9223372036854775807 } else { (); 'a'; -1 } }
-- fn map.g(m) { switch 1 {  | 1..=5: 1 | default 2 | true => m, true => m, true => -2 }; m %= 63 }
-- fn k() { y }
full_9002303 : ran (engine (binding (codes "y") (ArrayV (values ((CharV 233) ∷ []))) ∷ []) (override (codes "%") ((codes "i64") ∷ (codes "i64") ∷ []) ∷ override (codes "%=") ((codes "string") ∷ (codes "char") ∷ []) ∷ override (codes "*=") ((codes "i64") ∷ (codes "i64") ∷ []) ∷ override (codes "-=") ((codes "()") ∷ (codes "char") ∷ []) ∷ override (codes ">") ((codes "bool") ∷ []) ∷ []) (renamed (codes "i64") (codes "int") ∷ []) false) (host (named (codes "h") (Answers (ArrayV (values ((TextV (codes "b")) ∷ (IntV (pos 7)) ∷ (CharV 122) ∷ []))) (Some (IntV (negsuc 1))) ∷ Answers (RangeV (pos 3) (pos 3)) None ∷ []) ∷ []) (Answers (TextV (codes "f")) (Some (TextV (codes "b"))) ∷ Answers UnitV None ∷ Answers UnitV (Some (ArrayV (values (UnitV ∷ UnitV ∷ UnitV ∷ [])))) ∷ Answers (IntV (pos 3)) None ∷ []) (binding (codes "ns::a") (IntV (pos 5)) ∷ binding (codes "ns::x") (TextV (codes "ab")) ∷ [])) ((function None (codes "f") ((codes "m") ∷ []) ((ExprStmt (Index (flags false false) (Variable ([]) (codes "m")) (Index (flags false true) (Variable ([]) (codes "y")) (IntegerConstant (pos 2))))) ∷ (If (FnCall (callee [] (codes "==") false (OfOperator EqualTo)) (exprs ((IntegerConstant (pos 9223372036854775806)) ∷ UnitConstant ∷ []))) (stmts ((For (codes "a") (Some (codes "a")) (DynamicConstant (RangeV (pos 5) (pos 7))) (stmts ((ExprStmt (FnCall (callee [] (codes "print") false NoToken) (exprs ((Variable ([]) (codes "a")) ∷ [])))) ∷ []))) ∷ (ExprStmt (IntegerConstant (pos 9223372036854775807))) ∷ [])) (stmts ((ExprStmt UnitConstant) ∷ (ExprStmt (CharConstant 97)) ∷ (ExprStmt (IntegerConstant (negsuc 0))) ∷ []))) ∷ [])) ∷ (function (Some (codes "map")) (codes "g") ((codes "m") ∷ []) ((Switch (IntegerConstant (pos 1)) (arm (BoolConstant true) (Variable ([]) (codes "m")) (arm (BoolConstant true) (Variable ([]) (codes "m")) (arm (BoolConstant true) (IntegerConstant (negsuc 1)) no_arms))) (table ([]) (record { range = InclusiveInt (pos 1) (pos 5); arm = 1 } ∷ []) (Some 2))) ∷ (Assignment (Some Modulo) (Variable ([]) (codes "m")) (IntegerConstant (pos 63))) ∷ [])) ∷ (function None (codes "k") ([]) ((ExprStmt (Variable ([]) (codes "y"))) ∷ [])) ∷ []) ((Var true false (codes "a") (StringConstant (codes "a"))) ∷ (Switch (DynamicConstant (PointerV (codes "f") (values ((TextV (codes "f")) ∷ [])))) (arm (BoolConstant true) (Coalesce (exprs ((Variable ([]) (codes "a")) ∷ []))) (arm (Variable ([]) (codes "a")) (MapOf (pair (codes "a") (Variable ([]) (codes "a")) no_pairs) ((codes "a") ∷ [])) (arm (BoolConstant true) (Variable ([]) (codes "a")) (arm (FnCall (callee [] (codes ">=") false (OfOperator GreaterOrEqual)) (exprs ((IntegerConstant (pos 2)) ∷ (IntegerConstant (pos 3)) ∷ []))) (IntegerConstant (pos 9223372036854775807)) (arm (BoolConstant true) (And (exprs ((FnCall (callee [] (codes "<=") false (OfOperator LessOrEqual)) (exprs ((IntegerConstant (negsuc 1)) ∷ (IntegerConstant (pos 7)) ∷ []))) ∷ (FnCall (callee [] (codes "<") false (OfOperator Less)) (exprs ((IntegerConstant (pos 64)) ∷ (IntegerConstant (pos 0)) ∷ []))) ∷ []))) no_arms))))) (table (case (IntV (negsuc 1)) (2 ∷ []) ∷ []) (record { range = ExclusiveInt (pos 0) (pos 3); arm = 2 } ∷ record { range = InclusiveInt (negsuc 0) (pos 0); arm = 0 } ∷ []) (Some 4))) ∷ (For (codes "c") None (DynamicConstant (RangeInclusiveV (negsuc 1) (pos 1))) (stmts ((Return true false no_expr) ∷ []))) ∷ []) AtStatements (entry (codes "x") false (BoolV false) ∷ entry (codes "m") false (RangeV (pos 1) (pos 1)) ∷ []) 5 ≡ ends (WithThrown UnitV) (entry (codes "m") false (RangeV (pos 1) (pos 1)) ∷ entry (codes "x") false (BoolV false) ∷ entry (codes "a") true (TextV (codes "a")) ∷ []) None ([]) 4
unfolding ran
full_9002303 = refl

-- let b = "é"
-- let y = false
-- let y = -2
-- let m = ns::y
-- loop { noop; break call(<Fn(k)>, 1) }
-- Index(b, Index!("a", 2))
-- let a = b
full_9002325 : ran (engine ([]) ([]) (renamed (codes "i64") (codes "int") ∷ []) true) (host (named (codes "get$a") (Answers (IntV (pos 63)) None ∷ []) ∷ named (codes "g") (Answers (IntV (pos 2)) None ∷ AnswersThrow (IntV (pos 2)) ∷ []) ∷ []) (Answers (IntV (negsuc 9223372036854775807)) (Some (ArrayV (values ([])))) ∷ Answers (CharV 98) (Some (CharV 97)) ∷ Answers (MapV (field (codes "a") (IntV (pos 9223372036854775806)) no_fields)) (Some (PointerV (codes "g") (values ((IntV (negsuc 1)) ∷ [])))) ∷ Answers (PointerV (codes "f") (values ([]))) None ∷ Answers (CharV 122) None ∷ []) (binding (codes "ns::a") (IntV (pos 5)) ∷ binding (codes "ns::x") (ArrayV (values ((IntV (pos 2)) ∷ []))) ∷ [])) ([]) ((Var false false (codes "b") (StringConstant (195 ∷ 169 ∷ []))) ∷ (Var false false (codes "y") (BoolConstant false)) ∷ (Var false false (codes "y") (IntegerConstant (negsuc 1))) ∷ (Var false false (codes "m") (Variable ((codes "ns") ∷ []) (codes "y"))) ∷ (While UnitConstant (stmts (Noop ∷ (BreakLoop true false (an_expr (FnCall (callee [] (codes "call") false NoToken) (exprs ((DynamicConstant (PointerV (codes "k") (values (UnitV ∷ [])))) ∷ (IntegerConstant (pos 1)) ∷ []))))) ∷ []))) ∷ (ExprStmt (Index (flags false false) (Variable ([]) (codes "b")) (Index (flags false true) (StringConstant (codes "a")) (IntegerConstant (pos 2))))) ∷ (Var false false (codes "a") (Variable ([]) (codes "b"))) ∷ []) AtStatements (entry (codes "y") false (MapV no_fields) ∷ entry (codes "x") false (MapV (field (codes "b") (CharV 98) no_fields)) ∷ entry (codes "a") false (RangeInclusiveV (pos 0) (pos 3)) ∷ []) 5 ≡ ends (WithStuck Unbound) (entry (codes "a") false (RangeInclusiveV (pos 0) (pos 3)) ∷ entry (codes "x") false (MapV (field (codes "b") (CharV 98) no_fields)) ∷ entry (codes "y") false (MapV no_fields) ∷ entry (codes "b") false (TextV (195 ∷ 169 ∷ [])) ∷ entry (codes "y") false (BoolV false) ∷ entry (codes "y") false (IntV (negsuc 1)) ∷ []) None ([]) 5
unfolding ran
full_9002325 = refl

-- const x = call(<Fn(k)>, 1)
-- let a = 'z'
-- let x = 'é'
-- let y = false
-- Index?!(#{a: ns::a}, -1)
-- Index!(y, 1)
-- let m = Dot?(#{}, Index(k, Dot("b", b)))
-- fn map.push() {}
full_9002334 : ran (engine (binding (codes "m") (IntV (pos 9223372036854775807)) ∷ []) (override (codes "%=") ((codes "array") ∷ (codes "char") ∷ []) ∷ override (codes "<<=") ((codes "i64") ∷ (codes "i64") ∷ []) ∷ override (codes "^=") ((codes "string") ∷ []) ∷ []) ([]) true) (host (named (codes "f") ([]) ∷ []) (Answers UnitV (Some (PointerV (codes "f") (values ([])))) ∷ Answers UnitV (Some (IntV (pos 9223372036854775807))) ∷ []) (binding (codes "ns::a") (IntV (pos 5)) ∷ binding (codes "ns::x") (CharV 122) ∷ [])) ((function (Some (codes "map")) (codes "push") ([]) ([])) ∷ []) ((Var true false (codes "x") (FnCall (callee [] (codes "call") false NoToken) (exprs ((DynamicConstant (PointerV (codes "k") (values (UnitV ∷ [])))) ∷ (IntegerConstant (pos 1)) ∷ [])))) ∷ (Var false false (codes "a") (CharConstant 122)) ∷ (Var false false (codes "x") (CharConstant 233)) ∷ (Var false false (codes "y") (BoolConstant false)) ∷ (ExprStmt (Index (flags true true) (MapOf (pair (codes "a") (Variable ((codes "ns") ∷ []) (codes "a")) no_pairs) ((codes "a") ∷ [])) (IntegerConstant (negsuc 0)))) ∷ (ExprStmt (Index (flags false true) (Variable ([]) (codes "y")) (IntegerConstant (pos 1)))) ∷ (Var false false (codes "m") (Dot (flags true false) (MapOf no_pairs ([])) (Index (flags false false) (property (codes "get$k") (codes "set$k") (codes "k")) (Dot (flags false false) (StringConstant (codes "b")) (property (codes "get$b") (codes "set$b") (codes "b")))))) ∷ []) AtStatements (entry (codes "a") true UnitV ∷ entry (codes "a") true (RangeV (pos 1) (pos 2)) ∷ entry (codes "x") false (IntV (pos 7)) ∷ []) 1 ≡ ends (WithValue UnitV) (entry (codes "x") false (IntV (pos 7)) ∷ entry (codes "a") true (RangeV (pos 1) (pos 2)) ∷ entry (codes "a") true UnitV ∷ entry (codes "x") true UnitV ∷ entry (codes "a") false (CharV 122) ∷ entry (codes "x") false (CharV 233) ∷ entry (codes "y") false (BoolV false) ∷ entry (codes "m") false UnitV ∷ []) None (asked None (codes "k") (UnitV ∷ (IntV (pos 1)) ∷ []) ∷ asked (Some (MapV (field (codes "a") (IntV (pos 5)) no_fields))) (codes "index$get$") ((IntV (negsuc 0)) ∷ []) ∷ asked (Some (BoolV false)) (codes "index$get$") ((IntV (pos 1)) ∷ []) ∷ asked (Some UnitV) (codes "index$get$") ((TextV (codes "b")) ∷ []) ∷ asked (Some UnitV) (codes "get$b") ([]) ∷ []) 1
unfolding ran
full_9002334 = refl

-- while { true; true; <Fn(g)>; false } {}
-- Dot(text(<"a">, "", -9223372036854775808), Index(g(type_of(y)), Dot?("a", a)))
-- while { true } { a = (); do {} while { 'a'; true }; try { -1; throw x } catch { (); () } }
full_9003403 : ran (engine (binding (codes "y") (IntV (negsuc 0)) ∷ []) (override (codes "&") ((codes "array") ∷ (codes "map") ∷ []) ∷ override (codes "&=") ((codes "range") ∷ (codes "range") ∷ []) ∷ override (codes "+=") ((codes "bool") ∷ []) ∷ override (codes "-") ((codes "range") ∷ (codes "string") ∷ []) ∷ override (codes "..=") ((codes "i64") ∷ (codes "i64") ∷ []) ∷ override (codes ">") ((codes "char") ∷ []) ∷ override (codes "^") ((codes "i64") ∷ (codes "i64") ∷ []) ∷ override (codes "|") ((codes "array") ∷ []) ∷ override (codes "|") ((codes "i64") ∷ (codes "i64") ∷ []) ∷ []) ([]) false) (host ([]) (Answers (RangeInclusiveV (pos 1) (pos 0)) (Some (PointerV (codes "g") (values ((IntV (pos 64)) ∷ [])))) ∷ Answers (TextV (codes "a")) (Some (IntV (pos 64))) ∷ Answers (ArrayV (values ((IntV (negsuc 0)) ∷ UnitV ∷ (BoolV false) ∷ []))) None ∷ AnswersThrow (CharV 98) ∷ Answers UnitV (Some (ArrayV (values ((CharV 122) ∷ (IntV (negsuc 1)) ∷ [])))) ∷ []) (binding (codes "ns::a") (IntV (pos 5)) ∷ binding (codes "ns::x") (ArrayV (values ((TextV (codes "ab")) ∷ (CharV 97) ∷ (CharV 98) ∷ []))) ∷ [])) ([]) ((While (BlockExpr (stmts ((ExprStmt (BoolConstant true)) ∷ (ExprStmt (BoolConstant true)) ∷ (ExprStmt (DynamicConstant (PointerV (codes "g") (values ([]))))) ∷ (ExprStmt (BoolConstant false)) ∷ []))) (stmts ([]))) ∷ (ExprStmt (Dot (flags false false) (InterpolatedString (exprs ((DynamicConstant (TextV (codes "a"))) ∷ (StringConstant (codes "")) ∷ (IntegerConstant (negsuc 9223372036854775807)) ∷ []))) (Index (flags false false) (MethodCall (callee [] (codes "g") false NoToken) (exprs ((FnCall (callee [] (codes "type_of") false NoToken) (exprs ((Variable ([]) (codes "y")) ∷ []))) ∷ []))) (Dot (flags true false) (StringConstant (codes "a")) (property (codes "get$a") (codes "set$a") (codes "a")))))) ∷ (While (BlockExpr (stmts ((ExprStmt (BoolConstant true)) ∷ []))) (stmts ((Assignment None (Variable ([]) (codes "a")) UnitConstant) ∷ (Do false false (BlockExpr (stmts ((ExprStmt (CharConstant 97)) ∷ (ExprStmt (BoolConstant true)) ∷ []))) (stmts ([]))) ∷ (TryCatch UnitConstant (stmts ((ExprStmt (IntegerConstant (negsuc 0))) ∷ (Return true false (an_expr (Variable ([]) (codes "x")))) ∷ [])) (stmts ((ExprStmt UnitConstant) ∷ (ExprStmt UnitConstant) ∷ []))) ∷ []))) ∷ []) AtStatements (entry (codes "b") true (CharV 97) ∷ []) 0 ≡ ends WithoutTurns (entry (codes "b") true (CharV 97) ∷ []) None (asked (Some (TextV (codes "a-9223372036854775808"))) (codes "g") ((TextV (codes "i64")) ∷ []) ∷ asked (Some (RangeInclusiveV (pos 1) (pos 0))) (codes "index$get$") ((TextV (codes "a")) ∷ []) ∷ asked (Some (TextV (codes "a"))) (codes "get$a") ([]) ∷ []) 0
unfolding ran
full_9003403 = refl

-- let m = 0
-- q = f()
-- fn h(c, c) { for (y, a) in <1..4> {} }
-- fn k() { y }
full_9003418 : ran (engine (binding (codes "x") (RangeInclusiveV (pos 2) (pos 4)) ∷ binding (codes "y") (BoolV false) ∷ binding (codes "q") (ArrayV (values ([]))) ∷ []) (override (codes "/=") ((codes "char") ∷ []) ∷ override (codes "<<") ((codes "range") ∷ (codes "()") ∷ []) ∷ override (codes "|=") ((codes "i64") ∷ (codes "i64") ∷ []) ∷ []) (renamed (codes "array") (codes "list") ∷ renamed (codes "map") (codes "object") ∷ []) false) (host (named (codes "+") (Answers (TextV (codes "")) (Some (ArrayV (values (UnitV ∷ UnitV ∷ (IntV (negsuc 9223372036854775807)) ∷ [])))) ∷ Answers (MapV (field (codes "b") (IntV (pos 1)) no_fields)) None ∷ []) ∷ named (codes "get$a") (AnswersThrow (CharV 233) ∷ Answers (TextV (195 ∷ 169 ∷ [])) None ∷ []) ∷ []) (Answers (CharV 122) None ∷ Answers (MapV (field (codes "a") (IntV (pos 9223372036854775807)) no_fields)) None ∷ Answers (ArrayV (values ((BoolV false) ∷ []))) (Some (ArrayV (values ([])))) ∷ Answers (RangeV (pos 3) (pos 2)) (Some (RangeV (pos 1) (pos 4))) ∷ []) (binding (codes "ns::a") (IntV (pos 5)) ∷ binding (codes "ns::x") (ArrayV (values ((BoolV true) ∷ (TextV (codes "a")) ∷ (BoolV false) ∷ []))) ∷ [])) ((function None (codes "h") ((codes "c") ∷ (codes "c") ∷ []) ((For (codes "y") (Some (codes "a")) (DynamicConstant (RangeV (pos 1) (pos 4))) (stmts ([]))) ∷ [])) ∷ (function None (codes "k") ([]) ((ExprStmt (Variable ([]) (codes "y"))) ∷ [])) ∷ []) ((Var false false (codes "m") (IntegerConstant (pos 0))) ∷ (Assignment None (Variable ([]) (codes "q")) (FnCall (callee [] (codes "f") false NoToken) (exprs ([])))) ∷ []) AtStatements (entry (codes "b") false (TextV (195 ∷ 169 ∷ [])) ∷ entry (codes "c") true (IntV (negsuc 9223372036854775807)) ∷ entry (codes "y") true (PointerV (codes "g") (values ((IntV (pos 9223372036854775806)) ∷ []))) ∷ []) 10 ≡ ends (WithStuck WriteToConstant) (entry (codes "y") true (PointerV (codes "g") (values ((IntV (pos 9223372036854775806)) ∷ []))) ∷ entry (codes "c") true (IntV (negsuc 9223372036854775807)) ∷ entry (codes "b") false (TextV (195 ∷ 169 ∷ [])) ∷ entry (codes "m") false (IntV (pos 0)) ∷ []) None (asked None (codes "f") ([]) ∷ []) 10
unfolding ran
full_9003418 = refl

-- let m = "f"
-- let a = call(<Fn(k)>, 1)
-- call debug!(>('b', 'a'), [])
-- let m = text(-1, ())
-- return {}
-- fn i64.h(m, b) { const b = <"b">; text() }
-- fn i64.f(m) {}
-- fn f(c, a) { c; return; try {} catch { 'é'; <1..2>; 63 } }
full_9003582 : ran (engine (binding (codes "c") (CharV 98) ∷ []) ([]) ([]) true) (host (named (codes "push") (AnswersThrow (IntV (negsuc 1)) ∷ AnswersThrow (RangeV (negsuc 1) (pos 0)) ∷ Answers (BoolV false) (Some UnitV) ∷ []) ∷ []) (Answers (IntV (negsuc 1)) (Some (RangeInclusiveV (negsuc 1) (pos 1))) ∷ Answers (IntV (pos 7)) (Some (CharV 233)) ∷ Answers (RangeV (pos 2) (pos 5)) None ∷ AnswersThrow UnitV ∷ []) (binding (codes "ns::a") (IntV (pos 5)) ∷ binding (codes "ns::x") (TextV (codes "")) ∷ [])) ((function (Some (codes "i64")) (codes "h") ((codes "m") ∷ (codes "b") ∷ []) ((Var true false (codes "b") (DynamicConstant (TextV (codes "b")))) ∷ (ExprStmt (InterpolatedString (exprs ([])))) ∷ [])) ∷ (function (Some (codes "i64")) (codes "f") ((codes "m") ∷ []) ([])) ∷ (function None (codes "f") ((codes "c") ∷ (codes "a") ∷ []) ((ExprStmt (Variable ([]) (codes "c"))) ∷ (Return false false no_expr) ∷ (TryCatch UnitConstant (stmts ([])) (stmts ((ExprStmt (CharConstant 233)) ∷ (ExprStmt (DynamicConstant (RangeV (pos 1) (pos 2)))) ∷ (ExprStmt (IntegerConstant (pos 63))) ∷ []))) ∷ [])) ∷ []) ((Var false false (codes "m") (StringConstant (codes "f"))) ∷ (Var false false (codes "a") (FnCall (callee [] (codes "call") false NoToken) (exprs ((DynamicConstant (PointerV (codes "k") (values (UnitV ∷ [])))) ∷ (IntegerConstant (pos 1)) ∷ [])))) ∷ (FnCallStmt (callee [] (codes "debug") true NoToken) (exprs ((FnCall (callee [] (codes ">") false (OfOperator Greater)) (exprs ((CharConstant 98) ∷ (CharConstant 97) ∷ []))) ∷ (ArrayOf (exprs ([]))) ∷ []))) ∷ (Var false false (codes "m") (InterpolatedString (exprs ((IntegerConstant (negsuc 0)) ∷ UnitConstant ∷ [])))) ∷ (Return false false (an_expr (BlockExpr (stmts ([]))))) ∷ []) AtStatements (entry (codes "x") true UnitV ∷ entry (codes "a") false (IntV (negsuc 1)) ∷ entry (codes "a") true (RangeV (negsuc 1) (negsuc 0)) ∷ []) 1 ≡ ends (WithValue UnitV) (entry (codes "a") true (RangeV (negsuc 1) (negsuc 0)) ∷ entry (codes "a") false (IntV (negsuc 1)) ∷ entry (codes "x") true UnitV ∷ entry (codes "m") false (TextV (codes "f")) ∷ entry (codes "a") false (IntV (negsuc 1)) ∷ entry (codes "m") false (TextV (codes "-1")) ∷ []) None (asked None (codes "k") (UnitV ∷ (IntV (pos 1)) ∷ []) ∷ asked None (codes "debug") ((BoolV true) ∷ (ArrayV (values ([]))) ∷ []) ∷ []) 1
unfolding ran
full_9003582 = refl

-- const x = call(<Fn(k)>, 1)
-- let a = 'é'
-- Index?!(x, Index(#{}, Dot?(-1, h(x)))) %= Index?!(a, 1)
-- const a = "f"
-- fn map.g(a, a) {}
full_9003798 : ran (engine (binding (codes "y") UnitV ∷ []) (override (codes "%=") ((codes "array") ∷ (codes "i64") ∷ []) ∷ []) (renamed (codes "i64") (codes "int") ∷ []) false) (host (named (codes "get$a") ([]) ∷ []) (Answers (IntV (negsuc 9223372036854775807)) None ∷ Answers (RangeInclusiveV (pos 2) (pos 5)) (Some (PointerV (codes "h") (values ([])))) ∷ Answers UnitV None ∷ Answers (RangeInclusiveV (pos 1) (pos 3)) None ∷ []) (binding (codes "ns::a") (IntV (pos 5)) ∷ binding (codes "ns::x") (TextV (codes "f")) ∷ [])) ((function (Some (codes "map")) (codes "g") ((codes "a") ∷ (codes "a") ∷ []) ([])) ∷ []) ((Var true false (codes "x") (FnCall (callee [] (codes "call") false NoToken) (exprs ((DynamicConstant (PointerV (codes "k") (values (UnitV ∷ [])))) ∷ (IntegerConstant (pos 1)) ∷ [])))) ∷ (Var false false (codes "a") (CharConstant 233)) ∷ (Assignment (Some Modulo) (Index (flags true true) (Variable ([]) (codes "x")) (Index (flags false false) (MapOf no_pairs ([])) (Dot (flags true false) (IntegerConstant (negsuc 0)) (MethodCall (callee [] (codes "h") false NoToken) (exprs ((Variable ([]) (codes "x")) ∷ [])))))) (Index (flags true true) (Variable ([]) (codes "a")) (IntegerConstant (pos 1)))) ∷ (Var true false (codes "a") (StringConstant (codes "f"))) ∷ []) AtStatements ([]) 0 ≡ ends (WithValue UnitV) (entry (codes "x") true (IntV (negsuc 9223372036854775807)) ∷ entry (codes "a") false (CharV 233) ∷ entry (codes "a") true (TextV (codes "f")) ∷ []) None (asked None (codes "k") (UnitV ∷ (IntV (pos 1)) ∷ []) ∷ asked (Some (CharV 233)) (codes "index$get$") ((IntV (pos 1)) ∷ []) ∷ asked (Some (MapV no_fields)) (codes "index$get$") ((IntV (negsuc 0)) ∷ []) ∷ asked (Some (IntV (negsuc 9223372036854775807))) (codes "index$get$") (UnitV ∷ []) ∷ asked None (codes "%") ((RangeInclusiveV (pos 1) (pos 3)) ∷ (RangeInclusiveV (pos 2) (pos 5)) ∷ []) ∷ asked (Some (IntV (negsuc 9223372036854775807))) (codes "index$set$") (UnitV ∷ UnitV ∷ []) ∷ []) 0
unfolding ran
full_9003798 = refl

-- let m = -9223372036854775808
-- const x = 'a'
-- const b = <Fn(f)>
-- let a = 2
-- Dot(a, Dot(h(), a)) ^= b
-- switch coalesce(<'z'>, true, ns::a) { false: 0 0 | 2..5: 0 | default 1 | true => Dot(a, Dot(b, Index!(b, "b"))), true => m }
-- fn i64.h() { if { Fn("1a"); true } { 'é'; () } else { <Fn(h)> } }
-- fn map.h(y) { noop; const b = "f"; block { 7 }; return coalesce("é") }
full_9003845 : ran (engine (binding (codes "y") (PointerV (codes "g") (values ([]))) ∷ binding (codes "a") (CharV 97) ∷ []) (override (codes "-") ((codes "range") ∷ (codes "i64") ∷ []) ∷ override (codes "-=") ((codes "range") ∷ (codes "range=") ∷ []) ∷ override (codes "..") ((codes "i64") ∷ (codes "()") ∷ []) ∷ override (codes "..") ((codes "i64") ∷ (codes "i64") ∷ []) ∷ override (codes "<<") ((codes "()") ∷ []) ∷ override (codes "<<=") ((codes "i64") ∷ (codes "i64") ∷ []) ∷ override (codes "==") ((codes "array") ∷ []) ∷ override (codes ">=") ((codes "range=") ∷ []) ∷ override (codes ">>") ((codes "i64") ∷ (codes "i64") ∷ []) ∷ []) ([]) false) (host (named (codes "get$a") (Answers (IntV (pos 0)) None ∷ AnswersThrow (IntV (pos 0)) ∷ Answers UnitV (Some UnitV) ∷ []) ∷ []) (Answers (RangeV (negsuc 0) (pos 0)) None ∷ Answers (IntV (pos 2)) None ∷ Answers (IntV (negsuc 1)) None ∷ Answers (RangeInclusiveV (negsuc 1) (pos 1)) (Some (ArrayV (values ([])))) ∷ Answers (BoolV true) None ∷ []) (binding (codes "ns::a") (IntV (pos 5)) ∷ binding (codes "ns::x") UnitV ∷ [])) ((function (Some (codes "i64")) (codes "h") ([]) ((If (BlockExpr (stmts ((ExprStmt (FnCall (callee [] (codes "Fn") false NoToken) (exprs ((StringConstant (codes "1a")) ∷ [])))) ∷ (ExprStmt (BoolConstant true)) ∷ []))) (stmts ((ExprStmt (CharConstant 233)) ∷ (ExprStmt UnitConstant) ∷ [])) (stmts ((ExprStmt (DynamicConstant (PointerV (codes "h") (values ([]))))) ∷ []))) ∷ [])) ∷ (function (Some (codes "map")) (codes "h") ((codes "y") ∷ []) (Noop ∷ (Var true false (codes "b") (StringConstant (codes "f"))) ∷ (Block (stmts ((ExprStmt (IntegerConstant (pos 7))) ∷ []))) ∷ (Return false false (an_expr (Coalesce (exprs ((StringConstant (195 ∷ 169 ∷ [])) ∷ []))))) ∷ [])) ∷ []) ((Var false false (codes "m") (IntegerConstant (negsuc 9223372036854775807))) ∷ (Var true false (codes "x") (CharConstant 97)) ∷ (Var true false (codes "b") (DynamicConstant (PointerV (codes "f") (values ((CharV 98) ∷ []))))) ∷ (Var false false (codes "a") (IntegerConstant (pos 2))) ∷ (Assignment (Some BitXor) (Dot (flags false false) (Variable ([]) (codes "a")) (Dot (flags false false) (MethodCall (callee [] (codes "h") false NoToken) (exprs ([]))) (property (codes "get$a") (codes "set$a") (codes "a")))) (Variable ([]) (codes "b"))) ∷ (Switch (Coalesce (exprs ((DynamicConstant (CharV 122)) ∷ (BoolConstant true) ∷ (Variable ((codes "ns") ∷ []) (codes "a")) ∷ []))) (arm (BoolConstant true) (Dot (flags false false) (Variable ([]) (codes "a")) (Dot (flags false false) (property (codes "get$b") (codes "set$b") (codes "b")) (Index (flags false true) (property (codes "get$b") (codes "set$b") (codes "b")) (StringConstant (codes "b"))))) (arm (BoolConstant true) (Variable ([]) (codes "m")) no_arms)) (table (case (BoolV false) (0 ∷ 0 ∷ []) ∷ []) (record { range = ExclusiveInt (pos 2) (pos 5); arm = 0 } ∷ []) (Some 1))) ∷ []) AtStatements (entry (codes "c") false (MapV (field (codes "a") (IntV (pos 3)) (field (codes "k") (BoolV true) no_fields))) ∷ entry (codes "a") true (IntV (pos 0)) ∷ entry (codes "b") true (IntV (negsuc 1)) ∷ []) 3 ≡ ends (WithThrown (TextV (codes "function name"))) (entry (codes "b") true (IntV (negsuc 1)) ∷ entry (codes "a") true (IntV (pos 0)) ∷ entry (codes "c") false (MapV (field (codes "a") (IntV (pos 3)) (field (codes "k") (BoolV true) no_fields))) ∷ entry (codes "m") false (IntV (negsuc 9223372036854775807)) ∷ entry (codes "x") true (CharV 97) ∷ entry (codes "b") true (PointerV (codes "f") (values ((CharV 98) ∷ []))) ∷ entry (codes "a") false (IntV (pos 2)) ∷ []) None ([]) 2
unfolding ran
full_9003845 = refl

-- const m = 'a'
-- const m = m
-- let y = "a"
-- let x = ()
-- Index(x, Dot?("b", Dot(Fn(), b)))
-- block { for x in <[true]> { (); call(<Fn(k)>, 1) } }
full_9003863 : ran (engine (binding (codes "c") (BoolV false) ∷ []) (override (codes "/=") ((codes "char") ∷ []) ∷ override (codes "<") ((codes "array") ∷ (codes "range") ∷ []) ∷ override (codes ">") ((codes "i64") ∷ (codes "i64") ∷ []) ∷ []) ([]) false) (host (named (codes "push") (Answers (IntV (pos 64)) (Some (BoolV false)) ∷ Answers (IntV (pos 2)) (Some (RangeInclusiveV (pos 2) (pos 4))) ∷ []) ∷ named (codes "f") ([]) ∷ []) (Answers (RangeV (negsuc 0) (negsuc 1)) (Some (ArrayV (values (UnitV ∷ [])))) ∷ Answers (ArrayV (values ((CharV 122) ∷ []))) (Some (TextV (codes "a"))) ∷ Answers (CharV 98) (Some (TextV (codes "a"))) ∷ Answers (PointerV (codes "g") (values ((CharV 97) ∷ []))) None ∷ []) (binding (codes "ns::a") (IntV (pos 5)) ∷ binding (codes "ns::x") (IntV (negsuc 0)) ∷ [])) ([]) ((Var true false (codes "m") (CharConstant 97)) ∷ (Var true false (codes "m") (Variable ([]) (codes "m"))) ∷ (Var false false (codes "y") (StringConstant (codes "a"))) ∷ (Var false false (codes "x") UnitConstant) ∷ (ExprStmt (Index (flags false false) (Variable ([]) (codes "x")) (Dot (flags true false) (StringConstant (codes "b")) (Dot (flags false false) (MethodCall (callee [] (codes "Fn") false NoToken) (exprs ([]))) (property (codes "get$b") (codes "set$b") (codes "b")))))) ∷ (Block (stmts ((For (codes "x") None (DynamicConstant (ArrayV (values ((BoolV true) ∷ [])))) (stmts ((ExprStmt UnitConstant) ∷ (ExprStmt (FnCall (callee [] (codes "call") false NoToken) (exprs ((DynamicConstant (PointerV (codes "k") (values (UnitV ∷ [])))) ∷ (IntegerConstant (pos 1)) ∷ [])))) ∷ []))) ∷ []))) ∷ []) AtStatements (entry (codes "a") false (CharV 233) ∷ []) 2 ≡ ends (WithValue UnitV) (entry (codes "a") false (CharV 233) ∷ entry (codes "m") true (CharV 97) ∷ entry (codes "m") true (CharV 97) ∷ entry (codes "y") false (TextV (codes "a")) ∷ entry (codes "x") false UnitV ∷ []) None (asked (Some UnitV) (codes "index$get$") ((TextV (codes "b")) ∷ []) ∷ asked (Some (RangeV (negsuc 0) (negsuc 1))) (codes "Fn") ([]) ∷ asked (Some (ArrayV (values ((CharV 122) ∷ [])))) (codes "get$b") ([]) ∷ asked None (codes "k") (UnitV ∷ (IntV (pos 1)) ∷ []) ∷ []) 1
unfolding ran
full_9003863 = refl

-- const a = <#{"k": [-1..0]}>
-- let m = <#{"b": ['é', [-9223372036854775808, -2]]}>
-- let x = <#{"a": ['a', "ab", Fn(h)], "b": #{"b": (), "k": Fn(h)}, "k": [#{"a": 9223372036854775807, "k": ()}, ()]}>
-- Index(a, Dot({ x = <#{"k": ()}>; block { let y = 7; print(k()) } }, Dot(a, a))) %= { "a" }
-- Dot(a, b) = { 0 }
-- fn array.f(c) {}
-- fn k() { y }
chains_9100019 : ran (engine (binding (codes "c") (IntV (pos 7)) ∷ binding (codes "y") (CharV 122) ∷ []) (override (codes "%=") ((codes "i64") ∷ (codes "i64") ∷ []) ∷ []) (renamed (codes "i64") (codes "int") ∷ []) false) (host (named (codes "push") (Answers (PointerV (codes "h") (values ([]))) (Some (RangeV (pos 3) (pos 3))) ∷ Answers (TextV (codes "")) (Some (ArrayV (values ((TextV (codes "b")) ∷ (IntV (negsuc 9223372036854775807)) ∷ (IntV (negsuc 9223372036854775807)) ∷ [])))) ∷ Answers (IntV (negsuc 1)) None ∷ []) ∷ []) (Answers (PointerV (codes "h") (values ([]))) (Some (PointerV (codes "g") (values ((CharV 233) ∷ [])))) ∷ AnswersThrow (CharV 98) ∷ []) (binding (codes "ns::a") (IntV (pos 5)) ∷ binding (codes "ns::x") (RangeV (negsuc 1) (pos 1)) ∷ [])) ((function (Some (codes "array")) (codes "f") ((codes "c") ∷ []) ([])) ∷ (function None (codes "k") ([]) ((ExprStmt (Variable ([]) (codes "y"))) ∷ [])) ∷ []) ((Var true false (codes "a") (DynamicConstant (MapV (field (codes "k") (ArrayV (values ((RangeV (negsuc 0) (pos 0)) ∷ []))) no_fields)))) ∷ (Var false false (codes "m") (DynamicConstant (MapV (field (codes "b") (ArrayV (values ((CharV 233) ∷ (ArrayV (values ((IntV (negsuc 9223372036854775807)) ∷ (IntV (negsuc 1)) ∷ []))) ∷ []))) no_fields)))) ∷ (Var false false (codes "x") (DynamicConstant (MapV (field (codes "a") (ArrayV (values ((CharV 97) ∷ (TextV (codes "ab")) ∷ (PointerV (codes "h") (values ([]))) ∷ []))) (field (codes "b") (MapV (field (codes "b") UnitV (field (codes "k") (PointerV (codes "h") (values ((IntV (pos 2)) ∷ []))) no_fields))) (field (codes "k") (ArrayV (values ((MapV (field (codes "a") (IntV (pos 9223372036854775807)) (field (codes "k") UnitV no_fields))) ∷ UnitV ∷ []))) no_fields)))))) ∷ (Assignment (Some Modulo) (Index (flags false false) (Variable ([]) (codes "a")) (Dot (flags false false) (BlockExpr (stmts ((Assignment None (Variable ([]) (codes "x")) (DynamicConstant (MapV (field (codes "k") UnitV no_fields)))) ∷ (Block (stmts ((Var false false (codes "y") (IntegerConstant (pos 7))) ∷ (ExprStmt (FnCall (callee [] (codes "print") false NoToken) (exprs ((FnCall (callee [] (codes "k") false NoToken) (exprs ([]))) ∷ [])))) ∷ []))) ∷ []))) (Dot (flags false false) (property (codes "get$a") (codes "set$a") (codes "a")) (property (codes "get$a") (codes "set$a") (codes "a"))))) (BlockExpr (stmts ((ExprStmt (StringConstant (codes "a"))) ∷ [])))) ∷ (Assignment None (Dot (flags false false) (Variable ([]) (codes "a")) (property (codes "get$b") (codes "set$b") (codes "b"))) (BlockExpr (stmts ((ExprStmt (IntegerConstant (pos 0))) ∷ [])))) ∷ []) AtStatements (entry (codes "x") false (ArrayV (values ((IntV (negsuc 9223372036854775807)) ∷ (IntV (pos 3)) ∷ (TextV (codes "")) ∷ []))) ∷ []) 1 ≡ ends (WithThrown (CharV 98)) (entry (codes "x") false (ArrayV (values ((IntV (negsuc 9223372036854775807)) ∷ (IntV (pos 3)) ∷ (TextV (codes "")) ∷ []))) ∷ entry (codes "a") true (MapV (field (codes "k") (ArrayV (values ((RangeV (negsuc 0) (pos 0)) ∷ []))) no_fields)) ∷ entry (codes "m") false (MapV (field (codes "b") (ArrayV (values ((CharV 233) ∷ (ArrayV (values ((IntV (negsuc 9223372036854775807)) ∷ (IntV (negsuc 1)) ∷ []))) ∷ []))) no_fields)) ∷ entry (codes "x") false (MapV (field (codes "k") UnitV no_fields)) ∷ []) None (asked None (codes "print") ((CharV 122) ∷ []) ∷ asked (Some (MapV (field (codes "k") (ArrayV (values ((RangeV (negsuc 0) (pos 0)) ∷ []))) no_fields))) (codes "index$get$") ((PointerV (codes "h") (values ([]))) ∷ []) ∷ []) 0
unfolding ran
chains_9100019 = refl

-- const a = <#{"a": #{"k": Fn(h)}, "b": [Fn(f)], "k": ['é', 9223372036854775807, ()]}>
-- let m = <#{"a": #{"k": 'é'}, "b": #{"b": #{"a": true, "b": ()}}}>
-- let x = <#{"a": [9223372036854775807, -2, 0], "k": ['a', ()]}>
-- try { Index(<[false]>, Index!({ x = <#{"a": 1..1}>; "a" }, { 0 })) } catch c {}
-- Dot(a, Index!(k, 2)) <<= { for (a, b) in <[5, 6]> { print(b); print(a) } }
-- Dot(m, Dot(a, k)) = { x = <[-1..=2]>; "k" }
-- fn ().push(y) { this = <['z']> }
-- fn ().f() {}
-- fn k() { y }
chains_9100049 : ran (engine (binding (codes "m") (CharV 97) ∷ binding (codes "m") (MapV no_fields) ∷ []) ([]) ([]) false) (host (named (codes "index$get$") ([]) ∷ []) (AnswersThrow (TextV (codes "b")) ∷ []) (binding (codes "ns::a") (IntV (pos 5)) ∷ binding (codes "ns::x") (IntV (negsuc 0)) ∷ [])) ((function (Some (codes "()")) (codes "push") ((codes "y") ∷ []) ((Assignment None ThisPtr (DynamicConstant (ArrayV (values ((CharV 122) ∷ []))))) ∷ [])) ∷ (function (Some (codes "()")) (codes "f") ([]) ([])) ∷ (function None (codes "k") ([]) ((ExprStmt (Variable ([]) (codes "y"))) ∷ [])) ∷ []) ((Var true false (codes "a") (DynamicConstant (MapV (field (codes "a") (MapV (field (codes "k") (PointerV (codes "h") (values ([]))) no_fields)) (field (codes "b") (ArrayV (values ((PointerV (codes "f") (values (UnitV ∷ []))) ∷ []))) (field (codes "k") (ArrayV (values ((CharV 233) ∷ (IntV (pos 9223372036854775807)) ∷ UnitV ∷ []))) no_fields)))))) ∷ (Var false false (codes "m") (DynamicConstant (MapV (field (codes "a") (MapV (field (codes "k") (CharV 233) no_fields)) (field (codes "b") (MapV (field (codes "b") (MapV (field (codes "a") (BoolV true) (field (codes "b") UnitV no_fields))) no_fields)) no_fields))))) ∷ (Var false false (codes "x") (DynamicConstant (MapV (field (codes "a") (ArrayV (values ((IntV (pos 9223372036854775807)) ∷ (IntV (negsuc 1)) ∷ (IntV (pos 0)) ∷ []))) (field (codes "k") (ArrayV (values ((CharV 97) ∷ UnitV ∷ []))) no_fields))))) ∷ (TryCatch (Variable ([]) (codes "c")) (stmts ((ExprStmt (Index (flags false false) (DynamicConstant (ArrayV (values ((BoolV false) ∷ [])))) (Index (flags false true) (BlockExpr (stmts ((Assignment None (Variable ([]) (codes "x")) (DynamicConstant (MapV (field (codes "a") (RangeV (pos 1) (pos 1)) no_fields)))) ∷ (ExprStmt (StringConstant (codes "a"))) ∷ []))) (BlockExpr (stmts ((ExprStmt (IntegerConstant (pos 0))) ∷ [])))))) ∷ [])) (stmts ([]))) ∷ (Assignment (Some ShiftLeft) (Dot (flags false false) (Variable ([]) (codes "a")) (Index (flags false true) (property (codes "get$k") (codes "set$k") (codes "k")) (IntegerConstant (pos 2)))) (BlockExpr (stmts ((For (codes "a") (Some (codes "b")) (DynamicConstant (ArrayV (values ((IntV (pos 5)) ∷ (IntV (pos 6)) ∷ [])))) (stmts ((ExprStmt (FnCall (callee [] (codes "print") false NoToken) (exprs ((Variable ([]) (codes "b")) ∷ [])))) ∷ (ExprStmt (FnCall (callee [] (codes "print") false NoToken) (exprs ((Variable ([]) (codes "a")) ∷ [])))) ∷ []))) ∷ [])))) ∷ (Assignment None (Dot (flags false false) (Variable ([]) (codes "m")) (Dot (flags false false) (property (codes "get$a") (codes "set$a") (codes "a")) (property (codes "get$k") (codes "set$k") (codes "k")))) (BlockExpr (stmts ((Assignment None (Variable ([]) (codes "x")) (DynamicConstant (ArrayV (values ((RangeInclusiveV (negsuc 0) (pos 2)) ∷ []))))) ∷ (ExprStmt (StringConstant (codes "k"))) ∷ [])))) ∷ []) AtStatements (entry (codes "y") false (IntV (pos 64)) ∷ []) 2 ≡ ends (WithStuck WriteToConstant) (entry (codes "y") false (IntV (pos 64)) ∷ entry (codes "a") true (MapV (field (codes "a") (MapV (field (codes "k") (PointerV (codes "h") (values ([]))) no_fields)) (field (codes "b") (ArrayV (values ((PointerV (codes "f") (values (UnitV ∷ []))) ∷ []))) (field (codes "k") (ArrayV (values ((CharV 233) ∷ (IntV (pos 9223372036854775807)) ∷ UnitV ∷ []))) no_fields)))) ∷ entry (codes "m") false (MapV (field (codes "a") (MapV (field (codes "k") (CharV 233) no_fields)) (field (codes "b") (MapV (field (codes "b") (MapV (field (codes "a") (BoolV true) (field (codes "b") UnitV no_fields))) no_fields)) no_fields))) ∷ entry (codes "x") false (MapV (field (codes "a") (RangeV (pos 1) (pos 1)) no_fields)) ∷ []) None (asked (Some (ArrayV (values ((BoolV false) ∷ [])))) (codes "index$get$") ((TextV (codes "a")) ∷ []) ∷ asked (Some UnitV) (codes "index$get$") ((IntV (pos 0)) ∷ []) ∷ asked None (codes "print") ((IntV (pos 0)) ∷ []) ∷ asked None (codes "print") ((IntV (pos 5)) ∷ []) ∷ asked None (codes "print") ((IntV (pos 1)) ∷ []) ∷ asked None (codes "print") ((IntV (pos 6)) ∷ []) ∷ asked None (codes "<<") (UnitV ∷ UnitV ∷ []) ∷ []) 0
unfolding ran
chains_9100049 = refl

-- let a = <#{"a": [Fn(h), [-1], 'b'], "b": [2..=5, Fn(h)], "k": [#{"k": "f"}, -9223372036854775808]}>
-- let m = <-1>
-- const x = <#{"b": [-9223372036854775808, Fn(f)], "k": ["ab", (), -1]}>
-- try { for (a, a) in <5..7> { print(a) } } catch c {}
-- try { Dot(a, k) } catch c {}
-- fn i64.f() { this = <[true, 1..0]>; this = <#{"b": "", "k": ()}>; throw this }
-- fn string.f() {}
-- fn array.push() { this = <[1..=1, Fn(h)]>; this = <#{"b": ()}> }
-- fn string.push(y) { this = <[(), Fn(g), -9223372036854775808]>; this = <[]>; throw this }
-- fn k() { y }
chains_9100161 : ran (engine (binding (codes "y") (ArrayV (values (UnitV ∷ (IntV (negsuc 9223372036854775807)) ∷ []))) ∷ []) (override (codes "!") ((codes "bool") ∷ (codes "bool") ∷ []) ∷ override (codes "!=") ((codes "array") ∷ []) ∷ override (codes "**") ((codes "i64") ∷ (codes "i64") ∷ []) ∷ override (codes "**=") ((codes "i64") ∷ (codes "i64") ∷ []) ∷ override (codes "**=") ((codes "range") ∷ []) ∷ override (codes "*=") ((codes "i64") ∷ []) ∷ override (codes "-") ((codes "array") ∷ (codes "char") ∷ []) ∷ override (codes "==") ((codes "i64") ∷ (codes "i64") ∷ []) ∷ override (codes ">>") ((codes "range") ∷ (codes "range") ∷ []) ∷ []) (renamed (codes "i64") (codes "int") ∷ []) false) (host (named (codes "h") (Answers (RangeV (negsuc 1) (pos 1)) None ∷ AnswersThrow (MapV no_fields) ∷ Answers (MapV (field (codes "b") UnitV no_fields)) None ∷ Answers (CharV 233) None ∷ Answers (PointerV (codes "h") (values ([]))) None ∷ []) ∷ named (codes "get$a") (Answers (IntV (pos 0)) None ∷ []) ∷ []) (Answers (CharV 98) None ∷ Answers (TextV (codes "a")) (Some (IntV (pos 3))) ∷ []) (binding (codes "ns::a") (IntV (pos 5)) ∷ binding (codes "ns::x") (IntV (pos 64)) ∷ [])) ((function (Some (codes "i64")) (codes "f") ([]) ((Assignment None ThisPtr (DynamicConstant (ArrayV (values ((BoolV true) ∷ (RangeV (pos 1) (pos 0)) ∷ []))))) ∷ (Assignment None ThisPtr (DynamicConstant (MapV (field (codes "b") (TextV (codes "")) (field (codes "k") UnitV no_fields))))) ∷ (Return true false (an_expr ThisPtr)) ∷ [])) ∷ (function (Some (codes "string")) (codes "f") ([]) ([])) ∷ (function (Some (codes "array")) (codes "push") ([]) ((Assignment None ThisPtr (DynamicConstant (ArrayV (values ((RangeInclusiveV (pos 1) (pos 1)) ∷ (PointerV (codes "h") (values ([]))) ∷ []))))) ∷ (Assignment None ThisPtr (DynamicConstant (MapV (field (codes "b") UnitV no_fields)))) ∷ [])) ∷ (function (Some (codes "string")) (codes "push") ((codes "y") ∷ []) ((Assignment None ThisPtr (DynamicConstant (ArrayV (values (UnitV ∷ (PointerV (codes "g") (values ((TextV (codes "a")) ∷ []))) ∷ (IntV (negsuc 9223372036854775807)) ∷ []))))) ∷ (Assignment None ThisPtr (DynamicConstant (ArrayV (values ([]))))) ∷ (Return true false (an_expr ThisPtr)) ∷ [])) ∷ (function None (codes "k") ([]) ((ExprStmt (Variable ([]) (codes "y"))) ∷ [])) ∷ []) ((Var false false (codes "a") (DynamicConstant (MapV (field (codes "a") (ArrayV (values ((PointerV (codes "h") (values (UnitV ∷ []))) ∷ (ArrayV (values ((IntV (negsuc 0)) ∷ []))) ∷ (CharV 98) ∷ []))) (field (codes "b") (ArrayV (values ((RangeInclusiveV (pos 2) (pos 5)) ∷ (PointerV (codes "h") (values ([]))) ∷ []))) (field (codes "k") (ArrayV (values ((MapV (field (codes "k") (TextV (codes "f")) no_fields)) ∷ (IntV (negsuc 9223372036854775807)) ∷ []))) no_fields)))))) ∷ (Var false false (codes "m") (DynamicConstant (IntV (negsuc 0)))) ∷ (Var true false (codes "x") (DynamicConstant (MapV (field (codes "b") (ArrayV (values ((IntV (negsuc 9223372036854775807)) ∷ (PointerV (codes "f") (values ([]))) ∷ []))) (field (codes "k") (ArrayV (values ((TextV (codes "ab")) ∷ UnitV ∷ (IntV (negsuc 0)) ∷ []))) no_fields))))) ∷ (TryCatch (Variable ([]) (codes "c")) (stmts ((For (codes "a") (Some (codes "a")) (DynamicConstant (RangeV (pos 5) (pos 7))) (stmts ((ExprStmt (FnCall (callee [] (codes "print") false NoToken) (exprs ((Variable ([]) (codes "a")) ∷ [])))) ∷ []))) ∷ [])) (stmts ([]))) ∷ (TryCatch (Variable ([]) (codes "c")) (stmts ((ExprStmt (Dot (flags false false) (Variable ([]) (codes "a")) (property (codes "get$k") (codes "set$k") (codes "k")))) ∷ [])) (stmts ([]))) ∷ []) AtStatements ([]) 5 ≡ ends (WithValue UnitV) (entry (codes "a") false (MapV (field (codes "a") (ArrayV (values ((PointerV (codes "h") (values (UnitV ∷ []))) ∷ (ArrayV (values ((IntV (negsuc 0)) ∷ []))) ∷ (CharV 98) ∷ []))) (field (codes "b") (ArrayV (values ((RangeInclusiveV (pos 2) (pos 5)) ∷ (PointerV (codes "h") (values ([]))) ∷ []))) (field (codes "k") (ArrayV (values ((MapV (field (codes "k") (TextV (codes "f")) no_fields)) ∷ (IntV (negsuc 9223372036854775807)) ∷ []))) no_fields)))) ∷ entry (codes "m") false (IntV (negsuc 0)) ∷ entry (codes "x") true (MapV (field (codes "b") (ArrayV (values ((IntV (negsuc 9223372036854775807)) ∷ (PointerV (codes "f") (values ([]))) ∷ []))) (field (codes "k") (ArrayV (values ((TextV (codes "ab")) ∷ UnitV ∷ (IntV (negsuc 0)) ∷ []))) no_fields))) ∷ []) None (asked None (codes "print") ((IntV (pos 5)) ∷ []) ∷ asked None (codes "print") ((IntV (pos 6)) ∷ []) ∷ []) 3
unfolding ran
chains_9100161 = refl

-- let a = call(Fn("f"), 1)
-- let m = <#{"b": [7, true, 'a']}>
-- const x = <2..2>
-- try { Dot(m, Index(h(true), Index?!(1, { 2 }))) } catch c {}
-- Index(a, Dot(-1, b)) = +(Index(a, Dot(-1, b)), 1)
-- fn array.f() { this = <[Fn(g), true]>; this = <[-1..-2]> }
-- fn map.h(m) { Index!(this, 0) = <false>; throw this }
chains_9100169 : ran (engine (binding (codes "a") (MapV (field (codes "b") (BoolV true) no_fields)) ∷ binding (codes "b") (BoolV true) ∷ []) ([]) ([]) false) (host (named (codes "h") (Answers (BoolV true) (Some (IntV (negsuc 9223372036854775807))) ∷ []) ∷ named (codes "f") (Answers (TextV (codes "f")) None ∷ AnswersThrow (BoolV false) ∷ []) ∷ []) ([]) (binding (codes "ns::a") (IntV (pos 5)) ∷ binding (codes "ns::x") (TextV (codes "")) ∷ [])) ((function (Some (codes "array")) (codes "f") ([]) ((Assignment None ThisPtr (DynamicConstant (ArrayV (values ((PointerV (codes "g") (values ((IntV (pos 63)) ∷ []))) ∷ (BoolV true) ∷ []))))) ∷ (Assignment None ThisPtr (DynamicConstant (ArrayV (values ((RangeV (negsuc 0) (negsuc 1)) ∷ []))))) ∷ [])) ∷ (function (Some (codes "map")) (codes "h") ((codes "m") ∷ []) ((Assignment None (Index (flags false true) ThisPtr (IntegerConstant (pos 0))) (DynamicConstant (BoolV false))) ∷ (Return true false (an_expr ThisPtr)) ∷ [])) ∷ []) ((Var false false (codes "a") (FnCall (callee [] (codes "call") false NoToken) (exprs ((FnCall (callee [] (codes "Fn") false NoToken) (exprs ((StringConstant (codes "f")) ∷ []))) ∷ (IntegerConstant (pos 1)) ∷ [])))) ∷ (Var false false (codes "m") (DynamicConstant (MapV (field (codes "b") (ArrayV (values ((IntV (pos 7)) ∷ (BoolV true) ∷ (CharV 97) ∷ []))) no_fields)))) ∷ (Var true false (codes "x") (DynamicConstant (RangeV (pos 2) (pos 2)))) ∷ (TryCatch (Variable ([]) (codes "c")) (stmts ((ExprStmt (Dot (flags false false) (Variable ([]) (codes "m")) (Index (flags false false) (MethodCall (callee [] (codes "h") false NoToken) (exprs ((BoolConstant true) ∷ []))) (Index (flags true true) (IntegerConstant (pos 1)) (BlockExpr (stmts ((ExprStmt (IntegerConstant (pos 2))) ∷ []))))))) ∷ [])) (stmts ([]))) ∷ (Assignment None (Index (flags false false) (Variable ([]) (codes "a")) (Dot (flags false false) (IntegerConstant (negsuc 0)) (property (codes "get$b") (codes "set$b") (codes "b")))) (FnCall (callee [] (codes "+") false (OfOperator Plus)) (exprs ((Index (flags false false) (Variable ([]) (codes "a")) (Dot (flags false false) (IntegerConstant (negsuc 0)) (property (codes "get$b") (codes "set$b") (codes "b")))) ∷ (IntegerConstant (pos 1)) ∷ [])))) ∷ []) AtStatements (entry (codes "y") false (TextV (codes "ab")) ∷ []) 1 ≡ ends (WithStuck NoPlace) (entry (codes "y") false (TextV (codes "ab")) ∷ entry (codes "a") false (TextV (codes "f")) ∷ entry (codes "m") false (MapV (field (codes "b") (ArrayV (values ((IntV (pos 7)) ∷ (BoolV true) ∷ (CharV 97) ∷ []))) no_fields)) ∷ entry (codes "x") true (RangeV (pos 2) (pos 2)) ∷ []) None (asked None (codes "f") ((IntV (pos 1)) ∷ []) ∷ asked (Some (MapV (field (codes "b") (ArrayV (values ((IntV (pos 7)) ∷ (BoolV true) ∷ (CharV 97) ∷ []))) no_fields))) (codes "index$set$") ((IntV (pos 0)) ∷ (BoolV false) ∷ []) ∷ asked (Some (CharV 102)) (codes "get$b") ([]) ∷ asked None (codes "+") (UnitV ∷ (IntV (pos 1)) ∷ []) ∷ []) 0
unfolding ran
chains_9100169 = refl

-- let a = <#{"a": #{"b": #{"a": 'z', "b": 2}}, "b": "f", "k": 'é'}>
-- let m = <#{"a": [true, Fn(g), #{}], "b": [()], "k": #{"a": [], "b": "ab", "k": 'z'}}>
-- const x = <false>
-- let y = Dot(m, Index?(h(), Index!({ 1 }, -1)))
-- fn map.f(c) { this = <#{"a": "ab", "k": Fn(f)}> }
-- fn string.f(b) { this = <['a']>; this = <#{"b": (), "k": ()}> }
-- fn map.h() { return this }
-- fn array.g(y) { this = <#{"a": 3, "k": []}>; this = <["b", false, true]>; return this }
chains_9100414 : ran (engine (binding (codes "m") (ArrayV (values ((BoolV true) ∷ []))) ∷ binding (codes "x") (RangeInclusiveV (negsuc 0) (negsuc 0)) ∷ []) ([]) ([]) false) (host (named (codes "g") (Answers (MapV (field (codes "a") (IntV (pos 0)) no_fields)) (Some (PointerV (codes "f") (values ([])))) ∷ Answers (IntV (pos 0)) None ∷ Answers (BoolV false) None ∷ []) ∷ []) (Answers (RangeInclusiveV (negsuc 1) (negsuc 0)) (Some (BoolV false)) ∷ Answers (TextV (codes "f")) None ∷ []) (binding (codes "ns::a") (IntV (pos 5)) ∷ binding (codes "ns::x") UnitV ∷ [])) ((function (Some (codes "map")) (codes "f") ((codes "c") ∷ []) ((Assignment None ThisPtr (DynamicConstant (MapV (field (codes "a") (TextV (codes "ab")) (field (codes "k") (PointerV (codes "f") (values ([]))) no_fields))))) ∷ [])) ∷ (function (Some (codes "string")) (codes "f") ((codes "b") ∷ []) ((Assignment None ThisPtr (DynamicConstant (ArrayV (values ((CharV 97) ∷ []))))) ∷ (Assignment None ThisPtr (DynamicConstant (MapV (field (codes "b") UnitV (field (codes "k") UnitV no_fields))))) ∷ [])) ∷ (function (Some (codes "map")) (codes "h") ([]) ((Return false false (an_expr ThisPtr)) ∷ [])) ∷ (function (Some (codes "array")) (codes "g") ((codes "y") ∷ []) ((Assignment None ThisPtr (DynamicConstant (MapV (field (codes "a") (IntV (pos 3)) (field (codes "k") (ArrayV (values ([]))) no_fields))))) ∷ (Assignment None ThisPtr (DynamicConstant (ArrayV (values ((TextV (codes "b")) ∷ (BoolV false) ∷ (BoolV true) ∷ []))))) ∷ (Return false false (an_expr ThisPtr)) ∷ [])) ∷ []) ((Var false false (codes "a") (DynamicConstant (MapV (field (codes "a") (MapV (field (codes "b") (MapV (field (codes "a") (CharV 122) (field (codes "b") (IntV (pos 2)) no_fields))) no_fields)) (field (codes "b") (TextV (codes "f")) (field (codes "k") (CharV 233) no_fields)))))) ∷ (Var false false (codes "m") (DynamicConstant (MapV (field (codes "a") (ArrayV (values ((BoolV true) ∷ (PointerV (codes "g") (values ([]))) ∷ (MapV no_fields) ∷ []))) (field (codes "b") (ArrayV (values (UnitV ∷ []))) (field (codes "k") (MapV (field (codes "a") (ArrayV (values ([]))) (field (codes "b") (TextV (codes "ab")) (field (codes "k") (CharV 122) no_fields)))) no_fields)))))) ∷ (Var true false (codes "x") (DynamicConstant (BoolV false))) ∷ (Var false false (codes "y") (Dot (flags false false) (Variable ([]) (codes "m")) (Index (flags true false) (MethodCall (callee [] (codes "h") false NoToken) (exprs ([]))) (Index (flags false true) (BlockExpr (stmts ((ExprStmt (IntegerConstant (pos 1))) ∷ []))) (IntegerConstant (negsuc 0)))))) ∷ []) AtStatements (entry (codes "a") false (CharV 97) ∷ entry (codes "y") false (PointerV (codes "f") (values ((TextV (codes "ab")) ∷ []))) ∷ entry (codes "m") false (IntV (pos 3)) ∷ []) 0 ≡ ends WithoutTurns (entry (codes "m") false (IntV (pos 3)) ∷ entry (codes "y") false (PointerV (codes "f") (values ((TextV (codes "ab")) ∷ []))) ∷ entry (codes "a") false (CharV 97) ∷ entry (codes "a") false (MapV (field (codes "a") (MapV (field (codes "b") (MapV (field (codes "a") (CharV 122) (field (codes "b") (IntV (pos 2)) no_fields))) no_fields)) (field (codes "b") (TextV (codes "f")) (field (codes "k") (CharV 233) no_fields)))) ∷ entry (codes "m") false (MapV (field (codes "a") (ArrayV (values ((BoolV true) ∷ (PointerV (codes "g") (values ([]))) ∷ (MapV no_fields) ∷ []))) (field (codes "b") (ArrayV (values (UnitV ∷ []))) (field (codes "k") (MapV (field (codes "a") (ArrayV (values ([]))) (field (codes "b") (TextV (codes "ab")) (field (codes "k") (CharV 122) no_fields)))) no_fields)))) ∷ entry (codes "x") true (BoolV false) ∷ []) None ([]) 0
unfolding ran
chains_9100414 = refl

-- let a = <#{"b": [true, "a"], "k": [Fn(g), false]}>
-- let m = ()
-- const x = <#{"b": #{"k": 9223372036854775806}}>
-- Dot(a, b) |= { Dot(a, b) = <#{"a": 'z', "b": 'b', "k": Fn(f)}>; "k" }
-- Dot(m, a) *= { Dot(a, k) = <false>; -1 }
-- Dot(a, Dot(a, k)) = { Dot(m, a) = <[true, true, Fn(g)]>; print(ns::q) }
-- fn ().g(x) { return this }
-- fn k() { y }
chains_9100474 : ran (engine (binding (codes "q") (ArrayV (values ((IntV (pos 7)) ∷ (TextV (codes "")) ∷ (IntV (pos 2)) ∷ []))) ∷ []) (override (codes "*=") ((codes "array") ∷ (codes "i64") ∷ []) ∷ override (codes "|") ((codes "i64") ∷ (codes "i64") ∷ []) ∷ override (codes "|=") ((codes "array") ∷ (codes "i64") ∷ []) ∷ []) ([]) false) (host ([]) (Answers (MapV no_fields) (Some (IntV (pos 9223372036854775806))) ∷ []) (binding (codes "ns::a") (IntV (pos 5)) ∷ binding (codes "ns::x") (PointerV (codes "g") (values ([]))) ∷ [])) ((function (Some (codes "()")) (codes "g") ((codes "x") ∷ []) ((Return false false (an_expr ThisPtr)) ∷ [])) ∷ (function None (codes "k") ([]) ((ExprStmt (Variable ([]) (codes "y"))) ∷ [])) ∷ []) ((Var false false (codes "a") (DynamicConstant (MapV (field (codes "b") (ArrayV (values ((BoolV true) ∷ (TextV (codes "a")) ∷ []))) (field (codes "k") (ArrayV (values ((PointerV (codes "g") (values ((IntV (pos 9223372036854775806)) ∷ []))) ∷ (BoolV false) ∷ []))) no_fields))))) ∷ (Var false false (codes "m") UnitConstant) ∷ (Var true false (codes "x") (DynamicConstant (MapV (field (codes "b") (MapV (field (codes "k") (IntV (pos 9223372036854775806)) no_fields)) no_fields)))) ∷ (Assignment (Some BitOr) (Dot (flags false false) (Variable ([]) (codes "a")) (property (codes "get$b") (codes "set$b") (codes "b"))) (BlockExpr (stmts ((Assignment None (Dot (flags false false) (Variable ([]) (codes "a")) (property (codes "get$b") (codes "set$b") (codes "b"))) (DynamicConstant (MapV (field (codes "a") (CharV 122) (field (codes "b") (CharV 98) (field (codes "k") (PointerV (codes "f") (values ([]))) no_fields)))))) ∷ (ExprStmt (StringConstant (codes "k"))) ∷ [])))) ∷ (Assignment (Some Multiply) (Dot (flags false false) (Variable ([]) (codes "m")) (property (codes "get$a") (codes "set$a") (codes "a"))) (BlockExpr (stmts ((Assignment None (Dot (flags false false) (Variable ([]) (codes "a")) (property (codes "get$k") (codes "set$k") (codes "k"))) (DynamicConstant (BoolV false))) ∷ (ExprStmt (IntegerConstant (negsuc 0))) ∷ [])))) ∷ (Assignment None (Dot (flags false false) (Variable ([]) (codes "a")) (Dot (flags false false) (property (codes "get$a") (codes "set$a") (codes "a")) (property (codes "get$k") (codes "set$k") (codes "k")))) (BlockExpr (stmts ((Assignment None (Dot (flags false false) (Variable ([]) (codes "m")) (property (codes "get$a") (codes "set$a") (codes "a"))) (DynamicConstant (ArrayV (values ((BoolV true) ∷ (BoolV true) ∷ (PointerV (codes "g") (values ([]))) ∷ []))))) ∷ (ExprStmt (FnCall (callee [] (codes "print") false NoToken) (exprs ((Variable ((codes "ns") ∷ []) (codes "q")) ∷ [])))) ∷ [])))) ∷ []) AtStatements ([]) 10 ≡ ends (WithStuck Unbound) (entry (codes "a") false (MapV (field (codes "b") (MapV no_fields) (field (codes "k") (BoolV false) no_fields))) ∷ entry (codes "m") false UnitV ∷ entry (codes "x") true (MapV (field (codes "b") (MapV (field (codes "k") (IntV (pos 9223372036854775806)) no_fields)) no_fields)) ∷ []) None (asked None (codes "|") ((MapV (field (codes "a") (CharV 122) (field (codes "b") (CharV 98) (field (codes "k") (PointerV (codes "f") (values ([]))) no_fields)))) ∷ (TextV (codes "k")) ∷ []) ∷ asked (Some UnitV) (codes "get$a") ([]) ∷ asked None (codes "*") (UnitV ∷ (IntV (negsuc 0)) ∷ []) ∷ asked (Some UnitV) (codes "set$a") (UnitV ∷ []) ∷ asked (Some UnitV) (codes "set$a") ((ArrayV (values ((BoolV true) ∷ (BoolV true) ∷ (PointerV (codes "g") (values ([]))) ∷ []))) ∷ []) ∷ []) 10
unfolding ran
chains_9100474 = refl

-- let a = <#{"b": #{"k": "ab"}}>
-- let m = <#{"b": #{"a": (), "b": [false], "k": #{"b": "f"}}, "k": #{"k": ()}}>
-- let x = <#{"a": #{"b": "é"}, "b": [[2, 1, 'é'], 9223372036854775806], "k": Fn(f)}>
-- Dot(m, Dot(b, a)) &= { a = call(Fn("f"), 1); 1 }
-- let y = Index(m, Index(2, Dot?("a", f())))
-- fn push() { this = <["f", -1]> }
chains_9100609 : ran (engine (binding (codes "a") (CharV 97) ∷ []) (override (codes "&") ((codes "i64") ∷ (codes "i64") ∷ []) ∷ override (codes "&=") ((codes "i64") ∷ (codes "i64") ∷ []) ∷ []) (renamed (codes "array") (codes "list") ∷ renamed (codes "map") (codes "object") ∷ []) false) (host (named (codes "get$a") (Answers (ArrayV (values ([]))) (Some (CharV 122)) ∷ []) ∷ named (codes "push") (Answers (ArrayV (values ([]))) None ∷ Answers (TextV (codes "ab")) None ∷ Answers (BoolV false) None ∷ Answers (ArrayV (values ((IntV (pos 1)) ∷ (IntV (pos 9223372036854775806)) ∷ (CharV 122) ∷ []))) None ∷ Answers (MapV no_fields) None ∷ []) ∷ []) (Answers (BoolV false) (Some (TextV (195 ∷ 169 ∷ []))) ∷ Answers UnitV None ∷ []) (binding (codes "ns::a") (IntV (pos 5)) ∷ binding (codes "ns::x") (MapV no_fields) ∷ [])) ((function None (codes "push") ([]) ((Assignment None ThisPtr (DynamicConstant (ArrayV (values ((TextV (codes "f")) ∷ (IntV (negsuc 0)) ∷ []))))) ∷ [])) ∷ []) ((Var false false (codes "a") (DynamicConstant (MapV (field (codes "b") (MapV (field (codes "k") (TextV (codes "ab")) no_fields)) no_fields)))) ∷ (Var false false (codes "m") (DynamicConstant (MapV (field (codes "b") (MapV (field (codes "a") UnitV (field (codes "b") (ArrayV (values ((BoolV false) ∷ []))) (field (codes "k") (MapV (field (codes "b") (TextV (codes "f")) no_fields)) no_fields)))) (field (codes "k") (MapV (field (codes "k") UnitV no_fields)) no_fields))))) ∷ (Var false false (codes "x") (DynamicConstant (MapV (field (codes "a") (MapV (field (codes "b") (TextV (195 ∷ 169 ∷ [])) no_fields)) (field (codes "b") (ArrayV (values ((ArrayV (values ((IntV (pos 2)) ∷ (IntV (pos 1)) ∷ (CharV 233) ∷ []))) ∷ (IntV (pos 9223372036854775806)) ∷ []))) (field (codes "k") (PointerV (codes "f") (values ([]))) no_fields)))))) ∷ (Assignment (Some BitAnd) (Dot (flags false false) (Variable ([]) (codes "m")) (Dot (flags false false) (property (codes "get$b") (codes "set$b") (codes "b")) (property (codes "get$a") (codes "set$a") (codes "a")))) (BlockExpr (stmts ((Assignment None (Variable ([]) (codes "a")) (FnCall (callee [] (codes "call") false NoToken) (exprs ((FnCall (callee [] (codes "Fn") false NoToken) (exprs ((StringConstant (codes "f")) ∷ []))) ∷ (IntegerConstant (pos 1)) ∷ [])))) ∷ (ExprStmt (IntegerConstant (pos 1))) ∷ [])))) ∷ (Var false false (codes "y") (Index (flags false false) (Variable ([]) (codes "m")) (Index (flags false false) (IntegerConstant (pos 2)) (Dot (flags true false) (StringConstant (codes "a")) (MethodCall (callee [] (codes "f") false NoToken) (exprs ([]))))))) ∷ []) AtStatements (entry (codes "c") true (PointerV (codes "h") (values ((BoolV false) ∷ []))) ∷ entry (codes "a") false (RangeInclusiveV (negsuc 0) (pos 1)) ∷ entry (codes "x") false UnitV ∷ []) 1 ≡ ends (WithValue UnitV) (entry (codes "x") false UnitV ∷ entry (codes "a") false (RangeInclusiveV (negsuc 0) (pos 1)) ∷ entry (codes "c") true (PointerV (codes "h") (values ((BoolV false) ∷ []))) ∷ entry (codes "a") false (BoolV false) ∷ entry (codes "m") false (MapV (field (codes "b") (MapV (field (codes "a") UnitV (field (codes "b") (ArrayV (values ((BoolV false) ∷ []))) (field (codes "k") (MapV (field (codes "b") (TextV (codes "f")) no_fields)) no_fields)))) (field (codes "k") (MapV (field (codes "k") UnitV no_fields)) no_fields))) ∷ entry (codes "x") false (MapV (field (codes "a") (MapV (field (codes "b") (TextV (195 ∷ 169 ∷ [])) no_fields)) (field (codes "b") (ArrayV (values ((ArrayV (values ((IntV (pos 2)) ∷ (IntV (pos 1)) ∷ (CharV 233) ∷ []))) ∷ (IntV (pos 9223372036854775806)) ∷ []))) (field (codes "k") (PointerV (codes "f") (values ([]))) no_fields)))) ∷ entry (codes "y") false UnitV ∷ []) None (asked None (codes "f") ((IntV (pos 1)) ∷ []) ∷ asked None (codes "&") (UnitV ∷ (IntV (pos 1)) ∷ []) ∷ asked (Some (MapV (field (codes "b") (MapV (field (codes "a") UnitV (field (codes "b") (ArrayV (values ((BoolV false) ∷ []))) (field (codes "k") (MapV (field (codes "b") (TextV (codes "f")) no_fields)) no_fields)))) (field (codes "k") (MapV (field (codes "k") UnitV no_fields)) no_fields)))) (codes "index$get$") ((IntV (pos 2)) ∷ []) ∷ asked (Some UnitV) (codes "index$get$") ((TextV (codes "a")) ∷ []) ∷ []) 1
unfolding ran
chains_9100609 = refl

-- const a = <#{"a": [[]], "b": #{"b": #{}}, "k": ["b"]}>
-- let m = <#{"a": [0], "b": Fn(f)}>
-- const x = <[true, 9223372036854775806]>
-- let a = Index?(m, Index?!(0, 2))
-- try { for (a, a) in <5..7> { print(a) } } catch c {}
-- Index!(a, 1) &= { 1 }
-- fn i64.g() { Index?!(this, 2) = <#{"a": false, "b": Fn(f), "k": 'a'}> }
-- fn string.g(x) { Dot(this, Index!(b, "b")) = <[-1..2]>; return this }
-- fn array.push() {}
-- fn k() { y }
chains_9100634 : ran (engine ([]) (override (codes "&") ((codes "()") ∷ (codes "i64") ∷ []) ∷ override (codes "&=") ((codes "i64") ∷ (codes "i64") ∷ []) ∷ []) (renamed (codes "array") (codes "list") ∷ renamed (codes "map") (codes "object") ∷ []) false) (host (named (codes "get$a") ([]) ∷ named (codes "h") ([]) ∷ []) (Answers (RangeInclusiveV (pos 3) (pos 6)) None ∷ Answers (RangeInclusiveV (negsuc 0) (pos 1)) (Some (MapV (field (codes "a") (CharV 233) no_fields))) ∷ []) (binding (codes "ns::a") (IntV (pos 5)) ∷ binding (codes "ns::x") (TextV (codes "f")) ∷ [])) ((function (Some (codes "i64")) (codes "g") ([]) ((Assignment None (Index (flags true true) ThisPtr (IntegerConstant (pos 2))) (DynamicConstant (MapV (field (codes "a") (BoolV false) (field (codes "b") (PointerV (codes "f") (values ((CharV 97) ∷ []))) (field (codes "k") (CharV 97) no_fields)))))) ∷ [])) ∷ (function (Some (codes "string")) (codes "g") ((codes "x") ∷ []) ((Assignment None (Dot (flags false false) ThisPtr (Index (flags false true) (property (codes "get$b") (codes "set$b") (codes "b")) (StringConstant (codes "b")))) (DynamicConstant (ArrayV (values ((RangeV (negsuc 0) (pos 2)) ∷ []))))) ∷ (Return false false (an_expr ThisPtr)) ∷ [])) ∷ (function (Some (codes "array")) (codes "push") ([]) ([])) ∷ (function None (codes "k") ([]) ((ExprStmt (Variable ([]) (codes "y"))) ∷ [])) ∷ []) ((Var true false (codes "a") (DynamicConstant (MapV (field (codes "a") (ArrayV (values ((ArrayV (values ([]))) ∷ []))) (field (codes "b") (MapV (field (codes "b") (MapV no_fields) no_fields)) (field (codes "k") (ArrayV (values ((TextV (codes "b")) ∷ []))) no_fields)))))) ∷ (Var false false (codes "m") (DynamicConstant (MapV (field (codes "a") (ArrayV (values ((IntV (pos 0)) ∷ []))) (field (codes "b") (PointerV (codes "f") (values ([]))) no_fields))))) ∷ (Var true false (codes "x") (DynamicConstant (ArrayV (values ((BoolV true) ∷ (IntV (pos 9223372036854775806)) ∷ []))))) ∷ (Var false false (codes "a") (Index (flags true false) (Variable ([]) (codes "m")) (Index (flags true true) (IntegerConstant (pos 0)) (IntegerConstant (pos 2))))) ∷ (TryCatch (Variable ([]) (codes "c")) (stmts ((For (codes "a") (Some (codes "a")) (DynamicConstant (RangeV (pos 5) (pos 7))) (stmts ((ExprStmt (FnCall (callee [] (codes "print") false NoToken) (exprs ((Variable ([]) (codes "a")) ∷ [])))) ∷ []))) ∷ [])) (stmts ([]))) ∷ (Assignment (Some BitAnd) (Index (flags false true) (Variable ([]) (codes "a")) (IntegerConstant (pos 1))) (BlockExpr (stmts ((ExprStmt (IntegerConstant (pos 1))) ∷ [])))) ∷ []) AtStatements (entry (codes "a") true (RangeInclusiveV (negsuc 0) (negsuc 1)) ∷ entry (codes "y") true (IntV (negsuc 1)) ∷ []) 3 ≡ ends (WithValue UnitV) (entry (codes "y") true (IntV (negsuc 1)) ∷ entry (codes "a") true (RangeInclusiveV (negsuc 0) (negsuc 1)) ∷ entry (codes "a") true (MapV (field (codes "a") (ArrayV (values ((ArrayV (values ([]))) ∷ []))) (field (codes "b") (MapV (field (codes "b") (MapV no_fields) no_fields)) (field (codes "k") (ArrayV (values ((TextV (codes "b")) ∷ []))) no_fields)))) ∷ entry (codes "m") false (MapV (field (codes "a") (ArrayV (values ((IntV (pos 0)) ∷ []))) (field (codes "b") (PointerV (codes "f") (values ([]))) no_fields))) ∷ entry (codes "x") true (ArrayV (values ((BoolV true) ∷ (IntV (pos 9223372036854775806)) ∷ []))) ∷ entry (codes "a") false (RangeInclusiveV (negsuc 0) (pos 1)) ∷ []) None (asked (Some (MapV (field (codes "a") (ArrayV (values ((IntV (pos 0)) ∷ []))) (field (codes "b") (PointerV (codes "f") (values ([]))) no_fields)))) (codes "index$get$") ((IntV (pos 0)) ∷ []) ∷ asked (Some (RangeInclusiveV (pos 3) (pos 6))) (codes "index$get$") ((IntV (pos 2)) ∷ []) ∷ asked None (codes "print") ((IntV (pos 5)) ∷ []) ∷ asked None (codes "print") ((IntV (pos 6)) ∷ []) ∷ asked (Some (RangeInclusiveV (negsuc 0) (pos 1))) (codes "index$get$") ((IntV (pos 1)) ∷ []) ∷ asked None (codes "&") (UnitV ∷ (IntV (pos 1)) ∷ []) ∷ asked (Some (RangeInclusiveV (negsuc 0) (pos 1))) (codes "index$set$") ((IntV (pos 1)) ∷ UnitV ∷ []) ∷ []) 1
unfolding ran
chains_9100634 = refl

-- let a = <#{"a": #{"a": 'a', "b": "a", "k": "é"}, "b": #{"a": 3, "b": -2..=0, "k": "é"}}>
-- let m = <#{"a": #{"a": (), "b": -2..1}, "k": #{"a": ['b', "é"], "b": ""}}>
-- let x = <[#{"a": ["a"], "b": Fn(f), "k": -1..1}, [false, ()], 9223372036854775807]>
-- Dot(m, Dot(a, Index!(b, { m = <[Fn(f)]>; 2 }))) = { "a" }
-- Dot?(a, a) = { 2 }
-- Dot(a, a) = { a = <"f">; -1 }
-- try { Index!(m, { -1 }) } catch c {}
-- fn string.g(m) { this = <[true]>; this = call(<Fn(k)>, 1); return this }
chains_9100649 : ran (engine ([]) (override (codes "%") ((codes "range") ∷ (codes "bool") ∷ []) ∷ override (codes "&") ((codes "Fn") ∷ (codes "string") ∷ []) ∷ override (codes "**=") ((codes "i64") ∷ []) ∷ override (codes "+") ((codes "range=") ∷ []) ∷ override (codes "-") ((codes "()") ∷ []) ∷ override (codes "-") ((codes "i64") ∷ (codes "i64") ∷ []) ∷ override (codes "-=") ((codes "i64") ∷ (codes "i64") ∷ []) ∷ override (codes "<=") ((codes "i64") ∷ (codes "i64") ∷ []) ∷ override (codes "|") ((codes "()") ∷ (codes "array") ∷ []) ∷ []) ([]) false) (host (named (codes "g") (Answers (IntV (negsuc 1)) None ∷ Answers (PointerV (codes "h") (values ([]))) None ∷ Answers (ArrayV (values ((TextV (codes "a")) ∷ []))) (Some (TextV (195 ∷ 169 ∷ []))) ∷ []) ∷ named (codes "+") (Answers (BoolV false) (Some (RangeInclusiveV (pos 3) (pos 4))) ∷ Answers (RangeInclusiveV (pos 1) (pos 0)) None ∷ Answers (IntV (pos 9223372036854775806)) None ∷ []) ∷ []) (Answers (CharV 98) (Some (MapV no_fields)) ∷ Answers (IntV (pos 9223372036854775807)) None ∷ Answers (PointerV (codes "g") (values ([]))) None ∷ []) (binding (codes "ns::a") (IntV (pos 5)) ∷ binding (codes "ns::x") (BoolV false) ∷ [])) ((function (Some (codes "string")) (codes "g") ((codes "m") ∷ []) ((Assignment None ThisPtr (DynamicConstant (ArrayV (values ((BoolV true) ∷ []))))) ∷ (Assignment None ThisPtr (FnCall (callee [] (codes "call") false NoToken) (exprs ((DynamicConstant (PointerV (codes "k") (values (UnitV ∷ [])))) ∷ (IntegerConstant (pos 1)) ∷ [])))) ∷ (Return false false (an_expr ThisPtr)) ∷ [])) ∷ []) ((Var false false (codes "a") (DynamicConstant (MapV (field (codes "a") (MapV (field (codes "a") (CharV 97) (field (codes "b") (TextV (codes "a")) (field (codes "k") (TextV (195 ∷ 169 ∷ [])) no_fields)))) (field (codes "b") (MapV (field (codes "a") (IntV (pos 3)) (field (codes "b") (RangeInclusiveV (negsuc 1) (pos 0)) (field (codes "k") (TextV (195 ∷ 169 ∷ [])) no_fields)))) no_fields))))) ∷ (Var false false (codes "m") (DynamicConstant (MapV (field (codes "a") (MapV (field (codes "a") UnitV (field (codes "b") (RangeV (negsuc 1) (pos 1)) no_fields))) (field (codes "k") (MapV (field (codes "a") (ArrayV (values ((CharV 98) ∷ (TextV (195 ∷ 169 ∷ [])) ∷ []))) (field (codes "b") (TextV (codes "")) no_fields))) no_fields))))) ∷ (Var false false (codes "x") (DynamicConstant (ArrayV (values ((MapV (field (codes "a") (ArrayV (values ((TextV (codes "a")) ∷ []))) (field (codes "b") (PointerV (codes "f") (values ((IntV (pos 1)) ∷ []))) (field (codes "k") (RangeV (negsuc 0) (pos 1)) no_fields)))) ∷ (ArrayV (values ((BoolV false) ∷ UnitV ∷ []))) ∷ (IntV (pos 9223372036854775807)) ∷ []))))) ∷ (Assignment None (Dot (flags false false) (Variable ([]) (codes "m")) (Dot (flags false false) (property (codes "get$a") (codes "set$a") (codes "a")) (Index (flags false true) (property (codes "get$b") (codes "set$b") (codes "b")) (BlockExpr (stmts ((Assignment None (Variable ([]) (codes "m")) (DynamicConstant (ArrayV (values ((PointerV (codes "f") (values ([]))) ∷ []))))) ∷ (ExprStmt (IntegerConstant (pos 2))) ∷ [])))))) (BlockExpr (stmts ((ExprStmt (StringConstant (codes "a"))) ∷ [])))) ∷ (Assignment None (Dot (flags true false) (Variable ([]) (codes "a")) (property (codes "get$a") (codes "set$a") (codes "a"))) (BlockExpr (stmts ((ExprStmt (IntegerConstant (pos 2))) ∷ [])))) ∷ (Assignment None (Dot (flags false false) (Variable ([]) (codes "a")) (property (codes "get$a") (codes "set$a") (codes "a"))) (BlockExpr (stmts ((Assignment None (Variable ([]) (codes "a")) (DynamicConstant (TextV (codes "f")))) ∷ (ExprStmt (IntegerConstant (negsuc 0))) ∷ [])))) ∷ (TryCatch (Variable ([]) (codes "c")) (stmts ((ExprStmt (Index (flags false true) (Variable ([]) (codes "m")) (BlockExpr (stmts ((ExprStmt (IntegerConstant (negsuc 0))) ∷ []))))) ∷ [])) (stmts ([]))) ∷ []) AtStatements (entry (codes "a") true (RangeInclusiveV (pos 1) (pos 2)) ∷ []) 10 ≡ ends (WithStuck NoPlace) (entry (codes "a") true (RangeInclusiveV (pos 1) (pos 2)) ∷ entry (codes "a") false (MapV (field (codes "a") (MapV (field (codes "a") (CharV 97) (field (codes "b") (TextV (codes "a")) (field (codes "k") (TextV (195 ∷ 169 ∷ [])) no_fields)))) (field (codes "b") (MapV (field (codes "a") (IntV (pos 3)) (field (codes "b") (RangeInclusiveV (negsuc 1) (pos 0)) (field (codes "k") (TextV (195 ∷ 169 ∷ [])) no_fields)))) no_fields))) ∷ entry (codes "m") false (ArrayV (values ((PointerV (codes "f") (values ([]))) ∷ []))) ∷ entry (codes "x") false (ArrayV (values ((MapV (field (codes "a") (ArrayV (values ((TextV (codes "a")) ∷ []))) (field (codes "b") (PointerV (codes "f") (values ((IntV (pos 1)) ∷ []))) (field (codes "k") (RangeV (negsuc 0) (pos 1)) no_fields)))) ∷ (ArrayV (values ((BoolV false) ∷ UnitV ∷ []))) ∷ (IntV (pos 9223372036854775807)) ∷ []))) ∷ []) None ([]) 10
unfolding ran
chains_9100649 = refl

-- let a = <#{"a": [-9223372036854775808, 'é', 'é'], "b": [-1, true], "k": [false, Fn(f)]}>
-- let m = <false>
-- const x = <#{"a": [(), -9223372036854775808], "b": #{"k": 'b'}, "k": ['b', []]}>
-- Index!(a, 2) = { for (a, b) in <[5, 6]> { print(b); print(a) } }
-- Dot?(m, Index(a, Dot?({ 0 }, a))) = { Index(x, Index(-1, Dot(-1, a))) = <#{"b": (), "k": Fn(h)}>; 0 }
-- fn string.g(a) { throw this }
-- fn array.h() {}
-- fn k() { y }
chains_9100673 : ran (engine ([]) ([]) (renamed (codes "i64") (codes "int") ∷ []) true) (host (named (codes "f") (Answers (MapV (field (codes "b") (IntV (pos 9223372036854775806)) no_fields)) (Some UnitV) ∷ Answers (TextV (codes "f")) (Some (BoolV false)) ∷ Answers (BoolV false) (Some (ArrayV (values ([])))) ∷ Answers (IntV (pos 63)) (Some (IntV (pos 0))) ∷ []) ∷ []) (Answers (PointerV (codes "g") (values ((TextV (195 ∷ 169 ∷ [])) ∷ []))) None ∷ []) (binding (codes "ns::a") (IntV (pos 5)) ∷ binding (codes "ns::x") (ArrayV (values ((IntV (pos 1)) ∷ []))) ∷ [])) ((function (Some (codes "string")) (codes "g") ((codes "a") ∷ []) ((Return true false (an_expr ThisPtr)) ∷ [])) ∷ (function (Some (codes "array")) (codes "h") ([]) ([])) ∷ (function None (codes "k") ([]) ((ExprStmt (Variable ([]) (codes "y"))) ∷ [])) ∷ []) ((Var false false (codes "a") (DynamicConstant (MapV (field (codes "a") (ArrayV (values ((IntV (negsuc 9223372036854775807)) ∷ (CharV 233) ∷ (CharV 233) ∷ []))) (field (codes "b") (ArrayV (values ((IntV (negsuc 0)) ∷ (BoolV true) ∷ []))) (field (codes "k") (ArrayV (values ((BoolV false) ∷ (PointerV (codes "f") (values ((BoolV true) ∷ []))) ∷ []))) no_fields)))))) ∷ (Var false false (codes "m") (DynamicConstant (BoolV false))) ∷ (Var true false (codes "x") (DynamicConstant (MapV (field (codes "a") (ArrayV (values (UnitV ∷ (IntV (negsuc 9223372036854775807)) ∷ []))) (field (codes "b") (MapV (field (codes "k") (CharV 98) no_fields)) (field (codes "k") (ArrayV (values ((CharV 98) ∷ (ArrayV (values ([]))) ∷ []))) no_fields)))))) ∷ (Assignment None (Index (flags false true) (Variable ([]) (codes "a")) (IntegerConstant (pos 2))) (BlockExpr (stmts ((For (codes "a") (Some (codes "b")) (DynamicConstant (ArrayV (values ((IntV (pos 5)) ∷ (IntV (pos 6)) ∷ [])))) (stmts ((ExprStmt (FnCall (callee [] (codes "print") false NoToken) (exprs ((Variable ([]) (codes "b")) ∷ [])))) ∷ (ExprStmt (FnCall (callee [] (codes "print") false NoToken) (exprs ((Variable ([]) (codes "a")) ∷ [])))) ∷ []))) ∷ [])))) ∷ (Assignment None (Dot (flags true false) (Variable ([]) (codes "m")) (Index (flags false false) (property (codes "get$a") (codes "set$a") (codes "a")) (Dot (flags true false) (BlockExpr (stmts ((ExprStmt (IntegerConstant (pos 0))) ∷ []))) (property (codes "get$a") (codes "set$a") (codes "a"))))) (BlockExpr (stmts ((Assignment None (Index (flags false false) (Variable ([]) (codes "x")) (Index (flags false false) (IntegerConstant (negsuc 0)) (Dot (flags false false) (IntegerConstant (negsuc 0)) (property (codes "get$a") (codes "set$a") (codes "a"))))) (DynamicConstant (MapV (field (codes "b") UnitV (field (codes "k") (PointerV (codes "h") (values ([]))) no_fields))))) ∷ (ExprStmt (IntegerConstant (pos 0))) ∷ [])))) ∷ []) AtStatements (entry (codes "x") false (MapV (field (codes "a") (CharV 98) no_fields)) ∷ entry (codes "a") false (BoolV true) ∷ entry (codes "x") false (IntV (pos 1)) ∷ []) 3 ≡ ends (WithStuck NoPlace) (entry (codes "x") false (IntV (pos 1)) ∷ entry (codes "a") false (BoolV true) ∷ entry (codes "x") false (MapV (field (codes "a") (CharV 98) no_fields)) ∷ entry (codes "a") false (MapV (field (codes "a") (ArrayV (values ((IntV (negsuc 9223372036854775807)) ∷ (CharV 233) ∷ (CharV 233) ∷ []))) (field (codes "b") (ArrayV (values ((IntV (negsuc 0)) ∷ (BoolV true) ∷ []))) (field (codes "k") (ArrayV (values ((BoolV false) ∷ (PointerV (codes "f") (values ((BoolV true) ∷ []))) ∷ []))) no_fields)))) ∷ entry (codes "m") false (BoolV false) ∷ entry (codes "x") true (MapV (field (codes "a") (ArrayV (values (UnitV ∷ (IntV (negsuc 9223372036854775807)) ∷ []))) (field (codes "b") (MapV (field (codes "k") (CharV 98) no_fields)) (field (codes "k") (ArrayV (values ((CharV 98) ∷ (ArrayV (values ([]))) ∷ []))) no_fields)))) ∷ []) None (asked None (codes "print") ((IntV (pos 0)) ∷ []) ∷ asked None (codes "print") ((IntV (pos 5)) ∷ []) ∷ asked None (codes "print") ((IntV (pos 1)) ∷ []) ∷ asked None (codes "print") ((IntV (pos 6)) ∷ []) ∷ asked (Some (MapV (field (codes "a") (ArrayV (values ((IntV (negsuc 9223372036854775807)) ∷ (CharV 233) ∷ (CharV 233) ∷ []))) (field (codes "b") (ArrayV (values ((IntV (negsuc 0)) ∷ (BoolV true) ∷ []))) (field (codes "k") (ArrayV (values ((BoolV false) ∷ (PointerV (codes "f") (values ((BoolV true) ∷ []))) ∷ []))) no_fields))))) (codes "index$set$") ((IntV (pos 2)) ∷ UnitV ∷ []) ∷ asked (Some (MapV (field (codes "a") (ArrayV (values (UnitV ∷ (IntV (negsuc 9223372036854775807)) ∷ []))) (field (codes "b") (MapV (field (codes "k") (CharV 98) no_fields)) (field (codes "k") (ArrayV (values ((CharV 98) ∷ (ArrayV (values ([]))) ∷ []))) no_fields))))) (codes "index$get$") ((IntV (negsuc 0)) ∷ []) ∷ asked (Some UnitV) (codes "index$get$") ((IntV (negsuc 0)) ∷ []) ∷ []) 1
unfolding ran
chains_9100673 = refl

-- let a = <#{"a": #{"k": #{}}, "b": [1, ()], "k": [#{"a": true}, false]}>
-- let m = ()
-- let x = <#{"a": 3..=4, "k": [-1, []]}>
-- Index!(a, -1) -= { a = <[Fn(f), -2]>; "k" }
-- Dot(m, Index(b, Dot({ a = <["f", (), 'b']>; this += 1 }, a))) /= { x = <#{"a": 9223372036854775807, "k": 7}>; "k" }
-- fn map.h() {}
-- fn k() { y }
chains_9100694 : ran (engine (binding (codes "c") (IntV (negsuc 9223372036854775807)) ∷ []) (override (codes "%") ((codes "string") ∷ (codes "char") ∷ []) ∷ override (codes "*") ((codes "i64") ∷ (codes "i64") ∷ []) ∷ override (codes "**=") ((codes "i64") ∷ (codes "i64") ∷ []) ∷ override (codes "*=") ((codes "string") ∷ (codes "bool") ∷ []) ∷ override (codes "+") ((codes "char") ∷ []) ∷ override (codes "+=") ((codes "string") ∷ (codes "char") ∷ []) ∷ override (codes "-") ((codes "string") ∷ (codes "char") ∷ []) ∷ override (codes "-=") ((codes "()") ∷ (codes "i64") ∷ []) ∷ override (codes "/=") ((codes "()") ∷ (codes "i64") ∷ []) ∷ override (codes "/=") ((codes "array") ∷ (codes "bool") ∷ []) ∷ override (codes "<=") ((codes "range") ∷ []) ∷ override (codes ">") ((codes "i64") ∷ (codes "i64") ∷ []) ∷ override (codes ">=") ((codes "range=") ∷ []) ∷ []) (renamed (codes "array") (codes "list") ∷ renamed (codes "map") (codes "object") ∷ []) false) (host (named (codes "index$get$") ([]) ∷ named (codes "get$a") (Answers (PointerV (codes "f") (values ([]))) None ∷ Answers (TextV (codes "a")) (Some (IntV (pos 63))) ∷ []) ∷ []) ([]) (binding (codes "ns::a") (IntV (pos 5)) ∷ binding (codes "ns::x") (IntV (pos 64)) ∷ [])) ((function (Some (codes "map")) (codes "h") ([]) ([])) ∷ (function None (codes "k") ([]) ((ExprStmt (Variable ([]) (codes "y"))) ∷ [])) ∷ []) ((Var false false (codes "a") (DynamicConstant (MapV (field (codes "a") (MapV (field (codes "k") (MapV no_fields) no_fields)) (field (codes "b") (ArrayV (values ((IntV (pos 1)) ∷ UnitV ∷ []))) (field (codes "k") (ArrayV (values ((MapV (field (codes "a") (BoolV true) no_fields)) ∷ (BoolV false) ∷ []))) no_fields)))))) ∷ (Var false false (codes "m") UnitConstant) ∷ (Var false false (codes "x") (DynamicConstant (MapV (field (codes "a") (RangeInclusiveV (pos 3) (pos 4)) (field (codes "k") (ArrayV (values ((IntV (negsuc 0)) ∷ (ArrayV (values ([]))) ∷ []))) no_fields))))) ∷ (Assignment (Some Minus) (Index (flags false true) (Variable ([]) (codes "a")) (IntegerConstant (negsuc 0))) (BlockExpr (stmts ((Assignment None (Variable ([]) (codes "a")) (DynamicConstant (ArrayV (values ((PointerV (codes "f") (values ([]))) ∷ (IntV (negsuc 1)) ∷ []))))) ∷ (ExprStmt (StringConstant (codes "k"))) ∷ [])))) ∷ (Assignment (Some Divide) (Dot (flags false false) (Variable ([]) (codes "m")) (Index (flags false false) (property (codes "get$b") (codes "set$b") (codes "b")) (Dot (flags false false) (BlockExpr (stmts ((Assignment None (Variable ([]) (codes "a")) (DynamicConstant (ArrayV (values ((TextV (codes "f")) ∷ UnitV ∷ (CharV 98) ∷ []))))) ∷ (Assignment (Some Plus) ThisPtr (IntegerConstant (pos 1))) ∷ []))) (property (codes "get$a") (codes "set$a") (codes "a"))))) (BlockExpr (stmts ((Assignment None (Variable ([]) (codes "x")) (DynamicConstant (MapV (field (codes "a") (IntV (pos 9223372036854775807)) (field (codes "k") (IntV (pos 7)) no_fields))))) ∷ (ExprStmt (StringConstant (codes "k"))) ∷ [])))) ∷ []) AtStatements (entry (codes "x") true (IntV (pos 63)) ∷ entry (codes "y") true (PointerV (codes "h") (values ((BoolV false) ∷ []))) ∷ entry (codes "b") true (TextV (codes "a")) ∷ []) 2 ≡ ends (WithStuck UnboundThis) (entry (codes "b") true (TextV (codes "a")) ∷ entry (codes "y") true (PointerV (codes "h") (values ((BoolV false) ∷ []))) ∷ entry (codes "x") true (IntV (pos 63)) ∷ entry (codes "a") false (ArrayV (values ((TextV (codes "f")) ∷ UnitV ∷ (CharV 98) ∷ []))) ∷ entry (codes "m") false UnitV ∷ entry (codes "x") false (MapV (field (codes "a") (IntV (pos 9223372036854775807)) (field (codes "k") (IntV (pos 7)) no_fields))) ∷ []) None (asked None (codes "-") ((IntV (negsuc 1)) ∷ (TextV (codes "k")) ∷ []) ∷ asked (Some UnitV) (codes "get$b") ([]) ∷ []) 2
unfolding ran
chains_9100694 = refl

-- const a = <#{"k": #{"k": true}}>
-- const m = <63>
-- let x = <[[Fn(h), "é"], #{"b": 0..1}, [false, ['z']]]>
-- try { Dot(a, Index!(f(), "b")) } catch c {}
-- Index(a, Index!("k", { x = <[true, 64, "f"]>; 1 })) = { x = <#{"a": 'é', "b": 'é', "k": #{"b": (), "k": 'b'}}>; block { let y = 7; Dot(<Fn(k)>, call()) } }
-- Dot(x, Index!(b, "k")) = +(Dot(x, Index!(b, "k")), 1)
-- fn map.g(m) { this = <[true, 1..4]>; this = <#{"k": 1..=1}> }
-- fn string.push() { this = <#{"a": 'a', "b": Fn(h), "k": -2}>; this = <#{"a": 63, "k": Fn(f)}>; return this }
-- fn f() { this = <[true, [()]]>; throw this }
-- fn k() { y }
chains_9100731 : ran (engine (binding (codes "a") (CharV 97) ∷ binding (codes "y") (ArrayV (values (UnitV ∷ []))) ∷ []) (override (codes "%") ((codes "i64") ∷ (codes "i64") ∷ []) ∷ override (codes "%=") ((codes "()") ∷ []) ∷ override (codes "&") ((codes "bool") ∷ (codes "()") ∷ []) ∷ []) (renamed (codes "i64") (codes "int") ∷ []) false) (host ([]) (Answers (TextV (codes "f")) None ∷ AnswersThrow (CharV 98) ∷ Answers (IntV (negsuc 1)) (Some UnitV) ∷ Answers (TextV (codes "ab")) None ∷ []) (binding (codes "ns::a") (IntV (pos 5)) ∷ binding (codes "ns::x") (RangeV (pos 1) (pos 0)) ∷ [])) ((function (Some (codes "map")) (codes "g") ((codes "m") ∷ []) ((Assignment None ThisPtr (DynamicConstant (ArrayV (values ((BoolV true) ∷ (RangeV (pos 1) (pos 4)) ∷ []))))) ∷ (Assignment None ThisPtr (DynamicConstant (MapV (field (codes "k") (RangeInclusiveV (pos 1) (pos 1)) no_fields)))) ∷ [])) ∷ (function (Some (codes "string")) (codes "push") ([]) ((Assignment None ThisPtr (DynamicConstant (MapV (field (codes "a") (CharV 97) (field (codes "b") (PointerV (codes "h") (values ((IntV (pos 7)) ∷ []))) (field (codes "k") (IntV (negsuc 1)) no_fields)))))) ∷ (Assignment None ThisPtr (DynamicConstant (MapV (field (codes "a") (IntV (pos 63)) (field (codes "k") (PointerV (codes "f") (values ([]))) no_fields))))) ∷ (Return false false (an_expr ThisPtr)) ∷ [])) ∷ (function None (codes "f") ([]) ((Assignment None ThisPtr (DynamicConstant (ArrayV (values ((BoolV true) ∷ (ArrayV (values (UnitV ∷ []))) ∷ []))))) ∷ (Return true false (an_expr ThisPtr)) ∷ [])) ∷ (function None (codes "k") ([]) ((ExprStmt (Variable ([]) (codes "y"))) ∷ [])) ∷ []) ((Var true false (codes "a") (DynamicConstant (MapV (field (codes "k") (MapV (field (codes "k") (BoolV true) no_fields)) no_fields)))) ∷ (Var true false (codes "m") (DynamicConstant (IntV (pos 63)))) ∷ (Var false false (codes "x") (DynamicConstant (ArrayV (values ((ArrayV (values ((PointerV (codes "h") (values ([]))) ∷ (TextV (195 ∷ 169 ∷ [])) ∷ []))) ∷ (MapV (field (codes "b") (RangeV (pos 0) (pos 1)) no_fields)) ∷ (ArrayV (values ((BoolV false) ∷ (ArrayV (values ((CharV 122) ∷ []))) ∷ []))) ∷ []))))) ∷ (TryCatch (Variable ([]) (codes "c")) (stmts ((ExprStmt (Dot (flags false false) (Variable ([]) (codes "a")) (Index (flags false true) (MethodCall (callee [] (codes "f") false NoToken) (exprs ([]))) (StringConstant (codes "b"))))) ∷ [])) (stmts ([]))) ∷ (Assignment None (Index (flags false false) (Variable ([]) (codes "a")) (Index (flags false true) (StringConstant (codes "k")) (BlockExpr (stmts ((Assignment None (Variable ([]) (codes "x")) (DynamicConstant (ArrayV (values ((BoolV true) ∷ (IntV (pos 64)) ∷ (TextV (codes "f")) ∷ []))))) ∷ (ExprStmt (IntegerConstant (pos 1))) ∷ []))))) (BlockExpr (stmts ((Assignment None (Variable ([]) (codes "x")) (DynamicConstant (MapV (field (codes "a") (CharV 233) (field (codes "b") (CharV 233) (field (codes "k") (MapV (field (codes "b") UnitV (field (codes "k") (CharV 98) no_fields))) no_fields)))))) ∷ (Block (stmts ((Var false false (codes "y") (IntegerConstant (pos 7))) ∷ (ExprStmt (Dot (flags false false) (DynamicConstant (PointerV (codes "k") (values ([])))) (MethodCall (callee [] (codes "call") false NoToken) (exprs ([]))))) ∷ []))) ∷ [])))) ∷ (Assignment None (Dot (flags false false) (Variable ([]) (codes "x")) (Index (flags false true) (property (codes "get$b") (codes "set$b") (codes "b")) (StringConstant (codes "k")))) (FnCall (callee [] (codes "+") false (OfOperator Plus)) (exprs ((Dot (flags false false) (Variable ([]) (codes "x")) (Index (flags false true) (property (codes "get$b") (codes "set$b") (codes "b")) (StringConstant (codes "k")))) ∷ (IntegerConstant (pos 1)) ∷ [])))) ∷ []) AtStatements (entry (codes "m") true (IntV (pos 3)) ∷ []) 3 ≡ ends (WithThrown (CharV 98)) (entry (codes "m") true (IntV (pos 3)) ∷ entry (codes "a") true (MapV (field (codes "k") (MapV (field (codes "k") (BoolV true) no_fields)) no_fields)) ∷ entry (codes "m") true (IntV (pos 63)) ∷ entry (codes "x") false (ArrayV (values ((BoolV true) ∷ (IntV (pos 64)) ∷ (TextV (codes "f")) ∷ []))) ∷ []) None (asked (Some (MapV (field (codes "k") (BoolV true) no_fields))) (codes "index$set$") ((IntV (pos 1)) ∷ (ArrayV (values (UnitV ∷ []))) ∷ []) ∷ asked (Some (ArrayV (values ((BoolV true) ∷ (IntV (pos 64)) ∷ (TextV (codes "f")) ∷ [])))) (codes "get$b") ([]) ∷ []) 1
unfolding ran
chains_9100731 = refl

-- let a = <#{"a": #{"a": false}, "b": #{"b": 9223372036854775806}, "k": [[(), ""]]}>
-- const m = <#{"a": #{"a": #{"a": ""}, "b": [], "k": [-2, 63, ()]}, "b": -1, "k": [63, false, 3..=4]}>
-- const x = <#{"a": #{"a": "", "b": (), "k": 1}, "b": [-2..=-1, Fn(f), 'b'], "k": [3, 'é']}>
-- let x = Index(m, Dot("a", h()))
-- fn map.h() { Dot(this, k) = call(<Fn(k)>, 1); Dot(this, Index?(a, Dot({ this = <#{"a": (), "b": ()}>; "k" }, b))) = <[0..1]> }
chains_9100799 : ran (engine (binding (codes "y") (BoolV false) ∷ binding (codes "c") (CharV 122) ∷ []) ([]) (renamed (codes "array") (codes "list") ∷ renamed (codes "map") (codes "object") ∷ []) true) (host ([]) (Answers (BoolV true) (Some (PointerV (codes "g") (values ([])))) ∷ Answers (PointerV (codes "h") (values ([]))) None ∷ []) (binding (codes "ns::a") (IntV (pos 5)) ∷ binding (codes "ns::x") (ArrayV (values (UnitV ∷ (TextV (codes "ab")) ∷ (IntV (negsuc 1)) ∷ []))) ∷ [])) ((function (Some (codes "map")) (codes "h") ([]) ((Assignment None (Dot (flags false false) ThisPtr (property (codes "get$k") (codes "set$k") (codes "k"))) (FnCall (callee [] (codes "call") false NoToken) (exprs ((DynamicConstant (PointerV (codes "k") (values (UnitV ∷ [])))) ∷ (IntegerConstant (pos 1)) ∷ [])))) ∷ (Assignment None (Dot (flags false false) ThisPtr (Index (flags true false) (property (codes "get$a") (codes "set$a") (codes "a")) (Dot (flags false false) (BlockExpr (stmts ((Assignment None ThisPtr (DynamicConstant (MapV (field (codes "a") UnitV (field (codes "b") UnitV no_fields))))) ∷ (ExprStmt (StringConstant (codes "k"))) ∷ []))) (property (codes "get$b") (codes "set$b") (codes "b"))))) (DynamicConstant (ArrayV (values ((RangeV (pos 0) (pos 1)) ∷ []))))) ∷ [])) ∷ []) ((Var false false (codes "a") (DynamicConstant (MapV (field (codes "a") (MapV (field (codes "a") (BoolV false) no_fields)) (field (codes "b") (MapV (field (codes "b") (IntV (pos 9223372036854775806)) no_fields)) (field (codes "k") (ArrayV (values ((ArrayV (values (UnitV ∷ (TextV (codes "")) ∷ []))) ∷ []))) no_fields)))))) ∷ (Var true false (codes "m") (DynamicConstant (MapV (field (codes "a") (MapV (field (codes "a") (MapV (field (codes "a") (TextV (codes "")) no_fields)) (field (codes "b") (ArrayV (values ([]))) (field (codes "k") (ArrayV (values ((IntV (negsuc 1)) ∷ (IntV (pos 63)) ∷ UnitV ∷ []))) no_fields)))) (field (codes "b") (IntV (negsuc 0)) (field (codes "k") (ArrayV (values ((IntV (pos 63)) ∷ (BoolV false) ∷ (RangeInclusiveV (pos 3) (pos 4)) ∷ []))) no_fields)))))) ∷ (Var true false (codes "x") (DynamicConstant (MapV (field (codes "a") (MapV (field (codes "a") (TextV (codes "")) (field (codes "b") UnitV (field (codes "k") (IntV (pos 1)) no_fields)))) (field (codes "b") (ArrayV (values ((RangeInclusiveV (negsuc 1) (negsuc 0)) ∷ (PointerV (codes "f") (values ([]))) ∷ (CharV 98) ∷ []))) (field (codes "k") (ArrayV (values ((IntV (pos 3)) ∷ (CharV 233) ∷ []))) no_fields)))))) ∷ (Var false false (codes "x") (Index (flags false false) (Variable ([]) (codes "m")) (Dot (flags false false) (StringConstant (codes "a")) (MethodCall (callee [] (codes "h") false NoToken) (exprs ([])))))) ∷ []) AtStatements ([]) 3 ≡ ends (WithStuck NoPlace) (entry (codes "a") false (MapV (field (codes "a") (MapV (field (codes "a") (BoolV false) no_fields)) (field (codes "b") (MapV (field (codes "b") (IntV (pos 9223372036854775806)) no_fields)) (field (codes "k") (ArrayV (values ((ArrayV (values (UnitV ∷ (TextV (codes "")) ∷ []))) ∷ []))) no_fields)))) ∷ entry (codes "m") true (MapV (field (codes "a") (MapV (field (codes "a") (MapV (field (codes "a") (TextV (codes "")) no_fields)) (field (codes "b") (ArrayV (values ([]))) (field (codes "k") (ArrayV (values ((IntV (negsuc 1)) ∷ (IntV (pos 63)) ∷ UnitV ∷ []))) no_fields)))) (field (codes "b") (IntV (negsuc 0)) (field (codes "k") (ArrayV (values ((IntV (pos 63)) ∷ (BoolV false) ∷ (RangeInclusiveV (pos 3) (pos 4)) ∷ []))) no_fields)))) ∷ entry (codes "x") true (MapV (field (codes "a") (MapV (field (codes "a") (TextV (codes "")) (field (codes "b") UnitV (field (codes "k") (IntV (pos 1)) no_fields)))) (field (codes "b") (ArrayV (values ((RangeInclusiveV (negsuc 1) (negsuc 0)) ∷ (PointerV (codes "f") (values ([]))) ∷ (CharV 98) ∷ []))) (field (codes "k") (ArrayV (values ((IntV (pos 3)) ∷ (CharV 233) ∷ []))) no_fields)))) ∷ []) None (asked None (codes "k") (UnitV ∷ (IntV (pos 1)) ∷ []) ∷ asked (Some UnitV) (codes "index$get$") ((TextV (codes "k")) ∷ []) ∷ []) 2
unfolding ran
chains_9100799 = refl

-- let a = <#{"a": #{"a": #{}, "k": -9223372036854775808}, "b": ['b', Fn(f), [(), "a"]]}>
-- let m = <#{"a": #{"k": 2..3}, "b": "ab", "k": #{"b": Fn(f), "k": 0}}>
-- const x = <[#{"b": 'z', "k": ()}, [-2], #{"a": 'a', "k": 'é'}]>
-- Index!(a, { a = <63>; 1 }) = { -1 }
-- fn map.h() { Dot(this, b) = <#{"b": #{"a": 9223372036854775807, "k": -2}}>; throw this }
-- fn array.h(x) { Dot(this, k) = <#{"a": #{"a": 2, "b": "a"}, "k": false}>; Index(this, Index!({ block { let a = <[[1], [2]]>; Index(a, Index!(1, { a = <[[3]]>; 0 })) } }, "a")) = <[0, []]> }
-- fn k() { y }
chains_9101014 : ran (engine (binding (codes "a") (ArrayV (values ((IntV (pos 3)) ∷ (BoolV false) ∷ (TextV (codes "f")) ∷ []))) ∷ []) ([]) ([]) false) (host (named (codes "h") (Answers (MapV no_fields) None ∷ Answers (PointerV (codes "g") (values ([]))) None ∷ Answers UnitV None ∷ Answers (CharV 122) (Some (CharV 122)) ∷ []) ∷ []) (Answers (ArrayV (values ([]))) None ∷ Answers (PointerV (codes "f") (values (UnitV ∷ []))) None ∷ Answers (RangeInclusiveV (pos 3) (pos 4)) (Some (IntV (pos 9223372036854775807))) ∷ Answers (TextV (codes "f")) None ∷ []) (binding (codes "ns::a") (IntV (pos 5)) ∷ binding (codes "ns::x") (PointerV (codes "h") (values ([]))) ∷ [])) ((function (Some (codes "map")) (codes "h") ([]) ((Assignment None (Dot (flags false false) ThisPtr (property (codes "get$b") (codes "set$b") (codes "b"))) (DynamicConstant (MapV (field (codes "b") (MapV (field (codes "a") (IntV (pos 9223372036854775807)) (field (codes "k") (IntV (negsuc 1)) no_fields))) no_fields)))) ∷ (Return true false (an_expr ThisPtr)) ∷ [])) ∷ (function (Some (codes "array")) (codes "h") ((codes "x") ∷ []) ((Assignment None (Dot (flags false false) ThisPtr (property (codes "get$k") (codes "set$k") (codes "k"))) (DynamicConstant (MapV (field (codes "a") (MapV (field (codes "a") (IntV (pos 2)) (field (codes "b") (TextV (codes "a")) no_fields))) (field (codes "k") (BoolV false) no_fields))))) ∷ (Assignment None (Index (flags false false) ThisPtr (Index (flags false true) (BlockExpr (stmts ((Block (stmts ((Var false false (codes "a") (DynamicConstant (ArrayV (values ((ArrayV (values ((IntV (pos 1)) ∷ []))) ∷ (ArrayV (values ((IntV (pos 2)) ∷ []))) ∷ []))))) ∷ (ExprStmt (Index (flags false false) (Variable ([]) (codes "a")) (Index (flags false true) (IntegerConstant (pos 1)) (BlockExpr (stmts ((Assignment None (Variable ([]) (codes "a")) (DynamicConstant (ArrayV (values ((ArrayV (values ((IntV (pos 3)) ∷ []))) ∷ []))))) ∷ (ExprStmt (IntegerConstant (pos 0))) ∷ [])))))) ∷ []))) ∷ []))) (StringConstant (codes "a")))) (DynamicConstant (ArrayV (values ((IntV (pos 0)) ∷ (ArrayV (values ([]))) ∷ []))))) ∷ [])) ∷ (function None (codes "k") ([]) ((ExprStmt (Variable ([]) (codes "y"))) ∷ [])) ∷ []) ((Var false false (codes "a") (DynamicConstant (MapV (field (codes "a") (MapV (field (codes "a") (MapV no_fields) (field (codes "k") (IntV (negsuc 9223372036854775807)) no_fields))) (field (codes "b") (ArrayV (values ((CharV 98) ∷ (PointerV (codes "f") (values ((TextV (codes "f")) ∷ []))) ∷ (ArrayV (values (UnitV ∷ (TextV (codes "a")) ∷ []))) ∷ []))) no_fields))))) ∷ (Var false false (codes "m") (DynamicConstant (MapV (field (codes "a") (MapV (field (codes "k") (RangeV (pos 2) (pos 3)) no_fields)) (field (codes "b") (TextV (codes "ab")) (field (codes "k") (MapV (field (codes "b") (PointerV (codes "f") (values ([]))) (field (codes "k") (IntV (pos 0)) no_fields))) no_fields)))))) ∷ (Var true false (codes "x") (DynamicConstant (ArrayV (values ((MapV (field (codes "b") (CharV 122) (field (codes "k") UnitV no_fields))) ∷ (ArrayV (values ((IntV (negsuc 1)) ∷ []))) ∷ (MapV (field (codes "a") (CharV 97) (field (codes "k") (CharV 233) no_fields))) ∷ []))))) ∷ (Assignment None (Index (flags false true) (Variable ([]) (codes "a")) (BlockExpr (stmts ((Assignment None (Variable ([]) (codes "a")) (DynamicConstant (IntV (pos 63)))) ∷ (ExprStmt (IntegerConstant (pos 1))) ∷ [])))) (BlockExpr (stmts ((ExprStmt (IntegerConstant (negsuc 0))) ∷ [])))) ∷ []) AtStatements (entry (codes "y") false (TextV (195 ∷ 169 ∷ [])) ∷ []) 10 ≡ ends (WithValue UnitV) (entry (codes "y") false (TextV (195 ∷ 169 ∷ [])) ∷ entry (codes "a") false (IntV (pos 63)) ∷ entry (codes "m") false (MapV (field (codes "a") (MapV (field (codes "k") (RangeV (pos 2) (pos 3)) no_fields)) (field (codes "b") (TextV (codes "ab")) (field (codes "k") (MapV (field (codes "b") (PointerV (codes "f") (values ([]))) (field (codes "k") (IntV (pos 0)) no_fields))) no_fields)))) ∷ entry (codes "x") true (ArrayV (values ((MapV (field (codes "b") (CharV 122) (field (codes "k") UnitV no_fields))) ∷ (ArrayV (values ((IntV (negsuc 1)) ∷ []))) ∷ (MapV (field (codes "a") (CharV 97) (field (codes "k") (CharV 233) no_fields))) ∷ []))) ∷ []) None (asked (Some (IntV (pos 63))) (codes "index$set$") ((IntV (pos 1)) ∷ (IntV (negsuc 0)) ∷ []) ∷ []) 10
unfolding ran
chains_9101014 = refl

-- let a = <#{"a": [9223372036854775806, Fn(f), ()], "k": #{"b": 3, "k": 'z'}}>
-- let m = <[[-1..=-2, "f"], [Fn(g), #{"a": 'é'}], #{"b": ()}]>
-- let x = <#{"b": ["f"], "k": #{"a": 63, "b": (), "k": 0}}>
-- Index(x, Dot("a", b)) /= { -1 }
-- let b = Dot?(a, Dot(f(x), b))
-- Dot(x, Index!(b, 0)) = { !(false) }
-- fn ().g() {}
chains_9101063 : ran (engine (binding (codes "b") (BoolV true) ∷ []) (override (codes "*=") ((codes "i64") ∷ (codes "i64") ∷ []) ∷ override (codes "-") ((codes "bool") ∷ (codes "bool") ∷ []) ∷ override (codes "/") ((codes "i64") ∷ (codes "i64") ∷ []) ∷ override (codes "/=") ((codes "array") ∷ (codes "i64") ∷ []) ∷ override (codes "==") ((codes "i64") ∷ []) ∷ []) (renamed (codes "i64") (codes "int") ∷ []) false) (host (named (codes "h") (Answers (IntV (pos 9223372036854775807)) (Some (CharV 122)) ∷ Answers (PointerV (codes "f") (values ((BoolV false) ∷ []))) None ∷ []) ∷ named (codes "g") (Answers (BoolV false) None ∷ Answers (MapV no_fields) None ∷ Answers (RangeV (pos 2) (pos 4)) None ∷ Answers (IntV (pos 3)) (Some (CharV 233)) ∷ Answers (ArrayV (values ((IntV (pos 63)) ∷ (IntV (negsuc 1)) ∷ []))) (Some (MapV (field (codes "a") (BoolV false) no_fields))) ∷ []) ∷ []) (Answers (IntV (pos 3)) None ∷ Answers (TextV (codes "b")) None ∷ Answers UnitV None ∷ Answers (CharV 233) None ∷ Answers (PointerV (codes "h") (values ((CharV 97) ∷ []))) None ∷ []) (binding (codes "ns::a") (IntV (pos 5)) ∷ binding (codes "ns::x") (CharV 122) ∷ [])) ((function (Some (codes "()")) (codes "g") ([]) ([])) ∷ []) ((Var false false (codes "a") (DynamicConstant (MapV (field (codes "a") (ArrayV (values ((IntV (pos 9223372036854775806)) ∷ (PointerV (codes "f") (values ([]))) ∷ UnitV ∷ []))) (field (codes "k") (MapV (field (codes "b") (IntV (pos 3)) (field (codes "k") (CharV 122) no_fields))) no_fields))))) ∷ (Var false false (codes "m") (DynamicConstant (ArrayV (values ((ArrayV (values ((RangeInclusiveV (negsuc 0) (negsuc 1)) ∷ (TextV (codes "f")) ∷ []))) ∷ (ArrayV (values ((PointerV (codes "g") (values ([]))) ∷ (MapV (field (codes "a") (CharV 233) no_fields)) ∷ []))) ∷ (MapV (field (codes "b") UnitV no_fields)) ∷ []))))) ∷ (Var false false (codes "x") (DynamicConstant (MapV (field (codes "b") (ArrayV (values ((TextV (codes "f")) ∷ []))) (field (codes "k") (MapV (field (codes "a") (IntV (pos 63)) (field (codes "b") UnitV (field (codes "k") (IntV (pos 0)) no_fields)))) no_fields))))) ∷ (Assignment (Some Divide) (Index (flags false false) (Variable ([]) (codes "x")) (Dot (flags false false) (StringConstant (codes "a")) (property (codes "get$b") (codes "set$b") (codes "b")))) (BlockExpr (stmts ((ExprStmt (IntegerConstant (negsuc 0))) ∷ [])))) ∷ (Var false false (codes "b") (Dot (flags true false) (Variable ([]) (codes "a")) (Dot (flags false false) (MethodCall (callee [] (codes "f") false NoToken) (exprs ((Variable ([]) (codes "x")) ∷ []))) (property (codes "get$b") (codes "set$b") (codes "b"))))) ∷ (Assignment None (Dot (flags false false) (Variable ([]) (codes "x")) (Index (flags false true) (property (codes "get$b") (codes "set$b") (codes "b")) (IntegerConstant (pos 0)))) (BlockExpr (stmts ((ExprStmt (FnCall (callee [] (codes "!") false (OfOperator Not)) (exprs ((BoolConstant false) ∷ [])))) ∷ [])))) ∷ []) AtStatements ([]) 1 ≡ ends (WithValue UnitV) (entry (codes "a") false (MapV (field (codes "a") (ArrayV (values ((IntV (pos 9223372036854775806)) ∷ (PointerV (codes "f") (values ([]))) ∷ UnitV ∷ []))) (field (codes "k") (MapV (field (codes "b") (IntV (pos 3)) (field (codes "k") (CharV 122) no_fields))) no_fields))) ∷ entry (codes "m") false (ArrayV (values ((ArrayV (values ((RangeInclusiveV (negsuc 0) (negsuc 1)) ∷ (TextV (codes "f")) ∷ []))) ∷ (ArrayV (values ((PointerV (codes "g") (values ([]))) ∷ (MapV (field (codes "a") (CharV 233) no_fields)) ∷ []))) ∷ (MapV (field (codes "b") UnitV no_fields)) ∷ []))) ∷ entry (codes "x") false (MapV (field (codes "b") (ArrayV (values ((BoolV true) ∷ []))) (field (codes "k") (MapV (field (codes "a") (IntV (pos 63)) (field (codes "b") UnitV (field (codes "k") (IntV (pos 0)) no_fields)))) no_fields))) ∷ entry (codes "b") false (PointerV (codes "h") (values ((CharV 97) ∷ []))) ∷ []) None (asked (Some UnitV) (codes "get$b") ([]) ∷ asked None (codes "/") ((IntV (pos 3)) ∷ (IntV (negsuc 0)) ∷ []) ∷ asked (Some UnitV) (codes "set$b") ((TextV (codes "b")) ∷ []) ∷ asked (Some (MapV (field (codes "a") (ArrayV (values ((IntV (pos 9223372036854775806)) ∷ (PointerV (codes "f") (values ([]))) ∷ UnitV ∷ []))) (field (codes "k") (MapV (field (codes "b") (IntV (pos 3)) (field (codes "k") (CharV 122) no_fields))) no_fields)))) (codes "f") ((MapV (field (codes "b") (ArrayV (values ((TextV (codes "f")) ∷ []))) (field (codes "k") (MapV (field (codes "a") (IntV (pos 63)) (field (codes "b") UnitV (field (codes "k") (IntV (pos 0)) no_fields)))) no_fields))) ∷ []) ∷ asked (Some (CharV 233)) (codes "get$b") ([]) ∷ []) 1
unfolding ran
chains_9101063 = refl

-- let a = <[#{"a": (), "b": Fn(f), "k": "ab"}]>
-- let m = <#{"a": #{"a": [], "b": #{}}, "b": ["b", 64, Fn(f)], "k": [64, Fn(f)]}>
-- const x = <#{"a": [-2, 'z'], "b": [Fn(h)]}>
-- Index!(a, "b") = { 1 }
-- try { Dot(x, Index(push(), Dot?({ 0 }, a))) } catch c {}
-- try { Dot!(a, a) } catch c {}
-- Index!(x, 1) = { 2 }
-- fn push(m) { this = <[false, 64]> }
-- fn ().h(c) {}
-- fn map.g() { return this }
-- fn g(c) { Index(this, Index!({ q = f() }, 1)) = <["ab", "b", ()]> }
-- fn k() { y }
chains_9101106 : ran (engine (binding (codes "a") (TextV (codes "")) ∷ binding (codes "a") (IntV (pos 7)) ∷ binding (codes "q") (ArrayV (values ((IntV (pos 63)) ∷ (CharV 122) ∷ (CharV 233) ∷ []))) ∷ []) ([]) (renamed (codes "array") (codes "list") ∷ renamed (codes "map") (codes "object") ∷ []) false) (host (named (codes "g") (Answers (BoolV false) (Some UnitV) ∷ Answers (IntV (pos 9223372036854775806)) (Some (CharV 122)) ∷ Answers UnitV (Some (IntV (pos 0))) ∷ []) ∷ []) ([]) (binding (codes "ns::a") (IntV (pos 5)) ∷ binding (codes "ns::x") (IntV (negsuc 1)) ∷ [])) ((function None (codes "push") ((codes "m") ∷ []) ((Assignment None ThisPtr (DynamicConstant (ArrayV (values ((BoolV false) ∷ (IntV (pos 64)) ∷ []))))) ∷ [])) ∷ (function (Some (codes "()")) (codes "h") ((codes "c") ∷ []) ([])) ∷ (function (Some (codes "map")) (codes "g") ([]) ((Return false false (an_expr ThisPtr)) ∷ [])) ∷ (function None (codes "g") ((codes "c") ∷ []) ((Assignment None (Index (flags false false) ThisPtr (Index (flags false true) (BlockExpr (stmts ((Assignment None (Variable ([]) (codes "q")) (FnCall (callee [] (codes "f") false NoToken) (exprs ([])))) ∷ []))) (IntegerConstant (pos 1)))) (DynamicConstant (ArrayV (values ((TextV (codes "ab")) ∷ (TextV (codes "b")) ∷ UnitV ∷ []))))) ∷ [])) ∷ (function None (codes "k") ([]) ((ExprStmt (Variable ([]) (codes "y"))) ∷ [])) ∷ []) ((Var false false (codes "a") (DynamicConstant (ArrayV (values ((MapV (field (codes "a") UnitV (field (codes "b") (PointerV (codes "f") (values ([]))) (field (codes "k") (TextV (codes "ab")) no_fields)))) ∷ []))))) ∷ (Var false false (codes "m") (DynamicConstant (MapV (field (codes "a") (MapV (field (codes "a") (ArrayV (values ([]))) (field (codes "b") (MapV no_fields) no_fields))) (field (codes "b") (ArrayV (values ((TextV (codes "b")) ∷ (IntV (pos 64)) ∷ (PointerV (codes "f") (values ([]))) ∷ []))) (field (codes "k") (ArrayV (values ((IntV (pos 64)) ∷ (PointerV (codes "f") (values ((IntV (pos 1)) ∷ []))) ∷ []))) no_fields)))))) ∷ (Var true false (codes "x") (DynamicConstant (MapV (field (codes "a") (ArrayV (values ((IntV (negsuc 1)) ∷ (CharV 122) ∷ []))) (field (codes "b") (ArrayV (values ((PointerV (codes "h") (values ([]))) ∷ []))) no_fields))))) ∷ (Assignment None (Index (flags false true) (Variable ([]) (codes "a")) (StringConstant (codes "b"))) (BlockExpr (stmts ((ExprStmt (IntegerConstant (pos 1))) ∷ [])))) ∷ (TryCatch (Variable ([]) (codes "c")) (stmts ((ExprStmt (Dot (flags false false) (Variable ([]) (codes "x")) (Index (flags false false) (MethodCall (callee [] (codes "push") false NoToken) (exprs ([]))) (Dot (flags true false) (BlockExpr (stmts ((ExprStmt (IntegerConstant (pos 0))) ∷ []))) (property (codes "get$a") (codes "set$a") (codes "a")))))) ∷ [])) (stmts ([]))) ∷ (TryCatch (Variable ([]) (codes "c")) (stmts ((ExprStmt (Dot (flags false true) (Variable ([]) (codes "a")) (property (codes "get$a") (codes "set$a") (codes "a")))) ∷ [])) (stmts ([]))) ∷ (Assignment None (Index (flags false true) (Variable ([]) (codes "x")) (IntegerConstant (pos 1))) (BlockExpr (stmts ((ExprStmt (IntegerConstant (pos 2))) ∷ [])))) ∷ []) AtStatements (entry (codes "b") true (TextV (codes "")) ∷ entry (codes "b") true (TextV (codes "")) ∷ entry (codes "y") false (IntV (pos 3)) ∷ []) 0 ≡ ends (WithValue UnitV) (entry (codes "y") false (IntV (pos 3)) ∷ entry (codes "b") true (TextV (codes "")) ∷ entry (codes "b") true (TextV (codes "")) ∷ entry (codes "a") false (ArrayV (values ((MapV (field (codes "a") UnitV (field (codes "b") (PointerV (codes "f") (values ([]))) (field (codes "k") (TextV (codes "ab")) no_fields)))) ∷ []))) ∷ entry (codes "m") false (MapV (field (codes "a") (MapV (field (codes "a") (ArrayV (values ([]))) (field (codes "b") (MapV no_fields) no_fields))) (field (codes "b") (ArrayV (values ((TextV (codes "b")) ∷ (IntV (pos 64)) ∷ (PointerV (codes "f") (values ([]))) ∷ []))) (field (codes "k") (ArrayV (values ((IntV (pos 64)) ∷ (PointerV (codes "f") (values ((IntV (pos 1)) ∷ []))) ∷ []))) no_fields)))) ∷ entry (codes "x") true (MapV (field (codes "a") (ArrayV (values ((IntV (negsuc 1)) ∷ (CharV 122) ∷ []))) (field (codes "b") (ArrayV (values ((PointerV (codes "h") (values ([]))) ∷ []))) no_fields))) ∷ []) None (asked (Some (ArrayV (values ((MapV (field (codes "a") UnitV (field (codes "b") (PointerV (codes "f") (values ([]))) (field (codes "k") (TextV (codes "ab")) no_fields)))) ∷ [])))) (codes "index$set$") ((TextV (codes "b")) ∷ (IntV (pos 1)) ∷ []) ∷ asked (Some (MapV (field (codes "a") (ArrayV (values ((IntV (negsuc 1)) ∷ (CharV 122) ∷ []))) (field (codes "b") (ArrayV (values ((PointerV (codes "h") (values ([]))) ∷ []))) no_fields)))) (codes "push") ([]) ∷ asked (Some UnitV) (codes "index$get$") ((IntV (pos 0)) ∷ []) ∷ asked (Some (ArrayV (values ((MapV (field (codes "a") UnitV (field (codes "b") (PointerV (codes "f") (values ([]))) (field (codes "k") (TextV (codes "ab")) no_fields)))) ∷ [])))) (codes "get$a") ([]) ∷ asked (Some (MapV (field (codes "a") (ArrayV (values ((IntV (negsuc 1)) ∷ (CharV 122) ∷ []))) (field (codes "b") (ArrayV (values ((PointerV (codes "h") (values ([]))) ∷ []))) no_fields)))) (codes "index$set$") ((IntV (pos 1)) ∷ (IntV (pos 2)) ∷ []) ∷ []) 0
unfolding ran
chains_9101106 = refl

-- let a = <[[Fn(h)], -9223372036854775808, #{"a": ['é', (), true], "k": 9223372036854775807}]>
-- let m = <#{"a": "a", "k": [#{"k": -9223372036854775808}]}>
-- let x = <#{"b": #{"a": 9223372036854775806}, "k": [-9223372036854775808]}>
-- try { Dot(<[#{"k": ()}, Fn(f), "é"]>, type_of()) } catch c {}
-- Index!(m, { m = <0>; "k" }) = +(Index!(m, { m = <0>; "k" }), 1)
-- Index!(x, { x = <1..=1>; 0 }) = { c = <#{"a": ()}>; 1 }
-- Index!(x, "k") = { Index(a, Index?!({ "b" }, 1)) = <'z'>; 1 }
-- fn ().h(c) { Dot(this, b) = <#{"a": []}>; this = <[3, ()]> }
chains_9101253 : ran (engine (binding (codes "x") (IntV (pos 9223372036854775806)) ∷ binding (codes "c") (MapV no_fields) ∷ []) ([]) ([]) false) (host (named (codes "h") ([]) ∷ named (codes "get$a") (Answers UnitV None ∷ Answers (BoolV false) (Some (MapV (field (codes "a") (TextV (codes "a")) (field (codes "b") UnitV no_fields)))) ∷ Answers (CharV 98) None ∷ Answers (IntV (pos 9223372036854775806)) (Some (MapV (field (codes "a") (TextV (codes "")) no_fields))) ∷ Answers (IntV (pos 7)) (Some UnitV) ∷ []) ∷ []) (Answers (TextV (codes "f")) (Some (CharV 233)) ∷ Answers (PointerV (codes "f") (values (UnitV ∷ []))) None ∷ Answers (IntV (pos 2)) None ∷ Answers (CharV 233) None ∷ []) (binding (codes "ns::a") (IntV (pos 5)) ∷ binding (codes "ns::x") (MapV (field (codes "b") (BoolV false) no_fields)) ∷ [])) ((function (Some (codes "()")) (codes "h") ((codes "c") ∷ []) ((Assignment None (Dot (flags false false) ThisPtr (property (codes "get$b") (codes "set$b") (codes "b"))) (DynamicConstant (MapV (field (codes "a") (ArrayV (values ([]))) no_fields)))) ∷ (Assignment None ThisPtr (DynamicConstant (ArrayV (values ((IntV (pos 3)) ∷ UnitV ∷ []))))) ∷ [])) ∷ []) ((Var false false (codes "a") (DynamicConstant (ArrayV (values ((ArrayV (values ((PointerV (codes "h") (values ([]))) ∷ []))) ∷ (IntV (negsuc 9223372036854775807)) ∷ (MapV (field (codes "a") (ArrayV (values ((CharV 233) ∷ UnitV ∷ (BoolV true) ∷ []))) (field (codes "k") (IntV (pos 9223372036854775807)) no_fields))) ∷ []))))) ∷ (Var false false (codes "m") (DynamicConstant (MapV (field (codes "a") (TextV (codes "a")) (field (codes "k") (ArrayV (values ((MapV (field (codes "k") (IntV (negsuc 9223372036854775807)) no_fields)) ∷ []))) no_fields))))) ∷ (Var false false (codes "x") (DynamicConstant (MapV (field (codes "b") (MapV (field (codes "a") (IntV (pos 9223372036854775806)) no_fields)) (field (codes "k") (ArrayV (values ((IntV (negsuc 9223372036854775807)) ∷ []))) no_fields))))) ∷ (TryCatch (Variable ([]) (codes "c")) (stmts ((ExprStmt (Dot (flags false false) (DynamicConstant (ArrayV (values ((MapV (field (codes "k") UnitV no_fields)) ∷ (PointerV (codes "f") (values ([]))) ∷ (TextV (195 ∷ 169 ∷ [])) ∷ [])))) (MethodCall (callee [] (codes "type_of") false NoToken) (exprs ([]))))) ∷ [])) (stmts ([]))) ∷ (Assignment None (Index (flags false true) (Variable ([]) (codes "m")) (BlockExpr (stmts ((Assignment None (Variable ([]) (codes "m")) (DynamicConstant (IntV (pos 0)))) ∷ (ExprStmt (StringConstant (codes "k"))) ∷ [])))) (FnCall (callee [] (codes "+") false (OfOperator Plus)) (exprs ((Index (flags false true) (Variable ([]) (codes "m")) (BlockExpr (stmts ((Assignment None (Variable ([]) (codes "m")) (DynamicConstant (IntV (pos 0)))) ∷ (ExprStmt (StringConstant (codes "k"))) ∷ [])))) ∷ (IntegerConstant (pos 1)) ∷ [])))) ∷ (Assignment None (Index (flags false true) (Variable ([]) (codes "x")) (BlockExpr (stmts ((Assignment None (Variable ([]) (codes "x")) (DynamicConstant (RangeInclusiveV (pos 1) (pos 1)))) ∷ (ExprStmt (IntegerConstant (pos 0))) ∷ [])))) (BlockExpr (stmts ((Assignment None (Variable ([]) (codes "c")) (DynamicConstant (MapV (field (codes "a") UnitV no_fields)))) ∷ (ExprStmt (IntegerConstant (pos 1))) ∷ [])))) ∷ (Assignment None (Index (flags false true) (Variable ([]) (codes "x")) (StringConstant (codes "k"))) (BlockExpr (stmts ((Assignment None (Index (flags false false) (Variable ([]) (codes "a")) (Index (flags true true) (BlockExpr (stmts ((ExprStmt (StringConstant (codes "b"))) ∷ []))) (IntegerConstant (pos 1)))) (DynamicConstant (CharV 122))) ∷ (ExprStmt (IntegerConstant (pos 1))) ∷ [])))) ∷ []) AtStatements (entry (codes "a") true (IntV (pos 3)) ∷ []) 0 ≡ ends (WithStuck WriteToConstant) (entry (codes "a") true (IntV (pos 3)) ∷ entry (codes "a") false (ArrayV (values ((ArrayV (values ((PointerV (codes "h") (values ([]))) ∷ []))) ∷ (IntV (negsuc 9223372036854775807)) ∷ (MapV (field (codes "a") (ArrayV (values ((CharV 233) ∷ UnitV ∷ (BoolV true) ∷ []))) (field (codes "k") (IntV (pos 9223372036854775807)) no_fields))) ∷ []))) ∷ entry (codes "m") false (IntV (pos 0)) ∷ entry (codes "x") false (MapV (field (codes "b") (MapV (field (codes "a") (IntV (pos 9223372036854775806)) no_fields)) (field (codes "k") (ArrayV (values ((IntV (negsuc 9223372036854775807)) ∷ []))) no_fields))) ∷ []) None (asked (Some (IntV (pos 0))) (codes "index$get$") ((TextV (codes "k")) ∷ []) ∷ asked None (codes "+") ((TextV (codes "f")) ∷ (IntV (pos 1)) ∷ []) ∷ asked (Some (IntV (pos 0))) (codes "index$set$") ((TextV (codes "k")) ∷ (PointerV (codes "f") (values (UnitV ∷ []))) ∷ []) ∷ []) 0
unfolding ran
chains_9101253 = refl

-- let a = <#{"a": [Fn(h), ['z', 'z', "a"]], "b": [true], "k": 'z'}>
-- let m = <#{"k": [["é", "", -2], "f"]}>
-- let x = <#{"k": ['a', "b"]}>
-- let a = Dot(m, Dot?(a, Index!(a, "a")))
-- Index?!(m, 0) = { block { let a = <[[1], [2]]>; Index(a, Index!(1, { a = <[[3]]>; 0 })) } }
-- let x = Index(m, Index!("a", -1))
-- fn i64.g(b) { this = <#{}> }
-- fn k() { y }
chains_9101422 : ran (engine (binding (codes "c") (BoolV false) ∷ binding (codes "c") (IntV (negsuc 9223372036854775807)) ∷ []) ([]) (renamed (codes "i64") (codes "int") ∷ []) false) (host (named (codes "get$a") ([]) ∷ []) ([]) (binding (codes "ns::a") (IntV (pos 5)) ∷ binding (codes "ns::x") (CharV 98) ∷ [])) ((function (Some (codes "i64")) (codes "g") ((codes "b") ∷ []) ((Assignment None ThisPtr (DynamicConstant (MapV no_fields))) ∷ [])) ∷ (function None (codes "k") ([]) ((ExprStmt (Variable ([]) (codes "y"))) ∷ [])) ∷ []) ((Var false false (codes "a") (DynamicConstant (MapV (field (codes "a") (ArrayV (values ((PointerV (codes "h") (values ((CharV 233) ∷ []))) ∷ (ArrayV (values ((CharV 122) ∷ (CharV 122) ∷ (TextV (codes "a")) ∷ []))) ∷ []))) (field (codes "b") (ArrayV (values ((BoolV true) ∷ []))) (field (codes "k") (CharV 122) no_fields)))))) ∷ (Var false false (codes "m") (DynamicConstant (MapV (field (codes "k") (ArrayV (values ((ArrayV (values ((TextV (195 ∷ 169 ∷ [])) ∷ (TextV (codes "")) ∷ (IntV (negsuc 1)) ∷ []))) ∷ (TextV (codes "f")) ∷ []))) no_fields)))) ∷ (Var false false (codes "x") (DynamicConstant (MapV (field (codes "k") (ArrayV (values ((CharV 97) ∷ (TextV (codes "b")) ∷ []))) no_fields)))) ∷ (Var false false (codes "a") (Dot (flags false false) (Variable ([]) (codes "m")) (Dot (flags true false) (property (codes "get$a") (codes "set$a") (codes "a")) (Index (flags false true) (property (codes "get$a") (codes "set$a") (codes "a")) (StringConstant (codes "a")))))) ∷ (Assignment None (Index (flags true true) (Variable ([]) (codes "m")) (IntegerConstant (pos 0))) (BlockExpr (stmts ((Block (stmts ((Var false false (codes "a") (DynamicConstant (ArrayV (values ((ArrayV (values ((IntV (pos 1)) ∷ []))) ∷ (ArrayV (values ((IntV (pos 2)) ∷ []))) ∷ []))))) ∷ (ExprStmt (Index (flags false false) (Variable ([]) (codes "a")) (Index (flags false true) (IntegerConstant (pos 1)) (BlockExpr (stmts ((Assignment None (Variable ([]) (codes "a")) (DynamicConstant (ArrayV (values ((ArrayV (values ((IntV (pos 3)) ∷ []))) ∷ []))))) ∷ (ExprStmt (IntegerConstant (pos 0))) ∷ [])))))) ∷ []))) ∷ [])))) ∷ (Var false false (codes "x") (Index (flags false false) (Variable ([]) (codes "m")) (Index (flags false true) (StringConstant (codes "a")) (IntegerConstant (negsuc 0))))) ∷ []) AtStatements ([]) 10 ≡ ends (WithStuck NoPlace) (entry (codes "a") false (MapV (field (codes "a") (ArrayV (values ((PointerV (codes "h") (values ((CharV 233) ∷ []))) ∷ (ArrayV (values ((CharV 122) ∷ (CharV 122) ∷ (TextV (codes "a")) ∷ []))) ∷ []))) (field (codes "b") (ArrayV (values ((BoolV true) ∷ []))) (field (codes "k") (CharV 122) no_fields)))) ∷ entry (codes "m") false (MapV (field (codes "k") (ArrayV (values ((ArrayV (values ((TextV (195 ∷ 169 ∷ [])) ∷ (TextV (codes "")) ∷ (IntV (negsuc 1)) ∷ []))) ∷ (TextV (codes "f")) ∷ []))) no_fields)) ∷ entry (codes "x") false (MapV (field (codes "k") (ArrayV (values ((CharV 97) ∷ (TextV (codes "b")) ∷ []))) no_fields)) ∷ entry (codes "a") false UnitV ∷ []) None ([]) 10
unfolding ran
chains_9101422 = refl

-- let a = <[[#{"a": ()}, 3], #{"a": Fn(f), "b": 63, "k": -1..2}]>
-- let m = <[[#{"a": 1, "b": 7}, Fn(f)]]>
-- let x = <1>
-- try { Index(<[(), #{"b": "a", "k": -1}]>, Dot(-1, Dot(h(), h()))) } catch c {}
-- let b = Dot(m, b)
-- Index!(m, { 0 }) <<= { a = <["é", Fn(g), #{}]>; "k" }
-- Index!(x, { x = <#{"a": false, "b": 'z', "k": [63, -1, "ab"]}>; "a" }) = +(Index!(x, { x = <#{"a": false, "b": 'z', "k": [63, -1, "ab"]}>; "a" }), 1)
-- fn map.g() { throw this }
-- fn ().h(c) { this = (); this = <#{"a": "f", "k": Fn(g)}> }
chains_9101553 : ran (engine ([]) ([]) ([]) false) (host ([]) (Answers (IntV (negsuc 1)) None ∷ Answers (ArrayV (values ((IntV (negsuc 0)) ∷ (BoolV true) ∷ []))) (Some (TextV (195 ∷ 169 ∷ []))) ∷ []) (binding (codes "ns::a") (IntV (pos 5)) ∷ binding (codes "ns::x") (BoolV true) ∷ [])) ((function (Some (codes "map")) (codes "g") ([]) ((Return true false (an_expr ThisPtr)) ∷ [])) ∷ (function (Some (codes "()")) (codes "h") ((codes "c") ∷ []) ((Assignment None ThisPtr UnitConstant) ∷ (Assignment None ThisPtr (DynamicConstant (MapV (field (codes "a") (TextV (codes "f")) (field (codes "k") (PointerV (codes "g") (values ([]))) no_fields))))) ∷ [])) ∷ []) ((Var false false (codes "a") (DynamicConstant (ArrayV (values ((ArrayV (values ((MapV (field (codes "a") UnitV no_fields)) ∷ (IntV (pos 3)) ∷ []))) ∷ (MapV (field (codes "a") (PointerV (codes "f") (values ((BoolV false) ∷ []))) (field (codes "b") (IntV (pos 63)) (field (codes "k") (RangeV (negsuc 0) (pos 2)) no_fields)))) ∷ []))))) ∷ (Var false false (codes "m") (DynamicConstant (ArrayV (values ((ArrayV (values ((MapV (field (codes "a") (IntV (pos 1)) (field (codes "b") (IntV (pos 7)) no_fields))) ∷ (PointerV (codes "f") (values ([]))) ∷ []))) ∷ []))))) ∷ (Var false false (codes "x") (DynamicConstant (IntV (pos 1)))) ∷ (TryCatch (Variable ([]) (codes "c")) (stmts ((ExprStmt (Index (flags false false) (DynamicConstant (ArrayV (values (UnitV ∷ (MapV (field (codes "b") (TextV (codes "a")) (field (codes "k") (IntV (negsuc 0)) no_fields))) ∷ [])))) (Dot (flags false false) (IntegerConstant (negsuc 0)) (Dot (flags false false) (MethodCall (callee [] (codes "h") false NoToken) (exprs ([]))) (MethodCall (callee [] (codes "h") false NoToken) (exprs ([]))))))) ∷ [])) (stmts ([]))) ∷ (Var false false (codes "b") (Dot (flags false false) (Variable ([]) (codes "m")) (property (codes "get$b") (codes "set$b") (codes "b")))) ∷ (Assignment (Some ShiftLeft) (Index (flags false true) (Variable ([]) (codes "m")) (BlockExpr (stmts ((ExprStmt (IntegerConstant (pos 0))) ∷ [])))) (BlockExpr (stmts ((Assignment None (Variable ([]) (codes "a")) (DynamicConstant (ArrayV (values ((TextV (195 ∷ 169 ∷ [])) ∷ (PointerV (codes "g") (values ([]))) ∷ (MapV no_fields) ∷ []))))) ∷ (ExprStmt (StringConstant (codes "k"))) ∷ [])))) ∷ (Assignment None (Index (flags false true) (Variable ([]) (codes "x")) (BlockExpr (stmts ((Assignment None (Variable ([]) (codes "x")) (DynamicConstant (MapV (field (codes "a") (BoolV false) (field (codes "b") (CharV 122) (field (codes "k") (ArrayV (values ((IntV (pos 63)) ∷ (IntV (negsuc 0)) ∷ (TextV (codes "ab")) ∷ []))) no_fields)))))) ∷ (ExprStmt (StringConstant (codes "a"))) ∷ [])))) (FnCall (callee [] (codes "+") false (OfOperator Plus)) (exprs ((Index (flags false true) (Variable ([]) (codes "x")) (BlockExpr (stmts ((Assignment None (Variable ([]) (codes "x")) (DynamicConstant (MapV (field (codes "a") (BoolV false) (field (codes "b") (CharV 122) (field (codes "k") (ArrayV (values ((IntV (pos 63)) ∷ (IntV (negsuc 0)) ∷ (TextV (codes "ab")) ∷ []))) no_fields)))))) ∷ (ExprStmt (StringConstant (codes "a"))) ∷ [])))) ∷ (IntegerConstant (pos 1)) ∷ [])))) ∷ []) AtStatements ([]) 3 ≡ ends (WithValue UnitV) (entry (codes "a") false (ArrayV (values ((TextV (195 ∷ 169 ∷ [])) ∷ (PointerV (codes "g") (values ([]))) ∷ (MapV no_fields) ∷ []))) ∷ entry (codes "m") false (ArrayV (values (UnitV ∷ []))) ∷ entry (codes "x") false (MapV (field (codes "a") UnitV (field (codes "b") (CharV 122) (field (codes "k") (ArrayV (values ((IntV (pos 63)) ∷ (IntV (negsuc 0)) ∷ (TextV (codes "ab")) ∷ []))) no_fields)))) ∷ entry (codes "b") false UnitV ∷ []) None (asked (Some (MapV (field (codes "b") (TextV (codes "a")) (field (codes "k") (IntV (negsuc 0)) no_fields)))) (codes "h") ([]) ∷ asked (Some (IntV (negsuc 1))) (codes "h") ([]) ∷ asked (Some (ArrayV (values ((ArrayV (values ((MapV (field (codes "a") (IntV (pos 1)) (field (codes "b") (IntV (pos 7)) no_fields))) ∷ (PointerV (codes "f") (values ([]))) ∷ []))) ∷ [])))) (codes "get$b") ([]) ∷ asked None (codes "<<") ((ArrayV (values ((MapV (field (codes "a") (IntV (pos 1)) (field (codes "b") (IntV (pos 7)) no_fields))) ∷ (PointerV (codes "f") (values ([]))) ∷ []))) ∷ (TextV (codes "k")) ∷ []) ∷ asked None (codes "+") ((BoolV false) ∷ (IntV (pos 1)) ∷ []) ∷ []) 3
unfolding ran
chains_9101553 = refl

-- let a = <[#{"a": -9223372036854775808, "b": 0}, #{"a": (), "b": "", "k": "é"}, #{"a": (), "b": Fn(h), "k": 3..=5}]>
-- let m = <9223372036854775807>
-- let x = <#{"a": -1..=1, "b": ["a", []], "k": #{"a": -2..=-2, "b": -1}}>
-- Dot(x, Dot(k, Index!(k, { "b" }))) = { Index(m, Dot({ m = <[false, "b"]>; 2 }, Index!(k, { 0 }))) = <'a'>; -1 }
-- fn ().f() { Index(this, Index(0, Dot({ 0 }, k))) = <[0, -9223372036854775808]>; return this }
-- fn push() { this = <[false, ()]>; Dot(this, a) = Fn("type_of"); throw this }
-- fn g(b) {}
chains_9101643 : ran (engine ([]) ([]) (renamed (codes "i64") (codes "int") ∷ []) true) (host ([]) (Answers (IntV (pos 7)) None ∷ Answers (ArrayV (values ([]))) None ∷ Answers (IntV (pos 2)) (Some (TextV (codes ""))) ∷ []) (binding (codes "ns::a") (IntV (pos 5)) ∷ binding (codes "ns::x") (PointerV (codes "h") (values ((TextV (codes "a")) ∷ []))) ∷ [])) ((function (Some (codes "()")) (codes "f") ([]) ((Assignment None (Index (flags false false) ThisPtr (Index (flags false false) (IntegerConstant (pos 0)) (Dot (flags false false) (BlockExpr (stmts ((ExprStmt (IntegerConstant (pos 0))) ∷ []))) (property (codes "get$k") (codes "set$k") (codes "k"))))) (DynamicConstant (ArrayV (values ((IntV (pos 0)) ∷ (IntV (negsuc 9223372036854775807)) ∷ []))))) ∷ (Return false false (an_expr ThisPtr)) ∷ [])) ∷ (function None (codes "push") ([]) ((Assignment None ThisPtr (DynamicConstant (ArrayV (values ((BoolV false) ∷ UnitV ∷ []))))) ∷ (Assignment None (Dot (flags false false) ThisPtr (property (codes "get$a") (codes "set$a") (codes "a"))) (FnCall (callee [] (codes "Fn") false NoToken) (exprs ((StringConstant (codes "type_of")) ∷ [])))) ∷ (Return true false (an_expr ThisPtr)) ∷ [])) ∷ (function None (codes "g") ((codes "b") ∷ []) ([])) ∷ []) ((Var false false (codes "a") (DynamicConstant (ArrayV (values ((MapV (field (codes "a") (IntV (negsuc 9223372036854775807)) (field (codes "b") (IntV (pos 0)) no_fields))) ∷ (MapV (field (codes "a") UnitV (field (codes "b") (TextV (codes "")) (field (codes "k") (TextV (195 ∷ 169 ∷ [])) no_fields)))) ∷ (MapV (field (codes "a") UnitV (field (codes "b") (PointerV (codes "h") (values ((IntV (pos 63)) ∷ []))) (field (codes "k") (RangeInclusiveV (pos 3) (pos 5)) no_fields)))) ∷ []))))) ∷ (Var false false (codes "m") (DynamicConstant (IntV (pos 9223372036854775807)))) ∷ (Var false false (codes "x") (DynamicConstant (MapV (field (codes "a") (RangeInclusiveV (negsuc 0) (pos 1)) (field (codes "b") (ArrayV (values ((TextV (codes "a")) ∷ (ArrayV (values ([]))) ∷ []))) (field (codes "k") (MapV (field (codes "a") (RangeInclusiveV (negsuc 1) (negsuc 1)) (field (codes "b") (IntV (negsuc 0)) no_fields))) no_fields)))))) ∷ (Assignment None (Dot (flags false false) (Variable ([]) (codes "x")) (Dot (flags false false) (property (codes "get$k") (codes "set$k") (codes "k")) (Index (flags false true) (property (codes "get$k") (codes "set$k") (codes "k")) (BlockExpr (stmts ((ExprStmt (StringConstant (codes "b"))) ∷ [])))))) (BlockExpr (stmts ((Assignment None (Index (flags false false) (Variable ([]) (codes "m")) (Dot (flags false false) (BlockExpr (stmts ((Assignment None (Variable ([]) (codes "m")) (DynamicConstant (ArrayV (values ((BoolV false) ∷ (TextV (codes "b")) ∷ []))))) ∷ (ExprStmt (IntegerConstant (pos 2))) ∷ []))) (Index (flags false true) (property (codes "get$k") (codes "set$k") (codes "k")) (BlockExpr (stmts ((ExprStmt (IntegerConstant (pos 0))) ∷ [])))))) (DynamicConstant (CharV 97))) ∷ (ExprStmt (IntegerConstant (negsuc 0))) ∷ [])))) ∷ []) AtStatements (entry (codes "a") false (IntV (pos 9223372036854775807)) ∷ []) 1 ≡ ends (WithThrown (TextV (codes "array bounds"))) (entry (codes "a") false (IntV (pos 9223372036854775807)) ∷ entry (codes "a") false (ArrayV (values ((MapV (field (codes "a") (IntV (negsuc 9223372036854775807)) (field (codes "b") (IntV (pos 0)) no_fields))) ∷ (MapV (field (codes "a") UnitV (field (codes "b") (TextV (codes "")) (field (codes "k") (TextV (195 ∷ 169 ∷ [])) no_fields)))) ∷ (MapV (field (codes "a") UnitV (field (codes "b") (PointerV (codes "h") (values ((IntV (pos 63)) ∷ []))) (field (codes "k") (RangeInclusiveV (pos 3) (pos 5)) no_fields)))) ∷ []))) ∷ entry (codes "m") false (ArrayV (values ((BoolV false) ∷ (TextV (codes "b")) ∷ []))) ∷ entry (codes "x") false (MapV (field (codes "a") (RangeInclusiveV (negsuc 0) (pos 1)) (field (codes "b") (ArrayV (values ((TextV (codes "a")) ∷ (ArrayV (values ([]))) ∷ []))) (field (codes "k") (MapV (field (codes "a") (RangeInclusiveV (negsuc 1) (negsuc 1)) (field (codes "b") (IntV (negsuc 0)) no_fields))) no_fields)))) ∷ []) None ([]) 1
unfolding ran
chains_9101643 = refl

-- const a = <#{}>
-- const m = <[[3..=4, #{"a": 'z', "k": -1}]]>
-- let x = <[[Fn(g)], #{"a": Fn(g), "k": -2..=-3}]>
-- try { Dot(x, f(a)) } catch c {}
-- fn i64.f(x) { this = <Fn(h)>; this = <#{"a": ()}> }
-- fn array.f(c) { Index(this, Dot(0, a)) = call(<Fn(k)>, 1); this = <[false, ""]>; throw this }
-- fn map.f() {}
-- fn array.h() { Index?(this, Dot(0, k)) = <[Fn(h), "a"]> }
chains_9101810 : ran (engine (binding (codes "m") (MapV (field (codes "b") (BoolV true) no_fields)) ∷ []) ([]) ([]) true) (host (named (codes "push") (Answers UnitV (Some (BoolV false)) ∷ Answers (BoolV false) (Some (ArrayV (values ((BoolV true) ∷ (CharV 97) ∷ [])))) ∷ Answers (PointerV (codes "f") (values ([]))) None ∷ Answers (TextV (codes "b")) None ∷ []) ∷ []) (Answers (IntV (pos 3)) None ∷ Answers (PointerV (codes "g") (values ((IntV (pos 3)) ∷ []))) (Some (ArrayV (values ([])))) ∷ Answers (ArrayV (values ((CharV 97) ∷ []))) (Some (IntV (negsuc 1))) ∷ AnswersThrow (PointerV (codes "f") (values ([]))) ∷ Answers (MapV (field (codes "b") (BoolV false) no_fields)) (Some (MapV no_fields)) ∷ []) (binding (codes "ns::a") (IntV (pos 5)) ∷ binding (codes "ns::x") (ArrayV (values ((IntV (pos 7)) ∷ (BoolV false) ∷ []))) ∷ [])) ((function (Some (codes "i64")) (codes "f") ((codes "x") ∷ []) ((Assignment None ThisPtr (DynamicConstant (PointerV (codes "h") (values ([]))))) ∷ (Assignment None ThisPtr (DynamicConstant (MapV (field (codes "a") UnitV no_fields)))) ∷ [])) ∷ (function (Some (codes "array")) (codes "f") ((codes "c") ∷ []) ((Assignment None (Index (flags false false) ThisPtr (Dot (flags false false) (IntegerConstant (pos 0)) (property (codes "get$a") (codes "set$a") (codes "a")))) (FnCall (callee [] (codes "call") false NoToken) (exprs ((DynamicConstant (PointerV (codes "k") (values (UnitV ∷ [])))) ∷ (IntegerConstant (pos 1)) ∷ [])))) ∷ (Assignment None ThisPtr (DynamicConstant (ArrayV (values ((BoolV false) ∷ (TextV (codes "")) ∷ []))))) ∷ (Return true false (an_expr ThisPtr)) ∷ [])) ∷ (function (Some (codes "map")) (codes "f") ([]) ([])) ∷ (function (Some (codes "array")) (codes "h") ([]) ((Assignment None (Index (flags true false) ThisPtr (Dot (flags false false) (IntegerConstant (pos 0)) (property (codes "get$k") (codes "set$k") (codes "k")))) (DynamicConstant (ArrayV (values ((PointerV (codes "h") (values ((IntV (pos 0)) ∷ []))) ∷ (TextV (codes "a")) ∷ []))))) ∷ [])) ∷ []) ((Var true false (codes "a") (DynamicConstant (MapV no_fields))) ∷ (Var true false (codes "m") (DynamicConstant (ArrayV (values ((ArrayV (values ((RangeInclusiveV (pos 3) (pos 4)) ∷ (MapV (field (codes "a") (CharV 122) (field (codes "k") (IntV (negsuc 0)) no_fields))) ∷ []))) ∷ []))))) ∷ (Var false false (codes "x") (DynamicConstant (ArrayV (values ((ArrayV (values ((PointerV (codes "g") (values ([]))) ∷ []))) ∷ (MapV (field (codes "a") (PointerV (codes "g") (values ([]))) (field (codes "k") (RangeInclusiveV (negsuc 1) (negsuc 2)) no_fields))) ∷ []))))) ∷ (TryCatch (Variable ([]) (codes "c")) (stmts ((ExprStmt (Dot (flags false false) (Variable ([]) (codes "x")) (MethodCall (callee [] (codes "f") false NoToken) (exprs ((Variable ([]) (codes "a")) ∷ []))))) ∷ [])) (stmts ([]))) ∷ []) AtStatements ([]) 3 ≡ ends (WithValue UnitV) (entry (codes "a") true (MapV no_fields) ∷ entry (codes "m") true (ArrayV (values ((ArrayV (values ((RangeInclusiveV (pos 3) (pos 4)) ∷ (MapV (field (codes "a") (CharV 122) (field (codes "k") (IntV (negsuc 0)) no_fields))) ∷ []))) ∷ []))) ∷ entry (codes "x") false (ArrayV (values ((ArrayV (values ((PointerV (codes "g") (values ([]))) ∷ []))) ∷ (MapV (field (codes "a") (PointerV (codes "g") (values ([]))) (field (codes "k") (RangeInclusiveV (negsuc 1) (negsuc 2)) no_fields))) ∷ []))) ∷ []) None (asked None (codes "k") (UnitV ∷ (IntV (pos 1)) ∷ []) ∷ asked (Some (ArrayV (values ((PointerV (codes "g") (values ([]))) ∷ [])))) (codes "set$a") ((IntV (pos 3)) ∷ []) ∷ []) 2
unfolding ran
chains_9101810 = refl
