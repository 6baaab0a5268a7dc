-- Runs that enter at a function, of scripts made at random, as an evaluator of its own computed them.
use Rattle.std.specs.Prelude.{◌≡◌, true, false, [], ◌∷◌, None, Some, pos, negsuc, codes, refl}
use Rattle.rhai_base.specs.Value.{UnitV, BoolV, IntV, CharV, TextV, ArrayV, MapV, PointerV, RangeV, RangeInclusiveV, values, field, no_fields}
use Rattle.rhai_base.specs.Operators.{Plus, Minus, Multiply, Divide, Modulo, Power, ShiftLeft, BitAnd, BitXor, EqualTo, NotEqualTo, Greater, LessOrEqual, GreaterOrEqual, UpTo, Through, Not}
use Rattle.theory_meaning.specs.Act.{Answers, Unbound, WrongKind, WriteToConstant, NoPlace, UnboundThis, AnswersThrow}
use Rattle.theory_meaning.specs.Run.{WithValue, WithThrown, WithStuck, AtFunction, WithoutTurns}
use Rattle.theory_meaning.specs.Tree.{OfOperator, NoToken, ExclusiveInt, DynamicConstant, BoolConstant, IntegerConstant, CharConstant, StringConstant, UnitConstant, ArrayOf, Variable, ThisPtr, MethodCall, BlockExpr, FnCall, Dot, Index, And, Coalesce, no_expr, an_expr, arm, no_arms, Switch, While, Do, For, Var, Assignment, TryCatch, ExprStmt, BreakLoop, Return, exprs, stmts, InclusiveInt, InterpolatedString, Noop, If, FnCallStmt, Block}
use Rattle.worked_meaning.specs.EvaluatedForms.{callee, flags, property, table, case, function, asked, binding, override, renamed, engine, function_key, ends, named, host, ran}

-- let c = -1
-- const a = <#{"b": Fn(g)}>
-- let b = -2
-- let a = "é"
-- if ==(<['a', false, -1]>, a) { loop { break <Fn(h)> }; try { "f"; 2; <7>; throw "ab" } catch y { -9223372036854775808; <"é"> } } else { try { true } catch c {}; const x = b }
-- fn i64.h(x) { if >=(64, 3) { this += 1 } else {}; return %((), ()) }
-- fn k() { y }
full_9000209 : ran (engine ([]) (override (codes "%=") ((codes "i64") ∷ (codes "i64") ∷ []) ∷ override (codes "**=") ((codes "i64") ∷ (codes "i64") ∷ []) ∷ override (codes "+") ((codes "array") ∷ (codes "range=") ∷ []) ∷ override (codes "+") ((codes "bool") ∷ []) ∷ override (codes "+") ((codes "char") ∷ []) ∷ override (codes "+") ((codes "range") ∷ (codes "()") ∷ []) ∷ override (codes "..") ((codes "char") ∷ []) ∷ override (codes "..=") ((codes "()") ∷ (codes "char") ∷ []) ∷ override (codes ">") ((codes "i64") ∷ (codes "i64") ∷ []) ∷ []) ([]) true) (host (named (codes "index$get$") (Answers (BoolV true) (Some (TextV (195 ∷ 169 ∷ []))) ∷ Answers (MapV (field (codes "a") (CharV 233) (field (codes "b") (CharV 98) no_fields))) None ∷ Answers UnitV None ∷ []) ∷ []) (Answers (MapV (field (codes "a") (CharV 233) (field (codes "b") (TextV (195 ∷ 169 ∷ [])) no_fields))) None ∷ AnswersThrow (TextV (codes "ab")) ∷ Answers (IntV (pos 1)) None ∷ Answers (RangeInclusiveV (negsuc 1) (negsuc 2)) None ∷ []) (binding (codes "ns::a") (IntV (pos 5)) ∷ binding (codes "ns::x") (CharV 98) ∷ [])) ((function (Some (codes "i64")) (codes "h") ((codes "x") ∷ []) ((If (FnCall (callee [] (codes ">=") false (OfOperator GreaterOrEqual)) (exprs ((IntegerConstant (pos 64)) ∷ (IntegerConstant (pos 3)) ∷ []))) (stmts ((Assignment (Some Plus) ThisPtr (IntegerConstant (pos 1))) ∷ [])) (stmts ([]))) ∷ (Return false false (an_expr (FnCall (callee [] (codes "%") false (OfOperator Modulo)) (exprs (UnitConstant ∷ UnitConstant ∷ []))))) ∷ [])) ∷ (function None (codes "k") ([]) ((ExprStmt (Variable ([]) (codes "y"))) ∷ [])) ∷ []) ((Var false false (codes "c") (IntegerConstant (negsuc 0))) ∷ (Var true false (codes "a") (DynamicConstant (MapV (field (codes "b") (PointerV (codes "g") (values ([]))) no_fields)))) ∷ (Var false false (codes "b") (IntegerConstant (negsuc 1))) ∷ (Var false false (codes "a") (StringConstant (195 ∷ 169 ∷ []))) ∷ (If (FnCall (callee [] (codes "==") false (OfOperator EqualTo)) (exprs ((DynamicConstant (ArrayV (values ((CharV 97) ∷ (BoolV false) ∷ (IntV (negsuc 0)) ∷ [])))) ∷ (Variable ([]) (codes "a")) ∷ []))) (stmts ((While UnitConstant (stmts ((BreakLoop true false (an_expr (DynamicConstant (PointerV (codes "h") (values ([])))))) ∷ []))) ∷ (TryCatch (Variable ([]) (codes "y")) (stmts ((ExprStmt (StringConstant (codes "f"))) ∷ (ExprStmt (IntegerConstant (pos 2))) ∷ (ExprStmt (DynamicConstant (IntV (pos 7)))) ∷ (Return true false (an_expr (StringConstant (codes "ab")))) ∷ [])) (stmts ((ExprStmt (IntegerConstant (negsuc 9223372036854775807))) ∷ (ExprStmt (DynamicConstant (TextV (195 ∷ 169 ∷ [])))) ∷ []))) ∷ [])) (stmts ((TryCatch (Variable ([]) (codes "c")) (stmts ((ExprStmt (BoolConstant true)) ∷ [])) (stmts ([]))) ∷ (Var true false (codes "x") (Variable ([]) (codes "b"))) ∷ []))) ∷ []) (AtFunction (function_key (codes "h") 1 (Some (codes "i64"))) (Some (IntV (negsuc 9223372036854775807))) ((PointerV (codes "h") (values ([]))) ∷ [])) ([]) 10 ≡ ends (WithValue (MapV (field (codes "a") (CharV 233) (field (codes "b") (TextV (195 ∷ 169 ∷ [])) no_fields)))) ([]) (Some (IntV (negsuc 9223372036854775806))) (asked None (codes "%") (UnitV ∷ UnitV ∷ []) ∷ []) 9
unfolding ran
full_9000209 = refl

-- const b = 1
-- for a in <2..=3> { while { false } {}; if { false } { <"b">; true; -9223372036854775808 } else { (); <false> } }
-- fn g() { c = +(c, 0); let c = -1; let y = c }
-- fn map.h() { let m = x; return 7 }
full_9000542 : ran (engine (binding (codes "c") (CharV 98) ∷ []) (override (codes "%") ((codes "string") ∷ (codes "Fn") ∷ []) ∷ override (codes "+") ((codes "i64") ∷ (codes "i64") ∷ []) ∷ override (codes "/=") ((codes "map") ∷ []) ∷ []) ([]) false) (host (named (codes "get$a") (Answers (BoolV true) None ∷ AnswersThrow (BoolV false) ∷ []) ∷ named (codes "+") (Answers UnitV None ∷ Answers (IntV (pos 0)) (Some (IntV (pos 9223372036854775807))) ∷ Answers (RangeInclusiveV (pos 0) (pos 0)) (Some (ArrayV (values (UnitV ∷ (IntV (pos 9223372036854775806)) ∷ [])))) ∷ Answers (TextV (codes "b")) (Some (ArrayV (values ((BoolV false) ∷ UnitV ∷ (IntV (pos 3)) ∷ [])))) ∷ []) ∷ []) ([]) (binding (codes "ns::a") (IntV (pos 5)) ∷ binding (codes "ns::x") (IntV (pos 3)) ∷ [])) ((function None (codes "g") ([]) ((Assignment None (Variable ([]) (codes "c")) (FnCall (callee [] (codes "+") false (OfOperator Plus)) (exprs ((Variable ([]) (codes "c")) ∷ (IntegerConstant (pos 0)) ∷ [])))) ∷ (Var false false (codes "c") (IntegerConstant (negsuc 0))) ∷ (Var false false (codes "y") (Variable ([]) (codes "c"))) ∷ [])) ∷ (function (Some (codes "map")) (codes "h") ([]) ((Var false false (codes "m") (Variable ([]) (codes "x"))) ∷ (Return false false (an_expr (IntegerConstant (pos 7)))) ∷ [])) ∷ []) ((Var true false (codes "b") (IntegerConstant (pos 1))) ∷ (For (codes "a") None (DynamicConstant (RangeInclusiveV (pos 2) (pos 3))) (stmts ((While (BlockExpr (stmts ((ExprStmt (BoolConstant false)) ∷ []))) (stmts ([]))) ∷ (If (BlockExpr (stmts ((ExprStmt (BoolConstant false)) ∷ []))) (stmts ((ExprStmt (DynamicConstant (TextV (codes "b")))) ∷ (ExprStmt (BoolConstant true)) ∷ (ExprStmt (IntegerConstant (negsuc 9223372036854775807))) ∷ [])) (stmts ((ExprStmt UnitConstant) ∷ (ExprStmt (DynamicConstant (BoolV false))) ∷ []))) ∷ []))) ∷ []) (AtFunction (function_key (codes "g") 0 None) None ([])) ([]) 10 ≡ ends (WithStuck WriteToConstant) ([]) None (asked None (codes "+") ((CharV 98) ∷ (IntV (pos 0)) ∷ []) ∷ []) 9
unfolding ran
full_9000542 = refl

-- let b = <-1..=1>
-- const b = true
-- let x = ()
-- let y = 64
-- loop { break }
-- if { 7; for (a, a) in <5..7> { print(a) } } { block {} } else {}
-- do { debug() } while true
-- fn push(m) { Dot!(m, push('b')) = +(Dot!(m, push('b')), false) }
-- fn f() { const y = 7; return text(x) }
-- fn k() { y }
full_9000548 : ran (engine ([]) ([]) ([]) true) (host (named (codes "push") (Answers UnitV (Some (TextV (codes "b"))) ∷ Answers UnitV None ∷ []) ∷ named (codes "index$get$") ([]) ∷ []) (Answers (CharV 98) (Some (BoolV false)) ∷ Answers (IntV (negsuc 0)) None ∷ Answers (IntV (pos 2)) None ∷ Answers (IntV (negsuc 1)) None ∷ []) (binding (codes "ns::a") (IntV (pos 5)) ∷ binding (codes "ns::x") (BoolV false) ∷ [])) ((function None (codes "push") ((codes "m") ∷ []) ((Assignment None (Dot (flags false true) (Variable ([]) (codes "m")) (MethodCall (callee [] (codes "push") false NoToken) (exprs ((CharConstant 98) ∷ [])))) (FnCall (callee [] (codes "+") false (OfOperator Plus)) (exprs ((Dot (flags false true) (Variable ([]) (codes "m")) (MethodCall (callee [] (codes "push") false NoToken) (exprs ((CharConstant 98) ∷ [])))) ∷ (BoolConstant false) ∷ [])))) ∷ [])) ∷ (function None (codes "f") ([]) ((Var true false (codes "y") (IntegerConstant (pos 7))) ∷ (Return false false (an_expr (InterpolatedString (exprs ((Variable ([]) (codes "x")) ∷ []))))) ∷ [])) ∷ (function None (codes "k") ([]) ((ExprStmt (Variable ([]) (codes "y"))) ∷ [])) ∷ []) ((Var false false (codes "b") (DynamicConstant (RangeInclusiveV (negsuc 0) (pos 1)))) ∷ (Var true false (codes "b") (BoolConstant true)) ∷ (Var false false (codes "x") UnitConstant) ∷ (Var false false (codes "y") (IntegerConstant (pos 64))) ∷ (While UnitConstant (stmts ((BreakLoop true false no_expr) ∷ []))) ∷ (If (BlockExpr (stmts ((ExprStmt (IntegerConstant (pos 7))) ∷ (For (codes "a") (Some (codes "a")) (DynamicConstant (RangeV (pos 5) (pos 7))) (stmts ((ExprStmt (FnCall (callee [] (codes "print") false NoToken) (exprs ((Variable ([]) (codes "a")) ∷ [])))) ∷ []))) ∷ []))) (stmts ((Block (stmts ([]))) ∷ [])) (stmts ([]))) ∷ (Do false false (BoolConstant true) (stmts ((ExprStmt (FnCall (callee [] (codes "debug") false NoToken) (exprs ([])))) ∷ []))) ∷ []) (AtFunction (function_key (codes "push") 1 None) (Some (MapV (field (codes "b") (IntV (pos 1)) no_fields))) ((CharV 122) ∷ [])) ([]) 2 ≡ ends WithoutTurns ([]) (Some (MapV (field (codes "b") (IntV (pos 1)) no_fields))) ([]) 0
unfolding ran
full_9000548 = refl

-- const c = <Fn(f)>
-- let y = Fn("type_of")
-- fn array.g() {}
-- fn g(y) { y &= y }
-- fn array.h(b, a) { this += b; return Index!(b, -1) }
full_9000883 : ran (engine (binding (codes "c") (TextV (codes "f")) ∷ []) ([]) ([]) true) (host ([]) ([]) (binding (codes "ns::a") (IntV (pos 5)) ∷ binding (codes "ns::x") (TextV (codes "f")) ∷ [])) ((function (Some (codes "array")) (codes "g") ([]) ([])) ∷ (function None (codes "g") ((codes "y") ∷ []) ((Assignment (Some BitAnd) (Variable ([]) (codes "y")) (Variable ([]) (codes "y"))) ∷ [])) ∷ (function (Some (codes "array")) (codes "h") ((codes "b") ∷ (codes "a") ∷ []) ((Assignment (Some Plus) ThisPtr (Variable ([]) (codes "b"))) ∷ (Return false false (an_expr (Index (flags false true) (Variable ([]) (codes "b")) (IntegerConstant (negsuc 0))))) ∷ [])) ∷ []) ((Var true false (codes "c") (DynamicConstant (PointerV (codes "f") (values ((MapV (field (codes "b") (BoolV false) no_fields)) ∷ []))))) ∷ (Var false false (codes "y") (FnCall (callee [] (codes "Fn") false NoToken) (exprs ((StringConstant (codes "type_of")) ∷ [])))) ∷ []) (AtFunction (function_key (codes "h") 2 (Some (codes "array"))) (Some (ArrayV (values ((IntV (pos 63)) ∷ (IntV (negsuc 0)) ∷ [])))) (UnitV ∷ (MapV (field (codes "a") (CharV 122) (field (codes "b") (IntV (pos 0)) no_fields))) ∷ [])) ([]) 10 ≡ ends (WithValue UnitV) ([]) (Some UnitV) (asked None (codes "+") ((ArrayV (values ((IntV (pos 63)) ∷ (IntV (negsuc 0)) ∷ []))) ∷ UnitV ∷ []) ∷ asked (Some UnitV) (codes "index$get$") ((IntV (negsuc 0)) ∷ []) ∷ []) 9
unfolding ran
full_9000883 = refl

-- Index(b, Index(..=(1, ()), Index!("a", a)))
-- const a = false
-- fn i64.push(m) { return ns::m }
full_9000904 : ran (engine (binding (codes "x") (PointerV (codes "g") (values ((CharV 98) ∷ []))) ∷ []) (override (codes "*") ((codes "char") ∷ []) ∷ override (codes "**") ((codes "i64") ∷ (codes "i64") ∷ []) ∷ override (codes "..=") ((codes "string") ∷ (codes "i64") ∷ []) ∷ []) (renamed (codes "array") (codes "list") ∷ renamed (codes "map") (codes "object") ∷ []) false) (host (named (codes "+") (Answers (IntV (negsuc 1)) (Some (IntV (pos 64))) ∷ Answers (CharV 97) (Some (TextV (codes "a"))) ∷ Answers (IntV (pos 3)) None ∷ Answers (IntV (pos 3)) (Some (TextV (codes "b"))) ∷ []) ∷ []) (Answers (TextV (codes "a")) None ∷ Answers (RangeV (pos 1) (pos 4)) None ∷ []) (binding (codes "ns::a") (IntV (pos 5)) ∷ binding (codes "ns::x") (TextV (codes "ab")) ∷ [])) ((function (Some (codes "i64")) (codes "push") ((codes "m") ∷ []) ((Return false false (an_expr (Variable ((codes "ns") ∷ []) (codes "m")))) ∷ [])) ∷ []) ((ExprStmt (Index (flags false false) (Variable ([]) (codes "b")) (Index (flags false false) (FnCall (callee [] (codes "..=") false (OfOperator Through)) (exprs ((IntegerConstant (pos 1)) ∷ UnitConstant ∷ []))) (Index (flags false true) (StringConstant (codes "a")) (Variable ([]) (codes "a")))))) ∷ (Var true false (codes "a") (BoolConstant false)) ∷ []) (AtFunction (function_key (codes "push") 1 (Some (codes "i64"))) (Some (IntV (pos 64))) ((MapV (field (codes "a") (TextV (codes "b")) (field (codes "k") (CharV 98) no_fields))) ∷ [])) ([]) 10 ≡ ends (WithStuck Unbound) ([]) (Some (IntV (pos 64))) ([]) 9
unfolding ran
full_9000904 = refl

-- block { false; let b = x }
-- let a = x
-- fn map.h() { let b = "a"; this %= 'é'; b = <#{"k": Fn(f)}> }
-- fn h(y) { return !(false); const b = -2 }
full_9001552 : ran (engine ([]) (override (codes "&=") ((codes "Fn") ∷ []) ∷ override (codes "&=") ((codes "bool") ∷ (codes "()") ∷ []) ∷ override (codes "**=") ((codes "()") ∷ (codes "range") ∷ []) ∷ override (codes "+") ((codes "i64") ∷ (codes "i64") ∷ []) ∷ override (codes "+") ((codes "range") ∷ []) ∷ override (codes "<=") ((codes "()") ∷ []) ∷ override (codes "<=") ((codes "range") ∷ (codes "Fn") ∷ []) ∷ override (codes "^=") ((codes "i64") ∷ (codes "i64") ∷ []) ∷ []) ([]) false) (host (named (codes "index$get$") (Answers (MapV (field (codes "a") UnitV (field (codes "k") UnitV no_fields))) (Some (BoolV false)) ∷ Answers (IntV (negsuc 0)) (Some (IntV (pos 2))) ∷ AnswersThrow (CharV 98) ∷ Answers UnitV None ∷ []) ∷ []) (Answers (IntV (pos 9223372036854775806)) None ∷ Answers (BoolV false) None ∷ Answers (MapV no_fields) None ∷ Answers (PointerV (codes "f") (values ([]))) (Some (RangeV (pos 3) (pos 4))) ∷ Answers (RangeV (pos 0) (pos 2)) None ∷ []) (binding (codes "ns::a") (IntV (pos 5)) ∷ binding (codes "ns::x") (ArrayV (values (UnitV ∷ (BoolV false) ∷ UnitV ∷ []))) ∷ [])) ((function (Some (codes "map")) (codes "h") ([]) ((Var false false (codes "b") (StringConstant (codes "a"))) ∷ (Assignment (Some Modulo) ThisPtr (CharConstant 233)) ∷ (Assignment None (Variable ([]) (codes "b")) (DynamicConstant (MapV (field (codes "k") (PointerV (codes "f") (values ([]))) no_fields)))) ∷ [])) ∷ (function None (codes "h") ((codes "y") ∷ []) ((Return false false (an_expr (FnCall (callee [] (codes "!") false (OfOperator Not)) (exprs ((BoolConstant false) ∷ []))))) ∷ (Var true false (codes "b") (IntegerConstant (negsuc 1))) ∷ [])) ∷ []) ((Block (stmts ((ExprStmt (BoolConstant false)) ∷ (Var false false (codes "b") (Variable ([]) (codes "x"))) ∷ []))) ∷ (Var false false (codes "a") (Variable ([]) (codes "x"))) ∷ []) (AtFunction (function_key (codes "h") 0 (Some (codes "map"))) (Some (TextV (codes "b"))) ([])) ([]) 1 ≡ ends (WithValue UnitV) ([]) (Some (IntV (pos 9223372036854775806))) (asked None (codes "%") ((TextV (codes "b")) ∷ (CharV 233) ∷ []) ∷ []) 0
unfolding ran
full_9001552 = refl

-- return text(x)
-- return { false; (); "a" }
-- fn i64.f() { switch false {  | 3..=6: 0 | default 2 | true => c, true => 3, true => () }; while true { (); ..(1, ()) } }
full_9002089 : ran (engine ([]) ([]) (renamed (codes "i64") (codes "int") ∷ []) false) (host ([]) (Answers (PointerV (codes "f") (values ([]))) None ∷ Answers (CharV 98) None ∷ Answers (RangeInclusiveV (pos 3) (pos 4)) None ∷ Answers (ArrayV (values ([]))) (Some UnitV) ∷ Answers (IntV (pos 9223372036854775806)) (Some UnitV) ∷ []) (binding (codes "ns::a") (IntV (pos 5)) ∷ binding (codes "ns::x") (ArrayV (values ([]))) ∷ [])) ((function (Some (codes "i64")) (codes "f") ([]) ((Switch (BoolConstant false) (arm (BoolConstant true) (Variable ([]) (codes "c")) (arm (BoolConstant true) (IntegerConstant (pos 3)) (arm (BoolConstant true) UnitConstant no_arms))) (table ([]) (record { range = InclusiveInt (pos 3) (pos 6); arm = 0 } ∷ []) (Some 2))) ∷ (While (BoolConstant true) (stmts ((ExprStmt UnitConstant) ∷ (ExprStmt (FnCall (callee [] (codes "..") false (OfOperator UpTo)) (exprs ((IntegerConstant (pos 1)) ∷ UnitConstant ∷ [])))) ∷ []))) ∷ [])) ∷ []) ((Return false false (an_expr (InterpolatedString (exprs ((Variable ([]) (codes "x")) ∷ []))))) ∷ (Return false false (an_expr (BlockExpr (stmts ((ExprStmt (BoolConstant false)) ∷ (ExprStmt UnitConstant) ∷ (ExprStmt (StringConstant (codes "a"))) ∷ []))))) ∷ []) (AtFunction (function_key (codes "f") 0 (Some (codes "i64"))) (Some (IntV (pos 2))) ([])) ([]) 5 ≡ ends WithoutTurns ([]) (Some (IntV (pos 2))) ([]) 0
unfolding ran
full_9002089 = refl

-- let y = ()
-- const x = 9223372036854775806
-- const b = true
-- let m = ()
-- noop
-- fn f(y) { Index!(y, 0) = y; try {} catch { 3; true }; return text(<true>, y, y) }
full_9002186 : ran (engine ([]) (override (codes "%=") ((codes "char") ∷ []) ∷ override (codes "*") ((codes "i64") ∷ (codes "i64") ∷ []) ∷ override (codes ">=") ((codes "char") ∷ (codes "()") ∷ []) ∷ []) (renamed (codes "i64") (codes "int") ∷ []) true) (host (named (codes "g") (Answers (IntV (pos 9223372036854775807)) (Some (ArrayV (values ([])))) ∷ []) ∷ []) (Answers (PointerV (codes "f") (values ([]))) None ∷ Answers (MapV no_fields) (Some (IntV (pos 64))) ∷ Answers (ArrayV (values ((CharV 233) ∷ []))) (Some (CharV 233)) ∷ AnswersThrow (IntV (negsuc 1)) ∷ Answers (PointerV (codes "h") (values (UnitV ∷ []))) (Some (MapV (field (codes "a") (BoolV false) no_fields))) ∷ []) (binding (codes "ns::a") (IntV (pos 5)) ∷ binding (codes "ns::x") (IntV (pos 9223372036854775806)) ∷ [])) ((function None (codes "f") ((codes "y") ∷ []) ((Assignment None (Index (flags false true) (Variable ([]) (codes "y")) (IntegerConstant (pos 0))) (Variable ([]) (codes "y"))) ∷ (TryCatch UnitConstant (stmts ([])) (stmts ((ExprStmt (IntegerConstant (pos 3))) ∷ (ExprStmt (BoolConstant true)) ∷ []))) ∷ (Return false false (an_expr (InterpolatedString (exprs ((DynamicConstant (BoolV true)) ∷ (Variable ([]) (codes "y")) ∷ (Variable ([]) (codes "y")) ∷ []))))) ∷ [])) ∷ []) ((Var false false (codes "y") UnitConstant) ∷ (Var true false (codes "x") (IntegerConstant (pos 9223372036854775806))) ∷ (Var true false (codes "b") (BoolConstant true)) ∷ (Var false false (codes "m") UnitConstant) ∷ Noop ∷ []) (AtFunction (function_key (codes "f") 1 None) None ((RangeInclusiveV (pos 0) (negsuc 0)) ∷ [])) ([]) 2 ≡ ends (WithValue (TextV (codes "true0..=-10..=-1"))) ([]) None (asked (Some (RangeInclusiveV (pos 0) (negsuc 0))) (codes "index$set$") ((IntV (pos 0)) ∷ (RangeInclusiveV (pos 0) (negsuc 0)) ∷ []) ∷ []) 1
unfolding ran
full_9002186 = refl

-- const x = ()
-- const a = ()
-- let b = 2
-- let m = 'a'
-- let a = ()
-- fn i64.f(c, m) { try { block { let a = <[[1], [2]]>; Index(a, Index!(1, { a = <[[3]]>; 0 })) }; -2; throw c } catch c { true }; c += m; const a = 9223372036854775806 }
-- fn k() { y }
full_9002904 : ran (engine (binding (codes "y") UnitV ∷ binding (codes "x") (MapV no_fields) ∷ []) (override (codes "!=") ((codes "i64") ∷ []) ∷ override (codes "!=") ((codes "i64") ∷ (codes "i64") ∷ []) ∷ override (codes "*=") ((codes "i64") ∷ (codes "map") ∷ []) ∷ override (codes "+=") ((codes "array") ∷ (codes "i64") ∷ []) ∷ override (codes "/") ((codes "i64") ∷ (codes "i64") ∷ []) ∷ override (codes "/=") ((codes "bool") ∷ []) ∷ override (codes ">") ((codes "range=") ∷ []) ∷ override (codes ">>") ((codes "i64") ∷ (codes "i64") ∷ []) ∷ override (codes "^=") ((codes "i64") ∷ (codes "i64") ∷ []) ∷ override (codes "|") ((codes "i64") ∷ (codes "range") ∷ []) ∷ []) (renamed (codes "array") (codes "list") ∷ renamed (codes "map") (codes "object") ∷ []) false) (host ([]) ([]) (binding (codes "ns::a") (IntV (pos 5)) ∷ binding (codes "ns::x") (IntV (pos 63)) ∷ [])) ((function (Some (codes "i64")) (codes "f") ((codes "c") ∷ (codes "m") ∷ []) ((TryCatch (Variable ([]) (codes "c")) (stmts ((Block (stmts ((Var false false (codes "a") (DynamicConstant (ArrayV (values ((ArrayV (values ((IntV (pos 1)) ∷ []))) ∷ (ArrayV (values ((IntV (pos 2)) ∷ []))) ∷ []))))) ∷ (ExprStmt (Index (flags false false) (Variable ([]) (codes "a")) (Index (flags false true) (IntegerConstant (pos 1)) (BlockExpr (stmts ((Assignment None (Variable ([]) (codes "a")) (DynamicConstant (ArrayV (values ((ArrayV (values ((IntV (pos 3)) ∷ []))) ∷ []))))) ∷ (ExprStmt (IntegerConstant (pos 0))) ∷ [])))))) ∷ []))) ∷ (ExprStmt (IntegerConstant (negsuc 1))) ∷ (Return true false (an_expr (Variable ([]) (codes "c")))) ∷ [])) (stmts ((ExprStmt (BoolConstant true)) ∷ []))) ∷ (Assignment (Some Plus) (Variable ([]) (codes "c")) (Variable ([]) (codes "m"))) ∷ (Var true false (codes "a") (IntegerConstant (pos 9223372036854775806))) ∷ [])) ∷ (function None (codes "k") ([]) ((ExprStmt (Variable ([]) (codes "y"))) ∷ [])) ∷ []) ((Var true false (codes "x") UnitConstant) ∷ (Var true false (codes "a") UnitConstant) ∷ (Var false false (codes "b") (IntegerConstant (pos 2))) ∷ (Var false false (codes "m") (CharConstant 97)) ∷ (Var false false (codes "a") UnitConstant) ∷ []) (AtFunction (function_key (codes "f") 2 (Some (codes "i64"))) (Some (IntV (negsuc 9223372036854775807))) ((ArrayV (values ((IntV (pos 0)) ∷ (CharV 122) ∷ (BoolV true) ∷ []))) ∷ (PointerV (codes "f") (values ((IntV (pos 0)) ∷ []))) ∷ [])) ([]) 2 ≡ ends (WithStuck NoPlace) ([]) (Some (IntV (negsuc 9223372036854775807))) ([]) 1
unfolding ran
full_9002904 = refl

-- const a = ()
-- const m = true
-- let a = ()
-- const a = m
-- a = +(a, Fn("type_of"))
-- fn array.g(x, a) { this <<= <"">; call **(x, x); call f(a, x) }
full_9003058 : ran (engine (binding (codes "x") (CharV 98) ∷ []) (override (codes "!") ((codes "map") ∷ (codes "char") ∷ []) ∷ override (codes "**=") ((codes "array") ∷ []) ∷ override (codes "**=") ((codes "i64") ∷ (codes "i64") ∷ []) ∷ override (codes "*=") ((codes "i64") ∷ (codes "i64") ∷ []) ∷ override (codes "+") ((codes "range=") ∷ []) ∷ override (codes "+=") ((codes "range") ∷ (codes "()") ∷ []) ∷ override (codes "<") ((codes "map") ∷ (codes "Fn") ∷ []) ∷ override (codes ">") ((codes "Fn") ∷ []) ∷ override (codes "|") ((codes "i64") ∷ (codes "i64") ∷ []) ∷ []) ([]) true) (host (named (codes "get$a") (Answers (MapV (field (codes "a") (IntV (pos 64)) no_fields)) None ∷ AnswersThrow (TextV (codes "a")) ∷ AnswersThrow (IntV (pos 3)) ∷ Answers (TextV (195 ∷ 169 ∷ [])) (Some (IntV (pos 1))) ∷ AnswersThrow (PointerV (codes "f") (values ([]))) ∷ []) ∷ named (codes "f") (Answers (ArrayV (values ((IntV (negsuc 9223372036854775807)) ∷ (IntV (pos 64)) ∷ []))) (Some (IntV (pos 3))) ∷ Answers (MapV (field (codes "k") UnitV no_fields)) None ∷ Answers (TextV (codes "f")) (Some (BoolV false)) ∷ Answers (BoolV true) (Some UnitV) ∷ Answers (TextV (codes "b")) (Some (BoolV false)) ∷ []) ∷ []) (Answers (MapV (field (codes "b") (TextV (codes "")) no_fields)) None ∷ Answers (ArrayV (values ((IntV (pos 64)) ∷ (CharV 233) ∷ (IntV (negsuc 0)) ∷ []))) None ∷ Answers (BoolV false) (Some (TextV (codes "ab"))) ∷ Answers (ArrayV (values ((IntV (pos 64)) ∷ []))) (Some (CharV 98)) ∷ Answers (TextV (codes "f")) None ∷ []) (binding (codes "ns::a") (IntV (pos 5)) ∷ binding (codes "ns::x") (TextV (codes "")) ∷ [])) ((function (Some (codes "array")) (codes "g") ((codes "x") ∷ (codes "a") ∷ []) ((Assignment (Some ShiftLeft) ThisPtr (DynamicConstant (TextV (codes "")))) ∷ (FnCallStmt (callee [] (codes "**") false (OfOperator Power)) (exprs ((Variable ([]) (codes "x")) ∷ (Variable ([]) (codes "x")) ∷ []))) ∷ (FnCallStmt (callee [] (codes "f") false NoToken) (exprs ((Variable ([]) (codes "a")) ∷ (Variable ([]) (codes "x")) ∷ []))) ∷ [])) ∷ []) ((Var true false (codes "a") UnitConstant) ∷ (Var true false (codes "m") (BoolConstant true)) ∷ (Var false false (codes "a") UnitConstant) ∷ (Var true false (codes "a") (Variable ([]) (codes "m"))) ∷ (Assignment None (Variable ([]) (codes "a")) (FnCall (callee [] (codes "+") false (OfOperator Plus)) (exprs ((Variable ([]) (codes "a")) ∷ (FnCall (callee [] (codes "Fn") false NoToken) (exprs ((StringConstant (codes "type_of")) ∷ []))) ∷ [])))) ∷ []) (AtFunction (function_key (codes "g") 2 (Some (codes "array"))) (Some (ArrayV (values ((CharV 122) ∷ (CharV 233) ∷ (IntV (pos 64)) ∷ [])))) ((IntV (pos 63)) ∷ (TextV (codes "a")) ∷ [])) ([]) 3 ≡ ends (WithValue (TextV (codes "f"))) ([]) (Some (MapV (field (codes "b") (TextV (codes "")) no_fields))) (asked None (codes "<<") ((ArrayV (values ((CharV 122) ∷ (CharV 233) ∷ (IntV (pos 64)) ∷ []))) ∷ (TextV (codes "")) ∷ []) ∷ asked None (codes "**") ((IntV (pos 63)) ∷ (IntV (pos 63)) ∷ []) ∷ asked None (codes "f") ((TextV (codes "a")) ∷ (IntV (pos 63)) ∷ []) ∷ []) 2
unfolding ran
full_9003058 = refl

-- let y = a
-- const x = false
-- const b = true
-- let x = <#{"k": Fn(h)}>
-- let a = "é"
-- let y = -2
-- print(ns::q)
-- try { throw x } catch { loop { break false } }
-- fn k() { y }
full_9003183 : ran (engine (binding (codes "q") (ArrayV (values ([]))) ∷ []) ([]) ([]) true) (host (named (codes "f") (Answers (CharV 97) (Some (RangeV (pos 0) (pos 0))) ∷ Answers (IntV (pos 1)) None ∷ []) ∷ named (codes "index$get$") (Answers (ArrayV (values ((TextV (codes "ab")) ∷ (IntV (negsuc 0)) ∷ (IntV (pos 64)) ∷ []))) (Some (ArrayV (values (UnitV ∷ [])))) ∷ Answers (BoolV true) None ∷ []) ∷ []) (Answers UnitV None ∷ Answers (BoolV false) (Some (BoolV false)) ∷ Answers (IntV (pos 9223372036854775807)) None ∷ Answers (CharV 122) None ∷ []) (binding (codes "ns::a") (IntV (pos 5)) ∷ binding (codes "ns::x") (IntV (pos 9223372036854775806)) ∷ [])) ((function None (codes "k") ([]) ((ExprStmt (Variable ([]) (codes "y"))) ∷ [])) ∷ []) ((Var false false (codes "y") (Variable ([]) (codes "a"))) ∷ (Var true false (codes "x") (BoolConstant false)) ∷ (Var true false (codes "b") (BoolConstant true)) ∷ (Var false false (codes "x") (DynamicConstant (MapV (field (codes "k") (PointerV (codes "h") (values (UnitV ∷ []))) no_fields)))) ∷ (Var false false (codes "a") (StringConstant (195 ∷ 169 ∷ []))) ∷ (Var false false (codes "y") (IntegerConstant (negsuc 1))) ∷ (ExprStmt (FnCall (callee [] (codes "print") false NoToken) (exprs ((Variable ((codes "ns") ∷ []) (codes "q")) ∷ [])))) ∷ (TryCatch UnitConstant (stmts ((Return true false (an_expr (Variable ([]) (codes "x")))) ∷ [])) (stmts ((While UnitConstant (stmts ((BreakLoop true false (an_expr (BoolConstant false))) ∷ []))) ∷ []))) ∷ []) (AtFunction (function_key (codes "k") 0 None) None ([])) ([]) 0 ≡ ends WithoutTurns ([]) None ([]) 0
unfolding ran
full_9003183 = refl

-- let m = ()
-- let c = <'b'>
-- let c = ()
-- let c = c
-- while coalesce(true, 7) { throw 'z' }
-- noop
-- block { noop; let y = 2 }
-- fn g(a, c) { let y = a; call ..(<7>, -2); loop { "b" } }
-- fn push() { try { "b" } catch c { <Fn(g)>; () }; return ..=(-1, 0) }
-- fn map.g(a) { noop; let y = a }
full_9003881 : ran (engine (binding (codes "c") (PointerV (codes "h") (values ([]))) ∷ []) ([]) ([]) false) (host (named (codes "g") (Answers (IntV (pos 9223372036854775806)) None ∷ AnswersThrow (CharV 97) ∷ AnswersThrow (ArrayV (values ((IntV (negsuc 0)) ∷ (IntV (pos 7)) ∷ []))) ∷ Answers (CharV 98) (Some (MapV (field (codes "b") (BoolV true) (field (codes "k") UnitV no_fields)))) ∷ Answers (PointerV (codes "f") (values ([]))) (Some (CharV 97)) ∷ []) ∷ []) (Answers (CharV 122) None ∷ Answers UnitV None ∷ Answers UnitV None ∷ Answers (RangeInclusiveV (pos 3) (pos 6)) None ∷ Answers (MapV (field (codes "a") (IntV (negsuc 1)) no_fields)) (Some (BoolV true)) ∷ []) (binding (codes "ns::a") (IntV (pos 5)) ∷ binding (codes "ns::x") UnitV ∷ [])) ((function None (codes "g") ((codes "a") ∷ (codes "c") ∷ []) ((Var false false (codes "y") (Variable ([]) (codes "a"))) ∷ (FnCallStmt (callee [] (codes "..") false (OfOperator UpTo)) (exprs ((DynamicConstant (IntV (pos 7))) ∷ (IntegerConstant (negsuc 1)) ∷ []))) ∷ (While UnitConstant (stmts ((ExprStmt (StringConstant (codes "b"))) ∷ []))) ∷ [])) ∷ (function None (codes "push") ([]) ((TryCatch (Variable ([]) (codes "c")) (stmts ((ExprStmt (StringConstant (codes "b"))) ∷ [])) (stmts ((ExprStmt (DynamicConstant (PointerV (codes "g") (values ([]))))) ∷ (ExprStmt UnitConstant) ∷ []))) ∷ (Return false false (an_expr (FnCall (callee [] (codes "..=") false (OfOperator Through)) (exprs ((IntegerConstant (negsuc 0)) ∷ (IntegerConstant (pos 0)) ∷ []))))) ∷ [])) ∷ (function (Some (codes "map")) (codes "g") ((codes "a") ∷ []) (Noop ∷ (Var false false (codes "y") (Variable ([]) (codes "a"))) ∷ [])) ∷ []) ((Var false false (codes "m") UnitConstant) ∷ (Var false false (codes "c") (DynamicConstant (CharV 98))) ∷ (Var false false (codes "c") UnitConstant) ∷ (Var false false (codes "c") (Variable ([]) (codes "c"))) ∷ (While (Coalesce (exprs ((BoolConstant true) ∷ (IntegerConstant (pos 7)) ∷ []))) (stmts ((Return true false (an_expr (CharConstant 122))) ∷ []))) ∷ Noop ∷ (Block (stmts (Noop ∷ (Var false false (codes "y") (IntegerConstant (pos 2))) ∷ []))) ∷ []) (AtFunction (function_key (codes "g") 2 None) None ((PointerV (codes "f") (values (UnitV ∷ []))) ∷ (PointerV (codes "f") (values ([]))) ∷ [])) ([]) 3 ≡ ends WithoutTurns ([]) None ([]) 0
unfolding ran
full_9003881 = refl

-- const b = ""
-- let a = b
-- const x = 9223372036854775806
-- x = +(x, a)
-- fn map.f() { const m = y; try { throw } catch b { block { let y = 7; Dot(<Fn(k)>, call()) }; "" }; return 'z'; return "b" }
-- fn array.g() { Dot(<true>, a) ^= -2; y = +(y, b) }
-- fn array.push() { call ns::Fn!(false); switch true { (): , 'z': 2 1 | 3..=4: 0 | default - | true => 64, true => b, false => a }; return ['a', 7, ns::b] }
-- fn k() { y }
full_9003908 : ran (engine ([]) (override (codes "+") ((codes "char") ∷ (codes "range=") ∷ []) ∷ override (codes "<<=") ((codes "i64") ∷ (codes "i64") ∷ []) ∷ override (codes ">") ((codes "range=") ∷ []) ∷ []) ([]) false) (host ([]) (Answers UnitV (Some (ArrayV (values ((BoolV false) ∷ (IntV (pos 63)) ∷ (CharV 98) ∷ [])))) ∷ Answers (RangeInclusiveV (negsuc 1) (negsuc 2)) None ∷ AnswersThrow (RangeInclusiveV (negsuc 1) (negsuc 2)) ∷ []) (binding (codes "ns::a") (IntV (pos 5)) ∷ binding (codes "ns::x") (RangeV (pos 3) (pos 4)) ∷ [])) ((function (Some (codes "map")) (codes "f") ([]) ((Var true false (codes "m") (Variable ([]) (codes "y"))) ∷ (TryCatch (Variable ([]) (codes "b")) (stmts ((Return true false no_expr) ∷ [])) (stmts ((Block (stmts ((Var false false (codes "y") (IntegerConstant (pos 7))) ∷ (ExprStmt (Dot (flags false false) (DynamicConstant (PointerV (codes "k") (values ([])))) (MethodCall (callee [] (codes "call") false NoToken) (exprs ([]))))) ∷ []))) ∷ (ExprStmt (StringConstant (codes ""))) ∷ []))) ∷ (Return false false (an_expr (CharConstant 122))) ∷ (Return false false (an_expr (StringConstant (codes "b")))) ∷ [])) ∷ (function (Some (codes "array")) (codes "g") ([]) ((Assignment (Some BitXor) (Dot (flags false false) (DynamicConstant (BoolV true)) (property (codes "get$a") (codes "set$a") (codes "a"))) (IntegerConstant (negsuc 1))) ∷ (Assignment None (Variable ([]) (codes "y")) (FnCall (callee [] (codes "+") false (OfOperator Plus)) (exprs ((Variable ([]) (codes "y")) ∷ (Variable ([]) (codes "b")) ∷ [])))) ∷ [])) ∷ (function (Some (codes "array")) (codes "push") ([]) ((FnCallStmt (callee ((codes "ns") ∷ []) (codes "Fn") true NoToken) (exprs ((BoolConstant false) ∷ []))) ∷ (Switch (BoolConstant true) (arm (BoolConstant true) (IntegerConstant (pos 64)) (arm (BoolConstant true) (Variable ([]) (codes "b")) (arm (BoolConstant false) (Variable ([]) (codes "a")) no_arms))) (table (case UnitV ([]) ∷ case (CharV 122) (2 ∷ 1 ∷ []) ∷ []) (record { range = InclusiveInt (pos 3) (pos 4); arm = 0 } ∷ []) None)) ∷ (Return false false (an_expr (ArrayOf (exprs ((CharConstant 97) ∷ (IntegerConstant (pos 7)) ∷ (Variable ((codes "ns") ∷ []) (codes "b")) ∷ []))))) ∷ [])) ∷ (function None (codes "k") ([]) ((ExprStmt (Variable ([]) (codes "y"))) ∷ [])) ∷ []) ((Var true false (codes "b") (StringConstant (codes ""))) ∷ (Var false false (codes "a") (Variable ([]) (codes "b"))) ∷ (Var true false (codes "x") (IntegerConstant (pos 9223372036854775806))) ∷ (Assignment None (Variable ([]) (codes "x")) (FnCall (callee [] (codes "+") false (OfOperator Plus)) (exprs ((Variable ([]) (codes "x")) ∷ (Variable ([]) (codes "a")) ∷ [])))) ∷ []) (AtFunction (function_key (codes "push") 0 (Some (codes "array"))) (Some (PointerV (codes "h") (values ((IntV (pos 9223372036854775807)) ∷ [])))) ([])) ([]) 1 ≡ ends (WithStuck Unbound) ([]) (Some (PointerV (codes "h") (values ((IntV (pos 9223372036854775807)) ∷ [])))) (asked None (codes "ns::Fn") ((BoolV false) ∷ []) ∷ []) 0
unfolding ran
full_9003908 = refl

-- const a = <#{"a": [3..5, 'é'], "b": [9223372036854775806, #{}], "k": #{"a": true, "b": 7, "k": 9223372036854775806}}>
-- let m = <#{"a": #{"k": true}}>
-- let x = <[[-1..-2]]>
-- Dot(x, Dot?(a, Index!(k, "k"))) = +(Dot(x, Dot?(a, Index!(k, "k"))), 1)
-- try { Dot(a, Index?(k, Index?!(2, 1))) } catch c {}
-- try { Dot?(a, Dot(k, Index!(k, "a"))) } catch c {}
-- Index!(x, -1) /= { 0 }
-- fn string.push(m) { Dot(this, b) = !(false); throw this }
chains_9100200 : ran (engine (binding (codes "a") (BoolV false) ∷ binding (codes "a") (TextV (codes "b")) ∷ []) (override (codes "+") ((codes "i64") ∷ (codes "i64") ∷ []) ∷ override (codes ">") ((codes "()") ∷ (codes "array") ∷ []) ∷ override (codes "|") ((codes "map") ∷ []) ∷ []) (renamed (codes "i64") (codes "int") ∷ []) false) (host (named (codes "f") ([]) ∷ []) (Answers (RangeInclusiveV (pos 2) (pos 4)) None ∷ Answers (RangeInclusiveV (negsuc 1) (pos 0)) None ∷ Answers (PointerV (codes "g") (values (UnitV ∷ []))) None ∷ Answers (PointerV (codes "h") (values ([]))) None ∷ Answers (ArrayV (values ([]))) (Some (IntV (negsuc 1))) ∷ []) (binding (codes "ns::a") (IntV (pos 5)) ∷ binding (codes "ns::x") (ArrayV (values ((IntV (negsuc 9223372036854775807)) ∷ []))) ∷ [])) ((function (Some (codes "string")) (codes "push") ((codes "m") ∷ []) ((Assignment None (Dot (flags false false) ThisPtr (property (codes "get$b") (codes "set$b") (codes "b"))) (FnCall (callee [] (codes "!") false (OfOperator Not)) (exprs ((BoolConstant false) ∷ [])))) ∷ (Return true false (an_expr ThisPtr)) ∷ [])) ∷ []) ((Var true false (codes "a") (DynamicConstant (MapV (field (codes "a") (ArrayV (values ((RangeV (pos 3) (pos 5)) ∷ (CharV 233) ∷ []))) (field (codes "b") (ArrayV (values ((IntV (pos 9223372036854775806)) ∷ (MapV no_fields) ∷ []))) (field (codes "k") (MapV (field (codes "a") (BoolV true) (field (codes "b") (IntV (pos 7)) (field (codes "k") (IntV (pos 9223372036854775806)) no_fields)))) no_fields)))))) ∷ (Var false false (codes "m") (DynamicConstant (MapV (field (codes "a") (MapV (field (codes "k") (BoolV true) no_fields)) no_fields)))) ∷ (Var false false (codes "x") (DynamicConstant (ArrayV (values ((ArrayV (values ((RangeV (negsuc 0) (negsuc 1)) ∷ []))) ∷ []))))) ∷ (Assignment None (Dot (flags false false) (Variable ([]) (codes "x")) (Dot (flags true false) (property (codes "get$a") (codes "set$a") (codes "a")) (Index (flags false true) (property (codes "get$k") (codes "set$k") (codes "k")) (StringConstant (codes "k"))))) (FnCall (callee [] (codes "+") false (OfOperator Plus)) (exprs ((Dot (flags false false) (Variable ([]) (codes "x")) (Dot (flags true false) (property (codes "get$a") (codes "set$a") (codes "a")) (Index (flags false true) (property (codes "get$k") (codes "set$k") (codes "k")) (StringConstant (codes "k"))))) ∷ (IntegerConstant (pos 1)) ∷ [])))) ∷ (TryCatch (Variable ([]) (codes "c")) (stmts ((ExprStmt (Dot (flags false false) (Variable ([]) (codes "a")) (Index (flags true false) (property (codes "get$k") (codes "set$k") (codes "k")) (Index (flags true true) (IntegerConstant (pos 2)) (IntegerConstant (pos 1)))))) ∷ [])) (stmts ([]))) ∷ (TryCatch (Variable ([]) (codes "c")) (stmts ((ExprStmt (Dot (flags true false) (Variable ([]) (codes "a")) (Dot (flags false false) (property (codes "get$k") (codes "set$k") (codes "k")) (Index (flags false true) (property (codes "get$k") (codes "set$k") (codes "k")) (StringConstant (codes "a")))))) ∷ [])) (stmts ([]))) ∷ (Assignment (Some Divide) (Index (flags false true) (Variable ([]) (codes "x")) (IntegerConstant (negsuc 0))) (BlockExpr (stmts ((ExprStmt (IntegerConstant (pos 0))) ∷ [])))) ∷ []) (AtFunction (function_key (codes "push") 1 (Some (codes "string"))) (Some (TextV (codes "f"))) ((IntV (negsuc 1)) ∷ [])) ([]) 3 ≡ ends (WithThrown (TextV (codes "f"))) ([]) (Some (TextV (codes "f"))) (asked (Some (TextV (codes "f"))) (codes "set$b") ((BoolV true) ∷ []) ∷ []) 2
unfolding ran
chains_9100200 = refl

-- let a = <#{"k": ["f"]}>
-- let m = <#{"b": true}>
-- let x = <["", ['a', 'é', 'a']]>
-- try { Dot?(m, call()) } catch c {}
-- Index(a, Dot("k", b)) <<= { 0 }
-- let c = Index!(x, 2)
-- let a = Dot?(x, a)
-- fn map.f() { this = ..((), 1); throw this }
-- fn i64.g() { throw this }
-- fn g(c) {}
chains_9100855 : ran (engine ([]) (override (codes "&") ((codes "i64") ∷ (codes "i64") ∷ []) ∷ override (codes "&=") ((codes "array") ∷ []) ∷ override (codes "+=") ((codes "bool") ∷ (codes "map") ∷ []) ∷ override (codes "..") ((codes "range=") ∷ (codes "range=") ∷ []) ∷ override (codes "/=") ((codes "i64") ∷ (codes "i64") ∷ []) ∷ override (codes "<") ((codes "char") ∷ (codes "bool") ∷ []) ∷ override (codes "==") ((codes "map") ∷ []) ∷ override (codes ">") ((codes "i64") ∷ (codes "i64") ∷ []) ∷ override (codes ">>=") ((codes "Fn") ∷ []) ∷ []) ([]) true) (host ([]) (AnswersThrow (IntV (pos 2)) ∷ Answers (BoolV true) None ∷ []) (binding (codes "ns::a") (IntV (pos 5)) ∷ binding (codes "ns::x") (TextV (codes "b")) ∷ [])) ((function (Some (codes "map")) (codes "f") ([]) ((Assignment None ThisPtr (FnCall (callee [] (codes "..") false (OfOperator UpTo)) (exprs (UnitConstant ∷ (IntegerConstant (pos 1)) ∷ [])))) ∷ (Return true false (an_expr ThisPtr)) ∷ [])) ∷ (function (Some (codes "i64")) (codes "g") ([]) ((Return true false (an_expr ThisPtr)) ∷ [])) ∷ (function None (codes "g") ((codes "c") ∷ []) ([])) ∷ []) ((Var false false (codes "a") (DynamicConstant (MapV (field (codes "k") (ArrayV (values ((TextV (codes "f")) ∷ []))) no_fields)))) ∷ (Var false false (codes "m") (DynamicConstant (MapV (field (codes "b") (BoolV true) no_fields)))) ∷ (Var false false (codes "x") (DynamicConstant (ArrayV (values ((TextV (codes "")) ∷ (ArrayV (values ((CharV 97) ∷ (CharV 233) ∷ (CharV 97) ∷ []))) ∷ []))))) ∷ (TryCatch (Variable ([]) (codes "c")) (stmts ((ExprStmt (Dot (flags true false) (Variable ([]) (codes "m")) (MethodCall (callee [] (codes "call") false NoToken) (exprs ([]))))) ∷ [])) (stmts ([]))) ∷ (Assignment (Some ShiftLeft) (Index (flags false false) (Variable ([]) (codes "a")) (Dot (flags false false) (StringConstant (codes "k")) (property (codes "get$b") (codes "set$b") (codes "b")))) (BlockExpr (stmts ((ExprStmt (IntegerConstant (pos 0))) ∷ [])))) ∷ (Var false false (codes "c") (Index (flags false true) (Variable ([]) (codes "x")) (IntegerConstant (pos 2)))) ∷ (Var false false (codes "a") (Dot (flags true false) (Variable ([]) (codes "x")) (property (codes "get$a") (codes "set$a") (codes "a")))) ∷ []) (AtFunction (function_key (codes "f") 0 (Some (codes "map"))) (Some (MapV (field (codes "a") UnitV (field (codes "k") (TextV (195 ∷ 169 ∷ [])) no_fields)))) ([])) ([]) 2 ≡ ends (WithThrown (RangeV (pos 0) (pos 1))) ([]) (Some (RangeV (pos 0) (pos 1))) ([]) 1
unfolding ran
chains_9100855 = refl

-- let a = <[#{"b": (), "k": 'b'}]>
-- let m = <[["f", 9223372036854775806, -1..=2]]>
-- const x = <[[Fn(g)]]>
-- Dot(m, b) = { block { let a = <[[1], [2]]>; Index(a, Index!(1, { a = <5>; 0 })) } }
-- Dot(m, b) = { "k" }
-- fn string.f() { this = <"b">; throw this }
-- fn array.h() { this = <["ab"]> }
-- fn i64.f(x) { this = <[64]>; Dot(this, Dot(a, Dot(a, a))) = <#{"a": ()}> }
-- fn k() { y }
chains_9101061 : ran (engine (binding (codes "m") (IntV (pos 2)) ∷ binding (codes "a") (IntV (negsuc 1)) ∷ []) ([]) ([]) false) (host (named (codes "h") (Answers UnitV None ∷ Answers (MapV (field (codes "b") (TextV (codes "b")) (field (codes "k") UnitV no_fields))) None ∷ []) ∷ named (codes "get$a") (Answers (CharV 122) (Some (TextV (codes "b"))) ∷ AnswersThrow (CharV 233) ∷ []) ∷ []) (Answers (ArrayV (values (UnitV ∷ (TextV (codes "f")) ∷ []))) (Some (CharV 122)) ∷ Answers (IntV (pos 7)) None ∷ Answers (IntV (pos 64)) None ∷ []) (binding (codes "ns::a") (IntV (pos 5)) ∷ binding (codes "ns::x") (PointerV (codes "h") (values ((TextV (codes "")) ∷ []))) ∷ [])) ((function (Some (codes "string")) (codes "f") ([]) ((Assignment None ThisPtr (DynamicConstant (TextV (codes "b")))) ∷ (Return true false (an_expr ThisPtr)) ∷ [])) ∷ (function (Some (codes "array")) (codes "h") ([]) ((Assignment None ThisPtr (DynamicConstant (ArrayV (values ((TextV (codes "ab")) ∷ []))))) ∷ [])) ∷ (function (Some (codes "i64")) (codes "f") ((codes "x") ∷ []) ((Assignment None ThisPtr (DynamicConstant (ArrayV (values ((IntV (pos 64)) ∷ []))))) ∷ (Assignment None (Dot (flags false false) ThisPtr (Dot (flags false false) (property (codes "get$a") (codes "set$a") (codes "a")) (Dot (flags false false) (property (codes "get$a") (codes "set$a") (codes "a")) (property (codes "get$a") (codes "set$a") (codes "a"))))) (DynamicConstant (MapV (field (codes "a") UnitV no_fields)))) ∷ [])) ∷ (function None (codes "k") ([]) ((ExprStmt (Variable ([]) (codes "y"))) ∷ [])) ∷ []) ((Var false false (codes "a") (DynamicConstant (ArrayV (values ((MapV (field (codes "b") UnitV (field (codes "k") (CharV 98) no_fields))) ∷ []))))) ∷ (Var false false (codes "m") (DynamicConstant (ArrayV (values ((ArrayV (values ((TextV (codes "f")) ∷ (IntV (pos 9223372036854775806)) ∷ (RangeInclusiveV (negsuc 0) (pos 2)) ∷ []))) ∷ []))))) ∷ (Var true false (codes "x") (DynamicConstant (ArrayV (values ((ArrayV (values ((PointerV (codes "g") (values ([]))) ∷ []))) ∷ []))))) ∷ (Assignment None (Dot (flags false false) (Variable ([]) (codes "m")) (property (codes "get$b") (codes "set$b") (codes "b"))) (BlockExpr (stmts ((Block (stmts ((Var false false (codes "a") (DynamicConstant (ArrayV (values ((ArrayV (values ((IntV (pos 1)) ∷ []))) ∷ (ArrayV (values ((IntV (pos 2)) ∷ []))) ∷ []))))) ∷ (ExprStmt (Index (flags false false) (Variable ([]) (codes "a")) (Index (flags false true) (IntegerConstant (pos 1)) (BlockExpr (stmts ((Assignment None (Variable ([]) (codes "a")) (DynamicConstant (IntV (pos 5)))) ∷ (ExprStmt (IntegerConstant (pos 0))) ∷ [])))))) ∷ []))) ∷ [])))) ∷ (Assignment None (Dot (flags false false) (Variable ([]) (codes "m")) (property (codes "get$b") (codes "set$b") (codes "b"))) (BlockExpr (stmts ((ExprStmt (StringConstant (codes "k"))) ∷ [])))) ∷ []) (AtFunction (function_key (codes "f") 0 (Some (codes "string"))) (Some (TextV (codes "ab"))) ([])) ([]) 2 ≡ ends (WithThrown (TextV (codes "b"))) ([]) (Some (TextV (codes "b"))) ([]) 1
unfolding ran
chains_9101061 = refl

-- let a = <[#{"a": 'a', "b": 'é', "k": -2..0}]>
-- const m = <#{"a": [Fn(h)], "k": [#{"b": 64, "k": 'b'}]}>
-- let x = <0..0>
-- Dot(m, Index(a, Dot({ m = <#{"b": "b", "k": 'b'}>; -1 }, a))) *= { Index(m, Dot({ "b" }, Dot(a, a))) = <#{"a": -1}>; 0 }
-- Index!(a, "a") = { call!(Fn("f")) }
-- fn array.f() { return this }
chains_9101857 : ran (engine (binding (codes "y") (PointerV (codes "g") (values ((CharV 98) ∷ []))) ∷ []) (override (codes "%=") ((codes "array") ∷ (codes "char") ∷ []) ∷ override (codes "&=") ((codes "i64") ∷ (codes "i64") ∷ []) ∷ override (codes "**") ((codes "i64") ∷ (codes "i64") ∷ []) ∷ override (codes "+") ((codes "i64") ∷ []) ∷ override (codes "-=") ((codes "i64") ∷ (codes "i64") ∷ []) ∷ override (codes "..") ((codes "string") ∷ (codes "map") ∷ []) ∷ override (codes "..=") ((codes "array") ∷ (codes "i64") ∷ []) ∷ override (codes "/") ((codes "char") ∷ []) ∷ override (codes "<<") ((codes "map") ∷ []) ∷ []) ([]) true) (host ([]) (Answers (ArrayV (values ((IntV (pos 63)) ∷ (TextV (codes "a")) ∷ (IntV (pos 9223372036854775807)) ∷ []))) (Some (CharV 97)) ∷ Answers (BoolV false) (Some (TextV (codes "a"))) ∷ []) (binding (codes "ns::a") (IntV (pos 5)) ∷ binding (codes "ns::x") (BoolV true) ∷ [])) ((function (Some (codes "array")) (codes "f") ([]) ((Return false false (an_expr ThisPtr)) ∷ [])) ∷ []) ((Var false false (codes "a") (DynamicConstant (ArrayV (values ((MapV (field (codes "a") (CharV 97) (field (codes "b") (CharV 233) (field (codes "k") (RangeV (negsuc 1) (pos 0)) no_fields)))) ∷ []))))) ∷ (Var true false (codes "m") (DynamicConstant (MapV (field (codes "a") (ArrayV (values ((PointerV (codes "h") (values ([]))) ∷ []))) (field (codes "k") (ArrayV (values ((MapV (field (codes "b") (IntV (pos 64)) (field (codes "k") (CharV 98) no_fields))) ∷ []))) no_fields))))) ∷ (Var false false (codes "x") (DynamicConstant (RangeV (pos 0) (pos 0)))) ∷ (Assignment (Some Multiply) (Dot (flags false false) (Variable ([]) (codes "m")) (Index (flags false false) (property (codes "get$a") (codes "set$a") (codes "a")) (Dot (flags false false) (BlockExpr (stmts ((Assignment None (Variable ([]) (codes "m")) (DynamicConstant (MapV (field (codes "b") (TextV (codes "b")) (field (codes "k") (CharV 98) no_fields))))) ∷ (ExprStmt (IntegerConstant (negsuc 0))) ∷ []))) (property (codes "get$a") (codes "set$a") (codes "a"))))) (BlockExpr (stmts ((Assignment None (Index (flags false false) (Variable ([]) (codes "m")) (Dot (flags false false) (BlockExpr (stmts ((ExprStmt (StringConstant (codes "b"))) ∷ []))) (Dot (flags false false) (property (codes "get$a") (codes "set$a") (codes "a")) (property (codes "get$a") (codes "set$a") (codes "a"))))) (DynamicConstant (MapV (field (codes "a") (IntV (negsuc 0)) no_fields)))) ∷ (ExprStmt (IntegerConstant (pos 0))) ∷ [])))) ∷ (Assignment None (Index (flags false true) (Variable ([]) (codes "a")) (StringConstant (codes "a"))) (BlockExpr (stmts ((ExprStmt (FnCall (callee [] (codes "call") true NoToken) (exprs ((FnCall (callee [] (codes "Fn") false NoToken) (exprs ((StringConstant (codes "f")) ∷ []))) ∷ [])))) ∷ [])))) ∷ []) (AtFunction (function_key (codes "f") 0 (Some (codes "array"))) (Some (ArrayV (values ((BoolV true) ∷ [])))) ([])) ([]) 0 ≡ ends WithoutTurns ([]) (Some (ArrayV (values ((BoolV true) ∷ [])))) ([]) 0
unfolding ran
chains_9101857 = refl

-- let a = <#{"a": [7], "b": #{"a": #{"a": 0, "k": ()}, "b": #{}, "k": #{"b": ()}}, "k": #{"a": true, "b": #{"b": ()}, "k": 'z'}}>
-- let m = <'a'>
-- let x = call(curry(Fn("f"), 1), 1)
-- Dot(m, Dot(a, b)) = { 1 }
-- fn map.g(b) { return this }
chains_9101931 : ran (engine ([]) (override (codes "-") ((codes "i64") ∷ (codes "i64") ∷ []) ∷ override (codes ">") ((codes "()") ∷ []) ∷ override (codes "|") ((codes "map") ∷ (codes "char") ∷ []) ∷ []) ([]) false) (host ([]) (Answers (IntV (negsuc 0)) (Some (MapV (field (codes "a") (IntV (pos 9223372036854775806)) (field (codes "b") (TextV (codes "")) no_fields)))) ∷ AnswersThrow (MapV (field (codes "a") (BoolV true) no_fields)) ∷ Answers (MapV (field (codes "a") UnitV (field (codes "k") (CharV 122) no_fields))) None ∷ Answers (IntV (pos 0)) None ∷ []) (binding (codes "ns::a") (IntV (pos 5)) ∷ binding (codes "ns::x") (CharV 97) ∷ [])) ((function (Some (codes "map")) (codes "g") ((codes "b") ∷ []) ((Return false false (an_expr ThisPtr)) ∷ [])) ∷ []) ((Var false false (codes "a") (DynamicConstant (MapV (field (codes "a") (ArrayV (values ((IntV (pos 7)) ∷ []))) (field (codes "b") (MapV (field (codes "a") (MapV (field (codes "a") (IntV (pos 0)) (field (codes "k") UnitV no_fields))) (field (codes "b") (MapV no_fields) (field (codes "k") (MapV (field (codes "b") UnitV no_fields)) no_fields)))) (field (codes "k") (MapV (field (codes "a") (BoolV true) (field (codes "b") (MapV (field (codes "b") UnitV no_fields)) (field (codes "k") (CharV 122) no_fields)))) no_fields)))))) ∷ (Var false false (codes "m") (DynamicConstant (CharV 97))) ∷ (Var false false (codes "x") (FnCall (callee [] (codes "call") false NoToken) (exprs ((FnCall (callee [] (codes "curry") false NoToken) (exprs ((FnCall (callee [] (codes "Fn") false NoToken) (exprs ((StringConstant (codes "f")) ∷ []))) ∷ (IntegerConstant (pos 1)) ∷ []))) ∷ (IntegerConstant (pos 1)) ∷ [])))) ∷ (Assignment None (Dot (flags false false) (Variable ([]) (codes "m")) (Dot (flags false false) (property (codes "get$a") (codes "set$a") (codes "a")) (property (codes "get$b") (codes "set$b") (codes "b")))) (BlockExpr (stmts ((ExprStmt (IntegerConstant (pos 1))) ∷ [])))) ∷ []) (AtFunction (function_key (codes "g") 1 (Some (codes "map"))) (Some (MapV (field (codes "a") UnitV no_fields))) ((TextV (codes "")) ∷ [])) ([]) 2 ≡ ends (WithValue (MapV (field (codes "a") UnitV no_fields))) ([]) (Some (MapV (field (codes "a") UnitV no_fields))) ([]) 1
unfolding ran
chains_9101931 = refl

-- let a = <[#{"a": 2..=3}, [-9223372036854775808, -2, #{}], #{"a": "a"}]>
-- let m = <#{"b": #{"b": 0, "k": 63}, "k": #{"k": ["ab"]}}>
-- const x = <[[-1..=-2], ['b', ()], #{"a": true, "k": 'b'}]>
-- Index(x, Index!(Fn("1a"), 0)) *= { x = <1>; "a" }
-- fn ().g(c) { this = <'a'> }
chains_9102469 : ran (engine ([]) (override (codes "*") ((codes "i64") ∷ (codes "i64") ∷ []) ∷ override (codes "*=") ((codes "i64") ∷ (codes "i64") ∷ []) ∷ []) (renamed (codes "array") (codes "list") ∷ renamed (codes "map") (codes "object") ∷ []) true) (host (named (codes "h") (Answers (IntV (pos 9223372036854775806)) (Some (TextV (195 ∷ 169 ∷ []))) ∷ AnswersThrow (TextV (codes "a")) ∷ Answers (TextV (195 ∷ 169 ∷ [])) (Some (RangeInclusiveV (negsuc 1) (negsuc 1))) ∷ AnswersThrow (IntV (pos 0)) ∷ []) ∷ named (codes "+") (Answers (TextV (codes "")) (Some (RangeV (pos 0) (pos 1))) ∷ Answers (ArrayV (values ((IntV (pos 0)) ∷ (BoolV false) ∷ (CharV 97) ∷ []))) None ∷ AnswersThrow (MapV (field (codes "a") (CharV 98) (field (codes "k") (CharV 233) no_fields))) ∷ Answers UnitV None ∷ []) ∷ []) (Answers (TextV (codes "a")) None ∷ Answers (IntV (pos 9223372036854775807)) (Some UnitV) ∷ AnswersThrow (PointerV (codes "h") (values ((CharV 233) ∷ []))) ∷ []) (binding (codes "ns::a") (IntV (pos 5)) ∷ binding (codes "ns::x") (MapV (field (codes "a") (IntV (pos 2)) no_fields)) ∷ [])) ((function (Some (codes "()")) (codes "g") ((codes "c") ∷ []) ((Assignment None ThisPtr (DynamicConstant (CharV 97))) ∷ [])) ∷ []) ((Var false false (codes "a") (DynamicConstant (ArrayV (values ((MapV (field (codes "a") (RangeInclusiveV (pos 2) (pos 3)) no_fields)) ∷ (ArrayV (values ((IntV (negsuc 9223372036854775807)) ∷ (IntV (negsuc 1)) ∷ (MapV no_fields) ∷ []))) ∷ (MapV (field (codes "a") (TextV (codes "a")) no_fields)) ∷ []))))) ∷ (Var false false (codes "m") (DynamicConstant (MapV (field (codes "b") (MapV (field (codes "b") (IntV (pos 0)) (field (codes "k") (IntV (pos 63)) no_fields))) (field (codes "k") (MapV (field (codes "k") (ArrayV (values ((TextV (codes "ab")) ∷ []))) no_fields)) no_fields))))) ∷ (Var true false (codes "x") (DynamicConstant (ArrayV (values ((ArrayV (values ((RangeInclusiveV (negsuc 0) (negsuc 1)) ∷ []))) ∷ (ArrayV (values ((CharV 98) ∷ UnitV ∷ []))) ∷ (MapV (field (codes "a") (BoolV true) (field (codes "k") (CharV 98) no_fields))) ∷ []))))) ∷ (Assignment (Some Multiply) (Index (flags false false) (Variable ([]) (codes "x")) (Index (flags false true) (FnCall (callee [] (codes "Fn") false NoToken) (exprs ((StringConstant (codes "1a")) ∷ []))) (IntegerConstant (pos 0)))) (BlockExpr (stmts ((Assignment None (Variable ([]) (codes "x")) (DynamicConstant (IntV (pos 1)))) ∷ (ExprStmt (StringConstant (codes "a"))) ∷ [])))) ∷ []) (AtFunction (function_key (codes "g") 1 (Some (codes "()"))) (Some (IntV (negsuc 0))) ((MapV (field (codes "b") UnitV no_fields)) ∷ [])) ([]) 0 ≡ ends WithoutTurns ([]) (Some (IntV (negsuc 0))) ([]) 0
unfolding ran
chains_9102469 = refl

-- const a = <[#{"k": 'a'}, #{"a": Fn(f), "b": 3..4, "k": true}, #{"b": "", "k": false}]>
-- let m = <[[Fn(g)], #{"k": 2..4}, #{"a": (), "b": true}]>
-- const x = <"f">
-- Dot?(a, Index?!(k, "a")) %= { "b" }
-- try { Dot(a, Dot(b, Dot(push("b"), k))) } catch c {}
-- let c = Dot(a, Dot?(h(), Dot(b, h())))
-- fn h(x) {}
-- fn i64.push(x) { this = <[2..=2, true, 3]>; Index(this, Dot?({ this = <#{"a": false, "b": [(), (), ()], "k": -1}>; "b" }, k)) = () }
chains_9102476 : ran (engine ([]) (override (codes "%") ((codes "i64") ∷ (codes "i64") ∷ []) ∷ override (codes "%=") ((codes "i64") ∷ (codes "i64") ∷ []) ∷ []) (renamed (codes "i64") (codes "int") ∷ []) true) (host (named (codes "get$a") ([]) ∷ []) (Answers UnitV None ∷ Answers (BoolV true) (Some (IntV (pos 3))) ∷ Answers (CharV 98) (Some (PointerV (codes "g") (values ([])))) ∷ []) (binding (codes "ns::a") (IntV (pos 5)) ∷ binding (codes "ns::x") (RangeInclusiveV (negsuc 1) (negsuc 1)) ∷ [])) ((function None (codes "h") ((codes "x") ∷ []) ([])) ∷ (function (Some (codes "i64")) (codes "push") ((codes "x") ∷ []) ((Assignment None ThisPtr (DynamicConstant (ArrayV (values ((RangeInclusiveV (pos 2) (pos 2)) ∷ (BoolV true) ∷ (IntV (pos 3)) ∷ []))))) ∷ (Assignment None (Index (flags false false) ThisPtr (Dot (flags true false) (BlockExpr (stmts ((Assignment None ThisPtr (DynamicConstant (MapV (field (codes "a") (BoolV false) (field (codes "b") (ArrayV (values (UnitV ∷ UnitV ∷ UnitV ∷ []))) (field (codes "k") (IntV (negsuc 0)) no_fields)))))) ∷ (ExprStmt (StringConstant (codes "b"))) ∷ []))) (property (codes "get$k") (codes "set$k") (codes "k")))) UnitConstant) ∷ [])) ∷ []) ((Var true false (codes "a") (DynamicConstant (ArrayV (values ((MapV (field (codes "k") (CharV 97) no_fields)) ∷ (MapV (field (codes "a") (PointerV (codes "f") (values ([]))) (field (codes "b") (RangeV (pos 3) (pos 4)) (field (codes "k") (BoolV true) no_fields)))) ∷ (MapV (field (codes "b") (TextV (codes "")) (field (codes "k") (BoolV false) no_fields))) ∷ []))))) ∷ (Var false false (codes "m") (DynamicConstant (ArrayV (values ((ArrayV (values ((PointerV (codes "g") (values ([]))) ∷ []))) ∷ (MapV (field (codes "k") (RangeV (pos 2) (pos 4)) no_fields)) ∷ (MapV (field (codes "a") UnitV (field (codes "b") (BoolV true) no_fields))) ∷ []))))) ∷ (Var true false (codes "x") (DynamicConstant (TextV (codes "f")))) ∷ (Assignment (Some Modulo) (Dot (flags true false) (Variable ([]) (codes "a")) (Index (flags true true) (property (codes "get$k") (codes "set$k") (codes "k")) (StringConstant (codes "a")))) (BlockExpr (stmts ((ExprStmt (StringConstant (codes "b"))) ∷ [])))) ∷ (TryCatch (Variable ([]) (codes "c")) (stmts ((ExprStmt (Dot (flags false false) (Variable ([]) (codes "a")) (Dot (flags false false) (property (codes "get$b") (codes "set$b") (codes "b")) (Dot (flags false false) (MethodCall (callee [] (codes "push") false NoToken) (exprs ((StringConstant (codes "b")) ∷ []))) (property (codes "get$k") (codes "set$k") (codes "k")))))) ∷ [])) (stmts ([]))) ∷ (Var false false (codes "c") (Dot (flags false false) (Variable ([]) (codes "a")) (Dot (flags true false) (MethodCall (callee [] (codes "h") false NoToken) (exprs ([]))) (Dot (flags false false) (property (codes "get$b") (codes "set$b") (codes "b")) (MethodCall (callee [] (codes "h") false NoToken) (exprs ([]))))))) ∷ []) (AtFunction (function_key (codes "push") 1 (Some (codes "i64"))) (Some (IntV (pos 64))) ((BoolV false) ∷ [])) ([]) 1 ≡ ends (WithValue UnitV) ([]) (Some (MapV (field (codes "a") (BoolV false) (field (codes "b") (ArrayV (values (UnitV ∷ UnitV ∷ UnitV ∷ []))) (field (codes "k") (IntV (negsuc 0)) no_fields))))) (asked (Some (ArrayV (values (UnitV ∷ UnitV ∷ UnitV ∷ [])))) (codes "set$k") (UnitV ∷ []) ∷ []) 0
unfolding ran
chains_9102476 = refl

-- let a = <[#{"a": "é", "b": #{"k": ()}, "k": -2}]>
-- const m = <#{"a": ["b", #{"b": 9223372036854775807, "k": false}, 7]}>
-- const x = <#{"a": #{"a": -1, "b": [true]}, "b": [(), []], "k": [7, false]}>
-- let m = Index!(a, 0)
-- Index(x, Dot("a", b)) = { m = <Fn(f)>; 1 }
-- fn string.g() { Index!(this, { this = <[[(), 9223372036854775806], 3..5, 64]>; 0 }) = <#{"a": -9223372036854775808}>; throw this }
-- fn ().push(b) {}
-- fn array.push(b) { this = <[[], (), [-9223372036854775808]]> }
chains_9102847 : ran (engine (binding (codes "y") (TextV (codes "ab")) ∷ []) ([]) (renamed (codes "i64") (codes "int") ∷ []) true) (host ([]) (Answers (MapV (field (codes "b") (CharV 122) (field (codes "k") (IntV (pos 9223372036854775807)) no_fields))) None ∷ AnswersThrow (TextV (codes "b")) ∷ Answers (PointerV (codes "g") (values ([]))) (Some (TextV (195 ∷ 169 ∷ []))) ∷ []) (binding (codes "ns::a") (IntV (pos 5)) ∷ binding (codes "ns::x") (TextV (codes "b")) ∷ [])) ((function (Some (codes "string")) (codes "g") ([]) ((Assignment None (Index (flags false true) ThisPtr (BlockExpr (stmts ((Assignment None ThisPtr (DynamicConstant (ArrayV (values ((ArrayV (values (UnitV ∷ (IntV (pos 9223372036854775806)) ∷ []))) ∷ (RangeV (pos 3) (pos 5)) ∷ (IntV (pos 64)) ∷ []))))) ∷ (ExprStmt (IntegerConstant (pos 0))) ∷ [])))) (DynamicConstant (MapV (field (codes "a") (IntV (negsuc 9223372036854775807)) no_fields)))) ∷ (Return true false (an_expr ThisPtr)) ∷ [])) ∷ (function (Some (codes "()")) (codes "push") ((codes "b") ∷ []) ([])) ∷ (function (Some (codes "array")) (codes "push") ((codes "b") ∷ []) ((Assignment None ThisPtr (DynamicConstant (ArrayV (values ((ArrayV (values ([]))) ∷ UnitV ∷ (ArrayV (values ((IntV (negsuc 9223372036854775807)) ∷ []))) ∷ []))))) ∷ [])) ∷ []) ((Var false false (codes "a") (DynamicConstant (ArrayV (values ((MapV (field (codes "a") (TextV (195 ∷ 169 ∷ [])) (field (codes "b") (MapV (field (codes "k") UnitV no_fields)) (field (codes "k") (IntV (negsuc 1)) no_fields)))) ∷ []))))) ∷ (Var true false (codes "m") (DynamicConstant (MapV (field (codes "a") (ArrayV (values ((TextV (codes "b")) ∷ (MapV (field (codes "b") (IntV (pos 9223372036854775807)) (field (codes "k") (BoolV false) no_fields))) ∷ (IntV (pos 7)) ∷ []))) no_fields)))) ∷ (Var true false (codes "x") (DynamicConstant (MapV (field (codes "a") (MapV (field (codes "a") (IntV (negsuc 0)) (field (codes "b") (ArrayV (values ((BoolV true) ∷ []))) no_fields))) (field (codes "b") (ArrayV (values (UnitV ∷ (ArrayV (values ([]))) ∷ []))) (field (codes "k") (ArrayV (values ((IntV (pos 7)) ∷ (BoolV false) ∷ []))) no_fields)))))) ∷ (Var false false (codes "m") (Index (flags false true) (Variable ([]) (codes "a")) (IntegerConstant (pos 0)))) ∷ (Assignment None (Index (flags false false) (Variable ([]) (codes "x")) (Dot (flags false false) (StringConstant (codes "a")) (property (codes "get$b") (codes "set$b") (codes "b")))) (BlockExpr (stmts ((Assignment None (Variable ([]) (codes "m")) (DynamicConstant (PointerV (codes "f") (values ((IntV (pos 1)) ∷ []))))) ∷ (ExprStmt (IntegerConstant (pos 1))) ∷ [])))) ∷ []) (AtFunction (function_key (codes "g") 0 (Some (codes "string"))) (Some (TextV (codes "b"))) ([])) ([]) 2 ≡ ends (WithThrown (ArrayV (values ((MapV (field (codes "a") (IntV (negsuc 9223372036854775807)) no_fields)) ∷ (RangeV (pos 3) (pos 5)) ∷ (IntV (pos 64)) ∷ [])))) ([]) (Some (ArrayV (values ((MapV (field (codes "a") (IntV (negsuc 9223372036854775807)) no_fields)) ∷ (RangeV (pos 3) (pos 5)) ∷ (IntV (pos 64)) ∷ [])))) ([]) 1
unfolding ran
chains_9102847 = refl

-- const m = "f"
-- let b = m
-- const m = "é"
-- let c = <-2>
-- let y = m
-- let c = <-9223372036854775808>
-- call print(c)
-- if { false; 9223372036854775807; false } { block { <[#{"b": -1, "k": 'b'}]>; (); () } } else {}
-- call print(c)
-- fn h() { if false { block { <"a">; block { let y = 7; f!(); y = +(y, 1); print(k!()) } }; try {} catch { (); <0>; <Fn(h)> } } else {}; block { if >=(9223372036854775806, 63) { return } else {}; let a = <[[(), 3, 'é'], 'b', 'z']> } }
-- fn f(a) { call h!(y); block {} }
-- fn k() { y }
flow_9200079 : ran (engine ([]) ([]) (renamed (codes "i64") (codes "int") ∷ []) false) (host (named (codes "index$get$") (Answers (IntV (pos 64)) None ∷ []) ∷ []) (Answers UnitV None ∷ []) (binding (codes "ns::a") (IntV (pos 5)) ∷ binding (codes "ns::x") (PointerV (codes "h") (values ([]))) ∷ [])) ((function None (codes "h") ([]) ((If (BoolConstant false) (stmts ((Block (stmts ((ExprStmt (DynamicConstant (TextV (codes "a")))) ∷ (Block (stmts ((Var false false (codes "y") (IntegerConstant (pos 7))) ∷ (ExprStmt (FnCall (callee [] (codes "f") true NoToken) (exprs ([])))) ∷ (Assignment None (Variable ([]) (codes "y")) (FnCall (callee [] (codes "+") false (OfOperator Plus)) (exprs ((Variable ([]) (codes "y")) ∷ (IntegerConstant (pos 1)) ∷ [])))) ∷ (ExprStmt (FnCall (callee [] (codes "print") false NoToken) (exprs ((FnCall (callee [] (codes "k") true NoToken) (exprs ([]))) ∷ [])))) ∷ []))) ∷ []))) ∷ (TryCatch UnitConstant (stmts ([])) (stmts ((ExprStmt UnitConstant) ∷ (ExprStmt (DynamicConstant (IntV (pos 0)))) ∷ (ExprStmt (DynamicConstant (PointerV (codes "h") (values ((MapV (field (codes "a") UnitV (field (codes "k") (IntV (pos 0)) no_fields))) ∷ []))))) ∷ []))) ∷ [])) (stmts ([]))) ∷ (Block (stmts ((If (FnCall (callee [] (codes ">=") false (OfOperator GreaterOrEqual)) (exprs ((IntegerConstant (pos 9223372036854775806)) ∷ (IntegerConstant (pos 63)) ∷ []))) (stmts ((Return false false no_expr) ∷ [])) (stmts ([]))) ∷ (Var false false (codes "a") (DynamicConstant (ArrayV (values ((ArrayV (values (UnitV ∷ (IntV (pos 3)) ∷ (CharV 233) ∷ []))) ∷ (CharV 98) ∷ (CharV 122) ∷ []))))) ∷ []))) ∷ [])) ∷ (function None (codes "f") ((codes "a") ∷ []) ((FnCallStmt (callee [] (codes "h") true NoToken) (exprs ((Variable ([]) (codes "y")) ∷ []))) ∷ (Block (stmts ([]))) ∷ [])) ∷ (function None (codes "k") ([]) ((ExprStmt (Variable ([]) (codes "y"))) ∷ [])) ∷ []) ((Var true false (codes "m") (StringConstant (codes "f"))) ∷ (Var false false (codes "b") (Variable ([]) (codes "m"))) ∷ (Var true false (codes "m") (StringConstant (195 ∷ 169 ∷ []))) ∷ (Var false false (codes "c") (DynamicConstant (IntV (negsuc 1)))) ∷ (Var false false (codes "y") (Variable ([]) (codes "m"))) ∷ (Var false false (codes "c") (DynamicConstant (IntV (negsuc 9223372036854775807)))) ∷ (FnCallStmt (callee [] (codes "print") false NoToken) (exprs ((Variable ([]) (codes "c")) ∷ []))) ∷ (If (BlockExpr (stmts ((ExprStmt (BoolConstant false)) ∷ (ExprStmt (IntegerConstant (pos 9223372036854775807))) ∷ (ExprStmt (BoolConstant false)) ∷ []))) (stmts ((Block (stmts ((ExprStmt (DynamicConstant (ArrayV (values ((MapV (field (codes "b") (IntV (negsuc 0)) (field (codes "k") (CharV 98) no_fields))) ∷ []))))) ∷ (ExprStmt UnitConstant) ∷ (ExprStmt UnitConstant) ∷ []))) ∷ [])) (stmts ([]))) ∷ (FnCallStmt (callee [] (codes "print") false NoToken) (exprs ((Variable ([]) (codes "c")) ∷ []))) ∷ []) (AtFunction (function_key (codes "h") 0 None) (Some (IntV (negsuc 9223372036854775807))) ([])) ([]) 10 ≡ ends (WithValue UnitV) ([]) (Some (IntV (negsuc 9223372036854775807))) ([]) 9
unfolding ran
flow_9200079 = refl

-- const x = true
-- do { continue } until true
-- fn f(a) { switch this { -2: 1, #{"k": 2}: 2 |  | default 4 | true => c, true => [], true => and({ (); <'b'>; 'z'; false }), true => a, true => and({ ""; "b"; false }, { 'a'; 0; 'z'; false }) }; call f() }
flow_9200150 : ran (engine (binding (codes "a") (RangeInclusiveV (negsuc 0) (pos 1)) ∷ []) ([]) ([]) false) (host (named (codes "h") (Answers UnitV None ∷ Answers (IntV (pos 9223372036854775807)) None ∷ []) ∷ []) (Answers (MapV (field (codes "a") (IntV (pos 3)) no_fields)) (Some (IntV (pos 2))) ∷ AnswersThrow UnitV ∷ Answers (MapV (field (codes "a") UnitV no_fields)) None ∷ Answers (TextV (codes "f")) None ∷ []) (binding (codes "ns::a") (IntV (pos 5)) ∷ binding (codes "ns::x") (TextV (codes "ab")) ∷ [])) ((function None (codes "f") ((codes "a") ∷ []) ((Switch ThisPtr (arm (BoolConstant true) (Variable ([]) (codes "c")) (arm (BoolConstant true) (ArrayOf (exprs ([]))) (arm (BoolConstant true) (And (exprs ((BlockExpr (stmts ((ExprStmt UnitConstant) ∷ (ExprStmt (DynamicConstant (CharV 98))) ∷ (ExprStmt (CharConstant 122)) ∷ (ExprStmt (BoolConstant false)) ∷ []))) ∷ []))) (arm (BoolConstant true) (Variable ([]) (codes "a")) (arm (BoolConstant true) (And (exprs ((BlockExpr (stmts ((ExprStmt (StringConstant (codes ""))) ∷ (ExprStmt (StringConstant (codes "b"))) ∷ (ExprStmt (BoolConstant false)) ∷ []))) ∷ (BlockExpr (stmts ((ExprStmt (CharConstant 97)) ∷ (ExprStmt (IntegerConstant (pos 0))) ∷ (ExprStmt (CharConstant 122)) ∷ (ExprStmt (BoolConstant false)) ∷ []))) ∷ []))) no_arms))))) (table (case (IntV (negsuc 1)) (1 ∷ []) ∷ case (MapV (field (codes "k") (IntV (pos 2)) no_fields)) (2 ∷ []) ∷ []) ([]) (Some 4))) ∷ (FnCallStmt (callee [] (codes "f") false NoToken) (exprs ([]))) ∷ [])) ∷ []) ((Var true false (codes "x") (BoolConstant true)) ∷ (Do true false (BoolConstant true) (stmts ((BreakLoop false false no_expr) ∷ []))) ∷ []) (AtFunction (function_key (codes "f") 1 None) (Some (CharV 233)) ((RangeInclusiveV (pos 1) (pos 1)) ∷ [])) ([]) 10 ≡ ends (WithValue (MapV (field (codes "a") (IntV (pos 3)) no_fields))) ([]) (Some (CharV 233)) (asked None (codes "f") ([]) ∷ []) 9
unfolding ran
flow_9200150 = refl

-- let m = x
-- let c = 'z'
-- if true { return } else {}
-- fn g(a) { a -= /(0, -1); do { if { 7; (); false } { 7; <Fn(h)> } else {} } until false }
-- fn f(a) {}
flow_9200837 : ran (engine ([]) (override (codes "&=") ((codes "i64") ∷ (codes "i64") ∷ []) ∷ override (codes "+") ((codes "array") ∷ []) ∷ override (codes "-") ((codes "()") ∷ (codes "i64") ∷ []) ∷ override (codes "-=") ((codes "string") ∷ (codes "char") ∷ []) ∷ override (codes "^") ((codes "char") ∷ (codes "map") ∷ []) ∷ []) (renamed (codes "array") (codes "list") ∷ renamed (codes "map") (codes "object") ∷ []) true) (host (named (codes "g") (Answers (IntV (pos 64)) None ∷ AnswersThrow (MapV (field (codes "a") UnitV no_fields)) ∷ Answers (CharV 233) None ∷ []) ∷ []) (Answers (RangeInclusiveV (pos 0) (pos 1)) (Some (RangeV (negsuc 1) (negsuc 1))) ∷ Answers (IntV (pos 64)) None ∷ Answers (CharV 98) (Some UnitV) ∷ Answers (MapV no_fields) (Some (ArrayV (values (UnitV ∷ [])))) ∷ Answers (IntV (pos 9223372036854775807)) None ∷ []) (binding (codes "ns::a") (IntV (pos 5)) ∷ binding (codes "ns::x") (CharV 122) ∷ [])) ((function None (codes "g") ((codes "a") ∷ []) ((Assignment (Some Minus) (Variable ([]) (codes "a")) (FnCall (callee [] (codes "/") false (OfOperator Divide)) (exprs ((IntegerConstant (pos 0)) ∷ (IntegerConstant (negsuc 0)) ∷ [])))) ∷ (Do true false (BoolConstant false) (stmts ((If (BlockExpr (stmts ((ExprStmt (IntegerConstant (pos 7))) ∷ (ExprStmt UnitConstant) ∷ (ExprStmt (BoolConstant false)) ∷ []))) (stmts ((ExprStmt (IntegerConstant (pos 7))) ∷ (ExprStmt (DynamicConstant (PointerV (codes "h") (values ([]))))) ∷ [])) (stmts ([]))) ∷ []))) ∷ [])) ∷ (function None (codes "f") ((codes "a") ∷ []) ([])) ∷ []) ((Var false false (codes "m") (Variable ([]) (codes "x"))) ∷ (Var false false (codes "c") (CharConstant 122)) ∷ (If (BoolConstant true) (stmts ((Return false false no_expr) ∷ [])) (stmts ([]))) ∷ []) (AtFunction (function_key (codes "g") 1 None) (Some (IntV (pos 9223372036854775806))) ((CharV 233) ∷ [])) ([]) 2 ≡ ends WithoutTurns ([]) (Some (IntV (pos 9223372036854775806))) (asked None (codes "-") ((CharV 233) ∷ (IntV (pos 0)) ∷ []) ∷ []) 0
unfolding ran
flow_9200837 = refl

-- const x = -1
-- const y = x
-- let b = 'é'
-- const b = <2>
-- block { do { (); 'z'; 'b' } while { false } }
-- fn h(a) { if { <#{"k": 'é'}>; "b"; true } {} else {}; if >=(63, 2) { call f(); try { -2 } catch x {}; try { -9223372036854775808; throw } catch m { Fn("1a"); 64; () } } else { for b in <[]> { 'é'; false }; b %= "a" } }
flow_9200980 : ran (engine (binding (codes "a") (TextV (codes "a")) ∷ binding (codes "y") (PointerV (codes "f") (values ((IntV (pos 2)) ∷ []))) ∷ []) (override (codes "%") ((codes "i64") ∷ (codes "i64") ∷ []) ∷ override (codes "%=") ((codes "array") ∷ (codes "i64") ∷ []) ∷ override (codes ">=") ((codes "i64") ∷ (codes "range") ∷ []) ∷ override (codes ">>=") ((codes "i64") ∷ (codes "i64") ∷ []) ∷ override (codes "|") ((codes "string") ∷ []) ∷ []) ([]) false) (host ([]) (Answers (IntV (pos 9223372036854775806)) (Some (BoolV true)) ∷ []) (binding (codes "ns::a") (IntV (pos 5)) ∷ binding (codes "ns::x") (IntV (pos 2)) ∷ [])) ((function None (codes "h") ((codes "a") ∷ []) ((If (BlockExpr (stmts ((ExprStmt (DynamicConstant (MapV (field (codes "k") (CharV 233) no_fields)))) ∷ (ExprStmt (StringConstant (codes "b"))) ∷ (ExprStmt (BoolConstant true)) ∷ []))) (stmts ([])) (stmts ([]))) ∷ (If (FnCall (callee [] (codes ">=") false (OfOperator GreaterOrEqual)) (exprs ((IntegerConstant (pos 63)) ∷ (IntegerConstant (pos 2)) ∷ []))) (stmts ((FnCallStmt (callee [] (codes "f") false NoToken) (exprs ([]))) ∷ (TryCatch (Variable ([]) (codes "x")) (stmts ((ExprStmt (IntegerConstant (negsuc 1))) ∷ [])) (stmts ([]))) ∷ (TryCatch (Variable ([]) (codes "m")) (stmts ((ExprStmt (IntegerConstant (negsuc 9223372036854775807))) ∷ (Return true false no_expr) ∷ [])) (stmts ((ExprStmt (FnCall (callee [] (codes "Fn") false NoToken) (exprs ((StringConstant (codes "1a")) ∷ [])))) ∷ (ExprStmt (IntegerConstant (pos 64))) ∷ (ExprStmt UnitConstant) ∷ []))) ∷ [])) (stmts ((For (codes "b") None (DynamicConstant (ArrayV (values ([])))) (stmts ((ExprStmt (CharConstant 233)) ∷ (ExprStmt (BoolConstant false)) ∷ []))) ∷ (Assignment (Some Modulo) (Variable ([]) (codes "b")) (StringConstant (codes "a"))) ∷ []))) ∷ [])) ∷ []) ((Var true false (codes "x") (IntegerConstant (negsuc 0))) ∷ (Var true false (codes "y") (Variable ([]) (codes "x"))) ∷ (Var false false (codes "b") (CharConstant 233)) ∷ (Var true false (codes "b") (DynamicConstant (IntV (pos 2)))) ∷ (Block (stmts ((Do false false (BlockExpr (stmts ((ExprStmt (BoolConstant false)) ∷ []))) (stmts ((ExprStmt UnitConstant) ∷ (ExprStmt (CharConstant 122)) ∷ (ExprStmt (CharConstant 98)) ∷ []))) ∷ []))) ∷ []) (AtFunction (function_key (codes "h") 1 None) (Some (MapV no_fields)) ((BoolV true) ∷ [])) ([]) 3 ≡ ends (WithThrown (TextV (codes "function name"))) ([]) (Some (MapV no_fields)) (asked None (codes "f") ([]) ∷ []) 2
unfolding ran
flow_9200980 = refl

-- m **= m
-- try { call h!(); c = +(c, "é"); throw "a" } catch m { try { -9223372036854775808; 1; throw } catch a {}; switch 'a' { 3: , false: 0 0, 2: 0 0 | -2..-2: 0 | default - | true => m }; for (m, c) in <1..=4> { 'b'; "a"; 'z' } }
-- fn g() { call g!(); while true { switch <63> { 9223372036854775806: 0 1 |  | default 3 | true => b, true => 3, true => 9223372036854775806, true => () }; try { <#{}>; throw a } catch c { <Fn(f)>; 'b'; () } }; call g(a) }
flow_9201339 : ran (engine ([]) (override (codes "**") ((codes "i64") ∷ (codes "i64") ∷ []) ∷ override (codes "**=") ((codes "i64") ∷ (codes "i64") ∷ []) ∷ []) (renamed (codes "array") (codes "list") ∷ renamed (codes "map") (codes "object") ∷ []) true) (host (named (codes "h") (Answers (PointerV (codes "g") (values ([]))) (Some (ArrayV (values ([])))) ∷ []) ∷ []) (Answers (MapV no_fields) (Some (CharV 122)) ∷ []) (binding (codes "ns::a") (IntV (pos 5)) ∷ binding (codes "ns::x") (MapV no_fields) ∷ [])) ((function None (codes "g") ([]) ((FnCallStmt (callee [] (codes "g") true NoToken) (exprs ([]))) ∷ (While (BoolConstant true) (stmts ((Switch (DynamicConstant (IntV (pos 63))) (arm (BoolConstant true) (Variable ([]) (codes "b")) (arm (BoolConstant true) (IntegerConstant (pos 3)) (arm (BoolConstant true) (IntegerConstant (pos 9223372036854775806)) (arm (BoolConstant true) UnitConstant no_arms)))) (table (case (IntV (pos 9223372036854775806)) (0 ∷ 1 ∷ []) ∷ []) ([]) (Some 3))) ∷ (TryCatch (Variable ([]) (codes "c")) (stmts ((ExprStmt (DynamicConstant (MapV no_fields))) ∷ (Return true false (an_expr (Variable ([]) (codes "a")))) ∷ [])) (stmts ((ExprStmt (DynamicConstant (PointerV (codes "f") (values ([]))))) ∷ (ExprStmt (CharConstant 98)) ∷ (ExprStmt UnitConstant) ∷ []))) ∷ []))) ∷ (FnCallStmt (callee [] (codes "g") false NoToken) (exprs ((Variable ([]) (codes "a")) ∷ []))) ∷ [])) ∷ []) ((Assignment (Some Power) (Variable ([]) (codes "m")) (Variable ([]) (codes "m"))) ∷ (TryCatch (Variable ([]) (codes "m")) (stmts ((FnCallStmt (callee [] (codes "h") true NoToken) (exprs ([]))) ∷ (Assignment None (Variable ([]) (codes "c")) (FnCall (callee [] (codes "+") false (OfOperator Plus)) (exprs ((Variable ([]) (codes "c")) ∷ (StringConstant (195 ∷ 169 ∷ [])) ∷ [])))) ∷ (Return true false (an_expr (StringConstant (codes "a")))) ∷ [])) (stmts ((TryCatch (Variable ([]) (codes "a")) (stmts ((ExprStmt (IntegerConstant (negsuc 9223372036854775807))) ∷ (ExprStmt (IntegerConstant (pos 1))) ∷ (Return true false no_expr) ∷ [])) (stmts ([]))) ∷ (Switch (CharConstant 97) (arm (BoolConstant true) (Variable ([]) (codes "m")) no_arms) (table (case (IntV (pos 3)) ([]) ∷ case (BoolV false) (0 ∷ 0 ∷ []) ∷ case (IntV (pos 2)) (0 ∷ 0 ∷ []) ∷ []) (record { range = ExclusiveInt (negsuc 1) (negsuc 1); arm = 0 } ∷ []) None)) ∷ (For (codes "m") (Some (codes "c")) (DynamicConstant (RangeInclusiveV (pos 1) (pos 4))) (stmts ((ExprStmt (CharConstant 98)) ∷ (ExprStmt (StringConstant (codes "a"))) ∷ (ExprStmt (CharConstant 122)) ∷ []))) ∷ []))) ∷ []) (AtFunction (function_key (codes "g") 0 None) (Some (IntV (pos 2))) ([])) ([]) 5 ≡ ends WithoutTurns ([]) (Some (IntV (pos 2))) ([]) 0
unfolding ran
flow_9201339 = refl

-- let m = <"f">
-- let m = 9223372036854775806
-- let b = true
-- let b = <[#{"a": false, "k": false}, "b"]>
-- let y = ()
-- try { if true { true; block { let y = 7; Dot(<Fn(k)>, call()) } } else {}; call print(""); block { -9223372036854775808; 64 } } catch m { let a = false }
-- fn f(a) { switch [] { ():  | 2..=3: 1 | default 3 | true => [], !=(-9223372036854775808, true) => y, !=(false, c) => !=((), m), true => f!(a) }; call h(); let a = { (); -1; true } }
-- fn f() {}
-- fn k() { y }
flow_9201523 : ran (engine (binding (codes "x") UnitV ∷ binding (codes "x") (CharV 122) ∷ []) (override (codes "+") ((codes "i64") ∷ (codes "i64") ∷ []) ∷ override (codes "-") ((codes "range") ∷ (codes "char") ∷ []) ∷ override (codes ">>=") ((codes "Fn") ∷ []) ∷ []) (renamed (codes "array") (codes "list") ∷ renamed (codes "map") (codes "object") ∷ []) false) (host (named (codes "f") (Answers (RangeV (pos 2) (pos 5)) (Some (TextV (195 ∷ 169 ∷ []))) ∷ []) ∷ []) (Answers (PointerV (codes "g") (values ((IntV (pos 7)) ∷ []))) None ∷ Answers (CharV 122) None ∷ []) (binding (codes "ns::a") (IntV (pos 5)) ∷ binding (codes "ns::x") (IntV (pos 2)) ∷ [])) ((function None (codes "f") ((codes "a") ∷ []) ((Switch (ArrayOf (exprs ([]))) (arm (BoolConstant true) (ArrayOf (exprs ([]))) (arm (FnCall (callee [] (codes "!=") false (OfOperator NotEqualTo)) (exprs ((IntegerConstant (negsuc 9223372036854775807)) ∷ (BoolConstant true) ∷ []))) (Variable ([]) (codes "y")) (arm (FnCall (callee [] (codes "!=") false (OfOperator NotEqualTo)) (exprs ((BoolConstant false) ∷ (Variable ([]) (codes "c")) ∷ []))) (FnCall (callee [] (codes "!=") false (OfOperator NotEqualTo)) (exprs (UnitConstant ∷ (Variable ([]) (codes "m")) ∷ []))) (arm (BoolConstant true) (FnCall (callee [] (codes "f") true NoToken) (exprs ((Variable ([]) (codes "a")) ∷ []))) no_arms)))) (table (case UnitV ([]) ∷ []) (record { range = InclusiveInt (pos 2) (pos 3); arm = 1 } ∷ []) (Some 3))) ∷ (FnCallStmt (callee [] (codes "h") false NoToken) (exprs ([]))) ∷ (Var false false (codes "a") (BlockExpr (stmts ((ExprStmt UnitConstant) ∷ (ExprStmt (IntegerConstant (negsuc 0))) ∷ (ExprStmt (BoolConstant true)) ∷ [])))) ∷ [])) ∷ (function None (codes "f") ([]) ([])) ∷ (function None (codes "k") ([]) ((ExprStmt (Variable ([]) (codes "y"))) ∷ [])) ∷ []) ((Var false false (codes "m") (DynamicConstant (TextV (codes "f")))) ∷ (Var false false (codes "m") (IntegerConstant (pos 9223372036854775806))) ∷ (Var false false (codes "b") (BoolConstant true)) ∷ (Var false false (codes "b") (DynamicConstant (ArrayV (values ((MapV (field (codes "a") (BoolV false) (field (codes "k") (BoolV false) no_fields))) ∷ (TextV (codes "b")) ∷ []))))) ∷ (Var false false (codes "y") UnitConstant) ∷ (TryCatch (Variable ([]) (codes "m")) (stmts ((If (BoolConstant true) (stmts ((ExprStmt (BoolConstant true)) ∷ (Block (stmts ((Var false false (codes "y") (IntegerConstant (pos 7))) ∷ (ExprStmt (Dot (flags false false) (DynamicConstant (PointerV (codes "k") (values ([])))) (MethodCall (callee [] (codes "call") false NoToken) (exprs ([]))))) ∷ []))) ∷ [])) (stmts ([]))) ∷ (FnCallStmt (callee [] (codes "print") false NoToken) (exprs ((StringConstant (codes "")) ∷ []))) ∷ (Block (stmts ((ExprStmt (IntegerConstant (negsuc 9223372036854775807))) ∷ (ExprStmt (IntegerConstant (pos 64))) ∷ []))) ∷ [])) (stmts ((Var false false (codes "a") (BoolConstant false)) ∷ []))) ∷ []) (AtFunction (function_key (codes "f") 1 None) (Some (IntV (negsuc 9223372036854775807))) ((IntV (pos 3)) ∷ [])) ([]) 5 ≡ ends WithoutTurns ([]) (Some (IntV (negsuc 9223372036854775807))) ([]) 0
unfolding ran
flow_9201523 = refl

-- let a = 0
-- call print(a)
-- a /= Dot?(this, Dot(k, b))
-- let a = 7
-- fn h() { if { 'a'; true } {} else { call print(""); a ^= m } }
-- fn f() { for (b, m) in call!(Fn("f")) {}; let m = 'é'; if true { if false { return <7> } else {}; try { "a"; "é"; throw m } catch { <true> } } else {} }
flow_9201716 : ran (engine ([]) (override (codes "&=") ((codes "i64") ∷ (codes "i64") ∷ []) ∷ override (codes "*") ((codes "char") ∷ []) ∷ override (codes "-") ((codes "map") ∷ []) ∷ override (codes "-=") ((codes "Fn") ∷ (codes "char") ∷ []) ∷ override (codes "<<") ((codes "i64") ∷ (codes "i64") ∷ []) ∷ override (codes "<<=") ((codes "Fn") ∷ (codes "range=") ∷ []) ∷ override (codes "<=") ((codes "i64") ∷ (codes "i64") ∷ []) ∷ override (codes ">") ((codes "array") ∷ (codes "string") ∷ []) ∷ override (codes "^=") ((codes "range") ∷ []) ∷ []) (renamed (codes "i64") (codes "int") ∷ []) true) (host (named (codes "index$get$") (Answers (RangeInclusiveV (negsuc 1) (negsuc 0)) None ∷ Answers UnitV (Some (MapV (field (codes "a") (IntV (pos 9223372036854775806)) no_fields))) ∷ Answers (ArrayV (values ((IntV (pos 9223372036854775806)) ∷ []))) None ∷ []) ∷ named (codes "g") (Answers (PointerV (codes "g") (values ((IntV (pos 1)) ∷ []))) (Some (CharV 233)) ∷ Answers (ArrayV (values ((CharV 98) ∷ (CharV 97) ∷ []))) (Some UnitV) ∷ Answers (PointerV (codes "f") (values ((TextV (codes "ab")) ∷ []))) None ∷ []) ∷ []) (Answers (TextV (codes "b")) (Some (CharV 98)) ∷ Answers (BoolV true) (Some (PointerV (codes "f") (values ([])))) ∷ []) (binding (codes "ns::a") (IntV (pos 5)) ∷ binding (codes "ns::x") (BoolV false) ∷ [])) ((function None (codes "h") ([]) ((If (BlockExpr (stmts ((ExprStmt (CharConstant 97)) ∷ (ExprStmt (BoolConstant true)) ∷ []))) (stmts ([])) (stmts ((FnCallStmt (callee [] (codes "print") false NoToken) (exprs ((StringConstant (codes "")) ∷ []))) ∷ (Assignment (Some BitXor) (Variable ([]) (codes "a")) (Variable ([]) (codes "m"))) ∷ []))) ∷ [])) ∷ (function None (codes "f") ([]) ((For (codes "b") (Some (codes "m")) (FnCall (callee [] (codes "call") true NoToken) (exprs ((FnCall (callee [] (codes "Fn") false NoToken) (exprs ((StringConstant (codes "f")) ∷ []))) ∷ []))) (stmts ([]))) ∷ (Var false false (codes "m") (CharConstant 233)) ∷ (If (BoolConstant true) (stmts ((If (BoolConstant false) (stmts ((Return false false (an_expr (DynamicConstant (IntV (pos 7))))) ∷ [])) (stmts ([]))) ∷ (TryCatch UnitConstant (stmts ((ExprStmt (StringConstant (codes "a"))) ∷ (ExprStmt (StringConstant (195 ∷ 169 ∷ []))) ∷ (Return true false (an_expr (Variable ([]) (codes "m")))) ∷ [])) (stmts ((ExprStmt (DynamicConstant (BoolV true))) ∷ []))) ∷ [])) (stmts ([]))) ∷ [])) ∷ []) ((Var false false (codes "a") (IntegerConstant (pos 0))) ∷ (FnCallStmt (callee [] (codes "print") false NoToken) (exprs ((Variable ([]) (codes "a")) ∷ []))) ∷ (Assignment (Some Divide) (Variable ([]) (codes "a")) (Dot (flags true false) ThisPtr (Dot (flags false false) (property (codes "get$k") (codes "set$k") (codes "k")) (property (codes "get$b") (codes "set$b") (codes "b"))))) ∷ (Var false false (codes "a") (IntegerConstant (pos 7))) ∷ []) (AtFunction (function_key (codes "f") 0 None) (Some (RangeInclusiveV (negsuc 1) (negsuc 0))) ([])) ([]) 10 ≡ ends WithoutTurns ([]) (Some (RangeInclusiveV (negsuc 1) (negsuc 0))) ([]) 0
unfolding ran
flow_9201716 = refl

-- const m = ()
-- const m = "a"
-- try { block { -9223372036854775808; false; "f" }; throw } catch a { m = 9223372036854775806 }
-- fn f() { try { try { throw 7 } catch { 3 }; block { "f"; "ab"; this += 1 }; try { <64>; (); () } catch m { "ab"; <2>; 63 } } catch { if { "a"; 'a'; false } { 'a'; true } else { -1; 'é'; 'a' } }; block {} }
-- fn f(a) {}
-- fn k() { y }
flow_9202123 : ran (engine (binding (codes "m") (IntV (pos 9223372036854775806)) ∷ binding (codes "x") (RangeInclusiveV (pos 0) (negsuc 0)) ∷ []) (override (codes "+=") ((codes "i64") ∷ (codes "i64") ∷ []) ∷ []) (renamed (codes "array") (codes "list") ∷ renamed (codes "map") (codes "object") ∷ []) true) (host ([]) (Answers (CharV 98) None ∷ Answers (PointerV (codes "f") (values ((BoolV false) ∷ []))) (Some (IntV (pos 63))) ∷ Answers (CharV 233) None ∷ Answers (IntV (negsuc 9223372036854775807)) None ∷ []) (binding (codes "ns::a") (IntV (pos 5)) ∷ binding (codes "ns::x") (CharV 97) ∷ [])) ((function None (codes "f") ([]) ((TryCatch UnitConstant (stmts ((TryCatch UnitConstant (stmts ((Return true false (an_expr (IntegerConstant (pos 7)))) ∷ [])) (stmts ((ExprStmt (IntegerConstant (pos 3))) ∷ []))) ∷ (Block (stmts ((ExprStmt (StringConstant (codes "f"))) ∷ (ExprStmt (StringConstant (codes "ab"))) ∷ (Assignment (Some Plus) ThisPtr (IntegerConstant (pos 1))) ∷ []))) ∷ (TryCatch (Variable ([]) (codes "m")) (stmts ((ExprStmt (DynamicConstant (IntV (pos 64)))) ∷ (ExprStmt UnitConstant) ∷ (ExprStmt UnitConstant) ∷ [])) (stmts ((ExprStmt (StringConstant (codes "ab"))) ∷ (ExprStmt (DynamicConstant (IntV (pos 2)))) ∷ (ExprStmt (IntegerConstant (pos 63))) ∷ []))) ∷ [])) (stmts ((If (BlockExpr (stmts ((ExprStmt (StringConstant (codes "a"))) ∷ (ExprStmt (CharConstant 97)) ∷ (ExprStmt (BoolConstant false)) ∷ []))) (stmts ((ExprStmt (CharConstant 97)) ∷ (ExprStmt (BoolConstant true)) ∷ [])) (stmts ((ExprStmt (IntegerConstant (negsuc 0))) ∷ (ExprStmt (CharConstant 233)) ∷ (ExprStmt (CharConstant 97)) ∷ []))) ∷ []))) ∷ (Block (stmts ([]))) ∷ [])) ∷ (function None (codes "f") ((codes "a") ∷ []) ([])) ∷ (function None (codes "k") ([]) ((ExprStmt (Variable ([]) (codes "y"))) ∷ [])) ∷ []) ((Var true false (codes "m") UnitConstant) ∷ (Var true false (codes "m") (StringConstant (codes "a"))) ∷ (TryCatch (Variable ([]) (codes "a")) (stmts ((Block (stmts ((ExprStmt (IntegerConstant (negsuc 9223372036854775807))) ∷ (ExprStmt (BoolConstant false)) ∷ (ExprStmt (StringConstant (codes "f"))) ∷ []))) ∷ (Return true false no_expr) ∷ [])) (stmts ((Assignment None (Variable ([]) (codes "m")) (IntegerConstant (pos 9223372036854775806))) ∷ []))) ∷ []) (AtFunction (function_key (codes "f") 0 None) None ([])) ([]) 5 ≡ ends (WithStuck UnboundThis) ([]) None ([]) 4
unfolding ran
flow_9202123 = refl

-- let a = y
-- let b = <0>
-- let m = 0
-- const m = -2
-- let b = <-9223372036854775808>
-- let y = <63>
-- const c = 0
-- if { <"">; 'é'; <Fn(g)>; false } { throw -9223372036854775808 } else {}
-- fn g(a) {}
-- fn g() {}
-- fn h() { try { while >=(-2, 1) { 9223372036854775807; "é"; <0..3> }; call g!(); throw <['b']> } catch { for x in <[]> { 'z'; <[(), Fn(h)]> }; block { <Fn(f)>; 9223372036854775806 }; switch () {  | 0..1: 2 | default - | { 'é'; 0; true } => b, true => m, "b" => "é", true => x } } }
flow_9203002 : ran (engine ([]) (override (codes "+=") ((codes "i64") ∷ (codes "array") ∷ []) ∷ override (codes "/=") ((codes "i64") ∷ (codes "i64") ∷ []) ∷ override (codes "<<") ((codes "Fn") ∷ []) ∷ []) ([]) false) (host ([]) (Answers (TextV (195 ∷ 169 ∷ [])) (Some (IntV (pos 9223372036854775807))) ∷ Answers (TextV (codes "a")) (Some (CharV 233)) ∷ Answers (ArrayV (values ([]))) None ∷ []) (binding (codes "ns::a") (IntV (pos 5)) ∷ binding (codes "ns::x") (MapV no_fields) ∷ [])) ((function None (codes "g") ((codes "a") ∷ []) ([])) ∷ (function None (codes "g") ([]) ([])) ∷ (function None (codes "h") ([]) ((TryCatch UnitConstant (stmts ((While (FnCall (callee [] (codes ">=") false (OfOperator GreaterOrEqual)) (exprs ((IntegerConstant (negsuc 1)) ∷ (IntegerConstant (pos 1)) ∷ []))) (stmts ((ExprStmt (IntegerConstant (pos 9223372036854775807))) ∷ (ExprStmt (StringConstant (195 ∷ 169 ∷ []))) ∷ (ExprStmt (DynamicConstant (RangeV (pos 0) (pos 3)))) ∷ []))) ∷ (FnCallStmt (callee [] (codes "g") true NoToken) (exprs ([]))) ∷ (Return true false (an_expr (DynamicConstant (ArrayV (values ((CharV 98) ∷ [])))))) ∷ [])) (stmts ((For (codes "x") None (DynamicConstant (ArrayV (values ([])))) (stmts ((ExprStmt (CharConstant 122)) ∷ (ExprStmt (DynamicConstant (ArrayV (values (UnitV ∷ (PointerV (codes "h") (values ([]))) ∷ []))))) ∷ []))) ∷ (Block (stmts ((ExprStmt (DynamicConstant (PointerV (codes "f") (values ([]))))) ∷ (ExprStmt (IntegerConstant (pos 9223372036854775806))) ∷ []))) ∷ (Switch UnitConstant (arm (BlockExpr (stmts ((ExprStmt (CharConstant 233)) ∷ (ExprStmt (IntegerConstant (pos 0))) ∷ (ExprStmt (BoolConstant true)) ∷ []))) (Variable ([]) (codes "b")) (arm (BoolConstant true) (Variable ([]) (codes "m")) (arm (StringConstant (codes "b")) (StringConstant (195 ∷ 169 ∷ [])) (arm (BoolConstant true) (Variable ([]) (codes "x")) no_arms)))) (table ([]) (record { range = ExclusiveInt (pos 0) (pos 1); arm = 2 } ∷ []) None)) ∷ []))) ∷ [])) ∷ []) ((Var false false (codes "a") (Variable ([]) (codes "y"))) ∷ (Var false false (codes "b") (DynamicConstant (IntV (pos 0)))) ∷ (Var false false (codes "m") (IntegerConstant (pos 0))) ∷ (Var true false (codes "m") (IntegerConstant (negsuc 1))) ∷ (Var false false (codes "b") (DynamicConstant (IntV (negsuc 9223372036854775807)))) ∷ (Var false false (codes "y") (DynamicConstant (IntV (pos 63)))) ∷ (Var true false (codes "c") (IntegerConstant (pos 0))) ∷ (If (BlockExpr (stmts ((ExprStmt (DynamicConstant (TextV (codes "")))) ∷ (ExprStmt (CharConstant 233)) ∷ (ExprStmt (DynamicConstant (PointerV (codes "g") (values ((CharV 98) ∷ []))))) ∷ (ExprStmt (BoolConstant false)) ∷ []))) (stmts ((Return true false (an_expr (IntegerConstant (negsuc 9223372036854775807)))) ∷ [])) (stmts ([]))) ∷ []) (AtFunction (function_key (codes "h") 0 None) (Some (MapV no_fields)) ([])) ([]) 5 ≡ ends (WithValue UnitV) ([]) (Some (MapV no_fields)) ([]) 3
unfolding ran
flow_9203002 = refl

-- x = Index?(y, Index?!(Fn("type_of"), ()))
-- fn g(a) { do { if >(9223372036854775806, 1) { continue } else {} } until true }
-- fn h() {}
flow_9203150 : ran (engine ([]) ([]) (renamed (codes "i64") (codes "int") ∷ []) false) (host (named (codes "get$a") ([]) ∷ []) (Answers (IntV (pos 2)) None ∷ Answers (IntV (negsuc 1)) (Some (TextV (codes ""))) ∷ Answers (IntV (pos 7)) None ∷ Answers UnitV None ∷ AnswersThrow (BoolV true) ∷ []) (binding (codes "ns::a") (IntV (pos 5)) ∷ binding (codes "ns::x") (BoolV false) ∷ [])) ((function None (codes "g") ((codes "a") ∷ []) ((Do true false (BoolConstant true) (stmts ((If (FnCall (callee [] (codes ">") false (OfOperator Greater)) (exprs ((IntegerConstant (pos 9223372036854775806)) ∷ (IntegerConstant (pos 1)) ∷ []))) (stmts ((BreakLoop false false no_expr) ∷ [])) (stmts ([]))) ∷ []))) ∷ [])) ∷ (function None (codes "h") ([]) ([])) ∷ []) ((Assignment None (Variable ([]) (codes "x")) (Index (flags true false) (Variable ([]) (codes "y")) (Index (flags true true) (FnCall (callee [] (codes "Fn") false NoToken) (exprs ((StringConstant (codes "type_of")) ∷ []))) UnitConstant))) ∷ []) (AtFunction (function_key (codes "g") 1 None) None ((CharV 97) ∷ [])) ([]) 10 ≡ ends (WithValue UnitV) ([]) None ([]) 8
unfolding ran
flow_9203150 = refl

-- noop
-- 3
-- block {}
-- fn h() { call f(-9223372036854775808, true) }
-- fn f(a) { block { <64>; false }; if false { () } else {}; block { 63; ..((), 1) } }
small_functions_9300220 : ran (engine ([]) (override (codes "..") ((codes "i64") ∷ (codes "bool") ∷ []) ∷ override (codes "==") ((codes "bool") ∷ []) ∷ override (codes "^") ((codes "i64") ∷ (codes "i64") ∷ []) ∷ []) (renamed (codes "i64") (codes "int") ∷ []) false) (host (named (codes "get$a") (Answers (ArrayV (values (UnitV ∷ (IntV (pos 7)) ∷ []))) None ∷ Answers (CharV 97) None ∷ AnswersThrow (TextV (codes "")) ∷ []) ∷ []) (AnswersThrow UnitV ∷ Answers (TextV (codes "a")) (Some (ArrayV (values ([])))) ∷ Answers (TextV (codes "ab")) (Some (ArrayV (values ([])))) ∷ Answers (IntV (pos 3)) None ∷ Answers (BoolV false) None ∷ []) (binding (codes "ns::a") (IntV (pos 5)) ∷ binding (codes "ns::x") (IntV (pos 7)) ∷ [])) ((function None (codes "h") ([]) ((FnCallStmt (callee [] (codes "f") false NoToken) (exprs ((IntegerConstant (negsuc 9223372036854775807)) ∷ (BoolConstant true) ∷ []))) ∷ [])) ∷ (function None (codes "f") ((codes "a") ∷ []) ((Block (stmts ((ExprStmt (DynamicConstant (IntV (pos 64)))) ∷ (ExprStmt (BoolConstant false)) ∷ []))) ∷ (If (BoolConstant false) (stmts ((ExprStmt UnitConstant) ∷ [])) (stmts ([]))) ∷ (Block (stmts ((ExprStmt (IntegerConstant (pos 63))) ∷ (ExprStmt (FnCall (callee [] (codes "..") false (OfOperator UpTo)) (exprs (UnitConstant ∷ (IntegerConstant (pos 1)) ∷ [])))) ∷ []))) ∷ [])) ∷ []) (Noop ∷ (ExprStmt (IntegerConstant (pos 3))) ∷ (Block (stmts ([]))) ∷ []) (AtFunction (function_key (codes "f") 1 None) (Some (ArrayV (values ((BoolV false) ∷ (CharV 97) ∷ (CharV 233) ∷ [])))) ((IntV (pos 1)) ∷ [])) ([]) 3 ≡ ends (WithValue (RangeV (pos 0) (pos 1))) ([]) (Some (ArrayV (values ((BoolV false) ∷ (CharV 97) ∷ (CharV 233) ∷ [])))) ([]) 2
unfolding ran
small_functions_9300220 = refl

-- block {}
-- -1
-- block {}
-- fn h(a, b) { noop; ==(64, 9223372036854775807) }
-- fn h() { if >(..=(1, ()), 9223372036854775807) {} else {}; noop; call !(9223372036854775807) }
small_functions_9300421 : ran (engine (binding (codes "m") (TextV (codes "f")) ∷ []) ([]) (renamed (codes "array") (codes "list") ∷ renamed (codes "map") (codes "object") ∷ []) true) (host (named (codes "h") (Answers (ArrayV (values ((TextV (codes "ab")) ∷ (BoolV true) ∷ []))) (Some (TextV (codes "ab"))) ∷ []) ∷ []) (Answers (ArrayV (values ((TextV (195 ∷ 169 ∷ [])) ∷ (CharV 122) ∷ (IntV (negsuc 1)) ∷ []))) None ∷ Answers (IntV (pos 9223372036854775807)) None ∷ AnswersThrow (BoolV false) ∷ Answers (CharV 122) None ∷ Answers (TextV (codes "f")) None ∷ []) (binding (codes "ns::a") (IntV (pos 5)) ∷ binding (codes "ns::x") (IntV (pos 1)) ∷ [])) ((function None (codes "h") ((codes "a") ∷ (codes "b") ∷ []) (Noop ∷ (ExprStmt (FnCall (callee [] (codes "==") false (OfOperator EqualTo)) (exprs ((IntegerConstant (pos 64)) ∷ (IntegerConstant (pos 9223372036854775807)) ∷ [])))) ∷ [])) ∷ (function None (codes "h") ([]) ((If (FnCall (callee [] (codes ">") false (OfOperator Greater)) (exprs ((FnCall (callee [] (codes "..=") false (OfOperator Through)) (exprs ((IntegerConstant (pos 1)) ∷ UnitConstant ∷ []))) ∷ (IntegerConstant (pos 9223372036854775807)) ∷ []))) (stmts ([])) (stmts ([]))) ∷ Noop ∷ (FnCallStmt (callee [] (codes "!") false (OfOperator Not)) (exprs ((IntegerConstant (pos 9223372036854775807)) ∷ []))) ∷ [])) ∷ []) ((Block (stmts ([]))) ∷ (ExprStmt (IntegerConstant (negsuc 0))) ∷ (Block (stmts ([]))) ∷ []) (AtFunction (function_key (codes "h") 0 None) None ([])) ([]) 5 ≡ ends (WithStuck WrongKind) ([]) None (asked None (codes ">") ((RangeInclusiveV (pos 1) (pos 9223372036854775807)) ∷ (IntV (pos 9223372036854775807)) ∷ []) ∷ []) 4
unfolding ran
small_functions_9300421 = refl

-- true
-- fn f(a) { if 'a' { call(curry(Fn("f"), 1), 1) } else {}; call >("", "") }
small_functions_9300464 : ran (engine (binding (codes "a") (ArrayV (values ((BoolV false) ∷ (BoolV true) ∷ []))) ∷ []) (override (codes "!=") ((codes "i64") ∷ (codes "i64") ∷ []) ∷ override (codes "*=") ((codes "string") ∷ []) ∷ override (codes "..") ((codes "string") ∷ (codes "range=") ∷ []) ∷ override (codes "..=") ((codes "i64") ∷ (codes "i64") ∷ []) ∷ override (codes "<<=") ((codes "map") ∷ []) ∷ override (codes "<=") ((codes "i64") ∷ []) ∷ override (codes "<=") ((codes "i64") ∷ (codes "i64") ∷ []) ∷ override (codes "|=") ((codes "range=") ∷ (codes "range") ∷ []) ∷ []) ([]) false) (host ([]) (Answers (BoolV false) None ∷ Answers (CharV 97) (Some (ArrayV (values (UnitV ∷ (CharV 98) ∷ (BoolV false) ∷ [])))) ∷ []) (binding (codes "ns::a") (IntV (pos 5)) ∷ binding (codes "ns::x") (BoolV false) ∷ [])) ((function None (codes "f") ((codes "a") ∷ []) ((If (CharConstant 97) (stmts ((ExprStmt (FnCall (callee [] (codes "call") false NoToken) (exprs ((FnCall (callee [] (codes "curry") false NoToken) (exprs ((FnCall (callee [] (codes "Fn") false NoToken) (exprs ((StringConstant (codes "f")) ∷ []))) ∷ (IntegerConstant (pos 1)) ∷ []))) ∷ (IntegerConstant (pos 1)) ∷ [])))) ∷ [])) (stmts ([]))) ∷ (FnCallStmt (callee [] (codes ">") false (OfOperator Greater)) (exprs ((StringConstant (codes "")) ∷ (StringConstant (codes "")) ∷ []))) ∷ [])) ∷ []) ((ExprStmt (BoolConstant true)) ∷ []) (AtFunction (function_key (codes "f") 1 None) None ((ArrayV (values (UnitV ∷ (IntV (pos 3)) ∷ []))) ∷ [])) ([]) 0 ≡ ends WithoutTurns ([]) None ([]) 0
unfolding ran
small_functions_9300464 = refl

-- block { call >=((), ()); call print(true, ()) }
-- if true { call **(false, true); [(), Fn("1a")] } else { noop; if false { "ab"; true } else {}; if { false } {} else {} }
-- noop
-- fn h(a) { block { (); false; false }; false }
small_functions_9300598 : ran (engine ([]) (override (codes "!=") ((codes "i64") ∷ (codes "i64") ∷ []) ∷ override (codes "%") ((codes "bool") ∷ (codes "range") ∷ []) ∷ override (codes ">=") ((codes "string") ∷ []) ∷ []) ([]) false) (host (named (codes "+") ([]) ∷ named (codes "get$a") (Answers UnitV None ∷ []) ∷ []) ([]) (binding (codes "ns::a") (IntV (pos 5)) ∷ binding (codes "ns::x") (CharV 122) ∷ [])) ((function None (codes "h") ((codes "a") ∷ []) ((Block (stmts ((ExprStmt UnitConstant) ∷ (ExprStmt (BoolConstant false)) ∷ (ExprStmt (BoolConstant false)) ∷ []))) ∷ (ExprStmt (BoolConstant false)) ∷ [])) ∷ []) ((Block (stmts ((FnCallStmt (callee [] (codes ">=") false (OfOperator GreaterOrEqual)) (exprs (UnitConstant ∷ UnitConstant ∷ []))) ∷ (FnCallStmt (callee [] (codes "print") false NoToken) (exprs ((BoolConstant true) ∷ UnitConstant ∷ []))) ∷ []))) ∷ (If (BoolConstant true) (stmts ((FnCallStmt (callee [] (codes "**") false (OfOperator Power)) (exprs ((BoolConstant false) ∷ (BoolConstant true) ∷ []))) ∷ (ExprStmt (ArrayOf (exprs (UnitConstant ∷ (FnCall (callee [] (codes "Fn") false NoToken) (exprs ((StringConstant (codes "1a")) ∷ []))) ∷ [])))) ∷ [])) (stmts (Noop ∷ (If (BoolConstant false) (stmts ((ExprStmt (StringConstant (codes "ab"))) ∷ (ExprStmt (BoolConstant true)) ∷ [])) (stmts ([]))) ∷ (If (BlockExpr (stmts ((ExprStmt (BoolConstant false)) ∷ []))) (stmts ([])) (stmts ([]))) ∷ []))) ∷ Noop ∷ []) (AtFunction (function_key (codes "h") 1 None) None ((TextV (195 ∷ 169 ∷ [])) ∷ [])) ([]) 0 ≡ ends WithoutTurns ([]) None ([]) 0
unfolding ran
small_functions_9300598 = refl

-- call <=(false, false)
-- fn g(a) { if { (); 7; ..(1, ()); false } { 63 } else {}; block { 63; -9223372036854775808; () }; block { "a"; <-1> } }
small_functions_9300612 : ran (engine (binding (codes "y") (BoolV false) ∷ binding (codes "a") (IntV (negsuc 9223372036854775807)) ∷ []) (override (codes "%") ((codes "array") ∷ (codes "()") ∷ []) ∷ override (codes "**") ((codes "()") ∷ []) ∷ override (codes "/") ((codes "i64") ∷ (codes "i64") ∷ []) ∷ []) ([]) true) (host (named (codes "f") ([]) ∷ []) ([]) (binding (codes "ns::a") (IntV (pos 5)) ∷ binding (codes "ns::x") (IntV (pos 9223372036854775807)) ∷ [])) ((function None (codes "g") ((codes "a") ∷ []) ((If (BlockExpr (stmts ((ExprStmt UnitConstant) ∷ (ExprStmt (IntegerConstant (pos 7))) ∷ (ExprStmt (FnCall (callee [] (codes "..") false (OfOperator UpTo)) (exprs ((IntegerConstant (pos 1)) ∷ UnitConstant ∷ [])))) ∷ (ExprStmt (BoolConstant false)) ∷ []))) (stmts ((ExprStmt (IntegerConstant (pos 63))) ∷ [])) (stmts ([]))) ∷ (Block (stmts ((ExprStmt (IntegerConstant (pos 63))) ∷ (ExprStmt (IntegerConstant (negsuc 9223372036854775807))) ∷ (ExprStmt UnitConstant) ∷ []))) ∷ (Block (stmts ((ExprStmt (StringConstant (codes "a"))) ∷ (ExprStmt (DynamicConstant (IntV (negsuc 0)))) ∷ []))) ∷ [])) ∷ []) ((FnCallStmt (callee [] (codes "<=") false (OfOperator LessOrEqual)) (exprs ((BoolConstant false) ∷ (BoolConstant false) ∷ []))) ∷ []) (AtFunction (function_key (codes "g") 1 None) None ((ArrayV (values ((TextV (codes "b")) ∷ (IntV (pos 9223372036854775806)) ∷ (TextV (codes "f")) ∷ []))) ∷ [])) ([]) 2 ≡ ends (WithValue (IntV (negsuc 0))) ([]) None ([]) 1
unfolding ran
small_functions_9300612 = refl

-- noop
-- if true {} else {}
-- block {}
-- fn f(a) { block {}; noop; if Fn("1a") { 'z' } else {} }
small_functions_9300892 : ran (engine ([]) ([]) (renamed (codes "array") (codes "list") ∷ renamed (codes "map") (codes "object") ∷ []) true) (host (named (codes "+") (Answers (CharV 97) None ∷ Answers (IntV (pos 3)) (Some (IntV (negsuc 1))) ∷ []) ∷ named (codes "h") (Answers UnitV None ∷ []) ∷ []) (Answers UnitV None ∷ Answers (IntV (pos 2)) None ∷ Answers (BoolV false) None ∷ Answers UnitV (Some (ArrayV (values ([])))) ∷ []) (binding (codes "ns::a") (IntV (pos 5)) ∷ binding (codes "ns::x") (TextV (codes "f")) ∷ [])) ((function None (codes "f") ((codes "a") ∷ []) ((Block (stmts ([]))) ∷ Noop ∷ (If (FnCall (callee [] (codes "Fn") false NoToken) (exprs ((StringConstant (codes "1a")) ∷ []))) (stmts ((ExprStmt (CharConstant 122)) ∷ [])) (stmts ([]))) ∷ [])) ∷ []) (Noop ∷ (If (BoolConstant true) (stmts ([])) (stmts ([]))) ∷ (Block (stmts ([]))) ∷ []) (AtFunction (function_key (codes "f") 1 None) None (UnitV ∷ [])) ([]) 1 ≡ ends (WithThrown (TextV (codes "function name"))) ([]) None ([]) 0
unfolding ran
small_functions_9300892 = refl

-- 9223372036854775807
-- noop
-- call g()
-- fn h(a) { noop; block { 'b'; (); call!(Fn("f")) } }
small_functions_9300969 : ran (engine (binding (codes "y") (BoolV false) ∷ []) ([]) ([]) false) (host (named (codes "index$get$") (Answers UnitV None ∷ Answers UnitV (Some (TextV (codes "b"))) ∷ Answers (TextV (codes "f")) None ∷ Answers (IntV (pos 9223372036854775807)) (Some (ArrayV (values ((CharV 233) ∷ (TextV (195 ∷ 169 ∷ [])) ∷ [])))) ∷ Answers (IntV (pos 63)) (Some (ArrayV (values (UnitV ∷ (TextV (195 ∷ 169 ∷ [])) ∷ [])))) ∷ []) ∷ []) (Answers (IntV (pos 63)) None ∷ Answers (IntV (pos 3)) None ∷ []) (binding (codes "ns::a") (IntV (pos 5)) ∷ binding (codes "ns::x") (BoolV true) ∷ [])) ((function None (codes "h") ((codes "a") ∷ []) (Noop ∷ (Block (stmts ((ExprStmt (CharConstant 98)) ∷ (ExprStmt UnitConstant) ∷ (ExprStmt (FnCall (callee [] (codes "call") true NoToken) (exprs ((FnCall (callee [] (codes "Fn") false NoToken) (exprs ((StringConstant (codes "f")) ∷ []))) ∷ [])))) ∷ []))) ∷ [])) ∷ []) ((ExprStmt (IntegerConstant (pos 9223372036854775807))) ∷ Noop ∷ (FnCallStmt (callee [] (codes "g") false NoToken) (exprs ([]))) ∷ []) (AtFunction (function_key (codes "h") 1 None) (Some (IntV (negsuc 9223372036854775807))) ((CharV 233) ∷ [])) ([]) 10 ≡ ends (WithValue (IntV (pos 63))) ([]) (Some (IntV (negsuc 9223372036854775807))) (asked None (codes "f") ([]) ∷ []) 9
unfolding ran
small_functions_9300969 = refl
