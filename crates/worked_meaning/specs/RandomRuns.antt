-- Runs of scripts made at random, as an evaluator of its own computed them.
use Rattle.std.specs.Prelude.{◌≡◌, true, false, [], ◌∷◌, None, Some, pos, negsuc, codes, refl}
use Rattle.rhai_base.specs.Value.{UnitV, BoolV, IntV, CharV, TextV, ArrayV, MapV, PointerV, RangeV, RangeInclusiveV, values, field, no_fields}
use Rattle.rhai_base.specs.Operators.{Plus, Minus, Multiply, Divide, Modulo, Power, ShiftLeft, ShiftRight, BitAnd, BitOr, BitXor, EqualTo, NotEqualTo, Less, Greater, LessOrEqual, GreaterOrEqual, UpTo, Through, Not}
use Rattle.theory_meaning.specs.Act.{Answers, Unbound, WrongKind, WriteToConstant, NoPlace, UnboundThis, AnswersThrow}
use Rattle.theory_meaning.specs.Run.{AtStatements, WithValue, WithThrown, WithStuck, AtFunction, WithoutTurns}
use Rattle.theory_meaning.specs.Tree.{OfOperator, NoToken, ExclusiveInt, DynamicConstant, BoolConstant, IntegerConstant, CharConstant, StringConstant, UnitConstant, ArrayOf, MapOf, Variable, ThisPtr, MethodCall, BlockExpr, FnCall, Dot, Index, And, Coalesce, pair, no_pairs, no_expr, an_expr, arm, no_arms, Switch, While, Do, For, Var, Assignment, TryCatch, ExprStmt, BreakLoop, Return, exprs, stmts, InclusiveInt, InterpolatedString, Or, Noop, If, FnCallStmt, Block, Export}
use Rattle.worked_meaning.specs.EvaluatedForms.{callee, flags, property, table, case, function, entry, asked, binding, override, renamed, engine, function_key, ends, named, host, ran}

-- let a = <#{"a": #{"b": false, "k": false}, "b": #{"b": ""}, "k": [0..=-1, 'z', #{"k": ()}]}>
-- const m = <[[2..=4], #{"a": 9223372036854775806, "b": "b", "k": 2..=4}]>
-- let x = ..=(1, ())
-- Index(a, Index!("k", 1)) *= { a = <#{"a": 3..=6}>; 1 }
-- fn array.g(b) {}
-- fn string.g() { this = <#{"a": -1..0, "b": Fn(g)}> }
chains_9100886 : ran (engine (binding (codes "m") (RangeInclusiveV (negsuc 0) (pos 1)) ∷ binding (codes "a") UnitV ∷ []) (override (codes "*=") ((codes "()") ∷ (codes "i64") ∷ []) ∷ []) (renamed (codes "array") (codes "list") ∷ renamed (codes "map") (codes "object") ∷ []) false) (host [] [] (binding (codes "ns::a") (IntV (pos 5)) ∷ binding (codes "ns::x") (IntV (pos 2)) ∷ [])) ((function (Some (codes "array")) (codes "g") ((codes "b") ∷ []) []) ∷ (function (Some (codes "string")) (codes "g") [] ((Assignment None ThisPtr (DynamicConstant (MapV (field (codes "a") (RangeV (negsuc 0) (pos 0)) (field (codes "b") (PointerV (codes "g") (values [])) no_fields))))) ∷ [])) ∷ []) ((Var false false (codes "a") (DynamicConstant (MapV (field (codes "a") (MapV (field (codes "b") (BoolV false) (field (codes "k") (BoolV false) no_fields))) (field (codes "b") (MapV (field (codes "b") (TextV (codes "")) no_fields)) (field (codes "k") (ArrayV (values ((RangeInclusiveV (pos 0) (negsuc 0)) ∷ (CharV 122) ∷ (MapV (field (codes "k") UnitV no_fields)) ∷ []))) no_fields)))))) ∷ (Var true false (codes "m") (DynamicConstant (ArrayV (values ((ArrayV (values ((RangeInclusiveV (pos 2) (pos 4)) ∷ []))) ∷ (MapV (field (codes "a") (IntV (pos 9223372036854775806)) (field (codes "b") (TextV (codes "b")) (field (codes "k") (RangeInclusiveV (pos 2) (pos 4)) no_fields)))) ∷ []))))) ∷ (Var false false (codes "x") (FnCall (callee [] (codes "..=") false (OfOperator Through)) (exprs ((IntegerConstant (pos 1)) ∷ UnitConstant ∷ [])))) ∷ (Assignment (Some Multiply) (Index (flags false false) (Variable [] (codes "a")) (Index (flags false true) (StringConstant (codes "k")) (IntegerConstant (pos 1)))) (BlockExpr (stmts ((Assignment None (Variable [] (codes "a")) (DynamicConstant (MapV (field (codes "a") (RangeInclusiveV (pos 3) (pos 6)) no_fields)))) ∷ (ExprStmt (IntegerConstant (pos 1))) ∷ [])))) ∷ []) AtStatements (entry (codes "m") true (TextV (codes "a")) ∷ []) 1 ≡ ends (WithValue UnitV) (entry (codes "m") true (TextV (codes "a")) ∷ entry (codes "a") false (MapV (field (codes "a") (RangeInclusiveV (pos 3) (pos 6)) no_fields)) ∷ entry (codes "m") true (ArrayV (values ((ArrayV (values ((RangeInclusiveV (pos 2) (pos 4)) ∷ []))) ∷ (MapV (field (codes "a") (IntV (pos 9223372036854775806)) (field (codes "b") (TextV (codes "b")) (field (codes "k") (RangeInclusiveV (pos 2) (pos 4)) no_fields)))) ∷ []))) ∷ entry (codes "x") false (RangeInclusiveV (pos 1) (pos 9223372036854775807)) ∷ []) None (asked (Some UnitV) (codes "index$get$") ((IntV (pos 1)) ∷ []) ∷ asked None (codes "*=") (UnitV ∷ (IntV (pos 1)) ∷ []) ∷ asked (Some UnitV) (codes "index$set$") ((IntV (pos 1)) ∷ UnitV ∷ []) ∷ []) 1
unfolding ran
chains_9100886 = refl

-- do { break (); break <false>; switch <0> {  | 1..3: 0, 3..=7: 0 | default - | true => <"">, !=(1, m) => m } } until { false; false }
-- try { let c = true; Dot?(c, b) **= 9223372036854775806; throw } catch { let a = "" }
-- const c = false
-- fn map.g(m, b) {}
full_9003419 : ran (engine (binding (codes "a") (PointerV (codes "h") (values [])) ∷ []) [] [] true) (host (named (codes "f") (Answers (RangeInclusiveV (negsuc 1) (pos 1)) None ∷ []) ∷ named (codes "g") [] ∷ []) [] (binding (codes "ns::a") (IntV (pos 5)) ∷ binding (codes "ns::x") (IntV (pos 3)) ∷ [])) ((function (Some (codes "map")) (codes "g") ((codes "m") ∷ (codes "b") ∷ []) []) ∷ []) ((Do true false (BlockExpr (stmts ((ExprStmt (BoolConstant false)) ∷ (ExprStmt (BoolConstant false)) ∷ []))) (stmts ((BreakLoop true false (an_expr UnitConstant)) ∷ (BreakLoop true false (an_expr (DynamicConstant (BoolV false)))) ∷ (Switch (DynamicConstant (IntV (pos 0))) (arm (BoolConstant true) (DynamicConstant (TextV (codes ""))) (arm (FnCall (callee [] (codes "!=") false (OfOperator NotEqualTo)) (exprs ((IntegerConstant (pos 1)) ∷ (Variable [] (codes "m")) ∷ []))) (Variable [] (codes "m")) no_arms)) (table [] (record { range = ExclusiveInt (pos 1) (pos 3); arm = 0 } ∷ record { range = InclusiveInt (pos 3) (pos 7); arm = 0 } ∷ []) None)) ∷ []))) ∷ (TryCatch UnitConstant (stmts ((Var false false (codes "c") (BoolConstant true)) ∷ (Assignment (Some Power) (Dot (flags true false) (Variable [] (codes "c")) (property (codes "get$b") (codes "set$b") (codes "b"))) (IntegerConstant (pos 9223372036854775806))) ∷ (Return true false no_expr) ∷ [])) (stmts ((Var false false (codes "a") (StringConstant (codes ""))) ∷ []))) ∷ (Var true false (codes "c") (BoolConstant false)) ∷ []) AtStatements (entry (codes "y") true (TextV (codes "ab")) ∷ entry (codes "y") true (IntV (pos 2)) ∷ []) 1 ≡ ends (WithValue UnitV) (entry (codes "y") true (IntV (pos 2)) ∷ entry (codes "y") true (TextV (codes "ab")) ∷ entry (codes "c") true (BoolV false) ∷ []) None (asked (Some (BoolV true)) (codes "get$b") [] ∷ asked None (codes "**") (UnitV ∷ (IntV (pos 9223372036854775806)) ∷ []) ∷ asked (Some (BoolV true)) (codes "set$b") (UnitV ∷ []) ∷ []) 0
unfolding ran
full_9003419 = refl

-- let a = <[#{"b": -9223372036854775808, "k": 1..3}, 'z']>
-- let m = <#{"k": -9223372036854775808}>
-- let x = <#{"b": #{"a": #{"b": -2}, "b": ['z', 3, false], "k": 0}}>
-- Index(x, Dot(!(false), k)) -= { -1 }
-- fn array.f() { throw this }
chains_9102319 : ran (engine (binding (codes "a") (IntV (pos 9223372036854775807)) ∷ binding (codes "m") (TextV (codes "ab")) ∷ []) (override (codes "!") ((codes "range=") ∷ []) ∷ override (codes "*") ((codes "i64") ∷ (codes "char") ∷ []) ∷ override (codes "+") ((codes "i64") ∷ (codes "i64") ∷ []) ∷ override (codes "-") ((codes "array") ∷ (codes "bool") ∷ []) ∷ override (codes "-=") ((codes "i64") ∷ (codes "i64") ∷ []) ∷ override (codes "/") ((codes "array") ∷ []) ∷ override (codes "/=") ((codes "i64") ∷ (codes "i64") ∷ []) ∷ override (codes "<<=") ((codes "map") ∷ (codes "range=") ∷ []) ∷ override (codes "<=") ((codes "range") ∷ []) ∷ override (codes "^") ((codes "i64") ∷ (codes "i64") ∷ []) ∷ []) (renamed (codes "array") (codes "list") ∷ renamed (codes "map") (codes "object") ∷ []) false) (host [] (Answers (MapV (field (codes "b") (IntV (pos 63)) no_fields)) (Some (MapV (field (codes "b") (IntV (pos 3)) (field (codes "k") (IntV (negsuc 1)) no_fields)))) ∷ AnswersThrow (CharV 98) ∷ Answers (CharV 97) None ∷ Answers (PointerV (codes "g") (values [])) None ∷ Answers UnitV None ∷ []) (binding (codes "ns::a") (IntV (pos 5)) ∷ binding (codes "ns::x") (ArrayV (values ((IntV (pos 7)) ∷ (CharV 122) ∷ []))) ∷ [])) ((function (Some (codes "array")) (codes "f") [] ((Return true false (an_expr ThisPtr)) ∷ [])) ∷ []) ((Var false false (codes "a") (DynamicConstant (ArrayV (values ((MapV (field (codes "b") (IntV (negsuc 9223372036854775807)) (field (codes "k") (RangeV (pos 1) (pos 3)) no_fields))) ∷ (CharV 122) ∷ []))))) ∷ (Var false false (codes "m") (DynamicConstant (MapV (field (codes "k") (IntV (negsuc 9223372036854775807)) no_fields)))) ∷ (Var false false (codes "x") (DynamicConstant (MapV (field (codes "b") (MapV (field (codes "a") (MapV (field (codes "b") (IntV (negsuc 1)) no_fields)) (field (codes "b") (ArrayV (values ((CharV 122) ∷ (IntV (pos 3)) ∷ (BoolV false) ∷ []))) (field (codes "k") (IntV (pos 0)) no_fields)))) no_fields)))) ∷ (Assignment (Some Minus) (Index (flags false false) (Variable [] (codes "x")) (Dot (flags false false) (FnCall (callee [] (codes "!") false (OfOperator Not)) (exprs ((BoolConstant false) ∷ []))) (property (codes "get$k") (codes "set$k") (codes "k")))) (BlockExpr (stmts ((ExprStmt (IntegerConstant (negsuc 0))) ∷ [])))) ∷ []) AtStatements (entry (codes "y") true (IntV (negsuc 0)) ∷ []) 5 ≡ ends (WithThrown (CharV 98)) (entry (codes "y") true (IntV (negsuc 0)) ∷ entry (codes "a") false (ArrayV (values ((MapV (field (codes "b") (IntV (negsuc 9223372036854775807)) (field (codes "k") (RangeV (pos 1) (pos 3)) no_fields))) ∷ (CharV 122) ∷ []))) ∷ entry (codes "m") false (MapV (field (codes "k") (IntV (negsuc 9223372036854775807)) no_fields)) ∷ entry (codes "x") false (MapV (field (codes "b") (MapV (field (codes "a") (MapV (field (codes "b") (IntV (negsuc 1)) no_fields)) (field (codes "b") (ArrayV (values ((CharV 122) ∷ (IntV (pos 3)) ∷ (BoolV false) ∷ []))) (field (codes "k") (IntV (pos 0)) no_fields)))) no_fields)) ∷ []) None (asked (Some (MapV (field (codes "b") (MapV (field (codes "a") (MapV (field (codes "b") (IntV (negsuc 1)) no_fields)) (field (codes "b") (ArrayV (values ((CharV 122) ∷ (IntV (pos 3)) ∷ (BoolV false) ∷ []))) (field (codes "k") (IntV (pos 0)) no_fields)))) no_fields))) (codes "index$get$") ((BoolV true) ∷ []) ∷ asked None (codes "-") (UnitV ∷ (IntV (negsuc 0)) ∷ []) ∷ []) 5
unfolding ran
chains_9102319 = refl

-- const a = <[[Fn(g), 7, 64], "a"]>
-- const m = <#{"a": Fn(g), "b": [-1..=2, ['z']], "k": ()}>
-- let x = <[['a'], [3, 9223372036854775807, ""]]>
-- try { Dot?(..(1, ()), k) } catch c {}
-- Dot(x, push()) = +(Dot(x, push()), 1)
-- fn string.g(c) { this = <#{"a": Fn(g), "b": true}>; return this }
chains_9101276 : ran (engine (binding (codes "m") (RangeInclusiveV (pos 3) (pos 3)) ∷ []) [] (renamed (codes "i64") (codes "int") ∷ []) false) (host [] [] (binding (codes "ns::a") (IntV (pos 5)) ∷ binding (codes "ns::x") (TextV (codes "")) ∷ [])) ((function (Some (codes "string")) (codes "g") ((codes "c") ∷ []) ((Assignment None ThisPtr (DynamicConstant (MapV (field (codes "a") (PointerV (codes "g") (values ((TextV (codes "ab")) ∷ []))) (field (codes "b") (BoolV true) no_fields))))) ∷ (Return false false (an_expr ThisPtr)) ∷ [])) ∷ []) ((Var true false (codes "a") (DynamicConstant (ArrayV (values ((ArrayV (values ((PointerV (codes "g") (values ((CharV 97) ∷ []))) ∷ (IntV (pos 7)) ∷ (IntV (pos 64)) ∷ []))) ∷ (TextV (codes "a")) ∷ []))))) ∷ (Var true false (codes "m") (DynamicConstant (MapV (field (codes "a") (PointerV (codes "g") (values [])) (field (codes "b") (ArrayV (values ((RangeInclusiveV (negsuc 0) (pos 2)) ∷ (ArrayV (values ((CharV 122) ∷ []))) ∷ []))) (field (codes "k") UnitV no_fields)))))) ∷ (Var false false (codes "x") (DynamicConstant (ArrayV (values ((ArrayV (values ((CharV 97) ∷ []))) ∷ (ArrayV (values ((IntV (pos 3)) ∷ (IntV (pos 9223372036854775807)) ∷ (TextV (codes "")) ∷ []))) ∷ []))))) ∷ (TryCatch (Variable [] (codes "c")) (stmts ((ExprStmt (Dot (flags true false) (FnCall (callee [] (codes "..") false (OfOperator UpTo)) (exprs ((IntegerConstant (pos 1)) ∷ UnitConstant ∷ []))) (property (codes "get$k") (codes "set$k") (codes "k")))) ∷ [])) (stmts [])) ∷ (Assignment None (Dot (flags false false) (Variable [] (codes "x")) (MethodCall (callee [] (codes "push") false NoToken) (exprs []))) (FnCall (callee [] (codes "+") false (OfOperator Plus)) (exprs ((Dot (flags false false) (Variable [] (codes "x")) (MethodCall (callee [] (codes "push") false NoToken) (exprs []))) ∷ (IntegerConstant (pos 1)) ∷ [])))) ∷ []) AtStatements [] 1 ≡ ends (WithStuck NoPlace) (entry (codes "a") true (ArrayV (values ((ArrayV (values ((PointerV (codes "g") (values ((CharV 97) ∷ []))) ∷ (IntV (pos 7)) ∷ (IntV (pos 64)) ∷ []))) ∷ (TextV (codes "a")) ∷ []))) ∷ entry (codes "m") true (MapV (field (codes "a") (PointerV (codes "g") (values [])) (field (codes "b") (ArrayV (values ((RangeInclusiveV (negsuc 0) (pos 2)) ∷ (ArrayV (values ((CharV 122) ∷ []))) ∷ []))) (field (codes "k") UnitV no_fields)))) ∷ entry (codes "x") false (ArrayV (values ((ArrayV (values ((CharV 97) ∷ []))) ∷ (ArrayV (values ((IntV (pos 3)) ∷ (IntV (pos 9223372036854775807)) ∷ (TextV (codes "")) ∷ []))) ∷ []))) ∷ []) None (asked (Some (RangeV (pos 1) (pos 9223372036854775807))) (codes "get$k") [] ∷ asked (Some (ArrayV (values ((ArrayV (values ((CharV 97) ∷ []))) ∷ (ArrayV (values ((IntV (pos 3)) ∷ (IntV (pos 9223372036854775807)) ∷ (TextV (codes "")) ∷ []))) ∷ [])))) (codes "push") [] ∷ asked None (codes "+") (UnitV ∷ (IntV (pos 1)) ∷ []) ∷ []) 1
unfolding ran
chains_9101276 = refl

-- const a = <3..2>
-- let m = <#{"b": [-2..=0, ["b"], 1..2]}>
-- const x = <[#{"a": #{"a": "é", "b": ()}, "b": 'b', "k": ['a', -1, 'a']}]>
-- Index!(x, "b") = { 2 }
-- Dot(x, b) = { -1 }
-- fn h() { this = <#{"a": Fn(h), "b": 'é'}> }
chains_9100688 : ran (engine (binding (codes "x") (PointerV (codes "f") (values ((IntV (pos 9223372036854775806)) ∷ []))) ∷ []) (override (codes "**=") ((codes "i64") ∷ (codes "i64") ∷ []) ∷ override (codes "+") ((codes "array") ∷ []) ∷ override (codes "+=") ((codes "i64") ∷ (codes "i64") ∷ []) ∷ override (codes "-") ((codes "array") ∷ []) ∷ override (codes "-") ((codes "map") ∷ []) ∷ override (codes "<=") ((codes "string") ∷ (codes "Fn") ∷ []) ∷ override (codes ">>") ((codes "string") ∷ (codes "bool") ∷ []) ∷ override (codes ">>=") ((codes "Fn") ∷ (codes "()") ∷ []) ∷ override (codes ">>=") ((codes "i64") ∷ (codes "i64") ∷ []) ∷ []) [] false) (host (named (codes "h") (Answers (CharV 233) None ∷ Answers UnitV None ∷ Answers (TextV (codes "f")) None ∷ Answers (IntV (pos 7)) None ∷ []) ∷ named (codes "get$a") (Answers (IntV (pos 7)) None ∷ Answers (BoolV true) None ∷ []) ∷ []) (Answers (IntV (pos 64)) None ∷ Answers (CharV 233) None ∷ Answers (MapV (field (codes "b") (IntV (negsuc 0)) no_fields)) None ∷ []) (binding (codes "ns::a") (IntV (pos 5)) ∷ binding (codes "ns::x") (TextV (codes "b")) ∷ [])) ((function None (codes "h") [] ((Assignment None ThisPtr (DynamicConstant (MapV (field (codes "a") (PointerV (codes "h") (values [])) (field (codes "b") (CharV 233) no_fields))))) ∷ [])) ∷ []) ((Var true false (codes "a") (DynamicConstant (RangeV (pos 3) (pos 2)))) ∷ (Var false false (codes "m") (DynamicConstant (MapV (field (codes "b") (ArrayV (values ((RangeInclusiveV (negsuc 1) (pos 0)) ∷ (ArrayV (values ((TextV (codes "b")) ∷ []))) ∷ (RangeV (pos 1) (pos 2)) ∷ []))) no_fields)))) ∷ (Var true false (codes "x") (DynamicConstant (ArrayV (values ((MapV (field (codes "a") (MapV (field (codes "a") (TextV (195 ∷ 169 ∷ [])) (field (codes "b") UnitV no_fields))) (field (codes "b") (CharV 98) (field (codes "k") (ArrayV (values ((CharV 97) ∷ (IntV (negsuc 0)) ∷ (CharV 97) ∷ []))) no_fields)))) ∷ []))))) ∷ (Assignment None (Index (flags false true) (Variable [] (codes "x")) (StringConstant (codes "b"))) (BlockExpr (stmts ((ExprStmt (IntegerConstant (pos 2))) ∷ [])))) ∷ (Assignment None (Dot (flags false false) (Variable [] (codes "x")) (property (codes "get$b") (codes "set$b") (codes "b"))) (BlockExpr (stmts ((ExprStmt (IntegerConstant (negsuc 0))) ∷ [])))) ∷ []) (AtFunction (function_key (codes "h") 0 None) None []) [] 2 ≡ ends (WithStuck UnboundThis) [] None [] 1
unfolding ran
chains_9100688 = refl

-- and(!=(-9223372036854775808, m))
-- try { throw b } catch a { noop; throw; const a = <""> }
-- noop
-- fn h(b) {}
-- fn f(x, y) { let y = 'b' }
full_9002412 : ran (engine (binding (codes "m") (BoolV true) ∷ binding (codes "c") (MapV (field (codes "b") (IntV (negsuc 1)) (field (codes "k") (TextV (codes "ab")) no_fields))) ∷ []) [] (renamed (codes "i64") (codes "int") ∷ []) false) (host [] (Answers (CharV 97) None ∷ []) (binding (codes "ns::a") (IntV (pos 5)) ∷ binding (codes "ns::x") (BoolV false) ∷ [])) ((function None (codes "h") ((codes "b") ∷ []) []) ∷ (function None (codes "f") ((codes "x") ∷ (codes "y") ∷ []) ((Var false false (codes "y") (CharConstant 98)) ∷ [])) ∷ []) ((ExprStmt (And (exprs ((FnCall (callee [] (codes "!=") false (OfOperator NotEqualTo)) (exprs ((IntegerConstant (negsuc 9223372036854775807)) ∷ (Variable [] (codes "m")) ∷ []))) ∷ [])))) ∷ (TryCatch (Variable [] (codes "a")) (stmts ((Return true false (an_expr (Variable [] (codes "b")))) ∷ [])) (stmts (Noop ∷ (Return true false no_expr) ∷ (Var true false (codes "a") (DynamicConstant (TextV (codes "")))) ∷ []))) ∷ Noop ∷ []) AtStatements (entry (codes "b") false (MapV no_fields) ∷ entry (codes "m") false (IntV (pos 2)) ∷ []) 1 ≡ ends (WithThrown (MapV no_fields)) (entry (codes "m") false (IntV (pos 2)) ∷ entry (codes "b") false (MapV no_fields) ∷ []) None [] 1
unfolding ran
full_9002412 = refl

-- [or({ -2; -2; block { let a = <[[1], [2]]>; Index(a, Index!(1, { a = <[[3]]>; 0 })) } }, { <#{"a": ["b"]}>; true; false }, false)]
-- fn push(m) { noop; let x = 9223372036854775806; return m }
-- fn h() {}
-- fn array.f(c, a) { if true {} else {}; this = +(this, ()) }
-- fn k() { y }
full_9003907 : ran (engine [] [] [] true) (host [] [] (binding (codes "ns::a") (IntV (pos 5)) ∷ binding (codes "ns::x") (MapV (field (codes "k") UnitV no_fields)) ∷ [])) ((function None (codes "push") ((codes "m") ∷ []) (Noop ∷ (Var false false (codes "x") (IntegerConstant (pos 9223372036854775806))) ∷ (Return false false (an_expr (Variable [] (codes "m")))) ∷ [])) ∷ (function None (codes "h") [] []) ∷ (function (Some (codes "array")) (codes "f") ((codes "c") ∷ (codes "a") ∷ []) ((If (BoolConstant true) (stmts []) (stmts [])) ∷ (Assignment None ThisPtr (FnCall (callee [] (codes "+") false (OfOperator Plus)) (exprs (ThisPtr ∷ UnitConstant ∷ [])))) ∷ [])) ∷ (function None (codes "k") [] ((ExprStmt (Variable [] (codes "y"))) ∷ [])) ∷ []) ((ExprStmt (ArrayOf (exprs ((Or (exprs ((BlockExpr (stmts ((ExprStmt (IntegerConstant (negsuc 1))) ∷ (ExprStmt (IntegerConstant (negsuc 1))) ∷ (Block (stmts ((Var false false (codes "a") (DynamicConstant (ArrayV (values ((ArrayV (values ((IntV (pos 1)) ∷ []))) ∷ (ArrayV (values ((IntV (pos 2)) ∷ []))) ∷ []))))) ∷ (ExprStmt (Index (flags false false) (Variable [] (codes "a")) (Index (flags false true) (IntegerConstant (pos 1)) (BlockExpr (stmts ((Assignment None (Variable [] (codes "a")) (DynamicConstant (ArrayV (values ((ArrayV (values ((IntV (pos 3)) ∷ []))) ∷ []))))) ∷ (ExprStmt (IntegerConstant (pos 0))) ∷ [])))))) ∷ []))) ∷ []))) ∷ (BlockExpr (stmts ((ExprStmt (DynamicConstant (MapV (field (codes "a") (ArrayV (values ((TextV (codes "b")) ∷ []))) no_fields)))) ∷ (ExprStmt (BoolConstant true)) ∷ (ExprStmt (BoolConstant false)) ∷ []))) ∷ (BoolConstant false) ∷ []))) ∷ [])))) ∷ []) AtStatements (entry (codes "m") false (IntV (pos 63)) ∷ entry (codes "b") false (IntV (pos 0)) ∷ entry (codes "c") true (IntV (pos 7)) ∷ []) 1 ≡ ends (WithStuck NoPlace) (entry (codes "c") true (IntV (pos 7)) ∷ entry (codes "b") false (IntV (pos 0)) ∷ entry (codes "m") false (IntV (pos 63)) ∷ []) None [] 1
unfolding ran
full_9003907 = refl

-- let a = ()
-- let x = ()
-- let c = true
-- let c = false
-- loop { block { true; true }; const b = (); break 0 }
-- fn g(a) { a = Index([Fn("1a"), y, ()], Index!(2, "a")) }
flow_9201055 : ran (engine (binding (codes "y") (TextV (codes "f")) ∷ []) (override (codes "-") ((codes "i64") ∷ (codes "i64") ∷ []) ∷ override (codes "/=") ((codes "()") ∷ (codes "range") ∷ []) ∷ override (codes "<") ((codes "()") ∷ []) ∷ []) [] false) (host [] [] (binding (codes "ns::a") (IntV (pos 5)) ∷ binding (codes "ns::x") UnitV ∷ [])) ((function None (codes "g") ((codes "a") ∷ []) ((Assignment None (Variable [] (codes "a")) (Index (flags false false) (ArrayOf (exprs ((FnCall (callee [] (codes "Fn") false NoToken) (exprs ((StringConstant (codes "1a")) ∷ []))) ∷ (Variable [] (codes "y")) ∷ UnitConstant ∷ []))) (Index (flags false true) (IntegerConstant (pos 2)) (StringConstant (codes "a"))))) ∷ [])) ∷ []) ((Var false false (codes "a") UnitConstant) ∷ (Var false false (codes "x") UnitConstant) ∷ (Var false false (codes "c") (BoolConstant true)) ∷ (Var false false (codes "c") (BoolConstant false)) ∷ (While UnitConstant (stmts ((Block (stmts ((ExprStmt (BoolConstant true)) ∷ (ExprStmt (BoolConstant true)) ∷ []))) ∷ (Var true false (codes "b") UnitConstant) ∷ (BreakLoop true false (an_expr (IntegerConstant (pos 0)))) ∷ []))) ∷ []) (AtFunction (function_key (codes "g") 1 None) None ((RangeInclusiveV (negsuc 0) (pos 0)) ∷ [])) [] 1 ≡ ends (WithThrown (TextV (codes "function name"))) [] None [] 0
unfolding ran
flow_9201055 = refl

-- let a = <[[(), "b"]]>
-- let m = ()
-- const x = <#{"a": ["a"], "k": ["a", "é"]}>
-- try { print(ns::q) } catch c {}
-- fn ().g(a) {}
-- fn i64.h(y) { throw this }
-- fn k() { y }
chains_9101141 : ran (engine (binding (codes "c") (CharV 122) ∷ binding (codes "q") (ArrayV (values ((TextV (195 ∷ 169 ∷ [])) ∷ []))) ∷ []) [] [] false) (host (named (codes "g") (Answers (BoolV true) None ∷ AnswersThrow UnitV ∷ []) ∷ []) [] (binding (codes "ns::a") (IntV (pos 5)) ∷ binding (codes "ns::x") (TextV (195 ∷ 169 ∷ [])) ∷ [])) ((function (Some (codes "()")) (codes "g") ((codes "a") ∷ []) []) ∷ (function (Some (codes "i64")) (codes "h") ((codes "y") ∷ []) ((Return true false (an_expr ThisPtr)) ∷ [])) ∷ (function None (codes "k") [] ((ExprStmt (Variable [] (codes "y"))) ∷ [])) ∷ []) ((Var false false (codes "a") (DynamicConstant (ArrayV (values ((ArrayV (values (UnitV ∷ (TextV (codes "b")) ∷ []))) ∷ []))))) ∷ (Var false false (codes "m") UnitConstant) ∷ (Var true false (codes "x") (DynamicConstant (MapV (field (codes "a") (ArrayV (values ((TextV (codes "a")) ∷ []))) (field (codes "k") (ArrayV (values ((TextV (codes "a")) ∷ (TextV (195 ∷ 169 ∷ [])) ∷ []))) no_fields))))) ∷ (TryCatch (Variable [] (codes "c")) (stmts ((ExprStmt (FnCall (callee [] (codes "print") false NoToken) (exprs ((Variable ((codes "ns") ∷ []) (codes "q")) ∷ [])))) ∷ [])) (stmts [])) ∷ []) (AtFunction (function_key (codes "k") 0 None) (Some UnitV) []) [] 0 ≡ ends WithoutTurns [] (Some UnitV) [] 0
unfolding ran
chains_9101141 = refl

-- let a = <#{"a": #{"a": [(), 3], "k": false}, "b": [Fn(g), false, "a"], "k": #{"a": []}}>
-- let m = <9223372036854775807>
-- const x = <#{"k": true}>
-- Index(a, Dot(2, k)) = { print(ns::q) }
-- fn push() {}
-- fn k() { y }
chains_9100053 : ran (engine (binding (codes "q") (ArrayV (values ((IntV (pos 9223372036854775807)) ∷ (BoolV false) ∷ []))) ∷ []) [] (renamed (codes "i64") (codes "int") ∷ []) true) (host [] (Answers UnitV (Some (IntV (pos 9223372036854775807))) ∷ Answers (PointerV (codes "f") (values ((BoolV true) ∷ []))) None ∷ Answers (PointerV (codes "h") (values [])) None ∷ Answers (PointerV (codes "f") (values [])) (Some UnitV) ∷ Answers (RangeV (negsuc 0) (pos 0)) (Some (IntV (pos 1))) ∷ []) (binding (codes "ns::a") (IntV (pos 5)) ∷ binding (codes "ns::x") (PointerV (codes "h") (values ((TextV (codes "b")) ∷ []))) ∷ [])) ((function None (codes "push") [] []) ∷ (function None (codes "k") [] ((ExprStmt (Variable [] (codes "y"))) ∷ [])) ∷ []) ((Var false false (codes "a") (DynamicConstant (MapV (field (codes "a") (MapV (field (codes "a") (ArrayV (values (UnitV ∷ (IntV (pos 3)) ∷ []))) (field (codes "k") (BoolV false) no_fields))) (field (codes "b") (ArrayV (values ((PointerV (codes "g") (values ((IntV (pos 7)) ∷ []))) ∷ (BoolV false) ∷ (TextV (codes "a")) ∷ []))) (field (codes "k") (MapV (field (codes "a") (ArrayV (values [])) no_fields)) no_fields)))))) ∷ (Var false false (codes "m") (DynamicConstant (IntV (pos 9223372036854775807)))) ∷ (Var true false (codes "x") (DynamicConstant (MapV (field (codes "k") (BoolV true) no_fields)))) ∷ (Assignment None (Index (flags false false) (Variable [] (codes "a")) (Dot (flags false false) (IntegerConstant (pos 2)) (property (codes "get$k") (codes "set$k") (codes "k")))) (BlockExpr (stmts ((ExprStmt (FnCall (callee [] (codes "print") false NoToken) (exprs ((Variable ((codes "ns") ∷ []) (codes "q")) ∷ [])))) ∷ [])))) ∷ []) AtStatements (entry (codes "c") false UnitV ∷ entry (codes "y") true (TextV (codes "")) ∷ []) 1 ≡ ends (WithStuck Unbound) (entry (codes "y") true (TextV (codes "")) ∷ entry (codes "c") false UnitV ∷ entry (codes "a") false (MapV (field (codes "a") (MapV (field (codes "a") (ArrayV (values (UnitV ∷ (IntV (pos 3)) ∷ []))) (field (codes "k") (BoolV false) no_fields))) (field (codes "b") (ArrayV (values ((PointerV (codes "g") (values ((IntV (pos 7)) ∷ []))) ∷ (BoolV false) ∷ (TextV (codes "a")) ∷ []))) (field (codes "k") (MapV (field (codes "a") (ArrayV (values [])) no_fields)) no_fields)))) ∷ entry (codes "m") false (IntV (pos 9223372036854775807)) ∷ entry (codes "x") true (MapV (field (codes "k") (BoolV true) no_fields)) ∷ []) None [] 1
unfolding ran
chains_9100053 = refl

-- let a = <Fn(f)>
-- let m = "ab"
-- let x = ()
-- const m = call(curry(Fn("f"), 1), 1)
-- switch 0 { #{"b": 64}: 0 0, (): 1 0 |  | default 2 | true => #{}, { (); false; false } => { () }, true => Index([], Dot(x, a)) }
-- loop { if true {} else {}; continue; m **= "ab"; break 1 }
-- fn g(a) { try { block { <true>; 'é' } } catch x { try { -2; "f"; throw } catch m { (); 63; 'b' } } }
flow_9201742 : ran (engine (binding (codes "c") (MapV (field (codes "k") (IntV (pos 9223372036854775807)) no_fields)) ∷ binding (codes "a") (BoolV true) ∷ []) (override (codes "%=") ((codes "Fn") ∷ []) ∷ override (codes "&") ((codes "Fn") ∷ (codes "string") ∷ []) ∷ override (codes "**") ((codes "()") ∷ (codes "i64") ∷ []) ∷ override (codes "**=") ((codes "array") ∷ []) ∷ override (codes "**=") ((codes "string") ∷ (codes "char") ∷ []) ∷ override (codes "..=") ((codes "i64") ∷ (codes "i64") ∷ []) ∷ override (codes "/=") ((codes "()") ∷ []) ∷ override (codes "/=") ((codes "i64") ∷ (codes "i64") ∷ []) ∷ override (codes "<") ((codes "i64") ∷ (codes "i64") ∷ []) ∷ override (codes ">=") ((codes "char") ∷ (codes "string") ∷ []) ∷ override (codes "^=") ((codes "bool") ∷ (codes "array") ∷ []) ∷ []) (renamed (codes "i64") (codes "int") ∷ []) false) (host (named (codes "f") (Answers (MapV (field (codes "a") UnitV (field (codes "k") (IntV (negsuc 1)) no_fields))) (Some (ArrayV (values []))) ∷ []) ∷ []) [] (binding (codes "ns::a") (IntV (pos 5)) ∷ binding (codes "ns::x") (CharV 233) ∷ [])) ((function None (codes "g") ((codes "a") ∷ []) ((TryCatch (Variable [] (codes "x")) (stmts ((Block (stmts ((ExprStmt (DynamicConstant (BoolV true))) ∷ (ExprStmt (CharConstant 233)) ∷ []))) ∷ [])) (stmts ((TryCatch (Variable [] (codes "m")) (stmts ((ExprStmt (IntegerConstant (negsuc 1))) ∷ (ExprStmt (StringConstant (codes "f"))) ∷ (Return true false no_expr) ∷ [])) (stmts ((ExprStmt UnitConstant) ∷ (ExprStmt (IntegerConstant (pos 63))) ∷ (ExprStmt (CharConstant 98)) ∷ []))) ∷ []))) ∷ [])) ∷ []) ((Var false false (codes "a") (DynamicConstant (PointerV (codes "f") (values [])))) ∷ (Var false false (codes "m") (StringConstant (codes "ab"))) ∷ (Var false false (codes "x") UnitConstant) ∷ (Var true false (codes "m") (FnCall (callee [] (codes "call") false NoToken) (exprs ((FnCall (callee [] (codes "curry") false NoToken) (exprs ((FnCall (callee [] (codes "Fn") false NoToken) (exprs ((StringConstant (codes "f")) ∷ []))) ∷ (IntegerConstant (pos 1)) ∷ []))) ∷ (IntegerConstant (pos 1)) ∷ [])))) ∷ (Switch (IntegerConstant (pos 0)) (arm (BoolConstant true) (MapOf no_pairs []) (arm (BlockExpr (stmts ((ExprStmt UnitConstant) ∷ (ExprStmt (BoolConstant false)) ∷ (ExprStmt (BoolConstant false)) ∷ []))) (BlockExpr (stmts ((ExprStmt UnitConstant) ∷ []))) (arm (BoolConstant true) (Index (flags false false) (ArrayOf (exprs [])) (Dot (flags false false) (Variable [] (codes "x")) (property (codes "get$a") (codes "set$a") (codes "a")))) no_arms))) (table (case (MapV (field (codes "b") (IntV (pos 64)) no_fields)) (0 ∷ 0 ∷ []) ∷ case UnitV (1 ∷ 0 ∷ []) ∷ []) [] (Some 2))) ∷ (While UnitConstant (stmts ((If (BoolConstant true) (stmts []) (stmts [])) ∷ (BreakLoop false false no_expr) ∷ (Assignment (Some Power) (Variable [] (codes "m")) (StringConstant (codes "ab"))) ∷ (BreakLoop true false (an_expr (IntegerConstant (pos 1)))) ∷ []))) ∷ []) AtStatements (entry (codes "b") false (BoolV false) ∷ entry (codes "b") true (TextV (195 ∷ 169 ∷ [])) ∷ []) 3 ≡ ends WithoutTurns (entry (codes "b") true (TextV (195 ∷ 169 ∷ [])) ∷ entry (codes "b") false (BoolV false) ∷ entry (codes "a") false (PointerV (codes "f") (values [])) ∷ entry (codes "m") false (TextV (codes "ab")) ∷ entry (codes "x") false UnitV ∷ entry (codes "m") true (MapV (field (codes "a") UnitV (field (codes "k") (IntV (negsuc 1)) no_fields))) ∷ []) None (asked None (codes "f") ((IntV (pos 1)) ∷ (IntV (pos 1)) ∷ []) ∷ asked (Some (ArrayV (values []))) (codes "index$get$") (UnitV ∷ []) ∷ asked (Some UnitV) (codes "get$a") [] ∷ []) 0
unfolding ran
flow_9201742 = refl

-- let x = "é"
-- let b = ""
-- const b = 3
-- let x = ..=(1, ())
-- const m = false
-- for x in <['b', (), "b"]> { break; continue; m = false }
-- if true { return x } else {}
-- if true {} else {}
flow_9202765 : ran (engine (binding (codes "x") (IntV (pos 63)) ∷ binding (codes "b") (TextV (codes "a")) ∷ []) [] (renamed (codes "array") (codes "list") ∷ renamed (codes "map") (codes "object") ∷ []) false) (host [] (Answers (ArrayV (values ((TextV (195 ∷ 169 ∷ [])) ∷ []))) None ∷ []) (binding (codes "ns::a") (IntV (pos 5)) ∷ binding (codes "ns::x") (ArrayV (values ((IntV (pos 64)) ∷ (IntV (negsuc 1)) ∷ (CharV 122) ∷ []))) ∷ [])) [] ((Var false false (codes "x") (StringConstant (195 ∷ 169 ∷ []))) ∷ (Var false false (codes "b") (StringConstant (codes ""))) ∷ (Var true false (codes "b") (IntegerConstant (pos 3))) ∷ (Var false false (codes "x") (FnCall (callee [] (codes "..=") false (OfOperator Through)) (exprs ((IntegerConstant (pos 1)) ∷ UnitConstant ∷ [])))) ∷ (Var true false (codes "m") (BoolConstant false)) ∷ (For (codes "x") None (DynamicConstant (ArrayV (values ((CharV 98) ∷ UnitV ∷ (TextV (codes "b")) ∷ [])))) (stmts ((BreakLoop true false no_expr) ∷ (BreakLoop false false no_expr) ∷ (Assignment None (Variable [] (codes "m")) (BoolConstant false)) ∷ []))) ∷ (If (BoolConstant true) (stmts ((Return false false (an_expr (Variable [] (codes "x")))) ∷ [])) (stmts [])) ∷ (If (BoolConstant true) (stmts []) (stmts [])) ∷ []) AtStatements (entry (codes "a") false (IntV (negsuc 0)) ∷ []) 1 ≡ ends (WithValue (RangeInclusiveV (pos 1) (pos 9223372036854775807))) (entry (codes "a") false (IntV (negsuc 0)) ∷ entry (codes "x") false (TextV (195 ∷ 169 ∷ [])) ∷ entry (codes "b") false (TextV (codes "")) ∷ entry (codes "b") true (IntV (pos 3)) ∷ entry (codes "x") false (RangeInclusiveV (pos 1) (pos 9223372036854775807)) ∷ entry (codes "m") true (BoolV false) ∷ []) None [] 0
unfolding ran
flow_9202765 = refl

-- let m = <["b"]>
-- try { let b = 'b'; block {}; do { (); call(<Fn(k)>, 1) } until { <0..=1>; false } } catch b {}
-- noop
-- fn g() {}
full_9003342 : ran (engine [] [] (renamed (codes "i64") (codes "int") ∷ []) true) (host (named (codes "g") (Answers UnitV (Some (ArrayV (values ((TextV (195 ∷ 169 ∷ [])) ∷ (BoolV false) ∷ (IntV (pos 3)) ∷ [])))) ∷ Answers (CharV 98) (Some (TextV (codes "a"))) ∷ Answers (TextV (codes "f")) (Some (IntV (pos 2))) ∷ AnswersThrow (PointerV (codes "f") (values ((BoolV true) ∷ []))) ∷ Answers (MapV no_fields) None ∷ []) ∷ []) (Answers (RangeV (pos 2) (pos 4)) None ∷ []) (binding (codes "ns::a") (IntV (pos 5)) ∷ binding (codes "ns::x") (MapV no_fields) ∷ [])) ((function None (codes "g") [] []) ∷ []) ((Var false false (codes "m") (DynamicConstant (ArrayV (values ((TextV (codes "b")) ∷ []))))) ∷ (TryCatch (Variable [] (codes "b")) (stmts ((Var false false (codes "b") (CharConstant 98)) ∷ (Block (stmts [])) ∷ (Do true false (BlockExpr (stmts ((ExprStmt (DynamicConstant (RangeInclusiveV (pos 0) (pos 1)))) ∷ (ExprStmt (BoolConstant false)) ∷ []))) (stmts ((ExprStmt UnitConstant) ∷ (ExprStmt (FnCall (callee [] (codes "call") false NoToken) (exprs ((DynamicConstant (PointerV (codes "k") (values (UnitV ∷ [])))) ∷ (IntegerConstant (pos 1)) ∷ [])))) ∷ []))) ∷ [])) (stmts [])) ∷ Noop ∷ []) AtStatements [] 5 ≡ ends WithoutTurns (entry (codes "m") false (ArrayV (values ((TextV (codes "b")) ∷ []))) ∷ []) None (asked None (codes "k") (UnitV ∷ (IntV (pos 1)) ∷ []) ∷ asked None (codes "k") (UnitV ∷ (IntV (pos 1)) ∷ []) ∷ asked None (codes "k") (UnitV ∷ (IntV (pos 1)) ∷ []) ∷ asked None (codes "k") (UnitV ∷ (IntV (pos 1)) ∷ []) ∷ asked None (codes "k") (UnitV ∷ (IntV (pos 1)) ∷ []) ∷ []) 0
unfolding ran
full_9003342 = refl

-- let b = !(false)
-- const b = true
-- const y = 0
-- try { throw 7 } catch a { block { -1; -2 }; loop { break () }; if false { 'b'; 'a' } else {} }
-- while Index(b, Dot("k", Dot(a, type_of()))) {}
-- fn h() {}
flow_9202681 : ran (engine [] (override (codes "&=") ((codes "bool") ∷ (codes "string") ∷ []) ∷ override (codes "..=") ((codes "string") ∷ []) ∷ override (codes ">") ((codes "i64") ∷ (codes "i64") ∷ []) ∷ []) [] false) (host (named (codes "g") (Answers (RangeV (negsuc 0) (pos 2)) None ∷ Answers (PointerV (codes "g") (values [])) None ∷ []) ∷ []) (Answers UnitV None ∷ Answers (RangeV (pos 2) (pos 3)) None ∷ []) (binding (codes "ns::a") (IntV (pos 5)) ∷ binding (codes "ns::x") (IntV (pos 63)) ∷ [])) ((function None (codes "h") [] []) ∷ []) ((Var false false (codes "b") (FnCall (callee [] (codes "!") false (OfOperator Not)) (exprs ((BoolConstant false) ∷ [])))) ∷ (Var true false (codes "b") (BoolConstant true)) ∷ (Var true false (codes "y") (IntegerConstant (pos 0))) ∷ (TryCatch (Variable [] (codes "a")) (stmts ((Return true false (an_expr (IntegerConstant (pos 7)))) ∷ [])) (stmts ((Block (stmts ((ExprStmt (IntegerConstant (negsuc 0))) ∷ (ExprStmt (IntegerConstant (negsuc 1))) ∷ []))) ∷ (While UnitConstant (stmts ((BreakLoop true false (an_expr UnitConstant)) ∷ []))) ∷ (If (BoolConstant false) (stmts ((ExprStmt (CharConstant 98)) ∷ (ExprStmt (CharConstant 97)) ∷ [])) (stmts [])) ∷ []))) ∷ (While (Index (flags false false) (Variable [] (codes "b")) (Dot (flags false false) (StringConstant (codes "k")) (Dot (flags false false) (property (codes "get$a") (codes "set$a") (codes "a")) (MethodCall (callee [] (codes "type_of") false NoToken) (exprs []))))) (stmts [])) ∷ []) AtStatements [] 3 ≡ ends (WithStuck WrongKind) (entry (codes "b") false (BoolV true) ∷ entry (codes "b") true (BoolV true) ∷ entry (codes "y") true (IntV (pos 0)) ∷ []) None (asked (Some (BoolV true)) (codes "index$get$") ((TextV (codes "k")) ∷ []) ∷ asked (Some UnitV) (codes "get$a") [] ∷ []) 2
unfolding ran
flow_9202681 = refl

-- const m = 'é'
-- switch false { #{"k": ""}: , #{"a": 3, "b": ()}: , (): 0 0 |  | default - | true => m }
-- try { throw m } catch x { export x as  }
-- fn push(x) { for x in <[]> { true; "f"; "a" }; Index?!(x, 0) **= x; return #{a: x} }
odd_9401168 : ran (engine (binding (codes "c") (BoolV true) ∷ []) (override (codes "!") ((codes "range=") ∷ []) ∷ override (codes "%") ((codes "i64") ∷ (codes "i64") ∷ []) ∷ override (codes "**=") ((codes "array") ∷ (codes "i64") ∷ []) ∷ override (codes "+") ((codes "i64") ∷ (codes "i64") ∷ []) ∷ override (codes "/=") ((codes "bool") ∷ []) ∷ override (codes "<<=") ((codes "i64") ∷ (codes "i64") ∷ []) ∷ override (codes "==") ((codes "Fn") ∷ []) ∷ override (codes ">>") ((codes "i64") ∷ (codes "range") ∷ []) ∷ override (codes ">>") ((codes "range") ∷ (codes "()") ∷ []) ∷ override (codes "|=") ((codes "range") ∷ (codes "char") ∷ []) ∷ []) [] false) (host (named (codes "h") (Answers (IntV (negsuc 0)) (Some (CharV 97)) ∷ Answers (MapV no_fields) None ∷ Answers (RangeV (pos 2) (pos 5)) None ∷ Answers (CharV 233) None ∷ AnswersThrow (PointerV (codes "h") (values ((BoolV true) ∷ []))) ∷ []) ∷ named (codes "+") (Answers (IntV (pos 3)) (Some UnitV) ∷ Answers (CharV 97) None ∷ Answers (MapV (field (codes "b") (BoolV true) no_fields)) None ∷ Answers (MapV (field (codes "b") (IntV (pos 1)) (field (codes "k") (TextV (codes "f")) no_fields))) None ∷ Answers (TextV (codes "a")) (Some (RangeInclusiveV (pos 1) (pos 2))) ∷ []) ∷ []) (Answers (PointerV (codes "f") (values (UnitV ∷ []))) None ∷ Answers UnitV (Some (IntV (pos 1))) ∷ Answers (TextV (codes "b")) None ∷ Answers (IntV (negsuc 1)) None ∷ []) (binding (codes "ns::a") (IntV (pos 5)) ∷ binding (codes "ns::x") (BoolV true) ∷ [])) ((function None (codes "push") ((codes "x") ∷ []) ((For (codes "x") None (DynamicConstant (ArrayV (values []))) (stmts ((ExprStmt (BoolConstant true)) ∷ (ExprStmt (StringConstant (codes "f"))) ∷ (ExprStmt (StringConstant (codes "a"))) ∷ []))) ∷ (Assignment (Some Power) (Index (flags true true) (Variable [] (codes "x")) (IntegerConstant (pos 0))) (Variable [] (codes "x"))) ∷ (Return false false (an_expr (MapOf (pair (codes "a") (Variable [] (codes "x")) no_pairs) ((codes "a") ∷ [])))) ∷ [])) ∷ []) ((Var true false (codes "m") (CharConstant 233)) ∷ (Switch (BoolConstant false) (arm (BoolConstant true) (Variable [] (codes "m")) no_arms) (table (case (MapV (field (codes "k") (TextV (codes "")) no_fields)) [] ∷ case (MapV (field (codes "a") (IntV (pos 3)) (field (codes "b") UnitV no_fields))) [] ∷ case UnitV (0 ∷ 0 ∷ []) ∷ []) [] None)) ∷ (TryCatch (Variable [] (codes "x")) (stmts ((Return true false (an_expr (Variable [] (codes "m")))) ∷ [])) (stmts ((Export (codes "x") (codes "")) ∷ []))) ∷ []) AtStatements [] 5 ≡ ends (WithValue UnitV) (entry (codes "m") true (CharV 233) ∷ []) None [] 5
unfolding ran
odd_9401168 = refl

-- let a = <#{"k": ["b"]}>
-- let m = <#{"a": #{"a": (), "k": Fn(f)}, "k": ["b", false]}>
-- let x = <#{"a": 9223372036854775807, "b": #{"a": 2..=5, "b": #{}, "k": false}, "k": ['z']}>
-- let a = Index?(<[7, "é", ()]>, Index!(0, 0))
-- let b = Index(x, Dot(0, Index!(b, { q = f() })))
-- fn array.f() {}
-- fn k() { y }
chains_9101180 : ran (engine (binding (codes "q") (ArrayV (values ((CharV 97) ∷ []))) ∷ []) (override (codes "!") ((codes "array") ∷ []) ∷ override (codes "%") ((codes "range") ∷ (codes "array") ∷ []) ∷ override (codes "%=") ((codes "range") ∷ []) ∷ override (codes "**") ((codes "i64") ∷ []) ∷ override (codes "+") ((codes "i64") ∷ (codes "i64") ∷ []) ∷ override (codes ">>=") ((codes "i64") ∷ (codes "i64") ∷ []) ∷ override (codes ">>=") ((codes "string") ∷ (codes "string") ∷ []) ∷ override (codes "|=") ((codes "Fn") ∷ (codes "i64") ∷ []) ∷ override (codes "|=") ((codes "i64") ∷ (codes "i64") ∷ []) ∷ []) (renamed (codes "i64") (codes "int") ∷ []) false) (host (named (codes "f") (Answers (IntV (pos 64)) None ∷ []) ∷ named (codes "push") (Answers UnitV (Some (PointerV (codes "g") (values ((CharV 97) ∷ [])))) ∷ Answers (IntV (pos 2)) (Some (IntV (negsuc 0))) ∷ Answers (IntV (pos 7)) (Some (IntV (pos 3))) ∷ AnswersThrow (MapV (field (codes "k") (BoolV false) no_fields)) ∷ []) ∷ []) (Answers UnitV None ∷ Answers (RangeV (pos 1) (pos 3)) (Some UnitV) ∷ []) (binding (codes "ns::a") (IntV (pos 5)) ∷ binding (codes "ns::x") (RangeV (pos 2) (pos 2)) ∷ [])) ((function (Some (codes "array")) (codes "f") [] []) ∷ (function None (codes "k") [] ((ExprStmt (Variable [] (codes "y"))) ∷ [])) ∷ []) ((Var false false (codes "a") (DynamicConstant (MapV (field (codes "k") (ArrayV (values ((TextV (codes "b")) ∷ []))) no_fields)))) ∷ (Var false false (codes "m") (DynamicConstant (MapV (field (codes "a") (MapV (field (codes "a") UnitV (field (codes "k") (PointerV (codes "f") (values [])) no_fields))) (field (codes "k") (ArrayV (values ((TextV (codes "b")) ∷ (BoolV false) ∷ []))) no_fields))))) ∷ (Var false false (codes "x") (DynamicConstant (MapV (field (codes "a") (IntV (pos 9223372036854775807)) (field (codes "b") (MapV (field (codes "a") (RangeInclusiveV (pos 2) (pos 5)) (field (codes "b") (MapV no_fields) (field (codes "k") (BoolV false) no_fields)))) (field (codes "k") (ArrayV (values ((CharV 122) ∷ []))) no_fields)))))) ∷ (Var false false (codes "a") (Index (flags true false) (DynamicConstant (ArrayV (values ((IntV (pos 7)) ∷ (TextV (195 ∷ 169 ∷ [])) ∷ UnitV ∷ [])))) (Index (flags false true) (IntegerConstant (pos 0)) (IntegerConstant (pos 0))))) ∷ (Var false false (codes "b") (Index (flags false false) (Variable [] (codes "x")) (Dot (flags false false) (IntegerConstant (pos 0)) (Index (flags false true) (property (codes "get$b") (codes "set$b") (codes "b")) (BlockExpr (stmts ((Assignment None (Variable [] (codes "q")) (FnCall (callee [] (codes "f") false NoToken) (exprs []))) ∷ []))))))) ∷ []) AtStatements (entry (codes "m") false (MapV no_fields) ∷ []) 0 ≡ ends (WithStuck WriteToConstant) (entry (codes "m") false (MapV no_fields) ∷ entry (codes "a") false (MapV (field (codes "k") (ArrayV (values ((TextV (codes "b")) ∷ []))) no_fields)) ∷ entry (codes "m") false (MapV (field (codes "a") (MapV (field (codes "a") UnitV (field (codes "k") (PointerV (codes "f") (values [])) no_fields))) (field (codes "k") (ArrayV (values ((TextV (codes "b")) ∷ (BoolV false) ∷ []))) no_fields))) ∷ entry (codes "x") false (MapV (field (codes "a") (IntV (pos 9223372036854775807)) (field (codes "b") (MapV (field (codes "a") (RangeInclusiveV (pos 2) (pos 5)) (field (codes "b") (MapV no_fields) (field (codes "k") (BoolV false) no_fields)))) (field (codes "k") (ArrayV (values ((CharV 122) ∷ []))) no_fields)))) ∷ entry (codes "a") false (BoolV true) ∷ []) None (asked (Some (MapV (field (codes "a") (IntV (pos 9223372036854775807)) (field (codes "b") (MapV (field (codes "a") (RangeInclusiveV (pos 2) (pos 5)) (field (codes "b") (MapV no_fields) (field (codes "k") (BoolV false) no_fields)))) (field (codes "k") (ArrayV (values ((CharV 122) ∷ []))) no_fields))))) (codes "index$get$") ((IntV (pos 0)) ∷ []) ∷ asked (Some UnitV) (codes "get$b") [] ∷ asked None (codes "f") [] ∷ []) 0
unfolding ran
chains_9101180 = refl

-- const a = <[#{"a": 2..=5, "k": 'a'}, #{"b": [2, 63, "a"]}, [63]]>
-- let m = <"a">
-- let x = <#{"a": [(), (), 'a'], "b": [#{"b": ()}, "f"]}>
-- Index?!(m, { "a" }) -= { ..((), 1) }
-- let x = Dot(a, Index!(call(m), "b"))
-- fn ().f() { throw this }
chains_9101903 : ran (engine [] [] (renamed (codes "i64") (codes "int") ∷ []) false) (host (named (codes "push") (Answers (ArrayV (values ((IntV (pos 64)) ∷ []))) (Some UnitV) ∷ []) ∷ named (codes "+") (AnswersThrow (MapV (field (codes "a") UnitV (field (codes "b") (IntV (pos 0)) no_fields))) ∷ Answers (ArrayV (values ((BoolV false) ∷ (IntV (pos 64)) ∷ []))) None ∷ Answers (MapV (field (codes "k") (IntV (negsuc 0)) no_fields)) (Some (IntV (negsuc 9223372036854775807))) ∷ []) ∷ []) (Answers UnitV (Some (TextV (codes "ab"))) ∷ Answers (TextV (codes "b")) None ∷ Answers (ArrayV (values ((IntV (pos 9223372036854775807)) ∷ (CharV 98) ∷ (BoolV true) ∷ []))) None ∷ Answers (CharV 98) (Some (BoolV false)) ∷ Answers (CharV 98) None ∷ []) (binding (codes "ns::a") (IntV (pos 5)) ∷ binding (codes "ns::x") (IntV (negsuc 9223372036854775807)) ∷ [])) ((function (Some (codes "()")) (codes "f") [] ((Return true false (an_expr ThisPtr)) ∷ [])) ∷ []) ((Var true false (codes "a") (DynamicConstant (ArrayV (values ((MapV (field (codes "a") (RangeInclusiveV (pos 2) (pos 5)) (field (codes "k") (CharV 97) no_fields))) ∷ (MapV (field (codes "b") (ArrayV (values ((IntV (pos 2)) ∷ (IntV (pos 63)) ∷ (TextV (codes "a")) ∷ []))) no_fields)) ∷ (ArrayV (values ((IntV (pos 63)) ∷ []))) ∷ []))))) ∷ (Var false false (codes "m") (DynamicConstant (TextV (codes "a")))) ∷ (Var false false (codes "x") (DynamicConstant (MapV (field (codes "a") (ArrayV (values (UnitV ∷ UnitV ∷ (CharV 97) ∷ []))) (field (codes "b") (ArrayV (values ((MapV (field (codes "b") UnitV no_fields)) ∷ (TextV (codes "f")) ∷ []))) no_fields))))) ∷ (Assignment (Some Minus) (Index (flags true true) (Variable [] (codes "m")) (BlockExpr (stmts ((ExprStmt (StringConstant (codes "a"))) ∷ [])))) (BlockExpr (stmts ((ExprStmt (FnCall (callee [] (codes "..") false (OfOperator UpTo)) (exprs (UnitConstant ∷ (IntegerConstant (pos 1)) ∷ [])))) ∷ [])))) ∷ (Var false false (codes "x") (Dot (flags false false) (Variable [] (codes "a")) (Index (flags false true) (MethodCall (callee [] (codes "call") false NoToken) (exprs ((Variable [] (codes "m")) ∷ []))) (StringConstant (codes "b"))))) ∷ []) AtStatements (entry (codes "a") true (RangeInclusiveV (pos 1) (pos 4)) ∷ entry (codes "x") true (BoolV true) ∷ entry (codes "x") true (BoolV true) ∷ []) 1 ≡ ends (WithStuck WrongKind) (entry (codes "x") true (BoolV true) ∷ entry (codes "x") true (BoolV true) ∷ entry (codes "a") true (RangeInclusiveV (pos 1) (pos 4)) ∷ entry (codes "a") true (ArrayV (values ((MapV (field (codes "a") (RangeInclusiveV (pos 2) (pos 5)) (field (codes "k") (CharV 97) no_fields))) ∷ (MapV (field (codes "b") (ArrayV (values ((IntV (pos 2)) ∷ (IntV (pos 63)) ∷ (TextV (codes "a")) ∷ []))) no_fields)) ∷ (ArrayV (values ((IntV (pos 63)) ∷ []))) ∷ []))) ∷ entry (codes "m") false (TextV (codes "a")) ∷ entry (codes "x") false (MapV (field (codes "a") (ArrayV (values (UnitV ∷ UnitV ∷ (CharV 97) ∷ []))) (field (codes "b") (ArrayV (values ((MapV (field (codes "b") UnitV no_fields)) ∷ (TextV (codes "f")) ∷ []))) no_fields))) ∷ []) None (asked (Some (TextV (codes "a"))) (codes "index$get$") ((TextV (codes "a")) ∷ []) ∷ asked None (codes "-") (UnitV ∷ (RangeV (pos 0) (pos 1)) ∷ []) ∷ asked (Some (TextV (codes "a"))) (codes "index$set$") ((TextV (codes "a")) ∷ (TextV (codes "b")) ∷ []) ∷ []) 1
unfolding ran
chains_9101903 = refl

-- let m = false
-- const a = <#{"a": 0..1}>
-- let m = true
-- const y = a
-- const y = <#{}>
-- const x = 'z'
-- if >(-9223372036854775808, 0) { const c = <2..1> } else { do { block { let a = <[[1], [2]]>; Index(a, Index!(1, { a = <5>; 0 })) }; false } until m; switch 'a' {  | 0..=2: 1 | default - | true => true, true => <"é"> } }
-- while ==(false, 'a') {}
-- fn k() { y }
flow_9200423 : ran (engine (binding (codes "y") UnitV ∷ binding (codes "a") (CharV 97) ∷ []) (override (codes "**") ((codes "range") ∷ (codes "()") ∷ []) ∷ override (codes "-=") ((codes "i64") ∷ (codes "i64") ∷ []) ∷ override (codes ">>") ((codes "array") ∷ []) ∷ []) [] false) (host [] [] (binding (codes "ns::a") (IntV (pos 5)) ∷ binding (codes "ns::x") (CharV 98) ∷ [])) ((function None (codes "k") [] ((ExprStmt (Variable [] (codes "y"))) ∷ [])) ∷ []) ((Var false false (codes "m") (BoolConstant false)) ∷ (Var true false (codes "a") (DynamicConstant (MapV (field (codes "a") (RangeV (pos 0) (pos 1)) no_fields)))) ∷ (Var false false (codes "m") (BoolConstant true)) ∷ (Var true false (codes "y") (Variable [] (codes "a"))) ∷ (Var true false (codes "y") (DynamicConstant (MapV no_fields))) ∷ (Var true false (codes "x") (CharConstant 122)) ∷ (If (FnCall (callee [] (codes ">") false (OfOperator Greater)) (exprs ((IntegerConstant (negsuc 9223372036854775807)) ∷ (IntegerConstant (pos 0)) ∷ []))) (stmts ((Var true false (codes "c") (DynamicConstant (RangeV (pos 2) (pos 1)))) ∷ [])) (stmts ((Do true false (Variable [] (codes "m")) (stmts ((Block (stmts ((Var false false (codes "a") (DynamicConstant (ArrayV (values ((ArrayV (values ((IntV (pos 1)) ∷ []))) ∷ (ArrayV (values ((IntV (pos 2)) ∷ []))) ∷ []))))) ∷ (ExprStmt (Index (flags false false) (Variable [] (codes "a")) (Index (flags false true) (IntegerConstant (pos 1)) (BlockExpr (stmts ((Assignment None (Variable [] (codes "a")) (DynamicConstant (IntV (pos 5)))) ∷ (ExprStmt (IntegerConstant (pos 0))) ∷ [])))))) ∷ []))) ∷ (ExprStmt (BoolConstant false)) ∷ []))) ∷ (Switch (CharConstant 97) (arm (BoolConstant true) (BoolConstant true) (arm (BoolConstant true) (DynamicConstant (TextV (195 ∷ 169 ∷ []))) no_arms)) (table [] (record { range = InclusiveInt (pos 0) (pos 2); arm = 1 } ∷ []) None)) ∷ []))) ∷ (While (FnCall (callee [] (codes "==") false (OfOperator EqualTo)) (exprs ((BoolConstant false) ∷ (CharConstant 97) ∷ []))) (stmts [])) ∷ []) AtStatements (entry (codes "a") false (IntV (pos 1)) ∷ []) 3 ≡ ends (WithStuck NoPlace) (entry (codes "a") false (IntV (pos 1)) ∷ entry (codes "m") false (BoolV false) ∷ entry (codes "a") true (MapV (field (codes "a") (RangeV (pos 0) (pos 1)) no_fields)) ∷ entry (codes "m") false (BoolV true) ∷ entry (codes "y") true (MapV (field (codes "a") (RangeV (pos 0) (pos 1)) no_fields)) ∷ entry (codes "y") true (MapV no_fields) ∷ entry (codes "x") true (CharV 122) ∷ []) None [] 2
unfolding ran
flow_9200423 = refl

-- let c = <'z'>
-- let x = 9223372036854775807
-- do { while true { print(ns::q) } } while { false }
-- x -= ""
-- fn g(a) { if true { throw } else {} }
-- fn k() { y }
flow_9202980 : ran (engine (binding (codes "m") (IntV (negsuc 9223372036854775807)) ∷ binding (codes "q") (ArrayV (values ((CharV 122) ∷ (CharV 122) ∷ (CharV 233) ∷ []))) ∷ []) (override (codes "&=") ((codes "i64") ∷ (codes "i64") ∷ []) ∷ override (codes "**") ((codes "i64") ∷ []) ∷ override (codes "**") ((codes "i64") ∷ (codes "i64") ∷ []) ∷ override (codes "**=") ((codes "bool") ∷ (codes "char") ∷ []) ∷ override (codes "**=") ((codes "string") ∷ []) ∷ override (codes "<<") ((codes "i64") ∷ (codes "i64") ∷ []) ∷ override (codes "==") ((codes "map") ∷ (codes "Fn") ∷ []) ∷ override (codes ">=") ((codes "i64") ∷ (codes "char") ∷ []) ∷ override (codes "^=") ((codes "Fn") ∷ []) ∷ []) [] false) (host (named (codes "+") (Answers UnitV (Some (IntV (pos 2))) ∷ Answers (IntV (pos 3)) None ∷ Answers (MapV no_fields) (Some (PointerV (codes "f") (values ((TextV (codes "")) ∷ [])))) ∷ Answers (ArrayV (values ((TextV (195 ∷ 169 ∷ [])) ∷ (IntV (pos 2)) ∷ []))) None ∷ Answers (IntV (negsuc 9223372036854775807)) (Some (PointerV (codes "h") (values []))) ∷ []) ∷ []) [] (binding (codes "ns::a") (IntV (pos 5)) ∷ binding (codes "ns::x") (PointerV (codes "h") (values [])) ∷ [])) ((function None (codes "g") ((codes "a") ∷ []) ((If (BoolConstant true) (stmts ((Return true false no_expr) ∷ [])) (stmts [])) ∷ [])) ∷ (function None (codes "k") [] ((ExprStmt (Variable [] (codes "y"))) ∷ [])) ∷ []) ((Var false false (codes "c") (DynamicConstant (CharV 122))) ∷ (Var false false (codes "x") (IntegerConstant (pos 9223372036854775807))) ∷ (Do false false (BlockExpr (stmts ((ExprStmt (BoolConstant false)) ∷ []))) (stmts ((While (BoolConstant true) (stmts ((ExprStmt (FnCall (callee [] (codes "print") false NoToken) (exprs ((Variable ((codes "ns") ∷ []) (codes "q")) ∷ [])))) ∷ []))) ∷ []))) ∷ (Assignment (Some Minus) (Variable [] (codes "x")) (StringConstant (codes ""))) ∷ []) AtStatements [] 5 ≡ ends (WithStuck Unbound) (entry (codes "c") false (CharV 122) ∷ entry (codes "x") false (IntV (pos 9223372036854775807)) ∷ []) None [] 3
unfolding ran
flow_9202980 = refl

-- const y = "b"
-- let a = <false>
-- let a = "é"
-- let b = 'é'
-- this -= { "é"; block { let y = 7; print(k()) }; <Fn(g)> }
-- block { let a = y }
-- return [ns::a, ()]
-- fn k() { y }
full_9003674 : ran (engine [] (override (codes "-") ((codes "array") ∷ (codes "bool") ∷ []) ∷ override (codes "-") ((codes "array") ∷ (codes "i64") ∷ []) ∷ override (codes "-=") ((codes "()") ∷ (codes "i64") ∷ []) ∷ override (codes ">>=") ((codes "i64") ∷ []) ∷ override (codes ">>=") ((codes "i64") ∷ (codes "i64") ∷ []) ∷ []) (renamed (codes "i64") (codes "int") ∷ []) false) (host [] (Answers (MapV (field (codes "a") (IntV (pos 1)) no_fields)) None ∷ Answers (MapV (field (codes "a") (TextV (codes "b")) no_fields)) (Some (ArrayV (values ((IntV (pos 3)) ∷ UnitV ∷ [])))) ∷ AnswersThrow (CharV 122) ∷ Answers (CharV 97) (Some UnitV) ∷ []) (binding (codes "ns::a") (IntV (pos 5)) ∷ binding (codes "ns::x") UnitV ∷ [])) ((function None (codes "k") [] ((ExprStmt (Variable [] (codes "y"))) ∷ [])) ∷ []) ((Var true false (codes "y") (StringConstant (codes "b"))) ∷ (Var false false (codes "a") (DynamicConstant (BoolV false))) ∷ (Var false false (codes "a") (StringConstant (195 ∷ 169 ∷ []))) ∷ (Var false false (codes "b") (CharConstant 233)) ∷ (Assignment (Some Minus) ThisPtr (BlockExpr (stmts ((ExprStmt (StringConstant (195 ∷ 169 ∷ []))) ∷ (Block (stmts ((Var false false (codes "y") (IntegerConstant (pos 7))) ∷ (ExprStmt (FnCall (callee [] (codes "print") false NoToken) (exprs ((FnCall (callee [] (codes "k") false NoToken) (exprs [])) ∷ [])))) ∷ []))) ∷ (ExprStmt (DynamicConstant (PointerV (codes "g") (values [])))) ∷ [])))) ∷ (Block (stmts ((Var false false (codes "a") (Variable [] (codes "y"))) ∷ []))) ∷ (Return false false (an_expr (ArrayOf (exprs ((Variable ((codes "ns") ∷ []) (codes "a")) ∷ UnitConstant ∷ []))))) ∷ []) AtStatements (entry (codes "b") true (BoolV true) ∷ entry (codes "y") false (PointerV (codes "h") (values [])) ∷ []) 1 ≡ ends (WithStuck Unbound) (entry (codes "y") false (PointerV (codes "h") (values [])) ∷ entry (codes "b") true (BoolV true) ∷ entry (codes "y") true (TextV (codes "b")) ∷ entry (codes "a") false (BoolV false) ∷ entry (codes "a") false (TextV (195 ∷ 169 ∷ [])) ∷ entry (codes "b") false (CharV 233) ∷ []) None [] 0
unfolding ran
full_9003674 = refl

-- const m = "a"
-- let x = ()
-- if { this += 1 } { switch x { -2:  |  | default 1 | true => false, true => x }; block { () }; const y = 'b' } else {}
-- fn k() { y }
full_9002841 : ran (engine (binding (codes "m") (ArrayV (values ((TextV (codes "ab")) ∷ (BoolV true) ∷ []))) ∷ []) (override (codes "+=") ((codes "i64") ∷ (codes "i64") ∷ []) ∷ []) (renamed (codes "i64") (codes "int") ∷ []) false) (host (named (codes "h") (Answers (CharV 98) (Some (TextV (codes ""))) ∷ Answers (RangeInclusiveV (pos 0) (pos 2)) None ∷ Answers (IntV (negsuc 0)) (Some (IntV (negsuc 1))) ∷ Answers UnitV None ∷ AnswersThrow (MapV no_fields) ∷ []) ∷ named (codes "g") [] ∷ []) (AnswersThrow (ArrayV (values ((TextV (195 ∷ 169 ∷ [])) ∷ []))) ∷ Answers (MapV no_fields) None ∷ []) (binding (codes "ns::a") (IntV (pos 5)) ∷ binding (codes "ns::x") (TextV (codes "a")) ∷ [])) ((function None (codes "k") [] ((ExprStmt (Variable [] (codes "y"))) ∷ [])) ∷ []) ((Var true false (codes "m") (StringConstant (codes "a"))) ∷ (Var false false (codes "x") UnitConstant) ∷ (If (BlockExpr (stmts ((Assignment (Some Plus) ThisPtr (IntegerConstant (pos 1))) ∷ []))) (stmts ((Switch (Variable [] (codes "x")) (arm (BoolConstant true) (BoolConstant false) (arm (BoolConstant true) (Variable [] (codes "x")) no_arms)) (table (case (IntV (negsuc 1)) [] ∷ []) [] (Some 1))) ∷ (Block (stmts ((ExprStmt UnitConstant) ∷ []))) ∷ (Var true false (codes "y") (CharConstant 98)) ∷ [])) (stmts [])) ∷ []) AtStatements [] 0 ≡ ends (WithStuck UnboundThis) (entry (codes "m") true (TextV (codes "a")) ∷ entry (codes "x") false UnitV ∷ []) None [] 0
unfolding ran
full_9002841 = refl

-- let x = <Fn(g)>
-- const x = "f"
-- const y = x
-- let y = x
-- const y = <false>
-- if <(3, 63) { let x = 9223372036854775806; Index(x, Index?(<'b'>, Index!(2, y))) += x; for b in y { true } } else {}
-- fn map.h(a) { return text(()) }
-- fn push() { switch y {  | 1..1: 0 | default - | true => 'é', >(3, -2) => -9223372036854775808, true => <"f">, true => -1 }; noop; if { false; true } { <7>; 9223372036854775807 } else {} }
full_9003138 : ran (engine (binding (codes "y") (ArrayV (values (UnitV ∷ []))) ∷ binding (codes "c") UnitV ∷ []) (override (codes "!") ((codes "i64") ∷ (codes "i64") ∷ []) ∷ override (codes "*") ((codes "char") ∷ (codes "()") ∷ []) ∷ override (codes "**") ((codes "i64") ∷ (codes "i64") ∷ []) ∷ override (codes "**=") ((codes "char") ∷ (codes "Fn") ∷ []) ∷ override (codes "+=") ((codes "i64") ∷ (codes "i64") ∷ []) ∷ override (codes "/=") ((codes "range=") ∷ []) ∷ override (codes ">=") ((codes "i64") ∷ (codes "string") ∷ []) ∷ override (codes ">>") ((codes "i64") ∷ []) ∷ override (codes "^") ((codes "range=") ∷ []) ∷ []) [] false) (host (named (codes "get$a") (Answers (IntV (negsuc 1)) None ∷ Answers (IntV (pos 3)) None ∷ AnswersThrow (MapV (field (codes "b") (IntV (pos 3)) no_fields)) ∷ Answers (IntV (pos 9223372036854775806)) None ∷ Answers (CharV 97) None ∷ []) ∷ []) [] (binding (codes "ns::a") (IntV (pos 5)) ∷ binding (codes "ns::x") (CharV 122) ∷ [])) ((function (Some (codes "map")) (codes "h") ((codes "a") ∷ []) ((Return false false (an_expr (InterpolatedString (exprs (UnitConstant ∷ []))))) ∷ [])) ∷ (function None (codes "push") [] ((Switch (Variable [] (codes "y")) (arm (BoolConstant true) (CharConstant 233) (arm (FnCall (callee [] (codes ">") false (OfOperator Greater)) (exprs ((IntegerConstant (pos 3)) ∷ (IntegerConstant (negsuc 1)) ∷ []))) (IntegerConstant (negsuc 9223372036854775807)) (arm (BoolConstant true) (DynamicConstant (TextV (codes "f"))) (arm (BoolConstant true) (IntegerConstant (negsuc 0)) no_arms)))) (table [] (record { range = ExclusiveInt (pos 1) (pos 1); arm = 0 } ∷ []) None)) ∷ Noop ∷ (If (BlockExpr (stmts ((ExprStmt (BoolConstant false)) ∷ (ExprStmt (BoolConstant true)) ∷ []))) (stmts ((ExprStmt (DynamicConstant (IntV (pos 7)))) ∷ (ExprStmt (IntegerConstant (pos 9223372036854775807))) ∷ [])) (stmts [])) ∷ [])) ∷ []) ((Var false false (codes "x") (DynamicConstant (PointerV (codes "g") (values [])))) ∷ (Var true false (codes "x") (StringConstant (codes "f"))) ∷ (Var true false (codes "y") (Variable [] (codes "x"))) ∷ (Var false false (codes "y") (Variable [] (codes "x"))) ∷ (Var true false (codes "y") (DynamicConstant (BoolV false))) ∷ (If (FnCall (callee [] (codes "<") false (OfOperator Less)) (exprs ((IntegerConstant (pos 3)) ∷ (IntegerConstant (pos 63)) ∷ []))) (stmts ((Var false false (codes "x") (IntegerConstant (pos 9223372036854775806))) ∷ (Assignment (Some Plus) (Index (flags false false) (Variable [] (codes "x")) (Index (flags true false) (DynamicConstant (CharV 98)) (Index (flags false true) (IntegerConstant (pos 2)) (Variable [] (codes "y"))))) (Variable [] (codes "x"))) ∷ (For (codes "b") None (Variable [] (codes "y")) (stmts ((ExprStmt (BoolConstant true)) ∷ []))) ∷ [])) (stmts [])) ∷ []) AtStatements (entry (codes "c") true (BoolV false) ∷ entry (codes "m") false (IntV (pos 7)) ∷ entry (codes "x") true (ArrayV (values ((IntV (pos 7)) ∷ (BoolV false) ∷ (BoolV true) ∷ []))) ∷ []) 1 ≡ ends (WithStuck WrongKind) (entry (codes "x") true (ArrayV (values ((IntV (pos 7)) ∷ (BoolV false) ∷ (BoolV true) ∷ []))) ∷ entry (codes "m") false (IntV (pos 7)) ∷ entry (codes "c") true (BoolV false) ∷ entry (codes "x") false (PointerV (codes "g") (values [])) ∷ entry (codes "x") true (TextV (codes "f")) ∷ entry (codes "y") true (TextV (codes "f")) ∷ entry (codes "y") false (TextV (codes "f")) ∷ entry (codes "y") true (BoolV false) ∷ []) None (asked (Some (IntV (pos 9223372036854775806))) (codes "index$get$") ((CharV 98) ∷ []) ∷ []) 1
unfolding ran
full_9003138 = refl

-- const a = 2
-- try { loop { break }; noop; try { "ab"; throw 7 } catch { 0; () }; throw 'a' } catch { if { (); (); <"ab">; true } { "" } else {} }
-- a |= 1
-- fn f() { call f(-9223372036854775808); let x = 'z'; x }
-- fn array.push(c) { try { -2; (); throw <7> } catch { "f"; 1; "a" }; return () }
full_9001809 : ran (engine [] (override (codes "|") ((codes "i64") ∷ (codes "i64") ∷ []) ∷ override (codes "|=") ((codes "array") ∷ (codes "i64") ∷ []) ∷ []) (renamed (codes "array") (codes "list") ∷ renamed (codes "map") (codes "object") ∷ []) false) (host (named (codes "f") (Answers (PointerV (codes "g") (values [])) None ∷ Answers (MapV no_fields) (Some (IntV (negsuc 0))) ∷ []) ∷ []) (Answers (ArrayV (values [])) (Some (IntV (pos 9223372036854775806))) ∷ Answers (IntV (pos 2)) (Some UnitV) ∷ Answers (TextV (codes "")) None ∷ AnswersThrow (RangeV (negsuc 1) (pos 1)) ∷ Answers (IntV (pos 9223372036854775807)) None ∷ []) (binding (codes "ns::a") (IntV (pos 5)) ∷ binding (codes "ns::x") (RangeV (pos 3) (pos 2)) ∷ [])) ((function None (codes "f") [] ((FnCallStmt (callee [] (codes "f") false NoToken) (exprs ((IntegerConstant (negsuc 9223372036854775807)) ∷ []))) ∷ (Var false false (codes "x") (CharConstant 122)) ∷ (ExprStmt (Variable [] (codes "x"))) ∷ [])) ∷ (function (Some (codes "array")) (codes "push") ((codes "c") ∷ []) ((TryCatch UnitConstant (stmts ((ExprStmt (IntegerConstant (negsuc 1))) ∷ (ExprStmt UnitConstant) ∷ (Return true false (an_expr (DynamicConstant (IntV (pos 7))))) ∷ [])) (stmts ((ExprStmt (StringConstant (codes "f"))) ∷ (ExprStmt (IntegerConstant (pos 1))) ∷ (ExprStmt (StringConstant (codes "a"))) ∷ []))) ∷ (Return false false (an_expr UnitConstant)) ∷ [])) ∷ []) ((Var true false (codes "a") (IntegerConstant (pos 2))) ∷ (TryCatch UnitConstant (stmts ((While UnitConstant (stmts ((BreakLoop true false no_expr) ∷ []))) ∷ Noop ∷ (TryCatch UnitConstant (stmts ((ExprStmt (StringConstant (codes "ab"))) ∷ (Return true false (an_expr (IntegerConstant (pos 7)))) ∷ [])) (stmts ((ExprStmt (IntegerConstant (pos 0))) ∷ (ExprStmt UnitConstant) ∷ []))) ∷ (Return true false (an_expr (CharConstant 97))) ∷ [])) (stmts ((If (BlockExpr (stmts ((ExprStmt UnitConstant) ∷ (ExprStmt UnitConstant) ∷ (ExprStmt (DynamicConstant (TextV (codes "ab")))) ∷ (ExprStmt (BoolConstant true)) ∷ []))) (stmts ((ExprStmt (StringConstant (codes ""))) ∷ [])) (stmts [])) ∷ []))) ∷ (Assignment (Some BitOr) (Variable [] (codes "a")) (IntegerConstant (pos 1))) ∷ []) AtStatements (entry (codes "c") false (IntV (pos 9223372036854775807)) ∷ entry (codes "b") true (CharV 233) ∷ entry (codes "y") true UnitV ∷ []) 1 ≡ ends (WithStuck WriteToConstant) (entry (codes "y") true UnitV ∷ entry (codes "b") true (CharV 233) ∷ entry (codes "c") false (IntV (pos 9223372036854775807)) ∷ entry (codes "a") true (IntV (pos 2)) ∷ []) None (asked None (codes "|") ((IntV (pos 2)) ∷ (IntV (pos 1)) ∷ []) ∷ []) 0
unfolding ran
full_9001809 = refl

-- const a = b
-- a += Dot(a, h())
-- block { if { (); true } {} else {}; do { "é"; 'b'; <Fn(g)> } until true }
flow_9201138 : ran (engine (binding (codes "y") (CharV 122) ∷ binding (codes "y") (TextV (codes "ab")) ∷ []) [] [] false) (host (named (codes "index$get$") (Answers (IntV (negsuc 9223372036854775807)) None ∷ Answers (MapV (field (codes "a") (IntV (pos 2)) (field (codes "b") (BoolV true) no_fields))) None ∷ Answers (TextV (codes "a")) (Some (IntV (pos 63))) ∷ Answers (CharV 122) None ∷ Answers (CharV 98) None ∷ []) ∷ named (codes "+") (Answers (PointerV (codes "g") (values [])) None ∷ Answers (MapV (field (codes "a") (IntV (pos 63)) no_fields)) None ∷ []) ∷ []) (Answers (RangeV (pos 1) (pos 0)) (Some (BoolV true)) ∷ Answers (IntV (pos 9223372036854775807)) None ∷ Answers (ArrayV (values ((IntV (pos 7)) ∷ (IntV (pos 7)) ∷ []))) None ∷ Answers (ArrayV (values [])) (Some (BoolV true)) ∷ []) (binding (codes "ns::a") (IntV (pos 5)) ∷ binding (codes "ns::x") (RangeV (pos 1) (pos 0)) ∷ [])) [] ((Var true false (codes "a") (Variable [] (codes "b"))) ∷ (Assignment (Some Plus) (Variable [] (codes "a")) (Dot (flags false false) (Variable [] (codes "a")) (MethodCall (callee [] (codes "h") false NoToken) (exprs [])))) ∷ (Block (stmts ((If (BlockExpr (stmts ((ExprStmt UnitConstant) ∷ (ExprStmt (BoolConstant true)) ∷ []))) (stmts []) (stmts [])) ∷ (Do true false (BoolConstant true) (stmts ((ExprStmt (StringConstant (195 ∷ 169 ∷ []))) ∷ (ExprStmt (CharConstant 98)) ∷ (ExprStmt (DynamicConstant (PointerV (codes "g") (values [])))) ∷ []))) ∷ []))) ∷ []) AtStatements (entry (codes "y") true UnitV ∷ entry (codes "y") false (IntV (negsuc 1)) ∷ entry (codes "b") true (TextV (195 ∷ 169 ∷ [])) ∷ []) 1 ≡ ends (WithStuck WriteToConstant) (entry (codes "b") true (TextV (195 ∷ 169 ∷ [])) ∷ entry (codes "y") false (IntV (negsuc 1)) ∷ entry (codes "y") true UnitV ∷ entry (codes "a") true (TextV (195 ∷ 169 ∷ [])) ∷ []) None (asked (Some (TextV (195 ∷ 169 ∷ []))) (codes "h") [] ∷ []) 1
unfolding ran
flow_9201138 = refl

-- let x = y
-- do { try { this += 1; throw } catch b { () } } until true
-- fn k() { y }
flow_9200466 : ran (engine [] (override (codes "!") ((codes "i64") ∷ (codes "i64") ∷ []) ∷ override (codes "**") ((codes "i64") ∷ (codes "i64") ∷ []) ∷ override (codes "*=") ((codes "range=") ∷ []) ∷ override (codes "..") ((codes "Fn") ∷ []) ∷ override (codes "/=") ((codes "string") ∷ (codes "char") ∷ []) ∷ override (codes "<=") ((codes "i64") ∷ []) ∷ override (codes "^=") ((codes "array") ∷ (codes "char") ∷ []) ∷ override (codes "|=") ((codes "i64") ∷ (codes "()") ∷ []) ∷ override (codes "|=") ((codes "i64") ∷ (codes "i64") ∷ []) ∷ []) (renamed (codes "i64") (codes "int") ∷ []) false) (host (named (codes "h") (Answers (PointerV (codes "h") (values [])) None ∷ Answers (ArrayV (values ((CharV 97) ∷ []))) (Some UnitV) ∷ []) ∷ []) (Answers (CharV 233) None ∷ Answers (MapV (field (codes "b") (IntV (pos 2)) no_fields)) (Some (BoolV false)) ∷ Answers (ArrayV (values ((TextV (codes "b")) ∷ (IntV (negsuc 9223372036854775807)) ∷ (CharV 233) ∷ []))) (Some (PointerV (codes "h") (values []))) ∷ Answers UnitV None ∷ []) (binding (codes "ns::a") (IntV (pos 5)) ∷ binding (codes "ns::x") (RangeV (pos 0) (pos 0)) ∷ [])) ((function None (codes "k") [] ((ExprStmt (Variable [] (codes "y"))) ∷ [])) ∷ []) ((Var false false (codes "x") (Variable [] (codes "y"))) ∷ (Do true false (BoolConstant true) (stmts ((TryCatch (Variable [] (codes "b")) (stmts ((Assignment (Some Plus) ThisPtr (IntegerConstant (pos 1))) ∷ (Return true false no_expr) ∷ [])) (stmts ((ExprStmt UnitConstant) ∷ []))) ∷ []))) ∷ []) AtStatements (entry (codes "m") false (MapV (field (codes "a") (IntV (negsuc 1)) (field (codes "k") (IntV (pos 64)) no_fields))) ∷ entry (codes "b") true (IntV (pos 63)) ∷ entry (codes "y") false (MapV (field (codes "b") (IntV (negsuc 0)) (field (codes "k") (IntV (pos 9223372036854775807)) no_fields))) ∷ []) 5 ≡ ends (WithStuck UnboundThis) (entry (codes "y") false (MapV (field (codes "b") (IntV (negsuc 0)) (field (codes "k") (IntV (pos 9223372036854775807)) no_fields))) ∷ entry (codes "b") true (IntV (pos 63)) ∷ entry (codes "m") false (MapV (field (codes "a") (IntV (negsuc 1)) (field (codes "k") (IntV (pos 64)) no_fields))) ∷ entry (codes "x") false (MapV (field (codes "b") (IntV (negsuc 0)) (field (codes "k") (IntV (pos 9223372036854775807)) no_fields))) ∷ []) None [] 4
unfolding ran
flow_9200466 = refl

-- true
-- call |(/(-1, 2), {})
-- fn g(a) { block { 7; 0; () }; call g(<"b">, <[true, -2]>) }
small_functions_9300410 : ran (engine [] [] [] false) (host (named (codes "g") (Answers (CharV 97) None ∷ []) ∷ []) (AnswersThrow (CharV 98) ∷ []) (binding (codes "ns::a") (IntV (pos 5)) ∷ binding (codes "ns::x") (TextV (codes "ab")) ∷ [])) ((function None (codes "g") ((codes "a") ∷ []) ((Block (stmts ((ExprStmt (IntegerConstant (pos 7))) ∷ (ExprStmt (IntegerConstant (pos 0))) ∷ (ExprStmt UnitConstant) ∷ []))) ∷ (FnCallStmt (callee [] (codes "g") false NoToken) (exprs ((DynamicConstant (TextV (codes "b"))) ∷ (DynamicConstant (ArrayV (values ((BoolV true) ∷ (IntV (negsuc 1)) ∷ [])))) ∷ []))) ∷ [])) ∷ []) ((ExprStmt (BoolConstant true)) ∷ (FnCallStmt (callee [] (codes "|") false (OfOperator BitOr)) (exprs ((FnCall (callee [] (codes "/") false (OfOperator Divide)) (exprs ((IntegerConstant (negsuc 0)) ∷ (IntegerConstant (pos 2)) ∷ []))) ∷ (BlockExpr (stmts [])) ∷ []))) ∷ []) AtStatements [] 0 ≡ ends (WithThrown (CharV 98)) [] None (asked None (codes "|") ((IntV (pos 0)) ∷ UnitV ∷ []) ∷ []) 0
unfolding ran
small_functions_9300410 = refl

-- call <=(false, false)
-- fn g(a) { if { (); 7; ..(1, ()); false } { 63 } else {}; block { 63; -9223372036854775808; () }; block { "a"; <-1> } }
small_functions_9300612 : ran (engine (binding (codes "y") (BoolV false) ∷ binding (codes "a") (IntV (negsuc 9223372036854775807)) ∷ []) (override (codes "%") ((codes "array") ∷ (codes "()") ∷ []) ∷ override (codes "**") ((codes "()") ∷ []) ∷ override (codes "/") ((codes "i64") ∷ (codes "i64") ∷ []) ∷ []) [] true) (host (named (codes "f") [] ∷ []) [] (binding (codes "ns::a") (IntV (pos 5)) ∷ binding (codes "ns::x") (IntV (pos 9223372036854775807)) ∷ [])) ((function None (codes "g") ((codes "a") ∷ []) ((If (BlockExpr (stmts ((ExprStmt UnitConstant) ∷ (ExprStmt (IntegerConstant (pos 7))) ∷ (ExprStmt (FnCall (callee [] (codes "..") false (OfOperator UpTo)) (exprs ((IntegerConstant (pos 1)) ∷ UnitConstant ∷ [])))) ∷ (ExprStmt (BoolConstant false)) ∷ []))) (stmts ((ExprStmt (IntegerConstant (pos 63))) ∷ [])) (stmts [])) ∷ (Block (stmts ((ExprStmt (IntegerConstant (pos 63))) ∷ (ExprStmt (IntegerConstant (negsuc 9223372036854775807))) ∷ (ExprStmt UnitConstant) ∷ []))) ∷ (Block (stmts ((ExprStmt (StringConstant (codes "a"))) ∷ (ExprStmt (DynamicConstant (IntV (negsuc 0)))) ∷ []))) ∷ [])) ∷ []) ((FnCallStmt (callee [] (codes "<=") false (OfOperator LessOrEqual)) (exprs ((BoolConstant false) ∷ (BoolConstant false) ∷ []))) ∷ []) (AtFunction (function_key (codes "g") 1 None) None ((ArrayV (values ((TextV (codes "b")) ∷ (IntV (pos 9223372036854775806)) ∷ (TextV (codes "f")) ∷ []))) ∷ [])) [] 2 ≡ ends (WithValue (IntV (negsuc 0))) [] None [] 1
unfolding ran
small_functions_9300612 = refl

-- [[], "f"]
-- if true { block { 'z'; "" }; call %(9223372036854775807, <3>) } else {}
-- if >(call(<Fn(k)>, 1), -1) {} else {}
small_functions_9300068 : ran (engine [] (override (codes "!=") ((codes "i64") ∷ (codes "i64") ∷ []) ∷ override (codes "**=") ((codes "()") ∷ []) ∷ override (codes "==") ((codes "array") ∷ (codes "char") ∷ []) ∷ []) [] false) (host (named (codes "index$get$") (Answers (CharV 98) (Some UnitV) ∷ Answers (TextV (codes "ab")) None ∷ []) ∷ named (codes "f") (Answers (BoolV false) None ∷ Answers (BoolV true) None ∷ Answers (TextV (195 ∷ 169 ∷ [])) None ∷ Answers (IntV (pos 3)) (Some (BoolV false)) ∷ []) ∷ []) [] (binding (codes "ns::a") (IntV (pos 5)) ∷ binding (codes "ns::x") (IntV (pos 9223372036854775806)) ∷ [])) [] ((ExprStmt (ArrayOf (exprs ((ArrayOf (exprs [])) ∷ (StringConstant (codes "f")) ∷ [])))) ∷ (If (BoolConstant true) (stmts ((Block (stmts ((ExprStmt (CharConstant 122)) ∷ (ExprStmt (StringConstant (codes ""))) ∷ []))) ∷ (FnCallStmt (callee [] (codes "%") false (OfOperator Modulo)) (exprs ((IntegerConstant (pos 9223372036854775807)) ∷ (DynamicConstant (IntV (pos 3))) ∷ []))) ∷ [])) (stmts [])) ∷ (If (FnCall (callee [] (codes ">") false (OfOperator Greater)) (exprs ((FnCall (callee [] (codes "call") false NoToken) (exprs ((DynamicConstant (PointerV (codes "k") (values (UnitV ∷ [])))) ∷ (IntegerConstant (pos 1)) ∷ []))) ∷ (IntegerConstant (negsuc 0)) ∷ []))) (stmts []) (stmts [])) ∷ []) AtStatements (entry (codes "x") true (CharV 97) ∷ entry (codes "m") false (TextV (codes "b")) ∷ entry (codes "m") true (ArrayV (values (UnitV ∷ (TextV (codes "ab")) ∷ UnitV ∷ []))) ∷ []) 5 ≡ ends (WithStuck WrongKind) (entry (codes "m") true (ArrayV (values (UnitV ∷ (TextV (codes "ab")) ∷ UnitV ∷ []))) ∷ entry (codes "m") false (TextV (codes "b")) ∷ entry (codes "x") true (CharV 97) ∷ []) None (asked None (codes "k") (UnitV ∷ (IntV (pos 1)) ∷ []) ∷ asked None (codes ">") (UnitV ∷ (IntV (negsuc 0)) ∷ []) ∷ []) 5
unfolding ran
small_functions_9300068 = refl

-- let m = ()
-- let m = ()
-- let m = <-2..=-3>
-- let c = m
-- for b in <2..1> { return 3 }
-- let x = m
-- m = +(m, Dot(#{a: 63, b: <3..6>}, Index!(a, 64)))
-- fn i64.f(c, c) { Index!(c, "k") &= -9223372036854775808; do { () } until { block { let a = <[[1], [2]]>; Index(a, Index!(1, { a = <5>; 0 })) } } }
-- fn g(x, c) { if <0> { 0; "f"; () } else {}; if { ""; false } { 'b'; 9223372036854775806; () } else {} }
-- fn k() { y }
full_9001316 : ran (engine (binding (codes "c") (IntV (negsuc 9223372036854775807)) ∷ binding (codes "x") (CharV 98) ∷ []) [] (renamed (codes "i64") (codes "int") ∷ []) false) (host (named (codes "index$get$") (Answers (RangeInclusiveV (negsuc 1) (negsuc 1)) (Some (BoolV true)) ∷ Answers (IntV (pos 7)) (Some (IntV (pos 0))) ∷ Answers (PointerV (codes "f") (values [])) (Some (IntV (pos 64))) ∷ AnswersThrow (IntV (pos 64)) ∷ Answers UnitV (Some (IntV (pos 0))) ∷ []) ∷ []) (Answers (RangeV (pos 0) (pos 3)) None ∷ Answers (RangeV (pos 3) (pos 2)) None ∷ []) (binding (codes "ns::a") (IntV (pos 5)) ∷ binding (codes "ns::x") (BoolV true) ∷ [])) ((function (Some (codes "i64")) (codes "f") ((codes "c") ∷ (codes "c") ∷ []) ((Assignment (Some BitAnd) (Index (flags false true) (Variable [] (codes "c")) (StringConstant (codes "k"))) (IntegerConstant (negsuc 9223372036854775807))) ∷ (Do true false (BlockExpr (stmts ((Block (stmts ((Var false false (codes "a") (DynamicConstant (ArrayV (values ((ArrayV (values ((IntV (pos 1)) ∷ []))) ∷ (ArrayV (values ((IntV (pos 2)) ∷ []))) ∷ []))))) ∷ (ExprStmt (Index (flags false false) (Variable [] (codes "a")) (Index (flags false true) (IntegerConstant (pos 1)) (BlockExpr (stmts ((Assignment None (Variable [] (codes "a")) (DynamicConstant (IntV (pos 5)))) ∷ (ExprStmt (IntegerConstant (pos 0))) ∷ [])))))) ∷ []))) ∷ []))) (stmts ((ExprStmt UnitConstant) ∷ []))) ∷ [])) ∷ (function None (codes "g") ((codes "x") ∷ (codes "c") ∷ []) ((If (DynamicConstant (IntV (pos 0))) (stmts ((ExprStmt (IntegerConstant (pos 0))) ∷ (ExprStmt (StringConstant (codes "f"))) ∷ (ExprStmt UnitConstant) ∷ [])) (stmts [])) ∷ (If (BlockExpr (stmts ((ExprStmt (StringConstant (codes ""))) ∷ (ExprStmt (BoolConstant false)) ∷ []))) (stmts ((ExprStmt (CharConstant 98)) ∷ (ExprStmt (IntegerConstant (pos 9223372036854775806))) ∷ (ExprStmt UnitConstant) ∷ [])) (stmts [])) ∷ [])) ∷ (function None (codes "k") [] ((ExprStmt (Variable [] (codes "y"))) ∷ [])) ∷ []) ((Var false false (codes "m") UnitConstant) ∷ (Var false false (codes "m") UnitConstant) ∷ (Var false false (codes "m") (DynamicConstant (RangeInclusiveV (negsuc 1) (negsuc 2)))) ∷ (Var false false (codes "c") (Variable [] (codes "m"))) ∷ (For (codes "b") None (DynamicConstant (RangeV (pos 2) (pos 1))) (stmts ((Return false false (an_expr (IntegerConstant (pos 3)))) ∷ []))) ∷ (Var false false (codes "x") (Variable [] (codes "m"))) ∷ (Assignment None (Variable [] (codes "m")) (FnCall (callee [] (codes "+") false (OfOperator Plus)) (exprs ((Variable [] (codes "m")) ∷ (Dot (flags false false) (MapOf (pair (codes "a") (IntegerConstant (pos 63)) (pair (codes "b") (DynamicConstant (RangeV (pos 3) (pos 6))) no_pairs)) ((codes "a") ∷ (codes "b") ∷ [])) (Index (flags false true) (property (codes "get$a") (codes "set$a") (codes "a")) (IntegerConstant (pos 64)))) ∷ [])))) ∷ []) AtStatements [] 1 ≡ ends (WithThrown (TextV (codes "bit bounds"))) (entry (codes "m") false UnitV ∷ entry (codes "m") false UnitV ∷ entry (codes "m") false (RangeInclusiveV (negsuc 1) (negsuc 2)) ∷ entry (codes "c") false (RangeInclusiveV (negsuc 1) (negsuc 2)) ∷ entry (codes "x") false (RangeInclusiveV (negsuc 1) (negsuc 2)) ∷ []) None [] 1
unfolding ran
full_9001316 = refl

-- let a = 63
-- switch Index([64], Dot?(0, Index?!(h(), -1))) { 2..=1: 2 0 | 0..3: 0, 2..3: 0 | default - | true => or(false, false), true => **((), ()), true => coalesce(a, ()) }
-- block { if { -9223372036854775808; 'é'; (); false } { 3; ""; 9223372036854775807 } else {}; a += "é"; try { "a" } catch { <true>; false; true } }
-- for b in <[9223372036854775807]> {}
flow_9201791 : ran (engine (binding (codes "x") (CharV 122) ∷ []) (override (codes "&=") ((codes "string") ∷ []) ∷ override (codes "+") ((codes "i64") ∷ (codes "i64") ∷ []) ∷ override (codes "+=") ((codes "array") ∷ (codes "i64") ∷ []) ∷ override (codes "..=") ((codes "i64") ∷ (codes "Fn") ∷ []) ∷ override (codes "/") ((codes "i64") ∷ []) ∷ override (codes "<<=") ((codes "()") ∷ []) ∷ override (codes "<<=") ((codes "bool") ∷ (codes "range") ∷ []) ∷ override (codes "==") ((codes "i64") ∷ (codes "i64") ∷ []) ∷ override (codes "==") ((codes "string") ∷ (codes "()") ∷ []) ∷ override (codes ">") ((codes "i64") ∷ (codes "i64") ∷ []) ∷ []) (renamed (codes "i64") (codes "int") ∷ []) true) (host (named (codes "f") (AnswersThrow (IntV (negsuc 1)) ∷ Answers (ArrayV (values [])) None ∷ []) ∷ []) [] (binding (codes "ns::a") (IntV (pos 5)) ∷ binding (codes "ns::x") (PointerV (codes "h") (values [])) ∷ [])) [] ((Var false false (codes "a") (IntegerConstant (pos 63))) ∷ (Switch (Index (flags false false) (ArrayOf (exprs ((IntegerConstant (pos 64)) ∷ []))) (Dot (flags true false) (IntegerConstant (pos 0)) (Index (flags true true) (MethodCall (callee [] (codes "h") false NoToken) (exprs [])) (IntegerConstant (negsuc 0))))) (arm (BoolConstant true) (Or (exprs ((BoolConstant false) ∷ (BoolConstant false) ∷ []))) (arm (BoolConstant true) (FnCall (callee [] (codes "**") false (OfOperator Power)) (exprs (UnitConstant ∷ UnitConstant ∷ []))) (arm (BoolConstant true) (Coalesce (exprs ((Variable [] (codes "a")) ∷ UnitConstant ∷ []))) no_arms))) (table (case (RangeInclusiveV (pos 2) (pos 1)) (2 ∷ 0 ∷ []) ∷ []) (record { range = ExclusiveInt (pos 0) (pos 3); arm = 0 } ∷ record { range = ExclusiveInt (pos 2) (pos 3); arm = 0 } ∷ []) None)) ∷ (Block (stmts ((If (BlockExpr (stmts ((ExprStmt (IntegerConstant (negsuc 9223372036854775807))) ∷ (ExprStmt (CharConstant 233)) ∷ (ExprStmt UnitConstant) ∷ (ExprStmt (BoolConstant false)) ∷ []))) (stmts ((ExprStmt (IntegerConstant (pos 3))) ∷ (ExprStmt (StringConstant (codes ""))) ∷ (ExprStmt (IntegerConstant (pos 9223372036854775807))) ∷ [])) (stmts [])) ∷ (Assignment (Some Plus) (Variable [] (codes "a")) (StringConstant (195 ∷ 169 ∷ []))) ∷ (TryCatch UnitConstant (stmts ((ExprStmt (StringConstant (codes "a"))) ∷ [])) (stmts ((ExprStmt (DynamicConstant (BoolV true))) ∷ (ExprStmt (BoolConstant false)) ∷ (ExprStmt (BoolConstant true)) ∷ []))) ∷ []))) ∷ (For (codes "b") None (DynamicConstant (ArrayV (values ((IntV (pos 9223372036854775807)) ∷ [])))) (stmts [])) ∷ []) AtStatements (entry (codes "b") false UnitV ∷ []) 2 ≡ ends (WithValue UnitV) (entry (codes "b") false UnitV ∷ entry (codes "a") false UnitV ∷ []) None (asked (Some (IntV (pos 64))) (codes "h") [] ∷ asked None (codes "+") ((IntV (pos 63)) ∷ (TextV (195 ∷ 169 ∷ [])) ∷ []) ∷ []) 1
unfolding ran
flow_9201791 = refl

-- block { call >=((), ()); call print(true, ()) }
-- if true { call **(false, true); [(), Fn("1a")] } else { noop; if false { "ab"; true } else {}; if { false } {} else {} }
-- noop
-- fn h(a) { block { (); false; false }; false }
small_functions_9300598 : ran (engine [] (override (codes "!=") ((codes "i64") ∷ (codes "i64") ∷ []) ∷ override (codes "%") ((codes "bool") ∷ (codes "range") ∷ []) ∷ override (codes ">=") ((codes "string") ∷ []) ∷ []) [] false) (host (named (codes "+") [] ∷ named (codes "get$a") (Answers UnitV None ∷ []) ∷ []) [] (binding (codes "ns::a") (IntV (pos 5)) ∷ binding (codes "ns::x") (CharV 122) ∷ [])) ((function None (codes "h") ((codes "a") ∷ []) ((Block (stmts ((ExprStmt UnitConstant) ∷ (ExprStmt (BoolConstant false)) ∷ (ExprStmt (BoolConstant false)) ∷ []))) ∷ (ExprStmt (BoolConstant false)) ∷ [])) ∷ []) ((Block (stmts ((FnCallStmt (callee [] (codes ">=") false (OfOperator GreaterOrEqual)) (exprs (UnitConstant ∷ UnitConstant ∷ []))) ∷ (FnCallStmt (callee [] (codes "print") false NoToken) (exprs ((BoolConstant true) ∷ UnitConstant ∷ []))) ∷ []))) ∷ (If (BoolConstant true) (stmts ((FnCallStmt (callee [] (codes "**") false (OfOperator Power)) (exprs ((BoolConstant false) ∷ (BoolConstant true) ∷ []))) ∷ (ExprStmt (ArrayOf (exprs (UnitConstant ∷ (FnCall (callee [] (codes "Fn") false NoToken) (exprs ((StringConstant (codes "1a")) ∷ []))) ∷ [])))) ∷ [])) (stmts (Noop ∷ (If (BoolConstant false) (stmts ((ExprStmt (StringConstant (codes "ab"))) ∷ (ExprStmt (BoolConstant true)) ∷ [])) (stmts [])) ∷ (If (BlockExpr (stmts ((ExprStmt (BoolConstant false)) ∷ []))) (stmts []) (stmts [])) ∷ []))) ∷ Noop ∷ []) (AtFunction (function_key (codes "h") 1 None) None ((TextV (195 ∷ 169 ∷ [])) ∷ [])) [] 0 ≡ ends WithoutTurns [] None [] 0
unfolding ran
small_functions_9300598 = refl

-- let b = "a"
-- "ab"
-- b += Dot(#{b: <Fn(g)>, k: b}, Dot(a, Index!(b, 2)))
-- do { switch <"f"> {  |  | default - | true => b } } until true
-- fn h(a, m) { call <<(a, "b"); if -2 {} else { 3 } }
-- fn array.h() { try { false; false; throw c } catch x { ..((), 1); 'a' }; return +(-1, "ab") }
full_9002622 : ran (engine [] (override (codes "!") ((codes "()") ∷ (codes "i64") ∷ []) ∷ override (codes "<<") ((codes "range") ∷ []) ∷ override (codes "<=") ((codes "i64") ∷ (codes "i64") ∷ []) ∷ []) [] false) (host (named (codes "g") (Answers (RangeV (pos 3) (pos 2)) (Some (IntV (pos 1))) ∷ Answers (IntV (pos 9223372036854775806)) None ∷ []) ∷ []) [] (binding (codes "ns::a") (IntV (pos 5)) ∷ binding (codes "ns::x") (PointerV (codes "g") (values [])) ∷ [])) ((function None (codes "h") ((codes "a") ∷ (codes "m") ∷ []) ((FnCallStmt (callee [] (codes "<<") false (OfOperator ShiftLeft)) (exprs ((Variable [] (codes "a")) ∷ (StringConstant (codes "b")) ∷ []))) ∷ (If (IntegerConstant (negsuc 1)) (stmts []) (stmts ((ExprStmt (IntegerConstant (pos 3))) ∷ []))) ∷ [])) ∷ (function (Some (codes "array")) (codes "h") [] ((TryCatch (Variable [] (codes "x")) (stmts ((ExprStmt (BoolConstant false)) ∷ (ExprStmt (BoolConstant false)) ∷ (Return true false (an_expr (Variable [] (codes "c")))) ∷ [])) (stmts ((ExprStmt (FnCall (callee [] (codes "..") false (OfOperator UpTo)) (exprs (UnitConstant ∷ (IntegerConstant (pos 1)) ∷ [])))) ∷ (ExprStmt (CharConstant 97)) ∷ []))) ∷ (Return false false (an_expr (FnCall (callee [] (codes "+") false (OfOperator Plus)) (exprs ((IntegerConstant (negsuc 0)) ∷ (StringConstant (codes "ab")) ∷ []))))) ∷ [])) ∷ []) ((Var false false (codes "b") (StringConstant (codes "a"))) ∷ (ExprStmt (StringConstant (codes "ab"))) ∷ (Assignment (Some Plus) (Variable [] (codes "b")) (Dot (flags false false) (MapOf (pair (codes "b") (DynamicConstant (PointerV (codes "g") (values ((CharV 97) ∷ [])))) (pair (codes "k") (Variable [] (codes "b")) no_pairs)) ((codes "b") ∷ (codes "k") ∷ [])) (Dot (flags false false) (property (codes "get$a") (codes "set$a") (codes "a")) (Index (flags false true) (property (codes "get$b") (codes "set$b") (codes "b")) (IntegerConstant (pos 2)))))) ∷ (Do true false (BoolConstant true) (stmts ((Switch (DynamicConstant (TextV (codes "f"))) (arm (BoolConstant true) (Variable [] (codes "b")) no_arms) (table [] [] None)) ∷ []))) ∷ []) AtStatements (entry (codes "a") true (TextV (codes "b")) ∷ []) 0 ≡ ends WithoutTurns (entry (codes "a") true (TextV (codes "b")) ∷ entry (codes "b") false UnitV ∷ []) None (asked (Some UnitV) (codes "get$b") [] ∷ asked (Some UnitV) (codes "index$get$") ((IntV (pos 2)) ∷ []) ∷ asked None (codes "+") ((TextV (codes "a")) ∷ UnitV ∷ []) ∷ []) 0
unfolding ran
full_9002622 = refl

-- let m = a
-- do { call f(); m = +(m, <Fn(g)>) } until { "é"; "ab"; false; false }
-- fn f() { c ^= Index(a, Index(-1, Dot?(false, g()))); block { if !=(c, 'a') {} else { true }; switch <-1> { true: , "é": , 3: 0 0 | 0..=4: 0, 1..4: 1 | default 2 | true => (), true => 63, true => <'é'> }; try { 9223372036854775806; (); "a"; throw 9223372036854775806 } catch x { () } } }
-- fn f(a) {}
flow_9202085 : ran (engine (binding (codes "c") (RangeInclusiveV (pos 2) (pos 3)) ∷ binding (codes "a") UnitV ∷ []) (override (codes "%=") ((codes "()") ∷ (codes "char") ∷ []) ∷ override (codes "-=") ((codes "char") ∷ []) ∷ override (codes "..") ((codes "i64") ∷ (codes "i64") ∷ []) ∷ override (codes "..=") ((codes "i64") ∷ (codes "i64") ∷ []) ∷ override (codes "/=") ((codes "i64") ∷ (codes "i64") ∷ []) ∷ override (codes "<<") ((codes "char") ∷ (codes "string") ∷ []) ∷ override (codes ">>=") ((codes "string") ∷ []) ∷ override (codes "^") ((codes "range=") ∷ (codes "array") ∷ []) ∷ override (codes "^=") ((codes "array") ∷ (codes "i64") ∷ []) ∷ override (codes "|") ((codes "Fn") ∷ []) ∷ []) [] false) (host [] (Answers UnitV (Some (IntV (negsuc 9223372036854775807))) ∷ Answers (TextV (codes "a")) None ∷ AnswersThrow (PointerV (codes "f") (values [])) ∷ []) (binding (codes "ns::a") (IntV (pos 5)) ∷ binding (codes "ns::x") (RangeV (pos 3) (pos 3)) ∷ [])) ((function None (codes "f") [] ((Assignment (Some BitXor) (Variable [] (codes "c")) (Index (flags false false) (Variable [] (codes "a")) (Index (flags false false) (IntegerConstant (negsuc 0)) (Dot (flags true false) (BoolConstant false) (MethodCall (callee [] (codes "g") false NoToken) (exprs [])))))) ∷ (Block (stmts ((If (FnCall (callee [] (codes "!=") false (OfOperator NotEqualTo)) (exprs ((Variable [] (codes "c")) ∷ (CharConstant 97) ∷ []))) (stmts []) (stmts ((ExprStmt (BoolConstant true)) ∷ []))) ∷ (Switch (DynamicConstant (IntV (negsuc 0))) (arm (BoolConstant true) UnitConstant (arm (BoolConstant true) (IntegerConstant (pos 63)) (arm (BoolConstant true) (DynamicConstant (CharV 233)) no_arms))) (table (case (BoolV true) [] ∷ case (TextV (195 ∷ 169 ∷ [])) [] ∷ case (IntV (pos 3)) (0 ∷ 0 ∷ []) ∷ []) (record { range = InclusiveInt (pos 0) (pos 4); arm = 0 } ∷ record { range = ExclusiveInt (pos 1) (pos 4); arm = 1 } ∷ []) (Some 2))) ∷ (TryCatch (Variable [] (codes "x")) (stmts ((ExprStmt (IntegerConstant (pos 9223372036854775806))) ∷ (ExprStmt UnitConstant) ∷ (ExprStmt (StringConstant (codes "a"))) ∷ (Return true false (an_expr (IntegerConstant (pos 9223372036854775806)))) ∷ [])) (stmts ((ExprStmt UnitConstant) ∷ []))) ∷ []))) ∷ [])) ∷ (function None (codes "f") ((codes "a") ∷ []) []) ∷ []) ((Var false false (codes "m") (Variable [] (codes "a"))) ∷ (Do true false (BlockExpr (stmts ((ExprStmt (StringConstant (195 ∷ 169 ∷ []))) ∷ (ExprStmt (StringConstant (codes "ab"))) ∷ (ExprStmt (BoolConstant false)) ∷ (ExprStmt (BoolConstant false)) ∷ []))) (stmts ((FnCallStmt (callee [] (codes "f") false NoToken) (exprs [])) ∷ (Assignment None (Variable [] (codes "m")) (FnCall (callee [] (codes "+") false (OfOperator Plus)) (exprs ((Variable [] (codes "m")) ∷ (DynamicConstant (PointerV (codes "g") (values []))) ∷ [])))) ∷ []))) ∷ []) AtStatements (entry (codes "m") false (RangeInclusiveV (negsuc 0) (pos 0)) ∷ entry (codes "a") true (BoolV true) ∷ []) 3 ≡ ends (WithThrown (PointerV (codes "f") (values []))) (entry (codes "a") true (BoolV true) ∷ entry (codes "m") false (RangeInclusiveV (negsuc 0) (pos 0)) ∷ entry (codes "m") false (BoolV true) ∷ []) None (asked (Some UnitV) (codes "index$get$") ((IntV (negsuc 0)) ∷ []) ∷ asked (Some UnitV) (codes "index$get$") ((BoolV false) ∷ []) ∷ asked (Some (TextV (codes "a"))) (codes "g") [] ∷ []) 1
unfolding ran
flow_9202085 = refl

-- let a = <#{"b": [Fn(g), 64, true], "k": 'b'}>
-- let m = <Fn(g)>
-- let x = <[#{}, #{"a": 'z', "b": 'a', "k": #{}}]>
-- Index!(x, { block { let y = 7; print(k()) } }) = +(Index!(x, { "a" }), 1)
-- let c = Index?!(<[-2..-2]>, { m = <#{"a": (), "b": Fn(h)}>; 2 })
-- fn g() {}
-- fn i64.push() { Dot(this, Dot(k, k)) = <#{"k": 9223372036854775806}>; this = <#{"b": true}> }
-- fn k() { y }
chains_9101010 : ran (engine (binding (codes "c") UnitV ∷ binding (codes "x") (BoolV true) ∷ []) [] (renamed (codes "i64") (codes "int") ∷ []) true) (host (named (codes "index$get$") (Answers (IntV (pos 63)) None ∷ Answers (TextV (codes "b")) None ∷ Answers (MapV (field (codes "a") (TextV (codes "")) no_fields)) None ∷ []) ∷ named (codes "f") (AnswersThrow (PointerV (codes "h") (values ((TextV (195 ∷ 169 ∷ [])) ∷ []))) ∷ Answers (RangeInclusiveV (negsuc 1) (negsuc 0)) (Some (IntV (pos 0))) ∷ []) ∷ []) [] (binding (codes "ns::a") (IntV (pos 5)) ∷ binding (codes "ns::x") (BoolV false) ∷ [])) ((function None (codes "g") [] []) ∷ (function (Some (codes "i64")) (codes "push") [] ((Assignment None (Dot (flags false false) ThisPtr (Dot (flags false false) (property (codes "get$k") (codes "set$k") (codes "k")) (property (codes "get$k") (codes "set$k") (codes "k")))) (DynamicConstant (MapV (field (codes "k") (IntV (pos 9223372036854775806)) no_fields)))) ∷ (Assignment None ThisPtr (DynamicConstant (MapV (field (codes "b") (BoolV true) no_fields)))) ∷ [])) ∷ (function None (codes "k") [] ((ExprStmt (Variable [] (codes "y"))) ∷ [])) ∷ []) ((Var false false (codes "a") (DynamicConstant (MapV (field (codes "b") (ArrayV (values ((PointerV (codes "g") (values [])) ∷ (IntV (pos 64)) ∷ (BoolV true) ∷ []))) (field (codes "k") (CharV 98) no_fields))))) ∷ (Var false false (codes "m") (DynamicConstant (PointerV (codes "g") (values [])))) ∷ (Var false false (codes "x") (DynamicConstant (ArrayV (values ((MapV no_fields) ∷ (MapV (field (codes "a") (CharV 122) (field (codes "b") (CharV 97) (field (codes "k") (MapV no_fields) no_fields)))) ∷ []))))) ∷ (Assignment None (Index (flags false true) (Variable [] (codes "x")) (BlockExpr (stmts ((Block (stmts ((Var false false (codes "y") (IntegerConstant (pos 7))) ∷ (ExprStmt (FnCall (callee [] (codes "print") false NoToken) (exprs ((FnCall (callee [] (codes "k") false NoToken) (exprs [])) ∷ [])))) ∷ []))) ∷ [])))) (FnCall (callee [] (codes "+") false (OfOperator Plus)) (exprs ((Index (flags false true) (Variable [] (codes "x")) (BlockExpr (stmts ((ExprStmt (StringConstant (codes "a"))) ∷ [])))) ∷ (IntegerConstant (pos 1)) ∷ [])))) ∷ (Var false false (codes "c") (Index (flags true true) (DynamicConstant (ArrayV (values ((RangeV (negsuc 1) (negsuc 1)) ∷ [])))) (BlockExpr (stmts ((Assignment None (Variable [] (codes "m")) (DynamicConstant (MapV (field (codes "a") UnitV (field (codes "b") (PointerV (codes "h") (values [])) no_fields))))) ∷ (ExprStmt (IntegerConstant (pos 2))) ∷ []))))) ∷ []) AtStatements (entry (codes "a") true (IntV (negsuc 9223372036854775807)) ∷ []) 0 ≡ ends WithoutTurns (entry (codes "a") true (IntV (negsuc 9223372036854775807)) ∷ entry (codes "a") false (MapV (field (codes "b") (ArrayV (values ((PointerV (codes "g") (values [])) ∷ (IntV (pos 64)) ∷ (BoolV true) ∷ []))) (field (codes "k") (CharV 98) no_fields))) ∷ entry (codes "m") false (PointerV (codes "g") (values [])) ∷ entry (codes "x") false (ArrayV (values ((MapV no_fields) ∷ (MapV (field (codes "a") (CharV 122) (field (codes "b") (CharV 97) (field (codes "k") (MapV no_fields) no_fields)))) ∷ []))) ∷ []) None (asked (Some (ArrayV (values ((MapV no_fields) ∷ (MapV (field (codes "a") (CharV 122) (field (codes "b") (CharV 97) (field (codes "k") (MapV no_fields) no_fields)))) ∷ [])))) (codes "index$get$") ((TextV (codes "a")) ∷ []) ∷ []) 0
unfolding ran
chains_9101010 = refl

-- const b = 'é'
-- block { for m in <[true]> {}; block { true }; block { block { let y = #{}; Dot(y, Dot(a, g())) = f() } } }
-- let x = coalesce(2)
-- fn k() { y }
full_9002142 : ran (engine (binding (codes "m") (TextV (codes "")) ∷ binding (codes "m") (CharV 233) ∷ []) [] [] false) (host (named (codes "h") (Answers (BoolV false) (Some (IntV (pos 1))) ∷ Answers (ArrayV (values ((CharV 97) ∷ (BoolV true) ∷ []))) None ∷ []) ∷ named (codes "push") (Answers UnitV (Some UnitV) ∷ []) ∷ []) [] (binding (codes "ns::a") (IntV (pos 5)) ∷ binding (codes "ns::x") (IntV (pos 7)) ∷ [])) ((function None (codes "k") [] ((ExprStmt (Variable [] (codes "y"))) ∷ [])) ∷ []) ((Var true false (codes "b") (CharConstant 233)) ∷ (Block (stmts ((For (codes "m") None (DynamicConstant (ArrayV (values ((BoolV true) ∷ [])))) (stmts [])) ∷ (Block (stmts ((ExprStmt (BoolConstant true)) ∷ []))) ∷ (Block (stmts ((Block (stmts ((Var false false (codes "y") (MapOf no_pairs [])) ∷ (Assignment None (Dot (flags false false) (Variable [] (codes "y")) (Dot (flags false false) (property (codes "get$a") (codes "set$a") (codes "a")) (MethodCall (callee [] (codes "g") false NoToken) (exprs [])))) (FnCall (callee [] (codes "f") false NoToken) (exprs []))) ∷ []))) ∷ []))) ∷ []))) ∷ (Var false false (codes "x") (Coalesce (exprs ((IntegerConstant (pos 2)) ∷ [])))) ∷ []) AtStatements [] 10 ≡ ends (WithStuck NoPlace) (entry (codes "b") true (CharV 233) ∷ []) None (asked None (codes "f") [] ∷ []) 9
unfolding ran
full_9002142 = refl

-- const a = x
-- let m = true
-- let b = x
-- let x = false
-- const b = -2
-- { block {}; block { 'é' }; if <=(-9223372036854775808, 9223372036854775806) {} else {} }
-- try { if true { -1 } else {}; noop; switch 'z' {  | 1..1: 2 | default 4 | true => a, { false } => 3, true => 0, true => <Fn(g)>, true => true }; throw b } catch { for b in <[()]> { this += 1 } }
-- if >(0, -9223372036854775808) {} else {}
-- fn f(m) { for b in <2..2> { <3..=5>; 0 }; Dot?([], push()) }
-- fn k() { y }
full_9002043 : ran (engine (binding (codes "x") (TextV (codes "")) ∷ []) (override (codes "&") ((codes "i64") ∷ (codes "i64") ∷ []) ∷ override (codes "*") ((codes "bool") ∷ (codes "array") ∷ []) ∷ override (codes "+") ((codes "i64") ∷ (codes "i64") ∷ []) ∷ override (codes "+=") ((codes "i64") ∷ (codes "i64") ∷ []) ∷ override (codes "-") ((codes "bool") ∷ []) ∷ []) [] false) (host [] (Answers (CharV 122) None ∷ Answers (BoolV false) (Some (IntV (pos 0))) ∷ Answers (IntV (negsuc 9223372036854775807)) (Some UnitV) ∷ Answers (CharV 233) None ∷ Answers UnitV None ∷ []) (binding (codes "ns::a") (IntV (pos 5)) ∷ binding (codes "ns::x") (BoolV true) ∷ [])) ((function None (codes "f") ((codes "m") ∷ []) ((For (codes "b") None (DynamicConstant (RangeV (pos 2) (pos 2))) (stmts ((ExprStmt (DynamicConstant (RangeInclusiveV (pos 3) (pos 5)))) ∷ (ExprStmt (IntegerConstant (pos 0))) ∷ []))) ∷ (ExprStmt (Dot (flags true false) (ArrayOf (exprs [])) (MethodCall (callee [] (codes "push") false NoToken) (exprs [])))) ∷ [])) ∷ (function None (codes "k") [] ((ExprStmt (Variable [] (codes "y"))) ∷ [])) ∷ []) ((Var true false (codes "a") (Variable [] (codes "x"))) ∷ (Var false false (codes "m") (BoolConstant true)) ∷ (Var false false (codes "b") (Variable [] (codes "x"))) ∷ (Var false false (codes "x") (BoolConstant false)) ∷ (Var true false (codes "b") (IntegerConstant (negsuc 1))) ∷ (ExprStmt (BlockExpr (stmts ((Block (stmts [])) ∷ (Block (stmts ((ExprStmt (CharConstant 233)) ∷ []))) ∷ (If (FnCall (callee [] (codes "<=") false (OfOperator LessOrEqual)) (exprs ((IntegerConstant (negsuc 9223372036854775807)) ∷ (IntegerConstant (pos 9223372036854775806)) ∷ []))) (stmts []) (stmts [])) ∷ [])))) ∷ (TryCatch UnitConstant (stmts ((If (BoolConstant true) (stmts ((ExprStmt (IntegerConstant (negsuc 0))) ∷ [])) (stmts [])) ∷ Noop ∷ (Switch (CharConstant 122) (arm (BoolConstant true) (Variable [] (codes "a")) (arm (BlockExpr (stmts ((ExprStmt (BoolConstant false)) ∷ []))) (IntegerConstant (pos 3)) (arm (BoolConstant true) (IntegerConstant (pos 0)) (arm (BoolConstant true) (DynamicConstant (PointerV (codes "g") (values []))) (arm (BoolConstant true) (BoolConstant true) no_arms))))) (table [] (record { range = ExclusiveInt (pos 1) (pos 1); arm = 2 } ∷ []) (Some 4))) ∷ (Return true false (an_expr (Variable [] (codes "b")))) ∷ [])) (stmts ((For (codes "b") None (DynamicConstant (ArrayV (values (UnitV ∷ [])))) (stmts ((Assignment (Some Plus) ThisPtr (IntegerConstant (pos 1))) ∷ []))) ∷ []))) ∷ (If (FnCall (callee [] (codes ">") false (OfOperator Greater)) (exprs ((IntegerConstant (pos 0)) ∷ (IntegerConstant (negsuc 9223372036854775807)) ∷ []))) (stmts []) (stmts [])) ∷ []) AtStatements (entry (codes "b") true (IntV (pos 3)) ∷ entry (codes "y") true UnitV ∷ entry (codes "a") true (BoolV false) ∷ []) 2 ≡ ends (WithStuck UnboundThis) (entry (codes "a") true (BoolV false) ∷ entry (codes "y") true UnitV ∷ entry (codes "b") true (IntV (pos 3)) ∷ entry (codes "a") true (TextV (codes "")) ∷ entry (codes "m") false (BoolV true) ∷ entry (codes "b") false (TextV (codes "")) ∷ entry (codes "x") false (BoolV false) ∷ entry (codes "b") true (IntV (negsuc 1)) ∷ []) None [] 1
unfolding ran
full_9002043 = refl

-- let b = ..=(1, ())
-- let a = ()
-- const m = ()
-- let b = b
-- let c = 9223372036854775806
-- block { try { 9223372036854775806; 2; "a"; throw 'b' } catch c { 'z' }; switch <Fn(f)> {  | 1..=4: 1 | default 2 | true => <Fn(g)>, true => 'b', true => "ab" }; switch ns::m { #{"a": ()}: 1 1, -9223372036854775808: 1 0 | -2..=0: 1 | default - | ==(3, <[#{"k": 'z'}]>) => b, true => <true> } }
-- block { try { 1; 2; throw c } catch { "f"; <""> }; try { false } catch {} }
flow_9202975 : ran (engine [] [] [] true) (host [] (AnswersThrow (IntV (pos 1)) ∷ Answers (ArrayV (values ((TextV (195 ∷ 169 ∷ [])) ∷ (IntV (pos 9223372036854775806)) ∷ (TextV (codes "f")) ∷ []))) None ∷ []) (binding (codes "ns::a") (IntV (pos 5)) ∷ binding (codes "ns::x") (ArrayV (values (UnitV ∷ (BoolV true) ∷ []))) ∷ [])) [] ((Var false false (codes "b") (FnCall (callee [] (codes "..=") false (OfOperator Through)) (exprs ((IntegerConstant (pos 1)) ∷ UnitConstant ∷ [])))) ∷ (Var false false (codes "a") UnitConstant) ∷ (Var true false (codes "m") UnitConstant) ∷ (Var false false (codes "b") (Variable [] (codes "b"))) ∷ (Var false false (codes "c") (IntegerConstant (pos 9223372036854775806))) ∷ (Block (stmts ((TryCatch (Variable [] (codes "c")) (stmts ((ExprStmt (IntegerConstant (pos 9223372036854775806))) ∷ (ExprStmt (IntegerConstant (pos 2))) ∷ (ExprStmt (StringConstant (codes "a"))) ∷ (Return true false (an_expr (CharConstant 98))) ∷ [])) (stmts ((ExprStmt (CharConstant 122)) ∷ []))) ∷ (Switch (DynamicConstant (PointerV (codes "f") (values []))) (arm (BoolConstant true) (DynamicConstant (PointerV (codes "g") (values []))) (arm (BoolConstant true) (CharConstant 98) (arm (BoolConstant true) (StringConstant (codes "ab")) no_arms))) (table [] (record { range = InclusiveInt (pos 1) (pos 4); arm = 1 } ∷ []) (Some 2))) ∷ (Switch (Variable ((codes "ns") ∷ []) (codes "m")) (arm (FnCall (callee [] (codes "==") false (OfOperator EqualTo)) (exprs ((IntegerConstant (pos 3)) ∷ (DynamicConstant (ArrayV (values ((MapV (field (codes "k") (CharV 122) no_fields)) ∷ [])))) ∷ []))) (Variable [] (codes "b")) (arm (BoolConstant true) (DynamicConstant (BoolV true)) no_arms)) (table (case (MapV (field (codes "a") UnitV no_fields)) (1 ∷ 1 ∷ []) ∷ case (IntV (negsuc 9223372036854775807)) (1 ∷ 0 ∷ []) ∷ []) (record { range = InclusiveInt (negsuc 1) (pos 0); arm = 1 } ∷ []) None)) ∷ []))) ∷ (Block (stmts ((TryCatch UnitConstant (stmts ((ExprStmt (IntegerConstant (pos 1))) ∷ (ExprStmt (IntegerConstant (pos 2))) ∷ (Return true false (an_expr (Variable [] (codes "c")))) ∷ [])) (stmts ((ExprStmt (StringConstant (codes "f"))) ∷ (ExprStmt (DynamicConstant (TextV (codes "")))) ∷ []))) ∷ (TryCatch UnitConstant (stmts ((ExprStmt (BoolConstant false)) ∷ [])) (stmts [])) ∷ []))) ∷ []) AtStatements (entry (codes "a") true (MapV no_fields) ∷ entry (codes "b") true (IntV (pos 3)) ∷ entry (codes "x") true (BoolV true) ∷ []) 1 ≡ ends (WithStuck Unbound) (entry (codes "x") true (BoolV true) ∷ entry (codes "b") true (IntV (pos 3)) ∷ entry (codes "a") true (MapV no_fields) ∷ entry (codes "b") false (RangeInclusiveV (pos 1) (pos 9223372036854775807)) ∷ entry (codes "a") false UnitV ∷ entry (codes "m") true UnitV ∷ entry (codes "b") false (RangeInclusiveV (pos 1) (pos 9223372036854775807)) ∷ entry (codes "c") false (IntV (pos 9223372036854775806)) ∷ []) None [] 1
unfolding ran
flow_9202975 = refl

-- let a = y
-- let x = 'z'
-- noop
-- switch <#{"b": Fn(f), "k": #{"b": 9223372036854775806}}> { (): 2 1 |  | default 4 | true => false, true => "a", true => 'z', <(9223372036854775806, 2) => Dot(a, Index!(push(()), 64)), true => text(x, a, 2) }
full_9002021 : ran (engine (binding (codes "m") (BoolV true) ∷ binding (codes "y") (PointerV (codes "g") (values [])) ∷ []) [] (renamed (codes "i64") (codes "int") ∷ []) false) (host (named (codes "get$a") (Answers (RangeV (pos 1) (pos 2)) None ∷ []) ∷ []) (Answers (BoolV true) None ∷ Answers (IntV (negsuc 9223372036854775807)) None ∷ Answers (MapV no_fields) None ∷ []) (binding (codes "ns::a") (IntV (pos 5)) ∷ binding (codes "ns::x") (TextV (codes "f")) ∷ [])) [] ((Var false false (codes "a") (Variable [] (codes "y"))) ∷ (Var false false (codes "x") (CharConstant 122)) ∷ Noop ∷ (Switch (DynamicConstant (MapV (field (codes "b") (PointerV (codes "f") (values [])) (field (codes "k") (MapV (field (codes "b") (IntV (pos 9223372036854775806)) no_fields)) no_fields)))) (arm (BoolConstant true) (BoolConstant false) (arm (BoolConstant true) (StringConstant (codes "a")) (arm (BoolConstant true) (CharConstant 122) (arm (FnCall (callee [] (codes "<") false (OfOperator Less)) (exprs ((IntegerConstant (pos 9223372036854775806)) ∷ (IntegerConstant (pos 2)) ∷ []))) (Dot (flags false false) (Variable [] (codes "a")) (Index (flags false true) (MethodCall (callee [] (codes "push") false NoToken) (exprs (UnitConstant ∷ []))) (IntegerConstant (pos 64)))) (arm (BoolConstant true) (InterpolatedString (exprs ((Variable [] (codes "x")) ∷ (Variable [] (codes "a")) ∷ (IntegerConstant (pos 2)) ∷ []))) no_arms))))) (table (case UnitV (2 ∷ 1 ∷ []) ∷ []) [] (Some 4))) ∷ []) AtStatements (entry (codes "a") true (CharV 122) ∷ entry (codes "m") false (TextV (codes "")) ∷ entry (codes "y") false (ArrayV (values ((TextV (codes "")) ∷ []))) ∷ []) 1 ≡ ends (WithValue (TextV (122 ∷ 91 ∷ 34 ∷ 34 ∷ 93 ∷ 50 ∷ []))) (entry (codes "y") false (ArrayV (values ((TextV (codes "")) ∷ []))) ∷ entry (codes "m") false (TextV (codes "")) ∷ entry (codes "a") true (CharV 122) ∷ entry (codes "a") false (ArrayV (values ((TextV (codes "")) ∷ []))) ∷ entry (codes "x") false (CharV 122) ∷ []) None [] 1
unfolding ran
full_9002021 = refl

-- call h!('é')
-- while and(false) {}
-- if Fn!(()) { throw } else {}
-- fn h(a) {}
-- fn h() { switch false { (): 0 1, ["b", true]: , 9223372036854775807:  | 1..3: 1 | default 2 | true => Dot?(m, Index!(h(<[]>), 2)), true => a, true => #{} }; call print(7); block { let x = 2; loop {}; x = <Fn(g)> } }
flow_9202534 : ran (engine (binding (codes "b") (BoolV false) ∷ []) (override (codes "**=") ((codes "bool") ∷ (codes "map") ∷ []) ∷ override (codes "**=") ((codes "i64") ∷ (codes "string") ∷ []) ∷ override (codes "-") ((codes "i64") ∷ (codes "i64") ∷ []) ∷ override (codes "-=") ((codes "range=") ∷ []) ∷ override (codes "..") ((codes "()") ∷ []) ∷ override (codes "..") ((codes "i64") ∷ (codes "i64") ∷ []) ∷ override (codes "<=") ((codes "char") ∷ []) ∷ override (codes ">=") ((codes "i64") ∷ (codes "i64") ∷ []) ∷ override (codes "^") ((codes "bool") ∷ (codes "Fn") ∷ []) ∷ []) [] false) (host (named (codes "get$a") (Answers (RangeInclusiveV (negsuc 1) (pos 0)) None ∷ Answers (BoolV false) (Some (BoolV false)) ∷ AnswersThrow (BoolV true) ∷ []) ∷ named (codes "push") (Answers (IntV (pos 1)) None ∷ Answers (ArrayV (values [])) None ∷ []) ∷ []) (AnswersThrow (MapV (field (codes "b") (IntV (pos 9223372036854775806)) (field (codes "k") (IntV (pos 0)) no_fields))) ∷ AnswersThrow (MapV (field (codes "a") UnitV (field (codes "k") UnitV no_fields))) ∷ AnswersThrow (RangeV (pos 0) (pos 0)) ∷ Answers (RangeV (pos 0) (negsuc 0)) None ∷ []) (binding (codes "ns::a") (IntV (pos 5)) ∷ binding (codes "ns::x") (IntV (pos 63)) ∷ [])) ((function None (codes "h") ((codes "a") ∷ []) []) ∷ (function None (codes "h") [] ((Switch (BoolConstant false) (arm (BoolConstant true) (Dot (flags true false) (Variable [] (codes "m")) (Index (flags false true) (MethodCall (callee [] (codes "h") false NoToken) (exprs ((DynamicConstant (ArrayV (values []))) ∷ []))) (IntegerConstant (pos 2)))) (arm (BoolConstant true) (Variable [] (codes "a")) (arm (BoolConstant true) (MapOf no_pairs []) no_arms))) (table (case UnitV (0 ∷ 1 ∷ []) ∷ case (ArrayV (values ((TextV (codes "b")) ∷ (BoolV true) ∷ []))) [] ∷ case (IntV (pos 9223372036854775807)) [] ∷ []) (record { range = ExclusiveInt (pos 1) (pos 3); arm = 1 } ∷ []) (Some 2))) ∷ (FnCallStmt (callee [] (codes "print") false NoToken) (exprs ((IntegerConstant (pos 7)) ∷ []))) ∷ (Block (stmts ((Var false false (codes "x") (IntegerConstant (pos 2))) ∷ (While UnitConstant (stmts [])) ∷ (Assignment None (Variable [] (codes "x")) (DynamicConstant (PointerV (codes "g") (values [])))) ∷ []))) ∷ [])) ∷ []) ((FnCallStmt (callee [] (codes "h") true NoToken) (exprs ((CharConstant 233) ∷ []))) ∷ (While (And (exprs ((BoolConstant false) ∷ []))) (stmts [])) ∷ (If (FnCall (callee [] (codes "Fn") true NoToken) (exprs (UnitConstant ∷ []))) (stmts ((Return true false no_expr) ∷ [])) (stmts [])) ∷ []) AtStatements (entry (codes "y") true (IntV (pos 9223372036854775806)) ∷ []) 3 ≡ ends (WithStuck WrongKind) (entry (codes "y") true (IntV (pos 9223372036854775806)) ∷ []) None [] 2
unfolding ran
flow_9202534 = refl

-- let m = <'é'>
-- let a = 9223372036854775806
-- let b = <[false]>
-- const c = ""
-- switch "é" { 9223372036854775807: , ():  | -2..1: 0, 1..4: 0 | default 1 | true => >>(<63>, m), true => #{k: <-9223372036854775808>} }
-- block { if <(64, -2) { <3..3>; (); <64> } else {}; block { q = f(); false } }
-- for x in <[2, 0, 0]> {}
-- fn k() { y }
flow_9201365 : ran (engine (binding (codes "y") (RangeV (negsuc 0) (pos 1)) ∷ binding (codes "b") (MapV (field (codes "a") (IntV (pos 3)) (field (codes "k") (CharV 122) no_fields))) ∷ binding (codes "q") (ArrayV (values [])) ∷ []) [] (renamed (codes "i64") (codes "int") ∷ []) false) (host [] (Answers UnitV None ∷ Answers (BoolV false) (Some (ArrayV (values ((TextV (codes "")) ∷ (BoolV true) ∷ UnitV ∷ [])))) ∷ Answers (CharV 233) None ∷ Answers (IntV (pos 64)) (Some (BoolV false)) ∷ Answers (IntV (negsuc 9223372036854775807)) None ∷ []) (binding (codes "ns::a") (IntV (pos 5)) ∷ binding (codes "ns::x") UnitV ∷ [])) ((function None (codes "k") [] ((ExprStmt (Variable [] (codes "y"))) ∷ [])) ∷ []) ((Var false false (codes "m") (DynamicConstant (CharV 233))) ∷ (Var false false (codes "a") (IntegerConstant (pos 9223372036854775806))) ∷ (Var false false (codes "b") (DynamicConstant (ArrayV (values ((BoolV false) ∷ []))))) ∷ (Var true false (codes "c") (StringConstant (codes ""))) ∷ (Switch (StringConstant (195 ∷ 169 ∷ [])) (arm (BoolConstant true) (FnCall (callee [] (codes ">>") false (OfOperator ShiftRight)) (exprs ((DynamicConstant (IntV (pos 63))) ∷ (Variable [] (codes "m")) ∷ []))) (arm (BoolConstant true) (MapOf (pair (codes "k") (DynamicConstant (IntV (negsuc 9223372036854775807))) no_pairs) ((codes "k") ∷ [])) no_arms)) (table (case (IntV (pos 9223372036854775807)) [] ∷ case UnitV [] ∷ []) (record { range = ExclusiveInt (negsuc 1) (pos 1); arm = 0 } ∷ record { range = ExclusiveInt (pos 1) (pos 4); arm = 0 } ∷ []) (Some 1))) ∷ (Block (stmts ((If (FnCall (callee [] (codes "<") false (OfOperator Less)) (exprs ((IntegerConstant (pos 64)) ∷ (IntegerConstant (negsuc 1)) ∷ []))) (stmts ((ExprStmt (DynamicConstant (RangeV (pos 3) (pos 3)))) ∷ (ExprStmt UnitConstant) ∷ (ExprStmt (DynamicConstant (IntV (pos 64)))) ∷ [])) (stmts [])) ∷ (Block (stmts ((Assignment None (Variable [] (codes "q")) (FnCall (callee [] (codes "f") false NoToken) (exprs []))) ∷ (ExprStmt (BoolConstant false)) ∷ []))) ∷ []))) ∷ (For (codes "x") None (DynamicConstant (ArrayV (values ((IntV (pos 2)) ∷ (IntV (pos 0)) ∷ (IntV (pos 0)) ∷ [])))) (stmts [])) ∷ []) AtStatements [] 10 ≡ ends (WithStuck WriteToConstant) (entry (codes "m") false (CharV 233) ∷ entry (codes "a") false (IntV (pos 9223372036854775806)) ∷ entry (codes "b") false (ArrayV (values ((BoolV false) ∷ []))) ∷ entry (codes "c") true (TextV (codes "")) ∷ []) None (asked None (codes "f") [] ∷ []) 10
unfolding ran
flow_9201365 = refl
