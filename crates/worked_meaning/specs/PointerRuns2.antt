-- More runs with pointers that hold values.
use Rattle.std.specs.Prelude.{◌≡◌, true, false, [], ◌∷◌, None, Some, pos, negsuc, codes, refl}
use Rattle.rhai_base.specs.Value.{UnitV, BoolV, IntV, CharV, TextV, ArrayV, MapV, PointerV, RangeV, RangeInclusiveV, values, field, no_fields}
use Rattle.rhai_base.specs.Operators.{Plus, Minus, Multiply, Divide, Modulo, Power, ShiftLeft, ShiftRight, BitAnd, BitOr, BitXor, Less, Greater, GreaterOrEqual, UpTo, Through, Not}
use Rattle.theory_meaning.specs.Act.{Answers, Unbound, WrongKind, WriteToConstant, NoPlace, AnswersThrow}
use Rattle.theory_meaning.specs.Run.{AtStatements, WithValue, WithThrown, WithStuck, WithoutTurns}
use Rattle.theory_meaning.specs.Tree.{OfOperator, NoToken, ExclusiveInt, DynamicConstant, BoolConstant, IntegerConstant, CharConstant, StringConstant, UnitConstant, ArrayOf, MapOf, Variable, ThisPtr, MethodCall, BlockExpr, FnCall, Dot, Index, Coalesce, pair, no_pairs, no_expr, an_expr, arm, no_arms, Switch, While, For, Var, Assignment, TryCatch, ExprStmt, BreakLoop, Return, exprs, stmts, InclusiveInt, InterpolatedString, Noop, If, FnCallStmt, Block}
use Rattle.worked_meaning.specs.EvaluatedForms.{callee, flags, property, table, case, function, entry, asked, binding, override, renamed, engine, ends, named, host, ran}

-- let a = <7>
-- let m = <#{}>
-- let x = <#{"a": #{"a": Fn(g), "b": Fn(f), "k": []}, "b": #{"k": 2}, "k": #{"b": 'a'}}>
-- Dot(a, Dot?(k, Index!(a, { a = <#{"a": #{"a": false, "k": 'a'}, "b": -2..=-3, "k": ()}>; 1 }))) = { m = <[()]>; for (a, b) in <[5, 6]> { print(b); print(a) } }
-- let b = Index!(x, -1)
-- Index(m, Index!({ "k" }, "a")) = { "k" }
-- fn i64.push(x) { this = <[[(), 2], [9223372036854775806, 'a', ()], []]>; this = <[#{"b": 9223372036854775806}]> }
-- fn k() { y }
chains_9101879 : ran (engine ([]) ([]) (renamed (codes "i64") (codes "int") ∷ []) false) (host ([]) (Answers (IntV (negsuc 9223372036854775807)) (Some (IntV (pos 7))) ∷ []) (binding (codes "ns::a") (IntV (pos 5)) ∷ binding (codes "ns::x") (BoolV true) ∷ [])) ((function (Some (codes "i64")) (codes "push") ((codes "x") ∷ []) ((Assignment None ThisPtr (DynamicConstant (ArrayV (values ((ArrayV (values (UnitV ∷ (IntV (pos 2)) ∷ []))) ∷ (ArrayV (values ((IntV (pos 9223372036854775806)) ∷ (CharV 97) ∷ UnitV ∷ []))) ∷ (ArrayV (values ([]))) ∷ []))))) ∷ (Assignment None ThisPtr (DynamicConstant (ArrayV (values ((MapV (field (codes "b") (IntV (pos 9223372036854775806)) no_fields)) ∷ []))))) ∷ [])) ∷ (function None (codes "k") ([]) ((ExprStmt (Variable ([]) (codes "y"))) ∷ [])) ∷ []) ((Var false false (codes "a") (DynamicConstant (IntV (pos 7)))) ∷ (Var false false (codes "m") (DynamicConstant (MapV no_fields))) ∷ (Var false false (codes "x") (DynamicConstant (MapV (field (codes "a") (MapV (field (codes "a") (PointerV (codes "g") (values ((TextV (codes "b")) ∷ []))) (field (codes "b") (PointerV (codes "f") (values ([]))) (field (codes "k") (ArrayV (values ([]))) no_fields)))) (field (codes "b") (MapV (field (codes "k") (IntV (pos 2)) no_fields)) (field (codes "k") (MapV (field (codes "b") (CharV 97) no_fields)) no_fields)))))) ∷ (Assignment None (Dot (flags false false) (Variable ([]) (codes "a")) (Dot (flags true false) (property (codes "get$k") (codes "set$k") (codes "k")) (Index (flags false true) (property (codes "get$a") (codes "set$a") (codes "a")) (BlockExpr (stmts ((Assignment None (Variable ([]) (codes "a")) (DynamicConstant (MapV (field (codes "a") (MapV (field (codes "a") (BoolV false) (field (codes "k") (CharV 97) no_fields))) (field (codes "b") (RangeInclusiveV (negsuc 1) (negsuc 2)) (field (codes "k") UnitV no_fields)))))) ∷ (ExprStmt (IntegerConstant (pos 1))) ∷ [])))))) (BlockExpr (stmts ((Assignment None (Variable ([]) (codes "m")) (DynamicConstant (ArrayV (values (UnitV ∷ []))))) ∷ (For (codes "a") (Some (codes "b")) (DynamicConstant (ArrayV (values ((IntV (pos 5)) ∷ (IntV (pos 6)) ∷ [])))) (stmts ((ExprStmt (FnCall (callee [] (codes "print") false NoToken) (exprs ((Variable ([]) (codes "b")) ∷ [])))) ∷ (ExprStmt (FnCall (callee [] (codes "print") false NoToken) (exprs ((Variable ([]) (codes "a")) ∷ [])))) ∷ []))) ∷ [])))) ∷ (Var false false (codes "b") (Index (flags false true) (Variable ([]) (codes "x")) (IntegerConstant (negsuc 0)))) ∷ (Assignment None (Index (flags false false) (Variable ([]) (codes "m")) (Index (flags false true) (BlockExpr (stmts ((ExprStmt (StringConstant (codes "k"))) ∷ []))) (StringConstant (codes "a")))) (BlockExpr (stmts ((ExprStmt (StringConstant (codes "k"))) ∷ [])))) ∷ []) AtStatements (entry (codes "x") false (ArrayV (values ((IntV (negsuc 9223372036854775807)) ∷ (BoolV true) ∷ []))) ∷ entry (codes "b") false (BoolV true) ∷ entry (codes "y") true (ArrayV (values ((CharV 233) ∷ (BoolV true) ∷ (IntV (pos 9223372036854775807)) ∷ []))) ∷ []) 2 ≡ ends (WithStuck NoPlace) (entry (codes "y") true (ArrayV (values ((CharV 233) ∷ (BoolV true) ∷ (IntV (pos 9223372036854775807)) ∷ []))) ∷ entry (codes "b") false (BoolV true) ∷ entry (codes "x") false (ArrayV (values ((IntV (negsuc 9223372036854775807)) ∷ (BoolV true) ∷ []))) ∷ entry (codes "a") false (IntV (pos 7)) ∷ entry (codes "m") false (ArrayV (values (UnitV ∷ []))) ∷ entry (codes "x") false (MapV (field (codes "a") (MapV (field (codes "a") (PointerV (codes "g") (values ((TextV (codes "b")) ∷ []))) (field (codes "b") (PointerV (codes "f") (values ([]))) (field (codes "k") (ArrayV (values ([]))) no_fields)))) (field (codes "b") (MapV (field (codes "k") (IntV (pos 2)) no_fields)) (field (codes "k") (MapV (field (codes "b") (CharV 97) no_fields)) no_fields)))) ∷ entry (codes "b") false UnitV ∷ []) None (asked None (codes "print") ((IntV (pos 0)) ∷ []) ∷ asked None (codes "print") ((IntV (pos 5)) ∷ []) ∷ asked None (codes "print") ((IntV (pos 1)) ∷ []) ∷ asked None (codes "print") ((IntV (pos 6)) ∷ []) ∷ asked (Some (IntV (pos 7))) (codes "get$k") ([]) ∷ asked (Some (MapV (field (codes "a") (MapV (field (codes "a") (PointerV (codes "g") (values ((TextV (codes "b")) ∷ []))) (field (codes "b") (PointerV (codes "f") (values ([]))) (field (codes "k") (ArrayV (values ([]))) no_fields)))) (field (codes "b") (MapV (field (codes "k") (IntV (pos 2)) no_fields)) (field (codes "k") (MapV (field (codes "b") (CharV 97) no_fields)) no_fields))))) (codes "index$get$") ((IntV (negsuc 0)) ∷ []) ∷ asked (Some (ArrayV (values (UnitV ∷ [])))) (codes "index$get$") ((TextV (codes "k")) ∷ []) ∷ []) 0
unfolding ran
chains_9101879 = refl

-- let a = <#{"a": #{"k": 64}, "b": ["b"], "k": #{"b": Fn(h)}}>
-- let m = <#{"k": Fn(f)}>
-- const x = <[[Fn(h)]]>
-- try { Index!(x, "k") } catch c {}
-- Dot(x, k) = { Dot(a, Dot?(b, b)) = <#{"a": [true, (), ()], "k": "é"}>; Fn("type_of") }
-- Dot(m, Index!(a, "b")) = { -1 }
-- fn i64.g(b) { return this }
-- fn array.f() {}
chains_9101932 : ran (engine (binding (codes "c") (RangeV (pos 3) (pos 3)) ∷ binding (codes "a") UnitV ∷ []) ([]) (renamed (codes "i64") (codes "int") ∷ []) false) (host (named (codes "f") (Answers (IntV (pos 0)) None ∷ Answers (RangeV (pos 2) (pos 1)) None ∷ []) ∷ named (codes "index$get$") (Answers (RangeInclusiveV (pos 1) (pos 3)) None ∷ Answers (CharV 97) (Some (TextV (codes "f"))) ∷ Answers (IntV (pos 9223372036854775807)) (Some (MapV (field (codes "a") (BoolV true) (field (codes "k") (IntV (negsuc 9223372036854775807)) no_fields)))) ∷ Answers (CharV 122) None ∷ Answers (ArrayV (values ((CharV 233) ∷ []))) None ∷ []) ∷ []) (Answers (IntV (pos 63)) (Some (ArrayV (values ((TextV (codes "b")) ∷ UnitV ∷ [])))) ∷ Answers (RangeV (pos 0) (pos 1)) (Some (CharV 233)) ∷ []) (binding (codes "ns::a") (IntV (pos 5)) ∷ binding (codes "ns::x") (MapV (field (codes "a") (BoolV true) no_fields)) ∷ [])) ((function (Some (codes "i64")) (codes "g") ((codes "b") ∷ []) ((Return false false (an_expr ThisPtr)) ∷ [])) ∷ (function (Some (codes "array")) (codes "f") ([]) ([])) ∷ []) ((Var false false (codes "a") (DynamicConstant (MapV (field (codes "a") (MapV (field (codes "k") (IntV (pos 64)) no_fields)) (field (codes "b") (ArrayV (values ((TextV (codes "b")) ∷ []))) (field (codes "k") (MapV (field (codes "b") (PointerV (codes "h") (values ([]))) no_fields)) no_fields)))))) ∷ (Var false false (codes "m") (DynamicConstant (MapV (field (codes "k") (PointerV (codes "f") (values ((BoolV false) ∷ []))) no_fields)))) ∷ (Var true false (codes "x") (DynamicConstant (ArrayV (values ((ArrayV (values ((PointerV (codes "h") (values ((TextV (codes "ab")) ∷ []))) ∷ []))) ∷ []))))) ∷ (TryCatch (Variable ([]) (codes "c")) (stmts ((ExprStmt (Index (flags false true) (Variable ([]) (codes "x")) (StringConstant (codes "k")))) ∷ [])) (stmts ([]))) ∷ (Assignment None (Dot (flags false false) (Variable ([]) (codes "x")) (property (codes "get$k") (codes "set$k") (codes "k"))) (BlockExpr (stmts ((Assignment None (Dot (flags false false) (Variable ([]) (codes "a")) (Dot (flags true false) (property (codes "get$b") (codes "set$b") (codes "b")) (property (codes "get$b") (codes "set$b") (codes "b")))) (DynamicConstant (MapV (field (codes "a") (ArrayV (values ((BoolV true) ∷ UnitV ∷ UnitV ∷ []))) (field (codes "k") (TextV (195 ∷ 169 ∷ [])) no_fields))))) ∷ (ExprStmt (FnCall (callee [] (codes "Fn") false NoToken) (exprs ((StringConstant (codes "type_of")) ∷ [])))) ∷ [])))) ∷ (Assignment None (Dot (flags false false) (Variable ([]) (codes "m")) (Index (flags false true) (property (codes "get$a") (codes "set$a") (codes "a")) (StringConstant (codes "b")))) (BlockExpr (stmts ((ExprStmt (IntegerConstant (negsuc 0))) ∷ [])))) ∷ []) AtStatements (entry (codes "c") false (IntV (pos 63)) ∷ entry (codes "b") false UnitV ∷ []) 2 ≡ ends (WithThrown (TextV (codes "function name"))) (entry (codes "b") false UnitV ∷ entry (codes "c") false (IntV (pos 63)) ∷ entry (codes "a") false (MapV (field (codes "a") (MapV (field (codes "k") (IntV (pos 64)) no_fields)) (field (codes "b") (CharV 233) (field (codes "k") (MapV (field (codes "b") (PointerV (codes "h") (values ([]))) no_fields)) no_fields)))) ∷ entry (codes "m") false (MapV (field (codes "k") (PointerV (codes "f") (values ((BoolV false) ∷ []))) no_fields)) ∷ entry (codes "x") true (ArrayV (values ((ArrayV (values ((PointerV (codes "h") (values ((TextV (codes "ab")) ∷ []))) ∷ []))) ∷ []))) ∷ []) None (asked (Some (ArrayV (values ((ArrayV (values ((PointerV (codes "h") (values ((TextV (codes "ab")) ∷ []))) ∷ []))) ∷ [])))) (codes "index$get$") ((TextV (codes "k")) ∷ []) ∷ asked (Some (ArrayV (values ((TextV (codes "b")) ∷ [])))) (codes "set$b") ((MapV (field (codes "a") (ArrayV (values ((BoolV true) ∷ UnitV ∷ UnitV ∷ []))) (field (codes "k") (TextV (195 ∷ 169 ∷ [])) no_fields))) ∷ []) ∷ []) 2
unfolding ran
chains_9101932 = refl

-- let a = ..((), 1)
-- let m = <[#{"k": 63}, "a", #{"b": 0}]>
-- let x = <#{"a": #{"k": -1..=1}, "b": "é", "k": [7, Fn(f), 'b']}>
-- let m = Dot(m, a)
-- try { Dot?(m, Index!(push(), -1)) } catch c {}
-- Dot(x, Dot(a, a)) = { 0 }
-- try { Index(x, Dot?({ x = <[0]>; 1 }, f())) } catch c {}
-- fn i64.g() { Dot(this, Index(b, Dot("k", a))) = <[Fn(g), "é"]> }
-- fn f(m) { Index(this, Index?({ 0 }, Index!(1, { 0 }))) = <#{"a": 9223372036854775806, "b": 0, "k": -2}> }
chains_9101951 : ran (engine (binding (codes "c") (PointerV (codes "f") (values ([]))) ∷ binding (codes "c") (CharV 98) ∷ []) ([]) ([]) false) (host (named (codes "f") ([]) ∷ []) (Answers UnitV (Some (TextV (codes "f"))) ∷ Answers (RangeInclusiveV (negsuc 0) (pos 1)) None ∷ Answers (TextV (codes "f")) (Some (CharV 97)) ∷ []) (binding (codes "ns::a") (IntV (pos 5)) ∷ binding (codes "ns::x") UnitV ∷ [])) ((function (Some (codes "i64")) (codes "g") ([]) ((Assignment None (Dot (flags false false) ThisPtr (Index (flags false false) (property (codes "get$b") (codes "set$b") (codes "b")) (Dot (flags false false) (StringConstant (codes "k")) (property (codes "get$a") (codes "set$a") (codes "a"))))) (DynamicConstant (ArrayV (values ((PointerV (codes "g") (values ([]))) ∷ (TextV (195 ∷ 169 ∷ [])) ∷ []))))) ∷ [])) ∷ (function None (codes "f") ((codes "m") ∷ []) ((Assignment None (Index (flags false false) ThisPtr (Index (flags true false) (BlockExpr (stmts ((ExprStmt (IntegerConstant (pos 0))) ∷ []))) (Index (flags false true) (IntegerConstant (pos 1)) (BlockExpr (stmts ((ExprStmt (IntegerConstant (pos 0))) ∷ [])))))) (DynamicConstant (MapV (field (codes "a") (IntV (pos 9223372036854775806)) (field (codes "b") (IntV (pos 0)) (field (codes "k") (IntV (negsuc 1)) no_fields)))))) ∷ [])) ∷ []) ((Var false false (codes "a") (FnCall (callee [] (codes "..") false (OfOperator UpTo)) (exprs (UnitConstant ∷ (IntegerConstant (pos 1)) ∷ [])))) ∷ (Var false false (codes "m") (DynamicConstant (ArrayV (values ((MapV (field (codes "k") (IntV (pos 63)) no_fields)) ∷ (TextV (codes "a")) ∷ (MapV (field (codes "b") (IntV (pos 0)) no_fields)) ∷ []))))) ∷ (Var false false (codes "x") (DynamicConstant (MapV (field (codes "a") (MapV (field (codes "k") (RangeInclusiveV (negsuc 0) (pos 1)) no_fields)) (field (codes "b") (TextV (195 ∷ 169 ∷ [])) (field (codes "k") (ArrayV (values ((IntV (pos 7)) ∷ (PointerV (codes "f") (values ((TextV (codes "f")) ∷ []))) ∷ (CharV 98) ∷ []))) no_fields)))))) ∷ (Var false false (codes "m") (Dot (flags false false) (Variable ([]) (codes "m")) (property (codes "get$a") (codes "set$a") (codes "a")))) ∷ (TryCatch (Variable ([]) (codes "c")) (stmts ((ExprStmt (Dot (flags true false) (Variable ([]) (codes "m")) (Index (flags false true) (MethodCall (callee [] (codes "push") false NoToken) (exprs ([]))) (IntegerConstant (negsuc 0))))) ∷ [])) (stmts ([]))) ∷ (Assignment None (Dot (flags false false) (Variable ([]) (codes "x")) (Dot (flags false false) (property (codes "get$a") (codes "set$a") (codes "a")) (property (codes "get$a") (codes "set$a") (codes "a")))) (BlockExpr (stmts ((ExprStmt (IntegerConstant (pos 0))) ∷ [])))) ∷ (TryCatch (Variable ([]) (codes "c")) (stmts ((ExprStmt (Index (flags false false) (Variable ([]) (codes "x")) (Dot (flags true false) (BlockExpr (stmts ((Assignment None (Variable ([]) (codes "x")) (DynamicConstant (ArrayV (values ((IntV (pos 0)) ∷ []))))) ∷ (ExprStmt (IntegerConstant (pos 1))) ∷ []))) (MethodCall (callee [] (codes "f") false NoToken) (exprs ([])))))) ∷ [])) (stmts ([]))) ∷ []) AtStatements (entry (codes "b") true (ArrayV (values ((BoolV true) ∷ (IntV (pos 3)) ∷ (CharV 233) ∷ []))) ∷ entry (codes "x") true (BoolV true) ∷ entry (codes "y") true (BoolV false) ∷ []) 1 ≡ ends (WithValue UnitV) (entry (codes "y") true (BoolV false) ∷ entry (codes "x") true (BoolV true) ∷ entry (codes "b") true (ArrayV (values ((BoolV true) ∷ (IntV (pos 3)) ∷ (CharV 233) ∷ []))) ∷ entry (codes "a") false (RangeV (pos 0) (pos 1)) ∷ entry (codes "m") false (ArrayV (values ((MapV (field (codes "k") (IntV (pos 63)) no_fields)) ∷ (TextV (codes "a")) ∷ (MapV (field (codes "b") (IntV (pos 0)) no_fields)) ∷ []))) ∷ entry (codes "x") false (ArrayV (values ((IntV (pos 0)) ∷ []))) ∷ entry (codes "m") false UnitV ∷ []) None (asked (Some (ArrayV (values ((MapV (field (codes "k") (IntV (pos 63)) no_fields)) ∷ (TextV (codes "a")) ∷ (MapV (field (codes "b") (IntV (pos 0)) no_fields)) ∷ [])))) (codes "get$a") ([]) ∷ []) 1
unfolding ran
chains_9101951 = refl

-- const a = <#{"a": [#{"b": 7, "k": "é"}], "b": ['b', [3, ()], true]}>
-- const m = <[[false], ""]>
-- const x = <#{"a": #{"a": Fn(h), "b": [2, (), 9223372036854775806]}, "b": #{"b": 3, "k": ["f", "a"]}, "k": ()}>
-- Index(a, Index("b", Dot(-1, k))) &= { 1 }
-- Index(a, Index!(2, "a")) = +(Index(a, Index!(2, "a")), Fn("type_of"))
-- Index(m, Dot({ 0 }, Index!(k, 1))) &= { "k" }
-- fn i64.g(c) { Index(this, Dot("b", b)) = <[-1]>; Index(this, Dot(2, Dot(a, a))) = <#{"a": 63, "k": 'z'}> }
-- fn i64.f(b) { this = <#{"a": (), "b": 'z'}> }
chains_9102031 : ran (engine (binding (codes "a") (PointerV (codes "f") (values ((BoolV true) ∷ []))) ∷ []) ([]) (renamed (codes "i64") (codes "int") ∷ []) false) (host ([]) (Answers (IntV (pos 63)) None ∷ Answers (CharV 97) None ∷ []) (binding (codes "ns::a") (IntV (pos 5)) ∷ binding (codes "ns::x") UnitV ∷ [])) ((function (Some (codes "i64")) (codes "g") ((codes "c") ∷ []) ((Assignment None (Index (flags false false) ThisPtr (Dot (flags false false) (StringConstant (codes "b")) (property (codes "get$b") (codes "set$b") (codes "b")))) (DynamicConstant (ArrayV (values ((IntV (negsuc 0)) ∷ []))))) ∷ (Assignment None (Index (flags false false) ThisPtr (Dot (flags false false) (IntegerConstant (pos 2)) (Dot (flags false false) (property (codes "get$a") (codes "set$a") (codes "a")) (property (codes "get$a") (codes "set$a") (codes "a"))))) (DynamicConstant (MapV (field (codes "a") (IntV (pos 63)) (field (codes "k") (CharV 122) no_fields))))) ∷ [])) ∷ (function (Some (codes "i64")) (codes "f") ((codes "b") ∷ []) ((Assignment None ThisPtr (DynamicConstant (MapV (field (codes "a") UnitV (field (codes "b") (CharV 122) no_fields))))) ∷ [])) ∷ []) ((Var true false (codes "a") (DynamicConstant (MapV (field (codes "a") (ArrayV (values ((MapV (field (codes "b") (IntV (pos 7)) (field (codes "k") (TextV (195 ∷ 169 ∷ [])) no_fields))) ∷ []))) (field (codes "b") (ArrayV (values ((CharV 98) ∷ (ArrayV (values ((IntV (pos 3)) ∷ UnitV ∷ []))) ∷ (BoolV true) ∷ []))) no_fields))))) ∷ (Var true false (codes "m") (DynamicConstant (ArrayV (values ((ArrayV (values ((BoolV false) ∷ []))) ∷ (TextV (codes "")) ∷ []))))) ∷ (Var true false (codes "x") (DynamicConstant (MapV (field (codes "a") (MapV (field (codes "a") (PointerV (codes "h") (values ([]))) (field (codes "b") (ArrayV (values ((IntV (pos 2)) ∷ UnitV ∷ (IntV (pos 9223372036854775806)) ∷ []))) no_fields))) (field (codes "b") (MapV (field (codes "b") (IntV (pos 3)) (field (codes "k") (ArrayV (values ((TextV (codes "f")) ∷ (TextV (codes "a")) ∷ []))) no_fields))) (field (codes "k") UnitV no_fields)))))) ∷ (Assignment (Some BitAnd) (Index (flags false false) (Variable ([]) (codes "a")) (Index (flags false false) (StringConstant (codes "b")) (Dot (flags false false) (IntegerConstant (negsuc 0)) (property (codes "get$k") (codes "set$k") (codes "k"))))) (BlockExpr (stmts ((ExprStmt (IntegerConstant (pos 1))) ∷ [])))) ∷ (Assignment None (Index (flags false false) (Variable ([]) (codes "a")) (Index (flags false true) (IntegerConstant (pos 2)) (StringConstant (codes "a")))) (FnCall (callee [] (codes "+") false (OfOperator Plus)) (exprs ((Index (flags false false) (Variable ([]) (codes "a")) (Index (flags false true) (IntegerConstant (pos 2)) (StringConstant (codes "a")))) ∷ (FnCall (callee [] (codes "Fn") false NoToken) (exprs ((StringConstant (codes "type_of")) ∷ []))) ∷ [])))) ∷ (Assignment (Some BitAnd) (Index (flags false false) (Variable ([]) (codes "m")) (Dot (flags false false) (BlockExpr (stmts ((ExprStmt (IntegerConstant (pos 0))) ∷ []))) (Index (flags false true) (property (codes "get$k") (codes "set$k") (codes "k")) (IntegerConstant (pos 1))))) (BlockExpr (stmts ((ExprStmt (StringConstant (codes "k"))) ∷ [])))) ∷ []) AtStatements (entry (codes "y") false (ArrayV (values (UnitV ∷ (CharV 97) ∷ []))) ∷ entry (codes "b") false (IntV (pos 3)) ∷ entry (codes "c") false (RangeV (negsuc 0) (pos 2)) ∷ []) 0 ≡ ends (WithThrown (TextV (codes "function name"))) (entry (codes "c") false (RangeV (negsuc 0) (pos 2)) ∷ entry (codes "b") false (IntV (pos 3)) ∷ entry (codes "y") false (ArrayV (values (UnitV ∷ (CharV 97) ∷ []))) ∷ entry (codes "a") true (MapV (field (codes "a") (ArrayV (values ((MapV (field (codes "b") (IntV (pos 7)) (field (codes "k") (TextV (195 ∷ 169 ∷ [])) no_fields))) ∷ []))) (field (codes "b") (ArrayV (values ((CharV 98) ∷ (ArrayV (values ((IntV (pos 3)) ∷ UnitV ∷ []))) ∷ (BoolV true) ∷ []))) no_fields))) ∷ entry (codes "m") true (ArrayV (values ((ArrayV (values ((BoolV false) ∷ []))) ∷ (TextV (codes "")) ∷ []))) ∷ entry (codes "x") true (MapV (field (codes "a") (MapV (field (codes "a") (PointerV (codes "h") (values ([]))) (field (codes "b") (ArrayV (values ((IntV (pos 2)) ∷ UnitV ∷ (IntV (pos 9223372036854775806)) ∷ []))) no_fields))) (field (codes "b") (MapV (field (codes "b") (IntV (pos 3)) (field (codes "k") (ArrayV (values ((TextV (codes "f")) ∷ (TextV (codes "a")) ∷ []))) no_fields))) (field (codes "k") UnitV no_fields)))) ∷ []) None (asked (Some (BoolV true)) (codes "get$k") ([]) ∷ asked (Some (BoolV true)) (codes "set$k") ((IntV (pos 1)) ∷ []) ∷ asked (Some (MapV (field (codes "a") (ArrayV (values ((MapV (field (codes "b") (IntV (pos 7)) (field (codes "k") (TextV (195 ∷ 169 ∷ [])) no_fields))) ∷ []))) (field (codes "b") (ArrayV (values ((CharV 98) ∷ (ArrayV (values ((IntV (pos 3)) ∷ UnitV ∷ []))) ∷ (BoolV true) ∷ []))) no_fields)))) (codes "index$get$") ((IntV (pos 2)) ∷ []) ∷ asked (Some UnitV) (codes "index$get$") ((TextV (codes "a")) ∷ []) ∷ []) 0
unfolding ran
chains_9102031 = refl

-- let a = <#{"a": [-2..=-2, -1], "b": [Fn(g)], "k": [false, 'é', #{"b": -9223372036854775808, "k": 9223372036854775807}]}>
-- let m = <#{"a": 2..4, "b": #{"b": true}, "k": ['z']}>
-- let x = <[[false, "ab"]]>
-- Dot?(a, Index(a, Index!(0, "a"))) ^= { m = <[#{}, 'a', 0]>; block { let y = 7; f!(); y = +(y, 1); print(k!()) } }
-- fn string.f(x) { this = <Fn(g)>; this = <#{"a": 'z', "b": -1}> }
-- fn map.h() { this = <64> }
-- fn h() { this = <['z', Fn(g)]> }
-- fn k() { y }
chains_9102066 : ran (engine ([]) (override (codes "&") ((codes "()") ∷ (codes "Fn") ∷ []) ∷ override (codes "&=") ((codes "map") ∷ []) ∷ override (codes "*=") ((codes "Fn") ∷ []) ∷ override (codes "-") ((codes "i64") ∷ (codes "i64") ∷ []) ∷ override (codes "..=") ((codes "string") ∷ []) ∷ override (codes ">") ((codes "i64") ∷ (codes "i64") ∷ []) ∷ override (codes "^=") ((codes "bool") ∷ (codes "bool") ∷ []) ∷ override (codes "|") ((codes "i64") ∷ (codes "i64") ∷ []) ∷ override (codes "|=") ((codes "i64") ∷ (codes "range=") ∷ []) ∷ []) ([]) false) (host (named (codes "get$a") (Answers (PointerV (codes "h") (values ([]))) (Some (MapV no_fields)) ∷ []) ∷ named (codes "f") (Answers (CharV 233) None ∷ Answers UnitV (Some (CharV 233)) ∷ Answers UnitV None ∷ []) ∷ []) ([]) (binding (codes "ns::a") (IntV (pos 5)) ∷ binding (codes "ns::x") (PointerV (codes "g") (values ([]))) ∷ [])) ((function (Some (codes "string")) (codes "f") ((codes "x") ∷ []) ((Assignment None ThisPtr (DynamicConstant (PointerV (codes "g") (values ([]))))) ∷ (Assignment None ThisPtr (DynamicConstant (MapV (field (codes "a") (CharV 122) (field (codes "b") (IntV (negsuc 0)) no_fields))))) ∷ [])) ∷ (function (Some (codes "map")) (codes "h") ([]) ((Assignment None ThisPtr (DynamicConstant (IntV (pos 64)))) ∷ [])) ∷ (function None (codes "h") ([]) ((Assignment None ThisPtr (DynamicConstant (ArrayV (values ((CharV 122) ∷ (PointerV (codes "g") (values ((IntV (pos 0)) ∷ []))) ∷ []))))) ∷ [])) ∷ (function None (codes "k") ([]) ((ExprStmt (Variable ([]) (codes "y"))) ∷ [])) ∷ []) ((Var false false (codes "a") (DynamicConstant (MapV (field (codes "a") (ArrayV (values ((RangeInclusiveV (negsuc 1) (negsuc 1)) ∷ (IntV (negsuc 0)) ∷ []))) (field (codes "b") (ArrayV (values ((PointerV (codes "g") (values ([]))) ∷ []))) (field (codes "k") (ArrayV (values ((BoolV false) ∷ (CharV 233) ∷ (MapV (field (codes "b") (IntV (negsuc 9223372036854775807)) (field (codes "k") (IntV (pos 9223372036854775807)) no_fields))) ∷ []))) no_fields)))))) ∷ (Var false false (codes "m") (DynamicConstant (MapV (field (codes "a") (RangeV (pos 2) (pos 4)) (field (codes "b") (MapV (field (codes "b") (BoolV true) no_fields)) (field (codes "k") (ArrayV (values ((CharV 122) ∷ []))) no_fields)))))) ∷ (Var false false (codes "x") (DynamicConstant (ArrayV (values ((ArrayV (values ((BoolV false) ∷ (TextV (codes "ab")) ∷ []))) ∷ []))))) ∷ (Assignment (Some BitXor) (Dot (flags true false) (Variable ([]) (codes "a")) (Index (flags false false) (property (codes "get$a") (codes "set$a") (codes "a")) (Index (flags false true) (IntegerConstant (pos 0)) (StringConstant (codes "a"))))) (BlockExpr (stmts ((Assignment None (Variable ([]) (codes "m")) (DynamicConstant (ArrayV (values ((MapV no_fields) ∷ (CharV 97) ∷ (IntV (pos 0)) ∷ []))))) ∷ (Block (stmts ((Var false false (codes "y") (IntegerConstant (pos 7))) ∷ (ExprStmt (FnCall (callee [] (codes "f") true NoToken) (exprs ([])))) ∷ (Assignment None (Variable ([]) (codes "y")) (FnCall (callee [] (codes "+") false (OfOperator Plus)) (exprs ((Variable ([]) (codes "y")) ∷ (IntegerConstant (pos 1)) ∷ [])))) ∷ (ExprStmt (FnCall (callee [] (codes "print") false NoToken) (exprs ((FnCall (callee [] (codes "k") true NoToken) (exprs ([]))) ∷ [])))) ∷ []))) ∷ [])))) ∷ []) AtStatements (entry (codes "a") false (ArrayV (values (UnitV ∷ (TextV (195 ∷ 169 ∷ [])) ∷ []))) ∷ []) 1 ≡ ends (WithValue UnitV) (entry (codes "a") false (ArrayV (values (UnitV ∷ (TextV (195 ∷ 169 ∷ [])) ∷ []))) ∷ entry (codes "a") false (MapV (field (codes "a") (ArrayV (values ((RangeInclusiveV (negsuc 1) (negsuc 1)) ∷ (IntV (negsuc 0)) ∷ []))) (field (codes "b") (ArrayV (values ((PointerV (codes "g") (values ([]))) ∷ []))) (field (codes "k") (ArrayV (values ((BoolV false) ∷ (CharV 233) ∷ (MapV (field (codes "b") (IntV (negsuc 9223372036854775807)) (field (codes "k") (IntV (pos 9223372036854775807)) no_fields))) ∷ []))) no_fields)))) ∷ entry (codes "m") false (ArrayV (values ((MapV no_fields) ∷ (CharV 97) ∷ (IntV (pos 0)) ∷ []))) ∷ entry (codes "x") false (ArrayV (values ((ArrayV (values ((BoolV false) ∷ (TextV (codes "ab")) ∷ []))) ∷ []))) ∷ []) None (asked None (codes "f") ([]) ∷ asked None (codes "print") ((IntV (pos 8)) ∷ []) ∷ asked (Some (RangeInclusiveV (negsuc 1) (negsuc 1))) (codes "index$get$") ((TextV (codes "a")) ∷ []) ∷ asked None (codes "^") (UnitV ∷ UnitV ∷ []) ∷ asked (Some (RangeInclusiveV (negsuc 1) (negsuc 1))) (codes "index$set$") ((TextV (codes "a")) ∷ UnitV ∷ []) ∷ []) 0
unfolding ran
chains_9102066 = refl

-- let a = <#{"a": #{"b": 64}, "b": #{"k": Fn(g)}, "k": [Fn(f), 0..0, #{"a": 0, "k": 1}]}>
-- let m = <[#{"a": "a", "b": 63, "k": ()}, #{"a": Fn(h), "b": -1, "k": 1}, 'z']>
-- const x = <#{"k": ["b"]}>
-- let b = Dot(a, Dot(f(), Dot(h(), push(m))))
-- Dot(m, b) = +(Dot(m, b), 1)
-- try { Dot(x, Index(b, Dot("a", curry(())))) } catch c {}
-- Dot(x, b) += { "k" }
-- fn map.f() { this = <[0]>; this = <"">; throw this }
chains_9102127 : ran (engine ([]) (override (codes "**") ((codes "char") ∷ []) ∷ override (codes "<<=") ((codes "i64") ∷ (codes "i64") ∷ []) ∷ override (codes "|=") ((codes "bool") ∷ (codes "range") ∷ []) ∷ []) ([]) false) (host (named (codes "+") ([]) ∷ []) (Answers (CharV 98) None ∷ []) (binding (codes "ns::a") (IntV (pos 5)) ∷ binding (codes "ns::x") (IntV (pos 0)) ∷ [])) ((function (Some (codes "map")) (codes "f") ([]) ((Assignment None ThisPtr (DynamicConstant (ArrayV (values ((IntV (pos 0)) ∷ []))))) ∷ (Assignment None ThisPtr (DynamicConstant (TextV (codes "")))) ∷ (Return true false (an_expr ThisPtr)) ∷ [])) ∷ []) ((Var false false (codes "a") (DynamicConstant (MapV (field (codes "a") (MapV (field (codes "b") (IntV (pos 64)) no_fields)) (field (codes "b") (MapV (field (codes "k") (PointerV (codes "g") (values ([]))) no_fields)) (field (codes "k") (ArrayV (values ((PointerV (codes "f") (values ((TextV (codes "b")) ∷ []))) ∷ (RangeV (pos 0) (pos 0)) ∷ (MapV (field (codes "a") (IntV (pos 0)) (field (codes "k") (IntV (pos 1)) no_fields))) ∷ []))) no_fields)))))) ∷ (Var false false (codes "m") (DynamicConstant (ArrayV (values ((MapV (field (codes "a") (TextV (codes "a")) (field (codes "b") (IntV (pos 63)) (field (codes "k") UnitV no_fields)))) ∷ (MapV (field (codes "a") (PointerV (codes "h") (values ([]))) (field (codes "b") (IntV (negsuc 0)) (field (codes "k") (IntV (pos 1)) no_fields)))) ∷ (CharV 122) ∷ []))))) ∷ (Var true false (codes "x") (DynamicConstant (MapV (field (codes "k") (ArrayV (values ((TextV (codes "b")) ∷ []))) no_fields)))) ∷ (Var false false (codes "b") (Dot (flags false false) (Variable ([]) (codes "a")) (Dot (flags false false) (MethodCall (callee [] (codes "f") false NoToken) (exprs ([]))) (Dot (flags false false) (MethodCall (callee [] (codes "h") false NoToken) (exprs ([]))) (MethodCall (callee [] (codes "push") false NoToken) (exprs ((Variable ([]) (codes "m")) ∷ []))))))) ∷ (Assignment None (Dot (flags false false) (Variable ([]) (codes "m")) (property (codes "get$b") (codes "set$b") (codes "b"))) (FnCall (callee [] (codes "+") false (OfOperator Plus)) (exprs ((Dot (flags false false) (Variable ([]) (codes "m")) (property (codes "get$b") (codes "set$b") (codes "b"))) ∷ (IntegerConstant (pos 1)) ∷ [])))) ∷ (TryCatch (Variable ([]) (codes "c")) (stmts ((ExprStmt (Dot (flags false false) (Variable ([]) (codes "x")) (Index (flags false false) (property (codes "get$b") (codes "set$b") (codes "b")) (Dot (flags false false) (StringConstant (codes "a")) (MethodCall (callee [] (codes "curry") false NoToken) (exprs (UnitConstant ∷ []))))))) ∷ [])) (stmts ([]))) ∷ (Assignment (Some Plus) (Dot (flags false false) (Variable ([]) (codes "x")) (property (codes "get$b") (codes "set$b") (codes "b"))) (BlockExpr (stmts ((ExprStmt (StringConstant (codes "k"))) ∷ [])))) ∷ []) AtStatements (entry (codes "m") true (TextV (codes "b")) ∷ entry (codes "y") true (ArrayV (values ((IntV (pos 64)) ∷ (IntV (pos 9223372036854775806)) ∷ []))) ∷ []) 10 ≡ ends (WithThrown (TextV (codes ""))) (entry (codes "y") true (ArrayV (values ((IntV (pos 64)) ∷ (IntV (pos 9223372036854775806)) ∷ []))) ∷ entry (codes "m") true (TextV (codes "b")) ∷ entry (codes "a") false (MapV (field (codes "a") (MapV (field (codes "b") (IntV (pos 64)) no_fields)) (field (codes "b") (MapV (field (codes "k") (PointerV (codes "g") (values ([]))) no_fields)) (field (codes "k") (ArrayV (values ((PointerV (codes "f") (values ((TextV (codes "b")) ∷ []))) ∷ (RangeV (pos 0) (pos 0)) ∷ (MapV (field (codes "a") (IntV (pos 0)) (field (codes "k") (IntV (pos 1)) no_fields))) ∷ []))) no_fields)))) ∷ entry (codes "m") false (ArrayV (values ((MapV (field (codes "a") (TextV (codes "a")) (field (codes "b") (IntV (pos 63)) (field (codes "k") UnitV no_fields)))) ∷ (MapV (field (codes "a") (PointerV (codes "h") (values ([]))) (field (codes "b") (IntV (negsuc 0)) (field (codes "k") (IntV (pos 1)) no_fields)))) ∷ (CharV 122) ∷ []))) ∷ entry (codes "x") true (MapV (field (codes "k") (ArrayV (values ((TextV (codes "b")) ∷ []))) no_fields)) ∷ []) None ([]) 9
unfolding ran
chains_9102127 = refl

-- let a = <[(), #{"a": true}]>
-- let m = <#{"b": ["", (), 9223372036854775806]}>
-- let x = <[[false, true, ()], #{"a": 9223372036854775807, "b": ['b'], "k": -2}]>
-- Index(a, Index(-1, Index!({ a = <[Fn(f)]>; 1 }, "b"))) ^= { "a" }
-- Index(x, Index({ x = <#{"a": (), "b": 0..=1}>; 0 }, Dot("a", b))) = { -1 }
-- Dot(x, Dot(a, k)) = +(Dot(x, Dot(a, k)), 1)
-- fn ().g() { Dot(this, Index!(b, "k")) = <Fn(f)>; throw this }
-- fn ().push() { this = <#{"b": 'é', "k": 7}>; return this }
-- fn string.g() { this = <#{"a": 0, "b": (), "k": #{"k": false}}> }
chains_9102194 : ran (engine (binding (codes "b") (TextV (195 ∷ 169 ∷ [])) ∷ binding (codes "y") (IntV (pos 7)) ∷ []) ([]) (renamed (codes "i64") (codes "int") ∷ []) true) (host (named (codes "index$get$") (Answers (RangeV (pos 3) (pos 6)) None ∷ Answers (IntV (negsuc 0)) (Some (IntV (pos 0))) ∷ Answers (IntV (pos 0)) (Some (MapV (field (codes "b") UnitV no_fields))) ∷ Answers (PointerV (codes "f") (values ([]))) None ∷ Answers (CharV 98) (Some (BoolV false)) ∷ []) ∷ named (codes "h") (Answers (MapV (field (codes "a") UnitV (field (codes "b") (BoolV true) no_fields))) (Some (PointerV (codes "f") (values ([])))) ∷ AnswersThrow (PointerV (codes "g") (values ((TextV (codes "a")) ∷ []))) ∷ []) ∷ []) (Answers (IntV (pos 9223372036854775806)) None ∷ []) (binding (codes "ns::a") (IntV (pos 5)) ∷ binding (codes "ns::x") (IntV (pos 7)) ∷ [])) ((function (Some (codes "()")) (codes "g") ([]) ((Assignment None (Dot (flags false false) ThisPtr (Index (flags false true) (property (codes "get$b") (codes "set$b") (codes "b")) (StringConstant (codes "k")))) (DynamicConstant (PointerV (codes "f") (values ((CharV 98) ∷ []))))) ∷ (Return true false (an_expr ThisPtr)) ∷ [])) ∷ (function (Some (codes "()")) (codes "push") ([]) ((Assignment None ThisPtr (DynamicConstant (MapV (field (codes "b") (CharV 233) (field (codes "k") (IntV (pos 7)) no_fields))))) ∷ (Return false false (an_expr ThisPtr)) ∷ [])) ∷ (function (Some (codes "string")) (codes "g") ([]) ((Assignment None ThisPtr (DynamicConstant (MapV (field (codes "a") (IntV (pos 0)) (field (codes "b") UnitV (field (codes "k") (MapV (field (codes "k") (BoolV false) no_fields)) no_fields)))))) ∷ [])) ∷ []) ((Var false false (codes "a") (DynamicConstant (ArrayV (values (UnitV ∷ (MapV (field (codes "a") (BoolV true) no_fields)) ∷ []))))) ∷ (Var false false (codes "m") (DynamicConstant (MapV (field (codes "b") (ArrayV (values ((TextV (codes "")) ∷ UnitV ∷ (IntV (pos 9223372036854775806)) ∷ []))) no_fields)))) ∷ (Var false false (codes "x") (DynamicConstant (ArrayV (values ((ArrayV (values ((BoolV false) ∷ (BoolV true) ∷ UnitV ∷ []))) ∷ (MapV (field (codes "a") (IntV (pos 9223372036854775807)) (field (codes "b") (ArrayV (values ((CharV 98) ∷ []))) (field (codes "k") (IntV (negsuc 1)) no_fields)))) ∷ []))))) ∷ (Assignment (Some BitXor) (Index (flags false false) (Variable ([]) (codes "a")) (Index (flags false false) (IntegerConstant (negsuc 0)) (Index (flags false true) (BlockExpr (stmts ((Assignment None (Variable ([]) (codes "a")) (DynamicConstant (ArrayV (values ((PointerV (codes "f") (values ((CharV 98) ∷ []))) ∷ []))))) ∷ (ExprStmt (IntegerConstant (pos 1))) ∷ []))) (StringConstant (codes "b"))))) (BlockExpr (stmts ((ExprStmt (StringConstant (codes "a"))) ∷ [])))) ∷ (Assignment None (Index (flags false false) (Variable ([]) (codes "x")) (Index (flags false false) (BlockExpr (stmts ((Assignment None (Variable ([]) (codes "x")) (DynamicConstant (MapV (field (codes "a") UnitV (field (codes "b") (RangeInclusiveV (pos 0) (pos 1)) no_fields))))) ∷ (ExprStmt (IntegerConstant (pos 0))) ∷ []))) (Dot (flags false false) (StringConstant (codes "a")) (property (codes "get$b") (codes "set$b") (codes "b"))))) (BlockExpr (stmts ((ExprStmt (IntegerConstant (negsuc 0))) ∷ [])))) ∷ (Assignment None (Dot (flags false false) (Variable ([]) (codes "x")) (Dot (flags false false) (property (codes "get$a") (codes "set$a") (codes "a")) (property (codes "get$k") (codes "set$k") (codes "k")))) (FnCall (callee [] (codes "+") false (OfOperator Plus)) (exprs ((Dot (flags false false) (Variable ([]) (codes "x")) (Dot (flags false false) (property (codes "get$a") (codes "set$a") (codes "a")) (property (codes "get$k") (codes "set$k") (codes "k")))) ∷ (IntegerConstant (pos 1)) ∷ [])))) ∷ []) AtStatements (entry (codes "c") true (MapV (field (codes "b") (CharV 97) no_fields)) ∷ []) 0 ≡ ends (WithStuck NoPlace) (entry (codes "c") true (MapV (field (codes "b") (CharV 97) no_fields)) ∷ entry (codes "a") false (ArrayV (values ((PointerV (codes "f") (values ((CharV 98) ∷ []))) ∷ []))) ∷ entry (codes "m") false (MapV (field (codes "b") (ArrayV (values ((TextV (codes "")) ∷ UnitV ∷ (IntV (pos 9223372036854775806)) ∷ []))) no_fields)) ∷ entry (codes "x") false (ArrayV (values ((ArrayV (values ((BoolV false) ∷ (BoolV true) ∷ UnitV ∷ []))) ∷ (MapV (field (codes "a") (IntV (pos 9223372036854775807)) (field (codes "b") (ArrayV (values ((CharV 98) ∷ []))) (field (codes "k") (IntV (negsuc 1)) no_fields)))) ∷ []))) ∷ []) None (asked (Some (PointerV (codes "f") (values ((CharV 98) ∷ [])))) (codes "index$get$") ((IntV (pos 1)) ∷ []) ∷ asked (Some (RangeV (pos 3) (pos 6))) (codes "index$get$") ((TextV (codes "b")) ∷ []) ∷ asked None (codes "^") ((IntV (negsuc 0)) ∷ (TextV (codes "a")) ∷ []) ∷ []) 0
unfolding ran
chains_9102194 = refl

-- let a = <#{"a": [true, "ab"], "b": [[]], "k": ['z', 'z', ()]}>
-- let m = <#{"a": ["ab", 'a'], "b": [9223372036854775806, 'a']}>
-- let x = <#{"a": [(), #{"a": 'é', "b": ()}, 'z'], "b": 7, "k": #{"a": 0..1, "b": ()}}>
-- Index(x, Dot(0, b)) <<= { x = <[1, ()]>; !(false) }
-- Dot(m, b) = { x = <[Fn(f)]>; 0 }
-- try { Dot(x, Index!(b, 0)) } catch c {}
-- fn i64.g() { Index!(this, "a") = <#{"a": 'a', "b": 'é', "k": false}>; this = <["é"]>; return this }
-- fn array.push() {}
chains_9102368 : ran (engine ([]) (override (codes "&") ((codes "i64") ∷ (codes "i64") ∷ []) ∷ override (codes "..") ((codes "Fn") ∷ (codes "range") ∷ []) ∷ override (codes "<=") ((codes "i64") ∷ []) ∷ []) ([]) true) (host ([]) (Answers (CharV 122) (Some (BoolV false)) ∷ Answers (TextV (codes "f")) (Some UnitV) ∷ Answers (MapV (field (codes "b") UnitV (field (codes "k") (BoolV true) no_fields))) (Some UnitV) ∷ AnswersThrow (CharV 97) ∷ []) (binding (codes "ns::a") (IntV (pos 5)) ∷ binding (codes "ns::x") (PointerV (codes "f") (values ([]))) ∷ [])) ((function (Some (codes "i64")) (codes "g") ([]) ((Assignment None (Index (flags false true) ThisPtr (StringConstant (codes "a"))) (DynamicConstant (MapV (field (codes "a") (CharV 97) (field (codes "b") (CharV 233) (field (codes "k") (BoolV false) no_fields)))))) ∷ (Assignment None ThisPtr (DynamicConstant (ArrayV (values ((TextV (195 ∷ 169 ∷ [])) ∷ []))))) ∷ (Return false false (an_expr ThisPtr)) ∷ [])) ∷ (function (Some (codes "array")) (codes "push") ([]) ([])) ∷ []) ((Var false false (codes "a") (DynamicConstant (MapV (field (codes "a") (ArrayV (values ((BoolV true) ∷ (TextV (codes "ab")) ∷ []))) (field (codes "b") (ArrayV (values ((ArrayV (values ([]))) ∷ []))) (field (codes "k") (ArrayV (values ((CharV 122) ∷ (CharV 122) ∷ UnitV ∷ []))) no_fields)))))) ∷ (Var false false (codes "m") (DynamicConstant (MapV (field (codes "a") (ArrayV (values ((TextV (codes "ab")) ∷ (CharV 97) ∷ []))) (field (codes "b") (ArrayV (values ((IntV (pos 9223372036854775806)) ∷ (CharV 97) ∷ []))) no_fields))))) ∷ (Var false false (codes "x") (DynamicConstant (MapV (field (codes "a") (ArrayV (values (UnitV ∷ (MapV (field (codes "a") (CharV 233) (field (codes "b") UnitV no_fields))) ∷ (CharV 122) ∷ []))) (field (codes "b") (IntV (pos 7)) (field (codes "k") (MapV (field (codes "a") (RangeV (pos 0) (pos 1)) (field (codes "b") UnitV no_fields))) no_fields)))))) ∷ (Assignment (Some ShiftLeft) (Index (flags false false) (Variable ([]) (codes "x")) (Dot (flags false false) (IntegerConstant (pos 0)) (property (codes "get$b") (codes "set$b") (codes "b")))) (BlockExpr (stmts ((Assignment None (Variable ([]) (codes "x")) (DynamicConstant (ArrayV (values ((IntV (pos 1)) ∷ UnitV ∷ []))))) ∷ (ExprStmt (FnCall (callee [] (codes "!") false (OfOperator Not)) (exprs ((BoolConstant false) ∷ [])))) ∷ [])))) ∷ (Assignment None (Dot (flags false false) (Variable ([]) (codes "m")) (property (codes "get$b") (codes "set$b") (codes "b"))) (BlockExpr (stmts ((Assignment None (Variable ([]) (codes "x")) (DynamicConstant (ArrayV (values ((PointerV (codes "f") (values ((IntV (pos 7)) ∷ []))) ∷ []))))) ∷ (ExprStmt (IntegerConstant (pos 0))) ∷ [])))) ∷ (TryCatch (Variable ([]) (codes "c")) (stmts ((ExprStmt (Dot (flags false false) (Variable ([]) (codes "x")) (Index (flags false true) (property (codes "get$b") (codes "set$b") (codes "b")) (IntegerConstant (pos 0))))) ∷ [])) (stmts ([]))) ∷ []) AtStatements (entry (codes "m") false (ArrayV (values ((CharV 233) ∷ (BoolV true) ∷ UnitV ∷ []))) ∷ entry (codes "a") false (PointerV (codes "g") (values ([]))) ∷ []) 3 ≡ ends (WithValue UnitV) (entry (codes "a") false (PointerV (codes "g") (values ([]))) ∷ entry (codes "m") false (ArrayV (values ((CharV 233) ∷ (BoolV true) ∷ UnitV ∷ []))) ∷ entry (codes "a") false (MapV (field (codes "a") (ArrayV (values ((BoolV true) ∷ (TextV (codes "ab")) ∷ []))) (field (codes "b") (ArrayV (values ((ArrayV (values ([]))) ∷ []))) (field (codes "k") (ArrayV (values ((CharV 122) ∷ (CharV 122) ∷ UnitV ∷ []))) no_fields)))) ∷ entry (codes "m") false (MapV (field (codes "a") (ArrayV (values ((TextV (codes "ab")) ∷ (CharV 97) ∷ []))) (field (codes "b") (IntV (pos 0)) no_fields))) ∷ entry (codes "x") false (ArrayV (values ((PointerV (codes "f") (values ((IntV (pos 7)) ∷ []))) ∷ []))) ∷ []) None (asked (Some (IntV (pos 1))) (codes "get$b") ([]) ∷ asked None (codes "<<") ((CharV 122) ∷ (BoolV true) ∷ []) ∷ asked (Some (IntV (pos 1))) (codes "set$b") ((TextV (codes "f")) ∷ []) ∷ asked (Some (ArrayV (values ((PointerV (codes "f") (values ((IntV (pos 7)) ∷ []))) ∷ [])))) (codes "get$b") ([]) ∷ []) 3
unfolding ran
chains_9102368 = refl

-- let a = <[(), "f"]>
-- let m = <#{"k": [["ab"], -2..-1]}>
-- let x = <#{"a": #{"k": 0..=3}, "k": [false, 3]}>
-- Index(m, Index({ m = <[#{"b": 9223372036854775806}]>; 0 }, Dot("k", a))) = { a = <#{"k": 'z'}>; 2 }
-- let b = Index(a, Dot({ call(<Fn(k)>, 1) }, g(ns::x)))
-- Dot(a, b) = { "a" }
-- fn array.push() { Dot!(this, k) = <#{"b": -1, "k": 3..=4}>; this = <["b", false, 'a']> }
chains_9102418 : ran (engine (binding (codes "a") (TextV (195 ∷ 169 ∷ [])) ∷ []) ([]) ([]) false) (host (named (codes "h") ([]) ∷ named (codes "index$get$") (Answers (MapV (field (codes "b") (CharV 98) (field (codes "k") (IntV (negsuc 0)) no_fields))) None ∷ Answers (MapV no_fields) None ∷ Answers (PointerV (codes "h") (values ((TextV (codes "ab")) ∷ []))) None ∷ Answers (MapV (field (codes "a") (TextV (195 ∷ 169 ∷ [])) no_fields)) None ∷ []) ∷ []) (Answers (MapV (field (codes "a") UnitV no_fields)) None ∷ Answers (RangeInclusiveV (pos 2) (pos 5)) None ∷ []) (binding (codes "ns::a") (IntV (pos 5)) ∷ binding (codes "ns::x") (IntV (negsuc 1)) ∷ [])) ((function (Some (codes "array")) (codes "push") ([]) ((Assignment None (Dot (flags false true) ThisPtr (property (codes "get$k") (codes "set$k") (codes "k"))) (DynamicConstant (MapV (field (codes "b") (IntV (negsuc 0)) (field (codes "k") (RangeInclusiveV (pos 3) (pos 4)) no_fields))))) ∷ (Assignment None ThisPtr (DynamicConstant (ArrayV (values ((TextV (codes "b")) ∷ (BoolV false) ∷ (CharV 97) ∷ []))))) ∷ [])) ∷ []) ((Var false false (codes "a") (DynamicConstant (ArrayV (values (UnitV ∷ (TextV (codes "f")) ∷ []))))) ∷ (Var false false (codes "m") (DynamicConstant (MapV (field (codes "k") (ArrayV (values ((ArrayV (values ((TextV (codes "ab")) ∷ []))) ∷ (RangeV (negsuc 1) (negsuc 0)) ∷ []))) no_fields)))) ∷ (Var false false (codes "x") (DynamicConstant (MapV (field (codes "a") (MapV (field (codes "k") (RangeInclusiveV (pos 0) (pos 3)) no_fields)) (field (codes "k") (ArrayV (values ((BoolV false) ∷ (IntV (pos 3)) ∷ []))) no_fields))))) ∷ (Assignment None (Index (flags false false) (Variable ([]) (codes "m")) (Index (flags false false) (BlockExpr (stmts ((Assignment None (Variable ([]) (codes "m")) (DynamicConstant (ArrayV (values ((MapV (field (codes "b") (IntV (pos 9223372036854775806)) no_fields)) ∷ []))))) ∷ (ExprStmt (IntegerConstant (pos 0))) ∷ []))) (Dot (flags false false) (StringConstant (codes "k")) (property (codes "get$a") (codes "set$a") (codes "a"))))) (BlockExpr (stmts ((Assignment None (Variable ([]) (codes "a")) (DynamicConstant (MapV (field (codes "k") (CharV 122) no_fields)))) ∷ (ExprStmt (IntegerConstant (pos 2))) ∷ [])))) ∷ (Var false false (codes "b") (Index (flags false false) (Variable ([]) (codes "a")) (Dot (flags false false) (BlockExpr (stmts ((ExprStmt (FnCall (callee [] (codes "call") false NoToken) (exprs ((DynamicConstant (PointerV (codes "k") (values (UnitV ∷ [])))) ∷ (IntegerConstant (pos 1)) ∷ [])))) ∷ []))) (MethodCall (callee [] (codes "g") false NoToken) (exprs ((Variable ((codes "ns") ∷ []) (codes "x")) ∷ [])))))) ∷ (Assignment None (Dot (flags false false) (Variable ([]) (codes "a")) (property (codes "get$b") (codes "set$b") (codes "b"))) (BlockExpr (stmts ((ExprStmt (StringConstant (codes "a"))) ∷ [])))) ∷ []) AtStatements ([]) 10 ≡ ends (WithValue UnitV) (entry (codes "a") false (MapV (field (codes "b") (TextV (codes "a")) (field (codes "k") (CharV 122) no_fields))) ∷ entry (codes "m") false (ArrayV (values ((MapV (field (codes "b") (IntV (pos 9223372036854775806)) no_fields)) ∷ []))) ∷ entry (codes "x") false (MapV (field (codes "a") (MapV (field (codes "k") (RangeInclusiveV (pos 0) (pos 3)) no_fields)) (field (codes "k") (ArrayV (values ((BoolV false) ∷ (IntV (pos 3)) ∷ []))) no_fields))) ∷ entry (codes "b") false UnitV ∷ []) None (asked (Some UnitV) (codes "set$a") ((IntV (pos 2)) ∷ []) ∷ asked None (codes "k") (UnitV ∷ (IntV (pos 1)) ∷ []) ∷ asked (Some (MapV (field (codes "k") (CharV 122) no_fields))) (codes "index$get$") ((RangeInclusiveV (pos 2) (pos 5)) ∷ []) ∷ asked (Some (PointerV (codes "h") (values ((TextV (codes "ab")) ∷ [])))) (codes "g") ((IntV (negsuc 1)) ∷ []) ∷ []) 10
unfolding ran
chains_9102418 = refl

-- let a = <3..6>
-- const m = <#{"a": [Fn(f), 'b', ()]}>
-- let x = <[#{"a": [()], "b": 64, "k": -1}]>
-- let x = Dot?(x, Dot?(f(), f()))
-- fn string.h() { this = <[-9223372036854775808, Fn(g)]>; this = <[['b']]>; throw this }
-- fn h() { this = <#{"a": Fn(h), "b": -2..=-1}> }
-- fn map.push(m) {}
-- fn array.f() { this = ..=(1, ()); this = <[Fn(f), true]> }
chains_9102489 : ran (engine ([]) (override (codes "!") ((codes "i64") ∷ (codes "i64") ∷ []) ∷ override (codes "**") ((codes "Fn") ∷ []) ∷ override (codes "..=") ((codes "range") ∷ (codes "i64") ∷ []) ∷ []) ([]) true) (host ([]) (AnswersThrow (BoolV true) ∷ Answers (PointerV (codes "g") (values ((BoolV true) ∷ []))) (Some (CharV 233)) ∷ Answers (BoolV true) None ∷ []) (binding (codes "ns::a") (IntV (pos 5)) ∷ binding (codes "ns::x") UnitV ∷ [])) ((function (Some (codes "string")) (codes "h") ([]) ((Assignment None ThisPtr (DynamicConstant (ArrayV (values ((IntV (negsuc 9223372036854775807)) ∷ (PointerV (codes "g") (values ([]))) ∷ []))))) ∷ (Assignment None ThisPtr (DynamicConstant (ArrayV (values ((ArrayV (values ((CharV 98) ∷ []))) ∷ []))))) ∷ (Return true false (an_expr ThisPtr)) ∷ [])) ∷ (function None (codes "h") ([]) ((Assignment None ThisPtr (DynamicConstant (MapV (field (codes "a") (PointerV (codes "h") (values (UnitV ∷ []))) (field (codes "b") (RangeInclusiveV (negsuc 1) (negsuc 0)) no_fields))))) ∷ [])) ∷ (function (Some (codes "map")) (codes "push") ((codes "m") ∷ []) ([])) ∷ (function (Some (codes "array")) (codes "f") ([]) ((Assignment None ThisPtr (FnCall (callee [] (codes "..=") false (OfOperator Through)) (exprs ((IntegerConstant (pos 1)) ∷ UnitConstant ∷ [])))) ∷ (Assignment None ThisPtr (DynamicConstant (ArrayV (values ((PointerV (codes "f") (values (UnitV ∷ []))) ∷ (BoolV true) ∷ []))))) ∷ [])) ∷ []) ((Var false false (codes "a") (DynamicConstant (RangeV (pos 3) (pos 6)))) ∷ (Var true false (codes "m") (DynamicConstant (MapV (field (codes "a") (ArrayV (values ((PointerV (codes "f") (values ((IntV (pos 1)) ∷ []))) ∷ (CharV 98) ∷ UnitV ∷ []))) no_fields)))) ∷ (Var false false (codes "x") (DynamicConstant (ArrayV (values ((MapV (field (codes "a") (ArrayV (values (UnitV ∷ []))) (field (codes "b") (IntV (pos 64)) (field (codes "k") (IntV (negsuc 0)) no_fields)))) ∷ []))))) ∷ (Var false false (codes "x") (Dot (flags true false) (Variable ([]) (codes "x")) (Dot (flags true false) (MethodCall (callee [] (codes "f") false NoToken) (exprs ([]))) (MethodCall (callee [] (codes "f") false NoToken) (exprs ([])))))) ∷ []) AtStatements (entry (codes "x") true (PointerV (codes "h") (values ([]))) ∷ entry (codes "a") true (IntV (negsuc 0)) ∷ []) 3 ≡ ends (WithValue UnitV) (entry (codes "a") true (IntV (negsuc 0)) ∷ entry (codes "x") true (PointerV (codes "h") (values ([]))) ∷ entry (codes "a") false (RangeV (pos 3) (pos 6)) ∷ entry (codes "m") true (MapV (field (codes "a") (ArrayV (values ((PointerV (codes "f") (values ((IntV (pos 1)) ∷ []))) ∷ (CharV 98) ∷ UnitV ∷ []))) no_fields)) ∷ entry (codes "x") false (ArrayV (values ((PointerV (codes "f") (values (UnitV ∷ []))) ∷ (BoolV true) ∷ []))) ∷ entry (codes "x") false UnitV ∷ []) None ([]) 2
unfolding ran
chains_9102489 = refl

-- let a = <#{"a": #{"a": 'z', "b": 2}, "b": #{"b": #{"b": ()}, "k": #{"a": 3, "k": 'z'}}}>
-- let m = <#{"a": #{"a": Fn(h), "b": 2, "k": #{}}}>
-- let x = <[[Fn(f), -2], [(), 'z', ()], 9223372036854775806]>
-- Dot?(a, Index(b, Index!("k", { a = <#{"b": Fn(g), "k": "é"}>; 0 }))) |= { "a" }
-- fn g() { this = <[[()]]> }
-- fn string.f(b) { this = <64> }
-- fn map.push() { this = <Fn(g)> }
chains_9102535 : ran (engine (binding (codes "y") (IntV (pos 1)) ∷ binding (codes "x") (PointerV (codes "h") (values ([]))) ∷ []) (override (codes "&") ((codes "i64") ∷ (codes "i64") ∷ []) ∷ override (codes "&=") ((codes "i64") ∷ (codes "char") ∷ []) ∷ override (codes "&=") ((codes "i64") ∷ (codes "i64") ∷ []) ∷ override (codes "&=") ((codes "range") ∷ (codes "Fn") ∷ []) ∷ override (codes "**=") ((codes "bool") ∷ []) ∷ override (codes "..") ((codes "Fn") ∷ (codes "array") ∷ []) ∷ override (codes "..") ((codes "bool") ∷ []) ∷ override (codes "^=") ((codes "map") ∷ []) ∷ override (codes "|") ((codes "string") ∷ (codes "char") ∷ []) ∷ override (codes "|=") ((codes "()") ∷ (codes "i64") ∷ []) ∷ override (codes "|=") ((codes "i64") ∷ (codes "i64") ∷ []) ∷ []) ([]) true) (host (named (codes "+") (Answers (RangeV (pos 1) (pos 3)) None ∷ Answers (PointerV (codes "f") (values ([]))) None ∷ []) ∷ named (codes "f") (AnswersThrow (TextV (codes "a")) ∷ Answers (PointerV (codes "h") (values ([]))) None ∷ []) ∷ []) (Answers (IntV (pos 9223372036854775807)) None ∷ Answers (BoolV true) None ∷ []) (binding (codes "ns::a") (IntV (pos 5)) ∷ binding (codes "ns::x") (BoolV false) ∷ [])) ((function None (codes "g") ([]) ((Assignment None ThisPtr (DynamicConstant (ArrayV (values ((ArrayV (values (UnitV ∷ []))) ∷ []))))) ∷ [])) ∷ (function (Some (codes "string")) (codes "f") ((codes "b") ∷ []) ((Assignment None ThisPtr (DynamicConstant (IntV (pos 64)))) ∷ [])) ∷ (function (Some (codes "map")) (codes "push") ([]) ((Assignment None ThisPtr (DynamicConstant (PointerV (codes "g") (values ((IntV (pos 64)) ∷ []))))) ∷ [])) ∷ []) ((Var false false (codes "a") (DynamicConstant (MapV (field (codes "a") (MapV (field (codes "a") (CharV 122) (field (codes "b") (IntV (pos 2)) no_fields))) (field (codes "b") (MapV (field (codes "b") (MapV (field (codes "b") UnitV no_fields)) (field (codes "k") (MapV (field (codes "a") (IntV (pos 3)) (field (codes "k") (CharV 122) no_fields))) no_fields))) no_fields))))) ∷ (Var false false (codes "m") (DynamicConstant (MapV (field (codes "a") (MapV (field (codes "a") (PointerV (codes "h") (values ([]))) (field (codes "b") (IntV (pos 2)) (field (codes "k") (MapV no_fields) no_fields)))) no_fields)))) ∷ (Var false false (codes "x") (DynamicConstant (ArrayV (values ((ArrayV (values ((PointerV (codes "f") (values ((TextV (codes "a")) ∷ []))) ∷ (IntV (negsuc 1)) ∷ []))) ∷ (ArrayV (values (UnitV ∷ (CharV 122) ∷ UnitV ∷ []))) ∷ (IntV (pos 9223372036854775806)) ∷ []))))) ∷ (Assignment (Some BitOr) (Dot (flags true false) (Variable ([]) (codes "a")) (Index (flags false false) (property (codes "get$b") (codes "set$b") (codes "b")) (Index (flags false true) (StringConstant (codes "k")) (BlockExpr (stmts ((Assignment None (Variable ([]) (codes "a")) (DynamicConstant (MapV (field (codes "b") (PointerV (codes "g") (values ([]))) (field (codes "k") (TextV (195 ∷ 169 ∷ [])) no_fields))))) ∷ (ExprStmt (IntegerConstant (pos 0))) ∷ [])))))) (BlockExpr (stmts ((ExprStmt (StringConstant (codes "a"))) ∷ [])))) ∷ []) AtStatements (entry (codes "a") false (IntV (pos 64)) ∷ []) 0 ≡ ends (WithStuck NoPlace) (entry (codes "a") false (IntV (pos 64)) ∷ entry (codes "a") false (MapV (field (codes "b") (PointerV (codes "g") (values ([]))) (field (codes "k") (TextV (195 ∷ 169 ∷ [])) no_fields))) ∷ entry (codes "m") false (MapV (field (codes "a") (MapV (field (codes "a") (PointerV (codes "h") (values ([]))) (field (codes "b") (IntV (pos 2)) (field (codes "k") (MapV no_fields) no_fields)))) no_fields)) ∷ entry (codes "x") false (ArrayV (values ((ArrayV (values ((PointerV (codes "f") (values ((TextV (codes "a")) ∷ []))) ∷ (IntV (negsuc 1)) ∷ []))) ∷ (ArrayV (values (UnitV ∷ (CharV 122) ∷ UnitV ∷ []))) ∷ (IntV (pos 9223372036854775806)) ∷ []))) ∷ []) None ([]) 0
unfolding ran
chains_9102535 = refl

-- let a = <[#{"a": "é", "b": "é", "k": "b"}, "é"]>
-- let m = <#{"a": #{"a": [9223372036854775807], "k": [-1, "é", false]}, "b": [-1..=0]}>
-- let x = <#{"k": [-1, true, 9223372036854775807]}>
-- try { block { let a = <[[1], [2]]>; Index(a, Index!(1, { a = <[[3]]>; 0 })) } } catch c {}
-- try { Dot?(a, Dot!(call(x), a)) } catch c {}
-- fn i64.h() { this = <1>; this = <#{"b": (), "k": "a"}> }
-- fn k() { y }
chains_9102539 : ran (engine (binding (codes "c") (PointerV (codes "h") (values ((IntV (negsuc 1)) ∷ []))) ∷ []) ([]) ([]) true) (host ([]) ([]) (binding (codes "ns::a") (IntV (pos 5)) ∷ binding (codes "ns::x") (MapV (field (codes "k") (IntV (pos 0)) no_fields)) ∷ [])) ((function (Some (codes "i64")) (codes "h") ([]) ((Assignment None ThisPtr (DynamicConstant (IntV (pos 1)))) ∷ (Assignment None ThisPtr (DynamicConstant (MapV (field (codes "b") UnitV (field (codes "k") (TextV (codes "a")) no_fields))))) ∷ [])) ∷ (function None (codes "k") ([]) ((ExprStmt (Variable ([]) (codes "y"))) ∷ [])) ∷ []) ((Var false false (codes "a") (DynamicConstant (ArrayV (values ((MapV (field (codes "a") (TextV (195 ∷ 169 ∷ [])) (field (codes "b") (TextV (195 ∷ 169 ∷ [])) (field (codes "k") (TextV (codes "b")) no_fields)))) ∷ (TextV (195 ∷ 169 ∷ [])) ∷ []))))) ∷ (Var false false (codes "m") (DynamicConstant (MapV (field (codes "a") (MapV (field (codes "a") (ArrayV (values ((IntV (pos 9223372036854775807)) ∷ []))) (field (codes "k") (ArrayV (values ((IntV (negsuc 0)) ∷ (TextV (195 ∷ 169 ∷ [])) ∷ (BoolV false) ∷ []))) no_fields))) (field (codes "b") (ArrayV (values ((RangeInclusiveV (negsuc 0) (pos 0)) ∷ []))) no_fields))))) ∷ (Var false false (codes "x") (DynamicConstant (MapV (field (codes "k") (ArrayV (values ((IntV (negsuc 0)) ∷ (BoolV true) ∷ (IntV (pos 9223372036854775807)) ∷ []))) no_fields)))) ∷ (TryCatch (Variable ([]) (codes "c")) (stmts ((Block (stmts ((Var false false (codes "a") (DynamicConstant (ArrayV (values ((ArrayV (values ((IntV (pos 1)) ∷ []))) ∷ (ArrayV (values ((IntV (pos 2)) ∷ []))) ∷ []))))) ∷ (ExprStmt (Index (flags false false) (Variable ([]) (codes "a")) (Index (flags false true) (IntegerConstant (pos 1)) (BlockExpr (stmts ((Assignment None (Variable ([]) (codes "a")) (DynamicConstant (ArrayV (values ((ArrayV (values ((IntV (pos 3)) ∷ []))) ∷ []))))) ∷ (ExprStmt (IntegerConstant (pos 0))) ∷ [])))))) ∷ []))) ∷ [])) (stmts ([]))) ∷ (TryCatch (Variable ([]) (codes "c")) (stmts ((ExprStmt (Dot (flags true false) (Variable ([]) (codes "a")) (Dot (flags false true) (MethodCall (callee [] (codes "call") false NoToken) (exprs ((Variable ([]) (codes "x")) ∷ []))) (property (codes "get$a") (codes "set$a") (codes "a"))))) ∷ [])) (stmts ([]))) ∷ []) AtStatements ([]) 5 ≡ ends (WithStuck NoPlace) (entry (codes "a") false (ArrayV (values ((MapV (field (codes "a") (TextV (195 ∷ 169 ∷ [])) (field (codes "b") (TextV (195 ∷ 169 ∷ [])) (field (codes "k") (TextV (codes "b")) no_fields)))) ∷ (TextV (195 ∷ 169 ∷ [])) ∷ []))) ∷ entry (codes "m") false (MapV (field (codes "a") (MapV (field (codes "a") (ArrayV (values ((IntV (pos 9223372036854775807)) ∷ []))) (field (codes "k") (ArrayV (values ((IntV (negsuc 0)) ∷ (TextV (195 ∷ 169 ∷ [])) ∷ (BoolV false) ∷ []))) no_fields))) (field (codes "b") (ArrayV (values ((RangeInclusiveV (negsuc 0) (pos 0)) ∷ []))) no_fields))) ∷ entry (codes "x") false (MapV (field (codes "k") (ArrayV (values ((IntV (negsuc 0)) ∷ (BoolV true) ∷ (IntV (pos 9223372036854775807)) ∷ []))) no_fields)) ∷ []) None ([]) 5
unfolding ran
chains_9102539 = refl

-- let a = <[[Fn(f), false]]>
-- let m = <[#{"a": 'z', "b": 'é', "k": 'a'}]>
-- const x = <[#{"k": [1, 'b']}]>
-- Dot(m, push(())) = { Index(a, Index!({ m = <[3..=4, "a"]>; 0 }, { a = <[3..=3, (), -1..1]>; "k" })) = <#{"a": 1..2}>; Fn("1a") }
-- fn h(c) { Index!(this, "b") = <#{"b": [true, 'z', 3]}>; Dot(this, Index!(k, -1)) = <[0, #{}, -9223372036854775808]> }
-- fn ().h(m) { Index(this, Index("b", Index!(2, 0))) = <[[false]]> }
-- fn h() { Dot(this, Index!(a, { "a" })) = <#{"k": ()}> }
chains_9102630 : ran (engine (binding (codes "a") (MapV no_fields) ∷ binding (codes "x") (PointerV (codes "g") (values ([]))) ∷ []) ([]) (renamed (codes "i64") (codes "int") ∷ []) false) (host (named (codes "h") (Answers (RangeV (pos 2) (pos 1)) (Some (ArrayV (values ((BoolV true) ∷ [])))) ∷ AnswersThrow UnitV ∷ Answers (BoolV true) None ∷ Answers (IntV (pos 3)) None ∷ Answers (MapV no_fields) None ∷ []) ∷ named (codes "get$a") (Answers (CharV 233) (Some (PointerV (codes "g") (values ([])))) ∷ Answers (ArrayV (values ([]))) (Some (PointerV (codes "f") (values ([])))) ∷ Answers (RangeInclusiveV (negsuc 0) (negsuc 0)) None ∷ Answers (ArrayV (values ((CharV 97) ∷ UnitV ∷ []))) None ∷ []) ∷ []) (Answers (BoolV false) None ∷ Answers (TextV (codes "")) (Some (CharV 233)) ∷ []) (binding (codes "ns::a") (IntV (pos 5)) ∷ binding (codes "ns::x") (BoolV false) ∷ [])) ((function None (codes "h") ((codes "c") ∷ []) ((Assignment None (Index (flags false true) ThisPtr (StringConstant (codes "b"))) (DynamicConstant (MapV (field (codes "b") (ArrayV (values ((BoolV true) ∷ (CharV 122) ∷ (IntV (pos 3)) ∷ []))) no_fields)))) ∷ (Assignment None (Dot (flags false false) ThisPtr (Index (flags false true) (property (codes "get$k") (codes "set$k") (codes "k")) (IntegerConstant (negsuc 0)))) (DynamicConstant (ArrayV (values ((IntV (pos 0)) ∷ (MapV no_fields) ∷ (IntV (negsuc 9223372036854775807)) ∷ []))))) ∷ [])) ∷ (function (Some (codes "()")) (codes "h") ((codes "m") ∷ []) ((Assignment None (Index (flags false false) ThisPtr (Index (flags false false) (StringConstant (codes "b")) (Index (flags false true) (IntegerConstant (pos 2)) (IntegerConstant (pos 0))))) (DynamicConstant (ArrayV (values ((ArrayV (values ((BoolV false) ∷ []))) ∷ []))))) ∷ [])) ∷ (function None (codes "h") ([]) ((Assignment None (Dot (flags false false) ThisPtr (Index (flags false true) (property (codes "get$a") (codes "set$a") (codes "a")) (BlockExpr (stmts ((ExprStmt (StringConstant (codes "a"))) ∷ []))))) (DynamicConstant (MapV (field (codes "k") UnitV no_fields)))) ∷ [])) ∷ []) ((Var false false (codes "a") (DynamicConstant (ArrayV (values ((ArrayV (values ((PointerV (codes "f") (values (UnitV ∷ []))) ∷ (BoolV false) ∷ []))) ∷ []))))) ∷ (Var false false (codes "m") (DynamicConstant (ArrayV (values ((MapV (field (codes "a") (CharV 122) (field (codes "b") (CharV 233) (field (codes "k") (CharV 97) no_fields)))) ∷ []))))) ∷ (Var true false (codes "x") (DynamicConstant (ArrayV (values ((MapV (field (codes "k") (ArrayV (values ((IntV (pos 1)) ∷ (CharV 98) ∷ []))) no_fields)) ∷ []))))) ∷ (Assignment None (Dot (flags false false) (Variable ([]) (codes "m")) (MethodCall (callee [] (codes "push") false NoToken) (exprs (UnitConstant ∷ [])))) (BlockExpr (stmts ((Assignment None (Index (flags false false) (Variable ([]) (codes "a")) (Index (flags false true) (BlockExpr (stmts ((Assignment None (Variable ([]) (codes "m")) (DynamicConstant (ArrayV (values ((RangeInclusiveV (pos 3) (pos 4)) ∷ (TextV (codes "a")) ∷ []))))) ∷ (ExprStmt (IntegerConstant (pos 0))) ∷ []))) (BlockExpr (stmts ((Assignment None (Variable ([]) (codes "a")) (DynamicConstant (ArrayV (values ((RangeInclusiveV (pos 3) (pos 3)) ∷ UnitV ∷ (RangeV (negsuc 0) (pos 1)) ∷ []))))) ∷ (ExprStmt (StringConstant (codes "k"))) ∷ []))))) (DynamicConstant (MapV (field (codes "a") (RangeV (pos 1) (pos 2)) no_fields)))) ∷ (ExprStmt (FnCall (callee [] (codes "Fn") false NoToken) (exprs ((StringConstant (codes "1a")) ∷ [])))) ∷ [])))) ∷ []) AtStatements (entry (codes "x") false (IntV (pos 2)) ∷ entry (codes "b") true (IntV (pos 1)) ∷ []) 5 ≡ ends (WithThrown (TextV (codes "function name"))) (entry (codes "b") true (IntV (pos 1)) ∷ entry (codes "x") false (IntV (pos 2)) ∷ entry (codes "a") false (ArrayV (values ((RangeInclusiveV (pos 3) (pos 3)) ∷ UnitV ∷ (RangeV (negsuc 0) (pos 1)) ∷ []))) ∷ entry (codes "m") false (ArrayV (values ((RangeInclusiveV (pos 3) (pos 4)) ∷ (TextV (codes "a")) ∷ []))) ∷ entry (codes "x") true (ArrayV (values ((MapV (field (codes "k") (ArrayV (values ((IntV (pos 1)) ∷ (CharV 98) ∷ []))) no_fields)) ∷ []))) ∷ []) None (asked (Some (RangeInclusiveV (pos 3) (pos 3))) (codes "index$set$") ((TextV (codes "k")) ∷ (MapV (field (codes "a") (RangeV (pos 1) (pos 2)) no_fields)) ∷ []) ∷ []) 5
unfolding ran
chains_9102630 = refl

-- let a = <#{"a": "é", "k": true}>
-- let m = <[]>
-- let x = <#{"a": #{"a": #{}}, "b": #{"a": 'z', "b": ['z']}, "k": #{"a": -1, "b": -1, "k": true}}>
-- Dot(x, Index?!(k, -1)) = { 0 }
-- let c = Dot(m, k)
-- let m = Dot(m, push('é'))
-- fn array.push(b) {}
-- fn array.g(c) { this = <[[()], Fn(f)]>; return this }
-- fn string.push(y) {}
-- fn i64.h(c) { Index?!(this, 0) = <#{"a": Fn(h), "b": [(), 2], "k": false}>; this = <#{"b": "", "k": -1..=-1}>; return this }
chains_9102662 : ran (engine (binding (codes "b") (RangeInclusiveV (pos 3) (pos 5)) ∷ binding (codes "y") (ArrayV (values (UnitV ∷ (CharV 122) ∷ (IntV (pos 1)) ∷ []))) ∷ []) (override (codes "%=") ((codes "char") ∷ (codes "string") ∷ []) ∷ override (codes "**") ((codes "i64") ∷ (codes "bool") ∷ []) ∷ override (codes "**") ((codes "i64") ∷ (codes "i64") ∷ []) ∷ override (codes "*=") ((codes "bool") ∷ []) ∷ override (codes "<<=") ((codes "()") ∷ []) ∷ override (codes ">>") ((codes "map") ∷ []) ∷ override (codes ">>=") ((codes "i64") ∷ (codes "i64") ∷ []) ∷ override (codes "^") ((codes "map") ∷ (codes "array") ∷ []) ∷ override (codes "|") ((codes "i64") ∷ (codes "i64") ∷ []) ∷ []) ([]) false) (host (named (codes "f") (Answers (ArrayV (values ((TextV (codes "a")) ∷ (BoolV true) ∷ (IntV (pos 1)) ∷ []))) None ∷ []) ∷ named (codes "g") ([]) ∷ []) (Answers UnitV None ∷ []) (binding (codes "ns::a") (IntV (pos 5)) ∷ binding (codes "ns::x") (PointerV (codes "g") (values ([]))) ∷ [])) ((function (Some (codes "array")) (codes "push") ((codes "b") ∷ []) ([])) ∷ (function (Some (codes "array")) (codes "g") ((codes "c") ∷ []) ((Assignment None ThisPtr (DynamicConstant (ArrayV (values ((ArrayV (values (UnitV ∷ []))) ∷ (PointerV (codes "f") (values ([]))) ∷ []))))) ∷ (Return false false (an_expr ThisPtr)) ∷ [])) ∷ (function (Some (codes "string")) (codes "push") ((codes "y") ∷ []) ([])) ∷ (function (Some (codes "i64")) (codes "h") ((codes "c") ∷ []) ((Assignment None (Index (flags true true) ThisPtr (IntegerConstant (pos 0))) (DynamicConstant (MapV (field (codes "a") (PointerV (codes "h") (values (UnitV ∷ []))) (field (codes "b") (ArrayV (values (UnitV ∷ (IntV (pos 2)) ∷ []))) (field (codes "k") (BoolV false) no_fields)))))) ∷ (Assignment None ThisPtr (DynamicConstant (MapV (field (codes "b") (TextV (codes "")) (field (codes "k") (RangeInclusiveV (negsuc 0) (negsuc 0)) no_fields))))) ∷ (Return false false (an_expr ThisPtr)) ∷ [])) ∷ []) ((Var false false (codes "a") (DynamicConstant (MapV (field (codes "a") (TextV (195 ∷ 169 ∷ [])) (field (codes "k") (BoolV true) no_fields))))) ∷ (Var false false (codes "m") (DynamicConstant (ArrayV (values ([]))))) ∷ (Var false false (codes "x") (DynamicConstant (MapV (field (codes "a") (MapV (field (codes "a") (MapV no_fields) no_fields)) (field (codes "b") (MapV (field (codes "a") (CharV 122) (field (codes "b") (ArrayV (values ((CharV 122) ∷ []))) no_fields))) (field (codes "k") (MapV (field (codes "a") (IntV (negsuc 0)) (field (codes "b") (IntV (negsuc 0)) (field (codes "k") (BoolV true) no_fields)))) no_fields)))))) ∷ (Assignment None (Dot (flags false false) (Variable ([]) (codes "x")) (Index (flags true true) (property (codes "get$k") (codes "set$k") (codes "k")) (IntegerConstant (negsuc 0)))) (BlockExpr (stmts ((ExprStmt (IntegerConstant (pos 0))) ∷ [])))) ∷ (Var false false (codes "c") (Dot (flags false false) (Variable ([]) (codes "m")) (property (codes "get$k") (codes "set$k") (codes "k")))) ∷ (Var false false (codes "m") (Dot (flags false false) (Variable ([]) (codes "m")) (MethodCall (callee [] (codes "push") false NoToken) (exprs ((CharConstant 233) ∷ []))))) ∷ []) AtStatements ([]) 10 ≡ ends (WithValue UnitV) (entry (codes "a") false (MapV (field (codes "a") (TextV (195 ∷ 169 ∷ [])) (field (codes "k") (BoolV true) no_fields))) ∷ entry (codes "m") false (ArrayV (values ([]))) ∷ entry (codes "x") false (MapV (field (codes "a") (MapV (field (codes "a") (MapV no_fields) no_fields)) (field (codes "b") (MapV (field (codes "a") (CharV 122) (field (codes "b") (ArrayV (values ((CharV 122) ∷ []))) no_fields))) (field (codes "k") (MapV (field (codes "a") (IntV (negsuc 0)) (field (codes "b") (IntV (negsuc 0)) (field (codes "k") (BoolV true) no_fields)))) no_fields)))) ∷ entry (codes "c") false UnitV ∷ entry (codes "m") false UnitV ∷ []) None (asked (Some (MapV (field (codes "a") (IntV (negsuc 0)) (field (codes "b") (IntV (negsuc 0)) (field (codes "k") (BoolV true) no_fields))))) (codes "index$set$") ((IntV (negsuc 0)) ∷ (IntV (pos 0)) ∷ []) ∷ asked (Some (ArrayV (values ([])))) (codes "get$k") ([]) ∷ []) 9
unfolding ran
chains_9102662 = refl

-- let a = <[[true], -2]>
-- const m = <[[Fn(g)]]>
-- let x = <[2..=3]>
-- Dot(x, Index(b, Dot({ for (a, b) in <[5, 6]> { print(b); print(a) } }, b))) *= { -1 }
-- Index(m, Dot({ 1 }, b)) -= { m = <[2..3, "b"]>; "k" }
-- try { Dot(x, Dot(b, Dot(b, a))) } catch c {}
-- let b = Index?(x, Dot({ "a" }, Dot(k, a)))
-- fn ().g(m) { Index!(this, "a") = <['b', ()]>; throw this }
-- fn k() { y }
chains_9102687 : ran (engine (binding (codes "x") (TextV (195 ∷ 169 ∷ [])) ∷ []) ([]) ([]) true) (host (named (codes "f") (Answers (MapV (field (codes "b") (IntV (pos 64)) (field (codes "k") (CharV 233) no_fields))) None ∷ []) ∷ []) (Answers (PointerV (codes "f") (values ([]))) None ∷ Answers (PointerV (codes "h") (values ([]))) None ∷ []) (binding (codes "ns::a") (IntV (pos 5)) ∷ binding (codes "ns::x") (RangeV (pos 3) (pos 5)) ∷ [])) ((function (Some (codes "()")) (codes "g") ((codes "m") ∷ []) ((Assignment None (Index (flags false true) ThisPtr (StringConstant (codes "a"))) (DynamicConstant (ArrayV (values ((CharV 98) ∷ UnitV ∷ []))))) ∷ (Return true false (an_expr ThisPtr)) ∷ [])) ∷ (function None (codes "k") ([]) ((ExprStmt (Variable ([]) (codes "y"))) ∷ [])) ∷ []) ((Var false false (codes "a") (DynamicConstant (ArrayV (values ((ArrayV (values ((BoolV true) ∷ []))) ∷ (IntV (negsuc 1)) ∷ []))))) ∷ (Var true false (codes "m") (DynamicConstant (ArrayV (values ((ArrayV (values ((PointerV (codes "g") (values ((TextV (195 ∷ 169 ∷ [])) ∷ []))) ∷ []))) ∷ []))))) ∷ (Var false false (codes "x") (DynamicConstant (ArrayV (values ((RangeInclusiveV (pos 2) (pos 3)) ∷ []))))) ∷ (Assignment (Some Multiply) (Dot (flags false false) (Variable ([]) (codes "x")) (Index (flags false false) (property (codes "get$b") (codes "set$b") (codes "b")) (Dot (flags false false) (BlockExpr (stmts ((For (codes "a") (Some (codes "b")) (DynamicConstant (ArrayV (values ((IntV (pos 5)) ∷ (IntV (pos 6)) ∷ [])))) (stmts ((ExprStmt (FnCall (callee [] (codes "print") false NoToken) (exprs ((Variable ([]) (codes "b")) ∷ [])))) ∷ (ExprStmt (FnCall (callee [] (codes "print") false NoToken) (exprs ((Variable ([]) (codes "a")) ∷ [])))) ∷ []))) ∷ []))) (property (codes "get$b") (codes "set$b") (codes "b"))))) (BlockExpr (stmts ((ExprStmt (IntegerConstant (negsuc 0))) ∷ [])))) ∷ (Assignment (Some Minus) (Index (flags false false) (Variable ([]) (codes "m")) (Dot (flags false false) (BlockExpr (stmts ((ExprStmt (IntegerConstant (pos 1))) ∷ []))) (property (codes "get$b") (codes "set$b") (codes "b")))) (BlockExpr (stmts ((Assignment None (Variable ([]) (codes "m")) (DynamicConstant (ArrayV (values ((RangeV (pos 2) (pos 3)) ∷ (TextV (codes "b")) ∷ []))))) ∷ (ExprStmt (StringConstant (codes "k"))) ∷ [])))) ∷ (TryCatch (Variable ([]) (codes "c")) (stmts ((ExprStmt (Dot (flags false false) (Variable ([]) (codes "x")) (Dot (flags false false) (property (codes "get$b") (codes "set$b") (codes "b")) (Dot (flags false false) (property (codes "get$b") (codes "set$b") (codes "b")) (property (codes "get$a") (codes "set$a") (codes "a")))))) ∷ [])) (stmts ([]))) ∷ (Var false false (codes "b") (Index (flags true false) (Variable ([]) (codes "x")) (Dot (flags false false) (BlockExpr (stmts ((ExprStmt (StringConstant (codes "a"))) ∷ []))) (Dot (flags false false) (property (codes "get$k") (codes "set$k") (codes "k")) (property (codes "get$a") (codes "set$a") (codes "a")))))) ∷ []) AtStatements (entry (codes "c") true (MapV (field (codes "a") (IntV (pos 63)) no_fields)) ∷ entry (codes "m") false UnitV ∷ []) 1 ≡ ends WithoutTurns (entry (codes "m") false UnitV ∷ entry (codes "c") true (MapV (field (codes "a") (IntV (pos 63)) no_fields)) ∷ entry (codes "a") false (ArrayV (values ((ArrayV (values ((BoolV true) ∷ []))) ∷ (IntV (negsuc 1)) ∷ []))) ∷ entry (codes "m") true (ArrayV (values ((ArrayV (values ((PointerV (codes "g") (values ((TextV (195 ∷ 169 ∷ [])) ∷ []))) ∷ []))) ∷ []))) ∷ entry (codes "x") false (ArrayV (values ((RangeInclusiveV (pos 2) (pos 3)) ∷ []))) ∷ []) None (asked (Some (ArrayV (values ((RangeInclusiveV (pos 2) (pos 3)) ∷ [])))) (codes "get$b") ([]) ∷ asked None (codes "print") ((IntV (pos 0)) ∷ []) ∷ asked None (codes "print") ((IntV (pos 5)) ∷ []) ∷ []) 0
unfolding ran
chains_9102687 = refl

-- let a = <[#{"a": true, "b": 'é'}]>
-- let m = <Fn(g)>
-- let x = <2..=3>
-- Index!(a, "k") = { print(Dot(q, push(1))) }
-- fn ().push() {}
-- fn map.push() { this = <[-2]>; this = <#{"k": false}>; return this }
-- fn i64.f(c) { throw this }
-- fn k() { y }
chains_9102714 : ran (engine (binding (codes "q") (ArrayV (values ((IntV (negsuc 9223372036854775807)) ∷ (IntV (pos 2)) ∷ []))) ∷ []) (override (codes "..") ((codes "char") ∷ []) ∷ override (codes "<") ((codes "i64") ∷ (codes "i64") ∷ []) ∷ override (codes ">>") ((codes "range=") ∷ (codes "i64") ∷ []) ∷ []) ([]) false) (host (named (codes "f") (Answers (PointerV (codes "f") (values (UnitV ∷ []))) None ∷ Answers (IntV (pos 3)) (Some (MapV (field (codes "a") (BoolV false) (field (codes "b") (IntV (pos 3)) no_fields)))) ∷ []) ∷ []) (Answers (PointerV (codes "h") (values ([]))) (Some (ArrayV (values (UnitV ∷ [])))) ∷ Answers (ArrayV (values ((TextV (195 ∷ 169 ∷ [])) ∷ (IntV (pos 3)) ∷ UnitV ∷ []))) None ∷ Answers (BoolV true) None ∷ Answers (MapV (field (codes "a") UnitV (field (codes "k") UnitV no_fields))) None ∷ AnswersThrow (PointerV (codes "g") (values ((IntV (pos 9223372036854775806)) ∷ []))) ∷ []) (binding (codes "ns::a") (IntV (pos 5)) ∷ binding (codes "ns::x") (CharV 233) ∷ [])) ((function (Some (codes "()")) (codes "push") ([]) ([])) ∷ (function (Some (codes "map")) (codes "push") ([]) ((Assignment None ThisPtr (DynamicConstant (ArrayV (values ((IntV (negsuc 1)) ∷ []))))) ∷ (Assignment None ThisPtr (DynamicConstant (MapV (field (codes "k") (BoolV false) no_fields)))) ∷ (Return false false (an_expr ThisPtr)) ∷ [])) ∷ (function (Some (codes "i64")) (codes "f") ((codes "c") ∷ []) ((Return true false (an_expr ThisPtr)) ∷ [])) ∷ (function None (codes "k") ([]) ((ExprStmt (Variable ([]) (codes "y"))) ∷ [])) ∷ []) ((Var false false (codes "a") (DynamicConstant (ArrayV (values ((MapV (field (codes "a") (BoolV true) (field (codes "b") (CharV 233) no_fields))) ∷ []))))) ∷ (Var false false (codes "m") (DynamicConstant (PointerV (codes "g") (values ((IntV (negsuc 9223372036854775807)) ∷ []))))) ∷ (Var false false (codes "x") (DynamicConstant (RangeInclusiveV (pos 2) (pos 3)))) ∷ (Assignment None (Index (flags false true) (Variable ([]) (codes "a")) (StringConstant (codes "k"))) (BlockExpr (stmts ((ExprStmt (FnCall (callee [] (codes "print") false NoToken) (exprs ((Dot (flags false false) (Variable ([]) (codes "q")) (MethodCall (callee [] (codes "push") false NoToken) (exprs ((IntegerConstant (pos 1)) ∷ [])))) ∷ [])))) ∷ [])))) ∷ []) AtStatements (entry (codes "a") true (CharV 98) ∷ entry (codes "b") false (IntV (pos 64)) ∷ []) 3 ≡ ends (WithStuck WriteToConstant) (entry (codes "b") false (IntV (pos 64)) ∷ entry (codes "a") true (CharV 98) ∷ entry (codes "a") false (ArrayV (values ((MapV (field (codes "a") (BoolV true) (field (codes "b") (CharV 233) no_fields))) ∷ []))) ∷ entry (codes "m") false (PointerV (codes "g") (values ((IntV (negsuc 9223372036854775807)) ∷ []))) ∷ entry (codes "x") false (RangeInclusiveV (pos 2) (pos 3)) ∷ []) None (asked (Some (ArrayV (values ((IntV (negsuc 9223372036854775807)) ∷ (IntV (pos 2)) ∷ [])))) (codes "push") ((IntV (pos 1)) ∷ []) ∷ []) 3
unfolding ran
chains_9102714 = refl

-- let a = <#{"a": #{"b": #{"b": 'é', "k": 'z'}, "k": 1}, "b": [false, (), true], "k": ["é", false]}>
-- let m = <[#{"a": "f", "k": ()}]>
-- let x = <[['z'], (), [#{"a": true}, ['é', false, 7]]]>
-- let x = Dot(x, Dot(h(), Dot?(k, curry(<Fn(g)>))))
-- Index!(a, -1) = { for (a, a) in <5..7> { print(a) } }
-- fn ().h(y) { this = <#{"a": "b"}> }
-- fn string.h(c) { this = <#{"a": #{"a": true}, "b": #{"k": ()}, "k": false}>; Dot(this, a) = <#{"a": false, "k": false}>; return this }
-- fn string.g(b) {}
-- fn k() { y }
chains_9102739 : ran (engine (binding (codes "b") (BoolV false) ∷ binding (codes "a") (BoolV true) ∷ []) ([]) (renamed (codes "i64") (codes "int") ∷ []) true) (host ([]) (Answers (TextV (codes "f")) None ∷ Answers (PointerV (codes "h") (values ([]))) (Some (IntV (negsuc 9223372036854775807))) ∷ Answers (TextV (codes "")) None ∷ Answers (RangeInclusiveV (pos 3) (pos 6)) None ∷ Answers (RangeInclusiveV (negsuc 0) (pos 0)) None ∷ []) (binding (codes "ns::a") (IntV (pos 5)) ∷ binding (codes "ns::x") (RangeInclusiveV (pos 1) (pos 2)) ∷ [])) ((function (Some (codes "()")) (codes "h") ((codes "y") ∷ []) ((Assignment None ThisPtr (DynamicConstant (MapV (field (codes "a") (TextV (codes "b")) no_fields)))) ∷ [])) ∷ (function (Some (codes "string")) (codes "h") ((codes "c") ∷ []) ((Assignment None ThisPtr (DynamicConstant (MapV (field (codes "a") (MapV (field (codes "a") (BoolV true) no_fields)) (field (codes "b") (MapV (field (codes "k") UnitV no_fields)) (field (codes "k") (BoolV false) no_fields)))))) ∷ (Assignment None (Dot (flags false false) ThisPtr (property (codes "get$a") (codes "set$a") (codes "a"))) (DynamicConstant (MapV (field (codes "a") (BoolV false) (field (codes "k") (BoolV false) no_fields))))) ∷ (Return false false (an_expr ThisPtr)) ∷ [])) ∷ (function (Some (codes "string")) (codes "g") ((codes "b") ∷ []) ([])) ∷ (function None (codes "k") ([]) ((ExprStmt (Variable ([]) (codes "y"))) ∷ [])) ∷ []) ((Var false false (codes "a") (DynamicConstant (MapV (field (codes "a") (MapV (field (codes "b") (MapV (field (codes "b") (CharV 233) (field (codes "k") (CharV 122) no_fields))) (field (codes "k") (IntV (pos 1)) no_fields))) (field (codes "b") (ArrayV (values ((BoolV false) ∷ UnitV ∷ (BoolV true) ∷ []))) (field (codes "k") (ArrayV (values ((TextV (195 ∷ 169 ∷ [])) ∷ (BoolV false) ∷ []))) no_fields)))))) ∷ (Var false false (codes "m") (DynamicConstant (ArrayV (values ((MapV (field (codes "a") (TextV (codes "f")) (field (codes "k") UnitV no_fields))) ∷ []))))) ∷ (Var false false (codes "x") (DynamicConstant (ArrayV (values ((ArrayV (values ((CharV 122) ∷ []))) ∷ UnitV ∷ (ArrayV (values ((MapV (field (codes "a") (BoolV true) no_fields)) ∷ (ArrayV (values ((CharV 233) ∷ (BoolV false) ∷ (IntV (pos 7)) ∷ []))) ∷ []))) ∷ []))))) ∷ (Var false false (codes "x") (Dot (flags false false) (Variable ([]) (codes "x")) (Dot (flags false false) (MethodCall (callee [] (codes "h") false NoToken) (exprs ([]))) (Dot (flags true false) (property (codes "get$k") (codes "set$k") (codes "k")) (MethodCall (callee [] (codes "curry") false NoToken) (exprs ((DynamicConstant (PointerV (codes "g") (values ((RangeV (pos 0) (negsuc 0)) ∷ [])))) ∷ []))))))) ∷ (Assignment None (Index (flags false true) (Variable ([]) (codes "a")) (IntegerConstant (negsuc 0))) (BlockExpr (stmts ((For (codes "a") (Some (codes "a")) (DynamicConstant (RangeV (pos 5) (pos 7))) (stmts ((ExprStmt (FnCall (callee [] (codes "print") false NoToken) (exprs ((Variable ([]) (codes "a")) ∷ [])))) ∷ []))) ∷ [])))) ∷ []) AtStatements (entry (codes "b") false (RangeV (pos 2) (pos 3)) ∷ entry (codes "m") true (CharV 233) ∷ []) 3 ≡ ends (WithValue UnitV) (entry (codes "m") true (CharV 233) ∷ entry (codes "b") false (RangeV (pos 2) (pos 3)) ∷ entry (codes "a") false (MapV (field (codes "a") (MapV (field (codes "b") (MapV (field (codes "b") (CharV 233) (field (codes "k") (CharV 122) no_fields))) (field (codes "k") (IntV (pos 1)) no_fields))) (field (codes "b") (ArrayV (values ((BoolV false) ∷ UnitV ∷ (BoolV true) ∷ []))) (field (codes "k") (ArrayV (values ((TextV (195 ∷ 169 ∷ [])) ∷ (BoolV false) ∷ []))) no_fields)))) ∷ entry (codes "m") false (ArrayV (values ((MapV (field (codes "a") (TextV (codes "f")) (field (codes "k") UnitV no_fields))) ∷ []))) ∷ entry (codes "x") false (ArrayV (values ((ArrayV (values ((CharV 122) ∷ []))) ∷ UnitV ∷ (ArrayV (values ((MapV (field (codes "a") (BoolV true) no_fields)) ∷ (ArrayV (values ((CharV 233) ∷ (BoolV false) ∷ (IntV (pos 7)) ∷ []))) ∷ []))) ∷ []))) ∷ entry (codes "x") false (PointerV (codes "h") (values ((PointerV (codes "g") (values ((RangeV (pos 0) (negsuc 0)) ∷ []))) ∷ []))) ∷ []) None (asked (Some (ArrayV (values ((ArrayV (values ((CharV 122) ∷ []))) ∷ UnitV ∷ (ArrayV (values ((MapV (field (codes "a") (BoolV true) no_fields)) ∷ (ArrayV (values ((CharV 233) ∷ (BoolV false) ∷ (IntV (pos 7)) ∷ []))) ∷ []))) ∷ [])))) (codes "h") ([]) ∷ asked (Some (TextV (codes "f"))) (codes "get$k") ([]) ∷ asked None (codes "print") ((IntV (pos 5)) ∷ []) ∷ asked None (codes "print") ((IntV (pos 6)) ∷ []) ∷ asked (Some (MapV (field (codes "a") (MapV (field (codes "b") (MapV (field (codes "b") (CharV 233) (field (codes "k") (CharV 122) no_fields))) (field (codes "k") (IntV (pos 1)) no_fields))) (field (codes "b") (ArrayV (values ((BoolV false) ∷ UnitV ∷ (BoolV true) ∷ []))) (field (codes "k") (ArrayV (values ((TextV (195 ∷ 169 ∷ [])) ∷ (BoolV false) ∷ []))) no_fields))))) (codes "index$set$") ((IntV (negsuc 0)) ∷ UnitV ∷ []) ∷ []) 1
unfolding ran
chains_9102739 = refl

-- let a = <Fn(h)>
-- const m = <[#{"b": 1}]>
-- let x = <-9223372036854775808>
-- let c = Dot(a, Dot(k, b))
-- Index(x, Index!(-1, { 0 })) = +(Index(x, Index!(-1, { block { let y = #{}; Dot(y, Dot(a, g())) = f() } })), 1)
-- fn array.f() { Dot(this, a) = <63>; throw this }
-- fn ().f(x) {}
-- fn k() { y }
chains_9102741 : ran (engine ([]) ([]) ([]) false) (host (named (codes "get$a") ([]) ∷ named (codes "g") (Answers (TextV (codes "a")) (Some (RangeInclusiveV (pos 0) (pos 2))) ∷ Answers (ArrayV (values ((BoolV false) ∷ (IntV (pos 9223372036854775806)) ∷ (TextV (codes "b")) ∷ []))) None ∷ []) ∷ []) (Answers (ArrayV (values ((BoolV false) ∷ UnitV ∷ (IntV (pos 63)) ∷ []))) None ∷ Answers (BoolV false) None ∷ Answers (ArrayV (values ((TextV (codes "")) ∷ []))) None ∷ Answers (IntV (negsuc 9223372036854775807)) None ∷ Answers (MapV (field (codes "b") (CharV 97) no_fields)) (Some (MapV (field (codes "b") UnitV no_fields))) ∷ []) (binding (codes "ns::a") (IntV (pos 5)) ∷ binding (codes "ns::x") (RangeInclusiveV (pos 0) (negsuc 0)) ∷ [])) ((function (Some (codes "array")) (codes "f") ([]) ((Assignment None (Dot (flags false false) ThisPtr (property (codes "get$a") (codes "set$a") (codes "a"))) (DynamicConstant (IntV (pos 63)))) ∷ (Return true false (an_expr ThisPtr)) ∷ [])) ∷ (function (Some (codes "()")) (codes "f") ((codes "x") ∷ []) ([])) ∷ (function None (codes "k") ([]) ((ExprStmt (Variable ([]) (codes "y"))) ∷ [])) ∷ []) ((Var false false (codes "a") (DynamicConstant (PointerV (codes "h") (values ((BoolV true) ∷ []))))) ∷ (Var true false (codes "m") (DynamicConstant (ArrayV (values ((MapV (field (codes "b") (IntV (pos 1)) no_fields)) ∷ []))))) ∷ (Var false false (codes "x") (DynamicConstant (IntV (negsuc 9223372036854775807)))) ∷ (Var false false (codes "c") (Dot (flags false false) (Variable ([]) (codes "a")) (Dot (flags false false) (property (codes "get$k") (codes "set$k") (codes "k")) (property (codes "get$b") (codes "set$b") (codes "b"))))) ∷ (Assignment None (Index (flags false false) (Variable ([]) (codes "x")) (Index (flags false true) (IntegerConstant (negsuc 0)) (BlockExpr (stmts ((ExprStmt (IntegerConstant (pos 0))) ∷ []))))) (FnCall (callee [] (codes "+") false (OfOperator Plus)) (exprs ((Index (flags false false) (Variable ([]) (codes "x")) (Index (flags false true) (IntegerConstant (negsuc 0)) (BlockExpr (stmts ((Block (stmts ((Var false false (codes "y") (MapOf no_pairs ([]))) ∷ (Assignment None (Dot (flags false false) (Variable ([]) (codes "y")) (Dot (flags false false) (property (codes "get$a") (codes "set$a") (codes "a")) (MethodCall (callee [] (codes "g") false NoToken) (exprs ([]))))) (FnCall (callee [] (codes "f") false NoToken) (exprs ([])))) ∷ []))) ∷ []))))) ∷ (IntegerConstant (pos 1)) ∷ [])))) ∷ []) AtStatements ([]) 3 ≡ ends (WithStuck NoPlace) (entry (codes "a") false (PointerV (codes "h") (values ((BoolV true) ∷ []))) ∷ entry (codes "m") true (ArrayV (values ((MapV (field (codes "b") (IntV (pos 1)) no_fields)) ∷ []))) ∷ entry (codes "x") false (IntV (negsuc 9223372036854775807)) ∷ entry (codes "c") false (BoolV false) ∷ []) None (asked (Some (PointerV (codes "h") (values ((BoolV true) ∷ [])))) (codes "get$k") ([]) ∷ asked (Some (ArrayV (values ((BoolV false) ∷ UnitV ∷ (IntV (pos 63)) ∷ [])))) (codes "get$b") ([]) ∷ asked None (codes "f") ([]) ∷ []) 3
unfolding ran
chains_9102741 = refl

-- block { switch false {  |  | default 1 | true => (), true => 2 }; for c in <-2..0> { block { let y = 7; print(k!()) } } }
-- fn k() { y }
flow_9200419 : ran (engine (binding (codes "y") (BoolV true) ∷ binding (codes "m") (MapV (field (codes "a") (CharV 97) no_fields)) ∷ []) ([]) ([]) false) (host (named (codes "push") ([]) ∷ named (codes "g") (Answers (TextV (codes "")) (Some (TextV (codes "a"))) ∷ []) ∷ []) (Answers (BoolV true) None ∷ Answers (BoolV false) (Some (ArrayV (values ((BoolV false) ∷ (TextV (codes "ab")) ∷ (IntV (pos 2)) ∷ [])))) ∷ Answers (TextV (codes "a")) (Some (TextV (codes "a"))) ∷ Answers (TextV (codes "")) None ∷ Answers (PointerV (codes "g") (values ((IntV (pos 1)) ∷ []))) (Some UnitV) ∷ []) (binding (codes "ns::a") (IntV (pos 5)) ∷ binding (codes "ns::x") UnitV ∷ [])) ((function None (codes "k") ([]) ((ExprStmt (Variable ([]) (codes "y"))) ∷ [])) ∷ []) ((Block (stmts ((Switch (BoolConstant false) (arm (BoolConstant true) UnitConstant (arm (BoolConstant true) (IntegerConstant (pos 2)) no_arms)) (table ([]) ([]) (Some 1))) ∷ (For (codes "c") None (DynamicConstant (RangeV (negsuc 1) (pos 0))) (stmts ((Block (stmts ((Var false false (codes "y") (IntegerConstant (pos 7))) ∷ (ExprStmt (FnCall (callee [] (codes "print") false NoToken) (exprs ((FnCall (callee [] (codes "k") true NoToken) (exprs ([]))) ∷ [])))) ∷ []))) ∷ []))) ∷ []))) ∷ []) AtStatements (entry (codes "x") true (ArrayV (values ([]))) ∷ entry (codes "a") true (PointerV (codes "g") (values ((BoolV false) ∷ []))) ∷ []) 3 ≡ ends WithoutTurns (entry (codes "a") true (PointerV (codes "g") (values ((BoolV false) ∷ []))) ∷ entry (codes "x") true (ArrayV (values ([]))) ∷ []) None (asked None (codes "print") ((IntV (pos 7)) ∷ []) ∷ []) 0
unfolding ran
flow_9200419 = refl

-- let b = 3
-- let b = <#{}>
-- let m = <7>
-- let x = <-1>
-- try { call f(7); throw <Fn(g)> } catch c { if true { return ns::c } else {} }
flow_9200939 : ran (engine (binding (codes "y") (ArrayV (values ([]))) ∷ binding (codes "c") (ArrayV (values ((CharV 233) ∷ []))) ∷ []) (override (codes "!=") ((codes "range=") ∷ (codes "range=") ∷ []) ∷ override (codes "+=") ((codes "range=") ∷ []) ∷ override (codes "==") ((codes "i64") ∷ (codes "i64") ∷ []) ∷ []) ([]) false) (host (named (codes "get$a") (Answers (TextV (codes "ab")) (Some (IntV (pos 0))) ∷ Answers (RangeV (negsuc 1) (negsuc 1)) None ∷ []) ∷ []) (Answers (PointerV (codes "g") (values ((IntV (pos 63)) ∷ []))) (Some (CharV 98)) ∷ []) (binding (codes "ns::a") (IntV (pos 5)) ∷ binding (codes "ns::x") (IntV (pos 64)) ∷ [])) ([]) ((Var false false (codes "b") (IntegerConstant (pos 3))) ∷ (Var false false (codes "b") (DynamicConstant (MapV no_fields))) ∷ (Var false false (codes "m") (DynamicConstant (IntV (pos 7)))) ∷ (Var false false (codes "x") (DynamicConstant (IntV (negsuc 0)))) ∷ (TryCatch (Variable ([]) (codes "c")) (stmts ((FnCallStmt (callee [] (codes "f") false NoToken) (exprs ((IntegerConstant (pos 7)) ∷ []))) ∷ (Return true false (an_expr (DynamicConstant (PointerV (codes "g") (values ([])))))) ∷ [])) (stmts ((If (BoolConstant true) (stmts ((Return false false (an_expr (Variable ((codes "ns") ∷ []) (codes "c")))) ∷ [])) (stmts ([]))) ∷ []))) ∷ []) AtStatements (entry (codes "m") true (TextV (codes "ab")) ∷ []) 10 ≡ ends (WithStuck Unbound) (entry (codes "m") true (TextV (codes "ab")) ∷ entry (codes "b") false (IntV (pos 3)) ∷ entry (codes "b") false (MapV no_fields) ∷ entry (codes "m") false (IntV (pos 7)) ∷ entry (codes "x") false (IntV (negsuc 0)) ∷ []) None (asked None (codes "f") ((IntV (pos 7)) ∷ []) ∷ []) 10
unfolding ran
flow_9200939 = refl

-- let y = c
-- let c = true
-- let a = c
-- if <(63, 64) { call print(false); block {}; try { <Fn(h)>; block { let a = <[[1], [2]]>; Index(a, Index!(1, { a = <[[3]]>; 0 })) }; 3 } catch b {} } else {}
-- call print(c)
-- fn h(a) { call print(<"">) }
-- fn f(a) {}
-- fn k() { y }
flow_9201235 : ran (engine (binding (codes "c") (MapV no_fields) ∷ []) ([]) ([]) false) (host ([]) (Answers (IntV (pos 9223372036854775806)) None ∷ AnswersThrow (PointerV (codes "f") (values ([]))) ∷ []) (binding (codes "ns::a") (IntV (pos 5)) ∷ binding (codes "ns::x") (IntV (negsuc 1)) ∷ [])) ((function None (codes "h") ((codes "a") ∷ []) ((FnCallStmt (callee [] (codes "print") false NoToken) (exprs ((DynamicConstant (TextV (codes ""))) ∷ []))) ∷ [])) ∷ (function None (codes "f") ((codes "a") ∷ []) ([])) ∷ (function None (codes "k") ([]) ((ExprStmt (Variable ([]) (codes "y"))) ∷ [])) ∷ []) ((Var false false (codes "y") (Variable ([]) (codes "c"))) ∷ (Var false false (codes "c") (BoolConstant true)) ∷ (Var false false (codes "a") (Variable ([]) (codes "c"))) ∷ (If (FnCall (callee [] (codes "<") false (OfOperator Less)) (exprs ((IntegerConstant (pos 63)) ∷ (IntegerConstant (pos 64)) ∷ []))) (stmts ((FnCallStmt (callee [] (codes "print") false NoToken) (exprs ((BoolConstant false) ∷ []))) ∷ (Block (stmts ([]))) ∷ (TryCatch (Variable ([]) (codes "b")) (stmts ((ExprStmt (DynamicConstant (PointerV (codes "h") (values ((CharV 122) ∷ []))))) ∷ (Block (stmts ((Var false false (codes "a") (DynamicConstant (ArrayV (values ((ArrayV (values ((IntV (pos 1)) ∷ []))) ∷ (ArrayV (values ((IntV (pos 2)) ∷ []))) ∷ []))))) ∷ (ExprStmt (Index (flags false false) (Variable ([]) (codes "a")) (Index (flags false true) (IntegerConstant (pos 1)) (BlockExpr (stmts ((Assignment None (Variable ([]) (codes "a")) (DynamicConstant (ArrayV (values ((ArrayV (values ((IntV (pos 3)) ∷ []))) ∷ []))))) ∷ (ExprStmt (IntegerConstant (pos 0))) ∷ [])))))) ∷ []))) ∷ (ExprStmt (IntegerConstant (pos 3))) ∷ [])) (stmts ([]))) ∷ [])) (stmts ([]))) ∷ (FnCallStmt (callee [] (codes "print") false NoToken) (exprs ((Variable ([]) (codes "c")) ∷ []))) ∷ []) AtStatements ([]) 0 ≡ ends (WithStuck NoPlace) (entry (codes "y") false (MapV no_fields) ∷ entry (codes "c") false (BoolV true) ∷ entry (codes "a") false (BoolV true) ∷ []) None (asked None (codes "print") ((BoolV false) ∷ []) ∷ []) 0
unfolding ran
flow_9201235 = refl

-- let m = "a"
-- let a = m
-- try { block { 9223372036854775807; 3 }; m |= a; throw call(<Fn(k)>, 1) } catch y { try {} catch m { false } }
-- call print(true)
-- switch () {  |  | default - | true => <true>, true => a, true => a }
flow_9201420 : ran (engine ([]) (override (codes "!=") ((codes "Fn") ∷ (codes "string") ∷ []) ∷ override (codes "**") ((codes "map") ∷ (codes "range") ∷ []) ∷ override (codes "**=") ((codes "bool") ∷ []) ∷ override (codes "**=") ((codes "char") ∷ []) ∷ override (codes "**=") ((codes "i64") ∷ (codes "i64") ∷ []) ∷ override (codes "-") ((codes "i64") ∷ (codes "i64") ∷ []) ∷ override (codes "/=") ((codes "range") ∷ []) ∷ override (codes "==") ((codes "range=") ∷ (codes "char") ∷ []) ∷ override (codes ">=") ((codes "i64") ∷ (codes "i64") ∷ []) ∷ override (codes "|") ((codes "()") ∷ (codes "i64") ∷ []) ∷ override (codes "|=") ((codes "array") ∷ (codes "i64") ∷ []) ∷ []) (renamed (codes "i64") (codes "int") ∷ []) true) (host ([]) (Answers (PointerV (codes "g") (values ([]))) None ∷ Answers (PointerV (codes "h") (values ((BoolV false) ∷ []))) None ∷ Answers (PointerV (codes "g") (values ((CharV 97) ∷ []))) None ∷ Answers (RangeV (pos 3) (pos 2)) None ∷ []) (binding (codes "ns::a") (IntV (pos 5)) ∷ binding (codes "ns::x") (PointerV (codes "h") (values ((CharV 233) ∷ []))) ∷ [])) ([]) ((Var false false (codes "m") (StringConstant (codes "a"))) ∷ (Var false false (codes "a") (Variable ([]) (codes "m"))) ∷ (TryCatch (Variable ([]) (codes "y")) (stmts ((Block (stmts ((ExprStmt (IntegerConstant (pos 9223372036854775807))) ∷ (ExprStmt (IntegerConstant (pos 3))) ∷ []))) ∷ (Assignment (Some BitOr) (Variable ([]) (codes "m")) (Variable ([]) (codes "a"))) ∷ (Return true false (an_expr (FnCall (callee [] (codes "call") false NoToken) (exprs ((DynamicConstant (PointerV (codes "k") (values (UnitV ∷ [])))) ∷ (IntegerConstant (pos 1)) ∷ []))))) ∷ [])) (stmts ((TryCatch (Variable ([]) (codes "m")) (stmts ([])) (stmts ((ExprStmt (BoolConstant false)) ∷ []))) ∷ []))) ∷ (FnCallStmt (callee [] (codes "print") false NoToken) (exprs ((BoolConstant true) ∷ []))) ∷ (Switch UnitConstant (arm (BoolConstant true) (DynamicConstant (BoolV true)) (arm (BoolConstant true) (Variable ([]) (codes "a")) (arm (BoolConstant true) (Variable ([]) (codes "a")) no_arms))) (table ([]) ([]) None)) ∷ []) AtStatements (entry (codes "a") true UnitV ∷ entry (codes "x") false (IntV (pos 64)) ∷ entry (codes "b") false (TextV (codes "")) ∷ []) 10 ≡ ends (WithValue UnitV) (entry (codes "b") false (TextV (codes "")) ∷ entry (codes "x") false (IntV (pos 64)) ∷ entry (codes "a") true UnitV ∷ entry (codes "m") false (PointerV (codes "g") (values ([]))) ∷ entry (codes "a") false (TextV (codes "a")) ∷ []) None (asked None (codes "|") ((TextV (codes "a")) ∷ (TextV (codes "a")) ∷ []) ∷ asked None (codes "k") (UnitV ∷ (IntV (pos 1)) ∷ []) ∷ asked None (codes "print") ((BoolV true) ∷ []) ∷ []) 10
unfolding ran
flow_9201420 = refl

-- const b = <true>
-- let m = b
-- let c = 3
-- let c = <[]>
-- try { throw m } catch a { for b in <[]> { false; 0; <9223372036854775806> } }
-- switch c { 2..=3: 2, [true, ()]: 3 |  | default 4 | false => #{}, false => c, true => coalesce(<'z'>, false, b), true => 63, true => #{a: ..(1, ()), k: ""} }
-- if { true } { m %= 'b'; call print(63); block { 64 } } else {}
-- fn f(a) { block { if { 3; 63; true } {} else { "f"; 3 }; block {}; switch 'a' { (): , -1..2: 0 |  | default - | true => x } }; call h(); x |= #{k: a, b: ()} }
flow_9202597 : ran (engine (binding (codes "m") (TextV (codes "f")) ∷ []) (override (codes "%") ((codes "bool") ∷ (codes "range") ∷ []) ∷ override (codes "%=") ((codes "i64") ∷ (codes "i64") ∷ []) ∷ override (codes "+=") ((codes "map") ∷ (codes "bool") ∷ []) ∷ override (codes "+=") ((codes "range") ∷ (codes "map") ∷ []) ∷ override (codes "-") ((codes "()") ∷ []) ∷ override (codes "-") ((codes "Fn") ∷ []) ∷ override (codes "-=") ((codes "i64") ∷ (codes "i64") ∷ []) ∷ override (codes "<<") ((codes "i64") ∷ (codes "i64") ∷ []) ∷ override (codes "<<=") ((codes "map") ∷ []) ∷ override (codes "==") ((codes "i64") ∷ (codes "i64") ∷ []) ∷ override (codes "|=") ((codes "array") ∷ (codes "i64") ∷ []) ∷ []) ([]) false) (host (named (codes "+") ([]) ∷ []) (Answers (CharV 122) (Some (PointerV (codes "g") (values ((TextV (codes "a")) ∷ [])))) ∷ Answers (PointerV (codes "g") (values ((IntV (negsuc 0)) ∷ []))) None ∷ Answers (IntV (pos 9223372036854775806)) None ∷ Answers (ArrayV (values ([]))) None ∷ []) (binding (codes "ns::a") (IntV (pos 5)) ∷ binding (codes "ns::x") (TextV (codes "f")) ∷ [])) ((function None (codes "f") ((codes "a") ∷ []) ((Block (stmts ((If (BlockExpr (stmts ((ExprStmt (IntegerConstant (pos 3))) ∷ (ExprStmt (IntegerConstant (pos 63))) ∷ (ExprStmt (BoolConstant true)) ∷ []))) (stmts ([])) (stmts ((ExprStmt (StringConstant (codes "f"))) ∷ (ExprStmt (IntegerConstant (pos 3))) ∷ []))) ∷ (Block (stmts ([]))) ∷ (Switch (CharConstant 97) (arm (BoolConstant true) (Variable ([]) (codes "x")) no_arms) (table (case UnitV ([]) ∷ case (RangeV (negsuc 0) (pos 2)) (0 ∷ []) ∷ []) ([]) None)) ∷ []))) ∷ (FnCallStmt (callee [] (codes "h") false NoToken) (exprs ([]))) ∷ (Assignment (Some BitOr) (Variable ([]) (codes "x")) (MapOf (pair (codes "k") (Variable ([]) (codes "a")) (pair (codes "b") UnitConstant no_pairs)) ((codes "k") ∷ (codes "b") ∷ []))) ∷ [])) ∷ []) ((Var true false (codes "b") (DynamicConstant (BoolV true))) ∷ (Var false false (codes "m") (Variable ([]) (codes "b"))) ∷ (Var false false (codes "c") (IntegerConstant (pos 3))) ∷ (Var false false (codes "c") (DynamicConstant (ArrayV (values ([]))))) ∷ (TryCatch (Variable ([]) (codes "a")) (stmts ((Return true false (an_expr (Variable ([]) (codes "m")))) ∷ [])) (stmts ((For (codes "b") None (DynamicConstant (ArrayV (values ([])))) (stmts ((ExprStmt (BoolConstant false)) ∷ (ExprStmt (IntegerConstant (pos 0))) ∷ (ExprStmt (DynamicConstant (IntV (pos 9223372036854775806)))) ∷ []))) ∷ []))) ∷ (Switch (Variable ([]) (codes "c")) (arm (BoolConstant false) (MapOf no_pairs ([])) (arm (BoolConstant false) (Variable ([]) (codes "c")) (arm (BoolConstant true) (Coalesce (exprs ((DynamicConstant (CharV 122)) ∷ (BoolConstant false) ∷ (Variable ([]) (codes "b")) ∷ []))) (arm (BoolConstant true) (IntegerConstant (pos 63)) (arm (BoolConstant true) (MapOf (pair (codes "a") (FnCall (callee [] (codes "..") false (OfOperator UpTo)) (exprs ((IntegerConstant (pos 1)) ∷ UnitConstant ∷ []))) (pair (codes "k") (StringConstant (codes "")) no_pairs)) ((codes "a") ∷ (codes "k") ∷ [])) no_arms))))) (table (case (RangeInclusiveV (pos 2) (pos 3)) (2 ∷ []) ∷ case (ArrayV (values ((BoolV true) ∷ UnitV ∷ []))) (3 ∷ []) ∷ []) ([]) (Some 4))) ∷ (If (BlockExpr (stmts ((ExprStmt (BoolConstant true)) ∷ []))) (stmts ((Assignment (Some Modulo) (Variable ([]) (codes "m")) (CharConstant 98)) ∷ (FnCallStmt (callee [] (codes "print") false NoToken) (exprs ((IntegerConstant (pos 63)) ∷ []))) ∷ (Block (stmts ((ExprStmt (IntegerConstant (pos 64))) ∷ []))) ∷ [])) (stmts ([]))) ∷ []) AtStatements (entry (codes "c") true (CharV 122) ∷ entry (codes "y") false (PointerV (codes "f") (values ([]))) ∷ entry (codes "b") true (MapV no_fields) ∷ []) 3 ≡ ends (WithValue (IntV (pos 64))) (entry (codes "b") true (MapV no_fields) ∷ entry (codes "y") false (PointerV (codes "f") (values ([]))) ∷ entry (codes "c") true (CharV 122) ∷ entry (codes "b") true (BoolV true) ∷ entry (codes "m") false (CharV 122) ∷ entry (codes "c") false (IntV (pos 3)) ∷ entry (codes "c") false (ArrayV (values ([]))) ∷ []) None (asked None (codes "%") ((BoolV true) ∷ (CharV 98) ∷ []) ∷ asked None (codes "print") ((IntV (pos 63)) ∷ []) ∷ []) 3
unfolding ran
flow_9202597 = refl

-- let b = "ab"
-- let m = 64
-- let x = true
-- const x = Dot(m, Dot?(a, b))
-- if true { call h(); if { <[Fn(g), false, 7]>; for (a, b) in <[5, 6]> { print(b); print(a) } } { 'b'; 9223372036854775806; 'a' } else { 'a'; false; 'a' }; block {} } else {}
-- fn f(a) {}
-- fn k() { y }
flow_9202636 : ran (engine (binding (codes "x") (IntV (negsuc 0)) ∷ binding (codes "b") (RangeV (pos 1) (pos 4)) ∷ []) (override (codes "&") ((codes "()") ∷ []) ∷ override (codes "<<") ((codes "i64") ∷ (codes "i64") ∷ []) ∷ override (codes ">") ((codes "char") ∷ (codes "i64") ∷ []) ∷ []) (renamed (codes "i64") (codes "int") ∷ []) true) (host (named (codes "+") (Answers (TextV (codes "a")) (Some (MapV (field (codes "b") (IntV (pos 2)) no_fields))) ∷ []) ∷ named (codes "index$get$") (Answers (IntV (negsuc 0)) (Some (ArrayV (values ((IntV (pos 64)) ∷ UnitV ∷ [])))) ∷ Answers (IntV (pos 7)) (Some (CharV 98)) ∷ []) ∷ []) (Answers (IntV (pos 7)) None ∷ Answers (PointerV (codes "g") (values ([]))) (Some UnitV) ∷ Answers (CharV 98) (Some (BoolV false)) ∷ Answers (ArrayV (values ((BoolV false) ∷ (BoolV true) ∷ (IntV (pos 0)) ∷ []))) None ∷ []) (binding (codes "ns::a") (IntV (pos 5)) ∷ binding (codes "ns::x") (PointerV (codes "g") (values ([]))) ∷ [])) ((function None (codes "f") ((codes "a") ∷ []) ([])) ∷ (function None (codes "k") ([]) ((ExprStmt (Variable ([]) (codes "y"))) ∷ [])) ∷ []) ((Var false false (codes "b") (StringConstant (codes "ab"))) ∷ (Var false false (codes "m") (IntegerConstant (pos 64))) ∷ (Var false false (codes "x") (BoolConstant true)) ∷ (Var true false (codes "x") (Dot (flags false false) (Variable ([]) (codes "m")) (Dot (flags true false) (property (codes "get$a") (codes "set$a") (codes "a")) (property (codes "get$b") (codes "set$b") (codes "b"))))) ∷ (If (BoolConstant true) (stmts ((FnCallStmt (callee [] (codes "h") false NoToken) (exprs ([]))) ∷ (If (BlockExpr (stmts ((ExprStmt (DynamicConstant (ArrayV (values ((PointerV (codes "g") (values ((IntV (pos 9223372036854775806)) ∷ []))) ∷ (BoolV false) ∷ (IntV (pos 7)) ∷ []))))) ∷ (For (codes "a") (Some (codes "b")) (DynamicConstant (ArrayV (values ((IntV (pos 5)) ∷ (IntV (pos 6)) ∷ [])))) (stmts ((ExprStmt (FnCall (callee [] (codes "print") false NoToken) (exprs ((Variable ([]) (codes "b")) ∷ [])))) ∷ (ExprStmt (FnCall (callee [] (codes "print") false NoToken) (exprs ((Variable ([]) (codes "a")) ∷ [])))) ∷ []))) ∷ []))) (stmts ((ExprStmt (CharConstant 98)) ∷ (ExprStmt (IntegerConstant (pos 9223372036854775806))) ∷ (ExprStmt (CharConstant 97)) ∷ [])) (stmts ((ExprStmt (CharConstant 97)) ∷ (ExprStmt (BoolConstant false)) ∷ (ExprStmt (CharConstant 97)) ∷ []))) ∷ (Block (stmts ([]))) ∷ [])) (stmts ([]))) ∷ []) AtStatements (entry (codes "a") true UnitV ∷ []) 2 ≡ ends (WithStuck WrongKind) (entry (codes "a") true UnitV ∷ entry (codes "b") false (TextV (codes "ab")) ∷ entry (codes "m") false (IntV (pos 64)) ∷ entry (codes "x") false (BoolV true) ∷ entry (codes "x") true (PointerV (codes "g") (values ([]))) ∷ []) None (asked (Some (IntV (pos 64))) (codes "get$a") ([]) ∷ asked (Some (IntV (pos 7))) (codes "get$b") ([]) ∷ asked None (codes "h") ([]) ∷ asked None (codes "print") ((IntV (pos 0)) ∷ []) ∷ asked None (codes "print") ((IntV (pos 5)) ∷ []) ∷ asked None (codes "print") ((IntV (pos 1)) ∷ []) ∷ asked None (codes "print") ((IntV (pos 6)) ∷ []) ∷ []) 0
unfolding ran
flow_9202636 = refl

-- const m = call(Fn("f"), 1)
-- let a = 64
-- let m = 'z'
-- block {}
-- switch () { true: , (): 0 | 0..=1: 1, 1..1: 0 | default 3 | { true; 7; true } => coalesce(a, 'é'), true => [<-9223372036854775808>, <false>, ()], true => Dot?(#{b: (), a: 'a'}, Index(a, Dot!("k", push(m)))), true => [m, m] }
-- block { block { () }; m |= 'é'; if { true } { "" } else {} }
-- fn f(a) { try { try { (); (); 0; throw <9223372036854775806> } catch y {} } catch m {} }
flow_9202749 : ran (engine ([]) (override (codes "&") ((codes "range") ∷ (codes "range") ∷ []) ∷ override (codes "&") ((codes "range=") ∷ (codes "range") ∷ []) ∷ override (codes "+") ((codes "i64") ∷ (codes "i64") ∷ []) ∷ override (codes "-=") ((codes "i64") ∷ (codes "i64") ∷ []) ∷ override (codes "..") ((codes "range=") ∷ (codes "bool") ∷ []) ∷ override (codes "/") ((codes "Fn") ∷ []) ∷ override (codes "/=") ((codes "i64") ∷ (codes "i64") ∷ []) ∷ override (codes "^") ((codes "map") ∷ []) ∷ override (codes "^=") ((codes "string") ∷ []) ∷ []) ([]) true) (host ([]) (Answers (PointerV (codes "g") (values ([]))) None ∷ Answers (TextV (codes "ab")) (Some (IntV (negsuc 9223372036854775807))) ∷ Answers (IntV (pos 1)) None ∷ Answers (BoolV true) (Some (IntV (pos 1))) ∷ Answers (PointerV (codes "g") (values ([]))) None ∷ []) (binding (codes "ns::a") (IntV (pos 5)) ∷ binding (codes "ns::x") (ArrayV (values (UnitV ∷ []))) ∷ [])) ((function None (codes "f") ((codes "a") ∷ []) ((TryCatch (Variable ([]) (codes "m")) (stmts ((TryCatch (Variable ([]) (codes "y")) (stmts ((ExprStmt UnitConstant) ∷ (ExprStmt UnitConstant) ∷ (ExprStmt (IntegerConstant (pos 0))) ∷ (Return true false (an_expr (DynamicConstant (IntV (pos 9223372036854775806))))) ∷ [])) (stmts ([]))) ∷ [])) (stmts ([]))) ∷ [])) ∷ []) ((Var true false (codes "m") (FnCall (callee [] (codes "call") false NoToken) (exprs ((FnCall (callee [] (codes "Fn") false NoToken) (exprs ((StringConstant (codes "f")) ∷ []))) ∷ (IntegerConstant (pos 1)) ∷ [])))) ∷ (Var false false (codes "a") (IntegerConstant (pos 64))) ∷ (Var false false (codes "m") (CharConstant 122)) ∷ (Block (stmts ([]))) ∷ (Switch UnitConstant (arm (BlockExpr (stmts ((ExprStmt (BoolConstant true)) ∷ (ExprStmt (IntegerConstant (pos 7))) ∷ (ExprStmt (BoolConstant true)) ∷ []))) (Coalesce (exprs ((Variable ([]) (codes "a")) ∷ (CharConstant 233) ∷ []))) (arm (BoolConstant true) (ArrayOf (exprs ((DynamicConstant (IntV (negsuc 9223372036854775807))) ∷ (DynamicConstant (BoolV false)) ∷ UnitConstant ∷ []))) (arm (BoolConstant true) (Dot (flags true false) (MapOf (pair (codes "b") UnitConstant (pair (codes "a") (CharConstant 97) no_pairs)) ((codes "b") ∷ (codes "a") ∷ [])) (Index (flags false false) (property (codes "get$a") (codes "set$a") (codes "a")) (Dot (flags false true) (StringConstant (codes "k")) (MethodCall (callee [] (codes "push") false NoToken) (exprs ((Variable ([]) (codes "m")) ∷ [])))))) (arm (BoolConstant true) (ArrayOf (exprs ((Variable ([]) (codes "m")) ∷ (Variable ([]) (codes "m")) ∷ []))) no_arms)))) (table (case (BoolV true) ([]) ∷ case UnitV (0 ∷ []) ∷ []) (record { range = InclusiveInt (pos 0) (pos 1); arm = 1 } ∷ record { range = ExclusiveInt (pos 1) (pos 1); arm = 0 } ∷ []) (Some 3))) ∷ (Block (stmts ((Block (stmts ((ExprStmt UnitConstant) ∷ []))) ∷ (Assignment (Some BitOr) (Variable ([]) (codes "m")) (CharConstant 233)) ∷ (If (BlockExpr (stmts ((ExprStmt (BoolConstant true)) ∷ []))) (stmts ((ExprStmt (StringConstant (codes ""))) ∷ [])) (stmts ([]))) ∷ []))) ∷ []) AtStatements (entry (codes "y") true (PointerV (codes "f") (values ((CharV 122) ∷ []))) ∷ entry (codes "x") false (RangeInclusiveV (pos 1) (pos 4)) ∷ entry (codes "a") false (MapV (field (codes "a") UnitV (field (codes "b") UnitV no_fields))) ∷ []) 10 ≡ ends (WithValue (TextV (codes ""))) (entry (codes "a") false (MapV (field (codes "a") UnitV (field (codes "b") UnitV no_fields))) ∷ entry (codes "x") false (RangeInclusiveV (pos 1) (pos 4)) ∷ entry (codes "y") true (PointerV (codes "f") (values ((CharV 122) ∷ []))) ∷ entry (codes "m") true UnitV ∷ entry (codes "a") false (IntV (pos 64)) ∷ entry (codes "m") false (PointerV (codes "g") (values ([]))) ∷ []) None (asked None (codes "|") ((CharV 122) ∷ (CharV 233) ∷ []) ∷ []) 9
unfolding ran
flow_9202749 = refl

-- let a = 1
-- let a = a
-- let y = <Fn(g)>
-- const y = 'z'
-- let x = ()
-- let c = y
-- switch coalesce(a) { -2: 0, "b":  | 2..3: 0 | default - | true => coalesce(a) }
-- try { block { <9223372036854775807>; ""; true }; try { throw } catch b { "ab" } } catch c { const c = a; try { () } catch { () } }
-- block { call f(); for (y, y) in <1..4> { 0; 9223372036854775806; <1> } }
-- fn h(a) { try { throw x } catch c { block { !(false) } }; for (m, a) in <[]> { try { false; <false>; throw 63 } catch {} }; const b = a }
flow_9202915 : ran (engine (binding (codes "a") (TextV (codes "ab")) ∷ binding (codes "m") (TextV (codes "ab")) ∷ []) (override (codes "*") ((codes "range") ∷ (codes "array") ∷ []) ∷ override (codes "*=") ((codes "bool") ∷ []) ∷ override (codes "/=") ((codes "i64") ∷ (codes "i64") ∷ []) ∷ []) ([]) false) (host ([]) (Answers (MapV (field (codes "a") (TextV (codes "a")) (field (codes "b") (TextV (codes "ab")) no_fields))) None ∷ Answers (ArrayV (values ((TextV (195 ∷ 169 ∷ [])) ∷ []))) None ∷ []) (binding (codes "ns::a") (IntV (pos 5)) ∷ binding (codes "ns::x") (PointerV (codes "f") (values ([]))) ∷ [])) ((function None (codes "h") ((codes "a") ∷ []) ((TryCatch (Variable ([]) (codes "c")) (stmts ((Return true false (an_expr (Variable ([]) (codes "x")))) ∷ [])) (stmts ((Block (stmts ((ExprStmt (FnCall (callee [] (codes "!") false (OfOperator Not)) (exprs ((BoolConstant false) ∷ [])))) ∷ []))) ∷ []))) ∷ (For (codes "m") (Some (codes "a")) (DynamicConstant (ArrayV (values ([])))) (stmts ((TryCatch UnitConstant (stmts ((ExprStmt (BoolConstant false)) ∷ (ExprStmt (DynamicConstant (BoolV false))) ∷ (Return true false (an_expr (IntegerConstant (pos 63)))) ∷ [])) (stmts ([]))) ∷ []))) ∷ (Var true false (codes "b") (Variable ([]) (codes "a"))) ∷ [])) ∷ []) ((Var false false (codes "a") (IntegerConstant (pos 1))) ∷ (Var false false (codes "a") (Variable ([]) (codes "a"))) ∷ (Var false false (codes "y") (DynamicConstant (PointerV (codes "g") (values ((PointerV (codes "f") (values ([]))) ∷ []))))) ∷ (Var true false (codes "y") (CharConstant 122)) ∷ (Var false false (codes "x") UnitConstant) ∷ (Var false false (codes "c") (Variable ([]) (codes "y"))) ∷ (Switch (Coalesce (exprs ((Variable ([]) (codes "a")) ∷ []))) (arm (BoolConstant true) (Coalesce (exprs ((Variable ([]) (codes "a")) ∷ []))) no_arms) (table (case (IntV (negsuc 1)) (0 ∷ []) ∷ case (TextV (codes "b")) ([]) ∷ []) (record { range = ExclusiveInt (pos 2) (pos 3); arm = 0 } ∷ []) None)) ∷ (TryCatch (Variable ([]) (codes "c")) (stmts ((Block (stmts ((ExprStmt (DynamicConstant (IntV (pos 9223372036854775807)))) ∷ (ExprStmt (StringConstant (codes ""))) ∷ (ExprStmt (BoolConstant true)) ∷ []))) ∷ (TryCatch (Variable ([]) (codes "b")) (stmts ((Return true false no_expr) ∷ [])) (stmts ((ExprStmt (StringConstant (codes "ab"))) ∷ []))) ∷ [])) (stmts ((Var true false (codes "c") (Variable ([]) (codes "a"))) ∷ (TryCatch UnitConstant (stmts ((ExprStmt UnitConstant) ∷ [])) (stmts ((ExprStmt UnitConstant) ∷ []))) ∷ []))) ∷ (Block (stmts ((FnCallStmt (callee [] (codes "f") false NoToken) (exprs ([]))) ∷ (For (codes "y") (Some (codes "y")) (DynamicConstant (RangeV (pos 1) (pos 4))) (stmts ((ExprStmt (IntegerConstant (pos 0))) ∷ (ExprStmt (IntegerConstant (pos 9223372036854775806))) ∷ (ExprStmt (DynamicConstant (IntV (pos 1)))) ∷ []))) ∷ []))) ∷ []) AtStatements (entry (codes "a") false (IntV (pos 7)) ∷ entry (codes "c") false (PointerV (codes "h") (values (UnitV ∷ []))) ∷ entry (codes "m") true (RangeInclusiveV (pos 1) (pos 4)) ∷ []) 3 ≡ ends (WithValue UnitV) (entry (codes "m") true (RangeInclusiveV (pos 1) (pos 4)) ∷ entry (codes "c") false (PointerV (codes "h") (values (UnitV ∷ []))) ∷ entry (codes "a") false (IntV (pos 7)) ∷ entry (codes "a") false (IntV (pos 1)) ∷ entry (codes "a") false (IntV (pos 1)) ∷ entry (codes "y") false (PointerV (codes "g") (values ((PointerV (codes "f") (values ([]))) ∷ []))) ∷ entry (codes "y") true (CharV 122) ∷ entry (codes "x") false UnitV ∷ entry (codes "c") false (CharV 122) ∷ []) None (asked None (codes "f") ([]) ∷ []) 0
unfolding ran
flow_9202915 = refl

-- let a = ""
-- const c = ()
-- const x = true
-- const c = ""
-- switch Dot(<'b'>, Index!(Fn(), -1)) { (): , 7: 1, 'é': 1 | 0..=2: 1, 1..1: 0 | default 2 | true => Index("f", Index?!("a", x)), true => >>(a, false), true => [] }
-- let x = call(<Fn(k)>, 1)
-- call h()
flow_9202919 : ran (engine (binding (codes "c") (TextV (codes "ab")) ∷ []) ([]) (renamed (codes "i64") (codes "int") ∷ []) false) (host (named (codes "h") ([]) ∷ named (codes "push") (Answers (BoolV true) None ∷ Answers (BoolV true) None ∷ []) ∷ []) ([]) (binding (codes "ns::a") (IntV (pos 5)) ∷ binding (codes "ns::x") (IntV (pos 7)) ∷ [])) ([]) ((Var false false (codes "a") (StringConstant (codes ""))) ∷ (Var true false (codes "c") UnitConstant) ∷ (Var true false (codes "x") (BoolConstant true)) ∷ (Var true false (codes "c") (StringConstant (codes ""))) ∷ (Switch (Dot (flags false false) (DynamicConstant (CharV 98)) (Index (flags false true) (MethodCall (callee [] (codes "Fn") false NoToken) (exprs ([]))) (IntegerConstant (negsuc 0)))) (arm (BoolConstant true) (Index (flags false false) (StringConstant (codes "f")) (Index (flags true true) (StringConstant (codes "a")) (Variable ([]) (codes "x")))) (arm (BoolConstant true) (FnCall (callee [] (codes ">>") false (OfOperator ShiftRight)) (exprs ((Variable ([]) (codes "a")) ∷ (BoolConstant false) ∷ []))) (arm (BoolConstant true) (ArrayOf (exprs ([]))) no_arms))) (table (case UnitV ([]) ∷ case (IntV (pos 7)) (1 ∷ []) ∷ case (CharV 233) (1 ∷ []) ∷ []) (record { range = InclusiveInt (pos 0) (pos 2); arm = 1 } ∷ record { range = ExclusiveInt (pos 1) (pos 1); arm = 0 } ∷ []) (Some 2))) ∷ (Var false false (codes "x") (FnCall (callee [] (codes "call") false NoToken) (exprs ((DynamicConstant (PointerV (codes "k") (values (UnitV ∷ [])))) ∷ (IntegerConstant (pos 1)) ∷ [])))) ∷ (FnCallStmt (callee [] (codes "h") false NoToken) (exprs ([]))) ∷ []) AtStatements ([]) 3 ≡ ends (WithValue UnitV) (entry (codes "a") false (TextV (codes "")) ∷ entry (codes "c") true UnitV ∷ entry (codes "x") true (BoolV true) ∷ entry (codes "c") true (TextV (codes "")) ∷ entry (codes "x") false UnitV ∷ []) None (asked (Some (CharV 98)) (codes "Fn") ([]) ∷ asked (Some UnitV) (codes "index$get$") ((IntV (negsuc 0)) ∷ []) ∷ asked None (codes "k") (UnitV ∷ (IntV (pos 1)) ∷ []) ∷ asked None (codes "h") ([]) ∷ []) 3
unfolding ran
flow_9202919 = refl

-- let c = <0>
-- const a = 'a'
-- const y = c
-- call f()
-- let a = <"">
-- call f()
-- fn g(a) { let c = coalesce(c, 63); if >(call(<Fn(k)>, 1), -9223372036854775808) { return () } else {} }
-- fn f() { call g(()); block { block {}; if true { 'a'; "f"; 3 } else {} } }
-- fn g() { m = text(c) }
flow_9203050 : ran (engine ([]) (override (codes "!") ((codes "i64") ∷ []) ∷ override (codes "*=") ((codes "bool") ∷ []) ∷ override (codes "+=") ((codes "i64") ∷ (codes "i64") ∷ []) ∷ override (codes "-") ((codes "Fn") ∷ []) ∷ override (codes "..") ((codes "()") ∷ (codes "()") ∷ []) ∷ override (codes "/") ((codes "range=") ∷ (codes "bool") ∷ []) ∷ override (codes "<<") ((codes "char") ∷ (codes "i64") ∷ []) ∷ override (codes ">") ((codes "i64") ∷ (codes "i64") ∷ []) ∷ override (codes "|") ((codes "i64") ∷ (codes "i64") ∷ []) ∷ []) ([]) false) (host ([]) (Answers (CharV 233) None ∷ Answers UnitV None ∷ Answers (IntV (pos 2)) None ∷ Answers (TextV (codes "ab")) None ∷ []) (binding (codes "ns::a") (IntV (pos 5)) ∷ binding (codes "ns::x") (RangeV (pos 3) (pos 5)) ∷ [])) ((function None (codes "g") ((codes "a") ∷ []) ((Var false false (codes "c") (Coalesce (exprs ((Variable ([]) (codes "c")) ∷ (IntegerConstant (pos 63)) ∷ [])))) ∷ (If (FnCall (callee [] (codes ">") false (OfOperator Greater)) (exprs ((FnCall (callee [] (codes "call") false NoToken) (exprs ((DynamicConstant (PointerV (codes "k") (values (UnitV ∷ [])))) ∷ (IntegerConstant (pos 1)) ∷ []))) ∷ (IntegerConstant (negsuc 9223372036854775807)) ∷ []))) (stmts ((Return false false (an_expr UnitConstant)) ∷ [])) (stmts ([]))) ∷ [])) ∷ (function None (codes "f") ([]) ((FnCallStmt (callee [] (codes "g") false NoToken) (exprs (UnitConstant ∷ []))) ∷ (Block (stmts ((Block (stmts ([]))) ∷ (If (BoolConstant true) (stmts ((ExprStmt (CharConstant 97)) ∷ (ExprStmt (StringConstant (codes "f"))) ∷ (ExprStmt (IntegerConstant (pos 3))) ∷ [])) (stmts ([]))) ∷ []))) ∷ [])) ∷ (function None (codes "g") ([]) ((Assignment None (Variable ([]) (codes "m")) (InterpolatedString (exprs ((Variable ([]) (codes "c")) ∷ [])))) ∷ [])) ∷ []) ((Var false false (codes "c") (DynamicConstant (IntV (pos 0)))) ∷ (Var true false (codes "a") (CharConstant 97)) ∷ (Var true false (codes "y") (Variable ([]) (codes "c"))) ∷ (FnCallStmt (callee [] (codes "f") false NoToken) (exprs ([]))) ∷ (Var false false (codes "a") (DynamicConstant (TextV (codes "")))) ∷ (FnCallStmt (callee [] (codes "f") false NoToken) (exprs ([]))) ∷ []) AtStatements (entry (codes "y") true (PointerV (codes "h") (values ([]))) ∷ entry (codes "y") false (CharV 233) ∷ []) 10 ≡ ends (WithStuck Unbound) (entry (codes "y") false (CharV 233) ∷ entry (codes "y") true (PointerV (codes "h") (values ([]))) ∷ entry (codes "c") false (IntV (pos 0)) ∷ entry (codes "a") true (CharV 97) ∷ entry (codes "y") true (IntV (pos 0)) ∷ []) None ([]) 8
unfolding ran
flow_9203050 = refl

-- [[], "f"]
-- if true { block { 'z'; "" }; call %(9223372036854775807, <3>) } else {}
-- if >(call(<Fn(k)>, 1), -1) {} else {}
small_functions_9300068 : ran (engine ([]) (override (codes "!=") ((codes "i64") ∷ (codes "i64") ∷ []) ∷ override (codes "**=") ((codes "()") ∷ []) ∷ override (codes "==") ((codes "array") ∷ (codes "char") ∷ []) ∷ []) ([]) false) (host (named (codes "index$get$") (Answers (CharV 98) (Some UnitV) ∷ Answers (TextV (codes "ab")) None ∷ []) ∷ named (codes "f") (Answers (BoolV false) None ∷ Answers (BoolV true) None ∷ Answers (TextV (195 ∷ 169 ∷ [])) None ∷ Answers (IntV (pos 3)) (Some (BoolV false)) ∷ []) ∷ []) ([]) (binding (codes "ns::a") (IntV (pos 5)) ∷ binding (codes "ns::x") (IntV (pos 9223372036854775806)) ∷ [])) ([]) ((ExprStmt (ArrayOf (exprs ((ArrayOf (exprs ([]))) ∷ (StringConstant (codes "f")) ∷ [])))) ∷ (If (BoolConstant true) (stmts ((Block (stmts ((ExprStmt (CharConstant 122)) ∷ (ExprStmt (StringConstant (codes ""))) ∷ []))) ∷ (FnCallStmt (callee [] (codes "%") false (OfOperator Modulo)) (exprs ((IntegerConstant (pos 9223372036854775807)) ∷ (DynamicConstant (IntV (pos 3))) ∷ []))) ∷ [])) (stmts ([]))) ∷ (If (FnCall (callee [] (codes ">") false (OfOperator Greater)) (exprs ((FnCall (callee [] (codes "call") false NoToken) (exprs ((DynamicConstant (PointerV (codes "k") (values (UnitV ∷ [])))) ∷ (IntegerConstant (pos 1)) ∷ []))) ∷ (IntegerConstant (negsuc 0)) ∷ []))) (stmts ([])) (stmts ([]))) ∷ []) AtStatements (entry (codes "x") true (CharV 97) ∷ entry (codes "m") false (TextV (codes "b")) ∷ entry (codes "m") true (ArrayV (values (UnitV ∷ (TextV (codes "ab")) ∷ UnitV ∷ []))) ∷ []) 5 ≡ ends (WithStuck WrongKind) (entry (codes "m") true (ArrayV (values (UnitV ∷ (TextV (codes "ab")) ∷ UnitV ∷ []))) ∷ entry (codes "m") false (TextV (codes "b")) ∷ entry (codes "x") true (CharV 97) ∷ []) None (asked None (codes "k") (UnitV ∷ (IntV (pos 1)) ∷ []) ∷ asked None (codes ">") (UnitV ∷ (IntV (negsuc 0)) ∷ []) ∷ []) 5
unfolding ran
small_functions_9300068 = refl

-- call <(-9223372036854775808, 64)
-- if false { call type_of(1) } else { block { "é"; (); call(<Fn(k)>, 1) } }
-- block { call print(); call f(true, ()) }
-- fn g(a) { noop }
-- fn f(a, b) { if () { <"f">; 2 } else {} }
small_functions_9300357 : ran (engine (binding (codes "a") (IntV (pos 9223372036854775807)) ∷ []) ([]) ([]) false) (host ([]) (Answers UnitV None ∷ []) (binding (codes "ns::a") (IntV (pos 5)) ∷ binding (codes "ns::x") (IntV (pos 0)) ∷ [])) ((function None (codes "g") ((codes "a") ∷ []) (Noop ∷ [])) ∷ (function None (codes "f") ((codes "a") ∷ (codes "b") ∷ []) ((If UnitConstant (stmts ((ExprStmt (DynamicConstant (TextV (codes "f")))) ∷ (ExprStmt (IntegerConstant (pos 2))) ∷ [])) (stmts ([]))) ∷ [])) ∷ []) ((FnCallStmt (callee [] (codes "<") false (OfOperator Less)) (exprs ((IntegerConstant (negsuc 9223372036854775807)) ∷ (IntegerConstant (pos 64)) ∷ []))) ∷ (If (BoolConstant false) (stmts ((FnCallStmt (callee [] (codes "type_of") false NoToken) (exprs ((IntegerConstant (pos 1)) ∷ []))) ∷ [])) (stmts ((Block (stmts ((ExprStmt (StringConstant (195 ∷ 169 ∷ []))) ∷ (ExprStmt UnitConstant) ∷ (ExprStmt (FnCall (callee [] (codes "call") false NoToken) (exprs ((DynamicConstant (PointerV (codes "k") (values (UnitV ∷ [])))) ∷ (IntegerConstant (pos 1)) ∷ [])))) ∷ []))) ∷ []))) ∷ (Block (stmts ((FnCallStmt (callee [] (codes "print") false NoToken) (exprs ([]))) ∷ (FnCallStmt (callee [] (codes "f") false NoToken) (exprs ((BoolConstant true) ∷ UnitConstant ∷ []))) ∷ []))) ∷ []) AtStatements ([]) 2 ≡ ends (WithStuck WrongKind) ([]) None (asked None (codes "k") (UnitV ∷ (IntV (pos 1)) ∷ []) ∷ asked None (codes "print") ([]) ∷ []) 1
unfolding ran
small_functions_9300357 = refl

-- block { [] }
-- [**("é", "b"), /(63, call(<Fn(k)>, 1))]
small_functions_9300676 : ran (engine (binding (codes "c") UnitV ∷ binding (codes "b") (CharV 97) ∷ []) (override (codes "!=") ((codes "char") ∷ (codes "Fn") ∷ []) ∷ override (codes "&") ((codes "i64") ∷ (codes "i64") ∷ []) ∷ override (codes "*=") ((codes "array") ∷ []) ∷ override (codes "..") ((codes "i64") ∷ (codes "i64") ∷ []) ∷ override (codes "..=") ((codes "range=") ∷ (codes "()") ∷ []) ∷ override (codes "<") ((codes "()") ∷ []) ∷ override (codes "<<=") ((codes "i64") ∷ (codes "i64") ∷ []) ∷ override (codes ">>") ((codes "char") ∷ (codes "range") ∷ []) ∷ override (codes ">>=") ((codes "()") ∷ []) ∷ []) ([]) false) (host (named (codes "h") (Answers (CharV 98) None ∷ Answers (IntV (negsuc 1)) None ∷ Answers (IntV (pos 7)) None ∷ Answers (BoolV false) None ∷ Answers (ArrayV (values ((IntV (pos 63)) ∷ (IntV (pos 9223372036854775806)) ∷ (TextV (codes "a")) ∷ []))) None ∷ []) ∷ []) (Answers (BoolV false) None ∷ Answers (IntV (pos 64)) None ∷ AnswersThrow (CharV 233) ∷ Answers (IntV (pos 9223372036854775807)) None ∷ []) (binding (codes "ns::a") (IntV (pos 5)) ∷ binding (codes "ns::x") (IntV (pos 2)) ∷ [])) ([]) ((Block (stmts ((ExprStmt (ArrayOf (exprs ([])))) ∷ []))) ∷ (ExprStmt (ArrayOf (exprs ((FnCall (callee [] (codes "**") false (OfOperator Power)) (exprs ((StringConstant (195 ∷ 169 ∷ [])) ∷ (StringConstant (codes "b")) ∷ []))) ∷ (FnCall (callee [] (codes "/") false (OfOperator Divide)) (exprs ((IntegerConstant (pos 63)) ∷ (FnCall (callee [] (codes "call") false NoToken) (exprs ((DynamicConstant (PointerV (codes "k") (values (UnitV ∷ [])))) ∷ (IntegerConstant (pos 1)) ∷ []))) ∷ []))) ∷ [])))) ∷ []) AtStatements (entry (codes "y") false (IntV (negsuc 0)) ∷ []) 0 ≡ ends (WithValue (ArrayV (values ((BoolV false) ∷ (IntV (pos 0)) ∷ [])))) (entry (codes "y") false (IntV (negsuc 0)) ∷ []) None (asked None (codes "**") ((TextV (195 ∷ 169 ∷ [])) ∷ (TextV (codes "b")) ∷ []) ∷ asked None (codes "k") (UnitV ∷ (IntV (pos 1)) ∷ []) ∷ []) 0
unfolding ran
small_functions_9300676 = refl

-- block {}
-- block { if { ""; 3; true } { 'é' } else { "b"; -2; 'b' }; if >=(-2, 9223372036854775807) {} else { <"a">; "é"; call(<Fn(k)>, 1) }; noop }
-- +({}, curry!(false, ()))
small_functions_9300900 : ran (engine (binding (codes "b") (IntV (pos 3)) ∷ binding (codes "b") (TextV (codes "b")) ∷ []) (override (codes "&") ((codes "i64") ∷ (codes "i64") ∷ []) ∷ override (codes "..") ((codes "range=") ∷ (codes "string") ∷ []) ∷ override (codes ">>=") ((codes "range=") ∷ []) ∷ []) ([]) false) (host (named (codes "h") (Answers UnitV None ∷ Answers (CharV 233) None ∷ []) ∷ named (codes "+") (Answers (IntV (pos 3)) None ∷ Answers (IntV (pos 2)) (Some (BoolV false)) ∷ Answers (IntV (pos 2)) (Some (IntV (pos 1))) ∷ Answers (ArrayV (values ((IntV (pos 2)) ∷ (BoolV false) ∷ []))) (Some (CharV 122)) ∷ []) ∷ []) ([]) (binding (codes "ns::a") (IntV (pos 5)) ∷ binding (codes "ns::x") (TextV (codes "")) ∷ [])) ([]) ((Block (stmts ([]))) ∷ (Block (stmts ((If (BlockExpr (stmts ((ExprStmt (StringConstant (codes ""))) ∷ (ExprStmt (IntegerConstant (pos 3))) ∷ (ExprStmt (BoolConstant true)) ∷ []))) (stmts ((ExprStmt (CharConstant 233)) ∷ [])) (stmts ((ExprStmt (StringConstant (codes "b"))) ∷ (ExprStmt (IntegerConstant (negsuc 1))) ∷ (ExprStmt (CharConstant 98)) ∷ []))) ∷ (If (FnCall (callee [] (codes ">=") false (OfOperator GreaterOrEqual)) (exprs ((IntegerConstant (negsuc 1)) ∷ (IntegerConstant (pos 9223372036854775807)) ∷ []))) (stmts ([])) (stmts ((ExprStmt (DynamicConstant (TextV (codes "a")))) ∷ (ExprStmt (StringConstant (195 ∷ 169 ∷ []))) ∷ (ExprStmt (FnCall (callee [] (codes "call") false NoToken) (exprs ((DynamicConstant (PointerV (codes "k") (values (UnitV ∷ [])))) ∷ (IntegerConstant (pos 1)) ∷ [])))) ∷ []))) ∷ Noop ∷ []))) ∷ (ExprStmt (FnCall (callee [] (codes "+") false (OfOperator Plus)) (exprs ((BlockExpr (stmts ([]))) ∷ (FnCall (callee [] (codes "curry") true NoToken) (exprs ((BoolConstant false) ∷ UnitConstant ∷ []))) ∷ [])))) ∷ []) AtStatements (entry (codes "b") false UnitV ∷ entry (codes "m") true (IntV (pos 63)) ∷ []) 3 ≡ ends (WithStuck WrongKind) (entry (codes "m") true (IntV (pos 63)) ∷ entry (codes "b") false UnitV ∷ []) None (asked None (codes "k") (UnitV ∷ (IntV (pos 1)) ∷ []) ∷ []) 3
unfolding ran
small_functions_9300900 = refl

-- call f(&("", 3))
-- if { call(<Fn(k)>, 1); (); true } { call %(is_def_var!(1), 64); {} } else {}
odd_9402082 : ran (engine (binding (codes "a") (BoolV true) ∷ binding (codes "x") (BoolV true) ∷ []) (override (codes "!=") ((codes "i64") ∷ (codes "i64") ∷ []) ∷ override (codes "**=") ((codes "()") ∷ []) ∷ override (codes "+") ((codes "map") ∷ (codes "range=") ∷ []) ∷ override (codes "-") ((codes "bool") ∷ []) ∷ override (codes "<") ((codes "i64") ∷ (codes "i64") ∷ []) ∷ override (codes "<<") ((codes "bool") ∷ (codes "()") ∷ []) ∷ override (codes "<=") ((codes "i64") ∷ []) ∷ override (codes "<=") ((codes "range=") ∷ (codes "i64") ∷ []) ∷ override (codes ">>") ((codes "i64") ∷ (codes "i64") ∷ []) ∷ []) ([]) false) (host ([]) ([]) (binding (codes "ns::a") (IntV (pos 5)) ∷ binding (codes "ns::x") (IntV (negsuc 1)) ∷ [])) ([]) ((FnCallStmt (callee [] (codes "f") false NoToken) (exprs ((FnCall (callee [] (codes "&") false (OfOperator BitAnd)) (exprs ((StringConstant (codes "")) ∷ (IntegerConstant (pos 3)) ∷ []))) ∷ []))) ∷ (If (BlockExpr (stmts ((ExprStmt (FnCall (callee [] (codes "call") false NoToken) (exprs ((DynamicConstant (PointerV (codes "k") (values (UnitV ∷ [])))) ∷ (IntegerConstant (pos 1)) ∷ [])))) ∷ (ExprStmt UnitConstant) ∷ (ExprStmt (BoolConstant true)) ∷ []))) (stmts ((FnCallStmt (callee [] (codes "%") false (OfOperator Modulo)) (exprs ((FnCall (callee [] (codes "is_def_var") true NoToken) (exprs ((IntegerConstant (pos 1)) ∷ []))) ∷ (IntegerConstant (pos 64)) ∷ []))) ∷ (ExprStmt (BlockExpr (stmts ([])))) ∷ [])) (stmts ([]))) ∷ []) AtStatements (entry (codes "m") false (IntV (pos 0)) ∷ []) 0 ≡ ends (WithStuck WrongKind) (entry (codes "m") false (IntV (pos 0)) ∷ []) None (asked None (codes "&") ((TextV (codes "")) ∷ (IntV (pos 3)) ∷ []) ∷ asked None (codes "f") (UnitV ∷ []) ∷ asked None (codes "k") (UnitV ∷ (IntV (pos 1)) ∷ []) ∷ []) 0
unfolding ran
odd_9402082 = refl

-- let x = <"a">
-- const x = -1
-- const a = g(64)
-- const y = >>(x, x)
-- let x = "f"
odd_9400489 : ran (engine ([]) ([]) (renamed (codes "array") (codes "list") ∷ renamed (codes "map") (codes "object") ∷ []) false) (host (named (codes "h") (Answers (IntV (pos 7)) None ∷ AnswersThrow (ArrayV (values ((TextV (codes "")) ∷ (CharV 98) ∷ []))) ∷ Answers UnitV (Some (CharV 98)) ∷ Answers (IntV (pos 1)) (Some (MapV (field (codes "a") (TextV (codes "")) (field (codes "k") (IntV (pos 3)) no_fields)))) ∷ AnswersThrow (IntV (negsuc 1)) ∷ []) ∷ named (codes "+") (Answers (BoolV true) None ∷ []) ∷ []) (Answers (ArrayV (values ((BoolV true) ∷ []))) (Some (BoolV false)) ∷ Answers (MapV (field (codes "a") UnitV (field (codes "k") (BoolV true) no_fields))) None ∷ Answers (MapV (field (codes "k") UnitV no_fields)) None ∷ Answers UnitV (Some (BoolV true)) ∷ []) (binding (codes "ns::a") (IntV (pos 5)) ∷ binding (codes "ns::x") (PointerV (codes "f") (values ((IntV (pos 7)) ∷ []))) ∷ [])) ([]) ((Var false false (codes "x") (DynamicConstant (TextV (codes "a")))) ∷ (Var true false (codes "x") (IntegerConstant (negsuc 0))) ∷ (Var true false (codes "a") (MethodCall (callee [] (codes "g") false NoToken) (exprs ((IntegerConstant (pos 64)) ∷ [])))) ∷ (Var true false (codes "y") (FnCall (callee [] (codes ">>") false (OfOperator ShiftRight)) (exprs ((Variable ([]) (codes "x")) ∷ (Variable ([]) (codes "x")) ∷ [])))) ∷ (Var false false (codes "x") (StringConstant (codes "f"))) ∷ []) AtStatements (entry (codes "x") false (PointerV (codes "f") (values ((IntV (pos 9223372036854775806)) ∷ []))) ∷ entry (codes "x") true (RangeV (negsuc 0) (pos 0)) ∷ entry (codes "c") false (IntV (negsuc 9223372036854775807)) ∷ []) 5 ≡ ends (WithStuck WrongKind) (entry (codes "c") false (IntV (negsuc 9223372036854775807)) ∷ entry (codes "x") true (RangeV (negsuc 0) (pos 0)) ∷ entry (codes "x") false (PointerV (codes "f") (values ((IntV (pos 9223372036854775806)) ∷ []))) ∷ entry (codes "x") false (TextV (codes "a")) ∷ entry (codes "x") true (IntV (negsuc 0)) ∷ []) None ([]) 5
unfolding ran
odd_9400489 = refl

-- let b = -9223372036854775808
-- let c = true
-- const c = 0
-- const x = 'z'
-- const a = <Fn(g)>
-- call h([1, c], coalesce(x, "", "f"))
-- for (b, b) in <[(), "ab", -1]> { loop { 'é'; true; <'é'>; break }; switch f() { 1: 0 1 |  | default - | true => f() }; if b {} else {} }
-- fn f(m, m) {}
odd_9402120 : ran (engine (binding (codes "x") UnitV ∷ []) ([]) ([]) true) (host (named (codes "index$get$") (Answers (IntV (pos 3)) None ∷ Answers (TextV (codes "f")) None ∷ Answers (IntV (pos 9223372036854775806)) None ∷ Answers (IntV (pos 64)) None ∷ Answers (ArrayV (values ((IntV (pos 9223372036854775807)) ∷ (CharV 122) ∷ (IntV (negsuc 1)) ∷ []))) (Some (PointerV (codes "g") (values ([])))) ∷ []) ∷ []) (Answers (PointerV (codes "f") (values ([]))) None ∷ Answers (PointerV (codes "g") (values ((IntV (negsuc 9223372036854775807)) ∷ []))) None ∷ Answers (TextV (195 ∷ 169 ∷ [])) None ∷ Answers (ArrayV (values ([]))) None ∷ Answers (PointerV (codes "f") (values ([]))) None ∷ []) (binding (codes "ns::a") (IntV (pos 5)) ∷ binding (codes "ns::x") (BoolV true) ∷ [])) ((function None (codes "f") ((codes "m") ∷ (codes "m") ∷ []) ([])) ∷ []) ((Var false false (codes "b") (IntegerConstant (negsuc 9223372036854775807))) ∷ (Var false false (codes "c") (BoolConstant true)) ∷ (Var true false (codes "c") (IntegerConstant (pos 0))) ∷ (Var true false (codes "x") (CharConstant 122)) ∷ (Var true false (codes "a") (DynamicConstant (PointerV (codes "g") (values ((BoolV false) ∷ []))))) ∷ (FnCallStmt (callee [] (codes "h") false NoToken) (exprs ((ArrayOf (exprs ((IntegerConstant (pos 1)) ∷ (Variable ([]) (codes "c")) ∷ []))) ∷ (Coalesce (exprs ((Variable ([]) (codes "x")) ∷ (StringConstant (codes "")) ∷ (StringConstant (codes "f")) ∷ []))) ∷ []))) ∷ (For (codes "b") (Some (codes "b")) (DynamicConstant (ArrayV (values (UnitV ∷ (TextV (codes "ab")) ∷ (IntV (negsuc 0)) ∷ [])))) (stmts ((While UnitConstant (stmts ((ExprStmt (CharConstant 233)) ∷ (ExprStmt (BoolConstant true)) ∷ (ExprStmt (DynamicConstant (CharV 233))) ∷ (BreakLoop true false no_expr) ∷ []))) ∷ (Switch (FnCall (callee [] (codes "f") false NoToken) (exprs ([]))) (arm (BoolConstant true) (FnCall (callee [] (codes "f") false NoToken) (exprs ([]))) no_arms) (table (case (IntV (pos 1)) (0 ∷ 1 ∷ []) ∷ []) ([]) None)) ∷ (If (Variable ([]) (codes "b")) (stmts ([])) (stmts ([]))) ∷ []))) ∷ []) AtStatements (entry (codes "m") true UnitV ∷ entry (codes "x") false (IntV (pos 1)) ∷ entry (codes "a") true (PointerV (codes "f") (values (UnitV ∷ []))) ∷ []) 3 ≡ ends (WithStuck WrongKind) (entry (codes "a") true (PointerV (codes "f") (values (UnitV ∷ []))) ∷ entry (codes "x") false (IntV (pos 1)) ∷ entry (codes "m") true UnitV ∷ entry (codes "b") false (IntV (negsuc 9223372036854775807)) ∷ entry (codes "c") false (BoolV true) ∷ entry (codes "c") true (IntV (pos 0)) ∷ entry (codes "x") true (CharV 122) ∷ entry (codes "a") true (PointerV (codes "g") (values ((BoolV false) ∷ []))) ∷ []) None (asked None (codes "h") ((ArrayV (values ((IntV (pos 1)) ∷ (IntV (pos 0)) ∷ []))) ∷ (CharV 122) ∷ []) ∷ []) 1
unfolding ran
odd_9402120 = refl

-- let c = <"a">
-- let c = "b"
-- let x = c
-- const b = ns::x
-- let y = "ab"
-- const c = call(<Fn(k)>, 1)
-- switch f() { [Fn(f)]: 0 |  | default - | true => f() }
odd_9402256 : ran (engine (binding (codes "a") (RangeV (pos 2) (pos 3)) ∷ binding (codes "x") UnitV ∷ []) ([]) ([]) false) (host ([]) (Answers (CharV 122) (Some (CharV 122)) ∷ Answers (IntV (negsuc 9223372036854775807)) None ∷ []) (binding (codes "ns::a") (IntV (pos 5)) ∷ binding (codes "ns::x") (PointerV (codes "h") (values ([]))) ∷ [])) ([]) ((Var false false (codes "c") (DynamicConstant (TextV (codes "a")))) ∷ (Var false false (codes "c") (StringConstant (codes "b"))) ∷ (Var false false (codes "x") (Variable ([]) (codes "c"))) ∷ (Var true false (codes "b") (Variable ((codes "ns") ∷ []) (codes "x"))) ∷ (Var false false (codes "y") (StringConstant (codes "ab"))) ∷ (Var true false (codes "c") (FnCall (callee [] (codes "call") false NoToken) (exprs ((DynamicConstant (PointerV (codes "k") (values (UnitV ∷ [])))) ∷ (IntegerConstant (pos 1)) ∷ [])))) ∷ (Switch (FnCall (callee [] (codes "f") false NoToken) (exprs ([]))) (arm (BoolConstant true) (FnCall (callee [] (codes "f") false NoToken) (exprs ([]))) no_arms) (table (case (ArrayV (values ((PointerV (codes "f") (values ([]))) ∷ []))) (0 ∷ []) ∷ []) ([]) None)) ∷ []) AtStatements (entry (codes "c") true (IntV (negsuc 9223372036854775807)) ∷ entry (codes "y") false UnitV ∷ []) 10 ≡ ends (WithStuck WrongKind) (entry (codes "y") false UnitV ∷ entry (codes "c") true (IntV (negsuc 9223372036854775807)) ∷ entry (codes "c") false (TextV (codes "a")) ∷ entry (codes "c") false (TextV (codes "b")) ∷ entry (codes "x") false (TextV (codes "b")) ∷ entry (codes "b") true (PointerV (codes "h") (values ([]))) ∷ entry (codes "y") false (TextV (codes "ab")) ∷ entry (codes "c") true (CharV 122) ∷ []) None (asked None (codes "k") (UnitV ∷ (IntV (pos 1)) ∷ []) ∷ []) 10
unfolding ran
odd_9402256 = refl

-- let a = <[#{"b": #{}}, [false, 'a'], [2..1]]>
-- let m = <#{"b": #{"a": 'a', "b": Fn(h), "k": 2}, "k": ['a']}>
-- let x = <[#{"a": Fn(h)}, [-1, true, 'é']]>
-- let y = Dot(x, Index?(push(), Dot({ a = <"é">; "b" }, k)))
-- Index(x, Dot({ x = <#{"a": Fn(f), "b": "", "k": "é"}>; -1 }, Index?!(k, { try { x = <-1> } catch true {}; 2 }))) &= { 0 }
-- Index(a, Dot(Fn("1a"), k)) = +(Index(a, Dot("b", k)), 1)
-- fn i64.push() {}
-- fn push() { return this }
odd_9402534 : ran (engine (binding (codes "b") (RangeInclusiveV (pos 0) (pos 0)) ∷ []) (override (codes ">=") ((codes "i64") ∷ (codes "i64") ∷ []) ∷ override (codes ">=") ((codes "range=") ∷ (codes "range=") ∷ []) ∷ override (codes "|=") ((codes "char") ∷ []) ∷ []) ([]) false) (host (named (codes "g") (AnswersThrow (ArrayV (values (UnitV ∷ (IntV (negsuc 1)) ∷ []))) ∷ Answers (IntV (negsuc 9223372036854775807)) None ∷ AnswersThrow (CharV 233) ∷ Answers (IntV (pos 3)) None ∷ []) ∷ []) (Answers (ArrayV (values ((BoolV false) ∷ (CharV 233) ∷ (IntV (pos 63)) ∷ []))) None ∷ Answers (IntV (pos 9223372036854775806)) None ∷ Answers (IntV (pos 2)) None ∷ Answers (TextV (codes "a")) (Some UnitV) ∷ []) (binding (codes "ns::a") (IntV (pos 5)) ∷ binding (codes "ns::x") (CharV 233) ∷ [])) ((function (Some (codes "i64")) (codes "push") ([]) ([])) ∷ (function None (codes "push") ([]) ((Return false false (an_expr ThisPtr)) ∷ [])) ∷ []) ((Var false false (codes "a") (DynamicConstant (ArrayV (values ((MapV (field (codes "b") (MapV no_fields) no_fields)) ∷ (ArrayV (values ((BoolV false) ∷ (CharV 97) ∷ []))) ∷ (ArrayV (values ((RangeV (pos 2) (pos 1)) ∷ []))) ∷ []))))) ∷ (Var false false (codes "m") (DynamicConstant (MapV (field (codes "b") (MapV (field (codes "a") (CharV 97) (field (codes "b") (PointerV (codes "h") (values ([]))) (field (codes "k") (IntV (pos 2)) no_fields)))) (field (codes "k") (ArrayV (values ((CharV 97) ∷ []))) no_fields))))) ∷ (Var false false (codes "x") (DynamicConstant (ArrayV (values ((MapV (field (codes "a") (PointerV (codes "h") (values (UnitV ∷ []))) no_fields)) ∷ (ArrayV (values ((IntV (negsuc 0)) ∷ (BoolV true) ∷ (CharV 233) ∷ []))) ∷ []))))) ∷ (Var false false (codes "y") (Dot (flags false false) (Variable ([]) (codes "x")) (Index (flags true false) (MethodCall (callee [] (codes "push") false NoToken) (exprs ([]))) (Dot (flags false false) (BlockExpr (stmts ((Assignment None (Variable ([]) (codes "a")) (DynamicConstant (TextV (195 ∷ 169 ∷ [])))) ∷ (ExprStmt (StringConstant (codes "b"))) ∷ []))) (property (codes "get$k") (codes "set$k") (codes "k")))))) ∷ (Assignment (Some BitAnd) (Index (flags false false) (Variable ([]) (codes "x")) (Dot (flags false false) (BlockExpr (stmts ((Assignment None (Variable ([]) (codes "x")) (DynamicConstant (MapV (field (codes "a") (PointerV (codes "f") (values ([]))) (field (codes "b") (TextV (codes "")) (field (codes "k") (TextV (195 ∷ 169 ∷ [])) no_fields)))))) ∷ (ExprStmt (IntegerConstant (negsuc 0))) ∷ []))) (Index (flags true true) (property (codes "get$k") (codes "set$k") (codes "k")) (BlockExpr (stmts ((TryCatch (BoolConstant true) (stmts ((Assignment None (Variable ([]) (codes "x")) (DynamicConstant (IntV (negsuc 0)))) ∷ [])) (stmts ([]))) ∷ (ExprStmt (IntegerConstant (pos 2))) ∷ [])))))) (BlockExpr (stmts ((ExprStmt (IntegerConstant (pos 0))) ∷ [])))) ∷ (Assignment None (Index (flags false false) (Variable ([]) (codes "a")) (Dot (flags false false) (FnCall (callee [] (codes "Fn") false NoToken) (exprs ((StringConstant (codes "1a")) ∷ []))) (property (codes "get$k") (codes "set$k") (codes "k")))) (FnCall (callee [] (codes "+") false (OfOperator Plus)) (exprs ((Index (flags false false) (Variable ([]) (codes "a")) (Dot (flags false false) (StringConstant (codes "b")) (property (codes "get$k") (codes "set$k") (codes "k")))) ∷ (IntegerConstant (pos 1)) ∷ [])))) ∷ []) AtStatements (entry (codes "x") true UnitV ∷ entry (codes "m") true (PointerV (codes "g") (values ([]))) ∷ []) 1 ≡ ends (WithStuck WrongKind) (entry (codes "m") true (PointerV (codes "g") (values ([]))) ∷ entry (codes "x") true UnitV ∷ entry (codes "a") false (TextV (195 ∷ 169 ∷ [])) ∷ entry (codes "m") false (MapV (field (codes "b") (MapV (field (codes "a") (CharV 97) (field (codes "b") (PointerV (codes "h") (values ([]))) (field (codes "k") (IntV (pos 2)) no_fields)))) (field (codes "k") (ArrayV (values ((CharV 97) ∷ []))) no_fields))) ∷ entry (codes "x") false (MapV (field (codes "a") (PointerV (codes "f") (values ([]))) (field (codes "b") (TextV (codes "")) (field (codes "k") (TextV (195 ∷ 169 ∷ [])) no_fields)))) ∷ entry (codes "y") false (IntV (pos 9223372036854775806)) ∷ []) None (asked (Some (ArrayV (values ((MapV (field (codes "a") (PointerV (codes "h") (values (UnitV ∷ []))) no_fields)) ∷ (ArrayV (values ((IntV (negsuc 0)) ∷ (BoolV true) ∷ (CharV 233) ∷ []))) ∷ [])))) (codes "index$get$") ((TextV (codes "b")) ∷ []) ∷ asked (Some (ArrayV (values ((BoolV false) ∷ (CharV 233) ∷ (IntV (pos 63)) ∷ [])))) (codes "get$k") ([]) ∷ asked (Some (MapV (field (codes "a") (PointerV (codes "f") (values ([]))) (field (codes "b") (TextV (codes "")) (field (codes "k") (TextV (195 ∷ 169 ∷ [])) no_fields))))) (codes "index$get$") ((IntV (negsuc 0)) ∷ []) ∷ asked (Some (IntV (pos 2))) (codes "get$k") ([]) ∷ []) 0
unfolding ran
odd_9402534 = refl

-- for (y, a) in <-1..=-1> { call print('a'); switch f() { 1: 0 |  | default 1 | true => f() } }
-- while <(0, -2) {}
odd_9402772 : ran (engine (binding (codes "b") (PointerV (codes "f") (values ([]))) ∷ []) (override (codes "!=") ((codes "i64") ∷ (codes "i64") ∷ []) ∷ override (codes "-") ((codes "map") ∷ []) ∷ override (codes "-=") ((codes "()") ∷ (codes "char") ∷ []) ∷ []) (renamed (codes "array") (codes "list") ∷ renamed (codes "map") (codes "object") ∷ []) false) (host (named (codes "index$get$") (Answers (TextV (codes "a")) None ∷ Answers (BoolV true) None ∷ Answers (CharV 233) (Some UnitV) ∷ []) ∷ named (codes "+") (Answers UnitV (Some (IntV (pos 2))) ∷ Answers (PointerV (codes "g") (values ((IntV (pos 0)) ∷ []))) (Some (PointerV (codes "h") (values ([])))) ∷ Answers (TextV (codes "ab")) None ∷ []) ∷ []) (Answers (PointerV (codes "g") (values ((CharV 122) ∷ []))) (Some (ArrayV (values ((CharV 233) ∷ (IntV (pos 3)) ∷ [])))) ∷ Answers (CharV 122) None ∷ Answers (RangeInclusiveV (pos 0) (pos 3)) None ∷ []) (binding (codes "ns::a") (IntV (pos 5)) ∷ binding (codes "ns::x") UnitV ∷ [])) ([]) ((For (codes "y") (Some (codes "a")) (DynamicConstant (RangeInclusiveV (negsuc 0) (negsuc 0))) (stmts ((FnCallStmt (callee [] (codes "print") false NoToken) (exprs ((CharConstant 97) ∷ []))) ∷ (Switch (FnCall (callee [] (codes "f") false NoToken) (exprs ([]))) (arm (BoolConstant true) (FnCall (callee [] (codes "f") false NoToken) (exprs ([]))) no_arms) (table (case (IntV (pos 1)) (0 ∷ []) ∷ []) ([]) (Some 1))) ∷ []))) ∷ (While (FnCall (callee [] (codes "<") false (OfOperator Less)) (exprs ((IntegerConstant (pos 0)) ∷ (IntegerConstant (negsuc 1)) ∷ []))) (stmts ([]))) ∷ []) AtStatements (entry (codes "y") false (ArrayV (values ((CharV 98) ∷ (IntV (pos 1)) ∷ (TextV (codes "f")) ∷ []))) ∷ entry (codes "y") false (CharV 233) ∷ []) 1 ≡ ends (WithStuck WrongKind) (entry (codes "y") false (CharV 233) ∷ entry (codes "y") false (ArrayV (values ((CharV 98) ∷ (IntV (pos 1)) ∷ (TextV (codes "f")) ∷ []))) ∷ []) None (asked None (codes "print") ((CharV 97) ∷ []) ∷ []) 0
unfolding ran
odd_9402772 = refl

-- let y = Index!(7, a)
-- throw
odd_9402867 : ran (engine (binding (codes "m") (RangeInclusiveV (negsuc 1) (negsuc 1)) ∷ []) ([]) ([]) false) (host ([]) (Answers (BoolV true) (Some (IntV (pos 0))) ∷ []) (binding (codes "ns::a") (IntV (pos 5)) ∷ binding (codes "ns::x") (MapV (field (codes "b") (BoolV true) (field (codes "k") (CharV 122) no_fields))) ∷ [])) ([]) ((Var false false (codes "y") (Index (flags false true) (IntegerConstant (pos 7)) (property (codes "get$a") (codes "set$a") (codes "a")))) ∷ (Return true false no_expr) ∷ []) AtStatements (entry (codes "y") true (MapV no_fields) ∷ entry (codes "x") true (PointerV (codes "h") (values ((IntV (pos 7)) ∷ []))) ∷ []) 2 ≡ ends (WithStuck WrongKind) (entry (codes "x") true (PointerV (codes "h") (values ((IntV (pos 7)) ∷ []))) ∷ entry (codes "y") true (MapV no_fields) ∷ []) None ([]) 2
unfolding ran
odd_9402867 = refl

-- const a = <[[(), 'é', Fn(h)], #{"b": Fn(g)}]>
-- let m = <[#{"b": #{}, "k": 'z'}]>
-- let x = <[(), #{"a": 9223372036854775807, "b": -9223372036854775808, "k": #{"b": 'b', "k": ()}}]>
-- try { for (a, a) in <5..7> { print(a) } } catch c {}
-- switch f() { 1: 0 |  | default 0 | true => f() }
-- let y = Index?!(a, { 2 })
-- fn array.push() {}
-- fn k() { y }
odd_9403056 : ran (engine ([]) ([]) ([]) false) (host (named (codes "index$get$") (Answers (ArrayV (values ((IntV (pos 0)) ∷ (CharV 233) ∷ []))) None ∷ Answers (PointerV (codes "f") (values ([]))) None ∷ Answers (IntV (pos 7)) None ∷ []) ∷ named (codes "f") (Answers (PointerV (codes "f") (values ([]))) None ∷ Answers (ArrayV (values ((IntV (negsuc 9223372036854775807)) ∷ (CharV 233) ∷ []))) None ∷ Answers (BoolV false) (Some (MapV (field (codes "b") UnitV no_fields))) ∷ Answers (IntV (pos 64)) (Some (CharV 122)) ∷ Answers (CharV 122) (Some (IntV (pos 7))) ∷ []) ∷ []) (Answers (TextV (codes "")) None ∷ Answers (CharV 233) (Some (IntV (pos 1))) ∷ Answers (PointerV (codes "h") (values ([]))) None ∷ Answers (MapV (field (codes "a") (IntV (pos 2)) no_fields)) None ∷ []) (binding (codes "ns::a") (IntV (pos 5)) ∷ binding (codes "ns::x") (IntV (pos 0)) ∷ [])) ((function (Some (codes "array")) (codes "push") ([]) ([])) ∷ (function None (codes "k") ([]) ((ExprStmt (Variable ([]) (codes "y"))) ∷ [])) ∷ []) ((Var true false (codes "a") (DynamicConstant (ArrayV (values ((ArrayV (values (UnitV ∷ (CharV 233) ∷ (PointerV (codes "h") (values ([]))) ∷ []))) ∷ (MapV (field (codes "b") (PointerV (codes "g") (values ((CharV 122) ∷ []))) no_fields)) ∷ []))))) ∷ (Var false false (codes "m") (DynamicConstant (ArrayV (values ((MapV (field (codes "b") (MapV no_fields) (field (codes "k") (CharV 122) no_fields))) ∷ []))))) ∷ (Var false false (codes "x") (DynamicConstant (ArrayV (values (UnitV ∷ (MapV (field (codes "a") (IntV (pos 9223372036854775807)) (field (codes "b") (IntV (negsuc 9223372036854775807)) (field (codes "k") (MapV (field (codes "b") (CharV 98) (field (codes "k") UnitV no_fields))) no_fields)))) ∷ []))))) ∷ (TryCatch (Variable ([]) (codes "c")) (stmts ((For (codes "a") (Some (codes "a")) (DynamicConstant (RangeV (pos 5) (pos 7))) (stmts ((ExprStmt (FnCall (callee [] (codes "print") false NoToken) (exprs ((Variable ([]) (codes "a")) ∷ [])))) ∷ []))) ∷ [])) (stmts ([]))) ∷ (Switch (FnCall (callee [] (codes "f") false NoToken) (exprs ([]))) (arm (BoolConstant true) (FnCall (callee [] (codes "f") false NoToken) (exprs ([]))) no_arms) (table (case (IntV (pos 1)) (0 ∷ []) ∷ []) ([]) (Some 0))) ∷ (Var false false (codes "y") (Index (flags true true) (Variable ([]) (codes "a")) (BlockExpr (stmts ((ExprStmt (IntegerConstant (pos 2))) ∷ []))))) ∷ []) AtStatements ([]) 3 ≡ ends (WithStuck WrongKind) (entry (codes "a") true (ArrayV (values ((ArrayV (values (UnitV ∷ (CharV 233) ∷ (PointerV (codes "h") (values ([]))) ∷ []))) ∷ (MapV (field (codes "b") (PointerV (codes "g") (values ((CharV 122) ∷ []))) no_fields)) ∷ []))) ∷ entry (codes "m") false (ArrayV (values ((MapV (field (codes "b") (MapV no_fields) (field (codes "k") (CharV 122) no_fields))) ∷ []))) ∷ entry (codes "x") false (ArrayV (values (UnitV ∷ (MapV (field (codes "a") (IntV (pos 9223372036854775807)) (field (codes "b") (IntV (negsuc 9223372036854775807)) (field (codes "k") (MapV (field (codes "b") (CharV 98) (field (codes "k") UnitV no_fields))) no_fields)))) ∷ []))) ∷ []) None (asked None (codes "print") ((IntV (pos 5)) ∷ []) ∷ asked None (codes "print") ((IntV (pos 6)) ∷ []) ∷ []) 1
unfolding ran
odd_9403056 = refl

-- const x = 7
-- const y = <#{}>
-- let a = 9223372036854775806
-- try { let c = <[]> } catch ns::x {}
-- let b = <"é">
-- block { let c = 63 }
odd_9403268 : ran (engine (binding (codes "a") (IntV (pos 9223372036854775807)) ∷ binding (codes "m") (RangeV (pos 1) (pos 3)) ∷ []) ([]) ([]) false) (host (named (codes "get$a") ([]) ∷ named (codes "index$get$") (Answers (MapV (field (codes "a") (IntV (pos 63)) no_fields)) None ∷ Answers (IntV (pos 1)) (Some (BoolV true)) ∷ []) ∷ []) (Answers (PointerV (codes "h") (values ((BoolV true) ∷ []))) None ∷ Answers (TextV (codes "b")) (Some (RangeV (pos 1) (pos 1))) ∷ []) (binding (codes "ns::a") (IntV (pos 5)) ∷ binding (codes "ns::x") (BoolV true) ∷ [])) ([]) ((Var true false (codes "x") (IntegerConstant (pos 7))) ∷ (Var true false (codes "y") (DynamicConstant (MapV no_fields))) ∷ (Var false false (codes "a") (IntegerConstant (pos 9223372036854775806))) ∷ (TryCatch (Variable ((codes "ns") ∷ []) (codes "x")) (stmts ((Var false false (codes "c") (DynamicConstant (ArrayV (values ([]))))) ∷ [])) (stmts ([]))) ∷ (Var false false (codes "b") (DynamicConstant (TextV (195 ∷ 169 ∷ [])))) ∷ (Block (stmts ((Var false false (codes "c") (IntegerConstant (pos 63))) ∷ []))) ∷ []) AtStatements (entry (codes "b") true (TextV (codes "ab")) ∷ []) 2 ≡ ends (WithStuck WrongKind) (entry (codes "b") true (TextV (codes "ab")) ∷ entry (codes "x") true (IntV (pos 7)) ∷ entry (codes "y") true (MapV no_fields) ∷ entry (codes "a") false (IntV (pos 9223372036854775806)) ∷ []) None ([]) 2
unfolding ran
odd_9403268 = refl
