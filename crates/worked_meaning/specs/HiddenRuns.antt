-- Runs of scripts that print as others do, made at random, as an evaluator of its own computed them.
use Rattle.std.specs.Prelude.{◌≡◌, true, false, [], ◌∷◌, None, Some, pos, negsuc, codes, refl}
use Rattle.rhai_base.specs.Value.{UnitV, BoolV, IntV, CharV, TextV, ArrayV, MapV, PointerV, RangeV, RangeInclusiveV, values, field, no_fields}
use Rattle.rhai_base.specs.Operators.{Plus, Divide, EqualTo, Not}
use Rattle.theory_meaning.specs.Act.{Answers, WrongKind, AnswersThrow}
use Rattle.theory_meaning.specs.Run.{AtStatements, WithStuck}
use Rattle.theory_meaning.specs.Tree.{OfOperator, NoToken, DynamicConstant, BoolConstant, IntegerConstant, CharConstant, StringConstant, UnitConstant, MapOf, Variable, ThisPtr, MethodCall, BlockExpr, FnCall, Dot, Index, Coalesce, pair, no_pairs, no_expr, an_expr, Var, Assignment, TryCatch, ExprStmt, Return, exprs, stmts, Noop, If, FnCallStmt, Block}
use Rattle.worked_meaning.specs.EvaluatedForms.{callee, flags, property, function, entry, asked, binding, override, renamed, engine, ends, named, host, ran}

-- block {}
-- +(false, f())
odd_9400656 : ran (engine ([]) ([]) (renamed (codes "array") (codes "list") ∷ renamed (codes "map") (codes "object") ∷ []) false) (host (named (codes "+") (AnswersThrow (ArrayV (values ((IntV (pos 3)) ∷ UnitV ∷ UnitV ∷ []))) ∷ Answers (ArrayV (values ((CharV 122) ∷ []))) None ∷ Answers (ArrayV (values ((IntV (negsuc 0)) ∷ []))) None ∷ Answers UnitV (Some (TextV (codes "ab"))) ∷ []) ∷ []) (Answers (TextV (codes "a")) None ∷ Answers UnitV (Some (CharV 97)) ∷ Answers (IntV (negsuc 9223372036854775807)) None ∷ Answers (BoolV true) None ∷ []) (binding (codes "ns::a") (IntV (pos 5)) ∷ binding (codes "ns::x") (ArrayV (values ([]))) ∷ [])) ([]) ((Block (stmts ([]))) ∷ (ExprStmt (FnCall (callee [] (codes "+") false NoToken) (exprs ((BoolConstant false) ∷ (FnCall (callee [] (codes "f") false NoToken) (exprs ([]))) ∷ [])))) ∷ []) AtStatements (entry (codes "m") true (IntV (pos 9223372036854775807)) ∷ []) 2 ≡ ends (WithStuck WrongKind) (entry (codes "m") true (IntV (pos 9223372036854775807)) ∷ []) None ([]) 2
unfolding ran
odd_9400656 = refl

-- block { noop; f(<"é">, 1) }
-- noop
odd_9402758 : ran (engine (binding (codes "c") (ArrayV (values ((TextV (codes "a")) ∷ (CharV 233) ∷ (TextV (195 ∷ 169 ∷ [])) ∷ []))) ∷ []) (override (codes "&") ((codes "range=") ∷ (codes "range=") ∷ []) ∷ override (codes "&=") ((codes "i64") ∷ (codes "i64") ∷ []) ∷ override (codes "*") ((codes "array") ∷ (codes "()") ∷ []) ∷ override (codes "*=") ((codes "i64") ∷ []) ∷ override (codes "+=") ((codes "bool") ∷ (codes "bool") ∷ []) ∷ override (codes ">>=") ((codes "i64") ∷ (codes "i64") ∷ []) ∷ override (codes "^") ((codes "()") ∷ []) ∷ override (codes "|") ((codes "bool") ∷ []) ∷ []) (renamed (codes "array") (codes "list") ∷ renamed (codes "map") (codes "object") ∷ []) false) (host ([]) (Answers (ArrayV (values ((TextV (codes "f")) ∷ (BoolV true) ∷ []))) None ∷ Answers (TextV (codes "f")) (Some (ArrayV (values (UnitV ∷ (IntV (pos 64)) ∷ (TextV (codes "b")) ∷ [])))) ∷ []) (binding (codes "ns::a") (IntV (pos 5)) ∷ binding (codes "ns::x") (IntV (pos 3)) ∷ [])) ([]) ((Block (stmts (Noop ∷ (ExprStmt (FnCall (callee [] (codes "f") false (OfOperator EqualTo)) (exprs ((DynamicConstant (TextV (195 ∷ 169 ∷ []))) ∷ (IntegerConstant (pos 1)) ∷ [])))) ∷ []))) ∷ Noop ∷ []) AtStatements (entry (codes "m") true UnitV ∷ []) 5 ≡ ends (WithStuck WrongKind) (entry (codes "m") true UnitV ∷ []) None ([]) 5
unfolding ran
odd_9402758 = refl

-- {}
-- call ..(f(), 1)
odd_9403342 : ran (engine (binding (codes "b") (IntV (negsuc 9223372036854775807)) ∷ binding (codes "c") (IntV (negsuc 9223372036854775807)) ∷ []) (override (codes "!") ((codes "i64") ∷ (codes "i64") ∷ []) ∷ override (codes "*") ((codes "bool") ∷ []) ∷ override (codes ">=") ((codes "()") ∷ (codes "map") ∷ []) ∷ []) ([]) true) (host (named (codes "push") (Answers (IntV (pos 9223372036854775806)) None ∷ Answers (TextV (codes "b")) None ∷ Answers (TextV (codes "a")) None ∷ Answers UnitV None ∷ []) ∷ named (codes "+") (AnswersThrow (IntV (negsuc 9223372036854775807)) ∷ Answers UnitV None ∷ Answers (CharV 97) None ∷ Answers UnitV None ∷ Answers (TextV (codes "a")) (Some (TextV (codes "f"))) ∷ []) ∷ []) (Answers (CharV 122) None ∷ AnswersThrow (TextV (codes "f")) ∷ Answers (ArrayV (values ([]))) (Some (ArrayV (values (UnitV ∷ (TextV (codes "")) ∷ UnitV ∷ [])))) ∷ []) (binding (codes "ns::a") (IntV (pos 5)) ∷ binding (codes "ns::x") (ArrayV (values ((CharV 98) ∷ (TextV (195 ∷ 169 ∷ [])) ∷ (BoolV true) ∷ []))) ∷ [])) ([]) ((ExprStmt (BlockExpr (stmts ([])))) ∷ (FnCallStmt (callee [] (codes "..") false NoToken) (exprs ((FnCall (callee [] (codes "f") false NoToken) (exprs ([]))) ∷ (IntegerConstant (pos 1)) ∷ []))) ∷ []) AtStatements (entry (codes "x") true (ArrayV (values ((IntV (pos 0)) ∷ (TextV (codes "ab")) ∷ (TextV (195 ∷ 169 ∷ [])) ∷ []))) ∷ []) 5 ≡ ends (WithStuck WrongKind) (entry (codes "x") true (ArrayV (values ((IntV (pos 0)) ∷ (TextV (codes "ab")) ∷ (TextV (195 ∷ 169 ∷ [])) ∷ []))) ∷ []) None ([]) 5
unfolding ran
odd_9403342 = refl

-- let a = <[#{"a": 'a', "b": false}, ["ab"]]>
-- let m = <#{"a": [-1..=2], "k": #{"a": 3, "b": ()}}>
-- let x = <#{"a": [#{"b": 1, "k": 'a'}, "ab"], "b": -2}>
-- let c = Dot(a, f())
-- try { Index!(m, "b") } catch c {}
-- Dot?(m, Index!(a, 0)) = { a = <#{"a": true, "b": #{"a": 3, "b": -1}}>; 1 }
-- Dot(a, a) /= { a }
-- fn ().f() {}
-- fn map.push(a) { Index(this, Dot({ this = <#{"a": false, "b": 'b'}>; -1 }, a)) = <[true]>; this = <['a']>; return this }
-- fn ().f(x) { this = <#{"k": 'é'}> }
-- fn string.push(c) {}
odd_9400259 : ran (engine ([]) (override (codes "/") ((codes "()") ∷ (codes "i64") ∷ []) ∷ override (codes "/=") ((codes "i64") ∷ (codes "i64") ∷ []) ∷ override (codes "<") ((codes "bool") ∷ []) ∷ override (codes "<=") ((codes "i64") ∷ (codes "i64") ∷ []) ∷ override (codes "^=") ((codes "Fn") ∷ (codes "range") ∷ []) ∷ []) (renamed (codes "i64") (codes "int") ∷ []) false) (host (named (codes "g") (Answers (ArrayV (values ((TextV (codes "ab")) ∷ (CharV 233) ∷ (TextV (codes "")) ∷ []))) None ∷ Answers (CharV 98) (Some (CharV 98)) ∷ Answers (IntV (pos 2)) (Some (ArrayV (values ([])))) ∷ Answers UnitV None ∷ Answers (IntV (pos 3)) None ∷ []) ∷ []) (Answers (BoolV true) (Some (MapV no_fields)) ∷ []) (binding (codes "ns::a") (IntV (pos 5)) ∷ binding (codes "ns::x") (CharV 97) ∷ [])) ((function (Some (codes "()")) (codes "f") ([]) ([])) ∷ (function (Some (codes "map")) (codes "push") ((codes "a") ∷ []) ((Assignment None (Index (flags false false) ThisPtr (Dot (flags false false) (BlockExpr (stmts ((Assignment None ThisPtr (DynamicConstant (MapV (field (codes "a") (BoolV false) (field (codes "b") (CharV 98) no_fields))))) ∷ (ExprStmt (IntegerConstant (negsuc 0))) ∷ []))) (property (codes "get$a") (codes "set$a") (codes "a")))) (DynamicConstant (ArrayV (values ((BoolV true) ∷ []))))) ∷ (Assignment None ThisPtr (DynamicConstant (ArrayV (values ((CharV 97) ∷ []))))) ∷ (Return false false (an_expr ThisPtr)) ∷ [])) ∷ (function (Some (codes "()")) (codes "f") ((codes "x") ∷ []) ((Assignment None ThisPtr (DynamicConstant (MapV (field (codes "k") (CharV 233) no_fields)))) ∷ [])) ∷ (function (Some (codes "string")) (codes "push") ((codes "c") ∷ []) ([])) ∷ []) ((Var false false (codes "a") (DynamicConstant (ArrayV (values ((MapV (field (codes "a") (CharV 97) (field (codes "b") (BoolV false) no_fields))) ∷ (ArrayV (values ((TextV (codes "ab")) ∷ []))) ∷ []))))) ∷ (Var false false (codes "m") (DynamicConstant (MapV (field (codes "a") (ArrayV (values ((RangeInclusiveV (negsuc 0) (pos 2)) ∷ []))) (field (codes "k") (MapV (field (codes "a") (IntV (pos 3)) (field (codes "b") UnitV no_fields))) no_fields))))) ∷ (Var false false (codes "x") (DynamicConstant (MapV (field (codes "a") (ArrayV (values ((MapV (field (codes "b") (IntV (pos 1)) (field (codes "k") (CharV 97) no_fields))) ∷ (TextV (codes "ab")) ∷ []))) (field (codes "b") (IntV (negsuc 1)) no_fields))))) ∷ (Var false false (codes "c") (Dot (flags false false) (Variable ([]) (codes "a")) (MethodCall (callee [] (codes "f") false NoToken) (exprs ([]))))) ∷ (TryCatch (Variable ([]) (codes "c")) (stmts ((ExprStmt (Index (flags false true) (Variable ([]) (codes "m")) (StringConstant (codes "b")))) ∷ [])) (stmts ([]))) ∷ (Assignment None (Dot (flags true false) (Variable ([]) (codes "m")) (Index (flags false true) (property (codes "get$a") (codes "set$a") (codes "a")) (IntegerConstant (pos 0)))) (BlockExpr (stmts ((Assignment None (Variable ([]) (codes "a")) (DynamicConstant (MapV (field (codes "a") (BoolV true) (field (codes "b") (MapV (field (codes "a") (IntV (pos 3)) (field (codes "b") (IntV (negsuc 0)) no_fields))) no_fields))))) ∷ (ExprStmt (IntegerConstant (pos 1))) ∷ [])))) ∷ (Assignment (Some Divide) (Dot (flags false false) (Variable ([]) (codes "a")) (property (codes "get$a") (codes "set$a") (codes "a"))) (BlockExpr (stmts ((ExprStmt (property (codes "get$a") (codes "set$a") (codes "a"))) ∷ [])))) ∷ []) AtStatements (entry (codes "a") true (ArrayV (values ([]))) ∷ entry (codes "a") false (TextV (codes "f")) ∷ entry (codes "a") false (MapV (field (codes "a") (IntV (pos 3)) (field (codes "k") (IntV (pos 9223372036854775806)) no_fields))) ∷ []) 5 ≡ ends (WithStuck WrongKind) (entry (codes "a") false (MapV (field (codes "a") (IntV (pos 3)) (field (codes "k") (IntV (pos 9223372036854775806)) no_fields))) ∷ entry (codes "a") false (TextV (codes "f")) ∷ entry (codes "a") true (ArrayV (values ([]))) ∷ entry (codes "a") false (MapV (field (codes "a") (BoolV true) (field (codes "b") (MapV (field (codes "a") (IntV (pos 3)) (field (codes "b") (IntV (negsuc 0)) no_fields))) no_fields))) ∷ entry (codes "m") false (MapV (field (codes "a") (ArrayV (values ((IntV (pos 1)) ∷ []))) (field (codes "k") (MapV (field (codes "a") (IntV (pos 3)) (field (codes "b") UnitV no_fields))) no_fields))) ∷ entry (codes "x") false (MapV (field (codes "a") (ArrayV (values ((MapV (field (codes "b") (IntV (pos 1)) (field (codes "k") (CharV 97) no_fields))) ∷ (TextV (codes "ab")) ∷ []))) (field (codes "b") (IntV (negsuc 1)) no_fields))) ∷ entry (codes "c") false (BoolV true) ∷ []) None (asked (Some (ArrayV (values ((MapV (field (codes "a") (CharV 97) (field (codes "b") (BoolV false) no_fields))) ∷ (ArrayV (values ((TextV (codes "ab")) ∷ []))) ∷ [])))) (codes "f") ([]) ∷ []) 5
unfolding ran
odd_9400259 = refl

-- const y = #{a: 'a'}
-- call print('a')
-- const b = <false>
odd_9401857 : ran (engine (binding (codes "b") (BoolV false) ∷ []) ([]) (renamed (codes "i64") (codes "int") ∷ []) false) (host (named (codes "push") ([]) ∷ []) (Answers (BoolV true) None ∷ Answers (IntV (pos 2)) None ∷ Answers (IntV (pos 64)) (Some (MapV (field (codes "b") (TextV (codes "f")) no_fields))) ∷ []) (binding (codes "ns::a") (IntV (pos 5)) ∷ binding (codes "ns::x") (BoolV false) ∷ [])) ([]) ((Var true false (codes "y") (MapOf (pair (codes "a") (CharConstant 97) no_pairs) ([]))) ∷ (FnCallStmt (callee [] (codes "print") false NoToken) (exprs ((CharConstant 97) ∷ []))) ∷ (Var true false (codes "b") (DynamicConstant (BoolV false))) ∷ []) AtStatements (entry (codes "m") true (ArrayV (values ((TextV (195 ∷ 169 ∷ [])) ∷ []))) ∷ entry (codes "c") false (TextV (codes "b")) ∷ []) 10 ≡ ends (WithStuck WrongKind) (entry (codes "c") false (TextV (codes "b")) ∷ entry (codes "m") true (ArrayV (values ((TextV (195 ∷ 169 ∷ [])) ∷ []))) ∷ []) None ([]) 10
unfolding ran
odd_9401857 = refl

-- let c = <'é'>
-- let y = coalesce(#{a: "é"})
-- fn map.h() { return 'z' }
-- fn h(x) {}
odd_9402205 : ran (engine (binding (codes "y") (BoolV true) ∷ binding (codes "y") (PointerV (codes "g") (values ([]))) ∷ []) ([]) ([]) false) (host ([]) (Answers (TextV (codes "f")) None ∷ Answers (PointerV (codes "g") (values ([]))) None ∷ Answers (RangeV (pos 1) (pos 1)) (Some (IntV (pos 9223372036854775807))) ∷ []) (binding (codes "ns::a") (IntV (pos 5)) ∷ binding (codes "ns::x") (RangeV (negsuc 1) (pos 1)) ∷ [])) ((function (Some (codes "map")) (codes "h") ([]) ((Return false false (an_expr (CharConstant 122))) ∷ [])) ∷ (function None (codes "h") ((codes "x") ∷ []) ([])) ∷ []) ((Var false false (codes "c") (DynamicConstant (CharV 233))) ∷ (Var false false (codes "y") (Coalesce (exprs ((MapOf (pair (codes "a") (StringConstant (195 ∷ 169 ∷ [])) no_pairs) ((codes "b") ∷ [])) ∷ [])))) ∷ []) AtStatements ([]) 0 ≡ ends (WithStuck WrongKind) (entry (codes "c") false (CharV 233) ∷ []) None ([]) 0
unfolding ran
odd_9402205 = refl

-- const y = Dot('é', -(f()))
-- let m = y
-- y = !(0)
odd_9402409 : ran (engine ([]) ([]) ([]) false) (host ([]) ([]) (binding (codes "ns::a") (IntV (pos 5)) ∷ binding (codes "ns::x") UnitV ∷ [])) ([]) ((Var true false (codes "y") (Dot (flags false false) (CharConstant 233) (MethodCall (callee [] (codes "-") false NoToken) (exprs ((FnCall (callee [] (codes "f") false NoToken) (exprs ([]))) ∷ []))))) ∷ (Var false false (codes "m") (Variable ([]) (codes "y"))) ∷ (Assignment None (Variable ([]) (codes "y")) (FnCall (callee [] (codes "!") false (OfOperator Not)) (exprs ((IntegerConstant (pos 0)) ∷ [])))) ∷ []) AtStatements ([]) 2 ≡ ends (WithStuck WrongKind) ([]) None ([]) 2
unfolding ran
odd_9402409 = refl

-- const x = ""
-- let a = Dot(x, +(f()))
-- const b = 1
-- let m = 'b'
-- let y = 63
-- call print("f")
-- try { try { 'a'; throw a } catch x {}; if false { return } else {}; block {}; throw true } catch { try { (); throw } catch { (); "ab"; 3 } }
odd_9402580 : ran (engine (binding (codes "y") (CharV 122) ∷ binding (codes "c") UnitV ∷ []) (override (codes "/") ((codes "bool") ∷ []) ∷ override (codes "/=") ((codes "i64") ∷ (codes "i64") ∷ []) ∷ override (codes "^=") ((codes "char") ∷ (codes "range=") ∷ []) ∷ []) (renamed (codes "i64") (codes "int") ∷ []) false) (host (named (codes "h") (Answers UnitV None ∷ Answers UnitV None ∷ []) ∷ named (codes "f") (Answers (CharV 98) None ∷ Answers (RangeV (pos 2) (pos 4)) None ∷ []) ∷ []) (Answers (CharV 98) None ∷ Answers (TextV (codes "ab")) (Some (CharV 98)) ∷ Answers UnitV None ∷ Answers (CharV 98) (Some (CharV 97)) ∷ Answers (ArrayV (values ((IntV (pos 2)) ∷ []))) None ∷ []) (binding (codes "ns::a") (IntV (pos 5)) ∷ binding (codes "ns::x") (ArrayV (values ([]))) ∷ [])) ([]) ((Var true false (codes "x") (StringConstant (codes ""))) ∷ (Var false false (codes "a") (Dot (flags false false) (Variable ([]) (codes "x")) (MethodCall (callee [] (codes "+") false (OfOperator Plus)) (exprs ((FnCall (callee [] (codes "f") false NoToken) (exprs ([]))) ∷ []))))) ∷ (Var true false (codes "b") (IntegerConstant (pos 1))) ∷ (Var false false (codes "m") (CharConstant 98)) ∷ (Var false false (codes "y") (IntegerConstant (pos 63))) ∷ (FnCallStmt (callee [] (codes "print") false NoToken) (exprs ((StringConstant (codes "f")) ∷ []))) ∷ (TryCatch UnitConstant (stmts ((TryCatch (Variable ([]) (codes "x")) (stmts ((ExprStmt (CharConstant 97)) ∷ (Return true false (an_expr (Variable ([]) (codes "a")))) ∷ [])) (stmts ([]))) ∷ (If (BoolConstant false) (stmts ((Return false false no_expr) ∷ [])) (stmts ([]))) ∷ (Block (stmts ([]))) ∷ (Return true false (an_expr (BoolConstant true))) ∷ [])) (stmts ((TryCatch UnitConstant (stmts ((ExprStmt UnitConstant) ∷ (Return true false no_expr) ∷ [])) (stmts ((ExprStmt UnitConstant) ∷ (ExprStmt (StringConstant (codes "ab"))) ∷ (ExprStmt (IntegerConstant (pos 3))) ∷ []))) ∷ []))) ∷ []) AtStatements (entry (codes "y") false (BoolV false) ∷ []) 2 ≡ ends (WithStuck WrongKind) (entry (codes "y") false (BoolV false) ∷ entry (codes "x") true (TextV (codes "")) ∷ []) None ([]) 2
unfolding ran
odd_9402580 = refl
