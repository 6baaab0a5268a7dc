-- Each rewrite that sets the dirty flag lowers the weight, and none raises it.
use Rattle.std.proofs.Common.{◌≡◌, ℕ, ◌+◌, ◌≤◌, Bool, true, false, refl, arith}
use Rattle.theory_meaning.specs.Tree.{Expr, Exprs, Pairs, MaybeExpr, Arms, Stmt, Stmts}
use Rattle.theory_rewriting.specs.Context.{Context, ListKind, ListContext}
use Rattle.theory_rewriting.specs.Rewriting.{ExprTo, same_expr, then_expr, by_expr_rule, in_text, in_array, in_map, in_braces, in_call, in_stray_method, in_chain, in_and, in_or, in_coalesce, ExprsTo, exprs_none, exprs_more, PairsTo, pairs_none, pairs_more, ChainTo, in_dot, in_index, BaseTo, base, ArgumentTo, same_argument, in_method, in_brackets, StepsTo, same_steps, last_method, last_index, more_dot, more_index, TargetTo, same_target, in_target, GuardTo, guard, MaybeTo, maybe_none, maybe_some, ArmsTo, arms_none, arms_more, StmtTo, same_stmt, then_stmt, by_stmt_rule, in_if, in_switch, in_while, in_do, in_for, in_var, in_assignment, in_block, in_try, in_expression, in_call_statement, in_break, in_return, in_import, RestTo, same_stmts, then_stmts, by_list_rule, in_head, in_tail, flag_forgotten}
use Rattle.theory_meaning.specs.Walk.{over_pairs, over_maybe, total}
use Rattle.theory_meaning.specs.Weight.{own_weight, expr_weight, exprs_weight, stmt_weight, weight}
use Rattle.theory_rewriting.proofs.rules.Arms.{arms_weight}
use Rattle.theory_rewriting.proofs.rules.Expressions.{expr_rule}
use Rattle.theory_rewriting.proofs.rules.Statements.{stmt_rule}
use Rattle.theory_rewriting.proofs.rules.Lists.{list_rule}

-- one where the flag was set in between
abbrev pub gap : Bool → Bool → ℕ
gap false true = 1
gap _ _ = 0

gap_then : (d d1 d2 : Bool) → gap d d2 ≤ gap d d1 + gap d1 d2
gap_then false false false = omega arith
gap_then false false true = omega arith
gap_then false true false = omega arith
gap_then false true true = omega arith
gap_then true false false = omega arith
gap_then true false true = omega arith
gap_then true true false = omega arith
gap_then true true true = omega arith

gap_most : (d d' : Bool) → gap d d' ≤ 1
gap_most false false = omega arith
gap_most false true = omega arith
gap_most true false = omega arith
gap_most true true = omega arith

gap_same : (d : Bool) → gap d d ≡ 0
gap_same false = refl
gap_same true = refl

mutual
  pub expr_falls : {k : Context} {d d' : Bool} {e e' : Expr} → ExprTo k d d' e e' → expr_weight e' + gap d d' ≤ expr_weight e
  expr_falls (same_expr {d = d}) = omega (arith, gap_same d)
  expr_falls (then_expr {d = d} {d1 = d1} {d2 = d2} p q) = omega (arith, expr_falls p, expr_falls q, gap_then d d1 d2)
  expr_falls (by_expr_rule {d = d} r) = omega (arith, gap_most d true, (expr_rule r).lighter)
  expr_falls (in_text p) = omega (arith, exprs_fall p)
  expr_falls (in_array p) = omega (arith, exprs_fall p)
  expr_falls (in_map p) = omega (arith, pairs_fall p)
  expr_falls (in_braces p) = omega (arith, stmts_fall p)
  expr_falls (in_stray_method p) = omega (arith, exprs_fall p)
  expr_falls (in_call p) = omega (arith, exprs_fall p)
  expr_falls (in_chain p) = chain_falls p
  expr_falls (in_and p) = omega (arith, exprs_fall p)
  expr_falls (in_or p) = omega (arith, exprs_fall p)
  expr_falls (in_coalesce p) = omega (arith, exprs_fall p)

  pub exprs_fall : {k : Context} {d d' : Bool} {es es' : Exprs} → ExprsTo k d d' es es' → exprs_weight es' + gap d d' ≤ exprs_weight es
  exprs_fall (exprs_none {d = d}) = omega (arith, gap_same d)
  exprs_fall (exprs_more {d = d} {d1 = d1} {d2 = d2} p q) = omega (arith, expr_falls p, exprs_fall q, gap_then d d1 d2)

  pairs_fall : {k : Context} {d d' : Bool} {ps ps' : Pairs} → PairsTo k d d' ps ps' → over_pairs (total own_weight) ps' + gap d d' ≤ over_pairs (total own_weight) ps
  pairs_fall (pairs_none {d = d}) = omega (arith, gap_same d)
  pairs_fall (pairs_more {d = d} {d1 = d1} {d2 = d2} p q) = omega (arith, expr_falls p, pairs_fall q, gap_then d d1 d2)

  chain_falls : {k : Context} {d d' : Bool} {e e' : Expr} → ChainTo k d d' e e' → expr_weight e' + gap d d' ≤ expr_weight e
  chain_falls (in_dot {d = d} {d1 = d1} {d2 = d2} p q) = omega (arith, base_falls p, rest_falls q, gap_then d d1 d2)
  chain_falls (in_index {d = d} {d1 = d1} {d2 = d2} p q) = omega (arith, base_falls p, rest_falls q, gap_then d d1 d2)

  base_falls : {k : Context} {d d' : Bool} {e e' : Expr} → BaseTo k d d' e e' → expr_weight e' + gap d d' ≤ expr_weight e
  base_falls (base p r) = expr_falls p

  argument_falls : {k : Context} {dot d d' : Bool} {e e' : Expr} → ArgumentTo k dot d d' e e' → expr_weight e' + gap d d' ≤ expr_weight e
  argument_falls (same_argument {d = d}) = omega (arith, gap_same d)
  argument_falls (in_method p) = omega (arith, exprs_fall p)
  argument_falls (in_brackets p) = expr_falls p

  rest_falls : {k : Context} {dot breaks d d' : Bool} {e e' : Expr} → StepsTo k dot breaks d d' e e' → expr_weight e' + gap d d' ≤ expr_weight e
  rest_falls (same_steps {d = d}) = omega (arith, gap_same d)
  rest_falls (last_method p) = omega (arith, exprs_fall p)
  rest_falls (last_index p) = expr_falls p
  rest_falls (more_dot {d = d} {d1 = d1} {d2 = d2} p q) = omega (arith, argument_falls p, rest_falls q, gap_then d d1 d2)
  rest_falls (more_index {d = d} {d1 = d1} {d2 = d2} p q) = omega (arith, argument_falls p, rest_falls q, gap_then d d1 d2)

  target_falls : {k : Context} {d d' : Bool} {e e' : Expr} → TargetTo k d d' e e' → expr_weight e' + gap d d' ≤ expr_weight e
  target_falls (same_target {d = d}) = omega (arith, gap_same d)
  target_falls (in_target p) = chain_falls p

  guard_falls : {k : Context} {d d' : Bool} {e e' : Expr} → GuardTo k d d' e e' → expr_weight e' + gap d d' ≤ expr_weight e
  guard_falls (guard p u) = expr_falls p

  maybe_falls : {k : Context} {d d' : Bool} {m m' : MaybeExpr} → MaybeTo k d d' m m' → over_maybe (total own_weight) m' + gap d d' ≤ over_maybe (total own_weight) m
  maybe_falls (maybe_none {d = d}) = omega (arith, gap_same d)
  maybe_falls (maybe_some p) = omega (arith, expr_falls p)

  arms_fall : {k : Context} {d d' : Bool} {as' bs : Arms} → ArmsTo k d d' as' bs → arms_weight bs + gap d d' ≤ arms_weight as'
  arms_fall (arms_none {d = d}) = omega (arith, gap_same d)
  arms_fall (arms_more {d = d} {d1 = d1} {d2 = d2} {d3 = d3} p q r) = omega (arith, expr_falls p, expr_falls q, arms_fall r, gap_then d d1 d3, gap_then d1 d2 d3)

  pub stmt_falls : {k : Context} {w d d' : Bool} {s s' : Stmt} → StmtTo k w d d' s s' → stmt_weight s' + gap d d' ≤ stmt_weight s
  stmt_falls (same_stmt {d = d}) = omega (arith, gap_same d)
  stmt_falls (then_stmt {d = d} {d1 = d1} {d2 = d2} p q) = omega (arith, stmt_falls p, stmt_falls q, gap_then d d1 d2)
  stmt_falls (by_stmt_rule {d = d} r) = omega (arith, gap_most d true, (stmt_rule r).lighter)
  stmt_falls (in_if {d = d} {d1 = d1} {d2 = d2} {d3 = d3} p q r) = omega (arith, expr_falls p, stmts_fall q, stmts_fall r, gap_then d d1 d3, gap_then d1 d2 d3)
  stmt_falls (in_switch {d = d} {d1 = d1} {d2 = d2} p q) = omega (arith, expr_falls p, arms_fall q, gap_then d d1 d2)
  stmt_falls (in_while {d = d} {d1 = d1} {d2 = d2} p q) = omega (arith, guard_falls p, stmts_fall q, gap_then d d1 d2)
  stmt_falls (in_do {d = d} {d1 = d1} {d2 = d2} p q) = omega (arith, expr_falls p, stmts_fall q, gap_then d d1 d2)
  stmt_falls (in_for {d = d} {d1 = d1} {d2 = d2} p q) = omega (arith, expr_falls p, stmts_fall q, gap_then d d1 d2)
  stmt_falls (in_var p) = omega (arith, expr_falls p)
  stmt_falls (in_assignment {d = d} {d1 = d1} {d2 = d2} p q) = omega (arith, target_falls p, expr_falls q, gap_then d d1 d2)
  stmt_falls (in_block p) = omega (arith, stmts_fall p)
  stmt_falls (in_try {d = d} {d1 = d1} {d2 = d2} p q) = omega (arith, stmts_fall p, stmts_fall q, gap_then d d1 d2)
  stmt_falls (in_expression p) = omega (arith, expr_falls p)
  stmt_falls (in_call_statement p) = omega (arith, exprs_fall p)
  stmt_falls (in_break p) = omega (arith, maybe_falls p)
  stmt_falls (in_return p) = omega (arith, maybe_falls p)
  stmt_falls (in_import p) = omega (arith, expr_falls p)

  pub stmts_fall : {k : ListContext} {m : ListKind} {u d d' : Bool} {ss ss' : Stmts} → RestTo k m u d d' ss ss' → weight ss' + gap d d' ≤ weight ss
  stmts_fall (same_stmts {d = d}) = omega (arith, gap_same d)
  stmts_fall (then_stmts {d = d} {d1 = d1} {d2 = d2} p q) = omega (arith, stmts_fall p, stmts_fall q, gap_then d d1 d2)
  stmts_fall (by_list_rule {d = d} r) = omega (arith, gap_most d true, (list_rule r).lighter)
  stmts_fall (in_head p) = omega (arith, stmt_falls p)
  stmts_fall (in_tail p) = omega (arith, stmts_fall p)
  stmts_fall (flag_forgotten p) = omega (arith, stmts_fall p)
