-- A rewriting that leaves the flag clear changed nothing.
use Rattle.std.proofs.Common.{◌≡◌, Bool, false, refl, ap, ◌∙◌}
use Rattle.theory_meaning.specs.Tree.{Expr, InterpolatedString, ArrayOf, MapOf, MethodCall, BlockExpr, FnCall, And, Or, Coalesce, Exprs, Pairs, MaybeExpr, an_expr, Arms, Stmt, Var, Block, ExprStmt, FnCallStmt, BreakLoop, Return, Import, Stmts, stmt}
use Rattle.theory_rewriting.specs.Context.{Context, ListKind, ListContext}
use Rattle.theory_rewriting.specs.Rewriting.{ExprTo, same_expr, then_expr, by_expr_rule, in_text, in_array, in_map, in_braces, in_call, in_stray_method, in_chain, in_and, in_or, in_coalesce, ExprsTo, exprs_none, exprs_more, PairsTo, pairs_none, pairs_more, ChainTo, in_dot, in_index, BaseTo, base, ArgumentTo, same_argument, in_method, in_brackets, StepsTo, same_steps, last_method, last_index, more_dot, more_index, TargetTo, same_target, in_target, GuardTo, guard, MaybeTo, maybe_none, maybe_some, ArmsTo, arms_none, arms_more, StmtTo, same_stmt, then_stmt, by_stmt_rule, in_if, in_switch, in_while, in_do, in_for, in_var, in_assignment, in_block, in_try, in_expression, in_call_statement, in_break, in_return, in_import, RestTo, same_stmts, then_stmts, by_list_rule, in_head, in_tail, flag_forgotten}

-- the flag was clear before, and the two are one
abbrev pub Kept : {A : Type 0} → Bool → A → A → Type 0
Kept d x y = (d ≡ false) × (x ≡ y)

kept_then : {A : Type 0} {d : Bool} {x y z : A} → Kept d x y → y ≡ z → Kept d x z
kept_then k e = (k.0, k.1 ∙ e)

mutual
  pub expr_kept : {k : Context} {d d' : Bool} {e e' : Expr} → ExprTo k d d' e e' → d' ≡ false → Kept d e e'
  expr_kept same_expr h = (h, refl)
  expr_kept (then_expr p q) h = let j = expr_kept q h in kept_then (expr_kept p j.0) j.1
  expr_kept (by_expr_rule r) h = cc
  expr_kept (in_text p) h = let k = exprs_kept p h in (k.0, ap InterpolatedString k.1)
  expr_kept (in_array p) h = let k = exprs_kept p h in (k.0, ap ArrayOf k.1)
  expr_kept (in_map {template = template} p) h = let k = pairs_kept p h in (k.0, ap (λ ps. MapOf ps template) k.1)
  expr_kept (in_braces p) h = let k = stmts_kept p h in (k.0, ap BlockExpr k.1)
  expr_kept (in_stray_method {c = c} p) h = let k = exprs_kept p h in (k.0, ap (MethodCall c) k.1)
  expr_kept (in_call {c = c} p) h = let k = exprs_kept p h in (k.0, ap (FnCall c) k.1)
  expr_kept (in_chain p) h = chain_kept p h
  expr_kept (in_and p) h = let k = exprs_kept p h in (k.0, ap And k.1)
  expr_kept (in_or p) h = let k = exprs_kept p h in (k.0, ap Or k.1)
  expr_kept (in_coalesce p) h = let k = exprs_kept p h in (k.0, ap Coalesce k.1)

  pub exprs_kept : {k : Context} {d d' : Bool} {e e' : Exprs} → ExprsTo k d d' e e' → d' ≡ false → Kept d e e'
  exprs_kept exprs_none h = (h, refl)
  exprs_kept (exprs_more p q) h = let k = exprs_kept q h in let j = expr_kept p k.0 in (j.0, cc)

  pub pairs_kept : {k : Context} {d d' : Bool} {e e' : Pairs} → PairsTo k d d' e e' → d' ≡ false → Kept d e e'
  pairs_kept pairs_none h = (h, refl)
  pairs_kept (pairs_more p q) h = let k = pairs_kept q h in let j = expr_kept p k.0 in (j.0, cc)

  pub chain_kept : {k : Context} {d d' : Bool} {e e' : Expr} → ChainTo k d d' e e' → d' ≡ false → Kept d e e'
  chain_kept (in_dot p q) h = let k = rest_kept q h in let j = base_kept p k.0 in (j.0, cc)
  chain_kept (in_index p q) h = let k = rest_kept q h in let j = base_kept p k.0 in (j.0, cc)

  pub base_kept : {k : Context} {d d' : Bool} {e e' : Expr} → BaseTo k d d' e e' → d' ≡ false → Kept d e e'
  base_kept (base p r) h = expr_kept p h

  pub argument_kept : {k : Context} {dot d d' : Bool} {e e' : Expr} → ArgumentTo k dot d d' e e' → d' ≡ false → Kept d e e'
  argument_kept same_argument h = (h, refl)
  argument_kept (in_method {c = c} p) h = let k = exprs_kept p h in (k.0, ap (MethodCall c) k.1)
  argument_kept (in_brackets p) h = expr_kept p h

  pub rest_kept : {k : Context} {dot breaks d d' : Bool} {e e' : Expr} → StepsTo k dot breaks d d' e e' → d' ≡ false → Kept d e e'
  rest_kept same_steps h = (h, refl)
  rest_kept (last_method {c = c} p) h = let k = exprs_kept p h in (k.0, ap (MethodCall c) k.1)
  rest_kept (last_index p) h = expr_kept p h
  rest_kept (more_dot p q) h = let k = rest_kept q h in let j = argument_kept p k.0 in (j.0, cc)
  rest_kept (more_index p q) h = let k = rest_kept q h in let j = argument_kept p k.0 in (j.0, cc)

  pub target_kept : {k : Context} {d d' : Bool} {e e' : Expr} → TargetTo k d d' e e' → d' ≡ false → Kept d e e'
  target_kept same_target h = (h, refl)
  target_kept (in_target p) h = chain_kept p h

  pub guard_kept : {k : Context} {d d' : Bool} {e e' : Expr} → GuardTo k d d' e e' → d' ≡ false → Kept d e e'
  guard_kept (guard p u) h = expr_kept p h

  pub maybe_kept : {k : Context} {d d' : Bool} {e e' : MaybeExpr} → MaybeTo k d d' e e' → d' ≡ false → Kept d e e'
  maybe_kept maybe_none h = (h, refl)
  maybe_kept (maybe_some p) h = let k = expr_kept p h in (k.0, ap an_expr k.1)

  pub arms_kept : {k : Context} {d d' : Bool} {e e' : Arms} → ArmsTo k d d' e e' → d' ≡ false → Kept d e e'
  arms_kept arms_none h = (h, refl)
  arms_kept (arms_more p q r) h = let k = arms_kept r h in let j = expr_kept q k.0 in let i = expr_kept p j.0 in (i.0, cc)

  pub stmt_kept : {k : Context} {w d d' : Bool} {e e' : Stmt} → StmtTo k w d d' e e' → d' ≡ false → Kept d e e'
  stmt_kept same_stmt h = (h, refl)
  stmt_kept (then_stmt p q) h = let k = stmt_kept q h in kept_then (stmt_kept p k.0) k.1
  stmt_kept (by_stmt_rule r) h = cc
  stmt_kept (in_if p q s) h = let k = stmts_kept s h in let j = stmts_kept q k.0 in let i = expr_kept p j.0 in (i.0, cc)
  stmt_kept (in_switch p q) h = let k = arms_kept q h in let j = expr_kept p k.0 in (j.0, cc)
  stmt_kept (in_while p q) h = let k = stmts_kept q h in let j = guard_kept p k.0 in (j.0, cc)
  stmt_kept (in_do p q) h = let k = stmts_kept q h in let j = expr_kept p k.0 in (j.0, cc)
  stmt_kept (in_for p q) h = let k = stmts_kept q h in let j = expr_kept p k.0 in (j.0, cc)
  stmt_kept (in_var {constant = c} {exported = x} {x = y} p) h = let k = expr_kept p h in (k.0, ap (Var c x y) k.1)
  stmt_kept (in_assignment p q) h = let k = expr_kept q h in let j = target_kept p k.0 in (j.0, cc)
  stmt_kept (in_block p) h = let k = stmts_kept p h in (k.0, ap Block k.1)
  stmt_kept (in_try p q) h = let k = stmts_kept q h in let j = stmts_kept p k.0 in (j.0, cc)
  stmt_kept (in_expression p) h = let k = expr_kept p h in (k.0, ap ExprStmt k.1)
  stmt_kept (in_call_statement {c = c} p) h = let k = exprs_kept p h in (k.0, ap (FnCallStmt c) k.1)
  stmt_kept (in_break {breaks = b} {exported = o} p) h = let k = maybe_kept p h in (k.0, ap (BreakLoop b o) k.1)
  stmt_kept (in_return {throws = b} {exported = o} p) h = let k = maybe_kept p h in (k.0, ap (Return b o) k.1)
  stmt_kept (in_import {x = x} p) h = let k = expr_kept p h in (k.0, ap (λ e. Import e x) k.1)

  pub stmts_kept : {k : ListContext} {m : ListKind} {u d d' : Bool} {e e' : Stmts} → RestTo k m u d d' e e' → d' ≡ false → Kept d e e'
  stmts_kept same_stmts h = (h, refl)
  stmts_kept (then_stmts p q) h = let k = stmts_kept q h in kept_then (stmts_kept p k.0) k.1
  stmts_kept (by_list_rule r) h = cc
  stmts_kept (in_head {ss = ss} p) h = let k = stmt_kept p h in (k.0, ap (λ s. stmt s ss) k.1)
  stmts_kept (in_tail {s = s} p) h = let k = stmts_kept p h in (k.0, ap (stmt s) k.1)
  stmts_kept (flag_forgotten p) h = cc
