-- Calls of operators, over their operands.
use Rattle.std.proofs.Common.{◌≡◌, ℕ, Bool, true, false, not, ◌&&◌, if◌then◌else◌, List, [], ◌∷◌, length, map, Some, None, Result, Ok, Err, refl, sym, ap, ◌∙◌, subst}
use Rattle.std.specs.Prelude.{◌==◌}
use Rattle.std.proofs.lemmas.Bool.{and_parts}
use Rattle.std.proofs.lemmas.Slice.Eq.{bytes_eq-Decides}
use Rattle.rhai_base.specs.Operators.{Operator, Plus, arity, symbol}
use Rattle.base_tokens.specs.Names.{barred, is_among}
use Rattle.rhai_base.specs.declared.dynamic.Dynamic.{Dynamic}
use Rattle.rhai_base.specs.Reading.{value_of}
use Rattle.rhai_base.specs.Value.{same_text}
use Rattle.ast_types.specs.declared.expr.Expr.{Expr}
use Rattle.ast_types.specs.declared.expr.FnCallExpr.{FnCallExpr}
use Rattle.ast_types.specs.Reading.{callee_of, expr_of, exprs_of}
use Rattle.theory_meaning.specs.Calls.{operate}
use Rattle.theory_meaning.specs.Core as core
use Rattle.theory_meaning.specs.Desugar.{core_exprs}
use Rattle.theory_meaning.specs.Shape.{has_token, is_barred, is_callable, is_none}
use Rattle.theory_meaning.specs.Tree.{CallToken, NoToken, OfOperator, OfOther, Callee}
use Rattle.run_state.specs.declared.state.Interrupt.{Interrupt}
use Rattle.run_state.specs.declared.state.State.{State}
use Rattle.run_state.specs.Evaluating.{RunsCall, RunsCore, RunsExpr, RunsExprs}
use Rattle.run_state.specs.Runs.{Setting, Acting, Runs, given}
use Rattle.run_state.proofs.Goes.{goes_then, leads_then, stops_then, value_goes, value_stops}
use Rattle.run_steps.specs.Operators.{called_operator, operator_by}
use Rattle.run_steps.proofs.Callees.{operator_callee}
use Rattle.run_evaluator.proofs.Nodes.{call_as}

-- an operator's call is callable
no_symbol_barred : (o : Operator) → is_among (symbol o) barred ≡ false
no_symbol_barred Plus = refl
no_symbol_barred _ = refl

and_false : (a : Bool) → (a && false) ≡ false
and_false true = refl
and_false false = refl

unbarred : (k : Callee) (n : ℕ) (o : Operator) → has_token k n (OfOperator o) ≡ true → is_barred k ≡ false
unbarred k n o h =
    let plain = is_none k.namespace in
    let same = same_text k.name (symbol o) in
    let named : same ≡ true = (and_parts plain same (and_parts (plain && same) (n == arity o) (and_parts (plain && same && n == arity o) (not k.captures) h).0).0).1 in
    ap (λ t. is_none k.namespace && is_among t barred) ((bytes_eq-Decides k.name (symbol o)).0 named) ∙ ap (λ b. is_none k.namespace && b) (no_symbol_barred o) ∙ and_false (is_none k.namespace)

token_there : (b : Bool) (o p : Operator) → Some p ≡ (if b then Some o else None) → b ≡ true
token_there true o p h = refl
token_there false o p h = cc

callable_by : (k : Callee) (n : ℕ) (m : CallToken) (p : Operator) → Some p ≡ operator_by k n m → (has_token k n m && not (is_barred k)) ≡ true
callable_by k n NoToken p h = cc
callable_by k n (OfOperator o) p h =
    let there = token_there (has_token k n (OfOperator o)) o p h in
    ap (λ b. b && not (is_barred k)) there ∙ ap not (unbarred k n o there)
callable_by k n OfOther p h = cc

pub operator_callable : (k : Callee) (n : ℕ) (p : Operator) → Some p ≡ called_operator k n → is_callable k n ≡ true
operator_callable k n p h = callable_by k n k.token p h

module _ (here : Setting) (loop : Bool) (o : Operator) where
  abbrev pub over : List Expr → core.Expr
  over xs = core.FnCall (core.OnOperator o) (core_exprs loop (exprs_of xs))

  pub operator_runs : (c : FnCallExpr) (s s1 : State) (r : Result Dynamic Interrupt) → Some o ≡ called_operator (callee_of c) (length c.args) → RunsCore here (over c.args) s r s1 → RunsCall here loop (callee_of c) (exprs_of c.args) s r s1
  operator_runs c s s1 r h q =
      call_as here loop c s (operator_callable (callee_of c) (length c.args) o h) s1 r
      (subst (λ d. RunsCore here (core.FnCall d (core_exprs loop (exprs_of c.args))) s r s1) (sym (operator_callee (callee_of c) (length c.args) o h)) q)

  -- operands in a list
  module _ (xs : List Expr) (s s1 : State) where
    pub operands_stop : (x : Interrupt) → RunsExprs here loop (exprs_of xs) s (Err x) s1 → RunsCore here (over xs) s (Err x) s1
    operands_stop x q = q (λ vs. operate here.world o vs)

    pub operands_run : (vs : List Dynamic) (s2 : State) (r : Result Dynamic Interrupt) → RunsExprs here loop (exprs_of xs) s (Ok vs) s1 → Runs here (Acting (operate here.world o (map value_of vs))) s1 r s2 → RunsCore here (over xs) s r s2
    operands_run vs s2 r q k = leads_then here s2 r (λ v. given (value_of v)) (q (λ us. operate here.world o us)) k

  -- two operands
  module _ (x y : Expr) (s s1 : State) where
    pub left_stops : (i : Interrupt) → RunsExpr here loop (expr_of x) s (Err i) s1 → RunsCore here (over (x ∷ y ∷ [])) s (Err i) s1
    left_stops i q = value_stops here _ _ s s1 i q

    module _ (u : Dynamic) (q : RunsExpr here loop (expr_of x) s (Ok u) s1) (s2 : State) where
      pub right_stops : (i : Interrupt) → RunsExpr here loop (expr_of y) s1 (Err i) s2 → RunsCore here (over (x ∷ y ∷ [])) s (Err i) s2
      right_stops i p = stops_then here s2 i (value_goes here _ q) (value_stops here _ _ s1 s2 i p)

      pub two_run : (v : Dynamic) (s3 : State) (r : Result Dynamic Interrupt) → RunsExpr here loop (expr_of y) s1 (Ok v) s2 → Runs here (Acting (operate here.world o (value_of u ∷ value_of v ∷ []))) s2 r s3 → RunsCore here (over (x ∷ y ∷ [])) s r s3
      two_run v s3 r p k = leads_then here s3 r (λ w. given (value_of w)) (goes_then here (value_goes here _ q) (value_goes here _ p)) k
