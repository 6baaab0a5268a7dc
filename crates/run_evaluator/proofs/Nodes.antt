-- Nodes by their parts: arrays, texts, calls, braces.
use Rattle.std.proofs.Common.{◌≡◌, Bool, true, false, cond, List, map, length, Option, Result, Ok, Err, refl, sym, ap, ◌∙◌, subst, arith}
use Rattle.rhai_base.specs.declared.dynamic.Dynamic.{Dynamic}
use Rattle.rhai_base.specs.declared.dynamic.Dynamic.TheVariants as value
use Rattle.rhai_base.specs.Reading.{value_of, value_of-Array}
use Rattle.rhai_base.specs.Value.{Text, Value, ArrayV, TextV, values}
use Rattle.ast_types.specs.declared.expr.FnCallExpr.{FnCallExpr}
use Rattle.ast_types.specs.Reading.{callee_of, exprs_of}
use Rattle.theory_meaning.specs.ActForms.{ask_host, give}
use Rattle.theory_meaning.specs.Calls.{called}
use Rattle.theory_meaning.specs.Control.{text_in, texts_joined}
use Rattle.theory_meaning.specs.Core as core
use Rattle.theory_meaning.specs.Desugar.{callee_by, core_expr, core_exprs, core_stmts}
use Rattle.theory_meaning.specs.Meaning.{text}
use Rattle.theory_meaning.specs.Shape.{is_callable, is_unit}
use Rattle.theory_meaning.specs.Tree as tree
use Rattle.run_state.specs.declared.state.Interrupt.{Interrupt}
use Rattle.run_state.specs.declared.state.Interrupt.TheVariants.{NoMemory, Return, Break, Continue, Throw, Stuck, OutOfTurns}
use Rattle.run_state.specs.declared.state.State.{State}
use Rattle.run_host.specs.declared.report.Stuck.TheVariants as why
use Rattle.run_state.specs.Evaluating.{call_core, IsConstant, RunsBlock, RunsCall, RunsCore, RunsDeed, RunsExpr, RunsExprs, RunsStmt}
use Rattle.run_state.specs.Runs.{Setting, Acting, Runs, given}
use Rattle.run_steps.specs.Variables.{in_module, qualified_in}
use Rattle.run_steps.proofs.Callees.{count_exprs_of}
use Rattle.run_steps.proofs.NamedModules.{module_goes}
use Rattle.run_state.specs.State.{store_of}
use Rattle.run_state.proofs.Goes.{gives, goes_as, goes_then, leads_then}
use Rattle.run_state.proofs.Statements.{deed_line}

module _ (here : Setting) (loop : Bool) where
  -- ---- lists of values

  pub array_runs : (es : tree.Exprs) (s s1 : State) (vs : List Dynamic) → RunsExprs here loop es s (Ok vs) s1 → RunsExpr here loop (tree.ArrayOf es) s (Ok (value.Array vs)) s1
  array_runs es s s1 vs q = goes_then here (q (λ us. give (ArrayV (values us)))) (gives here _ _ s1 (sym (value_of-Array vs)))

  pub string_runs : (es : tree.Exprs) (s s1 : State) (vs : List Dynamic) (v : Dynamic) → RunsExprs here loop es s (Ok vs) s1 → value_of v ≡ TextV (texts_joined (text_in here.world.host) (map value_of vs)) → RunsExpr here loop (tree.InterpolatedString es) s (Ok v) s1
  string_runs es s s1 vs v q h = goes_then here (q (text here.world)) (gives here _ _ s1 (sym h))

  -- ---- calls

  pub called_as : (k : tree.Callee) (d : core.Callee) (vs : List Value) (s s1 : State) (r : Result Dynamic Interrupt) → callee_by k k.token ≡ d → Runs here (Acting (called here.world d vs)) s r s1 → Runs here (Acting (called here.world (callee_by k k.token) vs)) s r s1
  called_as k d vs s s1 r h q = subst (λ x. Runs here (Acting (called here.world x vs)) s r s1) (sym h) q

  -- in a module, by the aliases of the scope
  pub called_in_module : (k : tree.Callee) (vs : List Value) (s s1 : State) (r : Result Dynamic Interrupt) → called here.world (callee_by k k.token) vs ≡ in_module k.namespace k.name (λ f. ask_host f vs) → Runs here (Acting (ask_host (qualified_in (store_of s).scope k.namespace k.name) vs)) s r s1 → Runs here (Acting (called here.world (callee_by k k.token) vs)) s r s1
  called_in_module k vs s s1 r h q = leads_then here s1 r (λ v. given (value_of v)) (goes_then here (goes_as here _ _ s (ap Acting h)) (module_goes here k.namespace k.name (λ f. ask_host f vs) s)) q

  module _ (c : FnCallExpr) (s : State) where
    abbrev called_core : core.Expr
    called_core = core.FnCall (callee_by (callee_of c) (callee_of c).token) (core_exprs loop (exprs_of c.args))

    call_is : (b : Bool) → is_callable (callee_of c) (length c.args) ≡ b → call_core loop (callee_of c) (exprs_of c.args) ≡ cond b called_core core.Ill
    call_is b h = ap (λ d. cond d called_core core.Ill) (ap (is_callable (callee_of c)) (count_exprs_of c.args) ∙ h)

    pub call_stuck : is_callable (callee_of c) (length c.args) ≡ false → RunsCall here loop (callee_of c) (exprs_of c.args) s (Err (Stuck why.WrongKind)) s
    call_stuck h = subst (λ x. RunsCore here x s (Err (Stuck why.WrongKind)) s) (sym (call_is false h)) (record { turns = omega arith; runs = λ d le. refl })

    module _ (h : is_callable (callee_of c) (length c.args) ≡ true) (s1 : State) where
      pub call_as : (r : Result Dynamic Interrupt) → RunsCore here called_core s r s1 → RunsCall here loop (callee_of c) (exprs_of c.args) s r s1
      call_as r q = subst (λ y. RunsCore here y s r s1) (sym (call_is true h)) q

      pub call_stops : (x : Interrupt) → RunsExprs here loop (exprs_of c.args) s (Err x) s1 → RunsCall here loop (callee_of c) (exprs_of c.args) s (Err x) s1
      call_stops x q = subst (λ y. RunsCore here y s (Err x) s1) (sym (call_is true h)) (q (λ vs. called here.world (callee_by (callee_of c) (callee_of c).token) vs))

      pub call_runs : (vs : List Dynamic) (s2 : State) (r : Result Dynamic Interrupt) → RunsExprs here loop (exprs_of c.args) s (Ok vs) s1 → Runs here (Acting (called here.world (callee_by (callee_of c) (callee_of c).token) (map value_of vs))) s1 r s2 → RunsCall here loop (callee_of c) (exprs_of c.args) s r s2
      call_runs vs s2 r q k = subst (λ y. RunsCore here y s r s2) (sym (call_is true h)) (leads_then here s2 r (λ v. given (value_of v)) (q (λ us. called here.world (callee_by (callee_of c) (callee_of c).token) us)) k)

  -- ---- braces, as an expression and as a statement

  pub braces_run : (ss : tree.Stmts) (s s1 : State) (r : Result Dynamic Interrupt) → RunsBlock here loop ss s r s1 → RunsExpr here loop (tree.BlockExpr ss) s r s1
  braces_run ss s s1 r q = q true

  -- ---- values

  pub gives_constant : (v : Dynamic) (w : Value) (s : State) → value_of v ≡ w → RunsCore here (core.Constant w) s (Ok v) s
  gives_constant v w s e = gives here _ _ s (sym e)

  constant_as : (b : Bool) (v : Value) (s s1 : State) (r : Result Dynamic Interrupt) → is_unit v ≡ b → RunsCore here (cond b core.Ill (core.Constant v)) s r s1 → RunsCore here (cond (is_unit v) core.Ill (core.Constant v)) s r s1
  constant_as b v s s1 r e q = subst (λ c. RunsCore here (cond c core.Ill (core.Constant v)) s r s1) (sym e) q

  -- a constant of its own, which is never unit
  pub constant_runs : (v : Value) (s : State) (r : Result Dynamic Interrupt) → IsConstant v r → RunsExpr here loop (tree.DynamicConstant v) s r s
  constant_runs v s (Ok u) h = constant_as false v s s (Ok u) h.0 (gives_constant u v s h.1)
  constant_runs v s (Err (Stuck f)) h = constant_as true v s s (Err (Stuck f)) h.0 (subst (λ g. RunsCore here core.Ill s (Err (Stuck g)) s) (sym h.1) (record { turns = omega arith; runs = λ d le. refl }))
  constant_runs v s (Err NoMemory) h = tt
  constant_runs v s (Err (Return u)) h = absurd h
  constant_runs v s (Err (Break u)) h = absurd h
  constant_runs v s (Err Continue) h = absurd h
  constant_runs v s (Err (Throw u)) h = absurd h
  constant_runs v s (Err OutOfTurns) h = absurd h

  -- ---- what is not opened

  ill_expr : (s : State) → RunsCore here core.Ill s (Err (Stuck why.WrongKind)) s
  ill_expr s = record { turns = omega arith; runs = λ d le. refl }

  pub property_ill : (x : tree.PropertyNames) (s : State) → RunsExpr here loop (tree.Property x) s (Err (Stuck why.WrongKind)) s
  property_ill x s = ill_expr s

  pub method_ill : (c : tree.Callee) (es : tree.Exprs) (s : State) → RunsExpr here loop (tree.MethodCall c es) s (Err (Stuck why.WrongKind)) s
  method_ill c es s = ill_expr s

  -- ---- statements

  pub call_line : (c : tree.Callee) (es : tree.Exprs) (s s1 : State) (r : Result Dynamic Interrupt) → RunsCall here loop c es s r s1 → RunsStmt here loop (tree.FnCallStmt c es) s r s1
  call_line c es s s1 r q = deed_line here loop (core.Evaluate (call_core loop c es)) s s1 r q

  pub block_line : (ss : tree.Stmts) (s s1 : State) (r : Result Dynamic Interrupt) → RunsBlock here loop ss s r s1 → RunsStmt here loop (tree.Block ss) s r s1
  block_line ss s s1 r q = deed_line here loop (core.Block (core_stmts loop ss)) s s1 r (q true)

  pub if_line : (e : tree.Expr) (a b : tree.Stmts) (s s1 : State) (r : Result Dynamic Interrupt) → RunsDeed here (core.If (core_expr loop e) (core_stmts loop a) (core_stmts loop b)) s r s1 → RunsStmt here loop (tree.If e a b) s r s1
  if_line e a b s s1 r q = deed_line here loop (core.If (core_expr loop e) (core_stmts loop a) (core_stmts loop b)) s s1 r q

  pub for_line : (x : Text) (i : Option Text) (e : tree.Expr) (ss : tree.Stmts) (s s1 : State) (r : Result Dynamic Interrupt) → RunsDeed here (core.For x i (core_expr loop e) (core_stmts true ss)) s r s1 → RunsStmt here loop (tree.For x i e ss) s r s1
  for_line x i e ss s s1 r q = deed_line here loop (core.For x i (core_expr loop e) (core_stmts true ss)) s s1 r q
