-- Assignments: the statement, and those to names and to `this`.
use Rattle.std.proofs.Common.{◌≡◌, Bool, true, false, cond, Option, Some, None, Result, Ok, Err, sym, ap, subst, arith}
use Rattle.base_tokens.specs.declared.token.Token.{Token}
use Rattle.rhai_base.specs.declared.dynamic.Dynamic.{Dynamic}
use Rattle.rhai_base.specs.declared.dynamic.Dynamic.TheVariants as value
use Rattle.rhai_base.specs.Reading.{value_of, value_of-Unit}
use Rattle.rhai_base.specs.Value.{UnitV}
use Rattle.rhai_base.specs.Builtin.{operator_of}
use Rattle.rhai_base.specs.Operators.{Operator}
use Rattle.theory_meaning.specs.Act as act
use Rattle.theory_meaning.specs.Act.{Act, Ended, Gives, At, Read, Write}
use Rattle.theory_meaning.specs.ActForms.{◌>>=◌}
use Rattle.theory_meaning.specs.Calls.{assigned}
use Rattle.theory_meaning.specs.Chains.{assign_root}
use Rattle.theory_meaning.specs.Core as core
use Rattle.theory_meaning.specs.Desugar.{core_expr, target_of}
use Rattle.theory_meaning.specs.Meaning as meaning
use Rattle.theory_meaning.specs.Shape.{is_left_side}
use Rattle.theory_meaning.specs.Tree as tree
use Rattle.run_state.specs.declared.state.Interrupt.{Interrupt}
use Rattle.run_state.specs.declared.state.Interrupt.TheVariants.{Stuck}
use Rattle.run_host.specs.declared.report.Stuck.TheVariants as why
use Rattle.run_state.specs.Evaluating.{RunsExpr, RunsLine}
use Rattle.run_state.specs.declared.state.State.{State}
use Rattle.run_steps.specs.Operators.{StandsFor}
use Rattle.run_state.specs.Runs.{Setting, Acting, Goes, Stops, Runs, given}
use Rattle.run_state.specs.State.{store_of}
use Rattle.run_state.proofs.Goes.{goes_as, goes_then, leads_then, stops_then, value_goes, value_stops}
use Rattle.run_state.proofs.Statements.{deed_line, ill_line}

-- a write's answer
pub unit_value : (here : Setting) (a : Act) (s s1 : State) → Goes here (Acting a) s (given UnitV) s1 → Goes here (Acting a) s (given (value_of value.Unit)) s1
unit_value here a s s1 q = goes_then here q (record { turns = omega arith; runs = λ d le. ap (λ u. At (Ended (Gives u)) (store_of s1) s1.turns) (sym value_of-Unit) })

module _ (here : Setting) (o : Option Operator) (v : Dynamic) (r : act.Root) where
  abbrev whole : Act
  whole = assign_root here.world o (value_of v) r

  -- `=`
  module _ (h : StandsFor None o) (s s1 : State) where
    plain : Goes here (Acting whole) s (Acting (Write true r (value_of v))) s
    plain = goes_as here _ _ s (ap (λ p. Acting (assign_root here.world p (value_of v) r)) (sym h))

    pub plain_runs : (x : Result Dynamic Interrupt) → Runs here (Acting (Write true r (value_of v))) s x s1 → Runs here (Acting whole) s x s1
    plain_runs x q = leads_then here s1 x (λ u. given (value_of u)) plain q

  -- `op=`
  module _ (t : Token) (h : StandsFor (Some t) o) (s : State) where
    by_read : Goes here (Acting whole) s (Acting (Read r >>= λ old. assigned here.world (Some h.0) old (value_of v) >>= λ x. Write true r x)) s
    by_read = goes_as here _ _ s (ap (λ p. Acting (assign_root here.world p (value_of v) r)) (sym h.2))

    pub read_stops : (s1 : State) (x : Interrupt) → Stops here (Acting (Read r)) s x s1 → Stops here (Acting whole) s x s1
    read_stops s1 x q = stops_then here s1 x by_read (value_stops here _ _ s s1 x q)

    module _ (old : Dynamic) (s1 s2 : State) (q : Goes here (Acting (Read r)) s (given (value_of old)) s1) where
      by_value : Goes here (Acting whole) s (Acting (assigned here.world (Some h.0) (value_of old) (value_of v) >>= λ x. Write true r x)) s1
      by_value = goes_then here by_read (value_goes here (λ u. assigned here.world (Some h.0) u (value_of v) >>= λ x. Write true r x) q)

      pub operator_stops : (x : Interrupt) → ((p : Operator) → operator_of t ≡ Some p → Stops here (Acting (assigned here.world (Some p) (value_of old) (value_of v))) s1 x s2) → Stops here (Acting whole) s x s2
      operator_stops x k = stops_then here s2 x by_value (value_stops here _ _ s1 s2 x (k h.0 h.1))

      module _ (w : Dynamic) (s3 : State) (k : (p : Operator) → operator_of t ≡ Some p → Goes here (Acting (assigned here.world (Some p) (value_of old) (value_of v))) s1 (given (value_of w)) s2) where
        by_written : Goes here (Acting whole) s (Acting (Write true r (value_of w))) s2
        by_written = goes_then here by_value (value_goes here (λ x. Write true r x) (k h.0 h.1))

        pub written_runs : (x : Result Dynamic Interrupt) → Runs here (Acting (Write true r (value_of w))) s2 x s3 → Runs here (Acting whole) s x s3
        written_runs x l = leads_then here s3 x (λ u. given (value_of u)) by_written l

-- ---- the statement

module _ (here : Setting) (loop : Bool) (o : Option Operator) (l e : tree.Expr) (s : State) where
  abbrev by_side : Bool → core.Stmt
  by_side b = core.Does (cond b (core.Assignment o (target_of loop l) (core_expr loop e)) core.IllDeed)

  abbrev assign_line : core.Stmt
  assign_line = by_side (is_left_side l)

  pub assign_stuck : is_left_side l ≡ false → RunsLine here assign_line s (Err (Stuck why.WrongKind)) s
  assign_stuck h = subst (λ b. RunsLine here (by_side b) s (Err (Stuck why.WrongKind)) s) (sym h) (ill_line here loop s)

  module _ (h : is_left_side l ≡ true) (s1 : State) where
    abbrev target_assigned : core.Deed
    target_assigned = core.Assignment o (target_of loop l) (core_expr loop e)

    pub assign_stops : (x : Interrupt) → RunsExpr here loop e s (Err x) s1 → RunsLine here assign_line s (Err x) s1
    assign_stops x q =
        subst (λ b. RunsLine here (by_side b) s (Err x) s1) (sym h)
        (deed_line here loop target_assigned s s1 (Err x) (value_stops here _ _ s s1 x q))

    pub assign_runs : (t : core.Target) (v : Dynamic) (s2 : State) (x : Result Dynamic Interrupt) → target_of loop l ≡ t → RunsExpr here loop e s (Ok v) s1 → Runs here (Acting (meaning.assign here.world o t (value_of v))) s1 x s2 → RunsLine here assign_line s x s2
    assign_runs t v s2 x f q k =
        let assigned_to : Runs here (Acting (meaning.assign here.world o (target_of loop l) (value_of v))) s1 x s2 = subst (λ u. Runs here (Acting (meaning.assign here.world o u (value_of v))) s1 x s2) (sym f) k in
        subst (λ b. RunsLine here (by_side b) s x s2) (sym h)
        (deed_line here loop target_assigned s s2 x (leads_then here s2 x (λ u. given (value_of u)) (value_goes here (λ u. meaning.assign here.world o (target_of loop l) u) q) assigned_to))
