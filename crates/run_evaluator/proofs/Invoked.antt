-- Calls of a script's functions.
use Rattle.std.proofs.Common.{◌≡◌, ℕ, zero, suc, ◌≤◌, true, [], map, Option, Some, Result, Ok, Err, refl, sym, ap, ◌∙◌, subst, arith}
use Rattle.std.specs.Prelude.{option_map}
use Rattle.rhai_base.specs.declared.dynamic.Dynamic.{Dynamic}
use Rattle.rhai_base.specs.Reading.{value_of}
use Rattle.rhai_base.specs.Value.{Value, UnitV}
use Rattle.theory_meaning.specs.Act as act
use Rattle.theory_meaning.specs.Act.{Gives, Leaves, Returns, Throws, Outcome, Ended, Halted, At, Store, ScriptCall, Act, Invoke, call_then, returned_outcome, returned, with_turn, run, run_all}
use Rattle.theory_meaning.specs.Core.{Function}
use Rattle.theory_meaning.specs.Meaning.{acts}
use Rattle.theory_meaning.specs.Run.{call_body, entered, function_of, reversed}
use Rattle.theory_meaning.specs.Relations.{store_of as store_after}
use Rattle.theory_meaning.proofs.Globals.{globals_kept_all}
use Rattle.run_state.specs.declared.state.Interrupt.{Interrupt}
use Rattle.run_state.specs.declared.state.Interrupt.TheVariants.{NoMemory, Return, Break, Continue, Throw, Stuck, OutOfTurns}
use Rattle.run_state.specs.declared.state.State.{State}
use Rattle.run_state.specs.Entries.{entry_meant}
use Rattle.run_state.specs.Exits.{function_end}
use Rattle.run_state.specs.Runs.{Setting, Acting, Listing, Over, Goes, Stops, Leads, given, env}
use Rattle.run_state.specs.State.{store_of}

module _ (here : Setting) (a : ScriptCall) (next : Value → Option Value → Act) (f : Function) (found : function_of here.functions a.function ≡ Some f) where
  abbrev after_call : Store → ℕ → Outcome → Store → ℕ → act.Result
  after_call old d o st t = call_then old (At (returned_outcome o) st t) (λ v u. run here.world (env here d) (next v u))

  abbrev pub entry : State → Store
  entry s = entered true f a (store_of s)

  module _ (s b0 b1 : State) (t : s.turns ≡ suc b0.turns) (start : store_of b0 ≡ entry s) where
    body_run : (o : Outcome) (d : ℕ) → s.turns ≤ d → Goes here (Listing (acts here.world true f.body UnitV)) b0 (Over o) b1 → run here.world (env here d) (Invoke a next) (store_of s) s.turns ≡ after_call (store_of s) d o (store_of b1) b1.turns
    body_run o zero le q = absurd (omega (arith, t, le))
    body_run o (suc d) le q =
        let body : Store → ℕ → act.Result = λ st n. returned (run_all here.world (env here d) (acts here.world true f.body UnitV) st n) in
        let whole : act.Result → act.Result = λ r. call_then (store_of s) r (λ v u. run here.world (env here (suc d)) (next v u)) in
        ap (λ o. whole (call_body true here.world (env here d) o a (store_of s) s.turns)) found
        ∙ ap (λ n. whole (with_turn n (entry s) body)) t
        ∙ ap (λ st. whole (body st b0.turns)) (sym start)
        ∙ ap (λ r. whole (returned r)) (q.runs d (omega (arith, t, le)))

    -- a body declares nothing that functions see
    globals_back : (o : Outcome) → Goes here (Listing (acts here.world true f.body UnitV)) b0 (Over o) b1 → (store_of b1).globals ≡ (store_of s).globals
    globals_back o q =
        ap (λ r. (store_after r).globals) (sym (q.runs b0.turns (omega arith)))
        ∙ globals_kept_all here.world (env here b0.turns) (acts here.world true f.body UnitV) (store_of b0) b0.turns (ap (λ (st : Store). st.is_own) start)
        ∙ ap (λ (st : Store). st.globals) start

    module _ (s' : State) (resumed : store_of s' ≡ record (store_of s) { globals = (store_of b1).globals; calls = (store_of b1).calls }) (left : s'.turns ≡ b1.turns) where
      back : (o : Outcome) → Goes here (Listing (acts here.world true f.body UnitV)) b0 (Over o) b1 → store_of s' ≡ record (store_of s) { calls = (store_of b1).calls }
      back o q = resumed ∙ ap (λ bs. record (store_of s) { globals = bs; calls = (store_of b1).calls }) (globals_back o q)

      given_back : (o : Outcome) (v : Value) → returned_outcome o ≡ Ended (Gives v) → Goes here (Listing (acts here.world true f.body UnitV)) b0 (Over o) b1 → Goes here (Acting (Invoke a next)) s (Acting (next v (store_of b1).this)) s'
      given_back o v h q = record {
        turns = omega (arith, t, left, q.turns);
        runs = λ d le.
            body_run o d le q
            ∙ ap (λ x. call_then (store_of s) (At x (store_of b1) b1.turns) (λ v u. run here.world (env here d) (next v u))) h
            ∙ (λ i. run here.world (env here d) (next v (store_of b1).this) (sym (back o q) i) (sym left i));
      }

      -- an end that is no value
      abbrev IsEnd : Outcome → Type 0
      IsEnd o = (old st : Store) (n : ℕ) (k : Value → Option Value → Store → ℕ → act.Result) → call_then old (At o st n) k ≡ At o (record old { calls = st.calls }) n

      stopped_back : (o o' : Outcome) → returned_outcome o ≡ o' → IsEnd o' → Goes here (Listing (acts here.world true f.body UnitV)) b0 (Over o) b1 → Goes here (Acting (Invoke a next)) s (Over o') s'
      stopped_back o o' h e q = record {
        turns = omega (arith, t, left, q.turns);
        runs = λ d le.
            body_run o d le q
            ∙ ap (λ x. call_then (store_of s) (At x (store_of b1) b1.turns) (λ v u. run here.world (env here d) (next v u))) h
            ∙ e (store_of s) (store_of b1) b1.turns (λ v u. run here.world (env here d) (next v u))
            ∙ (λ i. At o' (sym (back o q) i) (sym left i));
      }

      by_body : (r : Result Dynamic Interrupt) → Leads here (Listing (acts here.world true f.body UnitV)) b0 r b1 (λ v. given (value_of v)) → Leads here (Acting (Invoke a next)) s (function_end r) s' (λ v. Acting (next (value_of v) (store_of b1).this))
      by_body (Ok v) q = given_back (Ended (Gives (value_of v))) (value_of v) refl q
      by_body (Err (Return v)) q = given_back (Ended (Leaves (Returns (value_of v)))) (value_of v) refl q
      by_body (Err (Throw v)) q = stopped_back (Ended (Leaves (Throws (value_of v)))) _ refl (λ old st n k. refl) q
      by_body (Err (Break v)) q = stopped_back _ _ refl (λ old st n k. refl) q
      by_body (Err Continue) q = stopped_back _ _ refl (λ old st n k. refl) q
      by_body (Err (Stuck g)) q = stopped_back _ _ refl (λ old st n k. refl) q
      by_body (Err OutOfTurns) q = stopped_back _ _ refl (λ old st n k. refl) q
      by_body (Err NoMemory) q = tt

      -- a call by how its body ends
      pub invoke_goes : (r : Result Dynamic Interrupt) (v : Dynamic) → Leads here (Listing (acts here.world true f.body UnitV)) b0 r b1 (λ w. given (value_of w)) → Ok v ≡ function_end r → Goes here (Acting (Invoke a next)) s (Acting (next (value_of v) (store_of b1).this)) s'
      invoke_goes r v q e = subst (λ o. Leads here (Acting (Invoke a next)) s o s' (λ w. Acting (next (value_of w) (store_of b1).this))) (sym e) (by_body r q)

      pub invoke_stops : (r : Result Dynamic Interrupt) (x : Interrupt) → Leads here (Listing (acts here.world true f.body UnitV)) b0 r b1 (λ w. given (value_of w)) → Err x ≡ function_end r → Stops here (Acting (Invoke a next)) s x s'
      invoke_stops r x q e = subst (λ o. Leads here (Acting (Invoke a next)) s o s' (λ w. Acting (next (value_of w) (store_of b1).this))) (sym e) (by_body r q)

  -- no turn is left for the call
  pub invoke_late : (s s' : State) → s.turns ≡ 0 → store_of s' ≡ store_of s → s'.turns ≡ 0 → Goes here (Acting (Invoke a next)) s (Over (Halted act.OutOfTurns)) s'
  invoke_late s s' t back left = record {
    turns = omega (arith, t, left);
    runs = λ d le. late d ∙ (λ i. At (Halted act.OutOfTurns) (sym back i) (sym left i));
  } where
    late : (d : ℕ) → run here.world (env here d) (Invoke a next) (store_of s) s.turns ≡ At (Halted act.OutOfTurns) (store_of s) 0
    late zero = ap (λ n. run here.world (env here zero) (Invoke a next) (store_of s) n) t
    late (suc d) =
        let whole : act.Result → act.Result = λ r. call_then (store_of s) r (λ v u. run here.world (env here (suc d)) (next v u)) in
        ap (λ n. run here.world (env here (suc d)) (Invoke a next) (store_of s) n) t
        ∙ ap (λ o. whole (call_body true here.world (env here d) o a (store_of s) 0)) found

-- back in the caller's state
pub back_is : (s s1 s2 s3 b : State) → store_of s1 ≡ store_of s → s2.scope ≡ s1.scope → s2.this ≡ s1.this → s2.is_own ≡ s1.is_own → store_of s3 ≡ record (store_of s2) { globals = (store_of b).globals; calls = (store_of b).calls } → store_of s3 ≡ record (store_of s) { globals = (store_of b).globals; calls = (store_of b).calls }
back_is s s1 s2 s3 b same scope this own resumed =
    resumed
    ∙ (λ i. record { scope = reversed (map entry_meant (scope i).items) []; globals = (store_of b).globals; is_own = own i; this = option_map value_of (this i); calls = (store_of b).calls })
    ∙ ap (λ (st : Store). record { scope = st.scope; globals = (store_of b).globals; is_own = st.is_own; this = st.this; calls = (store_of b).calls }) same
