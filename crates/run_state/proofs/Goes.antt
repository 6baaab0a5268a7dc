-- What is left to do, step by step.
use Rattle.std.proofs.Common.{◌≡◌, ℕ, Bool, List, [], length, take, map, Option, Some, None, Result, Ok, Err, refl, sym, ap, subst, ◌∙◌, arith}
use Rattle.std.specs.Prelude.{IfSome, option_map}
use Rattle.std.proofs.lemmas.Option.{IfSome_then}
use Rattle.rhai_base.specs.declared.dynamic.Dynamic.{Dynamic}
use Rattle.rhai_base.specs.Reading.{value_of}
use Rattle.rhai_base.specs.Value.{Text, Value}
use Rattle.theory_meaning.specs.Act.{Store, Ending, Gives, Halt, IsStuck, WrongKind, OutOfTurns, Outcome, Ended, Halted, At, Act, Fail, Turn, Then, Acts, Scoped, and_then, inside, leave, with_turn, run, run_all}
use Rattle.theory_meaning.specs.ActForms.{give, value_then, each_value, ◌>>=◌, then_line, branch, choose, if_true, truth}
use Rattle.theory_meaning.specs.Control.{named}
use Rattle.theory_meaning.specs.Run.{reversed}
use Rattle.run_state.specs.declared.state.Interrupt.{Interrupt}
use Rattle.run_state.specs.declared.state.Interrupt.TheVariants.{Stuck}
use Rattle.run_state.specs.declared.state.State.{State}
use Rattle.run_host.specs.declared.report.Stuck.TheVariants as why
use Rattle.run_state.specs.Entries.{entry_meant}
use Rattle.run_state.specs.Evaluating.{or_stuck}
use Rattle.run_host.specs.Host.{call_meant}
use Rattle.run_state.specs.Runs as runs
use Rattle.run_state.specs.Runs.{Setting, Task, Acting, Listing, Over, Within, run_of, env, Goes, Leaving, Halting, stopped, stop_of, Stops, Leads, Runs, given}
use Rattle.run_state.specs.State.{store_of, named_in, outside, TakesTurn}
use Rattle.run_state.proofs.ValueAnswers.{or_stuck-ok, or_stuck-err}

module _ (here : Setting) where
  pub goes_on : (f : Task) (s : State) → Goes here f s f s
  goes_on f s = record { turns = omega arith; runs = λ d le. refl }

  pub goes_then : {f g h : Task} {s s1 s2 : State} → Goes here f s g s1 → Goes here g s1 h s2 → Goes here f s h s2
  goes_then p q = record { turns = omega (arith, p.turns, q.turns); runs = λ d le. p.runs d le ∙ q.runs d (omega (arith, p.turns)) }

  -- the same task under another name
  pub goes_as : (f g : Task) (s : State) → f ≡ g → Goes here f s g s
  goes_as f g s e = record { turns = omega arith; runs = λ d le. ap (λ h. run_of here h d (store_of s) s.turns) e }

  pub gives : (v w : Value) (s : State) → v ≡ w → Goes here (Acting (give v)) s (given w) s
  gives v w s e = record { turns = omega arith; runs = λ d le. ap (λ u. At (Ended (Gives u)) (store_of s) s.turns) e }

  -- what one step leads to, the whole leads to
  pub stops_then : {f g : Task} {s s1 : State} (s2 : State) (x : Interrupt) → Goes here f s g s1 → Stops here g s1 x s2 → Stops here f s x s2
  stops_then s2 x p q = IfSome_then (stop_of x) q (λ h k. goes_then p k)

  pub leads_then : {T : Type 0} {f g : Task} {s s1 : State} (s2 : State) (r : Result T Interrupt) (next : T → Task) → Goes here f s g s1 → Leads here g s1 r s2 next → Leads here f s r s2 next
  leads_then s2 (Ok v) next p q = goes_then p q
  leads_then s2 (Err x) next p q = stops_then s2 x p q

  -- an end by its kind
  pub stops_by : (f : Task) (s s1 : State) (x : Interrupt) (p : runs.Stop) → stop_of x ≡ Some p → Goes here f s (Over (stopped p)) s1 → Stops here f s x s1
  stops_by f s s1 x p e q = subst (λ o. IfSome o (λ h. Goes here f s (Over (stopped h)) s1)) (sym e) q

  -- a value of a kind that does not serve
  pub stuck_here : (a : Act) (s : State) → a ≡ Fail WrongKind → Stops here (Acting a) s (Stuck why.WrongKind) s
  stuck_here a s e = goes_then (goes_as (Acting a) (Acting (Fail WrongKind)) s (ap Acting e)) (record { turns = omega arith; runs = λ d le. refl })

  -- ---- an act, and what comes after it

  within_goes : {f g : Task} {s s1 : State} (old : Store) → Goes here f s g s1 → Goes here (Within old f) s (Within old g) s1
  within_goes old p = record { turns = p.turns; runs = λ d le. ap (leave old) (p.runs d le) }

  -- by how it ends
  pub ending_goes : {a : Act} {s s1 : State} {e : Ending} (next : Ending → Act) → Goes here (Acting a) s (Over (Ended e)) s1 → Goes here (Acting (Then a next)) s (Acting (next e)) s1
  ending_goes next p = record { turns = p.turns; runs = λ d le. ap (λ r. and_then r (λ e. run here.world (env here d) (next e))) (p.runs d le) }

  pub halted_then : {a : Act} {s s1 : State} {h : Halt} (next : Ending → Act) → Goes here (Acting a) s (Over (Halted h)) s1 → Goes here (Acting (Then a next)) s (Over (Halted h)) s1
  halted_then next p = record { turns = p.turns; runs = λ d le. ap (λ r. and_then r (λ e. run here.world (env here d) (next e))) (p.runs d le) }

  -- by its value
  pub value_goes : {a : Act} {s s1 : State} {v : Value} (next : Value → Act) → Goes here (Acting a) s (given v) s1 → Goes here (Acting (a >>= next)) s (Acting (next v)) s1
  value_goes next p = ending_goes (λ e. value_then next e) p

  stop_goes : (a : Act) (next : Value → Act) (s s1 : State) (p : runs.Stop) → Goes here (Acting a) s (Over (stopped p)) s1 → Goes here (Acting (a >>= next)) s (Over (stopped p)) s1
  stop_goes a next s s1 (Leaving x) q = record { turns = q.turns; runs = λ d le. ap (λ r. and_then r (λ e. run here.world (env here d) (value_then next e))) (q.runs d le) }
  stop_goes a next s s1 (Halting h) q = record { turns = q.turns; runs = λ d le. ap (λ r. and_then r (λ e. run here.world (env here d) (value_then next e))) (q.runs d le) }

  pub value_stops : (a : Act) (next : Value → Act) (s s1 : State) (x : Interrupt) → Stops here (Acting a) s x s1 → Stops here (Acting (a >>= next)) s x s1
  value_stops a next s s1 x q = IfSome_then (stop_of x) q (λ p k. stop_goes a next s s1 p k)

  -- in a list
  stop_line : (a : Act) (next : Value → Acts) (s s1 : State) (p : runs.Stop) → Goes here (Acting a) s (Over (stopped p)) s1 → Goes here (Listing (then_line a next)) s (Over (stopped p)) s1
  stop_line a next s s1 (Leaving x) q = record { turns = q.turns; runs = λ d le. ap (λ r. and_then r (λ e. run_all here.world (env here d) (each_value next e))) (q.runs d le) }
  stop_line a next s s1 (Halting h) q = record { turns = q.turns; runs = λ d le. ap (λ r. and_then r (λ e. run_all here.world (env here d) (each_value next e))) (q.runs d le) }

  pub line_goes : {a : Act} {s s1 : State} {v : Value} (next : Value → Acts) → Goes here (Acting a) s (given v) s1 → Goes here (Listing (then_line a next)) s (Listing (next v)) s1
  line_goes next q = record { turns = q.turns; runs = λ d le. ap (λ r. and_then r (λ e. run_all here.world (env here d) (each_value next e))) (q.runs d le) }

  pub line_stops : (a : Act) (next : Value → Acts) (s s1 : State) (x : Interrupt) → Stops here (Acting a) s x s1 → Stops here (Listing (then_line a next)) s x s1
  line_stops a next s s1 x q = IfSome_then (stop_of x) q (λ p k. stop_line a next s s1 p k)

  pub line_leads : (a : Act) (next : Value → Acts) (s s1 : State) (r : Result Dynamic Interrupt) → Runs here (Acting a) s r s1 → Leads here (Listing (then_line a next)) s r s1 (λ v. Listing (next (value_of v)))
  line_leads a next s s1 (Ok v) q = line_goes next q
  line_leads a next s s1 (Err x) q = line_stops a next s s1 x q

  -- ---- conditions

  pub if_goes : (a b : Act) (s : State) (v : Value) (c : Bool) → Ok c ≡ or_stuck (truth v) → Goes here (Acting (if_true v a b)) s (Acting (choose c a b)) s
  if_goes a b s v c e = goes_as _ _ s (ap (λ t. Acting (branch t a b)) (or_stuck-ok (truth v) c e))

  pub if_stops : (a b : Act) (s : State) (v : Value) (x : Interrupt) → Err x ≡ or_stuck (truth v) → Stops here (Acting (if_true v a b)) s x s
  if_stops a b s v x e =
      let p = or_stuck-err (truth v) x e in
      stops_by _ s s x (Halting (IsStuck WrongKind)) (ap stop_of p.1)
      (record { turns = omega arith; runs = λ d le. ap (λ t. run here.world (env here d) (branch t a b) (store_of s) s.turns) p.0 })

  -- ---- names

  -- a list inside ends
  leave_goes : (old : Store) (s s1 : State) (o : Outcome) → store_of s1 ≡ outside old (store_of s) → s1.turns ≡ s.turns → Goes here (Within old (Over o)) s (Over o) s1
  leave_goes old s s1 o h t = record { turns = omega (arith, t); runs = λ d le i. At o (sym h i) (sym t i) }

  within_leads : (old : Store) (f : Task) (s s1 s2 : State) (r : Result Dynamic Interrupt) (g : Dynamic → Value) → store_of s2 ≡ outside old (store_of s1) → s2.turns ≡ s1.turns → Leads here f s r s1 (λ v. given (g v)) → Leads here (Within old f) s r s2 (λ v. given (g v))
  within_leads old f s s1 s2 (Ok v) g h t q = goes_then (within_goes old q) (leave_goes old s1 s2 _ h t)
  within_leads old f s s1 s2 (Err x) g h t q = IfSome_then (stop_of x) q (λ p k. goes_then (within_goes old k) (leave_goes old s1 s2 _ h t))

  -- it began in the first state and was run from the second to the third one
  pub record Inside (s s1 s2 s3 : State) : Type 0 where
    pub begun : store_of s1 ≡ inside (store_of s)
    pub before : s1.turns ≡ s.turns
    pub left : store_of s3 ≡ outside (store_of s) (store_of s2)
    pub after : s3.turns ≡ s2.turns

  -- braces
  pub scoped_leads : (p : Acts) (s s1 s2 s3 : State) (r : Result Dynamic Interrupt) (g : Dynamic → Value) → Inside s s1 s2 s3 → Leads here (Listing p) s1 r s2 (λ v. given (g v)) → Leads here (Acting (Scoped p)) s r s3 (λ v. given (g v))
  scoped_leads p s s1 s2 s3 r g c q =
      let start : Goes here (Acting (Scoped p)) s (Within (store_of s) (Listing p)) s1 = record {
        turns = omega (arith, c.before);
        runs = λ d le i. leave (store_of s) (run_all here.world (env here d) p (sym c.begun i) (sym c.before i));
      } in
      leads_then s3 r (λ v. given (g v)) start (within_leads (store_of s) (Listing p) s1 s2 s3 r g c.left c.after q)

  pub named_goes : (x : Option Text) (v : Value) (p : Acts) (s s1 : State) → store_of s1 ≡ named_in x v (store_of s) → s1.turns ≡ s.turns → Goes here (Listing (named x v p)) s (Listing p) s1
  named_goes None v p s s1 e f = record { turns = omega (arith, f); runs = λ d le i. run_all here.world (env here d) p (sym e i) (sym f i) }
  named_goes (Some x) v p s s1 e f = record { turns = omega (arith, f); runs = λ d le i. run_all here.world (env here d) p (sym e i) (sym f i) }

  -- ---- turns

  pub turn_goes : (a : Act) (s s1 : State) (u : Unit) → TakesTurn s (Ok u) s1 → Goes here (Acting (Turn a)) s (Acting a) s1
  turn_goes a s s1 u h = record {
    turns = omega (arith, h.0);
    runs = λ d le. ap (λ n. with_turn n (store_of s) (run here.world (env here d) a)) h.0 ∙ ap (λ st. run here.world (env here d) a st s1.turns) (sym h.1);
  }

  pub turn_stops : (a : Act) (s s1 : State) (x : Interrupt) → TakesTurn s (Err x) s1 → Stops here (Acting (Turn a)) s x s1
  turn_stops a s s1 x h =
      stops_by _ s s1 x (Halting OutOfTurns) (ap stop_of h.0)
      (record { turns = omega (arith, h.2); runs = λ d le. ap (λ n. with_turn n (store_of s) (run here.world (env here d) a)) h.1 ∙ (λ i. At (Halted OutOfTurns) (sym h.3 i) (sym h.2 i)) })
