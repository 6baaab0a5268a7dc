-- Rounds of loops.
use Rattle.std.proofs.Common.{◌≡◌, ℕ, zero, suc, ◌≤◌, Result, Ok, Err, refl, ap, ◌∙◌, arith}
use Rattle.rhai_base.specs.declared.dynamic.Dynamic.{Dynamic}
use Rattle.rhai_base.specs.Value.{Value, UnitV}
use Rattle.theory_meaning.specs.Act as act
use Rattle.theory_meaning.specs.Act.{Again, Leaves, Outcome, Ended, At, Store, Act, Acts, Then, Loop, Scoped, and_then, on_again, rounds, run}
use Rattle.theory_meaning.specs.ActForms.{end_round, again_then}
use Rattle.run_state.specs.declared.state.Interrupt.{Interrupt}
use Rattle.run_state.specs.declared.state.Interrupt.TheVariants.{NoMemory, Return, Break, Continue, Throw, Stuck, OutOfTurns}
use Rattle.run_state.specs.declared.state.State.{State}
use Rattle.run_state.specs.Exits.{round_of, round_end}
use Rattle.run_state.specs.Runs.{Setting, Acting, Over, Goes, Stops, Leads, given, env}
use Rattle.run_state.specs.State.{store_of}
use Rattle.run_state.proofs.Goes.{goes_then, ending_goes, halted_then}

module _ (here : Setting) where
  -- how a body ends its round
  pub round_leads : (body : Acts) (s s1 : State) (r : Result Dynamic Interrupt) → Leads here (Acting (Scoped body)) s r s1 (λ v. given UnitV) → Leads here (Acting (Then (Scoped body) (λ e. end_round e))) s (round_of r) s1 (λ o. Over (Ended (round_end o)))
  round_leads body s s1 (Ok v) q = goes_then here (ending_goes here (λ e. end_round e) q) (record { turns = omega arith; runs = λ d le. refl })
  round_leads body s s1 (Err NoMemory) q = tt
  round_leads body s s1 (Err (Return v)) q = goes_then here (ending_goes here (λ e. end_round e) q) (record { turns = omega arith; runs = λ d le. refl })
  round_leads body s s1 (Err (Break v)) q = goes_then here (ending_goes here (λ e. end_round e) q) (record { turns = omega arith; runs = λ d le. refl })
  round_leads body s s1 (Err Continue) q = goes_then here (ending_goes here (λ e. end_round e) q) (record { turns = omega arith; runs = λ d le. refl })
  round_leads body s s1 (Err (Throw v)) q = goes_then here (ending_goes here (λ e. end_round e) q) (record { turns = omega arith; runs = λ d le. refl })
  round_leads body s s1 (Err (Stuck f)) q = halted_then here (λ e. end_round e) q
  round_leads body s s1 (Err OutOfTurns) q = halted_then here (λ e. end_round e) q

  -- what leaves the loop around leaves what would come after the round
  pub again_stops : (a next : Act) (s s1 : State) (x : Interrupt) → Stops here (Acting a) s x s1 → Stops here (Acting (Then a (λ e. again_then next e))) s x s1
  again_stops a next s s1 NoMemory q = tt
  again_stops a next s s1 (Return v) q = goes_then here (ending_goes here (λ e. again_then next e) q) (record { turns = omega arith; runs = λ d le. refl })
  again_stops a next s s1 (Break v) q = goes_then here (ending_goes here (λ e. again_then next e) q) (record { turns = omega arith; runs = λ d le. refl })
  again_stops a next s s1 Continue q = goes_then here (ending_goes here (λ e. again_then next e) q) (record { turns = omega arith; runs = λ d le. refl })
  again_stops a next s s1 (Throw v) q = goes_then here (ending_goes here (λ e. again_then next e) q) (record { turns = omega arith; runs = λ d le. refl })
  again_stops a next s s1 (Stuck f) q = halted_then here (λ e. again_then next e) q
  again_stops a next s s1 OutOfTurns q = halted_then here (λ e. again_then next e) q

  pub again_goes : (a next : Act) (s s1 : State) → Goes here (Acting a) s (Over (Ended (Leaves Again))) s1 → Goes here (Acting (Then a (λ e. again_then next e))) s (Acting next) s1
  again_goes a next s s1 q = ending_goes here (λ e. again_then next e) q

  pub again_ends : (a next : Act) (s s1 : State) (v : Value) → Goes here (Acting a) s (given v) s1 → Goes here (Acting (Then a (λ e. again_then next e))) s (given v) s1
  again_ends a next s s1 v q = goes_then here (ending_goes here (λ e. again_then next e) q) (record { turns = omega arith; runs = λ d le. refl })

  -- ---- rounds without an end

  module _ (a : Act) where
    abbrev once : ℕ → Store → ℕ → act.Result
    once d = run here.world (env here d) a

    -- the loop has come so far
    pub record LoopAt (s s' : State) : Type 0 where
      pub turns : s'.turns ≤ s.turns
      pub runs : (n d : ℕ) → s.turns ≤ n → s.turns ≤ d → (m : ℕ) × (s'.turns ≤ m) × (rounds n (once d) (store_of s) s.turns ≡ rounds m (once d) (store_of s') s'.turns)

    pub loop_start : (s : State) → LoopAt s s
    loop_start s = record { turns = omega arith; runs = λ n d le ld. (n, le, refl) }

    next_round : (s s1 : State) → Goes here (Acting a) s (Over (Ended (Leaves Again))) s1 → suc s1.turns ≤ s.turns → (n d : ℕ) → s.turns ≤ n → s.turns ≤ d → (m : ℕ) × (s1.turns ≤ m) × (rounds n (once d) (store_of s) s.turns ≡ rounds m (once d) (store_of s1) s1.turns)
    next_round s s1 q lt zero d le ld = absurd (omega arith)
    next_round s s1 q lt (suc n) d le ld = (n, omega arith, ap (λ r. and_then r (λ e. on_again e (λ st t. rounds n (once d) st t))) (q.runs d ld))

    pub loop_next : (s s1 s2 : State) → LoopAt s s1 → Goes here (Acting a) s1 (Over (Ended (Leaves Again))) s2 → suc s2.turns ≤ s1.turns → LoopAt s s2
    loop_next s s1 s2 p q lt = record {
      turns = omega (arith, p.turns, q.turns);
      runs = λ n d le ld.
          let k = p.runs n d le ld in
          let l = next_round s1 s2 q lt k.0 d k.1 (omega (arith, p.turns)) in
          (l.0, l.1, k.2 ∙ l.2);
    }

    -- an end that no round follows
    abbrev IsLast : Outcome → Type 0
    IsLast o = (next : Store → ℕ → act.Result) (st : Store) (t : ℕ) → and_then (At o st t) (λ e. on_again e next) ≡ At o st t

    last_round : (s s1 : State) (o : Outcome) → IsLast o → Goes here (Acting a) s (Over o) s1 → (n d : ℕ) → s.turns ≤ n → s.turns ≤ d → rounds n (once d) (store_of s) s.turns ≡ At o (store_of s1) s1.turns
    last_round s s1 o h q zero d le ld = ap (λ r. and_then r (λ e. on_again e (λ st t. At (act.Halted act.OutOfTurns) st t))) (q.runs d ld) ∙ h _ _ _
    last_round s s1 o h q (suc n) d le ld = ap (λ r. and_then r (λ e. on_again e (λ st t. rounds n (once d) st t))) (q.runs d ld) ∙ h _ _ _

    loop_over : (s s1 s2 : State) (o : Outcome) → IsLast o → LoopAt s s1 → Goes here (Acting a) s1 (Over o) s2 → Goes here (Acting (Loop a)) s (Over o) s2
    loop_over s s1 s2 o h p q = record {
      turns = omega (arith, p.turns, q.turns);
      runs = λ d le.
          let k = p.runs d d le le in
          k.2 ∙ last_round s1 s2 o h q k.0 d k.1 (omega (arith, p.turns));
    }

    pub loop_ends : (s s1 s2 : State) (v : Value) → LoopAt s s1 → Goes here (Acting a) s1 (given v) s2 → Goes here (Acting (Loop a)) s (given v) s2
    loop_ends s s1 s2 v p q = loop_over s s1 s2 _ (λ next st t. refl) p q

    pub loop_stops : (s s1 s2 : State) (x : Interrupt) → LoopAt s s1 → Stops here (Acting a) s1 x s2 → Stops here (Acting (Loop a)) s x s2
    loop_stops s s1 s2 NoMemory p q = tt
    loop_stops s s1 s2 (Return v) p q = loop_over s s1 s2 _ (λ next st t. refl) p q
    loop_stops s s1 s2 (Break v) p q = loop_over s s1 s2 _ (λ next st t. refl) p q
    loop_stops s s1 s2 Continue p q = loop_over s s1 s2 _ (λ next st t. refl) p q
    loop_stops s s1 s2 (Throw v) p q = loop_over s s1 s2 _ (λ next st t. refl) p q
    loop_stops s s1 s2 (Stuck f) p q = loop_over s s1 s2 _ (λ next st t. refl) p q
    loop_stops s s1 s2 OutOfTurns p q = loop_over s s1 s2 _ (λ next st t. refl) p q
