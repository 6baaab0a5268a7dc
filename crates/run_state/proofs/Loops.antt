-- Loops by their rounds.
use Rattle.std.proofs.Common.{◌≡◌, ◌<◌, Bool, true, false, Option, Some, None, Result, Ok, Err, refl, sym, ap, ◌∙◌, subst, arith}
use Rattle.std.specs.Prelude.{IfOk}
use Rattle.rhai_base.specs.declared.dynamic.Dynamic.{Dynamic}
use Rattle.rhai_base.specs.declared.dynamic.Dynamic.TheVariants as value
use Rattle.rhai_base.specs.Reading.{value_of, value_of-Unit}
use Rattle.rhai_base.specs.Value.{Value, UnitV}
use Rattle.theory_meaning.specs.Act.{Again, Leaves, Ended, Act, Acts, Stop, Then, Loop, Scoped}
use Rattle.theory_meaning.specs.ActForms.{unit, choose, if_true, truth, end_round, again_then, ◌>>=◌}
use Rattle.theory_meaning.specs.Control.{round, do_loop}
use Rattle.theory_meaning.specs.Core as core
use Rattle.theory_meaning.specs.Desugar.{guard_by}
use Rattle.theory_meaning.specs.Meaning.{act}
use Rattle.theory_meaning.specs.Queries.{is_unit}
use Rattle.theory_meaning.specs.Tree as tree
use Rattle.run_state.specs.declared.state.Interrupt.{Interrupt}
use Rattle.run_state.specs.declared.state.Interrupt.TheVariants.{NoMemory, Return, Break, Continue, Throw, Stuck, OutOfTurns}
use Rattle.run_state.specs.declared.state.State.{State}
use Rattle.run_state.specs.Evaluating.{or_stuck, RunsCore, RunsDeed, RunsRound}
use Rattle.run_state.specs.Exits.{round_of, round_end}
use Rattle.run_state.specs.Runs.{Setting, Acting, Over, Goes, Stops, Leads, given}
use Rattle.run_state.specs.State.{GoesOn, TakesTurn}
use Rattle.run_state.proofs.Goes.{gives, goes_as, goes_then, stops_then, leads_then, turn_goes, turn_stops, value_goes, value_stops, if_goes, if_stops}
use Rattle.run_state.proofs.Rounds.{round_leads, again_stops, again_goes, again_ends, LoopAt, loop_next, loop_ends, loop_stops}

-- ---- guards

guard_when : (e : tree.Expr) → is_unit e ≡ false → (x : core.Expr) → guard_by e x ≡ core.When x
guard_when tree.UnitConstant h x = absurd (let z : true ≡ false = h in cc)
guard_when _ h x = refl

guard_always : (e : tree.Expr) → is_unit e ≡ true → (x : core.Expr) → guard_by e x ≡ core.Always
guard_always tree.UnitConstant h x = refl
guard_always _ h x = absurd (let z : false ≡ true = h in cc)

module _ (here : Setting) where
  -- ---- a round

  module _ (p : Acts) (s s1 s2 : State) (u : Unit) (r : Result Dynamic Interrupt) (t : TakesTurn s (Ok u) s1) (q : Leads here (Acting (Scoped p)) s1 r s2 (λ v. given UnitV)) where
    pub round_runs : (o : Result (Option Dynamic) Interrupt) → o ≡ round_of r → RunsRound here p s o s2
    round_runs o e =
        leads_then here s2 o (λ x. Over (Ended (round_end x))) (turn_goes here (Then (Scoped p) (λ y. end_round y)) s s1 u t)
        (subst (λ x. Leads here (Acting (Then (Scoped p) (λ y. end_round y))) s1 x s2 (λ y. Over (Ended (round_end y)))) (sym e) (round_leads here p s1 s2 r q))

  round_falls : (s s1 s2 : State) (u : Unit) (p : Acts) (r : Result Dynamic Interrupt) → TakesTurn s (Ok u) s1 → Leads here (Acting (Scoped p)) s1 r s2 (λ v. given UnitV) → IfOk (round_of r) (λ o. s2.turns < s.turns)
  round_falls s s1 s2 u p (Ok v) t q = omega (arith, t.0, q.turns)
  round_falls s s1 s2 u p (Err Continue) t q = omega (arith, t.0, q.turns)
  round_falls s s1 s2 u p (Err (Break v)) t q = omega (arith, t.0, q.turns)
  round_falls s s1 s2 u p (Err NoMemory) t q = tt
  round_falls s s1 s2 u p (Err (Return v)) t q = tt
  round_falls s s1 s2 u p (Err (Throw v)) t q = tt
  round_falls s s1 s2 u p (Err (Stuck f)) t q = tt
  round_falls s s1 s2 u p (Err OutOfTurns) t q = tt

  -- each round takes a turn
  pub round_turns : (p : Acts) (s s1 s2 : State) (u : Unit) (r : Result Dynamic Interrupt) (o : Result (Option Dynamic) Interrupt) → TakesTurn s (Ok u) s1 → Leads here (Acting (Scoped p)) s1 r s2 (λ v. given UnitV) → o ≡ round_of r → IfOk o (λ x. s2.turns < s.turns)
  round_turns p s s1 s2 u r o t q e = subst (λ y. IfOk y (λ x. s2.turns < s.turns)) (sym e) (round_falls s s1 s2 u p r t q)

  -- ---- `loop`

  module _ (p : Acts) (s s1 s2 : State) (k : LoopAt here (round p) s s1) where
    pub endless_stops : (x : Interrupt) → RunsRound here p s1 (Err x) s2 → Stops here (Acting (Loop (round p))) s x s2
    endless_stops x q = loop_stops here (round p) s s1 s2 x k q

    pub endless_ends : (v : Dynamic) → RunsRound here p s1 (Ok (Some v)) s2 → Goes here (Acting (Loop (round p))) s (given (value_of v)) s2
    endless_ends v q = loop_ends here (round p) s s1 s2 (value_of v) k q

    pub endless_next : RunsRound here p s1 (Ok None) s2 → s2.turns < s1.turns → LoopAt here (round p) s s2
    endless_next q lt = loop_next here (round p) s s1 s2 k q (omega (arith, lt))

  -- ---- `while`

  abbrev pub guarded_round : core.Expr → Acts → Act
  guarded_round e p = act here.world e >>= λ v. if_true v (round p) unit

  module _ (e : core.Expr) (p : Acts) (s s1 s2 : State) (k : LoopAt here (guarded_round e p) s s1) where
    pub while_stops : (x : Interrupt) → RunsCore here e s1 (Err x) s2 → Stops here (Acting (Loop (guarded_round e p))) s x s2
    while_stops x q = loop_stops here (guarded_round e p) s s1 s2 x k (value_stops here (act here.world e) (λ v. if_true v (round p) unit) s1 s2 x q)

    module _ (v : Dynamic) (q : RunsCore here e s1 (Ok v) s2) where
      pub while_stuck : (x : Interrupt) → Err x ≡ or_stuck (truth (value_of v)) → Stops here (Acting (Loop (guarded_round e p))) s x s2
      while_stuck x t = loop_stops here (guarded_round e p) s s1 s2 x k (stops_then here s2 x (value_goes here (λ u. if_true u (round p) unit) q) (if_stops here (round p) unit s2 (value_of v) x t))

      holds : (c : Bool) → Ok c ≡ or_stuck (truth (value_of v)) → Goes here (Acting (guarded_round e p)) s1 (Acting (choose c (round p) unit)) s2
      holds c t = goes_then here (value_goes here (λ u. if_true u (round p) unit) q) (if_goes here (round p) unit s2 (value_of v) c t)

      pub while_over : (c : Bool) → Ok c ≡ or_stuck (truth (value_of v)) → c ≡ false → Goes here (Acting (Loop (guarded_round e p))) s (given (value_of value.Unit)) s2
      while_over c t f =
          loop_ends here (guarded_round e p) s s1 s2 (value_of value.Unit) k
          (goes_then here (holds c t) (goes_then here (goes_as here _ _ s2 (ap (λ b. Acting (choose b (round p) unit)) f)) (gives here _ _ s2 (sym value_of-Unit))))

      module _ (s3 : State) (c : Bool) (t : Ok c ≡ or_stuck (truth (value_of v))) (f : c ≡ true) where
        to_round : Goes here (Acting (guarded_round e p)) s1 (Acting (round p)) s2
        to_round = goes_then here (holds c t) (goes_as here _ _ s2 (ap (λ b. Acting (choose b (round p) unit)) f))

        pub while_leaves : (x : Interrupt) → RunsRound here p s2 (Err x) s3 → Stops here (Acting (Loop (guarded_round e p))) s x s3
        while_leaves x r = loop_stops here (guarded_round e p) s s1 s3 x k (stops_then here s3 x to_round r)

        pub while_ends : (w : Dynamic) → RunsRound here p s2 (Ok (Some w)) s3 → Goes here (Acting (Loop (guarded_round e p))) s (given (value_of w)) s3
        while_ends w r = loop_ends here (guarded_round e p) s s1 s3 (value_of w) k (goes_then here to_round r)

        pub while_next : RunsRound here p s2 (Ok None) s3 → s3.turns < s2.turns → LoopAt here (guarded_round e p) s s3
        while_next r lt = loop_next here (guarded_round e p) s s1 s3 k (goes_then here to_round r) (omega (arith, lt, q.turns))

  -- the turn after the guard

  went : (c b : Bool) (s s1 : State) → GoesOn c s (Ok b) s1 → b ≡ true → (c ≡ true) × TakesTurn s (Ok (tt {0})) s1
  went true b s s1 g h = (refl, g.1)
  went false b s s1 g h = absurd (let z : true ≡ false = sym h ∙ g.0 in cc)

  stayed : (c b : Bool) (s s1 : State) → GoesOn c s (Ok b) s1 → b ≡ false → (c ≡ false) × (s1 ≡ s)
  stayed true b s s1 g h = absurd (let z : true ≡ false = sym g.0 ∙ h in cc)
  stayed false b s s1 g h = (refl, g.1)

  late : (c : Bool) (s s1 : State) (x : Interrupt) → GoesOn c s (Err x) s1 → (c ≡ true) × TakesTurn s (Err x) s1
  late true s s1 x g = (refl, g)
  late false s s1 x g = absurd g

  module _ (e : core.Expr) (p : Acts) (s s1 s2 : State) (k : LoopAt here (guarded_round e p) s s1) (v : Dynamic) (q : RunsCore here e s1 (Ok v) s2) (c : Bool) (t : Ok c ≡ or_stuck (truth (value_of v))) (s3 : State) where
    pub guard_late : (x : Interrupt) → GoesOn c s2 (Err x) s3 → Stops here (Acting (Loop (guarded_round e p))) s x s3
    guard_late x g = let l = late c s2 s3 x g in
        while_leaves e p s s1 s2 k v q s3 c t l.0 x (turn_stops here (Then (Scoped p) (λ y. end_round y)) s2 s3 x l.1)

    module _ (b : Bool) (g : GoesOn c s2 (Ok b) s3) where
      pub guard_over : b ≡ false → Goes here (Acting (Loop (guarded_round e p))) s (given (value_of value.Unit)) s3
      guard_over h = let l = stayed c b s2 s3 g h in
          subst (λ x. Goes here (Acting (Loop (guarded_round e p))) s (given (value_of value.Unit)) x) (sym l.1) (while_over e p s s1 s2 k v q c t l.0)

      module _ (s4 : State) (r : Result Dynamic Interrupt) (h : b ≡ true) (a : Leads here (Acting (Scoped p)) s3 r s4 (λ w. given UnitV)) where
        guard_round : (o : Result (Option Dynamic) Interrupt) → o ≡ round_of r → RunsRound here p s2 o s4
        guard_round o f = round_runs p s2 s3 s4 (tt {0}) r (went c b s2 s3 g h).1 a o f

        pub guard_leaves : (x : Interrupt) → Err x ≡ round_of r → Stops here (Acting (Loop (guarded_round e p))) s x s4
        guard_leaves x f = while_leaves e p s s1 s2 k v q s4 c t (went c b s2 s3 g h).0 x (guard_round (Err x) f)

        pub guard_ends : (w : Dynamic) → Ok (Some w) ≡ round_of r → Goes here (Acting (Loop (guarded_round e p))) s (given (value_of w)) s4
        guard_ends w f = while_ends e p s s1 s2 k v q s4 c t (went c b s2 s3 g h).0 w (guard_round (Ok (Some w)) f)

        pub guard_falls : Ok None ≡ round_of r → s4.turns < s1.turns
        guard_falls f = omega (arith, round_turns p s2 s3 s4 (tt {0}) r (Ok None) (went c b s2 s3 g h).1 a f, q.turns)

        pub guard_next : Ok None ≡ round_of r → LoopAt here (guarded_round e p) s s4
        guard_next f = while_next e p s s1 s2 k v q s4 c t (went c b s2 s3 g h).0 (guard_round (Ok None) f) (round_turns p s2 s3 s4 (tt {0}) r (Ok None) (went c b s2 s3 g h).1 a f)

  -- by the guard as it is written
  module _ (e : tree.Expr) (x : core.Expr) (ss : core.Stmts) (s s1 : State) (r : Result Dynamic Interrupt) where
    pub loop_always : is_unit e ≡ true → RunsDeed here (core.While core.Always ss) s r s1 → RunsDeed here (core.While (guard_by e x) ss) s r s1
    loop_always h q = subst (λ g. RunsDeed here (core.While g ss) s r s1) (sym (guard_always e h x)) q

    pub loop_when : is_unit e ≡ false → RunsDeed here (core.While (core.When x) ss) s r s1 → RunsDeed here (core.While (guard_by e x) ss) s r s1
    loop_when h q = subst (λ g. RunsDeed here (core.While g ss) s r s1) (sym (guard_when e h x)) q

  -- ---- `do`

  again : Act
  again = Stop (Leaves Again)

  -- by the condition's value
  abbrev pub after_round : Bool → Value → Act
  after_round until v = if_true v (choose until unit (Stop (Leaves Again))) (choose until (Stop (Leaves Again)) unit)

  abbrev pub do_round : Bool → core.Expr → Acts → Act
  do_round until e p = Then (round p) (λ y. again_then (act here.world e >>= after_round until) y)

  pub do_is : (until : Bool) (e : core.Expr) (p : Acts) → Loop (do_round until e p) ≡ do_loop until p (act here.world e)
  do_is true e p = refl
  do_is false e p = refl

  module _ (until : Bool) (e : core.Expr) (p : Acts) (s s1 s2 : State) (k : LoopAt here (do_round until e p) s s1) where
    abbrev guard_act : Act
    guard_act = act here.world e >>= after_round until

    abbrev whole : Act
    whole = do_loop until p (act here.world e)

    stops_whole : (x : Interrupt) (s' : State) → Stops here (Acting (Loop (do_round until e p))) s x s' → Stops here (Acting whole) s x s'
    stops_whole x s' q = stops_then here s' x (goes_as here _ _ s (ap Acting (sym (do_is until e p)))) q

    ends_whole : (v : Value) (s' : State) → Goes here (Acting (Loop (do_round until e p))) s (given v) s' → Goes here (Acting whole) s (given v) s'
    ends_whole v s' q = goes_then here (goes_as here _ _ s (ap Acting (sym (do_is until e p)))) q

    pub do_stops : (x : Interrupt) → RunsRound here p s1 (Err x) s2 → Stops here (Acting whole) s x s2
    do_stops x q = stops_whole x s2 (loop_stops here (do_round until e p) s s1 s2 x k (again_stops here (round p) guard_act s1 s2 x q))

    pub do_ends : (v : Dynamic) → RunsRound here p s1 (Ok (Some v)) s2 → Goes here (Acting whole) s (given (value_of v)) s2
    do_ends v q = ends_whole (value_of v) s2 (loop_ends here (do_round until e p) s s1 s2 (value_of v) k (again_ends here (round p) guard_act s1 s2 (value_of v) q))

    module _ (q : RunsRound here p s1 (Ok None) s2) (s3 : State) where
      to_guard : Goes here (Acting (do_round until e p)) s1 (Acting guard_act) s2
      to_guard = again_goes here (round p) guard_act s1 s2 q

      pub do_guard_stops : (x : Interrupt) → RunsCore here e s2 (Err x) s3 → Stops here (Acting whole) s x s3
      do_guard_stops x g = stops_whole x s3 (loop_stops here (do_round until e p) s s1 s3 x k (stops_then here s3 x to_guard (value_stops here (act here.world e) (after_round until) s2 s3 x g)))

      module _ (v : Dynamic) (g : RunsCore here e s2 (Ok v) s3) where
        pub do_guard_stuck : (x : Interrupt) → Err x ≡ or_stuck (truth (value_of v)) → Stops here (Acting whole) s x s3
        do_guard_stuck x t = stops_whole x s3 (loop_stops here (do_round until e p) s s1 s3 x k (stops_then here s3 x to_guard (stops_then here s3 x (value_goes here (after_round until) g) (if_stops here _ _ s3 (value_of v) x t))))

        decided : (c : Bool) → Ok c ≡ or_stuck (truth (value_of v)) → Goes here (Acting (do_round until e p)) s1 (Acting (choose c (choose until unit again) (choose until again unit))) s3
        unfolding again
        decided c t = goes_then here to_guard (goes_then here (value_goes here (after_round until) g) (if_goes here _ _ s3 (value_of v) c t))

        over : (c b : Bool) → c ≡ b → choose c (choose b unit again) (choose b again unit) ≡ unit
        over true true h = refl
        over false false h = refl
        over true false h = absurd cc
        over false true h = absurd cc

        not_over : (c b : Bool) → (c ≡ b → ⊥) → choose c (choose b unit again) (choose b again unit) ≡ again
        not_over true true h = absurd (h refl)
        not_over false false h = absurd (h refl)
        not_over true false h = refl
        not_over false true h = refl

        pub do_over : (c : Bool) → Ok c ≡ or_stuck (truth (value_of v)) → c ≡ until → Goes here (Acting whole) s (given (value_of value.Unit)) s3
        do_over c t h = ends_whole (value_of value.Unit) s3 (loop_ends here (do_round until e p) s s1 s3 (value_of value.Unit) k (goes_then here (decided c t) (goes_then here (goes_as here _ _ s3 (ap Acting (over c until h))) (gives here _ _ s3 (sym value_of-Unit)))))

        pub do_next : (c : Bool) → Ok c ≡ or_stuck (truth (value_of v)) → (c ≡ until → ⊥) → s2.turns < s1.turns → LoopAt here (do_round until e p) s s3
        unfolding again
        do_next c t h lt = loop_next here (do_round until e p) s s1 s3 k (goes_then here (decided c t) (goes_then here (goes_as here _ _ s3 (ap Acting (not_over c until h))) (record { turns = omega arith; runs = λ d le. refl }))) (omega (arith, lt, g.turns))
