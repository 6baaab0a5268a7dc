-- Rounds of a `for`, over the elements of an array or over a range.
use Rattle.std.proofs.Common.{◌≡◌, ℕ, suc, ◌≤◌, ◌<◌, ℤ, pos, ◌+ℤ◌, ◌-ℤ◌, ◌-◌, ◌+◌, Bool, List, [], ◌∷◌, map, length, Option, Some, None, Result, Ok, Err, refl, sym, ap, ◌∙◌, arith}
use Rattle.std.proofs.lemmas.Int.{ints}
use Rattle.rhai_base.specs.declared.dynamic.Dynamic.{Dynamic}
use Rattle.rhai_base.specs.declared.dynamic.Dynamic.TheVariants as value
use Rattle.rhai_base.specs.Reading.{value_of, value_of-Array, value_of-Range, value_of-RangeInclusive, value_of-Unit, DynamicCase, array_case, range_case, range_inclusive_case, dynamic_cases}
use Rattle.rhai_base.specs.Value.{Text, Value, UnitV, IntV, ArrayV, items, values}
use Rattle.theory_meaning.specs.Desugar.{core_expr}
use Rattle.theory_meaning.specs.Act.{IsVariable, Acts, Named, Act, Fail, Then, WrongKind}
use Rattle.theory_meaning.specs.ActForms.{again_then, ◌>>=◌}
use Rattle.theory_meaning.specs.Control.{counted, for_all, for_count, for_each, round, size}
use Rattle.theory_meaning.specs.Meaning.{act}
use Rattle.theory_meaning.specs.Tree as tree
use Rattle.run_state.specs.declared.state.Interrupt.{Interrupt}
use Rattle.run_state.specs.declared.state.Interrupt.TheVariants.{Stuck}
use Rattle.run_state.specs.declared.state.State.{State}
use Rattle.run_host.specs.declared.report.Stuck.TheVariants as why
use Rattle.run_state.specs.Evaluating.{RunsCounted, RunsExpr, RunsList, RunsRound}
use Rattle.run_state.specs.Exits.{count_of, round_of}
use Rattle.run_state.specs.Runs.{Setting, Acting, Goes, Stops, Runs, given}
use Rattle.run_state.specs.State.{named_in, store_of, TakesTurn}
use Rattle.run_state.proofs.Goes.{gives, goes_as, goes_then, leads_then, stops_then, named_goes, scoped_leads, stuck_here, value_goes, Inside}
use Rattle.run_state.proofs.Loops.{round_runs}
use Rattle.run_state.proofs.Rounds.{again_stops, again_goes, again_ends}
use Rattle.rhai_base.proofs.OtherKinds.{NoItems}

pub items_values : (vs : List Value) → items (values vs) ≡ vs
items_values [] = refl
items_values (v ∷ vs) = ap (λ us. v ∷ us) (items_values vs)

-- ---- counts

pub count_start : Some (pos 0) ≡ count_of 0
count_start = refl

module _ (here : Setting) where
  module _ (x : Text) (c : Option Text) (p : Acts) where
    abbrev round_over : ℕ → Value → Acts
    round_over k v = counted c k (Named x IsVariable v p)

    -- ---- arrays

    abbrev pub each_of : ℕ → List Dynamic → Act
    each_of k vs = for_each x c p k (map value_of vs)

    -- the loop has come so far
    pub record EachAt (vs rest : List Dynamic) (count : Option ℤ) (s s' : State) : Type 0 where
      pub k : ℕ
      pub count_is : count ≡ count_of k
      pub so : Goes here (Acting (each_of 0 vs)) s (Acting (each_of k rest)) s'

    module _ (vs rest after : List Dynamic) (v : Dynamic) (count : Option ℤ) (s s1 s2 : State) (h : rest ≡ v ∷ after) (at : EachAt vs rest count s s1) where
      each_here : Goes here (Acting (each_of 0 vs)) s (Acting (Then (round (round_over at.k (value_of v))) (λ e. again_then (each_of (suc at.k) after) e))) s1
      each_here = goes_then here at.so (goes_as here _ _ s1 (ap (λ l. Acting (each_of at.k l)) h))

      pub each_stops : (y : Interrupt) → ((k : ℕ) → count ≡ count_of k → RunsRound here (round_over k (value_of v)) s1 (Err y) s2) → Stops here (Acting (each_of 0 vs)) s y s2
      each_stops y q = stops_then here s2 y each_here (again_stops here _ _ s1 s2 y (q at.k at.count_is))

      pub each_ends : (w : Dynamic) → ((k : ℕ) → count ≡ count_of k → RunsRound here (round_over k (value_of v)) s1 (Ok (Some w)) s2) → Goes here (Acting (each_of 0 vs)) s (given (value_of w)) s2
      each_ends w q = goes_then here each_here (again_ends here _ _ s1 s2 (value_of w) (q at.k at.count_is))

      pub each_next : (count' : Option ℤ) → ((k : ℕ) → count ≡ count_of k → RunsRound here (round_over k (value_of v)) s1 (Ok None) s2) → ((k : ℕ) → count ≡ count_of k → count' ≡ count_of (suc k)) → EachAt vs after count' s s2
      each_next count' q n = record { k = suc at.k; count_is = n at.k at.count_is; so = goes_then here each_here (again_goes here _ _ s1 s2 (q at.k at.count_is)) }

    pub array_goes : (vs : List Dynamic) (s : State) → Goes here (Acting (for_all x c p (ArrayV (values (map value_of vs))))) s (Acting (each_of 0 vs)) s
    array_goes vs s = goes_as here _ _ s (ap (λ l. Acting (for_each x c p 0 l)) (items_values (map value_of vs)))

    -- ---- ranges

    abbrev pub range_of : ℤ → ℕ → Act
    range_of a n = for_count x c p 0 a n

    -- so many rounds are over
    pub record CountAt (a : ℤ) (n i : ℕ) (count : Option ℤ) (s s' : State) : Type 0 where
      pub k : ℕ
      pub count_is : count ≡ count_of k
      pub so : Goes here (Acting (range_of a n)) s (Acting (for_count x c p k (a +ℤ pos i) (n - i))) s'

    pub range_start : (a : ℤ) (n : ℕ) (s : State) → CountAt a n 0 (Some (pos 0)) s s
    range_start a n s = record { k = 0; count_is = count_start; so = goes_as here _ _ s (λ j. Acting (for_count x c p 0 (from_zero a j) (all_left n j))) } where
      from_zero : (b : ℤ) → b ≡ b +ℤ pos 0
      from_zero b = omega (arith, ints)

      all_left : (m : ℕ) → m ≡ m - 0
      all_left m = omega arith

    module _ (a : ℤ) (n i : ℕ) (v : Dynamic) (count : Option ℤ) (s s1 s2 : State) (lt : i < n) (is : value_of v ≡ IntV (a +ℤ pos i)) (at : CountAt a n i count s s1) where
      one_less : n - i ≡ suc (n - (i + 1))
      one_less = omega (arith, lt)

      one_on : a +ℤ pos i +ℤ pos 1 ≡ a +ℤ pos (i + 1)
      one_on = omega (arith, ints)

      range_here : Goes here (Acting (range_of a n)) s (Acting (Then (round (round_over at.k (value_of v))) (λ e. again_then (for_count x c p (suc at.k) (a +ℤ pos (i + 1)) (n - (i + 1))) e))) s1
      range_here =
          goes_then here at.so (goes_then here (goes_as here _ _ s1 (ap (λ m. Acting (for_count x c p at.k (a +ℤ pos i) m)) one_less))
          (goes_as here _ _ s1 (λ j. Acting (Then (round (round_over at.k (sym is j))) (λ e. again_then (for_count x c p (suc at.k) (one_on j) (n - (i + 1))) e)))))

      pub range_stops : (y : Interrupt) → ((k : ℕ) → count ≡ count_of k → RunsRound here (round_over k (value_of v)) s1 (Err y) s2) → Stops here (Acting (range_of a n)) s y s2
      range_stops y q = stops_then here s2 y range_here (again_stops here _ _ s1 s2 y (q at.k at.count_is))

      pub range_ends : (w : Dynamic) → ((k : ℕ) → count ≡ count_of k → RunsRound here (round_over k (value_of v)) s1 (Ok (Some w)) s2) → Goes here (Acting (range_of a n)) s (given (value_of w)) s2
      range_ends w q = goes_then here range_here (again_ends here _ _ s1 s2 (value_of w) (q at.k at.count_is))

      pub range_next : (count' : Option ℤ) → ((k : ℕ) → count ≡ count_of k → RunsRound here (round_over k (value_of v)) s1 (Ok None) s2) → ((k : ℕ) → count ≡ count_of k → count' ≡ count_of (suc k)) → CountAt a n (i + 1) count' s s2
      range_next count' q m = record { k = suc at.k; count_is = m at.k at.count_is; so = goes_then here range_here (again_goes here _ _ s1 s2 (q at.k at.count_is)) }

    pub range_end : (a : ℤ) (n i : ℕ) (count : Option ℤ) (s s1 : State) → n ≤ i → CountAt a n i count s s1 → Goes here (Acting (range_of a n)) s (given (value_of value.Unit)) s1
    range_end a n i count s s1 h at = goes_then here at.so (goes_then here (goes_as here _ _ s1 (ap (λ m. Acting (for_count x c p at.k (a +ℤ pos i) m)) (none_left n i h))) (gives here _ _ s1 (sym value_of-Unit))) where
      none_left : (m j : ℕ) → m ≤ j → m - j ≡ 0
      none_left m j le = omega (arith, le)

    -- ---- what is iterated over, by its kind

    module _ (loop : Bool) (e : tree.Expr) (s s1 s2 : State) (v : Dynamic) (r : Result Dynamic Interrupt) (q : RunsExpr here loop e s (Ok v) s1) where
      abbrev for_act : Act
      for_act = act here.world (core_expr loop e) >>= λ u. for_all x c p u

      over : (w : Value) → value_of v ≡ w → Goes here (Acting for_act) s (Acting (for_all x c p w)) s1
      over w h = goes_then here (value_goes here (λ u. for_all x c p u) q) (goes_as here _ _ s1 (ap (λ u. Acting (for_all x c p u)) h))

      other_kind : {u : Dynamic} {w : Value} → DynamicCase u w → NoItems u → ((a b : ℤ) → u ≡ value.Range a b → ⊥) → ((a b : ℤ) → u ≡ value.RangeInclusive a b → ⊥) → for_all x c p w ≡ Fail WrongKind
      other_kind (array_case vs) h f g = absurd (h vs refl)
      other_kind (range_case a b) h f g = absurd (f a b refl)
      other_kind (range_inclusive_case a b) h f g = absurd (g a b refl)
      other_kind _ h f g = refl

      pub for_other : NoItems v → ((a b : ℤ) → v ≡ value.Range a b → ⊥) → ((a b : ℤ) → v ≡ value.RangeInclusive a b → ⊥) → Runs here (Acting for_act) s (Err (Stuck why.WrongKind)) s1
      for_other h f g = stops_then here s1 (Stuck why.WrongKind) (over (value_of v) refl) (stuck_here here _ s1 (other_kind (dynamic_cases v) h f g))

      pub for_array : (items : List Dynamic) → v ≡ value.Array items → Runs here (Acting (each_of 0 items)) s1 r s2 → Runs here (Acting for_act) s r s2
      for_array items h k = leads_then here s2 r (λ u. given (value_of u)) (goes_then here (over _ (ap value_of h ∙ value_of-Array items)) (array_goes items s1)) k

      pub for_range : (a b : ℤ) (n : ℕ) → n ≡ size (b -ℤ a) → v ≡ value.Range a b → Runs here (Acting (range_of a n)) s1 r s2 → Runs here (Acting for_act) s r s2
      for_range a b n m h k = leads_then here s2 r (λ u. given (value_of u)) (goes_then here (over _ (ap value_of h ∙ value_of-Range a b)) (goes_as here _ _ s1 (ap (λ l. Acting (range_of a l)) (sym m)))) k

      pub for_closed_range : (a b : ℤ) (n : ℕ) → n ≡ size (b +ℤ pos 1 -ℤ a) → v ≡ value.RangeInclusive a b → Runs here (Acting (range_of a n)) s1 r s2 → Runs here (Acting for_act) s r s2
      for_closed_range a b n m h k = leads_then here s2 r (λ u. given (value_of u)) (goes_then here (over _ (ap value_of h ∙ value_of-RangeInclusive a b)) (goes_as here _ _ s1 (ap (λ l. Acting (range_of a l)) (sym m)))) k

  -- ---- a round, and its body

  pub for_round_runs : (p : Acts) (s s1 s2 s3 s4 : State) (u : Unit) (ended : Result Dynamic Interrupt) (o : Result (Option Dynamic) Interrupt) → TakesTurn s (Ok u) s1 → Inside here s1 s2 s3 s4 → RunsList here p s2 ended s3 → o ≡ round_of ended → RunsRound here p s o s4
  for_round_runs p s s1 s2 s3 s4 u ended o t c q e = round_runs here p s s1 s4 u ended t (scoped_leads here p s1 s2 s3 s4 ended (λ v. UnitV) c q) o e

  pub for_body_runs : (i : Option Text) (x : Text) (k : ℕ) (v : Dynamic) (p : Acts) (s s1 s2 s3 : State) (u : Unit) (r : Result Dynamic Interrupt) → RunsCounted here i k s (Ok u) s1 → store_of s2 ≡ named_in (Some x) (value_of v) (store_of s1) → s2.turns ≡ s1.turns → RunsList here p s2 r s3 → RunsList here (counted i k (Named x IsVariable (value_of v) p)) s r s3
  for_body_runs i x k v p s s1 s2 s3 u r q h t l = leads_then here s3 r (λ w. given UnitV) (goes_then here (q (Named x IsVariable (value_of v) p)) (named_goes here (Some x) (value_of v) p s1 s2 h t)) l
