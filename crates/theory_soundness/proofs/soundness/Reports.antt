-- The theorem over stores in the words of reports.
use Rattle.std.proofs.Common.{◌≡◌, ◌≤◌, ℕ, true, false, ◌⊎◌, inl, inr, refl, sym, ap, ◌∙◌, subst}
use Rattle.theory_meaning.specs.Act.{Store, Ending, Gives, Leaves, Returns, Throws, Stuck, IsStuck, OutOfTurns, Ended, Halted, Result, At}
use Rattle.theory_meaning.specs.Relations.{Begins, calls_of}
use Rattle.theory_meaning.specs.Run.{EntryPoint, report_of}
use Rattle.theory_soundness.specs.Refines.{EndsSo, RunRefines}
use Rattle.theory_soundness.specs.Reports.{has_ended, is_out_of_turns, EndsAs, ReportsFollow, RefinesReports}

no : {A : Type 0} → false ≡ true → A
no h = absurd (let z : false ≡ true = h in cc)

calls_reported : (e : EntryPoint) (r : Result) → (report_of e r).calls ≡ calls_of r
calls_reported e (At o s left) = refl

-- a run that ended, in the same way
ends_as : (e : EntryPoint) (o : Ending) (s : Store) (left left' : ℕ) → left ≤ left' → EndsAs (report_of e (At (Ended o) s left)) (report_of e (At (Ended o) s left'))
ends_as e o s left left' h = record { ended = refl; variables = refl; exports = refl; this = refl; calls = refl; turns = h }

module _ (e : EntryPoint) (r r' : ℕ → Result) (g : RunRefines r r') where
  same_end : (n : ℕ) (q : Result) → r n ≡ q → has_ended (report_of e q).ended ≡ true → EndsAs (report_of e q) (report_of e (r' n))
  same_end n (At (Ended o) s left) h j =
      let z = g.same_end n o s left h in
      subst (λ q. EndsAs (report_of e (At (Ended o) s left)) (report_of e q)) (sym z.2) (ends_as e o s left z.0 z.1)
  same_end n (At (Halted (IsStuck f)) s left) h j = no j
  same_end n (At (Halted OutOfTurns) s left) h j = no j

  -- what ended or is stuck is not out of turns
  ended_at : (o : Ending) (s : Store) (left : ℕ) → is_out_of_turns (report_of e (At (Ended o) s left)).ended ≡ false
  ended_at (Gives v) s left = refl
  ended_at (Leaves (Returns v)) s left = refl
  ended_at (Leaves (Throws v)) s left = refl
  ended_at (Leaves _) s left = refl

  reached : {q : Result} (m : ℕ) → r m ≡ q → is_out_of_turns (report_of e q).ended ≡ false → (n : ℕ) × (is_out_of_turns (report_of e (r n)).ended ≡ false)
  reached m h j = (m, ap (λ q. is_out_of_turns (report_of e q).ended) h ∙ j)

  no_new_end : (n : ℕ) (q : Result) → r' n ≡ q → is_out_of_turns (report_of e q).ended ≡ false → (m : ℕ) × (is_out_of_turns (report_of e (r m)).ended ≡ false)
  no_new_end n (At (Ended o) s left) h j = by (g.no_new_end n o s left h) where
    by : EndsSo r (Ended o) s ⊎ ((f : Stuck) × (s' : Store) × EndsSo r (Halted (IsStuck f)) s') → (m : ℕ) × (is_out_of_turns (report_of e (r m)).ended ≡ false)
    by (inl x) = reached x.0 x.2 (ended_at o s x.1)
    by (inr x) = reached x.2.0 x.2.2 refl
  no_new_end n (At (Halted (IsStuck f)) s left) h j = let x = g.no_new_stuck n f s left h in reached x.2.0 x.2.2 refl
  no_new_end n (At (Halted OutOfTurns) s left) h j = absurd (let z : true ≡ false = j in cc)

  run_reports : ReportsFollow (λ n. report_of e (r n)) (λ n. report_of e (r' n))
  run_reports = record {
    follows = λ n. record {
      same_end = λ j. same_end n (r n) refl j;
      same_calls = subst (λ cs. Begins cs (report_of e (r' n)).calls) (sym (calls_reported e (r n))) (subst (λ cs. Begins (calls_of (r n)) cs) (sym (calls_reported e (r' n))) (g.same_calls n));
    };
    no_new_end = λ n j. no_new_end n (r' n) refl j;
  }

pub refines_reports : RefinesReports
refines_reports engine known p p' g host scope e ag = run_reports e _ _ (g.runs host scope e ag)
