-- Passes over a script's statements.
use Rattle.std.specs.Prelude.{◌↔◌, IsTrue}
use Rattle.std.proofs.Common.{◌≡◌, ◌<◌, ◌≤◌, ◌+◌, ◌-◌, ◌^◌, ℕ, suc, min, Bool, true, false, List, [], ◌∷◌, refl, sym, ap, ◌∙◌, subst, arith}
use Rattle.theory_meaning.specs.Engine.{Engine}
use Rattle.theory_meaning.specs.Tree.{Stmts, no_stmts, stmt}
use Rattle.theory_meaning.specs.Weight.{weight}
use Rattle.ast_types.specs.Reading.{stmts_of}
use Rattle.ast_types.specs.declared.stmt.Stmt.{Stmt}
use Rattle.theory_rewriting.specs.Context.{Context, Whole, knowing, open_list}
use Rattle.theory_rewriting.specs.Known.{Known}
use Rattle.theory_rewriting.specs.Finished.{IsFinished}
use Rattle.theory_soundness.specs.Passes.{Setting, no_pass, one_more, Passes, last_pass, ScriptPasses, PassesWithin}
use Rattle.theory_rewriting.specs.Rewriting.{StmtsTo, RestTo}
use Rattle.theory_rewriting.specs.Steps.{Progress, IsReducedBody}
use Rattle.theory_soundness.proofs.Passing.{passes_are_bounded, script_passes_to}
use Rattle.theory_rewriting.proofs.Flags.{stmts_kept}
use Rattle.theory_rewriting.proofs.Normal.{list_normal}
use Rattle.theory_rewriting.proofs.Weights.{stmts_fall}
use Rattle.rhai_optimizer.specs.Passes.{Counts, SettingSoFar, PassesRun}
use Rattle.opt_reducer.specs.Pass.{PassRun}

-- ---- the loop over passes

pub no_pass_yet : {r : Engine} {s : Progress} {ss : Stmts} → SettingSoFar r 0 s s ss ss
no_pass_yet = record { made = 0; passes = no_pass; saturated = refl; known = refl }

to_known : {r : Engine} {d : Bool} {ks ls : List Known} {ss ss' : Stmts} → ks ≡ ls → StmtsTo (knowing r ks) Whole false d ss ss' → StmtsTo (knowing r ls) Whole false d ss ss'
to_known {r = r} {d = d} {ss = ss} {ss' = ss'} e to = subst (λ ks. RestTo (open_list (knowing r ks)) Whole true false d ss ss') e to

one_counted : (n m k : ℕ) → n ≡ min m (2 ^ 64 - 1) → k ≡ min (n + 1) (2 ^ 64 - 1) → k ≡ min (suc m) (2 ^ 64 - 1)
one_counted n m k h j = omega (arith, h, j)

pub pass_counted : {r : Engine} {n k : ℕ} {s s1 s' : Progress} {ss ss1 ss' : Stmts} → k ≡ min (n + 1) (2 ^ 64 - 1) → SettingSoFar r n s s1 ss ss1 → PassRun r true s1 s' ss1 ss' → SettingSoFar r k s s' ss ss'
pass_counted {n = n} {k = k} h so_far run = record {
  made = suc so_far.made;
  passes = one_more so_far.passes (to_known so_far.known run.to);
  saturated = one_counted n so_far.made k so_far.saturated h;
  known = run.known ∙ so_far.known;
}

pub pass_falls : {r : Engine} {s s' : Progress} {ss ss' : Stmts} → PassRun r true s s' ss ss' → weight ss' < weight ss
pass_falls run = omega (arith, stmts_fall run.to)

-- passes over statements that are there
over_some : {k : Context} {n : ℕ} (ss : Stmts) {ss' : Stmts} → (ss ≡ no_stmts → ⊥) → Passes k n ss ss' → ScriptPasses k n ss ss'
over_some no_stmts h p = absurd (h refl)
over_some (stmt s ss) h p = p

-- no pass but the last one: nothing has changed
setting_none : {k : Context} {m : ℕ} {ss ss1 : Stmts} → m ≡ 0 → Setting k m ss ss1 → ss1 ≡ ss
setting_none h no_pass = refl
setting_none h (one_more {n = n} p q) = absurd (let e : suc n ≡ 0 = h in omega (arith, e))

-- over what is finished no pass sets the flag
falls_not : {k : Context} {ss ss1 ss' : Stmts} → IsFinished k ss → ss1 ≡ ss → StmtsTo k Whole false true ss1 ss' → ⊥
falls_not {k = k} {ss' = ss'} f e q =
    let z = f false true ss' (subst (λ z. StmtsTo k Whole false true z ss') e q) in
    omega (arith, stmts_fall q, ap weight (z ∙ sym e))

none_set : {k : Context} {n : ℕ} {ss ss1 : Stmts} → IsFinished k ss → Setting k n ss ss1 → n ≡ 0
none_set f no_pass = refl
none_set f (one_more p q) = absurd (falls_not f (setting_none (none_set f p) p) q)

made_once : {k : Context} {n : ℕ} (ss ss' : Stmts) → IsFinished k ss → ScriptPasses k n ss ss' → n ≤ 1
made_once no_stmts ss' f p = omega (arith, p.0)
made_once (stmt s ss) ss' f (last_pass p q) = omega (arith, none_set f p)

no_more : (n m k : ℕ) → n ≡ min m (2 ^ 64 - 1) → k ≡ min (n + 1) (2 ^ 64 - 1) → k ≤ 1 → m ≡ 0
no_more n m k h j l = omega (arith, h, j, l)

pub passes_done : {r : Engine} {n k : ℕ} {s s1 s' : Progress} {ss ss1 ss' : Stmts} → (ss ≡ no_stmts → ⊥) → k ≡ min (n + 1) (2 ^ 64 - 1) → SettingSoFar r n s s1 ss ss1 → PassRun r false s1 s' ss1 ss' → PassesRun r k s s' ss ss'
passes_done {r = r} {n = n} {k = k} {ss = ss} {ss' = ss'} some h so_far run = record {
  counts = record {
    made = suc so_far.made;
    passes = over_some ss some (last_pass so_far.passes (to_known so_far.known run.to));
    saturated = one_counted n so_far.made k so_far.saturated h;
  };
  reduced = run.reduced;
  finished = subst (λ ks. IsFinished (knowing r ks) ss') so_far.known (run.finished refl);
  kept = λ l. sym (stmts_kept run.to refl).1 ∙ setting_none (no_more n so_far.made k so_far.saturated h l) so_far.passes;
  known = run.known ∙ so_far.known;
}

reduced_none : (r : Engine) → IsReducedBody r no_stmts
reduced_none r = record { list = record { ends_where_left = refl; tests_no_constant = refl; never_idles = refl }; returns_nothing = refl; nodes = tt }

pub passes_none : {r : Engine} {s : Progress} (ss : Stmts) → ss ≡ no_stmts → PassesRun r 0 s s ss ss
passes_none {r = r} {s = s} ss e = subst (λ z. PassesRun r 0 s s z z) (sym e) (record {
  counts = record { made = 0; passes = (refl, refl); saturated = refl };
  reduced = reduced_none r;
  finished = list_normal no_stmts tt tt refl;
  kept = λ l. refl;
  known = refl;
})

-- what has statements is not read as none
some_stmts : (ss : List Stmt) → stmts_of ss ≡ no_stmts → ss ≡ []
some_stmts [] h = refl
some_stmts (s ∷ ss) h = absurd cc

pub not_none : (b : Bool) (ss : List Stmt) → (IsTrue b ↔ (ss ≡ [])) → b ≡ false → stmts_of ss ≡ no_stmts → ⊥
not_none b ss h e q = let p : false ≡ true = sym e ∙ h.1 (some_stmts ss q) in cc

pub none_read : (b : Bool) (ss : List Stmt) → (IsTrue b ↔ (ss ≡ [])) → b ≡ true → stmts_of ss ≡ no_stmts
none_read b ss h e = ap stmts_of (h.0 e)

-- ---- what the number says

pub counts_knowing : {r : Engine} {ks ls : List Known} {n : ℕ} {ss ss' : Stmts} → ks ≡ ls → Counts (knowing r ks) n ss ss' → Counts (knowing r ls) n ss ss'
counts_knowing {r = r} {n = n} {ss = ss} {ss' = ss'} e c = subst (λ ks. Counts (knowing r ks) n ss ss') e c

pub finished_knowing : {r : Engine} {ks ls : List Known} {ss : Stmts} → ks ≡ ls → IsFinished (knowing r ks) ss → IsFinished (knowing r ls) ss
finished_knowing {r = r} {ss = ss} e f = subst (λ ks. IsFinished (knowing r ks) ss) e f

pub counts_to : {k : Context} {n : ℕ} {ss ss' : Stmts} → Counts k n ss ss' → StmtsTo k Whole true true ss ss'
counts_to {ss = ss} {ss' = ss'} c = script_passes_to c.made ss ss' c.passes

pub counts_once : {k : Context} {n : ℕ} {ss ss' : Stmts} → IsFinished k ss → Counts k n ss ss' → n ≤ 1
counts_once {ss = ss} {ss' = ss'} f c = omega (arith, c.saturated, made_once ss ss' f c.passes)

pub counts_within : {k : Context} {n : ℕ} {ss ss' : Stmts} → Counts k n ss ss' → PassesWithin n ss ss'
counts_within {k = k} {n = n} {ss = ss} {ss' = ss'} c =
    let b = passes_are_bounded k c.made ss ss' c.passes in
    record {
      none = λ e. omega (arith, c.saturated, b.none e);
      some = λ f. omega (arith, c.saturated, b.some f);
      changed = λ f. omega (arith, c.saturated, b.changed f);
      most = omega (arith, c.saturated, b.most);
    }
