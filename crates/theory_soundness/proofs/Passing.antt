-- How many passes there are, and what they come to.
use Rattle.std.proofs.Common.{◌≡◌, ℕ, ◌+◌, ◌≤◌, true, refl, sym, subst, arith}
use Rattle.theory_meaning.specs.Tree.{Stmts, no_stmts, stmt}
use Rattle.theory_meaning.specs.Weight.{weight}
use Rattle.theory_rewriting.specs.Context.{Context, Whole}
use Rattle.theory_soundness.specs.Passes.{Setting, no_pass, one_more, Passes, last_pass, ScriptPasses, PassesAreBounded}
use Rattle.theory_rewriting.specs.Rewriting.{StmtsTo, same_stmts, then_stmts, flag_forgotten}
use Rattle.theory_rewriting.proofs.Flags.{stmts_kept}
use Rattle.theory_rewriting.proofs.Weights.{stmts_fall}

-- each lowers the weight
setting_falls : {k : Context} {n : ℕ} {ss ss' : Stmts} → Setting k n ss ss' → weight ss' + n ≤ weight ss
setting_falls no_pass = omega arith
setting_falls (one_more p q) = omega (arith, setting_falls p, stmts_fall q)

most : {k : Context} {n : ℕ} {ss ss' : Stmts} → Passes k n ss ss' → n ≤ weight ss + 1
most (last_pass p q) = omega (arith, setting_falls p)

at_least : {k : Context} {n : ℕ} {ss ss' : Stmts} → Passes k n ss ss' → 1 ≤ n
at_least (last_pass p q) = omega arith

changed : {k : Context} {n : ℕ} {ss ss' : Stmts} → Passes k n ss ss' → (ss' ≡ ss → ⊥) → 2 ≤ n
changed (last_pass no_pass q) h = absurd (h (sym (stmts_kept q refl).1))
changed (last_pass (one_more p r) q) h = omega arith

pub passes_are_bounded : PassesAreBounded
passes_are_bounded k n no_stmts ss' h = record {
  none = λ e. h.0;
  some = λ f. absurd (f refl);
  changed = λ f. absurd (f h.1);
  most = omega (arith, h.0);
}
passes_are_bounded k n (stmt s ss) ss' h = record {
  none = λ e. absurd cc;
  some = λ f. at_least h;
  changed = λ f. changed h f;
  most = most h;
}

-- ---- what they come to

setting_to : {k : Context} {n : ℕ} {ss ss' : Stmts} → Setting k n ss ss' → StmtsTo k Whole true true ss ss'
setting_to no_pass = same_stmts
setting_to (one_more p q) = then_stmts (setting_to p) (flag_forgotten q)

pub passes_to : {k : Context} {n : ℕ} {ss ss' : Stmts} → Passes k n ss ss' → StmtsTo k Whole true true ss ss'
passes_to (last_pass p q) = then_stmts (setting_to p) (flag_forgotten q)

pub script_passes_to : {k : Context} (n : ℕ) (ss ss' : Stmts) → ScriptPasses k n ss ss' → StmtsTo k Whole true true ss ss'
script_passes_to {k = k} n no_stmts ss' h = subst (λ z. StmtsTo k Whole true true no_stmts z) (sym h.1) same_stmts
script_passes_to n (stmt s ss) ss' h = passes_to h
