-- A pass over the statements of a script or of a body.
use Rattle.std.proofs.Common.{◌≡◌, true, false, refl, ◌∙◌, subst}
use Rattle.theory_meaning.specs.Engine.{Engine}
use Rattle.theory_meaning.specs.Tree.{Stmts}
use Rattle.theory_rewriting.specs.Context.{Whole, knowing, open_list}
use Rattle.theory_rewriting.specs.Normal.{IsNormal}
use Rattle.theory_rewriting.specs.Rewriting.{RestTo}
use Rattle.theory_rewriting.specs.Steps.{Progress, StmtsRun}
use Rattle.opt_reducer.specs.Pass.{PassRun}

-- a list that was gone over from a clear flag
pub pass_run : {r : Engine} {s s1 s' : Progress} {ss ss' : Stmts} → s1.is_dirty ≡ false → s1.known ≡ s.known → StmtsRun r Whole s1 s' ss ss' → PassRun r s'.is_dirty s s' ss ss'
pass_run {r = r} {s = s} {s1 = s1} {s' = s'} {ss = ss} {ss' = ss'} clear same run = record {
  to = subst (λ d. RestTo (open_list (knowing r s.known)) Whole true d s'.is_dirty ss ss') clear (subst (λ ks. RestTo (open_list (knowing r ks)) Whole true s1.is_dirty s'.is_dirty ss ss') same run.to);
  reduced = record { list = run.list; returns_nothing = run.returns_nothing refl; nodes = run.reduced };
  known = run.known ∙ same;
  finished = λ h. subst (λ ks. IsNormal (RestTo (open_list (knowing r ks)) Whole true) ss') same (run.normal h);
}
