-- What a sweep does to a list whose statements are reduced.
use Rattle.std.proofs.Common.{◌≡◌, ◌<◌, Bool, true, false, List, refl, sym, ◌∙◌, subst, arith}
use Rattle.std.specs.Prelude.{◌||◌}
use Rattle.ast_types.specs.declared.stmt.Stmt as declared_stmt
use Rattle.theory_meaning.specs.Engine.{Engine}
use Rattle.theory_meaning.specs.Tree.{Stmts}
use Rattle.theory_meaning.specs.Weight.{weight}
use Rattle.ast_types.specs.Reading.{stmts_of}
use Rattle.base_engine.specs.EngineInfo.{nothing_set}
use Rattle.theory_rewriting.specs.Context.{open_list, under, ListKind}
use Rattle.theory_rewriting.specs.Residue.{AreReduced}
use Rattle.theory_rewriting.specs.Rewriting.{StmtsTo}
use Rattle.theory_rewriting.specs.Steps.{Progress, SweepRun}
use Rattle.theory_rewriting.proofs.Weights.{stmts_fall}
use Rattle.opt_lists.specs.declared.swept.Swept.{Swept}
use Rattle.opt_lists.specs.Steps.{Sweeps}
use Rattle.opt_lists.specs.Sweep.{returns_at_end, Keeps, keeps_none, keeps, skips, keeps_noop, keeps_bared}

-- each statement that is kept was there, or does nothing
kept_reduced : (r : Engine) {b : Bool} {ss rest : Stmts} → b ≡ false → Keeps b ss rest → AreReduced r ss → AreReduced r rest
kept_reduced r e keeps_none h = tt
kept_reduced r e (keeps k) h = (h.0, kept_reduced r e k h.1)
kept_reduced r e (skips k) h = kept_reduced r e k h.1
kept_reduced r e keeps_noop h = ((tt, (tt, (tt, tt))), tt)
kept_reduced r e keeps_bared h = absurd cc

swept_falls : {m : ListKind} {ss ss' : Stmts} (c : Bool) → c ≡ true → StmtsTo (under nothing_set) m false (c || false) ss ss' → weight ss' < weight ss
swept_falls true h p = omega (arith, stmts_fall p)
swept_falls false h p = absurd cc

-- the flag is clear behind a sweep that changed nothing
nothing_changed : (c b : Bool) → c || b ≡ false → c ≡ false
nothing_changed true b h = absurd cc
nothing_changed false b h = refl

pub sweep_run : {m : ListKind} {s s' : Progress} (old new : List declared_stmt.Stmt) (w : Swept) → Sweeps m old new w → s'.is_dirty ≡ w.has_changed || s.is_dirty → s'.known ≡ s.known → SweepRun m w.is_bared s s' (stmts_of old) (stmts_of new)
sweep_run {m = m} {s = s} {s' = s'} old new w p d h = record {
  to = λ k. subst (λ b. StmtsTo k m s.is_dirty b (stmts_of old) (stmts_of new)) (sym d) (p.to (open_list k) s.is_dirty);
  reduced = λ e r. kept_reduced r e p.kept;
  clear = p.clear;
  ends_where_left = p.swept.ends_where_left;
  never_idles = p.swept.never_idles;
  returns_nothing = λ e. subst (λ n. returns_at_end n (stmts_of new) ≡ false) e p.swept.returns_nowhere;
  lighter = λ e. swept_falls w.has_changed (p.bared e) (p.to (open_list (under nothing_set)) false);
  settled = λ e. p.settled (nothing_changed w.has_changed s.is_dirty (sym d ∙ e));
  known = h;
}
