-- A script that does what one does that refines another refines it.
use Rattle.std.proofs.Common.{List, subst}
use Rattle.rhai_base.specs.Value.{Text}
use Rattle.theory_meaning.specs.Desugar.{core_script}
use Rattle.theory_meaning.specs.Engine.{Engine}
use Rattle.theory_meaning.specs.Run.{run_script}
use Rattle.theory_meaning.specs.Tree.{Script}
use Rattle.theory_rewriting.specs.Known.{Known}
use Rattle.theory_soundness.specs.Refines.{RunRefines, RefinesWhere}
use Rattle.theory_naming.specs.Alike.{RunBut}
use Rattle.theory_spelling.specs.Runs.{RunAlike, DoTheSame, alike, alike_but_names}
use Rattle.syntax_source.specs.Refined.{RefinesBut, Refined, refined, refined_but_names}

module _ (engine : Engine) (known : List Known) (p q : Script) (r : RefinesWhere engine known p q) where
  refined_alike : (s : Script) → RunAlike q s → RefinesWhere engine known p s
  refined_alike s h = record {
    runs = λ host scope e agrees. subst (λ f. RunRefines (run_script engine host (core_script p) e scope) f) (λ i n. h.runs engine host e scope n i) (r.runs host scope e agrees);
  }

  refined_but : (named : Text → Text) (s : Script) → RunBut named q s → RefinesBut named engine known p s
  refined_but named s h = record {
    runs = λ constants host host' hosts e e' entries scope scope' scopes agrees. (
      run_script engine host (core_script q) e scope,
      r.runs host scope e agrees,
      λ n. h.runs engine constants host host' hosts e e' entries scope scope' scopes n,
    );
  }

  pub refined_by : (s : Script) → DoTheSame q s → Refined engine known p s
  refined_by s (alike h) = refined (refined_alike s h)
  refined_by s (alike_but_names named h) = refined_but_names named (refined_but named s h)
