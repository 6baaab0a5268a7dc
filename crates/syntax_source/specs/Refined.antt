-- Scripts that refine others, but for names too.
use Rattle.std.specs.Prelude.{ℕ, List}
use Rattle.rhai_base.specs.Value.{Text}
use Rattle.theory_meaning.specs.Act.{ScopeEntry, Host, Result}
use Rattle.theory_meaning.specs.Desugar.{core_script}
use Rattle.theory_meaning.specs.Engine.{Engine, constant_named}
use Rattle.theory_meaning.specs.Run.{EntryPoint, run_script}
use Rattle.theory_meaning.specs.Tree.{Script}
use Rattle.theory_rewriting.specs.Known.{Known, Agrees}
use Rattle.theory_soundness.specs.Refines.{RunRefines, RefinesWhere}
use Rattle.theory_naming.specs.Naming.{ListOf, MaybeLike, HostLike, EntryLike, EntryPointLike, ResultLike}
use Rattle.theory_naming.specs.Renaming.{Stands}

-- q refines p under an engine's record, where the start scope agrees with what is known, but for names of functions: for
-- hosts, entry points and scopes that are alike, its run is that of one that refines the run of p.
pub record RefinesBut (named : Text → Text) (engine : Engine) (known : List Known) (p q : Script) : Type 0 where
  pub runs : ((x : Text) → MaybeLike (Stands named) (constant_named engine.constants x) (constant_named engine.constants x))
      → (h h' : Host) → HostLike (Stands named) h h' → (e e' : EntryPoint) → EntryPointLike (Stands named) e e'
      → (es es' : List ScopeEntry) → ListOf (EntryLike (Stands named)) es es' → Agrees engine.constants known es
      → (run : ℕ → Result) × RunRefines (run_script engine h (core_script p) e es) run
      × ((n : ℕ) → ResultLike (Stands named) (run n) (run_script engine h' (core_script q) e' es' n))

-- The second refines the first, or refines it but for names.
pub data Refined (engine : Engine) (known : List Known) : Script → Script → Type 0 where
  refined : {p q : Script} → RefinesWhere engine known p q → Refined engine known p q
  refined_but_names : {p q : Script} (named : Text → Text) → RefinesBut named engine known p q → Refined engine known p q
