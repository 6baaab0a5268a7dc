use Rattle.std.proofs.Common.{◌≡◌, List, [], ◌++◌, Option, None, ap, ◌∙◌}
use Rattle.std.specs.Map.Iter.{deref}
use Rattle.std.specs.Option.{option_map}
use Rattle.base_engine.specs.EngineInfo.{engine_of}
use Rattle.opt_base.specs.State.{globals_known, known_of}
use Rattle.rhai_base.specs.Value.{Text}
use Rattle.rhai_base.specs.declared.dynamic.Dynamic.{Dynamic}
use Rattle.rhai_base.specs.declared.scope.Scope.{Scope}
use Rattle.theory_meaning.specs.Engine.{Engine}
use Rattle.theory_rewriting.specs.Known.{Known}
use Rattle.theory_rewriting.specs.Scripts.{known_at_top}
use Rattle.rhai_optimizer.specs.Scopes.{constants_onto, given_onto, start_of}
use Rattle.rhai_optimizer.proofs.Passing.{counts_knowing, finished_knowing}
use Rattle.rhai_optimizer.proofs.Scopes.{at_top}
use Rattle.rhai_optimizer.proofs.optimizer.optimize_statements.Goals as goal

-- the names of the record and of the scope, pushed onto none
pushed : (r : Engine) (o : Option Scope) {es : List (Text × Option Dynamic)} {gs : Option (List (Text × Option Dynamic))} {ks : List Known} → ks ≡ given_onto o (constants_onto r.constants (known_of es ++ globals_known gs)) → es ≡ [] → gs ≡ None → ks ≡ known_at_top r (start_of o)
pushed r o h n g = h ∙ (λ i. given_onto o (constants_onto r.constants (known_of (n i) ++ globals_known (g i)))) ∙ at_top r o

pub returns-clause-counts : goal.returns-clause-counts
returns-clause-counts c =
    let run = rw (c.statements_mut.ensures.value) at c.in_ok-passes.ensures in
    counts_knowing (pushed (engine_of c.args.info.now) (option_map deref c.args.scope) c.in_ok-push_at_top.ensures.1 c.new-state.ensures.names c.new-state.ensures.globals) run.counts

pub returns-clause-reduced : goal.returns-clause-reduced
returns-clause-reduced c = let run = rw (c.statements_mut.ensures.value) at c.in_ok-passes.ensures in run.reduced

pub returns-clause-finished : goal.returns-clause-finished
returns-clause-finished c =
    let run = rw (c.statements_mut.ensures.value) at c.in_ok-passes.ensures in
    finished_knowing (pushed (engine_of c.args.info.now) (option_map deref c.args.scope) c.in_ok-push_at_top.ensures.1 c.new-state.ensures.names c.new-state.ensures.globals) run.finished
