use Rattle.std.proofs.Common.{List, ◌++◌, length, sym, ap, ◌∙◌}
use Rattle.std.specs.Prelude.{◌==◌}
use Rattle.std.specs.declared.alloc.Global.{Global}
use Rattle.std.specs.declared.rc.Rc.{Rc}
use Rattle.ast_types.specs.declared.script_fn.ScriptFuncDef.{ScriptFuncDef}
use Rattle.std.specs.Map.Iter.{deref}
use Rattle.std.specs.Option.{option_map}
use Rattle.opt_base.specs.Walks.{listing}
use Rattle.opt_base.specs.State.{globals_known, known_of}
use Rattle.opt_reducer.specs.Parts.{record_of}
use Rattle.rhai_optimizer.specs.Scopes.{known_outside, start_of}
use Rattle.rhai_optimizer.proofs.Bodies.{none_run}
use Rattle.rhai_optimizer.proofs.functions.optimize_functions.Goals as goal

pub returns-then-is_empty : goal.returns-then-is_empty
returns-then-is_empty c = none_run c.args.functions.items (sym (ap (λ (fs : List (Rc ScriptFuncDef Global)). length fs == 0) c.as_slice.ensures.value) ∙ sym c.is_empty.ensures ∙ c.if-is_empty.true)

pub returns : goal.returns
returns c =
    let known = c.in_ok-push_inside.ensures (λ i. known_of (c.new-state.ensures.names i) ++ globals_known (c.new-state.ensures.globals i)) ∙ ap (λ fs. known_outside (record_of c.args.optimizer.now) (start_of (option_map deref c.args.scope)) (listing c.args.statements.now fs)) c.as_slice-2.ensures.value in
    rw (known) at c.each_function.ensures
