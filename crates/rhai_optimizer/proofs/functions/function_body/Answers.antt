use Rattle.std.proofs.Common.{◌-◌, drop, length, refl, ap, ◌∙◌}
use Rattle.opt_base.specs.State.{Setting, progress}
use Rattle.theory_rewriting.specs.Known.{shadow_all}
use Rattle.theory_rewriting.proofs.Running.{drop_front}
use Rattle.rhai_optimizer.proofs.Bodies.{body_run, shadowed}
use Rattle.opt_reducer.proofs.Parts.{forgotten}
use Rattle.rhai_optimizer.proofs.functions.function_body.Goals as goal

pub returns-clause-run : goal.returns-clause-run
returns-clause-run c =
    body_run _ _ _ refl c.in_ok-passes.passes (c.in_ok-push_params.ensures.1 ∙ ap (λ xs. shadow_all xs (progress c.args.state.now).known) c.as_slice.ensures) (rw (c.statements_mut.ensures.value) at c.in_ok-passes.ensures)

pub returns-clause-known : goal.returns-clause-known
returns-clause-known c =
    let before = (progress c.args.state.now).known in
    let pushed = c.in_ok-push_params.ensures.1 ∙ ap (λ xs. shadow_all xs before) c.as_slice.ensures in
    let f = shadowed c.args.function.now.params before in
    let h = c.in_ok-passes.ensures.known ∙ pushed ∙ f.1 in
    forgotten c.len-len.result c.args.state.now.entries c.make_passes.new.state.entries c.rewind_var.new.self.entries c.args.state.now.setting.globals c.make_passes.new.state.setting.globals c.rewind_var.new.self.setting.globals f.0 c.len-len.ensures f.2 h (ap (λ (s : Setting). s.globals) c.rewind_var.ensures.setting) c.rewind_var.ensures.names
    ∙ ap (λ l. drop (length l - length before) l) h ∙ drop_front f.0 before
