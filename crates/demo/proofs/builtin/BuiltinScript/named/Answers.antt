use Rattle.std.proofs.Common.{refl, sym, ap, ◌∙◌}
use Rattle.rhai_base.specs.Value.{same_text}
use Rattle.demo.specs.BuiltinScripts.{all_scripts}
use Rattle.demo.proofs.Among.{among_other, among_found, among_none}
use Rattle.demo.proofs.builtin.BuiltinScript.named.Goals as goal

pub loop-script-init : goal.loop-script-init
loop-script-init c = (refl, refl)

pub loop-script-preserved : goal.loop-script-preserved
loop-script-preserved c =
    (refl, sym (among_other all_scripts _ _ _ c.loop-script-test.true (sym (ap (λ t. same_text t c.args.name.now) c.name.ensures) ∙ sym c.eq.ensures ∙ c.if-eq.false)) ∙ c.loop-script.invariant.1)

pub returns-then-eq : goal.returns-then-eq
returns-then-eq c =
    sym (among_found all_scripts _ _ _ c.loop-script-test.true (sym (ap (λ t. same_text t c.args.name.now) c.name.ensures) ∙ sym c.eq.ensures ∙ c.if-eq.true)) ∙ c.loop-script.invariant.1

pub returns : goal.returns
returns c = sym (among_none all_scripts _ c.args.name.now c.loop-script-test.false) ∙ c.loop-script.invariant.1
