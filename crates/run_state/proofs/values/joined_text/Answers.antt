use Rattle.std.proofs.Common.{arith, ap, map, ◌∙◌}
use Rattle.std.specs.String.{string_bytes}
use Rattle.rhai_base.specs.Reading.{value_of, value_of-Str}
use Rattle.theory_meaning.specs.Control.{text_in, texts_joined}
use Rattle.run_host.specs.Host.{host_of}
use Rattle.rhai_base.specs.Value.{TextV}
use Rattle.run_state.proofs.Texts.{texts_next, texts_end}
use Rattle.run_state.proofs.values.joined_text.Goals as goal

pub loop-value-preserved : goal.loop-value-preserved
loop-value-preserved g c = texts_next _ _ _ _ _ _ _ c.loop-value-test.true c.value-item.is c.loop-value.invariant c.in_ok-push_text.ensures

pub returns : goal.returns
returns g c =
    let f = text_in (host_of (g.H.Host.answers c.args.host.now) (g.H.Host.modules c.args.host.now)) in
    value_of-Str c.in_ok-from_string.field-0
    ∙ ap TextV (c.in_ok-from_string.ensures ∙ texts_end f (string_bytes c.loop-value.text) (texts_joined f (map value_of c.args.values)) c.as_slice-value-items.result.now c.loop-value.value-index (omega (arith, c.loop-value-test.false)) c.loop-value.invariant)
