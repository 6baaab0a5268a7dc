use Rattle.std.proofs.Common.{◌≡◌, ◌++◌, drop, map}
use Rattle.std.specs.String.{string_bytes}
use Rattle.rhai_base.specs.Reading.{value_of}
use Rattle.theory_meaning.specs.Control.{text_in, texts_joined}
use Rattle.run_host.specs.Host.{host_of}
use Rattle.run_state.proofs.values.joined_text.Given as goal

abbrev pub invariant-loop-value : goal.invariant-loop-value
invariant-loop-value g l =
    let f = text_in (host_of (g.H.Host.answers l.fn.host) (g.H.Host.modules l.fn.host)) in
    string_bytes l.text ++ texts_joined f (map value_of (drop l.value-index l.value-items)) ≡ texts_joined f (map value_of l.fn.values)
