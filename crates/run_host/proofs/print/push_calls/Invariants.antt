use Rattle.std.proofs.Common.{◌≡◌, ◌++◌, map, drop, string_bytes}
use Rattle.run_host.specs.Host.{call_meant}
use Rattle.run_host.specs.Print.{calls_text}
use Rattle.run_host.proofs.print.push_calls.Given as goal

abbrev pub invariant-loop-call : goal.invariant-loop-call
invariant-loop-call l =
    string_bytes l.text ++ calls_text (map call_meant (drop l.call-index l.calls)) ≡ string_bytes l.initial.text ++ calls_text (map call_meant l.calls)
