use Rattle.std.proofs.Common.{◌≡◌, ◌++◌, IsUtf8, string_bytes}
use Rattle.std.specs.Str.{chars}
use Rattle.tool_report.specs.Literals.{escaped}
use Rattle.tool_report.proofs.letters.push_escaped.Given as goal

abbrev pub invariant-loop-letter : goal.invariant-loop-letter
invariant-loop-letter l =
    IsUtf8 l.letter-iterator.rest.now × (string_bytes l.to ++ escaped (chars l.letter-iterator.rest.now) ≡ string_bytes l.initial.to ++ escaped (chars l.text))
