use Rattle.std.specs.String.{string_bytes}
use Rattle.opt_exprs.proofs.TextJoins.{Joined}
use Rattle.opt_exprs.proofs.texts.joining.joined.Given as goal

abbrev pub invariant-loop-i : goal.invariant-loop-i
invariant-loop-i l = Joined l.parts l.at l.i (string_bytes l.text)
