use Rattle.std.proofs.Common.{◌≡◌, drop}
use Rattle.base_tokens.specs.Tokens.{first_written}
use Rattle.base_tokens.proofs.token.first_written.Given as goal

abbrev pub invariant-loop-token : goal.invariant-loop-token
invariant-loop-token l = first_written l.text l.tokens ≡ first_written l.text (drop l.token-index l.tokens)
