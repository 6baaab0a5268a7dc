use Rattle.std.proofs.Common.{◌≡◌, drop, map}
use Rattle.base_tokens.specs.Names.{is_among}
use Rattle.base_tokens.proofs.fn_name.is_among.Given as goal

abbrev pub invariant-loop-word : goal.invariant-loop-word
invariant-loop-word l = is_among l.name (map (λ w. w.now) l.words) ≡ is_among l.name (map (λ w. w.now) (drop l.word-index l.words))
