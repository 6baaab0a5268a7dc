use Rattle.std.proofs.Common.{sym}
use Rattle.std.proofs.lemmas.Result.{on_ok_weaker}
use Rattle.opt_reducer.proofs.Flattening.{flat_kept, flattened}
use Rattle.opt_reducer.proofs.blocks.flatten.Goals as goal

pub returns-then-not-any_gives_way : goal.returns-then-not-any_gives_way
returns-then-not-any_gives_way c = flat_kept _ (sym (rw c.as_slice.ensures at c.if-not-any_gives_way.ensures))

pub returns : goal.returns
returns c = on_ok_weaker _ (λ p. flattened _ c.is_wanted.ensures p) (rw (c.in_ok-rest.ensures.ok.0, c.in_ok-rest.ensures.ok.1) at c.flatten_statements.ensures)
