use Rattle.std.proofs.Common.{sym, ◌∙◌}
use Rattle.opt_reducer.proofs.Flattening.{other_stays, differ}
use Rattle.opt_reducer.proofs.blocks.into_block.Goals as goal

pub unreachable-requires : goal.unreachable-requires
unreachable-requires c = differ (sym (other_stays _ c.in_default.not-Block) ∙ c.requires)
