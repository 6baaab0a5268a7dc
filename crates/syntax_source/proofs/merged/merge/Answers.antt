use Rattle.syntax_source.proofs.Merging.{are_merged}
use Rattle.syntax_source.proofs.merged.merge.Goals as goal

pub returns : goal.returns
returns c =
    are_merged c.write.result c.args.syntax c.args.first.now c.args.second.now c.in_ok-first.first c.in_ok-second.second c.in_ok-merge.field-0
    c.in_ok-merge.ensures.0 c.in_ok-first.ensures c.in_ok-second.ensures c.in_ok-merge.ensures.1 c.in_ok-merge.ensures.2 c.write.ensures
