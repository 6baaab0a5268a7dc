use Rattle.std.proofs.lemmas.Slice.Eq.{bytes_eq-Decides, slice_eq-Decides}
use Rattle.ast_alike.proofs.dressed.are_comments.Goals as goal

pub returns : goal.returns
returns c = (slice_eq-Decides bytes_eq-Decides c.args.first.now c.args.second.now c.eq.result c.eq.ensures).0
