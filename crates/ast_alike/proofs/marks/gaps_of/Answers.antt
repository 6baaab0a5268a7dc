use Rattle.ast_alike.proofs.Numbers.{gaps_all}
use Rattle.ast_alike.proofs.marks.gaps_of.Goals as goal

pub returns : goal.returns
returns c =
    gaps_all (record { before = c.loop-is_listed.before; all = c.loop-is_listed.all }) c.args.marks.now c.loop-is_listed.is_listed-index c.loop-is_listed-test.false c.loop-is_listed.invariant.0 c.loop-is_listed.invariant.1.0
