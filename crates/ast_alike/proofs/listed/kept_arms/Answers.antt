use Rattle.std.proofs.Common.{drop, sym, ap, ◌∙◌, arith}
use Rattle.ast_types.specs.Reading.{arms_of}
use Rattle.ast_alike.proofs.Kept.{kept_all, kept_is}
use Rattle.ast_alike.proofs.listed.kept_arms.Goals as goal

pub returns : goal.returns
returns c =
    let all = kept_all c.loop-is_listed.kept c.loop-is_listed.rest (drop c.loop-is_listed.is_listed-index c.args.marks.now) (omega arith) in
    ap arms_of (sym all ∙ c.loop-is_listed.invariant.0) ∙ kept_is c.args.marks.now c.args.arms
