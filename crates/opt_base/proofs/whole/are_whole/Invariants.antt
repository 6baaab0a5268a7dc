use Rattle.std.proofs.Common.{◌≡◌, drop}
use Rattle.ast_types.specs.Reading.{exprs_of}
use Rattle.opt_base.specs.Whole.{are_whole}
use Rattle.opt_base.proofs.whole.are_whole.Given as goal

abbrev pub invariant-loop-expr : goal.invariant-loop-expr
invariant-loop-expr l = are_whole (exprs_of l.exprs) ≡ are_whole (exprs_of (drop l.expr-index l.exprs))
