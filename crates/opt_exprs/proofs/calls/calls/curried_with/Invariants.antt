use Rattle.std.proofs.Common.{◌≡◌, drop}
use Rattle.theory_meaning.specs.Constants.{constant_values}
use Rattle.ast_types.specs.Reading.{exprs_of}
use Rattle.opt_exprs.specs.Words.{values_of, with_values}
use Rattle.opt_exprs.proofs.calls.calls.curried_with.Given as goal

abbrev pub invariant-loop-arg : goal.invariant-loop-arg
invariant-loop-arg l = with_values l.pointer.name (values_of l.pointer) (constant_values (exprs_of l.args)) ≡ with_values l.made.name (values_of l.made) (constant_values (exprs_of (drop l.arg-index l.args)))
