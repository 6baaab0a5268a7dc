use Rattle.std.proofs.Common.{arith}
use borrow.Author.Tests.{ltb-true, ltb-false}
use Rattle.opt_exprs.proofs.Arguments.{only-few, only-many}
use Rattle.opt_exprs.proofs.calls.calls.only_constant.Goals as goal
use Rattle.opt_exprs.proofs.calls.calls.only_constant.Goals.{in_default-via-then-args-lt1, in_default-via-else-args-lt1+else-args-lt2}

pub returns-in_default : goal.returns-in_default
returns-in_default c =
    elim c.in_default.branch [
      | in_default-via-then-args-lt1 w ↦ only-few c.args.args.now (omega (arith, ltb-true))
      | in_default-via-else-args-lt1+else-args-lt2 w ↦ only-many c.args.args.now (omega (arith, ltb-false))
    ]
