use Rattle.std.proofs.Common.{refl, arith}
use Rattle.opt_base.specs.Places.{place_of}
use Rattle.opt_exprs.proofs.Single.{one_becomes, many_stay}
use Rattle.opt_exprs.proofs.operands.few.of_few.Goals as goal

pub returns-then-len-gt1 : goal.returns-then-len-gt1
returns-then-len-gt1 c = (refl, many_stay (place_of c.args.place) c.args.operation c.args.operands.now (omega (arith, c.len.ensures, c.if-len-gt1.true)))

pub returns-in-Some : goal.returns-in-Some
returns-in-Some c = one_becomes (place_of c.args.place) c.args.operation c.args.operands.now _ c.in-Some.operand.now c.of_one.new.operand c.of_one.result (omega (arith, c.len.ensures, c.if-len-gt1.false)) c.in-Some.ensures.value.0 c.in-Some.ensures.value.1 refl c.of_one.ensures
