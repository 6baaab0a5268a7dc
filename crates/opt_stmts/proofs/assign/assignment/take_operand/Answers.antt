use Rattle.std.proofs.Common.{refl, sym, ap, ◌∙◌}
use Rattle.base_engine.specs.EngineInfo.{engine_of}
use Rattle.rhai_base.specs.Builtin.{operator_of}
use Rattle.ast_types.specs.Reading.{callee_of, exprs_of, mark_by, mark_of}
use Rattle.opt_stmts.specs.SettledAssignments.{may_assign}
use Rattle.opt_stmts.proofs.Assigning.{no_operands, no_operator, operates_at, two-operands}
use Rattle.opt_stmts.proofs.assign.assignment.take_operand.Goals as goal

pub returns-then-not-are_name_and_value : goal.returns-then-not-are_name_and_value
returns-then-not-are_name_and_value c =
    (no_operands (engine_of c.args.info.now) (callee_of c.args.call.now) c.args.name.now (exprs_of c.args.call.now.args) (sym (rw c.as_slice.ensures at c.if-not-are_name_and_value.ensures)), refl)

pub returns-in_err-assignment : goal.returns-in_err-assignment
returns-in_err-assignment c =
    let r = engine_of c.args.info.now in
    rw c.from_residual-in_err-assignment.ensures (no_operator r (callee_of c.args.call.now) c.args.name.now (exprs_of c.args.call.now.args) (ap (λ o. may_assign r (mark_of o)) c.in_ok-op.was ∙ c.in_err-assignment.ensures), refl)

pub returns-in_err-value : goal.returns-in_err-value
returns-in_err-value c =
    absurd (two-operands c.args.name.now c.args.call.now.args (sym (rw c.as_slice.ensures at c.if-not-are_name_and_value.ensures)) c.in_err-value.ensures.value)

pub returns : goal.returns
returns c =
    let r = engine_of c.args.info.now in
    let call = c.args.call.now in
    let assigned = c.in_ok-assignment.ensures in
    rw c.take.ensures.taken (operates_at r (callee_of call) c.args.name.now call.args c.in_ok-value.value.now (operator_of c.in_ok-assignment.assignment.op)
    (sym (rw c.as_slice.ensures at c.if-not-are_name_and_value.ensures)) c.in_ok-value.ensures.value.1
    (ap (λ t. mark_by (operator_of t)) assigned.0 ∙ ap mark_of (sym c.in_ok-op.was))
    (ap (λ o. may_assign r (mark_of o)) c.in_ok-op.was ∙ assigned.1))
