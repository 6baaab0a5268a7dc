use Rattle.std.proofs.Common.{◌+◌, ◌*◌}
use Rattle.opt_base.specs.State.{progress}
use Rattle.ast_types.specs.Reading.{subject_of, cases_of, expressions_of, arms_of, expr_of, exprs_of, pairs_of, maybe_of, stmt_of, stmts_of}
use Rattle.theory_rewriting.proofs.rules.Arms.{arms_weight}
use Rattle.theory_meaning.specs.Walk.{total, over_pairs, over_maybe}
use Rattle.opt_lists.specs.Marks.{mark_of}
use Rattle.opt_reducer.specs.Parts.{record_of}
use Rattle.theory_rewriting.specs.Steps.{StmtPassed, ListPassed}
use Rattle.theory_meaning.specs.Weight.{own_weight, expr_weight, exprs_weight, stmt_weight, weight}
use Rattle.opt_reducer.proofs.UpTo.{UpTo, exprs_weigh, ExprItems, pairs_weigh, PairItems, arms_weigh, ArmItems, EachUpTo}
use Rattle.opt_reducer.specs.Going.{going, known_at}
use Rattle.opt_reducer.proofs.cycle.Optimizer.+optimize.Given as goal

abbrev pub decreases-expr : goal.decreases-expr
decreases-expr l = 12 * expr_weight (expr_of l.expr.now) + 1

abbrev pub decreases-expr_parts : goal.decreases-expr_parts
decreases-expr_parts l = 12 * expr_weight (expr_of l.expr.now)

abbrev pub decreases-exprs : goal.decreases-exprs
decreases-exprs l = 12 * exprs_weight (exprs_of l.items.now) + 2

abbrev pub decreases-call : goal.decreases-call
decreases-call l = 12 * exprs_weight (exprs_of l.call.now.args) + 3

abbrev pub decreases-stmt : goal.decreases-stmt
decreases-stmt l = 12 * stmt_weight (stmt_of l.statement.now) + 3

abbrev pub decreases-stmt_once : goal.decreases-stmt_once
decreases-stmt_once l = 12 * stmt_weight (stmt_of l.statement.now) + 2

abbrev pub decreases-subject : goal.decreases-subject
decreases-subject l = 12 * stmt_weight (stmt_of l.statement.now)

abbrev pub decreases-stmt_parts : goal.decreases-stmt_parts
decreases-stmt_parts l = 12 * stmt_weight (stmt_of l.statement.now)

abbrev pub decreases-choice : goal.decreases-choice
decreases-choice l = 12 * (9 + expr_weight (expr_of l.flow.now.expr) + weight (stmts_of l.flow.now.body.block) + weight (stmts_of l.flow.now.branch.block))

abbrev pub decreases-item : goal.decreases-item
decreases-item l = 12 * stmt_weight (stmt_of l.statement.now) + 4

abbrev pub decreases-each : goal.decreases-each
decreases-each l = 12 * weight (stmts_of l.statements.now) + 5

abbrev pub decreases-stmt_block : goal.decreases-stmt_block
decreases-stmt_block l = 12 * weight (stmts_of l.statements.now) + 7

abbrev pub decreases-list : goal.decreases-list
decreases-list l = 12 * weight (stmts_of l.statements.now) + 6

abbrev pub decreases-block : goal.decreases-block
decreases-block l = 12 * weight (stmts_of l.block.now.block) + 8

abbrev pub decreases-map : goal.decreases-map
decreases-map l = 12 * over_pairs (total own_weight) (pairs_of l.map.now.0) + 4

abbrev pub decreases-pairs : goal.decreases-pairs
decreases-pairs l = 12 * over_pairs (total own_weight) (pairs_of l.pairs.now) + 3

abbrev pub decreases-pair : goal.decreases-pair
decreases-pair l = 12 * expr_weight (expr_of l.pair.now.1) + 2

abbrev pub decreases-chain : goal.decreases-chain
decreases-chain l = 12 * (expr_weight (expr_of l.sides.now.lhs) + expr_weight (expr_of l.sides.now.rhs)) + 6

abbrev pub decreases-steps : goal.decreases-steps
decreases-steps l = 12 * expr_weight (expr_of l.right.now) + 5

abbrev pub decreases-next_steps : goal.decreases-next_steps
decreases-next_steps l = 12 * expr_weight (expr_of l.right.now) + 4

abbrev pub decreases-last_step : goal.decreases-last_step
decreases-last_step l = 12 * expr_weight (expr_of l.right.now) + 3

abbrev pub decreases-link : goal.decreases-link
decreases-link l = 12 * (expr_weight (expr_of l.sides.now.lhs) + expr_weight (expr_of l.sides.now.rhs)) + 7

abbrev pub decreases-argument : goal.decreases-argument
decreases-argument l = 12 * expr_weight (expr_of l.argument.now) + 2

abbrev pub decreases-member : goal.decreases-member
decreases-member l = 12 * expr_weight (expr_of l.member.now)

abbrev pub decreases-target : goal.decreases-target
decreases-target l = 12 * expr_weight (expr_of l.target.now)

abbrev pub decreases-switch_subject : goal.decreases-switch_subject
decreases-switch_subject l = 12 * expr_weight (expr_of (subject_of l.switch.now)) + 2

abbrev pub decreases-switch_arms : goal.decreases-switch_arms
decreases-switch_arms l = 12 * arms_weight (arms_of (expressions_of (cases_of l.switch.now))) + 5

abbrev pub decreases-table : goal.decreases-table
decreases-table l = 12 * arms_weight (arms_of (expressions_of l.cases.now)) + 4

abbrev pub decreases-arms : goal.decreases-arms
decreases-arms l = 12 * arms_weight (arms_of l.arms.now) + 3

abbrev pub decreases-arm : goal.decreases-arm
decreases-arm l = 12 * (expr_weight (expr_of l.arm.now.lhs) + expr_weight (expr_of l.arm.now.rhs)) + 2

abbrev pub invariant-arms-loop-at : goal.invariant-arms-loop-at
invariant-arms-loop-at l = UpTo arms_weigh (ArmItems (record_of l.self)) (progress l.initial.state) (progress l.state) l.initial.arms l.arms l.at

abbrev pub decreases-rounds : goal.decreases-rounds
decreases-rounds l = 12 * (expr_weight (expr_of l.flow.now.expr) + weight (stmts_of l.flow.now.body.block)) + 10

abbrev pub decreases-counted : goal.decreases-counted
decreases-counted l = 12 * (expr_weight (expr_of l.parts.now.2.expr) + weight (stmts_of l.parts.now.2.body.block)) + 10

abbrev pub decreases-condition : goal.decreases-condition
decreases-condition l = 12 * expr_weight (expr_of l.flow.now.expr) + 2

abbrev pub decreases-body : goal.decreases-body
decreases-body l = 12 * weight (stmts_of l.flow.now.body.block) + 9

abbrev pub decreases-declaration : goal.decreases-declaration
decreases-declaration l = 12 * expr_weight (expr_of l.parts.now.1) + 2

abbrev pub decreases-assignment : goal.decreases-assignment
decreases-assignment l = 12 * (expr_weight (expr_of l.parts.now.1.lhs) + expr_weight (expr_of l.parts.now.1.rhs)) + 11

abbrev pub decreases-assigned : goal.decreases-assigned
decreases-assigned l = 12 * (expr_weight (expr_of l.sides.now.lhs) + expr_weight (expr_of l.sides.now.rhs)) + 10

abbrev pub decreases-attempt : goal.decreases-attempt
decreases-attempt l = 12 * (weight (stmts_of l.flow.now.body.block) + weight (stmts_of l.flow.now.branch.block)) + 10

abbrev pub decreases-maybe : goal.decreases-maybe
decreases-maybe l = 12 * over_maybe (total own_weight) (maybe_of l.value.now) + 2

abbrev pub decreases-import : goal.decreases-import
decreases-import l = 12 * expr_weight (expr_of l.parts.now.0) + 2

abbrev pub invariant-exprs-loop-at : goal.invariant-exprs-loop-at
invariant-exprs-loop-at l = UpTo exprs_weigh (ExprItems (record_of l.self)) (progress l.initial.state) (progress l.state) l.initial.items l.items l.at

abbrev pub invariant-pairs-loop-at : goal.invariant-pairs-loop-at
invariant-pairs-loop-at l = UpTo pairs_weigh (PairItems (record_of l.self)) (progress l.initial.state) (progress l.state) l.initial.pairs l.pairs l.at

abbrev pub invariant-stmt-loop : goal.invariant-stmt-loop
invariant-stmt-loop l = StmtPassed (record_of l.self) l.is_wanted (progress l.fn.state) (progress l.state) (stmt_of l.fn.statement) (stmt_of l.statement)

abbrev pub decreases-stmt-loop : goal.decreases-stmt-loop
decreases-stmt-loop l = stmt_weight (stmt_of l.statement)

abbrev pub invariant-each-loop-at : goal.invariant-each-loop-at
invariant-each-loop-at l = EachUpTo (record_of l.self) (mark_of l.mark) (progress l.initial.state) (progress l.initial.unknown) (going (known_at l.are_known l.statements l.at) (progress l.state) (progress l.unknown)) l.initial.statements l.statements l.at

abbrev pub invariant-stmt_block-loop-state : goal.invariant-stmt_block-loop-state
invariant-stmt_block-loop-state l = ListPassed (record_of l.self) (mark_of l.mark) (progress l.fn.state) (progress l.state) (stmts_of l.fn.statements) (stmts_of l.statements)

abbrev pub decreases-stmt_block-loop-state : goal.decreases-stmt_block-loop-state
decreases-stmt_block-loop-state l = weight (stmts_of l.statements)
