use Rattle.std.proofs.Common.{◌+◌, ◌*◌, drop, length, map}
use Rattle.run_steps.specs.Setting.{setting}
use Rattle.run_evaluator.proofs.Operands.{ArgsAt, OperandsAt, both_of, either_of, first_of}
use Rattle.run_evaluator.proofs.Maps.{MembersAt}
use Rattle.run_state.proofs.Statements.{StmtsAt}
use Rattle.rhai_base.specs.Reading.{value_of}
use Rattle.ast_types.specs.Reading.{arms_of, cases_of, counter_of, expr_of, exprs_of, expressions_of, maybe_of, pairs_of, range_of, stmt_of, stmts_of, subject_of}
use Rattle.theory_meaning.specs.Walk.{over_maybe, over_pairs, total}
use Rattle.theory_meaning.specs.Weight.{expr_weight, exprs_weight, own_weight, stmt_weight, weight}
use Rattle.theory_meaning.specs.Control.{round}
use Rattle.script_tables.specs.FnLib.{functions_of}
use Rattle.theory_meaning.specs.Desugar.{core_expr}
use Rattle.run_state.specs.Evaluating.{bodies_weight, body_of}
use Rattle.run_steps.specs.LeftSides.{side_weight}
use Rattle.run_state.proofs.Loops.{do_round, guarded_round}
use Rattle.run_state.proofs.Rounds.{LoopAt}
use Rattle.run_state.proofs.Counted.{CountAt, EachAt}
use Rattle.run_evaluator.proofs.Switches.{PlacesAt, RangesAt}
use Rattle.run_evaluator.proofs.Weights.{arms_weight, level}
use Rattle.run_evaluator.proofs.evaluator.Evaluator.+evaluate.Given as goal

-- each part of a node weighs less than the node
abbrev pub decreases-expr : goal.decreases-expr
decreases-expr g l = level l.self.now.depth (bodies_weight (functions_of l.self.now.machine.functions.now)) + 9 * expr_weight (expr_of l.expr.now) + 1

abbrev pub decreases-exprs : goal.decreases-exprs
decreases-exprs g l = level l.self.now.depth (bodies_weight (functions_of l.self.now.machine.functions.now)) + 9 * exprs_weight (exprs_of l.exprs.now) + 2

abbrev pub decreases-optional : goal.decreases-optional
decreases-optional g l = level l.self.now.depth (bodies_weight (functions_of l.self.now.machine.functions.now)) + 9 * over_maybe (total own_weight) (maybe_of l.expr.now) + 2

abbrev pub decreases-map : goal.decreases-map
decreases-map g l = level l.self.now.depth (bodies_weight (functions_of l.self.now.machine.functions.now)) + 9 * over_pairs (total own_weight) (pairs_of l.literal.now.0) + 3

abbrev pub decreases-members : goal.decreases-members
decreases-members g l = level l.self.now.depth (bodies_weight (functions_of l.self.now.machine.functions.now)) + 9 * over_pairs (total own_weight) (pairs_of l.members.now) + 2

abbrev pub decreases-call : goal.decreases-call
decreases-call g l = level l.self.now.depth (bodies_weight (functions_of l.self.now.machine.functions.now)) + 9 * exprs_weight (exprs_of l.call.now.args) + 9

abbrev pub decreases-operator : goal.decreases-operator
decreases-operator g l = level l.self.now.depth (bodies_weight (functions_of l.self.now.machine.functions.now)) + 9 * exprs_weight (exprs_of l.operands.now) + 8

abbrev pub decreases-binary : goal.decreases-binary
decreases-binary g l = level l.self.now.depth (bodies_weight (functions_of l.self.now.machine.functions.now)) + 9 * (expr_weight (expr_of l.x.now) + expr_weight (expr_of l.y.now)) + 2

abbrev pub decreases-called : goal.decreases-called
decreases-called g l = level l.self.now.depth (bodies_weight (functions_of l.self.now.machine.functions.now)) + 8

abbrev pub decreases-call_word : goal.decreases-call_word
decreases-call_word g l = level l.self.now.depth (bodies_weight (functions_of l.self.now.machine.functions.now)) + 7

abbrev pub decreases-call_pointed : goal.decreases-call_pointed
decreases-call_pointed g l = level l.self.now.depth (bodies_weight (functions_of l.self.now.machine.functions.now)) + 6

abbrev pub decreases-call_named : goal.decreases-call_named
decreases-call_named g l = level l.self.now.depth (bodies_weight (functions_of l.self.now.machine.functions.now)) + 5

abbrev pub decreases-invoke : goal.decreases-invoke
decreases-invoke g l = level l.self.now.depth (bodies_weight (functions_of l.self.now.machine.functions.now)) + 4

abbrev pub decreases-both : goal.decreases-both
decreases-both g l = level l.self.now.depth (bodies_weight (functions_of l.self.now.machine.functions.now)) + 9 * exprs_weight (exprs_of l.operands.now) + 2

abbrev pub decreases-either : goal.decreases-either
decreases-either g l = level l.self.now.depth (bodies_weight (functions_of l.self.now.machine.functions.now)) + 9 * exprs_weight (exprs_of l.operands.now) + 2

abbrev pub decreases-first_some : goal.decreases-first_some
decreases-first_some g l = level l.self.now.depth (bodies_weight (functions_of l.self.now.machine.functions.now)) + 9 * exprs_weight (exprs_of l.operands.now) + 2

abbrev pub decreases-statement : goal.decreases-statement
decreases-statement g l = level l.self.now.depth (bodies_weight (functions_of l.self.now.machine.functions.now)) + 9 * stmt_weight (stmt_of l.statement.now) + 1

abbrev pub decreases-statements : goal.decreases-statements
decreases-statements g l = level l.self.now.depth (bodies_weight (functions_of l.self.now.machine.functions.now)) + 9 * weight (stmts_of l.statements.now) + 2

abbrev pub decreases-block : goal.decreases-block
decreases-block g l = level l.self.now.depth (bodies_weight (functions_of l.self.now.machine.functions.now)) + 9 * weight (stmts_of l.block.now.block) + 3

abbrev pub decreases-choice : goal.decreases-choice
decreases-choice g l = level l.self.now.depth (bodies_weight (functions_of l.self.now.machine.functions.now)) + 9 * (expr_weight (expr_of l.flow.now.expr) + weight (stmts_of l.flow.now.body.block) + weight (stmts_of l.flow.now.branch.block)) + 8

abbrev pub decreases-declaration : goal.decreases-declaration
decreases-declaration g l = level l.self.now.depth (bodies_weight (functions_of l.self.now.machine.functions.now)) + 9 * expr_weight (expr_of l.value.now) + 2

abbrev pub decreases-import : goal.decreases-import
decreases-import g l = level l.self.now.depth (bodies_weight (functions_of l.self.now.machine.functions.now)) + 9 * expr_weight (expr_of l.path.now) + 3

abbrev pub decreases-module_of : goal.decreases-module_of
decreases-module_of g l = level l.self.now.depth (bodies_weight (functions_of l.self.now.machine.functions.now)) + 9 * expr_weight (expr_of l.path.now) + 2

abbrev pub decreases-assignment : goal.decreases-assignment
decreases-assignment g l = level l.self.now.depth (bodies_weight (functions_of l.self.now.machine.functions.now)) + 9 * (expr_weight (expr_of l.sides.now.lhs) + expr_weight (expr_of l.sides.now.rhs)) + 13

abbrev pub decreases-assign : goal.decreases-assign
decreases-assign g l = level l.self.now.depth (bodies_weight (functions_of l.self.now.machine.functions.now)) + 9 * side_weight l.side + 12

abbrev pub decreases-assign_part : goal.decreases-assign_part
decreases-assign_part g l = level l.self.now.depth (bodies_weight (functions_of l.self.now.machine.functions.now)) + 9 * expr_weight (expr_of l.rest.right.now) + 11

abbrev pub decreases-break_loop : goal.decreases-break_loop
decreases-break_loop g l = level l.self.now.depth (bodies_weight (functions_of l.self.now.machine.functions.now)) + 9 * over_maybe (total own_weight) (maybe_of l.value.now) + 3

abbrev pub decreases-leave : goal.decreases-leave
decreases-leave g l = level l.self.now.depth (bodies_weight (functions_of l.self.now.machine.functions.now)) + 9 * over_maybe (total own_weight) (maybe_of l.value.now) + 3

abbrev pub decreases-try_catch : goal.decreases-try_catch
decreases-try_catch g l = level l.self.now.depth (bodies_weight (functions_of l.self.now.machine.functions.now)) + 9 * (weight (stmts_of l.flow.now.body.block) + weight (stmts_of l.flow.now.branch.block)) + 8

abbrev pub decreases-catch : goal.decreases-catch
decreases-catch g l = level l.self.now.depth (bodies_weight (functions_of l.self.now.machine.functions.now)) + 9 * weight (stmts_of l.branch.now.block) + 4

abbrev pub decreases-round : goal.decreases-round
decreases-round g l = level l.self.now.depth (bodies_weight (functions_of l.self.now.machine.functions.now)) + 9 * weight (stmts_of l.body.now.block) + 4

abbrev pub decreases-endless : goal.decreases-endless
decreases-endless g l = level l.self.now.depth (bodies_weight (functions_of l.self.now.machine.functions.now)) + 9 * weight (stmts_of l.body.now.block) + 5

abbrev pub decreases-guarded : goal.decreases-guarded
decreases-guarded g l = level l.self.now.depth (bodies_weight (functions_of l.self.now.machine.functions.now)) + 9 * (expr_weight (expr_of l.guard.now) + weight (stmts_of l.body.now.block)) + 5

abbrev pub decreases-while_loop : goal.decreases-while_loop
decreases-while_loop g l = level l.self.now.depth (bodies_weight (functions_of l.self.now.machine.functions.now)) + 9 * (expr_weight (expr_of l.flow.now.expr) + weight (stmts_of l.flow.now.body.block)) + 6

abbrev pub decreases-repeated : goal.decreases-repeated
decreases-repeated g l = level l.self.now.depth (bodies_weight (functions_of l.self.now.machine.functions.now)) + 9 * (expr_weight (expr_of l.flow.now.expr) + weight (stmts_of l.flow.now.body.block)) + 5

abbrev pub decreases-do_loop : goal.decreases-do_loop
decreases-do_loop g l = level l.self.now.depth (bodies_weight (functions_of l.self.now.machine.functions.now)) + 9 * (expr_weight (expr_of l.flow.now.expr) + weight (stmts_of l.flow.now.body.block)) + 6

abbrev pub decreases-switch : goal.decreases-switch
decreases-switch g l = level l.self.now.depth (bodies_weight (functions_of l.self.now.machine.functions.now)) + 9 * (expr_weight (expr_of (subject_of l.block.now)) + arms_weight (arms_of (expressions_of (cases_of l.block.now)))) + 20

abbrev pub decreases-choose : goal.decreases-choose
decreases-choose g l = level l.self.now.depth (bodies_weight (functions_of l.self.now.machine.functions.now)) + 9 * arms_weight (arms_of (expressions_of l.table.now)) + 9

abbrev pub decreases-chosen_arm : goal.decreases-chosen_arm
decreases-chosen_arm g l = level l.self.now.depth (bodies_weight (functions_of l.self.now.machine.functions.now)) + 9 * arms_weight (arms_of (expressions_of l.table.now)) + 8

abbrev pub decreases-first_arm : goal.decreases-first_arm
decreases-first_arm g l = level l.self.now.depth (bodies_weight (functions_of l.self.now.machine.functions.now)) + 9 * arms_weight (arms_of l.arms.now) + 6

abbrev pub decreases-first_range : goal.decreases-first_range
decreases-first_range g l = level l.self.now.depth (bodies_weight (functions_of l.self.now.machine.functions.now)) + 9 * arms_weight (arms_of l.arms.now) + 7

abbrev pub decreases-range_arm : goal.decreases-range_arm
decreases-range_arm g l = level l.self.now.depth (bodies_weight (functions_of l.self.now.machine.functions.now)) + 9 * arms_weight (arms_of l.arms.now) + 6

abbrev pub decreases-arm : goal.decreases-arm
decreases-arm g l = level l.self.now.depth (bodies_weight (functions_of l.self.now.machine.functions.now)) + 9 * arms_weight (arms_of l.arms.now) + 5

abbrev pub decreases-default_arm : goal.decreases-default_arm
decreases-default_arm g l = level l.self.now.depth (bodies_weight (functions_of l.self.now.machine.functions.now)) + 9 * arms_weight (arms_of l.arms.now) + 5

abbrev pub decreases-for_loop : goal.decreases-for_loop
decreases-for_loop g l = level l.self.now.depth (bodies_weight (functions_of l.self.now.machine.functions.now)) + 9 * (expr_weight (expr_of l.parts.now.2.expr) + weight (stmts_of l.parts.now.2.body.block)) + 9

abbrev pub decreases-for_each : goal.decreases-for_each
decreases-for_each g l = level l.self.now.depth (bodies_weight (functions_of l.self.now.machine.functions.now)) + 9 * weight (stmts_of l.parts.now.2.body.block) + 7

abbrev pub decreases-for_count : goal.decreases-for_count
decreases-for_count g l = level l.self.now.depth (bodies_weight (functions_of l.self.now.machine.functions.now)) + 9 * weight (stmts_of l.parts.now.2.body.block) + 7

abbrev pub decreases-for_round : goal.decreases-for_round
decreases-for_round g l = level l.self.now.depth (bodies_weight (functions_of l.self.now.machine.functions.now)) + 9 * weight (stmts_of l.parts.now.2.body.block) + 6

abbrev pub decreases-for_body : goal.decreases-for_body
decreases-for_body g l = level l.self.now.depth (bodies_weight (functions_of l.self.now.machine.functions.now)) + 9 * weight (stmts_of l.parts.now.2.body.block) + 5

-- chains
abbrev pub decreases-chain : goal.decreases-chain
decreases-chain g l = level l.self.now.depth (bodies_weight (functions_of l.self.now.machine.functions.now)) + 9 * (expr_weight (expr_of l.sides.now.lhs) + expr_weight (expr_of l.sides.now.rhs)) + 11

abbrev pub decreases-from_root : goal.decreases-from_root
decreases-from_root g l = level l.self.now.depth (bodies_weight (functions_of l.self.now.machine.functions.now)) + 9 * expr_weight (expr_of l.rest.right.now) + 10

abbrev pub decreases-steps : goal.decreases-steps
decreases-steps g l = level l.self.now.depth (bodies_weight (functions_of l.self.now.machine.functions.now)) + 9 * expr_weight (expr_of l.rest.right.now) + 9

abbrev pub decreases-reach : goal.decreases-reach
decreases-reach g l = level l.self.now.depth (bodies_weight (functions_of l.self.now.machine.functions.now)) + 9 * expr_weight (expr_of l.rest.right.now) + 3

abbrev pub decreases-access : goal.decreases-access
decreases-access g l = level l.self.now.depth (bodies_weight (functions_of l.self.now.machine.functions.now)) + 9 * expr_weight (expr_of l.argument.now) + 2

abbrev pub decreases-method_access : goal.decreases-method_access
decreases-method_access g l = level l.self.now.depth (bodies_weight (functions_of l.self.now.machine.functions.now)) + 9 * exprs_weight (exprs_of l.call.now.args) + 3

abbrev pub decreases-applied : goal.decreases-applied
decreases-applied g l = level l.self.now.depth (bodies_weight (functions_of l.self.now.machine.functions.now)) + 8

abbrev pub decreases-method : goal.decreases-method
decreases-method g l = level l.self.now.depth (bodies_weight (functions_of l.self.now.machine.functions.now)) + 7

abbrev pub decreases-call_receiver : goal.decreases-call_receiver
decreases-call_receiver g l = level l.self.now.depth (bodies_weight (functions_of l.self.now.machine.functions.now)) + 6

abbrev pub decreases-to_method : goal.decreases-to_method
decreases-to_method g l = level l.self.now.depth (bodies_weight (functions_of l.self.now.machine.functions.now)) + 6

abbrev pub decreases-call_method : goal.decreases-call_method
decreases-call_method g l = level l.self.now.depth (bodies_weight (functions_of l.self.now.machine.functions.now)) + 5

abbrev pub decreases-assign_steps : goal.decreases-assign_steps
decreases-assign_steps g l = level l.self.now.depth (bodies_weight (functions_of l.self.now.machine.functions.now)) + 9 * expr_weight (expr_of l.rest.right.now) + 10

abbrev pub decreases-assign_last : goal.decreases-assign_last
decreases-assign_last g l = level l.self.now.depth (bodies_weight (functions_of l.self.now.machine.functions.now)) + 9

abbrev pub decreases-changed_method : goal.decreases-changed_method
decreases-changed_method g l = level l.self.now.depth (bodies_weight (functions_of l.self.now.machine.functions.now)) + 8

-- the loops
abbrev pub invariant-first_arm-loop-place : goal.invariant-first_arm-loop-place
invariant-first_arm-loop-place g l = PlacesAt (setting g.H.Host.answers g.H.Host.modules l.self.machine) l.self.in_loop l.arms l.places (drop l.place-index l.places) l.initial.state l.state

abbrev pub invariant-first_range-loop-range : goal.invariant-first_range-loop-range
invariant-first_range-loop-range g l = RangesAt (setting g.H.Host.answers g.H.Host.modules l.self.machine) l.self.in_loop l.arms (value_of l.subject) (map range_of l.ranges) (map range_of (drop l.range-index l.ranges)) l.initial.state l.state

abbrev pub invariant-for_each-loop-item : goal.invariant-for_each-loop-item
invariant-for_each-loop-item g l =
    let here = setting g.H.Host.answers g.H.Host.modules l.self.machine in
    EachAt here l.parts.0.name (counter_of l.parts.1) (body_of here (stmts_of l.parts.2.body.block)) l.fn.items l.rest l.count l.initial.state l.state

abbrev pub decreases-for_each-loop-item : goal.decreases-for_each-loop-item
decreases-for_each-loop-item g l = length l.rest

abbrev pub invariant-for_count-loop-index : goal.invariant-for_count-loop-index
invariant-for_count-loop-index g l =
    let here = setting g.H.Host.answers g.H.Host.modules l.self.machine in
    CountAt here l.parts.0.name (counter_of l.parts.1) (body_of here (stmts_of l.parts.2.body.block)) l.first l.rounds l.index l.count l.initial.state l.state

abbrev pub invariant-exprs-loop-expr : goal.invariant-exprs-loop-expr
invariant-exprs-loop-expr g l = ArgsAt (setting g.H.Host.answers g.H.Host.modules l.self.machine) l.self.in_loop l.exprs (drop l.expr-index l.exprs) l.initial.state l.values l.state

abbrev pub invariant-members-loop-member : goal.invariant-members-loop-member
invariant-members-loop-member g l = MembersAt (setting g.H.Host.answers g.H.Host.modules l.self.machine) l.self.in_loop l.members (drop l.member-index l.members) l.initial.state l.map l.state

abbrev pub invariant-both-loop-operand : goal.invariant-both-loop-operand
invariant-both-loop-operand g l = OperandsAt (setting g.H.Host.answers g.H.Host.modules l.self.machine) l.self.in_loop (both_of (setting g.H.Host.answers g.H.Host.modules l.self.machine) l.self.in_loop) l.operands (drop l.operand-index l.operands) l.initial.state l.state

abbrev pub invariant-either-loop-operand : goal.invariant-either-loop-operand
invariant-either-loop-operand g l = OperandsAt (setting g.H.Host.answers g.H.Host.modules l.self.machine) l.self.in_loop (either_of (setting g.H.Host.answers g.H.Host.modules l.self.machine) l.self.in_loop) l.operands (drop l.operand-index l.operands) l.initial.state l.state

abbrev pub invariant-first_some-loop-operand : goal.invariant-first_some-loop-operand
invariant-first_some-loop-operand g l = OperandsAt (setting g.H.Host.answers g.H.Host.modules l.self.machine) l.self.in_loop (first_of (setting g.H.Host.answers g.H.Host.modules l.self.machine) l.self.in_loop) l.operands (drop l.operand-index l.operands) l.initial.state l.state

abbrev pub invariant-statements-loop-statement : goal.invariant-statements-loop-statement
invariant-statements-loop-statement g l = StmtsAt (setting g.H.Host.answers g.H.Host.modules l.self.machine) l.self.in_loop l.statements (drop l.statement-index l.statements) l.initial.state l.value l.state

abbrev pub invariant-endless-loop-value : goal.invariant-endless-loop-value
invariant-endless-loop-value g l = let here = setting g.H.Host.answers g.H.Host.modules l.self.machine in LoopAt here (round (body_of here (stmts_of l.body.block))) l.initial.state l.state

abbrev pub decreases-endless-loop-value : goal.decreases-endless-loop-value
decreases-endless-loop-value g l = l.state.turns

abbrev pub invariant-guarded-loop-holds : goal.invariant-guarded-loop-holds
invariant-guarded-loop-holds g l = let here = setting g.H.Host.answers g.H.Host.modules l.self.machine in LoopAt here (guarded_round here (core_expr l.self.in_loop (expr_of l.guard)) (body_of here (stmts_of l.body.block))) l.initial.state l.state

abbrev pub decreases-guarded-loop-holds : goal.decreases-guarded-loop-holds
decreases-guarded-loop-holds g l = l.state.turns

abbrev pub invariant-repeated-loop-value : goal.invariant-repeated-loop-value
invariant-repeated-loop-value g l = let here = setting g.H.Host.answers g.H.Host.modules l.self.machine in LoopAt here (do_round here l.until (core_expr l.self.in_loop (expr_of l.flow.expr)) (body_of here (stmts_of l.flow.body.block))) l.initial.state l.state

abbrev pub decreases-repeated-loop-value : goal.decreases-repeated-loop-value
decreases-repeated-loop-value g l = l.state.turns
