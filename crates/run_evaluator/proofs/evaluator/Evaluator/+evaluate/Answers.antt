use Rattle.std.proofs.Common.{◌≡◌, ◌+◌, ◌*◌, ◌≤◌, ◌&&◌, suc, Bool, true, false, None, Some, Ok, Err, drop, get_or, length, map, subst, refl, sym, ap, ◌∙◌, arith, rules}
use Rattle.std.specs.Prelude.{IfSome}
use Rattle.std.specs.Int.{w64}
use Rattle.std.proofs.lemmas.Int.{to_z-of_z}
use Rattle.std.proofs.lemmas.List.{drop_all, drop_more, length-map}
use mir.Val.{SFits}
use Rattle.std.proofs.lemmas.Result.{err_from_is_err_and}
use Rattle.std.specs.Option.{option_copied, option_map}
use Rattle.rhai_base.specs.declared.dynamic.Dynamic.{Dynamic}
use Rattle.rhai_base.specs.Reading.{value_of, value_of-Int}
use Rattle.theory_meaning.specs.Meaning.{module_at}
use Rattle.rhai_base.specs.Builtin.{operator_of}
use Rattle.ast_types.specs.Reading.{arms_of, callee_of, chain_flags, counter_of, expr_of, exprs_of, expressions_of, is_negated, keys_of, pairs_of, range_of, stmt_of, stmts_of, table_of}
use Rattle.script_tables.specs.FnKey.{definition_key}
use Rattle.script_tables.specs.FnLib.{functions_of}
use Rattle.script_tables.specs.Table.{find_by}
use Rattle.theory_meaning.specs.Act.{IsVariable, Invoke, Named, OutOfTurns, Store}
use Rattle.theory_meaning.specs.ActForms.{ask_host}
use Rattle.theory_meaning.specs.Calls as calls
use Rattle.theory_meaning.specs.Calls.{call_named, key}
use Rattle.theory_meaning.specs.Core as core
use Rattle.theory_meaning.specs.Run.{bind, called_from, seen}
use Rattle.theory_meaning.specs.Control.{counted}
use Rattle.theory_meaning.specs.Desugar.{core_expr, core_stmts, ends_in_call}
use Rattle.theory_meaning.specs.Shape.{is_unit}
use Rattle.theory_meaning.specs.Walk.{over_pairs, total}
use Rattle.theory_meaning.specs.Weight.{expr_weight, exprs_weight, own_weight, stmt_weight, weight}
use Rattle.run_state.specs.declared.state.State.{State}
use Rattle.run_steps.specs.Chaining.{method_in}
use Rattle.run_steps.specs.Setting.{setting}
use Rattle.run_steps.specs.Direct.{Comes}
use Rattle.run_state.specs.Evaluating.{arms_here, bodies_weight, body_of}
use Rattle.run_state.specs.Runs.{Acting, Halting, Runs, given, stop_of}
use Rattle.run_steps.specs.Placing.{current_in}
use Rattle.run_state.specs.State.{store_of}
use Rattle.run_steps.specs.LeftSides.{side_core}
use Rattle.run_steps.specs.Variables.{qualified_in, root_meant}
use Rattle.run_state.specs.Entries.{scope_meant}
use Rattle.run_state.specs.Words.{word_meant}
use Rattle.run_steps.specs.declared.steps.parts.Access.TheVariants as reached
use Rattle.run_evaluator.proofs.LeftSides.{part_called, part_ill, part_runs, part_stops, part_unplaced}
use Rattle.run_steps.proofs.Targets.{last_nowhere, last_plain, last_stops, read_changes, read_ends, target_applied_stops, target_last, target_more, target_stops, target_unit}
use Rattle.run_evaluator.proofs.ByKind.{array_of_expr, block_of_stmt, braces_of_expr, call_of_expr, call_of_stmt, dot_of_expr, for_of_stmt, if_of_stmt, index_of_expr, map_of_expr, method_of_expr, property_of_expr, switch_of_stmt, text_of_expr}
use Rattle.run_state.proofs.Counted.{each_ends, each_next, each_stops, for_array, for_body_runs, for_closed_range, for_other, for_range, for_round_runs, range_end, range_ends, range_next, range_start, range_stops}
use Rattle.run_evaluator.proofs.Leaving.{catch_runs, try_catches, try_ends, try_stops}
use Rattle.run_evaluator.proofs.Nodes.{call_stuck, call_stops, call_runs, called_as, called_in_module}
use Rattle.run_steps.proofs.Callees.{named_callee, qualified_callee}
use Rattle.run_evaluator.proofs.OperatorCalls.{left_stops, operands_run, operands_stop, operator_runs, right_stops, two_run}
use Rattle.run_state.proofs.Goes.{leads_then, stops_by, value_goes}
use Rattle.run_evaluator.proofs.Invoked.{back_is, invoke_goes, invoke_late, invoke_stops}
use Rattle.run_evaluator.proofs.Known.{call_runs_function, found_nothing, found_weight}
use Rattle.run_evaluator.proofs.Words.{call_asks, word_asks, word_gives, word_names, word_points, word_stops}
use Rattle.run_evaluator.proofs.Operands.{args_start, args_next, args_stop, args_end, operands_start, both_stops, both_stuck, both_false, both_next, both_end, either_stops, either_stuck, either_true, either_next, either_end, first_stops, first_value, first_next, first_end}
use Rattle.run_steps.proofs.Roots.{assign_runs, assign_stops, assign_stuck, unit_value}
use Rattle.run_state.proofs.Statements.{stmts_start, stmts_next, stmts_stop, stmts_end, block_runs, body_runs, branch_runs, condition_stops, condition_stuck}
use Rattle.run_evaluator.proofs.Switches.{arm_false, arm_leaves, arm_missing, arm_past, arm_stops, arm_stuck, arm_there, arm_true, arms_default, arms_end, arms_stop, default_missing, default_runs, places_end, places_ends, no_range, places_next, places_stops, range_at, ranges_end, ranges_ends, ranges_next, ranges_stops, range_misses}
use Rattle.run_evaluator.proofs.Weights.{arm_weight, arms_weight, expr_item, level, level_falls, member_item, stmt_item}
use Rattle.run_state.proofs.Rounds.{loop_start}
use Rattle.run_state.proofs.Loops.{round_runs, round_turns, endless_stops, endless_ends, endless_next, while_stops, while_stuck, guard_late, guard_over, guard_leaves, guard_ends, guard_falls, guard_next, loop_always, loop_when, do_stops, do_ends, do_guard_stops, do_guard_stuck, do_over, do_next}
use Rattle.run_evaluator.proofs.Maps.{map_runs, map_stops, members_start, members_stop, members_next, members_end}
use Rattle.run_evaluator.proofs.MethodSteps.{back_runs, back_stops, call_stops as method_call_stops, found_fits, found_runs, missing_asks, word_given, word_passed, word_stopped}
use Rattle.run_steps.proofs.ChainSteps.{applied_stops, chain_from_root, chain_from_value, chain_stops, member_stuck, method_given, method_reached, method_stops, method_stuck, reach_gone, reach_runs, steps_end, steps_more, steps_stop, steps_unit}
use Rattle.run_evaluator.proofs.evaluator.Evaluator.+evaluate.Goals as goal
use Rattle.rhai_ast.specs.Nodes.{is_dot}
use Rattle.run_evaluator.proofs.evaluator.Evaluator.+evaluate.Goals.{reach-else-contains-via-then-contains+else-is_unit_at, reach-else-contains-via-else-contains}

-- arguments
pub exprs-loop-expr-init : goal.exprs-loop-expr-init
exprs-loop-expr-init g t c = rw c.in_ok-values.ensures (args_start _ _ _ _)

pub exprs-returns-in_err-value : goal.exprs-returns-in_err-value
exprs-returns-in_err-value g t c = let p = err_from_is_err_and c.from_residual-in_err-value.result c.from_residual-in_err-value.ensures.1 in rw (p.1, p.2) (args_stop _ _ _ _ _ _ _ _ _ _ c.loop-expr-test.true c.expr-item.is c.loop-expr.invariant c.in_err-value.ensures)

pub exprs-loop-expr-preserved : goal.exprs-loop-expr-preserved
exprs-loop-expr-preserved g t c = rw c.in_ok-push.ensures.ok (args_next _ _ _ _ _ _ _ _ _ _ c.loop-expr-test.true c.expr-item.is c.loop-expr.invariant c.in_ok-value.ensures)

pub exprs-returns : goal.exprs-returns
exprs-returns g t c = args_end _ _ _ _ _ _ _ (omega arith) c.loop-expr.invariant

-- statements
pub statements-loop-statement-init : goal.statements-loop-statement-init
statements-loop-statement-init g t c = stmts_start _ _ _ _

pub statements-returns-in_err-value : goal.statements-returns-in_err-value
statements-returns-in_err-value g t c = let p = err_from_is_err_and c.from_residual.result c.from_residual.ensures.1 in rw (p.1, p.2) (stmts_stop _ _ _ _ _ _ _ _ _ c.loop-statement-test.true c.statement-item.is c.loop-statement.invariant _ c.in_err-value.ensures)

pub statements-loop-statement-preserved : goal.statements-loop-statement-preserved
statements-loop-statement-preserved g t c = stmts_next _ _ _ _ _ _ _ _ _ c.loop-statement-test.true c.statement-item.is c.loop-statement.invariant _ c.in_ok-value.ensures

pub statements-returns : goal.statements-returns
statements-returns g t c = stmts_end _ _ _ _ _ _ _ (omega arith) c.loop-statement.invariant

-- braces
pub block-returns : goal.block-returns
block-returns g t c =
    block_runs _ _ _ c.args.state.now c.begin_list-mark.new.self c.statements-ended.new.state c.end_list.new.self _ (record { begun = c.begin_list-mark.ensures.store; before = c.begin_list-mark.ensures.turns; left = c.end_list.ensures.store (store_of c.args.state.now) c.begin_list-mark.ensures.mark; after = c.end_list.ensures.turns }) (rw c.statements.ensures at c.statements-ended.ensures)

-- `&&`, `||` and `??`
pub both-loop-operand-init : goal.both-loop-operand-init
both-loop-operand-init g t c = operands_start _ _ _ _ _

pub both-returns-in_err-expr : goal.both-returns-in_err-expr
both-returns-in_err-expr g t c = let p = err_from_is_err_and c.from_residual.result c.from_residual.ensures.1 in rw (p.1, p.2) (both_stops _ _ _ _ _ _ _ _ c.loop-operand-test.true c.operand-item.is c.loop-operand.invariant _ c.in_err-expr.ensures)

pub both-returns-then-not-branch : goal.both-returns-then-not-branch
both-returns-then-not-branch g t c = both_false _ _ _ _ _ _ _ _ c.loop-operand-test.true c.operand-item.is c.loop-operand.invariant _ _ c.in_ok-expr.ensures (rw c.in_ok-truth.was at c.truth.ensures) c.if-not-branch.true

pub both-loop-operand-preserved : goal.both-loop-operand-preserved
both-loop-operand-preserved g t c = both_next _ _ _ _ _ _ _ _ c.loop-operand-test.true c.operand-item.is c.loop-operand.invariant _ _ c.in_ok-expr.ensures (rw c.in_ok-truth.was at c.truth.ensures) c.if-not-branch.false

pub both-returns : goal.both-returns
both-returns g t c = both_end _ _ _ _ _ _ (omega arith) c.loop-operand.invariant

pub either-loop-operand-init : goal.either-loop-operand-init
either-loop-operand-init g t c = operands_start _ _ _ _ _

pub either-returns : goal.either-returns
either-returns g t c = either_end _ _ _ _ _ _ (omega arith) c.loop-operand.invariant

pub first_some-loop-operand-init : goal.first_some-loop-operand-init
first_some-loop-operand-init g t c = operands_start _ _ _ _ _

pub first_some-returns : goal.first_some-returns
first_some-returns g t c = first_end _ _ _ _ _ _ (omega arith) c.loop-operand.invariant

pub both-returns-in_err-truth : goal.both-returns-in_err-truth
both-returns-in_err-truth g t c = let p = err_from_is_err_and c.from_residual-in_err-truth.result c.from_residual-in_err-truth.ensures.1 in rw (p.1, p.2) (both_stuck _ _ _ _ _ _ _ _ c.loop-operand-test.true c.operand-item.is c.loop-operand.invariant _ _ c.in_ok-expr.ensures (rw c.in_err-truth.was at c.truth.ensures))

pub either-returns-in_err-expr : goal.either-returns-in_err-expr
either-returns-in_err-expr g t c = let p = err_from_is_err_and c.from_residual.result c.from_residual.ensures.1 in rw (p.1, p.2) (either_stops _ _ _ _ _ _ _ _ c.loop-operand-test.true c.operand-item.is c.loop-operand.invariant _ c.in_err-expr.ensures)

pub either-returns-in_err-truth : goal.either-returns-in_err-truth
either-returns-in_err-truth g t c = let p = err_from_is_err_and c.from_residual-in_err-truth.result c.from_residual-in_err-truth.ensures.1 in rw (p.1, p.2) (either_stuck _ _ _ _ _ _ _ _ c.loop-operand-test.true c.operand-item.is c.loop-operand.invariant _ _ c.in_ok-expr.ensures (rw c.in_err-truth.was at c.truth.ensures))

pub either-returns-then-branch : goal.either-returns-then-branch
either-returns-then-branch g t c = either_true _ _ _ _ _ _ _ _ c.loop-operand-test.true c.operand-item.is c.loop-operand.invariant _ _ c.in_ok-expr.ensures (rw c.in_ok-truth.was at c.truth.ensures) c.if-branch.true

pub either-loop-operand-preserved : goal.either-loop-operand-preserved
either-loop-operand-preserved g t c = either_next _ _ _ _ _ _ _ _ c.loop-operand-test.true c.operand-item.is c.loop-operand.invariant _ _ c.in_ok-expr.ensures (rw c.in_ok-truth.was at c.truth.ensures) c.if-branch.false

pub first_some-returns-in_err-expr : goal.first_some-returns-in_err-expr
first_some-returns-in_err-expr g t c = let p = err_from_is_err_and c.from_residual.result c.from_residual.ensures.1 in rw (p.1, p.2) (first_stops _ _ _ _ _ _ _ _ c.loop-operand-test.true c.operand-item.is c.loop-operand.invariant _ c.in_err-expr.ensures)

pub first_some-returns-in-Some : goal.first_some-returns-in-Some
first_some-returns-in-Some g t c = first_value _ _ _ _ _ _ _ _ c.loop-operand-test.true c.operand-item.is c.loop-operand.invariant _ _ c.in_ok-expr.ensures (rw c.in-Some.is at c.some_value.ensures)

pub members-loop-member-init : goal.members-loop-member-init
members-loop-member-init g t c = rw c.new-map.ensures (members_start _ _ _ _)

pub members-returns-in_err-value : goal.members-returns-in_err-value
members-returns-in_err-value g t c = let p = err_from_is_err_and c.from_residual.result c.from_residual.ensures.1 in rw (p.1, p.2) (members_stop _ _ _ _ _ _ _ _ _ c.loop-member-test.true c.member-item.is c.loop-member.invariant _ c.in_err-value.ensures)

pub members-loop-member-preserved : goal.members-loop-member-preserved
members-loop-member-preserved g t c = members_next _ _ _ _ _ _ _ _ _ c.loop-member-test.true c.member-item.is c.loop-member.invariant _ _ c.in_ok-value.ensures c.in_ok-insert.ensures

pub members-returns : goal.members-returns
members-returns g t c = members_end _ _ _ _ _ _ _ (omega arith) c.loop-member.invariant

pub endless-loop-value-init : goal.endless-loop-value-init
endless-loop-value-init g t c = loop_start _ _ _

pub guarded-loop-holds-init : goal.guarded-loop-holds-init
guarded-loop-holds-init g t c = loop_start _ _ _

pub first_some-loop-operand-preserved : goal.first_some-loop-operand-preserved
first_some-loop-operand-preserved g t c = first_next _ _ _ _ _ _ _ _ c.loop-operand-test.true c.operand-item.is c.loop-operand.invariant _ c.in_ok-expr.ensures (rw c.in_default.is at c.some_value.ensures)

pub choice-returns-in_err-expr : goal.choice-returns-in_err-expr
choice-returns-in_err-expr g t c = let p = err_from_is_err_and c.from_residual.result c.from_residual.ensures.1 in rw (p.1, p.2) (condition_stops (setting g.H.Host.answers g.H.Host.modules c.args.self.now.machine) c.args.self.now.in_loop (expr_of c.args.flow.now.expr) (stmts_of c.args.flow.now.body.block) (stmts_of c.args.flow.now.branch.block) c.args.state.now c.expr.new.state _ c.in_err-expr.ensures)

pub choice-returns-in_err-truth : goal.choice-returns-in_err-truth
choice-returns-in_err-truth g t c = let p = err_from_is_err_and c.from_residual-in_err-truth.result c.from_residual-in_err-truth.ensures.1 in rw (p.1, p.2) (condition_stuck (setting g.H.Host.answers g.H.Host.modules c.args.self.now.machine) c.args.self.now.in_loop (expr_of c.args.flow.now.expr) (stmts_of c.args.flow.now.body.block) (stmts_of c.args.flow.now.branch.block) c.args.state.now c.expr.new.state c.in_ok-expr.field-0 _ c.in_ok-expr.ensures (rw c.in_err-truth.was at c.truth.ensures))

pub choice-returns-then-branch : goal.choice-returns-then-branch
choice-returns-then-branch g t c = body_runs (setting g.H.Host.answers g.H.Host.modules c.args.self.now.machine) c.args.self.now.in_loop (expr_of c.args.flow.now.expr) (stmts_of c.args.flow.now.body.block) (stmts_of c.args.flow.now.branch.block) c.args.state.now c.expr.new.state c.in_ok-expr.field-0 c.in_ok-truth.field-0 c.block.new.state c.block.result c.in_ok-expr.ensures (rw c.in_ok-truth.was at c.truth.ensures) c.if-branch.true c.block.ensures

pub choice-returns-else-branch : goal.choice-returns-else-branch
choice-returns-else-branch g t c = branch_runs (setting g.H.Host.answers g.H.Host.modules c.args.self.now.machine) c.args.self.now.in_loop (expr_of c.args.flow.now.expr) (stmts_of c.args.flow.now.body.block) (stmts_of c.args.flow.now.branch.block) c.args.state.now c.expr.new.state c.in_ok-expr.field-0 c.in_ok-truth.field-0 c.block-else-branch.new.state c.block-else-branch.result c.in_ok-expr.ensures (rw c.in_ok-truth.was at c.truth.ensures) c.if-branch.false c.block-else-branch.ensures

pub endless-returns-in_err-value : goal.endless-returns-in_err-value
endless-returns-in_err-value g t c = let p = err_from_is_err_and c.from_residual.result c.from_residual.ensures.1 in rw (p.1, p.2) (endless_stops (setting g.H.Host.answers g.H.Host.modules c.args.self.now.machine) (body_of (setting g.H.Host.answers g.H.Host.modules c.args.self.now.machine) (stmts_of c.args.body.now.block)) c.args.state.now c.loop-value.state c.round.new.state c.loop-value.invariant _ c.in_err-value.ensures.round)

pub endless-returns-in-Some : goal.endless-returns-in-Some
endless-returns-in-Some g t c = endless_ends (setting g.H.Host.answers g.H.Host.modules c.args.self.now.machine) (body_of (setting g.H.Host.answers g.H.Host.modules c.args.self.now.machine) (stmts_of c.args.body.now.block)) c.args.state.now c.loop-value.state c.round.new.state c.loop-value.invariant c.in-Some.value (rw c.in-Some.is at c.in_ok-value.ensures.round)

pub endless-loop-value-preserved : goal.endless-loop-value-preserved
endless-loop-value-preserved g t c = endless_next (setting g.H.Host.answers g.H.Host.modules c.args.self.now.machine) (body_of (setting g.H.Host.answers g.H.Host.modules c.args.self.now.machine) (stmts_of c.args.body.now.block)) c.args.state.now c.loop-value.state c.round.new.state c.loop-value.invariant (rw c.in_default.is at c.in_ok-value.ensures.round) c.in_ok-value.ensures.turns

pub guarded-returns-in_err-expr : goal.guarded-returns-in_err-expr
guarded-returns-in_err-expr g t c = let p = err_from_is_err_and c.from_residual.result c.from_residual.ensures.1 in rw (p.1, p.2) (while_stops (setting g.H.Host.answers g.H.Host.modules c.args.self.now.machine) (core_expr c.args.self.now.in_loop (expr_of c.args.guard.now)) (body_of (setting g.H.Host.answers g.H.Host.modules c.args.self.now.machine) (stmts_of c.args.body.now.block)) c.args.state.now c.loop-holds.state c.expr.new.state c.loop-holds.invariant _ c.in_err-expr.ensures)

pub guarded-returns-in_err-holds : goal.guarded-returns-in_err-holds
guarded-returns-in_err-holds g t c = let p = err_from_is_err_and c.from_residual-in_err-holds.result c.from_residual-in_err-holds.ensures.1 in rw (p.1, p.2) (while_stuck (setting g.H.Host.answers g.H.Host.modules c.args.self.now.machine) (core_expr c.args.self.now.in_loop (expr_of c.args.guard.now)) (body_of (setting g.H.Host.answers g.H.Host.modules c.args.self.now.machine) (stmts_of c.args.body.now.block)) c.args.state.now c.loop-holds.state c.expr.new.state c.loop-holds.invariant c.in_ok-expr.field-0 c.in_ok-expr.ensures _ (rw c.in_err-holds.was at c.truth.ensures))

pub guarded-returns-in_err-goes_on : goal.guarded-returns-in_err-goes_on
guarded-returns-in_err-goes_on g t c = let p = err_from_is_err_and c.from_residual-in_err-goes_on.result c.from_residual-in_err-goes_on.ensures.1 in rw (p.1, p.2) (guard_late (setting g.H.Host.answers g.H.Host.modules c.args.self.now.machine) (core_expr c.args.self.now.in_loop (expr_of c.args.guard.now)) (body_of (setting g.H.Host.answers g.H.Host.modules c.args.self.now.machine) (stmts_of c.args.body.now.block)) c.args.state.now c.loop-holds.state c.expr.new.state c.loop-holds.invariant c.in_ok-expr.field-0 c.in_ok-expr.ensures c.in_ok-holds.holds (rw c.in_ok-holds.was at c.truth.ensures) c.goes_on.new.self _ c.in_err-goes_on.ensures)

pub guarded-returns-then-not-branch : goal.guarded-returns-then-not-branch
guarded-returns-then-not-branch g t c = guard_over (setting g.H.Host.answers g.H.Host.modules c.args.self.now.machine) (core_expr c.args.self.now.in_loop (expr_of c.args.guard.now)) (body_of (setting g.H.Host.answers g.H.Host.modules c.args.self.now.machine) (stmts_of c.args.body.now.block)) c.args.state.now c.loop-holds.state c.expr.new.state c.loop-holds.invariant c.in_ok-expr.field-0 c.in_ok-expr.ensures c.in_ok-holds.holds (rw c.in_ok-holds.was at c.truth.ensures) c.goes_on.new.self c.in_ok-goes_on.field-0 c.in_ok-goes_on.ensures c.if-not-branch.true

pub guarded-returns-in_err-value : goal.guarded-returns-in_err-value
guarded-returns-in_err-value g t c = let p = err_from_is_err_and c.from_residual-in_err-value.result c.from_residual-in_err-value.ensures.1 in rw (p.1, p.2) (guard_leaves (setting g.H.Host.answers g.H.Host.modules c.args.self.now.machine) (core_expr c.args.self.now.in_loop (expr_of c.args.guard.now)) (body_of (setting g.H.Host.answers g.H.Host.modules c.args.self.now.machine) (stmts_of c.args.body.now.block)) c.args.state.now c.loop-holds.state c.expr.new.state c.loop-holds.invariant c.in_ok-expr.field-0 c.in_ok-expr.ensures c.in_ok-holds.holds (rw c.in_ok-holds.was at c.truth.ensures) c.goes_on.new.self c.in_ok-goes_on.field-0 c.in_ok-goes_on.ensures c.block.new.state c.block.result c.if-not-branch.false ((rw c.inside_loop-inside.ensures at c.block.ensures) false) _ c.in_err-value.ensures)

pub guarded-returns-in-Some : goal.guarded-returns-in-Some
guarded-returns-in-Some g t c = guard_ends (setting g.H.Host.answers g.H.Host.modules c.args.self.now.machine) (core_expr c.args.self.now.in_loop (expr_of c.args.guard.now)) (body_of (setting g.H.Host.answers g.H.Host.modules c.args.self.now.machine) (stmts_of c.args.body.now.block)) c.args.state.now c.loop-holds.state c.expr.new.state c.loop-holds.invariant c.in_ok-expr.field-0 c.in_ok-expr.ensures c.in_ok-holds.holds (rw c.in_ok-holds.was at c.truth.ensures) c.goes_on.new.self c.in_ok-goes_on.field-0 c.in_ok-goes_on.ensures c.block.new.state c.block.result c.if-not-branch.false ((rw c.inside_loop-inside.ensures at c.block.ensures) false) c.in-Some.value (rw c.in-Some.is at c.in_ok-value.ensures)

pub guarded-loop-holds-preserved : goal.guarded-loop-holds-preserved
guarded-loop-holds-preserved g t c = guard_next (setting g.H.Host.answers g.H.Host.modules c.args.self.now.machine) (core_expr c.args.self.now.in_loop (expr_of c.args.guard.now)) (body_of (setting g.H.Host.answers g.H.Host.modules c.args.self.now.machine) (stmts_of c.args.body.now.block)) c.args.state.now c.loop-holds.state c.expr.new.state c.loop-holds.invariant c.in_ok-expr.field-0 c.in_ok-expr.ensures c.in_ok-holds.holds (rw c.in_ok-holds.was at c.truth.ensures) c.goes_on.new.self c.in_ok-goes_on.field-0 c.in_ok-goes_on.ensures c.block.new.state c.block.result c.if-not-branch.false ((rw c.inside_loop-inside.ensures at c.block.ensures) false) (rw c.in_default.is at c.in_ok-value.ensures)

pub guarded-loop-holds-smaller : goal.guarded-loop-holds-smaller
guarded-loop-holds-smaller g t c = guard_falls (setting g.H.Host.answers g.H.Host.modules c.args.self.now.machine) (core_expr c.args.self.now.in_loop (expr_of c.args.guard.now)) (body_of (setting g.H.Host.answers g.H.Host.modules c.args.self.now.machine) (stmts_of c.args.body.now.block)) c.args.state.now c.loop-holds.state c.expr.new.state c.loop-holds.invariant c.in_ok-expr.field-0 c.in_ok-expr.ensures c.in_ok-holds.holds (rw c.in_ok-holds.was at c.truth.ensures) c.goes_on.new.self c.in_ok-goes_on.field-0 c.in_ok-goes_on.ensures c.block.new.state c.block.result c.if-not-branch.false ((rw c.inside_loop-inside.ensures at c.block.ensures) false) (rw c.in_default.is at c.in_ok-value.ensures)

pub while_loop-returns-then-is_unit : goal.while_loop-returns-then-is_unit
while_loop-returns-then-is_unit g t c = loop_always (setting g.H.Host.answers g.H.Host.modules c.args.self.now.machine) (expr_of c.args.flow.now.expr) (core_expr c.args.self.now.in_loop (expr_of c.args.flow.now.expr)) (core_stmts true (stmts_of c.args.flow.now.body.block)) c.args.state.now c.endless.new.state c.endless.result (sym c.is_unit.ensures ∙ c.if-is_unit.true) c.endless.ensures

pub while_loop-returns-else-is_unit : goal.while_loop-returns-else-is_unit
while_loop-returns-else-is_unit g t c = loop_when (setting g.H.Host.answers g.H.Host.modules c.args.self.now.machine) (expr_of c.args.flow.now.expr) (core_expr c.args.self.now.in_loop (expr_of c.args.flow.now.expr)) (core_stmts true (stmts_of c.args.flow.now.body.block)) c.args.state.now c.guarded.new.state c.guarded.result (sym c.is_unit.ensures ∙ c.if-is_unit.false) c.guarded.ensures

pub repeated-returns-in_err-value : goal.repeated-returns-in_err-value
repeated-returns-in_err-value g t c = let p = err_from_is_err_and c.from_residual.result c.from_residual.ensures.1 in rw (p.1, p.2) (do_stops (setting g.H.Host.answers g.H.Host.modules c.args.self.now.machine) c.args.until (core_expr c.args.self.now.in_loop (expr_of c.args.flow.now.expr)) (body_of (setting g.H.Host.answers g.H.Host.modules c.args.self.now.machine) (stmts_of c.args.flow.now.body.block)) c.args.state.now c.loop-value.state c.round.new.state c.loop-value.invariant _ c.in_err-value.ensures.round)

pub repeated-returns-in-Some : goal.repeated-returns-in-Some
repeated-returns-in-Some g t c = do_ends (setting g.H.Host.answers g.H.Host.modules c.args.self.now.machine) c.args.until (core_expr c.args.self.now.in_loop (expr_of c.args.flow.now.expr)) (body_of (setting g.H.Host.answers g.H.Host.modules c.args.self.now.machine) (stmts_of c.args.flow.now.body.block)) c.args.state.now c.loop-value.state c.round.new.state c.loop-value.invariant c.in-Some.value (rw c.in-Some.is at c.in_ok-value.ensures.round)

pub repeated-returns-in_err-expr : goal.repeated-returns-in_err-expr
repeated-returns-in_err-expr g t c = let p = err_from_is_err_and c.from_residual-in_err-expr.result c.from_residual-in_err-expr.ensures.1 in rw (p.1, p.2) (do_guard_stops (setting g.H.Host.answers g.H.Host.modules c.args.self.now.machine) c.args.until (core_expr c.args.self.now.in_loop (expr_of c.args.flow.now.expr)) (body_of (setting g.H.Host.answers g.H.Host.modules c.args.self.now.machine) (stmts_of c.args.flow.now.body.block)) c.args.state.now c.loop-value.state c.round.new.state c.loop-value.invariant (rw c.in_default.is at c.in_ok-value.ensures.round) c.expr.new.state _ c.in_err-expr.ensures)

pub repeated-returns-in_err-truth : goal.repeated-returns-in_err-truth
repeated-returns-in_err-truth g t c = let p = err_from_is_err_and c.from_residual-in_err-truth.result c.from_residual-in_err-truth.ensures.1 in rw (p.1, p.2) (do_guard_stuck (setting g.H.Host.answers g.H.Host.modules c.args.self.now.machine) c.args.until (core_expr c.args.self.now.in_loop (expr_of c.args.flow.now.expr)) (body_of (setting g.H.Host.answers g.H.Host.modules c.args.self.now.machine) (stmts_of c.args.flow.now.body.block)) c.args.state.now c.loop-value.state c.round.new.state c.loop-value.invariant (rw c.in_default.is at c.in_ok-value.ensures.round) c.expr.new.state c.in_ok-expr.field-0 c.in_ok-expr.ensures _ (rw c.in_err-truth.was at c.truth.ensures))

pub repeated-returns-then-ends_at : goal.repeated-returns-then-ends_at
repeated-returns-then-ends_at g t c = do_over (setting g.H.Host.answers g.H.Host.modules c.args.self.now.machine) c.args.until (core_expr c.args.self.now.in_loop (expr_of c.args.flow.now.expr)) (body_of (setting g.H.Host.answers g.H.Host.modules c.args.self.now.machine) (stmts_of c.args.flow.now.body.block)) c.args.state.now c.loop-value.state c.round.new.state c.loop-value.invariant (rw c.in_default.is at c.in_ok-value.ensures.round) c.expr.new.state c.in_ok-expr.field-0 c.in_ok-expr.ensures c.in_ok-truth.field-0 (rw c.in_ok-truth.was at c.truth.ensures) (c.ends_at.ensures.0 c.if-ends_at.true)

pub repeated-loop-value-preserved : goal.repeated-loop-value-preserved
repeated-loop-value-preserved g t c = do_next (setting g.H.Host.answers g.H.Host.modules c.args.self.now.machine) c.args.until (core_expr c.args.self.now.in_loop (expr_of c.args.flow.now.expr)) (body_of (setting g.H.Host.answers g.H.Host.modules c.args.self.now.machine) (stmts_of c.args.flow.now.body.block)) c.args.state.now c.loop-value.state c.round.new.state c.loop-value.invariant (rw c.in_default.is at c.in_ok-value.ensures.round) c.expr.new.state c.in_ok-expr.field-0 c.in_ok-expr.ensures c.in_ok-truth.field-0 (rw c.in_ok-truth.was at c.truth.ensures) (λ h. let z : true ≡ false = sym (c.ends_at.ensures.1 h) ∙ c.if-ends_at.false in cc) c.in_ok-value.ensures.turns

pub round-returns-clause-round : goal.round-returns-clause-round
round-returns-clause-round g t c = round_runs (setting g.H.Host.answers g.H.Host.modules c.args.self.now.machine) (body_of (setting g.H.Host.answers g.H.Host.modules c.args.self.now.machine) (stmts_of c.args.body.now.block)) c.args.state.now c.take_turn.new.self c.block.new.state c.in_ok-take_turn.field-0 c.block.result c.in_ok-take_turn.ensures ((rw c.inside_loop-inside.ensures at c.block.ensures) false) c.round_ended.result c.round_ended.ensures

pub round-returns-clause-turns : goal.round-returns-clause-turns
round-returns-clause-turns g t c = round_turns (setting g.H.Host.answers g.H.Host.modules c.args.self.now.machine) (body_of (setting g.H.Host.answers g.H.Host.modules c.args.self.now.machine) (stmts_of c.args.body.now.block)) c.args.state.now c.take_turn.new.self c.block.new.state c.in_ok-take_turn.field-0 c.block.result c.round_ended.result c.in_ok-take_turn.ensures ((rw c.inside_loop-inside.ensures at c.block.ensures) false) c.round_ended.ensures

pub both-expr-requires : goal.both-expr-requires
both-expr-requires g t c =
    let lighter : expr_weight (expr_of c.operand-item.result) ≤ exprs_weight (exprs_of c.args.operands.now) = expr_item c.args.operands.now c.loop-operand.operand-index c.operand-item.result c.loop-operand-test.true c.operand-item.is in search rules

pub either-expr-requires : goal.either-expr-requires
either-expr-requires g t c =
    let lighter : expr_weight (expr_of c.operand-item.result) ≤ exprs_weight (exprs_of c.args.operands.now) = expr_item c.args.operands.now c.loop-operand.operand-index c.operand-item.result c.loop-operand-test.true c.operand-item.is in search rules

pub first_some-expr-requires : goal.first_some-expr-requires
first_some-expr-requires g t c =
    let lighter : expr_weight (expr_of c.operand-item.result) ≤ exprs_weight (exprs_of c.args.operands.now) = expr_item c.args.operands.now c.loop-operand.operand-index c.operand-item.result c.loop-operand-test.true c.operand-item.is in search rules

pub exprs-expr-requires : goal.exprs-expr-requires
exprs-expr-requires g t c =
    let lighter : expr_weight (expr_of c.expr-item.result) ≤ exprs_weight (exprs_of c.args.exprs.now) = expr_item c.args.exprs.now c.loop-expr.expr-index c.expr-item.result c.loop-expr-test.true c.expr-item.is in search rules

pub members-expr-requires : goal.members-expr-requires
members-expr-requires g t c =
    let lighter : expr_weight (expr_of c.member-item.result.1) ≤ over_pairs (total own_weight) (pairs_of c.args.members.now) = member_item c.args.members.now c.loop-member.member-index c.member-item.result c.loop-member-test.true c.member-item.is in search rules

pub statements-statement-requires : goal.statements-statement-requires
statements-statement-requires g t c =
    let lighter : stmt_weight (stmt_of c.statement-item.result) ≤ weight (stmts_of c.args.statements.now) = stmt_item c.args.statements.now c.loop-statement.statement-index c.statement-item.result c.loop-statement-test.true c.statement-item.is in search rules

pub arm-expr-requires : goal.arm-expr-requires
arm-expr-requires g t c =
    let lighter : expr_weight (expr_of c.in-Some.arm.now.lhs) + expr_weight (expr_of c.in-Some.arm.now.rhs) ≤ arms_weight (arms_of c.args.arms.now) = arm_weight c.args.arms.now c.args.place c.in-Some.arm.now (arm_there c.args.arms.now c.args.place c.in-Some.arm.now c.in-Some.ensures.lookup.0 c.in-Some.ensures.lookup.1) in
    search rules

pub arm-expr-requires-2 : goal.arm-expr-requires-2
arm-expr-requires-2 g t c =
    let lighter : expr_weight (expr_of c.in-Some.arm.now.lhs) + expr_weight (expr_of c.in-Some.arm.now.rhs) ≤ arms_weight (arms_of c.args.arms.now) = arm_weight c.args.arms.now c.args.place c.in-Some.arm.now (arm_there c.args.arms.now c.args.place c.in-Some.arm.now c.in-Some.ensures.lookup.0 c.in-Some.ensures.lookup.1) in
    search rules

pub default_arm-expr-requires : goal.default_arm-expr-requires
default_arm-expr-requires g t c =
    let lighter : expr_weight (expr_of c.in-Some-get.arm.now.lhs) + expr_weight (expr_of c.in-Some-get.arm.now.rhs) ≤ arms_weight (arms_of c.args.arms.now) = arm_weight c.args.arms.now c.in-Some.place c.in-Some-get.arm.now (arm_there c.args.arms.now c.in-Some.place c.in-Some-get.arm.now c.in-Some-get.ensures.lookup.0 c.in-Some-get.ensures.lookup.1) in
    search rules

pub arm-returns-in_default : goal.arm-returns-in_default
arm-returns-in_default g t c = arm_missing (setting g.H.Host.answers g.H.Host.modules c.args.self.now.machine) c.args.self.now.in_loop c.args.arms.now c.args.place c.args.state.now (arm_past c.args.arms.now c.args.place c.in_default.ensures.lookup.0)

pub arm-returns-in_err-expr : goal.arm-returns-in_err-expr
arm-returns-in_err-expr g t c = let p = err_from_is_err_and c.from_residual.result c.from_residual.ensures.1 in rw (p.1, p.2) (arm_stops (setting g.H.Host.answers g.H.Host.modules c.args.self.now.machine) c.args.self.now.in_loop c.args.arms.now c.args.place c.args.state.now c.in-Some.arm.now (arm_there c.args.arms.now c.args.place c.in-Some.arm.now c.in-Some.ensures.lookup.0 c.in-Some.ensures.lookup.1) c.expr.new.state _ c.in_err-expr.ensures)

pub arm-returns-in_err-truth : goal.arm-returns-in_err-truth
arm-returns-in_err-truth g t c = let p = err_from_is_err_and c.from_residual-in_err-truth.result c.from_residual-in_err-truth.ensures.1 in rw (p.1, p.2) (arm_stuck (setting g.H.Host.answers g.H.Host.modules c.args.self.now.machine) c.args.self.now.in_loop c.args.arms.now c.args.place c.args.state.now c.in-Some.arm.now (arm_there c.args.arms.now c.args.place c.in-Some.arm.now c.in-Some.ensures.lookup.0 c.in-Some.ensures.lookup.1) c.expr.new.state c.in_ok-expr.field-0 c.in_ok-expr.ensures _ (rw c.in_err-truth.was at c.truth.ensures))

pub arm-returns-then-not-branch : goal.arm-returns-then-not-branch
arm-returns-then-not-branch g t c = arm_false (setting g.H.Host.answers g.H.Host.modules c.args.self.now.machine) c.args.self.now.in_loop c.args.arms.now c.args.place c.args.state.now c.in-Some.arm.now (arm_there c.args.arms.now c.args.place c.in-Some.arm.now c.in-Some.ensures.lookup.0 c.in-Some.ensures.lookup.1) c.expr.new.state c.in_ok-expr.field-0 c.in_ok-expr.ensures c.in_ok-truth.field-0 (rw c.in_ok-truth.was at c.truth.ensures) c.if-not-branch.true

pub arm-returns : goal.arm-returns
arm-returns g t c = arm_true (setting g.H.Host.answers g.H.Host.modules c.args.self.now.machine) c.args.self.now.in_loop c.args.arms.now c.args.place c.args.state.now c.in-Some.arm.now (arm_there c.args.arms.now c.args.place c.in-Some.arm.now c.in-Some.ensures.lookup.0 c.in-Some.ensures.lookup.1) c.expr.new.state c.in_ok-expr.field-0 c.in_ok-expr.ensures c.in_ok-truth.field-0 c.expr-2.new.state c.in_ok-expr-2.field-0 (rw c.in_ok-truth.was at c.truth.ensures) c.if-not-branch.false c.in_ok-expr-2.ensures

pub arm-returns-in_err-expr-2 : goal.arm-returns-in_err-expr-2
arm-returns-in_err-expr-2 g t c = let p = err_from_is_err_and c.from_residual-in_err-expr-2.result c.from_residual-in_err-expr-2.ensures.1 in rw (p.1, p.2) (arm_leaves (setting g.H.Host.answers g.H.Host.modules c.args.self.now.machine) c.args.self.now.in_loop c.args.arms.now c.args.place c.args.state.now c.in-Some.arm.now (arm_there c.args.arms.now c.args.place c.in-Some.arm.now c.in-Some.ensures.lookup.0 c.in-Some.ensures.lookup.1) c.expr.new.state c.in_ok-expr.field-0 c.in_ok-expr.ensures c.in_ok-truth.field-0 c.expr-2.new.state _ (rw c.in_ok-truth.was at c.truth.ensures) c.if-not-branch.false c.in_err-expr-2.ensures)

pub default_arm-returns-in-None : goal.default_arm-returns-in-None
default_arm-returns-in-None g t c = rw c.in-Some.is (default_missing (setting g.H.Host.answers g.H.Host.modules c.args.self.now.machine) c.args.self.now.in_loop c.args.arms.now c.in-Some.place c.args.state.now (arm_past c.args.arms.now c.in-Some.place c.in-None.ensures.lookup.0))

pub default_arm-returns-in-Some-get : goal.default_arm-returns-in-Some-get
default_arm-returns-in-Some-get g t c = rw c.in-Some.is (default_runs (setting g.H.Host.answers g.H.Host.modules c.args.self.now.machine) c.args.self.now.in_loop c.args.arms.now c.in-Some.place c.in-Some-get.arm.now c.args.state.now c.expr.new.state c.expr.result (arm_there c.args.arms.now c.in-Some.place c.in-Some-get.arm.now c.in-Some-get.ensures.lookup.0 c.in-Some-get.ensures.lookup.1) c.expr.ensures)

pub choose-returns-in_err-value : goal.choose-returns-in_err-value
choose-returns-in_err-value g t c = let p = err_from_is_err_and c.from_residual.result c.from_residual.ensures.1 in rw (p.1, p.2) (arms_stop (setting g.H.Host.answers g.H.Host.modules c.args.self.now.machine) (arms_here (setting g.H.Host.answers g.H.Host.modules c.args.self.now.machine) c.args.self.now.in_loop (arms_of (expressions_of c.args.table.now))) (table_of c.args.table.now) (value_of c.args.subject.now) c.args.state.now c.chosen_arm.new.state _ c.in_err-value.ensures)

pub choose-returns-in-Some : goal.choose-returns-in-Some
choose-returns-in-Some g t c = arms_end (setting g.H.Host.answers g.H.Host.modules c.args.self.now.machine) (arms_here (setting g.H.Host.answers g.H.Host.modules c.args.self.now.machine) c.args.self.now.in_loop (arms_of (expressions_of c.args.table.now))) (table_of c.args.table.now) (value_of c.args.subject.now) c.args.state.now c.chosen_arm.new.state c.in-Some.value (rw c.in-Some.is at c.in_ok-value.ensures)

pub choose-returns-in-None : goal.choose-returns-in-None
choose-returns-in-None g t c = arms_default (setting g.H.Host.answers g.H.Host.modules c.args.self.now.machine) (arms_here (setting g.H.Host.answers g.H.Host.modules c.args.self.now.machine) c.args.self.now.in_loop (arms_of (expressions_of c.args.table.now))) (table_of c.args.table.now) (value_of c.args.subject.now) c.args.state.now c.chosen_arm.new.state c.default_arm.new.state c.default_arm.result (rw c.in-None.is at c.in_ok-value.ensures) (rw c.as_slice.ensures at c.default_arm.ensures)

pub first_arm-returns-in_err-value : goal.first_arm-returns-in_err-value
first_arm-returns-in_err-value g t c = let p = err_from_is_err_and c.from_residual.result c.from_residual.ensures.1 in rw (p.1, p.2) (places_stops (setting g.H.Host.answers g.H.Host.modules c.args.self.now.machine) c.args.self.now.in_loop c.args.arms.now c.args.places.now (drop c.loop-place.place-index c.args.places.now) (drop (c.loop-place.place-index + 1) c.args.places.now) (get_or c.args.places.now c.loop-place.place-index 0) c.args.state.now c.loop-place.state c.arm.new.state (drop_more c.args.places.now c.loop-place.place-index 0 c.loop-place-test.true) c.loop-place.invariant _ c.in_err-value.ensures)

pub first_arm-returns-in-Some : goal.first_arm-returns-in-Some
first_arm-returns-in-Some g t c = places_ends (setting g.H.Host.answers g.H.Host.modules c.args.self.now.machine) c.args.self.now.in_loop c.args.arms.now c.args.places.now (drop c.loop-place.place-index c.args.places.now) (drop (c.loop-place.place-index + 1) c.args.places.now) (get_or c.args.places.now c.loop-place.place-index 0) c.args.state.now c.loop-place.state c.arm.new.state (drop_more c.args.places.now c.loop-place.place-index 0 c.loop-place-test.true) c.loop-place.invariant c.in-Some.value (rw c.in-Some.is at c.in_ok-value.ensures)

pub first_arm-loop-place-preserved : goal.first_arm-loop-place-preserved
first_arm-loop-place-preserved g t c = places_next (setting g.H.Host.answers g.H.Host.modules c.args.self.now.machine) c.args.self.now.in_loop c.args.arms.now c.args.places.now (drop c.loop-place.place-index c.args.places.now) (drop (c.loop-place.place-index + 1) c.args.places.now) (get_or c.args.places.now c.loop-place.place-index 0) c.args.state.now c.loop-place.state c.arm.new.state (drop_more c.args.places.now c.loop-place.place-index 0 c.loop-place-test.true) c.loop-place.invariant (rw c.in_default.is at c.in_ok-value.ensures)

pub first_arm-returns : goal.first_arm-returns
first_arm-returns g t c = places_end (setting g.H.Host.answers g.H.Host.modules c.args.self.now.machine) c.args.self.now.in_loop c.args.arms.now c.args.places.now (drop c.loop-place.place-index c.args.places.now) c.args.state.now c.loop-place.state (drop_all c.loop-place.place-index c.args.places.now (omega (arith, c.loop-place-test.false))) c.loop-place.invariant

pub assignment-returns-in_default : goal.assignment-returns-in_default
assignment-returns-in_default g t c = assign_stuck (setting g.H.Host.answers g.H.Host.modules c.args.self.now.machine) c.args.self.now.in_loop (operator_of c.args.op.now.op) (expr_of c.args.sides.now.lhs) (expr_of c.args.sides.now.rhs) c.args.state.now c.in_default.ensures.side

pub assignment-returns-in_err-value : goal.assignment-returns-in_err-value
assignment-returns-in_err-value g t c = let p = err_from_is_err_and c.from_residual.result c.from_residual.ensures.1 in rw (p.1, p.2) (assign_stops (setting g.H.Host.answers g.H.Host.modules c.args.self.now.machine) c.args.self.now.in_loop (operator_of c.args.op.now.op) (expr_of c.args.sides.now.lhs) (expr_of c.args.sides.now.rhs) c.args.state.now c.in-Some.ensures.side.0 c.expr.new.state _ c.in_err-value.ensures)

pub assignment-returns : goal.assignment-returns
assignment-returns g t c = assign_runs (setting g.H.Host.answers g.H.Host.modules c.args.self.now.machine) c.args.self.now.in_loop (operator_of c.args.op.now.op) (expr_of c.args.sides.now.lhs) (expr_of c.args.sides.now.rhs) c.args.state.now c.in-Some.ensures.side.0 c.expr.new.state (side_core c.args.self.now.in_loop c.in-Some.side) c.in_ok-value.value c.assign.new.state c.assign.result (c.in-Some.ensures.side.1 c.args.self.now.in_loop) c.in_ok-value.ensures c.assign.ensures

pub assign-returns-in_ok-assign_part-in-Part : goal.assign-returns-in_ok-assign_part-in-Part
assign-returns-in_ok-assign_part-in-Part g t c = rw c.in-Part.is (unit_value _ _ _ _ c.in_ok-assign_part-in-Part.ensures)

pub try_catch-returns-in_err-caught : goal.try_catch-returns-in_err-caught
try_catch-returns-in_err-caught g t c = let p = err_from_is_err_and c.from_residual.result c.from_residual.ensures.1 in rw (p.1, p.2) (try_stops (setting g.H.Host.answers g.H.Host.modules c.args.self.now.machine) c.args.self.now.in_loop (expr_of c.args.flow.now.expr) (stmts_of c.args.flow.now.body.block) (stmts_of c.args.flow.now.branch.block) (option_copied c.in-Some.name) (sym c.in-Some.ensures) c.args.state.now c.block.new.state c.block.result c.block.ensures _ (rw c.in_err-caught.was at c.body_ended.ensures))

pub try_catch-returns-in-None : goal.try_catch-returns-in-None
try_catch-returns-in-None g t c = try_ends (setting g.H.Host.answers g.H.Host.modules c.args.self.now.machine) c.args.self.now.in_loop (expr_of c.args.flow.now.expr) (stmts_of c.args.flow.now.body.block) (stmts_of c.args.flow.now.branch.block) (option_copied c.in-Some.name) (sym c.in-Some.ensures) c.args.state.now c.block.new.state c.block.result c.block.ensures (rw (c.in_ok-caught.was, c.in-None.is) at c.body_ended.ensures)

pub try_catch-returns-in-Some-2 : goal.try_catch-returns-in-Some-2
try_catch-returns-in-Some-2 g t c = try_catches (setting g.H.Host.answers g.H.Host.modules c.args.self.now.machine) c.args.self.now.in_loop (expr_of c.args.flow.now.expr) (stmts_of c.args.flow.now.body.block) (stmts_of c.args.flow.now.branch.block) (option_copied c.in-Some.name) (sym c.in-Some.ensures) c.args.state.now c.block.new.state c.block.result c.block.ensures c.in-Some-2.caught c.catch.new.state c.catch.result (rw (c.in_ok-caught.was, c.in-Some-2.is) at c.body_ended.ensures) c.catch.ensures

pub catch-returns : goal.catch-returns
catch-returns g t c =
    catch_runs (setting g.H.Host.answers g.H.Host.modules c.args.self.now.machine) (core_stmts c.args.self.now.in_loop (stmts_of c.args.branch.now.block)) (option_copied c.args.name) c.args.caught c.args.state.now c.begin_list-mark.new.self c.declare_caught.new.state c.statements-ended.new.state c.end_list.new.self c.statements-ended.result c.branch_ended.result c.in_ok-declare_caught.ensures.store c.in_ok-declare_caught.ensures.turns ((rw c.statements.ensures at c.statements-ended.ensures) false) (record { begun = c.begin_list-mark.ensures.store; before = c.begin_list-mark.ensures.turns; left = c.end_list.ensures.store (store_of c.args.state.now) c.begin_list-mark.ensures.mark; after = c.end_list.ensures.turns }) c.branch_ended.ensures

pub map-returns : goal.map-returns
map-returns g t c = map_runs (setting g.H.Host.answers g.H.Host.modules c.args.self.now.machine) c.args.self.now.in_loop (pairs_of c.args.literal.now.0) (keys_of c.args.literal.now.1) c.args.state.now c.members.new.state c.in_ok-members.field-0 ((rw c.as_slice.ensures at c.in_ok-is_map.ensures) ∙ c.if-not-branch.false) (rw c.as_slice-2.ensures at c.in_ok-members.ensures)

pub map-returns-in_err-members : goal.map-returns-in_err-members
map-returns-in_err-members g t c = let p = err_from_is_err_and c.from_residual-in_err-members.result c.from_residual-in_err-members.ensures.1 in rw (p.1, p.2) (map_stops (setting g.H.Host.answers g.H.Host.modules c.args.self.now.machine) c.args.self.now.in_loop (pairs_of c.args.literal.now.0) (keys_of c.args.literal.now.1) c.args.state.now c.members.new.state _ ((rw c.as_slice.ensures at c.in_ok-is_map.ensures) ∙ c.if-not-branch.false) (rw c.as_slice-2.ensures at c.in_err-members.ensures))

pub expr-returns-in-FnCall : goal.expr-returns-in-FnCall
expr-returns-in-FnCall g t c = call_of_expr (setting g.H.Host.answers g.H.Host.modules c.args.self.now.machine) c.args.self.now.in_loop c.args.state.now c.call.new.state c.args.expr.now c.in-FnCall.call c.get-in-FnCall.result.now c.in-FnCall.field-1 c.call.result c.in-FnCall.is c.get-in-FnCall.ensures c.call.ensures

pub expr-returns-in-Map : goal.expr-returns-in-Map
expr-returns-in-Map g t c = map_of_expr (setting g.H.Host.answers g.H.Host.modules c.args.self.now.machine) c.args.self.now.in_loop c.args.state.now c.map.new.state c.args.expr.now c.in-Map.literal c.get-in-Map.result.now c.in-Map.field-1 c.map.result c.in-Map.is c.get-in-Map.ensures c.map.ensures

pub expr-returns-in-Stmt : goal.expr-returns-in-Stmt
expr-returns-in-Stmt g t c = braces_of_expr (setting g.H.Host.answers g.H.Host.modules c.args.self.now.machine) c.args.self.now.in_loop c.args.state.now c.block.new.state c.args.expr.now c.in-Stmt.block c.get-in-Stmt.result.now c.block.result c.in-Stmt.is c.get-in-Stmt.ensures c.block.ensures

pub expr-returns-in_ok-exprs-in-Array : goal.expr-returns-in_ok-exprs-in-Array
expr-returns-in_ok-exprs-in-Array g t c = array_of_expr (setting g.H.Host.answers g.H.Host.modules c.args.self.now.machine) c.args.self.now.in_loop c.args.state.now c.exprs-in-Array.new.state c.args.expr.now c.in-Array.items c.as_slice-in-Array.result.now c.in-Array.field-1 c.in_ok-exprs-in-Array.field-0 c.in-Array.is (c.as_slice-in-Array.ensures ∙ c.get-in-Array.ensures) c.in_ok-exprs-in-Array.ensures

pub expr-returns-in_ok-joined_text-in-InterpolatedString : goal.expr-returns-in_ok-joined_text-in-InterpolatedString
expr-returns-in_ok-joined_text-in-InterpolatedString g t c = text_of_expr (setting g.H.Host.answers g.H.Host.modules c.args.self.now.machine) c.args.self.now.in_loop c.args.state.now c.exprs.new.state c.args.expr.now c.in-InterpolatedString.parts c.as_slice.result.now c.in-InterpolatedString.field-1 c.in_ok-exprs-in-InterpolatedString.field-0 c.in_ok-joined_text-in-InterpolatedString.field-0 c.in-InterpolatedString.is (c.as_slice.ensures ∙ c.get-in-InterpolatedString.ensures) c.in_ok-exprs-in-InterpolatedString.ensures c.in_ok-joined_text-in-InterpolatedString.ensures

pub statement-returns-in-If : goal.statement-returns-in-If
statement-returns-in-If g t c = if_of_stmt (setting g.H.Host.answers g.H.Host.modules c.args.self.now.machine) c.args.self.now.in_loop c.args.state.now c.choice.new.state c.args.statement.now c.choice.result c.in-If.flow c.get.result.now _ c.in-If.is c.get.ensures c.choice.ensures

pub statement-returns-in-FnCall : goal.statement-returns-in-FnCall
statement-returns-in-FnCall g t c = call_of_stmt (setting g.H.Host.answers g.H.Host.modules c.args.self.now.machine) c.args.self.now.in_loop c.args.state.now c.call.new.state c.args.statement.now c.call.result c.in-FnCall.call c.get-in-FnCall.result.now _ c.in-FnCall.is c.get-in-FnCall.ensures c.call.ensures

pub statement-returns-in-Block : goal.statement-returns-in-Block
statement-returns-in-Block g t c = block_of_stmt (setting g.H.Host.answers g.H.Host.modules c.args.self.now.machine) c.args.self.now.in_loop c.args.state.now c.block.new.state c.args.statement.now c.block.result c.in-Block.block c.get-in-Block.result.now c.in-Block.is c.get-in-Block.ensures c.block.ensures

pub statement-returns-in-Switch : goal.statement-returns-in-Switch
statement-returns-in-Switch g t c = switch_of_stmt (setting g.H.Host.answers g.H.Host.modules c.args.self.now.machine) c.args.self.now.in_loop c.args.state.now c.switch.new.state c.args.statement.now c.switch.result c.in-Switch.block c.get-in-Switch.result.now _ c.in-Switch.is c.get-in-Switch.ensures c.switch.ensures

pub statement-returns-in-For : goal.statement-returns-in-For
statement-returns-in-For g t c = for_of_stmt (setting g.H.Host.answers g.H.Host.modules c.args.self.now.machine) c.args.self.now.in_loop c.args.state.now c.for_loop.new.state c.args.statement.now c.for_loop.result c.in-For.parts c.get-in-For.result.now _ c.in-For.is c.get-in-For.ensures c.for_loop.ensures

pub expr-returns-in-Property : goal.expr-returns-in-Property
expr-returns-in-Property g t c = property_of_expr (setting g.H.Host.answers g.H.Host.modules c.args.self.now.machine) c.args.self.now.in_loop c.args.state.now c.args.state.now c.args.expr.now c.in-Property.field-0 c.in-Property.field-1 c.in-Property.is

pub expr-returns-in-MethodCall : goal.expr-returns-in-MethodCall
expr-returns-in-MethodCall g t c = method_of_expr (setting g.H.Host.answers g.H.Host.modules c.args.self.now.machine) c.args.self.now.in_loop c.args.state.now c.args.state.now c.args.expr.now c.in-MethodCall.field-0 c.in-MethodCall.field-1 c.in-MethodCall.is

pub expr-returns-in-Dot : goal.expr-returns-in-Dot
expr-returns-in-Dot g t c = dot_of_expr (setting g.H.Host.answers g.H.Host.modules c.args.self.now.machine) c.args.self.now.in_loop c.args.state.now c.chain.new.state c.args.expr.now c.in-Dot.sides c.get-in-Dot.result.now c.in-Dot.options c.in-Dot.field-2 c.chain.result c.in-Dot.is c.get-in-Dot.ensures c.chain.ensures

pub expr-returns-in-Index : goal.expr-returns-in-Index
expr-returns-in-Index g t c = index_of_expr (setting g.H.Host.answers g.H.Host.modules c.args.self.now.machine) c.args.self.now.in_loop c.args.state.now c.chain-in-Index.new.state c.args.expr.now c.in-Index.sides c.get-in-Index.result.now c.in-Index.options c.in-Index.field-2 c.chain-in-Index.result c.in-Index.is c.get-in-Index.ensures c.chain-in-Index.ensures

pub first_range-returns : goal.first_range-returns
first_range-returns g t c = ranges_end (setting g.H.Host.answers g.H.Host.modules c.args.self.now.machine) c.args.self.now.in_loop c.args.arms.now (value_of c.args.subject.now) (map range_of c.args.ranges.now) (map range_of (drop c.loop-range.range-index c.args.ranges.now)) c.args.state.now c.loop-range.state (ap (map range_of) (drop_all c.loop-range.range-index c.args.ranges.now (omega (arith, c.loop-range-test.false)))) c.loop-range.invariant

pub for_body-returns : goal.for_body-returns
for_body-returns g t c = λ k e. for_body_runs (setting g.H.Host.answers g.H.Host.modules c.args.self.now.machine) (counter_of c.args.parts.now.1) c.args.parts.now.0.name k c.args.item (body_of (setting g.H.Host.answers g.H.Host.modules c.args.self.now.machine) (stmts_of c.args.parts.now.2.body.block)) c.args.state.now c.declare_count.new.state c.declare.new.self c.statements-2.new.state c.in_ok-declare_count.field-0 c.statements-2.result (c.in_ok-declare_count.ensures (setting g.H.Host.answers g.H.Host.modules c.args.self.now.machine) k e) c.in_ok-declare.ensures.store c.in_ok-declare.ensures.turns ((rw (c.inside_loop.ensures, c.statements.ensures) at c.statements-2.ensures) false)

pub for_round-returns : goal.for_round-returns
for_round-returns g t c =
    λ k e. for_round_runs (setting g.H.Host.answers g.H.Host.modules c.args.self.now.machine) (counted (counter_of c.args.parts.now.1) k (Named c.args.parts.now.0.name IsVariable (value_of c.args.item) (body_of (setting g.H.Host.answers g.H.Host.modules c.args.self.now.machine) (stmts_of c.args.parts.now.2.body.block)))) c.args.state.now c.take_turn.new.self c.begin_list-mark.new.self c.for_body-ended.new.state c.end_list.new.self c.in_ok-take_turn.field-0 c.for_body-ended.result c.round_ended.result c.in_ok-take_turn.ensures (record { begun = c.begin_list-mark.ensures.store; before = c.begin_list-mark.ensures.turns; left = c.end_list.ensures.store (store_of c.take_turn.new.self) c.begin_list-mark.ensures.mark; after = c.end_list.ensures.turns }) (c.for_body-ended.ensures k e) c.round_ended.ensures

pub for_each-returns-in_err-value : goal.for_each-returns-in_err-value
for_each-returns-in_err-value g t c = let p = err_from_is_err_and c.from_residual.result c.from_residual.ensures.1 in rw (p.1, p.2) (each_stops (setting g.H.Host.answers g.H.Host.modules c.args.self.now.machine) c.args.parts.now.0.name (counter_of c.args.parts.now.1) (body_of (setting g.H.Host.answers g.H.Host.modules c.args.self.now.machine) (stmts_of c.args.parts.now.2.body.block)) c.args.items c.loop-item.rest c.next.new.self c.in-Some.item c.loop-item.count c.args.state.now c.loop-item.state c.for_round.new.state c.in-Some.ensures c.loop-item.invariant _ c.in_err-value.ensures)

pub for_each-returns-in-Some-2 : goal.for_each-returns-in-Some-2
for_each-returns-in-Some-2 g t c = each_ends (setting g.H.Host.answers g.H.Host.modules c.args.self.now.machine) c.args.parts.now.0.name (counter_of c.args.parts.now.1) (body_of (setting g.H.Host.answers g.H.Host.modules c.args.self.now.machine) (stmts_of c.args.parts.now.2.body.block)) c.args.items c.loop-item.rest c.next.new.self c.in-Some.item c.loop-item.count c.args.state.now c.loop-item.state c.for_round.new.state c.in-Some.ensures c.loop-item.invariant c.in-Some-2.value (λ k e. rw c.in-Some-2.is at (c.in_ok-value.ensures k e))

pub for_each-loop-item-preserved : goal.for_each-loop-item-preserved
for_each-loop-item-preserved g t c = each_next (setting g.H.Host.answers g.H.Host.modules c.args.self.now.machine) c.args.parts.now.0.name (counter_of c.args.parts.now.1) (body_of (setting g.H.Host.answers g.H.Host.modules c.args.self.now.machine) (stmts_of c.args.parts.now.2.body.block)) c.args.items c.loop-item.rest c.next.new.self c.in-Some.item c.loop-item.count c.args.state.now c.loop-item.state c.for_round.new.state c.in-Some.ensures c.loop-item.invariant c.next_count-count.result (λ k e. rw c.in_default-2.is at (c.in_ok-value.ensures k e)) c.next_count-count.ensures

pub for_loop-returns-in-Ok : goal.for_loop-returns-in-Ok
for_loop-returns-in-Ok g t c = for_array (setting g.H.Host.answers g.H.Host.modules c.args.self.now.machine) c.args.parts.now.0.name (counter_of c.args.parts.now.1) (body_of (setting g.H.Host.answers g.H.Host.modules c.args.self.now.machine) (stmts_of c.args.parts.now.2.body.block)) c.args.self.now.in_loop (expr_of c.args.parts.now.2.expr) c.args.state.now c.expr.new.state c.for_each.new.state c.in_ok-expr.field-0 c.for_each.result c.in_ok-expr.ensures c.in-Ok.items c.in-Ok.ensures c.for_each.ensures

pub first_range-returns-in_err-value : goal.first_range-returns-in_err-value
first_range-returns-in_err-value g t c = let p = err_from_is_err_and c.from_residual.result c.from_residual.ensures.1 in rw (p.1, p.2) (ranges_stops (setting g.H.Host.answers g.H.Host.modules c.args.self.now.machine) c.args.self.now.in_loop c.args.arms.now (value_of c.args.subject.now) (map range_of c.args.ranges.now) (map range_of (drop c.loop-range.range-index c.args.ranges.now)) (map range_of (drop (c.loop-range.range-index + 1) c.args.ranges.now)) (range_of (get_or c.args.ranges.now c.loop-range.range-index no_range)) c.args.state.now c.loop-range.state c.range_arm.new.state (range_at c.args.ranges.now c.loop-range.range-index c.loop-range-test.true) c.loop-range.invariant _ c.in_err-value.ensures)

pub first_range-returns-in-Some : goal.first_range-returns-in-Some
first_range-returns-in-Some g t c = ranges_ends (setting g.H.Host.answers g.H.Host.modules c.args.self.now.machine) c.args.self.now.in_loop c.args.arms.now (value_of c.args.subject.now) (map range_of c.args.ranges.now) (map range_of (drop c.loop-range.range-index c.args.ranges.now)) (map range_of (drop (c.loop-range.range-index + 1) c.args.ranges.now)) (range_of (get_or c.args.ranges.now c.loop-range.range-index no_range)) c.args.state.now c.loop-range.state c.range_arm.new.state (range_at c.args.ranges.now c.loop-range.range-index c.loop-range-test.true) c.loop-range.invariant c.in-Some.value (rw c.in-Some.is at c.in_ok-value.ensures)

pub range_arm-returns-else-contains : goal.range_arm-returns-else-contains
range_arm-returns-else-contains g t c =
    range_misses (setting g.H.Host.answers g.H.Host.modules c.args.self.now.machine) c.args.self.now.in_loop c.args.arms.now c.args.range.now (value_of c.args.subject.now) c.args.state.now (sym c.if-contains.false ∙ c.contains.ensures)

pub first_range-loop-range-preserved : goal.first_range-loop-range-preserved
first_range-loop-range-preserved g t c = ranges_next (setting g.H.Host.answers g.H.Host.modules c.args.self.now.machine) c.args.self.now.in_loop c.args.arms.now (value_of c.args.subject.now) (map range_of c.args.ranges.now) (map range_of (drop c.loop-range.range-index c.args.ranges.now)) (map range_of (drop (c.loop-range.range-index + 1) c.args.ranges.now)) (range_of (get_or c.args.ranges.now c.loop-range.range-index no_range)) c.args.state.now c.loop-range.state c.range_arm.new.state (range_at c.args.ranges.now c.loop-range.range-index c.loop-range-test.true) c.loop-range.invariant (rw c.in_default.is at c.in_ok-value.ensures)

pub for_count-loop-index-init : goal.for_count-loop-index-init
for_count-loop-index-init g t c =
    let fits : SFits w64 c.args.first = search rules in
    let same = to_z-of_z w64 c.args.first fits in
    rw same (range_start (setting g.H.Host.answers g.H.Host.modules c.args.self.now.machine) c.args.parts.now.0.name (counter_of c.args.parts.now.1) (body_of (setting g.H.Host.answers g.H.Host.modules c.args.self.now.machine) (stmts_of c.args.parts.now.2.body.block)) c.args.first c.args.rounds c.args.state.now)

pub for_count-returns-in_err-value : goal.for_count-returns-in_err-value
for_count-returns-in_err-value g t c =
    let fits : SFits w64 c.args.first = search rules in
    let same = to_z-of_z w64 c.args.first fits in
    let p = err_from_is_err_and c.from_residual.result c.from_residual.ensures.1 in rw (p.1, p.2) (range_stops (setting g.H.Host.answers g.H.Host.modules c.args.self.now.machine) c.args.parts.now.0.name (counter_of c.args.parts.now.1) (body_of (setting g.H.Host.answers g.H.Host.modules c.args.self.now.machine) (stmts_of c.args.parts.now.2.body.block)) c.args.first c.args.rounds c.loop-index.index c.nth-item.result c.loop-index.count c.args.state.now c.loop-index.state c.for_round.new.state c.loop-index-test.true (ap value_of (rw same at c.nth-item.ensures) ∙ value_of-Int _) (rw same at c.loop-index.invariant) _ c.in_err-value.ensures)

pub for_count-returns-in-Some : goal.for_count-returns-in-Some
for_count-returns-in-Some g t c =
    let fits : SFits w64 c.args.first = search rules in
    let same = to_z-of_z w64 c.args.first fits in
    range_ends (setting g.H.Host.answers g.H.Host.modules c.args.self.now.machine) c.args.parts.now.0.name (counter_of c.args.parts.now.1) (body_of (setting g.H.Host.answers g.H.Host.modules c.args.self.now.machine) (stmts_of c.args.parts.now.2.body.block)) c.args.first c.args.rounds c.loop-index.index c.nth-item.result c.loop-index.count c.args.state.now c.loop-index.state c.for_round.new.state c.loop-index-test.true (ap value_of (rw same at c.nth-item.ensures) ∙ value_of-Int _) (rw same at c.loop-index.invariant) c.in-Some.value (λ k e. rw c.in-Some.is at (c.in_ok-value.ensures k e))

pub for_count-loop-index-preserved : goal.for_count-loop-index-preserved
for_count-loop-index-preserved g t c =
    let fits : SFits w64 c.args.first = search rules in
    let same = to_z-of_z w64 c.args.first fits in
    rw same (range_next (setting g.H.Host.answers g.H.Host.modules c.args.self.now.machine) c.args.parts.now.0.name (counter_of c.args.parts.now.1) (body_of (setting g.H.Host.answers g.H.Host.modules c.args.self.now.machine) (stmts_of c.args.parts.now.2.body.block)) c.args.first c.args.rounds c.loop-index.index c.nth-item.result c.loop-index.count c.args.state.now c.loop-index.state c.for_round.new.state c.loop-index-test.true (ap value_of (rw same at c.nth-item.ensures) ∙ value_of-Int _) (rw same at c.loop-index.invariant) c.next_count-count.result (λ k e. rw c.in_default.is at (c.in_ok-value.ensures k e)) c.next_count-count.ensures)

pub for_count-returns : goal.for_count-returns
for_count-returns g t c =
    let fits : SFits w64 c.args.first = search rules in
    let same = to_z-of_z w64 c.args.first fits in
    range_end (setting g.H.Host.answers g.H.Host.modules c.args.self.now.machine) c.args.parts.now.0.name (counter_of c.args.parts.now.1) (body_of (setting g.H.Host.answers g.H.Host.modules c.args.self.now.machine) (stmts_of c.args.parts.now.2.body.block)) c.args.first c.args.rounds c.loop-index.index c.loop-index.count c.args.state.now c.loop-index.state (omega (arith, c.loop-index-test.false)) (rw same at c.loop-index.invariant)

pub for_loop-returns-in-Range : goal.for_loop-returns-in-Range
for_loop-returns-in-Range g t c =
    let from : SFits w64 c.in-Range.from = search rules in
    let to : SFits w64 c.in-Range.to = search rules in
    for_range (setting g.H.Host.answers g.H.Host.modules c.args.self.now.machine) c.args.parts.now.0.name (counter_of c.args.parts.now.1) (body_of (setting g.H.Host.answers g.H.Host.modules c.args.self.now.machine) (stmts_of c.args.parts.now.2.body.block)) c.args.self.now.in_loop (expr_of c.args.parts.now.2.expr) c.args.state.now c.expr.new.state c.for_count.new.state c.in_ok-expr.field-0 c.for_count.result c.in_ok-expr.ensures c.in-Range.from c.in-Range.to c.rounds_before.result (rw (to_z-of_z w64 c.in-Range.to to, to_z-of_z w64 c.in-Range.from from) at c.rounds_before.ensures.size) (sym c.in-Err.ensures.0 ∙ c.in-Range.is) (rw (to_z-of_z w64 c.in-Range.from from) at c.for_count.ensures)

pub for_loop-returns-in-RangeInclusive : goal.for_loop-returns-in-RangeInclusive
for_loop-returns-in-RangeInclusive g t c =
    let from : SFits w64 c.in-RangeInclusive.from = search rules in
    let to : SFits w64 c.in-RangeInclusive.to = search rules in
    for_closed_range (setting g.H.Host.answers g.H.Host.modules c.args.self.now.machine) c.args.parts.now.0.name (counter_of c.args.parts.now.1) (body_of (setting g.H.Host.answers g.H.Host.modules c.args.self.now.machine) (stmts_of c.args.parts.now.2.body.block)) c.args.self.now.in_loop (expr_of c.args.parts.now.2.expr) c.args.state.now c.expr.new.state c.for_count-in-RangeInclusive.new.state c.in_ok-expr.field-0 c.for_count-in-RangeInclusive.result c.in_ok-expr.ensures c.in-RangeInclusive.from c.in-RangeInclusive.to c.rounds_through.result (rw (to_z-of_z w64 c.in-RangeInclusive.to to, to_z-of_z w64 c.in-RangeInclusive.from from) at c.rounds_through.ensures.size) (sym c.in-Err.ensures.0 ∙ c.in-RangeInclusive.is) (rw (to_z-of_z w64 c.in-RangeInclusive.from from) at c.for_count-in-RangeInclusive.ensures)

pub for_loop-returns : goal.for_loop-returns
for_loop-returns g t c = for_other (setting g.H.Host.answers g.H.Host.modules c.args.self.now.machine) c.args.parts.now.0.name (counter_of c.args.parts.now.1) (body_of (setting g.H.Host.answers g.H.Host.modules c.args.self.now.machine) (stmts_of c.args.parts.now.2.body.block)) c.args.self.now.in_loop (expr_of c.args.parts.now.2.expr) c.args.state.now c.expr.new.state c.expr.new.state c.in_ok-expr.field-0 (Ok c.in_ok-expr.field-0) c.in_ok-expr.ensures c.in-Err.ensures.1 (λ a b h. c.in_default.not-Range a b (c.in-Err.ensures.0 ∙ h)) (λ a b h. c.in_default.not-RangeInclusive a b (c.in-Err.ensures.0 ∙ h))

pub call-returns-then-not-is_callable : goal.call-returns-then-not-is_callable
call-returns-then-not-is_callable g t c = call_stuck (setting g.H.Host.answers g.H.Host.modules c.args.self.now.machine) c.args.self.now.in_loop c.args.call.now c.args.state.now (sym c.is_callable.ensures ∙ c.if-not-is_callable.true)

pub call-returns-in_err-args : goal.call-returns-in_err-args
call-returns-in_err-args g t c = let p = err_from_is_err_and c.from_residual.result c.from_residual.ensures.1 in rw (p.1, p.2) (call_stops (setting g.H.Host.answers g.H.Host.modules c.args.self.now.machine) c.args.self.now.in_loop c.args.call.now c.args.state.now (sym c.is_callable.ensures ∙ c.if-not-is_callable.false) c.exprs.new.state _ (rw c.as_slice-2.ensures at c.in_err-args.ensures))

pub call-returns : goal.call-returns
call-returns g t c = call_runs (setting g.H.Host.answers g.H.Host.modules c.args.self.now.machine) c.args.self.now.in_loop c.args.call.now c.args.state.now (sym c.is_callable.ensures ∙ c.if-not-is_callable.false) c.exprs.new.state c.in_ok-args.args c.called.new.state c.called.result (rw c.as_slice-2.ensures at c.in_ok-args.ensures) c.called.ensures

pub call-returns-in-Some : goal.call-returns-in-Some
call-returns-in-Some g t c =
    let o = c.in-Some.ensures in
    operator_runs (setting g.H.Host.answers g.H.Host.modules c.args.self.now.machine) c.args.self.now.in_loop o.0 c.args.call.now c.args.state.now c.operator.new.state c.operator.result o.2 (rw c.as_slice.ensures at (c.operator.ensures o.0 o.1))

pub operator-returns-in-Some : goal.operator-returns-in-Some
operator-returns-in-Some g t c = λ o h. rw c.in-Some.ensures.operands (c.binary.ensures o h)

pub operator-returns-in_err-args-in-None : goal.operator-returns-in_err-args-in-None
operator-returns-in_err-args-in-None g t c = λ o h.
    let p = err_from_is_err_and c.from_residual.result c.from_residual.ensures.1 in rw (p.1, p.2) (operands_stop (setting g.H.Host.answers g.H.Host.modules c.args.self.now.machine) c.args.self.now.in_loop o c.args.operands.now c.args.state.now c.exprs.new.state _ c.in_err-args-in-None.ensures)

pub operator-returns-in_ok-args-in-None : goal.operator-returns-in_ok-args-in-None
operator-returns-in_ok-args-in-None g t c = λ o h. operands_run (setting g.H.Host.answers g.H.Host.modules c.args.self.now.machine) c.args.self.now.in_loop o c.args.operands.now c.args.state.now c.exprs.new.state _ c.operate.new.state c.operate.result c.in_ok-args-in-None.ensures (c.operate.ensures o h)

pub binary-returns-in_err-left : goal.binary-returns-in_err-left
binary-returns-in_err-left g t c = λ o h.
    let p = err_from_is_err_and c.from_residual.result c.from_residual.ensures.1 in rw (p.1, p.2) (left_stops (setting g.H.Host.answers g.H.Host.modules c.args.self.now.machine) c.args.self.now.in_loop o c.args.x.now c.args.y.now c.args.state.now _ _ c.in_err-left.ensures)

pub binary-returns-in_err-right : goal.binary-returns-in_err-right
binary-returns-in_err-right g t c = λ o h.
    let p = err_from_is_err_and c.from_residual-in_err-right.result c.from_residual-in_err-right.ensures.1 in rw (p.1, p.2) (right_stops (setting g.H.Host.answers g.H.Host.modules c.args.self.now.machine) c.args.self.now.in_loop o c.args.x.now c.args.y.now c.args.state.now _ _ c.in_ok-left.ensures _ _ c.in_err-right.ensures)

pub binary-returns : goal.binary-returns
binary-returns g t c = λ o h. two_run (setting g.H.Host.answers g.H.Host.modules c.args.self.now.machine) c.args.self.now.in_loop o c.args.x.now c.args.y.now c.args.state.now _ _ c.in_ok-left.ensures _ _ c.operate_two.new.state c.operate_two.result c.in_ok-right.ensures (c.operate_two.ensures o h)

pub called-returns-then-is_empty : goal.called-returns-then-is_empty
called-returns-then-is_empty g t c = called_as (setting g.H.Host.answers g.H.Host.modules c.args.self.now.machine) c.args.self.now.in_loop (callee_of c.args.call.now) (core.ByName (callee_of c.args.call.now).name (callee_of c.args.call.now).captures) (map value_of c.args.args) c.args.state.now c.call_word.new.state c.call_word.result (named_callee (callee_of c.args.call.now) (length c.args.call.now.args) c.requires.0 c.requires.1 (sym c.is_empty.ensures.names ∙ c.if-is_empty.true)) c.call_word.ensures

pub called-returns : goal.called-returns
called-returns g t c =
    let k = (callee_of c.args.call.now) in
    let name = c.in_ok-name-2.ensures ∙ c.as_str-2.ensures.value ∙ c.in_ok-name.ensures ∙ ap (λ es. qualified_in (scope_meant es) k.namespace c.as_str.result.now) c.as_slice-scope.ensures.value ∙ ap (qualified_in (store_of c.args.state.now).scope k.namespace) c.as_str.ensures in
    called_in_module (setting g.H.Host.answers g.H.Host.modules c.args.self.now.machine) c.args.self.now.in_loop k (map value_of c.args.args) c.args.state.now c.ask_host.new.state c.ask_host.result (qualified_callee k (length c.args.call.now.args) c.requires.0 c.requires.1 (setting g.H.Host.answers g.H.Host.modules c.args.self.now.machine).world (map value_of c.args.args) (sym c.is_empty.ensures.names ∙ c.if-is_empty.false)) (subst (λ f. Runs (setting g.H.Host.answers g.H.Host.modules c.args.self.now.machine) (Acting (ask_host f (map value_of c.args.args))) c.args.state.now c.ask_host.result c.ask_host.new.state) name c.ask_host.ensures)

pub call_word-returns-then-is_to_host : goal.call_word-returns-then-is_to_host
call_word-returns-then-is_to_host g t c = word_asks (setting g.H.Host.answers g.H.Host.modules c.args.self.now.machine) c.args.captures c.args.name.now (map value_of c.args.args) (word_meant c.of-word.result) (c.of-word.ensures ∙ ap calls.word c.as_str.ensures) c.args.state.now c.ask_host.new.state c.ask_host.result (sym c.is_to_host.ensures ∙ c.if-is_to_host.true) (rw c.in_ok-clone.ensures.cases at c.ask_host.ensures)

pub call_word-returns-then-is_call : goal.call_word-returns-then-is_call
call_word-returns-then-is_call g t c = word_points (setting g.H.Host.answers g.H.Host.modules c.args.self.now.machine) c.args.captures c.args.name.now (map value_of c.args.args) (word_meant c.of-word.result) (c.of-word.ensures ∙ ap calls.word c.as_str.ensures) c.args.state.now c.call_pointed.new.state c.call_pointed.result (sym c.is_call.ensures ∙ c.if-is_call.true) c.call_pointed.ensures

pub call_word-returns-in_err-value : goal.call_word-returns-in_err-value
call_word-returns-in_err-value g t c = let p = err_from_is_err_and c.from_residual-in_err-value.result c.from_residual-in_err-value.ensures.1 in rw (p.1, p.2) (word_stops (setting g.H.Host.answers g.H.Host.modules c.args.self.now.machine) c.args.captures c.args.name.now (map value_of c.args.args) (word_meant c.of-word.result) (c.of-word.ensures ∙ ap calls.word c.as_str.ensures) c.args.state.now (sym c.is_to_host.ensures ∙ c.if-is_to_host.false) (sym c.is_call.ensures ∙ c.if-is_call.false) _ ((rw c.as_slice.ensures at c.in_err-value.ensures) c.args.state.now (call_named (setting g.H.Host.answers g.H.Host.modules c.args.self.now.machine).world c.args.captures c.args.name.now (map value_of c.args.args))))

pub call_word-returns-in-Some : goal.call_word-returns-in-Some
call_word-returns-in-Some g t c = word_gives (setting g.H.Host.answers g.H.Host.modules c.args.self.now.machine) c.args.captures c.args.name.now (map value_of c.args.args) (word_meant c.of-word.result) (c.of-word.ensures ∙ ap calls.word c.as_str.ensures) c.args.state.now (sym c.is_to_host.ensures ∙ c.if-is_to_host.false) (sym c.is_call.ensures ∙ c.if-is_call.false) c.in-Some.value ((rw (c.as_slice.ensures, c.in-Some.is) at c.in_ok-value.ensures) c.args.state.now (call_named (setting g.H.Host.answers g.H.Host.modules c.args.self.now.machine).world c.args.captures c.args.name.now (map value_of c.args.args)))

pub call_word-returns-in-None : goal.call_word-returns-in-None
call_word-returns-in-None g t c = word_names (setting g.H.Host.answers g.H.Host.modules c.args.self.now.machine) c.args.captures c.args.name.now (map value_of c.args.args) (word_meant c.of-word.result) (c.of-word.ensures ∙ ap calls.word c.as_str.ensures) c.args.state.now (sym c.is_to_host.ensures ∙ c.if-is_to_host.false) (sym c.is_call.ensures ∙ c.if-is_call.false) c.call_named.new.state c.call_named.result ((rw (c.as_slice.ensures, c.in-None.is) at c.in_ok-value.ensures) c.args.state.now (call_named (setting g.H.Host.answers g.H.Host.modules c.args.self.now.machine).world c.args.captures c.args.name.now (map value_of c.args.args))) c.call_named.ensures

pub call_pointed-returns-in-Some : goal.call_pointed-returns-in-Some
call_pointed-returns-in-Some g t c = leads_then (setting g.H.Host.answers g.H.Host.modules c.args.self.now.machine) c.call_named.new.state c.call_named.result (λ v. given (value_of v)) ((rw (c.as_slice.ensures, c.in-Some.is) at c.in_ok-function.ensures) (setting g.H.Host.answers g.H.Host.modules c.args.self.now.machine) c.args.captures c.args.name.now c.args.state.now) c.call_named.ensures

pub call_pointed-returns-in-None : goal.call_pointed-returns-in-None
call_pointed-returns-in-None g t c = leads_then (setting g.H.Host.answers g.H.Host.modules c.args.self.now.machine) c.call_named-in-None.new.state c.call_named-in-None.result (λ v. given (value_of v)) ((rw (c.as_slice.ensures, c.in-None.is) at c.in_ok-function.ensures) (setting g.H.Host.answers g.H.Host.modules c.args.self.now.machine) c.args.captures c.args.name.now c.args.state.now) c.call_named-in-None.ensures

pub call_named-returns : goal.call_named-returns
call_named-returns g t c =
    let fs = c.args.self.now.machine.functions.now.functions in
    let same : key c.in_ok-clone.field-0 c.len.result None ≡ key c.args.name.now (length (map value_of c.args.args)) None = λ i. key (c.in_ok-clone.ensures.cases i) ((c.len.ensures ∙ sym (length-map c.args.args value_of)) i) None in
    call_asks (setting g.H.Host.answers g.H.Host.modules c.args.self.now.machine) refl c.args.captures c.args.name.now (map value_of c.args.args) c.args.state.now c.ask_host.new.state c.ask_host.result (found_nothing (key c.args.name.now (length (map value_of c.args.args)) None) fs (subst (λ k. None ≡ find_by definition_key k fs) same c.in-None.ensures)) (rw c.in_ok-clone-in-None.ensures.cases at c.ask_host.ensures)

pub call_named-returns-in-Some : goal.call_named-returns-in-Some
call_named-returns-in-Some g t c =
    let fs = c.args.self.now.machine.functions.now.functions in
    let same : key c.in_ok-clone.field-0 c.len.result None ≡ key c.args.name.now (length (map value_of c.args.args)) None = λ i. key (c.in_ok-clone.ensures.cases i) ((c.len.ensures ∙ sym (length-map c.args.args value_of)) i) None in
    let found : Some c.deref.result.now ≡ find_by definition_key (key c.args.name.now (length (map value_of c.args.args)) None) fs = ap Some c.deref.ensures ∙ subst (λ k. Some c.in-Some.function.now.value ≡ find_by definition_key k fs) same c.in-Some.ensures in
    call_runs_function (setting g.H.Host.answers g.H.Host.modules c.args.self.now.machine) fs refl refl c.args.captures c.args.name.now (map value_of c.args.args) c.deref.result.now c.args.state.now c.invoke.new.state (Ok (c.in_ok-value-in-Some.value, c.in_ok-value-in-Some.field-0-1)) found c.in_ok-value-in-Some.ensures

pub call_named-returns-in_err-value-in-Some : goal.call_named-returns-in_err-value-in-Some
call_named-returns-in_err-value-in-Some g t c = let p = err_from_is_err_and c.from_residual-in_err-value-in-Some.result c.from_residual-in_err-value-in-Some.ensures.1 in
    let fs = c.args.self.now.machine.functions.now.functions in
    let same : key c.in_ok-clone.field-0 c.len.result None ≡ key c.args.name.now (length (map value_of c.args.args)) None = λ i. key (c.in_ok-clone.ensures.cases i) ((c.len.ensures ∙ sym (length-map c.args.args value_of)) i) None in
    let found : Some c.deref.result.now ≡ find_by definition_key (key c.args.name.now (length (map value_of c.args.args)) None) fs = ap Some c.deref.ensures ∙ subst (λ k. Some c.in-Some.function.now.value ≡ find_by definition_key k fs) same c.in-Some.ensures in rw (p.1, p.2) (call_runs_function (setting g.H.Host.answers g.H.Host.modules c.args.self.now.machine) fs refl refl c.args.captures c.args.name.now (map value_of c.args.args) c.deref.result.now c.args.state.now c.invoke.new.state (Err _) found c.in_err-value-in-Some.ensures)

pub call_named-invoke-requires : goal.call_named-invoke-requires
call_named-invoke-requires g t c =
    let found : Some c.deref.result.now ≡ find_by definition_key (key c.in_ok-clone.field-0 c.len.result None) c.args.self.now.machine.functions.now.functions = ap Some c.deref.ensures ∙ c.in-Some.ensures in
    let fits : weight (stmts_of c.deref.result.now.body.block) ≤ bodies_weight (functions_of c.args.self.now.machine.functions.now) = found_weight (key c.in_ok-clone.field-0 c.len.result None) c.args.self.now.machine.functions.now.functions c.deref.result.now found in
    search rules

pub invoke-returns-in_err-take_turn : goal.invoke-returns-in_err-take_turn
invoke-returns-in_err-take_turn g t c = let p = err_from_is_err_and c.from_residual.result c.from_residual.ensures.1 in
    let late = c.in_err-take_turn.ensures in
    λ h next. rw (p.1, p.2) (stops_by (setting g.H.Host.answers g.H.Host.modules c.args.self.now.machine) (Acting (Invoke (record { function = definition_key c.args.function.now; captures = c.args.captures; this = option_map value_of c.args.this; arguments = (map value_of c.args.args) }) next)) c.args.state.now c.take_turn.new.self _ (Halting OutOfTurns) (ap stop_of late.0) (invoke_late (setting g.H.Host.answers g.H.Host.modules c.args.self.now.machine) (record { function = definition_key c.args.function.now; captures = c.args.captures; this = option_map value_of c.args.this; arguments = (map value_of c.args.args) }) next _ h c.args.state.now c.take_turn.new.self late.1 late.3 late.2))

pub invoke-returns : goal.invoke-returns
invoke-returns g t c =
    let turn = c.in_ok-take_turn.ensures in
    let start = (rw c.as_slice-params.ensures at c.in_ok-body.ensures.store) ∙ ap (λ (st : Store). called_from st (bind c.args.function.now.params (map value_of c.args.args) (seen c.args.captures st.scope)) (option_map value_of c.args.this)) turn.1 in
    let turns = turn.0 ∙ ap suc (sym c.in_ok-body.ensures.turns) in
    let back = back_is c.args.state.now c.take_turn.new.self c.enter.new.self c.resume-this.new.self c.statements-ended.new.state turn.1 c.in_ok-body.ensures.scope c.in_ok-body.ensures.around c.in_ok-body.ensures.own c.resume-this.ensures.store in
    let ran = (rw (c.in-Some.ensures.0, c.statements.ensures) at c.statements-ended.ensures) true in
    λ h next. rw c.resume-this.ensures.this (invoke_goes (setting g.H.Host.answers g.H.Host.modules c.args.self.now.machine) (record { function = definition_key c.args.function.now; captures = c.args.captures; this = option_map value_of c.args.this; arguments = (map value_of c.args.args) }) next _ h c.args.state.now c.in_ok-body.body c.statements-ended.new.state turns start c.resume-this.new.self back c.resume-this.ensures.turns c.statements-ended.result c.in_ok-function_ended.field-0 ran (rw c.in_ok-function_ended.was at c.function_ended.ensures))

pub invoke-returns-in_err-function_ended : goal.invoke-returns-in_err-function_ended
invoke-returns-in_err-function_ended g t c =
    let turn = c.in_ok-take_turn.ensures in
    let start = (rw c.as_slice-params.ensures at c.in_ok-body.ensures.store) ∙ ap (λ (st : Store). called_from st (bind c.args.function.now.params (map value_of c.args.args) (seen c.args.captures st.scope)) (option_map value_of c.args.this)) turn.1 in
    let turns = turn.0 ∙ ap suc (sym c.in_ok-body.ensures.turns) in
    let back = back_is c.args.state.now c.take_turn.new.self c.enter.new.self c.resume-this.new.self c.statements-ended.new.state turn.1 c.in_ok-body.ensures.scope c.in_ok-body.ensures.around c.in_ok-body.ensures.own c.resume-this.ensures.store in
    let ran = (rw (c.in-Some.ensures.0, c.statements.ensures) at c.statements-ended.ensures) true in
    let p = err_from_is_err_and c.from_residual-in_err-function_ended.result c.from_residual-in_err-function_ended.ensures.1 in
    λ h next. rw (p.1, p.2) (invoke_stops (setting g.H.Host.answers g.H.Host.modules c.args.self.now.machine) (record { function = definition_key c.args.function.now; captures = c.args.captures; this = option_map value_of c.args.this; arguments = (map value_of c.args.args) }) next _ h c.args.state.now c.in_ok-body.body c.statements-ended.new.state turns start c.resume-this.new.self back c.resume-this.ensures.turns c.statements-ended.result _ ran (rw c.in_err-function_ended.was at c.function_ended.ensures))

pub invoke-statements-ended-requires : goal.invoke-statements-ended-requires
invoke-statements-ended-requires g t c =
    let same = c.in-Some.ensures.0 in
    let lighter : level c.in-Some.inside.depth (bodies_weight (functions_of c.in-Some.inside.machine.functions.now)) + 9 * weight (stmts_of c.statements.result.now) + 20 ≤ level c.args.self.now.depth (bodies_weight (functions_of c.args.self.now.machine.functions.now)) =
    rw (ap (λ e. e.depth) same, ap (λ e. e.machine.functions) same, c.statements.ensures) (level_falls c.args.self.now.depth c.take_turn.new.self.turns (bodies_weight (functions_of c.args.self.now.machine.functions.now)) (weight (stmts_of c.args.function.now.body.block)) c.in-Some.ensures.1 c.requires) in
    search rules

-- chains
pub chain-returns-in-Some : goal.chain-returns-in-Some
chain-returns-in-Some g t c = chain_from_root (setting g.H.Host.answers g.H.Host.modules c.args.self.now.machine) c.args.self.now.in_loop (is_dot c.args.chain) (chain_flags c.args.options) (expr_of c.args.sides.now.lhs) (expr_of c.args.sides.now.rhs) c.args.state.now c.from_root.new.state (sym c.is_chain.ensures ∙ c.if-not-is_chain.false) (root_meant c.in-Some.root) c.from_root.result c.in-Some.ensures c.from_root.ensures

pub chain-returns-in_err-base-in-None : goal.chain-returns-in_err-base-in-None
chain-returns-in_err-base-in-None g t c = let p = err_from_is_err_and c.from_residual.result c.from_residual.ensures.1 in rw (p.1, p.2) (chain_stops (setting g.H.Host.answers g.H.Host.modules c.args.self.now.machine) c.args.self.now.in_loop (is_dot c.args.chain) (chain_flags c.args.options) (expr_of c.args.sides.now.lhs) (expr_of c.args.sides.now.rhs) c.args.state.now c.expr.new.state (sym c.is_chain.ensures ∙ c.if-not-is_chain.false) _ c.in-None.ensures c.in_err-base-in-None.ensures)

pub chain-returns-in_ok-base-in-None : goal.chain-returns-in_ok-base-in-None
chain-returns-in_ok-base-in-None g t c = chain_from_value (setting g.H.Host.answers g.H.Host.modules c.args.self.now.machine) c.args.self.now.in_loop (is_dot c.args.chain) (chain_flags c.args.options) (expr_of c.args.sides.now.lhs) (expr_of c.args.sides.now.rhs) c.args.state.now c.expr.new.state (sym c.is_chain.ensures ∙ c.if-not-is_chain.false) c.in_ok-base-in-None.base c.steps.new.state c.steps.result c.in-None.ensures c.in_ok-base-in-None.ensures c.steps.ensures

pub from_root-returns-in-Some : goal.from_root-returns-in-Some
from_root-returns-in-Some g t c = (rw c.in-Some.is at c.in_ok-value.ensures) c.args.self.now.in_loop

pub from_root-returns-in_err-place : goal.from_root-returns-in_err-place
from_root-returns-in_err-place g t c = let p = err_from_is_err_and c.from_residual-in_err-place.result c.from_residual-in_err-place.ensures.1 in rw (p.1, p.2) (c.in_err-place.ensures.reads c.args.self.now.in_loop)

pub from_root-returns-in-Some-left : goal.from_root-returns-in-Some-left
from_root-returns-in-Some-left g t c = leads_then (setting g.H.Host.answers g.H.Host.modules c.args.self.now.machine) c.steps.new.state c.steps.result (λ v. given (value_of v)) (rw c.in-Some-left.is at (c.in_ok-place.ensures.reads c.args.self.now.in_loop)) c.steps.ensures

pub from_root-returns-in_ok-place_value-in-None : goal.from_root-returns-in_ok-place_value-in-None
from_root-returns-in_ok-place_value-in-None g t c = rw c.in_ok-place_value-in-None.ensures (rw c.in-None.is at (c.in_ok-place.ensures.reads c.args.self.now.in_loop))

pub steps-returns-in_err-access : goal.steps-returns-in_err-access
steps-returns-in_err-access g t c = let p = err_from_is_err_and c.from_residual.result c.from_residual.ensures.1 in rw (p.1, p.2) (steps_stop (setting g.H.Host.answers g.H.Host.modules c.args.self.now.machine) c.args.self.now.in_loop c.args.rest c.link-link.result (c.link-link.ensures.steps c.args.self.now.in_loop) c.args.current c.args.state.now c.reach.new.state _ c.in_err-access.ensures)

pub steps-returns-in_default : goal.steps-returns-in_default
steps-returns-in_default g t c = steps_unit (setting g.H.Host.answers g.H.Host.modules c.args.self.now.machine) c.args.self.now.in_loop c.args.rest c.link-link.result (c.link-link.ensures.steps c.args.self.now.in_loop) c.args.current c.args.state.now c.reach.new.state (rw c.in_default.is at c.in_ok-access.ensures)

pub steps-returns-in_err-current : goal.steps-returns-in_err-current
steps-returns-in_err-current g t c = let p = err_from_is_err_and c.from_residual-in_err-current.result c.from_residual-in_err-current.ensures.1 in rw (p.1, p.2) (applied_stops (setting g.H.Host.answers g.H.Host.modules c.args.self.now.machine) c.args.self.now.in_loop c.args.rest c.link-link.result (c.link-link.ensures.steps c.args.self.now.in_loop) c.args.current c.args.state.now c.reach.new.state c.in-Some.access (rw c.in-Some.is at c.in_ok-access.ensures) c.applied.new.state _ c.in_err-current.ensures)

pub steps-returns-in_default-rest : goal.steps-returns-in_default-rest
steps-returns-in_default-rest g t c = steps_end (setting g.H.Host.answers g.H.Host.modules c.args.self.now.machine) c.args.self.now.in_loop c.args.rest c.link-link.result (c.link-link.ensures.steps c.args.self.now.in_loop) c.args.current c.args.state.now c.reach.new.state c.in-Some.access (rw c.in-Some.is at c.in_ok-access.ensures) c.applied.new.state c.in_ok-current.current c.in_ok-current.ensures c.in_ok-current_value.field-0 c.in_default-rest.is c.in_ok-current_value.ensures

pub steps-returns-in-Some-2 : goal.steps-returns-in-Some-2
steps-returns-in-Some-2 g t c =
    let there = subst (λ o. IfSome o (λ v. (loop : Bool) → Comes (setting g.H.Host.answers g.H.Host.modules c.args.self.now.machine) c.applied.new.state loop c.in-Some-rest.rest (current_in (setting g.H.Host.answers g.H.Host.modules c.args.self.now.machine) (store_of c.applied.new.state) c.in_ok-current.current) (value_of v))) c.in-Some-2.is c.in_ok-value.ensures c.args.self.now.in_loop in
    steps_more (setting g.H.Host.answers g.H.Host.modules c.args.self.now.machine) c.args.self.now.in_loop c.args.rest c.link-link.result (c.link-link.ensures.steps c.args.self.now.in_loop) c.args.current c.args.state.now c.reach.new.state c.in-Some.access (rw c.in-Some.is at c.in_ok-access.ensures) c.applied.new.state c.in_ok-current.current c.in_ok-current.ensures c.in-Some-rest.rest c.applied.new.state (Ok c.in-Some-2.value) c.in-Some-rest.is there

pub steps-returns-in-None : goal.steps-returns-in-None
steps-returns-in-None g t c = steps_more (setting g.H.Host.answers g.H.Host.modules c.args.self.now.machine) c.args.self.now.in_loop c.args.rest c.link-link.result (c.link-link.ensures.steps c.args.self.now.in_loop) c.args.current c.args.state.now c.reach.new.state c.in-Some.access (rw c.in-Some.is at c.in_ok-access.ensures) c.applied.new.state c.in_ok-current.current c.in_ok-current.ensures c.in-Some-rest.rest c.steps.new.state c.steps.result c.in-Some-rest.is c.steps.ensures

pub reach-returns-in_err-refreshed : goal.reach-returns-in_err-refreshed
reach-returns-in_err-refreshed g t c = let p = err_from_is_err_and c.from_residual-in_err-refreshed.result c.from_residual-in_err-refreshed.ensures.1 in
    let goes_on : (is_negated c.args.rest.options && is_unit (current_in (setting g.H.Host.answers g.H.Host.modules c.args.self.now.machine) (store_of c.args.state.now) c.args.current.now).value) ≡ false =
    elim c.else-contains.branch [
      | reach-else-contains-via-then-contains+else-is_unit_at w ↦ ap (λ b. b && is_unit (current_in (setting g.H.Host.answers g.H.Host.modules c.args.self.now.machine) (store_of c.args.state.now) c.args.current.now).value) (sym (c.contains.ensures tt) ∙ w.if-contains.true) ∙ sym w.is_unit_at.ensures ∙ w.if-is_unit_at.false
      | reach-else-contains-via-else-contains w ↦ ap (λ b. b && is_unit (current_in (setting g.H.Host.answers g.H.Host.modules c.args.self.now.machine) (store_of c.args.state.now) c.args.current.now).value) (sym (c.contains.ensures tt) ∙ w.if-contains.false)
    ] in rw (p.1, p.2) (reach_gone (setting g.H.Host.answers g.H.Host.modules c.args.self.now.machine) c.args.self.now.in_loop c.args.rest c.link-link.result (c.link-link.ensures.steps c.args.self.now.in_loop) c.args.current.now c.args.state.now goes_on c.access.new.state c.in_ok-access.access c.in_ok-access.ensures _ c.in_err-refreshed.ensures)

pub reach-returns : goal.reach-returns
reach-returns g t c =
    let goes_on : (is_negated c.args.rest.options && is_unit (current_in (setting g.H.Host.answers g.H.Host.modules c.args.self.now.machine) (store_of c.args.state.now) c.args.current.now).value) ≡ false =
    elim c.else-contains.branch [
      | reach-else-contains-via-then-contains+else-is_unit_at w ↦ ap (λ b. b && is_unit (current_in (setting g.H.Host.answers g.H.Host.modules c.args.self.now.machine) (store_of c.args.state.now) c.args.current.now).value) (sym (c.contains.ensures tt) ∙ w.if-contains.true) ∙ sym w.is_unit_at.ensures ∙ w.if-is_unit_at.false
      | reach-else-contains-via-else-contains w ↦ ap (λ b. b && is_unit (current_in (setting g.H.Host.answers g.H.Host.modules c.args.self.now.machine) (store_of c.args.state.now) c.args.current.now).value) (sym (c.contains.ensures tt) ∙ w.if-contains.false)
    ] in
    reach_runs (setting g.H.Host.answers g.H.Host.modules c.args.self.now.machine) c.args.self.now.in_loop c.args.rest c.link-link.result (c.link-link.ensures.steps c.args.self.now.in_loop) c.args.current.now c.args.state.now goes_on c.access.new.state c.in_ok-access.access c.in_ok-access.ensures c.in_ok-refreshed.field-0 c.in_ok-refreshed.ensures

pub method_access-returns-then-not-is_callable : goal.method_access-returns-then-not-is_callable
method_access-returns-then-not-is_callable g t c = method_stuck (setting g.H.Host.answers g.H.Host.modules c.args.self.now.machine) c.args.self.now.in_loop c.args.call.now c.args.state.now (sym c.is_callable.ensures ∙ c.if-not-is_callable.true)

pub method_access-returns-in_err-args : goal.method_access-returns-in_err-args
method_access-returns-in_err-args g t c = let p = err_from_is_err_and c.from_residual.result c.from_residual.ensures.1 in rw (p.1, p.2) (method_stops (setting g.H.Host.answers g.H.Host.modules c.args.self.now.machine) c.args.self.now.in_loop c.args.call.now c.args.state.now (sym c.is_callable.ensures ∙ c.if-not-is_callable.false) c.exprs.new.state _ (rw c.as_slice.ensures at c.in_err-args.ensures))

pub method_access-returns : goal.method_access-returns
method_access-returns g t c = method_given (setting g.H.Host.answers g.H.Host.modules c.args.self.now.machine) c.args.self.now.in_loop c.args.call.now c.args.state.now (sym c.is_callable.ensures ∙ c.if-not-is_callable.false) c.exprs.new.state c.in_ok-args.args (rw c.as_slice.ensures at c.in_ok-args.ensures)

pub access-returns-in-MethodCall : goal.access-returns-in-MethodCall
access-returns-in-MethodCall g t c = method_reached (setting g.H.Host.answers g.H.Host.modules c.args.self.now.machine) c.args.self.now.in_loop c.args.state.now c.method_access.new.state (is_dot c.args.chain) (sym c.is_dot.ensures ∙ c.if-not-is_dot.false) c.args.argument.now c.in-MethodCall.call c.get-in-MethodCall.result.now c.in-MethodCall.field-1 c.method_access.result c.in-MethodCall.is c.get-in-MethodCall.ensures c.method_access.ensures

pub access-returns-in_default : goal.access-returns-in_default
access-returns-in_default g t c = member_stuck (setting g.H.Host.answers g.H.Host.modules c.args.self.now.machine) c.args.self.now.in_loop c.args.state.now (is_dot c.args.chain) (sym c.is_dot.ensures ∙ c.if-not-is_dot.false) c.args.argument.now c.in_default.not-Property c.in_default.not-MethodCall

pub call_receiver-returns : goal.call_receiver-returns
call_receiver-returns g t c = leads_then (setting g.H.Host.answers g.H.Host.modules c.args.self.now.machine) c.call_named.new.state c.call_named.result (λ v. given (value_of v)) (c.in_ok-name.ensures (setting g.H.Host.answers g.H.Host.modules c.args.self.now.machine) false c.args.state.now) c.call_named.ensures

pub method-returns-in_err-value-2 : goal.method-returns-in_err-value-2
method-returns-in_err-value-2 g t c = let p = err_from_is_err_and c.from_residual-in_err-value-2.result c.from_residual-in_err-value-2.ensures.1 in rw (p.1, p.2) (word_stopped (setting g.H.Host.answers g.H.Host.modules c.args.self.now.machine) c.args.name.now (map value_of c.args.args) (word_meant c.of-word.result) (c.of-word.ensures ∙ ap calls.word c.as_str.ensures) c.args.current c.args.state.now c.in_ok-receiver.receiver c.in_ok-receiver.ensures (sym c.is_call.ensures ∙ c.if-is_call.false) _ (rw c.as_slice-2.ensures at c.in_err-value-2.ensures))

pub method-returns-in-Some : goal.method-returns-in-Some
method-returns-in-Some g t c = word_given (setting g.H.Host.answers g.H.Host.modules c.args.self.now.machine) c.args.name.now (map value_of c.args.args) (word_meant c.of-word.result) (c.of-word.ensures ∙ ap calls.word c.as_str.ensures) c.args.current c.args.state.now c.in_ok-receiver.receiver c.in_ok-receiver.ensures (sym c.is_call.ensures ∙ c.if-is_call.false) c.in-Some.value (rw (c.as_slice-2.ensures, c.in-Some.is) at c.in_ok-value-2.ensures)

pub method-returns : goal.method-returns
method-returns g t c = word_passed (setting g.H.Host.answers g.H.Host.modules c.args.self.now.machine) c.args.name.now (map value_of c.args.args) (word_meant c.of-word.result) (c.of-word.ensures ∙ ap calls.word c.as_str.ensures) c.args.current c.args.state.now c.in_ok-receiver.receiver c.in_ok-receiver.ensures (sym c.is_call.ensures ∙ c.if-is_call.false) c.to_method.new.state c.to_method.result (rw (c.as_slice-2.ensures, c.in-None.is) at c.in_ok-value-2.ensures) (c.to_method.ensures c.in_ok-receiver.ensures)

pub to_method-returns-in_err-value : goal.to_method-returns-in_err-value
to_method-returns-in_err-value g t c = let p = err_from_is_err_and c.from_residual.result c.from_residual.ensures.1 in
    λ is. rw (p.1, p.2) (method_call_stops (setting g.H.Host.answers g.H.Host.modules c.args.self.now.machine) c.args.name.now (map value_of c.args.args) c.args.current c.args.state.now c.args.receiver is c.call_method.new.state _ c.in_err-value.ensures)

pub to_method-returns-in_err-put_back : goal.to_method-returns-in_err-put_back
to_method-returns-in_err-put_back g t c = let p = err_from_is_err_and c.from_residual-in_err-put_back.result c.from_residual-in_err-put_back.ensures.1 in
    λ is. rw (p.1, p.2) (back_stops (setting g.H.Host.answers g.H.Host.modules c.args.self.now.machine) c.args.name.now (map value_of c.args.args) c.args.current c.args.state.now c.args.receiver is c.call_method.new.state c.put_back.new.state (c.in_ok-value.value, c.in_ok-value.receiver) c.in_ok-value.ensures _ c.in_err-put_back.ensures)

pub to_method-returns : goal.to_method-returns
to_method-returns g t c = λ is. back_runs (setting g.H.Host.answers g.H.Host.modules c.args.self.now.machine) c.args.name.now (map value_of c.args.args) c.args.current c.args.state.now c.args.receiver is c.call_method.new.state c.put_back.new.state (c.in_ok-value.value, c.in_ok-value.receiver) c.in_ok-value.ensures c.in_ok-put_back.ensures

pub call_method-returns-in-Some : goal.call_method-returns-in-Some
call_method-returns-in-Some g t c =
    let found : Some c.deref.result.now ≡ method_in c.args.self.now.machine.functions.now.functions c.args.name.now c.len.result c.type_name.result.now = ap Some c.deref.ensures ∙ (rw c.in-Some.is at c.in_ok-function.ensures) in
    found_runs (setting g.H.Host.answers g.H.Host.modules c.args.self.now.machine) refl c.args.self.now.machine.functions.now.functions refl c.args.name.now (map value_of c.args.args) (value_of c.args.receiver) c.len.result c.type_name.result.now (c.len.ensures ∙ sym (length-map c.args.args value_of)) c.type_name.ensures c.args.state.now c.invoke.new.state c.invoke.result c.deref.result.now found c.invoke.ensures

pub call_method-returns-in_ok-clone-in-None : goal.call_method-returns-in_ok-clone-in-None
call_method-returns-in_ok-clone-in-None g t c = missing_asks (setting g.H.Host.answers g.H.Host.modules c.args.self.now.machine) refl c.args.self.now.machine.functions.now.functions refl c.args.name.now (map value_of c.args.args) (value_of c.args.receiver) c.len.result c.type_name.result.now (c.len.ensures ∙ sym (length-map c.args.args value_of)) c.type_name.ensures c.args.state.now c.ask_method.new.state c.ask_method.result (rw c.in-None.is at c.in_ok-function.ensures) (rw c.in_ok-clone-in-None.ensures.cases at c.ask_method.ensures)

pub call_method-invoke-requires : goal.call_method-invoke-requires
call_method-invoke-requires g t c =
    let found : Some c.deref.result.now ≡ method_in c.args.self.now.machine.functions.now.functions c.args.name.now c.len.result c.type_name.result.now = ap Some c.deref.ensures ∙ (rw c.in-Some.is at c.in_ok-function.ensures) in
    let fits : weight (stmts_of c.deref.result.now.body.block) ≤ bodies_weight (functions_of c.args.self.now.machine.functions.now) = found_fits (setting g.H.Host.answers g.H.Host.modules c.args.self.now.machine) refl c.args.self.now.machine.functions.now.functions refl c.args.name.now (map value_of c.args.args) (value_of c.args.receiver) c.len.result c.type_name.result.now (c.len.ensures ∙ sym (length-map c.args.args value_of)) c.type_name.ensures c.deref.result.now found in
    search rules

-- assignments to parts
pub assign_part-returns-then-not-is_chain : goal.assign_part-returns-then-not-is_chain
assign_part-returns-then-not-is_chain g t c = part_ill (setting g.H.Host.answers g.H.Host.modules c.args.self.now.machine) c.args.self.now.in_loop (expr_of c.args.base.now) c.args.rest (operator_of c.args.op.now.op) (value_of c.args.value) c.args.state.now (sym c.if-not-is_chain.true ∙ c.is_chain.ensures)

pub assign_part-returns-in_default : goal.assign_part-returns-in_default
assign_part-returns-in_default g t c = part_unplaced (setting g.H.Host.answers g.H.Host.modules c.args.self.now.machine) c.args.self.now.in_loop (expr_of c.args.base.now) c.args.rest (operator_of c.args.op.now.op) (value_of c.args.value) c.args.state.now (sym c.if-not-is_chain.false ∙ c.is_chain.ensures) c.in_default.ensures

pub assign_part-returns-then-ends_in_call : goal.assign_part-returns-then-ends_in_call
assign_part-returns-then-ends_in_call g t c = part_called (setting g.H.Host.answers g.H.Host.modules c.args.self.now.machine) c.args.self.now.in_loop (expr_of c.args.base.now) c.args.rest (operator_of c.args.op.now.op) (value_of c.args.value) c.args.state.now (sym c.if-not-is_chain.false ∙ c.is_chain.ensures) (root_meant c.in-Some.root) c.in-Some.ensures (sym c.if-ends_in_call.true ∙ c.ends_in_call.ensures ∙ ap (λ b. ends_in_call (is_dot c.args.rest.chain) b (expr_of c.args.rest.right.now)) (c.contains.ensures tt))

pub assign_part-returns-in_err-place : goal.assign_part-returns-in_err-place
assign_part-returns-in_err-place g t c = let p = err_from_is_err_and c.from_residual.result c.from_residual.ensures.1 in rw (p.1, p.2) (part_stops (setting g.H.Host.answers g.H.Host.modules c.args.self.now.machine) c.args.self.now.in_loop (expr_of c.args.base.now) c.args.rest (operator_of c.args.op.now.op) (value_of c.args.value) c.args.state.now (sym c.if-not-is_chain.false ∙ c.is_chain.ensures) (root_meant c.in-Some.root) c.in-Some.ensures (sym c.if-ends_in_call.false ∙ c.ends_in_call.ensures ∙ ap (λ b. ends_in_call (is_dot c.args.rest.chain) b (expr_of c.args.rest.right.now)) (c.contains.ensures tt)) _ (c.in_err-place.ensures.assigns c.args.self.now.in_loop (operator_of c.args.op.now.op) (value_of c.args.value)))

pub assign_part-returns-in-Some-left : goal.assign_part-returns-in-Some-left
assign_part-returns-in-Some-left g t c = part_runs (setting g.H.Host.answers g.H.Host.modules c.args.self.now.machine) c.args.self.now.in_loop (expr_of c.args.base.now) c.args.rest (operator_of c.args.op.now.op) (value_of c.args.value) c.args.state.now (sym c.if-not-is_chain.false ∙ c.is_chain.ensures) (root_meant c.in-Some.root) c.in-Some.ensures (sym c.if-ends_in_call.false ∙ c.ends_in_call.ensures ∙ ap (λ b. ends_in_call (is_dot c.args.rest.chain) b (expr_of c.args.rest.right.now)) (c.contains.ensures tt)) _ c.assign_steps.new.state c.assign_steps.result (rw c.in-Some-left.is at (c.in_ok-place.ensures.assigns c.args.self.now.in_loop (operator_of c.args.op.now.op) (value_of c.args.value))) c.assign_steps.ensures

pub assign_part-returns-in-None : goal.assign_part-returns-in-None
assign_part-returns-in-None g t c = part_runs (setting g.H.Host.answers g.H.Host.modules c.args.self.now.machine) c.args.self.now.in_loop (expr_of c.args.base.now) c.args.rest (operator_of c.args.op.now.op) (value_of c.args.value) c.args.state.now (sym c.if-not-is_chain.false ∙ c.is_chain.ensures) (root_meant c.in-Some.root) c.in-Some.ensures (sym c.if-ends_in_call.false ∙ c.ends_in_call.ensures ∙ ap (λ b. ends_in_call (is_dot c.args.rest.chain) b (expr_of c.args.rest.right.now)) (c.contains.ensures tt)) _ c.assign_place.new.state c.assign_place.result (rw c.in-None.is at (c.in_ok-place.ensures.assigns c.args.self.now.in_loop (operator_of c.args.op.now.op) (value_of c.args.value))) c.assign_place.ensures

pub assign_steps-returns-in_err-access : goal.assign_steps-returns-in_err-access
assign_steps-returns-in_err-access g t c = let p = err_from_is_err_and c.from_residual.result c.from_residual.ensures.1 in rw (p.1, p.2) (target_stops (setting g.H.Host.answers g.H.Host.modules c.args.self.now.machine) c.args.self.now.in_loop c.args.rest c.link-link.result (c.link-link.ensures.steps c.args.self.now.in_loop) (operator_of c.args.op.now.op) (value_of c.args.value) c.args.current c.args.state.now c.reach.new.state _ c.in_err-access.ensures)

pub assign_steps-returns-in_default : goal.assign_steps-returns-in_default
assign_steps-returns-in_default g t c = target_unit (setting g.H.Host.answers g.H.Host.modules c.args.self.now.machine) c.args.self.now.in_loop c.args.rest c.link-link.result (c.link-link.ensures.steps c.args.self.now.in_loop) (operator_of c.args.op.now.op) (value_of c.args.value) c.args.current c.args.state.now c.reach.new.state (rw c.in_default.is at c.in_ok-access.ensures)

pub assign_steps-returns-in_err-current-in-Some-rest : goal.assign_steps-returns-in_err-current-in-Some-rest
assign_steps-returns-in_err-current-in-Some-rest g t c = let p = err_from_is_err_and c.from_residual-in_err-current-in-Some-rest.result c.from_residual-in_err-current-in-Some-rest.ensures.1 in rw (p.1, p.2) (target_applied_stops (setting g.H.Host.answers g.H.Host.modules c.args.self.now.machine) c.args.self.now.in_loop c.args.rest c.link-link.result (c.link-link.ensures.steps c.args.self.now.in_loop) (operator_of c.args.op.now.op) (value_of c.args.value) c.args.current c.args.state.now c.reach.new.state c.in-Some.access (rw c.in-Some.is at c.in_ok-access.ensures) c.applied.new.state c.in-Some-rest.rest c.in-Some-rest.is _ c.in_err-current-in-Some-rest.ensures)

pub assign_steps-returns-in_ok-current-in-Some-rest : goal.assign_steps-returns-in_ok-current-in-Some-rest
assign_steps-returns-in_ok-current-in-Some-rest g t c = target_more (setting g.H.Host.answers g.H.Host.modules c.args.self.now.machine) c.args.self.now.in_loop c.args.rest c.link-link.result (c.link-link.ensures.steps c.args.self.now.in_loop) (operator_of c.args.op.now.op) (value_of c.args.value) c.args.current c.args.state.now c.reach.new.state c.in-Some.access (rw c.in-Some.is at c.in_ok-access.ensures) c.applied.new.state c.in-Some-rest.rest c.in-Some-rest.is c.in_ok-current-in-Some-rest.current c.assign_steps.new.state c.assign_steps.result c.in_ok-current-in-Some-rest.ensures c.assign_steps.ensures

pub assign_steps-returns-in-None : goal.assign_steps-returns-in-None
assign_steps-returns-in-None g t c = target_last (setting g.H.Host.answers g.H.Host.modules c.args.self.now.machine) c.args.self.now.in_loop c.args.rest c.link-link.result (c.link-link.ensures.steps c.args.self.now.in_loop) (operator_of c.args.op.now.op) (value_of c.args.value) c.args.current c.args.state.now c.reach.new.state c.in-Some.access (rw c.in-Some.is at c.in_ok-access.ensures) c.assign_last.new.state c.assign_last.result c.in-None.is c.assign_last.ensures

pub assign_last-returns-in_default : goal.assign_last-returns-in_default
assign_last-returns-in_default g t c = last_plain (setting g.H.Host.answers g.H.Host.modules c.args.self.now.machine) (operator_of c.args.op.now.op) (value_of c.args.value) c.args.access c.args.current c.args.state.now c.in_default.ensures c.set_at.result _ c.set_at.ensures

pub assign_last-returns-in-Property : goal.assign_last-returns-in-Property
assign_last-returns-in-Property g t c = rw c.in-Property.is (c.assign_property.ensures _ c.in-Some.ensures)

pub assign_last-returns-in-Index : goal.assign_last-returns-in-Index
assign_last-returns-in-Index g t c = rw c.in-Index.is (c.assign_index.ensures _ c.in-Some.ensures)

pub assign_last-returns-in_err-changed_method-in-Method : goal.assign_last-returns-in_err-changed_method-in-Method
assign_last-returns-in_err-changed_method-in-Method g t c = let p = err_from_is_err_and c.from_residual.result c.from_residual.ensures.1 in rw (p.1, p.2, c.in-Method.is) (last_stops (setting g.H.Host.answers g.H.Host.modules c.args.self.now.machine) (operator_of c.args.op.now.op) (value_of c.args.value) (reached.Method c.in-Method.name c.in-Method.args) c.args.current c.args.state.now c.in-Some.token c.in-Some.ensures _ c.changed_method.new.state c.in_err-changed_method-in-Method.ensures)

pub assign_last-returns-in_ok-changed_method-in-Method : goal.assign_last-returns-in_ok-changed_method-in-Method
assign_last-returns-in_ok-changed_method-in-Method g t c = rw c.in-Method.is (last_nowhere (setting g.H.Host.answers g.H.Host.modules c.args.self.now.machine) (operator_of c.args.op.now.op) (value_of c.args.value) (reached.Method c.in-Method.name c.in-Method.args) c.args.current c.args.state.now c.in-Some.token c.in-Some.ensures c.in-Method.name.now (map value_of c.in-Method.args) refl c.in_ok-changed_method-in-Method.field-0 c.changed_method.new.state c.in_ok-changed_method-in-Method.ensures)

pub changed_method-returns-in_err-read : goal.changed_method-returns-in_err-read
changed_method-returns-in_err-read g t c o h = let p = err_from_is_err_and c.from_residual.result c.from_residual.ensures.1 in rw (p.1, p.2) (read_ends (setting g.H.Host.answers g.H.Host.modules c.args.self.now.machine) _ _ _ o (value_of c.args.value) _ c.in_err-read.ensures)

pub changed_method-returns : goal.changed_method-returns
changed_method-returns g t c o h = read_changes (setting g.H.Host.answers g.H.Host.modules c.args.self.now.machine) _ c.in_ok-read.read c.args.state.now c.method.new.state c.in_ok-read.ensures o (value_of c.args.value) c.assigned.result c.assigned.new.state (value_of c.in_ok-old.old) c.in_ok-old.ensures (c.assigned.ensures o h)

pub module_of-returns : goal.module_of-returns
module_of-returns g t c =
    let here = setting g.H.Host.answers g.H.Host.modules c.args.self.now.machine in
    leads_then here c.expr.new.state c.module_at.result (λ (v : Dynamic). given (value_of v)) (value_goes here (module_at here.world) c.in_ok-path.ensures) (c.module_at.ensures c.expr.new.state)
