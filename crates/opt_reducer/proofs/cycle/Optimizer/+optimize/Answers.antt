use Rattle.std.proofs.Common.{◌≡◌, ◌<◌, rules, ◌||◌, List, ◌++◌, length, Option, refl, sym, ap, ◌∙◌, subst, arith}
use Rattle.std.proofs.lemmas.Result.{on_ok_weaker}
use Rattle.std.specs.declared.num.NonZeroUsize.{NonZeroUsize}
use Rattle.opt_base.specs.State.{Setting, progress, known_of, globals_known}
use Rattle.base_tokens.specs.declared.op_assignment.OpAssignment.{OpAssignment}
use Rattle.base_tokens.specs.declared.ident.Ident.{Ident}
use Rattle.rhai_base.specs.declared.dynamic.Dynamic.{Dynamic}
use Rattle.rhai_base.specs.Value.{Text}
use Rattle.rhai_base.specs.Builtin.{operator_of}
use Rattle.ast_types.specs.declared.expr.Expr.{Expr}
use Rattle.ast_types.specs.declared.expr.BinaryExpr.{BinaryExpr}
use Rattle.ast_types.specs.declared.expr.FnCallExpr.{FnCallExpr}
use Rattle.ast_types.specs.declared.block.StmtBlock.{StmtBlock}
use Rattle.ast_types.specs.declared.stmt.FlowControl.{FlowControl}
use Rattle.ast_types.specs.declared.switch.SwitchBlock.{SwitchBlock}
use Rattle.ast_types.specs.Reading.{shapes, subject_of, cases_of, expressions_of, arms_of, table_of, breaks, is_negated, is_const, is_exported, chain_flags, keys_of, counter_of, callee_of, expr_of, exprs_of, pairs_of, maybe_of, stmt_of, stmts_of, expr_of-InterpolatedString, expr_of-Array, expr_of-Map, expr_of-MethodCall, expr_of-Stmt, expr_of-FnCall, expr_of-Dot, expr_of-Index, expr_of-And, expr_of-Or, expr_of-Coalesce, stmt_of-If, stmt_of-Switch, stmt_of-While, stmt_of-Do, stmt_of-For, stmt_of-Var, stmt_of-Assignment, stmt_of-Block, stmt_of-TryCatch, stmt_of-Expr, stmt_of-FnCall, stmt_of-BreakLoop, stmt_of-Return, stmt_of-Import}
use Rattle.theory_meaning.specs.Tree.{InterpolatedString, ArrayOf, MapOf, MethodCall, BlockExpr, FnCall, Dot, Index, And, Or, Coalesce, If, Switch, While, Do, For, Var, Assignment, Block, TryCatch, ExprStmt, FnCallStmt, an_expr, BreakLoop, Return, Import}
use Rattle.theory_meaning.specs.Weight.{stmt_weight, weight}
use Rattle.theory_rewriting.proofs.Firing.{expr_done, stmt_pass, stmt_fits, stmt_early, stmt_fired_falls, subject_then, subject_fired, subject_fits}
use Rattle.theory_rewriting.proofs.Running.{text_run, array_run, map_run, braces_run, call_run, method_run, and_run, or_run, coalesce_run, chain_dot_run, chain_index_run, both_sides, both_links, both_rounds, both_assigned, steps_end, steps_on, steps_member, steps_none, argument_as, brackets_run, member_run, member_stays, target_run, target_stays, arm_run, loop_while, loop_do, for_kept, var_kept, assign_kept, try_kept, import_kept, break_run, return_run, maybe_some_run, call_statement_run, if_run, block_run, expression_run, item_run, each_noted, list_run, list_then, list_fits, list_again, list_again_falls, list_done, counts, tries}
use Rattle.opt_reducer.proofs.Flattening.{flat_pass}
use Rattle.opt_reducer.proofs.Parts.{expr_as, stmt_as, table_written, for_as, maybe_from, maybe_same, sides_dot_at, sides_index_at, link_dot_at, link_index_at, steps_as, argument_spelled, target_as, no_chain, no_method, expr_stays, stmt_stays, forgotten, fresh_with, loop_names_alone, catch_name_alone, subject_written, arms_written, subject_kept, subject_none, arms_kept, condition_kept, open_still, undecided, once_by, once_done}
use Rattle.theory_rewriting.specs.Steps.{HasReducedSubject}
use Rattle.opt_reducer.specs.Parts.{record_of}
use Rattle.opt_reducer.proofs.UpTo.{up_next, up_end, exprs_by, pairs_by, arms_by, stmts_by, each_next}
use Rattle.opt_reducer.proofs.cycle.Optimizer.+optimize.Goals as goal

-- an expression
pub expr-returns : goal.expr-returns
expr-returns t c = on_ok_weaker _ (expr_done c.in_ok-expr_parts.ensures) c.reduce_expr.ensures

pub expr-returns-then-is_leaf : goal.expr-returns-then-is_leaf
expr-returns-then-is_leaf t c = c.if-is_leaf.ensures refl _ _ _

pub expr_parts-returns-in-InterpolatedString : goal.expr_parts-returns-in-InterpolatedString
expr_parts-returns-in-InterpolatedString t c =
    on_ok_weaker _ (λ r. expr_as (ap expr_of c.in-InterpolatedString.is ∙ expr_of-InterpolatedString _ _ ∙ ap (λ (y : List Expr). InterpolatedString (exprs_of y)) (sym (c.get_mut.ensures.value ∙ c.in-InterpolatedString.parts-is))) (search (rules, shapes)) (text_run r)) c.exprs.ensures

pub expr_parts-returns-in-Array : goal.expr_parts-returns-in-Array
expr_parts-returns-in-Array t c =
    on_ok_weaker _ (λ r. expr_as (ap expr_of c.in-Array.is ∙ expr_of-Array _ _ ∙ ap (λ (y : List Expr). ArrayOf (exprs_of y)) (sym (c.get_mut-in-Array.ensures.value ∙ c.in-Array.items-is))) (search (rules, shapes)) (array_run r)) c.exprs-in-Array.ensures

pub expr_parts-returns-in-Map : goal.expr_parts-returns-in-Map
expr_parts-returns-in-Map t c =
    on_ok_weaker _ (λ r. expr_as (ap expr_of c.in-Map.is ∙ expr_of-Map _ _ ∙ ap (λ (y : List (Ident × Expr) × List (Text × Dynamic)). MapOf (pairs_of y.0) (keys_of y.1)) (sym (c.get_mut-in-Map.ensures.value ∙ c.in-Map.map-is))) (search (rules, shapes)) (map_run (ap keys_of r.0) r.1)) c.map.ensures

pub expr_parts-returns-in-Stmt : goal.expr_parts-returns-in-Stmt
expr_parts-returns-in-Stmt t c =
    on_ok_weaker _ (λ r. expr_as (ap expr_of c.in-Stmt.is ∙ expr_of-Stmt _ ∙ ap (λ (y : StmtBlock). BlockExpr (stmts_of y.block)) (sym (c.get_mut-in-Stmt.ensures.value ∙ c.in-Stmt.block-is))) (search (rules, shapes)) (braces_run r)) c.block.ensures

pub expr_parts-returns-in-FnCall : goal.expr_parts-returns-in-FnCall
expr_parts-returns-in-FnCall t c =
    on_ok_weaker _ (λ r. expr_as (ap expr_of c.in-FnCall.is ∙ expr_of-FnCall _ _ ∙ ap (λ (y : FnCallExpr). FnCall (callee_of y) (exprs_of y.args)) (sym (c.get_mut-in-FnCall.ensures.value ∙ c.in-FnCall.call-is))) (search (rules, shapes)) (call_run r.0 r.1)) c.call.ensures

pub expr_parts-returns-in-Dot : goal.expr_parts-returns-in-Dot
expr_parts-returns-in-Dot t c =
    on_ok_weaker _ (λ r. expr_as (ap expr_of c.in-Dot.is ∙ expr_of-Dot _ _ _ ∙ ap (λ (y : BinaryExpr). Dot (chain_flags c.in-Dot.flags) (expr_of y.lhs) (expr_of y.rhs)) (sym (c.get_mut-in-Dot.ensures.value ∙ c.in-Dot.sides-is))) (search (rules, shapes, c.in-Dot.flags-is)) (chain_dot_run (sides_dot_at c.in-Dot.flags-is r))) c.chain.ensures

pub expr_parts-returns-in-Index : goal.expr_parts-returns-in-Index
expr_parts-returns-in-Index t c =
    on_ok_weaker _ (λ r. expr_as (ap expr_of c.in-Index.is ∙ expr_of-Index _ _ _ ∙ ap (λ (y : BinaryExpr). Index (chain_flags c.in-Index.flags) (expr_of y.lhs) (expr_of y.rhs)) (sym (c.get_mut-in-Index.ensures.value ∙ c.in-Index.sides-is))) (search (rules, shapes, c.in-Index.flags-is)) (chain_index_run (sides_index_at c.in-Index.flags-is r))) c.chain-in-Index.ensures

pub expr_parts-returns-in-And : goal.expr_parts-returns-in-And
expr_parts-returns-in-And t c =
    on_ok_weaker _ (λ r. expr_as (ap expr_of c.in-And.is ∙ expr_of-And _ _ ∙ ap (λ (y : List Expr). And (exprs_of y)) (sym (c.get_mut-in-And.ensures.value ∙ c.in-And.operands-is))) (search (rules, shapes)) (and_run r)) c.exprs-in-And.ensures

pub expr_parts-returns-in-Or : goal.expr_parts-returns-in-Or
expr_parts-returns-in-Or t c =
    on_ok_weaker _ (λ r. expr_as (ap expr_of c.in-Or.is ∙ expr_of-Or _ _ ∙ ap (λ (y : List Expr). Or (exprs_of y)) (sym (c.get_mut-in-Or.ensures.value ∙ c.in-Or.operands-is))) (search (rules, shapes)) (or_run r)) c.exprs-in-Or.ensures

pub expr_parts-returns-in-Coalesce : goal.expr_parts-returns-in-Coalesce
expr_parts-returns-in-Coalesce t c =
    on_ok_weaker _ (λ r. expr_as (ap expr_of c.in-Coalesce.is ∙ expr_of-Coalesce _ _ ∙ ap (λ (y : List Expr). Coalesce (exprs_of y)) (sym (c.get_mut-in-Coalesce.ensures.value ∙ c.in-Coalesce.operands-is))) (search (rules, shapes)) (coalesce_run r)) c.exprs-in-Coalesce.ensures

pub expr_parts-returns-in-MethodCall : goal.expr_parts-returns-in-MethodCall
expr_parts-returns-in-MethodCall t c =
    on_ok_weaker _ (λ r. expr_as (ap expr_of c.in-MethodCall.is ∙ expr_of-MethodCall _ _ ∙ ap (λ (y : FnCallExpr). MethodCall (callee_of y) (exprs_of y.args)) (sym (c.get_mut-in-MethodCall.ensures.value ∙ c.in-MethodCall.call-is))) (search (rules, shapes)) (method_run r.0 r.1)) c.call-in-MethodCall.ensures

pub expr_parts-returns-in_default : goal.expr_parts-returns-in_default
expr_parts-returns-in_default t c = let d = c.in_default in expr_stays _ d.not-InterpolatedString d.not-Array d.not-Map d.not-Stmt d.not-FnCall d.not-Dot d.not-Index d.not-And d.not-Or d.not-Coalesce d.not-MethodCall

-- a map's pairs
pub pairs-loop-at-preserved : goal.pairs-loop-at-preserved
pairs-loop-at-preserved t c = up_next c.pair.new.pair (pairs_by _) c.loop-at.invariant (omega (arith, c.len-at-end.ensures, c.loop-at-test.true)) c.in-Some.ensures.value.1 (record { key = c.in_ok-pair.ensures.0; run = c.in_ok-pair.ensures.1 })

pub pairs-returns : goal.pairs-returns
pairs-returns t c = (up_end (pairs_by _) c.loop-at.invariant (omega (arith, c.len-at-end.ensures, c.loop-at-test.false))).run

-- chains
pub chain-returns : goal.chain-returns
chain-returns t c = on_ok_weaker _ (both_sides c.in_ok-expr.ensures) c.steps.ensures

pub link-returns : goal.link-returns
link-returns t c = on_ok_weaker _ (both_links c.in_ok-argument.ensures) c.steps.ensures

pub steps-returns-then-contains : goal.steps-returns-then-contains
steps-returns-then-contains t c = on_ok_weaker _ (steps_end _ (sym (c.if-contains.ensures tt))) c.argument.ensures

pub steps-returns : goal.steps-returns
steps-returns t c = on_ok_weaker _ (steps_on _ (sym (c.if-contains.ensures tt))) c.next_steps.ensures

pub next_steps-returns-in-Dot : goal.next_steps-returns-in-Dot
next_steps-returns-in-Dot t c =
    on_ok_weaker _ (λ r. steps_as (ap expr_of c.in-Dot.is ∙ expr_of-Dot _ _ _ ∙ ap (λ (y : BinaryExpr). Dot (chain_flags c.in-Dot.flags) (expr_of y.lhs) (expr_of y.rhs)) (sym (c.get_mut.ensures.value ∙ c.in-Dot.sides-is))) (search (rules, shapes, c.in-Dot.flags-is)) (link_dot_at c.in-Dot.flags-is r)) c.link.ensures

pub next_steps-returns-in-Index : goal.next_steps-returns-in-Index
next_steps-returns-in-Index t c =
    on_ok_weaker _ (λ r. steps_as (ap expr_of c.in-Index.is ∙ expr_of-Index _ _ _ ∙ ap (λ (y : BinaryExpr). Index (chain_flags c.in-Index.flags) (expr_of y.lhs) (expr_of y.rhs)) (sym (c.get_mut-in-Index.ensures.value ∙ c.in-Index.sides-is))) (search (rules, shapes, c.in-Index.flags-is)) (link_index_at c.in-Index.flags-is r)) c.link-in-Index.ensures

pub next_steps-last_step-requires : goal.next_steps-last_step-requires
next_steps-last_step-requires t c = (omega arith, no_chain _ c.in_default.not-Dot c.in_default.not-Index)

pub last_step-returns-then-is_dot : goal.last_step-returns-then-is_dot
last_step-returns-then-is_dot t c = on_ok_weaker _ (steps_member _ (sym c.is_dot.ensures ∙ c.if-is_dot.true) c.requires) c.member.ensures

pub last_step-returns : goal.last_step-returns
last_step-returns t c = steps_none _ (sym c.is_dot.ensures ∙ c.if-is_dot.false) c.requires

pub argument-returns-then-is_dot : goal.argument-returns-then-is_dot
argument-returns-then-is_dot t c = on_ok_weaker _ (argument_as _ (sym c.is_dot.ensures ∙ c.if-is_dot.true)) c.member.ensures

pub argument-returns : goal.argument-returns
argument-returns t c = on_ok_weaker _ (λ r. argument_as _ (sym c.is_dot.ensures ∙ c.if-is_dot.false) (brackets_run r)) c.expr.ensures

pub member-returns-in-MethodCall : goal.member-returns-in-MethodCall
member-returns-in-MethodCall t c =
    on_ok_weaker _ (λ r. argument_spelled (ap expr_of c.in-MethodCall.is ∙ expr_of-MethodCall _ _ ∙ ap (λ (y : FnCallExpr). MethodCall (callee_of y) (exprs_of y.args)) (sym (c.get_mut.ensures.value ∙ c.in-MethodCall.call-is))) (search (rules, shapes)) (member_run r.0 r.1)) c.call.ensures

pub member-returns-in_default : goal.member-returns-in_default
member-returns-in_default t c = member_stays (no_method _ c.in_default.not-MethodCall)

pub target-returns-in-Dot : goal.target-returns-in-Dot
target-returns-in-Dot t c =
    on_ok_weaker _ (λ r. target_as (ap expr_of c.in-Dot.is ∙ expr_of-Dot _ _ _ ∙ ap (λ (y : BinaryExpr). Dot (chain_flags c.in-Dot.flags) (expr_of y.lhs) (expr_of y.rhs)) (sym (c.get_mut.ensures.value ∙ c.in-Dot.sides-is))) (search (rules, shapes, c.in-Dot.flags-is)) (target_run (sides_dot_at c.in-Dot.flags-is r))) c.chain.ensures

pub target-returns-in-Index : goal.target-returns-in-Index
target-returns-in-Index t c =
    on_ok_weaker _ (λ r. target_as (ap expr_of c.in-Index.is ∙ expr_of-Index _ _ _ ∙ ap (λ (y : BinaryExpr). Index (chain_flags c.in-Index.flags) (expr_of y.lhs) (expr_of y.rhs)) (sym (c.get_mut-in-Index.ensures.value ∙ c.in-Index.sides-is))) (search (rules, shapes, c.in-Index.flags-is)) (target_run (sides_index_at c.in-Index.flags-is r))) c.chain-in-Index.ensures

pub target-returns-in_default : goal.target-returns-in_default
target-returns-in_default t c = target_stays (no_chain _ c.in_default.not-Dot c.in_default.not-Index)

-- the list of expressions
pub exprs-loop-at-preserved : goal.exprs-loop-at-preserved
exprs-loop-at-preserved t c = up_next c.expr.new.expr (exprs_by _) c.loop-at.invariant (omega (arith, c.len-at-end.ensures, c.loop-at-test.true)) c.in-Some.ensures.value.1 (record { run = c.in_ok-expr.ensures })

pub exprs-returns : goal.exprs-returns
exprs-returns t c = (up_end (exprs_by _) c.loop-at.invariant (omega (arith, c.len-at-end.ensures, c.loop-at-test.false))).run

-- a statement
pub stmt-loop-init : goal.stmt-loop-init
stmt-loop-init t c = stmt_pass

pub stmt-stmt_once-requires : goal.stmt-stmt_once-requires
stmt-stmt_once-requires t c = (omega (arith, stmt_fits c.loop.invariant), tt)

pub stmt-loop-preserved : goal.stmt-loop-preserved
stmt-loop-preserved t c = stmt_early c.loop.invariant (rw c.if-not-branch.false at c.in_ok-stmt_once.ensures)

pub stmt-loop-smaller : goal.stmt-loop-smaller
stmt-loop-smaller t c = stmt_fired_falls (rw c.if-not-branch.false at c.in_ok-stmt_once.ensures)

pub stmt-returns-then-not-branch : goal.stmt-returns-then-not-branch
stmt-returns-then-not-branch t c = once_done c.loop.invariant (rw c.if-not-branch.true at c.in_ok-stmt_once.ensures)

pub stmt_once-returns-then-branch : goal.stmt_once-returns-then-branch
stmt_once-returns-then-branch t c = rw c.if-branch.true at c.in_ok-decide_stmt.ensures (record_of c.args.self.now)

pub stmt_once-subject-requires : goal.stmt_once-subject-requires
stmt_once-subject-requires t c =
    let q = rw c.if-branch.false at c.in_ok-decide_stmt.ensures (record_of c.args.self.now) in
    (omega (arith, ap stmt_weight q.0), tt)

pub stmt_once-returns-then-branch-2 : goal.stmt_once-returns-then-branch-2
stmt_once-returns-then-branch-2 t c =
    let q = rw c.if-branch.false at c.in_ok-decide_stmt.ensures (record_of c.args.self.now) in
    subject_fired (open_still q (c.in_ok-subject.ensures c.args.is_wanted)) (rw c.if-branch-2.true at c.in_ok-decide_stmt-2.ensures (record_of c.args.self.now))

pub stmt_once-stmt_parts-requires : goal.stmt_once-stmt_parts-requires
stmt_once-stmt_parts-requires t c =
    let q = rw c.if-branch.false at c.in_ok-decide_stmt.ensures (record_of c.args.self.now) in
    let f = undecided (open_still q (c.in_ok-subject.ensures c.args.is_wanted)) (rw c.if-branch-2.false at c.in_ok-decide_stmt-2.ensures (record_of c.args.self.now)) in
    (omega (arith, subject_fits f), f.subject)

pub stmt_once-returns : goal.stmt_once-returns
stmt_once-returns t c =
    let q = rw c.if-branch.false at c.in_ok-decide_stmt.ensures (record_of c.args.self.now) in
    let f = undecided (open_still q (c.in_ok-subject.ensures c.args.is_wanted)) (rw c.if-branch-2.false at c.in_ok-decide_stmt-2.ensures (record_of c.args.self.now)) in
    once_by _ _ c.reduce_stmt.result (subject_then f c.in_ok-stmt_parts.ensures) c.reduce_stmt.ensures

pub stmt_parts-choice-requires : goal.stmt_parts-choice-requires
stmt_parts-choice-requires t c =
    let spelled = ap stmt_of c.in-If.is ∙ stmt_of-If _ _ ∙ ap (λ (y : FlowControl). If (expr_of y.expr) (stmts_of y.body.block) (stmts_of y.branch.block)) (sym (c.get_mut.ensures.value ∙ c.in-If.flow-is)) in
    (omega (arith, ap stmt_weight spelled), subst (HasReducedSubject (record_of c.args.self.now) (progress c.args.state.now)) spelled c.requires)

pub stmt_parts-returns-in-If : goal.stmt_parts-returns-in-If
stmt_parts-returns-in-If t c =
    on_ok_weaker _ (λ r. stmt_as (ap stmt_of c.in-If.is ∙ stmt_of-If _ _ ∙ ap (λ (y : FlowControl). If (expr_of y.expr) (stmts_of y.body.block) (stmts_of y.branch.block)) (sym (c.get_mut.ensures.value ∙ c.in-If.flow-is))) (search (rules, shapes)) (r)) c.choice.ensures

pub stmt_parts-returns-in-Switch : goal.stmt_parts-returns-in-Switch
stmt_parts-returns-in-Switch t c =
    on_ok_weaker _ (λ r. arms_kept (ap stmt_of c.in-Switch.is ∙ stmt_of-Switch _ _ ∙ ap (λ (y : SwitchBlock). Switch (expr_of (subject_of y)) (arms_of (expressions_of (cases_of y))) (table_of (cases_of y))) (sym (c.get_mut-in-Switch.ensures.value ∙ c.in-Switch.switch-is))) (search (rules, shapes)) c.requires (ap expr_of r.0) r.1.0 r.1.1) c.switch_arms.ensures

pub stmt_parts-returns-in-While : goal.stmt_parts-returns-in-While
stmt_parts-returns-in-While t c =
    on_ok_weaker _ (λ r. stmt_as (ap stmt_of c.in-While.is ∙ stmt_of-While _ _ ∙ ap (λ (y : FlowControl). While (expr_of y.expr) (stmts_of y.body.block)) (sym (c.get_mut-in-While.ensures.value ∙ c.in-While.flow-is))) (search (rules, shapes)) (loop_while r)) c.rounds.ensures

pub stmt_parts-returns-in-Do : goal.stmt_parts-returns-in-Do
stmt_parts-returns-in-Do t c =
    on_ok_weaker _ (λ r. stmt_as (ap stmt_of c.in-Do.is ∙ stmt_of-Do _ _ _ ∙ ap (λ (y : FlowControl). Do (is_negated c.in-Do.flags) (is_exported c.in-Do.flags) (expr_of y.expr) (stmts_of y.body.block)) (sym (c.get_mut-in-Do.ensures.value ∙ c.in-Do.flow-is))) (search (rules, shapes, c.in-Do.flags-is)) (loop_do r)) c.rounds-in-Do.ensures

pub stmt_parts-returns-in-For : goal.stmt_parts-returns-in-For
stmt_parts-returns-in-For t c =
    on_ok_weaker _ (λ r. stmt_as (ap stmt_of c.in-For.is ∙ stmt_of-For _ _ ∙ ap (λ (y : Ident × Option Ident × FlowControl). For y.0.name (counter_of y.1) (expr_of y.2.expr) (stmts_of y.2.body.block)) (sym (c.get_mut-in-For.ensures.value ∙ c.in-For.parts-is))) (search (rules, shapes)) (for_kept (ap (λ (i : Ident). i.name) r.0) (ap counter_of r.1.0) r.1.1)) c.counted.ensures

pub stmt_parts-returns-in-Var : goal.stmt_parts-returns-in-Var
stmt_parts-returns-in-Var t c =
    on_ok_weaker _ (λ r. stmt_as (ap stmt_of c.in-Var.is ∙ stmt_of-Var _ _ _ ∙ ap (λ (y : Ident × Expr × Option NonZeroUsize). Var (is_const c.in-Var.flags) (is_exported c.in-Var.flags) y.0.name (expr_of y.1)) (sym (c.get_mut-in-Var.ensures.value ∙ c.in-Var.parts-is))) (search (rules, shapes, c.in-Var.flags-is)) (var_kept (ap (λ (i : Ident). i.name) r.0) r.1)) c.declaration.ensures

pub stmt_parts-returns-in-Assignment : goal.stmt_parts-returns-in-Assignment
stmt_parts-returns-in-Assignment t c =
    on_ok_weaker _ (λ r. stmt_as (ap stmt_of c.in-Assignment.is ∙ stmt_of-Assignment _ ∙ ap (λ (y : OpAssignment × BinaryExpr). Assignment (operator_of y.0.op) (expr_of y.1.lhs) (expr_of y.1.rhs)) (sym (c.get_mut-in-Assignment.ensures.value ∙ c.in-Assignment.parts-is))) (search (rules, shapes)) (assign_kept (ap (λ (o : OpAssignment). operator_of o.op) r.0) r.1)) c.assignment.ensures

pub stmt_parts-returns-in-FnCall : goal.stmt_parts-returns-in-FnCall
stmt_parts-returns-in-FnCall t c =
    on_ok_weaker _ (λ r. stmt_as (ap stmt_of c.in-FnCall.is ∙ stmt_of-FnCall _ _ ∙ ap (λ (y : FnCallExpr). FnCallStmt (callee_of y) (exprs_of y.args)) (sym (c.get_mut-in-FnCall.ensures.value ∙ c.in-FnCall.call-is))) (search (rules, shapes)) (call_statement_run r.0 r.1)) c.call.ensures

pub stmt_parts-returns-in-Block : goal.stmt_parts-returns-in-Block
stmt_parts-returns-in-Block t c =
    on_ok_weaker _ (λ r. stmt_as (ap stmt_of c.in-Block.is ∙ stmt_of-Block _ ∙ ap (λ (y : StmtBlock). Block (stmts_of y.block)) (sym (c.get_mut-in-Block.ensures.value ∙ c.in-Block.block-is))) (search (rules, shapes)) (block_run r)) c.block.ensures

pub stmt_parts-returns-in-TryCatch : goal.stmt_parts-returns-in-TryCatch
stmt_parts-returns-in-TryCatch t c =
    on_ok_weaker _ (λ r. stmt_as (ap stmt_of c.in-TryCatch.is ∙ stmt_of-TryCatch _ _ ∙ ap (λ (y : FlowControl). TryCatch (expr_of y.expr) (stmts_of y.body.block) (stmts_of y.branch.block)) (sym (c.get_mut-in-TryCatch.ensures.value ∙ c.in-TryCatch.flow-is))) (search (rules, shapes)) (try_kept (ap expr_of r.1) r.0)) c.attempt.ensures

pub stmt_parts-returns-in-Expr : goal.stmt_parts-returns-in-Expr
stmt_parts-returns-in-Expr t c =
    on_ok_weaker _ (λ r. stmt_as (ap stmt_of c.in-Expr.is ∙ stmt_of-Expr _ ∙ ap (λ (y : Expr). ExprStmt (expr_of y)) (sym (c.get_mut-in-Expr.ensures.value ∙ c.in-Expr.expr-is))) (search (rules, shapes)) (expression_run r)) c.expr.ensures

pub stmt_parts-returns-in-BreakLoop : goal.stmt_parts-returns-in-BreakLoop
stmt_parts-returns-in-BreakLoop t c =
    on_ok_weaker _ (λ r. stmt_as (ap stmt_of c.in-BreakLoop.is ∙ stmt_of-BreakLoop _ _ _ ∙ ap (λ (y : Option Expr). BreakLoop (breaks c.in-BreakLoop.flags) (is_exported c.in-BreakLoop.flags) (maybe_of y)) (sym c.in-BreakLoop.value-is)) (search (rules, shapes, c.in-BreakLoop.flags-is)) (break_run r)) c.maybe.ensures

pub stmt_parts-returns-in-Return : goal.stmt_parts-returns-in-Return
stmt_parts-returns-in-Return t c =
    on_ok_weaker _ (λ r. stmt_as (ap stmt_of c.in-Return.is ∙ stmt_of-Return _ _ _ ∙ ap (λ (y : Option Expr). Return (breaks c.in-Return.flags) (is_exported c.in-Return.flags) (maybe_of y)) (sym c.in-Return.value-is)) (search (rules, shapes, c.in-Return.flags-is)) (return_run r)) c.maybe-in-Return.ensures

pub stmt_parts-returns-in-Import : goal.stmt_parts-returns-in-Import
stmt_parts-returns-in-Import t c =
    on_ok_weaker _ (λ r. stmt_as (ap stmt_of c.in-Import.is ∙ stmt_of-Import _ _ ∙ ap (λ (y : Expr × Ident). Import (expr_of y.0) y.1.name) (sym (c.get_mut-in-Import.ensures.value ∙ c.in-Import.parts-is))) (search (rules, shapes)) (import_kept (ap (λ (i : Ident). i.name) r.0) r.1)) c.import.ensures

pub stmt_parts-returns-in_default : goal.stmt_parts-returns-in_default
stmt_parts-returns-in_default t c = let d = c.in_default in stmt_stays _ d.not-If d.not-While d.not-Do d.not-For d.not-Var d.not-Assignment d.not-FnCall d.not-Block d.not-TryCatch d.not-Expr d.not-BreakLoop d.not-Return d.not-Import d.not-Switch

-- a `switch`
pub arms-loop-at-preserved : goal.arms-loop-at-preserved
arms-loop-at-preserved t c = up_next c.arm.new.arm (arms_by _) c.loop-at.invariant (omega (arith, c.len-at-end.ensures, c.loop-at-test.true)) c.in-Some.ensures.value.1 (record { run = c.in_ok-arm.ensures })

pub arms-returns : goal.arms-returns
arms-returns t c = (up_end (arms_by _) c.loop-at.invariant (omega (arith, c.len-at-end.ensures, c.loop-at-test.false))).run

pub arm-returns : goal.arm-returns
arm-returns t c = on_ok_weaker _ (arm_run c.in_ok-expr.ensures) c.expr-2.ensures

pub subject-returns-in-Switch : goal.subject-returns-in-Switch
subject-returns-in-Switch t c =
    on_ok_weaker _ (λ r. subject_kept c.get_mut.result.now c.switch_subject.new.switch (ap stmt_of c.in-Switch.is ∙ stmt_of-Switch _ _ ∙ ap (λ (y : SwitchBlock). Switch (expr_of (subject_of y)) (arms_of (expressions_of (cases_of y))) (table_of (cases_of y))) (sym (c.get_mut.ensures.value ∙ c.in-Switch.switch-is))) (search (rules, shapes)) r.0 r.1) c.switch_subject.ensures

pub subject-returns-in-If : goal.subject-returns-in-If
subject-returns-in-If t c =
    on_ok_weaker _ (λ r. condition_kept c.get_mut-in-If.result.now c.condition.new.flow (ap stmt_of c.in-If.is ∙ stmt_of-If _ _ ∙ ap (λ (y : FlowControl). If (expr_of y.expr) (stmts_of y.body.block) (stmts_of y.branch.block)) (sym (c.get_mut-in-If.ensures.value ∙ c.in-If.flow-is))) (search (rules, shapes)) r.0 r.1.0 r.1.1) c.condition.ensures

pub subject-returns-in_default : goal.subject-returns-in_default
subject-returns-in_default t c = subject_none _ c.in_default.not-Switch c.in_default.not-If

pub switch_subject-returns : goal.switch_subject-returns
switch_subject-returns t c = on_ok_weaker _ (subject_written c.args.switch.now c.expr.new.expr) c.expr.ensures

pub switch_arms-returns : goal.switch_arms-returns
switch_arms-returns t c = on_ok_weaker _ (arms_written c.args.switch.now c.table.new.cases) c.table.ensures

pub table-returns : goal.table-returns
table-returns t c = on_ok_weaker _ (table_written c.args.cases.now c.arms.new.arms) c.arms.ensures

-- loops and names
pub rounds-returns : goal.rounds-returns
rounds-returns t c = on_ok_weaker _ (both_rounds c.in_ok-expr.ensures) c.block.ensures

pub counted-body-requires : goal.counted-body-requires
counted-body-requires t c = (omega (arith, ap (λ (b : StmtBlock). weight (stmts_of b.block)) c.in_ok-condition.ensures.0), tt)

pub counted-returns : goal.counted-returns
counted-returns t c = (refl, (refl, for_as c.in_ok-condition.ensures.0 c.in_ok-body.ensures.0 (counts _ _ _ c.in_ok-condition.ensures.1.1 refl c.in_ok-push_loop_names.ensures c.in_ok-body.ensures.1 c.rewind_var.ensures.flag (forgotten c.len-len.result _ c.body.new.state.entries c.rewind_var.new.self.entries _ c.body.new.state.setting.globals c.rewind_var.new.self.setting.globals _ c.len-len.ensures (loop_names_alone _ _) (c.in_ok-body.ensures.1.known ∙ c.in_ok-push_loop_names.ensures.1) (ap (λ (s : Setting). s.globals) c.rewind_var.ensures.setting) c.rewind_var.ensures.names))))

pub assigned-returns : goal.assigned-returns
assigned-returns t c = on_ok_weaker _ (both_assigned c.in_ok-target.ensures) c.expr.ensures

pub attempt-returns : goal.attempt-returns
attempt-returns t c = (tries _ _ c.in_ok-block.ensures refl c.in_ok-push_catch_name.ensures c.in_ok-block-2.ensures c.rewind_var.ensures.flag (forgotten c.len-len.result _ c.block-2.new.state.entries c.rewind_var.new.self.entries _ c.block-2.new.state.setting.globals c.rewind_var.new.self.setting.globals _ c.len-len.ensures (catch_name_alone _) (c.in_ok-block-2.ensures.known ∙ c.in_ok-push_catch_name.ensures.1) (ap (λ (s : Setting). s.globals) c.rewind_var.ensures.setting) c.rewind_var.ensures.names), refl)

pub maybe-returns-in-Some : goal.maybe-returns-in-Some
maybe-returns-in-Some t c = on_ok_weaker _ (λ r. maybe_from (ap maybe_of c.in-Some.is ∙ ap (λ (e : Expr). an_expr (expr_of e)) (sym c.get_mut.ensures.value)) (maybe_some_run r)) c.expr.ensures

pub maybe-returns-in-None : goal.maybe-returns-in-None
maybe-returns-in-None t c = maybe_same (ap maybe_of c.in-None.is)

pub choice-returns : goal.choice-returns
choice-returns t c = on_ok_weaker _ (if_run c.requires c.in_ok-block.ensures) c.block-2.ensures

-- the list of statements
pub item-returns-then-not-are_known : goal.item-returns-then-not-are_known
item-returns-then-not-are_known t c = rw c.if-not-are_known.true ((refl, refl), c.in_ok-stmt.ensures)

pub item-returns : goal.item-returns
item-returns t c = rw c.if-not-are_known.false ((refl, refl), item_run c.in_ok-stmt-2.ensures c.in_ok-declare.ensures.0 c.in_ok-declare.ensures.1)

pub each-loop-at-init : goal.each-loop-at-init
each-loop-at-init t c = record {
  fresh = record {
    clear = c.without_names-unknown.ensures.flag;
    nameless = ap (λ es. known_of es ++ globals_known c.without_names-unknown.result.setting.globals) c.without_names-unknown.ensures.names ∙ fresh_with c.args.state.now.entries c.args.state.now.setting.globals c.without_names-unknown.result.setting.globals c.without_names-unknown.ensures.globals;
  };
  to = record { len = refl; fits = omega arith; to = λ d2 new p. p };
}

pub each-loop-at-preserved : goal.each-loop-at-preserved
each-loop-at-preserved t c =
    let lt : c.loop-at.at < length c.loop-at.statements = omega (arith, c.len-at-end.ensures, c.loop-at-test.true, c.loop-at.invariant.to.len) in
    each_next c.loop-at.are_known c.item.new.statement lt (rw c.as_slice-in-loop-at.ensures at c.are_known_at-are_known.ensures) c.loop-at.invariant c.in-Some.ensures.value.1 (rw (c.is_wanted.ensures, c.as_slice.ensures) at c.is_wanted_at-is_wanted.ensures) c.in_ok-item.ensures

pub each-returns : goal.each-returns
each-returns t c =
    each_noted (progress c.loop-at.state) (progress c.loop-at.unknown) (c.note.ensures.dirty ∙ ap (λ b. b || c.loop-at.state.is_dirty) c.is_dirty.ensures) c.note.ensures.known ((up_end (stmts_by _ _) c.loop-at.invariant.to (omega (arith, c.len-at-end.ensures, c.loop-at-test.false))).run c.loop-at.invariant.fresh)

-- each gone over, and then flattened
pub list-returns : goal.list-returns
list-returns t c =
    on_ok_weaker _ (λ f. list_run _ refl c.in_ok-each.ensures c.rewind_var.ensures.flag (forgotten c.len-before.result _ c.each.new.state.entries c.rewind_var.new.self.entries _ c.each.new.state.setting.globals c.rewind_var.new.self.setting.globals c.in_ok-each.ensures.front c.len-before.ensures c.in_ok-each.ensures.names c.in_ok-each.ensures.known (ap (λ (s : Setting). s.globals) c.rewind_var.ensures.setting) c.rewind_var.ensures.names) f.to f.reduced f.clear f.flat f.known) c.flatten.ensures

-- swept, until no last `return` is bared
pub stmt_block-loop-state-init : goal.stmt_block-loop-state-init
stmt_block-loop-state-init t c = list_then (flat_pass c.in_ok-flatten.ensures) (c.sweep_before.ensures _)

pub stmt_block-list-requires : goal.stmt_block-list-requires
stmt_block-list-requires t c = (omega (arith, list_fits c.loop-state.invariant), tt)

pub stmt_block-loop-state-preserved : goal.stmt_block-loop-state-preserved
stmt_block-loop-state-preserved t c = list_again c.loop-state.invariant c.in_ok-list.ensures (rw c.if-not-sweep_list.false at c.sweep_list.ensures)

pub stmt_block-loop-state-smaller : goal.stmt_block-loop-state-smaller
stmt_block-loop-state-smaller t c = list_again_falls c.in_ok-list.ensures (rw c.if-not-sweep_list.false at c.sweep_list.ensures)

pub stmt_block-returns-then-not-sweep_list : goal.stmt_block-returns-then-not-sweep_list
stmt_block-returns-then-not-sweep_list t c = list_done c.loop-state.invariant c.in_ok-list.ensures (rw c.if-not-sweep_list.true at c.sweep_list.ensures)

-- a block
pub block-returns : goal.block-returns
block-returns t c = rw c.statements_mut.ensures.value at c.stmt_block.ensures
