-- A node of a kind runs as its parts do.
use Rattle.std.proofs.Common.{◌≡◌, Bool, true, false, List, map, Option, Result, Ok, Err, sym, ap, ◌∙◌, subst}
use Rattle.rhai_base.specs.declared.dynamic.Dynamic.{Dynamic}
use Rattle.rhai_base.specs.declared.dynamic.Dynamic.TheVariants as value
use Rattle.rhai_base.specs.Reading.{value_of}
use Rattle.rhai_base.specs.Value.{Text, TextV}
use Rattle.base_tokens.specs.declared.position.Position.{Position}
use Rattle.base_tokens.specs.declared.ident.Ident.{Ident}
use Rattle.ast_types.specs.declared.expr.Expr.{Expr}
use Rattle.ast_types.specs.declared.expr.Expr.TheVariants as expr_kind
use Rattle.ast_types.specs.declared.expr.FnCallExpr.{FnCallExpr}
use Rattle.ast_types.specs.declared.expr.BinaryExpr.{BinaryExpr}
use Rattle.base_tokens.specs.declared.flags.ASTFlags.{ASTFlags}
use Rattle.ast_types.specs.declared.block.StmtBlock.{StmtBlock}
use Rattle.ast_types.specs.declared.stmt.FlowControl.{FlowControl}
use Rattle.ast_types.specs.declared.stmt.Stmt.{Stmt}
use Rattle.ast_types.specs.declared.stmt.Stmt.TheVariants as stmt_kind
use Rattle.ast_types.specs.declared.switch.SwitchBlock.{SwitchBlock}
use Rattle.ast_types.specs.Reading.{arms_of, callee_of, cases_of, counter_of, expr_of, chain_flags, expr_of-Array, expr_of-Dot, expr_of-FnCall, expr_of-Index, expr_of-InterpolatedString, expr_of-Map, expr_of-MethodCall, expr_of-Property, expr_of-Stmt, exprs_of, expressions_of, keys_of, pairs_of, property_names, stmt_of, stmt_of-Block, stmt_of-FnCall, stmt_of-For, stmt_of-If, stmt_of-Switch, stmts_of, subject_of, table_of}
use Rattle.theory_meaning.specs.Control.{text_in, texts_joined}
use Rattle.theory_meaning.specs.Core as core
use Rattle.theory_meaning.specs.Desugar.{core_expr, core_stmt, core_stmts}
use Rattle.theory_meaning.specs.Tree as tree
use Rattle.run_state.specs.declared.state.Interrupt.{Interrupt}
use Rattle.run_state.specs.declared.state.Interrupt.TheVariants.{Stuck}
use Rattle.run_host.specs.declared.report.Stuck.TheVariants as why
use Rattle.run_state.specs.declared.state.State.{State}
use Rattle.run_steps.specs.Chaining.{chain_core}
use Rattle.run_state.specs.Evaluating.{RunsBlock, RunsCall, RunsCore, RunsDeed, RunsExpr, RunsExprs, RunsLine, RunsStmt}
use Rattle.run_state.specs.Runs.{Setting}
use Rattle.run_evaluator.proofs.Nodes.{array_runs, block_line, call_line, for_line, if_line, method_ill, property_ill, string_runs}

module _ (here : Setting) (loop : Bool) (s s1 : State) where
  module _ (x : Expr) where
    expr_as : (e : tree.Expr) (r : Result Dynamic Interrupt) → expr_of x ≡ e → RunsExpr here loop e s r s1 → RunsExpr here loop (expr_of x) s r s1
    expr_as e r h q = subst (λ y. RunsExpr here loop y s r s1) (sym h) q

    pub call_of_expr : (c got : FnCallExpr) (p : Position) (r : Result Dynamic Interrupt) → x ≡ expr_kind.FnCall c p → got ≡ c → RunsCall here loop (callee_of got) (exprs_of got.args) s r s1 → RunsExpr here loop (expr_of x) s r s1
    call_of_expr c got p r h k q = expr_as (tree.FnCall (callee_of c) (exprs_of c.args)) r (ap expr_of h ∙ expr_of-FnCall c p) (subst (λ d. RunsCall here loop (callee_of d) (exprs_of d.args) s r s1) k q)

    pub braces_of_expr : (b got : StmtBlock) (r : Result Dynamic Interrupt) → x ≡ expr_kind.Stmt b → got ≡ b → RunsBlock here loop (stmts_of got.block) s r s1 → RunsExpr here loop (expr_of x) s r s1
    braces_of_expr b got r h k q = expr_as (tree.BlockExpr (stmts_of b.block)) r (ap expr_of h ∙ expr_of-Stmt b) (subst (λ d. RunsBlock here loop (stmts_of d.block) s r s1) k q true)

    pub array_of_expr : (items got : List Expr) (p : Position) (vs : List Dynamic) → x ≡ expr_kind.Array items p → got ≡ items → RunsExprs here loop (exprs_of got) s (Ok vs) s1 → RunsExpr here loop (expr_of x) s (Ok (value.Array vs)) s1
    array_of_expr items got p vs h k q = expr_as (tree.ArrayOf (exprs_of items)) (Ok (value.Array vs)) (ap expr_of h ∙ expr_of-Array items p) (array_runs here loop (exprs_of items) s s1 vs (subst (λ es. RunsExprs here loop (exprs_of es) s (Ok vs) s1) k q))

    pub text_of_expr : (parts got : List Expr) (p : Position) (vs : List Dynamic) (v : Dynamic) → x ≡ expr_kind.InterpolatedString parts p → got ≡ parts → RunsExprs here loop (exprs_of got) s (Ok vs) s1 → value_of v ≡ TextV (texts_joined (text_in here.world.host) (map value_of vs)) → RunsExpr here loop (expr_of x) s (Ok v) s1
    text_of_expr parts got p vs v h k q w = expr_as (tree.InterpolatedString (exprs_of parts)) (Ok v) (ap expr_of h ∙ expr_of-InterpolatedString parts p) (string_runs here loop (exprs_of parts) s s1 vs v (subst (λ es. RunsExprs here loop (exprs_of es) s (Ok vs) s1) k q) w)

    pub map_of_expr : (m got : List (Ident × Expr) × List (Text × Dynamic)) (p : Position) (r : Result Dynamic Interrupt) → x ≡ expr_kind.Map m p → got ≡ m → RunsCore here (core_expr loop (tree.MapOf (pairs_of got.0) (keys_of got.1))) s r s1 → RunsExpr here loop (expr_of x) s r s1
    map_of_expr m got p r h k q = expr_as (tree.MapOf (pairs_of m.0) (keys_of m.1)) r (ap expr_of h ∙ expr_of-Map m p) (subst (λ (d : List (Ident × Expr) × List (Text × Dynamic)). RunsCore here (core_expr loop (tree.MapOf (pairs_of d.0) (keys_of d.1))) s r s1) k q)

    ill_as : (e : tree.Expr) → expr_of x ≡ e → RunsExpr here loop e s (Err (Stuck why.WrongKind)) s → RunsExpr here loop (expr_of x) s (Err (Stuck why.WrongKind)) s
    ill_as e h q = subst (λ y. RunsExpr here loop y s (Err (Stuck why.WrongKind)) s) (sym h) q

    pub property_of_expr : (p : Text × Text × Text) (q : Position) → x ≡ expr_kind.Property p q → RunsExpr here loop (expr_of x) s (Err (Stuck why.WrongKind)) s
    property_of_expr p q h = ill_as (tree.Property (property_names p)) (ap expr_of h ∙ expr_of-Property p q) (property_ill here loop (property_names p) s)

    pub method_of_expr : (c : FnCallExpr) (q : Position) → x ≡ expr_kind.MethodCall c q → RunsExpr here loop (expr_of x) s (Err (Stuck why.WrongKind)) s
    method_of_expr c q h = ill_as (tree.MethodCall (callee_of c) (exprs_of c.args)) (ap expr_of h ∙ expr_of-MethodCall c q) (method_ill here loop (callee_of c) (exprs_of c.args) s)

    pub dot_of_expr : (b got : BinaryExpr) (k : ASTFlags) (q : Position) (r : Result Dynamic Interrupt) → x ≡ expr_kind.Dot b k q → got ≡ b → RunsCore here (chain_core loop true (chain_flags k) (expr_of got.lhs) (expr_of got.rhs)) s r s1 → RunsExpr here loop (expr_of x) s r s1
    dot_of_expr b got k q r h g o = expr_as (tree.Dot (chain_flags k) (expr_of b.lhs) (expr_of b.rhs)) r (ap expr_of h ∙ expr_of-Dot b k q) (subst (λ (d : BinaryExpr). RunsCore here (chain_core loop true (chain_flags k) (expr_of d.lhs) (expr_of d.rhs)) s r s1) g o)

    pub index_of_expr : (b got : BinaryExpr) (k : ASTFlags) (q : Position) (r : Result Dynamic Interrupt) → x ≡ expr_kind.Index b k q → got ≡ b → RunsCore here (chain_core loop false (chain_flags k) (expr_of got.lhs) (expr_of got.rhs)) s r s1 → RunsExpr here loop (expr_of x) s r s1
    index_of_expr b got k q r h g o = expr_as (tree.Index (chain_flags k) (expr_of b.lhs) (expr_of b.rhs)) r (ap expr_of h ∙ expr_of-Index b k q) (subst (λ (d : BinaryExpr). RunsCore here (chain_core loop false (chain_flags k) (expr_of d.lhs) (expr_of d.rhs)) s r s1) g o)

  module _ (x : Stmt) (r : Result Dynamic Interrupt) where
    stmt_as : (l : tree.Stmt) → stmt_of x ≡ l → RunsStmt here loop l s r s1 → RunsStmt here loop (stmt_of x) s r s1
    stmt_as l h q = subst (λ y. RunsStmt here loop y s r s1) (sym h) q

    pub if_of_stmt : (f got : FlowControl) (p : Position) → x ≡ stmt_kind.If f p → got ≡ f → RunsDeed here (core.If (core_expr loop (expr_of got.expr)) (core_stmts loop (stmts_of got.body.block)) (core_stmts loop (stmts_of got.branch.block))) s r s1 → RunsStmt here loop (stmt_of x) s r s1
    if_of_stmt f got p h k q =
        stmt_as (tree.If (expr_of f.expr) (stmts_of f.body.block) (stmts_of f.branch.block)) (ap stmt_of h ∙ stmt_of-If f p)
        (if_line here loop (expr_of f.expr) (stmts_of f.body.block) (stmts_of f.branch.block) s s1 r
        (subst (λ d. RunsDeed here (core.If (core_expr loop (expr_of d.expr)) (core_stmts loop (stmts_of d.body.block)) (core_stmts loop (stmts_of d.branch.block))) s r s1) k q))

    pub call_of_stmt : (c got : FnCallExpr) (p : Position) → x ≡ stmt_kind.FnCall c p → got ≡ c → RunsCall here loop (callee_of got) (exprs_of got.args) s r s1 → RunsStmt here loop (stmt_of x) s r s1
    call_of_stmt c got p h k q =
        stmt_as (tree.FnCallStmt (callee_of c) (exprs_of c.args)) (ap stmt_of h ∙ stmt_of-FnCall c p)
        (call_line here loop (callee_of c) (exprs_of c.args) s s1 r (subst (λ d. RunsCall here loop (callee_of d) (exprs_of d.args) s r s1) k q))

    pub block_of_stmt : (b got : StmtBlock) → x ≡ stmt_kind.Block b → got ≡ b → RunsBlock here loop (stmts_of got.block) s r s1 → RunsStmt here loop (stmt_of x) s r s1
    block_of_stmt b got h k q =
        stmt_as (tree.Block (stmts_of b.block)) (ap stmt_of h ∙ stmt_of-Block b)
        (block_line here loop (stmts_of b.block) s s1 r (subst (λ d. RunsBlock here loop (stmts_of d.block) s r s1) k q))

    abbrev switch_tree : SwitchBlock → tree.Stmt
    switch_tree b = tree.Switch (expr_of (subject_of b)) (arms_of (expressions_of (cases_of b))) (table_of (cases_of b))

    pub switch_of_stmt : (b got : SwitchBlock) (p : Position) → x ≡ stmt_kind.Switch b p → got ≡ b → RunsLine here (core_stmt loop (switch_tree got)) s r s1 → RunsStmt here loop (stmt_of x) s r s1
    switch_of_stmt b got p h k q = stmt_as (switch_tree b) (ap stmt_of h ∙ stmt_of-Switch b p) (subst (λ d. RunsLine here (core_stmt loop (switch_tree d)) s r s1) k q)

    abbrev for_deed : Ident × Option Ident × FlowControl → core.Deed
    for_deed d = core.For d.0.name (counter_of d.1) (core_expr loop (expr_of d.2.expr)) (core_stmts true (stmts_of d.2.body.block))

    pub for_of_stmt : (d got : Ident × Option Ident × FlowControl) (p : Position) → x ≡ stmt_kind.For d p → got ≡ d → RunsDeed here (for_deed got) s r s1 → RunsStmt here loop (stmt_of x) s r s1
    for_of_stmt d got p h k q =
        stmt_as (tree.For d.0.name (counter_of d.1) (expr_of d.2.expr) (stmts_of d.2.body.block)) (ap stmt_of h ∙ stmt_of-For d p)
        (for_line here loop d.0.name (counter_of d.1) (expr_of d.2.expr) (stmts_of d.2.body.block) s s1 r (subst (λ e. RunsDeed here (for_deed e) s r s1) k q))
