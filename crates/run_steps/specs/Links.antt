-- The links of chains, and the steps that they mean.
use Rattle.std.specs.Prelude.{◌≡◌, Bool, cond, Option, Some, None}
use Rattle.base_tokens.specs.declared.flags.ASTFlags.{ASTFlags}
use Rattle.ast_types.specs.declared.expr.BinaryExpr.{BinaryExpr}
use Rattle.ast_types.specs.declared.expr.Expr.{Expr}
use Rattle.ast_types.specs.Reading.{chain_flags, expr_of, is_negated}
use Rattle.theory_meaning.specs.Core as core
use Rattle.theory_meaning.specs.Desugar.{core_expr, member_of, steps_of}
use Rattle.theory_meaning.specs.Tree as tree
use Rattle.run_steps.specs.declared.nodes.links.Link.{Link}
use Rattle.run_steps.specs.declared.nodes.links.Rest.{Rest}
use Rattle.rhai_ast.specs.Nodes.{is_dot}

-- a step by the kind of its node and its argument
abbrev pub step_core : (loop dot : Bool) → tree.Expr → core.Step
step_core loop dot e = cond dot (member_of loop e) (core.Index (core_expr loop e))

-- the steps of the rest of a chain
abbrev pub rest_steps : Bool → Rest → core.Steps
rest_steps loop r = steps_of loop (is_dot r.chain) (chain_flags r.options) (step_core loop (is_dot r.chain) (expr_of r.right.now)) (expr_of r.right.now)

-- the same, split
abbrev pub steps_on : Bool → Bool → core.Step → Option Rest → core.Steps
steps_on loop optional p None = core.last optional p
steps_on loop optional p (Some r) = core.more optional p (rest_steps loop r)

abbrev pub link_steps : Bool → Rest → Link → core.Steps
link_steps loop r l = steps_on loop (is_negated r.options) (step_core loop (is_dot r.chain) (expr_of l.argument.now)) l.rest

-- a link that is the last one, and one by a node
abbrev pub IsLast : Expr → Link → Type 0
IsLast e l = (l.argument.now ≡ e) × (l.rest ≡ None)

abbrev pub IsRest : BinaryExpr → Bool → ASTFlags → Option Rest → Type 0
IsRest b dot k None = ⊥
IsRest b dot k (Some r) = (is_dot r.chain ≡ dot) × (r.options ≡ k) × (r.right.now ≡ b.rhs)

abbrev pub IsInner : BinaryExpr → Bool → ASTFlags → Link → Type 0
IsInner b dot k l = (l.argument.now ≡ b.lhs) × IsRest b dot k l.rest
