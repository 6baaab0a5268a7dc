-- Left sides of assignments, and the targets that they mean.
use Rattle.std.specs.Prelude.{◌≡◌, ℕ, Bool, true, false, cond, Option, Some, None}
use Rattle.base_tokens.specs.declared.flags.ASTFlags.{ASTFlags}
use Rattle.ast_types.specs.declared.expr.BinaryExpr.{BinaryExpr}
use Rattle.ast_types.specs.Reading.{breaks, chain_flags, expr_of}
use Rattle.theory_meaning.specs.Core as core
use Rattle.theory_meaning.specs.Desugar.{ends_in_call, part_target, root_of, target_of}
use Rattle.theory_meaning.specs.Shape.{is_chain, is_left_side}
use Rattle.theory_meaning.specs.Tree as tree
use Rattle.theory_meaning.specs.Weight.{expr_weight}
use Rattle.run_steps.specs.declared.nodes.left_sides.LeftSide.{LeftSide}
use Rattle.run_steps.specs.declared.nodes.left_sides.LeftSide.TheVariants as side
use Rattle.run_steps.specs.declared.nodes.links.Rest.{Rest}
use Rattle.run_steps.specs.Links.{rest_steps}
use Rattle.run_steps.specs.Variables.{root_meant}
use Rattle.rhai_ast.specs.Nodes.{is_dot}

-- the part that a chain leads to, by its base and what is left of it then
abbrev pub part_core : Bool → tree.Expr → Rest → core.Target
part_core loop l r =
    cond (is_chain (is_dot r.chain) (chain_flags r.options) (expr_of r.right.now))
    (part_target (root_of l) (ends_in_call (is_dot r.chain) (breaks r.options) (expr_of r.right.now)) (rest_steps loop r)) core.IllTarget

abbrev pub side_core : Bool → LeftSide → core.Target
side_core loop (side.Root r) = core.ToRoot (root_meant r)
side_core loop (side.Part l r) = part_core loop (expr_of l.now) r
side_core loop side.Nowhere = core.Nowhere

abbrev pub IsSide : tree.Expr → Option LeftSide → Type 0
IsSide e None = is_left_side e ≡ false
IsSide e (Some d) = (is_left_side e ≡ true) × ((loop : Bool) → target_of loop e ≡ side_core loop d)

abbrev pub IsPart : BinaryExpr → Bool → ASTFlags → LeftSide → Type 0
IsPart b dot k (side.Part l r) = (l.now ≡ b.lhs) × (is_dot r.chain ≡ dot) × (r.options ≡ k) × (r.right.now ≡ b.rhs)
IsPart b dot k _ = ⊥

-- what the evaluator goes on with
abbrev pub side_weight : LeftSide → ℕ
side_weight (side.Part l r) = expr_weight (expr_of r.right.now)
side_weight _ = 0
