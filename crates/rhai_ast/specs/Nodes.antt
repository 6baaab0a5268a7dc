-- The node that is lent, and where it stands.
use Rattle.std.specs.Prelude.{Bool, true, false, Option, Some, None}
use Rattle.theory_meaning.specs.Walk as walk
use Rattle.theory_meaning.specs.Walk.{Node, OfExpr, OfStmt}
use Rattle.ast_types.specs.Reading.{chain_flags, expr_of, stmt_of}
use Rattle.rhai_ast.specs.Children as theory
use Rattle.rhai_ast.specs.declared.walker.node.ASTNode.{ASTNode}
use Rattle.rhai_ast.specs.declared.walker.node.ASTNode.TheVariants as node
use Rattle.rhai_ast.specs.declared.walker.node.ChainType.{ChainType}
use Rattle.rhai_ast.specs.declared.walker.node.ChainType.TheVariants as chain_type
use Rattle.rhai_ast.specs.declared.walker.node.Child.{Child}
use Rattle.rhai_ast.specs.declared.walker.node.Spot.{Spot}
use Rattle.rhai_ast.specs.declared.walker.node.Spot.TheVariants as spot

abbrev pub node_of : ASTNode → Node
node_of (node.Stmt s) = OfStmt (stmt_of s.now)
node_of (node.Expr e) = OfExpr (expr_of e.now)

abbrev pub is_dot : ChainType → Bool
is_dot chain_type.Dotting = true
is_dot chain_type.Indexing = false

abbrev pub spot_of : Spot → Option walk.Spot
spot_of spot.Anywhere = None
spot_of spot.LoopBody = Some walk.LoopBody
spot_of spot.LeftSide = Some walk.LeftSide
spot_of (spot.RightSide chain options rhs) = Some (walk.RightSide (is_dot chain) (chain_flags options) (expr_of rhs.now))

abbrev pub child_of : Child → theory.Child
child_of c = record { spot = spot_of c.spot; node = node_of c.node }
