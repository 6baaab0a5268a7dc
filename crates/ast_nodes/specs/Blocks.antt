-- The blocks that a statement makes.
use Rattle.std.specs.Prelude.{◌≡◌, [], ◌∷◌, Option, Some, None}
use Rattle.std.proofs.Common.{ap, sym, ◌∙◌}
use Rattle.base_tokens.specs.declared.position.Position.{Position}
use Rattle.ast_types.specs.Defaults.{nowhere}
use Rattle.ast_types.specs.declared.block.StmtBlock.{StmtBlock}
use Rattle.ast_types.specs.declared.expr.Expr.TheOpen as open_one
use Rattle.ast_types.specs.declared.expr.Expr.TheViews as views
use Rattle.ast_types.specs.declared.stmt.Stmt.{Stmt}
use Rattle.ast_types.specs.declared.stmt.Stmt.TheVariants as stmt_kind
use Rattle.theory_meaning.specs.Tree as tree
use Rattle.theory_meaning.specs.Tree.{ExprStmt, Stmts, no_stmts, stmt}
use Rattle.ast_types.specs.Positions.{StmtLayer, stmt_position_of}

-- the block of an answer, and of none
abbrev pub answered : Option tree.Expr → Stmts
answered None = no_stmts
answered (Some e) = stmt (ExprStmt e) no_stmts

-- nothing between braces, both of which are there
abbrev pub empty_at : Position → StmtBlock
empty_at p = views.roll-StmtBlock (record { block = []; span = record { start = p; end = p } })

-- the statement alone, from where it stands on; the block ends nowhere
abbrev pub block_of_one : Stmt → StmtBlock
block_of_one s = views.roll-StmtBlock (record { block = s ∷ []; span = record { start = stmt_position_of s; end = nowhere } })

-- a statement, then nothing; both ends are there
abbrev pub followed_at : Stmt → Position → StmtBlock
followed_at s p = views.roll-StmtBlock (record { block = s ∷ stmt_kind.Noop p ∷ []; span = record { start = p; end = p } })

-- a block is itself, and nothing is an empty block where it stands
abbrev pub block_in : Stmt → StmtLayer → StmtBlock
block_in s (open_one.Block b) = b
block_in s (open_one.Noop p) = empty_at p
block_in s _ = block_of_one s

unfoldable pub block_made_of : Stmt → StmtBlock
block_made_of s = block_in s (views.out-Stmt s)

pub block_made_of-Block : (b : StmtBlock) → block_made_of (stmt_kind.Block b) ≡ b
unfolding block_made_of
block_made_of-Block b = ap (λ (s : Stmt). block_in (stmt_kind.Block b) (views.out-Stmt s)) (sym (stmt_kind.rolls-Block b)) ∙ ap (block_in (stmt_kind.Block b)) (views.out-roll-Stmt (open_one.Block b))

pub block_made_of-Noop : (p : Position) → block_made_of (stmt_kind.Noop p) ≡ empty_at p
unfolding block_made_of
block_made_of-Noop p = ap (λ (s : Stmt). block_in (stmt_kind.Noop p) (views.out-Stmt s)) (sym (stmt_kind.rolls-Noop p)) ∙ ap (block_in (stmt_kind.Noop p)) (views.out-roll-Stmt (open_one.Noop p))

pub ruleset blocks = (block_made_of-Block, block_made_of-Noop)
