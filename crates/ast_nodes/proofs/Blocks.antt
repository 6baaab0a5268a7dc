-- A statement that is no block, and something, makes a block of itself; the tree of one that nothing follows.
use Rattle.std.proofs.Common.{◌≡◌, refl, sym, ap, ◌∙◌}
use Rattle.base_tokens.specs.declared.position.Position.{Position}
use Rattle.ast_types.specs.declared.block.StmtBlock.{StmtBlock}
use Rattle.ast_types.specs.declared.expr.Expr.TheOpen as open_one
use Rattle.ast_types.specs.declared.expr.Expr.TheViews as views
use Rattle.ast_types.specs.declared.stmt.Stmt.{Stmt}
use Rattle.ast_types.specs.declared.stmt.Stmt.TheVariants as stmt_kind
use Rattle.theory_meaning.specs.Tree.{Block, Noop, no_stmts, stmt}
use Rattle.ast_types.specs.Positions.{StmtLayer}
use Rattle.ast_types.specs.Reading.{stmt_of, stmt_of-Block, stmt_of-Noop}
use Rattle.ast_nodes.specs.Blocks.{block_in, block_made_of, block_of_one, followed_at}
use Rattle.ast_types.proofs.OtherKinds.{NoNoop, NoBlock}

other_in : (s : Stmt) (x : StmtLayer) → ((p : Position) → views.roll-Stmt x ≡ stmt_kind.Noop p → ⊥) → ((b : StmtBlock) → views.roll-Stmt x ≡ stmt_kind.Block b → ⊥)
    → block_of_one s ≡ block_in s x
other_in s (open_one.Noop p) nothing block = absurd (nothing p (stmt_kind.rolls-Noop p))
other_in s (open_one.Block b) nothing block = absurd (block b (stmt_kind.rolls-Block b))
other_in s _ nothing block = refl

pub block_of_other : (s : Stmt) → NoNoop s → NoBlock s → block_of_one s ≡ block_made_of s
unfolding block_made_of
block_of_other s nothing block = other_in s (views.out-Stmt s) (λ p e. nothing p (sym (views.roll-out-Stmt s) ∙ e)) (λ b e. block b (sym (views.roll-out-Stmt s) ∙ e))

pub followed_tree : (s : Stmt) (p : Position) → stmt_of (stmt_kind.Block (followed_at s p)) ≡ Block (stmt (stmt_of s) (stmt Noop no_stmts))
followed_tree s p = stmt_of-Block (followed_at s p) ∙ ap (λ n. Block (stmt (stmt_of s) (stmt n no_stmts))) (stmt_of-Noop p)
