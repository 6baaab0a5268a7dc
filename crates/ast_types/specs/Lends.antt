-- What a block ends as, where its statements are lent for writing.
use Rattle.std.specs.Prelude.{List}
use Rattle.std.specs.Borrow.{Lends, Fml, MutBor}
use Rattle.base_lists.specs.contracts.seq.Seq as seq
use Rattle.ast_types.specs.contracts.block.StmtBlock as block
use Rattle.ast_types.specs.contracts.stmt.Stmt as stmt
use Rattle.ast_types.specs.declared.block.StmtBlock.{StmtBlock}
use Rattle.ast_types.specs.declared.stmt.Stmt.{Stmt}
use Rattle.ast_types.specs.declared.expr.Expr.TheViews as views

abbrev pub with_statements : StmtBlock → List Stmt → StmtBlock
with_statements b ss = views.roll-StmtBlock (record { block = ss; span = b.span })

-- a block has the statements that are written last
abbrev pub lends_statements : MutBor StmtBlock → MutBor (List Stmt) → Fml
lends_statements b r = Lends block.the_row (seq.the_row stmt.the_row) b r (with_statements b.now)
