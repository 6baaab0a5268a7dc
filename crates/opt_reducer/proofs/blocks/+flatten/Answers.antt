use Rattle.std.proofs.Common.{refl, sym, ap, ◌∙◌, arith}
use Rattle.std.proofs.lemmas.Result.{on_ok_weaker}
use Rattle.opt_reducer.proofs.Flattening.{flattens_noop, flattens_block, flattens_push, flattens_as, giving-block, moves_start, moves_next, moves_end, empty-stmts_of, differ}
use Rattle.theory_meaning.specs.Weight.{stmt_weight}
use Rattle.opt_reducer.proofs.Parts.{same_known}
use Rattle.opt_reducer.proofs.blocks.+flatten.Goals as goal
use Rattle.opt_reducer.proofs.blocks.+flatten.Goals.{block_gives_way-else-is_wanted-via-then-is_wanted+else-is_empty, block_gives_way-else-is_wanted-via-else-is_wanted}

pub block_gives_way-returns-then-is_empty : goal.block_gives_way-returns-then-is_empty
block_gives_way-returns-then-is_empty t c = flattens_noop _ _ _ _ c.set_dirty.ensures.flag (same_known c.args.state.now c.set_dirty.new.self c.set_dirty.ensures.names c.set_dirty.ensures.setting) c.if-is_wanted.true (c.if-is_empty.ensures.0 refl) c.in_ok-push_stmt.ensures.ok

pub block_gives_way-returns : goal.block_gives_way-returns
block_gives_way-returns t c =
    on_ok_weaker _ (λ p. flattens_block c.set_dirty.ensures.flag (same_known c.args.state.now c.set_dirty.new.self c.set_dirty.ensures.names c.set_dirty.ensures.setting) c.requires (λ e w. elim c.else-is_wanted.branch [
      | block_gives_way-else-is_wanted-via-then-is_wanted+else-is_empty v ↦ differ (v.if-is_empty.ensures.1 (empty-stmts_of _ e))
      | block_gives_way-else-is_wanted-via-else-is_wanted v ↦ differ (sym (w ∙ v.if-is_wanted.false))
    ]) p) (rw c.of_block.ensures at c.flatten_statements.ensures)

pub flatten_statement-returns-then-not-gives_way : goal.flatten_statement-returns-then-not-gives_way
flatten_statement-returns-then-not-gives_way t c = flattens_push _ _ _ (sym c.if-not-gives_way.ensures) c.in_ok-push_stmt.ensures.ok

pub flatten_statement-block_gives_way-requires : goal.flatten_statement-block_gives_way-requires
flatten_statement-block_gives_way-requires t c = (omega (arith, ap stmt_weight c.into_block.ensures), giving-block _ _ c.into_block.ensures c.if-not-gives_way.ensures)

pub flatten_statement-returns : goal.flatten_statement-returns
flatten_statement-returns t c = on_ok_weaker _ (flattens_as c.into_block.ensures) c.block_gives_way.ensures

pub flatten_statements-loop-statement-init : goal.flatten_statements-loop-statement-init
flatten_statements-loop-statement-init t c = moves_start

pub flatten_statements-loop-statement-preserved : goal.flatten_statements-loop-statement-preserved
flatten_statements-loop-statement-preserved t c = moves_next c.loop-statement.invariant c.in-Some.ensures c.is_wanted_before-is_wanted.ensures c.in_ok-flatten_statement.ensures

pub flatten_statements-returns : goal.flatten_statements-returns
flatten_statements-returns t c = moves_end c.loop-statement.invariant c.in_default.ensures.0
