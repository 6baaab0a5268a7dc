use Rattle.notation_print.proofs.Guards.{pushed_braces}
use Rattle.notation_print.proofs.nodes.+nodes.Goals as goal

pub push_block-returns : goal.push_block-returns
push_block-returns t c =
    pushed_braces _ _ _ _ _ _ c.statements-statements.ensures c.if-is_empty.ensures c.in_ok-push_str.ensures.bytes c.in_ok-push_stmts.ensures c.in_ok-push_str-2.ensures.bytes
