use Rattle.std.proofs.Common.{rules, ap, ◌∙◌}
use Rattle.notation_print.proofs.NameLists.{pushed_shared}
use Rattle.notation_print.proofs.names.push_shared.Goals as goal

pub loop-shared-preserved : goal.loop-shared-preserved
loop-shared-preserved c = (
  search rules,
  pushed_shared _ _ _ _ _ _ _ _ _ c.loop-shared-test.true (c.as_str.ensures ∙ ap (λ x. x.0.name) c.shared-item.is) c.loop-shared.invariant.1
      c.in_ok-push_str.ensures.bytes c.in_ok-push_str-2.ensures.bytes,
)
