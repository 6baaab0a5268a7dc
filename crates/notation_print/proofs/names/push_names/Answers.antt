use Rattle.std.proofs.Common.{rules, ◌∙◌}
use Rattle.notation_print.proofs.NameLists.{pushed_name}
use Rattle.notation_print.proofs.names.push_names.Goals as goal

pub loop-name-preserved : goal.loop-name-preserved
loop-name-preserved c = (
  search rules,
  pushed_name _ _ _ _ _ _ _ _ _ c.loop-name-test.true (c.as_str.ensures ∙ c.name-item.is) c.loop-name.invariant.1
      c.in_ok-push_str.ensures.bytes c.in_ok-push_str-2.ensures.bytes,
)
