use Rattle.std.proofs.Common.{rules, ℕ, List, [], ◌∷◌, ◌++◌, sym, ap, ◌∙◌, append_assoc, append-nil}
use Rattle.rhai_base.specs.declared.dynamic.Dynamic.{Dynamic}
use Rattle.tool_report.proofs.Printing.{member_step, members_end, value_step}
use Rattle.tool_report.proofs.values.+literal.Goals as goal

pub push_values-loop-value-preserved : goal.push_values-loop-value-preserved
push_values-loop-value-preserved t c = (
  search rules,
  rw (c.in_ok-push_literal.ensures, c.in_ok-push_str.ensures.bytes)
      (value_step _ _ c.loop-value.separator.now c.args.items.now c.loop-value.value-index c.value-item.result (search rules) c.value-item.is c.loop-value.invariant.1),
)

pub push_members-loop-key-preserved : goal.push_members-loop-key-preserved
push_members-loop-key-preserved t c =
    let done = c.loop-key.invariant.0 in
    let e : List ℕ × Dynamic = (c.in-Some.key.now, c.in-Some.member.now) in
    let left = c.next.new.self in (
      done ++ e ∷ [],
      c.loop-key.invariant.1 ∙ ap (λ es. done ++ es) c.in-Some.ensures.steps ∙ sym (append_assoc done (e ∷ []) left),
      search rules,
      rw (c.in_ok-push_member.ensures) (member_step _ _ c.loop-key.separator.now e _ left c.in-Some.ensures.steps c.loop-key.invariant.3),
    )

pub push_members-returns : goal.push_members-returns
push_members-returns t c = sym (append-nil _) ∙ rw (members_end c.loop-key.separator.now _ c.in-None.ensures.steps.0) at c.loop-key.invariant.3
