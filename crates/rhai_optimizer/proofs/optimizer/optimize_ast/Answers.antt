use Rattle.std.proofs.Common.{sym, ap, ◌∙◌}
use Rattle.script_tables.specs.declared.fn_lib.FnLib.{FnLib}
use Rattle.rhai_script.specs.Contents.{Contents, contents}
use Rattle.rhai_optimizer.proofs.Whole.{parts_made, script_untouched, whole}
use Rattle.rhai_optimizer.proofs.optimizer.optimize_ast.Goals as goal

pub returns-then-optimises_nothing : goal.returns-then-optimises_nothing
returns-then-optimises_nothing c = script_untouched c.args.level (contents c.args.ast) (sym c.optimises_nothing.ensures ∙ c.if-optimises_nothing.true)

pub returns : goal.returns
returns c =
    let taken = c.into_parts-source.ensures.contents in
    let made = c.from_parts.ensures.contents in
    whole (contents c.args.ast) (contents c.from_parts.result)
    (c.in_ok-id.ensures.table ∙ sym c.in_ok-id.ensures.functions)
    (ap (λ (x : Contents). x.statements) (sym taken))
    (ap (λ (x : Contents). x.functions) (sym taken) ∙ sym (ap (λ (l : FnLib). l.functions) c.in_ok-unshared.ensures) ∙ sym c.in_ok-id.ensures.table)
    (ap (λ (x : Contents). x.statements) made)
    (ap (λ (x : Contents). x.functions) made ∙ ap (λ (l : FnLib). l.functions) c.in_ok-lib.ensures.ok ∙ c.in_ok-named_lib.ensures.functions)
    c.args.level (parts_made c.args.level (sym c.optimises_nothing.ensures ∙ c.if-optimises_nothing.false) c.in_ok-body.ensures) (
      ap (λ (x : Contents). x.source) made ∙ ap (λ (x : Contents). x.source) taken,
      (
        ap (λ (x : Contents). x.doc) made ∙ ap (λ (x : Contents). x.doc) taken,
        ap (λ (x : Contents). x.id) made ∙ ap (λ (l : FnLib). l.id) c.in_ok-lib.ensures.ok ∙ c.in_ok-named_lib.ensures.id ∙ c.in_ok-id.ensures.id ∙ ap (λ (l : FnLib). l.id) c.in_ok-unshared.ensures ∙ ap (λ (x : Contents). x.id) taken,
      ),
    )
