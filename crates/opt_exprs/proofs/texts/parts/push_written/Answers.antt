use Rattle.std.proofs.Common.{◌++◌, sym, ap, ◌∙◌}
use Rattle.std.proofs.lemmas.List.{append-nil}
use Rattle.std.specs.String.{string_bytes}
use Rattle.rhai_base.specs.Value.{Text}
use Rattle.ast_types.proofs.Cases.{expr_cases}
use Rattle.opt_exprs.proofs.PartKinds.{none_written}
use Rattle.opt_exprs.proofs.texts.parts.push_written.Goals as goal

pub returns-in_default : goal.returns-in_default
returns-in_default c =
    let text : Text = string_bytes c.args.text.now in
    sym (append-nil text) ∙ ap (λ (z : Text). text ++ z) (none_written (expr_cases c.args.part.now) c.in_default.not-StringConstant)
