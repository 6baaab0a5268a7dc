use Rattle.std.proofs.Common.{◌≡◌, true, false, sym, ap, ◌∙◌}
use Rattle.theory_meaning.specs.Tree.{InterpolatedString}
use Rattle.ast_types.specs.Reading.{exprs_of, expr_of-InterpolatedString}
use Rattle.ast_alike.proofs.ByCases.{text_parts}
use Rattle.ast_alike.proofs.forms.text_of_parts.Goals as goal

pub returns : goal.returns
returns c =
    expr_of-InterpolatedString _ _ ∙ ap (λ xs. InterpolatedString (exprs_of xs)) c.in_ok-parts.ensures
    ∙ text_parts c.args.parts (λ q. let p : false ≡ true = sym c.if-is_empty.false ∙ c.is_empty.ensures.1 q in cc)
