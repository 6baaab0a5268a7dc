use Rattle.std.proofs.Common.{not, ◌&&◌, sym, ap, ◌∙◌}
use Rattle.base_tokens.specs.Names.{is_among}
use Rattle.theory_meaning.specs.Shape.{are_distinct}
use Rattle.rhai_ast.specs.MapKeys.{names_of}
use Rattle.rhai_ast.proofs.faults.map_keys.differ.Goals as goal

pub returns-then-has_name : goal.returns-then-has_name
returns-then-has_name c =
    let others = names_of c.in-Some.others.now in
    sym
    (c.loop-first.invariant ∙ ap (λ ms. are_distinct (names_of ms)) c.in-Some.ensures.cases.0
    ∙ ap (λ b. not b && are_distinct others) (ap (λ t. is_among t others) (sym c.as_str.ensures) ∙ sym c.has_name.ensures ∙ c.if-has_name.true))

pub loop-first-preserved : goal.loop-first-preserved
loop-first-preserved c =
    let others = names_of c.in-Some.others.now in
    c.loop-first.invariant ∙ ap (λ ms. are_distinct (names_of ms)) c.in-Some.ensures.cases.0
    ∙ ap (λ b. not b && are_distinct others) (ap (λ t. is_among t others) (sym c.as_str.ensures) ∙ sym c.has_name.ensures ∙ c.if-has_name.false)
