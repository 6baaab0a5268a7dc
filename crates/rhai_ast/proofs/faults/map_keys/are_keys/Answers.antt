use Rattle.std.proofs.Common.{◌&&◌, ◌==◌, sym, ap, ◌∙◌, eq-eqb}
use Rattle.std.proofs.lemmas.Bool.{ne_eqb}
use Rattle.theory_meaning.specs.Shape.{are_among}
use Rattle.ast_types.specs.Reading.{keys_of}
use Rattle.rhai_ast.specs.MapKeys.{texts_of}
use Rattle.rhai_ast.proofs.KeyLists.{and_false, are_same-by_count}
use Rattle.rhai_ast.proofs.faults.map_keys.are_keys.Goals as goal

pub returns-then-len : goal.returns-then-len
returns-then-len c =
    let names = c.args.names.now in
    let template = c.args.template.now in
    let within = are_among (keys_of template) (texts_of names) in
    c.has_each.ensures ∙ sym (ap (λ b. b && within) (eq-eqb c.len.result c.len-2.result c.if-len.true))
    ∙ are_same-by_count names template c.len.result c.len-2.result c.len.ensures.unique c.len-2.ensures.ordered c.len.ensures.len c.len-2.ensures.len

pub returns-else-len : goal.returns-else-len
returns-else-len c =
    let names = c.args.names.now in
    let template = c.args.template.now in
    let within = are_among (keys_of template) (texts_of names) in
    and_false (c.len.result == c.len-2.result) within (ne_eqb c.len.result c.len-2.result c.if-len.false)
    ∙ are_same-by_count names template c.len.result c.len-2.result c.len.ensures.unique c.len-2.ensures.ordered c.len.ensures.len c.len-2.ensures.len
