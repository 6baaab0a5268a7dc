use Rattle.std.proofs.Common.{◌&&◌, ◌==◌, length, refl, sym, ap, ◌∙◌, eq-eqb}
use Rattle.std.proofs.lemmas.Bool.{ne_eqb}
use Rattle.theory_meaning.specs.Shape.{are_among}
use Rattle.ast_types.specs.Reading.{keys_of}
use Rattle.rhai_ast.specs.MapKeys.{names_of}
use Rattle.rhai_ast.proofs.KeyLists.{and_false, are_same-of_members}
use Rattle.rhai_ast.proofs.faults.map_keys.are_members.Goals as goal

pub returns-then-members-len : goal.returns-then-members-len
returns-then-members-len c =
    let members = c.args.members.now in
    let template = c.args.template.now in
    let within = are_among (keys_of template) (names_of members) in
    c.has_members.ensures ∙ sym (ap (λ b. b && within) (eq-eqb (length members) c.len.result c.if-members-len.true))
    ∙ are_same-of_members members template (length members) c.len.result c.requires c.len.ensures.ordered refl c.len.ensures.len

pub returns-else-members-len : goal.returns-else-members-len
returns-else-members-len c =
    let members = c.args.members.now in
    let template = c.args.template.now in
    let within = are_among (keys_of template) (names_of members) in
    and_false (length members == c.len.result) within (ne_eqb (length members) c.len.result c.if-members-len.false)
    ∙ are_same-of_members members template (length members) c.len.result c.requires c.len.ensures.ordered refl c.len.ensures.len
