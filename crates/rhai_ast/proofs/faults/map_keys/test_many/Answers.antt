use Rattle.std.proofs.Common.{sym, ap, ◌∙◌}
use Rattle.theory_meaning.specs.Faults as faults
use Rattle.theory_meaning.specs.Faults.{◌then◌}
use Rattle.ast_types.specs.Reading.{keys_of}
use Rattle.rhai_ast.specs.MapKeys.{names_of, texts_of}
use Rattle.rhai_ast.proofs.KeyLists.{are_same, are_same-permutation}
use Rattle.rhai_ast.proofs.faults.map_keys.test_many.Goals as goal

pub returns-then-are_keys : goal.returns-then-are_keys
returns-then-are_keys c =
    let names = names_of c.args.members.now in
    let template = keys_of c.args.template.now in
    ap (λ o. o then faults.unless (are_same names template) faults.MapTemplate) c.in_ok-names.ensures.finds
    ∙ ap (λ b. faults.unless b faults.MapTemplate) (sym (are_same-permutation names (texts_of c.in_ok-names.names) template c.in_ok-names.ensures.names) ∙ sym c.are_keys.ensures ∙ c.if-are_keys.true)

pub returns : goal.returns
returns c =
    let names = names_of c.args.members.now in
    let template = keys_of c.args.template.now in
    ap (λ o. o then faults.unless (are_same names template) faults.MapTemplate) c.in_ok-names.ensures.finds
    ∙ ap (λ b. faults.unless b faults.MapTemplate) (sym (are_same-permutation names (texts_of c.in_ok-names.names) template c.in_ok-names.ensures.names) ∙ sym c.are_keys.ensures ∙ c.if-are_keys.false)
