use Rattle.std.proofs.Common.{sym, ap, ◌∙◌}
use Rattle.theory_meaning.specs.Faults as faults
use Rattle.theory_meaning.specs.Faults.{◌then◌}
use Rattle.ast_types.specs.Reading.{keys_of}
use Rattle.rhai_ast.specs.MapKeys.{names_of}
use Rattle.rhai_ast.proofs.KeyLists.{are_same}
use Rattle.rhai_ast.proofs.faults.map_keys.test_few.Goals as goal

pub returns-then-not-differ : goal.returns-then-not-differ
returns-then-not-differ c =
    let other = faults.unless (are_same (names_of c.args.members.now) (keys_of c.args.template.now)) faults.MapTemplate in
    ap (λ b. faults.unless b faults.DuplicateMapKey then other) (sym c.differ.ensures ∙ c.if-not-differ.true)

pub returns-then-are_members : goal.returns-then-are_members
returns-then-are_members c =
    let other = faults.unless (are_same (names_of c.args.members.now) (keys_of c.args.template.now)) faults.MapTemplate in
    ap (λ b. faults.unless b faults.DuplicateMapKey then other) (sym c.differ.ensures ∙ c.if-not-differ.false)
    ∙ ap (λ b. faults.unless b faults.MapTemplate) (sym c.are_members.ensures ∙ c.if-are_members.true)

pub returns-else-are_members : goal.returns-else-are_members
returns-else-are_members c =
    let other = faults.unless (are_same (names_of c.args.members.now) (keys_of c.args.template.now)) faults.MapTemplate in
    ap (λ b. faults.unless b faults.DuplicateMapKey then other) (sym c.differ.ensures ∙ c.if-not-differ.false)
    ∙ ap (λ b. faults.unless b faults.MapTemplate) (sym c.are_members.ensures ∙ c.if-are_members.false)
