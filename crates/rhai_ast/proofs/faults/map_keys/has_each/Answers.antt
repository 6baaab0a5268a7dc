use Rattle.std.proofs.Common.{◌&&◌, sym, ap, ◌∙◌}
use Rattle.base_tokens.specs.Names.{is_among}
use Rattle.theory_meaning.specs.Shape.{are_among}
use Rattle.ast_types.specs.Reading.{keys_of}
use Rattle.rhai_ast.specs.MapKeys.{texts_of}
use Rattle.rhai_ast.proofs.KeyLists.{is_among-texts}
use Rattle.rhai_ast.proofs.faults.map_keys.has_each.Goals as goal

pub returns-then-not-contains : goal.returns-then-not-contains
returns-then-not-contains c =
    let names = texts_of c.args.names.now in
    let rest = are_among (keys_of c.next.new.self) names in
    sym
    (c.loop-key.invariant ∙ ap (λ es. are_among (keys_of es) names) c.in-Some.ensures.steps
    ∙ ap (λ b. b && rest) (ap (λ t. is_among t names) (sym c.as_str.ensures) ∙ sym (is_among-texts c.args.names.now c.as_str.result.now) ∙ sym c.if-not-contains.ensures))

pub loop-key-preserved : goal.loop-key-preserved
loop-key-preserved c =
    let names = texts_of c.args.names.now in
    let rest = are_among (keys_of c.next.new.self) names in
    c.loop-key.invariant ∙ ap (λ es. are_among (keys_of es) names) c.in-Some.ensures.steps
    ∙ ap (λ b. b && rest) (ap (λ t. is_among t names) (sym c.as_str.ensures) ∙ sym (is_among-texts c.args.names.now c.as_str.result.now) ∙ sym c.if-not-contains.ensures)
