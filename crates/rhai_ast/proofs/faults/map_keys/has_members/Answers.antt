use Rattle.std.proofs.Common.{◌&&◌, sym, ap, ◌∙◌}
use Rattle.base_tokens.specs.Names.{is_among}
use Rattle.theory_meaning.specs.Shape.{are_among}
use Rattle.ast_types.specs.Reading.{keys_of}
use Rattle.rhai_ast.specs.MapKeys.{names_of}
use Rattle.rhai_ast.proofs.faults.map_keys.has_members.Goals as goal

pub returns-then-not-has_name : goal.returns-then-not-has_name
returns-then-not-has_name c =
    let names = names_of c.args.members.now in
    let rest = are_among (keys_of c.next.new.self) names in
    sym
    (c.loop-key.invariant ∙ ap (λ es. are_among (keys_of es) names) c.in-Some.ensures.steps
    ∙ ap (λ b. b && rest) (ap (λ t. is_among t names) (sym c.as_str.ensures) ∙ sym c.has_name.ensures ∙ c.if-not-has_name.true))

pub loop-key-preserved : goal.loop-key-preserved
loop-key-preserved c =
    let names = names_of c.args.members.now in
    let rest = are_among (keys_of c.next.new.self) names in
    c.loop-key.invariant ∙ ap (λ es. are_among (keys_of es) names) c.in-Some.ensures.steps
    ∙ ap (λ b. b && rest) (ap (λ t. is_among t names) (sym c.as_str.ensures) ∙ sym c.has_name.ensures ∙ c.if-not-has_name.false)
