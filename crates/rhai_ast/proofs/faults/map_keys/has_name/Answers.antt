use Rattle.std.proofs.Common.{◌||◌, sym, ap, ◌∙◌}
use Rattle.base_tokens.specs.Names.{is_among}
use Rattle.rhai_base.specs.Value.{same_text}
use Rattle.rhai_ast.specs.MapKeys.{names_of}
use Rattle.rhai_ast.proofs.faults.map_keys.has_name.Goals as goal

pub returns-then-eq : goal.returns-then-eq
returns-then-eq c =
    let name = c.args.name.now in
    sym
    (c.loop-first.invariant ∙ ap (λ ms. is_among name (names_of ms)) c.in-Some.ensures.cases.0
    ∙ ap (λ b. b || is_among name (names_of c.in-Some.others.now)) (ap (λ t. same_text t name) (sym c.as_str.ensures) ∙ sym c.if-eq.ensures))

pub loop-first-preserved : goal.loop-first-preserved
loop-first-preserved c =
    let name = c.args.name.now in
    c.loop-first.invariant ∙ ap (λ ms. is_among name (names_of ms)) c.in-Some.ensures.cases.0
    ∙ ap (λ b. b || is_among name (names_of c.in-Some.others.now)) (ap (λ t. same_text t name) (sym c.as_str.ensures) ∙ sym c.if-eq.ensures)
