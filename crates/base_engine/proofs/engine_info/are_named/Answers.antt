use Rattle.std.proofs.Common.{sym, ap, ◌∙◌}
use Rattle.std.proofs.lemmas.Bool.{not-false, not-true}
use Rattle.rhai_base.specs.Value.{same_text}
use Rattle.std.proofs.lemmas.Slice.Zip.{Zip-more, either_empty_from_Zip}
use Rattle.base_engine.proofs.Overrides.{same_texts-other, same_texts-same, same_texts-lengths, same_texts-none, lengths-rest}
use Rattle.base_engine.proofs.engine_info.are_named.Goals as goal

pub returns-then-names-types : goal.returns-then-names-types
returns-then-names-types c = sym (same_texts-lengths c.args.names.now c.args.types.now c.if-names-types.true)

pub loop-name-init : goal.loop-name-init
loop-name-init c = record { long = cc; left = cc }

pub returns-then-ne : goal.returns-then-ne
returns-then-ne c =
    let more = Zip-more c.loop-name.name-iterator c.next.new.self c.next.result (c.in-Some.name, c.in-Some.text) c.in-Some.is c.next.ensures.steps in
    sym (sym c.loop-name.invariant.left ∙ same_texts-other _ _ _ _ _ _ more.0 more.1 (sym (ap (λ t. same_text t c.in-Some.text.now.now) c.as_str.ensures) ∙ not-true _ (sym c.ne.ensures ∙ c.if-ne.true)))

pub loop-name-preserved : goal.loop-name-preserved
loop-name-preserved c =
    let more = Zip-more c.loop-name.name-iterator c.next.new.self c.next.result (c.in-Some.name, c.in-Some.text) c.in-Some.is c.next.ensures.steps in
    record { long = lengths-rest _ _ _ _ _ _ more.0 more.1 c.loop-name.invariant.long; left = sym (same_texts-same _ _ _ _ _ _ more.0 more.1 (sym (ap (λ t. same_text t c.in-Some.text.now.now) c.as_str.ensures) ∙ not-false _ (sym c.ne.ensures ∙ c.if-ne.false))) ∙ c.loop-name.invariant.left }

pub returns : goal.returns
returns c =
    let none = either_empty_from_Zip c.loop-name.name-iterator c.next.new.self c.next.result c.in-None.is c.next.ensures.steps in
    sym (sym c.loop-name.invariant.left ∙ same_texts-none _ _ c.loop-name.invariant.long none)
