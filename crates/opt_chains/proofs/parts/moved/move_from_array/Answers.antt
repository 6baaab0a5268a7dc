use Rattle.std.proofs.Common.{◌≡◌, SFits, w64, rules, map, ap, ◌∙◌}
use Rattle.std.specs.Prelude.{Bool}
use Rattle.std.proofs.lemmas.Int.{to_z-of_z}
use Rattle.std.proofs.lemmas.Option.{IfSome_then}
use Rattle.rhai_base.specs.Reading.{value_of}
use Rattle.rhai_base.specs.Value.{ArrayV, values}
use Rattle.rhai_ast.specs.Nodes.{is_dot}
use Rattle.theory_meaning.specs.Constants.{constant_value}
use Rattle.theory_meaning.specs.Elements.{element}
use Rattle.theory_meaning.specs.Engine.{Engine}
use Rattle.ast_types.specs.Reading.{expr_of}
use Rattle.opt_chains.specs.Answers.{allowed, answer_at}
use Rattle.opt_chains.proofs.OtherParts.{at_integer}
use Rattle.opt_chains.proofs.parts.moved.move_from_array.Goals as goal

pub returns-in-Some-clause-moved : goal.returns-in-Some-clause-moved
returns-in-Some-clause-moved c =
    let vs = values (map value_of c.args.items.now) in
    let e = expr_of c.args.argument.now in
    let is : (r : Engine) (optional : Bool) → answer_at r (is_dot c.args.access) optional (ArrayV vs) e ≡ element vs c.in-Some.index =
    λ r optional. ap (λ a. answer_at r (is_dot a) optional (ArrayV vs) e) c.in-Indexing.is ∙ at_integer vs (constant_value e) c.in-Some.index c.in-Some.ensures in
    let fits : SFits w64 c.in-Some.index = search rules in
    IfSome_then c.move_element.result (simp to_z-of_z at c.move_element.ensures.moved) (λ v h r optional. ap (allowed c.args.unit) (is r optional) ∙ h)
