use Rattle.std.proofs.Common.{◌≡◌, Option, ◌∙◌}
use Rattle.std.proofs.lemmas.Result.{IfOk-weaker}
use Rattle.std.specs.Option.{option_map}
use Rattle.rhai_base.specs.declared.dynamic.Dynamic.{Dynamic}
use Rattle.rhai_base.specs.Reading.{value_of}
use Rattle.theory_meaning.specs.Constants.{constant_value, constant_values}
use Rattle.ast_types.specs.Reading.{expr_of, exprs_of}
use Rattle.opt_exprs.specs.Words.{values_of, with_values}
use Rattle.opt_exprs.proofs.Pointers.{curried_by, curried_none}
use Rattle.opt_exprs.proofs.calls.calls.curried.Goals as goal

pub returns-in-Some : goal.returns-in-Some
returns-in-Some c =
    let p = c.in-Some.pointer.now in
    let vs = constant_values (exprs_of c.args.args.now) in
    let P : Option Dynamic → Type 0 = λ v. option_map value_of v ≡ with_values p.name (values_of p) vs in
    IfOk-weaker _ P _ (λ v x. x ∙ curried_by (constant_value (expr_of c.args.pointer.now)) vs p.name (values_of p) c.in-Some.ensures) c.curried_with.ensures

pub returns-in-None : goal.returns-in-None
returns-in-None c = curried_none (constant_value (expr_of c.args.pointer.now)) (constant_values (exprs_of c.args.args.now)) c.in-None.ensures
