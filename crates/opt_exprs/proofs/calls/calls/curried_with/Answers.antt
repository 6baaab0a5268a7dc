use Rattle.std.proofs.Common.{◌≡◌, [], ◌∷◌, ◌++◌, ◌+◌, Some, None, drop, map, sym, ap, ◌∙◌, arith}
use Rattle.std.specs.Cow.{cow_value}
use Rattle.std.proofs.lemmas.List.{map-append}
use Rattle.rhai_base.specs.declared.fn_ptr.FnPtr.{FnPtr}
use Rattle.rhai_base.specs.Reading.{value_of, value_of-FnPtr}
use Rattle.theory_meaning.specs.Constants.{constant_value, constant_values, value_and}
use Rattle.ast_nodes.specs.Lent.{lent_value}
use Rattle.ast_types.specs.Reading.{expr_of, exprs_of}
use Rattle.ast_types.proofs.ItemLists.{exprs_of-drop}
use Rattle.opt_exprs.specs.Words.{values_of, with_values}
use Rattle.opt_exprs.proofs.Pointers.{with_none, with_more, with_all, with_same}
use Rattle.opt_exprs.proofs.calls.calls.curried_with.Goals as goal

pub returns-then-not-are_constant : goal.returns-then-not-are_constant
returns-then-not-are_constant c = with_none _ _ _ (sym c.are_constant.ensures ∙ c.if-not-are_constant.true)

pub loop-arg-init : goal.loop-arg-init
loop-arg-init c = ap (λ (p : FnPtr). with_values p.name (values_of p) (constant_values (exprs_of c.args.args.now))) (sym c.in_ok-made.ensures.cases)

pub loop-arg-preserved : goal.loop-arg-preserved
loop-arg-preserved c =
    let made = c.loop-arg.made in
    let v = value_of (cow_value c.in-Some.value) in
    let rest = constant_values (exprs_of (drop (c.loop-arg.arg-index + 1) c.args.args.now)) in
    let item : constant_value (expr_of c.arg-item.result) ≡ Some v = sym c.in_ok-value.ensures ∙ ap lent_value c.in-Some.is in
    let behind : map value_of c.add_curry.new.self.curried ≡ map value_of made.curried ++ v ∷ [] = ap (map value_of) (c.in_ok-add_curry-in-Some.ensures.ok ∙ ap (λ d. made.curried ++ d ∷ []) c.in_ok-owned-in-Some.ensures) ∙ map-append value_of made.curried _ in
    c.loop-arg.invariant
    ∙ ap (λ es. with_values made.name (values_of made) (constant_values es)) (exprs_of-drop c.args.args.now c.loop-arg.arg-index c.arg-item.result c.loop-arg-test.true)
    ∙ ap (λ e. with_values made.name (values_of made) (value_and (constant_value (expr_of e)) rest)) (sym c.arg-item.is)
    ∙ ap (λ o. with_values made.name (values_of made) (value_and o rest)) item
    ∙ with_more made.name (values_of made) v rest
    ∙ with_same (sym c.in_ok-add_curry-in-Some.ensures.name) (sym behind) rest

pub returns-in-None : goal.returns-in-None
returns-in-None c =
    let made = c.loop-arg.made in
    let rest = constant_values (exprs_of (drop (c.loop-arg.arg-index + 1) c.args.args.now)) in
    let item : constant_value (expr_of c.arg-item.result) ≡ None = sym c.in_ok-value.ensures ∙ ap lent_value c.in-None.is in
    sym
    (c.loop-arg.invariant
    ∙ ap (λ es. with_values made.name (values_of made) (constant_values es)) (exprs_of-drop c.args.args.now c.loop-arg.arg-index c.arg-item.result c.loop-arg-test.true)
    ∙ ap (λ e. with_values made.name (values_of made) (value_and (constant_value (expr_of e)) rest)) (sym c.arg-item.is)
    ∙ ap (λ o. with_values made.name (values_of made) (value_and o rest)) item)

pub returns : goal.returns
returns c =
    let made = c.loop-arg.made in
    ap Some (value_of-FnPtr made) ∙ sym (c.loop-arg.invariant ∙ with_all c.args.args.now c.loop-arg.arg-index made.name (values_of made) (omega (arith, c.loop-arg-test.false, c.loop-arg.auto.arg-index-end)))
