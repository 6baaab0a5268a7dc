use Rattle.std.proofs.Common.{◌∙◌, ap, ◌++◌, ◌∷◌, []}
use Rattle.run_state.proofs.Copied.{push_next, push_end}
use Rattle.run_state.proofs.pointers.with_values.Goals as goal

pub loop-value-preserved : goal.loop-value-preserved
loop-value-preserved c = record {
  name = c.in_ok-add_curry.ensures.name ∙ c.loop-value.invariant.name;
  values = push_next c.loop-value.made.curried c.add_curry.new.self.curried _ c.args.values.now c.loop-value.value-index _ c.loop-value-test.true c.value-item.is c.loop-value.invariant.values (c.in_ok-add_curry.ensures.ok ∙ ap (λ v. c.loop-value.made.curried ++ v ∷ []) c.in_ok-clone.ensures.cases);
}

pub returns-clause-name : goal.returns-clause-name
returns-clause-name c = c.loop-value.invariant.name

pub returns-clause-values : goal.returns-clause-values
returns-clause-values c = push_end c.loop-value.made.curried _ c.args.values.now c.loop-value.value-index c.loop-value-test.false c.loop-value.invariant.values
