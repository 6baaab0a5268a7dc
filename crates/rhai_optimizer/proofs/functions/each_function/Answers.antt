use Rattle.std.proofs.Common.{◌≡◌, [], map, arith, ◌∙◌}
use Rattle.std.proofs.lemmas.Grind.{common_steps}
use Rattle.std.specs.Rc.{rc_value}
use Rattle.std.specs.Vec.Iter.{into_iter_items}
use Rattle.rhai_optimizer.proofs.Bodies.{next_function, no_more_functions}
use Rattle.rhai_optimizer.proofs.functions.each_function.Goals as goal

pub loop-function-preserved : goal.loop-function-preserved
loop-function-preserved c = (
  c.in_ok-optimize_function.ensures.known ∙ c.loop-function.invariant.0,
  next_function (map rc_value c.args.functions.items) (into_iter_items c.loop-function.function-iterator) (into_iter_items c.next.new.self) c.loop-function.made.items c.push.new.self.items c.in-Some.function c.in_ok-optimize_function.field-0
      c.loop-function.invariant.0 c.in-Some.ensures.steps.0 c.in_ok-push.ensures.items c.in_ok-optimize_function.ensures.run c.loop-function.invariant.1,
)

pub returns : goal.returns
returns c =
    let none : into_iter_items c.loop-function.function-iterator ≡ [] = grind (arith, common_steps) in
    no_more_functions (map rc_value c.args.functions.items) (into_iter_items c.loop-function.function-iterator) c.loop-function.made.items none c.loop-function.invariant.1
