use Rattle.std.proofs.Common.{◌++◌, ◌∷◌, [], ap, ◌∙◌}
use Rattle.run_state.specs.declared.entries.EntryKind.TheVariants.{Variable}
use Rattle.run_state.proofs.Entering.{bound_start, bound_next, bound_out, bound_end}
use Rattle.run_state.proofs.state.bound.Goals as goal

pub loop-param-init : goal.loop-param-init
loop-param-init c = bound_start c.args.params.now c.args.args c.into_rest-rest.result c.args.around.items c.into_rest-rest.ensures

pub returns-in_default : goal.returns-in_default
returns-in_default c = bound_out _ _ _ _ _ _ c.loop-param.invariant c.in_default.ensures.0

pub loop-param-preserved : goal.loop-param-preserved
loop-param-preserved c = bound_next _ _ _ _ _ _ c.loop-param.invariant _ c.next.new.self c.in-Some.arg c.push.new.self.items c.loop-param-test.true c.param-item.is c.in-Some.ensures (c.in_ok-push.ensures.items ∙ ap (λ x. c.loop-param.scope.items ++ (record { name = x; kind = Variable; value = c.in-Some.arg }) ∷ []) c.in_ok-clone.ensures.cases)

pub returns : goal.returns
returns c = bound_end _ _ _ _ _ _ c.loop-param.invariant c.loop-param-test.false
