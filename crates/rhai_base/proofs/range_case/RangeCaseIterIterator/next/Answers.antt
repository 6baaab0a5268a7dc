use Rattle.rhai_base.specs.Ranges.{left}
use Rattle.rhai_base.proofs.RangeCases.{next_open, next_closed, progress}
use Rattle.rhai_base.proofs.range_case.RangeCaseIterIterator.next.Goals as goal

pub returns-in-ExclusiveInt-clause-steps : goal.returns-in-ExclusiveInt-clause-steps
returns-in-ExclusiveInt-clause-steps c = next_open _ _ _ _ _ c.in-ExclusiveInt.is c.next.ensures.steps

pub returns-in-ExclusiveInt-clause-goes : goal.returns-in-ExclusiveInt-clause-goes
returns-in-ExclusiveInt-clause-goes c = progress left _ _ _ (next_open _ _ _ _ _ c.in-ExclusiveInt.is c.next.ensures.steps)

pub returns-in-InclusiveInt-clause-steps : goal.returns-in-InclusiveInt-clause-steps
returns-in-InclusiveInt-clause-steps c = next_closed _ _ _ _ _ c.in-InclusiveInt.is c.next-in-InclusiveInt.ensures.steps

pub returns-in-InclusiveInt-clause-goes : goal.returns-in-InclusiveInt-clause-goes
returns-in-InclusiveInt-clause-goes c = progress left _ _ _ (next_closed _ _ _ _ _ c.in-InclusiveInt.is c.next-in-InclusiveInt.ensures.steps)
