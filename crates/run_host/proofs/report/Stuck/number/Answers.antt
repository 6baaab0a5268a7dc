use Rattle.std.proofs.Common.{rules}
use Rattle.run_host.proofs.report.Stuck.number.Goals as goal

pub returns-in-NoPlace : goal.returns-in-NoPlace
returns-in-NoPlace c = search rules

pub returns-in-CounterTooLarge : goal.returns-in-CounterTooLarge
returns-in-CounterTooLarge c = search rules
