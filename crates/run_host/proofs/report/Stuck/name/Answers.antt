use Rattle.std.proofs.Common.{rules}
use Rattle.run_host.proofs.report.Stuck.name.Goals as goal

pub returns-in-NoPlace : goal.returns-in-NoPlace
returns-in-NoPlace c = search rules
