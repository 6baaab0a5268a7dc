use Rattle.std.proofs.Common.{string_bytes}
use Rattle.std.proofs.lemmas.Result.{on_ok_weaker}
use Rattle.demo.proofs.Runs.{report_pushed, run_reported}
use Rattle.demo.proofs.program.push_run.Goals as goal

pub returns : goal.returns
returns c =
    let told = run_reported _ _ _ _ _ c.new-engine.ensures c.new-scope.ensures c.in_ok-report.ensures in
    on_ok_weaker _ (report_pushed (string_bytes c.args.text.now) (string_bytes c.push_report.new.text) _ _ told) c.push_report.ensures.ok
