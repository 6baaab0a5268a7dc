use Rattle.run_host.specs.Report.{report_meant}
use Rattle.tool_report.proofs.Plain.{report_read}
use Rattle.tool_report.proofs.lines.push_parts.Goals as goal

pub returns-clause-parts : goal.returns-clause-parts
returns-clause-parts c = report_read (report_meant c.args.report.now)

pub returns-in_err-push_lines-clause-parts : goal.returns-in_err-push_lines-clause-parts
returns-in_err-push_lines-clause-parts c = report_read (report_meant c.args.report.now)

pub returns-in_err-push_str-clause-parts : goal.returns-in_err-push_str-clause-parts
returns-in_err-push_str-clause-parts c = report_read (report_meant c.args.report.now)
