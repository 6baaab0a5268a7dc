-- What a report says.
use Rattle.std.specs.Prelude.{◌≡◌, ℕ, List, map, None, codes}
use Rattle.rhai_base.specs.Value.{Text}
use Rattle.rhai_base.specs.Reading.{value_of}
use Rattle.theory_meaning.specs.Act as act
use Rattle.theory_meaning.specs.Agreeing.{AgreeOn}
use Rattle.theory_meaning.specs.Core.{Script}
use Rattle.theory_meaning.specs.Engine.{Engine}
use Rattle.theory_meaning.specs.Run.{AtStatements, End, WithValue, WithThrown, WithStuck, WithoutTurns, Report, report_of, run_script}
use Rattle.run_host.specs.declared.report.Stuck.{Stuck}
use Rattle.run_host.specs.declared.report.Stuck.TheVariants as stuck
use Rattle.run_host.specs.declared.report.RunEnd.{RunEnd}
use Rattle.run_host.specs.declared.report.RunEnd.TheVariants as ended
use Rattle.run_host.specs.declared.report.RunReport.{RunReport}
use Rattle.run_host.specs.Host.{call_meant}
use Rattle.run_host.specs.Entries.{variable_meant, export_meant}

abbrev pub stuck_meant : Stuck → act.Stuck
stuck_meant stuck.Unbound = act.Unbound
stuck_meant stuck.WrongKind = act.WrongKind
stuck_meant stuck.WriteToConstant = act.WriteToConstant
stuck_meant stuck.NoPlace = act.NoPlace
stuck_meant stuck.CounterTooLarge = act.CounterTooLarge
stuck_meant stuck.UnboundThis = act.UnboundThis
stuck_meant stuck.UnknownModule = act.UnknownModule

abbrev pub stuck_number : act.Stuck → ℕ
stuck_number act.Unbound = 1
stuck_number act.WrongKind = 2
stuck_number act.WriteToConstant = 3
stuck_number act.NoPlace = 4
stuck_number act.CounterTooLarge = 5
stuck_number act.UnboundThis = 6
stuck_number act.UnknownModule = 7

abbrev pub stuck_name : act.Stuck → Text
stuck_name act.Unbound = codes "Unbound"
stuck_name act.WrongKind = codes "WrongKind"
stuck_name act.WriteToConstant = codes "WriteToConstant"
stuck_name act.NoPlace = codes "NoPlace"
stuck_name act.CounterTooLarge = codes "CounterTooLarge"
stuck_name act.UnboundThis = codes "UnboundThis"
stuck_name act.UnknownModule = codes "UnknownModule"

abbrev pub end_meant : RunEnd → End
end_meant (ended.Value v) = WithValue (value_of v)
end_meant (ended.Thrown v) = WithThrown (value_of v)
end_meant (ended.Stuck f) = WithStuck (stuck_meant f)
end_meant ended.OutOfTurns = WithoutTurns

-- at top level `this` is never bound
abbrev pub report_meant : RunReport → Report
report_meant r = record {
  ended = end_meant r.run_end;
  variables = map variable_meant r.variables;
  exports = map export_meant r.exports;
  this = None;
  calls = map call_meant r.calls;
  turns = r.turns_left;
}

-- A report on the run of a script's statements: so runs the script with each host, by rows for one, that has the same
-- modules and their values, and answers the reported calls as this one does.
abbrev pub ReportsRun : Engine → act.Host → Script → List act.ScopeEntry → ℕ → Report → Type 0
ReportsRun engine host p scope n r = (h : act.Host) → AgreeOn host h r.calls → r ≡ report_of AtStatements (run_script engine h p AtStatements scope n)
