-- How a run's report is printed.
use Rattle.std.specs.Prelude.{List, [], ◌∷◌, ◌++◌, Option, Some, None, codes, decimal, if◌then◌else◌}
use Rattle.rhai_base.specs.Value.{Text, Value, written}
use Rattle.theory_meaning.specs.Act.{is_constant, ScopeEntry, HostCall, Stuck}
use Rattle.theory_meaning.specs.Run.{End, WithValue, WithThrown, WithStuck, WithoutTurns, Report}
use Rattle.run_host.specs.Report.{stuck_number, stuck_name}

abbrev pub stuck_text : Stuck → Text
stuck_text f = decimal (stuck_number f) ++ codes " " ++ stuck_name f

abbrev pub end_text : End → Text
end_text (WithValue v) = codes "value " ++ written v
end_text (WithThrown v) = codes "thrown " ++ written v
end_text (WithStuck f) = codes "stuck " ++ stuck_text f
end_text WithoutTurns = codes "out of turns"

abbrev pub variable_text : ScopeEntry → Text
variable_text e = (if is_constant e.kind then codes "constant " else codes "variable ") ++ e.name ++ codes " = " ++ written e.value ++ codes "\n"

-- a name a line
abbrev pub variables_text : List ScopeEntry → Text
variables_text [] = []
variables_text (e ∷ es) = variable_text e ++ variables_text es

abbrev pub export_text : Text × Value → Text
export_text e = codes "export " ++ e.0 ++ codes " = " ++ written e.1 ++ codes "\n"

-- an export a line
abbrev pub exports_text : List (Text × Value) → Text
exports_text [] = []
exports_text (e ∷ es) = export_text e ++ exports_text es

-- values with the text that goes before the first of them, and commas between them
abbrev pub values_text : Text → List Value → Text
values_text before [] = []
values_text before (v ∷ vs) = before ++ written v ++ values_text (codes ", ") vs

abbrev pub called_on : Option Value → Text
called_on None = []
called_on (Some v) = written v ++ codes "."

abbrev pub call_text : HostCall → Text
call_text c = codes "call " ++ called_on c.receiver ++ c.name ++ codes "(" ++ values_text [] c.arguments ++ codes ")\n"

-- a call a line
abbrev pub calls_text : List HostCall → Text
calls_text [] = []
calls_text (c ∷ cs) = call_text c ++ calls_text cs

-- `this` is not printed: at top level it is never bound
abbrev pub report_text : Report → Text
report_text r =
    codes "end: " ++ end_text r.ended ++ codes "\nturns left: " ++ decimal r.turns ++ codes "\n" ++ variables_text r.variables ++ exports_text r.exports ++ calls_text r.calls
