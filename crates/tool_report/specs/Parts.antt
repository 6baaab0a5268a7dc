-- What a run does: lines, each of parts with tabs between them.
use Rattle.std.specs.Prelude.{◌≡◌, ℕ, Bool, true, List, [], ◌∷◌, ◌++◌, ◌&&◌, Option, Some, None, codes, decimal, map, nat_lt, if◌then◌else◌}
use Rattle.std.specs.Str.{chars}
use Rattle.rhai_base.specs.Value.{Text, Value}
use Rattle.theory_meaning.specs.Act.{is_constant, ScopeEntry, HostCall}
use Rattle.theory_meaning.specs.Run.{End, WithValue, WithThrown, WithStuck, WithoutTurns, Report}
use Rattle.run_host.specs.Report.{stuck_number, stuck_name}
use Rattle.tool_report.specs.Literals.{escaped, literal}

-- ---- lines

-- parts with a tab before each, and a line end behind them
abbrev pub more_parts : List Text → Text
more_parts [] = codes "\n"
more_parts (p ∷ ps) = codes "\t" ++ p ++ more_parts ps

abbrev pub line_text : List Text → Text
line_text [] = codes "\n"
line_text (p ∷ ps) = p ++ more_parts ps

abbrev pub lines_text : List (List Text) → Text
lines_text [] = []
lines_text (l ∷ ls) = line_text l ++ lines_text ls

-- no tab, no line end and nothing else below a blank stands in it
abbrev pub is_part : Text → Bool
is_part [] = true
is_part (b ∷ bs) = nat_lt 31 b && is_part bs

abbrev pub are_parts : List Text → Bool
are_parts [] = true
are_parts (p ∷ ps) = is_part p && are_parts ps

abbrev pub are_lines : List (List Text) → Bool
are_lines [] = true
are_lines (l ∷ ls) = are_parts l && are_lines ls

-- ---- a report

abbrev pub end_parts : End → List Text
end_parts (WithValue v) = codes "end" ∷ codes "value" ∷ literal v ∷ []
end_parts (WithThrown v) = codes "end" ∷ codes "thrown" ∷ literal v ∷ []
end_parts (WithStuck f) = codes "end" ∷ codes "stuck" ∷ decimal (stuck_number f) ∷ stuck_name f ∷ []
end_parts WithoutTurns = codes "end" ∷ codes "out of turns" ∷ []

-- a kind, a name and a value
abbrev pub named_parts : Text → Text → Value → List Text
named_parts kind x v = kind ∷ escaped (chars x) ∷ literal v ∷ []

abbrev pub variable_parts : ScopeEntry → List Text
variable_parts e = named_parts (if is_constant e.kind then codes "constant" else codes "variable") e.name e.value

abbrev pub export_parts : Text × Value → List Text
export_parts e = named_parts (codes "export") e.0 e.1

-- what is called with these arguments, and of a method the value that it is called on
abbrev pub called_parts : Text → Option Value → List Value → List Text
called_parts x None vs = codes "call" ∷ escaped (chars x) ∷ map literal vs
called_parts x (Some v) vs = codes "method" ∷ escaped (chars x) ∷ literal v ∷ map literal vs

abbrev pub call_parts : HostCall → List Text
call_parts c = called_parts c.name c.receiver c.arguments

abbrev pub turns_parts : ℕ → List Text
turns_parts n = codes "turns left" ∷ decimal n ∷ []

-- `this` is not printed: at top level it is never bound
abbrev pub report_text : Report → Text
report_text r =
    line_text (end_parts r.ended) ++ line_text (turns_parts r.turns) ++ lines_text (map variable_parts r.variables) ++ lines_text (map export_parts r.exports)
    ++ lines_text (map call_parts r.calls)

abbrev pub report_parts : Report → List (List Text)
report_parts r =
    end_parts r.ended ∷ turns_parts r.turns ∷ (map variable_parts r.variables ++ (map export_parts r.exports ++ map call_parts r.calls))

-- The text has these lines, and no tab or line end in a part: so they alone are read from it.
abbrev pub IsOfParts : Report → Type 0
IsOfParts r = (report_text r ≡ lines_text (report_parts r)) × (are_lines (report_parts r) ≡ true)
