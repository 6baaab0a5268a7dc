-- What the program is asked, and what it prints.
use Rattle.std.specs.Prelude.{◌≡◌, ◌≢◌, ℕ, ◌+◌, ◌-◌, ◌*◌, ◌^◌, ◌&&◌, nat_lt, List, [], ◌∷◌, ◌++◌, Option, Some, None, codes, if◌then◌else◌}
use Rattle.std.specs.Str.{all_ascii_digits}
use Rattle.rhai_base.specs.Value.{Text, same_text}
use Rattle.theory_meaning.specs.Desugar.{core_script}
use Rattle.theory_meaning.specs.Run.{AtStatements, Report, report_of, run_script}
use Rattle.theory_meaning.specs.Tree.{Script}
use Rattle.opt_base.specs.declared.level.OptimizationLevel.{OptimizationLevel}
use Rattle.opt_base.specs.declared.level.OptimizationLevel.TheVariants as level
use Rattle.base_engine.specs.EngineInfo.{nothing_set}
use Rattle.script_tables.specs.Table.{table_of}
use Rattle.rhai_optimizer.specs.Optimised.{IsReducedScript}
use Rattle.theory_soundness.specs.Kept.{Keeps}
use Rattle.theory_rewriting.specs.Reducible.{IsIrreducibleScript}
use Rattle.theory_soundness.specs.Refines.{Refines}
use Rattle.theory_soundness.specs.Reports.{Follows}
use Rattle.theory_meaning.specs.Faults.{IsWellFormedScript}
use Rattle.demo.specs.declared.builtin.BuiltinScript.{BuiltinScript}
use Rattle.demo.specs.declared.request.Request.{Request}
use Rattle.demo.specs.declared.request.Request.TheVariants as request
use Rattle.demo.specs.ProgramHost.{program_host}
use Rattle.notation_print.specs.Notation.{script_text}
use Rattle.run_host.specs.Print.{report_text}
use Rattle.demo.specs.BuiltinScripts.{name_of, all_scripts, script_functions, script_named, statements_of}

abbrev pub level_named : Text → Option OptimizationLevel
level_named name =
    if same_text name (codes "none") then Some level.None
    else if same_text name (codes "simple") then Some level.Simple
    else if same_text name (codes "full") then Some level.Full
    else None

-- digits, read from the left after the number so far
abbrev pub number_after : ℕ → Text → ℕ
number_after n [] = n
number_after n (c ∷ cs) = number_after (n * 10 + (c - 48)) cs

-- one or more decimal digits, of a number of 64 bits
abbrev pub turns_named : Text → Option ℕ
turns_named [] = None
turns_named (c ∷ cs) = if all_ascii_digits (c ∷ cs) && nat_lt (number_after 0 (c ∷ cs)) (2 ^ 64) then Some (number_after 0 (c ∷ cs)) else None

abbrev pub show_of : Option BuiltinScript → Option OptimizationLevel → Option Request
show_of (Some script) (Some level) = Some (request.Show script level)
show_of _ _ = None

abbrev pub run_of : Option BuiltinScript → Option OptimizationLevel → Option ℕ → Option Request
run_of (Some script) (Some level) (Some turns) = Some (request.Run script level turns)
run_of _ _ _ = None

-- the request that these words make
abbrev pub request_of : List Text → Option Request
request_of (command ∷ []) = if same_text command (codes "list") then Some request.List else None
request_of (command ∷ name ∷ level ∷ []) = if same_text command (codes "show") then show_of (script_named name) (level_named level) else None
request_of (command ∷ name ∷ level ∷ turns ∷ []) =
    if same_text command (codes "run") then run_of (script_named name) (level_named level) (turns_named turns) else None
request_of _ = None

abbrev pub usage : Text
usage = codes "usage: rhai_opt list | show NAME LEVEL | run NAME LEVEL TURNS\n"

-- a name a line
abbrev pub listing : List BuiltinScript → Text
listing [] = []
listing (s ∷ ss) = name_of s ++ codes "\n" ++ listing ss

abbrev pub showing : Script → Script → Text
showing before after = codes "before:\n" ++ script_text before ++ codes "after:\n" ++ script_text after

abbrev pub built_in : BuiltinScript → Script
built_in script = record { statements = statements_of script; functions = table_of (script_functions script) }

-- what the optimiser makes of a script, where the engine has nothing set: one that runs alike; at level `None` the script itself, else one
-- with nothing to reduce
pub record Optimized (at : OptimizationLevel) (before after : Script) : Type 0 where
  pub runs : Refines nothing_set before after
  pub keeps : Keeps before after
  pub untouched : at ≡ level.None → after ≡ before
  pub irreducible : at ≢ level.None → IsWellFormedScript before → IsIrreducibleScript nothing_set after
  pub reduced : at ≢ level.None → IsReducedScript nothing_set after

-- what a run of a script reports: from an empty scope, with nothing set, and with the program's host
abbrev pub reported : Script → ℕ → Report
reported script turns = report_of AtStatements (run_script nothing_set program_host (core_script script) AtStatements [] turns)

-- a text that answers a request
abbrev pub Answers : Request → Text → Type 0
Answers request.List text = text ≡ listing all_scripts
Answers (request.Show script at) text = (after : Script) × Optimized at (built_in script) after × (text ≡ showing (built_in script) after)
Answers (request.Run script at turns) text = (after : Script) × Optimized at (built_in script) after × (text ≡ report_text (reported after turns))

-- reports of two runs, of a script and of what the optimiser makes of it: the second follows the first
pub record BothReports (at : OptimizationLevel) (before : Script) (turns : ℕ) (text : Text) : Type 0 where
  pub after : Script
  pub optimized : Optimized at before after
  pub follows : Follows (reported before turns) (reported after turns)
  pub shown : text ≡ codes "before:\n" ++ report_text (reported before turns) ++ codes "after:\n" ++ report_text (reported after turns)
