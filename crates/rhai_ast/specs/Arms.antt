-- The arms that the table of a `switch` has still to list.
use Rattle.std.specs.Prelude.{ℕ, List, ◌++◌, drop}
use Rattle.ast_types.specs.declared.switch.SwitchCasesCollection.{SwitchCasesCollection}
use Rattle.theory_meaning.specs.Walk.{arm_of_default, arms_of_cases, arms_of_ranges}
use Rattle.ast_types.specs.Reading.{table_of}
use Rattle.rhai_ast.specs.declared.walker.arms.ListedArms.{ListedArms}

-- the place of the default
abbrev pub default_of : SwitchCasesCollection → List ℕ
default_of t = arm_of_default (table_of t).default

-- the places that are still to come: of ranges, and of cases before them
abbrev pub ranges_left : ListedArms → List ℕ
ranges_left l = drop l.taken (arms_of_ranges (table_of l.table.now).ranges) ++ default_of l.table.now

abbrev pub places_left : ListedArms → List ℕ
places_left l = drop l.taken (arms_of_cases (drop l.cases (table_of l.table.now).cases) ++ arms_of_ranges (table_of l.table.now).ranges) ++ default_of l.table.now
