-- The built-in scripts.
use Rattle.std.specs.Prelude.{List, [], ◌∷◌, Option, Some, None, codes, if◌then◌else◌}
use Rattle.rhai_base.specs.Value.{Text, same_text}
use Rattle.theory_meaning.specs.Tree.{Function, Stmts, no_stmts}
use Rattle.demo.specs.Statements.{base_statements, bits_statements, coalesce_statements, constants_statements, divide_statements, endless_statements, first_statements, import_statements, index_statements, merge_functions, merge_statements, opassign_statements, return_statements, rewrite_statements, shadow_statements, switch_statements, tail_statements}
use Rattle.demo.specs.declared.builtin.BuiltinScript.{BuiltinScript}
use Rattle.demo.specs.declared.builtin.BuiltinScript.TheVariants as script

abbrev pub name_of : BuiltinScript → Text
name_of script.First = codes "first"
name_of script.Empty = codes "empty"
name_of script.Index = codes "index"
name_of script.Bits = codes "bits"
name_of script.Coalesce = codes "coalesce"
name_of script.OpAssign = codes "opassign"
name_of script.Rewrite = codes "rewrite"
name_of script.Return = codes "return"
name_of script.Tail = codes "tail"
name_of script.Shadow = codes "shadow"
name_of script.Base = codes "base"
name_of script.Switch = codes "switch"
name_of script.Divide = codes "divide"
name_of script.Endless = codes "endless"
name_of script.Constants = codes "constants"
name_of script.Merge = codes "merge"
name_of script.Import = codes "import"

abbrev pub all_scripts : List BuiltinScript
all_scripts =
    script.First ∷
    script.Empty ∷
    script.Index ∷
    script.Bits ∷
    script.Coalesce ∷
    script.OpAssign ∷
    script.Rewrite ∷
    script.Return ∷
    script.Tail ∷
    script.Shadow ∷
    script.Base ∷
    script.Switch ∷
    script.Divide ∷
    script.Endless ∷
    script.Constants ∷
    script.Merge ∷
    script.Import ∷
    []

-- the first of the scripts that has this name
abbrev pub script_among : List BuiltinScript → Text → Option BuiltinScript
script_among [] name = None
script_among (s ∷ ss) name = if same_text (name_of s) name then Some s else script_among ss name

abbrev pub script_named : Text → Option BuiltinScript
script_named name = script_among all_scripts name

abbrev pub statements_of : BuiltinScript → Stmts
statements_of script.First = first_statements
statements_of script.Empty = no_stmts
statements_of script.Index = index_statements
statements_of script.Bits = bits_statements
statements_of script.Coalesce = coalesce_statements
statements_of script.OpAssign = opassign_statements
statements_of script.Rewrite = rewrite_statements
statements_of script.Return = return_statements
statements_of script.Tail = tail_statements
statements_of script.Shadow = shadow_statements
statements_of script.Base = base_statements
statements_of script.Switch = switch_statements
statements_of script.Divide = divide_statements
statements_of script.Endless = endless_statements
statements_of script.Constants = constants_statements
statements_of script.Merge = merge_statements
statements_of script.Import = import_statements

abbrev pub script_functions : BuiltinScript → List Function
script_functions script.Merge = merge_functions
script_functions _ = []
