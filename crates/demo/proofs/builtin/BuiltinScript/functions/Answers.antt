use Rattle.std.proofs.Common.{◌≡◌, List, [], map, refl, ap, ◌∙◌, rules}
use Rattle.std.specs.Rc.{rc_value}
use Rattle.std.specs.declared.alloc.Global.{Global}
use Rattle.std.specs.declared.rc.Rc.{Rc}
use Rattle.ast_types.specs.Reading.{function_of}
use Rattle.ast_types.specs.declared.script_fn.ScriptFuncDef.{ScriptFuncDef}
use Rattle.demo.specs.BuiltinScripts.{script_functions}
use Rattle.demo.specs.declared.builtin.BuiltinScript.{BuiltinScript}
use Rattle.demo.specs.declared.builtin.BuiltinScript.TheVariants as script
use Rattle.demo.proofs.builtin.BuiltinScript.functions.Goals as goal

others_have_none : (s : BuiltinScript) → (s ≡ script.Merge → ⊥) → [] ≡ script_functions s
others_have_none script.Merge h = absurd (h refl)
others_have_none _ h = refl

pub returns-in-Merge : goal.returns-in-Merge
returns-in-Merge c = search (rules)

pub returns-in_default : goal.returns-in_default
returns-in_default c = ap (λ (fs : List (Rc ScriptFuncDef Global)). map function_of (map rc_value fs)) c.new.ensures.items ∙ others_have_none c.args.self c.in_default.not-Merge
