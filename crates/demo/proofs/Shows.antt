-- What `show` prints, and what the optimiser makes of a built-in script.
use Rattle.std.proofs.Common.{◌≡◌, ◌≢◌, List, [], ◌++◌, codes, map, ap, ◌∙◌, subst}
use Rattle.std.specs.declared.alloc.Global.{Global}
use Rattle.std.specs.declared.rc.Rc.{Rc}
use Rattle.std.specs.Rc.{rc_value}
use Rattle.rhai_base.specs.Value.{Text}
use Rattle.theory_meaning.specs.Act.{ScopeEntry}
use Rattle.theory_meaning.specs.Engine.{Engine}
use Rattle.theory_meaning.specs.Tree.{Script}
use Rattle.ast_types.specs.Reading.{stmts_of, function_of}
use Rattle.ast_types.specs.declared.script_fn.ScriptFuncDef.{ScriptFuncDef}
use Rattle.ast_types.specs.declared.stmt.Stmt.{Stmt}
use Rattle.script_tables.specs.Table.{table_of}
use Rattle.rhai_script.specs.Contents.{Contents, contents, meant}
use Rattle.rhai_script.specs.Script.{script_of}
use Rattle.rhai_script.specs.declared.ast.AST.{AST}
use Rattle.base_engine.specs.EngineInfo.{nothing_set}
use Rattle.theory_soundness.specs.Refines.{Refines, RefinesWhere}
use Rattle.theory_soundness.proofs.simulation.Agreement.{agrees_nothing}
use Rattle.rhai_optimizer.specs.Optimised.{given, Optimised}
use Rattle.rhai_optimizer.specs.Source.{source_of}
use Rattle.rhai_optimizer.proofs.Whole.{table_meant}
use Rattle.opt_base.specs.declared.level.OptimizationLevel.{OptimizationLevel}
use Rattle.demo.specs.declared.builtin.BuiltinScript.{BuiltinScript}
use Rattle.notation_print.specs.Notation.{script_text}
use Rattle.demo.specs.BuiltinScripts.{script_functions, statements_of}
use Rattle.demo.specs.Words.{built_in, showing, Optimized}

-- both scripts, push by push
pub pushed_show : (before after shown : Script) (empty a b c d : Text) → shown ≡ before → empty ≡ []
    → a ≡ empty ++ codes "before:\n" → b ≡ a ++ script_text shown → c ≡ b ++ codes "after:\n" → d ≡ c ++ script_text after
    → d ≡ showing before after
pushed_show before after shown empty a b c d same h e f g i =
    let start : a ≡ codes "before:\n" = e ∙ ap (λ t. t ++ codes "before:\n") h in
    let first : b ≡ codes "before:\n" ++ script_text before = f ∙ ap (λ t. t ++ script_text shown) start ∙ ap (λ (p : Script). codes "before:\n" ++ script_text p) same in
    i ∙ ap (λ t. t ++ script_text after) (g ∙ ap (λ t. t ++ codes "after:\n") first)

-- where nothing was known, any scope agrees
from_any_scope : {engine : Engine} {p p' : Script} → RefinesWhere engine [] p p' → Refines engine p p'
from_any_scope {engine = engine} q = record { runs = λ host scope e. q.runs host scope e (agrees_nothing engine.constants scope) }

-- the optimiser's answer for a script, under a record with nothing set and without a scope
optimized_script : (at : OptimizationLevel) (ss : List Stmt) (fs : List (Rc ScriptFuncDef Global)) (s : Contents) → Optimised nothing_set [] at (given ss fs) s → Optimized at (source_of ss fs) (meant s)
optimized_script at ss fs s o = subst (λ p. Optimized at p (meant s)) (λ i. record { statements = stmts_of ss; functions = table_meant (map rc_value fs) i }) given_made where
  given_made : Optimized at (meant (given ss fs)) (meant s)
  given_made = record {
    runs = from_any_scope o.script.refines;
    keeps = o.script.keeps;
    untouched = λ h. let z = o.untouched h in (λ i. record { statements = stmts_of (z.0 i); functions = map function_of (z.1 i) });
    irreducible = o.script.irreducible;
    reduced = o.script.reduced;
  }

pub optimized_built_in : (at : OptimizationLevel) (engine : Engine) (start : List ScopeEntry) (ss : List Stmt) (fs : List (Rc ScriptFuncDef Global)) (script : BuiltinScript) (ast : AST)
    → engine ≡ nothing_set → start ≡ [] → stmts_of ss ≡ statements_of script → map function_of (map rc_value fs) ≡ script_functions script
    → Optimised engine start at (given ss fs) (contents ast) → Optimized at (built_in script) (script_of ast)
optimized_built_in at engine start ss fs script ast e none statements functions o =
    let source : source_of ss fs ≡ built_in script = λ i. record { statements = statements i; functions = table_of (functions i) } in
    subst (λ p. Optimized at p (script_of ast)) source (optimized_script at ss fs (contents ast) (subst (λ es. Optimised nothing_set es at (given ss fs) (contents ast)) none (subst (λ x. Optimised x start at (given ss fs) (contents ast)) e o)))
