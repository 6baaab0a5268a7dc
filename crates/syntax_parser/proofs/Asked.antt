-- What the grammar is asked of a script.
use Rattle.std.proofs.Common.{◌≡◌, List, map, subst}
use Rattle.std.specs.Rc.{rc_value}
use Rattle.std.specs.declared.rc.Rc.{Rc}
use Rattle.std.specs.declared.alloc.Global.{Global}
use Rattle.rhai_base.specs.Value.{Text}
use Rattle.ast_types.specs.declared.script_fn.ScriptFuncDef.{ScriptFuncDef}
use Rattle.ast_types.specs.declared.stmt.Stmt as declared_stmt
use Rattle.ast_types.specs.Reading.{function_of, stmts_of}
use Rattle.rhai_script.specs.declared.ast.AST.{AST}
use Rattle.rhai_script.specs.Script.{script_of}
use Rattle.theory_grammar.specs.Covered.{IsSpelled}
use Rattle.syntax_grammar.specs.Made.{script_made}

-- by its statements and functions
pub asked_of : {ws : Text} (s : AST) (ss : List declared_stmt.Stmt) (fs : List (Rc ScriptFuncDef Global)) → ss ≡ s.body.block → map rc_value fs ≡ s.lib.value.functions → IsSpelled ws (script_made ss fs) → IsSpelled ws (script_of s)
asked_of {ws = ws} s ss fs same_body same_lib r = subst (λ gs. IsSpelled ws (record { statements = stmts_of s.body.block; functions = map function_of gs })) same_lib (subst (λ ts. IsSpelled ws (record { statements = stmts_of ts; functions = map function_of (map rc_value fs) })) same_body r)

pub ruleset asked_steps = (asked_of)
