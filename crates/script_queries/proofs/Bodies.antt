-- The paths of the bodies of functions, one after another, for a loop.
use Rattle.std.proofs.Common.{◌≡◌, List, [], ◌∷◌, ◌++◌, ap, ◌∙◌}
use Rattle.ast_types.specs.declared.script_fn.ScriptFuncDef.{ScriptFuncDef}
use Rattle.rhai_ast.specs.Standing.{statements_standing}
use Rattle.rhai_ast.specs.Walking.{Path}
use Rattle.rhai_ast.proofs.Paths.{paths-append, paths-none, paths_of}
use Rattle.script_queries.specs.Scripts.{bodies_standing}

abbrev pub bodies_paths : List ScriptFuncDef → List Path
bodies_paths fs = paths_of (bodies_standing fs)

pub bodies-next : (fs rest : List ScriptFuncDef) (f : ScriptFuncDef) → fs ≡ f ∷ rest → bodies_paths fs ≡ paths_of (statements_standing f.body.block) ++ bodies_paths rest
bodies-next fs rest f e = ap bodies_paths e ∙ paths-append (statements_standing f.body.block) (bodies_standing rest)

pub bodies-end : (fs : List ScriptFuncDef) → fs ≡ [] → bodies_paths fs ≡ []
bodies-end fs e = ap bodies_paths e ∙ paths-none
