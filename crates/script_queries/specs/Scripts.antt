-- How a walk over a script ends.
use Rattle.std.specs.Prelude.{Bool, List, [], ◌∷◌, ◌++◌, Result}
use Rattle.std.specs.Borrow.{Bor}
use Rattle.std.specs.Fn.{Mut}
use Rattle.rhai_script.specs.declared.ast.AST.{AST}
use Rattle.ast_types.specs.declared.script_fn.ScriptFuncDef.{ScriptFuncDef}
use Rattle.rhai_ast.specs.Standing.{Standing, statements_standing}
use Rattle.rhai_ast.specs.declared.walker.node.ASTNode.{ASTNode}
use Rattle.rhai_ast.specs.Walking.{WalksOver}

-- the statements of bodies, one body after another
abbrev pub bodies_standing : List ScriptFuncDef → List Standing
bodies_standing [] = []
bodies_standing (f ∷ fs) = statements_standing f.body.block ++ bodies_standing fs

-- the statements of a script, then those of the bodies of its functions
abbrev pub script_standing : AST → List Standing
script_standing s = statements_standing s.body.block ++ bodies_standing s.lib.value.functions

-- it begins with an empty path, and the path that is left is let go
abbrev pub WalksScript : {F E : Type 0} → Mut F (Bor (List ASTNode) × Unit {0}) Bool → Result Bool E → F → AST → F → Type 0
WalksScript g r f s last = (left : List ASTNode) × WalksOver g [] r f (script_standing s) last left
