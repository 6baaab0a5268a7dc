-- The children that are still to come, as the theory has them.
use Rattle.std.specs.Prelude.{Bool, true, false, List, map, Option}
use Rattle.std.specs.Iterator.{YieldsFirstBy}
use Rattle.ast_types.specs.declared.stmt.Stmt.{Stmt}
use Rattle.theory_meaning.specs.Walk.{over_stmts}
use Rattle.ast_types.specs.Reading.{stmts_of}
use Rattle.rhai_ast.specs.Children as theory
use Rattle.rhai_ast.specs.Children.{one_step}
use Rattle.rhai_ast.specs.Nodes.{child_of}
use Rattle.rhai_ast.specs.Standing.{Standing, standing_child, standing_of, tree_of}
use Rattle.rhai_ast.specs.declared.walker.children.Children.{Children}
use Rattle.rhai_ast.specs.declared.walker.node.Child.{Child}
use Rattle.rhai_ast.specs.declared.walker.parts.Parts.{Parts}
use Rattle.rhai_ast.specs.declared.walker.parts.Parts.TheVariants as parts

-- what stands there, as the theory has it
abbrev pub meant : Standing → theory.Child
meant s = record { spot = s.spot; node = tree_of s.node }

abbrev pub all_meant : List Standing → List theory.Child
all_meant ss = map meant ss

abbrev pub left_of : Children → List theory.Child
left_of c = all_meant (standing_of c)

abbrev pub statements_left : List Stmt → List theory.Child
statements_left ss = over_stmts one_step (stmts_of ss)

-- the first child that was left, in both
abbrev pub Yields : Children → Option Child → Children → Type 0
Yields s r t = YieldsFirstBy child_of left_of s r t × YieldsFirstBy standing_child standing_of s r t

-- the parts of a leaf
abbrev pub is_nothing : Parts → Bool
is_nothing parts.Nothing = true
is_nothing p = false
