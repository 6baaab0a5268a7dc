-- The paths to the nodes of a tree, in the walk's order.
use Rattle.std.specs.Prelude.{List, [], ◌∷◌, ◌++◌, map}
use Rattle.theory_meaning.specs.Tree.{Expr, Stmt, Stmts, Script}
use Rattle.theory_meaning.specs.Walk.{Node, Walk, over_expr, over_stmt, over_stmts, over_script, arms_at, listed}

abbrev pub Path : Type 0
Path = List Node

-- the path of a node alone, then those of its parts, each with the node in front
abbrev pub listing : Walk (List Path)
listing = record { none = []; both = λ p q. p ++ q; node = λ n ps. (n ∷ []) ∷ map (λ p. n ∷ p) ps; within = λ s p. p; arms = λ t ps. arms_at [] (λ p q. p ++ q) ps (listed t) }

abbrev pub expr_paths : Expr → List Path
expr_paths e = over_expr listing e

abbrev pub stmt_paths : Stmt → List Path
stmt_paths s = over_stmt listing s

abbrev pub stmts_paths : Stmts → List Path
stmts_paths ss = over_stmts listing ss

-- the statements, then the body of each function in order
abbrev pub script_paths : Script → List Path
script_paths p = over_script listing p
