-- Trees of the whole language in which nothing is left to reduce: each case on one node or on one list.
use Rattle.std.specs.Prelude.{◌≡◌, Bool, true, false, List, [], ◌∷◌, None}
use Rattle.theory_meaning.specs.Constants.{constant_values, text_constants, constant_entries, constant_bool}
use Rattle.theory_meaning.specs.Engine.{Engine}
use Rattle.theory_meaning.specs.Tree.{InterpolatedString, ArrayOf, MapOf, BlockExpr, FnCall, And, Or, Coalesce, If, Switch, While, FnCallStmt, Return, an_expr, Stmts, no_stmts, stmt, Function, Script}
use Rattle.theory_meaning.specs.Walk.{Node, OfExpr, OfStmt, every, over_stmts}
use Rattle.theory_rewriting.specs.Folding.{folded}
pub use Rattle.theory_rewriting.specs.Answering.{is_that, is_always, follows_deciding, is_some_value, follows_some, property_of, index_of, without_question, chain_answer, AnswersNothing, of_first, InExpressions}
use Rattle.theory_rewriting.specs.Residue.{holds_constant}
pub use Rattle.theory_rewriting.specs.Choosing.{is_short, own_value, is_short_for, is_short_over, is_chosen}
pub use Rattle.theory_rewriting.specs.Testing.{tests_name, tests_constant, goes_on_after_leaving, is_idle, idles, IsIrreducibleList, InLists}

-- ---- lists

-- the last statement returns an expression
abbrev pub ends_in_return : Stmts → Bool
ends_in_return no_stmts = false
ends_in_return (stmt (Return false exported (an_expr e)) no_stmts) = true
ends_in_return (stmt s no_stmts) = false
ends_in_return (stmt s (stmt t ss)) = ends_in_return (stmt t ss)

-- ---- nodes

-- by itself
abbrev pub IsIrreducibleAlone : Engine → Node → Type 0
IsIrreducibleAlone r (OfExpr (ArrayOf es)) = constant_values es ≡ None
IsIrreducibleAlone r (OfExpr (MapOf ps template)) = constant_entries ps ≡ None
IsIrreducibleAlone r (OfExpr (InterpolatedString es)) = text_constants es ≡ None
IsIrreducibleAlone r (OfExpr (BlockExpr ss)) = holds_constant ss ≡ false
IsIrreducibleAlone r (OfExpr (FnCall c es)) = folded r c es ≡ None
IsIrreducibleAlone r (OfExpr (And es)) = follows_deciding false es ≡ false
IsIrreducibleAlone r (OfExpr (Or es)) = follows_deciding true es ≡ false
IsIrreducibleAlone r (OfExpr (Coalesce es)) = follows_some es ≡ false
IsIrreducibleAlone r (OfStmt (If c a b)) = constant_bool c ≡ None
IsIrreducibleAlone r (OfStmt (Switch e as' t)) = is_chosen e t ≡ false
IsIrreducibleAlone r (OfStmt (While e b)) = is_always false e ≡ false
IsIrreducibleAlone r (OfStmt (FnCallStmt c es)) = folded r c es ≡ None
IsIrreducibleAlone r _ = Unit {0}

pub record IsIrreducibleNode (r : Engine) (n : Node) : Type 0 where
  pub alone : IsIrreducibleAlone r n
  pub lists : InLists IsIrreducibleList n
  pub expressions : InExpressions AnswersNothing n

-- ---- at every depth

-- the statements of a script, or a function's body
pub record IsIrreducibleBody (r : Engine) (ss : Stmts) : Type 0 where
  pub list : IsIrreducibleList ss
  pub returns_nothing : ends_in_return ss ≡ false
  pub nodes : over_stmts (every (IsIrreducibleNode r)) ss

abbrev pub AreIrreducibleBodies : Engine → List Function → Type 0
AreIrreducibleBodies r [] = Unit {0}
AreIrreducibleBodies r (f ∷ fs) = IsIrreducibleBody r f.body × AreIrreducibleBodies r fs

pub record IsIrreducibleScript (r : Engine) (p : Script) : Type 0 where
  pub statements : IsIrreducibleBody r p.statements
  pub functions : AreIrreducibleBodies r p.functions
