-- The constant that holds a value was put in an expression's place, or in a statement's.
use Rattle.std.specs.Prelude.{◌≡◌, true}
use Rattle.rhai_base.specs.Value.{Value}
use Rattle.theory_meaning.specs.Tree.{Expr, Stmt, ExprStmt}
use Rattle.theory_rewriting.specs.Parts.{constant_of}
use Rattle.theory_rewriting.specs.Steps.{Progress}

pub record Holds (s s' : Progress) (e' : Expr) (v : Value) : Type 0 where
  pub fired : s'.is_dirty ≡ true
  pub known : s'.known ≡ s.known
  pub constant : e' ≡ constant_of v

pub record HoldsStatement (s s' : Progress) (x' : Stmt) (v : Value) : Type 0 where
  pub fired : s'.is_dirty ≡ true
  pub known : s'.known ≡ s.known
  pub constant : x' ≡ ExprStmt (constant_of v)
