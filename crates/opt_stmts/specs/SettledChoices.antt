-- An `if` at which no rule fires, its parts being reduced.
use Rattle.std.specs.Prelude.{Bool, true, false, ◌&&◌, not, is_some}
use Rattle.theory_meaning.specs.Constants.{constant_bool}
use Rattle.theory_meaning.specs.Tree.{Expr, And, Stmt, If, Stmts, no_stmts, stmt}
pub use Rattle.theory_rewriting.specs.Operands.{is_and, ends_false}

abbrev pub is_empty : Stmts → Bool
is_empty no_stmts = true
is_empty (stmt s ss) = false

abbrev pub is_if : Stmt → Bool
is_if (If c a b) = true
is_if _ = false

-- an `if` that has a statement and is not decided
abbrev pub is_settled_if : Expr → Stmts → Stmts → Bool
is_settled_if e a b = not (is_empty a && is_empty b) && not (is_some (constant_bool e))

abbrev pub is_settled : Stmt → Bool
is_settled (If e a b) = is_settled_if e a b
is_settled _ = true

-- whether one that does not stay becomes a condition that is followed by nothing: its parts are new
abbrev pub opens_if : Bool → Stmts → Stmts → Bool
opens_if w a b = w && (is_empty a && is_empty b)

abbrev pub reopens : Bool → Stmt → Bool
reopens w (If e a b) = opens_if w a b
reopens w _ = false

-- ---- an `if` alone in an `if`

-- another condition may follow
abbrev pub goes_on : Expr → Bool
goes_on (And es) = not (ends_false es)
goes_on _ = true

-- an `if` without an `else`, and one alone
abbrev pub is_bare_if : Stmt → Bool
is_bare_if (If c a b) = is_empty b
is_bare_if _ = false

abbrev pub is_bare_if_alone : Stmts → Bool
is_bare_if_alone (stmt s no_stmts) = is_bare_if s
is_bare_if_alone _ = false

abbrev pub nests : Expr → Stmts → Stmts → Bool
nests c a b = is_empty b && (goes_on c && is_bare_if_alone a)

abbrev pub is_nest : Stmt → Bool
is_nest (If c a b) = nests c a b
is_nest _ = false
