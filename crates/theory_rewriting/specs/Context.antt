-- Where a tree stands: what its rewriting may rely on, and what the list is in which a statement stands.
use Rattle.std.specs.Prelude.{Bool, true, false, ◌&&◌, cond, List, [], ◌∷◌, Option, Some, None}
use Rattle.rhai_base.specs.Value.{Text, Value}
use Rattle.theory_meaning.specs.Constants.{constant_value}
use Rattle.theory_meaning.specs.Act.{OfName}
use Rattle.theory_meaning.specs.Engine.{Engine}
use Rattle.theory_meaning.specs.Tree.{Stmt, Var, Stmts, no_stmts, stmt}
use Rattle.theory_rewriting.specs.Evals.{keeps_names}
use Rattle.theory_rewriting.specs.Known.{Known, globals_of, shadow}

-- the engine's record, and the names known
pub record Context : Type 0 where
  pub engine : Engine
  pub known : List Known

-- under an engine's record, with these names known
abbrev pub knowing : Engine → List Known → Context
knowing engine ks = record { engine = engine; known = ks }

-- with none
abbrev pub under : Engine → Context
under engine = knowing engine []

-- under one more name, a constant of this value or of which nothing is known
abbrev pub noting : Text → Option Value → Context → Context
noting x o k = record { engine = k.engine; known = record { root = OfName x; value = o } ∷ k.known }

-- under names that are variables: any, one or none, a catch name if it is one
abbrev pub naming : Text → Context → Context
naming x k = noting x None k

abbrev pub naming_some : Option Text → Context → Context
naming_some None k = k
naming_some (Some x) k = naming x k

abbrev pub naming_catch : Option (Option Text) → Context → Context
naming_catch None k = k
naming_catch (Some x) k = naming_some x k

-- what a statement of a list adds: a constant with a constant expression has its value
abbrev pub known_behind : Stmt → List Known → List Known
known_behind (Var true exported x e) ks = record { root = OfName x; value = constant_value e } ∷ ks
known_behind (Var false exported x e) ks = shadow x ks
known_behind s ks = ks

-- where a list goes on: the context, and whether what the list declares becomes known: not behind a call of `eval`
pub record ListContext : Type 0 where
  pub context : Context
  pub is_open : Bool

-- where it starts, and where `eval` was called
abbrev pub open_list : Context → ListContext
open_list k = record { context = k; is_open = true }

abbrev pub closed_list : Context → ListContext
closed_list k = record { context = knowing k.engine (globals_of k.known); is_open = false }

-- behind a statement, where names are kept (the test) or the constants of the script's own list alone
abbrev pub known_after : Bool → Stmt → List Known → List Known
known_after b s ks = cond b (known_behind s ks) (globals_of ks)

abbrev pub behind_by : Bool → Stmt → Context → ListContext
behind_by b s k = record { context = knowing k.engine (known_after b s k.known); is_open = b }

abbrev pub behind : Stmt → ListContext → ListContext
behind s l = behind_by (l.is_open && keeps_names s) s l.context

-- what a list is: a script's or a function's, or one inside, whose value is wanted or not
pub data ListKind : Type 0 where
  Whole : ListKind
  Inside : Bool → ListKind

abbrev pub wanted : ListKind → Bool
wanted Whole = true
wanted (Inside b) = b

-- whether the value of a statement before these is wanted
abbrev pub wanted_before : Bool → Stmts → Bool
wanted_before b no_stmts = b
wanted_before b (stmt s ss) = false
