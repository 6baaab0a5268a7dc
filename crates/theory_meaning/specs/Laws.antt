-- What is promised of runs of pure and of literal trees.
use Rattle.std.specs.Prelude.{◌≡◌, ℕ, zero, suc, ◌-◌, ◌≤◌, Bool, true, false, List, [], ◌∷◌, Some, None}
use Rattle.rhai_base.specs.Value.{Text, Value, PointerV}
use Rattle.base_tokens.specs.Names.{is_valid_name}
use Rattle.theory_meaning.specs.Act.{World, IsExport, ScopeEntry, Store, Gives, Stuck, IsStuck, OutOfTurns, Outcome, Ended, Halted, Result, At, Act, Acts, Only, Env, resolved, run, run_all}
use Rattle.theory_meaning.specs.ActForms.{give}
use Rattle.theory_meaning.specs.Constants.{constant_value, literal_value, constant_for}
use Rattle.theory_meaning.specs.Desugar.{core_expr, core_stmt}
use Rattle.theory_meaning.specs.Faults.{IsWellFormedExpr, IsWellFormedScript, script_fault}
use Rattle.theory_meaning.specs.Meaning.{act, line}
use Rattle.theory_meaning.specs.Queries.{is_pure_expr, is_pure, is_internally_pure, is_block_dependent}
use Rattle.theory_meaning.specs.Relations.{OnlyAdds, store_of}
use Rattle.theory_meaning.specs.Run.{exports}
use Rattle.theory_meaning.specs.Walk.{Around}
use Rattle.theory_meaning.specs.Tree.{Expr, Stmt, Var, Export, Script}

-- ---- runs that change nothing

-- how such a run ends
pub data Settled : Type 0 where
  Gave : Value → Settled
  Stopped : Stuck → Settled

abbrev pub settled : Settled → Outcome
settled (Gave v) = Ended (Gives v)
settled (Stopped f) = Halted (IsStuck f)

-- after so many turns
abbrev pub spend : ℕ → Outcome → Store → ℕ → Result
spend zero o s t = At o s t
spend (suc n) o s zero = At (Halted OutOfTurns) s zero
spend (suc n) o s (suc t) = spend n o s t

-- nothing is thrown, and no loop or body is left
pub data Quiet : Outcome → Type 0 where
  a_value : {v : Value} → Quiet (Ended (Gives v))
  is_stuck : {f : Stuck} → Quiet (Halted (IsStuck f))
  out_of_turns : Quiet (Halted OutOfTurns)

abbrev pub outcome_of : Result → Outcome
outcome_of (At o s t) = o

-- Runs by their number of turns: the store stays, so that no host is asked, and from a bound on they give a value or are
-- stuck.
pub record ChangesNothing (s : Store) (r : ℕ → Result) : Type 0 where
  pub store : (t : ℕ) → store_of (r t) ≡ s
  pub quiet : (t : ℕ) → Quiet (outcome_of (r t))
  pub bound : ℕ
  pub end : Settled
  pub within : (t : ℕ) → bound ≤ t → r t ≡ At (settled end) s (t - bound)

-- at most one name or alias is added, beside exports
pub data OneMore (es : List ScopeEntry) : List ScopeEntry → Type 0 where
  no_more : OneMore es es
  one_more : (e : ScopeEntry) → OneMore es (e ∷ es)
  an_export : {fs : List ScopeEntry} (x : Text) (v : Value) → OneMore es fs → OneMore es (record { name = x; kind = IsExport; value = v } ∷ fs)

pub record AddsOne (s : Store) (r : Result) : Type 0 where
  pub calls : (store_of r).calls ≡ s.calls
  pub this : (store_of r).this ≡ s.this
  pub scope : OneMore s.scope (store_of r).scope
  pub quiet : Quiet (outcome_of r)

-- the same names, some with another value
pub data SameNames : List ScopeEntry → List ScopeEntry → Type 0 where
  no_names : SameNames [] []
  same_name : {e : ScopeEntry} (v : Value) {es fs : List ScopeEntry} → SameNames es fs → SameNames (e ∷ es) (record e { value = v } ∷ fs)

-- ---- of one expression or statement, in each world, from each store and wherever it stands

-- an expression
abbrev pub run_expr : World → Env → Bool → Expr → Store → ℕ → Result
run_expr w env loop e s t = run w env (act w (core_expr loop e)) s t

-- a statement in a list, which ends after it
abbrev pub run_stmt : World → Env → Bool → Stmt → Store → ℕ → Result
run_stmt w env loop l s t = run_all w env (line w (core_stmt loop l) (λ v. Only (give v))) s t

pub record Anywhere (P : World → Env → Bool → Store → Type 0) : Type 0 where
  pub at : (w : World) (env : Env) → OnlyAdds env → (loop : Bool) (s : Store) → P w env loop s

-- A pure expression, and a pure statement, change nothing.
abbrev pub PureExprLaw : Expr → Type 0
PureExprLaw e = is_pure_expr e ≡ true → Anywhere (λ w env loop s. ChangesNothing s (λ t. run_expr w env loop e s t))

abbrev pub PureLaw : Stmt → Type 0
PureLaw l = is_pure l ≡ true → Anywhere (λ w env loop s. ChangesNothing s (λ t. run_stmt w env loop l s t))

-- One that is pure inside a list adds at most a name or an alias, and exports, which a block takes away.
abbrev pub InternallyPureLaw : Stmt → Type 0
InternallyPureLaw l = is_internally_pure l ≡ true → Anywhere (λ w env loop s. (t : ℕ) → AddsOne s (run_stmt w env loop l s t))

-- One that isn't block dependent leaves the names as they were.
abbrev pub IndependentLaw : Stmt → Type 0
IndependentLaw l = is_block_dependent l ≡ false → Anywhere (λ w env loop s. (t : ℕ) → SameNames s.scope (store_of (run_stmt w env loop l s t)).scope)

-- A declaration with EXPORTED does what it does without, and then what an export of its name does.
abbrev pub ExportedLaw : Bool → Text → Expr → Type 0
ExportedLaw c x e =
    (next : Value → Acts) → Anywhere (λ w env loop s. (t : ℕ) → run_all w env (line w (core_stmt loop (Var c true x e)) next) s t ≡ run_all w env (line w (core_stmt loop (Var c false x e)) (λ v. line w (core_stmt loop (Export x [])) next)) s t)

-- An act exports nothing and changes no alias, whatever lists are run in it: a run's exports are those of the script's own list.
pub record SameModules (es fs : List ScopeEntry) : Type 0 where
  pub exports : exports fs ≡ exports es
  pub aliases : (a : Text) → resolved fs a ≡ resolved es a

abbrev pub UnexportedLaw : Act → Type 0
UnexportedLaw a = (w : World) (env : Env) → OnlyAdds env → (s : Store) (t : ℕ) → SameModules s.scope (store_of (run w env a s t)).scope

-- The value of a literal is that of each run, at once.
abbrev pub LiteralLaw : Expr → Type 0
LiteralLaw e = (a : Around) → IsWellFormedExpr a e → (v : Value) → literal_value e ≡ Some v → Anywhere (λ w env loop s. (t : ℕ) → run_expr w env loop e s t ≡ At (Ended (Gives v)) s t)

-- a constant has a literal value: its own
abbrev pub ConstantLaw : Expr → Type 0
ConstantLaw e = (v : Value) → constant_value e ≡ Some v → literal_value e ≡ Some v

-- a pointer's name is one that a function may have
abbrev pub IsNamed : Value → Type 0
IsNamed (PointerV f vs) = is_valid_name f ≡ true
IsNamed _ = Unit {0}

-- the literal value of the constant for a value is that value
abbrev pub ConstantForLaw : Value → Type 0
ConstantForLaw v = IsNamed v → literal_value (constant_for v) ≡ Some v

-- a script is well-formed exactly where it has no first fault
abbrev pub WellFormedLaw : Script → Type 0
WellFormedLaw p = (script_fault p ≡ None → IsWellFormedScript p) × (IsWellFormedScript p → script_fault p ≡ None)
