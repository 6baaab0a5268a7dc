-- Script calls, and the run of a whole script.
use Rattle.std.specs.Prelude.{ℕ, zero, suc, Bool, true, false, cond, ◌&&◌, List, [], ◌∷◌, length, map, Option, Some, None}
use Rattle.rhai_base.specs.Value.{Text, Value, UnitV}
use Rattle.theory_meaning.specs.Engine.{Engine}
use Rattle.theory_meaning.specs.Act.{EntryKind, IsVariable, IsExport, is_name, ScopeEntry, HostCall, Host, Key, World, Store, Stuck, Unbound, WrongKind, Returns, Throws, Gives, Leaves, IsStuck, OutOfTurns, Outcome, Ended, Halted, Result, At, ScriptCall, Acts, Finish, Env, with_turn, run_all}
use Rattle.theory_meaning.specs.Core.{Function, Script, Stmts}
use Rattle.theory_meaning.specs.Calls.{same_key, key}
use Rattle.theory_meaning.specs.Meaning.{acts}

abbrev pub key_of : Function → Key
key_of f = key f.name (length f.params) f.this_type

abbrev pub function_of : List Function → Key → Option Function
function_of [] k = None
function_of (f ∷ fs) k = cond (same_key (key_of f) k) (Some f) (function_of fs k)

-- the parameters as variables
abbrev pub bind : List Text → List Value → List ScopeEntry → List ScopeEntry
bind [] vs scope = scope
bind (x ∷ xs) [] scope = scope
bind (x ∷ xs) (v ∷ vs) scope = bind xs vs (record { name = x; kind = IsVariable; value = v } ∷ scope)

abbrev pub seen : Bool → List ScopeEntry → List ScopeEntry
seen true scope = scope
seen false scope = []

-- a call from a store, in which a list of this scope is run
abbrev pub called_from : Store → List ScopeEntry → Option Value → Store
called_from st scope this = record { scope = scope; globals = st.globals; is_own = false; this = this; calls = st.calls }

-- where a body starts; lends: a body may see the scope of a call that captures
abbrev pub entered : Bool → Function → ScriptCall → Store → Store
entered lends f a st = called_from st (bind f.params a.arguments (seen (lends && a.captures) st.scope)) a.this

abbrev pub body_acts : World → Stmts → Acts
body_acts w ss = Finish (acts w true ss UnitV)

abbrev pub call_body : Bool → World → Env → Option Function → ScriptCall → Store → ℕ → Result
call_body lends w env None a st t = At (Halted (IsStuck Unbound)) (called_from st [] None) t
call_body lends w env (Some f) a st t =
    with_turn t (entered lends f a st) (λ st1 t1. run_all w env (body_acts w f.body) st1 t1)

-- calls nest at most so deep
abbrev pub invoke_at : Bool → World → List Function → ℕ → ScriptCall → Store → ℕ → Result
invoke_at lends w fs zero a st t = At (Halted OutOfTurns) (called_from st [] None) t
invoke_at lends w fs (suc d) a st t =
    call_body lends w (record { rounds = d; invoke = λ a1 st1 t1. invoke_at lends w fs d a1 st1 t1 }) (function_of fs a.function) a st t

abbrev pub env_at : Bool → World → List Function → ℕ → Env
env_at lends w fs d = record { rounds = d; invoke = λ a1 st1 t1. invoke_at lends w fs d a1 st1 t1 }

abbrev pub world_of : Engine → Host → List Function → World
world_of engine host fs = record { engine = engine; host = host; functions = map key_of fs }

-- the statements, or one function with a receiver or none and its arguments
pub data EntryPoint : Type 0 where
  AtStatements : EntryPoint
  AtFunction : Key → Option Value → List Value → EntryPoint

-- where the script's own list starts
abbrev pub started : List ScopeEntry → Store
started scope = record { scope = scope; globals = []; is_own = true; this = None; calls = [] }

-- A run with n turns: no more than n rounds and n calls, one within another, can begin, so that the depth is never used up first.
abbrev pub run_at : Bool → World → Script → EntryPoint → List ScopeEntry → ℕ → Result
run_at lends w s AtStatements scope n =
    run_all w (env_at lends w s.functions n) (body_acts w s.statements) (started scope) n
run_at lends w s (AtFunction k this vs) scope n =
    call_body lends w (env_at lends w s.functions n) (function_of s.functions k) (record { function = k; captures = false; this = this; arguments = vs }) (started []) n

unfoldable pub run_script : Engine → Host → Script → EntryPoint → List ScopeEntry → ℕ → Result
run_script engine host s e scope n = run_at true (world_of engine host s.functions) s e scope n

-- ---- reports

pub data End : Type 0 where
  WithValue : Value → End
  WithThrown : Value → End
  WithStuck : Stuck → End
  WithoutTurns : End

pub record Report : Type 0 where
  pub ended : End
  pub variables : List ScopeEntry
  pub exports : List (Text × Value)
  pub this : Option Value
  pub calls : List HostCall
  pub turns : ℕ

abbrev pub end_of : Outcome → End
end_of (Ended (Gives v)) = WithValue v
end_of (Ended (Leaves (Returns v))) = WithValue v
end_of (Ended (Leaves (Throws v))) = WithThrown v
end_of (Ended (Leaves x)) = WithStuck WrongKind
end_of (Halted (IsStuck f)) = WithStuck f
end_of (Halted OutOfTurns) = WithoutTurns

abbrev pub reversed : List ScopeEntry → List ScopeEntry → List ScopeEntry
reversed [] es = es
reversed (f ∷ fs) es = reversed fs (f ∷ es)

abbrev pub names : List ScopeEntry → List ScopeEntry
names [] = []
names (e ∷ es) = cond (is_name e.kind) (e ∷ names es) (names es)

abbrev pub is_export : EntryKind → Bool
is_export IsExport = true
is_export _ = false

abbrev pub exports : List ScopeEntry → List (Text × Value)
exports [] = []
exports (e ∷ es) = cond (is_export e.kind) ((e.name, e.value) ∷ exports es) (exports es)

-- what a run leaves in its scope, in order; of a function nothing
abbrev pub scope_left : EntryPoint → List ScopeEntry → List ScopeEntry
scope_left AtStatements es = reversed es []
scope_left (AtFunction k this vs) es = []

abbrev pub report_of : EntryPoint → Result → Report
report_of e (At o st t) = let left = scope_left e st.scope in record { ended = end_of o; variables = names left; exports = exports left; this = st.this; calls = st.calls; turns = t }
