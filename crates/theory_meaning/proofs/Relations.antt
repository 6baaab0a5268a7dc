-- How one result relates to another, and one scope to a later one.
use Rattle.std.specs.Prelude.{◌≡◌, ℕ, ◌+◌, ◌≤◌, false, List, [], ◌∷◌}
use Rattle.rhai_base.specs.Value.{Value}
use Rattle.theory_meaning.specs.Act.{is_constant, ScopeEntry, Store, Halt, IsStuck, OutOfTurns, Outcome, Halted, Result, At}
use Rattle.theory_meaning.specs.Relations.{Begins, calls_of}

-- the second result is the first with k more turns left at least, or the first halted in a way of U
pub data Follows (U : Halt → Type 0) (k : ℕ) : Result → Result → Type 0 where
  same : {o : Outcome} {st : Store} {t t' : ℕ} → t + k ≤ t' → Follows U k (At o st t) (At o st t')
  short : {h : Halt} {st : Store} {t : ℕ} {r : Result} → U h → Begins st.calls (calls_of r) → Follows U k (At (Halted h) st t) r

-- any halt
abbrev pub AnyHalt : Halt → Type 0
AnyHalt h = Unit {0}

-- out of turns alone
abbrev pub IsOut : Halt → Type 0
IsOut (IsStuck f) = ⊥
IsOut OutOfTurns = Unit {0}

-- the same names, and the same values of constants
pub data Keeps : List ScopeEntry → List ScopeEntry → Type 0 where
  none : Keeps [] []
  one : {e : ScopeEntry} {es fs : List ScopeEntry} → Keeps es fs → Keeps (e ∷ es) (e ∷ fs)
  changed : {e : ScopeEntry} {v : Value} {es fs : List ScopeEntry} → is_constant e.kind ≡ false → Keeps es fs → Keeps (e ∷ es) (record e { value = v } ∷ fs)

-- that, under names that were pushed
pub data Grows : List ScopeEntry → List ScopeEntry → Type 0 where
  kept : {es fs : List ScopeEntry} → Keeps es fs → Grows es fs
  pushed : {e : ScopeEntry} {es fs : List ScopeEntry} → Grows es fs → Grows es (e ∷ fs)
