-- The store and the host calls of a result, and calls that are a beginning of others.
use Rattle.std.specs.Prelude.{◌≡◌, ℕ, Bool, List, [], ◌∷◌, ◌++◌}
use Rattle.theory_meaning.specs.Act.{HostCall, Store, Result, At, ScriptCall, Env}

-- the first calls are a beginning of the second
pub data Begins : List HostCall → List HostCall → Type 0 where
  here : {cs : List HostCall} → Begins cs cs
  more : {cs ds : List HostCall} (c : HostCall) → Begins (cs ++ c ∷ []) ds → Begins cs ds

abbrev pub store_of : Result → Store
store_of (At o st t) = st

abbrev pub calls_of : Result → List HostCall
calls_of r = (store_of r).calls

-- a script call adds host calls alone, whichever list calls it
pub record OnlyAdds (env : Env) : Type 0 where
  pub calls : (a : ScriptCall) (s : Store) (t : ℕ) → Begins s.calls (calls_of (env.invoke a s t))
  pub anywhere : (a : ScriptCall) (b : Bool) (s : Store) (t : ℕ) → env.invoke a (record s { is_own = b }) t ≡ env.invoke a s t
