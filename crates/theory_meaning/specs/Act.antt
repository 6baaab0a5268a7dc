-- Acts, of which the meaning of every construct is made, and what an act does from a store with some turns left.
use Rattle.std.specs.Prelude.{ℕ, zero, suc, ◌-◌, Bool, true, false, cond, ◌&&◌, List, [], ◌∷◌, ◌++◌, length, drop, Option, Some, None, option_map}
use Rattle.rhai_base.specs.Value.{Text, Value, UnitV, TextV, same_text}
use Rattle.theory_meaning.specs.Engine.{Engine, Binding, constant_named}

-- what stands in the scope: a name, which is a variable or a constant; an alias, whose value is a module's name; an export
pub data EntryKind : Type 0 where
  IsVariable : EntryKind
  IsConstant : EntryKind
  IsAlias : EntryKind
  IsExport : EntryKind

pub record ScopeEntry : Type 0 where
  pub name : Text
  pub kind : EntryKind
  pub value : Value

-- what no write changes: all but a variable
abbrev pub is_constant : EntryKind → Bool
is_constant IsVariable = false
is_constant _ = true

abbrev pub is_name : EntryKind → Bool
is_name IsVariable = true
is_name IsConstant = true
is_name _ = false

abbrev pub is_alias : EntryKind → Bool
is_alias IsAlias = true
is_alias _ = false

-- a question to the host
pub record HostCall : Type 0 where
  pub name : Text
  pub receiver : Option Value
  pub arguments : List Value

-- a value with an optional new receiver, or a thrown value
pub data Answer : Type 0 where
  Answers : Value → Option Value → Answer
  AnswersThrow : Value → Answer

-- module_of: the name of the module of a path; text: how texts write a value that holds a float
pub record Host : Type 0 where
  pub answer : List HostCall → HostCall → Answer
  pub module_value : Text → Option Value
  pub module_of : Text → Option Text
  pub text : Value → Text

-- a script function's name, number of parameters and receiver type
pub record Key : Type 0 where
  pub name : Text
  pub arity : ℕ
  pub this_type : Option Text

-- what a run is in, beside its script's bodies
pub record World : Type 0 where
  pub engine : Engine
  pub host : Host
  pub functions : List Key

-- the names, aliases and exports, latest first; the constants that functions see as `global::x`, latest last; whether the
-- script's own list is run, whose constants they see; `this`, and the host calls in order
pub record Store : Type 0 where
  pub scope : List ScopeEntry
  pub globals : List Binding
  pub is_own : Bool
  pub this : Option Value
  pub calls : List HostCall

pub data Stuck : Type 0 where
  Unbound : Stuck
  WrongKind : Stuck
  WriteToConstant : Stuck
  NoPlace : Stuck
  CounterTooLarge : Stuck
  UnboundThis : Stuck
  UnknownModule : Stuck

-- a way to leave what is run; Again: the end of a round that another one follows
pub data Exit : Type 0 where
  Returns : Value → Exit
  Breaks : Value → Exit
  Continues : Exit
  Throws : Value → Exit
  Again : Exit

-- an end: a value for what follows, or a way to leave it
pub data Ending : Type 0 where
  Gives : Value → Ending
  Leaves : Exit → Ending

pub data Halt : Type 0 where
  IsStuck : Stuck → Halt
  OutOfTurns : Halt

pub data Outcome : Type 0 where
  Ended : Ending → Outcome
  Halted : Halt → Outcome

-- an outcome, the store after it and the turns left
pub data Result : Type 0 where
  At : Outcome → Store → ℕ → Result

pub data Root : Type 0 where
  OfName : Text → Root
  OfGlobal : Text → Root
  OfThis : Root

-- a script call
pub record ScriptCall : Type 0 where
  pub function : Key
  pub captures : Bool
  pub this : Option Value
  pub arguments : List Value

mutual
  -- an act leaves the names of the scope as they are
  pub data Act : Type 0 where
    -- ends so
    Stop : Ending → Act
    -- is stuck
    Fail : Stuck → Act
    -- goes on by how the first ends
    Then : Act → (Ending → Act) → Act
    -- takes a turn first
    Turn : Act → Act
    -- gives the value of a name or of `this`
    Read : Root → Act
    -- replaces it, and gives unit; a constant that must be written is stuck, and else stays as it is
    Write : Bool → Root → Value → Act
    -- goes on with the module's name where this is an alias, else with this
    Resolve : Text → (Text → Act) → Act
    -- asks the host
    AskHost : HostCall → (Answer → Act) → Act
    -- calls a script function; goes on with its value and its last `this`
    Invoke : ScriptCall → (Value → Option Value → Act) → Act
    -- rounds, as long as they end in Again
    Loop : Act → Act
    -- takes away what the list added to the scope
    Scoped : Acts → Act

  -- a list of acts may add entries to the scope; where it is finished a return is its value
  pub data Acts : Type 0 where
    Only : Act → Acts
    Do : Act → (Ending → Acts) → Acts
    Named : Text → EntryKind → Value → Acts → Acts
    Finish : Acts → Acts

-- the rounds of a loop, and a script call: a function of the caller's store and the turns left
pub record Env : Type 0 where
  pub rounds : ℕ
  pub invoke : ScriptCall → Store → ℕ → Result

abbrev pub and_then : Result → (Ending → Store → ℕ → Result) → Result
and_then (At (Ended e) st t) next = next e st t
and_then (At (Halted h) st t) next = At (Halted h) st t

abbrev pub with_turn : ℕ → Store → (Store → ℕ → Result) → Result
with_turn zero st next = At (Halted OutOfTurns) st zero
with_turn (suc t) st next = next st t

-- a name, no alias and no export
abbrev pub is_called : ScopeEntry → Text → Bool
is_called e x = is_name e.kind && same_text e.name x

-- the latest entry of a name, else the record's constant
abbrev pub found : List Binding → List ScopeEntry → Text → Option ScopeEntry
found bs [] x = option_map (λ v. record { name = x; kind = IsConstant; value = v }) (constant_named bs x)
found bs (e ∷ es) x = cond (is_called e x) (Some e) (found bs es x)

abbrev pub put : List ScopeEntry → Text → Value → List ScopeEntry
put [] x v = []
put (e ∷ es) x v = cond (is_called e x) (record e { value = v } ∷ es) (e ∷ put es x v)

abbrev pub module_name : Value → Text
module_name (TextV m) = m
module_name _ = []

-- the module's name by the latest alias of this name, else the name itself
abbrev pub resolved : List ScopeEntry → Text → Text
resolved [] a = a
resolved (e ∷ es) a = cond (is_alias e.kind && same_text e.name a) (module_name e.value) (resolved es a)

abbrev pub read : Option ScopeEntry → Store → ℕ → Result
read None st t = At (Halted (IsStuck Unbound)) st t
read (Some e) st t = At (Ended (Gives e.value)) st t

abbrev pub read_global : Option Value → Store → ℕ → Result
read_global None st t = At (Halted (IsStuck Unbound)) st t
read_global (Some v) st t = At (Ended (Gives v)) st t

abbrev pub read_this : Option Value → Store → ℕ → Result
read_this None st t = At (Halted (IsStuck UnboundThis)) st t
read_this (Some v) st t = At (Ended (Gives v)) st t

abbrev pub read_root : World → Root → Store → ℕ → Result
read_root w (OfName x) st t = read (found w.engine.constants st.scope x) st t
read_root w (OfGlobal x) st t = read_global (constant_named st.globals x) st t
read_root w OfThis st t = read_this st.this st t

-- by whether it must be written, and whether it is a constant
abbrev pub write_at : Bool → Bool → Text → Value → Store → ℕ → Result
write_at true true x v st t = At (Halted (IsStuck WriteToConstant)) st t
write_at false true x v st t = At (Ended (Gives UnitV)) st t
write_at must false x v st t = At (Ended (Gives UnitV)) (record st { scope = put st.scope x v }) t

abbrev pub write : Bool → Option ScopeEntry → Text → Value → Store → ℕ → Result
write must None x v st t = At (Halted (IsStuck Unbound)) st t
write must (Some e) x v st t = write_at must (is_constant e.kind) x v st t

-- a constant stays as it is
abbrev pub write_global : Bool → Option Value → Store → ℕ → Result
write_global must None st t = At (Halted (IsStuck Unbound)) st t
write_global true (Some v) st t = At (Halted (IsStuck WriteToConstant)) st t
write_global false (Some v) st t = At (Ended (Gives UnitV)) st t

abbrev pub write_this : Option Value → Value → Store → ℕ → Result
write_this None v st t = At (Halted (IsStuck UnboundThis)) st t
write_this (Some u) v st t = At (Ended (Gives UnitV)) (record st { this = Some v }) t

abbrev pub write_root : World → Bool → Root → Value → Store → ℕ → Result
write_root w must (OfName x) v st t = write must (found w.engine.constants st.scope x) x v st t
write_root w must (OfGlobal x) v st t = write_global must (constant_named st.globals x) st t
write_root w must OfThis v st t = write_this st.this v st t

abbrev pub is_published : EntryKind → Bool
is_published IsConstant = true
is_published _ = false

-- functions see the constants of the script's own list
abbrev pub published : Bool → Text → Value → List Binding → List Binding
published true x v bs = bs ++ record { name = x; value = v } ∷ []
published false x v bs = bs

abbrev pub declared : Text → EntryKind → Value → Store → Store
declared x k v st = record st { scope = record { name = x; kind = k; value = v } ∷ st.scope; globals = published (st.is_own && is_published k) x v st.globals }

-- a list inside, which takes away what it added
abbrev pub inside : Store → Store
inside st = record st { is_own = false }

abbrev pub restore : List ScopeEntry → List ScopeEntry → List ScopeEntry
restore old new = drop (length new - length old) new

abbrev pub leave : Store → Result → Result
leave old (At o st t) = At o (record st { scope = restore old.scope st.scope; is_own = old.is_own }) t

-- after a script call: back in the old store but for the calls
abbrev pub call_then : Store → Result → (Value → Option Value → Store → ℕ → Result) → Result
call_then old (At (Ended (Gives v)) st t) next = next v st.this (record old { calls = st.calls }) t
call_then old (At o st t) next = At o (record old { calls = st.calls }) t

-- how a body ends that is left so: a return is its value, and no break leaves a body
abbrev pub left_body : Exit → Outcome
left_body (Returns v) = Ended (Gives v)
left_body (Throws v) = Ended (Leaves (Throws v))
left_body _ = Halted (IsStuck WrongKind)

abbrev pub returned_outcome : Outcome → Outcome
returned_outcome (Ended (Leaves x)) = left_body x
returned_outcome o = o

abbrev pub returned : Result → Result
returned (At o st t) = At (returned_outcome o) st t

-- another round, or the end
abbrev pub on_again : Ending → (Store → ℕ → Result) → Store → ℕ → Result
on_again (Leaves Again) next st t = next st t
on_again e next st t = At (Ended e) st t

-- Each round but the last takes a turn.
abbrev pub rounds : ℕ → (Store → ℕ → Result) → Store → ℕ → Result
rounds zero round st t = and_then (round st t) (λ e. on_again e (λ st1 t1. At (Halted OutOfTurns) st1 t1))
rounds (suc n) round st t = and_then (round st t) (λ e. on_again e (λ st1 t1. rounds n round st1 t1))

abbrev mutual
  pub run : World → Env → Act → Store → ℕ → Result
  run w env (Stop e) st t = At (Ended e) st t
  run w env (Fail f) st t = At (Halted (IsStuck f)) st t
  run w env (Then a next) st t = and_then (run w env a st t) (λ e. run w env (next e))
  run w env (Turn a) st t = with_turn t st (run w env a)
  run w env (Read r) st t = read_root w r st t
  run w env (Write must r v) st t = write_root w must r v st t
  run w env (Resolve a next) st t = run w env (next (resolved st.scope a)) st t
  run w env (AskHost c next) st t = run w env (next (w.host.answer st.calls c)) (record st { calls = st.calls ++ c ∷ [] }) t
  run w env (Invoke a next) st t = call_then st (env.invoke a st t) (λ v u. run w env (next v u))
  run w env (Loop a) st t = rounds env.rounds (run w env a) st t
  run w env (Scoped p) st t = leave st (run_all w env p (inside st) t)

  pub run_all : World → Env → Acts → Store → ℕ → Result
  run_all w env (Only a) st t = run w env a st t
  run_all w env (Do a next) st t = and_then (run w env a st t) (λ e. run_all w env (next e))
  run_all w env (Named x k v p) st t = run_all w env p (declared x k v st) t
  run_all w env (Finish p) st t = returned (run_all w env p st t)
