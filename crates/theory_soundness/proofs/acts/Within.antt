-- Acts by the values that they may give and the ways in which they may leave.
use Rattle.theory_meaning.specs.Engine.{constant_named}
use Rattle.std.proofs.Common.{◌≡◌, ℕ, zero, suc, Bool, true, false, List, ◌∷◌, [], ◌++◌, Option, Some, None, refl, ap}
use Rattle.rhai_base.specs.Value.{Text, Value, UnitV}
use Rattle.theory_meaning.specs.Act.{World, EntryKind, is_constant, resolved, ScopeEntry, HostCall, Answer, Answers, AnswersThrow, Store, Exit, Returns, Breaks, Continues, Throws, Again, Ending, Gives, Leaves, Stuck, Ended, Halted, Result, At, Root, OfName, OfThis, ScriptCall, Act, Stop, Fail, Then, Turn, Read, Write, Resolve, AskHost, Invoke, Loop, Scoped, Acts, Only, Named, Env, and_then, with_turn, call_then, found, read, read_this, read_root, write_at, write, write_this, write_root, leave, returned, rounds, on_again, run, run_all, OfGlobal, read_global, write_global, declared, inside}
use Rattle.theory_meaning.specs.ActForms.{give, value_then, ◌>>=◌, each_value, then_line, choose, truth, branch, if_true, answered, end_round}
use Rattle.theory_meaning.specs.Control.{round}

abbrev pub AnyValue : Value → Type 0
AnyValue v = Unit {0}

abbrev pub AnyExit : Exit → Type 0
AnyExit x = Unit {0}

abbrev pub IsUnit : Value → Type 0
IsUnit v = v ≡ UnitV

-- no `break` with another value than unit
abbrev pub Valueless : Exit → Type 0
Valueless (Breaks v) = v ≡ UnitV
Valueless x = Unit {0}

abbrev pub EndingIn : (Exit → Type 0) → (Value → Type 0) → Ending → Type 0
EndingIn L V (Gives v) = V v
EndingIn L V (Leaves x) = L x

abbrev pub ResultIn : (Exit → Type 0) → (Value → Type 0) → Result → Type 0
ResultIn L V (At (Ended e) s t) = EndingIn L V e
ResultIn L V (At (Halted h) s t) = Unit {0}

-- so do script calls
abbrev pub CallsIn : (Exit → Type 0) → Env → Type 0
CallsIn L env = (a : ScriptCall) (s : Store) (t : ℕ) → ResultIn L AnyValue (env.invoke a s t)

-- ---- results

-- at the end of a body no loop is left
pub returned_carries : (r : Result) → ResultIn Valueless AnyValue (returned r)
returned_carries (At (Ended (Gives v)) s t) = tt
returned_carries (At (Ended (Leaves (Returns v))) s t) = tt
returned_carries (At (Ended (Leaves (Throws v))) s t) = tt
returned_carries (At (Ended (Leaves x)) s t) = tt
returned_carries (At (Halted h) s t) = tt

any_result : (r : Result) → ResultIn AnyExit AnyValue r
any_result (At (Ended (Gives v)) s t) = tt
any_result (At (Ended (Leaves x)) s t) = tt
any_result (At (Halted h) s t) = tt

pub any_calls : (env : Env) → CallsIn AnyExit env
any_calls env a s t = any_result (env.invoke a s t)

module _ (L : Exit → Type 0) (V : Value → Type 0) where
  in_then : (L' : Exit → Type 0) (V' : Value → Type 0) (r : Result) (next : Ending → Store → ℕ → Result) → ResultIn L V r → ((e : Ending) → EndingIn L V e → (s : Store) (t : ℕ) → ResultIn L' V' (next e s t)) → ResultIn L' V' (and_then r next)
  in_then L' V' (At (Ended e) s t) next h k = k e h s t
  in_then L' V' (At (Halted f) s t) next h k = tt

  pub in_turn : (t : ℕ) (s : Store) (next : Store → ℕ → Result) → ((t1 : ℕ) → ResultIn L V (next s t1)) → ResultIn L V (with_turn t s next)
  in_turn zero s next h = tt
  in_turn (suc t) s next h = h t

  in_leave : (old : Store) (r : Result) → ResultIn L V r → ResultIn L V (leave old r)
  in_leave old (At (Ended e) s t) h = h
  in_leave old (At (Halted f) s t) h = tt

  in_again : (e : Ending) (next : Store → ℕ → Result) → EndingIn L V e → ((s : Store) (t : ℕ) → ResultIn L V (next s t)) → (s : Store) (t : ℕ) → ResultIn L V (on_again e next s t)
  in_again (Leaves Again) next h k s t = k s t
  in_again (Gives v) next h k s t = h
  in_again (Leaves x) next h k s t = h

  in_rounds : (n : ℕ) (r : Store → ℕ → Result) → ((s : Store) (t : ℕ) → ResultIn L V (r s t)) → (s : Store) (t : ℕ) → ResultIn L V (rounds n r s t)
  in_rounds zero r h s t = in_then L V (r s t) _ (h s t) (λ e j s1 t1. in_again e _ j (λ s2 t2. tt) s1 t1)
  in_rounds (suc n) r h s t = in_then L V (r s t) _ (h s t) (λ e j s1 t1. in_again e _ j (λ s2 t2. in_rounds n r h s2 t2) s1 t1)

  in_call : (s : Store) (r : Result) (next : Value → Option Value → Store → ℕ → Result) → ResultIn L AnyValue r → ((v : Value) (u : Option Value) (s1 : Store) (t : ℕ) → ResultIn L V (next v u s1 t)) → ResultIn L V (call_then s r next)
  in_call s (At (Ended (Gives v)) s1 t) next h k = k v s1.this (record s { calls = s1.calls }) t
  in_call s (At (Ended (Leaves x)) s1 t) next h k = h
  in_call s (At (Halted f) s1 t) next h k = tt

  in_write_at : V UnitV → (must c : Bool) (x : Text) (v : Value) (s : Store) (t : ℕ) → ResultIn L V (write_at must c x v s t)
  in_write_at h true true x v s t = tt
  in_write_at h false true x v s t = h
  in_write_at h must false x v s t = h

  in_write : V UnitV → (must : Bool) (o : Option ScopeEntry) (x : Text) (v : Value) (s : Store) (t : ℕ) → ResultIn L V (write must o x v s t)
  in_write h must None x v s t = tt
  in_write h must (Some e) x v s t = in_write_at h must (is_constant e.kind) x v s t

  in_write_global : V UnitV → (must : Bool) (o : Option Value) (s : Store) (t : ℕ) → ResultIn L V (write_global must o s t)
  in_write_global h must None s t = tt
  in_write_global h true (Some v) s t = tt
  in_write_global h false (Some v) s t = h

  in_write_this : V UnitV → (o : Option Value) (v : Value) (s : Store) (t : ℕ) → ResultIn L V (write_this o v s t)
  in_write_this h None v s t = tt
  in_write_this h (Some u) v s t = h

  in_write_root : V UnitV → (w : World) (must : Bool) (r : Root) (v : Value) (s : Store) (t : ℕ) → ResultIn L V (write_root w must r v s t)
  in_write_root h w must (OfName x) v s t = in_write h must (found w.engine.constants s.scope x) x v s t
  in_write_root h w must (OfGlobal x) v s t = in_write_global h must (constant_named s.globals x) s t
  in_write_root h w must OfThis v s t = in_write_this h s.this v s t

read_any : (L : Exit → Type 0) (o : Option ScopeEntry) (s : Store) (t : ℕ) → ResultIn L AnyValue (read o s t)
read_any L None s t = tt
read_any L (Some e) s t = tt

read_global_any : (L : Exit → Type 0) (o : Option Value) (s : Store) (t : ℕ) → ResultIn L AnyValue (read_global o s t)
read_global_any L None s t = tt
read_global_any L (Some v) s t = tt

read_this_any : (L : Exit → Type 0) (o : Option Value) (s : Store) (t : ℕ) → ResultIn L AnyValue (read_this o s t)
read_this_any L None s t = tt
read_this_any L (Some v) s t = tt

read_root_any : (L : Exit → Type 0) (w : World) (r : Root) (s : Store) (t : ℕ) → ResultIn L AnyValue (read_root w r s t)
read_root_any L w (OfName x) s t = read_any L (found w.engine.constants s.scope x) s t
read_root_any L w (OfGlobal x) s t = read_global_any L (constant_named s.globals x) s t
read_root_any L w OfThis s t = read_this_any L s.this s t

-- what comes after a value that is unit may take it for unit
unit_result : (w : World) (env : Env) (f : Value → Acts) (r : Result) → ResultIn AnyExit IsUnit r → and_then r (λ e. run_all w env (each_value f e)) ≡ and_then r (λ e. run_all w env (each_value (λ v. f UnitV) e))
unit_result w env f (At (Ended (Gives v)) s t) h = ap (λ u. run_all w env (f u) s t) h
unit_result w env f (At (Ended (Leaves x)) s t) h = refl
unit_result w env f (At (Halted x) s t) h = refl

-- ---- acts

module _ (w : World) (env : Env) where
  pub record Within (L : Exit → Type 0) (V : Value → Type 0) (a : Act) : Type 0 where
    pub by : (s : Store) (t : ℕ) → ResultIn L V (run w env a s t)

  pub record WithinAll (L : Exit → Type 0) (V : Value → Type 0) (p : Acts) : Type 0 where
    pub by : (s : Store) (t : ℕ) → ResultIn L V (run_all w env p s t)

  pub in_any : (a : Act) → Within AnyExit AnyValue a
  in_any a = record { by = λ s t. any_result (run w env a s t) }

  pub any_list : (p : Acts) → WithinAll AnyExit AnyValue p
  any_list p = record { by = λ s t. any_result (run_all w env p s t) }

  pub in_give : {L : Exit → Type 0} {V : Value → Type 0} (v : Value) → V v → Within L V (give v)
  in_give v h = record { by = λ s t. h }

  pub in_stop : {L : Exit → Type 0} {V : Value → Type 0} (x : Exit) → L x → Within L V (Stop (Leaves x))
  in_stop x h = record { by = λ s t. h }

  pub in_fail : {L : Exit → Type 0} {V : Value → Type 0} (f : Stuck) → Within L V (Fail f)
  in_fail f = record { by = λ s t. tt }

  pub then_in : {L : Exit → Type 0} {V : Value → Type 0} {L' : Exit → Type 0} {V' : Value → Type 0} {a : Act} {next : Ending → Act} → Within L V a → ((e : Ending) → EndingIn L V e → Within L' V' (next e)) → Within L' V' (Then a next)
  then_in {L = L} {V = V} {L' = L'} {V' = V'} {a = a} h k = record { by = λ s t. in_then L V L' V' (run w env a s t) _ (h.by s t) (λ e j s1 t1. (k e j).by s1 t1) }

  value_in : {L : Exit → Type 0} {V V' : Value → Type 0} {f : Value → Act} → ((v : Value) → V v → Within L V' (f v)) → (e : Ending) → EndingIn L V e → Within L V' (value_then f e)
  value_in h (Gives v) j = h v j
  value_in h (Leaves x) j = in_stop x j

  pub bind_in : {L : Exit → Type 0} {V V' : Value → Type 0} {a : Act} {f : Value → Act} → Within L V a → ((v : Value) → V v → Within L V' (f v)) → Within L V' (a >>= f)
  bind_in {V = V} h k = then_in h (λ e j. value_in {V = V} k e j)

  pub choose_in : {L : Exit → Type 0} {V : Value → Type 0} (b : Bool) {a c : Act} → Within L V a → Within L V c → Within L V (choose b a c)
  choose_in true h k = h
  choose_in false h k = k

  pub branch_in : {L : Exit → Type 0} {V : Value → Type 0} (o : Option Bool) {a c : Act} → Within L V a → Within L V c → Within L V (branch o a c)
  branch_in None h k = in_fail _
  branch_in (Some b) h k = choose_in b h k

  pub if_in : {L : Exit → Type 0} {V : Value → Type 0} (v : Value) {a c : Act} → Within L V a → Within L V c → Within L V (if_true v a c)
  if_in v h k = branch_in (truth v) h k

  pub turn_in : {L : Exit → Type 0} {V : Value → Type 0} {a : Act} → Within L V a → Within L V (Turn a)
  turn_in {L = L} {V = V} {a = a} h = record { by = λ s t. in_turn L V t s (run w env a) (λ t1. h.by s t1) }

  pub loop_in : {L : Exit → Type 0} {V : Value → Type 0} {a : Act} → Within L V a → Within L V (Loop a)
  loop_in {L = L} {V = V} {a = a} h = record { by = λ s t. in_rounds L V env.rounds (run w env a) (λ s1 t1. h.by s1 t1) s t }

  pub scoped_in : {L : Exit → Type 0} {V : Value → Type 0} {p : Acts} → WithinAll L V p → Within L V (Scoped p)
  scoped_in {L = L} {V = V} {p = p} h = record { by = λ s t. in_leave L V s (run_all w env p (inside s) t) (h.by (inside s) t) }

  pub read_in : {L : Exit → Type 0} (r : Root) → Within L AnyValue (Read r)
  read_in {L = L} r = record { by = λ s t. read_root_any L w r s t }

  pub write_in : {L : Exit → Type 0} {V : Value → Type 0} (must : Bool) (r : Root) (v : Value) → V UnitV → Within L V (Write must r v)
  write_in {L = L} {V = V} must r v h = record { by = λ s t. in_write_root L V h w must r v s t }

  pub resolve_in : {L : Exit → Type 0} {V : Value → Type 0} (a : Text) {next : Text → Act} → ((m : Text) → Within L V (next m)) → Within L V (Resolve a next)
  resolve_in a h = record { by = λ s t. (h (resolved s.scope a)).by s t }

  pub ask_in : {L : Exit → Type 0} {V : Value → Type 0} (c : HostCall) {next : Answer → Act} → ((a : Answer) → Within L V (next a)) → Within L V (AskHost c next)
  ask_in c h = record { by = λ s t. (h (w.host.answer s.calls c)).by (record s { calls = s.calls ++ c ∷ [] }) t }

  pub answered_in : {L : Exit → Type 0} {V : Value → Type 0} → ((v : Value) → L (Throws v)) → {f : Value → Option Value → Act} → ((v : Value) (u : Option Value) → Within L V (f v u)) → (a : Answer) → Within L V (answered f a)
  answered_in th h (Answers v u) = h v u
  answered_in th h (AnswersThrow v) = in_stop (Throws v) (th v)

  pub invoke_in : {L : Exit → Type 0} {V : Value → Type 0} → CallsIn L env → (a : ScriptCall) {next : Value → Option Value → Act} → ((v : Value) (u : Option Value) → Within L V (next v u)) → Within L V (Invoke a next)
  invoke_in {L = L} {V = V} calls a h = record { by = λ s t. in_call L V s (env.invoke a s t) _ (calls a s t) (λ v u s1 t1. (h v u).by s1 t1) }

  -- ---- lists

  pub only_in : {L : Exit → Type 0} {V : Value → Type 0} {a : Act} → Within L V a → WithinAll L V (Only a)
  only_in h = record { by = λ s t. h.by s t }

  each_in : {L : Exit → Type 0} {V V' : Value → Type 0} {f : Value → Acts} → ((v : Value) → V v → WithinAll L V' (f v)) → (e : Ending) → EndingIn L V e → WithinAll L V' (each_value f e)
  each_in h (Gives v) j = h v j
  each_in h (Leaves x) j = only_in (in_stop x j)

  pub line_in : {L : Exit → Type 0} {V V' : Value → Type 0} {a : Act} {f : Value → Acts} → Within L V a → ((v : Value) → V v → WithinAll L V' (f v)) → WithinAll L V' (then_line a f)
  line_in {L = L} {V = V} {V' = V'} {a = a} h k = record { by = λ s t. in_then L V L V' (run w env a s t) _ (h.by s t) (λ e j s1 t1. (each_in {V = V} k e j).by s1 t1) }

  pub named_in : {L : Exit → Type 0} {V : Value → Type 0} (x : Text) (b : EntryKind) (v : Value) {p : Acts} → WithinAll L V p → WithinAll L V (Named x b v p)
  named_in x b v h = record { by = λ s t. h.by (declared x b v s) t }

  pub unit_first : {a : Act} (f : Value → Acts) → Within AnyExit IsUnit a → (s : Store) (t : ℕ) → run_all w env (then_line a f) s t ≡ run_all w env (then_line a (λ v. f UnitV)) s t
  unit_first {a = a} f h s t = unit_result w env f (run w env a s t) (h.by s t)

  -- ---- rounds

  -- what a `break` carries is the value
  end_in : {L L' : Exit → Type 0} {V : Value → Type 0} → ((x : Exit) → L x → L' x) → L' Again → ((v : Value) → L (Breaks v) → V v) → (e : Ending) → EndingIn L AnyValue e → Within L' V (end_round e)
  end_in wider again broken (Gives v) h = in_stop Again again
  end_in wider again broken (Leaves (Breaks v)) h = in_give v (broken v h)
  end_in wider again broken (Leaves Continues) h = in_stop Again again
  end_in wider again broken (Leaves x) h = in_stop x (wider x h)

  pub round_in : {L L' : Exit → Type 0} {V : Value → Type 0} {p : Acts} → ((x : Exit) → L x → L' x) → L' Again → ((v : Value) → L (Breaks v) → V v) → WithinAll L AnyValue p → Within L' V (round p)
  round_in {L = L} wider again broken h = turn_in (then_in {L = L} {V = AnyValue} (scoped_in h) (λ e j. end_in wider again broken e j))
