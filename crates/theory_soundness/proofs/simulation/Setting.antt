-- What lemmas on runs share: where a tree stands, the world, and the environments by depth.
use Rattle.std.proofs.Common.{◌≡◌, ℕ, ◌≤◌, Bool, true, List, Option, None, arith}
use Rattle.rhai_base.specs.Value.{Text, Value}
use Rattle.theory_meaning.specs.Act.{Host, Key, Store, World, Result, Act, Acts, Env, run, run_all}
use Rattle.theory_meaning.proofs.Preserves.{OnlyAdds}
use Rattle.theory_meaning.proofs.Relations.{AnyHalt, IsOut}
use Rattle.theory_meaning.proofs.Monotone.{Deeper, follows_weak, monotone, monotone_all}
use Rattle.theory_meaning.proofs.Ends.{Run, Rises}
use Rattle.theory_meaning.specs.Tree.{Stmt}
use Rattle.theory_rewriting.specs.Context.{Context, ListContext, knowing, noting, naming, behind}
use Rattle.theory_rewriting.specs.Known.{Known, Agrees, Holds}
use Rattle.theory_soundness.proofs.acts.Within.{Valueless, CallsIn}
use Rattle.theory_soundness.proofs.simulation.Agreement.{KnowsNoGlobal}

-- A deeper one does what a shallower one does unless that is out of turns, and loops go round as often as it is deep.
-- No call leaves a loop with a value.
pub record Environments : Type 0 where
  pub by_depth : ℕ → Env
  pub deeper : (d d' n : ℕ) → d ≤ d' → Deeper IsOut tt n (by_depth d) (by_depth d')
  pub reaches : (d : ℕ) → d ≤ (by_depth d).rounds
  pub unbroken : (d : ℕ) → CallsIn Valueless (by_depth d)

-- a world with this engine's record, and environments
pub record Setting (k : Context) : Type 0 where
  pub host : Host
  pub functions : List Key
  pub environments : Environments
  -- whether the tree stands in a loop's body
  pub in_loop : Bool

abbrev pub world : {k : Context} → Setting k → World
world {k} c = record { engine = k.engine; host = c.host; functions = c.functions }

abbrev pub environment : {k : Context} → Setting k → ℕ → Env
environment c d = c.environments.by_depth d

-- under one more name: a constant of this value, or one of which nothing is known
abbrev pub noted : {k : Context} (x : Text) (o : Option Value) → Setting k → Setting (noting x o k)
noted x o c = record { host = c.host; functions = c.functions; environments = c.environments; in_loop = c.in_loop }

abbrev pub beneath : {k : Context} (x : Text) → Setting k → Setting (naming x k)
beneath x c = noted x None c

-- behind a statement
abbrev pub past : (k : ListContext) (s : Stmt) → Setting k.context → Setting (behind s k).context
past k s c = record { host = c.host; functions = c.functions; environments = c.environments; in_loop = c.in_loop }

-- where these names alone are known
abbrev pub knowing_fewer : {k : Context} (ks : List Known) → Setting k → Setting (knowing k.engine ks)
knowing_fewer ks c = record { host = c.host; functions = c.functions; environments = c.environments; in_loop = c.in_loop }

-- what is known holds in the store
abbrev pub Agreed : Context → Store → Type 0
Agreed k s = Agrees k.engine.constants k.known s.scope × Holds k.known s.globals

-- and where the script's own list is run, which declares the constants that functions see, of none of them anything is known
abbrev pub Listed : Context → Store → Type 0
Listed k s = Agreed k s × (s.is_own ≡ true → KnowsNoGlobal k.known)

-- where a run may start
pub record Start (k : Context) : Type 0 where
  pub env : Env
  pub store : Store
  pub turns : ℕ
  pub adds : OnlyAdds env
  pub unbroken : CallsIn Valueless env
  pub agrees : Agreed k store

abbrev pub run_from : {k : Context} → Setting k → Start k → Act → Result
run_from c m a = run (world c) m.env a m.store m.turns

abbrev pub run_all_from : {k : Context} → Setting k → Start k → Acts → Result
run_all_from c m p = run_all (world c) m.env p m.store m.turns

-- ---- runs by depth

abbrev pub run_by_depth : {k : Context} → Setting k → Act → Run
run_by_depth c a d = run (world c) (environment c d) a

abbrev pub run_all_by_depth : {k : Context} → Setting k → Acts → Run
run_all_by_depth c p d = run_all (world c) (environment c d) p

pub adds_at : {k : Context} (c : Setting k) (d : ℕ) → OnlyAdds (environment c d)
adds_at c d = (c.environments.deeper d d 0 (omega arith)).adds

abbrev pub steady_at : {k : Context} (c : Setting k) (d : ℕ) → Deeper AnyHalt tt 0 (environment c d) (environment c d)
steady_at c d =
    let h = c.environments.deeper d d 0 (omega arith) in
    record { rounds = h.rounds; invoke = λ a s t t' le. follows_weak (h.invoke a s t t' le); adds = h.adds }

pub rises : {k : Context} (c : Setting k) (a : Act) → Rises (run_by_depth c a)
rises c a d1 d2 n s t t' le lt = monotone IsOut tt n (world c) (environment c d1) (environment c d2) (c.environments.deeper d1 d2 n le) a s t t' lt

pub rises_all : {k : Context} (c : Setting k) (p : Acts) → Rises (run_all_by_depth c p)
rises_all c p d1 d2 n s t t' le lt = monotone_all IsOut tt n (world c) (environment c d1) (environment c d2) (c.environments.deeper d1 d2 n le) p s t t' lt
