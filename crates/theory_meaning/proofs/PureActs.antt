-- Acts that change nothing: they take some turns, and then give a value or are stuck.
use Rattle.theory_meaning.specs.Engine.{constant_named}
use Rattle.std.proofs.Common.{◌≡◌, ℕ, zero, suc, ◌+◌, Bool, true, false, cond, List, [], ◌∷◌, Option, Some, None, refl, sym, ap, ◌∙◌, arith}
use Rattle.std.specs.Prelude.{nat_lt, ◌^◌, ℤ, pos, ◌+ℤ◌}
use Rattle.rhai_base.specs.Value.{Text, Value, UnitV, IntV}
use Rattle.theory_meaning.specs.Act.{World, EntryKind, IsVariable, Unbound, OfName, Read, found, read, ScopeEntry, Store, Ending, Gives, Leaves, Again, Stuck, WrongKind, CounterTooLarge, Halt, IsStuck, OutOfTurns, Outcome, Ended, Halted, Result, At, Act, Stop, Fail, Then, Turn, Loop, Scoped, Acts, Only, Do, Named, Env, and_then, with_turn, declared, inside, leave, restore, rounds, on_again, run, OfGlobal, read_global}
use Rattle.theory_meaning.specs.ActForms.{give, ◌>>=◌, choose, truth, branch, if_true, on_throw, end_round, again_then, each_value, then_line}
use Rattle.theory_meaning.specs.Control.{round, counted, for_each, for_count}
use Rattle.theory_meaning.specs.Laws.{Settled, Gave, Stopped, settled, spend}
use Rattle.theory_meaning.specs.Relations.{OnlyAdds}
use Rattle.theory_meaning.proofs.Relations.{kept}
use Rattle.theory_meaning.proofs.Preserves.{keeps_refl, restore_keeps, restore_pushed}
use Rattle.theory_meaning.proofs.Sequencing.{scoped_do, scoped_named}

-- addition that computes on its first number
abbrev pub plus : ℕ → ℕ → ℕ
plus zero m = m
plus (suc n) m = suc (plus n m)

pub plus_is : (n m : ℕ) → plus n m ≡ n + m
plus_is zero m = omega arith
plus_is (suc n) m = omega (arith, plus_is n m)

spend_plus : (n : ℕ) (o : Outcome) (s : Store) (t : ℕ) → spend n o s (plus n t) ≡ At o s t
spend_plus zero o s t = refl
spend_plus (suc n) o s t = spend_plus n o s t

pub spend_enough : (n : ℕ) (o : Outcome) (s : Store) (t : ℕ) → spend n o s (n + t) ≡ At o s t
spend_enough n o s t = ap (spend n o s) (sym (plus_is n t)) ∙ spend_plus n o s t

spend_then : (n m : ℕ) (e : Ending) (o : Outcome) (s : Store) (t : ℕ) (next : Ending → Store → ℕ → Result) → ((t1 : ℕ) → next e s t1 ≡ spend m o s t1) → and_then (spend n (Ended e) s t) next ≡ spend (plus n m) o s t
spend_then zero m e o s t next h = h t
spend_then (suc n) m e o s zero next h = refl
spend_then (suc n) m e o s (suc t) next h = spend_then n m e o s t next h

spend_halted : (n : ℕ) (h : Halt) (s : Store) (t : ℕ) (next : Ending → Store → ℕ → Result) → and_then (spend n (Halted h) s t) next ≡ spend n (Halted h) s t
spend_halted zero h s t next = refl
spend_halted (suc n) h s zero next = refl
spend_halted (suc n) h s (suc t) next = spend_halted n h s t next

spend_leave : (n : ℕ) (o : Outcome) (s : Store) (t : ℕ) → leave s (spend n o (inside s) t) ≡ spend n o s t
spend_leave zero o s t = ap (λ es. At o (record s { scope = es }) t) (restore_keeps (keeps_refl s.scope))
spend_leave (suc n) o s zero = ap (λ es. At (Halted OutOfTurns) (record s { scope = es }) zero) (restore_keeps (keeps_refl s.scope))
spend_leave (suc n) o s (suc t) = spend_leave n o s t

restore_one : (es : List ScopeEntry) (e : ScopeEntry) → restore es (e ∷ es) ≡ es
restore_one es e = restore_pushed es es e (kept (keeps_refl es)) ∙ restore_keeps (keeps_refl es)

spend_named : (n : ℕ) (o : Outcome) (s : Store) (x : Text) (c : EntryKind) (v : Value) (t : ℕ) → leave s (spend n o (declared x c v (inside s)) t) ≡ spend n o s t
spend_named zero o s x c v t = ap (λ es. At o (record s { scope = es }) t) (restore_one s.scope _)
spend_named (suc n) o s x c v zero = ap (λ es. At (Halted OutOfTurns) (record s { scope = es }) zero) (restore_one s.scope _)
spend_named (suc n) o s x c v (suc t) = spend_named n o s x c v t

spend_settled : (n : ℕ) (z : Settled) (s : Store) (t : ℕ) (next : Store → ℕ → Result) → and_then (spend n (settled z) s t) (λ e. on_again e next) ≡ spend n (settled z) s t
spend_settled zero (Gave v) s t next = refl
spend_settled zero (Stopped f) s t next = refl
spend_settled (suc n) z s zero next = refl
spend_settled (suc n) z s (suc t) next = spend_settled n z s t next

module _ (w : World) where
  -- it runs so from every store
  pub record Runs (a : Act) (n : ℕ) (o : Outcome) : Type 0 where
    pub by : (env : Env) → OnlyAdds env → (s : Store) (t : ℕ) → run w env a s t ≡ spend n o s t

  pub record Pure (a : Act) : Type 0 where
    pub cost : ℕ
    pub end : Settled
    pub runs : Runs a cost (settled end)

  pub record PureList (p : Acts) : Type 0 where
    pub scoped : Pure (Scoped p)

  r_stop : (e : Ending) → Runs (Stop e) 0 (Ended e)
  r_stop e = record { by = λ env adds s t. refl }

  r_then : (a : Act) (next : Ending → Act) (n m : ℕ) (e : Ending) (o : Outcome) → Runs a n (Ended e) → Runs (next e) m o → Runs (Then a next) (plus n m) o
  r_then a next n m e o h k = record {
    by = λ env adds s t. ap (λ r. and_then r (λ i. run w env (next i))) (h.by env adds s t) ∙ spend_then n m e o s t _ (λ t1. k.by env adds s t1);
  }

  r_halted : (a : Act) (next : Ending → Act) (n : ℕ) (f : Halt) → Runs a n (Halted f) → Runs (Then a next) n (Halted f)
  r_halted a next n f h = record {
    by = λ env adds s t. ap (λ r. and_then r (λ i. run w env (next i))) (h.by env adds s t) ∙ spend_halted n f s t _;
  }

  turn_by : (a : Act) (n : ℕ) (o : Outcome) → Runs a n o → (env : Env) → OnlyAdds env → (s : Store) (t : ℕ) → with_turn t s (run w env a) ≡ spend (suc n) o s t
  turn_by a n o h env adds s zero = refl
  turn_by a n o h env adds s (suc t) = h.by env adds s t

  r_turn : (a : Act) (n : ℕ) (o : Outcome) → Runs a n o → Runs (Turn a) (suc n) o
  r_turn a n o h = record { by = turn_by a n o h }

  pub p_give : (v : Value) → Pure (give v)
  p_give v = record { cost = 0; end = Gave v; runs = record { by = λ env adds s t. refl } }

  pub p_fail : (f : Stuck) → Pure (Fail f)
  p_fail f = record { cost = 0; end = Stopped f; runs = record { by = λ env adds s t. refl } }

  bind_pure : (a : Act) (f : Value → Act) (n : ℕ) (z : Settled) → Runs a n (settled z) → ((v : Value) → Pure (f v)) → Pure (a >>= f)
  bind_pure a f n (Gave v) h k = let q = k v in record { cost = plus n q.cost; end = q.end; runs = r_then a _ n q.cost (Gives v) (settled q.end) h q.runs }
  bind_pure a f n (Stopped g) h k = record { cost = n; end = Stopped g; runs = r_halted a _ n (IsStuck g) h }

  pub p_bind : (a : Act) (f : Value → Act) → Pure a → ((v : Value) → Pure (f v)) → Pure (a >>= f)
  p_bind a f p k = bind_pure a f p.cost p.end p.runs k

  pub p_choose : (b : Bool) (a c : Act) → Pure a → Pure c → Pure (choose b a c)
  p_choose true a c p q = p
  p_choose false a c p q = q

  pub p_branch : (o : Option Bool) (a c : Act) → Pure a → Pure c → Pure (branch o a c)
  p_branch None a c p q = p_fail WrongKind
  p_branch (Some b) a c p q = p_choose b a c p q

  pub p_if : (v : Value) (a c : Act) → Pure a → Pure c → Pure (if_true v a c)
  p_if v a c p q = p_branch (truth v) a c p q

  rounds_by : (k : ℕ) (a : Act) (p : Pure a) (env : Env) → OnlyAdds env → (s : Store) (t : ℕ) → rounds k (run w env a) s t ≡ spend p.cost (settled p.end) s t
  rounds_by zero a p env adds s t = ap (λ r. and_then r (λ e. on_again e (λ s1 t1. At (Halted OutOfTurns) s1 t1))) (p.runs.by env adds s t) ∙ spend_settled p.cost p.end s t _
  rounds_by (suc k) a p env adds s t = ap (λ r. and_then r (λ e. on_again e (λ s1 t1. rounds k (run w env a) s1 t1))) (p.runs.by env adds s t) ∙ spend_settled p.cost p.end s t _

  -- one round
  pub p_loop : (a : Act) → Pure a → Pure (Loop a)
  p_loop a p = record { cost = p.cost; end = p.end; runs = record { by = λ env adds s t. rounds_by env.rounds a p env adds s t } }

  -- ---- lists

  pub l_only : (a : Act) → Pure a → PureList (Only a)
  l_only a p = record { scoped = record { cost = p.cost; end = p.end; runs = record { by = λ env adds s t. ap (leave s) (p.runs.by env adds (inside s) t) ∙ spend_leave p.cost (settled p.end) s t } } }

  pub l_named : (x : Text) (c : EntryKind) (v : Value) (p : Acts) → PureList p → PureList (Named x c v p)
  l_named x c v p h =
      let q = h.scoped in
      record {
        scoped = record {
          cost = q.cost;
          end = q.end;
          runs = record {
            by = λ env adds s t.
                scoped_named w env adds x c v p s t ∙ ap (leave s) (q.runs.by env adds (declared x c v (inside s)) t) ∙ spend_named q.cost (settled q.end) s x c v t;
          };
        };
      }

  -- before a list that reads no name, a name makes no difference
  pub unnamed : (x : Text) (c : EntryKind) (v : Value) (p : Acts) → PureList p → (env : Env) → OnlyAdds env → (s : Store) (t : ℕ) → run w env (Scoped (Named x c v p)) s t ≡ run w env (Scoped p) s t
  unnamed x c v p h env adds s t =
      let q = h.scoped in
      scoped_named w env adds x c v p s t ∙ ap (leave s) (q.runs.by env adds (declared x c v (inside s)) t) ∙ spend_named q.cost (settled q.end) s x c v t ∙ sym (q.runs.by env adds s t)

  l_do : (a : Act) (next : Ending → Acts) (n m : ℕ) (e : Ending) (z : Settled) → Runs a n (Ended e) → Runs (Scoped (next e)) m (settled z) → PureList (Do a next)
  l_do a next n m e z h k = record {
    scoped = record {
      cost = plus n m;
      end = z;
      runs = record { by = λ env adds s t. scoped_do w env adds a next s t ∙ (r_then a (λ i. Scoped (next i)) n m e (settled z) h k).by env adds s t };
    };
  }

  l_halted : (a : Act) (next : Ending → Acts) (n : ℕ) (f : Stuck) → Runs a n (Halted (IsStuck f)) → PureList (Do a next)
  l_halted a next n f h = record {
    scoped = record {
      cost = n;
      end = Stopped f;
      runs = record { by = λ env adds s t. scoped_do w env adds a next s t ∙ (r_halted a (λ i. Scoped (next i)) n (IsStuck f) h).by env adds s t };
    };
  }

  line_pure : (a : Act) (k : Value → Acts) (n : ℕ) (z : Settled) → Runs a n (settled z) → ((v : Value) → PureList (k v)) → PureList (then_line a k)
  line_pure a k n (Gave v) h l = let q = (l v).scoped in l_do a _ n q.cost (Gives v) q.end h q.runs
  line_pure a k n (Stopped f) h l = l_halted a _ n f h

  pub l_line : (a : Act) (k : Value → Acts) → Pure a → ((v : Value) → PureList (k v)) → PureList (then_line a k)
  l_line a k p l = line_pure a k p.cost p.end p.runs l

  -- ---- acts that change nothing, and end by the store

  pub record PureFrom (a : Act) (s : Store) : Type 0 where
    pub cost : ℕ
    pub end : Settled
    pub by : (env : Env) → OnlyAdds env → (t : ℕ) → run w env a s t ≡ spend cost (settled end) s t

  -- from each store
  pub record Calm (a : Act) : Type 0 where
    pub from : (s : Store) → PureFrom a s

  pub record CalmList (p : Acts) : Type 0 where
    pub scoped : Calm (Scoped p)

  pub calm_of : {a : Act} → Pure a → Calm a
  calm_of p = record { from = λ s. record { cost = p.cost; end = p.end; by = λ env adds t. p.runs.by env adds s t } }

  read_from : (x : Text) (s : Store) (o : Option ScopeEntry) → found w.engine.constants s.scope x ≡ o → PureFrom (Read (OfName x)) s
  read_from x s None q = record { cost = 0; end = Stopped Unbound; by = λ env adds t. ap (λ z. read z s t) q }
  read_from x s (Some e) q = record { cost = 0; end = Gave e.value; by = λ env adds t. ap (λ z. read z s t) q }

  pub calm_read : (x : Text) → Calm (Read (OfName x))
  calm_read x = record { from = λ s. read_from x s _ refl }

  read_global_from : (x : Text) (s : Store) (o : Option Value) → constant_named s.globals x ≡ o → PureFrom (Read (OfGlobal x)) s
  read_global_from x s None q = record { cost = 0; end = Stopped Unbound; by = λ env adds t. ap (λ z. read_global z s t) q }
  read_global_from x s (Some v) q = record { cost = 0; end = Gave v; by = λ env adds t. ap (λ z. read_global z s t) q }

  pub calm_read_global : (x : Text) → Calm (Read (OfGlobal x))
  calm_read_global x = record { from = λ s. read_global_from x s _ refl }

  then_from : (a : Act) (next : Ending → Act) (s : Store) (n : ℕ) (z : Settled) → ((env : Env) → OnlyAdds env → (t : ℕ) → run w env a s t ≡ spend n (settled z) s t) → ((v : Value) → PureFrom (next (Gives v)) s) → PureFrom (Then a next) s
  then_from a next s n (Gave v) h k =
      let q = k v in
      record {
        cost = plus n q.cost;
        end = q.end;
        by = λ env adds t. ap (λ r. and_then r (λ i. run w env (next i))) (h env adds t) ∙ spend_then n q.cost (Gives v) (settled q.end) s t _ (λ t1. q.by env adds t1);
      }
  then_from a next s n (Stopped f) h k = record {
    cost = n;
    end = Stopped f;
    by = λ env adds t. ap (λ r. and_then r (λ i. run w env (next i))) (h env adds t) ∙ spend_halted n (IsStuck f) s t _;
  }

  pub calm_only : {a : Act} → Calm a → CalmList (Only a)
  calm_only {a = a} p = record {
    scoped = record {
      from = λ s.
          let q = p.from (inside s) in
          record { cost = q.cost; end = q.end; by = λ env adds t. ap (leave s) (q.by env adds t) ∙ spend_leave q.cost (settled q.end) s t };
    };
  }

  pub calm_line : (a : Act) (k : Value → Acts) → Calm a → ((v : Value) → CalmList (k v)) → CalmList (then_line a k)
  calm_line a k p h = record {
    scoped = record {
      from = λ s.
          let q = p.from s in
          let r = then_from a (λ e. Scoped (each_value k e)) s q.cost q.end q.by (λ v. (h v).scoped.from s) in
          record { cost = r.cost; end = r.end; by = λ env adds t. scoped_do w env adds a (λ e. each_value k e) s t ∙ r.by env adds t };
    };
  }

  pub calm_named : (x : Text) (k : EntryKind) (v : Value) {p : Acts} → CalmList p → CalmList (Named x k v p)
  calm_named x k v {p = p} h = record {
    scoped = record {
      from = λ s.
          let q = h.scoped.from (declared x k v (inside s)) in
          record {
            cost = q.cost;
            end = q.end;
            by = λ env adds t. scoped_named w env adds x k v p s t ∙ ap (leave s) (q.by env adds t) ∙ spend_named q.cost (settled q.end) s x k v t;
          };
    };
  }

  -- ---- loops

  rounds_pure : (p : Acts) (a : Act) (n : ℕ) (z : Settled) → Runs (Scoped p) n (settled z) → Pure a → Pure (Then (round p) (λ e. again_then a e))
  rounds_pure p a n (Gave v) h k =
      record {
        cost = plus (suc (plus n 0)) k.cost;
        end = k.end;
        runs = r_then (round p) _ _ k.cost (Leaves Again) (settled k.end) (r_turn _ _ _ (r_then (Scoped p) (λ e. end_round e) n 0 (Gives v) (Ended (Leaves Again)) h (r_stop (Leaves Again)))) k.runs;
      }
  rounds_pure p a n (Stopped f) h k =
      record {
        cost = suc n;
        end = Stopped f;
        runs = r_halted (round p) _ _ (IsStuck f) (r_turn _ _ _ (r_halted (Scoped p) (λ e. end_round e) n (IsStuck f) h));
      }

  -- a round, and then
  pub p_round : (p : Acts) (a : Act) → PureList p → Pure a → Pure (Then (round p) (λ e. again_then a e))
  p_round p a h k = rounds_pure p a h.scoped.cost h.scoped.end h.scoped.runs k

  counted_when : (b : Bool) (p q : Acts) → PureList p → PureList q → PureList (cond b p q)
  counted_when true p q h k = h
  counted_when false p q h k = k

  l_counted : (i : Option Text) (k : ℕ) (p : Acts) → PureList p → PureList (counted i k p)
  l_counted None k p h = h
  l_counted (Some i) k p h = counted_when (nat_lt k (2 ^ 63)) _ _ (l_named i IsVariable (IntV (pos k)) p h) (l_only _ (p_fail CounterTooLarge))

  pub p_for_each : (x : Text) (i : Option Text) (body : Acts) → PureList body → (k : ℕ) (vs : List Value) → Pure (for_each x i body k vs)
  p_for_each x i body h k [] = p_give UnitV
  p_for_each x i body h k (v ∷ vs) = p_round _ _ (l_counted i k _ (l_named x IsVariable v body h)) (p_for_each x i body h (suc k) vs)

  pub p_for_count : (x : Text) (i : Option Text) (body : Acts) → PureList body → (k : ℕ) (a : ℤ) (n : ℕ) → Pure (for_count x i body k a n)
  p_for_count x i body h k a zero = p_give UnitV
  p_for_count x i body h k a (suc n) = p_round _ _ (l_counted i k _ (l_named x IsVariable (IntV a) body h)) (p_for_count x i body h (suc k) (a +ℤ pos 1) n)

  -- a block that throws nothing needs no branch
  try_pure : (a : Act) (f : Value → Act) (n : ℕ) (z : Settled) → Runs a n (settled z) → Pure (Then a (λ e. on_throw f e))
  try_pure a f n (Gave v) h = record { cost = plus n 0; end = Gave UnitV; runs = r_then a _ n 0 (Gives v) (Ended (Gives UnitV)) h (r_stop (Gives UnitV)) }
  try_pure a f n (Stopped g) h = record { cost = n; end = Stopped g; runs = r_halted a _ n (IsStuck g) h }

  pub p_try : (a : Act) (f : Value → Act) → Pure a → Pure (Then a (λ e. on_throw f e))
  p_try a f p = try_pure a f p.cost p.end p.runs
