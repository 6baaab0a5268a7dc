-- The laws of sequencing: unit, associativity and extensionality, of results, of acts by their value, and of lists; what
-- leaves takes nothing of what follows with it. Braces and the end of a body pass through.
use Rattle.std.proofs.Common.{◌≡◌, ℕ, false, ◌-◌, length, drop, refl, sym, ap, ◌∙◌}
use Rattle.rhai_base.specs.Value.{Text, Value}
use Rattle.theory_meaning.specs.Act.{EntryKind, Store, World, Exit, Ending, Gives, Leaves, Ended, Halted, Result, At, Act, Stop, Then, Scoped, Acts, Only, Do, Named, Finish, Env, and_then, declared, inside, leave, returned, run, run_all}
use Rattle.theory_meaning.specs.ActForms.{give, value_then, ◌>>=◌, each_value, then_line}
use Rattle.theory_meaning.specs.Relations.{store_of}
use Rattle.theory_meaning.proofs.Relations.{Keeps, Grows}
use Rattle.theory_meaning.proofs.Preserves.{OnlyAdds, keeps_refl, length_keeps, preserves, restore_keeps, restore_twice, preserves_all}
use Rattle.theory_meaning.proofs.Monotone.{Action}
use Rattle.theory_meaning.proofs.Anywhere.{ended_within, run_anywhere}
use Rattle.theory_meaning.proofs.Globals.{globals_kept}

-- ---- results, and what comes after by how they end

pub then_unit : (r : Result) → and_then r (λ e s t. At (Ended e) s t) ≡ r
then_unit (At (Ended e) s t) = refl
then_unit (At (Halted h) s t) = refl

pub then_assoc : (r : Result) (f g : Ending → Action) → and_then (and_then r f) g ≡ and_then r (λ e s t. and_then (f e s t) g)
then_assoc (At (Ended e) s t) f g = refl
then_assoc (At (Halted h) s t) f g = refl

pub then_same : (r : Result) (f g : Ending → Action) → ((e : Ending) (s : Store) (t : ℕ) → f e s t ≡ g e s t) → and_then r f ≡ and_then r g
then_same r f g h = λ i. and_then r (λ e s t. h e s t i)

-- where Q holds of the store
pub then_same_at : (Q : Store → Type 0) (r : Result) (f g : Ending → Action) → Q (store_of r) → ((e : Ending) (s : Store) (t : ℕ) → Q s → f e s t ≡ g e s t) → and_then r f ≡ and_then r g
then_same_at Q (At (Ended e) s t) f g q h = h e s t q
then_same_at Q (At (Halted x) s t) f g q h = refl

-- where an act came to: no name is added, in the list that it is run in
pub record Beside (s s' : Store) : Type 0 where
  pub scope : Keeps s.scope s'.scope
  pub own : s'.is_own ≡ s.is_own

-- nothing is taken away where no name was added
pub leave_kept : (old : Store) (r : Result) → Beside old (store_of r) → leave old (ended_within false r) ≡ r
leave_kept old (At o s t) k = λ i. At o (record s { scope = restore_keeps k.scope i; is_own = sym k.own i }) t

pub leave_same : (s : Store) (e : Ending) (t : ℕ) → leave s (At (Ended e) (inside s) t) ≡ At (Ended e) s t
leave_same s e t = leave_kept s (At (Ended e) s t) (record { scope = keeps_refl s.scope; own = refl })

-- by the number of names alone
leave_by : (s s' : Store) → Beside s s' → (r : Result) → leave s r ≡ leave s' r
leave_by s s' k (At o st t) = λ i. At o (record st { scope = drop (length st.scope - length_keeps k.scope i) st.scope; is_own = sym k.own i }) t

-- names that are added later are taken away later
pub leave_then : (old : Store) (r : Result) (next : Ending → Action) → Beside old (store_of r) → leave old (and_then (ended_within false r) next) ≡ and_then r (λ e s t. leave old (next e (inside s) t))
leave_then old (At (Ended e) s t) next k = refl
leave_then old (At (Halted h) s t) next k = leave_kept old (At (Halted h) s t) k

pub returned_then : (r : Result) (next : Ending → Action) → returned (and_then r next) ≡ and_then r (λ e s t. returned (next e s t))
returned_then (At (Ended e) s t) next = refl
returned_then (At (Halted h) s t) next = refl

-- names of a list in a list may be taken away one by one
leave_twice : (old : Store) (x : Text) (c : EntryKind) (v : Value) (r : Result) → Grows (declared x c v old).scope (store_of r).scope → leave old r ≡ leave old (leave (declared x c v (inside old)) r)
leave_twice old x c v (At o s t) g = ap (λ fs. At o (record s { scope = fs; is_own = old.is_own }) t) (restore_twice old.scope s.scope _ g)

-- ---- acts and lists in one world

module _ (w : World) (env : Env) where
  -- the same result from each store
  abbrev pub SameRun : Act → Act → Type 0
  SameRun a b = (s : Store) (t : ℕ) → run w env a s t ≡ run w env b s t

  abbrev pub SameRunAll : Acts → Acts → Type 0
  SameRunAll p q = (s : Store) (t : ℕ) → run_all w env p s t ≡ run_all w env q s t

  value_same : (f g : Value → Act) → ((v : Value) → SameRun (f v) (g v)) → (e : Ending) → SameRun (value_then f e) (value_then g e)
  value_same f g h (Gives v) s t = h v s t
  value_same f g h (Leaves x) s t = refl

  each_same : (k l : Value → Acts) → ((v : Value) → SameRunAll (k v) (l v)) → (e : Ending) → SameRunAll (each_value k e) (each_value l e)
  each_same k l h (Gives v) s t = h v s t
  each_same k l h (Leaves x) s t = refl

  value_unit : (e : Ending) (s : Store) (t : ℕ) → run w env (value_then give e) s t ≡ At (Ended e) s t
  value_unit (Gives v) s t = refl
  value_unit (Leaves x) s t = refl

  value_assoc : (f g : Value → Act) (e : Ending) → SameRun (Then (value_then f e) (λ e1. value_then g e1)) (value_then (λ v. f v >>= g) e)
  value_assoc f g (Gives v) s t = refl
  value_assoc f g (Leaves x) s t = refl

  line_value_assoc : (f : Value → Act) (k : Value → Acts) (e : Ending) → SameRunAll (Do (value_then f e) (λ e1. each_value k e1)) (each_value (λ v. then_line (f v) k) e)
  line_value_assoc f k (Gives v) s t = refl
  line_value_assoc f k (Leaves x) s t = refl

  only_each : (f : Value → Act) (e : Ending) (s : Store) (t : ℕ) → run_all w env (each_value (λ v. Only (f v)) e) s t ≡ run w env (value_then f e) s t
  only_each f (Gives v) s t = refl
  only_each f (Leaves x) s t = refl

  -- one act, and another
  pub bind_same : (a b : Act) (f g : Value → Act) → SameRun a b → ((v : Value) → SameRun (f v) (g v)) → SameRun (a >>= f) (b >>= g)
  bind_same a b f g h k s t =
      ap (λ r. and_then r (λ e. run w env (value_then f e))) (h s t) ∙ then_same (run w env b s t) _ _ (λ e s1 t1. value_same f g k e s1 t1)

  pub bind_unit : (a : Act) → SameRun (a >>= give) a
  bind_unit a s t = then_same (run w env a s t) _ _ value_unit ∙ then_unit (run w env a s t)

  pub bind_assoc : (a : Act) (f g : Value → Act) → SameRun ((a >>= f) >>= g) (a >>= λ v. f v >>= g)
  bind_assoc a f g s t = then_assoc (run w env a s t) _ _ ∙ then_same (run w env a s t) _ _ (λ e s1 t1. value_assoc f g e s1 t1)

  -- an act, and a list
  pub line_same : (a b : Act) (k l : Value → Acts) → SameRun a b → ((v : Value) → SameRunAll (k v) (l v)) → SameRunAll (then_line a k) (then_line b l)
  line_same a b k l h m s t =
      ap (λ r. and_then r (λ e. run_all w env (each_value k e))) (h s t) ∙ then_same (run w env b s t) _ _ (λ e s1 t1. each_same k l m e s1 t1)

  pub line_only : (a : Act) (f : Value → Act) → SameRunAll (then_line a (λ v. Only (f v))) (Only (a >>= f))
  line_only a f s t = then_same (run w env a s t) _ _ (only_each f)

  pub line_unit : (a : Act) → SameRunAll (then_line a (λ v. Only (give v))) (Only a)
  line_unit a s t = line_only a give s t ∙ bind_unit a s t

  pub line_assoc : (a : Act) (f : Value → Act) (k : Value → Acts) → SameRunAll (then_line (a >>= f) k) (then_line a (λ v. then_line (f v) k))
  line_assoc a f k s t = then_assoc (run w env a s t) _ _ ∙ then_same (run w env a s t) _ _ (λ e s1 t1. line_value_assoc f k e s1 t1)

  pub line_leaves : (a : Act) (x : Value → Exit) (k : Value → Acts) → SameRunAll (then_line (a >>= λ v. Stop (Leaves (x v))) k) (Only (a >>= λ v. Stop (Leaves (x v))))
  line_leaves a x k s t =
      line_assoc a (λ v. Stop (Leaves (x v))) k s t ∙ line_same a a _ (λ v. Only (Stop (Leaves (x v)))) (λ s1 t1. refl) (λ v s1 t1. refl) s t ∙ line_only a (λ v. Stop (Leaves (x v))) s t

  -- braces, where calls alone are added: a single act needs none, and an act may stand before them
  module _ (adds : OnlyAdds env) where
    beside : (a : Act) (s : Store) (t : ℕ) → Beside s (store_of (run w env a s t))
    beside a s t = record { scope = (preserves w env adds a s t).scope; own = (globals_kept w env a s t).own }

    pub scoped_only : (a : Act) → SameRun (Scoped (Only a)) a
    scoped_only a s t = ap (leave s) (run_anywhere false w env adds a s t) ∙ leave_kept s (run w env a s t) (beside a s t)

    pub scoped_do : (a : Act) (next : Ending → Acts) → SameRun (Scoped (Do a next)) (Then a (λ e. Scoped (next e)))
    scoped_do a next s t =
        let k = beside a s t in
        ap (λ r. leave s (and_then r (λ e. run_all w env (next e)))) (run_anywhere false w env adds a s t)
        ∙ leave_then s (run w env a s t) _ k ∙ then_same_at (Beside s) (run w env a s t) _ _ k (λ e s1 t1 q. leave_by s s1 q (run_all w env (next e) (inside s1) t1))

    -- a name may be taken away by itself
    pub scoped_named : (x : Text) (c : EntryKind) (v : Value) (p : Acts) → SameRun (Scoped (Named x c v p)) (Scoped (Named x c v (Only (Scoped p))))
    scoped_named x c v p s t =
        let s1 = declared x c v (inside s) in
        leave_twice s x c v (run_all w env p s1 t) (preserves_all w env adds p s1 t).scope

  -- the end of a body: an act may stand before it
  pub finish_do : (a : Act) (next : Ending → Acts) → SameRunAll (Finish (Do a next)) (Do a (λ e. Finish (next e)))
  finish_do a next s t = returned_then (run w env a s t) _
