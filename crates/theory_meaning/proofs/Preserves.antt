-- What holds of a single act: calls are only added, and the names of the scope and its constants stay.
use Rattle.std.proofs.Common.{◌≡◌, ℕ, zero, suc, ◌-◌, ◌≤◌, Bool, true, false, cond, List, [], ◌∷◌, ◌++◌, length, drop, Option, Some, None, refl, sym, ap, ◌∙◌, subst, arith}
use Rattle.rhai_base.specs.Value.{Text, Value}
use Rattle.theory_meaning.specs.Engine.{Binding, constant_named}
use Rattle.theory_meaning.specs.Act.{ScopeEntry, is_constant, is_called, HostCall, Store, World, Again, Ending, Gives, Leaves, Ended, Halted, Result, At, Root, OfName, OfGlobal, OfThis, Act, Stop, Fail, Then, Turn, Read, Write, Resolve, AskHost, Invoke, Loop, Scoped, Acts, Only, Do, Named, Finish, Env, and_then, with_turn, found, put, read, read_global, read_this, read_root, write_at, write, write_global, write_this, write_root, resolved, declared, inside, restore, leave, call_then, returned, on_again, rounds, run, run_all}
use Rattle.theory_meaning.specs.Relations.{Begins, here, more, calls_of, store_of}
pub use Rattle.theory_meaning.specs.Relations.{OnlyAdds}
use Rattle.theory_meaning.proofs.Relations.{Keeps, none, one, changed, Grows, kept, pushed}

pub begins_trans : {bs cs ds : List HostCall} → Begins bs cs → Begins cs ds → Begins bs ds
begins_trans here q = q
begins_trans (more c p) q = more c (begins_trans p q)

pub keeps_refl : (es : List ScopeEntry) → Keeps es es
keeps_refl [] = none
keeps_refl (e ∷ es) = one (keeps_refl es)

keeps_trans : {as' bs cs : List ScopeEntry} → Keeps as' bs → Keeps bs cs → Keeps as' cs
keeps_trans none q = q
keeps_trans (one p) (one q) = one (keeps_trans p q)
keeps_trans (one p) (changed c q) = changed c (keeps_trans p q)
keeps_trans (changed c p) (one q) = changed c (keeps_trans p q)
keeps_trans (changed c p) (changed c' q) = changed c (keeps_trans p q)

grows_after : {as' bs cs : List ScopeEntry} → Keeps as' bs → Grows bs cs → Grows as' cs
grows_after p (kept q) = kept (keeps_trans p q)
grows_after p (pushed q) = pushed (grows_after p q)

-- a later store: no call is gone, and the scope is as R says
pub record After (R : List ScopeEntry → List ScopeEntry → Type 0) (s s' : Store) : Type 0 where
  pub calls : Begins s.calls s'.calls
  pub scope : R s.scope s'.scope

-- what an act keeps, a list of acts keeps too
pub record Weaker (R : List ScopeEntry → List ScopeEntry → Type 0) : Type 0 where
  pub from : (es fs : List ScopeEntry) → Keeps es fs → R es fs
  pub along : (es fs gs : List ScopeEntry) → Keeps es fs → R fs gs → R es gs

pub keeps_weaker : Weaker Keeps
keeps_weaker = record { from = λ es fs p. p; along = λ es fs gs p q. keeps_trans p q }

grows_weaker : Weaker Grows
grows_weaker = record { from = λ es fs p. kept p; along = λ es fs gs p q. grows_after p q }

pub preserves_then : (R : List ScopeEntry → List ScopeEntry → Type 0) → Weaker R → (st : Store) (r : Result) → After Keeps st (store_of r) → (next : Ending → Store → ℕ → Result) → ((e : Ending) (s : Store) (t : ℕ) → After R s (store_of (next e s t))) → After R st (store_of (and_then r next))
preserves_then R w st (At (Ended e) s t) p next h = let q = h e s t in record { calls = begins_trans p.calls q.calls; scope = w.along _ _ _ p.scope q.scope }
preserves_then R w st (At (Halted f) s t) p next h = record { calls = p.calls; scope = w.from _ _ p.scope }

pub after_same : (s : Store) → After Keeps s s
after_same s = record { calls = here; scope = keeps_refl s.scope }

preserves_turn : (t : ℕ) (s : Store) (next : Store → ℕ → Result) → ((t1 : ℕ) → After Keeps s (store_of (next s t1))) → After Keeps s (store_of (with_turn t s next))
preserves_turn zero s next h = after_same s
preserves_turn (suc t) s next h = h t

pub preserves_on_again : (e : Ending) (next : Store → ℕ → Result) (s : Store) (t : ℕ) → After Keeps s (store_of (next s t)) → After Keeps s (store_of (on_again e next s t))
preserves_on_again (Leaves Again) next s t h = h
preserves_on_again e next s t h = after_same s

preserves_returned : (s : Store) (r : Result) → After Grows s (store_of r) → After Grows s (store_of (returned r))
preserves_returned s (At o s1 t) h = h

pub preserves_rounds : (n : ℕ) (r : Store → ℕ → Result) → ((s : Store) (t : ℕ) → After Keeps s (store_of (r s t))) → (s : Store) (t : ℕ) → After Keeps s (store_of (rounds n r s t))
preserves_rounds zero r hr s t =
    preserves_then Keeps keeps_weaker s (r s t) (hr s t) _ (λ e s1 t1. preserves_on_again e _ s1 t1 (after_same s1))
preserves_rounds (suc n) r hr s t =
    preserves_then Keeps keeps_weaker s (r s t) (hr s t) _ (λ e s1 t1. preserves_on_again e _ s1 t1 (preserves_rounds n r hr s1 t1))

-- what was pushed is taken away
pub length_keeps : {es fs : List ScopeEntry} → Keeps es fs → length es ≡ length fs
length_keeps none = refl
length_keeps (one p) = ap suc (length_keeps p)
length_keeps (changed c p) = ap suc (length_keeps p)

length_grows : {es fs : List ScopeEntry} → Grows es fs → length es ≤ length fs
length_grows (kept p) = omega (arith, length_keeps p)
length_grows (pushed p) = omega (arith, length_grows p)

pub restore_keeps : {es fs : List ScopeEntry} → Keeps es fs → restore es fs ≡ fs
restore_keeps {es} {fs} p =
    let e : length fs - length es ≡ 0 = omega (arith, length_keeps p) in ap (λ n. drop n fs) e

restore_grows : {es fs : List ScopeEntry} → Grows es fs → Keeps es (restore es fs)
restore_grows {es} (kept p) = subst (Keeps es) (sym (restore_keeps p)) p
restore_grows {es} {fs} (pushed {e = x} {fs = gs} p) =
    let e : length (x ∷ gs) - length es ≡ suc (length gs - length es) = omega (arith, length_grows p) in
    subst (Keeps es) (sym (ap (λ n. drop n (x ∷ gs)) e)) (restore_grows p)

grows_tail : {x : ScopeEntry} {es fs : List ScopeEntry} → Grows (x ∷ es) fs → Grows es fs
grows_tail (kept (one p)) = pushed (kept p)
grows_tail (kept (changed c p)) = pushed (kept p)
grows_tail (pushed p) = pushed (grows_tail p)

pub restore_pushed : (es fs : List ScopeEntry) (y : ScopeEntry) → Grows es fs → restore es (y ∷ fs) ≡ restore es fs
restore_pushed es fs y p =
    let e : length (y ∷ fs) - length es ≡ suc (length fs - length es) = omega (arith, length_grows p) in
    ap (λ n. drop n (y ∷ fs)) e

-- names may be taken away one by one
pub restore_twice : (es fs : List ScopeEntry) (x : ScopeEntry) → Grows (x ∷ es) fs → restore es fs ≡ restore es (restore (x ∷ es) fs)
restore_twice es fs x (kept p) = ap (restore es) (sym (restore_keeps p))
restore_twice es fs x (pushed {e = y} {fs = gs} p) =
    restore_pushed es gs y (grows_tail p) ∙ restore_twice es gs x p ∙ ap (restore es) (sym (restore_pushed (x ∷ es) gs y p))

stays : Option ScopeEntry → Bool
stays None = true
stays (Some e) = is_constant e.kind

put_one : (b : Bool) (o : Option ScopeEntry) (d e : ScopeEntry) (es : List ScopeEntry) (x : Text) (v : Value) → cond b (Some d) o ≡ Some e → is_constant e.kind ≡ false → (o ≡ Some e → Keeps es (put es x v)) → Keeps (d ∷ es) (cond b (record d { value = v } ∷ es) (d ∷ put es x v))
unfolding stays
put_one true o d e es x v f c h = changed (ap stays f ∙ c) (keeps_refl es)
put_one false o d e es x v f c h = one (h f)

put_keeps : (bs : List Binding) (es : List ScopeEntry) (x : Text) (v : Value) (e : ScopeEntry) → found bs es x ≡ Some e → is_constant e.kind ≡ false → Keeps es (put es x v)
put_keeps bs [] x v e f c = none
put_keeps bs (d ∷ es) x v e f c = put_one (is_called d x) (found bs es x) d e es x v f c (λ g. put_keeps bs es x v e g c)

preserves_read : (o : Option ScopeEntry) (s : Store) (t : ℕ) → After Keeps s (store_of (read o s t))
preserves_read None s t = after_same s
preserves_read (Some e) s t = after_same s

preserves_read_global : (o : Option Value) (s : Store) (t : ℕ) → After Keeps s (store_of (read_global o s t))
preserves_read_global None s t = after_same s
preserves_read_global (Some v) s t = after_same s

preserves_read_this : (o : Option Value) (s : Store) (t : ℕ) → After Keeps s (store_of (read_this o s t))
preserves_read_this None s t = after_same s
preserves_read_this (Some v) s t = after_same s

preserves_write_at : (bs : List Binding) (must b : Bool) (e : ScopeEntry) (x : Text) (v : Value) (s : Store) (t : ℕ) → is_constant e.kind ≡ b → found bs s.scope x ≡ Some e → After Keeps s (store_of (write_at must b x v s t))
preserves_write_at bs true true e x v s t c f = after_same s
preserves_write_at bs false true e x v s t c f = after_same s
preserves_write_at bs must false e x v s t c f = record { calls = here; scope = put_keeps bs s.scope x v e f c }

preserves_write : (bs : List Binding) (must : Bool) (o : Option ScopeEntry) (x : Text) (v : Value) (s : Store) (t : ℕ) → found bs s.scope x ≡ o → After Keeps s (store_of (write must o x v s t))
preserves_write bs must None x v s t f = after_same s
preserves_write bs must (Some e) x v s t f = preserves_write_at bs must (is_constant e.kind) e x v s t refl f

preserves_write_global : (must : Bool) (o : Option Value) (s : Store) (t : ℕ) → After Keeps s (store_of (write_global must o s t))
preserves_write_global must None s t = after_same s
preserves_write_global true (Some v) s t = after_same s
preserves_write_global false (Some v) s t = after_same s

preserves_write_this : (o : Option Value) (v : Value) (s : Store) (t : ℕ) → After Keeps s (store_of (write_this o v s t))
preserves_write_this None v s t = after_same s
preserves_write_this (Some u) v s t = record { calls = here; scope = keeps_refl s.scope }

preserves_read_root : (w : World) (r : Root) (s : Store) (t : ℕ) → After Keeps s (store_of (read_root w r s t))
preserves_read_root w (OfName x) s t = preserves_read (found w.engine.constants s.scope x) s t
preserves_read_root w (OfGlobal x) s t = preserves_read_global (constant_named s.globals x) s t
preserves_read_root w OfThis s t = preserves_read_this s.this s t

preserves_write_root : (w : World) (must : Bool) (r : Root) (v : Value) (s : Store) (t : ℕ) → After Keeps s (store_of (write_root w must r v s t))
preserves_write_root w must (OfName x) v s t = preserves_write w.engine.constants must (found w.engine.constants s.scope x) x v s t refl
preserves_write_root w must (OfGlobal x) v s t = preserves_write_global must (constant_named s.globals x) s t
preserves_write_root w must OfThis v s t = preserves_write_this s.this v s t

preserves_leave : (s : Store) (r : Result) → After Grows (inside s) (store_of r) → After Keeps s (store_of (leave s r))
preserves_leave s (At o s1 t1) p = record { calls = p.calls; scope = restore_grows p.scope }

preserves_call : (s : Store) (r : Result) → Begins s.calls (calls_of r) → (next : Value → Option Value → Store → ℕ → Result) → ((v : Value) (u : Option Value) (s1 : Store) (t1 : ℕ) → After Keeps s1 (store_of (next v u s1 t1))) → After Keeps s (store_of (call_then s r next))
preserves_call s (At (Ended (Gives v)) s1 t1) p next h = let q = h v s1.this (record s { calls = s1.calls }) t1 in record { calls = begins_trans p q.calls; scope = q.scope }
preserves_call s (At o s1 t1) p next h = record { calls = p; scope = keeps_refl s.scope }

module _ (w : World) (env : Env) (adds : OnlyAdds env) where
  mutual
    pub preserves : (a : Act) (s : Store) (t : ℕ) → After Keeps s (store_of (run w env a s t))
    preserves (Stop e) s t = after_same s
    preserves (Fail h) s t = after_same s
    preserves (Then a next) s t = preserves_then Keeps keeps_weaker s (run w env a s t) (preserves a s t) _ (λ e s1 t1. preserves (next e) s1 t1)
    preserves (Turn a) s t = preserves_turn t s _ (λ t1. preserves a s t1)
    preserves (Read r) s t = preserves_read_root w r s t
    preserves (Write must r v) s t = preserves_write_root w must r v s t
    preserves (Resolve a next) s t = preserves (next (resolved s.scope a)) s t
    preserves (AskHost c next) s t =
        let q = preserves (next (w.host.answer s.calls c)) (record s { calls = s.calls ++ c ∷ [] }) t in
        record { calls = more c q.calls; scope = q.scope }
    preserves (Invoke a next) s t = preserves_call s (env.invoke a s t) (adds.calls a s t) _ (λ v u s1 t1. preserves (next v u) s1 t1)
    preserves (Loop a) s t = preserves_rounds env.rounds _ (λ s1 t1. preserves a s1 t1) s t
    preserves (Scoped p) s t = preserves_leave s (run_all w env p (inside s) t) (preserves_all p (inside s) t)

    pub preserves_all : (p : Acts) (s : Store) (t : ℕ) → After Grows s (store_of (run_all w env p s t))
    preserves_all (Only a) s t = let q = preserves a s t in record { calls = q.calls; scope = kept q.scope }
    preserves_all (Do a next) s t = preserves_then Grows grows_weaker s (run w env a s t) (preserves a s t) _ (λ e s1 t1. preserves_all (next e) s1 t1)
    preserves_all (Finish p) s t = preserves_returned s (run_all w env p s t) (preserves_all p s t)
    preserves_all (Named x k v p) s t =
        let q = preserves_all p (declared x k v s) t in
        record { calls = q.calls; scope = grows_tail q.scope }
