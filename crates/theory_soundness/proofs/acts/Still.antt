-- Acts that write nothing: the scope after them is as it was.
use Rattle.theory_meaning.specs.Engine.{constant_named}
use Rattle.std.proofs.Common.{◌≡◌, ℕ, zero, suc, List, [], ◌∷◌, ◌++◌, Option, Some, None, refl, ◌∙◌, subst}
use Rattle.rhai_base.specs.Value.{Text, Value}
use Rattle.theory_meaning.specs.Act.{EntryKind, ScopeEntry, HostCall, Answer, World, Store, Ending, Leaves, Again, Ended, Halted, Stuck, Root, OfName, OfThis, Result, At, Act, Stop, Fail, Then, Turn, Read, Resolve, AskHost, Loop, Scoped, Acts, Only, Do, Named, Env, and_then, with_turn, leave, rounds, on_again, read, read_this, read_root, found, resolved, restore, run, run_all, OfGlobal, read_global, declared, inside}
use Rattle.theory_meaning.specs.Relations.{store_of}
use Rattle.theory_meaning.proofs.Relations.{Grows, kept, pushed}
use Rattle.theory_meaning.proofs.Preserves.{keeps_refl, restore_keeps, restore_pushed}

mutual
  pub data Still : Act → Type 0 where
    still_stop : {e : Ending} → Still (Stop e)
    still_fail : {f : Stuck} → Still (Fail f)
    still_then : {a : Act} {next : Ending → Act} → Still a → ((e : Ending) → Still (next e)) → Still (Then a next)
    still_turn : {a : Act} → Still a → Still (Turn a)
    still_read : {r : Root} → Still (Read r)
    still_resolve : {x : Text} {next : Text → Act} → ((m : Text) → Still (next m)) → Still (Resolve x next)
    still_ask : {c : HostCall} {next : Answer → Act} → ((a : Answer) → Still (next a)) → Still (AskHost c next)
    still_loop : {a : Act} → Still a → Still (Loop a)
    still_scoped : {p : Acts} → StillList p → Still (Scoped p)

  pub data StillList : Acts → Type 0 where
    still_only : {a : Act} → Still a → StillList (Only a)
    still_do : {a : Act} {next : Ending → Acts} → Still a → ((e : Ending) → StillList (next e)) → StillList (Do a next)
    still_named : {x : Text} {c : EntryKind} {v : Value} {p : Acts} → StillList p → StillList (Named x c v p)

-- a scope under names that were added
data Above (es : List ScopeEntry) : List ScopeEntry → Type 0 where
  level : Above es es
  above : {e : ScopeEntry} {fs : List ScopeEntry} → Above es fs → Above es (e ∷ fs)

above_grows : {es fs : List ScopeEntry} → Above es fs → Grows es fs
above_grows {es} level = kept (keeps_refl es)
above_grows (above h) = pushed (above_grows h)

restore_above : {es fs : List ScopeEntry} → Above es fs → restore es fs ≡ es
restore_above {es} level = restore_keeps (keeps_refl es)
restore_above {es} (above {e = e} {fs = fs} h) = restore_pushed es fs e (above_grows h) ∙ restore_above h

above_tail : {e : ScopeEntry} {es fs : List ScopeEntry} → Above (e ∷ es) fs → Above es fs
above_tail level = above level
above_tail (above h) = above (above_tail h)

-- the scope of a result is es, or es under names that were added
pub record Same (es : List ScopeEntry) (r : Result) : Type 0 where
  pub is : (store_of r).scope ≡ es

record On (es : List ScopeEntry) (r : Result) : Type 0 where
  pub is : Above es (store_of r).scope

same_then : (es : List ScopeEntry) (r : Result) → Same es r → (next : Ending → Store → ℕ → Result) → ((e : Ending) (s : Store) (t : ℕ) → Same s.scope (next e s t)) → Same es (and_then r next)
same_then es (At (Ended e) s t) p next h = record { is = (h e s t).is ∙ p.is }
same_then es (At (Halted f) s t) p next h = p

on_then : (es : List ScopeEntry) (r : Result) → Same es r → (next : Ending → Store → ℕ → Result) → ((e : Ending) (s : Store) (t : ℕ) → On s.scope (next e s t)) → On es (and_then r next)
on_then es (At (Ended e) s t) p next h = subst (λ fs. On fs (next e s t)) p.is (h e s t)
on_then es (At (Halted f) s t) p next h = record { is = subst (λ fs. Above fs s.scope) p.is level }

same_turn : (t : ℕ) (s : Store) (next : Store → ℕ → Result) → ((t1 : ℕ) → Same s.scope (next s t1)) → Same s.scope (with_turn t s next)
same_turn zero s next h = record { is = refl }
same_turn (suc t) s next h = h t

same_again : (e : Ending) (next : Store → ℕ → Result) (s : Store) (t : ℕ) → Same s.scope (next s t) → Same s.scope (on_again e next s t)
same_again (Leaves Again) next s t h = h
same_again e next s t h = record { is = refl }

same_rounds : (n : ℕ) (r : Store → ℕ → Result) → ((s : Store) (t : ℕ) → Same s.scope (r s t)) → (s : Store) (t : ℕ) → Same s.scope (rounds n r s t)
same_rounds zero r h s t = same_then s.scope (r s t) (h s t) _ (λ e s1 t1. same_again e _ s1 t1 (record { is = refl }))
same_rounds (suc n) r h s t = same_then s.scope (r s t) (h s t) _ (λ e s1 t1. same_again e _ s1 t1 (same_rounds n r h s1 t1))

same_read : (o : Option ScopeEntry) (s : Store) (t : ℕ) → Same s.scope (read o s t)
same_read None s t = record { is = refl }
same_read (Some e) s t = record { is = refl }

same_read_global : (o : Option Value) (s : Store) (t : ℕ) → Same s.scope (read_global o s t)
same_read_global None s t = record { is = refl }
same_read_global (Some v) s t = record { is = refl }

same_read_this : (o : Option Value) (s : Store) (t : ℕ) → Same s.scope (read_this o s t)
same_read_this None s t = record { is = refl }
same_read_this (Some v) s t = record { is = refl }

same_root : (w : World) (r : Root) (s : Store) (t : ℕ) → Same s.scope (read_root w r s t)
same_root w (OfName x) s t = same_read (found w.engine.constants s.scope x) s t
same_root w (OfGlobal x) s t = same_read_global (constant_named s.globals x) s t
same_root w OfThis s t = same_read_this s.this s t

same_leave : (old : Store) (r : Result) → On old.scope r → Same old.scope (leave old r)
same_leave old (At o s t) h = record { is = restore_above h.is }

module _ (w : World) (env : Env) where
  mutual
    pub still : {a : Act} → Still a → (s : Store) (t : ℕ) → Same s.scope (run w env a s t)
    still still_stop s t = record { is = refl }
    still still_fail s t = record { is = refl }
    still (still_then {a = a} h k) s t = same_then s.scope (run w env a s t) (still h s t) _ (λ e s1 t1. still (k e) s1 t1)
    still (still_turn h) s t = same_turn t s _ (λ t1. still h s t1)
    still (still_read {r = r}) s t = same_root w r s t
    still (still_resolve {x = x} h) s t = still (h (resolved s.scope x)) s t
    still (still_ask {c = c} h) s t = record { is = (still (h (w.host.answer s.calls c)) (record s { calls = s.calls ++ c ∷ [] }) t).is }
    still (still_loop {a = a} h) s t = same_rounds env.rounds (run w env a) (λ s1 t1. still h s1 t1) s t
    still (still_scoped {p = p} h) s t = same_leave s (run_all w env p (inside s) t) (still_list h (inside s) t)

    still_list : {p : Acts} → StillList p → (s : Store) (t : ℕ) → On s.scope (run_all w env p s t)
    still_list (still_only {a = a} h) s t = record { is = subst (λ fs. Above fs (store_of (run w env a s t)).scope) (still h s t).is level }
    still_list (still_do {a = a} h k) s t = on_then s.scope (run w env a s t) (still h s t) _ (λ e s1 t1. still_list (k e) s1 t1)
    still_list (still_named {x = x} {c = c} {v = v} h) s t =
        let q = still_list h (declared x c v s) t in record { is = above_tail q.is }
