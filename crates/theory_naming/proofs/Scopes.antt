-- Scopes, modules and stores that are alike but for names, and what is done with outcomes.
use Rattle.std.proofs.Common.{◌≡◌, ℕ, zero, suc, ◌-◌, Bool, true, false, cond, ◌&&◌, List, [], ◌∷◌, ◌++◌, length, drop, Option, Some, None, refl, subst}
use Rattle.std.specs.Prelude.{if◌then◌else◌}
use Rattle.rhai_base.specs.Value.{Text, Value, same_text}
use Rattle.theory_meaning.specs.Engine.{Binding, constant_named, or_else}
use Rattle.theory_meaning.specs.Act.{EntryKind, is_published, published, declared, inside, ScopeEntry, is_name, is_alias, Store, OutOfTurns, Ending, Outcome, Result, and_then, with_turn, put, module_name, resolved, restore, leave, call_then, returned, returned_outcome, on_again, rounds}
use Rattle.theory_naming.specs.Naming.{OptionOf, both_none, both_some, ListOf, both_empty, both_more, Like, unit_like, bool_like, int_like, float_like, char_like, text_like, array_like, map_like, pointer_like, range_like, inclusive_like, MaybeLike, EntryLike, entry_like, BindingLike, binding_like, StoreLike, returns_like, breaks_like, continues_like, throw_like, again_like, EndingLike, gives_like, leaves_like, OutcomeLike, ended_like, halted_like, ResultLike, at_like}
use Rattle.theory_naming.proofs.Values.{append_like, length_kept}

drop_like : {A : Type 0} {R : A → A → Type 0} (n : ℕ) {xs ys : List A} → ListOf R xs ys → ListOf R (drop n xs) (drop n ys)
drop_like zero h = h
drop_like (suc n) both_empty = both_empty
drop_like (suc n) (both_more h k) = drop_like n k

module _ {N : Text → Text → Type 0} where
  restore_like : {es fs gs hs : List ScopeEntry} → ListOf (EntryLike N) es fs → ListOf (EntryLike N) gs hs → ListOf (EntryLike N) (restore es gs) (restore fs hs)
  restore_like {es = es} {fs = fs} {gs = gs} {hs = hs} h k =
      subst (λ n. ListOf (EntryLike N) (restore es gs) (drop n hs)) (λ i. length_kept k i - length_kept h i) (drop_like (length gs - length es) k)

  module_kept : {v w : Value} → Like N v w → module_name v ≡ module_name w
  module_kept unit_like = refl
  module_kept (bool_like b) = refl
  module_kept (int_like n) = refl
  module_kept (float_like c) = refl
  module_kept (char_like c) = refl
  module_kept (text_like t) = refl
  module_kept (array_like h) = refl
  module_kept (map_like h) = refl
  module_kept (pointer_like n h) = refl
  module_kept (range_like a b) = refl
  module_kept (inclusive_like a b) = refl

  pub resolved_kept : {es fs : List ScopeEntry} → ListOf (EntryLike N) es fs → (a : Text) → resolved es a ≡ resolved fs a
  resolved_kept both_empty a = refl
  resolved_kept (both_more (entry_like x k h) r) a = λ i. cond (is_alias k && same_text x a) (module_kept h i) (resolved_kept r a i)

  pub or_found : (b : Bool) {e f : ScopeEntry} {o p : Option ScopeEntry} → EntryLike N e f → OptionOf (EntryLike N) o p → OptionOf (EntryLike N) (cond b (Some e) o) (cond b (Some f) p)
  or_found true h k = both_some h
  or_found false h k = k

  or_put : (b : Bool) {es fs gs hs : List ScopeEntry} → ListOf (EntryLike N) es fs → ListOf (EntryLike N) gs hs → ListOf (EntryLike N) (cond b es gs) (cond b fs hs)
  or_put true h k = h
  or_put false h k = k

  pub put_like : {es fs : List ScopeEntry} → ListOf (EntryLike N) es fs → (x : Text) {v w : Value} → Like N v w → ListOf (EntryLike N) (put es x v) (put fs x w)
  put_like both_empty x h = both_empty
  put_like (both_more (entry_like y k j) r) x h = or_put (is_name k && same_text y x) (both_more (entry_like y k h) r) (both_more (entry_like y k j) (put_like r x h))

  -- ---- constants that functions see

  or_else_like : {o p o' p' : Option Value} → MaybeLike N o o' → MaybeLike N p p' → MaybeLike N (or_else o p) (or_else o' p')
  or_else_like both_none k = k
  or_else_like (both_some h) k = both_some h

  some_if_like : (b : Bool) {v w : Value} → Like N v w → MaybeLike N (if b then Some v else None) (if b then Some w else None)
  some_if_like true h = both_some h
  some_if_like false h = both_none

  pub bound_like : {bs cs : List Binding} → ListOf (BindingLike N) bs cs → (x : Text) → MaybeLike N (constant_named bs x) (constant_named cs x)
  bound_like both_empty x = both_none
  bound_like (both_more (binding_like y h) r) x = or_else_like (bound_like r x) (some_if_like (same_text y x) h)

  published_like : (b : Bool) (x : Text) {v w : Value} → Like N v w → {bs cs : List Binding} → ListOf (BindingLike N) bs cs → ListOf (BindingLike N) (published b x v bs) (published b x w cs)
  published_like true x h k = append_like k (both_more (binding_like x h) both_empty)
  published_like false x h k = k

  pub declared_like : (x : Text) (k : EntryKind) {v w : Value} → Like N v w → {s s' : Store} → StoreLike N s s' → StoreLike N (declared x k v s) (declared x k w s')
  declared_like x k {v = v} {w = w} h {s = s} {s' = s'} q = record {
    scope = both_more (entry_like x k h) q.scope;
    globals = subst (λ b. ListOf (BindingLike N) (published (s.is_own && is_published k) x v s.globals) (published (b && is_published k) x w s'.globals)) q.own (published_like (s.is_own && is_published k) x h q.globals);
    own = q.own;
    this = q.this;
    calls = q.calls;
  }

  pub inside_like : {s s' : Store} → StoreLike N s s' → StoreLike N (inside s) (inside s')
  inside_like q = record { scope = q.scope; globals = q.globals; own = refl; this = q.this; calls = q.calls }

  -- ---- results

  pub then_like : {r r' : Result} → ResultLike N r r' → (f f' : Ending → Store → ℕ → Result) → ((e e' : Ending) → EndingLike N e e' → (s s' : Store) → StoreLike N s s' → (t : ℕ) → ResultLike N (f e s t) (f' e' s' t)) → ResultLike N (and_then r f) (and_then r' f')
  then_like (at_like t (ended_like h) s) f f' k = k _ _ h _ _ s t
  then_like (at_like t (halted_like x) s) f f' k = at_like t (halted_like x) s

  pub turn_like : (t : ℕ) {s s' : Store} → StoreLike N s s' → (f f' : Store → ℕ → Result) → ((t1 : ℕ) → ResultLike N (f s t1) (f' s' t1)) → ResultLike N (with_turn t s f) (with_turn t s' f')
  turn_like zero h f f' k = at_like zero (halted_like OutOfTurns) h
  turn_like (suc t) h f f' k = k t

  pub leave_like' : {old old' : Store} → StoreLike N old old' → {r r' : Result} → ResultLike N r r' → ResultLike N (leave old r) (leave old' r')
  leave_like' h (at_like t o s) = at_like t o (record { scope = restore_like h.scope s.scope; globals = s.globals; own = h.own; this = s.this; calls = s.calls })

  pub called_like : {s s' : Store} → StoreLike N s s' → {r r' : Result} → ResultLike N r r' → (f f' : Value → Option Value → Store → ℕ → Result) → ((v w : Value) → Like N v w → (o p : Option Value) → MaybeLike N o p → (s1 s2 : Store) → StoreLike N s1 s2 → (t : ℕ) → ResultLike N (f v o s1 t) (f' w p s2 t)) → ResultLike N (call_then s r f) (call_then s' r' f')
  called_like q (at_like t (ended_like (gives_like h)) s) f f' k = k _ _ h _ _ s.this _ _ (record { scope = q.scope; globals = q.globals; own = q.own; this = q.this; calls = s.calls }) t
  called_like q (at_like t (ended_like (leaves_like x)) s) f f' k = at_like t (ended_like (leaves_like x)) (record { scope = q.scope; globals = q.globals; own = q.own; this = q.this; calls = s.calls })
  called_like q (at_like t (halted_like x) s) f f' k = at_like t (halted_like x) (record { scope = q.scope; globals = q.globals; own = q.own; this = q.this; calls = s.calls })

  outcome_kept : {o p : Outcome} → OutcomeLike N o p → OutcomeLike N (returned_outcome o) (returned_outcome p)
  outcome_kept (ended_like (gives_like h)) = ended_like (gives_like h)
  outcome_kept (ended_like (leaves_like (returns_like h))) = ended_like (gives_like h)
  outcome_kept (ended_like (leaves_like (throw_like h))) = ended_like (leaves_like (throw_like h))
  outcome_kept (ended_like (leaves_like (breaks_like h))) = halted_like _
  outcome_kept (ended_like (leaves_like continues_like)) = halted_like _
  outcome_kept (ended_like (leaves_like again_like)) = halted_like _
  outcome_kept (halted_like x) = halted_like x

  pub returned_like : {r r' : Result} → ResultLike N r r' → ResultLike N (returned r) (returned r')
  returned_like (at_like t o s) = at_like t (outcome_kept o) s

  on_again_like : {e e' : Ending} → EndingLike N e e' → (f f' : Store → ℕ → Result) {s s' : Store} → StoreLike N s s' → (t : ℕ) → ResultLike N (f s t) (f' s' t) → ResultLike N (on_again e f s t) (on_again e' f' s' t)
  on_again_like (leaves_like again_like) f f' h t k = k
  on_again_like (gives_like q) f f' h t k = at_like t (ended_like (gives_like q)) h
  on_again_like (leaves_like (returns_like q)) f f' h t k = at_like t (ended_like (leaves_like (returns_like q))) h
  on_again_like (leaves_like (breaks_like q)) f f' h t k = at_like t (ended_like (leaves_like (breaks_like q))) h
  on_again_like (leaves_like continues_like) f f' h t k = at_like t (ended_like (leaves_like continues_like)) h
  on_again_like (leaves_like (throw_like q)) f f' h t k = at_like t (ended_like (leaves_like (throw_like q))) h

  pub rounds_like : (n : ℕ) (f f' : Store → ℕ → Result) → ((s s' : Store) → StoreLike N s s' → (t : ℕ) → ResultLike N (f s t) (f' s' t)) → {s s' : Store} → StoreLike N s s' → (t : ℕ) → ResultLike N (rounds n f s t) (rounds n f' s' t)
  rounds_like zero f f' k h t = then_like (k _ _ h t) _ _ (λ e e' q s s' j t1. on_again_like q _ _ j t1 (at_like t1 (halted_like OutOfTurns) j))
  rounds_like (suc n) f f' k h t = then_like (k _ _ h t) _ _ (λ e e' q s s' j t1. on_again_like q _ _ j t1 (rounds_like n f f' k j t1))
