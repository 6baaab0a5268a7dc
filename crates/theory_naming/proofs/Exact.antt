-- Where each name stands for itself alone, what is the same is equal: tables of functions that are the same by key, and a
-- function that no name stands for.
use Rattle.std.proofs.Common.{◌≡◌, List, ◌∷◌, Option, Some, refl, ap}
use Rattle.rhai_base.specs.Value.{Text, Value, ArrayV, MapV, PointerV, Values, item, Fields, field}
use Rattle.theory_meaning.specs.Engine.{Binding}
use Rattle.theory_meaning.specs.Act.{ScopeEntry, HostCall, Store, Exit, Returns, Breaks, Throws, Ending, Gives, Leaves, Outcome, Ended, Result, At}
use Rattle.theory_naming.specs.Naming.{OptionOf, both_none, both_some, ListOf, both_empty, both_more, Like, unit_like, bool_like, int_like, float_like, char_like, text_like, array_like, map_like, pointer_like, range_like, inclusive_like, LikeAll, none_like, item_like, LikeFields, no_fields_like, field_like, EntryLike, entry_like, HostName, as_it_is, as_a_function, CallLike, call_like, BindingLike, binding_like, StoreLike, ExitLike, returns_like, breaks_like, continues_like, throw_like, again_like, EndingLike, gives_like, leaves_like, OutcomeLike, ended_like, halted_like, ResultLike, at_like}

pub list_equal : {A : Type 0} {R : A → A → Type 0} → ((a b : A) → R a b → a ≡ b) → (xs ys : List A) → ListOf R xs ys → xs ≡ ys
list_equal q _ _ both_empty = refl
list_equal q _ _ (both_more h k) = λ i. q _ _ h i ∷ list_equal q _ _ k i

pub option_equal : {A : Type 0} {R : A → A → Type 0} → ((a b : A) → R a b → a ≡ b) → (o p : Option A) → OptionOf R o p → o ≡ p
option_equal q _ _ both_none = refl
option_equal q _ _ (both_some h) = ap Some (q _ _ h)

module _ (N : Text → Text → Type 0) (equal : (f g : Text) → N f g → f ≡ g) where
  mutual
    pub value_equal : (v w : Value) → Like N v w → v ≡ w
    value_equal _ _ unit_like = refl
    value_equal _ _ (bool_like b) = refl
    value_equal _ _ (int_like n) = refl
    value_equal _ _ (float_like c) = refl
    value_equal _ _ (char_like c) = refl
    value_equal _ _ (text_like t) = refl
    value_equal _ _ (array_like {vs = vs} {ws = ws} h) = ap ArrayV (all_equal vs ws h)
    value_equal _ _ (map_like {fs = fs} {gs = gs} h) = ap MapV (fields_equal fs gs h)
    value_equal _ _ (pointer_like {f = f} {g = g} {vs = vs} {ws = ws} n h) = λ i. PointerV (equal f g n i) (all_equal vs ws h i)
    value_equal _ _ (range_like a b) = refl
    value_equal _ _ (inclusive_like a b) = refl

    all_equal : (vs ws : Values) → LikeAll N vs ws → vs ≡ ws
    all_equal _ _ none_like = refl
    all_equal _ _ (item_like {v = v} {w = w} {vs = vs} {ws = ws} h k) = λ i. item (value_equal v w h i) (all_equal vs ws k i)

    fields_equal : (fs gs : Fields) → LikeFields N fs gs → fs ≡ gs
    fields_equal _ _ no_fields_like = refl
    fields_equal _ _ (field_like k {v = v} {w = w} {fs = fs} {gs = gs} h r) = λ i. field k (value_equal v w h i) (fields_equal fs gs r i)

  entry_equal : (e f : ScopeEntry) → EntryLike N e f → e ≡ f
  entry_equal _ _ (entry_like x k {v = v} {w = w} h) = λ i. record { name = x; kind = k; value = value_equal v w h i }

  binding_equal : (b c : Binding) → BindingLike N b c → b ≡ c
  binding_equal _ _ (binding_like x {v = v} {w = w} h) = λ i. record { name = x; value = value_equal v w h i }

  host_name_equal : (f g : Text) → HostName N f g → f ≡ g
  host_name_equal _ _ (as_it_is f) = refl
  host_name_equal _ _ (as_a_function {f = f} {g = g} n) = equal f g n

  pub call_equal : (c d : HostCall) → CallLike N c d → c ≡ d
  call_equal _ _ (call_like {f = f} {g = g} {o = o} {p = p} {vs = vs} {ws = ws} n h k) =
      λ i. record { name = host_name_equal f g n i; receiver = option_equal value_equal o p h i; arguments = list_equal value_equal vs ws k i }

  store_equal : (s s' : Store) → StoreLike N s s' → s ≡ s'
  store_equal s s' h = λ i. record { scope = list_equal entry_equal s.scope s'.scope h.scope i; globals = list_equal binding_equal s.globals s'.globals h.globals i; is_own = h.own i; this = option_equal value_equal s.this s'.this h.this i; calls = list_equal call_equal s.calls s'.calls h.calls i }

  exit_equal : (x y : Exit) → ExitLike N x y → x ≡ y
  exit_equal _ _ (returns_like {v = v} {w = w} h) = ap Returns (value_equal v w h)
  exit_equal _ _ (breaks_like {v = v} {w = w} h) = ap Breaks (value_equal v w h)
  exit_equal _ _ continues_like = refl
  exit_equal _ _ (throw_like {v = v} {w = w} h) = ap Throws (value_equal v w h)
  exit_equal _ _ again_like = refl

  ending_equal : (e e' : Ending) → EndingLike N e e' → e ≡ e'
  ending_equal _ _ (gives_like {v = v} {w = w} h) = ap Gives (value_equal v w h)
  ending_equal _ _ (leaves_like {x = x} {y = y} h) = ap Leaves (exit_equal x y h)

  outcome_equal : (o p : Outcome) → OutcomeLike N o p → o ≡ p
  outcome_equal _ _ (ended_like {e = e} {e' = e'} h) = ap Ended (ending_equal e e' h)
  outcome_equal _ _ (halted_like x) = refl

  -- Then the runs of `names_do_not_matter` are equal.
  pub result_equal : (r r' : Result) → ResultLike N r r' → r ≡ r'
  result_equal _ _ (at_like {o = o} {p = p} {s = s} {s' = s'} t h k) = λ i. At (outcome_equal o p h i) (store_equal s s' k i) t
