-- Words that answer at once.
use Rattle.std.proofs.Common.{◌≡◌, ◌-◌, ◌<◌, ◌≤◌, false, List, [], ◌∷◌, map, length, drop, take, get_or, Some, refl, sym, ap, arith}
use Rattle.std.proofs.lemmas.List.{take_all}
use Rattle.rhai_base.specs.declared.dynamic.Dynamic.{Dynamic}
use Rattle.rhai_base.specs.declared.dynamic.Dynamic.TheVariants as kind
use Rattle.rhai_base.specs.Reading.{value_of, value_of-Bool}
use Rattle.rhai_base.specs.Value.{Value, TextV}
use Rattle.theory_meaning.specs.Act.{Act}
use Rattle.theory_meaning.specs.Calls as calls
use Rattle.theory_meaning.specs.Engine.{mapped_type_name}
use Rattle.theory_meaning.specs.Places as places
use Rattle.theory_meaning.specs.Places.{without_place}
use Rattle.run_state.specs.declared.state.Interrupt.{Interrupt}
use Rattle.run_state.specs.declared.state.State.{State}
use Rattle.run_state.specs.Runs.{Setting, Task, Acting, Goes, Stops, given}
use Rattle.run_state.proofs.Goes.{gives, goes_as, goes_then, value_goes, value_stops}
use Rattle.run_state.specs.Words.{method_or, value_or, word_or}

pub only_one : (xs : List Dynamic) (x : Dynamic) → 1 ≤ length xs → length xs < 2 → x ≡ get_or xs 0 x → xs ≡ x ∷ []
only_one [] x h k e = absurd (omega (arith, h))
only_one (y ∷ []) x h k e = ap (λ z. z ∷ []) (sym e)
only_one (y ∷ z ∷ zs) x h k e = absurd (omega (arith, k))

pub first_one : (xs : List Dynamic) (x : Dynamic) → 1 ≤ length xs → x ≡ get_or xs 0 x → xs ≡ x ∷ take (length xs - 1) (drop 1 xs)
first_one [] x h e = absurd (omega (arith, h))
first_one (y ∷ ys) x h e = λ i. sym e i ∷ sym (take_all (length (y ∷ ys) - 1) ys (omega arith)) i

module _ (here : Setting) (s : State) (next : Act) where
  abbrev of_word : calls.Word → List Dynamic → Task
  of_word m vs = Acting (word_or here.world.engine m (map value_of vs) next)

  pub word_with : (m : calls.Word) (args us : List Dynamic) (t : Task) → args ≡ us → Goes here (of_word m us) s t s → Goes here (of_word m args) s t s
  word_with m args us t e q = goes_then here (goes_as here (of_word m args) (of_word m us) s (ap (of_word m) e)) q

  pub shared_word : (args : List Dynamic) → 1 ≤ length args → length args < 2 → Goes here (of_word calls.IsShared args) s (given (value_of (kind.Bool false))) s
  shared_word [] h k = absurd (omega (arith, h))
  shared_word (v ∷ []) h k = gives here _ _ s (sym (value_of-Bool false))
  shared_word (v ∷ u ∷ us) h k = absurd (omega (arith, k))

  pub type_word : (v w : Dynamic) → value_of w ≡ TextV (mapped_type_name here.world.engine (value_of v)) → Goes here (of_word calls.TypeOf (v ∷ [])) s (given (value_of w)) s
  type_word v w is = gives here _ _ s (sym is)

-- ---- for a receiver

no_args : (vs : List Dynamic) → length vs < 1 → vs ≡ []
no_args [] h = refl
no_args (v ∷ vs) h = absurd (omega (arith, h))

module _ (here : Setting) (s : State) (v : Value) (next : places.Current → Act) (o : Act) where
  abbrev answers : calls.Word → List Value → Act
  answers m vs = method_or here.world.engine m v vs next o

  pub shared_method : (vs : List Dynamic) → length vs < 1 → Goes here (Acting (answers calls.IsShared (map value_of vs))) s (value_or next o (Some (kind.Bool false))) s
  shared_method vs h = goes_then here (goes_as here _ _ s (ap (λ us. Acting (answers calls.IsShared (map value_of us))) (no_args vs h))) (goes_as here _ _ s (ap (λ u. Acting (next (without_place u))) (sym (value_of-Bool false))))

  pub type_method : (vs : List Dynamic) → length vs < 1 → (w : Dynamic) → value_of w ≡ TextV (mapped_type_name here.world.engine v) → Goes here (Acting (answers calls.TypeOf (map value_of vs))) s (value_or next o (Some w)) s
  type_method vs h w e = goes_then here (goes_as here _ _ s (ap (λ us. Acting (answers calls.TypeOf (map value_of us))) (no_args vs h))) (goes_as here _ _ s (ap (λ u. Acting (next (without_place u))) (sym e)))

  pub curried_method : (vs : List Value) (w : Dynamic) → Goes here (Acting (calls.curried v vs)) s (given (value_of w)) s → Goes here (Acting (answers calls.Curry vs)) s (value_or next o (Some w)) s
  curried_method vs w q = value_goes here (λ u. next (without_place u)) q

  pub curried_method_stops : (vs : List Value) (x : Interrupt) → Stops here (Acting (calls.curried v vs)) s x s → Stops here (Acting (answers calls.Curry vs)) s x s
  curried_method_stops vs x q = value_stops here _ (λ u. next (without_place u)) s s x q
