-- Acts after which there are the same names.
use Rattle.std.proofs.Common.{ℕ, Bool, true, false, List, [], ◌∷◌, Option, Some, None, refl}
use Rattle.std.specs.Prelude.{codes}
use Rattle.rhai_base.specs.Value.{Text, Value, IntV, TextV, ArrayV, MapV}
use Rattle.rhai_base.specs.Operators.{Operator, Computed, NoEntry, Is, Overflows, symbol}
use Rattle.theory_meaning.specs.Act as act
use Rattle.theory_meaning.specs.Act.{Act, AskHost, At, Ended, Gives, Halted, Leaves, Store, HostCall, run, and_then}
use Rattle.theory_meaning.specs.ActForms.{answered, ask_host, choose, give, throw, value_then, ◌>>=◌}
use Rattle.theory_meaning.specs.Calls.{assigned, of_table}
use Rattle.theory_meaning.specs.Chains.{ask_for, index, or_throw, property}
use Rattle.theory_meaning.specs.Engine.{asks_assigning, assigning, built_in}
use Rattle.theory_meaning.specs.Places.{Current, without_place}
use Rattle.theory_meaning.specs.Tree.{PropertyNames}
use Rattle.run_state.specs.declared.state.State.{State}
use Rattle.run_state.specs.Runs.{Setting, Acting, Over, Goes, env}
use Rattle.run_state.specs.State.{store_of}
use Rattle.run_steps.proofs.Chaining.{KeepsNames, Names, kept_by}

module _ (here : Setting) where
  abbrev pub Quiet : Act → Type 0
  Quiet a = (d : ℕ) (old st : Store) (t : ℕ) → KeepsNames old st → Names (run here.world (env here d) a st t) old

  pub quiet_stays : (a : Act) (s s' : State) (o : act.Outcome) → Quiet a → Goes here (Acting a) s (Over o) s' → KeepsNames (store_of s) (store_of s')
  quiet_stays a s s' o k q = kept_by here a s s' o (λ d. k d (store_of s) (store_of s) s.turns (refl, refl, refl)) q

  pub quiet_give : (v : Value) → Quiet (give v)
  quiet_give v d old st t k = k

  pub quiet_throw : (x : Text) → Quiet (throw x)
  quiet_throw x d old st t k = k

  quiet_answer : (a : act.Answer) (next : Value → Option Value → Act) → ((v : Value) (u : Option Value) → Quiet (next v u)) → Quiet (answered next a)
  quiet_answer (act.Answers v u) next q d old st t k = q v u d old st t k
  quiet_answer (act.AnswersThrow v) next q d old st t k = k

  pub quiet_host : (c : HostCall) (next : Value → Option Value → Act) → ((v : Value) (u : Option Value) → Quiet (next v u)) → Quiet (AskHost c (λ a. answered next a))
  quiet_host c next q d old st t k = quiet_answer (here.world.host.answer st.calls c) next q d old _ t k

  quiet_bound : (d : ℕ) (r : act.Result) (old : Store) (next : Value → Act) → ((v : Value) → Quiet (next v)) → Names r old → Names (and_then r (λ e. run here.world (env here d) (value_then next e))) old
  quiet_bound d (At (Ended (Gives v)) st t) old next q k = q v d old st t k
  quiet_bound d (At (Ended (Leaves x)) st t) old next q k = k
  quiet_bound d (At (Halted h) st t) old next q k = k

  pub quiet_then : (a : Act) (next : Value → Act) → Quiet a → ((v : Value) → Quiet (next v)) → Quiet (a >>= next)
  quiet_then a next p q d old st t k = quiet_bound d (run here.world (env here d) a st t) old next q (p d old st t k)

  -- ---- operators

  quiet_asked : (f : Text) (vs : List Value) → Quiet (ask_host f vs)
  quiet_asked f vs = quiet_host _ (λ v u. give v) (λ v u. quiet_give v)

  quiet_table : (f : Text) (vs : List Value) (c : Computed) → Quiet (of_table f vs c)
  quiet_table f vs NoEntry = quiet_asked f vs
  quiet_table f vs (Is v) = quiet_give v
  quiet_table f vs Overflows = quiet_throw (codes "arithmetic")

  quiet_choice : (b : Bool) (x y : Act) → Quiet x → Quiet y → Quiet (choose b x y)
  quiet_choice true x y p q = p
  quiet_choice false x y p q = q

  pub quiet_assigned : (o : Operator) (old new : Value) → Quiet (assigned here.world (Some o) old new)
  quiet_assigned o old new = quiet_choice (asks_assigning here.world.engine o (old ∷ new ∷ [])) _ _ (quiet_asked (assigning o) (old ∷ new ∷ [])) (quiet_table (symbol o) (old ∷ new ∷ []) (built_in here.world.engine o (old ∷ new ∷ [])))

  -- ---- reading a part

  module _ (next : Current → Act) (q : (c : Current) → Quiet (next c)) where
    quiet_ask_for : (f : Text) (v : Value) (vs : List Value) → Quiet (ask_for f v vs next)
    quiet_ask_for f v vs = quiet_host _ (λ a u. next (without_place a)) (λ a u. q (without_place a))

    pub quiet_property : (p : PropertyNames) (c : Current) (v : Value) → Quiet (property p c v next)
    quiet_property p c (MapV fs) = q _
    quiet_property p c v = quiet_ask_for p.getter v []

    quiet_or_throw : (x : Text) (o : Option Current) → Quiet (or_throw x o next)
    quiet_or_throw x None = quiet_throw x
    quiet_or_throw x (Some c) = q c

    pub quiet_index : (c : Current) (v i : Value) → Quiet (index c v i next)
    quiet_index c (ArrayV vs) (IntV i) = quiet_or_throw (codes "array bounds") _
    quiet_index c (TextV t) (IntV i) = quiet_or_throw (codes "text bounds") _
    quiet_index c (IntV n) (IntV i) = quiet_or_throw (codes "bit bounds") _
    quiet_index c (MapV fs) (TextV k) = q _
    quiet_index c v i = quiet_ask_for (codes "index$get$") v (i ∷ [])
