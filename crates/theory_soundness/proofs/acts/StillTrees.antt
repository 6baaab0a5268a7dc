-- A tree without assignments, method calls and calls but those of operators writes nothing.
use Rattle.std.proofs.Common.{◌≡◌, ℕ, zero, suc, Bool, true, false, cond, List, [], ◌∷◌, Option, Some, None}
use Rattle.std.specs.Prelude.{ℤ, pos, ◌+ℤ◌, ◌-ℤ◌, ◌^◌, nat_lt, codes, option_map}
use Rattle.rhai_base.specs.Value.{Text, Value, IntV, TextV, ArrayV, MapV, RangeV, RangeInclusiveV, items}
use Rattle.rhai_base.specs.Operators.{Computed, NoEntry, Is, Overflows, symbol}
use Rattle.theory_meaning.specs.Engine.{built_in}
use Rattle.theory_meaning.specs.Act.{World, Answer, Answers, AnswersThrow, Breaks, Continues, Throws, Again, Ending, Gives, Leaves, Act, Acts}
use Rattle.theory_meaning.specs.ActForms.{value_then, ◌>>=◌, each_value, choose, truth, branch, if_true, on_throw, end_round, again_then, answered}
use Rattle.theory_meaning.specs.Calls.{of_table, called}
use Rattle.theory_meaning.specs.Chains.{or_throw, ask_for, property, index}
use Rattle.theory_meaning.specs.Control.{round, do_loop, counted, for_each, for_count, size, for_all, named, end_branch}
use Rattle.theory_meaning.specs.Desugar.{callee_by, core_expr}
use Rattle.theory_meaning.specs.Elements.{element, character, bit}
use Rattle.theory_meaning.specs.Meaning.{act}
use Rattle.theory_meaning.specs.Places.{AtIndex, Place, Current, along, or_no_place, part, without_place, again_at}
use Rattle.theory_meaning.specs.Shape.{is_unit}
use Rattle.theory_meaning.specs.OperatorCalls.{is_operator}
use Rattle.theory_meaning.specs.Tree.{CallToken, NoToken, OfOperator, OfOther, Callee, PropertyNames, Expr}
use Rattle.theory_rewriting.specs.SelfAssign.{writes_nothing, leaves_names}
use Rattle.theory_soundness.proofs.acts.Still.{Still, still_stop, still_fail, still_then, still_turn, still_read, still_resolve, still_ask, still_loop, still_scoped, StillList, still_only, still_do, still_named}
use Rattle.theory_soundness.proofs.acts.Trees.{Closed, expr_held}

no : {A : Type 0} → false ≡ true → A
no h = absurd (let z : false ≡ true = h in cc)

-- ---- short forms

still_value : {f : Value → Act} → ((v : Value) → Still (f v)) → (e : Ending) → Still (value_then f e)
still_value h (Gives v) = h v
still_value h (Leaves x) = still_stop

still_bind : {a : Act} {f : Value → Act} → Still a → ((v : Value) → Still (f v)) → Still (a >>= f)
still_bind h k = still_then h (still_value k)

still_each : {f : Value → Acts} → ((v : Value) → StillList (f v)) → (e : Ending) → StillList (each_value f e)
still_each h (Gives v) = h v
still_each h (Leaves x) = still_only still_stop

still_choose : (b : Bool) {a c : Act} → Still a → Still c → Still (choose b a c)
still_choose true h k = h
still_choose false h k = k

still_branch : (o : Option Bool) {a c : Act} → Still a → Still c → Still (branch o a c)
still_branch None h k = still_fail
still_branch (Some b) h k = still_choose b h k

still_if : (v : Value) {a c : Act} → Still a → Still c → Still (if_true v a c)
still_if v h k = still_branch (truth v) h k

still_answered : {f : Value → Option Value → Act} → ((v : Value) (u : Option Value) → Still (f v u)) → (a : Answer) → Still (answered f a)
still_answered h (Answers v u) = h v u
still_answered h (AnswersThrow v) = still_stop

-- ---- operators, and steps that are no method

still_table : (f : Text) (vs : List Value) (c : Computed) → Still (of_table f vs c)
still_table f vs NoEntry = still_ask (still_answered (λ v u. still_stop))
still_table f vs (Is v) = still_stop
still_table f vs Overflows = still_stop

still_call : (w : World) (c : Callee) (m : CallToken) → is_operator m ≡ true → (vs : List Value) → Still (called w (callee_by c m) vs)
still_call w c (OfOperator op) h vs = still_table (symbol op) vs (built_in w.engine op vs)
still_call w c NoToken h vs = no h
still_call w c OfOther h vs = no h

still_place : (o : Option Value) {f : Value → Act} → ((v : Value) → Still (f v)) → Still (or_no_place o f)
still_place (Some v) h = h v
still_place None h = still_fail

still_at : (c : Current) (o : Option Place) {f : Current → Act} → ((d : Current) → Still (f d)) → Still (again_at c o f)
still_at c None h = h c
still_at c (Some p) h = still_bind (still_bind still_read (λ v. still_place (along v p.keys) (λ u. still_stop))) (λ v. h _)

still_or_throw : (t : Text) (o : Option Current) {f : Current → Act} → ((d : Current) → Still (f d)) → Still (or_throw t o f)
still_or_throw t (Some c) h = h c
still_or_throw t None h = still_stop

still_ask_for : (m : Text) (v : Value) (vs : List Value) {f : Current → Act} → ((d : Current) → Still (f d)) → Still (ask_for m v vs f)
still_ask_for m v vs h = still_ask (still_answered (λ x u. h _))

still_property : (p : PropertyNames) (c : Current) (v : Value) {f : Current → Act} → ((d : Current) → Still (f d)) → Still (property p c v f)
still_property p c (MapV fs) h = h _
still_property p c v h = still_ask_for p.getter v [] h

still_index : (c : Current) (v i : Value) {f : Current → Act} → ((d : Current) → Still (f d)) → Still (index c v i f)
still_index c (ArrayV vs) (IntV i) h = still_or_throw _ (option_map (part c (AtIndex i)) (element vs i)) h
still_index c (TextV t) (IntV i) h = still_or_throw _ (option_map without_place (character t i)) h
still_index c (IntV n) (IntV i) h = still_or_throw _ (option_map without_place (bit n i)) h
still_index c (MapV fs) (TextV k) h = h _
still_index c v i h = still_ask_for (codes "index$get$") v (i ∷ []) h

-- ---- loops and `try`

still_end : (e : Ending) → Still (end_round e)
still_end (Gives v) = still_stop
still_end (Leaves (Breaks v)) = still_stop
still_end (Leaves Continues) = still_stop
still_end (Leaves x) = still_stop

still_round : {p : Acts} → StillList p → Still (round p)
still_round h = still_turn (still_then (still_scoped h) still_end)

still_again : {a : Act} → Still a → (e : Ending) → Still (again_then a e)
still_again h (Gives v) = still_stop
still_again h (Leaves Again) = h
still_again h (Leaves x) = still_stop

still_do_loop : (n : Bool) {p : Acts} {g : Act} → Still g → StillList p → Still (do_loop n p g)
still_do_loop false q h = still_loop (still_then (still_round h) (still_again (still_bind q (λ v. still_if v still_stop still_stop))))
still_do_loop true q h = still_loop (still_then (still_round h) (still_again (still_bind q (λ v. still_if v still_stop still_stop))))

still_when : (b : Bool) {p q : Acts} → StillList p → StillList q → StillList (cond b p q)
still_when true h k = h
still_when false h k = k

still_counted : (i : Option Text) (k : ℕ) {p : Acts} → StillList p → StillList (counted i k p)
still_counted None k h = h
still_counted (Some i) k h = still_when (nat_lt k (2 ^ 63)) (still_named h) (still_only still_fail)

still_for_each : (x : Text) (i : Option Text) {p : Acts} → StillList p → (k : ℕ) (vs : List Value) → Still (for_each x i p k vs)
still_for_each x i h k [] = still_stop
still_for_each x i h k (v ∷ vs) = still_then (still_round (still_counted i k (still_named h))) (still_again (still_for_each x i h (suc k) vs))

still_for_count : (x : Text) (i : Option Text) {p : Acts} → StillList p → (k : ℕ) (a : ℤ) (n : ℕ) → Still (for_count x i p k a n)
still_for_count x i h k a zero = still_stop
still_for_count x i h k a (suc n) = still_then (still_round (still_counted i k (still_named h))) (still_again (still_for_count x i h (suc k) (a +ℤ pos 1) n))

still_for : (x : Text) (i : Option Text) {p : Acts} → StillList p → (v : Value) → Still (for_all x i p v)
still_for x i h (ArrayV vs) = still_for_each x i h 0 (items vs)
still_for x i h (RangeV a b) = still_for_count x i h 0 a (size (b -ℤ a))
still_for x i h (RangeInclusiveV a b) = still_for_count x i h 0 a (size (b +ℤ pos 1 -ℤ a))
still_for x i h _ = still_fail

still_caught : (x : Option Text) (v : Value) {p : Acts} → StillList p → StillList (named x v p)
still_caught None v h = h
still_caught (Some x) v h = still_named h

still_branch_end : (u : Value) (e : Ending) → Still (end_branch u e)
still_branch_end u (Gives v) = still_stop
still_branch_end u (Leaves (Throws v)) = still_choose (is_unit v) still_stop still_stop
still_branch_end u (Leaves x) = still_stop

still_thrown : {f : Value → Act} → ((v : Value) → Still (f v)) → (e : Ending) → Still (on_throw f e)
still_thrown h (Gives v) = still_stop
still_thrown h (Leaves (Throws v)) = h v
still_thrown h (Leaves x) = still_stop

-- ---- trees

still_closed : (w : World) → Closed w Still StillList writes_nothing
still_closed w = record {
  gives = λ v. still_stop;
  fail = λ f. still_fail;
  read = λ r. still_read;
  resolve = λ a h. still_resolve h;
  bind = λ h k. still_bind h k;
  scoped = λ h. still_scoped h;
  only = λ h. still_only h;
  line = λ h k. still_do h (still_each k);
  named = λ x b v h. still_named h;
  refreshes = λ c h. still_at c c.place h;
  property = λ p. record { by = λ c h. still_property p c c.value h };
  index = λ i. record { by = λ c h. still_index c c.value i h };
  method = λ f es q vs. no q;
  call = λ f es q vs. still_call w f f.token q vs;
  call_statement = λ f es q vs. still_call w f f.token q vs;
  writes = λ o l e q. no q;
  always = λ h. still_loop (still_round h);
  when = λ e q h. still_loop (still_bind q (λ v. still_if v (still_round h) still_stop));
  again = λ n q h. still_do_loop n q h;
  each = λ x i h v. still_for x i h v;
  tries = λ x h k. still_then (still_scoped h) (still_thrown (λ v. still_then (still_scoped (still_caught x v k)) (still_branch_end v)));
  returns = λ v. still_stop;
  throws = λ v. still_stop;
  continues = still_stop;
  breaks = still_bind still_stop (λ v. still_stop);
  breaks_with = λ o e q v. still_stop;
}

pub still_expr : (w : World) (l : Bool) (e : Expr) → leaves_names e ≡ true → Still (act w (core_expr l e))
still_expr w l e h = expr_held w Still StillList writes_nothing (still_closed w) l e h
