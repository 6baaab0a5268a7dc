-- Loops and `try`, by the values that they may give and the ways in which they may leave.
use Rattle.std.proofs.Common.{ℕ, zero, suc, Bool, true, false, cond, List, [], ◌∷◌, Option, Some, None}
use Rattle.std.specs.Prelude.{ℤ, pos, ◌+ℤ◌, ◌-ℤ◌, ◌^◌, nat_lt}
use Rattle.rhai_base.specs.Value.{Text, Value, UnitV, IntV, ArrayV, RangeV, RangeInclusiveV, items}
use Rattle.theory_meaning.specs.Act.{World, IsVariable, Env, Exit, Breaks, Throws, Again, Ending, Gives, Leaves, WrongKind, CounterTooLarge, Act, Then, Acts}
use Rattle.theory_meaning.specs.ActForms.{on_throw, again_then}
use Rattle.theory_meaning.specs.Control.{round, do_loop, counted, for_each, for_count, size, for_all, named, end_branch, try_of}
use Rattle.theory_meaning.specs.Core.{Expr, Always, When}
use Rattle.theory_meaning.specs.Meaning.{act, loop}
use Rattle.theory_meaning.specs.Shape.{is_unit}
use Rattle.theory_soundness.proofs.acts.Within.{AnyValue, EndingIn, Within, WithinAll, in_give, in_stop, in_fail, then_in, bind_in, choose_in, if_in, loop_in, scoped_in, only_in, named_in, round_in}

-- L, what the body may leave by; M and V, what the loop may
module _ (w : World) (env : Env) (L M : Exit → Type 0) (V : Value → Type 0) (wider : (x : Exit) → L x → M x) (again : M Again) (broken : (v : Value) → L (Breaks v) → V v) (unit : V UnitV) where
  abbrev Body : Acts → Type 0
  Body p = WithinAll w env L AnyValue p

  abbrev Fits : Act → Type 0
  Fits a = Within w env M V a

  one_round : {p : Acts} → Body p → Fits (round p)
  one_round h = round_in w env wider again broken h

  again_in : {a : Act} → Fits a → (e : Ending) → EndingIn M V e → Fits (again_then a e)
  again_in h (Gives v) j = in_give w env v j
  again_in h (Leaves Again) j = h
  again_in h (Leaves x) j = in_stop w env x j

  then_again : {a c : Act} → Fits a → Fits c → Fits (Then a (λ e. again_then c e))
  then_again h k = then_in w env {L = M} {V = V} h (λ e j. again_in k e j)

  pub always_in : {p : Acts} → Body p → Fits (loop w Always p)
  always_in h = loop_in w env (one_round h)

  pub when_in : (e : Expr) {p : Acts} → Within w env M AnyValue (act w e) → Body p → Fits (loop w (When e) p)
  when_in e q h = loop_in w env (bind_in w env q (λ v y. if_in w env v (one_round h) (in_give w env UnitV unit)))

  pub do_in : (n : Bool) {p : Acts} {g : Act} → Within w env M AnyValue g → Body p → Fits (do_loop n p g)
  do_in false q h = loop_in w env (then_again (one_round h) (bind_in w env q (λ v y. if_in w env v (in_stop w env Again again) (in_give w env UnitV unit))))
  do_in true q h = loop_in w env (then_again (one_round h) (bind_in w env q (λ v y. if_in w env v (in_give w env UnitV unit) (in_stop w env Again again))))

  counted_when : (b : Bool) {p q : Acts} → Body p → Body q → Body (cond b p q)
  counted_when true h k = h
  counted_when false h k = k

  counted_in : (i : Option Text) (k : ℕ) {p : Acts} → Body p → Body (counted i k p)
  counted_in None k h = h
  counted_in (Some i) k h = counted_when (nat_lt k (2 ^ 63)) (named_in w env i IsVariable (IntV (pos k)) h) (only_in w env (in_fail w env CounterTooLarge))

  each_in : (x : Text) (i : Option Text) {p : Acts} → Body p → (k : ℕ) (vs : List Value) → Fits (for_each x i p k vs)
  each_in x i h k [] = in_give w env UnitV unit
  each_in x i h k (v ∷ vs) = then_again (one_round (counted_in i k (named_in w env x IsVariable v h))) (each_in x i h (suc k) vs)

  count_in : (x : Text) (i : Option Text) {p : Acts} → Body p → (k : ℕ) (a : ℤ) (n : ℕ) → Fits (for_count x i p k a n)
  count_in x i h k a zero = in_give w env UnitV unit
  count_in x i h k a (suc n) = then_again (one_round (counted_in i k (named_in w env x IsVariable (IntV a) h))) (count_in x i h (suc k) (a +ℤ pos 1) n)

  pub for_in : (x : Text) (i : Option Text) {p : Acts} → Body p → (v : Value) → Fits (for_all x i p v)
  for_in x i h (ArrayV vs) = each_in x i h 0 (items vs)
  for_in x i h (RangeV a b) = count_in x i h 0 a (size (b -ℤ a))
  for_in x i h (RangeInclusiveV a b) = count_in x i h 0 a (size (b +ℤ pos 1 -ℤ a))
  for_in x i h _ = in_fail w env WrongKind

-- ---- `try`, whose value is unit

module _ (w : World) (env : Env) (M : Exit → Type 0) (V : Value → Type 0) (th : (v : Value) → M (Throws v)) (unit : V UnitV) where
  caught_in : (x : Option Text) (v : Value) {p : Acts} → WithinAll w env M AnyValue p → WithinAll w env M AnyValue (named x v p)
  caught_in None v h = h
  caught_in (Some x) v h = named_in w env x IsVariable v h

  branch_end : (u : Value) (e : Ending) → EndingIn M AnyValue e → Within w env M V (end_branch u e)
  branch_end u (Gives v) h = in_give w env UnitV unit
  branch_end u (Leaves (Throws v)) h = choose_in w env (is_unit v) (in_stop w env (Throws u) (th u)) (in_stop w env (Throws v) (th v))
  branch_end u (Leaves x) h = in_stop w env x h

  thrown_in : {f : Value → Act} → ((v : Value) → Within w env M V (f v)) → (e : Ending) → EndingIn M AnyValue e → Within w env M V (on_throw f e)
  thrown_in h (Gives v) j = in_give w env UnitV unit
  thrown_in h (Leaves (Throws v)) j = h v
  thrown_in h (Leaves x) j = in_stop w env x j

  pub try_in : (x : Option Text) {p q : Acts} → WithinAll w env M AnyValue p → WithinAll w env M AnyValue q → Within w env M V (try_of p x q)
  try_in x h k = then_in w env {L = M} {V = AnyValue} (scoped_in w env h) (λ e j. thrown_in (λ v. then_in w env {L = M} {V = AnyValue} (scoped_in w env (caught_in x v k)) (λ i y. branch_end v i y)) e j)
