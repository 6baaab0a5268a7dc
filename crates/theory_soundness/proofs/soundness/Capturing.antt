-- A tree in which no call captures means acts in which none does.
use Rattle.std.proofs.Common.{◌≡◌, ℕ, Bool, true, false, cond, List, [], ◌∷◌, Option, Some, None, refl}
use Rattle.std.specs.Prelude.{not, nat_lt, pos, ◌^◌}
use Rattle.rhai_base.specs.Value.{Text, Value, UnitV, IntV}
use Rattle.theory_meaning.specs.Act.{World, IsVariable, CounterTooLarge, Breaks, Ending, Gives, Leaves, Act, Stop, Scoped, Acts, Only, Fail, Named}
use Rattle.theory_meaning.specs.ActForms.{each_value, value_then}
use Rattle.theory_meaning.specs.Chains.{OfProperty, OfIndex, OfMethod}
use Rattle.theory_meaning.specs.Control.{counted, named}
use Rattle.theory_meaning.specs.Desugar.{by_name, callee_by, core_stmts}
use Rattle.theory_meaning.specs.Meaning.{acts, act}
use Rattle.theory_meaning.specs.Plain.{all_true}
use Rattle.theory_meaning.specs.Tree.{Callee, CallToken, NoToken, OfOperator, OfOther, Stmts}
use Rattle.theory_meaning.specs.Walk.{Node, over_stmts}
use Rattle.theory_rewriting.specs.Scripts.{is_capturing}
use Rattle.theory_soundness.proofs.acts.Trees.{Closed, list_held}
use Rattle.theory_meaning.proofs.Congruent.{c_bind, c_called, AllowedCallee, c_refreshed, c_applied, c_assign_last, c_assign_root, c_round, c_while, c_do, c_for_all, c_try}
use Rattle.theory_soundness.proofs.soundness.Apart.{Apart, apart_stop, apart_fail, apart_then, apart_read, apart_resolve, apart_loop, apart_scoped, AllApart, apart_only, apart_do, apart_named, IsFalse, apart_congruent}

abbrev P : Act → Act → Type 0
P a b = Apart a

-- a node at which no call captures
abbrev pub is_apart : Node → Bool
is_apart n = not (is_capturing n)

is_false : (b : Bool) → not b ≡ true → b ≡ false
is_false true h = absurd (let z : false ≡ true = h in cc)
is_false false h = refl

allowed_name : (c : Callee) (ns : List Text) → c.captures ≡ false → AllowedCallee P IsFalse apart_congruent (by_name c ns)
allowed_name c [] h = h
allowed_name c (n ∷ ns) h = tt

allowed : (c : Callee) (t : CallToken) → c.captures ≡ false → AllowedCallee P IsFalse apart_congruent (callee_by c t)
allowed c NoToken h = allowed_name c c.namespace h
allowed c (OfOperator op) h = tt
allowed c OfOther h = allowed_name c c.namespace h

each_apart : (f : Value → Acts) → ((v : Value) → AllApart (f v)) → (e : Ending) → AllApart (each_value f e)
each_apart f h (Gives v) = h v
each_apart f h (Leaves x) = apart_only apart_stop

count_apart : (b : Bool) (i : Text) (v : Value) (p : Acts) → AllApart p → AllApart (cond b (Named i IsVariable v p) (Only (Fail CounterTooLarge)))
count_apart true i v p h = apart_named h
count_apart false i v p h = apart_only apart_fail

counted_apart : (x : Text) (i : Option Text) (n : ℕ) (v : Value) (p : Acts) → AllApart p → Apart (Scoped (counted i n (Named x IsVariable v p)))
counted_apart x None n v p h = apart_scoped (apart_named h)
counted_apart x (Some i) n v p h = apart_scoped (count_apart (nat_lt n (2 ^ 63)) i (IntV (pos n)) _ (apart_named h))

named_apart : (x : Option Text) (v : Value) (p : Acts) → AllApart p → Apart (Scoped (named x v p))
named_apart None v p h = apart_scoped h
named_apart (Some x) v p h = apart_scoped (apart_named h)

each_leaves : (e : Ending) → Apart (value_then (λ v. Stop (Leaves (Breaks v))) e)
each_leaves (Gives v) = apart_stop
each_leaves (Leaves x) = apart_stop

apart_closed : (w : World) → Closed w Apart AllApart is_apart
apart_closed w = record {
  gives = λ v. apart_stop;
  fail = λ f. apart_fail;
  read = λ r. apart_read;
  resolve = λ a h. apart_resolve h;
  bind = λ {a} {f} h k. c_bind P IsFalse apart_congruent a a f f h k;
  scoped = λ h. apart_scoped h;
  only = λ h. apart_only h;
  line = λ {a} {f} h k. apart_do h (each_apart f k);
  named = λ x b v h. apart_named h;
  refreshes = λ c {f} h. c_refreshed P IsFalse apart_congruent c f f h;
  property = λ p. record { by = λ c {f} h. c_applied P IsFalse apart_congruent w (OfProperty p) c f f h };
  index = λ i. record { by = λ c {f} h. c_applied P IsFalse apart_congruent w (OfIndex i) c f f h };
  method = λ m es q vs. record { by = λ c {f} h. c_applied P IsFalse apart_congruent w (OfMethod m.name vs) c f f h };
  call = λ f es q vs. c_called P IsFalse apart_congruent w (callee_by f f.token) (allowed f f.token (is_false f.captures q)) vs;
  call_statement = λ f es q vs. c_called P IsFalse apart_congruent w (callee_by f f.token) (allowed f f.token (is_false f.captures q)) vs;
  writes = λ o l e q. record {
    root = λ op v r. c_assign_root P IsFalse apart_congruent w op v r;
    last = λ op v r c. c_assign_last P IsFalse apart_congruent w op v r c;
  };
  always = λ {p} h. apart_loop (c_round P IsFalse apart_congruent p p (apart_scoped h));
  when = λ e {p} q h. c_while P IsFalse apart_congruent (act w e) (act w e) p p q (apart_scoped h);
  again = λ n {p} {a} q h. c_do P IsFalse apart_congruent n p p a a (apart_scoped h) q;
  each = λ x i {p} h v. c_for_all P IsFalse apart_congruent x i p p (λ n u. counted_apart x i n u p h) v;
  tries = λ x {p} {q} h k. c_try P IsFalse apart_congruent x p p q q (apart_scoped h) (λ v. named_apart x v q k);
  returns = λ v. apart_stop;
  throws = λ v. apart_stop;
  continues = apart_stop;
  breaks = apart_then apart_stop each_leaves;
  breaks_with = λ o e q v. apart_stop;
}

pub list_apart : (w : World) (ss : Stmts) → over_stmts (all_true is_apart) ss ≡ true → AllApart (acts w true (core_stmts false ss) UnitV)
list_apart w ss h = list_held w Apart AllApart is_apart (apart_closed w) false true ss h UnitV
