-- A tree in which no `break` has an expression leaves no loop with another value than unit.
use Rattle.std.proofs.Common.{◌≡◌, Bool, true, false, refl}
use Rattle.rhai_base.specs.Value.{Value}
use Rattle.theory_meaning.specs.Act.{World, Env, Throws}
use Rattle.theory_meaning.specs.Chains.{OfProperty, OfIndex, OfMethod}
use Rattle.theory_meaning.specs.Desugar.{callee_by, core_stmts}
use Rattle.theory_meaning.specs.Meaning.{acts}
use Rattle.theory_meaning.specs.Tree.{Stmts}
use Rattle.theory_rewriting.specs.SurelyUnit.{carries_nothing, breaks_carry_nothing}
use Rattle.theory_soundness.proofs.acts.Within.{AnyValue, Valueless, CallsIn, Within, WithinAll, in_give, in_stop, in_fail, bind_in, scoped_in, read_in, resolve_in, only_in, line_in, named_in}
use Rattle.theory_soundness.proofs.acts.Chained.{called_in, refreshed_in, applied_in, assign_last_in, assign_root_in}
use Rattle.theory_soundness.proofs.acts.Looped.{always_in, when_in, do_in, for_in, try_in}
use Rattle.theory_soundness.proofs.acts.Trees.{Closed, list_held}

throws_carry : (v : Value) → Valueless (Throws v)
throws_carry v = tt

module _ (w : World) (env : Env) (calls : CallsIn Valueless env) where
  unbroken_closed : Closed w (Within w env Valueless AnyValue) (WithinAll w env Valueless AnyValue) carries_nothing
  unbroken_closed = record {
    gives = λ v. in_give w env v tt;
    fail = λ f. in_fail w env f;
    read = λ r. read_in w env r;
    resolve = λ a h. resolve_in w env a h;
    bind = λ h k. bind_in w env h (λ v y. k v);
    scoped = λ h. scoped_in w env h;
    only = λ h. only_in w env h;
    line = λ h k. line_in w env h (λ v y. k v);
    named = λ x b v h. named_in w env x b v h;
    refreshes = λ c h. refreshed_in w env Valueless throws_carry calls AnyValue tt c h;
    property = λ p. record { by = λ c h. applied_in w env Valueless throws_carry calls AnyValue tt (OfProperty p) c h };
    index = λ i. record { by = λ c h. applied_in w env Valueless throws_carry calls AnyValue tt (OfIndex i) c h };
    method = λ f es q vs. record { by = λ c h. applied_in w env Valueless throws_carry calls AnyValue tt (OfMethod f.name vs) c h };
    call = λ f es q vs. called_in w env Valueless throws_carry calls (callee_by f f.token) vs;
    call_statement = λ f es q vs. called_in w env Valueless throws_carry calls (callee_by f f.token) vs;
    writes = λ o l e q. record {
      root = λ op v r. assign_root_in w env Valueless throws_carry calls AnyValue tt op v r;
      last = λ op v r c. assign_last_in w env Valueless throws_carry calls AnyValue tt op v r c;
    };
    always = λ h. always_in w env Valueless Valueless AnyValue (λ x j. j) tt (λ v j. tt) tt h;
    when = λ e q h. when_in w env Valueless Valueless AnyValue (λ x j. j) tt (λ v j. tt) tt e q h;
    again = λ n q h. do_in w env Valueless Valueless AnyValue (λ x j. j) tt (λ v j. tt) tt n q h;
    each = λ x i h v. for_in w env Valueless Valueless AnyValue (λ y j. j) tt (λ u j. tt) tt x i h v;
    tries = λ x h k. try_in w env Valueless AnyValue throws_carry tt x h k;
    returns = λ v. in_stop w env _ tt;
    throws = λ v. in_stop w env _ tt;
    continues = in_stop w env _ tt;
    breaks = record { by = λ s t. refl };
    breaks_with = λ o e q v. absurd (let z : false ≡ true = q in cc);
  }

  pub list_unbroken : (l b : Bool) (ss : Stmts) → breaks_carry_nothing ss ≡ true → (v : Value) → WithinAll w env Valueless AnyValue (acts w b (core_stmts l ss) v)
  list_unbroken l b ss h v = list_held w (Within w env Valueless AnyValue) (WithinAll w env Valueless AnyValue) carries_nothing unbroken_closed l b ss h v
