-- Acts that run alike: every construct keeps it, and braces around one act change nothing.
use Rattle.std.proofs.Common.{◌≡◌, ℕ, Bool, refl, ap, ◌∙◌}
use Rattle.rhai_base.specs.Value.{Text, Value}
use Rattle.theory_meaning.specs.Act.{EntryKind, Store, World, Env, Act, Scoped, Acts, Only, Named, Finish, with_turn, resolved, rounds, call_then, returned, and_then, leave, run, run_all, inside}
use Rattle.theory_meaning.specs.ActForms.{give, ◌>>=◌, then_line}
use Rattle.theory_meaning.specs.Relations.{OnlyAdds}
use Rattle.theory_meaning.proofs.Sequencing.{line_same, line_unit, scoped_only}
use Rattle.theory_meaning.proofs.Congruent.{Congruent, c_bind}

pub record Same (w : World) (env : Env) (a b : Act) : Type 0 where
  pub at : (s : Store) (t : ℕ) → run w env a s t ≡ run w env b s t

pub record SameAll (w : World) (env : Env) (p q : Acts) : Type 0 where
  pub at : (s : Store) (t : ℕ) → run_all w env p s t ≡ run_all w env q s t

abbrev pub Any : Bool → Type 0
Any b = Unit {0}

module _ {w : World} {env : Env} where
  pub same_refl : {a : Act} → Same w env a a
  same_refl = record { at = λ s t. refl }

  pub same_path : {a b : Act} → a ≡ b → Same w env a b
  same_path {a = a} h = record { at = λ s t. ap (λ c. run w env c s t) h }

  pub same_trans : {a b c : Act} → Same w env a b → Same w env b c → Same w env a c
  same_trans h k = record { at = λ s t. h.at s t ∙ k.at s t }

  pub all_refl : {p : Acts} → SameAll w env p p
  all_refl = record { at = λ s t. refl }

  pub all_trans : {p q r : Acts} → SameAll w env p q → SameAll w env q r → SameAll w env p r
  all_trans h k = record { at = λ s t. h.at s t ∙ k.at s t }

  pub same_scoped : {p q : Acts} → SameAll w env p q → Same w env (Scoped p) (Scoped q)
  same_scoped h = record { at = λ s t. ap (leave s) (h.at (inside s) t) }

  pub all_named : {p q : Acts} (x : Text) (k : EntryKind) (v : Value) → SameAll w env p q → SameAll w env (Named x k v p) (Named x k v q)
  all_named x k v h = record { at = λ s t. h.at _ t }

  pub all_finish : {p q : Acts} → SameAll w env p q → SameAll w env (Finish p) (Finish q)
  all_finish h = record { at = λ s t. ap returned (h.at s t) }

  pub all_line : {a b : Act} {k l : Value → Acts} → Same w env a b → ((v : Value) → SameAll w env (k v) (l v)) → SameAll w env (then_line a k) (then_line b l)
  all_line {a = a} {b = b} {k = k} {l = l} h m = record { at = λ s t. line_same w env a b k l h.at (λ v. (m v).at) s t }

pub congruent : (w : World) (env : Env) → Congruent (Same w env) Any
congruent w env = record {
  stop = λ e. same_refl;
  fail = λ f. same_refl;
  and_then = λ a b next next' h k. record { at = λ s t. λ i. and_then (h.at s t i) (λ e s1 t1. (k e).at s1 t1 i) };
  turn = λ a b h. record { at = λ s t. λ i. with_turn t s (λ s1 t1. h.at s1 t1 i) };
  read = λ r. same_refl;
  write = λ must r v. same_refl;
  resolve = λ a next next' h. record { at = λ s t. (h (resolved s.scope a)).at s t };
  ask = λ call next next' h. record { at = λ s t. (h (w.host.answer s.calls call)).at _ t };
  invoke = λ a next next' ok h. record { at = λ s t. λ i. call_then s (env.invoke a s t) (λ v u s1 t1. (h v u).at s1 t1 i) };
  loop = λ a b h. record { at = λ s t. λ i. rounds env.rounds (λ s1 t1. h.at s1 t1 i) s t };
  plain = tt;
}

module _ {w : World} {env : Env} where
  pub same_bind : {a b : Act} {f f' : Value → Act} → Same w env a b → ((v : Value) → Same w env (f v) (f' v)) → Same w env (a >>= f) (b >>= f')
  same_bind {a = a} {b = b} {f = f} {f' = f'} h k = c_bind (Same w env) Any (congruent w env) a b f f' h k

  -- braces around one act
  pub same_braces : OnlyAdds env → (a : Act) → Same w env (Scoped (then_line a (λ v. Only (give v)))) a
  same_braces adds a = record { at = λ s t. ap (leave s) (line_unit w env a (inside s) t) ∙ scoped_only w env adds a s t }
