-- The rules of chains: a lemma each, of the rule's name.
use Rattle.std.proofs.Common.{◌≡◌, Bool, true, false, cond, Some, None, refl, sym, ◌∙◌, subst, ap}
use Rattle.std.specs.Prelude.{◌&&◌, not, if◌then◌else◌}
use Rattle.rhai_base.specs.Value.{Value, UnitV}
use Rattle.theory_meaning.specs.Act.{Act, WrongKind}
use Rattle.theory_meaning.specs.ActForms.{give, unit, ◌>>=◌}
use Rattle.theory_meaning.specs.Constants.{constant_value}
use Rattle.theory_meaning.specs.Core as core
use Rattle.theory_meaning.specs.Desugar.{root_of, based, core_expr, steps_of}
use Rattle.theory_meaning.specs.Meaning.{act, steps}
use Rattle.theory_meaning.specs.Places.{without_place, Current}
use Rattle.theory_meaning.specs.Shape.{is_chain, is_argument, is_rest}
use Rattle.theory_meaning.specs.Tree.{ChainFlags, Expr, UnitConstant, Dot, Index}
use Rattle.theory_rewriting.specs.Context.{Context}
use Rattle.theory_rewriting.specs.Parts.{link}
use Rattle.theory_soundness.proofs.simulation.Laws.{simulates_alone, simulates_stuck}
use Rattle.theory_soundness.proofs.simulation.Setting.{Setting, world}
use Rattle.theory_soundness.proofs.simulation.Simulation.{Simulates, simulates_trans, simulates_refl}
use Rattle.theory_soundness.proofs.rules.Given.{constant_then, expr_meant}
use Rattle.theory_rewriting.proofs.rules.Steps.{constant_root}
use Rattle.theory_rewriting.proofs.rules.Steps.{StepObligation}
use Rattle.theory_soundness.proofs.rules.Steps.{StepSound, argument, step_at}
use Rattle.theory_soundness.proofs.rules.Sound.{ExprSound}

-- ---- chains as core

abbrev steps_in : (loop dot : Bool) → ChainFlags → Expr → core.Steps
steps_in loop dot f x = steps_of loop dot f (argument loop dot x) x

link_core : (loop dot : Bool) (f : ChainFlags) (e x : Expr) → core_expr loop (link dot f e x) ≡ cond (is_chain dot f x) (core.Chain (based (root_of e) (core_expr loop e)) (steps_in loop dot f x)) core.Ill
link_core loop true f e x = refl
link_core loop false f e x = refl

link_steps : (loop dot dot' : Bool) (f m : ChainFlags) (a r : Expr) → f.breaks ≡ false → steps_in loop dot f (link dot' m a r) ≡ core.more f.negated (argument loop dot a) (steps_in loop dot' m r)
link_steps loop dot true f m a r q = ap (λ b. cond b (core.last f.negated (argument loop dot (Dot m a r))) (core.more f.negated (argument loop dot a) (steps_in loop true m r))) q
link_steps loop dot false f m a r q = ap (λ b. cond b (core.last f.negated (argument loop dot (Index m a r))) (core.more f.negated (argument loop dot a) (steps_in loop false m r))) q

link_fits : (dot dot' : Bool) (f m : ChainFlags) (a r : Expr) → f.breaks ≡ false → is_rest dot f.breaks (link dot' m a r) ≡ (is_argument dot a && is_rest dot' m.breaks r)
link_fits dot true f m a r q = ap (λ b. if b then not dot else (is_argument dot a && is_rest true m.breaks r)) q
link_fits dot false f m a r q = ap (λ b. if b then not dot else (is_argument dot a && is_rest false m.breaks r)) q

-- whether the first step has a `?`
abbrev optional : core.Steps → Bool
optional (core.last o p) = o
optional (core.more o p sts) = o

optional_first : (b o : Bool) (p q : core.Step) (sts : core.Steps) → optional (cond b (core.last o p) (core.more o q sts)) ≡ o
optional_first true o p q sts = refl
optional_first false o p q sts = refl

optional_of : (loop dot : Bool) (f : ChainFlags) (p : core.Step) (r : Expr) → optional (steps_of loop dot f p r) ≡ f.negated
optional_of loop dot f p (Dot m a b) = optional_first f.breaks f.negated p _ _
optional_of loop dot f p (Index m a b) = optional_first f.breaks f.negated p _ _
optional_of loop dot f p _ = refl

module _ {k : Context} (c : Setting k) where
  -- over a constant
  chain_over : (e : Expr) (v : Value) (sts : core.Steps) (a : Act) → constant_value e ≡ Some v → Simulates c (steps (world c) sts (without_place v)) a → Simulates c (act (world c) (core.Chain (based (root_of e) (core_expr c.in_loop e)) sts)) a
  chain_over e v sts a h j =
      subst (λ o. Simulates c (act (world c) (core.Chain (based o (core_expr c.in_loop e)) sts)) a) (sym (constant_root e v h))
      (simulates_trans (constant_then c e v (λ u. steps (world c) sts (without_place u)) h) j)

  unit_stops : (sts : core.Steps) → optional sts ≡ true → Simulates c (steps (world c) sts (without_place UnitV)) unit
  unit_stops (core.last true p) h = simulates_refl
  unit_stops (core.more true p sts) h = simulates_refl
  unit_stops (core.last false p) h = absurd (let z : false ≡ true = h in cc)
  unit_stops (core.more false p sts) h = absurd (let z : false ≡ true = h in cc)

  -- an expression, and then its value
  as_value : (a : Act) (e : Expr) → Simulates c a (act (world c) (core_expr c.in_loop e) >>= give) → Simulates c a (act (world c) (core_expr c.in_loop e))
  as_value a e h = simulates_trans h (simulates_alone (act (world c) (core_expr c.in_loop e)) give (λ v. simulates_refl))

  -- x, y: whether both nodes have their shape
  onward_meant : (x y : Bool) (e e' : core.Expr) (o : Bool) (p : core.Step) (sts : core.Steps) → Simulates c (act (world c) e >>= λ v. step_at c o p v (λ z. steps (world c) sts z)) (act (world c) e' >>= λ v. steps (world c) sts (without_place v)) → Simulates c (act (world c) (cond (x && y) (core.Chain (core.OnValue e) (core.more o p sts)) core.Ill)) (act (world c) (cond y (core.Chain (core.OnValue e') sts) core.Ill))
  onward_meant true true e e' o p sts h = h
  onward_meant true false e e' o p sts h = simulates_refl
  onward_meant false y e e' o p sts h = simulates_stuck WrongKind _

  -- from e', which does what the first step over e does, the chain goes on
  goes_on : (dot dot' : Bool) (f m : ChainFlags) (e a e' r : Expr) → f.breaks ≡ false → root_of e ≡ None → root_of e' ≡ None → ((next : Current → Act) → Simulates c (act (world c) (core_expr c.in_loop e) >>= λ v. step_at c f.negated (argument c.in_loop dot a) v next) (act (world c) (core_expr c.in_loop e') >>= λ v. next (without_place v))) → Simulates c (act (world c) (core_expr c.in_loop (link dot f e (link dot' m a r)))) (act (world c) (core_expr c.in_loop (link dot' m e' r)))
  goes_on dot dot' f m e a e' r q n n' h =
      let l = c.in_loop in
      let sts = steps_in l dot' m r in
      let p = argument l dot a in
      let old : core_expr l (link dot f e (link dot' m a r)) ≡ cond (is_argument dot a && is_rest dot' m.breaks r) (core.Chain (core.OnValue (core_expr l e)) (core.more f.negated p sts)) core.Ill =
      link_core l dot f e (link dot' m a r) ∙ (λ j. cond (link_fits dot dot' f m a r q j) (core.Chain (based (n j) (core_expr l e)) (link_steps l dot dot' f m a r q j)) core.Ill) in
      let new : core_expr l (link dot' m e' r) ≡ cond (is_chain dot' m r) (core.Chain (core.OnValue (core_expr l e')) sts) core.Ill =
      link_core l dot' m e' r ∙ (λ j. cond (is_chain dot' m r) (core.Chain (based (n' j) (core_expr l e')) sts) core.Ill) in
      subst (λ z. Simulates c (act (world c) z) (act (world c) (core_expr l (link dot' m e' r)))) (sym old)
      (subst (λ z. Simulates c (act (world c) (cond (is_argument dot a && is_rest dot' m.breaks r) (core.Chain (core.OnValue (core_expr l e)) (core.more f.negated p sts)) core.Ill)) (act (world c) z)) (sym new)
      (onward_meant (is_argument dot a) (is_rest dot' m.breaks r) (core_expr l e) (core_expr l e') f.negated p sts (h (λ z. steps (world c) sts z))))

-- ---- the rules

pub unit_ends : {k : Context} (dot : Bool) (f : ChainFlags) (r : Expr) → f.negated ≡ true → ExprSound k (link dot f UnitConstant r) UnitConstant
unit_ends dot f r n = record {
  sound = λ c.
      let sts = steps_in c.in_loop dot f r in
      subst (λ z. Simulates c (act (world c) z) unit) (sym (link_core c.in_loop dot f UnitConstant r))
      (expr_meant (is_chain dot f r) (core.Chain (core.OnValue (core_expr c.in_loop UnitConstant)) sts)
      (chain_over c UnitConstant UnitV sts unit refl (unit_stops c sts (optional_of c.in_loop dot f (argument c.in_loop dot r) r ∙ n))));
}

pub step_answers : {k : Context} (dot : Bool) {f : ChainFlags} {e a e' : Expr} → StepObligation k dot f e a e' → StepSound k dot f e a e' → ExprSound k (link dot f e a) e'
step_answers dot {f = f} {e = e} {a = a} {e' = e'} o s = record {
  sound = λ c.
      let l = c.in_loop in
      let p = argument l dot a in
      let old : core_expr l (link dot f e a) ≡ cond (is_chain dot f a) (core.Chain (core.OnValue (core_expr l e)) (core.last f.negated p)) core.Ill =
      link_core l dot f e a ∙ (λ j. cond (is_chain dot f a) (core.Chain (based (o.base j) (core_expr l e)) (o.alone l p j)) core.Ill) in
      subst (λ z. Simulates c (act (world c) z) (act (world c) (core_expr l e'))) (sym old)
      (expr_meant (is_chain dot f a) (core.Chain (core.OnValue (core_expr l e)) (core.last f.negated p)) (as_value c _ e' (s.sound c (λ x. give x.value))));
}

pub chain_goes_on : {k : Context} (dot next : Bool) {f : ChainFlags} {e a e' : Expr} (m : ChainFlags) (r : Expr) → f.breaks ≡ false → StepObligation k dot f e a e' → StepSound k dot f e a e' → ExprSound k (link dot f e (link next m a r)) (link next m e' r)
chain_goes_on dot next {f = f} {e = e} {a = a} {e' = e'} m r q o s = record {
  sound = λ c. goes_on c dot next f m e a e' r q o.base o.answer (s.sound c);
}
