-- The rules of chains: a lemma each, of the rule's name.
use Rattle.std.proofs.Common.{◌≡◌, Bool, true, false, refl, arith, ◌+◌}
use Rattle.rhai_base.specs.Value.{UnitV}
use Rattle.theory_meaning.specs.Tree.{ChainFlags, Expr, UnitConstant}
use Rattle.theory_rewriting.specs.Context.{Context}
use Rattle.theory_rewriting.specs.Parts.{link}
use Rattle.theory_rewriting.specs.Rules.{ChainRule, ExprRule, dot_rule, index_rule}
use Rattle.theory_rewriting.proofs.rules.Given.{heavy}
use Rattle.theory_rewriting.proofs.rules.Steps.{StepObligation}
use Rattle.theory_rewriting.proofs.rules.Obligation.{ExprObligation}
use Rattle.theory_meaning.specs.Walk.{Node, Around, whole, throughout, over_expr}
use Rattle.theory_meaning.specs.Weight.{expr_weight}
use Rattle.theory_rewriting.proofs.rules.Lasting.{Lasting}

-- ---- weights, and what stood there

link_weight : (dot : Bool) (m : ChainFlags) (e r : Expr) → expr_weight (link dot m e r) ≡ 4 + (expr_weight e + expr_weight r)
link_weight true m e r = refl
link_weight false m e r = refl

module _ (P : Around → Node → Type 0) (l : Bool) (lasts : Lasting P l) where
  goes_on_keeps : (dot dot' : Bool) (f m : ChainFlags) (e a e' r : Expr) → f.breaks ≡ false → over_expr (throughout P) e' (whole l) → over_expr (throughout P) (link dot f e (link dot' m a r)) (whole l) → over_expr (throughout P) (link dot' m e' r) (whole l)
  goes_on_keeps true true f m e a e' r q p h = (lasts.onward true true f m e a e' r q h.0 _ h.1.1.0, (p, h.1.1.1.1))
  goes_on_keeps true false f m e a e' r q p h = (lasts.onward true false f m e a e' r q h.0 _ h.1.1.0, (p, h.1.1.1.1))
  goes_on_keeps false true f m e a e' r q p h = (lasts.onward false true f m e a e' r q h.0 _ h.1.1.0, (p, h.1.1.1.1))
  goes_on_keeps false false f m e a e' r q p h = (lasts.onward false false f m e a e' r q h.0 _ h.1.1.0, (p, h.1.1.1.1))

  -- the base of a chain stood there
  base_stood : (dot : Bool) (f : ChainFlags) (e r : Expr) → over_expr (throughout P) (link dot f e r) (whole l) → over_expr (throughout P) e (whole l)
  base_stood true f e r h = h.1.0
  base_stood false f e r h = h.1.0

-- ---- the rules

-- as a rule of expressions
pub linked : {k : Context} (dot : Bool) {f : ChainFlags} {e a e' : Expr} → ChainRule k dot f e a e' → ExprRule k (link dot f e a) e'
linked true s = dot_rule s
linked false s = index_rule s

pub unit_ends : {k : Context} (dot : Bool) (f : ChainFlags) (r : Expr) → f.negated ≡ true → ExprObligation k (link dot f UnitConstant r) UnitConstant
unit_ends dot f r n = record {
  lighter = omega (arith, heavy UnitConstant, link_weight dot f UnitConstant r);
  keeps = λ P l lasts j. (lasts.value UnitV, tt);
}

pub step_answers : {k : Context} (dot : Bool) {f : ChainFlags} {e a e' : Expr} → StepObligation k dot f e a e' → ExprObligation k (link dot f e a) e'
step_answers dot {f = f} {e = e} {a = a} {e' = e'} o = record {
  lighter = omega (arith, o.lighter, link_weight dot f e a);
  keeps = λ P l lasts j. o.keeps P l lasts (base_stood P l lasts dot f e a j);
}

pub chain_goes_on : {k : Context} (dot next : Bool) {f : ChainFlags} {e a e' : Expr} (m : ChainFlags) (r : Expr) → f.breaks ≡ false → StepObligation k dot f e a e' → ExprObligation k (link dot f e (link next m a r)) (link next m e' r)
chain_goes_on dot next {f = f} {e = e} {a = a} {e' = e'} m r q o = record {
  lighter = omega (arith, o.lighter, link_weight next m a r, link_weight next m e' r, link_weight dot f e (link next m a r));
  keeps = λ P l lasts j. goes_on_keeps P l lasts dot next f m e a e' r q (o.keeps P l lasts (base_stood P l lasts dot f e (link next m a r) j)) j;
}
