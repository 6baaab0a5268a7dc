-- What became of a chain, by what its first step answers.
use Rattle.std.proofs.Common.{◌≡◌, Bool, true, false, List, Option, Some, None, refl, sym, ap, ◌∙◌, subst, inl, inr}
use Rattle.std.specs.Prelude.{◌&&◌, ◌⊎◌, if◌then◌else◌}
use Rattle.rhai_base.specs.Value.{Value, is_unit}
use Rattle.theory_meaning.specs.Engine.{Engine, or_else}
use Rattle.theory_meaning.specs.Queries.{is_pure_expr}
use Rattle.theory_meaning.specs.Queries.{is_unit as is_unit_expr}
use Rattle.theory_meaning.specs.Tree.{ChainFlags, Expr, UnitConstant, Dot, Index}
use Rattle.ast_types.specs.Reading.{expr_of}
use Rattle.theory_rewriting.specs.Known.{Known}
use Rattle.theory_rewriting.specs.Parts.{constant_of, link}
use Rattle.theory_rewriting.specs.Rules as rule
use Rattle.theory_rewriting.specs.Rules.{ExprRule}
use Rattle.theory_rewriting.specs.Steps.{Progress, here, Place, is_chain_node}
use Rattle.theory_rewriting.proofs.Keeping.{keeps_unit}
use Rattle.theory_rewriting.proofs.rules.Chains.{linked}
use Rattle.ast_types.specs.declared.expr.BinaryExpr.{BinaryExpr}
use Rattle.ast_types.specs.declared.expr.Expr as declared
use Rattle.opt_base.specs.NodeSteps.{ExprStep}
use Rattle.opt_base.specs.Standing.{may_stand}
use Rattle.opt_base.proofs.Stepping.{expr_stays}
use Rattle.opt_chains.specs.Answers.{constant_answer, known_answer, allowed}
use Rattle.opt_chains.specs.Chains.{ends_in_unit, value_answer, chain_of, IsMoved, IsTaken, IsQuiet, PartStep, IsQuietChain, ChainStep}
use Rattle.opt_chains.specs.Literals.{allowed_part, literal_answer}
use Rattle.opt_chains.specs.Onward.{argument, onward, Rewrites}
use Rattle.opt_chains.proofs.Quiet.{chain_quiet}
use Rattle.opt_chains.proofs.Rules.{constant_rewrites, known_rewrites, literal_rewrites}
use Rattle.opt_chains.proofs.Settled.{no_rule}
use Rattle.opt_chains.proofs.Steps.{stands_there as in_place}

-- ---- a chain over unit, past a `?`

both_true : (a b : Bool) → a && b ≡ true → (a ≡ true) × (b ≡ true)
both_true true b h = (refl, h)
both_true false b h = absurd cc

unit_is : (e : Expr) → is_unit_expr e ≡ true → UnitConstant ≡ e
unit_is UnitConstant h = refl
unit_is _ h = absurd cc

module _ (r : Engine) (p : Place) (s s' : Progress) (e' : Expr) (d : s'.is_dirty ≡ true) (k : s'.known ≡ s.known) (i : e' ≡ UnitConstant) where
  chain_ends : (dot : Bool) (f : ChainFlags) (l m : Expr) → may_stand p UnitConstant && (f.negated && is_unit_expr l) ≡ true → ExprStep true r p s s' (link dot f l m) e'
  chain_ends dot f l m h =
      let a = both_true (may_stand p UnitConstant) _ h in
      let b = both_true f.negated (is_unit_expr l) a.1 in
      subst (λ x. ExprStep true r p s s' (link dot f l m) x) (sym i)
      (record { rule = subst (λ y. ExprRule (here r s) (link dot f y m) UnitConstant) (unit_is l b.1) (linked dot (rule.unit_ends b.0)); stays = in_place p dot f l m UnitConstant a.0; fired = d; known = k }, keeps_unit _)

  pub unit_ends : (e : Expr) → ends_in_unit p e ≡ true → ExprStep true r p s s' e e'
  unit_ends (Dot f l m) h = chain_ends true f l m h
  unit_ends (Index f l m) h = chain_ends false f l m h
  unit_ends _ h = absurd cc

-- ---- what may stand there

-- unit, or another value
allowed_some : (unit : Bool) (o : Option Value) (v : Value) → allowed unit o ≡ Some v → (o ≡ Some v) × ((unit ≡ true) ⊎ (is_unit v ≡ false))
allowed_some true o v h = (h, inl refl)
allowed_some false None v h = absurd (let z : None ≡ Some v = h in cc)
allowed_some false (Some u) v h = by (is_unit u) refl h where
  by : (b : Bool) → is_unit u ≡ b → (if b then None else Some u) ≡ Some v → (Some u ≡ Some v) × ((false ≡ true) ⊎ (is_unit v ≡ false))
  by true q h = absurd (let z : None ≡ Some v = h in cc)
  by false q h = (h, inr (ap is_unit (let y : v ≡ u = cc in y) ∙ q))

part_some : (unit : Bool) (o : Option Expr) (e : Expr) → allowed_part unit o ≡ Some e → (o ≡ Some e) × ((unit ≡ true) ⊎ (is_unit_expr e ≡ false))
part_some true o e h = (h, inl refl)
part_some false None e h = absurd (let z : None ≡ Some e = h in cc)
part_some false (Some d) e h = by (is_unit_expr d) refl h where
  by : (b : Bool) → is_unit_expr d ≡ b → (if b then None else Some d) ≡ Some e → (Some d ≡ Some e) × ((false ≡ true) ⊎ (is_unit_expr e ≡ false))
  by true q h = absurd (let z : None ≡ Some e = h in cc)
  by false q h = (h, inr (ap is_unit_expr (let y : e ≡ d = cc in y) ∙ q))

if_some : (b : Bool) (o : Option Expr) (e : Expr) → (if b then o else None) ≡ Some e → (b ≡ true) × (o ≡ Some e)
if_some true o e h = (refl, h)
if_some false o e h = absurd (let z : None ≡ Some e = h in cc)

one_of : (o p : Option Value) (v : Value) → or_else o p ≡ Some v → (o ≡ Some v) ⊎ (p ≡ Some v)
one_of (Some u) p v h = inl h
one_of None p v h = inr h

none_of : (o p : Option Value) → or_else o p ≡ None → (o ≡ None) × (p ≡ None)
none_of (Some u) p h = absurd (let z : Some u ≡ None = h in cc)
none_of None p h = (refl, h)

module _ (r : Engine) (ks : List Known) (p : Place) (dot : Bool) (f : ChainFlags) (e b : Expr) (unit : Bool) (there : unit ≡ may_stand p (onward f.breaks b UnitConstant)) where
  stands_there : (x : Type 0) → (unit ≡ true) ⊎ x → (may_stand p (onward f.breaks b UnitConstant) ≡ true) ⊎ x
  stands_there x (inl h) = inl (sym there ∙ h)
  stands_there x (inr h) = inr h

  pub value_rewrites : (v : Value) → value_answer r ks unit dot f e b ≡ Some v → Rewrites r ks p (link dot f e b) (onward f.breaks b (constant_of v))
  value_rewrites v h = by (one_of _ _ v h) where
    by : (allowed unit (constant_answer r dot f.negated e (argument f.breaks b)) ≡ Some v) ⊎ (allowed unit (known_answer ks dot e b) ≡ Some v) → Rewrites r ks p (link dot f e b) (onward f.breaks b (constant_of v))
    by (inl q) = let z = allowed_some unit _ v q in constant_rewrites r ks p dot f e b v z.0 (stands_there _ z.1)
    by (inr q) = let z = allowed_some unit _ v q in known_rewrites r ks p dot f e b v z.0 (stands_there _ z.1)

  pub part_rewrites : (part : Expr) → literal_answer unit dot e (argument f.breaks b) ≡ Some part → Rewrites r ks p (link dot f e b) (onward f.breaks b part)
  part_rewrites part h =
      let z = if_some (is_pure_expr e) _ part h in
      let y = part_some unit _ part z.1 in literal_rewrites r ks p dot f e b part z.0 y.0 (stands_there _ y.1)

  pub none_answers : value_answer r ks unit dot f e b ≡ None → literal_answer unit dot e (argument f.breaks b) ≡ None → IsQuiet r ks p (link dot f e b)
  none_answers h l =
      let z = none_of _ _ h in
      record {
        answers = chain_quiet r unit dot f e b z.0 l;
        settled = no_rule r ks p dot f e b (sym (ap (λ u. allowed u (constant_answer r dot f.negated e (argument f.breaks b))) there) ∙ z.0) (sym (ap (λ u. allowed u (known_answer ks dot e b)) there) ∙ z.1) (sym (ap (λ u. literal_answer u dot e (argument f.breaks b)) there) ∙ l);
      }

-- ---- the part that was found

pub value_step : (r : Engine) (ks : List Known) (p : Place) (dot : Bool) (f : ChainFlags) (old : BinaryExpr) (unit : Bool) (part : declared.Expr) (v : Value) → unit ≡ may_stand p (onward f.breaks (expr_of old.rhs) UnitConstant) → Some v ≡ value_answer r ks unit dot f (expr_of old.lhs) (expr_of old.rhs) → expr_of part ≡ constant_of v → PartStep r ks p dot f old old (Some part)
value_step r ks p dot f old unit part v t h q =
    (refl, subst (λ x. Rewrites r ks p (chain_of dot f old) (onward f.breaks (expr_of old.rhs) x)) (sym q) (value_rewrites r ks p dot f (expr_of old.lhs) (expr_of old.rhs) unit t v (sym h)))

pub moved_step : (r : Engine) (ks : List Known) (p : Place) (dot : Bool) (f : ChainFlags) (old new : BinaryExpr) (unit : Bool) (part : declared.Expr) → unit ≡ may_stand p (onward f.breaks (expr_of old.rhs) UnitConstant) → IsMoved unit dot f.breaks old new (Some part) → PartStep r ks p dot f old new (Some part)
moved_step r ks p dot f old new unit part t m =
    let v = m.1.0 in
    let answers : value_answer r ks unit dot f (expr_of old.lhs) (expr_of old.rhs) ≡ Some v = ap (λ o. or_else o (allowed unit (known_answer ks dot (expr_of old.lhs) (expr_of old.rhs)))) (m.1.2 r f.negated) in
    (m.0, subst (λ x. Rewrites r ks p (chain_of dot f old) (onward f.breaks (expr_of old.rhs) x)) (sym m.1.1) (value_rewrites r ks p dot f (expr_of old.lhs) (expr_of old.rhs) unit t v answers))

pub taken_step : (r : Engine) (ks : List Known) (p : Place) (dot : Bool) (f : ChainFlags) (old new : BinaryExpr) (unit : Bool) (part : Option declared.Expr) → unit ≡ may_stand p (onward f.breaks (expr_of old.rhs) UnitConstant) → None ≡ value_answer r ks unit dot f (expr_of old.lhs) (expr_of old.rhs) → IsTaken unit dot f.breaks old new part → PartStep r ks p dot f old new part
taken_step r ks p dot f old new unit None t h i = (i.kept refl, none_answers r ks p dot f (expr_of old.lhs) (expr_of old.rhs) unit t (sym h) (sym i.answer))
taken_step r ks p dot f old new unit (Some part) t h i = (i.right, part_rewrites r ks p dot f (expr_of old.lhs) (expr_of old.rhs) unit t (expr_of part) (sym i.answer))

-- ---- the chain

pub none_put : {r : Engine} {p : Place} {s : Progress} {e e' : Expr} → is_chain_node e ≡ true → ends_in_unit p e ≡ false → ChainStep r s.known p e e' None → ExprStep false r p s s e e'
none_put {r = r} {p = p} {s = s} {e = e} h u q = subst (λ x. ExprStep false r p s s e x) (sym q.0) (chain_stays e h u q.1) where
  chain_stays : (e : Expr) → is_chain_node e ≡ true → ends_in_unit p e ≡ false → IsQuietChain r s.known p e → ExprStep false r p s s e e
  chain_stays (Dot f l m) h u a = expr_stays tt a.answers (λ q. refl) (a.settled u)
  chain_stays (Index f l m) h u a = expr_stays tt a.answers (λ q. refl) (a.settled u)
  chain_stays _ h u a = absurd cc
