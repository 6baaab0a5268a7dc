-- A chain and what is left of it behind its first step.
use Rattle.std.proofs.Common.{◌≡◌, Bool, true, false, not, List, None, is_some, refl, sym, ap, ◌∙◌, subst}
use Rattle.std.specs.Prelude.{◌&&◌, ◌⊎◌}
use Rattle.std.proofs.Common.{inl, inr}
use Rattle.theory_meaning.specs.Desugar.{root_of}
use Rattle.theory_meaning.specs.Engine.{Engine}
use Rattle.theory_meaning.specs.Queries.{is_unit}
use Rattle.theory_meaning.specs.Shape.{is_rest, is_argument}
use Rattle.theory_meaning.specs.Tree.{ChainFlags, Expr, UnitConstant, Dot, Index}
use Rattle.theory_meaning.specs.Walk.{OfExpr}
use Rattle.theory_rewriting.specs.Answering.{AnswersNothing}
use Rattle.theory_rewriting.specs.Clear.{HasClearParts}
use Rattle.theory_rewriting.specs.Known.{Known}
use Rattle.theory_rewriting.specs.Parts.{link}
use Rattle.theory_rewriting.specs.Residue.{IsReducedExpr, ExprParts, when}
use Rattle.theory_rewriting.specs.Steps.{Place, Anywhere, AsBase, AsGuard, MayBecome, KeepsExprParts}
use Rattle.opt_base.specs.Standing.{may_stand}
use Rattle.opt_base.proofs.Places.{stands}
use Rattle.opt_chains.specs.Onward.{argument, onward}
use Rattle.opt_chains.proofs.ChainParts.{IsPart}

-- a right side, the argument of the first step, and what is left behind it over what that step answers
pub data StepCase (breaks : Bool) : Expr → Expr → (Expr → Expr) → Type 0 where
  alone : {e : Expr} → StepCase breaks e e (λ x. x)
  first : (dot : Bool) (m : ChainFlags) (a r : Expr) → breaks ≡ false → StepCase breaks (link dot m a r) a (λ x. link dot m x r)

pub step_cases : (breaks : Bool) (e : Expr) → StepCase breaks e (argument breaks e) (onward breaks e)
step_cases true e = alone
step_cases false (Dot m a r) = first true m a r refl
step_cases false (Index m a r) = first false m a r refl
step_cases false _ = alone

-- ---- where it may stand

link_no_root : (dot : Bool) (f : ChainFlags) (e r : Expr) → root_of (link dot f e r) ≡ None
link_no_root true f e r = refl
link_no_root false f e r = refl

link_no_unit : (dot : Bool) (f : ChainFlags) (e r : Expr) → is_unit (link dot f e r) ≡ false
link_no_unit true f e r = refl
link_no_unit false f e r = refl

link_may_stand : (p : Place) (dot : Bool) (f : ChainFlags) (e r : Expr) → may_stand p (link dot f e r) ≡ true
link_may_stand Anywhere dot f e r = refl
link_may_stand AsBase true f e r = refl
link_may_stand AsBase false f e r = refl
link_may_stand AsGuard true f e r = refl
link_may_stand AsGuard false f e r = refl

-- where unit may not stand, no unit is put
pub part_may_stand : (p : Place) (part : Expr) {breaks : Bool} {e a : Expr} {g : Expr → Expr} → StepCase breaks e a g → root_of part ≡ None → (may_stand p (g UnitConstant) ≡ true) ⊎ (is_unit part ≡ false) → may_stand p (g part) ≡ true
part_may_stand p part (first dot m a r q) n h = link_may_stand p dot m _ r
part_may_stand Anywhere part alone n h = refl
part_may_stand AsBase part alone n h = ap (λ o. not (is_some o)) n
part_may_stand AsGuard part alone n (inl h) = absurd (let z : false ≡ true = h in cc)
part_may_stand AsGuard part alone n (inr h) = ap not h

pub stands_there : (p : Place) (dot : Bool) (f : ChainFlags) (e r e' : Expr) → may_stand p e' ≡ true → MayBecome p (link dot f e r) e'
stands_there p dot f e r e' h = stands p _ _ (link_no_root dot f e r) (link_no_unit dot f e r) h

pub stood : (p : Place) (dot : Bool) (f : ChainFlags) (e r e' : Expr) → MayBecome p (link dot f e r) e' → may_stand p e' ≡ true
stood Anywhere dot f e r e' h = refl
stood AsBase dot f e r e' h = ap (λ o. not (is_some o)) (h ∙ link_no_root dot f e r)
stood AsGuard dot f e r e' h = ap not (h ∙ link_no_unit dot f e r)

-- ---- what is claimed of its parts

-- of a chain: nothing of what is no rest of one
abbrev Claim : Engine → Bool → ChainFlags → Expr → Expr → Type 0
Claim r dot f e b = when (is_rest dot f.breaks b) (AnswersNothing (OfExpr e) × (f.breaks ≡ true → AnswersNothing (OfExpr b)))

link_parts : (r : Engine) (dot : Bool) (f : ChainFlags) (e b : Expr) → Claim r dot f e b → IsReducedExpr r e → when (is_rest dot f.breaks b) (IsReducedExpr r b) → ExprParts r (link dot f e b)
link_parts r true f e b x y z = (tt, (x, (y, z)))
link_parts r false f e b x y z = (tt, (x, (y, z)))

parts_link : (r : Engine) (dot : Bool) (f : ChainFlags) (e b : Expr) → ExprParts r (link dot f e b) → Claim r dot f e b × (IsReducedExpr r e × when (is_rest dot f.breaks b) (IsReducedExpr r b))
parts_link r true f e b h = (h.1.0, (h.1.1.0, h.1.1.1))
parts_link r false f e b h = (h.1.0, (h.1.1.0, h.1.1.1))

link_rest : (dot dot' : Bool) (m : ChainFlags) (a b : Expr) → is_argument dot a ≡ true → is_rest dot false (link dot' m a b) ≡ is_rest dot' m.breaks b
link_rest dot true m a b h = ap (λ x. x && is_rest true m.breaks b) h
link_rest dot false m a b h = ap (λ x. x && is_rest false m.breaks b) h

-- the claim of a rest's rest
rest_claimed : (r : Engine) (dot : Bool) (m : ChainFlags) (a b part : Expr) (x : Bool) → is_rest dot m.breaks b ≡ x → when x (IsReducedExpr r (link dot m a b)) → AnswersNothing (OfExpr part) → Claim r dot m part b × when (is_rest dot m.breaks b) (IsReducedExpr r b)
rest_claimed r dot m a b part true q h n =
    let z = parts_link r dot m a b (reduced_parts dot h) in
    let c : when true (AnswersNothing (OfExpr a) × (m.breaks ≡ true → AnswersNothing (OfExpr b))) = subst (λ y. when y (AnswersNothing (OfExpr a) × (m.breaks ≡ true → AnswersNothing (OfExpr b)))) q z.0 in
    (subst (λ y. when y (AnswersNothing (OfExpr part) × (m.breaks ≡ true → AnswersNothing (OfExpr b)))) (sym q) (n, c.1), z.1.1) where
      reduced_parts : (dot : Bool) → IsReducedExpr r (link dot m a b) → ExprParts r (link dot m a b)
      reduced_parts true h = h.1
      reduced_parts false h = h.1
rest_claimed r dot m a b part false q h n =
    (subst (λ y. when y (AnswersNothing (OfExpr part) × (m.breaks ≡ true → AnswersNothing (OfExpr b)))) (sym q) tt, subst (λ y. when y (IsReducedExpr r b)) (sym q) tt)

link_clear : (ks : List Known) (dot : Bool) (m : ChainFlags) (e b : Expr) → HasClearParts ks (link dot m e b)
link_clear ks true m e b = tt
link_clear ks false m e b = tt

onward_parts : (r : Engine) (dot dot' : Bool) (f m : ChainFlags) (e a b part : Expr) → f.breaks ≡ false → is_argument dot a ≡ true → IsPart e part → ExprParts r (link dot f e (link dot' m a b)) → ExprParts r (link dot' m part b)
onward_parts r dot dot' f m e a b part q h i p =
    let z = parts_link r dot f e (link dot' m a b) p in
    let n = i.reduced r z.1.0 in
    let l : is_rest dot f.breaks (link dot' m a b) ≡ is_rest dot' m.breaks b = ap (λ x. is_rest dot x (link dot' m a b)) q ∙ link_rest dot dot' m a b h in
    let y = rest_claimed r dot' m a b part (is_rest dot' m.breaks b) refl (subst (λ x. when x (IsReducedExpr r (link dot' m a b))) l z.1.1) n.1 in
    link_parts r dot' m part b y.0 n.0 y.1

-- a part takes the place of its base and of the first step
pub keeps_step : (dot : Bool) (f : ChainFlags) (e part : Expr) {b a : Expr} {g : Expr → Expr} → StepCase f.breaks b a g → is_argument dot a ≡ true → IsPart e part → KeepsExprParts (link dot f e b) (g part)
keeps_step dot f e part {b = b} alone h i = record { parts = λ r p. (i.reduced r (parts_link r dot f e b p).1.0).0.1; clear = λ ks p. i.clear ks }
keeps_step dot f e part (first dot' m a r q) h i = record { parts = λ s p. onward_parts s dot dot' f m e a r part q h i p; clear = λ ks p. link_clear ks dot' m part r }
