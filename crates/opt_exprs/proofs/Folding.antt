-- Literals of constants that fold to their value.
use Rattle.std.proofs.Common.{◌≡◌, Bool, true, false, List, Option, Some, None, is_some, refl, sym, ap, ◌∙◌, subst}
use Rattle.rhai_base.specs.Value.{Text, Value, TextV, MapV, text_of}
use Rattle.theory_meaning.specs.Constants.{constant_for, constant_value, constant_entries, joined_value, text_constants, map_value}
use Rattle.theory_meaning.specs.Control.{texts_joined}
use Rattle.theory_meaning.specs.Elements.{fields_of}
use Rattle.theory_meaning.specs.Engine.{Engine}
use Rattle.theory_meaning.specs.Tree.{Expr, InterpolatedString, MapOf}
use Rattle.theory_meaning.specs.Walk.{OfExpr}
use Rattle.theory_rewriting.specs.Rules as rule
use Rattle.theory_rewriting.specs.Rules.{ExprRule}
use Rattle.theory_rewriting.specs.Clear.{known_value}
use Rattle.theory_rewriting.specs.Context.{Context}
use Rattle.theory_rewriting.specs.Normal.{IsNormal, HasNormalParts}
use Rattle.theory_rewriting.specs.Rewriting.{ExprsTo}
use Rattle.theory_rewriting.specs.Residue.{IsReducedNode, ExprParts}
use Rattle.theory_rewriting.specs.Steps.{Progress, here, Place, NoExprRule, AnswersNone, ExprKept, ExprRewrite}
use Rattle.theory_rewriting.proofs.Keeping.{keeps_constant, may_be_constant}
use Rattle.opt_base.specs.Folded.{FoldsConstant}
use Rattle.opt_base.specs.NodeSteps.{ExprStep, Puts}
use Rattle.opt_base.proofs.Stepping.{expr_put}
use Rattle.opt_base.specs.Passes.{NodePass, ExprPass}
use Rattle.opt_base.proofs.Passing.{rule_passes, pass_put}
use Rattle.opt_exprs.specs.Parts.{is_interpolated, is_map, any_changes, parts_change, NodeChange, Folds}
use Rattle.opt_exprs.proofs.EmptyParts.{no_part_changes}

-- ---- the rules

text-folds : (e : Expr) (v : Value) → is_interpolated e ≡ true → Some v ≡ constant_value e → (p : Place) → ExprRewrite p e (constant_for v)
text-folds (InterpolatedString es) v i h p = by (text_constants es) refl h where
  by : (o : Option (List Value)) → text_constants es ≡ o → Some v ≡ joined_value o → ExprRewrite p (InterpolatedString es) (constant_for v)
  by None q h = absurd cc
  by (Some vs) q h =
      let same : TextV (texts_joined text_of vs) ≡ v = cc in
      subst (λ w. ExprRewrite p (InterpolatedString es) (constant_for w)) same (record { rule = λ k. rule.text_folds vs q; stays = may_be_constant p _ (TextV (texts_joined text_of vs)) refl refl refl; keeps = keeps_constant _ (TextV (texts_joined text_of vs)) })
text-folds _ v i h p = absurd cc

map-folds : (e : Expr) (v : Value) → is_map e ≡ true → Some v ≡ constant_value e → (p : Place) → ExprRewrite p e (constant_for v)
map-folds (MapOf ps template) v i h p = by (constant_entries ps) refl h where
  by : (o : Option (List (Text × Value))) → constant_entries ps ≡ o → Some v ≡ map_value o → ExprRewrite p (MapOf ps template) (constant_for v)
  by None q h = absurd cc
  by (Some vs) q h =
      let same : MapV (fields_of vs) ≡ v = cc in
      subst (λ w. ExprRewrite p (MapOf ps template) (constant_for w)) same (record { rule = λ k. rule.map_of_constants vs q; stays = may_be_constant p _ (MapV (fields_of vs)) refl refl refl; keeps = keeps_constant _ (MapV (fields_of vs)) })
map-folds _ v i h p = absurd cc

-- ---- at the node

put-as : {s s' : Progress} {e e' : Expr} {v : Value} → ((p : Place) → ExprRewrite p e (constant_for v)) → Puts s s' e' v → (r : Engine) (p : Place) → ExprStep true r p s s' e e'
put-as {s = s} {s' = s'} {e = e} f q r p = subst (λ a. ExprStep true r p s s' e a) (sym q.constant) (expr_put {r = r} {p = p} q.fired q.known (f p))

none-is : (o : Option Value) → is_some o ≡ false → o ≡ None
none-is None h = refl
none-is (Some v) h = absurd cc

pub map_folded : (b : Bool) (s s' : Progress) (e e' : Expr) → is_map e ≡ true → FoldsConstant b s s' e e' → Folds b s s' e e'
map_folded true s s' e e' i f = put-as (map-folds e f.0 i (sym f.1)) f.2
map_folded false s s' e e' i f = (λ r g. none-is (constant_value e) (f.0 r g), f.1, f.2)

pub text_folded : (b : Bool) (s s' : Progress) (e e' : Expr) → is_interpolated e ≡ true → FoldsConstant b s s' e e' → Folds b s s' e e'
text_folded true s s' e e' i f = put-as (text-folds e f.0 i (sym f.1)) f.2
text_folded false s s' e e' i f = (λ r g. none-is (constant_value e) (f.0 r g), f.1, f.2)

no_joined : (o : Option (List Value)) → joined_value o ≡ None → o ≡ None
no_joined None h = refl
no_joined (Some vs) h = absurd cc

no_map : (o : Option (List (Text × Value))) → map_value o ≡ None → o ≡ None
no_map None h = refl
no_map (Some vs) h = absurd cc

kept : (r : Engine) (p : Place) (s s' : Progress) (e e' : Expr) → (ExprParts r e → IsReducedNode r (OfExpr e)) → AnswersNone e → known_value s.known e ≡ None → (ExprParts r e → HasNormalParts (here r s) e → NoExprRule (here r s) p e) → s' ≡ s → e' ≡ e → ExprKept r p s s' e e'
kept r p s s' e e' h a u n i j = record { same = j; state = i; answers = a; reduced = h; unknown = λ _. u; settled = n }

-- no rule fires at such a text or map
abbrev Unfolded : Context → Expr → Type 0
Unfolded k (InterpolatedString es) = IsNormal (ExprsTo k) es × (any_changes es ≡ false) × (joined_value (text_constants es) ≡ None)
Unfolded k (MapOf ps template) = map_value (constant_entries ps) ≡ None
Unfolded k _ = ⊥

no_rule : {k : Context} {e e' : Expr} → ExprRule k e e' → Unfolded k e → ⊥
no_rule (rule.text_changes q) u = no_part_changes u.0 u.1 q
no_rule (rule.text_folds vs q) u = let folds = ap joined_value q in let none = u.2 in absurd cc
no_rule (rule.map_of_constants vs q) u = let folds = ap map_value q in absurd cc
no_rule _ u = u

text-kept : (s s' : Progress) (e e' : Expr) → is_interpolated e ≡ true → ((r : Engine) → ExprParts r e → constant_value e ≡ None) → parts_change e ≡ false → s' ≡ s → e' ≡ e → (r : Engine) (p : Place) → ExprKept r p s s' e e'
text-kept s s' (InterpolatedString es) e' h c g i j r p = kept r p s s' (InterpolatedString es) e' (λ x. no_joined (text_constants es) (c r x)) refl refl (λ x n e' q m. no_rule q (n, g, c r x)) i j
text-kept s s' _ e' h c g i j r p = absurd cc

map-kept : (s s' : Progress) (e e' : Expr) → is_map e ≡ true → ((r : Engine) → ExprParts r e → constant_value e ≡ None) → s' ≡ s → e' ≡ e → (r : Engine) (p : Place) → ExprKept r p s s' e e'
map-kept s s' (MapOf ps template) e' h c i j r p = kept r p s s' (MapOf ps template) e' (λ x. no_map (constant_entries ps) (c r x)) refl refl (λ x n e' q m. no_rule q (c r x)) i j
map-kept s s' _ e' h c i j r p = absurd cc

pub map_step : (b : Bool) (s s' : Progress) (e e' : Expr) → is_map e ≡ true → Folds b s s' e e' → (r : Engine) (p : Place) → ExprStep b r p s s' e e'
map_step true s s' e e' h f = f
map_step false s s' e e' h f = map-kept s s' e e' h f.0 f.1 f.2

pub text_passed : {s s' : Progress} {e e' : Expr} → ((r : Engine) (p : Place) → ExprStep true r p s s' e e') → (r : Engine) (p : Place) → ExprPass r p s s' e e'
text_passed f r p = let z = f r p in rule_passes z.0 z.1

pub text_changed : {s s1 s2 : Progress} {e e1 e2 : Expr} → Folds false s s1 e e1 → s2.is_dirty ≡ true → s2.known ≡ s1.known → NodePass e1 e2 → (r : Engine) (p : Place) → ExprPass r p s s2 e e2
text_changed {e2 = e2} f d k q r p = pass_put d (k ∙ ap (λ (z : Progress). z.known) f.1) (subst (λ z. NodePass z e2) f.2 q)

pub ast_same : {s s1 : Progress} {e e1 e2 : Expr} → is_interpolated e ≡ true → Folds false s s1 e e1 → NodeChange false e1 e2 → (r : Engine) (p : Place) → ExprKept r p s s1 e e2
ast_same {s = s} {s1 = s1} {e = e} {e2 = e2} h f c r p = text-kept s s1 e e2 h f.0 (sym (ap parts_change f.2) ∙ c.1) f.1 (c.0 ∙ f.2) r p
