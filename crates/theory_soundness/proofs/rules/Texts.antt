-- The rules of interpolated texts and of maps: a lemma each, of the rule's name.
use Rattle.std.proofs.Common.{◌≡◌, List, [], ◌∷◌, ◌++◌, Some, sym, ap, ◌∙◌, refl, subst, append_assoc, false}
use Rattle.rhai_base.specs.Value.{Text, Value, TextV, MapV, text_of, holds_float}
use Rattle.theory_meaning.specs.Act.{Act, run, Host}
use Rattle.theory_meaning.specs.ActForms.{give}
use Rattle.theory_meaning.specs.Constants.{constant_entries, text_constants}
use Rattle.theory_meaning.specs.Control.{texts_joined, text_in}
use Rattle.theory_meaning.specs.Core as core
use Rattle.theory_meaning.specs.Desugar.{core_exprs, core_pairs}
use Rattle.theory_meaning.specs.Elements.{fields_of}
use Rattle.theory_meaning.specs.Meaning.{with_args}
use Rattle.theory_meaning.specs.Shape.{is_map}
use Rattle.theory_meaning.specs.Tree.{DynamicConstant, StringConstant, InterpolatedString, MapOf, Exprs, Pairs}
use Rattle.theory_meaning.proofs.Floatless.{text_alone, text_parts, texts_constant}
use Rattle.theory_rewriting.specs.Context.{Context}
use Rattle.theory_rewriting.specs.Operands.{TextTo, in_other_parts, texts_join, empty_goes}
use Rattle.theory_soundness.proofs.simulation.Setting.{Setting, world}
use Rattle.theory_soundness.proofs.simulation.Simulation.{Simulates, simulates_trans, simulates_refl, simulates_equal}
use Rattle.theory_soundness.proofs.simulation.Forms.{simulates_bind}
use Rattle.theory_soundness.proofs.rules.Given.{constant_then, constants_give, entries_give, expr_meant}
use Rattle.theory_soundness.proofs.rules.Sound.{ExprSound}

joined_cons : (f : Value → Text) (v : Value) (vs : List Value) → texts_joined f (v ∷ vs) ≡ f v ++ texts_joined f vs
unfolding texts_joined
joined_cons f v vs = refl

text_of_text : (t : Text) → text_of (TextV t) ≡ t
unfolding text_of
text_of_text t = refl

module _ (h : Host) where
  abbrev all : List Value → Text
  all vs = texts_joined (text_in h) vs

  one_text : (t : Text) (vs : List Value) → all (TextV t ∷ vs) ≡ t ++ all vs
  one_text t vs = joined_cons (text_in h) (TextV t) vs ∙ ap (λ u. u ++ all vs) (text_of_text t)

  two_texts : (t u : Text) (vs : List Value) → all (TextV t ∷ TextV u ∷ vs) ≡ all (TextV (t ++ u) ∷ vs)
  two_texts t u vs = one_text t (TextV u ∷ vs) ∙ ap (λ x. t ++ x) (one_text u vs) ∙ sym (append_assoc t u (all vs)) ∙ sym (one_text (t ++ u) vs)

  no_text : (v : Value) (vs : List Value) → holds_float v ≡ false → text_of v ≡ [] → all (v ∷ vs) ≡ all vs
  no_text v vs f e = joined_cons (text_in h) v vs ∙ ap (λ t. t ++ all vs) (text_alone h v f ∙ e)

module _ {k : Context} (c : Setting k) where
  -- whatever is done with the joined text
  parts_sound : {es es' : Exprs} → TextTo es es' → (next : Text → Act) → Simulates c (with_args (world c) (core_exprs c.in_loop es) (λ vs. next (all (world c).host vs))) (with_args (world c) (core_exprs c.in_loop es') (λ vs. next (all (world c).host vs)))
  parts_sound (in_other_parts {e = e} {es = es} {es' = es'} p) next = simulates_bind simulates_refl (λ v.
      let A : (List Value → Text) → Act = λ j. with_args (world c) (core_exprs c.in_loop es) (λ vs. next (j vs)) in
      let B : (List Value → Text) → Act = λ j. with_args (world c) (core_exprs c.in_loop es') (λ vs. next (j vs)) in
      let q : (λ vs. text_in (world c).host v ++ all (world c).host vs) ≡ (λ vs. all (world c).host (v ∷ vs)) = λ i vs. sym (joined_cons (text_in (world c).host) v vs) i in
      subst (λ j. Simulates c (A j) (B j)) q (parts_sound p (λ t. next (text_in (world c).host v ++ t))))
  parts_sound (texts_join {t = t} {u = u} {es = es}) next =
      simulates_equal (λ m i. run (world c) m.env (with_args (world c) (core_exprs c.in_loop es) (λ vs. next (two_texts (world c).host t u vs i))) m.store m.turns)
  parts_sound (empty_goes {e = e} {es = es} v h f j) next =
      simulates_trans (constant_then c e v _ h)
      (simulates_equal (λ m i. run (world c) m.env (with_args (world c) (core_exprs c.in_loop es) (λ vs. next (no_text (world c).host v vs f j i))) m.store m.turns))

-- ---- the rules

pub text_changes : {k : Context} {es es' : Exprs} → TextTo es es' → ExprSound k (InterpolatedString es) (InterpolatedString es')
text_changes p = record {
  sound = λ c. parts_sound c p (λ t. give (TextV t));
}

pub text_folds : {k : Context} {es : Exprs} (vs : List Value) → text_constants es ≡ Some vs → ExprSound k (InterpolatedString es) (StringConstant (texts_joined text_of vs))
text_folds {es = es} vs h = record {
  sound = λ c.
      let q : all (world c).host vs ≡ texts_joined text_of vs = texts_constant (world c).host es vs h in
      simulates_trans (constants_give c es vs (λ us. give (TextV (all (world c).host us))) (text_parts es vs h).1)
      (simulates_equal (λ m i. run (world c) m.env (give (TextV (q i))) m.store m.turns));
}

pub map_of_constants : {k : Context} {ps : Pairs} {template : List Text} (vs : List (Text × Value)) → constant_entries ps ≡ Some vs → ExprSound k (MapOf ps template) (DynamicConstant (MapV (fields_of vs)))
map_of_constants {ps = ps} {template = template} vs h = record {
  sound = λ c. expr_meant (is_map template ps) (core.MapOf (core_pairs c.in_loop ps)) (entries_give c ps vs (λ us. give (MapV (fields_of us))) h);
}
