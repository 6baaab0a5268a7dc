-- The rules of interpolated texts and of maps: a lemma each, of the rule's name.
use Rattle.std.proofs.Common.{◌≡◌, ◌<◌, Bool, List, ◌++◌, Some, arith}
use Rattle.rhai_base.specs.Value.{Text, Value, TextV, MapV, text_of}
use Rattle.theory_meaning.specs.Constants.{text_constants, constant_entries}
use Rattle.theory_meaning.specs.Control.{texts_joined}
use Rattle.theory_meaning.specs.Elements.{fields_of}
use Rattle.theory_meaning.specs.Tree.{DynamicConstant, StringConstant, InterpolatedString, MapOf, Exprs, Pairs}
use Rattle.theory_meaning.specs.Walk.{Node, Around, whole, throughout, over_exprs}
use Rattle.theory_meaning.specs.Weight.{exprs_weight}
use Rattle.theory_rewriting.specs.Context.{Context}
use Rattle.theory_rewriting.specs.Operands.{TextTo, in_other_parts, texts_join, empty_goes}
use Rattle.theory_rewriting.proofs.rules.Given.{heavy}
use Rattle.theory_rewriting.proofs.rules.Lasting.{same_text, Lasting}
use Rattle.theory_rewriting.proofs.rules.Obligation.{ExprObligation}

parts_fall : {es es' : Exprs} → TextTo es es' → exprs_weight es' < exprs_weight es
parts_fall (in_other_parts p) = omega (arith, parts_fall p)
parts_fall texts_join = omega arith
parts_fall (empty_goes {e = e} v h f j) = omega (arith, heavy e)

module _ (P : Around → Node → Type 0) (l : Bool) (lasts : Lasting P l) where
  parts_keep : {es es' : Exprs} → TextTo es es' → over_exprs (throughout P) es (whole l) → over_exprs (throughout P) es' (whole l)
  parts_keep (in_other_parts p) h = (h.0, parts_keep p h.1)
  parts_keep (texts_join {t = t} {u = u}) h = ((lasts.value (TextV (t ++ u)), tt), h.1.1)
  parts_keep (empty_goes v q f r) h = h.1

-- ---- the rules

pub text_changes : {k : Context} {es es' : Exprs} → TextTo es es' → ExprObligation k (InterpolatedString es) (InterpolatedString es')
text_changes p = record {
  lighter = omega (arith, parts_fall p);
  keeps = λ P l lasts h. (lasts.again same_text h.0, parts_keep P l lasts p h.1);
}

pub text_folds : {k : Context} {es : Exprs} (vs : List Value) → text_constants es ≡ Some vs → ExprObligation k (InterpolatedString es) (StringConstant (texts_joined text_of vs))
text_folds {es = es} vs h = record {
  lighter = omega arith;
  keeps = λ P l lasts j. (lasts.value (TextV (texts_joined text_of vs)), tt);
}

pub map_of_constants : {k : Context} {ps : Pairs} {template : List Text} (vs : List (Text × Value)) → constant_entries ps ≡ Some vs → ExprObligation k (MapOf ps template) (DynamicConstant (MapV (fields_of vs)))
map_of_constants {ps = ps} {template = template} vs h = record {
  lighter = omega arith;
  keeps = λ P l lasts j. (lasts.value (MapV (fields_of vs)), tt);
}
