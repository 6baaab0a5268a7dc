-- What a map gives, where each of its entries is a pair.
use Rattle.std.proofs.Common.{◌≡◌, Bool, true, false, cond, List, [], ◌∷◌, ◌++◌, Option, Some, None, refl, sym, ap, ◌∙◌, subst}
use Rattle.std.proofs.lemmas.Map.Text.{is_eq-slice_cmp}
use Rattle.std.proofs.lemmas.Slice.Eq.{bytes_eq-Decides}
use Rattle.std.specs.BTreeMap.{is_at}
use Rattle.std.specs.Cmp.Lexicographic.{slice_cmp}
use Rattle.std.specs.Map.{lookup}
use Rattle.std.specs.Ordering.{nat_cmp}
use Rattle.rhai_base.specs.Value.{Text}
use Rattle.theory_naming.specs.Alike.{IsPaired}
use Rattle.script_names.specs.Names.{listed}
use Rattle.ast_alike.specs.Scripts.{IsPair}

abbrev pub ArePaired : List (Text × Text) → List (Text × Text) → Type 0
ArePaired back [] = Unit {0}
ArePaired back (e ∷ es) = IsPair back e.0 e.1 × ArePaired back es

pub one_more_pair : (back es : List (Text × Text)) (e : Text × Text) → ArePaired back es → IsPair back e.0 e.1 → ArePaired back (es ++ e ∷ [])
one_more_pair back [] e h k = (k, tt)
one_more_pair back (d ∷ es) e h k = (h.0, one_more_pair back es e h.1 k)

pair_by : (b : Bool) (back : List (Text × Text)) (e : Text × Text) (f x : Text) (o : Option Text) → is_at (slice_cmp nat_cmp f) e.0 ≡ b → IsPair back e.0 e.1 → (o ≡ Some x → IsPair back f x) → cond b (Some e.1) o ≡ Some x → IsPair back f x
pair_by true back e f x o q h k r =
    let same : f ≡ e.0 = (bytes_eq-Decides f e.0).0 (sym (is_eq-slice_cmp f e.0) ∙ q) in
    let there : e.1 ≡ x = cc in
    subst (λ y. IsPair back f y) there (subst (λ g. IsPair back g e.1) (sym same) h)
pair_by false back e f x o q h k r = k r

paired_at : (back es : List (Text × Text)) (f x : Text) → ArePaired back es → listed es f ≡ Some x → IsPair back f x
paired_at back [] f x h r = absurd (cc)
paired_at back (e ∷ es) f x h r = pair_by (is_at (slice_cmp nat_cmp f) e.0) back e f x (listed es f) refl h.0 (paired_at back es f x h.1) r

pub are_paired : (back es : List (Text × Text)) → ArePaired back es → IsPaired (listed es) (listed back)
are_paired back es h = record {
  old = λ f x r. (paired_at back es f x h r).old;
  new = λ f x r. (paired_at back es f x h r).new;
  read = λ f x r. (paired_at back es f x h r).read;
  from = λ f x r. (paired_at back es f x h r).from;
}
