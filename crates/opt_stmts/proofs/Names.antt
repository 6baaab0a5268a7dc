-- Shared names, one by one.
use Rattle.std.proofs.Common.{◌≡◌, ℕ, ◌+◌, ◌<◌, Bool, true, false, ◌&&◌, ◌||◌, not, List, [], ◌∷◌, Option, Some, None, is_some, length, get_or, drop, ◌↔◌, IsTrue, refl, ap, ◌∙◌, add-one}
use Rattle.std.proofs.Math.Seq.{drop-cons, drop-length}
use Rattle.std.specs.List.{filter}
use Rattle.std.specs.Prelude.{if◌then◌else◌}
use Rattle.std.specs.declared.num.NonZeroUsize.{NonZeroUsize}
use Rattle.base_tokens.specs.declared.ident.Ident.{Ident}
use Rattle.rhai_base.specs.Value.{Text, Value}
use Rattle.theory_meaning.specs.Tree.{Share}
use Rattle.ast_types.specs.Reading.{shared_names}
use Rattle.theory_rewriting.specs.Known.{Known, look, unless_known, unknown}
use Rattle.opt_base.specs.declared.step.NodeStep.TheVariants as step
use Rattle.opt_stmts.specs.Firing.{answer}
use Rattle.opt_stmts.specs.SettledAssignments.{knows_some, shares_nothing, is_settled_share}

pub knows-drop : (ks : List Known) (xs : List (Ident × Option NonZeroUsize)) (i : ℕ) (d : Ident × Option NonZeroUsize) → i < length xs → knows_some ks (shared_names (drop i xs)) ≡ (is_some (look ks (get_or xs i d).0.name) || knows_some ks (shared_names (drop (i + 1) xs)))
knows-drop ks xs i d h = rw (add-one, drop-cons xs i d) refl

pub knows-end : (ks : List Known) (xs : List (Ident × Option NonZeroUsize)) → knows_some ks (shared_names (drop (length xs) xs)) ≡ false
knows-end ks xs = ap (λ ys. knows_some ks (shared_names ys)) (drop-length xs)

pub ruleset steps = (knows-drop, knows-end)

-- those that are left
abbrev pub is_unknown : List Known → Ident × Option NonZeroUsize → Bool
is_unknown ks x = not (is_some (look ks x.0.name))

left-by : (o : Option Value) (x : Ident × Option NonZeroUsize) (xs : List (Ident × Option NonZeroUsize)) → shared_names (if not (is_some o) then x ∷ xs else xs) ≡ unless_known o x.0.name (shared_names xs)
left-by None x xs = refl
left-by (Some v) x xs = refl

pub left : (ks : List Known) (xs : List (Ident × Option NonZeroUsize)) → shared_names (filter (is_unknown ks) xs) ≡ unknown ks (shared_names xs)
left ks [] = refl
left ks (x ∷ xs) = left-by (look ks x.0.name) x (filter (is_unknown ks) xs) ∙ ap (unless_known (look ks x.0.name) x.0.name) (left ks xs)

pub nothing-of : (xs : List (Ident × Option NonZeroUsize)) (b : Bool) → (IsTrue b ↔ (xs ≡ [])) → b ≡ shares_nothing (Share (shared_names xs))
nothing-of [] b h = h.1 refl
nothing-of (x ∷ xs) true h = let k = h.0 refl in absurd cc
nothing-of (x ∷ xs) false h = refl

-- where there are some and none is known they stay
pub stays_shared : (ks : List Known) (xs : List Text) → false ≡ shares_nothing (Share xs) → false ≡ knows_some ks xs → step.Kept ≡ answer (not (shares_nothing (Share xs)) && is_settled_share ks (Share xs))
stays_shared ks xs n h = ap (λ b. answer (not b)) h ∙ ap (λ b. answer (not b && not (knows_some ks xs))) n
