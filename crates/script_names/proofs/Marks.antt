-- Marks keep names apart.
use Rattle.std.proofs.Common.{◌≡◌, Bool, true, false, ◌==◌, [], ◌∷◌, ◌++◌, Option, Some, None, refl, sym, ap, ◌∙◌, if◌then◌else◌}
use Rattle.std.proofs.lemmas.Bool.{eqb-true}
use Rattle.std.proofs.lemmas.List.{append_cancel_left}
use Rattle.base_tokens.specs.Names.{after, anonymous}
use Rattle.rhai_base.specs.Value.{Text}
use Rattle.theory_naming.specs.Renaming.{with_mark}

pub after_is : (p f t : Text) → after p f ≡ Some t → f ≡ p ++ t
after_is [] f t h = cc
after_is (c ∷ cs) [] t h = absurd (cc)
after_is (c ∷ cs) (d ∷ ds) t h = by (c == d) refl h (after_is cs ds t)
  where
    by : (b : Bool) → (c == d) ≡ b → (if b then after cs ds else None) ≡ Some t → (after cs ds ≡ Some t → ds ≡ cs ++ t) → d ∷ ds ≡ c ∷ (cs ++ t)
    by true e k rest = λ i. sym (eqb-true c d e) i ∷ rest k i
    by false e k rest = absurd (cc)

abbrev marked_by : Text → Text → Option Text → Text
marked_by m f o = elim o [ None ↦ f | Some t ↦ anonymous ++ m ++ t ]

pub marked_apart : (m f g : Text) → with_mark m f ≡ with_mark m g → f ≡ g
marked_apart m f g h = by (after anonymous f) (after anonymous g) refl refl h
  where
    by : (o p : Option Text) → after anonymous f ≡ o → after anonymous g ≡ p → marked_by m f o ≡ marked_by m g p → f ≡ g
    by None None i j k = k
    by (Some t) (Some u) i j k = after_is anonymous f t i ∙ ap (λ x. anonymous ++ x) (append_cancel_left (anonymous ++ m) t u k) ∙ sym (after_is anonymous g u j)
    by None (Some u) i j k = absurd (let z : None ≡ Some (m ++ u) = sym i ∙ ap (after anonymous) k in cc)
    by (Some t) None i j k = absurd (let z : None ≡ Some (m ++ t) = sym j ∙ ap (after anonymous) (sym k) in cc)
