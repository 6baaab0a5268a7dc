-- New names that are as different as the old ones: by marks, and by a list.
use Rattle.std.proofs.Common.{◌≡◌, ℕ, Bool, true, false, ◌==◌, List, [], ◌∷◌, ◌++◌, Option, Some, None, refl, sym, ap, ◌∙◌, subst, append_assoc}
use Rattle.std.specs.Prelude.{codes, if◌then◌else◌}
use Rattle.std.specs.Cmp.{unsigned_Decides}
use Rattle.std.proofs.lemmas.Slice.Eq.{bytes_eq-Decides}
use Rattle.base_tokens.specs.Names.{after, anonymous}
use Rattle.rhai_base.specs.Value.{Text, same_text, shown}
use Rattle.theory_naming.specs.Alike.{AreApart, unread, is_unread, or_unread, IsPaired}
use Rattle.theory_naming.specs.Renaming.{is_anonymous, with_mark}

text_exact : (a b : Text) → same_text a b ≡ true → a ≡ b
text_exact a b h = (bytes_eq-Decides a b).0 h

text_itself : (a : Text) → same_text a a ≡ true
text_itself a = (bytes_eq-Decides a a).1 refl

by_both : (a b : Bool) → (a ≡ true → b ≡ true) → (b ≡ true → a ≡ true) → a ≡ b
by_both true b h k = sym (h refl)
by_both false true h k = k refl
by_both false false h k = refl

same_by : (a b c d : Text) → (a ≡ b → c ≡ d) → (c ≡ d → a ≡ b) → same_text a b ≡ same_text c d
same_by a b c d h k = by_both (same_text a b) (same_text c d) (λ e. subst (λ x. same_text c x ≡ true) (h (text_exact a b e)) (text_itself c)) (λ e. subst (λ x. same_text a x ≡ true) (k (text_exact c d e)) (text_itself a))

apart_by : (named : Text → Text) → ((f g : Text) → named f ≡ named g → f ≡ g) → (f g : Text) → same_text (named f) (named g) ≡ same_text f g
apart_by named h f g = same_by (named f) (named g) f g (h f g) (ap named)

-- ---- what stands behind letters

after_by : (b : Bool) (c d : ℕ) (p r t : Text) → (c == d) ≡ b → (if b then after p r else None) ≡ Some t → (after p r ≡ Some t → r ≡ p ++ t) → d ∷ r ≡ (c ∷ p) ++ t
after_by true c d p r t e h k = λ i. sym ((unsigned_Decides c d).0 e) i ∷ k h i
after_by false c d p r t e h k = absurd (cc)

pub after_exact : (p f t : Text) → after p f ≡ Some t → f ≡ p ++ t
after_exact [] f t h = let z : f ≡ t = cc in z
after_exact (c ∷ p) [] t h = absurd (cc)
after_exact (c ∷ p) (d ∷ r) t h = after_by (c == d) c d p r t refl h (after_exact p r t)

after_found : (p t : Text) → after p (p ++ t) ≡ Some t
after_found [] t = refl
after_found (c ∷ p) t = (λ i. if (unsigned_Decides c c).1 refl i then after p (p ++ t) else None) ∙ after_found p t

behind : (p t u : Text) → p ++ t ≡ p ++ u → t ≡ u
behind p t u h = let z : Some t ≡ Some u = sym (after_found p t) ∙ ap (after p) h ∙ after_found p u in cc

-- ---- marks

abbrev marked : Text → Text → Option Text → Text
marked mark f None = f
marked mark f (Some t) = anonymous ++ mark ++ t

not_marked : (mark f t : Text) → after anonymous f ≡ None → f ≡ anonymous ++ mark ++ t → ⊥
not_marked mark f t h e =
    let z : None ≡ Some (mark ++ t) = sym h ∙ ap (after anonymous) (e ∙ append_assoc anonymous mark t) ∙ after_found anonymous (mark ++ t) in
    absurd (cc)

mark_by : (mark f g : Text) (o p : Option Text) → after anonymous f ≡ o → after anonymous g ≡ p → marked mark f o ≡ marked mark g p → f ≡ g
mark_by mark f g None None h k e = e
mark_by mark f g (Some t) (Some u) h k e = after_exact anonymous f t h ∙ ap (λ x. anonymous ++ x) (behind (anonymous ++ mark) t u e) ∙ sym (after_exact anonymous g u k)
mark_by mark f g None (Some u) h k e = absurd (not_marked mark f u h e)
mark_by mark f g (Some t) None h k e = absurd (not_marked mark g t k (sym e))

pub mark_apart : (mark f g : Text) → with_mark mark f ≡ with_mark mark g → f ≡ g
mark_apart mark f g e = mark_by mark f g (after anonymous f) (after anonymous g) refl refl e

shown_behind : (t : Text) → shown (anonymous ++ t) ≡ anonymous
shown_behind t = refl

mark_shown_by : (mark f : Text) (o : Option Text) → after anonymous f ≡ o → shown (elim o [ None ↦ f | Some t ↦ anonymous ++ mark ++ t ]) ≡ elim o [ None ↦ f | Some t ↦ anonymous ]
mark_shown_by mark f None h = ap (λ o. elim o [ None ↦ f | Some t ↦ anonymous ]) h
mark_shown_by mark f (Some t) h = ap shown (append_assoc anonymous mark t) ∙ shown_behind (mark ++ t)

mark_own_by : (mark f : Text) (o : Option Text) → elim o [ None ↦ false | Some t ↦ true ] ≡ false → elim o [ None ↦ f | Some t ↦ anonymous ++ mark ++ t ] ≡ f
mark_own_by mark f None h = refl
mark_own_by mark f (Some t) h = absurd (cc)

pub mark_own : (mark f : Text) → is_anonymous f ≡ false → with_mark mark f ≡ f
mark_own mark f h = mark_own_by mark f (after anonymous f) h

pub marks_apart : (mark : Text) → AreApart (with_mark mark)
marks_apart mark = record {
  apart = apart_by (with_mark mark) (mark_apart mark);
  shown = λ f. mark_shown_by mark f (after anonymous f) refl;
  own = mark_own mark;
}

-- ---- maps

-- a name with the mark is none that is found
unread_by : (g x : Text) (o : Option Text) → after anonymous g ≡ o → is_anonymous x ≡ true → is_unread x ≡ false → x ≡ elim o [ None ↦ g | Some t ↦ anonymous ++ unread ++ t ] → ⊥
unread_by g x None h p q e = let z : is_anonymous g ≡ true = ap is_anonymous (sym e) ∙ p in let y : is_anonymous g ≡ false = ap (λ o. elim o [ None ↦ false | Some t ↦ true ]) h in absurd (cc)
unread_by g x (Some t) h p q e = let z : false ≡ true = sym q ∙ ap is_unread e in absurd (cc)

shown_anonymous : (f : Text) (o : Option Text) → elim o [ None ↦ false | Some t ↦ true ] ≡ true → elim o [ None ↦ f | Some t ↦ anonymous ] ≡ anonymous
shown_anonymous f None h = absurd (cc)
shown_anonymous f (Some t) h = refl

-- where the mark stands, the name was marked
pub is_marked : (f : Text) → is_anonymous f ≡ true → is_unread (with_mark unread f) ≡ true
is_marked f h = by (after anonymous f) h where
  by : (o : Option Text) → elim o [ None ↦ false | Some t ↦ true ] ≡ true → is_unread (elim o [ None ↦ f | Some t ↦ anonymous ++ unread ++ t ]) ≡ true
  by None k = absurd (cc)
  by (Some t) k = refl

module _ (find back : Text → Option Text) (p : IsPaired find back) where
  found_apart : (f g : Text) (o q : Option Text) → find f ≡ o → find g ≡ q → or_unread o f ≡ or_unread q g → f ≡ g
  found_apart f g None None h k e = mark_apart unread f g e
  found_apart f g (Some x) (Some y) h k e = let z : Some f ≡ Some g = sym (p.from f x h) ∙ ap back e ∙ p.from g y k in cc
  found_apart f g (Some x) None h k e = absurd (unread_by g x (after anonymous g) refl (p.new f x h) (p.read f x h) e)
  found_apart f g None (Some y) h k e = absurd (unread_by f y (after anonymous f) refl (p.new g y k) (p.read g y k) (sym e))

  own_by : (f : Text) (o : Option Text) → find f ≡ o → is_anonymous f ≡ false → or_unread o f ≡ f
  own_by f None h k = mark_own unread f k
  own_by f (Some x) h k = let z : false ≡ true = sym k ∙ p.old f x h in absurd (cc)

  shown_by : (f : Text) (o : Option Text) → find f ≡ o → shown (or_unread o f) ≡ shown f
  shown_by f None h = (marks_apart unread).shown f
  shown_by f (Some x) h = shown_anonymous x (after anonymous x) (p.new f x h) ∙ sym (shown_anonymous f (after anonymous f) (p.old f x h))

  pub found_names_apart : AreApart (λ f. or_unread (find f) f)
  found_names_apart = record {
    apart = apart_by (λ f. or_unread (find f) f) (λ f g. found_apart f g (find f) (find g) refl refl);
    shown = λ f. shown_by f (find f) refl;
    own = λ f. own_by f (find f) refl;
  }
