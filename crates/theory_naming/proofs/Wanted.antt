-- Which functions of a first table no function of a second would stand for, where names are found by a map.
use Rattle.std.proofs.Common.{◌≡◌, Bool, true, false, List, [], ◌∷◌, ◌++◌, length, Option, Some, None, refl, sym, ap, ◌∙◌, subst}
use Rattle.base_tokens.specs.Names.{after, anonymous}
use Rattle.rhai_base.specs.Value.{Text}
use Rattle.theory_meaning.specs.Act.{Key}
use Rattle.theory_meaning.specs.Calls.{key}
use Rattle.theory_meaning.specs.Tree.{Function}
use Rattle.theory_naming.specs.Alike.{key_at, function_at, renamed_key, IsWanted, unread, is_unread, or_unread, IsPaired}
use Rattle.theory_naming.specs.Renaming.{is_anonymous, with_mark}
use Rattle.theory_naming.proofs.Apart.{mark_own, is_marked}

-- there is a function of this key
abbrev pub HasKey : List Function → Key → Type 0
HasKey gs k = (g : Function) × (function_at gs k ≡ Some g)

mark_anonymous : (mark f : Text) → is_anonymous (with_mark mark f) ≡ is_anonymous f
mark_anonymous mark f = by (after anonymous f) refl where
  by : (o : Option Text) → after anonymous f ≡ o → is_anonymous (elim o [ None ↦ f | Some t ↦ anonymous ++ mark ++ t ]) ≡ elim o [ None ↦ false | Some t ↦ true ]
  by None h = ap (λ o. elim o [ None ↦ false | Some t ↦ true ]) h
  by (Some t) h = refl

module _ (find back : Text → Option Text) (p : IsPaired find back) where
  abbrev named : Text → Text
  named f = or_unread (find f) f

  named_anonymous_by : (f : Text) (o : Option Text) → find f ≡ o → is_anonymous (or_unread o f) ≡ is_anonymous f
  named_anonymous_by f None h = mark_anonymous unread f
  named_anonymous_by f (Some x) h = p.new f x h ∙ sym (p.old f x h)

  own_by : (f : Text) (o : Option Text) → find f ≡ o → is_anonymous f ≡ false → or_unread o f ≡ f
  own_by f None h k = mark_own unread f k
  own_by f (Some x) h k = let z : false ≡ true = sym k ∙ p.old f x h in absurd (cc)

  key_by : (f : Function) (l : Key) (n : Text) → key_at f ≡ renamed_key named l → n ≡ l.name → key n (length f.params) f.this_type ≡ l
  key_by f l n e q = λ i. record { name = q i; arity = (ap (λ k. k.arity) e) i; this_type = (ap (λ k. k.this_type) e) i }

  -- a name with the mark, where the name has no mark
  no_mark : (f l : Text) → is_anonymous f ≡ true → is_unread f ≡ false → f ≡ with_mark unread l → ⊥
  no_mark f l a u e = by (is_anonymous l) refl where
    by : (b : Bool) → is_anonymous l ≡ b → ⊥
    by true h = let z : false ≡ true = sym u ∙ ap is_unread e ∙ is_marked l h in absurd (cc)
    by false h = let z : true ≡ false = sym a ∙ ap is_anonymous e ∙ mark_anonymous unread l ∙ h in absurd (cc)

  pub wanted_own : (gs : List Function) (f : Function) → is_anonymous f.name ≡ false → HasKey gs (key_at f) → IsWanted named gs f
  wanted_own gs f a h = λ l e.
      let name : f.name ≡ named l.name = ap (λ k. k.name) e in
      let other : is_anonymous l.name ≡ false = sym (named_anonymous_by l.name (find l.name) refl) ∙ sym (ap is_anonymous name) ∙ a in
      subst (HasKey gs) (key_by f l f.name e (name ∙ own_by l.name (find l.name) refl other)) h

  pub wanted_listed : (gs : List Function) (f : Function) (r : Text) → is_anonymous f.name ≡ true → is_unread f.name ≡ false → back f.name ≡ Some r → HasKey gs (key r (length f.params) f.this_type) → IsWanted named gs f
  wanted_listed gs f r a u b h = λ l e. by l e (find l.name) refl where
    by : (l : Key) → key_at f ≡ renamed_key named l → (o : Option Text) → find l.name ≡ o → HasKey gs l
    by l e None k = absurd (no_mark f.name l.name a u (ap (λ k. k.name) e ∙ ap (λ o. or_unread o l.name) k))
    by l e (Some x) k =
        let there : f.name ≡ x = ap (λ k. k.name) e ∙ ap (λ o. or_unread o l.name) k in
        let same : Some r ≡ Some l.name = sym b ∙ ap back there ∙ p.from l.name x k in
        subst (HasKey gs) (key_by f l r e (let q : r ≡ l.name = cc in q)) h

  pub wanted_dead : (gs : List Function) (f : Function) → is_anonymous f.name ≡ true → is_unread f.name ≡ false → back f.name ≡ None → IsWanted named gs f
  wanted_dead gs f a u b = λ l e. by l e (find l.name) refl where
    by : (l : Key) → key_at f ≡ renamed_key named l → (o : Option Text) → find l.name ≡ o → HasKey gs l
    by l e None k = absurd (no_mark f.name l.name a u (ap (λ k. k.name) e ∙ ap (λ o. or_unread o l.name) k))
    by l e (Some x) k =
        let there : f.name ≡ x = ap (λ k. k.name) e ∙ ap (λ o. or_unread o l.name) k in
        let z : None ≡ Some l.name = sym b ∙ ap back there ∙ p.from l.name x k in absurd (cc)
