-- What is bound to names after a map from texts has changed at one.
use Rattle.std.proofs.Common.{◌≡◌, Bool, true, false, cond, ◌-◌, List, [], ◌∷◌, ◌++◌, length, take, map, append-nil, arith, Option, Some, None, refl, sym, ap, ◌∙◌}
use Rattle.std.specs.Prelude.{String, is_some, reverse, bytes_eq, option_to_list}
use Rattle.std.specs.BTreeMap.{BTreeMap, UpdatesBy, get_by_text}
use Rattle.std.specs.Cmp.Lexicographic.{slice_cmp}
use Rattle.std.specs.Ordering.{nat_cmp}
use Rattle.std.specs.String.{string_bytes, string_cmp}
use Rattle.std.specs.declared.alloc.Global.{Global}
use Rattle.std.specs.declared.borrow.Cow.{Cow}
use Rattle.std.specs.declared.vec.Vec.{Vec}
use Rattle.std.proofs.Math.Path.{fun_ext}
use Rattle.std.proofs.lemmas.List.{reverse-append, map-append, length-take}
use Rattle.std.proofs.lemmas.Map.Text.{btree_map_updates_text}
use Rattle.std.proofs.lemmas.Slice.Eq.{bytes_eq-Decides}
use Rattle.base_text.specs.Text.{Text}
use Rattle.rhai_base.specs.declared.dynamic.Dynamic.{Dynamic}
use Rattle.opt_base.specs.Bindings.{Held, read, laid, older, with_newest, without_newest, newest_first, held, held_in}

abbrev pub Bound : Type 0
Bound = Vec (Option (Cow Dynamic)) Global

abbrev pub Map : Type 0
Map = BTreeMap (String Global) Bound

-- n is m with w at the text x
abbrev pub Written : Map → Map → Text → Option Bound → Type 0
Written m n x w = UpdatesBy string_cmp (λ k. slice_cmp nat_cmp x (string_bytes k)) m n w

held-cond : (b : Bool) (v w : Option Bound) → held (cond b v w) ≡ cond b (held v) (held w)
held-cond true v w = refl
held-cond false v w = refl

abbrev at : Text → List (Option Dynamic) → Held → Held
at x vs f = λ y. cond (bytes_eq x y) vs (f y)

abbrev by : Text → (List (Option Dynamic) → List (Option Dynamic)) → Held → Held
by x g f = λ y. cond (bytes_eq x y) (g (f y)) (f y)

held-written : (m n : Map) (x : Text) (w : Option Bound) → Written m n x w → held_in n ≡ at x (held w) (held_in m)
held-written m n x w u = fun_ext (λ y. ap held (btree_map_updates_text x m n w u y) ∙ held-cond (bytes_eq x y) w (get_by_text m y))

-- at x alone there is what f makes of what was there
changed-at : (b : Bool) (x y : Text) (f : Held) (g : List (Option Dynamic) → List (Option Dynamic)) (vs : List (Option Dynamic)) → (b ≡ true → x ≡ y) → vs ≡ g (f x) → cond b vs (f y) ≡ cond b (g (f y)) (f y)
changed-at true x y f g vs h e = e ∙ ap (λ z. g (f z)) (h refl)
changed-at false x y f g vs h e = refl

changed : (x : Text) (f : Held) (g : List (Option Dynamic) → List (Option Dynamic)) (vs : List (Option Dynamic)) → vs ≡ g (f x) → at x vs f ≡ by x g f
changed x f g vs e = fun_ext (λ y. changed-at (bytes_eq x y) x y f g vs (λ h. (bytes_eq-Decides x y).0 h) e)

same-cond : {A : Type 0} (b : Bool) (a : A) → cond b a a ≡ a
same-cond true a = refl
same-cond false a = refl

same-by : (x : Text) (f : Held) → by x (λ l. l) f ≡ f
same-by x f = fun_ext (λ y. same-cond (bytes_eq x y) (f y))

-- a list of a name that had none
pub held-made : (m n : Map) (x : Text) (v : Bound) (b : Option (Cow Dynamic)) → v.items ≡ b ∷ [] → is_some b ≡ true → get_by_text m x ≡ None → Written m n x (Some v) → held_in n ≡ with_newest x (read b) (held_in m)
held-made m n x v None e h o u = absurd cc
held-made m n x v (Some b) e h o u =
    held-written m n x (Some v) u ∙ changed x (held_in m) (laid (read (Some b))) (held (Some v)) (ap newest_first e ∙ ap (laid (read (Some b))) (sym (ap held o)))

-- a variable of a name that has none
left-at : (b : Bool) (x y : Text) (f : Held) → (b ≡ true → x ≡ y) → f x ≡ [] → f y ≡ cond b (laid None (f y)) (f y)
left-at true x y f h e = let q : f y ≡ [] = sym (ap f (h refl)) ∙ e in q ∙ sym (ap (laid None) q)
left-at false x y f h e = refl

pub held-left : (m : Map) (x : Text) (b : Option (Cow Dynamic)) → is_some b ≡ false → get_by_text m x ≡ None → held_in m ≡ with_newest x (read b) (held_in m)
held-left m x None h o = fun_ext (λ y. left-at (bytes_eq x y) x y (held_in m) (λ q. (bytes_eq-Decides x y).0 q) (ap held o))
held-left m x (Some b) h o = absurd cc

newest_first-push : (xs : List (Option (Cow Dynamic))) (b : Option (Cow Dynamic)) → newest_first (xs ++ b ∷ []) ≡ read b ∷ newest_first xs
newest_first-push xs b = ap reverse (map-append read xs (b ∷ [])) ∙ reverse-append (map read xs) (read b ∷ [])

-- one more
pub held-laid : (m n : Map) (x : Text) (v w : Bound) (b : Option (Cow Dynamic)) → get_by_text m x ≡ Some v → newest_first w.items ≡ laid (read b) (newest_first v.items) → Written m n x (Some w) → held_in n ≡ with_newest x (read b) (held_in m)
held-laid m n x v w b o e u =
    held-written m n x (Some w) u ∙ changed x (held_in m) (laid (read b)) (held (Some w)) (e ∙ ap (laid (read b)) (sym (ap held o)))

-- the same ones
pub held-kept : (m n : Map) (x : Text) (v w : Bound) → get_by_text m x ≡ Some v → w.items ≡ v.items → Written m n x (Some w) → held_in n ≡ held_in m
held-kept m n x v w o e u =
    held-written m n x (Some w) u ∙ changed x (held_in m) (λ l. l) (held (Some w)) (ap newest_first e ∙ sym (ap held o)) ∙ same-by x (held_in m)

-- a list is longer than itself without its last item
shorter : {A : Type 0} (x : A) (xs ys : List A) → x ∷ xs ≡ ys → ys ≡ take (length (x ∷ xs) - 1) (x ∷ xs) → ⊥
shorter x xs ys e t = omega (arith, ap length e, ap length t, length-take (length (x ∷ xs) - 1) (x ∷ xs))

-- one less
newest_first-pop : (xs ys : List (Option (Cow Dynamic))) (b : Option (Option (Cow Dynamic))) → xs ≡ ys ++ option_to_list b → ys ≡ take (length xs - 1) xs → newest_first ys ≡ older (newest_first xs)
newest_first-pop xs ys (Some b) e t = sym (ap older (ap newest_first e ∙ newest_first-push ys b))
newest_first-pop [] ys None e t = ap newest_first t
newest_first-pop (x ∷ xs) ys None e t = absurd (shorter x xs ys (e ∙ append-nil ys) t)

pub held-popped : (m n : Map) (x : Text) (v w : Bound) (b : Option (Option (Cow Dynamic))) → get_by_text m x ≡ Some v → v.items ≡ w.items ++ option_to_list b → w.items ≡ take (length v.items - 1) v.items → Written m n x (Some w) → held_in n ≡ without_newest x (held_in m)
held-popped m n x v w b o e t u =
    held-written m n x (Some w) u ∙ changed x (held_in m) older (held (Some w)) (newest_first-pop v.items w.items b e t ∙ ap older (sym (ap held o)))
