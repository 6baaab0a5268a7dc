-- The stack of names over their bindings.
use Rattle.std.proofs.Common.{◌≡◌, ℕ, suc, ◌-◌, ◌<◌, Bool, true, false, cond, List, [], ◌∷◌, ◌++◌, length, drop, Option, Some, None, refl, sym, ap, ◌∙◌, subst, arith}
use Rattle.std.specs.Prelude.{bytes_eq, reverse}
use Rattle.std.specs.Option.{option_map}
use Rattle.std.proofs.Math.Path.{fun_ext}
use Rattle.std.proofs.lemmas.List.{reverse-append, length-reverse}
use Rattle.std.proofs.lemmas.Slice.Eq.{bytes_eq-Decides}
use Rattle.base_text.specs.Text.{Text}
use Rattle.rhai_base.specs.declared.dynamic.Dynamic.{Dynamic}
use Rattle.rhai_base.specs.Reading.{value_of}
use Rattle.theory_rewriting.specs.Known.{look}
use Rattle.opt_base.specs.Bindings.{Held, laid, newest, older, with_newest, without_newest}
use Rattle.opt_base.specs.State.{entries_of, Settled, known_of}

same_self : (x : Text) → bytes_eq x x ≡ true
same_self x = (bytes_eq-Decides x x).1 refl

newest-laid : (v : Option Dynamic) (l : List (Option Dynamic)) → newest (laid v l) ≡ v
newest-laid None [] = refl
newest-laid None (w ∷ l) = refl
newest-laid (Some v) l = refl

older-laid : (v : Option Dynamic) (l : List (Option Dynamic)) → older (laid v l) ≡ l
older-laid None [] = refl
older-laid None (w ∷ l) = refl
older-laid (Some v) l = refl

newest-cond : (b : Bool) (v : Option Dynamic) (l : List (Option Dynamic)) → b ≡ true → newest (cond b (laid v l) l) ≡ v
newest-cond true v l h = newest-laid v l
newest-cond false v l h = absurd cc

undone : (b : Bool) (v : Option Dynamic) (l : List (Option Dynamic)) → cond b (older (cond b (laid v l) l)) (cond b (laid v l) l) ≡ l
undone true v l = older-laid v l
undone false v l = refl

without-with : (x : Text) (v : Option Dynamic) (f : Held) → without_newest x (with_newest x v f) ≡ f
without-with x v f = fun_ext (λ y. undone (bytes_eq x y) v (f y))

-- ---- one more

pub entries-push : (x : Text) (xs : List Text) (v : Option Dynamic) (f : Held) → entries_of (x ∷ xs) (with_newest x v f) ≡ (x, v) ∷ entries_of xs f
entries-push x xs v f =
    ap (λ w. (x, w) ∷ entries_of xs (without_newest x (with_newest x v f))) (newest-cond (bytes_eq x x) v (f x) (same_self x))
    ∙ ap (λ g. (x, v) ∷ entries_of xs g) (without-with x v f)

pub settled-push : (x : Text) (xs : List Text) (v : Option Dynamic) (f : Held) → Settled xs f → Settled (x ∷ xs) (with_newest x v f)
settled-push x xs v f s = subst (Settled xs) (sym (without-with x v f)) s

-- ---- how many

pub entries-length : (xs : List Text) (f : Held) → length (entries_of xs f) ≡ length xs
entries-length [] f = refl
entries-length (x ∷ xs) f = ap suc (entries-length xs (without_newest x f))

-- ---- the latest of a name

latest-at : (b : Bool) (y x : Text) (f : Held) (o : Option Dynamic) → (b ≡ true → y ≡ x) → o ≡ newest (cond b (older (f x)) (f x)) → cond b (newest (f y)) o ≡ newest (f x)
latest-at true y x f o h e = ap (λ z. newest (f z)) (h refl)
latest-at false y x f o h e = e

none-left : (l : List (Option Dynamic)) → length l ≡ 0 → None ≡ newest l
none-left [] h = refl
none-left (v ∷ l) h = absurd (omega arith)

abbrev latest : List (Text × Option Dynamic) → Text → Option Dynamic
latest [] x = None
latest (e ∷ es) x = cond (bytes_eq e.0 x) e.1 (latest es x)

latest-entry : (xs : List Text) (f : Held) (x : Text) → Settled xs f → latest (entries_of xs f) x ≡ newest (f x)
latest-entry [] f x s = none-left (f x) (s x)
latest-entry (y ∷ ys) f x s = latest-at (bytes_eq y x) y x f _ (λ h. (bytes_eq-Decides y x).0 h) (latest-entry ys (without_newest y f) x s)

look-cond : (b : Bool) (v o : Option Dynamic) → cond b (option_map value_of v) (option_map value_of o) ≡ option_map value_of (cond b v o)
look-cond true v o = refl
look-cond false v o = refl

look-known : (es : List (Text × Option Dynamic)) (x : Text) → look (known_of es) x ≡ option_map value_of (latest es x)
look-known [] x = refl
look-known (e ∷ es) x = ap (cond (bytes_eq e.0 x) (option_map value_of e.1)) (look-known es x) ∙ look-cond (bytes_eq e.0 x) e.1 (latest es x)

pub look-latest : (xs : List Text) (f : Held) (x : Text) → Settled xs f → look (known_of (entries_of xs f)) x ≡ option_map value_of (newest (f x))
look-latest xs f x s = look-known (entries_of xs f) x ∙ ap (option_map value_of) (latest-entry xs f x s)

-- ---- the names stand newest last

reverse-push : (xs : List Text) (x : Text) → reverse (xs ++ x ∷ []) ≡ x ∷ reverse xs
reverse-push xs x = reverse-append xs (x ∷ [])

pub settled-pushed : (old new : List Text) (x : Text) (v : Option Dynamic) (f g : Held) → new ≡ old ++ x ∷ [] → g ≡ with_newest x v f → Settled (reverse old) f → Settled (reverse new) g
settled-pushed old new x v f g e h s = subst (λ xs. Settled xs g) (sym (ap reverse e ∙ reverse-push old x)) (subst (Settled (x ∷ reverse old)) (sym h) (settled-push x (reverse old) v f s))

pub entries-pushed : (old new : List Text) (x : Text) (v : Option Dynamic) (f g : Held) → new ≡ old ++ x ∷ [] → g ≡ with_newest x v f → entries_of (reverse new) g ≡ (x, v) ∷ entries_of (reverse old) f
entries-pushed old new x v f g e h = ap (λ xs. entries_of xs g) (ap reverse e ∙ reverse-push old x) ∙ ap (entries_of (x ∷ reverse old)) h ∙ entries-push x (reverse old) v f

pub settled-popped : (old new : List Text) (x : Text) (f g : Held) → old ≡ new ++ x ∷ [] → g ≡ without_newest x f → Settled (reverse old) f → Settled (reverse new) g
settled-popped old new x f g e h s = subst (Settled (reverse new)) (sym h) (let P : List Text → Type 0 = λ xs. Settled xs f in subst P (ap reverse e ∙ reverse-push new x) s)

pub entries-popped : (old new : List Text) (x : Text) (f g : Held) → old ≡ new ++ x ∷ [] → g ≡ without_newest x f → entries_of (reverse new) g ≡ drop 1 (entries_of (reverse old) f)
entries-popped old new x f g e h = ap (entries_of (reverse new)) h ∙ sym (ap (λ xs. drop 1 (entries_of xs f)) (ap reverse e ∙ reverse-push new x))

pub entries-none : (old new : List Text) (f : Held) → old ≡ new ++ [] → length old ≡ 0 → entries_of (reverse new) f ≡ drop 1 (entries_of (reverse old) f)
entries-none [] [] f e h = refl
entries-none [] (x ∷ new) f e h = absurd cc
entries-none (x ∷ old) new f e h = absurd (omega arith)

pub entries-count : (names : List Text) (f : Held) → length (entries_of (reverse names) f) ≡ length names
entries-count names f = entries-length (reverse names) f ∙ length-reverse names

pub rewound : (es : List (Text × Option Dynamic)) (n : ℕ) → n < length es → drop (length (drop 1 es) - n) (drop 1 es) ≡ drop (length es - n) es
rewound [] n h = absurd (omega arith)
rewound (e ∷ es) n h = sym (ap (λ k. drop k (e ∷ es)) (let q : length (e ∷ es) - n ≡ suc (length es - n) = omega arith in q))
