-- Lists of expressions that lose some of them in one pass.
use Rattle.std.proofs.Common.{◌≡◌, ◌<◌, ℕ, suc, ◌+◌, inl, inr, Bool, true, false, not, ◌||◌, nat_eq, List, [], ◌∷◌, length, get_or, drop, refl, sym, ap, ◌∙◌, subst}
use Rattle.std.proofs.lemmas.Bool.Decides.{eqb_tells}
use Rattle.std.proofs.lemmas.List.{drop_more}
use Rattle.ast_types.specs.declared.expr.Expr as declared_expr
use Rattle.theory_meaning.specs.Tree.{Exprs, count_exprs}
use Rattle.ast_types.specs.Reading.{exprs_of}
use Rattle.opt_base.specs.Passes.{InTurn}

pub or_false : (a b : Bool) → a ≡ false → b ≡ false → a || b ≡ false
or_false true b h i = absurd cc
or_false false b h i = i

pub item : (xs : List declared_expr.Expr) (n : ℕ) (x : declared_expr.Expr) → n < length xs → x ≡ get_or xs n x → drop n xs ≡ x ∷ drop (n + 1) xs
item xs n x lt h = drop_more xs n x lt ∙ ap (λ y. y ∷ drop (n + 1) xs) (sym h)

-- changes of lists that are spelled so
pub turn_as : {R : Exprs → Exprs → Type 0} {xs xs' ys ys' : List declared_expr.Expr} → xs' ≡ xs → ys' ≡ ys → InTurn R (exprs_of xs) (exprs_of ys) → InTurn R (exprs_of xs') (exprs_of ys')
turn_as {R = R} {xs = xs} {ys' = ys'} h i q = subst (λ (z : List declared_expr.Expr). InTurn R (exprs_of z) (exprs_of ys')) (sym h) (subst (λ (z : List declared_expr.Expr). InTurn R (exprs_of xs) (exprs_of z)) (sym i) q)

-- ---- whether any went, by the number of those that are left

count-of : (xs : List declared_expr.Expr) → count_exprs (exprs_of xs) ≡ length xs
count-of [] = refl
count-of (x ∷ xs) = ap suc (count-of xs)

pub went : (xs ys : List declared_expr.Expr) → (length ys ≡ length xs → ⊥) → exprs_of xs ≡ exprs_of ys → ⊥
went xs ys n e = n (sym (sym (count-of xs) ∙ ap count_exprs e ∙ count-of ys))

pub by_length : (C : Bool → Type 0) (m n a b : ℕ) → a ≡ m → b ≡ n → (m ≡ n → C false) → ((m ≡ n → ⊥) → C true) → C (not (nat_eq a b))
by_length C m n a b i j f g =
    let P = λ (t : Bool). C (not t) in
    elim (eqb_tells a b) [ inl h ↦ subst P (sym h.0) (f (sym i ∙ h.1 ∙ j)) | inr h ↦ subst P (sym h.0) (g (λ e. h.1 (i ∙ e ∙ sym j))) ]
