-- Answers that no list asks for, by the rule `switch_forgets`.
use Rattle.std.proofs.Common.{◌≡◌, ℕ, zero, suc, ◌<◌, ◌≤◌, Bool, true, false, not, List, [], ◌∷◌, ◌++◌, Option, Some, None, length, take, set, refl, sym, ap, ◌∙◌, subst, arith}
use Rattle.std.specs.Prelude.{◌||◌, ◌==◌, slice_get}
use Rattle.std.proofs.lemmas.Bool.Decides.{Decides-eqb}
use Rattle.theory_meaning.specs.Constants.{is_literal_unit}
use Rattle.theory_meaning.specs.Queries.{is_unit}
use Rattle.theory_meaning.specs.Shape.{names_arm}
use Rattle.theory_meaning.specs.Tree.{Expr, UnitConstant, Arms, no_arms, arm, SwitchTable, Stmt, Switch}
use Rattle.theory_meaning.specs.Walk.{listed}
use Rattle.theory_meaning.specs.Weight.{stmt_weight}
use Rattle.std.proofs.lemmas.List.{take_all, length-set}
use Rattle.theory_rewriting.specs.Context.{Context}
use Rattle.theory_rewriting.proofs.rules.Statements.{stmt_rule}
use Rattle.theory_rewriting.specs.Rewriting.{StmtTo, then_stmt, by_stmt_rule}
use Rattle.theory_rewriting.specs.Rules.{switch_forgets}
use Rattle.theory_rewriting.specs.Tables.{arm_of, forgotten}
use Rattle.opt_switch.specs.Forgetting.{marked, answer_left, forgets, loses_answer, loses_answers}

-- ---- marks

pub unequal : (i j : ℕ) → (i ≡ j → ⊥) → i == j ≡ false
unequal i j h = by (i == j) refl where
  by : (b : Bool) → i == j ≡ b → b ≡ false
  by true e = absurd (h ((Decides-eqb i j).0 e))
  by false e = refl

abbrev less : ℕ → ℕ
less zero = zero
less (suc n) = n

abbrev none_marked : List Bool
none_marked = []

no_mark : (i : ℕ) → slice_get none_marked i ≡ None
no_mark zero = refl
no_mark (suc i) = refl

abbrev given_or : Bool → Option Bool → Bool
given_or m None = m
given_or m (Some b) = b

-- a place that is not marked is not the one that was set
unset : (ms : List Bool) (j i : ℕ) → slice_get (set ms j true) i ≡ Some false → (slice_get ms i ≡ Some false) × (i ≡ j → ⊥)
unset [] zero i h = (h, λ e. absurd (let z : None ≡ Some false = sym (no_mark i) ∙ h in cc))
unset [] (suc j) i h = (h, λ e. absurd (let z : None ≡ Some false = sym (no_mark i) ∙ h in cc))
unset (m ∷ ms) zero zero h = absurd (let z : Some true ≡ Some false = h in cc)
unset (m ∷ ms) zero (suc i) h = (h, λ e. absurd (let z : suc i ≡ zero = e in cc))
unset (m ∷ ms) (suc j) zero h = (h, λ e. absurd (let z : zero ≡ suc j = e in cc))
unset (m ∷ ms) (suc j) (suc i) h = let z = unset ms j i h in (z.0, λ e. z.1 (ap less e))

-- what is not marked is not named
pub unnamed : (ms : List Bool) (is : List ℕ) (i : ℕ) → slice_get (marked ms is) i ≡ Some false → (slice_get ms i ≡ Some false) × (names_arm i is ≡ false)
unnamed ms [] i h = (h, refl)
unnamed ms (j ∷ is) i h =
    let z = unnamed (set ms j true) is i h in
    let y = unset ms j i z.0 in
    (y.0, ap (λ b. b || names_arm i is) (unequal i j y.1) ∙ z.1)

pub marked-more : (ms : List Bool) (is js : List ℕ) → marked ms (is ++ js) ≡ marked (marked ms is) js
marked-more ms [] js = refl
marked-more ms (i ∷ is) js = marked-more (set ms i true) is js

none_past : (ms : List Bool) (n : ℕ) → slice_get ms n ≡ None → length ms ≤ n
none_past [] n h = omega arith
none_past (m ∷ ms) zero h = absurd (let z : Some m ≡ None = h in cc)
none_past (m ∷ ms) (suc n) h = omega (arith, none_past ms n h)

-- ---- one answer after another

-- with another answer at a place
abbrev pub put : ℕ → Bool → Arms → Arms
put n m no_arms = no_arms
put zero m (arm c a as') = arm c (answer_left m a) as'
put (suc n) m (arm c a as') = arm c a (put n m as')

pub put_next : (ms : List Bool) (as' : Arms) (n : ℕ) (m : Bool) → slice_get ms n ≡ Some m → put n m (forgets (take n ms) as') ≡ forgets (take (suc n) ms) as'
put_next [] as' zero m h = absurd (let z : None ≡ Some m = h in cc)
put_next [] as' (suc n) m h = absurd (let z : None ≡ Some m = h in cc)
put_next (k ∷ ms) no_arms zero m h = refl
put_next (k ∷ ms) (arm c a as') zero m h = first as' ∙ ap (λ b. arm c (answer_left b a) (forgets [] as')) (sym (ap (given_or m) h)) where
  first : (bs : Arms) → arm c (answer_left m a) bs ≡ arm c (answer_left m a) (forgets [] bs)
  first no_arms = refl
  first (arm d b bs) = refl
put_next (k ∷ ms) no_arms (suc n) m h = refl
put_next (k ∷ ms) (arm c a as') (suc n) m h = ap (arm c (answer_left k a)) (put_next ms as' n m h)

-- the answer that stands there yet
abbrev pub answer_in : Arms → ℕ → Expr
answer_in no_arms n = UnitConstant
answer_in (arm c a as') zero = a
answer_in (arm c a as') (suc n) = answer_in as' n

nothing_asked : (m : Bool) → false ≡ loses_answer m UnitConstant
nothing_asked true = refl
nothing_asked false = refl

pub no_marks_lose : (as' : Arms) → loses_answers [] as' ≡ false
no_marks_lose no_arms = refl
no_marks_lose (arm c a as') = refl

or_false : (b c : Bool) → c ≡ false → b || c ≡ b
or_false true c h = refl
or_false false c h = h

pub loses_next : (ms : List Bool) (as' : Arms) (n : ℕ) (m : Bool) → slice_get ms n ≡ Some m → loses_answers (take (suc n) ms) as' ≡ (loses_answers (take n ms) as' || loses_answer m (answer_in (forgets (take n ms) as') n))
loses_next [] as' zero m h = absurd (let z : None ≡ Some m = h in cc)
loses_next [] as' (suc n) m h = absurd (let z : None ≡ Some m = h in cc)
loses_next (k ∷ ms) no_arms zero m h = nothing_asked m
loses_next (k ∷ ms) (arm c a as') zero m h = or_false (loses_answer k a) (loses_answers [] as') (no_marks_lose as') ∙ ap (λ b. loses_answer b a) (ap (given_or m) h)
loses_next (k ∷ ms) no_arms (suc n) m h = nothing_asked m
loses_next (k ∷ ms) (arm c a as') (suc n) m h = by (loses_answer k a) (loses_next ms as' n m h) where
  by : (b : Bool) → loses_answers (take (suc n) ms) as' ≡ (loses_answers (take n ms) as' || loses_answer m (answer_in (forgets (take n ms) as') n)) → b || loses_answers (take (suc n) ms) as' ≡ ((b || loses_answers (take n ms) as') || loses_answer m (answer_in (forgets (take n ms) as') n))
  by true q = refl
  by false q = q

-- ---- the rule, one arm after another

abbrev pub Forgot : Context → Bool → Stmt → Stmt → Type 0
Forgot k true x x' = ((w d : Bool) → StmtTo k w d true x x') × (stmt_weight x' < stmt_weight x)
Forgot k false x x' = x' ≡ x

then_forgot : (k : Context) (x x1 x2 : Stmt) (p q : Bool) → Forgot k p x x1 → Forgot k q x1 x2 → Forgot k (p || q) x x2
then_forgot k x x1 x2 true true h i = ((λ w d. then_stmt (h.0 w d) (i.0 w true)), omega (arith, h.1, i.1))
then_forgot k x x1 x2 true false h i = subst (λ a. Forgot k true x a) (sym i) h
then_forgot k x x1 x2 false true h i = subst (λ a. Forgot k true a x2) h i
then_forgot k x x1 x2 false false h i = i ∙ h

pub untouched : (as' : Arms) → forgets [] as' ≡ as'
untouched no_arms = refl
untouched (arm c a as') = refl

-- an arm with another answer than unit
arm_in : {R : Type 0} (as' : Arms) (n : ℕ) → is_unit (answer_in as' n) ≡ false → ((c : Expr) → arm_of as' n ≡ Some (c, answer_in as' n) → R) → R
arm_in no_arms n h f = absurd (let z : true ≡ false = h in cc)
arm_in (arm c a as') zero h f = f c refl
arm_in (arm c a as') (suc n) h f = arm_in as' n h f

put_unit : (as' : Arms) (n : ℕ) → put n false as' ≡ forgotten as' n
put_unit no_arms n = refl
put_unit (arm c a as') zero = refl
put_unit (arm c a as') (suc n) = ap (arm c a) (put_unit as' n)

put_marked : (as' : Arms) (n : ℕ) → put n true as' ≡ as'
put_marked no_arms n = refl
put_marked (arm c a as') zero = refl
put_marked (arm c a as') (suc n) = ap (arm c a) (put_marked as' n)

unit_is : (a : Expr) → is_unit a ≡ true → UnitConstant ≡ a
unit_is UnitConstant h = refl
unit_is _ h = absurd cc

put_again : (as' : Arms) (n : ℕ) → is_unit (answer_in as' n) ≡ true → put n false as' ≡ as'
put_again no_arms n h = refl
put_again (arm c a as') zero h = ap (λ x. arm c x as') (unit_is a h)
put_again (arm c a as') (suc n) h = ap (arm c a) (put_again as' n h)

same_unit : (a : Expr) → is_unit a ≡ false → is_literal_unit a ≡ false
same_unit UnitConstant h = absurd cc
same_unit _ h = refl

one_forgets : (k : Context) (e : Expr) (t : SwitchTable) (as' : Arms) (n : ℕ) (m : Bool) → (m ≡ false → names_arm n (listed t) ≡ false) → Forgot k (loses_answer m (answer_in as' n)) (Switch e as' t) (Switch e (put n m as') t)
one_forgets k e t as' n true h = ap (λ bs. Switch e bs t) (put_marked as' n)
one_forgets k e t as' n false h = by (is_unit (answer_in as' n)) refl where
  by : (b : Bool) → is_unit (answer_in as' n) ≡ b → Forgot k (not b) (Switch e as' t) (Switch e (put n false as') t)
  by true q = ap (λ bs. Switch e bs t) (put_again as' n q)
  by false q =
      arm_in as' n q (λ c r.
      subst (λ bs. Forgot k true (Switch e as' t) (Switch e bs t)) (sym (put_unit as' n))
      ((λ w d. by_stmt_rule (switch_forgets n r (same_unit (answer_in as' n) q) (h refl))), (stmt_rule {k = k} {w = true} (switch_forgets n r (same_unit (answer_in as' n) q) (h refl))).lighter))

more_forget : (k : Context) (e : Expr) (t : SwitchTable) (as' : Arms) (ms : List Bool) → ((i : ℕ) → slice_get ms i ≡ Some false → names_arm i (listed t) ≡ false) → (n : ℕ) → n ≤ length ms → Forgot k (loses_answers (take n ms) as') (Switch e as' t) (Switch e (forgets (take n ms) as') t)
more_forget k e t as' ms h zero l = subst (λ b. Forgot k b (Switch e as' t) (Switch e (forgets [] as') t)) (sym (no_marks_lose as')) (ap (λ bs. Switch e bs t) (untouched as'))
more_forget k e t as' ms h (suc n) l = by (slice_get ms n) refl (more_forget k e t as' ms h n (omega (arith, l))) where
  there : slice_get ms n ≡ None → ⊥
  there q = absurd (omega (arith, l, none_past ms n q))

  by : (o : Option Bool) → slice_get ms n ≡ o → Forgot k (loses_answers (take n ms) as') (Switch e as' t) (Switch e (forgets (take n ms) as') t) → Forgot k (loses_answers (take (suc n) ms) as') (Switch e as' t) (Switch e (forgets (take (suc n) ms) as') t)
  by None q f = absurd (there q)
  by (Some m) q f =
      subst (λ b. Forgot k b (Switch e as' t) (Switch e (forgets (take (suc n) ms) as') t)) (sym (loses_next ms as' n m q))
      (subst (λ bs. Forgot k (loses_answers (take n ms) as' || loses_answer m (answer_in (forgets (take n ms) as') n)) (Switch e as' t) (Switch e bs t)) (put_next ms as' n m q)
      (then_forgot k (Switch e as' t) (Switch e (forgets (take n ms) as') t) _ (loses_answers (take n ms) as') (loses_answer m (answer_in (forgets (take n ms) as') n))
      f
      (one_forgets k e t (forgets (take n ms) as') n m (λ z. h n (q ∙ ap Some z)))))

pub all_forget : (k : Context) (e : Expr) (t : SwitchTable) (as' : Arms) (ms : List Bool) → ((i : ℕ) → slice_get ms i ≡ Some false → names_arm i (listed t) ≡ false) → Forgot k (loses_answers ms as') (Switch e as' t) (Switch e (forgets ms as') t)
all_forget k e t as' ms h = subst (λ l. Forgot k (loses_answers l as') (Switch e as' t) (Switch e (forgets l as') t)) (take_all (length ms) ms (omega arith)) (more_forget k e t as' ms h (length ms) (omega arith))

-- ---- marks of a table

pub marks_length : (ms : List Bool) (is : List ℕ) → length (marked ms is) ≡ length ms
marks_length ms [] = refl
marks_length ms (i ∷ is) = marks_length (set ms i true) is ∙ length-set ms i true

pub marks_listed : (ms : List Bool) (is js ks : List ℕ) → marked (marked (marked ms is) js) ks ≡ marked ms (is ++ js ++ ks)
marks_listed ms is js ks = ap (λ l. marked l ks) (sym (marked-more ms is js)) ∙ sym (marked-more ms (is ++ js) ks)

kept_answer : (m : Bool) (a : Expr) → loses_answer m a ≡ false → answer_left m a ≡ a
kept_answer true a h = refl
kept_answer false a h = by (is_unit a) refl h where
  by : (b : Bool) → is_unit a ≡ b → not b ≡ false → UnitConstant ≡ a
  by true e q = unit_is a e
  by false e q = absurd (let z : true ≡ false = q in cc)

either_false : (a b : Bool) → a || b ≡ false → (a ≡ false) × (b ≡ false)
either_false true b h = absurd (let z : true ≡ false = h in cc)
either_false false b h = (refl, h)

pub forgets_none : (ms : List Bool) (as' : Arms) → loses_answers ms as' ≡ false → forgets ms as' ≡ as'
forgets_none ms no_arms h = refl
forgets_none [] (arm c a as') h = refl
forgets_none (m ∷ ms) (arm c a as') h =
    let z = either_false (loses_answer m a) (loses_answers ms as') h in
    ap (λ x. arm c x (forgets ms as')) (kept_answer m a z.0) ∙ ap (arm c a) (forgets_none ms as' z.1)
