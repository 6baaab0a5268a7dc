-- The arms that a `switch` may try are among those that its table lists.
use Rattle.std.proofs.Common.{◌≡◌, ℕ, suc, ◌+◌, ◌==◌, Bool, true, false, cond, ◌||◌, List, [], ◌∷◌, ◌++◌, Option, Some, None, refl, sym, ap, ◌∙◌, subst, arith}
use Rattle.std.specs.Cmp.{unsigned_Decides}
use Rattle.rhai_base.specs.Value.{Value, same, is_hashable}
use Rattle.theory_meaning.specs.Control.{holds, ranges_with, case_for, or_ranges, chosen}
use Rattle.theory_meaning.specs.Shape.{names_arm}
use Rattle.theory_meaning.specs.Tree.{SwitchTable, SwitchCase, SwitchRange}
use Rattle.theory_meaning.specs.Walk.{arms_of_cases, arms_of_ranges, arm_of_default, listed}

-- each arm of a list is among others
abbrev pub AreListed : List ℕ → List ℕ → Type 0
AreListed all [] = Unit {0}
AreListed all (i ∷ is) = (names_arm i all ≡ true) × AreListed all is

or_left : (a b : Bool) → a ≡ true → a || b ≡ true
or_left true b h = refl
or_left false b h = absurd (cc)

or_right : (a b : Bool) → b ≡ true → a || b ≡ true
or_right true b h = refl
or_right false b h = h

among_self : (i : ℕ) (is : List ℕ) → names_arm i (i ∷ is) ≡ true
among_self i is = or_left (i == i) (names_arm i is) ((unsigned_Decides i i).1 refl)

or_more : (b x y : Bool) → (x ≡ true → y ≡ true) → b || x ≡ true → b || y ≡ true
or_more true x y f h = refl
or_more false x y f h = f h

among_left : (i : ℕ) (is js : List ℕ) → names_arm i is ≡ true → names_arm i (is ++ js) ≡ true
among_left i [] js h = absurd (cc)
among_left i (k ∷ is) js h = or_more (i == k) (names_arm i is) (names_arm i (is ++ js)) (λ g. among_left i is js g) h

among_right : (i : ℕ) (is js : List ℕ) → names_arm i js ≡ true → names_arm i (is ++ js) ≡ true
among_right i [] js h = h
among_right i (k ∷ is) js h = or_right (i == k) _ (among_right i is js h)

named_by : (all is : List ℕ) → ((i : ℕ) → names_arm i is ≡ true → names_arm i all ≡ true) → AreListed all is
named_by all [] h = tt
named_by all (i ∷ is) h = (h i (among_self i is), named_by all is (λ j k. h j (or_right (j == i) (names_arm j is) k)))

named_left : (all more is : List ℕ) → AreListed all is → AreListed (all ++ more) is
named_left all more [] h = tt
named_left all more (i ∷ is) h = (among_left i all more h.0, named_left all more is h.1)

named_right : (less all is : List ℕ) → AreListed all is → AreListed (less ++ all) is
named_right less all [] h = tt
named_right less all (i ∷ is) h = (among_right i less all h.0, named_right less all is h.1)

named_self : (is : List ℕ) → AreListed is is
named_self is = named_by is is (λ i h. h)

-- ---- what is tried

abbrev MaybeListed : List ℕ → Option (List ℕ) → Type 0
MaybeListed all None = Unit {0}
MaybeListed all (Some is) = AreListed all is

or_case : (b : Bool) (all is : List ℕ) (o : Option (List ℕ)) → AreListed all is → MaybeListed all o → MaybeListed all (cond b (Some is) o)
or_case true all is o h k = h
or_case false all is o h k = k

case_later : (is all : List ℕ) (o : Option (List ℕ)) → MaybeListed all o → MaybeListed (is ++ all) o
case_later is all None h = tt
case_later is all (Some js) h = named_right is all js h

case_listed : (cs : List SwitchCase) (v : Value) → MaybeListed (arms_of_cases cs) (case_for cs v)
case_listed [] v = tt
case_listed (c ∷ cs) v = or_case (same c.value v) _ c.arms (case_for cs v) (named_left c.arms (arms_of_cases cs) c.arms (named_self c.arms)) (case_later c.arms (arms_of_cases cs) _ (case_listed cs v))

or_range : (b : Bool) (all : List ℕ) (i : ℕ) (is : List ℕ) → names_arm i all ≡ true → AreListed all is → AreListed all (cond b (i ∷ is) is)
or_range true all i is h k = (h, k)
or_range false all i is h k = k

range_listed : (rs : List SwitchRange) (v : Value) → AreListed (arms_of_ranges rs) (ranges_with rs v)
range_listed [] v = tt
range_listed (r ∷ rs) v = or_range (holds r.range v) (r.arm ∷ arms_of_ranges rs) r.arm (ranges_with rs v) (among_self r.arm (arms_of_ranges rs)) (named_right (r.arm ∷ []) (arms_of_ranges rs) (ranges_with rs v) (range_listed rs v))

or_listed : (t : SwitchTable) (v : Value) (o : Option (List ℕ)) → MaybeListed (arms_of_cases t.cases) o → AreListed (listed t) (or_ranges t v o)
or_listed t v None h = named_left _ (arm_of_default t.default) _ (named_right (arms_of_cases t.cases) _ _ (range_listed t.ranges v))
or_listed t v (Some is) h = named_left _ (arm_of_default t.default) is (named_left (arms_of_cases t.cases) _ is h)

where_hashable : (b : Bool) (all : List ℕ) (o : Option (List ℕ)) → MaybeListed all o → MaybeListed all (cond b o None)
where_hashable true all o h = h
where_hashable false all o h = tt

pub chosen_listed : (t : SwitchTable) (v : Value) → AreListed (listed t) (chosen t v)
chosen_listed t v = or_listed t v _ (where_hashable (is_hashable v) _ _ (case_listed t.cases v))

pub default_listed : (t : SwitchTable) → AreListed (listed t) (arm_of_default t.default)
default_listed t = named_right (arms_of_cases t.cases ++ arms_of_ranges t.ranges) _ _ (named_self (arm_of_default t.default))

-- ---- numbers of arms, counted from one of them

pub first_named : (is : List ℕ) (i : ℕ) → names_arm i is ≡ true → names_arm (0 + i) is ≡ true
first_named is i h = let e : i ≡ 0 + i = omega arith in subst (λ k. names_arm k is ≡ true) e h

pub next_named : (is : List ℕ) (i j : ℕ) → names_arm (i + suc j) is ≡ true → names_arm (suc i + j) is ≡ true
next_named is i j h = let e : i + suc j ≡ suc i + j = omega arith in subst (λ k. names_arm k is ≡ true) e h

pub not_named : (is : List ℕ) (i : ℕ) → names_arm i is ≡ false → names_arm (i + 0) is ≡ true → ⊥
not_named is i n h = let e : i + 0 ≡ i = omega arith in let g : names_arm i is ≡ true = subst (λ k. names_arm k is ≡ true) e h in let z : true ≡ false = sym g ∙ n in absurd (cc)

pub here_named : (is : List ℕ) (i : ℕ) → names_arm i is ≡ true → names_arm (i + 0) is ≡ true
here_named is i h = let e : i ≡ i + 0 = omega arith in subst (λ k. names_arm k is ≡ true) e h

pub later_named : (is : List ℕ) (i j : ℕ) → names_arm (suc i + j) is ≡ true → names_arm (i + suc j) is ≡ true
later_named is i j h = let e : suc i + j ≡ i + suc j = omega arith in subst (λ k. names_arm k is ≡ true) e h

pub from_first : (is : List ℕ) (i : ℕ) → names_arm (0 + i) is ≡ true → names_arm i is ≡ true
from_first is i h = let e : 0 + i ≡ i = omega arith in subst (λ k. names_arm k is ≡ true) e h
