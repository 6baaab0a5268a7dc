-- A `switch` runs as it does without the arms that its table doesn't list, and with its cases in the order of their first arms.
use Rattle.std.proofs.Common.{◌≡◌, ℕ, zero, suc, Bool, true, false, not, cond, ◌&&◌, ◌||◌, List, [], ◌∷◌, ◌++◌, map, set, replicate, Option, Some, None, refl, sym, ap, ◌∙◌, arith}
use Rattle.std.specs.Prelude.{◌==◌, nat_lt, slice_get}
use Rattle.std.specs.Option.{option_map}
use Rattle.std.proofs.lemmas.Bool.{and_parts}
use Rattle.std.proofs.lemmas.Bool.Decides.{nat_tests}
use Rattle.rhai_base.specs.Value.{Value, same, is_hashable}
use Rattle.rhai_base.proofs.Same.{same_exact, same_itself}
use Rattle.base_tokens.specs.Names.{are_all}
use Rattle.theory_meaning.specs.Act.{World, Act}
use Rattle.theory_meaning.specs.ActForms.{◌>>=◌}
use Rattle.theory_meaning.specs.Control.{ArmActs, holds, ranges_with, case_for, or_ranges, chosen, try_arm, first_arm, answer_of, default_of, switch_on}
use Rattle.theory_meaning.specs.Core as core
use Rattle.theory_meaning.specs.Desugar.{core_arms}
use Rattle.theory_meaning.specs.Meaning.{act, arm_acts, deed}
use Rattle.theory_meaning.specs.Shape.{condition_at, names_arm, case_fits, spares, default_fits, is_table}
use Rattle.theory_meaning.specs.Tree.{SwitchCase, SwitchRange, SwitchTable, Arms, no_arms, arm, count_arms}
use Rattle.theory_meaning.specs.Walk.{arms_of_cases, arms_of_ranges, arm_of_default, listed}
use Rattle.theory_spelling.specs.Listed.{marked, marks_of, kept_arms, number_in, goes_first, put_case, in_order, numbered_case, numbered_range, numbered, listed_arms, listed_table}

no : {A : Type 0} → true ≡ false → A
no h = absurd (let z : true ≡ false = h in cc)

-- ---- marks

-- what stands past them counts as marked
abbrev is_marked : List Bool → ℕ → Bool
is_marked [] i = true
is_marked (m ∷ ms) zero = m
is_marked (m ∷ ms) (suc i) = is_marked ms i

abbrev AllMarked : List Bool → List ℕ → Type 0
AllMarked ms [] = Unit {0}
AllMarked ms (i ∷ is) = (is_marked ms i ≡ true) × AllMarked ms is

stays : (ms : List Bool) (j i : ℕ) → is_marked ms i ≡ true → is_marked (set ms j true) i ≡ true
stays [] zero i h = refl
stays [] (suc j) i h = refl
stays (m ∷ ms) zero zero h = refl
stays (m ∷ ms) zero (suc i) h = h
stays (m ∷ ms) (suc j) zero h = h
stays (m ∷ ms) (suc j) (suc i) h = stays ms j i h

there : (ms : List Bool) (i : ℕ) → is_marked (set ms i true) i ≡ true
there [] zero = refl
there [] (suc i) = refl
there (m ∷ ms) zero = refl
there (m ∷ ms) (suc i) = there ms i

all_stay : (ms : List Bool) (is : List ℕ) (i : ℕ) → is_marked ms i ≡ true → is_marked (marked ms is) i ≡ true
all_stay ms [] i h = h
all_stay ms (j ∷ is) i h = all_stay (set ms j true) is i (stays ms j i h)

all_marked : (ms : List Bool) (is : List ℕ) → AllMarked (marked ms is) is
all_marked ms [] = tt
all_marked ms (i ∷ is) = (all_stay (set ms i true) is i (there ms i), all_marked (set ms i true) is)

marked_parts : (ms : List Bool) (is js : List ℕ) → AllMarked ms (is ++ js) → AllMarked ms is × AllMarked ms js
marked_parts ms [] js h = (tt, h)
marked_parts ms (i ∷ is) js h = let p = marked_parts ms is js h.1 in ((h.0, p.0), p.1)

-- ---- numbers

none_less : (n : ℕ) → nat_lt n 0 ≡ false
none_less n = grind (arith, nat_tests)

first_less : (n : ℕ) → nat_lt 0 (suc n) ≡ true
first_less n = grind (arith, nat_tests)

less_suc : (a b : ℕ) → nat_lt (suc a) (suc b) ≡ nat_lt a b
less_suc a b = grind (arith, nat_tests)

same_suc : (a b : ℕ) → (suc a == suc b) ≡ (a == b)
same_suc a b = grind (arith, nat_tests)

first_other : (n : ℕ) → (0 == suc n) ≡ false
first_other n = grind (arith, nat_tests)

other_first : (n : ℕ) → (suc n == 0) ≡ false
other_first n = grind (arith, nat_tests)

number_less : (ms : List Bool) (as' : Arms) (i : ℕ) → is_marked ms i ≡ true → nat_lt (number_in ms i) (count_arms (kept_arms ms as')) ≡ nat_lt i (count_arms as')
number_less [] no_arms i h = refl
number_less [] (arm c a as') i h = refl
number_less (m ∷ ms) no_arms i h = none_less (number_in (m ∷ ms) i) ∙ sym (none_less i)
number_less (true ∷ ms) (arm c a as') zero h = first_less (count_arms (kept_arms ms as')) ∙ sym (first_less (count_arms as'))
number_less (true ∷ ms) (arm c a as') (suc i) h = less_suc (number_in ms i) (count_arms (kept_arms ms as')) ∙ number_less ms as' i h ∙ sym (less_suc i (count_arms as'))
number_less (false ∷ ms) (arm c a as') zero h = no (sym h)
number_less (false ∷ ms) (arm c a as') (suc i) h = number_less ms as' i h ∙ sym (less_suc i (count_arms as'))

number_same : (ms : List Bool) (i j : ℕ) → is_marked ms i ≡ true → is_marked ms j ≡ true → (number_in ms i == number_in ms j) ≡ (i == j)
number_same [] i j h k = refl
number_same (m ∷ ms) zero zero h k = refl
number_same (true ∷ ms) zero (suc j) h k = first_other (number_in ms j) ∙ sym (first_other j)
number_same (true ∷ ms) (suc i) zero h k = other_first (number_in ms i) ∙ sym (other_first i)
number_same (true ∷ ms) (suc i) (suc j) h k = same_suc (number_in ms i) (number_in ms j) ∙ number_same ms i j h k ∙ sym (same_suc i j)
number_same (false ∷ ms) zero (suc j) h k = no (sym h)
number_same (false ∷ ms) (suc i) zero h k = no (sym k)
number_same (false ∷ ms) (suc i) (suc j) h k = number_same ms i j h k ∙ sym (same_suc i j)

-- ---- arms

condition_kept : (ms : List Bool) (as' : Arms) (i : ℕ) → is_marked ms i ≡ true → condition_at (kept_arms ms as') (number_in ms i) ≡ condition_at as' i
condition_kept [] no_arms i h = refl
condition_kept [] (arm c a as') i h = refl
condition_kept (m ∷ ms) no_arms i h = refl
condition_kept (true ∷ ms) (arm c a as') zero h = refl
condition_kept (true ∷ ms) (arm c a as') (suc i) h = condition_kept ms as' i h
condition_kept (false ∷ ms) (arm c a as') zero h = no (sym h)
condition_kept (false ∷ ms) (arm c a as') (suc i) h = condition_kept ms as' i h

-- ---- the order of cases

and_swapped : (a b c : Bool) → (a && (b && c)) ≡ (b && (a && c))
and_swapped true true c = refl
and_swapped true false c = refl
and_swapped false true c = refl
and_swapped false false c = refl

put_all : (f : SwitchCase → Bool) (l : SwitchCase) (ks : List SwitchCase) → are_all f (put_case l ks) ≡ (f l && are_all f ks)
put_all f l [] = refl
put_all f l (k ∷ ks) = by (goes_first k l) (put_all f l ks) where
  by : (b : Bool) → are_all f (put_case l ks) ≡ (f l && are_all f ks) → are_all f (cond b (k ∷ put_case l ks) (l ∷ k ∷ ks)) ≡ (f l && (f k && are_all f ks))
  by true h = ap (λ b. f k && b) h ∙ and_swapped (f k) (f l) (are_all f ks)
  by false h = refl

ordered_all : (f : SwitchCase → Bool) (ls : List SwitchCase) → are_all f (in_order ls) ≡ are_all f ls
ordered_all f [] = refl
ordered_all f (l ∷ ls) = put_all f l (in_order ls) ∙ ap (λ b. f l && b) (ordered_all f ls)

-- values that are both the same as a third are the same
same_both : (u v w : Value) → same u w ≡ true → same v w ≡ true → same u v ≡ true
same_both u v w h k = ap (same u) (same_exact v w k ∙ sym (same_exact u w h)) ∙ same_itself u

other_value : (k l : SwitchCase) → goes_first k l ≡ true → same k.value l.value ≡ true → ⊥
other_value k l h q = no (sym (and_parts _ _ h).1 ∙ ap not q)

swapped : {A : Type 0} (b c : Bool) (x y z : A) → (b ≡ true → c ≡ true → ⊥) → cond b x (cond c y z) ≡ cond c y (cond b x z)
swapped true true x y z h = absurd (h refl refl)
swapped true false x y z h = refl
swapped false true x y z h = refl
swapped false false x y z h = refl

put_for : (l : SwitchCase) (ks : List SwitchCase) (v : Value) → case_for (put_case l ks) v ≡ cond (same l.value v) (Some l.arms) (case_for ks v)
put_for l [] v = refl
put_for l (k ∷ ks) v = by (goes_first k l) refl (put_for l ks v) where
  by : (b : Bool) → goes_first k l ≡ b → case_for (put_case l ks) v ≡ cond (same l.value v) (Some l.arms) (case_for ks v) → case_for (cond b (k ∷ put_case l ks) (l ∷ k ∷ ks)) v ≡ cond (same l.value v) (Some l.arms) (case_for (k ∷ ks) v)
  by true h r =
      ap (cond (same k.value v) (Some k.arms)) r
      ∙ swapped (same k.value v) (same l.value v) _ _ _ (λ p q. other_value k l h (same_both k.value l.value v p q))
  by false h r = refl

ordered_for : (ls : List SwitchCase) (v : Value) → case_for (in_order ls) v ≡ case_for ls v
ordered_for [] v = refl
ordered_for (l ∷ ls) v = put_for l (in_order ls) v ∙ ap (cond (same l.value v) (Some l.arms)) (ordered_for ls v)

-- ---- lists of arms, by their numbers

module _ (ms : List Bool) (as' : Arms) where
  fits_kept : (is : List ℕ) → AllMarked ms is → are_all (λ i. nat_lt i (count_arms (kept_arms ms as'))) (map (number_in ms) is) ≡ are_all (λ i. nat_lt i (count_arms as')) is
  fits_kept [] h = refl
  fits_kept (i ∷ is) h = λ n. number_less ms as' i h.0 n && fits_kept is h.1 n

  cases_fit : (ls : List SwitchCase) → AllMarked ms (arms_of_cases ls) → are_all (case_fits (count_arms (kept_arms ms as'))) (map (numbered_case (number_in ms)) ls) ≡ are_all (case_fits (count_arms as')) ls
  cases_fit [] h = refl
  cases_fit (l ∷ ls) h = let p = marked_parts ms l.arms (arms_of_cases ls) h in λ n. (is_hashable l.value && fits_kept l.arms p.0 n) && cases_fit ls p.1 n

  ranges_fit : (rs : List SwitchRange) → AllMarked ms (arms_of_ranges rs) → are_all (λ r. nat_lt r.arm (count_arms (kept_arms ms as'))) (map (numbered_range (number_in ms)) rs) ≡ are_all (λ r. nat_lt r.arm (count_arms as')) rs
  ranges_fit [] h = refl
  ranges_fit (r ∷ rs) h = λ n. number_less ms as' r.arm h.0 n && ranges_fit rs h.1 n

  names_kept : (d : ℕ) → is_marked ms d ≡ true → (is : List ℕ) → AllMarked ms is → names_arm (number_in ms d) (map (number_in ms) is) ≡ names_arm d is
  names_kept d k [] h = refl
  names_kept d k (i ∷ is) h = λ n. number_same ms d i k h.0 n || names_kept d k is h.1 n

  spared_cases : (d : ℕ) → is_marked ms d ≡ true → (ls : List SwitchCase) → AllMarked ms (arms_of_cases ls) → are_all (λ l. not (names_arm (number_in ms d) l.arms)) (map (numbered_case (number_in ms)) ls) ≡ are_all (λ l. not (names_arm d l.arms)) ls
  spared_cases d k [] h = refl
  spared_cases d k (l ∷ ls) h = let p = marked_parts ms l.arms (arms_of_cases ls) h in λ n. not (names_kept d k l.arms p.0 n) && spared_cases d k ls p.1 n

  spared_ranges : (d : ℕ) → is_marked ms d ≡ true → (rs : List SwitchRange) → AllMarked ms (arms_of_ranges rs) → are_all (λ r. not (r.arm == number_in ms d)) (map (numbered_range (number_in ms)) rs) ≡ are_all (λ r. not (r.arm == d)) rs
  spared_ranges d k [] h = refl
  spared_ranges d k (r ∷ rs) h = λ n. not (number_same ms r.arm d h.0 k n) && spared_ranges d k rs h.1 n

  module _ (t : SwitchTable) (cases : AllMarked ms (arms_of_cases t.cases)) (ranges : AllMarked ms (arms_of_ranges t.ranges)) where
    spares_kept : (d : ℕ) → is_marked ms d ≡ true → spares (number_in ms d) (numbered (number_in ms) t) ≡ spares d t
    spares_kept d k = λ n. (ordered_all (λ l. not (names_arm (number_in ms d) l.arms)) (map (numbered_case (number_in ms)) t.cases) ∙ spared_cases d k t.cases cases) n && spared_ranges d k t.ranges ranges n

    default_kept : (o : Option ℕ) → AllMarked ms (arm_of_default o) → default_fits (kept_arms ms as') (numbered (number_in ms) t) (option_map (number_in ms) o) ≡ default_fits as' t o
    default_kept None h = refl
    default_kept (Some d) h = λ n. number_less ms as' d h.0 n && condition_kept ms as' d h.0 n && spares_kept d h.0 n

    table_by : AllMarked ms (arm_of_default t.default) → is_table (kept_arms ms as') (numbered (number_in ms) t) ≡ is_table as' t
    table_by h = λ n. (ordered_all (case_fits (count_arms (kept_arms ms as'))) (map (numbered_case (number_in ms)) t.cases) ∙ cases_fit t.cases cases) n && ranges_fit t.ranges ranges n && default_kept t.default h n

-- ---- what is asked of the arms

abbrev no_acts : List ArmActs
no_acts = []

no_act : (i : ℕ) → slice_get no_acts i ≡ None
no_act zero = refl
no_act (suc i) = refl

-- the arms that are to be tried are the same, by their numbers
module _ (ms : List Bool) where
  ranges_chosen : (rs : List SwitchRange) (v : Value) → ranges_with (map (numbered_range (number_in ms)) rs) v ≡ map (number_in ms) (ranges_with rs v)
  ranges_chosen [] v = refl
  ranges_chosen (r ∷ rs) v = by (holds r.range v) (ranges_with rs v) _ (ranges_chosen rs v) where
    by : (b : Bool) (is js : List ℕ) → js ≡ map (number_in ms) is → cond b (number_in ms r.arm ∷ js) js ≡ map (number_in ms) (cond b (r.arm ∷ is) is)
    by true is js h = ap (λ js. number_in ms r.arm ∷ js) h
    by false is js h = h

  cases_chosen : (ls : List SwitchCase) (v : Value) → case_for (map (numbered_case (number_in ms)) ls) v ≡ option_map (map (number_in ms)) (case_for ls v)
  cases_chosen [] v = refl
  cases_chosen (l ∷ ls) v = by (same l.value v) (case_for ls v) _ (cases_chosen ls v) where
    by : (b : Bool) (o p : Option (List ℕ)) → p ≡ option_map (map (number_in ms)) o → cond b (Some (map (number_in ms) l.arms)) p ≡ option_map (map (number_in ms)) (cond b (Some l.arms) o)
    by true o p h = refl
    by false o p h = h

  hashable_chosen : (b : Bool) (o p : Option (List ℕ)) → p ≡ option_map (map (number_in ms)) o → cond b p None ≡ option_map (map (number_in ms)) (cond b o None)
  hashable_chosen true o p h = h
  hashable_chosen false o p h = refl

  or_ranges_chosen : (t : SwitchTable) (v : Value) (o : Option (List ℕ)) → or_ranges (numbered (number_in ms) t) v (option_map (map (number_in ms)) o) ≡ map (number_in ms) (or_ranges t v o)
  or_ranges_chosen t v None = ranges_chosen t.ranges v
  or_ranges_chosen t v (Some is) = refl

  all_chosen : (t : SwitchTable) (v : Value) → chosen (numbered (number_in ms) t) v ≡ map (number_in ms) (chosen t v)
  all_chosen t v =
      ap (or_ranges (numbered (number_in ms) t) v) (hashable_chosen (is_hashable v) (case_for t.cases v) _ (ordered_for (map (numbered_case (number_in ms)) t.cases) v ∙ cases_chosen t.cases v))
      ∙ or_ranges_chosen t v (cond (is_hashable v) (case_for t.cases v) None)

  -- and they are marked
  ranges_marked : (rs : List SwitchRange) (v : Value) → AllMarked ms (arms_of_ranges rs) → AllMarked ms (ranges_with rs v)
  ranges_marked [] v h = tt
  ranges_marked (r ∷ rs) v h = by (holds r.range v) (ranges_with rs v) (ranges_marked rs v h.1) where
    by : (b : Bool) (is : List ℕ) → AllMarked ms is → AllMarked ms (cond b (r.arm ∷ is) is)
    by true is k = (h.0, k)
    by false is k = k

  abbrev OneMarked : Option (List ℕ) → Type 0
  OneMarked None = Unit {0}
  OneMarked (Some is) = AllMarked ms is

  cases_marked : (ls : List SwitchCase) (v : Value) → AllMarked ms (arms_of_cases ls) → OneMarked (case_for ls v)
  cases_marked [] v h = tt
  cases_marked (l ∷ ls) v h = let p = marked_parts ms l.arms (arms_of_cases ls) h in by (same l.value v) (case_for ls v) p.0 (cases_marked ls v p.1) where
    by : (b : Bool) (o : Option (List ℕ)) → AllMarked ms l.arms → OneMarked o → OneMarked (cond b (Some l.arms) o)
    by true o m k = m
    by false o m k = k

  chosen_marked : (t : SwitchTable) (v : Value) → AllMarked ms (arms_of_cases t.cases) → AllMarked ms (arms_of_ranges t.ranges) → AllMarked ms (chosen t v)
  chosen_marked t v h k = by (is_hashable v) (cases_marked t.cases v h) where
    or_marked : (o : Option (List ℕ)) → OneMarked o → AllMarked ms (or_ranges t v o)
    or_marked None p = ranges_marked t.ranges v k
    or_marked (Some is) p = p

    by : (b : Bool) → OneMarked (case_for t.cases v) → AllMarked ms (or_ranges t v (cond b (case_for t.cases v) None))
    by true p = or_marked (case_for t.cases v) p
    by false p = ranges_marked t.ranges v k

module _ (w : World) (around : Bool) (ms : List Bool) (as' : Arms) where
  abbrev acts_of : Arms → List ArmActs
  acts_of bs = arm_acts w (core_arms around bs)

  abbrev ArmKept : List Bool → Arms → ℕ → Type 0
  ArmKept ns bs i = is_marked ns i ≡ true → slice_get (acts_of (kept_arms ns bs)) (number_in ns i) ≡ slice_get (acts_of bs) i

  arm_kept : (ns : List Bool) (bs : Arms) (i : ℕ) → ArmKept ns bs i
  arm_kept [] no_arms i h = refl
  arm_kept [] (arm c a bs) i h = refl
  arm_kept (m ∷ ns) no_arms i h = no_act (number_in (m ∷ ns) i) ∙ sym (no_act i)
  arm_kept (true ∷ ns) (arm c a bs) zero h = refl
  arm_kept (true ∷ ns) (arm c a bs) (suc i) h = arm_kept ns bs i h
  arm_kept (false ∷ ns) (arm c a bs) zero h = no (sym h)
  arm_kept (false ∷ ns) (arm c a bs) (suc i) h = arm_kept ns bs i h

  first_kept : (is : List ℕ) → AllMarked ms is → {d d' : Act} → d ≡ d' → first_arm (acts_of (kept_arms ms as')) (map (number_in ms) is) d ≡ first_arm (acts_of as') is d'
  first_kept [] h e = e
  first_kept (i ∷ is) h e = λ n. try_arm (arm_kept ms as' i h.0 n) (first_kept is h.1 e n)

  default_act_kept : (o : Option ℕ) → AllMarked ms (arm_of_default o) → default_of (acts_of (kept_arms ms as')) (option_map (number_in ms) o) ≡ default_of (acts_of as') o
  default_act_kept None h = refl
  default_act_kept (Some d) h = ap answer_of (arm_kept ms as' d h.0)

  switch_kept : (t : SwitchTable) → AllMarked ms (arms_of_cases t.cases) → AllMarked ms (arms_of_ranges t.ranges) → AllMarked ms (arm_of_default t.default) → (v : Value) → switch_on (acts_of (kept_arms ms as')) (numbered (number_in ms) t) v ≡ switch_on (acts_of as') t v
  switch_kept t h k l v =
      ap (λ is. first_arm (acts_of (kept_arms ms as')) is (default_of (acts_of (kept_arms ms as')) (option_map (number_in ms) t.default))) (all_chosen ms t v)
      ∙ first_kept (chosen t v) (chosen_marked ms t v h k) (default_act_kept t.default l)

-- ---- the statement

abbrev deed_by : World → Bool → Bool → core.Expr → Arms → SwitchTable → Act
deed_by w b around e as' t = deed w (cond b (core.Switch e (core_arms around as') t) core.IllDeed)

module _ (w : World) (around : Bool) (e : core.Expr) (as' : Arms) (t : SwitchTable) (ms : List Bool) (all : AllMarked ms (listed t)) where
  abbrev parts : AllMarked ms (arms_of_cases t.cases ++ arms_of_ranges t.ranges) × AllMarked ms (arm_of_default t.default)
  parts = marked_parts ms (arms_of_cases t.cases ++ arms_of_ranges t.ranges) (arm_of_default t.default) all

  abbrev others : AllMarked ms (arms_of_cases t.cases) × AllMarked ms (arms_of_ranges t.ranges)
  others = marked_parts ms (arms_of_cases t.cases) (arms_of_ranges t.ranges) parts.0

  by_table : (b : Bool) → deed_by w b around e (kept_arms ms as') (numbered (number_in ms) t) ≡ deed_by w b around e as' t
  by_table true = λ n. act w e >>= λ v. switch_kept w around ms as' t others.0 others.1 parts.1 v n
  by_table false = refl

  deed_kept : deed_by w (is_table (kept_arms ms as') (numbered (number_in ms) t)) around e (kept_arms ms as') (numbered (number_in ms) t) ≡ deed_by w (is_table as' t) around e as' t
  deed_kept = ap (λ b. deed_by w b around e (kept_arms ms as') (numbered (number_in ms) t)) (table_by ms as' t others.0 others.1 parts.1) ∙ by_table (is_table as' t)

pub listed_deed : (w : World) (around : Bool) (e : core.Expr) (as' : Arms) (t : SwitchTable)
    → deed w (cond (is_table (listed_arms t as') (listed_table t as')) (core.Switch e (core_arms around (listed_arms t as')) (listed_table t as')) core.IllDeed)
    ≡ deed w (cond (is_table as' t) (core.Switch e (core_arms around as') t) core.IllDeed)
listed_deed w around e as' t = deed_kept w around e as' t (marks_of t (count_arms as')) (all_marked (replicate (count_arms as') false) (listed t))
