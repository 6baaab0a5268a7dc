-- Arms in the order in which they are tried, one entry more, and which entries name them.
use Rattle.std.proofs.Common.{◌≡◌, ℕ, suc, ◌+◌, ◌<◌, Bool, true, false, cond, List, [], ◌∷◌, map, Option, Some, None, length, get_or, drop, refl, sym, ap, ◌∙◌, add-one}
use mathlib.Core.Bool.{beq}
use Rattle.std.specs.List.{cons_option, filter_map}
use Rattle.std.specs.Option.{option_eq}
use Rattle.std.proofs.Math.Seq.{drop-cons}
use Rattle.rhai_base.specs.Ranges.{holds_value, index_of}
use Rattle.rhai_base.specs.Value.{Value}
use Rattle.rhai_base.specs.declared.range_case.RangeCase.{RangeCase}
use Rattle.theory_meaning.specs.Control.{holds, ranges_with}
use Rattle.theory_meaning.specs.Tree.{Arms, SwitchRange}
use Rattle.theory_meaning.specs.Walk.{arms_of_ranges}
use Rattle.ast_types.specs.Reading.{range_of}
use Rattle.theory_rewriting.specs.Narrowing.{range_with, only_ranges}
use Rattle.theory_rewriting.specs.Tables.{arm_of, arm_decides, left_with, left_arms}
use Rattle.opt_switch.specs.Ends.{ends_with, end_of}
use Rattle.opt_switch.specs.Places.{held_place}
use Rattle.opt_switch.proofs.Choosing.{held_is}
use Rattle.opt_switch.proofs.Places.{place_is}

-- ---- an entry more

pub places-next : {T : Type 0} (p : T → Option ℕ) (xs : List T) (n : ℕ) (x : T) (o : Option ℕ) → n < length xs → x ≡ get_or xs n x → o ≡ p x → filter_map p (drop n xs) ≡ cons_option o (filter_map p (drop (n + 1) xs))
places-next p xs n x o h e q = rw (add-one) (ap (filter_map p) (drop-cons xs n x h) ∙ ap (λ r. cons_option r (filter_map p (drop (suc n) xs))) (ap p (sym e) ∙ sym q))

pub place-next : {T : Type 0} (p : T → ℕ) (xs : List T) (n : ℕ) (x : T) (i : ℕ) → n < length xs → x ≡ get_or xs n x → i ≡ p x → map p (drop n xs) ≡ i ∷ map p (drop (n + 1) xs)
place-next p xs n x i h e q = rw (add-one) (ap (map p) (drop-cons xs n x h) ∙ ap (λ r. r ∷ map p (drop (suc n) xs)) (ap p (sym e) ∙ sym q))

-- ---- how many are left

pub left-none : (as' : Arms) (is : List ℕ) (o : Option ℕ) → o ≡ None → length (left_arms as' (cons_option o is)) ≡ length (left_arms as' is)
left-none as' is o h = ap (λ o. length (left_arms as' (cons_option o is))) h

pub left-some : (as' : Arms) (is : List ℕ) (o : Option ℕ) (i : ℕ) (d : Option Bool) → o ≡ Some i → arm_decides (arm_of as' i) ≡ d → length (left_arms as' (cons_option o is)) ≡ length (left_with d i (left_arms as' is))
left-some as' is o i d h e = ap (λ o. length (left_arms as' (cons_option o is))) h ∙ ap (λ d. length (left_with d i (left_arms as' is))) e

pub only-len : (as' : Arms) (v : Value) (rs : List SwitchRange) → length (left_arms as' (ranges_with rs v)) ≡ length (only_ranges as' v rs)
only-len as' v [] = refl
only-len as' v (r ∷ rs) = by (holds r.range v) (arm_decides (arm_of as' r.arm)) refl (only-len as' v rs) where
  by : (b : Bool) (o : Option Bool) → arm_decides (arm_of as' r.arm) ≡ o → length (left_arms as' (ranges_with rs v)) ≡ length (only_ranges as' v rs) → length (left_arms as' (cond b (r.arm ∷ ranges_with rs v) (ranges_with rs v))) ≡ length (cond b (range_with o r (only_ranges as' v rs)) (only_ranges as' v rs))
  by false o e k = k
  by true (Some false) e k = ap (λ d. length (left_with d r.arm (left_arms as' (ranges_with rs v)))) e ∙ k
  by true (Some true) e k = ap (λ d. length (left_with d r.arm (left_arms as' (ranges_with rs v)))) e
  by true None e k = ap (λ d. length (left_with d r.arm (left_arms as' (ranges_with rs v)))) e ∙ ap suc k

-- ---- where they end

pub end-next : (as' : Arms) (is : List ℕ) (i : ℕ) (d : Option Bool) → arm_decides (arm_of as' i) ≡ d → end_of as' (i ∷ is) ≡ ends_with d (end_of as' is)
end-next as' is i d e = ap (λ d. ends_with d (end_of as' is)) e

pub end-goes : (d : Option Bool) (n : ℕ) → option_eq beq d (Some true) ≡ false → ends_with d n ≡ suc n
end-goes None n h = refl
end-goes (Some false) n h = refl
end-goes (Some true) n h = absurd (let z : true ≡ false = h in cc)

-- ---- the entries

pub all-places : (is : List ℕ) → filter_map (λ i. Some i) is ≡ is
all-places [] = refl
all-places (i ∷ is) = ap (λ l. i ∷ l) (all-places is)

pub held-places : (v : Value) (rs : List RangeCase) → filter_map (held_place v) rs ≡ ranges_with (map range_of rs) v
held-places v [] = refl
held-places v (r ∷ rs) =
    by (holds_value r v) (filter_map (held_place v) rs)
    ∙ ap (λ is. cond (holds_value r v) (index_of r ∷ is) is) (held-places v rs)
    ∙ ap (λ i. cond (holds_value r v) (i ∷ ranges_with (map range_of rs) v) (ranges_with (map range_of rs) v)) (place_is r)
    ∙ ap (λ b. cond b ((range_of r).arm ∷ ranges_with (map range_of rs) v) (ranges_with (map range_of rs) v)) (held_is r v)
  where
    by : (b : Bool) (is : List ℕ) → cons_option (cond b (Some (index_of r)) None) is ≡ cond b (index_of r ∷ is) is
    by true is = refl
    by false is = refl

pub range-places : (rs : List RangeCase) → map index_of rs ≡ arms_of_ranges (map range_of rs)
range-places [] = refl
range-places (r ∷ rs) = ap (λ i. i ∷ map index_of rs) (place_is r) ∙ ap (λ is. (range_of r).arm ∷ is) (range-places rs)
