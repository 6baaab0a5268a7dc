-- The arms that are marked, one after another.
use Rattle.std.proofs.Common.{◌≡◌, ℕ, suc, Bool, true, false, cond, List, [], ◌∷◌, ◌++◌, map, length, Result, Ok, Err, refl, sym, ap, ◌∙◌, subst, append_assoc, append-nil, take}
use Rattle.std.proofs.lemmas.List.{nil_from_length}
use Rattle.std.proofs.Math.Seq.{take-append_seam}
use Rattle.std.specs.Map.Calls.{RetainsPairs}
use Rattle.std.specs.Prelude.{IfOk}
use Rattle.ast_types.specs.declared.expr.BinaryExpr.{BinaryExpr}
use Rattle.ast_types.specs.Reading.{arms_of, case_of, expr_of, expressions_of, range_of, table_of}
use Rattle.ast_types.specs.declared.switch.SwitchCasesCollection.{SwitchCasesCollection}
use Rattle.rhai_base.specs.declared.cases.CaseBlocksList.{CaseBlocksList}
use Rattle.rhai_base.specs.declared.dynamic.Dynamic.{Dynamic}
use Rattle.rhai_base.specs.declared.range_case.RangeCase.{RangeCase}
use Rattle.rhai_base.specs.declared.range_case.RangeCase.TheVariants as range_kind
use Rattle.rhai_base.specs.Reading.{value_of}
use Rattle.theory_meaning.specs.Tree as abstract
use Rattle.theory_spelling.specs.Listed.{kept_arms, numbered_case, numbered_range}
use Rattle.ast_alike.specs.Gaps.{numbered_place}

abbrev pub kept : List Bool → List BinaryExpr → List BinaryExpr
kept ms [] = []
kept [] (b ∷ bs) = b ∷ bs
kept (m ∷ ms) (b ∷ bs) = cond m (b ∷ kept ms bs) (kept ms bs)

pub kept_is : (ms : List Bool) (bs : List BinaryExpr) → arms_of (kept ms bs) ≡ kept_arms ms (arms_of bs)
kept_is ms [] = refl
kept_is [] (b ∷ bs) = refl
kept_is (true ∷ ms) (b ∷ bs) = ap (abstract.arm (expr_of b.lhs) (expr_of b.rhs)) (kept_is ms bs)
kept_is (false ∷ ms) (b ∷ bs) = kept_is ms bs

-- one more that is marked or not
pub kept_more : (m : Bool) (front : List BinaryExpr) (b : BinaryExpr) (ms : List Bool) (bs : List BinaryExpr) → front ++ kept (m ∷ ms) (b ∷ bs) ≡ cond m (front ++ b ∷ []) front ++ kept ms bs
kept_more true front b ms bs = sym (append_assoc front (b ∷ []) (kept ms bs))
kept_more false front b ms bs = refl

-- none is left
pub kept_all : (front bs : List BinaryExpr) (ms : List Bool) → length bs ≡ 0 → front ++ kept ms bs ≡ front
kept_all front bs ms h = ap (λ l. front ++ kept ms l) (nil_from_length bs h) ∙ append-nil front

pub count_arms-of : (bs : List BinaryExpr) → abstract.count_arms (arms_of bs) ≡ length bs
count_arms-of [] = refl
count_arms-of (b ∷ bs) = ap suc (count_arms-of bs)

-- ---- tables

pub made_arms : {E : Type 0} (r : Result SwitchCasesCollection E) (bs : List BinaryExpr) (as' : abstract.Arms) → arms_of bs ≡ as'
    → IfOk r (λ t. expressions_of t ≡ bs) → IfOk r (λ t. arms_of (expressions_of t) ≡ as')
made_arms (Ok t) bs as' h made = ap arms_of made ∙ h
made_arms (Err e) bs as' h made = tt

pub made_table : {E : Type 0} (r : Result SwitchCasesCollection E) (u v : abstract.SwitchTable) → u ≡ v → IfOk r (λ t. table_of t ≡ u) → IfOk r (λ t. table_of t ≡ v)
made_table (Ok t) u v h made = made ∙ h
made_table (Err e) u v h made = tt

-- ---- cases

-- `retain` that keeps all, with new numbers
module _ {F : Type 0} (T : F → Dynamic → CaseBlocksList → Bool → CaseBlocksList → F → Type 0) (f : F) (number : ℕ → ℕ) where
  pub all_numbered : ((k : Dynamic) (u : CaseBlocksList) (b : Bool) (w : CaseBlocksList) (g : F) → T f k u b w g → (w.blocks ≡ map number u.blocks) × (b ≡ true) × (g ≡ f)) → (es left : List (Dynamic × CaseBlocksList)) → RetainsPairs T f es left → map case_of left ≡ map (numbered_case number) (map case_of es)
  all_numbered says [] left h = ap (map case_of) h
  all_numbered says (e ∷ es) left h =
      let s = says e.0 e.1 h.0 h.1 h.2 h.4 in
      let rest = all_numbered says es h.3 (subst (λ g. RetainsPairs T g es h.3) s.2 h.5) in
      ap (map case_of) h.6
      ∙ of_cond h.0 ((e.0, h.1) ∷ h.3) h.3
      ∙ (λ i. cond (s.1 i) (record { value = value_of e.0; arms = s.0 i } ∷ rest i) (rest i))
    where
      of_cond : (b : Bool) (xs ys : List (Dynamic × CaseBlocksList)) → map case_of (cond b xs ys) ≡ cond b (map case_of xs) (map case_of ys)
      of_cond true xs ys = refl
      of_cond false xs ys = refl

-- ---- ranges

-- a slice that was written whole
pub all_written : {X : Type 0} (xs ys zs : List X) → length ys ≡ length xs → take (length xs) (ys ++ zs) ≡ ys
all_written xs ys zs h = ap (λ n. take n (ys ++ zs)) (sym h) ∙ take-append_seam ys zs

pub range_is : (number : ℕ → ℕ) (r : RangeCase) → range_of (numbered_place number r) ≡ numbered_range number (range_of r)
range_is number (range_kind.ExclusiveInt r i) = refl
range_is number (range_kind.InclusiveInt r i) = refl

pub ranges_are : (number : ℕ → ℕ) (rs : List RangeCase) → map range_of (map (numbered_place number) rs) ≡ map (numbered_range number) (map range_of rs)
ranges_are number [] = refl
ranges_are number (r ∷ rs) = λ n. range_is number r n ∷ ranges_are number rs n
