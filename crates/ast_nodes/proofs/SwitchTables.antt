-- What is not refused is a table.
use Rattle.std.proofs.Common.{◌≡◌, ◌↔◌, ℕ, zero, suc, Bool, true, false, not, ◌&&◌, ◌||◌, ◌==◌, nat_lt, List, [], ◌∷◌, length, map, Option, Some, None, is_some, slice_get, if◌then◌else◌, refl, sym, ap, ◌∙◌, arith}
use Rattle.std.proofs.lemmas.Bool.Decides.{nat_tests}
use Rattle.std.proofs.lemmas.Cmp.{nat_eq_equiv}
use Rattle.std.specs.List.{list_all, list_any}
use Rattle.base_tokens.specs.declared.error.AstError.{AstError}
use Rattle.base_tokens.specs.declared.error.AstError.TheVariants.{SwitchIndex, SwitchDefaultCondition, SwitchDefaultShared, SwitchKey}
use Rattle.rhai_base.specs.declared.range_case.RangeCase.{RangeCase}
use Rattle.rhai_base.specs.Ranges.{index_of}
use Rattle.base_tokens.specs.Names.{are_all}
use Rattle.rhai_base.specs.declared.dynamic.Dynamic.{Dynamic}
use Rattle.rhai_base.specs.Value.{is_hashable}
use Rattle.rhai_base.specs.Reading.{value_of}
use Rattle.ast_types.specs.declared.expr.BinaryExpr.{BinaryExpr}
use Rattle.rhai_base.specs.declared.cases.CaseBlocksList.{CaseBlocksList}
use Rattle.theory_meaning.specs.Queries.{is_literally}
use Rattle.theory_meaning.specs.Shape as shape
use Rattle.theory_meaning.specs.Tree.{Expr, BoolConstant, Arms, no_arms, arm, count_arms}
use Rattle.ast_types.specs.Reading.{arms_of, case_of, expr_of, range_of, table_by}
use Rattle.ast_nodes.specs.SwitchTables.{are_keys, default_at, default_tested, lists_name, lists_within, ranges_name, ranges_within, refusal, RefusalLaw}
use Rattle.theory_meaning.proofs.Truth.{and_assoc}
use Rattle.ast_types.proofs.Ranges.{range_arm}

abbrev pub is_accepted : Option AstError → Bool
is_accepted None = true
is_accepted (Some e) = false

-- ---- of truth values

four : (a b c d : Bool) → ((a && b) && (c && d)) ≡ ((a && c) && (b && d))
four true true c d = refl
four true false true d = refl
four true false false d = refl
four false b c d = refl

not_either : (a b : Bool) → not (a || b) ≡ (not a && not b)
not_either true b = refl
not_either false b = refl

implied : (a b : Bool) → (b ≡ true → a ≡ true) → (a && b) ≡ b
implied true b h = refl
implied false true h = h refl
implied false false h = refl

literally_true : (e : Expr) → is_literally true e ≡ shape.is_true e
literally_true (BoolConstant true) = refl
literally_true (BoolConstant false) = refl
literally_true _ = refl

-- ---- cases and ranges

below : (n : ℕ) (is : List ℕ) → are_all (λ i. nat_lt i n) is ≡ list_all (λ i. nat_lt i n) is
below n [] = refl
below n (i ∷ is) = ap (λ b. nat_lt i n && b) (below n is)

cases_fit : (n : ℕ) (cs : List (Dynamic × CaseBlocksList)) → are_all (shape.case_fits n) (map case_of cs) ≡ (are_keys cs && lists_within n cs)
cases_fit n [] = refl
cases_fit n (c ∷ cs) =
    let key = is_hashable (value_of c.0) in
    let within = list_all (λ i. nat_lt i n) c.1.blocks in
    ap (λ b. (key && b) && are_all (shape.case_fits n) (map case_of cs)) (below n c.1.blocks)
    ∙ ap (λ b. (key && within) && b) (cases_fit n cs)
    ∙ four key within (are_keys cs) (lists_within n cs)

ranges_fit : (n : ℕ) (rs : List RangeCase) → are_all (λ r. nat_lt r.arm n) (map range_of rs) ≡ ranges_within n rs
ranges_fit n [] = refl
ranges_fit n (r ∷ rs) = ap (λ i. nat_lt i n && are_all (λ q. nat_lt q.arm n) (map range_of rs)) (range_arm r) ∙ ap (λ b. nat_lt (index_of r) n && b) (ranges_fit n rs)

-- ---- the default

named : (d : ℕ) (is : List ℕ) → shape.names_arm d is ≡ list_any (λ i. i == d) is
named d [] = refl
named d (i ∷ is) = ap (λ b. b || shape.names_arm d is) (nat_eq_equiv.symm d i) ∙ ap (λ b. (i == d) || b) (named d is)

lists_spare : (d : ℕ) (cs : List (Dynamic × CaseBlocksList)) → are_all (λ l. not (shape.names_arm d l.arms)) (map case_of cs) ≡ not (lists_name d cs)
lists_spare d [] = refl
lists_spare d (c ∷ cs) =
    ap (λ b. not b && are_all (λ l. not (shape.names_arm d l.arms)) (map case_of cs)) (named d c.1.blocks)
    ∙ ap (λ b. not (list_any (λ i. i == d) c.1.blocks) && b) (lists_spare d cs)
    ∙ sym (not_either (list_any (λ i. i == d) c.1.blocks) (lists_name d cs))

ranges_spare : (d : ℕ) (rs : List RangeCase) → are_all (λ r. not (r.arm == d)) (map range_of rs) ≡ not (ranges_name d rs)
ranges_spare d [] = refl
ranges_spare d (r ∷ rs) =
    ap (λ i. not (i == d) && are_all (λ q. not (q.arm == d)) (map range_of rs)) (range_arm r)
    ∙ ap (λ b. not (index_of r == d) && b) (ranges_spare d rs)
    ∙ sym (not_either (index_of r == d) (ranges_name d rs))

spared : (d : ℕ) (cs : List (Dynamic × CaseBlocksList)) (rs : List RangeCase) (o : Option ℕ) → shape.spares d (table_by cs rs o) ≡ not (lists_name d cs || ranges_name d rs)
spared d cs rs o =
    ap (λ b. b && are_all (λ r. not (r.arm == d)) (map range_of rs)) (lists_spare d cs)
    ∙ ap (λ b. not (lists_name d cs) && b) (ranges_spare d rs)
    ∙ sym (not_either (lists_name d cs) (ranges_name d rs))

count_arms-of : (bs : List BinaryExpr) → count_arms (arms_of bs) ≡ length bs
count_arms-of [] = refl
count_arms-of (b ∷ bs) = ap suc (count_arms-of bs)

first_below : (n : ℕ) → nat_lt 0 (suc n) ≡ true
first_below n = grind (arith, nat_tests)

next_below : (i n : ℕ) → nat_lt i n ≡ true → nat_lt (suc i) (suc n) ≡ true
next_below i n h = grind (arith, nat_tests)

-- an arm with a condition is there
inside : (as' : Arms) (i : ℕ) → shape.condition_at as' i ≡ true → nat_lt i (count_arms as') ≡ true
inside no_arms i h = absurd (let z : false ≡ true = h in cc)
inside (arm c a as') zero h = first_below (count_arms as')
inside (arm c a as') (suc i) h = next_below i (count_arms as') (inside as' i h)

by_condition : (true_there is_named : Bool) → is_accepted (if true_there then (if is_named then Some SwitchDefaultShared else None) else Some SwitchDefaultCondition) ≡ (true_there && not is_named)
by_condition true true = refl
by_condition true false = refl
by_condition false b = refl

condition : (bs : List BinaryExpr) (i : ℕ) (is_named : Bool) → is_accepted (default_at (slice_get bs i) is_named) ≡ (shape.condition_at (arms_of bs) i && not is_named)
condition [] i is_named = refl
condition (b ∷ bs) zero is_named = by_condition (is_literally true (expr_of b.lhs)) is_named ∙ ap (λ t. t && not is_named) (literally_true (expr_of b.lhs))
condition (b ∷ bs) (suc i) is_named = condition bs i is_named

default_fits : (bs : List BinaryExpr) (cs : List (Dynamic × CaseBlocksList)) (rs : List RangeCase) (o d : Option ℕ) → is_accepted (default_tested bs cs rs d) ≡ shape.default_fits (arms_of bs) (table_by cs rs o) d
default_fits bs cs rs o None = refl
default_fits bs cs rs o (Some i) =
    let there = shape.condition_at (arms_of bs) i in
    condition bs i (lists_name i cs || ranges_name i rs)
    ∙ ap (λ b. there && b) (sym (spared i cs rs o))
    ∙ ap (λ b. b && shape.spares i (table_by cs rs o)) (sym (implied (nat_lt i (count_arms (arms_of bs))) there (inside (arms_of bs) i)))

-- ---- all of it

tested : (keys within : Bool) (rest : Option AstError) → is_accepted (if keys then (if within then rest else Some SwitchIndex) else Some SwitchKey) ≡ (keys && (within && is_accepted rest))
tested true true rest = refl
tested true false rest = refl
tested false within rest = refl

pub accepted : (bs : List BinaryExpr) (cs : List (Dynamic × CaseBlocksList)) (rs : List RangeCase) (d : Option ℕ) → is_accepted (refusal bs cs rs d) ≡ shape.is_table (arms_of bs) (table_by cs rs d)
accepted bs cs rs d =
    let n = length bs in
    let keys = are_keys cs in
    let lists = lists_within n cs in
    let ranges = ranges_within n rs in
    let default = shape.default_fits (arms_of bs) (table_by cs rs d) d in
    tested keys (lists && ranges) (default_tested bs cs rs d)
    ∙ ap (λ b. keys && ((lists && ranges) && b)) (default_fits bs cs rs d d)
    ∙ sym (and_assoc keys (lists && ranges) default)
    ∙ ap (λ b. b && default) (sym (and_assoc keys lists ranges))
    ∙ ap (λ b. (b && ranges) && default) (sym (cases_fit n cs))
    ∙ ap (λ b. (are_all (shape.case_fits n) (map case_of cs) && b) && default) (sym (ranges_fit n rs))
    ∙ ap (λ m. (are_all (shape.case_fits m) (map case_of cs) && are_all (λ r. nat_lt r.arm m) (map range_of rs)) && default) (sym (count_arms-of bs))

pub none_accepted : (o : Option AstError) (b : Bool) → is_some o ≡ not b → b ≡ is_accepted o
none_accepted None true h = refl
none_accepted None false h = cc
none_accepted (Some e) true h = cc
none_accepted (Some e) false h = refl

law : (o : Option AstError) (b : Bool) → is_accepted o ≡ b → (o ≡ None) ↔ (b ≡ true)
law None true h = ((λ e. refl), (λ e. refl))
law None false h = absurd (let z : true ≡ false = h in cc)
law (Some e) true h = absurd (let z : false ≡ true = h in cc)
law (Some e) false h = ((λ z. absurd (let y : Some e ≡ None = z in cc)), (λ z. absurd (let y : false ≡ true = z in cc)))

pub refusal_law : (bs : List BinaryExpr) (cs : List (Dynamic × CaseBlocksList)) (rs : List RangeCase) (d : Option ℕ) → RefusalLaw bs cs rs d
refusal_law bs cs rs d = law (refusal bs cs rs d) (shape.is_table (arms_of bs) (table_by cs rs d)) (accepted bs cs rs d)
