-- What the program's host answers where arguments are too few or too many, what it appends to an array, and what it knows of modules.
use Rattle.std.proofs.Common.{◌≡◌, ◌≢◌, ◌<◌, ◌≤◌, true, false, List, [], ◌∷◌, ◌++◌, Some, None, length, map, codes, if◌then◌else◌, refl, ap, ◌∙◌, arith}
use Rattle.std.specs.Prelude.{pos}
use Rattle.std.proofs.lemmas.Cmp.{nat_list_eq_equiv}
use Rattle.rhai_base.specs.Value.{Text, Value, UnitV, IntV, ArrayV, item, items, values, same_text}
use Rattle.rhai_base.specs.declared.dynamic.Dynamic.{Dynamic}
use Rattle.rhai_base.specs.declared.dynamic.Dynamic.TheVariants as dynamic
use Rattle.rhai_base.specs.Reading.{value_of, value_of-Unit, value_of-Array, DynamicCase, array_case, dynamic_cases}
use Rattle.theory_meaning.specs.Act.{Answers}
use Rattle.theory_meaning.specs.Host.{module_value_of, module_in}
use Rattle.demo.specs.ProgramHost.{joined_texts, pushed, appended, unit_alone, program_modules}

pub joined_texts-few : (vs : List Value) → length vs < 2 → unit_alone ≡ joined_texts vs
joined_texts-few [] h = refl
joined_texts-few (v ∷ []) h = refl
joined_texts-few (v ∷ w ∷ us) h = absurd (omega arith)

pub joined_texts-many : (vs : List Value) → 3 ≤ length vs → unit_alone ≡ joined_texts vs
joined_texts-many [] h = absurd (omega arith)
joined_texts-many (v ∷ []) h = absurd (omega arith)
joined_texts-many (v ∷ w ∷ []) h = absurd (omega arith)
joined_texts-many (v ∷ w ∷ u ∷ us) h = refl

pub pushed-few : (r : Value) (vs : List Value) → length vs < 1 → unit_alone ≡ pushed (Some r) vs
pushed-few r [] h = refl
pushed-few r (v ∷ vs) h = absurd (omega arith)

pub pushed-many : (r : Value) (vs : List Value) → 2 ≤ length vs → unit_alone ≡ pushed (Some r) vs
pushed-many r [] h = absurd (omega arith)
pushed-many r (v ∷ []) h = absurd (omega arith)
pushed-many r (v ∷ w ∷ us) h = refl

appended_items : (xs : List Dynamic) (x : Dynamic) → values (map value_of (xs ++ x ∷ [])) ≡ values (items (values (map value_of xs)) ++ value_of x ∷ [])
appended_items [] x = refl
appended_items (y ∷ ys) x = ap (λ vs. item (value_of y) vs) (appended_items ys x)

-- an item behind those of an array
pub appended_item : (r x y : Dynamic) (xs ys : List Dynamic) → r ≡ dynamic.Array xs → ys ≡ xs ++ y ∷ [] → y ≡ x
    → Answers (value_of dynamic.Unit) (Some (value_of (dynamic.Array ys))) ≡ appended (value_of r) (value_of x)
appended_item r x y xs ys is more same =
    rw (is, more, same, value_of-Unit, value_of-Array (xs ++ x ∷ []), value_of-Array xs) (ap (λ vs. Answers UnitV (Some (ArrayV vs))) (appended_items xs x))

-- there are no items but those of an array
appended_by : {r : Dynamic} {w : Value} → DynamicCase r w → ((xs : List Dynamic) → r ≢ dynamic.Array xs) → (x : Value) → unit_alone ≡ appended w x
appended_by (array_case xs) h x = absurd (h xs refl)
appended_by _ h x = refl

pub appended_none : (r : Dynamic) → ((xs : List Dynamic) → r ≢ dynamic.Array xs) → (x : Value) → unit_alone ≡ appended (value_of r) x
appended_none r h x = appended_by (dynamic_cases r) h x

-- ---- modules

pub value_known : (x : Text) → same_text x (codes "m::v") ≡ true → module_value_of program_modules.values x ≡ Some (IntV (pos 7))
value_known x h = ap (λ b. if b then Some (IntV (pos 7)) else None) (nat_list_eq_equiv.symm (codes "m::v") x ∙ h)

pub value_unknown : (x : Text) → same_text x (codes "m::v") ≡ false → module_value_of program_modules.values x ≡ None
value_unknown x h = ap (λ b. if b then Some (IntV (pos 7)) else None) (nat_list_eq_equiv.symm (codes "m::v") x ∙ h)

pub path_known : (p : Text) → same_text p (codes "m") ≡ true → module_in program_modules.paths p ≡ Some (codes "m")
path_known p h = ap (λ b. if b then Some (codes "m") else None) (nat_list_eq_equiv.symm (codes "m") p ∙ h)

pub path_unknown : (p : Text) → same_text p (codes "m") ≡ false → module_in program_modules.paths p ≡ None
path_unknown p h = ap (λ b. if b then Some (codes "m") else None) (nat_list_eq_equiv.symm (codes "m") p ∙ h)

pub ruleset known = (value_known, value_unknown, path_known, path_unknown)
