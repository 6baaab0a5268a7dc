-- The list of a table that stands for a value, found by the map of its cases.
use Rattle.std.proofs.Common.{◌≡◌, Bool, true, false, cond, List, [], ◌∷◌, map, Some, refl, sym, ap, ◌∙◌, if◌then◌else◌}
use Rattle.std.specs.Option.{option_map}
use Rattle.std.specs.Map.{lookup}
use Rattle.rhai_base.proofs.Exact.{exact, equal}
use Rattle.rhai_base.proofs.Recovered.{same_value}
use Rattle.rhai_base.proofs.Same.{tests_same}
use Rattle.rhai_base.specs.contracts.dynamic.DynamicEq.TheImpl.Laws as eq_laws
use Rattle.rhai_base.specs.declared.dynamic.Dynamic.{Dynamic}
use Rattle.rhai_base.specs.Reading.{value_of}
use Rattle.rhai_base.specs.Value.{same}
use Rattle.rhai_base.specs.declared.cases.CaseBlocksList.{CaseBlocksList}
use Rattle.ast_types.specs.Reading.{case_of}
use Rattle.theory_meaning.specs.Control.{case_for}

equal_is : (x y : Dynamic) → equal x y ≡ same (value_of y) (value_of x)
equal_is x y =
    let told = λ (e : x ≡ y). ap (λ v. equal x v) (sym e) ∙ eq_laws.laws-law.refl x in
    tests_same (equal x y) (value_of y) (value_of x) (λ h. ap value_of (sym (exact x y h))) (λ e. told (sym (same_value _ _ e)))

pub listed_is : (es : List (Dynamic × CaseBlocksList)) (x : Dynamic) → option_map (λ l. l.blocks) (lookup (equal x) es) ≡ case_for (map case_of es) (value_of x)
listed_is [] x = refl
listed_is (e ∷ es) x =
    by (equal x e.0) (listed_is es x) ∙ ap (λ b. cond b (Some e.1.blocks) (case_for (map case_of es) (value_of x))) (equal_is x e.0)
  where
    by : (b : Bool) → option_map (λ l. l.blocks) (lookup (equal x) es) ≡ case_for (map case_of es) (value_of x) → option_map (λ l. l.blocks) (if b then Some e.1 else lookup (equal x) es) ≡ cond b (Some e.1.blocks) (case_for (map case_of es) (value_of x))
    by true h = refl
    by false h = h
