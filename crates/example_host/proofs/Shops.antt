-- Calls with too few arguments, too many, or another than a name; modules by their names.
use Rattle.std.proofs.Common.{◌≡◌, ◌<◌, ◌≤◌, true, false, List, [], ◌∷◌, Some, None, length, codes, if◌then◌else◌, refl, ap, ◌∙◌, arith}
use Rattle.std.specs.Prelude.{pos}
use Rattle.std.proofs.lemmas.Cmp.{nat_list_eq_equiv}
use Rattle.rhai_base.specs.Value.{Text, Value, IntV, same_text}
use Rattle.rhai_base.specs.declared.dynamic.Dynamic.{Dynamic}
use Rattle.rhai_base.specs.Reading.{value_of, DynamicCase, str_case, dynamic_cases}
use Rattle.rhai_base.proofs.OtherKinds.{NoStr}
use Rattle.theory_meaning.specs.Host.{module_value_of, module_in}
use Rattle.example_host.specs.Shop.{thrown, price_named, price, shop_modules}

pub price-few : (vs : List Value) → length vs < 1 → thrown (codes "no such item") ≡ price vs
price-few [] h = refl
price-few (v ∷ vs) h = absurd (omega arith)

pub price-many : (vs : List Value) → 2 ≤ length vs → thrown (codes "no such item") ≡ price vs
price-many [] h = absurd (omega arith)
price-many (v ∷ []) h = absurd (omega arith)
price-many (v ∷ w ∷ us) h = refl

unnamed : {v : Dynamic} {w : Value} → DynamicCase v w → NoStr v → thrown (codes "no such item") ≡ price_named w
unnamed (str_case t) h = absurd (h t refl)
unnamed _ h = refl

pub price-unnamed : (v : Dynamic) → NoStr v → thrown (codes "no such item") ≡ price_named (value_of v)
price-unnamed v h = unnamed (dynamic_cases v) h

pub value_known : (x : Text) → same_text x (codes "shop::rate") ≡ true → module_value_of shop_modules.values x ≡ Some (IntV (pos 2))
value_known x h = ap (λ b. if b then Some (IntV (pos 2)) else None) (nat_list_eq_equiv.symm (codes "shop::rate") x ∙ h)

pub value_unknown : (x : Text) → same_text x (codes "shop::rate") ≡ false → module_value_of shop_modules.values x ≡ None
value_unknown x h = ap (λ b. if b then Some (IntV (pos 2)) else None) (nat_list_eq_equiv.symm (codes "shop::rate") x ∙ h)

pub path_known : (p : Text) → same_text p (codes "shop") ≡ true → module_in shop_modules.paths p ≡ Some (codes "shop")
path_known p h = ap (λ b. if b then Some (codes "shop") else None) (nat_list_eq_equiv.symm (codes "shop") p ∙ h)

pub path_unknown : (p : Text) → same_text p (codes "shop") ≡ false → module_in shop_modules.paths p ≡ None
path_unknown p h = ap (λ b. if b then Some (codes "shop") else None) (nat_list_eq_equiv.symm (codes "shop") p ∙ h)

pub ruleset known = (price-few, price-many, price-unnamed, value_known, value_unknown, path_known, path_unknown)
