-- Which values are texts or characters.
use Rattle.std.proofs.Common.{◌≡◌, ℕ, false, refl}
use Rattle.rhai_base.specs.declared.dynamic.Dynamic.{Dynamic}
use Rattle.rhai_base.specs.declared.dynamic.Dynamic.TheVariants as value
use Rattle.rhai_base.specs.Reading.{value_of, DynamicCase, str_case, char_case, dynamic_cases}
use Rattle.rhai_base.specs.Value.{Value}
use Rattle.rhai_base.specs.Builtin.{is_text}
use Rattle.rhai_base.proofs.OtherKinds.{NoStr}

no_text : {v : Dynamic} {w : Value} → DynamicCase v w → NoStr v → ((c : ℕ) → v ≡ value.Char c → ⊥) → false ≡ is_text w
no_text (str_case t) h k = absurd (h t refl)
no_text (char_case c) h k = absurd (k c refl)
no_text _ h k = refl

pub is_text-other : (v : Dynamic) → NoStr v → ((c : ℕ) → v ≡ value.Char c → ⊥) → false ≡ is_text (value_of v)
is_text-other v h k = no_text (dynamic_cases v) h k
