-- Values that no other constant stands for.
use Rattle.std.proofs.Common.{◌≡◌, ◌≢◌, false, refl}
use Rattle.rhai_base.specs.declared.dynamic.Dynamic.{Dynamic}
use Rattle.rhai_base.specs.declared.dynamic.Dynamic.TheVariants as kind
use Rattle.rhai_base.specs.declared.fn_ptr.FnPtr.{FnPtr}
use Rattle.rhai_base.specs.Reading.{value_of, DynamicCase, unit_case, bool_case, int_case, float_case, char_case, str_case, fn_ptr_case, dynamic_cases}
use Rattle.rhai_base.specs.Value.{Text, Value}
use Rattle.theory_meaning.specs.Constants.{constant_for}
use Rattle.theory_meaning.specs.Tree.{DynamicConstant}
use Rattle.ast_nodes.specs.Scalars.{is_scalar}

held_by : {v : Dynamic} {w : Value} → DynamicCase v w → is_scalar w ≡ false → ((t : Text) → v ≢ kind.Str t) → ((p : FnPtr) → v ≢ kind.FnPtr p) → constant_for w ≡ DynamicConstant w
held_by unit_case s t p = cc
held_by (bool_case x) s t p = cc
held_by (int_case x) s t p = cc
held_by (float_case x) s t p = cc
held_by (char_case x) s t p = cc
held_by (str_case x) s t p = absurd (t x refl)
held_by (fn_ptr_case x) s t p = absurd (p x refl)
held_by _ s t p = refl

pub held : (v : Dynamic) → is_scalar (value_of v) ≡ false → ((t : Text) → v ≢ kind.Str t) → ((p : FnPtr) → v ≢ kind.FnPtr p) → constant_for (value_of v) ≡ DynamicConstant (value_of v)
held v s t p = held_by (dynamic_cases v) s t p
