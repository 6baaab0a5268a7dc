-- Values that are none of a kind.
use Rattle.std.specs.Prelude.{◌≡◌, ℤ, List}
use Rattle.rhai_base.specs.declared.dynamic.Dynamic.{Dynamic}
use Rattle.rhai_base.specs.declared.dynamic.Dynamic.TheVariants as dynamic
use Rattle.rhai_base.specs.declared.float_wrapper.FloatWrapper.{FloatWrapper}
use Rattle.rhai_base.specs.declared.fn_ptr.FnPtr.{FnPtr}
use Rattle.rhai_base.specs.Value.{Text}

abbrev pub NoInt : Dynamic → Type 0
NoInt v = (n : ℤ) → v ≡ dynamic.Int n → ⊥

abbrev pub NoFloat : Dynamic → Type 0
NoFloat v = (x : FloatWrapper) → v ≡ dynamic.Float x → ⊥

abbrev pub NoStr : Dynamic → Type 0
NoStr v = (t : Text) → v ≡ dynamic.Str t → ⊥

abbrev pub NoItems : Dynamic → Type 0
NoItems v = (vs : List Dynamic) → v ≡ dynamic.Array vs → ⊥

abbrev pub NoMembers : Dynamic → Type 0
NoMembers v = (es : List (Text × Dynamic)) → v ≡ dynamic.Map es → ⊥

abbrev pub NoPointer : Dynamic → Type 0
NoPointer v = (p : FnPtr) → v ≡ dynamic.FnPtr p → ⊥
