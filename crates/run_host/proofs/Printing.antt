-- The items of a report, one after another, for a loop that goes over them.
use Rattle.std.proofs.Common.{◌≡◌, ℕ, ◌+◌, ◌<◌, Bool, List, [], ◌∷◌, map, length, get_or, drop, refl, ap, add-one}
use Rattle.std.proofs.Math.Seq.{drop-cons, drop-length}
use Rattle.rhai_base.specs.Value.{Text}
use Rattle.rhai_base.specs.declared.dynamic.Dynamic.{Dynamic}
use Rattle.rhai_base.specs.Reading.{value_of}
use Rattle.run_host.specs.declared.host.HostCall.{HostCall}
use Rattle.run_host.specs.Entries.{variable_meant, export_meant}
use Rattle.run_host.specs.Host.{call_meant}

pub values-drop : (xs : List Dynamic) (i : ℕ) (d : Dynamic) → i < length xs → map value_of (drop i xs) ≡ value_of (get_or xs i d) ∷ map value_of (drop (i + 1) xs)
values-drop xs i d h = rw (add-one, drop-cons xs i d) refl

pub values-end : (xs : List Dynamic) → map value_of (drop (length xs) xs) ≡ []
values-end xs = ap (map value_of) (drop-length xs)

pub calls-drop : (xs : List HostCall) (i : ℕ) (d : HostCall) → i < length xs → map call_meant (drop i xs) ≡ call_meant (get_or xs i d) ∷ map call_meant (drop (i + 1) xs)
calls-drop xs i d h = rw (add-one, drop-cons xs i d) refl

pub calls-end : (xs : List HostCall) → map call_meant (drop (length xs) xs) ≡ []
calls-end xs = ap (map call_meant) (drop-length xs)

pub variables-drop : (xs : List (Text × Bool × Dynamic)) (i : ℕ) (d : Text × Bool × Dynamic) → i < length xs
    → map variable_meant (drop i xs) ≡ variable_meant (get_or xs i d) ∷ map variable_meant (drop (i + 1) xs)
variables-drop xs i d h = rw (add-one, drop-cons xs i d) refl

pub variables-end : (xs : List (Text × Bool × Dynamic)) → map variable_meant (drop (length xs) xs) ≡ []
variables-end xs = ap (map variable_meant) (drop-length xs)

pub exports-drop : (xs : List (Text × Dynamic)) (i : ℕ) (d : Text × Dynamic) → i < length xs → map export_meant (drop i xs) ≡ export_meant (get_or xs i d) ∷ map export_meant (drop (i + 1) xs)
exports-drop xs i d h = rw (add-one, drop-cons xs i d) refl

pub exports-end : (xs : List (Text × Dynamic)) → map export_meant (drop (length xs) xs) ≡ []
exports-end xs = ap (map export_meant) (drop-length xs)

pub ruleset steps = (values-drop, values-end, calls-drop, calls-end, variables-drop, variables-end, exports-drop, exports-end)
