-- Values, and the items of a report, one after another, for a loop that goes over them.
use Rattle.std.proofs.Common.{◌≡◌, ℕ, ◌+◌, ◌<◌, Bool, List, [], ◌∷◌, ◌++◌, codes, map, length, get_or, drop, refl, sym, ap, ◌∙◌, add-one, append_assoc}
use Rattle.std.proofs.Math.Seq.{drop-cons, drop-length}
use Rattle.rhai_base.specs.Value.{Text, fields, values}
use Rattle.rhai_base.specs.declared.dynamic.Dynamic.{Dynamic}
use Rattle.rhai_base.specs.Reading.{members_of, value_of}
use Rattle.run_host.specs.declared.host.HostCall.{HostCall}
use Rattle.run_host.specs.Entries.{variable_meant, export_meant}
use Rattle.run_host.specs.Host.{call_meant}
use Rattle.tool_report.specs.Literals.{literal, literals, member_text, members}

-- ---- values

-- the values that are left, from this one on
literals-drop : (before : Text) (xs : List Dynamic) (i : ℕ) (x : Dynamic) → i < length xs → x ≡ get_or xs i x
    → literals before (values (map value_of (drop i xs))) ≡ (before ++ literal (value_of x)) ++ literals (codes ", ") (values (map value_of (drop (i + 1) xs)))
unfolding literals
literals-drop before xs i x h at =
    let next : drop i xs ≡ x ∷ drop (i + 1) xs = drop-cons xs i x h ∙ (λ k. sym at k ∷ ap (λ j. drop j xs) (sym (add-one i)) k) in
    ap (λ ys. literals before (values (map value_of ys))) next

pub value_step : (old all before : Text) (xs : List Dynamic) (i : ℕ) (x : Dynamic) → i < length xs → x ≡ get_or xs i x
    → old ++ literals before (values (map value_of (drop i xs))) ≡ all
    → ((old ++ before) ++ literal (value_of x)) ++ literals (codes ", ") (values (map value_of (drop (i + 1) xs))) ≡ all
value_step old all before xs i x h at so_far =
    let more = literals (codes ", ") (values (map value_of (drop (i + 1) xs))) in
    ap (λ t. t ++ more) (append_assoc old before (literal (value_of x))) ∙ append_assoc old (before ++ literal (value_of x)) more
    ∙ ap (λ t. old ++ t) (sym (literals-drop before xs i x h at)) ∙ so_far

pub literals-end : (before : Text) (xs : List Dynamic) → literals before (values (map value_of (drop (length xs) xs))) ≡ []
unfolding literals
literals-end before xs = ap (λ ys. literals before (values (map value_of ys))) (drop-length xs)

-- ---- the members of a map

pub member_step : (old all before : Text) (e : Text × Dynamic) (held left : List (Text × Dynamic)) → held ≡ e ∷ left
    → old ++ members before (fields (members_of held)) ≡ all
    → (old ++ member_text before e.0 (value_of e.1)) ++ members (codes ", ") (fields (members_of left)) ≡ all
unfolding members
member_step old all before e held left is so_far =
    append_assoc old (member_text before e.0 (value_of e.1)) (members (codes ", ") (fields (members_of left)))
    ∙ ap (λ es. old ++ members before (fields (members_of es))) (sym is) ∙ so_far

pub members_end : (before : Text) (held : List (Text × Dynamic)) → held ≡ [] → members before (fields (members_of held)) ≡ []
unfolding members
members_end before held is = ap (λ es. members before (fields (members_of es))) is

-- ---- a report

pub values-drop : (xs : List Dynamic) (i : ℕ) (d : Dynamic) → i < length xs → map value_of (drop i xs) ≡ value_of (get_or xs i d) ∷ map value_of (drop (i + 1) xs)
values-drop xs i d h = rw (add-one, drop-cons xs i d) refl

pub values-end : (xs : List Dynamic) → map value_of (drop (length xs) xs) ≡ []
values-end xs = ap (map value_of) (drop-length xs)

pub calls-drop : (xs : List HostCall) (i : ℕ) (d : HostCall) → i < length xs → map call_meant (drop i xs) ≡ call_meant (get_or xs i d) ∷ map call_meant (drop (i + 1) xs)
calls-drop xs i d h = rw (add-one, drop-cons xs i d) refl

pub calls-end : (xs : List HostCall) → map call_meant (drop (length xs) xs) ≡ []
calls-end xs = ap (map call_meant) (drop-length xs)

pub variables-drop : (xs : List (Text × Bool × Dynamic)) (i : ℕ) (d : Text × Bool × Dynamic) → i < length xs
    → map variable_meant (drop i xs) ≡ variable_meant (get_or xs i d) ∷ map variable_meant (drop (i + 1) xs)
variables-drop xs i d h = rw (add-one, drop-cons xs i d) refl

pub variables-end : (xs : List (Text × Bool × Dynamic)) → map variable_meant (drop (length xs) xs) ≡ []
variables-end xs = ap (map variable_meant) (drop-length xs)

pub exports-drop : (xs : List (Text × Dynamic)) (i : ℕ) (d : Text × Dynamic) → i < length xs → map export_meant (drop i xs) ≡ export_meant (get_or xs i d) ∷ map export_meant (drop (i + 1) xs)
exports-drop xs i d h = rw (add-one, drop-cons xs i d) refl

pub exports-end : (xs : List (Text × Dynamic)) → map export_meant (drop (length xs) xs) ≡ []
exports-end xs = ap (map export_meant) (drop-length xs)

pub ruleset steps = (literals-end, values-drop, values-end, calls-drop, calls-end, variables-drop, variables-end, exports-drop, exports-end)
