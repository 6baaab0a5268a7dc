-- Rows and modules, an item at a time.
use Rattle.std.proofs.Common.{◌≡◌, ℕ, ◌+◌, ◌<◌, if◌then◌else◌, List, length, get_or, drop, map, Some, None, refl, sym, ap, ◌∙◌, add-one}
use Rattle.std.proofs.Math.Seq.{drop-cons, drop-length}
use Rattle.std.proofs.lemmas.List.{length-map}
use Rattle.rhai_base.specs.declared.dynamic.Dynamic.{Dynamic}
use Rattle.rhai_base.specs.declared.dynamic.Dynamic.TheVariants as value
use Rattle.rhai_base.specs.Reading.{value_of, value_of-Unit}
use Rattle.rhai_base.specs.Value.{Text, UnitV, same_text}
use Rattle.theory_meaning.specs.Act.{Answers}
use Rattle.theory_meaning.specs.Host.{module_value_of, module_in}
use Rattle.run_host.specs.declared.host.HostCall.{HostCall}
use Rattle.run_host.specs.Host.{call_meant}
use Rattle.tests_reader.specs.declared.rows.AnswerRow.{AnswerRow}
use Rattle.tests_of_scripts.specs.HostRows.{fits, answered, answer_among, modules_of, paths_of}

pub answer_among-drop : (rs : List AnswerRow) (i : ℕ) (d : AnswerRow) (n : ℕ) (f : Text) → i < length rs
    → answer_among (drop i rs) n f ≡ (if fits (get_or rs i d) n f then answered (get_or rs i d) else answer_among (drop (i + 1) rs) n f)
answer_among-drop rs i d n f h = rw (add-one, drop-cons rs i d) refl

pub answer_among-end : (rs : List AnswerRow) (n : ℕ) (f : Text) → answer_among (drop (length rs) rs) n f ≡ Answers UnitV None
answer_among-end rs n f = ap (λ l. answer_among l n f) (drop-length rs)

pub module_value_of-drop : (ms : List (Text × Dynamic)) (i : ℕ) (d : Text × Dynamic) (x : Text) → i < length ms
    → module_value_of (modules_of (drop i ms)) x ≡ (if same_text (get_or ms i d).0 x then Some (value_of (get_or ms i d).1) else module_value_of (modules_of (drop (i + 1) ms)) x)
module_value_of-drop ms i d x h = rw (add-one, drop-cons ms i d) refl

pub module_value_of-end : (ms : List (Text × Dynamic)) (x : Text) → module_value_of (modules_of (drop (length ms) ms)) x ≡ None
module_value_of-end ms x = ap (λ l. module_value_of (modules_of l) x) (drop-length ms)

pub module_in-drop : (ps : List (Text × Text)) (i : ℕ) (d : Text × Text) (x : Text) → i < length ps
    → module_in (paths_of (drop i ps)) x ≡ (if same_text (get_or ps i d).0 x then Some (get_or ps i d).1 else module_in (paths_of (drop (i + 1) ps)) x)
module_in-drop ps i d x h = rw (add-one, drop-cons ps i d) refl

pub module_in-end : (ps : List (Text × Text)) (x : Text) → module_in (paths_of (drop (length ps) ps)) x ≡ None
module_in-end ps x = ap (λ l. module_in (paths_of l) x) (drop-length ps)

pub calls-counted : (cs : List HostCall) → length (map call_meant cs) ≡ length cs
calls-counted cs = length-map cs call_meant

-- after the last row, whichever calls came before
pub answer_among-none : (rs : List AnswerRow) (cs : List HostCall) (i : ℕ) (f : Text) → i ≡ length rs
    → answer_among (drop i rs) (length cs) f ≡ answer_among rs (length cs) f
    → Answers (value_of value.Unit) None ≡ answer_among rs (length (map call_meant cs)) f
answer_among-none rs cs i f e h =
    ap (λ v. Answers v None) value_of-Unit
    ∙ sym (answer_among-end rs (length cs) f)
    ∙ ap (λ (j : ℕ). answer_among (drop j rs) (length cs) f) (sym e)
    ∙ h
    ∙ ap (λ (n : ℕ). answer_among rs n f) (sym (calls-counted cs))

pub ruleset steps = (answer_among-drop, answer_among-end, module_value_of-drop, module_value_of-end, module_in-drop, module_in-end, calls-counted)
