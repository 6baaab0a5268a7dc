-- The built-in scripts, one after another.
use Rattle.std.proofs.Common.{◌≡◌, ℕ, ◌+◌, ◌<◌, ◌≤◌, true, false, List, length, get_or, drop, Some, None, ap, ◌∙◌}
use Rattle.std.specs.Prelude.{if◌then◌else◌}
use Rattle.std.proofs.lemmas.List.{drop_all, at_drop_more}
use Rattle.rhai_base.specs.Value.{Text, same_text}
use Rattle.demo.specs.BuiltinScripts.{name_of, script_among}
use Rattle.demo.specs.declared.builtin.BuiltinScript.{BuiltinScript}

pub among_other : (ss : List BuiltinScript) (i : ℕ) (d : BuiltinScript) (name : Text) → i < length ss → same_text (name_of (get_or ss i d)) name ≡ false
    → script_among (drop i ss) name ≡ script_among (drop (i + 1) ss) name
among_other ss i d name h f = at_drop_more (λ s. script_among s name) ss i d h ∙ ap (λ b. if b then Some (get_or ss i d) else script_among (drop (i + 1) ss) name) f

pub among_found : (ss : List BuiltinScript) (i : ℕ) (d : BuiltinScript) (name : Text) → i < length ss → same_text (name_of (get_or ss i d)) name ≡ true
    → script_among (drop i ss) name ≡ Some (get_or ss i d)
among_found ss i d name h f = at_drop_more (λ s. script_among s name) ss i d h ∙ ap (λ b. if b then Some (get_or ss i d) else script_among (drop (i + 1) ss) name) f

pub among_none : (ss : List BuiltinScript) (i : ℕ) (name : Text) → length ss ≤ i → script_among (drop i ss) name ≡ None
among_none ss i name h = ap (λ s. script_among s name) (drop_all i ss h)
