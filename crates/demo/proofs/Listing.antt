-- The list of the built-in scripts, a name at a time.
use Rattle.std.proofs.Common.{◌≡◌, ℕ, ◌+◌, ◌<◌, List, ◌++◌, length, get_or, drop, ap, sym, ◌∙◌}
use Rattle.std.specs.Prelude.{codes}
use Rattle.std.proofs.lemmas.List.{append_assoc, at_drop_more}
use Rattle.rhai_base.specs.Value.{Text}
use Rattle.demo.specs.BuiltinScripts.{name_of}
use Rattle.demo.specs.declared.builtin.BuiltinScript.{BuiltinScript}
use Rattle.demo.specs.Words.{listing}

pub listing_next : (ss : List BuiltinScript) (i : ℕ) (d : BuiltinScript) (before named after name whole : Text) → i < length ss → name ≡ name_of (get_or ss i d)
    → named ≡ before ++ name → after ≡ named ++ codes "\n" → before ++ listing (drop i ss) ≡ whole → after ++ listing (drop (i + 1) ss) ≡ whole
listing_next ss i d before named after name whole h is first second left =
    let rest = listing (drop (i + 1) ss) in
    let line = name_of (get_or ss i d) ++ codes "\n" in
    ap (λ (t : Text). t ++ rest) (second ∙ ap (λ (t : Text). t ++ codes "\n") (first ∙ ap (λ (t : Text). before ++ t) is) ∙ append_assoc before (name_of (get_or ss i d)) (codes "\n"))
    ∙ append_assoc before line rest ∙ ap (λ (t : Text). before ++ t) (sym (at_drop_more listing ss i d h)) ∙ left
