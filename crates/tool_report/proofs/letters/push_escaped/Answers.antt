use Rattle.std.proofs.Common.{◌≡◌, ℕ, List, [], ◌++◌, length, sym, ap, ◌∙◌, append_assoc, append-nil, IsUtf8, encode_utf8}
use Rattle.std.proofs.lemmas.List.{nil_from_length}
use Rattle.std.proofs.lemmas.Str.{IsUtf8-past_char, chars-nil, chars_past_char}
use Rattle.std.specs.Str.{chars}
use Rattle.tool_report.specs.Literals.{escape, escaped}
use Rattle.tool_report.proofs.letters.push_escaped.Goals as goal

-- what is left begins with a letter
escaped_step : (bs rest : List ℕ) (c : ℕ) → IsUtf8 bs → bs ≡ encode_utf8 c ++ rest → escaped (chars bs) ≡ escape c ++ escaped (chars rest)
escaped_step bs rest c u e = ap escaped (chars_past_char bs rest c u e)

-- nothing is left
escaped_end : (bs : List ℕ) → length bs ≡ 0 → escaped (chars bs) ≡ []
escaped_end bs e = ap (λ b. escaped (chars b)) (nil_from_length bs e) ∙ ap escaped chars-nil

pub loop-letter-preserved : goal.loop-letter-preserved
loop-letter-preserved c =
    let held = c.loop-letter.invariant in
    let parts = c.in-Some.ensures.steps.0 in
    let step = escaped_step _ _ c.in-Some.letter held.0 parts in
    (IsUtf8-past_char _ _ c.in-Some.letter held.0 parts, rw (c.in_ok-push_letter.ensures, append_assoc) (rw step at held.1))

pub returns : goal.returns
returns c = sym (append-nil _) ∙ rw (escaped_end _ c.in-None.ensures.steps.0.0) at c.loop-letter.invariant.1
