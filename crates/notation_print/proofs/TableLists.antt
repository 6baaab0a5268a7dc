-- The parts of a table, item by item, for a loop that goes over them.
use Rattle.std.proofs.Common.{◌≡◌, ℕ, ◌+◌, ◌<◌, List, [], ◌++◌, codes, length, get_or, drop, map, refl, sym, ap, append_assoc, ◌∙◌, add-one}
use Rattle.std.proofs.Math.Seq.{drop-cons, drop-length}
use Rattle.std.specs.Fmt.{decimal}
use Rattle.rhai_base.specs.declared.range_case.RangeCase.{RangeCase}
use Rattle.rhai_base.specs.Ranges.{index_of}
use Rattle.rhai_base.specs.Value.{Text}
use Rattle.ast_types.specs.Reading.{range_of}
use Rattle.ast_types.proofs.Ranges.{range_arm}
use Rattle.notation_print.specs.Nodes.{numbers_text, range_text, ranges_text}

pub places-drop : (ns : List ℕ) (i d : ℕ) → i < length ns → numbers_text (drop i ns) ≡ codes " " ++ decimal (get_or ns i d) ++ numbers_text (drop (i + 1) ns)
places-drop ns i d h = rw (add-one, drop-cons ns i d) refl

pub places-end : (ns : List ℕ) → numbers_text (drop (length ns) ns) ≡ []
places-end ns = ap numbers_text (drop-length ns)

one_push : (now before ends a b : Text) → now ++ before ++ ends ++ (a ++ b) ≡ now ++ (before ++ ends ++ a ++ b)
one_push now before ends a b =
    sym (append_assoc (now ++ before ++ ends) a b) ∙ ap (λ t. t ++ a ++ b) (append_assoc now before ends) ∙ ap (λ t. t ++ b) (append_assoc now (before ++ ends) a) ∙ append_assoc now (before ++ ends ++ a) b

-- a turn of the loop over ranges
pub pushed_range : (rs : List RangeCase) (i : ℕ) (d : RangeCase) (place : ℕ) (before now m n k total : Text) → i < length rs → place ≡ index_of (get_or rs i d)
    → now ++ ranges_text before (map range_of (drop i rs)) ≡ total → m ≡ now ++ before → n ≡ m ++ range_text (range_of (get_or rs i d)).range → k ≡ n ++ (codes ": " ++ decimal place)
    → k ++ ranges_text (codes ", ") (map range_of (drop (i + 1) rs)) ≡ total
pushed_range rs i d place before now m n k total h at so_far e f g =
    let rest = ranges_text (codes ", ") (map range_of (drop (i + 1) rs)) in
    let ends = range_text (range_of (get_or rs i d)).range in
    let step : ranges_text before (map range_of (drop i rs)) ≡ before ++ ends ++ codes ": " ++ decimal place ++ rest = rw (add-one, drop-cons rs i d h, at ∙ sym (range_arm (get_or rs i d))) refl in
    let line : k ≡ now ++ (before ++ ends ++ codes ": " ++ decimal place) = rw (g, f, e) (one_push now before ends (codes ": ") (decimal place)) in
    ap (λ t. t ++ rest) line ∙ append_assoc now (before ++ ends ++ codes ": " ++ decimal place) rest ∙ sym (ap (λ t. now ++ t) step) ∙ so_far

pub ranges-end : (before : Text) (rs : List RangeCase) → ranges_text before (map range_of (drop (length rs) rs)) ≡ []
ranges-end before rs = ap (λ (xs : List RangeCase). ranges_text before (map range_of xs)) (drop-length rs)

pub ruleset tables = (places-drop, places-end, ranges-end)
