use Rattle.std.proofs.Common.{◌≡◌, ◌++◌, [], ◌∷◌, Some, inr, sym, ap, ◌∙◌, arith}
use Rattle.std.proofs.lemmas.Slice.Eq.{bytes_eq-Decides}
use Rattle.std.proofs.lemmas.Str.Pattern.{strip_suffix_char}
use Rattle.notation_read.proofs.texts.lines_compared.Goals as goal

pub returns : goal.returns
returns c =
    let same : c.args.text.now ≡ c.in-Some.open.now = (bytes_eq-Decides c.args.text.now c.in-Some.open.now).0 (sym c.if-eq.ensures) in
    inr (strip_suffix_char 10 c.args.printed.now (Some c.in-Some.open) c.in-Some.ensures.cases (omega arith) ∙ ap (λ t. t ++ 10 ∷ []) (sym same))
