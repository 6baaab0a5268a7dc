use Rattle.std.proofs.Common.{◌≡◌, true, ◌∙◌}
use Rattle.std.specs.Str.{all_ascii_digits}
use Rattle.demo.proofs.Turns.{turns_parsed}
use Rattle.demo.proofs.request.turns_by_name.Goals as goal

pub returns : goal.returns
returns c =
    let digits : all_ascii_digits c.args.digits.now ≡ true = cc in
    c.ok.ensures.value ∙ turns_parsed _ c.args.digits.now _ digits c.parse.ensures.value.0
