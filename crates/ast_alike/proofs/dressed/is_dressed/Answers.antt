use Rattle.std.proofs.Common.{◌≡◌, ap, ◌∙◌, Some, length}
use Rattle.theory_meaning.specs.Calls.{key}
use Rattle.ast_alike.proofs.Dresses.{dressed_one}
use Rattle.ast_alike.proofs.dressed.is_dressed.Goals as goal

pub returns-in-Some : goal.returns-in-Some
returns-in-Some c =
    let f = c.args.function.now in
    dressed_one c.args.first.now.functions _ c.deref.result.now f (ap Some c.deref.ensures ∙ c.in-Some.ensures)
    (c.in_ok-key.ensures ∙ ap (λ name. key name (length f.params) f.this_type) c.in_ok-clone.ensures.cases) c.has_dress.result
    c.has_dress.ensures.access c.has_dress.ensures.comments
