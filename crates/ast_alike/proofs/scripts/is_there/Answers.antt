use Rattle.std.proofs.Common.{◌≡◌, ap, sym, ◌∙◌, Some, length}
use Rattle.theory_meaning.specs.Calls.{key}
use Rattle.ast_alike.proofs.Bared.{there_one}
use Rattle.ast_alike.proofs.scripts.is_there.Goals as goal

pub returns-in-Some : goal.returns-in-Some
returns-in-Some c =
    let f = c.args.function.now in
    there_one c.args.first.now.functions _ c.deref.result.now f (ap Some c.deref.ensures ∙ c.in-Some.ensures) c.alike_function.result
    (c.in_ok-key.ensures ∙ ap (λ name. key name (length f.params) f.this_type) c.in_ok-clone.ensures.cases)
    c.alike_function.ensures
