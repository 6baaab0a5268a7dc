use Rattle.std.proofs.Common.{◌≡◌, ap, sym, ◌∙◌, Some, length}
use Rattle.theory_meaning.specs.Calls.{key}
use Rattle.script_names.specs.Names.{stands}
use Rattle.ast_alike.proofs.Bared.{covered_one}
use Rattle.ast_alike.proofs.scripts.is_covered.Goals as goal

pub returns-in-Some : goal.returns-in-Some
returns-in-Some c =
    let f = c.args.function.now in
    covered_one c.args.first.now.functions _ c.deref.result.now f (ap Some c.deref.ensures ∙ c.in-Some.ensures) (stands c.args.names.now) c.renamed_function_alike.result
    (c.in_ok-key.ensures ∙ ap (λ name. key name (length f.params) f.this_type) c.in_ok-name.ensures.name)
    c.renamed_function_alike.ensures.alike c.renamed_function_alike.ensures.by_name
