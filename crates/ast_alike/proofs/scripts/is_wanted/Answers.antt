use Rattle.std.proofs.Common.{length, sym, ap, ◌∙◌, subst}
use Rattle.std.specs.Prelude.{IfOk, IsTrue}
use Rattle.theory_meaning.specs.Calls.{key}
use Rattle.theory_naming.specs.Renaming.{is_anonymous}
use Rattle.theory_spelling.specs.Bare.{bare_function}
use Rattle.ast_types.specs.Reading.{function_of}
use Rattle.ast_alike.specs.Scripts.{HasKey, bare_table}
use Rattle.ast_alike.proofs.SameScripts.{own_wanted}
use Rattle.ast_alike.proofs.scripts.is_wanted.Goals as goal

pub returns-then-not-is_anonymous : goal.returns-then-not-is_anonymous
returns-then-not-is_anonymous c = λ p.
    let f = c.args.function.now in
    let gs = bare_table c.args.second.now in
    own_wanted c.args.closures.now p c.has_key.result gs (bare_function (function_of f))
    (sym (c.is_anonymous.ensures ∙ ap is_anonymous c.as_str.ensures) ∙ c.if-not-is_anonymous.true)
    (subst (λ name. IfOk c.has_key.result (λ has. IsTrue has → HasKey gs (key name (length f.params) f.this_type))) c.in_ok-clone.ensures.cases c.has_key.ensures)
