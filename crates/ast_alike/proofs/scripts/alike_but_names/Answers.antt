use Rattle.std.proofs.Common.{sym, ap, ◌∙◌}
use Rattle.theory_meaning.specs.Plain.{all_true}
use Rattle.theory_meaning.specs.Walk.{over_stmts}
use Rattle.theory_naming.specs.Renaming.{calls_by_name, renamed_stmts}
use Rattle.theory_spelling.specs.Bare.{bare_stmts}
use Rattle.ast_types.specs.Reading.{stmts_of}
use Rattle.rhai_script.specs.Script.{script_of}
use Rattle.script_names.specs.Names.{stands}
use Rattle.ast_alike.specs.Scripts.{bare_table}
use Rattle.ast_alike.proofs.SameScripts.{alike_names}
use Rattle.ast_alike.proofs.scripts.alike_but_names.Goals as goal

pub returns : goal.returns
returns c = λ p.
    let named = stands c.args.closures.now.names in
    alike_names c.args.closures.now p (bare_table c.deref.result.now) (bare_table c.deref-2.result.now) (script_of c.args.first.now) (script_of c.args.second.now) c.renamed_tables_alike.result
    (ap bare_table (c.deref.ensures ∙ ap (λ lib. lib.value) c.shared_lib.ensures))
    (ap bare_table (c.deref-2.ensures ∙ ap (λ lib. lib.value) c.shared_lib-2.ensures))
    (sym (ap (λ ss. bare_stmts (stmts_of ss)) c.statements.ensures) ∙ c.in_ok-alike.ensures.alike c.if-not-alike.false ∙ ap (λ ss. renamed_stmts named (bare_stmts (stmts_of ss))) c.statements-statements.ensures)
    (sym (ap (λ ss. over_stmts (all_true calls_by_name) (bare_stmts (stmts_of ss))) c.statements-statements.ensures) ∙ c.in_ok-alike.ensures.by_name c.if-not-alike.false)
    (c.renamed_tables_alike.ensures p)
