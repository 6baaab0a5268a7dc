use Rattle.std.proofs.Common.{◌≡◌, [], map, refl, ap, subst, ◌∙◌, arith}
use Rattle.std.proofs.lemmas.Grind.{common_steps}
use Rattle.ast_types.specs.Reading.{function_of}
use Rattle.script_names.specs.Functions.{AreRenamed}
use Rattle.script_names.specs.Names.{stands}
use Rattle.script_tables.specs.Table.{key_of, table_of}
use Rattle.script_tables.specs.declared.fn_lib.FnLib.{FnLib}
use Rattle.script_tables.proofs.Tables.{map-put_all}
use Rattle.rhai_script.specs.Contents.{Contents}
use Rattle.rhai_script.proofs.MarkedTables.{renamed_listed}
use Rattle.rhai_script.proofs.ast.AST.renamed.Goals as goal

pub returns-clause-contents : goal.returns-clause-contents
returns-clause-contents c =
    let all = c.in_ok-lib.ensures.functions.0 in
    let made : Contents = record { source = c.args.self.now.source; doc = c.args.self.now.doc; statements = c.in_ok-body.body.block; id = c.args.self.now.lib.value.id; functions = all } in
    let source : c.in_ok-source.source ≡ c.args.self.now.source = grind (arith, common_steps) in
    let doc : c.in_ok-doc.doc ≡ c.args.self.now.doc = grind (arith, common_steps) in
    let id = c.in_ok-lib.ensures.id ∙ ap (λ (l : FnLib). l.id) c.deref-2.ensures in (
      made,
      record {
        source = refl;
        doc = refl;
        id = refl;
        statements = c.in_ok-body.ensures.block;
        functions = subst (λ (l : FnLib). AreRenamed (stands c.args.names.now) l.functions all) c.deref-2.ensures c.in_ok-lib.ensures.functions.1;
      },
      λ i. record { source = source i; doc = doc i; statements = c.in_ok-body.body.block; id = id i; functions = c.in_ok-lib.ensures.functions.2 i },
    )

pub returns-clause-marked : goal.returns-clause-marked
returns-clause-marked c n is =
    let source : c.in_ok-source.source ≡ c.args.self.now.source = grind (arith, common_steps) in
    let doc : c.in_ok-doc.doc ≡ c.args.self.now.doc = grind (arith, common_steps) in
    record {
      source = source;
      doc = doc;
      id = c.in_ok-lib.ensures.id ∙ ap (λ (l : FnLib). l.id) c.deref-2.ensures;
      statements = c.in_ok-body.ensures.block;
      functions = subst (λ (l : FnLib). AreRenamed (stands c.args.names.now) l.functions c.in_ok-lib.lib.value.functions) c.deref-2.ensures (c.in_ok-lib.ensures.marked n is);
    }

pub returns-clause-script : goal.returns-clause-script
returns-clause-script c =
    let named = stands c.args.names.now in
    let all = c.in_ok-lib.ensures.functions.0 in
    let functions = ap (map function_of) c.in_ok-lib.ensures.functions.2 ∙ map-put_all function_of key_of [] all
    ∙ ap table_of (renamed_listed named c.args.self.now.lib.value.functions all (subst (λ (l : FnLib). AreRenamed named l.functions all) c.deref-2.ensures c.in_ok-lib.ensures.functions.1)) in
    λ i. record { statements = c.in_ok-body.ensures.block i; functions = functions i }
