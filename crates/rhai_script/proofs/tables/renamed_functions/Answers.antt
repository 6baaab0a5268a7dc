use Rattle.std.proofs.Common.{◌≡◌, List, [], ◌∷◌, ◌++◌, map, sym, ap, subst, ◌∙◌, append_assoc, arith}
use Rattle.std.proofs.lemmas.Grind.{common_steps}
use Rattle.std.proofs.lemmas.List.{append-nil}
use Rattle.std.specs.Rc.{rc_value}
use Rattle.ast_types.specs.declared.script_fn.ScriptFuncDef.{ScriptFuncDef}
use Rattle.script_names.specs.Functions.{AreRenamed, IsRenamed}
use Rattle.script_names.specs.Names.{stands, underscores}
use Rattle.script_names.specs.declared.naming.Names.{Names}
use Rattle.rhai_script.proofs.MarkedTables.{marked_table, one_more_renamed}
use Rattle.rhai_script.proofs.tables.renamed_functions.Goals as goal

pub loop-function-preserved : goal.loop-function-preserved
loop-function-preserved c =
    let named = stands c.args.names.now in
    let done = c.loop-function.invariant.0 in
    let f = c.in-Some.function.now.value in
    let left : c.loop-function.function-iterator ≡ f ∷ c.next.new.self = grind (arith, common_steps) in
    let more : map rc_value c.push.new.self.items ≡ map rc_value c.loop-function.all.items ++ c.in_ok-renamed.renamed ∷ [] = grind (arith, common_steps) in (
      done ++ f ∷ [],
      c.loop-function.invariant.1 ∙ ap (λ l. done ++ l) left ∙ sym (append_assoc done (f ∷ []) c.next.new.self),
      subst (AreRenamed named (done ++ f ∷ [])) (sym more)
          (one_more_renamed named done (map rc_value c.loop-function.all.items) f c.in_ok-renamed.renamed c.loop-function.invariant.2
          (subst (λ (g : ScriptFuncDef). IsRenamed named g c.in_ok-renamed.renamed) c.deref.ensures c.in_ok-renamed.ensures)),
    )

pub returns-clause-renamed : goal.returns-clause-renamed
returns-clause-renamed c =
    let done = c.loop-function.invariant.0 in
    let none : c.loop-function.function-iterator ≡ [] = grind (arith, common_steps) in
    subst (λ (fs : List ScriptFuncDef). AreRenamed (stands c.args.names.now) fs (map rc_value c.loop-function.all.items))
    (sym (c.loop-function.invariant.1 ∙ ap (λ l. done ++ l) none ∙ append-nil done)) c.loop-function.invariant.2

pub returns-clause-marked : goal.returns-clause-marked
returns-clause-marked c n is =
    let done = c.loop-function.invariant.0 in
    let none : c.loop-function.function-iterator ≡ [] = grind (arith, common_steps) in
    marked_table (underscores n) c.args.lib.now.functions (map rc_value c.loop-function.all.items)
    (subst (λ (names : Names). AreRenamed (stands names) c.args.lib.now.functions (map rc_value c.loop-function.all.items)) is
    (subst (λ (fs : List ScriptFuncDef). AreRenamed (stands c.args.names.now) fs (map rc_value c.loop-function.all.items))
    (sym (c.loop-function.invariant.1 ∙ ap (λ l. done ++ l) none ∙ append-nil done)) c.loop-function.invariant.2)) c.iter-function-items.ensures.distinct
