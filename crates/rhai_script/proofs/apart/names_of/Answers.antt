use Rattle.std.proofs.Common.{◌≡◌, [], ◌∷◌, sym, ap, ◌∙◌, subst, arith}
use Rattle.std.proofs.lemmas.Grind.{common_steps}
use Rattle.ast_types.specs.declared.script_fn.ScriptFuncDef.{ScriptFuncDef}
use Rattle.rhai_script.proofs.Taken.{NamesSoFar, all_so_far, more_so_far, none_so_far}
use Rattle.rhai_script.proofs.apart.names_of.Goals as goal

pub loop-function-init : goal.loop-function-init
loop-function-init c =
    let all : c.into_iter-function-iterator.result ≡ c.args.lib.now.functions = grind (arith, common_steps) in
    subst (λ left. NamesSoFar c.args.lib.now.functions left c.new-names.result) (sym all) (none_so_far c.args.lib.now.functions c.new-names.result c.new-names.ensures.empty)

pub loop-function-preserved : goal.loop-function-preserved
loop-function-preserved c =
    let f = c.in-Some.function.now.value in
    let left : c.loop-function.function-iterator ≡ f ∷ c.next.new.self = grind (arith, common_steps) in
    more_so_far c.args.lib.now.functions c.loop-function.function-iterator c.next.new.self c.loop-function.names c.insert.new.self f c.as_str.result
    c.loop-function.invariant left (c.as_str.ensures ∙ ap (λ (g : ScriptFuncDef). g.name) c.deref.ensures) c.in_ok-insert.ensures.updates.0

pub returns : goal.returns
returns c =
    let none : c.loop-function.function-iterator ≡ [] = grind (arith, common_steps) in
    all_so_far c.args.lib.now.functions c.loop-function.function-iterator c.loop-function.names c.loop-function.invariant none
