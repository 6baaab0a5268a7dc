use Rattle.std.proofs.Common.{◌≡◌, [], ◌∷◌, ◌++◌, true, false, map, subst, arith}
use Rattle.std.proofs.lemmas.Grind.{common_steps}
use Rattle.std.specs.Rc.{rc_value}
use Rattle.ast_types.specs.declared.script_fn.ScriptFuncDef.{ScriptFuncDef}
use Rattle.script_tables.specs.Filter.{Answers}
use Rattle.script_tables.proofs.Choices.{chooses-taken, chooses-passed, chooses-end, table-chosen}
use Rattle.script_tables.proofs.filter.chosen_functions.Goals as goal

pub loop-function-preserved-in_ok-push : goal.loop-function-preserved-in_ok-push
loop-function-preserved-in_ok-push g c =
    let left : c.loop-function.function-iterator ≡ c.in-Some.function.now.value ∷ c.next.new.self = grind (arith, common_steps) in
    let more : map rc_value c.push.new.self.items ≡ map rc_value c.loop-function.chosen.items ++ c.in-Some.function.now.value ∷ [] = grind (arith, common_steps) in
    let answer : Answers g.F.Fn c.args.filter.now c.in-Some.function.now.value true c.args.filter.now =
    subst (λ b. Answers g.F.Fn c.args.filter.now c.in-Some.function.now.value b c.args.filter.now) c.if-asks.true
    (subst (λ (f : ScriptFuncDef). Answers g.F.Fn c.args.filter.now f c.asks.result c.args.filter.now) c.deref.ensures c.asks.ensures) in
    chooses-taken (Answers g.F.Fn) c.args.filter.now c.args.lib.now.functions c.loop-function.function-iterator c.next.new.self
    (map rc_value c.loop-function.chosen.items) (map rc_value c.push.new.self.items) c.in-Some.function.now.value c.loop-function.invariant left answer more

pub loop-function-preserved : goal.loop-function-preserved
loop-function-preserved g c =
    let left : c.loop-function.function-iterator ≡ c.in-Some.function.now.value ∷ c.next.new.self = grind (arith, common_steps) in
    let answer : Answers g.F.Fn c.args.filter.now c.in-Some.function.now.value false c.args.filter.now =
    subst (λ b. Answers g.F.Fn c.args.filter.now c.in-Some.function.now.value b c.args.filter.now) c.if-asks.false
    (subst (λ (f : ScriptFuncDef). Answers g.F.Fn c.args.filter.now f c.asks.result c.args.filter.now) c.deref.ensures c.asks.ensures) in
    chooses-passed (Answers g.F.Fn) c.args.filter.now c.args.lib.now.functions c.loop-function.function-iterator c.next.new.self
    (map rc_value c.loop-function.chosen.items) c.in-Some.function.now.value c.loop-function.invariant left answer

pub returns-clause-filtered : goal.returns-clause-filtered
returns-clause-filtered g c =
    let none : c.loop-function.function-iterator ≡ [] = grind (arith, common_steps) in
    chooses-end (Answers g.F.Fn) c.args.filter.now c.args.lib.now.functions c.loop-function.function-iterator (map rc_value c.loop-function.chosen.items) c.loop-function.invariant none

pub returns-clause-table : goal.returns-clause-table
returns-clause-table g c =
    let none : c.loop-function.function-iterator ≡ [] = grind (arith, common_steps) in
    table-chosen (Answers g.F.Fn) c.args.filter.now c.args.lib.now.functions (map rc_value c.loop-function.chosen.items)
    (chooses-end (Answers g.F.Fn) c.args.filter.now c.args.lib.now.functions c.loop-function.function-iterator (map rc_value c.loop-function.chosen.items) c.loop-function.invariant none) c.iter-function-items.ensures.distinct
