use Rattle.std.proofs.Common.{◌≡◌, [], ◌∷◌, sym, ap, ◌∙◌, arith}
use Rattle.std.proofs.lemmas.Grind.{common_steps}
use Rattle.rhai_script.specs.Renamed.{clash, clashes}
use Rattle.rhai_script.proofs.Taken.{found_here, none_found, passed_here}
use Rattle.rhai_script.proofs.apart.clash.Goals as goal

pub loop-function-init : goal.loop-function-init
loop-function-init c = λ fs h.
    let all : c.into_iter-function-iterator.result ≡ c.args.second.now.functions = grind (arith, common_steps) in
    ap (clash c.args.marks fs) (sym all)

pub returns-then-found : goal.returns-then-found
returns-then-found c = λ fs h.
    let f = c.in-Some.function.now.value in
    let left : c.loop-function.function-iterator ≡ f ∷ c.next.new.self = grind (arith, common_steps) in
    found_here c.args.marks fs c.args.second.now.functions c.loop-function.function-iterator c.next.new.self (c.loop-function.invariant fs h) f left
    (ap (clashes c.args.marks fs) (sym c.deref.ensures) ∙ sym (c.in_ok-found.ensures fs h) ∙ c.if-found.true)

pub loop-function-preserved : goal.loop-function-preserved
loop-function-preserved c = λ fs h.
    let f = c.in-Some.function.now.value in
    let left : c.loop-function.function-iterator ≡ f ∷ c.next.new.self = grind (arith, common_steps) in
    passed_here c.args.marks fs c.args.second.now.functions c.loop-function.function-iterator c.next.new.self (c.loop-function.invariant fs h) f left
    (ap (clashes c.args.marks fs) (sym c.deref.ensures) ∙ sym (c.in_ok-found.ensures fs h) ∙ c.if-found.false)

pub returns : goal.returns
returns c = λ fs h.
    let none : c.loop-function.function-iterator ≡ [] = grind (arith, common_steps) in
    none_found c.args.marks fs c.args.second.now.functions c.loop-function.function-iterator [] (c.loop-function.invariant fs h) none
