use Rattle.std.proofs.Common.{◌≡◌, ◌∷◌, map, sym, subst, arith}
use Rattle.std.proofs.lemmas.Grind.{common_steps}
use Rattle.theory_naming.specs.Alike.{AreCovered, IsCovered}
use Rattle.theory_spelling.specs.Bare.{bare_function}
use Rattle.ast_types.specs.Reading.{function_of}
use Rattle.script_names.specs.Names.{stands}
use Rattle.ast_alike.specs.Scripts.{bare_table}
use Rattle.ast_alike.proofs.scripts.are_covered.Goals as goal

pub loop-function-preserved : goal.loop-function-preserved
loop-function-preserved c = λ rest.
    let f = c.in-Some.function.now.value in
    let named = stands c.args.names.now in
    let fs = bare_table c.args.first.now in
    let left : c.loop-function.function-iterator ≡ f ∷ c.next.new.self = grind (arith, common_steps) in
    c.loop-function.invariant (subst (λ gs. AreCovered named fs (map bare_function (map function_of gs))) (sym left) (
      subst (λ g. IsCovered named fs (bare_function (function_of g))) c.deref.ensures (c.in_ok-is_covered.ensures c.if-not-branch.false),
      rest,
    ))
