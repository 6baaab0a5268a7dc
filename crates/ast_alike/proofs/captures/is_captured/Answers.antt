use Rattle.std.proofs.Common.{false, ◌&&◌, refl, sym, ap, ◌∙◌}
use Rattle.ast_types.specs.Reading.{stmts_of}
use Rattle.theory_spelling.specs.Captures.{are_known}
use Rattle.ast_alike.proofs.Captured.{captured_as}
use Rattle.ast_alike.proofs.captures.is_captured.Goals as goal

pub returns-then-is_closure : goal.returns-then-is_closure
returns-then-is_closure c =
    ap (λ b. b && c.are_known.result) (sym c.if-is_closure.true)
    ∙ captured_as c.args.stmts.now c.in-Some.front.now c.in-Some.last.now c.is_closure.result c.are_known.result c.in-Some.ensures.cases.0 c.is_closure.ensures c.are_known.ensures

pub returns-else-is_closure : goal.returns-else-is_closure
returns-else-is_closure c =
    c.if-is_closure.false
    ∙ captured_as c.args.stmts.now c.in-Some.front.now c.in-Some.last.now false (are_known (stmts_of c.in-Some.front.now)) c.in-Some.ensures.cases.0 (sym c.if-is_closure.false ∙ c.is_closure.ensures) refl
