use Rattle.std.proofs.Common.{ap, ◌∙◌}
use Rattle.ast_types.specs.Reading.{stmts_of}
use Rattle.theory_spelling.specs.Captures.{handed}
use Rattle.ast_alike.specs.Closures.{closure_of}
use Rattle.ast_alike.proofs.Captured.{no_closure, settled_made}
use Rattle.ast_alike.proofs.captures.settled_by.Goals as goal

pub unreachable-requires : goal.unreachable-requires
unreachable-requires c = no_closure c.args.constants c.args.last c.in-None.ensures c.requires

pub returns : goal.returns
returns c =
    let given = closure_of c.in-Some.closure in
    settled_made c.args.constants c.args.last given (closure_of (c.in_ok-names-in-Some.names, c.in_ok-names-in-Some.call)) c.in_ok-from_array-in-Some.field-0 c.in_ok-shared-in-Some.field-0 c.in-Some.ensures c.requires
    (c.in_ok-names-in-Some.ensures ∙ ap (λ l. handed (stmts_of l) given) c.as_slice.ensures)
    c.in_ok-shared-in-Some.ensures c.in_ok-from_array-in-Some.ensures
