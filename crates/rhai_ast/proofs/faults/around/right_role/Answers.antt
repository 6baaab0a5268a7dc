use Rattle.std.proofs.Common.{sym, ap, ◌∙◌}
use Rattle.theory_meaning.specs.Walk.{right_role}
use Rattle.ast_types.specs.Reading.{expr_of}
use Rattle.ast_types.proofs.Cases.{expr_cases}
use Rattle.rhai_ast.specs.Nodes.{is_dot}
use Rattle.rhai_ast.proofs.OtherFaults.{no_step}
use Rattle.rhai_ast.proofs.faults.around.right_role.Goals as goal

pub returns-in_default : goal.returns-in_default
returns-in_default c =
    let dot = is_dot c.args.chain in
    let rhs = expr_of c.args.rhs.now in
    c.last_role-in_default.ensures
    ∙ no_step dot (expr_cases c.args.rhs.now) c.in_default.not-Dot c.in_default.not-Index
    ∙ ap (λ b. right_role dot b rhs) (sym c.if-is_last.false)
