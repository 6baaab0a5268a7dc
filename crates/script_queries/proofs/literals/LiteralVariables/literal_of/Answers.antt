use Rattle.std.proofs.Common.{sym, ap, subst, ◌∙◌}
use Rattle.theory_meaning.specs.Tree.{Stmt}
use Rattle.ast_types.specs.Reading.{stmt_of, stmt_of-Var}
use Rattle.ast_types.proofs.Cases.{stmt_cases}
use Rattle.script_queries.specs.Literals.{Tries, sought_at}
use Rattle.script_queries.proofs.Seeking.{none_sought}
use Rattle.script_queries.proofs.literals.LiteralVariables.literal_of.Goals as goal

pub returns-in-Var : goal.returns-in-Var
returns-in-Var c =
    let self = c.args.self.now in
    subst (λ (s : Stmt). Tries c.declared.result (sought_at self.constants self.variables s)) (sym (ap stmt_of c.in-Var.is ∙ stmt_of-Var c.in-Var.parts c.in-Var.options c.in-Var.field-2))
    (rw c.get.ensures at c.declared.ensures)

pub returns-in_default : goal.returns-in_default
returns-in_default c = none_sought c.args.self.now.constants c.args.self.now.variables (stmt_cases c.args.stmt.now) c.in_default.not-Var
