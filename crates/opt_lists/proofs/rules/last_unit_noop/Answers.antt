use Rattle.std.proofs.Common.{◌≡◌, get_or, false, subst}
use Rattle.ast_types.specs.declared.stmt.Stmt.{Stmt}
use Rattle.ast_types.specs.Reading.{stmt_of}
use Rattle.theory_meaning.specs.Queries.{is_noop}
use Rattle.opt_lists.specs.Steps.{MarkedAt}
use Rattle.opt_lists.specs.declared.behind.Fading.TheVariants.{LastUnit}
use Rattle.opt_lists.proofs.Firing.{last_noop_fires, last-acts}
use Rattle.opt_lists.proofs.rules.last_unit_noop.Goals as goal

pub returns-clause-rule : goal.returns-clause-rule
returns-clause-rule c = λ m n e z.
    let xs = c.args.list.now in
    let acts = subst (λ k. (d : Stmt) → is_noop (stmt_of (get_or xs k d)) ≡ false) e c.requires.acts in
    last_noop_fires xs _ LastUnit m n (subst (λ k. MarkedAt k xs c.mark_at.new.list) e c.mark_at.ensures) z (last-acts xs LastUnit m n z acts)
