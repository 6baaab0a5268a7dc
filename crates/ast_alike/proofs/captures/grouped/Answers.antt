use Rattle.std.proofs.Common.{◌≡◌, true, false, sym, ◌∙◌}
use Rattle.std.specs.Prelude.{reverse}
use Rattle.ast_types.specs.Reading.{stmt_of, stmts_of}
use Rattle.theory_meaning.specs.Tree.{stmt}
use Rattle.theory_spelling.specs.Captures as captures
use Rattle.ast_alike.proofs.Captured.{first_grouped, kept_grouped, nothing_grouped, pushed_grouped}
use Rattle.ast_alike.proofs.captures.grouped.Goals.{else-not-is_empty-via-then-not-is_empty+else-does_nothing, else-not-is_empty-via-else-not-is_empty}
use Rattle.ast_alike.proofs.captures.grouped.Goals as goal

pub returns-then-does_nothing : goal.returns-then-does_nothing
returns-then-does_nothing c =
    nothing_grouped c.args.stmt c.args.behind c.in_default.not-Share (sym c.does_nothing.ensures ∙ c.if-does_nothing.true)
    (λ q. let p : false ≡ true = sym c.if-not-is_empty.true ∙ c.is_empty.ensures.1 q in cc)

pub returns-else-not-is_empty : goal.returns-else-not-is_empty
returns-else-not-is_empty c =
    let d = c.args.stmt in
    let l = c.args.behind in
    let h : stmt (stmt_of d) (stmts_of (reverse l)) ≡ captures.grouped (stmt_of d) (stmts_of (reverse l)) =
    elim c.else-not-is_empty.branch [
      | else-not-is_empty-via-then-not-is_empty+else-does_nothing w ↦ kept_grouped d l c.in_default.not-Share (sym w.does_nothing.ensures ∙ w.if-does_nothing.false)
      | else-not-is_empty-via-else-not-is_empty w ↦ first_grouped d l (c.is_empty.ensures.0 w.if-not-is_empty.false)
    ] in
    pushed_grouped c.pushed.result d l h c.pushed.ensures
