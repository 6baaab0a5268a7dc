-- What comes of an `if`.
use Rattle.std.specs.Prelude.{◌≡◌, Bool, true, false, Option, MatchOption}
use Rattle.ast_types.specs.declared.stmt.FlowControl.{FlowControl}
use Rattle.ast_types.specs.declared.stmt.Stmt as declared_stmt
use Rattle.theory_meaning.specs.Tree.{Stmt}
use Rattle.ast_types.specs.Reading.{stmt_of}
use Rattle.theory_rewriting.specs.Steps.{StmtRewrite}
use Rattle.opt_base.specs.declared.step.NodeStep.{NodeStep}
use Rattle.opt_base.specs.declared.step.NodeStep.TheVariants as step
use Rattle.opt_base.specs.NodeSteps.{step_by}
use Rattle.opt_stmts.specs.Flows.{if_of}
use Rattle.opt_stmts.specs.SettledChoices.{is_settled, is_nest, reopens}

-- by whether it stays, and whether it holds another one alone; where it does not stay, by whether new parts are made
abbrev pub answer_by : Bool → Bool → Bool → NodeStep
answer_by false nests opens = step_by opens
answer_by true true opens = step.Rewritten
answer_by true false opens = step.Kept

abbrev pub answer : Bool → Stmt → NodeStep
answer w x = answer_by (is_settled x) (is_nest x) (reopens w x)

-- what one becomes that does not stay, and what came of it
abbrev pub ReducesIf : Option (declared_stmt.Stmt × NodeStep) → Bool → FlowControl → FlowControl → Type 0
ReducesIf o w f f' = MatchOption o ((is_settled (if_of f) ≡ true) × (f' ≡ f)) (λ p. (is_settled (if_of f) ≡ false) × (p.1 ≡ step_by (reopens w (if_of f))) × StmtRewrite (reopens w (if_of f)) w (if_of f) (stmt_of p.0))
