-- What runs report.
use Rattle.std.proofs.Common.{◌≡◌, ℕ, List, [], ◌++◌, codes, refl, ap, ◌∙◌}
use Rattle.rhai_base.specs.Value.{Text}
use Rattle.rhai_base.specs.declared.scope.ScopeEntry.{ScopeEntry}
use Rattle.theory_meaning.specs.Agreeing.{AgreeOn}
use Rattle.theory_meaning.specs.Act.{Host}
use Rattle.theory_meaning.specs.Desugar.{core_script}
use Rattle.theory_meaning.specs.Engine.{Engine}
use Rattle.theory_meaning.specs.Run.{AtStatements, Report, report_of, run_script}
use Rattle.theory_meaning.specs.Tree.{Script}
use Rattle.base_engine.specs.EngineInfo.{nothing_set}
use Rattle.run_host.specs.Entries.{start_scope}
use Rattle.run_host.specs.Report.{ReportsRun}
use Rattle.run_host.specs.Print.{report_text}
use Rattle.demo.specs.ProgramHost.{program_host}
use Rattle.theory_soundness.specs.Refines.{Refines}
use Rattle.theory_soundness.specs.Reports.{Follows}
use Rattle.theory_soundness.proofs.simulation.Agreement.{agrees_nothing}
use Rattle.theory_soundness.proofs.soundness.Reports.{refines_reports}
use Rattle.demo.specs.Words.{reported}

-- a host answers as it does
agrees : (h : Host) (r : Report) → AgreeOn h h r.calls
agrees h r = record { answers = λ past c b. refl; modules = λ x. refl; paths = λ p. refl; texts = λ v. refl }

-- a run of the evaluator, from a scope and under a record that hold nothing
pub run_reported : (engine : Engine) (scope : List ScopeEntry) (after : Script) (turns : ℕ) (report : Report)
    → engine ≡ nothing_set → scope ≡ [] → ReportsRun engine program_host (core_script after) (start_scope scope) turns report
    → report ≡ reported after turns
run_reported engine scope after turns report nothing none reports =
    let of_engine = λ (e : Engine). report_of AtStatements (run_script e program_host (core_script after) AtStatements (start_scope scope) turns) in
    let of_scope = λ (es : List ScopeEntry). report_of AtStatements (run_script nothing_set program_host (core_script after) AtStatements (start_scope es) turns) in
    reports program_host (agrees program_host report) ∙ ap of_engine nothing ∙ ap of_scope none

pub report_pushed : (old new : Text) (r r' : Report) → r ≡ r' → new ≡ old ++ report_text r → new ≡ old ++ report_text r'
report_pushed old new r r' h e = e ∙ ap (λ q. old ++ report_text q) h

-- two reports, push by push
pub pushed_reports : (before after r r' empty a b c d : Text) → empty ≡ [] → r ≡ before → r' ≡ after
    → a ≡ empty ++ codes "before:\n" → b ≡ a ++ r → c ≡ b ++ codes "after:\n" → d ≡ c ++ r'
    → d ≡ codes "before:\n" ++ before ++ codes "after:\n" ++ after
pushed_reports before after r r' empty a b c d h first second e f g i =
    let start : a ≡ codes "before:\n" = e ∙ ap (λ t. t ++ codes "before:\n") h in
    let one : b ≡ codes "before:\n" ++ before = f ∙ ap (λ t. t ++ r) start ∙ ap (λ t. codes "before:\n" ++ t) first in
    i ∙ ap (λ t. t ++ r') (g ∙ ap (λ t. t ++ codes "after:\n") one) ∙ ap (λ t. (codes "before:\n" ++ before ++ codes "after:\n") ++ t) second

-- what runs alike reports alike
pub followed : (before after : Script) (turns : ℕ) → Refines nothing_set before after → Follows (reported before turns) (reported after turns)
followed before after turns q = (refines_reports nothing_set [] before after (record { runs = λ host scope e ag. q.runs host scope e }) program_host [] AtStatements (agrees_nothing [] [])).follows turns
