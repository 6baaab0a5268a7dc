use Rattle.std.proofs.Common.{refl, ap}
use Rattle.run_host.specs.Print.{report_text}
use Rattle.theory_meaning.specs.Tree.{Script}
use Rattle.rhai_script.specs.Script.{script_of}
use Rattle.demo.specs.Words.{reported}
use Rattle.demo.proofs.Runs.{followed, pushed_reports}
use Rattle.demo.proofs.program.both_reports.Goals as goal

pub returns : goal.returns
returns c = record {
  after = script_of c.in_ok-after.after;
  optimized = c.in_ok-after.ensures;
  follows = followed _ _ _ c.in_ok-after.ensures.runs;
  shown = pushed_reports _ _ _ _ _ _ _ _ _ c.new-text.ensures.bytes (ap (λ (p : Script). report_text (reported p c.args.turns)) c.in_ok-before.ensures) refl c.in_ok-push_str.ensures.bytes c.in_ok-push_run.ensures c.in_ok-push_str-2.ensures.bytes c.in_ok-push_run-2.ensures;
}
