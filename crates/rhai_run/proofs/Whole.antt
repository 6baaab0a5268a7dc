-- The report on a whole run.
use Rattle.std.proofs.Common.{◌≡◌, ℕ, true, false, List, [], map, None, Result, Ok, Err, sym, ap, subst, ◌∙◌, arith}
use Rattle.rhai_base.specs.declared.dynamic.Dynamic.{Dynamic}
use Rattle.rhai_base.specs.Value.{UnitV}
use Rattle.theory_meaning.specs.Act.{ScopeEntry, Host, Outcome, At, Acts, returned, returned_outcome, run_all}
use Rattle.theory_meaning.specs.Relations.{store_of as store_after}
use Rattle.theory_meaning.specs.Agreeing.{AgreeOn}
use Rattle.theory_meaning.specs.Core as core
use Rattle.theory_meaning.specs.Desugar.{core_function, core_script, core_stmts}
use Rattle.theory_meaning.specs.Engine.{Engine}
use Rattle.theory_meaning.specs.Meaning.{acts}
use Rattle.theory_meaning.specs.Run.{AtStatements, Report, end_of, exports, names, report_of, run_script, started, world_of}
use Rattle.theory_meaning.specs.Tree.{Script}
use Rattle.run_state.specs.declared.state.Interrupt.{Interrupt}
use Rattle.run_state.specs.declared.state.Interrupt.TheVariants.{NoMemory, Return, Break, Continue, Throw, Stuck, OutOfTurns}
use Rattle.run_state.specs.declared.state.State.{State}
use Rattle.run_host.specs.declared.report.RunEnd.{RunEnd}
use Rattle.run_state.specs.Entries.{entry_meant}
use Rattle.run_state.specs.Evaluating.{EndsAs, RunsStmts}
use Rattle.run_host.specs.Host.{call_meant}
use Rattle.run_host.specs.Report.{end_meant, ReportsRun}
use Rattle.run_state.specs.Runs.{Setting, setting_of, env, Goes, Listing, Over}
use Rattle.run_state.specs.State.{store_of}
use Rattle.theory_meaning.proofs.Agreeing.{same_report}
use Rattle.run_evaluator.proofs.Unbound.{unbound_all}
use Rattle.run_state.proofs.Scopes.{reversed_twice}

abbrev pub script_setting : Engine → Host → Script → Setting
script_setting engine host p = let fs = (map core_function p.functions) in setting_of (world_of engine host fs) fs

abbrev report_at : State → RunEnd → Report
report_at s e = record { ended = end_meant e; variables = names (map entry_meant s.scope.items); exports = exports (map entry_meant s.scope.items); this = None; calls = map call_meant s.calls; turns = s.turns }

-- the run with one host is that with each that answers the calls alike
with_agreeing : (engine : Engine) (host : Host) (p : core.Script) (scope : List ScopeEntry) (n : ℕ) (r : Report) → r ≡ report_of AtStatements (run_script engine host p AtStatements scope n) → ReportsRun engine host p scope n r
with_agreeing engine host p scope n r e h g = e ∙ same_report engine host h p AtStatements scope n (subst (λ x. AgreeOn host h x.calls) e g)

module _ (engine : Engine) (host : Host) (p : Script) (scope : List ScopeEntry) (n : ℕ) (s s1 : State) (at_start : store_of s ≡ started scope) (turns : s.turns ≡ n) where
  abbrev whole_acts : Acts
  whole_acts = acts (script_setting engine host p).world true (core_stmts false p.statements) UnitV

  outcome_report : (o : Outcome) (e : RunEnd) → end_meant e ≡ end_of (returned_outcome o) → Goes (script_setting engine host p) (Listing whole_acts) s (Over o) s1 → report_at s1 e ≡ report_of AtStatements (run_script engine host (core_script p) AtStatements scope n)
  unfolding run_script
  outcome_report o e h q =
      let here = script_setting engine host p in
      let ran : run_all here.world (env here n) whole_acts (store_of s) s.turns ≡ At o (store_of s1) s1.turns = q.runs n (omega (arith, turns)) in
      let this : (store_of s1).this ≡ None = sym (ap (λ r. (store_after r).this) ran) ∙ unbound_all here.world (env here n) whole_acts (store_of s) s.turns (ap (λ st. st.this) at_start) in
      sym (ap (λ r. report_of AtStatements (returned r)) ((λ i. run_all here.world (env here n) whole_acts (sym at_start i) (sym turns i)) ∙ ran)
      ∙ (λ i. record { ended = sym h i; variables = names (reversed_twice (map entry_meant s1.scope.items) i); exports = exports (reversed_twice (map entry_meant s1.scope.items) i); this = this i; calls = map call_meant s1.calls; turns = s1.turns }))

  ended_report : (ended : Result Dynamic Interrupt) (e : RunEnd) → EndsAs ended e → RunsStmts (script_setting engine host p) false p.statements s ended s1 → report_at s1 e ≡ report_of AtStatements (run_script engine host (core_script p) AtStatements scope n)
  ended_report (Ok v) e h q = outcome_report _ e (ap end_meant h) (q true)
  ended_report (Err NoMemory) e h q = absurd h
  ended_report (Err (Return v)) e h q = outcome_report _ e (ap end_meant h) (q true)
  ended_report (Err (Break v)) e h q = outcome_report _ e (ap end_meant h) (q true)
  ended_report (Err Continue) e h q = outcome_report _ e (ap end_meant h) (q true)
  ended_report (Err (Throw v)) e h q = outcome_report _ e (ap end_meant h) (q true)
  ended_report (Err (Stuck f)) e h q = outcome_report _ e (ap end_meant h) (q true)
  ended_report (Err OutOfTurns) e h q = outcome_report _ e (ap end_meant h) (q true)

  pub script_report : (ended : Result Dynamic Interrupt) (e : RunEnd) → EndsAs ended e → RunsStmts (script_setting engine host p) false p.statements s ended s1 → ReportsRun engine host (core_script p) scope n (report_at s1 e)
  script_report ended e h q = with_agreeing engine host (core_script p) scope n (report_at s1 e) (ended_report ended e h q)
