use Rattle.std.proofs.Common.{◌≡◌, List, ◌∷◌, ◌++◌, map, sym, ◌∙◌, subst}
use Rattle.std.proofs.lemmas.List.{append-nil}
use Rattle.theory_meaning.specs.Run.{exports, names}
use Rattle.run_host.specs.Entries.{export_meant, variable_meant}
use Rattle.run_state.specs.Entries.{entry_meant}
use Rattle.run_state.specs.declared.entries.Entry.{Entry}
use Rattle.rhai_run.proofs.Parted.{names_next, exports_next}
use Rattle.rhai_run.proofs.run.parted.Goals as goal

pub loop-held-preserved : goal.loop-held-preserved
loop-held-preserved c =
    let all = map entry_meant c.args.scope.items in
    let e = entry_meant c.in-Some.held in
    let rest = map entry_meant c.next.new.self in
    let named = map variable_meant c.loop-held.variables in
    let exported = map export_meant c.loop-held.exports in (
      names_next named _ e rest (names all) (subst (λ (es : List Entry). named ++ names (map entry_meant es) ≡ names all) c.in-Some.ensures c.loop-held.invariant.0) c.in_ok-push_part.ensures.names,
      exports_next exported _ e rest (exports all) (subst (λ (es : List Entry). exported ++ exports (map entry_meant es) ≡ exports all) c.in-Some.ensures c.loop-held.invariant.1) c.in_ok-push_part.ensures.exports,
    )

pub returns-clause-names : goal.returns-clause-names
returns-clause-names c =
    let all = map entry_meant c.args.scope.items in
    let named = map variable_meant c.loop-held.variables in
    sym (append-nil named) ∙ subst (λ (es : List Entry). named ++ names (map entry_meant es) ≡ names all) c.in_default.ensures.0 c.loop-held.invariant.0

pub returns-clause-exports : goal.returns-clause-exports
returns-clause-exports c =
    let all = map entry_meant c.args.scope.items in
    let exported = map export_meant c.loop-held.exports in
    sym (append-nil exported) ∙ subst (λ (es : List Entry). exported ++ exports (map entry_meant es) ≡ exports all) c.in_default.ensures.0 c.loop-held.invariant.1
