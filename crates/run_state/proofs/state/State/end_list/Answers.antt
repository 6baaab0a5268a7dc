use Rattle.std.proofs.Common.{◌≡◌, [], map, sym, ap, ◌∙◌}
use Rattle.theory_meaning.specs.Run.{reversed}
use Rattle.run_state.specs.Entries.{entry_meant}
use Rattle.run_state.specs.State.{store_of}
use Rattle.run_state.proofs.Scopes.{restore_cut_to}
use Rattle.run_state.proofs.state.State.end_list.Goals as goal

pub returns-clause-store : goal.returns-clause-store
returns-clause-store c old m =
    let scope = ap (λ l. reversed (map entry_meant l) []) c.truncate.ensures.items ∙ restore_cut_to entry_meant old.scope c.args.mark.names c.args.self.now.scope.items (sym m.0) in
    λ i. record (store_of c.args.self.now) { scope = scope i; is_own = m.1 i }
