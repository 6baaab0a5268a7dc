use Rattle.std.proofs.Common.{List, Option, ap, ◌∙◌}
use Rattle.std.specs.declared.num.NonZeroUsize.{NonZeroUsize}
use Rattle.base_tokens.specs.declared.ident.Ident.{Ident}
use Rattle.opt_base.specs.State.{progress}
use Rattle.ast_types.specs.Reading.{shared_names}
use Rattle.theory_rewriting.specs.Known.{unknown}
use Rattle.opt_stmts.proofs.FiredAssignments.{shared}
use Rattle.opt_stmts.proofs.assign.share.share_known.Goals as goal

pub returns : goal.returns
returns c =
    λ r w. shared (shared_names c.args.names.now) (shared_names c.keep_unknown.new.names)
    (c.keep_unknown.ensures ∙ ap (λ ks. unknown ks (shared_names c.get_mut.result.now)) c.note_fired.ensures.known ∙ ap (λ (xs : List (Ident × Option NonZeroUsize)). unknown ((progress c.args.state.now).known) (shared_names xs)) c.get_mut.ensures.value)
    c.requires c.note_fired.ensures.dirty c.note_fired.ensures.known
