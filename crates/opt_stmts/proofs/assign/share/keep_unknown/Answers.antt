use Rattle.std.proofs.Common.{rules, ap, ◌∙◌}
use Rattle.std.proofs.lemmas.Fn.{filter_same}
use Rattle.opt_base.specs.State.{progress}
use Rattle.ast_types.specs.Reading.{shared_names}
use Rattle.theory_rewriting.specs.Known.{unknown}
use Rattle.opt_stmts.proofs.Names.{is_unknown, left}
use Rattle.opt_stmts.proofs.assign.share.keep_unknown.Goals as goal

pub returns : goal.returns
returns c =
    let ks = (progress c.args.state.now).known in
    let kept = filter_same _ (is_unknown ks) _ (λ x b f' k. search rules) _ _ c.retain.ensures.filtered in
    ap shared_names (c.from_vec.ensures ∙ kept) ∙ left ks _ ∙ ap (λ l. unknown ks (shared_names l)) (c.into_vec-left.ensures ∙ c.replace.ensures.value)
