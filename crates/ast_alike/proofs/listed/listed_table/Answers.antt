use Rattle.std.proofs.Common.{◌≡◌, length, sym, ap, ◌∙◌}
use Rattle.ast_types.specs.Reading.{arms_of, table_of}
use Rattle.theory_meaning.specs.Tree.{count_arms}
use Rattle.theory_spelling.specs.Listed.{kept_arms, marks_of, number_in, numbered}
use Rattle.ast_alike.proofs.ByCases.{ok_gives}
use Rattle.ast_alike.proofs.Kept.{count_arms-of, made_arms, made_table}
use Rattle.ast_alike.proofs.Numbers.{marks-length}
use Rattle.ast_alike.proofs.listed.listed_table.Goals as goal

pub kept_arms-requires : goal.kept_arms-requires
kept_arms-requires c =
    let t = table_of c.args.table.now in
    let marked : c.in_ok-arms.marks.items ≡ marks_of t (count_arms (arms_of c.args.arms)) =
    ok_gives _ c.in_ok-arms.ensures.1 c.marks_of.ensures ∙ ap (marks_of t) (c.len-len.ensures ∙ sym (count_arms-of c.args.arms)) in
    ap length (c.as_slice-2.ensures.value ∙ marked) ∙ marks-length t _ ∙ count_arms-of c.args.arms ∙ sym (ap length (c.in_ok-arms-2.ensures.0 ∙ c.in_ok-arms.ensures.0))

pub returns-clause-arms : goal.returns-clause-arms
returns-clause-arms c =
    let t = table_of c.args.table.now in
    let marked : c.in_ok-arms.marks.items ≡ marks_of t (count_arms (arms_of c.args.arms)) =
    ok_gives _ c.in_ok-arms.ensures.1 c.marks_of.ensures ∙ ap (marks_of t) (c.len-len.ensures ∙ sym (count_arms-of c.args.arms)) in
    made_arms c.numbered_table.result c.in_ok-kept.kept _
    (c.in_ok-kept.ensures ∙ (λ i. kept_arms ((c.as_slice-2.ensures.value ∙ marked) i) (arms_of ((c.in_ok-arms-2.ensures.0 ∙ c.in_ok-arms.ensures.0) i))))
    c.numbered_table.ensures.arms

pub returns-clause-table : goal.returns-clause-table
returns-clause-table c =
    let t = table_of c.args.table.now in
    let marked : c.in_ok-arms.marks.items ≡ marks_of t (count_arms (arms_of c.args.arms)) =
    ok_gives _ c.in_ok-arms.ensures.1 c.marks_of.ensures ∙ ap (marks_of t) (c.len-len.ensures ∙ sym (count_arms-of c.args.arms)) in
    made_table c.numbered_table.result _ _
    (ap (λ number. numbered number t) (ok_gives _ c.in_ok-arms-2.ensures.1 c.gaps_of.ensures ∙ ap number_in (c.as_slice.ensures.value ∙ marked)))
    c.numbered_table.ensures.table
