use Rattle.std.proofs.Common.{◌≡◌, refl, ap, ◌∙◌}
use Rattle.ast_types.specs.declared.block.StmtBlock.{StmtBlock}
use Rattle.ast_types.specs.Reading.{stmts_of}
use Rattle.script_names.proofs.Given.{ok_gives}
use Rattle.script_names.proofs.functions.renamed_function.Goals as goal

pub returns : goal.returns
returns c =
    let made = c.in_ok-body-2 in
    let three : (((made.body, made.name), made.this_type), made.params) ≡ c.in_ok-start-3.start = made.ensures.0 in
    let two : ((made.body, made.name), made.this_type) ≡ c.in_ok-start-2.start = ap (λ p. p.0) three ∙ c.in_ok-start-3.ensures.0 in
    let one : (made.body, made.name) ≡ c.in_ok-start.start = ap (λ p. p.0) two ∙ c.in_ok-start-2.ensures.0 in
    let body = ap (λ p. p.0) one ∙ c.in_ok-start.ensures.0 in
    let name = ap (λ p. p.1) one ∙ ok_gives _ c.in_ok-start.ensures.1 c.name_for.ensures.name in
    let type = ap (λ p. p.1) two ∙ ok_gives _ c.in_ok-start-2.ensures.1 c.copy_type.ensures in
    let params = ap (λ p. p.1) three ∙ ok_gives _ c.in_ok-start-3.ensures.1 c.copy_texts.ensures in
    record {
      function = λ i. record { name = name i; this_type = type i; params = params i; body = (ap (λ (b : StmtBlock). stmts_of b.block) body ∙ c.in_ok-body.ensures.block) i };
      access = refl;
      comments = ok_gives _ made.ensures.1 c.copy_texts-2.ensures;
    }
