use Rattle.std.proofs.Common.{arith, ◌≡◌, ◌∙◌, drop, refl, subst, sym}
use Rattle.std.proofs.lemmas.Option.{IfSome_then}
use Rattle.base_tokens.specs.declared.token.Token.TheVariants as token
use Rattle.std.proofs.lemmas.Grind.{common_steps}
use Rattle.ast_types.specs.Reading.{expr_of, exprs_of}
use Rattle.ast_types.proofs.ItemLists as lists
use Rattle.theory_meaning.specs.Tree.{And, Coalesce, Exprs, FnCall, Or, expr, no_exprs}
use Rattle.theory_grammar.specs.Grammar.{Coalescing, Conjunction, Disjunction, contains, marked}
use Rattle.syntax_grammar.specs.Open.{ReadsOpen}
use Rattle.syntax_grammar.proofs.Steps.{contain, contain_not, operate}
use Rattle.syntax_grammar.proofs.ExprSteps.{and_tree, as_tree, coalesce_tree, dot_last, dot_step, dot_tree, index_last, index_step, index_tree, or_tree, items_next, items_over, list_of, more_next, more_over}
use Rattle.syntax_grammar.proofs.PairSteps.{pairs_next, pairs_over}
use Rattle.syntax_grammar.proofs.exprs.+grammar.Goals as goal

pub between-returns : goal.between-returns
between-returns t c =
    let two : exprs_of c.args.operands.now ≡ expr (expr_of c.lhs-item.result) (expr (expr_of c.rhs-item.result) no_exprs) = grind (arith, common_steps, lists.steps) in
    let reads : ReadsOpen c.in_ok-left.left.open c.precedence-level.result (drop c.args.at c.args.text.now) (FnCall (marked c.args.token) (expr (expr_of c.lhs-item.result) (expr (expr_of c.rhs-item.result) no_exprs))) (drop c.in_ok-next.next c.args.text.now) = grind (arith, operate) in
    subst (λ (es : Exprs). ReadsOpen c.in_ok-left.left.open c.precedence-level.result (drop c.args.at c.args.text.now) (FnCall (marked c.args.token) es) (drop c.in_ok-next.next c.args.text.now)) (sym two) reads

pub items-loop-expr-preserved : goal.items-loop-expr-preserved
items-loop-expr-preserved t c = λ rest r. c.loop-expr.invariant rest (items_next c.args.exprs.now c.loop-expr.expr-index c.expr-item.result c.loop-expr-test.true c.expr-item.is c.in_ok-start.ensures c.in_ok-place.ensures r)

pub items-returns : goal.items-returns
items-returns t c = c.loop-expr.invariant _ (items_over c.args.exprs.now c.loop-expr.expr-index c.loop-expr-test.false c.in_ok-next.ensures)

pub further-loop-i-preserved : goal.further-loop-i-preserved
further-loop-i-preserved t c = λ k rest s l r. c.loop-i.invariant k rest s l (more_next k c.args.sign.now c.args.level c.args.operands.now c.loop-i.i c.index-operands-i.result s l c.loop-i-test.true c.index-operands-i.is c.in_ok-behind.ensures c.in_ok-place.ensures r)

pub further-returns : goal.further-returns
further-returns t c = λ k s l. c.loop-i.invariant k _ s l (more_over k c.args.operands.now c.loop-i.i c.loop-i-test.false)

pub properties-loop-pair-preserved : goal.properties-loop-pair-preserved
properties-loop-pair-preserved t c = λ rest r. c.loop-pair.invariant rest (pairs_next c.args.pairs.now c.loop-pair.pair-index c.pair-item.result c.as_str.result.now c.loop-pair-test.true c.pair-item.is c.as_str.ensures c.in_ok-start.ensures c.in_ok-mid.ensures c.in_ok-behind.ensures c.in_ok-place.ensures r)

pub properties-returns : goal.properties-returns
properties-returns t c = c.loop-pair.invariant _ (pairs_over c.args.pairs.now c.loop-pair.pair-index c.loop-pair-test.false c.in_ok-next.ensures)

pub found-returns-in-And : goal.found-returns-in-And
found-returns-in-And t c =
    let is : expr_of c.args.expr.now ≡ And (exprs_of c.as_slice.result.now) = and_tree c.args.expr.now c.as_slice.result.now c.in-And.operands c.in-And.field-1 c.in-And.is (c.as_slice.ensures ∙ c.get-in-And.ensures) in
    IfSome_then c.list.result c.list.ensures (λ f r. as_tree c.args.expr.now is (r Conjunction refl refl))

pub found-returns-in-Or : goal.found-returns-in-Or
found-returns-in-Or t c =
    let is : expr_of c.args.expr.now ≡ Or (exprs_of c.as_slice-in-Or.result.now) = or_tree c.args.expr.now c.as_slice-in-Or.result.now c.in-Or.operands c.in-Or.field-1 c.in-Or.is (c.as_slice-in-Or.ensures ∙ c.get-in-Or.ensures) in
    IfSome_then c.list-in-Or.result c.list-in-Or.ensures (λ f r. as_tree c.args.expr.now is (r Disjunction refl refl))

pub found-returns-in-Coalesce : goal.found-returns-in-Coalesce
found-returns-in-Coalesce t c =
    let is : expr_of c.args.expr.now ≡ Coalesce (exprs_of c.as_slice-in-Coalesce.result.now) = coalesce_tree c.args.expr.now c.as_slice-in-Coalesce.result.now c.in-Coalesce.operands c.in-Coalesce.field-1 c.in-Coalesce.is (c.as_slice-in-Coalesce.ensures ∙ c.get-in-Coalesce.ensures) in
    IfSome_then c.list-in-Coalesce.result c.list-in-Coalesce.ensures (λ f r. as_tree c.args.expr.now is (r Coalescing refl refl))

pub dotted-returns-in_ok-next-in-Dot : goal.dotted-returns-in_ok-next-in-Dot
dotted-returns-in_ok-next-in-Dot t c =
    let is = dot_tree c.args.rest.now c.in-Dot.sides c.get.result.now c.get-in-Dot.result.now c.in-Dot.others c.in-Dot.field-2 c.in-Dot.is c.get.ensures c.get-in-Dot.ensures in
    IfSome_then c.dotted.result c.dotted.ensures (λ next r a. dot_step _ c.in_ok-negated.negated c.in_ok-negated.ensures is c.in_ok-next-in-Dot.ensures (r _) a)

pub dotted-returns-in_ok-next-in-Index : goal.dotted-returns-in_ok-next-in-Index
dotted-returns-in_ok-next-in-Index t c =
    let is = index_tree c.args.rest.now c.in-Index.sides c.get-in-Index.result.now c.get-in-Index-2.result.now c.in-Index.others c.in-Index.field-2 c.in-Index.is c.get-in-Index.ensures c.get-in-Index-2.ensures in
    IfSome_then c.indexed.result c.indexed.ensures (λ next r a. dot_step _ c.in_ok-negated.negated c.in_ok-negated.ensures is c.in_ok-next-in-Index.ensures (r _) a)

pub indexed-returns-in_ok-next-in-Dot : goal.indexed-returns-in_ok-next-in-Dot
indexed-returns-in_ok-next-in-Dot t c =
    let is = dot_tree c.args.rest.now c.in-Dot.sides c.get.result.now c.get-in-Dot.result.now c.in-Dot.others c.in-Dot.field-2 c.in-Dot.is c.get.ensures c.get-in-Dot.ensures in
    IfSome_then c.dotted.result c.dotted.ensures (λ next r a. index_step _ c.in_ok-negated.negated c.in_ok-negated.ensures is c.in_ok-next-in-Dot.ensures (r _) a)

pub indexed-returns-in_ok-next-in-Index : goal.indexed-returns-in_ok-next-in-Index
indexed-returns-in_ok-next-in-Index t c =
    let is = index_tree c.args.rest.now c.in-Index.sides c.get-in-Index.result.now c.get-in-Index-2.result.now c.in-Index.others c.in-Index.field-2 c.in-Index.is c.get-in-Index.ensures c.get-in-Index-2.ensures in
    IfSome_then c.indexed.result c.indexed.ensures (λ next r a. index_step _ c.in_ok-negated.negated c.in_ok-negated.ensures is c.in_ok-next-in-Index.ensures (r _) a)

pub dotted-returns-in_default : goal.dotted-returns-in_default
dotted-returns-in_default t c = IfSome_then c.member-in_default.result c.member-in_default.ensures (λ next s a. dot_last _ c.in_ok-negated.negated c.in_ok-negated.ensures s a)

pub indexed-returns-in-Some : goal.indexed-returns-in-Some
indexed-returns-in-Some t c = IfSome_then c.bracketed.result c.bracketed.ensures (λ next s a. index_last _ c.in-Some.negated c.in-Some.ensures s a)

pub contained-returns : goal.contained-returns
contained-returns t c =
    let two : exprs_of c.args.operands.now ≡ expr (expr_of c.whole_one-item.result) (expr (expr_of c.part-item.result) no_exprs) = grind (arith, common_steps, lists.steps) in
    subst (λ (es : Exprs). ReadsOpen c.in_ok-left.left.open 110 (drop c.args.at c.args.text.now) (FnCall contains es) (drop c.in_ok-next.next c.args.text.now)) (sym two) (contain c.if-left-lt110.false c.in_ok-left.ensures c.in_ok-behind.ensures c.in_ok-next.ensures)

pub not_contained-returns : goal.not_contained-returns
not_contained-returns t c =
    let two : exprs_of c.args.operands.now ≡ expr (expr_of c.whole_one-item.result) (expr (expr_of c.part-item.result) no_exprs) = grind (arith, common_steps, lists.steps) in
    subst (λ (es : Exprs). ReadsOpen c.in_ok-left.left.open 110 (drop c.args.at c.args.text.now) (FnCall (marked token.Bang) (expr (FnCall contains es) no_exprs)) (drop c.in_ok-next.next c.args.text.now)) (sym two) (contain_not c.if-left-lt110.false c.in_ok-left.ensures c.in_ok-behind.ensures c.in_ok-next.ensures)

pub list-returns : goal.list-returns
list-returns t c = λ k s l. list_of k c.args.level c.args.operands.now c.first-item.result l c.in-len2-up.len_at_least c.first-item.is (c.is_first.ensures c.if-not-is_first.false k l) c.in_ok-left.ensures (c.in_ok-next.ensures k s l)
