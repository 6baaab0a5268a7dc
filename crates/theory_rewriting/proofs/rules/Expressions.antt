-- The rules of expressions: a lemma each, of the rule's name.
use Rattle.std.proofs.Common.{◌≡◌, ◌≤◌, Bool, List, Some, true, refl, arith}
use Rattle.rhai_base.specs.Value.{Value, UnitV, ArrayV, PointerV, values}
use Rattle.theory_meaning.specs.Constants.{constant_values, constant_for}
use Rattle.theory_meaning.specs.Tree.{ChainFlags, Callee, Expr, DynamicConstant, UnitConstant, ArrayOf, BlockExpr, FnCall, Exprs, ExprStmt, FnCallStmt, no_stmts, stmt}
use Rattle.theory_meaning.specs.Walk.{Node, Around, whole, throughout, over_expr}
use Rattle.theory_rewriting.specs.Context.{Context}
use Rattle.theory_rewriting.specs.Folding.{folded}
use Rattle.theory_rewriting.specs.Parts.{link}
use Rattle.theory_rewriting.specs.Rules as rule
use Rattle.theory_rewriting.specs.Rules.{ChainRule, ExprRule}
use Rattle.theory_meaning.specs.Weight.{expr_weight}
use Rattle.theory_rewriting.proofs.Plain.{is_plain_value, folded_plain}
use Rattle.theory_rewriting.proofs.rules.Logic as logic
use Rattle.theory_rewriting.proofs.rules.Texts as text
use Rattle.theory_rewriting.proofs.rules.Words as word
use Rattle.theory_rewriting.proofs.rules.Chains as chain
use Rattle.theory_rewriting.proofs.rules.Names as names
use Rattle.theory_rewriting.proofs.rules.Steps.{step_rule}
use Rattle.theory_rewriting.proofs.rules.Lasting.{Lasting}
use Rattle.theory_rewriting.proofs.rules.Obligation.{ExprObligation}

pub array_of_constants : {k : Context} {es : Exprs} {vs : List Value} → constant_values es ≡ Some vs → ExprObligation k (ArrayOf es) (DynamicConstant (ArrayV (values vs)))
array_of_constants {k = k} {es = es} {vs = vs} h = record {
  lighter = omega arith;
  keeps = λ P l lasts h. (lasts.constant (ArrayV (values vs)) refl, tt);
}

pub braces_empty : {k : Context} → ExprObligation k (BlockExpr no_stmts) UnitConstant
braces_empty = record {
  lighter = omega arith;
  keeps = λ P l lasts h. (lasts.value UnitV, tt);
}

pub braces_of_expression : {k : Context} {e : Expr} → ExprObligation k (BlockExpr (stmt (ExprStmt e) no_stmts)) e
braces_of_expression {e = e} = record {
  lighter = omega arith;
  keeps = λ P l lasts h. h.1.0.1;
}

pub braces_of_call : {k : Context} {f : Callee} {es : Exprs} → ExprObligation k (BlockExpr (stmt (FnCallStmt f es) no_stmts)) (FnCall f es)
braces_of_call {f = f} {es = es} = record {
  lighter = omega arith;
  keeps = λ P l lasts h. (lasts.call f es h.1.0.0, h.1.0.1);
}

-- ---- an operator that folds

-- a pointer may be the call that makes it; an operator answers none
pub constant_light : (v : Value) → is_plain_value v ≡ true → expr_weight (constant_for v) ≤ 2
constant_light (PointerV f vs) p = absurd cc
constant_light _ p = omega arith

-- a constant has no parts
pub constant_keeps : (P : Around → Node → Type 0) (l : Bool) → Lasting P l → (v : Value) → is_plain_value v ≡ true → over_expr (throughout P) (constant_for v) (whole l)
constant_keeps P l lasts (PointerV f vs) p = absurd cc
constant_keeps P l lasts v p = (lasts.constant v p, tt)

pub operator_folds : {k : Context} {c : Callee} {es : Exprs} {v : Value} → folded k.engine c es ≡ Some v → ExprObligation k (FnCall c es) (constant_for v)
operator_folds {k = k} {c = c} {es = es} {v = v} q = record {
  lighter = omega (arith, constant_light v (folded_plain k.engine c es v q));
  keeps = λ P l lasts h. constant_keeps P l lasts v (folded_plain k.engine c es v q);
}

-- ---- every rule

pub chain_rule : {k : Context} {dot : Bool} {f : ChainFlags} {e a e' : Expr} → ChainRule k dot f e a e' → ExprObligation k (link dot f e a) e'
chain_rule (rule.unit_ends h) = chain.unit_ends _ _ _ h
chain_rule (rule.step_answers s) = chain.step_answers _ (step_rule s)
chain_rule (rule.chain_goes_on next m r q s) = chain.chain_goes_on _ next m r q (step_rule s)
chain_rule (rule.known_property fs h) = names.known_property fs h
chain_rule (rule.known_entry fs y h q) = names.known_entry fs y h q

pub expr_rule : {k : Context} {e e' : Expr} → ExprRule k e e' → ExprObligation k e e'
expr_rule (rule.array_of_constants h) = array_of_constants h
expr_rule rule.braces_empty = braces_empty
expr_rule rule.braces_of_expression = braces_of_expression
expr_rule (rule.braces_of_call h) = braces_of_call
expr_rule (rule.operator_folds h) = operator_folds h
expr_rule (rule.and_changes h j) = logic.and_changes h j
expr_rule (rule.or_changes h j) = logic.or_changes h j
expr_rule (rule.coalesce_changes h j) = logic.coalesce_changes h j
expr_rule rule.and_of_one = logic.and_of_one
expr_rule rule.or_of_one = logic.or_of_one
expr_rule rule.coalesce_of_one = logic.coalesce_of_one
expr_rule rule.and_of_none = logic.and_of_none
expr_rule rule.or_of_none = logic.or_of_none
expr_rule rule.coalesce_of_none = logic.coalesce_of_none
expr_rule (rule.text_changes h) = text.text_changes h
expr_rule (rule.text_folds vs h) = text.text_folds vs h
expr_rule (rule.map_of_constants vs h) = text.map_of_constants vs h
expr_rule (rule.type_of_folds v h) = word.type_of_folds v h
expr_rule (rule.is_shared_folds v h) = word.is_shared_folds v h
expr_rule (rule.fn_folds f h j) = word.fn_folds f h j
expr_rule (rule.curry_folds f us vs h j) = word.curry_folds f us vs h j
expr_rule (rule.dot_rule s) = chain_rule s
expr_rule (rule.index_rule s) = chain_rule s
expr_rule (rule.known_name v h) = names.known_name v h
expr_rule (rule.known_pointer f h q) = names.known_pointer f h q
