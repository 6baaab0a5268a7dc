-- The rules of expressions: a lemma each, of the rule's name.
use Rattle.std.proofs.Common.{◌≡◌, List, Some, sym, ap, subst, Bool}
use Rattle.rhai_base.specs.Value.{Value, UnitV, ArrayV, values}
use Rattle.theory_meaning.specs.Act.{Gives, Ended, At}
use Rattle.theory_meaning.specs.ActForms.{give}
use Rattle.theory_meaning.specs.Constants.{array_value, constant_values, constant_for}
use Rattle.theory_meaning.specs.Core as core
use Rattle.theory_meaning.specs.Desugar.{core_expr}
use Rattle.theory_meaning.specs.Shape.{is_callable}
use Rattle.theory_meaning.specs.Meaning.{act}
use Rattle.theory_meaning.specs.Relations.{here}
use Rattle.theory_meaning.specs.Tree.{ChainFlags, Callee, Expr, DynamicConstant, UnitConstant, ArrayOf, BlockExpr, FnCall, Exprs, count_exprs, ExprStmt, FnCallStmt, no_stmts, stmt}
use Rattle.theory_meaning.proofs.Sequencing.{leave_same}
use Rattle.theory_rewriting.specs.Context.{Context}
use Rattle.theory_rewriting.specs.Folding.{folded}
use Rattle.theory_rewriting.specs.Parts.{link}
use Rattle.theory_rewriting.specs.Rules as rule
use Rattle.theory_rewriting.specs.Rules.{ChainRule, ExprRule}
use Rattle.theory_rewriting.proofs.Plain.{folded_plain}
use Rattle.theory_soundness.proofs.simulation.Setting.{Setting, Start, world, run_from}
use Rattle.theory_soundness.proofs.simulation.Simulation.{Simulates, simulates_equal, simulates_or_stuck}
use Rattle.theory_soundness.proofs.rules.Blocks.{scoped_deed}
use Rattle.theory_soundness.proofs.rules.Constants.{OrWrong, or_stuck, constant_means, Given, expr_given, call_given}
use Rattle.theory_soundness.proofs.rules.Logic as logic
use Rattle.theory_soundness.proofs.rules.Texts as text
use Rattle.theory_soundness.proofs.rules.Words as word
use Rattle.theory_soundness.proofs.rules.Chains as chain
use Rattle.theory_soundness.proofs.rules.Names as names
use Rattle.theory_rewriting.proofs.rules.Steps as owed
use Rattle.theory_soundness.proofs.rules.Steps.{step_rule}
use Rattle.theory_soundness.proofs.rules.Sound.{ExprSound}

pub array_of_constants : {k : Context} {es : Exprs} {vs : List Value} → constant_values es ≡ Some vs → ExprSound k (ArrayOf es) (DynamicConstant (ArrayV (values vs)))
array_of_constants {k = k} {es = es} {vs = vs} h = record {
  sound = λ c. simulates_or_stuck (λ m. or_stuck _ _ m.store m.turns (array_given c m) here);
} where
  array_given : (c : Setting k) (m : Start k) → OrWrong (run_from c m (act (world c) (core_expr c.in_loop (ArrayOf es)))) (At (Ended (Gives (ArrayV (values vs)))) m.store m.turns) m.store m.turns
  array_given c m = subst (λ o. Given (world c) m.env c.in_loop o (run_from c m (act (world c) (core_expr c.in_loop (ArrayOf es)))) m.store m.turns) (ap array_value h) (expr_given (world c) m.env c.in_loop (ArrayOf es) m.store m.turns)

pub braces_empty : {k : Context} → ExprSound k (BlockExpr no_stmts) UnitConstant
braces_empty = record {
  sound = λ c. simulates_equal (λ m. leave_same m.store (Gives UnitV) m.turns);
}

pub braces_of_expression : {k : Context} {e : Expr} → ExprSound k (BlockExpr (stmt (ExprStmt e) no_stmts)) e
braces_of_expression {e = e} = record {
  sound = λ c. simulates_equal (λ m. scoped_deed (world c) m.env c.in_loop m.adds (core.Evaluate (core_expr c.in_loop e)) m.store m.turns);
}

pub braces_of_call : {k : Context} {f : Callee} {es : Exprs} → ExprSound k (BlockExpr (stmt (FnCallStmt f es) no_stmts)) (FnCall f es)
braces_of_call {f = f} {es = es} = record {
  sound = λ c. simulates_equal (λ m. scoped_deed (world c) m.env c.in_loop m.adds (core.Evaluate (core_expr c.in_loop (FnCall f es))) m.store m.turns);
}

pub call_folds : {k : Context} (c : Setting k) (f : Callee) (es : Exprs) (v : Value) → folded k.engine f es ≡ Some v → Simulates c (act (world c) (core_expr c.in_loop (FnCall f es))) (act (world c) (core_expr c.in_loop (constant_for v)))
call_folds {k = k} c f es v h =
    subst (λ x. Simulates c (act (world c) (core_expr c.in_loop (FnCall f es))) (act (world c) x)) (sym (constant_means c.in_loop v (folded_plain k.engine f es v h)))
    (simulates_or_stuck {b = give v} (λ m. or_stuck _ _ m.store m.turns (call_given (world c) m.env c.in_loop (is_callable f (count_exprs es)) f f.token es v m.store m.turns h) here))

pub operator_folds : {k : Context} {c : Callee} {es : Exprs} {v : Value} → folded k.engine c es ≡ Some v → ExprSound k (FnCall c es) (constant_for v)
operator_folds {k = k} {c = c} {es = es} {v = v} q = record {
  sound = λ s. call_folds s c es v q;
}

-- ---- every rule

chain_rule : {k : Context} {dot : Bool} {f : ChainFlags} {e a e' : Expr} → ChainRule k dot f e a e' → ExprSound k (link dot f e a) e'
chain_rule (rule.unit_ends h) = chain.unit_ends _ _ _ h
chain_rule (rule.step_answers s) = chain.step_answers _ (owed.step_rule s) (step_rule s)
chain_rule (rule.chain_goes_on next m r q s) = chain.chain_goes_on _ next m r q (owed.step_rule s) (step_rule s)
chain_rule (rule.known_property fs h) = names.known_property fs h
chain_rule (rule.known_entry fs y h q) = names.known_entry fs y h q

pub expr_rule : {k : Context} {e e' : Expr} → ExprRule k e e' → ExprSound k e e'
expr_rule (rule.array_of_constants h) = array_of_constants h
expr_rule rule.braces_empty = braces_empty
expr_rule rule.braces_of_expression = braces_of_expression
expr_rule (rule.braces_of_call h) = braces_of_call
expr_rule (rule.operator_folds h) = operator_folds h
expr_rule (rule.and_changes h j) = logic.and_changes h j
expr_rule (rule.or_changes h j) = logic.or_changes h j
expr_rule (rule.coalesce_changes h j) = logic.coalesce_changes h j
expr_rule rule.and_of_one = logic.and_of_one
expr_rule rule.or_of_one = logic.or_of_one
expr_rule rule.coalesce_of_one = logic.coalesce_of_one
expr_rule rule.and_of_none = logic.and_of_none
expr_rule rule.or_of_none = logic.or_of_none
expr_rule rule.coalesce_of_none = logic.coalesce_of_none
expr_rule (rule.text_changes h) = text.text_changes h
expr_rule (rule.text_folds vs h) = text.text_folds vs h
expr_rule (rule.map_of_constants vs h) = text.map_of_constants vs h
expr_rule (rule.type_of_folds v h) = word.type_of_folds v h
expr_rule (rule.is_shared_folds v h) = word.is_shared_folds v h
expr_rule (rule.fn_folds f h j) = word.fn_folds f h j
expr_rule (rule.curry_folds f us vs h j) = word.curry_folds f us vs h j
expr_rule (rule.dot_rule s) = chain_rule s
expr_rule (rule.index_rule s) = chain_rule s
expr_rule (rule.known_name v h) = names.known_name v h
expr_rule (rule.known_pointer f h q) = names.known_pointer f h q
