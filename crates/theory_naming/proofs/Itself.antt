-- Where each name stands for itself, each tree is like itself. So the order of functions in the table doesn't matter.
use Rattle.std.proofs.Common.{◌≡◌, ℕ, suc, List, [], ◌∷◌, Option, Some, None, refl, ap, subst}
use Rattle.std.specs.Prelude.{codes, ◌++◌}
use Rattle.rhai_base.specs.Value.{Text, Value, UnitV, BoolV, IntV, FloatV, CharV, TextV, ArrayV, MapV, PointerV, RangeV, RangeInclusiveV, Values, no_values, item, Fields, no_fields, field, same_text, shown, form, inner}
use Rattle.theory_meaning.specs.Engine.{Engine, constant_named}
use Rattle.theory_meaning.specs.Act.{ScopeEntry, Answer, Answers, AnswersThrow, Host, Key}
use Rattle.theory_meaning.specs.Core.{Callee, OnOperator, Qualified, ByName, Expr, Ill, Constant, InterpolatedString, ArrayOf, MapOf, Variable, GlobalVariable, ModuleVariable, ModuleOf, ThisPtr, BlockExpr, FnCall, Chain, And, Or, Coalesce, Exprs, no_exprs, expr, Pairs, no_pairs, pair, Base, OnPlace, OnValue, Step, IllStep, Property, Index, Method, Steps, last, more, Target, IllTarget, Nowhere, ToRoot, ToPart, Guard, Always, When, Arms, no_arms, arm, Deed, IllDeed, Noop, If, Switch, While, Do, For, Assignment, Block, TryCatch, Evaluate, Discard, Leave, Stmt, Var, Does, Stmts, no_stmts, stmt, Function, Script}
use Rattle.theory_meaning.specs.Walk.{listed}
use Rattle.theory_meaning.specs.Run.{EntryPoint, AtStatements, AtFunction, function_of, run_script}
use Rattle.theory_naming.specs.Naming.{OptionOf, both_none, both_some, ListOf, both_empty, both_more, Like, unit_like, bool_like, int_like, float_like, char_like, text_like, array_like, map_like, pointer_like, range_like, inclusive_like, LikeAll, none_like, item_like, LikeFields, no_fields_like, field_like, MaybeLike, EntryLike, entry_like, AnswerLike, answers_like, throws_like, HostLike, KeyLike, key_like, CalleeLike, operator_like, qualified_like, by_name_like, ExprLike, ill_like, constant_like, interpolated_like, array_of_like, map_of_like, variable_like, global_variable_like, module_variable_like, module_of_like, this_like, block_expr_like, call_expr_like, chain_like, and_like, or_like, coalesce_like, ExprsLike, no_exprs_like, expr_like, PairsLike, no_pairs_like, pair_like, BaseLike, on_place_like, on_value_like, StepLike, ill_step_like, property_like, index_like, method_like, StepsLike, last_like, more_like, TargetLike, ill_target_like, nowhere_like, to_root_like, to_part_like, GuardLike, always_like, when_like, ArmsLike, no_arms_like, arm_like, DeedLike, ill_deed_like, noop_like, if_deed_like, switch_like, while_like, do_like, for_like, assignment_like, block_like, try_like, evaluate_like, discard_like, leave_like, StmtLike, var_like, does_like, StmtsLike, no_stmts_like, stmt_like, FunctionLike, function_like, ScriptLike, EntryPointLike, at_statements_like, at_function_like}
use Rattle.theory_naming.proofs.Runs.{names_do_not_matter}
use Rattle.theory_naming.proofs.Exact.{list_equal, value_equal, call_equal, result_equal}
use Rattle.theory_naming.proofs.Operators.{computed_like}
use Rattle.theory_naming.proofs.Shown.{text_kept}

abbrev Equal : Text → Text → Type 0
Equal f g = f ≡ g

mutual
  value_itself : (v : Value) → Like Equal v v
  value_itself UnitV = unit_like
  value_itself (BoolV b) = bool_like b
  value_itself (IntV n) = int_like n
  value_itself (FloatV c) = float_like c
  value_itself (CharV c) = char_like c
  value_itself (TextV t) = text_like t
  value_itself (ArrayV vs) = array_like (all_itself vs)
  value_itself (MapV fs) = map_like (fields_itself fs)
  value_itself (PointerV f vs) = pointer_like refl (all_itself vs)
  value_itself (RangeV a b) = range_like a b
  value_itself (RangeInclusiveV a b) = inclusive_like a b

  all_itself : (vs : Values) → LikeAll Equal vs vs
  all_itself no_values = none_like
  all_itself (item v vs) = item_like (value_itself v) (all_itself vs)

  fields_itself : (fs : Fields) → LikeFields Equal fs fs
  fields_itself no_fields = no_fields_like
  fields_itself (field k v fs) = field_like k (value_itself v) (fields_itself fs)

list_itself : {A : Type 0} {R : A → A → Type 0} → ((a : A) → R a a) → (xs : List A) → ListOf R xs xs
list_itself h [] = both_empty
list_itself h (x ∷ xs) = both_more (h x) (list_itself h xs)

option_itself : {A : Type 0} {R : A → A → Type 0} → ((a : A) → R a a) → (o : Option A) → OptionOf R o o
option_itself h None = both_none
option_itself h (Some a) = both_some (h a)

entry_itself : (e : ScopeEntry) → EntryLike Equal e e
entry_itself e = entry_like e.name e.kind (value_itself e.value)

answer_itself : (a : Answer) → AnswerLike Equal a a
answer_itself (Answers v o) = answers_like (value_itself v) (option_itself value_itself o)
answer_itself (AnswersThrow v) = throws_like (value_itself v)

host_itself : (h : Host) → HostLike Equal h h
host_itself h = record {
  answer = λ cs ds c d p q. subst (λ x. AnswerLike Equal (h.answer cs c) (h.answer x d)) (list_equal (call_equal Equal (λ f g n. n)) cs ds p) (subst (λ x. AnswerLike Equal (h.answer cs c) (h.answer cs x)) (call_equal Equal (λ f g n. n) c d q) (answer_itself (h.answer cs c)));
  value = λ x. option_itself value_itself (h.module_value x);
  path = λ p. refl;
  text = λ j q. ap h.text (value_equal Equal (λ f g n. n) _ _ j);
}

callee_itself : (c : Callee) → CalleeLike Equal c c
callee_itself (OnOperator op) = operator_like op
callee_itself (Qualified m f) = qualified_like m f
callee_itself (ByName f b) = by_name_like b refl refl

mutual
  expr_itself : (e : Expr) → ExprLike Equal e e
  expr_itself Ill = ill_like
  expr_itself (Constant v) = constant_like (value_itself v)
  expr_itself (InterpolatedString es) = interpolated_like (exprs_itself es)
  expr_itself (ArrayOf es) = array_of_like (exprs_itself es)
  expr_itself (MapOf ps) = map_of_like (pairs_itself ps)
  expr_itself (Variable x) = variable_like x
  expr_itself (GlobalVariable x) = global_variable_like x
  expr_itself (ModuleVariable m x) = module_variable_like m x
  expr_itself (ModuleOf e) = module_of_like (expr_itself e)
  expr_itself ThisPtr = this_like
  expr_itself (BlockExpr ss) = block_expr_like (stmts_itself ss)
  expr_itself (FnCall c es) = call_expr_like (callee_itself c) (λ q t r. refl) (exprs_itself es)
  expr_itself (Chain b ps) = chain_like (base_itself b) (steps_itself ps)
  expr_itself (And es) = and_like (exprs_itself es)
  expr_itself (Or es) = or_like (exprs_itself es)
  expr_itself (Coalesce es) = coalesce_like (exprs_itself es)

  exprs_itself : (es : Exprs) → ExprsLike Equal es es
  exprs_itself no_exprs = no_exprs_like
  exprs_itself (expr e es) = expr_like (expr_itself e) (exprs_itself es)

  pairs_itself : (ps : Pairs) → PairsLike Equal ps ps
  pairs_itself no_pairs = no_pairs_like
  pairs_itself (pair k e ps) = pair_like k (expr_itself e) (pairs_itself ps)

  base_itself : (b : Base) → BaseLike Equal b b
  base_itself (OnPlace r) = on_place_like r
  base_itself (OnValue e) = on_value_like (expr_itself e)

  step_itself : (p : Step) → StepLike Equal p p
  step_itself IllStep = ill_step_like
  step_itself (Property p) = property_like p
  step_itself (Index e) = index_like (expr_itself e)
  step_itself (Method f es) = method_like refl refl (exprs_itself es)

  steps_itself : (ps : Steps) → StepsLike Equal ps ps
  steps_itself (last b p) = last_like b (step_itself p)
  steps_itself (more b p ps) = more_like b (step_itself p) (steps_itself ps)

  target_itself : (l : Target) → TargetLike Equal l l
  target_itself IllTarget = ill_target_like
  target_itself Nowhere = nowhere_like
  target_itself (ToRoot r) = to_root_like r
  target_itself (ToPart r ps) = to_part_like r (steps_itself ps)

  guard_itself : (g : Guard) → GuardLike Equal g g
  guard_itself Always = always_like
  guard_itself (When e) = when_like (expr_itself e)

  arms_itself : (is : List ℕ) (i : ℕ) (as' : Arms) → ArmsLike Equal is i as' as'
  arms_itself is i no_arms = no_arms_like i
  arms_itself is i (arm c a as') = arm_like (expr_itself c) (expr_itself a) (arms_itself is (suc i) as')

  deed_itself : (d : Deed) → DeedLike Equal d d
  deed_itself IllDeed = ill_deed_like
  deed_itself Noop = noop_like
  deed_itself (If e a b) = if_deed_like (expr_itself e) (stmts_itself a) (stmts_itself b)
  deed_itself (Switch e as' t) = switch_like t (expr_itself e) (arms_itself (listed t) 0 as')
  deed_itself (While g b) = while_like (guard_itself g) (stmts_itself b)
  deed_itself (Do n e b) = do_like n (expr_itself e) (stmts_itself b)
  deed_itself (For x i e b) = for_like x i (expr_itself e) (stmts_itself b)
  deed_itself (Assignment op l e) = assignment_like op (target_itself l) (expr_itself e)
  deed_itself (Block ss) = block_like (stmts_itself ss)
  deed_itself (TryCatch x a b) = try_like x (stmts_itself a) (stmts_itself b)
  deed_itself (Evaluate e) = evaluate_like (expr_itself e)
  deed_itself (Discard e) = discard_like (expr_itself e)
  deed_itself (Leave k e) = leave_like k (expr_itself e)

  stmt_itself : (s : Stmt) → StmtLike Equal s s
  stmt_itself (Var k b x e) = var_like k b x (expr_itself e)
  stmt_itself (Does d) = does_like (deed_itself d)

  stmts_itself : (ss : Stmts) → StmtsLike Equal ss ss
  stmts_itself no_stmts = no_stmts_like
  stmts_itself (stmt s ss) = stmt_like (stmt_itself s) (stmts_itself ss)

function_itself : (f : Function) → FunctionLike Equal f f
function_itself f = function_like f.name f.name f.this_type f.params (stmts_itself f.body)

key_equal : (k l : Key) → KeyLike Equal k l → k ≡ l
key_equal _ _ (key_like {f = f} {g = g} n t q) = λ i. record { name = q i; arity = n; this_type = t }

entry_point_itself : (e : EntryPoint) → EntryPointLike Equal e e
entry_point_itself AtStatements = at_statements_like
entry_point_itself (AtFunction k o vs) = at_function_like (key_like k.arity k.this_type refl) (option_itself value_itself o) (list_itself value_itself vs)

by_key : (p q : Script) → p.statements ≡ q.statements → ((k : Key) → function_of p.functions k ≡ function_of q.functions k) → ScriptLike Equal p q
by_key p q s f = record {
  statements = subst (λ ss. StmtsLike Equal p.statements ss) s (stmts_itself p.statements);
  functions = λ k l j. subst (λ m. OptionOf (FunctionLike Equal) (function_of p.functions k) (function_of q.functions m)) (key_equal k l j) (subst (λ o. OptionOf (FunctionLike Equal) (function_of p.functions k) o) (f k) (option_itself function_itself (function_of p.functions k)));
}

shown_equal : (f g : Text) (vs ws : Values) → f ≡ g → inner (PointerV f vs) ≡ inner (PointerV g ws)
unfolding form
shown_equal f g vs ws r = ap (λ t. codes "Fn(" ++ shown t ++ codes ")") r

-- Where each name stands for itself or for nothing, as one that a table may leave out, the runs are equal.
pub equal_runs : (N : Text → Text → Type 0) → ((f g : Text) → N f g → f ≡ g) → (engine : Engine) → ((x : Text) → MaybeLike N (constant_named engine.constants x) (constant_named engine.constants x)) → (h h' : Host) → HostLike N h h' → (p q : Script) → ScriptLike N p q → (e e' : EntryPoint) → EntryPointLike N e e' → (es es' : List ScopeEntry) → ListOf (EntryLike N) es es' → (n : ℕ) → run_script engine h p e es n ≡ run_script engine h' q e' es' n
equal_runs N equal engine known h h' hosts p q like e e' entry es es' scope n =
    result_equal N equal _ _
    (names_do_not_matter N (λ a a' b b' j k. λ i. same_text (equal a a' j i) (equal b b' k i)) (text_kept N (λ a b vs ws r. shown_equal a b vs ws (equal a b r))) (computed_like N) engine known h h' hosts p q like e e' entry es es' scope n)

-- Scripts of the same statements, whose tables have the same function for each key, have equal runs.
pub tables_by_key : (p q : Script) → p.statements ≡ q.statements → ((k : Key) → function_of p.functions k ≡ function_of q.functions k) → (engine : Engine) (host : Host) (e : EntryPoint) (scope : List ScopeEntry) (n : ℕ) → run_script engine host p e scope n ≡ run_script engine host q e scope n
tables_by_key p q s f engine host e scope n =
    equal_runs Equal (λ a b r. r) engine (λ x. option_itself value_itself (constant_named engine.constants x)) host host (host_itself host) p q (by_key p q s f) e e (entry_point_itself e) scope scope (list_itself entry_itself scope) n
