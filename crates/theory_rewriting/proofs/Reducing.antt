-- For each case of what is left to reduce, the rule that removes it.
use Rattle.std.proofs.Common.{◌≡◌, ℕ, zero, suc, Bool, true, false, cond, List, [], ◌∷◌, Option, Some, None, refl, sym, ap, ◌∙◌, subst}
use Rattle.std.specs.Prelude.{◌&&◌, ◌||◌, not, is_some, nat_lt}
use Rattle.std.proofs.lemmas.Slice.Eq.{bytes_eq-Decides}
use Rattle.rhai_base.specs.Value.{Text, Value, UnitV, MapV, PointerV, no_values, item, same_text, is_hashable, BoolV, IntV, FloatV, CharV, TextV}
use Rattle.theory_meaning.specs.Constants.{constant_value, constant_values, constant_entries, constant_bool, are_floatless, where_floatless, text_constants, array_value, map_value, joined_value, value_and, entry_and, is_constant, is_literal_unit, constant_for}
use Rattle.theory_meaning.specs.Control.{case_for, ranges_with, or_ranges, chosen}
use Rattle.theory_meaning.specs.Desugar.{root_of}
use Rattle.theory_meaning.specs.Elements.{entry}
use Rattle.theory_meaning.specs.Engine.{Engine}
use Rattle.theory_meaning.specs.Faults.{has_operands}
use Rattle.theory_meaning.specs.Queries.{is_control_flow_break, is_pure_expr, are_pure_exprs, are_pure_pairs, is_pure}
use Rattle.theory_meaning.specs.Queries.{is_unit as is_unit_expr}
use Rattle.theory_meaning.specs.Shape.{is_unit, is_rest, is_left_side, condition_at, case_fits, spares, default_fits, is_table}
use Rattle.theory_meaning.specs.Tree.{ChainFlags, SwitchTable, Callee, Expr, DynamicConstant, BoolConstant, UnitConstant, InterpolatedString, ArrayOf, MapOf, Variable, ThisPtr, Property, BlockExpr, FnCall, Dot, Index, And, Or, Coalesce, Exprs, no_exprs, expr, Pairs, no_pairs, pair, Arms, no_arms, arm, count_arms, Stmt, Noop, If, Switch, While, Assignment, Var, FnCallStmt, ExprStmt, Return, an_expr, Stmts, no_stmts, stmt, IntegerConstant, FloatConstant, CharConstant, StringConstant}
use Rattle.theory_meaning.specs.Walk.{Node, OfExpr, OfStmt, Spot, RightSide, every, over_stmts, arms_at, arm_at, listed}
use Rattle.theory_meaning.proofs.Walk.{Alongside, stmts_alongside}
use Rattle.base_tokens.specs.Names.{are_all}
use Rattle.theory_rewriting.specs.Context.{Context, known_behind, known_after, ListKind, Whole, ListContext, behind}
use Rattle.theory_rewriting.specs.Folding.{folded}
use Rattle.theory_rewriting.specs.Evals.{keeps_names}
use Rattle.theory_rewriting.specs.Known.{Known, look}
use Rattle.theory_rewriting.specs.Operands.{OperandsTo, in_other_operands, after_deciding_go, CoalesceTo, in_other_options, after_some_go}
use Rattle.theory_rewriting.specs.Parts.{constant_of}
use Rattle.theory_rewriting.specs.Reducible.{IsIrreducibleList, is_that, is_always, follows_deciding, is_some_value, follows_some, property_of, index_of, without_question, chain_answer, is_short, is_chosen, goes_on_after_leaving, tests_name, tests_constant, is_idle, idles, ends_in_return, AnswersNothing, InExpressions, IsIrreducibleAlone, IsIrreducibleNode, is_short_for}
use Rattle.theory_rewriting.specs.Residue.{holds_constant, IsReducedNode, when, where_opened, where_it_stands, where_chained, every_reached, AreReduced}
use Rattle.theory_rewriting.specs.Testing.{InLists}
use Rattle.theory_rewriting.specs.Rules as rule
use Rattle.theory_rewriting.specs.Rules.{chosen as chosen_block, block_or_noop, ExprRule, StmtRule}
use Rattle.theory_rewriting.specs.Rewriting.{BaseTo, base, GuardTo, guard, by_expr_rule, in_if, RestTo, same_stmts, by_list_rule, in_head, in_tail}
use Rattle.theory_rewriting.specs.Tables.{arm_of, arm_decides, left_with, left_arms}
use Rattle.theory_rewriting.proofs.rules.Equality.{text_is}

no : {A : Type 0} → false ≡ true → A
no h = absurd (let z : false ≡ true = h in cc)

-- a disjunction that holds
pub one_of : {A : Type 0} (a b : Bool) → a || b ≡ true → (a ≡ true → A) → (b ≡ true → A) → A
one_of true b h f g = f refl
one_of false b h f g = g h

-- a conjunction that holds
pub all_of : {A : Type 0} (a b : Bool) → a && b ≡ true → (a ≡ true → b ≡ true → A) → A
all_of true b h f = f refl h
all_of false b h f = no h

-- ---- an expression or a statement to which a rule applies

-- Its answer is a place where it was one. Unless u, it is a literal unit where it was one.
abbrev pub ExprGoes : Context → (u : Bool) → Expr → Type 0
ExprGoes k u e = (e' : Expr) × ExprRule k e e' × (root_of e' ≡ root_of e) × (u ≡ false → is_unit_expr e' ≡ is_unit_expr e)

-- so it goes as a base, and unless u as a guard
pub base_goes : {k : Context} {u : Bool} {e : Expr} → ExprGoes k u e → (d : Bool) → (e' : Expr) × BaseTo k d true e e'
base_goes z d = (z.0, base (by_expr_rule z.1) z.2)

pub guard_goes : {k : Context} {u : Bool} {e : Expr} → ExprGoes k u e → u ≡ false → (d : Bool) → (e' : Expr) × GuardTo k d true e e'
guard_goes z h d = (z.0, guard (by_expr_rule z.1) (z.3 h))

abbrev pub StmtGoes : Context → Stmt → Type 0
StmtGoes k s = (w : Bool) → (s' : Stmt) × StmtRule k w s s'

-- an `if` over a constant: `if_decided`
pub decided_if_goes : {k : Context} {c : Expr} {a b : Stmts} (t : Bool) → constant_bool c ≡ Some t → StmtGoes k (If c a b)
decided_if_goes {a = a} {b = b} t h w = (block_or_noop (chosen_block t a b), rule.if_decided h)

-- ---- constants are no places, and literal units where their values are unit

pub root_of_value : (v : Value) → root_of (constant_of v) ≡ None
root_of_value UnitV = refl
root_of_value _ = refl

pub unit_of_value : (v : Value) → is_unit_expr (constant_of v) ≡ is_unit v
unit_of_value UnitV = refl
unit_of_value _ = refl

pub root_for_value : (v : Value) → root_of (constant_for v) ≡ None
root_for_value (PointerV f no_values) = refl
root_for_value (PointerV f (item v vs)) = refl
root_for_value _ = refl

pub unit_for_value : (v : Value) → is_unit_expr (constant_for v) ≡ is_unit v
unit_for_value (PointerV f no_values) = refl
unit_for_value (PointerV f (item v vs)) = refl
unit_for_value _ = refl

root_of_constant : (e : Expr) → is_constant e ≡ true → root_of e ≡ None
root_of_constant (Variable p x) h = no h
root_of_constant ThisPtr h = no h
root_of_constant _ h = refl

no_literal_unit : (e : Expr) → not (is_literal_unit e) ≡ true → is_unit_expr e ≡ false
no_literal_unit UnitConstant h = no h
no_literal_unit _ h = refl

-- ---- one node

-- an operator over constants: `operator_folds`, `call_statement_folds`
pub operator_goes : {k : Context} {c : Callee} {es : Exprs} (v : Value) → folded k.engine c es ≡ Some v → ExprGoes k (is_unit v) (FnCall c es)
operator_goes v h = (_, rule.operator_folds h, root_for_value v, λ u. unit_for_value v ∙ u)

pub operator_statement_goes : {k : Context} {c : Callee} {es : Exprs} (v : Value) → folded k.engine c es ≡ Some v → StmtGoes k (FnCallStmt c es)
operator_statement_goes v h w = (_, rule.call_statement_folds (rule.operator_folds h))

-- an array of constants: `array_of_constants`
pub constant_array_goes : {k : Context} {es : Exprs} (vs : List Value) → constant_values es ≡ Some vs → ExprGoes k false (ArrayOf es)
constant_array_goes vs h = (_, rule.array_of_constants h, refl, λ u. refl)

-- a map and an interpolated text of constants: `map_of_constants`, `text_folds`
pub constant_map_goes : {k : Context} {ps : Pairs} {template : List Text} (vs : List (Text × Value)) → constant_entries ps ≡ Some vs → ExprGoes k false (MapOf ps template)
constant_map_goes vs h = (_, rule.map_of_constants vs h, refl, λ u. refl)

pub constant_text_goes : {k : Context} {es : Exprs} (vs : List Value) → text_constants es ≡ Some vs → ExprGoes k false (InterpolatedString es)
constant_text_goes vs h = (_, rule.text_folds vs h, refl, λ u. refl)

-- braces around one constant: `braces_of_expression`
pub braced_constant_goes : {k : Context} (ss : Stmts) → holds_constant ss ≡ true → ExprGoes k false (BlockExpr ss)
braced_constant_goes (stmt (ExprStmt e) no_stmts) h =
    all_of (is_constant e) (not (is_literal_unit e)) h (λ a b. (e, rule.braces_of_expression, root_of_constant e a, λ u. no_literal_unit e b))
braced_constant_goes _ h = no h

-- a `while` over false: `while_false`
never : (o : Option Bool) → is_that false o ≡ true → o ≡ Some false
never None h = no h
never (Some true) h = no h
never (Some false) h = refl

always : (o : Option Bool) → is_that true o ≡ true → o ≡ Some true
always None h = no h
always (Some true) h = refl
always (Some false) h = no h

pub false_loop_goes : {k : Context} {e : Expr} {b : Stmts} → is_always false e ≡ true → StmtGoes k (While e b)
false_loop_goes {e = e} h w = (Noop, rule.while_false (never (constant_bool e) h))

-- ---- operands

-- with others in their place, one at least
abbrev OperandsGo : Bool → Exprs → Type 0
OperandsGo b es = (es' : Exprs) × OperandsTo b es es' × (has_operands es' ≡ true)

after_false : (es : Exprs) → follows_deciding false es ≡ true → OperandsGo true es
after_false no_exprs h = no h
after_false (expr e no_exprs) h = no h
after_false (expr e (expr f es)) h =
    one_of (is_always false e) (follows_deciding false (expr f es)) h
    (λ x. (expr e no_exprs, after_deciding_go (never (constant_bool e) x), refl))
    (λ x. let z = after_false (expr f es) x in (expr e z.0, in_other_operands z.1, refl))

after_true : (es : Exprs) → follows_deciding true es ≡ true → OperandsGo false es
after_true no_exprs h = no h
after_true (expr e no_exprs) h = no h
after_true (expr e (expr f es)) h =
    one_of (is_always true e) (follows_deciding true (expr f es)) h
    (λ x. (expr e no_exprs, after_deciding_go (always (constant_bool e) x), refl))
    (λ x. let z = after_true (expr f es) x in (expr e z.0, in_other_operands z.1, refl))

-- what follows false in an `&&`: `and_changes`, by `after_deciding_go`
pub operand_after_false_goes : {k : Context} (es : Exprs) → follows_deciding false es ≡ true → ExprGoes k false (And es)
operand_after_false_goes es h = let z = after_false es h in (And z.0, rule.and_changes z.1 z.2, refl, λ u. refl)

-- what follows true in an `||`: `or_changes`
pub operand_after_true_goes : {k : Context} (es : Exprs) → follows_deciding true es ≡ true → ExprGoes k false (Or es)
operand_after_true_goes es h = let z = after_true es h in (Or z.0, rule.or_changes z.1 z.2, refl, λ u. refl)

some_value : {A : Type 0} (o : Option Value) → is_some_value o ≡ true → ((v : Value) → o ≡ Some v → is_unit v ≡ false → A) → A
some_value None h f = no h
some_value (Some v) h f = f v refl (by (is_unit v) h) where
  by : (b : Bool) → not b ≡ true → b ≡ false
  by true h = no h
  by false h = refl

after_some : (es : Exprs) → follows_some es ≡ true → (es' : Exprs) × CoalesceTo es es' × (has_operands es' ≡ true)
after_some no_exprs h = no h
after_some (expr e no_exprs) h = no h
after_some (expr e (expr f es)) h =
    one_of (is_some_value (constant_value e)) (follows_some (expr f es)) h
    (λ x. some_value (constant_value e) x (λ v q u. (expr e no_exprs, after_some_go v q u, refl)))
    (λ x. let z = after_some (expr f es) x in (expr e z.0, in_other_options z.1, refl))

-- what follows a constant in a `??`: `coalesce_changes`, by `after_some_go`
pub operand_after_some_goes : {k : Context} (es : Exprs) → follows_some es ≡ true → ExprGoes k false (Coalesce es)
operand_after_some_goes es h = let z = after_some es h in (Coalesce z.0, rule.coalesce_changes z.1 z.2, refl, λ u. refl)

-- ---- chains

asked : (b : Bool) (o : Option Value) (v : Value) → without_question b o ≡ Some v → o ≡ Some v
asked true o v h = absurd (let z : None ≡ Some v = h in cc)
asked false o v h = h

none_is : {A B : Type 0} {v : B} → None ≡ Some v → A
none_is {v = v} h = absurd (let z : None ≡ Some v = h in cc)

property_goes : {k : Context} (f : ChainFlags) (e p : Expr) (x : Text) (o : Option Value) (v : Value) → constant_value e ≡ o → property_of o x ≡ Some v → ((fs : _) → constant_value e ≡ Some (MapV fs) → entry fs x ≡ v → ExprGoes k (is_unit v) (Dot f e p)) → ExprGoes k (is_unit v) (Dot f e p)
property_goes f e p x (Some (MapV fs)) v q h g = g fs q (let z : Some (entry fs x) ≡ Some v = h in cc)
property_goes f e p x _ v q h g = none_is h

index_goes : {k : Context} (f : ChainFlags) (e i : Expr) (o u : Option Value) (v : Value) → constant_value e ≡ o → constant_value i ≡ u → index_of o u ≡ Some v → ExprGoes k (is_unit v) (Index f e i)
index_goes f e i (Some a) (Some b) v q r h = (constant_of v, rule.index_rule (rule.step_answers (rule.index_of_constant a b v q r h)), root_of_value v, λ u. unit_of_value v ∙ u)
index_goes f e i (Some a) None v q r h = none_is h
index_goes f e i None u v q r h = none_is h

-- a chain of one step over a constant: `property_of_constant`, `index_of_constant`
pub constant_chain_goes : {k : Context} (e : Expr) (v : Value) → chain_answer e ≡ Some v → ExprGoes k (is_unit v) e
constant_chain_goes (Dot f e (Property p)) v h =
    property_goes f e (Property p) p.name (constant_value e) v refl (asked f.negated _ v h) (λ fs q r.
    (constant_of (entry fs p.name), rule.dot_rule (rule.step_answers (rule.property_of_constant fs q)), root_of_value (entry fs p.name), λ u. unit_of_value (entry fs p.name) ∙ ap is_unit r ∙ u))
constant_chain_goes (Index f e i) v h = index_goes f e i (constant_value e) (constant_value i) v refl refl (asked f.negated _ v h)
constant_chain_goes _ v h = none_is h

-- ---- `switch`

-- a default's condition is literally true
true_decides : (as' : Arms) (i : ℕ) → condition_at as' i ≡ true → arm_decides (arm_of as' i) ≡ Some true
true_decides no_arms i h = no h
true_decides (arm (BoolConstant b) a as') zero h = ap (λ x. Some x) h
true_decides (arm _ a as') zero h = no h
true_decides (arm c a as') (suc i) h = true_decides as' i h

pub default_decides : (as' : Arms) (t : SwitchTable) (i : ℕ) → is_table as' t ≡ true → t.default ≡ Some i → arm_decides (arm_of as' i) ≡ Some true
default_decides as' t i h q =
    all_of (are_all (case_fits (count_arms as')) t.cases && are_all (λ r. nat_lt r.arm (count_arms as')) t.ranges) (default_fits as' t t.default) h (λ x y.
    let z : default_fits as' t (Some i) ≡ true = subst (λ o. default_fits as' t o ≡ true) q y in
    all_of (nat_lt i (count_arms as') && condition_at as' i) (spares i t) z (λ m n.
    all_of (nat_lt i (count_arms as')) (condition_at as' i) m (λ a b. true_decides as' i b)))

switch_by : {k : Context} (e : Expr) (as' : Arms) (t : SwitchTable) (v : Value) → constant_value e ≡ Some v → is_hashable v ≡ true → is_table as' t ≡ true → (i : ℕ) → chosen t v ≡ i ∷ [] → (o : Option Bool) (p : Option (Expr × Expr)) → arm_of as' i ≡ p → arm_decides p ≡ o → StmtGoes k (Switch e as' t)
switch_by e as' t v q b h i r (Some false) p x y w = (_, rule.switch_defaults v q b (ap (left_arms as') r ∙ ap (λ z. left_with (arm_decides z) i []) x ∙ ap (λ z. left_with z i []) y))
switch_by e as' t v q b h i r (Some true) None x y w = absurd (let z : Some false ≡ Some true = y in cc)
switch_by e as' t v q b h i r (Some true) (Some (c, a)) x y w = (ExprStmt a, rule.switch_answers v i [] q b (ap (left_arms as') r ∙ ap (λ z. left_with (arm_decides z) i []) x ∙ ap (λ z. left_with z i []) y) x y)
switch_by e as' t v q b h i r None None x y w = absurd (let z : Some false ≡ None = y in cc)
switch_by e as' t v q b h i r None (Some (c, a)) x y w = (
  _,
  rule.switch_is_if v i q b (ap (left_arms as') r ∙ ap (λ z. left_with (arm_decides z) i []) x ∙ ap (λ z. left_with z i []) y) x
      (λ d. let z : None ≡ Some true = sym y ∙ sym (ap arm_decides x) ∙ default_decides as' t i h d in cc),
)

switch_none : {k : Context} (e : Expr) (as' : Arms) (t : SwitchTable) (v : Value) → constant_value e ≡ Some v → is_hashable v ≡ true → chosen t v ≡ [] → StmtGoes k (Switch e as' t)
switch_none e as' t v q b r w = (_, rule.switch_defaults v q b (ap (left_arms as') r))

short_goes : {k : Context} (e : Expr) (as' : Arms) (t : SwitchTable) (v : Value) → constant_value e ≡ Some v → is_hashable v ≡ true → is_table as' t ≡ true → (o : Option (List ℕ)) (rs : List ℕ) → chosen t v ≡ or_ranges t v o → ranges_with t.ranges v ≡ rs → is_short o rs ≡ true → StmtGoes k (Switch e as' t)
short_goes e as' t v q b h (Some []) rs x y z w = switch_none e as' t v q b x w
short_goes e as' t v q b h (Some (i ∷ [])) rs x y z w = switch_by e as' t v q b h i x (arm_decides (arm_of as' i)) (arm_of as' i) refl refl w
short_goes e as' t v q b h (Some (i ∷ j ∷ is)) rs x y z w = no z
short_goes e as' t v q b h None [] x y z w = switch_none e as' t v q b (x ∙ y) w
short_goes e as' t v q b h None (r ∷ rs) x y z w = no z

-- a `switch` over a constant for whose value at most one arm is listed: `switch_answers`, `switch_is_if`, `switch_defaults`
short_switch_goes : {k : Context} (e : Expr) (as' : Arms) (t : SwitchTable) (v : Value) → constant_value e ≡ Some v → is_table as' t ≡ true → is_short_for t v ≡ true → StmtGoes k (Switch e as' t)
short_switch_goes e as' t v c h q =
    all_of (is_hashable v) (is_short (case_for t.cases v) (ranges_with t.ranges v)) q (λ x y.
    short_goes e as' t v c x h (case_for t.cases v) (ranges_with t.ranges v) (ap (λ b. or_ranges t v (cond b (case_for t.cases v) None)) x) refl y)

pub chosen_switch_goes : {k : Context} (e : Expr) (as' : Arms) (t : SwitchTable) → is_table as' t ≡ true → is_chosen e t ≡ true → StmtGoes k (Switch e as' t)
chosen_switch_goes (DynamicConstant v) as' t h q = short_switch_goes (DynamicConstant v) as' t v refl h q
chosen_switch_goes (BoolConstant b) as' t h q = short_switch_goes (BoolConstant b) as' t (BoolV b) refl h q
chosen_switch_goes (IntegerConstant n) as' t h q = short_switch_goes (IntegerConstant n) as' t (IntV n) refl h q
chosen_switch_goes (FloatConstant x) as' t h q = short_switch_goes (FloatConstant x) as' t (FloatV x) refl h q
chosen_switch_goes (CharConstant c) as' t h q = short_switch_goes (CharConstant c) as' t (CharV c) refl h q
chosen_switch_goes (StringConstant x) as' t h q = short_switch_goes (StringConstant x) as' t (TextV x) refl h q
chosen_switch_goes UnitConstant as' t h q = short_switch_goes UnitConstant as' t UnitV refl h q
chosen_switch_goes _ as' t h q = no q

-- ---- lists

abbrev pub ListGoes : ListContext → ListKind → Bool → Stmts → Type 0
ListGoes k m u ss = (d : Bool) → (ss' : Stmts) × RestTo k m u d true ss ss'

-- a statement after one that leaves the list: `after_leave`
pub after_leaving_goes : (ss : Stmts) {k : ListContext} {m : ListKind} {u : Bool} → goes_on_after_leaving ss ≡ true → ListGoes k m u ss
after_leaving_goes no_stmts h d = no h
after_leaving_goes (stmt s no_stmts) h d = no h
after_leaving_goes (stmt s (stmt t ss)) h d =
    one_of (is_control_flow_break s) (goes_on_after_leaving (stmt t ss)) h
    (λ x. (stmt s no_stmts, by_list_rule (rule.after_leave x)))
    (λ x. let z = after_leaving_goes (stmt t ss) x d in (stmt s z.0, in_tail z.1))

-- ---- a constant is pure

mutual
  constant_pure : (e : Expr) → is_constant e ≡ true → is_pure_expr e ≡ true
  constant_pure (InterpolatedString es) h = constants_pure es (joined (are_floatless es) (constant_values es) h) where
    joined : (b : Bool) (o : Option (List Value)) → is_some (joined_value (where_floatless b o)) ≡ true → is_some o ≡ true
    joined true None h = h
    joined false None h = h
    joined b (Some vs) h = refl
  constant_pure (ArrayOf es) h = constants_pure es (array (constant_values es) h) where
    array : (o : Option (List Value)) → is_some (array_value o) ≡ true → is_some o ≡ true
    array None h = h
    array (Some vs) h = refl
  constant_pure (MapOf ps template) h = entries_pure ps (map (constant_entries ps) h) where
    map : (o : Option (List (Text × Value))) → is_some (map_value o) ≡ true → is_some o ≡ true
    map None h = h
    map (Some vs) h = refl
  constant_pure (DynamicConstant v) h = refl
  constant_pure (BlockExpr ss) h = no h
  constant_pure (And es) h = no h
  constant_pure (Or es) h = no h
  constant_pure (Coalesce es) h = no h
  constant_pure _ h = h

  constants_pure : (es : Exprs) → is_some (constant_values es) ≡ true → are_pure_exprs es ≡ true
  constants_pure no_exprs h = refl
  constants_pure (expr e es) h = let z = both (constant_value e) (constant_values es) h in ap (λ b. b && are_pure_exprs es) (constant_pure e z.0) ∙ constants_pure es z.1 where
    both : (o : Option Value) (p : Option (List Value)) → is_some (value_and o p) ≡ true → (is_some o ≡ true) × (is_some p ≡ true)
    both None p h = no h
    both (Some v) None h = no h
    both (Some v) (Some vs) h = (refl, refl)

  entries_pure : (ps : Pairs) → is_some (constant_entries ps) ≡ true → are_pure_pairs ps ≡ true
  entries_pure no_pairs h = refl
  entries_pure (pair k e ps) h = let z = both (constant_value e) (constant_entries ps) h in ap (λ b. b && are_pure_pairs ps) (constant_pure e z.0) ∙ entries_pure ps z.1 where
    both : (o : Option Value) (p : Option (List (Text × Value))) → is_some (entry_and k o p) ≡ true → (is_some o ≡ true) × (is_some p ≡ true)
    both None p h = no h
    both (Some v) None h = no h
    both (Some v) (Some vs) h = (refl, refl)

pub idle_pure : (s : Stmt) → is_idle s ≡ true → is_pure s ≡ true
idle_pure Noop h = refl
idle_pure (ExprStmt e) h = constant_pure e h
idle_pure _ h = no h

-- a `Noop` or a constant before the last statement: `pure_goes`
pub idle_goes : (ss : Stmts) {k : ListContext} {m : ListKind} {u : Bool} → idles ss ≡ true → ListGoes k m u ss
idle_goes no_stmts h d = no h
idle_goes (stmt s no_stmts) h d = no h
idle_goes (stmt s (stmt t ss)) h d =
    one_of (is_idle s) (idles (stmt t ss)) h
    (λ x. (stmt t ss, by_list_rule (rule.pure_goes refl (idle_pure s x))))
    (λ x. let z = idle_goes (stmt t ss) x d in (stmt s z.0, in_tail z.1))

-- a last `return e`: `last_return`
pub return_goes : (ss : Stmts) {k : ListContext} {u : Bool} → ends_in_return ss ≡ true → ListGoes k Whole u ss
return_goes no_stmts h d = no h
return_goes (stmt (Return false exported (an_expr e)) no_stmts) h d = (stmt (ExprStmt e) no_stmts, by_list_rule rule.last_return)
return_goes (stmt s no_stmts) h d = no h
return_goes (stmt s (stmt t ss)) h d = let z = return_goes (stmt t ss) h d in (stmt s z.0, in_tail z.1)

-- ---- a condition that is a known name

pub unlike : (b : Bool) → not b ≡ true → b ≡ false
unlike true h = no h
unlike false h = refl

pub still_known : (constant exported : Bool) (y x : Text) (e : Expr) (ks : List Known) (v : Value) → same_text y x ≡ false → look ks x ≡ Some v → look (known_behind (Var constant exported y e) ks) x ≡ Some v
still_known true exported y x e ks v h q = ap (λ b. cond b (constant_value e) (look ks x)) h ∙ q
still_known false exported y x e ks v h q = ap (λ b. cond b None (look ks x)) h ∙ q

-- behind a statement that keeps names, in a list that is open
open_still : (k : ListContext) (s : Stmt) → k.is_open ≡ true → keeps_names s ≡ true → (behind s k).is_open ≡ true
open_still k s o f = ap (λ b. b && keeps_names s) o ∙ f

still_there : (k : ListContext) (s : Stmt) (x : Text) (v : Value) → k.is_open ≡ true → keeps_names s ≡ true → look (known_behind s k.context.known) x ≡ Some v → look (behind s k).context.known x ≡ Some v
still_there k s x v o f q = ap (λ b. look (known_after b s k.context.known) x) (open_still k s o f) ∙ q

known_test_goes : (x : Text) (v : Value) (ss : Stmts) {k : ListContext} {m : ListKind} {u : Bool} → k.is_open ≡ true → tests_name x ss ≡ true → look k.context.known x ≡ Some v → ListGoes k m u ss
known_test_goes x v no_stmts o h q d = no h
known_test_goes x v (stmt (Var c w y e) ss) {k = k} o h q d =
    all_of (keeps_names (Var c w y e)) _ h (λ f g.
    all_of (not (same_text y x)) (tests_name x ss) g (λ a b.
    let z = known_test_goes x v ss {k = behind (Var c w y e) k} (open_still k (Var c w y e) o f) b (still_there k (Var c w y e) x v o f (still_known c w y x e k.context.known v (unlike (same_text y x) a) q)) d in (stmt (Var c w y e) z.0, in_tail z.1)))
known_test_goes x v (stmt (If (Variable [] y) a b) ss) {k = k} o h q d =
    one_of (same_text x y) _ h
    (λ z. (stmt (If (constant_of v) a b) ss, in_head (in_if (by_expr_rule (rule.known_name v (ap (look k.context.known) (sym (text_is x y z)) ∙ q))) same_stmts same_stmts)))
    (λ z. all_of (keeps_names (If (Variable [] y) a b)) _ z (λ f g.
    let r = known_test_goes x v ss {k = behind (If (Variable [] y) a b) k} (open_still k (If (Variable [] y) a b) o f) g (still_there k (If (Variable [] y) a b) x v o f q) d in (stmt (If (Variable [] y) a b) r.0, in_tail r.1)))
known_test_goes x v (stmt s ss) {k = k} o h q d = all_of (keeps_names s) _ h (λ f g. let z = known_test_goes x v ss {k = behind s k} (open_still k s o f) g (still_there k s x v o f q) d in (stmt s z.0, in_tail z.1))

pub declared : (o : Option Value) → is_some o ≡ true → (v : Value) × (o ≡ Some v)
declared None h = no h
declared (Some v) h = (v, refl)

same_self : (x : Text) → same_text x x ≡ true
same_self x = (bytes_eq-Decides x x).1 refl

pub noted_there : (x : Text) (o : Option Value) (v : Value) (ks : List Known) → o ≡ Some v → cond (same_text x x) o (look ks x) ≡ Some v
noted_there x o v ks q = ap (λ b. cond b o (look ks x)) (same_self x) ∙ q

-- an `if` whose condition is a constant's name: `known_name`
pub known_condition_goes : (ss : Stmts) {k : ListContext} {m : ListKind} {u : Bool} → k.is_open ≡ true → tests_constant ss ≡ true → ListGoes k m u ss
known_condition_goes no_stmts w h d = no h
known_condition_goes (stmt (Var true o x e) ss) {k = k} w h d =
    all_of (keeps_names (Var true o x e)) _ h (λ f g.
    let still = open_still k (Var true o x e) w f in
    one_of (is_constant e && tests_name x ss) (tests_constant ss) g
    (λ z. all_of (is_constant e) (tests_name x ss) z (λ a b.
    let y = declared (constant_value e) a in
    let r = known_test_goes x y.0 ss {k = behind (Var true o x e) k} still b (still_there k (Var true o x e) x y.0 w f (noted_there x (constant_value e) y.0 k.context.known y.1)) d in (stmt (Var true o x e) r.0, in_tail r.1)))
    (λ z. let r = known_condition_goes ss {k = behind (Var true o x e) k} still z d in (stmt (Var true o x e) r.0, in_tail r.1)))
known_condition_goes (stmt s ss) {k = k} w h d = all_of (keeps_names s) _ h (λ f g. let z = known_condition_goes ss {k = behind s k} (open_still k s w f) g d in (stmt s z.0, in_tail z.1))

-- ---- what is irreducible is reduced in the small language's sense

alone_reduced : (r : Engine) (n : Node) → IsIrreducibleAlone r n → IsReducedNode r n
alone_reduced r (OfExpr (ArrayOf es)) h = h
alone_reduced r (OfExpr (MapOf ps template)) h = h
alone_reduced r (OfExpr (InterpolatedString es)) h = h
alone_reduced r (OfExpr (BlockExpr ss)) h = h
alone_reduced r (OfExpr (FnCall c es)) h = h
alone_reduced r (OfExpr (And es)) h = h
alone_reduced r (OfExpr (Or es)) h = h
alone_reduced r (OfExpr (Coalesce es)) h = h
alone_reduced r (OfStmt (If c a b)) h = h
alone_reduced r (OfStmt (Switch e as' t)) h = λ i. h
alone_reduced r (OfStmt (While e b)) h = h
alone_reduced r (OfStmt (FnCallStmt c es)) h = h
alone_reduced r _ h = tt

each_arm : (ps qs : List (Type 0)) → ((i : ℕ) → arm_at (Unit {0}) ps i → arm_at (Unit {0}) qs i) → (is : List ℕ) → arms_at (Unit {0}) (λ p q. p × q) ps is → arms_at (Unit {0}) (λ p q. p × q) qs is
each_arm ps qs f [] h = h
each_arm ps qs f (i ∷ is) h = (f i h.0, each_arm ps qs f is h.1)

when_part : (b : Bool) (p : Type 0) → p → when b p
when_part true p x = x
when_part false p x = tt

opened_part : (n : Node) (p : Type 0) → p → where_opened n p
opened_part (OfStmt (Assignment op l e)) p x = when_part (is_left_side l) p x
opened_part _ p x = x

chained_part : (n : Node) (p : Type 0) → p → where_chained n p
chained_part (OfExpr (Dot f l e)) p x = when_part (is_rest true f.breaks e) p x
chained_part (OfExpr (Index f l e)) p x = when_part (is_rest false f.breaks e) p x
chained_part _ p x = x

part_there : (s : Spot) (p q : Type 0) → (p → q) → p → where_it_stands s q
part_there (RightSide dot k e) p q h x = when_part (is_rest dot k.breaks e) q (h x)
part_there _ p q h x = h x

-- what follows at each node follows at every depth that is reached
follows_each : (P Q : Node → Type 0) → ((n : Node) → P n → Q n × (InLists IsIrreducibleList n × InExpressions AnswersNothing n)) → Alongside (λ p q. p → q) (every P) (every_reached Q)
follows_each P Q f = record {
  none = λ h. h;
  both = λ p p' q q' h k x. (h x.0, k x.1);
  node = λ n p q h x. let y = f n x.0 in (y.0, opened_part n _ (y.1.0, (chained_part n _ y.1.1, h x.1)));
  within = λ s p q h x. part_there s p q h x;
  arms = λ t ps qs h. each_arm ps qs h (listed t);
}

pub irreducible_reduced : (r : Engine) (ss : Stmts) → over_stmts (every (IsIrreducibleNode r)) ss → AreReduced r ss
irreducible_reduced r ss = stmts_alongside (λ p q. p → q) (every (IsIrreducibleNode r)) (every_reached (IsReducedNode r)) (follows_each (IsIrreducibleNode r) (IsReducedNode r) (λ n h. (alone_reduced r n h.alone, (h.lists, h.expressions)))) ss
