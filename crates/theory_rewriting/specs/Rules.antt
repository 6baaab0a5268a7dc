-- The rewrite rules, one constructor each: what may stand for what. Each family is flat; `Rewriting` closes over them.
use Rattle.std.specs.Prelude.{◌≡◌, ◌<◌, ℕ, ℤ, Bool, true, false, ◌&&◌, List, [], ◌∷◌, ◌++◌, length, Some, None, codes}
use Rattle.rhai_base.specs.Value.{Text, Value, IntV, TextV, ArrayV, MapV, PointerV, Values, Fields, values, items, is_hashable, text_of}
use Rattle.rhai_base.specs.Operators.{Operator}
use Rattle.base_tokens.specs.Names.{is_valid_name}
use Rattle.theory_meaning.specs.Constants.{constant_value, constant_values, text_constants, constant_entries, constant_bool, constant_for, is_literal_unit, pointer_call}
use Rattle.theory_meaning.specs.Control.{case_for, texts_joined}
use Rattle.theory_meaning.specs.Control.{chosen as cases_for}
use Rattle.theory_meaning.specs.Elements.{index_in, entry, fields_of}
use Rattle.theory_meaning.specs.Engine.{overrides_any, mapped_type_name, assigning}
use Rattle.theory_meaning.specs.Faults.{has_operands}
use Rattle.theory_meaning.specs.Queries.{is_eval, is_block_dependent, is_any_dependent, are_pure_exprs, are_pure_pairs, is_pure, is_internally_pure, are_internally_pure, is_control_flow_break, is_noop}
use Rattle.theory_meaning.specs.Shape.{is_unit, names_arm}
use Rattle.theory_meaning.specs.Walk.{listed}
use Rattle.theory_meaning.specs.Tree.{SwitchTable, Arms, OfOperator, ChainFlags, PropertyNames, Callee, Expr, DynamicConstant, BoolConstant, StringConstant, UnitConstant, InterpolatedString, ArrayOf, MapOf, Variable, Property, MethodCall, BlockExpr, FnCall, Dot, Index, And, Or, Coalesce, Exprs, no_exprs, expr, count_exprs, Pairs, Stmt, Noop, If, Switch, While, Assignment, Block, TryCatch, ExprStmt, FnCallStmt, Share, Return, no_expr, an_expr, Stmts, no_stmts, stmt, joined}
use Rattle.theory_rewriting.specs.Context.{Context, ListKind, Whole, Inside, wanted, wanted_before}
use Rattle.theory_rewriting.specs.Known.{look, known_at, unknown}
use Rattle.theory_rewriting.specs.Exports.{exports_nothing}
use Rattle.theory_rewriting.specs.Folding.{folded}
use Rattle.theory_rewriting.specs.Operands.{with_last, is_and, ends_false, OperandsTo, CoalesceTo, TextTo}
use Rattle.theory_rewriting.specs.Indexing.{indexed, expr_at, pair_for, or_unit}
use Rattle.theory_rewriting.specs.Parts.{constant_of, named, link}
use Rattle.theory_rewriting.specs.SelfAssign.{has_op_assignment, leaves_names}
use Rattle.theory_rewriting.specs.SurelyUnit.{is_surely_unit}
use Rattle.theory_rewriting.specs.Shrinking.{AreDistinct, shrinks, shrunk}
use Rattle.theory_rewriting.specs.Narrowing.{narrows_by, narrowed_by}
use Rattle.theory_rewriting.specs.Tables.{forgotten, arm_of, left_arms, default_answer, default_stmt, default_branch}

-- ---- what stands for what

-- a block, or nothing
abbrev pub block_or_noop : Stmts → Stmt
block_or_noop no_stmts = Noop
block_or_noop (stmt s ss) = Block (stmt s ss)

abbrev pub chosen : Bool → Stmts → Stmts → Stmts
chosen true body branch = body
chosen false body branch = branch

-- a condition that nothing depends on; where a value is wanted, unit
abbrev pub condition_alone : Bool → Expr → Stmt
condition_alone true e = Block (stmt (ExprStmt e) (stmt Noop no_stmts))
condition_alone false e = ExprStmt e

-- a block's statements in a list, before those that follow it; an empty block at the end of a wanted list is a `Noop`
abbrev pub spliced : Bool → Stmts → Stmts → Stmts
spliced b (stmt s ss) back = joined (stmt s ss) back
spliced b no_stmts (stmt s back) = stmt s back
spliced true no_stmts no_stmts = stmt Noop no_stmts
spliced false no_stmts no_stmts = no_stmts

-- a list inside takes away what it adds to the scope
abbrev pub is_pure_in : ListKind → Stmt → Bool
is_pure_in Whole s = is_pure s
is_pure_in (Inside b) s = is_internally_pure s

-- ---- the rules

-- of a step of a chain: what it answers at a base, by its argument
pub data StepRule (k : Context) : (dot : Bool) → ChainFlags → Expr → Expr → Expr → Type 0 where
  -- a part of a constant
  property_of_constant : {f : ChainFlags} {e : Expr} {p : PropertyNames} (fs : Fields) → constant_value e ≡ Some (MapV fs) → StepRule k true f e (Property p) (constant_of (entry fs p.name))
  index_of_constant : {f : ChainFlags} {e i : Expr} (v j u : Value) → constant_value e ≡ Some v → constant_value i ≡ Some j → indexed v j ≡ Some u → StepRule k false f e i (constant_of u)
  -- a part of a literal whose parts are pure
  element_of_array : {f : ChainFlags} {es : Exprs} {i e : Expr} (n : ℤ) (j : ℕ) → are_pure_exprs es ≡ true → constant_value i ≡ Some (IntV n) → index_in (count_exprs es) n ≡ Some j → expr_at es j ≡ Some e → StepRule k false f (ArrayOf es) i e
  property_of_map : {f : ChainFlags} {ps : Pairs} {template : List Text} {p : PropertyNames} → are_pure_pairs ps ≡ true → StepRule k true f (MapOf ps template) (Property p) (or_unit (pair_for ps p.name))
  entry_of_map : {f : ChainFlags} {ps : Pairs} {template : List Text} {i : Expr} (x : Text) → are_pure_pairs ps ≡ true → constant_value i ≡ Some (TextV x) → StepRule k false f (MapOf ps template) i (or_unit (pair_for ps x))
  -- `type_of` and `is_shared` of a constant as methods that capture nothing; past a `?` a unit is left
  type_of_method : {f : ChainFlags} {e : Expr} (v : Value) → constant_value e ≡ Some v → (f.negated && is_unit v) ≡ false → StepRule k true f e (MethodCall (named (codes "type_of") false) no_exprs) (StringConstant (mapped_type_name k.engine v))
  is_shared_method : {f : ChainFlags} {e : Expr} (v : Value) → constant_value e ≡ Some v → (f.negated && is_unit v) ≡ false → StepRule k true f e (MethodCall (named (codes "is_shared") false) no_exprs) (BoolConstant false)

-- of a chain over a base, by what stands behind it
pub data ChainRule (k : Context) : (dot : Bool) → ChainFlags → Expr → Expr → Expr → Type 0 where
  -- past a `?` a unit ends the chain with unit
  unit_ends : {dot : Bool} {f : ChainFlags} {a : Expr} → f.negated ≡ true → ChainRule k dot f UnitConstant a UnitConstant
  -- a chain of one step is what the step answers; a longer one goes on from that
  step_answers : {dot : Bool} {f : ChainFlags} {e a e' : Expr} → StepRule k dot f e a e' → ChainRule k dot f e a e'
  chain_goes_on : {dot : Bool} (next : Bool) {f : ChainFlags} {e a e' : Expr} (m : ChainFlags) (r : Expr) → f.breaks ≡ false → StepRule k dot f e a e' → ChainRule k dot f e (link next m a r) (link next m e' r)
  -- a part of a name that is known as a constant map
  known_property : {f : ChainFlags} {ns : List Text} {x : Text} {p : PropertyNames} (fs : Fields) → known_at k.known ns x ≡ Some (MapV fs) → ChainRule k true f (Variable ns x) (Property p) (constant_of (entry fs p.name))
  known_entry : {f : ChainFlags} {ns : List Text} {x : Text} {i : Expr} (fs : Fields) (y : Text) → known_at k.known ns x ≡ Some (MapV fs) → constant_value i ≡ Some (TextV y) → ChainRule k false f (Variable ns x) i (constant_of (entry fs y))

-- of expressions
pub data ExprRule (k : Context) : Expr → Expr → Type 0 where
  -- an array of constants is its value
  array_of_constants : {es : Exprs} {vs : List Value} → constant_values es ≡ Some vs → ExprRule k (ArrayOf es) (DynamicConstant (ArrayV (values vs)))
  -- `{}` is unit
  braces_empty : ExprRule k (BlockExpr no_stmts) UnitConstant
  -- `{ e }` is `e`
  braces_of_expression : {e : Expr} → ExprRule k (BlockExpr (stmt (ExprStmt e) no_stmts)) e
  -- so is one call, unless it belongs to its block
  braces_of_call : {c : Callee} {es : Exprs} → is_eval c ≡ false → ExprRule k (BlockExpr (stmt (FnCallStmt c es) no_stmts)) (FnCall c es)
  -- an operator over constants that is built in is its value
  operator_folds : {c : Callee} {es : Exprs} {v : Value} → folded k.engine c es ≡ Some v → ExprRule k (FnCall c es) (constant_for v)
  -- operands of `&&`, `||` and `??`; one stays
  and_changes : {es es' : Exprs} → OperandsTo true es es' → has_operands es' ≡ true → ExprRule k (And es) (And es')
  or_changes : {es es' : Exprs} → OperandsTo false es es' → has_operands es' ≡ true → ExprRule k (Or es) (Or es')
  coalesce_changes : {es es' : Exprs} → CoalesceTo es es' → has_operands es' ≡ true → ExprRule k (Coalesce es) (Coalesce es')
  and_of_one : {e : Expr} → ExprRule k (And (expr e no_exprs)) e
  or_of_one : {e : Expr} → ExprRule k (Or (expr e no_exprs)) e
  coalesce_of_one : {e : Expr} → ExprRule k (Coalesce (expr e no_exprs)) e
  and_of_none : ExprRule k (And no_exprs) (BoolConstant true)
  or_of_none : ExprRule k (Or no_exprs) (BoolConstant false)
  coalesce_of_none : ExprRule k (Coalesce no_exprs) UnitConstant
  -- an interpolated text: its parts, and where all are constant and hold no float its value
  text_changes : {es es' : Exprs} → TextTo es es' → ExprRule k (InterpolatedString es) (InterpolatedString es')
  text_folds : {es : Exprs} (vs : List Value) → text_constants es ≡ Some vs → ExprRule k (InterpolatedString es) (StringConstant (texts_joined text_of vs))
  -- a map of constants is its value
  map_of_constants : {ps : Pairs} {template : List Text} (vs : List (Text × Value)) → constant_entries ps ≡ Some vs → ExprRule k (MapOf ps template) (DynamicConstant (MapV (fields_of vs)))
  -- the language's own functions over constants
  type_of_folds : {captures : Bool} {e : Expr} (v : Value) → constant_value e ≡ Some v → ExprRule k (FnCall (named (codes "type_of") captures) (expr e no_exprs)) (StringConstant (mapped_type_name k.engine v))
  is_shared_folds : {captures : Bool} {e : Expr} (v : Value) → constant_value e ≡ Some v → ExprRule k (FnCall (named (codes "is_shared") captures) (expr e no_exprs)) (BoolConstant false)
  fn_folds : {captures : Bool} {e : Expr} (f : Text) → constant_value e ≡ Some (TextV f) → is_valid_name f ≡ true → ExprRule k (FnCall (named (codes "Fn") captures) (expr e no_exprs)) (DynamicConstant (PointerV f (values [])))
  curry_folds : {captures : Bool} {e : Expr} {es : Exprs} (f : Text) (us : Values) (vs : List Value) → constant_value e ≡ Some (PointerV f us) → constant_values es ≡ Some vs → ExprRule k (FnCall (named (codes "curry") captures) (expr e es)) (DynamicConstant (PointerV f (values (items us ++ vs))))
  -- of a chain
  dot_rule : {f : ChainFlags} {e a e' : Expr} → ChainRule k true f e a e' → ExprRule k (Dot f e a) e'
  index_rule : {f : ChainFlags} {e a e' : Expr} → ChainRule k false f e a e' → ExprRule k (Index f e a) e'
  -- a name that is known as a constant is its value
  known_name : {ns : List Text} {x : Text} (v : Value) → known_at k.known ns x ≡ Some v → ExprRule k (Variable ns x) (constant_of v)
  -- a pointer without values may be the call that makes it
  known_pointer : {ns : List Text} {x : Text} (f : Text) → known_at k.known ns x ≡ Some (PointerV f (values [])) → is_valid_name f ≡ true → ExprRule k (Variable ns x) (pointer_call f)

-- of statements; w: whether the statement's value is wanted
pub data StmtRule (k : Context) (w : Bool) : Stmt → Stmt → Type 0 where
  -- an `if` with two empty blocks is its condition
  if_without_blocks : {e : Expr} → StmtRule k w (If e no_stmts no_stmts) (condition_alone w e)
  -- an `if` over a constant is the block that it chooses
  if_decided : {t : Bool} {e : Expr} {a b : Stmts} → constant_bool e ≡ Some t → StmtRule k w (If e a b) (block_or_noop (chosen t a b))
  -- `{}` does nothing
  block_empty : StmtRule k w (Block no_stmts) Noop
  -- a block of one statement is that statement, unless it belongs to its block
  block_of_statement : {s : Stmt} → is_block_dependent s ≡ false → StmtRule k w (Block (stmt s no_stmts)) s
  -- an expression statement over braces is a block
  statement_of_braces : {ss : Stmts} → StmtRule k w (ExprStmt (BlockExpr ss)) (block_or_noop ss)
  -- an expression statement over a call is a call statement
  statement_of_call : {c : Callee} {es : Exprs} → StmtRule k w (ExprStmt (FnCall c es)) (FnCallStmt c es)
  -- a call statement of a call that folds is what that call is
  call_statement_folds : {c : Callee} {es : Exprs} {e : Expr} → ExprRule k (FnCall c es) e → StmtRule k w (FnCallStmt c es) (ExprStmt e)
  -- a `while` over false does nothing, and one over true is a `loop`
  while_false : {e : Expr} {body : Stmts} → constant_bool e ≡ Some false → StmtRule k w (While e body) Noop
  while_true : {e : Expr} {body : Stmts} → constant_bool e ≡ Some true → StmtRule k w (While e body) (While UnitConstant body)
  -- a `switch` over a constant that holds no pointer: of the arms that are left the first is true, or there is one, or none
  switch_answers : {e : Expr} {as' : Arms} {t : SwitchTable} {c a : Expr} (v : Value) (j : ℕ) (js : List ℕ) → constant_value e ≡ Some v → is_hashable v ≡ true → left_arms as' (cases_for t v) ≡ j ∷ js → arm_of as' j ≡ Some (c, a) → constant_bool c ≡ Some true → StmtRule k w (Switch e as' t) (ExprStmt a)
  switch_is_if : {e : Expr} {as' : Arms} {t : SwitchTable} {c a : Expr} (v : Value) (j : ℕ) → constant_value e ≡ Some v → is_hashable v ≡ true → left_arms as' (cases_for t v) ≡ j ∷ [] → arm_of as' j ≡ Some (c, a) → (t.default ≡ Some j → ⊥) → StmtRule k w (Switch e as' t) (If c (stmt (ExprStmt a) no_stmts) (default_branch (default_answer as' t.default)))
  switch_defaults : {e : Expr} {as' : Arms} {t : SwitchTable} (v : Value) → constant_value e ≡ Some v → is_hashable v ≡ true → left_arms as' (cases_for t v) ≡ [] → StmtRule k w (Switch e as' t) (default_stmt (default_answer as' t.default))
  -- of a table over a constant what stands for it alone, and of that the arms that are left
  switch_narrows : {e : Expr} {as' : Arms} {t : SwitchTable} (v : Value) → constant_value e ≡ Some v → is_hashable v ≡ true → narrows_by as' t v (case_for t.cases v) ≡ true → StmtRule k w (Switch e as' t) (Switch e as' (narrowed_by as' t v (case_for t.cases v)))
  -- over any subject: false arms and ranges go, arms after a true one in a list go, empty lists go
  switch_shrinks : {e : Expr} {as' : Arms} {t : SwitchTable} → AreDistinct t.cases → shrinks as' t ≡ true → StmtRule k w (Switch e as' t) (Switch e as' (shrunk as' t))
  -- the answer of an arm that no list names is unit
  switch_forgets : {e : Expr} {as' : Arms} {t : SwitchTable} {c a : Expr} (j : ℕ) → arm_of as' j ≡ Some (c, a) → is_literal_unit a ≡ false → names_arm j (listed t) ≡ false → StmtRule k w (Switch e as' t) (Switch e (forgotten as' j) t)
  -- a `try` over a body that is pure inside does nothing
  pure_try : {x : Expr} {body branch : Stmts} → are_internally_pure body ≡ true → StmtRule k w (TryCatch x body branch) Noop
  -- an `if` alone in an `if`, both without an `else`
  nested_if : {a b : Expr} {ss : Stmts} → is_and a ≡ false → StmtRule k w (If a (stmt (If b ss no_stmts) no_stmts) no_stmts) (If (And (expr a (expr b no_exprs))) ss no_stmts)
  -- over an `&&` the inner condition is its last operand, unless that would follow the constant false
  nested_if_joins : {es : Exprs} {b : Expr} {ss : Stmts} → ends_false es ≡ false → StmtRule k w (If (And es) (stmt (If b ss no_stmts) no_stmts) no_stmts) (If (And (with_last es b)) ss no_stmts)
  -- `x = x op e` is `x op= e` where there is such an operator, e writes nothing and no `op=` is overridden
  self_assign : {op : Operator} {f : Callee} {x : Text} {e : Expr} → f.token ≡ OfOperator op → has_op_assignment op ≡ true → leaves_names e ≡ true → overrides_any k.engine.overrides (assigning op) ≡ false → StmtRule k w (Assignment None (Variable [] x) (FnCall f (expr (Variable [] x) (expr e no_exprs)))) (Assignment (Some op) (Variable [] x) e)
  -- of shared names those that are known go; of none nothing is left
  share_known : {xs : List Text} → length (unknown k.known xs) < length xs → StmtRule k w (Share xs) (Share (unknown k.known xs))
  share_nothing : StmtRule k w (Share []) Noop

-- of lists, at their first statement; the test is whether what stands before is surely unit, or nothing
pub data ListRule (k : Context) : ListKind → Bool → Stmts → Stmts → Type 0 where
  -- a block in a list, none of whose statements belongs to it, gives way to its statements
  block_gives_way : {m : ListKind} {u : Bool} {ss back : Stmts} → is_any_dependent ss ≡ false → ListRule k m u (stmt (Block ss) back) (spliced (wanted m) ss back)
  -- statements after one that leaves the list go
  after_leave : {m : ListKind} {u : Bool} {s t : Stmt} {ss : Stmts} → is_control_flow_break s ≡ true → ListRule k m u (stmt s (stmt t ss)) (stmt s no_stmts)
  -- a pure statement goes where its value is not wanted, and so does a name alone
  pure_goes : {m : ListKind} {u : Bool} {s : Stmt} {ss : Stmts} → wanted_before (wanted m) ss ≡ false → is_pure s ≡ true → ListRule k m u (stmt s ss) ss
  lone_goes : {m : ListKind} {u : Bool} {ns : List Text} {x : Text} {ss : Stmts} → wanted_before (wanted m) ss ≡ false → ListRule k m u (stmt (ExprStmt (Variable ns x)) ss) ss
  -- inside a declaration or an `import` does too, where nothing that follows reads a name or exports one
  pure_inside_goes : {b u : Bool} {s : Stmt} {ss : Stmts} → wanted_before b ss ≡ false → is_internally_pure s ≡ true → are_internally_pure ss ≡ true → exports_nothing ss ≡ true → ListRule k (Inside b) u (stmt s ss) ss
  -- a last `return e` of a script or a function is `e`; a last `return;` goes behind unit, and else does nothing
  last_return : {u exported : Bool} {e : Expr} → ListRule k Whole u (stmt (Return false exported (an_expr e)) no_stmts) (stmt (ExprStmt e) no_stmts)
  last_return_goes : {exported : Bool} → ListRule k Whole true (stmt (Return false exported no_expr) no_stmts) no_stmts
  last_return_noop : {u exported : Bool} → ListRule k Whole u (stmt (Return false exported no_expr) no_stmts) (stmt Noop no_stmts)
  -- a last statement that is pure and surely unit goes behind unit, and else does nothing
  last_unit_goes : {m : ListKind} {s : Stmt} → is_pure_in m s ≡ true → is_surely_unit s ≡ true → ListRule k m true (stmt s no_stmts) no_stmts
  last_unit_noop : {m : ListKind} {u : Bool} {s : Stmt} → is_pure_in m s ≡ true → is_surely_unit s ≡ true → is_noop s ≡ false → ListRule k m u (stmt s no_stmts) (stmt Noop no_stmts)
