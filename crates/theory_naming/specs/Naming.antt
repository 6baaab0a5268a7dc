-- What is the same but for the names of functions, by a relation of names.
use Rattle.std.specs.Prelude.{◌≡◌, ℕ, suc, ℤ, Bool, true, false, List, [], ◌∷◌, Option, Some, None}
use Rattle.rhai_base.specs.Value.{Text, Value, UnitV, BoolV, IntV, FloatV, CharV, TextV, ArrayV, MapV, PointerV, RangeV, RangeInclusiveV, Values, no_values, item, Fields, no_fields, field, holds_float}
use Rattle.rhai_base.specs.Operators.{Operator, Computed, NoEntry, Is, Overflows}
use Rattle.theory_meaning.specs.Engine.{Binding}
use Rattle.theory_meaning.specs.Act.{EntryKind, ScopeEntry, HostCall, Answer, Answers, AnswersThrow, Host, Key, Store, Exit, Returns, Breaks, Continues, Throws, Again, Ending, Gives, Leaves, Halt, Outcome, Ended, Halted, Result, At, ScriptCall, Root}
use Rattle.base_tokens.specs.Names.{is_valid_name}
use Rattle.theory_meaning.specs.Chains.{Access, OfProperty, OfIndex, OfMethod}
use Rattle.theory_meaning.specs.Places.{Place, Current}
use Rattle.theory_meaning.specs.Calls.{word, Fn}
use Rattle.theory_meaning.specs.Core.{Callee, OnOperator, Qualified, ByName, ExitKind, Expr, Ill, Constant, InterpolatedString, ArrayOf, MapOf, Variable, GlobalVariable, ModuleVariable, ModuleOf, ThisPtr, BlockExpr, FnCall, Chain, And, Or, Coalesce, Exprs, no_exprs, expr, Pairs, no_pairs, pair, Base, OnPlace, OnValue, Step, IllStep, Property, Index, Method, Steps, last, more, Target, IllTarget, Nowhere, ToRoot, ToPart, Guard, Always, When, Arms, no_arms, arm, Deed, IllDeed, Noop, If, Switch, While, Do, For, Assignment, Block, TryCatch, Evaluate, Discard, Leave, Stmt, Var, Does, Stmts, no_stmts, stmt, Function, Script}
use Rattle.theory_meaning.specs.Run.{EntryPoint, AtStatements, AtFunction, function_of}
use Rattle.theory_meaning.specs.Shape.{names_arm}
use Rattle.theory_meaning.specs.Tree.{PropertyNames, SwitchTable}
use Rattle.theory_meaning.specs.Walk.{listed}

pub data OptionOf {A : Type 0} (R : A → A → Type 0) : Option A → Option A → Type 0 where
  both_none : OptionOf R None None
  both_some : {a b : A} → R a b → OptionOf R (Some a) (Some b)

pub data ListOf {A : Type 0} (R : A → A → Type 0) : List A → List A → Type 0 where
  both_empty : ListOf R [] []
  both_more : {a b : A} {as' bs : List A} → R a b → ListOf R as' bs → ListOf R (a ∷ as') (b ∷ bs)

-- N: which name stands for which
module _ (N : Text → Text → Type 0) where
  mutual
    pub data Like : Value → Value → Type 0 where
      unit_like : Like UnitV UnitV
      bool_like : (b : Bool) → Like (BoolV b) (BoolV b)
      int_like : (n : ℤ) → Like (IntV n) (IntV n)
      float_like : (x : ℕ) → Like (FloatV x) (FloatV x)
      char_like : (c : ℕ) → Like (CharV c) (CharV c)
      text_like : (t : Text) → Like (TextV t) (TextV t)
      array_like : {vs ws : Values} → LikeAll vs ws → Like (ArrayV vs) (ArrayV ws)
      map_like : {fs gs : Fields} → LikeFields fs gs → Like (MapV fs) (MapV gs)
      pointer_like : {f g : Text} {vs ws : Values} → N f g → LikeAll vs ws → Like (PointerV f vs) (PointerV g ws)
      range_like : (a b : ℤ) → Like (RangeV a b) (RangeV a b)
      inclusive_like : (a b : ℤ) → Like (RangeInclusiveV a b) (RangeInclusiveV a b)

    pub data LikeAll : Values → Values → Type 0 where
      none_like : LikeAll no_values no_values
      item_like : {v w : Value} {vs ws : Values} → Like v w → LikeAll vs ws → LikeAll (item v vs) (item w ws)

    pub data LikeFields : Fields → Fields → Type 0 where
      no_fields_like : LikeFields no_fields no_fields
      field_like : (k : Text) {v w : Value} {fs gs : Fields} → Like v w → LikeFields fs gs → LikeFields (field k v fs) (field k w gs)

  pub data PairLike : (Text × Value) → (Text × Value) → Type 0 where
    named_like : (k : Text) {v w : Value} → Like v w → PairLike (k, v) (k, w)

  abbrev pub Likes : List Value → List Value → Type 0
  Likes vs ws = ListOf Like vs ws

  abbrev pub MaybeLike : Option Value → Option Value → Type 0
  MaybeLike o p = OptionOf Like o p

  pub data EntryLike : ScopeEntry → ScopeEntry → Type 0 where
    entry_like : (x : Text) (k : EntryKind) {v w : Value} → Like v w → EntryLike (record { name = x; kind = k; value = v }) (record { name = x; kind = k; value = w })

  -- a host's function is named as a script's, or as it is
  pub data HostName : Text → Text → Type 0 where
    as_it_is : (f : Text) → HostName f f
    as_a_function : {f g : Text} → N f g → HostName f g

  pub data CallLike : HostCall → HostCall → Type 0 where
    call_like : {f g : Text} {o p : Option Value} {vs ws : List Value} → HostName f g → MaybeLike o p → Likes vs ws → CallLike (record { name = f; receiver = o; arguments = vs }) (record { name = g; receiver = p; arguments = ws })

  pub data AnswerLike : Answer → Answer → Type 0 where
    answers_like : {v w : Value} {o p : Option Value} → Like v w → MaybeLike o p → AnswerLike (Answers v o) (Answers w p)
    throws_like : {v w : Value} → Like v w → AnswerLike (AnswersThrow v) (AnswersThrow w)

  pub record HostLike (h h' : Host) : Type 0 where
    pub answer : (cs ds : List HostCall) (c d : HostCall) → ListOf CallLike cs ds → CallLike c d → AnswerLike (h.answer cs c) (h'.answer ds d)
    pub value : (x : Text) → MaybeLike (h.module_value x) (h'.module_value x)
    pub path : (p : Text) → h.module_of p ≡ h'.module_of p
    pub text : {v w : Value} → Like v w → holds_float v ≡ true → h.text v ≡ h'.text w

  pub data BindingLike : Binding → Binding → Type 0 where
    binding_like : (x : Text) {v w : Value} → Like v w → BindingLike (record { name = x; value = v }) (record { name = x; value = w })

  pub record StoreLike (s s' : Store) : Type 0 where
    pub scope : ListOf EntryLike s.scope s'.scope
    pub globals : ListOf BindingLike s.globals s'.globals
    pub own : s.is_own ≡ s'.is_own
    pub this : MaybeLike s.this s'.this
    pub calls : ListOf CallLike s.calls s'.calls

  pub data ExitLike : Exit → Exit → Type 0 where
    returns_like : {v w : Value} → Like v w → ExitLike (Returns v) (Returns w)
    breaks_like : {v w : Value} → Like v w → ExitLike (Breaks v) (Breaks w)
    continues_like : ExitLike Continues Continues
    throw_like : {v w : Value} → Like v w → ExitLike (Throws v) (Throws w)
    again_like : ExitLike Again Again

  pub data EndingLike : Ending → Ending → Type 0 where
    gives_like : {v w : Value} → Like v w → EndingLike (Gives v) (Gives w)
    leaves_like : {x y : Exit} → ExitLike x y → EndingLike (Leaves x) (Leaves y)

  pub data OutcomeLike : Outcome → Outcome → Type 0 where
    ended_like : {e e' : Ending} → EndingLike e e' → OutcomeLike (Ended e) (Ended e')
    halted_like : (h : Halt) → OutcomeLike (Halted h) (Halted h)

  -- the same end, store and calls but for names, and as many turns left
  pub data ResultLike : Result → Result → Type 0 where
    at_like : {o p : Outcome} {s s' : Store} (t : ℕ) → OutcomeLike o p → StoreLike s s' → ResultLike (At o s t) (At p s' t)

  pub data KeyLike : Key → Key → Type 0 where
    key_like : {f g : Text} (n : ℕ) (t : Option Text) → N f g → KeyLike (record { name = f; arity = n; this_type = t }) (record { name = g; arity = n; this_type = t })

  pub data ScriptCallLike : ScriptCall → ScriptCall → Type 0 where
    script_call_like : {k l : Key} {o p : Option Value} {vs ws : List Value} (b : Bool) → KeyLike k l → MaybeLike o p → Likes vs ws → ScriptCallLike (record { function = k; captures = b; this = o; arguments = vs }) (record { function = l; captures = b; this = p; arguments = ws })

  pub data ComputedLike : Computed → Computed → Type 0 where
    no_entry_like : ComputedLike NoEntry NoEntry
    is_like : {v w : Value} → Like v w → ComputedLike (Is v) (Is w)
    overflows_like : ComputedLike Overflows Overflows

  pub data CurrentLike : Current → Current → Type 0 where
    current_like : {v w : Value} → Like v w → (p : Option Place) → CurrentLike (record { value = v; place = p }) (record { value = w; place = p })

  pub data AccessLike : Access → Access → Type 0 where
    of_property_like : (p : PropertyNames) → AccessLike (OfProperty p) (OfProperty p)
    of_index_like : {v w : Value} → Like v w → AccessLike (OfIndex v) (OfIndex w)
    of_method_like : {f g : Text} {vs ws : List Value} → N f g → word f ≡ word g → Likes vs ws → AccessLike (OfMethod f vs) (OfMethod g ws)

  -- ---- trees

  pub data CalleeLike : Callee → Callee → Type 0 where
    operator_like : (op : Operator) → CalleeLike (OnOperator op) (OnOperator op)
    qualified_like : (m f : Text) → CalleeLike (Qualified m f) (Qualified m f)
    by_name_like : {f g : Text} (b : Bool) → N f g → word f ≡ word g → CalleeLike (ByName f b) (ByName g b)

  abbrev pub IsFn : Callee → Type 0
  IsFn (ByName f b) = word f ≡ Fn
  IsFn _ = ⊥

  -- each name that `Fn` takes stands for itself
  abbrev pub Total : Type 0
  Total = (t : Text) → is_valid_name t ≡ true → N t t

  mutual
    pub data ExprLike : Expr → Expr → Type 0 where
      ill_like : ExprLike Ill Ill
      constant_like : {v w : Value} → Like v w → ExprLike (Constant v) (Constant w)
      interpolated_like : {es fs : Exprs} → ExprsLike es fs → ExprLike (InterpolatedString es) (InterpolatedString fs)
      array_of_like : {es fs : Exprs} → ExprsLike es fs → ExprLike (ArrayOf es) (ArrayOf fs)
      map_of_like : {ps qs : Pairs} → PairsLike ps qs → ExprLike (MapOf ps) (MapOf qs)
      variable_like : (x : Text) → ExprLike (Variable x) (Variable x)
      global_variable_like : (x : Text) → ExprLike (GlobalVariable x) (GlobalVariable x)
      module_variable_like : (m x : Text) → ExprLike (ModuleVariable m x) (ModuleVariable m x)
      module_of_like : {e f : Expr} → ExprLike e f → ExprLike (ModuleOf e) (ModuleOf f)
      this_like : ExprLike ThisPtr ThisPtr
      block_expr_like : {ss rs : Stmts} → StmtsLike ss rs → ExprLike (BlockExpr ss) (BlockExpr rs)
      -- `Fn` of any text, where each name stands for itself
      call_expr_like : {c d : Callee} {es fs : Exprs} → CalleeLike c d → (IsFn c → Total) → ExprsLike es fs → ExprLike (FnCall c es) (FnCall d fs)
      -- `Fn` of a text that names what it did
      fn_like : (b : Bool) (f t : Text) → N t t → word f ≡ Fn → ExprLike (FnCall (ByName f b) (expr (Constant (TextV t)) no_exprs)) (FnCall (ByName f b) (expr (Constant (TextV t)) no_exprs))
      chain_like : {b c : Base} {ps qs : Steps} → BaseLike b c → StepsLike ps qs → ExprLike (Chain b ps) (Chain c qs)
      and_like : {es fs : Exprs} → ExprsLike es fs → ExprLike (And es) (And fs)
      or_like : {es fs : Exprs} → ExprsLike es fs → ExprLike (Or es) (Or fs)
      coalesce_like : {es fs : Exprs} → ExprsLike es fs → ExprLike (Coalesce es) (Coalesce fs)

    pub data ExprsLike : Exprs → Exprs → Type 0 where
      no_exprs_like : ExprsLike no_exprs no_exprs
      expr_like : {e f : Expr} {es fs : Exprs} → ExprLike e f → ExprsLike es fs → ExprsLike (expr e es) (expr f fs)

    pub data PairsLike : Pairs → Pairs → Type 0 where
      no_pairs_like : PairsLike no_pairs no_pairs
      pair_like : (k : Text) {e f : Expr} {ps qs : Pairs} → ExprLike e f → PairsLike ps qs → PairsLike (pair k e ps) (pair k f qs)

    pub data BaseLike : Base → Base → Type 0 where
      on_place_like : (r : Root) → BaseLike (OnPlace r) (OnPlace r)
      on_value_like : {e f : Expr} → ExprLike e f → BaseLike (OnValue e) (OnValue f)

    pub data StepLike : Step → Step → Type 0 where
      ill_step_like : StepLike IllStep IllStep
      property_like : (p : PropertyNames) → StepLike (Property p) (Property p)
      index_like : {e f : Expr} → ExprLike e f → StepLike (Index e) (Index f)
      method_like : {f g : Text} {es fs : Exprs} → N f g → word f ≡ word g → ExprsLike es fs → StepLike (Method f es) (Method g fs)

    pub data StepsLike : Steps → Steps → Type 0 where
      last_like : (b : Bool) {p q : Step} → StepLike p q → StepsLike (last b p) (last b q)
      more_like : (b : Bool) {p q : Step} {ps qs : Steps} → StepLike p q → StepsLike ps qs → StepsLike (more b p ps) (more b q qs)

    pub data TargetLike : Target → Target → Type 0 where
      ill_target_like : TargetLike IllTarget IllTarget
      nowhere_like : TargetLike Nowhere Nowhere
      to_root_like : (r : Root) → TargetLike (ToRoot r) (ToRoot r)
      to_part_like : (r : Root) {ps qs : Steps} → StepsLike ps qs → TargetLike (ToPart r ps) (ToPart r qs)

    pub data GuardLike : Guard → Guard → Type 0 where
      always_like : GuardLike Always Always
      when_like : {e f : Expr} → ExprLike e f → GuardLike (When e) (When f)

    -- of arms that the table doesn't list nothing is asked; i: the number of the first one
    pub data ArmsLike : List ℕ → ℕ → Arms → Arms → Type 0 where
      no_arms_like : {is : List ℕ} (i : ℕ) → ArmsLike is i no_arms no_arms
      arm_like : {is : List ℕ} {i : ℕ} {c d a b : Expr} {as' bs : Arms} → ExprLike c d → ExprLike a b → ArmsLike is (suc i) as' bs → ArmsLike is i (arm c a as') (arm d b bs)
      unlisted_like : {is : List ℕ} {i : ℕ} (c d a b : Expr) {as' bs : Arms} → names_arm i is ≡ false → ArmsLike is (suc i) as' bs → ArmsLike is i (arm c a as') (arm d b bs)

    pub data DeedLike : Deed → Deed → Type 0 where
      ill_deed_like : DeedLike IllDeed IllDeed
      noop_like : DeedLike Noop Noop
      if_deed_like : {e f : Expr} {a b c d : Stmts} → ExprLike e f → StmtsLike a b → StmtsLike c d → DeedLike (If e a c) (If f b d)
      switch_like : {e f : Expr} {as' bs : Arms} (t : SwitchTable) → ExprLike e f → ArmsLike (listed t) 0 as' bs → DeedLike (Switch e as' t) (Switch f bs t)
      while_like : {g h : Guard} {a b : Stmts} → GuardLike g h → StmtsLike a b → DeedLike (While g a) (While h b)
      do_like : (n : Bool) {e f : Expr} {a b : Stmts} → ExprLike e f → StmtsLike a b → DeedLike (Do n e a) (Do n f b)
      for_like : (x : Text) (i : Option Text) {e f : Expr} {a b : Stmts} → ExprLike e f → StmtsLike a b → DeedLike (For x i e a) (For x i f b)
      assignment_like : (op : Option Operator) {l m : Target} {e f : Expr} → TargetLike l m → ExprLike e f → DeedLike (Assignment op l e) (Assignment op m f)
      block_like : {a b : Stmts} → StmtsLike a b → DeedLike (Block a) (Block b)
      try_like : (x : Option Text) {a b c d : Stmts} → StmtsLike a b → StmtsLike c d → DeedLike (TryCatch x a c) (TryCatch x b d)
      evaluate_like : {e f : Expr} → ExprLike e f → DeedLike (Evaluate e) (Evaluate f)
      discard_like : {e f : Expr} → ExprLike e f → DeedLike (Discard e) (Discard f)
      leave_like : (k : ExitKind) {e f : Expr} → ExprLike e f → DeedLike (Leave k e) (Leave k f)

    pub data StmtLike : Stmt → Stmt → Type 0 where
      var_like : (k : EntryKind) (b : Bool) (x : Text) {e f : Expr} → ExprLike e f → StmtLike (Var k b x e) (Var k b x f)
      does_like : {d e : Deed} → DeedLike d e → StmtLike (Does d) (Does e)

    pub data StmtsLike : Stmts → Stmts → Type 0 where
      no_stmts_like : StmtsLike no_stmts no_stmts
      stmt_like : {s r : Stmt} {ss rs : Stmts} → StmtLike s r → StmtsLike ss rs → StmtsLike (stmt s ss) (stmt r rs)

  pub data FunctionLike : Function → Function → Type 0 where
    function_like : (f g : Text) (t : Option Text) (xs : List Text) {a b : Stmts} → StmtsLike a b → FunctionLike (record { name = f; this_type = t; params = xs; body = a }) (record { name = g; this_type = t; params = xs; body = b })

  -- The functions of names that stand for each other; of others nothing is asked, and the order is as it may.
  pub record ScriptLike (p q : Script) : Type 0 where
    pub statements : StmtsLike p.statements q.statements
    pub functions : (k l : Key) → KeyLike k l → OptionOf FunctionLike (function_of p.functions k) (function_of q.functions l)

  pub data EntryPointLike : EntryPoint → EntryPoint → Type 0 where
    at_statements_like : EntryPointLike AtStatements AtStatements
    at_function_like : {k l : Key} {o p : Option Value} {vs ws : List Value} → KeyLike k l → MaybeLike o p → Likes vs ws → EntryPointLike (AtFunction k o vs) (AtFunction l p ws)
