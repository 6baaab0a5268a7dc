-- Of a well-formed tree either nothing is left to reduce, at any depth, or a step of the relation applies.
use Rattle.std.proofs.Common.{◌≡◌, ℕ, zero, suc, ◌+◌, ◌≤◌, Bool, true, false, ◌⊎◌, inl, inr, List, [], ◌∷◌, Option, Some, None, refl, sym, ap, ◌∙◌, subst, arith}
use Rattle.std.specs.Prelude.{not, if◌then◌else◌}
use Rattle.rhai_base.specs.Value.{Text, Value, UnitV}
use Rattle.theory_meaning.specs.Constants.{constant_values, text_constants, constant_entries, constant_bool}
use Rattle.theory_meaning.specs.Desugar.{root_of}
use Rattle.theory_meaning.specs.Engine.{Engine}
use Rattle.theory_meaning.specs.Faults.{TreeFault, ChainShape, AssignTarget, SwitchFault, unless, faultless, AreWellFormedFunctions}
use Rattle.theory_meaning.specs.Queries.{is_unit as is_unit_expr}
use Rattle.theory_meaning.specs.Shape.{is_unit, is_member, is_argument, is_rest, is_table, is_left_side, catch_name}
use Rattle.theory_meaning.specs.Tree.{ChainFlags, SwitchTable, Callee, Expr, InterpolatedString, ArrayOf, MapOf, Variable, ThisPtr, Property, MethodCall, BlockExpr, FnCall, Dot, Index, And, Or, Coalesce, Exprs, no_exprs, expr, Pairs, no_pairs, pair, MaybeExpr, no_expr, an_expr, Arms, no_arms, arm, Stmt, If, Switch, While, Do, For, Var, Assignment, FnCallStmt, Block, TryCatch, ExprStmt, BreakLoop, Return, Import, Stmts, no_stmts, stmt, Function}
use Rattle.theory_meaning.specs.Walk.{OfExpr, Member, Rest, left_role, right_role, whole, outermost, every, over_expr, over_exprs, over_pairs, over_maybe, over_arms, over_stmt, over_stmts, arm_at, arms_at, listed}
use Rattle.theory_meaning.specs.Weight.{weight}
use Rattle.theory_meaning.proofs.PureTrees.{split}
use Rattle.theory_rewriting.specs.Context.{Context, behind, naming, naming_some, naming_catch, ListKind, Inside, wanted, wanted_before, ListContext, open_list}
use Rattle.theory_rewriting.specs.Context as context
use Rattle.theory_rewriting.specs.Finished.{IsFinished, AreFinished, FinishedIsIrreducible, FinishedStays}
use Rattle.theory_rewriting.specs.Folding.{folded}
use Rattle.theory_rewriting.specs.Reducible.{is_always, follows_deciding, is_some_value, follows_some, chain_answer, AnswersNothing, of_first, is_chosen, goes_on_after_leaving, tests_constant, idles, ends_in_return, IsIrreducibleList, IsIrreducibleNode, IsIrreducibleBody, AreIrreducibleBodies}
use Rattle.theory_rewriting.specs.Residue.{holds_constant}
use Rattle.theory_rewriting.specs.Rewriting.{ExprTo, same_expr, by_expr_rule, in_text, in_array, in_map, in_braces, in_call, in_chain, in_and, in_or, in_coalesce, ExprsTo, exprs_none, exprs_more, PairsTo, pairs_none, pairs_more, ChainTo, in_dot, in_index, base, ArgumentTo, in_method, in_brackets, same_argument, StepsTo, same_steps, last_method, last_index, more_dot, more_index, TargetTo, same_target, in_target, guard, MaybeTo, maybe_some, ArmsTo, arms_more, StmtTo, by_stmt_rule, in_if, in_switch, in_while, in_do, in_for, in_var, in_assignment, in_block, in_try, in_expression, in_call_statement, in_break, in_return, in_import, RestTo, same_stmts, in_head, in_tail}
use Rattle.theory_rewriting.specs.Scripts.{naming_all, FunctionsTo, no_functions, functions}
use Rattle.theory_rewriting.specs.SurelyUnit.{is_surely_unit}
use Rattle.theory_rewriting.proofs.Weights.{stmts_fall}
use Rattle.theory_rewriting.proofs.Plain.{is_plain_value, folded_plain}
use Rattle.theory_rewriting.proofs.Firing.{same_arms}
use Rattle.theory_rewriting.proofs.Reducing.{ExprGoes, StmtGoes, operator_goes, operator_statement_goes, constant_array_goes, constant_map_goes, constant_text_goes, braced_constant_goes, decided_if_goes, false_loop_goes, operand_after_false_goes, operand_after_true_goes, operand_after_some_goes, constant_chain_goes, chosen_switch_goes, after_leaving_goes, idle_goes, return_goes, known_condition_goes}

-- ---- one or the other

impossible : {A : Type 0} → false ≡ true → A
impossible h = absurd (let z : false ≡ true = h in cc)

-- where the one holds, by what follows from it
unless_other : {A B G : Type 0} → A ⊎ G → (A → B ⊎ G) → B ⊎ G
unless_other (inl a) f = f a
unless_other (inr g) f = inr g

other : {A G H : Type 0} → (G → H) → A ⊎ G → A ⊎ H
other f (inl a) = inl a
other f (inr g) = inr (f g)

first : {A B G : Type 0} → (A → B) → A ⊎ G → B ⊎ G
first f (inl a) = inl (f a)
first f (inr g) = inr g

unless_true : {G : Type 0} (b : Bool) → (b ≡ true → G) → (b ≡ false) ⊎ G
unless_true true f = inr (f refl)
unless_true false f = inl refl

unless_some : {A G : Type 0} (o : Option A) → ((a : A) → o ≡ Some a → G) → (o ≡ None) ⊎ G
unless_some None f = inl refl
unless_some (Some a) f = inr (f a refl)

-- ---- what stays, and what changes

module _ (r : Engine) where
  abbrev ExprStays : Expr → Type 0
  ExprStays e = AnswersNothing (OfExpr e) × over_expr (every (IsIrreducibleNode r)) e

  abbrev ExprsStay : Exprs → Type 0
  ExprsStay es = over_exprs (of_first AnswersNothing) es × over_exprs (every (IsIrreducibleNode r)) es

  abbrev PairsStay : Pairs → Type 0
  PairsStay ps = over_pairs (of_first AnswersNothing) ps × over_pairs (every (IsIrreducibleNode r)) ps

  abbrev MaybeStays : MaybeExpr → Type 0
  MaybeStays m = over_maybe (of_first AnswersNothing) m × over_maybe (every (IsIrreducibleNode r)) m

  -- the right side of a chain's node, where the chain ends (breaks) or goes on
  abbrev StepsStay : Bool → Expr → Type 0
  StepsStay breaks e = (breaks ≡ true → AnswersNothing (OfExpr e)) × over_expr (every (IsIrreducibleNode r)) e

  abbrev ArmStays : Arms → ℕ → Type 0
  ArmStays as' i = arm_at (Unit {0}) (over_arms (of_first AnswersNothing) as') i × arm_at (Unit {0}) (over_arms (every (IsIrreducibleNode r)) as') i

  abbrev StmtStays : Stmt → Type 0
  StmtStays s = over_stmt (every (IsIrreducibleNode r)) s

  abbrev StmtsStay : Stmts → Type 0
  StmtsStay ss = over_stmts (every (IsIrreducibleNode r)) ss

  abbrev ListStays : Stmts → Type 0
  ListStays ss = IsIrreducibleList ss × StmtsStay ss

-- it is a place where it was one, and a literal unit where it was one
abbrev ExprChanges : Context → Expr → Type 0
ExprChanges k e = (e' : Expr) × ExprTo k false true e e' × (root_of e' ≡ root_of e) × (is_unit_expr e' ≡ is_unit_expr e)

abbrev ExprsChange : Context → Exprs → Type 0
ExprsChange k es = (es' : Exprs) × ExprsTo k false true es es'

abbrev PairsChange : Context → Pairs → Type 0
PairsChange k ps = (ps' : Pairs) × PairsTo k false true ps ps'

abbrev MaybeChanges : Context → MaybeExpr → Type 0
MaybeChanges k m = (m' : MaybeExpr) × MaybeTo k false true m m'

abbrev ChainChanges : Context → Expr → Type 0
ChainChanges k e = (e' : Expr) × ChainTo k false true e e' × (root_of e' ≡ None) × (is_unit_expr e' ≡ false)

abbrev ArgumentChanges : Context → Bool → Expr → Type 0
ArgumentChanges k dot e = (e' : Expr) × ArgumentTo k dot false true e e'

abbrev StepsChange : Context → (dot breaks : Bool) → Expr → Type 0
StepsChange k dot breaks e = (e' : Expr) × StepsTo k dot breaks false true e e'

abbrev ArmsChange : Context → Arms → Type 0
ArmsChange k as' = (bs : Arms) × ArmsTo k false true as' bs

abbrev StmtChanges : Context → Bool → Stmt → Type 0
StmtChanges k w s = (s' : Stmt) × StmtTo k w false true s s'

abbrev ListChanges : ListContext → ListKind → Bool → Stmts → Type 0
ListChanges k m u ss = (ss' : Stmts) × RestTo k m u false true ss ss'

by_rule : {k : Context} {u : Bool} {e : Expr} → u ≡ false → ExprGoes k u e → ExprChanges k e
by_rule h z = (z.0, by_expr_rule z.1, z.2, z.3 h)

by_statement_rule : {k : Context} {w : Bool} {s : Stmt} → StmtGoes k s → StmtChanges k w s
by_statement_rule {w = w} z = let x = z w in (x.0, by_stmt_rule x.1)

same_exprs : {k : Context} {d : Bool} (es : Exprs) → ExprsTo k d d es es
same_exprs no_exprs = exprs_none
same_exprs (expr e es) = exprs_more same_expr (same_exprs es)

same_pairs : {k : Context} {d : Bool} (ps : Pairs) → PairsTo k d d ps ps
same_pairs no_pairs = pairs_none
same_pairs (pair x e ps) = pairs_more same_expr (same_pairs ps)

-- ---- one node, by what is known of its parts

not_unit : (v : Value) → is_plain_value v ≡ true → is_unit v ≡ false
not_unit UnitV h = impossible h
not_unit _ h = refl

module _ (k : Context) where
  array_by : (es : Exprs) → ExprsStay k.engine es ⊎ ExprsChange k es → ExprStays k.engine (ArrayOf es) ⊎ ExprChanges k (ArrayOf es)
  array_by es d =
      unless_other (other (λ z. (ArrayOf z.0, in_array z.1, refl, refl)) d) (λ x.
      first (λ q. (refl, (record { alone = q; lists = tt; expressions = x.0 }, x.1))) (unless_some (constant_values es) (λ vs q. by_rule refl (constant_array_goes vs q))))

  map_by : (ps : Pairs) (template : List Text) → PairsStay k.engine ps ⊎ PairsChange k ps → ExprStays k.engine (MapOf ps template) ⊎ ExprChanges k (MapOf ps template)
  map_by ps template d =
      unless_other (other (λ z. (MapOf z.0 template, in_map z.1, refl, refl)) d) (λ x.
      first (λ q. (refl, (record { alone = q; lists = tt; expressions = x.0 }, x.1))) (unless_some (constant_entries ps) (λ vs q. by_rule refl (constant_map_goes vs q))))

  text_by : (es : Exprs) → ExprsStay k.engine es ⊎ ExprsChange k es → ExprStays k.engine (InterpolatedString es) ⊎ ExprChanges k (InterpolatedString es)
  text_by es d =
      unless_other (other (λ z. (InterpolatedString z.0, in_text z.1, refl, refl)) d) (λ x.
      first (λ q. (refl, (record { alone = q; lists = tt; expressions = x.0 }, x.1))) (unless_some (text_constants es) (λ vs q. by_rule refl (constant_text_goes vs q))))

  call_by : (c : Callee) (es : Exprs) → ExprsStay k.engine es ⊎ ExprsChange k es → ExprStays k.engine (FnCall c es) ⊎ ExprChanges k (FnCall c es)
  call_by c es d =
      unless_other (other (λ z. (FnCall c z.0, in_call z.1, refl, refl)) d) (λ x.
      first (λ q. (refl, (record { alone = q; lists = tt; expressions = x.0 }, x.1))) (unless_some (folded k.engine c es) (λ v q. by_rule (not_unit v (folded_plain k.engine c es v q)) (operator_goes v q))))

  and_by : (es : Exprs) → ExprsStay k.engine es ⊎ ExprsChange k es → ExprStays k.engine (And es) ⊎ ExprChanges k (And es)
  and_by es d =
      unless_other (other (λ z. (And z.0, in_and z.1, refl, refl)) d) (λ x.
      first (λ q. (refl, (record { alone = q; lists = tt; expressions = x.0 }, x.1))) (unless_true (follows_deciding false es) (λ q. by_rule refl (operand_after_false_goes es q))))

  or_by : (es : Exprs) → ExprsStay k.engine es ⊎ ExprsChange k es → ExprStays k.engine (Or es) ⊎ ExprChanges k (Or es)
  or_by es d =
      unless_other (other (λ z. (Or z.0, in_or z.1, refl, refl)) d) (λ x.
      first (λ q. (refl, (record { alone = q; lists = tt; expressions = x.0 }, x.1))) (unless_true (follows_deciding true es) (λ q. by_rule refl (operand_after_true_goes es q))))

  coalesce_by : (es : Exprs) → ExprsStay k.engine es ⊎ ExprsChange k es → ExprStays k.engine (Coalesce es) ⊎ ExprChanges k (Coalesce es)
  coalesce_by es d =
      unless_other (other (λ z. (Coalesce z.0, in_coalesce z.1, refl, refl)) d) (λ x.
      first (λ q. (refl, (record { alone = q; lists = tt; expressions = x.0 }, x.1))) (unless_true (follows_some es) (λ q. by_rule refl (operand_after_some_goes es q))))

  -- nothing is asked of statements
  no_answers : (ss : Stmts) → over_stmts (of_first AnswersNothing) ss
  no_answers no_stmts = tt
  no_answers (stmt s ss) = (tt, no_answers ss)

  list_by : (m : ListKind) (u : Bool) (ss : Stmts) → StmtsStay k.engine ss ⊎ ListChanges (open_list k) m u ss → ListStays k.engine ss ⊎ ListChanges (open_list k) m u ss
  list_by m u ss d =
      unless_other d (λ x.
      unless_other (unless_true (goes_on_after_leaving ss) (λ q. after_leaving_goes ss q false)) (λ a.
      unless_other (unless_true (tests_constant ss) (λ q. known_condition_goes ss refl q false)) (λ b.
      first (λ c. (record { ends_where_left = a; tests_no_constant = b; never_idles = c }, x)) (unless_true (idles ss) (λ q. idle_goes ss q false)))))

  braces_by : (ss : Stmts) → StmtsStay k.engine ss ⊎ ListChanges (open_list k) (Inside true) true ss → ExprStays k.engine (BlockExpr ss) ⊎ ExprChanges k (BlockExpr ss)
  braces_by ss d =
      unless_other (other (λ z. (BlockExpr z.0, in_braces z.1, refl, refl)) (list_by (Inside true) true ss d)) (λ x.
      first (λ q. (refl, (record { alone = q; lists = x.0; expressions = no_answers ss }, x.1))) (unless_true (holds_constant ss) (λ q. by_rule refl (braced_constant_goes ss q))))

  -- ---- chains

  dot_parts : (f : ChainFlags) (l e : Expr) → ExprStays k.engine l ⊎ ExprChanges k l → StepsStay k.engine f.breaks e ⊎ StepsChange k true f.breaks e → over_expr (every (IsIrreducibleNode k.engine)) (Dot f l e) ⊎ ChainChanges k (Dot f l e)
  dot_parts f l e d s =
      unless_other (other (λ z. (Dot f z.0 e, in_dot (base z.1 z.2) same_steps, refl, refl)) d) (λ x.
      unless_other (other (λ z. (Dot f l z.0, in_dot (base same_expr refl) z.1, refl, refl)) s) (λ y.
      inl (record { alone = tt; lists = tt; expressions = (x.0, y.0) }, (x.1, y.1))))

  index_parts : (f : ChainFlags) (l e : Expr) → ExprStays k.engine l ⊎ ExprChanges k l → StepsStay k.engine f.breaks e ⊎ StepsChange k false f.breaks e → over_expr (every (IsIrreducibleNode k.engine)) (Index f l e) ⊎ ChainChanges k (Index f l e)
  index_parts f l e d s =
      unless_other (other (λ z. (Index f z.0 e, in_index (base z.1 z.2) same_steps, refl, refl)) d) (λ x.
      unless_other (other (λ z. (Index f l z.0, in_index (base same_expr refl) z.1, refl, refl)) s) (λ y.
      inl (record { alone = tt; lists = tt; expressions = (x.0, y.0) }, (x.1, y.1))))

  answered : (e : Expr) (o : Option Value) → chain_answer e ≡ o → (is_some_value (chain_answer e) ≡ false) ⊎ ExprChanges k e
  answered e None q = inl (ap is_some_value q)
  answered e (Some v) q = by (is_unit v) refl where
    by : (b : Bool) → is_unit v ≡ b → (is_some_value (chain_answer e) ≡ false) ⊎ ExprChanges k e
    by true x = inl (ap is_some_value q ∙ ap not x)
    by false x = inr (by_rule x (constant_chain_goes e v q))

  -- as an expression
  chain_by : (e : Expr) → root_of e ≡ None → is_unit_expr e ≡ false → over_expr (every (IsIrreducibleNode k.engine)) e ⊎ ChainChanges k e → ExprStays k.engine e ⊎ ExprChanges k e
  chain_by e p u d =
      unless_other (other (λ z. (z.0, in_chain z.1, z.2 ∙ sym p, z.3 ∙ sym u)) d) (λ x.
      first (λ q. (q, x)) (answered e (chain_answer e) refl))

  -- ---- the right side of a chain's node

  -- a property or a method call, where it is the argument of a `Dot`
  abbrev MemberStays : Expr → Type 0
  MemberStays e = ExprStays k.engine e

  abbrev MemberChanges : Expr → Type 0
  MemberChanges e = (e' : Expr) × ((breaks : Bool) → StepsTo k true breaks false true e e') × ArgumentTo k true false true e e'

  rest_member : (e : Expr) → is_rest true true e ≡ true → is_member e ≡ true
  rest_member (Dot m a b) h = impossible h
  rest_member (Index m a b) h = impossible h
  rest_member _ h = h

  steps_by : (l dot breaks : Bool) (e : Expr) → is_rest dot breaks e ≡ true → over_expr faultless e (record { in_loop = l; role = right_role dot breaks e }) → (over_expr faultless e (whole l) → ExprStays k.engine e ⊎ ExprChanges k e) → (is_member e ≡ true → over_expr faultless e (record { in_loop = l; role = Member }) → MemberStays e ⊎ MemberChanges e) → (is_rest dot false e ≡ true → over_expr faultless e (record { in_loop = l; role = right_role dot false e }) → over_expr (every (IsIrreducibleNode k.engine)) e ⊎ StepsChange k dot false e) → StepsStay k.engine breaks e ⊎ StepsChange k dot breaks e
  steps_by l true true e h w f g r = first (λ x. ((λ q. x.0), x.1)) (other (λ z. (z.0, z.1 true)) (g (rest_member e h) w))
  steps_by l false true e h w f g r = first (λ x. ((λ q. x.0), x.1)) (other (λ z. (z.0, last_index z.1)) (f w))
  steps_by l dot false e h w f g r = first (λ x. ((λ q. impossible q), x)) (r h w)

  argument_by : (l dot : Bool) (e : Expr) → is_argument dot e ≡ true → over_expr faultless e (record { in_loop = l; role = left_role (Rest dot) }) → (over_expr faultless e (whole l) → ExprStays k.engine e ⊎ ExprChanges k e) → (is_member e ≡ true → over_expr faultless e (record { in_loop = l; role = Member }) → MemberStays e ⊎ MemberChanges e) → ExprStays k.engine e ⊎ ArgumentChanges k dot e
  argument_by l true e h w f g = other (λ z. (z.0, z.2)) (g h w)
  argument_by l false e h w f g = other (λ z. (z.0, in_brackets z.1)) (f w)

  -- the next node
  more_dots : (dot : Bool) (m : ChainFlags) (a b : Expr) → ExprStays k.engine a ⊎ ArgumentChanges k dot a → StepsStay k.engine m.breaks b ⊎ StepsChange k true m.breaks b → over_expr (every (IsIrreducibleNode k.engine)) (Dot m a b) ⊎ StepsChange k dot false (Dot m a b)
  more_dots dot m a b d s =
      unless_other (other (λ z. (Dot m z.0 b, more_dot z.1 same_steps)) d) (λ x.
      unless_other (other (λ z. (Dot m a z.0, more_dot same_argument z.1)) s) (λ y.
      inl (record { alone = tt; lists = tt; expressions = (x.0, y.0) }, (x.1, y.1))))

  more_indices : (dot : Bool) (m : ChainFlags) (a b : Expr) → ExprStays k.engine a ⊎ ArgumentChanges k dot a → StepsStay k.engine m.breaks b ⊎ StepsChange k false m.breaks b → over_expr (every (IsIrreducibleNode k.engine)) (Index m a b) ⊎ StepsChange k dot false (Index m a b)
  more_indices dot m a b d s =
      unless_other (other (λ z. (Index m z.0 b, more_index z.1 same_steps)) d) (λ x.
      unless_other (other (λ z. (Index m a z.0, more_index same_argument z.1)) s) (λ y.
      inl (record { alone = tt; lists = tt; expressions = (x.0, y.0) }, (x.1, y.1))))

  method_by : (c : Callee) (es : Exprs) → ExprsStay k.engine es ⊎ ExprsChange k es → MemberStays (MethodCall c es) ⊎ MemberChanges (MethodCall c es)
  method_by c es d = first (λ x. (refl, (record { alone = tt; lists = tt; expressions = x.0 }, x.1))) (other (λ z. (MethodCall c z.0, (λ b. last_method z.1), in_method z.1)) d)

  last_by : (dot fits : Bool) (e : Expr) → (if dot then fits else false) ≡ true → MemberStays e ⊎ MemberChanges e → over_expr (every (IsIrreducibleNode k.engine)) e ⊎ StepsChange k dot false e
  last_by true fits e h d = first (λ x. x.1) (other (λ z. (z.0, z.1 false)) d)
  last_by false fits e h d = impossible h

no_rest : {A : Type 0} (dot : Bool) → (if dot then false else false) ≡ true → A
no_rest true h = impossible h
no_rest false h = impossible h

-- ---- statements

meets : (f : TreeFault) (b : Bool) → unless b f ≡ None → b ≡ true
meets f true h = refl
meets f false h = absurd (let z : Some f ≡ None = h in cc)

-- the names of a loop and of a `catch` leave the record
engine_some : (x : Option Text) (k : Context) → (naming_some x k).engine ≡ k.engine
engine_some None k = refl
engine_some (Some x) k = refl

engine_catch : (x : Option (Option Text)) (k : Context) → (naming_catch x k).engine ≡ k.engine
engine_catch None k = refl
engine_catch (Some x) k = engine_some x k

of_engine : {G : Type 0} (ss : Stmts) {r r' : Engine} → r ≡ r' → ListStays r ss ⊎ G → ListStays r' ss ⊎ G
of_engine ss q d = first (λ x. subst (λ r. ListStays r ss) q x) d

-- each arm that a table lists
each_listed : {G : Type 0} (r : Engine) (l : Bool) (as' : Arms) (is : List ℕ) → arms_at (λ a. Unit {0}) (λ p q a. p a × q a) (over_arms faultless as') is (whole l) → ((i : ℕ) → arm_at (λ a. Unit {0}) (over_arms faultless as') i (whole l) → ArmStays r as' i ⊎ G) → (arms_at (Unit {0}) (λ p q. p × q) (over_arms (of_first AnswersNothing) as') is × arms_at (Unit {0}) (λ p q. p × q) (over_arms (every (IsIrreducibleNode r)) as') is) ⊎ G
each_listed r l as' [] h f = inl (tt, tt)
each_listed r l as' (i ∷ is) h f = unless_other (f i h.0) (λ x. first (λ y. ((x.0, y.0), (x.1, y.1))) (each_listed r l as' is h.1 f))

module _ (k : Context) (w : Bool) where
  if_by : (c : Expr) (a b : Stmts) → ExprStays k.engine c ⊎ ExprChanges k c → ListStays k.engine a ⊎ ListChanges (open_list k) (Inside w) true a → ListStays k.engine b ⊎ ListChanges (open_list k) (Inside w) true b → StmtStays k.engine (If c a b) ⊎ StmtChanges k w (If c a b)
  if_by c a b dc da db =
      unless_other (other (λ z. (If z.0 a b, in_if z.1 same_stmts same_stmts)) dc) (λ x.
      unless_other (other (λ z. (If c z.0 b, in_if same_expr z.1 same_stmts)) da) (λ y.
      unless_other (other (λ z. (If c a z.0, in_if same_expr same_stmts z.1)) db) (λ v.
      first (λ q. (record { alone = q; lists = (y.0, v.0); expressions = (x.0, (no_answers k a, no_answers k b)) }, (x.1, (y.1, v.1)))) (unless_some (constant_bool c) (λ t q. by_statement_rule (decided_if_goes t q))))))

  switch_by : (e : Expr) (as' : Arms) (t : SwitchTable) → is_table as' t ≡ true → ExprStays k.engine e ⊎ ExprChanges k e → (arms_at (Unit {0}) (λ p q. p × q) (over_arms (of_first AnswersNothing) as') (listed t) × arms_at (Unit {0}) (λ p q. p × q) (over_arms (every (IsIrreducibleNode k.engine)) as') (listed t)) ⊎ ArmsChange k as' → StmtStays k.engine (Switch e as' t) ⊎ StmtChanges k w (Switch e as' t)
  switch_by e as' t h de da =
      unless_other (other (λ z. (Switch z.0 as' t, in_switch z.1 (same_arms as'))) de) (λ x.
      unless_other (other (λ z. (Switch e z.0 t, in_switch same_expr z.1)) da) (λ y.
      first (λ q. (record { alone = q; lists = tt; expressions = (x.0, y.0) }, (x.1, y.1))) (unless_true (is_chosen e t) (λ q. by_statement_rule (chosen_switch_goes e as' t h q)))))

  while_by : (e : Expr) (b : Stmts) → ExprStays k.engine e ⊎ ExprChanges k e → ListStays k.engine b ⊎ ListChanges (open_list k) (Inside false) true b → StmtStays k.engine (While e b) ⊎ StmtChanges k w (While e b)
  while_by e b de db =
      unless_other (other (λ z. (While z.0 b, in_while (guard z.1 z.3) same_stmts)) de) (λ x.
      unless_other (other (λ z. (While e z.0, in_while (guard same_expr refl) z.1)) db) (λ y.
      first (λ q. (record { alone = q; lists = y.0; expressions = (x.0, no_answers k b) }, (x.1, y.1))) (unless_true (is_always false e) (λ q. by_statement_rule (false_loop_goes q)))))

  call_statement_by : (c : Callee) (es : Exprs) → ExprsStay k.engine es ⊎ ExprsChange k es → StmtStays k.engine (FnCallStmt c es) ⊎ StmtChanges k w (FnCallStmt c es)
  call_statement_by c es d =
      unless_other (other (λ z. (FnCallStmt c z.0, in_call_statement z.1)) d) (λ x.
      first (λ q. (record { alone = q; lists = tt; expressions = x.0 }, x.1)) (unless_some (folded k.engine c es) (λ v q. by_statement_rule (operator_statement_goes v q))))

-- ---- every tree

mutual
  expr_decided : (k : Context) (l : Bool) (e : Expr) → over_expr faultless e (whole l) → ExprStays k.engine e ⊎ ExprChanges k e
  expr_decided k l (InterpolatedString es) h = text_by k es (exprs_decided k l es h.1)
  expr_decided k l (ArrayOf es) h = array_by k es (exprs_decided k l es h.1)
  expr_decided k l (MapOf ps template) h = map_by k ps template (pairs_decided k l ps h.1)
  expr_decided k l (Property p) h = absurd (let z : Some ChainShape ≡ None = h.0 in cc)
  expr_decided k l (MethodCall c es) h = absurd (let z : Some ChainShape ≡ None = h.0 in cc)
  expr_decided k l (BlockExpr ss) h = braces_by k ss (items_decided (open_list k) (Inside true) true l ss h.1)
  expr_decided k l (FnCall c es) h = call_by k c es (exprs_decided k l es h.1)
  expr_decided k l (Dot f e r) h =
      chain_by k (Dot f e r) refl refl
      (dot_parts k f e r (expr_decided k l e h.1.0) (steps_by k l true f.breaks r (meets ChainShape (is_rest true f.breaks r) h.0) h.1.1 (expr_decided k l r) (member_decided k l r) (rest_decided k l true r)))
  expr_decided k l (Index f e r) h =
      chain_by k (Index f e r) refl refl
      (index_parts k f e r (expr_decided k l e h.1.0) (steps_by k l false f.breaks r (meets ChainShape (is_rest false f.breaks r) h.0) h.1.1 (expr_decided k l r) (member_decided k l r) (rest_decided k l false r)))
  expr_decided k l (And es) h = and_by k es (exprs_decided k l es h.1)
  expr_decided k l (Or es) h = or_by k es (exprs_decided k l es h.1)
  expr_decided k l (Coalesce es) h = coalesce_by k es (exprs_decided k l es h.1)
  expr_decided k l _ h = inl (refl, (record { alone = tt; lists = tt; expressions = tt }, tt))

  -- what stands at the right of a `Dot`
  member_decided : (k : Context) (l : Bool) (e : Expr) → is_member e ≡ true → over_expr faultless e (record { in_loop = l; role = Member }) → MemberStays k e ⊎ MemberChanges k e
  member_decided k l (Property p) q h = inl (refl, (record { alone = tt; lists = tt; expressions = tt }, tt))
  member_decided k l (MethodCall c es) q h = method_by k c es (exprs_decided k l es h.1)
  member_decided k l _ q h = impossible q

  -- the rest of a chain
  rest_decided : (k : Context) (l dot : Bool) (e : Expr) → is_rest dot false e ≡ true → over_expr faultless e (record { in_loop = l; role = right_role dot false e }) → over_expr (every (IsIrreducibleNode k.engine)) e ⊎ StepsChange k dot false e
  rest_decided k l dot (Dot m a b) q h =
      let z = split (is_argument dot a) (is_rest true m.breaks b) q in
      more_dots k dot m a b (argument_by k l dot a z.0 h.1.0 (expr_decided k l a) (member_decided k l a))
      (steps_by k l true m.breaks b z.1 h.1.1 (expr_decided k l b) (member_decided k l b) (rest_decided k l true b))
  rest_decided k l dot (Index m a b) q h =
      let z = split (is_argument dot a) (is_rest false m.breaks b) q in
      more_indices k dot m a b (argument_by k l dot a z.0 h.1.0 (expr_decided k l a) (member_decided k l a))
      (steps_by k l false m.breaks b z.1 h.1.1 (expr_decided k l b) (member_decided k l b) (rest_decided k l false b))
  rest_decided k l dot (Property p) q h = inl (record { alone = tt; lists = tt; expressions = tt }, tt)
  rest_decided k l dot (MethodCall c es) q h = last_by k dot (is_member (MethodCall c es)) (MethodCall c es) q (method_by k c es (exprs_decided k l es h.1))
  rest_decided k l dot _ q h = no_rest dot q

  exprs_decided : (k : Context) (l : Bool) (es : Exprs) → over_exprs faultless es (whole l) → ExprsStay k.engine es ⊎ ExprsChange k es
  exprs_decided k l no_exprs h = inl (tt, tt)
  exprs_decided k l (expr e es) h =
      unless_other (other (λ z. (expr z.0 es, exprs_more z.1 (same_exprs es))) (expr_decided k l e h.0)) (λ x.
      unless_other (other (λ z. (expr e z.0, exprs_more same_expr z.1)) (exprs_decided k l es h.1)) (λ y.
      inl ((x.0, y.0), (x.1, y.1))))

  pairs_decided : (k : Context) (l : Bool) (ps : Pairs) → over_pairs faultless ps (whole l) → PairsStay k.engine ps ⊎ PairsChange k ps
  pairs_decided k l no_pairs h = inl (tt, tt)
  pairs_decided k l (pair x e ps) h =
      unless_other (other (λ z. (pair x z.0 ps, pairs_more z.1 (same_pairs ps))) (expr_decided k l e h.0)) (λ y.
      unless_other (other (λ z. (pair x e z.0, pairs_more same_expr z.1)) (pairs_decided k l ps h.1)) (λ v.
      inl ((y.0, v.0), (y.1, v.1))))

  maybe_decided : (k : Context) (l : Bool) (m : MaybeExpr) → over_maybe faultless m (whole l) → MaybeStays k.engine m ⊎ MaybeChanges k m
  maybe_decided k l no_expr h = inl (tt, tt)
  maybe_decided k l (an_expr e) h = other (λ z. (an_expr z.0, maybe_some z.1)) (expr_decided k l e h)

  arms_decided : (k : Context) (l : Bool) (as' : Arms) (i : ℕ) → arm_at (λ a. Unit {0}) (over_arms faultless as') i (whole l) → ArmStays k.engine as' i ⊎ ArmsChange k as'
  arms_decided k l no_arms i h = inl (tt, tt)
  arms_decided k l (arm c a as') zero h =
      unless_other (other (λ z. (arm z.0 a as', arms_more z.1 same_expr (same_arms as'))) (expr_decided k l c h.0)) (λ x.
      unless_other (other (λ z. (arm c z.0 as', arms_more same_expr z.1 (same_arms as'))) (expr_decided k l a h.1)) (λ y.
      inl ((x.0, y.0), (x.1, y.1))))
  arms_decided k l (arm c a as') (suc i) h = other (λ z. (arm c a z.0, arms_more same_expr same_expr z.1)) (arms_decided k l as' i h)

  -- a left side
  target_decided : (k : Context) (l : Bool) (e : Expr) → is_left_side e ≡ true → over_expr faultless e (whole l) → over_expr (every (IsIrreducibleNode k.engine)) e ⊎ ((e' : Expr) × TargetTo k false true e e')
  target_decided k l (Variable ns x) q h = inl (record { alone = tt; lists = tt; expressions = tt }, tt)
  target_decided k l ThisPtr q h = inl (record { alone = tt; lists = tt; expressions = tt }, tt)
  target_decided k l (Dot f e r) q h =
      other (λ z. (z.0, in_target z.1))
      (dot_parts k f e r (expr_decided k l e h.1.0) (steps_by k l true f.breaks r (meets ChainShape (is_rest true f.breaks r) h.0) h.1.1 (expr_decided k l r) (member_decided k l r) (rest_decided k l true r)))
  target_decided k l (Index f e r) q h =
      other (λ z. (z.0, in_target z.1))
      (index_parts k f e r (expr_decided k l e h.1.0) (steps_by k l false f.breaks r (meets ChainShape (is_rest false f.breaks r) h.0) h.1.1 (expr_decided k l r) (member_decided k l r) (rest_decided k l false r)))
  target_decided k l _ q h = impossible q

  stmt_decided : (k : Context) (w l : Bool) (s : Stmt) → over_stmt faultless s (whole l) → StmtStays k.engine s ⊎ StmtChanges k w s
  stmt_decided k w l (If c a b) h =
      if_by k w c a b (expr_decided k l c h.1.0)
      (list_by k (Inside w) true a (items_decided (open_list k) (Inside w) true l a h.1.1.0))
      (list_by k (Inside w) true b (items_decided (open_list k) (Inside w) true l b h.1.1.1))
  stmt_decided k w l (Switch e as' t) h = switch_by k w e as' t (meets SwitchFault (is_table as' t) h.0) (expr_decided k l e h.1.0) (each_listed k.engine l as' (listed t) h.1.1 (λ i x. arms_decided k l as' i x))
  stmt_decided k w l (While e b) h = while_by k w e b (expr_decided k l e h.1.0) (list_by k (Inside false) true b (items_decided (open_list k) (Inside false) true true b h.1.1))
  stmt_decided k w l (Do negated exported e b) h =
      unless_other (other (λ z. (Do negated exported z.0 b, in_do z.1 same_stmts)) (expr_decided k l e h.1.0)) (λ x.
      first (λ y. (record { alone = tt; lists = y.0; expressions = (x.0, no_answers k b) }, (x.1, y.1)))
      (other (λ z. (Do negated exported e z.0, in_do same_expr z.1)) (list_by k (Inside false) true b (items_decided (open_list k) (Inside false) true true b h.1.1))))
  stmt_decided k w l (For x i e b) h =
      let inside = naming x (naming_some i k) in
      unless_other (other (λ z. (For x i z.0 b, in_for z.1 same_stmts)) (expr_decided k l e h.1.0)) (λ y.
      first (λ v. (record { alone = tt; lists = v.0; expressions = (y.0, no_answers k b) }, (y.1, v.1)))
      (other (λ z. (For x i e z.0, in_for same_expr z.1)) (of_engine b (engine_some i k) (list_by inside (Inside false) true b (items_decided (open_list inside) (Inside false) true true b h.1.1)))))
  stmt_decided k w l (Var constant exported x e) h = first (λ y. (record { alone = tt; lists = tt; expressions = y.0 }, y.1)) (other (λ z. (Var constant exported x z.0, in_var z.1)) (expr_decided k l e h.1))
  stmt_decided k w l (Assignment op t e) h =
      unless_other (other (λ z. (Assignment op z.0 e, in_assignment z.1 same_expr)) (target_decided k l t (meets AssignTarget (is_left_side t) h.0) h.1.0)) (λ x.
      first (λ y. (record { alone = tt; lists = tt; expressions = y.0 }, (x, y.1))) (other (λ z. (Assignment op t z.0, in_assignment same_target z.1)) (expr_decided k l e h.1.1)))
  stmt_decided k w l (FnCallStmt c es) h = call_statement_by k w c es (exprs_decided k l es h.1)
  stmt_decided k w l (Block ss) h =
      first (λ x. (record { alone = tt; lists = x.0; expressions = no_answers k ss }, x.1))
      (other (λ z. (Block z.0, in_block z.1)) (list_by k (Inside w) true ss (items_decided (open_list k) (Inside w) true l ss h.1)))
  stmt_decided k w l (TryCatch x a b) h =
      let inside = naming_catch (catch_name x) k in
      unless_other (other (λ z. (TryCatch x z.0 b, in_try z.1 same_stmts)) (list_by k (Inside false) true a (items_decided (open_list k) (Inside false) true l a h.1.0))) (λ y.
      first (λ v. (record { alone = tt; lists = (y.0, v.0); expressions = (no_answers k a, no_answers k b) }, (y.1, v.1)))
      (other (λ z. (TryCatch x a z.0, in_try same_stmts z.1)) (of_engine b (engine_catch (catch_name x) k) (list_by inside (Inside false) true b (items_decided (open_list inside) (Inside false) true l b h.1.1)))))
  stmt_decided k w l (ExprStmt e) h = first (λ x. (record { alone = tt; lists = tt; expressions = x.0 }, x.1)) (other (λ z. (ExprStmt z.0, in_expression z.1)) (expr_decided k l e h.1))
  stmt_decided k w l (BreakLoop breaks exported m) h = first (λ x. (record { alone = tt; lists = tt; expressions = x.0 }, x.1)) (other (λ z. (BreakLoop breaks exported z.0, in_break z.1)) (maybe_decided k l m h.1))
  stmt_decided k w l (Return throws exported m) h = first (λ x. (record { alone = tt; lists = tt; expressions = x.0 }, x.1)) (other (λ z. (Return throws exported z.0, in_return z.1)) (maybe_decided k l m h.1))
  stmt_decided k w l (Import e x) h = first (λ y. (record { alone = tt; lists = tt; expressions = y.0 }, y.1)) (other (λ z. (Import z.0 x, in_import z.1)) (expr_decided k l e h.1))
  stmt_decided k w l _ h = inl (record { alone = tt; lists = tt; expressions = tt }, tt)

  -- the statements of a list
  items_decided : (k : ListContext) (m : ListKind) (u l : Bool) (ss : Stmts) → over_stmts faultless ss (whole l) → StmtsStay k.context.engine ss ⊎ ListChanges k m u ss
  items_decided k m u l no_stmts h = inl tt
  items_decided k m u l (stmt s ss) h =
      unless_other (other (λ z. (stmt z.0 ss, in_head z.1)) (stmt_decided k.context (wanted_before (wanted m) ss) l s h.0)) (λ x.
      first (λ y. (x, y)) (other (λ z. (stmt s z.0, in_tail z.1)) (items_decided (behind s k) m (is_surely_unit s) l ss h.1)))

-- ---- bodies and scripts

-- a body is irreducible, or a step sets the flag
pub body_decided : (k : Context) (ss : Stmts) → over_stmts faultless ss outermost → IsIrreducibleBody k.engine ss ⊎ ListChanges (open_list k) context.Whole true ss
body_decided k ss h =
    unless_other (list_by k context.Whole true ss (items_decided (open_list k) context.Whole true false ss h)) (λ x.
    first (λ q. record { list = x.0; returns_nothing = q; nodes = x.1 }) (unless_true (ends_in_return ss) (λ q. return_goes ss q false)))

pub finished_body : (k : Context) (ss : Stmts) → over_stmts faultless ss outermost → IsFinished k ss → IsIrreducibleBody k.engine ss
finished_body k ss h f = by (body_decided k ss h) where
  by : IsIrreducibleBody k.engine ss ⊎ ListChanges (open_list k) context.Whole true ss → IsIrreducibleBody k.engine ss
  by (inl x) = x
  by (inr z) = absurd (let e : weight z.0 ≡ weight ss = ap weight (f false true z.0 z.1) in let l : weight z.0 + 1 ≤ weight ss = stmts_fall z.1 in omega (arith, e, l))

finished_bodies : (k : Context) (fs : List Function) → AreWellFormedFunctions fs → AreFinished k fs → AreIrreducibleBodies k.engine fs
finished_bodies k [] h f = tt
finished_bodies k (g ∷ gs) h f = (finished_body (naming_all g.params k) g.body h.1 f.0, finished_bodies k gs h.2 f.1)

-- what is made of finished statements, and of finished bodies, is these again
bodies_stay : {k : Context} {fs gs : List Function} → AreFinished k fs → FunctionsTo k fs gs → gs ≡ fs
bodies_stay h no_functions = refl
bodies_stay h (functions {f = f} {f' = g} {fs = fs} {fs' = gs} p ps) =
    let same : g ≡ f = λ i. record { name = p.name i; this_type = p.this_type i; params = p.params i; body = h.0 true true g.body p.body i } in
    ap (λ x. x ∷ gs) same ∙ ap (λ l. f ∷ l) (bodies_stay h.1 ps)

pub finished_stays : FinishedStays
finished_stays engine top inner p p' h to = λ i. record { statements = h.statements true true p'.statements to.statements i; functions = bodies_stay h.functions to.functions i }

pub finished_is_irreducible : FinishedIsIrreducible
finished_is_irreducible engine top inner p h f = record {
  statements = finished_body (record { engine = engine; known = top }) p.statements h.0 f.statements;
  functions = finished_bodies (record { engine = engine; known = inner }) p.functions h.1 f.functions;
}
