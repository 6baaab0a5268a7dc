-- What closes under the constructs of the language holds of the act of each tree all of whose nodes it allows.
use Rattle.std.proofs.Common.{◌≡◌, ℕ, zero, suc, Bool, true, false, cond, List, [], ◌∷◌, Option, Some, None}
use Rattle.std.specs.Prelude.{◌&&◌, slice_get}
use Rattle.rhai_base.specs.Value.{Text, Value, UnitV, TextV}
use Rattle.rhai_base.specs.Operators.{Operator}
use Rattle.theory_meaning.specs.Act.{World, EntryKind, IsExport, OfName, Resolve, Returns, Breaks, Continues, Throws, Leaves, Stuck, Root, OfThis, Act, Stop, Fail, Read, Scoped, Acts, Only, Named}
use Rattle.theory_meaning.specs.ActForms.{give, ◌>>=◌, choose, truth, branch, if_true, then_line, of_constant}
use Rattle.theory_meaning.specs.Calls.{called}
use Rattle.theory_meaning.specs.Chains.{Access, OfProperty, OfIndex, OfMethod, applied, assign_last, assign_root}
use Rattle.theory_meaning.specs.Control.{ArmActs, try_arm, first_arm, answer_of, default_of, chosen, switch_on, do_loop, for_all, try_of}
use Rattle.theory_meaning.specs.Core as core
use Rattle.theory_meaning.specs.Desugar.{variable, alias, name_target, root_of, based, ends_in_call, part_target, guard_by, try_by, callee_by, return_kind, break_kind, member_of, steps_of, target_of, core_expr, core_exprs, core_pairs, core_arms, core_maybe, core_stmt, core_stmts, is_global, in_module}
use Rattle.theory_meaning.specs.Meaning.{module_known, module_at, exporting, act, with_args, with_pairs, both, either, first_some, at_base, access, steps, assign_steps, assign, arm_acts, loop, deed, line, acts, exit, wanted_value}
use Rattle.theory_meaning.specs.Places.{Current, refreshed}
use Rattle.theory_meaning.specs.Plain.{all_true}
use Rattle.theory_meaning.specs.Shape.{is_unit, is_map, is_chain, is_callable, is_left_side, is_table, catch_name}
use Rattle.theory_meaning.specs.Tree.{Callee, PropertyNames, ChainFlags, SwitchTable, Expr, DynamicConstant, BoolConstant, IntegerConstant, CharConstant, StringConstant, UnitConstant, InterpolatedString, ArrayOf, MapOf, Variable, ThisPtr, Property, MethodCall, BlockExpr, FnCall, Dot, Index, And, Or, Coalesce, Exprs, no_exprs, expr, count_exprs, Pairs, no_pairs, pair, MaybeExpr, no_expr, an_expr, Arms, no_arms, arm, Stmt, Noop, If, Switch, While, Do, For, Var, Assignment, FnCallStmt, Block, TryCatch, ExprStmt, BreakLoop, Return, Import, Export, Share, Stmts, no_stmts, stmt, FloatConstant}
use Rattle.theory_meaning.specs.Walk.{Walk, Node, OfExpr, OfStmt, parts_of_expr, parts_of_stmt, over_expr, over_exprs, over_pairs, over_maybe, over_arms, over_stmt, over_stmts, arm_at, arms_at, arm_of_default, listed}
use Rattle.theory_meaning.proofs.PureTrees.{split}
use Rattle.theory_rewriting.proofs.rules.Arms.{AllArms, all_chosen, all_default}

-- a step whose arguments are evaluated
pub record Applies (w : World) (C : Act → Type 0) (r : Access) : Type 0 where
  pub by : (c : Current) {f : Current → Act} → ((d : Current) → C (f d)) → C (applied w r c f)

-- what is written
pub record Writes (w : World) (C : Act → Type 0) : Type 0 where
  pub root : (o : Option Operator) (v : Value) (r : Root) → C (assign_root w o v r)
  pub last : (o : Option Operator) (v : Value) (r : Access) (c : Current) → C (assign_last w o v r c)

-- C is kept by acts, D by lists; P: the nodes that are allowed
pub record Closed (w : World) (C : Act → Type 0) (D : Acts → Type 0) (P : Node → Bool) : Type 0 where
  pub gives : (v : Value) → C (give v)
  pub fail : (f : Stuck) → C (Fail f)
  pub read : (r : Root) → C (Read r)
  pub resolve : (a : Text) {f : Text → Act} → ((m : Text) → C (f m)) → C (Resolve a f)
  pub bind : {a : Act} {f : Value → Act} → C a → ((v : Value) → C (f v)) → C (a >>= f)
  pub scoped : {p : Acts} → D p → C (Scoped p)
  pub only : {a : Act} → C a → D (Only a)
  pub line : {a : Act} {f : Value → Acts} → C a → ((v : Value) → D (f v)) → D (then_line a f)
  pub named : (x : Text) (b : EntryKind) (v : Value) {p : Acts} → D p → D (Named x b v p)
  pub refreshes : (c : Current) {f : Current → Act} → ((d : Current) → C (f d)) → C (refreshed c f)
  pub property : (p : PropertyNames) → Applies w C (OfProperty p)
  pub index : (i : Value) → Applies w C (OfIndex i)
  pub method : (f : Callee) (es : Exprs) → P (OfExpr (MethodCall f es)) ≡ true → (vs : List Value) → Applies w C (OfMethod f.name vs)
  pub call : (f : Callee) (es : Exprs) → P (OfExpr (FnCall f es)) ≡ true → (vs : List Value) → C (called w (callee_by f f.token) vs)
  pub call_statement : (f : Callee) (es : Exprs) → P (OfStmt (FnCallStmt f es)) ≡ true → (vs : List Value) → C (called w (callee_by f f.token) vs)
  pub writes : (o : Option Operator) (l e : Expr) → P (OfStmt (Assignment o l e)) ≡ true → Writes w C
  pub always : {p : Acts} → D p → C (loop w core.Always p)
  pub when : (e : core.Expr) {p : Acts} → C (act w e) → D p → C (loop w (core.When e) p)
  pub again : (n : Bool) {p : Acts} {a : Act} → C a → D p → C (do_loop n p a)
  pub each : (x : Text) (i : Option Text) {p : Acts} → D p → (v : Value) → C (for_all x i p v)
  pub tries : (x : Option Text) {p q : Acts} → D p → D q → C (try_of p x q)
  pub returns : (v : Value) → C (Stop (Leaves (Returns v)))
  pub throws : (v : Value) → C (Stop (Leaves (Throws v)))
  pub continues : C (Stop (Leaves Continues))
  pub breaks : C (give UnitV >>= λ v. Stop (Leaves (Breaks v)))
  pub breaks_with : (o : Bool) (e : Expr) → P (OfStmt (BreakLoop true o (an_expr e))) ≡ true → (v : Value) → C (Stop (Leaves (Breaks v)))

module _ (w : World) (C : Act → Type 0) (D : Acts → Type 0) (P : Node → Bool) (g : Closed w C D P) where
  abbrev W : Walk Bool
  W = all_true P

  own : (e : Expr) → over_expr W e ≡ true → P (OfExpr e) ≡ true
  own e h = (split (P (OfExpr e)) (parts_of_expr W e) h).0

  inner : (e : Expr) → over_expr W e ≡ true → parts_of_expr W e ≡ true
  inner e h = (split (P (OfExpr e)) (parts_of_expr W e) h).1

  own_stmt : (s : Stmt) → over_stmt W s ≡ true → P (OfStmt s) ≡ true
  own_stmt s h = (split (P (OfStmt s)) (parts_of_stmt W s) h).0

  inner_stmt : (s : Stmt) → over_stmt W s ≡ true → parts_of_stmt W s ≡ true
  inner_stmt s h = (split (P (OfStmt s)) (parts_of_stmt W s) h).1

  chosen_held : (b : Bool) {a c : Act} → C a → C c → C (choose b a c)
  chosen_held true h k = h
  chosen_held false h k = k

  branch_held : (o : Option Bool) {a c : Act} → C a → C c → C (branch o a c)
  branch_held None h k = g.fail _
  branch_held (Some b) h k = chosen_held b h k

  if_held : (v : Value) {a c : Act} → C a → C c → C (if_true v a c)
  if_held v h k = branch_held (truth v) h k

  -- ---- nodes with a test

  expr_held_or_ill : (b : Bool) (e : core.Expr) → C (act w e) → C (act w (cond b e core.Ill))
  expr_held_or_ill true e h = h
  expr_held_or_ill false e h = g.fail _

  deed_held_or_ill : (b : Bool) (d : core.Deed) → C (deed w d) → C (deed w (cond b d core.IllDeed))
  deed_held_or_ill true d h = h
  deed_held_or_ill false d h = g.fail _

  constant_held : (b : Bool) (v : Value) → C (act w (cond b core.Ill (core.Constant v)))
  constant_held true v = g.fail _
  constant_held false v = g.gives v

  module_held : (o : Option Value) → C (of_constant o)
  module_held None = g.fail _
  module_held (Some v) = g.gives v

  variable_held : (ns : List Text) (x : Text) → C (act w (variable ns x))
  variable_held [] x = g.read _
  variable_held (n ∷ []) x = in_module_held (is_global n) where
    in_module_held : (b : Bool) → C (act w (in_module b n x))
    in_module_held true = g.read _
    in_module_held false = g.resolve n (λ m. module_held _)
  variable_held (n ∷ m ∷ ns) x = g.resolve n (λ a. module_held _)

  known_held : (o : Option Text) → C (module_known o)
  known_held None = g.fail _
  known_held (Some m) = g.gives _

  path_held : (v : Value) → C (module_at w v)
  path_held (TextV p) = known_held (w.host.module_of p)
  path_held _ = g.fail _

  -- ---- chains

  record HeldStep (p : core.Step) : Type 0 where
    pub reaches : {next : Access → Act} → ((r : Access) → Applies w C r → C (next r)) → C (access w p next)

  record HeldSteps (sts : core.Steps) : Type 0 where
    pub walks : (c : Current) → C (steps w sts c)
    pub assigns : Writes w C → (o : Option Operator) (v : Value) (c : Current) → C (assign_steps w o v sts c)

  last_held : (o : Bool) (p : core.Step) → HeldStep p → HeldSteps (core.last o p)
  last_held o p h = record {
    walks = λ c. chosen_held _ (g.gives UnitV) (h.reaches (λ r a. g.refreshes c (λ d. a.by d (λ x. g.gives _))));
    assigns = λ q op v c. chosen_held _ (g.gives UnitV) (h.reaches (λ r a. g.refreshes c (λ d. q.last op v r d)));
  }

  more_held : (o : Bool) (p : core.Step) (sts : core.Steps) → HeldStep p → HeldSteps sts → HeldSteps (core.more o p sts)
  more_held o p sts h k = record {
    walks = λ c. chosen_held _ (g.gives UnitV) (h.reaches (λ r a. g.refreshes c (λ d. a.by d (λ x. k.walks x))));
    assigns = λ q op v c. chosen_held _ (g.gives UnitV) (h.reaches (λ r a. g.refreshes c (λ d. a.by d (λ x. k.assigns q op v x))));
  }

  either_steps : (b : Bool) (p q : core.Steps) → HeldSteps p → HeldSteps q → HeldSteps (cond b p q)
  either_steps true p q h k = h
  either_steps false p q h k = k

  either_step : (b : Bool) (p q : core.Step) → HeldStep p → HeldStep q → HeldStep (cond b p q)
  either_step true p q h k = h
  either_step false p q h k = k

  ill_step : HeldStep core.IllStep
  ill_step = record { reaches = λ h. g.fail _ }

  index_held : (e : core.Expr) → C (act w e) → HeldStep (core.Index e)
  index_held e h = record { reaches = λ k. g.bind h (λ v. k _ (g.index v)) }

  base_held : (o : Option Root) (e : core.Expr) {next : Current → Act} → C (act w e) → ((c : Current) → C (next c)) → C (at_base w (based o e) next)
  base_held None e h k = g.bind h (λ v. k _)
  base_held (Some r) e h k = g.bind (g.read r) (λ v. k _)

  part_held : (o : Option Root) (b : Bool) (sts : core.Steps) → HeldSteps sts → Writes w C → (op : Option Operator) (v : Value) → C (assign w op (part_target o b sts) v)
  part_held None b sts h q op v = g.fail _
  part_held (Some r) true sts h q op v = g.fail _
  part_held (Some r) false sts h q op v = g.bind (g.read r) (λ u. h.assigns q op v _)

  target_or_ill : (b : Bool) (t : core.Target) (op : Option Operator) (v : Value) → C (assign w op t v) → C (assign w op (cond b t core.IllTarget) v)
  target_or_ill true t op v h = h
  target_or_ill false t op v h = g.fail _

  name_held : (ns : List Text) (x : Text) → Writes w C → (op : Option Operator) (v : Value) → C (assign w op (name_target ns x) v)
  name_held [] x q op v = q.root op v _
  name_held (n ∷ ns) x q op v = g.fail _

  -- ---- `switch`

  record HeldArm (b : Bool) (a : ArmActs) : Type 0 where
    pub guards : b ≡ true → C a.guard
    pub answers : b ≡ true → C a.answer

  data HeldArms : List Bool → List ArmActs → Type 0 where
    no_arm : HeldArms [] []
    one_arm : {b : Bool} {a : ArmActs} {bs : List Bool} {as' : List ArmActs} → HeldArm b a → HeldArms bs as' → HeldArms (b ∷ bs) (a ∷ as')

  try_held : {bs : List Bool} {as' : List ArmActs} → HeldArms bs as' → (i : ℕ) → arm_at true bs i ≡ true → (next : Act) → C next → C (try_arm (slice_get as' i) next)
  try_held no_arm i h next k = k
  try_held (one_arm p ps) zero h next k = g.bind (p.guards h) (λ v. if_held v (p.answers h) k)
  try_held (one_arm p ps) (suc i) h next k = try_held ps i h next k

  first_held : {bs : List Bool} {as' : List ArmActs} → HeldArms bs as' → (is : List ℕ) → AllArms (λ i. arm_at true bs i ≡ true) is → (d : Act) → C d → C (first_arm as' is d)
  first_held p [] h d k = k
  first_held {bs} {as'} p (i ∷ is) h d k = try_held p i h.0 (first_arm as' is d) (first_held p is h.1 d k)

  answer_held : {bs : List Bool} {as' : List ArmActs} → HeldArms bs as' → (i : ℕ) → arm_at true bs i ≡ true → C (answer_of (slice_get as' i))
  answer_held no_arm i h = g.gives UnitV
  answer_held (one_arm p ps) zero h = p.answers h
  answer_held (one_arm p ps) (suc i) h = answer_held ps i h

  default_held : {bs : List Bool} {as' : List ArmActs} → HeldArms bs as' → (o : Option ℕ) → AllArms (λ i. arm_at true bs i ≡ true) (arm_of_default o) → C (default_of as' o)
  default_held p None h = g.gives UnitV
  default_held p (Some i) h = answer_held p i h.0

  listed_held : (bs : List Bool) (is : List ℕ) → arms_at true (λ p q. p && q) bs is ≡ true → AllArms (λ i. arm_at true bs i ≡ true) is
  listed_held bs [] h = tt
  listed_held bs (i ∷ is) h = let z = split (arm_at true bs i) (arms_at true (λ p q. p && q) bs is) h in (z.0, listed_held bs is z.1)

  switch_held : {bs : List Bool} {as' : List ArmActs} → HeldArms bs as' → (t : SwitchTable) → arms_at true (λ p q. p && q) bs (listed t) ≡ true → (v : Value) → C (switch_on as' t v)
  switch_held {bs} {as'} p t h v =
      let z = listed_held bs (listed t) h in
      first_held p (chosen t v) (all_chosen (λ i. arm_at true bs i ≡ true) t v z) (default_of as' t.default) (default_held p t.default (all_default (λ i. arm_at true bs i ≡ true) t z))

  -- ---- statements

  data HeldStmt : core.Stmt → Type 0 where
    held_deed : {d : core.Deed} → C (deed w d) → HeldStmt (core.Does d)
    held_var : {c : EntryKind} {b : Bool} {x : Text} {e : core.Expr} → C (act w e) → HeldStmt (core.Var c b x e)

  exporting_held : (b : Bool) (x : Text) (v : Value) {p : Acts} → D p → D (exporting b x v p)
  exporting_held true x v h = g.named x IsExport v h
  exporting_held false x v h = h

  line_held : {l : core.Stmt} → HeldStmt l → {f : Value → Acts} → ((v : Value) → D (f v)) → D (line w l f)
  line_held (held_deed h) k = g.line h (λ v. k v)
  line_held (held_var {c = c} {b = b} {x = x} h) k = g.line h (λ v. g.named x c v (exporting_held b x v (k UnitV)))

  alias_held : (x : Text) (e : core.Expr) → C (act w e) → HeldStmt (alias x e)
  alias_held [] e h = held_deed (g.bind (g.bind h path_held) (λ v. g.gives UnitV))
  alias_held (c ∷ cs) e h = held_var (g.bind h path_held)

  while_held : (e : Expr) (x : core.Expr) {p : Acts} → C (act w x) → D p → C (loop w (guard_by e x) p)
  while_held UnitConstant x q h = g.always h
  while_held _ x q h = g.when x q h

  try_or_ill : (o : Option (Option Text)) (a b : core.Stmts) → D (acts w false a UnitV) → D (acts w false b UnitV) → C (deed w (try_by o a b))
  try_or_ill None a b h k = g.fail _
  try_or_ill (Some x) a b h k = g.tries x h k

  return_held : (b : Bool) {a : Act} → C a → C (a >>= λ v. Stop (Leaves (exit (return_kind b) v)))
  return_held true h = g.bind h (λ v. g.throws v)
  return_held false h = g.bind h (λ v. g.returns v)

  break_held : (l b o : Bool) (m : MaybeExpr) → P (OfStmt (BreakLoop b o m)) ≡ true → C (act w (core_maybe l m)) → C (deed w (core.Leave (break_kind b) (core_maybe l m)))
  break_held l true o no_expr c h = g.breaks
  break_held l true o (an_expr e) c h = g.bind h (λ v. g.breaks_with o e c v)
  break_held l false o m c h = g.bind h (λ v. g.continues)

  mutual
    pub expr_held : (l : Bool) (e : Expr) → over_expr W e ≡ true → C (act w (core_expr l e))
    expr_held l (DynamicConstant v) h = constant_held (is_unit v) v
    expr_held l (BoolConstant b) h = g.gives _
    expr_held l (IntegerConstant n) h = g.gives _
    expr_held l (FloatConstant x) h = g.gives _
    expr_held l (CharConstant c) h = g.gives _
    expr_held l (StringConstant t) h = g.gives _
    expr_held l UnitConstant h = g.gives _
    expr_held l (InterpolatedString es) h = args_held l es (inner (InterpolatedString es) h) (λ vs. g.gives _)
    expr_held l (ArrayOf es) h = args_held l es (inner (ArrayOf es) h) (λ vs. g.gives _)
    expr_held l (MapOf ps template) h = expr_held_or_ill (is_map template ps) _ (pairs_held l ps (inner (MapOf ps template) h) (λ vs. g.gives _))
    expr_held l (Variable ns x) h = variable_held ns x
    expr_held l ThisPtr h = g.read OfThis
    expr_held l (Property p) h = g.fail _
    expr_held l (MethodCall c es) h = g.fail _
    expr_held l (BlockExpr ss) h = g.scoped (list_held l true ss (inner (BlockExpr ss) h) UnitV)
    expr_held l (FnCall c es) h = expr_held_or_ill (is_callable c (count_exprs es)) _ (args_held l es (inner (FnCall c es) h) (λ vs. g.call c es (own (FnCall c es) h) vs))
    expr_held l (Dot k a r) h =
        let z = split (over_expr W a) (over_expr W r) (inner (Dot k a r) h) in
        let q = steps_held l true k (member_of l r) r (member_held l r z.1) z.1 in
        expr_held_or_ill (is_chain true k r) _ (base_held (root_of a) _ (expr_held l a z.0) (λ c. q.walks c))
    expr_held l (Index k a r) h =
        let z = split (over_expr W a) (over_expr W r) (inner (Index k a r) h) in
        let q = steps_held l false k (core.Index (core_expr l r)) r (index_held _ (expr_held l r z.1)) z.1 in
        expr_held_or_ill (is_chain false k r) _ (base_held (root_of a) _ (expr_held l a z.0) (λ c. q.walks c))
    expr_held l (And es) h = both_held l es (inner (And es) h)
    expr_held l (Or es) h = either_held l es (inner (Or es) h)
    expr_held l (Coalesce es) h = some_held l es (inner (Coalesce es) h)

    member_held : (l : Bool) (e : Expr) → over_expr W e ≡ true → HeldStep (member_of l e)
    member_held l (Property p) h = record { reaches = λ k. k _ (g.property p) }
    member_held l (MethodCall c es) h = either_step (is_callable c (count_exprs es)) _ _ (record { reaches = λ k. args_held l es (inner (MethodCall c es) h) (λ vs. k _ (g.method c es (own (MethodCall c es) h) vs)) }) ill_step
    member_held l _ h = ill_step

    steps_held : (l dot : Bool) (k : ChainFlags) (p : core.Step) (e : Expr) → HeldStep p → over_expr W e ≡ true → HeldSteps (steps_of l dot k p e)
    steps_held l dot k p (Dot m a r) j h =
        let z = split (over_expr W a) (over_expr W r) (inner (Dot m a r) h) in
        either_steps k.breaks _ _ (last_held k.negated p j)
        (more_held k.negated _ _ (either_step dot _ _ (member_held l a z.0) (index_held _ (expr_held l a z.0))) (steps_held l true m (member_of l r) r (member_held l r z.1) z.1))
    steps_held l dot k p (Index m a r) j h =
        let z = split (over_expr W a) (over_expr W r) (inner (Index m a r) h) in
        either_steps k.breaks _ _ (last_held k.negated p j)
        (more_held k.negated _ _ (either_step dot _ _ (member_held l a z.0) (index_held _ (expr_held l a z.0))) (steps_held l false m (core.Index (core_expr l r)) r (index_held _ (expr_held l r z.1)) z.1))
    steps_held l dot k p _ j h = last_held k.negated p j

    target_held : (l : Bool) (e : Expr) → over_expr W e ≡ true → Writes w C → (op : Option Operator) (v : Value) → C (assign w op (target_of l e) v)
    target_held l (Variable ns x) h q op v = name_held ns x q op v
    target_held l ThisPtr h q op v = q.root op v OfThis
    target_held l (Dot k a r) h q op v =
        let z = split (over_expr W a) (over_expr W r) (inner (Dot k a r) h) in
        target_or_ill (is_chain true k r) _ op v (part_held (root_of a) (ends_in_call true k.breaks r) _ (steps_held l true k (member_of l r) r (member_held l r z.1) z.1) q op v)
    target_held l (Index k a r) h q op v =
        let z = split (over_expr W a) (over_expr W r) (inner (Index k a r) h) in
        target_or_ill (is_chain false k r) _ op v (part_held (root_of a) (ends_in_call false k.breaks r) _ (steps_held l false k (core.Index (core_expr l r)) r (index_held _ (expr_held l r z.1)) z.1) q op v)
    target_held l _ h q op v = g.fail _

    args_held : (l : Bool) (es : Exprs) → over_exprs W es ≡ true → {f : List Value → Act} → ((vs : List Value) → C (f vs)) → C (with_args w (core_exprs l es) f)
    args_held l no_exprs h k = k []
    args_held l (expr e es) h k = let z = split (over_expr W e) (over_exprs W es) h in g.bind (expr_held l e z.0) (λ v. args_held l es z.1 (λ vs. k (v ∷ vs)))

    pairs_held : (l : Bool) (ps : Pairs) → over_pairs W ps ≡ true → {f : List (Text × Value) → Act} → ((vs : List (Text × Value)) → C (f vs)) → C (with_pairs w (core_pairs l ps) f)
    pairs_held l no_pairs h k = k []
    pairs_held l (pair n e ps) h k = let z = split (over_expr W e) (over_pairs W ps) h in g.bind (expr_held l e z.0) (λ v. pairs_held l ps z.1 (λ vs. k ((n, v) ∷ vs)))

    both_held : (l : Bool) (es : Exprs) → over_exprs W es ≡ true → C (both w (core_exprs l es))
    both_held l no_exprs h = g.gives _
    both_held l (expr e es) h = let z = split (over_expr W e) (over_exprs W es) h in g.bind (expr_held l e z.0) (λ v. if_held v (both_held l es z.1) (g.gives _))

    either_held : (l : Bool) (es : Exprs) → over_exprs W es ≡ true → C (either w (core_exprs l es))
    either_held l no_exprs h = g.gives _
    either_held l (expr e es) h = let z = split (over_expr W e) (over_exprs W es) h in g.bind (expr_held l e z.0) (λ v. if_held v (g.gives _) (either_held l es z.1))

    some_held : (l : Bool) (es : Exprs) → over_exprs W es ≡ true → C (first_some w (core_exprs l es))
    some_held l no_exprs h = g.gives _
    some_held l (expr e es) h = let z = split (over_expr W e) (over_exprs W es) h in g.bind (expr_held l e z.0) (λ v. chosen_held (is_unit v) (some_held l es z.1) (g.gives v))

    maybe_held : (l : Bool) (m : MaybeExpr) → over_maybe W m ≡ true → C (act w (core_maybe l m))
    maybe_held l no_expr h = g.gives UnitV
    maybe_held l (an_expr e) h = expr_held l e h

    arms_held : (l : Bool) (as' : Arms) → HeldArms (over_arms W as') (arm_acts w (core_arms l as'))
    arms_held l no_arms = no_arm
    arms_held l (arm c a as') = one_arm (record {
      guards = λ h. expr_held l c (split (over_expr W c) (over_expr W a) h).0;
      answers = λ h. expr_held l a (split (over_expr W c) (over_expr W a) h).1;
    }) (arms_held l as')

    stmt_held : (l : Bool) (s : Stmt) → over_stmt W s ≡ true → HeldStmt (core_stmt l s)
    stmt_held l Noop h = held_deed (g.gives UnitV)
    stmt_held l (If c a b) h =
        let y = split (over_expr W c) (over_stmts W a && over_stmts W b) (inner_stmt (If c a b) h) in
        let z = split (over_stmts W a) (over_stmts W b) y.1 in
        held_deed (g.bind (expr_held l c y.0) (λ v. if_held v (g.scoped (list_held l true a z.0 UnitV)) (g.scoped (list_held l true b z.1 UnitV))))
    stmt_held l (Switch e as' t) h =
        let z = split (over_expr W e) (arms_at true (λ p q. p && q) (over_arms W as') (listed t)) (inner_stmt (Switch e as' t) h) in
        held_deed (deed_held_or_ill (is_table as' t) _ (g.bind (expr_held l e z.0) (λ v. switch_held (arms_held l as') t z.1 v)))
    stmt_held l (While e b) h = let z = split (over_expr W e) (over_stmts W b) (inner_stmt (While e b) h) in held_deed (while_held e _ (expr_held l e z.0) (list_held true false b z.1 UnitV))
    stmt_held l (Do n o e b) h = let z = split (over_expr W e) (over_stmts W b) (inner_stmt (Do n o e b) h) in held_deed (g.again n (expr_held l e z.0) (list_held true false b z.1 UnitV))
    stmt_held l (For x i e b) h = let z = split (over_expr W e) (over_stmts W b) (inner_stmt (For x i e b) h) in held_deed (g.bind (expr_held l e z.0) (λ v. g.each x i (list_held true false b z.1 UnitV) v))
    stmt_held l (Var c exported x e) h = held_var (expr_held l e (inner_stmt (Var c exported x e) h))
    stmt_held l (Assignment op a e) h =
        let z = split (over_expr W a) (over_expr W e) (inner_stmt (Assignment op a e) h) in
        let q = g.writes op a e (own_stmt (Assignment op a e) h) in
        held_deed (deed_held_or_ill (is_left_side a) _ (g.bind (expr_held l e z.1) (λ v. target_held l a z.0 q op v)))
    stmt_held l (FnCallStmt c es) h = held_deed (expr_held_or_ill (is_callable c (count_exprs es)) _ (args_held l es (inner_stmt (FnCallStmt c es) h) (λ vs. g.call_statement c es (own_stmt (FnCallStmt c es) h) vs)))
    stmt_held l (Block ss) h = held_deed (g.scoped (list_held l true ss (inner_stmt (Block ss) h) UnitV))
    stmt_held l (TryCatch x a b) h = let z = split (over_stmts W a) (over_stmts W b) (inner_stmt (TryCatch x a b) h) in held_deed (try_or_ill (catch_name x) _ _ (list_held l false a z.0 UnitV) (list_held l false b z.1 UnitV))
    stmt_held l (ExprStmt e) h = held_deed (expr_held l e (inner_stmt (ExprStmt e) h))
    stmt_held l (BreakLoop b o m) h = held_deed (deed_held_or_ill l _ (break_held l b o m (own_stmt (BreakLoop b o m) h) (maybe_held l m (inner_stmt (BreakLoop b o m) h))))
    stmt_held l (Return b o m) h = held_deed (return_held b (maybe_held l m (inner_stmt (Return b o m) h)))
    stmt_held l (Import e x) h = alias_held x _ (expr_held l e (inner_stmt (Import e x) h))
    stmt_held l (Export x y) h = held_var (g.read (OfName x))
    stmt_held l (Share xs) h = held_deed (g.fail _)

    pub list_held : (l b : Bool) (ss : Stmts) → over_stmts W ss ≡ true → (v : Value) → D (acts w b (core_stmts l ss) v)
    list_held l b no_stmts h v = g.only (g.gives (wanted_value b v))
    list_held l b (stmt s ss) h v = let z = split (over_stmt W s) (over_stmts W ss) h in line_held (stmt_held l s z.0) (λ u. list_held l b ss z.1 u)
