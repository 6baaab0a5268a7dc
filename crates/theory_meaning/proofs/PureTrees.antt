-- What is pure changes nothing, calls nobody, throws nothing, and gives a value or is stuck after some turns.
use Rattle.std.proofs.Common.{◌≡◌, ℕ, zero, suc, Bool, true, false, cond, ◌&&◌, List, [], ◌∷◌, ◌++◌, Option, Some, None, refl, ap, ◌∙◌}
use Rattle.std.specs.Prelude.{slice_get, ◌+ℤ◌, ◌-ℤ◌, pos}
use Rattle.rhai_base.specs.Value.{Text, Value, UnitV, BoolV, TextV, ArrayV, RangeV, RangeInclusiveV, items, is_hashable, same}
use Rattle.theory_meaning.specs.Act.{World, EntryKind, IsExport, WrongKind, UnknownModule, OfName, Act, Stop, Read, Scoped, Leaves, Again, Acts, Only, Named}
use Rattle.theory_meaning.specs.ActForms.{give, unit, if_true, ◌>>=◌, then_line}
use Rattle.theory_meaning.specs.Control.{round, ArmActs, holds, ranges_with, case_for, or_ranges, chosen, try_arm, first_arm, answer_of, default_of, switch_on, size, for_all, do_loop}
use Rattle.theory_meaning.specs.Core as core
use Rattle.theory_meaning.specs.Desugar.{core_expr, core_exprs, core_pairs, core_arms, core_stmt, core_stmts, guard_by, try_by, alias}
use Rattle.theory_meaning.specs.Laws.{Gave}
use Rattle.theory_meaning.specs.Meaning.{module_known, module_at, exporting, act, with_args, with_pairs, both, either, first_some, arm_acts, loop, deed, acts, wanted_value}
use Rattle.theory_meaning.specs.Queries.{is_literally, ArmPurity, is_pure_arm, listed_arms_are_pure, answer_is_pure, default_is_pure, table_is_pure, is_pure_expr, are_pure_exprs, are_pure_pairs, arm_purities, is_pure, are_pure, is_internally_pure, is_internally_pure_expr, are_internally_pure, is_no_export, exports_nothing}
use Rattle.theory_meaning.specs.Shape.{is_unit, is_map, is_table, catch_name}
use Rattle.theory_meaning.specs.Tree.{SwitchCase, SwitchRange, SwitchTable, Expr, DynamicConstant, BoolConstant, IntegerConstant, FloatConstant, CharConstant, StringConstant, UnitConstant, InterpolatedString, ArrayOf, MapOf, Variable, ThisPtr, Property, MethodCall, BlockExpr, FnCall, Dot, Index, And, Or, Coalesce, Exprs, no_exprs, expr, Pairs, no_pairs, pair, Arms, no_arms, arm, Stmt, Noop, If, Switch, While, Do, For, Var, Block, TryCatch, ExprStmt, Import, Export, Stmts, no_stmts, stmt}
use Rattle.theory_meaning.specs.Plain.{all_true}
use Rattle.theory_meaning.specs.Walk.{over_expr, over_stmt, over_stmts, arm_at, arms_of_cases, arms_of_ranges}
use Rattle.theory_meaning.proofs.PureActs.{Pure, PureList, Calm, CalmList, calm_of, calm_read, calm_only, calm_line, calm_named, p_give, p_fail, p_bind, p_choose, p_if, p_loop, l_only, l_named, l_line, p_round, p_for_each, p_for_count, p_try}

pub split : (a b : Bool) → a && b ≡ true → (a ≡ true) × (b ≡ true)
split true b h = (refl, h)
split false b h = absurd (let z : false ≡ true = h in cc)

pub no : {A : Type 0} → false ≡ true → A
no h = absurd (let z : false ≡ true = h in cc)

-- ---- the arms of a `switch`

arms_split : (qs : List ArmPurity) (is js : List ℕ) → listed_arms_are_pure qs (is ++ js) ≡ true → (listed_arms_are_pure qs is ≡ true) × (listed_arms_are_pure qs js ≡ true)
arms_split qs [] js h = (refl, h)
arms_split qs (i ∷ is) js h =
    let y = split (is_pure_arm (arm_at (true, true) qs i)) (listed_arms_are_pure qs (is ++ js)) h in
    let z = arms_split qs is js y.1 in
    (ap (λ b. b && listed_arms_are_pure qs is) y.0 ∙ z.0, z.1)

abbrev some_are_pure : List ArmPurity → Option (List ℕ) → Bool
some_are_pure qs None = true
some_are_pure qs (Some is) = listed_arms_are_pure qs is

one_case : (qs : List ArmPurity) (b : Bool) (is : List ℕ) (o : Option (List ℕ)) → listed_arms_are_pure qs is ≡ true → some_are_pure qs o ≡ true → some_are_pure qs (cond b (Some is) o) ≡ true
one_case qs true is o h k = h
one_case qs false is o h k = k

cases_pure : (qs : List ArmPurity) (cs : List SwitchCase) (v : Value) → listed_arms_are_pure qs (arms_of_cases cs) ≡ true → some_are_pure qs (case_for cs v) ≡ true
cases_pure qs [] v h = refl
cases_pure qs (c ∷ cs) v h = let z = arms_split qs c.arms (arms_of_cases cs) h in one_case qs (same c.value v) c.arms (case_for cs v) z.0 (cases_pure qs cs v z.1)

one_range : (qs : List ArmPurity) (b : Bool) (i : ℕ) (is : List ℕ) → is_pure_arm (arm_at (true, true) qs i) ≡ true → listed_arms_are_pure qs is ≡ true → listed_arms_are_pure qs (cond b (i ∷ is) is) ≡ true
one_range qs true i is h k = ap (λ b. b && listed_arms_are_pure qs is) h ∙ k
one_range qs false i is h k = k

ranges_pure : (qs : List ArmPurity) (rs : List SwitchRange) (v : Value) → listed_arms_are_pure qs (arms_of_ranges rs) ≡ true → listed_arms_are_pure qs (ranges_with rs v) ≡ true
ranges_pure qs [] v h = refl
ranges_pure qs (r ∷ rs) v h = let z = split (is_pure_arm (arm_at (true, true) qs r.arm)) (listed_arms_are_pure qs (arms_of_ranges rs)) h in one_range qs (holds r.range v) r.arm (ranges_with rs v) z.0 (ranges_pure qs rs v z.1)

or_pure : (qs : List ArmPurity) (t : SwitchTable) (v : Value) (o : Option (List ℕ)) → some_are_pure qs o ≡ true → listed_arms_are_pure qs (arms_of_ranges t.ranges) ≡ true → listed_arms_are_pure qs (or_ranges t v o) ≡ true
or_pure qs t v None h k = ranges_pure qs t.ranges v k
or_pure qs t v (Some is) h k = h

hashable_pure : (qs : List ArmPurity) (b : Bool) (o : Option (List ℕ)) → some_are_pure qs o ≡ true → some_are_pure qs (cond b o None) ≡ true
hashable_pure qs true o h = h
hashable_pure qs false o h = refl

chosen_pure : (qs : List ArmPurity) (t : SwitchTable) (v : Value) → listed_arms_are_pure qs (arms_of_cases t.cases ++ arms_of_ranges t.ranges) ≡ true → listed_arms_are_pure qs (chosen t v) ≡ true
chosen_pure qs t v h =
    let z = arms_split qs (arms_of_cases t.cases) (arms_of_ranges t.ranges) h in
    or_pure qs t v (cond (is_hashable v) (case_for t.cases v) None) (hashable_pure qs (is_hashable v) (case_for t.cases v) (cases_pure qs t.cases v z.0)) z.1

module _ (w : World) where
  record ArmPure (q : ArmPurity) (a : ArmActs) : Type 0 where
    pub guarded : q.0 ≡ true → Pure w a.guard
    pub answers : q.1 ≡ true → Pure w a.answer

  data ArmsPure : List ArmPurity → List ArmActs → Type 0 where
    no_arm : ArmsPure [] []
    one_arm : {q : ArmPurity} {a : ArmActs} {qs : List ArmPurity} {as' : List ArmActs} → ArmPure q a → ArmsPure qs as' → ArmsPure (q ∷ qs) (a ∷ as')

  try_pure : {qs : List ArmPurity} {as' : List ArmActs} → ArmsPure qs as' → (i : ℕ) → is_pure_arm (arm_at (true, true) qs i) ≡ true → (next : Act) → Pure w next → Pure w (try_arm (slice_get as' i) next)
  try_pure no_arm i h next k = k
  try_pure (one_arm {q = q} {a = a} p ps) zero h next k = let z = split q.0 q.1 h in p_bind w _ _ (p.guarded z.0) (λ v. p_if w v _ _ (p.answers z.1) k)
  try_pure (one_arm p ps) (suc i) h next k = try_pure ps i h next k

  first_pure : {qs : List ArmPurity} {as' : List ArmActs} → ArmsPure qs as' → (is : List ℕ) → listed_arms_are_pure qs is ≡ true → (d : Act) → Pure w d → Pure w (first_arm as' is d)
  first_pure p [] h d k = k
  first_pure {qs} {as'} p (i ∷ is) h d k = let z = split (is_pure_arm (arm_at (true, true) qs i)) (listed_arms_are_pure qs is) h in try_pure p i z.0 (first_arm as' is d) (first_pure p is z.1 d k)

  answer_pure : {qs : List ArmPurity} {as' : List ArmActs} → ArmsPure qs as' → (i : ℕ) → answer_is_pure qs i ≡ true → Pure w (answer_of (slice_get as' i))
  answer_pure no_arm i h = no h
  answer_pure (one_arm p ps) zero h = p.answers h
  answer_pure (one_arm p ps) (suc i) h = answer_pure ps i h

  default_pure : {qs : List ArmPurity} {as' : List ArmActs} → ArmsPure qs as' → (o : Option ℕ) → default_is_pure qs o ≡ true → Pure w (default_of as' o)
  default_pure p None h = no h
  default_pure p (Some i) h = answer_pure p i h

  switch_pure : {qs : List ArmPurity} {as' : List ArmActs} → ArmsPure qs as' → (t : SwitchTable) → table_is_pure qs t ≡ true → (v : Value) → Pure w (switch_on as' t v)
  switch_pure {qs} {as'} p t h v =
      let z = split (listed_arms_are_pure qs (arms_of_cases t.cases ++ arms_of_ranges t.ranges)) (default_is_pure qs t.default) h in
      first_pure p (chosen t v) (chosen_pure qs t v z.0) (default_of as' t.default) (default_pure p t.default z.1)

  -- ---- loops

  for_pure : (x : Text) (i : Option Text) (body : Acts) → PureList w body → (v : Value) → Pure w (for_all x i body v)
  for_pure x i body h (ArrayV vs) = p_for_each w x i body h 0 (items vs)
  for_pure x i body h (RangeV a b) = p_for_count w x i body h 0 a (size (b -ℤ a))
  for_pure x i body h (RangeInclusiveV a b) = p_for_count w x i body h 0 a (size (b +ℤ pos 1 -ℤ a))
  for_pure x i body h _ = p_fail w WrongKind

  -- a guard that is false, or true of an `until`, does nothing
  false_guard : (a : Act) → Pure w (give (BoolV false) >>= λ v. if_true v a unit)
  false_guard a = record { cost = 0; end = Gave UnitV; runs = record { by = λ env adds s t. refl } }

  p_until : (a : Act) → Pure w (give (BoolV true) >>= λ v. if_true v unit a)
  p_until a = record { cost = 0; end = Gave UnitV; runs = record { by = λ env adds s t. refl } }

  never_pure : (l : Bool) (e : Expr) → is_literally false e ≡ true → (body : Acts) → Pure w (loop w (guard_by e (core_expr l e)) body)
  never_pure l (BoolConstant false) h body = p_loop w _ (false_guard (round body))
  never_pure l (BoolConstant true) h body = no h
  never_pure l _ h body = no h

  once_pure : (l n : Bool) (e : Expr) → is_literally n e ≡ true → (body : Acts) → PureList w body → Pure w (do_loop n body (act w (core_expr l e)))
  once_pure l true (BoolConstant true) h body k = p_loop w _ (p_round w body _ k (p_until (Stop (Leaves Again))))
  once_pure l false (BoolConstant false) h body k = p_loop w _ (p_round w body _ k (false_guard (Stop (Leaves Again))))
  once_pure l true (BoolConstant false) h body k = no h
  once_pure l false (BoolConstant true) h body k = no h
  once_pure l _ _ h body k = no h

  -- ---- nodes with a test: without meaning they are stuck at once

  expr_or_ill : (b : Bool) (e : core.Expr) → Pure w (act w e) → Pure w (act w (cond b e core.Ill))
  expr_or_ill true e h = h
  expr_or_ill false e h = p_fail w WrongKind

  constant_or_ill : (b : Bool) (v : Value) → Pure w (act w (cond b core.Ill (core.Constant v)))
  constant_or_ill true v = p_fail w WrongKind
  constant_or_ill false v = p_give w v

  deed_or_ill : (b : Bool) (d : core.Deed) → Pure w (deed w d) → Pure w (deed w (cond b d core.IllDeed))
  deed_or_ill true d h = h
  deed_or_ill false d h = p_fail w WrongKind

  try_or_ill : (o : Option (Option Text)) (a b : core.Stmts) → PureList w (acts w false a UnitV) → Pure w (deed w (try_by o a b))
  try_or_ill None a b h = p_fail w WrongKind
  try_or_ill (Some x) a b h = p_try w _ _ h.scoped

  -- a statement that declares nothing
  pub data PureStmt : core.Stmt → Type 0 where
    pure_deed : {d : core.Deed} → Pure w (deed w d) → PureStmt (core.Does d)

  pure_line : (b : Bool) {l : core.Stmt} → PureStmt l → (ss : core.Stmts) → ((v : Value) → PureList w (acts w b ss v)) → (v : Value) → PureList w (acts w b (core.stmt l ss) v)
  pure_line b (pure_deed p) ss k v = l_line w _ _ p (λ u. k u)

  mutual
    pub pure_expr : (l : Bool) (e : Expr) → is_pure_expr e ≡ true → Pure w (act w (core_expr l e))
    pure_expr l (DynamicConstant v) h = constant_or_ill (is_unit v) v
    pure_expr l (BoolConstant b) h = p_give w _
    pure_expr l (IntegerConstant n) h = p_give w _
    pure_expr l (FloatConstant x) h = p_give w _
    pure_expr l (CharConstant c) h = p_give w _
    pure_expr l (StringConstant t) h = p_give w _
    pure_expr l UnitConstant h = p_give w _
    pure_expr l (InterpolatedString es) h = pure_args l es h _ (λ vs. p_give w _)
    pure_expr l (ArrayOf es) h = pure_args l es h _ (λ vs. p_give w _)
    pure_expr l (MapOf ps template) h = expr_or_ill (is_map template ps) _ (pure_pairs l ps h _ (λ vs. p_give w _))
    pure_expr l (Variable ns x) h = no h
    pure_expr l ThisPtr h = no h
    pure_expr l (Property p) h = no h
    pure_expr l (MethodCall c es) h = no h
    pure_expr l (BlockExpr ss) h = (pure_list l true ss h UnitV).scoped
    pure_expr l (FnCall c es) h = no h
    pure_expr l (Dot k a b) h = no h
    pure_expr l (Index k a b) h = no h
    pure_expr l (And es) h = pure_both l es h
    pure_expr l (Or es) h = pure_either l es h
    pure_expr l (Coalesce es) h = pure_some l es h

    pure_args : (l : Bool) (es : Exprs) → are_pure_exprs es ≡ true → (f : List Value → Act) → ((vs : List Value) → Pure w (f vs)) → Pure w (with_args w (core_exprs l es) f)
    pure_args l no_exprs h f k = k []
    pure_args l (expr e es) h f k = let z = split (is_pure_expr e) (are_pure_exprs es) h in p_bind w _ _ (pure_expr l e z.0) (λ v. pure_args l es z.1 _ (λ vs. k (v ∷ vs)))

    pure_pairs : (l : Bool) (ps : Pairs) → are_pure_pairs ps ≡ true → (f : List (Text × Value) → Act) → ((vs : List (Text × Value)) → Pure w (f vs)) → Pure w (with_pairs w (core_pairs l ps) f)
    pure_pairs l no_pairs h f k = k []
    pure_pairs l (pair n e ps) h f k = let z = split (is_pure_expr e) (are_pure_pairs ps) h in p_bind w _ _ (pure_expr l e z.0) (λ v. pure_pairs l ps z.1 _ (λ vs. k ((n, v) ∷ vs)))

    pure_both : (l : Bool) (es : Exprs) → are_pure_exprs es ≡ true → Pure w (both w (core_exprs l es))
    pure_both l no_exprs h = p_give w _
    pure_both l (expr e es) h = let z = split (is_pure_expr e) (are_pure_exprs es) h in p_bind w _ _ (pure_expr l e z.0) (λ v. p_if w v _ _ (pure_both l es z.1) (p_give w _))

    pure_either : (l : Bool) (es : Exprs) → are_pure_exprs es ≡ true → Pure w (either w (core_exprs l es))
    pure_either l no_exprs h = p_give w _
    pure_either l (expr e es) h = let z = split (is_pure_expr e) (are_pure_exprs es) h in p_bind w _ _ (pure_expr l e z.0) (λ v. p_if w v _ _ (p_give w _) (pure_either l es z.1))

    pure_some : (l : Bool) (es : Exprs) → are_pure_exprs es ≡ true → Pure w (first_some w (core_exprs l es))
    pure_some l no_exprs h = p_give w _
    pure_some l (expr e es) h = let z = split (is_pure_expr e) (are_pure_exprs es) h in p_bind w _ _ (pure_expr l e z.0) (λ v. p_choose w (is_unit v) _ _ (pure_some l es z.1) (p_give w v))

    pure_arms : (l : Bool) (as' : Arms) → ArmsPure (arm_purities as') (arm_acts w (core_arms l as'))
    pure_arms l no_arms = no_arm
    pure_arms l (arm c a as') = one_arm (record { guarded = λ h. pure_expr l c h; answers = λ h. pure_expr l a h }) (pure_arms l as')

    pub pure_stmt : (l : Bool) (s : Stmt) → is_pure s ≡ true → PureStmt (core_stmt l s)
    pure_stmt l Noop h = pure_deed (p_give w UnitV)
    pure_stmt l (If c a b) h =
        let y = split (is_pure_expr c) (are_pure a && are_pure b) h in
        let z = split (are_pure a) (are_pure b) y.1 in
        pure_deed (p_bind w _ _ (pure_expr l c y.0) (λ v. p_if w v _ _ (pure_list l true a z.0 UnitV).scoped (pure_list l true b z.1 UnitV).scoped))
    pure_stmt l (Switch e as' t) h =
        let z = split (is_pure_expr e) (table_is_pure (arm_purities as') t) h in
        pure_deed (deed_or_ill (is_table as' t) _ (p_bind w _ _ (pure_expr l e z.0) (λ v. switch_pure (pure_arms l as') t z.1 v)))
    pure_stmt l (While e b) h = pure_deed (never_pure l e h _)
    pure_stmt l (Do n exported e b) h = let z = split (is_literally n e) (are_pure b) h in pure_deed (once_pure l n e z.0 _ (pure_list true false b z.1 UnitV))
    pure_stmt l (For x i e b) h = let z = split (is_pure_expr e) (are_pure b) h in pure_deed (p_bind w _ _ (pure_expr l e z.0) (λ v. for_pure x i _ (pure_list true false b z.1 UnitV) v))
    pure_stmt l (Block ss) h = pure_deed (pure_list l true ss h UnitV).scoped
    pure_stmt l (TryCatch x a b) h =
        let y = split (is_pure_expr x) (are_pure a && are_pure b) h in
        let z = split (are_pure a) (are_pure b) y.1 in
        pure_deed (try_or_ill (catch_name x) _ _ (pure_list l false a z.0 UnitV))
    pure_stmt l (ExprStmt e) h = pure_deed (pure_expr l e h)
    pure_stmt l _ h = no h

    pub pure_list : (l b : Bool) (ss : Stmts) → are_pure ss ≡ true → (v : Value) → PureList w (acts w b (core_stmts l ss) v)
    pure_list l b no_stmts h v = l_only w _ (p_give w (wanted_value b v))
    pure_list l b (stmt s ss) h v = let z = split (is_pure s) (are_pure ss) h in pure_line b (pure_stmt l s z.0) (core_stmts l ss) (λ u. pure_list l b ss z.1 u) v

  -- ---- a module's name

  known_pure : (o : Option Text) → Pure w (module_known o)
  known_pure None = p_fail w UnknownModule
  known_pure (Some m) = p_give w (TextV m)

  module_pure : (v : Value) → Pure w (module_at w v)
  module_pure (TextV p) = known_pure (w.host.module_of p)
  module_pure _ = p_fail w WrongKind

  -- ---- inside a list: C of acts, D of lists; reads: so is the read of a name

  pub record Mild (C : Act → Type 0) (D : Acts → Type 0) (reads : Bool) : Type 0 where
    pub of_pure : {a : Act} → Pure w a → C a
    pub read : (x : Text) → reads ≡ true → C (Read (OfName x))
    pub scoped : {p : Acts} → D p → C (Scoped p)
    pub only : {a : Act} → C a → D (Only a)
    pub line : (a : Act) (k : Value → Acts) → C a → ((v : Value) → D (k v)) → D (then_line a k)
    pub named : (x : Text) (k : EntryKind) (v : Value) {p : Acts} → D p → D (Named x k v p)

  calm_mild : Mild (Calm w) (CalmList w) true
  calm_mild = record {
    of_pure = λ p. calm_of w p;
    read = λ x q. calm_read w x;
    scoped = λ h. h.scoped;
    only = λ p. calm_only w p;
    line = λ a k p h. calm_line w a k p h;
    named = λ x k v h. calm_named w x k v h;
  }

  pure_mild : Mild (Pure w) (PureList w) false
  pure_mild = record {
    of_pure = λ p. p;
    read = λ x q. no q;
    scoped = λ h. h.scoped;
    only = λ p. l_only w _ p;
    line = λ a k p h. l_line w a k p h;
    named = λ x k v h. l_named w x k v _ h;
  }

  -- a statement that may add to the scope
  pub data InternalStmt (C : Act → Type 0) : core.Stmt → Type 0 where
    declares : {k : EntryKind} {b : Bool} {x : Text} {e : core.Expr} → C (act w e) → InternalStmt C (core.Var k b x e)
    internal_deed : {d : core.Deed} → C (deed w d) → InternalStmt C (core.Does d)

  module _ (C : Act → Type 0) (D : Acts → Type 0) (reads : Bool) (g : Mild C D reads) where
    pub exporting_mild : (b : Bool) (x : Text) (v : Value) {p : Acts} → D p → D (exporting b x v p)
    exporting_mild true x v h = g.named x IsExport v h
    exporting_mild false x v h = h

    internal : {l : core.Stmt} → PureStmt l → InternalStmt C l
    internal (pure_deed p) = internal_deed (g.of_pure p)

    alias_internal : (x : Text) (e : core.Expr) → Pure w (act w e) → InternalStmt C (alias x e)
    alias_internal [] e p = internal_deed (g.of_pure (p_bind w _ _ (p_bind w _ _ p module_pure) (λ v. p_give w UnitV)))
    alias_internal (c ∷ cs) e p = declares (g.of_pure (p_bind w _ _ p module_pure))

    read_or_none : (b : Bool) → reads ≡ b → (reads ≡ false → false ≡ true) → (x : Text) → C (Read (OfName x))
    read_or_none true q k x = g.read x q
    read_or_none false q k x = no (k q)

    internal_line : (b : Bool) {l : core.Stmt} → InternalStmt C l → (ss : core.Stmts) → ((v : Value) → D (acts w b ss v)) → (v : Value) → D (acts w b (core.stmt l ss) v)
    internal_line b (declares {k = k} {b = exported} {x = x} p) ss h v = g.line _ _ p (λ u. g.named x k u (exporting_mild exported x u (h UnitV)))
    internal_line b (internal_deed p) ss h v = g.line _ _ p (λ u. h u)

    mutual
      pub list_inside : (l b : Bool) (ss : Stmts) → are_internally_pure ss ≡ true → (reads ≡ false → over_stmts (all_true is_no_export) ss ≡ true) → (v : Value) → D (acts w b (core_stmts l ss) v)
      list_inside l b no_stmts h q v = g.only (g.of_pure (p_give w (wanted_value b v)))
      list_inside l b (stmt s ss) h q v =
          let z = split (is_internally_pure s) (are_internally_pure ss) h in
          internal_line b (stmt_inside l s z.0 (λ i. (split (over_stmt (all_true is_no_export) s) (over_stmts (all_true is_no_export) ss) (q i)).0)) (core_stmts l ss)
          (λ u. list_inside l b ss z.1 (λ i. (split (over_stmt (all_true is_no_export) s) (over_stmts (all_true is_no_export) ss) (q i)).1) u) v

      expr_inside : (l : Bool) (e : Expr) → is_internally_pure_expr e ≡ true → (reads ≡ false → over_expr (all_true is_no_export) e ≡ true) → C (act w (core_expr l e))
      expr_inside l (BlockExpr ss) h q = g.scoped (list_inside l true ss h q UnitV)
      expr_inside l (DynamicConstant v) h q = g.of_pure (pure_expr l (DynamicConstant v) h)
      expr_inside l (BoolConstant b) h q = g.of_pure (p_give w _)
      expr_inside l (IntegerConstant n) h q = g.of_pure (p_give w _)
      expr_inside l (FloatConstant x) h q = g.of_pure (p_give w _)
      expr_inside l (CharConstant c) h q = g.of_pure (p_give w _)
      expr_inside l (StringConstant t) h q = g.of_pure (p_give w _)
      expr_inside l UnitConstant h q = g.of_pure (p_give w _)
      expr_inside l (InterpolatedString es) h q = g.of_pure (pure_expr l (InterpolatedString es) h)
      expr_inside l (ArrayOf es) h q = g.of_pure (pure_expr l (ArrayOf es) h)
      expr_inside l (MapOf ps template) h q = g.of_pure (pure_expr l (MapOf ps template) h)
      expr_inside l (And es) h q = g.of_pure (pure_expr l (And es) h)
      expr_inside l (Or es) h q = g.of_pure (pure_expr l (Or es) h)
      expr_inside l (Coalesce es) h q = g.of_pure (pure_expr l (Coalesce es) h)
      expr_inside l _ h q = no h

      pub stmt_inside : (l : Bool) (s : Stmt) → is_internally_pure s ≡ true → (reads ≡ false → over_stmt (all_true is_no_export) s ≡ true) → InternalStmt C (core_stmt l s)
      stmt_inside l (Var c exported x e) h q = declares (g.of_pure (pure_expr l e h))
      stmt_inside l (ExprStmt e) h q = internal_deed (expr_inside l e h q)
      stmt_inside l (Import e x) h q = alias_internal x _ (pure_expr l e h)
      stmt_inside l (Export x y) h q = declares (read_or_none reads refl q x)
      stmt_inside l Noop h q = internal_deed (g.of_pure (p_give w UnitV))
      stmt_inside l (If c a b) h q = internal (pure_stmt l (If c a b) h)
      stmt_inside l (Switch e as' t) h q = internal (pure_stmt l (Switch e as' t) h)
      stmt_inside l (While e b) h q = internal (pure_stmt l (While e b) h)
      stmt_inside l (Do n exported e b) h q = internal (pure_stmt l (Do n exported e b) h)
      stmt_inside l (For x i e b) h q = internal (pure_stmt l (For x i e b) h)
      stmt_inside l (Block ss) h q = internal (pure_stmt l (Block ss) h)
      stmt_inside l (TryCatch x a b) h q = internal (pure_stmt l (TryCatch x a b) h)
      stmt_inside l _ h q = no h

  always : {A : Type 0} → true ≡ false → A
  always h = absurd (let z : true ≡ false = h in cc)

  -- it ends by the store; and whatever the names are, where it exports nothing
  pub internal_stmt : (l : Bool) (s : Stmt) → is_internally_pure s ≡ true → InternalStmt (Calm w) (core_stmt l s)
  internal_stmt l s h = stmt_inside (Calm w) (CalmList w) true calm_mild l s h (λ q. always q)

  pub internal_list : (l b : Bool) (ss : Stmts) → are_internally_pure ss ≡ true → (v : Value) → CalmList w (acts w b (core_stmts l ss) v)
  internal_list l b ss h v = list_inside (Calm w) (CalmList w) true calm_mild l b ss h (λ q. always q) v

  pub nameless_list : (l b : Bool) (ss : Stmts) → are_internally_pure ss ≡ true → exports_nothing ss ≡ true → (v : Value) → PureList w (acts w b (core_stmts l ss) v)
  nameless_list l b ss h q v = list_inside (Pure w) (PureList w) false pure_mild l b ss h (λ i. q) v
