-- Trees whose constants point to functions by other names are like those that they were made of.
use Rattle.std.proofs.Common.{◌≡◌, ℕ, zero, suc, Bool, true, false, not, cond, ◌&&◌, ◌||◌, ◌+◌, ◌==◌, List, [], ◌∷◌, ◌++◌, map, Option, Some, None, refl, sym, ap, ◌∙◌, subst}
use Rattle.std.specs.Prelude.{codes, nat_lt}
use Rattle.base_tokens.specs.Names.{are_all}
use Rattle.std.proofs.lemmas.Slice.Eq.{bytes_eq-Decides}
use Rattle.rhai_base.specs.Value.{Text, Value, UnitV, BoolV, IntV, FloatV, CharV, TextV, ArrayV, MapV, PointerV, RangeV, RangeInclusiveV, Values, no_values, item, Fields, no_fields, field, same_text}
use Rattle.theory_meaning.specs.Act.{Root}
use Rattle.theory_meaning.specs.Calls.{Word, ToHost, TypeOf, IsShared, Fn, Curry, CallFn, NoWord, word}
use Rattle.theory_meaning.specs.Core as core
use Rattle.theory_meaning.specs.Desugar.{break_kind, return_kind, callee_by, by_name, call_of, method_of, name_kind, or_own, root_of, based, ends_in_call, part_target, name_target, guard_by, try_by, alias, variable, qualified, core_expr, core_exprs, core_pairs, core_arms, core_maybe, core_stmt, core_stmts, core_function, member_of, steps_of, target_of, is_global, in_module}
use Rattle.theory_meaning.specs.Plain.{all_true}
use Rattle.theory_meaning.specs.Shape.{is_unit, is_callable, is_map, are_distinct, are_among, is_table, is_left_side, is_member, is_argument, is_rest, is_chain, is_true, condition_at, names_arm, keys, catch_name, case_fits, spares, default_fits}
use Rattle.theory_meaning.specs.Tree as tree
use Rattle.theory_meaning.specs.Walk.{over_expr, over_exprs, over_pairs, over_maybe, over_arms, over_stmt, over_stmts, parts_of_expr, parts_of_stmt, OfExpr, OfStmt, listed, arm_at, arms_at}
use Rattle.theory_meaning.proofs.PureTrees.{split}
use Rattle.std.specs.Cmp.{unsigned_Decides}
use Rattle.theory_naming.proofs.Listed.{first_named, next_named, here_named, later_named, from_first}
use Rattle.theory_naming.specs.Naming.{Like, unit_like, bool_like, int_like, float_like, char_like, text_like, array_like, map_like, pointer_like, range_like, inclusive_like, LikeAll, none_like, item_like, LikeFields, no_fields_like, field_like, CalleeLike, operator_like, qualified_like, by_name_like, IsFn, Total, ExprLike, ill_like, constant_like, interpolated_like, array_of_like, map_of_like, variable_like, global_variable_like, module_variable_like, module_of_like, this_like, block_expr_like, call_expr_like, fn_like, chain_like, and_like, or_like, coalesce_like, ExprsLike, no_exprs_like, expr_like, PairsLike, no_pairs_like, pair_like, BaseLike, on_place_like, on_value_like, StepLike, ill_step_like, property_like, index_like, method_like, StepsLike, last_like, more_like, TargetLike, ill_target_like, nowhere_like, to_root_like, to_part_like, GuardLike, always_like, when_like, ArmsLike, no_arms_like, arm_like, unlisted_like, DeedLike, ill_deed_like, noop_like, if_deed_like, switch_like, while_like, do_like, for_like, assignment_like, block_like, try_like, evaluate_like, discard_like, leave_like, StmtLike, var_like, does_like, StmtsLike, no_stmts_like, stmt_like, FunctionLike, function_like}
use Rattle.theory_naming.specs.Renaming.{Stands, is_anonymous, names_one, call_by_name, calls_by_name, renamed_value, renamed_values, renamed_fields, renamed_expr, renamed_exprs, renamed_pairs, renamed_maybe, renamed_arms, renamed_stmt, renamed_stmts, renamed_function}

-- ---- `Fn` among the words

word_is : (f : Text) → same_text f (codes "Fn") ≡ true → word f ≡ Fn
word_is f h = subst (λ g. word g ≡ Fn) (sym ((bytes_eq-Decides f (codes "Fn")).0 h)) refl

first_word : (a b c d e f g : Bool) → cond a ToHost (cond b ToHost (cond c TypeOf (cond d IsShared (cond e Fn (cond f Curry (cond g CallFn NoWord)))))) ≡ Fn → e ≡ true
first_word true b c d e f g h = absurd (cc)
first_word false true c d e f g h = absurd (cc)
first_word false false true d e f g h = absurd (cc)
first_word false false false true e f g h = absurd (cc)
first_word false false false false true f g h = refl
first_word false false false false false true g h = absurd (cc)
first_word false false false false false false true h = absurd (cc)
first_word false false false false false false false h = absurd (cc)

word_not : (f : Text) → same_text f (codes "Fn") ≡ false → word f ≡ Fn → ⊥
word_not f h e =
    let z : true ≡ false = sym (first_word (same_text f (codes "print")) (same_text f (codes "debug")) (same_text f (codes "type_of")) (same_text f (codes "is_shared")) (same_text f (codes "Fn")) (same_text f (codes "curry")) (same_text f (codes "call")) e) ∙ h in
    absurd (cc)

not_false : (b : Bool) → not b ≡ true → b ≡ false
not_false true h = absurd (cc)
not_false false h = refl

module _ (named : Text → Text) (own : (t : Text) → is_anonymous t ≡ false → named t ≡ t) where
  abbrev N : Text → Text → Type 0
  N = Stands named

  -- ---- what is not changed

  count_kept : (es : tree.Exprs) → tree.count_exprs (renamed_exprs named es) ≡ tree.count_exprs es
  count_kept tree.no_exprs = refl
  count_kept (tree.expr e es) = ap suc (count_kept es)

  keys_kept : (ps : tree.Pairs) → keys (renamed_pairs named ps) ≡ keys ps
  keys_kept tree.no_pairs = refl
  keys_kept (tree.pair k e ps) = ap (λ ks. k ∷ ks) (keys_kept ps)

  arms_kept : (as' : tree.Arms) → tree.count_arms (renamed_arms named as') ≡ tree.count_arms as'
  arms_kept tree.no_arms = refl
  arms_kept (tree.arm c a as') = ap suc (arms_kept as')

  root_kept : (e : tree.Expr) → root_of (renamed_expr named e) ≡ root_of e
  root_kept (tree.Variable [] x) = refl
  root_kept (tree.Variable (m ∷ ms) x) = refl
  root_kept _ = refl

  true_kept : (e : tree.Expr) → is_true (renamed_expr named e) ≡ is_true e
  true_kept (tree.BoolConstant b) = refl
  true_kept _ = refl

  member_kept : (e : tree.Expr) → is_member (renamed_expr named e) ≡ is_member e
  member_kept (tree.Property p) = refl
  member_kept _ = refl

  left_kept : (e : tree.Expr) → is_left_side (renamed_expr named e) ≡ is_left_side e
  left_kept tree.ThisPtr = refl
  left_kept _ = refl

  catch_kept : (e : tree.Expr) → catch_name (renamed_expr named e) ≡ catch_name e
  catch_kept (tree.Variable [] x) = refl
  catch_kept (tree.Variable (m ∷ ms) x) = refl
  catch_kept _ = refl

  unit_kept : (v : Value) → is_unit (renamed_value named v) ≡ is_unit v
  unit_kept UnitV = refl
  unit_kept _ = refl

  rest_kept : (dot breaks : Bool) (e : tree.Expr) → is_rest dot breaks (renamed_expr named e) ≡ is_rest dot breaks e
  rest_kept dot true (tree.Dot k l r) = refl
  rest_kept dot false (tree.Dot k l r) = λ i. (not dot || member_kept l i) && rest_kept true k.breaks r i
  rest_kept dot true (tree.Index k l r) = refl
  rest_kept dot false (tree.Index k l r) = λ i. (not dot || member_kept l i) && rest_kept false k.breaks r i
  rest_kept dot breaks _ = refl

  ends_kept : (dot breaks : Bool) (e : tree.Expr) → ends_in_call dot breaks (renamed_expr named e) ≡ ends_in_call dot breaks e
  ends_kept dot breaks (tree.Dot k l r) = ap (λ b. not breaks && b) (ends_kept true k.breaks r)
  ends_kept dot breaks (tree.Index k l r) = ap (λ b. not breaks && b) (ends_kept false k.breaks r)
  ends_kept dot breaks _ = refl

  condition_kept : (as' : tree.Arms) (i : ℕ) → condition_at (renamed_arms named as') i ≡ condition_at as' i
  condition_kept tree.no_arms i = refl
  condition_kept (tree.arm c a as') zero = true_kept c
  condition_kept (tree.arm c a as') (suc i) = condition_kept as' i

  default_kept : (as' : tree.Arms) (t : tree.SwitchTable) (o : Option ℕ) → default_fits (renamed_arms named as') t o ≡ default_fits as' t o
  default_kept as' t None = refl
  default_kept as' t (Some d) = λ i. nat_lt d (arms_kept as' i) && condition_kept as' d i && spares d t

  table_kept : (as' : tree.Arms) (t : tree.SwitchTable) → is_table (renamed_arms named as') t ≡ is_table as' t
  table_kept as' t = λ i. are_all (case_fits (arms_kept as' i)) t.cases && are_all (λ r. nat_lt r.arm (arms_kept as' i)) t.ranges && default_kept as' t t.default i

  -- ---- values

  mutual
    pub value_renamed : (v : Value) → Like N (renamed_value named v) v
    value_renamed UnitV = unit_like
    value_renamed (BoolV b) = bool_like b
    value_renamed (IntV n) = int_like n
    value_renamed (FloatV c) = float_like c
    value_renamed (CharV c) = char_like c
    value_renamed (TextV t) = text_like t
    value_renamed (ArrayV vs) = array_like (values_renamed vs)
    value_renamed (MapV fs) = map_like (fields_renamed fs)
    value_renamed (PointerV f vs) = pointer_like refl (values_renamed vs)
    value_renamed (RangeV a b) = range_like a b
    value_renamed (RangeInclusiveV a b) = inclusive_like a b

    values_renamed : (vs : Values) → LikeAll N (renamed_values named vs) vs
    values_renamed no_values = none_like
    values_renamed (item v vs) = item_like (value_renamed v) (values_renamed vs)

    fields_renamed : (fs : Fields) → LikeFields N (renamed_fields named fs) fs
    fields_renamed no_fields = no_fields_like
    fields_renamed (field k v fs) = field_like k (value_renamed v) (fields_renamed fs)

  constant_renamed : (v : Value) → ExprLike N (cond (is_unit (renamed_value named v)) core.Ill (core.Constant (renamed_value named v))) (cond (is_unit v) core.Ill (core.Constant v))
  constant_renamed UnitV = ill_like
  constant_renamed (BoolV b) = constant_like (bool_like b)
  constant_renamed (IntV n) = constant_like (int_like n)
  constant_renamed (FloatV c) = constant_like (float_like c)
  constant_renamed (CharV c) = constant_like (char_like c)
  constant_renamed (TextV t) = constant_like (text_like t)
  constant_renamed (ArrayV vs) = constant_like (value_renamed (ArrayV vs))
  constant_renamed (MapV fs) = constant_like (value_renamed (MapV fs))
  constant_renamed (PointerV f vs) = constant_like (value_renamed (PointerV f vs))
  constant_renamed (RangeV a b) = constant_like (range_like a b)
  constant_renamed (RangeInclusiveV a b) = constant_like (inclusive_like a b)

  -- ---- calls

  name_like : (c : tree.Callee) (ns : List Text) → is_anonymous c.name ≡ false → CalleeLike N (by_name c ns) (by_name c ns)
  name_like c [] h = by_name_like c.captures (sym (own c.name h)) refl
  name_like c (m ∷ ms) h = qualified_like m (qualified ms c.name)

  callee_like : (c : tree.Callee) (token : tree.CallToken) → is_anonymous c.name ≡ false → CalleeLike N (callee_by c token) (callee_by c token)
  callee_like c tree.NoToken h = name_like c c.namespace h
  callee_like c (tree.OfOperator op) h = operator_like op
  callee_like c tree.OfOther h = name_like c c.namespace h

  no_fn_name : (c : tree.Callee) (ns : List Text) → same_text c.name (codes "Fn") ≡ false → IsFn N (by_name c ns) → Total N
  no_fn_name c [] h e = absurd (word_not c.name h e)
  no_fn_name c (m ∷ ms) h e = absurd e

  no_fn : (c : tree.Callee) (token : tree.CallToken) → same_text c.name (codes "Fn") ≡ false → IsFn N (callee_by c token) → Total N
  no_fn c tree.NoToken h e = no_fn_name c c.namespace h e
  no_fn c (tree.OfOperator op) h e = absurd e
  no_fn c tree.OfOther h e = no_fn_name c c.namespace h e

  abbrev One : core.Callee → Text → Type 0
  One c t = ExprLike N (core.FnCall c (core.expr (core.Constant (TextV t)) core.no_exprs)) (core.FnCall c (core.expr (core.Constant (TextV t)) core.no_exprs))

  one_name : (c : tree.Callee) (ns : List Text) (t : Text) → is_anonymous t ≡ false → same_text c.name (codes "Fn") ≡ true → One (by_name c ns) t
  one_name c [] t h e = fn_like c.captures c.name t (sym (own t h)) (word_is c.name e)
  one_name c (m ∷ ms) t h e = call_expr_like (qualified_like m (qualified ms c.name)) (λ z. absurd z) (expr_like (constant_like (text_like t)) no_exprs_like)

  one_like : (c : tree.Callee) (token : tree.CallToken) (t : Text) → is_anonymous t ≡ false → same_text c.name (codes "Fn") ≡ true → One (callee_by c token) t
  one_like c tree.NoToken t h e = one_name c c.namespace t h e
  one_like c (tree.OfOperator op) t h e = call_expr_like (operator_like op) (λ z. absurd z) (expr_like (constant_like (text_like t)) no_exprs_like)
  one_like c tree.OfOther t h e = one_name c c.namespace t h e

  fn_by : (loop : Bool) (c : tree.Callee) (es : tree.Exprs) → same_text c.name (codes "Fn") ≡ true → names_one es ≡ true → ExprLike N (core.FnCall (callee_by c c.token) (core_exprs loop (renamed_exprs named es))) (core.FnCall (callee_by c c.token) (core_exprs loop es))
  fn_by loop c (tree.expr (tree.StringConstant t) tree.no_exprs) e h = one_like c c.token t (not_false (is_anonymous t) h) e
  fn_by loop c _ e h = absurd (cc)

  called_by : (b : Bool) (loop : Bool) (c : tree.Callee) (es : tree.Exprs) → same_text c.name (codes "Fn") ≡ b → is_anonymous c.name ≡ false → not b || names_one es ≡ true → ExprsLike N (core_exprs loop (renamed_exprs named es)) (core_exprs loop es) → ExprLike N (core.FnCall (callee_by c c.token) (core_exprs loop (renamed_exprs named es))) (core.FnCall (callee_by c c.token) (core_exprs loop es))
  called_by true loop c es e h k j = fn_by loop c es e k
  called_by false loop c es e h k j = call_expr_like (callee_like c c.token h) (no_fn c c.token e) j

  where_callable : (b : Bool) {e f : core.Expr} → ExprLike N e f → ExprLike N (cond b e core.Ill) (cond b f core.Ill)
  where_callable true h = h
  where_callable false h = ill_like

  call_renamed : (loop : Bool) (c : tree.Callee) (es : tree.Exprs) → call_by_name c es ≡ true → ExprsLike N (core_exprs loop (renamed_exprs named es)) (core_exprs loop es) → ExprLike N (call_of c (tree.count_exprs (renamed_exprs named es)) (core_exprs loop (renamed_exprs named es))) (call_of c (tree.count_exprs es) (core_exprs loop es))
  call_renamed loop c es h j =
      let z = split (not (is_anonymous c.name)) (not (same_text c.name (codes "Fn")) || names_one es) h in
      subst (λ n. ExprLike N (cond (is_callable c n) (core.FnCall (callee_by c c.token) (core_exprs loop (renamed_exprs named es))) core.Ill) (call_of c (tree.count_exprs es) (core_exprs loop es))) (sym (count_kept es))
      (where_callable (is_callable c (tree.count_exprs es)) (called_by (same_text c.name (codes "Fn")) loop c es refl (not_false (is_anonymous c.name) z.0) z.1 j))

  where_method : (b : Bool) {p q : core.Step} → StepLike N p q → StepLike N (cond b p core.IllStep) (cond b q core.IllStep)
  where_method true h = h
  where_method false h = ill_step_like

  method_renamed : (loop : Bool) (c : tree.Callee) (es : tree.Exprs) → not (is_anonymous c.name) ≡ true → ExprsLike N (core_exprs loop (renamed_exprs named es)) (core_exprs loop es) → StepLike N (method_of c (tree.count_exprs (renamed_exprs named es)) (core_exprs loop (renamed_exprs named es))) (method_of c (tree.count_exprs es) (core_exprs loop es))
  method_renamed loop c es h j =
      subst (λ n. StepLike N (cond (is_callable c n) (core.Method c.name (core_exprs loop (renamed_exprs named es))) core.IllStep) (method_of c (tree.count_exprs es) (core_exprs loop es))) (sym (count_kept es))
      (where_method (is_callable c (tree.count_exprs es)) (method_like (sym (own c.name (not_false (is_anonymous c.name) h))) refl j))

  -- ---- chains

  step_by : (b : Bool) {p q r s : core.Step} → StepLike N p q → StepLike N r s → StepLike N (cond b p r) (cond b q s)
  step_by true h k = h
  step_by false h k = k

  steps_by : (b o : Bool) {p q r s : core.Step} {ps qs : core.Steps} → StepLike N p q → StepLike N r s → StepsLike N ps qs → StepsLike N (cond b (core.last o p) (core.more o r ps)) (cond b (core.last o q) (core.more o s qs))
  steps_by true o h k j = last_like o h
  steps_by false o h k j = more_like o k j

  base_by : (o : Option Root) {e f : core.Expr} → ExprLike N e f → BaseLike N (based o e) (based o f)
  base_by (Some r) h = on_place_like r
  base_by None h = on_value_like h

  chain_by : (b : Bool) (o : Option Root) {e f : core.Expr} {ps qs : core.Steps} → ExprLike N e f → StepsLike N ps qs → ExprLike N (cond b (core.Chain (based o e) ps) core.Ill) (cond b (core.Chain (based o f) qs) core.Ill)
  chain_by true o h j = chain_like (base_by o h) j
  chain_by false o h j = ill_like

  chain_renamed : {b b' : Bool} {o o' : Option Root} {e f : core.Expr} {ps qs : core.Steps} → b ≡ b' → o ≡ o' → ExprLike N e f → StepsLike N ps qs → ExprLike N (cond b (core.Chain (based o e) ps) core.Ill) (cond b' (core.Chain (based o' f) qs) core.Ill)
  chain_renamed {b = b} {o = o} {o' = o'} {e = e} {f = f} {ps = ps} {qs = qs} p q h j =
      subst (λ c. ExprLike N (cond b (core.Chain (based o e) ps) core.Ill) (cond c (core.Chain (based o' f) qs) core.Ill)) p
      (subst (λ r. ExprLike N (cond b (core.Chain (based o e) ps) core.Ill) (cond b (core.Chain (based r f) qs) core.Ill)) q (chain_by b o h j))

  part_by : (o : Option Root) (call : Bool) {ps qs : core.Steps} → StepsLike N ps qs → TargetLike N (part_target o call ps) (part_target o call qs)
  part_by None call h = nowhere_like
  part_by (Some r) true h = nowhere_like
  part_by (Some r) false h = to_part_like r h

  target_by : (b : Bool) (o : Option Root) (call : Bool) {ps qs : core.Steps} → StepsLike N ps qs → TargetLike N (cond b (part_target o call ps) core.IllTarget) (cond b (part_target o call qs) core.IllTarget)
  target_by true o call h = part_by o call h
  target_by false o call h = ill_target_like

  name_by : (ms : List Text) (x : Text) → TargetLike N (name_target ms x) (name_target ms x)
  name_by [] x = to_root_like _
  name_by (m ∷ ms) x = nowhere_like

  variable_by : (ms : List Text) (x : Text) → ExprLike N (variable ms x) (variable ms x)
  variable_by [] x = variable_like x
  variable_by (m ∷ []) x = in_module_by (is_global m) where
    in_module_by : (b : Bool) → ExprLike N (in_module b m x) (in_module b m x)
    in_module_by true = global_variable_like x
    in_module_by false = module_variable_like m x
  variable_by (m ∷ n ∷ ms) x = module_variable_like m (qualified (n ∷ ms) x)

  target_kept : {b b' : Bool} {o o' : Option Root} {call call' : Bool} {ps qs : core.Steps} → b ≡ b' → o ≡ o' → call ≡ call' → StepsLike N ps qs → TargetLike N (cond b (part_target o call ps) core.IllTarget) (cond b' (part_target o' call' qs) core.IllTarget)
  target_kept {b = b} {o = o} {call = call} {ps = ps} {qs = qs} p q r h = subst (λ t. TargetLike N (cond b (part_target o call ps) core.IllTarget) t) (λ i. cond (p i) (part_target (q i) (r i) qs) core.IllTarget) (target_by b o call h)

  guard_by_like : (e : tree.Expr) {c d : core.Expr} → ExprLike N c d → GuardLike N (guard_by (renamed_expr named e) c) (guard_by e d)
  guard_by_like tree.UnitConstant h = always_like
  guard_by_like _ h = when_like h

  try_by_like : (o : Option (Option Text)) {a b c d : core.Stmts} → StmtsLike N a b → StmtsLike N c d → DeedLike N (try_by o a c) (try_by o b d)
  try_by_like None h k = ill_deed_like
  try_by_like (Some x) h k = try_like x h k

  alias_by : (x : Text) {e f : core.Expr} → ExprLike N e f → StmtLike N (alias x e) (alias x f)
  alias_by [] h = does_like (discard_like (module_of_like h))
  alias_by (c ∷ cs) h = var_like _ false (c ∷ cs) (module_of_like h)

  where_deed : (b : Bool) {d e : core.Deed} → DeedLike N d e → DeedLike N (cond b d core.IllDeed) (cond b e core.IllDeed)
  where_deed true h = h
  where_deed false h = ill_deed_like

  map_by : (b : Bool) {ps qs : core.Pairs} → PairsLike N ps qs → ExprLike N (cond b (core.MapOf ps) core.Ill) (cond b (core.MapOf qs) core.Ill)
  map_by true h = map_of_like h
  map_by false h = ill_like

  -- ---- trees

  abbrev Fits : Bool → Type 0
  Fits b = b ≡ true

  this_arm : (b : Bool) (is : List ℕ) (ps : List Bool) (i j : ℕ) → (i == j) ≡ b → arm_at true ps j ≡ true → (names_arm i is ≡ true → arm_at true ps i ≡ true) → b || names_arm i is ≡ true → arm_at true ps i ≡ true
  this_arm true is ps i j e h k n = subst (λ m. arm_at true ps m ≡ true) (sym ((unsigned_Decides i j).0 e)) h
  this_arm false is ps i j e h k n = k n

  -- the arms from number i on, of which those that are listed fit
  arms_listed : (is : List ℕ) (ps : List Bool) (i : ℕ) → arms_at true (λ p q. p && q) ps is ≡ true → names_arm i is ≡ true → arm_at true ps i ≡ true
  arms_listed [] ps i h n = absurd (cc)
  arms_listed (j ∷ is) ps i h n =
      let z = split (arm_at true ps j) (arms_at true (λ p q. p && q) ps is) h in
      this_arm (i == j) is ps i j refl z.0 (arms_listed is ps i z.1) n

  arm_by : (b : Bool) (loop : Bool) (is : List ℕ) (i : ℕ) (c a : tree.Expr) (as' : tree.Arms) → names_arm i is ≡ b → (names_arm i is ≡ true → ExprLike N (core_expr loop (renamed_expr named c)) (core_expr loop c) × ExprLike N (core_expr loop (renamed_expr named a)) (core_expr loop a)) → ArmsLike N is (suc i) (core_arms loop (renamed_arms named as')) (core_arms loop as') → ArmsLike N is i (core_arms loop (renamed_arms named (tree.arm c a as'))) (core_arms loop (tree.arm c a as'))
  arm_by true loop is i c a as' n h r = let z = h n in arm_like z.0 z.1 r
  arm_by false loop is i c a as' n h r = unlisted_like _ _ _ _ n r

  mutual
    expr_renamed : (loop : Bool) (e : tree.Expr) → over_expr (all_true calls_by_name) e ≡ true → ExprLike N (core_expr loop (renamed_expr named e)) (core_expr loop e)
    expr_renamed loop (tree.DynamicConstant v) h = constant_renamed v
    expr_renamed loop (tree.BoolConstant b) h = constant_like (bool_like b)
    expr_renamed loop (tree.IntegerConstant n) h = constant_like (int_like n)
    expr_renamed loop (tree.FloatConstant c) h = constant_like (float_like c)
    expr_renamed loop (tree.CharConstant c) h = constant_like (char_like c)
    expr_renamed loop (tree.StringConstant t) h = constant_like (text_like t)
    expr_renamed loop tree.UnitConstant h = constant_like unit_like
    expr_renamed loop (tree.InterpolatedString es) h = interpolated_like (exprs_renamed loop es h)
    expr_renamed loop (tree.ArrayOf es) h = array_of_like (exprs_renamed loop es h)
    expr_renamed loop (tree.MapOf ps template) h =
        subst (λ ks. ExprLike N (cond (are_distinct ks && are_among ks template && are_among template ks) (core.MapOf (core_pairs loop (renamed_pairs named ps))) core.Ill) (core_expr loop (tree.MapOf ps template))) (sym (keys_kept ps)) (map_by (is_map template ps) (pairs_renamed loop ps h))
    expr_renamed loop (tree.Variable ms x) h = variable_by ms x
    expr_renamed loop tree.ThisPtr h = this_like
    expr_renamed loop (tree.Property p) h = ill_like
    expr_renamed loop (tree.MethodCall c es) h = ill_like
    expr_renamed loop (tree.BlockExpr ss) h = block_expr_like (stmts_renamed loop ss h)
    expr_renamed loop (tree.FnCall c es) h = let z = split (call_by_name c es) (over_exprs (all_true calls_by_name) es) h in call_renamed loop c es z.0 (exprs_renamed loop es z.1)
    expr_renamed loop (tree.Dot k l r) h =
        let z = split (over_expr (all_true calls_by_name) l) (over_expr (all_true calls_by_name) r) h in
        chain_renamed (rest_kept true k.breaks r) (root_kept l) (expr_renamed loop l z.0) (steps_renamed loop true k (member_renamed loop r z.1) r z.1)
    expr_renamed loop (tree.Index k l r) h =
        let z = split (over_expr (all_true calls_by_name) l) (over_expr (all_true calls_by_name) r) h in
        chain_renamed (rest_kept false k.breaks r) (root_kept l) (expr_renamed loop l z.0) (steps_renamed loop false k (index_like (expr_renamed loop r z.1)) r z.1)
    expr_renamed loop (tree.And es) h = and_like (exprs_renamed loop es h)
    expr_renamed loop (tree.Or es) h = or_like (exprs_renamed loop es h)
    expr_renamed loop (tree.Coalesce es) h = coalesce_like (exprs_renamed loop es h)

    exprs_renamed : (loop : Bool) (es : tree.Exprs) → over_exprs (all_true calls_by_name) es ≡ true → ExprsLike N (core_exprs loop (renamed_exprs named es)) (core_exprs loop es)
    exprs_renamed loop tree.no_exprs h = no_exprs_like
    exprs_renamed loop (tree.expr e es) h = let z = split (over_expr (all_true calls_by_name) e) (over_exprs (all_true calls_by_name) es) h in expr_like (expr_renamed loop e z.0) (exprs_renamed loop es z.1)

    pairs_renamed : (loop : Bool) (ps : tree.Pairs) → over_pairs (all_true calls_by_name) ps ≡ true → PairsLike N (core_pairs loop (renamed_pairs named ps)) (core_pairs loop ps)
    pairs_renamed loop tree.no_pairs h = no_pairs_like
    pairs_renamed loop (tree.pair k e ps) h = let z = split (over_expr (all_true calls_by_name) e) (over_pairs (all_true calls_by_name) ps) h in pair_like k (expr_renamed loop e z.0) (pairs_renamed loop ps z.1)

    member_renamed : (loop : Bool) (e : tree.Expr) → over_expr (all_true calls_by_name) e ≡ true → StepLike N (member_of loop (renamed_expr named e)) (member_of loop e)
    member_renamed loop (tree.Property p) h = property_like p
    member_renamed loop (tree.MethodCall c es) h = let z = split (not (is_anonymous c.name)) (over_exprs (all_true calls_by_name) es) h in method_renamed loop c es z.0 (exprs_renamed loop es z.1)
    member_renamed loop _ h = ill_step_like

    steps_renamed : (loop dot : Bool) (k : tree.ChainFlags) {p q : core.Step} → StepLike N p q → (e : tree.Expr) → over_expr (all_true calls_by_name) e ≡ true → StepsLike N (steps_of loop dot k p (renamed_expr named e)) (steps_of loop dot k q e)
    steps_renamed loop dot k j (tree.Dot m l r) h =
        let z = split (over_expr (all_true calls_by_name) l) (over_expr (all_true calls_by_name) r) h in
        steps_by k.breaks k.negated j (step_by dot (member_renamed loop l z.0) (index_like (expr_renamed loop l z.0))) (steps_renamed loop true m (member_renamed loop r z.1) r z.1)
    steps_renamed loop dot k j (tree.Index m l r) h =
        let z = split (over_expr (all_true calls_by_name) l) (over_expr (all_true calls_by_name) r) h in
        steps_by k.breaks k.negated j (step_by dot (member_renamed loop l z.0) (index_like (expr_renamed loop l z.0))) (steps_renamed loop false m (index_like (expr_renamed loop r z.1)) r z.1)
    steps_renamed loop dot k j _ h = last_like k.negated j

    target_renamed : (loop : Bool) (e : tree.Expr) → over_expr (all_true calls_by_name) e ≡ true → TargetLike N (target_of loop (renamed_expr named e)) (target_of loop e)
    target_renamed loop (tree.Variable ms x) h = name_by ms x
    target_renamed loop tree.ThisPtr h = to_root_like _
    target_renamed loop (tree.Dot k l r) h =
        let z = split (over_expr (all_true calls_by_name) l) (over_expr (all_true calls_by_name) r) h in
        target_kept (rest_kept true k.breaks r) (root_kept l) (ends_kept true k.breaks r) (steps_renamed loop true k (member_renamed loop r z.1) r z.1)
    target_renamed loop (tree.Index k l r) h =
        let z = split (over_expr (all_true calls_by_name) l) (over_expr (all_true calls_by_name) r) h in
        target_kept (rest_kept false k.breaks r) (root_kept l) (ends_kept false k.breaks r) (steps_renamed loop false k (index_like (expr_renamed loop r z.1)) r z.1)
    target_renamed loop _ h = ill_target_like

    arms_renamed : (loop : Bool) (is : List ℕ) (i : ℕ) (as' : tree.Arms) → ((j : ℕ) → names_arm (i + j) is ≡ true → arm_at true (over_arms (all_true calls_by_name) as') j ≡ true) → ArmsLike N is i (core_arms loop (renamed_arms named as')) (core_arms loop as')
    arms_renamed loop is i tree.no_arms h = no_arms_like i
    arms_renamed loop is i (tree.arm c a as') h =
        arm_by (names_arm i is) loop is i c a as' refl (λ n. let z = split (over_expr (all_true calls_by_name) c) (over_expr (all_true calls_by_name) a) (h 0 (here_named is i n)) in (expr_renamed loop c z.0, expr_renamed loop a z.1)) (arms_renamed loop is (suc i) as' (λ j n. h (suc j) (later_named is i j n)))

    maybe_renamed : (loop : Bool) (m : tree.MaybeExpr) → over_maybe (all_true calls_by_name) m ≡ true → ExprLike N (core_maybe loop (renamed_maybe named m)) (core_maybe loop m)
    maybe_renamed loop tree.no_expr h = constant_like unit_like
    maybe_renamed loop (tree.an_expr e) h = expr_renamed loop e h

    stmt_renamed : (loop : Bool) (s : tree.Stmt) → over_stmt (all_true calls_by_name) s ≡ true → StmtLike N (core_stmt loop (renamed_stmt named s)) (core_stmt loop s)
    stmt_renamed loop tree.Noop h = does_like noop_like
    stmt_renamed loop (tree.If e a b) h =
        let z = split (over_expr (all_true calls_by_name) e) (over_stmts (all_true calls_by_name) a && over_stmts (all_true calls_by_name) b) h in
        let y = split (over_stmts (all_true calls_by_name) a) (over_stmts (all_true calls_by_name) b) z.1 in
        does_like (if_deed_like (expr_renamed loop e z.0) (stmts_renamed loop a y.0) (stmts_renamed loop b y.1))
    stmt_renamed loop (tree.Switch e as' t) h =
        let z = split (over_expr (all_true calls_by_name) e) (arms_at true (λ p q. p && q) (over_arms (all_true calls_by_name) as') (listed t)) h in
        does_like (subst (λ b. DeedLike N (cond b (core.Switch (core_expr loop (renamed_expr named e)) (core_arms loop (renamed_arms named as')) t) core.IllDeed) (cond (is_table as' t) (core.Switch (core_expr loop e) (core_arms loop as') t) core.IllDeed)) (sym (table_kept as' t)) (where_deed (is_table as' t) (switch_like t (expr_renamed loop e z.0) (arms_renamed loop (listed t) 0 as' (λ j n. arms_listed (listed t) (over_arms (all_true calls_by_name) as') j z.1 (from_first (listed t) j n))))))
    stmt_renamed loop (tree.While e body) h =
        let z = split (over_expr (all_true calls_by_name) e) (over_stmts (all_true calls_by_name) body) h in
        does_like (while_like (guard_by_like e (expr_renamed loop e z.0)) (stmts_renamed true body z.1))
    stmt_renamed loop (tree.Do negated exported e body) h =
        let z = split (over_expr (all_true calls_by_name) e) (over_stmts (all_true calls_by_name) body) h in
        does_like (do_like negated (expr_renamed loop e z.0) (stmts_renamed true body z.1))
    stmt_renamed loop (tree.For x i e body) h =
        let z = split (over_expr (all_true calls_by_name) e) (over_stmts (all_true calls_by_name) body) h in
        does_like (for_like x i (expr_renamed loop e z.0) (stmts_renamed true body z.1))
    stmt_renamed loop (tree.Var constant exported x e) h = var_like (name_kind constant) exported x (expr_renamed loop e h)
    stmt_renamed loop (tree.Assignment op l e) h =
        let z = split (over_expr (all_true calls_by_name) l) (over_expr (all_true calls_by_name) e) h in
        does_like (subst (λ b. DeedLike N (cond b (core.Assignment op (target_of loop (renamed_expr named l)) (core_expr loop (renamed_expr named e))) core.IllDeed) (cond (is_left_side l) (core.Assignment op (target_of loop l) (core_expr loop e)) core.IllDeed)) (sym (left_kept l)) (where_deed (is_left_side l) (assignment_like op (target_renamed loop l z.0) (expr_renamed loop e z.1))))
    stmt_renamed loop (tree.FnCallStmt c es) h = let z = split (call_by_name c es) (over_exprs (all_true calls_by_name) es) h in does_like (evaluate_like (call_renamed loop c es z.0 (exprs_renamed loop es z.1)))
    stmt_renamed loop (tree.Block ss) h = does_like (block_like (stmts_renamed loop ss h))
    stmt_renamed loop (tree.TryCatch x a b) h =
        let z = split (over_stmts (all_true calls_by_name) a) (over_stmts (all_true calls_by_name) b) h in
        does_like (subst (λ o. DeedLike N (try_by o (core_stmts loop (renamed_stmts named a)) (core_stmts loop (renamed_stmts named b))) (try_by (catch_name x) (core_stmts loop a) (core_stmts loop b))) (sym (catch_kept x)) (try_by_like (catch_name x) (stmts_renamed loop a z.0) (stmts_renamed loop b z.1)))
    stmt_renamed loop (tree.ExprStmt e) h = does_like (evaluate_like (expr_renamed loop e h))
    stmt_renamed loop (tree.BreakLoop is_break exported m) h = does_like (where_deed loop (leave_like (break_kind is_break) (maybe_renamed loop m h)))
    stmt_renamed loop (tree.Return is_throw exported m) h = does_like (leave_like (return_kind is_throw) (maybe_renamed loop m h))
    stmt_renamed loop (tree.Import e x) h = alias_by x (expr_renamed loop e h)
    stmt_renamed loop (tree.Export x y) h = var_like _ false (or_own y x) (variable_like x)
    stmt_renamed loop (tree.Share xs) h = does_like ill_deed_like

    pub stmts_renamed : (loop : Bool) (ss : tree.Stmts) → over_stmts (all_true calls_by_name) ss ≡ true → StmtsLike N (core_stmts loop (renamed_stmts named ss)) (core_stmts loop ss)
    stmts_renamed loop tree.no_stmts h = no_stmts_like
    stmts_renamed loop (tree.stmt s ss) h = let z = split (over_stmt (all_true calls_by_name) s) (over_stmts (all_true calls_by_name) ss) h in stmt_like (stmt_renamed loop s z.0) (stmts_renamed loop ss z.1)

  pub function_renamed : (f : tree.Function) → over_stmts (all_true calls_by_name) f.body ≡ true → FunctionLike N (core_function (renamed_function named f)) (core_function f)
  function_renamed f h = function_like (named f.name) f.name f.this_type f.params (stmts_renamed false f.body h)
