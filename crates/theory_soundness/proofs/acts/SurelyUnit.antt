-- A statement that surely is unit gives no other value.
use Rattle.std.proofs.Common.{◌≡◌, Bool, true, false, cond, List, [], ◌∷◌, Option, Some, None, refl}
use Rattle.rhai_base.specs.Value.{Text, Value, UnitV}
use Rattle.rhai_base.specs.Operators.{Operator}
use Rattle.theory_meaning.specs.Act.{World, EntryKind, Env, Act, Acts}
use Rattle.theory_meaning.specs.Chains.{Access}
use Rattle.theory_meaning.specs.Core as core
use Rattle.theory_meaning.specs.Desugar.{guard_by, try_by, target_of, core_expr, core_stmt}
use Rattle.theory_meaning.specs.Meaning.{act, with_args, access, assign_steps, assign, loop, deed}
use Rattle.theory_meaning.specs.Places.{Current}
use Rattle.theory_meaning.specs.Shape.{is_left_side, catch_name}
use Rattle.theory_meaning.specs.Tree.{Expr, UnitConstant, Stmt, Noop, While, Do, For, Var, Assignment, TryCatch}
use Rattle.theory_rewriting.specs.SurelyUnit.{is_surely_unit}
use Rattle.theory_soundness.proofs.acts.Within.{AnyValue, AnyExit, IsUnit, Valueless, CallsIn, Within, WithinAll, in_any, any_calls, any_list, in_give, in_fail, bind_in, choose_in, read_in}
use Rattle.theory_soundness.proofs.acts.Chained.{refreshed_in, applied_in, assign_last_in, assign_root_in}
use Rattle.theory_soundness.proofs.acts.Looped.{always_in, when_in, do_in, for_in, try_in}
use Rattle.theory_soundness.proofs.acts.Unbroken.{list_unbroken}

pub no : {A : Type 0} → false ≡ true → A
no h = absurd (let z : false ≡ true = h in cc)

module _ (w : World) (env : Env) where
  -- whatever it leaves by
  abbrev pub UnitOnly : Act → Type 0
  UnitOnly a = Within w env AnyExit IsUnit a

  deed_or_ill : (b : Bool) (d : core.Deed) → UnitOnly (deed w d) → UnitOnly (deed w (cond b d core.IllDeed))
  deed_or_ill true d h = h
  deed_or_ill false d h = in_fail w env _

  -- ---- assignment

  step_unit : (p : core.Step) {next : Access → Act} → ((r : Access) → UnitOnly (next r)) → UnitOnly (access w p next)
  step_unit core.IllStep h = in_fail w env _
  step_unit (core.Property p) h = h _
  step_unit (core.Index e) h = bind_in w env (in_any w env (act w e)) (λ v y. h _)
  step_unit (core.Method f es) h = args_unit es (λ vs. h _) where
    args_unit : (es : core.Exprs) {f : List Value → Act} → ((vs : List Value) → UnitOnly (f vs)) → UnitOnly (with_args w es f)
    args_unit core.no_exprs k = k []
    args_unit (core.expr e es) k = bind_in w env (in_any w env (act w e)) (λ v y. args_unit es (λ vs. k (v ∷ vs)))

  steps_unit : (sts : core.Steps) (op : Option Operator) (v : Value) (c : Current) → UnitOnly (assign_steps w op v sts c)
  steps_unit (core.last o p) op v c = choose_in w env _ (in_give w env UnitV refl) (step_unit p (λ r. refreshed_in w env AnyExit (λ u. tt) (any_calls env) IsUnit refl c (λ d. assign_last_in w env AnyExit (λ u. tt) (any_calls env) IsUnit refl op v r d)))
  steps_unit (core.more o p sts) op v c = choose_in w env _ (in_give w env UnitV refl) (step_unit p (λ r. refreshed_in w env AnyExit (λ u. tt) (any_calls env) IsUnit refl c (λ d. applied_in w env AnyExit (λ u. tt) (any_calls env) IsUnit refl r d (λ x. steps_unit sts op v x))))

  target_unit : (t : core.Target) (op : Option Operator) (v : Value) → UnitOnly (assign w op t v)
  target_unit core.IllTarget op v = in_fail w env _
  target_unit core.Nowhere op v = in_fail w env _
  target_unit (core.ToRoot r) op v = assign_root_in w env AnyExit (λ u. tt) (any_calls env) IsUnit refl op v r
  target_unit (core.ToPart r sts) op v = bind_in w env (read_in w env r) (λ u y. steps_unit sts op v _)

  -- ---- `try`

  try_unit : (o : Option (Option Text)) (a b : core.Stmts) → UnitOnly (deed w (try_by o a b))
  try_unit None a b = in_fail w env _
  try_unit (Some x) a b = try_in w env AnyExit IsUnit (λ v. tt) refl x (any_list w env _) (any_list w env _)

  -- ---- loops in which no `break` has an expression

  while_unit : (e : Expr) (x : core.Expr) {p : Acts} → WithinAll w env Valueless AnyValue p → UnitOnly (loop w (guard_by e x) p)
  while_unit UnitConstant x h = always_in w env Valueless AnyExit IsUnit (λ y j. tt) tt (λ v j. j) refl h
  while_unit _ x h = when_in w env Valueless AnyExit IsUnit (λ y j. tt) tt (λ v j. j) refl x (in_any w env (act w x)) h

  -- one that declares a name gives unit by what follows
  pub data UnitStmt : core.Stmt → Type 0 where
    unit_deed : {d : core.Deed} → UnitOnly (deed w d) → UnitStmt (core.Does d)
    unit_var : {c : EntryKind} {b : Bool} {x : Text} {e : core.Expr} → UnitStmt (core.Var c b x e)

  pub unit_of : {d : core.Deed} → UnitStmt (core.Does d) → UnitOnly (deed w d)
  unit_of (unit_deed h) = h

  pub surely_unit : CallsIn Valueless env → (l : Bool) (s : Stmt) → is_surely_unit s ≡ true → UnitStmt (core_stmt l s)
  surely_unit calls l Noop h = unit_deed (in_give w env UnitV refl)
  surely_unit calls l (Var c b x e) h = unit_var
  surely_unit calls l (Assignment op a e) h = unit_deed (deed_or_ill (is_left_side a) _ (bind_in w env (in_any w env (act w (core_expr l e))) (λ v y. target_unit (target_of l a) op v)))
  surely_unit calls l (TryCatch x a b) h = unit_deed (try_unit (catch_name x) _ _)
  surely_unit calls l (While e b) h = unit_deed (while_unit e _ (list_unbroken w env calls true false b h UnitV))
  surely_unit calls l (Do n exported e b) h = unit_deed (do_in w env Valueless AnyExit IsUnit (λ y j. tt) tt (λ v j. j) refl n (in_any w env (act w (core_expr l e))) (list_unbroken w env calls true false b h UnitV))
  surely_unit calls l (For x i e b) h = unit_deed (bind_in w env (in_any w env (act w (core_expr l e))) (λ v y. for_in w env Valueless AnyExit IsUnit (λ z j. tt) tt (λ u j. j) refl x i (list_unbroken w env calls true false b h UnitV) v))
  surely_unit calls l _ h = no h
