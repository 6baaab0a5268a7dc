-- What scripts do: the act of each construct, by recursion on the core alone.
use Rattle.std.specs.Prelude.{Bool, true, false, List, [], ◌∷◌, Option, Some, None}
use Rattle.rhai_base.specs.Value.{Text, Value, UnitV, BoolV, TextV, ArrayV, MapV, values}
use Rattle.rhai_base.specs.Operators.{Operator}
use Rattle.theory_meaning.specs.Act.{Exit, Returns, Breaks, Continues, Throws, Leaves, WrongKind, NoPlace, UnknownModule, IsExport, OfName, OfGlobal, OfThis, World, Act, Stop, Fail, Read, Resolve, Loop, Scoped, Acts, Only, Named}
use Rattle.theory_meaning.specs.Core.{ExitKind, Breaking, Continuing, Returning, Throwing, Expr, Ill, Constant, InterpolatedString, ArrayOf, MapOf, Variable, GlobalVariable, ModuleVariable, ModuleOf, ThisPtr, BlockExpr, FnCall, Chain, And, Or, Coalesce, Exprs, no_exprs, expr, Pairs, no_pairs, pair, Base, OnPlace, OnValue, Step, IllStep, Property, Index, Method, Steps, last, more, Target, IllTarget, Nowhere, ToRoot, ToPart, Guard, Always, When, Arms, no_arms, arm, Deed, IllDeed, Noop, If, Switch, While, Do, For, Assignment, Block, TryCatch, Evaluate, Discard, Leave, Stmt, Var, Does, Stmts, no_stmts, stmt}
use Rattle.theory_meaning.specs.ActForms.{give, unit, choose, if_true, ◌>>=◌, then_line, of_constant}
use Rattle.theory_meaning.specs.Calls.{within, called}
use Rattle.theory_meaning.specs.Chains.{Access, OfProperty, OfIndex, OfMethod, applied, unless_unit, assign_last, assign_root}
use Rattle.theory_meaning.specs.Control.{text_in, texts_joined, ArmActs, switch_on, round, while_guarded, do_loop, for_all, try_of}
use Rattle.theory_meaning.specs.Elements.{fields_of}
use Rattle.theory_meaning.specs.Places.{Current, without_place, at_root, refreshed}
use Rattle.theory_meaning.specs.Shape.{is_unit}

abbrev pub exit : ExitKind → Value → Exit
exit Breaking v = Breaks v
exit Continuing v = Continues
exit Returning v = Returns v
exit Throwing v = Throws v

-- a list's value, where it is wanted
abbrev pub wanted_value : Bool → Value → Value
wanted_value true v = v
wanted_value false v = UnitV

-- the module that the host knows by a path
abbrev pub module_known : Option Text → Act
module_known (Some m) = give (TextV m)
module_known None = Fail UnknownModule

abbrev pub module_at : World → Value → Act
module_at w (TextV p) = module_known (w.host.module_of p)
module_at w _ = Fail WrongKind

-- before a list an export of a value, or nothing
abbrev pub exporting : Bool → Text → Value → Acts → Acts
exporting true x v p = Named x IsExport v p
exporting false x v p = p

abbrev pub text : World → List Value → Act
text w vs = give (TextV (texts_joined (text_in w.host) vs))

abbrev mutual
  pub act : World → Expr → Act
  act w Ill = Fail WrongKind
  act w (Constant v) = give v
  act w (InterpolatedString es) = with_args w es (text w)
  act w (ArrayOf es) = with_args w es (λ vs. give (ArrayV (values vs)))
  act w (MapOf ps) = with_pairs w ps (λ vs. give (MapV (fields_of vs)))
  act w (Variable x) = Read (OfName x)
  act w (GlobalVariable x) = Read (OfGlobal x)
  act w (ModuleVariable m x) = Resolve m (λ n. of_constant (w.host.module_value (within n x)))
  act w (ModuleOf e) = act w e >>= λ v. module_at w v
  act w ThisPtr = Read OfThis
  act w (BlockExpr ss) = Scoped (acts w true ss UnitV)
  act w (FnCall c es) = with_args w es (λ vs. called w c vs)
  act w (Chain b sts) = at_base w b (λ c. steps w sts c)
  act w (And es) = both w es
  act w (Or es) = either w es
  act w (Coalesce es) = first_some w es

  pub with_args : World → Exprs → (List Value → Act) → Act
  with_args w no_exprs next = next []
  with_args w (expr e es) next = act w e >>= λ v. with_args w es (λ vs. next (v ∷ vs))

  pub with_pairs : World → Pairs → (List (Text × Value) → Act) → Act
  with_pairs w no_pairs next = next []
  with_pairs w (pair k e ps) next = act w e >>= λ v. with_pairs w ps (λ vs. next ((k, v) ∷ vs))

  pub both : World → Exprs → Act
  both w no_exprs = give (BoolV true)
  both w (expr e es) = act w e >>= λ v. if_true v (both w es) (give (BoolV false))

  pub either : World → Exprs → Act
  either w no_exprs = give (BoolV false)
  either w (expr e es) = act w e >>= λ v. if_true v (give (BoolV true)) (either w es)

  pub first_some : World → Exprs → Act
  first_some w no_exprs = unit
  first_some w (expr e es) = act w e >>= λ v. choose (is_unit v) (first_some w es) (give v)

  pub at_base : World → Base → (Current → Act) → Act
  at_base w (OnPlace r) next = Read r >>= λ v. next (at_root v r)
  at_base w (OnValue e) next = act w e >>= λ v. next (without_place v)

  pub access : World → Step → (Access → Act) → Act
  access w IllStep next = Fail WrongKind
  access w (Property p) next = next (OfProperty p)
  access w (Index e) next = act w e >>= λ v. next (OfIndex v)
  access w (Method f es) next = with_args w es (λ vs. next (OfMethod f vs))

  pub steps : World → Steps → Current → Act
  steps w (last o p) c = unless_unit o c (access w p (λ r. refreshed c (λ d. applied w r d (λ x. give x.value))))
  steps w (more o p sts) c = unless_unit o c (access w p (λ r. refreshed c (λ d. applied w r d (λ x. steps w sts x))))

  pub assign_steps : World → Option Operator → Value → Steps → Current → Act
  assign_steps w op v (last o p) c = unless_unit o c (access w p (λ r. refreshed c (λ d. assign_last w op v r d)))
  assign_steps w op v (more o p sts) c = unless_unit o c (access w p (λ r. refreshed c (λ d. applied w r d (λ x. assign_steps w op v sts x))))

  pub assign : World → Option Operator → Target → Value → Act
  assign w op IllTarget v = Fail WrongKind
  assign w op Nowhere v = Fail NoPlace
  assign w op (ToRoot r) v = assign_root w op v r
  assign w op (ToPart r sts) v = Read r >>= λ u. assign_steps w op v sts (at_root u r)

  pub arm_acts : World → Arms → List ArmActs
  arm_acts w no_arms = []
  arm_acts w (arm c a as') = record { guard = act w c; answer = act w a } ∷ arm_acts w as'

  pub loop : World → Guard → Acts → Act
  loop w Always body = Loop (round body)
  loop w (When e) body = while_guarded (act w e) body

  pub deed : World → Deed → Act
  deed w IllDeed = Fail WrongKind
  deed w Noop = unit
  deed w (If c a b) = act w c >>= λ v. if_true v (Scoped (acts w true a UnitV)) (Scoped (acts w true b UnitV))
  deed w (Switch e as' t) = act w e >>= λ v. switch_on (arm_acts w as') t v
  deed w (While g b) = loop w g (acts w false b UnitV)
  deed w (Do negated e b) = do_loop negated (acts w false b UnitV) (act w e)
  deed w (For x i e b) = act w e >>= λ v. for_all x i (acts w false b UnitV) v
  deed w (Assignment op l e) = act w e >>= λ v. assign w op l v
  deed w (Block ss) = Scoped (acts w true ss UnitV)
  deed w (TryCatch x a b) = try_of (acts w false a UnitV) x (acts w false b UnitV)
  deed w (Evaluate e) = act w e
  deed w (Discard e) = act w e >>= λ v. unit
  deed w (Leave k e) = act w e >>= λ v. Stop (Leaves (exit k v))

  pub line : World → Stmt → (Value → Acts) → Acts
  line w (Var k exported x e) next = then_line (act w e) (λ v. Named x k v (exporting exported x v (next UnitV)))
  line w (Does d) next = then_line (deed w d) next

  pub acts : World → Bool → Stmts → Value → Acts
  acts w b no_stmts v = Only (give (wanted_value b v))
  acts w b (stmt s ss) v = line w s (λ u. acts w b ss u)
