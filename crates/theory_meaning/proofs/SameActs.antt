-- What a script means doesn't depend on what a host answers: worlds that differ in that alone make the same acts of it.
use Rattle.std.proofs.Common.{◌≡◌, Bool, true, false, cond, List, [], ◌∷◌, Option, Some, None, refl}
use Rattle.rhai_base.specs.Value.{Text, Value, UnitV, BoolV, TextV, PointerV, holds_float, text_of}
use Rattle.rhai_base.specs.Operators.{Operator}
use Rattle.theory_meaning.specs.Engine.{Engine}
use Rattle.theory_meaning.specs.Act.{Leaves, Host, Key, Root, World, Act, Stop, Then, Read, Resolve, Loop, Scoped, Acts, Do, Named, Finish}
use Rattle.theory_meaning.specs.ActForms.{give, unit, ◌>>=◌, value_then, each_value, choose, if_true, of_constant}
use Rattle.theory_meaning.specs.Calls.{assigned, Word, TypeOf, IsShared, Fn, Curry, CallFn, word, curried, call_pointer, call_word, within, called}
use Rattle.theory_meaning.specs.Chains.{Access, OfProperty, OfIndex, OfMethod, property, index, method_key, to_method, value_alone, method, applied, unless_unit, set_at, assign_last, assign_root}
use Rattle.theory_meaning.specs.Control.{text_in, texts_joined, switch_on, round, while_guarded, do_loop, for_all, try_of}
use Rattle.theory_meaning.specs.Core.{Callee, OnOperator, Qualified, ByName, Expr, Ill, Constant, InterpolatedString, ArrayOf, MapOf, Variable, GlobalVariable, ModuleVariable, ModuleOf, ThisPtr, BlockExpr, FnCall, Chain, And, Or, Coalesce, Exprs, no_exprs, expr, Pairs, no_pairs, pair, Base, OnPlace, OnValue, Step, IllStep, Property, Index, Method, Steps, last, more, Target, IllTarget, Nowhere, ToRoot, ToPart, Guard, Always, When, Arms, no_arms, arm, Deed, IllDeed, Noop, If, Switch, While, Do, For, Assignment, Block, TryCatch, Evaluate, Discard, Leave, Stmt, Var, Does, Stmts, no_stmts, stmt}
use Rattle.theory_meaning.specs.Meaning.{text, exit, module_known, module_at, exporting, act, with_args, with_pairs, both, either, first_some, at_base, access, steps, assign_steps, assign, arm_acts, loop, deed, line, acts}
use Rattle.theory_meaning.specs.Places.{Current, without_place, at_root, refreshed}
use Rattle.theory_meaning.specs.Run.{body_acts}
use Rattle.theory_meaning.specs.Shape.{is_unit}

module _ (engine : Engine) (functions : List Key) (h h' : Host) (modules : (x : Text) → h.module_value x ≡ h'.module_value x) (paths : (p : Text) → h.module_of p ≡ h'.module_of p) (texts : (v : Value) → h.text v ≡ h'.text v) where
  abbrev w : World
  w = record { engine = engine; host = h; functions = functions }

  abbrev w' : World
  w' = record { engine = engine; host = h'; functions = functions }

  same_pointer : (captures : Bool) (v : Value) (vs : List Value) → call_pointer w captures v vs ≡ call_pointer w' captures v vs
  same_pointer captures (PointerV f us) vs = refl
  same_pointer captures _ vs = refl

  same_word : (captures : Bool) (f : Text) (k : Word) (vs : List Value) → call_word w captures f k vs ≡ call_word w' captures f k vs
  same_word captures f TypeOf (v ∷ []) = refl
  same_word captures f IsShared (v ∷ []) = refl
  same_word captures f Fn (v ∷ []) = refl
  same_word captures f Curry (p ∷ vs) = refl
  same_word captures f CallFn (p ∷ vs) = same_pointer captures p vs
  same_word captures f _ vs = refl

  same_called : (c : Callee) (vs : List Value) → called w c vs ≡ called w' c vs
  same_called (OnOperator op) vs = refl
  same_called (Qualified m f) vs = refl
  same_called (ByName f captures) vs = same_word captures f (word f) vs

  same_method : (f : Text) (k : Word) (vs : List Value) (c : Current) (n n' : Current → Act) → ((d : Current) → n d ≡ n' d) → method w f k vs c n ≡ method w' f k vs c n'
  same_method f TypeOf [] c n n' q = q _
  same_method f IsShared [] c n n' q = q _
  same_method f Curry vs c n n' q = λ i. value_alone (curried c.value vs) (λ d. q d i)
  same_method f CallFn vs c n n' q = λ i. value_alone (same_pointer false c.value vs i) (λ d. q d i)
  same_method f k vs c n n' q = λ i. to_method f vs c (method_key w f vs c.value) (λ d. q d i)

  same_applied : (r : Access) (c : Current) (n n' : Current → Act) → ((d : Current) → n d ≡ n' d) → applied w r c n ≡ applied w' r c n'
  same_applied (OfProperty p) c n n' q = λ i. property p c c.value (λ d. q d i)
  same_applied (OfIndex v) c n n' q = λ i. index c c.value v (λ d. q d i)
  same_applied (OfMethod f vs) c n n' q = same_method f (word f) vs c n n' q

  same_refreshed : (r : Access) (c : Current) (n n' : Current → Act) → ((d : Current) → n d ≡ n' d) → refreshed c (λ d. applied w r d n) ≡ refreshed c (λ d. applied w' r d n')
  same_refreshed r c n n' q = λ i. refreshed c (λ d. same_applied r d n n' q i)

  same_assign_last : (op : Option Operator) (v : Value) (r : Access) (c : Current) → assign_last w op v r c ≡ assign_last w' op v r c
  same_assign_last None v r c = refl
  same_assign_last (Some op) v r c = same_applied r c (λ d. assigned w (Some op) d.value v >>= λ x. set_at x r c c.place) (λ d. assigned w' (Some op) d.value v >>= λ x. set_at x r c c.place) (λ d. refl)

  same_last : (op : Option Operator) (v : Value) (r : Access) (c : Current) → refreshed c (λ d. assign_last w op v r d) ≡ refreshed c (λ d. assign_last w' op v r d)
  same_last op v r c = λ i. refreshed c (λ d. same_assign_last op v r d i)

  same_assign_root : (op : Option Operator) (v : Value) (r : Root) → assign_root w op v r ≡ assign_root w' op v r
  same_assign_root None v r = refl
  same_assign_root (Some op) v r = refl

  same_module : (v : Value) → module_at w v ≡ module_at w' v
  same_module (TextV p) = λ i. module_known (paths p i)
  same_module _ = refl

  same_text : (v : Value) → text_in h v ≡ text_in h' v
  same_text v = λ i. cond (holds_float v) (texts v i) (text_of v)

  same_joined : (vs : List Value) → text w vs ≡ text w' vs
  same_joined vs = λ i. give (TextV (texts_joined (λ v. same_text v i) vs))

  mutual
    pub same_act : (e : Expr) → act w e ≡ act w' e
    same_act Ill = refl
    same_act (Constant v) = refl
    same_act (InterpolatedString es) = same_args es _ _ same_joined
    same_act (ArrayOf es) = same_args es _ _ (λ vs. refl)
    same_act (MapOf ps) = same_pairs ps _ _ (λ vs. refl)
    same_act (Variable x) = refl
    same_act (GlobalVariable x) = refl
    same_act (ModuleVariable m x) = λ i. Resolve m (λ n. of_constant (modules (within n x) i))
    same_act (ModuleOf e) = λ i. Then (same_act e i) (λ x. value_then (λ v. same_module v i) x)
    same_act ThisPtr = refl
    same_act (BlockExpr ss) = λ i. Scoped (same_acts true ss UnitV i)
    same_act (FnCall c es) = same_args es _ _ (λ vs. same_called c vs)
    same_act (Chain b sts) = same_base b _ _ (λ c. same_steps sts c)
    same_act (And es) = same_both es
    same_act (Or es) = same_either es
    same_act (Coalesce es) = same_first_some es

    same_args : (es : Exprs) (f f' : List Value → Act) → ((vs : List Value) → f vs ≡ f' vs) → with_args w es f ≡ with_args w' es f'
    same_args no_exprs f f' k = k []
    same_args (expr e es) f f' k = λ i. Then (same_act e i) (λ x. value_then (λ v. same_args es (λ vs. f (v ∷ vs)) (λ vs. f' (v ∷ vs)) (λ vs. k (v ∷ vs)) i) x)

    same_pairs : (ps : Pairs) (f f' : List (Text × Value) → Act) → ((vs : List (Text × Value)) → f vs ≡ f' vs) → with_pairs w ps f ≡ with_pairs w' ps f'
    same_pairs no_pairs f f' q = q []
    same_pairs (pair k e ps) f f' q = λ i. Then (same_act e i) (λ x. value_then (λ v. same_pairs ps (λ vs. f ((k, v) ∷ vs)) (λ vs. f' ((k, v) ∷ vs)) (λ vs. q ((k, v) ∷ vs)) i) x)

    same_both : (es : Exprs) → both w es ≡ both w' es
    same_both no_exprs = refl
    same_both (expr e es) = λ i. Then (same_act e i) (λ x. value_then (λ v. if_true v (same_both es i) (give (BoolV false))) x)

    same_either : (es : Exprs) → either w es ≡ either w' es
    same_either no_exprs = refl
    same_either (expr e es) = λ i. Then (same_act e i) (λ x. value_then (λ v. if_true v (give (BoolV true)) (same_either es i)) x)

    same_first_some : (es : Exprs) → first_some w es ≡ first_some w' es
    same_first_some no_exprs = refl
    same_first_some (expr e es) = λ i. Then (same_act e i) (λ x. value_then (λ v. choose (is_unit v) (same_first_some es i) (give v)) x)

    same_base : (b : Base) (f f' : Current → Act) → ((c : Current) → f c ≡ f' c) → at_base w b f ≡ at_base w' b f'
    same_base (OnPlace r) f f' q = λ i. Then (Read r) (λ x. value_then (λ v. q (at_root v r) i) x)
    same_base (OnValue e) f f' q = λ i. Then (same_act e i) (λ x. value_then (λ v. q (without_place v) i) x)

    same_access : (p : Step) (f f' : Access → Act) → ((r : Access) → f r ≡ f' r) → access w p f ≡ access w' p f'
    same_access IllStep f f' q = refl
    same_access (Property p) f f' q = q (OfProperty p)
    same_access (Index e) f f' q = λ i. Then (same_act e i) (λ x. value_then (λ v. q (OfIndex v) i) x)
    same_access (Method m es) f f' q = same_args es _ _ (λ vs. q (OfMethod m vs))

    same_steps : (sts : Steps) (c : Current) → steps w sts c ≡ steps w' sts c
    same_steps (last o p) c = λ i. unless_unit o c (same_access p _ _ (λ r. same_refreshed r c (λ x. give x.value) (λ x. give x.value) (λ x. refl)) i)
    same_steps (more o p sts) c = λ i. unless_unit o c (same_access p _ _ (λ r. same_refreshed r c (λ x. steps w sts x) (λ x. steps w' sts x) (λ x. same_steps sts x)) i)

    same_assign_steps : (op : Option Operator) (v : Value) (sts : Steps) (c : Current) → assign_steps w op v sts c ≡ assign_steps w' op v sts c
    same_assign_steps op v (last o p) c = λ i. unless_unit o c (same_access p _ _ (λ r. same_last op v r c) i)
    same_assign_steps op v (more o p sts) c = λ i. unless_unit o c (same_access p _ _ (λ r. same_refreshed r c (λ x. assign_steps w op v sts x) (λ x. assign_steps w' op v sts x) (λ x. same_assign_steps op v sts x)) i)

    same_assign : (op : Option Operator) (l : Target) (v : Value) → assign w op l v ≡ assign w' op l v
    same_assign op IllTarget v = refl
    same_assign op Nowhere v = refl
    same_assign op (ToRoot r) v = same_assign_root op v r
    same_assign op (ToPart r sts) v = λ i. Then (Read r) (λ x. value_then (λ u. same_assign_steps op v sts (at_root u r) i) x)

    same_arms : (as' : Arms) → arm_acts w as' ≡ arm_acts w' as'
    same_arms no_arms = refl
    same_arms (arm c a as') = λ i. record { guard = same_act c i; answer = same_act a i } ∷ same_arms as' i

    same_loop : (g : Guard) (body body' : Acts) → body ≡ body' → loop w g body ≡ loop w' g body'
    same_loop Always body body' q = λ i. Loop (round (q i))
    same_loop (When e) body body' q = λ i. while_guarded (same_act e i) (q i)

    same_deed : (d : Deed) → deed w d ≡ deed w' d
    same_deed IllDeed = refl
    same_deed Noop = refl
    same_deed (If c a b) = λ i. Then (same_act c i) (λ x. value_then (λ v. if_true v (Scoped (same_acts true a UnitV i)) (Scoped (same_acts true b UnitV i))) x)
    same_deed (Switch e as' t) = λ i. Then (same_act e i) (λ x. value_then (λ v. switch_on (same_arms as' i) t v) x)
    same_deed (While g b) = same_loop g _ _ (same_acts false b UnitV)
    same_deed (Do negated e b) = λ i. do_loop negated (same_acts false b UnitV i) (same_act e i)
    same_deed (For x k e b) = λ i. Then (same_act e i) (λ y. value_then (λ v. for_all x k (same_acts false b UnitV i) v) y)
    same_deed (Assignment op l e) = λ i. Then (same_act e i) (λ x. value_then (λ v. same_assign op l v i) x)
    same_deed (Block ss) = λ i. Scoped (same_acts true ss UnitV i)
    same_deed (TryCatch x a b) = λ i. try_of (same_acts false a UnitV i) x (same_acts false b UnitV i)
    same_deed (Evaluate e) = same_act e
    same_deed (Discard e) = λ i. Then (same_act e i) (λ x. value_then (λ v. unit) x)
    same_deed (Leave k e) = λ i. Then (same_act e i) (λ x. value_then (λ v. Stop (Leaves (exit k v))) x)

    same_line : (s : Stmt) (f f' : Value → Acts) → ((v : Value) → f v ≡ f' v) → line w s f ≡ line w' s f'
    same_line (Var k b x e) f f' q = λ i. Do (same_act e i) (λ y. each_value (λ v. Named x k v (exporting b x v (q UnitV i))) y)
    same_line (Does d) f f' k = λ i. Do (same_deed d i) (λ x. each_value (λ v. k v i) x)

    pub same_acts : (b : Bool) (ss : Stmts) (v : Value) → acts w b ss v ≡ acts w' b ss v
    same_acts b no_stmts v = refl
    same_acts b (stmt s ss) v = same_line s _ _ (λ u. same_acts b ss u)

  pub same_body : (ss : Stmts) → body_acts w ss ≡ body_acts w' ss
  same_body ss = λ i. Finish (same_acts true ss UnitV i)
