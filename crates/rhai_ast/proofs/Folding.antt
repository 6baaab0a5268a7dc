-- A walk over the parts of a node is a fold over its children.
use Rattle.std.proofs.Common.{◌≡◌, true, false, ℕ, zero, suc, List, [], ◌∷◌, ◌++◌, map, refl, sym, ap, ◌∙◌}
use Rattle.theory_meaning.specs.Tree.{Expr, DynamicConstant, BoolConstant, IntegerConstant, FloatConstant, CharConstant, StringConstant, UnitConstant, InterpolatedString, ArrayOf, MapOf, Variable, ThisPtr, Property, MethodCall, BlockExpr, FnCall, Dot, Index, And, Or, Coalesce, Exprs, no_exprs, expr, Pairs, no_pairs, pair, MaybeExpr, no_expr, an_expr, Arms, no_arms, arm, Stmt, Noop, If, Switch, While, Do, For, Var, Assignment, FnCallStmt, Block, TryCatch, ExprStmt, BreakLoop, Return, Import, Export, Share, Stmts, no_stmts, stmt, SwitchTable}
use Rattle.theory_meaning.specs.Walk.{Node, OfExpr, OfStmt, Spot, LoopBody, LeftSide, RightSide, Walk, arm_at, arms_at, listed, over_arms, over_expr, over_exprs, over_maybe, over_pairs, over_stmt, over_stmts, parts_of_expr, parts_of_stmt}
use Rattle.rhai_ast.specs.Children.{Child, anywhere, placed_at, one_step, children, over_child, over_children, over_node, over_parts}

-- what is made of parts one after another does not depend on how they are grouped, nor on where no part stands; and the
-- arms of a `switch` are those that its table lists
pub record Folds {ℓ} {A : Type ℓ} (w : Walk A) : Type ℓ where
  pub left : (a : A) → w.both w.none a ≡ a
  pub right : (a : A) → w.both a w.none ≡ a
  pub assoc : (a b c : A) → w.both (w.both a b) c ≡ w.both a (w.both b c)
  pub nowhere : (s : Spot) → w.within s w.none ≡ w.none
  pub across : (s : Spot) (a b : A) → w.within s (w.both a b) ≡ w.both (w.within s a) (w.within s b)
  pub listed_arms : (t : SwitchTable) (as' : List A) → w.arms t as' ≡ arms_at w.none w.both as' (listed t)

module _ {ℓ} {A : Type ℓ} (w : Walk A) (f : Folds w) where
  -- children one after another
  append : (cs ds : List Child) → over_children w (cs ++ ds) ≡ w.both (over_children w cs) (over_children w ds)
  append [] ds = sym (f.left (over_children w ds))
  append (c ∷ cs) ds = ap (w.both (over_child w c)) (append cs ds) ∙ sym (f.assoc (over_child w c) (over_children w cs) (over_children w ds))

  two : (a b : A) (cs ds : List Child) → over_children w cs ≡ a → over_children w ds ≡ b → over_children w (cs ++ ds) ≡ w.both a b
  two a b cs ds p q = append cs ds ∙ ap (λ x. w.both x (over_children w ds)) p ∙ ap (w.both a) q

  one : (n : Node) → over_children w (anywhere n ∷ []) ≡ over_node w n
  one n = f.right (over_node w n)

  one_at : (s : Spot) (n : Node) → over_children w (placed_at s (anywhere n) ∷ []) ≡ w.within s (over_node w n)
  one_at s n = f.right (w.within s (over_node w n))

  of_exprs : (es : Exprs) → over_children w (over_exprs one_step es) ≡ over_exprs w es
  of_exprs no_exprs = refl
  of_exprs (expr e es) = ap (w.both (over_expr w e)) (of_exprs es)

  of_pairs : (ps : Pairs) → over_children w (over_pairs one_step ps) ≡ over_pairs w ps
  of_pairs no_pairs = refl
  of_pairs (pair k e ps) = ap (w.both (over_expr w e)) (of_pairs ps)

  pub of_stmts : (ss : Stmts) → over_children w (over_stmts one_step ss) ≡ over_stmts w ss
  of_stmts no_stmts = refl
  of_stmts (stmt s ss) = ap (w.both (over_stmt w s)) (of_stmts ss)

  of_maybe : (m : MaybeExpr) → over_children w (over_maybe one_step m) ≡ over_maybe w m
  of_maybe no_expr = refl
  of_maybe (an_expr e) = one (OfExpr e)

  -- the body of a loop
  of_body : (ss : Stmts) → over_children w (map (placed_at LoopBody) (over_stmts one_step ss)) ≡ w.within LoopBody (over_stmts w ss)
  of_body no_stmts = sym (f.nowhere LoopBody)
  of_body (stmt s ss) = ap (w.both (w.within LoopBody (over_stmt w s))) (of_body ss) ∙ sym (f.across LoopBody (over_stmt w s) (over_stmts w ss))

  of_arm : (as' : Arms) (i : ℕ) → over_children w (arm_at [] (over_arms one_step as') i) ≡ arm_at w.none (over_arms w as') i
  of_arm no_arms i = refl
  of_arm (arm c a as') zero = ap (w.both (over_expr w c)) (one (OfExpr a))
  of_arm (arm c a as') (suc i) = of_arm as' i

  of_listed : (as' : Arms) (is : List ℕ) → over_children w (arms_at [] (λ cs ds. cs ++ ds) (over_arms one_step as') is) ≡ arms_at w.none w.both (over_arms w as') is
  of_listed as' [] = refl
  of_listed as' (i ∷ is) = two (arm_at w.none (over_arms w as') i) (arms_at w.none w.both (over_arms w as') is) (arm_at [] (over_arms one_step as') i) (arms_at [] (λ cs ds. cs ++ ds) (over_arms one_step as') is) (of_arm as' i) (of_listed as' is)

  of_sides : (s r : Spot) (l e : Expr) → over_children w (placed_at s (anywhere (OfExpr l)) ∷ placed_at r (anywhere (OfExpr e)) ∷ []) ≡ w.both (w.within s (over_expr w l)) (w.within r (over_expr w e))
  of_sides s r l e = ap (w.both (w.within s (over_expr w l))) (one_at r (OfExpr e))

  of_expr : (e : Expr) → over_children w (children (OfExpr e)) ≡ parts_of_expr w e
  of_expr (DynamicConstant v) = refl
  of_expr (BoolConstant b) = refl
  of_expr (IntegerConstant n) = refl
  of_expr (FloatConstant x) = refl
  of_expr (CharConstant c) = refl
  of_expr (StringConstant t) = refl
  of_expr UnitConstant = refl
  of_expr (InterpolatedString es) = of_exprs es
  of_expr (ArrayOf es) = of_exprs es
  of_expr (MapOf ps template) = of_pairs ps
  of_expr (Variable ns x) = refl
  of_expr ThisPtr = refl
  of_expr (Property p) = refl
  of_expr (MethodCall c es) = of_exprs es
  of_expr (BlockExpr ss) = of_stmts ss
  of_expr (FnCall c es) = of_exprs es
  of_expr (Dot k l r) = of_sides LeftSide (RightSide true k r) l r
  of_expr (Index k l r) = of_sides LeftSide (RightSide false k r) l r
  of_expr (And es) = of_exprs es
  of_expr (Or es) = of_exprs es
  of_expr (Coalesce es) = of_exprs es

  of_loop : (e : Expr) (ss : Stmts) → over_children w (anywhere (OfExpr e) ∷ map (placed_at LoopBody) (over_stmts one_step ss)) ≡ w.both (over_expr w e) (w.within LoopBody (over_stmts w ss))
  of_loop e ss = ap (w.both (over_expr w e)) (of_body ss)

  of_stmt : (s : Stmt) → over_children w (children (OfStmt s)) ≡ parts_of_stmt w s
  of_stmt Noop = refl
  of_stmt (If c a b) = ap (w.both (over_expr w c)) (two (over_stmts w a) (over_stmts w b) (over_stmts one_step a) (over_stmts one_step b) (of_stmts a) (of_stmts b))
  of_stmt (Switch e as' t) = ap (w.both (over_expr w e)) (of_listed as' (listed t) ∙ sym (f.listed_arms t (over_arms w as')))
  of_stmt (While e b) = of_loop e b
  of_stmt (Do negated exported e b) = of_loop e b
  of_stmt (For x i e b) = of_loop e b
  of_stmt (Var constant exported x e) = one (OfExpr e)
  of_stmt (Assignment op l e) = ap (w.both (over_expr w l)) (one (OfExpr e))
  of_stmt (FnCallStmt c es) = of_exprs es
  of_stmt (Block ss) = of_stmts ss
  of_stmt (TryCatch x a b) = two (over_stmts w a) (over_stmts w b) (over_stmts one_step a) (over_stmts one_step b) (of_stmts a) (of_stmts b)
  of_stmt (ExprStmt e) = one (OfExpr e)
  of_stmt (BreakLoop breaks exported m) = of_maybe m
  of_stmt (Return throws exported m) = of_maybe m
  of_stmt (Import e x) = one (OfExpr e)
  of_stmt (Export x y) = refl
  of_stmt (Share xs) = refl

  pub over_parts-children : (n : Node) → over_parts w n ≡ over_children w (children n)
  over_parts-children (OfExpr e) = sym (of_expr e)
  over_parts-children (OfStmt s) = sym (of_stmt s)
