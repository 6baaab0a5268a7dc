-- What may be asked of every node, so that each rewriting keeps it; l: whether the tree stands in a loop's body.
use Rattle.std.proofs.Common.{◌≡◌, Bool, true, false, List, Option, []}
use Rattle.rhai_base.specs.Value.{Text, Value}
use Rattle.rhai_base.specs.Operators.{Operator}
use Rattle.theory_meaning.specs.Constants.{constant_for, pointer_call}
use Rattle.theory_meaning.specs.Tree.{ChainFlags, SwitchTable, Arms, Callee, Expr, InterpolatedString, ArrayOf, MapOf, MethodCall, BlockExpr, FnCall, Dot, Index, And, Or, Coalesce, Exprs, count_exprs, Pairs, MaybeExpr, Noop, If, Switch, While, Do, For, Var, Assignment, Block, TryCatch, ExprStmt, FnCallStmt, BreakLoop, Return, Import, Share, Stmts, Variable}
use Rattle.theory_meaning.specs.Faults.{has_operands}
use Rattle.theory_meaning.specs.Shape.{keys, is_rest, is_table, is_left_side}
use Rattle.theory_meaning.specs.Walk.{Node, OfExpr, OfStmt, Around, whole}
use Rattle.theory_rewriting.specs.Parts.{constant_of, link}
use Rattle.theory_rewriting.specs.Scripts.{is_place}
use Rattle.theory_rewriting.proofs.Plain.{is_plain_value}

-- the same node with other parts: a call with as many, a map with the same keys, a chain whose rest fits as it did
pub data SameNode : Node → Node → Type 0 where
  same_array : {es es' : Exprs} → SameNode (OfExpr (ArrayOf es)) (OfExpr (ArrayOf es'))
  same_braces : {ss ss' : Stmts} → SameNode (OfExpr (BlockExpr ss)) (OfExpr (BlockExpr ss'))
  same_call : {c : Callee} {es es' : Exprs} → count_exprs es ≡ count_exprs es' → SameNode (OfExpr (FnCall c es)) (OfExpr (FnCall c es'))
  same_if : {e e' : Expr} {a a' b b' : Stmts} → SameNode (OfStmt (If e a b)) (OfStmt (If e' a' b'))
  same_block : {ss ss' : Stmts} → SameNode (OfStmt (Block ss)) (OfStmt (Block ss'))
  same_expression : {e e' : Expr} → SameNode (OfStmt (ExprStmt e)) (OfStmt (ExprStmt e'))
  same_call_statement : {c : Callee} {es es' : Exprs} → count_exprs es ≡ count_exprs es' → SameNode (OfStmt (FnCallStmt c es)) (OfStmt (FnCallStmt c es'))
  same_and : {es es' : Exprs} → has_operands es' ≡ true → SameNode (OfExpr (And es)) (OfExpr (And es'))
  same_or : {es es' : Exprs} → has_operands es' ≡ true → SameNode (OfExpr (Or es)) (OfExpr (Or es'))
  same_coalesce : {es es' : Exprs} → has_operands es' ≡ true → SameNode (OfExpr (Coalesce es)) (OfExpr (Coalesce es'))
  same_text : {es es' : Exprs} → SameNode (OfExpr (InterpolatedString es)) (OfExpr (InterpolatedString es'))
  same_while : {e e' : Expr} {b b' : Stmts} → SameNode (OfStmt (While e b)) (OfStmt (While e' b'))
  same_share : {xs ys : List Text} → SameNode (OfStmt (Share xs)) (OfStmt (Share ys))
  same_switch : {e e' : Expr} {as' bs : Arms} {t t' : SwitchTable} → (is_table as' t ≡ true → is_table bs t' ≡ true) → SameNode (OfStmt (Switch e as' t)) (OfStmt (Switch e' bs t'))
  same_map : {ps ps' : Pairs} {template : List Text} → keys ps ≡ keys ps' → SameNode (OfExpr (MapOf ps template)) (OfExpr (MapOf ps' template))
  same_method : {c : Callee} {es es' : Exprs} → count_exprs es ≡ count_exprs es' → SameNode (OfExpr (MethodCall c es)) (OfExpr (MethodCall c es'))
  same_dot : {f : ChainFlags} {l l' r r' : Expr} → is_rest true f.breaks r ≡ is_rest true f.breaks r' → SameNode (OfExpr (Dot f l r)) (OfExpr (Dot f l' r'))
  same_index : {f : ChainFlags} {l l' r r' : Expr} → is_rest false f.breaks r ≡ is_rest false f.breaks r' → SameNode (OfExpr (Index f l r)) (OfExpr (Index f l' r'))
  same_do : {negated exported : Bool} {e e' : Expr} {b b' : Stmts} → SameNode (OfStmt (Do negated exported e b)) (OfStmt (Do negated exported e' b'))
  same_for : {x : Text} {i : Option Text} {e e' : Expr} {b b' : Stmts} → SameNode (OfStmt (For x i e b)) (OfStmt (For x i e' b'))
  same_var : {constant exported : Bool} {x : Text} {e e' : Expr} → SameNode (OfStmt (Var constant exported x e)) (OfStmt (Var constant exported x e'))
  same_assignment : {op op' : Option Operator} {l l' e e' : Expr} → is_left_side l ≡ is_left_side l' → is_place l ≡ is_place l' → SameNode (OfStmt (Assignment op l e)) (OfStmt (Assignment op' l' e'))
  same_try : {x : Expr} {a a' b b' : Stmts} → SameNode (OfStmt (TryCatch x a b)) (OfStmt (TryCatch x a' b'))
  same_break : {breaks exported : Bool} {m m' : MaybeExpr} → SameNode (OfStmt (BreakLoop breaks exported m)) (OfStmt (BreakLoop breaks exported m'))
  same_return : {throws exported : Bool} {m m' : MaybeExpr} → SameNode (OfStmt (Return throws exported m)) (OfStmt (Return throws exported m'))
  same_import : {x : Text} {e e' : Expr} → SameNode (OfStmt (Import e x)) (OfStmt (Import e' x))

-- the same node has it again, wherever it stands, and what rules make has it
pub record Lasting (P : Around → Node → Type 0) (l : Bool) : Type 0 where
  pub again : {a : Around} {n n' : Node} → SameNode n n' → P a n → P a n'
  pub constant : (v : Value) → is_plain_value v ≡ true → P (whole l) (OfExpr (constant_for v))
  pub value : (v : Value) → P (whole l) (OfExpr (constant_of v))
  pub pointer : (ns : List Text) (x f : Text) → P (whole l) (OfExpr (Variable ns x)) → P (whole l) (OfExpr (pointer_call f))
  pub noop : P (whole l) (OfStmt Noop)
  pub branching : (e : Expr) (a b : Stmts) → P (whole l) (OfStmt (If e a b))
  pub block : (ss : Stmts) → P (whole l) (OfStmt (Block ss))
  pub expression : (e : Expr) → P (whole l) (OfStmt (ExprStmt e))
  pub onward : (dot dot' : Bool) (f m : ChainFlags) (e a e' r : Expr) → f.breaks ≡ false → P (whole l) (OfExpr (link dot f e (link dot' m a r))) → (b : Around) → P b (OfExpr (link dot' m a r)) → P (whole l) (OfExpr (link dot' m e' r))
  pub conjunction : (es : Exprs) → has_operands es ≡ true → P (whole l) (OfExpr (And es))
  pub call : (c : Callee) (es : Exprs) → P (whole l) (OfStmt (FnCallStmt c es)) → P (whole l) (OfExpr (FnCall c es))
  pub call_statement : (c : Callee) (es : Exprs) → P (whole l) (OfExpr (FnCall c es)) → P (whole l) (OfStmt (FnCallStmt c es))
