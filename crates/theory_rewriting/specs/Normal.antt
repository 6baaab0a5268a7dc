-- Normal forms: what the relation makes nothing else of. A node's parts in normal form, and lists at which no rule applies.
use Rattle.std.specs.Prelude.{◌≡◌, Bool, true, false, ◌||◌, not}
use Rattle.theory_meaning.specs.Queries.{is_any_dependent}
use Rattle.theory_meaning.specs.Shape.{catch_name}
use Rattle.theory_meaning.specs.Tree.{Expr, InterpolatedString, ArrayOf, MapOf, MethodCall, BlockExpr, FnCall, Dot, Index, And, Or, Coalesce, Stmt, If, Switch, While, Do, For, Var, Assignment, Block, TryCatch, ExprStmt, FnCallStmt, BreakLoop, Return, Import, Stmts, no_stmts, stmt}
use Rattle.theory_rewriting.specs.Context.{Context, behind, naming, naming_some, naming_catch, ListKind, Inside, wanted, wanted_before, open_list, ListContext}
use Rattle.theory_rewriting.specs.Rewriting.{ExprTo, ExprsTo, PairsTo, BaseTo, StepsTo, TargetTo, GuardTo, MaybeTo, ArmsTo, StmtTo, RestTo}
use Rattle.theory_rewriting.specs.Rules.{ListRule}
use Rattle.theory_rewriting.specs.SurelyUnit.{is_surely_unit}

-- whatever the dirty flag is
abbrev pub IsNormal : {A : Type 0} → (Bool → Bool → A → A → Type 0) → A → Type 0
IsNormal {A = A} R x = (d d' : Bool) (x' : A) → R d d' x x' → x' ≡ x

-- ---- the parts of a node

abbrev pub HasNormalParts : Context → Expr → Type 0
HasNormalParts k (InterpolatedString es) = IsNormal (ExprsTo k) es
HasNormalParts k (ArrayOf es) = IsNormal (ExprsTo k) es
HasNormalParts k (MapOf ps template) = IsNormal (PairsTo k) ps
HasNormalParts k (MethodCall c es) = IsNormal (ExprsTo k) es
HasNormalParts k (BlockExpr ss) = IsNormal (RestTo (open_list k) (Inside true) true) ss
HasNormalParts k (FnCall c es) = IsNormal (ExprsTo k) es
HasNormalParts k (Dot f l r) = IsNormal (BaseTo k) l × IsNormal (StepsTo k true f.breaks) r
HasNormalParts k (Index f l r) = IsNormal (BaseTo k) l × IsNormal (StepsTo k false f.breaks) r
HasNormalParts k (And es) = IsNormal (ExprsTo k) es
HasNormalParts k (Or es) = IsNormal (ExprsTo k) es
HasNormalParts k (Coalesce es) = IsNormal (ExprsTo k) es
HasNormalParts k _ = Unit {0}

-- of a statement; the test is whether its value is wanted
abbrev pub StmtHasNormalParts : Context → Bool → Stmt → Type 0
StmtHasNormalParts k w (If e a b) = IsNormal (ExprTo k) e × (IsNormal (RestTo (open_list k) (Inside w) true) a × IsNormal (RestTo (open_list k) (Inside w) true) b)
StmtHasNormalParts k w (Switch e as' t) = IsNormal (ExprTo k) e × IsNormal (ArmsTo k) as'
StmtHasNormalParts k w (While e b) = IsNormal (GuardTo k) e × IsNormal (RestTo (open_list k) (Inside false) true) b
StmtHasNormalParts k w (Do negated exported e b) = IsNormal (ExprTo k) e × IsNormal (RestTo (open_list k) (Inside false) true) b
StmtHasNormalParts k w (For x i e b) = IsNormal (ExprTo k) e × IsNormal (RestTo (open_list (naming x (naming_some i k))) (Inside false) true) b
StmtHasNormalParts k w (Var constant exported x e) = IsNormal (ExprTo k) e
StmtHasNormalParts k w (Assignment op l e) = IsNormal (TargetTo k) l × IsNormal (ExprTo k) e
StmtHasNormalParts k w (Block ss) = IsNormal (RestTo (open_list k) (Inside w) true) ss
StmtHasNormalParts k w (TryCatch x a b) = IsNormal (RestTo (open_list k) (Inside false) true) a × IsNormal (RestTo (open_list (naming_catch (catch_name x) k)) (Inside false) true) b
StmtHasNormalParts k w (ExprStmt e) = IsNormal (ExprTo k) e
StmtHasNormalParts k w (FnCallStmt c es) = IsNormal (ExprsTo k) es
StmtHasNormalParts k w (BreakLoop breaks exported m) = IsNormal (MaybeTo k) m
StmtHasNormalParts k w (Return throws exported m) = IsNormal (MaybeTo k) m
StmtHasNormalParts k w (Import e x) = IsNormal (ExprTo k) e
StmtHasNormalParts k w _ = Unit {0}

-- ---- lists

-- each statement, under what those before it declare
abbrev pub AreNormalEach : ListContext → ListKind → Stmts → Type 0
AreNormalEach k m no_stmts = Unit {0}
AreNormalEach k m (stmt s ss) = IsNormal (StmtTo k.context (wanted_before (wanted m) ss)) s × AreNormalEach (behind s k) m ss

-- a block that gives way to its statements
abbrev pub gives_way : Stmt → Bool
gives_way (Block ss) = not (is_any_dependent ss)
gives_way _ = false

abbrev pub any_gives_way : Stmts → Bool
any_gives_way no_stmts = false
any_gives_way (stmt s ss) = gives_way s || any_gives_way ss

-- at each statement no rule of lists applies but the one by which a block gives way
abbrev pub AreSwept : ListKind → Bool → Stmts → Type 0
AreSwept m u no_stmts = Unit {0}
AreSwept m u (stmt s ss) = ((k : Context) (ss' : Stmts) → ListRule k m u (stmt s ss) ss' → gives_way s ≡ true) × AreSwept m (is_surely_unit s) ss
