-- A sweep over a list of statements, from its end.
use Rattle.std.specs.Prelude.{◌≡◌, ◌<◌, ℕ, List, Bool, true, false, cond, ◌&&◌, ◌||◌, not, Option, Some, None, if◌then◌else◌}
use Rattle.theory_meaning.specs.Queries.{is_pure, is_internally_pure, are_internally_pure, is_noop}
use Rattle.theory_meaning.specs.Tree.{Expr, Variable, BlockExpr, Stmt, Noop, If, While, Do, For, Var, Assignment, Block, TryCatch, ExprStmt, Return, Import, Export, no_expr, an_expr, Stmts, no_stmts, stmt}
use Rattle.theory_rewriting.specs.Clear.{AreClear}
use Rattle.theory_rewriting.specs.Exports.{exports_nothing, stmt_exports_nothing}
use Rattle.theory_rewriting.specs.Known.{Known}
use Rattle.theory_rewriting.specs.Normal.{AreNormalEach, AreSwept}
use Rattle.theory_rewriting.specs.Context.{ListContext, ListKind, Whole, Inside, wanted, wanted_before}
use Rattle.theory_rewriting.specs.Reducible.{goes_on_after_leaving, idles, ends_in_return}
use Rattle.theory_rewriting.specs.Rewriting.{RestTo}
use Rattle.theory_rewriting.specs.Rules.{is_pure_in}
use Rattle.theory_rewriting.specs.SurelyUnit.{is_surely_unit}
use Rattle.opt_lists.specs.declared.behind.Behind.{Behind}
use Rattle.opt_lists.specs.declared.behind.Fading.{Fading}
use Rattle.opt_lists.specs.declared.behind.Fading.TheVariants as fading_kind
use Rattle.opt_lists.specs.declared.behind.Going.{Going}
use Rattle.opt_lists.specs.declared.behind.Going.TheVariants as going_kind

-- ---- what a statement is by itself

abbrev pub is_nothing : Stmts → Bool
is_nothing no_stmts = true
is_nothing (stmt s ss) = false

abbrev pub is_name : Expr → Bool
is_name (Variable ns x) = true
is_name _ = false

-- a name alone
abbrev pub is_lone : Stmt → Bool
is_lone (ExprStmt e) = is_name e
is_lone _ = false

-- pure inside a list, and it exports nothing
abbrev pub is_quiet : Stmt → Bool
is_quiet s = is_internally_pure s && stmt_exports_nothing s

-- it may be pure inside a list though it is not pure: it adds names, or is an expression in braces
abbrev pub is_in_braces : Expr → Bool
is_in_braces (BlockExpr ss) = true
is_in_braces _ = false

abbrev pub differs_inside : Stmt → Bool
differs_inside (Var constant exported x e) = true
differs_inside (Import e x) = true
differs_inside (Export x y) = true
differs_inside (ExprStmt e) = is_in_braces e
differs_inside _ = false

-- its lists are empty; that of a `while` is not asked, which is pure by its condition alone
abbrev pub holds_nothing : Stmt → Bool
holds_nothing (If e a b) = is_nothing a && is_nothing b
holds_nothing (Do negated exported e b) = is_nothing b
holds_nothing (For x i e b) = is_nothing b
holds_nothing (Block ss) = is_nothing ss
holds_nothing (TryCatch x a b) = is_nothing a && is_nothing b
holds_nothing _ = true

-- pure, as is told without going through a list in it: in normal form, where its value is not wanted, nothing else is pure
abbrev pub is_pure_by_itself : Stmt → Bool
is_pure_by_itself s = holds_nothing s && is_pure s

abbrev pub is_inside_by_itself : Stmt → Bool
is_inside_by_itself s = holds_nothing s && is_internally_pure s

-- inside a list, before quiet ones (the first test)
abbrev pub goes_inside : ListKind → Bool → Stmt → Bool
goes_inside Whole b s = false
goes_inside (Inside w) b s = b && is_inside_by_itself s

-- by which rule it goes where its value is not wanted; the first test is whether all that follow are quiet
abbrev pub goes_by : ListKind → Bool → Stmt → Option Going
goes_by m b s =
    if is_pure_by_itself s then Some going_kind.Pure
    else if is_lone s then Some going_kind.Lone
    else if goes_inside m b s then Some going_kind.PureInside
    else None

abbrev pub goes_as : Going → ListKind → Bool → Stmt → Bool
goes_as going_kind.Pure m b s = is_pure s
goes_as going_kind.Lone m b s = is_lone s
goes_as going_kind.PureInside m b s = goes_inside m b s

-- `return e` and `return;` of a script or a function
abbrev pub whole_returns_value : Stmt → Bool
whole_returns_value (Return false exported (an_expr e)) = true
whole_returns_value _ = false

abbrev pub whole_returns_nothing : Stmt → Bool
whole_returns_nothing (Return false exported no_expr) = true
whole_returns_nothing _ = false

abbrev pub returns_value : ListKind → Stmt → Bool
returns_value Whole s = whole_returns_value s
returns_value (Inside b) s = false

abbrev pub returns_nothing : ListKind → Stmt → Bool
returns_nothing Whole s = whole_returns_nothing s
returns_nothing (Inside b) s = false

-- the expression of a `return`
abbrev pub bared : Stmt → Stmt
bared (Return throws exported (an_expr e)) = ExprStmt e
bared s = s

-- it may be surely unit, by its kind
abbrev pub may_be_unit : Stmt → Bool
may_be_unit Noop = true
may_be_unit (Var constant exported x e) = true
may_be_unit (Assignment op l e) = true
may_be_unit (TryCatch x a b) = true
may_be_unit (While e b) = true
may_be_unit (Do negated exported e b) = true
may_be_unit (For x i e b) = true
may_be_unit _ = false

-- as the last one it goes behind unit, and else does nothing: by which rules
abbrev pub fades_as : Fading → ListKind → Stmt → Bool
fades_as fading_kind.LastReturn m s = returns_nothing m s
fades_as fading_kind.LastUnit m s = is_pure_in m s && is_surely_unit s

abbrev pub return_fades : ListKind → Stmt → Option Fading
return_fades m s = if returns_nothing m s then Some fading_kind.LastReturn else None

-- pure in such a list and surely unit, as is told without going through a list in it
abbrev pub is_pure_unit : ListKind → Stmt → Bool
is_pure_unit m s = holds_nothing s && is_pure_in m s && is_surely_unit s

abbrev pub unit_fades : ListKind → Stmt → Option Fading
unit_fades m s = if is_pure_unit m s then Some fading_kind.LastUnit else None

-- it fades by the second of these, and it exports or reads what is before it
abbrev pub fades_aloud : ListKind → Stmt → Bool
fades_aloud m s = is_pure_unit m s && not (is_quiet s)

-- ---- what is kept of a list

-- of a script's or a function's list: the last statement returns an expression
abbrev pub returns_at_end : ListKind → Stmts → Bool
returns_at_end Whole ss = ends_in_return ss
returns_at_end (Inside b) ss = false

-- statements in their order; behind them the last one may do nothing, or be the expression of a `return` (the test)
pub data Keeps : Bool → Stmts → Stmts → Type 0 where
  keeps_none : {ss : Stmts} → Keeps false ss no_stmts
  keeps : {b : Bool} {s : Stmt} {ss rest : Stmts} → Keeps b ss rest → Keeps b (stmt s ss) (stmt s rest)
  skips : {b : Bool} {s : Stmt} {ss rest : Stmts} → Keeps b ss rest → Keeps b (stmt s ss) rest
  keeps_noop : {ss : Stmts} → Keeps false ss (stmt Noop no_stmts)
  keeps_bared : {exported : Bool} {e : Expr} {ss : Stmts} → Keeps true (stmt (Return false exported (an_expr e)) ss) (stmt (ExprStmt e) no_stmts)

-- nothing of what the sweep decides is left to do
pub record IsSwept (m : ListKind) (ss : Stmts) : Type 0 where
  pub ends_where_left : goes_on_after_leaving ss ≡ false
  pub never_idles : idles ss ≡ false
  pub returns_nowhere : returns_at_end m ss ≡ false

-- each is pure inside a list, and exports nothing
abbrev pub AreQuiet : Stmts → Type 0
AreQuiet ss = (are_internally_pure ss ≡ true) × (exports_nothing ss ≡ true)

-- one statement alone, which fades
abbrev pub FadesAlone : ListKind → Fading → Stmts → Type 0
FadesAlone m x rest = (wanted m ≡ true) × ((t : Stmt) × (rest ≡ stmt t no_stmts) × (fades_as x m t ≡ true))

-- the test says so where these statements are quiet, inside a list; where nothing stands before them it is not asked
abbrev pub HearsQuiet : ListKind → Bool → Stmts → Type 0
HearsQuiet m quiet rest = (w : Bool) → m ≡ Inside w → AreQuiet rest → quiet ≡ true

-- these statements, from a place of a list on, are decided: the rest of them is kept. Where nothing has changed and each is in normal form, no
-- rule of lists applies at one that is kept but that by which a block gives way; one that fades is to be decided where it is known what stands
-- before it
pub record DecidedTo (m : ListKind) (at : ℕ) (b : Behind) (ss rest : Stmts) : Type 0 where
  pub to : (k : ListContext) (u d : Bool) → RestTo k m u d (b.has_changed || d) ss rest
  pub kept : Keeps b.is_bared ss rest
  pub clear : b.is_bared ≡ false → (ks : List Known) → AreClear ks ss → AreClear ks rest
  pub bared : b.is_bared ≡ true → b.has_changed ≡ true
  pub swept : IsSwept m rest
  pub last : b.is_last ≡ is_nothing rest
  pub fading : (x : Fading) → b.fading ≡ Some x → FadesAlone m x rest
  pub quiet : b.is_quiet ≡ true → AreQuiet rest
  pub hears : 0 < at → b.has_changed ≡ false → (k : ListContext) → AreNormalEach k m rest → HearsQuiet m b.is_quiet rest
  pub settled : b.has_changed ≡ false → b.fading ≡ None → (k : ListContext) → AreNormalEach k m rest → (u : Bool) → AreSwept m u rest

-- ---- a list in which what goes is marked by a `Noop` whose value is not wanted

abbrev pub closed_up : Bool → Stmts → Stmts
closed_up w no_stmts = no_stmts
closed_up w (stmt s ss) = cond (is_noop s && not (wanted_before w ss)) (closed_up w ss) (stmt s (closed_up w ss))
