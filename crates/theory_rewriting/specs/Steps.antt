-- What the functions of the optimiser promise: a tree was rewritten, nothing in it is left to reduce, and the same names are known.
use Rattle.std.specs.Prelude.{◌≡◌, ◌<◌, Bool, true, false, List, [], ◌∷◌, ◌++◌, Option, Some, None}
use Rattle.theory_meaning.specs.Act.{OfName}
use Rattle.theory_meaning.specs.Desugar.{root_of}
use Rattle.theory_meaning.specs.Engine.{Engine}
use Rattle.theory_meaning.specs.Queries.{is_unit}
use Rattle.theory_meaning.specs.Shape.{is_rest, is_argument, is_left_side}
use Rattle.rhai_base.specs.Value.{Text}
use Rattle.theory_meaning.specs.Tree.{Expr, MethodCall, Dot, Index, Exprs, Pairs, MaybeExpr, Arms, no_arms, arm, Stmt, If, Switch, Stmts, joined}
use Rattle.theory_meaning.specs.Walk.{OfExpr, OfStmt, over_exprs, over_pairs, over_maybe}
use Rattle.theory_meaning.specs.Weight.{stmt_weight, weight}
use Rattle.theory_rewriting.specs.Answering.{AnswersNothing, of_first}
use Rattle.theory_rewriting.specs.Clear.{known_value, IsClearExpr, AreClearExprs, HasClearParts, IsClear, AreClear}
use Rattle.theory_rewriting.specs.Residue.{IsReducedNode, IsReducedExpr, AreReducedExprs, AreReducedPairs, IsReducedMaybe, AreReducedArms, IsReduced, AreReduced, ExprParts, StmtParts}
use Rattle.theory_rewriting.specs.Context.{Context, ListContext, open_list, closed_list, knowing, naming, naming_some, naming_catch, known_behind, ListKind, Whole, Inside, wanted, wanted_before}
use Rattle.theory_rewriting.specs.Known.{Known, globals_of}
use Rattle.theory_rewriting.specs.Normal.{IsNormal, HasNormalParts, StmtHasNormalParts, AreNormalEach, AreSwept, any_gives_way}
use Rattle.theory_rewriting.specs.Reducible.{goes_on_after_leaving, idles, ends_in_return, IsIrreducibleList}
use Rattle.theory_rewriting.specs.Rewriting.{ExprTo, ExprsTo, PairsTo, MaybeTo, ArmsTo, ChainTo, BaseTo, GuardTo, StepsTo, ArgumentTo, TargetTo, StmtTo, RestTo, StmtsTo}
use Rattle.theory_rewriting.specs.Rules.{ExprRule, StmtRule}

-- ---- where something stands

-- what changes while a script is optimised: whether a rule has fired, and the names that are known, the newest first
pub record Progress : Type 0 where
  pub is_dirty : Bool
  pub known : List Known

-- where rules apply then
abbrev pub here : Engine → Progress → Context
here r s = knowing r s.known

-- where an expression stands: the base of a chain, the guard of a `while`, or anywhere else
pub data Place : Type 0 where
  Anywhere : Place
  AsBase : Place
  AsGuard : Place

-- what it may become there: a base stays a place or none, a guard a literal unit or none
abbrev pub MayBecome : Place → Expr → Expr → Type 0
MayBecome Anywhere e e' = Unit {0}
MayBecome AsBase e e' = root_of e' ≡ root_of e
MayBecome AsGuard e e' = is_unit e' ≡ is_unit e

-- no rule makes of it what it may become there
abbrev pub NoExprRule : Context → Place → Expr → Type 0
NoExprRule k p e = (e' : Expr) → ExprRule k e e' → MayBecome p e e' → ⊥

-- it is in normal form there
abbrev pub IsNormalAt : Place → Context → Expr → Type 0
IsNormalAt Anywhere k e = IsNormal (ExprTo k) e
IsNormalAt AsBase k e = IsNormal (BaseTo k) e
IsNormalAt AsGuard k e = IsNormal (GuardTo k) e

abbrev pub NoStmtRule : Context → Stmt → Type 0
NoStmtRule k x = (w : Bool) (x' : Stmt) → StmtRule k w x x' → ⊥

-- ---- a tree with its parts

-- a whole expression that is no chain with an answer, and lists of them
abbrev pub AnswersNone : Expr → Type 0
AnswersNone e = AnswersNothing (OfExpr e)

abbrev pub AnswerNone : Exprs → Type 0
AnswerNone es = over_exprs (of_first AnswersNothing) es

abbrev pub PairsAnswerNone : Pairs → Type 0
PairsAnswerNone ps = over_pairs (of_first AnswersNothing) ps

abbrev pub MaybeAnswersNone : MaybeExpr → Type 0
MaybeAnswersNone m = over_maybe (of_first AnswersNothing) m

abbrev pub ArmsAnswerNone : Arms → Type 0
ArmsAnswerNone no_arms = Unit {0}
ArmsAnswerNone (arm c a as') = (AnswersNone c × AnswersNone a) × ArmsAnswerNone as'

pub record ExprRun (r : Engine) (p : Place) (s s' : Progress) (e e' : Expr) : Type 0 where
  pub to : ExprTo (here r s) s.is_dirty s'.is_dirty e e'
  pub stays : MayBecome p e e'
  pub answers : AnswersNone e'
  pub reduced : IsReducedExpr r e'
  pub clear : p ≡ Anywhere → IsClearExpr s.known e'
  pub known : s'.known ≡ s.known
  pub normal : s'.is_dirty ≡ false → IsNormalAt p (here r s) e'

pub record ExprsRun (r : Engine) (s s' : Progress) (es es' : Exprs) : Type 0 where
  pub to : ExprsTo (here r s) s.is_dirty s'.is_dirty es es'
  pub answers : AnswerNone es'
  pub reduced : AreReducedExprs r es'
  pub clear : AreClearExprs s.known es'
  pub known : s'.known ≡ s.known
  pub normal : s'.is_dirty ≡ false → IsNormal (ExprsTo (here r s)) es'

pub record PairsRun (r : Engine) (s s' : Progress) (ps ps' : Pairs) : Type 0 where
  pub to : PairsTo (here r s) s.is_dirty s'.is_dirty ps ps'
  pub answers : PairsAnswerNone ps'
  pub reduced : AreReducedPairs r ps'
  pub known : s'.known ≡ s.known
  pub normal : s'.is_dirty ≡ false → IsNormal (PairsTo (here r s)) ps'

pub record MaybeRun (r : Engine) (s s' : Progress) (m m' : MaybeExpr) : Type 0 where
  pub to : MaybeTo (here r s) s.is_dirty s'.is_dirty m m'
  pub answers : MaybeAnswersNone m'
  pub reduced : IsReducedMaybe r m'
  pub known : s'.known ≡ s.known
  pub normal : s'.is_dirty ≡ false → IsNormal (MaybeTo (here r s)) m'

pub record ArmsRun (r : Engine) (s s' : Progress) (as' bs : Arms) : Type 0 where
  pub to : ArmsTo (here r s) s.is_dirty s'.is_dirty as' bs
  pub answers : ArmsAnswerNone bs
  pub reduced : AreReducedArms r bs
  pub known : s'.known ≡ s.known
  pub normal : s'.is_dirty ≡ false → IsNormal (ArmsTo (here r s)) bs

-- the rest of a chain, where it ends (breaks) or goes on, and the argument of a node in it; what is no such rest or argument is not opened
pub record StepsRun (r : Engine) (dot breaks : Bool) (s s' : Progress) (e e' : Expr) : Type 0 where
  pub to : StepsTo (here r s) dot breaks s.is_dirty s'.is_dirty e e'
  pub answers : is_rest dot breaks e' ≡ true → breaks ≡ true → AnswersNone e'
  pub reduced : is_rest dot breaks e' ≡ true → IsReducedExpr r e'
  pub known : s'.known ≡ s.known
  pub normal : s'.is_dirty ≡ false → IsNormal (StepsTo (here r s) dot breaks) e'

pub record ArgumentRun (r : Engine) (dot : Bool) (s s' : Progress) (e e' : Expr) : Type 0 where
  pub to : ArgumentTo (here r s) dot s.is_dirty s'.is_dirty e e'
  pub answers : is_argument dot e' ≡ true → AnswersNone e'
  pub reduced : is_argument dot e' ≡ true → IsReducedExpr r e'
  pub known : s'.known ≡ s.known
  pub normal : s'.is_dirty ≡ false → IsNormal (ArgumentTo (here r s) dot) e'

-- a chain by its outermost node, and a left side
pub record ChainRun (r : Engine) (s s' : Progress) (e e' : Expr) : Type 0 where
  pub to : ChainTo (here r s) s.is_dirty s'.is_dirty e e'
  pub parts : IsReducedExpr r e'
  pub known : s'.known ≡ s.known
  pub normal : s'.is_dirty ≡ false → HasNormalParts (here r s) e'

pub record TargetRun (r : Engine) (s s' : Progress) (e e' : Expr) : Type 0 where
  pub to : TargetTo (here r s) s.is_dirty s'.is_dirty e e'
  pub reduced : is_left_side e' ≡ true → IsReducedExpr r e'
  pub known : s'.known ≡ s.known
  pub normal : s'.is_dirty ≡ false → IsNormal (TargetTo (here r s)) e'

pub record StmtRun (r : Engine) (w : Bool) (s s' : Progress) (x x' : Stmt) : Type 0 where
  pub to : StmtTo (here r s) w s.is_dirty s'.is_dirty x x'
  pub reduced : IsReduced r x'
  pub clear : IsClear s.known x'
  pub known : s'.known ≡ s.known
  pub normal : s'.is_dirty ≡ false → IsNormal (StmtTo (here r s) w) x'

-- a statement of a list, and then what is known behind it
pub record ItemRun (r : Engine) (w : Bool) (s s' : Progress) (x x' : Stmt) : Type 0 where
  pub to : StmtTo (here r s) w s.is_dirty s'.is_dirty x x'
  pub reduced : IsReduced r x'
  pub clear : IsClear s.known x'
  pub known : s'.known ≡ known_behind x' s.known
  pub normal : s'.is_dirty ≡ false → IsNormal (StmtTo (here r s) w) x'

-- each statement of a list, whatever stands before the list; what they declare comes in front
pub record EachRun (r : Engine) (m : ListKind) (s s' : Progress) (ss ss' : Stmts) : Type 0 where
  pub to : (u : Bool) → RestTo (open_list (here r s)) m u s.is_dirty s'.is_dirty ss ss'
  pub reduced : AreReduced r ss'
  pub clear : AreClear s.known ss'
  pub front : List Known
  pub names : globals_of front ≡ []
  pub known : s'.known ≡ front ++ s.known
  pub normal : s'.is_dirty ≡ false → AreNormalEach (open_list (here r s)) m ss'

-- statements of a list in which `eval` was called
pub record UnknownRun (r : Engine) (m : ListKind) (s s' : Progress) (ss ss' : Stmts) : Type 0 where
  pub to : (u : Bool) → RestTo (closed_list (here r s)) m u s.is_dirty s'.is_dirty ss ss'
  pub reduced : AreReduced r ss'
  pub known : s'.known ≡ s.known
  pub normal : s'.is_dirty ≡ false → AreNormalEach (closed_list (here r s)) m ss'

-- a whole list, of which the statements are reduced
pub record ListRun (r : Engine) (m : ListKind) (s s' : Progress) (ss ss' : Stmts) : Type 0 where
  pub to : StmtsTo (here r s) m s.is_dirty s'.is_dirty ss ss'
  pub reduced : AreReduced r ss'
  pub clear : AreClear s.known ss'
  pub known : s'.known ≡ s.known
  pub normal : s'.is_dirty ≡ false → AreNormalEach (open_list (here r s)) m ss'
  pub flat : any_gives_way ss' ≡ false

-- and in which nothing is left to reduce as a list either
pub record StmtsRun (r : Engine) (m : ListKind) (s s' : Progress) (ss ss' : Stmts) : Type 0 where
  pub to : StmtsTo (here r s) m s.is_dirty s'.is_dirty ss ss'
  pub reduced : AreReduced r ss'
  pub clear : AreClear s.known ss'
  pub list : IsIrreducibleList ss'
  pub returns_nothing : m ≡ Whole → ends_in_return ss' ≡ false
  pub known : s'.known ≡ s.known
  pub normal : s'.is_dirty ≡ false → IsNormal (RestTo (open_list (here r s)) m true) ss'

-- the statements of a script or a function's body: nothing is left to reduce in the list itself, nor in its nodes at every depth that the
-- optimiser reaches
pub record IsReducedBody (r : Engine) (ss : Stmts) : Type 0 where
  pub list : IsIrreducibleList ss
  pub returns_nothing : ends_in_return ss ≡ false
  pub nodes : AreReduced r ss

-- a list while it is gone over again
pub record ListPassed (r : Engine) (m : ListKind) (s s' : Progress) (ss ss' : Stmts) : Type 0 where
  pub to : StmtsTo (here r s) m s.is_dirty s'.is_dirty ss ss'
  pub known : s'.known ≡ s.known

-- a sweep over a list whose statements are reduced; bared: the last one is the expression of a `return` now, which is not
pub record SweepRun (m : ListKind) (bared : Bool) (s s' : Progress) (ss ss' : Stmts) : Type 0 where
  pub to : (k : Context) → StmtsTo k m s.is_dirty s'.is_dirty ss ss'
  pub reduced : bared ≡ false → (r : Engine) → AreReduced r ss → AreReduced r ss'
  pub clear : bared ≡ false → (ks : List Known) → AreClear ks ss → AreClear ks ss'
  pub ends_where_left : goes_on_after_leaving ss' ≡ false
  pub never_idles : idles ss' ≡ false
  pub returns_nothing : m ≡ Whole → ends_in_return ss' ≡ false
  pub lighter : bared ≡ true → weight ss' < weight ss
  pub settled : s'.is_dirty ≡ false → (k : ListContext) → AreNormalEach k m ss' → AreSwept m true ss'
  pub known : s'.known ≡ s.known

-- a list where names are variables that are forgotten behind it
pub record ListUnder (r : Engine) (k : Context) (s s' : Progress) (b b' : Stmts) : Type 0 where
  pub to : RestTo (open_list k) (Inside false) true s.is_dirty s'.is_dirty b b'
  pub reduced : AreReduced r b'
  pub list : IsIrreducibleList b'
  pub known : s'.known ≡ s.known
  pub normal : s'.is_dirty ≡ false → IsNormal (RestTo (open_list k) (Inside false) true) b'

-- an arm's condition and its answer
pub record ArmRun (r : Engine) (s s' : Progress) (c a c' a' : Expr) : Type 0 where
  pub to : {d : Bool} {as' bs : Arms} → ArmsTo (here r s) s'.is_dirty d as' bs → ArmsTo (here r s) s.is_dirty d (arm c a as') (arm c' a' bs)
  pub answers : AnswersNone c' × AnswersNone a'
  pub reduced : IsReducedExpr r c' × IsReducedExpr r a'
  pub known : s'.known ≡ s.known
  pub normal : s'.is_dirty ≡ false → IsNormal (ExprTo (here r s)) c' × IsNormal (ExprTo (here r s)) a'

-- two parts one after another: the state between them
pub record SidesRun (r : Engine) (dot breaks : Bool) (s s' : Progress) (l e l' e' : Expr) : Type 0 where
  pub between : Progress
  pub base : ExprRun r AsBase s between l l'
  pub steps : StepsRun r dot breaks between s' e e'

pub record LinkRun (r : Engine) (outer dot breaks : Bool) (s s' : Progress) (l e l' e' : Expr) : Type 0 where
  pub between : Progress
  pub argument : ArgumentRun r outer s between l l'
  pub steps : StepsRun r dot breaks between s' e e'

pub record LoopRun (r : Engine) (p : Place) (s s' : Progress) (e : Expr) (b : Stmts) (e' : Expr) (b' : Stmts) : Type 0 where
  pub between : Progress
  pub head : ExprRun r p s between e e'
  pub body : StmtsRun r (Inside false) between s' b b'

pub record ForRun (r : Engine) (x : Text) (i : Option Text) (s s' : Progress) (e : Expr) (b : Stmts) (e' : Expr) (b' : Stmts) : Type 0 where
  pub between : Progress
  pub head : ExprRun r Anywhere s between e e'
  pub body : ListUnder r (naming x (naming_some i (here r between))) between s' b b'

pub record TryRun (r : Engine) (x : Option (Option Text)) (s s' : Progress) (a b a' b' : Stmts) : Type 0 where
  pub between : Progress
  pub body : StmtsRun r (Inside false) s between a a'
  pub branch : ListUnder r (naming_catch x (here r between)) between s' b b'

pub record AssignRun (r : Engine) (s s' : Progress) (l e l' e' : Expr) : Type 0 where
  pub between : Progress
  pub target : TargetRun r s between l l'
  pub value : ExprRun r Anywhere between s' e e'

-- the names of a `for`, and a catch name, as variables
abbrev pub variable : Text → Known
variable x = record { root = OfName x; value = None }

abbrev pub loop_front : Text → Option Text → List Known
loop_front x None = variable x ∷ []
loop_front x (Some y) = variable x ∷ variable y ∷ []

abbrev pub catch_front : Option (Option Text) → List Known
catch_front None = []
catch_front (Some None) = []
catch_front (Some (Some x)) = variable x ∷ []

-- a node of a chain, and a method call
abbrev pub is_chain_node : Expr → Bool
is_chain_node (Dot f l e) = true
is_chain_node (Index f l e) = true
is_chain_node _ = false

abbrev pub is_method : Expr → Bool
is_method (MethodCall c es) = true
is_method _ = false

-- ---- the parts alone

pub record ExprPartsRun (r : Engine) (s s' : Progress) (e e' : Expr) : Type 0 where
  pub to : ExprTo (here r s) s.is_dirty s'.is_dirty e e'
  pub place : root_of e' ≡ root_of e
  pub unit : is_unit e' ≡ is_unit e
  pub parts : ExprParts r e'
  pub clear : HasClearParts s.known e'
  pub known : s'.known ≡ s.known
  pub normal : s'.is_dirty ≡ false → HasNormalParts (here r s) e'

pub record StmtPartsRun (r : Engine) (w : Bool) (s s' : Progress) (x x' : Stmt) : Type 0 where
  pub to : StmtTo (here r s) w s.is_dirty s'.is_dirty x x'
  pub parts : StmtParts r x'
  pub clear : IsClear s.known x'
  pub known : s'.known ≡ s.known
  pub normal : s'.is_dirty ≡ false → StmtHasNormalParts (here r s) w x'

-- what decides a statement is reduced: the subject of a `switch`, the condition of an `if`
abbrev pub IsReducedSubject : Engine → Progress → Expr → Type 0
IsReducedSubject r s e = (AnswersNone e × IsReducedExpr r e) × (IsClearExpr s.known e × (s.is_dirty ≡ false → IsNormal (ExprTo (here r s)) e))

abbrev pub HasReducedSubject : Engine → Progress → Stmt → Type 0
HasReducedSubject r s (Switch e as' t) = IsReducedSubject r s e
HasReducedSubject r s (If e a b) = IsReducedSubject r s e
HasReducedSubject r s _ = Unit {0}

-- that alone
pub record SubjectRun (r : Engine) (w : Bool) (s s' : Progress) (x x' : Stmt) : Type 0 where
  pub to : StmtTo (here r s) w s.is_dirty s'.is_dirty x x'
  pub subject : HasReducedSubject r s' x'
  pub known : s'.known ≡ s.known

-- ---- rules at a node whose parts are reduced, until none fires

-- the parts of what a node became are reduced where its own were
pub record KeepsExprParts (e e' : Expr) : Type 0 where
  pub parts : (r : Engine) → ExprParts r e → ExprParts r e'
  pub clear : (ks : List Known) → HasClearParts ks e → HasClearParts ks e'

pub record KeepsStmtParts (x x' : Stmt) : Type 0 where
  pub parts : (r : Engine) → StmtParts r x → StmtParts r x'
  pub clear : (ks : List Known) → IsClear ks x → IsClear ks x'

-- so far: its parts are as reduced as they were
pub record ExprSoFar (r : Engine) (p : Place) (s s' : Progress) (e e' : Expr) : Type 0 where
  pub to : ExprTo (here r s) s.is_dirty s'.is_dirty e e'
  pub stays : MayBecome p e e'
  pub keeps : KeepsExprParts e e'
  pub known : s'.known ≡ s.known

pub record StmtSoFar (r : Engine) (w : Bool) (s s' : Progress) (x x' : Stmt) : Type 0 where
  pub to : StmtTo (here r s) w s.is_dirty s'.is_dirty x x'
  pub keeps : KeepsStmtParts x x'
  pub known : s'.known ≡ s.known

-- in the end none fires
pub record ExprReduced (r : Engine) (p : Place) (s s' : Progress) (e e' : Expr) : Type 0 where
  pub to : ExprTo (here r s) s.is_dirty s'.is_dirty e e'
  pub stays : MayBecome p e e'
  pub answers : AnswersNone e'
  pub reduced : ExprParts r e → IsReducedExpr r e'
  pub clear : p ≡ Anywhere → HasClearParts s.known e → IsClearExpr s.known e'
  pub known : s'.known ≡ s.known
  pub normal : s'.is_dirty ≡ false → ExprParts r e → HasNormalParts (here r s) e → IsNormalAt p (here r s) e'

-- in the end none fires, or (opened) the last one made parts that are to be gone over again
pub record StmtReduced (r : Engine) (w opened : Bool) (s s' : Progress) (x x' : Stmt) : Type 0 where
  pub to : StmtTo (here r s) w s.is_dirty s'.is_dirty x x'
  pub reduced : opened ≡ false → StmtParts r x → IsReduced r x'
  pub clear : opened ≡ false → IsClear s.known x → IsClear s.known x'
  pub lighter : opened ≡ true → stmt_weight x' < stmt_weight x
  pub known : s'.known ≡ s.known
  pub normal : s'.is_dirty ≡ false → StmtHasNormalParts (here r s) w x → IsNormal (StmtTo (here r s) w) x'

-- a statement while its parts are gone over again
pub record StmtPassed (r : Engine) (w : Bool) (s s' : Progress) (x x' : Stmt) : Type 0 where
  pub to : StmtTo (here r s) w s.is_dirty s'.is_dirty x x'
  pub known : s'.known ≡ s.known

-- ---- one node, whose parts are reduced: a rule fired (at a statement also several), or none fires at it

-- it set the flag
pub record ExprFired (r : Engine) (p : Place) (s s' : Progress) (e e' : Expr) : Type 0 where
  pub rule : ExprRule (here r s) e e'
  pub stays : MayBecome p e e'
  pub fired : s'.is_dirty ≡ true
  pub known : s'.known ≡ s.known

pub record StmtFired (r : Engine) (w : Bool) (s s' : Progress) (x x' : Stmt) : Type 0 where
  pub to : StmtTo (here r s) w s.is_dirty s'.is_dirty x x'
  pub lighter : stmt_weight x' < stmt_weight x
  pub known : s'.known ≡ s.known

-- nothing is left to reduce at the node, where nothing is in its parts: it is kept, and the state
pub record ExprKept (r : Engine) (p : Place) (s s' : Progress) (e e' : Expr) : Type 0 where
  pub same : e' ≡ e
  pub state : s' ≡ s
  pub answers : AnswersNone e
  pub reduced : ExprParts r e → IsReducedNode r (OfExpr e)
  pub unknown : p ≡ Anywhere → known_value s.known e ≡ None
  pub settled : ExprParts r e → HasNormalParts (here r s) e → NoExprRule (here r s) p e

pub record StmtKept (r : Engine) (s s' : Progress) (x x' : Stmt) : Type 0 where
  pub same : x' ≡ x
  pub state : s' ≡ s
  pub reduced : IsReducedNode r (OfStmt x)
  pub settled : (w : Bool) → StmtHasNormalParts (here r s) w x → NoStmtRule (here r s) x

-- ---- what a rule makes of a node, wherever that stands

pub record ExprRewrite (p : Place) (e e' : Expr) : Type 0 where
  pub rule : (k : Context) → ExprRule k e e'
  pub stays : MayBecome p e e'
  pub keeps : KeepsExprParts e e'

-- unless its parts are to be gone over again
pub record StmtRewrite (reopens w : Bool) (x x' : Stmt) : Type 0 where
  pub rule : (k : Context) → StmtRule k w x x'
  pub keeps : reopens ≡ false → KeepsStmtParts x x'

-- ---- blocks in a list

-- statements moved behind those that are done, in which blocks gave way; w: whether the last one's value is wanted
pub record Moves (w d d' : Bool) (done moved done' : Stmts) : Type 0 where
  pub to : (k : ListContext) (m : ListKind) (u : Bool) (back : Stmts) → w ≡ wanted_before (wanted m) back → RestTo k m u d d' (joined done (joined moved back)) (joined done' back)
  pub reduced : (r : Engine) (back : Stmts) → AreReduced r (joined done (joined moved back)) → AreReduced r (joined done' back)
  pub clear : (ks : List Known) (back : Stmts) → AreClear ks (joined done (joined moved back)) → AreClear ks (joined done' back)
