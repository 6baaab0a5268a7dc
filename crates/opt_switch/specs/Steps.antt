-- What comes of the table of a `switch`.
use Rattle.std.specs.Prelude.{◌≡◌, Bool, true, false, List, Option, Some, None, replicate}
use Rattle.ast_types.specs.declared.switch.SwitchBlock.{SwitchBlock}
use Rattle.rhai_base.specs.Value.{Value, is_hashable}
use Rattle.theory_meaning.specs.Constants.{constant_value}
use Rattle.theory_meaning.specs.Control.{case_for}
use Rattle.theory_meaning.specs.Engine.{Engine}
use Rattle.theory_meaning.specs.Tree.{Arms, count_arms, Stmt, Switch, SwitchTable}
use Rattle.theory_meaning.specs.Walk.{listed}
use Rattle.ast_types.specs.Reading.{arms_of, cases_of, expr_of, expressions_of, subject_of, table_of}
use Rattle.theory_rewriting.specs.Shrinking.{AreDistinct, shrinks, shrunk}
use Rattle.theory_rewriting.specs.Narrowing.{narrows_by, narrowed_by}
use Rattle.theory_rewriting.specs.Steps.{Progress, StmtFired, KeepsStmtParts}
use Rattle.opt_switch.specs.Forgetting.{marked, forgets, loses_answers}

abbrev pub is_switch : Stmt → Bool
is_switch (Switch e as' t) = true
is_switch _ = false

abbrev pub switch_of : SwitchBlock → Stmt
switch_of b = Switch (expr_of (subject_of b)) (arms_of (expressions_of (cases_of b))) (table_of (cases_of b))

-- the flag is set where rules fired
abbrev pub Noted : Bool → Progress → Progress → Type 0
Noted true s s' = (s'.is_dirty ≡ true) × (s'.known ≡ s.known)
Noted false s s' = s' ≡ s

abbrev pub Shrinks : Bool → Arms → SwitchTable → SwitchTable → Type 0
Shrinks true as' t t' = AreDistinct t.cases × ((shrinks as' t ≡ true) × (t' ≡ shrunk as' t))
Shrinks false as' t t' = (shrinks as' t ≡ false) × (t' ≡ t)

abbrev pub Narrows : Bool → Arms → Value → SwitchTable → SwitchTable → Type 0
Narrows true as' v t t' = (is_hashable v ≡ true) × ((narrows_by as' t v (case_for t.cases v) ≡ true) × (t' ≡ narrowed_by as' t v (case_for t.cases v)))
Narrows false as' v t t' = (is_hashable v ≡ true → narrows_by as' t v (case_for t.cases v) ≡ false) × (t' ≡ t)

-- the answers of arms that no list names are unit
abbrev pub marks_of : Arms → SwitchTable → List Bool
marks_of as' t = marked (replicate (count_arms as') false) (listed t)

abbrev pub Forgets : Bool → Progress → Progress → SwitchTable → Arms → Arms → Type 0
Forgets true s s' t as' bs = Noted true s s' × ((loses_answers (marks_of as' t) as' ≡ true) × (bs ≡ forgets (marks_of as' t) as'))
Forgets false s s' t as' bs = Noted false s s' × ((loses_answers (marks_of as' t) as' ≡ false) × (bs ≡ as'))

-- ---- why a table stays

-- a subject that holds no pointer has nothing to narrow
abbrev pub IsNarrowOver : Arms → SwitchTable → Option Value → Type 0
IsNarrowOver as' t None = Unit {0}
IsNarrowOver as' t (Some v) = is_hashable v ≡ true → narrows_by as' t v (case_for t.cases v) ≡ false

abbrev pub IsNarrow : Stmt → Type 0
IsNarrow (Switch e as' t) = IsNarrowOver as' t (constant_value e)
IsNarrow _ = Unit {0}

abbrev pub IsShrunk : Stmt → Type 0
IsShrunk (Switch e as' t) = shrinks as' t ≡ false
IsShrunk _ = Unit {0}

abbrev pub HasForgotten : Stmt → Type 0
HasForgotten (Switch e as' t) = loses_answers (marks_of as' t) as' ≡ false
HasForgotten _ = Unit {0}

abbrev pub IsSmall : Stmt → Type 0
IsSmall x = (IsNarrow x × IsShrunk x) × HasForgotten x

-- rules fired, or it stays, and why
abbrev pub TableStep : (Stmt → Type 0) → Bool → Progress → Progress → Stmt → Stmt → Type 0
TableStep W true s s' x x' = ((r : Engine) (w : Bool) → StmtFired r w s s' x x') × KeepsStmtParts x x'
TableStep W false s s' x x' = (x' ≡ x) × ((s' ≡ s) × W x)
