-- What a `switch` is decided to by its subject and the conditions of its arms.
use Rattle.std.specs.Prelude.{◌≡◌, ℕ, Bool, true, false, cond, Option, Some, None, ◌==◌}
use Rattle.rhai_base.specs.Value.{Value, is_hashable}
use Rattle.theory_meaning.specs.Constants.{constant_value}
use Rattle.theory_meaning.specs.Control.{chosen}
use Rattle.theory_meaning.specs.Engine.{Engine}
use Rattle.theory_meaning.specs.Tree.{SwitchTable, Expr, Arms, Stmt, If, Switch}
use Rattle.ast_nodes.specs.Blocks.{answered}
use Rattle.theory_rewriting.specs.Context.{Context}
use Rattle.theory_rewriting.specs.Rules.{StmtRule}
use Rattle.theory_rewriting.specs.Steps.{Progress, StmtFired}
use Rattle.theory_rewriting.specs.Tables.{left_arms}
use Rattle.opt_switch.specs.declared.choice.Choice.{Choice}
use Rattle.opt_switch.specs.declared.choice.Choice.TheVariants.{Nothing, Answer, Only, Several}
use Rattle.opt_switch.specs.Choices.{choice_of}

-- a constant subject that holds no pointer
abbrev pub hashable : Option Value → Option Value
hashable None = None
hashable (Some v) = cond (is_hashable v) (Some v) None

abbrev pub is_default : Option ℕ → ℕ → Bool
is_default None i = false
is_default (Some d) i = d == i

-- an open arm that is the default too stays
abbrev pub but_default : Option ℕ → Choice → Choice
but_default d Nothing = Nothing
but_default d (Answer i) = Answer i
but_default d (Only i) = cond (is_default d i) Several (Only i)
but_default d Several = Several

abbrev pub choice_over : Arms → SwitchTable → Option Value → Choice
choice_over as' t None = Several
choice_over as' t (Some v) = but_default t.default (choice_of as' (left_arms as' (chosen t v)))

-- several are left of what is not decided
abbrev pub choice_at : Stmt → Choice
choice_at (Switch e as' t) = choice_over as' t (hashable (constant_value e))
choice_at _ = Several

-- the `if` of an arm, with the default as its branch
abbrev pub if_of : Option Expr → Expr × Expr → Stmt
if_of o p = If p.0 (answered (Some p.1)) (answered o)

-- what it becomes, or it is not decided, and stays
abbrev pub Becomes : Option Stmt → Stmt → Stmt → Type 0
Becomes None x x' = (x' ≡ x) × (choice_at x ≡ Several)
Becomes (Some y) x x' = (k : Context) (w : Bool) → StmtRule k w x y

-- rules fired, or it is not decided, and stays
abbrev pub Decided : Bool → Engine → Bool → Progress → Progress → Stmt → Stmt → Type 0
Decided true r w s s' x x' = StmtFired r w s s' x x'
Decided false r w s s' x x' = (x' ≡ x) × ((s' ≡ s) × (choice_at x ≡ Several))
