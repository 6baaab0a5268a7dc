-- The children of a node, in the walk's order, each with where it stands: a walk is a fold over them.
use Rattle.std.specs.Prelude.{◌<◌, ℕ, List, [], ◌∷◌, ◌++◌, Option, Some, None, map}
use Rattle.theory_meaning.specs.Walk.{Node, OfExpr, OfStmt, Spot, Walk, arms_at, listed, parts_of_expr, parts_of_stmt, total}

-- a node right below another, and where it stands there, where that matters
pub record Child : Type 0 where
  pub spot : Option Spot
  pub node : Node

abbrev pub anywhere : Node → Child
anywhere n = record { spot = None; node = n }

abbrev pub placed_at : Spot → Child → Child
placed_at s c = record { spot = Some s; node = c.node }

-- the walk that goes down one step
abbrev pub one_step : Walk (List Child)
one_step = record {
  none = [];
  both = λ cs ds. cs ++ ds;
  node = λ n cs. anywhere n ∷ [];
  within = λ s cs. map (placed_at s) cs;
  arms = λ t as'. arms_at [] (λ cs ds. cs ++ ds) as' (listed t);
}

-- what a walk makes of the parts of a node, and of a node with them
abbrev pub over_parts {ℓ} : {A : Type ℓ} → Walk A → Node → A
over_parts w (OfExpr e) = parts_of_expr w e
over_parts w (OfStmt s) = parts_of_stmt w s

abbrev pub over_node {ℓ} : {A : Type ℓ} → Walk A → Node → A
over_node w n = w.node n (over_parts w n)

abbrev pub children : Node → List Child
children n = over_parts one_step n

-- what a walk makes of a child where it stands, and of children one after another
abbrev pub at_spot {ℓ} : {A : Type ℓ} → Walk A → Option Spot → A → A
at_spot w None a = a
at_spot w (Some s) a = w.within s a

abbrev pub over_child {ℓ} : {A : Type ℓ} → Walk A → Child → A
over_child w c = at_spot w c.spot (over_node w c.node)

abbrev pub over_children {ℓ} : {A : Type ℓ} → Walk A → List Child → A
over_children w [] = w.none
over_children w (c ∷ cs) = w.both (over_child w c) (over_children w cs)

-- how many nodes a node is, with all below it
abbrev pub size_of : Node → ℕ
size_of n = over_node (total (λ m. 1)) n

-- all children are smaller
abbrev pub AreBelow : ℕ → List Child → Type 0
AreBelow size [] = Unit {0}
AreBelow size (c ∷ cs) = (size_of c.node < size) × AreBelow size cs
