-- The top-level variables of a script that have literal values.
use Rattle.std.specs.Prelude.{◌≡◌, Bool, List, [], ◌∷◌, ◌++◌, Option, Some, None, Result, Ok, Err, MatchOption, if◌then◌else◌}
use Rattle.std.specs.Borrow.{Bor}
use Rattle.rhai_base.specs.Value.{Text, Value}
use Rattle.rhai_base.specs.Reading.{value_of}
use Rattle.rhai_base.specs.declared.dynamic.Dynamic.{Dynamic}
use Rattle.theory_meaning.specs.Constants.{literal_value}
use Rattle.theory_meaning.specs.Tree.{Stmt, Var, Stmts, no_stmts, stmt}
use Rattle.ast_types.specs.Reading.{stmts_of}
use Rattle.script_queries.specs.declared.literals.LiteralVariables.{LiteralVariables}

pub record Literal : Type 0 where
  pub name : Text
  pub constant : Bool
  pub value : Value

-- a `Var` whose value is sought: the value, if it is a literal
pub record Sought : Type 0 where
  pub name : Text
  pub constant : Bool
  pub value : Option Value

-- of the wanted kinds
abbrev pub sought_at : (constants variables : Bool) → Stmt → List Sought
sought_at constants variables (Var constant exported x e) =
    if (if constant then constants else variables) then (record { name = x; constant = constant; value = literal_value e }) ∷ [] else []
sought_at constants variables _ = []

abbrev pub sought_in : (constants variables : Bool) → Stmts → List Sought
sought_in constants variables no_stmts = []
sought_in constants variables (stmt s ss) = sought_at constants variables s ++ sought_in constants variables ss

abbrev pub found : Text → Bool → Option Value → List Literal
found x constant None = []
found x constant (Some v) = (record { name = x; constant = constant; value = v }) ∷ []

-- those that have literal values
abbrev pub literals_of : List Sought → List Literal
literals_of [] = []
literals_of (s ∷ ss) = found s.name s.constant s.value ++ literals_of ss

abbrev pub Item : Type 0
Item = Bor Text × Bool × Dynamic

abbrev pub sought_as : Item → Sought
sought_as x = record { name = x.0.now; constant = x.1; value = Some (value_of x.2) }

abbrev pub literal_of : Item → Literal
literal_of x = record { name = x.0.now; constant = x.1; value = value_of x.2 }

-- what was found at a statement
abbrev pub Tries : {E : Type 0} → Result (Option Item) E → List Sought → Type 0
Tries (Ok (Some x)) here = here ≡ sought_as x ∷ []
Tries (Ok None) here = literals_of here ≡ []
Tries (Err e) here = (s : Sought) × (here ≡ s ∷ [])

-- one that was sought, after others that have no literal value
abbrev pub Comes : List Sought → Sought → List Sought → Type 0
Comes all s rest = (before : List Sought) × (all ≡ before ++ s ∷ rest) × (literals_of before ≡ [])

-- the one for which an item stands; of a refused one the value is not known
abbrev pub Reaches : {E : Type 0} → List Sought → Result Item E → List Sought → Type 0
Reaches all (Ok x) rest = Comes all (sought_as x) rest
Reaches all (Err e) rest = (s : Sought) × Comes all s rest

-- what an iterator still seeks
abbrev pub left_to : LiteralVariables → List Sought
left_to i = sought_in i.constants i.variables (stmts_of i.statements.now)

abbrev pub Gives : {E : Type 0} → LiteralVariables → Option (Result Item E) → LiteralVariables → Type 0
Gives i r j = MatchOption r ((literals_of (left_to i) ≡ []) × (left_to j ≡ [])) (λ item. Reaches (left_to i) item (left_to j))
