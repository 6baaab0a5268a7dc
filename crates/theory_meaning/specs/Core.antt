-- What a tree means, as a tree: no tests are left to make, and all nodes without meaning have one form.
use Rattle.std.specs.Prelude.{Bool, List, Option}
use Rattle.rhai_base.specs.Value.{Text, Value}
use Rattle.rhai_base.specs.Operators.{Operator}
use Rattle.theory_meaning.specs.Act.{EntryKind, Root}
use Rattle.theory_meaning.specs.Tree.{PropertyNames, SwitchTable}

-- an operator, a host function by a module or an alias and the rest of its name, or a name (captures: the function sees
-- the caller's names)
pub data Callee : Type 0 where
  OnOperator : Operator → Callee
  Qualified : Text → Text → Callee
  ByName : Text → Bool → Callee

-- how a statement leaves the list that it stands in
pub data ExitKind : Type 0 where
  Breaking : ExitKind
  Continuing : ExitKind
  Returning : ExitKind
  Throwing : ExitKind

mutual
  pub data Expr : Type 0 where
    -- has no meaning
    Ill : Expr
    Constant : Value → Expr
    InterpolatedString : Exprs → Expr
    ArrayOf : Exprs → Expr
    MapOf : Pairs → Expr
    Variable : Text → Expr
    -- a constant of the script's own list
    GlobalVariable : Text → Expr
    -- by a module or an alias, and the rest of its name
    ModuleVariable : Text → Text → Expr
    -- the name of the module of a path
    ModuleOf : Expr → Expr
    ThisPtr : Expr
    BlockExpr : Stmts → Expr
    FnCall : Callee → Exprs → Expr
    Chain : Base → Steps → Expr
    And : Exprs → Expr
    Or : Exprs → Expr
    Coalesce : Exprs → Expr

  pub data Exprs : Type 0 where
    no_exprs : Exprs
    expr : Expr → Exprs → Exprs

  pub data Pairs : Type 0 where
    no_pairs : Pairs
    pair : Text → Expr → Pairs → Pairs

  -- the base of a chain: a place, or a value
  pub data Base : Type 0 where
    OnPlace : Root → Base
    OnValue : Expr → Base

  -- a step's kind with its argument
  pub data Step : Type 0 where
    IllStep : Step
    Property : PropertyNames → Step
    Index : Expr → Step
    Method : Text → Exprs → Step

  -- at least one step, each with its `?`
  pub data Steps : Type 0 where
    last : Bool → Step → Steps
    more : Bool → Step → Steps → Steps

  -- what an assignment writes to; Nowhere: what has no place
  pub data Target : Type 0 where
    IllTarget : Target
    Nowhere : Target
    ToRoot : Root → Target
    ToPart : Root → Steps → Target

  -- Always: a literal unit
  pub data Guard : Type 0 where
    Always : Guard
    When : Expr → Guard

  pub data Arms : Type 0 where
    no_arms : Arms
    arm : Expr → Expr → Arms → Arms

  -- what a statement does that adds nothing to the scope
  pub data Deed : Type 0 where
    IllDeed : Deed
    Noop : Deed
    If : Expr → Stmts → Stmts → Deed
    Switch : Expr → Arms → SwitchTable → Deed
    While : Guard → Stmts → Deed
    -- true: until
    Do : Bool → Expr → Stmts → Deed
    For : Text → Option Text → Expr → Stmts → Deed
    Assignment : Option Operator → Target → Expr → Deed
    Block : Stmts → Deed
    TryCatch : Option Text → Stmts → Stmts → Deed
    Evaluate : Expr → Deed
    -- that, for unit
    Discard : Expr → Deed
    Leave : ExitKind → Expr → Deed

  -- Var adds an entry of this kind to the scope; true: and an export of its value under the same name
  pub data Stmt : Type 0 where
    Var : EntryKind → Bool → Text → Expr → Stmt
    Does : Deed → Stmt

  pub data Stmts : Type 0 where
    no_stmts : Stmts
    stmt : Stmt → Stmts → Stmts

pub record Function : Type 0 where
  pub name : Text
  pub this_type : Option Text
  pub params : List Text
  pub body : Stmts

pub record Script : Type 0 where
  pub statements : Stmts
  pub functions : List Function
