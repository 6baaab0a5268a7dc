-- Trees as rhai has them, without positions and memory: on them stand the faults, the weight, the rewrite rules
-- and what is left to reduce.
use Rattle.std.specs.Prelude.{ℕ, ℤ, Bool, List, [], ◌∷◌, Option, suc}
use Rattle.rhai_base.specs.Value.{Text, Value}
use Rattle.rhai_base.specs.Operators.{Operator}

-- the token that a call holds
pub data CallToken : Type 0 where
  NoToken : CallToken
  OfOperator : Operator → CallToken
  OfOther : CallToken

-- what is called; the namespace is empty where the name is unqualified
pub record Callee : Type 0 where
  pub namespace : List Text
  pub name : Text
  pub captures : Bool
  pub token : CallToken

-- the flags of a `Dot` or an `Index`: NEGATED is `?.` or `?[`, BREAK ends the chain; EXPORTED
pub record ChainFlags : Type 0 where
  pub negated : Bool
  pub breaks : Bool
  pub exported : Bool

-- the functions by which the host reads and writes a property, and its name in a map
pub record PropertyNames : Type 0 where
  pub getter : Text
  pub setter : Text
  pub name : Text

-- the integers that a range of a `switch` holds
pub data IntRange : Type 0 where
  ExclusiveInt : ℤ → ℤ → IntRange
  InclusiveInt : ℤ → ℤ → IntRange

-- the arms for one value, the arm for a range: by their index
pub record SwitchCase : Type 0 where
  pub value : Value
  pub arms : List ℕ

pub record SwitchRange : Type 0 where
  pub range : IntRange
  pub arm : ℕ

-- which arms of a `switch` stand for which subjects
pub record SwitchTable : Type 0 where
  pub cases : List SwitchCase
  pub ranges : List SwitchRange
  pub default : Option ℕ

mutual
  pub data Expr : Type 0 where
    DynamicConstant : Value → Expr
    BoolConstant : Bool → Expr
    IntegerConstant : ℤ → Expr
    -- by its 64 bits
    FloatConstant : ℕ → Expr
    CharConstant : ℕ → Expr
    StringConstant : Text → Expr
    UnitConstant : Expr
    InterpolatedString : Exprs → Expr
    ArrayOf : Exprs → Expr
    -- the literal's pairs, and the keys of its template
    MapOf : Pairs → List Text → Expr
    -- a namespace and a name
    Variable : List Text → Text → Expr
    ThisPtr : Expr
    Property : PropertyNames → Expr
    MethodCall : Callee → Exprs → Expr
    -- braces as an expression
    BlockExpr : Stmts → Expr
    FnCall : Callee → Exprs → Expr
    Dot : ChainFlags → Expr → Expr → Expr
    Index : ChainFlags → Expr → Expr → Expr
    And : Exprs → Expr
    Or : Exprs → Expr
    Coalesce : Exprs → Expr

  pub data Exprs : Type 0 where
    no_exprs : Exprs
    expr : Expr → Exprs → Exprs

  pub data Pairs : Type 0 where
    no_pairs : Pairs
    pair : Text → Expr → Pairs → Pairs

  pub data MaybeExpr : Type 0 where
    no_expr : MaybeExpr
    an_expr : Expr → MaybeExpr

  -- the arms of a `switch`, each with a condition and an answer
  pub data Arms : Type 0 where
    no_arms : Arms
    arm : Expr → Expr → Arms → Arms

  pub data Stmt : Type 0 where
    Noop : Stmt
    If : Expr → Stmts → Stmts → Stmt
    Switch : Expr → Arms → SwitchTable → Stmt
    -- a guard that is `UnitConstant`: `loop`
    While : Expr → Stmts → Stmt
    -- NEGATED: `until`; EXPORTED
    Do : Bool → Bool → Expr → Stmts → Stmt
    -- the loop name, and the counter's
    For : Text → Option Text → Expr → Stmts → Stmt
    -- CONSTANT: `const`; EXPORTED
    Var : Bool → Bool → Text → Expr → Stmt
    -- None: `=`
    Assignment : Option Operator → Expr → Expr → Stmt
    FnCallStmt : Callee → Exprs → Stmt
    Block : Stmts → Stmt
    -- the catch name, the body, the branch
    TryCatch : Expr → Stmts → Stmts → Stmt
    ExprStmt : Expr → Stmt
    -- BREAK: `break`, else `continue`; EXPORTED
    BreakLoop : Bool → Bool → MaybeExpr → Stmt
    -- BREAK: `throw`, else `return`; EXPORTED
    Return : Bool → Bool → MaybeExpr → Stmt
    -- a path, and an alias
    Import : Expr → Text → Stmt
    -- a name, and an alias
    Export : Text → Text → Stmt
    Share : List Text → Stmt

  pub data Stmts : Type 0 where
    no_stmts : Stmts
    stmt : Stmt → Stmts → Stmts

pub record Function : Type 0 where
  pub name : Text
  pub this_type : Option Text
  pub params : List Text
  pub body : Stmts

pub record Script : Type 0 where
  pub statements : Stmts
  pub functions : List Function

-- ---- lists

abbrev pub exprs : List Expr → Exprs
exprs [] = no_exprs
exprs (e ∷ es) = expr e (exprs es)

abbrev pub pairs : List (Text × Expr) → Pairs
pairs [] = no_pairs
pairs (p ∷ ps) = pair p.0 p.1 (pairs ps)

abbrev pub arms : List (Expr × Expr) → Arms
arms [] = no_arms
arms (a ∷ as') = arm a.0 a.1 (arms as')

abbrev pub stmts : List Stmt → Stmts
stmts [] = no_stmts
stmts (s ∷ ss) = stmt s (stmts ss)

abbrev pub count_exprs : Exprs → ℕ
count_exprs no_exprs = 0
count_exprs (expr e es) = suc (count_exprs es)

abbrev pub count_arms : Arms → ℕ
count_arms no_arms = 0
count_arms (arm c a as') = suc (count_arms as')

-- one list after another
abbrev pub joined : Stmts → Stmts → Stmts
joined no_stmts back = back
joined (stmt s front) back = stmt s (joined front back)
