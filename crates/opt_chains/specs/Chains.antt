-- What the functions at a chain answer: the part of the first step, what the chain becomes, or that no step answers.
use Rattle.std.specs.Prelude.{◌≡◌, Bool, false, ◌&&◌, List, Option, Some, None}
use Rattle.std.specs.Option.{option_map}
use Rattle.rhai_base.specs.Value.{Value}
use Rattle.theory_meaning.specs.Engine.{Engine, or_else}
use Rattle.theory_meaning.specs.Queries.{is_unit}
use Rattle.theory_meaning.specs.Tree.{ChainFlags, Expr, UnitConstant, Dot, Index}
use Rattle.ast_types.specs.Reading.{expr_of}
use Rattle.theory_rewriting.specs.Context.{knowing}
use Rattle.theory_rewriting.specs.Known.{Known}
use Rattle.theory_rewriting.specs.Normal.{HasNormalParts}
use Rattle.theory_rewriting.specs.Parts.{constant_of, link}
use Rattle.theory_rewriting.specs.Steps.{AnswersNone, NoExprRule, Place}
use Rattle.opt_base.specs.Standing.{may_stand}
use Rattle.ast_types.specs.declared.expr.BinaryExpr.{BinaryExpr}
use Rattle.ast_types.specs.declared.expr.Expr as declared
use Rattle.opt_chains.specs.Answers.{constant_answer, known_answer, allowed}
use Rattle.opt_chains.specs.Literals.{literal_answer}
use Rattle.opt_chains.specs.Onward.{argument, onward, Rewrites}

-- a chain over unit, past a `?`, where it may become unit
abbrev pub ends_in_unit : Place → Expr → Bool
ends_in_unit p (Dot f l r) = may_stand p UnitConstant && (f.negated && is_unit l)
ends_in_unit p (Index f l r) = may_stand p UnitConstant && (f.negated && is_unit l)
ends_in_unit p _ = false

-- by value: at a constant, or at a known name
abbrev pub value_answer : Engine → List Known → (unit dot : Bool) → ChainFlags → Expr → Expr → Option Value
value_answer r ks unit dot f e b = or_else (allowed unit (constant_answer r dot f.negated e (argument f.breaks b))) (allowed unit (known_answer ks dot e b))

-- a part was moved out of a base that is a constant; the right side stays, and where there is none the base too
abbrev pub IsMoved : (unit dot breaks : Bool) → BinaryExpr → BinaryExpr → Option declared.Expr → Type 0
IsMoved unit dot breaks old new (Some part) = (new.rhs ≡ old.rhs) × ((v : Value) × (expr_of part ≡ constant_of v) × ((r : Engine) (optional : Bool) → allowed unit (constant_answer r dot optional (expr_of old.lhs) (argument breaks (expr_of old.rhs))) ≡ Some v))
IsMoved unit dot breaks old new None = new ≡ old

-- a part was taken out of a base that is a literal; the right side stays, and where there is none the base too
pub record IsTaken (unit dot breaks : Bool) (old new : BinaryExpr) (part : Option declared.Expr) : Type 0 where
  pub answer : option_map expr_of part ≡ literal_answer unit dot (expr_of old.lhs) (argument breaks (expr_of old.rhs))
  pub right : new.rhs ≡ old.rhs
  pub kept : part ≡ None → new ≡ old

-- no step answers at a chain: where unit doesn't end it either, no rule applies
pub record IsQuiet (r : Engine) (ks : List Known) (p : Place) (e : Expr) : Type 0 where
  pub answers : AnswersNone e
  pub settled : ends_in_unit p e ≡ false → HasNormalParts (knowing r ks) e → NoExprRule (knowing r ks) p e

-- the chain of two sides
abbrev pub chain_of : Bool → ChainFlags → BinaryExpr → Expr
chain_of dot f b = link dot f (expr_of b.lhs) (expr_of b.rhs)

-- the first step answers a part, or none
abbrev pub PartStep : Engine → List Known → Place → Bool → ChainFlags → BinaryExpr → BinaryExpr → Option declared.Expr → Type 0
PartStep r ks p dot f old new (Some part) = (new.rhs ≡ old.rhs) × Rewrites r ks p (chain_of dot f old) (onward f.breaks (expr_of old.rhs) (expr_of part))
PartStep r ks p dot f old new None = (new ≡ old) × IsQuiet r ks p (chain_of dot f old)

-- the chain becomes another expression, or stays
abbrev pub SidesStep : Engine → List Known → Place → Bool → ChainFlags → BinaryExpr → BinaryExpr → Option declared.Expr → Type 0
SidesStep r ks p dot f old new (Some made) = Rewrites r ks p (chain_of dot f old) (expr_of made)
SidesStep r ks p dot f old new None = (new ≡ old) × IsQuiet r ks p (chain_of dot f old)

abbrev pub IsQuietChain : Engine → List Known → Place → Expr → Type 0
IsQuietChain r ks p (Dot f l b) = IsQuiet r ks p (Dot f l b)
IsQuietChain r ks p (Index f l b) = IsQuiet r ks p (Index f l b)
IsQuietChain r ks p _ = Unit {0}

-- what is no chain stays
abbrev pub ChainStep : Engine → List Known → Place → Expr → Expr → Option declared.Expr → Type 0
ChainStep r ks p old new (Some made) = Rewrites r ks p old (expr_of made)
ChainStep r ks p old new None = (new ≡ old) × IsQuietChain r ks p old
