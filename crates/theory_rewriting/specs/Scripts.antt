-- Scripts whose statements and functions are rewritten, and what is known where.
use Rattle.std.specs.Prelude.{◌≡◌, Bool, true, false, not, ◌&&◌, ◌||◌, List, [], ◌∷◌, ◌++◌, Option, Some, None, cond}
use Rattle.rhai_base.specs.Value.{Text, Value, UnitV, BoolV, IntV, FloatV, CharV, TextV, same_text}
use Rattle.theory_meaning.specs.Act.{EntryKind, IsConstant, ScopeEntry, Root, OfName, OfGlobal}
use Rattle.theory_meaning.specs.Desugar.{root_of, ends_in_call}
use Rattle.theory_meaning.specs.Engine.{Engine, Binding}
use Rattle.theory_meaning.specs.Plain.{all_true}
use Rattle.theory_meaning.specs.Shape.{is_unit, is_chain}
use Rattle.theory_meaning.specs.Tree.{Callee, Expr, DynamicConstant, BoolConstant, IntegerConstant, FloatConstant, CharConstant, StringConstant, UnitConstant, Variable, ThisPtr, FnCall, Dot, Index, Var, Assignment, FnCallStmt, Stmts, no_stmts, stmt, Function, Script}
use Rattle.theory_meaning.specs.Walk.{Node, OfExpr, OfStmt, over_script}
use Rattle.theory_rewriting.specs.Context.{Context, Whole}
use Rattle.theory_rewriting.specs.Known.{Known, shadow_all}
use Rattle.theory_rewriting.specs.Rewriting.{StmtsTo}

-- ---- what is known at the start

abbrev pub fixed_value : EntryKind → Value → Option Value
fixed_value IsConstant v = Some v
fixed_value _ v = None

-- a scope's constants, and that its variables are none
abbrev pub known_in : List ScopeEntry → List Known
known_in [] = []
known_in (e ∷ es) = record { root = OfName e.name; value = fixed_value e.kind e.value } ∷ known_in es

-- the record's constants, a later one of a name first
abbrev pub known_of : List Binding → List Known
known_of [] = []
known_of (b ∷ bs) = known_of bs ++ record { root = OfName b.name; value = Some b.value } ∷ []

-- at top level a scope's names go before the record's; in a body, which starts without that scope, after them
abbrev pub known_at_top : Engine → List ScopeEntry → List Known
known_at_top engine scope = known_in scope ++ known_of engine.constants

abbrev pub known_in_bodies : Engine → List ScopeEntry → List Known
known_in_bodies engine scope = known_of engine.constants ++ known_in scope

-- ---- the constants of the script's own list

-- what a constant expression that is one node is
abbrev pub literal_value : Expr → Option Value
literal_value (DynamicConstant v) = cond (is_unit v) None (Some v)
literal_value (BoolConstant b) = Some (BoolV b)
literal_value (IntegerConstant n) = Some (IntV n)
literal_value (FloatConstant x) = Some (FloatV x)
literal_value (CharConstant c) = Some (CharV c)
literal_value (StringConstant t) = Some (TextV t)
literal_value UnitConstant = Some UnitV
literal_value _ = None

-- whether a list declares a constant of this name
abbrev pub declares_constant : Text → Stmts → Bool
declares_constant x no_stmts = false
declares_constant x (stmt (Var true exported y e) ss) = same_text y x || declares_constant x ss
declares_constant x (stmt s ss) = declares_constant x ss

-- a constant that a list declares once, by a literal, is its value
abbrev pub known_globals : Stmts → List Known
known_globals no_stmts = []
known_globals (stmt (Var true exported x e) ss) = record { root = OfGlobal x; value = cond (declares_constant x ss) None (literal_value e) } ∷ known_globals ss
known_globals (stmt s ss) = known_globals ss

-- ---- calls that see the caller's names

abbrev pub is_capturing : Node → Bool
is_capturing (OfExpr (FnCall c es)) = c.captures
is_capturing (OfStmt (FnCallStmt c es)) = c.captures
is_capturing _ = false

-- what holds of every callee that captures
abbrev pub Captures : (Callee → Type 0) → Node → Type 0
Captures Q (OfExpr (FnCall c es)) = c.captures ≡ true → Q c
Captures Q (OfStmt (FnCallStmt c es)) = c.captures ≡ true → Q c
Captures Q _ = Unit {0}

-- no call of a script captures
abbrev pub captures_nothing : Script → Bool
captures_nothing p = over_script (all_true (λ n. not (is_capturing n))) p

-- nothing from outside is known in bodies, if any call of the script captures
abbrev pub known_inside : Engine → List ScopeEntry → Script → List Known
known_inside engine scope p = cond (captures_nothing p) (known_in_bodies engine scope ++ known_globals p.statements) []

-- ---- left sides

abbrev pub has_root : Option Root → Bool
has_root None = false
has_root (Some r) = true

-- an assignment to it has a place
abbrev pub is_place : Expr → Bool
is_place (Variable [] x) = true
is_place ThisPtr = true
is_place (Dot f l r) = is_chain true f r && (has_root (root_of l) && not (ends_in_call true f.breaks r))
is_place (Index f l r) = is_chain false f r && (has_root (root_of l) && not (ends_in_call false f.breaks r))
is_place _ = false

abbrev pub assigns_to_place : Node → Bool
assigns_to_place (OfStmt (Assignment op l e)) = is_place l
assigns_to_place _ = true

-- ---- scripts

-- under parameters
abbrev pub naming_all : List Text → Context → Context
naming_all xs k = record { engine = k.engine; known = shadow_all xs k.known }

-- a function keeps its name, receiver type and parameters
pub record FunctionTo (k : Context) (f f' : Function) : Type 0 where
  pub name : f'.name ≡ f.name
  pub this_type : f'.this_type ≡ f.this_type
  pub params : f'.params ≡ f.params
  pub body : StmtsTo (naming_all f.params k) Whole true true f.body f'.body

-- in order
pub data FunctionsTo (k : Context) : List Function → List Function → Type 0 where
  no_functions : FunctionsTo k [] []
  functions : {f f' : Function} {fs fs' : List Function} → FunctionTo k f f' → FunctionsTo k fs fs' → FunctionsTo k (f ∷ fs) (f' ∷ fs')

-- top is known in the statements, inner in the bodies under their parameters
pub record ScriptTo (engine : Engine) (top inner : List Known) (p p' : Script) : Type 0 where
  pub statements : StmtsTo (record { engine = engine; known = top }) Whole true true p.statements p'.statements
  pub functions : FunctionsTo (record { engine = engine; known = inner }) p.functions p'.functions

-- what bodies may know: nothing, or what holds without a scope, where no call of the script captures
pub data MayKnow (p : Script) : List Known → Type 0 where
  nothing_known : MayKnow p []
  none_capture : {ks : List Known} → captures_nothing p ≡ true → MayKnow p ks

-- a script rewritten by what a record and a scope fix
abbrev pub OptimisedTo : Engine → List ScopeEntry → Script → Script → Type 0
OptimisedTo engine scope p p' = ScriptTo engine (known_at_top engine scope) (known_inside engine scope p) p p'
