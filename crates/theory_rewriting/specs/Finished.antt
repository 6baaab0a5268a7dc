-- Scripts in normal form: in these nothing is left to reduce, at any depth. And what scripts come to.
use Rattle.std.specs.Prelude.{◌≡◌, List, [], ◌∷◌}
use Rattle.theory_meaning.specs.Engine.{Engine}
use Rattle.theory_meaning.specs.Faults.{IsWellFormedScript}
use Rattle.theory_meaning.specs.Tree.{Stmts, Function, Script}
use Rattle.theory_rewriting.specs.Context.{Context, Whole}
use Rattle.theory_rewriting.specs.Known.{Known}
use Rattle.theory_rewriting.specs.Normal.{IsNormal}
use Rattle.theory_rewriting.specs.Reducible.{IsIrreducibleScript}
use Rattle.theory_rewriting.specs.Rewriting.{StmtsTo}
use Rattle.theory_rewriting.specs.Scripts.{naming_all, ScriptTo}

-- statements or a body: no rule applies anywhere in it, so the relation makes nothing else of it
abbrev pub IsFinished : Context → Stmts → Type 0
IsFinished k ss = IsNormal (StmtsTo k Whole) ss

-- each under its parameters
abbrev pub AreFinished : Context → List Function → Type 0
AreFinished k [] = Unit {0}
AreFinished k (f ∷ fs) = IsFinished (naming_all f.params k) f.body × AreFinished k fs

-- top is known in the statements, inner in the bodies
pub record IsFinishedScript (engine : Engine) (top inner : List Known) (p : Script) : Type 0 where
  pub statements : IsFinished (record { engine = engine; known = top }) p.statements
  pub functions : AreFinished (record { engine = engine; known = inner }) p.functions

-- a script that is finished comes out as it is
abbrev pub FinishedStays : Type 0
FinishedStays = (engine : Engine) (top inner : List Known) (p p' : Script) → IsFinishedScript engine top inner p → ScriptTo engine top inner p p' → p' ≡ p

-- whatever is known
abbrev pub FinishedIsIrreducible : Type 0
FinishedIsIrreducible = (engine : Engine) (top inner : List Known) (p : Script) → IsWellFormedScript p → IsFinishedScript engine top inner p → IsIrreducibleScript engine p

-- ---- what scripts come to

pub record ComesToIrreducible (engine : Engine) (top inner : List Known) (p : Script) : Type 0 where
  pub script : Script
  pub to : ScriptTo engine top inner p script
  pub irreducible : IsIrreducibleScript engine script

-- well-formed ones, whatever is known: the rules suffice
abbrev pub IrreducibleIsReached : Type 0
IrreducibleIsReached = (engine : Engine) (top inner : List Known) (p : Script) → IsWellFormedScript p → ComesToIrreducible engine top inner p
