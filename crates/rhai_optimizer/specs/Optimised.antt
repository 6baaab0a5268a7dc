-- The promise of the optimiser.
use Rattle.rhai_optimizer.specs.Scopes.{known_outside}
use Rattle.std.specs.Prelude.{◌≡◌, ◌≢◌, ◌≤◌, ◌⊎◌, ℕ, Bool, true, false, List, [], ◌∷◌, map, None}
use Rattle.std.specs.Rc.{rc_value}
use Rattle.std.specs.declared.alloc.Global.{Global}
use Rattle.std.specs.declared.rc.Rc.{Rc}
use Rattle.ast_types.specs.declared.script_fn.ScriptFuncDef.{ScriptFuncDef}
use Rattle.ast_types.specs.declared.stmt.Stmt.{Stmt}
use Rattle.theory_meaning.specs.Act.{ScopeEntry}
use Rattle.theory_meaning.specs.Engine.{Engine}
use Rattle.theory_meaning.specs.Faults.{IsWellFormedScript}
use Rattle.theory_meaning.specs.Tree.{Function, Script, Stmts}
use Rattle.theory_rewriting.specs.Context.{Whole, knowing}
use Rattle.theory_rewriting.specs.Finished.{IsFinished, IsFinishedScript}
use Rattle.theory_soundness.specs.Kept.{Keeps}
use Rattle.theory_soundness.specs.Passes.{PassesWithin}
use Rattle.theory_rewriting.specs.Reducible.{IsIrreducibleScript}
use Rattle.theory_soundness.specs.Refines.{RefinesWhere}
use Rattle.theory_rewriting.specs.Rewriting.{StmtsTo}
use Rattle.theory_rewriting.specs.Scripts.{captures_nothing, known_at_top}
use Rattle.theory_rewriting.specs.Steps.{IsReducedBody}
use Rattle.ast_types.specs.Reading.{stmts_of}
use Rattle.opt_base.specs.Walks.{listing}
use Rattle.script_tables.specs.FnKey.{definitions_table}
use Rattle.opt_base.specs.declared.level.OptimizationLevel.{OptimizationLevel}
use Rattle.opt_base.specs.declared.level.OptimizationLevel.TheVariants as level
use Rattle.rhai_script.specs.Contents.{Contents, meant}
use Rattle.rhai_optimizer.specs.Functions.{header_of, FunctionsRun}
use Rattle.rhai_optimizer.specs.Passes.{Counts}

abbrev pub optimises_nothing : OptimizationLevel → Bool
optimises_nothing level.None = true
optimises_nothing _ = false

-- of trees that are not well-formed too
abbrev pub AreReducedBodies : Engine → List Function → Type 0
AreReducedBodies r [] = Unit {0}
AreReducedBodies r (f ∷ fs) = IsReducedBody r f.body × AreReducedBodies r fs

pub record IsReducedScript (r : Engine) (p : Script) : Type 0 where
  pub statements : IsReducedBody r p.statements
  pub functions : AreReducedBodies r p.functions

-- Of what a script becomes at a level, under an engine's record, where runs start with the names of a scope:
pub record Becomes (r : Engine) (start : List ScopeEntry) (l : OptimizationLevel) (p p' : Script) : Type 0 where
  -- It does what it did, for every host, entry and number of turns, from every start scope that agrees.
  pub refines : RefinesWhere r (known_at_top r start) p p'
  -- It is well-formed, plain and so on where it was, and no heavier.
  pub keeps : Keeps p p'
  -- Above level `None` nothing is left to reduce, at any depth, in statements and bodies; of trees that are not well-formed,
  -- where the optimiser opens them.
  pub irreducible : l ≢ level.None → IsWellFormedScript p → IsIrreducibleScript r p'
  pub reduced : l ≢ level.None → IsReducedScript r p'
  -- More than that: no rule applies anywhere in it, with what is known of it then. And what is so already comes out as it is: so what was
  -- optimised comes back when it is optimised again.
  pub finished : l ≢ level.None → IsFinishedScript r (known_at_top r start) (known_outside r start p') p'
  pub stays : IsFinishedScript r (known_at_top r start) (known_outside r start p) p → p' ≡ p

-- And of the script as it is declared:
pub record Optimised (r : Engine) (start : List ScopeEntry) (l : OptimizationLevel) (before after : Contents) : Type 0 where
  pub script : Becomes r start l (meant before) (meant after)
  -- Functions keep all but their bodies; at `None` these too, and the statements.
  pub headers : map header_of after.functions ≡ map header_of before.functions
  pub untouched : l ≡ level.None → (after.statements ≡ before.statements) × (after.functions ≡ before.functions)
  -- It keeps its source, its doc and the id of its table.
  pub named : (after.source ≡ before.source) × ((after.doc ≡ before.doc) × (after.id ≡ before.id))

-- statements and functions, as a script without source, doc and id
abbrev pub given : List Stmt → List (Rc ScriptFuncDef Global) → Contents
given ss fs = record { source = None; doc = []; statements = ss; id = None; functions = definitions_table (map rc_value fs) }

-- bodies under what these statements and functions let them know
abbrev pub BodiesRun : Engine → List ScopeEntry → List Stmt → List (Rc ScriptFuncDef Global) → List (Rc ScriptFuncDef Global) → Type 0
BodiesRun r start ss fs fs' = FunctionsRun r (known_outside r start (listing ss fs)) (map rc_value fs) (map rc_value fs')

-- a script's parts, optimised once; whether a call of the source captures, if it has functions
pub record PartsOnce (r : Engine) (start : List ScopeEntry) (captured : Bool) (ss : List Stmt) (fs : List (Rc ScriptFuncDef Global)) (ss' : List Stmt) (fs' : List (Rc ScriptFuncDef Global)) : Type 0 where
  pub asked : captured ≡ false → (fs ≡ []) ⊎ (captures_nothing (listing ss fs) ≡ true)
  pub statements : StmtsTo (knowing r (known_at_top r start)) Whole true true (stmts_of ss) (stmts_of ss')
  pub bodies : BodiesRun r start ss fs fs'

-- its bodies, optimised again; where a call of it captures still, they are as they were
pub record BodiesAgain (r : Engine) (start : List ScopeEntry) (ss : List Stmt) (fs fs' : List (Rc ScriptFuncDef Global)) : Type 0 where
  pub run : BodiesRun r start ss fs fs'
  pub kept : captures_nothing (listing ss fs) ≡ false → fs' ≡ fs

-- the statements and the functions, optimised, before they are made a script of: bodies first under what the source lets
-- them know, and then under what was made of it does
pub record PartsReduced (r : Engine) (start : List ScopeEntry) (ss : List Stmt) (fs : List (Rc ScriptFuncDef Global)) (ss' : List Stmt) (fs' : List (Rc ScriptFuncDef Global)) (number : ℕ) : Type 0 where
  pub counts : Counts (knowing r (known_at_top r start)) number (stmts_of ss) (stmts_of ss')
  pub reduced : IsReducedBody r (stmts_of ss')
  pub finished : IsFinished (knowing r (known_at_top r start)) (stmts_of ss')
  pub between : List (Rc ScriptFuncDef Global)
  pub first : BodiesRun r start ss fs between
  pub second : BodiesAgain r start ss' between fs'

-- at a level
pub record PartsOptimised (r : Engine) (start : List ScopeEntry) (l : OptimizationLevel) (ss : List Stmt) (fs : List (Rc ScriptFuncDef Global)) (ss' : List Stmt) (fs' : List (Rc ScriptFuncDef Global)) (number : ℕ) : Type 0 where
  pub some : l ≢ level.None → PartsReduced r start ss fs ss' fs' number
  pub none : l ≡ level.None → (ss' ≡ ss) × ((map rc_value fs' ≡ map rc_value fs) × (number ≡ 0))

-- the number of passes over the statements: over what is finished one, which changes nothing
pub record PassesCounted (r : Engine) (start : List ScopeEntry) (l : OptimizationLevel) (ss ss' : Stmts) (number : ℕ) : Type 0 where
  pub made : l ≢ level.None → Counts (knowing r (known_at_top r start)) number ss ss'
  pub within : l ≢ level.None → PassesWithin number ss ss'
  pub once : l ≢ level.None → IsFinished (knowing r (known_at_top r start)) ss → number ≤ 1
  pub none : l ≡ level.None → number ≡ 0
