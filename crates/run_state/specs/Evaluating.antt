-- What the evaluator's functions answer.
use Rattle.std.specs.Prelude.{◌≡◌, ℕ, Bool, true, false, List, map, Option, Some, None, Result, Ok, Err, option_map}
use Rattle.rhai_base.specs.Value.{Text, Value, UnitV, Fields, fields}
use Rattle.rhai_base.specs.declared.dynamic.Dynamic.{Dynamic}
use Rattle.rhai_base.specs.Reading.{value_of, members_of}
use Rattle.theory_meaning.specs.Tree as tree
use Rattle.theory_meaning.specs.Act.{Ended, ScriptCall, Act, Acts, Then, Invoke, Scoped}
use Rattle.theory_meaning.specs.Calls.{call_named}
use Rattle.theory_meaning.specs.Control.{ArmActs, counted, first_arm, named, end_branch, round, try_arm}
use Rattle.theory_meaning.specs.Core as core
use Rattle.theory_meaning.specs.Desugar.{call_of, core_arms, core_expr, core_exprs, core_pairs, core_stmt, core_stmts, core_maybe}
use Rattle.theory_meaning.specs.Elements.{fields_of}
use Rattle.theory_meaning.specs.Meaning.{act, acts, arm_acts, both, either, first_some, deed, line, wanted_value, with_args, with_pairs}
use Rattle.theory_meaning.specs.Shape.{is_unit}
use Rattle.theory_meaning.specs.Walk.{over_functions, total}
use Rattle.theory_meaning.specs.Weight.{own_weight}
use Rattle.run_state.specs.declared.state.Interrupt.{Interrupt}
use Rattle.run_state.specs.declared.state.Interrupt.TheVariants.{NoMemory, Return, Break, Continue, Throw, Stuck, OutOfTurns}
use Rattle.run_state.specs.declared.state.State.{State}
use Rattle.run_host.specs.declared.report.RunEnd.{RunEnd}
use Rattle.run_host.specs.declared.report.RunEnd.TheVariants as ended
use Rattle.run_host.specs.declared.report.Stuck.TheVariants as why
use Rattle.run_state.specs.Runs.{Setting, Task, Acting, Listing, Over, Leads, given}
use Rattle.run_state.specs.Exits.{round_end}
pub use Rattle.run_state.specs.Runs.{Runs}

-- what the bodies of functions weigh
abbrev pub bodies_weight : List tree.Function → ℕ
bodies_weight fs = over_functions (total own_weight) fs

-- ---- what is asked of values

-- whether a condition holds
abbrev pub or_stuck : Option Bool → Result Bool Interrupt
or_stuck (Some b) = Ok b
or_stuck None = Err (Stuck why.WrongKind)

-- a constant's value
abbrev pub IsConstant : Value → Result Dynamic Interrupt → Type 0
IsConstant v (Ok u) = (is_unit v ≡ false) × (value_of u ≡ v)
IsConstant v (Err NoMemory) = Unit {0}
IsConstant v (Err (Stuck f)) = (is_unit v ≡ true) × (f ≡ why.WrongKind)
IsConstant v (Err x) = ⊥

-- how a whole run ends: a return is its value, and no break leaves it
abbrev pub EndsAs : Result Dynamic Interrupt → RunEnd → Type 0
EndsAs (Ok v) e = e ≡ ended.Value v
EndsAs (Err NoMemory) e = ⊥
EndsAs (Err (Return v)) e = e ≡ ended.Value v
EndsAs (Err (Break v)) e = e ≡ ended.Stuck why.WrongKind
EndsAs (Err Continue) e = e ≡ ended.Stuck why.WrongKind
EndsAs (Err (Throw v)) e = e ≡ ended.Thrown v
EndsAs (Err (Stuck f)) e = e ≡ ended.Stuck f
EndsAs (Err OutOfTurns) e = e ≡ ended.OutOfTurns

-- ---- expressions

-- a call as an expression; loop: in the body of a loop
abbrev pub call_core : Bool → tree.Callee → tree.Exprs → core.Expr
call_core loop c es = call_of c (tree.count_exprs es) (core_exprs loop es)

abbrev pub RunsCore : Setting → core.Expr → State → Result Dynamic Interrupt → State → Type 0
RunsCore here e = Runs here (Acting (act here.world e))

abbrev pub RunsExpr : Setting → Bool → tree.Expr → State → Result Dynamic Interrupt → State → Type 0
RunsExpr here loop e = RunsCore here (core_expr loop e)

abbrev pub RunsCall : Setting → Bool → tree.Callee → tree.Exprs → State → Result Dynamic Interrupt → State → Type 0
RunsCall here loop c es = RunsCore here (call_core loop c es)

abbrev pub RunsMaybe : Setting → Bool → tree.MaybeExpr → State → Result Dynamic Interrupt → State → Type 0
RunsMaybe here loop m = RunsCore here (core_maybe loop m)

abbrev pub RunsBoth : Setting → Bool → tree.Exprs → State → Result Dynamic Interrupt → State → Type 0
RunsBoth here loop es = Runs here (Acting (both here.world (core_exprs loop es)))

abbrev pub RunsEither : Setting → Bool → tree.Exprs → State → Result Dynamic Interrupt → State → Type 0
RunsEither here loop es = Runs here (Acting (either here.world (core_exprs loop es)))

abbrev pub RunsFirstSome : Setting → Bool → tree.Exprs → State → Result Dynamic Interrupt → State → Type 0
RunsFirstSome here loop es = Runs here (Acting (first_some here.world (core_exprs loop es)))

-- the arguments have these values, whatever is done with them
abbrev pub RunsArgs : Setting → core.Exprs → State → Result (List Dynamic) Interrupt → State → Type 0
RunsArgs here es s r s' = (next : List Value → Act) → Leads here (Acting (with_args here.world es next)) s r s' (λ vs. Acting (next (map value_of vs)))

abbrev pub RunsExprs : Setting → Bool → tree.Exprs → State → Result (List Dynamic) Interrupt → State → Type 0
RunsExprs here loop es = RunsArgs here (core_exprs loop es)

-- the pairs make this map, whatever is done with it
abbrev pub RunsPairs : Setting → core.Pairs → State → Result (List (Text × Dynamic)) Interrupt → State → Type 0
RunsPairs here ps s r s' = (next : Fields → Act) → Leads here (Acting (with_pairs here.world ps (λ vs. next (fields_of vs)))) s r s' (λ m. Acting (next (fields (members_of m))))

abbrev pub RunsMembers : Setting → Bool → tree.Pairs → State → Result (List (Text × Dynamic)) Interrupt → State → Type 0
RunsMembers here loop ps = RunsPairs here (core_pairs loop ps)

-- ---- statements

abbrev pub RunsDeed : Setting → core.Deed → State → Result Dynamic Interrupt → State → Type 0
RunsDeed here c = Runs here (Acting (deed here.world c))

-- the statement has this value, whatever comes after it
abbrev pub RunsLine : Setting → core.Stmt → State → Result Dynamic Interrupt → State → Type 0
RunsLine here l s r s' = (next : Value → Acts) → Leads here (Listing (line here.world l next)) s r s' (λ v. Listing (next (value_of v)))

abbrev pub RunsStmt : Setting → Bool → tree.Stmt → State → Result Dynamic Interrupt → State → Type 0
RunsStmt here loop l = RunsLine here (core_stmt loop l)

-- a list whose names stay, and one whose names go; the value may be wanted or not
abbrev pub RunsStmts : Setting → Bool → tree.Stmts → State → Result Dynamic Interrupt → State → Type 0
RunsStmts here loop ss s r s' = (wanted : Bool) → Leads here (Listing (acts here.world wanted (core_stmts loop ss) UnitV)) s r s' (λ v. given (wanted_value wanted (value_of v)))

abbrev pub RunsBlock : Setting → Bool → tree.Stmts → State → Result Dynamic Interrupt → State → Type 0
RunsBlock here loop ss s r s' = (wanted : Bool) → Leads here (Acting (Scoped (acts here.world wanted (core_stmts loop ss) UnitV))) s r s' (λ v. given (wanted_value wanted (value_of v)))

-- a round of a loop over a list, with its turn: the loop's value, or none where another round follows
abbrev pub RunsRound : Setting → Acts → State → Result (Option Dynamic) Interrupt → State → Type 0
RunsRound here p s r s' = Leads here (Acting (round p)) s r s' (λ o. Over (Ended (round_end o)))

-- the arms of a `switch`
abbrev pub arms_here : Setting → Bool → tree.Arms → List ArmActs
arms_here here loop as' = arm_acts here.world (core_arms loop as')

-- the answer of an arm, or what comes next
abbrev pub arm_then : Act → Option Dynamic → Task
arm_then next None = Acting next
arm_then next (Some v) = given (value_of v)

-- an arm is tried, whatever comes after it
abbrev pub RunsArm : Setting → Option ArmActs → State → Result (Option Dynamic) Interrupt → State → Type 0
RunsArm here a s r s' = (next : Act) → Leads here (Acting (try_arm a next)) s r s' (λ o. arm_then next o)

-- the arms at these places are tried in turn, whatever the default is
abbrev pub RunsFirstArm : Setting → List ArmActs → List ℕ → State → Result (Option Dynamic) Interrupt → State → Type 0
RunsFirstArm here arms places s r s' = (default : Act) → Leads here (Acting (first_arm arms places default)) s r s' (λ o. arm_then default o)

-- the list of a loop's body
abbrev pub body_of : Setting → tree.Stmts → Acts
body_of here ss = acts here.world false (core_stmts true ss) UnitV

-- a list whose names stay, and whose value nothing uses
abbrev pub RunsList : Setting → Acts → State → Result Dynamic Interrupt → State → Type 0
RunsList here p s r s' = Leads here (Listing p) s r s' (λ v. given UnitV)

-- a counter's name, whatever list comes after it
abbrev pub RunsCounted : Setting → Option Text → ℕ → State → Result Unit Interrupt → State → Type 0
RunsCounted here i k s r s' = (p : Acts) → Leads here (Listing (counted i k p)) s r s' (λ u. Listing p)

-- the branch of a `try`, by its catch name and the caught value
abbrev pub RunsCatch : Setting → core.Stmts → Option Text → Value → State → Result Dynamic Interrupt → State → Type 0
RunsCatch here ss x v = Runs here (Acting (Then (Scoped (named x v (acts here.world false ss UnitV))) (λ e. end_branch v e)))

-- ---- calls

-- the call of a script's function has this value and this last `this`, whatever is done with them
abbrev pub RunsInvoke : Setting → ScriptCall → State → Result (Dynamic × Option Dynamic) Interrupt → State → Type 0
RunsInvoke here a s r s' = (next : Value → Option Value → Act) → Leads here (Acting (Invoke a next)) s r s' (λ p. Acting (next (value_of p.0) (option_map value_of p.1)))

-- what a pointer's call comes to: a function of this name with these arguments, or one of the word's own name
abbrev pub pointed_then : Setting → Bool → Text → List Value → Option (Text × List Dynamic) → Task
pointed_then here captures f vs None = Acting (call_named here.world captures f vs)
pointed_then here captures f vs (Some p) = Acting (call_named here.world captures p.0 (map value_of p.1))
