-- Ways to leave a list, and `try`.
use Rattle.std.proofs.Common.{◌≡◌, ℕ, Bool, true, false, length, Option, Some, None, Result, Ok, Err, refl, sym, ap, subst, arith, if◌then◌else◌}
use Rattle.rhai_base.specs.declared.dynamic.Dynamic.{Dynamic}
use Rattle.rhai_base.specs.declared.dynamic.Dynamic.TheVariants as value
use Rattle.rhai_base.specs.Reading.{value_of, value_of-Unit}
use Rattle.rhai_base.specs.Value.{Text, Value, UnitV}
use Rattle.theory_meaning.specs.Tree as tree
use Rattle.theory_meaning.specs.Act.{Exit, Throws, Gives, Leaves, Ended, At, Act, Acts, Stop, Then, Scoped, run}
use Rattle.theory_meaning.specs.ActForms.{choose, on_throw}
use Rattle.theory_meaning.specs.Control.{named, end_branch, try_of}
use Rattle.theory_meaning.specs.Core as core
use Rattle.theory_meaning.specs.Desugar.{core_stmt, core_stmts, try_by}
use Rattle.theory_meaning.specs.Meaning.{acts}
use Rattle.theory_meaning.specs.Shape.{catch_name, is_unit}
use Rattle.run_state.specs.declared.state.Interrupt.{Interrupt}
use Rattle.run_state.specs.declared.state.Interrupt.TheVariants.{NoMemory, Return, Break, Continue, Throw, Stuck, OutOfTurns}
use Rattle.run_state.specs.declared.state.State.{State}
use Rattle.run_state.specs.Evaluating.{RunsBlock, RunsCatch, RunsLine}
use Rattle.run_state.specs.Exits.{body_end, branch_end}
use Rattle.run_state.specs.Runs.{Setting, Task, Acting, Listing, Over, Goes, Leads, Runs, given, env}
use Rattle.run_state.specs.State.{named_in, store_of}
use Rattle.run_state.proofs.Goes.{goes_then, gives, leads_then, halted_then, ending_goes, scoped_leads, line_leads, line_stops, named_goes, Inside}

module _ (here : Setting) where
  -- ---- `try`

  -- what is left to do after the body, by what it throws
  abbrev after_body : Option Text → Acts → Option Dynamic → Task
  after_body x handler None = given UnitV
  after_body x handler (Some v) = Acting (Then (Scoped (named x (value_of v) handler)) (λ e. end_branch (value_of v) e))

  abbrev on_body : Option Text → Acts → Value → Act
  on_body x handler v = Then (Scoped (named x v handler)) (λ e. end_branch v e)

  passes : (body handler : Acts) (x : Option Text) (s s1 : State) (y : Exit) → ((st : _) (t : ℕ) (d : ℕ) → run here.world (env here d) (on_throw (λ v. on_body x handler v) (Leaves y)) st t ≡ run here.world (env here d) (Stop (Leaves y)) st t) → Goes here (Acting (Scoped body)) s (Over (Ended (Leaves y))) s1 → Goes here (Acting (try_of body x handler)) s (Over (Ended (Leaves y))) s1
  passes body handler x s s1 y h q = goes_then here (ending_goes here (λ e. on_throw (λ v. on_body x handler v) e) q) (record { turns = omega arith; runs = λ d le. h _ _ d })

  body_leads : (body handler : Acts) (x : Option Text) (s s1 : State) (r : Result Dynamic Interrupt) → Leads here (Acting (Scoped body)) s r s1 (λ v. given UnitV) → Leads here (Acting (try_of body x handler)) s (body_end r) s1 (λ c. after_body x handler c)
  body_leads body handler x s s1 (Ok v) q = goes_then here (ending_goes here (λ e. on_throw (λ u. on_body x handler u) e) q) (record { turns = omega arith; runs = λ d le. refl })
  body_leads body handler x s s1 (Err (Throw v)) q = ending_goes here (λ e. on_throw (λ u. on_body x handler u) e) q
  body_leads body handler x s s1 (Err NoMemory) q = tt
  body_leads body handler x s s1 (Err (Return v)) q = passes body handler x s s1 _ (λ st t d. refl) q
  body_leads body handler x s s1 (Err (Break v)) q = passes body handler x s s1 _ (λ st t d. refl) q
  body_leads body handler x s s1 (Err Continue) q = passes body handler x s s1 _ (λ st t d. refl) q
  body_leads body handler x s s1 (Err (Stuck f)) q = halted_then here (λ e. on_throw (λ u. on_body x handler u) e) q
  body_leads body handler x s s1 (Err OutOfTurns) q = halted_then here (λ e. on_throw (λ u. on_body x handler u) e) q

  -- what the branch gives, and what it throws
  thrown_unit : (b : Bool) (v caught : Dynamic) (s : State) → Goes here (Acting (choose b (Stop (Leaves (Throws (value_of caught)))) (Stop (Leaves (Throws (value_of v)))))) s (Over (Ended (Leaves (Throws (value_of (if b then caught else v)))))) s
  thrown_unit true v caught s = record { turns = omega arith; runs = λ d le. refl }
  thrown_unit false v caught s = record { turns = omega arith; runs = λ d le. refl }

  branch_leads : (p : Acts) (caught : Dynamic) (s s1 : State) (r : Result Dynamic Interrupt) → Leads here (Acting (Scoped p)) s r s1 (λ v. given UnitV) → Runs here (Acting (Then (Scoped p) (λ e. end_branch (value_of caught) e))) s (branch_end r caught) s1
  branch_leads p caught s s1 (Ok v) q = goes_then here (ending_goes here (λ e. end_branch (value_of caught) e) q) (gives here _ _ s1 (sym value_of-Unit))
  branch_leads p caught s s1 (Err (Throw v)) q = goes_then here (ending_goes here (λ e. end_branch (value_of caught) e) q) (thrown_unit (is_unit (value_of v)) v caught s1)
  branch_leads p caught s s1 (Err NoMemory) q = tt
  branch_leads p caught s s1 (Err (Return v)) q = goes_then here (ending_goes here (λ e. end_branch (value_of caught) e) q) (record { turns = omega arith; runs = λ d le. refl })
  branch_leads p caught s s1 (Err (Break v)) q = goes_then here (ending_goes here (λ e. end_branch (value_of caught) e) q) (record { turns = omega arith; runs = λ d le. refl })
  branch_leads p caught s s1 (Err Continue) q = goes_then here (ending_goes here (λ e. end_branch (value_of caught) e) q) (record { turns = omega arith; runs = λ d le. refl })
  branch_leads p caught s s1 (Err (Stuck f)) q = halted_then here (λ e. end_branch (value_of caught) e) q
  branch_leads p caught s s1 (Err OutOfTurns) q = halted_then here (λ e. end_branch (value_of caught) e) q

  -- the branch with its name, cut off again
  pub catch_runs : (ss : core.Stmts) (x : Option Text) (caught : Dynamic) (s s1 s2 s3 s4 : State) (ended r : Result Dynamic Interrupt) → store_of s2 ≡ named_in x (value_of caught) (store_of s1) → s2.turns ≡ s1.turns → Leads here (Listing (acts here.world false ss UnitV)) s2 ended s3 (λ v. given UnitV) → Inside here s s1 s3 s4 → r ≡ branch_end ended caught → RunsCatch here ss x (value_of caught) s r s4
  catch_runs ss x caught s s1 s2 s3 s4 ended r k t q c e =
      let p = acts here.world false ss UnitV in
      let start : Goes here (Listing (named x (value_of caught) p)) s1 (Listing p) s2 = named_goes here x (value_of caught) p s1 s2 k t in
      let listed : Leads here (Listing (named x (value_of caught) p)) s1 ended s3 (λ v. given UnitV) = leads_then here s3 ended (λ v. given UnitV) start q in
      let scoped = scoped_leads here (named x (value_of caught) p) s s1 s3 s4 ended (λ v. UnitV) c listed in
      subst (λ o. Runs here (Acting (Then (Scoped (named x (value_of caught) p)) (λ y. end_branch (value_of caught) y))) s o s4) (sym e) (branch_leads (named x (value_of caught) p) caught s s4 ended scoped)

  module _ (loop : Bool) (e : tree.Expr) (a b : tree.Stmts) where
    abbrev try_line : core.Stmt
    try_line = core_stmt loop (tree.TryCatch e a b)

    abbrev branch_acts : Acts
    branch_acts = acts here.world false (core_stmts loop b) UnitV

    try_is : (x : Option (Option Text)) → catch_name e ≡ x → core.Does (try_by x (core_stmts loop a) (core_stmts loop b)) ≡ try_line
    try_is x h = ap (λ o. core.Does (try_by o (core_stmts loop a) (core_stmts loop b))) (sym h)

    module _ (x : Option Text) (h : catch_name e ≡ Some x) (s s1 : State) (ended : Result Dynamic Interrupt) (q : RunsBlock here loop a s ended s1) where
      try_body : (o : Result (Option Dynamic) Interrupt) → o ≡ body_end ended → Leads here (Acting (try_of (acts here.world false (core_stmts loop a) UnitV) x branch_acts)) s o s1 (λ c. after_body x branch_acts c)
      try_body o f = subst (λ r. Leads here (Acting (try_of (acts here.world false (core_stmts loop a) UnitV) x branch_acts)) s r s1 (λ c. after_body x branch_acts c)) (sym f) (body_leads (acts here.world false (core_stmts loop a) UnitV) branch_acts x s s1 ended (q false))

      pub try_stops : (y : Interrupt) → Err y ≡ body_end ended → RunsLine here try_line s (Err y) s1
      try_stops y f = subst (λ l. RunsLine here l s (Err y) s1) (try_is (Some x) h) (λ next. line_stops here _ next s s1 y (try_body (Err y) f))

      pub try_ends : Ok None ≡ body_end ended → RunsLine here try_line s (Ok value.Unit) s1
      try_ends f =
          let done : Runs here (Acting (try_of (acts here.world false (core_stmts loop a) UnitV) x branch_acts)) s (Ok value.Unit) s1 = goes_then here (try_body (Ok None) f) (record { turns = omega arith; runs = λ d le. ap (λ u. At (Ended (Gives u)) (store_of s1) s1.turns) (sym value_of-Unit) }) in
          subst (λ l. RunsLine here l s (Ok value.Unit) s1) (try_is (Some x) h) (λ next. line_leads here _ next s s1 (Ok value.Unit) done)

      pub try_catches : (v : Dynamic) (s2 : State) (r : Result Dynamic Interrupt) → Ok (Some v) ≡ body_end ended → RunsCatch here (core_stmts loop b) x (value_of v) s1 r s2 → RunsLine here try_line s r s2
      try_catches v s2 r f k =
          subst (λ l. RunsLine here l s r s2) (try_is (Some x) h) (λ next. line_leads here _ next s s2 r (leads_then here s2 r (λ u. given (value_of u)) (try_body (Ok (Some v)) f) k))
