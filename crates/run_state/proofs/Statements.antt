-- Statements: one after another, one by its parts.
use Rattle.std.proofs.Common.{◌≡◌, ℕ, ◌+◌, ◌<◌, ◌≤◌, Bool, true, false, List, length, drop, get_or, Result, Ok, Err, refl, sym, ap, ◌∙◌, subst, arith}
use Rattle.std.proofs.lemmas.List.{drop_all}
use Rattle.rhai_base.specs.declared.dynamic.Dynamic.{Dynamic}
use Rattle.rhai_base.specs.declared.dynamic.Dynamic.TheVariants as value
use Rattle.rhai_base.specs.Reading.{value_of, value_of-Unit}
use Rattle.rhai_base.specs.Value.{Value, UnitV}
use Rattle.ast_types.specs.declared.stmt.Stmt.{Stmt}
use Rattle.ast_types.specs.Reading.{stmt_of, stmts_of}
use Rattle.ast_types.proofs.ItemLists.{stmts_of-drop}
use Rattle.theory_meaning.specs.Tree as tree
use Rattle.theory_meaning.specs.Act.{Act, Scoped}
use Rattle.theory_meaning.specs.ActForms.{choose, if_true, truth, ◌>>=◌}
use Rattle.theory_meaning.specs.Core as core
use Rattle.theory_meaning.specs.Desugar.{core_expr, core_stmt, core_stmts}
use Rattle.theory_meaning.specs.Meaning.{act, acts, deed, line, wanted_value}
use Rattle.run_state.specs.declared.state.Interrupt.{Interrupt}
use Rattle.run_state.specs.declared.state.Interrupt.TheVariants.{Stuck}
use Rattle.run_state.specs.declared.state.State.{State}
use Rattle.run_host.specs.declared.report.Stuck.TheVariants as why
use Rattle.run_state.specs.Evaluating.{or_stuck, RunsCore, RunsDeed, RunsExpr, RunsLine, RunsStmt, RunsStmts, RunsBlock}
use Rattle.run_state.specs.Runs.{Setting, Task, Acting, Listing, Goes, Stops, Runs}
use Rattle.run_state.proofs.Goes.{goes_then, goes_as, stops_then, leads_then, value_goes, value_stops, line_leads, if_goes, if_stops, scoped_leads, Inside}

line_of : (xs : List Stmt) (i : ℕ) (l : Stmt) → i < length xs → l ≡ get_or xs i l → stmts_of (drop i xs) ≡ tree.stmt (stmt_of l) (stmts_of (drop (i + 1) xs))
line_of xs i l h is = stmts_of-drop xs i l h ∙ ap (λ y. tree.stmt (stmt_of y) (stmts_of (drop (i + 1) xs))) (sym is)

module _ (here : Setting) (loop : Bool) where
  abbrev list_from : List Stmt → Bool → Value → Task
  list_from xs wanted v = Listing (acts here.world wanted (core_stmts loop (stmts_of xs)) v)

  -- the statements before the rest are run, and the last of them has this value
  pub record StmtsAt (xs rest : List Stmt) (s : State) (v : Dynamic) (s' : State) : Type 0 where
    pub so : (wanted : Bool) → Goes here (list_from xs wanted UnitV) s (list_from rest wanted (value_of v)) s'

  pub stmts_start : (xs : List Stmt) (s : State) → StmtsAt xs xs s value.Unit s
  stmts_start xs s = record { so = λ wanted. goes_as here _ _ s (ap (list_from xs wanted) (sym value_of-Unit)) }

  module _ (xs : List Stmt) (i : ℕ) (l : Stmt) (s s1 s2 : State) (u : Dynamic) (h : i < length xs) (is : l ≡ get_or xs i l) (p : StmtsAt xs (drop i xs) s u s1) where
    stmt_here : (wanted : Bool) → Goes here (list_from xs wanted UnitV) s (Listing (line here.world (core_stmt loop (stmt_of l)) (λ w. acts here.world wanted (core_stmts loop (stmts_of (drop (i + 1) xs))) w))) s1
    stmt_here wanted = goes_then here (p.so wanted) (goes_as here _ _ s1 (ap (λ ss. Listing (acts here.world wanted (core_stmts loop ss) (value_of u))) (line_of xs i l h is)))

    pub stmts_next : (v : Dynamic) → RunsStmt here loop (stmt_of l) s1 (Ok v) s2 → StmtsAt xs (drop (i + 1) xs) s v s2
    stmts_next v q = record { so = λ wanted. goes_then here (stmt_here wanted) (q _) }

    pub stmts_stop : (x : Interrupt) → RunsStmt here loop (stmt_of l) s1 (Err x) s2 → RunsStmts here loop (stmts_of xs) s (Err x) s2
    stmts_stop x q = λ wanted. stops_then here s2 x (stmt_here wanted) (q _)

  pub stmts_end : (xs : List Stmt) (i : ℕ) (s s1 : State) (u : Dynamic) → length xs ≤ i → StmtsAt xs (drop i xs) s u s1 → RunsStmts here loop (stmts_of xs) s (Ok u) s1
  stmts_end xs i s s1 u h p = λ wanted.
      goes_then here (p.so wanted)
      (goes_then here (goes_as here _ _ s1 (ap (λ rest. list_from rest wanted (value_of u)) (drop_all i xs h)))
      (record { turns = omega arith; runs = λ d le. refl }))

  -- ---- one statement

  -- one that declares nothing
  pub deed_line : (c : core.Deed) (s s1 : State) (r : Result Dynamic Interrupt) → RunsDeed here c s r s1 → RunsLine here (core.Does c) s r s1
  deed_line c s s1 r q = λ next. line_leads here (deed here.world c) next s s1 r q

  -- braces
  pub block_runs : (ss : tree.Stmts) (s s1 s2 s3 : State) (r : Result Dynamic Interrupt) → Inside here s s1 s2 s3 → RunsStmts here loop ss s1 r s2 → RunsBlock here loop ss s r s3
  block_runs ss s s1 s2 s3 r c q = λ wanted. scoped_leads here _ s s1 s2 s3 r (λ v. wanted_value wanted (value_of v)) c (q wanted)

  -- a condition, and the list that it chooses
  module _ (a b : Act) (e : core.Expr) (s s1 : State) where
    pub choice_stops : (x : Interrupt) → RunsCore here e s (Err x) s1 → Stops here (Acting (act here.world e >>= λ u. if_true u a b)) s x s1
    choice_stops x q = value_stops here _ _ s s1 x q

    pub choice_stuck : (v : Dynamic) (x : Interrupt) → RunsCore here e s (Ok v) s1 → Err x ≡ or_stuck (truth (value_of v)) → Stops here (Acting (act here.world e >>= λ u. if_true u a b)) s x s1
    choice_stuck v x q t = stops_then here s1 x (value_goes here (λ u. if_true u a b) q) (if_stops here a b s1 (value_of v) x t)

    pub choice_runs : (v : Dynamic) (c : Bool) (s2 : State) (r : Result Dynamic Interrupt) → RunsCore here e s (Ok v) s1 → Ok c ≡ or_stuck (truth (value_of v)) → Runs here (Acting (choose c a b)) s1 r s2 → Runs here (Acting (act here.world e >>= λ u. if_true u a b)) s r s2
    choice_runs v c s2 r q t k = leads_then here s2 r _ (goes_then here (value_goes here (λ u. if_true u a b) q) (if_goes here a b s1 (value_of v) c t)) k

  -- a node without meaning
  pub ill_line : (s : State) → RunsLine here (core.Does core.IllDeed) s (Err (Stuck why.WrongKind)) s
  ill_line s = λ next. record { turns = omega arith; runs = λ d le. refl }

  -- `if`
  module _ (e : tree.Expr) (a b : tree.Stmts) (s s1 : State) where
    abbrev if_deed : core.Deed
    if_deed = core.If (core_expr loop e) (core_stmts loop a) (core_stmts loop b)

    abbrev list_act : tree.Stmts → Act
    list_act ss = Scoped (acts here.world true (core_stmts loop ss) UnitV)

    pub condition_stops : (x : Interrupt) → RunsExpr here loop e s (Err x) s1 → RunsDeed here if_deed s (Err x) s1
    condition_stops x q = choice_stops (list_act a) (list_act b) (core_expr loop e) s s1 x q

    pub condition_stuck : (v : Dynamic) (x : Interrupt) → RunsExpr here loop e s (Ok v) s1 → Err x ≡ or_stuck (truth (value_of v)) → RunsDeed here if_deed s (Err x) s1
    condition_stuck v x q t = choice_stuck (list_act a) (list_act b) (core_expr loop e) s s1 v x q t

    module _ (v : Dynamic) (c : Bool) (s2 : State) (r : Result Dynamic Interrupt) (q : RunsExpr here loop e s (Ok v) s1) (t : Ok c ≡ or_stuck (truth (value_of v))) where
      pub body_runs : c ≡ true → RunsBlock here loop a s1 r s2 → RunsDeed here if_deed s r s2
      body_runs h k = choice_runs (list_act a) (list_act b) (core_expr loop e) s s1 v c s2 r q t (subst (λ d. Runs here (Acting (choose d (list_act a) (list_act b))) s1 r s2) (sym h) (k true))

      pub branch_runs : c ≡ false → RunsBlock here loop b s1 r s2 → RunsDeed here if_deed s r s2
      branch_runs h k = choice_runs (list_act a) (list_act b) (core_expr loop e) s s1 v c s2 r q t (subst (λ d. Runs here (Acting (choose d (list_act a) (list_act b))) s1 r s2) (sym h) (k true))
