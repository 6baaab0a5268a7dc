-- The laws on purity and dependence.
use Rattle.std.proofs.Common.{◌≡◌, ℕ, zero, suc, ◌+◌, ◌-◌, ◌≤◌, Bool, true, false, List, refl, sym, ap, ◌∙◌, subst, arith}
use Rattle.rhai_base.specs.Value.{Text, Value}
use Rattle.theory_meaning.specs.Act.{World, EntryKind, ScopeEntry, Store, Outcome, Result, At, Act, Acts, Only, Named, Env, and_then, run, run_all}
use Rattle.theory_meaning.specs.ActForms.{give, unit, each_value, then_line}
use Rattle.theory_meaning.specs.Core as core
use Rattle.theory_meaning.specs.Desugar.{core_expr, core_stmt}
use Rattle.theory_meaning.specs.Laws.{spend, Settled, Gave, Stopped, settled, Quiet, a_value, is_stuck, out_of_turns, outcome_of, ChangesNothing, no_more, one_more, an_export, AddsOne, SameNames, no_names, same_name, PureExprLaw, PureLaw, InternallyPureLaw, IndependentLaw}
use Rattle.theory_meaning.specs.Meaning.{exporting, act, deed, line}
use Rattle.theory_meaning.specs.Queries.{is_block_dependent}
use Rattle.theory_meaning.specs.Relations.{OnlyAdds, store_of}
use Rattle.theory_meaning.specs.Tree.{Expr, Stmt, Noop, If, Switch, While, Do, For, Var, Assignment, FnCallStmt, Block, TryCatch, ExprStmt, BreakLoop, Return, Import, Export, Share}
use Rattle.theory_meaning.proofs.Relations.{Keeps, none, one, changed}
use Rattle.theory_meaning.proofs.Preserves.{preserves}
use Rattle.theory_meaning.proofs.PureActs.{Pure, Calm, spend_enough}
use Rattle.theory_meaning.proofs.PureTrees.{PureStmt, pure_deed, InternalStmt, declares, internal_deed, pure_expr, pure_stmt, internal_stmt}
use Rattle.theory_meaning.proofs.Sequencing.{line_unit}

spend_store : (n : ℕ) (o : Outcome) (s : Store) (t : ℕ) → store_of (spend n o s t) ≡ s
spend_store zero o s t = refl
spend_store (suc n) o s zero = refl
spend_store (suc n) o s (suc t) = spend_store n o s t

spend_quiet : (n : ℕ) (z : Settled) (s : Store) (t : ℕ) → Quiet (outcome_of (spend n (settled z) s t))
spend_quiet zero (Gave v) s t = a_value
spend_quiet zero (Stopped f) s t = is_stuck
spend_quiet (suc n) z s zero = out_of_turns
spend_quiet (suc n) z s (suc t) = spend_quiet n z s t

spend_rest : (n : ℕ) (o : Outcome) (s : Store) (t : ℕ) → n ≤ t → spend n o s t ≡ At o s (t - n)
spend_rest n o s t le = let e : t ≡ n + (t - n) = omega (arith, le) in ap (spend n o s) e ∙ spend_enough n o s (t - n)

-- where a result is that of a pure act
changes_nothing : (w : World) (env : Env) → OnlyAdds env → (a : Act) → Pure w a → (s : Store) (r : ℕ → Result) → ((t : ℕ) → r t ≡ run w env a s t) → ChangesNothing s r
changes_nothing w env adds a p s r h = record {
  store = λ t. ap store_of (h t ∙ p.runs.by env adds s t) ∙ spend_store p.cost (settled p.end) s t;
  quiet = λ t. subst (λ x. Quiet (outcome_of x)) (sym (h t ∙ p.runs.by env adds s t)) (spend_quiet p.cost p.end s t);
  bound = p.cost;
  end = p.end;
  within = λ t le. h t ∙ p.runs.by env adds s t ∙ spend_rest p.cost (settled p.end) s t le;
}

pub pure_expr_law : (e : Expr) → PureExprLaw e
pure_expr_law e h = record { at = λ w env adds loop s. changes_nothing w env adds (act w (core_expr loop e)) (pure_expr w loop e h) s _ (λ t. refl) }

alone : (w : World) (env : Env) (d : core.Deed) (s : Store) (t : ℕ) → run_all w env (line w (core.Does d) (λ v. Only (give v))) s t ≡ run w env (deed w d) s t
alone w env d s t = line_unit w env (deed w d) s t

pure_alone : (w : World) (env : Env) → OnlyAdds env → (l : core.Stmt) → PureStmt w l → (s : Store) → ChangesNothing s (λ t. run_all w env (line w l (λ v. Only (give v))) s t)
pure_alone w env adds _ (pure_deed {d = d} p) s = changes_nothing w env adds (deed w d) p s _ (λ t. alone w env d s t)

pub pure_law : (l : Stmt) → PureLaw l
pure_law l h = record { at = λ w env adds loop s. pure_alone w env adds (core_stmt loop l) (pure_stmt w loop l h) s }

-- ---- inside a list

module _ (w : World) (env : Env) (adds : OnlyAdds env) where
  adds_none : (k : Value → Acts) → ((v : Value) (s : Store) (t : ℕ) → AddsOne s (run_all w env (k v) s t)) → (n : ℕ) (z : Settled) (s : Store) (t : ℕ) → AddsOne s (and_then (spend n (settled z) s t) (λ e. run_all w env (each_value k e)))
  adds_none k h zero (Gave v) s t = h v s t
  adds_none k h zero (Stopped f) s t = record { calls = refl; this = refl; scope = no_more; quiet = is_stuck }
  adds_none k h (suc n) z s zero = record { calls = refl; this = refl; scope = no_more; quiet = out_of_turns }
  adds_none k h (suc n) z s (suc t) = adds_none k h n z s t

  after_calm : (a : Act) (k : Value → Acts) → Calm w a → ((v : Value) (s : Store) (t : ℕ) → AddsOne s (run_all w env (k v) s t)) → (s : Store) (t : ℕ) → AddsOne s (run_all w env (then_line a k) s t)
  after_calm a k p h s t = let q = p.from s in subst (λ r. AddsOne s (and_then r (λ e. run_all w env (each_value k e)))) (sym (q.by env adds t)) (adds_none k h q.cost q.end s t)

  -- a name, and its export or none
  one_named : (k : EntryKind) (b : Bool) (x : Text) (v : Value) (s : Store) (t : ℕ) → AddsOne s (run_all w env (Named x k v (exporting b x v (Only unit))) s t)
  one_named k true x v s t = record { calls = refl; this = refl; scope = an_export x v (one_more (record { name = x; kind = k; value = v })); quiet = a_value }
  one_named k false x v s t = record { calls = refl; this = refl; scope = one_more (record { name = x; kind = k; value = v }); quiet = a_value }

  internal_alone : (l : core.Stmt) → InternalStmt w (Calm w) l → (s : Store) (t : ℕ) → AddsOne s (run_all w env (line w l (λ v. Only (give v))) s t)
  internal_alone _ (declares {k = k} {b = b} {x = x} {e = e} p) s t = after_calm (act w e) (λ v. Named x k v (exporting b x v (Only unit))) p (λ v s1 t1. one_named k b x v s1 t1) s t
  internal_alone _ (internal_deed {d = d} p) s t =
      after_calm (deed w d) (λ v. Only (give v)) p (λ v s1 t1. record { calls = refl; this = refl; scope = no_more; quiet = a_value }) s t

pub internally_pure_law : (l : Stmt) → InternallyPureLaw l
internally_pure_law l h = record { at = λ w env adds loop s t. internal_alone w env adds (core_stmt loop l) (internal_stmt w loop l h) s t }

-- ---- names that stay

keeps_names : {es fs : List ScopeEntry} → Keeps es fs → SameNames es fs
keeps_names none = no_names
keeps_names (one {e = e} p) = same_name e.value (keeps_names p)
keeps_names (changed {v = v} c p) = same_name v (keeps_names p)

-- what declares no name
data Undeclaring : core.Stmt → Type 0 where
  undeclaring : (d : core.Deed) → Undeclaring (core.Does d)

independent : (loop : Bool) (l : Stmt) → is_block_dependent l ≡ false → Undeclaring (core_stmt loop l)
independent loop (Var c n x e) h = absurd (let z : true ≡ false = h in cc)
independent loop Noop h = undeclaring _
independent loop (If c a b) h = undeclaring _
independent loop (Switch e as' t) h = undeclaring _
independent loop (While e b) h = undeclaring _
independent loop (Do n exported e b) h = undeclaring _
independent loop (For x i e b) h = undeclaring _
independent loop (Assignment op l e) h = undeclaring _
independent loop (FnCallStmt c es) h = undeclaring _
independent loop (Block ss) h = undeclaring _
independent loop (TryCatch x a b) h = undeclaring _
independent loop (ExprStmt e) h = undeclaring _
independent loop (BreakLoop b exported m) h = undeclaring _
independent loop (Return b exported m) h = undeclaring _
independent loop (Import e x) h = absurd (let z : true ≡ false = h in cc)
independent loop (Export x y) h = absurd (let z : true ≡ false = h in cc)
independent loop (Share xs) h = undeclaring _

names_stay : (w : World) (env : Env) → OnlyAdds env → (l : core.Stmt) → Undeclaring l → (s : Store) (t : ℕ) → SameNames s.scope (store_of (run_all w env (line w l (λ v. Only (give v))) s t)).scope
names_stay w env adds _ (undeclaring d) s t = subst (λ r. SameNames s.scope (store_of r).scope) (sym (alone w env d s t)) (keeps_names (preserves w env adds (deed w d) s t).scope)

pub independent_law : (l : Stmt) → IndependentLaw l
independent_law l h = record { at = λ w env adds loop s t. names_stay w env adds (core_stmt loop l) (independent loop l h) s t }
