-- Where a list's value is not wanted: acts that are alike but for it.
use Rattle.std.proofs.Common.{◌≡◌, ℕ, Bool, true, false, Option, Some, None, List, refl, sym, ap, ◌∙◌}
use Rattle.rhai_base.specs.Value.{Text, Value, UnitV}
use Rattle.theory_meaning.specs.Act.{World, ScopeEntry, Store, Ending, Gives, Leaves, Ended, Halted, Result, At, Act, Scoped, Acts, Named, Env, and_then, leave, run, run_all, inside}
use Rattle.theory_meaning.specs.Core.{Expr, Var, Does, If, Block, Stmts, no_stmts, stmt}
use Rattle.theory_meaning.specs.ActForms.{unit, value_then, ◌>>=◌, branch, truth, if_true, each_value, then_line}
use Rattle.theory_meaning.specs.Meaning.{exporting, act, deed, line, acts}
use Rattle.theory_meaning.proofs.Monotone.{Action}
use Rattle.theory_meaning.proofs.Sequencing.{then_assoc, then_same, SameRun, SameRunAll, bind_same, bind_assoc, line_same, line_assoc}
use Rattle.theory_rewriting.specs.Context.{Context}
use Rattle.theory_soundness.proofs.simulation.Setting.{Setting, world}
use Rattle.theory_soundness.proofs.simulation.Simulation.{Simulates, SimulatesAll, all_trans, all_equal, all_refl}
use Rattle.theory_soundness.proofs.simulation.Forms.{simulates_bind, simulates_if, all_line}

-- an `if` whose blocks' values are wanted or not
abbrev choice : World → Bool → Expr → Stmts → Stmts → Act
choice w b c ss rs = act w c >>= λ v. if_true v (Scoped (acts w b ss UnitV)) (Scoped (acts w b rs UnitV))

module _ (w : World) (env : Env) where
  -- unit in the value's place
  abbrev pub drop : Ending → Action
  drop e s t = run w env (value_then (λ v. unit) e) s t

  abbrev pub Alike : Act → Act → Type 0
  Alike a b = SameRun w env (a >>= λ v. unit) (b >>= λ v. unit)

  -- before what asks for no value they may stand for one another
  pub before_any : (a : Act) (p : Acts) → SameRunAll w env (then_line (a >>= λ v. unit) (λ v. p)) (then_line a (λ v. p))
  before_any a p s t = line_assoc w env a (λ v. unit) (λ v. p) s t ∙ line_same w env a a _ (λ v. p) (λ s1 t1. refl) (λ v s1 t1. refl) s t

  do_alike : (a b : Act) (p : Acts) → Alike a b → SameRunAll w env (then_line a (λ v. p)) (then_line b (λ v. p))
  do_alike a b p h s t = sym (before_any a p s t) ∙ line_same w env (a >>= λ v. unit) (b >>= λ v. unit) (λ v. p) (λ v. p) h (λ v s1 t1. refl) s t ∙ before_any b p s t

  -- ---- a list whose value is not wanted

  drop_each : (k k' : Value → Acts) → ((v : Value) (s : Store) (t : ℕ) → run_all w env (k v) s t ≡ and_then (run_all w env (k' v) s t) drop) → (e : Ending) (s : Store) (t : ℕ) → run_all w env (each_value k e) s t ≡ and_then (run_all w env (each_value k' e) s t) drop
  drop_each k k' h (Gives v) s t = h v s t
  drop_each k k' h (Leaves x) s t = refl

  exporting_drop : (b : Bool) (x : Text) (v : Value) (p q : Acts) → ((s : Store) (t : ℕ) → run_all w env p s t ≡ and_then (run_all w env q s t) drop) → (s : Store) (t : ℕ) → run_all w env (exporting b x v p) s t ≡ and_then (run_all w env (exporting b x v q) s t) drop
  exporting_drop true x v p q h s t = h _ t
  exporting_drop false x v p q h s t = h s t

  acts_drop : (ss : Stmts) (v : Value) (s : Store) (t : ℕ) → run_all w env (acts w false ss v) s t ≡ and_then (run_all w env (acts w true ss v) s t) drop
  acts_drop no_stmts v s t = refl
  acts_drop (stmt (Does d) ss) v s t =
      then_same (run w env (deed w d) s t) _ _ (drop_each (λ u. acts w false ss u) (λ u. acts w true ss u) (λ u s1 t1. acts_drop ss u s1 t1)) ∙ sym (then_assoc (run w env (deed w d) s t) _ _)
  acts_drop (stmt (Var k b x e) ss) v s t =
      then_same (run w env (act w e) s t) _ _ (drop_each (λ u. Named x k u (exporting b x u (acts w false ss UnitV))) (λ u. Named x k u (exporting b x u (acts w true ss UnitV))) (λ u s1 t1. exporting_drop b x u _ _ (λ s2 t2. acts_drop ss UnitV s2 t2) _ t1)) ∙ sym (then_assoc (run w env (act w e) s t) _ _)

  leave_drop : (old : Store) (r : Result) → and_then (leave old (and_then r drop)) drop ≡ and_then (leave old r) drop
  leave_drop old (At (Ended (Gives v)) s t) = refl
  leave_drop old (At (Ended (Leaves x)) s t) = refl
  leave_drop old (At (Halted f) s t) = refl

  alike_list : (ss : Stmts) (v : Value) → Alike (Scoped (acts w true ss v)) (Scoped (acts w false ss v))
  alike_list ss v s t = sym (leave_drop s (run_all w env (acts w true ss v) (inside s) t)) ∙ ap (λ r. and_then (leave s r) drop) (sym (acts_drop ss v (inside s) t))

  alike_branch : (o : Option Bool) (a a' b b' : Act) → Alike a a' → Alike b b' → Alike (branch o a b) (branch o a' b')
  alike_branch None a a' b b' g h s t = refl
  alike_branch (Some true) a a' b b' g h s t = g s t
  alike_branch (Some false) a a' b b' g h s t = h s t

  alike_bind : (a : Act) (f g : Value → Act) → ((v : Value) → Alike (f v) (g v)) → Alike (a >>= f) (a >>= g)
  alike_bind a f g h s t =
      bind_assoc w env a f (λ v. unit) s t ∙ bind_same w env a a (λ v. f v >>= λ u. unit) (λ v. g v >>= λ u. unit) (λ s1 t1. refl) h s t ∙ sym (bind_assoc w env a g (λ v. unit) s t)

  choice_alike : (c : Expr) (ss rs : Stmts) → Alike (choice w true c ss rs) (choice w false c ss rs)
  choice_alike c ss rs = alike_bind (act w c) _ _ (λ v. alike_branch (truth v) _ _ _ _ (alike_list ss UnitV) (alike_list rs UnitV))

-- what comes next asks for no value
by_alike : {k : Context} {c : Setting k} (a a' b b' : Act) (p : Acts) → ((env : Env) → Alike (world c) env a b) → ((env : Env) → Alike (world c) env a' b') → Simulates c b b' → SimulatesAll c (then_line a (λ v. p)) (then_line a' (λ v. p))
by_alike {c = c} a a' b b' p h h' i =
    all_trans (all_equal (λ m. do_alike (world c) m.env a b p (h m.env) m.store m.turns))
    (all_trans (all_line i (λ v. all_refl)) (all_equal (λ m. sym (do_alike (world c) m.env a' b' p (h' m.env) m.store m.turns))))

pub unwanted_if : {k : Context} {c : Setting k} (p : Acts) (e e' : Expr) (x x' y y' : Stmts) → Simulates c (act (world c) e) (act (world c) e') → Simulates c (Scoped (acts (world c) false x UnitV)) (Scoped (acts (world c) false x' UnitV)) → Simulates c (Scoped (acts (world c) false y UnitV)) (Scoped (acts (world c) false y' UnitV)) → SimulatesAll c (line (world c) (Does (If e x y)) (λ v. p)) (line (world c) (Does (If e' x' y')) (λ v. p))
unwanted_if {c = c} p e e' x x' y y' i h j =
    let w = world c in
    by_alike (choice w true e x y) (choice w true e' x' y') (choice w false e x y) (choice w false e' x' y') p (λ env. choice_alike w env e x y) (λ env. choice_alike w env e' x' y')
    (simulates_bind i (λ v. simulates_if v h j))

pub unwanted_block : {k : Context} {c : Setting k} (p : Acts) (ss ss' : Stmts) → Simulates c (Scoped (acts (world c) false ss UnitV)) (Scoped (acts (world c) false ss' UnitV)) → SimulatesAll c (line (world c) (Does (Block ss)) (λ v. p)) (line (world c) (Does (Block ss')) (λ v. p))
unwanted_block {c = c} p ss ss' i =
    let w = world c in
    by_alike (Scoped (acts w true ss UnitV)) (Scoped (acts w true ss' UnitV)) (Scoped (acts w false ss UnitV)) (Scoped (acts w false ss' UnitV)) p (λ env. alike_list w env ss UnitV) (λ env. alike_list w env ss' UnitV) i
