-- The rule of an assignment of an operator over its own name: a lemma of the rule's name.
use Rattle.std.proofs.Common.{◌≡◌, ℕ, Bool, true, false, cond, List, [], ◌∷◌, Option, Some, None, refl, sym, ap, ◌∙◌, subst}
use Rattle.std.specs.Prelude.{◌&&◌, ◌||◌, map}
use Rattle.std.proofs.lemmas.Bool.{or_parts}
use Rattle.rhai_base.specs.Value.{Text, Value, same_text, type_name}
use Rattle.rhai_base.specs.Operators.{Operator}
use Rattle.theory_meaning.specs.Engine.{Engine, Override, same_texts, has_override, overrides_any, asks_assigning, assigning}
use Rattle.theory_meaning.specs.Act.{World, ScopeEntry, Store, Gives, Leaves, Unbound, WrongKind, Ended, Halted, Result, At, OfName, Act, Fail, Read, Write, Env, and_then, found, read, run}
use Rattle.theory_meaning.specs.ActForms.{value_then, ◌>>=◌, choose, ask_host}
use Rattle.theory_meaning.specs.Calls.{operate, assigned}
use Rattle.theory_meaning.specs.Core as core
use Rattle.theory_meaning.specs.Desugar.{callee_by, core_expr}
use Rattle.theory_meaning.specs.Meaning.{act}
use Rattle.theory_meaning.specs.Shape.{is_callable}
use Rattle.theory_meaning.specs.Tree.{OfOperator, Callee, Expr, Variable, FnCall, no_exprs, expr, Assignment}
use Rattle.theory_meaning.proofs.Preserves.{preserves}
use Rattle.theory_rewriting.specs.Context.{Context}
use Rattle.theory_rewriting.specs.SelfAssign.{has_op_assignment, leaves_names}
use Rattle.theory_soundness.proofs.simulation.Laws.{simulates_stuck}
use Rattle.theory_soundness.proofs.simulation.Setting.{Setting, Start, world}
use Rattle.theory_soundness.proofs.simulation.Simulation.{OrStuck, equal, is_stuck, Simulates, simulates_trans, simulates_equal, simulates_or_stuck}
use Rattle.theory_soundness.proofs.simulation.Forms.{stmt_of_deed}
use Rattle.theory_soundness.proofs.acts.Still.{Same, still}
use Rattle.theory_soundness.proofs.acts.StillTrees.{still_expr}
use Rattle.theory_soundness.proofs.rules.Sound.{StmtSound}

-- ---- no `op=` asks the host

not_both : (a b : Bool) → a ≡ false → (a && b) ≡ false
not_both true b h = absurd (let z : true ≡ false = h in cc)
not_both false b h = refl

neither : (a b : Bool) → a ≡ false → b ≡ false → (a || b) ≡ false
neither true b h k = h
neither false b h k = k

none_overridden : (os : List Override) (f : Text) (types : List Text) → overrides_any os f ≡ false → has_override os f types ≡ false
none_overridden [] f types h = refl
none_overridden (o ∷ os) f types h =
    let z = or_parts (same_text o.name f) (overrides_any os f) h in
    neither (same_text o.name f && same_texts o.types types) (has_override os f types) (not_both (same_text o.name f) _ z.0) (none_overridden os f types z.1)

none_asked : (e : Engine) (op : Operator) (vs : List Value) → overrides_any e.overrides (assigning op) ≡ false → asks_assigning e op vs ≡ false
none_asked e op vs h = not_both (has_override e.overrides (assigning op) (map type_name vs)) _ (none_overridden e.overrides (assigning op) (map type_name vs) h)

module _ {k : Context} (c : Setting k) (op : Operator) (x : Text) (e : core.Expr) where
  abbrev w : World
  w = world c

  -- the name, the expression, the operator and the write; and the expression first
  abbrev written : Act
  written = Read (OfName x) >>= (λ v. act w e >>= λ u. operate w op (v ∷ u ∷ [])) >>= λ z. Write true (OfName x) z

  abbrev by_operator : Act
  by_operator = act w e >>= λ u. Read (OfName x) >>= λ v. assigned w (Some op) v u >>= λ z. Write true (OfName x) z

  -- the name is found with the same value after the expression
  abbrev after_both : Env → Value → Value → Store → ℕ → Result
  after_both env v u s t = and_then (run w env (operate w op (v ∷ u ∷ [])) s t) (λ i. run w env (value_then (λ z. Write true (OfName x) z) i))

  read_again : (env : Env) (n : ScopeEntry) (u : Value) (s : Store) (t : ℕ) → overrides_any w.engine.overrides (assigning op) ≡ false → found w.engine.constants s.scope x ≡ Some n → after_both env n.value u s t ≡ run w env (Read (OfName x) >>= λ v. assigned w (Some op) v u >>= λ z. Write true (OfName x) z) s t
  read_again env n u s t h q =
      ap (λ b. and_then (run w env (choose b (ask_host (assigning op) (n.value ∷ u ∷ [])) (operate w op (n.value ∷ u ∷ []))) s t) (λ i. run w env (value_then (λ z. Write true (OfName x) z) i))) (sym (none_asked w.engine op (n.value ∷ u ∷ []) h))
      ∙ ap (λ o. and_then (read o s t) (λ i. run w env (value_then (λ v. assigned w (Some op) v u >>= λ z. Write true (OfName x) z) i))) (sym q)

  by_result : (env : Env) (n : ScopeEntry) (es : List ScopeEntry) (r : Result) → overrides_any w.engine.overrides (assigning op) ≡ false → found w.engine.constants es x ≡ Some n → Same es r → and_then (and_then r (λ i. run w env (value_then (λ u. operate w op (n.value ∷ u ∷ [])) i))) (λ i. run w env (value_then (λ z. Write true (OfName x) z) i)) ≡ and_then r (λ i. run w env (value_then (λ u. Read (OfName x) >>= λ v. assigned w (Some op) v u >>= λ z. Write true (OfName x) z) i))
  by_result env n es (At (Ended (Gives u)) s t) h q p = read_again env n u s t h (ap (λ fs. found w.engine.constants fs x) p.is ∙ q)
  by_result env n es (At (Ended (Leaves y)) s t) h q p = refl
  by_result env n es (At (Halted f) s t) h q p = refl

  by_name : (m : Start k) (o : Option ScopeEntry) → overrides_any w.engine.overrides (assigning op) ≡ false → found w.engine.constants m.store.scope x ≡ o → Same m.store.scope (run w m.env (act w e) m.store m.turns) → OrStuck (and_then (and_then (read o m.store m.turns) (λ i. run w m.env (value_then (λ v. act w e >>= λ u. operate w op (v ∷ u ∷ [])) i))) (λ i. run w m.env (value_then (λ z. Write true (OfName x) z) i))) (run w m.env by_operator m.store m.turns)
  by_name m None h q p = is_stuck Unbound m.turns (preserves w m.env m.adds by_operator m.store m.turns).calls
  by_name m (Some n) h q p = subst (OrStuck _) (by_result m.env n m.store.scope (run w m.env (act w e) m.store m.turns) h q p) equal

  self_assigns : overrides_any w.engine.overrides (assigning op) ≡ false → ((m : Start k) → Same m.store.scope (run w m.env (act w e) m.store m.turns)) → Simulates c written by_operator
  self_assigns h p = simulates_or_stuck (λ m. by_name m (found w.engine.constants m.store.scope x) h refl (p m))

-- the call as core, where it has a meaning
assigns_call : {k : Context} (c : Setting k) (b : Bool) (g : core.Callee) (op : Operator) (x : Text) (e : core.Expr) → g ≡ core.OnOperator op → Simulates c (written c op x e) (by_operator c op x e) → Simulates c (act (world c) (cond b (core.FnCall g (core.expr (core.Variable x) (core.expr e core.no_exprs))) core.Ill) >>= λ z. Write true (OfName x) z) (by_operator c op x e)
assigns_call c true g op x e q h = subst (λ f. Simulates c (act (world c) (core.FnCall f (core.expr (core.Variable x) (core.expr e core.no_exprs))) >>= λ z. Write true (OfName x) z) (by_operator c op x e)) (sym q) h
assigns_call c false g op x e q h = simulates_trans {b = Fail WrongKind} (simulates_equal (λ m. refl)) (simulates_stuck WrongKind (by_operator c op x e))

pub self_assign : {k : Context} {w : Bool} {op : Operator} {f : Callee} {x : Text} {e : Expr} → f.token ≡ OfOperator op → has_op_assignment op ≡ true → leaves_names e ≡ true → overrides_any k.engine.overrides (assigning op) ≡ false → StmtSound k w (Assignment None (Variable [] x) (FnCall f (expr (Variable [] x) (expr e no_exprs)))) (Assignment (Some op) (Variable [] x) e)
self_assign {op = op} {f = f} {x = x} {e = e} q a h j = record {
  sound = λ c.
      let e' = core_expr c.in_loop e in
      stmt_of_deed (assigns_call c (is_callable f 2) (callee_by f f.token) op x e' (ap (callee_by f) q) (self_assigns c op x e' j (λ m. still (world c) m.env (still_expr (world c) c.in_loop e h) m.store m.turns)));
}
