-- Lists of statements that add nothing to the scope: braces around them make no difference.
use Rattle.std.proofs.Common.{◌≡◌, ℕ, Bool, true, false, refl, sym, ap, ◌∙◌}
use Rattle.std.proofs.lemmas.Bool.{or_parts}
use Rattle.rhai_base.specs.Value.{Text, Value, UnitV}
use Rattle.theory_meaning.specs.Act.{World, Store, Ending, Gives, Leaves, Stop, Scoped, Acts, Only, Named, Env, and_then, leave, run, run_all, inside}
use Rattle.theory_meaning.specs.ActForms.{give, each_value}
use Rattle.theory_meaning.specs.Core.{Deed, Stmt, Var, Does, Stmts, no_stmts, stmt}
use Rattle.theory_meaning.specs.Desugar.{core_stmt, core_stmts}
use Rattle.theory_meaning.specs.Meaning.{exporting, wanted_value, act, deed, line, acts}
use Rattle.theory_meaning.specs.Queries.{is_block_dependent, is_any_dependent}
use Rattle.theory_meaning.specs.Tree as tree
use Rattle.theory_meaning.proofs.Preserves.{OnlyAdds}
use Rattle.theory_meaning.proofs.Sequencing.{then_same, then_assoc, line_unit, scoped_only, scoped_do}
use Rattle.theory_rewriting.specs.Rules.{spliced}

-- no statement of the list adds to the scope
abbrev pub adds_no_name : Stmts → Bool
adds_no_name no_stmts = true
adds_no_name (stmt (Does d) ss) = adds_no_name ss
adds_no_name (stmt (Var k b x e) ss) = false

-- a statement that does belongs to its block
no_name_added : (loop : Bool) (ss : tree.Stmts) → is_any_dependent ss ≡ false → adds_no_name (core_stmts loop ss) ≡ true
no_name_added loop tree.no_stmts q = refl
no_name_added loop (tree.stmt (tree.Var c n x e) ss) q = absurd (let z : true ≡ false = q in cc)
no_name_added loop (tree.stmt (tree.Import e x) ss) q = absurd (let z : true ≡ false = q in cc)
no_name_added loop (tree.stmt (tree.Export x y) ss) q = absurd (let z : true ≡ false = q in cc)
no_name_added loop (tree.stmt s ss) q = no_name_added loop ss (or_parts (is_block_dependent s) (is_any_dependent ss) q).1

module _ (w : World) (env : Env) (loop : Bool) where
  -- braces around one deed
  pub scoped_deed : OnlyAdds env → (d : Deed) (s : Store) (t : ℕ) → run w env (Scoped (line w (Does d) (λ v. Only (give v)))) s t ≡ run w env (deed w d) s t
  scoped_deed adds d s t = ap (leave s) (line_unit w env (deed w d) (inside s) t) ∙ scoped_only w env adds (deed w d) s t

  scoped_each : OnlyAdds env → (k : Value → Acts) → ((v : Value) (s : Store) (t : ℕ) → run w env (Scoped (k v)) s t ≡ run_all w env (k v) s t) → (e : Ending) (s : Store) (t : ℕ) → run w env (Scoped (each_value k e)) s t ≡ run_all w env (each_value k e) s t
  scoped_each adds k h (Gives v) s t = h v s t
  scoped_each adds k h (Leaves x) s t = scoped_only w env adds (Stop (Leaves x)) s t

  -- braces around a list that adds no name
  pub scoped_list : OnlyAdds env → (ss : Stmts) → adds_no_name ss ≡ true → (b : Bool) (v : Value) (s : Store) (t : ℕ) → run w env (Scoped (acts w b ss v)) s t ≡ run_all w env (acts w b ss v) s t
  scoped_list adds no_stmts q b v s t = scoped_only w env adds (give (wanted_value b v)) s t
  scoped_list adds (stmt (Var k o x e) ss) q b v s t = absurd (let z : false ≡ true = q in cc)
  scoped_list adds (stmt (Does d) ss) q b v s t =
      scoped_do w env adds (deed w d) (λ e. each_value (λ u. acts w b ss u) e) s t ∙ then_same (run w env (deed w d) s t) _ _ (scoped_each adds (λ u. acts w b ss u) (λ u s1 t1. scoped_list adds ss q b u s1 t1))

  -- ---- one list after another

  each_joined : (k k1 next : Value → Acts) → ((v : Value) (s : Store) (t : ℕ) → run_all w env (k v) s t ≡ and_then (run_all w env (k1 v) s t) (λ e. run_all w env (each_value next e))) → (e : Ending) (s : Store) (t : ℕ) → run_all w env (each_value k e) s t ≡ and_then (run_all w env (each_value k1 e) s t) (λ e1. run_all w env (each_value next e1))
  each_joined k k1 next h (Gives v) s t = h v s t
  each_joined k k1 next h (Leaves x) s t = refl

  exporting_joined : (b : Bool) (x : Text) (v : Value) (p q : Acts) (next : Value → Acts) → ((s : Store) (t : ℕ) → run_all w env p s t ≡ and_then (run_all w env q s t) (λ e. run_all w env (each_value next e))) → (s : Store) (t : ℕ) → run_all w env (exporting b x v p) s t ≡ and_then (run_all w env (exporting b x v q) s t) (λ e. run_all w env (each_value next e))
  exporting_joined true x v p q next h s t = h _ t
  exporting_joined false x v p q next h s t = h s t

  line_joined : (l : Stmt) (k k1 next : Value → Acts) → ((v : Value) (s : Store) (t : ℕ) → run_all w env (k v) s t ≡ and_then (run_all w env (k1 v) s t) (λ e. run_all w env (each_value next e))) → (s : Store) (t : ℕ) → run_all w env (line w l k) s t ≡ and_then (run_all w env (line w l k1) s t) (λ e. run_all w env (each_value next e))
  line_joined (Does d) k k1 next h s t = then_same (run w env (deed w d) s t) _ _ (each_joined k k1 next h) ∙ sym (then_assoc (run w env (deed w d) s t) _ _)
  line_joined (Var c b x e) k k1 next h s t =
      then_same (run w env (act w e) s t) _ _ (each_joined (λ v. Named x c v (exporting b x v (k UnitV))) (λ v. Named x c v (exporting b x v (k1 UnitV))) next (λ v s1 t1. exporting_joined b x v (k UnitV) (k1 UnitV) next (λ s2 t2. h UnitV s2 t2) _ t1)) ∙ sym (then_assoc (run w env (act w e) s t) _ _)

  list_joined : (b : Bool) (ss back : tree.Stmts) (v : Value) (s : Store) (t : ℕ) → run_all w env (acts w b (core_stmts loop (tree.joined ss back)) v) s t ≡ and_then (run_all w env (acts w true (core_stmts loop ss) v) s t) (λ e. run_all w env (each_value (λ u. acts w b (core_stmts loop back) u) e))
  list_joined b tree.no_stmts back v s t = refl
  list_joined b (tree.stmt l ss) back v s t = line_joined (core_stmt loop l) (λ u. acts w b (core_stmts loop (tree.joined ss back)) u) (λ u. acts w true (core_stmts loop ss) u) (λ u. acts w b (core_stmts loop back) u) (λ u s1 t1. list_joined b ss back u s1 t1) s t

  braces_joined : OnlyAdds env → (b : Bool) (ss back : tree.Stmts) → is_any_dependent ss ≡ false → (s : Store) (t : ℕ) → run_all w env (line w (core_stmt loop (tree.Block ss)) (λ u. acts w b (core_stmts loop back) u)) s t ≡ run_all w env (acts w b (core_stmts loop (tree.joined ss back)) UnitV) s t
  braces_joined adds b ss back q s t = ap (λ r. and_then r (λ e. run_all w env (each_value (λ u. acts w b (core_stmts loop back) u) e))) (scoped_list adds (core_stmts loop ss) (no_name_added loop ss q) true UnitV s t) ∙ sym (list_joined b ss back UnitV s t)

  -- a block in a list gives way to its statements
  pub braces_go : OnlyAdds env → (b : Bool) (ss back : tree.Stmts) → is_any_dependent ss ≡ false → (v : Value) (s : Store) (t : ℕ) → run_all w env (line w (core_stmt loop (tree.Block ss)) (λ u. acts w b (core_stmts loop back) u)) s t ≡ run_all w env (acts w b (core_stmts loop (spliced b ss back)) v) s t
  braces_go adds b (tree.stmt l ss) back q v s t = braces_joined adds b (tree.stmt l ss) back q s t
  braces_go adds b tree.no_stmts (tree.stmt l back) q v s t = braces_joined adds b tree.no_stmts (tree.stmt l back) q s t
  braces_go adds true tree.no_stmts tree.no_stmts q v s t = braces_joined adds true tree.no_stmts tree.no_stmts q s t
  braces_go adds false tree.no_stmts tree.no_stmts q v s t = braces_joined adds false tree.no_stmts tree.no_stmts q s t
