-- The rules of lists by which pure statements go: a lemma each, of the rule's name.
use Rattle.std.proofs.Common.{◌≡◌, Bool, true, false, List, [], ◌∷◌, Option, Some, None, refl, ap}
use Rattle.rhai_base.specs.Value.{Text, Value}
use Rattle.theory_meaning.specs.Act.{World, IsExport, Store, Unbound, Scoped, Acts, Named, resolved}
use Rattle.theory_meaning.specs.Calls.{within}
use Rattle.theory_meaning.specs.ActForms.{each_value, then_line, of_constant}
use Rattle.theory_meaning.specs.Core as core
use Rattle.theory_meaning.specs.Desugar.{variable, qualified, core_stmt, core_stmts, is_global, in_module}
use Rattle.theory_meaning.specs.Meaning.{exporting, act, deed, line, acts}
use Rattle.theory_meaning.specs.Queries.{is_pure, is_internally_pure, are_internally_pure}
use Rattle.theory_meaning.specs.Tree.{Variable, Stmt, ExprStmt, Stmts, no_stmts, stmt}
use Rattle.theory_meaning.proofs.PureActs.{PureFrom, PureList, Calm, calm_of, calm_read, p_fail, p_give, l_named, unnamed, calm_read_global}
use Rattle.theory_meaning.proofs.PureTrees.{PureStmt, pure_deed, InternalStmt, declares, internal_deed, pure_stmt, internal_stmt, nameless_list}
use Rattle.theory_meaning.proofs.Sequencing.{scoped_do}
use Rattle.theory_rewriting.specs.Context.{Context, ListKind, Inside, wanted, wanted_before}
use Rattle.theory_rewriting.specs.Exports.{exports_nothing}
use Rattle.theory_soundness.proofs.simulation.Setting.{Setting, world, run_from, run_all_from}
use Rattle.theory_soundness.proofs.simulation.Simulation.{Simulates, simulates_trans, all_trans, simulates_equal, all_equal, simulates_refl}
use Rattle.theory_soundness.proofs.simulation.Laws.{calm_ending_goes}
use Rattle.theory_soundness.proofs.simulation.Lists.{SimulatesList, list_of_all}
use Rattle.theory_soundness.proofs.simulation.Dropped.{all_goes}
use Rattle.theory_soundness.proofs.rules.Sound.{ListSound}

-- a value that nobody asks for
not_wanted : (w : World) (l b : Bool) (ss : Stmts) → wanted_before b ss ≡ false → (u v : Value) → acts w b (core_stmts l ss) u ≡ acts w b (core_stmts l ss) v
not_wanted w l true no_stmts h u v = absurd (let z : true ≡ false = h in cc)
not_wanted w l false no_stmts h u v = refl
not_wanted w l b (stmt s ss) h u v = refl

module _ {k : Context} (c : Setting k) where
  -- a deed that changes nothing
  deed_goes : (m : ListKind) (d : core.Deed) (ss : Stmts) (v : Value) → wanted_before (wanted m) ss ≡ false → Calm (world c) (deed (world c) d) → SimulatesList c m (then_line (deed (world c) d) (λ u. acts (world c) (wanted m) (core_stmts c.in_loop ss) u)) (acts (world c) (wanted m) (core_stmts c.in_loop ss) v)
  deed_goes m d ss v n p = list_of_all m
      (all_trans {q = then_line (deed (world c) d) (λ u. acts (world c) (wanted m) (core_stmts c.in_loop ss) v)}
      (all_equal (λ i. ap (λ f. run_all_from c i (then_line (deed (world c) d) f)) (λ j u. not_wanted (world c) c.in_loop (wanted m) ss n u v j)))
      (all_goes c (deed (world c) d) _ p))

  stmt_goes : (m : ListKind) (l : core.Stmt) (ss : Stmts) (v : Value) → wanted_before (wanted m) ss ≡ false → PureStmt (world c) l → SimulatesList c m (line (world c) l (λ u. acts (world c) (wanted m) (core_stmts c.in_loop ss) u)) (acts (world c) (wanted m) (core_stmts c.in_loop ss) v)
  stmt_goes m _ ss v n (pure_deed {d = d} p) = deed_goes m d ss v n (calm_of (world c) p)

  -- ---- a name alone

  constant_calm : (o : Option Value) → Calm (world c) (of_constant o)
  constant_calm None = calm_of (world c) (p_fail (world c) Unbound)
  constant_calm (Some v) = calm_of (world c) (p_give (world c) v)

  module_from : (n x : Text) (s : Store) → PureFrom (world c) (act (world c) (core.ModuleVariable n x)) s
  module_from n x s =
      let q = (constant_calm (c.host.module_value (within (resolved s.scope n) x))).from s in
      record { cost = q.cost; end = q.end; by = λ env adds t. q.by env adds t }

  name_calm : (ns : List Text) (x : Text) → Calm (world c) (act (world c) (variable ns x))
  name_calm [] x = calm_read (world c) x
  name_calm (n ∷ []) x = in_module_calm (is_global n) where
    in_module_calm : (b : Bool) → Calm (world c) (act (world c) (in_module b n x))
    in_module_calm true = calm_read_global (world c) x
    in_module_calm false = record { from = λ s. module_from n x s }
  name_calm (n ∷ m ∷ ns) x = record { from = λ s. module_from n (qualified (m ∷ ns) x) s }

  -- ---- a statement that is pure inside, before a list that changes nothing

  exporting_pure : (b : Bool) (x : Text) (v : Value) (p : Acts) → PureList (world c) p → PureList (world c) (exporting b x v p)
  exporting_pure true x v p h = l_named (world c) x IsExport v p h
  exporting_pure false x v p h = h

  exporting_goes : (b : Bool) (x : Text) (v : Value) (p : Acts) → PureList (world c) p → Simulates c (Scoped (exporting b x v p)) (Scoped p)
  exporting_goes true x v p h = simulates_equal (λ n. unnamed (world c) x IsExport v p h n.env n.adds n.store n.turns)
  exporting_goes false x v p h = simulates_refl

  pub inside_goes : (l : core.Stmt) (p : Acts) → InternalStmt (world c) (Calm (world c)) l → PureList (world c) p → Simulates c (Scoped (line (world c) l (λ u. p))) (Scoped p)
  inside_goes _ p (declares {k = y} {b = b} {x = x} {e = e} h) q =
      let a = act (world c) e in
      let next : Value → Acts = λ v. Named x y v (exporting b x v p) in
      simulates_trans (simulates_equal (λ n. scoped_do (world c) n.env n.adds a (λ z. each_value next z) n.store n.turns))
      (calm_ending_goes a (λ z. Scoped (each_value next z)) (Scoped p) h (λ v.
      simulates_trans (simulates_equal (λ n. unnamed (world c) x y v (exporting b x v p) (exporting_pure b x v p q) n.env n.adds n.store n.turns)) (exporting_goes b x v p q)))
  inside_goes _ p (internal_deed {d = d} h) q =
      let a = deed (world c) d in
      simulates_trans (simulates_equal (λ n. scoped_do (world c) n.env n.adds a (λ z. each_value (λ v. p) z) n.store n.turns))
      (calm_ending_goes a (λ z. Scoped (each_value (λ v. p) z)) (Scoped p) h (λ v. simulates_refl))

pub pure_goes : {k : Context} {m : ListKind} {u : Bool} {s : Stmt} {ss : Stmts} → wanted_before (wanted m) ss ≡ false → is_pure s ≡ true → ListSound k m u (stmt s ss) ss
pure_goes {m = m} {s = s} {ss = ss} n h = record {
  sound = λ c v z. stmt_goes c m (core_stmt c.in_loop s) ss v n (pure_stmt (world c) c.in_loop s h);
}

pub lone_goes : {k : Context} {m : ListKind} {u : Bool} {ns : List Text} {x : Text} {ss : Stmts} → wanted_before (wanted m) ss ≡ false → ListSound k m u (stmt (ExprStmt (Variable ns x)) ss) ss
lone_goes {m = m} {ns = ns} {x = x} {ss = ss} n = record {
  sound = λ c v z. deed_goes c m (core.Evaluate (variable ns x)) ss v n (name_calm c ns x);
}

pub pure_inside_goes : {k : Context} {b u : Bool} {s : Stmt} {ss : Stmts} → wanted_before b ss ≡ false → is_internally_pure s ≡ true → are_internally_pure ss ≡ true → exports_nothing ss ≡ true → ListSound k (Inside b) u (stmt s ss) ss
pure_inside_goes {b = b} {s = s} {ss = ss} n h j x = record {
  sound = λ c v z. record {
    closed = simulates_trans
        (simulates_equal (λ i. ap (λ f. run_from c i (Scoped (line (world c) (core_stmt c.in_loop s) f))) (λ y u. not_wanted (world c) c.in_loop b ss n u v y)))
        (inside_goes c (core_stmt c.in_loop s) (acts (world c) b (core_stmts c.in_loop ss) v) (internal_stmt (world c) c.in_loop s h) (nameless_list (world c) c.in_loop b ss j x v));
  };
}
