-- The rules of lists whose last statement gives unit: a lemma each, of the rule's name.
use Rattle.std.proofs.Common.{◌≡◌, Bool, true, false, refl, sym, subst}
use Rattle.rhai_base.specs.Value.{Value, UnitV}
use Rattle.theory_meaning.specs.Act.{Acts, Only}
use Rattle.theory_meaning.specs.ActForms.{give}
use Rattle.theory_meaning.specs.Core as core
use Rattle.theory_meaning.specs.Desugar.{core_stmt, core_stmts}
use Rattle.theory_meaning.specs.Meaning.{deed, line, acts, wanted_value}
use Rattle.theory_meaning.specs.Queries.{is_noop}
use Rattle.theory_meaning.specs.Tree.{Stmt, Noop, no_stmts, stmt}
use Rattle.theory_meaning.proofs.PureActs.{Calm, calm_of, p_give, l_only}
use Rattle.theory_meaning.proofs.PureTrees.{PureStmt, pure_deed, InternalStmt, declares, internal_deed, pure_stmt, internal_stmt}
use Rattle.theory_rewriting.specs.Context.{Context, ListKind, Whole, Inside, wanted}
use Rattle.theory_rewriting.specs.Rules.{is_pure_in}
use Rattle.theory_rewriting.specs.SurelyUnit.{is_surely_unit}
use Rattle.theory_soundness.proofs.simulation.Setting.{Setting, Start, world}
use Rattle.theory_soundness.proofs.simulation.Simulation.{all_trans, all_equal}
use Rattle.theory_soundness.proofs.simulation.Lists.{SimulatesList, list_of_all, list_trans}
use Rattle.theory_soundness.proofs.simulation.Dropped.{all_goes}
use Rattle.theory_soundness.proofs.acts.Within.{unit_first}
use Rattle.theory_soundness.proofs.acts.SurelyUnit.{UnitOnly, UnitStmt, unit_of, surely_unit}
use Rattle.theory_soundness.proofs.rules.Pure.{inside_goes}
use Rattle.theory_soundness.proofs.rules.Sound.{ListSound}

module _ {k : Context} (c : Setting k) where
  -- a list's value, and unit in its place
  abbrev ending : ListKind → Value → Acts
  ending m v = Only (give (wanted_value (wanted m) v))

  deed_last : (m : ListKind) (d : core.Deed) → Calm (world c) (deed (world c) d) → ((n : Start k) → UnitOnly (world c) n.env (deed (world c) d)) → SimulatesList c m (line (world c) (core.Does d) (ending m)) (ending m UnitV)
  deed_last m d p u = list_of_all m
      (all_trans (all_equal (λ n. unit_first (world c) n.env (ending m) (u n) n.store n.turns)) (all_goes c (deed (world c) d) (ending m UnitV) p))

  pure_last : (m : ListKind) (l : core.Stmt) → PureStmt (world c) l → ((n : Start k) → UnitStmt (world c) n.env l) → SimulatesList c m (line (world c) l (ending m)) (ending m UnitV)
  pure_last m _ (pure_deed {d = d} p) u = deed_last m d (calm_of (world c) p) (λ n. unit_of (world c) n.env (u n))

  inside_last : (b : Bool) (l : core.Stmt) → InternalStmt (world c) (Calm (world c)) l → ((n : Start k) → UnitStmt (world c) n.env l) → SimulatesList c (Inside b) (line (world c) l (ending (Inside b))) (ending (Inside b) UnitV)
  inside_last b _ (declares {k = f} {b = o} {x = x} {e = e} p) u = record { closed = inside_goes c (core.Var f o x e) (ending (Inside b) UnitV) (declares p) (l_only (world c) _ (p_give (world c) _)) }
  inside_last b _ (internal_deed {d = d} p) u = deed_last (Inside b) d p (λ n. unit_of (world c) n.env (u n))

  unit_last : (m : ListKind) (s : Stmt) → is_pure_in m s ≡ true → is_surely_unit s ≡ true → SimulatesList c m (line (world c) (core_stmt c.in_loop s) (ending m)) (ending m UnitV)
  unit_last Whole s h j = pure_last Whole (core_stmt c.in_loop s) (pure_stmt (world c) c.in_loop s h) (λ n. surely_unit (world c) n.env n.unbroken c.in_loop s j)
  unit_last (Inside b) s h j = inside_last b (core_stmt c.in_loop s) (internal_stmt (world c) c.in_loop s h) (λ n. surely_unit (world c) n.env n.unbroken c.in_loop s j)

pub last_unit_goes : {k : Context} {m : ListKind} {s : Stmt} → is_pure_in m s ≡ true → is_surely_unit s ≡ true → ListSound k m true (stmt s no_stmts) no_stmts
last_unit_goes {m = m} {s = s} h j = record {
  sound = λ c v z. subst (λ u. SimulatesList c m (acts (world c) (wanted m) (core_stmts c.in_loop (stmt s no_stmts)) u) (ending c m u)) (sym (z refl)) (unit_last c m s h j);
}

pub last_unit_noop : {k : Context} {m : ListKind} {u : Bool} {s : Stmt} → is_pure_in m s ≡ true → is_surely_unit s ≡ true → is_noop s ≡ false → ListSound k m u (stmt s no_stmts) (stmt Noop no_stmts)
last_unit_noop {m = m} {s = s} h j i = record {
  sound = λ c v z. list_trans m (unit_last c m s h j) (list_of_all m (all_equal (λ n. refl)));
}
