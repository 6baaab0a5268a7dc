-- The rules of lists whose last statement gives unit: a lemma each, of the rule's name.
use Rattle.std.proofs.Common.{◌≡◌, ◌≤◌, Bool, true, false, arith}
use Rattle.theory_meaning.specs.Queries.{is_noop}
use Rattle.theory_meaning.specs.Tree.{Stmt, Noop, Switch, ExprStmt, no_stmts, stmt}
use Rattle.theory_meaning.specs.Weight.{stmt_weight}
use Rattle.theory_rewriting.specs.Context.{Context, ListKind}
use Rattle.theory_rewriting.specs.Rules.{is_pure_in}
use Rattle.theory_rewriting.specs.SurelyUnit.{is_surely_unit}
use Rattle.theory_rewriting.proofs.rules.Leaving.{stmt_heavy}
use Rattle.theory_rewriting.proofs.rules.Obligation.{ListObligation}

-- but for `Noop` they are heavier than one
unit_heavy : (s : Stmt) → is_surely_unit s ≡ true → is_noop s ≡ false → 2 ≤ stmt_weight s
unit_heavy Noop h j = absurd (let z : true ≡ false = j in cc)
unit_heavy (ExprStmt e) h j = absurd (let z : false ≡ true = h in cc)
unit_heavy (Switch e as' t) h j = absurd (let z : false ≡ true = h in cc)
unit_heavy _ h j = omega arith

pub last_unit_goes : {k : Context} {m : ListKind} {s : Stmt} → is_pure_in m s ≡ true → is_surely_unit s ≡ true → ListObligation k m true (stmt s no_stmts) no_stmts
last_unit_goes {m = m} {s = s} h j = record {
  lighter = omega (arith, stmt_heavy s);
  keeps = λ P l lasts i. tt;
}

pub last_unit_noop : {k : Context} {m : ListKind} {u : Bool} {s : Stmt} → is_pure_in m s ≡ true → is_surely_unit s ≡ true → is_noop s ≡ false → ListObligation k m u (stmt s no_stmts) (stmt Noop no_stmts)
last_unit_noop {m = m} {s = s} h j i = record {
  lighter = omega (arith, unit_heavy s j i);
  keeps = λ P l lasts x. ((lasts.noop, tt), tt);
}
