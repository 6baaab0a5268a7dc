-- The rules of lists by which pure statements go: a lemma each, of the rule's name.
use Rattle.std.proofs.Common.{◌≡◌, Bool, true, false, List, arith}
use Rattle.rhai_base.specs.Value.{Text}
use Rattle.theory_meaning.specs.Queries.{is_pure, is_internally_pure, are_internally_pure}
use Rattle.theory_meaning.specs.Tree.{Variable, Stmt, ExprStmt, Stmts, stmt}
use Rattle.theory_rewriting.specs.Context.{Context, ListKind, Inside, wanted, wanted_before}
use Rattle.theory_rewriting.specs.Exports.{exports_nothing}
use Rattle.theory_rewriting.proofs.rules.Leaving.{stmt_heavy}
use Rattle.theory_rewriting.proofs.rules.Obligation.{ListObligation}

pub pure_goes : {k : Context} {m : ListKind} {u : Bool} {s : Stmt} {ss : Stmts} → wanted_before (wanted m) ss ≡ false → is_pure s ≡ true → ListObligation k m u (stmt s ss) ss
pure_goes {m = m} {s = s} {ss = ss} n h = record {
  lighter = omega (arith, stmt_heavy s);
  keeps = λ P l lasts j. j.1;
}

pub lone_goes : {k : Context} {m : ListKind} {u : Bool} {ns : List Text} {x : Text} {ss : Stmts} → wanted_before (wanted m) ss ≡ false → ListObligation k m u (stmt (ExprStmt (Variable ns x)) ss) ss
lone_goes {m = m} {ns = ns} {x = x} {ss = ss} n = record {
  lighter = omega arith;
  keeps = λ P l lasts j. j.1;
}

pub pure_inside_goes : {k : Context} {b u : Bool} {s : Stmt} {ss : Stmts} → wanted_before b ss ≡ false → is_internally_pure s ≡ true → are_internally_pure ss ≡ true → exports_nothing ss ≡ true → ListObligation k (Inside b) u (stmt s ss) ss
pure_inside_goes {b = b} {s = s} {ss = ss} n h j x = record {
  lighter = omega (arith, stmt_heavy s);
  keeps = λ P l lasts i. i.1;
}
