-- The rules of lists: a lemma each, of the rule's name.
use Rattle.std.proofs.Common.{◌≡◌, ◌+◌, ◌≤◌, Bool, true, false, arith}
use Rattle.theory_meaning.specs.Queries.{is_any_dependent}
use Rattle.theory_meaning.specs.Tree.{Block, Stmts, no_stmts, stmt}
use Rattle.theory_meaning.specs.Walk.{Node, Around, whole, throughout, over_stmts}
use Rattle.theory_meaning.proofs.Walk.{throughout_joined, total_joined}
use Rattle.theory_rewriting.specs.Context.{Context, ListKind, wanted}
use Rattle.theory_rewriting.specs.Rules as rule
use Rattle.theory_rewriting.specs.Rules.{spliced, ListRule}
use Rattle.theory_meaning.specs.Weight.{own_weight, weight}
use Rattle.theory_rewriting.proofs.rules.Lasting.{Lasting}
use Rattle.theory_rewriting.proofs.rules.LastUnit as unit
use Rattle.theory_rewriting.proofs.rules.Leaving as leaving
use Rattle.theory_rewriting.proofs.rules.Pure as pure
use Rattle.theory_rewriting.proofs.rules.Obligation.{ListObligation}

spliced_light : (w : Bool) (ss back : Stmts) → weight (spliced w ss back) ≤ 1 + weight ss + weight back
spliced_light w (stmt s ss) back = omega (arith, total_joined own_weight (stmt s ss) back)
spliced_light w no_stmts (stmt s back) = omega arith
spliced_light true no_stmts no_stmts = omega arith
spliced_light false no_stmts no_stmts = omega arith

spliced_keeps : (P : Around → Node → Type 0) (l : Bool) → Lasting P l → (b : Bool) (ss back : Stmts) → over_stmts (throughout P) ss (whole l) → over_stmts (throughout P) back (whole l) → over_stmts (throughout P) (spliced b ss back) (whole l)
spliced_keeps P l lasts b (stmt s ss) back h k = throughout_joined P (whole l) (stmt s ss) back h k
spliced_keeps P l lasts b no_stmts (stmt s back) h k = k
spliced_keeps P l lasts true no_stmts no_stmts h k = ((lasts.noop, tt), tt)
spliced_keeps P l lasts false no_stmts no_stmts h k = tt

pub block_gives_way : {k : Context} {m : ListKind} {u : Bool} {ss back : Stmts} → is_any_dependent ss ≡ false → ListObligation k m u (stmt (Block ss) back) (spliced (wanted m) ss back)
block_gives_way {m = m} {ss = ss} {back = back} q = record {
  lighter = omega (arith, spliced_light (wanted m) ss back);
  keeps = λ P l lasts h. spliced_keeps P l lasts (wanted m) ss back h.0.1 h.1;
}

-- ---- every rule

pub list_rule : {k : Context} {m : ListKind} {u : Bool} {ss ss' : Stmts} → ListRule k m u ss ss' → ListObligation k m u ss ss'
list_rule (rule.block_gives_way h) = block_gives_way h
list_rule (rule.after_leave h) = leaving.after_leave h
list_rule (rule.pure_goes h j) = pure.pure_goes h j
list_rule (rule.lone_goes h) = pure.lone_goes h
list_rule (rule.pure_inside_goes h j i x) = pure.pure_inside_goes h j i x
list_rule rule.last_return = leaving.last_return
list_rule rule.last_return_goes = leaving.last_return_goes
list_rule rule.last_return_noop = leaving.last_return_noop
list_rule (rule.last_unit_goes h j) = unit.last_unit_goes h j
list_rule (rule.last_unit_noop h j i) = unit.last_unit_noop h j i
