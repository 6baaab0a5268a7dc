-- The rules of lists: a lemma each, of the rule's name.
use Rattle.std.proofs.Common.{◌≡◌, Bool, false}
use Rattle.theory_meaning.specs.Queries.{is_any_dependent}
use Rattle.theory_meaning.specs.Tree.{Block, Stmts, stmt}
use Rattle.theory_rewriting.specs.Context.{Context, ListKind, wanted}
use Rattle.theory_rewriting.specs.Rules as rule
use Rattle.theory_rewriting.specs.Rules.{spliced, ListRule}
use Rattle.theory_soundness.proofs.simulation.Setting.{world}
use Rattle.theory_soundness.proofs.simulation.Simulation.{all_equal}
use Rattle.theory_soundness.proofs.simulation.Lists.{list_of_all}
use Rattle.theory_soundness.proofs.rules.Blocks.{braces_go}
use Rattle.theory_soundness.proofs.rules.LastUnit as unit
use Rattle.theory_soundness.proofs.rules.Leaving as leaving
use Rattle.theory_soundness.proofs.rules.Pure as pure
use Rattle.theory_soundness.proofs.rules.Sound.{ListSound}

pub block_gives_way : {k : Context} {m : ListKind} {u : Bool} {ss back : Stmts} → is_any_dependent ss ≡ false → ListSound k m u (stmt (Block ss) back) (spliced (wanted m) ss back)
block_gives_way {m = m} {ss = ss} {back = back} q = record {
  sound = λ c v h. list_of_all m (all_equal (λ n. braces_go (world c) n.env c.in_loop n.adds (wanted m) ss back q v n.store n.turns));
}

-- ---- every rule

pub list_rule : {k : Context} {m : ListKind} {u : Bool} {ss ss' : Stmts} → ListRule k m u ss ss' → ListSound k m u ss ss'
list_rule (rule.block_gives_way h) = block_gives_way h
list_rule (rule.after_leave h) = leaving.after_leave h
list_rule (rule.pure_goes h j) = pure.pure_goes h j
list_rule (rule.lone_goes h) = pure.lone_goes h
list_rule (rule.pure_inside_goes h j i x) = pure.pure_inside_goes h j i x
list_rule rule.last_return = leaving.last_return
list_rule rule.last_return_goes = leaving.last_return_goes
list_rule rule.last_return_noop = leaving.last_return_noop
list_rule (rule.last_unit_goes h j) = unit.last_unit_goes h j
list_rule (rule.last_unit_noop h j i) = unit.last_unit_noop h j i
