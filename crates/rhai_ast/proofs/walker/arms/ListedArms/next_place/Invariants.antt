use Rattle.std.proofs.Common.{◌≡◌, ◌-◌, length}
use Rattle.ast_types.specs.Reading.{table_of}
use Rattle.rhai_ast.specs.Arms.{places_left}
use Rattle.rhai_ast.proofs.walker.arms.ListedArms.next_place.Given as goal

abbrev pub invariant-loop-self : goal.invariant-loop-self
invariant-loop-self l = record {
  table : l.self.table ≡ l.fn.self.table;
  places : places_left l.self ≡ places_left l.fn.self;
}

abbrev pub decreases-loop-self : goal.decreases-loop-self
decreases-loop-self l = length (table_of l.self.table.now).cases - l.self.cases
