use Rattle.std.proofs.Common.{◌≡◌, rules}
use Rattle.rhai_ast.specs.Arms.{default_of, ranges_left}
use Rattle.rhai_ast.proofs.Places.{range-none, range-some}
use Rattle.rhai_ast.proofs.walker.arms.ListedArms.next_range.Goals as goal

pub returns-in_err-range-clause-places : goal.returns-in_err-range-clause-places
returns-in_err-range-clause-places c =
    let none : ranges_left c.args.self.now ≡ default_of c.args.self.now.table.now = range-none _ _ _ _ c.as_slice.ensures c.in_err-range.ensures.lookup in
    search (rules, none)

pub returns-clause-places : goal.returns-clause-places
returns-clause-places c = range-some _ _ _ _ c.in_ok-range.range _ c.as_slice.ensures c.in_ok-range.ensures.lookup c.index.ensures
