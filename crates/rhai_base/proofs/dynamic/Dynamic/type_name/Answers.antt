use Rattle.std.proofs.Common.{rules}
use Rattle.rhai_base.specs.Reading.{kinds}
use Rattle.rhai_base.proofs.dynamic.Dynamic.type_name.Goals as goal

pub returns-in-Bool : goal.returns-in-Bool
returns-in-Bool c = search (rules, kinds)
