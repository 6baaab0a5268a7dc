use Rattle.std.proofs.Common.{rules}
use Rattle.rhai_base.proofs.dynamic.Dynamic.text_of.Goals as goal

pub returns : goal.returns
returns c = search rules
