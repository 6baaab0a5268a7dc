use Rattle.std.proofs.Common.{◌∙◌}
use Rattle.ast_types.specs.Reading.{arms_of}
use Rattle.opt_switch.proofs.Entries.{some_shrink}
use Rattle.opt_switch.proofs.shrink.lists_shrink.Goals as goal

pub returns-clause-shrink : goal.returns-clause-shrink
returns-clause-shrink c = c.any_shrinks.ensures.any ∙ some_shrink (arms_of c.args.arms.now) c.args.keeps_empty c.args.cases.now
