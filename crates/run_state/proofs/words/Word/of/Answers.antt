use Rattle.std.proofs.Common.{rules}
use Rattle.rhai_base.specs.Reading.{kinds}
use Rattle.run_state.proofs.words.Word.of.Goals as goal

pub returns-in_default : goal.returns-in_default
returns-in_default c = search (rules, kinds)
