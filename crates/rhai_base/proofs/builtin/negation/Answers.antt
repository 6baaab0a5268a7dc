use Rattle.std.proofs.Common.{rules}
use Rattle.rhai_base.specs.Reading.{kinds}
use Rattle.rhai_base.specs.Operators.{binary, on_chars}
use Rattle.rhai_base.specs.Value.{text_of}
use Rattle.rhai_base.proofs.builtin.negation.Goals as goal

pub returns-in-Bool : goal.returns-in-Bool
unfolding binary on_chars text_of
returns-in-Bool c = search (rules, kinds)
