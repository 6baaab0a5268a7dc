use Rattle.std.proofs.Common.{rules}
use Rattle.rhai_base.specs.Reading.{kinds}
use Rattle.rhai_base.specs.Operators.{binary, on_chars}
use Rattle.rhai_base.specs.Value.{text_of}
use Rattle.rhai_base.proofs.builtin.comparison.Goals as goal

pub returns-in-LessThan : goal.returns-in-LessThan
unfolding binary on_chars text_of
returns-in-LessThan c = search (rules, kinds)
