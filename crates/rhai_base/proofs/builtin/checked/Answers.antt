use Rattle.std.proofs.Common.{rules}
use Rattle.rhai_base.specs.Reading.{kinds}
use Rattle.rhai_base.specs.Operators.{binary, on_chars}
use Rattle.rhai_base.specs.Value.{text_of}
use Rattle.rhai_base.proofs.builtin.checked.Goals as goal

pub returns-in-None : goal.returns-in-None
unfolding binary on_chars text_of
returns-in-None c = search (rules, kinds)
