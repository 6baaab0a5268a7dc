use Rattle.std.proofs.Common.{rules}
use Rattle.rhai_base.specs.Reading.{kinds}
use Rattle.rhai_base.specs.Operators.{binary, on_chars}
use Rattle.rhai_base.specs.Value.{text_of}
use Rattle.rhai_base.proofs.builtin.builtin_unary_op.Goals as goal

pub returns-in-Bang : goal.returns-in-Bang
unfolding binary on_chars text_of
returns-in-Bang c = search (rules, kinds)
