use Rattle.rhai_base.proofs.Texts.{is_text-other}
use Rattle.rhai_base.proofs.builtin.is_text.Goals as goal

pub returns-in_default : goal.returns-in_default
returns-in_default c = is_text-other _ c.in_default.not-Str c.in_default.not-Char
