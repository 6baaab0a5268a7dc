use Rattle.std.proofs.Common.{rules}
use Rattle.syntax_grammar.proofs.names.is_kept.Goals as goal

pub returns : goal.returns
returns c = search rules
