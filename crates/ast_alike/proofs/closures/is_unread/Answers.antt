use Rattle.std.proofs.Common.{◌++◌, ◌∙◌}
use Rattle.std.proofs.lemmas.Str.Pattern.{starts_text}
use Rattle.base_tokens.specs.Names.{anonymous}
use Rattle.theory_naming.specs.Alike.{unread}
use Rattle.ast_alike.proofs.Prefixes.{begins}
use Rattle.ast_alike.proofs.closures.is_unread.Goals as goal

pub returns : goal.returns
returns c = starts_text c.starts_with.result (anonymous ++ unread) c.args.name.now c.starts_with.ensures.cases ∙ begins (anonymous ++ unread) c.args.name.now
