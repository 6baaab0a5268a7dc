use Rattle.std.proofs.Common.{rules}
use Rattle.base_tokens.proofs.Paths.{unnamed}
use Rattle.base_tokens.proofs.namespace.Namespace.is_empty.Goals as goal

pub returns-clause-names : goal.returns-clause-names
returns-clause-names c = unnamed c.is_empty.result c.args.self.now.path c.is_empty.ensures

pub returns-clause-path : goal.returns-clause-path
returns-clause-path c = search rules
