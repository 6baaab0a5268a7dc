use Rattle.std.proofs.Common.{drop}
use Rattle.base_text.specs.Text.{Text}
use Rattle.theory_grammar.specs.Grammar.{ReadsPath}
use Rattle.syntax_grammar.proofs.PathSteps.{names}
use Rattle.syntax_grammar.proofs.paths.past_modules.Given as goal

-- what is left decides
abbrev pub invariant-loop-module : goal.invariant-loop-module
invariant-loop-module l = (x rest : Text) → ReadsPath (drop l.place l.text) (names (drop l.module-index l.modules)) x rest → ReadsPath (drop l.at l.text) (names l.modules) x rest
