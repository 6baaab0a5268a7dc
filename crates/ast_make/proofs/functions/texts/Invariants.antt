use Rattle.std.proofs.Common.{◌≡◌, ◌++◌, map, drop}
use Rattle.ast_make.proofs.functions.texts.Given as goal

abbrev pub invariant-loop-name : goal.invariant-loop-name
invariant-loop-name l = l.made ++ map (λ name. name.now) (drop l.name-index l.names) ≡ map (λ name. name.now) l.names
