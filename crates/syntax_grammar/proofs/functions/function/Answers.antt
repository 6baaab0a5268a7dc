use Rattle.std.proofs.lemmas.Option.{IfSome_then}
use Rattle.syntax_grammar.proofs.FunctionSteps.{function_at}
use Rattle.syntax_grammar.proofs.functions.function.Goals as goal

pub returns : goal.returns
returns c = IfSome_then c.block.result c.block.ensures (λ next b. function_at c.args.node.now c.as_str.result.now c.as_slice.result.now c.statements.result.now c.as_str.ensures c.as_slice.ensures c.statements.ensures c.in_ok-first.ensures c.in_ok-second.ensures c.in_ok-third.ensures b)
