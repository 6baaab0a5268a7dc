use Rattle.std.proofs.Common.{drop}
use Rattle.std.proofs.lemmas.Option.{IfSome_then}
use Rattle.ast_types.specs.Reading.{stmts_of}
use Rattle.syntax_grammar.proofs.ScriptSteps.{script_over}
use Rattle.syntax_grammar.proofs.scripts.script.Goals as goal

pub returns : goal.returns
returns c = IfSome_then c.past_semicolons.result c.past_semicolons.ensures (λ next p. c.loop-statement.invariant _ (c.past_functions-last.ensures (stmts_of (drop c.loop-statement.statement-index c.args.statements.now)) _ (script_over c.args.statements.now c.args.functions.now c.loop-statement.statement-index c.past_functions-last.result.functions c.loop-statement-test.false c.if-last-functions.false p)))
