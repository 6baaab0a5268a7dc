use Rattle.std.proofs.Common.{◌∙◌, drop, subst, sym}
use Rattle.std.proofs.lemmas.Option.{IfSome_then}
use Rattle.ast_types.specs.Reading.{breaks, is_exported, maybe_of}
use Rattle.theory_meaning.specs.Tree.{BreakLoop}
use Rattle.theory_grammar.specs.Statements.{ReadsSimple}
use Rattle.syntax_grammar.proofs.PartSteps.{continued_at}
use Rattle.syntax_grammar.proofs.simple.out_of_loop.Goals as goal

pub returns-in-None : goal.returns-in-None
returns-in-None c = IfSome_then c.past_letters-in-None.result c.past_letters-in-None.ensures (λ next w. subst (λ v. ReadsSimple (drop c.args.at c.args.text.now) (BreakLoop (breaks c.args.flags) (is_exported c.args.flags) (maybe_of v)) (drop next c.args.text.now)) (sym c.in-None.is) (continued_at (breaks c.args.flags) (is_exported c.args.flags) (sym c.is_break.ensures ∙ c.if-is_break.false) (sym c.is_seen.ensures ∙ c.if-is_seen.false) w))
