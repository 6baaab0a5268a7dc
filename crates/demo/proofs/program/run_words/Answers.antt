use Rattle.demo.proofs.program.run_words.Goals as goal

pub returns-in-None-clause-usage : goal.returns-in-None-clause-usage
returns-in-None-clause-usage g c = c.put_usage.ensures.usage
