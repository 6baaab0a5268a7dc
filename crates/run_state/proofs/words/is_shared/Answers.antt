use Rattle.run_state.proofs.WordAnswers.{shared_word}
use Rattle.run_state.proofs.words.is_shared.Goals as goal

pub returns-in-len1 : goal.returns-in-len1
returns-in-len1 c = λ here s next. shared_word here s next c.args.args.now c.in-len1.len_at_least c.in-len1.len_below
