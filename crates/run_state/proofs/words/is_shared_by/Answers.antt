use Rattle.run_state.proofs.WordAnswers.{shared_method}
use Rattle.run_state.proofs.words.is_shared_by.Goals as goal

pub returns-in-empty : goal.returns-in-empty
returns-in-empty c = λ here s v next other. shared_method here s v next other c.args.args.now c.in-empty.len_below
