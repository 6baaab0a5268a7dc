use Rattle.std.proofs.Common.{refl}
use Rattle.demo.proofs.Shows.{optimized_built_in}
use Rattle.demo.proofs.program.optimized.Goals as goal

pub returns : goal.returns
returns c = optimized_built_in _ _ _ _ _ _ c.in_ok-after.after c.new-engine.ensures refl c.in_ok-statements.ensures c.in_ok-functions.ensures c.in_ok-after.ensures
