use Rattle.opt_chains.proofs.Chains as chains
use Rattle.opt_chains.proofs.chain.chain.unit_ends.Goals as goal

pub returns : goal.returns
returns c = λ p r h. chains.unit_ends r p _ _ _ c.put_unit.ensures.dirty c.put_unit.ensures.known c.put_unit.ensures.unit _ h
