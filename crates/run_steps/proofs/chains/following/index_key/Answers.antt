use Rattle.std.proofs.Common.{◌≡◌, rules, subst, sym}
use Rattle.std.specs.Int.{w64}
use mir.Val.{of_z, to_z}
use Rattle.theory_meaning.specs.Places.{AtIndex}
use Rattle.rhai_ast.specs.declared.walker.node.ChainType.TheVariants as chain_type
use Rattle.run_steps.specs.Direct.{KeySteps}
use Rattle.run_steps.specs.Setting.{setting}
use Rattle.run_steps.proofs.FollowingSides.{index_key}
use Rattle.run_steps.proofs.chains.following.index_key.Goals as goal

pub returns : goal.returns
returns g c =
    let here = setting g.H.Host.answers g.H.Host.modules c.args.machine.now in
    let same : to_z w64 (of_z w64 c.in_ok-index.index) ≡ c.in_ok-index.index = search rules in
    subst (λ n. KeySteps here c.args.state.now chain_type.Indexing c.args.argument.now (AtIndex n)) (sym same)
    (index_key here c.args.state.now c.args.argument.now c.in_ok-index.index c.in_ok-index.ensures)
