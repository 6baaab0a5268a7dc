use Rattle.run_steps.proofs.ChainLinks.{last_weighs, link_ends}
use Rattle.run_steps.proofs.nodes.links.Rest.link.Goals as goal

pub returns-in_default : goal.returns-in_default
returns-in_default c =
    let is = c.last_link-in_default.ensures in
    let weighs = last_weighs c.args.self.right.now c.last_link-in_default.result is in
    record { steps = link_ends c.args.self c.last_link-in_default.result c.in_default.not-Dot c.in_default.not-Index is; argument = weighs.0; rest = weighs.1 }
