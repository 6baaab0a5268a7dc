use Rattle.std.proofs.Common.{◌-◌, List, Option, length, drop, ap, ◌∙◌, arith}
use Rattle.base_text.specs.Text.{Text}
use Rattle.rhai_base.specs.declared.dynamic.Dynamic.{Dynamic}
use Rattle.opt_base.proofs.Stack.{rewound}
use Rattle.opt_base.proofs.names.KnownNames.rewind.Goals as goal

pub loop-self-preserved : goal.loop-self-preserved
loop-self-preserved c = ap (λ (es : List (Text × Option Dynamic)). drop (length es - c.args.len) es) c.forget_newest.ensures ∙ rewound c.loop-self.self c.args.len (omega (arith, c.len.ensures)) ∙ c.loop-self.invariant
