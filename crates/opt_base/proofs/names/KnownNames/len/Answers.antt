use Rattle.std.proofs.Common.{List, Option, ap, arith, length}
use Rattle.opt_base.specs.Bindings.{held_in}
use Rattle.base_text.specs.Text.{Text}
use Rattle.rhai_base.specs.declared.dynamic.Dynamic.{Dynamic}
use Rattle.opt_base.proofs.Stack.{entries-count}
use Rattle.opt_base.proofs.names.KnownNames.len.Goals as goal

pub returns : goal.returns
returns c =
    let a = c.self.inside in
    omega (arith, c.len.ensures, a.names.ok.0, entries-count a.names.items (held_in a.bindings), ap (λ (es : List (Text × Option Dynamic)). length es) c.self.view_is)
