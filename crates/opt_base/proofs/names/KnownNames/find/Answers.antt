use Rattle.std.proofs.Common.{List, Option, sym, ap, ◌∙◌}
use Rattle.std.specs.Prelude.{reverse}
use Rattle.std.specs.Option.{option_map}
use Rattle.rhai_base.specs.Reading.{value_of}
use Rattle.theory_rewriting.specs.Known.{look}
use Rattle.opt_base.specs.Bindings.{held_in}
use Rattle.base_text.specs.Text.{Text}
use Rattle.rhai_base.specs.declared.dynamic.Dynamic.{Dynamic}
use Rattle.opt_base.specs.State.{known_of}
use Rattle.opt_base.proofs.Stack.{look-latest}
use Rattle.opt_base.proofs.names.KnownNames.find.Goals as goal

pub returns : goal.returns
returns c =
    let a = c.self.inside in
    ap (option_map value_of) c.latest.ensures
    ∙ sym (look-latest (reverse a.names.items) (held_in a.bindings) c.args.name.now c.self.invariant)
    ∙ ap (λ (es : List (Text × Option Dynamic)). look (known_of es) c.args.name.now) c.self.view_is
