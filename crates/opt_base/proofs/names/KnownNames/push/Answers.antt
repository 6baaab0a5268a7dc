use Rattle.std.proofs.Common.{◌≡◌, List, Option, ◌∷◌, ◌++◌, [], ap, ◌∙◌, rules}
use Rattle.opt_base.specs.Bindings.{held_in, read, with_newest}
use Rattle.base_text.specs.Text.{Text}
use Rattle.rhai_base.specs.declared.dynamic.Dynamic.{Dynamic}
use Rattle.opt_base.proofs.Stack.{settled-pushed, entries-pushed}
use Rattle.opt_base.proofs.names.KnownNames.push.Goals as goal

pub invariant_of-self-2 : goal.invariant_of-self-2
invariant_of-self-2 c =
    let a = c.self.inside in
    let e : c.push.new.self.items ≡ a.names.items ++ c.args.name ∷ [] = search rules in
    let h : held_in c.add.new.bindings ≡ with_newest c.args.name (read c.args.binding) (held_in a.bindings) = c.in_ok-add.ensures.ok ∙ ap (λ x. with_newest x (read c.args.binding) (held_in a.bindings)) c.as_str.ensures in
    settled-pushed a.names.items c.push.new.self.items c.args.name (read c.args.binding) (held_in a.bindings) (held_in c.add.new.bindings) e h c.self.invariant

pub returns-clause-ok : goal.returns-clause-ok
returns-clause-ok c =
    let a = c.self.inside in
    let e : c.push.new.self.items ≡ a.names.items ++ c.args.name ∷ [] = search rules in
    let h : held_in c.add.new.bindings ≡ with_newest c.args.name (read c.args.binding) (held_in a.bindings) = c.in_ok-add.ensures.ok ∙ ap (λ x. with_newest x (read c.args.binding) (held_in a.bindings)) c.as_str.ensures in
    entries-pushed a.names.items c.push.new.self.items c.args.name (read c.args.binding) (held_in a.bindings) (held_in c.add.new.bindings) e h
    ∙ ap (λ (es : List (Text × Option Dynamic)). (c.args.name, read c.args.binding) ∷ es) c.self.view_is
