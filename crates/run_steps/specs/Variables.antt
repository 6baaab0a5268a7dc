-- What a name, a constant of the script's own list or `this` stands for.
use Rattle.std.specs.Prelude.{List, [], ◌∷◌}
use Rattle.rhai_base.specs.Value.{Text}
use Rattle.theory_meaning.specs.Act as act
use Rattle.theory_meaning.specs.Act.{Act, Resolve, resolved}
use Rattle.theory_meaning.specs.Calls.{within}
use Rattle.theory_meaning.specs.Desugar.{qualified}
use Rattle.run_steps.specs.declared.nodes.variables.Root.{Root}
use Rattle.run_steps.specs.declared.nodes.variables.Root.TheVariants.{Name, Global, This}

abbrev pub root_meant : Root → act.Root
root_meant (Name x) = act.OfName x.now
root_meant (Global x) = act.OfGlobal x.now
root_meant This = act.OfThis

-- the whole name of what is named so, in a scope with these aliases
abbrev pub qualified_in : List act.ScopeEntry → List Text → Text → Text
qualified_in es [] x = x
qualified_in es (m ∷ ms) x = within (resolved es m) (qualified ms x)

-- goes on with the whole name of what is named so
abbrev pub in_module : List Text → Text → (Text → Act) → Act
in_module [] x next = next x
in_module (m ∷ ms) x next = Resolve m (λ n. next (within n (qualified ms x)))
