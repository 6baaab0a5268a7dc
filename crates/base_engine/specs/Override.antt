-- Whether an override is the one asked for.
use Rattle.std.specs.Prelude.{Bool, ◌&&◌, List}
use Rattle.rhai_base.specs.Value.{Text, same_text}
use Rattle.theory_meaning.specs.Engine.{Override, same_texts}

abbrev pub is_override : Override → Text → List Text → Bool
is_override o name types = same_text o.name name && same_texts o.types types
