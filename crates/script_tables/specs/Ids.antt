-- Ids of tables.
use Rattle.std.specs.Prelude.{[], ◌∷◌, Option, Some, None}
use Rattle.rhai_base.specs.Value.{Text}

-- an empty name is none
abbrev pub named : Text → Option Text
named [] = None
named (c ∷ cs) = Some (c ∷ cs)

-- the first where there is one
abbrev pub first_name : Option Text → Option Text → Option Text
first_name None b = b
first_name (Some a) b = Some a
