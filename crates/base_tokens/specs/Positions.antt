-- Lines and positions, or nowhere.
use Rattle.std.specs.Prelude.{ℕ, Bool, Option, Some, None, ◌==◌, ◌&&◌, ◌||◌, if◌then◌else◌}
use Rattle.base_tokens.specs.declared.position.Position.{Position}

abbrev pub is_nowhere : Position → Bool
is_nowhere p = p.line == 0 && p.pos == 0

abbrev pub line_of : Position → Option ℕ
line_of p = if is_nowhere p then None else Some p.line

-- the beginning of a line has no position
abbrev pub position_of : Position → Option ℕ
position_of p = if is_nowhere p || p.pos == 0 then None else Some p.pos
