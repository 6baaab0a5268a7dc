-- What stands nowhere.
use Rattle.base_tokens.specs.declared.position.Position.{Position}

abbrev pub nowhere : Position
nowhere = record { line = 0; pos = 0 }
