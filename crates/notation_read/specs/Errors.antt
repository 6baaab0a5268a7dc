-- Where an error says that a text stops being one that is read.
use Rattle.std.specs.Prelude.{Option, Some, None}
use Rattle.base_tokens.specs.declared.position.Position.{Position}
use Rattle.notation_read.specs.declared.error.ReadError.{ReadError}
use Rattle.notation_read.specs.declared.error.ReadError.TheVariants as error

abbrev pub place_of : ReadError → Option Position
place_of (error.Missing letters p) = Some p
place_of (error.Expected what p) = Some p
place_of (error.Zeros p) = Some p
place_of (error.Keyword p) = Some p
place_of (error.KeyTwice p) = Some p
place_of (error.ParameterTwice p) = Some p
place_of (error.FunctionTwice p) = Some p
place_of (error.TooDeep p) = Some p
place_of error.OutOfMemory = None
