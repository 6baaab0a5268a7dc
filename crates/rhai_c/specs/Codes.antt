-- The numbers of failures, and where they stand.
use Rattle.std.specs.Prelude.{ℤ, negsuc}
use Rattle.base_tokens.specs.declared.position.Position.{Position}
use Rattle.syntax_source.specs.declared.refusal.Why.{Why}
use Rattle.syntax_source.specs.declared.refusal.Why.TheVariants as why
use Rattle.rhai_c.specs.declared.codes.Failure.{Failure}
use Rattle.rhai_c.specs.declared.codes.Failure.TheVariants as failure

-- of what is refused, where another refusal has that number: -6 for want of memory, -5 where no text spells a script
abbrev pub refused_code : ℤ → Why → ℤ
refused_code otherwise (why.NoScript e) = otherwise
refused_code otherwise (why.NoNotation e) = otherwise
refused_code otherwise (why.NoText e) = negsuc 4
refused_code otherwise why.AnotherScript = negsuc 4
refused_code otherwise why.NoConstant = otherwise
refused_code otherwise why.NoFunction = otherwise
refused_code otherwise why.OutOfMemory = negsuc 5

-- -1 for options, -2 for bytes that are no text, -3 for constants, -4 for a text that is no script
abbrev pub code_meant : Failure → ℤ
code_meant failure.Size = negsuc 0
code_meant failure.Level = negsuc 0
code_meant failure.Flags = negsuc 0
code_meant failure.Bytes = negsuc 1
code_meant (failure.Constants r) = refused_code (negsuc 2) r.why
code_meant (failure.Text r) = refused_code (negsuc 3) r.why
code_meant failure.OutOfMemory = negsuc 5

abbrev pub nowhere : Position
nowhere = record { line = 0; pos = 0 }

abbrev pub stands_at : Failure → Position
stands_at failure.Size = nowhere
stands_at failure.Level = nowhere
stands_at failure.Flags = nowhere
stands_at failure.Bytes = nowhere
stands_at (failure.Constants r) = r.position
stands_at (failure.Text r) = r.position
stands_at failure.OutOfMemory = nowhere
