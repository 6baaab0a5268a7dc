-- Scripts and their texts, in both syntaxes.
use Rattle.std.specs.Prelude.{◌≡◌, [], None}
use Rattle.rhai_base.specs.Value.{Text}
use Rattle.opt_base.specs.declared.level.OptimizationLevel.{OptimizationLevel}
use Rattle.theory_meaning.specs.Engine.{Engine}
use Rattle.theory_meaning.specs.Faults.{script_fault}
use Rattle.theory_meaning.specs.Tree.{Script}
use Rattle.theory_rewriting.specs.Scripts.{known_at_top}
use Rattle.theory_spelling.specs.Runs.{DoTheSame}
use Rattle.notation_print.specs.Notation.{script_text}
use Rattle.rhai_optimizer.specs.Optimised.{Becomes}
use Rattle.notation_read.specs.Texts.{AreLinesOf}
use Rattle.rhai_script.specs.Contents.{Contents, meant, merged}
use Rattle.rhai_script.specs.Renamed.{Apart}
use Rattle.syntax_source.specs.Refined.{Refined}
use Rattle.syntax_source.specs.declared.syntax.Syntax.{Syntax}
use Rattle.syntax_source.specs.declared.syntax.Syntax.TheVariants as syntax

-- What is known of a script that was read: in rhai's own syntax that it has no fault; in the notation that it prints as
-- the text.
abbrev pub IsReadAs : Syntax → Text → Script → Type 0
IsReadAs (syntax.Rhai bounds) text p = script_fault p ≡ None
IsReadAs syntax.Notation text p = AreLinesOf text (script_text p)

-- A script is written as a text, which is read as a script that does the same; in the notation, as this one.
abbrev pub IsWrittenAs : Syntax → Script → Text → Script → Type 0
IsWrittenAs (syntax.Rhai bounds) p text q = DoTheSame p q
IsWrittenAs syntax.Notation p text q = (text ≡ script_text p) × (q ≡ p)

-- What a script becomes at a level under an engine's record, and then as one that is read, which refines it.
pub record BecomesRead (r : Engine) (l : OptimizationLevel) (p q : Script) : Type 0 where
  pub optimized : Script
  pub becomes : Becomes r [] l p optimized
  pub same : DoTheSame optimized q
  pub refines : Refined r (known_at_top r []) p q

-- What a script becomes at a level under an engine's record, and then as a text, which is read as one that refines it.
pub record BecomesText (r : Engine) (s : Syntax) (l : OptimizationLevel) (p : Script) (text : Text) (q : Script) : Type 0 where
  pub optimized : Script
  pub becomes : Becomes r [] l p optimized
  pub written : IsWrittenAs s optimized text q
  pub refines : Refined r (known_at_top r []) p q

-- Two texts are read as scripts, which are merged, the closures of the second apart, and that script is written.
pub record AreMerged (s : Syntax) (first second text : Text) (q : Script) : Type 0 where
  pub one : Contents
  pub other : Contents
  pub reads_one : IsReadAs s first (meant one)
  pub reads_other : IsReadAs s second (meant other)
  pub put_in : Contents
  pub apart : Apart one.functions other put_in
  pub written : IsWrittenAs s (meant (merged one put_in put_in.functions)) text q
