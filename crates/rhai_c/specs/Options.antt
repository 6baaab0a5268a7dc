-- What options ask for, and what calls answer.
use Rattle.std.specs.Prelude.{◌≡◌, ℕ}
use Rattle.rhai_base.specs.Value.{Text}
use Rattle.opt_base.specs.declared.level.OptimizationLevel.{OptimizationLevel}
use Rattle.opt_base.specs.declared.level.OptimizationLevel.TheVariants as level
use Rattle.theory_meaning.specs.Engine.{Engine}
use Rattle.theory_meaning.specs.Tree.{Script}
use Rattle.syntax_source.specs.Texts.{AreMerged, BecomesText, IsReadAs}
use Rattle.syntax_source.specs.declared.syntax.Syntax.{Syntax}
use Rattle.syntax_source.specs.declared.syntax.Syntax.TheVariants as syntax
use Rattle.rhai_c.specs.declared.options.BalvuzsomOptions.{BalvuzsomOptions}

-- the syntax that a number stands for
abbrev pub IsSyntax : ℕ → Syntax → Type 0
IsSyntax n (syntax.Rhai bounds) = n ≡ 0
IsSyntax n syntax.Notation = n ≡ 1

-- the level that a number stands for
abbrev pub IsLevel : ℕ → OptimizationLevel → Type 0
IsLevel n level.None = n ≡ 0
IsLevel n level.Simple = n ≡ 1
IsLevel n level.Full = n ≡ 2

-- A text is an optimised one: what it is read as does what the given one is read as, under a record of constants.
pub record IsOptimized (options : BalvuzsomOptions) (source text : Text) : Type 0 where
  pub written : Syntax
  pub level : OptimizationLevel
  pub record_known : Engine
  pub given : Script
  pub read : Script
  pub is_syntax : IsSyntax options.flags written
  pub is_level : IsLevel options.level level
  pub reads : IsReadAs written source given
  pub becomes : BecomesText record_known written level given text read

-- A text is that of two scripts, merged.
pub record IsMerged (options : BalvuzsomOptions) (first second text : Text) : Type 0 where
  pub written : Syntax
  pub read : Script
  pub is_syntax : IsSyntax options.flags written
  pub merges : AreMerged written first second text read
