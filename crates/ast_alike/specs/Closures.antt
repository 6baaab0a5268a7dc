-- The closure that is made of names and a statement.
use Rattle.std.specs.Prelude.{List, Option}
use Rattle.std.specs.declared.num.NonZeroUsize.{NonZeroUsize}
use Rattle.base_tokens.specs.declared.ident.Ident.{Ident}
use Rattle.rhai_base.specs.Value.{Text}
use Rattle.theory_meaning.specs.Tree as abstract
use Rattle.ast_types.specs.declared.stmt.Stmt.{Stmt}
use Rattle.ast_types.specs.Reading.{shared_names, stmt_of}

abbrev pub closure_of : List (Ident × Option NonZeroUsize) × Stmt → List Text × abstract.Stmt
closure_of c = (shared_names c.0, stmt_of c.1)
