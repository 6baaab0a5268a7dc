-- Statements that export nothing.
use Rattle.std.specs.Prelude.{Bool}
use Rattle.theory_meaning.specs.Plain.{all_true}
pub use Rattle.theory_meaning.specs.Queries.{is_no_export, exports_nothing}
use Rattle.theory_meaning.specs.Tree.{Stmt}
use Rattle.theory_meaning.specs.Walk.{over_stmt}

-- of one statement
abbrev pub stmt_exports_nothing : Stmt → Bool
stmt_exports_nothing s = over_stmt (all_true is_no_export) s
