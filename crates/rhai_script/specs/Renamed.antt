-- Scripts by other names, and how two scripts are kept apart whose closures have one name.
use Rattle.std.specs.Prelude.{◌≡◌, ℕ, ◌<◌, Bool, true, false, ◌&&◌, ◌||◌, List, [], ◌∷◌}
use Rattle.std.specs.Borrow.{Bor}
use Rattle.std.specs.HashSet.{HashSet, contains_by}
use Rattle.rhai_base.specs.Value.{Text, same_text}
use Rattle.theory_meaning.specs.Tree.{Script}
use Rattle.theory_naming.specs.Renaming.{is_anonymous, with_mark, renamed_stmts}
use Rattle.ast_types.specs.Reading.{stmts_of}
use Rattle.ast_types.specs.declared.script_fn.ScriptFuncDef.{ScriptFuncDef}
use Rattle.script_tables.specs.Table.{table_of}
use Rattle.script_names.specs.Names.{underscores}
use Rattle.script_names.specs.Functions.{AreRenamed}
use Rattle.rhai_script.specs.Contents.{Contents}

-- a script by other names; source, doc and id are kept
pub record IsRenamed (named : Text → Text) (b c : Contents) : Type 0 where
  pub source : c.source ≡ b.source
  pub doc : c.doc ≡ b.doc
  pub id : c.id ≡ b.id
  pub statements : stmts_of c.statements ≡ renamed_stmts named (stmts_of b.statements)
  pub functions : AreRenamed named b.functions c.functions

-- with the table of its functions
abbrev pub tabled : Script → Script
tabled p = record { statements = p.statements; functions = table_of p.functions }

-- so many underscores behind `anon$`
abbrev pub marked : ℕ → Text → Text
marked n f = with_mark (underscores n) f

-- whether one of them has the name
abbrev pub is_taken : List ScriptFuncDef → Text → Bool
is_taken [] x = false
is_taken (f ∷ fs) x = same_text f.name x || is_taken fs x

-- the set of their names
abbrev pub AreNamesOf : {S : Type 0} → List ScriptFuncDef → HashSet (Bor Text) S → Type 0
AreNamesOf fs s = (x : Bor Text) → contains_by (λ k. same_text x.now k.now) s ≡ is_taken fs x.now

-- whether it has no name of its own and, with so many marks, the name of one of them
abbrev pub clashes : ℕ → List ScriptFuncDef → ScriptFuncDef → Bool
clashes n fs g = is_anonymous g.name && is_taken fs (marked n g.name)

-- whether one of the second does so with the first
abbrev pub clash : ℕ → List ScriptFuncDef → List ScriptFuncDef → Bool
clash n fs [] = false
clash n fs (g ∷ gs) = clashes n fs g || clash n fs gs

-- what is put to these functions: the script as it is where nothing clashes, else with the fewest marks with which nothing does
pub data Apart (fs : List ScriptFuncDef) (b : Contents) : Contents → Type 0 where
  as_it_is : clash 0 fs b.functions ≡ false → Apart fs b b
  with_marks : (n : ℕ) {c : Contents} → 0 < n → clash n fs b.functions ≡ false → ((k : ℕ) → k < n → clash k fs b.functions ≡ true) → IsRenamed (marked n) b c → Apart fs b c
