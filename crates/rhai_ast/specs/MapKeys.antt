-- The names of a map literal's members, and a set of texts.
use Rattle.std.specs.Prelude.{List, map}
use Rattle.std.specs.Borrow.{Bor}
use Rattle.std.specs.HashSet.{HashSet}
use Rattle.base_tokens.specs.declared.ident.Ident.{Ident}
use Rattle.ast_types.specs.declared.expr.Expr.{Expr}
use Rattle.theory_meaning.specs.Shape.{keys}
use Rattle.ast_types.specs.Reading.{pairs_of}
use Rattle.rhai_base.specs.Value.{Text}

abbrev pub names_of : List (Ident × Expr) → List Text
names_of members = keys (pairs_of members)

abbrev pub texts_of : {S : Type 0} → HashSet (Bor Text) S → List Text
texts_of s = map (λ k. k.now) s.keys
