-- Blocks in a list that give way to their statements.
use Rattle.std.specs.Prelude.{◌≡◌, Bool, false, List}
use Rattle.theory_meaning.specs.Tree.{Stmts}
use Rattle.theory_meaning.specs.Engine.{Engine}
use Rattle.theory_rewriting.specs.Clear.{AreClear}
use Rattle.theory_rewriting.specs.Context.{Context, ListKind}
use Rattle.theory_rewriting.specs.Known.{Known}
use Rattle.theory_rewriting.specs.Normal.{any_gives_way}
use Rattle.theory_rewriting.specs.Residue.{AreReduced}
use Rattle.theory_rewriting.specs.Rewriting.{StmtsTo}
use Rattle.theory_rewriting.specs.Steps.{Progress, Moves}

-- statements moved behind those that are done; no block that gives way came to these, and the same names are known
pub record Flattens (w : Bool) (s s' : Progress) (done moved done' : Stmts) : Type 0 where
  pub moves : Moves w s.is_dirty s'.is_dirty done moved done'
  pub flat : any_gives_way done ≡ false → any_gives_way done' ≡ false
  pub known : s'.known ≡ s.known

-- a list in which no block gives way any more
pub record FlatList (m : ListKind) (s s' : Progress) (ss ss' : Stmts) : Type 0 where
  pub to : (k : Context) → StmtsTo k m s.is_dirty s'.is_dirty ss ss'
  pub reduced : (r : Engine) → AreReduced r ss → AreReduced r ss'
  pub clear : (ks : List Known) → AreClear ks ss → AreClear ks ss'
  pub flat : any_gives_way ss' ≡ false
  pub known : s'.known ≡ s.known
