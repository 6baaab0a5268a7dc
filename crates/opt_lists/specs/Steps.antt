-- A step of a sweep, in the list's own memory.
use Rattle.std.specs.Prelude.{◌≡◌, ◌<◌, ◌≤◌, ◌+◌, ◌||◌, ℕ, Bool, true, false, cond, List, [], ◌∷◌, length, take, drop, slice_set as set}
use Rattle.base_tokens.specs.declared.position.Position.{Position}
use Rattle.ast_types.specs.declared.stmt.Stmt as declared_stmt
use Rattle.ast_types.specs.declared.stmt.Stmt.TheVariants.{Noop as noop_at}
use Rattle.theory_meaning.specs.Tree.{Stmts, stmt}
use Rattle.ast_types.specs.Reading.{stmt_of, stmts_of}
use Rattle.theory_rewriting.specs.Clear.{AreClear}
use Rattle.theory_rewriting.specs.Known.{Known}
use Rattle.theory_rewriting.specs.Normal.{AreNormalEach, AreSwept}
use Rattle.theory_rewriting.specs.Context.{Context, ListContext, ListKind, wanted}
use Rattle.theory_rewriting.specs.Rewriting.{RestTo}
use Rattle.theory_rewriting.specs.Rules.{ListRule}
use Rattle.opt_lists.specs.Sweep.{DecidedTo, IsSwept, Keeps, bared, closed_up}
use Rattle.opt_lists.specs.declared.behind.Behind.{Behind}
use Rattle.opt_lists.specs.declared.swept.Swept.{Swept}

abbrev pub Declared : Type 0
Declared = List declared_stmt.Stmt

-- what is kept of statements some of which are marked
abbrev pub kept : ListKind → Declared → Stmts
kept m list = closed_up (wanted m) (stmts_of list)

-- the first of some statements before others
abbrev pub headed : Declared → Stmts → Stmts
headed [] ss = ss
headed (x ∷ xs) ss = stmt (stmt_of x) ss

-- a list up to an item, unless nothing is kept behind it
abbrev pub cut : Bool → ℕ → Declared → Declared
cut is_last n xs = cond is_last xs (take (n + 1) xs)

-- at a place the expression of a `return` stands for it
pub record BaredAt (at : ℕ) (old new : Declared) (s : declared_stmt.Stmt) : Type 0 where
  pub expression : declared_stmt.Stmt
  pub put : new ≡ set old at expression
  pub reads : stmt_of expression ≡ bared (stmt_of s)

-- at a place a `Noop` stands
pub record MarkedAt (at : ℕ) (old new : Declared) : Type 0 where
  pub position : Position
  pub put : new ≡ set old at (noop_at position)

-- a rule takes what is kept from a place on to what is kept then, in every context; behind unit alone
abbrev pub Fires : ListKind → ℕ → Declared → Declared → Type 0
Fires m n old new = (k : Context) (u : Bool) → ListRule k m u (kept m (drop n old)) (kept m (drop n new))

abbrev pub FiresBehindUnit : ListKind → ℕ → Declared → Declared → Type 0
FiresBehindUnit m n old new = (k : Context) → ListRule k m true (kept m (drop n old)) (kept m (drop n new))

-- those before a place stay as they are; the one there is decided, whatever stood behind it
pub record Step (m : ListKind) (at : ℕ) (old new : Declared) (b b' : Behind) : Type 0 where
  pub front : take at new ≡ take at old
  pub long : at < length new
  pub same : b'.has_changed ≡ false → (b.has_changed ≡ false) × (new ≡ old)
  pub to : (ss : Stmts) → DecidedTo m (at + 1) b ss (kept m (drop (at + 1) old)) → DecidedTo m at b' (headed (drop at old) ss) (kept m (drop at new))

-- a list has been decided down to a place
pub record SoFar (m : ListKind) (at : ℕ) (all now : Declared) (b : Behind) : Type 0 where
  pub inside : at ≤ length all
  pub long : at ≤ length now
  pub front : take at now ≡ take at all
  pub same : b.has_changed ≡ false → now ≡ all
  pub decided : DecidedTo m at b (stmts_of (drop at all)) (kept m (drop at now))

-- the whole list has, and what goes is marked
pub record Decided (m : ListKind) (old new : Declared) (b : Behind) : Type 0 where
  pub same : b.has_changed ≡ false → new ≡ old
  pub decided : DecidedTo m 0 b (stmts_of old) (kept m new)

-- what a sweep promises: a derivation in every context, that nothing is left of what it decides, which statements are kept, that no `if`
-- tests a known name where none did, and how many it moved; where it changes nothing and each statement is in normal form, that no rule of
-- lists applies but that by which a block gives way
pub record Sweeps (m : ListKind) (old new : Declared) (s : Swept) : Type 0 where
  pub to : (k : ListContext) (d : Bool) → RestTo k m true d (s.has_changed || d) (stmts_of old) (stmts_of new)
  pub swept : IsSwept m (stmts_of new)
  pub kept : Keeps s.is_bared (stmts_of old) (stmts_of new)
  pub clear : s.is_bared ≡ false → (ks : List Known) → AreClear ks (stmts_of old) → AreClear ks (stmts_of new)
  pub bared : s.is_bared ≡ true → s.has_changed ≡ true
  pub same : s.has_changed ≡ false → (new ≡ old) × (s.moved ≡ 0)
  pub moved : s.has_changed ≡ true → s.moved ≡ length new
  pub settled : s.has_changed ≡ false → (k : ListContext) → AreNormalEach k m (stmts_of new) → AreSwept m true (stmts_of new)
