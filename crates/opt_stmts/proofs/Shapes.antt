-- Lists of none, of one and of more.
use Rattle.std.proofs.Common.{◌≡◌, ◌<◌, ◌≤◌, Bool, true, false, List, [], ◌∷◌, length, get_or, refl, sym, ap, ◌∙◌, arith}
use Rattle.ast_types.specs.declared.stmt.Stmt as declared_stmt
use Rattle.theory_meaning.specs.Queries.{is_block_dependent}
use Rattle.theory_meaning.specs.Tree.{Stmt, Stmts, no_stmts, stmt}
use Rattle.ast_types.specs.Reading.{stmt_of, stmts_of}
use Rattle.opt_stmts.specs.SettledStatements.{are_settled}

-- a test that says yes of each list of two or more
abbrev SettlesLong : (Stmts → Bool) → Type 0
SettlesLong f = (s t : Stmt) (ss : Stmts) → true ≡ f (stmt s (stmt t ss))

pub settled-long : (f : Stmts → Bool) → SettlesLong f → (l : List declared_stmt.Stmt) → 2 ≤ length l → true ≡ f (stmts_of l)
settled-long f g [] h = absurd (omega arith)
settled-long f g (x ∷ []) h = absurd (omega arith)
settled-long f g (x ∷ y ∷ l) h = g _ _ _

-- a list whose block does not stay is one of none, or of one that may stand outside
pub first-alone : (l : List declared_stmt.Stmt) (s : declared_stmt.Stmt) → are_settled (stmts_of l) ≡ false → 0 < length l → s ≡ get_or l 0 s → (is_block_dependent (stmt_of s) ≡ false) × (stmts_of l ≡ stmt (stmt_of s) no_stmts)
first-alone [] s h lt e = absurd (omega arith)
first-alone (x ∷ []) s h lt e = (ap (λ (z : declared_stmt.Stmt). is_block_dependent (stmt_of z)) e ∙ h, ap (λ (z : declared_stmt.Stmt). stmt (stmt_of z) no_stmts) (sym e))
first-alone (x ∷ y ∷ l) s h lt e = absurd (let z : true ≡ false = h in cc)

pub none-there : (l : List declared_stmt.Stmt) → length l ≤ 0 → stmts_of l ≡ no_stmts
none-there [] h = refl
none-there (x ∷ l) h = absurd (omega arith)
