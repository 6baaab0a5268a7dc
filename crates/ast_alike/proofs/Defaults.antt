-- The default of a table.
use Rattle.std.proofs.Common.{◌≡◌, ℕ, zero, suc, ◌<◌, ◌≤◌, Bool, false, List, [], ◌∷◌, length, get_or, set, refl, ap, arith}
use Rattle.theory_spelling.specs.Bare.{as_condition, with_condition_at}
use Rattle.theory_meaning.specs.Shape.{condition_at, is_true}
use Rattle.theory_meaning.specs.Tree as abstract
use Rattle.ast_types.specs.declared.expr.BinaryExpr.{BinaryExpr}
use Rattle.ast_types.specs.Reading.{arms_of, expr_of}

pub condition_there : (bs : List BinaryExpr) (i : ℕ) (d : BinaryExpr) → i < length bs → condition_at (arms_of bs) i ≡ is_true (expr_of (get_or bs i d).lhs)
condition_there [] i d h = absurd (omega arith)
condition_there (b ∷ bs) zero d h = refl
condition_there (b ∷ bs) (suc i) d h = condition_there bs i d (omega arith)

pub condition_nowhere : (bs : List BinaryExpr) (i : ℕ) → length bs ≤ i → condition_at (arms_of bs) i ≡ false
condition_nowhere [] i h = refl
condition_nowhere (b ∷ bs) zero h = absurd (omega arith)
condition_nowhere (b ∷ bs) (suc i) h = condition_nowhere bs i (omega arith)

-- a condition that is mended
pub mended : (had : Bool) (bs : List BinaryExpr) (i : ℕ) (d b : BinaryExpr) → i < length bs → expr_of b.lhs ≡ as_condition had (expr_of (get_or bs i d).lhs) → b.rhs ≡ (get_or bs i d).rhs
    → arms_of (set bs i b) ≡ with_condition_at had (arms_of bs) i
mended had [] i d b h l r = absurd (omega arith)
mended had (a ∷ bs) zero d b h l r = λ j. abstract.arm (l j) (expr_of (r j)) (arms_of bs)
mended had (a ∷ bs) (suc i) d b h l r = ap (abstract.arm (expr_of a.lhs) (expr_of a.rhs)) (mended had bs i d b (omega arith) l r)

pub mended_nowhere : (had : Bool) (bs : List BinaryExpr) (i : ℕ) → length bs ≤ i → arms_of bs ≡ with_condition_at had (arms_of bs) i
mended_nowhere had [] i h = refl
mended_nowhere had (b ∷ bs) zero h = absurd (omega arith)
mended_nowhere had (b ∷ bs) (suc i) h = ap (abstract.arm (expr_of b.lhs) (expr_of b.rhs)) (mended_nowhere had bs i (omega arith))
