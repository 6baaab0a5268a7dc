-- Arms by their places.
use Rattle.std.proofs.Common.{◌≡◌, ℕ, zero, suc, ◌<◌, ◌≤◌, ◌∙◌, Bool, false, take, List, [], ◌∷◌, Some, None, get_or, set, length, refl, sym, ap, arith}
use Rattle.ast_types.specs.declared.expr.BinaryExpr.{BinaryExpr}
use Rattle.ast_types.specs.declared.stmt.Stmt as declared_stmt
use Rattle.theory_meaning.specs.Tree.{Expr, arm, count_arms, Stmt}
use Rattle.ast_types.proofs.Cases.{StmtCase, switch_case}
use Rattle.ast_types.proofs.OtherKinds.{NoSwitch}
use Rattle.opt_switch.specs.Deciding.{choice_at}
use Rattle.opt_switch.specs.declared.choice.Choice.TheVariants.{Several}
use Rattle.opt_switch.specs.Forgetting.{answer_left, forgets, loses_answer, loses_answers}
use Rattle.opt_switch.proofs.Forgotten.{put, answer_in}
use Rattle.std.specs.Prelude.{◌||◌, nat_lt, slice_get}
use Rattle.std.proofs.lemmas.Bool.Decides.{nat_tests}
use Rattle.ast_types.specs.Reading.{arms_of, expr_of}
use Rattle.theory_rewriting.specs.Tables.{arm_of}

pub not_below : (m n : ℕ) → nat_lt m n ≡ false → n ≤ m
not_below m n h = grind (arith, nat_tests)

abbrev pub both_of : BinaryExpr → Expr × Expr
both_of b = (expr_of b.lhs, expr_of b.rhs)

pub arm_there : (bs : List BinaryExpr) (i : ℕ) (b : BinaryExpr) → i < length bs → b ≡ get_or bs i b → Some (both_of b) ≡ arm_of (arms_of bs) i
arm_there [] i b h e = absurd (omega (arith, h))
arm_there (c ∷ bs) zero b h e = ap (λ (x : BinaryExpr). Some (both_of x)) e
arm_there (c ∷ bs) (suc i) b h e = arm_there bs i b (omega (arith, h)) e

pub arm_missing : (bs : List BinaryExpr) (i : ℕ) → length bs ≤ i → None ≡ arm_of (arms_of bs) i
arm_missing [] i h = refl
arm_missing (c ∷ bs) zero h = absurd (omega (arith, h))
arm_missing (c ∷ bs) (suc i) h = arm_missing bs i (omega (arith, h))

-- another arm is written
pub arm_stays : (bs : List BinaryExpr) (j i : ℕ) (b : BinaryExpr) → (i ≡ j → ⊥) → arm_of (arms_of (set bs j b)) i ≡ arm_of (arms_of bs) i
arm_stays [] zero i b h = refl
arm_stays [] (suc j) i b h = refl
arm_stays (c ∷ bs) zero zero b h = absurd (h refl)
arm_stays (c ∷ bs) zero (suc i) b h = refl
arm_stays (c ∷ bs) (suc j) zero b h = refl
arm_stays (c ∷ bs) (suc j) (suc i) b h = arm_stays bs j i b (λ e. h (ap suc e))

-- of statements that are no `switch` nothing is decided
pub no_choice : {x : declared_stmt.Stmt} {s : Stmt} → StmtCase x s → NoSwitch x → Several ≡ choice_at s
no_choice (switch_case b p) h = absurd (h b p refl)
no_choice _ h = refl

-- ---- an answer is written

pub arm_written : (bs : List BinaryExpr) (n : ℕ) (b b' : BinaryExpr) (m : Bool) → n < length bs → b ≡ get_or bs n b → expr_of b'.lhs ≡ expr_of b.lhs → expr_of b'.rhs ≡ answer_left m (expr_of b.rhs) → arms_of (set bs n b') ≡ put n m (arms_of bs)
arm_written [] n b b' m l e h k = absurd (omega (arith, l))
arm_written (c ∷ bs) zero b b' m l e h k =
    ap (λ x. arm x (expr_of b'.rhs) (arms_of bs)) (h ∙ ap (λ (y : BinaryExpr). expr_of y.lhs) e)
    ∙ ap (λ x. arm (expr_of c.lhs) x (arms_of bs)) (k ∙ ap (λ (y : BinaryExpr). answer_left m (expr_of y.rhs)) e)
arm_written (c ∷ bs) (suc n) b b' m l e h k = ap (arm (expr_of c.lhs) (expr_of c.rhs)) (arm_written bs n b b' m (omega (arith, l)) e h k)

pub answer_there : (bs : List BinaryExpr) (n : ℕ) (b : BinaryExpr) → n < length bs → b ≡ get_or bs n b → expr_of b.rhs ≡ answer_in (arms_of bs) n
answer_there [] n b l e = absurd (omega (arith, l))
answer_there (c ∷ bs) zero b l e = ap (λ (y : BinaryExpr). expr_of y.rhs) e
answer_there (c ∷ bs) (suc n) b l e = answer_there bs n b (omega (arith, l)) e

pub forgets_all : (ms : List Bool) (bs : List BinaryExpr) (n : ℕ) → length bs ≤ n → forgets (take n ms) (arms_of bs) ≡ forgets ms (arms_of bs)
forgets_all ms [] n l = refl
forgets_all ms (b ∷ bs) zero l = absurd (omega (arith, l))
forgets_all [] (b ∷ bs) (suc n) l = refl
forgets_all (m ∷ ms) (b ∷ bs) (suc n) l = ap (arm (expr_of b.lhs) (answer_left m (expr_of b.rhs))) (forgets_all ms bs n (omega (arith, l)))

pub loses_all : (ms : List Bool) (bs : List BinaryExpr) (n : ℕ) → length bs ≤ n → loses_answers (take n ms) (arms_of bs) ≡ loses_answers ms (arms_of bs)
loses_all ms [] n l = refl
loses_all ms (b ∷ bs) zero l = absurd (omega (arith, l))
loses_all [] (b ∷ bs) (suc n) l = refl
loses_all (m ∷ ms) (b ∷ bs) (suc n) l = ap (λ x. loses_answer m (expr_of b.rhs) || x) (loses_all ms bs n (omega (arith, l)))

pub counted : (bs : List BinaryExpr) → count_arms (arms_of bs) ≡ length bs
counted [] = refl
counted (b ∷ bs) = ap suc (counted bs)

pub mark_there : (ms : List Bool) (n : ℕ) (m : Bool) → n < length ms → m ≡ get_or ms n m → slice_get ms n ≡ Some m
mark_there [] n m l e = absurd (omega (arith, l))
mark_there (k ∷ ms) zero m l e = ap Some (sym e)
mark_there (k ∷ ms) (suc n) m l e = mark_there ms n m (omega (arith, l)) e
