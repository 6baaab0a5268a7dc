-- Lists in which what goes is marked.
use Rattle.std.proofs.Common.{◌≡◌, ℕ, zero, suc, Bool, true, false, cond, [], ◌∷◌, length, get_or, set, refl, sym, ap, ◌∙◌, arith}
use Rattle.std.specs.Prelude.{◌&&◌, not}
use Rattle.ast_types.specs.declared.stmt.Stmt as declared_stmt
use Rattle.theory_meaning.specs.Queries.{is_noop, is_control_flow_break}
use Rattle.theory_meaning.specs.Tree.{Stmt, Noop, Stmts, no_stmts, stmt}
use Rattle.ast_types.specs.Reading.{stmt_of, stmts_of}
use Rattle.theory_rewriting.specs.Context.{wanted_before}
use Rattle.opt_lists.specs.Steps.{Declared}
use Rattle.opt_lists.specs.Sweep.{is_nothing, is_pure_by_itself, closed_up}
use Rattle.opt_lists.proofs.Sweeping.{no}

and_false : (a : Bool) → a && false ≡ false
and_false true = refl
and_false false = refl

pub and_true : (a : Bool) → a && true ≡ a
and_true true = refl
and_true false = refl

pub unmarked : (s : Stmt) → is_pure_by_itself s ≡ false → is_noop s ≡ false
unmarked Noop h = no (sym h)
unmarked _ h = refl

pub leaving-unmarked : (s : Stmt) → is_control_flow_break s ≡ true → is_noop s ≡ false
leaving-unmarked Noop h = no h
leaving-unmarked _ h = refl

-- a statement that is no mark stays
pub closed-stays : (w : Bool) (s : Stmt) (ss : Stmts) → is_noop s ≡ false → closed_up w (stmt s ss) ≡ stmt s (closed_up w ss)
closed-stays w s ss h = ap (λ b. cond (b && not (wanted_before w ss)) (closed_up w ss) (stmt s (closed_up w ss))) h

-- so does the last one of a wanted list
pub closed-alone : (s : Stmt) → closed_up true (stmt s no_stmts) ≡ stmt s no_stmts
closed-alone s = ap (λ b. cond b no_stmts (stmt s no_stmts)) (and_false (is_noop s))

-- a mark goes
pub closed-goes : (w : Bool) (ss : Stmts) → wanted_before w ss ≡ false → closed_up w (stmt Noop ss) ≡ closed_up w ss
closed-goes w ss h = ap (λ b. cond (not b) (closed_up w ss) (stmt Noop (closed_up w ss))) h

some-of : (b : Bool) (a c : Stmts) (s : Stmt) → is_nothing a ≡ false → is_nothing (cond b a (stmt s c)) ≡ false
some-of true a c s h = h
some-of false a c s h = refl

-- something stays of a wanted list
some-stays : (s : Stmt) (ss : Stmts) → is_nothing (closed_up true (stmt s ss)) ≡ false
some-stays s no_stmts = ap is_nothing (closed-alone s)
some-stays s (stmt t ss) = some-of (is_noop s && true) (closed_up true (stmt t ss)) (closed_up true (stmt t ss)) s (some-stays t ss)

pub nothing-is : (ss : Stmts) → true ≡ is_nothing ss → ss ≡ no_stmts
nothing-is no_stmts h = refl
nothing-is (stmt s ss) h = no (sym h)

-- where nothing stays of it there is nothing
pub nothing-behind : (ss : Stmts) → true ≡ is_nothing (closed_up true ss) → ss ≡ no_stmts
nothing-behind no_stmts h = refl
nothing-behind (stmt s ss) h = no (sym (h ∙ some-stays s ss))

pub unwanted-before : (w l : Bool) (rest : Stmts) → l ≡ is_nothing rest → l && w ≡ false → wanted_before w rest ≡ false
unwanted-before w true no_stmts e h = h
unwanted-before w false no_stmts e h = no e
unwanted-before w l (stmt s rest) e h = refl

pub unwanted-at : (w l : Bool) (ss : Stmts) → l ≡ is_nothing (closed_up w ss) → l && w ≡ false → wanted_before w ss ≡ false
unwanted-at w true no_stmts e h = h
unwanted-at w false no_stmts e h = no e
unwanted-at w l (stmt s ss) e h = refl

-- ---- the last one, where it alone stays

set-some : (w : Bool) (z x : declared_stmt.Stmt) (r : Declared) (j : ℕ) → wanted_before w (stmts_of (set (z ∷ r) j x)) ≡ false
set-some w z x r zero = refl
set-some w z x r (suc j) = refl

same-stmts : (s t : Stmt) (a b : Stmts) → stmt s a ≡ stmt t b → s ≡ t
same-stmts s t a b h = cc

tail-by : (b : Bool) (y t : Stmt) (a c : Stmts) → cond b a (stmt y c) ≡ stmt t no_stmts → is_nothing c ≡ false → (b ≡ true) × (a ≡ stmt t no_stmts)
tail-by true y t a c h n = (refl, h)
tail-by false y t a c h n = no (sym n ∙ ap is_nothing (let q : c ≡ no_stmts = cc in q))

pub tail-is : (ys : Declared) (i : ℕ) (t : Stmt) (d : declared_stmt.Stmt) → suc i ≡ length ys → closed_up true (stmts_of ys) ≡ stmt t no_stmts → stmt_of (get_or ys i d) ≡ t
tail-is [] i t d h e = absurd cc
tail-is (y ∷ []) zero t d h e = same-stmts _ _ _ _ (sym (closed-alone (stmt_of y)) ∙ e)
tail-is (y ∷ []) (suc i) t d h e = absurd (omega arith)
tail-is (y ∷ z ∷ r) zero t d h e = absurd (omega arith)
tail-is (y ∷ z ∷ r) (suc i) t d h e =
    let q = tail-by (is_noop (stmt_of y) && true) (stmt_of y) t (closed_up true (stmts_of (z ∷ r))) (closed_up true (stmts_of (z ∷ r))) e (some-stays (stmt_of z) (stmts_of r)) in
    tail-is (z ∷ r) i t d (omega arith) q.1

pub tail-put : (ys : Declared) (i : ℕ) (t : Stmt) (x : declared_stmt.Stmt) → suc i ≡ length ys → closed_up true (stmts_of ys) ≡ stmt t no_stmts → closed_up true (stmts_of (set ys i x)) ≡ stmt (stmt_of x) no_stmts
tail-put [] i t x h e = absurd cc
tail-put (y ∷ []) zero t x h e = closed-alone (stmt_of x)
tail-put (y ∷ []) (suc i) t x h e = absurd (omega arith)
tail-put (y ∷ z ∷ r) zero t x h e = absurd (omega arith)
tail-put (y ∷ z ∷ r) (suc i) t x h e =
    let q = tail-by (is_noop (stmt_of y) && true) (stmt_of y) t (closed_up true (stmts_of (z ∷ r))) (closed_up true (stmts_of (z ∷ r))) e (some-stays (stmt_of z) (stmts_of r)) in
    let marked : is_noop (stmt_of y) && not (wanted_before true (stmts_of (set (z ∷ r) i x))) ≡ true = ap (λ b. is_noop (stmt_of y) && not b) (set-some true z x r i) ∙ q.0 in
    ap (λ b. cond b (closed_up true (stmts_of (set (z ∷ r) i x))) (stmt (stmt_of y) (closed_up true (stmts_of (set (z ∷ r) i x))))) marked
    ∙ tail-put (z ∷ r) i t x (omega arith) q.1
