use Rattle.std.proofs.Common.{◌≡◌, ◌<◌, ◌≤◌, ℕ, zero, suc, ◌+◌, ◌-◌, true, List, ◌∷◌, length, get_or, drop, refl, sym, ap, ◌∙◌, arith}
use Rattle.std.proofs.lemmas.List.{drop_more}
use Rattle.ast_types.specs.Defaults.{nowhere}
use Rattle.ast_types.specs.declared.stmt.Stmt.{Stmt}
use Rattle.ast_types.specs.declared.stmt.Stmt.TheVariants.{Noop as noop_at}
use Rattle.ast_types.specs.Reading.{stmt_of}
use Rattle.theory_rewriting.specs.Evals.{keeps_names}
use Rattle.opt_reducer.specs.Going.{known_at}
use Rattle.opt_reducer.proofs.names.are_known_at.Goals as goal

same_head : (x y : Stmt) (a b : List Stmt) → x ∷ a ≡ y ∷ b → x ≡ y
same_head x y a b h = cc

-- whatever a look-up past the end gives
same_item : (xs : List Stmt) (n : ℕ) (x d : Stmt) → n < length xs → x ≡ get_or xs n x → x ≡ get_or xs n d
same_item xs n x d lt h = h ∙ same_head _ _ _ _ (sym (drop_more xs n x lt) ∙ drop_more xs n d lt)

known_behind : (xs : List Stmt) (n : ℕ) (x : Stmt) → (n ≡ 0 → ⊥) → n ≤ length xs → x ≡ get_or xs (n - 1) x → keeps_names (stmt_of x) ≡ known_at true xs n
known_behind xs zero x some le h = absurd (some refl)
known_behind xs (suc n) x some le h =
    let before : suc n - 1 ≡ n = omega arith in
    ap (λ y. keeps_names (stmt_of y)) (same_item xs n x (noop_at nowhere) (omega arith) (h ∙ ap (λ k. get_or xs k x) before))

pub returns-then-are_known : goal.returns-then-are_known
returns-then-are_known c =
    let xs = c.args.statements.now in
    c.keeps_names.ensures ∙ known_behind xs c.args.at c.index-statements-at.result c.if-at-eq0.false c.requires c.index-statements-at.is ∙ ap (λ b. known_at b xs c.args.at) (sym c.if-are_known.true)
