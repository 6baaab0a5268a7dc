use Rattle.std.proofs.Common.{◌≡◌, ◌<◌, ◌≤◌, ℕ, ◌+◌, inl, inr, true, false, List, [], ◌∷◌, length, drop, refl, arith}
use Rattle.std.proofs.lemmas.Bool.Decides.{eqb_tells}
use Rattle.std.proofs.lemmas.List.{drop_more, drop_all}
use Rattle.std.proofs.Math.Dec.{eqb}
use Rattle.ast_types.specs.declared.stmt.Stmt.{Stmt}
use Rattle.ast_types.specs.Reading.{stmts_of}
use Rattle.theory_rewriting.specs.Context.{wanted_before}
use Rattle.opt_lists.proofs.closing.is_wanted_at.Goals as goal

some_left : (n : ℕ) (ss : List Stmt) → n < length ss → wanted_before true (stmts_of (drop n ss)) ≡ false
some_left n [] lt = absurd (omega arith)
some_left n (s ∷ ss) lt = rw (drop_more (s ∷ ss) n s lt)

wanted_at : (ss : List Stmt) (n : ℕ) → n ≤ length ss → eqb n (length ss) ≡ wanted_before true (stmts_of (drop n ss))
wanted_at ss n le = elim (eqb_tells n (length ss)) [ inl h ↦ rw (h.0, drop_all n ss (omega (arith, h.1))) refl | inr h ↦ rw (h.0, some_left n ss (omega (arith, h.1, le))) refl ]

pub returns-then-is_wanted : goal.returns-then-is_wanted
returns-then-is_wanted c = rw c.if-is_wanted.true (wanted_at c.args.list.now (c.args.at + 1) (omega (arith, c.requires)))
