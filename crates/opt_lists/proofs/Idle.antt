-- What is not pure by itself does not idle.
use Rattle.std.proofs.Common.{◌≡◌, Bool, true, false, refl, sym, ◌∙◌}
use Rattle.theory_meaning.specs.Tree.{Stmt, Noop, ExprStmt}
use Rattle.theory_rewriting.specs.Reducible.{is_idle}
use Rattle.theory_rewriting.proofs.Reducing.{idle_pure}
use Rattle.opt_lists.specs.Sweep.{is_pure_by_itself}
use Rattle.opt_lists.proofs.Sweeping.{no}

un_pure : (a b : Bool) → (a ≡ true → b ≡ true) → b ≡ false → a ≡ false
un_pure true b h e = no (sym e ∙ h refl)
un_pure false b h e = refl

idle_by_itself : (s : Stmt) → is_idle s ≡ true → is_pure_by_itself s ≡ true
idle_by_itself Noop h = refl
idle_by_itself (ExprStmt e) h = idle_pure (ExprStmt e) h
idle_by_itself _ h = no h

pub not_idle : (s : Stmt) → is_pure_by_itself s ≡ false → is_idle s ≡ false
not_idle s h = un_pure (is_idle s) (is_pure_by_itself s) (idle_by_itself s) h
