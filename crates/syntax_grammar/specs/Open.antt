-- Expressions behind parentheses that are still open.
use Rattle.std.specs.Prelude.{◌≡◌, ◌≤◌, ℕ, zero, suc, codes}
use Rattle.base_text.specs.Text.{Text}
use Rattle.theory_meaning.specs.Tree.{Expr}
use Rattle.theory_grammar.specs.Words.{Next, Sign}
use Rattle.theory_grammar.specs.Grammar.{Reads}

-- so many parentheses are opened between two places of a text
abbrev pub Opened : ℕ → Text → Text → Type 0
Opened zero ws inner = ws ≡ inner
Opened (suc n) ws inner = (mid : Text) × Opened n ws mid × Next mid (Sign (codes "(")) inner

-- behind so many parentheses, which are still open, stands an expression, at any level up to this one
pub record ReadsOpen (n level : ℕ) (ws : Text) (e : Expr) (rest : Text) : Type 0 where
  pub inner : Text
  pub before : Opened n ws inner
  pub reads : (l : ℕ) → l ≤ level → Reads l inner e rest
