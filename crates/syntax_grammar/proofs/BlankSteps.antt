-- Blanks and comments, a step at a time.
use Rattle.std.proofs.Common.{◌≡◌, ◌<◌, ◌+◌, ◌-◌, ◌==◌, ◌&&◌, ℕ, true, false, List, [], ◌∷◌, zero, suc, arith, refl, sym, subst, ap, add-one, ◌∙◌}
use Rattle.theory_grammar.specs.Words.{Blank, Blanks, white, wide, wider, line, block, more, none, is_white, is_wide, is_wider, behind_block, behind_line}

pub white_at : {ws rest : List ℕ} (c : ℕ) → ws ≡ (c ∷ rest) → is_white c ≡ true → Blank ws rest
white_at {rest = rest} c e h = subst (λ x. Blank x rest) (sym e) (white h)

pub wide_at : {ws rest : List ℕ} (c d : ℕ) → ws ≡ (d ∷ rest) → is_wide c d ≡ true → Blank (c ∷ ws) rest
wide_at {rest = rest} c d e h = subst (λ x. Blank (c ∷ x) rest) (sym e) (wide h)

pub wider_at : {ws mid rest : List ℕ} (c d f : ℕ) → ws ≡ (d ∷ mid) → mid ≡ (f ∷ rest) → is_wider c d f ≡ true → Blank (c ∷ ws) rest
wider_at {rest = rest} c d f e g h = subst (λ x. Blank (c ∷ x) rest) (sym (e ∙ ap (λ x. d ∷ x) g)) (wider h)

pub line_at : {ws mid rest : List ℕ} → ws ≡ (47 ∷ mid) → rest ≡ behind_line mid → Blank (47 ∷ ws) rest
line_at {ws = ws} {mid = mid} e h = subst (λ x. Blank (47 ∷ ws) x) (sym h) (subst (λ x. Blank (47 ∷ x) (behind_line mid)) (sym e) line)

pub block_at : {ws mid rest : List ℕ} → ws ≡ (42 ∷ mid) → rest ≡ behind_block 1 mid → Blank (47 ∷ ws) rest
block_at {ws = ws} {mid = mid} e h = subst (λ x. Blank (47 ∷ ws) x) (sym h) (subst (λ x. Blank (47 ∷ x) (behind_block 1 mid)) (sym e) block)

pub headed : {ws rest ends : List ℕ} (c : ℕ) → ws ≡ (c ∷ rest) → Blank (c ∷ rest) ends → Blank ws ends
headed {ends = ends} c e b = subst (λ x. Blank x ends) (sym e) b

pub no_more_lines : {ws : List ℕ} → ws ≡ [] → behind_line ws ≡ ws
no_more_lines e = ap behind_line e ∙ sym e

pub line_ended : {ws : List ℕ} (rest : List ℕ) → ws ≡ (10 ∷ rest) → behind_line ws ≡ ws
line_ended rest e = ap behind_line e ∙ sym e

pub line_goes_on : {ws : List ℕ} (c : ℕ) (rest : List ℕ) → ws ≡ (c ∷ rest) → (c == 10) ≡ false → behind_line ws ≡ behind_line rest
line_goes_on c rest e h = ap behind_line e ∙ rw h refl

less-one : (n : ℕ) → n ≡ suc n - 1
less-one n = omega arith

pub block_opened : {ws mid rest : List ℕ} (n c d : ℕ) → 0 < n → ws ≡ (c ∷ mid) → mid ≡ (d ∷ rest) → (c == 47 && d == 42) ≡ true → behind_block n ws ≡ behind_block (n + 1) rest
block_opened zero c d h e f g = absurd (omega (arith, h))
block_opened (suc n) c d h e f g = ap (behind_block (suc n)) (e ∙ ap (λ x. c ∷ x) f) ∙ rw (g, add-one) refl

pub block_closed : {ws mid rest : List ℕ} (n c d : ℕ) → 0 < n → ws ≡ (c ∷ mid) → mid ≡ (d ∷ rest) → (c == 47 && d == 42) ≡ false → (c == 42 && d == 47) ≡ true → behind_block n ws ≡ behind_block (n - 1) rest
block_closed zero c d h e f g k = absurd (omega (arith, h))
block_closed {rest = rest} (suc n) c d h e f g k = ap (behind_block (suc n)) (e ∙ ap (λ x. c ∷ x) f) ∙ rw (g, k) (ap (λ m. behind_block m rest) (less-one n))

pub block_goes_on : {ws mid : List ℕ} (rest : List ℕ) (n c d : ℕ) → 0 < n → ws ≡ (c ∷ mid) → mid ≡ (d ∷ rest) → (c == 47 && d == 42) ≡ false → (c == 42 && d == 47) ≡ false → behind_block n ws ≡ behind_block n mid
block_goes_on rest zero c d h e f g k = absurd (omega (arith, h))
block_goes_on rest (suc n) c d h e f g k = ap (behind_block (suc n)) (e ∙ ap (λ x. c ∷ x) f) ∙ rw (g, k) (ap (behind_block (suc n)) (sym f))

pub block_unended : {ws : List ℕ} (n : ℕ) → 0 < n → ws ≡ [] → behind_block n ws ≡ ws
block_unended zero h e = absurd (omega (arith, h))
block_unended (suc n) h e = ap (behind_block (suc n)) e ∙ sym e

pub block_last : {ws mid : List ℕ} (n c : ℕ) → 0 < n → ws ≡ (c ∷ mid) → mid ≡ [] → behind_block n ws ≡ mid
block_last zero c h e f = absurd (omega (arith, h))
block_last (suc n) c h e f = ap (behind_block (suc n)) (e ∙ ap (λ x. c ∷ x) f) ∙ sym f

pub ruleset blank_steps = (none, more, headed, white_at, wide_at, wider_at, line_at, block_at, no_more_lines, line_ended, line_goes_on, block_opened, block_closed, block_goes_on, block_unended, block_last)
