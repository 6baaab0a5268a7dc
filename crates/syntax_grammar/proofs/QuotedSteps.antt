-- Texts between quotes, a piece at a time.
use Rattle.std.proofs.Common.{◌≡◌, ◌<◌, ◌+◌, ◌∙◌, ℕ, true, false, List, [], ◌∷◌, ◌++◌, take, drop, length, refl, sym, ap, subst, codes}
use Rattle.std.proofs.Math.Seq.{take-add}
use Rattle.theory_grammar.specs.Words.{Blanks, Next, Piece, Pieces, Quoted, Stands, doubled, escaped, escaped_letter, goes_on, has_letter, is_plain, next, nothing, piece, plain, quoted}

pub plain_at : {ws rest : List ℕ} (c d : ℕ) → ws ≡ (c ∷ rest) → c ≡ d → is_plain c ≡ true → Piece ws (d ∷ []) rest
plain_at {ws = ws} {rest = rest} c d e f h = subst (λ x. Piece ws (x ∷ []) rest) f (subst (λ x. Piece x (c ∷ []) rest) (sym e) (plain h))

pub doubled_at : {ws mid rest : List ℕ} (c d f : ℕ) → ws ≡ (c ∷ mid) → mid ≡ (d ∷ rest) → c ≡ 34 → d ≡ 34 → f ≡ 34 → Piece ws (f ∷ []) rest
doubled_at {ws = ws} {rest = rest} c d f e g h i j = subst (λ x. Piece ws (x ∷ []) rest) (sym j) (subst (λ x. Piece x (34 ∷ []) rest) (sym (e ∙ ap (λ x. c ∷ x) g ∙ ap (λ x. x ∷ d ∷ rest) h ∙ ap (λ x. 34 ∷ x ∷ rest) i)) doubled)

pub escaped_at : {ws mid rest : List ℕ} (c d f : ℕ) → ws ≡ (c ∷ mid) → mid ≡ (d ∷ rest) → c ≡ 92 → 0 < f → escaped_letter d ≡ f → Piece ws (f ∷ []) rest
escaped_at {ws = ws} {rest = rest} c d f e g h i j = subst (λ x. Piece ws (x ∷ []) rest) j (subst (λ x. Piece x (escaped_letter d ∷ []) rest) (sym (e ∙ ap (λ x. c ∷ x) g ∙ ap (λ x. x ∷ d ∷ rest) h)) (escaped (subst (λ x. 0 < x) (sym j) i)))

first_of_rest : (ws rest : List ℕ) (n c : ℕ) → drop n ws ≡ (c ∷ rest) → take 1 (drop n ws) ≡ (c ∷ [])
first_of_rest ws rest n c e = ap (take 1) e

pub pieces_more : {ws mid behind : List ℕ} (t rest : List ℕ) (n c : ℕ) → Pieces ws (take n t) mid → Piece mid (c ∷ []) behind → drop n t ≡ (c ∷ rest) → Pieces ws (take (n + 1) t) behind
pieces_more {ws = ws} {behind = behind} t rest n c ps p e = subst (λ x. Pieces ws x behind) (sym (take-add n 1 t ∙ ap (λ x. take n t ++ x) (first_of_rest t rest n c e))) (piece ps p)

take_all : (t : List ℕ) → take (length t) t ≡ t
take_all [] = refl
take_all (c ∷ t) = ap (λ x. c ∷ x) (take_all t)

pub pieces_all : {ws mid : List ℕ} (t : List ℕ) (n : ℕ) → n ≡ length t → Pieces ws (take n t) mid → Pieces ws t mid
pieces_all {ws = ws} {mid = mid} t n h ps = subst (λ x. Pieces ws x mid) (rw h (take_all t)) ps

pub quoted_at : {ws start inner mid rest : List ℕ} (t : List ℕ) → Blanks ws start → start ≡ (34 ∷ inner) → Pieces inner t mid → mid ≡ (34 ∷ rest) → goes_on (has_letter (codes "\"")) rest ≡ false → Next ws (Quoted t) rest
quoted_at {inner = inner} {rest = rest} t b e ps f h = next b (subst (λ x. Stands x (Quoted t) rest) (sym e) (quoted (subst (λ x. Pieces inner t x) f ps) h))

pub ruleset quoted_steps = (nothing, plain_at, doubled_at, escaped_at, pieces_more, pieces_all, quoted_at)
