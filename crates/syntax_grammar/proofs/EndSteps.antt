-- Where texts begin and end.
use Rattle.std.proofs.Common.{◌≡◌, ℕ, true, List, [], ◌∷◌, ◌++◌, drop, refl, sym, subst, codes}
use Rattle.base_tokens.specs.Names.{is_among}
use Rattle.theory_grammar.specs.Words.{Blanks, Next, Sign, behind_line}
use Rattle.theory_grammar.specs.Grammar.{Closes, Opens, at_end, at_once, before, behind_first, behind_mark, closing}

drop_none : (t : List ℕ) → drop 0 t ≡ t
drop_none t = refl

pub opens_at_once : (t : List ℕ) → Opens t (drop 0 t)
opens_at_once t = at_once

pub opens_behind_mark : {rest : List ℕ} (t : List ℕ) → drop 0 t ≡ 239 ∷ 187 ∷ 191 ∷ rest → Opens t rest
opens_behind_mark {rest = rest} t e = subst (λ x. Opens x rest) (sym e) behind_mark

pub opens_behind_first : {ws start mid rest : List ℕ} → start ≡ codes "#!" ++ mid → rest ≡ behind_line mid → Opens ws start → Opens ws rest
opens_behind_first {ws = ws} e f o = subst (λ x. Opens ws x) (sym f) (behind_first (subst (λ x. Opens ws x) e o))

pub closes_at_end : {ws rest : List ℕ} → Blanks ws rest → rest ≡ [] → Closes ws
closes_at_end {ws = ws} b e = at_end (subst (λ x. Blanks ws x) e b)

pub closes_before : {ws rest : List ℕ} (s : List ℕ) → is_among s closing ≡ true → Next ws (Sign s) rest → Closes ws
closes_before s h w = before s h w

pub ruleset end_steps = (opens_at_once, opens_behind_mark, opens_behind_first, closes_at_end, closes_before)
