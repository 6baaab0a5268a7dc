-- Names with their modules.
use Rattle.std.proofs.Common.{◌≡◌, ◌≤◌, ◌<◌, ◌+◌, ◌∙◌, ℕ, zero, suc, arith, true, false, List, [], ◌∷◌, drop, length, get_or, map, refl, sym, ap, subst, add-one, codes}
use Rattle.std.proofs.Math.Seq.{drop-cons}
use Rattle.base_text.specs.Text.{Text}
use Rattle.base_tokens.specs.declared.ident.Ident.{Ident}
use Rattle.theory_meaning.specs.Tree.{Callee}
use Rattle.theory_grammar.specs.Words.{Letters, Next, Sign, is_name}
use Rattle.theory_grammar.specs.Grammar.{ReadsCallee, ReadsPath, alone, called, called_in, captures, inside, is_function, own, path}

abbrev pub names : List Ident → List Text
names is = map (λ i. i.name) is

-- a module of a path, and those behind it
pub path_next : {place mid rest x : Text} (ms : List Ident) (i : ℕ) (m : Ident) (t : Text) → i < length ms → m ≡ get_or ms i m → t ≡ m.name → ((ns : List Text) (y end : Text) → ReadsPath mid ns y end → ReadsPath place (t ∷ ns) y end) → ReadsPath mid (names (drop (i + 1) ms)) x rest → ReadsPath place (names (drop i ms)) x rest
path_next {place = place} {rest = rest} {x = x} ms i m t h is named f r = let split : names (drop i ms) ≡ (get_or ms i m).name ∷ names (drop (i + 1) ms) = rw (add-one, drop-cons ms i m) refl in
    subst (λ ns. ReadsPath place ns x rest) (sym (split ∙ ap (λ (y : Ident). y.name ∷ names (drop (i + 1) ms)) (sym is) ∙ ap (λ (y : Text). y ∷ names (drop (i + 1) ms)) (sym named))) (f _ _ _ r)

drop_all : (ms : List Ident) (i : ℕ) → length ms ≤ i → drop i ms ≡ []
drop_all [] zero h = refl
drop_all [] (suc i) h = refl
drop_all (m ∷ ms) zero h = absurd (omega (arith, h))
drop_all (m ∷ ms) (suc i) h = drop_all ms i (omega (arith, h))

pub path_over : {ws rest x : Text} (ms : List Ident) (i : ℕ) → length ms ≤ i → ReadsPath ws [] x rest → ReadsPath ws (names (drop i ms)) x rest
path_over {ws = ws} {rest = rest} {x = x} ms i h r = subst (λ ns. ReadsPath ws ns x rest) (sym (ap names (drop_all ms i h))) r

pub own_at : {ws rest : Text} (c : Callee) (f : Text) → c ≡ called f → is_function f ≡ true → Next ws (Letters f) rest → ReadsCallee ws c rest
own_at {ws = ws} {rest = rest} c f e h w = subst (λ x. ReadsCallee ws x rest) (sym e) (own f h w)

pub captures_at : {ws mid rest : Text} (c : Callee) (f : Text) → c ≡ called_in [] f true → is_function f ≡ true → Next ws (Letters f) mid → Next mid (Sign (codes "!")) rest → ReadsCallee ws c rest
captures_at {ws = ws} {rest = rest} c f e h w s = subst (λ x. ReadsCallee ws x rest) (sym e) (captures f h w s)

pub path_at : {ws rest : Text} (c : Callee) (ns : List Text) (x : Text) → c ≡ called_in ns x false → ReadsPath ws ns x rest → ReadsCallee ws c rest
path_at {ws = ws} {rest = rest} c ns x e r = subst (λ y. ReadsCallee ws y rest) (sym e) (path r)

pub alone_at : {ws rest : Text} (x : Text) → is_name x ≡ true → Next ws (Letters x) rest → ReadsPath ws [] x rest
alone_at x h w = alone x h w

pub inside_at : {ws mid behind rest x : Text} {ns : List Text} (m : Text) → is_name m ≡ true → Next ws (Letters m) mid → Next mid (Sign (codes "::")) behind → ReadsPath behind ns x rest → ReadsPath ws (m ∷ ns) x rest
inside_at m h w s r = inside m h w s r

pub ruleset path_steps = (own_at, captures_at, path_at, alone_at, inside_at)
