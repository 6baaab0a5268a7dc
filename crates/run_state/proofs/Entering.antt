-- Where a function's body starts: its parameters with their values.
use Rattle.std.proofs.Common.{◌≡◌, ℕ, ◌+◌, ◌<◌, ◌≤◌, List, [], ◌∷◌, ◌++◌, map, length, drop, get_or, refl, sym, ap, ◌∙◌, add-one}
use Rattle.std.proofs.Math.Seq.{drop-cons}
use Rattle.std.proofs.lemmas.List.{drop_all}
use Rattle.rhai_base.specs.declared.dynamic.Dynamic.{Dynamic}
use Rattle.rhai_base.specs.Reading.{value_of}
use Rattle.rhai_base.specs.Value.{Text}
use Rattle.theory_meaning.specs.Act.{ScopeEntry}
use Rattle.theory_meaning.specs.Run.{bind}
use Rattle.run_state.specs.declared.entries.Entry.{Entry}
use Rattle.run_state.specs.declared.entries.EntryKind.TheVariants.{Variable}
use Rattle.run_state.specs.Entries.{scope_meant}
use Rattle.run_state.proofs.Variables.{turned_more}

bind_nothing : (xs : List Text) (scope : List ScopeEntry) → bind xs [] scope ≡ scope
bind_nothing [] scope = refl
bind_nothing (x ∷ xs) scope = refl

from_here : (xs : List Text) (i : ℕ) (x : Text) → i < length xs → x ≡ get_or xs i x → drop i xs ≡ x ∷ drop (i + 1) xs
from_here xs i x h is = first xs i x h ∙ ap (λ y. y ∷ drop (i + 1) xs) (sym is) where
  first : (ys : List Text) (j : ℕ) (d : Text) → j < length ys → drop j ys ≡ get_or ys j d ∷ drop (j + 1) ys
  first ys j d k = rw (add-one, drop-cons ys j d) refl

-- what is bound so far, and what is left
pub record BoundTo (xs : List Text) (vs : List Dynamic) (start : List Entry) (i : ℕ) (rest : List Dynamic) (now : List Entry) : Type 0 where
  pub so : bind (drop i xs) (map value_of rest) (scope_meant now) ≡ bind xs (map value_of vs) (scope_meant start)

pub bound_start : (xs : List Text) (vs rest : List Dynamic) (start : List Entry) → rest ≡ vs → BoundTo xs vs start 0 rest start
bound_start xs vs rest start e = record { so = ap (λ us. bind xs (map value_of us) (scope_meant start)) e }

module _ (xs : List Text) (vs : List Dynamic) (start : List Entry) (i : ℕ) (rest : List Dynamic) (now : List Entry) (p : BoundTo xs vs start i rest now) where
  pub bound_next : (x : Text) (after : List Dynamic) (v : Dynamic) (now' : List Entry) → i < length xs → x ≡ get_or xs i x → rest ≡ v ∷ after → now' ≡ now ++ (record { name = x; kind = Variable; value = v }) ∷ [] → BoundTo xs vs start (i + 1) after now'
  bound_next x after v now' h is r e = record {
    so = ap (λ es. bind (drop (i + 1) xs) (map value_of after) (scope_meant es)) e
        ∙ ap (bind (drop (i + 1) xs) (map value_of after)) (turned_more now (record { name = x; kind = Variable; value = v }))
        ∙ ap (λ ys. bind ys (value_of v ∷ map value_of after) (scope_meant now)) (sym (from_here xs i x h is))
        ∙ ap (λ us. bind (drop i xs) (map value_of us) (scope_meant now)) (sym r)
        ∙ p.so;
  }

  -- no value is left, or no parameter
  pub bound_out : rest ≡ [] → scope_meant now ≡ bind xs (map value_of vs) (scope_meant start)
  bound_out e = sym (bind_nothing (drop i xs) (scope_meant now)) ∙ ap (λ us. bind (drop i xs) (map value_of us) (scope_meant now)) (sym e) ∙ p.so

  pub bound_end : length xs ≤ i → scope_meant now ≡ bind xs (map value_of vs) (scope_meant start)
  bound_end h = ap (λ ys. bind ys (map value_of rest) (scope_meant now)) (sym (drop_all i xs h)) ∙ p.so
