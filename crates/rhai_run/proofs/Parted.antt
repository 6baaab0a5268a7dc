-- The names of a scope and its exports, an entry at a time.
use Rattle.std.proofs.Common.{◌≡◌, Bool, true, false, cond, List, [], ◌∷◌, ◌++◌, refl, sym, ap, ◌∙◌, append_assoc}
use Rattle.rhai_base.specs.Value.{Text, Value}
use Rattle.theory_meaning.specs.Act.{ScopeEntry, is_name}
use Rattle.theory_meaning.specs.Run.{exports, is_export, names}

split : {A : Type 0} (b : Bool) (x : A) (xs : List A) → cond b (x ∷ xs) xs ≡ cond b (x ∷ []) [] ++ xs
split true x xs = refl
split false x xs = refl

next : {A : Type 0} (done done' front back both whole : List A) → both ≡ front ++ back → done ++ both ≡ whole → done' ≡ done ++ front → done' ++ back ≡ whole
next done done' front back both whole parts so more =
    ap (λ l. l ++ back) more ∙ append_assoc done front back ∙ ap (λ l. done ++ l) (sym parts) ∙ so

pub names_next : (done done' : List ScopeEntry) (e : ScopeEntry) (rest whole : List ScopeEntry) → done ++ names (e ∷ rest) ≡ whole → done' ≡ done ++ names (e ∷ []) → done' ++ names rest ≡ whole
names_next done done' e rest whole so more = next done done' (names (e ∷ [])) (names rest) (names (e ∷ rest)) whole (split (is_name e.kind) e (names rest)) so more

pub exports_next : (done done' : List (Text × Value)) (e : ScopeEntry) (rest : List ScopeEntry) (whole : List (Text × Value)) → done ++ exports (e ∷ rest) ≡ whole → done' ≡ done ++ exports (e ∷ []) → done' ++ exports rest ≡ whole
exports_next done done' e rest whole so more = next done done' (exports (e ∷ [])) (exports rest) (exports (e ∷ rest)) whole (split (is_export e.kind) (e.name, e.value) (exports rest)) so more
