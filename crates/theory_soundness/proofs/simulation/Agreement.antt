-- What is known goes on to hold, under names that are added and values that change.
use Rattle.std.proofs.Common.{◌≡◌, Bool, true, false, cond, List, [], ◌∷◌, Option, Some, None, refl, sym, ap, ◌∙◌, subst}
use Rattle.std.specs.Prelude.{◌&&◌}
use Rattle.rhai_base.specs.Value.{Text, Value, same_text}
use Rattle.theory_meaning.specs.Engine.{Binding}
use Rattle.theory_meaning.specs.Act.{EntryKind, IsVariable, IsConstant, IsAlias, IsExport, is_constant, is_name, is_called, ScopeEntry, OfName, found, published}
use Rattle.theory_meaning.specs.Run.{bind}
use Rattle.theory_meaning.proofs.Relations.{Keeps, none, one, changed}
use Rattle.theory_rewriting.specs.Known.{Known, look, look_global, shadow, shadow_all, Fits, Agrees, Holds}
use Rattle.theory_rewriting.proofs.Knowing.{KnowsLess}

-- with no names known
pub agrees_nothing : (bs : List Binding) (es : List ScopeEntry) → Agrees bs [] es
agrees_nothing bs es = record { is = λ x v h. absurd (let z : None ≡ Some v = h in cc) }

keeps_fits : (bs : List Binding) {es fs : List ScopeEntry} (x : Text) (u : Value) → Keeps es fs → Fits u (found bs es x) → Fits u (found bs fs x)
keeps_fits bs x u none = λ h. h
keeps_fits bs x u (one {e = e} {es = es} {fs = fs} p) =
    elim (is_called e x) as (λ b. Fits u (cond b (Some e) (found bs es x)) → Fits u (cond b (Some e) (found bs fs x))) [ true ↦ λ h. h | false ↦ keeps_fits bs x u p ]
keeps_fits bs x u (changed {e = e} {v = v} {es = es} {fs = fs} c p) =
    elim (is_called e x) as (λ b. Fits u (cond b (Some e) (found bs es x)) → Fits u (cond b (Some (record e { value = v })) (found bs fs x))) [
      | true ↦ λ h. absurd (let w : true ≡ false = sym h.0 ∙ c in cc)
      | false ↦ keeps_fits bs x u p
    ]

-- where constants keep their values
pub agrees_keeps : {bs : List Binding} {ks : List Known} {es fs : List ScopeEntry} → Keeps es fs → Agrees bs ks es → Agrees bs ks fs
agrees_keeps {bs} p a = record { is = λ x v h. keeps_fits bs x v p (a.is x v h) }

-- where fewer names are known
pub agrees_knowing_less : {bs : List Binding} {ks ls : List Known} {es : List ScopeEntry} → KnowsLess ks ls → Agrees bs ls es → Agrees bs ks es
agrees_knowing_less i a = record { is = λ x v h. a.is x v (i.names x v h) }

-- under a constant whose value is known, or an entry of which nothing is known
pub agrees_noting : (bs : List Binding) (ks : List Known) (es : List ScopeEntry) (x : Text) (o : Option Value) (c : EntryKind) (v : Value) → ((w : Value) → o ≡ Some w → (c ≡ IsConstant) × (v ≡ w)) → Agrees bs ks es → Agrees bs (record { root = OfName x; value = o } ∷ ks) (record { name = x; kind = c; value = v } ∷ es)
agrees_noting bs ks es x o IsVariable v f a = record {
  is = λ y w. elim (same_text x y) as (λ b. cond b o (look ks y) ≡ Some w → Fits w (cond b (Some (record { name = x; kind = IsVariable; value = v })) (found bs es y))) [
    | true ↦ λ h. let z = f w h in (ap is_constant z.0, z.1)
    | false ↦ λ h. a.is y w h
  ];
}
agrees_noting bs ks es x o IsConstant v f a = record {
  is = λ y w. elim (same_text x y) as (λ b. cond b o (look ks y) ≡ Some w → Fits w (cond b (Some (record { name = x; kind = IsConstant; value = v })) (found bs es y))) [
    | true ↦ λ h. (refl, (f w h).1)
    | false ↦ λ h. a.is y w h
  ];
}
agrees_noting bs ks es x o IsAlias v f a = record {
  is = λ y w. elim (same_text x y) as (λ b. cond b o (look ks y) ≡ Some w → Fits w (found bs es y)) [
    | true ↦ λ h. absurd (let z : false ≡ true = ap is_name (f w h).0 in cc)
    | false ↦ λ h. a.is y w h
  ];
}
agrees_noting bs ks es x o IsExport v f a = record {
  is = λ y w. elim (same_text x y) as (λ b. cond b o (look ks y) ≡ Some w → Fits w (found bs es y)) [
    | true ↦ λ h. absurd (let z : false ≡ true = ap is_name (f w h).0 in cc)
    | false ↦ λ h. a.is y w h
  ];
}

-- under one more name
pub agrees_shadow : (bs : List Binding) (ks : List Known) (es : List ScopeEntry) (x : Text) (c : EntryKind) (v : Value) → Agrees bs ks es → Agrees bs (shadow x ks) (record { name = x; kind = c; value = v } ∷ es)
agrees_shadow bs ks es x c v a = agrees_noting bs ks es x None c v (λ w h. absurd (let z : None ≡ Some w = h in cc)) a

-- beside an alias or an export
pub agrees_beside : (bs : List Binding) (ks : List Known) (es : List ScopeEntry) (x : Text) (c : EntryKind) (v : Value) → is_name c ≡ false → Agrees bs ks es → Agrees bs ks (record { name = x; kind = c; value = v } ∷ es)
agrees_beside bs ks es x c v q a = record {
  is = λ y w h. subst (λ b. Fits w (cond (b && same_text x y) (Some (record { name = x; kind = c; value = v })) (found bs es y))) (sym q) (a.is y w h);
}

-- names of which nothing is known any more
agrees_less : (bs : List Binding) (ks : List Known) (es : List ScopeEntry) (x : Text) → Agrees bs ks es → Agrees bs (shadow x ks) es
agrees_less bs ks es x a = record {
  is = λ y v. elim (same_text x y) as (λ b. cond b None (look ks y) ≡ Some v → Fits v (found bs es y)) [ true ↦ λ h. absurd cc | false ↦ λ h. a.is y v h ];
}

agrees_none : (bs : List Binding) (xs : List Text) (ks : List Known) (es : List ScopeEntry) → Agrees bs ks es → Agrees bs (shadow_all xs ks) es
agrees_none bs [] ks es a = a
agrees_none bs (x ∷ xs) ks es a = agrees_none bs xs (shadow x ks) es (agrees_less bs ks es x a)

-- under parameters
pub agrees_bind : (bs : List Binding) (xs : List Text) (vs : List Value) (ks : List Known) (es : List ScopeEntry) → Agrees bs ks es → Agrees bs (shadow_all xs ks) (bind xs vs es)
agrees_bind bs [] vs ks es a = a
agrees_bind bs (x ∷ xs) [] ks es a = agrees_none bs (x ∷ xs) ks es a
agrees_bind bs (x ∷ xs) (v ∷ vs) ks es a = agrees_bind bs xs vs (shadow x ks) _ (agrees_shadow bs ks es x IsVariable v a)

-- ---- the constants of the script's own list

-- of none anything is known
abbrev pub KnowsNoGlobal : List Known → Type 0
KnowsNoGlobal ks = (x : Text) → look_global ks x ≡ None

pub holds_none : {ks : List Known} (bs : List Binding) → KnowsNoGlobal ks → Holds ks bs
holds_none bs n = record { is = λ x v h. absurd (let z : None ≡ Some v = sym (n x) ∙ h in cc) }

pub holds_knowing_less : {ks ls : List Known} {bs : List Binding} → KnowsLess ks ls → Holds ls bs → Holds ks bs
holds_knowing_less i h = record { is = λ x v q. h.is x v (i.globals x v q) }

none_or : (ks : List Known) (x : Text) (o : Option Value) → look_global ks x ≡ o → ((v : Value) → o ≡ Some v → ⊥) → look_global ks x ≡ None
none_or ks x None h f = h
none_or ks x (Some v) h f = absurd (f v refl)

pub knows_none_less : {ks ls : List Known} → KnowsLess ks ls → KnowsNoGlobal ls → KnowsNoGlobal ks
knows_none_less {ks} i n x = none_or ks x (look_global ks x) refl (λ v h. let z : None ≡ Some v = sym (n x) ∙ i.globals x v h in cc)

-- under one more name of the list
pub holds_noted : (ks : List Known) (bs : List Binding) (x : Text) (o : Option Value) → Holds ks bs → Holds (record { root = OfName x; value = o } ∷ ks) bs
holds_noted ks bs x o h = record { is = h.is }

-- where a constant is declared for functions to see, nothing is known of any
pub holds_published : (ks : List Known) (b : Bool) (x : Text) (v : Value) (bs : List Binding) → (b ≡ true → KnowsNoGlobal ks) → Holds ks bs → Holds ks (published b x v bs)
holds_published ks true x v bs n h = holds_none _ (n refl)
holds_published ks false x v bs n h = h

-- where a body starts, and what it was called from
pub holds_unbind : (xs : List Text) (ks : List Known) (bs : List Binding) → Holds (shadow_all xs ks) bs → Holds ks bs
holds_unbind [] ks bs h = h
holds_unbind (x ∷ xs) ks bs h = let z = holds_unbind xs (shadow x ks) bs h in record { is = z.is }

pub holds_bind : (xs : List Text) (ks : List Known) (bs : List Binding) → Holds ks bs → Holds (shadow_all xs ks) bs
holds_bind [] ks bs h = h
holds_bind (x ∷ xs) ks bs h = holds_bind xs (shadow x ks) bs (holds_noted ks bs x None h)
