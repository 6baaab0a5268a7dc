-- Whether names are taken, function by function.
use Rattle.std.proofs.Common.{◌≡◌, ℕ, Bool, true, false, cond, ◌||◌, List, [], ◌∷◌, Option, Some, None, refl, sym, ap, ◌∙◌, subst}
use Rattle.std.specs.Prelude.{MatchOption}
use Rattle.std.specs.Borrow.{Bor}
use Rattle.std.specs.HashSet.{HashSet, contains_by}
use Rattle.std.specs.List.{list_any}
use Rattle.rhai_base.specs.Value.{Text, same_text}
use Rattle.ast_types.specs.declared.script_fn.ScriptFuncDef.{ScriptFuncDef}
use Rattle.rhai_script.specs.Renamed.{AreNamesOf, clash, clashes, is_taken}

-- one name more in a set
one_more : (b c r : Bool) → (cond b true c || r) ≡ (c || (b || r))
one_more true true r = refl
one_more true false r = refl
one_more false c r = refl

abbrev pub NamesSoFar : {S : Type 0} → List ScriptFuncDef → List ScriptFuncDef → HashSet (Bor Text) S → Type 0
NamesSoFar all rest s = (x : Bor Text) → (contains_by (λ k. same_text x.now k.now) s || is_taken rest x.now) ≡ is_taken all x.now

pub none_so_far : {S : Type 0} (all : List ScriptFuncDef) (s : HashSet (Bor Text) S) → s.keys ≡ [] → NamesSoFar all all s
none_so_far all s empty x = ap (λ ks. list_any (λ (k : Bor Text). same_text x.now k.now) ks || is_taken all x.now) empty

pub more_so_far : {S : Type 0} (all left rest : List ScriptFuncDef) (s n : HashSet (Bor Text) S) (f : ScriptFuncDef) (k : Bor Text) → NamesSoFar all left s → left ≡ f ∷ rest → k.now ≡ f.name
    → ((x : Bor Text) → contains_by (λ y. same_text x.now y.now) n ≡ cond (same_text k.now x.now) true (contains_by (λ y. same_text x.now y.now) s)) → NamesSoFar all rest n
more_so_far all left rest s n f k h is name put x =
    (λ i. put x i || is_taken rest x.now)
    ∙ one_more (same_text k.now x.now) (contains_by (λ y. same_text x.now y.now) s) (is_taken rest x.now)
    ∙ ap (λ t. contains_by (λ (y : Bor Text). same_text x.now y.now) s || (same_text t x.now || is_taken rest x.now)) name
    ∙ ap (λ fs. contains_by (λ (y : Bor Text). same_text x.now y.now) s || is_taken fs x.now) (sym is) ∙ h x

or_none : (b : Bool) → (b || false) ≡ b
or_none true = refl
or_none false = refl

pub all_so_far : {S : Type 0} (all left : List ScriptFuncDef) (s : HashSet (Bor Text) S) → NamesSoFar all left s → left ≡ [] → AreNamesOf all s
all_so_far all left s h is x = sym (or_none (contains_by (λ y. same_text x.now y.now) s)) ∙ ap (λ fs. contains_by (λ (y : Bor Text). same_text x.now y.now) s || is_taken fs x.now) (sym is) ∙ h x

module _ (n : ℕ) (fs all left rest : List ScriptFuncDef) (same : clash n fs all ≡ clash n fs left) where
  pub found_here : (f : ScriptFuncDef) → left ≡ f ∷ rest → clashes n fs f ≡ true → true ≡ clash n fs all
  found_here f is h = sym (same ∙ ap (clash n fs) is ∙ ap (λ b. b || clash n fs rest) h)

  pub passed_here : (f : ScriptFuncDef) → left ≡ f ∷ rest → clashes n fs f ≡ false → clash n fs all ≡ clash n fs rest
  passed_here f is h = same ∙ ap (clash n fs) is ∙ ap (λ b. b || clash n fs rest) h

  pub none_found : left ≡ [] → false ≡ clash n fs all
  none_found none = sym (same ∙ ap (clash n fs) none)

-- what is known of an option, where it is there and where it is not
pub in_some : {A : Type 0} (P : Type 0) (Q : A → Type 0) (o : Option A) (x : A) → o ≡ Some x → MatchOption o P Q → Q x
in_some P Q o x is h = subst (λ p. MatchOption p P Q) is h

pub in_none : {A : Type 0} (P : Type 0) (Q : A → Type 0) (o : Option A) → o ≡ None → MatchOption o P Q → P
in_none P Q o is h = subst (λ p. MatchOption p P Q) is h
