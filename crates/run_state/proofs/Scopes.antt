-- Lists of names, turned and cut.
use Rattle.std.proofs.Common.{◌≡◌, ℕ, ◌+◌, ◌-◌, List, [], ◌∷◌, ◌++◌, map, length, drop, take, refl, sym, ap, ◌∙◌, arith, append-nil, append_assoc}
use Rattle.std.proofs.lemmas.List.{drop_at, length-drop, length-map, take-append-drop, take-map}
use Rattle.theory_meaning.specs.Act.{ScopeEntry, restore}
use Rattle.theory_meaning.specs.Run.{reversed}

reversed_onto : (es fs : List ScopeEntry) → reversed es fs ≡ reversed es [] ++ fs
reversed_onto [] fs = refl
reversed_onto (e ∷ es) fs =
    reversed_onto es (e ∷ fs) ∙ sym (append_assoc (reversed es []) (e ∷ []) fs) ∙ ap (λ l. l ++ fs) (sym (reversed_onto es (e ∷ [])))

pub reversed_parts : (es fs gs : List ScopeEntry) → reversed (es ++ fs) gs ≡ reversed fs (reversed es gs)
reversed_parts [] fs gs = refl
reversed_parts (e ∷ es) fs gs = reversed_parts es fs (e ∷ gs)

reversed_back : (es fs gs : List ScopeEntry) → reversed (reversed es fs) gs ≡ reversed fs (es ++ gs)
reversed_back [] fs gs = refl
reversed_back (e ∷ es) fs gs = reversed_back es (e ∷ fs) gs

pub reversed_twice : (es : List ScopeEntry) → reversed (reversed es []) [] ≡ es
reversed_twice es = reversed_back es [] [] ∙ append-nil es

length-reversed : (es fs : List ScopeEntry) → length (reversed es fs) ≡ length es + length fs
length-reversed [] fs = omega arith
length-reversed (e ∷ es) fs = omega (arith, length-reversed es (e ∷ fs))

length-turned : (es : List ScopeEntry) → length (reversed es []) ≡ length es
length-turned es = omega (arith, length-reversed es [])

cut : (n : ℕ) (es : List ScopeEntry) → drop (length es - n) (reversed es []) ≡ reversed (take n es) []
cut n es =
    let front = take n es in
    let back = drop n es in
    let parts : reversed es [] ≡ reversed back [] ++ reversed front [] = ap (λ l. reversed l []) (sym (take-append-drop n es)) ∙ reversed_parts front back [] ∙ reversed_onto back (reversed front []) in
    let long : length (reversed back []) ≡ length es - n = length-turned back ∙ length-drop n es in
    ap (drop (length es - n)) parts ∙ drop_at (reversed back []) (reversed front []) (length es - n) long

pub length_scope : {A : Type 0} (f : A → ScopeEntry) (es : List A) → length (reversed (map f es) []) ≡ length es
length_scope f es = length-turned (map f es) ∙ length-map es f

-- cut to a length of before, a scope has only the names of before
pub restore_cut_to : {A : Type 0} (f : A → ScopeEntry) (old : List ScopeEntry) (names : ℕ) (new : List A) → length old ≡ names → reversed (map f (take names new)) [] ≡ restore old (reversed (map f new) [])
restore_cut_to f old names new h =
    let lengths : length (reversed (map f new) []) - length old ≡ length (map f new) - names = λ i. length-turned (map f new) i - h i in
    sym (ap (λ n. drop n (reversed (map f new) [])) lengths ∙ cut names (map f new) ∙ ap (λ l. reversed l []) (take-map f names new))
