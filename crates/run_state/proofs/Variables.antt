-- Reading and replacing what stands under a name.
use Rattle.std.proofs.Common.{◌≡◌, ℕ, ◌<◌, true, false, ◌&&◌, cond, List, [], ◌∷◌, ◌++◌, map, length, set, get_or, Some, refl, sym, ap, ◌∙◌, append_assoc, length-append, arith}
use Rattle.std.proofs.lemmas.List.{map-append}
use Rattle.rhai_base.specs.declared.dynamic.Dynamic.{Dynamic}
use Rattle.rhai_base.specs.Reading.{value_of}
use Rattle.rhai_base.specs.Value.{Text, Value, same_text}
use Rattle.theory_meaning.specs.Act.{ScopeEntry, is_called, is_alias, found, put, module_name, resolved}
use Rattle.theory_meaning.specs.Engine.{Binding}
use Rattle.theory_meaning.specs.Run.{reversed}
use Rattle.run_state.specs.declared.entries.Entry.{Entry}
use Rattle.run_state.specs.Entries.{kind_meant, entry_meant, scope_meant, binding_meant}
use Rattle.run_state.specs.Variables.{IsMissing, IsLatest}
use Rattle.run_state.proofs.Scopes.{reversed_parts}

-- past entries of other names
past : (bs : List Binding) (x : Text) (es : List Entry) (fs : List ScopeEntry) → IsMissing x es → found bs (reversed (map entry_meant es) fs) x ≡ found bs fs x
past bs x [] fs h = refl
past bs x (e ∷ es) fs h = past bs x es (entry_meant e ∷ fs) h.1 ∙ ap (λ b. cond b (Some (entry_meant e)) (found bs fs x)) h.0

past_put : (x : Text) (v : Value) (es : List Entry) (fs : List ScopeEntry) → IsMissing x es → put (reversed (map entry_meant es) fs) x v ≡ reversed (map entry_meant es) (put fs x v)
past_put x v [] fs h = refl
past_put x v (e ∷ es) fs h = past_put x v es (entry_meant e ∷ fs) h.1 ∙ ap (λ b. reversed (map entry_meant es) (cond b (record (entry_meant e) { value = v } ∷ fs) (entry_meant e ∷ put fs x v))) h.0

pub found-missing : (bs : List Binding) (x : Text) (es : List Entry) → IsMissing x es → found bs (scope_meant es) x ≡ found bs [] x
found-missing bs x es h = past bs x es [] h

turned_around : (front back : List Entry) (e : Entry) → scope_meant (front ++ e ∷ back) ≡ reversed (map entry_meant back) (entry_meant e ∷ scope_meant front)
turned_around front back e = ap (λ l. reversed l []) (map-append entry_meant front (e ∷ back)) ∙ reversed_parts (map entry_meant front) (map entry_meant (e ∷ back)) []

pub found-latest : (bs : List Binding) (x : Text) (es : List Entry) (i : ℕ) (l : IsLatest x es i) → found bs (scope_meant es) x ≡ Some (entry_meant l.here)
found-latest bs x es i l =
    ap (λ k. found bs (scope_meant k) x) l.whole
    ∙ ap (λ k. found bs k x) (turned_around l.front l.back l.here)
    ∙ past bs x l.back (entry_meant l.here ∷ scope_meant l.front) l.latest
    ∙ ap (λ b. cond b (Some (entry_meant l.here)) (found bs (scope_meant l.front) x)) l.named

pub put-latest : (x : Text) (es : List Entry) (i : ℕ) (l : IsLatest x es i) (v : Dynamic) → put (scope_meant es) x (value_of v) ≡ scope_meant (l.front ++ (record l.here { value = v }) ∷ l.back)
put-latest x es i l v =
    ap (λ k. put (scope_meant k) x (value_of v)) l.whole
    ∙ ap (λ k. put k x (value_of v)) (turned_around l.front l.back l.here)
    ∙ past_put x (value_of v) l.back (entry_meant l.here ∷ scope_meant l.front) l.latest
    ∙ ap (λ b. reversed (map entry_meant l.back) (cond b (record (entry_meant l.here) { value = value_of v } ∷ scope_meant l.front) (entry_meant l.here ∷ put (scope_meant l.front) x (value_of v)))) l.named
    ∙ sym (turned_around l.front l.back (record l.here { value = v }))

-- what stands at the place, and what stands there once it is replaced
get_at : (front back : List Entry) (e d : Entry) → get_or (front ++ e ∷ back) (length front) d ≡ e
get_at [] back e d = refl
get_at (f ∷ front) back e d = get_at front back e d

set_at : (front back : List Entry) (e w : Entry) → set (front ++ e ∷ back) (length front) w ≡ front ++ w ∷ back
set_at [] back e w = refl
set_at (f ∷ front) back e w = ap (λ l. f ∷ l) (set_at front back e w)

pub get-latest : (x : Text) (es : List Entry) (i : ℕ) (l : IsLatest x es i) (d : Entry) → get_or es i d ≡ l.here
get-latest x es i l d = (λ j. get_or (l.whole j) (l.place j) d) ∙ get_at l.front l.back l.here d

pub set-latest : (x : Text) (es : List Entry) (i : ℕ) (l : IsLatest x es i) (w : Entry) → set es i w ≡ l.front ++ w ∷ l.back
set-latest x es i l w = (λ j. set (l.whole j) (l.place j) w) ∙ set_at l.front l.back l.here w

pub latest_below : (x : Text) (es : List Entry) (i : ℕ) → IsLatest x es i → i < length es
latest_below x es i l = omega (arith, l.place, ap length l.whole, length-append l.front (l.here ∷ l.back))

-- a search from the end has come to here
pub record SearchedTo (x : Text) (es rest : List Entry) : Type 0 where
  pub back : List Entry
  pub whole : es ≡ rest ++ back
  pub missing : IsMissing x back

one_more : (x : Text) (es rest front : List Entry) (e : Entry) (p : SearchedTo x es rest) → rest ≡ front ++ e ∷ [] → es ≡ front ++ e ∷ p.back
one_more x es rest front e p h = p.whole ∙ ap (λ l. l ++ p.back) h ∙ append_assoc front (e ∷ []) p.back

pub searched_found : (x : Text) (es rest front : List Entry) (e : Entry) (i : ℕ) → SearchedTo x es rest → rest ≡ front ++ e ∷ [] → is_called (entry_meant e) x ≡ true → i ≡ length front → IsLatest x es i
searched_found x es rest front e i p h n k = record { front = front; back = p.back; here = e; whole = one_more x es rest front e p h; place = k; named = n; latest = p.missing }

pub turned_more : (es : List Entry) (e : Entry) → scope_meant (es ++ e ∷ []) ≡ entry_meant e ∷ scope_meant es
turned_more es e = turned_around es [] e

pub bindings_more : (es : List Entry) (e : Entry) → map binding_meant (es ++ e ∷ []) ≡ map binding_meant es ++ binding_meant e ∷ []
bindings_more es e = map-append binding_meant es (e ∷ [])

-- ---- the latest alias of a name, of a scope and of what stands before its last entry

resolved_last : (es front : List Entry) (e : Entry) (a : Text) → es ≡ front ++ e ∷ [] → resolved (scope_meant es) a ≡ cond (is_alias (kind_meant e.kind) && same_text e.name a) (module_name (value_of e.value)) (resolved (scope_meant front) a)
resolved_last es front e a h = ap (λ l. resolved (scope_meant l) a) h ∙ ap (λ l. resolved l a) (turned_more front e)

pub resolved-here : (es front : List Entry) (e : Entry) (a : Text) → es ≡ front ++ e ∷ [] → (is_alias (kind_meant e.kind) && same_text e.name a) ≡ true → resolved (scope_meant es) a ≡ module_name (value_of e.value)
resolved-here es front e a h q = resolved_last es front e a h ∙ ap (λ b. cond b (module_name (value_of e.value)) (resolved (scope_meant front) a)) q

pub resolved-earlier : (es front : List Entry) (e : Entry) (a : Text) → es ≡ front ++ e ∷ [] → (is_alias (kind_meant e.kind) && same_text e.name a) ≡ false → resolved (scope_meant es) a ≡ resolved (scope_meant front) a
resolved-earlier es front e a h q = resolved_last es front e a h ∙ ap (λ b. cond b (module_name (value_of e.value)) (resolved (scope_meant front) a)) q

pub ruleset resolving = (resolved-here, resolved-earlier)
