-- Tables of functions: keys stay apart, and a map's entries are the table of its functions.
use Rattle.std.proofs.Common.{◌≡◌, Bool, true, false, not, ◌||◌, List, [], ◌∷◌, Option, Some, map, refl, sym, ap, subst, ◌∙◌, if◌then◌else◌}
use Rattle.std.specs.List.{AllZip}
use Rattle.std.specs.Option.{option_map}
use Rattle.std.proofs.lemmas.Bool.{and_parts, and_from}
use Rattle.std.specs.Map.{keys_of, values_of, lookup}
use Rattle.std.specs.Rc.{rc_value}
use Rattle.std.specs.declared.rc.Rc.{Rc}
use Rattle.std.specs.declared.alloc.Global.{Global}
use Rattle.indexmap.specs.IndexMap.{insert_entry}
use Rattle.theory_meaning.specs.Act.{Key}
use Rattle.theory_meaning.specs.Calls.{same_key, has_key}
use Rattle.ast_types.specs.Reading.{function_of}
use Rattle.ast_types.specs.declared.script_fn.ScriptFuncDef.{ScriptFuncDef}
use Rattle.script_tables.specs.declared.fn_table.FnKey.{FnKey}
use Rattle.script_tables.specs.FnKey.{key_meant, fn_key_of, definition_key, IsTable}
use Rattle.script_tables.specs.Table.{put_by, put_all_by, find_by, are_distinct, key_of}
use Rattle.script_tables.proofs.Keys.{same_written, same_written-meant, same_key-true, key_meant-one}

or_again : (a b : Bool) → (a || b) ≡ (a || b || a)
or_again true b = refl
or_again false true = refl
or_again false false = refl

or_grouped : (a b c : Bool) → (a || (b || c)) ≡ (a || b || c)
or_grouped true b c = refl
or_grouped false b c = refl

or_false : (a : Bool) → (a || false) ≡ a
or_false true = refl
or_false false = refl

module _ {F : Type 0} (key_of : F → Key) where
  has_key-put : (fs : List F) (f : F) (k : Key) → has_key (map key_of (put_by key_of fs f)) k ≡ (has_key (map key_of fs) k || same_key (key_of f) k)
  has_key-put [] f k = or_false (same_key (key_of f) k)
  has_key-put (g ∷ gs) f k = by (same_key (key_of f) (key_of g)) refl (has_key-put gs f k)
    where
      by : (b : Bool) → same_key (key_of f) (key_of g) ≡ b
          → has_key (map key_of (put_by key_of gs f)) k ≡ (has_key (map key_of gs) k || same_key (key_of f) k)
          → has_key (map key_of (if b then f ∷ gs else g ∷ put_by key_of gs f)) k ≡ (same_key (key_of g) k || has_key (map key_of gs) k || same_key (key_of f) k)
      by true e rest = or_again (same_key (key_of f) k) (has_key (map key_of gs) k)
          ∙ ap (λ l. same_key l k || has_key (map key_of gs) k || same_key (key_of f) k) (same_key-true (key_of f) (key_of g) e)
      by false e rest = ap (λ b. same_key (key_of g) k || b) rest
          ∙ or_grouped (same_key (key_of g) k) (has_key (map key_of gs) k) (same_key (key_of f) k)

  pub are_distinct-put : (fs : List F) (f : F) → are_distinct (map key_of fs) ≡ true → are_distinct (map key_of (put_by key_of fs f)) ≡ true
  are_distinct-put [] f h = refl
  are_distinct-put (g ∷ gs) f h =
      let parts = and_parts (not (has_key (map key_of gs) (key_of g))) (are_distinct (map key_of gs)) h in
      by (same_key (key_of f) (key_of g)) refl parts.0 (are_distinct-put gs f parts.1)
    where
      by : (b : Bool) → same_key (key_of f) (key_of g) ≡ b → not (has_key (map key_of gs) (key_of g)) ≡ true → are_distinct (map key_of (put_by key_of gs f)) ≡ true
          → are_distinct (map key_of (if b then f ∷ gs else g ∷ put_by key_of gs f)) ≡ true
      by true e absent rest = ap (λ l. are_distinct (l ∷ map key_of gs)) (same_key-true (key_of f) (key_of g) e) ∙ h
      by false e absent rest = and_from (not (has_key (map key_of (put_by key_of gs f)) (key_of g))) (are_distinct (map key_of (put_by key_of gs f)))
          (ap not (has_key-put gs f (key_of g) ∙ ap (λ b. has_key (map key_of gs) (key_of g) || b) e ∙ or_false (has_key (map key_of gs) (key_of g))) ∙ absent)
          rest

-- a table of functions is the table of what they stand for
module _ {F G : Type 0} (meant : F → G) (key_of : G → Key) where
  abbrev pub own_key : F → Key
  own_key f = key_of (meant f)

  map-put : (fs : List F) (f : F) → map meant (put_by own_key fs f) ≡ put_by key_of (map meant fs) (meant f)
  map-put [] f = refl
  map-put (g ∷ gs) f = by (same_key (own_key f) (own_key g)) (map-put gs f)
    where
      by : (b : Bool) → map meant (put_by own_key gs f) ≡ put_by key_of (map meant gs) (meant f)
          → map meant (if b then f ∷ gs else g ∷ put_by own_key gs f) ≡ (if b then meant f ∷ map meant gs else meant g ∷ put_by key_of (map meant gs) (meant f))
      by true rest = refl
      by false rest = ap (λ l. meant g ∷ l) rest

  pub map-put_all : (fs gs : List F) → map meant (put_all_by own_key fs gs) ≡ put_all_by key_of (map meant fs) (map meant gs)
  map-put_all fs [] = refl
  map-put_all fs (g ∷ gs) = map-put_all (put_by own_key fs g) gs ∙ ap (λ l. put_all_by key_of l (map meant gs)) (map-put fs g)

-- ---- entries

abbrev Shared : Type 0
Shared = Rc ScriptFuncDef Global

abbrev functions : List (FnKey × Shared) → List ScriptFuncDef
functions es = map rc_value (values_of es)

-- each function stands under its own key
abbrev Keyed : List (FnKey × Shared) → Type 0
Keyed es = keys_of es ≡ map fn_key_of (functions es)

first_or : FnKey → List FnKey → FnKey
first_or d [] = d
first_or d (k ∷ ks) = k

others : List FnKey → List FnKey
others [] = []
others (k ∷ ks) = ks

keyed-first : (e : FnKey × Shared) (es : List (FnKey × Shared)) → Keyed (e ∷ es) → e.0 ≡ fn_key_of e.1.value
unfolding first_or
keyed-first e es h = ap (first_or e.0) h

keyed-others : (e : FnKey × Shared) (es : List (FnKey × Shared)) → Keyed (e ∷ es) → Keyed es
unfolding others
keyed-others e es h = ap others h

-- the test at an entry is that of the functions
test : (e : FnKey × Shared) (es : List (FnKey × Shared)) (f : Shared) → Keyed (e ∷ es) → same_written (fn_key_of f.value) e.0 ≡ same_key (definition_key f.value) (definition_key e.1.value)
test e es f h = same_written-meant (fn_key_of f.value) e.0 ∙ ap (λ k. same_key (definition_key f.value) (key_meant k)) (keyed-first e es h)

functions-insert : (es : List (FnKey × Shared)) (f : Shared) → Keyed es → functions (insert_entry same_written es (fn_key_of f.value) f) ≡ put_by definition_key (functions es) f.value
functions-insert [] f h = refl
functions-insert (e ∷ es) f h =
    by (same_written (fn_key_of f.value) e.0) (functions-insert es f (keyed-others e es h))
    ∙ ap (λ b. if b then f.value ∷ functions es else e.1.value ∷ put_by definition_key (functions es) f.value) (test e es f h)
  where
    by : (b : Bool) → functions (insert_entry same_written es (fn_key_of f.value) f) ≡ put_by definition_key (functions es) f.value
        → functions (if b then (e.0, f) ∷ es else e ∷ insert_entry same_written es (fn_key_of f.value) f)
        ≡ (if b then f.value ∷ functions es else e.1.value ∷ put_by definition_key (functions es) f.value)
    by true rest = refl
    by false rest = ap (λ l. e.1.value ∷ l) rest

keyed-insert : (es : List (FnKey × Shared)) (f : Shared) → Keyed es → Keyed (insert_entry same_written es (fn_key_of f.value) f)
keyed-insert [] f h = refl
keyed-insert (e ∷ es) f h = by (same_written (fn_key_of f.value) e.0) (test e es f h) (keyed-insert es f (keyed-others e es h))
  where
    by : (b : Bool) → b ≡ same_key (definition_key f.value) (definition_key e.1.value) → Keyed (insert_entry same_written es (fn_key_of f.value) f)
        → Keyed (if b then (e.0, f) ∷ es else e ∷ insert_entry same_written es (fn_key_of f.value) f)
    by true p rest =
        let own : e.0 ≡ fn_key_of f.value = keyed-first e es h ∙ sym (key_meant-one (fn_key_of f.value) (fn_key_of e.1.value) (same_key-true (definition_key f.value) (definition_key e.1.value) (sym p))) in
        λ i. own i ∷ keyed-others e es h i
    by false p rest = λ i. keyed-first e es h i ∷ rest i

-- what `insert` leaves
module _ (es fresh : List (FnKey × Shared)) (k : FnKey) (f : Shared) (own : k ≡ fn_key_of f.value) (after : fresh ≡ insert_entry same_written es k f) (old : IsTable (keys_of es) (functions es)) where
  entries : fresh ≡ insert_entry same_written es (fn_key_of f.value) f
  entries = after ∙ ap (λ l. insert_entry same_written es l f) own

  pub functions-after : functions fresh ≡ put_by definition_key (functions es) f.value
  functions-after = ap functions entries ∙ functions-insert es f old.keyed

  pub IsTable-after : IsTable (keys_of fresh) (functions fresh)
  IsTable-after = record {
    keyed = subst Keyed (sym entries) (keyed-insert es f old.keyed);
    distinct = ap (λ fs. are_distinct (map key_of (map function_of fs))) functions-after
        ∙ ap (λ fs. are_distinct (map key_of fs)) (map-put function_of key_of (functions es) f.value)
        ∙ are_distinct-put key_of (map function_of (functions es)) (function_of f.value) old.distinct;
  }

-- ---- looking up, copies

lookup-find : (es : List (FnKey × Shared)) (k : FnKey) → Keyed es → option_map rc_value (lookup (same_written k) es) ≡ find_by definition_key (key_meant k) (functions es)
lookup-find [] k h = refl
lookup-find (e ∷ es) k h =
    by (same_written k e.0) (lookup-find es k (keyed-others e es h))
    ∙ ap (λ b. if b then Some e.1.value else find_by definition_key (key_meant k) (functions es)) (same_written-meant k e.0 ∙ ap (λ l. same_key (key_meant k) (key_meant l)) (keyed-first e es h))
  where
    by : (b : Bool) → option_map rc_value (lookup (same_written k) es) ≡ find_by definition_key (key_meant k) (functions es)
        → option_map rc_value (if b then Some e.1 else lookup (same_written k) es) ≡ (if b then Some e.1.value else find_by definition_key (key_meant k) (functions es))
    by true rest = refl
    by false rest = rest

pub find-looked_up : (es : List (FnKey × Shared)) (k : FnKey) (found : Option Shared) → found ≡ lookup (same_written k) es → IsTable (keys_of es) (functions es)
    → option_map rc_value found ≡ find_by definition_key (key_meant k) (functions es)
find-looked_up es k found e old = ap (option_map rc_value) e ∙ lookup-find es k old.keyed

abbrev Copies : List (FnKey × Shared) → List (FnKey × Shared) → Type 0
Copies es fs = AllZip (λ p q. (q.0 ≡ p.0) × (q.1.value ≡ p.1.value)) es fs

pub keys-copied : (es fs : List (FnKey × Shared)) → Copies es fs → keys_of fs ≡ keys_of es
keys-copied [] [] h = refl
keys-copied [] (f ∷ fs) h = absurd h
keys-copied (e ∷ es) [] h = absurd h
keys-copied (e ∷ es) (f ∷ fs) h = λ i. h.0.0 i ∷ keys-copied es fs h.1 i

pub functions-copied : (es fs : List (FnKey × Shared)) → Copies es fs → functions fs ≡ functions es
functions-copied [] [] h = refl
functions-copied [] (f ∷ fs) h = absurd h
functions-copied (e ∷ es) [] h = absurd h
functions-copied (e ∷ es) (f ∷ fs) h = λ i. h.0.1 i ∷ functions-copied es fs h.1 i

pub IsTable-copied : (es fs : List (FnKey × Shared)) → Copies es fs → IsTable (keys_of es) (functions es) → IsTable (keys_of fs) (functions fs)
IsTable-copied es fs h old = record {
  keyed = keys-copied es fs h ∙ old.keyed ∙ ap (map fn_key_of) (sym (functions-copied es fs h));
  distinct = ap (λ fs. are_distinct (map key_of (map function_of fs))) (functions-copied es fs h) ∙ old.distinct;
}
