-- Lists of constants, item by item, for a loop that gathers their values or joins their texts; calls that write out no value.
use Rattle.std.proofs.Common.{◌≡◌, ◌<◌, ◌≤◌, ℕ, drop, ◌∙◌, List, [], ◌∷◌, ◌++◌, length, Option, Some, None, refl, sym, ap, append_assoc, arith}
use Rattle.std.proofs.lemmas.List.{append-nil}
use Rattle.rhai_base.specs.Value.{Text, Value, Fields, no_fields, TextV, MapV, text_of}
use Rattle.theory_meaning.specs.Control.{texts_joined}
use Rattle.theory_meaning.specs.Elements.{with_entries, with_entry}
use Rattle.base_tokens.specs.declared.ident.Ident.{Ident}
use Rattle.rhai_base.specs.Operators.{UpTo, Through}
use Rattle.base_tokens.specs.declared.token.Token.TheVariants as token
use Rattle.theory_meaning.specs.Constants.{constant_values, constant_entries, value_and, entry_and, named_value, joined_value, map_value, range_literal}
use Rattle.ast_types.specs.declared.expr.Expr.{Expr}
use Rattle.ast_types.specs.Reading.{exprs_of, pairs_of}
use Rattle.ast_nodes.specs.Ranges.{range_made}
use Rattle.ast_types.proofs.ItemLists.{exprs_of-end, pairs_of-end}

-- the values that stand before those of a list
abbrev pub values_before : List Value → Option (List Value) → Option (List Value)
values_before vs None = None
values_before vs (Some ws) = Some (vs ++ ws)

pub values_before-start : (vs : Option (List Value)) → values_before [] vs ≡ vs
values_before-start None = refl
values_before-start (Some vs) = refl

pub values_before-more : (vs : List Value) (v : Value) (ws : Option (List Value)) → values_before vs (value_and (Some v) ws) ≡ values_before (vs ++ (v ∷ [])) ws
values_before-more vs v None = refl
values_before-more vs v (Some ws) = ap Some (sym (append_assoc vs (v ∷ []) ws))

pub values_before-end : (vs : List Value) → values_before vs (Some []) ≡ Some vs
values_before-end vs = ap Some (append-nil vs)

pub values_before-all : (xs : List Expr) (i : ℕ) (vs : List Value) → i ≡ length xs
    → constant_values (exprs_of xs) ≡ values_before vs (constant_values (exprs_of (drop i xs))) → constant_values (exprs_of xs) ≡ Some vs
values_before-all xs i vs e h =
    h ∙ ap (λ j. values_before vs (constant_values (exprs_of (drop j xs)))) e ∙ ap (λ es. values_before vs (constant_values es)) (exprs_of-end xs) ∙ values_before-end vs

texts_joined-first : (v : Value) (vs : List Value) → texts_joined text_of (v ∷ vs) ≡ text_of v ++ texts_joined text_of vs
unfolding texts_joined text_of
texts_joined-first v vs = refl

texts_joined-none : texts_joined text_of [] ≡ []
unfolding texts_joined
texts_joined-none = refl

-- ---- the text that is joined from those of a list, after a text

abbrev pub joined_from : Text → Option (List Value) → Option Value
joined_from t None = None
joined_from t (Some vs) = Some (TextV (t ++ texts_joined text_of vs))

joined_from-end : (t : Text) → joined_from t (Some []) ≡ Some (TextV t)
joined_from-end t = ap (λ u. Some (TextV (t ++ u))) texts_joined-none ∙ ap (λ u. Some (TextV u)) (append-nil t)

pub joined_from-start : (vs : Option (List Value)) → joined_value vs ≡ joined_from [] vs
joined_from-start None = refl
joined_from-start (Some vs) = refl

pub joined_from-more : (t : Text) (v : Value) (ws : Option (List Value)) → joined_from t (value_and (Some v) ws) ≡ joined_from (t ++ text_of v) ws
joined_from-more t v None = refl
joined_from-more t v (Some ws) = ap (λ u. Some (TextV (t ++ u))) (texts_joined-first v ws) ∙ ap (λ u. Some (TextV u)) (sym (append_assoc t (text_of v) (texts_joined text_of ws)))

pub joined_from-all : (xs : List Expr) (i : ℕ) (t : Text) → i ≡ length xs
    → joined_value (constant_values (exprs_of xs)) ≡ joined_from t (constant_values (exprs_of (drop i xs))) → joined_value (constant_values (exprs_of xs)) ≡ Some (TextV t)
joined_from-all xs i t e h =
    h ∙ ap (λ j. joined_from t (constant_values (exprs_of (drop j xs)))) e ∙ ap (λ es. joined_from t (constant_values es)) (exprs_of-end xs) ∙ joined_from-end t

-- ---- the map of a list of entries, after those that it has

abbrev pub map_from : Fields → Option (List (Text × Value)) → Option Value
map_from fs None = None
map_from fs (Some ps) = Some (MapV (with_entries fs ps))

pub map_from-start : (ps : Option (List (Text × Value))) → map_value ps ≡ map_from no_fields ps
map_from-start None = refl
map_from-start (Some ps) = refl

pub map_from-more : (fs : Fields) (k : Text) (v : Value) (ps : Option (List (Text × Value))) → map_from fs (entry_and k (Some v) ps) ≡ map_from (with_entry fs k v) ps
map_from-more fs k v None = refl
map_from-more fs k v (Some ps) = refl

pub map_from-all : (ps : List (Ident × Expr)) (i : ℕ) (fs : Fields) → i ≡ length ps
    → map_value (constant_entries (pairs_of ps)) ≡ map_from fs (constant_entries (pairs_of (drop i ps))) → map_value (constant_entries (pairs_of ps)) ≡ Some (MapV fs)
map_from-all ps i fs e h = h ∙ ap (λ j. map_from fs (constant_entries (pairs_of (drop j ps)))) e ∙ ap (λ es. map_from fs (constant_entries es)) (pairs_of-end ps)

-- ---- ranges

pub made_up_to : (v w : Option Value) → range_made token.ExclusiveRange v w ≡ range_literal UpTo v w
made_up_to None w = refl
made_up_to (Some v) None = refl
made_up_to (Some v) (Some w) = refl

pub made_through : (v w : Option Value) → range_made token.InclusiveRange v w ≡ range_literal Through v w
made_through None w = refl
made_through (Some v) None = refl
made_through (Some v) (Some w) = refl

pub ruleset literals = (values_before-start, values_before-more, joined_from-start, joined_from-more, map_from-start, map_from-more, made_up_to, made_through)

-- a call of no argument, and one of three or more
pub named_value-few : (f : Text) (xs : List Expr) → length xs < 1 → None ≡ named_value f (exprs_of xs)
named_value-few f [] h = refl
named_value-few f (x ∷ xs) h = absurd (omega arith)

pub named_value-many : (f : Text) (xs : List Expr) → 3 ≤ length xs → None ≡ named_value f (exprs_of xs)
named_value-many f [] h = absurd (omega arith)
named_value-many f (x ∷ []) h = absurd (omega arith)
named_value-many f (x ∷ y ∷ []) h = absurd (omega arith)
named_value-many f (x ∷ y ∷ z ∷ xs) h = refl
