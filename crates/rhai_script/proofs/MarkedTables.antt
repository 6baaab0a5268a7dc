-- Marks keep the functions of a table apart.
use Rattle.std.proofs.Common.{◌≡◌, Bool, true, false, not, ◌&&◌, ◌||◌, ◌==◌, List, [], ◌∷◌, ◌++◌, length, map, refl, ap, ◌∙◌}
use Rattle.std.proofs.lemmas.Bool.{and_parts, and_from, or_parts, or_from, not-true, both_ways, false_from_ne_true}
use Rattle.std.proofs.lemmas.Slice.Eq.{bytes_eq-Decides}
use Rattle.rhai_base.specs.Value.{Text, same_text}
use Rattle.theory_meaning.specs.Calls.{same_key, same_type, has_key}
use Rattle.theory_meaning.specs.Tree.{Function}
use Rattle.theory_naming.specs.Renaming.{renamed_function, with_mark}
use Rattle.ast_types.specs.Reading.{function_of}
use Rattle.ast_types.specs.declared.script_fn.ScriptFuncDef.{ScriptFuncDef}
use Rattle.script_tables.specs.FnKey.{definitions_table}
use Rattle.script_tables.specs.Table.{are_distinct, key_of}
use Rattle.script_tables.proofs.Choices.{whole_table}
use Rattle.script_names.specs.Functions.{AreRenamed, IsRenamed}
use Rattle.script_names.proofs.Marks.{marked_apart}

-- ---- keys

module _ (m : Text) where
  abbrev marked : Function → Function
  marked f = renamed_function (with_mark m) f

  same_marked : (f g : Function) → same_key (key_of (marked f)) (key_of (marked g)) ≡ true → same_key (key_of f) (key_of g) ≡ true
  same_marked f g h =
      let two = and_parts (same_text (with_mark m f.name) (with_mark m g.name) && length f.params == length g.params) (same_type f.this_type g.this_type) h in
      let one = and_parts (same_text (with_mark m f.name) (with_mark m g.name)) (length f.params == length g.params) two.0 in
      let name = (bytes_eq-Decides f.name g.name).1 (marked_apart m f.name g.name ((bytes_eq-Decides (with_mark m f.name) (with_mark m g.name)).0 one.0)) in
      and_from (same_text f.name g.name && length f.params == length g.params) (same_type f.this_type g.this_type)
      (and_from (same_text f.name g.name) (length f.params == length g.params) name one.1) two.1

  new_marked : (fs : List Function) (f : Function) → has_key (map key_of fs) (key_of f) ≡ false → has_key (map key_of (map marked fs)) (key_of (marked f)) ≡ false
  new_marked [] f h = refl
  new_marked (g ∷ gs) f h =
      let parts = or_parts (same_key (key_of g) (key_of f)) (has_key (map key_of gs) (key_of f)) h in
      or_from (same_key (key_of (marked g)) (key_of (marked f))) (has_key (map key_of (map marked gs)) (key_of (marked f)))
      (false_from_ne_true (same_key (key_of (marked g)) (key_of (marked f))) (λ e. both_ways (same_key (key_of g) (key_of f)) parts.0 (same_marked g f e)))
      (new_marked gs f parts.1)

  distinct_marked : (fs : List Function) → are_distinct (map key_of fs) ≡ true → are_distinct (map key_of (map marked fs)) ≡ true
  distinct_marked [] h = refl
  distinct_marked (f ∷ fs) h =
      let parts = and_parts (not (has_key (map key_of fs) (key_of f))) (are_distinct (map key_of fs)) h in
      and_from (not (has_key (map key_of (map marked fs)) (key_of (marked f)))) (are_distinct (map key_of (map marked fs)))
      (ap not (new_marked fs f (not-true (has_key (map key_of fs) (key_of f)) parts.0)))
      (distinct_marked fs parts.1)

-- ---- functions by other names

pub renamed_listed : (named : Text → Text) (fs gs : List ScriptFuncDef) → AreRenamed named fs gs → map function_of gs ≡ map (renamed_function named) (map function_of fs)
renamed_listed named [] [] h = refl
renamed_listed named [] (g ∷ gs) h = absurd h
renamed_listed named (f ∷ fs) [] h = absurd h
renamed_listed named (f ∷ fs) (g ∷ gs) h = λ i. h.0.function i ∷ renamed_listed named fs gs h.1 i

-- functions that are told apart are so with marks
pub marked_table : (m : Text) (fs gs : List ScriptFuncDef) → AreRenamed (with_mark m) fs gs → are_distinct (map key_of (map function_of fs)) ≡ true → definitions_table gs ≡ gs
marked_table m fs gs h distinct =
    whole_table gs (ap (λ ks. are_distinct (map key_of ks)) (renamed_listed (with_mark m) fs gs h) ∙ distinct_marked m (map function_of fs) distinct)

-- one more function by its new name
pub one_more_renamed : (named : Text → Text) (fs gs : List ScriptFuncDef) (f g : ScriptFuncDef) → AreRenamed named fs gs → IsRenamed named f g → AreRenamed named (fs ++ f ∷ []) (gs ++ g ∷ [])
one_more_renamed named [] [] f g h k = (k, h)
one_more_renamed named [] (y ∷ ys) f g h k = absurd h
one_more_renamed named (x ∷ xs) [] f g h k = absurd h
one_more_renamed named (x ∷ xs) (y ∷ ys) f g h k = (h.0, one_more_renamed named xs ys f g h.1 k)
