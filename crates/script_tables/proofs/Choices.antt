-- What a filter chooses of a list, item by item; tables of functions that were chosen.
use Rattle.std.proofs.Common.{◌≡◌, suc, Result, Ok, Err, IfOk, Bool, true, false, List, [], ◌∷◌, ◌++◌, map, refl, sym, ap, subst, ◌∙◌, append_assoc}
use Rattle.std.proofs.lemmas.List.{append-nil}
use Rattle.std.specs.List.Retain.{IsFiltered, ReturnsInTurn}
use Rattle.ast_types.specs.Reading.{function_of}
use Rattle.ast_types.specs.declared.script_fn.ScriptFuncDef.{ScriptFuncDef}
use Rattle.script_tables.specs.FnKey.{definition_key, definitions_table}
use Rattle.script_tables.specs.Table.{key_of, are_distinct}
use Rattle.script_tables.proofs.Laws.{own_table, are_distinct-chosen}

map_twice : (fs : List ScriptFuncDef) → map key_of (map function_of fs) ≡ map definition_key fs
map_twice [] = refl
map_twice (f ∷ fs) = ap (λ ks. definition_key f ∷ ks) (map_twice fs)

-- functions of distinct keys are their table
pub whole_table : (fs : List ScriptFuncDef) → are_distinct (map key_of (map function_of fs)) ≡ true → definitions_table fs ≡ fs
whole_table fs h = own_table definition_key fs (sym (ap are_distinct (map_twice fs)) ∙ h)

-- what is chosen of a table is a table
pub table-chosen : {P : Type 0} (R : P → ScriptFuncDef → Bool → P → Type 0) (p : P) (fs chosen : List ScriptFuncDef) → IsFiltered R p fs chosen → are_distinct (map key_of (map function_of fs)) ≡ true → definitions_table chosen ≡ chosen
table-chosen R p fs chosen h distinct =
    own_table definition_key chosen
    (ap (λ gs. are_distinct (map definition_key gs)) h.4 ∙ are_distinct-chosen definition_key h.0 fs (sym (ap are_distinct (map_twice fs)) ∙ distinct))

-- what was chosen of those before, and what is chosen of those that are left, is chosen of all
pub record Chooses {X P : Type 0} (R : P → X → Bool → P → Type 0) (p : P) (all left before : List X) : Type 0 where
  pub whole : (ys : List X) → IsFiltered R p left ys → IsFiltered R p all (before ++ ys)

module _ {X P : Type 0} (R : P → X → Bool → P → Type 0) (p : P) where
  pub taken : (x : X) (xs ys : List X) → R p x true p → IsFiltered R p xs ys → IsFiltered R p (x ∷ xs) (x ∷ ys)
  taken x xs ys r h = (true ∷ h.0, h.1, ap suc h.2, (p, r, h.3), ap (λ l. x ∷ l) h.4)

  pub passed : (x : X) (xs ys : List X) → R p x false p → IsFiltered R p xs ys → IsFiltered R p (x ∷ xs) ys
  passed x xs ys r h = (false ∷ h.0, h.1, ap suc h.2, (p, r, h.3), h.4)

  pub chooses-taken : (all left rest before after : List X) (x : X) → Chooses R p all left before → left ≡ x ∷ rest → R p x true p → after ≡ before ++ x ∷ [] → Chooses R p all rest after
  chooses-taken all left rest before after x old e r more = record {
    whole = λ ys h.
        subst (λ l. IsFiltered R p all l) (sym (ap (λ l. l ++ ys) more ∙ append_assoc before (x ∷ []) ys))
        (old.whole (x ∷ ys) (subst (λ l. IsFiltered R p l (x ∷ ys)) (sym e) (taken x rest ys r h)));
  }

  pub chooses-passed : (all left rest before : List X) (x : X) → Chooses R p all left before → left ≡ x ∷ rest → R p x false p → Chooses R p all rest before
  chooses-passed all left rest before x old e r = record {
    whole = λ ys h. old.whole ys (subst (λ l. IsFiltered R p l ys) (sym e) (passed x rest ys r h));
  }

  pub chooses-end : (all left before : List X) → Chooses R p all left before → left ≡ [] → IsFiltered R p all before
  chooses-end all left before old e =
      subst (λ l. IsFiltered R p all l) (append-nil before)
      (old.whole [] (subst (λ l. IsFiltered R p l []) (sym e) ([], p, refl, refl, refl)))

-- what a test chooses, another does that may answer the same
module _ {X P Q : Type 0} (R : P → X → Bool → P → Type 0) (S : Q → X → Bool → Q → Type 0) (p : P) (q : Q) (h : (x : X) (b : Bool) (r : P) → R p x b r → (r ≡ p) × S q x b q) where
  answers-alike : (bs : List Bool) (xs : List X) (end r : P) → r ≡ p → ReturnsInTurn R r bs xs end → ReturnsInTurn S q bs xs q
  answers-alike [] xs end r e t = refl
  answers-alike (b ∷ bs) [] end r e t = elim t [ ]
  answers-alike (b ∷ bs) (x ∷ xs) end r e t =
      let own = h x b t.0 (subst (λ s. R s x b t.0) e t.1) in
      (q, own.1, answers-alike bs xs end t.0 own.0 t.2)

  pub chosen-alike : (xs ys : List X) → IsFiltered R p xs ys → IsFiltered S q xs ys
  chosen-alike xs ys f = (f.0, q, f.2, answers-alike f.0 xs f.1 p refl f.3, f.4)

pub ok_alike : {T E : Type 0} (r : Result T E) (P Q : T → Type 0) → ((t : T) → P t → Q t) → IfOk r P → IfOk r Q
ok_alike (Ok t) P Q f x = f t x
ok_alike (Err e) P Q f x = tt
