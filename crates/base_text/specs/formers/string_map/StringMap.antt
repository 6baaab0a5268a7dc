-- `StringMap` as a type that may hold the type that holds it, by its values.
use Rattle.std.specs.Prelude.{ℕ, ◌&&◌, nat_eq, List, [], ◌++◌}
use Rattle.std.specs.Hash.{slice, str}
use Rattle.std.specs.Cmp.Lexicographic.{pointwise}
use Rattle.std.specs.declared.cmp.PartialEq as eq
use Rattle.std.specs.declared.hash.Hash as hash
use Rattle.std.specs.Cmp.Derive.Mapped.{pointwise-map, items_map}
use mathlib.Core.Path.{◌≡◌, refl}
use mathlib.Core.Former.{Former, this, list, via, children}
use denote.RattleType.{RattleType}
use denote.HoleLaws.{Alike}
use denote.HolePlaces.{Recodes, struct_places, laid}
use denote.Hole.Carrier.{listed}
use denote.Hole.Fix.{over}
use denote.Param.Weighed.{Weighed, w_list, w_pair, w_const}
use denote.Model.Placed.{view_places}
use Rattle.std_collections.specs.formers.btree_map.BTreeMap as tree
use Rattle.std_collections.specs.Layout.Former.{entry, on_value, values_listed, entries_recoded}
use Rattle.std_collections.specs.Map.{values_of}
use Rattle.std.specs.declared.alloc.Global.{Global}
use Rattle.std.specs.contracts.alloc.Global as heap
use Rattle.std.specs.contracts.impls.GlobalAllocator.TheImpl.{ghosts}
use Rattle.base_text.specs.contracts.immutable_string.ImmutableString as text
use Rattle.base_text.specs.contracts.immutable_string.ImmutableStringOrd.TheImpl as order
use Rattle.base_text.specs.contracts.immutable_string.ImmutableStringPartialEq.TheImpl as same
use Rattle.base_text.specs.contracts.immutable_string.ImmutableStringPartialOrd.TheImpl as partial
use Rattle.base_text.specs.declared.string_map.StringMap.TheInside.{Inside}
use Rattle.base_text.specs.declared.string_map.StringMap.TheView.{view, invariant}
use Rattle.base_text.specs.contracts.string_map.StringMap as C
use Rattle.base_text.specs.contracts.string_map.StringMap.TheInside as I

abbrev pub Text : Type 0
Text = List ℕ

abbrev pub the_former : Former {0} → Former {0}
the_former g = list (entry g Text)

abbrev pub the_weighed : {g : Former {0}} → Weighed g → Weighed (the_former g)
the_weighed w = w_list (w_pair (w_const Text) w)

abbrev pub the_empty : List (Text × ⊥)
the_empty = []

abbrev pub the_items : (X : Type 0) → List (Text × X) → List X
the_items X d = values_of d

pub the_items_listed : (X : Type 0) (d : List (Text × X)) → listed _ (children (the_former this) X d) ≡ the_items X d
the_items_listed X d = values_listed Text X d

abbrev fields : Former {0}
fields = via (tree.the_former this Text Global) Inside (λ X a. a.map) (λ X v. record { map = v }) (λ X a. refl) (λ X v. refl)

module _ (R S : RattleType) (h : R.Denot → S.Denot) where
  pub the_places : Alike R S h → Alike (C.the_row R) (C.the_row S) ((the_former this).map R.Denot S.Denot h)
  the_places a = view_places fields (the_former this) view (λ X Y k u. refl) (λ X u. refl) R.Denot S.Denot h (C.the_row R).coded (C.the_row S).coded
      (invariant R.Denot) (invariant S.Denot) (λ u p q. refl) (λ u p q. refl) (λ u e. tt) (λ u e. tt)
      (over (I.the_row R)) (over (I.the_row S))
      (struct_places (I.the_type R) (I.the_type S) (((tree.the_former this Text Global).map R.Denot S.Denot h), tt) _ (λ d. refl) refl
      (laid _ _ _ (tree.the_places text.the_row heap.the_row order.ghosts same.ghosts partial.ghosts ghosts R S h a), tt))

  pub the_codes_placed : Recodes R S h → Recodes (C.the_row R) (C.the_row S) ((the_former this).map R.Denot S.Denot h)
  the_codes_placed e d = entries_recoded text.the_row R S h e d

module _ (X Y : Type 0) (h : X → Y) where
  pub the_eq_natural : (V : eq.Ghosts Y) (m n : List (Text × X))
      → pointwise (λ p q. pointwise nat_eq p.0 q.0 && V.eq p.1 q.1) ((the_former this).map X Y h m) ((the_former this).map X Y h n)
      ≡ pointwise (λ p q. pointwise nat_eq p.0 q.0 && V.eq (h p.1) (h q.1)) m n
  the_eq_natural V m n = pointwise-map (on_value h) (λ p q. pointwise nat_eq p.0 q.0 && V.eq p.1 q.1) m n

  pub the_hash_input_natural : (V : hash.Ghosts Y) (V' : eq.Ghosts Y) (m : List (Text × X))
      → slice (λ p. str p.0 ++ V.hash_input p.1) ((the_former this).map X Y h m) ≡ slice (λ p. str p.0 ++ V.hash_input (h p.1)) m
  the_hash_input_natural V V' m = items_map (on_value h) (λ p. str p.0 ++ V.hash_input p.1) m
