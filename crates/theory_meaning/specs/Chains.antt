-- Chains of properties, indices and methods: what one step does, and the last step of an assignment.
use Rattle.std.specs.Prelude.{Bool, true, false, ◌&&◌, List, [], ◌∷◌, length, Option, Some, None, ℤ, cond, codes, option_map}
use Rattle.rhai_base.specs.Value.{Text, Value, BoolV, IntV, TextV, ArrayV, MapV, type_name}
use Rattle.rhai_base.specs.Operators.{Operator}
use Rattle.theory_meaning.specs.Act.{NoPlace, Root, Key, World, Act, Fail, Read, Write, Invoke}
use Rattle.theory_meaning.specs.ActForms.{unit, throw, choose, ◌>>=◌, ask_method}
use Rattle.theory_meaning.specs.Calls.{assigned, curried, call_pointer, has_key, key, Word, TypeOf, IsShared, Curry, CallFn, word}
use Rattle.theory_meaning.specs.Elements.{element, entry, character, bit}
use Rattle.theory_meaning.specs.Engine.{mapped_type_name}
use Rattle.theory_meaning.specs.Places.{AtIndex, AtEntry, Place, Current, write_place, under, part, without_place, put_back}
use Rattle.theory_meaning.specs.Shape.{is_unit}
use Rattle.theory_meaning.specs.Tree.{PropertyNames}

-- a step, its arguments evaluated
pub data Access : Type 0 where
  OfProperty : PropertyNames → Access
  OfIndex : Value → Access
  OfMethod : Text → List Value → Access

-- ---- the value of a step

abbrev pub or_throw : Text → Option Current → (Current → Act) → Act
or_throw t (Some c) next = next c
or_throw t None next = throw t

-- the host's answer, where a new receiver is not kept
abbrev pub ask_for : Text → Value → List Value → (Current → Act) → Act
ask_for f v vs next = ask_method f v vs (λ a u. next (without_place a))

abbrev pub property : PropertyNames → Current → Value → (Current → Act) → Act
property p c (MapV fs) next = next (part c (AtEntry p.name) (entry fs p.name))
property p c v next = ask_for p.getter v [] next

abbrev pub index : Current → Value → Value → (Current → Act) → Act
index c (ArrayV vs) (IntV i) next = or_throw (codes "array bounds") (option_map (part c (AtIndex i)) (element vs i)) next
index c (TextV t) (IntV i) next = or_throw (codes "text bounds") (option_map without_place (character t i)) next
index c (IntV n) (IntV i) next = or_throw (codes "bit bounds") (option_map without_place (bit n i)) next
index c (MapV fs) (TextV k) next = next (part c (AtEntry k) (entry fs k))
index c v i next = ask_for (codes "index$get$") v (i ∷ []) next

-- a method's value; its new receiver is put back
abbrev pub after_method : Current → (Current → Act) → Value → Option Value → Act
after_method c next v u = put_back c u >>= λ z. next (without_place v)

-- for the value's type name, else without receiver type
abbrev pub method_key : World → Text → List Value → Value → Option Key
method_key w f vs v =
    cond (has_key w.functions (key f (length vs) (Some (type_name v)))) (Some (key f (length vs) (Some (type_name v))))
    (cond (has_key w.functions (key f (length vs) None)) (Some (key f (length vs) None)) None)

abbrev pub to_method : Text → List Value → Current → Option Key → (Current → Act) → Act
to_method f vs c (Some k) next =
    Invoke (record { function = k; captures = false; this = Some c.value; arguments = vs }) (λ v u. after_method c next v u)
to_method f vs c None next = ask_method f c.value vs (λ v u. after_method c next v u)

abbrev pub value_alone : Act → (Current → Act) → Act
value_alone a next = a >>= λ v. next (without_place v)

abbrev pub method : World → Text → Word → List Value → Current → (Current → Act) → Act
method w f TypeOf [] c next = next (without_place (TextV (mapped_type_name w.engine c.value)))
method w f IsShared [] c next = next (without_place (BoolV false))
method w f Curry vs c next = value_alone (curried c.value vs) next
method w f CallFn vs c next = value_alone (call_pointer w false c.value vs) next
method w f _ vs c next = to_method f vs c (method_key w f vs c.value) next

abbrev pub applied : World → Access → Current → (Current → Act) → Act
applied w (OfProperty p) c next = property p c c.value next
applied w (OfIndex i) c next = index c c.value i next
applied w (OfMethod f vs) c next = method w f (word f) vs c next

-- Past a `?` a unit ends the chain with unit.
abbrev pub unless_unit : Bool → Current → Act → Act
unless_unit optional c a = choose (optional && is_unit c.value) unit a

-- ---- assignment

-- the setter or `index$set$`, whose new receiver is put back
abbrev pub set_by_host : Text → List Value → Current → Act
set_by_host f vs c = ask_method f c.value vs (λ v u. put_back c u)

abbrev pub set_element : Place → ℤ → Value → Option Value → Act
set_element p i v (Some old) = write_place true (under (AtIndex i) p) v
set_element p i v None = throw (codes "array bounds")

abbrev pub set_property : PropertyNames → Value → Place → Current → Value → Act
set_property p v at c (MapV fs) = write_place true (under (AtEntry p.name) at) v
set_property p v at c _ = set_by_host p.setter (v ∷ []) c

abbrev pub set_index : Value → Place → Current → Value → Value → Act
set_index v at c (ArrayV vs) (IntV i) = set_element at i v (element vs i)
set_index v at c (MapV fs) (TextV k) = write_place true (under (AtEntry k) at) v
set_index v at c _ i = set_by_host (codes "index$set$") (i ∷ v ∷ []) c

abbrev pub set_placed : Value → Access → Current → Place → Act
set_placed v (OfProperty p) c at = set_property p v at c c.value
set_placed v (OfIndex i) c at = set_index v at c c.value i
set_placed v (OfMethod f vs) c at = Fail NoPlace

abbrev pub set_at : Value → Access → Current → Option Place → Act
set_at v r c None = Fail NoPlace
set_at v r c (Some p) = set_placed v r c p

-- what `op=` reads, and what it writes
abbrev pub assign_last : World → Option Operator → Value → Access → Current → Act
assign_last w None v r c = set_at v r c c.place
assign_last w (Some op) v r c =
    applied w r c (λ d. assigned w (Some op) d.value v >>= λ x. set_at x r c c.place)

abbrev pub assign_root : World → Option Operator → Value → Root → Act
assign_root w None v r = Write true r v
assign_root w (Some op) v r = Read r >>= λ old. assigned w (Some op) old v >>= λ x. Write true r x
