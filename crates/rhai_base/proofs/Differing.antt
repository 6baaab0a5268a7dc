-- Values of different kinds in the operators' table.
use Rattle.std.proofs.Common.{◌≡◌, ℕ, ℤ, List, Bool, false, Option, Some, None, map, refl, sym, ap, ◌∙◌}
use Rattle.rhai_base.specs.declared.dynamic.Dynamic.{Dynamic}
use Rattle.rhai_base.specs.declared.dynamic.Dynamic.TheVariants as dynamic
use Rattle.rhai_base.specs.declared.float_wrapper.FloatWrapper.{FloatWrapper}
use Rattle.rhai_base.specs.declared.fn_ptr.FnPtr.{FnPtr}
use Rattle.rhai_base.specs.Value.{Text, Value, Values, UnitV, BoolV, IntV, FloatV, CharV, TextV, ArrayV, MapV, PointerV, RangeV, RangeInclusiveV, values, Fields, fields}
use Rattle.rhai_base.specs.Operators.{Operator, Computed, on_ints}
use Rattle.rhai_base.specs.Builtin.{row, equality_of, unjoined}
use Rattle.rhai_base.specs.Reading.{value_of, value_of-Unit, value_of-Bool, value_of-Int, value_of-Float, value_of-Char, value_of-Str, value_of-Array, value_of-Map, value_of-FnPtr, value_of-Range, value_of-RangeInclusive, members_of, DynamicCase, dynamic_cases, unit_case, bool_case, int_case, float_case, char_case, str_case, array_case, map_case, fn_ptr_case, range_case, range_inclusive_case}
use Rattle.rhai_base.proofs.OtherKinds.{NoInt, NoStr, NoItems, NoMembers, NoPointer}

-- a value and one of another kind, by what they stand for
abbrev Differs : Value → Value → Type 0
Differs v w = (op : Operator) → unjoined op v w ≡ equality_of op false

unit_differs : {y : Dynamic} {w : Value} → DynamicCase y w → (y ≡ dynamic.Unit → ⊥) → Differs UnitV w
unit_differs unit_case h op = absurd (h refl)
unit_differs _ h op = refl

bool_differs : {y : Dynamic} {w : Value} → DynamicCase y w → ((b : Bool) → y ≡ dynamic.Bool b → ⊥) → (a : Bool) → Differs (BoolV a) w
bool_differs (bool_case b) h a op = absurd (h b refl)
bool_differs _ h a op = refl

int_differs : {y : Dynamic} {w : Value} → DynamicCase y w → NoInt y → (a : ℤ) → Differs (IntV a) w
int_differs (int_case n) h a op = absurd (h n refl)
int_differs _ h a op = refl

float_differs : {y : Dynamic} {w : Value} → DynamicCase y w → ((x : FloatWrapper) → y ≡ dynamic.Float x → ⊥) → (a : ℕ) → Differs (FloatV a) w
float_differs (float_case x) h a op = absurd (h x refl)
float_differs _ h a op = refl

char_differs : {y : Dynamic} {w : Value} → DynamicCase y w → ((c : ℕ) → y ≡ dynamic.Char c → ⊥) → (a : ℕ) → Differs (CharV a) w
char_differs (char_case c) h a op = absurd (h c refl)
char_differs _ h a op = refl

str_differs : {y : Dynamic} {w : Value} → DynamicCase y w → NoStr y → (a : Text) → Differs (TextV a) w
str_differs (str_case t) h a op = absurd (h t refl)
str_differs _ h a op = refl

array_differs : {y : Dynamic} {w : Value} → DynamicCase y w → NoItems y → (a : Values) → Differs (ArrayV a) w
array_differs (array_case vs) h a op = absurd (h vs refl)
array_differs _ h a op = refl

map_differs : {y : Dynamic} {w : Value} → DynamicCase y w → NoMembers y → (a : Fields) → Differs (MapV a) w
map_differs (map_case es) h a op = absurd (h es refl)
map_differs _ h a op = refl

fn_ptr_differs : {y : Dynamic} {w : Value} → DynamicCase y w → NoPointer y → (f : Text) (vs : Values) → Differs (PointerV f vs) w
fn_ptr_differs (fn_ptr_case p) h f vs op = absurd (h p refl)
fn_ptr_differs _ h f vs op = refl

range_differs : {y : Dynamic} {w : Value} → DynamicCase y w → ((a b : ℤ) → y ≡ dynamic.Range a b → ⊥) → (c d : ℤ) → Differs (RangeV c d) w
range_differs (range_case a b) h c d op = absurd (h a b refl)
range_differs _ h c d op = refl

range_inclusive_differs : {y : Dynamic} {w : Value} → DynamicCase y w → ((a b : ℤ) → y ≡ dynamic.RangeInclusive a b → ⊥) → (c d : ℤ) → Differs (RangeInclusiveV c d) w
range_inclusive_differs (range_inclusive_case a b) h c d op = absurd (h a b refl)
range_inclusive_differs _ h c d op = refl

-- ---- the row, from what a test of both values found

abbrev Row : Option Operator → Dynamic → Dynamic → Computed → Type 0
Row op x y r = r ≡ row (λ o. unjoined o (value_of x) (value_of y)) op

pub of_kinds : (op : Option Operator) (x y : Dynamic) (v w : Value) (r : Computed) → value_of x ≡ v → value_of y ≡ w → r ≡ row (λ o. unjoined o v w) op → Row op x y r
of_kinds op x y v w r p q e = e ∙ (λ i. row (λ o. unjoined o (sym p i) (sym q i)) op)

differing : (op : Option Operator) (x y : Dynamic) (v : Value) (r : Computed) → value_of x ≡ v → Differs v (value_of y) → r ≡ row (λ o. equality_of o false) op → Row op x y r
differing None x y v r p d e = e
differing (Some o) x y v r p d e = e ∙ sym (d o) ∙ ap (λ u. unjoined o u (value_of y)) (sym p)

abbrev Unequal : Option Operator → Computed → Type 0
Unequal op r = r ≡ row (λ o. equality_of o false) op

pub ints_row : (op : Option Operator) (x y : Dynamic) (a b : ℤ) (r : Computed) → x ≡ dynamic.Int a → y ≡ dynamic.Int b → r ≡ row (λ o. on_ints o a b) op → Row op x y r
ints_row op x y a b r p q e = of_kinds op x y (IntV a) (IntV b) r (ap value_of p ∙ value_of-Int a) (ap value_of q ∙ value_of-Int b) e

pub unit_row : (op : Option Operator) (x y : Dynamic) (r : Computed) → x ≡ dynamic.Unit → (y ≡ dynamic.Unit → ⊥) → Unequal op r → Row op x y r
unit_row op x y r e h = differing op x y UnitV r (ap value_of e ∙ value_of-Unit) (unit_differs (dynamic_cases y) h)

pub bool_row : (op : Option Operator) (x y : Dynamic) (b : Bool) (r : Computed) → x ≡ dynamic.Bool b → ((b' : Bool) → y ≡ dynamic.Bool b' → ⊥) → Unequal op r → Row op x y r
bool_row op x y b r e h = differing op x y (BoolV b) r (ap value_of e ∙ value_of-Bool b) (bool_differs (dynamic_cases y) h b)

pub int_row : (op : Option Operator) (x y : Dynamic) (n : ℤ) (r : Computed) → x ≡ dynamic.Int n → NoInt y → Unequal op r → Row op x y r
int_row op x y n r e h = differing op x y (IntV n) r (ap value_of e ∙ value_of-Int n) (int_differs (dynamic_cases y) h n)

pub float_row : (op : Option Operator) (x y : Dynamic) (a : FloatWrapper) (r : Computed) → x ≡ dynamic.Float a → ((b : FloatWrapper) → y ≡ dynamic.Float b → ⊥) → Unequal op r → Row op x y r
float_row op x y a r e h = differing op x y (FloatV a.bits) r (ap value_of e ∙ value_of-Float a) (float_differs (dynamic_cases y) h a.bits)

pub char_row : (op : Option Operator) (x y : Dynamic) (c : ℕ) (r : Computed) → x ≡ dynamic.Char c → ((c' : ℕ) → y ≡ dynamic.Char c' → ⊥) → Unequal op r → Row op x y r
char_row op x y c r e h = differing op x y (CharV c) r (ap value_of e ∙ value_of-Char c) (char_differs (dynamic_cases y) h c)

pub str_row : (op : Option Operator) (x y : Dynamic) (t : Text) (r : Computed) → x ≡ dynamic.Str t → NoStr y → Unequal op r → Row op x y r
str_row op x y t r e h = differing op x y (TextV t) r (ap value_of e ∙ value_of-Str t) (str_differs (dynamic_cases y) h t)

pub array_row : (op : Option Operator) (x y : Dynamic) (vs : List Dynamic) (r : Computed) → x ≡ dynamic.Array vs → NoItems y → Unequal op r → Row op x y r
array_row op x y vs r e h = differing op x y (ArrayV (values (map value_of vs))) r (ap value_of e ∙ value_of-Array vs) (array_differs (dynamic_cases y) h (values (map value_of vs)))

pub map_row : (op : Option Operator) (x y : Dynamic) (es : List (Text × Dynamic)) (r : Computed) → x ≡ dynamic.Map es → NoMembers y → Unequal op r → Row op x y r
map_row op x y es r e h = differing op x y (MapV (fields (members_of es))) r (ap value_of e ∙ value_of-Map es) (map_differs (dynamic_cases y) h (fields (members_of es)))

pub fn_ptr_row : (op : Option Operator) (x y : Dynamic) (p : FnPtr) (r : Computed) → x ≡ dynamic.FnPtr p → NoPointer y → Unequal op r → Row op x y r
fn_ptr_row op x y p r e h = differing op x y (PointerV p.name (values (map value_of p.curried))) r (ap value_of e ∙ value_of-FnPtr p) (fn_ptr_differs (dynamic_cases y) h p.name (values (map value_of p.curried)))

pub range_row : (op : Option Operator) (x y : Dynamic) (a b : ℤ) (r : Computed) → x ≡ dynamic.Range a b → ((a' b' : ℤ) → y ≡ dynamic.Range a' b' → ⊥) → Unequal op r → Row op x y r
range_row op x y a b r e h = differing op x y (RangeV a b) r (ap value_of e ∙ value_of-Range a b) (range_differs (dynamic_cases y) h a b)

pub range_inclusive_row : (op : Option Operator) (x y : Dynamic) (a b : ℤ) (r : Computed) → x ≡ dynamic.RangeInclusive a b → ((a' b' : ℤ) → y ≡ dynamic.RangeInclusive a' b' → ⊥) → Unequal op r → Row op x y r
range_inclusive_row op x y a b r e h = differing op x y (RangeInclusiveV a b) r (ap value_of e ∙ value_of-RangeInclusive a b) (range_inclusive_differs (dynamic_cases y) h a b)
