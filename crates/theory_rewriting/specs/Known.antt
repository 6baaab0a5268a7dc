-- What the optimiser knows: of names, and of the constants of the script's own list.
use Rattle.std.specs.Prelude.{◌≡◌, Bool, true, false, cond, List, [], ◌∷◌, Option, Some, None}
use Rattle.rhai_base.specs.Value.{Text, Value, same_text}
use Rattle.theory_meaning.specs.Desugar.{is_global}
use Rattle.theory_meaning.specs.Engine.{Binding, constant_named}
use Rattle.theory_meaning.specs.Act.{Root, OfName, OfGlobal, OfThis, ScopeEntry, is_constant, found}

-- a name, or a constant of the script's own list, with its value where it is a constant
pub record Known : Type 0 where
  pub root : Root
  pub value : Option Value

abbrev pub is_of_name : Root → Text → Bool
is_of_name (OfName y) x = same_text y x
is_of_name (OfGlobal y) x = false
is_of_name OfThis x = false

abbrev pub is_of_global : Root → Text → Bool
is_of_global (OfName y) x = false
is_of_global (OfGlobal y) x = same_text y x
is_of_global OfThis x = false

abbrev pub look : List Known → Text → Option Value
look [] x = None
look (k ∷ ks) x = cond (is_of_name k.root x) k.value (look ks x)

-- by `global::x`
abbrev pub look_global : List Known → Text → Option Value
look_global [] x = None
look_global (k ∷ ks) x = cond (is_of_global k.root x) k.value (look_global ks x)

abbrev pub is_global_root : Root → Bool
is_global_root (OfName x) = false
is_global_root (OfGlobal x) = true
is_global_root OfThis = false

-- what is known of a name without a namespace, and of a constant of the script's own list
abbrev pub known_at : List Known → List Text → Text → Option Value
known_at ks [] x = look ks x
known_at ks (n ∷ []) x = cond (is_global n) (look_global ks x) None
known_at ks (n ∷ m ∷ ns) x = None

-- without the names
abbrev pub globals_of : List Known → List Known
globals_of [] = []
globals_of (k ∷ ks) = cond (is_global_root k.root) (k ∷ globals_of ks) (globals_of ks)

abbrev pub unless_known : Option Value → Text → List Text → List Text
unless_known None x xs = x ∷ xs
unless_known (Some v) x xs = xs

abbrev pub shadow : Text → List Known → List Known
shadow x ks = record { root = OfName x; value = None } ∷ ks

-- the names of which nothing is known
abbrev pub unknown : List Known → List Text → List Text
unknown ks [] = []
unknown ks (x ∷ xs) = unless_known (look ks x) x (unknown ks xs)

abbrev pub shadow_all : List Text → List Known → List Known
shadow_all [] ks = ks
shadow_all (x ∷ xs) ks = shadow_all xs (shadow x ks)

-- a constant of this value, or no name at all: then a run that reads it is stuck
abbrev pub Fits : Value → Option ScopeEntry → Type 0
Fits v None = Unit {0}
Fits v (Some e) = (is_constant e.kind ≡ true) × (e.value ≡ v)

-- in a scope and the record's constants
pub record Agrees (bs : List Binding) (ks : List Known) (es : List ScopeEntry) : Type 0 where
  pub is : (x : Text) (v : Value) → look ks x ≡ Some v → Fits v (found bs es x)

-- this value, or none
abbrev pub Suits : Value → Option Value → Type 0
Suits v None = Unit {0}
Suits v (Some w) = w ≡ v

-- among the constants that functions see
pub record Holds (ks : List Known) (bs : List Binding) : Type 0 where
  pub is : (x : Text) (v : Value) → look_global ks x ≡ Some v → Suits v (constant_named bs x)
