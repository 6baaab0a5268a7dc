-- The engine's record: what it fixes for every script.
use Rattle.std.specs.Prelude.{Bool, true, false, not, ◌&&◌, ◌||◌, List, [], ◌∷◌, ◌++◌, map, Option, Some, None, if◌then◌else◌, codes}
use Rattle.rhai_base.specs.Value.{Text, Value, type_name, same_text}
use Rattle.rhai_base.specs.Operators.{Operator, Computed, NoEntry, Is, Overflows, computed, symbol, is_range}

pub record Binding : Type 0 where
  pub name : Text
  pub value : Value

-- an operator that the host answers at values of these types
pub record Override : Type 0 where
  pub name : Text
  pub types : List Text

pub record TypeName : Type 0 where
  pub from : Text
  pub to : Text

pub record Engine : Type 0 where
  pub constants : List Binding
  pub overrides : List Override
  pub type_names : List TypeName
  pub fast_operators : Bool

abbrev pub or_else : {A : Type 0} → Option A → Option A → Option A
or_else (Some a) b = Some a
or_else None b = b

-- A later one of a name wins.
abbrev pub constant_named : List Binding → Text → Option Value
constant_named [] x = None
constant_named (b ∷ bs) x = or_else (constant_named bs x) (if same_text b.name x then Some b.value else None)

abbrev pub same_texts : List Text → List Text → Bool
same_texts [] [] = true
same_texts (a ∷ as') (b ∷ bs) = same_text a b && same_texts as' bs
same_texts _ _ = false

abbrev pub has_override : List Override → Text → List Text → Bool
has_override [] f types = false
has_override (o ∷ os) f types = (same_text o.name f && same_texts o.types types) || has_override os f types

-- whether a name is overridden for any types
abbrev pub overrides_any : List Override → Text → Bool
overrides_any [] f = false
overrides_any (o ∷ os) f = same_text o.name f || overrides_any os f

abbrev pub is_overridden : Engine → Text → List Value → Bool
is_overridden e f vs = has_override e.overrides f (map type_name vs)

-- A later mapping of a name wins.
abbrev pub mapped_in : List TypeName → Text → Option Text
mapped_in [] t = None
mapped_in (m ∷ ms) t = or_else (mapped_in ms t) (if same_text m.from t then Some m.to else None)

abbrev pub or_itself : Text → Option Text → Text
or_itself t (Some u) = u
or_itself t None = t

-- the name that scripts see for a type
abbrev pub mapped_name : Engine → Text → Text
mapped_name e t = or_itself t (mapped_in e.type_names t)

abbrev pub mapped_type_name : Engine → Value → Text
mapped_type_name e v = mapped_name e (type_name v)

-- the table's entry, unless the host is asked in its place
abbrev pub is_open : Engine → Operator → List Value → Bool
is_open e op vs = is_range op || e.fast_operators || not (is_overridden e (symbol op) vs)

abbrev pub built_in : Engine → Operator → List Value → Computed
built_in e op vs = if is_open e op vs then computed op vs else NoEntry

abbrev pub has_entry : Computed → Bool
has_entry NoEntry = false
has_entry (Is v) = true
has_entry Overflows = true

-- how `op=` is written
abbrev pub assigning : Operator → Text
assigning op = symbol op ++ codes "="

-- whether `op=` is a host call of that name
abbrev pub asks_assigning : Engine → Operator → List Value → Bool
asks_assigning e op vs = is_overridden e (assigning op) vs && not (e.fast_operators && has_entry (computed op vs))
