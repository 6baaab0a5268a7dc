-- The bindings of names: for each name a list, the newest first.
use Rattle.std.specs.Prelude.{cond, List, [], ◌∷◌, map, reverse, Option, Some, None, bytes_eq}
use Rattle.std.specs.BTreeMap.{BTreeMap, get_by_text}
use Rattle.std.specs.Cow.{cow_value}
use Rattle.std.specs.Option.{option_map}
use Rattle.std.specs.Prelude.{String}
use Rattle.std.specs.declared.alloc.Global.{Global}
use Rattle.std.specs.declared.borrow.Cow.{Cow}
use Rattle.std.specs.declared.vec.Vec.{Vec}
use Rattle.base_text.specs.Text.{Text}
use Rattle.rhai_base.specs.declared.dynamic.Dynamic.{Dynamic}

-- what is bound to each name
abbrev pub Held : Type 0
Held = Text → List (Option Dynamic)

-- a value, lent or owned
abbrev pub read : Option (Cow Dynamic) → Option Dynamic
read = option_map cow_value

abbrev pub newest : List (Option Dynamic) → Option Dynamic
newest [] = None
newest (v ∷ vs) = v

abbrev pub older : List (Option Dynamic) → List (Option Dynamic)
older [] = []
older (v ∷ vs) = vs

-- one more over those of a name: a variable over nothing hides nothing
abbrev pub laid : Option Dynamic → List (Option Dynamic) → List (Option Dynamic)
laid None [] = []
laid None (v ∷ vs) = None ∷ v ∷ vs
laid (Some v) vs = Some v ∷ vs

-- one more of a name, and one less
abbrev pub with_newest : Text → Option Dynamic → Held → Held
with_newest x v f = λ y. cond (bytes_eq x y) (laid v (f y)) (f y)

abbrev pub without_newest : Text → Held → Held
without_newest x f = λ y. cond (bytes_eq x y) (older (f y)) (f y)

-- in a map the newest stands last, and a name without a list has none
abbrev pub newest_first : List (Option (Cow Dynamic)) → List (Option Dynamic)
newest_first xs = reverse (map read xs)

abbrev pub held : Option (Vec (Option (Cow Dynamic)) Global) → List (Option Dynamic)
held None = []
held (Some v) = newest_first v.items

abbrev pub held_in : BTreeMap (String Global) (Vec (Option (Cow Dynamic)) Global) → Held
held_in m = λ x. held (get_by_text m x)
