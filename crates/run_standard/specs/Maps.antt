-- What rhai's standard functions answer for a map.
use Rattle.std.specs.Prelude.{pos, ◌==◌, Bool, false, ◌||◌, List, [], ◌∷◌, length, Option, None, codes, if◌then◌else◌}
use Rattle.rhai_base.specs.Value.{Text, Value, UnitV, TextV, ArrayV, MapV, Fields, no_fields, field, values, same_text}
use Rattle.theory_meaning.specs.Act.{Answer}
use Rattle.theory_meaning.specs.Elements.{entry, with_entry}
use Rattle.run_standard.specs.Forms.{gives, gives_bool, gives_int, leaves}

-- in the order of the keys
abbrev pub keys_in : Fields → List Value
keys_in no_fields = []
keys_in (field k v fs) = TextV k ∷ keys_in fs

abbrev pub values_in : Fields → List Value
values_in no_fields = []
values_in (field k v fs) = v ∷ values_in fs

abbrev pub has_entry : Fields → Text → Bool
has_entry no_fields k = false
has_entry (field l v fs) k = same_text l k || has_entry fs k

abbrev pub without_entry : Fields → Text → Fields
without_entry no_fields k = no_fields
without_entry (field l v fs) k = if same_text l k then without_entry fs k else field l v (without_entry fs k)

-- the entries of the second go over those of the first
abbrev pub merged : Fields → Fields → Fields
merged fs no_fields = fs
merged fs (field k v gs) = merged (with_entry fs k v) gs

abbrev pub leaves_entries : Value → Fields → Option Answer
leaves_entries v fs = leaves v (MapV fs)

abbrev pub alone : Text → Fields → Option Answer
alone f fs =
    if same_text f (codes "len") then gives_int (pos (length (keys_in fs)))
    else if same_text f (codes "is_empty") then gives_bool (length (keys_in fs) == 0)
    else if same_text f (codes "keys") then gives (ArrayV (values (keys_in fs)))
    else if same_text f (codes "values") then gives (ArrayV (values (values_in fs)))
    else if same_text f (codes "clear") then leaves_entries UnitV no_fields
    else None

-- the entry is taken away and its value answered; unit where there is none
abbrev pub with_key : Text → Fields → Text → Option Answer
with_key f fs k =
    if same_text f (codes "contains") then gives_bool (has_entry fs k)
    else if same_text f (codes "get") then gives (entry fs k)
    else if same_text f (codes "remove") then leaves_entries (entry fs k) (without_entry fs k)
    else None

abbrev pub with_map : Text → Fields → Fields → Option Answer
with_map f fs gs =
    if same_text f (codes "mixin") then leaves_entries UnitV (merged fs gs)
    else if same_text f (codes "+") then gives (MapV (merged fs gs))
    else if same_text f (codes "+=") then gives (MapV (merged fs gs))
    else None

abbrev pub with_one : Text → Fields → Value → Option Answer
with_one f fs (TextV k) = with_key f fs k
with_one f fs (MapV gs) = with_map f fs gs
with_one f fs _ = None

abbrev pub with_text : Text → Fields → Text → Value → Option Answer
with_text f fs k v = if same_text f (codes "set") then leaves_entries UnitV (with_entry fs k v) else None

abbrev pub with_two : Text → Fields → Value → Value → Option Answer
with_two f fs (TextV k) v = with_text f fs k v
with_two f fs _ v = None

abbrev pub on_map : Text → Fields → List Value → Option Answer
on_map f fs [] = alone f fs
on_map f fs (v ∷ []) = with_one f fs v
on_map f fs (v ∷ w ∷ []) = with_two f fs v w
on_map f fs _ = None
