-- Tables of functions: each key once, in the order in which the keys came first.
use Rattle.std.specs.Prelude.{Bool, true, not, ◌&&◌, List, [], ◌∷◌, length, Option, Some, None, if◌then◌else◌}
use Rattle.theory_meaning.specs.Act.{Key}
use Rattle.theory_meaning.specs.Calls.{key, same_key, has_key}
use Rattle.theory_meaning.specs.Tree.{Function}

module _ {F : Type 0} (key_of : F → Key) where
  -- in the place of the one of an equal key, else last
  abbrev pub put_by : List F → F → List F
  put_by [] f = f ∷ []
  put_by (g ∷ gs) f = if same_key (key_of f) (key_of g) then f ∷ gs else g ∷ put_by gs f

  -- each in turn
  abbrev pub put_all_by : List F → List F → List F
  put_all_by table [] = table
  put_all_by table (f ∷ fs) = put_all_by (put_by table f) fs

  -- the one of this key
  abbrev pub find_by : Key → List F → Option F
  find_by k [] = None
  find_by k (f ∷ fs) = if same_key k (key_of f) then Some f else find_by k fs

abbrev pub key_of : Function → Key
key_of f = key f.name (length f.params) f.this_type

-- the table of these functions
abbrev pub table_of : List Function → List Function
table_of fs = put_all_by key_of [] fs

-- no key comes twice
abbrev pub are_distinct : List Key → Bool
are_distinct [] = true
are_distinct (k ∷ ks) = not (has_key ks k) && are_distinct ks
