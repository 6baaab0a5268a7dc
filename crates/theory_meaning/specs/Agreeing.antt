-- Hosts that answer the calls of a run alike.
use Rattle.std.specs.Prelude.{◌≡◌, List, [], ◌∷◌, ◌++◌}
use Rattle.rhai_base.specs.Value.{Text, Value}
use Rattle.theory_meaning.specs.Act.{HostCall, Host}
use Rattle.theory_meaning.specs.Relations.{Begins}

-- the same answer to each of the calls, after those before it
abbrev pub SameAnswers : Host → Host → List HostCall → Type 0
SameAnswers h h' calls = (past : List HostCall) (c : HostCall) → Begins (past ++ c ∷ []) calls → h.answer past c ≡ h'.answer past c

-- that, and the same modules, values of modules and texts
pub record AgreeOn (h h' : Host) (calls : List HostCall) : Type 0 where
  pub answers : SameAnswers h h' calls
  pub modules : (x : Text) → h.module_value x ≡ h'.module_value x
  pub paths : (p : Text) → h.module_of p ≡ h'.module_of p
  pub texts : (v : Value) → h.text v ≡ h'.text v
