-- The names known, newest first, and the constants of the script's own list.
use Rattle.std.specs.Prelude.{◌≡◌, Bool, List, [], ◌∷◌, ◌++◌, length, map, Option, Some, None}
use Rattle.std.specs.Option.{option_map}
use Rattle.base_text.specs.Text.{Text}
use Rattle.rhai_base.specs.declared.dynamic.Dynamic.{Dynamic}
use Rattle.rhai_base.specs.declared.scope.Scope.{Scope}
use Rattle.rhai_base.specs.Reading.{value_of}
use Rattle.theory_meaning.specs.Act.{OfName, OfGlobal}
use Rattle.theory_rewriting.specs.Known.{Known}
use Rattle.theory_rewriting.specs.Steps.{Progress}
use Rattle.base_engine.specs.declared.engine_info.EngineInfo.{EngineInfo}
use Rattle.opt_base.specs.declared.level.OptimizationLevel.{OptimizationLevel}
use Rattle.opt_base.specs.Bindings.{Held, newest, without_newest}

-- what the optimiser is given; it lasts
pub record Setting : Type 0 where
  pub info : EngineInfo
  pub scope : Option Scope
  pub level : OptimizationLevel
  pub globals : Option (List (Text × Option Dynamic))

-- whether a rule has fired, and the names with their values, newest first
pub record Standing : Type 0 where
  pub setting : Setting
  pub is_dirty : Bool
  pub entries : List (Text × Option Dynamic)

-- the names in their order, each with what was bound to it then
abbrev pub entries_of : List Text → Held → List (Text × Option Dynamic)
entries_of [] f = []
entries_of (x ∷ xs) f = (x, newest (f x)) ∷ entries_of xs (without_newest x f)

-- nothing is bound but what these names bound
abbrev pub Settled : List Text → Held → Type 0
Settled [] f = (x : Text) → length (f x) ≡ 0
Settled (x ∷ xs) f = Settled xs (without_newest x f)

-- as the rules see them
abbrev pub known_entry : Text × Option Dynamic → Known
known_entry e = record { root = OfName e.0; value = option_map value_of e.1 }

abbrev pub known_of : List (Text × Option Dynamic) → List Known
known_of es = map known_entry es

abbrev pub global_entry : Text × Option Dynamic → Known
global_entry e = record { root = OfGlobal e.0; value = option_map value_of e.1 }

abbrev pub globals_known : Option (List (Text × Option Dynamic)) → List Known
globals_known None = []
globals_known (Some es) = map global_entry es

-- a state as the theory has it
abbrev pub progress : Standing → Progress
progress s = record { is_dirty = s.is_dirty; known = known_of s.entries ++ globals_known s.setting.globals }
