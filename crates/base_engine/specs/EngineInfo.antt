-- The abstract record that an engine's record stands for.
use Rattle.std.specs.Prelude.{Bool, false, not, ◌||◌, List, [], ◌∷◌, ◌++◌, map, Option, Some, None}
use Rattle.rhai_base.specs.Value.{Text, Value}
use Rattle.rhai_base.specs.Operators.{Operator, Computed, NoEntry}
use Rattle.rhai_base.specs.Builtin.{operator_of}
use Rattle.base_tokens.specs.declared.token.Token.{Token}
use Rattle.base_tokens.specs.Symbols.{token_text}
use Rattle.base_tokens.specs.Tokens.{makes_range}
use Rattle.rhai_base.specs.Reading.{value_of}
use Rattle.theory_meaning.specs.Engine.{Engine, Binding, built_in, has_override}
use Rattle.base_engine.specs.declared.engine_info.EngineConstant.{EngineConstant}
use Rattle.base_engine.specs.declared.engine_info.EngineInfo.{EngineInfo}

abbrev pub constants_of : List EngineConstant → List Binding
constants_of cs = map (λ c. record { name = c.name; value = value_of c.value }) cs

abbrev pub engine_of : EngineInfo → Engine
engine_of e = record { constants = constants_of e.constants; overrides = e.overrides; type_names = e.type_names; fast_operators = e.fast_operators }

abbrev pub nothing_set : Engine
nothing_set = record { constants = []; overrides = []; type_names = []; fast_operators = false }

-- with one more constant, the last
abbrev pub knowing_constant : Engine → Text → Value → Engine
knowing_constant e name value = record e { constants = e.constants ++ record { name = name; value = value } ∷ [] }

-- with one more mapping of a type's name, the last
abbrev pub mapping : Engine → Text → Text → Engine
mapping e from to = record e { type_names = e.type_names ++ record { from = from; to = to } ∷ [] }

-- with one more override, the last
abbrev pub overriding : Engine → Text → List Text → Engine
overriding e name types = record e { overrides = e.overrides ++ record { name = name; types = types } ∷ [] }

-- the built-in operator is tried at operands of these types; ranges cannot be overridden
abbrev pub tries_builtin : Engine → Token → List Text → Bool
tries_builtin e op types = makes_range op || e.fast_operators || not (has_override e.overrides (token_text op) types)

-- what a token's operator answers at values, where it is built in
abbrev pub built_in_of : Engine → List Value → Option Operator → Computed
built_in_of e vs (Some op) = built_in e op vs
built_in_of e vs None = NoEntry

abbrev pub built_in_at : Engine → Token → List Value → Computed
built_in_at e op vs = built_in_of e vs (operator_of op)
