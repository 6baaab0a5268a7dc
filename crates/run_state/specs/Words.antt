-- The language's own words, as the evaluator tells them apart.
use Rattle.std.specs.Prelude.{Bool, true, false, List, [], ◌∷◌, Option, Some, None}
use Rattle.rhai_base.specs.declared.dynamic.Dynamic.{Dynamic}
use Rattle.rhai_base.specs.Reading.{value_of}
use Rattle.rhai_base.specs.Value.{Value, TextV, BoolV}
use Rattle.theory_meaning.specs.Act.{Act}
use Rattle.theory_meaning.specs.ActForms.{give}
use Rattle.theory_meaning.specs.Calls as calls
use Rattle.theory_meaning.specs.Chains.{value_alone}
use Rattle.theory_meaning.specs.Engine.{Engine, mapped_type_name}
use Rattle.theory_meaning.specs.Places as places
use Rattle.run_state.specs.declared.words.Word.{Word}
use Rattle.run_state.specs.declared.words.Word.TheVariants as words
use Rattle.run_state.specs.Runs.{Task, Acting}

abbrev pub word_meant : Word → calls.Word
word_meant words.ToHost = calls.ToHost
word_meant words.TypeOf = calls.TypeOf
word_meant words.IsShared = calls.IsShared
word_meant words.Fn = calls.Fn
word_meant words.Curry = calls.Curry
word_meant words.Call = calls.CallFn
word_meant words.NoWord = calls.NoWord

-- what a word answers at once, or what comes next
abbrev pub word_or : Engine → calls.Word → List Value → Act → Act
word_or e calls.TypeOf (v ∷ []) next = give (TextV (mapped_type_name e v))
word_or e calls.IsShared (v ∷ []) next = give (BoolV false)
word_or e calls.Fn (v ∷ []) next = calls.pointer_to v
word_or e calls.Curry (p ∷ vs) next = calls.curried p vs
word_or e _ vs next = next

-- what a word answers at once for a receiver, or what comes next
abbrev pub method_or : Engine → calls.Word → Value → List Value → (places.Current → Act) → Act → Act
method_or e calls.TypeOf v [] next other = next (places.without_place (TextV (mapped_type_name e v)))
method_or e calls.IsShared v [] next other = next (places.without_place (BoolV false))
method_or e calls.Curry v vs next other = value_alone (calls.curried v vs) next
method_or e _ v vs next other = other

abbrev pub value_or : (places.Current → Act) → Act → Option Dynamic → Task
value_or next other None = Acting other
value_or next other (Some v) = Acting (next (places.without_place (value_of v)))

abbrev pub goes_to_host : calls.Word → Bool
goes_to_host calls.ToHost = true
goes_to_host _ = false

abbrev pub calls_pointer : calls.Word → Bool
calls_pointer calls.CallFn = true
calls_pointer _ = false
