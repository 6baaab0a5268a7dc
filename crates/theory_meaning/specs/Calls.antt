-- Calls: operators, the language's own functions, script functions and the host.
use Rattle.std.specs.Prelude.{ℕ, Bool, true, false, ◌&&◌, ◌||◌, List, [], ◌∷◌, ◌++◌, length, Option, Some, None, cond, codes, ◌==◌}
use Rattle.rhai_base.specs.Value.{Text, Value, BoolV, TextV, PointerV, items, values, same_text}
use Rattle.rhai_base.specs.Operators.{Operator, Computed, NoEntry, Is, Overflows, symbol}
use Rattle.theory_meaning.specs.Engine.{built_in, asks_assigning, assigning, mapped_type_name}
use Rattle.theory_meaning.specs.Act.{WrongKind, Key, World, Act, Fail, Resolve, Invoke}
use Rattle.theory_meaning.specs.Core.{Callee, OnOperator, Qualified, ByName}
use Rattle.base_tokens.specs.Names.{is_valid_name}
use Rattle.theory_meaning.specs.ActForms.{give, throw, choose, ask_host}

-- ---- operators

abbrev pub of_table : Text → List Value → Computed → Act
of_table f vs NoEntry = ask_host f vs
of_table f vs (Is v) = give v
of_table f vs Overflows = throw (codes "arithmetic")

abbrev pub operate : World → Operator → List Value → Act
operate w op vs = of_table (symbol op) vs (built_in w.engine op vs)

-- `old op= new`, and `=`
abbrev pub assigned : World → Option Operator → Value → Value → Act
assigned w None old new = give new
assigned w (Some op) old new =
    choose (asks_assigning w.engine op (old ∷ new ∷ [])) (ask_host (assigning op) (old ∷ new ∷ [])) (operate w op (old ∷ new ∷ []))

-- ---- function pointers

abbrev pub pointer_to : Value → Act
pointer_to (TextV t) = choose (is_valid_name t) (give (PointerV t (values []))) (throw (codes "function name"))
pointer_to _ = Fail WrongKind

abbrev pub curried : Value → List Value → Act
curried (PointerV f us) vs = give (PointerV f (values (items us ++ vs)))
curried _ vs = Fail WrongKind

-- ---- script functions

abbrev pub same_type : Option Text → Option Text → Bool
same_type None None = true
same_type (Some t) (Some u) = same_text t u
same_type _ _ = false

abbrev pub same_key : Key → Key → Bool
same_key a b = same_text a.name b.name && a.arity == b.arity && same_type a.this_type b.this_type

abbrev pub has_key : List Key → Key → Bool
has_key [] k = false
has_key (l ∷ ls) k = same_key l k || has_key ls k

abbrev pub key : Text → ℕ → Option Text → Key
key f n t = record { name = f; arity = n; this_type = t }

-- a script function without receiver type, else the host
abbrev pub call_named : World → Bool → Text → List Value → Act
call_named w captures f vs =
    choose (has_key w.functions (key f (length vs) None))
    (Invoke (record { function = key f (length vs) None; captures = captures; this = None; arguments = vs }) (λ v u. give v))
    (ask_host f vs)

abbrev pub call_pointer : World → Bool → Value → List Value → Act
call_pointer w captures (PointerV f us) vs = call_named w captures f (items us ++ vs)
call_pointer w captures _ vs = Fail WrongKind

-- ---- the language's own functions

pub data Word : Type 0 where
  ToHost : Word
  TypeOf : Word
  IsShared : Word
  Fn : Word
  Curry : Word
  CallFn : Word
  NoWord : Word

abbrev pub word : Text → Word
word f =
    cond (same_text f (codes "print")) ToHost
    (cond (same_text f (codes "debug")) ToHost
    (cond (same_text f (codes "type_of")) TypeOf
    (cond (same_text f (codes "is_shared")) IsShared
    (cond (same_text f (codes "Fn")) Fn
    (cond (same_text f (codes "curry")) Curry
    (cond (same_text f (codes "call")) CallFn NoWord))))))

abbrev pub call_word : World → Bool → Text → Word → List Value → Act
call_word w captures f ToHost vs = ask_host f vs
call_word w captures f TypeOf (v ∷ []) = give (TextV (mapped_type_name w.engine v))
call_word w captures f IsShared (v ∷ []) = give (BoolV false)
call_word w captures f Fn (v ∷ []) = pointer_to v
call_word w captures f Curry (p ∷ vs) = curried p vs
call_word w captures f CallFn (p ∷ vs) = call_pointer w captures p vs
call_word w captures f _ vs = call_named w captures f vs

-- a name in a module
abbrev pub within : Text → Text → Text
within m x = m ++ codes "::" ++ x

abbrev pub called : World → Callee → List Value → Act
called w (OnOperator op) vs = operate w op vs
called w (Qualified m f) vs = Resolve m (λ n. ask_host (within n f) vs)
called w (ByName f captures) vs = call_word w captures f (word f) vs
