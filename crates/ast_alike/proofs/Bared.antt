-- What is found in a table is found in the table of the bare functions.
use Rattle.std.proofs.Common.{◌≡◌, ℕ, Bool, true, false, cond, ◌&&◌, ◌==◌, List, [], ◌∷◌, length, map, Option, Some, None, Result, Ok, Err, refl, sym, ap, ◌∙◌, subst}
use Rattle.std.specs.Prelude.{if◌then◌else◌, IfOk, IsTrue, is_some, not}
use Rattle.std.specs.Borrow.{Bor}
use Rattle.std.specs.Cmp.{unsigned_Decides}
use Rattle.std.specs.Option.{option_copied, option_map}
use Rattle.std.proofs.lemmas.Bool.{and_parts}
use Rattle.std.proofs.lemmas.Slice.Eq.{bytes_eq-Decides}
use Rattle.rhai_base.specs.Value.{Text, same_text}
use Rattle.theory_meaning.specs.Act.{Key}
use Rattle.theory_meaning.specs.Calls.{same_key, same_type, key}
use Rattle.theory_meaning.specs.Plain.{all_true}
use Rattle.theory_meaning.specs.Tree.{Function}
use Rattle.theory_meaning.specs.Walk.{over_stmts}
use Rattle.theory_naming.specs.Alike.{key_at, function_at, renamed_key, IsCovered}
use Rattle.theory_naming.specs.Renaming.{calls_by_name, renamed_function}
use Rattle.theory_naming.proofs.Scripts.{key_exact}
use Rattle.theory_spelling.specs.Bare.{bare_function}
use Rattle.ast_types.specs.Reading.{function_of}
use Rattle.ast_types.specs.declared.script_fn.ScriptFuncDef.{ScriptFuncDef}
use Rattle.script_tables.specs.FnKey.{definition_key}
use Rattle.script_tables.specs.Table.{find_by}
use Rattle.ast_alike.specs.Scripts.{HasKey}

by_both : (a b : Bool) → (a ≡ true → b ≡ true) → (b ≡ true → a ≡ true) → a ≡ b
by_both true b h k = sym (h refl)
by_both false true h k = k refl
by_both false false h k = refl

type_itself : (t : Option Text) → same_type t t ≡ true
type_itself None = refl
type_itself (Some t) = (bytes_eq-Decides t t).1 refl

key_itself : (k : Key) → same_key k k ≡ true
key_itself k = (λ i. (bytes_eq-Decides k.name k.name).1 refl i && (unsigned_Decides k.arity k.arity).1 refl i && type_itself k.this_type i)

-- keys are compared either way round
key_turned : (k l : Key) → same_key k l ≡ same_key l k
key_turned k l =
    by_both (same_key k l) (same_key l k)
    (λ h. subst (λ m. same_key l m ≡ true) (sym (key_exact k l h)) (key_itself l))
    (λ h. subst (λ m. same_key k m ≡ true) (sym (key_exact l k h)) (key_itself k))

abbrev bare_found : Option ScriptFuncDef → Option Function
bare_found None = None
bare_found (Some f) = Some (bare_function (function_of f))

found_or : (b c : Bool) (f : ScriptFuncDef) (o : Option ScriptFuncDef) (p : Option Function) → c ≡ b → p ≡ bare_found o → cond b (Some (bare_function (function_of f))) p ≡ bare_found (if c then Some f else o)
found_or true true f o p h k = refl
found_or false false f o p h k = k
found_or true false f o p h k = absurd (cc)
found_or false true f o p h k = absurd (cc)

pub found_bare : (fs : List ScriptFuncDef) (k : Key) → function_at (map bare_function (map function_of fs)) k ≡ bare_found (find_by definition_key k fs)
found_bare [] k = refl
found_bare (f ∷ fs) k = found_or (same_key (definition_key f) k) (same_key k (definition_key f)) f (find_by definition_key k fs) _ (key_turned k (definition_key f)) (found_bare fs k)

pub found_one : (fs : List ScriptFuncDef) (k : Key) (f : ScriptFuncDef) → find_by definition_key k fs ≡ Some f → function_at (map bare_function (map function_of fs)) k ≡ Some (bare_function (function_of f))
found_one fs k f h = found_bare fs k ∙ ap bare_found h

pub has_one : (fs : List ScriptFuncDef) (k : Key) (f : ScriptFuncDef) → find_by definition_key k fs ≡ Some f → HasKey (map bare_function (map function_of fs)) k
has_one fs k f h = (bare_function (function_of f), found_one fs k f h)

pub is_some_lent : {A B : Type 0} (f : A → B) (o : Option (Bor A)) → is_some o ≡ is_some (option_map f (option_copied o))
is_some_lent f None = refl
is_some_lent f (Some x) = refl

pub has_of : (fs : List ScriptFuncDef) (k : Key) → is_some (find_by definition_key k fs) ≡ true → HasKey (map bare_function (map function_of fs)) k
has_of fs k h = by (find_by definition_key k fs) refl where
  by : (o : Option ScriptFuncDef) → find_by definition_key k fs ≡ o → HasKey (map bare_function (map function_of fs)) k
  by None e = let z : false ≡ true = sym (ap is_some e) ∙ h in absurd (cc)
  by (Some f) e = has_one fs k f e

-- ---- the function that was found, bare

module _ (fs : List ScriptFuncDef) (k : Key) (own f : ScriptFuncDef) (found : Some own ≡ find_by definition_key k fs) where
  abbrev bare : Function
  bare = bare_function (function_of f)

  pub there_one : {E : Type 0} (r : Result Bool E) → k ≡ key_at bare → IfOk r (λ alike. IsTrue alike → bare_function (function_of own) ≡ bare) → IfOk r (λ there. IsTrue there → function_at (map bare_function (map function_of fs)) (key_at bare) ≡ Some bare)
  there_one (Ok b) is h = λ t. subst (λ l. function_at (map bare_function (map function_of fs)) l ≡ Some bare) is (found_one fs k own (sym found) ∙ ap Some (h t))
  there_one (Err e) is h = tt

  pub covered_one : {E : Type 0} (named : Text → Text) (r : Result Bool E) → k ≡ renamed_key named (key_at bare) → IfOk r (λ alike. IsTrue alike → bare_function (function_of own) ≡ renamed_function named bare)
      → IfOk r (λ alike. IsTrue alike → over_stmts (all_true calls_by_name) bare.body ≡ true) → IfOk r (λ covered. IsTrue covered → IsCovered named (map bare_function (map function_of fs)) bare)
  covered_one named (Ok b) is h n = λ t. record {
    there = subst (λ l. function_at (map bare_function (map function_of fs)) l ≡ Some (renamed_function named bare)) is (found_one fs k own (sym found) ∙ ap Some (h t));
    by_name = n t;
  }
  covered_one named (Err e) is h n = tt
