-- Scripts that run alike but for names of functions.
use Rattle.std.specs.Prelude.{◌≡◌, ℕ, Bool, true, false, List, [], ◌∷◌, ◌++◌, length, Option, Some, None, cond, codes}
use Rattle.base_tokens.specs.Names.{after, anonymous}
use Rattle.rhai_base.specs.Value.{Text, same_text, shown}
use Rattle.theory_meaning.specs.Act.{ScopeEntry, Host, Key}
use Rattle.theory_meaning.specs.Calls.{same_key, key}
use Rattle.theory_meaning.specs.Desugar.{core_script}
use Rattle.theory_meaning.specs.Engine.{Engine, constant_named}
use Rattle.theory_meaning.specs.Plain.{all_true}
use Rattle.theory_meaning.specs.Run.{EntryPoint, run_script}
use Rattle.theory_meaning.specs.Tree.{Function, Script}
use Rattle.theory_meaning.specs.Walk.{over_stmts}
use Rattle.theory_naming.specs.Naming.{ListOf, MaybeLike, HostLike, EntryLike, EntryPointLike, ResultLike}
use Rattle.theory_naming.specs.Renaming.{Stands, is_anonymous, with_mark, calls_by_name, renamed_function, renamed_stmts}

-- Where hosts answer alike calls alike, entry points and start scopes are alike, and the record's constants like
-- themselves, q runs as p does but for the names of functions: each of q's has in p the name that `named` gives it.
pub record RunBut (named : Text → Text) (p q : Script) : Type 0 where
  pub runs : (engine : Engine) → ((x : Text) → MaybeLike (Stands named) (constant_named engine.constants x) (constant_named engine.constants x))
      → (h h' : Host) → HostLike (Stands named) h h' → (e e' : EntryPoint) → EntryPointLike (Stands named) e e'
      → (es es' : List ScopeEntry) → ListOf (EntryLike (Stands named)) es es' → (n : ℕ)
      → ResultLike (Stands named) (run_script engine h (core_script p) e es n) (run_script engine h' (core_script q) e' es' n)

-- New names are as different as the old ones, functions with a name of their own keep it, and texts of values show neither.
pub record AreApart (named : Text → Text) : Type 0 where
  pub apart : (f g : Text) → same_text (named f) (named g) ≡ same_text f g
  pub shown : (f : Text) → shown (named f) ≡ shown f
  pub own : (f : Text) → is_anonymous f ≡ false → named f ≡ f

-- ---- tables of functions

abbrev pub key_at : Function → Key
key_at f = key f.name (length f.params) f.this_type

abbrev pub function_at : List Function → Key → Option Function
function_at [] k = None
function_at (f ∷ fs) k = cond (same_key (key_at f) k) (Some f) (function_at fs k)

abbrev pub renamed_key : (Text → Text) → Key → Key
renamed_key named k = record { name = named k.name; arity = k.arity; this_type = k.this_type }

-- its function in the first table is itself, renamed
pub record IsCovered (named : Text → Text) (fs : List Function) (g : Function) : Type 0 where
  pub there : function_at fs (renamed_key named (key_at g)) ≡ Some (renamed_function named g)
  pub by_name : over_stmts (all_true calls_by_name) g.body ≡ true

abbrev pub AreCovered : (Text → Text) → List Function → List Function → Type 0
AreCovered named fs [] = Unit {0}
AreCovered named fs (g ∷ gs) = IsCovered named fs g × AreCovered named fs gs

-- whatever function would stand for it in the second table is there
abbrev pub IsWanted : (Text → Text) → List Function → Function → Type 0
IsWanted named gs f = (l : Key) → key_at f ≡ renamed_key named l → (g : Function) × (function_at gs l ≡ Some g)

abbrev pub AreWanted : (Text → Text) → List Function → List Function → Type 0
AreWanted named gs [] = Unit {0}
AreWanted named gs (f ∷ fs) = IsWanted named gs f × AreWanted named gs fs

-- The statements are the same but for names, and so are the functions by their keys; a function of the first script that none
-- of the second stands for may be there.
pub record SameBut (named : Text → Text) (p q : Script) : Type 0 where
  pub statements : p.statements ≡ renamed_stmts named q.statements
  pub by_name : over_stmts (all_true calls_by_name) q.statements ≡ true
  pub covered : AreCovered named p.functions q.functions
  pub wanted : AreWanted named q.functions p.functions

-- The statements are the same, and so is the function of each key.
pub record SameByKey (p q : Script) : Type 0 where
  pub statements : p.statements ≡ q.statements
  pub functions : (k : Key) → function_at p.functions k ≡ function_at q.functions k

-- each function of the second table is in the first, and each key of the first in the second
abbrev pub AreThere : List Function → List Function → Type 0
AreThere fs [] = Unit {0}
AreThere fs (g ∷ gs) = (function_at fs (key_at g) ≡ Some g) × AreThere fs gs

abbrev pub AreKeyed : List Function → List Function → Type 0
AreKeyed gs [] = Unit {0}
AreKeyed gs (f ∷ fs) = ((g : Function) × (function_at gs (key_at f) ≡ Some g)) × AreKeyed gs fs

-- ---- names by a map

-- what marks names that a map doesn't have
abbrev pub unread : Text
unread = codes "unread_"

abbrev pub is_unread : Text → Bool
is_unread f = elim (after (anonymous ++ unread) f) [ None ↦ false | Some t ↦ true ]

-- the name that was found, or the old one with the mark
abbrev pub or_unread : Option Text → Text → Text
or_unread None f = with_mark unread f
or_unread (Some g) f = g

-- What is found of names of closures are names of closures, each another one, from which one comes back.
pub record IsPaired (find back : Text → Option Text) : Type 0 where
  pub old : (f x : Text) → find f ≡ Some x → is_anonymous f ≡ true
  pub new : (f x : Text) → find f ≡ Some x → is_anonymous x ≡ true
  pub read : (f x : Text) → find f ≡ Some x → is_unread x ≡ false
  pub from : (f x : Text) → find f ≡ Some x → back x ≡ Some f
