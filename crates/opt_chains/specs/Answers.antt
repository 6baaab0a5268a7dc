-- What a step answers by value: at a constant, and at a name that is known as a constant map.
use Rattle.std.specs.Prelude.{Bool, true, false, ◌&&◌, not, List, Option, Some, None, codes, if◌then◌else◌}
use Rattle.rhai_base.specs.Value.{Text, Value, BoolV, TextV, MapV, same_text, is_unit}
use Rattle.theory_meaning.specs.Constants.{constant_value}
use Rattle.theory_meaning.specs.Elements.{at_index, entry}
use Rattle.theory_meaning.specs.Engine.{Engine, mapped_type_name}
use Rattle.theory_meaning.specs.Shape.{is_none}
use Rattle.theory_meaning.specs.Tree.{CallToken, NoToken, Callee, Expr, ArrayOf, MapOf, Property, MethodCall, Exprs, no_exprs, expr}
use Rattle.theory_rewriting.specs.Answering.{property_of, index_of}
use Rattle.theory_rewriting.specs.Clear.{known_value}
use Rattle.theory_rewriting.specs.Known.{Known}

-- ---- at a constant

-- the value of a constant that is no literal of an array or a map
abbrev pub whole_value : Expr → Option Value
whole_value (ArrayOf es) = None
whole_value (MapOf ps template) = None
whole_value e = constant_value e

-- a call by a name alone, without arguments
abbrev pub has_no_token : CallToken → Bool
has_no_token NoToken = true
has_no_token _ = false

abbrev pub is_empty : Exprs → Bool
is_empty no_exprs = true
is_empty (expr e es) = false

abbrev pub is_bare : Callee → Exprs → Bool
is_bare c es = is_none c.namespace && (not c.captures && (has_no_token c.token && is_empty es))

-- a method of the language's own, at any value
abbrev pub word_answer : Engine → Value → Text → Option Value
word_answer r v x =
    if same_text x (codes "type_of") then Some (TextV (mapped_type_name r v))
    else if same_text x (codes "is_shared") then Some (BoolV false)
    else None

-- past a `?` (optional) only at a value other than unit
abbrev pub method_answer : Engine → (optional : Bool) → Value → Callee → Exprs → Option Value
method_answer r optional v c es = if is_bare c es && not (optional && is_unit v) then word_answer r v c.name else None

abbrev pub member_answer : Engine → (optional : Bool) → Value → Expr → Option Value
member_answer r optional v (Property p) = property_of (Some v) p.name
member_answer r optional v (MethodCall c es) = method_answer r optional v c es
member_answer r optional v _ = None

-- a `Dot` (dot) or an `Index`, by its argument
abbrev pub answer_at : Engine → (dot optional : Bool) → Value → Expr → Option Value
answer_at r true optional v a = member_answer r optional v a
answer_at r false optional v a = index_of (Some v) (constant_value a)

abbrev pub constant_answer : Engine → (dot optional : Bool) → Expr → Expr → Option Value
constant_answer r dot optional e a = at_index (whole_value e) (λ v. answer_at r dot optional v a)

-- ---- at a known name, by the right side

abbrev pub entry_of : Option Value → Option Value → Option Value
entry_of (Some (MapV fs)) (Some (TextV x)) = Some (entry fs x)
entry_of _ _ = None

abbrev pub known_answer : List Known → (dot : Bool) → Expr → Expr → Option Value
known_answer ks true e (Property p) = property_of (known_value ks e) p.name
known_answer ks true e _ = None
known_answer ks false e i = entry_of (known_value ks e) (constant_value i)

-- ---- where unit may stand or not

abbrev pub other_than_unit : Option Value → Option Value
other_than_unit None = None
other_than_unit (Some v) = if is_unit v then None else Some v

abbrev pub allowed : (unit : Bool) → Option Value → Option Value
allowed true o = o
allowed false o = other_than_unit o
