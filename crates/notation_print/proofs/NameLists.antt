-- Names, item by item, for a loop that goes over them; the sign of an assignment.
use Rattle.std.proofs.Common.{◌≡◌, ℕ, ◌+◌, ◌<◌, true, false, List, [], ◌∷◌, ◌++◌, Option, Some, codes, length, get_or, drop, map, refl, sym, ap, append_assoc, ◌∙◌, add-one, if◌then◌else◌}
use Rattle.std.proofs.Math.Seq.{drop-cons, drop-length}
use Rattle.std.specs.declared.num.NonZeroUsize.{NonZeroUsize}
use Rattle.rhai_base.specs.Value.{Text}
use Rattle.base_tokens.specs.declared.token.Token.{Token}
use Rattle.base_tokens.specs.declared.token.Token.TheVariants as token
use Rattle.base_tokens.specs.Assignments.{is_no_equals}
use Rattle.base_tokens.specs.Symbols.{token_text}
use Rattle.base_tokens.specs.Tokens.{base_of}
use Rattle.base_tokens.specs.declared.ident.Ident.{Ident}
use Rattle.rhai_base.specs.Builtin.{operator_of}
use Rattle.theory_meaning.specs.Desugar.{qualified}
use Rattle.theory_meaning.specs.Shape.{is_none}
use Rattle.theory_meaning.specs.Tree.{Variable}
use Rattle.ast_types.specs.Reading.{shared_names}
use Rattle.notation_print.specs.Nodes.{assigning_text, catch_text, names_text}

-- two pushes, and what is left to push
turned : (before name rest now m n left total : Text) → left ≡ before ++ name ++ rest → now ++ left ≡ total → m ≡ now ++ before → n ≡ m ++ name → n ++ rest ≡ total
turned before name rest now m n left total is so_far e f =
    ap (λ t. t ++ rest) (f ∙ ap (λ t. t ++ name) e ∙ append_assoc now before name) ∙ append_assoc now (before ++ name) rest ∙ ap (λ t. now ++ t) (sym is) ∙ so_far

names-drop : (before : Text) (xs : List Text) (i : ℕ) (d : Text) → i < length xs → names_text before (drop i xs) ≡ before ++ get_or xs i d ++ names_text (codes ", ") (drop (i + 1) xs)
names-drop before xs i d h = rw (add-one, drop-cons xs i d h) refl

-- a turn of the loop over names
pub pushed_name : (xs : List Text) (i : ℕ) (d before name now m n total : Text) → i < length xs → name ≡ get_or xs i d
    → now ++ names_text before (drop i xs) ≡ total → m ≡ now ++ before → n ≡ m ++ name → n ++ names_text (codes ", ") (drop (i + 1) xs) ≡ total
pushed_name xs i d before name now m n total h is so_far e f = turned before (get_or xs i d) _ now m n _ total (names-drop before xs i d h) so_far e (f ∙ ap (λ t. m ++ t) is)

pub names-end : (before : Text) (xs : List Text) → names_text before (drop (length xs) xs) ≡ []
names-end before xs = ap (names_text before) (drop-length xs)

shared-drop : (before : Text) (xs : List (Ident × Option NonZeroUsize)) (i : ℕ) (d : Ident × Option NonZeroUsize) → i < length xs → names_text before (shared_names (drop i xs)) ≡ before ++ (get_or xs i d).0.name ++ names_text (codes ", ") (shared_names (drop (i + 1) xs))
shared-drop before xs i d h = rw (add-one, drop-cons xs i d h) refl

-- a turn of the loop over shared names
pub pushed_shared : (xs : List (Ident × Option NonZeroUsize)) (i : ℕ) (d : Ident × Option NonZeroUsize) (before name now m n total : Text) → i < length xs → name ≡ (get_or xs i d).0.name
    → now ++ names_text before (shared_names (drop i xs)) ≡ total → m ≡ now ++ before → n ≡ m ++ name → n ++ names_text (codes ", ") (shared_names (drop (i + 1) xs)) ≡ total
pushed_shared xs i d before name now m n total h is so_far e f = turned before (get_or xs i d).0.name _ now m n _ total (shared-drop before xs i d h) so_far e (f ∙ ap (λ t. m ++ t) is)

pub shared-end : (before : Text) (xs : List (Ident × Option NonZeroUsize)) → names_text before (shared_names (drop (length xs) xs)) ≡ []
shared-end before xs = ap (λ (ys : List (Ident × Option NonZeroUsize)). names_text before (shared_names ys)) (drop-length xs)

abbrev pub after_modules : List Ident → Text → Text
after_modules ms x = qualified (map (λ m. m.name) ms) x

pub modules-drop : (ms : List Ident) (i : ℕ) (d : Ident) (x : Text) → i < length ms → after_modules (drop i ms) x ≡ (get_or ms i d).name ++ codes "::" ++ after_modules (drop (i + 1) ms) x
modules-drop ms i d x h = rw (add-one, drop-cons ms i d) refl

pub modules-end : (ms : List Ident) (x : Text) → after_modules (drop (length ms) ms) x ≡ x
modules-end ms x = ap (λ (ns : List Ident). after_modules ns x) (drop-length ms)

-- a catch name has no modules
pub caught : (ms : List Text) (x : Text) → catch_text (Variable ms x) ≡ (codes " catch " ++ (if is_none ms then x ++ codes " " else []))
caught [] x = refl
caught (m ∷ ms) x = refl

-- the sign of a straight assignment
pub straight : (op : Token) → is_no_equals op ≡ false → assigning_text (operator_of op) ≡ codes " = "
straight token.Equals h = refl
straight _ h = absurd (let p : true ≡ false = h in cc)

-- the sign of an `op=`
pub by_operator : (form op : Token) → base_of form ≡ Some op → assigning_text (operator_of op) ≡ codes " " ++ token_text op ++ codes "= "
by_operator token.PlusAssign op e = cc
by_operator token.MinusAssign op e = cc
by_operator token.MultiplyAssign op e = cc
by_operator token.DivideAssign op e = cc
by_operator token.ModuloAssign op e = cc
by_operator token.PowerOfAssign op e = cc
by_operator token.LeftShiftAssign op e = cc
by_operator token.RightShiftAssign op e = cc
by_operator token.AndAssign op e = cc
by_operator token.OrAssign op e = cc
by_operator token.XOrAssign op e = cc
by_operator _ op e = absurd (cc)

pub ruleset names = (names-end, shared-end, modules-drop, modules-end, caught, straight, by_operator)
