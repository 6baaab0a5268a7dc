-- Lists of names that know less than others.
use Rattle.std.proofs.Common.{◌≡◌, Bool, true, false, cond, List, [], ◌∷◌, ◌++◌, Option, Some, None, refl, sym, ap, ◌∙◌}
use Rattle.rhai_base.specs.Value.{Text, Value, same_text}
use Rattle.theory_meaning.specs.Engine.{Engine}
use Rattle.theory_meaning.specs.Act.{Root, OfName, OfGlobal, OfThis}
use Rattle.theory_meaning.specs.Tree.{Stmt, Var}
use Rattle.theory_rewriting.specs.Context.{knowing, open_list, closed_list, known_behind, known_after, behind_by, behind}
use Rattle.theory_rewriting.specs.Evals.{keeps_names}
use Rattle.theory_rewriting.specs.Known.{Known, look, look_global, is_global_root, globals_of}

-- a list knows no more than another, and the same of it
pub record KnowsLess (ks ls : List Known) : Type 0 where
  pub names : (x : Text) (v : Value) → look ks x ≡ Some v → look ls x ≡ Some v
  pub globals : (x : Text) (v : Value) → look_global ks x ≡ Some v → look_global ls x ≡ Some v

-- ---- without the names

no_name_in : (r : Root) (o : Option Value) (ks : List Known) (x : Text) → look ks x ≡ None → look (cond (is_global_root r) (record { root = r; value = o } ∷ ks) ks) x ≡ None
no_name_in (OfName y) o ks x h = h
no_name_in (OfGlobal y) o ks x h = h
no_name_in OfThis o ks x h = h

pub no_name : (ks : List Known) (x : Text) → look (globals_of ks) x ≡ None
no_name [] x = refl
no_name (k ∷ ks) x = no_name_in k.root k.value (globals_of ks) x (no_name ks x)

same_in : (r : Root) (o : Option Value) (ks ls : List Known) (x : Text) → look_global ls x ≡ look_global ks x → look_global (cond (is_global_root r) (record { root = r; value = o } ∷ ls) ls) x ≡ look_global (record { root = r; value = o } ∷ ks) x
same_in (OfName y) o ks ls x h = h
same_in (OfGlobal y) o ks ls x h = ap (cond (same_text y x) o) h
same_in OfThis o ks ls x h = h

pub same_globals : (ks : List Known) (x : Text) → look_global (globals_of ks) x ≡ look_global ks x
same_globals [] x = refl
same_globals (k ∷ ks) x = same_in k.root k.value ks (globals_of ks) x (same_globals ks x)

twice_in : (r : Root) (o : Option Value) (ks : List Known) → globals_of ks ≡ ks → globals_of (cond (is_global_root r) (record { root = r; value = o } ∷ ks) ks) ≡ cond (is_global_root r) (record { root = r; value = o } ∷ ks) ks
twice_in (OfName y) o ks h = h
twice_in (OfGlobal y) o ks h = ap (λ l. record { root = OfGlobal y; value = o } ∷ l) h
twice_in OfThis o ks h = h

pub globals_twice : (ks : List Known) → globals_of (globals_of ks) ≡ globals_of ks
globals_twice [] = refl
globals_twice (k ∷ ks) = twice_in k.root k.value (globals_of ks) (globals_twice ks)

in_front : (b : Bool) (k : Known) (ks ls ms : List Known) → ks ≡ ls ++ ms → cond b (k ∷ ks) ks ≡ cond b (k ∷ ls) ls ++ ms
in_front true k ks ls ms h = ap (λ l. k ∷ l) h
in_front false k ks ls ms h = h

pub globals_append : (ks ls : List Known) → globals_of (ks ++ ls) ≡ globals_of ks ++ globals_of ls
globals_append [] ls = refl
globals_append (k ∷ ks) ls = in_front (is_global_root k.root) k (globals_of (ks ++ ls)) (globals_of ks) (globals_of ls) (globals_append ks ls)

-- a declaration adds no constant that functions see
declared_globals : (s : Stmt) (ks : List Known) (x : Text) → look_global (known_behind s ks) x ≡ look_global ks x
declared_globals (Var true exported y e) ks x = refl
declared_globals (Var false exported y e) ks x = refl
declared_globals _ ks x = refl

pub globals_behind : (s : Stmt) (ks : List Known) → globals_of (known_behind s ks) ≡ globals_of ks
globals_behind (Var true exported y e) ks = refl
globals_behind (Var false exported y e) ks = refl
globals_behind _ ks = refl

-- behind a statement no more is known than it adds
pub after_knows_less : (b : Bool) (s : Stmt) (ks : List Known) → KnowsLess (known_after b s ks) (known_behind s ks)
after_knows_less true s ks = record { names = λ x v h. h; globals = λ x v h. h }
after_knows_less false s ks = record {
  names = λ x v h. absurd (let z : None ≡ Some v = sym (no_name ks x) ∙ h in cc);
  globals = λ x v h. declared_globals s ks x ∙ sym (same_globals ks x) ∙ h;
}

-- where it keeps names as much, else nothing
pub behind_open : {r : Engine} (s : Stmt) (ks : List Known) → keeps_names s ≡ true → open_list (knowing r (known_behind s ks)) ≡ behind s (open_list (knowing r ks))
behind_open {r = r} s ks h = ap (λ b. behind_by b s (knowing r ks)) (sym h)

pub behind_closed : {r : Engine} (s : Stmt) (ks : List Known) → keeps_names s ≡ false → closed_list (knowing r ks) ≡ behind s (open_list (knowing r ks))
behind_closed {r = r} s ks h = ap (λ b. behind_by b s (knowing r ks)) (sym h)
