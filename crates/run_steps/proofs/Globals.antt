-- The constants of the script's own list: the latest of a name, and what `global::` names.
use Rattle.std.proofs.Common.{◌≡◌, ◌<◌, ◌≤◌, true, false, if◌then◌else◌, cond, List, [], ◌∷◌, ◌++◌, map, length, get_or, Option, Some, None, refl, sym, ap, ◌∙◌, arith}
use Rattle.base_tokens.specs.declared.ident.Ident.{Ident}
use Rattle.rhai_base.specs.Reading.{value_of}
use Rattle.rhai_base.specs.Value.{Text, Value, same_text}
use Rattle.theory_meaning.specs.Act.{Root, OfName, OfGlobal}
use Rattle.theory_meaning.specs.Desugar.{is_global, name_root}
use Rattle.theory_meaning.specs.Engine.{Binding, or_else, constant_named}
use Rattle.run_state.specs.declared.entries.Entry.{Entry}
use Rattle.run_state.specs.Entries.{binding_meant}
use Rattle.run_state.proofs.Variables.{bindings_more}

-- ---- the latest constant of a name

or_same : (o : Option Value) → o ≡ or_else o None
or_same None = refl
or_same (Some v) = refl

or_later : (o p q : Option Value) → or_else (or_else o p) q ≡ or_else o (or_else p q)
or_later None p q = refl
or_later (Some v) p q = refl

constant_last : (bs : List Binding) (b : Binding) (x : Text) → constant_named (bs ++ b ∷ []) x ≡ or_else (if same_text b.name x then Some b.value else None) (constant_named bs x)
constant_last [] b x = or_same (if same_text b.name x then Some b.value else None)
constant_last (c ∷ bs) b x =
    ap (λ o. or_else o (if same_text c.name x then Some c.value else None)) (constant_last bs b x)
    ∙ or_later (if same_text b.name x then Some b.value else None) (constant_named bs x) (if same_text c.name x then Some c.value else None)

latest_of : (es front : List Entry) (e : Entry) (x : Text) → es ≡ front ++ e ∷ [] → constant_named (map binding_meant es) x ≡ or_else (if same_text e.name x then Some (value_of e.value) else None) (constant_named (map binding_meant front) x)
latest_of es front e x h = ap (λ l. constant_named (map binding_meant l) x) h ∙ ap (λ l. constant_named l x) (bindings_more front e) ∙ constant_last (map binding_meant front) (binding_meant e) x

pub latest-here : (es front : List Entry) (e : Entry) (x : Text) → es ≡ front ++ e ∷ [] → same_text e.name x ≡ true → constant_named (map binding_meant es) x ≡ Some (value_of e.value)
latest-here es front e x h q = latest_of es front e x h ∙ ap (λ b. or_else (if b then Some (value_of e.value) else None) (constant_named (map binding_meant front) x)) q

pub latest-earlier : (es front : List Entry) (e : Entry) (x : Text) → es ≡ front ++ e ∷ [] → same_text e.name x ≡ false → constant_named (map binding_meant es) x ≡ constant_named (map binding_meant front) x
latest-earlier es front e x h q = latest_of es front e x h ∙ ap (λ b. or_else (if b then Some (value_of e.value) else None) (constant_named (map binding_meant front) x)) q

pub ruleset latest = (latest-here, latest-earlier)

-- ---- what a name with its modules' stands for

module _ (x : Text) where
  abbrev named : List Ident → Option Root
  named is = name_root (map (λ i. i.name) is) x

  pub no_module : (is : List Ident) → length is < 1 → Some (OfName x) ≡ named is
  no_module [] h = refl
  no_module (i ∷ is) h = absurd (omega (arith, h))

  pub one_module : (is : List Ident) (i : Ident) → 1 ≤ length is → length is < 2 → i ≡ get_or is 0 i → cond (is_global i.name) (Some (OfGlobal x)) None ≡ named is
  one_module [] i h k e = absurd (omega (arith, h))
  one_module (j ∷ []) i h k e = ap (λ (m : Ident). cond (is_global m.name) (Some (OfGlobal x)) None) e
  one_module (j ∷ m ∷ is) i h k e = absurd (omega (arith, k))

  pub more_modules : (is : List Ident) → 2 ≤ length is → None ≡ named is
  more_modules [] h = absurd (omega (arith, h))
  more_modules (i ∷ []) h = absurd (omega (arith, h))
  more_modules (i ∷ j ∷ is) h = refl
