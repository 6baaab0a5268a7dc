-- The latest of a name, of a list and of what stands before its last item.
use Rattle.std.proofs.Common.{◌≡◌, true, false, if◌then◌else◌, List, [], ◌∷◌, ◌++◌, Option, Some, None, refl, ap, ◌∙◌}
use Rattle.std.proofs.lemmas.List.{map-append}
use Rattle.rhai_base.specs.Reading.{value_of}
use Rattle.rhai_base.specs.Value.{Text, Value, same_text}
use Rattle.theory_meaning.specs.Engine.{Binding, TypeName, or_else, constant_named, mapped_in}
use Rattle.base_engine.specs.declared.engine_info.EngineConstant.{EngineConstant}
use Rattle.base_engine.specs.EngineInfo.{constants_of}

or_else_assoc : {A : Type 0} (o p q : Option A) → or_else (or_else o p) q ≡ or_else o (or_else p q)
or_else_assoc (Some a) p q = refl
or_else_assoc None p q = refl

none_else : {A : Type 0} (o : Option A) → o ≡ or_else o None
none_else (Some a) = refl
none_else None = refl

abbrev pub constant_at : Binding → Text → Option Value
constant_at b x = if same_text b.name x then Some b.value else None

abbrev name_at : TypeName → Text → Option Text
name_at m t = if same_text m.from t then Some m.to else None

pub constant_last : (bs : List Binding) (b : Binding) (x : Text) → constant_named (bs ++ b ∷ []) x ≡ or_else (constant_at b x) (constant_named bs x)
constant_last [] b x = none_else (constant_at b x)
constant_last (a ∷ bs) b x = ap (λ o. or_else o (constant_at a x)) (constant_last bs b x) ∙ or_else_assoc (constant_at b x) (constant_named bs x) (constant_at a x)

name_last : (ms : List TypeName) (m : TypeName) (t : Text) → mapped_in (ms ++ m ∷ []) t ≡ or_else (name_at m t) (mapped_in ms t)
name_last [] m t = none_else (name_at m t)
name_last (a ∷ ms) m t = ap (λ o. or_else o (name_at a t)) (name_last ms m t) ∙ or_else_assoc (name_at m t) (mapped_in ms t) (name_at a t)

pub constants_of-push : (cs : List EngineConstant) (c : EngineConstant) → constants_of (cs ++ c ∷ []) ≡ constants_of cs ++ record { name = c.name; value = value_of c.value } ∷ []
constants_of-push cs c = map-append _ cs (c ∷ [])

constant_pushed : (cs bs : List EngineConstant) (c : EngineConstant) (x : Text) → cs ≡ bs ++ c ∷ []
    → constant_named (constants_of cs) x ≡ or_else (if same_text c.name x then Some (value_of c.value) else None) (constant_named (constants_of bs) x)
constant_pushed cs bs c x e =
    ap (λ l. constant_named (constants_of l) x) e
    ∙ ap (λ l. constant_named l x) (constants_of-push bs c)
    ∙ constant_last (constants_of bs) (record { name = c.name; value = value_of c.value }) x

-- ---- what the last item answers, and else those before it

pub constant_named-last : (cs bs : List EngineConstant) (c : EngineConstant) (x : Text) → cs ≡ bs ++ c ∷ [] → same_text c.name x ≡ true → constant_named (constants_of cs) x ≡ Some (value_of c.value)
constant_named-last cs bs c x e h = constant_pushed cs bs c x e ∙ ap (λ b. or_else (if b then Some (value_of c.value) else None) (constant_named (constants_of bs) x)) h

pub constant_named-earlier : (cs bs : List EngineConstant) (c : EngineConstant) (x : Text) → cs ≡ bs ++ c ∷ [] → same_text c.name x ≡ false → constant_named (constants_of cs) x ≡ constant_named (constants_of bs) x
constant_named-earlier cs bs c x e h = constant_pushed cs bs c x e ∙ ap (λ b. or_else (if b then Some (value_of c.value) else None) (constant_named (constants_of bs) x)) h

pub mapped_in-last : (ms ns : List TypeName) (m : TypeName) (t : Text) → ms ≡ ns ++ m ∷ [] → same_text m.from t ≡ true → mapped_in ms t ≡ Some m.to
mapped_in-last ms ns m t e h = ap (λ l. mapped_in l t) e ∙ name_last ns m t ∙ ap (λ b. or_else (if b then Some m.to else None) (mapped_in ns t)) h

pub mapped_in-earlier : (ms ns : List TypeName) (m : TypeName) (t : Text) → ms ≡ ns ++ m ∷ [] → same_text m.from t ≡ false → mapped_in ms t ≡ mapped_in ns t
mapped_in-earlier ms ns m t e h = ap (λ l. mapped_in l t) e ∙ name_last ns m t ∙ ap (λ b. or_else (if b then Some m.to else None) (mapped_in ns t)) h

pub ruleset latest = (constants_of-push, constant_named-last, constant_named-earlier, mapped_in-last, mapped_in-earlier)
