-- Keys of functions: `==` of written keys is that of the keys meant, and tells what is equal.
use Rattle.std.proofs.Common.{◌≡◌, Bool, true, false, ◌&&◌, ◌==◌, Option, Some, None, refl, ap, ◌∙◌}
use Rattle.std.proofs.lemmas.Bool.{and_parts, eqb-true}
use Rattle.std.proofs.lemmas.Slice.Eq.{bytes_eq-Decides}
use Rattle.std.specs.Option.{option_eq}
use Rattle.rhai_base.specs.Value.{Text, same_text}
use Rattle.theory_meaning.specs.Act.{Key}
use Rattle.theory_meaning.specs.Calls.{same_key, same_type}
use Rattle.script_tables.specs.declared.fn_table.FnKey.{FnKey}
use Rattle.script_tables.specs.contracts.fn_table.FnKeyPartialEq.TheImpl as derived
use Rattle.script_tables.specs.FnKey.{key_meant}

abbrev pub same_written : FnKey → FnKey → Bool
same_written = derived.eq-value.it

same_types : (s t : Option Text) → option_eq same_text s t ≡ same_type s t
same_types None None = refl
same_types None (Some t) = refl
same_types (Some s) None = refl
same_types (Some s) (Some t) = refl

and_grouped : (a b c : Bool) → (a && (b && c)) ≡ (a && b && c)
and_grouped true b c = refl
and_grouped false b c = refl

pub same_written-meant : (k l : FnKey) → same_written k l ≡ same_key (key_meant k) (key_meant l)
same_written-meant k l =
    ap (λ b. same_text k.name l.name && (k.params == l.params && b)) (same_types k.this_type l.this_type)
    ∙ and_grouped (same_text k.name l.name) (k.params == l.params) (same_type k.this_type l.this_type)

same_text-true : (s t : Text) → same_text s t ≡ true → s ≡ t
same_text-true s t h = (bytes_eq-Decides s t).0 h

same_type-true : (s t : Option Text) → same_type s t ≡ true → s ≡ t
same_type-true None None h = refl
same_type-true None (Some t) h = cc
same_type-true (Some s) None h = cc
same_type-true (Some s) (Some t) h = ap Some (same_text-true s t h)

pub same_key-true : (k l : Key) → same_key k l ≡ true → k ≡ l
same_key-true k l h =
    let two = and_parts (same_text k.name l.name && k.arity == l.arity) (same_type k.this_type l.this_type) h in
    let one = and_parts (same_text k.name l.name) (k.arity == l.arity) two.0 in
    let name = same_text-true k.name l.name one.0 in
    let arity = eqb-true k.arity l.arity one.1 in
    let type = same_type-true k.this_type l.this_type two.1 in
    λ i. record { name = name i; arity = arity i; this_type = type i }

-- a written key says what it means
pub key_meant-one : (k l : FnKey) → key_meant k ≡ key_meant l → k ≡ l
key_meant-one k l e = λ i. record { name = (e i).name; params = (e i).arity; this_type = (e i).this_type }
