-- No text of a script ends a part of a report.
use Rattle.std.proofs.Common.{◌≡◌, ℕ, ℤ, pos, negsuc, zero, suc, ◌/◌, ◌%◌, ◌<◌, ◌≤◌, ◌+◌, ◌-◌, ◌-ℤ◌, take, drop, replicate, nat_le, Bool, true, false, ◌&&◌, ◌==◌, nat_lt, List, [], ◌∷◌, ◌++◌, Option, None, Some, codes, map, length, get_or, inl, inr, refl, sym, ap, ◌∙◌, arith, append_assoc, append-nil}
use Rattle.std.proofs.lemmas.Bool.{and_from, and_parts, cases_lt, cond_both, or_parts}
use Rattle.std.proofs.lemmas.Bool.Decides.{nat_tests}
use Rattle.std.proofs.lemmas.Str.{encode_ascii, inside_one}
use Rattle.std.specs.Fmt.{decimal, digit_glyph, digits, digits_onto, signed_decimal}
use Rattle.std.specs.Prelude.{encode_utf8, if◌then◌else◌}
use Rattle.std.specs.Str.{chars}
use Rattle.base_floats.specs.Digits.{float_text, size_text, laid_out, shortest, size, sign, is_plain, plain, scientific, pointed, with_fraction}
use Rattle.rhai_base.specs.Value.{Text, Value, UnitV, BoolV, IntV, FloatV, CharV, TextV, ArrayV, MapV, PointerV, RangeV, RangeInclusiveV, Values, no_values, item, Fields, no_fields, field}
use Rattle.theory_meaning.specs.Act as act
use Rattle.theory_meaning.specs.Act.{is_constant, ScopeEntry, HostCall}
use Rattle.theory_meaning.specs.Run.{End, WithValue, WithThrown, WithStuck, WithoutTurns, Report}
use Rattle.run_host.specs.Report.{stuck_number, stuck_name}
use Rattle.tool_report.specs.Literals.{coded, escape, escaped, is_control, literal, literals, members, quoted}
use Rattle.tool_report.specs.Parts.{IsOfParts, are_lines, are_parts, call_parts, called_parts, end_parts, export_parts, is_part, line_text, lines_text, named_parts, report_parts, turns_parts, variable_parts}

append_part : (xs ys : Text) → is_part xs ≡ true → is_part ys ≡ true → is_part (xs ++ ys) ≡ true
append_part [] ys p q = q
append_part (x ∷ xs) ys p q = let h = and_parts _ _ p in and_from _ _ h.0 (append_part xs ys h.1 q)

-- ---- letters

high_part : (t : Text) → ((k : ℕ) → k < length t → 128 ≤ get_or t k 0) → is_part t ≡ true
high_part [] h = refl
high_part (b ∷ bs) h =
    let high : 128 ≤ b = h 0 (omega arith) in
    and_from _ _ (grind (arith, nat_tests)) (high_part bs (λ k below. h (suc k) (omega arith)))

encode_part : (c : ℕ) → 128 ≤ c → is_part (encode_utf8 c) ≡ true
encode_part c big =
    high_part (encode_utf8 c) (λ k below. elim (cases_lt (get_or (encode_utf8 c) k 0) 128) [
      | inl low ↦ absurd (omega (arith, inside_one c [] (encode_utf8 c) k (sym (append-nil _)) below low))
      | inr h ↦ h
    ])

plain_part : (c : ℕ) → is_control c ≡ false → is_part (encode_utf8 c) ≡ true
plain_part c h =
    let low = or_parts (nat_lt c 32) (nat_lt 126 c && nat_lt c 160) h in
    let above : nat_lt 31 c ≡ true = grind (arith, nat_tests) in
    elim (cases_lt c 128) [ inl small ↦ rw (encode_ascii c small) (and_from (nat_lt 31 c) true above refl) | inr big ↦ encode_part c big ]

glyph_part : (d : ℕ) → nat_lt 31 (digit_glyph false d) ≡ true
glyph_part d = grind (arith, nat_tests)

coded_part : (c : ℕ) → is_part (coded c) ≡ true
coded_part c = and_from _ _ (glyph_part (c / 16)) (and_from _ _ (glyph_part (c % 16)) refl)

escape_part : (c : ℕ) → is_part (escape c) ≡ true
escape_part c =
    let P : Text → Type 0 = λ t. is_part t ≡ true in
    cond_both (c == 34) _ _ P (λ _. refl) (λ _. cond_both (c == 92) _ _ P (λ _. refl) (λ _. cond_both (c == 10) _ _ P (λ _. refl) (λ _.
    cond_both (c == 13) _ _ P (λ _. refl) (λ _. cond_both (c == 9) _ _ P (λ _. refl) (λ _. cond_both (is_control c) _ _ P (λ _. coded_part c) (plain_part c))))))

escaped_part : (cs : List ℕ) → is_part (escaped cs) ≡ true
escaped_part [] = refl
escaped_part (c ∷ cs) = append_part (escape c) (escaped cs) (escape_part c) (escaped_part cs)

quoted_part : (t : Text) → is_part (quoted t) ≡ true
quoted_part t = append_part (codes "\"" ++ escaped (chars t)) (codes "\"") (escaped_part (chars t)) refl

-- ---- numbers

onto_part : (k n : ℕ) (acc : Text) → is_part acc ≡ true → is_part (digits_onto k 10 false n acc) ≡ true
onto_part zero n acc h = h
onto_part (suc k) n acc h =
    let more = and_from _ _ (glyph_part (n % 10)) h in
    cond_both (n / 10 == 0) _ _ (λ t. is_part t ≡ true) (λ _. more) (λ _. onto_part k (n / 10) (digit_glyph false (n % 10) ∷ acc) more)

decimal_part : (n : ℕ) → is_part (decimal n) ≡ true
unfolding digits
decimal_part n = onto_part 64 n [] refl

signed_part : (n : ℤ) → is_part (signed_decimal n) ≡ true
signed_part (pos n) = decimal_part n
signed_part (negsuc n) = decimal_part (suc n)

-- ---- floats

take_part : (n : ℕ) (t : Text) → is_part t ≡ true → is_part (take n t) ≡ true
take_part zero t h = refl
take_part (suc n) [] h = refl
take_part (suc n) (b ∷ bs) h = let p = and_parts _ _ h in and_from _ _ p.0 (take_part n bs p.1)

drop_part : (n : ℕ) (t : Text) → is_part t ≡ true → is_part (drop n t) ≡ true
drop_part zero t h = h
drop_part (suc n) [] h = refl
drop_part (suc n) (b ∷ bs) h = let p = and_parts _ _ h in drop_part n bs p.1

zeros_part : (n : ℕ) → is_part (replicate n 48) ≡ true
zeros_part zero = refl
zeros_part (suc n) = and_from _ _ (refl {a = true}) (zeros_part n)

pointed_part : (n : ℕ) (ds : Text) → is_part ds ≡ true → is_part (pointed n ds) ≡ true
pointed_part n ds h = append_part (take n ds ++ codes ".") (drop n ds) (append_part (take n ds) (codes ".") (take_part n ds h) refl) (drop_part n ds h)

fraction_part : (n : ℕ) (ds : Text) → is_part ds ≡ true → is_part (with_fraction n ds) ≡ true
fraction_part n ds h =
    cond_both (nat_lt n (length ds)) _ _ (λ t. is_part t ≡ true) (λ _. pointed_part (length ds - n) ds h)
    (λ _. append_part (codes "0." ++ replicate (n - length ds) 48) ds (append_part (codes "0.") (replicate (n - length ds) 48) refl (zeros_part (n - length ds))) h)

plain_float_part : (e : ℕ) (ds : Text) → is_part ds ≡ true → is_part (plain e ds) ≡ true
plain_float_part e ds h =
    cond_both (nat_lt e 400) _ _ (λ t. is_part t ≡ true) (λ _. fraction_part (400 - e) ds h)
    (λ _. append_part (ds ++ replicate (e - 400) 48) (codes ".0") (append_part ds (replicate (e - 400) 48) h (zeros_part (e - 400))) refl)

scientific_part : (e : ℕ) (ds : Text) → is_part ds ≡ true → is_part (scientific e ds) ≡ true
scientific_part e ds h =
    let power = pos (e + length ds) -ℤ pos 401 in
    let P : Text → Type 0 = λ t. is_part t ≡ true in
    let first = cond_both (nat_lt 1 (length ds)) (pointed 1 ds) ds P (λ _. pointed_part 1 ds h) (λ _. h) in
    append_part ((if nat_lt 1 (length ds) then pointed 1 ds else ds) ++ codes "e") (signed_decimal power)
    (append_part (if nat_lt 1 (length ds) then pointed 1 ds else ds) (codes "e") first refl) (signed_part power)

laid_out_part : (x : ℕ) (p : ℕ × ℕ) → is_part (laid_out x p) ≡ true
laid_out_part x p =
    cond_both (is_plain x) _ _ (λ t. is_part t ≡ true) (λ _. plain_float_part p.0 (decimal p.1) (decimal_part p.1)) (λ _. scientific_part p.0 (decimal p.1) (decimal_part p.1))

size_part : (x : ℕ) → is_part (size_text x) ≡ true
unfolding size_text
size_part x = cond_both (x == 0) _ _ (λ t. is_part t ≡ true) (λ _. refl) (λ _. laid_out_part x (shortest x))

sign_part : (x : ℕ) → is_part (sign x) ≡ true
sign_part x = cond_both (nat_le 0x8000000000000000 x) _ _ (λ t. is_part t ≡ true) (λ _. refl) (λ _. refl)

float_part : (x : ℕ) → is_part (float_text x) ≡ true
unfolding float_text
float_part x =
    cond_both (nat_lt (size x) 0x7ff0000000000000) _ _ (λ t. is_part t ≡ true) (λ _. append_part (sign x) (size_text (size x)) (sign_part x) (size_part (size x)))
    (λ _. append_part (codes "f64(" ++ decimal x) (codes ")") (append_part (codes "f64(") (decimal x) refl (decimal_part x)) refl)

-- ---- values

mutual
  unfolding literal literals members

  literal_part : (v : Value) → is_part (literal v) ≡ true
  literal_part UnitV = refl
  literal_part (BoolV true) = refl
  literal_part (BoolV false) = refl
  literal_part (IntV n) = signed_part n
  literal_part (FloatV x) = float_part x
  literal_part (CharV c) = append_part (codes "'" ++ escape c) (codes "'") (escape_part c) refl
  literal_part (TextV t) = quoted_part t
  literal_part (ArrayV vs) = append_part (codes "[" ++ literals [] vs) (codes "]") (literals_part [] vs refl) refl
  literal_part (MapV fs) = append_part (codes "#{" ++ members [] fs) (codes "}") (members_part [] fs refl) refl
  literal_part (PointerV f vs) =
      append_part ((codes "Fn(" ++ quoted f) ++ literals (codes ", ") vs) (codes ")")
      (append_part (codes "Fn(" ++ quoted f) (literals (codes ", ") vs) (quoted_part f) (literals_part (codes ", ") vs refl)) refl
  literal_part (RangeV a b) =
      append_part (signed_decimal a ++ codes "..") (signed_decimal b) (append_part (signed_decimal a) (codes "..") (signed_part a) refl) (signed_part b)
  literal_part (RangeInclusiveV a b) =
      append_part (signed_decimal a ++ codes "..=") (signed_decimal b) (append_part (signed_decimal a) (codes "..=") (signed_part a) refl) (signed_part b)

  literals_part : (before : Text) (vs : Values) → is_part before ≡ true → is_part (literals before vs) ≡ true
  literals_part before no_values h = refl
  literals_part before (item v vs) h =
      append_part (before ++ literal v) (literals (codes ", ") vs) (append_part before (literal v) h (literal_part v)) (literals_part (codes ", ") vs refl)

  members_part : (before : Text) (fs : Fields) → is_part before ≡ true → is_part (members before fs) ≡ true
  members_part before no_fields h = refl
  members_part before (field k v fs) h =
      append_part (((before ++ quoted k) ++ codes ": ") ++ literal v) (members (codes ", ") fs)
      (append_part ((before ++ quoted k) ++ codes ": ") (literal v) (append_part (before ++ quoted k) (codes ": ") (append_part before (quoted k) h (quoted_part k)) refl) (literal_part v))
      (members_part (codes ", ") fs refl)

-- ---- a report

append_lines : (xs ys : List (List Text)) → are_lines xs ≡ true → are_lines ys ≡ true → are_lines (xs ++ ys) ≡ true
append_lines [] ys p q = q
append_lines (x ∷ xs) ys p q = let h = and_parts _ _ p in and_from _ _ h.0 (append_lines xs ys h.1 q)

stuck_part : (f : act.Stuck) → is_part (stuck_name f) ≡ true
stuck_part act.Unbound = refl
stuck_part act.WrongKind = refl
stuck_part act.WriteToConstant = refl
stuck_part act.NoPlace = refl
stuck_part act.CounterTooLarge = refl
stuck_part act.UnboundThis = refl
stuck_part act.UnknownModule = refl

end_plain : (e : End) → are_parts (end_parts e) ≡ true
end_plain (WithValue v) = and_from _ _ (literal_part v) refl
end_plain (WithThrown v) = and_from _ _ (literal_part v) refl
end_plain (WithStuck f) = and_from _ _ (decimal_part (stuck_number f)) (and_from _ _ (stuck_part f) refl)
end_plain WithoutTurns = refl

named_plain : (kind x : Text) (v : Value) → is_part kind ≡ true → are_parts (named_parts kind x v) ≡ true
named_plain kind x v h = and_from _ _ h (and_from _ _ (escaped_part (chars x)) (and_from _ _ (literal_part v) refl))

kind_plain : (b : Bool) → is_part (if b then codes "constant" else codes "variable") ≡ true
kind_plain true = refl
kind_plain false = refl

variables_plain : (es : List ScopeEntry) → are_lines (map variable_parts es) ≡ true
variables_plain [] = refl
variables_plain (e ∷ es) =
    and_from _ _ (named_plain (if is_constant e.kind then codes "constant" else codes "variable") e.name e.value (kind_plain (is_constant e.kind))) (variables_plain es)

exports_plain : (es : List (Text × Value)) → are_lines (map export_parts es) ≡ true
exports_plain [] = refl
exports_plain (e ∷ es) = and_from _ _ (named_plain (codes "export") e.0 e.1 refl) (exports_plain es)

values_plain : (vs : List Value) → are_parts (map literal vs) ≡ true
values_plain [] = refl
values_plain (v ∷ vs) = and_from _ _ (literal_part v) (values_plain vs)

called_plain : (x : Text) (r : Option Value) (vs : List Value) → are_parts (called_parts x r vs) ≡ true
called_plain x None vs = and_from _ _ (escaped_part (chars x)) (values_plain vs)
called_plain x (Some v) vs = and_from _ _ (escaped_part (chars x)) (and_from _ _ (literal_part v) (values_plain vs))

calls_plain : (cs : List HostCall) → are_lines (map call_parts cs) ≡ true
calls_plain [] = refl
calls_plain (c ∷ cs) = and_from _ _ (called_plain c.name c.receiver c.arguments) (calls_plain cs)

report_plain : (r : Report) → are_lines (report_parts r) ≡ true
report_plain r =
    and_from _ _ (end_plain r.ended) (and_from _ _ (and_from _ _ (decimal_part r.turns) refl)
    (append_lines (map variable_parts r.variables) (map export_parts r.exports ++ map call_parts r.calls) (variables_plain r.variables)
    (append_lines (map export_parts r.exports) (map call_parts r.calls) (exports_plain r.exports) (calls_plain r.calls))))

lines-append : (xs ys : List (List Text)) → lines_text (xs ++ ys) ≡ lines_text xs ++ lines_text ys
lines-append [] ys = refl
lines-append (x ∷ xs) ys = ap (λ t. line_text x ++ t) (lines-append xs ys) ∙ sym (append_assoc (line_text x) (lines_text xs) (lines_text ys))

lines_joined : (e t : Text) (vs es cs : List (List Text))
    → (((e ++ t) ++ lines_text vs) ++ lines_text es) ++ lines_text cs ≡ e ++ (t ++ lines_text (vs ++ (es ++ cs)))
lines_joined e t vs es cs =
    append_assoc ((e ++ t) ++ lines_text vs) (lines_text es) (lines_text cs) ∙ append_assoc (e ++ t) (lines_text vs) (lines_text es ++ lines_text cs)
    ∙ append_assoc e t (lines_text vs ++ (lines_text es ++ lines_text cs))
    ∙ ap (λ x. e ++ (t ++ x)) (ap (λ x. lines_text vs ++ x) (sym (lines-append es cs)) ∙ sym (lines-append vs (es ++ cs)))

pub report_read : (r : Report) → IsOfParts r
report_read r = (
  lines_joined (line_text (end_parts r.ended)) (line_text (turns_parts r.turns)) (map variable_parts r.variables) (map export_parts r.exports) (map call_parts r.calls),
  report_plain r,
)
