-- The words of rhai's own syntax. `Next ws w rest`: behind blanks and comments the text ws goes on with the word w, and
-- rest is left behind it. Texts are bytes.
use Rattle.std.specs.Prelude.{◌≡◌, ◌<◌, ◌+◌, ◌*◌, ℕ, ℤ, pos, ◌-ℤ◌, zero, suc, Bool, true, false, not, ◌&&◌, ◌||◌, IsTrue, List, [], ◌∷◌, ◌++◌, drop, codes, Option, Some, None, ◌==◌, nat_lt, to_bits, if◌then◌else◌}
use Rattle.std.specs.Char.{IsScalar, digit_value, encode_utf8}
use Rattle.std.specs.Float.{Float, binary64}
use Rattle.fast_float.specs.Parse.{parse_float}
use Rattle.base_text.specs.Text.{Text, same_text}
use Rattle.base_tokens.specs.Names.{is_among, is_identifier, is_letter, is_word, within}

pub data Word : Type 0 where
  -- a name, or a word of the language
  Letters : Text → Word
  -- an operator or another sign
  Sign : Text → Word
  -- an integer without a sign
  Number : ℤ → Word
  -- the integer behind the greatest one, which a sign makes the least one
  PastGreatest : Word
  -- a float without a sign, by its bits
  Decimal : ℕ → Word
  -- a text between quotes: what it means
  Quoted : Text → Word

-- ---- blanks and comments

-- ASCII's white space
abbrev pub is_white : ℕ → Bool
is_white c = within 9 13 c || c == 32

-- other white space in UTF-8, of two bytes and of three
abbrev pub is_wide : ℕ → ℕ → Bool
is_wide c d = c == 194 && (d == 133 || d == 160)

abbrev pub is_wider : ℕ → ℕ → ℕ → Bool
is_wider c d e = (c == 225 && d == 154 && e == 128) || (c == 226 && d == 128 && (within 128 138 e || e == 168 || e == 169 || e == 175)) || (c == 226 && d == 129 && e == 159) || (c == 227 && d == 128 && e == 128)

-- from the end of the line on
abbrev pub behind_line : Text → Text
behind_line [] = []
behind_line (c ∷ cs) = if c == 10 then c ∷ cs else behind_line cs

-- what follows so many comments that are open: each ends by a `*/` of its own, and all by the end of the text
abbrev pub behind_block : ℕ → Text → Text
behind_block zero cs = cs
behind_block (suc n) [] = []
behind_block (suc n) (c ∷ []) = []
behind_block (suc n) (c ∷ d ∷ cs) = if c == 47 && d == 42 then behind_block (suc (suc n)) cs else (if c == 42 && d == 47 then behind_block n cs else behind_block (suc n) (d ∷ cs))

-- one blank or comment, and what is left behind it
pub data Blank : Text → Text → Type 0 where
  white : {c : ℕ} {rest : Text} → IsTrue (is_white c) → Blank (c ∷ rest) rest
  wide : {c d : ℕ} {rest : Text} → IsTrue (is_wide c d) → Blank (c ∷ d ∷ rest) rest
  wider : {c d e : ℕ} {rest : Text} → IsTrue (is_wider c d e) → Blank (c ∷ d ∷ e ∷ rest) rest
  line : {rest : Text} → Blank (codes "//" ++ rest) (behind_line rest)
  block : {rest : Text} → Blank (codes "/*" ++ rest) (behind_block 1 rest)

-- any number of them
pub data Blanks : Text → Text → Type 0 where
  none : {ws : Text} → Blanks ws ws
  more : {ws mid rest : Text} → Blanks ws mid → Blank mid rest → Blanks ws rest

-- ---- names

-- words that are no names: the grammar's, those that are kept for later, and the language's own
abbrev pub kept : List Text
kept = codes "true" ∷ codes "false" ∷ codes "as" ∷ codes "async" ∷ codes "await" ∷ codes "break" ∷ codes "const" ∷ codes "continue" ∷ codes "catch" ∷ codes "case" ∷ codes "call" ∷ codes "curry" ∷ codes "do" ∷ codes "default" ∷ codes "debug" ∷ codes "else" ∷ codes "export" ∷ codes "eval" ∷ codes "Fn" ∷ codes "for" ∷ codes "fn" ∷ codes "goto" ∷ codes "go" ∷ codes "if" ∷ codes "in" ∷ codes "import" ∷ codes "is" ∷ codes "is_shared" ∷ codes "is_def_var" ∷ codes "is_def_fn" ∷ codes "let" ∷ codes "loop" ∷ codes "match" ∷ codes "module" ∷ codes "new" ∷ codes "null" ∷ codes "nil" ∷ codes "private" ∷ codes "public" ∷ codes "protected" ∷ codes "package" ∷ codes "print" ∷ codes "return" ∷ codes "switch" ∷ codes "static" ∷ codes "shared" ∷ codes "super" ∷ codes "spawn" ∷ codes "sync" ∷ codes "throw" ∷ codes "try" ∷ codes "thread" ∷ codes "this" ∷ codes "type_of" ∷ codes "until" ∷ codes "use" ∷ codes "var" ∷ codes "void" ∷ codes "while" ∷ codes "with" ∷ codes "yield" ∷ []

abbrev pub is_name : Text → Bool
is_name x = is_identifier x && not (is_among x kept)

-- those of them that functions have
abbrev pub own_functions : List Text
own_functions = codes "eval" ∷ codes "Fn" ∷ codes "call" ∷ codes "curry" ∷ codes "is_shared" ∷ codes "is_def_var" ∷ codes "is_def_fn" ∷ codes "type_of" ∷ codes "print" ∷ codes "debug" ∷ []

-- and methods
abbrev pub own_methods : List Text
own_methods = codes "call" ∷ codes "curry" ∷ codes "is_shared" ∷ codes "type_of" ∷ []

-- ---- signs

abbrev pub value_at : List (Text × Text) → Text → Text
value_at [] s = []
value_at (p ∷ ps) s = if same_text p.0 s then p.1 else value_at ps s

-- the letters behind which a sign is a longer one, or begins a comment
abbrev pub longer : Text → Text
longer = value_at ((codes "+", codes "=+") ∷ (codes "-", codes "=>-") ∷ (codes "*", codes "*=)") ∷ (codes "**", codes "=") ∷ (codes "/", codes "=/*") ∷ (codes "%", codes "=") ∷ (codes "<", codes "=<-|") ∷ (codes "<<", codes "=") ∷ (codes ">", codes "=>") ∷ (codes ">>", codes "=") ∷ (codes "&", codes "=&") ∷ (codes "|", codes "=|>") ∷ (codes "^", codes "=") ∷ (codes "=", codes "=>") ∷ (codes "==", codes "=") ∷ (codes "!", codes "=.") ∷ (codes "!=", codes "=") ∷ (codes ".", codes ".") ∷ (codes "..", codes "=.") ∷ (codes ":", codes ":=;") ∷ (codes "::", codes "<") ∷ (codes "(", codes ")*") ∷ [])

abbrev pub has_letter : Text → ℕ → Bool
has_letter [] c = false
has_letter (d ∷ ds) c = d == c || has_letter ds c

-- whether a text goes on with such a letter
abbrev pub goes_on : (ℕ → Bool) → Text → Bool
goes_on p [] = false
goes_on p (c ∷ rest) = p c

-- ---- integers

-- the base that a letter behind a 0 stands for; 0 for another letter
abbrev pub base_named : ℕ → ℕ
base_named c = if c == 120 || c == 88 then 16 else (if c == 111 || c == 79 then 8 else (if c == 98 || c == 66 then 2 else 0))

-- digits, and `_` between them
abbrev pub is_digit_in : ℕ → ℕ → Bool
is_digit_in base c = c == 95 || nat_lt (digit_value c) base

-- whether they have a digit
abbrev pub has_digit : ℕ → Text → Bool
has_digit base [] = false
has_digit base (c ∷ cs) = if c == 95 then has_digit base cs else nat_lt (digit_value c) base

-- what the digits at the head of a text come to, behind others
abbrev pub value_of : ℕ → ℕ → Text → ℕ
value_of base n [] = n
value_of base n (c ∷ cs) = if c == 95 then value_of base n cs else (if nat_lt (digit_value c) base then value_of base (n * base + digit_value c) cs else n)

-- what is left behind them
abbrev pub behind_digits : ℕ → Text → Text
behind_digits base [] = []
behind_digits base (c ∷ cs) = if is_digit_in base c then behind_digits base cs else c ∷ cs

-- 64 bits, of which the highest is the sign
abbrev pub as_signed : ℕ → ℤ
as_signed n = if nat_lt n 9223372036854775808 then pos n else pos n -ℤ pos 18446744073709551616

-- ---- decimal numbers

-- whether a `.` goes on with a number: no letter, `_` or other `.` follows it
abbrev pub begins_member : ℕ → Bool
begins_member c = is_letter c || c == 95 || c == 46

abbrev pub has_fraction : Text → Bool
has_fraction [] = false
has_fraction (c ∷ cs) = c == 46 && not (goes_on begins_member cs)

-- whether an `e` does: a digit or a sign follows it
abbrev pub begins_power : ℕ → Bool
begins_power c = within 48 57 c || c == 43 || c == 45

abbrev pub has_power : Text → Bool
has_power [] = false
has_power (c ∷ cs) = c == 101 && goes_on begins_power cs

abbrev pub behind_fraction : Text → Text
behind_fraction ws = if has_fraction ws then behind_digits 10 (drop 1 ws) else ws

abbrev pub behind_power : Text → Text
behind_power ws = if has_power ws then behind_digits 10 (drop 2 ws) else ws

-- what is left behind a decimal number
abbrev pub behind_decimal : Text → Text
behind_decimal ws = behind_power (behind_fraction (behind_digits 10 ws))

-- whether it is an integer: of digits alone, and not past the greatest
abbrev pub is_whole : Text → Bool
is_whole ws = not (has_fraction (behind_digits 10 ws)) && not (has_power (behind_digits 10 ws)) && nat_lt (value_of 10 0 ws) 9223372036854775808

-- letters without the `_` between them
abbrev pub unmarked : Text → Text
unmarked [] = []
unmarked (c ∷ cs) = if c == 95 then unmarked cs else c ∷ unmarked cs

-- digits are read as the float with these bits
pub record IsFloat (digits : Text) (bits : ℕ) : Type 0 where
  pub value : Float
  pub parsed : parse_float binary64 digits ≡ Some value
  pub has_bits : to_bits binary64 value ≡ bits

abbrev pub past_greatest_digits : Text
past_greatest_digits = codes "9223372036854775808"

-- ---- texts

-- what a letter behind a `\` means; 0 for those that mean nothing alone
abbrev pub escaped_letter : ℕ → ℕ
escaped_letter c = if c == 110 then 10 else (if c == 114 then 13 else (if c == 116 then 9 else (if c == 92 || c == 34 || c == 39 then c else 0)))

-- how many digits of a character's code follow a letter behind a `\`
abbrev pub code_length : ℕ → ℕ
code_length c = if c == 120 then 2 else (if c == 117 then 4 else (if c == 85 then 8 else 0))

-- letters that stand for themselves: all but quotes, `\` and line ends
abbrev pub is_plain : ℕ → Bool
is_plain c = not (c == 34 || c == 92 || c == 10)

-- what so many hexadecimal digits come to, if they are digits
abbrev pub code_of : ℕ → ℕ → Text → Option ℕ
code_of zero n cs = Some n
code_of (suc k) n [] = None
code_of (suc k) n (c ∷ cs) = if nat_lt (digit_value c) 16 then code_of k (n * 16 + digit_value c) cs else None

-- one piece of a text, what it means, and what is left
pub data Piece : Text → Text → Text → Type 0 where
  plain : {c : ℕ} {rest : Text} → IsTrue (is_plain c) → Piece (c ∷ rest) (c ∷ []) rest
  doubled : {rest : Text} → Piece (codes "\"\"" ++ rest) (codes "\"") rest
  escaped : {c : ℕ} {rest : Text} → 0 < escaped_letter c → Piece (92 ∷ c ∷ rest) (escaped_letter c ∷ []) rest
  coded : {c : ℕ} {rest : Text} (n : ℕ) → 0 < code_length c → code_of (code_length c) 0 rest ≡ Some n → IsScalar n → Piece (92 ∷ c ∷ rest) (encode_utf8 n) (drop (code_length c) rest)

-- any number of them
pub data Pieces : Text → Text → Text → Type 0 where
  nothing : {ws : Text} → Pieces ws [] ws
  piece : {ws mid rest t u : Text} → Pieces ws t mid → Piece mid u rest → Pieces ws (t ++ u) rest

-- ---- words

-- the word w stands at the head of a text
pub data Stands : Text → Word → Text → Type 0 where
  letters : {rest : Text} (x : Text) → goes_on is_word rest ≡ false → Stands (x ++ rest) (Letters x) rest
  sign : {rest : Text} (s : Text) → goes_on (has_letter (longer s)) rest ≡ false → Stands (s ++ rest) (Sign s) rest
  decimal : {c : ℕ} {ws : Text} → IsTrue (within 48 57 c) → is_whole (c ∷ ws) ≡ true → Stands (c ∷ ws) (Number (pos (value_of 10 0 (c ∷ ws)))) (behind_digits 10 (c ∷ ws))
  based : {c : ℕ} {ws : Text} → 0 < base_named c → has_digit (base_named c) ws ≡ true → value_of (base_named c) 0 ws < 18446744073709551616 → Stands (48 ∷ c ∷ ws) (Number (as_signed (value_of (base_named c) 0 ws))) (behind_digits (base_named c) ws)
  float : {rest : Text} (x : Text) (bits : ℕ) → IsTrue (goes_on (within 48 57) (x ++ rest)) → is_whole (x ++ rest) ≡ false → behind_decimal (x ++ rest) ≡ rest → IsFloat (unmarked x) bits → Stands (x ++ rest) (Decimal bits) rest
  past_greatest : {rest : Text} → behind_decimal (past_greatest_digits ++ rest) ≡ rest → Stands (past_greatest_digits ++ rest) PastGreatest rest
  quoted : {ws rest t : Text} → Pieces ws t (codes "\"" ++ rest) → goes_on (has_letter (codes "\"")) rest ≡ false → Stands (codes "\"" ++ ws) (Quoted t) rest

pub data Next : Text → Word → Text → Type 0 where
  next : {ws start rest : Text} {w : Word} → Blanks ws start → Stands start w rest → Next ws w rest
