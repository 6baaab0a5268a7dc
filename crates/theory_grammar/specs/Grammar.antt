-- The grammar of rhai's own syntax: which texts spell a tree. `Reads l ws e rest`: an expression that may stand where one
-- of the level l is wanted is read at the head of the text ws, and rest is left behind it.
use Rattle.std.specs.Prelude.{◌≡◌, ◌≤◌, ◌<◌, ◌+◌, ◌-◌, ℕ, ℤ, pos, neg_ℤ, nat_lt, zero, Bool, true, false, ◌||◌, List, [], ◌∷◌, ◌++◌, Option, Some, None, codes, if◌then◌else◌}
use Rattle.base_tokens.specs.declared.token.Token.{Token}
use Rattle.base_tokens.specs.declared.token.Token.TheVariants as token
use Rattle.base_tokens.specs.Symbols.{token_text}
use Rattle.base_tokens.specs.Names.{is_among}
use Rattle.base_text.specs.Text.{Text}
use Rattle.rhai_base.specs.Builtin.{operator_of}
use Rattle.rhai_base.specs.Operators.{Operator}
use Rattle.theory_meaning.specs.Tree.{Callee, CallToken, NoToken, OfOperator, OfOther, ChainFlags, Expr, BoolConstant, IntegerConstant, FloatConstant, StringConstant, UnitConstant, ArrayOf, MapOf, Variable, ThisPtr, Property, MethodCall, FnCall, Dot, Index, And, Or, Coalesce, Exprs, no_exprs, expr, Pairs, no_pairs, pair}
use Rattle.theory_grammar.specs.Words.{Blanks, Decimal, Letters, Next, Number, PastGreatest, Quoted, Sign, behind_line, is_name, own_functions, own_methods}

-- ---- levels

-- how tightly an operator between operands binds; 0 for any other token
abbrev pub precedence : Token → ℕ
precedence token.Pipe = 30
precedence token.XOr = 30
precedence token.Ampersand = 60
precedence token.EqualsTo = 90
precedence token.NotEqualsTo = 90
precedence token.LessThan = 130
precedence token.LessThanEqualsTo = 130
precedence token.GreaterThan = 130
precedence token.GreaterThanEqualsTo = 130
precedence token.ExclusiveRange = 140
precedence token.InclusiveRange = 140
precedence token.Plus = 150
precedence token.Minus = 150
precedence token.Multiply = 180
precedence token.Divide = 180
precedence token.Modulo = 180
precedence token.PowerOf = 190
precedence token.LeftShift = 210
precedence token.RightShift = 210
precedence _ = 0

-- what its operands must bind as tightly as: all but `**` bind to the left
abbrev pub least_left : Token → ℕ
least_left token.PowerOf = 191
least_left t = precedence t

abbrev pub least_right : Token → ℕ
least_right token.PowerOf = 190
least_right t = precedence t + 1

-- the level of a sign over an operand, of the base of a chain, and of what stands by itself
abbrev pub of_signs : ℕ
of_signs = 220

abbrev pub of_bases : ℕ
of_bases = 230

-- of `in`
abbrev pub of_in : ℕ
of_in = 110

-- the sign that an operator over one operand is written as
abbrev pub sign_of : Token → Option Token
sign_of token.UnaryMinus = Some token.Minus
sign_of token.UnaryPlus = Some token.Plus
sign_of token.Bang = Some token.Bang
sign_of _ = None

-- ---- nodes

abbrev pub token_mark : Option Operator → CallToken
token_mark (Some op) = OfOperator op
token_mark None = OfOther

-- what is called by an operator
abbrev pub marked : Token → Callee
marked t = record { namespace = []; name = token_text t; captures = false; token = token_mark (operator_of t) }

-- and by a name
abbrev pub called_in : List Text → Text → Bool → Callee
called_in ns f captures = record { namespace = ns; name = f; captures = captures; token = NoToken }

abbrev pub called : Text → Callee
called f = called_in [] f false

abbrev pub contains : Callee
contains = called (codes "contains")

-- `-` and `+` over the literal of a number are that number's
abbrev pub is_number : Expr → Bool
is_number (IntegerConstant n) = true
is_number (FloatConstant x) = true
is_number e = false

abbrev pub joins : Token → Expr → Bool
joins token.Bang e = false
joins t e = is_number e

abbrev pub least : ℤ
least = neg_ℤ (pos 9223372036854775808)

-- the bits of a float with the other sign
abbrev pub other_sign : ℕ → ℕ
other_sign x = if nat_lt x 9223372036854775808 then x + 9223372036854775808 else x - 9223372036854775808

-- the literals of a number and of that with the other sign; the least integer becomes a float
pub data Opposite : Expr → Expr → Type 0 where
  of_integer : (n : ℤ) → Opposite (IntegerConstant n) (IntegerConstant (neg_ℤ n))
  of_least : Opposite (IntegerConstant least) (FloatConstant 0x43E0000000000000)
  of_float : (x : ℕ) → Opposite (FloatConstant (other_sign x)) (FloatConstant x)

-- ranges, of which each end may be left out
abbrev pub is_range : Token → Bool
is_range token.ExclusiveRange = true
is_range token.InclusiveRange = true
is_range t = false

-- the signs before which the last one may be
abbrev pub closing : List Text
closing = codes ")" ∷ codes "]" ∷ codes "}" ∷ codes "," ∷ codes ";" ∷ codes "=>" ∷ codes "{" ∷ []

pub data Closes : Text → Type 0 where
  at_end : {ws : Text} → Blanks ws [] → Closes ws
  before : {ws rest : Text} (s : Text) → is_among s closing ≡ true → Next ws (Sign s) rest → Closes ws

-- lists of operands: `&&`, `||`, `??`
pub data Run : Type 0 where
  Conjunction : Run
  Disjunction : Run
  Coalescing : Run

abbrev pub run_sign : Run → Text
run_sign Conjunction = codes "&&"
run_sign Disjunction = codes "||"
run_sign Coalescing = codes "??"

abbrev pub run_level : Run → ℕ
run_level Conjunction = 60
run_level Disjunction = 30
run_level Coalescing = 135

abbrev pub run_of : Run → Exprs → Expr
run_of Conjunction es = And es
run_of Disjunction es = Or es
run_of Coalescing es = Coalesce es

abbrev pub has_any : Exprs → Bool
has_any no_exprs = false
has_any (expr e es) = true

-- the level of the first operand: a list of the same kind stands in parentheses there
abbrev pub first_level : Run → Expr → ℕ
first_level Conjunction (And es) = 61
first_level Disjunction (Or es) = 31
first_level Coalescing (Coalesce es) = 136
first_level k e = run_level k

-- how a step of a chain begins: `.` or `?.`, `[` or `?[`
pub data Link : Type 0 where
  Dotted : Bool → Link
  Indexed : Bool → Link

abbrev pub link_sign : Link → Text
link_sign (Dotted false) = codes "."
link_sign (Dotted true) = codes "?."
link_sign (Indexed false) = codes "["
link_sign (Indexed true) = codes "?["

-- the flags of its node
abbrev pub link_flags : Bool → Bool → ChainFlags
link_flags negated breaks = record { negated = negated; breaks = breaks; exported = false }

-- the node of a base or a step with what follows it; an index that ends its chain says so
abbrev pub linked : Link → Bool → Expr → Expr → Expr
linked (Dotted negated) last a b = Dot (link_flags negated false) a b
linked (Indexed negated) last a b = Index (link_flags negated last) a b

-- a property with the functions that read and write it
abbrev pub property : Text → Expr
property x = Property (record { getter = codes "get$" ++ x; setter = codes "set$" ++ x; name = x })

-- names that are called, of functions and of methods
abbrev pub is_function : Text → Bool
is_function f = is_name f || is_among f own_functions

abbrev pub is_method : Text → Bool
is_method f = is_name f || is_among f own_methods

-- ---- names

-- the name of a property in a map: a name or a text
pub data ReadsKey : Text → Text → Text → Type 0 where
  plain_key : {ws rest : Text} (x : Text) → is_name x ≡ true → Next ws (Letters x) rest → ReadsKey ws x rest
  text_key : {ws rest : Text} (x : Text) → Next ws (Quoted x) rest → ReadsKey ws x rest

-- a name behind the modules that it is in
pub data ReadsPath : Text → List Text → Text → Text → Type 0 where
  alone : {ws rest : Text} (x : Text) → is_name x ≡ true → Next ws (Letters x) rest → ReadsPath ws [] x rest
  inside : {ws mid behind rest x : Text} {ns : List Text} (m : Text) → is_name m ≡ true → Next ws (Letters m) mid → Next mid (Sign (codes "::")) behind → ReadsPath behind ns x rest → ReadsPath ws (m ∷ ns) x rest

-- the name of what is called
pub data ReadsCallee : Text → Callee → Text → Type 0 where
  path : {ws rest x : Text} {ns : List Text} → ReadsPath ws ns x rest → ReadsCallee ws (called_in ns x false) rest
  own : {ws rest : Text} (f : Text) → is_function f ≡ true → Next ws (Letters f) rest → ReadsCallee ws (called f) rest
  captures : {ws mid rest : Text} (f : Text) → is_function f ≡ true → Next ws (Letters f) mid → Next mid (Sign (codes "!")) rest → ReadsCallee ws (called_in [] f true) rest

-- ---- the grammar

mutual
  pub data Reads : ℕ → Text → Expr → Text → Type 0 where
    integer : {l : ℕ} {ws rest : Text} (n : ℤ) → Next ws (Number n) rest → Reads l ws (IntegerConstant n) rest
    float : {l : ℕ} {ws rest : Text} (x : ℕ) → Next ws (Decimal x) rest → Reads l ws (FloatConstant x) rest
    text : {l : ℕ} {ws rest : Text} (t : Text) → Next ws (Quoted t) rest → Reads l ws (StringConstant t) rest
    holds : {l : ℕ} {ws rest : Text} → Next ws (Letters (codes "true")) rest → Reads l ws (BoolConstant true) rest
    fails : {l : ℕ} {ws rest : Text} → Next ws (Letters (codes "false")) rest → Reads l ws (BoolConstant false) rest
    unit : {l : ℕ} {ws rest : Text} → Next ws (Sign (codes "()")) rest → Reads l ws UnitConstant rest
    wide_unit : {l : ℕ} {ws mid rest : Text} → Next ws (Sign (codes "(")) mid → Next mid (Sign (codes ")")) rest → Reads l ws UnitConstant rest
    this : {l : ℕ} {ws rest : Text} → Next ws (Letters (codes "this")) rest → Reads l ws ThisPtr rest
    variable : {l : ℕ} {ws rest x : Text} {ns : List Text} → ReadsPath ws ns x rest → Reads l ws (Variable ns x) rest
    array : {l : ℕ} {ws mid rest : Text} {es : Exprs} → Next ws (Sign (codes "[")) mid → ReadsItems (codes "]") false mid es rest → Reads l ws (ArrayOf es) rest
    -- which keys its template has the tree's shape says (`is_map` of theory_meaning)
    map : {l : ℕ} {ws mid rest : Text} {ps : Pairs} (keys : List Text) → Next ws (Sign (codes "#{")) mid → ReadsPairs false mid ps rest → Reads l ws (MapOf ps keys) rest
    call : {l : ℕ} {ws mid rest : Text} {c : Callee} {es : Exprs} → ReadsCallee ws c mid → ReadsArgs mid es rest → Reads l ws (FnCall c es) rest
    parens : {l : ℕ} {ws mid behind rest : Text} {e : Expr} → Next ws (Sign (codes "(")) mid → Reads zero mid e behind → Next behind (Sign (codes ")")) rest → Reads l ws e rest
    chained : {l : ℕ} {ws mid rest : Text} {a e : Expr} → l ≤ of_signs → Reads of_bases ws a mid → ReadsChain mid a e rest → Reads l ws e rest
    signed : {l : ℕ} {ws mid rest : Text} {e : Expr} (t s : Token) → l ≤ of_signs → sign_of t ≡ Some s → joins t e ≡ false → Next ws (Sign (token_text s)) mid → Reads of_signs mid e rest → Reads l ws (FnCall (marked t) (expr e no_exprs)) rest
    negated : {l : ℕ} {ws mid rest : Text} {a e : Expr} → l ≤ of_signs → Next ws (Sign (codes "-")) mid → Reads of_signs mid a rest → Opposite a e → Reads l ws e rest
    affirmed : {l : ℕ} {ws mid rest : Text} {e : Expr} → l ≤ of_signs → is_number e ≡ true → Next ws (Sign (codes "+")) mid → Reads of_signs mid e rest → Reads l ws e rest
    least_integer : {l : ℕ} {ws mid rest : Text} → l ≤ of_signs → Next ws (Sign (codes "-")) mid → Next mid PastGreatest rest → Reads l ws (IntegerConstant least) rest
    between : {l : ℕ} {ws mid behind rest : Text} {a b : Expr} (t : Token) → l ≤ precedence t → zero < precedence t → Reads (least_left t) ws a mid → Next mid (Sign (token_text t)) behind → ReadsRight t behind b rest → Reads l ws (FnCall (marked t) (expr a (expr b no_exprs))) rest
    no_start : {l : ℕ} {ws behind rest : Text} {b : Expr} (t : Token) → l ≤ precedence t → is_range t ≡ true → Next ws (Sign (token_text t)) behind → ReadsRight t behind b rest → Reads l ws (FnCall (marked t) (expr UnitConstant (expr b no_exprs))) rest
    contained : {l : ℕ} {ws mid behind rest : Text} {a b : Expr} → l ≤ of_in → Reads of_in ws a mid → Next mid (Letters (codes "in")) behind → Reads (of_in + 1) behind b rest → Reads l ws (FnCall contains (expr b (expr a no_exprs))) rest
    not_contained : {l : ℕ} {ws mid behind rest : Text} {a b : Expr} → l ≤ of_in → Reads of_in ws a mid → Next mid (Letters (codes "!in")) behind → Reads (of_in + 1) behind b rest → Reads l ws (FnCall (marked token.Bang) (expr (FnCall contains (expr b (expr a no_exprs))) no_exprs)) rest
    run : {l : ℕ} {ws mid rest : Text} {a : Expr} {es : Exprs} (k : Run) → l ≤ run_level k → has_any es ≡ true → Reads (first_level k a) ws a mid → ReadsMore k mid es rest → Reads l ws (run_of k (expr a es)) rest

  -- what stands behind an operator
  pub data ReadsRight : Token → Text → Expr → Text → Type 0 where
    right : {t : Token} {ws rest : Text} {e : Expr} → Reads (least_right t) ws e rest → ReadsRight t ws e rest
    no_end : {t : Token} {rest : Text} → is_range t ≡ true → Closes rest → ReadsRight t rest UnitConstant rest

  -- the further operands of a list
  pub data ReadsMore : Run → Text → Exprs → Text → Type 0 where
    no_more : {k : Run} {rest : Text} → ReadsMore k rest no_exprs rest
    more : {k : Run} {ws mid behind rest : Text} {e : Expr} {es : Exprs} → Next ws (Sign (run_sign k)) mid → Reads (run_level k + 1) mid e behind → ReadsMore k behind es rest → ReadsMore k ws (expr e es) rest

  -- the items of a list up to the sign that ends it; whether one stands before, without its comma
  pub data ReadsItems : Text → Bool → Text → Exprs → Text → Type 0 where
    ended : {m : Text} {b : Bool} {ws rest : Text} → Next ws (Sign m) rest → ReadsItems m b ws no_exprs rest
    comma : {m : Text} {ws mid rest : Text} {es : Exprs} → Next ws (Sign (codes ",")) mid → ReadsItems m false mid es rest → ReadsItems m true ws es rest
    item : {m : Text} {ws mid rest : Text} {e : Expr} {es : Exprs} → Reads zero ws e mid → ReadsItems m true mid es rest → ReadsItems m false ws (expr e es) rest

  -- the pairs of a map, likewise
  pub data ReadsPairs : Bool → Text → Pairs → Text → Type 0 where
    no_pair : {b : Bool} {ws rest : Text} → Next ws (Sign (codes "}")) rest → ReadsPairs b ws no_pairs rest
    next_pair : {ws mid rest : Text} {ps : Pairs} → Next ws (Sign (codes ",")) mid → ReadsPairs false mid ps rest → ReadsPairs true ws ps rest
    a_pair : {ws mid behind last rest : Text} {e : Expr} {ps : Pairs} (x : Text) → ReadsKey ws x mid → Next mid (Sign (codes ":")) behind → Reads zero behind e last → ReadsPairs true last ps rest → ReadsPairs false ws (pair x e ps) rest

  -- arguments in their parentheses
  pub data ReadsArgs : Text → Exprs → Text → Type 0 where
    no_args : {ws rest : Text} → Next ws (Sign (codes "()")) rest → ReadsArgs ws no_exprs rest
    args : {ws mid rest : Text} {es : Exprs} → Next ws (Sign (codes "(")) mid → ReadsItems (codes ")") false mid es rest → ReadsArgs ws es rest

  -- the steps of a chain behind a base, and the node of them all
  pub data ReadsChain : Text → Expr → Expr → Text → Type 0 where
    last : {ws rest : Text} {a b : Expr} (k : Link) → ReadsStep k ws b rest → ReadsChain ws a (linked k true a b) rest
    step : {ws mid rest : Text} {a b e : Expr} (k : Link) → ReadsStep k ws b mid → ReadsChain mid b e rest → ReadsChain ws a (linked k false a e) rest

  -- one step: a member behind a dot, or an index
  pub data ReadsStep : Link → Text → Expr → Text → Type 0 where
    dotted : {ws mid rest : Text} {e : Expr} (n : Bool) → Next ws (Sign (link_sign (Dotted n))) mid → ReadsMember mid e rest → ReadsStep (Dotted n) ws e rest
    indexed : {ws mid behind rest : Text} {e : Expr} (n : Bool) → Next ws (Sign (link_sign (Indexed n))) mid → Reads zero mid e behind → Next behind (Sign (codes "]")) rest → ReadsStep (Indexed n) ws e rest

  pub data ReadsMember : Text → Expr → Text → Type 0 where
    named : {ws rest : Text} (x : Text) → is_name x ≡ true → Next ws (Letters x) rest → ReadsMember ws (property x) rest
    method : {ws mid rest : Text} {es : Exprs} (f : Text) → is_method f ≡ true → Next ws (Letters f) mid → ReadsArgs mid es rest → ReadsMember ws (MethodCall (called f) es) rest

-- what stands before the words of a script: a byte order mark, a first line `#!`, both or neither
pub data Opens : Text → Text → Type 0 where
  at_once : {ws : Text} → Opens ws ws
  behind_mark : {ws : Text} → Opens (239 ∷ 187 ∷ 191 ∷ ws) ws
  behind_first : {ws mid : Text} → Opens ws (codes "#!" ++ mid) → Opens ws (behind_line mid)

-- the whole text spells an expression
pub record Spells (ws : Text) (e : Expr) : Type 0 where
  pub start : Text
  pub opens : Opens ws start
  pub rest : Text
  pub reads : Reads zero start e rest
  pub ends : Blanks rest []
