-- Operators by their tokens.
use Rattle.std.proofs.Common.{◌≡◌, suc, Bool, true, false, ◌||◌, List, [], ◌∷◌, ◌++◌, drop, length, map, take, Option, Some, None, is_some, if◌then◌else◌, refl, ap, ◌∙◌, rules}
use Rattle.base_tokens.specs.declared.token.Token.{Token}
use Rattle.base_tokens.specs.Symbols.{token_text}
use Rattle.base_tokens.specs.Tokens as tokens
use Rattle.base_tokens.specs.Names.{is_among, symbols}
use Rattle.ast_types.specs.declared.expr.Expr.{Expr}
use Rattle.rhai_base.specs.Value.{Text, same_text}
use Rattle.theory_meaning.specs.Tree.{count_exprs}
use Rattle.ast_types.specs.Reading.{exprs_of}
use Rattle.ast_nodes.specs.Operators.{token_arity}
use Rattle.rhai_ast.proofs.KeyLists.{is_among-same}

pub count_exprs_of : (xs : List Expr) → count_exprs (exprs_of xs) ≡ length xs
count_exprs_of [] = refl
count_exprs_of (x ∷ xs) = ap suc (count_exprs_of xs)

-- ---- the symbols of the operators, which come first among all tokens

abbrev pub is_operator : Option Token → Bool
is_operator None = false
is_operator (Some t) = is_some (token_arity t)

abbrev Are : Bool → List Token → Type 0
Are b [] = Unit {0}
Are b (t ∷ ts) = (is_some (token_arity t) ≡ b) × Are b ts

none_follow : (text : Text) (us : List Token) → Are false us → is_operator (tokens.first_written text us) ≡ false
none_follow text [] h = refl
none_follow text (u ∷ us) h = by (same_text (token_text u) text) (none_follow text us h.1) where
  by : (b : Bool) → is_operator (tokens.first_written text us) ≡ false → is_operator (if b then Some u else tokens.first_written text us) ≡ false
  by true k = h.0
  by false k = k

operators_first : (text : Text) (ts us : List Token) → Are true ts → Are false us → is_operator (tokens.first_written text (ts ++ us)) ≡ is_among text (map token_text ts)
operators_first text [] us h k = none_follow text us k
operators_first text (t ∷ ts) us h k = by (same_text (token_text t) text) ∙ ap (λ b. same_text (token_text t) text || b) (operators_first text ts us h.1 k) where
  by : (b : Bool) → is_operator (if b then Some t else tokens.first_written text (ts ++ us)) ≡ (b || is_operator (tokens.first_written text (ts ++ us)))
  by true = h.0
  by false = refl

-- a text is a symbol where its token is an operator's
pub is_symbol-of : (text : Text) → is_operator (tokens.token_named text) ≡ is_among text symbols
is_symbol-of text =
    let ts = take 20 tokens.symbols in
    let us = drop 20 tokens.symbols in
    operators_first text ts us (search rules) (search rules) ∙ is_among-same text (map token_text ts) symbols refl
