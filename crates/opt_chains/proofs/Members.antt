-- Members of map literals by their keys, and parts of literals at their places.
use Rattle.std.proofs.Common.{◌≡◌, ℕ, zero, suc, ◌<◌, ◌≤◌, true, false, cond, List, [], ◌∷◌, ◌++◌, length, get_or, Option, Some, None, Bor, refl, sym, ap, ◌∙◌, append_assoc, arith}
use Rattle.std.specs.Prelude.{ℤ}
use Rattle.std.proofs.lemmas.List.{append-nil}
use Rattle.base_tokens.specs.declared.ident.Ident.{Ident}
use Rattle.rhai_base.specs.Value.{Text, same_text}
use Rattle.theory_meaning.specs.Elements.{at_index, index_in}
use Rattle.theory_meaning.specs.Engine.{or_else}
use Rattle.std.specs.Slice.{IsItemAt}
use Rattle.theory_meaning.specs.Tree.{Expr, UnitConstant, count_exprs}
use Rattle.ast_types.specs.Reading.{expr_of, exprs_of, pairs_of}
use Rattle.theory_rewriting.specs.Indexing.{expr_at, pair_for, or_unit}
use Rattle.ast_types.specs.declared.expr.Expr as declared_expr
use Rattle.opt_chains.specs.Literals.{member_at, found_item, found_member}
use Rattle.opt_chains.specs.declared.parts.literals.Found.TheVariants.{At, Missing}

-- ---- the last member of a key

or_else_assoc : {A : Type 0} (o p q : Option A) → or_else (or_else o p) q ≡ or_else o (or_else p q)
or_else_assoc (Some a) p q = refl
or_else_assoc None p q = refl

none_else : {A : Type 0} (o : Option A) → o ≡ or_else o None
none_else (Some a) = refl
none_else None = refl

abbrev pub Member : Type 0
Member = Ident × declared_expr.Expr

abbrev own : Member → Text → Option Expr
own m k = cond (same_text m.0.name k) (Some (expr_of m.1)) None

last_member : (ms : List Member) (m : Member) (k : Text) → pair_for (pairs_of (ms ++ m ∷ [])) k ≡ or_else (own m k) (pair_for (pairs_of ms) k)
last_member [] m k = none_else (own m k)
last_member (a ∷ ms) m k = ap (λ o. or_else o (own a k)) (last_member ms m k) ∙ or_else_assoc (own m k) (pair_for (pairs_of ms) k) (own a k)

pub found_last : (ns ms : List Member) (m : Member) (k : Text) → ns ≡ ms ++ m ∷ [] → same_text m.0.name k ≡ true → pair_for (pairs_of ns) k ≡ Some (expr_of m.1)
found_last ns ms m k e h = ap (λ l. pair_for (pairs_of l) k) e ∙ last_member ms m k ∙ ap (λ b. or_else (cond b (Some (expr_of m.1)) None) (pair_for (pairs_of ms) k)) h

pub found_earlier : (ns ms : List Member) (m : Member) (k : Text) → ns ≡ ms ++ m ∷ [] → same_text m.0.name k ≡ false → pair_for (pairs_of ns) k ≡ pair_for (pairs_of ms) k
found_earlier ns ms m k e h = ap (λ l. pair_for (pairs_of l) k) e ∙ last_member ms m k ∙ ap (λ b. or_else (cond b (Some (expr_of m.1)) None) (pair_for (pairs_of ms) k)) h

-- ---- the member behind others

pub member_behind : (ms : List Member) (m : Member) (ns : List Member) → member_at (pairs_of (ms ++ m ∷ ns)) (length ms) ≡ Some (expr_of m.1)
member_behind [] m ns = refl
member_behind (a ∷ ms) m ns = member_behind ms m ns

-- ---- elements by an index in range

count_is : (xs : List declared_expr.Expr) → count_exprs (exprs_of xs) ≡ length xs
count_is [] = refl
count_is (x ∷ xs) = ap suc (count_is xs)

within : (xs : List declared_expr.Expr) (j : ℕ) → j < length xs → Some (or_unit (expr_at (exprs_of xs) j)) ≡ expr_at (exprs_of xs) j
within [] j h = absurd (omega arith)
within (x ∷ xs) zero h = refl
within (x ∷ xs) (suc j) h = within xs j (omega arith)

pub element_found : (xs : List declared_expr.Expr) (n : ℤ) (j : ℕ) → Some j ≡ index_in (length xs) n → j < length xs → Some (found_item (exprs_of xs) (At j)) ≡ at_index (index_in (count_exprs (exprs_of xs)) n) (expr_at (exprs_of xs))
element_found xs n j h l = within xs j l ∙ ap (λ o. at_index o (expr_at (exprs_of xs))) (h ∙ ap (λ m. index_in m n) (sym (count_is xs)))

pub element_missing : (xs : List declared_expr.Expr) (n : ℤ) → None ≡ index_in (length xs) n → None ≡ at_index (index_in (count_exprs (exprs_of xs)) n) (expr_at (exprs_of xs))
element_missing xs n h = ap (λ o. at_index o (expr_at (exprs_of xs))) (h ∙ ap (λ m. index_in m n) (sym (count_is xs)))

-- ---- what is at a place

past : (xs : List declared_expr.Expr) (j : ℕ) → length xs ≤ j → expr_at (exprs_of xs) j ≡ None
past [] j h = refl
past (x ∷ xs) zero h = absurd (omega arith)
past (x ∷ xs) (suc j) h = past xs j (omega arith)

item_is : (xs : List declared_expr.Expr) (j : ℕ) (d : declared_expr.Expr) → j < length xs → expr_at (exprs_of xs) j ≡ Some (expr_of (get_or xs j d))
item_is [] j d h = absurd (omega arith)
item_is (x ∷ xs) zero d h = refl
item_is (x ∷ xs) (suc j) d h = item_is xs j d (omega arith)

pub item_taken : (xs : List declared_expr.Expr) (j : ℕ) (x : declared_expr.Expr) → (j < length xs) × (x ≡ get_or xs j x) → expr_of x ≡ or_unit (expr_at (exprs_of xs) j)
item_taken xs j x h = ap expr_of h.1 ∙ sym (ap or_unit (item_is xs j x h.0))

pub none_taken : (xs : List declared_expr.Expr) (j : ℕ) → length xs ≤ j → UnitConstant ≡ or_unit (expr_at (exprs_of xs) j)
none_taken xs j h = sym (ap or_unit (past xs j h))

pub item_seen : (xs : List declared_expr.Expr) (j : ℕ) (r : Option (Bor declared_expr.Expr)) (x : Bor declared_expr.Expr) → IsItemAt xs j r → r ≡ Some x → expr_of x.now ≡ or_unit (expr_at (exprs_of xs) j)
item_seen xs j None x h q = absurd (let z : None ≡ Some x = q in cc)
item_seen xs j (Some y) x h q = let z : y ≡ x = cc in ap (λ (w : Bor declared_expr.Expr). expr_of w.now) (sym z) ∙ item_taken xs j y.now (h.3.0, h.1)

pub none_seen : (xs : List declared_expr.Expr) (j : ℕ) (r : Option (Bor declared_expr.Expr)) → IsItemAt xs j r → r ≡ None → UnitConstant ≡ or_unit (expr_at (exprs_of xs) j)
none_seen xs j None h q = none_taken xs j h.3
none_seen xs j (Some y) h q = absurd (let z : Some y ≡ None = q in cc)

past_members : (ms : List Member) (j : ℕ) → length ms ≤ j → member_at (pairs_of ms) j ≡ None
past_members [] j h = refl
past_members (m ∷ ms) zero h = absurd (omega arith)
past_members (m ∷ ms) (suc j) h = past_members ms j (omega arith)

member_is : (ms : List Member) (j : ℕ) (d : Member) → j < length ms → member_at (pairs_of ms) j ≡ Some (expr_of (get_or ms j d).1)
member_is [] j d h = absurd (omega arith)
member_is (m ∷ ms) zero d h = refl
member_is (m ∷ ms) (suc j) d h = member_is ms j d (omega arith)

pub member_taken : (ms : List Member) (j : ℕ) (m : Member) → (j < length ms) × (m ≡ get_or ms j m) → expr_of m.1 ≡ or_unit (member_at (pairs_of ms) j)
member_taken ms j m h = ap (λ (y : Member). expr_of y.1) h.1 ∙ sym (ap or_unit (member_is ms j m h.0))

pub no_member_taken : (ms : List Member) (j : ℕ) → length ms ≤ j → UnitConstant ≡ or_unit (member_at (pairs_of ms) j)
no_member_taken ms j h = sym (ap or_unit (past_members ms j h))

pub member_seen : (ms : List Member) (j : ℕ) (r : Option (Bor Member)) (m : Bor Member) → IsItemAt ms j r → r ≡ Some m → expr_of m.now.1 ≡ or_unit (member_at (pairs_of ms) j)
member_seen ms j None m h q = absurd (let z : None ≡ Some m = q in cc)
member_seen ms j (Some y) m h q = let z : y ≡ m = cc in ap (λ (w : Bor Member). expr_of w.now.1) (sym z) ∙ member_taken ms j y.now (h.3.0, h.1)

pub no_member_seen : (ms : List Member) (j : ℕ) (r : Option (Bor Member)) → IsItemAt ms j r → r ≡ None → UnitConstant ≡ or_unit (member_at (pairs_of ms) j)
no_member_seen ms j None h q = no_member_taken ms j h.3
no_member_seen ms j (Some y) h q = absurd (let z : Some y ≡ None = q in cc)

-- ---- members that are looked for from the last one on: none of the key stands behind those that are left
pub record FrontOf (ms left : List Member) (k : Text) : Type 0 where
  pub behind : List Member
  pub joined : ms ≡ left ++ behind
  pub same : pair_for (pairs_of left) k ≡ pair_for (pairs_of ms) k

pub all_left : (ms : List Member) (k : Text) → FrontOf ms ms k
all_left ms k = record { behind = []; joined = sym (append-nil ms); same = refl }

pub one_less : (ms left earlier : List Member) (m : Member) (k : Text) → FrontOf ms left k → left ≡ earlier ++ m ∷ [] → same_text m.0.name k ≡ false → FrontOf ms earlier k
one_less ms left earlier m k f e h = record {
  behind = m ∷ f.behind;
  joined = f.joined ∙ ap (λ l. l ++ f.behind) e ∙ append_assoc earlier (m ∷ []) f.behind;
  same = sym (found_earlier left earlier m k e h) ∙ f.same;
}

pub member_found : (ms left earlier : List Member) (m : Member) (k : Text) → FrontOf ms left k → left ≡ earlier ++ m ∷ [] → same_text m.0.name k ≡ true → found_member (pairs_of ms) (At (length earlier)) ≡ or_unit (pair_for (pairs_of ms) k)
member_found ms left earlier m k f e h =
    ap (λ l. or_unit (member_at (pairs_of l) (length earlier))) (f.joined ∙ ap (λ l. l ++ f.behind) e ∙ append_assoc earlier (m ∷ []) f.behind)
    ∙ ap or_unit (member_behind earlier m f.behind ∙ sym (found_last left earlier m k e h) ∙ f.same)

pub none_found : (ms left : List Member) (k : Text) → FrontOf ms left k → left ≡ [] → found_member (pairs_of ms) Missing ≡ or_unit (pair_for (pairs_of ms) k)
none_found ms left k f e = ap or_unit (ap (λ (l : List Member). pair_for (pairs_of l) k) (sym e) ∙ f.same)
