-- Declarations that were sought and have no literal values, and the next one that has.
use Rattle.std.proofs.Common.{◌≡◌, Bool, true, false, if◌then◌else◌, List, [], ◌∷◌, ◌++◌, Option, Some, None, Result, Ok, Err, IsErr, ◌<◌, length, refl, sym, ap, ◌∙◌, append_assoc, arith}
use Rattle.std.proofs.lemmas.List.{append-nil, length-append}
use Rattle.ast_types.specs.declared.stmt.Stmt.{Stmt}
use Rattle.ast_types.proofs.Cases.{StmtCase, var_case}
use Rattle.ast_types.specs.Reading.{stmt_of, stmts_of}
use Rattle.rhai_base.specs.Reading.{value_of}
use Rattle.rhai_base.specs.Value.{Text, Value}
use Rattle.theory_meaning.specs.Constants.{literal_value}
use Rattle.theory_meaning.specs.Tree.{Expr, Var}
use Rattle.theory_meaning.specs.Tree as tree
use Rattle.script_queries.specs.Literals.{Comes, Item, Sought, found, literals_of, Tries, sought_as, sought_at, sought_in}
use Rattle.ast_types.proofs.OtherKinds.{NoVar}

found-append : (x : Text) (constant : Bool) (v : Option Value) (ss ts : List Sought) → found x constant v ++ literals_of ss ++ literals_of ts ≡ found x constant v ++ (literals_of ss ++ literals_of ts)
found-append x constant v ss ts = append_assoc (found x constant v) (literals_of ss) (literals_of ts)

literals-append : (ss ts : List Sought) → literals_of (ss ++ ts) ≡ literals_of ss ++ literals_of ts
literals-append [] ts = refl
literals-append (s ∷ ss) ts =
    let here = found s.name s.constant s.value in
    ap (λ ls. here ++ ls) (literals-append ss ts) ∙ sym (found-append s.name s.constant s.value ss ts)

-- a declaration: one that is not wanted, and of a wanted one what was found
module _ (constants variables constant exported : Bool) (x : Text) (e : Expr) (w : Bool) (wants : w ≡ (if constant then constants else variables)) where
  abbrev sought : Option Value → Bool → List Sought
  sought v b = if b then (record { name = x; constant = constant; value = v }) ∷ [] else []

  at : (b : Bool) → w ≡ b → sought_at constants variables (Var constant exported x e) ≡ sought (literal_value e) b
  at b h = ap (sought (literal_value e)) (sym wants ∙ h)

  pub unwanted : w ≡ false → literals_of (sought_at constants variables (Var constant exported x e)) ≡ []
  unwanted h = ap literals_of (at false h)

  pub wanted_refused : w ≡ true → (s : Sought) × (sought_at constants variables (Var constant exported x e) ≡ s ∷ [])
  wanted_refused h = (record { name = x; constant = constant; value = literal_value e }, at true h)

  pub wanted_none : w ≡ true → None ≡ literal_value e → literals_of (sought_at constants variables (Var constant exported x e)) ≡ []
  wanted_none h v = ap literals_of (at true h ∙ ap (λ (o : Option Value). sought o true) (sym v))

  pub wanted_found : (i : Item) → w ≡ true → Some (value_of i.2) ≡ literal_value e → i.0.now ≡ x → i.1 ≡ constant → sought_at constants variables (Var constant exported x e) ≡ sought_as i ∷ []
  wanted_found i h v n k =
      let s : Text → Bool → List Sought = λ t b. (record { name = t; constant = b; value = Some (value_of i.2) }) ∷ [] in
      at true h ∙ ap (λ (o : Option Value). sought o true) (sym v) ∙ ap (λ (t : Text). s t constant) (sym n) ∙ ap (λ (b : Bool). s i.0.now b) (sym k)

-- no other statement declares
pub none_sought : {x : Stmt} {s : tree.Stmt} (constants variables : Bool) → StmtCase x s
    → NoVar x
    → literals_of (sought_at constants variables s) ≡ []
none_sought constants variables (var_case v k p) n = absurd (n v k p refl)
none_sought constants variables _ n = refl

pub tries_refused : {E : Type 0} (r : Result (Option Item) E) (here : List Sought) → IsErr r → ((s : Sought) × (here ≡ s ∷ [])) → Tries r here
tries_refused (Ok o) here e h = absurd (let z : false ≡ true = e in cc)
tries_refused (Err x) here e h = h

-- what stands before the rest has no literal values
pub record Passed (all rest : List Sought) : Type 0 where
  pub before : List Sought
  pub are : all ≡ before ++ rest
  pub none : literals_of before ≡ []

pub passed-start : (all : List Sought) → Passed all all
passed-start all = record { before = []; are = refl; none = refl }

pub passed-end : (all rest : List Sought) → Passed all rest → rest ≡ [] → literals_of all ≡ []
passed-end all rest p e = ap literals_of (p.are ∙ ap (λ ss. p.before ++ ss) e ∙ append-nil p.before) ∙ p.none

-- the first statement of those that are left
pub split : (constants variables : Bool) (ss : List Stmt) (s : Stmt) (rest : List Stmt) → ss ≡ s ∷ rest → sought_in constants variables (stmts_of ss) ≡ sought_at constants variables (stmt_of s) ++ sought_in constants variables (stmts_of rest)
split constants variables ss s rest e = ap (λ (xs : List Stmt). sought_in constants variables (stmts_of xs)) e

module _ (all now here rest : List Sought) (p : Passed all now) (are : now ≡ here ++ rest) where
  pub passed-next : literals_of here ≡ [] → Passed all rest
  passed-next e = record {
    before = p.before ++ here;
    are = p.are ∙ ap (λ ss. p.before ++ ss) are ∙ sym (append_assoc p.before here rest);
    none = literals-append p.before here ∙ ap (λ ls. ls ++ literals_of here) p.none ∙ e;
  }

  pub passed-found : (x : Item) → here ≡ sought_as x ∷ [] → Comes all (sought_as x) rest
  passed-found x e = (p.before, p.are ∙ ap (λ ss. p.before ++ ss) (are ∙ ap (λ ss. ss ++ rest) e), p.none)

  pub passed-refused : ((s : Sought) × (here ≡ s ∷ [])) → (s : Sought) × Comes all s rest
  passed-refused e = (e.0, (p.before, p.are ∙ ap (λ ss. p.before ++ ss) (are ∙ ap (λ ss. ss ++ rest) e.1), p.none))

pub fewer : (all rest : List Sought) (s : Sought) → Comes all s rest → length rest < length all
fewer all rest s c = omega (arith, ap length c.1, length-append c.0 (s ∷ rest))
