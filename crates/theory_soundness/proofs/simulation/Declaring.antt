-- The script's own list, which declares constants for functions to see: where none is declared against what is known of
-- them, it does in a new environment what it does.
use Rattle.std.proofs.Common.{◌≡◌, ℕ, ◌≤◌, Bool, true, false, cond, if◌then◌else◌, ◌&&◌, List, [], ◌∷◌, ◌++◌, Option, Some, None, refl, sym, subst, ap, ◌∙◌, arith}
use Rattle.rhai_base.specs.Value.{Text, Value, same_text}
use Rattle.theory_meaning.specs.Engine.{Binding, or_else, constant_named}
use Rattle.theory_meaning.specs.Act.{EntryKind, ScopeEntry, Store, Ending, Gives, Ended, Outcome, Result, Act, Acts, Only, Do, Named, Finish, is_published, published, declared, run_all}
use Rattle.theory_meaning.specs.ActForms.{give}
use Rattle.theory_meaning.proofs.Relations.{Follows, AnyHalt}
use Rattle.theory_meaning.proofs.Preserves.{preserves_all}
use Rattle.theory_meaning.proofs.Monotone.{follow_then, follow_returned, monotone_all, follows_trans}
use Rattle.theory_meaning.proofs.Ends.{met_move, met_then, met_returned}
use Rattle.theory_rewriting.specs.Context.{Context}
use Rattle.theory_rewriting.proofs.rules.Equality.{text_is}
use Rattle.theory_rewriting.specs.Known.{Known, look, look_global, Fits, Agrees, Suits, Holds}
use Rattle.theory_soundness.proofs.simulation.Setting.{Setting, world, environment, Agreed, run_by_depth, run_all_by_depth}
use Rattle.theory_soundness.proofs.simulation.Matching.{Matches, Stage, CallsMatch, ends_as, ends_known, stays_known, at_refl}

-- no constant is declared with another value than the known one
pub data Fair (ks : List Known) : Acts → Type 0 where
  only : (a : Act) → Fair ks (Only a)
  does : (a : Act) (next : Ending → Acts) → ((e : Ending) → Fair ks (next e)) → Fair ks (Do a next)
  given : (v : Value) (next : Ending → Acts) → Fair ks (next (Gives v)) → Fair ks (Do (give v) next)
  names : (x : Text) (b : EntryKind) (v : Value) (p : Acts) → ((w : Value) → is_published b ≡ true → look_global ks x ≡ Some w → v ≡ w) → Fair ks p → Fair ks (Named x b v p)
  finish : (p : Acts) → Fair ks p → Fair ks (Finish p)

-- the last of a name
named_last : (bs : List Binding) (x y : Text) (v : Value) → constant_named (bs ++ record { name = x; value = v } ∷ []) y ≡ or_else (if same_text x y then Some v else None) (constant_named bs y)
named_last [] x y v = by (same_text x y) where
  by : (b : Bool) → (if b then Some v else None) ≡ or_else (if b then Some v else None) None
  by true = refl
  by false = refl
named_last (b ∷ bs) x y v = ap (λ o. or_else o (if same_text b.name y then Some b.value else None)) (named_last bs x y v) ∙ by (same_text x y) where
  by : (c : Bool) → or_else (or_else (if c then Some v else None) (constant_named bs y)) (if same_text b.name y then Some b.value else None) ≡ or_else (if c then Some v else None) (or_else (constant_named bs y) (if same_text b.name y then Some b.value else None))
  by true = refl
  by false = refl

-- behind a declaration
holds_declared : (ks : List Known) (c : Bool) (x : Text) (v : Value) (bs : List Binding) → ((w : Value) → c ≡ true → look_global ks x ≡ Some w → v ≡ w) → Holds ks bs → Holds ks (published c x v bs)
holds_declared ks false x v bs f h = h
holds_declared ks true x v bs f h = record {
  is = λ y w q. subst (Suits w) (sym (named_last bs x y v)) (by y w q (same_text x y) refl);
} where
  by : (y : Text) (w : Value) → look_global ks y ≡ Some w → (b : Bool) → same_text x y ≡ b → Suits w (or_else (if b then Some v else None) (constant_named bs y))
  by y w q true e = f w refl (ap (look_global ks) (text_is x y e) ∙ q)
  by y w q false e = h.is y w q

second_of : (a b : Bool) → a && b ≡ true → b ≡ true
second_of true b h = h
second_of false b h = absurd (let z : false ≡ true = h in cc)

module _ {k : Context} (c : Setting k) (g : Stage) (m : CallsMatch c g) (bare : (x : Text) → look k.known x ≡ None) where
  agrees_bare : (es : List ScopeEntry) → Agrees k.engine.constants k.known es
  agrees_bare es = record { is = λ x v h. absurd (let z : None ≡ Some v = sym (bare x) ∙ h in cc) }

  pub fair_matches : {p : Acts} → Fair k.known p → (s : Store) (t : ℕ) → Agreed k s → Matches (run_all_by_depth c p) g.depth s t (run_all (world c) g.env p s t)
  fair_matches (only a) s t ag =
      let z = (at_refl a c g m).matches s t ag in
      record { forward = z.forward; backward = met_move (run_by_depth c a) (run_all_by_depth c (Only a)) s s _ (λ o s' x. ends_as (λ d t1. refl) x) z.backward }
  fair_matches (does a next h) s t ag =
      let z = (at_refl a c g m).matches s t ag in
      record {
        forward = follow_then AnyHalt tt 0 (Agreed k) z.forward (stays_known c a g.depth s t ag) _ _
            (λ e s1 t1 t1' q le. follows_trans (fair_matches (h e) s1 t1 q).forward (monotone_all AnyHalt tt 0 (world c) g.env g.env g.steady (next e) s1 t1 t1' le))
            (λ e s1 t1. (preserves_all (world c) g.env g.steady.adds (next e) s1 t1).calls);
        backward = met_then (run_by_depth c a) (λ e. run_all_by_depth c (next e)) _ s _ z.backward
            (λ e s1 t1 x. (fair_matches (h e) s1 t1 (ends_known c a s (Ended e) s1 ag x)).backward);
      }
  fair_matches (given v next h) s t ag =
      let z = fair_matches h s t ag in
      record { forward = z.forward; backward = met_move (run_all_by_depth c (next (Gives v))) (run_all_by_depth c (Do (give v) next)) s s _ (λ o s' x. ends_as (λ d t1. refl) x) z.backward }
  fair_matches (names x b v p f h) s t ag =
      let s1 = declared x b v s in
      let held = holds_declared k.known (s.is_own && is_published b) x v s.globals (λ w q. f w (second_of s.is_own (is_published b) q)) ag.1 in
      let z = fair_matches h s1 t (agrees_bare s1.scope, held) in
      record { forward = z.forward; backward = met_move (run_all_by_depth c p) (run_all_by_depth c (Named x b v p)) s1 s _ (λ o s' y. ends_as (λ d t1. refl) y) z.backward }
  fair_matches (finish p h) s t ag =
      let z = fair_matches h s t ag in
      record { forward = follow_returned AnyHalt tt 0 z.forward; backward = met_returned (run_all_by_depth c p) s _ z.backward }
