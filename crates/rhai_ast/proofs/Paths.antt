-- The paths to nodes one after another and to all below them: there is one list of them, child by child.
use Rattle.std.proofs.Common.{◌≡◌, ◌<◌, Bool, Result, Ok, ℕ, zero, suc, List, Option, None, Some, [], ◌∷◌, ◌++◌, map, refl, sym, ap, subst, ◌∙◌, append_assoc, arith}
use Rattle.std.proofs.lemmas.List.{append-nil, map-append}
use Rattle.std.specs.Borrow.{Bor}
use Rattle.std.specs.Fn.{Mut}
use Rattle.theory_meaning.specs.Paths as meaning
use Rattle.theory_meaning.specs.Paths.{listing}
use Rattle.theory_meaning.specs.Walk.{Spot}
use Rattle.rhai_ast.specs.Children.{AreBelow, at_spot, children, over_children, over_node, over_parts, size_of}
use Rattle.rhai_ast.specs.Standing.{Declared, Standing, below, declared_of, standing_child, standing_of, tree_of}
use Rattle.rhai_ast.specs.Walking.{Lists, Path, Walks, WalksOver, ended, next, nothing, through}
use Rattle.rhai_ast.specs.declared.walker.children.Children.{Children}
use Rattle.rhai_ast.specs.declared.walker.node.ASTNode.{ASTNode}
use Rattle.rhai_ast.specs.declared.walker.node.Child.{Child}
use Rattle.rhai_ast.specs.Left.{all_meant}
use Rattle.rhai_ast.proofs.BelowNodes.{below_meant}
use Rattle.rhai_ast.proofs.Folding.{Folds, over_parts-children}
use Rattle.rhai_ast.proofs.Sizes.{above, below-above, children_below, wider}
use Rattle.rhai_ast.proofs.Walking as walking

-- ---- there is no other list

record Starts (s : Standing) (rest : List Standing) (ps : List Path) : Type 0 where
  inner : List Path
  others : List Path
  first : Lists (below s.node) inner
  after : Lists rest others
  are : ps ≡ through s.node inner ++ others

starts : {s : Standing} {rest : List Standing} {ps : List Path} → Lists (s ∷ rest) ps → Starts s rest ps
starts (next {inner} {others} s rest a b) = record { inner = inner; others = others; first = a; after = b; are = refl }

ends : {ps : List Path} → Lists [] ps → [] ≡ ps
ends nothing = refl

pub lists_same : {ns : List Standing} {ps qs : List Path} → Lists ns ps → Lists ns qs → ps ≡ qs
lists_same nothing l = ends l
lists_same (next {inner} {others} s rest a b) l =
    let t = starts l in
    ap (λ ps. through s.node ps ++ others) (lists_same a t.first) ∙ ap (λ ps. through s.node t.inner ++ ps) (lists_same b t.after) ∙ sym t.are

-- ---- there is one

-- of nodes one after another, by what is made of the nodes below each
abbrev one_by_one : (Standing → List Path) → List Standing → List Path
one_by_one of [] = []
one_by_one of (s ∷ rest) = through s.node (of s) ++ one_by_one of rest

-- of nodes that are all smaller than a number
abbrev within : ℕ → List Standing → List Path
within zero ns = []
within (suc k) ns = one_by_one (λ s. within k (below s.node)) ns

children_within : (k : ℕ) (s : Standing) → size_of (tree_of s.node) < suc k → AreBelow k (all_meant (below s.node))
children_within k s h = subst (AreBelow k) (below_meant s.node) (wider (size_of (tree_of s.node)) k (children (tree_of s.node)) (omega (arith, h)) (children_below (tree_of s.node)))

lists_each : (k : ℕ) → ((s : Standing) → AreBelow k (all_meant (below s.node)) → Lists (below s.node) (within k (below s.node))) → (ns : List Standing) → AreBelow (suc k) (all_meant ns) → Lists ns (within (suc k) ns)
lists_each k inner [] h = nothing
lists_each k inner (s ∷ rest) h = next s rest (inner s (children_within k s h.0)) (lists_each k inner rest h.1)

lists_within : (k : ℕ) (ns : List Standing) → AreBelow k (all_meant ns) → Lists ns (within k ns)
lists_within zero [] h = nothing
lists_within zero (s ∷ rest) h = absurd (omega (arith, h.0))
lists_within (suc k) ns h = lists_each k (λ s smaller. lists_within k (below s.node) smaller) ns h

pub paths_of : List Standing → List Path
paths_of ns = within (above (all_meant ns)) ns

pub listed : (ns : List Standing) → Lists ns (paths_of ns)
unfolding paths_of
listed ns = lists_within (above (all_meant ns)) ns (below-above (all_meant ns))

pub paths-none : paths_of [] ≡ []
paths-none = sym (ends (listed []))

pub paths-one : (s : Standing) (rest : List Standing) → paths_of (s ∷ rest) ≡ through s.node (paths_of (below s.node)) ++ paths_of rest
paths-one s rest = lists_same (listed (s ∷ rest)) (next s rest (listed (below s.node)) (listed rest))

lists_append : {ns ms : List Standing} {ps qs : List Path} → Lists ns ps → Lists ms qs → Lists (ns ++ ms) (ps ++ qs)
lists_append nothing k = k
lists_append {ms = ms} {qs = qs} (next {inner} {others} s rest a b) k = subst (Lists (s ∷ (rest ++ ms))) (sym (append_assoc (through s.node inner) others qs)) (next s (rest ++ ms) a (lists_append b k))

pub paths-append : (ns ms : List Standing) → paths_of (ns ++ ms) ≡ paths_of ns ++ paths_of ms
paths-append ns ms = lists_same (listed (ns ++ ms)) (lists_append (listed ns) (listed ms))

-- ---- children

abbrev pub left_paths : Children → List Path
left_paths c = paths_of (standing_of c)

pub paths-next : (cs ds : Children) (c : Child) → standing_of cs ≡ standing_child c ∷ standing_of ds → left_paths cs ≡ walking.below c.node (paths_of (below (declared_of c.node))) ++ left_paths ds
paths-next cs ds c e = ap paths_of e ∙ paths-one (standing_child c) (standing_of ds)

pub paths-end : (cs : Children) → standing_of cs ≡ [] → left_paths cs ≡ []
paths-end cs e = ap paths_of e ∙ paths-none

-- ---- what a walk shows

module _ {F : Type 0} (g : Mut F (Bor (List ASTNode) × Unit {0}) Bool) where
  pub over : {E : Type 0} {front : List ASTNode} {r : Result Bool E} {f : F} {ns : List Standing} {last : F} {left : List ASTNode} → Walks g front r f (paths_of ns) last left → WalksOver g front r f ns last left
  over {ns = ns} h = record { paths = paths_of ns; lists = listed ns; walks = h }

  pub walked : {E : Type 0} {front : List ASTNode} {r : Result Bool E} {f : F} {ns : List Standing} {last : F} {left : List ASTNode} → WalksOver g front r f ns last left → Walks g front r f (paths_of ns) last left
  walked {E} {front} {r} {f} {ns} {last} {left} h = subst (λ ps. Walks g front r f ps last left) (lists_same h.lists (listed ns)) h.walks

  pub over_two : {E : Type 0} {front : List ASTNode} {r : Result Bool E} {f : F} {last : F} {left : List ASTNode} (ns ms : List Standing) → Walks g front r f (paths_of ns ++ paths_of ms) last left → WalksOver g front r f (ns ++ ms) last left
  over_two {E} {front} {r} {f} {last} {left} ns ms h = over (subst (λ ps. Walks g front r f ps last left) (sym (paths-append ns ms)) h)

  pub over_none : (front : List ASTNode) (f : F) (ns : List Standing) → ns ≡ [] → WalksOver g front (ended (Ok tt)) f ns f front
  over_none front f ns e = subst (λ ms. WalksOver g front (ended (Ok tt)) f ms f front) (sym e) (record { paths = []; lists = nothing; walks = walking.nothing g front f })

-- ---- the theory has the same paths

listing_folds : Folds listing
listing_folds = record {
  left = λ a. refl;
  right = append-nil;
  assoc = append_assoc;
  nowhere = λ s. refl;
  across = λ s a b. refl;
  listed_arms = λ t as'. refl;
}

anywhere_shown : (s : Option Spot) (ps : List meaning.Path) → at_spot listing s ps ≡ ps
anywhere_shown None ps = refl
anywhere_shown (Some s) ps = refl

abbrev trees_of : Path → meaning.Path
trees_of p = map tree_of p

abbrev pub paths_meant : List Path → List meaning.Path
paths_meant ps = map trees_of ps

with_front : (n : Declared) (ps : List Path) → paths_meant (map (λ p. n ∷ p) ps) ≡ map (λ p. tree_of n ∷ p) (paths_meant ps)
with_front n [] = refl
with_front n (p ∷ ps) = ap (λ qs. (tree_of n ∷ trees_of p) ∷ qs) (with_front n ps)

-- the paths of the declared nodes are those that the theory lists of their trees
pub lists_meant : {ns : List Standing} {ps : List Path} → Lists ns ps → paths_meant ps ≡ over_children listing (all_meant ns)
lists_meant nothing = refl
lists_meant (next {inner} {others} s rest a b) =
    let front : List meaning.Path → List meaning.Path = λ qs. (tree_of s.node ∷ []) ∷ map (λ p. tree_of s.node ∷ p) qs in
    let below_it : paths_meant inner ≡ over_parts listing (tree_of s.node) = lists_meant a ∙ ap (over_children listing) (sym (below_meant s.node)) ∙ sym (over_parts-children listing listing_folds (tree_of s.node)) in
    map-append trees_of (through s.node inner) others
    ∙ ap (λ (qs : List meaning.Path). ((tree_of s.node ∷ []) ∷ qs) ++ paths_meant others) (with_front s.node inner)
    ∙ ap (λ (qs : List meaning.Path). front qs ++ paths_meant others) below_it
    ∙ ap (λ (qs : List meaning.Path). over_node listing (tree_of s.node) ++ qs) (lists_meant b)
    ∙ ap (λ (qs : List meaning.Path). qs ++ over_children listing (all_meant rest)) (sym (anywhere_shown s.spot (over_node listing (tree_of s.node))))
