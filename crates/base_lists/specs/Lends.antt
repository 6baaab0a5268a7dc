-- What a box or a list ends as, where a `&mut` into it is returned.
use Rattle.std.specs.Prelude.{ℕ, List, Option, ◌++◌, length, take, drop, slice_set}
use Rattle.std.specs.Borrow.{Lends, LendsIf, Fml, RattleType, MutBor, Array}
use Rattle.base_lists.specs.contracts.boxed.Boxed as boxed
use Rattle.base_lists.specs.contracts.seq.Seq as seq

module _ (T : RattleType) where
  -- a box holds the last value that is written
  abbrev pub lends_value : MutBor T.Denot → MutBor T.Denot → Fml
  lends_value b r = Lends (boxed.the_row T) T b r (λ w. w)

  -- a list has the items that are written last
  abbrev pub lends_items : MutBor (List T.Denot) → MutBor (List T.Denot) → Fml
  lends_items s r = Lends (seq.the_row T) (Array T 0) s r (λ w. take (length s.now) (w ++ drop (length w) s.now))

  -- a list has the item that is written last; where there was none, it stays
  abbrev pub lends_item : MutBor (List T.Denot) → ℕ → Option (MutBor T.Denot) → Fml
  lends_item s i r = LendsIf (seq.the_row T) T s r (slice_set s.now i) s.now
