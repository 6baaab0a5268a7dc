-- What a map ends as, where a `&mut` to a value of it is returned.
use Rattle.std.specs.Prelude.{◌≡◌, ℕ, List, Option}
use Rattle.std.specs.Borrow.{LendsSo, Fml, RattleType, MutBor}
use Rattle.std.specs.BTreeMap.{is_at}
use Rattle.std.specs.Cmp.Lexicographic.{slice_cmp}
use Rattle.std.specs.Map.{set_value}
use Rattle.std.specs.Option.{OnSome}
use Rattle.std.specs.Ordering.{nat_cmp}
use Rattle.base_text.specs.contracts.string_map.StringMap as string_map

module _ (T : RattleType) where
  -- a map has the value under the key that is written last; where it has no such key, it stays
  abbrev pub lends_value_at : MutBor (List (List ℕ × T.Denot)) → List ℕ → Option (MutBor T.Denot) → Fml
  lends_value_at m k r = LendsSo (string_map.the_row T) T m r (λ n w. OnSome r (n ≡ set_value (is_at (slice_cmp nat_cmp k)) m.now w)) (λ n. n ≡ m.now)
