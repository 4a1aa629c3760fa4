-- What a history means, from its list. Assumes nothing.
--   history_layout            up to 64 locations and 2,209 hours; a day-ahead price for each, then an average for each
--   Holds xs s h              h holds what a list of these sizes has
--   HoldsNothing h            h has no location and no hour
--   HistoryOpened xs r        r holds what the list has, or is the refusal of its check
--   HistoryOver xs h          h holds what the list has, or no location where the list does not pass its check
--   of_location n l xs        the n numbers of location l, location after location
--   history_price m n averages prices l s  the reference price of a location and side among m locations and n hours:
--                             cause 1 outside 1 to m, cause 2 where n is 0
use Rattle.std.specs.Prelude.{◌≡◌, ℕ, ◌+◌, ◌-◌, ◌*◌, cond, List, take, drop, ℤ, pos, negsuc, Ok, Err, Result, ◌==◌, unsigned_abs}
use Rattle.market.specs.declared.fault.Cause.TheVariants.{Outside, Missing}
use Rattle.market.specs.declared.fault.PolicyFault.{PolicyFault}
use Rattle.market.specs.declared.words.Layer.TheVariants.{Policy}
use Rattle.market.specs.declared.words.Side.{Side}
use Rattle.lists.specs.declared.layout.Layout.{Layout}
use Rattle.lists.specs.declared.layout.Sizes.{Sizes}
use Rattle.lists.specs.Counted.{is_among}
use Rattle.market.specs.declared.fault.Fault.{Fault}
use Rattle.lists.specs.Lists.{Passed, Checked, cells}
use Rattle.reference.specs.declared.history.History.{History}
use Rattle.reference.specs.Prices.{fault}
use Rattle.reference.specs.Spreads.{reference_price}

abbrev pub history_layout : Layout
history_layout = record {
  layer = Policy;
  rows = 64;
  columns = 2209;
  first = record { per_cell = 1; low = negsuc 999999; high = pos 1000000 };
  second = record { per_cell = 1; low = negsuc 11999999; high = pos 12000000 };
}

-- the two sizes, then the day-ahead prices, then the averages
pub record Holds (xs : List ℤ) (s : Sizes) (h : History) : Type 0 where
  pub locations : h.sizes.rows ≡ s.rows
  pub hours : h.sizes.columns ≡ s.columns
  pub prices : h.day_ahead.now ≡ take (cells xs) (drop 2 xs)
  pub averages : h.averages.now ≡ take (cells xs) (drop (2 + cells xs) xs)

abbrev pub HoldsNothing : History → Type 0
HoldsNothing h = (h.sizes.rows ≡ 0) × (h.sizes.columns ≡ 0)

-- what a list that passes holds, or the refusal of the check
abbrev pub HistoryOpened : List ℤ → Result History Fault → Type 0
HistoryOpened xs (Ok h) = (s : Sizes) × Passed history_layout xs s × Holds xs s h
HistoryOpened xs (Err f) = Checked history_layout xs (Err f)

pub record HistoryOver (xs : List ℤ) (h : History) : Type 0 where
  pub passed : (s : Sizes) → Passed history_layout xs s → Holds xs s h
  pub not_passed : ((s : Sizes) → Passed history_layout xs s → ⊥) → HoldsNothing h

abbrev pub of_location : ℕ → ℤ → List ℤ → List ℤ
of_location n l xs = take n (drop ((unsigned_abs l - 1) * n) xs)

abbrev pub history_price : ℕ → ℕ → List ℤ → List ℤ → ℤ → Side → Result ℤ PolicyFault
history_price m n averages prices l s =
    cond (is_among m l) (cond (n == 0) (Err (fault Missing l)) (Ok (reference_price s (of_location n l averages) (of_location n l prices))))
    (Err (fault Outside l))
