-- Spreads by hour, and the reference price that they give. Assumes nothing.
--   spread_of side average day_ahead    the average less 12 × the day-ahead price, for demand its negative
--   spreads_to side averages prices n  the spreads of hours 1 to n, with their hours
--   PriceOf side averages prices p     p is the spread of the percentile's rank among those of all hours
--   reference_price side averages prices  that spread, computed
--   HasHours averages prices           1 to 2,209 hours, with an average and a day-ahead price for each
--   Referenced side averages prices r  r is that spread, or none where there are no such hours
use Rattle.std.specs.Prelude.{◌≡◌, ℕ, zero, suc, ◌<◌, ◌≤◌, List, [], ◌∷◌, ◌++◌, length, ℤ, pos, ◌-ℤ◌, ◌*ℤ◌, neg_ℤ, Some, None, Option, slice_index_or}
use Rattle.market.specs.declared.words.Side.{Side}
use Rattle.market.specs.declared.words.Side.TheVariants.{Supply, Demand}
use Rattle.rank.specs.declared.spread.DatedSpread.{DatedSpread}
use Rattle.rank.specs.Orders.{lower_spread}
use Rattle.rank.specs.Ranks.{Picked, at_rank}
use Rattle.reference.specs.Percentile.{PercentileRank, percentile_rank}

abbrev pub spread_of : Side → ℤ → ℤ → ℤ
spread_of Supply average day_ahead = average -ℤ (pos 12 *ℤ day_ahead)
spread_of Demand average day_ahead = neg_ℤ (average -ℤ (pos 12 *ℤ day_ahead))

abbrev pub dated_spread : Side → List ℤ → List ℤ → ℕ → DatedSpread
dated_spread side averages prices k = record { value = spread_of side (slice_index_or averages k (pos 0)) (slice_index_or prices k (pos 0)); hour = pos (suc k) }

abbrev pub spreads_to : Side → List ℤ → List ℤ → ℕ → List DatedSpread
spreads_to side averages prices zero = []
spreads_to side averages prices (suc n) = spreads_to side averages prices n ++ (dated_spread side averages prices n ∷ [])

pub record PriceOf (side : Side) (averages prices : List ℤ) (p : ℤ) : Type 0 where
  pub rank : ℕ
  pub percentile : PercentileRank (length averages) rank
  pub spread : DatedSpread
  pub picked : Picked lower_spread (spreads_to side averages prices (length averages)) rank (Some spread)
  pub priced : spread.value ≡ p

abbrev pub value_in : Option DatedSpread → ℤ
value_in (Some s) = s.value
value_in None = pos 0

-- where there is an hour there is such a spread, so the 0 of none stands for nothing
abbrev pub reference_price : Side → List ℤ → List ℤ → ℤ
reference_price side averages prices =
    value_in (at_rank lower_spread (spreads_to side averages prices (length averages)) (percentile_rank (length averages)))

abbrev pub HasHours : List ℤ → List ℤ → Type 0
HasHours averages prices = (0 < length averages) × (length averages ≤ 2209) × (length prices ≡ length averages)

abbrev pub Referenced : Side → List ℤ → List ℤ → Option ℤ → Type 0
Referenced side averages prices (Some p) = HasHours averages prices × PriceOf side averages prices p × (p ≡ reference_price side averages prices)
Referenced side averages prices None = HasHours averages prices → ⊥
