-- Worked figures of reference prices, from the definitions. Assumes nothing.
--   averages_to n  averages 1 to n, which at day-ahead prices of 0 are the supply spreads
--   zeros n        n day-ahead prices of 0
use Rattle.std.specs.Prelude.{◌≡◌, ℕ, zero, suc, List, [], ◌∷◌, ◌++◌, replicate, ℤ, pos, negsuc}
use Rattle.market.specs.declared.words.Side.TheVariants.{Supply, Demand}
use Rattle.reference.specs.Spreads.{PriceOf, reference_price}

abbrev pub averages_to : ℕ → List ℤ
averages_to zero = []
averages_to (suc n) = averages_to n ++ (pos (suc n) ∷ [])

abbrev pub zeros : ℕ → List ℤ
zeros n = replicate n (pos 0)

pub record Figures : Type 0 where
  -- spreads 1 to 20 give 19, and 1 to 21 give 20
  pub twenty : reference_price Supply (averages_to 20) (zeros 20) ≡ pos 19
  pub twenty_picked : PriceOf Supply (averages_to 20) (zeros 20) (pos 19)
  pub twenty_one : reference_price Supply (averages_to 21) (zeros 21) ≡ pos 20
  pub twenty_one_picked : PriceOf Supply (averages_to 21) (zeros 21) (pos 20)
  -- demand spreads are -1 to -20, and give -2
  pub demand : reference_price Demand (averages_to 20) (zeros 20) ≡ negsuc 1
  pub demand_picked : PriceOf Demand (averages_to 20) (zeros 20) (negsuc 1)
