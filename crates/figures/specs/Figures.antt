-- All worked figures: those of reference prices, and those of whole days. Assumes nothing.
use Rattle.reference.specs.Figures as prices
use Rattle.rules.specs.Figures as days

pub record AllFigures : Type 0 where
  pub reference_prices : prices.Figures
  pub whole_days : days.Figures
