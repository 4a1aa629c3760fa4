-- Laws on positions. Assumes nothing.
--   WithinPositions m l   no entity stands beyond its position limit, at any location and hour
--   side_position l side entity location hour  the part of a position that is on one side
--   NotNetted m l         a position is both sides' parts added, and neither part is below zero
--   PercentLaw            the percentages by class and month, in words
use Rattle.std.specs.Prelude.{◌≡◌, true, ◌&&◌, ℤ, pos, ◌+ℤ◌, ◌≤ℤ◌, Some, None, filter}
use Rattle.market.specs.declared.words.Side.{Side}
use Rattle.market.specs.declared.words.Side.TheVariants.{Supply, Demand}
use Rattle.market.specs.declared.words.Class.TheVariants.{Node, Aggregate, LoadPoint, Hub, Intertie}
use Rattle.rules.specs.Calls.{Prices}
use Rattle.rules.specs.Credit.{highest_point}
use Rattle.rules.specs.Ledger.{Ledger, location_at}
use Rattle.rules.specs.Position.{percent_of, stands_at, position_of, is_within}
use Rattle.rules.specs.Questions.{is_among, same_side}
use Rattle.rules.specs.Words.{sum_of}

abbrev pub WithinPositions : Prices → Ledger → Type 0
WithinPositions m l = (entity location hour : ℤ) → is_among l.locations location ≡ true
    → is_within (percent_of (location_at l location).class l.day.month) (location_at l location).limit
    (position_of l entity location hour) ≡ true

abbrev pub side_position : Ledger → Side → (entity location hour : ℤ) → ℤ
side_position l side entity location hour =
    sum_of (λ b. highest_point b.curve) (filter (λ b. same_side b.side side && stands_at l entity location hour b)
    l.bids.entries)

pub record NotNetted (m : Prices) (l : Ledger) : Type 0 where
  pub both_added : (entity location hour : ℤ) → position_of l entity location hour ≡ side_position l Supply entity
      location hour +ℤ side_position l Demand entity location hour
  pub none_below : (side : Side) (entity location hour : ℤ) → pos 0 ≤ℤ side_position l side entity location hour

pub record PercentLaw : Type 0 where
  -- Eligible PNodes, alone or aggregated: 10 percent to month 8, 50 to month 12, then no limit
  pub node_first : (month : ℤ) → month ≤ℤ pos 8 → percent_of Node month ≡ Some (pos 10)
  pub node_second : (month : ℤ) → pos 9 ≤ℤ month → month ≤ℤ pos 12 → percent_of Node month ≡ Some (pos 50)
  pub node_later : (month : ℤ) → pos 13 ≤ℤ month → percent_of Node month ≡ None
  pub aggregate : (month : ℤ) → percent_of Aggregate month ≡ percent_of Node month
  -- interties: 5 percent to month 8, 25 to month 12, 50 to month 16, then no limit
  pub intertie_first : (month : ℤ) → month ≤ℤ pos 8 → percent_of Intertie month ≡ Some (pos 5)
  pub intertie_second : (month : ℤ) → pos 9 ≤ℤ month → month ≤ℤ pos 12 → percent_of Intertie month ≡ Some (pos 25)
  pub intertie_third : (month : ℤ) → pos 13 ≤ℤ month → month ≤ℤ pos 16 → percent_of Intertie month ≡ Some (pos 50)
  pub intertie_later : (month : ℤ) → pos 17 ≤ℤ month → percent_of Intertie month ≡ None
  -- Default LAPs and Trading Hubs have no limit
  pub load_point : (month : ℤ) → percent_of LoadPoint month ≡ None
  pub hub : (month : ℤ) → percent_of Hub month ≡ None
