-- The CRR adjustment (section 11.2.4.6). Assumes nothing.
--   factor_at x location       the shift factor of a location, in ten-thousandths
--   crr_flow x                 C: what the CRRs put on the constraint
--   award_flow l x hour        F: what the account's awards of an hour put on it
--   same_sign a b              both above zero or both below it
--   mark_of period              the mark of an hour of the period
--   hour_passes l x period hour whether an hour counts
--   shadow_at x hour k, shadow_fall x hour  an hour's five shadow prices; 4 × the day-ahead one less the other four
--   adjustment_of l x period   in cents
use Rattle.std.specs.Prelude.{Bool, true, false, ◌&&◌, ◌||◌, List, [], ◌∷◌, ℤ, pos, ◌+ℤ◌, ◌-ℤ◌, ◌*ℤ◌, filter, int_lt, unsigned_abs}
use Rattle.std.specs.Int.{int_max}
use Rattle.market.specs.declared.words.Class.{Class}
use Rattle.market.specs.declared.words.Class.TheVariants.{Node, Aggregate, LoadPoint, Hub, Intertie}
use Rattle.market.specs.declared.words.Period.{Period}
use Rattle.market.specs.declared.words.Period.TheVariants.{Peak, OffPeak}
use Rattle.rules.specs.Words.{eq_z, rounded, sum_of, at_place, up_to}
use Rattle.rules.specs.Ledger.{Ledger, location_at}
use Rattle.rules.specs.Calls.{AdjustTerms}
use Rattle.rules.specs.Awards.{award_in, awards_at, by_side}

-- factors are one a location and asked only of known ones: the 0 is never read, nor are those below
abbrev pub factor_at : AdjustTerms → ℤ → ℤ
factor_at x location = at_place (pos 0) x.factors location

abbrev pub crr_flow : AdjustTerms → ℤ
crr_flow x = sum_of (λ c. c.quantity *ℤ (factor_at x c.source -ℤ factor_at x c.sink)) x.crrs

-- awards at N, A and I count
abbrev pub flow_counts : Class → Bool
flow_counts Node = true
flow_counts Aggregate = true
flow_counts LoadPoint = false
flow_counts Hub = false
flow_counts Intertie = true

abbrev pub award_flow : Ledger → AdjustTerms → ℤ → ℤ
award_flow l x hour = sum_of (λ b. by_side b.side (award_in b.stage *ℤ factor_at x b.location)) (filter (λ b.
    eq_z b.account x.account && flow_counts (location_at l b.location).class) (awards_at l hour))

abbrev pub same_sign : ℤ → ℤ → Bool
same_sign a b = (int_lt (pos 0) a && int_lt (pos 0) b) || (int_lt a (pos 0) && int_lt b (pos 0))

abbrev pub mark_of : Period → ℤ
mark_of Peak = pos 1
mark_of OffPeak = pos 0

-- its flow goes with the CRRs' and without sign exceeds 1,000 × the flow limit, which is 10 percent
abbrev pub hour_passes : Ledger → AdjustTerms → Period → ℤ → Bool
hour_passes l x period hour = eq_z (at_place (pos 0) x.marks hour) (mark_of period)
    && (same_sign (award_flow l x hour) (crr_flow x) && int_lt (pos 1000 *ℤ x.flow) (pos (unsigned_abs (award_flow l x hour))))

-- the day-ahead one is the first, then the four of the fifteen-minute market
abbrev pub shadow_at : AdjustTerms → (hour k : ℤ) → ℤ
shadow_at x hour k = at_place (pos 0) x.shadows ((pos 5 *ℤ (hour -ℤ pos 1)) +ℤ k)

abbrev pub shadow_fall : AdjustTerms → ℤ → ℤ
shadow_fall x hour =
    (pos 4 *ℤ shadow_at x hour (pos 1)) -ℤ sum_of (shadow_at x hour) (pos 2 ∷ pos 3 ∷ pos 4 ∷ pos 5 ∷ [])

abbrev pub passing_hours : Ledger → AdjustTerms → Period → List ℤ
passing_hours l x period = filter (hour_passes l x period) (up_to (unsigned_abs l.day.hours))

-- 0 where the sum is below zero; to the nearest cent, halves up
abbrev pub adjustment_of : Ledger → AdjustTerms → Period → ℤ
adjustment_of l x period =
    rounded 400000 (int_max (sum_of (λ hour. crr_flow x *ℤ shadow_fall x hour) (passing_hours l x period)) (pos 0))
