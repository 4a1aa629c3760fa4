-- The orders of dated spreads and of account standings. Assumes nothing.
--   spread_cmp a b       how a compares with b: by the value, then by the hour
--   lower_spread a b     a has the lower value, or the same value and the lower hour
--   standing_cmp a b     how a compares with b: by cash, then by available credit, more of both first, then by the number
--   higher_standing a b  a has more cash, or as much and more available credit, or as much of both and the lower number
use Rattle.std.specs.Prelude.{Bool}
use Rattle.std.specs.declared.cmp.Ordering.{Ordering}
use Rattle.std.specs.Ordering.{int_cmp, is_lt, on, flip_args, then_cmp}
use Rattle.rank.specs.declared.spread.DatedSpread.{DatedSpread}
use Rattle.rank.specs.declared.standing.Standing.{Standing}

abbrev pub spread_cmp : DatedSpread → DatedSpread → Ordering
spread_cmp = then_cmp (on (λ s. s.value) int_cmp) (on (λ s. s.hour) int_cmp)

abbrev pub lower_spread : DatedSpread → DatedSpread → Bool
lower_spread a b = is_lt (spread_cmp a b)

abbrev pub standing_cmp : Standing → Standing → Ordering
standing_cmp = then_cmp (then_cmp (flip_args (on (λ s. s.cash) int_cmp)) (flip_args (on (λ s. s.available) int_cmp))) (on (λ s. s.number) int_cmp)

abbrev pub higher_standing : Standing → Standing → Bool
higher_standing a b = is_lt (standing_cmp a b)
