-- Among spreads of different hours one has the percentile's rank, and all that have it have one value. Assumes nothing.
use Rattle.std.proofs.Common.{◌≡◌, ℕ, zero, suc, ◌+◌, ◌-◌, ◌<◌, ◌≤◌, List, length, ℤ, pos, ◌≤ℤ◌, Some, None, sym, refl, ap, ◌∙◌, arith}
use Rattle.std.specs.List.{AllByRecursion}
use Rattle.std.proofs.ByRecursion.{All-push, All-weaker, all-has}
use Rattle.std.proofs.lemmas.List.{length_push}
use Rattle.std.proofs.lemmas.Int.{ints}
use Rattle.market.specs.declared.words.Side.{Side}
use Rattle.rank.specs.declared.spread.DatedSpread.{DatedSpread}
use Rattle.rank.specs.Orders.{lower_spread}
use Rattle.rank.specs.Ranks.{Apart, Ranked, Picked, at_rank}
use Rattle.rank.proofs.EveryRank.{apart_push, every_rank, at_every_rank, tied_at_rank}
use Rattle.rank.specs.Laws.{spread_strict, spread_transitive, spread_decides, spread_tied}
use Rattle.reference.specs.Percentile.{percentile_rank}
use Rattle.reference.specs.Spreads.{dated_spread, spreads_to, value_in}

module _ (side : Side) (ts ds : List ℤ) where
  hours_to : (n : ℕ) → AllByRecursion (λ s. s.hour ≤ℤ pos n) (spreads_to side ts ds n)
  hours_to zero = tt
  hours_to (suc n) =
      All-push (λ s. s.hour ≤ℤ pos (suc n)) (spreads_to side ts ds n) (dated_spread side ts ds n)
      (All-weaker (λ s. s.hour ≤ℤ pos n) (λ s. s.hour ≤ℤ pos (suc n)) (λ s h. omega (arith, ints)) (spreads_to side ts ds n) (hours_to n))
      (omega (arith, ints))

  spreads_apart : (n : ℕ) → Apart (spreads_to side ts ds n)
  spreads_apart zero = tt
  spreads_apart (suc n) =
      apart_push (spreads_to side ts ds n) (dated_spread side ts ds n) (spreads_apart n)
      (All-weaker (λ s. s.hour ≤ℤ pos n) (λ s. s ≡ dated_spread side ts ds n → ⊥) (λ s h e. let hour = ap (λ (d : DatedSpread). d.hour) e in omega (arith, ints)) (spreads_to side ts ds n) (hours_to n))

  length_spreads : (n : ℕ) → length (spreads_to side ts ds n) ≡ n
  length_spreads zero = refl
  length_spreads (suc n) = length_push (spreads_to side ts ds n) (dated_spread side ts ds n) ∙ ap (λ m. m + 1) (length_spreads n) ∙ omega arith

  module _ (n : ℕ) (some : 0 < n) where
    rank_some : 0 < percentile_rank n
    rank_some = omega arith

    rank_within : percentile_rank n ≤ length (spreads_to side ts ds n)
    rank_within = omega (arith, length_spreads n)

    pub never_none : Picked lower_spread (spreads_to side ts ds n) (percentile_rank n) None → ⊥
    never_none none =
        let i = every_rank lower_spread spread_strict spread_transitive spread_decides (spreads_to side ts ds n) (spreads_apart n) (percentile_rank n - 1) (omega (arith, rank_some, rank_within)) in
        all-has (λ s. Ranked lower_spread (spreads_to side ts ds n) (percentile_rank n) s → ⊥) (spreads_to side ts ds n) i.0 none i.1 (omega (arith, i.2, rank_some))

    pub one_value : (s : DatedSpread) → Picked lower_spread (spreads_to side ts ds n) (percentile_rank n) (Some s)
        → s.value ≡ value_in (at_rank lower_spread (spreads_to side ts ds n) (percentile_rank n))
    one_value s (has, ranked) =
        let i = at_every_rank lower_spread spread_strict spread_transitive spread_decides (spreads_to side ts ds n) (spreads_apart n) (percentile_rank n) rank_some rank_within in
        let t = tied_at_rank lower_spread spread_strict spread_transitive spread_decides (spreads_to side ts ds n) (percentile_rank n) i.0 s i.1 has ranked in
        sym (spread_tied i.0 s t.0 t.1) ∙ sym (ap value_in i.1)
