-- A history's price is within the bounds of reference prices, since each of its spreads is. Assumes nothing.
--   part_bounded      a part of a list has bounded numbers, and past its end 0
--   history_priced    what a history answers is within bounds
use Rattle.std.specs.Prelude.{ℕ, zero, suc, ◌+◌, ◌-◌, ◌*◌, ◌<◌, Bool, List, [], ◌∷◌, length, take, drop, ℤ, pos, negsuc, Some, ◌==◌, unsigned_abs}
use Rattle.std.proofs.Common.{sym, subst, ◌∙◌, ⊎_elim, arith}
use Rattle.std.specs.List.{AllByRecursion}
use Rattle.std.proofs.ByRecursion.{All-push}
use Rattle.std.proofs.lemmas.List.{length-take, get_or-take, get_or-drop, get_or_past}
use Rattle.std.proofs.lemmas.Int.{ints}
use Rattle.std.proofs.lemmas.Bool.{cases_lt, cond_both}
use Rattle.market.specs.declared.words.Side.{Side}
use Rattle.market.specs.declared.words.Side.TheVariants.{Supply, Demand}
use Rattle.lists.specs.Counted.{is_among}
use Rattle.lists.specs.Lists.{Bounded, num}
use Rattle.rank.specs.declared.spread.DatedSpread.{DatedSpread}
use Rattle.rank.specs.Ranks.{first_with}
use Rattle.reference.specs.Prices.{Reference, Priced}
use Rattle.reference.specs.Spreads.{spread_of, dated_spread, spreads_to, value_in}
use Rattle.reference.specs.Years.{EachPrice, EachAverage}
use Rattle.reference.specs.Histories.{of_location, history_price}

module _ (low high : ℤ) (zero_in : Bounded low high (pos 0)) where
  pub part_bounded : (xs : List ℤ) (from n : ℕ) → ((k : ℕ) → k < n → Bounded low high (num xs (from + k))) → (k : ℕ) → Bounded low high (num (take n (drop from xs)) k)
  part_bounded xs from n each k =
      ⊎_elim (λ h. subst (Bounded low high) (sym (get_or-take n (drop from xs) k (pos 0) h ∙ get_or-drop from xs k (pos 0))) (each k h))
      (λ h. subst (Bounded low high) (sym (get_or_past (take n (drop from xs)) k (pos 0) (omega (arith, length-take n (drop from xs))))) zero_in)
      (cases_lt k n)

spread_bounded : (side : Side) (t d : ℤ) → Bounded (negsuc 11999999) (pos 12000000) t → Bounded (negsuc 999999) (pos 1000000) d → Reference (spread_of side t d)
spread_bounded Supply t d a b = (omega (arith, ints), omega (arith, ints))
spread_bounded Demand t d a b = (omega (arith, ints), omega (arith, ints))

spreads_bounded : (side : Side) (ts ds : List ℤ) → EachAverage ts → EachPrice ds → (n : ℕ) → AllByRecursion (λ s. Reference s.value) (spreads_to side ts ds n)
spreads_bounded side ts ds a b zero = tt
spreads_bounded side ts ds a b (suc n) =
    All-push (λ s. Reference s.value) (spreads_to side ts ds n) (dated_spread side ts ds n) (spreads_bounded side ts ds a b n) (spread_bounded side (num ts n) (num ds n) (a n) (b n))

zero_reference : Reference (pos 0)
zero_reference = (omega (arith, ints), omega (arith, ints))

first_bounded : (p : DatedSpread → Bool) (xs : List DatedSpread) → AllByRecursion (λ s. Reference s.value) xs → Reference (value_in (first_with p xs))
first_bounded p [] all = zero_reference
first_bounded p (x ∷ xs) all = cond_both (p x) (Some x) (first_with p xs) (λ o. Reference (value_in o)) (λ _. all.0) (λ _. first_bounded p xs all.1)

pub history_priced : (m n : ℕ) (averages prices : List ℤ) → EachAverage averages → EachPrice prices → (l : ℤ) (s : Side) → Priced (history_price m n averages prices l s)
history_priced m n averages prices a b l s =
    let ts = of_location n l averages in
    let ds = of_location n l prices in
    let each = spreads_bounded s ts ds
    (part_bounded (negsuc 11999999) (pos 12000000) (omega (arith, ints), omega (arith, ints)) averages ((unsigned_abs l - 1) * n) n (λ k h. a ((unsigned_abs l - 1) * n + k)))
    (part_bounded (negsuc 999999) (pos 1000000) (omega (arith, ints), omega (arith, ints)) prices ((unsigned_abs l - 1) * n) n (λ k h. b ((unsigned_abs l - 1) * n + k)))
    (length ts) in
    cond_both (is_among m l) _ _ Priced
    (λ _. cond_both (n == 0) _ _ Priced (λ _. tt) (λ _. first_bounded _ _ each))
    (λ _. tt)
