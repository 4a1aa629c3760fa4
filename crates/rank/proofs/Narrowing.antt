-- What narrowing rests on: the middle of a gap lies in it, the count of a gap falls as it narrows, and ranks grow along the order. Assumes nothing.
use Rattle.std.proofs.Common.{◌≡◌, ℕ, ◌+◌, ◌/◌, ◌<◌, ◌≤◌, Bool, true, false, List, length, filter, count_by, slice_get, Some, None, Option, Ordering, sym, refl, subst, arith}
use Rattle.std.specs.Cmp.{IsTotalOrder}
use Rattle.std.specs.List.{All, AllByRecursion, Contains, ContainsAt}
use Rattle.std.specs.Option.{IfSome}
use Rattle.std.proofs.ByRecursion.{All-weaker}
use Rattle.std.proofs.lemmas.List.Elements.{All-contains_itself, All-filter, filter_passes, at_from_Contains}
use Rattle.std.proofs.lemmas.List.Sums.{length-filter}
use Rattle.std.proofs.lemmas.Option.{slice_get_within, slice_get_cases, get_or_from_slice_get}
use Rattle.rank.specs.declared.pick.Gap.{Gap}
use Rattle.rank.specs.Narrow.{over, under, between, Between}
use Rattle.rank.specs.Ranks.{before, ahead, Ranked}
use Rattle.rank.specs.Before.{before_itself, before_trans, before_follows}
use Rattle.rank.proofs.Counts.{count_mono, count_less, count_none}

module _ {X : Type 0} (xs : List X) (i : ℕ) where
  at_get : (P : X → Type 0) (x : X) → All P xs → slice_get xs i ≡ Some x → P x
  at_get P x all e = subst P (get_or_from_slice_get xs i x x e) (all i x (slice_get_within xs i x e))

  past_get : slice_get xs i ≡ None → length xs ≤ i
  past_get e = let c = (slice_get_cases xs i).1 in grind arith

pub middle_between : {X : Type 0} (before : X → X → Bool) (gap : Gap X) (xs : List X) (r : Option X)
    → r ≡ slice_get (filter (between before gap) xs) (count_by (between before gap) xs / 2) → Between before gap xs r
middle_between before gap xs None e =
    let p = between before gap in
    count_none p xs (omega (arith, length-filter p xs, past_get (filter p xs) (count_by p xs / 2) (sym e)))
middle_between before gap xs (Some x) e =
    let p = between before gap in
    let i = count_by p xs / 2 in (
      at_from_Contains xs x (at_get (filter p xs) i (Contains xs) x (All-filter p (Contains xs) xs (All-contains_itself xs)) (sym e)),
      at_get (filter p xs) i (λ y. p y ≡ true) x (filter_passes p xs) (sym e),
    )

-- the ends of the gap have fewer and more than n elements of the list before them
abbrev pub Around : {X : Type 0} → (X → X → Bool) → List X → ℕ → Gap X → Type 0
Around before xs n gap = IfSome gap.low (λ low. ahead before low xs < n) × IfSome gap.high (λ high. n < ahead before high xs)

module _ {X : Type 0} (cmp : X → X → Ordering) (total : IsTotalOrder cmp) where
  ahead_le : (xs : List X) (l x : X) → before cmp l x ≡ false → ahead (before cmp) x xs ≤ ahead (before cmp) l xs
  ahead_le xs l x e = count_mono (λ y. before cmp y x) (λ y. before cmp y l) (λ y h. before_follows cmp total l x y e h) xs

  not_low : (xs : List X) (n : ℕ) (low : Option X) (x : X) → IfSome low (λ l. ahead (before cmp) l xs < n) → over (before cmp) low x ≡ false → ahead (before cmp) x xs ≡ n → ⊥
  not_low xs n None x t e r = cc
  not_low xs n (Some l) x t e r = omega (arith, ahead_le xs l x e)

  not_high : (xs : List X) (n : ℕ) (high : Option X) (x : X) → IfSome high (λ h. n < ahead (before cmp) h xs) → under (before cmp) high x ≡ false → ahead (before cmp) x xs ≡ n → ⊥
  not_high xs n None x t e r = cc
  not_high xs n (Some h) x t e r = omega (arith, ahead_le xs x h e)

  pub none_between : (xs : List X) (n rank : ℕ) (gap : Gap X) → n + 1 ≡ rank → Around (before cmp) xs n gap
      → AllByRecursion (λ x. between (before cmp) gap x ≡ false) xs → AllByRecursion (λ x. Ranked (before cmp) xs rank x → ⊥) xs
  none_between xs n rank gap e ends none =
      All-weaker (λ x. between (before cmp) gap x ≡ false) (λ x. Ranked (before cmp) xs rank x → ⊥)
      (λ x f r. let l = not_low xs n gap.low x ends.0 in let h = not_high xs n gap.high x ends.1 in grind arith) xs none

  over_trans : (low : Option X) (x y : X) → over (before cmp) low x ≡ true → before cmp x y ≡ true → over (before cmp) low y ≡ true
  over_trans None x y a b = refl
  over_trans (Some l) x y a b = before_trans cmp total l x y a b

  under_trans : (high : Option X) (x y : X) → under (before cmp) high x ≡ true → before cmp y x ≡ true → under (before cmp) high y ≡ true
  under_trans None x y a b = refl
  under_trans (Some h) x y a b = before_trans cmp total y x h b a

  module _ (gap : Gap X) (xs : List X) (x : X) (has : ContainsAt xs x) (inside : between (before cmp) gap x ≡ true) where
    pub falls_low : count_by (between (before cmp) (record gap { low = Some x })) xs < count_by (between (before cmp) gap) xs
    falls_low =
        count_less (between (before cmp) (record gap { low = Some x })) (between (before cmp) gap)
        (λ y f. let o = over_trans gap.low x y in grind arith) xs x has (let b = before_itself cmp total x in grind arith) inside

    pub falls_high : count_by (between (before cmp) (record gap { high = Some x })) xs < count_by (between (before cmp) gap) xs
    falls_high =
        count_less (between (before cmp) (record gap { high = Some x })) (between (before cmp) gap)
        (λ y f. let u = under_trans gap.high x y in grind arith) xs x has (let b = before_itself cmp total x in grind arith) inside
