-- Numbers rise and are given once.
use Rattle.std.proofs.Common.{◌≡◌, Bool, true, false, cond, List, [], ◌∷◌, ◌++◌, map, ℤ, pos, ◌+ℤ◌, ◌≤ℤ◌, filter, refl, arith, length-append}
use Rattle.std.specs.List.{AllByRecursion}
use Rattle.std.proofs.ByRecursion.{All-weaker}
use Rattle.std.proofs.lemmas.Int.{ints}
use Rattle.market.specs.Letters.{side_named, class_named, period_named}
use Rattle.rules.specs.declared.stages.BidStage.{BidStage}
use Rattle.rules.specs.Calls.{Prices, Call, open_account, add_location, set_limit, take_hold, release_hold, place_bid, withdraw_bid, close_bidding, clear_hour, price_hour, pay_account, adjust_account}
use Rattle.rules.specs.Ledger.{BidEntry, Table, Ledger, empty_ledger, with_entry, with_entries, bid_with, hold_numbered}
use Rattle.rules.specs.Rules.{is_at, clear_bid, price_bid, pay_bid, new_bid, enter}
use Rattle.rules.specs.Words.{eq_z, count_of, replaced}
use Rattle.laws.specs.Every.{EveryRun}
use Rattle.laws.specs.Standing.{Rising, NumberedOnce}
use Rattle.laws.proofs.Places.{replaced_long}
use Rattle.laws.proofs.Runs.{Passed, if_some_lem, every_run, held_step, changed}

module _ {X : Type 0} (num : X → ℤ) where
  lower : (a b : ℤ) (xs : List X) (next : ℤ) → a ≤ℤ b → Rising num b xs next → Rising num a xs next
  lower a b [] next le r = omega (arith, ints)
  lower a b (x ∷ xs) next le r = (omega (arith, ints, r.0), r.1)

  kept_one : (t : Bool) (a : ℤ) (x : X) (ys : List X) (next : ℤ) → a ≤ℤ num x → Rising num (num x +ℤ pos 1) ys next
      → Rising num a (cond t (x ∷ ys) ys) next
  kept_one true a x ys next le r = (le, r)
  kept_one false a x ys next le r = lower a (num x +ℤ pos 1) ys next (omega (arith, ints)) r

  pub rising_kept : (keep : X → Bool) (a : ℤ) (xs : List X) (next : ℤ) → Rising num a xs next
      → Rising num a (filter keep xs) next
  rising_kept keep a [] next r = r
  rising_kept keep a (x ∷ xs) next r = kept_one (keep x) a x (filter keep xs) next r.0
      (rising_kept keep (num x +ℤ pos 1) xs next r.1)

  pub rising_changed : (f : X → X) → ((x : X) → num (f x) ≡ num x) → (a : ℤ) (xs : List X) (next : ℤ)
      → Rising num a xs next → Rising num a (map f xs) next
  rising_changed f e a [] next r = r
  rising_changed f e a (x ∷ xs) next r = rw (e x) (r.0, rising_changed f e (num x +ℤ pos 1) xs next r.1)

  pub rising_entered : (a : ℤ) (xs : List X) (next : ℤ) (x : X) → num x ≡ next → Rising num a xs next
      → Rising num a (xs ++ (x ∷ [])) (next +ℤ pos 1)
  rising_entered a [] next x e r = (omega (arith, ints), omega (arith, ints))
  rising_entered a (y ∷ xs) next x e r = (r.0, rising_entered (num y +ℤ pos 1) xs next x e r.1)

same_number : (t : Bool) (b : BidEntry) (s : BidStage) → (cond t (bid_with b s) b).number ≡ b.number
same_number t b s = changed (λ d. d.number ≡ b.number) t b s (λ _. refl) refl

-- numbers of a list that rises from a first one on are at least that
pub rising_above : {X : Type 0} (num : X → ℤ) (a : ℤ) (xs : List X) (next : ℤ) → Rising num a xs next
    → AllByRecursion (λ x. a ≤ℤ num x) xs
rising_above num a [] next r = tt
rising_above num a (x ∷ xs) next r =
    let h = r.0 in (
      r.0,
      All-weaker (λ y. (num x +ℤ pos 1) ≤ℤ num y) (λ y. a ≤ℤ num y) (λ y k. omega (arith, ints)) xs
          (rising_above num (num x +ℤ pos 1) xs next r.1),
    )

abbrev Next : {X : Type 0} → Table X → Type 0
Next t = t.next ≡ count_of t.entries +ℤ pos 1

next_entered : {X : Type 0} (t : Table X) (x : X) → Next t → Next (with_entry t x)
next_entered t x e = let k = length-append t.entries (x ∷ []) in omega (arith, ints)

next_replaced : {X : Type 0} (t : Table X) (a : ℤ) (x : X) → Next t → Next (with_entries t (replaced t.entries a x))
next_replaced t a x e = rw (replaced_long t.entries a x) e

step : (m : Prices) (l : Ledger) (c : Call) → Passed m l c → NumberedOnce m l → NumberedOnce m (enter m l c)
step m l (open_account e k) p r = record {
  accounts = next_entered l.accounts _ r.accounts;
  locations =
      r.locations;
  holds = r.holds;
  bids = r.bids;
}
step m l (add_location k e) p r = if_some_lem (NumberedOnce m) (class_named k) l _ (λ _. r)
    (λ c _. record {
      accounts = r.accounts;
      locations = next_entered l.locations _ r.locations;
      holds =
          r.holds;
      bids = r.bids;
    })
step m l (set_limit a k) p r = record {
  accounts = next_replaced l.accounts a _ r.accounts;
  locations =
      r.locations;
  holds = r.holds;
  bids = r.bids;
}
step m l (take_hold a t s q) p r = if_some_lem (NumberedOnce m) (side_named s) l _ (λ _. r)
    (λ sd _. held_step (NumberedOnce m) l a t sd q (m t sd) r (λ price _. record {
      accounts = r.accounts;
      locations = r.locations;
      holds = rising_entered (λ h. h.number) (pos 1) l.holds.entries l.holds.next _ refl r.holds;
      bids = r.bids;
    }))
step m l (release_hold n) p r = record {
  accounts = r.accounts;
  locations = r.locations;
  holds =
      rising_kept (λ h. h.number) _ (pos 1) l.holds.entries l.holds.next r.holds;
  bids = r.bids;
}
step m l (place_bid n h cv) p r = if_some_lem (NumberedOnce m) (hold_numbered l n) l _ (λ _. r) (λ d _. record {
  accounts = r.accounts;
  locations = r.locations;
  holds = rising_kept (λ h. h.number) _ (pos 1) l.holds.entries l.holds.next r.holds;
  bids = rising_entered (λ b. b.number) (pos 1) l.bids.entries l.bids.next (new_bid l d h cv) refl r.bids;
})
step m l (withdraw_bid n) p r = record {
  accounts = r.accounts;
  locations = r.locations;
  holds = r.holds;
  bids =
      rising_kept (λ b. b.number) _ (pos 1) l.bids.entries l.bids.next r.bids;
}
step m l close_bidding p r = record {
  accounts = r.accounts;
  locations = r.locations;
  holds = r.holds;
  bids =
      r.bids;
}
step m l (clear_hour h ps) p r = record {
  accounts = r.accounts;
  locations = r.locations;
  holds = r.holds;
  bids = rising_changed (λ b. b.number) (clear_bid h ps) (λ b. same_number (is_at h b) b _) (pos 1) _ l.bids.next
      (rising_kept (λ b. b.number) _ (pos 1) l.bids.entries l.bids.next r.bids);
}
step m l (price_hour h d g) p r = record {
  accounts = r.accounts;
  locations = r.locations;
  holds = r.holds;
  bids =
      rising_changed (λ b. b.number) (price_bid l h d g) (λ b. same_number (is_at h b) b _) (pos 1) l.bids.entries
      l.bids.next r.bids;
}
step m l (pay_account a) p r = record {
  accounts = r.accounts;
  locations = r.locations;
  holds = r.holds;
  bids =
      rising_changed (λ b. b.number) (pay_bid a) (λ b. same_number (eq_z b.account a) b _) (pos 1) l.bids.entries
      l.bids.next r.bids;
}
step m l (adjust_account x) p r = if_some_lem (NumberedOnce m) (period_named x.period) l _ (λ _. r)
    (λ d _. record { accounts = r.accounts; locations = r.locations; holds = r.holds; bids = r.bids })

pub numbered_runs : EveryRun NumberedOnce
numbered_runs m day cs = every_run (NumberedOnce m) m (step m) (empty_ledger day) cs
    (record { accounts = refl; locations = refl; holds = omega (arith, ints); bids = omega (arith, ints) })
