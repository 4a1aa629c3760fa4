-- No table has more entries than places.
use Rattle.std.proofs.Common.{◌≡◌, ℕ, ◌<◌, ◌≤◌, Bool, true, ◌&&◌, List, [], ◌∷◌, ◌++◌, length, pos, filter, arith, length-append}
use lib.Signed.{lt_z}
use Rattle.std.proofs.lemmas.Int.{ints}
use Rattle.std.proofs.lemmas.List.{length-map}
use Rattle.market.specs.Letters.{side_named, class_named, period_named}
use Rattle.rules.specs.Calls.{Prices, Call, open_account, add_location, set_limit, take_hold, release_hold, place_bid, withdraw_bid, close_bidding, clear_hour, price_hour, pay_account, adjust_account}
use Rattle.rules.specs.Ledger.{Ledger, empty_ledger, hold_numbered}
use Rattle.rules.specs.Rules.{enter}
use Rattle.laws.specs.Every.{EveryRun}
use Rattle.laws.specs.Standing.{Sized}
use Rattle.laws.proofs.Places.{replaced_long}
use Rattle.laws.proofs.Runs.{Passed, asked, if_some_lem, every_run, held_step, and_left, kept_shorter}

free_place : (n k : ℕ) (b : Bool) → (lt_z (pos n) (pos k) && b) ≡ true → n < k
free_place n k b e = let h = and_left (lt_z (pos n) (pos k)) b e in grind (arith, ints)

one_more : {X : Type 0} (xs : List X) (x : X) (k : ℕ) → length xs < k → length (xs ++ (x ∷ [])) ≤ k
one_more xs x k h = let e = length-append xs (x ∷ []) in omega arith

kept_short : {X : Type 0} (p : X → Bool) (xs : List X) (k : ℕ) → length xs ≤ k → length (filter p xs) ≤ k
kept_short p xs k h = let e = kept_shorter p xs in omega arith

size_step : (m : Prices) (l : Ledger) (c : Call) → Passed m l c → Sized m l → Sized m (enter m l c)
size_step m l (open_account e k) p r =
    record {
      accounts = one_more l.accounts.entries _ 16 (free_place _ 16 _ (asked _ _ p.1.1.0));
      locations =
          r.locations;
      holds = r.holds;
      bids = r.bids;
    }
size_step m l (add_location k e) p r = if_some_lem (Sized m) (class_named k) l _ (λ _. r) (λ c _. record {
  accounts = r.accounts;
  holds = r.holds;
  bids = r.bids;
  locations = one_more l.locations.entries _ 64 (free_place _ 64 _ (asked _ _ p.1.1.0));
})
size_step m l (set_limit a k) p r = record {
  accounts = rw (replaced_long l.accounts.entries a _) r.accounts;
  locations = r.locations;
  holds = r.holds;
  bids = r.bids;
}
size_step m l (take_hold a t s q) p r = if_some_lem (Sized m) (side_named s) l _ (λ _. r)
    (λ sd _. held_step (Sized m) l a t sd q (m t sd) r (λ price _. record {
      accounts = r.accounts;
      locations = r.locations;
      bids = r.bids;
      holds = one_more l.holds.entries _ 32 (free_place _ 32 _ (asked _ _ p.1.1.1.1.0));
    }))
size_step m l (release_hold n) p r = record {
  accounts = r.accounts;
  locations = r.locations;
  holds =
      kept_short _ l.holds.entries 32 r.holds;
  bids = r.bids;
}
size_step m l (place_bid n h cv) p r = if_some_lem (Sized m) (hold_numbered l n) l _ (λ _. r) (λ d _. record {
  accounts = r.accounts;
  locations = r.locations;
  holds = kept_short _ l.holds.entries 32 r.holds;
  bids = one_more l.bids.entries _ 256 (free_place _ 256 _ (asked _ _ p.1.1.0));
})
size_step m l (withdraw_bid n) p r = record {
  accounts = r.accounts;
  locations = r.locations;
  holds =
      r.holds;
  bids = kept_short _ l.bids.entries 256 r.bids;
}
size_step m l close_bidding p r = record {
  accounts = r.accounts;
  locations = r.locations;
  holds = r.holds;
  bids =
      r.bids;
}
size_step m l (clear_hour h ps) p r = record {
  accounts = r.accounts;
  locations = r.locations;
  holds = r.holds;
  bids = rw length-map
      (kept_short _ l.bids.entries 256 r.bids);
}
size_step m l (price_hour h d g) p r = record {
  accounts = r.accounts;
  locations = r.locations;
  holds =
      r.holds;
  bids = rw length-map r.bids;
}
size_step m l (pay_account a) p r = record {
  accounts = r.accounts;
  locations = r.locations;
  holds =
      r.holds;
  bids = rw length-map r.bids;
}
size_step m l (adjust_account x) p r = if_some_lem (Sized m) (period_named x.period) l _ (λ _. r)
    (λ d _. record { accounts = r.accounts; locations = r.locations; holds = r.holds; bids = r.bids })

pub sized_runs : EveryRun Sized
sized_runs m day cs = every_run (Sized m) m (size_step m) (empty_ledger day) cs
    (record { accounts = omega arith; locations = omega arith; holds = omega arith; bids = omega arith })
