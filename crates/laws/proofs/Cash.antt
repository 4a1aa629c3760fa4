-- Cash, clawbacks and the balancing account.
use Rattle.std.proofs.Common.{◌≡◌, ℕ, zero, suc, true, false, cond, List, [], ◌∷◌, ◌++◌, length, ℤ, pos, ◌+ℤ◌, ◌-ℤ◌, ◌*ℤ◌, ◌≤ℤ◌, ◌<ℤ◌, filter, sym, refl, ◌∙◌, arith, length-append}
use Rattle.std.specs.List.{AllByRecursion}
use Rattle.std.proofs.ByRecursion.{All-push, All-weaker}
use Rattle.std.proofs.lemmas.Int.{ints, by_lt_z}
use Rattle.market.specs.Letters.{side_named, class_named, period_named}
use Rattle.rules.specs.declared.entries.ClawbackEntry.{ClawbackEntry}
use Rattle.rules.specs.Awards.{amount_in}
use Rattle.rules.specs.Calls.{Prices, Call, open_account, add_location, set_limit, take_hold, release_hold, place_bid, withdraw_bid, close_bidding, clear_hour, price_hour, pay_account, adjust_account}
use Rattle.rules.specs.Ledger.{BidEntry, Ledger, empty_ledger, hold_numbered}
use Rattle.rules.specs.Readings.{total_of, paid_to, clawed_from}
use Rattle.rules.specs.Rules.{bid_cents, new_clawback, enter}
use Rattle.rules.specs.Runs.{ledger_at}
use Rattle.rules.specs.Words.{eq_z, inside, count_of, sum_of, up_to}
use Rattle.laws.specs.Every.{EveryRun}
use Rattle.laws.specs.Money.{PaidClosely, CashKept}
use Rattle.laws.proofs.Places.{replaced_long}
use Rattle.laws.proofs.Rounds.{cents}
use Rattle.laws.proofs.Runs.{Passed, asked, if_some_lem, every_run, held_step}
use Rattle.laws.proofs.Sums.{inside_out, inside_in, eq_z_apart, eq_z_same, sum_kept}

-- each award rounds by 60 units at most

abbrev amount : BidEntry → ℤ
amount b = amount_in b.stage

close_up : (bs : List BidEntry) → ((pos 120 *ℤ sum_of bid_cents bs) -ℤ sum_of amount bs) ≤ℤ (pos 60 *ℤ count_of bs)
close_up [] = omega (arith, ints)
close_up (b ∷ bs) = let r = close_up bs in let n = (cents (amount b)).above in omega (arith, ints)

close_down : (bs : List BidEntry) → (sum_of amount bs -ℤ (pos 120 *ℤ sum_of bid_cents bs)) ≤ℤ (pos 60 *ℤ count_of bs)
close_down [] = omega (arith, ints)
close_down (b ∷ bs) = let r = close_down bs in let n = (cents (amount b)).below in omega (arith, ints)

regained : (c t : ℤ) → (c -ℤ t) +ℤ t ≡ c
regained c t = omega (arith, ints)

closely : (l : Ledger) (account : ℤ) → PaidClosely l account
closely l a =
    let e = regained (sum_of bid_cents (paid_to l a)) (total_of (clawed_from l a)) in
    record { below = rw e (close_up (paid_to l a)); above = rw e (close_down (paid_to l a)) }

-- the clawbacks of all accounts

sum_snoc : {X : Type 0} (f : X → ℤ) (xs : List X) (x : X) → sum_of f (xs ++ (x ∷ [])) ≡ sum_of f xs +ℤ f x
sum_snoc f [] x = omega (arith, ints)
sum_snoc f (y ∷ xs) x = let e = sum_snoc f xs x in omega (arith, ints)

module _ (k v : ℤ) where
  abbrev at : ℤ → ℤ
  at a = cond (eq_z k a) v (pos 0)

  beyond : (n : ℕ) → pos n <ℤ k → sum_of at (up_to n) ≡ pos 0
  beyond zero h = refl
  beyond (suc n) h =
      let e = beyond n (omega (arith, ints)) in
      let t : eq_z k (pos (suc n)) ≡ false = eq_z_apart k (pos (suc n)) (λ y. omega (arith, ints)) in
      let z : at (pos (suc n)) ≡ pos 0 = rw t refl in
      sum_snoc at (up_to n) (pos (suc n)) ∙ omega (arith, ints)

  just_one : (n : ℕ) → pos 1 ≤ℤ k → k ≤ℤ pos n → sum_of at (up_to n) ≡ v
  just_one zero low high = absurd (omega (arith, ints))
  just_one (suc n) low high = sum_snoc at (up_to n) (pos (suc n)) ∙ by_lt_z (pos n) k
      (λ h. let e = beyond n h in
      let t : eq_z k (pos (suc n)) ≡ true = eq_z_same k (pos (suc n)) (omega (arith, ints)) in
      let z : at (pos (suc n)) ≡ v = rw t refl in
      omega (arith, ints))
      (λ h. let e = just_one n low h in
      let t : eq_z k (pos (suc n)) ≡ false = eq_z_apart k (pos (suc n)) (λ y. omega (arith, ints)) in
      let z : at (pos (suc n)) ≡ pos 0 = rw t refl in
      omega (arith, ints))

abbrev clawed : List ClawbackEntry → ℤ → ℤ
clawed cs a = total_of (filter (λ c. eq_z c.account a) cs)

none_clawed : (ks : List ℤ) → sum_of (clawed []) ks ≡ pos 0
none_clawed [] = refl
none_clawed (k ∷ ks) = let e = none_clawed ks in omega (arith, ints)

split : (c : ClawbackEntry) (cs : List ClawbackEntry) (ks : List ℤ) → sum_of (clawed (c ∷ cs)) ks ≡ sum_of
    (at c.account c.cents) ks +ℤ sum_of (clawed cs) ks
split c cs [] = refl
split c cs (k ∷ ks) =
    let e = split c cs ks in
    let f = sum_kept (λ c. eq_z c.account k) (λ c. c.cents) (c ∷ cs) in
    let g = sum_kept (λ c. eq_z c.account k) (λ c. c.cents) cs in
    omega (arith, ints)

all_clawed : (n : ℕ) (cs : List ClawbackEntry) → AllByRecursion (λ c. inside (pos 1) (pos n) c.account ≡ true) cs
    → total_of cs ≡ sum_of (clawed cs) (up_to n)
all_clawed n [] a = sym (none_clawed (up_to n))
all_clawed n (c ∷ cs) a =
    let h = inside_out (pos 1) (pos n) c.account a.0 in
    let e = all_clawed n cs a.1 in
    let f = split c cs (up_to n) in
    let g = just_one c.account c.cents n h.0 h.1 in
    omega (arith, ints)

-- clawbacks are from accounts that are there

record Known (l : Ledger) : Type 0 where
  known : AllByRecursion (λ c. inside (pos 1) (count_of l.accounts.entries) c.account ≡ true) l.clawbacks

wider : (n k : ℤ) (cs : List ClawbackEntry) → n ≤ℤ k → AllByRecursion (λ c. inside (pos 1) n c.account ≡ true) cs
    → AllByRecursion (λ c. inside (pos 1) k c.account ≡ true) cs
wider n k cs le a = All-weaker (λ c. inside (pos 1) n c.account ≡ true) (λ c. inside (pos 1) k c.account ≡ true)
    (λ c e. let h = inside_out (pos 1) n c.account e in inside_in (pos 1) k c.account h.0
    (omega (arith, ints, h.1))) cs a

step : (m : Prices) (l : Ledger) (c : Call) → Passed m l c → Known l → Known (enter m l c)
step m l (open_account e k) p r =
    record {
      known = wider _ _ l.clawbacks (let e = length-append l.accounts.entries
          (record { entity = e; limit = k } ∷ []) in omega (arith, ints)) r.known;
    }
step m l (add_location k e) p r = if_some_lem Known (class_named k) l _ (λ _. r) (λ c _. record { known = r.known })
step m l (set_limit a k) p r =
    record {
      known = wider (count_of l.accounts.entries) _ l.clawbacks (rw replaced_long (omega (arith, ints)))
          r.known;
    }
step m l (take_hold a t s q) p r = if_some_lem Known (side_named s) l _ (λ _. r)
    (λ sd _. held_step Known l a t sd q (m t sd) r (λ price _. record { known = r.known }))
step m l (release_hold n) p r = record { known = r.known }
step m l (place_bid n h cv) p r = if_some_lem Known (hold_numbered l n) l _ (λ _. r) (λ d _. record { known = r.known })
step m l (withdraw_bid n) p r = record { known = r.known }
step m l close_bidding p r = record { known = r.known }
step m l (clear_hour h ps) p r = record { known = r.known }
step m l (price_hour h d g) p r = record { known = r.known }
step m l (pay_account a) p r = record { known = r.known }
step m l (adjust_account x) p r = if_some_lem Known (period_named x.period) l _ (λ _. r) (λ d _. record {
  known = All-push (λ c. inside (pos 1) (count_of l.accounts.entries) c.account ≡ true) l.clawbacks
      (new_clawback l x d) r.known (asked _ _ p.1.0);
})

pub cash_runs : EveryRun CashKept
cash_runs m day cs =
    let k = every_run Known m (step m) (empty_ledger day) cs (record { known = tt }) in
    let l = ledger_at m day cs in
    record { closely = closely l; balanced = all_clawed (length l.accounts.entries) l.clawbacks k.known }
