-- Laws on charges, credit, cash and rounding. Assumes nothing.
--   RatedAs price rate      the rate of a price; where a policy has none, nothing is rated
--   RatedByMeaning m l      holds and bids are charged by the policy's meaning
--   at_stake l account      for each priced and unpaid award, its quantity × rate and its exact amount
--   Covered m l             every account's available credit is at least that
--   NeverOverdrawn m l      while bidding is open, no account is overdrawn
--   PaidClosely l account   cash and clawbacks are, 60 units of amount for each award, near what was paid exactly
--   CashKept m l            so for every account; the balancing account has what was clawed back from all
--   Nearest step amount c   c is the nearest whole number of steps to an amount; at a tie, the one away from zero
--   RoundingLaws            rounding gives it, and nothing else is it
use Rattle.std.specs.Prelude.{◌≡◌, ℕ, true, ℤ, pos, ◌+ℤ◌, ◌-ℤ◌, ◌*ℤ◌, ◌≤ℤ◌, ◌<ℤ◌, Ok, Err, Result}
use Rattle.std.specs.List.{AllByRecursion}
use Rattle.market.specs.declared.fault.PolicyFault.{PolicyFault}
use Rattle.rules.specs.Awards.{award_in, amount_in, cents_of}
use Rattle.rules.specs.Calls.{Prices}
use Rattle.rules.specs.Credit.{rate_of, charge_of, available_credit}
use Rattle.rules.specs.Ledger.{Ledger}
use Rattle.rules.specs.Questions.{is_among, is_open}
use Rattle.rules.specs.Readings.{total_of, paid_to, clawed_from, cash_of, read_balancing, account_numbers}
use Rattle.rules.specs.Rules.{due_to}
use Rattle.rules.specs.Words.{rounded, count_of, sum_of}

abbrev pub RatedAs : Result ℤ PolicyFault → ℤ → Type 0
RatedAs (Ok price) rate = rate ≡ rate_of price
RatedAs (Err fault) rate = ⊥

pub record RatedByMeaning (m : Prices) (l : Ledger) : Type 0 where
  pub holds : AllByRecursion (λ h. RatedAs (m h.location h.side) h.rate) l.holds.entries
  pub bids : AllByRecursion (λ b. RatedAs (m b.location b.side) b.rate) l.bids.entries

abbrev pub at_stake : Ledger → ℤ → ℤ
at_stake l account = sum_of (λ b. charge_of (award_in b.stage) b.rate +ℤ amount_in b.stage) (due_to l account)

abbrev pub Covered : Prices → Ledger → Type 0
Covered m l = (account : ℤ) → is_among l.accounts account ≡ true → at_stake l account ≤ℤ available_credit l account

abbrev pub NeverOverdrawn : Prices → Ledger → Type 0
NeverOverdrawn m l = is_open l.stage ≡ true → (account : ℤ) → is_among l.accounts account ≡ true
    → pos 0 ≤ℤ available_credit l account

abbrev pub paid_exactly : Ledger → ℤ → ℤ
paid_exactly l account = sum_of (λ b. amount_in b.stage) (paid_to l account)

abbrev pub paid_cents : Ledger → ℤ → ℤ
paid_cents l account = cash_of l account +ℤ total_of (clawed_from l account)

pub record PaidClosely (l : Ledger) (account : ℤ) : Type 0 where
  pub below : ((pos 120 *ℤ paid_cents l account) -ℤ paid_exactly l account) ≤ℤ (pos 60 *ℤ count_of (paid_to l account))
  pub above : (paid_exactly l account -ℤ (pos 120 *ℤ paid_cents l account)) ≤ℤ (pos 60 *ℤ count_of (paid_to l account))

pub record CashKept (m : Prices) (l : Ledger) : Type 0 where
  pub closely : (account : ℤ) → PaidClosely l account
  pub balanced : read_balancing l ≡ sum_of (λ account. total_of (clawed_from l account)) (account_numbers l)

pub record Nearest (step : ℕ) (amount c : ℤ) : Type 0 where
  pub below : (pos 2 *ℤ (amount -ℤ (pos step *ℤ c))) ≤ℤ pos step
  pub above : (pos 2 *ℤ ((pos step *ℤ c) -ℤ amount)) ≤ℤ pos step
  pub tie_up : (pos 2 *ℤ (amount -ℤ (pos step *ℤ c))) ≡ pos step → amount <ℤ pos 0
  pub tie_down : (pos 2 *ℤ ((pos step *ℤ c) -ℤ amount)) ≡ pos step → pos 0 <ℤ amount

-- cents of amounts, 120 to the cent, and of adjustments, 400,000 to the cent
pub record RoundingLaws : Type 0 where
  pub cents : (amount : ℤ) → Nearest 120 amount (cents_of amount)
  pub cents_only : (amount c d : ℤ) → Nearest 120 amount c → Nearest 120 amount d → c ≡ d
  pub adjustments : (amount : ℤ) → Nearest 400000 amount (rounded 400000 amount)
  pub adjustments_only : (amount c d : ℤ) → Nearest 400000 amount c → Nearest 400000 amount d → c ≡ d
