-- The readings: refused by question 1, 2 or 3, or a value. They move nothing. Assumes nothing.
--   read_as refusal value     the value, unless refused
--   cash_of l account         paid cents less clawbacks
--   total_of cs, paid_to l account, clawed_from l account
--   goes_before l a b         more cash goes first, then more available credit, then the lower number
--   is_ranked l rank account  whether exactly rank - 1 accounts go before it
--   read_available l account, read_cash l account, read_balancing l, read_stage l bid, read_ranked l rank
use Rattle.std.specs.Prelude.{Bool, cond, List, [], ◌∷◌, length, ℤ, pos, ◌+ℤ◌, ◌-ℤ◌, Ok, Err, filter, Option, Result, int_lt}
use Rattle.std.specs.Option.{unwrap_or}
use Rattle.market.specs.declared.fault.Fault.{Fault}
use Rattle.market.specs.declared.fault.Fault.TheVariants.{NotStanding}
use Rattle.rules.specs.declared.entries.ClawbackEntry.{ClawbackEntry}
use Rattle.rules.specs.declared.stages.BidStage.{BidStage}
use Rattle.rules.specs.Words.{eq_z, inside, count_of, first, sum_of, up_to, if_some}
use Rattle.rules.specs.Ledger.{BidEntry, Ledger, bid_numbered}
use Rattle.rules.specs.Credit.{bids_of, available_credit}
use Rattle.rules.specs.Awards.{is_paid}
use Rattle.rules.specs.Questions.{within_bounds, account_known}
use Rattle.rules.specs.Rules.{bid_cents}

abbrev pub read_as : {X : Type 0} → Option Fault → X → Result X Fault
read_as refusal value = if_some refusal (Ok value) (λ fault. Err fault)

abbrev pub read_available : Ledger → ℤ → Result ℤ Fault
read_available l account = read_as (account_known l account) (available_credit l account)

abbrev pub total_of : List ClawbackEntry → ℤ
total_of cs = sum_of (λ c. c.cents) cs

abbrev pub paid_to : Ledger → ℤ → List BidEntry
paid_to l account = filter (λ b. is_paid b.stage) (bids_of l account)

abbrev pub clawed_from : Ledger → ℤ → List ClawbackEntry
clawed_from l account = filter (λ c. eq_z c.account account) l.clawbacks

abbrev pub cash_of : Ledger → ℤ → ℤ
cash_of l account = sum_of bid_cents (paid_to l account) -ℤ total_of (clawed_from l account)

abbrev pub read_cash : Ledger → ℤ → Result ℤ Fault
read_cash l account = read_as (account_known l account) (cash_of l account)

-- all clawbacks
abbrev pub read_balancing : Ledger → ℤ
read_balancing l = total_of l.clawbacks

abbrev pub read_stage : Ledger → ℤ → Result BidStage Fault
read_stage l bid = if_some (bid_numbered l bid) (Err (NotStanding bid)) (λ b. Ok b.stage)

abbrev pub goes_before : Ledger → ℤ → ℤ → Bool
goes_before l a b =
    cond (eq_z (cash_of l a) (cash_of l b))
    (cond (eq_z (available_credit l a) (available_credit l b)) (int_lt a b)
    (int_lt (available_credit l b) (available_credit l a)))
    (int_lt (cash_of l b) (cash_of l a))

abbrev pub account_numbers : Ledger → List ℤ
account_numbers l = up_to (length l.accounts.entries)

abbrev pub is_ranked : Ledger → (rank account : ℤ) → Bool
is_ranked l rank account =
    eq_z (count_of (filter (λ other. goes_before l other account) (account_numbers l)) +ℤ pos 1) rank

-- each rank from 1 to the accounts has one, so that the 0 is never read
abbrev pub read_ranked : Ledger → ℤ → Result ℤ Fault
read_ranked l rank = read_as (within_bounds (inside (pos 1) (count_of l.accounts.entries) rank ∷ []))
    (unwrap_or (first (filter (is_ranked l rank) (account_numbers l))) (pos 0))
