-- The law of ranks. Assumes nothing.
--   RankedOnce m l   each rank from 1 to the accounts has exactly one account, and that is read
use Rattle.std.specs.Prelude.{◌≡◌, true, ℤ, Ok}
use Rattle.rules.specs.Calls.{Prices}
use Rattle.rules.specs.Ledger.{Ledger}
use Rattle.rules.specs.Questions.{is_among}
use Rattle.rules.specs.Readings.{is_ranked, read_ranked}

pub record RankedOnce (m : Prices) (l : Ledger) : Type 0 where
  pub one : (rank : ℤ) → is_among l.accounts rank ≡ true
      → (account : ℤ) × (is_among l.accounts account ≡ true) × (is_ranked l rank account ≡ true)
      × (read_ranked l rank ≡ Ok account)
  pub only : (rank a b : ℤ) → is_among l.accounts a ≡ true → is_among l.accounts b ≡ true
      → is_ranked l rank a ≡ true → is_ranked l rank b ≡ true → a ≡ b
