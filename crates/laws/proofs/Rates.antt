-- Holds and bids are charged by the policy's meaning.
use Rattle.std.proofs.Common.{refl}
use Rattle.std.proofs.ByRecursion.{All-push, all_kept_by}
use Rattle.market.specs.Letters.{side_named, class_named, period_named}
use Rattle.rules.specs.declared.entries.HoldEntry.{HoldEntry}
use Rattle.rules.specs.Calls.{Prices, Call, open_account, add_location, set_limit, take_hold, release_hold, place_bid, withdraw_bid, close_bidding, clear_hour, price_hour, pay_account, adjust_account}
use Rattle.rules.specs.Ledger.{BidEntry, Ledger, empty_ledger, hold_numbered}
use Rattle.rules.specs.Rules.{is_at, clear_bid, price_bid, pay_bid, new_bid, enter}
use Rattle.rules.specs.Words.{eq_z}
use Rattle.laws.specs.Every.{EveryRun}
use Rattle.laws.specs.Money.{RatedAs, RatedByMeaning}
use Rattle.laws.proofs.Runs.{Passed, if_some_lem, every_run, held_step, changed, found_has, all_changed}

module _ (m : Prices) where
  abbrev RatedHold : HoldEntry → Type 0
  RatedHold h = RatedAs (m h.location h.side) h.rate

  abbrev RatedBid : BidEntry → Type 0
  RatedBid b = RatedAs (m b.location b.side) b.rate

  step : (l : Ledger) (c : Call) → Passed m l c → RatedByMeaning m l → RatedByMeaning m (enter m l c)
  step l (open_account e k) p r = record { holds = r.holds; bids = r.bids }
  step l (add_location k e) p r = if_some_lem (RatedByMeaning m) (class_named k) l _ (λ _. r)
      (λ c _. record { holds = r.holds; bids = r.bids })
  step l (set_limit e k) p r = record { holds = r.holds; bids = r.bids }
  step l (take_hold a t s q) p r = if_some_lem (RatedByMeaning m) (side_named s) l _ (λ _. r)
      (λ sd _. held_step (RatedByMeaning m) l a t sd q (m t sd) r (λ price e. record {
        holds = All-push RatedHold l.holds.entries _ r.holds (rw e refl);
        bids = r.bids;
      }))
  step l (release_hold n) p r = record {
    holds = all_kept_by _ RatedHold l.holds.entries r.holds;
    bids =
        r.bids;
  }
  step l (place_bid n h cv) p r = if_some_lem (RatedByMeaning m) (hold_numbered l n) l _ (λ _. r) (λ d e. record {
    holds = all_kept_by _ RatedHold l.holds.entries r.holds;
    bids = All-push RatedBid l.bids.entries (new_bid l d h cv) r.bids
        (found_has RatedHold _ l.holds.entries d e r.holds);
  })
  step l (withdraw_bid n) p r =
      record { holds = r.holds; bids = all_kept_by _ RatedBid l.bids.entries r.bids }
  step l close_bidding p r = record { holds = r.holds; bids = r.bids }
  step l (clear_hour h ps) p r = record {
    holds = r.holds;
    bids = all_changed RatedBid (clear_bid h ps) (λ b e. changed RatedBid (is_at h b) b _ (λ _. e) e)
        _ (all_kept_by _ RatedBid l.bids.entries r.bids);
  }
  step l (price_hour h d g) p r =
      record {
        holds = r.holds;
        bids = all_changed RatedBid (price_bid l h d g)
            (λ b e. changed RatedBid (is_at h b) b _ (λ _. e) e) l.bids.entries r.bids;
      }
  step l (pay_account a) p r =
      record {
        holds = r.holds;
        bids =
            all_changed RatedBid (pay_bid a) (λ b e. changed RatedBid (eq_z b.account a) b _ (λ _. e) e) l.bids.entries
            r.bids;
      }
  step l (adjust_account x) p r = if_some_lem (RatedByMeaning m) (period_named x.period) l _ (λ _. r)
      (λ d _. record { holds = r.holds; bids = r.bids })

pub rated_runs : EveryRun RatedByMeaning
rated_runs m day cs = every_run (RatedByMeaning m) m (step m) (empty_ledger day) cs (record { holds = tt; bids = tt })
