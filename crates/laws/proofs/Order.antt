-- No holds in a closed book, only booked bids in an open one.
use Rattle.std.proofs.Common.{◌≡◌, false, not, ℤ, Ok, Err, filter, Result, refl, ap}
use Rattle.std.proofs.ByRecursion.{All-push, all_kept_by}
use Rattle.market.specs.Letters.{side_named, class_named, period_named}
use Rattle.market.specs.declared.day.Day.{Day}
use Rattle.market.specs.declared.words.Side.{Side}
use Rattle.market.specs.declared.fault.SourceFault.{SourceFault}
use Rattle.rules.specs.declared.stages.BidStage.{BidStage}
use Rattle.rules.specs.declared.stages.BidStage.TheVariants.{Booked}
use Rattle.rules.specs.Awards.{day_ahead_at, average_at, exact_amount}
use Rattle.rules.specs.Calls.{Prices, Call, open_account, add_location, set_limit, take_hold, release_hold, place_bid, withdraw_bid, close_bidding, clear_hour, price_hour, pay_account, adjust_account}
use Rattle.rules.specs.Ledger.{BidEntry, Ledger, empty_ledger, hold_numbered}
use Rattle.rules.specs.Questions.{is_open}
use Rattle.rules.specs.Rules.{is_at, priced_stage, averaged_stage, price_bid, paid_stage, pay_bid, new_bid, enter}
use Rattle.rules.specs.Words.{eq_z}
use Rattle.laws.specs.Every.{EveryRun}
use Rattle.laws.specs.Standing.{Orderly}
use Rattle.laws.proofs.Runs.{Passed, asked, none_there, clash, if_some_lem, every_run, held_step, changed, all_changed, not_first}

abbrev pub IsBooked : BidEntry → Type 0
IsBooked b = b.stage ≡ Booked

averaged_booked : (side : Side) (z : ℤ) (r : Result ℤ SourceFault) (s : BidStage) → s ≡ Booked
    → averaged_stage side z r s ≡ Booked
averaged_booked side z (Ok t) s e = ap (priced_stage (λ q. exact_amount side q z t)) e
averaged_booked side z (Err f) s e = e

pub orderly_step : (m : Prices) (l : Ledger) (c : Call) → Passed m l c → Orderly m l → Orderly m (enter m l c)
orderly_step m l (open_account e k) p r = record { no_holds_stand = r.no_holds_stand; all_booked = r.all_booked }
orderly_step m l (add_location k e) p r = if_some_lem (Orderly m) (class_named k) l _ (λ _. r)
    (λ c _. record { no_holds_stand = r.no_holds_stand; all_booked = r.all_booked })
orderly_step m l (set_limit e k) p r = record { no_holds_stand = r.no_holds_stand; all_booked = r.all_booked }
orderly_step m l (take_hold a t s q) p r = if_some_lem (Orderly m) (side_named s) l _ (λ _. r)
    (λ sd _. held_step (Orderly m) l a t sd q (m t sd) r (λ price _. record {
      no_holds_stand = λ e. absurd (clash _ (asked _ _ p.1.1.1.0) e);
      all_booked = r.all_booked;
    }))
orderly_step m l (release_hold n) p r =
    record { no_holds_stand = λ e. ap (filter (λ h. not (eq_z h.number n))) (r.no_holds_stand e); all_booked = r.all_booked }
orderly_step m l (place_bid n h cv) p r = if_some_lem (Orderly m) (hold_numbered l n) l _ (λ _. r) (λ d _. record {
  no_holds_stand = λ e. ap (filter (λ h. not (eq_z h.number n))) (r.no_holds_stand e);
  all_booked = λ e. All-push IsBooked l.bids.entries (new_bid l d h cv) (r.all_booked e) refl;
})
orderly_step m l (withdraw_bid n) p r = record {
  no_holds_stand = r.no_holds_stand;
  all_booked =
      λ e. all_kept_by _ IsBooked l.bids.entries (r.all_booked e);
}
orderly_step m l close_bidding p r = record {
  no_holds_stand = λ e. none_there _ l.holds.entries p.1.0;
  all_booked =
      λ e. absurd (clash false e refl);
}
orderly_step m l (clear_hour h ps) p r = record {
  no_holds_stand = r.no_holds_stand;
  all_booked = λ e. absurd (clash _ e (not_first (is_open l.stage) _ (asked _ _ p.1.0)));
}
orderly_step m l (price_hour h d g) p r = record {
  no_holds_stand = r.no_holds_stand;
  all_booked = λ e. all_changed IsBooked (price_bid l h d g)
      (λ b f. changed IsBooked (is_at h b) b _ (λ _. averaged_booked b.side (day_ahead_at l b.location h)
      (average_at l d g b.location h) b.stage f) f) l.bids.entries (r.all_booked e);
}
orderly_step m l (pay_account a) p r = record {
  no_holds_stand = r.no_holds_stand;
  all_booked = λ e. all_changed IsBooked (pay_bid a)
      (λ b f. changed IsBooked (eq_z b.account a) b _ (λ _. ap paid_stage f) f) l.bids.entries (r.all_booked e);
}
orderly_step m l (adjust_account x) p r = if_some_lem (Orderly m) (period_named x.period) l _ (λ _. r)
    (λ d _. record { no_holds_stand = r.no_holds_stand; all_booked = r.all_booked })

pub orderly_start : (m : Prices) (day : Day) → Orderly m (empty_ledger day)
orderly_start m day = record { no_holds_stand = λ e. refl; all_booked = λ e. tt }

pub orderly_runs : EveryRun Orderly
orderly_runs m day cs = every_run (Orderly m) m (orderly_step m) (empty_ledger day) cs (orderly_start m day)
