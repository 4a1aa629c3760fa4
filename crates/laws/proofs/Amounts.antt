-- Every amount is the one that a price call of the run gave, by its sources' meanings and the hour's day-ahead prices.
use Rattle.std.proofs.Common.{◌≡◌, Bool, true, false, cond, not, ◌||◌, List, [], ◌∷◌, ◌++◌, ℤ, pos, is_some, Some, None, Ok, Err, filter, Option, Result, sym, refl, ap, ◌∙◌, subst, append_assoc, append-nil}
use Rattle.std.specs.List.{AllByRecursion}
use Rattle.std.proofs.ByRecursion.{All-push, all_kept_by, All-map, All-weaker, kept_by_passes}
use Rattle.market.specs.Letters.{side_named, class_named, period_named}
use Rattle.market.specs.declared.day.Day.{Day}
use Rattle.market.specs.declared.words.Side.{Side}
use Rattle.market.specs.declared.words.Layer.TheVariants.{Book}
use Rattle.market.specs.declared.fault.Fault.TheVariants.{BadArgument}
use Rattle.market.specs.declared.fault.SourceFault.{SourceFault}
use Rattle.rules.specs.declared.stages.BidStage.{BidStage}
use Rattle.rules.specs.declared.stages.BidStage.TheVariants.{Booked, Awarded, Priced, Paid}
use Rattle.rules.specs.Awards.{award_by, day_ahead_prices, day_ahead_at, average_at, exact_amount}
use Rattle.rules.specs.Calls.{Prices, Averages, Call, open_account, add_location, set_limit, take_hold, release_hold, place_bid, withdraw_bid, close_bidding, clear_hour, price_hour, pay_account, adjust_account}
use Rattle.rules.specs.Ledger.{BidEntry, HourStage, uncleared, cleared, cleared_and_priced, Ledger, empty_ledger, with_entry, bid_with, with_locations, with_holds, with_bids, with_clawbacks, hold_numbered, holds_without}
use Rattle.rules.specs.Rules.{is_hour, questions, is_at, awarded_stage, clear_bid, stays_after, averaged_stage, price_bid, paid_stage, pay_bid, with_hold, new_bid, new_clawback, enter, refusal_of, move_by}
use Rattle.rules.specs.Runs.{ledger_after, ledger_at}
use Rattle.rules.specs.Words.{eq_z, inside, count_of, at_place, replaced}
use Rattle.laws.specs.Awarding.{PricedIn, StagePriced, AmountLaw}
use Rattle.laws.proofs.Cover.{both, hour_inside}
use Rattle.laws.proofs.Places.{place_set_same, place_set_other}
use Rattle.laws.proofs.Runs.{Passed, passed, each_so, clash, by_test, if_some_lem, held_step, changed}
use Rattle.laws.proofs.Sums.{eq_z_same, eq_z_true}

-- the ledger after one more call
after_push : (m : Prices) (l : Ledger) (cs : List Call) (c : Call) → ledger_after m l (cs ++ (c ∷ [])) ≡ move_by m
    (ledger_after m l cs) c
after_push m l [] c = refl
after_push m l (d ∷ cs) c = after_push m (move_by m l d) cs c

-- what one more call keeps, a run keeps
along : (Q : List Call → Type 0) → ((past : List Call) (c : Call) → Q past → Q (past ++ (c ∷ [])))
    → (past cs : List Call) → Q past → Q (past ++ cs)
along Q step past [] q = subst Q (sym (append-nil past)) q
along Q step past (c ∷ cs) q = subst Q (append_assoc past (c ∷ []) cs)
    (along Q step (past ++ (c ∷ [])) cs (step past c q))

-- an hour that is priced keeps its day-ahead prices
prices_kept : (hs : List HourStage) (h k : ℤ) → inside (pos 1) (count_of hs) h ≡ true
    → day_ahead_prices (at_place uncleared (replaced hs h (cleared_and_priced (day_ahead_prices (at_place uncleared hs h))))
    k) ≡ day_ahead_prices (at_place uncleared hs k)
prices_kept hs h k e = by_test (eq_z k h)
    (λ t. rw (eq_z_true k h t)
    (ap day_ahead_prices (place_set_same uncleared hs (cleared_and_priced (day_ahead_prices (at_place uncleared hs h)))
    h e)))
    (λ t. ap day_ahead_prices
    (place_set_other uncleared hs (cleared_and_priced (day_ahead_prices (at_place uncleared hs h))) h k
    (λ y. clash (eq_z k h) (eq_z_same k h y) t)))

module _ (m : Prices) (day : Day) (past : List Call) (c : Call) where
  abbrev more : List Call
  more = past ++ (c ∷ [])

  abbrev Was : Ledger → BidEntry → BidStage → Type 0
  Was l b s = StagePriced m day past l b s

  abbrev Now : Ledger → BidEntry → BidStage → Type 0
  Now l b s = StagePriced m day more l b s

  -- the hour's price for a bid is as it was
  abbrev Same : Ledger → Ledger → BidEntry → Type 0
  Same l n b = day_ahead_at n b.location b.hour ≡ day_ahead_at l b.location b.hour

  still : (l n : Ledger) (side : Side) (location hour q a : ℤ) → day_ahead_at n location hour ≡ day_ahead_at l location
      hour
      → PricedIn m day past l side location hour q a → PricedIn m day more n side location hour q a
  still l n side location hour q a e r = record {
    before = r.before;
    after = r.after ++ (c ∷ []);
    dispatch = r.dispatch;
    hasp = r.hasp;
    average = r.average;
    called = ap (λ (cs : List Call). cs ++ (c ∷ [])) r.called ∙ append_assoc r.before
        (price_hour hour r.dispatch r.hasp ∷ r.after) (c ∷ []);
    went_through = r.went_through;
    averaged = r.averaged;
    exact = r.exact ∙ ap (λ (z : ℤ). exact_amount side q z r.average) (sym e);
  }

  kept : (l n : Ledger) (b : BidEntry) (s : BidStage) → Same l n b → Was l b s → Now n b s
  kept l n b Booked e w = tt
  kept l n b (Awarded q) e w = tt
  kept l n b (Priced q a) e w = still l n b.side b.location b.hour q a e w
  kept l n b (Paid q a) e w = still l n b.side b.location b.hour q a e w

  paid_on : (l n : Ledger) (b : BidEntry) (s : BidStage) → Same l n b → Was l b s → Now n b (paid_stage s)
  paid_on l n b Booked e w = tt
  paid_on l n b (Awarded q) e w = tt
  paid_on l n b (Priced q a) e w = still l n b.side b.location b.hour q a e w
  paid_on l n b (Paid q a) e w = still l n b.side b.location b.hour q a e w

  abbrev WasAll : Ledger → List BidEntry → Type 0
  WasAll l bs = AllByRecursion (λ b. Was l b b.stage) bs

  abbrev NowAll : Ledger → List BidEntry → Type 0
  NowAll n bs = AllByRecursion (λ b. Now n b b.stage) bs

  -- a call that leaves the hours alone
  all_kept : (l n : Ledger) (bs : List BidEntry) → n.hours ≡ l.hours → WasAll l bs → NowAll n bs
  all_kept l n bs e a = All-weaker (λ b. Was l b b.stage) (λ b. Now n b b.stage)
      (λ b w. kept l n b b.stage
      (ap (λ (hs : List HourStage). at_place (pos 0) (day_ahead_prices (at_place uncleared hs b.hour))
      b.location) e) w) bs a

-- one price call
priced_on : (m : Prices) (day : Day) (past : List Call) (h : ℤ) (d g : Averages) (n : Ledger) (b : BidEntry)
    (r : Result ℤ SourceFault) (s : BidStage)
    → refusal_of m (ledger_at m day past) (price_hour h d g) ≡ None → b.hour ≡ h → average_at (ledger_at m day past) d g
    b.location h ≡ r
    → Same m day past (price_hour h d g) (ledger_at m day past) n b → StagePriced m day past (ledger_at m day past) b s
    → StagePriced m day (past ++ (price_hour h d g ∷ [])) n b
    (averaged_stage b.side (day_ahead_at (ledger_at m day past) b.location h) r s)
priced_on m day past h d g n b (Err f) s through at e same w =
    kept m day past (price_hour h d g) (ledger_at m day past) n b s same w
priced_on m day past h d g n b (Ok t) Booked through at e same w = tt
priced_on m day past h d g n b (Ok t) (Awarded q) through at e same w =
    let l = ledger_at m day past in
    subst (λ (k : ℤ). PricedIn m day (past ++ (price_hour h d g ∷ [])) n b.side b.location k q
    (exact_amount b.side q (day_ahead_at l b.location h) t)) (sym at) (record {
      before = past;
      after = [];
      dispatch = d;
      hasp = g;
      average = t;
      called = refl;
      went_through = through;
      averaged = e;
      exact = ap (λ (z : ℤ). exact_amount b.side q z t)
          (subst (λ (k : ℤ). day_ahead_at l b.location k ≡ day_ahead_at n b.location k) at (sym same));
    })
priced_on m day past h d g n b (Ok t) (Priced q a) through at e same w =
    kept m day past (price_hour h d g) (ledger_at m day past) n b (Priced q a) same w
priced_on m day past h d g n b (Ok t) (Paid q a) through at e same w =
    kept m day past (price_hour h d g) (ledger_at m day past) n b (Paid q a) same w

abbrev Amounts : Prices → Day → List Call → Ledger → Type 0
Amounts m day cs l = AllByRecursion (λ b. StagePriced m day cs l b b.stage) l.bids.entries

-- one clear call: a bid that stays and is of the hour is awarded
cleared_on : (m : Prices) (day : Day) (past : List Call) (c : Call) (h : ℤ) (l n : Ledger) (t : Bool) (o : Option ℤ)
    (b : BidEntry)
    → (not t || is_some o) ≡ true → (t ≡ false → Same m day past c l n b) → StagePriced m day past l b b.stage
    → StagePriced m day (past ++ (c ∷ [])) n (cond t (bid_with b (awarded_stage o b.stage)) b)
    (cond t (bid_with b (awarded_stage o b.stage)) b).stage
cleared_on m day past c h l n true None b k same w = absurd (clash false k refl)
cleared_on m day past c h l n true (Some q) b k same w = tt
cleared_on m day past c h l n false o b k same w = kept m day past c l n b b.stage (same refl) w

module _ (m : Prices) (day : Day) (past : List Call) where
  abbrev now : Ledger
  now = ledger_at m day past

  abbrev bids_now : List BidEntry
  bids_now = now.bids.entries

  abbrev After : Call → Ledger → Type 0
  After c n = Amounts m day (past ++ (c ∷ [])) n

  stays : (c : Call) → Amounts m day past now → After c now
  stays c a = all_kept m day past c now now bids_now refl a

  clears : (h : ℤ) (ps : List ℤ) → Amounts m day past now → After (clear_hour h ps) (enter m now (clear_hour h ps))
  clears h ps a =
      let c = clear_hour h ps in
      let n = enter m now c in
      let ks = filter (stays_after h ps) bids_now in
      let pairs = both (λ b. stays_after h ps b ≡ true) (λ b. StagePriced m day past now b b.stage) ks
      (kept_by_passes (stays_after h ps) bids_now)
      (all_kept_by (stays_after h ps) (λ b. StagePriced m day past now b b.stage) bids_now a) in
      All-map (λ b. StagePriced m day (past ++ (c ∷ [])) n b b.stage) (clear_bid h ps) ks
      (All-weaker (λ b. (stays_after h ps b ≡ true) × StagePriced m day past now b b.stage)
      (λ b. StagePriced m day (past ++ (c ∷ [])) n (clear_bid h ps b) (clear_bid h ps b).stage)
      (λ b k. cleared_on m day past c h now n (is_at h b) (award_by ps b) b k.0
      (λ t. ap (λ (s : HourStage). at_place (pos 0) (day_ahead_prices s) b.location)
      (place_set_other uncleared now.hours (cleared ps) h b.hour
      (λ y. clash (eq_z b.hour h) (eq_z_same b.hour h y) t)))
      k.1) ks pairs)

  prices : (h : ℤ) (d g : Averages) → refusal_of m now (price_hour h d g) ≡ None → is_hour now h ≡ true
      → Amounts m day past now → After (price_hour h d g) (enter m now (price_hour h d g))
  prices h d g through there a =
      let c = price_hour h d g in
      let n = enter m now c in
      let same : (b : BidEntry) → Same m day past c now n b =
      λ b. ap (λ (ps : List ℤ). at_place (pos 0) ps b.location)
      (prices_kept now.hours h b.hour (hour_inside m day past h there)) in
      All-map (λ b. StagePriced m day (past ++ (c ∷ [])) n b b.stage) (price_bid now h d g) bids_now
      (All-weaker (λ b. StagePriced m day past now b b.stage) (λ b. StagePriced m day (past ++ (c ∷ [])) n
      (price_bid now h d g b) (price_bid now h d g b).stage)
      (λ b w. changed (λ e. StagePriced m day (past ++ (c ∷ [])) n e e.stage) (is_at h b) b _
      (λ t. priced_on m day past h d g n b (average_at now d g b.location h) b.stage through
      (eq_z_true b.hour h t) refl (same b) w)
      (kept m day past c now n b b.stage (same b) w)) bids_now a)

  pays : (k : ℤ) → Amounts m day past now → After (pay_account k) (enter m now (pay_account k))
  pays k a =
      let c = pay_account k in
      let n = enter m now c in
      All-map (λ b. StagePriced m day (past ++ (c ∷ [])) n b b.stage) (pay_bid k) bids_now
      (All-weaker (λ b. StagePriced m day past now b b.stage) (λ b. StagePriced m day (past ++ (c ∷ [])) n
      (pay_bid k b) (pay_bid k b).stage)
      (λ b w. changed (λ e. StagePriced m day (past ++ (c ∷ [])) n e e.stage) (eq_z b.account k) b _
      (λ t. paid_on m day past c now n b b.stage refl w)
      (kept m day past c now n b b.stage refl w)) bids_now a)

  step : (c : Call) → refusal_of m now c ≡ None → Passed m now c → Amounts m day past now → After c (enter m now c)
  step (open_account e k) through p a = all_kept m day past (open_account e k) now (enter m now (open_account e k))
      bids_now refl a
  step (add_location k e) through p a = if_some_lem (After (add_location k e)) (class_named k) now
      _ (λ _. stays (add_location k e) a)
      (λ s _. all_kept m day past (add_location k e) now
      (with_locations now (with_entry now.locations (record { class = s; limit = e }))) bids_now refl a)
  step (set_limit e k) through p a = all_kept m day past (set_limit e k) now (enter m now (set_limit e k)) bids_now
      refl a
  step (take_hold k t s q) through p a = if_some_lem (After (take_hold k t s q)) (side_named s) now
      _ (λ _. stays (take_hold k t s q) a)
      (λ sd _. held_step (After (take_hold k t s q)) now k t sd q (m t sd) (stays (take_hold k t s q) a)
      (λ price _. all_kept m day past (take_hold k t s q) now (with_hold now k t sd q (Ok price)) bids_now refl a))
  step (release_hold n) through p a = all_kept m day past (release_hold n) now (enter m now (release_hold n)) bids_now
      refl a
  step (place_bid n h cv) through p a = if_some_lem (After (place_bid n h cv)) (hold_numbered now n) now
      _ (λ _. stays (place_bid n h cv) a)
      (λ d _. let k = with_bids (with_holds now (holds_without now n)) (with_entry now.bids (new_bid now d h cv)) in
      All-push (λ b. StagePriced m day (past ++ (place_bid n h cv ∷ [])) k b b.stage) bids_now (new_bid now d h cv)
      (all_kept m day past (place_bid n h cv) now k bids_now refl a) tt)
  step (withdraw_bid n) through p a = all_kept m day past (withdraw_bid n) now (enter m now (withdraw_bid n)) _ refl
      (all_kept_by (λ b. not (eq_z b.number n)) (λ b. StagePriced m day past now b b.stage) bids_now a)
  step close_bidding through p a = all_kept m day past close_bidding now (enter m now close_bidding) bids_now refl a
  step (clear_hour h ps) through p a = clears h ps a
  step (price_hour h d g) through p a = prices h d g through (each_so (BadArgument Book) (pos 1) (is_hour now h ∷ [])
      p.0).0 a
  step (pay_account k) through p a = pays k a
  step (adjust_account x) through p a = if_some_lem (After (adjust_account x)) (period_named x.period) now
      _ (λ _. stays (adjust_account x) a)
      (λ s _. all_kept m day past (adjust_account x) now
      (with_clawbacks now (now.clawbacks ++ (new_clawback now x s ∷ []))) bids_now refl a)

  one_more : (c : Call) → Amounts m day past now → Amounts m day (past ++ (c ∷ []))
      (ledger_at m day (past ++ (c ∷ [])))
  one_more c a = subst (After c) (sym (after_push m (empty_ledger day) past c))
      (if_some_lem (After c) (refusal_of m now c) (enter m now c) (λ f. now)
      (λ e. step c e (passed (questions m now c) e) a) (λ f e. stays c a))

pub amount_runs : AmountLaw
amount_runs m day cs = along (λ cs. Amounts m day cs (ledger_at m day cs)) (one_more m day) [] cs tt
