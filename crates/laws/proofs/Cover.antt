-- Every account's credit covers what it has at stake.
use Rattle.std.proofs.Common.{◌≡◌, ℕ, Bool, true, false, cond, not, ◌&&◌, List, [], ◌∷◌, ◌++◌, map, length, ℤ, pos, negsuc, ◌+ℤ◌, ◌*ℤ◌, neg_ℤ, nat_abs, ◌≤ℤ◌, is_some, Some, None, Ok, Err, filter, Result, sym, refl, ap, ◌∙◌, subst, arith, length-append}
use lib.ListN.{length-replicate}
use Rattle.std.specs.List.{AllByRecursion}
use Rattle.std.proofs.ByRecursion.{All-push, all_kept_by, All-map, All-weaker}
use Rattle.std.proofs.lemmas.Int.{ints}
use Rattle.market.specs.Letters.{side_named, class_named, period_named}
use Rattle.market.specs.declared.day.Day.{Day}
use Rattle.market.specs.declared.segment.Segment.{Segment}
use Rattle.market.specs.declared.words.Side.{Side}
use Rattle.market.specs.declared.words.Side.TheVariants.{Supply, Demand}
use Rattle.market.specs.declared.words.Layer.TheVariants.{Book}
use Rattle.market.specs.declared.fault.Fault.TheVariants.{BadArgument, BadCurve}
use Rattle.market.specs.declared.fault.PolicyFault.{PolicyFault}
use Rattle.market.specs.declared.fault.SourceFault.{SourceFault}
use Rattle.rules.specs.declared.entries.AccountEntry.{AccountEntry}
use Rattle.rules.specs.declared.entries.HoldEntry.{HoldEntry}
use Rattle.rules.specs.declared.stages.BidStage.{BidStage}
use Rattle.rules.specs.declared.stages.BidStage.TheVariants.{Booked, Awarded, Priced, Paid}
use Rattle.rules.specs.Awards.{is_met, last_end, award_by, is_award, is_due, award_in, amount_in, day_ahead_prices, day_ahead_at, average_at, exact_amount}
use Rattle.rules.specs.Calls.{Prices, Call, open_account, add_location, set_limit, take_hold, release_hold, place_bid, withdraw_bid, close_bidding, clear_hour, price_hour, pay_account, adjust_account}
use Rattle.rules.specs.Credit.{rate_of, end_from, highest_point, charge_of, stage_charge, hold_charge, bid_charge, bids_of, charges_of, credit_of, available_credit}
use Rattle.rules.specs.Ledger.{BidEntry, HourStage, uncleared, cleared, cleared_and_priced, Ledger, empty_ledger, bid_with, no_account, account_at, hour_at, hold_numbered}
use Rattle.rules.specs.Questions.{is_among, is_open, is_cleared, charge_fits, wide_enough, curve_start, each_follows, curve_kept}
use Rattle.rules.specs.Rules.{is_hour, is_limit, is_list, is_at, clear_bid, stays_after, priced_stage, averaged_stage, price_bid, paid_stage, pay_bid, new_bid, enter}
use Rattle.rules.specs.Runs.{ledger_at}
use Rattle.rules.specs.Words.{eq_z, inside, count_of, sum_of, at_place, replaced}
use Rattle.laws.specs.Awarding.{AwardsWithin}
use Rattle.laws.specs.Every.{EveryRun}
use Rattle.laws.specs.Money.{Covered, NeverOverdrawn}
use Rattle.laws.specs.Standing.{Orderly}
use Rattle.laws.proofs.Order.{IsBooked, orderly_step, orderly_start, orderly_runs}
use Rattle.laws.proofs.Places.{place_pushed, place_set_same, place_set_other, place_all, replaced_long, replaced_all}
use Rattle.laws.proofs.Runs.{Passed, asked, each_so, clash, by_test, if_some_lem, asked_of, every_run, held_step, changed, found_has, all_changed, and_left}
use Rattle.laws.proofs.Sums.{inside_out, inside_in, eq_z_apart, eq_z_same, eq_z_true, int_le_true, rate_low, times_low, times_more, sum_if, sum_kept, sum_shrunk, sum_changed, sum_entered, sum_none, sum_spent, sum_same}

-- an account's part of what a bid can be charged before it is priced
abbrev stage_worst : BidStage → ℤ → ℤ → ℤ
stage_worst Booked top rate = top *ℤ rate
stage_worst (Awarded q) top rate = q *ℤ rate
stage_worst (Priced q a) top rate = q *ℤ rate
stage_worst (Paid q a) top rate = pos 0

abbrev worst : BidEntry → ℤ
worst b = stage_worst b.stage (highest_point b.curve) b.rate

abbrev held_by : ℤ → HoldEntry → Bool
held_by a h = eq_z h.account a

abbrev bid_by : ℤ → BidEntry → Bool
bid_by a b = eq_z b.account a

abbrev Amid : ℤ → ℤ → Type 0
Amid top q = (pos 0 ≤ℤ q) × (q ≤ℤ top)

abbrev StageFine : BidStage → ℤ → Type 0
StageFine Booked top = Unit {0}
StageFine (Awarded q) top = Amid top q
StageFine (Priced q a) top = Amid top q
StageFine (Paid q a) top = Amid top q

record HoldFine (n : ℤ) (h : HoldEntry) : Type 0 where
  known : inside (pos 1) n h.account ≡ true
  rated : pos 0 ≤ℤ h.rate
  some : pos 0 ≤ℤ h.quantity

record BidFine (n : ℤ) (b : BidEntry) : Type 0 where
  known : inside (pos 1) n b.account ≡ true
  rated : pos 0 ≤ℤ b.rate
  top : pos 0 ≤ℤ highest_point b.curve
  curve : AllByRecursion (λ s. Amid (highest_point b.curve) s.end) b.curve
  stage : StageFine b.stage (highest_point b.curve)
  hour : pos 1 ≤ℤ b.hour

abbrev accounts_in : Ledger → ℤ
accounts_in l = count_of l.accounts.entries

-- a bid of an uncleared hour is booked
abbrev Timely : List HourStage → BidEntry → Type 0
Timely hs b = is_cleared (at_place uncleared hs b.hour) ≡ false → b.stage ≡ Booked

record Sound (l : Ledger) : Type 0 where
  limits : AllByRecursion (λ x. pos 0 ≤ℤ x.limit) l.accounts.entries
  holds : AllByRecursion (HoldFine (accounts_in l)) l.holds.entries
  bids : AllByRecursion (BidFine (accounts_in l)) l.bids.entries
  timely : AllByRecursion (Timely l.hours) l.bids.entries
  long : length l.hours ≡ nat_abs l.day.hours
  cover : (a : ℤ) → is_among l.accounts a ≡ true
      → (sum_if (held_by a) hold_charge l.holds.entries +ℤ sum_if (bid_by a) worst l.bids.entries) ≤ℤ credit_of
      (account_at l a).limit

hold_low : {n : ℤ} (h : HoldEntry) → HoldFine n h → pos 0 ≤ℤ hold_charge h
hold_low h f = times_low h.quantity h.rate f.some f.rated

holds_low : (n : ℤ) (hs : List HoldEntry) → AllByRecursion (HoldFine n) hs → AllByRecursion (λ h. pos 0 ≤ℤ hold_charge h) hs
holds_low n hs a = All-weaker (HoldFine n) (λ h. pos 0 ≤ℤ hold_charge h) hold_low hs a

stage_low : (s : BidStage) (top rate : ℤ) → pos 0 ≤ℤ top → pos 0 ≤ℤ rate → StageFine s top
    → pos 0 ≤ℤ stage_worst s top rate
stage_low Booked top rate t r f = times_low top rate t r
stage_low (Awarded q) top rate t r f = times_low q rate f.0 r
stage_low (Priced q a) top rate t r f = times_low q rate f.0 r
stage_low (Paid q a) top rate t r f = omega (arith, ints)

bids_low : (n : ℤ) (bs : List BidEntry) → AllByRecursion (BidFine n) bs → AllByRecursion (λ b. pos 0 ≤ℤ worst b) bs
bids_low n bs a = All-weaker (BidFine n) (λ b. pos 0 ≤ℤ worst b)
    (λ b f. stage_low b.stage (highest_point b.curve) b.rate f.top f.rated f.stage) bs a

-- curves

not_last : (a b : Bool) → (not a && not b) ≡ true → b ≡ false
not_last true b e = absurd (clash true refl (sym e))
not_last false true e = absurd (clash true refl (sym e))
not_last false false e = refl

-- ends rise from one segment to the next
abbrev Rising : ℤ → List Segment → Type 0
Rising from [] = Unit {0}
Rising from (s ∷ rest) = (from ≤ℤ s.end) × Rising s.end rest

rising : (side : Side) (before : Segment) (curve : List Segment) → AllByRecursion (λ b. b ≡ true) (each_follows side before curve)
    → Rising before.end curve
rising side before [] a = tt
rising side before (s ∷ rest) a =
    let e = int_le_true (before.end +ℤ pos 10) s.end (and_left (wide_enough before s) _ a.0) in
    (omega (arith, ints), rising side s rest a.1)

ends_up : (from : ℤ) (curve : List Segment) → Rising from curve → from ≤ℤ end_from from curve
ends_up from [] r = omega (arith, ints)
ends_up from (s ∷ rest) r = let e = ends_up s.end rest r.1 in let f = r.0 in omega (arith, ints)

all_amid : (from : ℤ) (curve : List Segment) → pos 0 ≤ℤ from → Rising from curve
    → AllByRecursion (λ s. Amid (end_from from curve) s.end) curve
all_amid from [] z r = tt
all_amid from (s ∷ rest) z r =
    let low : pos 0 ≤ℤ s.end = omega (arith, ints, r.0) in
    ((low, ends_up s.end rest r.1), all_amid s.end rest low r.1)

-- an award is the end of one of the segments
last_amid : (top : ℤ) (curve : List Segment) (q : ℤ) → AllByRecursion (λ s. Amid top s.end) curve → last_end curve ≡ Some q
    → Amid top q
last_amid top [] q a e = cc
last_amid top (s ∷ []) q a e = let h : s.end ≡ q = cc in subst (Amid top) h a.0
last_amid top (s ∷ t ∷ rest) q a e = last_amid top (t ∷ rest) q a.1 e

start_zero : (side : Side) → (curve_start side).end ≡ pos 0
start_zero Supply = refl
start_zero Demand = refl

kept_rising : (side : Side) (cv : List Segment) → curve_kept side cv ≡ None → Rising (pos 0) cv
kept_rising side cv kept = subst (λ (z : ℤ). Rising z cv) (start_zero side)
    (rising side (curve_start side) cv
    (each_so BadCurve (pos 0) (inside (pos 1) (pos 10) (count_of cv) ∷ each_follows side (curve_start side) cv)
    kept).1)

-- a kept curve's highest point is not below zero
pub curve_low : (side : Side) (cv : List Segment) → curve_kept side cv ≡ None → pos 0 ≤ℤ highest_point cv
curve_low side cv kept = ends_up (pos 0) cv (kept_rising side cv kept)

-- places in lists

abs_in : (n z : ℤ) → inside (pos 1) n z ≡ true → inside (pos 1) (pos (nat_abs n)) z ≡ true
abs_in (pos n) z e = e
abs_in (negsuc n) z e = absurd (let h = inside_out (pos 1) (negsuc n) z e in omega (arith, ints))

pub wider : (n k a : ℤ) → n ≤ℤ k → inside (pos 1) n a ≡ true → inside (pos 1) k a ≡ true
wider n k a le e = let h = inside_out (pos 1) n a e in inside_in (pos 1) k a h.0 (omega (arith, ints, h.1))

holds_wider : (n k : ℤ) (hs : List HoldEntry) → n ≤ℤ k → AllByRecursion (HoldFine n) hs → AllByRecursion (HoldFine k) hs
holds_wider n k hs le a = All-weaker (HoldFine n) (HoldFine k)
    (λ h f. record { known = wider n k h.account le f.known; rated = f.rated; some = f.some }) hs a

bids_wider : (n k : ℤ) (bs : List BidEntry) → n ≤ℤ k → AllByRecursion (BidFine n) bs → AllByRecursion (BidFine k) bs
bids_wider n k bs le a =
    All-weaker (BidFine n) (BidFine k) (λ b f. record {
      known = wider n k b.account le f.known;
      rated =
          f.rated;
      top = f.top;
      curve = f.curve;
      stage = f.stage;
      hour = f.hour;
    }) bs a

pub pushed_longer : {X : Type 0} (xs : List X) (x : X) → count_of xs ≤ℤ count_of (xs ++ (x ∷ []))
pushed_longer xs x = let e = length-append xs (x ∷ []) in omega (arith, ints)

-- what the charges come to while bidding is open

booked_worst : (s : BidStage) (top rate : ℤ) → s ≡ Booked → stage_charge s top rate ≡ stage_worst s top rate
booked_worst Booked top rate e = refl
booked_worst (Awarded q) top rate e = refl
booked_worst (Priced q a) top rate e = cc
booked_worst (Paid q a) top rate e = refl

charged : (l : Ledger) (a : ℤ) → AllByRecursion IsBooked l.bids.entries → charges_of l a ≡ sum_if (held_by a) hold_charge
    l.holds.entries +ℤ sum_if (bid_by a) worst l.bids.entries
charged l a all =
    let h = sum_kept (held_by a) hold_charge l.holds.entries in
    let b = sum_kept (bid_by a) bid_charge l.bids.entries in
    let w = sum_same (bid_by a) bid_charge worst l.bids.entries (All-weaker IsBooked (λ b. bid_charge b ≡ worst b)
    (λ b e. booked_worst b.stage (highest_point b.curve) b.rate e) l.bids.entries all) in
    omega (arith, ints)

-- what the stages do

abbrev prices_met : List ℤ → BidEntry → List Segment
prices_met ps b = filter (is_met b.side (at_place (pos 0) ps b.location)) b.curve

-- an award is amid its bid
award_amid : (n : ℤ) (ps : List ℤ) (b : BidEntry) (q : ℤ) → BidFine n b → award_by ps b ≡ Some q
    → Amid (highest_point b.curve) q
award_amid n ps b q f e = last_amid (highest_point b.curve) (prices_met ps b) q
    (all_kept_by _ (λ s. Amid (highest_point b.curve) s.end) b.curve f.curve) e

clear_fine : (n h : ℤ) (ps : List ℤ) (b : BidEntry) → BidFine n b → BidFine n (clear_bid h ps b)
clear_fine n h ps b f = changed (BidFine n) (is_at h b) b _ (λ _. record {
  known = f.known;
  rated = f.rated;
  top = f.top;
  curve = f.curve;
  hour = f.hour;
  stage = if_some_lem (λ s. StageFine s (highest_point b.curve)) (award_by ps b) b.stage _ (λ _. f.stage)
      (λ q e. award_amid n ps b q f e);
}) f

priced_fine : (f : ℤ → ℤ) (s : BidStage) (top : ℤ) → StageFine s top → StageFine (priced_stage f s) top
priced_fine f Booked top x = x
priced_fine f (Awarded q) top x = x
priced_fine f (Priced q a) top x = x
priced_fine f (Paid q a) top x = x

averaged_fine : (side : Side) (z : ℤ) (r : Result ℤ SourceFault) (s : BidStage) (top : ℤ) → StageFine s top
    → StageFine (averaged_stage side z r s) top
averaged_fine side z (Ok t) s top x = priced_fine (λ q. exact_amount side q z t) s top x
averaged_fine side z (Err f) s top x = x

paid_fine : (s : BidStage) (top : ℤ) → StageFine s top → StageFine (paid_stage s) top
paid_fine Booked top x = x
paid_fine (Awarded q) top x = x
paid_fine (Priced q a) top x = x
paid_fine (Paid q a) top x = x

restaged : (n : ℤ) (t : Bool) (b : BidEntry) (s : BidStage) → StageFine s (highest_point b.curve) → BidFine n b
    → BidFine n (cond t (bid_with b s) b)
restaged n t b s x f = changed (BidFine n) t b s (λ _. record {
  known = f.known;
  rated = f.rated;
  top =
      f.top;
  curve = f.curve;
  hour = f.hour;
  stage = x;
}) f

abbrev Less : ℤ → BidEntry → BidEntry → Type 0
Less a b d = (bid_by a d ≡ bid_by a b) × (worst d ≤ℤ worst b)

same_bid_less : (a : ℤ) (b : BidEntry) → Less a b b
same_bid_less a b = (refl, omega (arith, ints))

booked_more : (s : BidStage) (top rate q : ℤ) → s ≡ Booked → Amid top q → pos 0 ≤ℤ rate
    → (q *ℤ rate) ≤ℤ stage_worst s top rate
booked_more Booked top rate q e m r = times_more q top rate m.0 m.1 r
booked_more (Awarded k) top rate q e m r = cc
booked_more (Priced k a) top rate q e m r = cc
booked_more (Paid k a) top rate q e m r = cc

priced_less : (f : ℤ → ℤ) (s : BidStage) (top rate : ℤ) → stage_worst (priced_stage f s) top rate ≤ℤ stage_worst s top
    rate
priced_less f Booked top rate = omega (arith, ints)
priced_less f (Awarded q) top rate = omega (arith, ints)
priced_less f (Priced q a) top rate = omega (arith, ints)
priced_less f (Paid q a) top rate = omega (arith, ints)

averaged_less : (side : Side) (z : ℤ) (r : Result ℤ SourceFault) (s : BidStage) (top rate : ℤ)
    → stage_worst (averaged_stage side z r s) top rate ≤ℤ stage_worst s top rate
averaged_less side z (Ok t) s top rate = priced_less (λ q. exact_amount side q z t) s top rate
averaged_less side z (Err f) s top rate = omega (arith, ints)

paid_less : (s : BidStage) (top rate : ℤ) → pos 0 ≤ℤ rate → StageFine s top
    → stage_worst (paid_stage s) top rate ≤ℤ stage_worst s top rate
paid_less Booked top rate r f = omega (arith, ints)
paid_less (Awarded q) top rate r f = omega (arith, ints)
paid_less (Priced q a) top rate r f = times_low q rate f.0 r
paid_less (Paid q a) top rate r f = omega (arith, ints)

-- the hour that is cleared or priced

hour_there : (hs : List HourStage) (h : ℤ) (s : HourStage) → inside (pos 1) (pos (length hs)) h ≡ true
    → at_place uncleared (replaced hs h s) h ≡ s
hour_there hs h s e = place_set_same uncleared hs s h e

hour_other : (hs : List HourStage) (h k : ℤ) (s : HourStage) → (k ≡ h → ⊥) → at_place uncleared (replaced hs h s) k
    ≡ at_place uncleared hs k
hour_other hs h k s n = place_set_other uncleared hs s h k n

abbrev Both : ℤ → List HourStage → BidEntry → Type 0
Both n hs b = BidFine n b × Timely hs b

pub both : {X : Type 0} (P Q : X → Type 0) (xs : List X) → AllByRecursion P xs → AllByRecursion Q xs → AllByRecursion (λ x. P x × Q x) xs
both P Q [] p q = tt
both P Q (x ∷ xs) p q = ((p.0, q.0), both P Q xs p.1 q.1)

-- a bid that is changed only at that hour stays timely
timely_after : (n : ℤ) (hs : List HourStage) (h : ℤ) (s : HourStage) (b : BidEntry) (t : BidStage)
    → inside (pos 1) (pos (length hs)) h ≡ true → is_cleared s ≡ true → Both n hs b → Timely (replaced hs h s)
    (cond (is_at h b) (bid_with b t) b)
timely_after n hs h s b t e c f =
    by_test (eq_z b.hour h)
    (λ x. let y = eq_z_true b.hour h x in let z : at_place uncleared (replaced hs h s) b.hour ≡ s =
    rw y (hour_there hs h s e) in
    rw x (λ k. absurd (clash (is_cleared (at_place uncleared (replaced hs h s) b.hour)) (ap is_cleared z ∙ c) k)))
    (λ x. let z = hour_other hs h b.hour s (λ y. clash (eq_z b.hour h) (eq_z_same b.hour h y) x) in
    rw x (λ k. f.1 (sym (ap is_cleared z) ∙ k)))

-- accounts

not_held : (n a : ℤ) (hs : List HoldEntry) → inside (pos 1) n a ≡ false → AllByRecursion (HoldFine n) hs
    → AllByRecursion (λ h. held_by a h ≡ false) hs
not_held n a hs e x = All-weaker (HoldFine n) (λ h. held_by a h ≡ false)
    (λ h f. eq_z_apart h.account a (λ y. clash (inside (pos 1) n a) (subst (λ (z : ℤ). inside (pos 1) n z ≡ true) y
    f.known) e)) hs x

not_bid : (n a : ℤ) (bs : List BidEntry) → inside (pos 1) n a ≡ false → AllByRecursion (BidFine n) bs
    → AllByRecursion (λ b. bid_by a b ≡ false) bs
not_bid n a bs e x = All-weaker (BidFine n) (λ b. bid_by a b ≡ false)
    (λ b f. eq_z_apart b.account a (λ y. clash (inside (pos 1) n a) (subst (λ (z : ℤ). inside (pos 1) n z ≡ true) y
    f.known) e)) bs x

limit_low : (xs : List AccountEntry) (a : ℤ) → AllByRecursion (λ x. pos 0 ≤ℤ x.limit) xs → inside (pos 1) (count_of xs) a ≡ true
    → pos 0 ≤ℤ credit_of (at_place no_account xs a).limit
limit_low xs a all e = times_low (pos 120) (at_place no_account xs a).limit (omega (arith, ints))
    (place_all (λ x. pos 0 ≤ℤ x.limit) no_account xs a all e)

open_cover : (l : Ledger) (x : AccountEntry) → Sound l → AllByRecursion (λ x. pos 0 ≤ℤ x.limit)
    (l.accounts.entries ++ (x ∷ [])) → (a : ℤ) → inside (pos 1) (count_of (l.accounts.entries ++ (x ∷ []))) a
    ≡ true
    → (sum_if (held_by a) hold_charge l.holds.entries +ℤ sum_if (bid_by a) worst l.bids.entries) ≤ℤ credit_of
    (at_place no_account (l.accounts.entries ++ (x ∷ [])) a).limit
open_cover l x s limits a e =
    let xs = l.accounts.entries in
    by_test (inside (pos 1) (count_of xs) a)
    (λ k. let c = s.cover a k in
    let g : at_place no_account (xs ++ (x ∷ [])) a ≡ at_place no_account xs a = place_pushed no_account xs x a k in
    rw g c)
    (λ k. let c = limit_low (xs ++ (x ∷ [])) a limits e in
    let h = sum_none (held_by a) hold_charge l.holds.entries (not_held (count_of xs) a l.holds.entries k
    s.holds) in
    let b = sum_none (bid_by a) worst l.bids.entries (not_bid (count_of xs) a l.bids.entries k s.bids) in
    omega (arith, ints))

limit_cover : (l : Ledger) (a₀ k : ℤ) (x : AccountEntry) → x.limit ≡ k → Sound l → AllByRecursion IsBooked l.bids.entries
    → inside (pos 1) (accounts_in l) a₀ ≡ true → charges_of l a₀ ≤ℤ credit_of k
    → (a : ℤ) → inside (pos 1) (count_of (replaced l.accounts.entries a₀ x)) a ≡ true
    → (sum_if (held_by a) hold_charge l.holds.entries +ℤ sum_if (bid_by a) worst l.bids.entries) ≤ℤ credit_of
    (at_place no_account (replaced l.accounts.entries a₀ x) a).limit
limit_cover l a₀ k x xk s bk known fits a e =
    let xs = l.accounts.entries in
    let n : inside (pos 1) (count_of xs) a ≡ true = subst (λ (n : ℕ). inside (pos 1) (pos n) a ≡ true)
    (replaced_long xs a₀ x) e in
    by_test (eq_z a a₀)
    (λ t. let y = eq_z_true a a₀ t in
    let g : at_place no_account (replaced xs a₀ x) a ≡ x = rw y (place_set_same no_account xs x a₀ known) in
    let c = charged l a₀ bk in
    rw (g, xk, y) (omega (arith, ints)))
    (λ t. let g : at_place no_account (replaced xs a₀ x) a ≡ at_place no_account xs a =
    place_set_other no_account xs x a₀ a (λ y. clash (eq_z a a₀) (eq_z_same a a₀ y) t) in
    rw g (s.cover a n))

-- holds

hold_cover : (l : Ledger) (h : HoldEntry) → Sound l → AllByRecursion IsBooked l.bids.entries
    → hold_charge h ≤ℤ available_credit l h.account
    → (a : ℤ) → inside (pos 1) (accounts_in l) a ≡ true
    → (sum_if (held_by a) hold_charge (l.holds.entries ++ (h ∷ [])) +ℤ sum_if (bid_by a) worst l.bids.entries)
    ≤ℤ credit_of (account_at l a).limit
hold_cover l h s bk fits a e =
    rw (sum_entered (held_by a) hold_charge l.holds.entries h)
    (by_test (eq_z h.account a)
    (λ t. let y = eq_z_true h.account a t in
    let c = charged l a bk in
    let f : hold_charge h ≤ℤ available_credit l a = subst (λ (z : ℤ). hold_charge h ≤ℤ available_credit l z) y fits in
    rw t (omega (arith, ints)))
    (λ t. let c = s.cover a e in rw t (omega (arith, ints))))

fewer_holds : (l : Ledger) (keep : HoldEntry → Bool) → Sound l → (a : ℤ) → is_among l.accounts a ≡ true
    → (sum_if (held_by a) hold_charge (filter keep l.holds.entries) +ℤ sum_if (bid_by a) worst l.bids.entries)
    ≤ℤ credit_of (account_at l a).limit
fewer_holds l keep s a e =
    let c = s.cover a e in
    let k = sum_shrunk (held_by a) hold_charge keep l.holds.entries (holds_low (accounts_in l) l.holds.entries
    s.holds) in
    omega (arith, ints)

-- bids, fewer or smaller

fewer_bids : (l : Ledger) (keep : BidEntry → Bool) → Sound l → (a : ℤ) → is_among l.accounts a ≡ true
    → (sum_if (held_by a) hold_charge l.holds.entries +ℤ sum_if (bid_by a) worst (filter keep l.bids.entries))
    ≤ℤ credit_of (account_at l a).limit
fewer_bids l keep s a e =
    let c = s.cover a e in
    let k = sum_shrunk (bid_by a) worst keep l.bids.entries (bids_low (accounts_in l) l.bids.entries
    s.bids) in
    omega (arith, ints)

smaller_bids : (l : Ledger) (keep : BidEntry → Bool) (f : BidEntry → BidEntry) → Sound l → (a : ℤ)
    → is_among l.accounts a ≡ true
    → AllByRecursion (λ b. Less a b (f b)) (filter keep l.bids.entries)
    → (sum_if (held_by a) hold_charge l.holds.entries +ℤ sum_if (bid_by a) worst
    (map f (filter keep l.bids.entries))) ≤ℤ credit_of (account_at l a).limit
smaller_bids l keep f s a e all =
    let c = fewer_bids l keep s a e in
    let k = sum_changed (bid_by a) worst f (filter keep l.bids.entries) all in
    omega (arith, ints)

changed_bids : (l : Ledger) (f : BidEntry → BidEntry) → Sound l → (a : ℤ) → is_among l.accounts a ≡ true
    → AllByRecursion (λ b. Less a b (f b)) l.bids.entries
    → (sum_if (held_by a) hold_charge l.holds.entries +ℤ sum_if (bid_by a) worst (map f l.bids.entries))
    ≤ℤ credit_of (account_at l a).limit
changed_bids l f s a e all =
    let c = s.cover a e in
    let k = sum_changed (bid_by a) worst f l.bids.entries all in
    omega (arith, ints)

-- a bid on a hold
bid_cover : (l : Ledger) (n : ℤ) (h : HoldEntry) (b : BidEntry) → Sound l → hold_numbered l n ≡ Some h
    → b.account ≡ h.account → worst b ≤ℤ hold_charge h
    → (a : ℤ) → is_among l.accounts a ≡ true
    → (sum_if (held_by a) hold_charge (filter (λ h. not (eq_z h.number n)) l.holds.entries) +ℤ sum_if
    (bid_by a) worst (l.bids.entries ++ (b ∷ []))) ≤ℤ credit_of (account_at l a).limit
bid_cover l n h b s stands who less a e =
    let c = s.cover a e in
    let k = sum_spent (held_by a) hold_charge (λ h. eq_z h.number n) l.holds.entries h
    (holds_low (accounts_in l) l.holds.entries s.holds) stands in
    let g = sum_entered (bid_by a) worst l.bids.entries b in
    let t : bid_by a b ≡ held_by a h = ap (λ (z : ℤ). eq_z z a) who in
    rw (g, t) (by_test (held_by a h) (λ x. let k = rw x at k in rw x (omega (arith, ints))) (λ x. let k = rw x at k in
    rw x (omega (arith, ints))))

-- the bid that a hold allows
bid_fine : (l : Ledger) (d : HoldEntry) (h : ℤ) (cv : List Segment) → HoldFine (accounts_in l) d → pos 1 ≤ℤ h
    → curve_kept d.side cv ≡ None → BidFine (accounts_in l) (new_bid l d h cv)
bid_fine l d h cv f low kept =
    let r = kept_rising d.side cv kept in
    record {
      known = f.known;
      rated = f.rated;
      top = ends_up (pos 0) cv r;
      curve = all_amid (pos 0) cv (omega (arith, ints)) r;
      stage = tt;
      hour = low;
    }

sound_step : (m : Prices) (l : Ledger) (c : Call) → Passed m l c → Orderly m l → Sound l → Sound (enter m l c)
sound_step m l (open_account e k) p o s =
    let xs = l.accounts.entries in
    let low = (inside_out (pos 0) (pos 10000000000) k
    (each_so (BadArgument Book) (pos 1) (inside (pos 1) (pos 8) e ∷ is_limit k ∷ []) p.0).1.0).0 in
    let limits = All-push (λ x. pos 0 ≤ℤ x.limit) xs (record { entity = e; limit = k }) s.limits low in
    record {
      limits = limits;
      holds = holds_wider _ _ l.holds.entries (pushed_longer xs _) s.holds;
      bids = bids_wider _ _ l.bids.entries (pushed_longer xs _) s.bids;
      timely = s.timely;
      long = s.long;
      cover = open_cover l (record { entity = e; limit = k }) s limits;
    }
sound_step m l (add_location k e) p o s = if_some_lem Sound (class_named k) l _ (λ _. s)
    (λ c _. record {
      limits = s.limits;
      holds = s.holds;
      bids = s.bids;
      timely = s.timely;
      long = s.long;
      cover =
          s.cover;
    })
sound_step m l (set_limit a k) p o s =
    let xs = l.accounts.entries in
    let x : AccountEntry = record { entity = (account_at l a).entity; limit = k } in
    let low = (inside_out (pos 0) (pos 10000000000) k (each_so (BadArgument Book) (pos 1) (true ∷ is_limit k ∷ [])
    p.0).1.0).0 in
    let known = asked _ _ p.1.0 in
    let bk = o.all_booked (asked _ _ p.1.1.0) in
    let fits = int_le_true (charges_of l a) (credit_of k) (asked _ _ p.1.1.1.0) in
    let wide : count_of xs ≤ℤ count_of (replaced xs a x) = let e = replaced_long xs a x in omega (arith, ints) in
    record {
      limits = replaced_all (λ x. pos 0 ≤ℤ x.limit) xs a x s.limits low;
      holds = holds_wider _ _ l.holds.entries wide s.holds;
      bids = bids_wider _ _ l.bids.entries wide s.bids;
      timely = s.timely;
      long = s.long;
      cover = limit_cover l a k x refl s bk known fits;
    }
sound_step m l (take_hold a t sd q) p o s = if_some_lem Sound (side_named sd) l _ (λ _. s)
    (λ side e. held_step Sound l a t side q (m t side) s (λ price z.
    let h : HoldEntry = record {
      number = l.holds.next;
      account = a;
      location = t;
      side = side;
      quantity = q;
      rate =
          rate_of price;
    } in
    let q-in = (inside_out (pos 10) (pos 10000) q
    (each_so (BadArgument Book) (pos 1) (true ∷ true ∷ is_some (side_named sd) ∷ inside (pos 10) (pos 10000) q ∷ [])
    p.0).1.1.1.0).0 in
    let bk = o.all_booked (asked _ _ p.1.1.1.0) in
    let qs = asked_of (side_named sd) side _ e p.1.1.1.1.1 in
    let seven : charge_fits l a q (Ok price) ≡ None = subst (λ (r : Result ℤ PolicyFault). charge_fits l a q r ≡ None) z
    qs.1.0 in
    let fits = int_le_true (hold_charge h) (available_credit l a) (asked _ _ seven) in
    record {
      limits = s.limits;
      holds = All-push (HoldFine (accounts_in l)) l.holds.entries h s.holds
          (record { known = asked _ _ p.1.0; rated = rate_low price; some = omega (arith, ints) });
      bids = s.bids;
      timely = s.timely;
      long = s.long;
      cover = hold_cover l h s bk fits;
    }))
sound_step m l (release_hold n) p o s = record {
  limits = s.limits;
  holds = all_kept_by _ (HoldFine (accounts_in l)) l.holds.entries s.holds;
  bids = s.bids;
  timely = s.timely;
  long = s.long;
  cover = fewer_holds l (λ h. not (eq_z h.number n)) s;
}
sound_step m l (place_bid n h cv) p o s = if_some_lem Sound (hold_numbered l n) l _ (λ _. s) (λ d e.
    let f = found_has (HoldFine (accounts_in l)) _ l.holds.entries d e s.holds in
    let qs = asked_of (hold_numbered l n) d _ e p.1.1.1 in
    let b = new_bid l d h cv in
    let low = (inside_out (pos 1) l.day.hours h (each_so (BadArgument Book) (pos 1) (true ∷ is_hour l h ∷ true ∷ [])
    p.0).1.0).0 in
    let fine = bid_fine l d h cv f low qs.0 in
    let le = int_le_true (highest_point cv) d.quantity (asked _ _ qs.1.0) in
    record {
      limits = s.limits;
      holds = all_kept_by _ (HoldFine (accounts_in l)) l.holds.entries s.holds;
      bids = All-push (BidFine (accounts_in l)) l.bids.entries b s.bids fine;
      timely = All-push (Timely l.hours) l.bids.entries b s.timely (λ e. refl);
      long = s.long;
      cover = bid_cover l n d b s e refl (times_more (highest_point cv) d.quantity d.rate fine.top le
          f.rated);
    })
sound_step m l (withdraw_bid n) p o s = record {
  limits = s.limits;
  holds = s.holds;
  long = s.long;
  bids = all_kept_by _ (BidFine (accounts_in l)) l.bids.entries s.bids;
  timely = all_kept_by _ (Timely l.hours) l.bids.entries s.timely;
  cover = fewer_bids l (λ b. not (eq_z b.number n)) s;
}
sound_step m l close_bidding p o s = record {
  limits = s.limits;
  holds = s.holds;
  bids = s.bids;
  timely =
      s.timely;
  long = s.long;
  cover = s.cover;
}
sound_step m l (clear_hour h ps) p o s =
    let keep = stays_after h ps in
    let bs = filter keep l.bids.entries in
    let n = accounts_in l in
    let here : inside (pos 1) (pos (length l.hours)) h ≡ true =
    rw s.long (abs_in l.day.hours h
    (each_so (BadArgument Book) (pos 1) (is_hour l h ∷ is_list (count_of l.locations.entries)
    (neg_ℤ (pos 1000000)) (pos 1000000) ps ∷ []) p.0).0) in
    let open-hour = not_last (is_open l.stage) (is_cleared (hour_at l h)) (asked _ _ p.1.0) in
    let pairs = all_kept_by keep (Both n l.hours) l.bids.entries
    (both (BidFine n) (Timely l.hours) l.bids.entries s.bids s.timely) in
    record {
      limits = s.limits;
      holds = s.holds;
      bids = all_changed (BidFine n) (clear_bid h ps) (λ b f. clear_fine n h ps b f) bs
          (all_kept_by keep (BidFine n) l.bids.entries s.bids);
      timely = All-map (Timely (replaced l.hours h (cleared ps))) (clear_bid h ps) bs
          (All-weaker (Both n l.hours) (λ b. Timely (replaced l.hours h (cleared ps)) (clear_bid h ps b))
          (λ b f. timely_after n l.hours h (cleared ps) b _ here refl f) bs pairs);
      long = replaced_long l.hours h (cleared ps) ∙ s.long;
      cover = λ a e. smaller_bids l keep (clear_bid h ps) s a e
          (All-weaker (Both n l.hours) (λ b. Less a b (clear_bid h ps b)) (λ b f.
          changed (Less a b) (is_at h b) b _ (λ t. (
            refl,
            if_some_lem (λ s. stage_worst s (highest_point b.curve) b.rate ≤ℤ worst b) (award_by ps b)
                b.stage _ (λ _. omega (arith, ints))
                (λ q e. booked_more b.stage (highest_point b.curve) b.rate q
                (f.1 (rw (eq_z_true b.hour h t) open-hour)) (award_amid n ps b q f.0 e) f.0.rated),
          )) (same_bid_less a b)) bs pairs);
    }
sound_step m l (price_hour h d g) p o s =
    let bs = l.bids.entries in
    let n = accounts_in l in
    let st = cleared_and_priced (day_ahead_prices (hour_at l h)) in
    let here : inside (pos 1) (pos (length l.hours)) h ≡ true =
    rw s.long (abs_in l.day.hours h (each_so (BadArgument Book) (pos 1) (is_hour l h ∷ []) p.0).0) in
    let pairs = both (BidFine n) (Timely l.hours) bs s.bids s.timely in
    record {
      limits = s.limits;
      holds = s.holds;
      bids = all_changed (BidFine n) (price_bid l h d g)
          (λ b f. restaged n (is_at h b) b _ (averaged_fine b.side (day_ahead_at l b.location h)
          (average_at l d g b.location h) b.stage (highest_point b.curve) f.stage) f) bs s.bids;
      timely = All-map (Timely (replaced l.hours h st)) (price_bid l h d g) bs
          (All-weaker (Both n l.hours) (λ b. Timely (replaced l.hours h st) (price_bid l h d g b))
          (λ b f. timely_after n l.hours h st b _ here refl f) bs pairs);
      long = replaced_long l.hours h st ∙ s.long;
      cover = λ a e. changed_bids l (price_bid l h d g) s a e
          (All-weaker (BidFine n) (λ b. Less a b (price_bid l h d g b)) (λ b f.
          changed (Less a b) (is_at h b) b _ (λ t. (
            refl,
            averaged_less b.side (day_ahead_at l b.location h)
                (average_at l d g b.location h) b.stage (highest_point b.curve) b.rate,
          )) (same_bid_less a b)) bs
          s.bids);
    }
sound_step m l (pay_account w) p o s =
    let bs = l.bids.entries in
    let n = accounts_in l in
    record {
      limits = s.limits;
      holds = s.holds;
      long = s.long;
      bids = all_changed (BidFine n) (pay_bid w)
          (λ b f. restaged n (eq_z b.account w) b _ (paid_fine b.stage (highest_point b.curve) f.stage) f)
          bs s.bids;
      timely = all_changed (Timely l.hours) (pay_bid w) (λ b f. changed (Timely l.hours) (eq_z b.account w) b
          _ (λ _ e. ap paid_stage (f e)) f) bs s.timely;
      cover = λ a e. changed_bids l (pay_bid w) s a e (All-weaker (BidFine n) (λ b. Less a b (pay_bid w b)) (λ b f.
          changed (Less a b) (eq_z b.account w) b
          _ (λ t. (refl, paid_less b.stage (highest_point b.curve) b.rate f.rated f.stage))
          (same_bid_less a b)) bs s.bids);
    }
sound_step m l (adjust_account x) p o s = if_some_lem Sound (period_named x.period) l _ (λ _. s)
    (λ d _. record {
      limits = s.limits;
      holds = s.holds;
      bids = s.bids;
      timely = s.timely;
      long = s.long;
      cover =
          s.cover;
    })

-- from the start of a day

begun : (day : Day) → Sound (empty_ledger day)
begun day = record {
  limits = tt;
  holds = tt;
  bids = tt;
  timely = tt;
  long = length-replicate (nat_abs day.hours) uncleared;
  cover = λ a e. absurd (let h = inside_out (pos 1) (pos 0) a e in omega (arith, ints, h.0, h.1));
}

sound_runs : (m : Prices) (day : Day) (cs : List Call) → Sound (ledger_at m day cs)
sound_runs m day cs = (every_run (λ l. Orderly m l × Sound l) m
    (λ l c p s. (orderly_step m l c p s.0, sound_step m l c p s.0 s.1)) (empty_ledger day) cs
    (orderly_start m day, begun day)).1

-- what is at stake and what is charged come to the same

abbrev stake : BidEntry → ℤ
stake b = charge_of (award_in b.stage) b.rate +ℤ amount_in b.stage

stage_both : (s : BidStage) (top rate : ℤ) → cond (is_due s) ((award_in s *ℤ rate) +ℤ amount_in s) (pos 0) +ℤ stage_charge
    s top rate ≡ stage_worst s top rate
stage_both Booked top rate = omega (arith, ints)
stage_both (Awarded q) top rate = omega (arith, ints)
stage_both (Priced q a) top rate = omega (arith, ints)
stage_both (Paid q a) top rate = omega (arith, ints)

sum_both : (bs : List BidEntry) → sum_if (λ b. is_due b.stage) stake bs +ℤ sum_of bid_charge bs ≡ sum_of worst bs
sum_both [] = refl
sum_both (b ∷ bs) = let e = sum_both bs in let f = stage_both b.stage (highest_point b.curve) b.rate in
    omega (arith, ints)

pub covered_runs : EveryRun Covered
covered_runs m day cs a e =
    let l = ledger_at m day cs in
    let c = (sound_runs m day cs).cover a e in
    let w = sum_kept (bid_by a) worst l.bids.entries in
    let h = sum_kept (held_by a) hold_charge l.holds.entries in
    let d = sum_kept (λ b. is_due b.stage) stake (bids_of l a) in
    let b = sum_both (bids_of l a) in
    omega (arith, ints)

-- nothing is due while bidding is open

not_due : (s : BidStage) → s ≡ Booked → is_due s ≡ false
not_due Booked e = refl
not_due (Awarded q) e = refl
not_due (Priced q a) e = cc
not_due (Paid q a) e = refl

pub credit_runs : EveryRun NeverOverdrawn
credit_runs m day cs open-now a e =
    let l = ledger_at m day cs in
    let c = covered_runs m day cs a e in
    let bk = all_kept_by (bid_by a) IsBooked l.bids.entries ((orderly_runs m day cs).all_booked open-now) in
    let d = sum_kept (λ b. is_due b.stage) stake (bids_of l a) in
    let z = sum_none (λ b. is_due b.stage) stake (bids_of l a) (All-weaker IsBooked (λ b. is_due b.stage ≡ false)
    (λ b x. not_due b.stage x) (bids_of l a) bk) in
    omega (arith, ints)

-- an award's quantity is within its bid

fine_award : (s : BidStage) (top : ℤ) → StageFine s top → is_award s ≡ true → Amid top (award_in s)
fine_award Booked top f e = absurd (clash false e refl)
fine_award (Awarded q) top f e = f
fine_award (Priced q a) top f e = f
fine_award (Paid q a) top f e = f

pub within_runs : EveryRun AwardsWithin
within_runs m day cs =
    let l = ledger_at m day cs in
    All-weaker (BidFine (accounts_in l)) (λ b. is_award b.stage ≡ true → Amid (highest_point b.curve)
    (award_in b.stage)) (λ b f. fine_award b.stage (highest_point b.curve) f.stage) l.bids.entries
    (sound_runs m day cs).bids

-- an hour of the day has its place
pub hour_inside : (m : Prices) (day : Day) (cs : List Call) (h : ℤ) → is_hour (ledger_at m day cs) h ≡ true
    → inside (pos 1) (count_of (ledger_at m day cs).hours) h ≡ true
hour_inside m day cs h e = rw (sound_runs m day cs).long (abs_in (ledger_at m day cs).day.hours h e)
