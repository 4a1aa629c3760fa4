-- No entity stands beyond its position limit.
use Rattle.std.proofs.Common.{◌≡◌, ℕ, Bool, true, false, cond, not, ◌&&◌, List, [], ◌∷◌, ◌++◌, map, ℤ, pos, ◌+ℤ◌, ◌*ℤ◌, ◌≤ℤ◌, is_some, Some, None, filter, Option, refl, ap, ◌∙◌, subst, arith}
use lib.Signed.{le_z}
use Rattle.std.specs.List.{AllByRecursion}
use Rattle.std.proofs.ByRecursion.{All-push, all_kept_by, All-weaker}
use Rattle.std.proofs.lemmas.Int.{ints}
use Rattle.market.specs.Letters.{side_named, class_named, period_named}
use Rattle.market.specs.declared.day.Day.{Day}
use Rattle.market.specs.declared.words.Class.{Class}
use Rattle.market.specs.declared.words.Class.TheVariants.{Node, Aggregate, LoadPoint, Hub, Intertie}
use Rattle.market.specs.declared.words.Layer.TheVariants.{Book}
use Rattle.market.specs.declared.fault.Fault.TheVariants.{BadArgument}
use Rattle.rules.specs.declared.entries.AccountEntry.{AccountEntry}
use Rattle.rules.specs.declared.entries.LocationEntry.{LocationEntry}
use Rattle.rules.specs.declared.entries.HoldEntry.{HoldEntry}
use Rattle.rules.specs.declared.stages.BidStage.{BidStage}
use Rattle.rules.specs.Awards.{award_by, day_ahead_at, average_at}
use Rattle.rules.specs.Calls.{Prices, Call, open_account, add_location, set_limit, take_hold, release_hold, place_bid, withdraw_bid, close_bidding, clear_hour, price_hour, pay_account, adjust_account}
use Rattle.rules.specs.Credit.{highest_point}
use Rattle.rules.specs.Ledger.{BidEntry, Ledger, empty_ledger, bid_with, no_account, no_location, account_at, location_at, hold_numbered}
use Rattle.rules.specs.Position.{percent_of, position_of, is_within}
use Rattle.rules.specs.Rules.{is_at, awarded_stage, clear_bid, stays_after, averaged_stage, price_bid, paid_stage, pay_bid, new_bid, enter}
use Rattle.rules.specs.Runs.{ledger_at}
use Rattle.rules.specs.Words.{eq_z, inside, count_of, at_place, replaced}
use Rattle.laws.specs.Every.{EveryRun}
use Rattle.laws.specs.Positions.{WithinPositions}
use Rattle.laws.proofs.Cover.{curve_low, wider, pushed_longer}
use Rattle.laws.proofs.Places.{place_pushed, place_set_same, place_set_other, place_all, replaced_long}
use Rattle.laws.proofs.Runs.{Passed, asked, each_so, clash, by_test, if_some_lem, asked_of, every_run, held_step, changed, found_has, all_changed}
use Rattle.laws.proofs.Sums.{inside_out, eq_z_apart, eq_z_same, eq_z_true, int_le_true, int_le_in, times_low, sum_if, sum_kept, sum_shrunk, sum_changed, sum_entered, sum_none}

-- the limit as a test

within_less : (o : Option ℤ) (limit q r : ℤ) → q ≤ℤ r → is_within o limit r ≡ true → is_within o limit q ≡ true
within_less None limit q r le e = refl
within_less (Some p) limit q r le e = let h = int_le_true (r *ℤ pos 100) (p *ℤ limit) e in
    int_le_in (q *ℤ pos 100) (p *ℤ limit) (omega (arith, ints))

month_none : (t : Bool) (p : ℕ) (later : Option ℤ) (limit : ℤ) → pos 0 ≤ℤ limit → is_within later limit (pos 0) ≡ true
    → is_within (cond t (Some (pos p)) later) limit (pos 0) ≡ true
month_none true p later limit low e =
    int_le_in (pos 0) (pos p *ℤ limit) (times_low (pos p) limit (omega (arith, ints)) low)
month_none false p later limit low e = e

within_none : (k : Class) (month limit : ℤ) → pos 0 ≤ℤ limit → is_within (percent_of k month) limit (pos 0) ≡ true
within_none Node month limit low = month_none (le_z month (pos 8)) 10 _ limit low
    (month_none (le_z month (pos 12)) 50 None limit low refl)
within_none Aggregate month limit low = month_none (le_z month (pos 8)) 10 _ limit low
    (month_none (le_z month (pos 12)) 50 None limit low refl)
within_none LoadPoint month limit low = refl
within_none Hub month limit low = refl
within_none Intertie month limit low = month_none (le_z month (pos 8)) 5 _ limit low
    (month_none (le_z month (pos 12)) 25 _ limit low (month_none (le_z month (pos 16)) 50 None limit low refl))

abbrev top : BidEntry → ℤ
top b = highest_point b.curve

-- which bids count

abbrev counts : List AccountEntry → ℤ → ℤ → ℤ → BidEntry → Bool
counts xs entity location hour b = eq_z (at_place no_account xs b.account).entity entity
    && (eq_z b.location location && eq_z b.hour hour)

abbrev held : Ledger → ℤ → ℤ → ℤ → ℤ
held l entity location hour = sum_if (counts l.accounts.entries entity location hour) top l.bids.entries

record Placed (accounts locations account location : ℤ) : Type 0 where
  one : inside (pos 1) accounts account ≡ true
  two : inside (pos 1) locations location ≡ true

abbrev HoldPlaced : ℤ → ℤ → HoldEntry → Type 0
HoldPlaced a p h = Placed a p h.account h.location

abbrev BidPlaced : ℤ → ℤ → BidEntry → Type 0
BidPlaced a p b = Placed a p b.account b.location × (pos 0 ≤ℤ highest_point b.curve)

abbrev na : Ledger → ℤ
na l = count_of l.accounts.entries

abbrev np : Ledger → ℤ
np l = count_of l.locations.entries

record Positions (l : Ledger) : Type 0 where
  limits : AllByRecursion (λ p. pos 0 ≤ℤ p.limit) l.locations.entries
  holds : AllByRecursion (HoldPlaced (na l) (np l)) l.holds.entries
  bids : AllByRecursion (BidPlaced (na l) (np l)) l.bids.entries
  within : (entity location hour : ℤ) → inside (pos 1) (np l) location ≡ true
      → is_within (percent_of (location_at l location).class l.day.month) (location_at l location).limit
      (held l entity location hour) ≡ true

placed_wider : (a c p q x y : ℤ) → a ≤ℤ c → p ≤ℤ q → Placed a p x y → Placed c q x y
placed_wider a c p q x y i j f = record { one = wider a c x i f.one; two = wider p q y j f.two }

holds_wider : (a c p q : ℤ) (hs : List HoldEntry) → a ≤ℤ c → p ≤ℤ q → AllByRecursion (HoldPlaced a p) hs
    → AllByRecursion (HoldPlaced c q) hs
holds_wider a c p q hs i j all = All-weaker (HoldPlaced a p) (HoldPlaced c q)
    (λ h f. placed_wider a c p q h.account h.location i j f) hs all

bids_wider : (a c p q : ℤ) (bs : List BidEntry) → a ≤ℤ c → p ≤ℤ q → AllByRecursion (BidPlaced a p) bs → AllByRecursion (BidPlaced c q) bs
bids_wider a c p q bs i j all = All-weaker (BidPlaced a p) (BidPlaced c q)
    (λ b f. (placed_wider a c p q b.account b.location i j f.0, f.1)) bs all

bids_low : (a p : ℤ) (bs : List BidEntry) → AllByRecursion (BidPlaced a p) bs → AllByRecursion (λ b. pos 0 ≤ℤ highest_point b.curve) bs
bids_low a p bs all = All-weaker (BidPlaced a p) (λ b. pos 0 ≤ℤ highest_point b.curve) (λ b f. f.1) bs all

same : (z : ℤ) → z ≤ℤ z
same z = omega (arith, ints)

-- other accounts, of the same entities
sum_tests : (p q : BidEntry → Bool) (bs : List BidEntry) → AllByRecursion (λ b. p b ≡ q b) bs → sum_if p top bs ≡ sum_if q top bs
sum_tests p q [] a = refl
sum_tests p q (b ∷ bs) a = let e = sum_tests p q bs a.1 in rw a.0 (omega (arith, ints))

same_entities : (xs ys : List AccountEntry) (n p : ℤ) (bs : List BidEntry) (entity location hour : ℤ)
    → ((k : ℤ) → inside (pos 1) n k ≡ true → (at_place no_account ys k).entity ≡ (at_place no_account xs k).entity)
    → AllByRecursion (BidPlaced n p) bs
    → sum_if (counts ys entity location hour) top bs ≡ sum_if (counts xs entity location hour) top bs
same_entities xs ys n p bs entity location hour e all =
    sum_tests (counts ys entity location hour) (counts xs entity location hour) bs
    (All-weaker (BidPlaced n p) (λ b. counts ys entity location hour b ≡ counts xs entity location hour b)
    (λ b f. ap (λ (z : ℤ). eq_z z entity && (eq_z b.location location && eq_z b.hour hour))
    (e b.account f.0.one)) bs all)

set_entity : (xs : List AccountEntry) (a : ℤ) (x : AccountEntry) → x.entity ≡ (at_place no_account xs a).entity
    → inside (pos 1) (count_of xs) a ≡ true → (k : ℤ) → inside (pos 1) (count_of xs) k ≡ true
    → (at_place no_account (replaced xs a x) k).entity ≡ (at_place no_account xs k).entity
set_entity xs a x e known k there = by_test (eq_z k a)
    (λ t. let y = eq_z_true k a t in rw y (ap (λ (z : AccountEntry). z.entity) (place_set_same no_account xs x a known)
    ∙ e))
    (λ t. ap (λ (z : AccountEntry). z.entity)
    (place_set_other no_account xs x a k (λ y. clash (eq_z k a) (eq_z_same k a y) t)))

and_false : (a b : Bool) → (a && (false && b)) ≡ false
and_false true b = refl
and_false false b = refl

parts : (a b c : Bool) → (a && (b && c)) ≡ true → (a ≡ true) × (b ≡ true) × (c ≡ true)
parts true true true e = (refl, refl, refl)
parts true true false e = absurd (clash false e refl)
parts true false c e = absurd (clash false e refl)
parts false b c e = absurd (clash false e refl)

nobody_there : (a p location : ℤ) (xs : List AccountEntry) (entity hour : ℤ) (bs : List BidEntry)
    → inside (pos 1) p location ≡ false → AllByRecursion (BidPlaced a p) bs → sum_if (counts xs entity location hour) top bs ≡ pos
    0
nobody_there a p location xs entity hour bs e all = sum_none (counts xs entity location hour) top bs
    (All-weaker (BidPlaced a p) (λ b. counts xs entity location hour b ≡ false) (λ b f.
    let t = eq_z_apart b.location location
    (λ y. clash (inside (pos 1) p location) (subst (λ (z : ℤ). inside (pos 1) p z ≡ true) y f.0.two) e) in
    rw t (and_false (eq_z (at_place no_account xs b.account).entity entity) (eq_z b.hour hour))) bs all)

location_pushed : (l : Ledger) (x : LocationEntry) → AllByRecursion (λ p. pos 0 ≤ℤ p.limit) (l.locations.entries ++ (x ∷ []))
    → Positions l
    → (entity location hour : ℤ) → inside (pos 1) (count_of (l.locations.entries ++ (x ∷ []))) location ≡ true
    → is_within (percent_of (at_place no_location (l.locations.entries ++ (x ∷ [])) location).class l.day.month)
    (at_place no_location (l.locations.entries ++ (x ∷ [])) location).limit (held l entity location hour) ≡ true
location_pushed l x limits s entity location hour e =
    let ps = l.locations.entries in
    by_test (inside (pos 1) (count_of ps) location)
    (λ t. let g : at_place no_location (ps ++ (x ∷ [])) location ≡ at_place no_location ps location =
    place_pushed no_location ps x location t in
    rw g (s.within entity location hour t))
    (λ t. let z = nobody_there (na l) (np l) location l.accounts.entries entity hour l.bids.entries t
    s.bids in
    let low = place_all (λ p. pos 0 ≤ℤ p.limit) no_location (ps ++ (x ∷ [])) location limits e in
    rw z (within_none (at_place no_location (ps ++ (x ∷ [])) location).class l.day.month
    (at_place no_location (ps ++ (x ∷ [])) location).limit low))

bid_pushed : (l : Ledger) (b : BidEntry) → Positions l
    → is_within (percent_of (location_at l b.location).class l.day.month) (location_at l b.location).limit
    (position_of l (account_at l b.account).entity b.location b.hour +ℤ highest_point b.curve) ≡ true
    → (entity location hour : ℤ) → inside (pos 1) (np l) location ≡ true
    → is_within (percent_of (location_at l location).class l.day.month) (location_at l location).limit
    (sum_if (counts l.accounts.entries entity location hour) top (l.bids.entries ++ (b ∷ []))) ≡ true
bid_pushed l b s fits entity location hour e =
    let test = counts l.accounts.entries entity location hour in
    rw (sum_entered test top l.bids.entries b)
    (by_test (test b)
    (λ t. let y = parts _ _ _ t in
    let ye = eq_z_true (account_at l b.account).entity entity y.0 in
    let yl = eq_z_true b.location location y.1 in
    let yh = eq_z_true b.hour hour y.2 in
    let k = sum_kept test top l.bids.entries in
    let P : ℤ → ℤ → ℤ → Type 0 = λ e p h. is_within (percent_of (location_at l p).class l.day.month)
    (location_at l p).limit (position_of l e p h +ℤ highest_point b.curve) ≡ true in
    let f₁ : P entity b.location b.hour = subst (λ (z : ℤ). P z b.location b.hour) ye fits in
    let f₂ : P entity location b.hour = subst (λ (z : ℤ). P entity z b.hour) yl f₁ in
    let f₃ : P entity location hour = subst (λ (z : ℤ). P entity location z) yh f₂ in
    let le : (sum_if test top l.bids.entries +ℤ highest_point b.curve)
    ≤ℤ (position_of l entity location hour +ℤ highest_point b.curve) = omega (arith, ints) in
    rw t (within_less _ _ _ _ le f₃))
    (λ t. let le : (sum_if test top l.bids.entries +ℤ pos 0) ≤ℤ held l entity location hour =
    omega (arith, ints) in
    rw t (within_less _ _ _ _ le (s.within entity location hour e))))

placed_still : (a p : ℤ) (t : Bool) (b : BidEntry) (s : BidStage) → BidPlaced a p b
    → BidPlaced a p (cond t (bid_with b s) b)
placed_still a p t b s f = changed (BidPlaced a p) t b s (λ _. f) f

held_still : (xs : List AccountEntry) (entity location hour : ℤ) (t : BidEntry → Bool) (g : BidEntry → BidStage)
    (bs : List BidEntry)
    → sum_if (counts xs entity location hour) top (map (λ b. cond (t b) (bid_with b (g b)) b) bs) ≤ℤ sum_if
    (counts xs entity location hour) top bs
held_still xs entity location hour t g bs = sum_changed (counts xs entity location hour) top
    (λ b. cond (t b) (bid_with b (g b)) b) bs (each bs)
  where
    each : (bs : List BidEntry)
        → AllByRecursion (λ b. (counts xs entity location hour (cond (t b) (bid_with b (g b)) b) ≡ counts xs entity location hour
        b) × (top (cond (t b) (bid_with b (g b)) b) ≤ℤ highest_point b.curve)) bs
    each [] = tt
    each (b ∷ bs) = (
      changed (λ d. (counts xs entity location hour d ≡ counts xs entity location hour b)
          × (highest_point d.curve ≤ℤ highest_point b.curve)) (t b) b (g b)
          (λ _. (refl, same (highest_point b.curve))) (refl, same (highest_point b.curve)),
      each bs,
    )

step : (m : Prices) (l : Ledger) (c : Call) → Passed m l c → Positions l → Positions (enter m l c)
step m l (open_account e k) p s =
    let xs = l.accounts.entries in
    let x : AccountEntry = record { entity = e; limit = k } in
    let up = pushed_longer xs x in
    record {
      limits = s.limits;
      holds = holds_wider _ _ _ _ l.holds.entries up (same (np l)) s.holds;
      bids = bids_wider _ _ _ _ l.bids.entries up (same (np l)) s.bids;
      within = λ entity location hour there. rw (same_entities xs (xs ++ (x ∷ [])) (na l) (np l) l.bids.entries
          entity location hour (λ k t. ap (λ (z : AccountEntry). z.entity) (place_pushed no_account xs x k t))
          s.bids) (s.within entity location hour there);
    }
step m l (add_location c k) p s = if_some_lem Positions (class_named c) l _ (λ _. s) (λ class _.
    let ps = l.locations.entries in
    let x : LocationEntry = record { class = class; limit = k } in
    let up = pushed_longer ps x in
    let low = (inside_out (pos 0) (pos 100000) k
    (each_so (BadArgument Book) (pos 1) (is_some (class_named c) ∷ inside (pos 0) (pos 100000) k ∷ [])
    p.0).1.0).0 in
    let limits = All-push (λ p. pos 0 ≤ℤ p.limit) ps x s.limits low in
    record {
      limits = limits;
      holds = holds_wider _ _ _ _ l.holds.entries (same (na l)) up s.holds;
      bids = bids_wider _ _ _ _ l.bids.entries (same (na l)) up s.bids;
      within = location_pushed l x limits s;
    })
step m l (set_limit a k) p s =
    let xs = l.accounts.entries in
    let x : AccountEntry = record { entity = (account_at l a).entity; limit = k } in
    let known = asked _ _ p.1.0 in
    let up : count_of xs ≤ℤ count_of (replaced xs a x) = rw replaced_long (same (count_of xs)) in
    record {
      limits = s.limits;
      holds = holds_wider _ _ _ _ l.holds.entries up (same (np l)) s.holds;
      bids = bids_wider _ _ _ _ l.bids.entries up (same (np l)) s.bids;
      within = λ entity location hour there. rw (same_entities xs (replaced xs a x) (na l) (np l) l.bids.entries
          entity location hour (set_entity xs a x refl known) s.bids) (s.within entity location hour there);
    }
step m l (take_hold a t sd q) p s = if_some_lem Positions (side_named sd) l _ (λ _. s)
    (λ side _. held_step Positions l a t side q (m t side) s (λ price _. record {
      limits = s.limits;
      bids = s.bids;
      within = s.within;
      holds = All-push (HoldPlaced (na l) (np l)) l.holds.entries _ s.holds
          (record { one = asked _ _ p.1.0; two = asked _ _ p.1.1.0 });
    }))
step m l (release_hold n) p s = record {
  limits = s.limits;
  bids = s.bids;
  within = s.within;
  holds =
      all_kept_by _ (HoldPlaced (na l) (np l)) l.holds.entries s.holds;
}
step m l (place_bid n h cv) p s = if_some_lem Positions (hold_numbered l n) l _ (λ _. s) (λ d e.
    let f = found_has (HoldPlaced (na l) (np l)) _ l.holds.entries d e s.holds in
    let qs = asked_of (hold_numbered l n) d _ e p.1.1.1 in
    let b = new_bid l d h cv in
    record {
      limits = s.limits;
      holds = all_kept_by _ (HoldPlaced (na l) (np l)) l.holds.entries s.holds;
      bids = All-push (BidPlaced (na l) (np l)) l.bids.entries b s.bids
          (record { one = f.one; two = f.two }, curve_low d.side cv qs.0);
      within = bid_pushed l b s (asked _ _ qs.1.1.1.1.0);
    })
step m l (withdraw_bid n) p s =
    let keep : BidEntry → Bool = λ b. not (eq_z b.number n) in
    record {
      limits = s.limits;
      holds = s.holds;
      bids = all_kept_by keep (BidPlaced (na l) (np l)) l.bids.entries s.bids;
      within = λ entity location hour there. within_less
          _ _ _ _ (sum_shrunk (counts l.accounts.entries entity location hour) top keep l.bids.entries
          (bids_low (na l) (np l) l.bids.entries s.bids)) (s.within entity location hour there);
    }
step m l close_bidding p s = record { limits = s.limits; holds = s.holds; bids = s.bids; within = s.within }
step m l (clear_hour h ps) p s =
    let keep = stays_after h ps in
    let bs = filter keep l.bids.entries in
    record {
      limits = s.limits;
      holds = s.holds;
      bids = all_changed (BidPlaced (na l) (np l)) (clear_bid h ps)
          (λ b f. placed_still (na l) (np l) (is_at h b) b _ f) bs (all_kept_by keep (BidPlaced (na l) (np l))
          l.bids.entries s.bids);
      within = λ entity location hour there.
          let i = sum_shrunk (counts l.accounts.entries entity location hour) top keep l.bids.entries
          (bids_low (na l) (np l) l.bids.entries s.bids) in
          let j = held_still l.accounts.entries entity location hour (is_at h)
          (λ b. awarded_stage (award_by ps b) b.stage) bs in
          let le : sum_if (counts l.accounts.entries entity location hour) top (map (clear_bid h ps) bs) ≤ℤ held l
          entity location hour = omega (arith, ints) in
          within_less _ _ _ _ le (s.within entity location hour there);
    }
step m l (price_hour h d g) p s = record {
  limits = s.limits;
  holds = s.holds;
  bids = all_changed (BidPlaced (na l) (np l)) (price_bid l h d g) (λ b f. placed_still (na l) (np l) (is_at h b) b _ f)
      l.bids.entries s.bids;
  within = λ entity location hour there. within_less _ _ _ _ (held_still l.accounts.entries entity location hour
      (is_at h) (λ b. averaged_stage b.side (day_ahead_at l b.location h) (average_at l d g b.location h)
      b.stage) l.bids.entries) (s.within entity location hour there);
}
step m l (pay_account a) p s = record {
  limits = s.limits;
  holds = s.holds;
  bids = all_changed (BidPlaced (na l) (np l)) (pay_bid a) (λ b f. placed_still (na l) (np l) (eq_z b.account a) b
      _ f) l.bids.entries s.bids;
  within = λ entity location hour there. within_less _ _ _ _ (held_still l.accounts.entries entity location hour
      (λ b. eq_z b.account a) (λ b. paid_stage b.stage) l.bids.entries)
      (s.within entity location hour there);
}
step m l (adjust_account x) p s = if_some_lem Positions (period_named x.period) l _ (λ _. s)
    (λ d _. record { limits = s.limits; holds = s.holds; bids = s.bids; within = s.within })

begun : (day : Day) → Positions (empty_ledger day)
begun day = record {
  limits = tt;
  holds = tt;
  bids = tt;
  within = λ entity location hour e. absurd (let h =
      inside_out (pos 1) (pos 0) location e in omega (arith, ints, h.0, h.1));
}

placed_runs : (m : Prices) (day : Day) (cs : List Call) → Positions (ledger_at m day cs)
placed_runs m day cs = every_run Positions m (step m) (empty_ledger day) cs (begun day)

pub position_runs : EveryRun WithinPositions
position_runs m day cs entity location hour e =
    let l = ledger_at m day cs in
    let s = placed_runs m day cs in
    rw (sum_kept (counts l.accounts.entries entity location hour) top l.bids.entries)
    (s.within entity location hour e)

-- no highest point is below zero
pub tops_low : (m : Prices) (day : Day) (cs : List Call) → AllByRecursion (λ b. pos 0 ≤ℤ highest_point b.curve)
    (ledger_at m day cs).bids.entries
tops_low m day cs = let l = ledger_at m day cs in bids_low (na l) (np l) l.bids.entries
    (placed_runs m day cs).bids
