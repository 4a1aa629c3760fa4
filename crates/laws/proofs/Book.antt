-- A bid is booked exactly when its questions all say yes, and then only its hold is spent and only it is entered.
use Rattle.std.proofs.Common.{◌≡◌, Bool, true, false, cond, not, List, [], ◌∷◌, ◌++◌, ℤ, pos, ◌+ℤ◌, ◌≤ℤ◌, is_some, Some, None, filter, Option, sym, refl, ap, subst, arith}
use Rattle.std.specs.List.{AllByRecursion}
use Rattle.std.proofs.lemmas.Int.{ints}
use Rattle.market.specs.declared.segment.Segment.{Segment}
use Rattle.market.specs.declared.fault.Fault.{Fault}
use Rattle.rules.specs.declared.entries.HoldEntry.{HoldEntry}
use Rattle.rules.specs.Calls.{Prices, place_bid, Answer, numbered, refused}
use Rattle.rules.specs.Ledger.{Ledger, with_entry, with_holds, with_bids, hold_numbered, holds_without}
use Rattle.rules.specs.Questions.{first_no}
use Rattle.rules.specs.Rules.{questions, new_bid, enter, refusal_of}
use Rattle.rules.specs.Runs.{ledger_at}
use Rattle.rules.specs.Words.{eq_z, first, if_some}
use Rattle.laws.specs.Booking.{BookedOn, BookingLaw}
use Rattle.laws.specs.Every.{EveryRun}
use Rattle.laws.specs.Standing.{Rising, NumberedOnce}
use Rattle.laws.proofs.Numbers.{rising_above, numbered_runs}
use Rattle.laws.proofs.Runs.{Yes, passed, asked, clash, went}
use Rattle.laws.proofs.Sums.{eq_z_apart, eq_z_true}

all_yes : (qs : List (Option Fault)) → Yes qs → first_no qs ≡ None
all_yes [] a = refl
all_yes (None ∷ qs) a = all_yes qs a.1
all_yes (Some f ∷ qs) a = absurd (let e = a.0 in cc)

-- the one hold of a number, among those before and after it
record Split (n : ℤ) (h : HoldEntry) (xs : List HoldEntry) : Type 0 where
  front : List HoldEntry
  back : List HoldEntry
  stood : xs ≡ front ++ (h ∷ back)
  left : filter (λ x. not (eq_z x.number n)) xs ≡ front ++ back
  its_number : h.number ≡ n

none_such : (n : ℤ) (xs : List HoldEntry) → AllByRecursion (λ x. (n +ℤ pos 1) ≤ℤ x.number) xs
    → filter (λ x. not (eq_z x.number n)) xs ≡ xs
none_such n [] a = refl
none_such n (x ∷ xs) a =
    let h = a.0 in
    let e : eq_z x.number n ≡ false = eq_z_apart x.number n (λ k. omega (arith, ints)) in
    rw e (ap (λ (ys : List HoldEntry). x ∷ ys) (none_such n xs a.1))

split_one : (t : Bool) (n : ℤ) (h x : HoldEntry) (xs : List HoldEntry) → eq_z x.number n ≡ t
    → AllByRecursion (λ y. (x.number +ℤ pos 1) ≤ℤ y.number) xs
    → first (cond t (x ∷ filter (λ x. eq_z x.number n) xs) (filter (λ x. eq_z x.number n) xs)) ≡ Some h
    → (first (filter (λ x. eq_z x.number n) xs) ≡ Some h → Split n h xs) → Split n h (x ∷ xs)
split_one true n h x xs t up e ih =
    let k : x ≡ h = cc in
    let num = eq_z_true x.number n t in
    let rest : filter (λ x. not (eq_z x.number n)) xs ≡ xs =
    none_such n xs (subst (λ (z : ℤ). AllByRecursion (λ y. (z +ℤ pos 1) ≤ℤ y.number) xs) num up) in
    subst (λ (y : HoldEntry). Split n y (x ∷ xs)) k (record {
      front = [];
      back = xs;
      stood = refl;
      left =
          rw t rest;
      its_number = num;
    })
split_one false n h x xs t up e ih =
    let s = ih e in
    record {
      front = x ∷ s.front;
      back = s.back;
      stood = ap (λ (ys : List HoldEntry). x ∷ ys) s.stood;
      left = rw t (ap (λ (ys : List HoldEntry). x ∷ ys) s.left);
      its_number = s.its_number;
    }

split : (n : ℤ) (h : HoldEntry) (from : ℤ) (xs : List HoldEntry) (next : ℤ) → Rising (λ x. x.number) from xs next
    → first (filter (λ x. eq_z x.number n) xs) ≡ Some h → Split n h xs
split n h from [] next r e = cc
split n h from (x ∷ xs) next r e =
    split_one (eq_z x.number n) n h x xs refl (rising_above (λ x. x.number) (x.number +ℤ pos 1) xs next r.1) e
    (split n h (x.number +ℤ pos 1) xs next r.1)

found : {X : Type 0} (o : Option X) → is_some o ≡ true → (x : X) × (o ≡ Some x)
found None e = absurd (clash false e refl)
found (Some x) e = (x, refl)

booked_on : (m : Prices) (l : Ledger) (n h : ℤ) (cv : List Segment) → NumberedOnce m l → (d : HoldEntry)
    → hold_numbered l n ≡ Some d → BookedOn l (enter m l (place_bid n h cv)) n h cv
booked_on m l n h cv r d e =
    let s = split n d (pos 1) l.holds.entries l.holds.next r.holds e in
    subst (λ (o : Option HoldEntry). BookedOn l
    (if_some o l (λ d. with_bids (with_holds l (holds_without l n)) (with_entry l.bids (new_bid l d h cv)))) n h cv)
    (sym e) (record {
      front = s.front;
      spent = d;
      back = s.back;
      its_number = s.its_number;
      stood = s.stood;
      holds = s.left;
      bids = refl;
      next_hold = refl;
      next_bid = refl;
      day = refl;
      stage = refl;
      hours = refl;
      accounts = refl;
      locations = refl;
      clawbacks = refl;
    })

-- what an answer tells of the refusal
numbered_none : (o : Option Fault) (r : Answer) (n : ℤ) → if_some o r refused ≡ numbered n → o ≡ None
numbered_none None r n e = refl
numbered_none (Some f) r n e = cc

refused_same : (o : Option Fault) (k : ℤ) (l after : Ledger) (f : Fault) → if_some o (numbered k) refused ≡ refused f
    → if_some o after (λ f. l) ≡ l
refused_same None k l after f e = cc
refused_same (Some g) k l after f e = refl

pub booking_runs : EveryRun BookingLaw
booking_runs m day cs =
    let l = ledger_at m day cs in
    record {
      booked = λ n h cv yes.
          let c = place_bid n h cv in
          let e = all_yes (questions m l c) yes in
          let d = found (hold_numbered l n) (asked _ _ yes.1.0) in (
            ap (λ (o : Option Fault). if_some o (numbered l.bids.next) refused) e,
            subst (λ (after : Ledger). BookedOn l after n h cv) (sym (went m l c e))
                (booked_on m l n h cv (numbered_runs m day cs) d.0 d.1),
          );
      only_then = λ n h cv k e. passed (questions m l (place_bid n h cv))
          (numbered_none (refusal_of m l (place_bid n h cv)) (numbered l.bids.next) k e);
      else_nothing = λ n h cv f e. refused_same (refusal_of m l (place_bid n h cv)) l.bids.next l
          (enter m l (place_bid n h cv)) f e;
    }
