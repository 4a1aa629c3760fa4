-- One bid a side, location and hour; one adjustment a constraint and period.
use Rattle.std.proofs.Common.{◌≡◌, Bool, true, false, cond, List, [], ◌∷◌, ◌++◌, map, filter, refl, ◌∙◌}
use Rattle.std.specs.List.{AllByRecursion}
use Rattle.std.proofs.ByRecursion.{All-push, all_kept_by, All-map, All-weaker}
use Rattle.market.specs.Letters.{side_named, class_named, period_named}
use Rattle.rules.specs.declared.stages.BidStage.{BidStage}
use Rattle.rules.specs.Calls.{Prices, Call, open_account, add_location, set_limit, take_hold, release_hold, place_bid, withdraw_bid, close_bidding, clear_hour, price_hour, pay_account, adjust_account}
use Rattle.rules.specs.Ledger.{BidEntry, Ledger, empty_ledger, bid_with, hold_numbered}
use Rattle.rules.specs.Questions.{is_such_bid}
use Rattle.rules.specs.Rules.{is_at, clear_bid, price_bid, pay_bid, new_bid, new_clawback, enter}
use Rattle.rules.specs.Words.{eq_z}
use Rattle.laws.specs.Every.{EveryRun}
use Rattle.laws.specs.Standing.{Unlike, same_bid, same_clawback, EachOnce}
use Rattle.laws.proofs.Runs.{Passed, none_there, by_test, if_some_lem, asked_of, every_run, held_step}

module _ {X : Type 0} (alike : X → X → Bool) where
  unlike_one : (t : Bool) (x : X) (ys xs : List X) → AllByRecursion (λ y. alike x y ≡ false) ys → Unlike alike ys
      → Unlike alike (cond t (x ∷ ys) ys)
  unlike_one true x ys xs a u = (a, u)
  unlike_one false x ys xs a u = u

  pub unlike_kept : (keep : X → Bool) (xs : List X) → Unlike alike xs → Unlike alike (filter keep xs)
  unlike_kept keep [] u = tt
  unlike_kept keep (x ∷ xs) u = unlike_one (keep x) x (filter keep xs) xs
      (all_kept_by keep (λ y. alike x y ≡ false) xs u.0) (unlike_kept keep xs u.1)

  pub unlike_entered : (xs : List X) (x : X) → AllByRecursion (λ y. alike y x ≡ false) xs → Unlike alike xs
      → Unlike alike (xs ++ (x ∷ []))
  unlike_entered [] x a u = (tt, tt)
  unlike_entered (y ∷ xs) x a u = (
    All-push (λ z. alike y z ≡ false) xs x u.0 a.0,
    unlike_entered xs x a.1
        u.1,
  )

  pub unlike_changed : (f : X → X) → ((x y : X) → alike (f x) (f y) ≡ alike x y) → (xs : List X) → Unlike alike xs
      → Unlike alike (map f xs)
  unlike_changed f e [] u = tt
  unlike_changed f e (x ∷ xs) u = (
    All-map (λ y. alike (f x) y ≡ false) f xs (All-weaker (λ y. alike x y ≡ false) (λ y. alike (f x) (f y) ≡ false)
        (λ y z. e x y ∙ z) xs u.0),
    unlike_changed f e xs u.1,
  )

none_kept : {X : Type 0} (p : X → Bool) (xs : List X) → filter p xs ≡ [] → AllByRecursion (λ x. p x ≡ false) xs
none_kept p [] e = tt
none_kept {X} p (x ∷ xs) e = by_test (p x)
    (λ t. let k : x ∷ filter p xs ≡ [] = rw t at e in cc)
    (λ t. let k : filter p xs ≡ [] = rw t at e in (t, none_kept p xs k))

-- a bid changed in its stage is the same bid
restaged : (t u : Bool) (b d : BidEntry) (s r : BidStage) → same_bid (cond t (bid_with b s) b) (cond u (bid_with d r) d)
    ≡ same_bid b d
restaged true true b d s r = refl
restaged true false b d s r = refl
restaged false true b d s r = refl
restaged false false b d s r = refl

step : (m : Prices) (l : Ledger) (c : Call) → Passed m l c → EachOnce m l → EachOnce m (enter m l c)
step m l (open_account e k) p r = record { bids = r.bids; clawbacks = r.clawbacks }
step m l (add_location k e) p r = if_some_lem (EachOnce m) (class_named k) l _ (λ _. r)
    (λ c _. record { bids = r.bids; clawbacks = r.clawbacks })
step m l (set_limit e k) p r = record { bids = r.bids; clawbacks = r.clawbacks }
step m l (take_hold a t s q) p r = if_some_lem (EachOnce m) (side_named s) l _ (λ _. r)
    (λ sd _. held_step (EachOnce m) l a t sd q (m t sd) r (λ price _. record {
      bids = r.bids;
      clawbacks =
          r.clawbacks;
    }))
step m l (release_hold n) p r = record { bids = r.bids; clawbacks = r.clawbacks }
step m l (place_bid n h cv) p r = if_some_lem (EachOnce m) (hold_numbered l n) l _ (λ _. r) (λ d e.
    let q = asked_of (hold_numbered l n) d _ e p.1.1.1 in
    record {
      bids = unlike_entered same_bid l.bids.entries (new_bid l d h cv) (none_kept (is_such_bid d h) l.bids.entries
          (none_there _ _ q.1.1.0)) r.bids;
      clawbacks = r.clawbacks;
    })
step m l (withdraw_bid n) p r = record {
  bids = unlike_kept same_bid _ l.bids.entries r.bids;
  clawbacks =
      r.clawbacks;
}
step m l close_bidding p r = record { bids = r.bids; clawbacks = r.clawbacks }
step m l (clear_hour h ps) p r =
    record {
      bids = unlike_changed same_bid (clear_bid h ps) (λ b d. restaged (is_at h b) (is_at h d) b d _ _)
          _ (unlike_kept same_bid _ l.bids.entries r.bids);
      clawbacks = r.clawbacks;
    }
step m l (price_hour h d g) p r =
    record {
      bids = unlike_changed same_bid (price_bid l h d g) (λ b d. restaged (is_at h b) (is_at h d) b d _ _)
          l.bids.entries r.bids;
      clawbacks = r.clawbacks;
    }
step m l (pay_account a) p r =
    record {
      bids = unlike_changed same_bid (pay_bid a) (λ b d. restaged (eq_z b.account a) (eq_z d.account a) b d
          _ _) l.bids.entries r.bids;
      clawbacks = r.clawbacks;
    }
step m l (adjust_account x) p r = if_some_lem (EachOnce m) (period_named x.period) l _ (λ _. r) (λ d e.
    let q = asked_of (period_named x.period) d _ e p.1.1.1.1 in
    record {
      bids = r.bids;
      clawbacks = unlike_entered same_clawback l.clawbacks (new_clawback l x d)
          (none_kept _ l.clawbacks (none_there _ _ q.0)) r.clawbacks;
    })

pub once_runs : EveryRun EachOnce
once_runs m day cs = every_run (EachOnce m) m (step m) (empty_ledger day) cs (record { bids = tt; clawbacks = tt })
