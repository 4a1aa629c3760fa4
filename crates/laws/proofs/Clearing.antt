-- What clearing an hour leaves: an award for each of its bids that stand, and no bid without one.
use Rattle.std.proofs.Common.{◌≡◌, ℕ, suc, Bool, true, false, cond, not, ◌&&◌, ◌||◌, List, [], ◌∷◌, ◌++◌, map, length, ℤ, pos, ◌+ℤ◌, ◌≤ℤ◌, is_some, Some, None, filter, Option, sym, refl, ap, ◌∙◌, subst, arith}
use Rattle.std.specs.List.{AllByRecursion}
use Rattle.std.proofs.ByRecursion.{all_kept_by, All-map, All-weaker, kept_by_passes}
use Rattle.std.proofs.lemmas.Int.{ints}
use Rattle.market.specs.declared.segment.Segment.{Segment}
use Rattle.market.specs.declared.fault.Fault.{Fault}
use Rattle.rules.specs.declared.stages.BidStage.{BidStage}
use Rattle.rules.specs.declared.stages.BidStage.TheVariants.{Awarded}
use Rattle.rules.specs.Awards.{last_end, award_by}
use Rattle.rules.specs.Calls.{clear_hour, counted, refused}
use Rattle.rules.specs.Ledger.{BidEntry, Ledger, bid_with}
use Rattle.rules.specs.Rules.{is_at, awarded_stage, clear_bid, stays_after, clear_bids, result_of, answer_to}
use Rattle.rules.specs.Runs.{ledger_at}
use Rattle.rules.specs.Words.{eq_z, count_of, at_place, if_some}
use Rattle.laws.specs.Awarding.{LastOf, meets, ClearLaw}
use Rattle.laws.specs.Every.{EveryRun}
use Rattle.laws.specs.Standing.{Rising}
use Rattle.laws.proofs.Award.{award_law}
use Rattle.laws.proofs.Cover.{both}
use Rattle.laws.proofs.Numbers.{rising_above, numbered_runs}
use Rattle.laws.proofs.Runs.{clash, changed, went}
use Rattle.laws.proofs.Sums.{eq_z_apart}

module _ (hour : ℤ) (prices : List ℤ) where
  abbrev Given : BidEntry → Type 0
  Given b = is_at hour b ≡ true → (q : ℤ) × (b.stage ≡ Awarded q) × LastOf (meets prices b) b.curve q

  -- a bid that stays has its award
  given_one : (t : Bool) (o : Option ℤ) (b : BidEntry) → is_at hour b ≡ t → award_by prices b ≡ o
      → (not t || is_some o) ≡ true
      → Given (cond t (bid_with b (awarded_stage o b.stage)) b)
  given_one true None b t e k = absurd (clash false k refl)
  given_one true (Some q) b t e k = λ _. (
    q,
    refl,
    award_law.some b.side (at_place (pos 0) prices b.location)
        b.curve q e,
  )
  given_one false o b t e k = λ x. absurd (clash (is_at hour b) x t)

  given_all : (bs : List BidEntry) → AllByRecursion Given (clear_bids hour prices bs)
  given_all bs = All-map Given (clear_bid hour prices) (filter (stays_after hour prices) bs)
      (All-weaker (λ b. stays_after hour prices b ≡ true) (λ b. Given (clear_bid hour prices b))
      (λ b k. given_one (is_at hour b) (award_by prices b) b refl refl k) (filter (stays_after hour prices) bs)
      (kept_by_passes (stays_after hour prices) bs))

  -- no met segment, no award
  none_given : (xs : List Segment) (p : Segment → Bool) → AllByRecursion (λ s. p s ≡ false) xs → filter p xs ≡ []
  none_given [] p a = refl
  none_given (s ∷ xs) p a = rw a.0 (none_given xs p a.1)

  abbrev Unmet : BidEntry → Type 0
  Unmet b = AllByRecursion (λ s. meets prices b s ≡ false) b.curve

  leaves : (b : BidEntry) → is_at hour b ≡ true → Unmet b → stays_after hour prices b ≡ false
  leaves b t u =
      let e : award_by prices b ≡ None = ap last_end (none_given b.curve (meets prices b) u) in
      rw (t, e) refl

  same_number : (t : Bool) (b : BidEntry) (s : BidStage) → (cond t (bid_with b s) b).number ≡ b.number
  same_number t b s = changed (λ d. d.number ≡ b.number) t b s (λ _. refl) refl

  abbrev Apart : List BidEntry → BidEntry → Type 0
  Apart after b = AllByRecursion (λ d. eq_z d.number b.number ≡ false) after

  -- those after a bid have higher numbers
  above_kept : (b : BidEntry) (bs : List BidEntry) → AllByRecursion (λ d. (b.number +ℤ pos 1) ≤ℤ d.number) bs
      → Apart (clear_bids hour prices bs) b
  above_kept b bs a =
      All-map (λ d. eq_z d.number b.number ≡ false) (clear_bid hour prices) (filter (stays_after hour prices) bs)
      (All-weaker (λ d. (b.number +ℤ pos 1) ≤ℤ d.number) (λ d. eq_z (clear_bid hour prices d).number
      b.number ≡ false)
      (λ d h. eq_z_apart (clear_bid hour prices d).number b.number (λ e. let n =
      same_number (is_at hour d) d (awarded_stage (award_by prices d) d.stage) in omega (arith, ints)))
      (filter (stays_after hour prices) bs)
      (all_kept_by (stays_after hour prices) (λ d. (b.number +ℤ pos 1) ≤ℤ d.number) bs a))

  abbrev Ended : List BidEntry → BidEntry → Type 0
  Ended after b = is_at hour b ≡ true → Unmet b → Apart after b

  ended_head : (t : Bool) (b : BidEntry) (after : List BidEntry) → stays_after hour prices b ≡ t → Apart after b
      → Ended (map (clear_bid hour prices) (cond t (b ∷ []) []) ++ after) b
  ended_head true b after t a = λ x u. absurd (clash (stays_after hour prices b) t (leaves b x u))
  ended_head false b after t a = λ x u. a

  -- a bid before is another
  ended_rest : (t : Bool) (b : BidEntry) (after : List BidEntry) (d : BidEntry) → (b.number +ℤ pos 1) ≤ℤ d.number
      → Ended after d → Ended (map (clear_bid hour prices) (cond t (b ∷ []) []) ++ after) d
  ended_rest true b after d h e =
      λ x u. (
        eq_z_apart (clear_bid hour prices b).number d.number (λ k. let n =
            same_number (is_at hour b) b (awarded_stage (award_by prices b) b.stage) in omega (arith, ints)),
        e x u,
      )
  ended_rest false b after d h e = e

  split : (t : Bool) (b : BidEntry) (ks : List BidEntry) → map (clear_bid hour prices) (cond t (b ∷ ks) ks) ≡ map
      (clear_bid hour prices) (cond t (b ∷ []) []) ++ map (clear_bid hour prices) ks
  split true b ks = refl
  split false b ks = refl

  ended_all : (from : ℤ) (bs : List BidEntry) (next : ℤ) → Rising (λ b. b.number) from bs next
      → AllByRecursion (Ended (clear_bids hour prices bs)) bs
  ended_all from [] next r = tt
  ended_all from (b ∷ bs) next r =
      let up = rising_above (λ b. b.number) (b.number +ℤ pos 1) bs next r.1 in
      let rest = ended_all (b.number +ℤ pos 1) bs next r.1 in
      let t = stays_after hour prices b in
      subst (λ (after : List BidEntry). AllByRecursion (Ended after) (b ∷ bs))
      (sym (split t b (filter (stays_after hour prices) bs))) (
        ended_head t b (clear_bids hour prices bs) refl (above_kept b bs up),
        All-weaker (λ d. ((b.number +ℤ pos 1) ≤ℤ d.number) × Ended (clear_bids hour prices bs) d)
            (Ended (map (clear_bid hour prices) (cond t (b ∷ []) []) ++ clear_bids hour prices bs))
            (λ d k. ended_rest t b (clear_bids hour prices bs) d k.0 k.1) bs
            (both (λ d. (b.number +ℤ pos 1) ≤ℤ d.number) (Ended (clear_bids hour prices bs)) bs up rest),
      )

  -- as many as are awarded stand
  same_hour : (t : Bool) (b : BidEntry) (s : BidStage) → is_at hour (cond t (bid_with b s) b) ≡ is_at hour b
  same_hour t b s = changed (λ d. is_at hour d ≡ is_at hour b) t b s (λ _. refl) refl

  count_one : (at has : Bool) (b d : BidEntry) (ks ns : List BidEntry) → is_at hour d ≡ at → length ks ≡ length ns
      → length (cond (at && has) (b ∷ ks) ks) ≡ length (cond (not at || has) (cond at (d ∷ ns) ns) ns)
  count_one true true b d ks ns e h = ap suc h
  count_one true false b d ks ns e h = h
  count_one false true b d ks ns e h = h
  count_one false false b d ks ns e h = h

  pulled : (t : Bool) (b : BidEntry) (ks : List BidEntry)
      → filter (is_at hour) (map (clear_bid hour prices) (cond t (b ∷ ks) ks)) ≡ cond t
      (cond (is_at hour (clear_bid hour prices b)) (clear_bid hour prices b ∷ filter (is_at hour)
      (map (clear_bid hour prices) ks)) (filter (is_at hour) (map (clear_bid hour prices) ks)))
      (filter (is_at hour) (map (clear_bid hour prices) ks))
  pulled true b ks = refl
  pulled false b ks = refl

  count_all : (bs : List BidEntry) → length (filter (λ b. is_at hour b && is_some (award_by prices b)) bs) ≡ length
      (filter (is_at hour) (clear_bids hour prices bs))
  count_all [] = refl
  count_all (b ∷ bs) =
      let s = same_hour (is_at hour b) b (awarded_stage (award_by prices b) b.stage) in
      rw (pulled (stays_after hour prices b) b (filter (stays_after hour prices) bs), s)
      (count_one (is_at hour b) (is_some (award_by prices b)) b (clear_bid hour prices b) _ _ s (count_all bs))

pub clear_runs : EveryRun ClearLaw
clear_runs m day cs =
    let l = ledger_at m day cs in
    record {
      bids = λ hour prices e. rw (went m l (clear_hour hour prices) e) (record {
        awarded = given_all hour prices l.bids.entries;
        ended = ended_all hour prices (pos 1) l.bids.entries l.bids.next (numbered_runs m day cs).bids;
      });
      count = λ hour prices e.
          let h : answer_to m l (clear_hour hour prices) ≡ result_of l (clear_hour hour prices) =
          ap (λ (o : Option Fault). if_some o (result_of l (clear_hour hour prices)) refused) e in
          h ∙ (ap (λ (n : ℕ). counted (pos n)) (count_all hour prices l.bids.entries)
          ∙ ap (λ (k : Ledger). counted (count_of (filter (is_at hour) k.bids.entries)))
          (sym (went m l (clear_hour hour prices) e)));
    }
