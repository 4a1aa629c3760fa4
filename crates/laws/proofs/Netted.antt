-- Positions are not netted: what each side adds is at least zero, and both are in the sum.
use Rattle.std.proofs.Common.{◌≡◌, Bool, true, false, cond, ◌&&◌, List, [], ◌∷◌, ℤ, pos, ◌+ℤ◌, ◌≤ℤ◌, refl, ◌∙◌, arith}
use Rattle.std.specs.List.{AllByRecursion}
use Rattle.std.proofs.ByRecursion.{all_kept_by}
use Rattle.std.proofs.lemmas.Int.{ints}
use Rattle.market.specs.declared.words.Side.{Side}
use Rattle.market.specs.declared.words.Side.TheVariants.{Supply, Demand}
use Rattle.rules.specs.Credit.{highest_point}
use Rattle.rules.specs.Ledger.{BidEntry}
use Rattle.rules.specs.Position.{stands_at}
use Rattle.rules.specs.Questions.{same_side}
use Rattle.rules.specs.Runs.{ledger_at}
use Rattle.rules.specs.Words.{sum_of}
use Rattle.laws.specs.Every.{EveryRun}
use Rattle.laws.specs.Positions.{NotNetted}
use Rattle.laws.proofs.Limits.{tops_low}
use Rattle.laws.proofs.Sums.{sum_if, sum_kept}

abbrev top : BidEntry → ℤ
top b = highest_point b.curve

-- a bid counts on its own side alone
one_side : (s : Side) (t : Bool) (v : ℤ) → cond t v (pos 0) ≡ cond (same_side s Supply && t) v (pos 0) +ℤ cond
    (same_side s Demand && t) v (pos 0)
one_side Supply true v = omega (arith, ints)
one_side Supply false v = refl
one_side Demand true v = omega (arith, ints)
one_side Demand false v = refl

both_sides_add : (p : BidEntry → Bool) (bs : List BidEntry)
    → sum_if p top bs ≡ sum_if (λ b. same_side b.side Supply && p b) top bs +ℤ sum_if
    (λ b. same_side b.side Demand && p b) top bs
both_sides_add p [] = refl
both_sides_add p (b ∷ bs) =
    let e = both_sides_add p bs in
    let h = one_side b.side (p b) (top b) in
    omega (arith, ints)

sum_low : (bs : List BidEntry) → AllByRecursion (λ b. pos 0 ≤ℤ top b) bs → pos 0 ≤ℤ sum_of top bs
sum_low [] a = omega (arith, ints)
sum_low (b ∷ bs) a = let e = sum_low bs a.1 in let h = a.0 in omega (arith, ints)

pub netted_runs : EveryRun NotNetted
netted_runs m day cs =
    let l = ledger_at m day cs in
    record {
      both_added = λ entity location hour.
          let p = stands_at l entity location hour in
          let w = sum_kept p top l.bids.entries in
          let s = sum_kept (λ b. same_side b.side Supply && p b) top l.bids.entries in
          let d = sum_kept (λ b. same_side b.side Demand && p b) top l.bids.entries in
          let e = both_sides_add p l.bids.entries in
          w ∙ (e ∙ omega (arith, ints));
      none_below = λ side entity location hour.
          sum_low _ (all_kept_by _ (λ b. pos 0 ≤ℤ top b) l.bids.entries (tops_low m day cs));
    }
