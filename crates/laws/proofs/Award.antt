-- An award is the end of the last segment that is met.
use Rattle.std.proofs.Common.{◌≡◌, Bool, true, false, cond, List, [], ◌∷◌, ℤ, Some, None, filter, refl, ap}
use Rattle.std.specs.List.{AllByRecursion}
use Rattle.market.specs.declared.segment.Segment.{Segment}
use Rattle.rules.specs.Awards.{is_met, last_end}
use Rattle.laws.specs.Awarding.{LastOf, AwardLaw}

some_end : (s : Segment) (ks : List Segment) → last_end (s ∷ ks) ≡ None → ⊥
some_end s [] e = cc
some_end s (k ∷ ks) e = some_end k ks e

module _ (p : Segment → Bool) where
  none_one : (t : Bool) (s : Segment) (xs : List Segment) → p s ≡ t
      → last_end (cond t (s ∷ filter p xs) (filter p xs)) ≡ None
      → (last_end (filter p xs) ≡ None → AllByRecursion (λ s. p s ≡ false) xs) → AllByRecursion (λ s. p s ≡ false) (s ∷ xs)
  none_one true s xs t e ih = absurd (some_end s (filter p xs) e)
  none_one false s xs t e ih = (t, ih e)

  none_met : (xs : List Segment) → last_end (filter p xs) ≡ None → AllByRecursion (λ s. p s ≡ false) xs
  none_met [] e = tt
  none_met (s ∷ xs) e = none_one (p s) s xs refl e (none_met xs)

  more : (s : Segment) (xs : List Segment) (q : ℤ) → LastOf p xs q → LastOf p (s ∷ xs) q
  more s xs q r = record {
    front = s ∷ r.front;
    last = r.last;
    back = r.back;
    whole =
        ap (λ (ys : List Segment). s ∷ ys) r.whole;
    met = r.met;
    none_later = r.none_later;
    end = r.end;
  }

  -- the last of those kept is this segment, or one of the rest
  last_met : (s : Segment) (ks xs : List Segment) (q : ℤ) → p s ≡ true → last_end (s ∷ ks) ≡ Some q
      → (last_end ks ≡ Some q → LastOf p xs q) → (last_end ks ≡ None → AllByRecursion (λ s. p s ≡ false) xs) → LastOf p (s ∷ xs) q
  last_met s [] xs q t e ih none = record {
    front = [];
    last = s;
    back = xs;
    whole = refl;
    met = t;
    none_later =
        none refl;
    end = let h : q ≡ s.end = cc in h;
  }
  last_met s (k ∷ ks) xs q t e ih none = more s xs q (ih e)

  last_one : (t : Bool) (s : Segment) (xs : List Segment) (q : ℤ) → p s ≡ t
      → last_end (cond t (s ∷ filter p xs) (filter p xs)) ≡ Some q
      → (last_end (filter p xs) ≡ Some q → LastOf p xs q) → LastOf p (s ∷ xs) q
  last_one true s xs q t e ih = last_met s (filter p xs) xs q t e ih (none_met xs)
  last_one false s xs q t e ih = more s xs q (ih e)

  pub last_kept : (xs : List Segment) (q : ℤ) → last_end (filter p xs) ≡ Some q → LastOf p xs q
  last_kept [] q e = cc
  last_kept (s ∷ xs) q e = last_one (p s) s xs q refl e (last_kept xs q)

pub award_law : AwardLaw
award_law = record {
  some = λ side day_ahead curve q e. last_kept (is_met side day_ahead) curve q e;
  none = λ side day_ahead curve e. none_met (is_met side day_ahead) curve e;
}
