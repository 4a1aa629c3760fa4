-- The award that a fold over a curve ends with is the end of the last segment that passes. Assumes nothing.
use Rattle.std.proofs.Common.{◌≡◌, Bool, true, false, cond, List, [], ◌∷◌, ℤ, Some, None, filter, Option, fold, refl, ◌∙◌}
use Rattle.market.specs.declared.segment.Segment.{Segment}
use Rattle.rules.specs.Awards.{last_end}

-- the award once one more segment was looked at
abbrev pub after : (Segment → Bool) → Option ℤ → Segment → Option ℤ
after p found s = cond (p s) (Some s.end) found

-- the end of the last segment, or the award before it where there is none
abbrev last_or_found : Option ℤ → List Segment → Option ℤ
last_or_found found [] = found
last_or_found found (s ∷ rest) = last_or_found (Some s.end) rest

last_of_some : (s : Segment) (rest : List Segment) → last_or_found (Some s.end) rest ≡ last_end (s ∷ rest)
last_of_some s [] = refl
last_of_some s (t ∷ rest) = last_of_some t rest

last_of_all : (xs : List Segment) → last_or_found None xs ≡ last_end xs
last_of_all [] = refl
last_of_all (s ∷ rest) = last_of_some s rest

one_kept : (t : Bool) (s : Segment) (ys : List Segment) (found : Option ℤ)
    → last_or_found (cond t (Some s.end) found) ys ≡ last_or_found found (cond t (s ∷ ys) ys)
one_kept true s ys found = refl
one_kept false s ys found = refl

folded : (p : Segment → Bool) (found : Option ℤ) (xs : List Segment) → fold (after p) found xs ≡ last_or_found found (filter p xs)
folded p found [] = refl
folded p found (s ∷ rest) = folded p (after p found s) rest ∙ one_kept (p s) s (filter p rest) found

pub award_folded : (p : Segment → Bool) (xs : List Segment) → fold (after p) None xs ≡ last_end (filter p xs)
award_folded p xs = folded p None xs ∙ last_of_all (filter p xs)
