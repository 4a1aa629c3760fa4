-- Which bounds an index has: those of a size, of the first block or of the second. Assumes nothing.
use Rattle.std.proofs.Common.{◌≡◌, ℕ, zero, suc, ◌+◌, ◌*◌, ◌<◌, ◌≤◌, ◌-◌, Bool, true, false, ◌&&◌, get_or, List, length, take, drop, ℤ, pos, nat_abs, Some, None, sym, ap, ◌∙◌, subst, inr, ⊎_elim, arith}
use Rattle.std.specs.Prelude.{position, int_le, nat_lt}
use Rattle.std.specs.List.{position_or_len}
use Rattle.std.proofs.lemmas.Int.{ints}
use Rattle.std.proofs.lemmas.List.{get_or-take, get_or-drop, length-take, length-drop}
use Rattle.std.proofs.lemmas.List.Quantifiers.{position-Some}
use Rattle.std.proofs.lemmas.Bool.{le-ltb, lt-ltb, ne_eqb, cases_lt, cases_Bool, cond-true, ltb-false, not-true, not-false, and_parts, and_from, true≢false}
use Rattle.std.proofs.lemmas.List.Sums.{fails_before_first}
use Rattle.std.proofs.lemmas.Option.{none-some}
use Rattle.lists.specs.declared.layout.Layout.{Layout}
use Rattle.lists.specs.declared.layout.Sizes.{Sizes}
use Rattle.lists.specs.Lists.{num, Bounded, out_of, cells, second_from, whole_length, Fits, Sized, Passed, Refused}

-- a number out of bounds, and one within
out_is_bad : (low high z : ℤ) → out_of low high z ≡ true → Bounded low high z → ⊥
out_is_bad low high z e b = true≢false (sym (and_from (int_le low z) (int_le z high) (grind (arith, ints)) (grind (arith, ints))) ∙ not-true (int_le low z && int_le z high) e)

in_is_good : (low high z : ℤ) → out_of low high z ≡ false → Bounded low high z
in_is_good low high z e =
    let p = and_parts (int_le low z) (int_le z high) (not-false (int_le low z && int_le z high) e) in
    (grind (arith, ints), grind (arith, ints))

none_passes : {X : Type 0} (p : X → Bool) (xs : List X) → position p xs ≡ None → (k : ℕ) (d : X) → k < length xs → p (get_or xs k d) ≡ false
none_passes p xs e k d h =
    ⊎_elim (λ t. absurd (none-some _ (sym e ∙ cond-true (nat_lt (position_or_len p xs) (length xs)) (Some (position_or_len p xs)) None t)))
    (λ f. fails_before_first p xs k d (omega (arith, ltb-false (position_or_len p xs) (length xs) f)))
    (cases_Bool (nat_lt (position_or_len p xs) (length xs)))

-- where the second block begins and the list ends, from the sizes as they were read
module _ (y : Layout) (xs : List ℤ) (s : Sizes) (first second : ℕ) (r : pos s.rows ≡ num xs 0) (c : pos s.columns ≡ num xs 1)
    (a : first ≡ (s.rows * s.columns) * y.first.per_cell) (b : second ≡ (s.rows * s.columns) * y.second.per_cell) where
  all_cells : s.rows * s.columns ≡ cells xs
  all_cells =
      let p = ap nat_abs r in
      let q = ap nat_abs c in
      cc

  pub second_begins : 2 + first ≡ second_from y xs
  second_begins = ap (λ m. 2 + m) (a ∙ ap (λ m. m * y.first.per_cell) all_cells)

  pub list_ends : (2 + first) + second ≡ whole_length y xs
  list_ends =
      let e = second_begins in
      let d = b ∙ ap (λ m. m * y.second.per_cell) all_cells in
      omega arith

module _ (y : Layout) (xs : List ℤ) (k : ℕ) where
  fits_first : 2 ≤ k → k < second_from y xs → Bounded y.first.low y.first.high (num xs k) → Fits y xs k
  fits_first h l b = simp (le-ltb k 2 h, lt-ltb k (second_from y xs) l, ne_eqb k 0 (λ e. omega arith), ne_eqb k 1 (λ e. omega arith)) b

  pub first_fits : 2 ≤ k → k < second_from y xs → Fits y xs k → Bounded y.first.low y.first.high (num xs k)
  first_fits h l w = simp (le-ltb k 2 h, lt-ltb k (second_from y xs) l, ne_eqb k 0 (λ e. omega arith), ne_eqb k 1 (λ e. omega arith)) at w

  fits_second : second_from y xs ≤ k → Bounded y.second.low y.second.high (num xs k) → Fits y xs k
  fits_second h b = simp (le-ltb k 2 (omega arith), le-ltb k (second_from y xs) h, ne_eqb k 0 (λ e. omega arith), ne_eqb k 1 (λ e. omega arith)) b

  pub second_fits : second_from y xs ≤ k → Fits y xs k → Bounded y.second.low y.second.high (num xs k)
  second_fits h w = simp (le-ltb k 2 (omega arith), le-ltb k (second_from y xs) h, ne_eqb k 0 (λ e. omega arith), ne_eqb k 1 (λ e. omega arith)) at w

module _ (y : Layout) (xs : List ℤ) (sized : Sized y xs) (n : ℕ) (begins : 2 + n ≡ second_from y xs) (whole : length xs ≡ whole_length y xs) where
  -- what fits from index 2 on fits from the sizes on
  fits_all : (to : ℕ) → ((k : ℕ) → 2 ≤ k → k < to → Fits y xs k) → (k : ℕ) → k < to → Fits y xs k
  fits_all to rest zero h = sized.rows_fit
  fits_all to rest (suc zero) h = sized.columns_fit
  fits_all to rest (suc (suc k)) h = rest (suc (suc k)) (omega arith) h

  abbrev first : List ℤ
  first = take n (drop 2 xs)

  abbrev second : List ℤ
  second = drop n (drop 2 xs)

  first_length : length first ≡ n
  first_length = omega (arith, length-take n (drop 2 xs), length-drop 2 xs)

  second_length : n + length second + 2 ≡ length xs
  second_length = omega (arith, length-drop n (drop 2 xs), length-drop 2 xs)

  first_at : (k : ℕ) → k < n → num first k ≡ num xs (2 + k)
  first_at k h = get_or-take n (drop 2 xs) k (pos 0) h ∙ get_or-drop 2 xs k (pos 0)

  second_at : (k : ℕ) → num second k ≡ num xs (2 + n + k)
  second_at k = get_or-drop n (drop 2 xs) k (pos 0) ∙ get_or-drop 2 xs (n + k) (pos 0) ∙ ap (num xs) (omega arith)

  first_good : (k : ℕ) → 2 ≤ k → k < 2 + n → out_of y.first.low y.first.high (num first (k - 2)) ≡ false → Fits y xs k
  first_good k h l e =
      fits_first y xs k h (omega arith) (in_is_good _ _ _ (subst (λ z. out_of y.first.low y.first.high z ≡ false) (first_at (k - 2) (omega arith) ∙ ap (num xs) (omega arith)) e))

  second_good : (k : ℕ) → 2 + n ≤ k → out_of y.second.low y.second.high (num second (k - (2 + n))) ≡ false → Fits y xs k
  second_good k h e =
      fits_second y xs k (omega arith) (in_is_good _ _ _ (subst (λ z. out_of y.second.low y.second.high z ≡ false) (second_at (k - (2 + n)) ∙ ap (num xs) (omega arith)) e))

  pub refused_in_first : (k : ℕ) → position (out_of y.first.low y.first.high) first ≡ Some k → Refused y xs (2 + k)
  refused_in_first k e =
      let (l, bad, good) = position-Some (out_of y.first.low y.first.high) first k (pos 0) e in
      inr (inr (
        sized,
        whole,
        omega (arith, first_length, second_length),
        (λ w. out_is_bad _ _ _ bad (subst (Bounded y.first.low y.first.high) (sym (first_at k (omega (arith, first_length)))) (first_fits y xs (2 + k) (omega arith) (omega (arith, first_length)) w))),
        fits_all (2 + k) (λ j h m. first_good j h (omega (arith, first_length)) (good (j - 2) (omega arith))),
      ))

  module _ (none : position (out_of y.first.low y.first.high) first ≡ None) where
    -- up to an index in the second block
    both_good : (to : ℕ) → ((j : ℕ) → 2 + n ≤ j → j < to → out_of y.second.low y.second.high (num second (j - (2 + n))) ≡ false) → (k : ℕ) → 2 ≤ k → k < to → Fits y xs k
    both_good to good k h l =
        ⊎_elim (λ near. first_good k h near (none_passes (out_of y.first.low y.first.high) first none (k - 2) (pos 0) (omega (arith, first_length))))
        (λ far. second_good k far (good k far l)) (cases_lt k (2 + n))

    pub refused_in_second : (k : ℕ) → position (out_of y.second.low y.second.high) second ≡ Some k → Refused y xs (2 + n + k)
    refused_in_second k e =
        let (l, bad, good) = position-Some (out_of y.second.low y.second.high) second k (pos 0) e in
        inr (inr (
          sized,
          whole,
          omega (arith, second_length),
          (λ w. out_is_bad _ _ _ bad (subst (Bounded y.second.low y.second.high) (sym (second_at k)) (second_fits y xs (2 + n + k) (omega arith) w))),
          fits_all (2 + n + k) (both_good (2 + n + k) (λ j h m. good (j - (2 + n)) (omega arith))),
        ))

    pub passed_both : (s : Sizes) → pos s.rows ≡ num xs 0 → pos s.columns ≡ num xs 1 → position (out_of y.second.low y.second.high) second ≡ None → Passed y xs s
    passed_both s r c e = record {
      two = sized.two;
      rows = r;
      columns = c;
      whole = whole;
      each = fits_all (length xs) (both_good (length xs) (λ j h m. none_passes (out_of y.second.low y.second.high) second e (j - (2 + n)) (pos 0) (omega (arith, second_length))));
    }
