-- How the list that a feed lies over is read: a list that passed is as long as its sizes say and holds prices behind its marks. Assumes nothing.
use Rattle.std.proofs.Common.{◌≡◌, ℕ, ◌+◌, ◌-◌, ◌*◌, ◌<◌, ◌≤◌, Bool, true, false, not, List, length, ℤ, pos, nat_abs, Some, Ok, Err, Result, sym, ap, ◌∙◌, subst, ◌⊎◌, inl, inr, ⊎_elim, add-mul, mul-one, arith}
use lib.Signed.{le_z}
use Rattle.std.proofs.lemmas.Nat.{mul-le}
use Rattle.std.proofs.lemmas.Int.{ints}
use Rattle.std.proofs.lemmas.Bool.{and_parts, and_from, and_left, and_right, cases_Bool, cond-true, cond-false}
use Rattle.market.specs.declared.fault.Cause.TheVariants.{Outside}
use Rattle.lists.specs.declared.layout.Sizes.{Sizes}
use Rattle.lists.specs.Counted.{is_among}
use Rattle.std.specs.Result.{result_unwrap_or}
use Rattle.market.specs.declared.fault.Fault.{Fault}
use Rattle.lists.specs.Lists.{num, cells, Passed, Refused, Checked}
use Rattle.lists.proofs.Blocks.{second_fits}
use Rattle.lists.specs.Cells.{outside, cell, CellAmong}
use Rattle.realtime.specs.Feeds.{feed_layout, is_one, published, average, faulty, feed_meaning, Stands, Priced}
use Rattle.realtime.specs.Laws.{Whole, Opened, Among, ReadsAs, mark}

-- the prices of a cell end within the list
pub cell_ends : (per : ℕ) (xs : List ℤ) (all c : ℕ) → Stands per xs all → c < all → 2 + all + c * per + per ≤ length xs
cell_ends per xs all c stands h =
    let last = stands (all + all * per - 1) (omega arith) in
    omega (arith, mul-le (c + 1) per all per (omega arith) (omega arith), add-mul c 1 per)

-- what a feed answers of a published cell
pub published_meaning : (per : ℕ) (xs : List ℤ) (m n : ℕ) (l h : ℤ) (c : ℕ) (t : ℤ) → CellAmong m n l h (Some c) → published xs c ≡ true → t ≡ average per xs (m * n) c → Ok t ≡ feed_meaning per xs m n l h
published_meaning per xs m n l h c t (inside, e, k) p t-is =
    ap Ok (t-is ∙ ap (average per xs (m * n)) e)
    ∙ sym (cond-false (outside m n l h) _ _ inside ∙ cond-true (published xs (cell n l h)) _ _ (subst (λ k. published xs k ≡ true) e p))

-- no list both passes and is refused
pub refused_not_whole : (per : ℕ) (xs : List ℤ) (p : ℕ) → Refused (feed_layout per) xs p → Whole per xs → ⊥
refused_not_whole per xs p (inl (inl (short, e))) (s, w) = omega (arith, w.two)
refused_not_whole per xs p (inl (inr (inl (two, bad, e)))) (s, w) = bad (w.each 0 (omega arith))
refused_not_whole per xs p (inl (inr (inr (two, rows, bad, e)))) (s, w) = bad (w.each 1 (omega arith))
refused_not_whole per xs p (inr (inl (sized, bad, e))) (s, w) = bad w.whole
refused_not_whole per xs p (inr (inr (sized, whole, inside, bad, good))) (s, w) = bad (w.each p inside)

module _ (per : ℕ) (xs : List ℤ) (s : Sizes) (w : Passed (feed_layout per) xs s) where
  all_cells : cells xs ≡ s.rows * s.columns
  all_cells =
      let p = ap nat_abs w.rows in
      let q = ap nat_abs w.columns in
      cc

  pub passed_stands : Stands per xs (s.rows * s.columns)
  passed_stands = subst (Stands per xs) all_cells (λ k h. omega (arith, w.whole, mul-one (cells xs)))

  pub passed_priced : Priced per xs (s.rows * s.columns)
  passed_priced = subst (Priced per xs) all_cells (λ k h.
      second_fits (feed_layout per) xs (2 + cells xs + k) (omega (arith, mul-one (cells xs))) (w.each (2 + cells xs + k) (omega (arith, w.whole, mul-one (cells xs)))))

  pub passed_opened : Opened per xs s.rows s.columns
  passed_opened = record {
    of_whole = λ _. (w.rows, w.columns);
    of_other = λ never. absurd (never (s, w));
  }

among_test : (size : ℕ) (n : ℤ) → is_among size n ≡ true → Among (pos size) n
among_test size n e =
    let p = and_parts (le_z (pos 1) n) (le_z n (pos size)) e in
    (grind (arith, ints), grind (arith, ints))

test_among : (size : ℕ) (n : ℤ) → Among (pos size) n → is_among size n ≡ true
test_among size n (a, b) = and_from (le_z (pos 1) n) (le_z n (pos size)) (grind (arith, ints)) (grind (arith, ints))

not_among : (size : ℕ) (n : ℤ) → (Among (pos size) n → ⊥) → is_among size n ≡ false
not_among size n never = ⊎_elim (λ e. absurd (never (among_test size n e))) (λ e. e) (cases_Bool (is_among size n))

-- with no sizes all is outside
none_outside : (per : ℕ) (xs : List ℤ) (l h : ℤ) → feed_meaning per xs 0 0 l h ≡ faulty Outside l
none_outside per xs l h =
    cond-true (outside 0 0 l h) _ _ (ap not (and_left (is_among 0 l) (is_among 0 h) (not_among 0 l (λ a. omega (arith, ints, a.0, a.1)))))

module _ (per : ℕ) (xs : List ℤ) (never : Whole per xs → ⊥) where
  pub refused_reads : ReadsAs per xs (feed_meaning per xs 0 0)
  refused_reads = record {
    location_outside = λ l h w _. none_outside per xs l h;
    hour_outside = λ l h w _. none_outside per xs l h;
    unpublished = λ l h w _ _ _. absurd (never w);
    published = λ l h w _ _ _. absurd (never w);
    not_whole = λ l h _. none_outside per xs l h;
  }

-- the sizes as numbers without a sign
module _ (per : ℕ) (xs : List ℤ) (m n : ℕ) (r : num xs 0 ≡ pos m) (c : num xs 1 ≡ pos n) (whole : Whole per xs) where
  inside : (l h : ℤ) → Among (num xs 0) l → Among (num xs 1) h → outside m n l h ≡ false
  inside l h a b =
      ap not (and_from (is_among m l) (is_among n h) (test_among m l (subst (λ z. Among z l) r a)) (test_among n h (subst (λ z. Among z h) c b)))

  marked : (l h : ℤ) (b : Bool) → is_one (mark xs l h) ≡ b → published xs (cell n l h) ≡ b
  marked l h b e = subst (λ k. published xs (cell k l h) ≡ b) (ap nat_abs c) e

  pub whole_reads : ReadsAs per xs (feed_meaning per xs m n)
  whole_reads = record {
    location_outside = λ l h _ never.
        cond-true (outside m n l h) _ _ (ap not (and_left (is_among m l) (is_among n h) (not_among m l (λ a. never (subst (λ z. Among z l) (sym r) a)))));
    hour_outside = λ l h _ never.
        cond-true (outside m n l h) _ _ (ap not (and_right (is_among m l) (is_among n h) (not_among n h (λ a. never (subst (λ z. Among z h) (sym c) a)))));
    unpublished = λ l h _ a b e.
        cond-false (outside m n l h) _ _ (inside l h a b) ∙ cond-false (published xs (cell n l h)) _ _ (marked l h false (ap is_one e));
    published = λ l h _ a b e.
        cond-false (outside m n l h) _ _ (inside l h a b) ∙ cond-true (published xs (cell n l h)) _ _ (marked l h true (ap is_one e))
        ∙ sym (ap (λ k. Ok (average per xs (k * nat_abs (num xs 1)) (cell (nat_abs (num xs 1)) l h))) (ap nat_abs r) ∙ ap (λ k. Ok (average per xs (m * k) (cell k l h))) (ap nat_abs c));
    not_whole = λ l h never. absurd (never whole);
  }

-- sizes are those of a list that passed, or none of both
abbrev pub Either : ℕ → List ℤ → Sizes → Type 0
Either per xs s = Passed (feed_layout per) xs s ⊎ ((Whole per xs → ⊥) × (s.rows ≡ 0) × (s.columns ≡ 0))

module _ (per : ℕ) (xs : List ℤ) (s : Sizes) where
  pub either : (none : Sizes) → (none.rows ≡ 0) × (none.columns ≡ 0) → (r : Result Sizes Fault) → Checked (feed_layout per) xs r → s ≡ result_unwrap_or r none → Either per xs s
  either none zeros (Ok t) passed same = inl (subst (Passed (feed_layout per) xs) (sym same) passed)
  either none zeros (Err f) (p, refused, said) same =
      inr (refused_not_whole per xs p refused, subst (λ t. t.rows ≡ 0) (sym same) zeros.0, subst (λ t. t.columns ≡ 0) (sym same) zeros.1)

  pub either_stands : Either per xs s → Stands per xs (s.rows * s.columns)
  either_stands (inl passed) = passed_stands per xs s passed
  either_stands (inr (never, rows, columns)) = λ k h. absurd (omega (arith, rw rows at h))

  pub either_priced : Either per xs s → Priced per xs (s.rows * s.columns)
  either_priced (inl passed) = passed_priced per xs s passed
  either_priced (inr (never, rows, columns)) = λ k h. absurd (omega (arith, rw rows at h))

  pub either_opened : Either per xs s → Opened per xs s.rows s.columns
  either_opened (inl passed) = passed_opened per xs s passed
  either_opened (inr (never, rows, columns)) = record { of_whole = λ w. absurd (never w); of_other = λ _. (rows, columns) }

  pub either_reads : Either per xs s → ReadsAs per xs (feed_meaning per xs s.rows s.columns)
  either_reads (inl passed) = whole_reads per xs s.rows s.columns (sym passed.rows) (sym passed.columns) (s, passed)
  either_reads (inr (never, rows, columns)) =
      subst (λ m. ReadsAs per xs (feed_meaning per xs m s.columns)) (sym rows) (subst (λ n. ReadsAs per xs (feed_meaning per xs 0 n)) (sym columns) (refused_reads per xs never))
