-- What a list that passed its check holds, and where a location's numbers stand in it. Assumes nothing.
use Rattle.std.proofs.Common.{◌≡◌, ℕ, ◌+◌, ◌-◌, ◌*◌, ◌<◌, ◌≤◌, true, eqb, List, length, take, drop, ℤ, pos, negsuc, nat_abs, Some, None, Ok, Err, Option, sym, ap, ◌∙◌, subst, ⊎_elim, add-mul, arith}
use Rattle.std.specs.Prelude.{ok_or}
use Rattle.std.proofs.lemmas.Nat.{mul-le}
use Rattle.std.proofs.lemmas.List.{length-take, length-drop, drop-drop, take_all}
use Rattle.std.proofs.lemmas.Int.{ints}
use Rattle.std.proofs.lemmas.Bool.{cases_lt, cond-true, cond-false, eq-eqb, ne_eqb}
use Rattle.lists.specs.declared.layout.Sizes.{Sizes}
use Rattle.lists.specs.Lists.{Passed, cells}
use Rattle.lists.proofs.Blocks.{first_fits, second_fits}
use Rattle.market.specs.declared.fault.Cause.TheVariants.{Outside, Missing}
use Rattle.market.specs.declared.words.Side.{Side}
use Rattle.lists.specs.Counted.{is_among}
use Rattle.reference.specs.Prices.{fault}
use Rattle.reference.specs.Histories.{history_layout, of_location, history_price}
use Rattle.reference.specs.HistoryBounds.{part_bounded}
use Rattle.reference.specs.Spreads.{HasHours, Referenced, reference_price}
use Rattle.reference.specs.Years.{EachPrice, EachAverage}

module _ (xs : List ℤ) (s : Sizes) (p : Passed history_layout xs s) where
  pub few_rows : s.rows ≤ 64
  few_rows = omega (arith, ints, p.rows, p.each 0 (omega (arith, p.two)))

  pub few_columns : s.columns ≤ 2209
  few_columns = omega (arith, ints, p.columns, p.each 1 (omega (arith, p.two)))

  pub all_cells : s.rows * s.columns ≡ cells xs
  all_cells =
      let r = ap nat_abs p.rows in
      let c = ap nat_abs p.columns in
      cc

  whole : length xs ≡ (2 + s.rows * s.columns) + s.rows * s.columns
  whole = omega (arith, p.whole, all_cells)

  -- the two parts behind the sizes, as they are cut
  module _ (n : ℕ) (n_is : n ≡ s.rows * s.columns) where
    pub averages_part : drop n (drop 2 xs) ≡ take (cells xs) (drop (2 + cells xs) xs)
    averages_part =
        let rest : length (drop (2 + cells xs) xs) ≤ cells xs = omega (arith, length-drop (2 + cells xs) xs, whole, all_cells) in
        ap (λ m. drop m (drop 2 xs)) (n_is ∙ all_cells) ∙ drop-drop (cells xs) 2 xs ∙ sym (take_all (cells xs) (drop (2 + cells xs) xs) rest)

    pub prices_whole : length (take n (drop 2 xs)) ≡ s.rows * s.columns
    prices_whole = omega (arith, whole, n_is, length-take n (drop 2 xs), length-drop 2 xs)

    pub averages_whole : length (drop n (drop 2 xs)) ≡ s.rows * s.columns
    averages_whole = omega (arith, whole, n_is, length-drop n (drop 2 xs), length-drop 2 xs)

  pub prices_bounded : EachPrice (take (cells xs) (drop 2 xs))
  prices_bounded =
      part_bounded (negsuc 999999) (pos 1000000) (omega (arith, ints), omega (arith, ints)) xs 2 (cells xs)
      (λ k h. first_fits history_layout xs (2 + k) (omega arith) (omega arith) (p.each (2 + k) (omega (arith, whole, all_cells))))

  pub averages_bounded : EachAverage (take (cells xs) (drop (2 + cells xs) xs))
  averages_bounded =
      part_bounded (negsuc 11999999) (pos 12000000) (omega (arith, ints), omega (arith, ints)) xs (2 + cells xs) (cells xs)
      (λ k h. second_fits history_layout xs ((2 + cells xs) + k) (omega arith) (p.each ((2 + cells xs) + k) (omega (arith, whole, all_cells))))

-- a list passes with one pair of sizes
pub same_sizes : (xs : List ℤ) (s t : Sizes) → Passed history_layout xs s → Passed history_layout xs t → (s.rows ≡ t.rows) × (s.columns ≡ t.columns)
same_sizes xs s t p q =
    let a = p.rows ∙ sym q.rows in
    let b = p.columns ∙ sym q.columns in
    (cc, cc)

-- the numbers of a location end within those of all
pub row_within : (i m n : ℕ) → i < m → i * n + n ≤ m * n
row_within i m n h = omega (arith, mul-le (i + 1) n m n (omega arith) (omega arith), add-mul i 1 n)

-- where there is an hour, a location has its hours
pub has_hours : (i m n : ℕ) (ts ds : List ℤ) → i < m → 0 < n → n ≤ 2209 → length ts ≡ m * n → length ds ≡ m * n → HasHours (take n (drop (i * n) ts)) (take n (drop (i * n) ds))
has_hours i m n ts ds h some few a b =
    let w = row_within i m n h in
    let t = length-take n (drop (i * n) ts) in
    let u = length-drop (i * n) ts in
    let d = length-take n (drop (i * n) ds) in
    let e = length-drop (i * n) ds in
    (omega arith, omega arith, omega arith)

-- without a price there is no hour
pub no_hours : (i m n : ℕ) (ts ds row_t row_d : List ℤ) → i < m → n ≤ 2209 → length ts ≡ m * n → length ds ≡ m * n
    → row_t ≡ take n (drop (i * n) ts) → row_d ≡ take n (drop (i * n) ds) → (HasHours row_t row_d → ⊥) → n ≡ 0
no_hours i m n ts ds row_t row_d h few a b p q none =
    ⊎_elim
    (λ some. absurd (none (subst (λ (x : List ℤ). HasHours x row_d) (sym p) (subst (λ (x : List ℤ). HasHours (take n (drop (i * n) ts)) x) (sym q) (has_hours i m n ts ds h some few a b)))))
    (λ zero. omega arith) (cases_lt 0 n)

module _ (m n i : ℕ) (ts ds : List ℤ) (l : ℤ) (side : Side) (among : is_among m l ≡ true) (at : i ≡ nat_abs l - 1) (within : i < m) (few : n ≤ 2209) (a : length ts ≡ m * n) (b : length ds ≡ m * n) where
  -- what a history means at a location of its own: the price of its hours, where it has any
  pub history_quoted : (row_t row_d : List ℤ) → row_t ≡ take n (drop (i * n) ts) → row_d ≡ take n (drop (i * n) ds) → (r : Option ℤ) → Referenced side row_t row_d r
      → ok_or r (fault Missing l) ≡ history_price m n ts ds l side
  history_quoted row_t row_d p q (Some z) (hours, priced, is) =
      let some : (n ≡ 0 → ⊥) = λ none. omega (arith, hours.0, ap length p, length-take n (drop (i * n) ts)) in
      let t : row_t ≡ of_location n l ts = p ∙ ap (λ k. take n (drop (k * n) ts)) at in
      let d : row_d ≡ of_location n l ds = q ∙ ap (λ k. take n (drop (k * n) ds)) at in
      ap Ok (is ∙ ap (λ x. reference_price side x row_d) t ∙ ap (reference_price side (of_location n l ts)) d)
      ∙ sym (cond-true (is_among m l) _ (Err (fault Outside l)) among ∙ cond-false (eqb n 0) (Err (fault Missing l)) _ (ne_eqb n 0 some))
  history_quoted row_t row_d p q None none =
      let zero = no_hours i m n ts ds row_t row_d within few a b p q none in
      sym (cond-true (is_among m l) _ (Err (fault Outside l)) among ∙ cond-true (eqb n 0) (Err (fault Missing l)) _ (eq-eqb n 0 zero))
