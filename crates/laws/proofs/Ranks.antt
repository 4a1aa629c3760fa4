-- Each rank has one account: a list in a strict order has, for each number below its length, one element with that many before it.
use Rattle.std.proofs.Common.{◌≡◌, ℕ, zero, suc, ◌+◌, ◌<◌, ◌≤◌, Bool, true, false, cond, ◌⊎◌, List, [], ◌∷◌, ◌++◌, length, ℤ, pos, negsuc, ◌+ℤ◌, ◌<ℤ◌, Some, None, Ok, filter, Option, unwrap_or, sym, refl, ap, ◌∙◌, subst, inl, inr, ⊎_elim, arith, length-append}
use lib.Signed.{lt_z}
use Rattle.std.specs.List.{AllByRecursion}
use Rattle.std.proofs.ByRecursion.{All-push, All-weaker, kept_by_passes}
use Rattle.std.proofs.lemmas.Bool.{cases_order}
use Rattle.std.proofs.lemmas.Int.{ints, by_lt_z}
use Rattle.rules.specs.Credit.{available_credit}
use Rattle.rules.specs.Ledger.{Ledger}
use Rattle.rules.specs.Questions.{within_bounds, is_among}
use Rattle.rules.specs.Readings.{read_as, cash_of, goes_before, account_numbers, is_ranked, read_ranked}
use Rattle.rules.specs.Runs.{ledger_at}
use Rattle.rules.specs.Words.{eq_z, inside, count_of, first, up_to}
use Rattle.laws.specs.Every.{EveryRun}
use Rattle.laws.specs.Ranking.{RankedOnce}
use Rattle.laws.specs.Standing.{Unlike}
use Rattle.laws.proofs.Once.{unlike_entered}
use Rattle.laws.proofs.Runs.{clash, by_test, first_has, found_has, kept_shorter}
use Rattle.laws.proofs.Sums.{inside_out, inside_in, eq_z_apart, eq_z_same, eq_z_true}

abbrev In : ℤ → List ℤ → Type 0
In a [] = ⊥
In a (x ∷ xs) = (a ≡ x) ⊎ In a xs

abbrev many : (ℤ → Bool) → List ℤ → ℕ
many p xs = length (filter p xs)

counted_one : (t : Bool) (x : ℤ) (ks : List ℤ) → length (cond t (x ∷ ks) ks) ≡ cond t 1 0 + length ks
counted_one true x ks = omega arith
counted_one false x ks = omega arith

many_cons : (p : ℤ → Bool) (x : ℤ) (xs : List ℤ) → many p (x ∷ xs) ≡ cond (p x) 1 0 + many p xs
many_cons p x xs = counted_one (p x) x (filter p xs)

bit_less : (s t : Bool) → (s ≡ true → t ≡ true) → cond {A = ℕ} s 1 0 ≤ cond t 1 0
bit_less true true f = omega arith
bit_less true false f = absurd (clash false (f refl) refl)
bit_less false true f = omega arith
bit_less false false f = omega arith

-- what passes one test passes another
many_sub : (p q : ℤ → Bool) → ((o : ℤ) → p o ≡ true → q o ≡ true) → (xs : List ℤ) → many p xs ≤ many q xs
many_sub p q f [] = omega arith
many_sub p q f (x ∷ xs) =
    let r = many_sub p q f xs in
    let b = bit_less (p x) (q x) (f x) in
    let u = many_cons p x xs in
    let v = many_cons q x xs in
    omega arith

-- and one more passes that
many_less : (p q : ℤ → Bool) (a : ℤ) → ((o : ℤ) → p o ≡ true → q o ≡ true) → p a ≡ false → q a ≡ true → (xs : List ℤ)
    → In a xs → suc (many p xs) ≤ many q xs
many_less p q a f out into [] i = absurd i
many_less p q a f out into (x ∷ xs) i =
    let u = many_cons p x xs in
    let v = many_cons q x xs in
    ⊎_elim
    (λ e.
    let pn : p x ≡ false = subst (λ (z : ℤ). p z ≡ false) e out in
    let qy : q x ≡ true = subst (λ (z : ℤ). q z ≡ true) e into in
    let r = many_sub p q f xs in
    let pu : cond {A = ℕ} (p x) 1 0 ≡ 0 = rw pn refl in
    let qu : cond {A = ℕ} (q x) 1 0 ≡ 1 = rw qy refl in
    omega arith)
    (λ k.
    let r = many_less p q a f out into xs k in
    let b = bit_less (p x) (q x) (f x) in
    omega arith)
    i

-- a strict order of which one of two different elements goes first
record Strict (before : ℤ → ℤ → Bool) : Type 0 where
  not_itself : (a : ℤ) → before a a ≡ false
  onward : (a b c : ℤ) → before a b ≡ true → before b c ≡ true → before a c ≡ true
  either : (a b : ℤ) → (a ≡ b → ⊥) → before a b ≡ false → before b a ≡ true

module _ (before : ℤ → ℤ → Bool) (s : Strict before) where
  abbrev ahead : ℤ → List ℤ → ℕ
  ahead a xs = many (λ o. before o a) xs

  -- who goes before has fewer before it
  fewer : (a b : ℤ) (xs : List ℤ) → In a xs → before a b ≡ true → suc (ahead a xs) ≤ ahead b xs
  fewer a b xs i h = many_less (λ o. before o a) (λ o. before o b) a (λ o k. s.onward o a b k h) (s.not_itself a) h
      xs i

  ranked_only : (a b : ℤ) (xs : List ℤ) → In a xs → In b xs → ahead a xs ≡ ahead b xs → a ≡ b
  ranked_only a b xs i j e = by_test (eq_z a b) (λ t. eq_z_true a b t) (λ t. by_test (before a b)
      (λ h. absurd (let k = fewer a b xs i h in omega arith))
      (λ h. absurd (let k = fewer b a xs j (s.either a b (λ y. clash (eq_z a b) (eq_z_same a b y) t) h) in
      omega arith)))

  abbrev Ranked : List ℤ → ℕ → Type 0
  Ranked xs r = (a : ℤ) × In a xs × (ahead a xs ≡ r)

  ahead_cons : (a x : ℤ) (xs : List ℤ) → ahead a (x ∷ xs) ≡ cond (before x a) 1 0 + ahead a xs
  ahead_cons a x xs = many_cons (λ o. before o a) x xs

  apart : (a x : ℤ) (ys : List ℤ) → AllByRecursion (λ y. eq_z x y ≡ false) ys → In a ys → a ≡ x → ⊥
  apart a x [] k i e = i
  apart a x (y ∷ ys) k i e = ⊎_elim (λ z. clash (eq_z x y) (eq_z_same x y (sym e ∙ z)) k.0)
      (λ j. apart a x ys k.1 j e) i

  -- the first itself
  same : (x : ℤ) (xs : List ℤ) (r : ℕ) → r ≡ ahead x xs → Ranked (x ∷ xs) r
  same x xs r e =
      let i = ahead_cons x x xs in
      let z : cond {A = ℕ} (before x x) 1 0 ≡ 0 = rw (s.not_itself x) refl in
      let w : ahead x (x ∷ xs) ≡ r = omega arith in
      (x, inl refl, w)

  -- one of the rest that goes before it
  lower : (x : ℤ) (xs : List ℤ) (r : ℕ) → r < ahead x xs → Ranked xs r → Ranked (x ∷ xs) r
  lower x xs r k q =
      let w = q.2 in
      let i = ahead_cons q.0 x xs in
      let g : ahead q.0 (x ∷ xs) ≡ r = by_test (before x q.0)
      (λ t. absurd (let z = many_sub (λ o. before o x) (λ o. before o q.0) (λ o j. s.onward o x q.0 j t)
      xs in omega arith))
      (λ t. let z : cond {A = ℕ} (before x q.0) 1 0 ≡ 0 = rw t refl in omega arith) in
      (q.0, inr q.1, g)

  -- one that goes after it
  higher : (x : ℤ) (xs : List ℤ) (k : ℕ) → AllByRecursion (λ y. eq_z x y ≡ false) xs → ahead x xs ≤ k → Ranked xs k
      → Ranked (x ∷ xs) (suc k)
  higher x xs k u le q =
      let w = q.2 in
      let i = ahead_cons q.0 x xs in
      let g : ahead q.0 (x ∷ xs) ≡ suc k = by_test (before x q.0)
      (λ t. let z : cond {A = ℕ} (before x q.0) 1 0 ≡ 1 = rw t refl in omega arith)
      (λ t. absurd (let z =
      fewer q.0 x xs q.1 (s.either x q.0 (λ y. apart q.0 x xs u q.1 (sym y)) t) in
      omega arith)) in
      (q.0, inr q.1, g)

  ranked_one : (xs : List ℤ) → Unlike eq_z xs → (r : ℕ) → r < length xs → Ranked xs r
  ranked_one [] u r h = absurd (omega arith)
  ranked_one (x ∷ xs) u zero h = ⊎_elim (λ e. same x xs zero e) (λ o. ⊎_elim
      (λ lt. let k = kept_shorter (λ o. before o x) xs in
      lower x xs zero lt (ranked_one xs u.1 zero (omega arith)))
      (λ gt. absurd (omega arith)) o) (cases_order zero (ahead x xs))
  ranked_one (x ∷ xs) u (suc r) h = ⊎_elim (λ e. same x xs (suc r) e) (λ o. ⊎_elim
      (λ lt. let k = kept_shorter (λ o. before o x) xs in
      lower x xs (suc r) lt (ranked_one xs u.1 (suc r) (omega arith)))
      (λ gt. higher x xs r u.0 (omega arith) (ranked_one xs u.1 r (omega arith))) o)
      (cases_order (suc r) (ahead x xs))

-- more cash, then more credit, then the lower number
abbrev lex : (c v a d w b : ℤ) → Bool
lex c v a d w b = cond (eq_z c d) (cond (eq_z v w) (lt_z a b) (lt_z w v)) (lt_z d c)

lex_not_itself : (c v a : ℤ) → lex c v a c v a ≡ false
lex_not_itself c v a = grind (arith, ints)

lex_either : (c v a d w b : ℤ) → (a ≡ b → ⊥) → lex c v a d w b ≡ false → lex d w b c v a ≡ true
lex_either c v a d w b n e = grind (arith, ints)

abbrev Lex : (c v a d w b : ℤ) → Type 0
Lex c v a d w b = (d <ℤ c) ⊎ ((c ≡ d) × ((w <ℤ v) ⊎ ((v ≡ w) × (a <ℤ b))))

lex_out : (c v a d w b : ℤ) → lex c v a d w b ≡ true → Lex c v a d w b
lex_out c v a d w b e = by_test (eq_z c d)
    (λ s. by_test (eq_z v w)
    (λ t. let k : lt_z a b ≡ true = rw (s, t) at e in
    inr (eq_z_true c d s, inr (eq_z_true v w t, grind (arith, ints))))
    (λ t. let k : lt_z w v ≡ true = rw (s, t) at e in inr (eq_z_true c d s, inl (grind (arith, ints)))))
    (λ s. let k : lt_z d c ≡ true = rw s at e in inl (grind (arith, ints)))

lex_in : (c v a d w b : ℤ) → Lex c v a d w b → lex c v a d w b ≡ true
lex_in c v a d w b (inl h) = grind (arith, ints)
lex_in c v a d w b (inr h) = ⊎_elim (λ k. let e = h.0 in grind (arith, ints)) (λ k. let e = h.0 in let f = k.0 in
    let g = k.1 in grind (arith, ints)) h.1

inner : (v a w b x y : ℤ) → (w <ℤ v) ⊎ ((v ≡ w) × (a <ℤ b)) → (x <ℤ w) ⊎ ((w ≡ x) × (b <ℤ y))
    → (x <ℤ v) ⊎ ((v ≡ x) × (a <ℤ y))
inner v a w b x y (inl h) (inl k) = inl (omega (arith, ints))
inner v a w b x y (inl h) (inr k) = let e = k.0 in inl (omega (arith, ints))
inner v a w b x y (inr h) (inl k) = let e = h.0 in inl (omega (arith, ints))
inner v a w b x y (inr h) (inr k) = let f = h.1 in let g = k.1 in inr (h.0 ∙ k.0, omega (arith, ints))

both_on : (c v a d w b g x y : ℤ) → Lex c v a d w b → Lex d w b g x y → Lex c v a g x y
both_on c v a d w b g x y (inl h) (inl k) = inl (omega (arith, ints))
both_on c v a d w b g x y (inl h) (inr k) = let e = k.0 in inl (omega (arith, ints))
both_on c v a d w b g x y (inr h) (inl k) = let e = h.0 in inl (omega (arith, ints))
both_on c v a d w b g x y (inr h) (inr k) = inr (h.0 ∙ k.0, inner v a w b x y h.1 k.1)

lex_onward : (c v a d w b g x y : ℤ) → lex c v a d w b ≡ true → lex d w b g x y ≡ true → lex c v a g x y ≡ true
lex_onward c v a d w b g x y e f =
    lex_in c v a g x y (both_on c v a d w b g x y (lex_out c v a d w b e) (lex_out d w b g x y f))

strict : (l : Ledger) → Strict (goes_before l)
strict l = record {
  not_itself = λ a. lex_not_itself (cash_of l a) (available_credit l a) a;
  onward = λ a b c. lex_onward (cash_of l a) (available_credit l a) a (cash_of l b) (available_credit l b) b (cash_of l c)
      (available_credit l c) c;
  either = λ a b. lex_either (cash_of l a) (available_credit l a) a (cash_of l b) (available_credit l b) b;
}

-- the numbers 1 to n

in_push : (a x : ℤ) (xs : List ℤ) → In a xs ⊎ (a ≡ x) → In a (xs ++ (x ∷ []))
in_push a x [] (inl i) = absurd i
in_push a x [] (inr e) = inl e
in_push a x (y ∷ ys) (inl i) = ⊎_elim (λ e. inl e) (λ j. inr (in_push a x ys (inl j))) i
in_push a x (y ∷ ys) (inr e) = inr (in_push a x ys (inr e))

in_up_to : (n : ℕ) (a : ℤ) → inside (pos 1) (pos n) a ≡ true → In a (up_to n)
in_up_to zero a e = absurd (let h = inside_out (pos 1) (pos 0) a e in omega (arith, ints, h.0, h.1))
in_up_to (suc n) a e =
    let h = inside_out (pos 1) (pos (suc n)) a e in
    by_test (eq_z a (pos (suc n)))
    (λ t. in_push a (pos (suc n)) (up_to n) (inr (eq_z_true a (pos (suc n)) t)))
    (λ t. in_push a (pos (suc n)) (up_to n) (inl (in_up_to n a (inside_in (pos 1) (pos n) a h.0
    (by_lt_z (pos n) a (λ k. absurd
    (clash (eq_z a (pos (suc n))) (eq_z_same a (pos (suc n)) (omega (arith, ints, h.1))) t)) (λ k. k))))))

up_to_inside : (n k : ℕ) → n ≤ k → AllByRecursion (λ a. inside (pos 1) (pos k) a ≡ true) (up_to n)
up_to_inside zero k h = tt
up_to_inside (suc n) k h = All-push (λ a. inside (pos 1) (pos k) a ≡ true) (up_to n) (pos (suc n))
    (up_to_inside n k (omega arith)) (inside_in (pos 1) (pos k) (pos (suc n)) (omega (arith, ints))
    (omega (arith, ints)))

up_to_apart : (n : ℕ) → Unlike eq_z (up_to n)
up_to_apart zero = tt
up_to_apart (suc n) = unlike_entered eq_z (up_to n) (pos (suc n))
    (All-weaker (λ a. inside (pos 1) (pos n) a ≡ true) (λ a. eq_z a (pos (suc n)) ≡ false) (λ a e. let h =
    inside_out (pos 1) (pos n) a e in eq_z_apart a (pos (suc n)) (λ k. omega (arith, ints, h.1))) (up_to n)
    (up_to_inside n n (omega arith)))
    (up_to_apart n)

up_to_long : (n : ℕ) → length (up_to n) ≡ n
up_to_long zero = refl
up_to_long (suc n) = let e = length-append (up_to n) (pos (suc n) ∷ []) in let f = up_to_long n in omega arith

-- the first of those that pass

first_passing : (p : ℤ → Bool) (a : ℤ) (xs : List ℤ) → In a xs → p a ≡ true
    → (b : ℤ) × (first (filter p xs) ≡ Some b)
first_passing p a [] i e = absurd i
first_passing p a (x ∷ xs) i e = by_test (p x)
    (λ t. (x, rw t refl))
    (λ t. ⊎_elim (λ k. absurd (clash (p x) (subst (λ (z : ℤ). p z ≡ true) k e) t))
    (λ j. let r = first_passing p a xs j e in (r.0, rw t r.1)) i)

read_ranked_lem : (l : Ledger) (rank b : ℤ) → is_among l.accounts rank ≡ true
    → first (filter (is_ranked l rank) (account_numbers l)) ≡ Some b → read_ranked l rank ≡ Ok b
read_ranked_lem l rank b e f =
    ap (λ (t : Bool). read_as (within_bounds (t ∷ [])) (unwrap_or (first (filter (is_ranked l rank) (account_numbers l)))
    (pos 0))) e
    ∙ ap (λ (o : Option ℤ). read_as None (unwrap_or o (pos 0))) f

abbrev Read : Ledger → ℤ → Type 0
Read l rank = (account : ℤ) × (is_among l.accounts account ≡ true) × (is_ranked l rank account ≡ true)
    × (read_ranked l rank ≡ Ok account)

-- one of the rank is there, so the first is read
reads : (l : Ledger) (rank a : ℤ) → is_among l.accounts rank ≡ true → In a (account_numbers l)
    → is_ranked l rank a ≡ true → Read l rank
reads l rank a e i r =
    let n = length l.accounts.entries in
    let f = first_passing (is_ranked l rank) a (up_to n) i r in (
      f.0,
      found_has (λ a. inside (pos 1) (pos n) a ≡ true) (is_ranked l rank) (up_to n) f.0 f.1
          (up_to_inside n n (omega arith)),
      first_has (λ a. is_ranked l rank a ≡ true) (filter (is_ranked l rank) (up_to n)) f.0 f.1
          (kept_by_passes (is_ranked l rank) (up_to n)),
      read_ranked_lem l rank f.0 e f.1,
    )

ranked_with : (l : Ledger) (k : ℕ) (a : ℤ) → length (filter (λ other. goes_before l other a) (account_numbers l)) ≡ k
    → is_ranked l (pos (suc k)) a ≡ true
ranked_with l k a w = eq_z_same (count_of (filter (λ other. goes_before l other a) (account_numbers l)) +ℤ pos 1)
    (pos (suc k)) (omega (arith, ints))

ranks : (l : Ledger) (rank : ℤ) → is_among l.accounts rank ≡ true → Read l rank
ranks l (negsuc k) e = cc
ranks l (pos zero) e = cc
ranks l (pos (suc k)) e =
    let n = length l.accounts.entries in
    let h = inside_out (pos 1) (pos n) (pos (suc k)) e in
    let u = up_to_long n in
    let r = ranked_one (goes_before l) (strict l) (up_to n) (up_to_apart n) k (omega (arith, ints, h.1)) in
    reads l (pos (suc k)) r.0 e r.1 (ranked_with l k r.0 r.2)

pub ranked_runs : EveryRun RankedOnce
ranked_runs m day cs =
    let l = ledger_at m day cs in
    record {
      one = ranks l;
      only = λ rank a b i j e f.
          let g = eq_z_true (count_of (filter (λ other. goes_before l other a) (account_numbers l)) +ℤ pos 1) rank e in
          let h = eq_z_true (count_of (filter (λ other. goes_before l other b) (account_numbers l)) +ℤ pos 1) rank f in
          ranked_only (goes_before l) (strict l) a b (account_numbers l) (in_up_to _ a i) (in_up_to _ b j)
          (omega (arith, ints));
    }
