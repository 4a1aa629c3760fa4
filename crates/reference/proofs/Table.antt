-- One entry of a posted table is written: what is asked of it is what was written, and all else is as it was. Assumes nothing.
use Rattle.std.proofs.Common.{◌≡◌, ℕ, zero, suc, ◌-◌, ◌<◌, true, ◌&&◌, get_or, cond, List, [], ◌∷◌, length, set, replicate, ℤ, pos, nat_abs, Some, None, Ok, Err, Option, sym, refl, ap, ◌∙◌, ⊎_elim, arith}
use Rattle.std.specs.Prelude.{slice_get, eqb, int_le, ok_or, ◌≢◌}
use Rattle.std.proofs.lemmas.Int.{ints}
use Rattle.std.proofs.lemmas.Option.{slice_get-get_or}
use Rattle.std.proofs.lemmas.Bool.{cases_Bool, and_parts, and_from, cond-true, cond-false, eqb-true, eqb-false}
use Rattle.market.specs.declared.fault.Cause.TheVariants.{Outside, Missing}
use Rattle.market.specs.declared.words.Side.{Side}
use Rattle.market.specs.declared.words.Side.TheVariants.{Supply, Demand}
use Rattle.reference.specs.declared.posted.Entry.{Entry}
use Rattle.reference.specs.Prices.{fault}
use Rattle.reference.specs.Fair.{in_reference}
use Rattle.reference.specs.Posted.{in_table, price_in, by_side, entry_price, KeepsTheOther, posted_price}

here : (es : List Entry) (i : ℕ) (e : Entry) → i < length es → slice_get (set es i e) i ≡ Some e
here [] i e h = absurd (omega arith)
here (x ∷ es) zero e h = refl
here (x ∷ es) (suc i) e h = here es i e (omega arith)

elsewhere : (es : List Entry) (i j : ℕ) (e : Entry) → (j ≡ i → ⊥) → slice_get (set es i e) j ≡ slice_get es j
elsewhere [] i j e ne = refl
elsewhere (x ∷ es) zero zero e ne = absurd (ne refl)
elsewhere (x ∷ es) zero (suc j) e ne = refl
elsewhere (x ∷ es) (suc i) zero e ne = refl
elsewhere (x ∷ es) (suc i) (suc j) e ne = elsewhere es i j e (λ p. ne (ap suc p))

-- a location is known by its index
same_location : (k l : ℤ) → in_table k ≡ true → in_table l ≡ true → nat_abs k - 1 ≡ nat_abs l - 1 → k ≡ l
same_location k l a b e =
    let p = and_parts (int_le (pos 1) k) (int_le k (pos 64)) a in
    let q = and_parts (int_le (pos 1) l) (int_le l (pos 64)) b in
    grind (arith, ints)

priced_at : (es : List Entry) (l : ℤ) (s : Side) (e : Entry) → in_table l ≡ true → slice_get es (nat_abs l - 1) ≡ Some e → posted_price es l s ≡ price_in l (by_side e.supply e.demand s)
priced_at es l s e a g = cond-true (in_table l) _ _ a ∙ ap (λ o. price_in l (entry_price s o)) g

module _ (es : List Entry) (l : ℤ) (e : Entry) (in_it : in_table l ≡ true) (within : nat_abs l - 1 < length es) where
  pub posted_here : (s : Side) (z : ℤ) → by_side e.supply e.demand s ≡ Some z → posted_price (set es (nat_abs l - 1) e) l s ≡ Ok z
  posted_here s z is = priced_at (set es (nat_abs l - 1) e) l s e in_it (here es (nat_abs l - 1) e within) ∙ ap (price_in l) is

  pub posted_elsewhere : (k : ℤ) (t : Side) → (k ≡ l → by_side e.supply e.demand t ≡ entry_price t (slice_get es (nat_abs l - 1))) → posted_price (set es (nat_abs l - 1) e) k t ≡ posted_price es k t
  posted_elsewhere k t same =
      ⊎_elim
      (λ a. ⊎_elim
      (λ q. let i : nat_abs k - 1 ≡ nat_abs l - 1 = eqb-true (nat_abs k - 1) (nat_abs l - 1) q in
      cond-true (in_table k) _ _ a
      ∙ ap (λ o. price_in k (entry_price t o)) (ap (slice_get (set es (nat_abs l - 1) e)) i ∙ here es (nat_abs l - 1) e within)
      ∙ ap (price_in k) (same (same_location k l a in_it i) ∙ ap (λ j. entry_price t (slice_get es j)) (sym i))
      ∙ sym (cond-true (in_table k) _ _ a))
      (λ q. ap (λ o. cond (in_table k) (price_in k (entry_price t o)) (Err (fault Outside k))) (elsewhere es (nat_abs l - 1) (nat_abs k - 1) e (eqb-false (nat_abs k - 1) (nat_abs l - 1) q)))
      (cases_Bool (eqb (nat_abs k - 1) (nat_abs l - 1))))
      (λ a. cond-false (in_table k) _ _ a ∙ sym (cond-false (in_table k) _ _ a))
      (cases_Bool (in_table k))

-- a table of entries without a price has none
pub none_posted : (e : Entry) → e.supply ≡ None → e.demand ≡ None → (n k : ℕ) (s : Side) → entry_price s (slice_get (replicate n e) k) ≡ None
none_posted e a b zero k s = refl
none_posted e a b (suc n) zero Supply = a
none_posted e a b (suc n) zero Demand = b
none_posted e a b (suc n) (suc k) s = none_posted e a b n k s

module _ (es : List Entry) (l : ℤ) (i : ℕ) (d : Entry) (in_it : in_table l ≡ true) (at : i ≡ nat_abs l - 1) (within : i < length es) where
  abbrev old : Entry
  old = get_or es i d

  there : slice_get es (nat_abs l - 1) ≡ Some old
  there = ap (slice_get es) (sym at) ∙ slice_get-get_or es i d within

  -- what a table means at a location of its own
  pub quoted : (s : Side) → ok_or (by_side old.supply old.demand s) (fault Missing l) ≡ posted_price es l s
  quoted s = answered (by_side old.supply old.demand s) ∙ sym (priced_at es l s old in_it there)
    where
      answered : (o : Option ℤ) → ok_or o (fault Missing l) ≡ price_in l o
      answered None = refl
      answered (Some z) = refl

  -- what a post leaves, where the entry of its location has the price at its side and the old price at the other
  pub posted_one : (side : Side) (z : ℤ) (e : Entry) → in_reference z ≡ true → by_side e.supply e.demand side ≡ Some z → KeepsTheOther side old e
      → ((in_table l && in_reference z) ≡ true) × (posted_price (set es i e) l side ≡ Ok z)
      × ((k : ℤ) (t : Side) → (k ≡ l → t ≢ side) → posted_price (set es i e) k t ≡ posted_price es k t)
  posted_one side z e fits new kept =
      let w : nat_abs l - 1 < length es = omega arith in
      let written = ap (λ j. set es j e) at in (
        and_from (in_table l) (in_reference z) in_it fits,
        ap (λ ys. posted_price ys l side) written ∙ posted_here es l e in_it w side z new,
        λ k t other. ap (λ ys. posted_price ys k t) written ∙ posted_elsewhere es l e in_it w k t
            (λ p. kept t (other p) ∙ sym (ap (entry_price t) there)),
      )
