-- The numbers that a run gives are 1, 2, 3 and on.
use Rattle.std.proofs.Common.{◌≡◌, ℕ, suc, ◌+◌, Bool, true, false, cond, eqb, ◌⊎◌, List, [], ◌∷◌, ◌++◌, length, ℤ, pos, ◌+ℤ◌, is_some, Some, None, Ok, Err, Option, Result, sym, refl, ap, ◌∙◌, inl, inr, ⊎_elim, append_assoc, append-nil, add-zero, zero-add, arith}
use Rattle.std.proofs.lemmas.Int.{ints}
use Rattle.market.specs.Letters.{side_named, class_named, period_named}
use Rattle.market.specs.declared.words.Side.{Side}
use Rattle.market.specs.declared.words.Layer.TheVariants.{Book}
use Rattle.market.specs.declared.fault.Fault.{Fault}
use Rattle.market.specs.declared.fault.Fault.TheVariants.{BadArgument}
use Rattle.market.specs.declared.fault.PolicyFault.{PolicyFault}
use Rattle.rules.specs.Calls.{Prices, Call, open_account, add_location, set_limit, take_hold, release_hold, place_bid, withdraw_bid, close_bidding, clear_hour, price_hour, pay_account, adjust_account, refused}
use Rattle.rules.specs.Ledger.{Ledger, empty_ledger, hold_numbered}
use Rattle.rules.specs.Questions.{has_price}
use Rattle.rules.specs.Rules.{questions, result_of, with_hold, enter, refusal_of, move_by}
use Rattle.rules.specs.Words.{inside, up_to, if_some}
use Rattle.laws.specs.Standing.{number_in, table_of, numbers_given, NumbersInTurn}
use Rattle.laws.proofs.Runs.{Passed, passed, asked, each_so, clash, if_some_lem, asked_of, held_step}

-- what a call that goes through answers and does to the next number of a table
abbrev Turn : ℕ → (Ledger → ℤ) → Prices → Ledger → Call → Type 0
Turn table next_of m l c =
    ((cond (eqb (table_of c) table) (number_in (result_of l c)) [] ≡ []) × (next_of (enter m l c) ≡ next_of l))
    ⊎ ((cond (eqb (table_of c) table) (number_in (result_of l c)) [] ≡ next_of l ∷ [])
    × (next_of (enter m l c) ≡ next_of l +ℤ pos 1))

nothing : (t : Bool) → cond {A = List ℤ} t [] [] ≡ []
nothing true = refl
nothing false = refl

module _ (table : ℕ) (next_of : Ledger → ℤ) (m : Prices) (turn : (l : Ledger) (c : Call) → Passed m l c
    → Turn table next_of m l c) where
  given : (l : Ledger) (c : Call) (o : Option Fault) → refusal_of m l c ≡ o
      → ((cond (eqb (table_of c) table) (number_in (if_some o (result_of l c) refused)) [] ≡ [])
      × (next_of (if_some o (enter m l c) (λ f. l)) ≡ next_of l))
      ⊎ ((cond (eqb (table_of c) table) (number_in (if_some o (result_of l c) refused)) [] ≡ next_of l ∷ [])
      × (next_of (if_some o (enter m l c) (λ f. l)) ≡ next_of l +ℤ pos 1))
  given l c None e = turn l c (passed (questions m l c) e)
  given l c (Some f) e = inl (nothing (eqb (table_of c) table), refl)

  in_turn : (cs : List Call) (l : Ledger) (k : ℕ) → next_of l ≡ pos (suc k)
      → up_to k ++ numbers_given table m l cs ≡ up_to (k + length (numbers_given table m l cs))
  in_turn [] l k e = append-nil (up_to k) ∙ ap up_to (sym (add-zero k))
  in_turn (c ∷ cs) l k e = ⊎_elim
      (λ h. rw h.0 (in_turn cs (move_by m l c) k (h.1 ∙ e)))
      (λ h.
      let ns = numbers_given table m (move_by m l c) cs in
      let n : next_of (move_by m l c) ≡ pos (suc (suc k)) =
      h.1 ∙ (ap (λ (z : ℤ). z +ℤ pos 1) e ∙ omega (arith, ints)) in
      let r = in_turn cs (move_by m l c) (suc k) n in
      let z : up_to k ++ (pos (suc k) ∷ ns) ≡ up_to (suc k + length ns) =
      sym (append_assoc (up_to k) (pos (suc k) ∷ []) ns) ∙ r in
      let i : suc k + length ns ≡ k + suc (length ns) = omega arith in
      rw (h.0, e) (z ∙ ap up_to i))
      (given l c (refusal_of m l c) refl)

missing : {X : Type 0} (o : Option X) → is_some o ≡ true → o ≡ None → ⊥
missing None e f = clash false e refl
missing (Some x) e f = cc

entered_hold : (l : Ledger) (k t : ℤ) (s : Side) (q : ℤ) (r : Result ℤ PolicyFault) → has_price t r ≡ None
    → (with_hold l k t s q r).holds.next ≡ l.holds.next +ℤ pos 1
entered_hold l k t s q (Ok price) e = refl
entered_hold l k t s q (Err fault) e = cc

accounts_turn : (m : Prices) (l : Ledger) (c : Call) → Passed m l c → Turn 1 (λ l. l.accounts.next) m l c
accounts_turn m l (open_account e k) p = inr (refl, refl)
accounts_turn m l (add_location k e) p =
    inl (
      refl,
      if_some_lem (λ (n : Ledger). n.accounts.next ≡ l.accounts.next) (class_named k) l _ (λ _. refl)
          (λ _ _. refl),
    )
accounts_turn m l (set_limit e k) p = inl (refl, refl)
accounts_turn m l (take_hold k t s q) p =
    inl (
      refl,
      if_some_lem (λ (n : Ledger). n.accounts.next ≡ l.accounts.next) (side_named s) l _ (λ _. refl)
          (λ sd _. held_step (λ (n : Ledger). n.accounts.next ≡ l.accounts.next) l k t sd q (m t sd) refl
          (λ _ _. refl)),
    )
accounts_turn m l (release_hold n) p = inl (refl, refl)
accounts_turn m l (place_bid n h cv) p =
    inl (
      refl,
      if_some_lem (λ (n : Ledger). n.accounts.next ≡ l.accounts.next) (hold_numbered l n) l _ (λ _. refl)
          (λ _ _. refl),
    )
accounts_turn m l (withdraw_bid n) p = inl (refl, refl)
accounts_turn m l close_bidding p = inl (refl, refl)
accounts_turn m l (clear_hour h ps) p = inl (refl, refl)
accounts_turn m l (price_hour h d g) p = inl (refl, refl)
accounts_turn m l (pay_account k) p = inl (refl, refl)
accounts_turn m l (adjust_account x) p =
    inl (
      refl,
      if_some_lem (λ (n : Ledger). n.accounts.next ≡ l.accounts.next) (period_named x.period) l
          _ (λ _. refl) (λ _ _. refl),
    )

locations_turn : (m : Prices) (l : Ledger) (c : Call) → Passed m l c → Turn 2 (λ l. l.locations.next) m l c
locations_turn m l (open_account e k) p = inl (refl, refl)
locations_turn m l (add_location k e) p =
    inr (
      refl,
      if_some_lem (λ (n : Ledger). n.locations.next ≡ l.locations.next +ℤ pos 1) (class_named k) l _
          (λ none. absurd (missing (class_named k)
          (each_so (BadArgument Book) (pos 1) (is_some (class_named k) ∷ inside (pos 0) (pos 100000) e ∷ []) p.0).0
          none))
          (λ _ _. refl),
    )
locations_turn m l (set_limit e k) p = inl (refl, refl)
locations_turn m l (take_hold k t s q) p =
    inl (
      refl,
      if_some_lem (λ (n : Ledger). n.locations.next ≡ l.locations.next) (side_named s) l _ (λ _. refl)
          (λ sd _. held_step (λ (n : Ledger). n.locations.next ≡ l.locations.next) l k t sd q (m t sd) refl
          (λ _ _. refl)),
    )
locations_turn m l (release_hold n) p = inl (refl, refl)
locations_turn m l (place_bid n h cv) p = inl (
  refl,
  if_some_lem (λ (n : Ledger). n.locations.next ≡ l.locations.next)
      (hold_numbered l n) l _ (λ _. refl) (λ _ _. refl),
)
locations_turn m l (withdraw_bid n) p = inl (refl, refl)
locations_turn m l close_bidding p = inl (refl, refl)
locations_turn m l (clear_hour h ps) p = inl (refl, refl)
locations_turn m l (price_hour h d g) p = inl (refl, refl)
locations_turn m l (pay_account k) p = inl (refl, refl)
locations_turn m l (adjust_account x) p = inl (
  refl,
  if_some_lem (λ (n : Ledger). n.locations.next ≡ l.locations.next)
      (period_named x.period) l _ (λ _. refl) (λ _ _. refl),
)

holds_turn : (m : Prices) (l : Ledger) (c : Call) → Passed m l c → Turn 3 (λ l. l.holds.next) m l c
holds_turn m l (open_account e k) p = inl (refl, refl)
holds_turn m l (add_location k e) p =
    inl (refl, if_some_lem (λ (n : Ledger). n.holds.next ≡ l.holds.next) (class_named k) l _ (λ _. refl) (λ _ _. refl))
holds_turn m l (set_limit e k) p = inl (refl, refl)
holds_turn m l (take_hold k t s q) p = inr (
  refl,
  if_some_lem (λ (n : Ledger). n.holds.next ≡ l.holds.next +ℤ pos 1)
      (side_named s) l _
      (λ none. absurd (missing (side_named s)
      (each_so (BadArgument Book) (pos 1) (true ∷ true ∷ is_some (side_named s) ∷ inside (pos 10) (pos 10000) q ∷ [])
      p.0).1.1.0 none))
      (λ sd e. entered_hold l k t sd q (m t sd) (asked_of (side_named s) sd _ e p.1.1.1.1.1).0),
)
holds_turn m l (release_hold n) p = inl (refl, refl)
holds_turn m l (place_bid n h cv) p =
    inl (
      refl,
      if_some_lem (λ (n : Ledger). n.holds.next ≡ l.holds.next) (hold_numbered l n) l _ (λ _. refl)
          (λ _ _. refl),
    )
holds_turn m l (withdraw_bid n) p = inl (refl, refl)
holds_turn m l close_bidding p = inl (refl, refl)
holds_turn m l (clear_hour h ps) p = inl (refl, refl)
holds_turn m l (price_hour h d g) p = inl (refl, refl)
holds_turn m l (pay_account k) p = inl (refl, refl)
holds_turn m l (adjust_account x) p =
    inl (
      refl,
      if_some_lem (λ (n : Ledger). n.holds.next ≡ l.holds.next) (period_named x.period) l _ (λ _. refl)
          (λ _ _. refl),
    )

bids_turn : (m : Prices) (l : Ledger) (c : Call) → Passed m l c → Turn 4 (λ l. l.bids.next) m l c
bids_turn m l (open_account e k) p = inl (refl, refl)
bids_turn m l (add_location k e) p =
    inl (refl, if_some_lem (λ (n : Ledger). n.bids.next ≡ l.bids.next) (class_named k) l _ (λ _. refl) (λ _ _. refl))
bids_turn m l (set_limit e k) p = inl (refl, refl)
bids_turn m l (take_hold k t s q) p =
    inl (
      refl,
      if_some_lem (λ (n : Ledger). n.bids.next ≡ l.bids.next) (side_named s) l _ (λ _. refl)
          (λ sd _. held_step (λ (n : Ledger). n.bids.next ≡ l.bids.next) l k t sd q (m t sd) refl (λ _ _. refl)),
    )
bids_turn m l (release_hold n) p = inl (refl, refl)
bids_turn m l (place_bid n h cv) p =
    inr (
      refl,
      if_some_lem (λ (n : Ledger). n.bids.next ≡ l.bids.next +ℤ pos 1) (hold_numbered l n) l _
          (λ none. absurd (missing (hold_numbered l n) (asked _ _ p.1.0) none))
          (λ _ _. refl),
    )
bids_turn m l (withdraw_bid n) p = inl (refl, refl)
bids_turn m l close_bidding p = inl (refl, refl)
bids_turn m l (clear_hour h ps) p = inl (refl, refl)
bids_turn m l (price_hour h d g) p = inl (refl, refl)
bids_turn m l (pay_account k) p = inl (refl, refl)
bids_turn m l (adjust_account x) p =
    inl (
      refl,
      if_some_lem (λ (n : Ledger). n.bids.next ≡ l.bids.next) (period_named x.period) l _ (λ _. refl)
          (λ _ _. refl),
    )

first_turn : (ns : List ℤ) → ns ≡ up_to (0 + length ns) → ns ≡ up_to (length ns)
first_turn ns e = e ∙ ap up_to (zero-add (length ns))

pub numbers_in_turn : NumbersInTurn
numbers_in_turn = record {
  accounts = λ m day cs. first_turn (numbers_given 1 m (empty_ledger day) cs)
      (in_turn 1 (λ l. l.accounts.next) m (accounts_turn m) cs (empty_ledger day) 0 refl);
  locations = λ m day cs. first_turn (numbers_given 2 m (empty_ledger day) cs)
      (in_turn 2 (λ l. l.locations.next) m (locations_turn m) cs (empty_ledger day) 0 refl);
  holds = λ m day cs. first_turn (numbers_given 3 m (empty_ledger day) cs)
      (in_turn 3 (λ l. l.holds.next) m (holds_turn m) cs (empty_ledger day) 0 refl);
  bids = λ m day cs. first_turn (numbers_given 4 m (empty_ledger day) cs)
      (in_turn 4 (λ l. l.bids.next) m (bids_turn m) cs (empty_ledger day) 0 refl);
}
