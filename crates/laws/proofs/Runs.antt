-- What each call keeps that goes through, every run keeps.
use Rattle.std.proofs.Common.{◌≡◌, ◌≤◌, Bool, true, false, cond, not, ◌&&◌, List, [], ◌∷◌, map, length, ℤ, pos, ◌+ℤ◌, Some, None, Ok, Err, filter, Option, Result, sym, refl, ap, subst}
use Rattle.std.specs.List.{AllByRecursion}
use Rattle.std.proofs.lemmas.List.Sums.{length-filter, count_by-le-length}
use Rattle.std.proofs.ByRecursion.{all_kept_by, All-map, All-weaker}
use Rattle.market.specs.declared.words.Side.{Side}
use Rattle.market.specs.declared.fault.Fault.{Fault}
use Rattle.market.specs.declared.fault.PolicyFault.{PolicyFault}
use Rattle.rules.specs.declared.stages.BidStage.{BidStage}
use Rattle.rules.specs.Calls.{Prices, Call}
use Rattle.rules.specs.Ledger.{BidEntry, Ledger, bid_with}
use Rattle.rules.specs.Questions.{ask, first_no, ask_each, ask_none}
use Rattle.rules.specs.Rules.{questions, with_hold, enter, refusal_of, move_by}
use Rattle.rules.specs.Runs.{ledger_after}
use Rattle.rules.specs.Words.{first, if_some}

-- all questions of a call were answered yes
abbrev pub Yes : List (Option Fault) → Type 0
Yes qs = AllByRecursion (λ q. q ≡ None) qs

abbrev pub Passed : Prices → Ledger → Call → Type 0
Passed m l c = Yes (questions m l c)

pub passed : (qs : List (Option Fault)) → first_no qs ≡ None → Yes qs
passed [] e = tt
passed (None ∷ qs) e = (refl, passed qs e)
passed (Some f ∷ qs) e = cc

pub asked : (f : Fault) (b : Bool) → ask f b ≡ None → b ≡ true
asked f true e = refl
asked f false e = cc

pub each_so : (fault_at : ℤ → Fault) (n : ℤ) (bs : List Bool) → ask_each fault_at n bs ≡ None → AllByRecursion (λ b. b ≡ true) bs
each_so fault_at n [] e = tt
each_so fault_at n (b ∷ bs) e =
    let q = passed (ask (fault_at n) b ∷ ask_each fault_at (n +ℤ pos 1) bs ∷ []) e in
    (asked (fault_at n) b q.0, each_so fault_at (n +ℤ pos 1) bs q.1.0)

pub none_there : {X : Type 0} (f : X → Fault) (xs : List X) → ask_none f xs ≡ None → xs ≡ []
none_there f [] e = refl
none_there f (x ∷ xs) e = cc

pub clash : (b : Bool) → b ≡ true → b ≡ false → ⊥
clash b e f = cc

pub by_test : {P : Type 0} (b : Bool) → (b ≡ true → P) → (b ≡ false → P) → P
by_test true f g = f refl
by_test false f g = g refl

-- by whether there is one
pub if_some_lem : {X Y : Type 0} (P : Y → Type 0) (o : Option X) (other : Y) (f : X → Y) → (o ≡ None → P other)
    → ((x : X) → o ≡ Some x → P (f x)) → P (if_some o other f)
if_some_lem P None other f a b = a refl
if_some_lem P (Some x) other f a b = b x refl

pub asked_of : {X : Type 0} (o : Option X) (x : X) (g : X → List (Option Fault)) → o ≡ Some x → Yes (if_some o [] g)
    → Yes (g x)
asked_of o x g e a = subst (λ (p : Option _). Yes (if_some p [] g)) e a

-- what a call that goes through keeps, a run keeps
module _ (P : Ledger → Type 0) (m : Prices) (step : (l : Ledger) (c : Call) → Passed m l c → P l → P (enter m l c))
  where
    pub one_move : (l : Ledger) (c : Call) → P l → P (move_by m l c)
    one_move l c p = if_some_lem P (refusal_of m l c) (enter m l c) (λ f. l) (λ e. step l c (passed (questions m l c) e) p)
        (λ f e. p)

    pub every_run : (l : Ledger) (cs : List Call) → P l → P (ledger_after m l cs)
    every_run l [] p = p
    every_run l (c ∷ cs) p = every_run (move_by m l c) cs (one_move l c p)

-- a hold is entered where the policy has a price
pub held_step : (P : Ledger → Type 0) (l : Ledger) (a t : ℤ) (s : Side) (q : ℤ) (r : Result ℤ PolicyFault) → P l
    → ((price : ℤ) → r ≡ Ok price → P (with_hold l a t s q (Ok price))) → P (with_hold l a t s q r)
held_step P l a t s q (Ok price) p f = f price refl
held_step P l a t s q (Err fault) p f = p

-- one bid changed in its stage, or left
pub changed : (P : BidEntry → Type 0) (t : Bool) (b : BidEntry) (s : BidStage) → (t ≡ true → P (bid_with b s)) → P b
    → P (cond t (bid_with b s) b)
changed P true b s f p = f refl
changed P false b s f p = p

-- the first of a list has what each has
pub first_has : {X : Type 0} (P : X → Type 0) (xs : List X) (x : X) → first xs ≡ Some x → AllByRecursion P xs → P x
first_has P [] x e a = cc
first_has P (y ∷ ys) x e a = let h : y ≡ x = cc in subst P h a.0

pub found_has : {X : Type 0} (P : X → Type 0) (test : X → Bool) (xs : List X) (x : X)
    → first (filter test xs) ≡ Some x → AllByRecursion P xs → P x
found_has P test xs x e a = first_has P (filter test xs) x e (all_kept_by test P xs a)

-- each of the bids, after clear, price or pay changed some in their stage
pub all_changed : (P : BidEntry → Type 0) (f : BidEntry → BidEntry) → ((b : BidEntry) → P b → P (f b))
    → (bs : List BidEntry) → AllByRecursion P bs → AllByRecursion P (map f bs)
all_changed P f g bs a = All-map P f bs (All-weaker P (λ b. P (f b)) g bs a)

pub not_first : (a b : Bool) → (not a && b) ≡ true → a ≡ false
not_first true b e = absurd (clash true refl (sym e))
not_first false b e = refl

pub and_left : (a b : Bool) → (a && b) ≡ true → a ≡ true
and_left true b e = refl
and_left false b e = e

pub kept_shorter : {X : Type 0} (p : X → Bool) (xs : List X) → length (filter p xs) ≤ length xs
kept_shorter p xs = rw length-filter (count_by-le-length p xs)

-- a call that goes through enters what it says
pub went : (m : Prices) (l : Ledger) (c : Call) → refusal_of m l c ≡ None → move_by m l c ≡ enter m l c
went m l c e = ap (λ (o : Option Fault). if_some o (enter m l c) (λ f. l)) e
