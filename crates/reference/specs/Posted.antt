-- What a posted table means, and what posting a price changes. Assumes nothing.
--   in_table l                    l is a location from 1 to 64
--   posted_price es l s          the price posted for a location and side; cause 1 outside the table, cause 2 where it is empty
--   entry_price s o              the price of a side in an entry, where there is one
--   KeepsTheOther s e f          the entry f has the price of the other side that e has
--   EmptyTable p                 no price is posted
--   Posting p q l s z r          posting z for l and s led from p to q and answered r
use Rattle.std.specs.Prelude.{◌≡◌, ◌-◌, Bool, true, false, cond, ◌&&◌, T, List, ℤ, ◌≤ℤ◌, Some, None, Ok, Err, Option, Result, ◌≢◌, int_le, slice_get, unsigned_abs}
use Rattle.std.proofs.Common.{refl, sym, subst}
use Rattle.std.proofs.lemmas.Bool.{and_parts}
use Rattle.market.specs.declared.fault.Cause.TheVariants.{Outside, Missing}
use Rattle.market.specs.declared.fault.PolicyFault.{PolicyFault}
use Rattle.market.specs.declared.fault.Fault.{Fault}
use Rattle.market.specs.declared.fault.Fault.TheVariants.{BadArgument}
use Rattle.market.specs.declared.words.Layer.TheVariants.{Policy}
use Rattle.market.specs.declared.words.Side.{Side}
use Rattle.market.specs.declared.words.Side.TheVariants.{Supply, Demand}
use Rattle.lists.specs.Counted.{is_among}
use Rattle.reference.specs.declared.posted.Entry.{Entry}
use Rattle.reference.specs.declared.posted.Posted.{Posted}
use Rattle.reference.specs.Prices.{Priced, fault}
use Rattle.reference.specs.Fair.{in_reference, fair}

abbrev pub in_table : ℤ → Bool
in_table l = is_among 64 l

abbrev pub price_in : ℤ → Option ℤ → Result ℤ PolicyFault
price_in l None = Err (fault Missing l)
price_in l (Some z) = Ok z

abbrev pub by_side : {X : Type 0} → X → X → Side → X
by_side supply demand Supply = supply
by_side supply demand Demand = demand

abbrev pub entry_price : Side → Option Entry → Option ℤ
entry_price s None = None
entry_price s (Some e) = by_side e.supply e.demand s

-- an entry whose price of the other side is as it was
abbrev pub KeepsTheOther : Side → Entry → Entry → Type 0
KeepsTheOther side old new = (t : Side) → t ≢ side → by_side new.supply new.demand t ≡ by_side old.supply old.demand t

abbrev pub posted_price : List Entry → ℤ → Side → Result ℤ PolicyFault
posted_price es l s = cond (in_table l) (price_in l (entry_price s (slice_get es (unsigned_abs l - 1)))) (Err (fault Outside l))

abbrev pub meant : Posted → ℤ → Side → Result ℤ PolicyFault
meant p = posted_price p.entries

abbrev pub EmptyTable : Posted → Type 0
EmptyTable p = (l : ℤ) (s : Side) → meant p l s ≡ cond (in_table l) (Err (fault Missing l)) (Err (fault Outside l))

-- that entry means the price and no other changes; or refusal 1 of the policy at the location, and nothing changes
abbrev pub Posting : Posted → Posted → ℤ → Side → ℤ → Result (Unit {0}) Fault → Type 0
Posting p q l s z (Ok x) =
    ((in_table l && in_reference z) ≡ true) × (meant q l s ≡ Ok z)
    × ((k : ℤ) (t : Side) → (k ≡ l → t ≢ s) → meant q k t ≡ meant p k t)
Posting p q l s z (Err f) = ((in_table l && in_reference z) ≡ false) × (f ≡ BadArgument Policy l) × (q ≡ p)

le_from_test : (a b : ℤ) → int_le a b ≡ true → a ≤ℤ b
le_from_test a b e = record { le = subst T (sym e) tt }

fair_priced : (l : ℤ) (o : Option ℤ) → fair o ≡ true → Priced (price_in l o)
fair_priced l None h = tt
fair_priced l (Some z) h = let e = and_parts _ _ h in (le_from_test _ _ e.0, le_from_test _ _ e.1)

cond_priced : (b : Bool) (l : ℤ) (o : Option ℤ) → fair o ≡ true → Priced (cond b (price_in l o) (Err (fault Outside l)))
cond_priced true l o h = fair_priced l o h
cond_priced false l o h = tt

entry_fair : (s : Side) (o : Option Entry) → fair (entry_price s o) ≡ true
entry_fair s None = refl
entry_fair Supply (Some e) = e.supply_fair
entry_fair Demand (Some e) = e.demand_fair

pub posted_priced : (es : List Entry) (l : ℤ) (s : Side) → Priced (posted_price es l s)
posted_priced es l s = cond_priced (in_table l) l (entry_price s (slice_get es (unsigned_abs l - 1))) (entry_fair s (slice_get es (unsigned_abs l - 1)))
