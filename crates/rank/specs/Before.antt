-- What goes before what by a comparison that is total: the answers of the comparison, read as a test. Assumes nothing.
use Rattle.std.proofs.Common.{◌≡◌, true, false, Ordering, Less, Equal, Greater, refl, ap, arith}
use Rattle.std.specs.Cmp.{IsTotalOrder}
use Rattle.std.specs.Ordering.{is_lt}
use Rattle.std.proofs.lemmas.Bool.{false≢true}
use Rattle.std.proofs.lemmas.Cmp.{tied_itself}
use Rattle.rank.specs.Ranks.{before}

less_from : (o : Ordering) → is_lt o ≡ true → o ≡ Less
less_from Less e = refl
less_from Equal e = absurd (false≢true e)
less_from Greater e = absurd (false≢true e)

module _ {X : Type 0} (cmp : X → X → Ordering) (total : IsTotalOrder cmp) where
  pub before_itself : (x : X) → before cmp x x ≡ false
  before_itself x = ap is_lt (tied_itself total x)

  pub before_trans : (x y z : X) → before cmp x y ≡ true → before cmp y z ≡ true → before cmp x z ≡ true
  before_trans x y z h k = ap is_lt (total.trans x y z (less_from (cmp x y) h) (less_from (cmp y z) k))

  -- what goes before x goes before l, where l does not go before x
  pub before_follows : (l x y : X) → before cmp l x ≡ false → before cmp y x ≡ true → before cmp y l ≡ true
  before_follows l x y e h = let a = total.antisymm l y in let c = total.congr y l x in let t = before_trans l y x in grind arith
