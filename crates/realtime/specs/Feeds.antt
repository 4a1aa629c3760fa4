-- What a feed's list holds and what it means. Assumes nothing.
--   feed_layout per       locations to 64, hours to 25, a mark a cell, `per` prices a cell
--   is_one z              z is 1
--   published xs c        the mark of cell c is 1
--   price per xs all c i  the price of interval i, from 0, of cell c, behind the marks of all cells
--   summed f n            f 0 + .. + f (n - 1)
--   weight per            how many twelfths of an hour one price stands for
--   average per xs all c  the average of a cell, in twelfths: each price as often as it counts
--   faulty cause l        a source's fault, of a cause and a location
--   feed_meaning per xs m n l h  what a feed of m locations and n hours answers
--   Stands per xs all     every mark and price of so many cells stands in the list
--   Priced per xs all     every price of so many cells is within its bounds
use Rattle.std.specs.Prelude.{ℕ, zero, suc, ◌+◌, ◌*◌, ◌/◌, ◌<◌, Bool, false, cond, List, length, ℤ, pos, negsuc, ◌+ℤ◌, ◌*ℤ◌, Ok, Err, Result, ◌==◌}
use Rattle.market.specs.declared.fault.Cause.{Cause}
use Rattle.market.specs.declared.fault.Cause.TheVariants.{Outside, Missing}
use Rattle.market.specs.declared.fault.SourceFault.{SourceFault}
use Rattle.market.specs.declared.words.Layer.TheVariants.{RealTime}
use Rattle.lists.specs.declared.layout.Layout.{Layout}
use Rattle.lists.specs.Cells.{outside, cell}
use Rattle.lists.specs.Lists.{num, Bounded}

abbrev pub feed_layout : ℕ → Layout
feed_layout per = record {
  layer = RealTime;
  rows = 64;
  columns = 25;
  first = record { per_cell = 1; low = pos 0; high = pos 1 };
  second = record { per_cell = per; low = negsuc 999999; high = pos 1000000 };
}

abbrev pub is_one : ℤ → Bool
is_one (pos n) = n == 1
is_one (negsuc n) = false

abbrev pub published : List ℤ → ℕ → Bool
published xs c = is_one (num xs (2 + c))

abbrev pub price : ℕ → List ℤ → ℕ → ℕ → ℕ → ℤ
price per xs all c i = num xs (2 + all + c * per + i)

abbrev pub summed : (ℕ → ℤ) → ℕ → ℤ
summed f zero = pos 0
summed f (suc n) = summed f n +ℤ f n

abbrev pub weight : ℕ → ℕ
weight per = 12 / per

abbrev pub average : ℕ → List ℤ → ℕ → ℕ → ℤ
average per xs all c = pos (weight per) *ℤ summed (price per xs all c) per

abbrev pub faulty : Cause → ℤ → Result ℤ SourceFault
faulty cause l = Err (record { cause = cause; location = l })

abbrev pub feed_meaning : ℕ → List ℤ → ℕ → ℕ → ℤ → ℤ → Result ℤ SourceFault
feed_meaning per xs m n l h =
    cond (outside m n l h) (faulty Outside l)
    (cond (published xs (cell n l h)) (Ok (average per xs (m * n) (cell n l h))) (faulty Missing l))

abbrev pub Stands : ℕ → List ℤ → ℕ → Type 0
Stands per xs all = (k : ℕ) → k < all + all * per → 2 + k < length xs

abbrev pub Priced : ℕ → List ℤ → ℕ → Type 0
Priced per xs all = (k : ℕ) → k < all * per → Bounded (negsuc 999999) (pos 1000000) (num xs (2 + all + k))
