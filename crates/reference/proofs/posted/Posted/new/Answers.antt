-- Every entry of an empty table is empty.
use Rattle.std.proofs.Common.{◌-◌, cond, ℤ, nat_abs, Err, Option, refl, ap}
use Rattle.market.specs.declared.fault.Cause.TheVariants.{Outside}
use Rattle.reference.specs.Prices.{fault}
use Rattle.reference.specs.Posted.{in_table, price_in}
use Rattle.reference.proofs.Table.{none_posted}
use Rattle.reference.proofs.posted.Posted.new.Goals as goal

pub returns : goal.returns
returns c l s = ap (λ (o : Option ℤ). cond (in_table l) (price_in l o) (Err (fault Outside l))) (none_posted _ refl refl 64 (nat_abs l - 1) s)
