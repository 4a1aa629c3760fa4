-- The product fits, since both factors are bounded.
use Rattle.std.proofs.Common.{arith, w64, lit<}
use Rattle.std.proofs.lemmas.Int.{ints, to_z-of_z, fits_signed_mul}
use Rattle.leaves.proofs.credit.charge_of.Goals as goal

pub returns : goal.returns
returns c =
    let f = fits_signed_mul w64 c.value.result c.value-2.result 10000 24000000 (omega (arith, ints)) (omega (arith, ints)) (lit< tt) in
    grind (arith, to_z-of_z)
