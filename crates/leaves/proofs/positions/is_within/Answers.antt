-- In 128 bits the products are exact.
use Rattle.std.proofs.Common.{◌≤◌, ◌^◌, ℤ, pos, ◌+ℤ◌, ◌*ℤ◌, w64, SFits, rules, arith, lit<, unsigned_abs}
use mir.Syntax.{w128}
use Rattle.std.proofs.lemmas.Int.{ints, to_z-of_z, fits_signed_mul}
use Rattle.leaves.proofs.positions.is_within.Goals as goal

magnitude : (z : ℤ) → SFits w64 z → unsigned_abs z ≤ 2 ^ 63
magnitude z f = omega (arith, ints)

pub returns-in-Some : goal.returns-in-Some
returns-in-Some c =
    let q : SFits w64 c.in-Some.percent = search rules in
    let t : SFits w128 ((c.args.position +ℤ c.args.highest) *ℤ pos 100) = omega (arith, ints) in
    let m = fits_signed_mul w128 c.in-Some.percent c.args.limit (2 ^ 63) (2 ^ 63) (magnitude _ q) (magnitude _ c.ranges.limit) (lit< tt) in
    grind (arith, to_z-of_z)
