-- The product fits, since both factors are bounded.
use Rattle.std.proofs.Common.{◌≤◌, ◌*◌, ◌*ℤ◌, ◌-ℤ◌, ℤ, pos, neg_ℤ, ◌≤ℤ◌, arith, w64, SFits, mul-le-mul, unsigned_abs}
use Rattle.std.proofs.lemmas.Int.{ints, to_z-of_z, unsigned_abs-mul}
use Rattle.leaves.proofs.awards.supply_gain.Goals as goal

within : (q d a : ℤ) → (pos 0 ≤ℤ q) × (q ≤ℤ pos 10000) → (neg_ℤ (pos 1000000) ≤ℤ d) × (d ≤ℤ pos 1000000) → (neg_ℤ (pos 12000000) ≤ℤ a) × (a ≤ℤ pos 12000000)
    → unsigned_abs (q *ℤ ((pos 12 *ℤ d) -ℤ a)) ≤ 10000 * 24000000
within q d a g h i =
    let u : unsigned_abs q ≤ 10000 = omega (arith, ints) in
    let v : unsigned_abs ((pos 12 *ℤ d) -ℤ a) ≤ 24000000 = omega (arith, ints) in
    rw unsigned_abs-mul (mul-le-mul u v)

pub returns : goal.returns
returns c =
    let k = within _ _ _ c.value.ensures.within c.value-2.ensures.within c.value-3.ensures.within in
    let i : SFits w64 (pos 12 *ℤ c.value-2.result) = omega (arith, ints) in
    let j : SFits w64 ((pos 12 *ℤ c.value-2.result) -ℤ c.value-3.result) = omega (arith, ints) in
    let m : SFits w64 (c.value.result *ℤ ((pos 12 *ℤ c.value-2.result) -ℤ c.value-3.result)) = omega (arith, ints) in
    record { value = grind (arith, to_z-of_z); least = grind (arith, ints, to_z-of_z) }

pub overflow_mul-result-2 : goal.overflow_mul-result-2
overflow_mul-result-2 c =
    let k = within _ _ _ c.value.ensures.within c.value-2.ensures.within c.value-3.ensures.within in
    let i : SFits w64 (pos 12 *ℤ c.value-2.result) = omega (arith, ints) in
    let j : SFits w64 ((pos 12 *ℤ c.value-2.result) -ℤ c.value-3.result) = omega (arith, ints) in
    let m : SFits w64 (c.value.result *ℤ ((pos 12 *ℤ c.value-2.result) -ℤ c.value-3.result)) = omega (arith, ints) in
    grind (arith, to_z-of_z)
