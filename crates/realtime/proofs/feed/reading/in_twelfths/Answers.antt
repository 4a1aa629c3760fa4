-- A weight of at most 12 keeps the product within 64 bits.
use Rattle.std.proofs.Common.{ℤ, ◌*ℤ◌, sym, ap, ◌∙◌, subst, w64, SFits, rules}
use Rattle.std.proofs.lemmas.Int.{to_z-of_z}
use Rattle.realtime.proofs.Sums.{weighed_fits}
use Rattle.realtime.proofs.feed.reading.in_twelfths.Goals as goal

fits : (c : goal.After-weight_of) → SFits w64 (c.weight_of.result *ℤ c.args.sum)
fits c =
    subst (λ (z : ℤ). SFits w64 (z *ℤ c.args.sum)) (sym c.weight_of.ensures) (weighed_fits c.args.per c.args.sum c.requires.low c.requires.high)

pub overflow_mul-result : goal.overflow_mul-result
overflow_mul-result c =
    let f : SFits w64 c.weight_of.result = search rules in
    simp (to_z-of_z w64 c.weight_of.result f, to_z-of_z w64 c.args.sum c.ranges.sum) (fits c)

pub returns : goal.returns
returns c =
    let f : SFits w64 c.weight_of.result = search rules in
    simp (to_z-of_z w64 c.weight_of.result f, to_z-of_z w64 c.args.sum c.ranges.sum)
    (to_z-of_z w64 (c.weight_of.result *ℤ c.args.sum) (fits c) ∙ ap (λ (z : ℤ). z *ℤ c.args.sum) c.weight_of.ensures)
