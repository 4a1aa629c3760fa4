-- The entry that is written has the price, and the others are as they were.
use Rattle.std.proofs.Common.{◌<◌, length, sym, ◌∙◌, w64, rules}
use Rattle.std.proofs.lemmas.Int.{to_z-of_z}
use Rattle.reference.proofs.Table.{posted_one}
use Rattle.reference.proofs.posted.Posted.post.Goals as goal

pub returns : goal.returns
returns c =
    let l = to_z-of_z w64 c.args.location c.ranges.location in
    let z = to_z-of_z w64 c.args.price c.ranges.price in
    let among = simp l at c.in-Some.ensures in
    let fits = simp z at c.is_reference.ensures in
    let new = simp z at c.post.ensures.posted in
    let within : c.in-Some.i < length c.args.self.now.entries = search rules in
    posted_one c.args.self.now.entries c.args.location c.in-Some.i c.index-self-i.result among.0 among.1 within c.args.side c.args.price c.post.new.self
    (sym fits ∙ c.if-not-is_reference.false) new c.post.ensures.kept
