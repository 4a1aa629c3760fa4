-- A number out of bounds in one of the blocks is the first of the list, since the sizes and what stands before it fit.
use Rattle.std.proofs.Common.{◌≡◌, ◌+◌, length, take, drop, sym, ap, ◌∙◌, rules, arith}
use Rattle.std.specs.Prelude.{position}
use Rattle.std.proofs.lemmas.List.{length-drop, take_all}
use Rattle.lists.specs.Lists.{second_from, whole_length, out_of}
use Rattle.lists.proofs.Blocks.{second_begins, list_ends, refused_in_first, refused_in_second, passed_both}
use Rattle.lists.proofs.layout.Layout.check.Goals as goal
use Rattle.lists.proofs.layout.Layout.check.Goals.{After-length, After-first_outside, After-first_outside-2}

begins : (c : After-length) → 2 + c.length-begins.result ≡ second_from c.args.self.now c.args.list.now
begins c =
    let read = c.in_ok-sizes.ensures.read in
    second_begins c.args.self.now c.args.list.now c.in_ok-sizes.sizes _ _ read.1 read.2 c.length-begins.ensures.value c.length.ensures.value

whole : (c : After-length) → length c.in_ok-sizes.numbers.now ≡ c.length-begins.result + c.length.result → length c.args.list.now ≡ whole_length c.args.self.now c.args.list.now
whole c e =
    let read = c.in_ok-sizes.ensures.read in
    omega (
      arith,
      list_ends c.args.self.now c.args.list.now c.in_ok-sizes.sizes _ _ read.1 read.2 c.length-begins.ensures.value c.length.ensures.value,
      ap length c.in_ok-sizes.ensures.rest,
      length-drop 2 c.args.list.now,
      read.0.two,
      e,
    )

-- what is looked for in a block is looked for in the list
in_first : (c : After-first_outside) → position (out_of c.args.self.now.first.low c.args.self.now.first.high) (take c.length-begins.result (drop 2 c.args.list.now)) ≡ c.first_outside.result
in_first c =
    let front = c.split_at.ensures.front ∙ ap (take c.length-begins.result) c.in_ok-sizes.ensures.rest in
    let looked : position (out_of c.args.self.now.first.low c.args.self.now.first.high) c.split_at.result.0.now ≡ c.first_outside.result = search (rules, take_all) in
    ap (position (out_of c.args.self.now.first.low c.args.self.now.first.high)) (sym front) ∙ looked

in_second : (c : After-first_outside-2) → position (out_of c.args.self.now.second.low c.args.self.now.second.high) (drop c.length-begins.result (drop 2 c.args.list.now)) ≡ c.first_outside-2.result
in_second c =
    ap (position (out_of c.args.self.now.second.low c.args.self.now.second.high)) (sym (c.split_at.ensures.back ∙ ap (drop c.length-begins.result) c.in_ok-sizes.ensures.rest))
    ∙ sym c.first_outside-2.ensures

pub returns-in-Some : goal.returns-in-Some
returns-in-Some c =
    let here = (goal.at.returns-in-Some c).After-length in
    let there = (goal.at.returns-in-Some c).After-first_outside in (
      2 + c.in-Some.index,
      refused_in_first c.args.self.now c.args.list.now c.in_ok-sizes.ensures.read.0 c.length-begins.result (begins here) (whole here c.if-numbers-begins.false)
          c.in-Some.index (in_first there ∙ c.in-Some.is),
      c.refused_at-in-Some.ensures,
    )

pub returns-in-Some-first_outside : goal.returns-in-Some-first_outside
returns-in-Some-first_outside c =
    let here = (goal.at.returns-in-Some-first_outside c).After-length in
    let there = (goal.at.returns-in-Some-first_outside c).After-first_outside in
    let beyond = (goal.at.returns-in-Some-first_outside c).After-first_outside-2 in (
      2 + c.length-begins.result + c.in-Some-first_outside.index,
      refused_in_second c.args.self.now c.args.list.now c.in_ok-sizes.ensures.read.0 c.length-begins.result (begins here) (whole here c.if-numbers-begins.false)
          (in_first there ∙ c.in_default.is) c.in-Some-first_outside.index (in_second beyond ∙ c.in-Some-first_outside.is),
      c.refused_at-in-Some-first_outside.ensures,
    )

pub returns : goal.returns
returns c =
    let here = (goal.at.returns c).After-length in
    let there = (goal.at.returns c).After-first_outside in
    let beyond = (goal.at.returns c).After-first_outside-2 in
    let read = c.in_ok-sizes.ensures.read in
    passed_both c.args.self.now c.args.list.now read.0 c.length-begins.result (begins here) (whole here c.if-numbers-begins.false) (in_first there ∙ c.in_default.is) c.in_ok-sizes.sizes read.1
    read.2 (in_second beyond ∙ c.in_default-first_outside.is)
