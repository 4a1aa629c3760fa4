use Rattle.std.proofs.Common.{vec_items}
use Rattle.std.specs.Str.Iter.{split_whitespace_rest}
use Rattle.numerals.specs.Numbers.{Spelt}
use Rattle.numerals.proofs.read_numbers.Given as goal

abbrev pub invariant-loop-word : goal.invariant-loop-word
invariant-loop-word l = Spelt l.text (vec_items l.numbers) (split_whitespace_rest l.word-iterator)
