-- Each word that is read is a number more, and the rest of the text is what is left to the iterator; a word that fails to parse is no number.
use Rattle.std.proofs.Common.{◌≡◌, false, List, ℤ, Ok, Err, is_ok, vec_items, sym, ap, ◌∙◌, subst, w32, SFits, rules, arith}
use Rattle.std.proofs.lemmas.Grind.{common_steps}
use Rattle.std.proofs.lemmas.Int.{to_z-of_z}
use Rattle.std.specs.Str.Iter.{split_whitespace_rest}
use Rattle.numerals.specs.Numbers.{Spelt}
use Rattle.numerals.specs.declared.BadText.TheVariants.{NotANumber}
use Rattle.numerals.proofs.Words.{next_word, spelt_more, is_number-from_parse, not_number-from_parse}
use Rattle.numerals.proofs.read_numbers.Goals as goal

pub loop-word-init : goal.loop-word-init
loop-word-init c =
    let whole = ap split_whitespace_rest c.into_iter-word-iterator.ensures.into_iter_gives ∙ c.split_whitespace-word-items.ensures.rest in
    subst (λ (xs : List ℤ). Spelt c.args.text.now xs (split_whitespace_rest c.into_iter-word-iterator.result)) (sym c.new-numbers.ensures.items) (sym whole)

pub loop-word-preserved : goal.loop-word-preserved
loop-word-preserved c =
    let first = next_word _ c.in-Some.word.now _ c.in-Some.ensures.steps in
    let f : SFits w32 c.in_ok-number.number = search rules in
    let parsed : c.parse.result ≡ Ok c.in_ok-number.number = grind (arith, common_steps, c.in_ok-number.ensures.cases, c.in_ok-number.ensures.variant) in
    rw (c.in_ok-push.ensures.items, to_z-of_z w32 c.in_ok-number.number f)
    (spelt_more c.args.text.now (vec_items c.loop-word.numbers) _ c.in-Some.word.now _ c.in_ok-number.number c.loop-word.invariant first (is_number-from_parse c.in-Some.word.now _ _ c.parse.ensures.value.0 parsed f))

pub returns-in_err-number : goal.returns-in_err-number
returns-in_err-number c =
    let first = next_word _ c.in-Some.word.now _ c.in-Some.ensures.steps in
    let is : c.from_residual.result ≡ Err (NotANumber c.loop-word.numbers.len) = search rules in
    let failed : is_ok c.parse.result ≡ false = sym c.in_err-number.ensures.variant in
    rw is (
      vec_items c.loop-word.numbers,
      sym c.loop-word.numbers.ok.0,
      (
        split_whitespace_rest c.loop-word.word-iterator,
        c.in-Some.word.now,
        split_whitespace_rest c.next.new.self,
        c.loop-word.invariant,
        first,
        not_number-from_parse c.in-Some.word.now _ c.parse.ensures.value.0 failed,
      ),
    )

pub returns : goal.returns
returns c = (split_whitespace_rest c.loop-word.word-iterator, c.loop-word.invariant, c.in-None.ensures.steps.1)
