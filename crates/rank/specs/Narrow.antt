-- Elements strictly between two, where these are given. Assumes nothing.
--   over before low x           x goes after low, where that is given
--   under before high x         x goes before high, where that is given
--   between before gap x        x goes after the lower end of the gap and before its upper end
--   Between before gap xs r     r is an element of the list between the two, or none where there is none
use Rattle.std.specs.Prelude.{◌≡◌, Bool, true, false, ◌&&◌, List, Some, None, Option}
use Rattle.std.specs.List.{ContainsAt, AllByRecursion}
use Rattle.rank.specs.declared.pick.Gap.{Gap}

abbrev pub over : {X : Type 0} → (X → X → Bool) → Option X → X → Bool
over before None x = true
over before (Some l) x = before l x

abbrev pub under : {X : Type 0} → (X → X → Bool) → Option X → X → Bool
under before None x = true
under before (Some h) x = before x h

abbrev pub between : {X : Type 0} → (X → X → Bool) → Gap X → X → Bool
between before gap x = over before gap.low x && under before gap.high x

abbrev pub Between : {X : Type 0} → (X → X → Bool) → Gap X → List X → Option X → Type 0
Between before gap xs None = AllByRecursion (λ x. between before gap x ≡ false) xs
Between before gap xs (Some x) = ContainsAt xs x × (between before gap x ≡ true)
