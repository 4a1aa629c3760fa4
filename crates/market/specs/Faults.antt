-- The number, the place and the layer of each refusal. Assumes nothing.
--   fault_number f  the number of the question that said no
--   fault_place f   where: a position, a number, an index or a length, by the question
--   fault_layer f   who refuses
use Rattle.std.specs.Prelude.{ℕ, ℤ}
use Rattle.market.specs.declared.words.Layer.{Layer}
use Rattle.market.specs.declared.words.Layer.TheVariants.{Book, Policy, RealTime}
use Rattle.market.specs.declared.fault.Fault.{Fault}
use Rattle.market.specs.declared.fault.Fault.TheVariants.{BadArgument, Unknown, NotStanding, WrongStage, NoPlaceFree, NoPrice, OverCredit, BadCurve, OverHeld, SecondBid, PathUnrated, OverPosition, HoldStands, NoAverage, AlreadyAdjusted}

abbrev pub fault_number : Fault → ℕ
fault_number (BadArgument layer place) = 1
fault_number (Unknown number) = 2
fault_number (NotStanding number) = 3
fault_number (WrongStage hour) = 4
fault_number (NoPlaceFree places) = 5
fault_number (NoPrice below) = 6
fault_number (OverCredit account) = 7
fault_number (BadCurve segment) = 8
fault_number (OverHeld highest) = 9
fault_number (SecondBid bid) = 10
fault_number (PathUnrated location) = 11
fault_number (OverPosition location) = 12
fault_number (HoldStands hold) = 13
fault_number (NoAverage below) = 14
fault_number (AlreadyAdjusted constraint) = 15

abbrev pub fault_place : Fault → ℤ
fault_place (BadArgument layer place) = place
fault_place (Unknown number) = number
fault_place (NotStanding number) = number
fault_place (WrongStage hour) = hour
fault_place (NoPlaceFree places) = places
fault_place (NoPrice below) = below.asked
fault_place (OverCredit account) = account
fault_place (BadCurve segment) = segment
fault_place (OverHeld highest) = highest
fault_place (SecondBid bid) = bid
fault_place (PathUnrated location) = location
fault_place (OverPosition location) = location
fault_place (HoldStands hold) = hold
fault_place (NoAverage below) = below.asked
fault_place (AlreadyAdjusted constraint) = constraint

-- refusal 1 comes from the book, from a policy's check or from a feed's
abbrev pub fault_layer : Fault → Layer
fault_layer (BadArgument layer place) = layer
fault_layer (Unknown number) = Book
fault_layer (NotStanding number) = Book
fault_layer (WrongStage hour) = Book
fault_layer (NoPlaceFree places) = Book
fault_layer (NoPrice below) = Policy
fault_layer (OverCredit account) = Book
fault_layer (BadCurve segment) = Book
fault_layer (OverHeld highest) = Book
fault_layer (SecondBid bid) = Book
fault_layer (PathUnrated location) = Book
fault_layer (OverPosition location) = Book
fault_layer (HoldStands hold) = Book
fault_layer (NoAverage below) = RealTime
fault_layer (AlreadyAdjusted constraint) = Book
