-- The letters of the valuations so far.
use Rattle.std.proofs.Common.{map}
use Rattle.std.specs.List.{range_with_len}
use Rattle.ml_buchi.specs.Valuations.{SameLetters, letter_of}
use Rattle.ml_buchi.proofs.making.letters.Given as goal

abbrev pub invariant-loop-valuation : goal.invariant-loop-valuation
invariant-loop-valuation l = SameLetters (map (letter_of l.automaton) (range_with_len 0 l.valuation)) l.letters.items
