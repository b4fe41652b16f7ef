-- The word is sought from this byte on.
use Rattle.std.proofs.Common.{◌≡◌, ◌-◌, ◌≤◌, length, drop}
use Rattle.ml_pgsolver.specs.private.WordSearch.{word_from, word_sought}
use Rattle.ml_pgsolver.proofs.checked.word_place.Given as goal

abbrev pub invariant-loop-at : goal.invariant-loop-at
invariant-loop-at l = (l.at ≤ length l.text) × (word_sought l.text ≡ word_from 0 l.at (drop l.at l.text))

abbrev pub decreases-loop-at : goal.decreases-loop-at
decreases-loop-at l = length l.text - l.at
