use Rattle.std.proofs.Common.{◌≡◌, ◌≤◌, ◌-◌, length, slice_get}
use Rattle.ml_text.specs.Tokens.{tokens_from}
use Rattle.ml_written.specs.private.LowerWords.{lower_places, words_of}
use Rattle.ml_written.proofs.places.place_of.Given as goal

abbrev pub invariant-loop-placed : goal.invariant-loop-placed
invariant-loop-placed l =
    (l.from ≤ length l.text)
    × (slice_get (lower_places l.logic l.text (tokens_from (words_of l.logic) l.text l.from)) l.left
    ≡ slice_get (lower_places l.logic l.text (tokens_from (words_of l.logic) l.text 0)) l.number)

abbrev pub decreases-loop-placed : goal.decreases-loop-placed
decreases-loop-placed l = length l.text - l.from
