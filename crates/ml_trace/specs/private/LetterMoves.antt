-- The transitions of a letter, in the order in which `letter_of` makes them: those of triples with one target state by
-- state, so that a letter of triples that stand by their targets stands by its targets.
--
--   plain_move odds t        == the transition without a guess, along the triple t
--   move_at odds t j         == those to the guess of the odd priority with the index j
--   rows_below odds ts n     == those of the triples ts without a guess, and then those for each index below n
--   rows odds ts             == all those of the triples ts
use Rattle.std.specs.Prelude.{ℕ, zero, suc, ◌+◌, ◌*◌, false, ◌==◌, nat_le, if◌then◌else◌, List, [], ◌∷◌, ◌++◌, length, map, slice_index}
use Rattle.std.specs.List.{flat_map}
use Rattle.ml_trace.specs.declared.letters.Transition.{Transition}
use Rattle.ml_trace.specs.declared.letters.Triple.{Triple}
use Rattle.ml_trace.specs.Automaton.{states_per_node}

-- the number of the state without a guess
abbrev pub plain : List ℕ → ℕ → ℕ
plain odds n = n * states_per_node odds

-- the one without a guess
abbrev pub plain_move : List ℕ → Triple → Transition
plain_move odds t = record { from = plain odds t.from; to = plain odds t.to; accepting = false }

-- those to the guess of the odd priority with the index j
abbrev pub move_at : List ℕ → ℕ → Triple → List Transition
move_at odds j t =
    record { from = plain odds t.from; to = plain odds t.to + (j + 1); accepting = false }
    ∷
    (if nat_le (slice_index odds j) t.lowest then record
    { from = plain odds t.from + (j + 1); to = plain odds t.to + (j + 1); accepting = slice_index odds j == t.lowest }
    ∷ [] else [])

-- those of the triples without a guess, and then those for each index below n
abbrev pub rows_below : List ℕ → List Triple → ℕ → List Transition
rows_below odds ts zero = map (plain_move odds) ts
rows_below odds ts (suc j) = rows_below odds ts j ++ flat_map (move_at odds j) ts

-- all those of the triples
abbrev pub rows : List ℕ → List Triple → List Transition
rows odds ts = rows_below odds ts (length odds)
