use Rattle.std.proofs.Common.{ℕ, ◌≡◌, true, false, length, slice_index_or}
use Rattle.ml_search.proofs.checking_models.one_flag.Given as goal

abbrev pub invariant-loop-i : goal.invariant-loop-i
invariant-loop-i l =
    (length l.flags.items ≡ l.i) × ((t : ℕ) → slice_index_or l.flags.items t false ≡ true → t ≡ l.place)
