-- What a vector holds when a slice of it, which was written, comes back.
--
--   handed_back == it holds what the slice does
use Rattle.std.proofs.Common.{ℕ, ◌≡◌, List, ◌++◌, length, take, drop, arith, ◌∙◌}
use Rattle.std.proofs.lemmas.List.{take-append-le, take_all}

pub handed_back : {X : Type 0} (n : ℕ) (new old : List X) → n ≡ length old → length new ≡ length old
    → take n (new ++ drop (length new) old) ≡ new
handed_back n new old long same =
    take-append-le n new (drop (length new) old) (omega arith) ∙ take_all n new (omega arith)
