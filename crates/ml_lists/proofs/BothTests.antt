-- Two tests together.
--
--   both_keep   == where each of two tests passes what another one passes, both together do so too
use Rattle.std.proofs.Common.{◌≡◌, Bool, true, ◌&&◌}
use Rattle.std.proofs.lemmas.Bool.{and_from, and_parts}

pub both_keep : (a b c d : Bool)
    → (a ≡ true → c ≡ true)
    → (b ≡ true → d ≡ true)
    → (a && b) ≡ true
    → (c && d) ≡ true
both_keep a b c d one other both =
    let parts = and_parts a b both in and_from c d (one parts.0) (other parts.1)
