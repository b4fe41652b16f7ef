-- Answers of comparisons, one after the other.
--
--   both_tied == two comparisons that tie together tie each
use Rattle.std.proofs.Common.{◌≡◌, Ordering, refl}
use Rattle.std.specs.Ordering.{ordering_then}
use Rattle.std.specs.declared.cmp.Ordering.TheVariants.{Less, Equal, Greater}

pub both_tied : (o p : Ordering) → ordering_then o p ≡ Equal → (o ≡ Equal) × (p ≡ Equal)
both_tied Less p e = cc
both_tied Equal p e = (refl, e)
both_tied Greater p e = cc
