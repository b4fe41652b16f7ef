-- How many tokens stand behind the last `;`.
--
--   place_grows  == one token more at most
use Rattle.std.proofs.Common.{ℕ, ◌+◌, ◌≤◌, arith}
use Rattle.ml_pgsolver.specs.declared.scan.Sign.{Sign}
use Rattle.ml_pgsolver.specs.declared.scan.Sign.TheVariants as sign
use Rattle.ml_pgsolver.specs.private.Assembled.{sign_place}

pub place_grows : (n : ℕ) (t : Sign) → sign_place n t ≤ n + 1
place_grows n (sign.Number m) = omega arith
place_grows n sign.Name = omega arith
place_grows n sign.Parity = omega arith
place_grows n sign.Comma = omega arith
place_grows n sign.Semicolon = omega arith
place_grows n sign.Stray = omega arith
