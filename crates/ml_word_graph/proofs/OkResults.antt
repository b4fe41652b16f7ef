-- What is told of results.
--
--   ok_three  == what follows from three things that are told of a result, where it is one
use Rattle.std.proofs.Common.{Result, Ok, Err, IfOk}

pub ok_three : {A E : Type 0} (r : Result A E) (P Q R S : A → Type 0)
    → ((a : A) → P a → Q a → R a → S a)
    → IfOk r P
    → IfOk r Q
    → IfOk r R
    → IfOk r S
ok_three (Ok a) P Q R S more p q r = more a p q r
ok_three (Err e) P Q R S more p q r = tt
