-- What a sign does to a form doesn't depend on its name.
--
--   alike  == signs of one kind do the same, but for what they make
use Rattle.std.specs.Prelude.{ℕ, List, refl}
use Rattle.ml_text.specs.SignKinds.{named}
use Rattle.ml_text.specs.declared.named_signs.Sign.{Sign}
use Rattle.ml_text.specs.private.Tables.{IsLike}
use Rattle.ml_text.proofs.NamedSigns.{alike_by}
use Rattle.ml_mu.specs.Formula.{Diamond}
use Rattle.ml_text.specs.declared.named_signs.Sign.TheVariants.{Lower, Upper}
use Rattle.ml_mu.specs.declared.signs.Own.{Own}
use Rattle.ml_mu.specs.private.Tables.{BehindBegin, BehindAction, mu_grammar}

lower_alike : (p q : List ℕ) → IsLike mu_grammar (Lower p) (Lower q)
lower_alike p q = record {
  role = λ s. refl;
  shift = elim [
    | BehindBegin Diamond ↦ refl
    | BehindAction Diamond a ↦ refl
    | _ ↦ refl
  ];
  post = λ v. refl;
}

upper_alike : (p q : List ℕ) → IsLike mu_grammar (Upper p) (Upper q)
upper_alike p q = record {
  role = λ s. refl;
  shift = elim [
    | BehindBegin Diamond ↦ refl
    | BehindAction Diamond a ↦ refl
    | _ ↦ refl
  ];
  post = λ v. refl;
}

pub alike : (k : Sign (Unit {0}) Own) (word other : List ℕ) → IsLike mu_grammar (named k word) (named k other)
alike = alike_by mu_grammar (λ s. s) lower_alike upper_alike
