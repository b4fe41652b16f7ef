-- What a sign does to a form doesn't depend on its name.
--
--   alike  == signs of one kind do the same, but for what they make
use Rattle.std.specs.Prelude.{ℕ, List, refl}
use Rattle.ml_text.specs.SignKinds.{named}
use Rattle.ml_text.specs.declared.named_signs.Sign.{Sign}
use Rattle.ml_text.specs.private.Tables.{IsLike}
use Rattle.ml_text.proofs.NamedSigns.{alike_by}
use Rattle.ml_pdl.specs.declared.term.Modality.TheVariants.{Diamond}
use Rattle.ml_text.specs.declared.named_signs.Sign.TheVariants.{Lower, Upper}
use Rattle.ml_pdl.specs.declared.signs.Own.{Own}
use Rattle.ml_pdl.specs.Tables.{BehindBegin, BehindProgram, Formulas, Programs, pdl_grammar}

lower_alike : (p q : List ℕ) → IsLike pdl_grammar (Lower p) (Lower q)
lower_alike p q = record {
  role = elim [
    | Formulas ↦ refl
    | Programs ↦ refl
  ];
  shift = elim [
    | BehindBegin Diamond ↦ refl
    | BehindProgram Diamond a ↦ refl
    | _ ↦ refl
  ];
  post = λ v. refl;
}

upper_alike : (p q : List ℕ) → IsLike pdl_grammar (Upper p) (Upper q)
upper_alike p q = record {
  role = elim [
    | Formulas ↦ refl
    | Programs ↦ refl
  ];
  shift = elim [
    | BehindBegin Diamond ↦ refl
    | BehindProgram Diamond a ↦ refl
    | _ ↦ refl
  ];
  post = λ v. refl;
}

pub alike : (k : Sign (Unit {0}) Own) (word other : List ℕ) → IsLike pdl_grammar (named k word) (named k other)
alike = alike_by pdl_grammar (λ s. s) lower_alike upper_alike
