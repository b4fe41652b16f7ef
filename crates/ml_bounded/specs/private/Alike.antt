-- What a sign does to a form doesn't depend on its name.
--
--   alike  == signs of one kind do the same, but for what they make
use Rattle.std.specs.Prelude.{ℕ, List, refl}
use Rattle.ml_text.specs.SignKinds.{named}
use Rattle.ml_text.specs.declared.named_signs.Sign.{Sign}
use Rattle.ml_text.specs.declared.named_signs.Sign.TheVariants.{Lower, Upper}
use Rattle.ml_text.specs.private.Tables.{IsLike}
use Rattle.ml_text.proofs.NamedSigns.{alike_by}
use Rattle.ml_bounded.specs.declared.signs.Own.{Own}
use Rattle.ml_bounded.specs.private.Tables.{Start, BehindInside, BehindTense, BehindOpening, BehindFirst, BehindBetween}
use Rattle.ml_bounded.specs.private.Tables.{BehindLast, bounded_grammar}

lower_alike : (p q : List ℕ) → IsLike bounded_grammar (Lower p) (Lower q)
lower_alike p q = record {
  role = λ s. refl;
  shift = elim [
    | Start ↦ refl
    | BehindInside f ↦ refl
    | BehindTense t ↦ refl
    | BehindOpening t ↦ refl
    | BehindFirst r m ↦ refl
    | BehindBetween r m ↦ refl
    | BehindLast b ↦ refl
  ];
  post = λ v. refl;
}

upper_alike : (p q : List ℕ) → IsLike bounded_grammar (Upper p) (Upper q)
upper_alike p q = record {
  role = λ s. refl;
  shift = elim [
    | Start ↦ refl
    | BehindInside f ↦ refl
    | BehindTense t ↦ refl
    | BehindOpening t ↦ refl
    | BehindFirst r m ↦ refl
    | BehindBetween r m ↦ refl
    | BehindLast b ↦ refl
  ];
  post = λ v. refl;
}

pub alike : (k : Sign (Unit {0}) Own) (word other : List ℕ) → IsLike bounded_grammar (named k word) (named k other)
alike = alike_by bounded_grammar (λ s. s) lower_alike upper_alike
