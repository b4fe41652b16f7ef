-- What a sign does to a form doesn't depend on its name.
--
--   alike  == signs of one kind do the same, but for what they make
use Rattle.std.specs.Prelude.{ℕ, List, refl}
use Rattle.ml_text.specs.SignKinds.{named}
use Rattle.ml_text.specs.declared.named_signs.Sign.{Sign}
use Rattle.ml_text.specs.declared.named_signs.Sign.TheVariants.{Lower, Upper}
use Rattle.ml_text.specs.private.Tables.{IsLike}
use Rattle.ml_text.proofs.NamedSigns.{alike_by}
use Rattle.ml_ctl.specs.declared.language.Language.{Language}
use Rattle.ml_ctl.specs.declared.signs.Own.{Own}
use Rattle.ml_ctl.specs.private.Tables.{Start, BehindInside, ctl_grammar}

lower_alike : (w : Language) (p q : List ℕ) → IsLike (ctl_grammar w) (Lower p) (Lower q)
lower_alike w p q = record {
  role = λ s. refl;
  shift = elim [
    | Start s ↦ refl
    | BehindInside f ↦ refl
  ];
  post = λ v. refl;
}

upper_alike : (w : Language) (p q : List ℕ) → IsLike (ctl_grammar w) (Upper p) (Upper q)
upper_alike w p q = record {
  role = λ s. refl;
  shift = elim [
    | Start s ↦ refl
    | BehindInside f ↦ refl
  ];
  post = λ v. refl;
}

pub alike : (w : Language) (k : Sign (Unit {0}) Own) (word other : List ℕ)
    → IsLike (ctl_grammar w) (named k word) (named k other)
alike w = alike_by (ctl_grammar w) (λ s. s) (lower_alike w) (upper_alike w)
