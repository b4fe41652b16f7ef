-- A text has exactly one answer in each logic.
--
--   PlainOf l, written l e == the formulas of the logic l; such a formula as one that is written
--   one_answer             == a text is written as one formula of a logic, or refused in one way
use Rattle.std.proofs.Common.{◌≡◌, ◌≢◌, ◌⊎◌, ℕ, List, inl, inr, refl, sym, ap, subst, ◌∙◌}
use Rattle.ml_base.specs.declared.parse_refusal.ParseRefusal.{ParseRefusal}
use Rattle.ml_base.specs.declared.parse_refusal.ParseRefusal.TheVariants as refusal
use Rattle.ml_bounded.proofs.OneAnswer as bounded_answer
use Rattle.ml_bounded.specs.Formula as bounded
use Rattle.ml_ctl.proofs.OneAnswer as ctl_answer
use Rattle.ml_ctl.specs.Formula as ctl
use Rattle.ml_ctl.specs.declared.language.Language.TheVariants as language
use Rattle.ml_front.specs.declared.logic.Logic.{Logic}
use Rattle.ml_front.specs.declared.logic.Logic.TheVariants as logic
use Rattle.ml_mu.proofs.OneAnswer as mu_answer
use Rattle.ml_mu.specs.Formula as mu
use Rattle.ml_pdl.proofs.OneAnswer as pdl_answer
use Rattle.ml_pdl.specs.Formula as pdl
use Rattle.ml_text.specs.Answers.{HaveOneAnswer}
use Rattle.ml_written.specs.Written.{IsRefusedIn, IsWrittenAs, written_logic}
use Rattle.ml_written.specs.declared.written.Written.{Written}
use Rattle.ml_written.specs.declared.written.Written.TheVariants.{Mu, Pdl, Ctl, Ltl, Word}

abbrev PlainOf : Logic → Type 0
PlainOf logic.Mu = mu.Formula
PlainOf logic.Pdl = pdl.Formula
PlainOf logic.Ctl = ctl.Formula
PlainOf logic.Ltl = bounded.Formula
PlainOf logic.Word = bounded.Formula

abbrev written : (l : Logic) → PlainOf l → Written
written logic.Mu e = Mu e
written logic.Pdl e = Pdl e
written logic.Ctl e = Ctl e
written logic.Ltl e = Ltl e
written logic.Word e = Word e

of_written : (l : Logic) (e : PlainOf l) → written_logic (written l e) ≡ l
of_written logic.Mu e = refl
of_written logic.Pdl e = refl
of_written logic.Ctl e = refl
of_written logic.Ltl e = refl
of_written logic.Word e = refl

abbrev IsPlain : Written → Logic → Type 0
IsPlain w l = (e : PlainOf l) × (w ≡ written l e)

is_plain : (w : Written) → IsPlain w (written_logic w)
is_plain (Mu e) = (e, refl)
is_plain (Pdl e) = (e, refl)
is_plain (Ctl e) = (e, refl)
is_plain (Ltl e) = (e, refl)
is_plain (Word e) = (e, refl)

of_logic : (l : Logic) (w : Written) → written_logic w ≡ l → IsPlain w l
of_logic l w same = subst (IsPlain w) same (is_plain w)

answers : (l : Logic) → HaveOneAnswer (λ text (e : PlainOf l). IsWrittenAs text (written l e)) (IsRefusedIn l)
answers logic.Mu = mu_answer.one_answer
answers logic.Pdl = pdl_answer.one_answer
answers logic.Ctl = ctl_answer.one_answer language.Ctl
answers logic.Ltl = bounded_answer.one_answer
answers logic.Word = bounded_answer.one_answer

abbrev IsOne : Logic → List ℕ → Written → Type 0
IsOne l text w = (written_logic w ≡ l) × IsWrittenAs text w

-- a text that is refused for a reason of its own
abbrev IsRefused : Logic → List ℕ → Type 0
IsRefused l text = (e : ParseRefusal) × (e ≢ refusal.NoMemory) × IsRefusedIn l text e

some_written : (l : Logic) (text : List ℕ)
    → ((e : PlainOf l) × IsWrittenAs text (written l e)) ⊎ IsRefused l text
    → ((w : Written) × IsOne l text w) ⊎ IsRefused l text
some_written l text (inl (e, is)) = inl (written l e, (of_written l e, is))
some_written l text (inr refused) = inr refused

one_written : (l : Logic) (text : List ℕ) (v w : Written) → IsOne l text v → IsOne l text w → v ≡ w
one_written l text v w one other =
    let here = of_logic l v one.0 in
    let there = of_logic l w other.0 in
    here.1
    ∙ ap (written l)
    ((answers l).parsed text here.0 there.0 (subst (IsWrittenAs text) here.1 one.1)
    (subst (IsWrittenAs text) there.1 other.1))
    ∙ sym there.1

none_refused : (l : Logic) (text : List ℕ) (w : Written) (e : ParseRefusal)
    → IsOne l text w
    → IsRefusedIn l text e
    → e ≡ refusal.NoMemory
none_refused l text w e one refused =
    let here = of_logic l w one.0 in
    (answers l).exclusive text here.0 e (subst (IsWrittenAs text) here.1 one.1) refused

pub one_answer : (l : Logic) → HaveOneAnswer (λ text w. (written_logic w ≡ l) × IsWrittenAs text w) (IsRefusedIn l)
one_answer l = record {
  some = λ text. some_written l text ((answers l).some text);
  parsed = one_written l;
  refused = (answers l).refused;
  exclusive = none_refused l;
}
