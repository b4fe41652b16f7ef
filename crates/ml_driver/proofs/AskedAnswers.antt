-- What is the answer to `ask`: some status, and of two that are due both, or one of them undecided.
--
--   asked_agree     == two statuses that are the answer are the same, unless one says that something stays open
--   calm_asked      == each is no fault, and no want of memory
--   on_requirements == some status is, with some output
use Rattle.std.proofs.Common.{◌≡◌, ℕ, ◌<◌, ◌≤◌, ◌^◌, List, refl, sym, ap, subst, inl, inr, arith}
use Rattle.ml_ask_text.specs.Laws.{AreAlike, NeverAgainst}
use Rattle.ml_ask_text.specs.declared.told.Form.{Form}
use Rattle.ml_ask_text.specs.declared.told.Told.{Told}
use Rattle.ml_ask_text.specs.declared.told.Told.TheVariants.{Answered, Refused}
use Rattle.ml_ask_text.specs.declared.told.Verdict.{Verdict}
use Rattle.ml_ask_text.specs.declared.told.Verdict.TheVariants.{AsMeant, Against, Open}
use Rattle.ml_ask_text.proofs.SomeTold.{some_told}
use Rattle.ml_ask_text.proofs.ToldAlike.{told_alike}
use Rattle.ml_driver.specs.Asked.{IsAsked, requirements_told, status_of}
use Rattle.ml_driver.specs.Codes.{code_of}
use Rattle.ml_driver.specs.Laws.{AgreeUnlessOpen}
use Rattle.ml_driver.specs.declared.status.Status.{Status}

-- ---- two statuses

verdicts_agree : (v w : Verdict) → NeverAgainst v w → AgreeUnlessOpen (status_of v) (status_of w)
verdicts_agree AsMeant AsMeant never = inl refl
verdicts_agree AsMeant Against never = absurd never
verdicts_agree AsMeant Open never = inr (inr refl)
verdicts_agree Against AsMeant never = absurd never
verdicts_agree Against Against never = inl refl
verdicts_agree Against Open never = inr (inr refl)
verdicts_agree Open w never = inr (inl refl)

told_agree : (t u : Told) → AreAlike t u → AgreeUnlessOpen (requirements_told t).0 (requirements_told u).0
told_agree (Refused line column rule) (Refused row place other) alike = inl refl
told_agree (Refused line column rule) (Answered w other) alike = absurd alike
told_agree (Answered v out) (Refused row place other) alike = absurd alike
told_agree (Answered v out) (Answered w other) alike = verdicts_agree v w alike

pub asked_agree : (f : Form) (n : ℕ) (text : List ℕ) (s u : Status) (out more : List ℕ)
    → IsAsked f n text s out
    → IsAsked f n text u more
    → AgreeUnlessOpen s u
asked_agree f n text s u out more x y =
    subst (λ z. AgreeUnlessOpen z u) (sym x.status_is)
    (subst (AgreeUnlessOpen (requirements_told x.told).0) (sym y.status_is)
    (told_agree x.told y.told (told_alike f f text n n x.told y.told x.is_told y.is_told)))

-- ---- one that is no fault

calm_verdict : (v : Verdict) (s : Status) → s ≡ status_of v → code_of s ≤ 4
calm_verdict AsMeant s is = omega (arith, ap code_of is)
calm_verdict Against s is = omega (arith, ap code_of is)
calm_verdict Open s is = omega (arith, ap code_of is)

pub calm_asked : (t : Told) (s : Status) → s ≡ (requirements_told t).0 → code_of s ≤ 4
calm_asked (Answered v out) s is = calm_verdict v s is
calm_asked (Refused line column rule) s is = omega (arith, ap code_of is)

-- ---- some status

pub on_requirements : (f : Form) (n : ℕ) (text : List ℕ) → n < 2 ^ 32 → (s : Status) × ((out : List ℕ) × IsAsked f n text s out)
on_requirements f n text small =
    let x = some_told f text n small in
    let told = requirements_told x.0 in (
      told.0,
      (told.1, record { told = x.0; is_told = x.1; status_is = refl; is_written = refl }),
    )
