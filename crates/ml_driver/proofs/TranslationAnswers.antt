-- What is the answer to `automaton`: exactly one status.
--
--   one_formula    == a text stands for one formula
--   one_translated == one status is the answer at most
--   on_formula     == some status is, with some output
--   translated     == what is written stands for an automaton that accepts the words that satisfy the formula
use Rattle.std.proofs.Common.{◌≡◌, ◌≢◌, ℕ, ◌⊎◌, List, Some, None, inl, inr, refl, ap, subst, ◌∙◌}
use Rattle.ml_base.specs.declared.parse_refusal.ParseRefusal.{ParseRefusal}
use Rattle.ml_base.specs.declared.parse_refusal.ParseRefusal.TheVariants as refusal
use Rattle.ml_ctl.specs.Formula.{Formula}
use Rattle.ml_ctl.specs.Parsing.{IsParsedAs, IsRefusedBy}
use Rattle.ml_ctl.specs.declared.language.Language.TheVariants.{Ltl}
use Rattle.ml_ctl.proofs.OneAnswer.{one_answer}
use Rattle.ml_ctl.proofs.Parsed.{parsed_well}
use Rattle.ml_translate.specs.Output.{IsWrittenFor}
use Rattle.ml_translate.specs.Translation.{HasTooManyPlaces, IsLarge}
use Rattle.ml_translate.proofs.SomeTranslations.{one_outcome, some_translation}
use Rattle.ml_translate.proofs.WrittenTexts.{written_accepts}
use Rattle.ml_driver.specs.Laws.{WrittenIsTranslated}
use Rattle.ml_driver.specs.Run.{IsAnswer}
use Rattle.ml_driver.specs.Statuses.{refusal_line}
use Rattle.ml_driver.specs.Texts.{StandsFor}
use Rattle.ml_driver.specs.Translations.{IsRefusedFormula, IsUntranslated, has_many_places, is_large, large_line, many_places_line}
use Rattle.ml_driver.specs.declared.command.Command.TheVariants.{Automaton}
use Rattle.ml_driver.specs.declared.status.Status.{Status}
use Rattle.ml_driver.specs.declared.status.Status.TheVariants.{Yes, Undecided, Text}
use Rattle.ml_driver.proofs.AutomatonAnswers.{yes_kept}
use Rattle.ml_driver.proofs.InputLimits.{SomeAnswer, answer_due}
use Rattle.ml_driver.proofs.SomeAnswer.{told}

-- ---- one status

one_formula : (text : List ℕ) (f g : Formula) → IsParsedAs Ltl text f → IsParsedAs Ltl text g → f ≡ g
one_formula text f g x y = (one_answer Ltl).parsed text f g x y

written_or_open : (f : Formula) (n : ℕ) (out more : List ℕ) → IsWrittenFor f n out → IsUntranslated f n more → ⊥
written_or_open f n out more x (is_large large line) = (one_outcome f n).written_fits out x large
written_or_open f n out more x (has_many_places many line) = (one_outcome f n).written_few out x many

one_made : (n : ℕ) (text out more : List ℕ)
    → StandsFor (IsParsedAs Ltl) text (λ f. IsWrittenFor f n out)
    → StandsFor (IsParsedAs Ltl) text (λ f. IsUntranslated f n more)
    → ⊥
one_made n text out more x y =
    let same = one_formula text y.meant x.meant y.is_meant x.is_meant in
    written_or_open x.meant n out more x.is_so (subst (λ f. IsUntranslated f n more) same y.is_so)

-- a text isn't read and refused
read_or_refused : (text out : List ℕ) (IsSo : Formula → Type 0) → StandsFor (IsParsedAs Ltl) text IsSo → IsRefusedFormula text out → ⊥
read_or_refused text out IsSo x r =
    let is = (one_answer Ltl).exclusive text x.meant r.refusal x.is_meant r.is_refused in
    let none : Some out ≡ None = r.is_written ∙ ap refusal_line is in
    absurd (cc)

pub one_translated : (n : ℕ) (text : List ℕ) (s t : Status) (out more : List ℕ)
    → IsAnswer (Automaton n) text s out
    → IsAnswer (Automaton n) text t more
    → s ≡ t
one_translated n text Yes Yes out more x y = refl
one_translated n text Yes Undecided out more x y = absurd (one_made n text out more x y)
one_translated n text Yes Text out more x y = absurd (read_or_refused text more _ x y)
one_translated n text Undecided Yes out more x y = absurd (one_made n text more out y x)
one_translated n text Undecided Undecided out more x y = refl
one_translated n text Undecided Text out more x y = absurd (read_or_refused text more _ x y)
one_translated n text Text Yes out more x y = absurd (read_or_refused text out _ y x)
one_translated n text Text Undecided out more x y = absurd (read_or_refused text out _ y x)
one_translated n text Text Text out more x y = refl
one_translated n text Yes _ out more x y = absurd y
one_translated n text Undecided _ out more x y = absurd y
one_translated n text Text _ out more x y = absurd y
one_translated n text _ t out more x y = absurd x

-- ---- some status

module _ (n : ℕ) (text : List ℕ) where
  of_formula : (f : Formula) → IsParsedAs Ltl text f
      → ((out : List ℕ) × IsWrittenFor f n out) ⊎ (IsLarge f ⊎ HasTooManyPlaces f n)
      → SomeAnswer (Automaton n) text
  of_formula f is (inl (out, written)) = (Yes, (out, record { meant = f; is_meant = is; is_so = written }))
  of_formula f is (inr (inl large)) =
      (Undecided, (large_line, record { meant = f; is_meant = is; is_so = is_large large refl }))
  of_formula f is (inr (inr many)) =
      (Undecided, (many_places_line n, record { meant = f; is_meant = is; is_so = has_many_places many refl }))

  of_text : ((f : Formula) × IsParsedAs Ltl text f)
      ⊎ ((e : ParseRefusal) × (e ≢ refusal.NoMemory) × IsRefusedBy Ltl text e)
      → SomeAnswer (Automaton n) text
  of_text (inl (f, is)) = of_formula f is (some_translation f n (parsed_well Ltl text f is))
  of_text (inr (e, other, is)) =
      let line = told e other in (Text, (line.0, record { refusal = e; is_refused = is; is_written = line.1 }))

  pub on_formula : SomeAnswer (Automaton n) text
  on_formula = of_text ((one_answer Ltl).some text)

-- ---- the words

pub translated : WrittenIsTranslated
translated n text out due =
    let x = answer_due (Automaton n) text Yes out yes_kept due in
    record { meant = x.meant; is_meant = x.is_meant; is_so = written_accepts x.meant n out x.is_so }
