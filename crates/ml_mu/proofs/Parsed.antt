-- From what the reader found to what `parse` answers.
--
--   comes_of         == what comes of a text is right by the grammar of mu
--   found_accepted   == a formula that is found is accepted
--   comes_first      == a cause that is found is the first
--   refused_first    == a refusal comes first
--   accepted_small   == an accepted formula keeps the limit on occurrences, and its names are spelled
--   accepted_fine    == an accepted formula without faults is well formed
--   fault_refused    == a fault of a variable that was found is the answer
--   found_parsed     == where none was found, the text is parsed
--   parsed_well      == what is parsed is well formed
use Rattle.std.proofs.Common.{◌≡◌, ℕ, ◌≤◌, true, false, List, [], ◌∷◌, length, None, refl, sym, ◌∙◌, ap, subst, arith}
use Rattle.std.proofs.lemmas.List.{append-nil}
use Rattle.ml_text.proofs.TableItems.{counted_items}
use Rattle.ml_base.specs.declared.parse_refusal.ParseRefusal.{ParseRefusal}
use Rattle.ml_base.specs.declared.parse_refusal.ParseRefusal.TheVariants as refusal
use Rattle.ml_text.specs.declared.token.WordStart.TheVariants.{AnyLetter}
use Rattle.ml_text.specs.Tokens.{tokens}
use Rattle.ml_text.specs.Refusals.{Cause, Syntax, TooMany, TooNested, NameTooLong, IsAccepted}
use Rattle.ml_text.specs.Limits.{most_occurrences}
use Rattle.ml_text.specs.private.Reading.{Outcome, Found, Refused, text_outcome}
use Rattle.ml_text.proofs.Exact.{IsOutcome, exact, few_items}
use Rattle.ml_text.proofs.Fits.{Fits}
use Rattle.ml_mu.specs.Formula.{Formula, occurrences}
use Rattle.ml_mu.specs.Grammar.{IsReadAs}
use Rattle.ml_mu.specs.Parsing.{IsParsedAs, IsRefusedBy, ComesFirst}
use Rattle.ml_text.specs.private.Progress.{IsRefusal}
use Rattle.ml_mu.specs.private.Tables.{mu_grammar}
use Rattle.ml_mu.specs.Text.{mu_signs, items, variable_places}
use Rattle.ml_mu.specs.VariableFaults.{Standing, Fine, Unbound, NotPositive, standings, fault_at, are_fine}
use Rattle.ml_mu.specs.private.VariableViews.{IsFaultOf}
use Rattle.ml_mu.specs.WellFormed.{IsWellFormed}
use Rattle.ml_mu.proofs.Counting.{counts, words_are_variables, variables, length-places, length-standings}
use Rattle.ml_mu.proofs.Fine.{IsWellBound, fine_well}
use Rattle.ml_mu.proofs.MuGrammar.{mu_regular, mu_completable, stands_read, read_stands}
use Rattle.ml_mu.proofs.ReadNames.{text_short, text_spelled}

pub mu_fits : Fits mu_grammar IsReadAs
mu_fits = record { regular = mu_regular; completable = mu_completable; to = read_stands; from = stands_read }

abbrev pub mu_outcome : List ℕ → Outcome Formula
mu_outcome text = text_outcome mu_grammar (length text) (items text)

pub comes_of : (text : List ℕ) → IsOutcome mu_grammar IsReadAs (items text) (length text) (mu_outcome text)
comes_of text = exact mu_grammar IsReadAs mu_fits (items text) (length text)

pub found_accepted : (text : List ℕ) (f : Formula) → mu_outcome text ≡ Found f → IsAccepted IsReadAs (items text) f
found_accepted text f is = subst (IsOutcome mu_grammar IsReadAs (items text) (length text)) is (comes_of text)

pub comes_first : (text : List ℕ) (c : Cause) (at : ℕ) → mu_outcome text ≡ Refused c at → ComesFirst text c at
comes_first text c at is = subst (IsOutcome mu_grammar IsReadAs (items text) (length text)) is (comes_of text)

pub refused_first : (text : List ℕ) (e : ParseRefusal) → IsRefusal e (mu_outcome text) → IsRefusedBy text e
refused_first text (refusal.Syntax at) is = comes_first text Syntax at is
refused_first text (refusal.TooMany at) is = comes_first text TooMany at is
refused_first text (refusal.TooNested at) is = comes_first text TooNested at is
refused_first text (refusal.NameTooLong at) is = comes_first text NameTooLong at is
refused_first text (refusal.Unbound at) is = absurd is
refused_first text (refusal.NotPositive at) is = absurd is
refused_first text refusal.NoMemory is = tt

pub accepted_small : (text : List ℕ) (f : Formula)
    → IsAccepted IsReadAs (items text) f
    → occurrences f ≤ most_occurrences
accepted_small text f accepted =
    let few = few_items (items text) (λ k fault. accepted.keeps TooMany k fault) in
    let same = counted_items mu_signs text false (tokens AnyLetter text) in
    let has = counts accepted.stands in
    omega (arith, few, same, has)

pub accepted_fine : (text : List ℕ) (f : Formula)
    → IsAccepted IsReadAs (items text) f
    → are_fine (standings f) ≡ true
    → IsWellFormed f
accepted_fine text f accepted fine =
    let w : IsWellBound f = fine_well f fine in
    record {
      is_small = accepted_small text f accepted;
      names_are_short = text_short text f accepted;
      names_are_spelled = text_spelled text f accepted;
      variables_are_bound = w.bound;
      variables_are_positive = w.positive;
    }

-- as many places as variables
pub length-faults : (text : List ℕ) (f : Formula)
    → IsAccepted IsReadAs (items text) f
    → length (standings f) ≡ length (variable_places (items text))
length-faults text f accepted =
    length-standings [] 0 0 f
    ∙ sym (ap length (words_are_variables accepted.stands ∙ append-nil (variables f)))
    ∙ sym (length-places false (items text))

no_fault_fine : (ss : List Standing) (places : List ℕ)
    → length ss ≡ length places
    → fault_at ss places ≡ None
    → are_fine ss ≡ true
no_fault_fine [] places same is = refl
no_fault_fine (s ∷ ss) [] same is = absurd (omega arith)
no_fault_fine (Fine ∷ ss) (at ∷ places) same is = no_fault_fine ss places (omega arith) is
no_fault_fine (Unbound ∷ ss) (at ∷ places) same is = absurd (cc)
no_fault_fine (NotPositive ∷ ss) (at ∷ places) same is = absurd (cc)

pub faultless_fine : (text : List ℕ) (f : Formula)
    → IsAccepted IsReadAs (items text) f
    → fault_at (standings f) (variable_places (items text)) ≡ None
    → are_fine (standings f) ≡ true
faultless_fine text f accepted is = no_fault_fine (standings f) (variable_places (items text)) (length-faults text f accepted) is

-- ---- the same, as the program has it: the standings of the variables, and their places

pub fault_refused : (text : List ℕ) (f : Formula) (ss : List Standing) (places : List ℕ) (e : ParseRefusal)
    → mu_outcome text ≡ Found f
    → ss ≡ standings f
    → places ≡ variable_places (items text)
    → IsFaultOf e (fault_at ss places)
    → IsRefusedBy text e
fault_refused text f ss places (refusal.Unbound at) found same there is = (
  f,
  found_accepted text f found,
  sym (ap (λ ps. fault_at (standings f) ps) there) ∙ ap (λ s. fault_at s places) (sym same) ∙ is,
)
fault_refused text f ss places (refusal.NotPositive at) found same there is = (
  f,
  found_accepted text f found,
  sym (ap (λ ps. fault_at (standings f) ps) there) ∙ ap (λ s. fault_at s places) (sym same) ∙ is,
)
fault_refused text f ss places (refusal.Syntax at) found same there is = absurd is
fault_refused text f ss places (refusal.TooMany at) found same there is = absurd is
fault_refused text f ss places (refusal.TooNested at) found same there is = absurd is
fault_refused text f ss places (refusal.NameTooLong at) found same there is = absurd is
fault_refused text f ss places refusal.NoMemory found same there is = absurd is

pub found_parsed : (text : List ℕ) (f : Formula) (ss : List Standing) (places : List ℕ)
    → mu_outcome text ≡ Found f
    → ss ≡ standings f
    → places ≡ variable_places (items text)
    → fault_at ss places ≡ None
    → IsParsedAs text f
found_parsed text f ss places found same there none =
    let accepted = found_accepted text f found in
    record { accepted = accepted; fine = faultless_fine text f accepted (sym (ap (λ ps. fault_at (standings f) ps) there) ∙ ap (λ s. fault_at s places) (sym same) ∙ none) }

pub found_small : (text : List ℕ) (f : Formula) → mu_outcome text ≡ Found f → occurrences f ≤ most_occurrences
found_small text f found = accepted_small text f (found_accepted text f found)

pub parsed_well : (text : List ℕ) (f : Formula) → IsParsedAs text f → IsWellFormed f
parsed_well text f parsed = accepted_fine text f parsed.accepted parsed.fine
