-- What is the answer to `determinise`: exactly one status with exactly one output, and one automaton is written of a text,
-- whatever the limit.
--
--   one_written    == of a text one automaton is written
--   one_automaton_answer == one status is the answer at most, with one output
--   one_determinised == so one is due
--   on_automaton   == some status is the answer, with some output
--   written_words  == what is written accepts the words that the text's automaton accepts
use Rattle.std.proofs.Common.{◌≡◌, ◌≢◌, ℕ, ◌+◌, ◌*◌, List, length, Some, None, refl, sym, ap, subst, ◌∙◌, ⊎_elim, arith}
use Rattle.std.proofs.lemmas.List.{length-map}
use Rattle.ml_trace.specs.Stack.{Item}
use Rattle.ml_hoa.specs.Automaton.{Automaton}
use Rattle.ml_hoa.specs.Refusals.{IsReadAs, IsRefusedBy}
use Rattle.ml_hoa.specs.declared.refusal.HoaRefusal.{HoaRefusal}
use Rattle.ml_hoa.specs.declared.refusal.HoaRefusal.TheVariants as cause
use Rattle.ml_hoa.proofs.OneAnswers.{never_both, one_automaton, one_refusal, some_answer}
use Rattle.ml_hoa.proofs.ReadAutomata.{read_is_automaton}
use Rattle.ml_determinise.specs.Numbering.{HasMoreThan, IsNumberingWithin, moves_from, moves_of}
use Rattle.ml_determinise.proofs.Numberings.{never_both as never_numbered, some_numbering}
use Rattle.ml_buchi.specs.Deterministic.{Deterministic, IsDeterminised}
use Rattle.ml_buchi.specs.Valuations.{letters_of}
use Rattle.ml_buchi.specs.WrittenText.{automaton_text}
use Rattle.ml_buchi.proofs.SameWords.{one_automaton as one_deterministic, same_words}
use Rattle.ml_driver.specs.Automata.{IsRefusedAutomaton, IsWrittenFor, PassesLimit, automaton_refusal_line, passed_line}
use Rattle.ml_driver.proofs.InputLimits.{SomeAnswer, alike_due, answer_due}
use Rattle.ml_driver.specs.Laws.{OneAutomatonDue, OneAutomatonWritten, WrittenAcceptsTheSame}
use Rattle.ml_driver.specs.Run.{IsAnswer}
use Rattle.ml_driver.specs.Texts.{StandsFor}
use Rattle.ml_driver.specs.Codes.{code_of}
use Rattle.ml_driver.specs.declared.command.Command.TheVariants.{Determinise}
use Rattle.ml_driver.specs.declared.status.Status.{Status}
use Rattle.ml_driver.specs.declared.status.Status.TheVariants.{Yes, Undecided, Text}

-- ---- one automaton

written_alike : (n m : ℕ) (text out more : List ℕ)
    → StandsFor IsReadAs text (λ a. IsWrittenFor a n out)
    → StandsFor IsReadAs text (λ a. IsWrittenFor a m more)
    → out ≡ more
written_alike n m text out more x y =
    let same = one_automaton text y.meant x.meant y.is_meant x.is_meant in
    let other = subst (λ a. IsDeterminised a y.is_so.deterministic) same y.is_so.is_determinised in
    let d = one_deterministic x.meant x.is_so.deterministic y.is_so.deterministic x.is_so.is_determinised other in
    x.is_so.is_written ∙ ap automaton_text d ∙ sym y.is_so.is_written

pub yes_kept : Yes ≢ Text
yes_kept is = omega (arith, ap code_of is)

pub one_written : OneAutomatonWritten
one_written n m text out more x y =
    written_alike n m text out more (answer_due (Determinise n) text Yes out yes_kept x)
    (answer_due (Determinise m) text Yes more yes_kept y)

-- ---- one status

written_or_passed : (a : Automaton) (n : ℕ) (out more : List ℕ) → IsWrittenFor a n out → PassesLimit a n more → ⊥
written_or_passed a n out more x y =
    let hs = x.is_determinised.numbered in
    let as_many = length-map hs.histories (moves_from a.states (letters_of a) hs.histories) in
    let long = ap length hs.moves_are in
    let low = x.is_within in
    never_numbered (letters_of a) a.start n hs.histories
    (record { is_numbering = hs.is_numbering; few = omega (arith, as_many, long, low) })
    y.has_more

-- want of memory has no line
told_cause : (e : HoaRefusal) (out : List ℕ) → Some out ≡ automaton_refusal_line e → e ≢ cause.NoMemory
told_cause e out line is = let none : Some out ≡ None = line ∙ ap automaton_refusal_line is in absurd (cc)

-- a text isn't read and refused
read_or_refused : (text out : List ℕ) (IsSo : Automaton → Type 0) → StandsFor IsReadAs text IsSo → IsRefusedAutomaton text out → ⊥
read_or_refused text out IsSo x r =
    told_cause r.refusal out r.is_written (never_both text x.meant r.refusal x.is_meant r.is_refused)

one_made : (n : ℕ) (text out more : List ℕ) → StandsFor IsReadAs text (λ a. IsWrittenFor a n out)
    → StandsFor IsReadAs text (λ a. PassesLimit a n more) → ⊥
one_made n text out more x y =
    let same = one_automaton text y.meant x.meant y.is_meant x.is_meant in
    written_or_passed x.meant n out more x.is_so (subst (λ a. PassesLimit a n more) same y.is_so)

same_line : (text out more : List ℕ) → IsRefusedAutomaton text out → IsRefusedAutomaton text more → out ≡ more
same_line text out more r q =
    let told = told_cause r.refusal out r.is_written in
    let known = told_cause q.refusal more q.is_written in
    let same = one_refusal text r.refusal q.refusal told known r.is_refused q.is_refused in
    let line = r.is_written ∙ ap automaton_refusal_line same ∙ sym q.is_written in
    cc

pub one_automaton_answer : (n : ℕ) (text : List ℕ) (s t : Status) (out more : List ℕ)
    → IsAnswer (Determinise n) text s out
    → IsAnswer (Determinise n) text t more
    → (s ≡ t) × (out ≡ more)
one_automaton_answer n text Yes Yes out more x y = (refl, written_alike n n text out more x y)
one_automaton_answer n text Yes Undecided out more x y = absurd (one_made n text out more x y)
one_automaton_answer n text Yes Text out more x y = absurd (read_or_refused text more _ x y)
one_automaton_answer n text Undecided Yes out more x y = absurd (one_made n text more out y x)
one_automaton_answer n text Undecided Undecided out more x y = (refl, x.is_so.is_written ∙ sym y.is_so.is_written)
one_automaton_answer n text Undecided Text out more x y = absurd (read_or_refused text more _ x y)
one_automaton_answer n text Text Yes out more x y = absurd (read_or_refused text out _ y x)
one_automaton_answer n text Text Undecided out more x y = absurd (read_or_refused text out _ y x)
one_automaton_answer n text Text Text out more x y = (refl, same_line text out more x y)
one_automaton_answer n text Yes _ out more x y = absurd y
one_automaton_answer n text Undecided _ out more x y = absurd y
one_automaton_answer n text Text _ out more x y = absurd y
one_automaton_answer n text _ t out more x y = absurd x

pub one_determinised : OneAutomatonDue
one_determinised n text s t out more x y =
    alike_due (Determinise n) text s t out more ((s ≡ t) × (out ≡ more)) (λ same line. (same, line))
    (one_automaton_answer n text s t out more) x y

-- ---- some status

-- the line of a refusal that isn't want of memory
automaton_line : (e : HoaRefusal) → e ≢ cause.NoMemory → (out : List ℕ) × (Some out ≡ automaton_refusal_line e)
automaton_line (cause.Syntax at) told = (_, refl)
automaton_line (cause.Range at) told = (_, refl)
automaton_line (cause.TooMany at) told = (_, refl)
automaton_line cause.NoMemory told = absurd (told refl)

-- the deterministic automaton of a numbering
abbrev determinised : Automaton → List (List (Item ℕ)) → Deterministic
determinised a hs = record {
  props = a.props;
  top = 2 * a.states + 3;
  moves = moves_of a.states (letters_of a) hs;
}

few_written : (n : ℕ) (a : Automaton) (hs : List (List (Item ℕ))) → IsNumberingWithin (letters_of a) a.start n hs
    → IsWrittenFor a n (automaton_text (determinised a hs))
few_written n a hs within =
    let as_many = length-map hs (moves_from a.states (letters_of a) hs) in
    let few = within.few in
    record {
      deterministic = determinised a hs;
      is_determinised = record {
        same_props = refl;
        top_is = refl;
        numbered = record { histories = hs; is_numbering = within.is_numbering; moves_are = refl };
      };
      is_within = omega (arith, as_many, few);
      is_written = refl;
    }

on_read : (n : ℕ) (text : List ℕ) (a : Automaton) → IsReadAs text a → SomeAnswer (Determinise n) text
on_read n text a is =
    ⊎_elim
    (λ (few : (hs : List (List (Item ℕ))) × IsNumberingWithin (letters_of a) a.start n hs). (
      Yes,
      (
        automaton_text (determinised a few.0),
        record { meant = a; is_meant = is; is_so = few_written n a few.0 few.1 },
      ),
    ))
    (λ (many : HasMoreThan (letters_of a) a.start n). (
      Undecided,
      (passed_line n, record { meant = a; is_meant = is; is_so = record { has_more = many; is_written = refl } }),
    ))
    (some_numbering (letters_of a) a.start n)

pub on_automaton : (n : ℕ) (text : List ℕ) → SomeAnswer (Determinise n) text
on_automaton n text =
    ⊎_elim
    (λ (read : (a : Automaton) × IsReadAs text a). on_read n text read.0 read.1)
    (λ (bad : (e : HoaRefusal) × (e ≢ cause.NoMemory) × IsRefusedBy text e).
    let line = automaton_line bad.0 bad.1 in
    (Text, (line.0, record { refusal = bad.0; is_refused = bad.2; is_written = line.1 })))
    (some_answer text)

-- ---- the words

pub written_words : WrittenAcceptsTheSame
written_words n text out x w lasso letters =
    same_words x.meant x.is_so.deterministic w (read_is_automaton text x.meant x.is_meant)
    x.is_so.is_determinised lasso letters
