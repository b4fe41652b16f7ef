-- What `determinise` answers of the text of a Büchi automaton.
--
-- A text in HOA stands for one automaton, whose letters are the valuations of its propositions. What is written is the text
-- of its deterministic parity automaton, whose states are the histories that these letters reach; but if they are more than
-- the limit, that alone is said.
--
--   IsWrittenFor a n out   == out is the text of the deterministic automaton of a, which has at most n states
--   passed_line n          == the line for an automaton of which more than n histories are reached
--   PassesLimit a n out    == a is such an automaton, and out is this line
--   automaton_refusal_said r == what is said of a text that is refused: the number of the cause, and the byte
--   automaton_refusal_line r == its line
--   IsRefusedAutomaton text out == out says why the text is refused, and at which byte
use Rattle.std.specs.Prelude.{ℕ, ◌≡◌, ◌≤◌, List, length, Option, Some, None, option_map}
use Rattle.ml_hoa.specs.Automaton.{Automaton}
use Rattle.ml_hoa.specs.Refusals.{IsRefusedBy}
use Rattle.ml_hoa.specs.declared.refusal.HoaRefusal.{HoaRefusal}
use Rattle.ml_hoa.specs.declared.refusal.HoaRefusal.TheVariants as cause
use Rattle.ml_determinise.specs.Numbering.{HasMoreThan}
use Rattle.ml_buchi.specs.Deterministic.{Deterministic, IsDeterminised}
use Rattle.ml_buchi.specs.Valuations.{letters_of}
use Rattle.ml_buchi.specs.WrittenText.{automaton_text}
use Rattle.ml_driver.specs.Said.{said_text}
use Rattle.ml_driver.specs.declared.said.Said.{Said}
use Rattle.ml_driver.specs.declared.said.Said.TheVariants.{RefusedText, Undecided}
use Rattle.ml_driver.specs.declared.said.Size.TheVariants.{States}
use Rattle.ml_driver.specs.declared.said.TextKind.TheVariants as kind

-- ---- automata that are made deterministic

pub record IsWrittenFor (a : Automaton) (limit : ℕ) (out : List ℕ) : Type 0 where
  pub deterministic : Deterministic
  pub is_determinised : IsDeterminised a deterministic
  pub is_within : length deterministic.moves ≤ limit
  pub is_written : out ≡ automaton_text deterministic

abbrev pub passed_line : ℕ → List ℕ
passed_line limit = said_text (Undecided States limit)

pub record PassesLimit (a : Automaton) (limit : ℕ) (out : List ℕ) : Type 0 where
  pub has_more : HasMoreThan (letters_of a) a.start limit
  pub is_written : out ≡ passed_line limit

-- ---- texts that are refused

-- want of memory is no refusal of the text
abbrev pub automaton_refusal_said : HoaRefusal → Option Said
automaton_refusal_said (cause.Syntax at) = Some (RefusedText kind.Automaton 1 at)
automaton_refusal_said (cause.Range at) = Some (RefusedText kind.Automaton 2 at)
automaton_refusal_said (cause.TooMany at) = Some (RefusedText kind.Automaton 3 at)
automaton_refusal_said cause.NoMemory = None

abbrev pub automaton_refusal_line : HoaRefusal → Option (List ℕ)
automaton_refusal_line e = option_map said_text (automaton_refusal_said e)

pub record IsRefusedAutomaton (text out : List ℕ) : Type 0 where
  pub refusal : HoaRefusal
  pub is_refused : IsRefusedBy text refusal
  pub is_written : Some out ≡ automaton_refusal_line refusal
