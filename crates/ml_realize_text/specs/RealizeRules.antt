-- Where a document of a machine or an environment is refused, as a format.
--
-- What stands at a line follows from the lines before it: the title, the answer, the three lines of the task, `states n`, the
-- lines of the states 0 to n - 1, `end`, and nothing behind it. In a machine a state has a line for each set of inputs; in an
-- environment it has the line `play`, and a line for each set of outputs. Sets ascend. The rules of a place stand in the order
-- of their numbers, so the first one that a line breaks is the lowest. A line that is missing is the line of no words.
--
-- Which set a line speaks of is known before it is read. So each line has one reading, also where names are `give` and `goto`.
--
--   Signals                == the answer, the inputs and the outputs that were told
--   Place                  == what stands at a line
--   told line              == the answer that a line tells
--   at_state g n i         == the line of the state i of n, and behind the last state `end`
--   at_step g n i s, at_reply g n i s == the line of the set s of inputs, or of outputs, in the state i, and behind the last
--                             set the next state
--   after place line       == what stands behind a line, if that one is good
--   IsSet names ws         == the words are a set of the names: `-`, or some of them in their order
--   step_words ins s ws w  == the words `on S give ws goto w`, with the set s of inputs for S
--   reply_words outs s w   == the words `on T goto w`, with the set s of outputs for T
--   IsStepLine, IsReplyLine == the line has these words, each of at least one byte, and some stand behind `give`
--   rule_number r          == the number of a rule
--   rules left place       == the rules of a line at a place, in a text of which `left` stands behind the last LF
--   realize left           == the places with their rules
--   IsRealizeFault text f  == f tells the first bad line of the text, and the lowest rule that it breaks
use Rattle.std.specs.Prelude.{ℕ, ◌≡◌, ◌+◌, ◌<◌, ◌^◌, nat_lt, List, [], ◌∷◌, ◌++◌, length, drop, codes, if◌then◌else◌}
use Rattle.std.specs.Str.{bytes_eq}
use Rattle.ml_base.specs.declared.doc_fault.DocFault.{DocFault}
use Rattle.ml_lines.specs.Faults.{IsFault}
use Rattle.ml_lines.specs.Lines.{Line, Word}
use Rattle.ml_lines.specs.Reading.{AreWords, IsNumber, IsTextBehind, IsWordBehind, value, word}
use Rattle.ml_lists.specs.Documents.{Format, Rule, rule}
use Rattle.ml_task.specs.TaskText as task
use Rattle.ml_realize_text.specs.RealizeText.{end_line, set_words, title_line, told_line}
use Rattle.ml_realize_text.specs.declared.realizability.Realizability.{Realizability}
use Rattle.ml_realize_text.specs.declared.realizability.Realizability.TheVariants.{Realizable, Undecided, Unrealizable}
use Rattle.ml_realize_text.specs.declared.line_rule.LineRule.{LineRule}
use Rattle.ml_realize_text.specs.declared.line_rule.LineRule.TheVariants as breaks

-- ---- places

pub record Signals : Type 0 where
  pub answer : Realizability
  pub inputs : List Word
  pub outputs : List Word

pub data Place : Type 0 where
  AtTitle : Place
  AtAnswer : Place
  -- the lines of the task, with the answer and the names that stood before
  AtInputs : Realizability → Place
  AtOutputs : Realizability → List Word → Place
  AtFormula : Signals → Place
  AtStates : Signals → Place
  -- the line of a state, with the number of states and that of this one; its `play`; one for a set
  AtState : Signals → ℕ → ℕ → Place
  AtPlay : Signals → ℕ → ℕ → Place
  AtStep : Signals → ℕ → ℕ → ℕ → Place
  AtReply : Signals → ℕ → ℕ → ℕ → Place
  AtEnd : Place
  AtNothing : Place

abbrev pub told : Line → Realizability
told line = if bytes_eq (word line 1) (codes "realizable") then Realizable else Unrealizable

abbrev pub at_state : Signals → ℕ → ℕ → Place
at_state g n i = if nat_lt i n then AtState g n i else AtEnd

abbrev pub at_step : Signals → ℕ → ℕ → ℕ → Place
at_step g n i s = if nat_lt s (2 ^ length g.inputs) then AtStep g n i s else at_state g n (i + 1)

abbrev pub at_reply : Signals → ℕ → ℕ → ℕ → Place
at_reply g n i s = if nat_lt s (2 ^ length g.outputs) then AtReply g n i s else at_state g n (i + 1)

-- behind the line of a state
abbrev pub in_state : Realizability → Signals → ℕ → ℕ → Place
in_state Realizable g n i = at_step g n i 0
in_state _ g n i = AtPlay g n i

abbrev pub after : Place → Line → Place
after AtTitle line = AtAnswer
after AtAnswer line = AtInputs (told line)
after (AtInputs a) line = AtOutputs a (drop 1 line)
after (AtOutputs a inputs) line = AtFormula (record { answer = a; inputs = inputs; outputs = drop 1 line })
after (AtFormula g) line = AtStates g
after (AtStates g) line = at_state g (value (word line 1)) 0
after (AtState g n i) line = in_state g.answer g n i
after (AtPlay g n i) line = at_reply g n i 0
after (AtStep g n i s) line = at_step g n i (s + 1)
after (AtReply g n i s) line = at_reply g n i (s + 1)
after AtEnd line = AtNothing
after AtNothing line = AtNothing

-- ---- what a line of the body has

abbrev pub IsSet : List Word → List Word → Type 0
IsSet names words = (s : ℕ) × (s < 2 ^ length names) × (words ≡ set_words names s)

abbrev pub step_words : List Word → ℕ → List Word → Word → Line
step_words ins s given w = codes "on" ∷ (set_words ins s ++ (codes "give" ∷ (given ++ (codes "goto" ∷ w ∷ []))))

abbrev pub reply_words : List Word → ℕ → Word → Line
reply_words outs s w = codes "on" ∷ (set_words outs s ++ (codes "goto" ∷ w ∷ []))

pub record IsStepLine (ins : List Word) (s : ℕ) (line : Line) (given : List Word) (w : Word) : Type 0 where
  pub are_words : AreWords line
  pub line_is : line ≡ step_words ins s given w
  pub some : 0 < length given

pub record IsReplyLine (outs : List Word) (s : ℕ) (line : Line) (w : Word) : Type 0 where
  pub are_words : AreWords line
  pub line_is : line ≡ reply_words outs s w

-- ---- the rules

abbrev pub rule_number : LineRule → ℕ
rule_number breaks.OfHead = 1
rule_number breaks.Decided = 3
rule_number breaks.OfKind = 51
rule_number breaks.Numbers = 52
rule_number breaks.HasStates = 53
rule_number breaks.NextState = 54
rule_number breaks.Sets = 55
rule_number breaks.InRange = 56

abbrev asks : LineRule → (Line → Type 0) → Rule Line
asks r = rule (rule_number r)

abbrev HasNumber : Line → Type 0
HasNumber line = IsNumber (word line 1)

abbrev pub rules : List ℕ → Place → List (Rule Line)
rules left AtTitle = asks breaks.OfHead (λ line. line ≡ title_line) ∷ []
rules left AtAnswer =
    asks breaks.OfHead (λ line. (a : Realizability) × (line ≡ told_line a))
    ∷ asks breaks.Decided (λ line. ¬ (line ≡ told_line Undecided))
    ∷ []
rules left (AtInputs a) = task.rules task.AtInputs
rules left (AtOutputs a inputs) = task.rules (task.AtOutputs inputs)
rules left (AtFormula g) = task.rules (task.AtFormula (g.inputs ++ g.outputs))
rules left (AtStates g) =
    asks breaks.OfKind (IsWordBehind (codes "states"))
    ∷ asks breaks.Numbers HasNumber
    ∷ asks breaks.HasStates (λ line. 0 < value (word line 1))
    ∷ []
rules left (AtState g n i) =
    asks breaks.OfKind (IsWordBehind (codes "state"))
    ∷ asks breaks.Numbers HasNumber
    ∷ asks breaks.NextState (λ line. value (word line 1) ≡ i)
    ∷ []
rules left (AtPlay g n i) =
    asks breaks.OfKind (λ line. AreWords line × IsTextBehind (codes "play") line)
    ∷ asks breaks.Sets (λ line. IsSet g.inputs (drop 1 line))
    ∷ []
rules left (AtStep g n i s) =
    asks breaks.OfKind (λ line. (given : List Word) × (w : Word) × IsStepLine g.inputs s line given w)
    ∷ asks breaks.Numbers (λ line. (given : List Word) (w : Word) → IsStepLine g.inputs s line given w → IsNumber w)
    ∷ asks breaks.Sets (λ line. (given : List Word) (w : Word) → IsStepLine g.inputs s line given w → IsSet g.outputs given)
    ∷ asks breaks.InRange (λ line. (given : List Word) (w : Word) → IsStepLine g.inputs s line given w → value w < n)
    ∷ []
rules left (AtReply g n i s) =
    asks breaks.OfKind (λ line. (w : Word) × IsReplyLine g.outputs s line w)
    ∷ asks breaks.Numbers (λ line. (w : Word) → IsReplyLine g.outputs s line w → IsNumber w)
    ∷ asks breaks.InRange (λ line. (w : Word) → IsReplyLine g.outputs s line w → value w < n)
    ∷ []
rules left AtEnd = asks breaks.OfKind (λ line. line ≡ end_line) ∷ []
rules left AtNothing = asks breaks.OfKind (λ line. (line ≡ []) × (left ≡ [])) ∷ []

abbrev pub realize : List ℕ → Format Line Place
realize left = record { rules = rules left; after = after; missing = [] }

abbrev pub IsRealizeFault : List ℕ → DocFault → Type 0
IsRealizeFault text fault = IsFault realize 1 AtTitle text fault
