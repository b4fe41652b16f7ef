-- What is true of automata whose edges have cubes, and of their texts.
--
--   TextStands     == the text of an automaton stands for it, with guards for its cubes
--   TextIsRead     == and it is read as this automaton, where it keeps the limits of what is read
--   GuardsLeadSame == under each letter the guards lead as the cubes do
use Rattle.std.specs.Prelude.{ℕ, ◌↔◌, Bool}
use Rattle.ml_hoa.specs.Refusals.{IsReadAs}
use Rattle.ml_labelled.specs.Labelled.{Automaton, IsLabelled, Leads, Letter}
use Rattle.ml_labelled.specs.LabelledText.{GuardsLead, IsWithinLimits, StandsIn, automaton_text, guarded}

abbrev pub TextStands : Type 0
TextStands = (a : Automaton) → IsLabelled a → StandsIn (automaton_text a) (guarded a)

abbrev pub TextIsRead : Type 0
TextIsRead = (a : Automaton) → IsLabelled a → IsWithinLimits a → IsReadAs (automaton_text a) (guarded a)

abbrev pub GuardsLeadSame : Type 0
GuardsLeadSame =
    (a : Automaton) (letter : Letter) (p q : ℕ) (accepting : Bool)
    → GuardsLead (guarded a) letter p q accepting ↔ Leads a letter p q accepting
