-- The texts of refutations, line by line. Proofs cite this; that it says the same as the format of `BodyRules` is proved.
--
--   HeadLines F i q ls      == the first lines of the entry i with the sequent q
--   StackWords F ns ws      == the words for the stack ns at its item
--   ItemLines F as ls       == a line for each of the items
--   EntryLines F i e ls     == the lines of the entry e, whose number is i
--   EntriesLines F i es ls  == those of the entries es, numbered from i on
--   FirstLines F n ls       == the lines before those of the entries: n names, and the tables, if there are any
--   BodyLines F r ls        == those of the body of r
--   IsForm v n F            == F is a form of the version v, for n names: its tables are as what they stand for
--   HasLines v text r       == the text has the lines of the refutation r in the version v
use Rattle.std.specs.Prelude.{ℕ, ◌+◌, ◌≡◌, ⊤, List, [], ◌∷◌, ◌++◌, Some, map, length, slice_get, All}
use Rattle.ml_base.specs.declared.version.Version.{Version}
use Rattle.ml_base.specs.declared.version.Version.TheVariants.{One, Two}
use Rattle.ml_lines.specs.Lines.{Word, Line, text_of}
use Rattle.ml_lists.specs.Ascending.{IsAscending}
use Rattle.ml_trace.specs.declared.letters.AutomatonState.{AutomatonState}
use Rattle.ml_trace.specs.Stack as traced
use Rattle.ml_refutation.specs.Refutation.{Refutation, Entry, Fits, IsStack}
use Rattle.ml_refutation_text.specs.RefutationText.{numbers, numbered_line, sequent_line, entry_line}
use Rattle.ml_refutation_text.specs.LineKinds.{Spells}
use Rattle.ml_refutation_text.specs.BodyRules.{Form, InFull, ByTables}
use Rattle.ml_refutation_text.specs.RefutationText.{item_line, live_line, heights_line, decision_lines, names_line, sequents_line}
use Rattle.ml_refutation_text.specs.RefutationText.{stacks_line, stack_line, entries_line, end_line}

abbrev pub HeadLines : Form → ℕ → List ℕ → List Line → Type 0
HeadLines InFull i sequent lines = lines ≡ numbered_line i ∷ sequent_line sequent ∷ []
HeadLines (ByTables sequents stacks) i sequent lines =
    (s : ℕ) × (slice_get sequents s ≡ Some sequent) × (lines ≡ entry_line i s ∷ [])

abbrev pub StackWords : Form → List ℕ → List Word → Type 0
StackWords InFull names words = words ≡ numbers names
StackWords (ByTables sequents stacks) names words =
    (t : ℕ) × (w : Word) × Spells w t × (slice_get stacks t ≡ Some names) × (words ≡ w ∷ [])

-- the line of an item
pub record ItemLine (F : Form) (a : traced.Item AutomatonState) (line : Line) : Type 0 where
  pub words : List Word
  pub for_stack : StackWords F a.stack words
  pub is_line : line ≡ item_line a.state words

abbrev pub ItemLines : Form → List (traced.Item AutomatonState) → List Line → Type 0
ItemLines F [] lines = lines ≡ []
ItemLines F (a ∷ items) lines = (line : Line) × (others : List Line) × ItemLine F a line × ItemLines F items others × (lines ≡ line ∷ others)

-- the lines of an entry
pub record EntryLines (F : Form) (i : ℕ) (e : Entry) (lines : List Line) : Type 0 where
  pub head : List Line
  pub items : List Line
  pub is_head : HeadLines F i e.sequent head
  pub are_items : ItemLines F e.traces.items items
  pub are_lines : lines ≡ head ++ live_line e.traces.live ∷ (items ++ heights_line e.heights ∷ decision_lines e.decision)

abbrev pub EntriesLines : Form → ℕ → List Entry → List Line → Type 0
EntriesLines F i [] lines = lines ≡ []
EntriesLines F i (e ∷ entries) lines =
    (first : List Line) × (others : List Line) × EntryLines F i e first × EntriesLines F (i + 1) entries others × (lines ≡ first ++ others)

-- the number of names, and the tables, if there are any
abbrev pub FirstLines : Form → ℕ → List Line → Type 0
FirstLines InFull names lines = lines ≡ names_line names ∷ []
FirstLines (ByTables sequents stacks) names lines =
    (w : Word) × Spells w (length stacks) × (lines ≡ names_line names ∷ sequents_line (length sequents)
    ∷ (map sequent_line sequents ++ stacks_line w ∷ map stack_line stacks))

-- the lines of a body
pub record BodyLines (F : Form) (r : Refutation) (lines : List Line) : Type 0 where
  pub first : List Line
  pub entries : List Line
  pub are_first : FirstLines F r.names first
  pub are_entries : EntriesLines F 0 r.entries entries
  pub are_lines : lines ≡ first ++ entries_line (length r.entries) ∷ (entries ++ end_line ∷ [])

-- ---- both versions

-- the lines of the tables are as sequents and stacks of entries are
pub record AreTables (names : ℕ) (sequents stacks : List (List ℕ)) : Type 0 where
  pub sequents_fit : Fits (length sequents)
  pub nodes_fit : All (All Fits) sequents
  pub sequents_ascend : All IsAscending sequents
  pub are_stacks : All (IsStack names) stacks

abbrev pub IsForm : Version → ℕ → Form → Type 0
IsForm One names InFull = ⊤
IsForm One names (ByTables sequents stacks) = ⊥
IsForm Two names InFull = ⊥
IsForm Two names (ByTables sequents stacks) = AreTables names sequents stacks

-- the text has the lines of the refutation
pub record HasLines (v : Version) (text : List ℕ) (r : Refutation) : Type 0 where
  pub form : Form
  pub is_form : IsForm v r.names form
  pub lines : List Line
  pub are_lines : BodyLines form r lines
  pub is_text : text ≡ text_of lines
