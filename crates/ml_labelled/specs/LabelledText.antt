-- The text of an automaton whose edges have cubes, in HOA.
--
--   HOA: v1
--   States: N            there are N states, and the automaton begins in 0
--   Start: 0
--   AP: K "p" "q" ..     there are K propositions, with these names
--   acc-name: Buchi
--   Acceptance: 1 Inf(0) a run is accepted that meets the set 0 again and again
--   properties: trans-labels explicit-labels trans-acc
--   --BODY--
--   State: S             for each state S, and behind it for each of its edges:
--   [L] D                where the letter has the literals of L, to the state D; with {0} behind it where it accepts
--   --END--
--
-- States ascend. A label has the literals of the cube, joined by `&`, as `0&!1`, and is `t` where there are none. What all
-- texts of automata have alike is in `ml_hoa`.
--
-- What such a text stands for is an automaton as `ml_hoa` has it: with guards, of one list of edges.
--
--   literal_text l         == a literal
--   label c                == the literals of the cube c
--   edge_line e            == the line of an edge; edge_text has its bytes
--   state_text s           == the lines of the state s.0 with the edges s.1
--   head_lines n ps        == the lines before n states, where the propositions have the names ps
--   automaton_text a       == all lines
--   guard_of c             == the guard that is true where the cube c fits
--   guarded a              == the automaton a, with guards for its cubes
--   holds props letter g   == is the guard g true in the letter, where these are the propositions?
--   GuardsLead b letter p q accepting == some edge of b whose guard is true in the letter leads from p to q
--   StandsIn text b        == the text is one of the grammar, whatever its size, and stands for the automaton b, with all
--                             numbers in range
--   IsWithinLimits a       == the automaton has no more states, propositions and edges than a text that is read may have
use Rattle.std.specs.Prelude.{ℕ, ◌≡◌, ◌≤◌, ◌&&◌, ◌||◌, not, Bool, true, List, [], ◌∷◌, ◌++◌, length, map, get_or, codes, if◌then◌else◌}
use Rattle.std.specs.List.{flat_map, enumerate_from}
use Rattle.ml_lines.specs.Lines.{Line, line_text, number, text_of}
use Rattle.ml_lists.specs.Member.{IsMember}
use Rattle.ml_hoa.specs.Automaton as hoa
use Rattle.ml_hoa.specs.Automaton.{most_states, most_props, most_edges}
use Rattle.ml_hoa.specs.AutomatonText.{automaton_of, faults}
use Rattle.ml_hoa.specs.Grammar.{Draft, IsText}
use Rattle.ml_hoa.specs.Tokens.{tokens, signs_of}
use Rattle.ml_hoa.specs.WrittenLines.{body_line, bracketed, last_line, opening_lines, signed, state_line}
use Rattle.ml_labelled.specs.declared.labelled.Literal.{Literal}
use Rattle.ml_labelled.specs.Labelled.{Automaton, Edge, Letter, has}

-- ---- the text

abbrev pub literal_text : Literal → List ℕ
literal_text l = signed l.positive l.prop

-- 38 is `&`
abbrev pub next_literal : Literal → List ℕ
next_literal l = 38 ∷ literal_text l

abbrev pub label : List Literal → List ℕ
label [] = codes "t"
label (l ∷ ls) = literal_text l ++ flat_map next_literal ls

abbrev pub set_words : Bool → Line
set_words accepting = if accepting then codes "{0}" ∷ [] else []

abbrev pub edge_line : Edge → Line
edge_line e = bracketed (label e.cube) ∷ number e.to ∷ set_words e.accepting

abbrev pub edge_text : Edge → List ℕ
edge_text e = line_text (edge_line e)

abbrev pub state_text : ℕ × List Edge → List ℕ
state_text s = line_text (state_line s.0) ++ flat_map edge_text s.1

abbrev pub head_lines : ℕ → List (List ℕ) → List Line
head_lines states props =
    opening_lines states props
    ++ ((codes "acc-name:" ∷ codes "Buchi" ∷ [])
    ∷ (codes "Acceptance:" ∷ codes "1" ∷ codes "Inf(0)" ∷ [])
    ∷ (codes "properties:" ∷ codes "trans-labels" ∷ codes "explicit-labels" ∷ codes "trans-acc" ∷ [])
    ∷ body_line
    ∷ [])

abbrev pub automaton_text : Automaton → List ℕ
automaton_text a =
    text_of (head_lines (length a.edges) a.props)
    ++ (flat_map state_text (enumerate_from 0 a.edges) ++ line_text last_line)

-- ---- what it stands for

abbrev pub literal_guard : Literal → hoa.Guard
literal_guard l = if l.positive then hoa.Ap l.prop else hoa.Not (hoa.Ap l.prop)

-- the guard, and the literals behind it
abbrev pub guard_on : hoa.Guard → List Literal → hoa.Guard
guard_on g [] = g
guard_on g (l ∷ ls) = guard_on (hoa.And g (literal_guard l)) ls

abbrev pub guard_of : List Literal → hoa.Guard
guard_of [] = hoa.Const true
guard_of (l ∷ ls) = guard_on (literal_guard l) ls

abbrev pub guarded_edge : ℕ → Edge → hoa.Edge
guarded_edge p e = record { from = p; guard = guard_of e.cube; to = e.to; accepting = e.accepting }

abbrev pub guarded_edges : ℕ × List Edge → List hoa.Edge
guarded_edges s = map (guarded_edge s.0) s.1

abbrev pub guarded : Automaton → hoa.Automaton
guarded a = record {
  states = length a.edges;
  start = 0;
  props = a.props;
  edges = flat_map guarded_edges (enumerate_from 0 a.edges);
}

-- ---- automata with guards

abbrev pub holds : List (List ℕ) → Letter → hoa.Guard → Bool
holds props letter (hoa.Const b) = b
holds props letter (hoa.Ap n) = has letter (get_or props n [])
holds props letter (hoa.Not g) = not (holds props letter g)
holds props letter (hoa.And g h) = holds props letter g && holds props letter h
holds props letter (hoa.Or g h) = holds props letter g || holds props letter h

pub record GuardsLead (b : hoa.Automaton) (letter : Letter) (p q : ℕ) (accepting : Bool) : Type 0 where
  pub edge : hoa.Edge
  pub is_edge : IsMember edge b.edges
  pub may_be_taken : holds b.props letter edge.guard ≡ true
  pub from_is : edge.from ≡ p
  pub to_is : edge.to ≡ q
  pub accepting_is : edge.accepting ≡ accepting

-- ---- texts

pub record StandsIn (text : List ℕ) (b : hoa.Automaton) : Type 0 where
  pub draft : Draft
  pub is_text : IsText (signs_of (tokens text)) draft
  pub in_range : faults draft ≡ []
  pub is_automaton : b ≡ automaton_of draft

pub record IsWithinLimits (a : Automaton) : Type 0 where
  pub few_states : length a.edges ≤ most_states
  pub few_props : length a.props ≤ most_props
  pub few_edges : length (flat_map (λ es. es) a.edges) ≤ most_edges
