-- The good lines of a body are those of its parts.
--
--   good_states, good_start, good_state, good_edge  == each kind of line keeps all rules of its place
--   good_end, good_nothing       == so does the line `end`, and behind it a missing line where nothing is left
--   states_good, start_good, state_good, edge_good, nothing_good == what keeps all rules is such a line
--   after_states, after_edge     == what stands behind it
--   at_state_below, at_state_done == the line of a state, and behind the last one an edge
use Rattle.std.proofs.Common.{◌≡◌, ℕ, ◌^◌, ◌<◌, ◌≤◌, ◌⊎◌, true, false, cond, nat_lt, List, [], ◌∷◌, Option, None, Some, drop, All, codes, refl, sym, ap, subst, ◌∙◌, inl, inr, arith}
use Rattle.std.specs.List.{list_all}
use Rattle.std.proofs.lemmas.Bool.Decides.{nat_tests}
use Rattle.std.proofs.lemmas.List.Elements.{All-head, All-tail}
use Rattle.std.proofs.lemmas.Bool.{and_from}
use Rattle.ml_base.specs.declared.structure.Edge.{Edge}
use Rattle.ml_base.specs.Name.{IsName, IsAction}
use Rattle.ml_lines.specs.Lines.{Word, Line, number}
use Rattle.ml_lines.specs.Reading.{AreWords, is_word, value, word}
use Rattle.ml_lines.proofs.Numbers.{value-number, own_value}
use Rattle.ml_lines.proofs.WordBytes.{number-is_word}
use Rattle.ml_lists.specs.Documents.{IsGood}
use Rattle.ml_kripke.specs.BodyRules.{AtStates, AtStart, AtState, AtEdge, AtNothing, at_state, after, body, IsEdgeBehind, edge_of}
use Rattle.ml_kripke.specs.private.BodyParts.{IsStatesLine, IsStartLine, IsStateLine, IsEdgeLine, Ascend}
use Rattle.ml_kripke.specs.ModelText.{state_line, edge_line}
use Rattle.ml_kripke.specs.BodyLines.{states_line, start_line, end_line}

-- ---- words

name-is_word : (w : Word) → IsName w → is_word w ≡ true
name-is_word [] named = named
name-is_word (b ∷ bs) named = refl

action-is_word : (w : Word) → IsAction w → is_word w ≡ true
action-is_word [] named = named
action-is_word (b ∷ bs) named = refl

names_words : (labels : List Word) → All IsName labels → list_all is_word labels ≡ true
names_words [] named = refl
names_words (label ∷ labels) named =
    and_from (is_word label) (list_all is_word labels) (name-is_word label (All-head IsName label labels named))
    (names_words labels (All-tail IsName label labels named))

number_first : (n : ℕ) (line : Line) → n < 2 ^ 32 → AreWords line → AreWords (number n ∷ line)
number_first n line fits words =
    and_from (is_word (number n)) (list_all is_word line) (number-is_word n (omega arith)) words

-- ---- lines

module _ (left : List ℕ) where
  pub good_states : (n : ℕ) → 0 < n → n < 2 ^ 32 → IsGood (body left) AtStates (states_line n)
  good_states n some fits =
      ((number_first n [] fits refl, refl), ((n, fits, refl), (omega (arith, value-number n (omega arith)), tt)))

  pub states_good : (line : Line) → IsGood (body left) AtStates line → IsStatesLine line (value (word line 1))
  states_good line (kind, (is_number, (some, none))) =
      let own = own_value (word line 1) is_number in
      record { is_line = kind.1 ∙ ap (λ w. codes "states" ∷ w ∷ []) own.1; some = some; fits = own.0 }

  pub good_start : (n s : ℕ) → s < n → s < 2 ^ 32 → IsGood (body left) (AtStart n) (start_line s)
  good_start n s below fits =
      ((number_first s [] fits refl, refl), ((s, fits, refl), (omega (arith, value-number s (omega arith)), tt)))

  pub start_good : (n : ℕ) (line : Line)
      → IsGood (body left) (AtStart n) line
      → IsStartLine line n (value (word line 1))
  start_good n line (kind, (is_number, (below, none))) =
      let own = own_value (word line 1) is_number in
      record { is_line = kind.1 ∙ ap (λ w. codes "start" ∷ w ∷ []) own.1; is_state = below; fits = own.0 }

  pub good_state : (n i : ℕ) (labels : List Word) → i < 2 ^ 32 → All IsName labels → Ascend labels
      → IsGood (body left) (AtState n i) (state_line i labels)
  good_state n i labels fits named ascend = (
    (number_first i labels fits (names_words labels named), refl),
    ((i, fits, refl), (value-number i (omega arith), ((named, ascend), tt))),
  )

  pub state_good : (n i : ℕ) (line : Line) → IsGood (body left) (AtState n i) line → IsStateLine line i (drop 2 line)
  state_good n i line (kind, (is_number, (next, (labels, none)))) =
      let own = own_value (word line 1) is_number in record {
        is_line = kind.1 ∙ ap (λ w. codes "state" ∷ w ∷ drop 2 line) (own.1 ∙ ap number next);
        are_names = labels.0;
        ascend = labels.1;
      }

  pub edge_back : (e : Edge) → e.source < 2 ^ 32 → e.target < 2 ^ 32 → edge_of (edge_line e) ≡ e
  edge_back e source target =
      let from = value-number e.source (omega arith) in
      let to = value-number e.target (omega arith) in
      λ i. record { source = from i; action = e.action; target = to i }

  pub good_edge : (n : ℕ) (before : Option Edge) (e : Edge) → n < 2 ^ 32 → IsEdgeBehind n before e
      → IsGood (body left) (AtEdge n before) (edge_line e)
  good_edge n before e fits behind =
      let source : e.source < 2 ^ 32 = omega (arith, behind.source_below) in
      let target : e.target < 2 ^ 32 = omega (arith, behind.target_below) in
      let words =
      number_first e.source (e.action ∷ number e.target ∷ []) source
      (and_from (is_word e.action) (list_all is_word (number e.target ∷ [])) (action-is_word e.action behind.has_action)
      (number_first e.target [] target refl)) in (
        inr (words, refl),
        (
          inr ((e.source, source, refl), (e.target, target, refl)),
          (inr (subst (IsEdgeBehind n before) (sym (edge_back e source target)) behind), tt),
        ),
      )

  pub edge_good : (n : ℕ) (before : Option Edge) (line : Line) → IsGood (body left) (AtEdge n before) line
      → (line ≡ end_line) ⊎ IsEdgeLine line n before (edge_of line)
  edge_good n before line (inl end, others) = inl end
  edge_good n before line (inr edged, (inl end, others)) = inl end
  edge_good n before line (inr edged, (inr numbers, (inl end, none))) = inl end
  edge_good n before line (inr edged, (inr numbers, (inr behind, none))) =
      let source = own_value (word line 1) numbers.0 in
      let target = own_value (word line 3) numbers.1 in inr (record {
        is_line =
            edged.1 ∙ ap (λ w. codes "edge" ∷ w ∷ word line 2 ∷ word line 3 ∷ []) source.1
            ∙ ap (λ w. codes "edge" ∷ number (value (word line 1)) ∷ word line 2 ∷ w ∷ []) target.1;
        is_behind = behind;
      })

  pub good_end : (n : ℕ) (before : Option Edge) → IsGood (body left) (AtEdge n before) end_line
  good_end n before = (inl refl, (inl refl, (inl refl, tt)))

  pub good_nothing : left ≡ [] → IsGood (body left) AtNothing []
  good_nothing none = ((refl, none), tt)

-- ---- places

pub after_states : (n : ℕ) → n < 2 ^ 32 → after AtStates (states_line n) ≡ AtStart n
after_states n fits = ap AtStart (value-number n (omega arith))

pub after_edge : (n : ℕ) (before : Option Edge) (e : Edge) → e.source < 2 ^ 32 → e.target < 2 ^ 32
    → after (AtEdge n before) (edge_line e) ≡ AtEdge n (Some e)
after_edge n before e source target = ap (λ edge. AtEdge n (Some edge)) (edge_back [] e source target)

pub at_state_below : (n i : ℕ) → i < n → at_state n i ≡ AtState n i
at_state_below n i below = let is : nat_lt i n ≡ true = grind (arith, nat_tests) in
    ap (λ b. cond b (AtState n i) (AtEdge n None)) is

pub at_state_done : (n i : ℕ) → n ≤ i → at_state n i ≡ AtEdge n None
at_state_done n i past = let is : nat_lt i n ≡ false = grind (arith, nat_tests) in
    ap (λ b. cond b (AtState n i) (AtEdge n None)) is
