-- Bad lines behind the parts of a body that were read.
--
--   from_states, from_body, from_rows, from_edges  == a refusal of the rest is one of the text, behind the first line, the
--                                    first two, the lines of the states, and those of the edges
--   state_refused, state_missing  == a bad line among those of the states, and a missing one
--   edge_refused, edge_missing    == the same among the edges
--   nothing_behind, end_refused   == where bytes follow the line `end`, the line behind it is the first bad one
--   whole_end                     == and where none do, the edges and `end` are the whole text
use Rattle.std.proofs.Common.{◌≡◌, ◌≢◌, ℕ, ◌+◌, ◌^◌, ◌<◌, ◌≤◌, List, [], ◌∷◌, ◌++◌, length, map, None, refl, inl, sym, ap, subst, ◌∙◌, arith}
use Rattle.std.specs.List.{slice_split}
use Rattle.ml_base.specs.declared.structure.Edge.{Edge}
use Rattle.ml_lines.specs.Lines.{Word, Line, text_of}
use Rattle.ml_lines.specs.Reading.{words_of, lines_of, left_of, fronts, is_blank, is_line_end}
use Rattle.ml_lines.specs.private.Fronts.{GoesOn}
use Rattle.ml_lines.proofs.Cuts.{some_part}
use Rattle.ml_lines.proofs.Fronts.{goes_begin, goes_on}
use Rattle.ml_lines.proofs.WrittenLines.{text_read}
use Rattle.ml_lists.specs.Last.{last_of}
use Rattle.ml_lists.specs.Readings.{nothing_read, line_read}
use Rattle.ml_kripke.specs.BodyRules.{AtStates, AtStart, AtState, AtEdge, AtNothing, at_state}
use Rattle.ml_kripke.specs.RuleNumbers.{rule_number}
use Rattle.ml_kripke.specs.private.BodyParts.{AreRows, IsWholeEnd}
use Rattle.ml_kripke.specs.ModelText.{state_lines, edge_line}
use Rattle.ml_kripke.specs.BodyLines.{states_line, start_line, end_line}
use Rattle.ml_kripke.specs.private.Refusals.{TellsRule, TellsFault, at_line}
use Rattle.ml_kripke.specs.declared.body_rule.BodyRule.TheVariants.{OfKind}
use Rattle.ml_kripke.specs.declared.body_rule.BodyRule.{BodyRule}
use Rattle.ml_lines.specs.declared.refusal.LineRefusal.{LineRefusal}
use Rattle.ml_base.specs.declared.doc_refusal.DocRefusal.{DocRefusal}
use Rattle.ml_base.specs.declared.doc_refusal.DocRefusal.TheVariants.{Fault}
use Rattle.ml_kripke.proofs.BrokenRules.{missing_state, missing_edge}
use Rattle.ml_kripke.proofs.ToldFaults.{tells_missing, tells_here, tells_line, tells_behind}
use Rattle.ml_kripke.proofs.GoodLines.{good_end, at_state_below}
use Rattle.ml_kripke.proofs.BodyReads.{AreRowsTo, AreEdgesTo, states_read, start_read, rows_read, edges_read}

module _ (n k : ℕ) (told : DocRefusal) (fits : n < 2 ^ 32) where
  -- ---- the first two lines

  pub from_states : (text rest : List ℕ)
      → GoesOn text (states_line n ∷ []) rest
      → 0 < n
      → TellsFault (AtStart n) (k + 1) rest told
      → TellsFault AtStates k text told
  from_states text rest goes some tells =
      tells_behind AtStates k text (states_line n ∷ []) rest (k + 1) (AtStart n) told goes
      (states_read (left_of text) n fits (lines_of rest) k some) tells

  -- ---- the lines of the states

  pub from_rows : (i at : ℕ) (text rest : List ℕ) (rows : List (List Word))
      → GoesOn text (state_lines 0 rows) rest
      → AreRows i rows
      → at ≡ k + i → i ≤ n → TellsFault (at_state n i) at rest told → TellsFault (at_state n 0) k text told
  from_rows i at text rest rows goes are at_is within tells =
      tells_behind (at_state n 0) k text (state_lines 0 rows) rest at (at_state n i) told goes
      (rows_read (left_of text) n fits (lines_of rest) rows 0 i k at (omega (arith, are.one_each)) (omega (arith, are.one_each, at_is)) within
      are.are_names are.ascend)
      tells

  module _ (i at : ℕ) (text rest : List ℕ) (rows : List (List Word)) (at_is : at ≡ k + i) (so_far : AreRowsTo text rows i rest) (below : i < n) where
    from_state : TellsFault (AtState n i) at rest told → TellsFault (at_state n 0) k text told
    from_state tells =
        from_rows i at text rest rows so_far.goes so_far.are at_is (omega arith)
        (subst (λ p. TellsFault p at rest told) (sym (at_state_below n i below)) tells)

    pub state_refused : (words : Line) (lines : List Line) (refusal : LineRefusal BodyRule) → lines_of rest ≡ words ∷ lines
        → TellsRule (AtState n i) words refusal → told ≡ at_line at refusal → TellsFault (at_state n 0) k text told
    state_refused words lines refusal begins rule is =
        from_state (subst (TellsFault (AtState n i) at rest) (sym is) (tells_line (AtState n i) at rest words lines refusal begins rule))

    pub state_missing : lines_of rest ≡ [] → told ≡ Fault (record { line = at; rule = rule_number OfKind }) → TellsFault (at_state n 0) k text told
    state_missing none is =
        from_state (tells_missing (AtState n i) at rest told OfKind is none (missing_state (left_of rest) n i))

  -- ---- the edges

  module _ (at : ℕ) (text rest : List ℕ) (edges : List Edge) (at_is : at ≡ k + length edges) (so_far : AreEdgesTo n text edges rest) where
    pub from_edges : TellsFault (AtEdge n (last_of None edges)) at rest told → TellsFault (AtEdge n None) k text told
    from_edges =
        tells_behind (AtEdge n None) k text (map edge_line edges) rest at (AtEdge n (last_of None edges)) told so_far.goes
        (edges_read (left_of text) n fits (lines_of rest) edges None k at at_is so_far.are)

    pub edge_refused : (words : Line) (lines : List Line) (refusal : LineRefusal BodyRule) → lines_of rest ≡ words ∷ lines
        → TellsRule (AtEdge n (last_of None edges)) words refusal → told ≡ at_line at refusal → TellsFault (AtEdge n None) k text told
    edge_refused words lines refusal begins rule is =
        from_edges (subst (TellsFault (AtEdge n (last_of None edges)) at rest) (sym is)
        (tells_line (AtEdge n (last_of None edges)) at rest words lines refusal begins rule))

    pub edge_missing : lines_of rest ≡ [] → told ≡ Fault (record { line = at; rule = rule_number OfKind }) → TellsFault (AtEdge n None) k text told
    edge_missing none is =
        from_edges (tells_missing (AtEdge n (last_of None edges)) at rest told OfKind is none
        (missing_edge (left_of rest) n (last_of None edges)))

    pub end_refused : (behind : List ℕ) (words : Line)
        → lines_of rest ≡ words ∷ lines_of behind
        → left_of rest ≡ left_of behind
        → length behind + 1 ≤ length rest → words ≡ end_line → TellsFault AtNothing (at + 1) behind told → TellsFault (AtEdge n None) k text told
    end_refused behind words begins left shorter is_end tells =
        let before = last_of None edges in
        let is = begins ∙ ap (λ line. line ∷ lines_of behind) is_end in
        from_edges
        (tells_behind (AtEdge n before) at rest (end_line ∷ []) behind (at + 1) AtNothing told
        (goes_on rest [] rest end_line behind (goes_begin rest) is left shorter)
        (line_read at (AtEdge n before) end_line (lines_of behind) nothing_read (good_end (left_of rest) n before)) tells)

pub from_body : (n s k : ℕ) (text first second : List ℕ) (told : DocRefusal) → GoesOn text (states_line n ∷ []) first
    → GoesOn first (start_line s ∷ []) second → 0 < n → n < 2 ^ 32 → s < n → TellsFault (at_state n 0) (k + 2) second told
    → TellsFault AtStates k text told
from_body n s k text first second told goes goes' some fits below tells =
    let same : k + 2 ≡ k + 1 + 1 = omega arith in
    from_states n k told fits text first goes some
    (tells_behind (AtStart n) (k + 1) first (start_line s ∷ []) second (k + 1 + 1) (at_state n 0) told goes'
    (start_read (left_of first) n fits (lines_of second) (k + 1) s below) (subst (λ j. TellsFault (at_state n 0) j second told) same tells))

-- ---- the end

pub nothing_behind : (k : ℕ) (text : List ℕ) (told : DocRefusal) → text ≢ []
    → told ≡ Fault (record { line = k; rule = rule_number OfKind }) → TellsFault AtNothing k text told
nothing_behind k text told some is = go (fronts (slice_split is_line_end text)) refl
  where
    go : (parts : List (List ℕ)) → fronts (slice_split is_line_end text) ≡ parts → TellsFault AtNothing k text told
    go [] none =
        let no_lines : lines_of text ≡ [] = ap (map words_of) none in
        let all_left : left_of text ≡ text = sym (ap (λ lines. text_of lines ++ left_of text) no_lines) ∙ text_read text in
        tells_missing AtNothing k text told OfKind is no_lines (inl (refl, λ kind. some (sym all_left ∙ kind.1)))
    go (part ∷ parts) first =
        let begins : lines_of text ≡ words_of part ∷ map words_of parts = ap (map words_of) first in
        tells_here AtNothing k text told OfKind is (words_of part) (map words_of parts) begins
        (λ left. inl (refl, λ kind. absurd (omega (arith, ap length kind.0, some_part is_blank part))))

pub whole_end : (n : ℕ) (text rest behind : List ℕ) (edges es : List Edge) (words : Line) → AreEdgesTo n text edges rest
    → lines_of rest ≡ words ∷ lines_of behind → left_of rest ≡ left_of behind → words ≡ end_line → es ≡ edges → behind ≡ []
    → IsWholeEnd text n es
whole_end n text rest behind edges es words so_far begins left is_end same none =
    subst (IsWholeEnd text n) (sym same)
    (record {
      lines_are =
          so_far.goes.lines_are
          ∙ ap (λ more. map edge_line edges ++ more) (begins ∙ ap (λ line. line ∷ lines_of behind) is_end ∙ ap (λ bs. end_line ∷ lines_of bs) none);
      left_is = so_far.goes.left_is ∙ left ∙ ap left_of none;
      are = so_far.are;
    })
