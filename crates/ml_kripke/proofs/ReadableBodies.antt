-- A body is readable exactly where it is the text of a model.
--
--   model_readable            == the text of a model is readable
--   readable_model            == what is readable is the text of a model
use Rattle.std.proofs.Common.{◌≡◌, ℕ, ◌+◌, ◌^◌, ◌<◌, ◌≤◌, ◌⊎◌, List, [], ◌∷◌, ◌++◌, length, map, Option, None, Some, drop, All, inl, inr, refl, sym, ap, subst, ◌∙◌, append_assoc, arith}
use Rattle.std.proofs.lemmas.Bool.{cases_lt}
use Rattle.std.proofs.lemmas.List.Elements.{All-nil, All-cons}
use Rattle.ml_base.specs.declared.structure.Edge.{Edge}
use Rattle.ml_base.specs.Name.{IsName}
use Rattle.ml_lines.specs.Lines.{Word, Line}
use Rattle.ml_lines.specs.Reading.{lines_of, left_of, value, word}
use Rattle.ml_lines.proofs.Fronts.{HaveWords, have_words}
use Rattle.ml_lines.proofs.WrittenLines.{lines_read}
use Rattle.ml_lists.specs.Last.{last_of}
use Rattle.ml_lists.specs.Readings.{IsReadable}
use Rattle.ml_lists.proofs.Documents.{readable_behind}
use Rattle.ml_kripke.specs.BodyRules.{AtStates, AtStart, AtEdge, AtNothing, at_state, after, body, edge_of, IsReadableBody}
use Rattle.ml_kripke.specs.private.BodyParts.{AreRows, AreEdges, IsEdgeLine, Ascend}
use Rattle.ml_kripke.specs.Laws.{IsModelText}
use Rattle.ml_kripke.specs.ModelText.{state_lines, edge_line, model_lines, model_text}
use Rattle.ml_kripke.specs.BodyLines.{states_line, start_line, end_line}
use Rattle.ml_kripke.specs.Built.{of_parts}
use Rattle.ml_kripke.proofs.GoodLines.{good_states, good_start, good_end, good_nothing, states_good, start_good, state_good, edge_good, after_states, after_edge, at_state_below, at_state_done}
use Rattle.ml_kripke.proofs.OneText.{model_plain}
use Rattle.ml_kripke.proofs.BodyReads.{rows_read, edges_read}
use Rattle.ml_kripke.proofs.ModelParts.{IsBody, parts_written, parts_ordered, written_parts, text_is}

-- ---- a model's lines are readable

lines_readable : (n s : ℕ) (rows : List (List Word)) (edges : List Edge) → IsBody n s rows edges
    → IsReadable (body []) AtStates (model_lines (of_parts n rows edges) s)
lines_readable n s rows edges parts =
    let F = body [] in
    let fits = parts.fits in
    let last : List Line = end_line ∷ [] in
    let others = map edge_line edges ++ last in
    let at_last = AtEdge n (last_of None edges) in
    let end : IsReadable F at_last last = (good_end [] n (last_of None edges), good_nothing [] refl) in
    let from_edges : IsReadable F (AtEdge n None) others =
    readable_behind F 0 (AtEdge n None) others (0 + length edges) at_last last
    (edges_read [] n fits last edges None 0 (0 + length edges) refl parts.are) end in
    let from_rows : IsReadable F (at_state n 0) (state_lines 0 rows ++ others) =
    readable_behind F 0 (at_state n 0) (state_lines 0 rows ++ others) n (at_state n n) others
    (rows_read [] n fits others rows 0 n 0 n (omega (arith, parts.are_rows.one_each)) (omega (arith, parts.are_rows.one_each)) (omega arith)
    parts.are_rows.are_names parts.are_rows.ascend)
    (subst (λ p. IsReadable F p others) (sym (at_state_done n n (omega arith))) from_edges) in
    let behind = subst (IsReadable F (at_state n 0)) (sym (append_assoc (state_lines 0 rows) (map edge_line edges) last)) from_rows in
    let from_start : IsReadable F (AtStart n) (start_line s ∷ (state_lines 0 rows ++ map edge_line edges ++ last)) =
    (good_start [] n s parts.is_state (omega (arith, parts.is_state, fits)), behind) in (
      good_states [] n parts.some fits,
      subst (λ p. IsReadable F p (start_line s ∷ (state_lines 0 rows ++ map edge_line edges ++ last))) (sym (after_states n fits)) from_start,
    )

pub model_readable : (text : List ℕ) → IsModelText text → IsReadableBody text
model_readable text (m, s, ok, order, is) =
    let read = lines_read (model_lines m s) (model_plain m s ok) in
    subst IsReadableBody (sym is)
    (subst (λ left. IsReadable (body left) AtStates (lines_of (model_text m s))) (sym read.1)
    (subst (IsReadable (body []) AtStates) (sym read.0) (lines_readable m.states s m.labels m.edges (written_parts m s ok order))))

-- ---- what is readable is a model's

-- the edges and the end of a body, from an edge on
record Ends (left : List ℕ) (n : ℕ) (before : Option Edge) (lines : List Line) : Type 0 where
  pub edges : List Edge
  pub are : AreEdges n before edges
  pub lines_are : lines ≡ map edge_line edges ++ end_line ∷ []
  pub none_left : left ≡ []

-- the rest of a body, from a state on
record Goes (left : List ℕ) (n i : ℕ) (lines : List Line) : Type 0 where
  pub rows : List (List Word)
  pub edges : List Edge
  pub to_last : i + length rows ≡ n
  pub are_names : All (All IsName) rows
  pub ascend : All Ascend rows
  pub are : AreEdges n None edges
  pub lines_are : lines ≡ state_lines i rows ++ (map edge_line edges ++ end_line ∷ [])
  pub none_left : left ≡ []

module _ (left : List ℕ) where
  nothing_of : (lines : List Line)
      → HaveWords lines
      → IsReadable (body left) AtNothing lines
      → (lines ≡ []) × (left ≡ [])
  nothing_of [] words readable = (refl, readable.0.1)
  nothing_of (line ∷ lines) words readable = absurd (omega (arith, words.0, ap length readable.0.0.0))

  module _ (n : ℕ) (fits : n < 2 ^ 32) where
    ends_of : (lines : List Line) (before : Option Edge)
        → HaveWords lines
        → IsReadable (body left) (AtEdge n before) lines
        → Ends left n before lines
    ends_of [] before words good = go (edge_good left n before [] good)
      where
        go : ([] ≡ end_line) ⊎ IsEdgeLine [] n before (edge_of []) → Ends left n before []
        go (inl end) = absurd (cc)
        go (inr is) = let apart = is.is_line in absurd (cc)
    ends_of (line ∷ lines) before words readable =
        go (edge_good left n before line readable.0) (λ e. ends_of lines (Some e) words.1)
      where
        go : (line ≡ end_line) ⊎ IsEdgeLine line n before (edge_of line)
            → ((e : Edge) → IsReadable (body left) (AtEdge n (Some e)) lines → Ends left n (Some e) lines) → Ends left n before (line ∷ lines)
        go (inl end) others =
            let rest = nothing_of lines words.1 (subst (λ l. IsReadable (body left) (after (AtEdge n before) l) lines) end readable.1) in record {
              edges = [];
              are = tt;
              lines_are = (λ i. end i ∷ rest.0 i);
              none_left = rest.1;
            }
        go (inr is) others =
            let e = edge_of line in
            let behind = after_edge n before e (omega (arith, is.is_behind.source_below)) (omega (arith, is.is_behind.target_below)) in
            let place : after (AtEdge n before) line ≡ AtEdge n (Some e) = ap (after (AtEdge n before)) is.is_line ∙ behind in
            let rest = others e (subst (λ p. IsReadable (body left) p lines) place readable.1) in record {
              edges = e ∷ rest.edges;
              are = (is.is_behind, rest.are);
              lines_are = (λ i. is.is_line i ∷ rest.lines_are i);
              none_left = rest.none_left;
            }

    past_rows : (lines : List Line) (i : ℕ)
        → HaveWords lines
        → i ≡ n
        → IsReadable (body left) (at_state n i) lines
        → Goes left n i lines
    past_rows lines i words is readable =
        let ends = ends_of lines None words (subst (λ p. IsReadable (body left) p lines) (at_state_done n i (omega (arith, is))) readable) in record {
          rows = [];
          edges = ends.edges;
          to_last = omega (arith, is);
          are_names = All-nil (All IsName);
          ascend = All-nil Ascend;
          are = ends.are;
          lines_are = ends.lines_are;
          none_left = ends.none_left;
        }

    rows_of : (lines : List Line) (i : ℕ)
        → HaveWords lines
        → i ≤ n
        → IsReadable (body left) (at_state n i) lines
        → Goes left n i lines
    rows_of [] i words within readable = go (cases_lt i n)
      where
        go : (i < n) ⊎ (n ≤ i) → Goes left n i []
        go (inl below) =
            let apart = (state_good left n i [] (subst (λ p. IsReadable (body left) p []) (at_state_below n i below) readable)).is_line in absurd (cc)
        go (inr past) = past_rows [] i words (omega arith) readable
    rows_of (line ∷ lines) i words within readable = go (cases_lt i n) (rows_of lines (i + 1) words.1)
      where
        go : (i < n) ⊎ (n ≤ i)
            → (i + 1 ≤ n → IsReadable (body left) (at_state n (i + 1)) lines → Goes left n (i + 1) lines)
            → Goes left n i (line ∷ lines)
        go (inl below) others =
            let here = subst (λ p. IsReadable (body left) p (line ∷ lines)) (at_state_below n i below) readable in
            let is = state_good left n i line here.0 in
            let rest = others (omega arith) here.1 in record {
              rows = drop 2 line ∷ rest.rows;
              edges = rest.edges;
              to_last = omega (arith, rest.to_last);
              are_names = All-cons (All IsName) (drop 2 line) rest.rows is.are_names rest.are_names;
              ascend = All-cons Ascend (drop 2 line) rest.rows is.ascend rest.ascend;
              are = rest.are;
              lines_are = (λ j. is.is_line j ∷ rest.lines_are j);
              none_left = rest.none_left;
            }
        go (inr past) others = past_rows (line ∷ lines) i words (omega arith) readable

-- the first two lines, and what they tell
record Begins (left : List ℕ) (lines : List Line) : Type 0 where
  pub n : ℕ
  pub s : ℕ
  pub some : 0 < n
  pub fits : n < 2 ^ 32
  pub is_state : s < n
  pub behind : List Line
  pub words : HaveWords behind
  pub lines_are : lines ≡ states_line n ∷ start_line s ∷ behind
  pub readable : IsReadable (body left) (at_state n 0) behind

begins_of : (left : List ℕ) (lines : List Line)
    → HaveWords lines
    → IsReadable (body left) AtStates lines
    → Begins left lines
begins_of left [] words readable = let apart = (states_good left [] readable).is_line in absurd (cc)
begins_of left (first ∷ []) words readable =
    let apart = (start_good left (value (word first 1)) [] readable.1).is_line in absurd (cc)
begins_of left (first ∷ second ∷ behind) words readable =
    let states = states_good left first readable.0 in
    let start = start_good left (value (word first 1)) second readable.1.0 in record {
      n = value (word first 1);
      s = value (word second 1);
      some = states.some;
      fits = states.fits;
      is_state = start.is_state;
      behind = behind;
      words = words.1.1;
      lines_are = (λ i. states.is_line i ∷ start.is_line i ∷ behind);
      readable = readable.1.1;
    }

pub readable_model : (text : List ℕ) → IsReadableBody text → IsModelText text
readable_model text readable =
    let b = begins_of (left_of text) (lines_of text) (have_words text) readable in
    let g = rows_of (left_of text) b.n b.fits b.behind 0 b.words (omega arith) b.readable in
    let m = of_parts b.n g.rows g.edges in
    let are_rows : AreRows b.n g.rows = record { one_each = omega (arith, g.to_last); are_names = g.are_names; ascend = g.ascend } in
    let parts : IsBody b.n b.s g.rows g.edges = record {
      some = b.some;
      fits = b.fits;
      is_state = b.is_state;
      are_rows = are_rows;
      are = g.are;
    } in
    let lines : lines_of text ≡ model_lines m b.s =
    b.lines_are
    ∙ ap (λ ls. states_line b.n ∷ start_line b.s ∷ ls)
    (g.lines_are ∙ sym (append_assoc (state_lines 0 g.rows) (map edge_line g.edges) (end_line ∷ []))) in (
      m,
      b.s,
      parts_written b.n b.s g.rows g.edges parts,
      parts_ordered b.n g.rows g.edges b.some are_rows g.are,
      text_is text m b.s lines g.none_left,
    )
