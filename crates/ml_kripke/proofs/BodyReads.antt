-- The lines of a body's parts are read, each at its place.
--
--   states_read, start_read, rows_read, edges_read  == the first line, the second one, the lines of the states, and
--                              those of the edges, with anything behind them
--   AreRowsTo, AreEdgesTo   == so many states' lines, and so many edges, were read from a text
--   rows_begin, row_read, rows_room, edges_begin, edge_read, edges_room  == none of them, one more, and the room left
--   state_lines-push        == the lines of rows, and of one more
use Rattle.std.proofs.Common.{◌≡◌, ℕ, ◌+◌, ◌^◌, ◌<◌, ◌≤◌, List, [], ◌∷◌, ◌++◌, length, map, Option, None, Some, All, refl, sym, ap, subst, ◌∙◌, length-append, arith}
use Rattle.std.proofs.lemmas.List.{map-append, length-map}
use Rattle.std.proofs.lemmas.List.Elements.{All-nil, All-head, All-tail, All-push}
use Rattle.ml_base.specs.declared.structure.Edge.{Edge}
use Rattle.ml_base.specs.Name.{IsName}
use Rattle.ml_lines.specs.Lines.{Word, Line}
use Rattle.ml_lines.specs.Reading.{lines_of, left_of}
use Rattle.ml_lines.specs.private.Fronts.{GoesOn}
use Rattle.ml_lines.proofs.Fronts.{goes_begin, goes_on}
use Rattle.ml_lists.specs.Last.{last_of}
use Rattle.ml_lists.specs.Readings.{IsReadTo, nothing_read, line_read}
use Rattle.ml_lists.proofs.Documents.{read_on}
use Rattle.ml_kripke.specs.BodyRules.{Place, AtStates, AtStart, AtState, AtEdge, at_state, body, IsEdgeBehind}
use Rattle.ml_kripke.specs.private.BodyParts.{AreRows, AreEdges, IsStateLine, IsEdgeLine, Ascend}
use Rattle.ml_kripke.specs.ModelText.{state_line, state_lines, edge_line}
use Rattle.ml_kripke.specs.BodyLines.{states_line, start_line}
use Rattle.ml_kripke.proofs.GoodLines.{good_states, good_start, good_state, good_edge, after_states, after_edge, at_state_below}
use Rattle.ml_kripke.proofs.OneText.{length-state_lines}

-- ---- lines that are read

module _ (left : List ℕ) (n : ℕ) (fits : n < 2 ^ 32) (rest : List Line) where
  abbrev Reads : ℕ → Place → List Line → ℕ → Place → Type 0
  Reads k place lines j at = IsReadTo (body left) k place (lines ++ rest) j at rest

  pub states_read : (k : ℕ) → 0 < n → Reads k AtStates (states_line n ∷ []) (k + 1) (AtStart n)
  states_read k some =
      subst (Reads k AtStates (states_line n ∷ []) (k + 1)) (after_states n fits)
      (line_read k AtStates (states_line n) rest nothing_read (good_states left n some fits))

  pub start_read : (k s : ℕ) → s < n → Reads k (AtStart n) (start_line s ∷ []) (k + 1) (at_state n 0)
  start_read k s below = line_read k (AtStart n) (start_line s) rest nothing_read (good_start left n s below (omega arith))

  pub rows_read : (rows : List (List Word)) (i m k j : ℕ) → m ≡ i + length rows → j ≡ k + length rows → m ≤ n
      → All (All IsName) rows → All Ascend rows → Reads k (at_state n i) (state_lines i rows) j (at_state n m)
  rows_read [] i m k j to_m to_j within named ascend =
      let same_i : i ≡ m = omega (arith, to_m) in
      let same_k : k ≡ j = omega (arith, to_j) in
      subst (λ q. Reads k (at_state n i) [] q (at_state n m)) same_k
      (subst (λ q. Reads k (at_state n i) [] k (at_state n q)) same_i nothing_read)
  rows_read (row ∷ rows) i m k j to_m to_j within named ascend =
      let below : i < n = omega (arith, to_m) in
      let later = state_lines (i + 1) rows ++ rest in
      let all = state_line i row ∷ later in
      let good = good_state left n i row (omega arith) (All-head (All IsName) row rows named) (All-head Ascend row rows ascend) in
      let first : IsReadTo (body left) k (AtState n i) all (k + 1) (at_state n (i + 1)) later =
      line_read k (AtState n i) (state_line i row) later nothing_read good in
      let others =
      rows_read rows (i + 1) m (k + 1) j (omega (arith, to_m)) (omega (arith, to_j)) within (All-tail (All IsName) row rows named)
      (All-tail Ascend row rows ascend) in
      subst (λ p. IsReadTo (body left) k p all j (at_state n m) rest) (sym (at_state_below n i below))
      (read_on (body left) k (AtState n i) all (k + 1) (at_state n (i + 1)) later j (at_state n m) rest first others)

  pub edges_read : (edges : List Edge) (before : Option Edge) (k j : ℕ) → j ≡ k + length edges → AreEdges n before edges
      → Reads k (AtEdge n before) (map edge_line edges) j (AtEdge n (last_of before edges))
  edges_read [] before k j to_j are =
      let same_k : k ≡ j = omega (arith, to_j) in
      subst (λ q. Reads k (AtEdge n before) [] q (AtEdge n before)) same_k nothing_read
  edges_read (e ∷ es) before k j to_j are =
      let later = map edge_line es ++ rest in
      let all = edge_line e ∷ later in
      let behind = after_edge n before e (omega (arith, are.0.source_below)) (omega (arith, are.0.target_below)) in
      let first : IsReadTo (body left) k (AtEdge n before) all (k + 1) (AtEdge n (Some e)) later =
      subst (λ p. IsReadTo (body left) k (AtEdge n before) all (k + 1) p later) behind
      (line_read k (AtEdge n before) (edge_line e) later nothing_read (good_edge left n before e fits are.0)) in
      read_on (body left) k (AtEdge n before) all (k + 1) (AtEdge n (Some e)) later j (AtEdge n (last_of before (e ∷ es))) rest first
      (edges_read es (Some e) (k + 1) j (omega (arith, to_j)) are.1)

-- ---- so many states' lines

pub record AreRowsTo (text : List ℕ) (rows : List (List Word)) (i : ℕ) (rest : List ℕ) : Type 0 where
  pub goes : GoesOn text (state_lines 0 rows) rest
  pub are : AreRows i rows

pub rows_begin : (text : List ℕ) → AreRowsTo text [] 0 text
rows_begin text = record {
  goes = goes_begin text;
  are = record { one_each = refl; are_names = All-nil (All IsName); ascend = All-nil Ascend };
}

pub state_lines-push : (i : ℕ) (rows : List (List Word)) (row : List Word)
    → state_lines i (rows ++ row ∷ []) ≡ state_lines i rows ++ state_line (i + length rows) row ∷ []
state_lines-push i [] row = let same : i ≡ i + length {A = List Word} [] = omega arith in ap (λ k. state_line k row ∷ []) same
state_lines-push i (first ∷ rows) row =
    let same : i + 1 + length rows ≡ i + length (first ∷ rows) = omega arith in
    ap (λ more. state_line i first ∷ more)
    (state_lines-push (i + 1) rows row ∙ ap (λ k. state_lines (i + 1) rows ++ state_line k row ∷ []) same)

pub row_read : (text : List ℕ) (rows : List (List Word)) (i : ℕ) (rest behind : List ℕ) (line : Line) (row : List Word)
    → AreRowsTo text rows i rest → lines_of rest ≡ line ∷ lines_of behind → left_of rest ≡ left_of behind
    → length behind + 1 ≤ length rest → IsStateLine line i row → AreRowsTo text (rows ++ row ∷ []) (i + 1) behind
row_read text rows i rest behind line row so_far begins left shorter is = record {
  goes =
      let same : i ≡ 0 + length rows = omega (arith, so_far.are.one_each) in
      let line_is = is.is_line ∙ ap (λ k. state_line k row) same in
      subst (λ lines. GoesOn text lines behind)
      (ap (λ l. state_lines 0 rows ++ l ∷ []) line_is ∙ sym (state_lines-push 0 rows row))
      (goes_on text (state_lines 0 rows) rest line behind so_far.goes begins left shorter);
  are = record {
    one_each = omega (arith, so_far.are.one_each, length-append rows (row ∷ []));
    are_names = All-push (All IsName) rows row so_far.are.are_names is.are_names;
    ascend = All-push Ascend rows row so_far.are.ascend is.ascend;
  };
}

pub rows_room : (text : List ℕ) (rows : List (List Word)) (i : ℕ) (rest : List ℕ)
    → AreRowsTo text rows i rest
    → length rest + i ≤ length text
rows_room text rows i rest so_far = omega (arith, so_far.goes.shorter, length-state_lines 0 rows, so_far.are.one_each)

-- ---- so many edges

pub record AreEdgesTo (n : ℕ) (text : List ℕ) (edges : List Edge) (rest : List ℕ) : Type 0 where
  pub goes : GoesOn text (map edge_line edges) rest
  pub are : AreEdges n None edges

pub edges_begin : (n : ℕ) (text : List ℕ) → AreEdgesTo n text [] text
edges_begin n text = record { goes = goes_begin text; are = tt }

edges_push : (n : ℕ) (before : Option Edge) (edges : List Edge) (e : Edge) → AreEdges n before edges
    → IsEdgeBehind n (last_of before edges) e → AreEdges n before (edges ++ e ∷ [])
edges_push n before [] e all behind = (behind, tt)
edges_push n before (x ∷ xs) e all behind = (all.0, edges_push n (Some x) xs e all.1 behind)

pub edge_read : (n : ℕ) (text : List ℕ) (edges : List Edge) (rest behind : List ℕ) (line : Line) (e : Edge)
    → AreEdgesTo n text edges rest → lines_of rest ≡ line ∷ lines_of behind → left_of rest ≡ left_of behind
    → length behind + 1 ≤ length rest → IsEdgeLine line n (last_of None edges) e → AreEdgesTo n text (edges ++ e ∷ []) behind
edge_read n text edges rest behind line e so_far begins left shorter is = record {
  goes =
      subst (λ lines. GoesOn text lines behind)
      (ap (λ l. map edge_line edges ++ l ∷ []) is.is_line ∙ sym (map-append edge_line edges (e ∷ [])))
      (goes_on text (map edge_line edges) rest line behind so_far.goes begins left shorter);
  are = edges_push n None edges e so_far.are is.is_behind;
}

pub edges_room : (n : ℕ) (text : List ℕ) (edges : List Edge) (rest : List ℕ) → AreEdgesTo n text edges rest
    → length rest + length edges ≤ length text
edges_room n text edges rest so_far = omega (arith, so_far.goes.shorter, length-map edges edge_line)
