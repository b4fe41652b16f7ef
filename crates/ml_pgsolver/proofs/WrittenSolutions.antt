-- What is written for a solution, behind the text of its game, is read as the claims of the solution.
--
--   whole_game, few_ids, small_ids == a game's text was read to its end, and its ids are few and small
--   solution_rows       == the rows of the entries that are written are the claims of the solution
--   written_is_accepted == the theorem
use Rattle.std.proofs.Common.{◌≡◌, ℕ, ◌+◌, ◌-◌, ◌<◌, ◌≤◌, ◌⊎◌, List, [], ◌∷◌, ◌++◌, length, map, drop, take, get_or, Some, None, Ok, Err, inl, inr, refl, sym, ◌∙◌, ap, subst, arith, codes, drop-drop}
use Rattle.std.specs.List.{enumerate_from, flat_map}
use Rattle.std.proofs.Math.Seq.{drop-append_seam, take-append_seam}
use Rattle.std.proofs.lemmas.Bool.{cases_lt}
use Rattle.std.proofs.lemmas.List.{append_assoc, get_or_past, length-map}
use Rattle.std.proofs.lemmas.List.FromFn.{get_or-enumerate_from, length-enumerate_from, length-map-range_with_len}
use Rattle.std.proofs.lemmas.List.Sorted.{IsPermutation-map, IsPermutation-sym, length_permutation}
use Rattle.ml_game_check.specs.Laws.{claim_of, claims_of, move_of}
use Rattle.ml_game_check.specs.RightClaims.{claim_at}
use Rattle.ml_game_check.specs.declared.claims.Claim.{Claim}
use Rattle.ml_game_check.specs.declared.verdict.Verdict.TheVariants.{Right}
use Rattle.ml_game_check.proofs.OfSolutions.{solutions_are_right, told_claim}
use Rattle.ml_lines.specs.Lines.{next, number}
use Rattle.ml_lists.specs.Member.{IsMember}
use Rattle.ml_lists.proofs.Member.{member-map, member-map_from, member-place, place-member}
use Rattle.ml_lists.proofs.Permuted.{permuted-member}
use Rattle.ml_parity.specs.declared.players.Player.{Player}
use Rattle.ml_parity.specs.declared.players.Player.TheVariants.{Even, Odd}
use Rattle.ml_parity.specs.Game.{ParityGame, IsGame, owner_of, size}
use Rattle.ml_parity.specs.Solution.{GameSolution, IsSolution, choice_at, winner_at}
use Rattle.ml_pgsolver.specs.CheckedText.{IsCheckedAs, word_in}
use Rattle.ml_pgsolver.specs.GameText.{IsGameOf, NamedGame, Row, id_at, row_of as row_of_vertex}
use Rattle.ml_pgsolver.specs.Grammar.{vertices_of}
use Rattle.ml_pgsolver.specs.Laws.{IsWrittenRight, WrittenIsAccepted}
use Rattle.ml_pgsolver.specs.Refusals.{IsReadAs, greatest_number, most_vertices}
use Rattle.ml_pgsolver.specs.SolutionText.{line_end, solution_text, vertex_line}
use Rattle.ml_pgsolver.specs.Tokens.{signs_of, tokens, tokens_at}
use Rattle.ml_pgsolver.specs.declared.entries.EntryRow.{EntryRow}
use Rattle.ml_pgsolver.specs.private.Claiming.{AreRowClaims, IsPlaceOf, IsRowClaim}
use Rattle.ml_pgsolver.specs.private.EntryMachine.{EntryState, entries_come, start}
use Rattle.ml_pgsolver.specs.private.Machine.{State, Step}
use Rattle.ml_pgsolver.specs.private.Signs.{signs_from, signs_in}
use Rattle.ml_pgsolver.specs.private.WordSearch.{word_from}
use Rattle.ml_pgsolver.proofs.Answered.{answered_whole, outcome_of, refused_so}
use Rattle.ml_pgsolver.proofs.CheckedAnswers.{checked}
use Rattle.ml_pgsolver.proofs.Ended.{Whole}
use Rattle.ml_pgsolver.proofs.OneAnswers.{never_both, one_draft}
use Rattle.ml_pgsolver.proofs.SomeAnswers.{refused}
use Rattle.ml_pgsolver.proofs.WordPlaces.{here_byte}
use Rattle.ml_pgsolver.proofs.WordTokens.{word_in-sought}
use Rattle.ml_pgsolver.proofs.WordsBehind.{IsQuiet, quiet_game, word_behind}
use Rattle.ml_pgsolver.proofs.WrittenSigns.{Lines, at_vertex, row_of, written_comes}

-- ---- the game

module _ (text : List ℕ) (named : NamedGame) (game : IsReadAs text named) where
  whole_game : (s : State) × Whole (signs_of (tokens text)) s
  whole_game = by (outcome_of text) refl
    where
      by : (out : Step) → outcome_of text ≡ out → (s : State) × Whole (signs_of (tokens text)) s
      by (Ok s) is = (s, answered_whole text s is)
      by (Err e) is =
          let r = refused text e (refused_so text e is) in absurd (r.0 (never_both text named e game r.1))

  abbrev rows : List Row
  rows = map row_of_vertex (vertices_of whole_game.1.draft)

  game_of_rows : IsGameOf rows named
  game_of_rows =
      let same = one_draft game.stands.draft whole_game.1.draft (sym game.stands.spelled ∙ whole_game.1.spelled) in
      subst (λ vs. IsGameOf (map row_of_vertex vs) named) same game.stands.is_game

  pub few_ids : length named.ids ≤ most_vertices
  few_ids =
      let x = game_of_rows in
      omega (
        arith,
        whole_game.1.few,
        ap length whole_game.1.ids,
        length-map rows (λ (r : Row). r.id),
        length_permutation rows x.order x.reordered,
        length-map x.order (λ (r : Row). r.id),
        ap length x.ids,
      )

  pub small_ids : (n : ℕ) → IsMember n named.ids → n ≤ greatest_number
  small_ids n member =
      let x = game_of_rows in
      whole_game.1.small n (subst (IsMember n) (sym whole_game.1.ids)
      (permuted-member n (map (λ (r : Row). r.id) x.order) (map (λ (r : Row). r.id) rows)
      (IsPermutation-sym (map (λ (r : Row). r.id) rows) (map (λ (r : Row). r.id) x.order)
      (IsPermutation-map (λ (r : Row). r.id) rows x.order x.reordered))
      (subst (IsMember n) x.ids member)))

  quiet : IsQuiet (signs_of (tokens text))
  quiet = subst IsQuiet (sym game.stands.spelled) (quiet_game game.stands.draft)

-- ---- the claims

module _ (ids : List ℕ) (g : ParityGame) (s : GameSolution) (ok : IsGame g) (solves : IsSolution g s)
    (sizes : length ids ≡ size g)
  where
    abbrev to : ℕ → ℕ
    to v = id_at ids (choice_at s.choice v)

    abbrev row : ℕ × ℕ → EntryRow
    row v = row_of (owner_of g) (winner_at s.winner) to v

    choice_low : (v : ℕ) → v < size g → choice_at s.choice v < length ids
    choice_low v low = omega (arith, ok.in_range v (choice_at s.choice v) (solves.strategies (owner_of g v) v low refl))

    claim_there : ℕ → Claim
    claim_there v = record {
      winner = winner_at s.winner v;
      move_to = move_of (owner_of g v) (winner_at s.winner v) (choice_at s.choice v);
    }

    place_of : (o w : Player) (c : ℕ) → c < length ids → IsPlaceOf ids (move_of o w (id_at ids c)) (move_of o w c)
    place_of Even Even c low = (low, refl)
    place_of Odd Odd c low = (low, refl)
    place_of Even Odd c low = tt
    place_of Odd Even c low = tt

    row_claim : (v : ℕ) → v < size g → IsRowClaim ids (row (v, id_at ids v)) v (claim_there v)
    unfolding claim_there
    row_claim v low = record {
      within = omega arith;
      vertex = refl;
      winner = refl;
      move_to = place_of (owner_of g v) (winner_at s.winner v) (choice_at s.choice v) (choice_low v low);
    }

    solution_rows : AreRowClaims ids (map row (enumerate_from 0 ids)) (claims_of g s)
    unfolding claim_there
    solution_rows = record {
      places = length-map-range_with_len (claim_of g s) 0 (size g) ∙ sym sizes;
      each = each;
      others = λ v c is. others v c is (cases_lt v (size g));
    }
      where
        each : (r : EntryRow) → IsMember r (map row (enumerate_from 0 ids))
            → (v : ℕ) × (c : Claim) × (claim_at (claims_of g s) v ≡ Some c) × IsRowClaim ids r v c
        each r member =
            let from = member-map_from row r (enumerate_from 0 ids) member in
            let at = member-place from.from (enumerate_from 0 ids) from.member in
            let long = length-enumerate_from 0 ids in
            let low : at.place < length ids = omega (arith, at.below) in
            let inside : at.place < size g = omega arith in
            let e : 0 + at.place ≡ at.place = omega arith in
            let is : from.from ≡ (at.place, id_at ids at.place) =
            sym (at.holds (0, 0)) ∙ get_or-enumerate_from 0 ids at.place (0, 0) low ∙ ap (λ k. (k, id_at ids at.place)) e in (
              at.place,
              claim_there at.place,
              told_claim g s at.place inside,
              subst (λ x. IsRowClaim ids x at.place (claim_there at.place)) (sym (from.holds ∙ ap row is)) (row_claim at.place inside),
            )

        others : (v : ℕ) (c : Claim) → claim_at (claims_of g s) v ≡ Some c → (v < size g) ⊎ (size g ≤ v)
            → (r : EntryRow) × IsMember r (map row (enumerate_from 0 ids)) × IsRowClaim ids r v c
        others v c is (inl low) =
            let long = length-enumerate_from 0 ids in
            let inside : v < length ids = omega arith in
            let e : 0 + v ≡ v = omega arith in
            let here : get_or (enumerate_from 0 ids) v (0, 0) ≡ (v, id_at ids v) =
            get_or-enumerate_from 0 ids v (0, 0) inside ∙ ap (λ k. (k, id_at ids v)) e in
            let listed = place-member (enumerate_from 0 ids) v (0, 0) (omega arith) in
            let both : Some (claim_there v) ≡ Some c = sym (told_claim g s v low) ∙ is in
            let same : claim_there v ≡ c = cc in (
              row (v, id_at ids v),
              member-map row (v, id_at ids v) (enumerate_from 0 ids) (subst (λ x. IsMember x (enumerate_from 0 ids)) here listed),
              subst (IsRowClaim ids (row (v, id_at ids v)) v) same (row_claim v low),
            )
        others v c is (inr past) =
            let long = length-map-range_with_len (claim_of g s) 0 (size g) in
            let wrong : None ≡ Some c = sym (get_or_past (claims_of g s) v None (omega arith)) ∙ is in absurd (cc)

-- ---- both

module _ (text : List ℕ) (named : NamedGame) (s : GameSolution) (game : IsReadAs text named) (solves : IsSolution named.game s) where
  abbrev out : List ℕ
  out = solution_text named s

  abbrev all : List ℕ
  all = text ++ out

  abbrev ids : List ℕ
  ids = named.ids

  abbrev lines : List ℕ
  lines = flat_map (vertex_line ids named.game.owner s) (enumerate_from 0 ids)

  abbrev greatest : ℕ
  greatest = id_at ids (length ids - 1)

  begins : (j : ℕ) → word_from 0 j out ≡ Some j
  begins j = here_byte j 112 ((codes "aritysol" ++ next (number greatest) ++ line_end) ++ lines) refl

  stands : word_in all ≡ Some (length text)
  stands = word_in-sought all ∙ word_behind out begins text (quiet text named game)

  left : drop (length text + 9) all ≡ 32 ∷ (number greatest ++ 59 ∷ 10 ∷ lines)
  left =
      sym (drop-drop 9 (length text) all)
      ∙ ap (drop 9) (drop-append_seam text out)
      ∙ ap (λ xs. 32 ∷ xs) (append_assoc (number greatest) line_end lines)

  ok : IsGame named.game
  ok = game.stands.is_game.is_named.game

  sizes : length ids ≡ size named.game
  sizes = game.stands.is_game.is_named.has_ids.0

  small_at : (k : ℕ) → k < length ids → id_at ids k ≤ greatest_number
  small_at k low = small_ids text named game (id_at ids k) (place-member ids k 0 low)

  all_lines : Lines (owner_of named.game) (winner_at s.winner) (to ids named.game s ok solves sizes) 0 [] ids
  all_lines = record {
    before = λ x y m n. absurd m;
    ascends = game.stands.is_game.is_named.ascends;
    few = omega (arith, few_ids text named game);
    small = small_ids text named game;
    moves = λ k low. small_at (choice_at s.choice k) (choice_low ids named.game s ok solves sizes k (omega (arith, sizes)));
  }

  abbrev state : EntryState
  state = at_vertex (map (row ids named.game s ok solves sizes) (enumerate_from 0 ids)) ids

  comes : entries_come (length all) start (signs_from all (length text + 9)) ≡ Ok state
  unfolding signs_from
  comes =
      ap (λ xs. entries_come (length all) start (signs_in (tokens_at 0 (length text + 9) xs))) left
      ∙ written_comes (length all) (owner_of named.game) (winner_at s.winner) (to ids named.game s ok solves sizes)
      (length text + 9) greatest ids all_lines
      (small_at (length ids - 1) (omega (arith, sizes, game.stands.is_game.is_named.has_ids.1)))

  front : IsReadAs (take (length text) all) named
  front = subst (λ xs. IsReadAs xs named) (sym (take-append_seam text out)) game

  written_checked : IsCheckedAs all named (claims_of named.game s)
  written_checked =
      checked all (length text) stands (length text + 9) refl state comes named front ids
      (map (row ids named.game s ok solves sizes) (enumerate_from 0 ids)) refl refl (claims_of named.game s)
      (solution_rows ids named.game s ok solves sizes)

  written_right : IsWrittenRight text named s
  written_right = record {
    is_read = written_checked;
    is_accepted = record {
      named = named;
      claims = claims_of named.game s;
      is_read = written_checked;
      is_found = record { answer = Right; is_verdict = solutions_are_right named.game s ok solves; is_told = refl };
    };
  }

pub written_is_accepted : WrittenIsAccepted
written_is_accepted text named s game solves = written_right text named s game solves
