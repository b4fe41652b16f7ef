-- What the reader of solutions makes of the text of a solution.
--
--   GoesOn end i xs s ys t == behind some bytes of a text only ys is left, and the reader has come from s to t
--   over_blank, over_semicolon, over_number == over a blank, a `;`, a number
--   row_of                 == what is read of a vertex
--   over_line, over_lines, over_head == over the line of a vertex, over all of these lines, over the first line
--   written_comes          == over the whole text
use Rattle.std.proofs.Common.{◌≡◌, ◌⊎◌, ℕ, ◌+◌, ◌-◌, ◌<◌, ◌≤◌, Bool, true, false, List, [], ◌∷◌, ◌++◌, length, map, Option, Some, None, Ok, inl, inr, refl, sym, ◌∙◌, ap, ap₂, subst, arith, nat_le, length-append}
use Rattle.std.specs.Char.{is_ascii_digit}
use Rattle.std.specs.List.{enumerate_from, flat_map, take_while}
use Rattle.std.specs.Str.{all_ascii_digits}
use Rattle.std.proofs.Math.Seq.{drop-append_seam}
use Rattle.std.proofs.lemmas.Bool.{and_parts, cond-false, cond-true, le-leb, leb-true}
use Rattle.std.proofs.lemmas.Bool.Decides.{nat_tests}
use Rattle.std.proofs.lemmas.Fmt.{decimal_digit, decimal_nonempty}
use Rattle.std.proofs.lemmas.List.{append-nil, append_assoc}
use Rattle.ml_lines.specs.Lines.{next, number}
use Rattle.ml_lines.specs.Reading.{value}
use Rattle.ml_lines.proofs.Numbers.{digits-number, value-number}
use Rattle.ml_lists.specs.Ascending.{IsAscending}
use Rattle.ml_lists.specs.Member.{IsMember}
use Rattle.ml_lists.proofs.Member.{member-append}
use Rattle.ml_game_check.specs.Laws.{move_of}
use Rattle.ml_parity.specs.declared.players.Player.{Player}
use Rattle.ml_parity.specs.declared.players.Player.TheVariants.{Even, Odd}
use Rattle.ml_text.specs.Bytes.{is_blank, is_digit}
use Rattle.ml_pgsolver.specs.Refusals.{greatest_number, most_vertices}
use Rattle.ml_pgsolver.specs.SolutionText.{line_end, line_of, move_text, player_number}
use Rattle.ml_pgsolver.specs.Tokens.{Number, front_token, spelling, tokens_at}
use Rattle.ml_pgsolver.specs.declared.entries.EntryRow.{EntryRow}
use Rattle.ml_pgsolver.specs.declared.entries.EntryStage.TheVariants as stage
use Rattle.ml_pgsolver.specs.declared.scan.Numeral.{Numeral}
use Rattle.ml_pgsolver.specs.declared.scan.Sign.TheVariants as sign
use Rattle.ml_pgsolver.specs.private.EntryMachine.{EntryState, EntryStep, entries_come, entry_behind, entry_step, start}
use Rattle.ml_pgsolver.specs.private.Machine.{is_among}
use Rattle.ml_pgsolver.specs.private.Signs.{fitting, numeral_of, owner_named, sign_of, signs_in}
use Rattle.ml_pgsolver.proofs.FirstTokens.{skipped, tokens_at-blank, tokens_at-token}
use Rattle.ml_pgsolver.proofs.Images.{among-cases}
use Rattle.ml_pgsolver.proofs.LongestTokens.{run_ended}

-- ---- digits

digit_members : (ds : List ℕ) → all_ascii_digits ds ≡ true → (b : ℕ) → IsMember b ds → is_digit b ≡ true
digit_members [] all b m = absurd m
digit_members (d ∷ ds) all b (inl same) =
    let parts = and_parts (is_ascii_digit d) (all_ascii_digits ds) all in ap is_digit same ∙ parts.0
digit_members (d ∷ ds) all b (inr m) =
    let parts = and_parts (is_ascii_digit d) (all_ascii_digits ds) all in digit_members ds parts.1 b m

digit_no_blank : (b : ℕ) → is_digit b ≡ true → is_blank b ≡ false
digit_no_blank b digit = grind (arith, nat_tests)

-- ---- what is read of lines

abbrev pub at_vertex : List EntryRow → List ℕ → EntryState
at_vertex rows vs = record { stage = stage.Vertex; rows = rows; vertices = vs }

module _ (owner : ℕ → Player) (win : ℕ → Player) (to : ℕ → ℕ) where
  abbrev line : ℕ × ℕ → List ℕ
  line v = line_of v.1 (owner v.0) (win v.0) (to v.0)

  abbrev pub row_of : ℕ × ℕ → EntryRow
  row_of v = record { vertex = v.1; winner = win v.0; move_to = move_of (owner v.0) (win v.0) (to v.0) }

  moved : (o w : Player) (m n : ℕ) → move_of o w m ≡ Some n → m ≤ greatest_number → n ≤ greatest_number
  moved Even Even m n is low = let same : m ≡ n = cc in omega arith
  moved Odd Odd m n is low = let same : m ≡ n = cc in omega arith
  moved Even Odd m n is low = absurd (cc)
  moved Odd Even m n is low = absurd (cc)

  pub record Lines (v : ℕ) (vs left : List ℕ) : Type 0 where
    pub before : (x y : ℕ) → IsMember x vs → IsMember y left → x < y
    pub ascends : IsAscending left
    pub few : length vs + length left ≤ most_vertices
    pub small : (y : ℕ) → IsMember y left → y ≤ greatest_number
    pub moves : (k : ℕ) → k < v + length left → to k ≤ greatest_number

  lines_on : (v y : ℕ) (vs ys : List ℕ) → Lines v vs (y ∷ ys) → Lines (v + 1) (vs ++ y ∷ []) ys
  lines_on v y vs ys ok = record {
    before = λ x z m n. by x z (member-append x vs (y ∷ []) m) n;
    ascends = ok.ascends.1;
    few = omega (arith, ok.few, length-append vs (y ∷ []));
    small = λ z n. ok.small z (inr n);
    moves = λ k low. ok.moves k (omega arith);
  }
    where
      by : (x z : ℕ) → IsMember x vs ⊎ IsMember x (y ∷ []) → IsMember z ys → x < z
      by x z (inl m) n = ok.before x z m (inr n)
      by x z (inr (inl same)) n = let above = ok.ascends.0 z n in omega arith
      by x z (inr (inr none)) n = absurd none

  new_id : (v y : ℕ) (vs ys : List ℕ) → Lines v vs (y ∷ ys) → is_among vs y ≡ false
  new_id v y vs ys ok = by (among-cases vs y)
    where
      by : ((is_among vs y ≡ true) × IsMember y vs) ⊎ ((is_among vs y ≡ false) × (IsMember y vs → ⊥))
          → is_among vs y ≡ false
      by (inl (is, m)) = let wrong = ok.before y y m (inl refl) in absurd (omega arith)
      by (inr (is, none)) = is

-- ---- over the bytes of a text

module _ (end : ℕ) where
  abbrev pub come : ℕ → List ℕ → EntryState → EntryStep
  come i xs s = entries_come end s (signs_in (tokens_at 0 i xs))

  abbrev pub GoesOn : ℕ → List ℕ → EntryState → List ℕ → EntryState → Type 0
  GoesOn i xs s ys t = (j : ℕ) × (come i xs s ≡ come j ys t)

  then_on : (i : ℕ) (xs ys zs : List ℕ) (s t u : EntryState) → GoesOn i xs s ys t → ((j : ℕ) → GoesOn j ys t zs u)
      → GoesOn i xs s zs u
  then_on i xs ys zs s t u (j, first) more = let m = more j in (m.0, first ∙ m.1)

  over_blank : (i b : ℕ) (rest : List ℕ) (s : EntryState) → is_blank b ≡ true → GoesOn i (b ∷ rest) s rest s
  over_blank i b rest s blank = (i + 1, ap (λ ps. entries_come end s (signs_in ps)) (tokens_at-blank i b rest blank))

  behind_step : (s t : EntryState) (out : EntryStep) (go : EntryState → EntryStep)
      → out ≡ Ok t
      → entry_behind out go ≡ go t
  behind_step s t out go is = ap (λ o. entry_behind o go) is

  over_semicolon : (i : ℕ) (rest : List ℕ) (s t : EntryState) → ((at : ℕ) → entry_step s sign.Semicolon at ≡ Ok t)
      → GoesOn i (59 ∷ rest) s rest t
  unfolding tokens_at entries_come
  over_semicolon i rest s t steps =
      (i + 1, behind_step s t (entry_step s sign.Semicolon i) (λ u. come (i + 1) rest u) (steps i))

  over_digits : (i d : ℕ) (ds : List ℕ) (c : ℕ) (rest : List ℕ) (s t : EntryState)
      → ((b : ℕ) → IsMember b (d ∷ ds) → is_digit b ≡ true)
      → is_digit c ≡ false
      → ((at : ℕ) → entry_step s (sign.Number (numeral_of (d ∷ ds))) at ≡ Ok t)
      → GoesOn i (d ∷ (ds ++ c ∷ rest)) s (c ∷ rest) t
  unfolding entries_come
  over_digits i d ds c rest s t all stops steps =
      let xs = ds ++ c ∷ rest in
      let digit = all d (inl refl) in
      let run : take_while is_digit xs ≡ ds = run_ended is_digit ds rest c (λ b m. all b (inr m)) stops in
      let front : front_token d xs ≡ Number (d ∷ ds) =
      cond-true _ _ _ digit ∙ ap (λ es. Number (d ∷ es)) run in
      let size : length (d ∷ ds) - 1 ≡ length ds = omega arith in
      let long = length-append ds (c ∷ rest) in
      let there : tokens_at (length (spelling (front_token d xs)) - 1) (i + 1) xs ≡ tokens_at 0 (i + 1 + length ds) (c ∷ rest) =
      ap (λ t. tokens_at (length (spelling t) - 1) (i + 1) xs) front
      ∙ ap (λ k. tokens_at k (i + 1) xs) size
      ∙ skipped (length ds) (i + 1) xs (omega arith)
      ∙ ap (tokens_at 0 (i + 1 + length ds)) (drop-append_seam ds (c ∷ rest)) in (
        i + 1 + length ds,
        ap (λ ps. entries_come end s (signs_in ps)) (tokens_at-token i d xs (digit_no_blank d digit))
            ∙ ap (λ ps. entry_behind (entry_step s (sign_of (front_token d xs)) i) (λ u. entries_come end u (signs_in ps))) there
            ∙ ap (λ t. entry_behind (entry_step s (sign_of t) i) (λ u. come (i + 1 + length ds) (c ∷ rest) u)) front
            ∙ behind_step s t (entry_step s (sign.Number (numeral_of (d ∷ ds))) i) (λ u. come (i + 1 + length ds) (c ∷ rest) u)
            (steps i),
      )

  over_number : (i n c : ℕ) (rest : List ℕ) (s t : EntryState) → n ≤ greatest_number → is_digit c ≡ false
      → ((at : ℕ) → entry_step s (sign.Number (numeral_of (number n))) at ≡ Ok t)
      → GoesOn i (number n ++ c ∷ rest) s (c ∷ rest) t
  over_number i n c rest s t low stops steps =
      by (number n) (decimal_nonempty n (omega arith)) (digits-number n (omega arith)) steps
    where
      by : (ds : List ℕ) → 0 < length ds → all_ascii_digits ds ≡ true
          → ((at : ℕ) → entry_step s (sign.Number (numeral_of ds)) at ≡ Ok t)
          → GoesOn i (ds ++ c ∷ rest) s (c ∷ rest) t
      by [] some all go = absurd (omega arith)
      by (d ∷ ds) some all go = over_digits i d ds c rest s t (digit_members (d ∷ ds) all) stops go

  -- ---- a line

  numeral-number : (n : ℕ) → n ≤ greatest_number
      → numeral_of (number n) ≡ (let x : Numeral = record { value = Some n; owner = owner_named (number n) } in x)
  numeral-number n low =
      let same = value-number n (omega arith) in
      let fits : fitting (value (number n)) ≡ Some n =
      ap fitting same ∙ cond-true (nat_le n greatest_number) (Some n) None (le-leb n greatest_number low) in
      ap (λ o. let x : Numeral = record { value = o; owner = owner_named (number n) } in x) fits

  module _ (rows : List EntryRow) (vs : List ℕ) (id : ℕ) (w : Player) where
    abbrev more : List ℕ
    more = vs ++ id ∷ []

    abbrev at_winner : EntryState
    at_winner = record { stage = stage.Winner id; rows = rows; vertices = more }

    abbrev at_move : EntryState
    at_move = record { stage = stage.Move id w; rows = rows; vertices = more }

    abbrev at_close : ℕ → EntryState
    at_close m = record { stage = stage.Close id w m; rows = rows; vertices = more }

    abbrev row : Option ℕ → EntryRow
    row to = record { vertex = id; winner = w; move_to = to }

    vertex_step : (at : ℕ) → is_among vs id ≡ false → length vs < most_vertices → id ≤ greatest_number
        → entry_step (at_vertex rows vs) (sign.Number (numeral_of (number id))) at ≡ Ok at_winner
    vertex_step at new room low =
        ap (λ n. entry_step (at_vertex rows vs) (sign.Number n) at) (numeral-number id low)
        ∙ cond-false (is_among vs id) _ _ new
        ∙ cond-false (nat_le most_vertices (length vs)) _ _ (not_full (nat_le most_vertices (length vs)) refl)
      where
        not_full : (t : Bool) → nat_le most_vertices (length vs) ≡ t → t ≡ false
        not_full false is = refl
        not_full true is = let full = leb-true most_vertices (length vs) is in absurd (omega arith)

    winner_step : (at : ℕ) → entry_step at_winner (sign.Number (numeral_of (number (player_number w)))) at ≡ Ok at_move
    winner_step at = by w
      where
        by : (q : Player)
            → entry_step at_winner (sign.Number (numeral_of (number (player_number q)))) at
            ≡ Ok (record { stage = stage.Move id q; rows = rows; vertices = more })
        by Even = ap (λ ds. entry_step at_winner (sign.Number (numeral_of ds)) at) (decimal_digit 0 (omega arith))
        by Odd = ap (λ ds. entry_step at_winner (sign.Number (numeral_of ds)) at) (decimal_digit 1 (omega arith))

    move_step : (m at : ℕ)
        → m ≤ greatest_number
        → entry_step at_move (sign.Number (numeral_of (number m))) at ≡ Ok (at_close m)
    move_step m at low = ap (λ n. entry_step at_move (sign.Number n) at) (numeral-number m low)

    -- what stands behind the winner
    abbrev tail : Option ℕ → List ℕ
    tail None = []
    tail (Some m) = next (number m)

    over_tail : (i : ℕ) (to : Option ℕ) (rest : List ℕ) → ((m : ℕ) → to ≡ Some m → m ≤ greatest_number)
        → GoesOn i (tail to ++ 59 ∷ 10 ∷ rest) at_move rest (at_vertex (rows ++ row to ∷ []) more)
    over_tail i None rest low =
        then_on i (59 ∷ 10 ∷ rest) (10 ∷ rest) rest at_move (at_vertex (rows ++ row None ∷ []) more)
        (at_vertex (rows ++ row None ∷ []) more)
        (over_semicolon i (10 ∷ rest) at_move (at_vertex (rows ++ row None ∷ []) more) (λ at. refl))
        (λ j. over_blank j 10 rest (at_vertex (rows ++ row None ∷ []) more) refl)
    over_tail i (Some m) rest low =
        let done = at_vertex (rows ++ row (Some m) ∷ []) more in
        then_on i (32 ∷ (number m ++ 59 ∷ 10 ∷ rest)) (number m ++ 59 ∷ 10 ∷ rest) rest at_move at_move done
        (over_blank i 32 (number m ++ 59 ∷ 10 ∷ rest) at_move refl)
        (λ j.
        then_on j (number m ++ 59 ∷ 10 ∷ rest) (59 ∷ 10 ∷ rest) rest at_move (at_close m) done
        (over_number j m 59 (10 ∷ rest) at_move (at_close m) (low m refl) refl (λ at. move_step m at (low m refl)))
        (λ k.
        then_on k (59 ∷ 10 ∷ rest) (10 ∷ rest) rest (at_close m) done done
        (over_semicolon k (10 ∷ rest) (at_close m) done (λ at. refl))
        (λ l. over_blank l 10 rest done refl)))

    first_digit : (to : Option ℕ) (rest : List ℕ)
        → (c : ℕ) × (ys : List ℕ) × (tail to ++ 59 ∷ 10 ∷ rest ≡ c ∷ ys) × (is_digit c ≡ false)
    first_digit None rest = (59, 10 ∷ rest, refl, refl)
    first_digit (Some m) rest = (32, number m ++ 59 ∷ 10 ∷ rest, refl, refl)

    over_winner : (i : ℕ) (to : Option ℕ) (rest : List ℕ)
        → GoesOn i (number (player_number w) ++ (tail to ++ 59 ∷ 10 ∷ rest)) at_winner (tail to ++ 59 ∷ 10 ∷ rest) at_move
    over_winner i to rest =
        let f = first_digit to rest in
        subst (λ xs. GoesOn i (number (player_number w) ++ xs) at_winner xs at_move) (sym f.2)
        (over_number i (player_number w) f.0 f.1 at_winner at_move (small w) f.3 winner_step)
      where
        small : (q : Player) → player_number q ≤ greatest_number
        small Even = omega arith
        small Odd = omega arith

    over_entry : (i : ℕ) (to : Option ℕ) (rest : List ℕ) → is_among vs id ≡ false → length vs < most_vertices
        → id ≤ greatest_number
        → ((m : ℕ) → to ≡ Some m → m ≤ greatest_number)
        → GoesOn i (number id ++ 32 ∷ (number (player_number w) ++ (tail to ++ 59 ∷ 10 ∷ rest))) (at_vertex rows vs) rest
        (at_vertex (rows ++ row to ∷ []) more)
    over_entry i to rest new room low small =
        let behind = tail to ++ 59 ∷ 10 ∷ rest in
        let winner = number (player_number w) ++ behind in
        let done = at_vertex (rows ++ row to ∷ []) more in
        then_on i (number id ++ 32 ∷ winner) (32 ∷ winner) rest (at_vertex rows vs) at_winner done
        (over_number i id 32 winner (at_vertex rows vs) at_winner low refl (λ at. vertex_step at new room low))
        (λ j.
        then_on j (32 ∷ winner) winner rest at_winner at_winner done (over_blank j 32 winner at_winner refl)
        (λ k.
        then_on k winner behind rest at_winner at_move done (over_winner k to rest) (λ l. over_tail l to rest small)))

    -- the same, as it is written
    line-entry : (o : Player) (m : ℕ) (rest : List ℕ)
        → line_of id o w m ++ rest
        ≡ number id ++ 32 ∷ (number (player_number w) ++ (tail (move_of o w m) ++ 59 ∷ 10 ∷ rest))
    line-entry o m rest =
        let winner = next (number (player_number w)) in
        append_assoc (number id ++ winner ++ move_text o w m) line_end rest
        ∙ append_assoc (number id ++ winner) (move_text o w m) (line_end ++ rest)
        ∙ append_assoc (number id) winner (move_text o w m ++ (line_end ++ rest))
        ∙ ap (λ xs. number id ++ 32 ∷ (number (player_number w) ++ (xs ++ 59 ∷ 10 ∷ rest))) (same o w)
      where
        same : (q p : Player) → move_text q p m ≡ tail (move_of q p m)
        same Even Even = refl
        same Odd Odd = refl
        same Even Odd = refl
        same Odd Even = refl

  -- ---- the lines

  module _ (owner : ℕ → Player) (win : ℕ → Player) (to : ℕ → ℕ) where
    over_lines : (i v : ℕ) (vs left : List ℕ) (rows : List EntryRow) → Lines owner win to v vs left
        → come i (flat_map (line owner win to) (enumerate_from v left)) (at_vertex rows vs)
        ≡ Ok (at_vertex (rows ++ map (row_of owner win to) (enumerate_from v left)) (vs ++ left))
    unfolding tokens_at entries_come
    over_lines i v vs [] rows ok = ap₂ (λ rs xs. Ok (at_vertex rs xs)) (sym (append-nil rows)) (sym (append-nil vs))
    over_lines i v vs (y ∷ ys) rows ok =
        let rest = flat_map (line owner win to) (enumerate_from (v + 1) ys) in
        let more_rows = rows ++ row_of owner win to (v, y) ∷ [] in
        let goes = over_entry rows vs y (win v) i (move_of (owner v) (win v) (to v)) rest (new_id owner win to v y vs ys ok)
        (omega (arith, ok.few)) (ok.small y (inl refl))
        (λ m is. moved owner win to (owner v) (win v) (to v) m is (ok.moves v (omega arith))) in
        ap (λ xs. come i xs (at_vertex rows vs)) (line-entry rows vs y (win v) (owner v) (to v) rest)
        ∙ goes.1
        ∙ over_lines goes.0 (v + 1) (vs ++ y ∷ []) ys more_rows (lines_on owner win to v y vs ys ok)
        ∙ ap₂ (λ rs xs. Ok (at_vertex rs xs))
        (append_assoc rows (row_of owner win to (v, y) ∷ []) (map (row_of owner win to) (enumerate_from (v + 1) ys)))
        (append_assoc vs (y ∷ []) ys)

    -- behind the word: the greatest id, and the lines
    pub written_comes : (i greatest : ℕ) (ids : List ℕ) → Lines owner win to 0 [] ids → greatest ≤ greatest_number
        → come i (32 ∷ (number greatest ++ 59 ∷ 10 ∷ flat_map (line owner win to) (enumerate_from 0 ids))) start
        ≡ Ok (at_vertex (map (row_of owner win to) (enumerate_from 0 ids)) ids)
    written_comes i greatest ids ok low =
        let rest = flat_map (line owner win to) (enumerate_from 0 ids) in
        let at_end : EntryState = record { stage = stage.HeaderEnd; rows = []; vertices = [] } in
        let begun = at_vertex [] [] in
        let goes = then_on i (32 ∷ (number greatest ++ 59 ∷ 10 ∷ rest)) (number greatest ++ 59 ∷ 10 ∷ rest) rest start start begun
        (over_blank i 32 (number greatest ++ 59 ∷ 10 ∷ rest) start refl)
        (λ j.
        then_on j (number greatest ++ 59 ∷ 10 ∷ rest) (59 ∷ 10 ∷ rest) rest start at_end begun
        (over_number j greatest 59 (10 ∷ rest) start at_end low refl
        (λ at. ap (λ n. entry_step start (sign.Number n) at) (numeral-number greatest low)))
        (λ k.
        then_on k (59 ∷ 10 ∷ rest) (10 ∷ rest) rest at_end begun begun
        (over_semicolon k (10 ∷ rest) at_end begun (λ at. refl))
        (λ l. over_blank l 10 rest begun refl))) in
        goes.1 ∙ over_lines goes.0 0 [] ids [] ok
