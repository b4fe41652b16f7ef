-- Each text of a game with a solution behind it has an answer.
--
--   some_claims         == the rows of entries have claims, or one of them has a stranger
--   some_checked_answer == a text is read, or refused
use Rattle.std.proofs.Common.{◌≡◌, ◌≢◌, ℕ, zero, suc, ◌+◌, ◌≤◌, ◌⊎◌, true, false, List, length, map, take, get_or, Option, Some, None, Ok, Err, refl, subst, arith, inl, inr, ⊎_elim}
use Rattle.std.proofs.Math.ListN.{set}
use Rattle.std.proofs.Math.Seq.{take-length}
use Rattle.ml_game_check.specs.RightClaims.{Claims}
use Rattle.ml_game_check.specs.declared.claims.Claim.{Claim}
use Rattle.ml_lists.specs.Member.{IsMember}
use Rattle.ml_lists.specs.Times.{IsApart}
use Rattle.ml_lists.proofs.Member.{member-place}
use Rattle.ml_parity.specs.declared.players.Player.TheVariants.{Even}
use Rattle.ml_pgsolver.specs.CheckedText.{IsCheckRefusedBy, IsCheckedAs, word_in}
use Rattle.ml_pgsolver.specs.GameText.{NamedGame}
use Rattle.ml_pgsolver.specs.Refusals.{HasNoFault, IsReadAs, IsRefusedBy}
use Rattle.ml_pgsolver.specs.Tokens.{signs_of, tokens}
use Rattle.ml_pgsolver.specs.declared.entries.EntryRow.{EntryRow}
use Rattle.ml_pgsolver.specs.declared.refusal.GameTextRefusal.{GameTextRefusal}
use Rattle.ml_pgsolver.specs.declared.refusal.GameTextRefusal.TheVariants as refusal
use Rattle.ml_pgsolver.specs.private.Claiming.{AreNoClaims, AreRowClaims, IsPlaceOf, IsRowClaim, RowHasStranger, RowsHaveStranger, move_ids, stranger_from}
use Rattle.ml_pgsolver.specs.private.EntryMachine.{EntryState, EntryStep, IsEntryTold, entries_come, start}
use Rattle.ml_pgsolver.specs.private.Machine.{is_among}
use Rattle.ml_pgsolver.specs.private.Signs.{signs_from}
use Rattle.ml_pgsolver.proofs.CheckedAnswers.{checked, entries_never_lack, entries_refused, entries_unknown, front_refused, game_unknown, no_word, read_faultless, rows_apart, unknown_faultless}
use Rattle.ml_pgsolver.proofs.Images.{among-cases}
use Rattle.ml_pgsolver.proofs.RowClaims.{enter_step, entered_none, no_claims_more, no_claims_none, row_stranger}
use Rattle.ml_pgsolver.proofs.SomeAnswers.{some_answer}
use Rattle.ml_pgsolver.proofs.OneChecked.{unknown_told}

-- ---- claims

abbrev Among : List ℕ → ℕ → Type 0
Among ids n = ((is_among ids n ≡ true) × IsMember n ids) ⊎ ((is_among ids n ≡ false) × (IsMember n ids → ⊥))

empty_places : (n : ℕ) → (cs : Claims) × AreNoClaims cs n
empty_places zero = (_, no_claims_none)
empty_places (suc n) =
    let before = empty_places n in
    let e : n + 1 ≡ suc n = omega arith in
    (_, subst (AreNoClaims _) e (no_claims_more before.0 n before.1))

module _ (ids : List ℕ) where
  some_move : (to : Option ℕ)
      → ((n : ℕ) × IsMember n (move_ids to) × (IsMember n ids → ⊥)) ⊎ ((w : Option ℕ) × IsPlaceOf ids to w)
  some_move None = inr (None, tt)
  some_move (Some n) = by (among-cases ids n)
    where
      by : Among ids n
          → ((m : ℕ) × IsMember m (move_ids (Some n)) × (IsMember m ids → ⊥)) ⊎ ((w : Option ℕ) × IsPlaceOf ids (Some n) w)
      by (inl (is, member)) = let at = member-place n ids member in inr (Some at.place, (at.below, at.holds 0))
      by (inr (is, none)) = inl (n, inl refl, none)

  abbrev SomeRowClaim : EntryRow → Type 0
  SomeRowClaim row = (v : ℕ) × (c : Claim) × IsRowClaim ids row v c

  some_row_claim : (row : EntryRow) → RowHasStranger ids row ⊎ SomeRowClaim row
  some_row_claim row = by (among-cases ids row.vertex) (some_move row.move_to)
    where
      by : Among ids row.vertex
          → ((n : ℕ) × IsMember n (move_ids row.move_to) × (IsMember n ids → ⊥)) ⊎ ((w : Option ℕ) × IsPlaceOf ids row.move_to w)
          → RowHasStranger ids row ⊎ SomeRowClaim row
      by (inr (is, none)) move = inl (row.vertex, inl refl, none)
      by (inl x) (inl (n, member, none)) = inl (n, inr member, none)
      by (inl (is, member)) (inr (w, there)) =
          let at = member-place row.vertex ids member in
          inr (
            at.place,
            record { winner = row.winner; move_to = w },
            record { within = at.below; vertex = at.holds 0; winner = refl; move_to = there },
          )

  module _ (rows : List EntryRow) (apart : IsApart (map (λ r. r.vertex) rows)) where
    abbrev ClaimsTo : ℕ → Type 0
    ClaimsTo n = (cs : Claims) × AreRowClaims ids (take n rows) cs

    no_row : EntryRow
    no_row = record { vertex = 0; winner = Even; move_to = None }

    claims_to : (n : ℕ) → n ≤ length rows → RowsHaveStranger ids rows ⊎ ClaimsTo n
    claims_to zero low = let none = empty_places (length ids) in inr (none.0, entered_none ids none.0 none.1)
    claims_to (suc n) low = more (claims_to n (omega arith)) (some_row_claim (get_or rows n no_row))
      where
        more : RowsHaveStranger ids rows ⊎ ClaimsTo n
            → RowHasStranger ids (get_or rows n no_row) ⊎ SomeRowClaim (get_or rows n no_row)
            → RowsHaveStranger ids rows ⊎ ClaimsTo (suc n)
        more (inl strange) next = inl strange
        more (inr before) (inl strange) = inl (row_stranger ids rows n no_row (omega arith) strange)
        more (inr before) (inr (v, c, is)) =
            let e : n + 1 ≡ suc n = omega arith in
            inr (
              set before.0 v (Some c),
              subst (λ k. AreRowClaims ids (take k rows) (set before.0 v (Some c))) e
                  (enter_step ids rows before.0 n no_row v c (omega arith) apart before.1 is),
            )

    some_claims : RowsHaveStranger ids rows ⊎ ((cs : Claims) × AreRowClaims ids rows cs)
    some_claims = all (claims_to (length rows) (omega arith))
      where
        all : RowsHaveStranger ids rows ⊎ ClaimsTo (length rows)
            → RowsHaveStranger ids rows ⊎ ((cs : Claims) × AreRowClaims ids rows cs)
        all (inl strange) = inl strange
        all (inr (cs, are)) = inr (cs, subst (λ rs. AreRowClaims ids rs cs) (take-length rows) are)

-- ---- answers

abbrev pub IsRefused : List ℕ → Type 0
IsRefused text = (e : GameTextRefusal) × (e ≢ refusal.NoMemory) × IsCheckRefusedBy text e

abbrev pub CheckedAnswer : List ℕ → Type 0
CheckedAnswer text = ((g : NamedGame) × (cs : Claims) × IsCheckedAs text g cs) ⊎ IsRefused text

no_word_answer : (text : List ℕ) → word_in text ≡ None → HasNoFault (signs_of (tokens text)) → CheckedAnswer text
no_word_answer text is faultless = inr (refusal.Syntax (length text), (λ e. cc), no_word text is faultless)

module _ (text : List ℕ) (i : ℕ) (word : word_in text ≡ Some i) where
  abbrev out : EntryStep
  out = entries_come (length text) start (signs_from text (i + 9))

  -- where the solution is refused
  behind_answer : HasNoFault (signs_of (tokens (take i text))) → (e : GameTextRefusal) → out ≡ Err e → IsRefused text
  behind_answer faultless e is = (
    e,
    entries_never_lack text i word (i + 9) refl e is,
    entries_refused text i word (i + 9) refl faultless e (told_of e is),
  )
    where
      told_of : (d : GameTextRefusal) → out ≡ Err d → IsEntryTold d out
      told_of (refusal.Syntax at) is = is
      told_of (refusal.Repeated at) is = is
      told_of (refusal.Unknown at) is = is
      told_of (refusal.TooMany at) is = is
      told_of (refusal.TooLarge at) is = is
      told_of refusal.NoMemory is = tt

  whole_answer : (named : NamedGame) (game : IsReadAs (take i text) named) (s : EntryState)
      → out ≡ Ok s
      → CheckedAnswer text
  whole_answer named game s is =
      ⊎_elim
      (λ (strange : RowsHaveStranger named.ids s.rows).
      let at = stranger_from named.ids (length text) 1 (signs_from text (i + 9)) in
      inr (
        refusal.Unknown at,
        unknown_told at,
        entries_unknown text i word (i + 9) refl s is named game named.ids s.rows refl refl strange at refl,
      ))
      (λ (made : (cs : Claims) × AreRowClaims named.ids s.rows cs).
      inl (named, made.0, checked text i word (i + 9) refl s is named game named.ids s.rows refl refl made.0 made.1))
      (some_claims named.ids s.rows (rows_apart text i word (i + 9) refl s is))

  -- where the game's text is read
  game_answer : (named : NamedGame) → IsReadAs (take i text) named → (o : EntryStep) → out ≡ o → CheckedAnswer text
  game_answer named game (Ok s) is = whole_answer named game s is
  game_answer named game (Err e) is = inr (behind_answer (read_faultless (take i text) named game) e is)

  -- where a successor in it is no id
  unknown_answer : (at : ℕ)
      → IsRefusedBy (take i text) (refusal.Unknown at)
      → (o : EntryStep)
      → out ≡ o
      → CheckedAnswer text
  unknown_answer at refused (Ok s) is =
      inr (refusal.Unknown at, unknown_told at, game_unknown text i word (i + 9) refl s is at refused)
  unknown_answer at refused (Err e) is = inr (behind_answer (unknown_faultless (take i text) at refused) e is)

pub some_checked_answer : (text : List ℕ) → CheckedAnswer text
some_checked_answer text = by_word (word_in text) refl
  where
    without : (e : GameTextRefusal)
        → word_in text ≡ None
        → e ≢ refusal.NoMemory
        → IsRefusedBy text e
        → CheckedAnswer text
    without (refusal.Unknown at) is told refused = no_word_answer text is (unknown_faultless text at refused)
    without e is told refused = inr (e, told, front_refused text None is e (λ at same. cc) refused)

    with_word : (i : ℕ)
        → word_in text ≡ Some i
        → (e : GameTextRefusal)
        → e ≢ refusal.NoMemory
        → IsRefusedBy (take i text) e
        → CheckedAnswer text
    with_word i is (refusal.Unknown at) told refused =
        unknown_answer text i is at refused (entries_come (length text) start (signs_from text (i + 9))) refl
    with_word i is e told refused = inr (e, told, front_refused text (Some i) is e (λ at same. cc) refused)

    by_word : (o : Option ℕ) → word_in text ≡ o → CheckedAnswer text
    by_word None is =
        ⊎_elim
        (λ (read : (g : NamedGame) × IsReadAs text g). no_word_answer text is (read_faultless text read.0 read.1))
        (λ (refused : (e : GameTextRefusal) × (e ≢ refusal.NoMemory) × IsRefusedBy text e).
        without refused.0 is refused.1 refused.2)
        (some_answer text)
    by_word (Some i) is =
        ⊎_elim
        (λ (read : (g : NamedGame) × IsReadAs (take i text) g).
        game_answer text i is read.0 read.1 (entries_come (length text) start (signs_from text (i + 9))) refl)
        (λ (refused : (e : GameTextRefusal) × (e ≢ refusal.NoMemory) × IsRefusedBy (take i text) e).
        with_word i is refused.0 refused.1 refused.2)
        (some_answer (take i text))
