-- What is answered to a game's text with a solution behind it.
--
--   front_refused     == the game's text is refused
--   no_word           == without the word, it ends too soon
--   entries_refused   == the solution is refused
--   entries_never_lack == and never for want of memory
--   checked           == claims that were made of a whole solution are those of the text
--   entries_unknown   == some id of an entry is none
--   game_unknown      == some successor is none
use Rattle.std.proofs.Common.{◌≡◌, ◌≢◌, ℕ, ◌+◌, List, [], length, take, map, Option, Some, None, Ok, Err, refl, sym, ◌∙◌, ap, subst, inl, inr}
use Rattle.ml_game_check.specs.RightClaims.{Claims}
use Rattle.ml_lists.specs.Times.{IsApart}
use Rattle.ml_pgsolver.specs.CheckedText.{ComesLast, IsCheckRefusedBy, IsCheckedAs, IsFirstStranger, game_part, part_before, solution_part, tokens_behind, word_in}
use Rattle.ml_pgsolver.specs.GameText.{NamedGame}
use Rattle.ml_pgsolver.specs.Refusals.{HasNoFault, HasNoFaultIn, IsReadAs, IsRefusedBy}
use Rattle.ml_pgsolver.specs.SolutionGrammar.{solution_form}
use Rattle.ml_pgsolver.specs.Tokens.{Placed, signs_of, tokens}
use Rattle.ml_pgsolver.specs.declared.entries.EntryRow.{EntryRow}
use Rattle.ml_pgsolver.specs.declared.refusal.GameTextRefusal.{GameTextRefusal}
use Rattle.ml_pgsolver.specs.declared.refusal.GameTextRefusal.TheVariants as refusal
use Rattle.ml_pgsolver.specs.private.Claiming.{AreRowClaims, RowsHaveStranger, stranger_from}
use Rattle.ml_pgsolver.specs.private.EntryMachine.{EntryState, EntryStep, IsEntryTold, entries_come, start}
use Rattle.ml_pgsolver.specs.private.Signs.{signs_from, signs_in}
use Rattle.ml_pgsolver.proofs.RowClaims.{entered_all}
use Rattle.ml_pgsolver.proofs.SolutionAnswers.{WholeSolution, no_fault_of, refused_solution, small_entry_number, whole_solution}
use Rattle.ml_pgsolver.proofs.SolutionComings.{entry_row}
use Rattle.ml_pgsolver.proofs.SolutionOutcomes.{RefusedIn}
use Rattle.ml_pgsolver.proofs.FirstStranger.{first_stranger}
use Rattle.ml_pgsolver.proofs.Strangers.{entry_stranger, references}

pub read_faultless : (text : List ℕ) (named : NamedGame) → IsReadAs text named → HasNoFault (signs_of (tokens text))
read_faultless text named is = is.faultless

pub unknown_faultless : (text : List ℕ) (at : ℕ) → IsRefusedBy text (refusal.Unknown at) → HasNoFault (signs_of (tokens text))
unknown_faultless text at is = is.1.faultless

pub front_refused : (text : List ℕ) (o : Option ℕ) → word_in text ≡ o → (e : GameTextRefusal)
    → ((at : ℕ) → e ≡ refusal.Unknown at → ⊥)
    → IsRefusedBy (part_before o text) e
    → IsCheckRefusedBy text e
front_refused text o is (refusal.Syntax at) known refused =
    inl (subst (λ w. IsRefusedBy (part_before w text) (refusal.Syntax at)) (sym is) refused)
front_refused text o is (refusal.Repeated at) known refused =
    inl (subst (λ w. IsRefusedBy (part_before w text) (refusal.Repeated at)) (sym is) refused)
front_refused text o is (refusal.Unknown at) known refused = absurd (known at refl)
front_refused text o is (refusal.TooMany at) known refused =
    inl (subst (λ w. IsRefusedBy (part_before w text) (refusal.TooMany at)) (sym is) refused)
front_refused text o is (refusal.TooLarge at) known refused =
    inl (subst (λ w. IsRefusedBy (part_before w text) (refusal.TooLarge at)) (sym is) refused)
front_refused text o is refusal.NoMemory known refused = tt

pub no_word : (text : List ℕ) → word_in text ≡ None → HasNoFault (signs_of (tokens text))
    → IsCheckRefusedBy text (refusal.Syntax (length text))
unfolding entries_come
no_word text is faultless =
    inr (
      subst (λ o. HasNoFault (signs_of (tokens (part_before o text)))) (sym is) faultless,
      subst (λ o. RefusedIn (tokens_behind o text) (length text) (refusal.Syntax (length text))) (sym is)
          (refused_solution [] (length text) (refusal.Syntax (length text)) refl),
    )

signs-behind : (text : List ℕ) (i : ℕ) → signs_from text (i + 9) ≡ signs_in (tokens_behind (Some i) text)
unfolding signs_from
signs-behind text i = refl

module _ (text : List ℕ) (i : ℕ) (word : word_in text ≡ Some i) (from : ℕ) (is_from : from ≡ i + 9) where
  abbrev solution : List Placed
  solution = solution_part text

  abbrev out : EntryStep
  out = entries_come (length text) start (signs_from text from)

  same_signs : signs_from text from ≡ signs_in solution
  same_signs = ap (signs_from text) is_from ∙ signs-behind text i ∙ ap (λ o. signs_in (tokens_behind o text)) (sym word)

  same_out : out ≡ entries_come (length text) start (signs_in solution)
  same_out = ap (entries_come (length text) start) same_signs

  faultless_front : HasNoFault (signs_of (tokens (take i text))) → HasNoFault (signs_of (tokens (game_part text)))
  faultless_front = subst (λ o. HasNoFault (signs_of (tokens (part_before o text)))) (sym word)

  pub whole_entries : (s : EntryState) → out ≡ Ok s → WholeSolution (signs_of solution) s
  whole_entries s is = whole_solution solution (length text) s (sym same_out ∙ is)

  refused_behind : (e : GameTextRefusal) → out ≡ Err e → RefusedIn solution (length text) e
  refused_behind e is = refused_solution solution (length text) e (sym same_out ∙ is)

  pub entries_refused : HasNoFault (signs_of (tokens (take i text))) → (e : GameTextRefusal) → IsEntryTold e out
      → IsCheckRefusedBy text e
  entries_refused faultless (refusal.Syntax at) told = inr (faultless_front faultless, refused_behind (refusal.Syntax at) told)
  entries_refused faultless (refusal.Repeated at) told =
      inr (faultless_front faultless, refused_behind (refusal.Repeated at) told)
  entries_refused faultless (refusal.Unknown at) told = absurd (refused_behind (refusal.Unknown at) told)
  entries_refused faultless (refusal.TooMany at) told =
      inr (faultless_front faultless, refused_behind (refusal.TooMany at) told)
  entries_refused faultless (refusal.TooLarge at) told =
      inr (faultless_front faultless, refused_behind (refusal.TooLarge at) told)
  entries_refused faultless refusal.NoMemory told = tt

  pub entries_never_lack : (e : GameTextRefusal) → out ≡ Err e → e ≢ refusal.NoMemory
  entries_never_lack e is lack = refused_behind refusal.NoMemory (is ∙ ap Err lack)

  module _ (s : EntryState) (is : out ≡ Ok s) where
    w : WholeSolution (signs_of solution) s
    w = whole_entries s is

    faultless_behind : HasNoFaultIn solution_form (signs_of solution)
    faultless_behind = no_fault_of (signs_of solution) w.draft w.spelled w.faultless

    pub rows_apart : IsApart (map (λ r. r.vertex) s.rows)
    rows_apart = subst (λ rows. IsApart (map (λ (r : EntryRow). r.vertex) rows)) (sym w.rows) w.apart_rows

    pub game_unknown : (at : ℕ) → IsRefusedBy (take i text) (refusal.Unknown at) → IsCheckRefusedBy text (refusal.Unknown at)
    game_unknown at refused = (
      faultless_behind,
      inl (subst (λ o. IsRefusedBy (part_before o text) (refusal.Unknown at)) (sym word) refused),
    )

    module _ (named : NamedGame) (front : IsReadAs (take i text) named) where
      game : IsReadAs (game_part text) named
      game = subst (λ o. IsReadAs (part_before o text) named) (sym word) front

      module _ (ids : List ℕ) (rows : List EntryRow) (are_ids : ids ≡ named.ids) (are_rows : s.rows ≡ rows) where
        pub checked : (cs : Claims) → AreRowClaims ids rows cs → IsCheckedAs text named cs
        checked cs are = record {
          game = game;
          draft = w.draft;
          spelled = w.spelled;
          faultless = faultless_behind;
          claims = entered_all named.ids w.draft.entries cs
              (subst (λ xs. AreRowClaims xs (map entry_row w.draft.entries) cs) are_ids
              (subst (λ rs. AreRowClaims ids rs cs) (sym are_rows ∙ w.rows) are));
        }

        pub entries_unknown : RowsHaveStranger ids rows
            → (at : ℕ)
            → at ≡ stranger_from ids (length text) 1 (signs_from text from)
            → ComesLast text at
        entries_unknown strange at is =
            let there = entry_stranger named.ids w.draft.entries (signs_of solution) w.references
            (subst (λ xs. RowsHaveStranger xs (map entry_row w.draft.entries)) are_ids
            (subst (RowsHaveStranger ids) (sym are_rows ∙ w.rows) strange)) in
            let small = small_entry_number (signs_of solution) w.faultless in
            let found = first_stranger named.ids references (length text) solution small there in
            let from_front : stranger_from ids (length text) 1 (signs_from text from)
            ≡ stranger_from named.ids (length text) 1 (signs_in solution) =
            ap (λ xs. stranger_from xs (length text) 1 (signs_from text from)) are_ids
            ∙ ap (stranger_from named.ids (length text) 1) same_signs in
            let f = found.1 in
            let first : IsFirstStranger named.ids (signs_of solution) found.0 = record {
              comes = (f.before, f.token, f.there, f.strange);
              first = λ j odd. f.first j odd.0 odd.1 odd.2 odd.3;
            } in
            (faultless_behind, inr (named, game, (found.0, first, is ∙ from_front ∙ found.2)))
