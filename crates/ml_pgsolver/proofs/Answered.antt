-- What is answered to a text.
--
--   answered_whole    == a text that is read to its end is whole
--   answered_refused  == a refusal on the way is right
--   answered_game     == the game of the rows of a whole text is that of the text
--   answered_unknown  == so is the refusal where some successor is no id
use Rattle.std.proofs.Common.{◌≡◌, ℕ, List, length, map, Ok, Err, refl, sym, ◌∙◌, ap, subst}
use Rattle.std.specs.List.{flat_map}
use Rattle.ml_lists.specs.Member.{IsMember}
use Rattle.ml_pgsolver.specs.Tokens.{tokens, signs_of}
use Rattle.ml_pgsolver.specs.GameText.{Row, NamedGame, IsGameOf}
use Rattle.ml_pgsolver.specs.Refusals.{IsReadAs, IsRefusedBy, ids_of}
use Rattle.ml_pgsolver.specs.declared.refusal.GameTextRefusal.{GameTextRefusal}
use Rattle.ml_pgsolver.specs.declared.refusal.GameTextRefusal.TheVariants as refusal
use Rattle.ml_pgsolver.specs.private.Assembled.{HasUnknownIn, unknown_from}
use Rattle.ml_pgsolver.specs.private.Machine.{State, Step, start, outcome_from, IsTold}
use Rattle.ml_pgsolver.specs.private.Signs.{signs_in, signs_from}
use Rattle.ml_pgsolver.proofs.Ended.{Whole, whole, small_number, no_fault_of}
use Rattle.ml_pgsolver.proofs.FirstStranger.{first_stranger}
use Rattle.ml_pgsolver.proofs.FirstUnknown.{stranger_among, successors}
use Rattle.ml_pgsolver.proofs.Outcomes.{Comes, RefusedIn, comes}

abbrev pub outcome_of : List ℕ → Step
outcome_of text = outcome_from (length text) start (signs_from text 0)

signs-all : (text : List ℕ) → signs_from text 0 ≡ signs_in (tokens text)
unfolding signs_from tokens
signs-all text = refl

outcome_comes : (text : List ℕ) → Comes (tokens text) (length text) (outcome_of text)
outcome_comes text =
    subst (λ ts. Comes (tokens text) (length text) (outcome_from (length text) start ts)) (sym (signs-all text))
    (comes (tokens text) (length text))

pub answered_whole : (text : List ℕ) (s : State) → outcome_of text ≡ Ok s → Whole (signs_of (tokens text)) s
answered_whole text s is =
    let done = subst (Comes (tokens text) (length text)) is (outcome_comes text) in
    subst (Whole (signs_of (tokens text))) (sym done.2) (whole (signs_of (tokens text)) done.0 done.1 done.3)

pub refused_so : (text : List ℕ) (e : GameTextRefusal) → outcome_of text ≡ Err e → RefusedIn (tokens text) (length text) e
refused_so text e is = subst (Comes (tokens text) (length text)) is (outcome_comes text)

pub answered_refused : (text : List ℕ) (e : GameTextRefusal) → IsTold e (outcome_of text) → IsRefusedBy text e
answered_refused text (refusal.Syntax at) is = refused_so text (refusal.Syntax at) is
answered_refused text (refusal.Repeated at) is = refused_so text (refusal.Repeated at) is
answered_refused text (refusal.Unknown at) is = absurd (refused_so text (refusal.Unknown at) is)
answered_refused text (refusal.TooMany at) is = refused_so text (refusal.TooMany at) is
answered_refused text (refusal.TooLarge at) is = refused_so text (refusal.TooLarge at) is
answered_refused text refusal.NoMemory is = tt

pub answered_game : (text : List ℕ) (s : State) (named : NamedGame) → Whole (signs_of (tokens text)) s → IsGameOf s.rows named
    → IsReadAs text named
answered_game text s named w game = record {
  stands = record { draft = w.draft; spelled = w.spelled; is_game = subst (λ rows. IsGameOf rows named) w.rows game };
  faultless = no_fault_of (signs_of (tokens text)) w.draft w.spelled w.faultless;
}

pub answered_unknown : (text : List ℕ) (s : State) → Whole (signs_of (tokens text)) s
    → HasUnknownIn (map (λ r. r.id) s.rows) s.rows
    → IsRefusedBy text (refusal.Unknown (unknown_from s.ids (length text) 0 (signs_from text 0)))
answered_unknown text s w unknown =
    let ts = signs_of (tokens text) in
    let ids : map (λ (r : Row). r.id) s.rows ≡ s.ids = ap (map (λ (r : Row). r.id)) w.rows ∙ sym w.ids in
    let there = stranger_among s.ids (map (λ (r : Row). r.id) s.rows) s.rows ts
    (w.successors_there ∙ ap (flat_map (λ (r : Row). r.successors)) (sym w.rows)) ids unknown in
    let found = first_stranger s.ids successors (length text) (tokens text) (small_number ts w.faultless) there in
    let f = found.1 in
    let same : s.ids ≡ ids_of ts = w.ids ∙ sym w.ids_there in (
      found.0,
      record {
        faultless = no_fault_of ts w.draft w.spelled w.faultless;
        comes = (f.before, f.token, f.there, (f.strange.0, f.strange.1, subst (λ xs. IsMember f.strange.0 xs → ⊥) same f.strange.2));
        first = λ j other. f.first j other.0 other.1 other.2
            (other.3.0, other.3.1, subst (λ xs. IsMember other.3.0 xs → ⊥) (sym same) other.3.2);
      },
      ap (unknown_from s.ids (length text) 0) (signs-all text) ∙ found.2,
    )
