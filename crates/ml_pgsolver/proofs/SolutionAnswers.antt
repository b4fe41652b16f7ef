-- What is answered to a solution.
--
--   WholeSolution ts s     == the tokens are those of a draft without a fault, and s is what the reader knows of it
--   whole_solution         == a solution that is read to its end is whole
--   no_fault_of            == so it has no fault
--   small_entry_number     == where no token is at fault, no number is too large
--   solution_or_fault      == tokens are those of a solution without a fault, or have a first fault
use Rattle.std.proofs.Common.{◌≡◌, ℕ, ◌<◌, ◌≤◌, ◌⊎◌, ⊎_elim, List, ◌∷◌, ◌++◌, map, Ok, Err, refl, sym, ◌∙◌, subst, inl, inr}
use Rattle.std.specs.List.{flat_map}
use Rattle.std.proofs.lemmas.List.{append-nil}
use Rattle.std.proofs.lemmas.Simd.{map-map}
use Rattle.std.proofs.lemmas.Bool.{cases_lt}
use Rattle.ml_lines.specs.Reading.{value}
use Rattle.ml_lists.specs.Member.{IsMember}
use Rattle.ml_lists.specs.Times.{IsApart}
use Rattle.ml_pgsolver.specs.Laws.{SolutionOrFault}
use Rattle.ml_pgsolver.specs.Refusals.{Cause, HasNoFaultIn, IsFaultyIn, IsFirstFaultIn, Repeated, Syntax, TooLarge, TooMany, greatest_number, roles_from}
use Rattle.ml_pgsolver.specs.SolutionGrammar.{SolutionDraft, reference_at_place, solution_form, solution_tokens}
use Rattle.ml_pgsolver.specs.Tokens.{Placed, Token, Number, signs_of}
use Rattle.ml_pgsolver.specs.declared.entries.EntryRow.{EntryRow}
use Rattle.ml_pgsolver.specs.declared.entries.EntryStage.TheVariants as stage
use Rattle.ml_pgsolver.specs.declared.refusal.GameTextRefusal.{GameTextRefusal}
use Rattle.ml_pgsolver.specs.declared.refusal.GameTextRefusal.TheVariants as refusal
use Rattle.ml_pgsolver.specs.private.EntryMachine.{EntryState, EntryStep, entries_come, start}
use Rattle.ml_pgsolver.specs.private.Signs.{signs_in}
use Rattle.ml_pgsolver.proofs.Ended.{member_cut}
use Rattle.ml_pgsolver.proofs.SolutionComings.{entry_references, entry_row, image, stage_of, vertex_of}
use Rattle.ml_pgsolver.proofs.SolutionOutcomes.{Comes, Read, RefusedIn, comes}
use Rattle.ml_pgsolver.proofs.SolutionTrees.{Body, Close, HeaderEnd, Move, Reading, Vertex, Winner, Word, ended-draft}

abbrev pub IsFaultless : List Token → Type 0
IsFaultless ts =
    (c : Cause) (b : List Token) (t : Token) (behind : List Token) → ts ≡ b ++ t ∷ behind → IsFaultyIn solution_form c b t → ⊥

pub record WholeSolution (ts : List Token) (s : EntryState) : Type 0 where
  pub draft : SolutionDraft
  pub spelled : ts ≡ solution_tokens draft
  pub rows : s.rows ≡ map entry_row draft.entries
  pub apart_rows : IsApart (map (λ r. r.vertex) (map entry_row draft.entries))
  pub references : roles_from reference_at_place 1 ts ≡ flat_map entry_references draft.entries
  pub faultless : IsFaultless ts

whole : (ts : List Token) (q : Reading) → Read ts q → stage_of q ≡ stage.Vertex → WholeSolution ts (image q)
whole ts (Body h es Vertex) read is = record {
  draft = record { header = h; entries = es };
  spelled = ended-draft ts h es read.run;
  rows = refl;
  apart_rows = subst IsApart (append-nil (map vertex_of es) ∙ sym (map-map (λ (r : EntryRow). r.vertex) entry_row es)) read.apart;
  references = read.references ∙ append-nil (flat_map entry_references es);
  faultless = read.faultless;
}
whole ts (Body h es (Winner v)) read is = absurd (cc)
whole ts (Body h es (Move v winner)) read is = absurd (cc)
whole ts (Body h es (Close v winner to)) read is = absurd (cc)
whole ts Word read is = absurd (cc)
whole ts (HeaderEnd digits) read is = absurd (cc)

pub whole_solution : (all : List Placed) (end : ℕ) (s : EntryState)
    → entries_come end start (signs_in all) ≡ Ok s
    → WholeSolution (signs_of all) s
whole_solution all end s is =
    let done = subst (Comes all end) is (comes all end) in
    subst (WholeSolution (signs_of all)) (sym done.2) (whole (signs_of all) done.0 done.1 done.3)

pub refused_solution : (all : List Placed) (end : ℕ) (e : GameTextRefusal)
    → entries_come end start (signs_in all) ≡ Err e
    → RefusedIn all end e
refused_solution all end e is = subst (Comes all end) is (comes all end)

pub no_fault_of : (ts : List Token) (d : SolutionDraft) → ts ≡ solution_tokens d → IsFaultless ts → HasNoFaultIn solution_form ts
no_fault_of ts d spelled faultless c k (inl (b, t, there, faulty)) = faultless c b t there.behind there.all faulty
no_fault_of ts d spelled faultless c k (inr (is, ends)) = ends.2 (d, spelled)

pub small_entry_number : (ts : List Token) → IsFaultless ts → (digits : List ℕ) → IsMember (Number digits) ts
    → value digits ≤ greatest_number
small_entry_number ts faultless digits member =
    let cut = member_cut (Number digits) ts member in
    ⊎_elim (λ (large : greatest_number < value digits).
    absurd (faultless TooLarge cut.front (Number digits) cut.rest cut.all (digits, refl, large)))
    (λ (small : value digits ≤ greatest_number). small)
    (cases_lt greatest_number (value digits))

pub solution_or_fault : SolutionOrFault
solution_or_fault all = by (entries_come 0 start (signs_in all)) refl
  where
    by_refusal : (e : GameTextRefusal) → RefusedIn all 0 e
        → ((c : Cause) × (k : ℕ) × IsFirstFaultIn solution_form c (signs_of all) k)
    by_refusal (refusal.Syntax at) r = (Syntax, r.0, r.1)
    by_refusal (refusal.Repeated at) r = (Repeated, r.0, r.1)
    by_refusal (refusal.Unknown at) r = absurd r
    by_refusal (refusal.TooMany at) r = (TooMany, r.0, r.1)
    by_refusal (refusal.TooLarge at) r = (TooLarge, r.0, r.1)
    by_refusal refusal.NoMemory r = absurd r

    by : (out : EntryStep) → entries_come 0 start (signs_in all) ≡ out
        → ((d : SolutionDraft) × (signs_of all ≡ solution_tokens d) × HasNoFaultIn solution_form (signs_of all))
        ⊎ ((c : Cause) × (k : ℕ) × IsFirstFaultIn solution_form c (signs_of all) k)
    by (Ok s) is =
        let w = whole_solution all 0 s is in
        inl (w.draft, w.spelled, no_fault_of (signs_of all) w.draft w.spelled w.faultless)
    by (Err e) is = inr (by_refusal e (refused_solution all 0 e is))
