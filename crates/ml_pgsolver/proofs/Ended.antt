-- A text that was read to its end.
--
--   Whole ts s       == the tokens are those of a draft without a fault, and s is what the reader knows of it
--   whole            == what was read to its end is whole
--   whole_readable   == its rows can be put in order
--   small_number     == where no token is at fault, no number is too large
use Rattle.std.proofs.Common.{◌≡◌, ℕ, ◌<◌, ◌≤◌, ⊎_elim, List, [], ◌∷◌, ◌++◌, length, map, Option, refl, sym, ◌∙◌, ap, subst, arith, inl, inr}
use Rattle.std.specs.List.{flat_map}
use Rattle.std.proofs.lemmas.Bool.{cases_lt}
use Rattle.std.proofs.lemmas.List.{append-nil}
use Rattle.ml_lines.specs.Reading.{value}
use Rattle.ml_lists.specs.Member.{IsMember}
use Rattle.ml_lists.specs.Times.{IsApart}
use Rattle.ml_lists.proofs.Member.{member-append_right, member-flat_map, member-map_from, member-All}
use Rattle.ml_pgsolver.specs.Tokens.{Token, Number}
use Rattle.ml_pgsolver.specs.Grammar.{Vertex, Draft, vertices_of, vertex_tokens, header_tokens, draft_tokens}
use Rattle.ml_pgsolver.specs.GameText.{Row, row_of}
use Rattle.ml_pgsolver.specs.Refusals.{Cause, TooLarge, IsFaulty, HasNoFault, ids_of, successors_among, greatest_number, most_vertices}
use Rattle.ml_pgsolver.specs.declared.reader.Stage.TheVariants as stage
use Rattle.ml_pgsolver.specs.private.Assembled.{IsReadable}
use Rattle.ml_pgsolver.specs.private.Machine.{State}
use Rattle.ml_pgsolver.proofs.Trees.{Progress, Start, HeaderNumber, HeaderEnd, Body, Id, Priority, Owner, First, Behind, Further, Close}
use Rattle.ml_pgsolver.proofs.Viable.{ended-draft}
use Rattle.ml_pgsolver.proofs.Roles.{rows_of}
use Rattle.ml_pgsolver.proofs.Images.{image, stage_of}
use Rattle.ml_pgsolver.proofs.Readings.{Read}

-- a member of a list is one of its entries
pub record Cut {X : Type 0} (x : X) (xs : List X) : Type 0 where
  pub front : List X
  pub rest : List X
  pub all : xs ≡ front ++ x ∷ rest

pub member_cut : {X : Type 0} (x : X) (xs : List X) → IsMember x xs → Cut x xs
member_cut x [] member = absurd member
member_cut x (y ∷ ys) (inl e) = record { front = []; rest = ys; all = ap (λ z. z ∷ ys) (sym e) }
member_cut x (y ∷ ys) (inr member) =
    let cut = member_cut x ys member in record { front = y ∷ cut.front; rest = cut.rest; all = ap (λ zs. y ∷ zs) cut.all }

abbrev pub IsFaultless : List Token → Type 0
IsFaultless ts = (c : Cause) (b : List Token) (t : Token) (behind : List Token) → ts ≡ b ++ t ∷ behind → IsFaulty c b t → ⊥

pub small_number : (ts : List Token) → IsFaultless ts → (digits : List ℕ) → IsMember (Number digits) ts
    → value digits ≤ greatest_number
small_number ts faultless digits member =
    let cut = member_cut (Number digits) ts member in
    ⊎_elim (λ (large : greatest_number < value digits).
    absurd (faultless TooLarge cut.front (Number digits) cut.rest cut.all (digits, refl, large)))
    (λ (small : value digits ≤ greatest_number). small)
    (cases_lt greatest_number (value digits))

pub record Whole (ts : List Token) (s : State) : Type 0 where
  pub draft : Draft
  pub spelled : ts ≡ draft_tokens draft
  pub rows : s.rows ≡ map row_of (vertices_of draft)
  pub ids : s.ids ≡ map (λ r. r.id) (map row_of (vertices_of draft))
  pub ids_there : ids_of ts ≡ map (λ r. r.id) (map row_of (vertices_of draft))
  pub successors_there : successors_among ts ≡ flat_map (λ r. r.successors) (map row_of (vertices_of draft))
  pub apart : IsApart (map (λ r. r.id) (map row_of (vertices_of draft)))
  pub few : length s.ids ≤ most_vertices
  pub small : (n : ℕ) → IsMember n s.ids → n ≤ greatest_number
  pub faultless : IsFaultless ts

ended_body : (ts : List Token) (h : Option (List ℕ)) (v : Vertex) (vs : List Vertex) → Read ts (Body h (v ∷ vs) Id)
    → Whole ts (image (Body h (v ∷ vs) Id))
ended_body ts h v vs read =
    let rows = rows_of (v ∷ vs) in
    let ids = append-nil (map (λ (r : Row). r.id) rows) in
    record {
      draft = record { header = h; first = v; others = vs };
      spelled = ended-draft ts h v vs read.run;
      rows = refl;
      ids = ids;
      ids_there = read.ids ∙ ids;
      successors_there = read.successors ∙ append-nil (flat_map (λ (r : Row). r.successors) rows);
      apart = subst IsApart ids read.apart;
      few = read.few_ids;
      small = read.small;
      faultless = read.faultless;
    }

pub whole : (ts : List Token) (q : Progress) → Read ts q → stage_of q ≡ stage.NextVertex → Whole ts (image q)
whole ts (Body h (v ∷ vs) Id) read is = ended_body ts h v vs read
whole ts (Body h [] Id) read is = absurd (cc)
whole ts (Body h vs (Priority id)) read is = absurd (cc)
whole ts (Body h vs (Owner id priority)) read is = absurd (cc)
whole ts (Body h vs (First id priority owner)) read is = absurd (cc)
whole ts (Body h vs (Behind v)) read is = absurd (cc)
whole ts (Body h vs (Further v)) read is = absurd (cc)
whole ts (Body h vs (Close v)) read is = absurd (cc)
whole ts Start read is = absurd (cc)
whole ts HeaderNumber read is = absurd (cc)
whole ts (HeaderEnd digits) read is = absurd (cc)

priority_there : (d : Draft) (v : Vertex) → IsMember v (vertices_of d) → IsMember (Number v.priority) (draft_tokens d)
priority_there d v member =
    member-append_right (Number v.priority) (header_tokens d.header) (flat_map vertex_tokens (vertices_of d))
    (member-flat_map vertex_tokens v (Number v.priority) (vertices_of d) member (inr (inl refl)))

pub draft_readable : (ts : List Token) (d : Draft) → ts ≡ draft_tokens d → IsFaultless ts
    → IsApart (map (λ r. r.id) (map row_of (vertices_of d)))
    → IsReadable (map row_of (vertices_of d))
draft_readable ts d spelled faultless apart = record {
  some = omega arith;
  apart = apart;
  go_on = member-All (λ (r : Row). 0 < length r.successors) (map row_of (vertices_of d)) (λ r member.
      let from = member-map_from row_of r (vertices_of d) member in
      subst (λ (r : Row). 0 < length r.successors) (sym from.holds) (omega arith));
  small = member-All (λ (r : Row). r.priority ≤ greatest_number) (map row_of (vertices_of d)) (λ r member.
      let from = member-map_from row_of r (vertices_of d) member in
      subst (λ (r : Row). r.priority ≤ greatest_number) (sym from.holds)
      (small_number ts faultless from.from.priority
      (subst (IsMember (Number from.from.priority)) (sym spelled) (priority_there d from.from from.member))));
}

pub whole_readable : (ts : List Token) (s : State) → Whole ts s → IsReadable s.rows
whole_readable ts s w = subst IsReadable (sym w.rows) (draft_readable ts w.draft w.spelled w.faultless w.apart)

pub no_fault_of : (ts : List Token) (d : Draft) → ts ≡ draft_tokens d → IsFaultless ts → HasNoFault ts
no_fault_of ts d spelled faultless c k (inl (b, t, there, faulty)) = faultless c b t there.behind there.all faulty
no_fault_of ts d spelled faultless c k (inr (is, ends)) = ends.2 (d, spelled)
