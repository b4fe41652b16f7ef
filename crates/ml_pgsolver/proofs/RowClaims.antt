-- The claims of the entries that were read, in their places.
--
--   no_claims_none, no_claims_more == places for claims, all empty: none, and one more
--   entered_none, entered_more     == no entry was entered; one more is
--   vertex_apart                   == of rows whose vertices are apart, each differs from those before it
--   enter_step                     == the next row is entered
--   row_stranger                   == a row that has a stranger is one of the rows
--   entered_all                    == the claims of rows are those of their entries
--   none_among                     == what is no member isn't among them
use Rattle.std.proofs.Common.{ℕ, zero, suc, ◌≡◌, ◌+◌, ◌<◌, ◌⊎◌, true, false, not, List, [], ◌∷◌, ◌++◌, length, map, take, get_or, length-set, length-append, Option, Some, None, inl, inr, refl, sym, ◌∙◌, ap, subst, arith}
use Rattle.std.proofs.Math.ListN.{set}
use Rattle.std.proofs.lemmas.Bool.{cases_eq}
use Rattle.std.proofs.lemmas.List.{get_or-set_other, get_or-set_same, take_more}
use Rattle.ml_game_check.specs.RightClaims.{Claims, claim_at}
use Rattle.ml_game_check.specs.declared.claims.Claim.{Claim}
use Rattle.ml_lists.specs.Member.{IsMember}
use Rattle.ml_lists.specs.Times.{IsApart}
use Rattle.ml_lists.proofs.Member.{member-append, member-append_left, member-append_right, member-map, member-map_from, place-member}
use Rattle.ml_pgsolver.specs.CheckedText.{AreClaimsOf, IsClaimOf, IsMoveOf}
use Rattle.ml_pgsolver.specs.GameText.{id_at}
use Rattle.ml_pgsolver.specs.SolutionGrammar.{Entry}
use Rattle.ml_pgsolver.specs.declared.entries.EntryRow.{EntryRow}
use Rattle.ml_pgsolver.specs.private.Claiming.{AreNoClaims, AreRowClaims, IsPlaceOf, IsRowClaim, RowHasStranger, RowsHaveStranger}
use Rattle.ml_pgsolver.specs.private.Machine.{is_among}
use Rattle.ml_pgsolver.proofs.Images.{among-cases}
use Rattle.ml_pgsolver.proofs.SolutionComings.{entry_row, move_value}

-- ---- empty places

pub no_claims_none : AreNoClaims [] 0
no_claims_none = record { many = refl; empty = λ v. refl }

empty_more : (cs : Claims) → ((v : ℕ) → claim_at cs v ≡ None) → (v : ℕ) → claim_at (cs ++ None ∷ []) v ≡ None
empty_more [] empty zero = refl
empty_more [] empty (suc v) = refl
empty_more (c ∷ cs) empty zero = empty 0
empty_more (c ∷ cs) empty (suc v) = empty_more cs (λ w. empty (suc w)) v

pub no_claims_more : (cs : Claims) (n : ℕ) → AreNoClaims cs n → AreNoClaims (cs ++ None ∷ []) (n + 1)
no_claims_more cs n none = record {
  many = omega (arith, none.many, length-append cs (None ∷ []));
  empty = empty_more cs none.empty;
}

-- ---- one entry more

pub entered_none : (ids : List ℕ) (cs : Claims) → AreNoClaims cs (length ids) → AreRowClaims ids [] cs
entered_none ids cs none = record {
  places = none.many;
  each = λ r m. absurd m;
  others = λ v c is. let e : None ≡ Some c = sym (none.empty v) ∙ is in absurd (cc);
}

module _ (ids : List ℕ) (rows : List EntryRow) (cs : Claims) (row : EntryRow) (v : ℕ) (c : Claim)
    (entered : AreRowClaims ids rows cs) (is : IsRowClaim ids row v c)
    (fresh : IsMember row.vertex (map (λ r. r.vertex) rows) → ⊥) where
  abbrev more : Claims
  more = set cs v (Some c)

  abbrev all : List EntryRow
  all = rows ++ row ∷ []

  inside : v < length cs
  inside = omega (arith, is.within, entered.places)

  here : claim_at more v ≡ Some c
  here = get_or-set_same cs v (Some c) None inside

  elsewhere : (w : ℕ) → (w ≡ v → ⊥) → claim_at more w ≡ claim_at cs w
  elsewhere w other = get_or-set_other cs v w (Some c) None other

  each : (r : EntryRow) → IsMember r rows ⊎ IsMember r (row ∷ [])
      → (w : ℕ) × (d : Claim) × (claim_at more w ≡ Some d) × IsRowClaim ids r w d
  each r (inl old) =
      let e = entered.each r old in
      let other : e.0 ≡ v → ⊥ = λ (same : e.0 ≡ v).
      fresh (subst (λ n. IsMember n (map (λ (s : EntryRow). s.vertex) rows))
      (sym e.3.vertex ∙ ap (id_at ids) same ∙ is.vertex) (member-map (λ (s : EntryRow). s.vertex) r rows old)) in
      (e.0, e.1, elsewhere e.0 other ∙ e.2, e.3)
  each r (inr (inl same)) = (v, c, here, subst (λ s. IsRowClaim ids s v c) (sym same) is)
  each r (inr (inr none)) = absurd none

  others : (w : ℕ) (d : Claim) → claim_at more w ≡ Some d → (w ≡ v) ⊎ (w ≡ v → ⊥)
      → (r : EntryRow) × IsMember r all × IsRowClaim ids r w d
  others w d there (inl same) =
      let e : Some c ≡ Some d = sym here ∙ ap (claim_at more) (sym same) ∙ there in
      let same_claim : c ≡ d = cc in (
        row,
        member-append_right row rows (row ∷ []) (inl refl),
        subst (λ x. IsRowClaim ids row x d) (sym same) (subst (IsRowClaim ids row v) same_claim is),
      )
  others w d there (inr other) =
      let o = entered.others w d (sym (elsewhere w other) ∙ there) in
      (o.0, member-append_left o.0 rows (row ∷ []) o.1, o.2)

  pub entered_more : AreRowClaims ids (rows ++ row ∷ []) (set cs v (Some c))
  entered_more = record {
    places = length-set cs v (Some c) ∙ entered.places;
    each = λ r m. each r (member-append r rows (row ∷ []) m);
    others = λ w d there. others w d there (cases_eq w v);
  }

-- ---- the rows

pub vertex_apart : (rows : List EntryRow) (i : ℕ) (d : EntryRow) → i < length rows → IsApart (map (λ r. r.vertex) rows)
    → IsMember (get_or rows i d).vertex (map (λ r. r.vertex) (take i rows))
    → ⊥
vertex_apart [] i d low apart member = absurd (omega arith)
vertex_apart (r ∷ rows) zero d low apart member = member
vertex_apart (r ∷ rows) (suc i) d low apart (inl same) =
    apart.0 (subst (λ n. IsMember n (map (λ (s : EntryRow). s.vertex) rows)) same
    (member-map (λ (s : EntryRow). s.vertex) (get_or rows i d) rows (place-member rows i d (omega arith))))
vertex_apart (r ∷ rows) (suc i) d low apart (inr member) = vertex_apart rows i d (omega arith) apart.1 member

-- the next row is entered
pub enter_step : (ids : List ℕ) (rows : List EntryRow) (cs : Claims) (i : ℕ) (d : EntryRow) (v : ℕ) (c : Claim)
    → i < length rows
    → IsApart (map (λ r. r.vertex) rows)
    → AreRowClaims ids (take i rows) cs
    → IsRowClaim ids (get_or rows i d) v c
    → AreRowClaims ids (take (i + 1) rows) (set cs v (Some c))
enter_step ids rows cs i d v c low apart entered is =
    subst (λ rs. AreRowClaims ids rs (set cs v (Some c))) (sym (take_more rows i d low))
    (entered_more ids (take i rows) cs (get_or rows i d) v c entered is (vertex_apart rows i d low apart))

pub row_stranger : (ids : List ℕ) (rows : List EntryRow) (i : ℕ) (d : EntryRow) → i < length rows
    → RowHasStranger ids (get_or rows i d)
    → RowsHaveStranger ids rows
row_stranger ids rows i d low strange = (get_or rows i d, place-member rows i d low, strange)

-- ---- the entries

move_of_place : (ids : List ℕ) (to : Option (List ℕ)) (w : Option ℕ) → IsPlaceOf ids (move_value to) w → IsMoveOf ids to w
move_of_place ids None None is = tt
move_of_place ids None (Some w) is = absurd is
move_of_place ids (Some digits) None is = absurd is
move_of_place ids (Some digits) (Some w) is = is

claim_of_row : (ids : List ℕ) (e : Entry) (v : ℕ) (c : Claim) → IsRowClaim ids (entry_row e) v c → IsClaimOf ids e v c
claim_of_row ids e v c is = record {
  within = is.within;
  vertex = is.vertex;
  winner = is.winner;
  move_to = move_of_place ids e.move_to c.move_to is.move_to;
}

pub entered_all : (ids : List ℕ) (es : List Entry) (cs : Claims) → AreRowClaims ids (map entry_row es) cs → AreClaimsOf ids es cs
entered_all ids es cs are = record {
  places = are.places;
  each = λ e m.
      let r = are.each (entry_row e) (member-map entry_row e es m) in (r.0, r.1, r.2, claim_of_row ids e r.0 r.1 r.3);
  others = λ v c is.
      let r = are.others v c is in
      let from = member-map_from entry_row r.0 es r.1 in
      (from.from, from.member, claim_of_row ids from.from v c (subst (λ x. IsRowClaim ids x v c) from.holds r.2));
}

-- ---- ids

pub none_among : (ids : List ℕ) (n : ℕ) → (IsMember n ids → ⊥) → true ≡ not (is_among ids n)
none_among ids n none = by (among-cases ids n)
  where
    by : ((is_among ids n ≡ true) × IsMember n ids) ⊎ ((is_among ids n ≡ false) × (IsMember n ids → ⊥))
        → true ≡ not (is_among ids n)
    by (inl (is, member)) = absurd (none member)
    by (inr (is, new)) = ap not (sym is)
