-- What the tokens of a text are: ids, successors, and the rows that they are part of.
--
--   ids_in p, successors_in p      == the ids, and the successors, of what was read
--   id_here p t, successor_here    == the id, or the successor, that one token more is
--   PlaceFits p n                  == so many tokens stand behind the last `;`
--   Roles p t q                    == a token that is read is what its place tells
--   roles                          == each token that is read is
use Rattle.std.proofs.Common.{◌≡◌, ℕ, zero, suc, ◌<◌, ◌≤◌, List, [], ◌∷◌, ◌++◌, map, Option, Some, None, refl, sym, ◌∙◌, ap, subst, arith}
use Rattle.std.specs.List.{flat_map}
use Rattle.std.proofs.lemmas.List.{append_assoc, append-nil, map-append}
use Rattle.std.proofs.lemmas.Grind.{flat_map-append}
use Rattle.std.proofs.lemmas.Bool.Decides.{nat_tests}
use Rattle.ml_lines.specs.Reading.{value}
use Rattle.ml_parity.specs.declared.players.Player.{Player}
use Rattle.ml_pgsolver.specs.Tokens.{Token, Number, Name, Parity, Comma, Semicolon}
use Rattle.ml_pgsolver.specs.Grammar.{Vertex}
use Rattle.ml_pgsolver.specs.GameText.{Row, row_of}
use Rattle.ml_pgsolver.specs.Refusals.{next_place, id_at_place, successor_at_place}
use Rattle.ml_pgsolver.specs.private.Signs.{owner_named}
use Rattle.ml_pgsolver.proofs.Trees.{Part, Id, Priority, Owner, First, Behind, Further, Close, Progress, Start, HeaderNumber, HeaderEnd, Body, Turn, More, Done, owned, first_of, with_further, named, grow, grow_part, turned}

abbrev pub rows_of : List Vertex → List Row
rows_of vs = map row_of vs

abbrev pub part_ids : Part → List ℕ
part_ids Id = []
part_ids (Priority id) = value id ∷ []
part_ids (Owner id priority) = value id ∷ []
part_ids (First id priority owner) = value id ∷ []
part_ids (Behind v) = value v.id ∷ []
part_ids (Further v) = value v.id ∷ []
part_ids (Close v) = value v.id ∷ []

abbrev pub part_successors : Part → List ℕ
part_successors (Behind v) = map value (v.first ∷ v.others)
part_successors (Further v) = map value (v.first ∷ v.others)
part_successors (Close v) = map value (v.first ∷ v.others)
part_successors part = []

abbrev pub ids_in : Progress → List ℕ
ids_in (Body h vs part) = map (λ r. r.id) (rows_of vs) ++ part_ids part
ids_in p = []

abbrev pub successors_in : Progress → List ℕ
successors_in (Body h vs part) = flat_map (λ r. r.successors) (rows_of vs) ++ part_successors part
successors_in p = []

abbrev pub id_in_part : Part → Token → List ℕ
id_in_part Id (Number digits) = value digits ∷ []
id_in_part part t = []

abbrev pub successor_in_part : Part → Token → List ℕ
successor_in_part (First id priority owner) (Number digits) = value digits ∷ []
successor_in_part (Further v) (Number digits) = value digits ∷ []
successor_in_part part t = []

abbrev pub id_here : Progress → Token → List ℕ
id_here Start (Number digits) = value digits ∷ []
id_here (Body h vs part) t = id_in_part part t
id_here p t = []

abbrev pub successor_here : Progress → Token → List ℕ
successor_here (Body h vs part) t = successor_in_part part t
successor_here p t = []

abbrev pub PartFits : Part → ℕ → Type 0
PartFits Id n = n ≡ 0
PartFits (Priority id) n = n ≡ 1
PartFits (Owner id priority) n = n ≡ 2
PartFits (First id priority owner) n = 3 ≤ n
PartFits (Behind v) n = 3 ≤ n
PartFits (Further v) n = 3 ≤ n
PartFits (Close v) n = 3 ≤ n

abbrev pub PlaceFits : Progress → ℕ → Type 0
PlaceFits Start n = n ≡ 0
PlaceFits HeaderNumber n = n ≡ 1
PlaceFits (HeaderEnd digits) n = n ≡ 2
PlaceFits (Body h vs part) n = PartFits part n

pub record Roles (p : Progress) (t : Token) (q : Progress) : Type 0 where
  pub ids : ids_in q ≡ ids_in p ++ id_here p t
  pub successors : successors_in q ≡ successors_in p ++ successor_here p t
  pub id_role : (n : ℕ) → PlaceFits p n → id_at_place n t ≡ id_here p t
  pub successor_role : (n : ℕ) → PlaceFits p n → successor_at_place n t ≡ successor_here p t
  pub place : (n : ℕ) → PlaceFits p n → PlaceFits q (next_place n t)

-- ---- the role at a place

id_first : (n : ℕ) (digits : List ℕ) → n ≡ 0 → id_at_place n (Number digits) ≡ value digits ∷ []
id_first n digits is = ap (λ m. id_at_place m (Number digits)) is

id_later : (n : ℕ) (t : Token) → 0 < n → id_at_place n t ≡ []
id_later zero t later = absurd (omega arith)
id_later (suc n) t later = refl

successor_early : (n : ℕ) (digits : List ℕ) → n < 3 → successor_at_place n (Number digits) ≡ []
successor_early n digits early = grind (arith, nat_tests)

successor_late : (n : ℕ) (digits : List ℕ) → 3 ≤ n → successor_at_place n (Number digits) ≡ value digits ∷ []
successor_late n digits late = grind (arith, nat_tests)

-- ---- the roles of a part

record PartRoles (part : Part) (t : Token) (next : Part) : Type 0 where
  ids : part_ids next ≡ part_ids part ++ id_in_part part t
  successors : part_successors next ≡ part_successors part ++ successor_in_part part t
  id_role : (n : ℕ) → PartFits part n → id_at_place n t ≡ id_in_part part t
  successor_role : (n : ℕ) → PartFits part n → successor_at_place n t ≡ successor_in_part part t
  place : (n : ℕ) → PartFits part n → PartFits next (next_place n t)

more_values : (xs : List (List ℕ)) (digits : List ℕ) → map value (xs ++ digits ∷ []) ≡ map value xs ++ value digits ∷ []
more_values xs digits = map-append value xs (digits ∷ [])

owned-roles : (id priority digits : List ℕ) (o : Option Player) (next : Part)
    → owned id priority o ≡ Some (More next)
    → PartRoles (Owner id priority) (Number digits) next
owned-roles id priority digits None next is = absurd (cc)
owned-roles id priority digits (Some owner) next is =
    let e : First id priority owner ≡ next = cc in
    subst (PartRoles (Owner id priority) (Number digits)) e (record {
      ids = refl;
      successors = refl;
      id_role = λ n fits. id_later n (Number digits) (omega arith);
      successor_role = λ n fits. successor_early n digits (omega arith);
      place = λ n fits. omega arith;
    })

part-roles : (part : Part) (t : Token) (next : Part) → grow_part part t ≡ Some (More next) → PartRoles part t next
part-roles Id (Number digits) next is =
    let e : Priority digits ≡ next = cc in
    subst (PartRoles Id (Number digits)) e (record {
      ids = refl;
      successors = refl;
      id_role = λ n fits. id_first n digits fits;
      successor_role = λ n fits. successor_early n digits (omega arith);
      place = λ n fits. omega arith;
    })
part-roles (Priority id) (Number digits) next is =
    let e : Owner id digits ≡ next = cc in
    subst (PartRoles (Priority id) (Number digits)) e (record {
      ids = refl;
      successors = refl;
      id_role = λ n fits. id_later n (Number digits) (omega arith);
      successor_role = λ n fits. successor_early n digits (omega arith);
      place = λ n fits. omega arith;
    })
part-roles (Owner id priority) (Number digits) next is = owned-roles id priority digits (owner_named digits) next is
part-roles (First id priority owner) (Number digits) next is =
    let e : Behind (first_of id priority owner digits) ≡ next = cc in
    subst (PartRoles (First id priority owner) (Number digits)) e (record {
      ids = refl;
      successors = refl;
      id_role = λ n fits. id_later n (Number digits) (omega arith);
      successor_role = λ n fits. successor_late n digits fits;
      place = λ n fits. omega arith;
    })
part-roles (Further v) (Number digits) next is =
    let e : Behind (with_further v (digits ∷ [])) ≡ next = cc in
    subst (PartRoles (Further v) (Number digits)) e (record {
      ids = refl;
      successors = more_values (v.first ∷ v.others) digits;
      id_role = λ n fits. id_later n (Number digits) (omega arith);
      successor_role = λ n fits. successor_late n digits fits;
      place = λ n fits. omega arith;
    })
part-roles (Behind v) Comma next is =
    let e : Further v ≡ next = cc in
    subst (PartRoles (Behind v) Comma) e (record {
      ids = refl;
      successors = sym (append-nil (map value (v.first ∷ v.others)));
      id_role = λ n fits. id_later n Comma (omega arith);
      successor_role = λ n fits. refl;
      place = λ n fits. omega arith;
    })
part-roles (Behind v) (Name inner) next is =
    let e : Close (named v (Some inner)) ≡ next = cc in
    subst (PartRoles (Behind v) (Name inner)) e (record {
      ids = refl;
      successors = sym (append-nil (map value (v.first ∷ v.others)));
      id_role = λ n fits. id_later n (Name inner) (omega arith);
      successor_role = λ n fits. refl;
      place = λ n fits. omega arith;
    })
part-roles (Close v) Semicolon next is = absurd (cc)
part-roles part t next is = absurd (cc)

-- the token that ends a vertex
record EndRoles (part : Part) (t : Token) (v : Vertex) : Type 0 where
  id : part_ids part ≡ value v.id ∷ []
  successors : part_successors part ≡ map value (v.first ∷ v.others)
  is_end : t ≡ Semicolon
  late : (n : ℕ) → PartFits part n → 3 ≤ n
  no_id : id_in_part part t ≡ []
  no_successor : successor_in_part part t ≡ []

owned-not_done : (id priority : List ℕ) (o : Option Player) (v : Vertex) → owned id priority o ≡ Some (Done v) → ⊥
owned-not_done id priority None v is = cc
owned-not_done id priority (Some owner) v is = cc

end-roles : (part : Part) (t : Token) (v : Vertex) → grow_part part t ≡ Some (Done v) → EndRoles part t v
end-roles (Behind w) Semicolon v is =
    let e : named w None ≡ v = cc in
    subst (EndRoles (Behind w) Semicolon) e
    (record { id = refl; successors = refl; is_end = refl; late = λ n fits. fits; no_id = refl; no_successor = refl })
end-roles (Close w) Semicolon v is =
    let e : w ≡ v = cc in
    subst (EndRoles (Close w) Semicolon) e
    (record { id = refl; successors = refl; is_end = refl; late = λ n fits. fits; no_id = refl; no_successor = refl })
end-roles (Owner id priority) (Number digits) v is = absurd (owned-not_done id priority (owner_named digits) v is)
end-roles Id (Number digits) v is = absurd (cc)
end-roles (Priority id) (Number digits) v is = absurd (cc)
end-roles (First id priority owner) (Number digits) v is = absurd (cc)
end-roles (Further w) (Number digits) v is = absurd (cc)
end-roles part t v is = absurd (cc)

-- ---- the roles of what was read

turned-roles : (h : Option (List ℕ)) (vs : List Vertex) (part : Part) (t : Token) (o : Option Turn) (q : Progress)
    → grow_part part t ≡ o
    → turned h vs o ≡ Some q
    → Roles (Body h vs part) t q
turned-roles h vs part t None q is so = absurd (cc)
turned-roles h vs part t (Some (More next)) q is so =
    let e : Body h vs next ≡ q = cc in
    let r = part-roles part t next is in
    let ids = map (λ (r : Row). r.id) (rows_of vs) in
    let successors = flat_map (λ (r : Row). r.successors) (rows_of vs) in
    subst (Roles (Body h vs part) t) e (record {
      ids = ap (λ xs. ids ++ xs) r.ids ∙ sym (append_assoc ids (part_ids part) (id_in_part part t));
      successors = ap (λ xs. successors ++ xs) r.successors
          ∙ sym (append_assoc successors (part_successors part) (successor_in_part part t));
      id_role = r.id_role;
      successor_role = r.successor_role;
      place = r.place;
    })
turned-roles h vs part t (Some (Done v)) q is so =
    let e : Body h (vs ++ v ∷ []) Id ≡ q = cc in
    let r = end-roles part t v is in
    let id_of : Row → ℕ = λ (r : Row). r.id in
    let successors_of : Row → List ℕ = λ (r : Row). r.successors in
    let rows = map-append row_of vs (v ∷ []) in
    subst (Roles (Body h vs part) t) e (record {
      ids = append-nil (map id_of (rows_of (vs ++ v ∷ []))) ∙ ap (map id_of) rows
          ∙ map-append id_of (rows_of vs) (row_of v ∷ [])
          ∙ ap (λ xs. map id_of (rows_of vs) ++ xs) (sym r.id)
          ∙ sym (append-nil (ids_in (Body h vs part))) ∙ ap (λ xs. ids_in (Body h vs part) ++ xs) (sym r.no_id);
      successors = append-nil (flat_map successors_of (rows_of (vs ++ v ∷ []))) ∙ ap (flat_map successors_of) rows
          ∙ flat_map-append successors_of (rows_of vs) (row_of v ∷ [])
          ∙ ap (λ xs. flat_map successors_of (rows_of vs) ++ xs)
          (append-nil (map value (v.first ∷ v.others)) ∙ sym r.successors)
          ∙ sym (append-nil (successors_in (Body h vs part)))
          ∙ ap (λ xs. successors_in (Body h vs part) ++ xs) (sym r.no_successor);
      id_role = λ n fits. let late = r.late n fits in id_later n t (omega arith) ∙ sym r.no_id;
      successor_role = λ n fits. ap (successor_at_place n) r.is_end ∙ sym r.no_successor;
      place = λ n fits. ap (next_place n) r.is_end;
    })

pub roles : (p : Progress) (t : Token) (q : Progress) → grow p t ≡ Some q → Roles p t q
roles Start Parity q is =
    let e : HeaderNumber ≡ q = cc in
    subst (Roles Start Parity) e (record {
      ids = refl;
      successors = refl;
      id_role = λ n fits. ap (λ m. id_at_place m Parity) fits;
      successor_role = λ n fits. refl;
      place = λ n fits. omega arith;
    })
roles Start (Number digits) q is =
    let e : Body None [] (Priority digits) ≡ q = cc in
    subst (Roles Start (Number digits)) e (record {
      ids = refl;
      successors = refl;
      id_role = λ n fits. id_first n digits fits;
      successor_role = λ n fits. successor_early n digits (omega arith);
      place = λ n fits. omega arith;
    })
roles HeaderNumber (Number digits) q is =
    let e : HeaderEnd digits ≡ q = cc in
    subst (Roles HeaderNumber (Number digits)) e (record {
      ids = refl;
      successors = refl;
      id_role = λ n fits. id_later n (Number digits) (omega arith);
      successor_role = λ n fits. successor_early n digits (omega arith);
      place = λ n fits. omega arith;
    })
roles (HeaderEnd digits) Semicolon q is =
    let e : Body (Some digits) [] Id ≡ q = cc in
    subst (Roles (HeaderEnd digits) Semicolon) e (record {
      ids = refl;
      successors = refl;
      id_role = λ n fits. id_later n Semicolon (omega arith);
      successor_role = λ n fits. refl;
      place = λ n fits. refl;
    })
roles (Body h vs part) t q is = turned-roles h vs part t (grow_part part t) q refl is
roles p t q is = absurd (cc)
