-- The reader's steps are those of the grammar, within the limits.
--
--   came    == what the reader makes of a token that is read
--   stuck   == at any other token it refuses the text
use Rattle.std.proofs.Common.{◌≡◌, ℕ, ◌+◌, ◌≤◌, List, [], ◌∷◌, ◌++◌, length, map, Option, Some, None, Ok, Err, refl, sym, ◌∙◌, ap, subst, arith, length-append}
use Rattle.std.specs.List.{flat_map}
use Rattle.std.proofs.lemmas.List.{append-nil, map-append}
use Rattle.ml_lines.specs.Reading.{value}
use Rattle.ml_lists.specs.Member.{IsMember}
use Rattle.ml_parity.specs.declared.players.Player.{Player}
use Rattle.ml_parity.specs.declared.players.Player.TheVariants.{Even, Odd}
use Rattle.ml_pgsolver.specs.Tokens.{Token, Number, Name, Parity, Comma, Semicolon}
use Rattle.ml_pgsolver.specs.Grammar.{Vertex, owner_digits}
use Rattle.ml_pgsolver.specs.GameText.{Row, row_of}
use Rattle.ml_pgsolver.specs.Refusals.{greatest_number}
use Rattle.ml_pgsolver.specs.declared.reader.Stage.{Stage}
use Rattle.ml_pgsolver.specs.declared.reader.Stage.TheVariants as stage
use Rattle.ml_pgsolver.specs.declared.refusal.GameTextRefusal.TheVariants as refusal
use Rattle.ml_pgsolver.specs.private.Machine.{State, step, led, with_owner, closed}
use Rattle.ml_pgsolver.specs.private.Signs.{owner_named, sign_of}
use Rattle.ml_pgsolver.proofs.Trees.{Part, Id, Priority, Owner, First, Behind, Further, Close, Progress, Start, HeaderNumber, HeaderEnd, Body, Turn, More, Done, owned, owner_named-is, first_of, with_further, named, grow, grow_part, turned}
use Rattle.ml_pgsolver.proofs.Roles.{rows_of, ids_in, successors_in, part_successors, id_here, successor_here, Roles, roles}
use Rattle.ml_pgsolver.proofs.Images.{image, head_of, body_stage, Came, goes, TakesId, id_came, successor_came, number_came, plain, quiet}

abbrev pub AllSmall : Progress → Type 0
AllSmall p = (n : ℕ) → IsMember n (ids_in p) → n ≤ greatest_number

abbrev pub Comes : Progress → Token → Progress → ℕ → Type 0
Comes p t q at = Came p t q at (step (image p) (sign_of t) at)

same_state : (s t : Stage) (r u : List Row) (i j : List ℕ) (a b : List ℕ) (m n : ℕ)
    → s ≡ t → r ≡ u → i ≡ j → a ≡ b → m ≡ n
    → (let x : State = record { stage = s; rows = r; ids = i; successors = a; count = m } in
    let y : State = record { stage = t; rows = u; ids = j; successors = b; count = n } in x ≡ y)
same_state s t r u i j a b m n es er ei ea em = cc

-- ---- ids

body_id : (h : Option (List ℕ)) (vs : List Vertex) (digits : List ℕ) → TakesId (Body h vs Id) digits (Body h vs (Priority digits))
body_id h vs digits = record {
  id = refl;
  no_successor = refl;
  next = same_state _ _ _ _ _ _ _ _ _ _ refl refl
      (ap (λ xs. xs ++ value digits ∷ []) (append-nil (map (λ (r : Row). r.id) (rows_of vs)))) refl refl;
}

id_at_body : (h : Option (List ℕ)) (vs : List Vertex) (digits : List ℕ) (at : ℕ)
    → AllSmall (Body h vs Id)
    → Comes (Body h vs Id) (Number digits) (Body h vs (Priority digits)) at
id_at_body h [] digits at small = id_came (Body h [] Id) digits (Body h [] (Priority digits)) at (body_id h [] digits) small
id_at_body h (v ∷ vs) digits at small =
    id_came (Body h (v ∷ vs) Id) digits (Body h (v ∷ vs) (Priority digits)) at (body_id h (v ∷ vs) digits) small

-- ---- successors

count_more : (xs ys zs : List ℕ) (n : ℕ) → zs ≡ ys ++ n ∷ [] → length (xs ++ ys) + 1 ≡ length (xs ++ zs)
count_more xs ys zs n is =
    omega (arith, length-append xs ys, length-append xs zs, length-append ys (n ∷ []), ap length is)

first_at_body : (h : Option (List ℕ)) (vs : List Vertex) (id priority : List ℕ) (owner : Player) (digits : List ℕ) (at : ℕ)
    → Comes (Body h vs (First id priority owner)) (Number digits) (Body h vs (Behind (first_of id priority owner digits))) at
first_at_body h vs id priority owner digits at =
    successor_came (Body h vs (First id priority owner)) (head_of (first_of id priority owner digits)) digits
    (Body h vs (Behind (first_of id priority owner digits))) at (record {
      no_id = refl;
      successor = refl;
      next = same_state _ _ _ _ _ _ _ _ _ _ refl refl refl refl
          (count_more (flat_map (λ (r : Row). r.successors) (rows_of vs)) [] (value digits ∷ []) (value digits) refl);
    })

further_at_body : (h : Option (List ℕ)) (vs : List Vertex) (v : Vertex) (digits : List ℕ) (at : ℕ)
    → Comes (Body h vs (Further v)) (Number digits) (Body h vs (Behind (with_further v (digits ∷ [])))) at
further_at_body h vs v digits at =
    let more : map value (v.first ∷ (v.others ++ digits ∷ [])) ≡ map value (v.first ∷ v.others) ++ value digits ∷ [] =
    map-append value (v.first ∷ v.others) (digits ∷ []) in
    successor_came (Body h vs (Further v)) (head_of v) digits (Body h vs (Behind (with_further v (digits ∷ [])))) at
    (record {
      no_id = refl;
      successor = refl;
      next = same_state _ _ _ _ _ _ _ _ _ _ refl refl refl (sym more)
          (count_more (flat_map (λ (r : Row). r.successors) (rows_of vs)) (map value (v.first ∷ v.others))
          (map value (v.first ∷ (v.others ++ digits ∷ []))) (value digits) more);
    })

-- ---- an owner

pub owner_small : (owner : Player) → value (owner_digits owner) ≤ greatest_number
owner_small Even = omega arith
owner_small Odd = omega arith

owner_at_body : (h : Option (List ℕ)) (vs : List Vertex) (id priority digits : List ℕ) (at : ℕ) (o : Option Player) (next : Part)
    → owner_named digits ≡ o
    → owned id priority o ≡ Some (More next)
    → Comes (Body h vs (Owner id priority)) (Number digits) (Body h vs next) at
owner_at_body h vs id priority digits at None next is so = absurd (cc)
owner_at_body h vs id priority digits at (Some owner) next is so =
    let p = Body h vs (Owner id priority) in
    let e : First id priority owner ≡ next = cc in
    let same = owner_named-is digits owner is in
    let small : value digits ≤ greatest_number =
    subst (λ ds. value ds ≤ greatest_number) (sym same) (owner_small owner) in
    subst (λ part. Comes p (Number digits) (Body h vs part) at) e
    (goes (ap (λ w. led (image p) (with_owner (value id) (value priority) w at)) is)
    (plain p (Number digits) refl refl
    (λ ds is_ds. let d : digits ≡ ds = cc in subst (λ xs. value xs ≤ greatest_number) d small)))

-- ---- the end of a vertex

ended_stage : (vs : List Vertex) (v : Vertex) → body_stage Id (vs ++ v ∷ []) ≡ stage.NextVertex
ended_stage [] v = refl
ended_stage (w ∷ vs) v = refl

closed-is : (h : Option (List ℕ)) (vs : List Vertex) (part : Part) (v : Vertex)
    → part_successors part ≡ map value (v.first ∷ v.others)
    → Roles (Body h vs part) Semicolon (Body h (vs ++ v ∷ []) Id)
    → id_here (Body h vs part) Semicolon ≡ []
    → successor_here (Body h vs part) Semicolon ≡ []
    → closed (image (Body h vs part)) (head_of v) ≡ image (Body h (vs ++ v ∷ []) Id)
closed-is h vs part v successors r no_id no_successor =
    let p = Body h vs part in
    same_state _ _ _ _ _ _ _ _ _ _ (sym (ended_stage vs v))
    (ap (λ xs. rows_of vs ++ (let row : Row = record { id = value v.id; priority = value v.priority; owner = v.owner; successors = xs } in row) ∷ [])
    successors ∙ sym (map-append row_of vs (v ∷ [])))
    (sym (r.ids ∙ ap (λ xs. ids_in p ++ xs) no_id ∙ append-nil (ids_in p)))
    refl
    (ap length (sym (r.successors ∙ ap (λ xs. successors_in p ++ xs) no_successor ∙ append-nil (successors_in p))))

-- ---- tokens that are read

part_came : (h : Option (List ℕ)) (vs : List Vertex) (part : Part) (t : Token) (next : Part) (at : ℕ)
    → grow_part part t ≡ Some (More next)
    → AllSmall (Body h vs part)
    → Comes (Body h vs part) t (Body h vs next) at
part_came h vs Id (Number digits) next at is small =
    let e : Priority digits ≡ next = cc in
    subst (λ part. Comes (Body h vs Id) (Number digits) (Body h vs part) at) e (id_at_body h vs digits at small)
part_came h vs (Priority id) (Number digits) next at is small =
    let e : Owner id digits ≡ next = cc in
    subst (λ part. Comes (Body h vs (Priority id)) (Number digits) (Body h vs part) at) e
    (number_came (Body h vs (Priority id)) (stage.Owner (value id)) digits (Body h vs (Owner id digits)) at
    (record { no_id = refl; no_successor = refl; next_is = refl }))
part_came h vs (Owner id priority) (Number digits) next at is small =
    owner_at_body h vs id priority digits at (owner_named digits) next refl is
part_came h vs (First id priority owner) (Number digits) next at is small =
    let e : Behind (first_of id priority owner digits) ≡ next = cc in
    subst (λ part. Comes (Body h vs (First id priority owner)) (Number digits) (Body h vs part) at) e
    (first_at_body h vs id priority owner digits at)
part_came h vs (Further v) (Number digits) next at is small =
    let e : Behind (with_further v (digits ∷ [])) ≡ next = cc in
    subst (λ part. Comes (Body h vs (Further v)) (Number digits) (Body h vs part) at) e (further_at_body h vs v digits at)
part_came h vs (Behind v) Comma next at is small =
    let e : Further v ≡ next = cc in
    subst (λ part. Comes (Body h vs (Behind v)) Comma (Body h vs part) at) e
    (quiet (Body h vs (Behind v)) Comma (Body h vs (Further v)) at _ refl refl refl (λ ds d. cc))
part_came h vs (Behind v) (Name inner) next at is small =
    let e : Close (named v (Some inner)) ≡ next = cc in
    subst (λ part. Comes (Body h vs (Behind v)) (Name inner) (Body h vs part) at) e
    (quiet (Body h vs (Behind v)) (Name inner) (Body h vs (Close (named v (Some inner)))) at _ refl refl refl (λ ds d. cc))
part_came h vs (Close v) Semicolon next at is small = absurd (cc)
part_came h vs part t next at is small = absurd (cc)

done_came : (h : Option (List ℕ)) (vs : List Vertex) (part : Part) (t : Token) (v : Vertex) (at : ℕ)
    → grow_part part t ≡ Some (Done v)
    → Roles (Body h vs part) t (Body h (vs ++ v ∷ []) Id)
    → Comes (Body h vs part) t (Body h (vs ++ v ∷ []) Id) at
done_came h vs (Behind w) Semicolon v at is r =
    let e : named w None ≡ v = cc in
    let q : Vertex → Progress = λ u. Body h (vs ++ u ∷ []) Id in
    subst (λ u. Roles (Body h vs (Behind w)) Semicolon (q u) → Comes (Body h vs (Behind w)) Semicolon (q u) at) e
    (λ r. quiet (Body h vs (Behind w)) Semicolon (q (named w None)) at _
    (ap Ok (closed-is h vs (Behind w) (named w None) refl r refl refl)) refl refl (λ ds d. cc)) r
done_came h vs (Close w) Semicolon v at is r =
    let e : w ≡ v = cc in
    let q : Vertex → Progress = λ u. Body h (vs ++ u ∷ []) Id in
    subst (λ u. Roles (Body h vs (Close w)) Semicolon (q u) → Comes (Body h vs (Close w)) Semicolon (q u) at) e
    (λ r. quiet (Body h vs (Close w)) Semicolon (q w) at _
    (ap Ok (closed-is h vs (Close w) w refl r refl refl)) refl refl (λ ds d. cc)) r
done_came h vs Id (Number digits) v at is r = absurd (cc)
done_came h vs (Priority id) (Number digits) v at is r = absurd (cc)
done_came h vs (Owner id priority) (Number digits) v at is r = absurd (not_done (owner_named digits) is)
  where
    not_done : (o : Option Player) → owned id priority o ≡ Some (Done v) → ⊥
    not_done None so = cc
    not_done (Some owner) so = cc
done_came h vs (First id priority owner) (Number digits) v at is r = absurd (cc)
done_came h vs (Further w) (Number digits) v at is r = absurd (cc)
done_came h vs part t v at is r = absurd (cc)

body_came : (h : Option (List ℕ)) (vs : List Vertex) (part : Part) (t : Token) (o : Option Turn) (q : Progress) (at : ℕ)
    → grow_part part t ≡ o
    → turned h vs o ≡ Some q
    → AllSmall (Body h vs part)
    → Roles (Body h vs part) t q
    → Comes (Body h vs part) t q at
body_came h vs part t None q at is so small r = absurd (cc)
body_came h vs part t (Some (More next)) q at is so small r =
    let e : Body h vs next ≡ q = cc in
    subst (λ q. Comes (Body h vs part) t q at) e (part_came h vs part t next at is small)
body_came h vs part t (Some (Done v)) q at is so small r =
    let e : Body h (vs ++ v ∷ []) Id ≡ q = cc in
    subst (λ q. Comes (Body h vs part) t q at) e
    (done_came h vs part t v at is (subst (Roles (Body h vs part) t) (sym e) r))

pub came : (p : Progress) (t : Token) (q : Progress) (at : ℕ) → grow p t ≡ Some q → AllSmall p → Comes p t q at
came Start Parity q at is small =
    let e : HeaderNumber ≡ q = cc in
    subst (λ q. Comes Start Parity q at) e (quiet Start Parity HeaderNumber at _ refl refl refl (λ ds d. cc))
came Start (Number digits) q at is small =
    let e : Body None [] (Priority digits) ≡ q = cc in
    subst (λ q. Comes Start (Number digits) q at) e
    (id_came Start digits (Body None [] (Priority digits)) at (record { id = refl; no_successor = refl; next = refl }) small)
came HeaderNumber (Number digits) q at is small =
    let e : HeaderEnd digits ≡ q = cc in
    subst (λ q. Comes HeaderNumber (Number digits) q at) e
    (number_came HeaderNumber (λ n. stage.HeaderEnd) digits (HeaderEnd digits) at
    (record { no_id = refl; no_successor = refl; next_is = refl }))
came (HeaderEnd digits) Semicolon q at is small =
    let e : Body (Some digits) [] Id ≡ q = cc in
    subst (λ q. Comes (HeaderEnd digits) Semicolon q at) e
    (quiet (HeaderEnd digits) Semicolon (Body (Some digits) [] Id) at _ refl refl refl (λ ds d. cc))
came (Body h vs part) t q at is small =
    body_came h vs part t (grow_part part t) q at refl is small (roles (Body h vs part) t q is)
came p t q at is small = absurd (cc)

-- ---- tokens that are not

abbrev pub Stuck : Progress → Token → ℕ → Type 0
Stuck p t at = step (image p) (sign_of t) at ≡ Err (refusal.Syntax at)

stuck_id : (h : Option (List ℕ)) (vs : List Vertex) (t : Token) (at : ℕ) → grow_part Id t ≡ None → Stuck (Body h vs Id) t at
stuck_id h [] (Number digits) at is = absurd (cc)
stuck_id h [] t at is = refl
stuck_id h (v ∷ vs) (Number digits) at is = absurd (cc)
stuck_id h (v ∷ vs) t at is = refl

stuck_owner : (h : Option (List ℕ)) (vs : List Vertex) (id priority digits : List ℕ) (at : ℕ) (o : Option Player)
    → owner_named digits ≡ o
    → owned id priority o ≡ None
    → Stuck (Body h vs (Owner id priority)) (Number digits) at
stuck_owner h vs id priority digits at None is so =
    ap (λ w. led (image (Body h vs (Owner id priority))) (with_owner (value id) (value priority) w at)) is
stuck_owner h vs id priority digits at (Some owner) is so = absurd (cc)

stuck_part : (h : Option (List ℕ)) (vs : List Vertex) (part : Part) (t : Token) (at : ℕ)
    → grow_part part t ≡ None
    → Stuck (Body h vs part) t at
stuck_part h vs Id t at is = stuck_id h vs t at is
stuck_part h vs (Priority id) (Number digits) at is = absurd (cc)
stuck_part h vs (Owner id priority) (Number digits) at is =
    stuck_owner h vs id priority digits at (owner_named digits) refl is
stuck_part h vs (First id priority owner) (Number digits) at is = absurd (cc)
stuck_part h vs (Further v) (Number digits) at is = absurd (cc)
stuck_part h vs (Behind v) Comma at is = absurd (cc)
stuck_part h vs (Behind v) (Name inner) at is = absurd (cc)
stuck_part h vs (Behind v) Semicolon at is = absurd (cc)
stuck_part h vs (Close v) Semicolon at is = absurd (cc)
stuck_part h vs part t at is = refl

not_turned : (h : Option (List ℕ)) (vs : List Vertex) (o : Option Turn) → turned h vs o ≡ None → o ≡ None
not_turned h vs None is = refl
not_turned h vs (Some (More next)) is = absurd (cc)
not_turned h vs (Some (Done v)) is = absurd (cc)

pub stuck : (p : Progress) (t : Token) (at : ℕ) → grow p t ≡ None → Stuck p t at
stuck Start Parity at is = absurd (cc)
stuck Start (Number digits) at is = absurd (cc)
stuck HeaderNumber (Number digits) at is = absurd (cc)
stuck (HeaderEnd digits) Semicolon at is = absurd (cc)
stuck (Body h vs part) t at is = stuck_part h vs part t at (not_turned h vs (grow_part part t) is)
stuck p t at is = refl
