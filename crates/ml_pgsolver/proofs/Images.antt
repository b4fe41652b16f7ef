-- What the reader knows of what was read, and what it makes of an id, of a successor and of other tokens.
--
--   image p           == what the reader knows of what was read
--   IsSmall t         == a number in the token t isn't too large
--   Passes p t        == the token t keeps the limits, and repeats no id
--   Came p t q at out == what the reader makes of a token with which q is read
--   id_came, successor_came, number_came, quiet  == of an id, of a successor, of another number, of another token
use Rattle.std.proofs.Common.{◌≡◌, ℕ, ◌+◌, ◌<◌, ◌≤◌, ◌⊎◌, Bool, true, false, List, [], ◌∷◌, ◌++◌, length, Some, None, Ok, Err, refl, sym, ◌∙◌, ap, subst, arith, nat_le, nat_eq, inl, inr}
use Rattle.std.proofs.lemmas.Bool.{cond-true, cond-false, eqb-true, eq-eqb}
use Rattle.std.proofs.lemmas.Bool.Decides.{nat_tests}
use Rattle.ml_lines.specs.Reading.{value}
use Rattle.ml_lists.specs.Member.{IsMember}
use Rattle.ml_lists.proofs.Member.{list_any-member, member-list_any}
use Rattle.ml_pgsolver.specs.Tokens.{Token, Number}
use Rattle.ml_pgsolver.specs.Grammar.{Vertex}
use Rattle.ml_pgsolver.specs.GameText.{Row}
use Rattle.ml_pgsolver.specs.Refusals.{most_vertices, most_successors, greatest_number}
use Rattle.ml_pgsolver.specs.declared.reader.Head.{Head}
use Rattle.ml_pgsolver.specs.declared.reader.Stage.{Stage}
use Rattle.ml_pgsolver.specs.declared.reader.Stage.TheVariants as stage
use Rattle.ml_pgsolver.specs.declared.refusal.GameTextRefusal.TheVariants as refusal
use Rattle.ml_pgsolver.specs.private.Machine.{State, Step, is_among, with_id, with_successor, with_number, led}
use Rattle.ml_pgsolver.specs.private.Signs.{fitting}
use Rattle.ml_pgsolver.proofs.Trees.{Part, Id, Priority, Owner, First, Behind, Further, Close, Progress, Start, HeaderNumber, HeaderEnd, Body}
use Rattle.ml_pgsolver.proofs.Roles.{rows_of, ids_in, successors_in, part_successors, id_here, successor_here}

abbrev pub head_of : Vertex → Head
head_of v = record { id = value v.id; priority = value v.priority; owner = v.owner }

abbrev pub body_stage : Part → List Vertex → Stage
body_stage Id [] = stage.FirstVertex
body_stage Id (v ∷ vs) = stage.NextVertex
body_stage (Priority id) vs = stage.Priority (value id)
body_stage (Owner id priority) vs = stage.Owner (value id) (value priority)
body_stage (First id priority owner) vs =
    stage.First (record { id = value id; priority = value priority; owner = owner })
body_stage (Behind v) vs = stage.Behind (head_of v)
body_stage (Further v) vs = stage.Further (head_of v)
body_stage (Close v) vs = stage.Close (head_of v)

abbrev pub stage_of : Progress → Stage
stage_of Start = stage.Start
stage_of HeaderNumber = stage.HeaderNumber
stage_of (HeaderEnd digits) = stage.HeaderEnd
stage_of (Body h vs part) = body_stage part vs

abbrev pub rows_in : Progress → List Row
rows_in (Body h vs part) = rows_of vs
rows_in p = []

abbrev pub open_successors : Progress → List ℕ
open_successors (Body h vs part) = part_successors part
open_successors p = []

abbrev pub image : Progress → State
image p = record {
  stage = stage_of p;
  rows = rows_in p;
  ids = ids_in p;
  successors = open_successors p;
  count = length (successors_in p);
}

abbrev pub IsSmall : Token → Type 0
IsSmall t = (digits : List ℕ) → t ≡ Number digits → value digits ≤ greatest_number

pub record Passes (p : Progress) (t : Token) : Type 0 where
  pub fresh : (n : ℕ) → id_here p t ≡ n ∷ [] → IsMember n (ids_in p) → ⊥
  pub id_room : (n : ℕ) → id_here p t ≡ n ∷ [] → length (ids_in p) < most_vertices
  pub successor_room : (n : ℕ) → successor_here p t ≡ n ∷ [] → length (successors_in p) < most_successors
  pub small : IsSmall t

pub data Came (p : Progress) (t : Token) (q : Progress) (at : ℕ) (out : Step) : Type 0 where
  goes : out ≡ Ok (image q) → Passes p t → Came p t q at out
  repeats : (n : ℕ) → id_here p t ≡ n ∷ [] → IsMember n (ids_in p) → out ≡ Err (refusal.Repeated at) → Came p t q at out
  fills_ids : (n : ℕ) → id_here p t ≡ n ∷ [] → (IsMember n (ids_in p) → ⊥) → most_vertices ≤ length (ids_in p)
      → out ≡ Err (refusal.TooMany at)
      → Came p t q at out
  fills_successors : (n : ℕ) → successor_here p t ≡ n ∷ [] → id_here p t ≡ [] → most_successors ≤ length (successors_in p)
      → out ≡ Err (refusal.TooMany at)
      → Came p t q at out
  outgrows : (digits : List ℕ) → t ≡ Number digits → greatest_number < value digits
      → ((n : ℕ) → id_here p t ≡ n ∷ [] → IsMember n (ids_in p) → ⊥)
      → ((n : ℕ) → id_here p t ≡ n ∷ [] → length (ids_in p) < most_vertices)
      → ((n : ℕ) → successor_here p t ≡ n ∷ [] → length (successors_in p) < most_successors)
      → out ≡ Err (refusal.TooLarge at)
      → Came p t q at out

-- ---- tests

pub fitting-cases : (n : ℕ) → ((fitting n ≡ Some n) × (n ≤ greatest_number)) ⊎ ((fitting n ≡ None) × (greatest_number < n))
fitting-cases n = by_test (nat_le n greatest_number) refl
  where
    by_test : (b : Bool) → nat_le n greatest_number ≡ b
        → ((fitting n ≡ Some n) × (n ≤ greatest_number)) ⊎ ((fitting n ≡ None) × (greatest_number < n))
    by_test true is = inl (cond-true _ _ _ is, grind (arith, nat_tests))
    by_test false is = inr (cond-false _ _ _ is, grind (arith, nat_tests))

pub full-cases : (m n : ℕ) → ((nat_le m n ≡ true) × (m ≤ n)) ⊎ ((nat_le m n ≡ false) × (n < m))
full-cases m n = by_test (nat_le m n) refl
  where
    by_test : (b : Bool) → nat_le m n ≡ b → ((nat_le m n ≡ true) × (m ≤ n)) ⊎ ((nat_le m n ≡ false) × (n < m))
    by_test true is = inl (is, grind (arith, nat_tests))
    by_test false is = inr (is, grind (arith, nat_tests))

pub among-cases : (ids : List ℕ) (n : ℕ)
    → ((is_among ids n ≡ true) × IsMember n ids) ⊎ ((is_among ids n ≡ false) × (IsMember n ids → ⊥))
among-cases ids n = by_test (is_among ids n) refl
  where
    by_test : (b : Bool) → is_among ids n ≡ b
        → ((is_among ids n ≡ true) × IsMember n ids) ⊎ ((is_among ids n ≡ false) × (IsMember n ids → ⊥))
    by_test true is =
        let found = list_any-member (nat_eq n) ids is in
        inl (is, subst (λ m. IsMember m ids) (sym (eqb-true n found.item found.passes)) found.member)
    by_test false is = inr (is, λ m. let found = member-list_any (nat_eq n) n ids m (eq-eqb n n refl) in absurd (cc))

-- ---- an id

abbrev pub next_id : Progress → ℕ → State
next_id p id = record (image p) { stage = stage.Priority id; ids = ids_in p ++ id ∷ [] }

-- an id is the number n, and no successor
pub record TakesId (p : Progress) (digits : List ℕ) (q : Progress) : Type 0 where
  pub id : id_here p (Number digits) ≡ value digits ∷ []
  pub no_successor : successor_here p (Number digits) ≡ []
  pub next : next_id p (value digits) ≡ image q

module _ (p : Progress) (digits : List ℕ) (q : Progress) (at : ℕ) (takes : TakesId p digits q) where
  abbrev pub id_out : Step
  id_out = with_id (image p) (fitting (value digits)) at

  here_is : (m : ℕ) → id_here p (Number digits) ≡ m ∷ [] → m ≡ value digits
  here_is m here = let e = takes.id in cc

  not_again : (IsMember (value digits) (ids_in p) → ⊥) → (m : ℕ) → id_here p (Number digits) ≡ m ∷ [] → IsMember m (ids_in p) → ⊥
  not_again fresh m here member = fresh (subst (λ k. IsMember k (ids_in p)) (here_is m here) member)

  small_number : value digits ≤ greatest_number → (ds : List ℕ) → Number digits ≡ Number ds → value ds ≤ greatest_number
  small_number small ds is = let e : digits ≡ ds = cc in subst (λ xs. value xs ≤ greatest_number) e small

  no_successor_here : (m : ℕ) → successor_here p (Number digits) ≡ m ∷ [] → length (successors_in p) < most_successors
  no_successor_here m here = let e = takes.no_successor in absurd (cc)

  id_by_room : id_out ≡ with_id (image p) (Some (value digits)) at
      → value digits ≤ greatest_number
      → is_among (ids_in p) (value digits) ≡ false
      → (IsMember (value digits) (ids_in p) → ⊥)
      → ((nat_le most_vertices (length (ids_in p)) ≡ true) × (most_vertices ≤ length (ids_in p)))
      ⊎ ((nat_le most_vertices (length (ids_in p)) ≡ false) × (length (ids_in p) < most_vertices))
      → Came p (Number digits) q at id_out
  id_by_room same small new fresh (inl (is, full)) =
      fills_ids (value digits) takes.id fresh full (same ∙ cond-false _ _ _ new ∙ cond-true _ _ _ is)
  id_by_room same small new fresh (inr (is, room)) =
      goes (same ∙ cond-false _ _ _ new ∙ cond-false _ _ _ is ∙ ap Ok takes.next) (record {
        fresh = not_again fresh;
        id_room = λ m here. room;
        successor_room = no_successor_here;
        small = small_number small;
      })

  id_by_member : id_out ≡ with_id (image p) (Some (value digits)) at
      → value digits ≤ greatest_number
      → ((is_among (ids_in p) (value digits) ≡ true) × IsMember (value digits) (ids_in p))
      ⊎ ((is_among (ids_in p) (value digits) ≡ false) × (IsMember (value digits) (ids_in p) → ⊥))
      → Came p (Number digits) q at id_out
  id_by_member same small (inl (old, member)) = repeats (value digits) takes.id member (same ∙ cond-true _ _ _ old)
  id_by_member same small (inr (new, fresh)) =
      id_by_room same small new fresh (full-cases most_vertices (length (ids_in p)))

  large_id : id_out ≡ with_id (image p) None at
      → greatest_number < value digits
      → (IsMember (value digits) (ids_in p) → ⊥)
      → ((nat_le most_vertices (length (ids_in p)) ≡ true) × (most_vertices ≤ length (ids_in p)))
      ⊎ ((nat_le most_vertices (length (ids_in p)) ≡ false) × (length (ids_in p) < most_vertices))
      → Came p (Number digits) q at id_out
  large_id same large fresh (inl (is, full)) =
      fills_ids (value digits) takes.id fresh full (same ∙ ap Err (cond-true _ _ _ is))
  large_id same large fresh (inr (is, room)) =
      outgrows digits refl large (not_again fresh) (λ m here. room) no_successor_here (same ∙ ap Err (cond-false _ _ _ is))

  id_by_size : ((n : ℕ) → IsMember n (ids_in p) → n ≤ greatest_number)
      → ((fitting (value digits) ≡ Some (value digits)) × (value digits ≤ greatest_number))
      ⊎ ((fitting (value digits) ≡ None) × (greatest_number < value digits))
      → Came p (Number digits) q at id_out
  id_by_size all_small (inl (fits, small)) =
      id_by_member (ap (λ v. with_id (image p) v at) fits) small (among-cases (ids_in p) (value digits))
  id_by_size all_small (inr (none, large)) =
      large_id (ap (λ v. with_id (image p) v at) none) large
      (λ member. let small = all_small (value digits) member in omega arith)
      (full-cases most_vertices (length (ids_in p)))

  pub id_came : ((n : ℕ) → IsMember n (ids_in p) → n ≤ greatest_number) → Came p (Number digits) q at id_out
  id_came all_small = id_by_size all_small (fitting-cases (value digits))

-- ---- a successor

abbrev pub next_successor : Progress → Head → ℕ → State
next_successor p head id =
    record (image p) { stage = stage.Behind head; successors = open_successors p ++ id ∷ []; count = length (successors_in p) + 1 }

pub record TakesSuccessor (p : Progress) (head : Head) (digits : List ℕ) (q : Progress) : Type 0 where
  pub no_id : id_here p (Number digits) ≡ []
  pub successor : successor_here p (Number digits) ≡ value digits ∷ []
  pub next : next_successor p head (value digits) ≡ image q

module _ (p : Progress) (head : Head) (digits : List ℕ) (q : Progress) (at : ℕ) (takes : TakesSuccessor p head digits q) where
  abbrev pub successor_out : Step
  successor_out = with_successor (image p) head (fitting (value digits)) at

  no_id_here : {X : Type 0} (m : ℕ) → id_here p (Number digits) ≡ m ∷ [] → X
  no_id_here m here = let e = takes.no_id in absurd (cc)

  small_successor : value digits ≤ greatest_number → (ds : List ℕ) → Number digits ≡ Number ds → value ds ≤ greatest_number
  small_successor small ds is = let e : digits ≡ ds = cc in subst (λ xs. value xs ≤ greatest_number) e small

  successor_by : ((fitting (value digits) ≡ Some (value digits)) × (value digits ≤ greatest_number))
      ⊎ ((fitting (value digits) ≡ None) × (greatest_number < value digits))
      → ((nat_le most_successors (length (successors_in p)) ≡ true) × (most_successors ≤ length (successors_in p)))
      ⊎ ((nat_le most_successors (length (successors_in p)) ≡ false) × (length (successors_in p) < most_successors))
      → Came p (Number digits) q at successor_out
  successor_by (inl (fits, small)) (inl (is, full)) =
      fills_successors (value digits) takes.successor takes.no_id full
      (ap (λ v. with_successor (image p) head v at) fits ∙ cond-true _ _ _ is)
  successor_by (inl (fits, small)) (inr (is, room)) =
      goes (ap (λ v. with_successor (image p) head v at) fits ∙ cond-false _ _ _ is ∙ ap Ok takes.next) (record {
        fresh = λ m here. no_id_here m here;
        id_room = λ m here. no_id_here m here;
        successor_room = λ m here. room;
        small = small_successor small;
      })
  successor_by (inr (none, large)) (inl (is, full)) =
      fills_successors (value digits) takes.successor takes.no_id full
      (ap (λ v. with_successor (image p) head v at) none ∙ ap Err (cond-true _ _ _ is))
  successor_by (inr (none, large)) (inr (is, room)) =
      outgrows digits refl large (λ m here. no_id_here m here) (λ m here. no_id_here m here) (λ m here. room)
      (ap (λ v. with_successor (image p) head v at) none ∙ ap Err (cond-false _ _ _ is))

  pub successor_came : Came p (Number digits) q at successor_out
  successor_came =
      successor_by (fitting-cases (value digits)) (full-cases most_successors (length (successors_in p)))

-- ---- another number

pub record TakesNumber (p : Progress) (next : ℕ → Stage) (digits : List ℕ) (q : Progress) : Type 0 where
  pub no_id : id_here p (Number digits) ≡ []
  pub no_successor : successor_here p (Number digits) ≡ []
  pub next_is : record (image p) { stage = next (value digits) } ≡ image q

-- a token that is no id, no successor and no large number
pub plain : (p : Progress) (t : Token) → id_here p t ≡ [] → successor_here p t ≡ []
    → ((digits : List ℕ) → t ≡ Number digits → value digits ≤ greatest_number)
    → Passes p t
plain p t no_id no_successor small = record {
  fresh = λ m here. absurd (cc);
  id_room = λ m here. absurd (cc);
  successor_room = λ m here. absurd (cc);
  small = small;
}

module _ (p : Progress) (next : ℕ → Stage) (digits : List ℕ) (q : Progress) (at : ℕ) (takes : TakesNumber p next digits q) where
  abbrev pub number_out : Step
  number_out = led (image p) (with_number next (fitting (value digits)) at)

  number_by : ((fitting (value digits) ≡ Some (value digits)) × (value digits ≤ greatest_number))
      ⊎ ((fitting (value digits) ≡ None) × (greatest_number < value digits))
      → Came p (Number digits) q at number_out
  number_by (inl (fits, small)) =
      goes (ap (λ v. led (image p) (with_number next v at)) fits ∙ ap Ok takes.next_is)
      (plain p (Number digits) takes.no_id takes.no_successor
      (λ ds is. let e : digits ≡ ds = cc in subst (λ xs. value xs ≤ greatest_number) e small))
  number_by (inr (none, large)) =
      outgrows digits refl large (λ m here. let e = takes.no_id in absurd (cc)) (λ m here. let e = takes.no_id in absurd (cc))
      (λ m here. let e = takes.no_successor in absurd (cc)) (ap (λ v. led (image p) (with_number next v at)) none)

  pub number_came : Came p (Number digits) q at number_out
  number_came = number_by (fitting-cases (value digits))

-- ---- a token that only the stage keeps, or the end of a vertex

pub quiet : (p : Progress) (t : Token) (q : Progress) (at : ℕ) (out : Step)
    → out ≡ Ok (image q)
    → id_here p t ≡ []
    → successor_here p t ≡ []
    → ((digits : List ℕ) → t ≡ Number digits → ⊥)
    → Came p t q at out
quiet p t q at out is no_id no_successor no_number =
    goes is (plain p t no_id no_successor (λ digits e. absurd (no_number digits e)))
