-- What is known of tokens that were read, all without a fault.
--
--   place-more, roles-more  == the place behind a token more, and the ids or successors with it
--   Read before p           == these tokens were read as p, and none is at fault
--   read_none, read_more    == none were read; one more is
--   not_syntax, id_there, no_id_there, successor_there  == what the next token is
use Rattle.std.proofs.Common.{◌≡◌, ℕ, zero, suc, ◌<◌, ◌≤◌, ◌⊎◌, List, [], ◌∷◌, ◌++◌, length, Option, Some, None, refl, sym, ◌∙◌, ap, subst, arith, inl, inr, length-append, nat_le}
use Rattle.std.proofs.lemmas.Bool.{cond_both}
use Rattle.std.proofs.lemmas.List.{append_assoc, append-nil}
use Rattle.ml_lines.specs.Reading.{value}
use Rattle.ml_lists.specs.Member.{IsMember}
use Rattle.ml_lists.specs.Times.{IsApart}
use Rattle.ml_lists.proofs.Member.{member-append}
use Rattle.ml_lists.proofs.Entries.{no_middle}
use Rattle.ml_pgsolver.specs.Tokens.{Token, Number, Name, Parity, Comma, Semicolon, Stray}
use Rattle.ml_pgsolver.specs.Refusals.{next_place, place_from, place_behind, roles_from, id_at_place, successor_at_place, ids_of, successors_among, Cause}
use Rattle.ml_pgsolver.specs.Refusals.{Syntax, Repeated, TooMany, TooLarge, IsId, IsSuccessor, IsFaulty, most_vertices, most_successors, greatest_number}
use Rattle.ml_pgsolver.proofs.Splits.{last_split}
use Rattle.ml_pgsolver.proofs.Trees.{Progress, Start, grow, grown_from, grown-append}
use Rattle.ml_pgsolver.proofs.Viable.{begins-grown}
use Rattle.ml_pgsolver.proofs.Roles.{ids_in, successors_in, id_here, successor_here, PlaceFits, roles}
use Rattle.ml_pgsolver.proofs.Images.{Passes}
use Rattle.ml_pgsolver.proofs.Comings.{AllSmall}

pub place-more : (n : ℕ) (ts : List Token) (t : Token) → place_from n (ts ++ t ∷ []) ≡ next_place (place_from n ts) t
place-more n [] t = refl
place-more n (u ∷ ts) t = place-more (next_place n u) ts t

pub roles-more : (role : ℕ → Token → List ℕ) (n : ℕ) (ts : List Token) (t : Token)
    → roles_from role n (ts ++ t ∷ []) ≡ roles_from role n ts ++ role (place_from n ts) t
roles-more role n [] t = append-nil (role n t)
roles-more role n (u ∷ ts) t =
    ap (λ xs. role n u ++ xs) (roles-more role (next_place n u) ts t)
    ∙ sym (append_assoc (role n u) (roles_from role (next_place n u) ts) (role (place_from (next_place n u) ts) t))

pub record Read (before : List Token) (p : Progress) : Type 0 where
  pub run : grown_from (Some Start) before ≡ Some p
  pub place : PlaceFits p (place_behind before)
  pub ids : ids_of before ≡ ids_in p
  pub successors : successors_among before ≡ successors_in p
  pub few_ids : length (ids_in p) ≤ most_vertices
  pub few_successors : length (successors_in p) ≤ most_successors
  pub small : AllSmall p
  pub apart : IsApart (ids_in p)
  pub faultless : (c : Cause) (b : List Token) (t : Token) (behind : List Token) → before ≡ b ++ t ∷ behind
      → IsFaulty c b t
      → ⊥

pub read_none : Read [] Start
read_none = record {
  run = refl;
  place = refl;
  ids = refl;
  successors = refl;
  few_ids = omega arith;
  few_successors = omega arith;
  small = λ n m. absurd m;
  apart = tt;
  faultless = λ c b t behind is faulty. no_middle b t behind is;
}

pub apart-last : (n : ℕ) (xs : List ℕ) → IsApart xs → (IsMember n xs → ⊥) → IsApart (xs ++ n ∷ [])
apart-last n [] apart new = (λ m. m, tt)
apart-last n (x ∷ xs) apart new = (λ m. by (member-append x xs (n ∷ []) m), apart-last n xs apart.1 (λ m. new (inr m)))
  where
    by : IsMember x xs ⊎ IsMember x (n ∷ []) → ⊥
    by (inl m) = apart.0 m
    by (inr (inl e)) = new (inl (sym e))
    by (inr (inr m)) = m

-- ---- the next token

module _ (before : List Token) (p : Progress) (t : Token) (q : Progress) (read : Read before p)
    (more : grow p t ≡ Some q) where
  pub run_more : grown_from (Some Start) (before ++ t ∷ []) ≡ Some q
  run_more = grown-append (Some Start) before (t ∷ []) ∙ ap (λ o. grown_from o (t ∷ [])) read.run ∙ one (grow p t) more
    where
      one : (o : Option Progress) → o ≡ Some q → grown_from o [] ≡ Some q
      one None is = cc
      one (Some r) is = is

  pub not_syntax : IsFaulty Syntax before t → ⊥
  not_syntax faulty = faulty.1 (begins-grown (before ++ t ∷ []) q run_more)

  pub id_there : (n : ℕ) → IsId before t n → id_here p t ≡ n ∷ []
  id_there n is = sym ((roles p t q more).id_role (place_behind before) read.place) ∙ is

  pub is_id : (n : ℕ) → id_here p t ≡ n ∷ [] → IsId before t n
  is_id n is = (roles p t q more).id_role (place_behind before) read.place ∙ is

  pub successor_there : (n : ℕ) → IsSuccessor before t n → successor_here p t ≡ n ∷ []
  successor_there n is = sym ((roles p t q more).successor_role (place_behind before) read.place) ∙ is

  pub is_successor : (n : ℕ) → successor_here p t ≡ n ∷ [] → IsSuccessor before t n
  is_successor n is = (roles p t q more).successor_role (place_behind before) read.place ∙ is

  pub not_repeated : ((n : ℕ) → id_here p t ≡ n ∷ [] → IsMember n (ids_in p) → ⊥) → IsFaulty Repeated before t → ⊥
  not_repeated fresh (n, id, member) = fresh n (id_there n id) (subst (IsMember n) read.ids member)

  pub not_many : ((n : ℕ) → id_here p t ≡ n ∷ [] → length (ids_in p) < most_vertices)
      → ((n : ℕ) → successor_here p t ≡ n ∷ [] → length (successors_in p) < most_successors)
      → IsFaulty TooMany before t
      → ⊥
  not_many id_room successor_room (inl (n, id, full)) =
      let room = id_room n (id_there n id) in omega (arith, ap length read.ids)
  not_many id_room successor_room (inr (n, successor, full)) =
      let room = successor_room n (successor_there n successor) in omega (arith, ap length read.successors)

  pub not_large : ((digits : List ℕ) → t ≡ Number digits → value digits ≤ greatest_number)
      → IsFaulty TooLarge before t
      → ⊥
  not_large small (digits, is, large) = let fits = small digits is in omega arith

  -- ---- it is read without a fault

  no_fault : Passes p t → (c : Cause) → IsFaulty c before t → ⊥
  no_fault passes Syntax = not_syntax
  no_fault passes Repeated = not_repeated passes.fresh
  no_fault passes TooMany = not_many passes.id_room passes.successor_room
  no_fault passes TooLarge = not_large passes.small

  ids_more : ids_in q ≡ ids_in p ++ id_here p t
  ids_more = (roles p t q more).ids

  successors_more : successors_in q ≡ successors_in p ++ successor_here p t
  successors_more = (roles p t q more).successors

  -- one entry more, or none
  data Shape (here : List ℕ) : Type 0 where
    none : here ≡ [] → Shape here
    one : (digits : List ℕ) → t ≡ Number digits → here ≡ value digits ∷ [] → Shape here

  id_shape : (m : ℕ) (u : Token) → t ≡ u → Shape (id_at_place m u)
  id_shape zero (Number digits) is = one digits is refl
  id_shape (suc m) (Number digits) is = none refl
  id_shape zero (Name inner) is = none refl
  id_shape (suc m) (Name inner) is = none refl
  id_shape zero Parity is = none refl
  id_shape (suc m) Parity is = none refl
  id_shape zero Comma is = none refl
  id_shape (suc m) Comma is = none refl
  id_shape zero Semicolon is = none refl
  id_shape (suc m) Semicolon is = none refl
  id_shape zero (Stray b) is = none refl
  id_shape (suc m) (Stray b) is = none refl

  successor_shape : (m : ℕ) (u : Token) → t ≡ u → Shape (successor_at_place m u)
  successor_shape m (Number digits) is =
      cond_both (nat_le 3 m) (value digits ∷ []) [] Shape (λ late. one digits is refl) (λ early. none refl)
  successor_shape m (Name inner) is = none refl
  successor_shape m Parity is = none refl
  successor_shape m Comma is = none refl
  successor_shape m Semicolon is = none refl
  successor_shape m (Stray b) is = none refl

  id_shape_here : Shape (id_here p t)
  id_shape_here = subst Shape ((roles p t q more).id_role (place_behind before) read.place)
      (id_shape (place_behind before) t refl)

  successor_shape_here : Shape (successor_here p t)
  successor_shape_here = subst Shape ((roles p t q more).successor_role (place_behind before) read.place)
      (successor_shape (place_behind before) t refl)

  few : (xs here : List ℕ) (most : ℕ) → Shape here → length xs ≤ most → ((n : ℕ) → here ≡ n ∷ [] → length xs < most)
      → length (xs ++ here) ≤ most
  few xs here most (none is) fits room = omega (arith, length-append xs here, ap length is)
  few xs here most (one digits is_t is) fits room =
      let free = room (value digits) is in omega (arith, length-append xs here, ap length is)

  small_more : (xs here : List ℕ) → Shape here
      → ((n : ℕ) → IsMember n xs → n ≤ greatest_number)
      → ((digits : List ℕ) → t ≡ Number digits → value digits ≤ greatest_number)
      → (n : ℕ) → IsMember n xs ⊎ IsMember n here → n ≤ greatest_number
  small_more xs here shape all_small small n (inl old) = all_small n old
  small_more xs here (none is) all_small small n (inr new) = absurd (subst (IsMember n) is new)
  small_more xs here (one digits is_t is) all_small small n (inr new) = by (subst (IsMember n) is new)
    where
      by : IsMember n (value digits ∷ []) → n ≤ greatest_number
      by (inl e) = let fits = small digits is_t in omega arith
      by (inr m) = absurd m

  apart_more : (xs here : List ℕ) → Shape here → IsApart xs → ((n : ℕ) → here ≡ n ∷ [] → IsMember n xs → ⊥)
      → IsApart (xs ++ here)
  apart_more xs here (none is) apart fresh =
      subst IsApart (sym (append-nil xs) ∙ ap (λ ys. xs ++ ys) (sym is)) apart
  apart_more xs here (one digits is_t is) apart fresh =
      subst IsApart (ap (λ ys. xs ++ ys) (sym is)) (apart-last (value digits) xs apart (fresh (value digits) is))

  faultless_more : ((c : Cause) → IsFaulty c before t → ⊥)
      → (c : Cause) (b : List Token) (u : Token) (behind : List Token)
      → ((before ≡ b) × (t ≡ u)) ⊎ ((ws : List Token) × (before ≡ b ++ u ∷ ws))
      → IsFaulty c b u
      → ⊥
  faultless_more good c b u behind (inl (front, same)) faulty =
      good c (subst (λ v. IsFaulty c before v) (sym same) (subst (λ xs. IsFaulty c xs u) (sym front) faulty))
  faultless_more good c b u behind (inr (ws, earlier)) faulty = read.faultless c b u ws earlier faulty

  pub read_more : Passes p t → Read (before ++ t ∷ []) q
  read_more passes = record {
    run = run_more;
    place = subst (PlaceFits q) (sym (place-more 0 before t))
        ((roles p t q more).place (place_behind before) read.place);
    ids = roles-more id_at_place 0 before t ∙ ap (λ xs. xs ++ id_at_place (place_behind before) t) read.ids
        ∙ ap (λ xs. ids_in p ++ xs) ((roles p t q more).id_role (place_behind before) read.place) ∙ sym ids_more;
    successors = roles-more successor_at_place 0 before t
        ∙ ap (λ xs. xs ++ successor_at_place (place_behind before) t) read.successors
        ∙ ap (λ xs. successors_in p ++ xs) ((roles p t q more).successor_role (place_behind before) read.place)
        ∙ sym successors_more;
    few_ids = subst (λ xs. length xs ≤ most_vertices) (sym ids_more)
        (few (ids_in p) (id_here p t) most_vertices id_shape_here read.few_ids passes.id_room);
    few_successors = subst (λ xs. length xs ≤ most_successors) (sym successors_more)
        (few (successors_in p) (successor_here p t) most_successors successor_shape_here read.few_successors
        passes.successor_room);
    small = λ n m. small_more (ids_in p) (id_here p t) id_shape_here read.small passes.small n
        (member-append n (ids_in p) (id_here p t) (subst (IsMember n) ids_more m));
    apart = subst IsApart (sym ids_more) (apart_more (ids_in p) (id_here p t) id_shape_here read.apart passes.fresh);
    faultless = λ c b u behind is faulty.
        faultless_more (no_fault passes) c b u behind (last_split t u before b behind is) faulty;
  }
