-- Each text has an answer.
--
--   sorted_rows    == rows of which no id comes twice can be put in the order of their ids
--   some_top       == numbers have a least even number from all of them on
--   some_given     == successors have places among the ids, or one of them is no id
--   some_answer    == a text is read, or refused
use Rattle.std.proofs.Common.{◌≡◌, ◌≢◌, ℕ, ◌+◌, ◌-◌, ◌/◌, ◌%◌, ◌<◌, ◌≤◌, ◌⊎◌, ⊎_elim, true, false, List, [], ◌∷◌, length, map, All, Ok, Err, refl, sym, subst, arith, inl, inr}
use Rattle.std.specs.List.Sorted.{IsPermutation}
use Rattle.std.proofs.lemmas.Bool.{cases_lt, cases_eq}
use Rattle.std.proofs.lemmas.List.Elements.{All-nil}
use Rattle.std.proofs.lemmas.List.Sorted.{IsPermutation-refl, IsPermutation-sym, IsPermutation-cons, IsPermutation-middle, IsPermutation-trans, IsPermutation-map, length_permutation}
use Rattle.ml_lists.specs.Ascending.{IsAscending}
use Rattle.ml_lists.specs.Member.{IsMember}
use Rattle.ml_lists.specs.Times.{IsApart}
use Rattle.ml_lists.proofs.Member.{member-place, All-member, member-All}
use Rattle.ml_lists.proofs.Permuted.{permuted-member}
use Rattle.ml_pgsolver.specs.Tokens.{tokens, signs_of}
use Rattle.ml_pgsolver.specs.GameText.{Row, NamedGame, IsGameOf, IsLeastEvenFrom, id_at}
use Rattle.ml_pgsolver.specs.Refusals.{IsReadAs, IsRefusedBy}
use Rattle.ml_pgsolver.specs.declared.refusal.GameTextRefusal.{GameTextRefusal}
use Rattle.ml_pgsolver.specs.declared.refusal.GameTextRefusal.TheVariants as refusal
use Rattle.ml_pgsolver.specs.private.Assembled.{IsReadable, ArePlaces, AreGiven, HasUnknown, HasUnknownIn, unknown_from}
use Rattle.ml_pgsolver.specs.private.Signs.{signs_from}
use Rattle.ml_pgsolver.specs.private.Machine.{State, Step, is_among}
use Rattle.ml_pgsolver.proofs.Answered.{outcome_of, answered_whole, answered_game, answered_unknown, refused_so}
use Rattle.ml_pgsolver.proofs.Ended.{Whole, whole_readable}
use Rattle.ml_pgsolver.proofs.Images.{among-cases}
use Rattle.ml_pgsolver.proofs.InIdOrder.{all_permuted}
use Rattle.ml_pgsolver.proofs.MadeGames.{made, unknown_before}
use Rattle.ml_pgsolver.proofs.Outcomes.{RefusedIn}

abbrev pub ids_in : List Row → List ℕ
ids_in rows = map (λ r. r.id) rows

-- ---- the order

-- a row that has been put among rows in ascending order
record PutIn (r : Row) (rows : List Row) : Type 0 where
  order : List Row
  same : IsPermutation (r ∷ rows) order
  ascends : IsAscending (ids_in order)

put_in : (r : Row) (rows : List Row) → IsAscending (ids_in rows) → (IsMember r.id (ids_in rows) → ⊥) → PutIn r rows
put_in r [] up new = record { order = r ∷ []; same = IsPermutation-refl (r ∷ []); ascends = (λ y m. absurd m, tt) }
put_in r (q ∷ rows) up new =
    ⊎_elim
    (λ (low : r.id < q.id). record { order = r ∷ (q ∷ rows); same = IsPermutation-refl (r ∷ (q ∷ rows)); ascends = (in_front low, up) })
    (λ (high : q.id ≤ r.id). behind high (put_in r rows up.1 (λ m. new (inr m))))
    (cases_lt r.id q.id)
  where
    in_front : r.id < q.id → (y : ℕ) → IsMember y (ids_in (q ∷ rows)) → r.id < y
    in_front low y (inl e) = omega arith
    in_front low y (inr m) = let above = up.0 y m in omega arith

    behind : q.id ≤ r.id → PutIn r rows → PutIn r (q ∷ rows)
    behind high put = record {
      order = q ∷ put.order;
      same = IsPermutation-trans (r ∷ (q ∷ rows)) (q ∷ (r ∷ rows)) (q ∷ put.order) (IsPermutation-middle (r ∷ []) q rows)
          (IsPermutation-cons q (r ∷ rows) put.order put.same);
      ascends = (
        λ y m. above y (permuted-member y (ids_in put.order) (ids_in (r ∷ rows))
            (IsPermutation-sym (ids_in (r ∷ rows)) (ids_in put.order) (IsPermutation-map (λ (s : Row). s.id) (r ∷ rows) put.order put.same)) m),
        put.ascends,
      );
    }
      where
        above : (y : ℕ) → IsMember y (ids_in (r ∷ rows)) → q.id < y
        above y (inr m) = up.0 y m
        above y (inl e) = ⊎_elim (λ (is : r.id ≡ q.id). absurd (new (inl is))) (λ (ne : r.id ≡ q.id → ⊥). omega arith) (cases_eq r.id q.id)

record InOrder (rows : List Row) : Type 0 where
  order : List Row
  same : IsPermutation rows order
  ascends : IsAscending (ids_in order)

sorted_rows : (rows : List Row) → IsApart (ids_in rows) → InOrder rows
sorted_rows [] apart = record { order = []; same = IsPermutation-refl []; ascends = tt }
sorted_rows (r ∷ rows) apart =
    let rest = sorted_rows rows apart.1 in
    let put = put_in r rest.order rest.ascends (λ m. apart.0 (permuted-member r.id (ids_in rest.order) (ids_in rows)
    (IsPermutation-sym (ids_in rows) (ids_in rest.order) (IsPermutation-map (λ (s : Row). s.id) rows rest.order rest.same)) m)) in
    record {
      order = put.order;
      same = IsPermutation-trans (r ∷ rows) (r ∷ rest.order) put.order (IsPermutation-cons r rows rest.order rest.same) put.same;
      ascends = put.ascends;
    }

-- ---- the turning point

some_top : (ps : List ℕ) → (P : ℕ) × IsLeastEvenFrom ps P
some_top [] = (0, record { half = 0; even = refl; above = λ p m. absurd m; least = λ k bound. omega arith })
some_top (p ∷ ps) = by (some_top ps)
  where
    by : (P : ℕ) × IsLeastEvenFrom ps P → (P : ℕ) × IsLeastEvenFrom (p ∷ ps) P
    by (P, rest) =
        ⊎_elim
        (λ (higher : P < p). (
          p + p % 2,
          record {
            half = (p + p % 2) / 2;
            even = omega arith;
            above = λ q m. above_new higher q m;
            least = λ k bound. let fits = bound p (inl refl) in omega arith;
          },
        ))
        (λ (lower : p ≤ P). (
          P,
          record {
            half = rest.half;
            even = rest.even;
            above = λ q m. above_old lower q m;
            least = λ k bound. rest.least k (λ q m. bound q (inr m));
          },
        ))
        (cases_lt P p)
      where
        above_new : P < p → (q : ℕ) → IsMember q (p ∷ ps) → q ≤ p + p % 2
        above_new higher q (inl e) = omega arith
        above_new higher q (inr m) = let fits = rest.above q m in omega arith

        above_old : p ≤ P → (q : ℕ) → IsMember q (p ∷ ps) → q ≤ P
        above_old lower q (inl e) = omega arith
        above_old lower q (inr m) = rest.above q m

-- ---- the places

all_first : {X : Type 0} (P : X → Type 0) (x : X) (xs : List X) → P x → All P xs → All P (x ∷ xs)
all_first {X} P x xs here all = member-All P (x ∷ xs) (λ y m. by y m)
  where
    by : (y : X) → IsMember y (x ∷ xs) → P y
    by y (inl e) = subst P (sym e) here
    by y (inr m) = All-member P xs all y m

record PlacesOf (ids xs : List ℕ) : Type 0 where
  places : List ℕ
  there : ArePlaces ids places xs

some_places : (ids xs : List ℕ) → HasUnknown ids xs ⊎ PlacesOf ids xs
some_places ids [] = inr (record { places = []; there = record { ids_there = refl; within = All-nil (λ i. i < length ids) } })
some_places ids (x ∷ xs) = by (among-cases ids x) (some_places ids xs)
  where
    by : ((is_among ids x ≡ true) × IsMember x ids) ⊎ ((is_among ids x ≡ false) × (IsMember x ids → ⊥))
        → HasUnknown ids xs ⊎ PlacesOf ids xs
        → HasUnknown ids (x ∷ xs) ⊎ PlacesOf ids (x ∷ xs)
    by (inr (new, none)) rest = inl (x, inl refl, none)
    by (inl (old, member)) (inl (n, inside, none)) = inl (n, inr inside, none)
    by (inl (old, member)) (inr p) =
        let at = member-place x ids member in
        let head : id_at ids at.place ≡ x = at.holds 0 in
        let tail = p.there.ids_there in
        inr (record {
          places = at.place ∷ p.places;
          there = record {
            ids_there = cc;
            within = all_first (λ i. i < length ids) at.place p.places at.below p.there.within;
          };
        })

record GivenOf (ids : List ℕ) (rows : List Row) : Type 0 where
  given : List (List ℕ)
  there : AreGiven ids given rows

some_given : (ids : List ℕ) (rows : List Row) → HasUnknownIn ids rows ⊎ GivenOf ids rows
some_given ids [] = inr (record { given = []; there = record { ids_there = refl; within = All-nil (All (λ i. i < length ids)) } })
some_given ids (r ∷ rows) = by (some_places ids r.successors) (some_given ids rows)
  where
    by : HasUnknown ids r.successors ⊎ PlacesOf ids r.successors → HasUnknownIn ids rows ⊎ GivenOf ids rows
        → HasUnknownIn ids (r ∷ rows) ⊎ GivenOf ids (r ∷ rows)
    by (inl unknown) rest = inl (r, inl refl, unknown)
    by (inr p) (inl (q, member, unknown)) = inl (q, inr member, unknown)
    by (inr p) (inr g) =
        let head = p.there.ids_there in
        let tail = g.there.ids_there in
        inr (record {
          given = p.places ∷ g.given;
          there = record {
            ids_there = cc;
            within = all_first (All (λ i. i < length ids)) p.places g.given p.there.within g.there.within;
          };
        })

-- ---- the game

game_in_order : (rows : List Row) → IsReadable rows → (sorted : InOrder rows)
    → HasUnknownIn (ids_in sorted.order) sorted.order ⊎ GivenOf (ids_in sorted.order) sorted.order
    → HasUnknownIn (ids_in rows) rows ⊎ ((g : NamedGame) × IsGameOf rows g)
game_in_order rows readable sorted (inl unknown) =
    inl (unknown_before rows sorted.order (ids_in sorted.order) (ids_in rows) sorted.same
    (IsPermutation-map (λ (r : Row). r.id) rows sorted.order sorted.same) unknown)
game_in_order rows readable sorted (inr g) =
    let order = sorted.order in
    let top = some_top (map (λ (r : Row). r.priority) order) in
    let some : 0 < length order = omega (arith, readable.some, length_permutation rows order sorted.same) in
    inr (
      _,
      made order (ids_in order) (map (λ (r : Row). r.owner) order) (map (λ (r : Row). top.0 - r.priority) order) g.given
          top.0 refl refl refl g.there some
          (all_permuted (λ (r : Row). 0 < length r.successors) rows order sorted.same readable.go_on)
          rows sorted.same sorted.ascends top.1,
    )

some_game : (rows : List Row) → IsReadable rows → HasUnknownIn (ids_in rows) rows ⊎ ((g : NamedGame) × IsGameOf rows g)
some_game rows readable =
    let sorted = sorted_rows rows readable.apart in
    game_in_order rows readable sorted (some_given (ids_in sorted.order) sorted.order)

pub refused : (text : List ℕ) (e : GameTextRefusal) → RefusedIn (tokens text) (length text) e → (e ≢ refusal.NoMemory) × IsRefusedBy text e
refused text (refusal.Syntax at) is = (λ e. cc, is)
refused text (refusal.Repeated at) is = (λ e. cc, is)
refused text (refusal.Unknown at) is = absurd is
refused text (refusal.TooMany at) is = (λ e. cc, is)
refused text (refusal.TooLarge at) is = (λ e. cc, is)
refused text refusal.NoMemory is = absurd is

abbrev pub Answer : List ℕ → Type 0
Answer text = ((g : NamedGame) × IsReadAs text g) ⊎ ((e : GameTextRefusal) × (e ≢ refusal.NoMemory) × IsRefusedBy text e)

unknown_other : (at : ℕ) → refusal.Unknown at ≢ refusal.NoMemory
unknown_other at e = cc

whole_answer : (text : List ℕ) (s : State) → Whole (signs_of (tokens text)) s
    → HasUnknownIn (ids_in s.rows) s.rows ⊎ ((g : NamedGame) × IsGameOf s.rows g)
    → Answer text
whole_answer text s w (inl unknown) =
    let at = unknown_from s.ids (length text) 0 (signs_from text 0) in
    inr (refusal.Unknown at, unknown_other at, answered_unknown text s w unknown)
whole_answer text s w (inr (g, game)) = inl (g, answered_game text s g w game)

pub some_answer : (text : List ℕ) → Answer text
some_answer text = by (outcome_of text) refl
  where
    by : (out : Step) → outcome_of text ≡ out → Answer text
    by (Ok s) is =
        let w = answered_whole text s is in
        whole_answer text s w (some_game s.rows (whole_readable (signs_of (tokens text)) s w))
    by (Err e) is = let r = refused text e (refused_so text e is) in inr (e, r.0, r.1)
