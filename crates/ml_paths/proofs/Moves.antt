-- Moves that are added to a system, one after the other.
--
--   empty_more   == a row without moves more
--   table_push   == a row in which a move is pushed
--   goes_pushed  == what the system does then
--   moved, unmoved == the move of an edge was added, or there is none
--   back_more    == one state more, as a state of the structure
--   system_none, system_more == the system of no edges, and that of one edge more
use Rattle.std.proofs.Common.{ℕ, zero, suc, ◌≡◌, ◌↔◌, ◌<◌, ◌⊎◌, ◌==◌, ◌&&◌, ◌||◌, inl, inr, Bool, true, false, List, [], ◌∷◌, ◌++◌, length, map, get_or, set, take, ◌+◌, refl, sym, ap, ◌∙◌, subst, codes, bytes_eq}
use Rattle.std.specs.Global.{Vec}
use Rattle.std.proofs.lemmas.Bool.{and_from, and_parts, cases_eq, eq-eqb, eqb-true, false≢true, or_cases, or_left, or_right}
use Rattle.std.proofs.lemmas.List.{get_or-map, get_or-set_other, get_or-set_same, length-set, map-append, map-set, take_more}
use Rattle.std.proofs.lemmas.List.Folds.{list_any-append}
use Rattle.ml_base.specs.Structure.{Structure}
use Rattle.ml_base.specs.declared.structure.Edge.{Edge}
use Rattle.ml_emptiness.specs.Systems.{Goes, SystemTable, moves_of, table_of}
use Rattle.ml_emptiness.specs.declared.systems.Move.{Move}
use Rattle.ml_lists.specs.Member.{IsMember}
use Rattle.ml_lists.proofs.Member.{member-append, member-append_left, member-append_right}
use Rattle.ml_paths.specs.private.Letters.{number_of}
use Rattle.ml_paths.specs.private.Systems.{IsMoved, IsSystemOf, pushed, steps, swapped}
use Rattle.ml_paths.proofs.Swapped.{swap_twice}

abbrev pub move : ℕ → ℕ → Move
move l b = record { letter = l; to = b }

pub empty_more : (rows : List (Vec Move)) (row : Vec Move)
    → row.items ≡ []
    → ((a : ℕ) → moves_of (table_of rows) a ≡ [])
    → (a : ℕ) → moves_of (table_of (rows ++ row ∷ [])) a ≡ []
empty_more [] row none so_far zero = none
empty_more [] row none so_far (suc a) = refl
empty_more (r ∷ rows) row none so_far zero = so_far 0
empty_more (r ∷ rows) row none so_far (suc a) = empty_more rows row none (λ b. so_far (suc b)) a

pub table_push : (rows : List (Vec Move)) (k : ℕ) (row old d : Vec Move) (m : Move)
    → k < length rows
    → old ≡ get_or rows k d
    → row.items ≡ old.items ++ m ∷ []
    → table_of (set rows k row) ≡ pushed (table_of rows) k m
table_push rows k row old d m low is items =
    let same : row.items ≡ moves_of (table_of rows) k ++ m ∷ [] =
    items
    ∙ ap (λ (v : Vec Move). v.items ++ m ∷ []) is
    ∙ ap (λ ms. ms ++ m ∷ []) (sym (get_or-map (λ (v : Vec Move). v.items) rows k d [] low)) in
    map-set (λ (v : Vec Move). v.items) rows k row ∙ ap (set (table_of rows) k) same

pub goes_pushed : (t : SystemTable) (k : ℕ) (m : Move) (a l b : ℕ)
    → k < length t
    → Goes (pushed t k m) a l b ↔ (Goes t a l b ⊎ ((a ≡ k) × (move l b ≡ m)))
goes_pushed t k m a l b low = by (cases_eq a k)
  where
    by : (a ≡ k) ⊎ (a ≡ k → ⊥) → Goes (pushed t k m) a l b ↔ (Goes t a l b ⊎ ((a ≡ k) × (move l b ≡ m)))
    by (inl here) = (λ h. there (member-append (move l b) (moves_of t k) (m ∷ []) (subst (IsMember (move l b)) row h)), back)
      where
        row : moves_of (pushed t k m) a ≡ moves_of t k ++ m ∷ []
        row =
            ap (λ n. moves_of (pushed t k m) n) here
            ∙ get_or-set_same t k (moves_of t k ++ m ∷ []) [] low

        there : IsMember (move l b) (moves_of t k) ⊎ IsMember (move l b) (m ∷ []) → Goes t a l b ⊎ ((a ≡ k) × (move l b ≡ m))
        there (inl old) = inl (subst (λ n. Goes t n l b) (sym here) old)
        there (inr (inl new)) = inr (here, new)
        there (inr (inr none)) = absurd none

        back : Goes t a l b ⊎ ((a ≡ k) × (move l b ≡ m)) → Goes (pushed t k m) a l b
        back (inl old) =
            subst (IsMember (move l b)) (sym row)
            (member-append_left (move l b) (moves_of t k) (m ∷ []) (subst (λ n. Goes t n l b) here old))
        back (inr new) =
            subst (IsMember (move l b)) (sym row) (member-append_right (move l b) (moves_of t k) (m ∷ []) (inl new.1))
    by (inr other) = (λ h. inl (subst (IsMember (move l b)) row h), back)
      where
        row : moves_of (pushed t k m) a ≡ moves_of t a
        row = get_or-set_other t k a (moves_of t k ++ m ∷ []) [] other

        back : Goes t a l b ⊎ ((a ≡ k) × (move l b ≡ m)) → Goes (pushed t k m) a l b
        back (inl old) = subst (IsMember (move l b)) (sym row) old
        back (inr new) = absurd (other new.0)

pub moved : (start : ℕ) (numbers : List ℕ) (e : Edge) (t t' : SystemTable) (from letter to : ℕ)
    → from < length t
    → from ≡ swapped start e.source
    → letter ≡ number_of numbers e.source
    → to ≡ swapped start e.target
    → t' ≡ pushed t from (move letter to)
    → IsMoved start numbers true e t t'
moved start numbers e t t' from letter to low from_is letter_is to_is is = record {
  one_each = ap length is ∙ length-set t from (moves_of t from ++ move letter to ∷ []);
  goes = λ a l b. (
    λ h. there a l b ((goes_pushed t from (move letter to) a l b low).0 (subst (λ u. Goes u a l b) is h)),
    λ h. subst (λ u. Goes u a l b) (sym is) ((goes_pushed t from (move letter to) a l b low).1 (back a l b h)),
  );
}
  where
    New : ℕ → ℕ → ℕ → Type 0
    New a l b = (true ≡ true) × ((a ≡ swapped start e.source) × ((l ≡ number_of numbers e.source) × (b ≡ swapped start e.target)))

    there : (a l b : ℕ) → Goes t a l b ⊎ ((a ≡ from) × (move l b ≡ move letter to)) → Goes t a l b ⊎ New a l b
    there a l b (inl old) = inl old
    there a l b (inr new) =
        inr (
          refl,
          (
            new.0 ∙ from_is,
            (ap (λ (m : Move). m.letter) new.1 ∙ letter_is, ap (λ (m : Move). m.to) new.1 ∙ to_is),
          ),
        )

    back : (a l b : ℕ) → Goes t a l b ⊎ New a l b → Goes t a l b ⊎ ((a ≡ from) × (move l b ≡ move letter to))
    back a l b (inl old) = inl old
    back a l b (inr new) =
        let letters = new.1.1.0 ∙ sym letter_is in
        let targets = new.1.1.1 ∙ sym to_is in
        inr (new.1.0 ∙ sym from_is, (λ j. move (letters j) (targets j)))

pub unmoved : (start : ℕ) (numbers : List ℕ) (e : Edge) (t : SystemTable) → IsMoved start numbers false e t t
unmoved start numbers e t = record {
  one_each = refl;
  goes = λ a l b. ((λ h. inl h), (λ h. back a l b h));
}
  where
    back : (a l b : ℕ)
        → Goes t a l b
        ⊎ ((false ≡ true)
        × ((a ≡ swapped start e.source) × ((l ≡ number_of numbers e.source) × (b ≡ swapped start e.target))))
        → Goes t a l b
    back a l b (inl old) = old
    back a l b (inr new) = absurd (false≢true new.0)

pub back_more : (start : ℕ) (xs : List ℕ) (i : ℕ)
    → i < length xs
    → map (swapped start) (take (i + 1) xs) ≡ map (swapped start) (take i xs) ++ swapped start (get_or xs i 0) ∷ []
back_more start xs i low =
    ap (map (swapped start)) (take_more xs i 0 low) ∙ map-append (swapped start) (take i xs) (get_or xs i 0 ∷ [])

-- ---- the edges of a structure

pub system_none : (m : Structure) (start : ℕ) (numbers : List ℕ) (t : SystemTable)
    → length t ≡ m.states
    → ((a : ℕ) → moves_of t a ≡ [])
    → IsSystemOf m start numbers [] t
system_none m start numbers t long none = record {
  one_each = long;
  goes = λ a l b. (λ h. absurd (subst (IsMember (move l b)) (none a) h), λ h. absurd (false≢true h.0));
}

pub system_more : (m : Structure) (start : ℕ) (numbers : List ℕ) (edges : List Edge) (e : Edge) (t t' : SystemTable)
    → IsSystemOf m start numbers edges t
    → IsMoved start numbers (bytes_eq e.action (codes "_")) e t t'
    → IsSystemOf m start numbers (edges ++ e ∷ []) t'
system_more m start numbers edges e t t' sys more = record {
  one_each = more.one_each ∙ sys.one_each;
  goes = λ a l b. (λ h. there a l b ((more.goes a l b).0 h), λ h. (more.goes a l b).1 (back a l b h));
}
  where
    blank : Bool
    blank = bytes_eq e.action (codes "_")

    leads : ℕ → ℕ → Edge → Bool
    leads a b x = (x.source == swapped start a) && bytes_eq x.action (codes "_") && (x.target == swapped start b)

    New : ℕ → ℕ → ℕ → Type 0
    New a l b = (blank ≡ true) × ((a ≡ swapped start e.source) × ((l ≡ number_of numbers e.source) × (b ≡ swapped start e.target)))

    Has : ℕ → ℕ → ℕ → Type 0
    Has a l b = (steps (edges ++ e ∷ []) (swapped start a) (swapped start b) ≡ true) × (l ≡ number_of numbers (swapped start a))

    all : (a b : ℕ) → steps (edges ++ e ∷ []) (swapped start a) (swapped start b)
        ≡ (steps edges (swapped start a) (swapped start b) || (leads a b e || false))
    all a b = list_any-append (leads a b) edges (e ∷ [])

    there : (a l b : ℕ) → Goes t a l b ⊎ New a l b → Has a l b
    there a l b (inl old) =
        let h = (sys.goes a l b).0 old in (
          all a b ∙ or_left (steps edges (swapped start a) (swapped start b)) (leads a b e || false) h.0,
          h.1,
        )
    there a l b (inr new) =
        let from : swapped start a ≡ e.source = ap (swapped start) new.1.0 ∙ swap_twice start e.source in
        let to : swapped start b ≡ e.target = ap (swapped start) new.1.1.1 ∙ swap_twice start e.target in
        let is : leads a b e ≡ true =
        and_from ((e.source == swapped start a) && blank) (e.target == swapped start b)
        (and_from (e.source == swapped start a) blank (eq-eqb e.source (swapped start a) (sym from)) new.0)
        (eq-eqb e.target (swapped start b) (sym to)) in (
          all a b
              ∙ or_right (steps edges (swapped start a) (swapped start b)) (leads a b e || false)
              (or_left (leads a b e) false is),
          new.1.1.0 ∙ ap (number_of numbers) (sym from),
        )

    back : (a l b : ℕ) → Has a l b → Goes t a l b ⊎ New a l b
    back a l b h =
        by (or_cases (steps edges (swapped start a) (swapped start b)) (leads a b e || false) (sym (all a b) ∙ h.0))
      where
        new : leads a b e ≡ true → New a l b
        new is =
            let parts = and_parts ((e.source == swapped start a) && blank) (e.target == swapped start b) is in
            let first = and_parts (e.source == swapped start a) blank parts.0 in
            let from : e.source ≡ swapped start a = eqb-true e.source (swapped start a) first.0 in
            let to : e.target ≡ swapped start b = eqb-true e.target (swapped start b) parts.1 in (
              first.1,
              (
                sym (swap_twice start a) ∙ ap (swapped start) (sym from),
                (h.1 ∙ ap (number_of numbers) (sym from), sym (swap_twice start b) ∙ ap (swapped start) (sym to)),
              ),
            )

        by : (steps edges (swapped start a) (swapped start b) ≡ true) ⊎ ((leads a b e || false) ≡ true)
            → Goes t a l b ⊎ New a l b
        by (inl old) = inl ((sys.goes a l b).1 (old, h.1))
        by (inr last) = by_last (or_cases (leads a b e) false last)
          where
            by_last : (leads a b e ≡ true) ⊎ (false ≡ true) → Goes t a l b ⊎ New a l b
            by_last (inl is) = inr (new is)
            by_last (inr none) = absurd (false≢true none)
