-- The first proposition that isn't declared, among names with their places.
--
--   LowProposition x      == the name x begins in lower case, if it is a proposition
--   lows_spelled          == names that are spelled as they must be do
--   passed_lower          == the other names count nothing
--   declared_member, member_declared == what is declared is among the names, and the other way round
--   all_known             == where none is missing, all are declared
--   IsFirstMissing known zs k == at the place k the first proposition stands that isn't declared
--   first_of              == where one is missing, the place with its number is that of the first
use Rattle.std.proofs.Common.{◌≡◌, ℕ, suc, ◌+◌, ◌<◌, ◌≤◌, true, false, List, [], ◌∷◌, map, Some, Result, Ok, Err, bytes_eq, cond, inl, inr, refl, sym, ap, subst, ◌∙◌, ⊎_elim, arith}
use Rattle.std.specs.List.{AllByRecursion, AllZip, slice_get, zip}
use Rattle.std.proofs.lemmas.Bool.{and_parts, cases_Bool, cond-true, cond-false}
use Rattle.std.proofs.lemmas.Slice.Eq.{bytes_eq-Decides}
use Rattle.ml_lists.specs.Member.{IsMember}
use Rattle.ml_lists.proofs.Member.{list_any-member, member-list_any}
use Rattle.ml_text.specs.Bytes.{is_lower}
use Rattle.ml_text.specs.Names.{Kind, KindedName, Proposition, Variable, Action, are_spelled, is_spelled_name, of_kind}
use Rattle.ml_text.specs.Signs.{OwnSigns}
use Rattle.ml_text.specs.Words.{is_word_from}
use Rattle.ml_text.proofs.NameLists.{same_name}
use Rattle.ml_written.specs.Places.{begins_lower, lower_names}
use Rattle.ml_written.specs.private.Passing.{counted, declares, on_ok, passed, passed_one}
use Rattle.ml_written.proofs.LowerNames.{starts_lower}
use Rattle.ml_written.proofs.LowerTokens.{IsAscending}

abbrev pub Lows : Kind → List ℕ → Type 0
Lows Proposition w = begins_lower w ≡ true
Lows Variable w = Unit {0}
Lows Action w = Unit {0}

abbrev pub LowProposition : KindedName → Type 0
LowProposition x = Lows x.0 x.1

pub lows_spelled : {X : Type 0} (own : OwnSigns X) (xs : List KindedName)
    → are_spelled own xs ≡ true
    → AllByRecursion LowProposition xs
lows_spelled own [] is = tt
lows_spelled own ((Proposition, w) ∷ xs) is =
    let parts = and_parts (is_spelled_name own (Proposition, w)) (are_spelled own xs) is in
    (starts_lower w (and_parts (is_word_from is_lower w) _ parts.0).0, lows_spelled own xs parts.1)
lows_spelled own ((Variable, w) ∷ xs) is =
    (tt, lows_spelled own xs (and_parts (is_spelled_name own (Variable, w)) (are_spelled own xs) is).1)
lows_spelled own ((Action, w) ∷ xs) is =
    (tt, lows_spelled own xs (and_parts (is_spelled_name own (Action, w)) (are_spelled own xs) is).1)

-- ---- names that begin in lower case

on_same : (r : Result ℕ ℕ) (f g : ℕ → Result ℕ ℕ) → ((m : ℕ) → f m ≡ g m) → on_ok r f ≡ on_ok r g
on_same (Ok m) f g same = same m
on_same (Err m) f g same = refl

abbrev IsSame : List (List ℕ) → ℕ → List KindedName → List KindedName → Type 0
IsSame known n xs ys = passed known n xs ≡ passed known n ys

-- a name that begins in lower case
same_low : (known : List (List ℕ)) (n : ℕ) (x : KindedName) (xs : List KindedName)
    → ((m : ℕ) → IsSame known m xs (lower_names xs))
    → begins_lower x.1 ≡ true
    → IsSame known n (x ∷ xs) (lower_names (x ∷ xs))
same_low known n x xs later low =
    on_same (passed_one known n x.0 x.1) (λ m. passed known m xs) (λ m. passed known m (lower_names xs)) later
    ∙ ap (passed known n) (sym (cond-true (begins_lower x.1) (x ∷ lower_names xs) (lower_names xs) low))

-- another name
same_other : (known : List (List ℕ)) (n : ℕ) (x : KindedName) (xs : List KindedName)
    → ((m : ℕ) → IsSame known m xs (lower_names xs))
    → begins_lower x.1 ≡ false
    → passed_one known n x.0 x.1 ≡ Ok (n + counted x.1)
    → IsSame known n (x ∷ xs) (lower_names (x ∷ xs))
same_other known n x xs later other goes =
    let none : n + counted x.1 ≡ n = ap (λ b. n + cond b 1 0) other ∙ omega arith in
    ap (λ r. on_ok r (λ m. passed known m xs)) goes
    ∙ ap (λ m. passed known m xs) none
    ∙ later n
    ∙ ap (passed known n) (sym (cond-false (begins_lower x.1) (x ∷ lower_names xs) (lower_names xs) other))

pub passed_lower : (known : List (List ℕ)) (n : ℕ) (xs : List KindedName)
    → AllByRecursion LowProposition xs
    → IsSame known n xs (lower_names xs)
passed_lower known n [] lows = refl
passed_lower known n ((Proposition, w) ∷ xs) lows =
    same_low known n (Proposition, w) xs (λ m. passed_lower known m xs lows.1) lows.0
passed_lower known n ((Variable, w) ∷ xs) lows =
    ⊎_elim
    (λ (low : begins_lower w ≡ true). same_low known n (Variable, w) xs (λ m. passed_lower known m xs lows.1) low)
    (λ (other : begins_lower w ≡ false).
    same_other known n (Variable, w) xs (λ m. passed_lower known m xs lows.1) other refl)
    (cases_Bool (begins_lower w))
passed_lower known n ((Action, w) ∷ xs) lows =
    ⊎_elim
    (λ (low : begins_lower w ≡ true). same_low known n (Action, w) xs (λ m. passed_lower known m xs lows.1) low)
    (λ (other : begins_lower w ≡ false).
    same_other known n (Action, w) xs (λ m. passed_lower known m xs lows.1) other refl)
    (cases_Bool (begins_lower w))

-- ---- declared names

pub declared_member : (known : List (List ℕ)) (p : List ℕ) → declares known p ≡ true → IsMember p known
declared_member known p is =
    let found = list_any-member (bytes_eq p) known is in
    subst (λ q. IsMember q known) (sym ((bytes_eq-Decides p found.item).0 found.passes)) found.member

pub member_declared : (known : List (List ℕ)) (p : List ℕ) → IsMember p known → declares known p ≡ true
member_declared known p is = member-list_any (bytes_eq p) p known is (same_name p)

pub not_member : (known : List (List ℕ)) (p : List ℕ) → declares known p ≡ false → IsMember p known → ⊥
not_member known p gone is = let there = member_declared known p is in absurd (cc)

pub all_known : (known : List (List ℕ)) (n m : ℕ) (xs : List KindedName)
    → Ok m ≡ passed known n xs
    → AllByRecursion (λ p. IsMember p known) (of_kind Proposition xs)
all_known known n m [] is = tt
all_known known n m ((Proposition, w) ∷ xs) is =
    ⊎_elim
    (λ (there : declares known w ≡ true). (
      declared_member known w there,
      all_known known (n + counted w) m xs
          (is ∙ ap (λ r. on_ok r (λ k. passed known k xs)) (cond-true (declares known w) (Ok (n + counted w)) (Err n) there)),
    ))
    (λ (gone : declares known w ≡ false).
    let wrong : Ok m ≡ Err n =
    is ∙ ap (λ r. on_ok r (λ k. passed known k xs)) (cond-false (declares known w) (Ok (n + counted w)) (Err n) gone) in
    absurd (cc))
    (cases_Bool (declares known w))
all_known known n m ((Variable, w) ∷ xs) is = all_known known (n + counted w) m xs is
all_known known n m ((Action, w) ∷ xs) is = all_known known (n + counted w) m xs is

-- ---- the first that is missing

pub record IsFirstMissing (known : List (List ℕ)) (zs : List (ℕ × KindedName)) (k : ℕ) : Type 0 where
  pub name : List ℕ
  pub stands : IsMember (k, (Proposition, name)) zs
  pub undeclared : declares known name ≡ false
  pub first : (j : ℕ) (p : List ℕ) → j < k → IsMember (j, (Proposition, p)) zs → declares known p ≡ true

zip_behind : (k j : ℕ) (x : KindedName) (ps : List ℕ) (ys : List KindedName)
    → AllByRecursion (λ i. k ≤ i) ps
    → IsMember (j, x) (zip ps ys)
    → k ≤ j
zip_behind k j x [] ys all m = absurd m
zip_behind k j x (p ∷ ps) [] all m = absurd m
zip_behind k j x (p ∷ ps) (y ∷ ys) all (inl same) =
    let here : j ≡ p = ap (λ (z : ℕ × KindedName). z.0) same in omega (arith, here, all.0)
zip_behind k j x (p ∷ ps) (y ∷ ys) all (inr m) = zip_behind k j x ps ys all.1 m

-- the place k of the number m, where the first stands
abbrev pub IsFound : List (List ℕ) → List ℕ → ℕ → List (ℕ × KindedName) → Type 0
IsFound known all m zs = (k : ℕ) × (slice_get all m ≡ Some k) × IsFirstMissing known zs k

-- it stands at the front
found_here : (known : List (List ℕ)) (all : List ℕ) (n m k : ℕ) (w : List ℕ) (ps : List ℕ) (ys : List KindedName)
    → AllByRecursion (λ j. k ≤ j) ps
    → Some k ≡ slice_get all (0 + n)
    → declares known w ≡ false
    → m ≡ n
    → IsFound known all m ((k, (Proposition, w)) ∷ zip ps ys)
found_here known all n m k w ps ys behind here gone same = (
  k,
  ap (slice_get all) (let e : m ≡ 0 + n = omega (arith, same) in e) ∙ sym here,
  record {
    name = w;
    stands = inl refl;
    undeclared = gone;
    first = none_before;
  },
)
  where
    none_before : (j : ℕ) (p : List ℕ)
        → j < k
        → IsMember (j, (Proposition, p)) ((k, (Proposition, w)) ∷ zip ps ys)
        → declares known p ≡ true
    none_before j p less (inl is) =
        let at : j ≡ k = ap (λ (z : ℕ × KindedName). z.0) is in absurd (omega (arith, at, less))
    none_before j p less (inr m) =
        let at = zip_behind k j (Proposition, p) ps ys behind m in absurd (omega (arith, at, less))

-- it stands behind a name that isn't missing
found_later : (known : List (List ℕ)) (all : List ℕ) (m k : ℕ) (x : KindedName) (zs : List (ℕ × KindedName))
    → ((p : List ℕ) → (Proposition, p) ≡ x → declares known p ≡ true)
    → IsFound known all m zs
    → IsFound known all m ((k, x) ∷ zs)
found_later known all m k x zs fine found =
    let is = found.2 in (
      found.0,
      found.1,
      record {
        name = is.name;
        stands = inr is.stands;
        undeclared = is.undeclared;
        first = before is;
      },
    )
  where
    before : IsFirstMissing known zs found.0
        → (j : ℕ) (p : List ℕ)
        → j < found.0
        → IsMember (j, (Proposition, p)) ((k, x) ∷ zs)
        → declares known p ≡ true
    before is j p less (inl same) = fine p (ap (λ (z : ℕ × KindedName). z.1) same)
    before is j p less (inr later) = is.first j p less later

module _ (known : List (List ℕ)) (Q : ℕ → List ℕ → Type 0) (all : List ℕ) (m : ℕ) where
  abbrev Goal : ℕ → List ℕ → List KindedName → Type 0
  Goal n ps ys =
      AllZip Q ps (map (λ y. y.1) ys)
      → IsAscending ps
      → AllByRecursion (λ y. begins_lower y.1 ≡ true) ys
      → ((i : ℕ) → slice_get ps i ≡ slice_get all (i + n))
      → Err m ≡ passed known n ys
      → IsFound known all m (zip ps ys)

  next_place : (n k : ℕ) (ps : List ℕ)
      → ((i : ℕ) → slice_get (k ∷ ps) i ≡ slice_get all (i + n))
      → (i : ℕ)
      → slice_get ps i ≡ slice_get all (i + (n + 1))
  next_place n k ps at i =
      at (suc i) ∙ ap (slice_get all) (let e : suc i + n ≡ i + (n + 1) = omega arith in e)

  behind_low : (n : ℕ) (w : List ℕ) (r : Result ℕ ℕ) (ys : List KindedName)
      → Err m ≡ on_ok r (λ k. passed known k ys)
      → r ≡ Ok (n + counted w)
      → begins_lower w ≡ true
      → Err m ≡ passed known (n + 1) ys
  behind_low n w r ys is goes low =
      is ∙ ap (λ q. on_ok q (λ k. passed known k ys)) (goes ∙ ap (λ b. Ok (n + cond b 1 0)) low)

  other_kind : (n k : ℕ) (x : KindedName) (ps : List ℕ) (ys : List KindedName)
      → ((n : ℕ) → Goal n ps ys)
      → passed_one known n x.0 x.1 ≡ Ok (n + counted x.1)
      → ((p : List ℕ) → (Proposition, p) ≡ x → declares known p ≡ true)
      → Goal n (k ∷ ps) (x ∷ ys)
  other_kind n k x ps ys later goes fine zipped ascending low at is =
      found_later known all m k x (zip ps ys) fine
      (later (n + 1) zipped.1 ascending.1 low.1 (next_place n k ps at)
      (behind_low n x.1 (passed_one known n x.0 x.1) ys is goes low.0))

  pub first_of : (n : ℕ) (ps : List ℕ) (ys : List KindedName) → Goal n ps ys
  first_of n [] [] zipped ascending low at is = absurd (cc)
  first_of n [] (y ∷ ys) zipped ascending low at is = absurd zipped
  first_of n (k ∷ ps) [] zipped ascending low at is = absurd zipped
  first_of n (k ∷ ps) ((Variable, w) ∷ ys) zipped ascending low at is =
      other_kind n k (Variable, w) ps ys (λ i. first_of i ps ys) refl
      (λ p same. let one : Proposition ≡ Variable = ap (λ (x : KindedName). x.0) same in absurd (cc))
      zipped ascending low at is
  first_of n (k ∷ ps) ((Action, w) ∷ ys) zipped ascending low at is =
      other_kind n k (Action, w) ps ys (λ i. first_of i ps ys) refl
      (λ p same. let one : Proposition ≡ Action = ap (λ (x : KindedName). x.0) same in absurd (cc))
      zipped ascending low at is
  first_of n (k ∷ ps) ((Proposition, w) ∷ ys) zipped ascending low at is =
      ⊎_elim
      (λ (there : declares known w ≡ true).
      other_kind n k (Proposition, w) ps ys (λ i. first_of i ps ys)
      (cond-true (declares known w) (Ok (n + counted w)) (Err n) there)
      (λ p same. subst (λ q. declares known q ≡ true) (sym (ap (λ (x : KindedName). x.1) same)) there)
      zipped ascending low at is)
      (λ (gone : declares known w ≡ false).
      let wrong : Err m ≡ Err n =
      is ∙ ap (λ r. on_ok r (λ i. passed known i ys)) (cond-false (declares known w) (Ok (n + counted w)) (Err n) gone) in
      let same : m ≡ n = cc in
      found_here known all n m k w ps ys ascending.0 (at 0) gone same)
      (cases_Bool (declares known w))
