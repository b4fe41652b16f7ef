-- The first number among tokens that ought to be an id and is none.
--
-- Which numbers ought to be ids is told by their places: among the tokens of rows successors, among those of entries vertices
-- and moves.
--
--   Referring            == which numbers ought to be ids: the role that they play, and a test of their place
--   IsForeign ids R b t  == behind the tokens b, t is such a number and none of the ids
--   stranger_here, stranger_later, no_stranger == one sign of those among which it is sought
--   first_stranger       == where there is one, the first is found
--   role_there           == a number of some role stands somewhere
--   stranger_there       == so a number that ought to be an id and is none stands somewhere
use Rattle.std.proofs.Common.{◌≡◌, ℕ, ◌<◌, ◌≤◌, ◌⊎◌, Bool, true, false, not, ◌&&◌, List, [], ◌∷◌, ◌++◌, length, Some, None, refl, sym, ◌∙◌, ap, subst, arith, inl, inr, length-append}
use Rattle.std.proofs.lemmas.Bool.{cond-true, cond-false}
use Rattle.std.proofs.lemmas.List.{append_assoc, append-nil}
use Rattle.ml_lines.specs.Reading.{value}
use Rattle.ml_lists.specs.Member.{IsMember}
use Rattle.ml_lists.proofs.Member.{member-append}
use Rattle.ml_lists.proofs.Entries.{no_middle}
use Rattle.ml_pgsolver.specs.Tokens.{Token, Number, Name, Parity, Comma, Semicolon, Stray, Placed, signs_of}
use Rattle.ml_pgsolver.specs.Refusals.{IsAt, greatest_number, next_place, offset_of, place_from, roles_from}
use Rattle.ml_pgsolver.specs.declared.scan.Sign.{Sign}
use Rattle.ml_pgsolver.specs.private.Assembled.{first_stranger_from, is_unknown, is_unknown_value, sign_place}
use Rattle.ml_pgsolver.specs.private.Machine.{is_among}
use Rattle.ml_pgsolver.specs.private.Signs.{fitting, sign_of, signs_in}
use Rattle.ml_pgsolver.proofs.Images.{fitting-cases, among-cases}
use Rattle.ml_pgsolver.proofs.PlacedFaults.{place-is, signs-cut}
use Rattle.ml_pgsolver.proofs.Readings.{place-more}
use Rattle.ml_pgsolver.proofs.Splits.{Splits, before, same, behind, splits, last_split}

-- ---- one sign

pub stranger_here : (refers : ℕ → Bool) (ids : List ℕ) (end n : ℕ) (t : Sign) (at : ℕ) (ts : List (Sign × ℕ))
    → (refers n && is_unknown ids t) ≡ true
    → first_stranger_from refers ids end n ((t, at) ∷ ts) ≡ at
unfolding first_stranger_from
stranger_here refers ids end n t at ts is = cond-true _ _ _ is

pub stranger_later : (refers : ℕ → Bool) (ids : List ℕ) (end n : ℕ) (t : Sign) (at : ℕ) (ts : List (Sign × ℕ))
    → (refers n && is_unknown ids t) ≡ false
    → first_stranger_from refers ids end n ((t, at) ∷ ts) ≡ first_stranger_from refers ids end (sign_place n t) ts
unfolding first_stranger_from
stranger_later refers ids end n t at ts is = cond-false _ _ _ is

pub no_stranger : (refers : ℕ → Bool) (ids : List ℕ) (end n : ℕ) → first_stranger_from refers ids end n [] ≡ end
unfolding first_stranger_from
no_stranger refers ids end n = refl

place_same : (n : ℕ) (t : Token) → sign_place n (sign_of t) ≡ next_place n t
place_same n (Number digits) = refl
place_same n (Name inner) = refl
place_same n Parity = refl
place_same n Comma = refl
place_same n Semicolon = refl
place_same n (Stray x) = refl

-- ---- a number of some role

pub record RoleThere (role : ℕ → Token → List ℕ) (n m : ℕ) (ts : List Token) : Type 0 where
  pub front : List Token
  pub token : Token
  pub rest : List Token
  pub all : ts ≡ front ++ token ∷ rest
  pub inside : IsMember m (role (place_from n front) token)

role_there : (role : ℕ → Token → List ℕ) (n m : ℕ) (ts : List Token)
    → IsMember m (roles_from role n ts)
    → RoleThere role n m ts
role_there role n m [] member = absurd member
role_there role n m (t ∷ ts) member =
    by (member-append m (role n t) (roles_from role (next_place n t) ts) member) (role_there role (next_place n t) m ts)
  where
    by : IsMember m (role n t) ⊎ IsMember m (roles_from role (next_place n t) ts)
        → (IsMember m (roles_from role (next_place n t) ts) → RoleThere role (next_place n t) m ts)
        → RoleThere role n m (t ∷ ts)
    by (inl here) later = record { front = []; token = t; rest = ts; all = refl; inside = here }
    by (inr member) later =
        let r = later member in
        record { front = t ∷ r.front; token = r.token; rest = r.rest; all = ap (λ us. t ∷ us) r.all; inside = r.inside }

-- ---- numbers that ought to be ids

-- which these are: their role, behind so many tokens, and a test of how many these are
pub record Referring : Type 0 where
  pub start : ℕ
  pub refers : ℕ → Bool
  pub role : ℕ → Token → List ℕ
  pub there : (n : ℕ) (digits : List ℕ) → refers n ≡ true → role n (Number digits) ≡ value digits ∷ []
  pub nowhere : (n : ℕ) (digits : List ℕ) → refers n ≡ false → role n (Number digits) ≡ []
  pub numbers : (n : ℕ) (t : Token) → ((digits : List ℕ) → t ≡ Number digits → ⊥) → role n t ≡ []

and_no : (b : Bool) → (b && false) ≡ true → ⊥
and_no true is = cc
and_no false is = cc

abbrev AreSmall : Token → Type 0
AreSmall t = (digits : List ℕ) → t ≡ Number digits → value digits ≤ greatest_number

module _ (ids : List ℕ) (R : Referring) where
  -- behind these tokens, t is such a number and none of the ids
  abbrev pub IsForeign : List Token → Token → Type 0
  IsForeign b t = (n : ℕ) × (R.role (place_from R.start b) t ≡ n ∷ []) × (IsMember n ids → ⊥)

  abbrev test : ℕ → Token → Bool
  test n t = R.refers n && is_unknown ids (sign_of t)

  number_passes : (n : ℕ) (digits : List ℕ) → value digits ≤ greatest_number
      → (here odd : Bool) → R.refers n ≡ here → is_unknown_value ids (fitting (value digits)) ≡ odd
      → (here && odd) ≡ true
      → (R.role n (Number digits) ≡ value digits ∷ []) × (IsMember (value digits) ids → ⊥)
  number_passes n digits small false odd is_here is_odd passes = absurd (cc)
  number_passes n digits small true false is_here is_odd passes = absurd (cc)
  number_passes n digits small true true is_here is_odd passes =
      (R.there n digits is_here, by (fitting-cases (value digits)) (among-cases ids (value digits)))
    where
      by : ((fitting (value digits) ≡ Some (value digits)) × (value digits ≤ greatest_number))
          ⊎ ((fitting (value digits) ≡ None) × (greatest_number < value digits))
          → ((is_among ids (value digits) ≡ true) × IsMember (value digits) ids)
          ⊎ ((is_among ids (value digits) ≡ false) × (IsMember (value digits) ids → ⊥))
          → IsMember (value digits) ids
          → ⊥
      by (inr (none, large)) among = absurd (omega arith)
      by (inl (fits, small)) (inr (new, fresh)) = fresh
      by (inl (fits, small)) (inl (old, member)) =
          let e : is_unknown_value ids (fitting (value digits)) ≡ not true =
          ap (is_unknown_value ids) fits ∙ ap not old in absurd (cc)

  number_fails : (n : ℕ) (digits : List ℕ) → value digits ≤ greatest_number
      → (here odd : Bool) → R.refers n ≡ here → is_unknown_value ids (fitting (value digits)) ≡ odd
      → (here && odd) ≡ false
      → (m : ℕ) → R.role n (Number digits) ≡ m ∷ []
      → (IsMember m ids → ⊥)
      → ⊥
  number_fails n digits small false odd is_here is_odd fails m role none =
      let e = R.nowhere n digits is_here in cc
  number_fails n digits small true true is_here is_odd fails m role none = cc
  number_fails n digits small true false is_here is_odd fails m role none =
      by (fitting-cases (value digits)) (among-cases ids (value digits))
    where
      by : ((fitting (value digits) ≡ Some (value digits)) × (value digits ≤ greatest_number))
          ⊎ ((fitting (value digits) ≡ None) × (greatest_number < value digits))
          → ((is_among ids (value digits) ≡ true) × IsMember (value digits) ids)
          ⊎ ((is_among ids (value digits) ≡ false) × (IsMember (value digits) ids → ⊥))
          → ⊥
      by (inr (no_value, large)) among = omega arith
      by (inl (fits, small)) (inl (old, member)) =
          let e = R.there n digits is_here in
          let is : value digits ≡ m = cc in none (subst (λ k. IsMember k ids) is member)
      by (inl (fits, small)) (inr (new, fresh)) =
          let e : is_unknown_value ids (fitting (value digits)) ≡ not false =
          ap (is_unknown_value ids) fits ∙ ap not new in cc

  passes_is : (b : List Token) (t : Token) → AreSmall t → test (place_from R.start b) t ≡ true → IsForeign b t
  passes_is b (Number digits) small passes =
      let r = number_passes (place_from R.start b) digits (small digits refl) _ _ refl refl passes in
      (value digits, r.0, r.1)
  passes_is b (Name inner) small passes = absurd (and_no (R.refers (place_from R.start b)) passes)
  passes_is b Parity small passes = absurd (and_no (R.refers (place_from R.start b)) passes)
  passes_is b Comma small passes = absurd (and_no (R.refers (place_from R.start b)) passes)
  passes_is b Semicolon small passes = absurd (and_no (R.refers (place_from R.start b)) passes)
  passes_is b (Stray x) small passes = absurd (and_no (R.refers (place_from R.start b)) passes)

  no_number : (n : ℕ) (t : Token) (m : ℕ) → ((digits : List ℕ) → t ≡ Number digits → ⊥) → R.role n t ≡ m ∷ [] → ⊥
  no_number n t m other role = let e = R.numbers n t other in cc

  fails_is : (b : List Token) (t : Token) → AreSmall t → test (place_from R.start b) t ≡ false → IsForeign b t → ⊥
  fails_is b (Number digits) small fails (m, role, none) =
      number_fails (place_from R.start b) digits (small digits refl) _ _ refl refl fails m role none
  fails_is b (Name inner) small fails (m, role, none) = no_number (place_from R.start b) (Name inner) m (λ digits is. cc) role
  fails_is b Parity small fails (m, role, none) = no_number (place_from R.start b) Parity m (λ digits is. cc) role
  fails_is b Comma small fails (m, role, none) = no_number (place_from R.start b) Comma m (λ digits is. cc) role
  fails_is b Semicolon small fails (m, role, none) = no_number (place_from R.start b) Semicolon m (λ digits is. cc) role
  fails_is b (Stray x) small fails (m, role, none) = no_number (place_from R.start b) (Stray x) m (λ digits is. cc) role

  -- ---- the first one

  pub record Stranger (ts : List Token) : Type 0 where
    pub front : List Token
    pub token : Token
    pub rest : List Token
    pub all : ts ≡ front ++ token ∷ rest
    pub strange : IsForeign front token

  abbrev HasNone : List Token → Type 0
  HasNone ts = (b : List Token) (t : Token) (behind : List Token) → ts ≡ b ++ t ∷ behind → IsForeign b t → ⊥

  -- the token with this number is foreign, and none before it is
  pub record IsFirst (ts : List Token) (k : ℕ) : Type 0 where
    pub before : List Token
    pub token : Token
    pub there : IsAt ts k before token
    pub strange : IsForeign before token
    pub first : (j : ℕ) (b : List Token) (t : Token) → IsAt ts j b t → IsForeign b t → k ≤ j

  none-more : (front : List Token) (t : Token) → HasNone front → (IsForeign front t → ⊥) → HasNone (front ++ t ∷ [])
  none-more front t none known b u rest is strange = by (last_split t u front b rest is)
    where
      by : ((front ≡ b) × (t ≡ u)) ⊎ ((ws : List Token) × (front ≡ b ++ u ∷ ws)) → ⊥
      by (inl (is_front, is_token)) =
          known (subst (IsForeign front) (sym is_token) (subst (λ xs. IsForeign xs u) (sym is_front) strange))
      by (inr (ws, earlier)) = none b u ws earlier strange

  abbrev pub Found : ℕ → List Placed → ℕ → Type 0
  Found end all at = (k : ℕ) × IsFirst (signs_of all) k × (at ≡ offset_of end all k)

  first_here : (front : List Placed) (t : Placed) (rest : List Placed) → HasNone (signs_of front)
      → IsForeign (signs_of front) t.token
      → IsFirst (signs_of (front ++ t ∷ rest)) (length (signs_of front))
  first_here front t rest none strange = record {
    before = signs_of front;
    token = t.token;
    there = record { behind = signs_of rest; all = signs-cut front t rest; number = refl };
    strange = strange;
    first = λ j b u there odd. by j b u there odd
        (splits t.token u (signs_of front) (signs_of rest) b there.behind (sym (signs-cut front t rest) ∙ there.all));
  }
    where
      by : (j : ℕ) (b : List Token) (u : Token) (there : IsAt (signs_of (front ++ t ∷ rest)) j b u) → IsForeign b u
          → Splits t.token (signs_of front) (signs_of rest) u b there.behind
          → length (signs_of front) ≤ j
      by j b u there odd (before ws is) =
          omega (arith, there.number, ap length is, length-append (signs_of front) (t.token ∷ ws))
      by j b u there odd (same is_front is_token is_rest) = omega (arith, there.number, ap length is_front)
      by j b u there odd (behind ws is) = absurd (none b u ws is odd)

  scan_token : (end : ℕ) (front : List Placed) (t : Placed) (rest : List Placed) (n : ℕ)
      → n ≡ place_from R.start (signs_of front)
      → HasNone (signs_of front)
      → AreSmall t.token
      → (HasNone (signs_of (front ++ t ∷ []))
      → Found end (front ++ t ∷ [] ++ rest) (first_stranger_from R.refers ids end (next_place n t.token) (signs_in rest)))
      → (b : Bool) → test n t.token ≡ b
      → Found end (front ++ t ∷ rest) (first_stranger_from R.refers ids end n (signs_in (t ∷ rest)))
  scan_token end front t rest n place none small on true is =
      let strange = passes_is (signs_of front) t.token small (ap (λ m. test m t.token) (sym place) ∙ is) in (
        length (signs_of front),
        first_here front t rest none strange,
        stranger_here R.refers ids end n (sign_of t.token) t.at (signs_in rest) is
            ∙ place-is end front t rest,
      )
  scan_token end front t rest n place none small on false is =
      let known = fails_is (signs_of front) t.token small (ap (λ m. test m t.token) (sym place) ∙ is) in
      let further =
      on (subst HasNone (sym (signs-cut front t [])) (none-more (signs_of front) t.token none known)) in
      let step = stranger_later R.refers ids end n (sign_of t.token) t.at (signs_in rest) is
      ∙ ap (λ m. first_stranger_from R.refers ids end m (signs_in rest)) (place_same n t.token) in
      subst (Found end (front ++ t ∷ rest)) (sym step)
      (subst (λ all. Found end all (first_stranger_from R.refers ids end (next_place n t.token) (signs_in rest)))
      (append_assoc front (t ∷ []) rest) further)

  scan : (end : ℕ) (rest front : List Placed) (n : ℕ)
      → n ≡ place_from R.start (signs_of front)
      → HasNone (signs_of front)
      → ((t : Token) → IsMember t (signs_of rest) → AreSmall t)
      → Stranger (signs_of (front ++ rest))
      → Found end (front ++ rest) (first_stranger_from R.refers ids end n (signs_in rest))
  scan end [] front n place none small s =
      absurd (none s.front s.token s.rest (sym (ap signs_of (append-nil front)) ∙ s.all) s.strange)
  scan end (t ∷ rest) front n place none small s =
      scan_token end front t rest n place none (small t.token (inl refl))
      (λ none_more. scan end rest (front ++ t ∷ []) (next_place n t.token)
      (ap (λ m. next_place m t.token) place
      ∙ sym (ap (place_from R.start) (signs-cut front t []) ∙ place-more R.start (signs_of front) t.token))
      none_more (λ u member. small u (inr member))
      (subst (λ all. Stranger (signs_of all)) (sym (append_assoc front (t ∷ []) rest)) s))
      (test n t.token) refl

  pub first_stranger : (end : ℕ) (all : List Placed)
      → ((digits : List ℕ) → IsMember (Number digits) (signs_of all) → value digits ≤ greatest_number)
      → Stranger (signs_of all)
      → Found end all (first_stranger_from R.refers ids end R.start (signs_in all))
  first_stranger end all small s =
      scan end all [] R.start refl (λ b t rest is strange. no_middle b t rest is)
      (λ t member digits is. small digits (subst (λ u. IsMember u (signs_of all)) is member)) s

  -- ---- where one stands

  alone : (n : ℕ) (t : Token) (m : ℕ) → IsMember m (R.role n t) → R.role n t ≡ m ∷ []
  alone n t m member = by t member
    where
      none : (u : Token) → ((digits : List ℕ) → u ≡ Number digits → ⊥) → IsMember m (R.role n u) → R.role n u ≡ m ∷ []
      none u other inside = absurd (subst (IsMember m) (R.numbers n u other) inside)

      number : (digits : List ℕ) (b : Bool) → R.refers n ≡ b → IsMember m (R.role n (Number digits)) → R.role n (Number digits) ≡ m ∷ []
      number digits true is inside = one (subst (IsMember m) (R.there n digits is) inside)
        where
          one : IsMember m (value digits ∷ []) → R.role n (Number digits) ≡ m ∷ []
          one (inl e) = R.there n digits is ∙ ap (λ k. k ∷ []) (sym e)
          one (inr nothing) = absurd nothing
      number digits false is inside = absurd (subst (IsMember m) (R.nowhere n digits is) inside)

      by : (u : Token) → IsMember m (R.role n u) → R.role n u ≡ m ∷ []
      by (Number digits) inside = number digits (R.refers n) refl inside
      by (Name inner) inside = none (Name inner) (λ digits is. cc) inside
      by Parity inside = none Parity (λ digits is. cc) inside
      by Comma inside = none Comma (λ digits is. cc) inside
      by Semicolon inside = none Semicolon (λ digits is. cc) inside
      by (Stray x) inside = none (Stray x) (λ digits is. cc) inside

  pub stranger_there : (m : ℕ) (ts : List Token)
      → IsMember m (roles_from R.role R.start ts)
      → (IsMember m ids → ⊥)
      → Stranger ts
  stranger_there m ts listed none =
      let at = role_there R.role R.start m ts listed in
      record {
        front = at.front;
        token = at.token;
        rest = at.rest;
        all = at.all;
        strange = (m, alone (place_from R.start at.front) at.token m at.inside, none);
      }
