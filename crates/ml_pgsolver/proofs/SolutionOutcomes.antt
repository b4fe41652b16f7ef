-- What comes of a solution is what its tokens tell.
--
--   Read before p        == these tokens were read as p, and none is at fault
--   read_none, read_more == none were read; one more is
--   Comes all end out    == out is right of these tokens
--   goes_on, told, ends, too_soon == one step of the reader
--   comes                == what comes of the tokens is
use Rattle.std.proofs.Common.{◌≡◌, ℕ, ◌<◌, ◌≤◌, ◌⊎◌, List, [], ◌∷◌, ◌++◌, length, Option, Some, None, Ok, Err, refl, sym, ◌∙◌, ap, subst, arith, inl, inr, length-append}
use Rattle.std.proofs.lemmas.List.{append_assoc, append-nil}
use Rattle.ml_lines.specs.Reading.{value}
use Rattle.ml_lists.specs.Member.{IsMember}
use Rattle.ml_lists.specs.Times.{IsApart}
use Rattle.ml_lists.proofs.Entries.{no_middle}
use Rattle.ml_lists.proofs.Member.{member-append}
use Rattle.ml_pgsolver.specs.Refusals.{Cause, IsFaultyIn, IsFirstFaultIn, Repeated, Syntax, TooLarge, TooMany, greatest_number, id_at_place, most_vertices, next_place, offset_of, place_from, rank, roles_from}
use Rattle.ml_pgsolver.specs.SolutionGrammar.{IsSolutionText, reference_at_place, solution_form}
use Rattle.ml_pgsolver.specs.Tokens.{Placed, Token, Number, Name, Parity, Comma, Semicolon, Stray, signs_of}
use Rattle.ml_pgsolver.specs.declared.entries.EntryStage.{EntryStage}
use Rattle.ml_pgsolver.specs.declared.entries.EntryStage.TheVariants as stage
use Rattle.ml_pgsolver.specs.declared.refusal.GameTextRefusal.{GameTextRefusal}
use Rattle.ml_pgsolver.specs.declared.refusal.GameTextRefusal.TheVariants as refusal
use Rattle.ml_pgsolver.specs.declared.scan.Sign.{Sign}
use Rattle.ml_pgsolver.specs.private.EntryMachine.{EntryState, EntryStep, IsEntryTold, entries_come, entries_end, entry_behind, entry_step}
use Rattle.ml_pgsolver.specs.private.Signs.{sign_of, signs_in}
use Rattle.ml_pgsolver.proofs.PlacedFaults as faults
use Rattle.ml_pgsolver.proofs.PlacedFaults.{FaultAt, end_at, fault_here, signs-cut, syntax_here}
use Rattle.ml_pgsolver.proofs.Readings.{apart-last, place-more, roles-more}
use Rattle.ml_pgsolver.proofs.SolutionComings.{AllSmall, Came, Passes, came, facts, fills, goes, image, outgrows, place_of, references_in, repeats, stage_of, stuck, vertex_here, vertices_in}
use Rattle.ml_pgsolver.proofs.SolutionTrees.{Body, Close, HeaderEnd, Move, Reading, Vertex, Winner, Word, begins-grown, grow, grown-append, grown-begins, grown_from, solution-ended}
use Rattle.ml_pgsolver.proofs.Splits.{last_split}

pub record Read (before : List Token) (p : Reading) : Type 0 where
  pub run : grown_from (Some Word) before ≡ Some p
  pub place : place_from 1 before ≡ place_of p
  pub vertices : roles_from id_at_place 1 before ≡ vertices_in p
  pub references : roles_from reference_at_place 1 before ≡ references_in p
  pub few : length (vertices_in p) ≤ most_vertices
  pub small : AllSmall p
  pub apart : IsApart (vertices_in p)
  pub faultless : (c : Cause) (b : List Token) (t : Token) (behind : List Token) → before ≡ b ++ t ∷ behind
      → IsFaultyIn solution_form c b t
      → ⊥

pub read_none : Read [] Word
read_none = record {
  run = refl;
  place = refl;
  vertices = refl;
  references = refl;
  few = omega arith;
  small = λ n m. absurd m;
  apart = tt;
  faultless = λ c b t behind is faulty. no_middle b t behind is;
}

-- ---- the next token

-- a token is a vertex by its number, or none
data Shape (t : Token) (here : List ℕ) : Type 0 where
  none : here ≡ [] → Shape t here
  one : (digits : List ℕ) → t ≡ Number digits → here ≡ value digits ∷ [] → Shape t here

shape : (p : Reading) (t : Token) → Shape t (vertex_here p t)
shape Word t = none refl
shape (HeaderEnd digits) t = none refl
shape (Body h es Vertex) (Number digits) = one digits refl refl
shape (Body h es Vertex) (Name inner) = none refl
shape (Body h es Vertex) Parity = none refl
shape (Body h es Vertex) Comma = none refl
shape (Body h es Vertex) Semicolon = none refl
shape (Body h es Vertex) (Stray b) = none refl
shape (Body h es (Winner v)) t = none refl
shape (Body h es (Move v winner)) t = none refl
shape (Body h es (Close v winner to)) t = none refl

module _ (before : List Token) (p : Reading) (t : Token) (q : Reading) (read : Read before p) (more : grow p t ≡ Some q) where
  run_more : grown_from (Some Word) (before ++ t ∷ []) ≡ Some q
  run_more = grown-append (Some Word) before (t ∷ []) ∙ ap (λ o. grown_from o (t ∷ [])) read.run ∙ one_on (grow p t) more
    where
      one_on : (o : Option Reading) → o ≡ Some q → grown_from o [] ≡ Some q
      one_on None is = cc
      one_on (Some r) is = is

  role_is : id_at_place (place_from 1 before) t ≡ vertex_here p t
  role_is = ap (λ n. id_at_place n t) read.place ∙ (facts p t q more).vertex

  pub not_syntax : IsFaultyIn solution_form Syntax before t → ⊥
  not_syntax faulty = faulty.1 (begins-grown (before ++ t ∷ []) q run_more)

  pub not_repeated : ((n : ℕ) → vertex_here p t ≡ n ∷ [] → IsMember n (vertices_in p) → ⊥)
      → IsFaultyIn solution_form Repeated before t
      → ⊥
  not_repeated fresh (n, here, member) = fresh n (sym role_is ∙ here) (subst (IsMember n) read.vertices member)

  pub not_many : ((n : ℕ) → vertex_here p t ≡ n ∷ [] → length (vertices_in p) < most_vertices)
      → IsFaultyIn solution_form TooMany before t
      → ⊥
  not_many room (inl (n, here, full)) =
      let free = room n (sym role_is ∙ here) in omega (arith, ap length read.vertices)
  not_many room (inr (n, here, full)) = absurd (cc)

  pub not_large : ((digits : List ℕ) → t ≡ Number digits → value digits ≤ greatest_number)
      → IsFaultyIn solution_form TooLarge before t
      → ⊥
  not_large small (digits, is, large) = let fits = small digits is in omega arith

  no_fault : Passes p t → (c : Cause) → IsFaultyIn solution_form c before t → ⊥
  no_fault passes Syntax faulty = not_syntax faulty
  no_fault passes Repeated faulty = not_repeated passes.fresh faulty
  no_fault passes TooMany faulty = not_many passes.room faulty
  no_fault passes TooLarge faulty = not_large passes.small faulty

  few : (xs here : List ℕ) → Shape t here → length xs ≤ most_vertices
      → ((n : ℕ) → here ≡ n ∷ [] → length xs < most_vertices)
      → length (xs ++ here) ≤ most_vertices
  few xs here (none is) fits room = omega (arith, length-append xs here, ap length is)
  few xs here (one digits is_t is) fits room =
      let free = room (value digits) is in omega (arith, length-append xs here, ap length is)

  small_more : (xs here : List ℕ) → Shape t here
      → ((n : ℕ) → IsMember n xs → n ≤ greatest_number)
      → ((digits : List ℕ) → t ≡ Number digits → value digits ≤ greatest_number)
      → (n : ℕ) → IsMember n xs ⊎ IsMember n here → n ≤ greatest_number
  small_more xs here made all_small small n (inl old) = all_small n old
  small_more xs here (none is) all_small small n (inr new) = absurd (subst (IsMember n) is new)
  small_more xs here (one digits is_t is) all_small small n (inr new) = by (subst (IsMember n) is new)
    where
      by : IsMember n (value digits ∷ []) → n ≤ greatest_number
      by (inl e) = let fits = small digits is_t in omega arith
      by (inr m) = absurd m

  apart_more : (xs here : List ℕ) → Shape t here → IsApart xs → ((n : ℕ) → here ≡ n ∷ [] → IsMember n xs → ⊥)
      → IsApart (xs ++ here)
  apart_more xs here (none is) apart fresh = subst IsApart (sym (append-nil xs) ∙ ap (λ ys. xs ++ ys) (sym is)) apart
  apart_more xs here (one digits is_t is) apart fresh =
      subst IsApart (ap (λ ys. xs ++ ys) (sym is)) (apart-last (value digits) xs apart (fresh (value digits) is))

  faultless_more : ((c : Cause) → IsFaultyIn solution_form c before t → ⊥)
      → (c : Cause) (b : List Token) (u : Token) (behind : List Token)
      → ((before ≡ b) × (t ≡ u)) ⊎ ((ws : List Token) × (before ≡ b ++ u ∷ ws))
      → IsFaultyIn solution_form c b u
      → ⊥
  faultless_more good c b u behind (inl (first, same)) faulty =
      good c (subst (λ v. IsFaultyIn solution_form c before v) (sym same)
      (subst (λ xs. IsFaultyIn solution_form c xs u) (sym first) faulty))
  faultless_more good c b u behind (inr (ws, earlier)) faulty = read.faultless c b u ws earlier faulty

  pub read_more : Passes p t → Read (before ++ t ∷ []) q
  read_more passes =
      let f = facts p t q more in
      record {
        run = run_more;
        place = place-more 1 before t ∙ ap (λ n. next_place n t) read.place ∙ f.place;
        vertices = roles-more id_at_place 1 before t ∙ ap (λ xs. xs ++ id_at_place (place_from 1 before) t) read.vertices
            ∙ ap (λ xs. vertices_in p ++ xs) role_is ∙ sym f.vertices;
        references = roles-more reference_at_place 1 before t
            ∙ ap (λ xs. xs ++ reference_at_place (place_from 1 before) t) read.references
            ∙ ap (λ n. references_in p ++ reference_at_place n t) read.place ∙ sym f.references;
        few = subst (λ xs. length xs ≤ most_vertices) (sym f.vertices)
            (few (vertices_in p) (vertex_here p t) (shape p t) read.few passes.room);
        small = λ n m. small_more (vertices_in p) (vertex_here p t) (shape p t) read.small passes.small n
            (member-append n (vertices_in p) (vertex_here p t) (subst (IsMember n) f.vertices m));
        apart = subst IsApart (sym f.vertices) (apart_more (vertices_in p) (vertex_here p t) (shape p t) read.apart passes.fresh);
        faultless = λ c b u behind is faulty.
            faultless_more (no_fault passes) c b u behind (last_split t u before b behind is) faulty;
      }

-- ---- what comes

abbrev pub RefusedIn : List Placed → ℕ → GameTextRefusal → Type 0
RefusedIn all end e = faults.RefusedIn solution_form all end e

abbrev pub Comes : List Placed → ℕ → EntryStep → Type 0
Comes all end (Ok s) = (q : Reading) × Read (signs_of all) q × (s ≡ image q) × (stage_of q ≡ stage.Vertex)
Comes all end (Err e) = RefusedIn all end e

pub goes_on : (end : ℕ) (s next : EntryState) (t : Sign) (at : ℕ) (ts : List (Sign × ℕ))
    → entry_step s t at ≡ Ok next
    → entries_come end s ((t, at) ∷ ts) ≡ entries_come end next ts
unfolding entries_come
goes_on end s next t at ts is = ap (λ q. entry_behind q (λ n. entries_come end n ts)) is

stops : (end : ℕ) (s : EntryState) (t : Sign) (at : ℕ) (ts : List (Sign × ℕ)) (e : GameTextRefusal)
    → entry_step s t at ≡ Err e
    → entries_come end s ((t, at) ∷ ts) ≡ Err e
unfolding entries_come
stops end s t at ts e is = ap (λ q. entry_behind q (λ n. entries_come end n ts)) is

pub ends : (end : ℕ) (s : EntryState) → entries_come end s [] ≡ entries_end s.stage s end
unfolding entries_come
ends end s = refl

-- what is told of a sign that is refused
pub told : (end : ℕ) (s : EntryState) (t : Sign) (at : ℕ) (ts : List (Sign × ℕ)) (e : GameTextRefusal)
    → IsEntryTold e (entry_step s t at)
    → IsEntryTold e (entries_come end s ((t, at) ∷ ts))
told end s t at ts refusal.NoMemory is = tt
told end s t at ts (refusal.Syntax k) is = stops end s t at ts _ is
told end s t at ts (refusal.Repeated k) is = stops end s t at ts _ is
told end s t at ts (refusal.Unknown k) is = stops end s t at ts _ is
told end s t at ts (refusal.TooMany k) is = stops end s t at ts _ is
told end s t at ts (refusal.TooLarge k) is = stops end s t at ts _ is

pub told_along : (e : GameTextRefusal) (out other : EntryStep) → out ≡ other → IsEntryTold e other → IsEntryTold e out
told_along e out other is told = subst (IsEntryTold e) (sym is) told

-- a solution may end only where an entry may begin
pub too_soon : (q : EntryStage) (s : EntryState) (end : ℕ) → (q ≡ stage.Vertex → ⊥)
    → entries_end q s end ≡ Err (refusal.Syntax end)
too_soon stage.Vertex s end other = absurd (other refl)
too_soon q s end other = refl

not_ended : (ts : List Token) (p : Reading) → grown_from (Some Word) ts ≡ Some p → (stage_of p ≡ stage.Vertex → ⊥)
    → IsSolutionText ts
    → ⊥
not_ended ts p run open_stage (d, is) =
    let e : p ≡ Body d.header d.entries Vertex = cc (run, solution-ended ts d is) in open_stage (ap stage_of e)

at_the_end : (all : List Placed) (end : ℕ) (p : Reading) (q : EntryStage) → stage_of p ≡ q → Read (signs_of all) p
    → Comes all end (entries_end q (image p) end)
at_the_end all end p stage.Vertex is read = (p, read, refl, is)
at_the_end all end p q is read =
    end_at solution_form all end read.faultless (begins-grown (signs_of all) p read.run)
    (not_ended (signs_of all) p read.run (λ ended. cc))

module _ (first : List Placed) (p : Reading) (t : Placed) (rest : List Placed) (end : ℕ) (read : Read (signs_of first) p) where
  abbrev all : List Placed
  all = first ++ t ∷ rest

  no_way : grow p t.token ≡ None → FaultAt solution_form all end Syntax t.at
  no_way stops_here =
      syntax_here solution_form first t rest end read.faultless (begins-grown (signs_of first) p read.run)
      (λ begins. none_begins (grown-begins _ begins))
    where
      none_begins : (q : Reading) × (grown_from (Some Word) (signs_of first ++ t.token ∷ []) ≡ Some q) → ⊥
      none_begins (q, run) =
          let stuck_run = grown-append (Some Word) (signs_of first) (t.token ∷ [])
          ∙ ap (λ o. grown_from o (t.token ∷ [])) read.run ∙ ap (λ o. grown_from o []) stops_here in cc

  at_fault : (q : Reading) → grow p t.token ≡ Some q → (out : EntryStep)
      → Came p t.token q t.at out
      → ((out ≡ Ok (image q)) × Passes p t.token)
      ⊎ ((e : GameTextRefusal) × (out ≡ Err e) × RefusedIn all end e)
  at_fault q more out (goes is passes) = inl (is, passes)
  at_fault q more out (repeats n here member is) =
      inr (
        refusal.Repeated t.at,
        is,
        fault_here solution_form first t rest end read.faultless Repeated
            (n, role_is (signs_of first) p t.token q read more ∙ here, subst (IsMember n) (sym read.vertices) member) lowest,
      )
    where
      lowest : (d : Cause) → IsFaultyIn solution_form d (signs_of first) t.token → 2 ≤ rank d
      lowest Syntax faulty = absurd (not_syntax (signs_of first) p t.token q read more faulty)
      lowest Repeated faulty = omega arith
      lowest TooMany faulty = omega arith
      lowest TooLarge faulty = omega arith
  at_fault q more out (fills n here fresh full is) =
      inr (
        refusal.TooMany t.at,
        is,
        fault_here solution_form first t rest end read.faultless TooMany
            (inl (n, role_is (signs_of first) p t.token q read more ∙ here, omega (arith, ap length read.vertices, read.few))) lowest,
      )
    where
      lowest : (d : Cause) → IsFaultyIn solution_form d (signs_of first) t.token → 4 ≤ rank d
      lowest Syntax faulty = absurd (not_syntax (signs_of first) p t.token q read more faulty)
      lowest Repeated faulty = absurd (not_repeated (signs_of first) p t.token q read more
          (λ m there member. let e : n ≡ m = cc in fresh (subst (λ k. IsMember k (vertices_in p)) (sym e) member)) faulty)
      lowest TooMany faulty = omega arith
      lowest TooLarge faulty = omega arith
  at_fault q more out (outgrows digits is_t large fresh room is) =
      inr (
        refusal.TooLarge t.at,
        is,
        fault_here solution_form first t rest end read.faultless TooLarge (digits, is_t, large) lowest,
      )
    where
      lowest : (d : Cause) → IsFaultyIn solution_form d (signs_of first) t.token → 5 ≤ rank d
      lowest Syntax faulty = absurd (not_syntax (signs_of first) p t.token q read more faulty)
      lowest Repeated faulty = absurd (not_repeated (signs_of first) p t.token q read more fresh faulty)
      lowest TooMany faulty = absurd (not_many (signs_of first) p t.token q read more room faulty)
      lowest TooLarge faulty = omega arith

  by_token : ((q : Reading) → Read (signs_of (first ++ t ∷ [])) q
      → Comes (first ++ t ∷ [] ++ rest) end (entries_come end (image q) (signs_in rest)))
      → (o : Option Reading) → grow p t.token ≡ o
      → Comes all end (entries_come end (image p) (signs_in (t ∷ rest)))
  by_token on None is =
      subst (Comes all end)
      (sym (stops end (image p) (sign_of t.token) t.at (signs_in rest) (refusal.Syntax t.at) (stuck p t.token t.at is)))
      (no_way is)
  by_token on (Some q) is =
      by (at_fault q is (entry_step (image p) (sign_of t.token) t.at) (came p t.token q t.at is read.small))
    where
      by : ((entry_step (image p) (sign_of t.token) t.at ≡ Ok (image q)) × Passes p t.token)
          ⊎ ((e : GameTextRefusal) × (entry_step (image p) (sign_of t.token) t.at ≡ Err e) × RefusedIn all end e)
          → Comes all end (entries_come end (image p) (signs_in (t ∷ rest)))
      by (inl (goes_so, passes)) =
          let read_on = subst (λ ts. Read ts q) (sym (signs-cut first t [])) (read_more (signs_of first) p t.token q read is passes) in
          subst (Comes all end) (sym (goes_on end (image p) (image q) (sign_of t.token) t.at (signs_in rest) goes_so))
          (subst (λ ps. Comes ps end (entries_come end (image q) (signs_in rest))) (append_assoc first (t ∷ []) rest) (on q read_on))
      by (inr (e, refused_so, refused)) =
          subst (Comes all end) (sym (stops end (image p) (sign_of t.token) t.at (signs_in rest) e refused_so)) refused

comes_from : (end : ℕ) (rest first : List Placed) (p : Reading) → Read (signs_of first) p
    → Comes (first ++ rest) end (entries_come end (image p) (signs_in rest))
comes_from end [] first p read =
    subst (λ ps. Comes ps end (entries_come end (image p) [])) (sym (append-nil first))
    (subst (Comes first end) (sym (ends end (image p))) (at_the_end first end p (stage_of p) refl read))
comes_from end (t ∷ rest) first p read =
    by_token first p t rest end read (λ q read_on. comes_from end rest (first ++ t ∷ []) q read_on) (grow p t.token) refl

pub comes : (all : List Placed) (end : ℕ) → Comes all end (entries_come end (image Word) (signs_in all))
comes all end = comes_from end all [] Word read_none
