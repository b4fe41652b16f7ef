-- Each automaton has its game.
--
--   some_added    == something can be added to a list, if it isn't there
--   add_number    == a number can be
--   some_answers, some_known, some_states == as the program makes it, vertex by vertex
--   some_arena    == an automaton has an arena
use Rattle.std.proofs.Common.{ℕ, zero, suc, ◌≡◌, ◌+◌, ◌*◌, ◌/◌, ◌%◌, ◌<◌, ◌≤◌, ◌⊎◌, inl, inr, arith, Bool, true, false}
use Rattle.std.proofs.Common.{List, [], ◌∷◌, ◌++◌, length, slice_get, Some, refl, sym, ap, ◌∙◌, subst, true≢false}
use Rattle.std.specs.List.{list_any, range_with_len}
use Rattle.std.proofs.Math.Nat.{div-lt_iff_lt-mul, mod-lt}
use Rattle.std.proofs.lemmas.Bool.{cases_Bool, eqb-true}
use Rattle.std.proofs.lemmas.Cmp.{nat_eq_equiv}
use Rattle.std.proofs.Common.{nat_eq}
use Rattle.std.proofs.lemmas.List.FromFn.{get_or-range_with_len, length-range_with_len}
use Rattle.std.proofs.lemmas.Option.{same_Some, slice_get-get_or}
use Rattle.ml_lists.specs.Added.{IsAdded, HasOnePlace}
use Rattle.ml_lists.proofs.Entries.{some_entry}
use Rattle.ml_lists.proofs.Member.{Passing, list_any-member, member-list_any, member-place}
use Rattle.ml_parity.specs.declared.players.Player.TheVariants.{Even, Odd}
use Rattle.ml_parity.specs.Game.{ParityGame}
use Rattle.ml_determinise.specs.Numbering.{move_at}
use Rattle.ml_determinise.specs.declared.moves.DetMove.{DetMove}
use Rattle.ml_synthesis.specs.declared.arrival.Arrival.{Arrival}
use Rattle.ml_synthesis.specs.private.Arena.{AreArrivals, AreMoves, AreSets, IsAnswered, IsArena, IsDraft, IsEnd}
use Rattle.ml_synthesis.specs.private.Arena.{arrival_of, begun, no_vertices}
use Rattle.ml_synthesis.proofs.Answered.{answered_more, answered_none}
use Rattle.ml_synthesis.proofs.Arrivals.{arrival_eq, arrival_eq-refl, arrival_eq-same}
use Rattle.ml_synthesis.proofs.Drafts.{draft_known, draft_state, extended}

-- ---- something is added

pub record Added {X : Type 0} (xs : List X) (x : X) : Type 0 where
  pub behind : List X
  pub place : ℕ
  pub added : IsAdded xs x behind place

pub some_added : {X : Type 0} (eq : X → X → Bool)
    → ((x y : X) → eq x y ≡ true → x ≡ y)
    → ((x : X) → eq x x ≡ true)
    → (xs : List X) (x : X)
    → Added xs x
some_added {X} eq same own xs x = by_test (cases_Bool (list_any (eq x) xs))
  where
    at_end : (ys : List X) → slice_get (ys ++ x ∷ []) (length ys) ≡ Some x
    at_end [] = refl
    at_end (y ∷ ys) = at_end ys

    by_test : (list_any (eq x) xs ≡ true) ⊎ (list_any (eq x) xs ≡ false) → Added xs x
    by_test (inl there) =
        let p : Passing (eq x) xs = list_any-member (eq x) xs there in
        let seat = member-place p.item xs p.member in
        record {
          behind = xs;
          place = seat.place;
          added = record {
            stands =
                slice_get-get_or xs seat.place p.item seat.below ∙ ap Some (seat.holds p.item)
                ∙ ap Some (sym (same x p.item p.passes));
            grown = inl refl;
          };
        }
    by_test (inr new) = record {
      behind = xs ++ x ∷ [];
      place = length xs;
      added = record {
        stands = at_end xs;
        grown = inr (refl, λ m. true≢false (sym (member-list_any (eq x) x xs m (own x)) ∙ new));
      };
    }

pub add_number : (ks : List ℕ) (x : ℕ) → Added ks x
add_number = some_added nat_eq eqb-true nat_eq_equiv.refl

module _ (n m neutral : ℕ) (moves : List (List DetMove)) (are : AreMoves n m neutral moves) where
  abbrev base : ℕ
  base = length moves * n

  -- ---- the answers from a state with inputs

  record Answered (ks : List Arrival) (q ins count : ℕ) : Type 0 where
    behind : List Arrival
    vertices : List ℕ
    is : IsAnswered n m base neutral moves ks q ins count behind vertices

  some_answers : (ks : List Arrival) (q ins : ℕ) → AreArrivals n m neutral moves ks → q < length moves → ins < n
      → (count : ℕ)
      → count ≤ m
      → Answered ks q ins count
  some_answers ks q ins arrivals low set zero few = record {
    behind = ks;
    vertices = [];
    is = answered_none n m base neutral moves ks q ins arrivals;
  }
  some_answers ks q ins arrivals low set (suc outs) few =
      let r = some_answers ks q ins arrivals low set outs (omega (arith, few)) in
      let a = some_added arrival_eq arrival_eq-same arrival_eq-refl r.behind
      (arrival_of (move_at moves q (ins + n * outs))) in
      let one : outs + 1 ≡ suc outs = omega arith in
      record {
        behind = a.behind;
        vertices = r.vertices ++ (base + a.place) ∷ [];
        is =
            subst (λ k. IsAnswered n m base neutral moves ks q ins k a.behind (r.vertices ++ (base + a.place) ∷ [])) one
            (answered_more n m base neutral moves ks q ins outs r.behind r.vertices r.is low set (omega (arith, few))
            a.behind a.place a.added);
      }

  -- ---- the states with inputs

  record Drafted (v : ℕ) : Type 0 where
    arrivals : List Arrival
    game : ParityGame
    is : IsDraft n m neutral moves arrivals game v

  start_alone : AreArrivals n m neutral moves (begun neutral ∷ [])
  start_alone = record { begins = refl; once = once; are_ends = ends }
    where
      once : HasOnePlace (begun neutral ∷ [])
      once zero zero x i j = refl
      once zero (suc k) x i j = absurd (cc)
      once (suc k) l x i j = absurd (cc)

      ends : (k : ℕ) (a : Arrival) → slice_get (begun neutral ∷ []) k ≡ Some a → (a ≡ begun neutral) ⊎ IsEnd n m moves a
      ends zero a is = inl (sym (same_Some (begun neutral) a is))
      ends (suc k) a is = absurd (cc)

  some_known : (v : ℕ) → v ≤ base → Drafted v
  some_known zero few = record {
    arrivals = begun neutral ∷ [];
    game = no_vertices;
    is = record {
      owners = refl;
      priorities = refl;
      lists = refl;
      arrivals = start_alone;
      known = λ u low here. absurd (omega (arith, low));
      states = λ k a low stands. absurd (omega (arith, low));
    };
  }
  some_known (suc v) few =
      let d = some_known v (omega (arith, few)) in
      let a = some_answers d.arrivals (v / n) (v % n) d.is.arrivals
      ((div-lt_iff_lt-mul {k = n} {x = v} {y = length moves} are.sets).1 (omega (arith, few))) (mod-lt v are.sets) m
      (omega arith) in
      let one : v + 1 ≡ suc v = omega arith in
      record {
        arrivals = a.behind;
        game = extended d.game Even neutral a.vertices;
        is =
            subst (IsDraft n m neutral moves a.behind (extended d.game Even neutral a.vertices)) one
            (draft_known n m neutral moves d.arrivals d.game v d.is a.behind a.vertices (omega (arith, few)) a.is);
      }

  -- ---- the states with their priorities

  record Stated (ks : List Arrival) (v : ℕ) : Type 0 where
    game : ParityGame
    is : IsDraft n m neutral moves ks game v

  some_states : (ks : List Arrival) (g : ParityGame) → IsDraft n m neutral moves ks g base → (k : ℕ) → k ≤ length ks
      → Stated ks (base + k)
  some_states ks g draft zero few =
      let none : base ≡ base + 0 = omega arith in
      record { game = g; is = subst (IsDraft n m neutral moves ks g) none draft }
  some_states ks g draft (suc k) few =
      let d = some_states ks g draft k (omega (arith, few)) in
      let e = some_entry ks k (omega (arith, few)) in
      let row = range_with_len (e.0.state * n) n in
      let one : base + k + 1 ≡ base + suc k = omega arith in
      let sets : AreSets n e.0.state n (range_with_len (e.0.state * n) n) = record {
        one_each = length-range_with_len (e.0.state * n) n;
        sets = λ ins low. get_or-range_with_len (e.0.state * n) n ins 0 low;
      } in
      record {
        game = extended d.game Odd e.0.priority (range_with_len (e.0.state * n) n);
        is =
            subst (IsDraft n m neutral moves ks (extended d.game Odd e.0.priority (range_with_len (e.0.state * n) n)))
            one
            (draft_state n m neutral moves ks d.game (base + k) d.is k e.0 (range_with_len (e.0.state * n) n) refl e.1
            sets);
      }

  pub record SomeArena : Type 0 where
    pub arrivals : List Arrival
    pub game : ParityGame
    pub is : IsArena n m neutral moves arrivals game

  pub some_arena : SomeArena
  some_arena =
      let d = some_known base (omega arith) in
      let s = some_states d.arrivals d.game d.is (length d.arrivals) (omega arith) in
      record { arrivals = d.arrivals; game = s.game; is = s.is }
