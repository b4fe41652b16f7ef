-- What comes of a text is what its tokens tell.
--
--   RefusedIn all end e  == the tokens of a game, and the end of the text, are refused with e for one of the first four causes
--   Comes all end out    == out is right of these tokens
--   comes                == what comes of the tokens is
use Rattle.std.proofs.Common.{◌≡◌, ℕ, suc, ◌≤◌, ◌⊎◌, List, [], ◌∷◌, ◌++◌, length, Option, Some, None, Ok, Err, refl, sym, ◌∙◌, ap, subst, arith, inl, inr}
use Rattle.std.proofs.lemmas.List.{append_assoc, append-nil, map-append}
use Rattle.ml_lists.specs.Member.{IsMember}
use Rattle.ml_pgsolver.specs.Tokens.{Token, Placed, signs_of}
use Rattle.ml_pgsolver.specs.Grammar.{vertices_of, IsGameText}
use Rattle.ml_pgsolver.specs.Refusals.{Cause, Syntax, Repeated, TooMany, TooLarge, game_form, rank, IsFaulty, IsFirstFault, offset_of}
use Rattle.ml_pgsolver.specs.declared.reader.Stage.{Stage}
use Rattle.ml_pgsolver.specs.declared.reader.Stage.TheVariants as stage
use Rattle.ml_pgsolver.specs.declared.refusal.GameTextRefusal.{GameTextRefusal}
use Rattle.ml_pgsolver.specs.declared.refusal.GameTextRefusal.TheVariants as refusal
use Rattle.ml_pgsolver.specs.private.Machine.{Step, step, at_end, outcome_from}
use Rattle.ml_pgsolver.specs.private.Signs.{sign_of, signs_in}
use Rattle.ml_pgsolver.proofs.Steps.{goes_on, stops, ends}
use Rattle.ml_pgsolver.proofs.Trees.{Progress, Start, Body, Id, grow, grown_from, grown-append}
use Rattle.ml_pgsolver.proofs.Viable.{begins-grown, grown-begins, game-ended}
use Rattle.ml_pgsolver.proofs.Images.{image, stage_of, Passes, Came, goes, repeats, fills_ids, fills_successors, outgrows}
use Rattle.ml_pgsolver.proofs.Comings.{came, stuck}
use Rattle.ml_pgsolver.proofs.PlacedFaults as faults
use Rattle.ml_pgsolver.proofs.PlacedFaults.{FaultAt, end_at, fault_here, signs-cut, syntax_here}
use Rattle.ml_pgsolver.proofs.Roles.{ids_in}
use Rattle.ml_pgsolver.proofs.Readings.{Read, read_none, read_more, not_syntax, not_repeated, not_many, is_id, is_successor}

abbrev pub RefusedIn : List Placed → ℕ → GameTextRefusal → Type 0
RefusedIn all end e = faults.RefusedIn game_form all end e

abbrev pub Comes : List Placed → ℕ → Step → Type 0
Comes all end (Ok s) = (q : Progress) × Read (signs_of all) q × (s ≡ image q) × (stage_of q ≡ stage.NextVertex)
Comes all end (Err e) = RefusedIn all end e

-- ---- the end of the text

not_ended : (ts : List Token) (p : Progress) → grown_from (Some Start) ts ≡ Some p → (stage_of p ≡ stage.NextVertex → ⊥)
    → IsGameText ts
    → ⊥
not_ended ts p run open_stage (d, is) =
    let e : p ≡ Body d.header (vertices_of d) Id = cc (run, game-ended ts d is) in open_stage (ap stage_of e)

at_the_end : (all : List Placed) (end : ℕ) (p : Progress) (q : Stage) → stage_of p ≡ q → Read (signs_of all) p
    → Comes all end (at_end q (image p) end)
at_the_end all end p stage.NextVertex is read = (p, read, refl, is)
at_the_end all end p q is read =
    end_at game_form all end read.faultless (begins-grown (signs_of all) p read.run)
    (not_ended (signs_of all) p read.run (λ ended. cc))

-- ---- the next token

-- tokens of which some were read, and the next one
module _ (front : List Placed) (p : Progress) (t : Placed) (rest : List Placed) (end : ℕ) (read : Read (signs_of front) p) where
  abbrev all : List Placed
  all = front ++ t ∷ rest

  no_way : grow p t.token ≡ None → FaultAt game_form all end Syntax t.at
  no_way stops_here =
      syntax_here game_form front t rest end read.faultless (begins-grown (signs_of front) p read.run)
      (λ begins. none_begins (grown-begins _ begins))
    where
      none_begins : (q : Progress) × (grown_from (Some Start) (signs_of front ++ t.token ∷ []) ≡ Some q) → ⊥
      none_begins (q, run) =
          let stuck_run = grown-append (Some Start) (signs_of front) (t.token ∷ [])
          ∙ ap (λ o. grown_from o (t.token ∷ [])) read.run ∙ ap (λ o. grown_from o []) stops_here in cc

  -- a token with which q is read is at fault, as the reader says
  at_fault : (q : Progress) → grow p t.token ≡ Some q → (out : Step)
      → Came p t.token q t.at out
      → ((out ≡ Ok (image q)) × Passes p t.token)
      ⊎ ((e : GameTextRefusal) × (out ≡ Err e) × RefusedIn all end e)
  at_fault q more out (goes is passes) = inl (is, passes)
  at_fault q more out (repeats n here member is) =
      inr (
        refusal.Repeated t.at,
        is,
        fault_here game_form front t rest end read.faultless Repeated
            (n, is_id (signs_of front) p t.token q read more n here, subst (IsMember n) (sym read.ids) member) lowest,
      )
    where
      lowest : (d : Cause) → IsFaulty d (signs_of front) t.token → 2 ≤ rank d
      lowest Syntax faulty = absurd (not_syntax (signs_of front) p t.token q read more faulty)
      lowest Repeated faulty = omega arith
      lowest TooMany faulty = omega arith
      lowest TooLarge faulty = omega arith
  at_fault q more out (fills_ids n here fresh full is) =
      inr (
        refusal.TooMany t.at,
        is,
        fault_here game_form front t rest end read.faultless TooMany
            (inl (n, is_id (signs_of front) p t.token q read more n here, omega (arith, ap length read.ids, read.few_ids))) lowest,
      )
    where
      lowest : (d : Cause) → IsFaulty d (signs_of front) t.token → 4 ≤ rank d
      lowest Syntax faulty = absurd (not_syntax (signs_of front) p t.token q read more faulty)
      lowest Repeated faulty = absurd (not_repeated (signs_of front) p t.token q read more
          (λ m there member. let e : n ≡ m = cc in fresh (subst (λ k. IsMember k (ids_in p)) (sym e) member)) faulty)
      lowest TooMany faulty = omega arith
      lowest TooLarge faulty = omega arith
  at_fault q more out (fills_successors n here no_id full is) =
      inr (
        refusal.TooMany t.at,
        is,
        fault_here game_form front t rest end read.faultless TooMany
            (inr (
              n,
              is_successor (signs_of front) p t.token q read more n here,
              omega (arith, ap length read.successors, read.few_successors),
            )) lowest,
      )
    where
      lowest : (d : Cause) → IsFaulty d (signs_of front) t.token → 4 ≤ rank d
      lowest Syntax faulty = absurd (not_syntax (signs_of front) p t.token q read more faulty)
      lowest Repeated faulty = absurd (not_repeated (signs_of front) p t.token q read more
          (λ m there member. let e : [] ≡ m ∷ [] = cc in cc) faulty)
      lowest TooMany faulty = omega arith
      lowest TooLarge faulty = omega arith
  at_fault q more out (outgrows digits is_t large fresh id_room successor_room is) =
      inr (
        refusal.TooLarge t.at,
        is,
        fault_here game_form front t rest end read.faultless TooLarge (digits, is_t, large) lowest,
      )
    where
      lowest : (d : Cause) → IsFaulty d (signs_of front) t.token → 5 ≤ rank d
      lowest Syntax faulty = absurd (not_syntax (signs_of front) p t.token q read more faulty)
      lowest Repeated faulty = absurd (not_repeated (signs_of front) p t.token q read more fresh faulty)
      lowest TooMany faulty = absurd (not_many (signs_of front) p t.token q read more id_room successor_room faulty)
      lowest TooLarge faulty = omega arith

  -- by what the token does, where the tokens behind it are told of
  pub by_token : ((q : Progress) → Read (signs_of (front ++ t ∷ [])) q
      → Comes (front ++ t ∷ [] ++ rest) end (outcome_from end (image q) (signs_in rest)))
      → (o : Option Progress) → grow p t.token ≡ o
      → Comes all end (outcome_from end (image p) (signs_in (t ∷ rest)))
  by_token on None is =
      subst (Comes all end)
      (sym (stops end (image p) (sign_of t.token) t.at (signs_in rest) (refusal.Syntax t.at) (stuck p t.token t.at is)))
      (no_way is)
  by_token on (Some q) is = by (at_fault q is (step (image p) (sign_of t.token) t.at) (came p t.token q t.at is read.small))
    where
      by : ((step (image p) (sign_of t.token) t.at ≡ Ok (image q)) × Passes p t.token)
          ⊎ ((e : GameTextRefusal) × (step (image p) (sign_of t.token) t.at ≡ Err e) × RefusedIn all end e)
          → Comes all end (outcome_from end (image p) (signs_in (t ∷ rest)))
      by (inl (goes_so, passes)) =
          let read_on = subst (λ ts. Read ts q) (sym (signs-cut front t [])) (read_more (signs_of front) p t.token q read is passes) in
          subst (Comes all end) (sym (goes_on end (image p) (image q) (sign_of t.token) t.at (signs_in rest) goes_so))
          (subst (λ ps. Comes ps end (outcome_from end (image q) (signs_in rest))) (append_assoc front (t ∷ []) rest) (on q read_on))
      by (inr (e, refused_so, refused)) =
          subst (Comes all end) (sym (stops end (image p) (sign_of t.token) t.at (signs_in rest) e refused_so)) refused

comes_from : (end : ℕ) (rest front : List Placed) (p : Progress) → Read (signs_of front) p
    → Comes (front ++ rest) end (outcome_from end (image p) (signs_in rest))
comes_from end [] front p read =
    subst (λ ps. Comes ps end (outcome_from end (image p) [])) (sym (append-nil front))
    (subst (Comes front end) (sym (ends end (image p) [] refl)) (at_the_end front end p (stage_of p) refl read))
comes_from end (t ∷ rest) front p read =
    by_token front p t rest end read (λ q read_on. comes_from end rest (front ++ t ∷ []) q read_on) (grow p t.token) refl

pub comes : (all : List Placed) (end : ℕ) → Comes all end (outcome_from end (image Start) (signs_in all))
comes all end = comes_from end all [] Start read_none
