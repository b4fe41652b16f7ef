-- The turns of the fast solver: its steps one after another make a half.
--
--   gathers_kept, gathers_left, gathers_part == gathering changes nothing of a part but its order
--   first_made, second_made == the steps make the first half, or the second
--   some_gathered           == the vertices of lowest priority are some
--   kept_all                == and all that they change is in the part
use Rattle.std.proofs.Common.{ℕ, ◌≡◌, ◌<◌, ◌≤◌, ◌⊎◌, inl, inr, ⊎_elim, Bool, arith, subst, sym, ap, ◌∙◌, refl}
use Rattle.std.proofs.lemmas.Bool.{cases_lt}
use Rattle.std.specs.List.{count_by}
use Rattle.ml_parity.specs.declared.players.Player.{Player}
use Rattle.ml_parity.specs.Player.{opponent, side}
use Rattle.ml_parity.specs.Game.{ParityGame, HasMove, priority_of, moves_of}
use Rattle.ml_parity.specs.private.Sinks.{Board, Solves}
use Rattle.ml_parity.specs.private.SinkGame.{board_of}
use Rattle.ml_parity.specs.private.Parts.{part, SolvesPart, IsPart, IsAttracted, IsGiven, IsFirm, IsFirstHalf, IsSecondHalf, Gathers, KeepsBehind}
use Rattle.ml_parity.specs.private.SolverSteps.{IsLeft, IsLowest, ChoosesInside, Gives}
use Rattle.ml_parity.proofs.WaitingFrames.{in_to, in_from, out_from, kept_inside, kept_firm}
use Rattle.ml_parity.proofs.Halves.{first_solved}
use Rattle.ml_parity.proofs.Opponents.{cases_player}
use Rattle.ml_parity.proofs.Occurrences.{same_part}

-- gathering changes nothing of a part but its order
module _ (place place2 : ℕ → ℕ) (n mid : ℕ) (P : ℕ → Type 0) (gathers : Gathers place place2 n mid P) where
  pub gathers_kept : (win : ℕ → Player) (s : ℕ → ℕ) → KeepsBehind n place win s place2 win s
  gathers_kept win s = record {
    behind = gathers.behind;
    inside = gathers.inside;
    winners = λ v far. refl;
    choices = λ v far. refl;
  }

  -- it is the same part
  pub gathers_same : part place2 n ≡ part place n
  gathers_same = same_part place place2 n gathers.inside (λ v far. let same = gathers.behind v far in omega arith)

  pub gathers_left : (g : ParityGame) (left : ℕ → ℕ) → IsLeft g place n left → IsLeft g place2 n left
  gathers_left g left is_left v low = is_left v low
      ∙ ap (λ (test : ℕ → Bool). count_by test (moves_of g v)) (sym gathers_same)

  pub gathers_part : (b : Board) (win : ℕ → Player) → IsPart b place n win → IsPart b place2 n win
  gathers_part b win p = kept_inside n place win (λ v. v) place2 win (λ v. v) (gathers_kept win (λ v. v)) n
      (omega arith) b p

  pub gathers_solved : (b : Board) (win : ℕ → Player) (s : ℕ → ℕ)
      → SolvesPart b place n win s
      → SolvesPart b place2 n win s
  gathers_solved b win s h = subst (λ (live : ℕ → Bool). Solves b live win win s) (sym gathers_same) h

-- the vertices of lowest priority are some
pub some_gathered : (g : ParityGame) (place place2 : ℕ → ℕ) (n mid p : ℕ) → IsLowest g place n p
    → Gathers place place2 n mid (λ v. priority_of g v ≡ p) → mid < n
some_gathered g place place2 n mid p lowest gathers = by_place (cases_lt (place2 lowest.vertex) mid)
  where
    by_place : (place2 lowest.vertex < mid) ⊎ (mid ≤ place2 lowest.vertex) → mid < n
    by_place (inl early) = absurd (gathers.fails lowest.vertex early lowest.is)
    by_place (inr late) = let inside = gathers.inside lowest.vertex lowest.inside in omega arith

-- the steps make the first half
module _ (g : ParityGame) (place0 place1 place2 : ℕ → ℕ) (n mid rest p : ℕ) (q : Player) (win win2 : ℕ → Player)
    (s s1 s2 : ℕ → ℕ)
    (is_part : IsPart (board_of g) place0 n win) (lowest : IsLowest g place0 n p) (good : q ≡ side p)
    (gathers : Gathers place0 place1 n mid (λ v. priority_of g v ≡ p)) (chooses : ChoosesInside g place1 n mid n q s s1)
    (kept : KeepsBehind mid place1 win s1 place2 win s2) (attracted : IsAttracted (board_of g) place2 n mid rest q s2)
    (gives : Gives place2 n rest q win win2) where
  -- all that they change is in the part
  pub first_kept : KeepsBehind n place0 win s place2 win2 s2
  first_kept = record {
    behind = λ v far. let same = gathers.behind v far in kept.behind v (omega (arith, gathers.fits)) ∙ same;
    inside = λ v low. in_to mid place1 win s1 place2 win s2 kept n gathers.fits v (gathers.inside v low);
    winners = λ v far.
        let same = gathers.behind v far in
        let same2 = kept.behind v (omega (arith, gathers.fits)) in
        gives.behind v (omega arith);
    choices = λ v far.
        let same = gathers.behind v far in
        kept.choices v (omega (arith, gathers.fits)) ∙ chooses.behind v (omega arith);
  }

  -- the vertices behind mid are those of lowest priority
  top : (t : ℕ) → mid ≤ place2 t → place2 t < n → priority_of g t ≡ p
  top t late inside = gathers.passes t (out_from mid place1 win s1 place2 win s2 kept mid (omega arith) t late)
      (in_from mid place1 win s1 place2 win s2 kept n gathers.fits t inside)

  pub first_made : IsFirstHalf (board_of g) place2 n mid rest q win2 s2
  first_made = record {
    is_part = kept_inside n place0 win s place2 win2 s2 first_kept n (omega arith) (board_of g) is_part;
    attracted = attracted;
    given = gives.given;
    lowest = λ t v late inside within.
        let e = top t late inside in
        let least = lowest.least v (in_from n place0 win s place2 win2 s2 first_kept n (omega arith) v within) in
        omega arith;
    good = λ t late inside. ap side (top t late inside) ∙ sym good;
    chosen = λ t late inside own.
        let late1 = out_from mid place1 win s1 place2 win s2 kept mid (omega arith) t late in
        let m = chooses.chosen t late1 (in_from mid place1 win s1 place2 win s2 kept n gathers.fits t inside) own in
        subst (λ w. HasMove g t w × (place2 w < n)) (sym (kept.choices t late1))
        (m.0, in_to mid place1 win s1 place2 win s2 kept n gathers.fits (s1 t) m.1);
  }

-- the steps make the second half
module _ (b : Board) (place0 place1 place2 : ℕ → ℕ) (n mid rest : ℕ) (q : Player) (win win2 : ℕ → Player) (s s2 : ℕ → ℕ)
    (P : ℕ → Type 0)
    (is_part : IsPart b place0 n win) (gathers : Gathers place0 place1 n mid P) (firm : IsFirm b place1 n mid q win s)
    (won : IsGiven place1 mid n win q)
    (kept : KeepsBehind mid place1 win s place2 win s2) (attracted : IsAttracted b place2 n mid rest q s2)
    (gives : Gives place2 n rest q win win2) where
  -- all that they change is in the part
  pub second_kept : KeepsBehind n place0 win s place2 win2 s2
  second_kept = record {
    behind = λ v far. let same = gathers.behind v far in kept.behind v (omega (arith, gathers.fits)) ∙ same;
    inside = λ v low. in_to mid place1 win s place2 win s2 kept n gathers.fits v (gathers.inside v low);
    winners = λ v far.
        let same = gathers.behind v far in
        let same2 = kept.behind v (omega (arith, gathers.fits)) in
        gives.behind v (omega arith);
    choices = λ v far.
        let same = gathers.behind v far in
        kept.choices v (omega (arith, gathers.fits));
  }

  -- winners and choices of what is firm are kept
  firm_kept : KeepsBehind mid place1 win s place2 win2 s2
  firm_kept = record {
    behind = kept.behind;
    inside = kept.inside;
    winners = λ v late. winners v late (cases_lt (place1 v) n);
    choices = kept.choices;
  }
    where
      winners : (v : ℕ) → mid ≤ place1 v → (place1 v < n) ⊎ (n ≤ place1 v) → win2 v ≡ win v
      winners v late (inl inside) =
          let same = kept.behind v late in
          gives.given v (omega (arith, attracted.low)) (omega arith) ∙ sym (won v late inside)
      winners v late (inr far) = let same = kept.behind v late in gives.behind v (omega arith)

  pub second_made : IsSecondHalf b place2 n mid rest q win2 s2
  second_made = record {
    is_part = kept_inside n place0 win s place2 win2 s2 second_kept n (omega arith) b is_part;
    attracted = attracted;
    given = gives.given;
    firm = kept_firm mid place1 win s place2 win2 s2 firm_kept b n mid q (omega arith) gathers.fits firm;
  }

-- at the end of the first half, the opponent won something of the part, or nothing
module _ (b : Board) (place place2 : ℕ → ℕ) (n mid rest mid2 : ℕ) (q : Player) (win : ℕ → Player) (s : ℕ → ℕ)
    (half : IsFirstHalf b place n mid rest q win s) (solves : SolvesPart b place rest win s)
    (gathers : Gathers place place2 n mid2 (λ v. win v ≡ opponent q)) where
  -- nothing, and the part is solved
  pub none_lost : mid2 ≡ n → SolvesPart b place2 n win s
  none_lost none = gathers_solved place place2 n mid2 (λ v. win v ≡ opponent q) gathers b win s
      (first_solved b place n mid rest q win s half won solves)
    where
      won : (v : ℕ) → place v < rest → win v ≡ q
      won v low = ⊎_elim
          (λ (mine : win v ≡ q). mine)
          (λ (lost : win v ≡ opponent q).
          let inside = gathers.inside v (omega (arith, half.attracted.low, half.attracted.high)) in
          absurd (gathers.fails v (omega arith) lost))
          (cases_player (win v) q)
