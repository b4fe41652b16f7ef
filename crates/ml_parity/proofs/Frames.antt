-- The frames of the fast solver.
--
--   waits_kept    == what waits for a part is kept by what changes in it alone
--   waits_low     == the parts that wait are parts of the game
--   pushed, popped == one frame more or less on top, on the list of the program
--   none_waits, whole_waits == no frame waits exactly for the whole game
--   work_pushed   == the work with one frame more
--   first_ends, second_ends, first_opens, second_opens == what a turn makes of the frames
--   opens_less, splits_less, first_falls, second_falls == the work falls where a part is opened, and where its second half
--                         begins
use Rattle.std.proofs.Common.{ℕ, ◌≡◌, ◌+◌, ◌*◌, ◌^◌, ◌<◌, ◌≤◌, arith, List, [], ◌∷◌, ◌++◌, reverse, subst, sym, ap, ◌∙◌, add-one, refl}
use Rattle.std.specs.List.{sum_by}
use Rattle.std.proofs.lemmas.List.{reverse-append}
use Rattle.std.proofs.lemmas.List.Sums.{sum_by-append, sum_by-cons}
use Rattle.std.proofs.Math.Nat.{pow-le-pow_right, pow-succ'}
use Rattle.ml_parity.specs.declared.players.Player.{Player}
use Rattle.ml_parity.specs.declared.zielonka.recursion.Half.{Half}
use Rattle.ml_parity.specs.declared.zielonka.recursion.Half.TheVariants.{First, Second}
use Rattle.ml_parity.specs.declared.zielonka.recursion.Frame.{Frame}
use Rattle.ml_parity.specs.Game.{ParityGame, size}
use Rattle.ml_parity.specs.private.SinkGame.{board_of}
use Rattle.ml_parity.specs.private.Parts.{KeepsBehind, IsPart, SolvesPart, IsSecondHalf}
use Rattle.ml_parity.specs.private.SolverFrames.{HalfWaits, FrameWaits, Waits, EndsFirstHalf, BeginsFirstHalf, BeginsSecondHalf, weight, half_weight}
use Rattle.ml_parity.proofs.Attractors.{rest_is_part}
use Rattle.ml_parity.proofs.Halves.{second_solved}
use Rattle.ml_parity.proofs.WaitingFrames.{keeps_more, kept_first, kept_second}

-- a half waits for a smaller part
half_low : (h : Half) (g : ParityGame) (place : ℕ → ℕ) (n mid rest : ℕ) (q : Player) (win : ℕ → Player) (s : ℕ → ℕ)
    → HalfWaits h g place n mid rest q win s → rest ≤ n
half_low First g place n mid rest q win s half = omega (arith, half.attracted.low, half.attracted.high)
half_low Second g place n mid rest q win s half = omega (arith, half.attracted.low, half.attracted.high)

-- what waits for a part is kept by what changes in it alone
module _ (g : ParityGame) (place place2 : ℕ → ℕ) (win win2 : ℕ → Player) (s s2 : ℕ → ℕ) where
  half_kept : (h : Half) (n mid rest : ℕ) (q : Player) → KeepsBehind rest place win s place2 win2 s2
      → HalfWaits h g place n mid rest q win s → HalfWaits h g place2 n mid rest q win2 s2
  half_kept First n mid rest q kept half = kept_first rest place win s place2 win2 s2 kept (board_of g) n mid q half
  half_kept Second n mid rest q kept half = kept_second rest place win s place2 win2 s2 kept (board_of g) n mid q half

  pub waits_kept : (fs : List Frame) (n : ℕ)
      → KeepsBehind n place win s place2 win2 s2
      → Waits g fs n place win s
      → Waits g fs n place2 win2 s2
  waits_kept [] n kept waits = waits
  waits_kept (f ∷ fs) n kept waits =
      let low : n ≤ f.count = half_low f.half g place f.count waits.0.mid n f.player win s waits.0.waits in (
        record { mid = waits.0.mid; waits = half_kept f.half f.count waits.0.mid n f.player kept waits.0.waits },
        waits_kept fs f.count (keeps_more n place win s place2 win2 s2 kept f.count low) waits.1,
      )

-- the parts that wait are parts of the game
pub waits_low : (g : ParityGame) (place : ℕ → ℕ) (win : ℕ → Player) (s : ℕ → ℕ) (fs : List Frame) (n : ℕ)
    → Waits g fs n place win s
    → n ≤ size g
waits_low g place win s [] n waits = omega arith
waits_low g place win s (f ∷ fs) n waits =
    let low : n ≤ f.count = half_low f.half g place f.count waits.0.mid n f.player win s waits.0.waits in
    let rest = waits_low g place win s fs f.count waits.1 in
    omega arith

-- a frame waits for a smaller part
pub frame_low : (g : ParityGame) (f : Frame) (rest : ℕ) (place : ℕ → ℕ) (win : ℕ → Player) (s : ℕ → ℕ)
    → FrameWaits g f rest place win s
    → rest ≤ f.count
frame_low g f rest place win s w = half_low f.half g place f.count w.mid rest f.player win s w.waits

-- one frame more on the list of the program is one more on top
pub on_top : (frames : List Frame) (f : Frame) → reverse (frames ++ f ∷ []) ≡ f ∷ reverse frames
on_top frames f = reverse-append frames (f ∷ [])

pub pushed : (g : ParityGame) (frames frames2 : List Frame) (f : Frame) (n : ℕ) (place : ℕ → ℕ) (win : ℕ → Player)
    (s : ℕ → ℕ)
    → frames2 ≡ frames ++ f ∷ [] → FrameWaits g f n place win s → Waits g (reverse frames) f.count place win s
    → Waits g (reverse frames2) n place win s
pushed g frames frames2 f n place win s is waits rest =
    subst (λ (fs : List Frame). Waits g fs n place win s) (sym (ap reverse is ∙ on_top frames f)) (waits, rest)

pub popped : (g : ParityGame) (frames frames2 : List Frame) (f : Frame) (n : ℕ) (place : ℕ → ℕ) (win : ℕ → Player)
    (s : ℕ → ℕ)
    → frames ≡ frames2 ++ f ∷ [] → Waits g (reverse frames) n place win s
    → FrameWaits g f n place win s × Waits g (reverse frames2) f.count place win s
popped g frames frames2 f n place win s is waits =
    subst (λ (fs : List Frame). Waits g fs n place win s) (ap reverse is ∙ on_top frames2 f) waits

-- the work of one frame more
pub work_pushed : (frames frames2 : List Frame) (f : Frame)
    → frames2 ≡ frames ++ f ∷ []
    → sum_by weight frames2 ≡ sum_by weight frames + weight f
work_pushed frames frames2 f is =
    let all = ap (sum_by weight) is ∙ sum_by-append weight frames (f ∷ []) in
    let one = sum_by-cons weight f [] in
    omega arith

-- three times as much for one vertex more
three : (n : ℕ) → 3 ^ (n + 1) ≡ 3 * 3 ^ n
three n = ap (λ k. 3 ^ k) (add-one n) ∙ pow-succ' 3 n

less : (rest n : ℕ) → rest < n → 3 ^ (rest + 1) ≤ 3 ^ n
less rest n low = pow-le-pow_right {n = 3} (omega arith) {i = rest + 1} {j = n} (omega arith)

-- the work falls where a part is opened
pub opens_less : (rest n w : ℕ) → rest < n → w + (3 ^ n + 2) + 3 ^ (rest + 1) < w + 3 ^ (n + 1)
opens_less rest n w low =
    let a = less rest n low in
    let b = three n in
    let c = less 0 n (omega arith) in
    let d : 3 ^ (0 + 1) ≡ 3 = refl in
    omega arith

-- and where its second half begins
pub splits_less : (rest n w : ℕ) → rest < n → w + 1 + 3 ^ (rest + 1) < w + (3 ^ n + 2) + 0
splits_less rest n w low = let a = less rest n low in omega arith

-- where a frame waits in its first half, and what is left is solved, the first half is at its end
pub first_ends : (g : ParityGame) (f : Frame) (rest : ℕ) (place : ℕ → ℕ) (win : ℕ → Player) (s : ℕ → ℕ) → f.half ≡ First
    → FrameWaits g f rest place win s → SolvesPart (board_of g) place rest win s
    → EndsFirstHalf g place f.count f.player win s
first_ends g f rest place win s is w solves = record {
  mid = w.mid;
  rest = rest;
  half = subst (λ h. HalfWaits h g place f.count w.mid rest f.player win s) is w.waits;
  solves = solves;
}

-- where it waits in its second half, its part is solved
pub second_ends : (g : ParityGame) (f : Frame) (rest : ℕ) (place : ℕ → ℕ) (win : ℕ → Player) (s : ℕ → ℕ)
    → f.half ≡ Second
    → FrameWaits g f rest place win s → SolvesPart (board_of g) place rest win s
    → SolvesPart (board_of g) place f.count win s
second_ends g f rest place win s is w solves =
    second_solved (board_of g) place f.count w.mid rest f.player win s
    (subst (λ h. HalfWaits h g place f.count w.mid rest f.player win s) is w.waits) solves

-- a part of which the first half begins is left open, with its frame on top
pub first_opens : (g : ParityGame) (frames frames2 : List Frame) (n rest : ℕ) (q : Player) (place place2 : ℕ → ℕ)
    (left2 : ℕ → ℕ)
    (win win2 : ℕ → Player) (s s2 : ℕ → ℕ) → frames2 ≡ frames ++ record { half = First; player = q; count = n } ∷ []
    → Waits g (reverse frames) n place win s → KeepsBehind n place win s place2 win2 s2
    → BeginsFirstHalf g place2 n rest q left2 win2 s2
    → Waits g (reverse frames2) rest place2 win2 s2 × IsPart (board_of g) place2 rest win2
first_opens g frames frames2 n rest q place place2 left2 win win2 s s2 is waits kept b = (
  pushed g frames frames2 (record { half = First; player = q; count = n }) rest place2 win2 s2 is
      (record { mid = b.mid; waits = b.half }) (waits_kept g place place2 win win2 s s2 (reverse frames) n kept waits),
  rest_is_part (board_of g) place2 n b.mid rest q win2 s2 b.half.is_part b.half.attracted b.half.given,
)

-- and so is one of which the second half begins
pub second_opens : (g : ParityGame) (frames frames2 : List Frame) (n rest : ℕ) (q p : Player) (place place2 : ℕ → ℕ)
    (left2 : ℕ → ℕ)
    (win win2 : ℕ → Player) (s s2 : ℕ → ℕ) → frames2 ≡ frames ++ record { half = Second; player = q; count = n } ∷ []
    → q ≡ p
    → Waits g (reverse frames) n place win s → KeepsBehind n place win s place2 win2 s2
    → BeginsSecondHalf g place2 n rest p left2 win2 s2
    → Waits g (reverse frames2) rest place2 win2 s2 × IsPart (board_of g) place2 rest win2
second_opens g frames frames2 n rest q p place place2 left2 win win2 s s2 is same waits kept b = (
  pushed g frames frames2 (record { half = Second; player = q; count = n }) rest place2 win2 s2 is
      (record {
        mid = b.mid;
        waits = subst (λ x. IsSecondHalf (board_of g) place2 n b.mid rest x win2 s2) (sym same)
            b.half;
      }) (waits_kept g place place2 win win2 s s2 (reverse frames) n kept waits),
  rest_is_part (board_of g) place2 n b.mid rest p win2 s2 b.half.is_part b.half.attracted b.half.given,
)

-- the work falls where the second half begins
pub second_falls : (frames frames1 frames2 : List Frame) (f : Frame) (q : Player) (rest : ℕ)
    → f.half ≡ First
    → rest < f.count
    → frames ≡ frames1 ++ f ∷ [] → frames2 ≡ frames1 ++ record { half = Second; player = q; count = f.count } ∷ []
    → sum_by weight frames2 + 3 ^ (rest + 1) < sum_by weight frames + 0
second_falls frames frames1 frames2 f q rest first low is is2 =
    let old = work_pushed frames1 frames f is in
    let new = work_pushed frames1 frames2 (record { half = Second; player = q; count = f.count }) is2 in
    let w : weight f ≡ 3 ^ f.count + 2 = ap (λ h. half_weight h f.count) first in
    let less = splits_less rest f.count (sum_by weight frames1) low in
    omega arith

-- and where the first half begins
pub first_falls : (frames frames2 : List Frame) (q : Player) (rest n : ℕ) → rest < n
    → frames2 ≡ frames ++ record { half = First; player = q; count = n } ∷ []
    → sum_by weight frames2 + 3 ^ (rest + 1) < sum_by weight frames + 3 ^ (n + 1)
first_falls frames frames2 q rest n low is =
    let new = work_pushed frames frames2 (record { half = First; player = q; count = n }) is in
    let less = opens_less rest n (sum_by weight frames) low in
    omega arith

-- where no frame waits, the part is the whole game
pub none_waits : (g : ParityGame) (frames : List Frame) (n : ℕ) (place : ℕ → ℕ) (win : ℕ → Player) (s : ℕ → ℕ)
    → frames ≡ []
    → Waits g (reverse frames) n place win s → n ≡ size g
none_waits g frames n place win s none waits =
    subst (λ (fs : List Frame). Waits g (reverse fs) n place win s) none waits

-- and the whole game waits without a frame
pub whole_waits : (g : ParityGame) (frames : List Frame) (n : ℕ) (place : ℕ → ℕ) (win : ℕ → Player) (s : ℕ → ℕ)
    → frames ≡ []
    → n ≡ size g → Waits g (reverse frames) n place win s
whole_waits g frames n place win s none is =
    subst (λ (fs : List Frame). Waits g (reverse fs) n place win s) (sym none) is
