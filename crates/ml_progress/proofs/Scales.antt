-- The bounds and the cuts of a player, as the program makes them.
--
--   scale_made  == from the bad priorities, and the priorities of the vertices
--   cut_within  == no cut is longer than a list
use Rattle.std.proofs.Common.{◌≡◌, ℕ, ◌≤◌, List, length, get_or, map, count_by, leb, arith, ap, ◌∙◌}
use Rattle.std.proofs.lemmas.List.{get_or-map, length-map}
use Rattle.std.proofs.lemmas.List.Sums.{count_by-le-length}
use Rattle.ml_parity.specs.declared.players.Player.{Player}
use Rattle.ml_parity.specs.Game.{ParityGame, IsGame, priority_of}
use Rattle.ml_progress.specs.Measure.{bad_priorities, how_many}
use Rattle.ml_progress.specs.private.Bounds.{bounds_of, cut_length}
use Rattle.ml_progress.specs.private.Scales.{IsScale}

pub scale_made : (g : ParityGame) → IsGame g → (p : Player) (ks ks1 ks2 vertices bounds cuts : List ℕ)
    → ks ≡ bad_priorities g p
    → ks1 ≡ ks
    → ks2 ≡ ks
    → vertices ≡ g.priority
    → bounds ≡ map (how_many g) ks1
    → cuts ≡ map (λ n. count_by (λ k. leb k n) ks2) vertices
    → IsScale g p bounds cuts
scale_made g ok p ks ks1 ks2 vertices bounds cuts bad one two same bounded cut = record {
  bounds_are = bounded ∙ ap (map (how_many g)) (one ∙ bad);
  long = ap length made ∙ length-map g.priority (λ n. count_by (λ k. leb k n) (bad_priorities g p)) ∙ ok.priorities;
  cuts_are = λ v low. ap (λ xs. get_or xs v 0) made
      ∙ get_or-map (λ n. count_by (λ k. leb k n) (bad_priorities g p)) g.priority v 0 0 (omega (arith, ok.priorities));
}
  where
    made : cuts ≡ map (λ n. count_by (λ k. leb k n) (bad_priorities g p)) g.priority
    made = cut
        ∙ ap (λ xs. map (λ n. count_by (λ k. leb k n) xs) vertices) (two ∙ bad)
        ∙ ap (map (λ n. count_by (λ k. leb k n) (bad_priorities g p))) same

-- no cut is longer than a list
pub cut_within : (g : ParityGame) (p : Player) (v : ℕ) → cut_length g p v ≤ length (bounds_of g p)
cut_within g p v = omega (
  arith,
  count_by-le-length (λ k. leb k (priority_of g v)) (bad_priorities g p),
  length-map (bad_priorities g p) (how_many g),
)
