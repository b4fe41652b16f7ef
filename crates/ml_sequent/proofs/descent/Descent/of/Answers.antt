-- At first no node has a rank.
use Rattle.std.proofs.Common.{rules, ◌≡◌, ℕ, replicate, sym, subst, inl, inr, ◌⊎◌, ◌<◌, ◌≤◌, get_or, arith}
use Rattle.std.proofs.lemmas.Bool.{cases_lt}
use Rattle.std.proofs.lemmas.List.{length-replicate, get_or-replicate, get_or_past}
use Rattle.ml_graph.specs.Graph.{Graph, size}
use Rattle.ml_sequent.specs.private.Descents.{Falls}
use Rattle.ml_sequent.proofs.descent.Descent.of.Goals as goal

no_ranks : (g : Graph) → Falls g (replicate (size g) 0)
no_ranks g = record {
  sizes = length-replicate {A = ℕ} (size g) 0;
  falls = λ n m some _. absurd (let none = rank n (cases_lt n (size g)) in omega arith);
}
  where
    rank : (n : ℕ) → (n < size g) ⊎ (size g ≤ n) → get_or {A = ℕ} (replicate (size g) 0) n 0 ≡ 0
    rank n (inl low) = get_or-replicate (size g) n 0 0 low
    rank n (inr high) = get_or_past {X = ℕ} (replicate (size g) 0) n 0 (omega
        (arith, length-replicate {A = ℕ} (size g) 0))

pub loop-init : goal.loop-init
loop-init c =
    let items : c.in_ok-ranks.ranks.items ≡ replicate (size c.args.graph.now) 0 = search rules in
    record {
      falls = subst (Falls c.args.graph.now) (sym items) (no_ranks c.args.graph.now);
      entered = search rules;
      path = search rules;
    }
