-- The nodes of the program `a;a;..`.
--
--   Walked g l k d   == from the node of occurrence l, the k + 1 actions that begin there are left one after the other, the
--                       last one to the node d: what leads on stands first, and then a diamond for each
--   acts_walked      == so it is of the graph of such a program
--   first_reached    == local moves lead from the first node to the first diamond
use Rattle.std.proofs.Common.{◌≡◌, ℕ, zero, suc, ◌+◌, ◌<◌, ◌≤◌, ◌⊎◌, List, [], ◌∷◌, inl, inr, refl, sym, ap, subst, arith}
use Rattle.std.proofs.lemmas.Bool.{cases_lt}
use Rattle.ml_lists.specs.Member.{IsMember}
use Rattle.ml_graph.specs.Graph.{Graph, priority_at}
use Rattle.ml_graph.specs.declared.node.Node.TheVariants as node
use Rattle.ml_nodes.specs.Nodes.{IsNode, LeadsTo}
use Rattle.ml_pdl.specs.Formula.{program_occurrences}
use Rattle.ml_pdl_graph.specs.PdlGraph.{ProgramStandsAt, diamond, box, plain}
use Rattle.ml_gen.specs.Formulas.{acts}
use Rattle.ml_gen.proofs.Occurrences.{acts_count}
use Rattle.ml_sequent.specs.declared.choice.Side.{Side}
use Rattle.ml_sequent.specs.LocalWalk.{children, children_of, stays}
use Rattle.ml_families.proofs.Regions.{Reaches, one_more}

-- the node n is a diamond that leads to the node d
abbrev pub IsLeft : Graph → ℕ → ℕ → Type 0
IsLeft g n d = (a : ℕ) × IsNode g n (node.Diamond a d) plain

pub record Walked (g : Graph) (l k d : ℕ) : Type 0 where
  pub leads : (i : ℕ) → i < k → LeadsTo g (diamond (l + i)) (diamond (l + i + 1)) plain
  pub leaves : (i : ℕ) → i < k → IsLeft g (diamond (l + k + i)) (diamond (l + k + i + 1))
  pub last : IsLeft g (diamond (l + k + k)) d

lead_at : (g : Graph) (n m i j : ℕ) → n ≡ m → i ≡ j → LeadsTo g (diamond n) (diamond i) plain
    → LeadsTo g (diamond m) (diamond j) plain
lead_at g n m i j e f is =
    subst (λ x. LeadsTo g (diamond m) (diamond x) plain) f (subst (λ x. LeadsTo g (diamond x) (diamond i) plain) e is)

pub left_at : (g : Graph) (n m d e : ℕ) → n ≡ m → d ≡ e → IsLeft g n d → IsLeft g m e
left_at g n m d e same also is = subst (IsLeft g m) also (subst (λ x. IsLeft g x d) same is)

pub acts_walked : (g : Graph) (k l d b : ℕ) → ProgramStandsAt g l d b (acts (suc k)) → Walked g l k d
acts_walked g zero l d b (a, there, other, named) = record {
  leads = λ i low. absurd (omega arith);
  leaves = λ i low. absurd (omega arith);
  last = left_at g (diamond l) (diamond (l + 0 + 0)) d d (omega arith) refl (a, there);
}
acts_walked g (suc k) l d b (first, other, front, (a, there, beside, named)) =
    let r = l + 1 + program_occurrences (acts (suc k)) in
    let count = acts_count k in
    let w = acts_walked g k (l + 1) (diamond r) (box r) front in
    record {
      leads = leads w;
      leaves = leaves w (omega (arith, count));
      last = left_at g (diamond r) (diamond (l + suc k + suc k)) d d (omega (arith, count)) refl (a, there);
    }
  where
    leads : Walked g (l + 1) k (diamond (l + 1 + program_occurrences (acts (suc k))))
        → (i : ℕ) → i < suc k
        → LeadsTo g (diamond (l + i)) (diamond (l + i + 1)) plain
    leads w zero low = lead_at g l (l + 0) (l + 1) (l + 0 + 1) (omega arith) (omega arith) first
    leads w (suc i) low =
        lead_at g (l + 1 + i) (l + suc i) (l + 1 + i + 1) (l + suc i + 1) (omega arith) (omega arith)
        (w.leads i (omega arith))

    leaves : Walked g (l + 1) k (diamond (l + 1 + program_occurrences (acts (suc k))))
        → l + 1 + program_occurrences (acts (suc k)) ≡ l + suc k + k + 1
        → (i : ℕ) → i < suc k
        → IsLeft g (diamond (l + suc k + i)) (diamond (l + suc k + i + 1))
    leaves w place i low = by_place (cases_lt i k)
      where
        by_place : (i < k) ⊎ (k ≤ i) → IsLeft g (diamond (l + suc k + i)) (diamond (l + suc k + i + 1))
        by_place (inl before) =
            left_at g (diamond (l + 1 + k + i)) (diamond (l + suc k + i)) (diamond (l + 1 + k + i + 1))
            (diamond (l + suc k + i + 1)) (omega arith) (omega arith) (w.leaves i before)
        by_place (inr at) =
            left_at g (diamond (l + 1 + k + k)) (diamond (l + suc k + i))
            (diamond (l + 1 + program_occurrences (acts (suc k)))) (diamond (l + suc k + i + 1)) (omega arith)
            (omega arith) w.last

-- a node that only leads on has that child
pub lead_child : (g : Graph) (c : List (ℕ × Side)) (n m p : ℕ) → LeadsTo g n m p → children g c n ≡ m ∷ m ∷ []
lead_child g c n m p is = ap (children_of c n) is.0

pub leads_reach : (g : Graph) (c : List (ℕ × Side)) (n m e p : ℕ) → LeadsTo g n m p → Reaches g c m e → Reaches g c n e
leads_reach g c n m e p is w =
    one_more g c n m e (subst (IsMember m) (sym (lead_child g c n m p is)) (inl refl)) w

pub first_reached : (g : Graph) (c : List (ℕ × Side)) (l k d : ℕ) → Walked g l k d
    → Reaches g c (diamond l) (diamond (l + k))
first_reached g c l k d w = subst (λ n. Reaches g c (diamond n) (diamond (l + k))) (omega arith) (from k 0 (omega arith))
  where
    from : (j i : ℕ) → i + j ≡ k → Reaches g c (diamond (l + i)) (diamond (l + k))
    from zero i e =
        subst (λ n. Reaches g c (diamond (l + i)) (diamond n)) (omega arith)
        (priority_at g (diamond (l + i)), stays (diamond (l + i)))
    from (suc j) i e =
        leads_reach g c (diamond (l + i)) (diamond (l + i + 1)) (diamond (l + k)) plain (w.leads i (omega arith))
        (subst (λ n. Reaches g c (diamond n) (diamond (l + k))) (omega arith) (from j (i + 1) (omega arith)))
