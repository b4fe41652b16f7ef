-- A spread with a cause of a clash has a first one.
--
--   first_pair       == a list has a first node with a partner, or none of its nodes has one
--   first_cycle      == a spread has a first node on an odd cycle, or none
--   SomeFirst, some_first_cause == where there is a cause, there is a first one
use Rattle.std.proofs.Common.{◌≡◌, ℕ, ◌<◌, ◌⊎◌, true, false, List, Option, None, Some, find, is_some, inl, inr, refl}
use Rattle.ml_lists.specs.Ascending.{IsAscending}
use Rattle.ml_lists.specs.Member.{IsMember}
use Rattle.ml_lists.specs.Found.{First}
use Rattle.ml_lists.proofs.Decided.{Decided, decided_same, decided_number}
use Rattle.ml_lists.proofs.Search.{search_first}
use Rattle.ml_graph.specs.Graph.{Graph, IsGraph, size, node_at}
use Rattle.ml_sequent.specs.declared.choice.Side.{Side}
use Rattle.ml_sequent.specs.declared.clashes.ClashCause.{ClashCause}
use Rattle.ml_sequent.specs.declared.clashes.ClashCause.TheVariants as cause
use Rattle.ml_sequent.specs.Spread.{SpreadList, IsSpreadOf, IsCause, IsOddCycle}
use Rattle.ml_sequent.specs.FirstCause.{IsFirstCause}
use Rattle.ml_sequent.specs.private.Tests.{is_false, partner, IsFirstPair, IsFirstOddCycle}
use Rattle.ml_sequent.proofs.Causes.{false_cause, pair_cause, cycle_cause, no_cause}
use Rattle.ml_sequent.proofs.Firsts.{FoundFirst, found_first, found_none}
use Rattle.ml_refutation.proofs.HighWalks.{decided_odd_cycle}
use Rattle.ml_lists.proofs.Deciding.{decided_member}

-- what an option holds, if it holds something
record Held (o : Option ℕ) : Type 0 where
  pub value : ℕ
  pub is : o ≡ Some value

held : (o : Option ℕ) → is_some o ≡ true → Held o
held None test = absurd (cc)
held (Some x) test = record { value = x; is = refl }

holds_none : (o : Option ℕ) → is_some o ≡ false → o ≡ None
holds_none None test = refl
holds_none (Some x) test = absurd (cc)

-- ---- pairs

abbrev NoPairs : Graph → List ℕ → Type 0
NoPairs g nodes = (n : ℕ) → IsMember n nodes → partner g nodes (node_at g n) ≡ None

record FirstPair (g : Graph) (nodes : List ℕ) : Type 0 where
  pub pair : ℕ × ℕ
  pub is : IsFirstPair g nodes pair

first_pair : (g : Graph) (nodes : List ℕ) → IsAscending nodes → FirstPair g nodes ⊎ NoPairs g nodes
first_pair g nodes up = by_find (find (λ n. is_some (partner g nodes (node_at g n))) nodes) refl
  where
    paired : (n : ℕ)
        → FoundFirst (λ k. is_some (partner g nodes (node_at g k))) nodes n
        → Held (partner g nodes (node_at g n))
        → FirstPair g nodes
    paired n f h = record {
      pair = (n, h.value);
      is = record {
        member = f.member;
        has = h.is;
        first = λ m inside less. holds_none (partner g nodes (node_at g m)) (f.first m inside less);
      };
    }

    by_find : (o : Option ℕ)
        → find (λ n. is_some (partner g nodes (node_at g n))) nodes ≡ o
        → FirstPair g nodes ⊎ NoPairs g nodes
    by_find None found = inr (λ n inside.
        holds_none (partner g nodes (node_at g n))
        (found_none (λ k. is_some (partner g nodes (node_at g k))) nodes found n inside))
    by_find (Some n) found =
        let f = found_first (λ k. is_some (partner g nodes (node_at g k))) nodes up n found in
        inl (paired n f (held (partner g nodes (node_at g n)) f.passes))

-- ---- odd cycles

module _ (g : Graph) (ok : IsGraph g) (C : List ℕ) (c : List (ℕ × Side)) (sp : SpreadList)
    (is_spread : IsSpreadOf g C c sp) where
  abbrev OddHere : ℕ → Type 0
  OddHere n = IsMember n sp.nodes × IsOddCycle g sp.choice n

  decided_here : (n : ℕ) → Decided (OddHere n)
  decided_here n = by_member (decided_member decided_number n sp.nodes)
    where
      by_member : Decided (IsMember n sp.nodes) → Decided (OddHere n)
      by_member (inl inside) =
          decided_same (λ odd. (inside, odd)) (λ (both : OddHere n). both.1)
          (decided_odd_cycle g sp.choice ok n (is_spread.low n inside))
      by_member (inr outside) = inr (λ both. outside both.0)

  record FirstCycle : Type 0 where
    pub node : ℕ
    pub is : IsFirstOddCycle g sp.choice sp.nodes node

  first_cycle : FirstCycle ⊎ ((n : ℕ) → IsMember n sp.nodes → IsOddCycle g sp.choice n → ⊥)
  first_cycle = of_search (search_first OddHere decided_here (size g))
    where
      of_search : First OddHere (size g) ⊎ ((n : ℕ) → n < size g → OddHere n → ⊥)
          → FirstCycle ⊎ ((n : ℕ) → IsMember n sp.nodes → IsOddCycle g sp.choice n → ⊥)
      of_search (inl f) = inl (record {
        node = f.place;
        is = record {
          member = f.is_first.holds.0;
          is = f.is_first.holds.1;
          first = λ m inside less odd. f.is_first.before m less (inside, odd);
        };
      })
      of_search (inr none) = inr (λ n inside odd. none n (is_spread.low n inside) (inside, odd))

  -- ---- the first cause

  pub record SomeFirst : Type 0 where
    pub found : ClashCause
    pub is_first : IsFirstCause g sp found

  pub some_first_cause : (x : ClashCause) → IsCause g sp x → SomeFirst
  some_first_cause x is = by_false (find (λ n. is_false (node_at g n)) sp.nodes) refl
    where
      by_cycle : find (λ n. is_false (node_at g n)) sp.nodes ≡ None
          → NoPairs g sp.nodes
          → FirstCycle ⊎ ((n : ℕ) → IsMember n sp.nodes → IsOddCycle g sp.choice n → ⊥)
          → SomeFirst
      by_cycle no_f no_p (inl f) =
          record { found = cause.Cycle f.node; is_first = cycle_cause g sp is_spread.ascends no_f no_p f.node f.is }
      by_cycle no_f no_p (inr no_c) = absurd (no_cause g sp is_spread.ascends no_f no_p no_c x is)

      by_pair : find (λ n. is_false (node_at g n)) sp.nodes ≡ None
          → FirstPair g sp.nodes ⊎ NoPairs g sp.nodes
          → SomeFirst
      by_pair no_f (inl f) = record {
        found = cause.Pair f.pair.0 f.pair.1;
        is_first = pair_cause g sp is_spread.ascends no_f f.pair f.is;
      }
      by_pair no_f (inr no_p) = by_cycle no_f no_p first_cycle

      by_false : (o : Option ℕ) → find (λ n. is_false (node_at g n)) sp.nodes ≡ o → SomeFirst
      by_false None found = by_pair found (first_pair g sp.nodes is_spread.ascends)
      by_false (Some n) found =
          record { found = cause.False n; is_first = false_cause g sp is_spread.ascends n found }
