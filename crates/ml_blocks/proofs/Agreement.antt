-- The graph of a problem agrees with it: state formulas by induction on their size, and the root.
--
--   and_holds, or_holds, leads_holds == where a node with two children holds, or one that leads on
--   told_block            == who wins a block, as a node of its sign
--   states_told           == where the nodes of state formulas hold
--   total_holds           == the part that asks for edges holds everywhere
--   graphs_agree, linear_graphs_agree == the laws
use Rattle.std.proofs.Common.{ℕ, zero, suc, ◌≡◌, ◌+◌, ◌<◌, ◌≤◌, ◌⊎◌, ◌↔◌, min, inl, inr, arith, true, false, Bool, List, Contains, refl, sym, ap, subst, ⊎_elim, codes}
use Rattle.std.specs.Bool.{beq}
use Rattle.std.proofs.lemmas.Bool.{false≢true, and_parts}
use Rattle.ml_lists.specs.Lasso.{Lasso}
use Rattle.ml_lists.proofs.Members.{contains_of_member}
use Rattle.ml_lists.proofs.Decided.{decided_test, decided_both, decided_either}
use Rattle.ml_lists.proofs.Deciding.{decided_if, decided_not}
use Rattle.ml_base.specs.Structure.{Structure, lists}
use Rattle.ml_parity.specs.declared.players.Player.TheVariants.{Even, Odd}
use Rattle.ml_parity.specs.Player.{side}
use Rattle.ml_parity.specs.Winner.{Wins, WinsFrom, IsStrategyOf}
use Rattle.ml_parity.proofs.FollowedWalks.{FollowedWalk, walks_joined, won_behind}
use Rattle.ml_graph.specs.declared.node.Node.TheVariants as node
use Rattle.ml_graph.specs.Graph.{Graph}
use Rattle.ml_graph.specs.CheckingGame.{Pair, targets}
use Rattle.ml_graph.specs.CheckingGame as game
use Rattle.ml_graph.proofs.OneStep.{vertex_low}
use Rattle.ml_text.specs.declared.token.Operator.{Operator}
use Rattle.ml_text.specs.declared.token.Operator.TheVariants as operator
use Rattle.ml_text.specs.Operators.{weight}
use Rattle.ml_ctl.specs.Formula as plain
use Rattle.ml_ctl.specs.Formula.{Formula, occurrences}
use Rattle.ml_ctl.specs.Sorts.{is_state}
use Rattle.ml_ctl.specs.declared.term.Quantifier.{Quantifier}
use Rattle.ml_ctl.specs.declared.term.Quantifier.TheVariants as quantifier
use Rattle.ml_ctl.specs.Laws.{IsDecided}
use Rattle.ml_ctl.specs.Meaning.{HoldsAt, TruthAt}
use Rattle.ml_ctl.specs.Paths.{IsPathFrom}
use Rattle.ml_ctl.specs.Problem.{IsAdmitted}
use Rattle.ml_ctl.proofs.StepByStep.{both_ways}
use Rattle.ml_ctl.specs.Problem as problem
use Rattle.ml_ltl.specs.Problem as ltl
use Rattle.ml_blocks.specs.Agreement.{Agrees, AgreesWith, HoldsWhere, GraphsAgree, GraphsHold, LinearGraphsAgree, LinearGraphsHold}
use Rattle.ml_blocks.specs.BlockGraph.{IsGraphAt, start_of, linear_start_of}
use Rattle.ml_blocks.specs.Items.{now}
use Rattle.ml_blocks.specs.Laws.{signed}
use Rattle.ml_blocks.specs.Places.{Place, Root, Total, HasEdge, LeadsOn, True, Holding, Both, Neither, form_of, block_of}
use Rattle.ml_nodes.specs.ClosureGraph.{Constant, Literal, And, Or, Diamond}
use Rattle.ml_blocks.proofs.BlocksTold.{Told, ItemsTold, SomeFrom, block_told, given, never_both, one_of_both, holds_as, is_state_item}
use Rattle.ml_blocks.proofs.DecidedTruth.{truth_is_decided}
use Rattle.ml_nodes.proofs.EndlessWalks.{Onward, never_for_ever}
use Rattle.ml_blocks.proofs.ItemsWithin.{StandsAt, here, under_not, under_tense, at_left, at_right, before, behind, within_stands, some_weight}
use Rattle.ml_blocks.proofs.PlaceVertices as vertices
use Rattle.ml_blocks.proofs.PlaceVertices.{Board, Known, Branches, Edges, at, number_low, same_number, vertex_is, form_as, both, edges, own_branch, own_edge, move_walk, priority_at_place, step_target}
use Rattle.ml_blocks.proofs.RowConnectives as row
use Rattle.ml_blocks.proofs.SaidItems.{step_states}
use Rattle.ml_blocks.proofs.SteadySteps.{itself, back}

-- ---- nodes

module _ (B : Board) where
  abbrev Holds : ℕ → ℕ → Type 0
  Holds s n = game.HoldsAt B.g B.m s n

  record AndHolds (s n : ℕ) (l r : Place) : Type 0 where
    pub left : Known B l
    pub right : Known B r
    pub holds : Holds s n ↔ (Holds s left.number × Holds s right.number)

  record OrHolds (s n : ℕ) (l r : Place) : Type 0 where
    pub left : Known B l
    pub right : Known B r
    pub holds : Holds s n ↔ (Holds s left.number ⊎ Holds s right.number)

  record LeadsHolds (s n : ℕ) (q : Place) : Type 0 where
    pub to : Known B q
    pub holds : Holds s n ↔ Holds s to.number

  and_holds : (p l r : Place) (s : ℕ)
      → s < (B.m).states
      → (a : Known B p)
      → form_of p ≡ And l r
      → AndHolds s a.number l r
  and_holds p l r s low a e =
      let h = form_as B a (And l r) e in
      record {
        left = record { number = h.0; is = h.2 };
        right = record { number = h.1; is = h.3 };
        holds = holds_as B s a.number low (number_low B a) (node.And h.0 h.1) h.4;
      }

  or_holds : (p l r : Place) (s : ℕ) → s < (B.m).states → (a : Known B p) → form_of p ≡ Or l r → OrHolds s a.number l r
  or_holds p l r s low a e =
      let h = form_as B a (Or l r) e in
      record {
        left = record { number = h.0; is = h.2 };
        right = record { number = h.1; is = h.3 };
        holds = holds_as B s a.number low (number_low B a) (node.Or h.0 h.1) h.4;
      }

  leads_holds : (p q : Place) (s : ℕ)
      → s < (B.m).states
      → (a : Known B p)
      → form_of p ≡ And q q
      → LeadsHolds s a.number q
  leads_holds p q s low a e =
      let h = and_holds p q q s low a e in
      let one = same_number B h.left h.right in
      record {
        to = h.left;
        holds = (
          (λ w. ((h.holds).0 w).0),
          (λ w. (h.holds).1 (w, subst (Holds s) one w)),
        );
      }

  constant_holds : (p : Place) (c : Bool) (s : ℕ)
      → s < (B.m).states
      → (a : Known B p)
      → form_of p ≡ Constant c
      → (c ≡ true) ↔ Holds s a.number
  constant_holds p true s low a e =
      let one = holds_as B s a.number low (number_low B a) node.True (form_as B a (Constant true) e) in
      ((λ t. one.1 tt), (λ w. refl))
  constant_holds p false s low a e =
      let one = holds_as B s a.number low (number_low B a) node.False (form_as B a (Constant false) e) in
      ((λ t. absurd (false≢true t)), (λ w. absurd (one.0 w)))

  literal_holds : (p : Place) (name : List ℕ) (c : Bool) (s : ℕ) → s < (B.m).states → (a : Known B p)
      → form_of p ≡ Literal name c
      → (lists B.m s name ≡ c) ↔ Holds s a.number
  literal_holds p name c s low a e =
      let h = form_as B a (Literal name c) e in
      let one = holds_as B s a.number low (number_low B a) (node.Lit h.0 c) h.1 in
      subst (λ q. (lists B.m s q ≡ c) ↔ Holds s a.number) h.2 (back one)

-- ---- signs

signed_test : (b c : Bool) → signed c (b ≡ true) ↔ (b ≡ c)
signed_test b true = itself
signed_test true false = ((λ none. absurd (none refl)), (λ e none. false≢true (sym e)))
signed_test false false = ((λ none. refl), (λ e. false≢true))

signed_constant : (b c : Bool) → signed c (b ≡ true) ↔ (beq b c ≡ true)
signed_constant true true = itself
signed_constant false true = itself
signed_constant true false = ((λ none. absurd (none refl)), (λ e none. false≢true e))
signed_constant false false = ((λ none. refl), (λ e. false≢true))

pair_iff : {P Q R S : Type 0} → P ↔ R → Q ↔ S → (P × Q) ↔ (R × S)
pair_iff (a, b) (c, d) = ((λ both. (a both.0, c both.1)), (λ both. (b both.0, d both.1)))

sum_iff : {P Q R S : Type 0} → P ↔ R → Q ↔ S → (P ⊎ Q) ↔ (R ⊎ S)
sum_iff {P = P} {Q = Q} {R = R} {S = S} (a, b) (c, d) = (
  (λ either. ⊎_elim (λ (p : P). inl (a p)) (λ (q : Q). inr (c q)) either),
  (λ either. ⊎_elim (λ (r : R). inl (b r)) (λ (s : S). inr (d s)) either),
)

not_not : {P : Type 0} → IsDecided P → ((P → ⊥) → ⊥) ↔ P
not_not {P = P} d = (
  (λ fails. ⊎_elim (λ (p : P). p) (λ (none : P → ⊥). absurd (fails none)) d),
  (λ p none. none p),
)

-- ---- blocks

told_block : (B : Board) (i : ℕ) (f : Formula) (c b : Bool) (told : ItemsTold B (now i f c) b) (s : ℕ)
    (low : s < (B.m).states)
    → (a : Known B (block_of (now i f c) b))
    → Told B s a.number b (SomeFrom B (now i f c) s)
told_block B i f c true told s low a = from (block_told B i f c true told s low a)
  where
    from : (SomeFrom B (now i f c) s × Wins (vertices.game B) Even (at B s a.number))
        ⊎ ((SomeFrom B (now i f c) s → ⊥) × Wins (vertices.game B) Odd (at B s a.number))
        → Told B s a.number true (SomeFrom B (now i f c) s)
    from (inl (some, win)) = record { won = ((λ p. win), (λ w. some)); decided = inl some }
    from (inr (none, win)) = record {
      won = ((λ p. absurd (none p)), (λ w. absurd (never_both B s a.number low (number_low B a) w win)));
      decided = inr none;
    }
told_block B i f c false told s low a = from (block_told B i f c false told s low a)
  where
    from : (SomeFrom B (now i f c) s × Wins (vertices.game B) Odd (at B s a.number))
        ⊎ ((SomeFrom B (now i f c) s → ⊥) × Wins (vertices.game B) Even (at B s a.number))
        → Told B s a.number false (SomeFrom B (now i f c) s)
    from (inl (some, win)) = record {
      won = ((λ none. absurd (none some)), (λ w. absurd (never_both B s a.number low (number_low B a) w win)));
      decided = inl some;
    }
    from (inr (none, win)) = record { won = ((λ n. win), (λ w. none)); decided = inr none }

-- every path, where no path fails
module _ (B : Board) (i : ℕ) (f : Formula) (b : Bool) (told : ItemsTold B (now i f false) b) (s : ℕ)
    (low : s < (B.m).states)
    (a : Known B (block_of (now i f false) b)) where
  abbrev All : Type 0
  All = (l : Lasso) → IsPathFrom B.m s l → TruthAt B.m l f 0

  abbrev Fails : Type 0
  Fails = SomeFrom B (now i f false) s

  all_of_none : (Fails → ⊥) → All
  all_of_none none l from =
      ⊎_elim (λ (t : TruthAt B.m l f 0). t) (λ (no_truth : TruthAt B.m l f 0 → ⊥). absurd (none (l, from, no_truth)))
      (truth_is_decided B.m l f (given B i f false b told s low a l from.is_path) 0
      ((from.is_path).starts, omega (arith, (from.is_path).starts)))

  none_of_all : All → Fails → ⊥
  none_of_all all (l, from, no_truth) = no_truth (all l from)

  some_of_not_all : IsDecided Fails → (All → ⊥) → Fails
  some_of_not_all d none =
      ⊎_elim (λ (some : Fails). some) (λ (no_one : Fails → ⊥). absurd (none (all_of_none no_one))) d

  decided_every : IsDecided Fails → IsDecided All
  decided_every (inl some) = inr (λ all. none_of_all all some)
  decided_every (inr none) = inl (all_of_none none)

-- ---- state formulas

pub stands_smaller : (i : ℕ) (f : Formula) (j : ℕ) (g : Formula) → StandsAt i f j g → occurrences g ≤ occurrences f
stands_smaller i f j g (here _ _ _ _ at is) = let same = ap occurrences is in omega (arith, same)
stands_smaller i _ j g (under_not _ f _ _ s) = let r = stands_smaller (i + 1) f j g s in omega (arith, r)
stands_smaller i _ j g (under_tense t _ f _ _ s) = let r = stands_smaller (i + 1) f j g s in omega (arith, r)
stands_smaller i _ j g (at_left op _ f h _ _ s) =
    let r = stands_smaller (i + weight op) f j g s in omega (arith, r)
stands_smaller i _ j g (at_right op _ f h _ _ s) =
    let r = stands_smaller (i + weight op + occurrences f) h j g s in omega (arith, r)
stands_smaller i _ j g (before p _ f h _ _ s) = let r = stands_smaller (i + 1) f j g s in omega (arith, r)
stands_smaller i _ j g (behind p _ f h _ _ s) = let r = stands_smaller (i + 1 + occurrences f) h j g s in omega (arith, r)

module _ (B : Board) where
  abbrev StatesTold : ℕ → Type 0
  StatesTold n =
      (f : Formula) → occurrences f < n → is_state f ≡ true → (i : ℕ) (sign : Bool) (s : ℕ) (low : s < (B.m).states)
      → (a : Known B (Holding i f sign))
      → Told B s a.number sign (HoldsAt B.m f s)

  items_told : (n : ℕ)
      → StatesTold n
      → (i : ℕ) (f : Formula) (c b : Bool)
      → occurrences f < n
      → ItemsTold B (now i f c) b
  items_told n told i f c b small s low x of e h =
      let stands = (within_stands i f c _ of).stands in
      let less = stands_smaller i f x.number x.formula stands in
      told x.formula (omega (arith, less, small)) (is_state_item x e) x.number (beq x.positive b) s low h

  -- both operands of a connective, each with a sign
  module _ (n : ℕ) (told : StatesTold n) (f g : Formula) (state_f : is_state f ≡ true) (state_g : is_state g ≡ true)
      (small_f : occurrences f < n) (small_g : occurrences g < n) (s : ℕ) (low : s < (B.m).states) where
    abbrev F : Type 0
    F = HoldsAt B.m f s

    abbrev G : Type 0
    G = HoldsAt B.m g s

    left_told : (i : ℕ) (c : Bool) (a : Known B (Holding i f c)) → Told B s a.number c F
    left_told i c a = told f small_f state_f i c s low a

    right_told : (i : ℕ) (c : Bool) (a : Known B (Holding i g c)) → Told B s a.number c G
    right_told i c a = told g small_g state_g i c s low a

    -- a node that asks both, or one of both
    both_told : (p : Place) (i j : ℕ) (c d : Bool) (a : Known B p)
        → form_of p ≡ And (Holding i f c) (Holding j g d)
        → (signed c F × signed d G) ↔ Holds B s a.number
    both_told p i j c d a e =
        let h = and_holds B p (Holding i f c) (Holding j g d) s low a e in
        both_ways (pair_iff (left_told i c h.left).won (right_told j d h.right).won) (back h.holds)

    one_told : (p : Place) (i j : ℕ) (c d : Bool) (a : Known B p)
        → form_of p ≡ Or (Holding i f c) (Holding j g d)
        → (signed c F ⊎ signed d G) ↔ Holds B s a.number
    one_told p i j c d a e =
        let h = or_holds B p (Holding i f c) (Holding j g d) s low a e in
        both_ways (sum_iff (left_told i c h.left).won (right_told j d h.right).won) (back h.holds)

    and_decided : (p : Place) (i j : ℕ) (c d : Bool) (a : Known B p)
        → form_of p ≡ And (Holding i f c) (Holding j g d)
        → IsDecided F × IsDecided G
    and_decided p i j c d a e =
        let h = and_holds B p (Holding i f c) (Holding j g d) s low a e in
        ((left_told i c h.left).decided, (right_told j d h.right).decided)

    or_decided : (p : Place) (i j : ℕ) (c d : Bool) (a : Known B p)
        → form_of p ≡ Or (Holding i f c) (Holding j g d)
        → IsDecided F × IsDecided G
    or_decided p i j c d a e =
        let h = or_holds B p (Holding i f c) (Holding j g d) s low a e in
        ((left_told i c h.left).decided, (right_told j d h.right).decided)

    module _ (i : ℕ) where
      abbrev r : ℕ
      r = i + 1 + occurrences f

      connective_told : (op : Operator) (sign : Bool) (a : Known B (Holding i (plain.Binary op f g) sign))
          → Told B s a.number sign (HoldsAt B.m (plain.Binary op f g) s)
      connective_told operator.And true a =
          let p = Holding i (plain.Binary operator.And f g) true in
          let d = and_decided p (i + 1) r true true a refl in
          record { won = both_told p (i + 1) r true true a refl; decided = decided_both d.0 d.1 }
      connective_told operator.And false a =
          let p = Holding i (plain.Binary operator.And f g) false in
          let d = or_decided p (i + 1) r false false a refl in
          record {
            won = both_ways (row.not_both d.0) (both_ways (back row.either) (one_told p (i + 1) r false false a refl));
            decided = decided_both d.0 d.1;
          }
      connective_told operator.Or true a =
          let p = Holding i (plain.Binary operator.Or f g) true in
          let d = or_decided p (i + 1) r true true a refl in
          record { won = one_told p (i + 1) r true true a refl; decided = decided_either d.0 d.1 }
      connective_told operator.Or false a =
          let p = Holding i (plain.Binary operator.Or f g) false in
          let d = and_decided p (i + 1) r false false a refl in
          record {
            won = both_ways row.not_either (both_ways (back row.both) (both_told p (i + 1) r false false a refl));
            decided = decided_either d.0 d.1;
          }
      connective_told operator.Implies true a =
          let p = Holding i (plain.Binary operator.Implies f g) true in
          let d = or_decided p (i + 1) r false true a refl in
          record {
            won = both_ways (row.implies d.0) (both_ways (back row.either) (one_told p (i + 1) r false true a refl));
            decided = decided_if d.0 (λ p. d.1);
          }
      connective_told operator.Implies false a =
          let p = Holding i (plain.Binary operator.Implies f g) false in
          let d = and_decided p (i + 1) r true false a refl in
          record {
            won = both_ways (row.not_implies d.0) (both_ways (back row.both) (both_told p (i + 1) r true false a refl));
            decided = decided_if d.0 (λ p. d.1);
          }
      connective_told operator.Iff true a =
          let o = or_holds B (Holding i (plain.Binary operator.Iff f g) true) (Both (i + 1) f g true)
          (Neither (i + 2) f g true) s low a refl in
          let l = i + 1 + 2 in
          let k = i + 2 + 1 in
          let d = and_decided (Both (i + 1) f g true) l (l + occurrences f) true true o.left refl in
          let one = both_told (Both (i + 1) f g true) l (l + occurrences f) true true o.left refl in
          let two = both_told (Neither (i + 2) f g true) k (k + occurrences f) false false o.right refl in
          record {
            won = both_ways (row.iff d.0)
                (both_ways (sum_iff (back row.both) (back row.both)) (both_ways (sum_iff one two) (back o.holds)));
            decided = decided_both (decided_if d.0 (λ p. d.1)) (decided_if d.1 (λ p. d.0));
          }
      connective_told operator.Iff false a =
          let o = or_holds B (Holding i (plain.Binary operator.Iff f g) false) (Both (i + 1) f g false)
          (Neither (i + 2) f g false) s low a refl in
          let l = i + 1 + 2 in
          let k = i + 2 + 1 in
          let d = and_decided (Both (i + 1) f g false) l (l + occurrences f) true false o.left refl in
          let one = both_told (Both (i + 1) f g false) l (l + occurrences f) true false o.left refl in
          let two = both_told (Neither (i + 2) f g false) k (k + occurrences f) false true o.right refl in
          record {
            won = both_ways (row.not_iff d.0 d.1)
                (both_ways (sum_iff (back row.both) (back row.both)) (both_ways (sum_iff one two) (back o.holds)));
            decided = decided_both (decided_if d.0 (λ p. d.1)) (decided_if d.1 (λ p. d.0));
          }

  not_told : (n : ℕ)
      → StatesTold n
      → (f : Formula)
      → is_state f ≡ true
      → occurrences f < n
      → (i : ℕ) (sign : Bool) (s : ℕ)
      (low : s < (B.m).states)
      → (a : Known B (Holding i (plain.Not f) sign))
      → Told B s a.number sign (HoldsAt B.m f s → ⊥)
  not_told n told f state small i true s low a =
      let h = leads_holds B (Holding i (plain.Not f) true) (Holding (i + 1) f false) s low a refl in
      let t = told f small state (i + 1) false s low h.to in
      record { won = both_ways t.won (back h.holds); decided = decided_not t.decided }
  not_told n told f state small i false s low a =
      let h = leads_holds B (Holding i (plain.Not f) false) (Holding (i + 1) f true) s low a refl in
      let t = told f small state (i + 1) true s low h.to in
      record { won = both_ways (not_not t.decided) (both_ways t.won (back h.holds)); decided = decided_not t.decided }

  quantified_told : (n : ℕ)
      → StatesTold n
      → (q : Quantifier) (f : Formula)
      → occurrences f < n
      → (i : ℕ) (sign : Bool) (s : ℕ)
      (low : s < (B.m).states)
      → (a : Known B (Holding i (plain.Quantified q f) sign))
      → Told B s a.number sign (HoldsAt B.m (plain.Quantified q f) s)
  quantified_told n told quantifier.Exists f small i sign s low a =
      let h = leads_holds B (Holding i (plain.Quantified quantifier.Exists f) sign)
      (block_of (now (i + 1) f true) sign) s low a refl in
      let t = told_block B (i + 1) f true sign (items_told n told (i + 1) f true sign small) s low h.to in
      record { won = both_ways t.won (back h.holds); decided = t.decided }
  quantified_told n told quantifier.Forall f small i true s low a =
      let h = leads_holds B (Holding i (plain.Quantified quantifier.Forall f) true)
      (block_of (now (i + 1) f false) false) s low a refl in
      let its = items_told n told (i + 1) f false false small in
      let t = told_block B (i + 1) f false false its s low h.to in
      record {
        won = both_ways
            (none_of_all B (i + 1) f false its s low h.to, all_of_none B (i + 1) f false its s low h.to)
            (both_ways t.won (back h.holds));
        decided = decided_every B (i + 1) f false its s low h.to t.decided;
      }
  quantified_told n told quantifier.Forall f small i false s low a =
      let h = leads_holds B (Holding i (plain.Quantified quantifier.Forall f) false)
      (block_of (now (i + 1) f false) true) s low a refl in
      let its = items_told n told (i + 1) f false true small in
      let t = told_block B (i + 1) f false true its s low h.to in
      record {
        won = both_ways (
          some_of_not_all B (i + 1) f true its s low h.to t.decided,
          (λ some all. none_of_all B (i + 1) f true its s low h.to all some),
        )
            (both_ways t.won (back h.holds));
        decided = decided_every B (i + 1) f true its s low h.to t.decided;
      }

  pub states_told : (n : ℕ) → StatesTold n
  states_told zero f small state i sign s low a = absurd (omega (arith, small))
  states_told (suc n) (plain.Const c) small state i sign s low a = record {
    won = both_ways (signed_constant c sign) (constant_holds B (Holding i (plain.Const c) sign) (beq c sign) s low a refl);
    decided = decided_test c;
  }
  states_told (suc n) (plain.Prop p) small state i sign s low a = record {
    won =
        both_ways (signed_test (lists B.m s p) sign) (literal_holds B (Holding i (plain.Prop p) sign) p sign s low a refl);
    decided = decided_test (lists B.m s p);
  }
  states_told (suc n) (plain.Not f) small state i sign s low a =
      not_told n (states_told n) f state (omega (arith, small)) i sign s low a
  states_told (suc n) (plain.Binary op f g) small state i sign s low a =
      let parts = and_parts (is_state f) (is_state g) state in
      let some = some_weight op in
      connective_told n (states_told n) f g parts.0 parts.1 (omega (arith, small, some))
      (omega (arith, small, some)) s low i op sign a
  states_told (suc n) (plain.Temporal t f) small state i sign s low a = absurd (false≢true state)
  states_told (suc n) (plain.Paired p f g) small state i sign s low a = absurd (false≢true state)
  states_told (suc n) (plain.Quantified q f) small state i sign s low a =
      quantified_told n (states_told n) q f (omega (arith, small)) i sign s low a

-- ---- each state has an edge

module _ (B : Board) (total : Known B Total) where
  true_holds : (s : ℕ) → s < (B.m).states → (a : Known B True) → Holds B s a.number
  true_holds s low a = (constant_holds B True true s low a refl).0 refl

  edge_holds : (s : ℕ) → s < (B.m).states → (a : Known B HasEdge) → Holds B s a.number
  edge_holds s low a =
      let h = form_as B a (Diamond True) refl in
      let one = holds_as B s a.number low (number_low B a) (node.Diamond h.0 h.1) h.3 in
      let some = B.is_total s low in
      let there = step_target B.m s some.0 some.1 in
      let t_low = (step_states B.m B.is_structure s some.0 some.1).1 in
      one.1 (
        some.0,
        subst (λ name. Contains (targets B.m s name) some.0) (sym h.4)
            (contains_of_member some.0 (targets B.m s (codes "_")) there),
        true_holds some.0 t_low (record { number = h.1; is = h.2 }),
      )

  module _ (choice : ℕ → ℕ) (is_strategy : IsStrategyOf (vertices.game B) Odd choice) where
    record AtTotal : Type 0 where
      pub s : ℕ
      pub low : s < (B.m).states
      pub from : WinsFrom (vertices.game B) Odd choice (at B s total.number)

    abbrev vertex : AtTotal → ℕ
    vertex x = at B x.s total.number

    abbrev Lowest : ℕ → ℕ → ℕ → Type 0
    Lowest v k w = k ≡ 0

    onward : (x : AtTotal) → Onward (vertices.game B) Odd choice Lowest AtTotal vertex x
    onward x = go (own_branch B Odd choice is_strategy x.s total.number (vertex_is B x.s x.low total) _ _ c)
      where
        c : Branches B Odd x.s total.number HasEdge LeadsOn
        c = both B true HasEdge LeadsOn x.s total refl

        right : FollowedWalk (vertices.game B) Odd choice (at B x.s total.number) 0 (at B x.s (c.right).number)
            → WinsFrom (vertices.game B) Odd choice (at B x.s (c.right).number)
            → Onward (vertices.game B) Odd choice Lowest AtTotal vertex x
        right first wins = on (edges B false Total x.s c.right refl)
          where
            on : Edges B Odd x.s (c.right).number Total → Onward (vertices.game B) Odd choice Lowest AtTotal vertex x
            on d =
                let some = B.is_total x.s x.low in
                let edge = own_edge B Odd choice is_strategy x.s (c.right).number
                (vertex_is B x.s x.low c.right) _ d some.0 some.1 in
                let there = same_number B d.to total in
                let goes = subst (λ n. vertices.Goes B Odd choice is_strategy (at B x.s (c.right).number)
                (at B edge.0 n)) there edge.2 in
                let second =
                move_walk B Odd choice is_strategy 2 (at B x.s (c.right).number) (at B edge.0 total.number)
                (priority_at_place B x.s x.low c.right) goes in
                record {
                  to = record {
                    s = edge.0;
                    low = (step_states B.m B.is_structure x.s edge.0 edge.1).1;
                    from =
                        won_behind (vertices.game B) Odd choice (at B x.s (c.right).number)
                        (at B edge.0 total.number) goes wins;
                  };
                  stretch = record {
                    lowest = min 0 2;
                    way =
                        walks_joined (vertices.game B) Odd choice (at B x.s total.number) 0 (at B x.s (c.right).number) 2
                        (at B edge.0 total.number) first second;
                    known = refl;
                  };
                }

        go : vertices.Goes B Odd choice is_strategy (at B x.s total.number) (at B x.s (c.left).number)
            ⊎ vertices.Goes B Odd choice is_strategy (at B x.s total.number) (at B x.s (c.right).number)
            → Onward (vertices.game B) Odd choice Lowest AtTotal vertex x
        go (inl goes) =
            absurd (never_both B x.s (c.left).number x.low (number_low B c.left) (edge_holds x.s x.low c.left)
            (record {
              strategy = choice;
              is_strategy = is_strategy;
              wins = won_behind (vertices.game B) Odd choice (at B x.s total.number) (at B x.s (c.left).number) goes x.from;
            }))
        go (inr goes) =
            right
            (move_walk B Odd choice is_strategy 0 (at B x.s total.number) (at B x.s (c.right).number)
            (priority_at_place B x.s x.low total) goes)
            (won_behind (vertices.game B) Odd choice (at B x.s total.number) (at B x.s (c.right).number) goes x.from)

    never_odd : AtTotal → ⊥
    never_odd x =
        never_for_ever (vertices.game B) Odd choice Lowest AtTotal vertex
        (λ y. vertex_low B.g B.m B.is_graph B.is_structure (Pair y.s total.number) (vertex_is B y.s y.low total))
        (λ v j w k y a b. omega (arith, a, b)) (λ v k e. ap side e) onward x x.from

  total_holds : (s : ℕ) → s < (B.m).states → Holds B s total.number
  total_holds s low =
      ⊎_elim (λ (even : Wins (vertices.game B) Even (at B s total.number)). even)
      (λ (odd : Wins (vertices.game B) Odd (at B s total.number)).
      absurd (never_odd odd.strategy odd.is_strategy (record { s = s; low = low; from = odd.wins })))
      (one_of_both B s total.number low (number_low B total) Even)

-- ---- the root

module _ (g : Graph) (m : Structure) (start : Place) (is : IsGraphAt g start) (ok : IsAdmitted m) where
  abbrev board : Board
  board = record {
    g = g;
    m = m;
    root = Root start;
    places = (is.is_numbered).0;
    is_graph = is.is_graph;
    is_structure = ok.is_structure;
    is_total = ok.is_total;
    numbered = (is.is_numbered).1;
  }

  abbrev root_known : Known board (Root start)
  root_known = record { number = g.root; is = ((is.is_numbered).1).root_is }

  -- the root holds where its start does
  record Started (s : ℕ) : Type 0 where
    pub at_start : Known board start
    pub holds : Holds board s g.root ↔ Holds board s at_start.number

  started : (s : ℕ) → s < m.states → Started s
  started s low =
      let h = and_holds board (Root start) start Total s low root_known refl in
      record {
        at_start = h.left;
        holds = ((λ w. ((h.holds).0 w).0), (λ w. (h.holds).1 (w, total_holds board h.right s low)));
      }

  agrees_by : (s : ℕ) (low : s < m.states) (P : Type 0) → P ↔ Holds board s g.root → IsDecided P → Agrees g m s P
  agrees_by s low P same (inl p) = inl (p, same.0 p)
  agrees_by s low P same (inr none) =
      inr (
        none,
        ⊎_elim
            (λ (even : Wins (vertices.game board) Even (at board s g.root)). absurd (none (same.1 even)))
            (λ (odd : Wins (vertices.game board) Odd (at board s g.root)). odd)
            (one_of_both board s g.root low (number_low board root_known) Even),
      )

told_agrees : (g : Graph) (m : Structure) (f : Formula) (sign : Bool)
    → is_state f ≡ true
    → (is : IsGraphAt g (Holding 0 f sign))
    → (ok : IsAdmitted m)
    → (s : ℕ)
    → s < m.states
    → Agrees g m s (signed sign (HoldsAt m f s))
told_agrees g m f sign state is ok s low =
    let B = board g m (Holding 0 f sign) is ok in
    let h = started g m (Holding 0 f sign) is ok s low in
    let t = states_told B (suc (occurrences f)) f (omega arith) state 0 sign s low h.at_start in
    agrees_by g m (Holding 0 f sign) is ok s low (signed sign (HoldsAt m f s)) (both_ways t.won (back h.holds))
    (signed_decided sign t.decided)
  where
    signed_decided : {P : Type 0} (c : Bool) → IsDecided P → IsDecided (signed c P)
    signed_decided true d = d
    signed_decided false d = decided_not d

pub graphs_agree : GraphsAgree
graphs_agree f true g state is m ok s low = told_agrees g m f false state is ok s low
graphs_agree f false g state is m ok s low = told_agrees g m f true state is ok s low

path_agrees : (g : Graph) (m : Structure) (f : Formula) (c : Bool)
    → (is : IsGraphAt g (block_of (now 0 f c) true))
    → (ok : IsAdmitted m)
    → (s : ℕ)
    → s < m.states
    → Agrees g m s ((l : Lasso) × IsPathFrom m s l × signed c (TruthAt m l f 0))
path_agrees g m f c is ok s low =
    let start = block_of (now 0 f c) true in
    let B = board g m start is ok in
    let h = started g m start is ok s low in
    let n = suc (occurrences f) in
    let t = told_block B 0 f c true (items_told B n (states_told B n) 0 f c true (omega arith)) s low h.at_start in
    agrees_by g m start is ok s low (SomeFrom B (now 0 f c) s) (both_ways t.won (back h.holds)) t.decided

pub linear_graphs_agree : LinearGraphsAgree
linear_graphs_agree f true g is m ok s low = path_agrees g m f false is ok s low
linear_graphs_agree f false g is m ok s low = path_agrees g m f true is ok s low

-- ---- exactly where

exactly : (g : Graph) (start : Place) (P : Structure → ℕ → Type 0)
    → IsGraphAt g start
    → AgreesWith g P
    → HoldsWhere g P
exactly g start P is agree m ok s low = from (agree m ok s low)
  where
    from : Agrees g m s (P m s) → game.Holds g m s ↔ P m s
    from (inl (holds, even)) = ((λ w. holds), (λ p. even))
    from (inr (fails, odd)) = (
      (λ w. absurd (never_both (board g m start is ok) s g.root low
          (number_low (board g m start is ok) (root_known g m start is ok)) w odd)),
      (λ p. absurd (fails p)),
    )

pub graphs_hold : GraphsHold
graphs_hold f negated g state is =
    exactly g (start_of f negated) (λ m s. problem.HoldsAt m s f negated) is
    (graphs_agree f negated g state is)

pub linear_graphs_hold : LinearGraphsHold
linear_graphs_hold f negated g is =
    exactly g (linear_start_of f negated) (λ m s. ltl.HoldsAt m s f negated) is
    (linear_graphs_agree f negated g is)
