-- Who wins a block is told by the paths from its state.
--
--   Told B s n sign F     == Even wins the node n at s exactly if F holds, or fails, and F is decided
--   decided_all           == quantified formulas are decided where the state items are that come of a formula
--   block_told            == the player of the block's sign wins it, and some path satisfies it, or neither
use Rattle.std.proofs.Common.{ℕ, ◌≡◌, ◌+◌, ◌<◌, ◌⊎◌, ◌↔◌, inl, inr, arith, true, false, Bool, not, List, [], ◌∷◌, ◌++◌, length, refl, sym, ap, subst, ⊎_elim}
use Rattle.std.specs.Bool.{beq}
use Rattle.ml_lists.specs.Lasso.{Lasso, entry}
use Rattle.ml_lists.specs.Member.{IsMember}
use Rattle.ml_lists.proofs.Member.{member-append_left, member-append_right}
use Rattle.ml_base.specs.Structure.{Structure}
use Rattle.ml_parity.specs.declared.players.Player.{Player}
use Rattle.ml_parity.specs.declared.players.Player.TheVariants.{Even, Odd}
use Rattle.ml_parity.specs.Player.{opponent}
use Rattle.ml_parity.specs.Winner.{Wins, WinsFrom}
use Rattle.ml_parity.proofs.Winners.{won_by_either, clash}
use Rattle.ml_graph.specs.declared.node.Node.{Node}
use Rattle.ml_graph.specs.declared.node.Node.TheVariants as node
use Rattle.ml_graph.specs.Graph.{node_at}
use Rattle.ml_graph.specs.CheckingGame.{Pair}
use Rattle.ml_graph.specs.CheckingGame as game
use Rattle.ml_graph.specs.Laws.{NodeHolds}
use Rattle.ml_graph.proofs.CheckingGame.{is_game}
use Rattle.ml_graph.proofs.OneStep.{vertex_low, one_step}
use Rattle.ml_text.specs.declared.token.Operator.TheVariants as operator
use Rattle.ml_ctl.specs.Formula as plain
use Rattle.ml_ctl.specs.Formula.{Formula, occurrences}
use Rattle.ml_ctl.specs.Sorts.{is_state}
use Rattle.ml_ctl.specs.declared.term.Tense.TheVariants as tense
use Rattle.ml_ctl.specs.declared.term.Pairing.TheVariants as pairing
use Rattle.ml_ctl.specs.Laws.{IsDecided, IsDecidedAlong}
use Rattle.ml_ctl.specs.Meaning.{HoldsAt}
use Rattle.ml_ctl.specs.Paths.{IsPath, IsPathFrom}
use Rattle.ml_ctl.proofs.StateFormulas.{looks_at_the_state}
use Rattle.ml_blocks.specs.Items.{Item, OfState, row, now}
use Rattle.ml_blocks.specs.ItemSets.{items_within}
use Rattle.ml_blocks.specs.Laws.{Asks, signed, QuantifiersAreDecided}
use Rattle.ml_blocks.specs.Places.{Holding}
use Rattle.ml_nodes.specs.ClosureGraph.{Constant}
use Rattle.ml_blocks.proofs.BlockSteps.{path}
use Rattle.ml_blocks.proofs.BlockWalks.{AllWon}
use Rattle.ml_blocks.proofs.ItemsFollow.{itself_within}
use Rattle.ml_blocks.proofs.ItemsWithin.{IsOf, within_stands}
use Rattle.ml_blocks.proofs.PathsWin.{NoneLost, ConstantLost, never_lost}
use Rattle.ml_blocks.proofs.PlaceVertices as vertices
use Rattle.ml_blocks.proofs.PlaceVertices.{Board, Known, at, player_of, number_low, form_as}
use Rattle.ml_blocks.proofs.ReachedItems.{Reached, within_reached, state_known}
use Rattle.ml_blocks.proofs.ItemSetMembers.{AreNow, alone}
use Rattle.ml_blocks.proofs.RowsOfItems.{item, due_now}
use Rattle.ml_blocks.proofs.SaidItems.{path_states}
use Rattle.ml_blocks.proofs.WinsGivePath.{path_from_win}

pub record Told (B : Board) (s n : ℕ) (sign : Bool) (F : Type 0) : Type 0 where
  pub won : signed sign F ↔ game.HoldsAt B.g B.m s n
  pub decided : IsDecided F

-- ---- what is decided

state_row : (i : ℕ) (f : Formula) (b t : Bool) → row (item i f b t) ≡ OfState → is_state f ≡ true
state_row i (plain.Const c) b t e = refl
state_row i (plain.Prop p) b t e = refl
state_row i (plain.Quantified q f) b t e = refl
state_row i (plain.Not f) b t e = absurd (cc)
state_row i (plain.Temporal tense.Next f) b t e = absurd (cc)
state_row i (plain.Temporal tense.Finally f) true t e = absurd (cc)
state_row i (plain.Temporal tense.Finally f) false t e = absurd (cc)
state_row i (plain.Temporal tense.Globally f) true t e = absurd (cc)
state_row i (plain.Temporal tense.Globally f) false t e = absurd (cc)
state_row i (plain.Paired pairing.Until f g) true t e = absurd (cc)
state_row i (plain.Paired pairing.Until f g) false t e = absurd (cc)
state_row i (plain.Paired pairing.Weak f g) true t e = absurd (cc)
state_row i (plain.Paired pairing.Weak f g) false t e = absurd (cc)
state_row i (plain.Paired pairing.Release f g) true t e = absurd (cc)
state_row i (plain.Paired pairing.Release f g) false t e = absurd (cc)
state_row i (plain.Binary operator.And f g) true t e = absurd (cc)
state_row i (plain.Binary operator.And f g) false t e = absurd (cc)
state_row i (plain.Binary operator.Or f g) true t e = absurd (cc)
state_row i (plain.Binary operator.Or f g) false t e = absurd (cc)
state_row i (plain.Binary operator.Implies f g) true t e = absurd (cc)
state_row i (plain.Binary operator.Implies f g) false t e = absurd (cc)
state_row i (plain.Binary operator.Iff f g) true t e = absurd (cc)
state_row i (plain.Binary operator.Iff f g) false t e = absurd (cc)

pub is_state_item : (x : Item) → row x ≡ OfState → is_state x.formula ≡ true
is_state_item x e = state_row x.number x.formula x.positive x.later e

module _ (m : Structure) (l : Lasso) where
  abbrev Each : List Item → Type 0
  Each xs = (x : Item) → IsMember x xs → row x ≡ OfState → IsDecidedAlong m l x.formula

  in_left : (x : Item) (xs ys : List Item) → Each (x ∷ (xs ++ ys)) → Each xs
  in_left x xs ys each y i = each y (inr (member-append_left y xs ys i))

  in_right : (x : Item) (xs ys : List Item) → Each (x ∷ (xs ++ ys)) → Each ys
  in_right x xs ys each y i = each y (inr (member-append_right y xs ys i))

  pub decided_all : (i : ℕ) (f : Formula) (c : Bool) → Each (items_within i f c) → QuantifiersAreDecided m l f
  decided_all i (plain.Const d) c each = tt
  decided_all i (plain.Prop p) c each = tt
  decided_all i (plain.Quantified q f) c each = each (now i (plain.Quantified q f) c) (inl refl) refl
  decided_all i (plain.Not f) c each = decided_all (i + 1) f (not c) (λ x k. each x (inr k))
  decided_all i (plain.Temporal t f) c each = decided_all (i + 1) f c (λ x k. each x (inr k))
  decided_all i (plain.Paired p f g) c each =
      let xs = items_within (i + 1) f c in let ys = items_within (i + 1 + occurrences f) g c in
      let x = now i (plain.Paired p f g) c in
      (decided_all (i + 1) f c (in_left x xs ys each), decided_all (i + 1 + occurrences f) g c (in_right x xs ys each))
  decided_all i (plain.Binary operator.And f g) c each =
      let xs = items_within (i + 1) f c in let ys = items_within (i + 1 + occurrences f) g c in
      let x = now i (plain.Binary operator.And f g) c in
      (decided_all (i + 1) f c (in_left x xs ys each), decided_all (i + 1 + occurrences f) g c (in_right x xs ys each))
  decided_all i (plain.Binary operator.Or f g) c each =
      let xs = items_within (i + 1) f c in let ys = items_within (i + 1 + occurrences f) g c in
      let x = now i (plain.Binary operator.Or f g) c in
      (decided_all (i + 1) f c (in_left x xs ys each), decided_all (i + 1 + occurrences f) g c (in_right x xs ys each))
  decided_all i (plain.Binary operator.Implies f g) c each =
      let xs = items_within (i + 1) f (not c) in let ys = items_within (i + 1 + occurrences f) g c in
      let x = now i (plain.Binary operator.Implies f g) c in (
        decided_all (i + 1) f (not c) (in_left x xs ys each),
        decided_all (i + 1 + occurrences f) g c
            (in_right x xs ys each),
      )
  decided_all i (plain.Binary operator.Iff f g) c each =
      let L = i + 3 in let R = L + occurrences f in
      let lt = items_within L f true in let lf = items_within L f false in
      let rt = items_within R g true in let rf = items_within R g false in
      let x = now i (plain.Binary operator.Iff f g) c in (
        decided_all L f true (λ y k. in_left x (lt ++ lf) (rt ++ rf) each y (member-append_left y lt lf k)),
        decided_all R g true (λ y k. in_right x (lt ++ lf) (rt ++ rf) each y (member-append_left y rt rf k)),
      )

-- ---- players

module _ (B : Board) (s n : ℕ) (low : s < (B.m).states) (n_low : n < length (B.g).nodes) where
  v_low : at B s n < length (vertices.game B).owner
  v_low = vertex_low B.g B.m B.is_graph B.is_structure (Pair s n) (low, n_low)

  pub never_both : Wins (vertices.game B) Even (at B s n) → Wins (vertices.game B) Odd (at B s n) → ⊥
  never_both even odd = clash (vertices.game B) (is_game B.g B.m B.is_graph B.is_structure) Even (at B s n) v_low even odd

  pub one_of_both : (p : Player) → Wins (vertices.game B) p (at B s n) ⊎ Wins (vertices.game B) (opponent p) (at B s n)
  one_of_both p = won_by_either (vertices.game B) (is_game B.g B.m B.is_graph B.is_structure) p (at B s n) v_low

  pub holds_as : (x : Node) → node_at B.g n ≡ x → game.HoldsAt B.g B.m s n ↔ NodeHolds B.g B.m s x
  holds_as x e =
      subst (λ y. game.HoldsAt B.g B.m s n ↔ NodeHolds B.g B.m s y) e
      (one_step B.g B.m B.is_graph B.is_structure s n low n_low)

pub constant_lost : (B : Board) (b : Bool) → ConstantLost B b
constant_lost B true s low h odd =
    let node_is = form_as B h (Constant true) refl in
    never_both B s h.number low (number_low B h) ((holds_as B s h.number low (number_low B h) node.True node_is).1 tt) odd
constant_lost B false s low h even =
    let node_is = form_as B h (Constant false) refl in
    (holds_as B s h.number low (number_low B h) node.False node_is).0 even

-- ---- a block

abbrev pub ItemsTold : Board → Item → Bool → Type 0
ItemsTold B first b =
    (s : ℕ) → s < (B.m).states → (x : Item) → IsOf first x → row x ≡ OfState
    → (h : Known B (Holding x.number x.formula (beq x.positive b)))
    → Told B s h.number (beq x.positive b) (HoldsAt B.m x.formula s)

-- by the sign of the item and of the block
from_win : (B : Board) (s n : ℕ) (low : s < (B.m).states) (n_low : n < length (B.g).nodes) (c b : Bool) (F : Type 0)
    → Told B s n (beq c b) F
    → Wins (vertices.game B) (player_of b) (at B s n)
    → signed c F
from_win B s n low n_low true true F told win = (told.won).1 win
from_win B s n low n_low false true F told win = (told.won).1 win
from_win B s n low n_low true false F told win =
    ⊎_elim (λ (f : F). f) (λ (none : F → ⊥). absurd (never_both B s n low n_low ((told.won).0 none) win)) told.decided
from_win B s n low n_low false false F told win = λ f. never_both B s n low n_low ((told.won).0 f) win

no_foe : (B : Board) (s n : ℕ) (low : s < (B.m).states) (n_low : n < length (B.g).nodes) (c b : Bool) (F : Type 0)
    → Told B s n (beq c b) F
    → signed c F
    → Wins (vertices.game B) (opponent (player_of b)) (at B s n)
    → ⊥
no_foe B s n low n_low true true F told f win = never_both B s n low n_low ((told.won).0 f) win
no_foe B s n low n_low false true F told none win = never_both B s n low n_low ((told.won).0 none) win
no_foe B s n low n_low true false F told f win = (told.won).1 win f
no_foe B s n low n_low false false F told none win = none ((told.won).1 win)

abbrev pub SomeFrom : Board → Item → ℕ → Type 0
SomeFrom B first s = (l : Lasso) × IsPathFrom B.m s l × Asks B.m l first 0

module _ (B : Board) (i : ℕ) (f : Formula) (c b : Bool) (told : ItemsTold B (now i f c) b) where
  abbrev first : Item
  first = now i f c

  all_won : AllWon B first b
  all_won s low x of e h win =
      from_win B s h.number low (number_low B h) x.positive b (HoldsAt B.m x.formula s) (told s low x of e h) win

  none_lost : NoneLost B first b
  none_lost s low x of e holds h win =
      no_foe B s h.number low (number_low B h) x.positive b (HoldsAt B.m x.formula s) (told s low x of e h) holds win

  module _ (s : ℕ) (low : s < (B.m).states) (a : Known B (path first b (first ∷ []) 0)) where
    of_first : (x : Item) → IsMember x (first ∷ []) → IsOf first x
    of_first x m = subst (IsOf first) (sym (alone x first m)) (itself_within i f c)

    now_first : AreNow (first ∷ [])
    now_first x m = ap (λ y. y.later) (alone x first m)

    reached : Reached B first b first
    reached = record { xs = first ∷ []; k = 0; a = a; of = of_first; member = inl refl }

    pub given : (l : Lasso) → IsPath B.m l → QuantifiersAreDecided B.m l f
    given l is_path =
        decided_all B.m l i f c
        (λ x m e p place.
        let t = within_reached B first b i f c reached x m in
        let is_now = (within_stands i f c x m).is_now in
        let of : IsOf first x = subst (λ z. IsMember z (items_within i f c)) (sym (due_now x is_now)) m in
        let h = state_known B first b x t is_now e in
        let look = looks_at_the_state B.m l x.formula p (is_state_item x e) in
        let s_low = path_states B.m l B.is_structure is_path p place in
        decided_as (HoldsAt B.m x.formula (entry l p)) look (told (entry l p) s_low x of e h).decided)
      where
        decided_as : {P : Type 0} (Q : Type 0) → P ↔ Q → IsDecided Q → IsDecided P
        decided_as Q same (inl q) = inl (same.1 q)
        decided_as Q same (inr none) = inr (λ p. none (same.0 p))

    pub block_told : (SomeFrom B first s × Wins (vertices.game B) (player_of b) (at B s a.number))
        ⊎ ((SomeFrom B first s → ⊥) × Wins (vertices.game B) (opponent (player_of b)) (at B s a.number))
    block_told = from (one_of_both B s a.number low (number_low B a) (player_of b))
      where
        mine : Wins (vertices.game B) (player_of b) (at B s a.number) → SomeFrom B first s
        mine win =
            let some =
            path_from_win B first b win.strategy win.is_strategy all_won given
            (record {
              s = s;
              low = low;
              xs = first ∷ [];
              k = 0;
              a = a;
              of = of_first;
              all_now = now_first;
              from = λ y m. win.wins;
              focus = λ more. more;
            }) in
            (some.lasso, some.is_from, some.all_true first (inl refl))

        theirs : Wins (vertices.game B) (opponent (player_of b)) (at B s a.number) → SomeFrom B first s → ⊥
        theirs win (l, is_from, asks) =
            let is_path = is_from.is_path in
            never_lost B first b l is_path (given l is_path) win.strategy win.is_strategy none_lost (constant_lost B b)
            (record {
              p = 0;
              place = (is_path.starts, omega (arith, is_path.starts));
              xs = first ∷ [];
              k = 0;
              a = a;
              of = of_first;
              all_now = now_first;
              asks = λ y m. subst (λ z. Asks B.m l z 0) (sym (alone y first m)) asks;
              from =
                  subst (λ t. WinsFrom (vertices.game B) (opponent (player_of b)) win.strategy (at B t a.number))
                  (sym is_from.starts_at) win.wins;
              low = λ more. more;
            })

        from : Wins (vertices.game B) (player_of b) (at B s a.number) ⊎ Wins (vertices.game B)
            (opponent (player_of b)) (at B s a.number)
            → (SomeFrom B first s × Wins (vertices.game B) (player_of b) (at B s a.number))
            ⊎ ((SomeFrom B first s → ⊥) × Wins (vertices.game B) (opponent (player_of b)) (at B s a.number))
        from (inl win) = inl (mine win, win)
        from (inr win) = inr (theirs win, win)
