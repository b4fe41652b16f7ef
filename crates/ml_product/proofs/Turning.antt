-- What is known of a position whose spread was made, and what its turn makes of the pool.
--
--   reached_at, stands_at, spread_of == the position is reached and stands at its place; its spread is that of its own nodes
--   still_at    == so it is when positions have come
--   clashed     == where the spread clashes, the position is lost
--   settled     == where there is nothing to do, it is won
--   unchosen_at == no side is chosen at the least open or-node
--   first_new, second_new == where none is below it, the positions with the one side and with the other are new
--   chosen_becomes, chosen_passed, chosen_turned == a side is chosen there, and then the other
--   new_place   == a number that is new belongs to the position that was added
--   both_opened == only the positions with these sides are new
--   still_chosen == the position is where it was, when the first side was chosen
--   along       == the turn of a position with diamonds
--   steps_unchosen == no side is chosen behind a diamond
--   led_unchosen == so none is at what is new
--   led_becomes, led_vertices, led_passed, all_led == the positions behind diamonds get numbers, one behind the other
use Rattle.std.proofs.Common.{ℕ, ◌≡◌, ◌+◌, ◌<◌, ◌≤◌, ◌⊎◌, inl, inr, List, [], ◌∷◌, ◌++◌, length, length-append, map, slice_get, Some, None, refl, sym, ap, ◌∙◌, subst, arith}
use Rattle.std.proofs.lemmas.List.{map_push}
use Rattle.std.proofs.lemmas.Bool.{cases_lt}
use Rattle.std.proofs.lemmas.Option.{slice_get-get_or, get_or_from_slice_get}
use Rattle.std.specs.Global.{Vec}
use Rattle.ml_lists.specs.Added.{IsAdded}
use Rattle.ml_lists.specs.Member.{IsMember}
use Rattle.ml_lists.proofs.Added.{last_or}
use Rattle.ml_lists.proofs.Member.{place-member, member-map, member-append_right, member_of_get}
use Rattle.ml_graph.specs.Graph.{Graph}
use Rattle.ml_sequent.specs.declared.choice.Side.{Side}
use Rattle.ml_sequent.specs.declared.choice.Side.TheVariants.{Left, Right}
use Rattle.ml_sequent.specs.declared.clashes.ClashCause.{ClashCause}
use Rattle.ml_sequent.specs.Choice.{side_of, with_side}
use Rattle.ml_sequent.specs.Spread.{SpreadList, IsSpreadOf, IsSpread, IsCause, IsLeastOpenOr}
use Rattle.ml_sequent.proofs.OwnSpreads.{own_spread}
use Rattle.ml_product.specs.Position.{Position, start_of, with_chosen, neutral}
use Rattle.ml_product.specs.DecisionGame.{Verdict, Clashing, Open, Leading, Settled, Target, To, Lost, Won, AreSteps, AreMoves}
use Rattle.ml_product.specs.DecisionGame.{IsVerdictOf, IsResolved, diamonds_of, Turn, HasMoreThan, IsReached, by_move}
use Rattle.ml_product.specs.declared.pool.Fresh.{Fresh}
use Rattle.ml_product.specs.declared.pool.Pool.{Pool}
use Rattle.ml_product.specs.declared.recorded.Recorded.TheVariants as recorded
use Rattle.ml_product.specs.private.Pools.{positions_of, position_of, beside, IsLonger}
use Rattle.ml_product.specs.private.Recorded.{AreVerticesAt, IsRecorded}
use Rattle.ml_product.specs.private.Exploring.{IsNumbered, HasNoRoom, at_place, target_of, Becomes, IsAt, HasNoneBelow, AddsUnchosen, IsLed, IsTurned, IsEnded, IsOpened}
use Rattle.ml_product.proofs.ArenaGame.{same_entry}
use Rattle.ml_product.proofs.Below.{new_beside, other_beside}
use Rattle.ml_product.proofs.Explored.{passed, joined}
use Rattle.ml_product.proofs.Vertices.{longer_get, longer_place, longer_self, longer_both, vertices_more, vertices_later}

module _ (g : Graph) (limit : ℕ) (b : Pool) (v : ℕ) (sp : SpreadList) (at : IsAt g limit b v sp) where
  abbrev ps : List Position
  ps = positions_of b

  abbrev here : Position
  here = at_place g (positions_of b) v

  -- the position is reached, and stands at its place
  pub reached_at : IsReached g (at_place g (positions_of b) v)
  reached_at = at.explores.are_reached here (place-member ps v (start_of g) at.number)

  pub stands_at : slice_get (positions_of b) v ≡ Some (at_place g (positions_of b) v)
  stands_at = slice_get-get_or ps v (start_of g) at.number

  pub only_there : (q : Position) → slice_get (positions_of b) v ≡ Some q → q ≡ at_place g (positions_of b) v
  only_there q there = same_entry ps v q here there stands_at

  -- its spread is that of its own nodes
  pub spread_of : IsSpread g sp
  spread_of = own_spread g here.sequent here.choice sp at.is_spread

  -- so it is when positions have come
  pub still_at : (d : Pool) → Becomes g limit b d → IsAt g limit d v sp
  still_at d is = record {
    explores = is.explores;
    number = low;
    is_spread = subst (λ (q : Position). IsSpreadOf g q.sequent q.choice sp)
        (sym (longer_place g ps (positions_of d) is.longer v at.number)) at.is_spread;
  }
    where
      low : v < length (positions_of d)
      low =
          let e = ap length is.longer.is in
          omega (arith, at.number, length-append (positions_of b) is.longer.more)

  -- the turn of a verdict
  abbrev pub turn_of : (k : Verdict) (ts : List Target) → IsVerdictOf g sp k → AreMoves g here sp k ts → Turn g here
  turn_of k ts is are = record {
    spread = sp;
    verdict = k;
    targets = ts;
    is_spread = at.is_spread;
    is_verdict = is;
    are_moves = are;
  }

  stays : Becomes g limit b b
  stays = record { explores = at.explores; longer = longer_self ps; stored = longer_self b.positions }

  none_new : AddsUnchosen g (positions_of b) b
  none_new w high low = absurd (omega arith)

  -- where the spread clashes, the position is lost
  pub clashed : (x : ClashCause) → IsCause g sp x → IsEnded g limit b v b recorded.Lost
  clashed x is = record {
    turned = record {
      becomes = stays;
      recorded = record {
        turn = turn_of Clashing (Lost ∷ []) (x, is) refl;
        owner_is = refl;
        moves_are = λ n. (n, [], refl, refl, refl);
      };
    };
    is_found = λ e. cc;
    unchosen = none_new;
  }

  -- where there is nothing to do, it is won
  pub settled : IsResolved g sp → diamonds_of g sp ≡ [] → IsEnded g limit b v b recorded.Won
  settled is none = record {
    turned = record {
      becomes = stays;
      recorded = record {
        turn = turn_of Settled (Won ∷ []) (is, none) refl;
        owner_is = refl;
        moves_are = λ n. (n + 1, [], refl, refl, refl);
      };
    };
    is_found = λ e. cc;
    unchosen = none_new;
  }

  -- the turn of a position with diamonds
  abbrev pub along : (ds : List ℕ) (ts : List Target) → IsResolved g sp → ds ≡ diamonds_of g sp → 0 < length ds
      → AreSteps g (at_place g (positions_of b) v) sp ds ts
      → Turn g (at_place g (positions_of b) v)
  along ds ts is are some steps = turn_of (Leading ds) ts (is, are, some) steps

  module _ (k : ℕ) (k_is : k ≡ neutral g) (o : ℕ) (no_clash : (x : ClashCause) → ¬ (IsCause g sp x)) (least : IsLeastOpenOr g sp o) where
    -- no side is chosen at the least open or-node
    pub unchosen_at : (q : Position) → slice_get (positions_of b) v ≡ Some q → side_of q.choice o ≡ None
    unchosen_at q there =
        ap (λ (r : Position). side_of r.choice o) (only_there q there)
        ∙ ap (λ c. side_of c o) (sym at.is_spread.choice) ∙ least.is_open.is_open.unchosen

    -- a position with the first side is a new one
    pub first_new : HasNoneBelow (positions_of b) (at_place g (positions_of b) v)
        → (q : Position)
        → slice_get (positions_of b) v ≡ Some q
        → ¬ (IsMember (beside q k (with_side q.choice o Left)) (positions_of b))
    first_new fresh q there =
        let same = only_there q there in
        new_beside q k o (unchosen_at q there) ps Left (subst (HasNoneBelow ps) (sym same) fresh)

    abbrev open_turn : Turn g here
    open_turn =
        turn_of (Open o) (To (with_chosen g here o Left) ∷ To (with_chosen g here o Right) ∷ []) (no_clash, least) refl

    side_reached : (s : Side) → IsReached g (with_chosen g here o s)
    side_reached Left = by_move here (with_chosen g here o Left) open_turn reached_at (inl refl)
    side_reached Right = by_move here (with_chosen g here o Right) open_turn reached_at (inr (inl refl))

    abbrev chosen_here : Side → Position
    chosen_here s = beside (at_place g (positions_of b) v) k (with_side (at_place g (positions_of b) v).choice o s)

    neutral_there : (s : Side) → chosen_here s ≡ with_chosen g here o s
    neutral_there s = ap (λ n. beside here n (with_side here.choice o s)) k_is

    -- a side is chosen there
    pub chosen_becomes : (s : Side) (d : Pool) (w : ℕ)
        → IsNumbered limit b (beside (at_place g (positions_of b) v) k (with_side (at_place g (positions_of b) v).choice o s)) d w
        → Becomes g limit b d
    chosen_becomes s d w is =
        joined g limit b at.explores (with_chosen g here o s) (side_reached s) d w
        (subst (λ q. IsNumbered limit b q d w) (neutral_there s) is)

    pub chosen_passed : (s : Side)
        → HasNoRoom limit (positions_of b) (beside (at_place g (positions_of b) v) k (with_side (at_place g (positions_of b) v).choice o s))
        → HasMoreThan g limit
    chosen_passed s is =
        passed g limit b at.explores (with_chosen g here o s) (side_reached s)
        (subst (HasNoRoom limit ps) (neutral_there s) is)

    -- it stands where its number says
    pub chosen_stands : (s : Side) (d : Pool) (w : ℕ)
        → IsNumbered limit b (beside (at_place g (positions_of b) v) k (with_side (at_place g (positions_of b) v).choice o s)) d w
        → slice_get (positions_of d) w ≡ Some (with_chosen g (at_place g (positions_of b) v) o s)
    chosen_stands s d w is = is.added.stands ∙ ap Some (neutral_there s)

    -- and then both sides are
    pub both_recorded : (d e : Pool) (l r : ℕ)
        → IsLonger (positions_of b) (positions_of d)
        → IsLonger (positions_of d) (positions_of e)
        → slice_get (positions_of d) l ≡ Some (with_chosen g (at_place g (positions_of b) v) o Left)
        → slice_get (positions_of e) r ≡ Some (with_chosen g (at_place g (positions_of b) v) o Right)
        → IsRecorded g (positions_of e) (at_place g (positions_of b) v) (recorded.Chosen (l ∷ r ∷ []))
    both_recorded d e l r first second left right = record {
      turn = open_turn;
      owner_is = refl;
      moves_are = λ n. (
        l,
        r ∷ [],
        longer_get (positions_of d) (positions_of e) second l (with_chosen g here o Left) left,
        (r, [], right, refl, refl),
        refl,
      );
    }

-- the position is where it was, when the first side was chosen
pub still_chosen : (g : Graph) (limit : ℕ) (b d : Pool) (v : ℕ) (sp : SpreadList) (k o l : ℕ)
    → IsAt g limit b v sp
    → k ≡ neutral g
    → ((x : ClashCause) → ¬ (IsCause g sp x))
    → IsLeastOpenOr g sp o
    → ((q : Position) → slice_get (positions_of b) v ≡ Some q
    → IsNumbered limit b (beside q k (with_side q.choice o Left)) d l)
    → IsAt g limit d v sp
still_chosen g limit b d v sp k o l at k_is no_clash least first =
    still_at g limit b v sp at d
    (chosen_becomes g limit b v sp at k k_is o no_clash least Left d l
    (first (at_place g (positions_of b) v) (stands_at g limit b v sp at)))

-- and one with the second side is one then
pub second_new : (g : Graph) (limit : ℕ) (b d : Pool) (v : ℕ) (sp : SpreadList) (k o l : ℕ)
    → IsAt g limit b v sp
    → k ≡ neutral g
    → ((x : ClashCause) → ¬ (IsCause g sp x))
    → IsLeastOpenOr g sp o
    → HasNoneBelow (positions_of b) (at_place g (positions_of b) v)
    → ((q : Position) → slice_get (positions_of b) v ≡ Some q
    → IsNumbered limit b (beside q k (with_side q.choice o Left)) d l)
    → (q : Position)
    → slice_get (positions_of d) v ≡ Some q
    → ¬ (IsMember (beside q k (with_side q.choice o Right)) (positions_of d))
second_new g limit b d v sp k o l at k_is no_clash least fresh first q there =
    let here = at_place g (positions_of b) v in
    let stands = stands_at g limit b v sp at in
    let left = first here stands in
    let once = chosen_becomes g limit b v sp at k k_is o no_clash least Left d l left in
    let same : q ≡ here = sym (get_or_from_slice_get (positions_of d) v q (start_of g) there)
    ∙ longer_place g (positions_of b) (positions_of d) once.longer v at.number in
    subst (λ (p : Position). ¬ (IsMember (beside p k (with_side p.choice o Right)) (positions_of d))) (sym same)
    (other_beside here k o (unchosen_at g limit b v sp at k k_is o no_clash least here stands) (positions_of b)
    (positions_of d) l fresh left.added)

-- both sides of the least open or-node are chosen, one behind the other
pub chosen_turned : (g : Graph) (limit : ℕ) (b d e : Pool) (v : ℕ) (sp : SpreadList) (k o l r : ℕ)
    → IsAt g limit b v sp
    → k ≡ neutral g
    → ((x : ClashCause) → ¬ (IsCause g sp x))
    → IsLeastOpenOr g sp o
    → ((q : Position) → slice_get (positions_of b) v ≡ Some q
    → IsNumbered limit b (beside q k (with_side q.choice o Left)) d l)
    → ((q : Position) → slice_get (positions_of d) v ≡ Some q
    → IsNumbered limit d (beside q k (with_side q.choice o Right)) e r)
    → IsTurned g limit b v e (recorded.Chosen (l ∷ r ∷ []))
chosen_turned g limit b d e v sp k o l r at k_is no_clash least first second =
    let here = at_place g (positions_of b) v in
    let left = first here (stands_at g limit b v sp at) in
    let once = chosen_becomes g limit b v sp at k k_is o no_clash least Left d l left in
    let then_at = still_at g limit b v sp at d once in
    let there = at_place g (positions_of d) v in
    let same : there ≡ here = longer_place g (positions_of b) (positions_of d) once.longer v at.number in
    let right = second there (stands_at g limit d v sp then_at) in
    let twice = chosen_becomes g limit d v sp then_at k k_is o no_clash least Right e r right in
    record {
      becomes = record {
        explores = twice.explores;
        longer = longer_both (positions_of b) (positions_of d) (positions_of e) once.longer twice.longer;
        stored = longer_both b.positions d.positions e.positions once.stored twice.stored;
      };
      recorded = both_recorded g limit b v sp at k k_is o no_clash least d e l r once.longer twice.longer
          (chosen_stands g limit b v sp at k k_is o no_clash least Left d l left)
          (chosen_stands g limit d v sp then_at k k_is o no_clash least Right e r right
          ∙ ap (λ (p : Position). Some (with_chosen g p o Right)) same);
    }

-- ---- what is new

-- a number that is new belongs to the position that was added
pub new_place : (g : Graph) (ps qs : List Position) (p : Position) (n w : ℕ) → IsAdded ps p qs n → length ps ≤ w →
    w < length qs
    → (w ≡ n) × (at_place g qs w ≡ p)
new_place g ps qs p n w added high low = by_kind added.grown
  where
    by_place : (qs ≡ ps ++ p ∷ []) → ¬ (IsMember p ps) → (slice_get ps n ≡ Some p) ⊎ ((n ≡ length ps) × (p ≡ p))
        → (w ≡ n) × (at_place g qs w ≡ p)
    by_place whole new (inl there) = absurd (new (member_of_get ps n p there))
    by_place whole new (inr end) =
        let long = ap length whole ∙ length-append ps (p ∷ []) in
        let last = end.0 in
        let here : w ≡ n = omega arith in
        (here, ap (at_place g qs) here ∙ get_or_from_slice_get qs n p (start_of g) added.stands)

    by_kind : (qs ≡ ps) ⊎ ((qs ≡ ps ++ p ∷ []) × ¬ (IsMember p ps)) → (w ≡ n) × (at_place g qs w ≡ p)
    by_kind (inl old) = let long = ap length old in absurd (omega arith)
    by_kind (inr new) =
        by_place new.0 new.1 (last_or ps p p n (subst (λ xs. slice_get xs n ≡ Some p) new.0 added.stands))

-- only the positions with these sides are new
pub both_opened : (g : Graph) (limit : ℕ) (b d e : Pool) (v : ℕ) (sp : SpreadList) (k o l r : ℕ)
    → IsAt g limit b v sp
    → k ≡ neutral g
    → ((x : ClashCause) → ¬ (IsCause g sp x))
    → IsLeastOpenOr g sp o
    → ((q : Position) → slice_get (positions_of b) v ≡ Some q
    → IsNumbered limit b (beside q k (with_side q.choice o Left)) d l)
    → ((q : Position) → slice_get (positions_of d) v ≡ Some q
    → IsNumbered limit d (beside q k (with_side q.choice o Right)) e r)
    → IsOpened g limit b v sp e o l r
both_opened g limit b d e v sp k o l r at k_is no_clash least first second =
    let here = at_place g (positions_of b) v in
    let left = first here (stands_at g limit b v sp at) in
    let once = chosen_becomes g limit b v sp at k k_is o no_clash least Left d l left in
    let then_at = still_at g limit b v sp at d once in
    let there = at_place g (positions_of d) v in
    let same : there ≡ here = longer_place g (positions_of b) (positions_of d) once.longer v at.number in
    let right = second there (stands_at g limit d v sp then_at) in
    let twice = chosen_becomes g limit d v sp then_at k k_is o no_clash least Right e r right in
    record {
      turned = chosen_turned g limit b d e v sp k o l r at k_is no_clash least first second;
      is_open = least.is_open;
      left = longer_get (positions_of d) (positions_of e) twice.longer l (with_chosen g here o Left)
          (chosen_stands g limit b v sp at k k_is o no_clash least Left d l left);
      right = chosen_stands g limit d v sp then_at k k_is o no_clash least Right e r right
          ∙ ap (λ (p : Position). Some (with_chosen g p o Right)) same;
      only = λ w high low. by_part w high low left right (cases_lt w (length (positions_of d)));
    }
  where
    by_part : (w : ℕ) → length (positions_of b) ≤ w → w < length (positions_of e)
        → {p q : Position}
        → IsNumbered limit b p d l
        → IsNumbered limit d q e r
        → (w < length (positions_of d)) ⊎ (length (positions_of d) ≤ w)
        → (w ≡ l) ⊎ (w ≡ r)
    by_part w high low {p} {q} one two (inl early) =
        inl ((new_place g (positions_of b) (positions_of d) p l w one.added high early).0)
    by_part w high low {p} {q} one two (inr late) =
        inr ((new_place g (positions_of d) (positions_of e) q r w two.added late low).0)

-- ---- diamonds, one behind the other

-- no side is chosen behind a diamond
pub steps_unchosen : (g : Graph) (p : Position) (sp : SpreadList) (ds : List ℕ) (made : List Fresh) (x : Fresh)
    → AreSteps g p sp ds (map target_of made)
    → IsMember x made
    → (position_of x).choice ≡ []
steps_unchosen g p sp ds [] x steps none = absurd none
steps_unchosen g p sp [] (y ∷ made) x steps m = let none = ap length steps in absurd (omega arith)
steps_unchosen g p sp (d ∷ ds) (y ∷ made) x (q, others, follows, rest, is) m =
    by_place m (λ i. steps_unchosen g p sp ds made x (subst (AreSteps g p sp ds) (sym behind) rest) i)
  where
    first : position_of y ≡ q
    first = cc

    behind : map target_of made ≡ others
    behind = cc

    by_place : (x ≡ y) ⊎ IsMember x made → (IsMember x made → (position_of x).choice ≡ []) → (position_of x).choice ≡ []
    by_place (inl same) later =
        ap (λ (z : Fresh). (position_of z).choice) same ∙ ap (λ (z : Position). z.choice) first ∙ follows.unchosen
    by_place (inr i) later = later i

module _ (g : Graph) (limit : ℕ) (a : Pool) (v : ℕ) (sp : SpreadList) (at : IsAt g limit a v sp) (ds : List ℕ) (made : List Fresh)
    (resolved : IsResolved g sp) (are : ds ≡ diamonds_of g sp) (some : 0 < length ds)
    (steps : AreSteps g (at_place g (positions_of a) v) sp ds (map target_of made)) where
  abbrev led_turn : Turn g (at_place g (positions_of a) v)
  led_turn = along g limit a v sp at ds (map target_of made) resolved are some steps

  made_reached : (x : Fresh) → IsMember x made → IsReached g (position_of x)
  made_reached x m =
      by_move (at_place g (positions_of a) v) (position_of x) led_turn (reached_at g limit a v sp at)
      (member-map target_of x made m)

  among : (xs rest : List Fresh) (x : Fresh) → xs ++ x ∷ rest ≡ made → IsMember x made
  among xs rest x is = subst (IsMember x) is (member-append_right x xs (x ∷ rest) (inl refl))

  -- one of them got a number
  pub led_becomes : (xs rest : List Fresh) (x : Fresh) (b d : Pool) (w : ℕ)
      → xs ++ x ∷ rest ≡ made
      → Becomes g limit a b
      → IsNumbered limit b (position_of x) d w
      → Becomes g limit a d
  led_becomes xs rest x b d w is was numbered =
      let now = joined g limit b was.explores (position_of x) (made_reached x (among xs rest x is)) d w numbered in
      record {
        explores = now.explores;
        longer = longer_both (positions_of a) (positions_of b) (positions_of d) was.longer now.longer;
        stored = longer_both a.positions b.positions d.positions was.stored now.stored;
      }

  pub led_vertices : (xs rest : List Fresh) (x : Fresh) (b d : Pool) (vs ws : List ℕ) (w : ℕ)
      → xs ++ x ∷ rest ≡ made
      → Becomes g limit a b
      → IsNumbered limit b (position_of x) d w
      → ws ≡ vs ++ w ∷ []
      → (n : ℕ)
      → AreVerticesAt n (positions_of b) (map target_of xs) vs
      → AreVerticesAt n (positions_of d) (map target_of (xs ++ x ∷ [])) ws
  led_vertices xs rest x b d vs ws w is was numbered pushed n vertices =
      let now = joined g limit b was.explores (position_of x) (made_reached x (among xs rest x is)) d w numbered in
      subst (AreVerticesAt n (positions_of d) (map target_of (xs ++ x ∷ []))) (sym pushed)
      (subst (λ ts. AreVerticesAt n (positions_of d) ts (vs ++ w ∷ [])) (sym (map_push target_of xs x))
      (vertices_more n (positions_of d) (map target_of xs) vs (target_of x) w
      (vertices_later n (positions_of b) (positions_of d) now.longer (map target_of xs) vs vertices)
      numbered.added.stands))

  -- no side is chosen at it
  pub led_unchosen : (xs rest : List Fresh) (x : Fresh) (b d : Pool) (w : ℕ)
      → xs ++ x ∷ rest ≡ made
      → Becomes g limit a b
      → IsNumbered limit b (position_of x) d w
      → AddsUnchosen g (positions_of a) b
      → AddsUnchosen g (positions_of a) d
  led_unchosen xs rest x b d w is was numbered before = λ k high low. new_at k high low
      (cases_lt k (length (positions_of b)))
    where
      longer : IsLonger (positions_of b) (positions_of d)
      longer = (joined g limit b was.explores (position_of x) (made_reached x (among xs rest x is)) d w numbered).longer

      new_at : (k : ℕ) → length (positions_of a) ≤ k → k < length (positions_of d)
          → (k < length (positions_of b)) ⊎ (length (positions_of b) ≤ k)
          → (at_place g (positions_of d) k).choice ≡ []
      new_at k high low (inl early) =
          ap (λ (p : Position). p.choice) (longer_place g (positions_of b) (positions_of d) longer k early) ∙
          before k high early
      new_at k high low (inr late) =
          let new = new_place g (positions_of b) (positions_of d) (position_of x) w k numbered.added late low in
          ap (λ (p : Position). p.choice) new.1
          ∙ steps_unchosen g (at_place g (positions_of a) v) sp ds made x steps (among xs rest x is)

  -- one of them found no room
  pub led_passed : (xs rest : List Fresh) (x : Fresh) (b : Pool)
      → xs ++ x ∷ rest ≡ made
      → Becomes g limit a b
      → HasNoRoom limit (positions_of b) (position_of x)
      → HasMoreThan g limit
  led_passed xs rest x b is was full =
      passed g limit b was.explores (position_of x) (made_reached x (among xs rest x is)) full

  -- all of them got numbers
  pub all_led : (xs : List Fresh) (b : Pool) (vs : Vec ℕ)
      → xs ≡ made
      → Becomes g limit a b
      → ((n : ℕ) → AreVerticesAt n (positions_of b) (map target_of xs) vs.items)
      → AddsUnchosen g (positions_of a) b
      → IsLed g limit a v b vs
  all_led xs b vs is was vertices none = record {
    becomes = was;
    unchosen = none;
    recorded = record {
      turn = led_turn;
      owner_is = refl;
      moves_are = λ n. subst (λ ts. AreVerticesAt n (positions_of b) ts vs.items) (ap (map target_of) is) (vertices n);
    };
  }
