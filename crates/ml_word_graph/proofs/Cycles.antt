-- Who wins a loop of a play that follows the choice of a player from a good vertex: that player.
--
-- A loop at an occurrence of F, G, U, R or W goes round its nodes from state to state. Where something has to come about for
-- the value that the player has, it comes about at some state of the loop, and there the player leaves it: so there is no such
-- loop. On each other loop the priorities are the player's: that of `Now` is 1 where Odd is the player, and all are 2 where
-- Even is.
--
--   round              == a loop at an operator is at it again at the next state, and nothing came about here
--   never              == there is no such loop where something has to come about
--   loop_won           == each loop is won by the player
--   player_wins        == so the player wins from each good vertex
use Rattle.std.proofs.Common.{◌≡◌, ℕ, zero, suc, ◌+◌, ◌-◌, ◌<◌, ◌≤◌, ◌⊎◌, Bool, true, false, not, List}
use Rattle.std.proofs.Common.{if◌then◌else◌, length, get_or, inl, inr, refl, sym, ap, subst, ◌∙◌, ⊎_elim, arith}
use Rattle.std.proofs.lemmas.Bool.{cases_Bool, false≢true}
use Rattle.ml_lists.specs.Lasso.{Lasso, entry, round}
use Rattle.ml_lists.specs.Walk.{walk}
use Rattle.ml_lists.proofs.Lasso.{round-entry, on_loop, loop_length, lowest_on_loop_is, lowest_on_loop_place, on_loop-entry}
use Rattle.ml_base.specs.Structure.{Structure}
use Rattle.ml_parity.specs.declared.players.Player.TheVariants.{Even}
use Rattle.ml_parity.specs.Game.{priority_of}
use Rattle.ml_parity.specs.Player.{side}
use Rattle.ml_parity.specs.Winner.{IsPlay, Follows, Wins, winner}
use Rattle.ml_graph.specs.Graph.{Graph, IsGraph}
use Rattle.ml_graph.specs.CheckingGame.{Vertex, Pair, Sink, checking_game, vertex_number}
use Rattle.ml_graph.proofs.CheckingGame.{priority_is}
use Rattle.ml_ctl.specs.Formula.{Formula, Const, Prop, Not, Binary, Temporal, Paired, Quantified}
use Rattle.ml_ctl.specs.declared.term.Tense.TheVariants as tense
use Rattle.ml_ctl.specs.declared.term.Pairing.{Pairing}
use Rattle.ml_ctl.specs.declared.term.Pairing.TheVariants as pairing
use Rattle.ml_word_graph.specs.Problem.{IsAdmitted}
use Rattle.ml_word_graph.specs.WordGraph as word
use Rattle.ml_word_graph.specs.WordGraph.{Place, Form, Root, Total, HasEdge, LeadsOn, True, Now, Later, Rest, Both, Neither}
use Rattle.ml_word_graph.specs.WordGraph.{IsNumberedBy, all_of, form_of, is_eventual, right_at}
use Rattle.ml_word_graph.proofs.StateValues.{comes_about, exit_of, is_cycle, is_least, next, value}
use Rattle.ml_word_graph.proofs.NodeValues.{node_value, signed}
use Rattle.ml_word_graph.proofs.Levels.{IsLinear, Stays, level, some_occurrence}
use Rattle.ml_word_graph.proofs.Moves.{Good, good_pair, good_sink, good_vertex, number_linear, own_form, player_of, state_behind, verdict}
use Rattle.ml_word_graph.proofs.Plays.{At, OnAt, is_strategy, loop_good, on_left, on_stay, strategy}

abbrev one_or_two : Bool → ℕ
one_or_two c = if c then 1 else 2

one_own : (sign : Bool) (l r : Place) → all_of (not sign) l r ≡ own_form (signed sign true) l r
one_own true l r = refl
one_own false l r = refl

all_own : (sign : Bool) (l r : Place) → all_of sign l r ≡ own_form (signed sign false) l r
all_own true l r = refl
all_own false l r = refl

-- something has to come about where the priority is 1, if Even is the player, and where it is 2, if Odd is
eventual_sides : (f : Formula) (sign : Bool) → is_eventual f sign ≡ true → (is_cycle f ≡ true) × (signed sign (is_least f) ≡ true)
eventual_sides (Const b) sign e = absurd (false≢true e)
eventual_sides (Prop p) sign e = absurd (false≢true e)
eventual_sides (Not f) sign e = absurd (false≢true e)
eventual_sides (Binary op f g) sign e = absurd (false≢true e)
eventual_sides (Quantified q f) sign e = absurd (false≢true e)
eventual_sides (Temporal tense.Next f) sign e = absurd (false≢true e)
eventual_sides (Temporal tense.Finally f) true e = (refl, refl)
eventual_sides (Temporal tense.Finally f) false e = absurd (false≢true e)
eventual_sides (Temporal tense.Globally f) true e = absurd (false≢true e)
eventual_sides (Temporal tense.Globally f) false e = (refl, refl)
eventual_sides (Paired pairing.Until f g) true e = (refl, refl)
eventual_sides (Paired pairing.Until f g) false e = absurd (false≢true e)
eventual_sides (Paired pairing.Release f g) true e = absurd (false≢true e)
eventual_sides (Paired pairing.Release f g) false e = (refl, refl)
eventual_sides (Paired pairing.Weak f g) true e = absurd (false≢true e)
eventual_sides (Paired pairing.Weak f g) false e = (refl, refl)

other_sides : (f : Formula) (sign : Bool) → is_cycle f ≡ true → is_eventual f sign ≡ false → signed sign (is_least f) ≡ false
other_sides (Const b) sign c e = absurd (false≢true c)
other_sides (Prop p) sign c e = absurd (false≢true c)
other_sides (Not f) sign c e = absurd (false≢true c)
other_sides (Binary op f g) sign c e = absurd (false≢true c)
other_sides (Quantified q f) sign c e = absurd (false≢true c)
other_sides (Temporal tense.Next f) sign c e = absurd (false≢true c)
other_sides (Temporal tense.Finally f) true c e = absurd (false≢true (sym e))
other_sides (Temporal tense.Finally f) false c e = refl
other_sides (Temporal tense.Globally f) true c e = refl
other_sides (Temporal tense.Globally f) false c e = absurd (false≢true (sym e))
other_sides (Paired pairing.Until f g) true c e = absurd (false≢true (sym e))
other_sides (Paired pairing.Until f g) false c e = refl
other_sides (Paired pairing.Release f g) true c e = refl
other_sides (Paired pairing.Release f g) false c e = absurd (false≢true (sym e))
other_sides (Paired pairing.Weak f g) true c e = refl
other_sides (Paired pairing.Weak f g) false c e = absurd (false≢true (sym e))

same_signed : (sign x y b : Bool) → signed sign x ≡ b → signed sign y ≡ b → x ≡ y
same_signed true x y b e d = e ∙ sym d
same_signed false true true b e d = refl
same_signed false true false b e d = d ∙ sym e
same_signed false false true b e d = d ∙ sym e
same_signed false false false b e d = refl

module _ (g : Graph) (m : Structure) (ok : IsAdmitted m) (root : Place) (places : List Place) (nb : IsNumberedBy g root places)
    (linear : IsLinear root) (g_ok : IsGraph g) (b : Bool) where
  module _ (l : Lasso) (play : IsPlay (checking_game g m) l)
      (follows : Follows (checking_game g m) (player_of b) (strategy g m ok root places nb linear g_ok b) l)
      (first : At g m ok root places nb linear g_ok b l play follows (get_or (round l) 0 0)) where
    abbrev On : ℕ → Place → Type 0
    On s p = OnAt g m ok root places nb linear g_ok b l play follows first s p

    abbrev behind : Form → ℕ → ℕ
    behind f s = state_behind g m ok root places nb linear f s

    abbrev v : Formula → ℕ → Bool
    v f s = value m ok f s

    -- the loop goes on to the one node that stays
    stay_to : (s t : ℕ) (p q : Place) → On s p → ((c : Place) → Stays p c → c ≡ q) → behind (form_of p) s ≡ t → On t q
    stay_to s t p q o only same =
        let st = on_stay g m ok root places nb linear g_ok b l play follows first s p o in
        subst (λ x. On x q) same (subst (On (behind (form_of p) s)) (only st.child st.stays) st.on)

    left_bad : (s : ℕ) (p x y : Place) → On s p → form_of p ≡ own_form b x y → level x < level p → node_value m ok x s ≡ b → ⊥
    left_bad s p x y o form less is = on_left g m ok root places nb linear g_ok b l play follows first s p x y o form less is

    all_stays : (c : Bool) (x y : Place) (s : ℕ) → behind (all_of c x y) s ≡ s
    all_stays true x y s = refl
    all_stays false x y s = refl

    from_later : (s i : ℕ) (f : Formula) (sign : Bool) → On s (Later i f sign) → On (next m ok s) (Now i f sign)
    from_later s i f sign o = stay_to s (next m ok s) (Later i f sign) (Now i f sign) o (λ c is. is) refl

    to_rest : (s i : ℕ) (p : Pairing) (f h : Formula) (sign : Bool) → On s (Now i (Paired p f h) sign) → On s (Rest i p f h sign)
    to_rest s i pairing.Until f h sign o =
        stay_to s s (Now i (Paired pairing.Until f h) sign) (Rest i pairing.Until f h sign) o (λ c is. is) (all_stays (not sign) _ _ s)
    to_rest s i pairing.Weak f h sign o =
        stay_to s s (Now i (Paired pairing.Weak f h) sign) (Rest i pairing.Weak f h sign) o (λ c is. is) (all_stays (not sign) _ _ s)
    to_rest s i pairing.Release f h sign o =
        stay_to s s (Now i (Paired pairing.Release f h) sign) (Rest i pairing.Release f h sign) o (λ c is. is) (all_stays sign _ _ s)

    from_rest : (s i : ℕ) (p : Pairing) (f h : Formula) (sign : Bool) → On s (Rest i p f h sign) → On s (Later i (Paired p f h) sign)
    from_rest s i pairing.Until f h sign o =
        stay_to s s (Rest i pairing.Until f h sign) (Later i (Paired pairing.Until f h) sign) o (λ c is. is) (all_stays sign _ _ s)
    from_rest s i pairing.Weak f h sign o =
        stay_to s s (Rest i pairing.Weak f h sign) (Later i (Paired pairing.Weak f h) sign) o (λ c is. is) (all_stays sign _ _ s)
    from_rest s i pairing.Release f h sign o =
        stay_to s s (Rest i pairing.Release f h sign) (Later i (Paired pairing.Release f h) sign) o (λ c is. is) (all_stays (not sign) _ _ s)

    -- ---- where something has to come about

    abbrev Round : ℕ → ℕ → Formula → Bool → Type 0
    Round s i f sign = On (next m ok s) (Now i f sign) × (v (exit_of f) s ≡ is_least f → ⊥)

    pub round_on : (s i : ℕ) (f : Formula) (sign : Bool) → is_cycle f ≡ true → signed sign (is_least f) ≡ b → On s (Now i f sign)
        → Round s i f sign
    round_on s i (Const c) sign cycle sides o = absurd (false≢true cycle)
    round_on s i (Prop p) sign cycle sides o = absurd (false≢true cycle)
    round_on s i (Not f) sign cycle sides o = absurd (false≢true cycle)
    round_on s i (Binary op f h) sign cycle sides o = absurd (false≢true cycle)
    round_on s i (Quantified q f) sign cycle sides o = absurd (false≢true cycle)
    round_on s i (Temporal tense.Next f) sign cycle sides o = absurd (false≢true cycle)
    round_on s i (Temporal tense.Finally f) sign cycle sides o =
        let w : Formula = Temporal tense.Finally f in
        let x : Place = Now (i + 1) f sign in (
          from_later s i w sign (stay_to s s (Now i w sign) (Later i w sign) o (λ c is. is) (all_stays (not sign) x (Later i w sign) s)),
          λ is. left_bad s (Now i w sign) x (Later i w sign) o
              (one_own sign x (Later i w sign) ∙ ap (λ c. own_form c x (Later i w sign)) sides) (omega arith) (ap (signed sign) is ∙ sides),
        )
    round_on s i (Temporal tense.Globally f) sign cycle sides o =
        let w : Formula = Temporal tense.Globally f in
        let x : Place = Now (i + 1) f sign in (
          from_later s i w sign (stay_to s s (Now i w sign) (Later i w sign) o (λ c is. is) (all_stays sign x (Later i w sign) s)),
          λ is. left_bad s (Now i w sign) x (Later i w sign) o
              (all_own sign x (Later i w sign) ∙ ap (λ c. own_form c x (Later i w sign)) sides) (omega arith) (ap (signed sign) is ∙ sides),
        )
    round_on s i (Paired pairing.Until f h) sign cycle sides o =
        let w : Formula = Paired pairing.Until f h in
        let x : Place = Now (right_at (i + 1) f) h sign in
        let y : Place = Rest i pairing.Until f h sign in
        let some = some_occurrence f in (
          from_later s i w sign (from_rest s i pairing.Until f h sign (to_rest s i pairing.Until f h sign o)),
          λ is. left_bad s (Now i w sign) x y o (one_own sign x y ∙ ap (λ c. own_form c x y) sides) (omega arith) (ap (signed sign) is ∙ sides),
        )
    round_on s i (Paired pairing.Release f h) sign cycle sides o =
        let w : Formula = Paired pairing.Release f h in
        let x : Place = Now (right_at (i + 1) f) h sign in
        let y : Place = Rest i pairing.Release f h sign in
        let some = some_occurrence f in (
          from_later s i w sign (from_rest s i pairing.Release f h sign (to_rest s i pairing.Release f h sign o)),
          λ is. left_bad s (Now i w sign) x y o (all_own sign x y ∙ ap (λ c. own_form c x y) sides) (omega arith) (ap (signed sign) is ∙ sides),
        )
    round_on s i (Paired pairing.Weak f h) sign cycle sides o =
        let w : Formula = Paired pairing.Weak f h in
        let x : Place = Now (i + 1) f sign in
        let y : Place = Later i w sign in
        let rest = to_rest s i pairing.Weak f h sign o in (
          from_later s i w sign (from_rest s i pairing.Weak f h sign rest),
          λ is. left_bad s (Rest i pairing.Weak f h sign) x y rest (all_own sign x y ∙ ap (λ c. own_form c x y) sides) (omega arith)
              (ap (signed sign) is ∙ sides),
        )

    pub never : (s i : ℕ) (f : Formula) (sign : Bool) → is_cycle f ≡ true → signed sign (is_least f) ≡ b → On s (Now i f sign) → ⊥
    never s i f sign cycle sides o =
        let f_linear = number_linear g m ok root places nb linear o.node (Now i f sign) o.is_number in
        let some = comes_about m ok s o.low f f_linear cycle (same_signed sign (v f s) (is_least f) b o.value sides) in
        (round_on (walk (next m ok) s some.0) i f sign cycle sides (along some.0)).1 some.1
      where
        along : (k : ℕ) → On (walk (next m ok) s k) (Now i f sign)
        along zero = o
        along (suc k) = (round_on (walk (next m ok) s k) i f sign cycle sides (along k)).0

    -- ---- priorities

    abbrev Pr : ℕ → ℕ
    Pr k = priority_of (checking_game g m) (on_loop l k)

    pair_priority : (s : ℕ) (p : Place) (o : On s p) → Pr o.place ≡ word.priority_of p
    pair_priority s p o =
        ap (priority_of (checking_game g m)) o.at
        ∙ priority_is g m (Pair s o.node) (good_vertex g m ok root places nb linear b (Pair s o.node) (good_pair s o.node p o.low o.is_number o.value))
        ∙ nb.has_priorities o.node p o.is_number

    sink_priority : (k p : ℕ) → p ≡ verdict b → on_loop l k ≡ vertex_number g m (Sink p) → Pr k ≡ verdict b
    sink_priority k p is at =
        ap (priority_of (checking_game g m)) at
        ∙ priority_is g m (Sink p) (good_vertex g m ok root places nb linear b (Sink p) (good_sink p is))
        ∙ is

    -- what stands at a place of the loop: a good sink, or a good pair
    record Stands (k : ℕ) : Type 0 where
      pub state : ℕ
      pub place : Place
      pub on : On state place
      pub there : on.place ≡ k

    stands : (k : ℕ) → k < loop_length l → (Pr k ≡ verdict b) ⊎ Stands k
    stands k low =
        let a = loop_good g m ok root places nb linear g_ok b l play follows first k (omega (arith, low)) in
        by_vertex a.vertex a.good a.is
      where
        by_vertex : (u : Vertex) → Good g m ok root places nb linear b u → on_loop l k ≡ vertex_number g m u → (Pr k ≡ verdict b) ⊎ Stands k
        by_vertex u (good_pair s n p s_low is val) at = inr (record {
          state = s;
          place = p;
          on = record { node = n; is_number = is; low = s_low; value = val; place = k; place_low = low; at = at };
          there = refl;
        })
        by_vertex u (good_sink p is) at = inl (sink_priority k p is at)

    priority_cases : (f : Formula) (sign : Bool) (c : Bool) → is_eventual f sign ≡ c
        → one_or_two (is_eventual f sign) ≡ one_or_two c
    priority_cases f sign c e = ap one_or_two e

    -- ---- Even

    even_at : b ≡ true → (s : ℕ) (p : Place) → On s p → word.priority_of p ≡ 2
    even_at even s (Root p) o = refl
    even_at even s Total o = refl
    even_at even s HasEdge o = refl
    even_at even s LeadsOn o = refl
    even_at even s True o = refl
    even_at even s (Now i f sign) o =
        ⊎_elim (λ (e : is_eventual f sign ≡ true).
        let sides = eventual_sides f sign e in
        absurd (never s i f sign sides.0 (sides.1 ∙ sym even) o))
        (λ (e : is_eventual f sign ≡ false). priority_cases f sign false e) (cases_Bool (is_eventual f sign))
    even_at even s (Later i f sign) o = refl
    even_at even s (Rest i p f h sign) o = refl
    even_at even s (Both i f h sign) o = refl
    even_at even s (Neither i f h sign) o = refl

    even_priority : b ≡ true → (k : ℕ) → k < loop_length l → side (Pr k) ≡ Even
    even_priority even k low =
        ⊎_elim (λ (sink : Pr k ≡ verdict b). ap side (sink ∙ ap verdict even))
        (λ (st : Stands k). ap side (ap Pr (sym st.there) ∙ pair_priority st.state st.place st.on ∙ even_at even st.state st.place st.on))
        (stands k low)

    -- ---- Odd

    record Lowest : Type 0 where
      pub place : ℕ
      pub low : place < loop_length l
      pub is : Pr place ≡ 1

    true_false : (c : Bool) → c ≡ false → true ≡ c → ⊥
    true_false c odd e = false≢true (sym (e ∙ odd))

    leaves_none : (s : ℕ) (p : Place) → On s p → ((q : Place) → Stays p q → ⊥) → Lowest
    leaves_none s p o none =
        let st = on_stay g m ok root places nb linear g_ok b l play follows first s p o in absurd (none st.child st.stays)

    odd_now : b ≡ false → (s i : ℕ) (f : Formula) (sign : Bool) → is_cycle f ≡ true → On s (Now i f sign) → Lowest
    odd_now odd s i f sign cycle o =
        ⊎_elim (λ (e : is_eventual f sign ≡ true).
        record { place = o.place; low = o.place_low; is = pair_priority s (Now i f sign) o ∙ priority_cases f sign true e })
        (λ (e : is_eventual f sign ≡ false). absurd (never s i f sign cycle (other_sides f sign cycle e ∙ sym odd) o))
        (cases_Bool (is_eventual f sign))

    odd_formula : b ≡ false → (s i : ℕ) (f : Formula) (sign : Bool) → On s (Now i f sign) → Lowest
    odd_formula odd s i (Const c) sign o = leaves_none s (Now i (Const c) sign) o (λ q h. h)
    odd_formula odd s i (Prop p) sign o = leaves_none s (Now i (Prop p) sign) o (λ q h. h)
    odd_formula odd s i (Not f) sign o = leaves_none s (Now i (Not f) sign) o (λ q h. h)
    odd_formula odd s i (Binary op f h) sign o = leaves_none s (Now i (Binary op f h) sign) o (λ q none. none)
    odd_formula odd s i (Quantified k f) sign o = leaves_none s (Now i (Quantified k f) sign) o (λ q h. h)
    odd_formula odd s i (Temporal tense.Next f) sign o = leaves_none s (Now i (Temporal tense.Next f) sign) o (λ q h. h)
    odd_formula odd s i (Temporal tense.Finally f) sign o = odd_now odd s i (Temporal tense.Finally f) sign refl o
    odd_formula odd s i (Temporal tense.Globally f) sign o = odd_now odd s i (Temporal tense.Globally f) sign refl o
    odd_formula odd s i (Paired p f h) sign o = odd_now odd s i (Paired p f h) sign refl o

    odd_at : b ≡ false → (s : ℕ) (p : Place) → On s p → Lowest
    odd_at odd s (Root p) o = leaves_none s (Root p) o (λ q h. h)
    odd_at odd s Total o = absurd (true_false b odd o.value)
    odd_at odd s HasEdge o = absurd (true_false b odd o.value)
    odd_at odd s LeadsOn o = absurd (true_false b odd o.value)
    odd_at odd s True o = absurd (true_false b odd o.value)
    odd_at odd s (Now i f sign) o = odd_formula odd s i f sign o
    odd_at odd s (Later i f sign) o = odd_formula odd (next m ok s) i f sign (from_later s i f sign o)
    odd_at odd s (Rest i p f h sign) o =
        odd_formula odd (next m ok s) i (Paired p f h) sign (from_later s i (Paired p f h) sign (from_rest s i p f h sign o))
    odd_at odd s (Both i f h sign) o = leaves_none s (Both i f h sign) o (λ q none. none)
    odd_at odd s (Neither i f h sign) o = leaves_none s (Neither i f h sign) o (λ q none. none)

    some_priority : (p : Place) → 1 ≤ word.priority_of p
    some_priority (Root p) = omega arith
    some_priority Total = omega arith
    some_priority HasEdge = omega arith
    some_priority LeadsOn = omega arith
    some_priority True = omega arith
    some_priority (Now i f sign) = by_test (is_eventual f sign)
      where
        by_test : (c : Bool) → 1 ≤ one_or_two c
        by_test true = omega arith
        by_test false = omega arith
    some_priority (Later i f sign) = omega arith
    some_priority (Rest i p f h sign) = omega arith
    some_priority (Both i f h sign) = omega arith
    some_priority (Neither i f h sign) = omega arith

    odd_least : b ≡ false → (k : ℕ) → k < loop_length l → 1 ≤ Pr k
    odd_least odd k low =
        ⊎_elim (λ (sink : Pr k ≡ verdict b). let is = ap verdict odd in omega (arith, sink, is))
        (λ (st : Stands k). omega (arith, ap Pr (sym st.there) ∙ pair_priority st.state st.place st.on, some_priority st.place))
        (stands k low)

    odd_lowest : b ≡ false → Lowest
    odd_lowest odd =
        ⊎_elim
        (λ (sink : Pr 0 ≡ verdict b). record { place = 0; low = some; is = sink ∙ ap verdict odd })
        (λ (st : Stands 0). odd_at odd st.state st.place st.on) (stands 0 some)
      where
        some : 0 < loop_length l
        some = omega (arith, play.starts)

    -- ---- the loop

    pub loop_won : winner (checking_game g m) l ≡ player_of b
    loop_won = by_player b refl
      where
        by_player : (c : Bool) → b ≡ c → winner (checking_game g m) l ≡ player_of c
        by_player true even =
            let p = lowest_on_loop_place (priority_of (checking_game g m)) l play.starts in
            ap side (sym p.holds ∙ ap (priority_of (checking_game g m)) (sym (on_loop-entry l p.place p.later p.below)))
            ∙ even_priority even (p.place - l.start) (omega (arith, p.later, p.below))
        by_player false odd =
            let p = odd_lowest odd in
            let i : ℕ = l.start + p.place in
            let i_low : i < length l.entries = omega (arith, p.low) in
            let is : priority_of (checking_game g m) (entry l i) ≡ 1 =
            ap (priority_of (checking_game g m)) (sym (round-entry l i i_low)) ∙ p.is in
            ap side (lowest_on_loop_is (priority_of (checking_game g m)) l i (omega arith) i_low
            (λ j late low.
            let least = odd_least odd (j - l.start) (omega (arith, late, low)) in
            let same = ap (priority_of (checking_game g m)) (on_loop-entry l j late low) in
            omega (arith, is, least, same)) ∙ is)

  pub player_wins : (u : Vertex) → Good g m ok root places nb linear b u → Wins (checking_game g m) (player_of b) (vertex_number g m u)
  player_wins u good = record {
    strategy = strategy g m ok root places nb linear g_ok b;
    is_strategy = is_strategy g m ok root places nb linear g_ok b;
    wins = λ l play begins follows.
        loop_won l play follows
        (record { vertex = u; is = round-entry l 0 (omega (arith, play.starts)) ∙ begins; good = good });
  }
