-- The set at which a player wins a binder's vertices is the least one that contains what it makes.
--
-- That it contains what it makes is a comparison of two games. That it is the least: let U contain what it makes, and
-- let the player win a binder's vertex at a state that isn't in U. The opponent wins, with the verdicts of U, at the body
-- of each state that isn't in U. Both play together, the player by the strategy of the game, the opponent by the one of
-- the game with verdicts, and at a binder's vertex they go on to the body. All vertices of that play are won by the
-- opponent in the game with verdicts, so each binder's vertex that it meets is at a state that isn't in U. Its loop meets
-- one for ever, and recurring is bad for the player; or it meets none, and is a play of the game with verdicts, which the
-- opponent wins.
--
--   Standing at n v    == v is the binder's vertex at a state below n, or at none
--   standing           == each vertex is one or the other
--   contains_made, within_closed  == the two halves
--   binder_is_least    == both
use Rattle.std.proofs.Common.{ℕ, ◌≡◌, ◌≢◌, ◌+◌, ◌<◌, ◌↔◌, ◌⊎◌, Bool, true, false, inl, inr, ⊎_elim, if◌then◌else◌, List, [], ◌∷◌, length, get_or, Contains, arith, subst, sym, ap, ◌∙◌, refl}
use Rattle.std.proofs.lemmas.Bool.{cases_eq, cases_Bool, false≢true}
use Rattle.ml_lists.specs.Lasso.{Lasso, entry, round}
use Rattle.ml_lists.specs.Found.{Found}
use Rattle.ml_lists.proofs.Search.{search}
use Rattle.ml_lists.proofs.Lasso.{round-entry, on_loop, loop_length, loop_closed, lasso_of, lasso_of-length, lasso_of-entry, lasso_of-round, lasso_of_is, lowest_on_loop_place, lowest_on_loop_le}
use Rattle.ml_lists.proofs.Walks.{WalkLasso, walk_lasso}
use Rattle.ml_parity.specs.declared.players.Player.{Player}
use Rattle.ml_parity.specs.Player.{opponent, side}
use Rattle.ml_parity.specs.Game.{ParityGame, HasMove, owner_of, priority_of, size}
use Rattle.ml_parity.specs.Winner.{IsPlay, Follows, winner, Wins}
use Rattle.ml_parity.proofs.Boards.{first_move, winner_is}
use Rattle.ml_parity.proofs.Carried.{IsCarried, IsRegion, straight, carried}
use Rattle.ml_parity.proofs.OneStep.{own_vertex_won, other_vertex_won}
use Rattle.ml_parity.proofs.Opponents.{cases_player, opponent-opponent, no_own_opponent}
use Rattle.ml_parity.proofs.SingleMoves.{single_move, sink_won}
use Rattle.ml_parity.proofs.Winners.{Winners, winners, won, together, together-own, together-other}
use Rattle.ml_mu_graph.specs.Binders.{IsSinkOf, Binder, HasVerdicts, MakesWithin, IsLeast, BinderIsLeast}

abbrev AtNone : (ℕ → ℕ) → ℕ → ℕ → Type 0
AtNone at n v = (s : ℕ) → s < n → at s ≢ v

abbrev Standing : (ℕ → ℕ) → ℕ → ℕ → Type 0
Standing at n v = Found (λ s. at s ≡ v) n ⊎ AtNone at n v

standing : (at : ℕ → ℕ) (n v : ℕ) → Standing at n v
standing at n v = search (λ s. at s ≡ v) (λ s. at s ≢ v) (λ s. cases_eq (at s) v) n

told_yes : (b : Bool) (x y : ℕ) → b ≡ true → (if b then x else y) ≡ x
told_yes b x y is = ap (λ c. if c then x else y) is

told_no : (b : Bool) (x y : ℕ) → b ≡ false → (if b then x else y) ≡ y
told_no b x y is = ap (λ c. if c then x else y) is

module _ (g : ParityGame) (p : Player) (R : ℕ → Type 0) (n : ℕ) (at body : ℕ → ℕ) (ours theirs : ℕ) (b : Binder g p R n at body ours theirs) where
  low : (s : ℕ) → s < n → at s < size g
  low s small = b.below (at s) (b.inside s small)

  -- the move from a binder's vertex
  to_body : (s : ℕ) → s < n → HasMove g (at s) (body s)
  to_body s small =
      let first = first_move g b.is_game (at s) (low s small) in
      subst (HasMove g (at s)) (b.leads s small _ first) first

  body_inside : (s : ℕ) → s < n → R (body s)
  body_inside s small = b.closed (at s) (body s) (b.inside s small) (to_body s small)

  -- who wins the body wins the binder's vertex
  from_body : (s : ℕ) → s < n → Wins g p (body s) → Wins g p (at s)
  from_body s small wins =
      ⊎_elim
      (λ (own : owner_of g (at s) ≡ p). (own_vertex_won g b.is_game p (at s) (low s small) own).1
      (record { to = body s; move = to_body s small; wins = wins }))
      (λ (own : owner_of g (at s) ≡ opponent p). (other_vertex_won g b.is_game p (at s) (low s small) own).1
      (λ w move. subst (Wins g p) (sym (b.leads s small w move)) wins))
      (cases_player (owner_of g (at s)) p)

  module _ (h : ParityGame) (U : ℕ → Bool) (v : HasVerdicts g h R n at ours theirs U) where
    low_h : (x : ℕ) → R x → x < size h
    low_h x r = subst (λ k. x < k) (sym v.sizes) (b.below x r)

    -- a sink of the game is one with verdicts too
    sink_is : (q : Player) (x : ℕ) → IsSinkOf g q R n at x → (r : Player) → Wins h r x ↔ (r ≡ q)
    sink_is q x is r =
        let same : side (priority_of h x) ≡ q = ap side (v.priorities x is.inside) ∙ is.good in
        let there = sink_won h v.is_game r x (low_h x is.inside) (v.others x is.inside is.apart ∙ is.stays) in
        (λ w. there.0 w ∙ same, λ e. there.1 (e ∙ sym same))

    -- at a state of U, p wins the binder's vertex, and at no other one
    told_won : (s : ℕ) → s < n → U s ≡ true → Wins h p (at s)
    told_won s small is =
        let one = v.told s small ∙ ap (λ w. w ∷ []) (told_yes (U s) ours theirs is) in
        (single_move h v.is_game p (at s) ours (low_h (at s) (b.inside s small)) one).1 ((sink_is p ours b.ours_is p).1 refl)

    told_lost : (s : ℕ) → s < n → U s ≡ false → Wins h p (at s) → ⊥
    told_lost s small is wins =
        let one = v.told s small ∙ ap (λ w. w ∷ []) (told_no (U s) ours theirs is) in
        no_own_opponent p
        ((sink_is (opponent p) theirs b.theirs_is p).0
        ((single_move h v.is_game p (at s) theirs (low_h (at s) (b.inside s small)) one).0 wins))

    -- ---- it contains what it makes

    pub contains_made : ((s : ℕ) → s < n → (U s ≡ true) ↔ Wins g p (at s)) → MakesWithin h p n body U
    contains_made is s small wins =
        (is s small).1
        (from_body s small
        (carried h g v.is_game b.is_game (λ x. x) (λ q. q) 0 straight R region p better (body s)
        (body_inside s small) wins))
      where
        region : IsRegion h g (λ x. x) R
        region = record { low = low_h; image_low = b.below }

        known : (x : ℕ) → Found (λ t. at t ≡ x) n → Wins h p x → Wins g p x
        known x f w = subst (Wins g p) f.holds ((is f.place f.below).0
            (⊎_elim
            (λ (e : U f.place ≡ true). e)
            (λ (e : U f.place ≡ false). absurd (told_lost f.place f.below e (subst (Wins h p) (sym f.holds) w)))
            (cases_Bool (U f.place))))

        from_h : (x : ℕ) → R x → AtNone at n x → (y : ℕ) → HasMove h x y → HasMove g x y
        from_h x r none y move = subst (λ (xs : List ℕ). Contains xs y) (v.others x r none) move

        better : (x : ℕ) → R x → (Wins h p x → Wins g p x) ⊎ IsCarried h g (λ y. y) (λ q. q) 0 R p x
        better x r = ⊎_elim
            (λ (f : Found (λ t. at t ≡ x) n). inl (known x f))
            (λ (none : AtNone at n x). inr (record {
              owner = sym (v.owners x r none);
              priority = omega (arith, v.priorities x r);
              own = λ o y move. from_h x r none y move;
              other = λ o z move. record { to = z; move = subst (λ (xs : List ℕ). Contains xs z) (sym (v.others x r none)) move; is = refl };
              inside = λ y move. b.closed x y r (from_h x r none y move);
            }))
            (standing at n x)

    -- ---- it is within each set that contains what it makes

    -- a vertex of the region that the opponent wins with verdicts
    abbrev Theirs : Winners h → ℕ → Type 0
    Theirs w x = (R x) × (w.win x ≡ opponent p)

    -- a binder's vertex that the opponent wins is at a state outside U
    outside : (w : Winners h) (s : ℕ) → s < n → w.win (at s) ≡ opponent p → U s ≡ false
    outside w s small lost =
        ⊎_elim
        (λ (e : U s ≡ true). absurd (no_own_opponent p (sym (w.only (at s) p (low_h (at s) (b.inside s small)) (told_won s small e)) ∙ lost)))
        (λ (e : U s ≡ false). e)
        (cases_Bool (U s))

    -- so the opponent wins the body there
    body_lost : MakesWithin h p n body U → (w : Winners h) (s : ℕ) → s < n → U s ≡ false → w.win (body s) ≡ opponent p
    body_lost closed w s small is =
        ⊎_elim
        (λ (e : w.win (body s) ≡ p). absurd (false≢true (sym is ∙ closed s small (won h w p (body s) (low_h (body s) (body_inside s small)) e))))
        (λ (e : w.win (body s) ≡ opponent p). e)
        (cases_player (w.win (body s)) p)

    module _ (closed : MakesWithin h p n body U) (w : Winners h) (sigma : ℕ → ℕ)
        (moves : (x : ℕ) → R x → owner_of g x ≡ p → HasMove g x (sigma x)) where
      -- both together, and from a binder's vertex to the body
      abbrev next_by : (x : ℕ) → Standing at n x → ℕ
      next_by x (inl f) = body f.place
      next_by x (inr none) = together g p sigma w.choice x

      abbrev next : ℕ → ℕ
      next x = next_by x (standing at n x)

      move_by : (x : ℕ) (d : Standing at n x) → R x → HasMove g x (next_by x d)
      move_by x (inl f) r = subst (λ y. HasMove g y (body f.place)) f.holds (to_body f.place f.below)
      move_by x (inr none) r = ⊎_elim
          (λ (own : owner_of g x ≡ p). subst (HasMove g x) (sym (together-own g p sigma w.choice x own)) (moves x r own))
          (λ (own : owner_of g x ≡ opponent p). subst (HasMove g x) (sym (together-other g p sigma w.choice x own))
          (subst (λ (xs : List ℕ). Contains xs (w.choice x)) (v.others x r none) (w.moves x (low_h x r))))
          (cases_player (owner_of g x) p)

      win_by : (x : ℕ) (d : Standing at n x) → R x → w.win x ≡ opponent p → w.win (next_by x d) ≡ opponent p
      win_by x (inl f) r lost = body_lost closed w f.place f.below (outside w f.place f.below (ap w.win f.holds ∙ lost))
      win_by x (inr none) r lost = ⊎_elim
          (λ (own : owner_of g x ≡ p).
          let free = (w.keeps x (low_h x r)).other (v.owners x r none ∙ own ∙ sym (opponent-opponent p) ∙ ap opponent (sym lost)) in
          let step = subst (λ (xs : List ℕ). Contains xs (sigma x)) (sym (v.others x r none)) (moves x r own) in
          ap w.win (together-own g p sigma w.choice x own) ∙ free (sigma x) step ∙ lost)
          (λ (own : owner_of g x ≡ opponent p).
          ap w.win (together-other g p sigma w.choice x own) ∙ ((w.keeps x (low_h x r)).own (v.owners x r none ∙ own ∙ sym lost)).wins ∙ lost)
          (cases_player (owner_of g x) p)

      follows_by : (x : ℕ) (d : Standing at n x) → R x → owner_of g x ≡ p → next_by x d ≡ sigma x
      follows_by x (inl f) r own =
          sym (b.leads f.place f.below (sigma x) (subst (λ y. HasMove g y (sigma x)) (sym f.holds) (moves x r own)))
      follows_by x (inr none) r own = together-own g p sigma w.choice x own

      -- away from binders' vertices it is a step of the game with verdicts, by the opponent's choice
      free_by : (x : ℕ) (d : Standing at n x) → R x → AtNone at n x
          → HasMove h x (next_by x d) × (owner_of h x ≡ opponent p → next_by x d ≡ w.choice x)
      free_by x (inl f) r none = absurd (none f.place f.below f.holds)
      free_by x (inr other_none) r none = (
        subst (λ (xs : List ℕ). Contains xs (together g p sigma w.choice x)) (sym (v.others x r none)) (move_by x (inr other_none) r),
        λ own. together-other g p sigma w.choice x (sym (v.owners x r none) ∙ own),
      )

      keeps : (x : ℕ) → Theirs w x → Theirs w (next x)
      keeps x mine = (b.closed x _ mine.0 (move_by x (standing at n x) mine.0), win_by x (standing at n x) mine.0 mine.1)

      module _ (first : ℕ) (starts : Theirs w first)
          (wins : (l : Lasso) → IsPlay g l → entry l 0 ≡ first → Follows g p sigma l → winner g l ≡ p) where
        made : WalkLasso next (Theirs w) first
        made = walk_lasso next (Theirs w) (size g) (λ x mine. b.below x mine.0) keeps first starts

        -- the play of both, which the player wins
        both_play : (m : WalkLasso next (Theirs w) first) → IsPlay g m.lasso
        both_play m = record {
          starts = m.starts;
          joined = λ k small. let x : ℕ = get_or (round m.lasso) k 0 in
              subst (HasMove g x) (sym (m.steps k small)) (move_by x (standing at n x) (m.inside k (omega arith)).0);
        }

        won_by_p : (m : WalkLasso next (Theirs w) first) → winner g m.lasso ≡ p
        won_by_p m =
            wins m.lasso (both_play m) m.begins
            (λ k small own. let x : ℕ = get_or (round m.lasso) k 0 in
            m.steps k small ∙ follows_by x (standing at n x) (m.inside k (omega arith)).0 own)

        -- on the loop
        here : (m : WalkLasso next (Theirs w) first) (k : ℕ) → k < loop_length m.lasso → Theirs w (on_loop m.lasso k)
        here m k small = m.inside (m.lasso.start + k) (omega arith)

        step : (m : WalkLasso next (Theirs w) first) (k : ℕ)
            → k < loop_length m.lasso
            → on_loop m.lasso (k + 1) ≡ next (on_loop m.lasso k)
        step m k small =
            let e : m.lasso.start + (k + 1) ≡ (m.lasso.start + k) + 1 = omega arith in
            ap (λ j. get_or (round m.lasso) j 0) e ∙ m.steps (m.lasso.start + k) (omega arith)

        -- a loop that meets a binder's vertex is lost by the player
        meets : (m : WalkLasso next (Theirs w) first)
            → Found (λ k. Found (λ s. at s ≡ on_loop m.lasso k) n) (loop_length m.lasso)
            → ⊥
        meets m f =
            let k : ℕ = m.lasso.start + f.place in
            let within : k < length m.lasso.entries = omega (arith, f.below) in
            let found = f.holds in
            no_own_opponent p
            (sym (won_by_p m)
            ∙ b.recurs m.lasso (both_play m) k (omega arith) within found.place found.below
            (sym (round-entry m.lasso k within) ∙ sym found.holds))

        -- and one that meets none is a play of the game with verdicts, which the opponent wins
        module _ (m : WalkLasso next (Theirs w) first) (none : (k : ℕ) → k < loop_length m.lasso → AtNone at n (on_loop m.lasso k)) where
          abbrev c : ℕ → ℕ
          c = on_loop m.lasso

          abbrev long : ℕ
          long = loop_length m.lasso

          abbrev loop : Lasso
          loop = lasso_of c 0 long

          some : 0 < long
          some = omega (arith, m.starts)

          closes : c 0 ≡ c long
          closes = sym (loop_closed m.lasso m.starts)

          free : (k : ℕ)
              → k < long
              → HasMove h (c k) (c (k + 1)) × (owner_of h (c k) ≡ opponent p → c (k + 1) ≡ w.choice (c k))
          free k small =
              let d = free_by (c k) (standing at n (c k)) (here m k small).0 (none k small) in
              (subst (HasMove h (c k)) (sym (step m k small)) d.0, λ own. step m k small ∙ d.1 own)

          loop_play : IsPlay h loop
          loop_play = lasso_of_is (HasMove h) c 0 long some closes (λ k small. (free k small).0)

          loop_follows : Follows h (opponent p) w.choice loop
          loop_follows k small own =
              let in_loop : k < long = omega (arith, small, lasso_of-length c 0 long) in
              let at_k = lasso_of-round c 0 long k some closes (omega arith) in
              let at_next = lasso_of-round c 0 long (k + 1) some closes (omega arith) in
              at_next ∙ (free k in_loop).1 (subst (λ x. owner_of h x ≡ opponent p) at_k own) ∙ ap w.choice (sym at_k)

          loop_lost : winner h loop ≡ opponent p
          loop_lost =
              let zeroth = here m 0 some in
              (subst (λ q. (l : Lasso) → IsPlay h l → entry l 0 ≡ c 0 → Follows h q w.choice l → winner h l ≡ q)
              zeroth.1 (w.wins (c 0) (low_h (c 0) zeroth.0)))
              loop loop_play (lasso_of-entry c 0 long 0 some) loop_follows

          same_at : (k : ℕ) → k < long → priority_of h (entry loop k) ≡ priority_of g (c k)
          same_at k small = ap (priority_of h) (lasso_of-entry c 0 long k small) ∙ v.priorities (c k) (here m k small).0

          lost : winner g m.lasso ≡ opponent p
          lost =
              let lowest = lowest_on_loop_place (priority_of h) loop (omega (arith, some, lasso_of-length c 0 long)) in
              let small : lowest.place < long = omega (arith, lowest.below, lasso_of-length c 0 long) in
              winner_is g m.lasso (opponent p) m.starts (record {
                place = lowest.place;
                below = small;
                least =
                    λ j below. let other =
                    lowest_on_loop_le (priority_of h) loop j (omega arith)
                    (omega (arith, below, lasso_of-length c 0 long))
                    in
                    omega (arith, other, lowest.holds, same_at lowest.place small, same_at j below);
                right = ap side (sym (same_at lowest.place small) ∙ lowest.holds) ∙ loop_lost;
              })

        never : ⊥
        never =
            ⊎_elim
            (λ (f : Found (λ k. Found (λ s. at s ≡ on_loop made.lasso k) n) (loop_length made.lasso)). meets made f)
            (λ (none : (k : ℕ) → k < loop_length made.lasso → AtNone at n (on_loop made.lasso k)).
            no_own_opponent p (sym (won_by_p made) ∙ lost made none))
            (search (λ k. Found (λ s. at s ≡ on_loop made.lasso k) n) (λ k. AtNone at n (on_loop made.lasso k))
            (λ k. standing at n (on_loop made.lasso k)) (loop_length made.lasso))

    pub within_closed : MakesWithin h p n body U → (s : ℕ) → s < n → Wins g p (at s) → U s ≡ true
    within_closed closed s small a =
        ⊎_elim
        (λ (e : U s ≡ true). e)
        (λ (e : U s ≡ false).
        let w = winners h v.is_game in
        let lost : w.win (at s) ≡ opponent p =
        ⊎_elim
        (λ (mine : w.win (at s) ≡ p). absurd (told_lost s small e (won h w p (at s) (low_h (at s) (b.inside s small)) mine)))
        (λ (other : w.win (at s) ≡ opponent p). other)
        (cases_player (w.win (at s)) p)
        in absurd (never closed w a.strategy (λ x r own. a.is_strategy x (b.below x r) own) (at s) (b.inside s small, lost) a.wins))
        (cases_Bool (U s))

-- the same of any region, decided or not
pub least_of : (g : ParityGame) (p : Player) (R : ℕ → Type 0) (n : ℕ) (at body : ℕ → ℕ) (ours theirs : ℕ)
    → Binder g p R n at body ours theirs → IsLeast g p R n at body ours theirs
least_of g p R n at body ours theirs b = record {
  contains = λ W h is v. contains_made g p R n at body ours theirs b h W v is;
  within = λ U h v closed. within_closed g p R n at body ours theirs b h U v closed;
}

pub binder_is_least : BinderIsLeast
binder_is_least g p R n at body ours theirs b = least_of g p (λ v. R v ≡ true) n at body ours theirs b
