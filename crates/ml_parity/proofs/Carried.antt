-- Winners are carried from one game to another.
--
-- A map takes the vertices of a region of a game g to vertices of a game h. The games may have the same players, or
-- exchanged ones with priorities that are raised by one: both are one notion, how players are turned. At a vertex of the
-- region the map carries p's part if p keeps each move, the opponent gets no new one, and all moves stay in the region.
-- If at each vertex of the region that is so, or p's winning there is known to be carried (at the vertices by which plays
-- leave the region), then what p wins in g is won by the turned player in h. Otherwise p, by g, and the other player, by
-- h, would together make a play of g whose image is one of h, and both would win.
--
--   Turning turn raise   == players are turned as their priorities are when they are raised
--   straight, exchanged  == nothing is turned; players are exchanged and priorities raised by one
--   IsCarried            == at x the map carries p's part, and the moves stay in the region
--   carried              == what p wins in g, the turned player wins in h
--   IsCopied             == at x the map carries both players' parts
--   copied               == what either player wins in g, exactly that the turned one wins in h
use Rattle.std.proofs.Common.{ℕ, ◌≡◌, ◌+◌, ◌<◌, ◌%◌, ◌⊎◌, inl, inr, ⊎_elim, true, false, cond, eqb, List, [], ◌∷◌, length, get_or, map, ◌↔◌, arith, subst, sym, ap, ◌∙◌, refl}
use Rattle.std.proofs.lemmas.List.{length-map}
use Rattle.std.proofs.lemmas.Bool.{cases_Bool, cond-true, cond-false, eqb-true, eqb-false}
use Rattle.std.proofs.lemmas.Bool.Decides.{nat_tests}
use Rattle.ml_lists.specs.Lasso.{entry, round, lowest_on_loop}
use Rattle.ml_lists.specs.Member.{IsMember}
use Rattle.ml_lists.proofs.Lasso.{round-entry}
use Rattle.ml_lists.proofs.MappedLasso.{mapped, mapped-entry, mapped-round, mapped_is, mapped-lowest}
use Rattle.ml_lists.proofs.Members.{member_of_contains, contains_of_member}
use Rattle.ml_lists.proofs.Walks.{WalkLasso, walk_lasso}
use Rattle.ml_parity.specs.declared.players.Player.{Player}
use Rattle.ml_parity.specs.declared.players.Player.TheVariants.{Even, Odd}
use Rattle.ml_parity.specs.Player.{opponent, side}
use Rattle.ml_parity.specs.Game.{ParityGame, IsGame, HasMove, owner_of, priority_of, moves_of, size}
use Rattle.ml_parity.specs.Winner.{IsPlay, winner, Wins}
use Rattle.ml_parity.specs.private.Sinks.{Holds}
use Rattle.ml_parity.specs.private.SinkGame.{board_of}
use Rattle.ml_parity.proofs.Opponents.{cases_player, opponent-opponent, not_both, no_own_opponent}
use Rattle.ml_parity.proofs.Winners.{Winners, winners, won, won_by_either, clash, together, together-own, together-other}

-- ---- how players are turned

-- players are turned as the players of priorities are when these are raised
pub record Turning (turn : Player → Player) (raise : ℕ) : Type 0 where
  pub opponents : (p : Player) → turn (opponent p) ≡ opponent (turn p)
  pub sides : (n : ℕ) → side (n + raise) ≡ turn (side n)

-- nothing is turned
pub straight : Turning (λ p. p) 0
straight = record { opponents = λ p. refl; sides = λ n. let same : n + 0 ≡ n = omega arith in ap side same }

-- raising by one exchanges the players of priorities
side-raised : (n : ℕ) → side (n + 1) ≡ opponent (side n)
side-raised n = ⊎_elim
    (λ (even : eqb (n % 2) 0 ≡ true).
    let is : n % 2 ≡ 0 = eqb-true (n % 2) 0 even in
    let other : eqb ((n + 1) % 2) 0 ≡ false = let odd : (n + 1) % 2 ≡ 1 = omega arith in grind (arith, nat_tests) in
    cond-false (eqb ((n + 1) % 2) 0) Even Odd other ∙ ap opponent (sym (cond-true (eqb (n % 2) 0) Even Odd even)))
    (λ (odd : eqb (n % 2) 0 ≡ false).
    let is : n % 2 ≡ 0 → ⊥ = eqb-false (n % 2) 0 odd in
    let other : eqb ((n + 1) % 2) 0 ≡ true = let even : (n + 1) % 2 ≡ 0 = omega arith in grind (arith, nat_tests) in
    cond-true (eqb ((n + 1) % 2) 0) Even Odd other ∙ ap opponent (sym (cond-false (eqb (n % 2) 0) Even Odd odd)))
    (cases_Bool (eqb (n % 2) 0))

-- players are exchanged, and priorities raised by one
pub exchanged : Turning opponent 1
exchanged = record { opponents = λ p. refl; sides = side-raised }

-- ---- a move whose image is known

-- the first entry whose image is z
pick : (ℕ → ℕ) → List ℕ → ℕ → ℕ
pick f [] z = 0
pick f (y ∷ ys) z = cond (eqb (f y) z) y (pick f ys z)

-- what is picked from a list that has such an entry
record Picked (f : ℕ → ℕ) (ys : List ℕ) (z : ℕ) : Type 0 where
  pub is : f (pick f ys z) ≡ z
  pub member : IsMember (pick f ys z) ys

picked : (f : ℕ → ℕ) (ys : List ℕ) (z y : ℕ) → IsMember y ys → f y ≡ z → Picked f ys z
unfolding pick
picked f [] z y m is = absurd m
picked f (x ∷ xs) z y m is = by_test (cases_Bool (eqb (f x) z)) (λ (later : IsMember y xs). picked f xs z y later is)
  where
    by_test : (eqb (f x) z ≡ true) ⊎ (eqb (f x) z ≡ false) → (IsMember y xs → Picked f xs z) → Picked f (x ∷ xs) z
    by_test (inl t) rest =
        let first = cond-true (eqb (f x) z) x (pick f xs z) t in
        record {
          is = ap f first ∙ eqb-true (f x) z t;
          member = subst (λ w. IsMember w (x ∷ xs)) (sym first) (inl refl);
        }
    by_test (inr t) rest = of_rest
        (rest (⊎_elim (λ (e : y ≡ x). absurd (eqb-false (f x) z t (ap f (sym e) ∙ is)))
        (λ (later : IsMember y xs). later) m))
      where
        of_rest : Picked f xs z → Picked f (x ∷ xs) z
        of_rest r =
            let later = cond-false (eqb (f x) z) x (pick f xs z) t in
            record {
              is = ap f later ∙ r.is;
              member = subst (λ w. IsMember w (x ∷ xs)) (sym later) (inr r.member);
            }

-- ---- carrying

-- a move of g from x, whose image is z
pub record MoveTo (g : ParityGame) (f : ℕ → ℕ) (x z : ℕ) : Type 0 where
  pub to : ℕ
  pub move : HasMove g x to
  pub is : f to ≡ z

-- at x the map f carries p's part: p keeps each move, the opponent gets no new one, and the moves stay in the region R
pub record IsCarried (g h : ParityGame) (f : ℕ → ℕ) (turn : Player → Player) (raise : ℕ) (R : ℕ → Type 0) (p : Player)
    (x : ℕ) : Type 0 where
  pub owner : owner_of h (f x) ≡ turn (owner_of g x)
  pub priority : priority_of h (f x) ≡ priority_of g x + raise
  pub own : owner_of g x ≡ p → (y : ℕ) → HasMove g x y → HasMove h (f x) (f y)
  pub other : owner_of g x ≡ opponent p → (z : ℕ) → HasMove h (f x) z → MoveTo g f x z
  pub inside : (y : ℕ) → HasMove g x y → R y

-- the vertices of a region, in g and by the map in h
pub record IsRegion (g h : ParityGame) (f : ℕ → ℕ) (R : ℕ → Type 0) : Type 0 where
  pub low : (x : ℕ) → R x → x < size g
  pub image_low : (x : ℕ) → R x → f x < size h

module _ (g h : ParityGame) (g_ok : IsGame g) (h_ok : IsGame h) (f : ℕ → ℕ) (turn : Player → Player) (raise : ℕ)
    (turning : Turning turn raise) (R : ℕ → Type 0) (region : IsRegion g h f R) (p : Player)
    (better : (x : ℕ) → R x → (Wins g p x → Wins h (turn p) (f x)) ⊎ IsCarried g h f turn raise R p x) where
  wg : Winners g
  wg = winners g g_ok

  wh : Winners h
  wh = winners h h_ok

  -- a vertex of the region that p wins in g, and whose image the other player wins in h
  record Disputed (x : ℕ) : Type 0 where
    pub inside : R x
    pub in_g : wg.win x ≡ p
    pub in_h : wh.win (f x) ≡ opponent (turn p)

  -- the move whose image is the choice in h
  back : ℕ → ℕ
  back x = pick f (moves_of g x) (wh.choice (f x))

  -- p plays as in g, and the opponent as in h
  next : ℕ → ℕ
  next = together g p wg.choice back

  -- what comes next is a move of g with an image in h, to another such vertex
  record Goes (x : ℕ) : Type 0 where
    pub move_g : HasMove g x (next x)
    pub move_h : HasMove h (f x) (f (next x))
    pub by_g : owner_of g x ≡ p → next x ≡ wg.choice x
    pub by_h : owner_of h (f x) ≡ opponent (turn p) → f (next x) ≡ wh.choice (f x)
    pub priority : priority_of h (f x) ≡ priority_of g x + raise
    pub again : Disputed (next x)

  is_carried : (x : ℕ) → Disputed x → IsCarried g h f turn raise R p x
  is_carried x d = ⊎_elim
      (λ (known : Wins g p x → Wins h (turn p) (f x)).
      absurd (not_both (wh.win (f x)) (turn p)
      (wh.only (f x) (turn p) (region.image_low x d.inside) (known (won g wg p x (region.low x d.inside) d.in_g)))
      d.in_h))
      (λ (c : IsCarried g h f turn raise R p x). c)
      (better x d.inside)

  goes : (x : ℕ) → Disputed x → Goes x
  unfolding next back
  goes x d = by_owner (cases_player (owner_of g x) p)
    where
      c : IsCarried g h f turn raise R p x
      c = is_carried x d

      keeps_g : Holds (board_of g) wg.win p (wg.choice x) x
      keeps_g = subst (λ q. Holds (board_of g) wg.win q (wg.choice x) x) d.in_g (wg.keeps x (region.low x d.inside))

      keeps_h : Holds (board_of h) wh.win (opponent (turn p)) (wh.choice (f x)) (f x)
      keeps_h = subst (λ q. Holds (board_of h) wh.win q (wh.choice (f x)) (f x)) d.in_h
          (wh.keeps (f x) (region.image_low x d.inside))

      by_owner : (owner_of g x ≡ p) ⊎ (owner_of g x ≡ opponent p) → Goes x
      by_owner (inl own) =
          let good = keeps_g.own own in
          let mh = c.own own (wg.choice x) good.move in
          let own_h : owner_of h (f x) ≡ turn p = c.owner ∙ ap turn own in
          let lost = keeps_h.other (own_h ∙ sym (opponent-opponent (turn p))) (f (wg.choice x)) mh in
          let is = together-own g p wg.choice back x own in
          record {
            move_g = subst (HasMove g x) (sym is) good.move;
            move_h = subst (λ y. HasMove h (f x) (f y)) (sym is) mh;
            by_g = λ o. is;
            by_h = λ o. absurd (not_both (owner_of h (f x)) (turn p) own_h o);
            priority = c.priority;
            again = subst Disputed (sym is)
                (record { inside = c.inside (wg.choice x) good.move; in_g = good.wins; in_h = lost });
          }
      by_owner (inr own) =
          let own_h : owner_of h (f x) ≡ opponent (turn p) = c.owner ∙ ap turn own ∙ turning.opponents p in
          let good = keeps_h.own own_h in
          let m = c.other own (wh.choice (f x)) good.move in
          let found = picked f (moves_of g x) (wh.choice (f x)) m.to (member_of_contains m.to (moves_of g x) m.move)
          m.is in
          let mg : HasMove g x (back x) = contains_of_member (back x) (moves_of g x) found.member in
          let is = together-other g p wg.choice back x own in
          let image : f (back x) ≡ wh.choice (f x) = found.is in
          record {
            move_g = subst (HasMove g x) (sym is) mg;
            move_h = subst (λ y. HasMove h (f x) (f y)) (sym is) (subst (HasMove h (f x)) (sym image) good.move);
            by_g = λ o. absurd (not_both (owner_of g x) p o own);
            by_h = λ o. ap f is ∙ image;
            priority = c.priority;
            again = subst Disputed (sym is) (record {
              inside = c.inside (back x) mg;
              in_g = keeps_g.other own (back x) mg;
              in_h = ap wh.win image ∙ good.wins;
            });
          }

  -- no vertex is disputed
  none_disputed : (v : ℕ) → Disputed v → ⊥
  none_disputed v d = from (walk_lasso next Disputed (size g) (λ x e. region.low x e.inside) (λ x e. (goes x e).again) v
      d)
    where
      from : WalkLasso next Disputed v → ⊥
      from l =
          let at : ℕ → ℕ = λ k. get_or (round l.lasso) k 0 in
          let here : (k : ℕ) → k < length l.lasso.entries → Goes (at k) =
          λ k below. goes (at k) (l.inside k (omega arith)) in
          let image : (k : ℕ) → k < length l.lasso.entries + 1 → get_or (round (mapped f l.lasso)) k 0 ≡ f (at k) =
          λ k below. mapped-round f l.lasso l.starts k (omega arith) in
          let play_g : IsPlay g l.lasso = record {
            starts = l.starts;
            joined = λ k below. subst (HasMove g (at k)) (sym (l.steps k below)) (here k below).move_g;
          } in
          let play_h : IsPlay h (mapped f l.lasso) =
          mapped_is f l.lasso l.starts (HasMove h)
          (λ k below. subst (λ y. HasMove h (f (at k)) (f y)) (sym (l.steps k below)) (here k below).move_h) in
          let for_p : winner g l.lasso ≡ p =
          subst (λ q. winner g l.lasso ≡ q) d.in_g
          (wg.wins v (region.low v d.inside) l.lasso play_g l.begins
          (λ k below own. l.steps k below ∙ (here k below).by_g (own ∙ d.in_g))) in
          let begins : entry (mapped f l.lasso) 0 ≡ f v = mapped-entry f l.lasso l.starts 0 (omega (arith, l.starts))
          ∙ ap f l.begins in
          let follows : (k : ℕ) → k < length (map f l.lasso.entries)
          → owner_of h (get_or (round (mapped f l.lasso)) k 0) ≡ wh.win (f v)
          → get_or (round (mapped f l.lasso)) (k + 1) 0 ≡ wh.choice (get_or (round (mapped f l.lasso)) k 0) =
          λ k low own.
          let below : k < length l.lasso.entries = omega (arith, length-map l.lasso.entries f) in
          let image_k = image k (omega arith) in
          image (k + 1) (omega arith)
          ∙ ap f (l.steps k below)
          ∙ (here k below).by_h (ap (owner_of h) (sym image_k) ∙ own ∙ d.in_h)
          ∙ ap wh.choice (sym image_k)
          in
          let for_other : winner h (mapped f l.lasso) ≡ opponent (turn p) =
          subst (λ q. winner h (mapped f l.lasso) ≡ q) d.in_h
          (wh.wins (f v) (region.image_low v d.inside) (mapped f l.lasso) play_h begins follows) in
          let same : winner h (mapped f l.lasso) ≡ turn (winner g l.lasso) =
          ap side (mapped-lowest f l.lasso l.starts (priority_of g) (priority_of h) raise
          (λ j low. subst (λ x. priority_of h (f x) ≡ priority_of g x + raise) (round-entry l.lasso j low)
          (here j low).priority)) ∙ turning.sides (lowest_on_loop (priority_of g) l.lasso) in
          no_own_opponent (turn p) (sym (same ∙ ap turn for_p) ∙ for_other)

  -- what p wins in g, the turned player wins in h
  pub carried : (v : ℕ) → R v → Wins g p v → Wins h (turn p) (f v)
  carried v inside a = ⊎_elim
      (λ (mine : wh.win (f v) ≡ turn p). won h wh (turn p) (f v) (region.image_low v inside) mine)
      (λ (lost : wh.win (f v) ≡ opponent (turn p)).
      absurd (none_disputed v
      (record { inside = inside; in_g = wg.only v p (region.low v inside) a; in_h = lost })))
      (cases_player (wh.win (f v)) (turn p))

-- ---- both players

-- at x the map carries both players' parts: its image has the images of its moves, and no others
pub record IsCopied (g h : ParityGame) (f : ℕ → ℕ) (turn : Player → Player) (raise : ℕ) (R : ℕ → Type 0) (x : ℕ) : Type
    0 where
  pub owner : owner_of h (f x) ≡ turn (owner_of g x)
  pub priority : priority_of h (f x) ≡ priority_of g x + raise
  pub there : (y : ℕ) → HasMove g x y → HasMove h (f x) (f y)
  pub back : (z : ℕ) → HasMove h (f x) z → MoveTo g f x z
  pub inside : (y : ℕ) → HasMove g x y → R y

module _ (g h : ParityGame) (g_ok : IsGame g) (h_ok : IsGame h) (f : ℕ → ℕ) (turn : Player → Player) (raise : ℕ)
    (turning : Turning turn raise) (R : ℕ → Type 0) (region : IsRegion g h f R)
    (better : (x : ℕ) → R x → ((p : Player) → Wins g p x → Wins h (turn p) (f x)) ⊎ IsCopied g h f turn raise R x) where
  carries : (p : Player) (x : ℕ) → R x → (Wins g p x → Wins h (turn p) (f x)) ⊎ IsCarried g h f turn raise R p x
  carries p x inside = ⊎_elim
      (λ (known : (q : Player) → Wins g q x → Wins h (turn q) (f x)). inl (known p))
      (λ (c : IsCopied g h f turn raise R x).
      inr (record {
        owner = c.owner;
        priority = c.priority;
        own = λ o. c.there;
        other = λ o. c.back;
        inside = c.inside;
      }))
      (better x inside)

  -- what either player wins in g, exactly that the turned player wins in h
  pub copied : (p : Player) (v : ℕ) → R v → Wins g p v ↔ Wins h (turn p) (f v)
  copied p v inside = (carried g h g_ok h_ok f turn raise turning R region p (carries p) v inside, back)
    where
      back : Wins h (turn p) (f v) → Wins g p v
      back b = ⊎_elim
          (λ (mine : Wins g p v). mine)
          (λ (lost : Wins g (opponent p) v).
          let other = carried g h g_ok h_ok f turn raise turning R region (opponent p) (carries (opponent p)) v inside
          lost in
          absurd (clash h h_ok (turn p) (f v) (region.image_low v inside) b
          (subst (λ q. Wins h q (f v)) (turning.opponents p) other)))
          (won_by_either g g_ok p v (region.low v inside))
