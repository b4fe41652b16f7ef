-- The iterates that U and R mean, told by what walks meet.
--
-- Along a function `next` on places, the k-th iterate of U from nowhere says that a walk meets G within its first k places,
-- with F on the way; the k-th iterate of R from everywhere that each of the first k places has G unless F was met before.
-- Among n places, n iterates say this of the whole walk.
--
--   Meets F G x          == the walk from x meets G, with F on the way
--   Met F x k            == one of the first k places of the walk from x has F
--   KeepsUp F G x k      == each of the first k places has G, unless F was met before
--   until_meets, meets_until       == U by the iterates, and by the walk
--   release_keeps, keeps_release   == R by the iterates, and by the walk
--   until_exactly, release_exactly == the same at n iterates, of the whole walk
--   until_steps, release_steps     == one iterate more is the same
--   until_maps, release_maps       == U and R of weaker properties
use Rattle.std.proofs.Common.{ℕ, zero, suc, ◌<◌, ◌≤◌, ◌⊎◌, ◌↔◌, inl, inr, arith, sym, subst, ⊎_elim}
use Rattle.std.proofs.lemmas.Bool.{cases_lt}
use Rattle.ml_lists.specs.Found.{Found}
use Rattle.ml_lists.specs.Walk.{walk}
use Rattle.ml_lists.proofs.Search.{search}
use Rattle.ml_ctl.specs.Meaning.{Nowhere, Everywhere, iterate_of, until_step, release_step}
use Rattle.ml_ctl.proofs.PlaceWalks.{walk-shift, Early, early}

module _ (next : ℕ → ℕ) (F G : ℕ → Type 0) where
  abbrev pub Meets : ℕ → Type 0
  Meets x = (j : ℕ) × G (walk next x j) × ((h : ℕ) → h < j → F (walk next x h))

  abbrev pub Met : ℕ → ℕ → Type 0
  Met x k = (h : ℕ) × (h < k) × F (walk next x h)

  abbrev pub KeepsUp : ℕ → ℕ → Type 0
  KeepsUp x k = (j : ℕ) → j < k → Met x j ⊎ G (walk next x j)

  abbrev pub untils : ℕ → ℕ → Type 0
  untils k = iterate_of k (until_step next F G) Nowhere

  abbrev pub releases : ℕ → ℕ → Type 0
  releases k = iterate_of k (release_step next F G) Everywhere

  -- ---- U

  meets_later : (x : ℕ) → F x → Meets (next x) → Meets x
  meets_later x f (j, g, before) = (suc j, subst G (walk-shift next x j) g, on_the_way)
    where
      on_the_way : (h : ℕ) → h < suc j → F (walk next x h)
      on_the_way zero low = f
      on_the_way (suc h) low = subst F (walk-shift next x h) (before h (omega arith))

  pub until_meets : (k x : ℕ) → untils k x → Meets x
  until_meets zero x none = absurd none
  until_meets (suc k) x (inl g) = (0, g, λ h low. absurd (omega arith))
  until_meets (suc k) x (inr (f, later)) = meets_later x f (until_meets k (next x) later)

  pub meets_until : (k x j : ℕ) → j < k → G (walk next x j) → ((h : ℕ) → h < j → F (walk next x h)) → untils k x
  meets_until zero x j low g before = absurd (omega arith)
  meets_until (suc k) x zero low g before = inl g
  meets_until (suc k) x (suc j) low g before =
      inr (
        before 0 (omega arith),
        meets_until k (next x) j (omega arith) (subst G (sym (walk-shift next x j)) g)
            (λ h under. subst F (sym (walk-shift next x h)) (before (suc h) (omega arith))),
      )

  -- ---- R

  met_later : (x j : ℕ) → Met (next x) j ⊎ G (walk next (next x) j) → Met x (suc j) ⊎ G (walk next x (suc j))
  met_later x j (inl (h, low, f)) = inl (suc h, (omega (arith, low)), subst F (walk-shift next x h) f)
  met_later x j (inr g) = inr (subst G (walk-shift next x j) g)

  keeps_later : (k x : ℕ) → G x → F x ⊎ KeepsUp (next x) k → KeepsUp x (suc k)
  keeps_later k x g rest zero low = inr g
  keeps_later k x g (inl f) (suc j) low = inl (0, (omega arith), f)
  keeps_later k x g (inr up) (suc j) low = met_later x j (up j (omega arith))

  pub release_keeps : (k x : ℕ) → releases k x → KeepsUp x k
  release_keeps zero x all = λ j low. absurd (omega arith)
  release_keeps (suc k) x (g, rest) =
      keeps_later k x g
      (⊎_elim (λ (f : F x). inl f) (λ (later : releases k (next x)). inr (release_keeps k (next x) later)) rest)

  met_at_once : (x j : ℕ) → Met x (suc j) ⊎ G (walk next x (suc j)) → F x ⊎ (Met (next x) j ⊎ G (walk next (next x) j))
  met_at_once x j (inl (zero, low, f)) = inl f
  met_at_once x j (inl (suc h, low, f)) = inr (inl (h, (omega (arith, low)), subst F (sym (walk-shift next x h)) f))
  met_at_once x j (inr g) = inr (inr (subst G (sym (walk-shift next x j)) g))

  keeps_next : (k x : ℕ) → KeepsUp x (suc k) → F x ⊎ KeepsUp (next x) k
  keeps_next k x up = from (search (λ j. F x) Later decide k)
    where
      Later : ℕ → Type 0
      Later j = j < k → Met (next x) j ⊎ G (walk next (next x) j)

      widen : (j : ℕ) → F x ⊎ (Met (next x) j ⊎ G (walk next (next x) j)) → F x ⊎ Later j
      widen j (inl f) = inl f
      widen j (inr later) = inr (λ low. later)

      decide : (j : ℕ) → F x ⊎ Later j
      decide j =
          ⊎_elim (λ (low : j < k). widen j (met_at_once x j (up (suc j) (omega arith))))
          (λ (past : k ≤ j). inr (λ low. absurd (omega arith))) (cases_lt j k)

      from : Found (λ j. F x) k ⊎ ((j : ℕ) → j < k → Later j) → F x ⊎ KeepsUp (next x) k
      from (inl found) = inl found.holds
      from (inr all) = inr (λ j low. all j low low)

  at_first : (x : ℕ) → Met x 0 ⊎ G x → G x
  at_first x (inl (h, low, f)) = absurd (omega (arith, low))
  at_first x (inr g) = g

  pub keeps_release : (k x : ℕ) → KeepsUp x k → releases k x
  keeps_release zero x up = tt
  keeps_release (suc k) x up = (
    at_first x (up 0 (omega arith)),
    ⊎_elim (λ (f : F x). inl f) (λ (later : KeepsUp (next x) k). inr (keeps_release k (next x) later)) (keeps_next k x up),
  )

  -- ---- among n places

  module _ (n : ℕ) (closed : (y : ℕ) → y < n → next y < n) (x : ℕ) (low : x < n) where
    meets_soon : (k : ℕ) → n ≤ k → Meets x → untils k x
    meets_soon k room (j, g, before) = from (early next n closed x low j)
      where
        from : Early next n x j → untils k x
        from e =
            meets_until k x e.place (omega (arith, e.low)) (subst G (sym e.same) g)
            (λ h under. before h (omega (arith, e.before)))

    pub until_exactly : untils n x ↔ Meets x
    until_exactly = (until_meets n x, meets_soon n (omega arith))

    pub until_steps : untils n x ↔ untils (suc n) x
    until_steps =
        ((λ u. meets_soon (suc n) (omega arith) (until_meets n x u)), (λ u. meets_soon n (omega arith) (until_meets (suc n) x u)))

    keeps_on : releases n x → (j : ℕ) → Met x j ⊎ G (walk next x j)
    keeps_on r j = from (early next n closed x low j)
      where
        from : Early next n x j → Met x j ⊎ G (walk next x j)
        from e =
            ⊎_elim (λ (met : Met x e.place). inl (met.0, (omega (arith, met.1, e.before)), met.2))
            (λ (g : G (walk next x e.place)). inr (subst G e.same g)) (release_keeps n x r e.place e.low)

    pub release_exactly : releases n x ↔ ((j : ℕ) → Met x j ⊎ G (walk next x j))
    release_exactly = (keeps_on, (λ all. keeps_release n x (λ j under. all j)))

    pub release_steps : releases n x ↔ releases (suc n) x
    release_steps = (
      (λ r. keeps_release (suc n) x (λ j under. keeps_on r j)),
      (λ r. keeps_release n x (λ j under. release_keeps (suc n) x r j (omega arith))),
    )

-- ---- weaker properties

pub until_maps : (next : ℕ → ℕ) (F G P Q : ℕ → Type 0)
    → ((x : ℕ) → F x → P x)
    → ((x : ℕ) → G x → Q x)
    → (k x : ℕ)
    → untils next F G k x
    → untils next P Q k x
until_maps next F G P Q f g zero x none = absurd none
until_maps next F G P Q f g (suc k) x (inl here) = inl (g x here)
until_maps next F G P Q f g (suc k) x (inr (on, later)) = inr (f x on, until_maps next F G P Q f g k (next x) later)

pub release_maps : (next : ℕ → ℕ) (F G P Q : ℕ → Type 0)
    → ((x : ℕ) → F x → P x)
    → ((x : ℕ) → G x → Q x)
    → (k x : ℕ)
    → releases next F G k x
    → releases next P Q k x
release_maps next F G P Q f g zero x all = tt
release_maps next F G P Q f g (suc k) x (here, rest) = (
  g x here,
  ⊎_elim (λ (on : F x). inl (f x on)) (λ (later : releases next F G k (next x)). inr (release_maps next F G P Q f g k (next x) later)) rest,
)
