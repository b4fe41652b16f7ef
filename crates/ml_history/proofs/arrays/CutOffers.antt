-- Flags for the names of offered stacks, and the stacks that are cut by them.
--
--   ends-is, offered-named, offered-last == the end and the names of an offered stack
--   Marked, marked_more == the flags of the names of the first offers, and of their ends
--   source_down         == they pass down along the stack of an offer's source
--   full_told           == by them a name is full
--   Through             == a stack that is cut name by name
--   stack-whole         == a stack whose last name is below all that pass stands whole
--   through-cut, through-whole_offer == what an offered stack is cut to
--   CutSoFar, cut_more  == the arrays of the first offers that are cut
use Rattle.std.proofs.Common.{ℕ, zero, suc, ◌≡◌, ◌≢◌, ◌+◌, ◌*◌, ◌<◌, ◌≤◌, ◌⊎◌, inl, inr, arith, Bool, true, false, not, ◌&&◌, ◌||◌, eqb, List, []}
use Rattle.std.proofs.Common.{◌∷◌, ◌++◌, length, get_or, take, drop, map, refl, sym, subst, ap, ◌∙◌, append_assoc, append-nil}
use Rattle.std.specs.List.{list_any}
use Rattle.std.proofs.lemmas.Bool.{cases_Bool, eqb-true, or_cases, or_left, or_right}
use Rattle.std.proofs.lemmas.List.{map-append, take_all, take_more, drop_more}
use Rattle.std.proofs.lemmas.List.Folds.{list_any-append}
use Rattle.ml_lists.specs.Ascending.{IsAscending}
use Rattle.ml_lists.specs.Member.{IsMember}
use Rattle.ml_lists.proofs.Member.{Image, place-member, member-map, member-map_from}
use Rattle.ml_trace.specs.Stack.{Item, has, ends_in}
use Rattle.ml_trace.proofs.Stacks.{ends-has, has-member, member-has}
use Rattle.ml_history.specs.declared.flat.offers.Offer.{Offer}
use Rattle.ml_history.specs.History.{IsHistory}
use Rattle.ml_history.specs.HistoryStep.{live, last_name, offered, stands, is_last, is_full, through, cut}
use Rattle.ml_history.specs.private.TreeStep.{flagged}
use Rattle.ml_history.specs.private.Arrays.{AreLaidOut}
use Rattle.ml_history.specs.private.Keys.{stack_at, offered_by}
use Rattle.ml_history.specs.private.Ways.{AreWays, PassesDown}
use Rattle.ml_history.proofs.definition.CutStacks.{through-stops, through-goes, through-whole}
use Rattle.ml_history.proofs.arrays.FlagsAlongStacks.{cut_by, drop_all, member-take, or-swap, passes_down-part, ways_down}
use Rattle.ml_history.proofs.arrays.StackLayout.{laid_none, laid_one_more}
use Rattle.ml_history.proofs.definition.NamesInUse.{live-has}
use Rattle.ml_history.proofs.definition.OfferedStacks.{last_name-ends, offered-accepting, offered-plain, offered-not_empty}

-- ---- flags

-- flags with one behind them
pub flag-append_old : (flags : List Bool) (b : Bool) (y : ℕ)
    → y < length flags
    → flagged (flags ++ b ∷ []) y ≡ flagged flags y
flag-append_old [] b y low = absurd (omega arith)
flag-append_old (f ∷ fs) b zero low = refl
flag-append_old (f ∷ fs) b (suc y) low = flag-append_old fs b y (omega arith)

pub flag-append_new : (flags : List Bool) (b : Bool) (y : ℕ) → y ≡ length flags → flagged (flags ++ b ∷ []) y ≡ b
flag-append_new [] b y is = ap (flagged (b ∷ [])) is
flag-append_new (f ∷ fs) b y is = ap (flagged ((f ∷ fs) ++ b ∷ [])) is ∙ flag-append_new fs b (length fs) refl

-- behind the last flag there is none
pub flag-beyond : (flags : List Bool) (y : ℕ) → length flags ≤ y → flagged flags y ≡ false
flag-beyond [] y high = refl
flag-beyond (f ∷ fs) zero high = absurd (omega arith)
flag-beyond (f ∷ fs) (suc y) high = flag-beyond fs y (omega arith)

-- ---- the end of an offered stack

pub ends-is : (y : ℕ) (s : List ℕ) → s ≢ [] → ends_in y s ≡ eqb (last_name s) y
ends-is y [] full = absurd (full refl)
ends-is y (x ∷ []) full = refl
ends-is y (x ∷ (z ∷ zs)) full = ends-is y (z ∷ zs) (λ e. cc)

last-append : (s : List ℕ) (n : ℕ) → last_name (s ++ n ∷ []) ≡ n
last-append [] n = refl
last-append (x ∷ []) n = refl
last-append (x ∷ (z ∷ zs)) n = last-append (z ∷ zs) n

pub offered-last : (r : ℕ) (a : Bool) (s : List ℕ) → a ≡ true → r + last_name s ≡ last_name (offered r a s)
offered-last r a s t = sym (ap last_name (offered-accepting r a s t) ∙ last-append s (r + last_name s))

pub offered-last_plain : (r : ℕ) (a : Bool) (s : List ℕ) → a ≡ false → last_name s ≡ last_name (offered r a s)
offered-last_plain r a s f = sym (ap last_name (offered-plain r a s f))

-- the names of an offered stack are those of the stack and its end
offered-named : (r : ℕ) (a : Bool) (s : List ℕ) (y : ℕ)
    → s ≢ []
    → has y (offered r a s) ≡ (has y s || eqb (last_name (offered r a s)) y)
offered-named r a s y full = by_kind (cases_Bool a)
  where
    or-none : (b c : Bool) → (b || (c || false)) ≡ (b || c)
    or-none true c = refl
    or-none false true = refl
    or-none false false = refl

    inside : (b c : Bool) → (c ≡ true → b ≡ true) → b ≡ (b || c)
    inside true c i = refl
    inside false true i = i refl
    inside false false i = refl

    by_kind : (a ≡ true) ⊎ (a ≡ false) → has y (offered r a s) ≡ (has y s || eqb (last_name (offered r a s)) y)
    by_kind (inl t) =
        ap (has y) (offered-accepting r a s t)
        ∙ list_any-append (λ z. eqb z y) s ((r + last_name s) ∷ [])
        ∙ or-none (has y s) (eqb (r + last_name s) y)
        ∙ ap (λ n. has y s || eqb n y) (offered-last r a s t)
    by_kind (inr f) =
        ap (has y) (offered-plain r a s f)
        ∙ inside (has y s) (eqb (last_name s) y) (λ e. ends-has y s (ends-is y s full ∙ e))
        ∙ ap (λ n. has y s || eqb n y) (offered-last_plain r a s f)

-- ---- marks

module _ (h : List (Item ℕ)) (history : IsHistory h) where
  source_member : (o : Offer) → o.source < length h → IsMember (get_or h o.source (record { state = 0; stack = [] })) h
  source_member o low = place-member h o.source (record { state = 0; stack = [] }) low

  pub source_full : (o : Offer) → o.source < length h → stack_at h o.source ≢ []
  source_full o low = history.not_empty (get_or h o.source (record { state = 0; stack = [] })) (source_member o low)

  pub source_ascends : (o : Offer) → o.source < length h → IsAscending (stack_at h o.source)
  source_ascends o low = history.stacks_ascend (get_or h o.source (record { state = 0; stack = [] }))
      (source_member o low)

  pub source_low : (o : Offer) → o.source < length h → (y : ℕ) → IsMember y (stack_at h o.source) → y < live h
  source_low o low y m = live-has h y (get_or h o.source (record { state = 0; stack = [] })) (source_member o low)
      (member-has y (stack_at h o.source) m)

  pub last_low : (o : Offer) → o.source < length h → last_name (stack_at h o.source) < live h
  last_low o low = source_low o low (last_name (stack_at h o.source))
      (has-member (last_name (stack_at h o.source)) (stack_at h o.source)
      (ends-has (last_name (stack_at h o.source)) (stack_at h o.source)
      (last_name-ends (stack_at h o.source) (source_full o low))))

  pub end_low : (o : Offer) → o.source < length h → last_name (offered_by h o).stack < 2 * live h
  end_low o low = by_kind (cases_Bool o.accepting)
    where
      by_kind : (o.accepting ≡ true) ⊎ (o.accepting ≡ false) → last_name (offered_by h o).stack < 2 * live h
      by_kind (inl t) = let e = offered-last (live h) o.accepting (stack_at h o.source) t in let l = last_low o low in
          omega arith
      by_kind (inr f) = let e = offered-last_plain (live h) o.accepting (stack_at h o.source) f in let l =
          last_low o low in omega arith

  join : (e n o : Bool) → (e || (n || o)) ≡ ((n || e) || o)
  join true true o = refl
  join true false o = refl
  join false true o = refl
  join false false o = refl

  -- the flags of names with those of an offered stack
  pub standing_marked : (o : Offer)
      → o.source < length h
      → (end : ℕ)
      → end ≡ last_name (offered_by h o).stack
      → (old middle new : List Bool) (s : List ℕ)
      → s ≡ stack_at h o.source
      → ((y : ℕ) → flagged middle y ≡ (has y s || flagged old y))
      → ((y : ℕ) → flagged new y ≡ (eqb end y || flagged middle y))
      → (y : ℕ) → flagged new y ≡ (has y (offered_by h o).stack || flagged old y)
  standing_marked o low end is old middle new s s_is first second y =
      second y
      ∙ ap (λ b. eqb end y || b) (first y)
      ∙ join (eqb end y) (has y s) (flagged old y)
      ∙ ap (λ b. b || flagged old y) ((λ i. has y (s_is i) || eqb (is i) y)
      ∙ sym (offered-named (live h) o.accepting (stack_at h o.source) y (source_full o low)))

  pub ends_marked : (o : Offer)
      → o.source < length h
      → (end : ℕ)
      → end ≡ last_name (offered_by h o).stack
      → (old new : List Bool)
      → ((y : ℕ) → flagged new y ≡ (eqb end y || flagged old y))
      → (y : ℕ) → flagged new y ≡ (ends_in y (offered_by h o).stack || flagged old y)
  ends_marked o low end is old new one y =
      one y
      ∙ ap (λ b. b || flagged old y)
      (ap (λ n. eqb n y) is ∙ sym (ends-is y (offered_by h o).stack
      (offered-not_empty (live h) o.accepting (stack_at h o.source) (source_full o low))))

  -- the names of a source stand in the offered stack
  pub source_part : (o : Offer)
      → o.source < length h
      → (y : ℕ)
      → IsMember y (stack_at h o.source)
      → IsMember y (offered_by h o).stack
  source_part o low y m =
      has-member y (offered_by h o).stack
      (offered-named (live h) o.accepting (stack_at h o.source) y (source_full o low)
      ∙ or_left (has y (stack_at h o.source)) (eqb (last_name (offered_by h o).stack) y)
      (member-has y (stack_at h o.source) m))

-- the flags of the names of the first k offers, and of their ends
pub record Marked (h : List (Item ℕ)) (best : List Offer) (k : ℕ) (standing ends : List Bool) : Type 0 where
  pub standing_count : length standing ≡ 2 * live h
  pub ends_count : length ends ≡ 2 * live h
  pub standing_are : (y : ℕ) → flagged standing y ≡ stands (map (offered_by h) (take k best)) y
  pub ends_are : (y : ℕ) → flagged ends y ≡ is_last (map (offered_by h) (take k best)) y

first_offers : (h : List (Item ℕ)) (best : List Offer) (k : ℕ) (d : Offer)
    → k < length best
    → map (offered_by h) (take (k + 1) best) ≡ map (offered_by h) (take k best) ++ offered_by h (get_or best k d) ∷ []
first_offers h best k d low = ap (map (offered_by h)) (take_more best k d low)
    ∙ map-append (offered_by h) (take k best) (get_or best k d ∷ [])

-- with one offer more
pub marked_more : (h : List (Item ℕ)) (best : List Offer) (k : ℕ) (d : Offer)
    (standing ends standing' ends' : List Bool)
    → k < length best
    → Marked h best k standing ends
    → length standing' ≡ 2 * live h → length ends' ≡ 2 * live h
    → ((y : ℕ) → flagged standing' y ≡ (has y (offered_by h (get_or best k d)).stack || flagged standing y))
    → ((y : ℕ) → flagged ends' y ≡ (ends_in y (offered_by h (get_or best k d)).stack || flagged ends y))
    → Marked h best (k + 1) standing' ends'
marked_more h best k d standing ends standing' ends' low m count count' more more' = record {
  standing_count = count;
  ends_count = count';
  standing_are = λ y.
      more y ∙ ap (λ b. has y (offered_by h (get_or best k d)).stack || b) (m.standing_are y)
      ∙ or-swap (has y (offered_by h (get_or best k d)).stack) (stands (map (offered_by h) (take k best)) y)
      ∙ sym (ap (λ ts. stands ts y) (first_offers h best k d low)
      ∙ list_any-append (λ (a : Item ℕ). has y a.stack) (map (offered_by h) (take k best))
      (offered_by h (get_or best k d) ∷ []));
  ends_are = λ y.
      more' y ∙ ap (λ b. ends_in y (offered_by h (get_or best k d)).stack || b) (m.ends_are y)
      ∙ or-swap (ends_in y (offered_by h (get_or best k d)).stack) (is_last (map (offered_by h) (take k best)) y)
      ∙ sym (ap (λ ts. is_last ts y) (first_offers h best k d low)
      ∙ list_any-append (λ (a : Item ℕ). ends_in y a.stack) (map (offered_by h) (take k best))
      (offered_by h (get_or best k d) ∷ []));
}

pub marked_none : (h : List (Item ℕ)) (best : List Offer) (standing ends : List Bool)
    → length standing ≡ 2 * live h
    → length ends ≡ 2 * live h
    → ((y : ℕ) → flagged standing y ≡ false) → ((y : ℕ) → flagged ends y ≡ false)
    → Marked h best 0 standing ends
marked_none h [] standing ends count count' none none' =
    record { standing_count = count; ends_count = count'; standing_are = none; ends_are = none' }
marked_none h (b ∷ bs) standing ends count count' none none' =
    record { standing_count = count; ends_count = count'; standing_are = none; ends_are = none' }

-- along the stack of an offer's source the flags pass down
pub source_down : (h : List (Item ℕ)) (best : List Offer) (k : ℕ) (d : Offer) (standing ends : List Bool)
    → IsHistory h
    → ((o : Offer) → IsMember o best → o.source < length h)
    → AreWays (map (offered_by h) best)
    → k < length best
    → Marked h best k standing ends
    → PassesDown (flagged standing) (stack_at h (get_or best k d).source)
source_down h best k d standing ends history sources ways low m =
    let o = get_or best k d in
    let member = place-member best k d low in
    let t = map (offered_by h) best in
    let down =
    ways_down t (map (offered_by h) (take k best)) (offered_by h o) ways (member-map (offered_by h) o best member)
    (λ b mb. earlier b (member-map_from (offered_by h) b (take k best) mb)) in
    passes_down-part (flagged standing) (offered_by h o).stack (stack_at h o.source)
    (source_part h history o (sources o member))
    (subst (λ test. PassesDown test (offered_by h o).stack) (λ i y. sym (m.standing_are y) i) down)
  where
    earlier : (b : Item ℕ) → Image (offered_by h) b (take k best) → IsMember b (map (offered_by h) best)
    earlier b i = subst (λ (v : Item ℕ). IsMember v (map (offered_by h) best)) (sym i.holds)
        (member-map (offered_by h) i.from best (member-take k i.from best i.member))

-- by the flags of all offers a name is full
pub full_told : (h : List (Item ℕ)) (best : List Offer) (k : ℕ) (standing ends full : List Bool)
    → length best ≤ k
    → Marked h best k standing ends
    → ((y : ℕ) → flagged full y ≡ (flagged standing y && not (flagged ends y)))
    → (y : ℕ) → flagged full y ≡ is_full (map (offered_by h) best) y
full_told h best k standing ends full all m is y =
    is y ∙ (λ i. m.standing_are y i && not (m.ends_are y i))
    ∙ ap (λ bs. is_full (map (offered_by h) bs) y) (take_all k best all)

-- ---- cuts

-- the names `names` behind `old` are a beginning of the cut stack, of which the rest of the stack will give the rest
pub record Through (test : ℕ → Bool) (s : List ℕ) (i : ℕ) (old names : List ℕ) : Type 0 where
  pub rest : names ++ through test (drop i s) ≡ old ++ through test s
  pub any : list_any test (drop i s) ≡ list_any test s

pub through_first : (test : ℕ → Bool) (s old : List ℕ) → Through test s 0 old old
through_first test [] old = record { rest = refl; any = refl }
through_first test (x ∷ xs) old = record { rest = refl; any = refl }

-- a name that does not pass
pub through_next : (test : ℕ → Bool) (s : List ℕ) (i : ℕ) (old names names' : List ℕ)
    → i < length s
    → Through test s i old names
    → names' ≡ names ++ get_or s i 0 ∷ []
    → test (get_or s i 0) ≡ false
    → Through test s (i + 1) old names'
through_next test s i old names names' low t is f = record {
  rest =
      ap (λ l. l ++ through test (drop (i + 1) s)) is
      ∙ append_assoc names (get_or s i 0 ∷ []) (through test (drop (i + 1) s))
      ∙ ap (λ l. names ++ l)
      (sym (ap (through test) (drop_more s i 0 low) ∙ through-goes test (get_or s i 0) (drop (i + 1) s) f))
      ∙ t.rest;
  any = sym (ap (list_any test) (drop_more s i 0 low) ∙ ap (λ b. b || list_any test (drop (i + 1) s)) f) ∙ t.any;
}

-- a name that passes ends it
pub through_stop : (test : ℕ → Bool) (s : List ℕ) (i : ℕ) (old names names' : List ℕ)
    → i < length s
    → Through test s i old names
    → names' ≡ names ++ get_or s i 0 ∷ []
    → test (get_or s i 0) ≡ true
    → (names' ≡ old ++ through test s) × (true ≡ list_any test s)
through_stop test s i old names names' low t is passes = (
  is ∙ ap (λ l. names ++ l)
      (sym (ap (through test) (drop_more s i 0 low) ∙ through-stops test (get_or s i 0) (drop (i + 1) s) passes))
      ∙ t.rest,
  sym (ap (list_any test) (drop_more s i 0 low) ∙ ap (λ b. b || list_any test (drop (i + 1) s)) passes) ∙ t.any,
)

pub through_end : (test : ℕ → Bool) (s : List ℕ) (i : ℕ) (old names : List ℕ)
    → length s ≤ i
    → Through test s i old names
    → (names ≡ old ++ through test s) × (false ≡ list_any test s)
through_end test s i old names all t = (
  sym (append-nil names) ∙ ap (λ l. names ++ through test l) (sym (drop_all s i all)) ∙ t.rest,
  ap (list_any test) (sym (drop_all s i all)) ∙ t.any,
)

-- a stack that is cut is cut so with a name behind it too
through-cut : (test : ℕ → Bool) (s u : List ℕ) → list_any test s ≡ true → through test (s ++ u) ≡ through test s
through-cut test [] u t = absurd (cc)
through-cut test (x ∷ xs) u t = by_test (cases_Bool (test x)) (through-cut test xs u)
  where
    by_test : (test x ≡ true) ⊎ (test x ≡ false)
        → (list_any test xs ≡ true → through test (xs ++ u) ≡ through test xs)
        → through test (x ∷ (xs ++ u)) ≡ through test (x ∷ xs)
    by_test (inl p) rest = through-stops test x (xs ++ u) p ∙ sym (through-stops test x xs p)
    by_test (inr f) rest = through-goes test x (xs ++ u) f
        ∙ ap (λ l. x ∷ l) (rest (sym (ap (λ b. b || list_any test xs) f) ∙ t)) ∙ sym (through-goes test x xs f)

-- a stack that is not cut stands whole, with a name behind it too
through-longer : (test : ℕ → Bool) (s : List ℕ) (n : ℕ)
    → list_any test s ≡ false
    → through test (s ++ n ∷ []) ≡ through test s ++ n ∷ []
through-longer test [] n f = by_test (cases_Bool (test n))
  where
    by_test : (test n ≡ true) ⊎ (test n ≡ false) → through test (n ∷ []) ≡ n ∷ []
    by_test (inl t) = through-stops test n [] t
    by_test (inr g) = through-goes test n [] g
through-longer test (x ∷ xs) n f = by_test (cases_Bool (test x)) (through-longer test xs n)
  where
    by_test : (test x ≡ true) ⊎ (test x ≡ false)
        → (list_any test xs ≡ false → through test (xs ++ n ∷ []) ≡ through test xs ++ n ∷ [])
        → through test (x ∷ (xs ++ n ∷ [])) ≡ through test (x ∷ xs) ++ n ∷ []
    by_test (inl t) rest = let wrong = ap (λ b. b || list_any test xs) t in absurd (cc)
    by_test (inr g) rest =
        through-goes test x (xs ++ n ∷ []) g ∙ ap (λ l. x ∷ l) (rest (sym (ap (λ b. b || list_any test xs) g) ∙ f))
        ∙ ap (λ l. l ++ n ∷ []) (sym (through-goes test x xs g))

-- a name of a stack that ascends is not above its last one
last-greatest : (s : List ℕ) (y : ℕ) → IsAscending s → has y s ≡ true → y ≤ last_name s
last-greatest [] y a n = absurd (cc)
last-greatest (x ∷ []) y a n = only (or_cases (eqb x y) false n)
  where
    only : (eqb x y ≡ true) ⊎ (false ≡ true) → y ≤ x
    only (inl e) = omega (arith, eqb-true x y e)
    only (inr wrong) = absurd (cc)
last-greatest (x ∷ (z ∷ zs)) y a n = by_part (or_cases (eqb x y) (has y (z ∷ zs)) n)
    (λ v. last-greatest (z ∷ zs) v a.1)
  where
    by_part : (eqb x y ≡ true) ⊎ (has y (z ∷ zs) ≡ true)
        → ((v : ℕ) → has v (z ∷ zs) ≡ true → v ≤ last_name (z ∷ zs))
        → y ≤ last_name (z ∷ zs)
    by_part (inl e) rest =
        let first = rest z (member-has z (z ∷ zs) (inl refl)) in
        omega (arith, eqb-true x y e, a.0 z (inl refl), first)
    by_part (inr later) rest = rest y later

none-any : (test : ℕ → Bool) (s : List ℕ) → ((y : ℕ) → has y s ≡ true → test y ≡ false) → false ≡ list_any test s
none-any test [] fails = refl
none-any test (x ∷ xs) fails =
    none-any test xs (λ y n. fails y (or_right (eqb x y) (has y xs) n))
    ∙ sym (ap (λ b. b || list_any test xs) (fails x (member-has x (x ∷ xs) (inl refl))))

-- a stack whose last name is below all that pass stands whole
pub stack-whole : (test : ℕ → Bool) (s : List ℕ) (first : ℕ)
    → IsAscending s
    → ((y : ℕ) → y < first → test y ≡ false)
    → last_name s < first
    → (through test s ≡ s) × (false ≡ list_any test s)
stack-whole test s first a fails low = (through-whole test s none, none-any test s none)
  where
    none : (y : ℕ) → has y s ≡ true → test y ≡ false
    none y n = let le = last-greatest s y a n in fails y (omega (arith, le, low))

-- what an offered stack is cut to, where the stack has a full name
pub offer-cut : (test : ℕ → Bool) (r : ℕ) (a : Bool) (s old names : List ℕ)
    → list_any test s ≡ true
    → names ≡ old ++ through test s
    → names ≡ old ++ through test (offered r a s)
offer-cut test r a s old names any is = is ∙ ap (λ l. old ++ l) (by_kind (cases_Bool a))
  where
    by_kind : (a ≡ true) ⊎ (a ≡ false) → through test s ≡ through test (offered r a s)
    by_kind (inl t) = sym (ap (through test) (offered-accepting r a s t)
        ∙ through-cut test s ((r + last_name s) ∷ []) any)
    by_kind (inr f) = sym (ap (through test) (offered-plain r a s f))

-- where it has none, and the transition does not accept
pub offer-plain : (test : ℕ → Bool) (r : ℕ) (a : Bool) (s old names : List ℕ)
    → a ≡ false
    → names ≡ old ++ through test s
    → names ≡ old ++ through test (offered r a s)
offer-plain test r a s old names f is = is ∙ ap (λ l. old ++ through test l) (sym (offered-plain r a s f))

-- where it has none, and the transition accepts
pub offer-longer : (test : ℕ → Bool) (r : ℕ) (a : Bool) (s old names names' : List ℕ)
    → list_any test s ≡ false
    → a ≡ true
    → names ≡ old ++ through test s
    → names' ≡ names ++ (r + last_name s) ∷ []
    → names' ≡ old ++ through test (offered r a s)
offer-longer test r a s old names names' none t is is' =
    is' ∙ ap (λ l. l ++ (r + last_name s) ∷ []) is ∙ append_assoc old (through test s) ((r + last_name s) ∷ [])
    ∙ ap (λ l. old ++ l)
    (sym (ap (through test) (offered-accepting r a s t) ∙ through-longer test s (r + last_name s) none))

-- the arrays of the first k offers that are cut
abbrev pub CutSoFar : List (Item ℕ) → (ℕ → Bool) → List Offer → ℕ → List ℕ → List ℕ → List ℕ → Type 0
CutSoFar h test best k states starts names =
    AreLaidOut states starts names (map (cut_by test) (map (offered_by h) (take k best)))

pub cut_first : (h : List (Item ℕ)) (test : ℕ → Bool) (best : List Offer) → CutSoFar h test best 0 [] [] []
cut_first h test [] = laid_none
cut_first h test (b ∷ bs) = laid_none

pub cut_more : (h : List (Item ℕ)) (test : ℕ → Bool) (best : List Offer) (k : ℕ) (d : Offer)
    (states starts names states' starts' names' : List ℕ) (n : ℕ)
    → k < length best
    → CutSoFar h test best k states starts names
    → states' ≡ states ++ (get_or best k d).target ∷ [] → starts' ≡ starts ++ n ∷ [] → n ≡ length names → names'
    ≡ names ++ through test (offered_by h (get_or best k d)).stack
    → CutSoFar h test best (k + 1) states' starts' names'
cut_more h test best k d states starts names states' starts' names' n low laid s_is b_is n_is ns_is =
    subst (AreLaidOut states' starts' names')
    (sym (ap (map (cut_by test)) (first_offers h best k d low)
    ∙ map-append (cut_by test) (map (offered_by h) (take k best)) (offered_by h (get_or best k d) ∷ [])))
    (subst (λ ss. AreLaidOut ss starts' names' all) (sym s_is)
    (subst (λ bs. AreLaidOut (states ++ (get_or best k d).target ∷ []) bs names' all)
    (sym (b_is ∙ ap (λ m. starts ++ m ∷ []) n_is))
    (subst (λ ns. AreLaidOut (states ++ (get_or best k d).target ∷ []) (starts ++ length names ∷ []) ns all) (sym ns_is)
    (laid_one_more states starts names (map (cut_by test) (map (offered_by h) (take k best)))
    (cut_by test (offered_by h (get_or best k d))) laid))))
  where
    all : List (Item ℕ)
    all = map (cut_by test) (map (offered_by h) (take k best)) ++ cut_by test (offered_by h (get_or best k d)) ∷ []

pub cut_all : (h : List (Item ℕ)) (test : ℕ → Bool) (best : List Offer) (k : ℕ) (states starts names : List ℕ)
    → length best ≤ k
    → CutSoFar h test best k states starts names
    → ((y : ℕ) → test y ≡ is_full (map (offered_by h) best) y)
    → AreLaidOut states starts names (cut (map (offered_by h) best))
cut_all h test best k states starts names all laid tests =
    subst (λ (t : ℕ → Bool). AreLaidOut states starts names (map (cut_by t) (map (offered_by h) best)))
    (λ i y. tests y i)
    (subst (λ bs. AreLaidOut states starts names (map (cut_by test) (map (offered_by h) bs))) (take_all k best all)
    laid)
