-- The states from which an edge leads to a state, as they are gone through from the last of these edges back to the first.
--
--   Passed       == each edge from a place on that leads to the state leaves one that isn't settled, or is alone in its class
--   passed_none, passed_next, passed_all == at first, with one edge more, and in the end
--   still_loose, fewer_cut_off, cut_off_more == with fewer settled states it stays so
--   alone_among  == a state is alone where its class has one member
use Rattle.std.proofs.Common.{ℕ, ◌≡◌, ◌+◌, ◌<◌, ◌≤◌, ◌⊎◌, inl, inr, Bool, List, [], length, get_or, slice_get, map, Some, All, Contains, sym, ap, ◌∙◌, subst, arith}
use Rattle.std.proofs.lemmas.Bool.{cases_eq, cases_lt}
use Rattle.std.proofs.lemmas.List.{get_or_default, length-map}
use Rattle.std.proofs.lemmas.Option.{slice_get-get_or, slice_get_within, same_Some}
use Rattle.ml_base.specs.declared.structure.Edge.{Edge}
use Rattle.ml_lists.proofs.Member.{Place, member-place}
use Rattle.ml_lists.proofs.Members.{member_of_contains}
use Rattle.ml_bisim.specs.declared.places.Places.{Places}
use Rattle.ml_bisim.specs.private.Places.{ArePlaces, IsLastBefore}
use Rattle.ml_bisim.specs.Quotient.{class_of}
use Rattle.ml_bisim.specs.private.Rounds.{AreListed, HasMembers, IsAlone, IsCutOff, IsLoose, IsSettled}
use Rattle.ml_bisim.proofs.Steps.{number_at}

pub record Passed (edges : List Edge) (class : List ℕ) (n t : ℕ) (old : List Bool) (rest : ℕ) (flags : List Bool)
    (states : List ℕ) : Type 0 where
  pub in_range : rest ≤ length edges
  pub mine : (i : ℕ) → rest ≡ i + 1 → get_or (map (λ (f : Edge). f.target) edges) i 0 ≡ t
  pub flags_long : length flags ≡ n
  pub low : All (λ s. s < n) states
  pub listed : AreListed flags n states
  pub fewer : (s : ℕ) → IsSettled flags s → IsSettled old s
  pub done : (place : ℕ) (e : Edge) → slice_get edges place ≡ Some e → rest ≤ place → e.target ≡ t
      → IsLoose class n flags e.source

pub still_loose : (class : List ℕ) (n : ℕ) (old new : List Bool) (s : ℕ)
    → ((s : ℕ) → IsSettled new s → IsSettled old s)
    → IsLoose class n old s
    → IsLoose class n new s
still_loose class n old new s fewer (inl off) = inl (λ h. off (fewer s h))
still_loose class n old new s fewer (inr alone) = inr alone

module _ (edges : List Edge) (n : ℕ) (p : Places) (places : ArePlaces (map (λ (f : Edge). f.target) edges) n p)
    (class : List ℕ) (t : ℕ)
    (old : List Bool) where
  abbrev targets : List ℕ
  targets = map (λ (f : Edge). f.target) edges

  edges_long : length targets ≡ length edges
  edges_long = length-map edges (λ (f : Edge). f.target)

  pub passed_none : (states : List ℕ)
      → t < n
      → length old ≡ n
      → All (λ s. s < n) states
      → AreListed old n states
      → Passed edges class n t old (get_or p.last.items t 0) old states
  passed_none states t_low long low listed =
      let is = places.last t t_low in
      record {
        in_range = omega (arith, is.before, edges_long);
        mine = is.stands;
        flags_long = long;
        low = low;
        listed = listed;
        fewer = λ s h. h;
        done = λ place e at le same. absurd (is.none_later place le
            (omega (arith, slice_get_within edges place e at, edges_long)) (number_at (λ (f : Edge). f.target) edges
            place e at ∙ same));
      }

  module _ (rest place : ℕ) (e : Edge) (flags : List Bool) (states : List ℕ)
      (is : Passed edges class n t old rest flags states)
      (next : rest ≡ place + 1) (stands : slice_get edges place ≡ Some e) where
    link : IsLastBefore targets place (get_or targets place 0) (get_or p.before.items place 0)
    link = places.links place (omega (arith, is.in_range, next, edges_long))

    -- an edge from the next place on is the one at this place, or one that was passed
    next_or_passed : (k : ℕ) (f : Edge) → slice_get edges k ≡ Some f → get_or p.before.items place 0 ≤ k → f.target ≡ t
        → (f ≡ e) ⊎ (rest ≤ k)
    next_or_passed k f at le same = by_case (cases_eq k place) (cases_lt k rest)
      where
        by_case : (k ≡ place) ⊎ (k ≡ place → ⊥) → (k < rest) ⊎ (rest ≤ k) → (f ≡ e) ⊎ (rest ≤ k)
        by_case (inl one) c = inl (same_Some _ _ (sym at ∙ ap (slice_get edges) one ∙ stands))
        by_case (inr other) (inr above) = inr above
        by_case (inr other) (inl below) =
            absurd (link.none_later k le (omega (arith, below, other, next))
            (number_at (λ (g : Edge). g.target) edges k f at ∙ same ∙ sym (is.mine place next)))

    pub passed_next : (new : List Bool) (more : List ℕ)
        → length new ≡ n
        → All (λ s. s < n) more
        → AreListed new n more
        → ((s : ℕ) → IsSettled new s → IsSettled flags s)
        → IsLoose class n new e.source
        → Passed edges class n t old (get_or p.before.items place 0) new more
    passed_next new more long low listed fewer loose = record {
      in_range = omega (arith, link.before, is.in_range, next);
      mine = λ i at. link.stands i at ∙ is.mine place next;
      flags_long = long;
      low = low;
      listed = listed;
      fewer = λ s h. is.fewer s (fewer s h);
      done = λ k f at le same. done k f at same (next_or_passed k f at le same);
    }
      where
        done : (k : ℕ) (f : Edge) → slice_get edges k ≡ Some f → f.target ≡ t → (f ≡ e) ⊎ (rest ≤ k)
            → IsLoose class n new f.source
        done k f at same (inl one) = subst (λ (g : Edge). IsLoose class n new g.source) (sym one) loose
        done k f at same (inr above) = still_loose class n flags new f.source fewer (is.done k f at above same)

  pub passed_all : (rest : ℕ) (flags : List Bool) (states : List ℕ) → Passed edges class n t old rest flags states
      → rest ≡ 0
      → IsCutOff edges class n flags t
  passed_all rest flags states is end e h same = of_place (member-place e edges (member_of_contains e edges h))
    where
      of_place : Place e edges → IsLoose class n flags e.source
      of_place q =
          is.done q.place e (slice_get-get_or edges q.place e q.below ∙ ap Some (q.holds e)) (omega (arith, end)) same

pub fewer_cut_off : (edges : List Edge) (class : List ℕ) (n : ℕ) (old new : List Bool) (t : ℕ)
    → ((s : ℕ) → IsSettled new s → IsSettled old s)
    → IsCutOff edges class n old t
    → IsCutOff edges class n new t
fewer_cut_off edges class n old new t fewer is e h same = still_loose class n old new e.source fewer (is e h same)

pub cut_off_more : (edges : List Edge) (class : List ℕ) (n : ℕ) (old new : List Bool) (states : List ℕ) (i : ℕ)
    → ((s : ℕ) → IsSettled new s → IsSettled old s)
    → ((j : ℕ) → j < i → IsCutOff edges class n old (get_or states j 0))
    → IsCutOff edges class n new (get_or states i 0)
    → (j : ℕ)
    → j < i + 1
    → IsCutOff edges class n new (get_or states j 0)
cut_off_more edges class n old new states i fewer before here j low = by_case (cases_eq j i)
  where
    by_case : (j ≡ i) ⊎ (j ≡ i → ⊥) → IsCutOff edges class n new (get_or states j 0)
    by_case (inl same) = subst (λ k. IsCutOff edges class n new (get_or states k 0)) (sym same) here
    by_case (inr other) =
        fewer_cut_off edges class n old new (get_or states j 0) fewer (before j (omega (arith, low, other)))

-- ---- one state

-- whose members are one alone
pub alone_among : (class : List ℕ) (n : ℕ) (members : List (List ℕ)) (s : ℕ)
    → HasMembers class n members
    → s < n
    → length (get_or members (class_of class s) []) ≡ 1
    → IsAlone class n s
alone_among class n members s is s_low one t t_low e =
    only (get_or members (class_of class s) []) one
    (subst (λ c. Contains (get_or members c []) t) e (is.has t t_low)) (is.has s s_low)
  where
    only : (xs : List ℕ) → length xs ≡ 1 → Contains xs t → Contains xs s → t ≡ s
    only xs single (k, k_low, at) (j, j_low, there) =
        let same : k ≡ j = omega (arith, single, k_low, j_low) in
        sym at ∙ ap (λ i. get_or xs i t) same ∙ get_or_default xs j t s j_low ∙ there
