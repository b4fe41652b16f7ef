-- Breadth-first search among values, given up when more than so many are found.
--
-- Values are met in rows: the start, and then those to which each value leads that was looked at. Those that were looked
-- at are a front of the list of values that were met, and the search ends where they are all.
--
--   met front            == the values that are met from this front, each once
--   FromEarlier xs k x   == an entry of xs before the place k leads to x
--   Looked front back    == these values were looked at, and those were met
--   looked_next          == one more is looked at
--   Ended n, TooMany n   == all values, at most n; and more than n values that are reached
--   search               == one or the other
use Rattle.std.proofs.Common.{ℕ, zero, suc, ◌≡◌, ◌+◌, ◌<◌, ◌≤◌, ◌⊎◌, inl, inr, arith, Bool, List, [], ◌∷◌, ◌++◌, length, Some, refl, sym, ap, ◌∙◌, subst, ⊎_elim, append_assoc, length-append}
use Rattle.std.specs.Bool.{Decides}
use Rattle.std.specs.List.{flat_map, slice_get}
use Rattle.std.proofs.lemmas.Bool.{cases_lt}
use Rattle.std.proofs.lemmas.Grind.{flat_map-append}
use Rattle.std.proofs.lemmas.Option.{slice_get-get_or}
use Rattle.ml_lists.specs.Member.{IsMember}
use Rattle.ml_lists.proofs.Member.{InList, Place, member-append, member-append_right, member-flat_map_from, member-place}
use Rattle.ml_lists.proofs.Entries.{get_grown}
use Rattle.ml_lists.proofs.FirstEntries.{AreApart, firsts, firsts-apart, firsts-front, firsts-member}

pub record FromEarlier {X : Type 0} (next : X → List X) (xs : List X) (k : ℕ) (x : X) : Type 0 where
  pub place : ℕ
  pub from : X
  pub earlier : place < k
  pub stands : slice_get xs place ≡ Some from
  pub leads : IsMember x (next from)

-- ---- one more entry

get_one_more : {X : Type 0} (xs : List X) (y : X) (k : ℕ) (x : X)
    → slice_get (xs ++ y ∷ []) k ≡ Some x
    → (slice_get xs k ≡ Some x) ⊎ ((k ≡ length xs) × (x ≡ y))
get_one_more [] y zero x is = let same : x ≡ y = cc in inr (refl, same)
get_one_more [] y (suc k) x is = absurd (cc)
get_one_more (z ∷ zs) y zero x is = inl is
get_one_more (z ∷ zs) y (suc k) x is = later (get_one_more zs y k x is)
  where
    later : (slice_get zs k ≡ Some x) ⊎ ((k ≡ length zs) × (x ≡ y))
        → (slice_get zs k ≡ Some x) ⊎ ((suc k ≡ suc (length zs)) × (x ≡ y))
    later (inl before) = inl before
    later (inr last) = inr (ap suc last.0, last.1)

module _ {X : Type 0} (eq : X → X → Bool) (next : X → List X) (start : X) where
  abbrev pub met : List X → List X
  met front = firsts eq (start ∷ flat_map next front)

  -- ---- what was looked at

  module _ (R : X → Type 0) where
    pub record Looked (front back : List X) : Type 0 where
      pub in_order : front ++ back ≡ met front
      pub from_earlier : (k : ℕ) (x : X) → slice_get front k ≡ Some x → (x ≡ start) ⊎ FromEarlier next front k x
      pub reached : (x : X) → IsMember x front → R x

    pub record Ended (n : ℕ) : Type 0 where
      pub values : List X
      pub looked : Looked values []
      pub few : length values ≤ n

    pub record TooMany (n : ℕ) : Type 0 where
      pub values : List X
      pub apart : AreApart values
      pub reached : (x : X) → IsMember x values → R x
      pub more : n < length values

    module _ (at_start : R start) (behind : (x y : X) → R x → IsMember y (next x) → R y) where
      -- what is met is reached
      met_reached : (front : List X) → ((x : X) → IsMember x front → R x) → (x : X) → IsMember x (met front) → R x
      met_reached front reached x m = from (firsts-member eq x (start ∷ flat_map next front) m)
        where
          from : (x ≡ start) ⊎ IsMember x (flat_map next front) → R x
          from (inl same) = subst R (sym same) at_start
          from (inr i) =
              let l : InList next x front = member-flat_map_from next x front i in
              behind l.from x (reached l.from l.member) l.inside

      pub looked_next : (front : List X) (p : X) (back : List X)
          → Looked front (p ∷ back)
          → (more : List X) × Looked (front ++ p ∷ []) more
      looked_next front p back l = (
        back ++ grown.0,
        record {
          in_order = in_order;
          from_earlier = λ k x is. by_place k x (get_one_more front p k x is);
          reached = λ x m. by_part x (member-append x front (p ∷ []) m);
        },
      )
        where
          grown : (rest : List X)
              × (firsts eq ((start ∷ flat_map next front) ++ flat_map next (p ∷ [])) ≡ met front ++ rest)
          grown = firsts-front eq (start ∷ flat_map next front) (flat_map next (p ∷ []))

          in_order : (front ++ p ∷ []) ++ (back ++ grown.0) ≡ met (front ++ p ∷ [])
          in_order =
              append_assoc front (p ∷ []) (back ++ grown.0)
              ∙ sym (append_assoc front (p ∷ back) grown.0)
              ∙ ap (λ xs. xs ++ grown.0) l.in_order
              ∙ sym grown.1
              ∙ ap (λ xs. firsts eq (start ∷ xs)) (sym (flat_map-append next front (p ∷ [])))

          was_met : IsMember p (met front)
          was_met = subst (IsMember p) l.in_order (member-append_right p front (p ∷ back) (inl refl))

          leads : (p ≡ start) ⊎ IsMember p (flat_map next front)
              → (p ≡ start) ⊎ FromEarlier next (front ++ p ∷ []) (length front) p
          leads (inl same) = inl same
          leads (inr i) =
              let from : InList next p front = member-flat_map_from next p front i in
              let seat : Place from.from front = member-place from.from front from.member in
              inr (record {
                place = seat.place;
                from = from.from;
                earlier = seat.below;
                stands = get_grown front (p ∷ []) seat.place from.from
                    (slice_get-get_or front seat.place from.from seat.below ∙ ap Some (seat.holds from.from));
                leads = from.inside;
              })

          longer : (k : ℕ) (x : X)
              → (x ≡ start) ⊎ FromEarlier next front k x
              → (x ≡ start) ⊎ FromEarlier next (front ++ p ∷ []) k x
          longer k x (inl same) = inl same
          longer k x (inr e) = inr (record {
            place = e.place;
            from = e.from;
            earlier = e.earlier;
            stands = get_grown front (p ∷ []) e.place e.from e.stands;
            leads = e.leads;
          })

          by_place : (k : ℕ) (x : X)
              → (slice_get front k ≡ Some x) ⊎ ((k ≡ length front) × (x ≡ p))
              → (x ≡ start) ⊎ FromEarlier next (front ++ p ∷ []) k x
          by_place k x (inl before) = longer k x (l.from_earlier k x before)
          by_place k x (inr last) =
              subst (λ y. (y ≡ start) ⊎ FromEarlier next (front ++ p ∷ []) k y) (sym last.1)
              (subst (λ j. (p ≡ start) ⊎ FromEarlier next (front ++ p ∷ []) j p) (sym last.0)
              (leads (firsts-member eq p (start ∷ flat_map next front) was_met)))

          by_part : (x : X) → IsMember x front ⊎ IsMember x (p ∷ []) → R x
          by_part x (inl before) = l.reached x before
          by_part x (inr (inl same)) = subst R (sym same) (met_reached front l.reached p was_met)
          by_part x (inr (inr none)) = absurd none

      module _ (tells : (x y : X) → Decides (eq x y) (x ≡ y)) where
        too_many : (n : ℕ) (front back : List X) → Looked front back → n < length front → TooMany n
        too_many n front back l more = record {
          values = front ++ back;
          apart = subst AreApart (sym l.in_order) (firsts-apart eq tells (start ∷ flat_map next front));
          reached = λ x m. met_reached front l.reached x (subst (IsMember x) l.in_order m);
          more = omega (arith, more, length-append front back);
        }

        go_on : (n fuel : ℕ) (front back : List X) → Looked front back → n < length front + fuel → Ended n ⊎ TooMany n
        go_on n zero front back l enough = inr (too_many n front back l (omega (arith, enough)))
        go_on n (suc fuel) front [] l enough =
            ⊎_elim (λ (more : n < length front). inr (too_many n front [] l more))
            (λ (few : length front ≤ n). inl (record { values = front; looked = l; few = few }))
            (cases_lt n (length front))
        go_on n (suc fuel) front (p ∷ back) l enough =
            let further = looked_next front p back l in
            go_on n fuel (front ++ p ∷ []) further.0 further.1
            (omega (arith, enough, length-append front (p ∷ [])))

        pub search : (n : ℕ) → Ended n ⊎ TooMany n
        search n = go_on n (suc n) [] (start ∷ []) begun (omega arith)
          where
            begun : Looked [] (start ∷ [])
            begun = record {
              in_order = refl;
              from_earlier = λ k x is. absurd (cc);
              reached = λ x none. absurd none;
            }
