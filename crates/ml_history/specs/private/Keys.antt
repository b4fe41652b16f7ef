-- The best offers, by keys in place of stacks.
--
-- Each name in use has a place in the order of offers: the stack that ends in it beats those that end in names of later
-- places. So offers compare by two things, the place of the last name of their source, and whether the transition
-- accepts: an accepting one adds a name that is greater than all in use, and beats the same stack without it.
--
--   item_at h i, stack_at h i == the item of h at the place i, and its stack
--   TellOffers places h     == places of names tell which stacks of h beat which
--   offered_by h o          == the item that the offer o makes, from the history h
--   IsOffer h places o      == o has a source in h, and the place of its last name
--   wins o b                == the key of o is less than that of b
--   put_some o bs           == the same where there is such an offer
--   put_last o bs           == the offers bs with o, where the last one has another target or a greater key
use Rattle.std.specs.Prelude.{◌≡◌, ℕ, ◌<◌, Bool, not, ◌&&◌, ◌||◌, nat_lt, ◌==◌, if◌then◌else◌, Option, Some, None, List, [], ◌∷◌, length, slice_index_or}
use Rattle.ml_lists.specs.Member.{IsMember}
use Rattle.ml_trace.specs.Stack.{Item}
use Rattle.ml_history.specs.declared.flat.offers.Offer.{Offer}
use Rattle.ml_history.specs.HistoryStep.{beats, last_name, live, offered}

-- the item at the place i
abbrev pub item_at : List (Item ℕ) → ℕ → Item ℕ
item_at h i = slice_index_or h i (record { state = 0; stack = [] })

-- its stack
abbrev pub stack_at : List (Item ℕ) → ℕ → List ℕ
stack_at h i = (item_at h i).stack

-- places of names tell which stacks of h beat which
pub record TellOffers (places : List ℕ) (h : List (Item ℕ)) : Type 0 where
  pub count : length places ≡ live h
  pub tell : (a b : Item ℕ)
      → IsMember a h
      → IsMember b h
      → beats a.stack b.stack ≡ nat_lt (slice_index_or places (last_name a.stack) 0)
      (slice_index_or places (last_name b.stack) 0)

-- the item that the offer makes
abbrev pub offered_by : List (Item ℕ) → Offer → Item ℕ
offered_by h o = record { state = o.target; stack = offered (live h) o.accepting (stack_at h o.source) }

-- o has a source in h, and the place of its last name
pub record IsOffer (h : List (Item ℕ)) (places : List ℕ) (o : Offer) : Type 0 where
  pub has_source : o.source < length h
  pub place_is : o.place ≡ slice_index_or places (last_name (stack_at h o.source)) 0

-- the key of o is less than that of b
abbrev pub wins : Offer → Offer → Bool
wins o b = nat_lt o.place b.place || ((o.place == b.place) && (o.accepting && not b.accepting))

-- the offers with o, where the last one has another target or a greater key
abbrev pub put_last : Offer → List Offer → List Offer
put_last o [] = o ∷ []
put_last o (b ∷ []) = if b.target == o.target then (if wins o b then o ∷ [] else b ∷ []) else b ∷ (o ∷ [])
put_last o (b ∷ (c ∷ bs)) = b ∷ put_last o (c ∷ bs)

-- the offers with a further one, if there is one
abbrev pub put_some : Option Offer → List Offer → List Offer
put_some None bs = bs
put_some (Some o) bs = put_last o bs
