-- The tree of a history stands for a history.
--
--   items-member, member-items == the items of a forest are its places
--   names-live, live-names     == the names in use are those of the vertices
--   proper_is_history          == the items of the tree of a history are a history
use Rattle.std.proofs.Common.{ℕ, ◌≡◌, ◌<◌, ◌≤◌, ◌⊎◌, inl, inr, arith, sym, subst}
use Rattle.std.proofs.lemmas.Bool.{cases_lt}
use Rattle.ml_lists.specs.Member.{IsMember}
use Rattle.ml_trace.specs.Stack.{Item}
use Rattle.ml_trace.proofs.Stacks.{ends-has, has-member}
use Rattle.ml_history.specs.private.Forest.{Forest, names, places, items, IsProper}
use Rattle.ml_lists.specs.Times.{IsApart}
use Rattle.ml_history.specs.History.{IsHistory}
use Rattle.ml_history.specs.HistoryStep.{live}
use Rattle.ml_history.proofs.trees.ItemsByState.{arranged-member, member-arranged, arranged-ascends}
use Rattle.ml_history.proofs.trees.Forests.{places-states, owns-some, places-not_empty, places-names, names-places, places-ascend, places-agree}
use Rattle.ml_history.proofs.definition.NamesInUse.{live-has, live-witness}

-- the items of a forest are its places
pub items-member : (f : Forest) (v : Item ℕ) → IsMember v (items f) → IsMember v (places f)
items-member f v m = arranged-member v (places f) m

pub member-items : (f : Forest) (v : Item ℕ) → IsMember v (places f) → IsMember v (items f)
member-items f v m = member-arranged v (places f) m

module _ (f : Forest) (proper : IsProper f) where
  -- a name of a vertex is in use
  pub names-live : (y : ℕ) → IsMember y (names f) → y < live (items f)
  names-live y m = let l = names-places f y (owns-some f proper.owns) m in
      live-has (items f) y l.item (member-items f l.item l.member) (ends-has y l.item.stack l.ends)

  -- a name in use is that of a vertex
  pub live-names : (y : ℕ) → y < live (items f) → IsMember y (names f)
  live-names y low =
      let w = live-witness (items f) y low in
      from_high w.name w.high (places-names f w.item w.name (items-member f w.item w.member)
      (has-member w.name w.item.stack w.named))
    where
      from_high : (z : ℕ) → y ≤ z → IsMember z (names f) → IsMember y (names f)
      from_high z high m = by_order (cases_lt y z)
        where
          by_order : (y < z) ⊎ (z ≤ y) → IsMember y (names f)
          by_order (inl apart) = proper.no_gap y z apart m
          by_order (inr le) = let e : z ≡ y = omega arith in subst (λ v. IsMember v (names f)) e m

  -- the items are a history
  pub proper_is_history : IsHistory (items f)
  proper_is_history = record {
    states_ascend = arranged-ascends (places f) (subst IsApart (sym (places-states f)) proper.states_apart);
    not_empty = λ a m. places-not_empty f a (items-member f a m);
    stacks_ascend = λ a m. places-ascend 0 f a proper.ages_rise (items-member f a m);
    agree = λ a b y ma mb na nb. places-agree f proper.names_apart a b y (items-member f a ma) (items-member f b mb)
        (has-member y a.stack na) (has-member y b.stack nb);
    each_ends = λ y low. let l = names-places f y (owns-some f proper.owns) (live-names y low) in
        (l.item, member-items f l.item l.member, l.ends);
  }
