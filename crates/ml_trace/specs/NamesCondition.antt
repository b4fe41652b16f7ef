-- The condition on names that a marked step from one entry to another satisfies.
--
-- The step has transitions between states (`leads`, as in Run) and a mark. Its bound is x for red x and for green x,
-- and the number of names in use before it for neutral. Names below the bound are traced back from each item behind
-- the step to an item before it; a green name is traced back to one that accepts or is advanced, and is the last of
-- each stack behind the step that has it.
--
--   bound live m                     == below which names are traced
--   Predecessor leads l e y a        == an item of e with the name y, and a transition from it to the item a
--   Progress leads l e y a           == one that is advanced in y, or whose transition accepts
--   NamesCondition leads l m e f     == the condition, of a step from e to f along l with the mark m
--   EachNameStands e                 == each name in use stands in some item of e
use Rattle.std.specs.Prelude.{◌≡◌, ◌⊎◌, ℕ, ◌<◌, ◌≤◌, Bool, true}
use Rattle.ml_lists.specs.Member.{IsMember}
use Rattle.ml_trace.specs.declared.marks.Mark.{Mark}
use Rattle.ml_trace.specs.declared.marks.Mark.TheVariants.{Red, Green, Neutral}
use Rattle.ml_trace.specs.Stack.{Item, Entry, has, IsAdvanced}

-- below which names are traced: the mark's name, or all names in use
abbrev pub bound : ℕ → Mark → ℕ
bound live (Red x) = x
bound live (Green x) = x
bound live Neutral = live

-- an item of e with the name y, and a transition from it to the item a
pub record Predecessor {S L : Type 0} (leads : L → S → S → Bool → Type 0) (l : L) (e : Entry S) (y : ℕ) (a : Item S) : Type 0 where
  pub item : Item S
  pub accepting : Bool
  pub member : IsMember item e.items
  pub named : has y item.stack ≡ true
  pub transition : leads l item.state a.state accepting

-- a predecessor that is advanced in y, or whose transition accepts
pub record Progress {S L : Type 0} (leads : L → S → S → Bool → Type 0) (l : L) (e : Entry S) (y : ℕ) (a : Item S) : Type 0 where
  pub before : Predecessor leads l e y a
  pub progress : IsAdvanced y before.item.stack ⊎ (before.accepting ≡ true)

-- the condition, of a step from e to f along l with the mark m
pub record NamesCondition {S L : Type 0} (leads : L → S → S → Bool → Type 0) (l : L) (m : Mark) (e f : Entry S) : Type 0 where
  -- the bound is at most the number of names in use, on both sides; for green below it
  pub in_use : (bound e.live m ≤ e.live) × (bound e.live m ≤ f.live)
  pub green_in_use : (x : ℕ) → m ≡ Green x → (x < e.live) × (x < f.live)
  -- each item behind the step with a name below the bound has a predecessor with this name
  pub traced : (y : ℕ) → y < bound e.live m → (a : Item S) → IsMember a f.items → has y a.stack ≡ true → Predecessor leads l e y a
  -- where the item is advanced in it, so is the predecessor, or the transition accepts
  pub advanced : (y : ℕ) → y < bound e.live m → (a : Item S) → IsMember a f.items → IsAdvanced y a.stack → Progress leads l e y a
  -- for green x each item behind the step with x comes from one that is advanced in x, or by an accepting transition
  pub green_traced : (x : ℕ) → m ≡ Green x → (a : Item S) → IsMember a f.items → has x a.stack ≡ true → Progress leads l e x a
  -- and none is advanced in x
  pub green_reset : (x : ℕ) → m ≡ Green x → (a : Item S) → IsMember a f.items → IsAdvanced x a.stack → ⊥

-- each name in use stands in some item of e
abbrev pub EachNameStands : {S : Type 0} → Entry S → Type 0
EachNameStands {S} e = (y : ℕ) → y < e.live → (a : Item S) × IsMember a e.items × (has y a.stack ≡ true)
