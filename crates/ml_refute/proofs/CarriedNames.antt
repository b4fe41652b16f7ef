-- The condition on names, carried along a map of states.
--
-- Where each transition between two states gives one between their images, the condition on names holds of the images
-- of items, with their stacks as they are.
--
--   carried_item, carried == the images of an item and of an entry
--   names_carried         == the condition is carried
use Rattle.std.proofs.Common.{ℕ, ◌≡◌, ◌<◌, Bool, true, map, sym, subst}
use Rattle.ml_lists.proofs.Member.{member-map, member-map_from, Image}
use Rattle.ml_trace.specs.declared.marks.Mark.{Mark}
use Rattle.ml_trace.specs.declared.marks.Mark.TheVariants.{Green}
use Rattle.ml_trace.specs.NamesCondition.{NamesCondition, Predecessor, Progress, bound}
use Rattle.ml_trace.specs.Stack.{Item, Entry, has, IsAdvanced}

abbrev pub carried_item : {S T : Type 0} → (S → T) → Item S → Item T
carried_item f a = record { state = f a.state; stack = a.stack }

abbrev pub carried : {S T : Type 0} → (S → T) → Entry S → Entry T
carried f e = record { live = e.live; items = map (carried_item f) e.items }

module _ {S T L M : Type 0} (leads : L → S → S → Bool → Type 0) (goes : M → T → T → Bool → Type 0) (f : S → T)
    (l : L) (k : M)
    (carries : (p q : S) (accepting : Bool) → leads l p q accepting → goes k (f p) (f q) accepting) where
  predecessor : (e : Entry S) (y : ℕ) (b : Item S) → Predecessor leads l e y b
      → Predecessor goes k (carried f e) y (carried_item f b)
  predecessor e y b p = record {
    item = carried_item f p.item;
    accepting = p.accepting;
    member = member-map (carried_item f) p.item e.items p.member;
    named = p.named;
    transition = carries p.item.state b.state p.accepting p.transition;
  }

  progress : (e : Entry S) (y : ℕ) (b : Item S) → Progress leads l e y b
      → Progress goes k (carried f e) y (carried_item f b)
  unfolding predecessor
  progress e y b p = record { before = predecessor e y b p.before; progress = p.progress }

  module _ (m : Mark) (e h : Entry S) (c : NamesCondition leads l m e h) where
    traced : (y : ℕ) → y < bound e.live m → (a : Item T) → Image (carried_item f) a h.items → has y a.stack ≡ true
        → Predecessor goes k (carried f e) y a
    traced y low a i named =
        let named_before : has y i.from.stack ≡ true = subst (λ (b : Item T). has y b.stack ≡ true) i.holds named in
        subst (Predecessor goes k (carried f e) y) (sym i.holds)
        (predecessor e y i.from (c.traced y low i.from i.member named_before))

    advanced : (y : ℕ) → y < bound e.live m → (a : Item T) → Image (carried_item f) a h.items → IsAdvanced y a.stack
        → Progress goes k (carried f e) y a
    advanced y low a i past =
        let past_before : IsAdvanced y i.from.stack = subst (λ (b : Item T). IsAdvanced y b.stack) i.holds past in
        subst (Progress goes k (carried f e) y) (sym i.holds)
        (progress e y i.from (c.advanced y low i.from i.member past_before))

    green_traced : (x : ℕ) → m ≡ Green x → (a : Item T) → Image (carried_item f) a h.items → has x a.stack ≡ true
        → Progress goes k (carried f e) x a
    green_traced x is a i named =
        let named_before : has x i.from.stack ≡ true = subst (λ (b : Item T). has x b.stack ≡ true) i.holds named in
        subst (Progress goes k (carried f e) x) (sym i.holds)
        (progress e x i.from (c.green_traced x is i.from i.member named_before))

    green_reset : (x : ℕ) → m ≡ Green x → (a : Item T) → Image (carried_item f) a h.items → IsAdvanced x a.stack → ⊥
    green_reset x is a i past =
        c.green_reset x is i.from i.member (subst (λ (b : Item T). IsAdvanced x b.stack) i.holds past)

    -- the condition is carried
    pub names_carried : NamesCondition goes k m (carried f e) (carried f h)
    names_carried = record {
      in_use = c.in_use;
      green_in_use = c.green_in_use;
      traced = λ y low a inside named. traced y low a (member-map_from (carried_item f) a h.items inside) named;
      advanced = λ y low a inside past. advanced y low a (member-map_from (carried_item f) a h.items inside) past;
      green_traced = λ x is a inside named. green_traced x is a (member-map_from (carried_item f) a h.items inside)
          named;
      green_reset = λ x is a inside past. green_reset x is a (member-map_from (carried_item f) a h.items inside) past;
    }
