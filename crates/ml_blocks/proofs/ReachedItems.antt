-- All items that come of a formula are reached from a block that has it.
--
--   Reached x       == a block with the item x is a node of the graph
--   run_on          == some such block has x as the first open item, or no open item
--   way_reached, next_reached, state_known == what x leads to is reached
--   within_reached  == so is all that comes of a formula
use Rattle.std.proofs.Common.{ℕ, zero, suc, ◌≡◌, ◌+◌, ◌<◌, ◌⊎◌, inl, inr, arith, true, false, Bool, not, List, [], ◌++◌, Option, Some, None, refl, sym, ap, subst, ◌∙◌, ⊎_elim}
use Rattle.std.specs.Bool.{beq}
use Rattle.std.proofs.lemmas.Bool.{cases_eq, false≢true}
use Rattle.ml_lists.specs.Member.{IsMember}
use Rattle.ml_lists.proofs.Member.{member-append}
use Rattle.ml_text.specs.declared.token.Operator.TheVariants as operator
use Rattle.ml_ctl.specs.Formula as plain
use Rattle.ml_ctl.specs.Formula.{Formula, occurrences}
use Rattle.ml_ctl.specs.declared.term.Tense.{Tense}
use Rattle.ml_ctl.specs.declared.term.Tense.TheVariants as tense
use Rattle.ml_ctl.specs.declared.term.Pairing.{Pairing}
use Rattle.ml_ctl.specs.declared.term.Pairing.TheVariants as pairing
use Rattle.ml_blocks.specs.Items.{Item, Row, OfState, Waits, Becomes, Either, row, now, behind_next}
use Rattle.ml_blocks.specs.ItemSets.{key, next_of, put_all, without, next_items, items_within, eventualities}
use Rattle.ml_blocks.specs.Places.{Holding, first_open, is_open, is_wait, focus_behind}
use Rattle.ml_blocks.proofs.BlockSteps as block
use Rattle.ml_blocks.proofs.BlockSteps.{path, of_state, becomes, either, edge_form_of}
use Rattle.ml_blocks.proofs.ItemSetMembers.{load, put_all-has, put_all-keeps, without-member, without-keeps, next_items-all_of, next_items-has}
use Rattle.ml_blocks.proofs.ItemsWithin.{IsOf, same_key}
use Rattle.ml_blocks.proofs.LighterRows.{step_lighter}
use Rattle.ml_blocks.proofs.LocalRuns.{Takes, Of, after_of, taken_of, some_open, open_now, none_open, is_open_if, next_of_of}
use Rattle.ml_blocks.proofs.PlaceVertices.{Board, Known, edges}
use Rattle.ml_blocks.proofs.RowShapes.{next_waits}

module _ (B : Board) (first : Item) (b : Bool) where
  pub record Reached (x : Item) : Type 0 where
    pub xs : List Item
    pub k : ℕ
    pub a : Known B (path first b xs k)
    pub of : Of first xs
    pub member : IsMember x xs

  record Way (xs : List Item) (k : ℕ) (y : Item) : Type 0 where
    pub ways : List Item
    pub takes : Takes (row y) ways
    pub to : Known B (block.after first b xs k y ways)

  a_way : (xs : List Item) (k : ℕ) (a : Known B (path first b xs k)) (y : Item) → first_open xs ≡ Some y → Way xs k y
  a_way xs k a y is = by_row (row y) refl
    where
      by_row : (r : Row) → row y ≡ r → Way xs k y
      by_row OfState e = record {
        ways = [];
        takes = subst (λ r. Takes r []) (sym e) refl;
        to = (of_state first b B 0 xs k y is a e).right;
      }
      by_row Waits e = absurd (false≢true (sym (open_now y (some_open xs y is).1).1 ∙ ap is_wait e))
      by_row (Becomes ys) e = record {
        ways = ys;
        takes = subst (λ r. Takes r ys) (sym e) refl;
        to = (becomes first b B 0 xs k y is a ys e).left;
      }
      by_row (Either ys zs) e = record {
        ways = ys;
        takes = subst (λ r. Takes r ys) (sym e) (inl refl);
        to = (either first b B 0 xs k y is a ys zs e).left;
      }

  record RunOn (x : Item) : Type 0 where
    pub reached : Reached x
    pub stops : (first_open reached.xs ≡ None) ⊎ (first_open reached.xs ≡ Some x)

  run_on : (fuel : ℕ) (x : Item) (t : Reached x) → load t.xs < fuel → RunOn x
  run_on zero x t low = absurd (omega (arith, low))
  run_on (suc fuel) x t low = by_first (first_open t.xs) refl (run_on fuel x)
    where
      other : (y : Item)
          → first_open t.xs ≡ Some y
          → (key x ≡ key y → ⊥)
          → ((u : Reached x) → load u.xs < fuel → RunOn x)
          → RunOn x
      other y is apart rest =
          let w = a_way t.xs t.k t.a y is in
          let lighter = step_lighter t.xs y w.ways is w.takes in
          rest
          (record {
            xs = put_all w.ways (without y t.xs);
            k = t.k;
            a = w.to;
            of = after_of first t.xs y w.ways t.of is w.takes;
            member = put_all-keeps x w.ways (without y t.xs) (without-keeps x y t.xs t.member apart);
          })
          (omega (arith, lighter, low))

      by_first : (o : Option Item)
          → first_open t.xs ≡ o
          → ((u : Reached x) → load u.xs < fuel → RunOn x)
          → RunOn x
      by_first None e rest = record { reached = t; stops = inl e }
      by_first (Some y) e rest =
          ⊎_elim
          (λ (same : key x ≡ key y).
          let is = same_key first x y (t.of x t.member) (t.of y (some_open t.xs y e).0) same in
          record { reached = t; stops = inr (e ∙ ap Some (sym is)) })
          (λ (apart : key x ≡ key y → ⊥). other y e apart rest) (cases_eq (key x) (key y))

  stopped : (x : Item) → Reached x → RunOn x
  stopped x t = run_on (suc (load t.xs)) x t (omega arith)

  moves : (r : Row) (ys : List Item) → Takes r ys → is_wait r ≡ false
  moves OfState ys e = refl
  moves Waits ys none = absurd none
  moves (Becomes zs) ys e = refl
  moves (Either zs ws) ys e = refl

  at_first : (x : Item) (t : Reached x)
      → is_open x ≡ true
      → (first_open t.xs ≡ None) ⊎ (first_open t.xs ≡ Some x)
      → first_open t.xs ≡ Some x
  at_first x t opens (inl none) = absurd (false≢true (sym (none_open t.xs none x t.member) ∙ opens))
  at_first x t opens (inr is) = is

  pub way_reached : (x : Item)
      → Reached x
      → x.later ≡ false
      → (ys : List Item)
      → Takes (row x) ys
      → (y : Item)
      → IsMember y ys
      → Reached y
  way_reached x t is_now ys takes y m = from (stopped x t)
    where
      from : RunOn x → Reached y
      from run = by_row (row x) refl takes
        where
          u : Reached x
          u = run.reached

          opens : is_open x ≡ true
          opens = is_open_if x is_now (moves (row x) ys takes)

          is : first_open u.xs ≡ Some x
          is = at_first x u opens run.stops

          to : Known B (block.after first b u.xs u.k x ys) → Reached y
          to a = record {
            xs = put_all ys (without x u.xs);
            k = u.k;
            a = a;
            of = after_of first u.xs x ys u.of is takes;
            member =
                put_all-has (IsOf first) (same_key first) ys (without x u.xs)
                (taken_of first x ys (u.of x u.member) is_now takes) (λ v i. u.of v (without-member v x u.xs i)) y m;
          }

          by_row : (r : Row) → row x ≡ r → Takes r ys → Reached y
          by_row OfState e none = absurd (subst (IsMember y) none m)
          by_row Waits e none = absurd none
          by_row (Becomes zs) e same =
              to (subst (λ us. Known B (block.after first b u.xs u.k x us)) (sym same)
              (becomes first b B 0 u.xs u.k x is u.a zs e).left)
          by_row (Either zs ws) e (inl same) =
              to (subst (λ us. Known B (block.after first b u.xs u.k x us)) (sym same)
              (either first b B 0 u.xs u.k x is u.a zs ws e).left)
          by_row (Either zs ws) e (inr same) =
              to (subst (λ us. Known B (block.after first b u.xs u.k x us)) (sym same)
              (either first b B 0 u.xs u.k x is u.a zs ws e).right)

  pub next_reached : (x : Item) → Reached x → x.later ≡ false → row x ≡ Waits → Reached (behind_next x)
  next_reached x t is_now waits = from (stopped x t)
    where
      from : RunOn x → Reached (behind_next x)
      from run = by_stop run.stops
        where
          u : Reached x
          u = run.reached

          by_stop : (first_open u.xs ≡ None) ⊎ (first_open u.xs ≡ Some x) → Reached (behind_next x)
          by_stop (inr is) = absurd (false≢true (sym (open_now x (some_open u.xs x is).1).1 ∙ ap is_wait waits))
          by_stop (inl none) =
              let q = path first b (next_items u.xs) (focus_behind (eventualities first) u.k u.xs) in
              let all : (z : Item) → IsMember z u.xs → IsOf first (next_of z) =
              λ z i. next_of_of first z (u.of z i) (none_open u.xs none z i) in
              record {
                xs = next_items u.xs;
                k = focus_behind (eventualities first) u.k u.xs;
                a = (edges B b q 0 u.a (edge_form_of first b u.xs u.k x u.member none)).to;
                of = next_items-all_of (IsOf first) (same_key first) u.xs all;
                member =
                    subst (λ z. IsMember z (next_items u.xs)) (next_waits x is_now)
                    (next_items-has (IsOf first) (same_key first) u.xs all x u.member);
              }

  pub state_known : (x : Item)
      → Reached x
      → x.later ≡ false
      → row x ≡ OfState
      → Known B (Holding x.number x.formula (beq x.positive b))
  state_known x t is_now e = from (stopped x t)
    where
      from : RunOn x → Known B (Holding x.number x.formula (beq x.positive b))
      from run =
          let u = run.reached in
          let is = at_first x u (is_open_if x is_now (ap is_wait e)) run.stops in
          (of_state first b B 0 u.xs u.k x is u.a e).left

  -- ---- all that comes of a formula

  abbrev At : ℕ → Formula → Bool → Type 0
  At i f c = Reached (now i f c)

  -- an item of a way of the row
  by_way : (i : ℕ) (f : Formula) (c : Bool)
      → At i f c
      → (ys : List Item)
      → Takes (row (now i f c)) ys
      → (y : Item)
      → IsMember y ys
      → Reached y
  by_way i f c t ys takes y m = way_reached (now i f c) t refl ys takes y m

  in_both : (x : Item) (ys zs : List Item)
      → (IsMember x ys → Reached x)
      → (IsMember x zs → Reached x)
      → IsMember x (ys ++ zs)
      → Reached x
  in_both x ys zs left right m =
      ⊎_elim (λ (i : IsMember x ys). left i) (λ (i : IsMember x zs). right i) (member-append x ys zs m)

  found : (x y : Item) → x ≡ y → Reached y → Reached x
  found x y e t = subst Reached (sym e) t

  -- the operand of F and G, and the operands of U, R and W
  tense_operand : (t : Tense) (i : ℕ) (f : Formula) (c : Bool) → At i (plain.Temporal t f) c → At (i + 1) f c
  tense_operand tense.Next i f c r = next_reached (now i (plain.Temporal tense.Next f) c) r refl refl
  tense_operand tense.Finally i f true r =
      by_way i (plain.Temporal tense.Finally f) true r _ (inl refl) (now (i + 1) f true) (inl refl)
  tense_operand tense.Finally i f false r =
      by_way i (plain.Temporal tense.Finally f) false r _ refl (now (i + 1) f false) (inl refl)
  tense_operand tense.Globally i f true r =
      by_way i (plain.Temporal tense.Globally f) true r _ refl (now (i + 1) f true) (inl refl)
  tense_operand tense.Globally i f false r =
      by_way i (plain.Temporal tense.Globally f) false r _ (inl refl) (now (i + 1) f false) (inl refl)

  left_operand : (p : Pairing) (i : ℕ) (f g : Formula) (c : Bool) → At i (plain.Paired p f g) c → At (i + 1) f c
  left_operand pairing.Until i f g true r =
      by_way i (plain.Paired pairing.Until f g) true r _ (inr refl) (now (i + 1) f true) (inl refl)
  left_operand pairing.Until i f g false r =
      by_way i (plain.Paired pairing.Until f g) false r _ (inl refl) (now (i + 1) f false) (inr (inl refl))
  left_operand pairing.Weak i f g true r =
      by_way i (plain.Paired pairing.Weak f g) true r _ (inr refl) (now (i + 1) f true) (inl refl)
  left_operand pairing.Weak i f g false r =
      by_way i (plain.Paired pairing.Weak f g) false r _ (inl refl) (now (i + 1) f false) (inr (inl refl))
  left_operand pairing.Release i f g true r =
      by_way i (plain.Paired pairing.Release f g) true r _ (inl refl) (now (i + 1) f true) (inr (inl refl))
  left_operand pairing.Release i f g false r =
      by_way i (plain.Paired pairing.Release f g) false r _ (inr refl) (now (i + 1) f false) (inl refl)

  right_operand : (p : Pairing) (i : ℕ) (f g : Formula) (c : Bool)
      → At i (plain.Paired p f g) c
      → At (i + 1 + occurrences f) g c
  right_operand pairing.Until i f g true r =
      by_way i (plain.Paired pairing.Until f g) true r _ (inl refl) (now (i + 1 + occurrences f) g true) (inl refl)
  right_operand pairing.Until i f g false r =
      by_way i (plain.Paired pairing.Until f g) false r _ (inl refl) (now (i + 1 + occurrences f) g false) (inl refl)
  right_operand pairing.Weak i f g true r =
      by_way i (plain.Paired pairing.Weak f g) true r _ (inl refl) (now (i + 1 + occurrences f) g true) (inl refl)
  right_operand pairing.Weak i f g false r =
      by_way i (plain.Paired pairing.Weak f g) false r _ (inl refl) (now (i + 1 + occurrences f) g false) (inl refl)
  right_operand pairing.Release i f g true r =
      by_way i (plain.Paired pairing.Release f g) true r _ (inl refl) (now (i + 1 + occurrences f) g true) (inl refl)
  right_operand pairing.Release i f g false r =
      by_way i (plain.Paired pairing.Release f g) false r _ (inl refl) (now (i + 1 + occurrences f) g false) (inl refl)

  module _ (i : ℕ) (f g : Formula) where
    abbrev R : ℕ
    R = i + 1 + occurrences f

    and_left : (c : Bool) → At i (plain.Binary operator.And f g) c → At (i + 1) f c
    and_left true r = by_way i (plain.Binary operator.And f g) true r _ refl (now (i + 1) f true) (inl refl)
    and_left false r = by_way i (plain.Binary operator.And f g) false r _ (inl refl) (now (i + 1) f false) (inl refl)

    and_right : (c : Bool) → At i (plain.Binary operator.And f g) c → At R g c
    and_right true r = by_way i (plain.Binary operator.And f g) true r _ refl (now R g true) (inr (inl refl))
    and_right false r = by_way i (plain.Binary operator.And f g) false r _ (inr refl) (now R g false) (inl refl)

    or_left : (c : Bool) → At i (plain.Binary operator.Or f g) c → At (i + 1) f c
    or_left true r = by_way i (plain.Binary operator.Or f g) true r _ (inl refl) (now (i + 1) f true) (inl refl)
    or_left false r = by_way i (plain.Binary operator.Or f g) false r _ refl (now (i + 1) f false) (inl refl)

    or_right : (c : Bool) → At i (plain.Binary operator.Or f g) c → At R g c
    or_right true r = by_way i (plain.Binary operator.Or f g) true r _ (inr refl) (now R g true) (inl refl)
    or_right false r = by_way i (plain.Binary operator.Or f g) false r _ refl (now R g false) (inr (inl refl))

    implies_left : (c : Bool) → At i (plain.Binary operator.Implies f g) c → At (i + 1) f (not c)
    implies_left true r = by_way i (plain.Binary operator.Implies f g) true r _ (inl refl) (now (i + 1) f false) (inl refl)
    implies_left false r = by_way i (plain.Binary operator.Implies f g) false r _ refl (now (i + 1) f true) (inl refl)

    implies_right : (c : Bool) → At i (plain.Binary operator.Implies f g) c → At R g c
    implies_right true r = by_way i (plain.Binary operator.Implies f g) true r _ (inr refl) (now R g true) (inl refl)
    implies_right false r = by_way i (plain.Binary operator.Implies f g) false r _ refl (now R g false) (inr (inl refl))

    abbrev R3 : ℕ
    R3 = i + 3 + occurrences f

    iff_left : (c d : Bool) → At i (plain.Binary operator.Iff f g) c → At (i + 3) f d
    iff_left true true r = by_way i (plain.Binary operator.Iff f g) true r _ (inl refl) (now (i + 3) f true) (inl refl)
    iff_left true false r = by_way i (plain.Binary operator.Iff f g) true r _ (inr refl) (now (i + 3) f false) (inl refl)
    iff_left false true r = by_way i (plain.Binary operator.Iff f g) false r _ (inl refl) (now (i + 3) f true) (inl refl)
    iff_left false false r = by_way i (plain.Binary operator.Iff f g) false r _ (inr refl) (now (i + 3) f false) (inl refl)

    iff_right : (c d : Bool) → At i (plain.Binary operator.Iff f g) c → At R3 g d
    iff_right true true r = by_way i (plain.Binary operator.Iff f g) true r _ (inl refl) (now R3 g true) (inr (inl refl))
    iff_right true false r = by_way i (plain.Binary operator.Iff f g) true r _ (inr refl) (now R3 g false) (inr (inl refl))
    iff_right false true r = by_way i (plain.Binary operator.Iff f g) false r _ (inr refl) (now R3 g true) (inr (inl refl))
    iff_right false false r =
        by_way i (plain.Binary operator.Iff f g) false r _ (inl refl) (now R3 g false) (inr (inl refl))

  pub within_reached : (i : ℕ) (f : Formula) (c : Bool)
      → At i f c
      → (x : Item)
      → IsMember x (items_within i f c)
      → Reached x
  within_reached i (plain.Const d) c r x (inl e) = found x _ e r
  within_reached i (plain.Const d) c r x (inr none) = absurd none
  within_reached i (plain.Prop p) c r x (inl e) = found x _ e r
  within_reached i (plain.Prop p) c r x (inr none) = absurd none
  within_reached i (plain.Quantified q f) c r x (inl e) = found x _ e r
  within_reached i (plain.Quantified q f) c r x (inr none) = absurd none
  within_reached i (plain.Not f) c r x (inl e) = found x _ e r
  within_reached i (plain.Not f) c r x (inr m) =
      within_reached (i + 1) f (not c) (by_way i (plain.Not f) c r _ refl (now (i + 1) f (not c)) (inl refl)) x m
  within_reached i (plain.Temporal t f) c r x (inl e) = found x _ e r
  within_reached i (plain.Temporal t f) c r x (inr m) = within_reached (i + 1) f c (tense_operand t i f c r) x m
  within_reached i (plain.Paired p f g) c r x (inl e) = found x _ e r
  within_reached i (plain.Paired p f g) c r x (inr m) =
      in_both x (items_within (i + 1) f c) (items_within (i + 1 + occurrences f) g c)
      (within_reached (i + 1) f c (left_operand p i f g c r) x)
      (within_reached (i + 1 + occurrences f) g c (right_operand p i f g c r) x) m
  within_reached i (plain.Binary operator.And f g) c r x (inl e) = found x _ e r
  within_reached i (plain.Binary operator.And f g) c r x (inr m) =
      in_both x (items_within (i + 1) f c) (items_within (i + 1 + occurrences f) g c)
      (within_reached (i + 1) f c (and_left i f g c r) x)
      (within_reached (i + 1 + occurrences f) g c (and_right i f g c r) x) m
  within_reached i (plain.Binary operator.Or f g) c r x (inl e) = found x _ e r
  within_reached i (plain.Binary operator.Or f g) c r x (inr m) =
      in_both x (items_within (i + 1) f c) (items_within (i + 1 + occurrences f) g c)
      (within_reached (i + 1) f c (or_left i f g c r) x)
      (within_reached (i + 1 + occurrences f) g c (or_right i f g c r) x) m
  within_reached i (plain.Binary operator.Implies f g) c r x (inl e) = found x _ e r
  within_reached i (plain.Binary operator.Implies f g) c r x (inr m) =
      in_both x (items_within (i + 1) f (not c)) (items_within (i + 1 + occurrences f) g c)
      (within_reached (i + 1) f (not c) (implies_left i f g c r) x)
      (within_reached (i + 1 + occurrences f) g c (implies_right i f g c r) x) m
  within_reached i (plain.Binary operator.Iff f g) c r x (inl e) = found x _ e r
  within_reached i (plain.Binary operator.Iff f g) c r x (inr m) =
      let L = i + 3 in let R = L + occurrences f in
      in_both x (items_within L f true ++ items_within L f false) (items_within R g true ++ items_within R g false)
      (in_both x (items_within L f true) (items_within L f false)
      (within_reached L f true (iff_left i f g c true r) x) (within_reached L f false (iff_left i f g c false r) x))
      (in_both x (items_within R g true) (items_within R g false)
      (within_reached R g true (iff_right i f g c true r) x) (within_reached R g false (iff_right i f g c false r) x)) m
