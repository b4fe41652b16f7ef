-- Each step of a walk along a path lessens what is left, and keeps what is known.
--
--   few_children     == a node has two children at most
--   folded_length    == no more frames are left
--   all_done_fresh   == what is new where some are done was new
--   went_on          == a target is looked at
--   went_shut        == the last frame ends
--   nothing_done, root_begins == nothing was met; a walk begins at a new node
--   all_met, least_of_all == where nothing is left on the path, what was met is done, and the least loop is known
--   fit_of           == a walk that is under way is fit for a step
--   on_ok            == what a call that went well says, and what follows from it
use Rattle.std.proofs.Common.{ℕ, ◌≡◌, ◌+◌, ◌<◌, ◌≤◌, ◌⊎◌, inl, inr, Bool, true, false, nat_lt, nat_le, List, [], ◌∷◌, ◌++◌, length, filter, get_or}
use Rattle.std.proofs.Common.{set, drop, Option, Some, None, refl, sym, ap, ◌∙◌, subst, arith, length-append, Result, Ok, Err, OnOk}
use Rattle.std.proofs.lemmas.Bool.{cases_Bool, cases_eq, cond-true, cond-false}
use Rattle.std.proofs.lemmas.List.{get_or-set_same, get_or-set_other, get_or-drop, length-drop, length-set}
use Rattle.ml_lists.specs.Member.{IsMember}
use Rattle.ml_lists.proofs.Counting.{count_mono, count_strict}
use Rattle.ml_lists.proofs.Member.{member-place, Place}
use Rattle.ml_graph.specs.declared.node.Node.{Node}
use Rattle.ml_graph.specs.declared.node.Node.TheVariants as node
use Rattle.ml_graph.specs.Graph.{Graph, size, node_at, priority_at}
use Rattle.ml_sequent.specs.declared.choice.Side.{Side}
use Rattle.ml_sequent.specs.declared.parts.Frame.{Frame}
use Rattle.ml_sequent.specs.declared.parts.Stage.{Stage}
use Rattle.ml_sequent.specs.declared.parts.Stage.TheVariants.{New, On, Done}
use Rattle.ml_sequent.specs.Choice.{side_of}
use Rattle.ml_sequent.specs.LocalWalk.{children, children_of, chosen_child}
use Rattle.ml_sequent.specs.private.ConnectedParts.{WalkList, stage_of, IsUnder, high_children, entered, folded, gone, gone_by, all_done, shut, is_new, left_new}
use Rattle.ml_sequent.specs.private.ConnectedParts.{IsFramed, IsLeast, IsLoop, IsDoneLoop, IsClosedIn, IsCyclic, IsFit, IsPart, WentOn, Began, offered}
use Rattle.ml_sequent.proofs.FrameLists.{all_done_length}
use Rattle.ml_sequent.proofs.LeastLoops.{same_least}
use Rattle.ml_sequent.proofs.PathCloses.{close_keeps, close_fresh, close_cyclic, close_plain}
use Rattle.ml_sequent.proofs.PathSteps.{fold_keeps, enter_keeps}
use Rattle.ml_sequent.proofs.PathWalks.{Taken, taken, fewer, skipped, coming_reach, also_looked_at}

-- ---- how many

few_of : (c : List (ℕ × Side)) (n : ℕ) (x : Node) → length (children_of c n x) ≤ 2
few_of c n node.True = omega arith
few_of c n node.False = omega arith
few_of c n (node.Lit p positive) = omega arith
few_of c n (node.And l r) = omega arith
few_of c n (node.Or l r) = by_side (side_of c n)
  where
    by_side : (o : Option Side) → length (chosen_child o l r) ≤ 2
    by_side None = omega arith
    by_side (Some s) = omega arith
few_of c n (node.Diamond a to) = omega arith
few_of c n (node.Square a to) = omega arith

few_pass : (test : ℕ → Bool) (xs : List ℕ) → length (filter test xs) ≤ length xs
few_pass test [] = omega arith
few_pass test (x ∷ xs) = by_test (cases_Bool (test x)) (few_pass test xs)
  where
    by_test : (test x ≡ true) ⊎ (test x ≡ false)
        → length (filter test xs) ≤ length xs
        → length (filter test (x ∷ xs)) ≤ length (x ∷ xs)
    by_test (inl passes) rest = let e = ap length (cond-true (test x) (x ∷ filter test xs) (filter test xs) passes) in omega arith
    by_test (inr fails) rest = let e = ap length (cond-false (test x) (x ∷ filter test xs) (filter test xs) fails) in omega arith

-- a node has two children at most
pub few_children : (g : Graph) (c : List (ℕ × Side)) (d n : ℕ) → length (high_children g c d n) ≤ 2
few_children g c d n =
    omega (arith, few_pass (λ m. nat_le d (priority_at g m)) (children g c n), few_of c n (node_at g n))

-- no more frames are left
pub folded_length : (w : ℕ) (frames : List Frame) → length (folded w frames) ≤ length frames
folded_length w [] = omega arith
folded_length w (f ∷ fs) = by_test (cases_Bool (nat_lt w f.first)) (folded_length w fs)
  where
    by_test : (nat_lt w f.first ≡ true) ⊎ (nat_lt w f.first ≡ false)
        → length (folded w fs) ≤ length fs
        → length (folded w (f ∷ fs)) ≤ length (f ∷ fs)
    by_test (inl behind) rest = let e = ap length (cond-true (nat_lt w f.first) (folded w fs) (f ∷ fs) behind) in omega arith
    by_test (inr before) rest = let e = ap length (cond-false (nat_lt w f.first) (folded w fs) (f ∷ fs) before) in omega arith

-- ---- what is new

new_is : (s : Stage) → is_new s ≡ true → s ≡ New
new_is New e = refl
new_is (On p) e = cc
new_is Done e = cc

set_fresh : (stages : List Stage) (n k : ℕ) (s : Stage) → (s ≡ New → ⊥) → n < length stages
    → get_or (set stages n s) k New ≡ New
    → (k ≡ n → ⊥) × (get_or stages k New ≡ New)
set_fresh stages n k s old low new = from (cases_eq k n)
  where
    from : (k ≡ n) ⊎ (k ≡ n → ⊥) → (k ≡ n → ⊥) × (get_or stages k New ≡ New)
    from (inl same) = absurd (old (sym (get_or-set_same stages n s New low) ∙ ap (λ j. get_or (set stages n s) j New) (sym same) ∙ new))
    from (inr other) = (other, sym (get_or-set_other stages n k s New other) ∙ new)

-- what is new where some are done was new
pub all_done_fresh : (ns : List ℕ) (stages : List Stage) (k : ℕ)
    → ((n : ℕ) → IsMember n ns → n < length stages)
    → get_or (all_done ns stages) k New ≡ New
    → get_or stages k New ≡ New
all_done_fresh [] stages k low new = new
all_done_fresh (n ∷ ns) stages k low new =
    (set_fresh stages n k Done (λ e. absurd (let differ : Done ≡ New = e in cc)) (low n (inl refl))
    (all_done_fresh ns (set stages n Done) k (λ m m_in. omega (arith, low m (inr m_in), length-set stages n Done)) new)).1

-- fewer are new where a new one is on the path
left_falls : (stages : List Stage) (n p : ℕ) → n < length stages → get_or stages n New ≡ New
    → left_new (length (set stages n (On p))) (set stages n (On p)) < left_new (length stages) stages
left_falls stages n p low new =
    let strict = count_strict (λ k. is_new (get_or (set stages n (On p)) k New)) (λ k. is_new (get_or stages k New)) (length stages) stronger n low
    (ap is_new (get_or-set_same stages n (On p) New low)) (ap is_new new) in
    let same = ap (λ k. left_new k (set stages n (On p))) (length-set stages n (On p)) in
    omega arith
  where
    on_old : On p ≡ New → ⊥
    on_old e = cc

    stronger : (k : ℕ)
        → k < length stages
        → is_new (get_or (set stages n (On p)) k New) ≡ true
        → is_new (get_or stages k New) ≡ true
    stronger k k_low h = ap is_new (set_fresh stages n k (On p) on_old low (new_is (get_or (set stages n (On p)) k New) h)).1

-- no more are new where some are done
left_kept : (ns : List ℕ) (stages : List Stage)
    → ((n : ℕ) → IsMember n ns → n < length stages)
    → left_new (length (all_done ns stages)) (all_done ns stages) ≤ left_new (length stages) stages
left_kept ns stages low =
    let fewer_new = count_mono (λ k. is_new (get_or (all_done ns stages) k New)) (λ k. is_new (get_or stages k New)) (length stages) stronger in
    let same = ap (λ k. left_new k (all_done ns stages)) (all_done_length ns stages) in
    omega arith
  where
    stronger : (k : ℕ)
        → k < length stages
        → is_new (get_or (all_done ns stages) k New) ≡ true
        → is_new (get_or stages k New) ≡ true
    stronger k k_low h = ap is_new (all_done_fresh ns stages k low (new_is (get_or (all_done ns stages) k New) h))

module _ (g : Graph) (c : List (ℕ × Side)) (d : ℕ) (N : List ℕ) (set_is : IsClosedIn g c N) where
  -- ---- a new node

  -- others are as far as before, and the node isn't done
  enter_done : (x : WalkList) (m : ℕ) → m < length x.stages → stage_of x m ≡ New → (n : ℕ)
      → (stage_of x n ≡ Done → stage_of (entered g c d m x) n ≡ Done) × (stage_of (entered g c d m x) n ≡ Done → stage_of x n ≡ Done)
  enter_done x m low new n = from (cases_eq n m)
    where
      from : (n ≡ m) ⊎ (n ≡ m → ⊥)
          → (stage_of x n ≡ Done → stage_of (entered g c d m x) n ≡ Done) × (stage_of (entered g c d m x) n ≡ Done → stage_of x n ≡ Done)
      from (inl same) =
          let here : stage_of (entered g c d m x) n ≡ On (length x.path) =
          ap (stage_of (entered g c d m x)) same ∙ get_or-set_same x.stages m (On (length x.path)) New low in
          let old : stage_of x n ≡ New = ap (stage_of x) same ∙ new in
          ((λ e. absurd (cc)), (λ e. absurd (cc)))
      from (inr other) =
          let kept = get_or-set_other x.stages m n (On (length x.path)) New other in
          ((λ e. kept ∙ e), (λ e. sym kept ∙ e))

  enter_fresh : (x : WalkList) (m n : ℕ) → m < length x.stages → stage_of (entered g c d m x) n ≡ New
      → (n ≡ m → ⊥) × (stage_of x n ≡ New)
  enter_fresh x m n low new = set_fresh x.stages m n (On (length x.path)) on_old low new
    where
      on_old : On (length x.path) ≡ New → ⊥
      on_old e = cc

  enter_least : (x : WalkList) (m : ℕ) (best : Option ℕ) → m < length x.stages → stage_of x m ≡ New
      → IsLeast (IsDoneLoop g c d N x) best
      → IsLeast (IsDoneLoop g c d N (entered g c d m x)) best
  enter_least x m best low new =
      same_least (IsDoneLoop g c d N x) (IsDoneLoop g c d N (entered g c d m x)) best
      (λ n h. (h.0, (enter_done x m low new n).0 h.1, h.2)) (λ n h. (h.0, (enter_done x m low new n).1 h.1, h.2))

  -- a target is looked at
  pub went_on : (x : WalkList) (w : List ℕ) (m : ℕ) (best : Option ℕ)
      → IsPart g c d N x best
      → x.waiting ≡ w ++ m ∷ []
      → ((f : Frame) (fs : List Frame) → x.frames ≡ f ∷ fs → f.waits ≤ length w)
      → WentOn g c d N x (gone g c d m (fewer g c d N w x)) best
  went_on x w m best part e last = by_stage (stage_of x m) refl
    where
      y : WalkList
      y = record { path = x.path; waiting = w; frames = x.frames; stages = x.stages }

      long : length x.waiting ≡ length w + 1
      long = ap length e ∙ length-append w (m ∷ [])

      t : Taken g c d N w x m
      t = taken g c d N w x m part.under e last

      from_node : IsMember (get_or x.path t.coming.place 0) N
          × (d ≤ priority_at g (get_or x.path t.coming.place 0))
          × (stage_of x (get_or x.path t.coming.place 0) ≡ On t.coming.place)
      from_node = part.under.inside t.coming.place t.coming.low

      m_in : IsMember m N
      m_in = set_is.closed (get_or x.path t.coming.place 0) m from_node.0 t.coming.child.0

      m_low : m < length x.stages
      m_low = omega (arith, set_is.low m m_in, part.under.sized)

      by_stage : (s : Stage) → stage_of x m ≡ s
          → WentOn g c d N x (gone_by (stage_of x m) g c d m (record { path = x.path; waiting = w; frames = x.frames; stages = x.stages })) best
      by_stage New new =
          subst
          (λ s. WentOn g c d N x
          (gone_by s g c d m (record { path = x.path; waiting = w; frames = x.frames; stages = x.stages })) best)
          (sym new) (record {
            part = record {
              under =
                  enter_keeps g c d N (record { path = x.path; waiting = w; frames = x.frames; stages = x.stages }) m m_in
                  t.coming.child.1 (set_is.low m m_in) t.under new
                  (coming_reach g c d N (m ∷ []) (record { path = x.path; waiting = w; frames = x.frames; stages = x.stages }) m t.under t.coming);
              least = enter_least (record { path = x.path; waiting = w; frames = x.frames; stages = x.stages }) m best m_low new part.least;
            };
            falls = omega (arith, long, left_falls x.stages m (length x.path) m_low new, few_children g c d m, length-append w (high_children g c d m));
            fresh = λ n n_in still. (enter_fresh (record { path = x.path; waiting = w; frames = x.frames; stages = x.stages }) m n m_low still).1;
          })
      by_stage (On p) on =
          subst
          (λ s. WentOn g c d N x
          (gone_by s g c d m (record { path = x.path; waiting = w; frames = x.frames; stages = x.stages })) best)
          (sym on) (record {
            part = record {
              under = fold_keeps g c d N (record { path = x.path; waiting = w; frames = x.frames; stages = x.stages }) m p m_in t.under t.coming on;
              least = part.least;
            };
            falls = omega (arith, long, folded_length p x.frames);
            fresh = λ n n_in still. still;
          })
      by_stage Done ended =
          subst
          (λ s. WentOn g c d N x
          (gone_by s g c d m (record { path = x.path; waiting = w; frames = x.frames; stages = x.stages })) best)
          (sym ended) (record {
            part = record {
              under = skipped g c d N (record { path = x.path; waiting = w; frames = x.frames; stages = x.stages }) m t.under ended;
              least = part.least;
            };
            falls = omega (arith, long);
            fresh = λ n n_in still. still;
          })

  -- the last frame ends
  pub went_shut : (x : WalkList) (f : Frame) (rest : List Frame) (best best2 : Option ℕ)
      → IsPart g c d N x best
      → x.frames ≡ f ∷ rest
      → length x.waiting ≤ f.waits
      → (IsCyclic g c (drop f.first x.path) × (best2 ≡ offered g d (drop f.first x.path) best))
      ⊎ ((IsCyclic g c (drop f.first x.path) → ⊥) × (best2 ≡ best))
      → WentOn g c d N x (shut f rest x) best2
  went_shut x f rest best best2 part e none_waits either = record {
    part = record { under = close_keeps g c d N set_is x part.under f rest e none_waits; least = least either };
    falls = omega (arith, ap length e, left_kept (drop f.first x.path) x.stages low);
    fresh = close_fresh g c d N set_is x part.under f rest e none_waits;
  }
    where
      low : (n : ℕ) → IsMember n (drop f.first x.path) → n < length x.stages
      low n m = from (member-place n (drop f.first x.path) m)
        where
          from : Place n (drop f.first x.path) → n < length x.stages
          from p =
              let at = part.under.inside (f.first + p.place) (omega (arith, p.below, length-drop f.first x.path)) in
              let here : get_or x.path (f.first + p.place) 0 ≡ n = sym (get_or-drop f.first x.path p.place 0) ∙ p.holds 0 in
              subst (λ k. k < length x.stages) here (omega (arith, set_is.low (get_or x.path (f.first + p.place) 0) at.0, part.under.sized))

      least : (IsCyclic g c (drop f.first x.path) × (best2 ≡ offered g d (drop f.first x.path) best))
          ⊎ ((IsCyclic g c (drop f.first x.path) → ⊥) × (best2 ≡ best))
          → IsLeast (IsDoneLoop g c d N (shut f rest x)) best2
      least (inl cyclic) =
          subst (IsLeast (IsDoneLoop g c d N (shut f rest x))) (sym cyclic.1)
          (close_cyclic g c d N set_is x part.under f rest e none_waits best cyclic.0 part.least)
      least (inr plain) =
          subst (IsLeast (IsDoneLoop g c d N (shut f rest x))) (sym plain.1)
          (close_plain g c d N set_is x part.under f rest e none_waits best plain.0 part.least)

  -- a walk that is under way is fit for a step
  pub fit_of : (x : WalkList) → IsUnder g c d N [] x → IsFit g x
  fit_of x is = record { sized = is.sized; path_low = on_path; waiting_low = in_waiting; framed = is.framed }
    where
      on_path : (n : ℕ) → IsMember n x.path → n < size g
      on_path n m = from (member-place n x.path m)
        where
          from : Place n x.path → n < size g
          from p = set_is.low n (subst (λ k. IsMember k N) (p.holds 0) (is.inside p.place p.below).0)

      in_waiting : (n : ℕ) → IsMember n x.waiting → n < size g
      in_waiting n m = from (member-place n x.waiting m)
        where
          from : Place n x.waiting → n < size g
          from p =
              let o = is.owned p.place p.below in
              let parent = is.inside o.place o.low in
              set_is.low n
              (subst (λ k. IsMember k N) (p.holds 0)
              (set_is.closed (get_or x.path o.place 0) (get_or x.waiting p.place 0) parent.0 o.child.0))

  -- a walk begins at a new node, where nothing is on the path
  pub root_begins : (x : WalkList) (m : ℕ) (best : Option ℕ)
      → IsPart g c d N x best
      → x.path ≡ []
      → IsMember m N
      → d ≤ priority_at g m
      → stage_of x m ≡ New
      → Began g c d N m x (entered g c d m x) best
  root_begins x m best part path m_in high new =
      let m_low : m < length x.stages = omega (arith, set_is.low m m_in, part.under.sized) in
      record {
        part = record {
          under = enter_keeps g c d N x m m_in high (set_is.low m m_in) (also_looked_at g c d N x m part.under) new
              (λ p low. absurd (omega (arith, ap length path)));
          least = enter_least x m best m_low new part.least;
        };
        fresh = λ n n_in still. (enter_fresh x m n m_low still).1;
        met = λ is_high still. (enter_fresh x m m m_low still).0 refl;
      }

  -- nothing was met
  pub nothing_done : (x : WalkList)
      → IsUnder g c d N [] x
      → ((n : ℕ) → IsMember n N → stage_of x n ≡ New)
      → IsPart g c d N x None
  nothing_done x under new = record {
    under = under;
    least = λ n loop. let fresh = new n loop.0 in let ended = loop.1 in absurd (cc);
  }

  -- where nothing is left on the path, what was met is done
  pub all_met : (x : WalkList)
      → IsUnder g c d N [] x
      → x.frames ≡ []
      → (n : ℕ)
      → IsMember n N
      → (stage_of x n ≡ New → ⊥)
      → stage_of x n ≡ Done
  all_met x is over n n_in met = by_stage (stage_of x n) refl
    where
      by_stage : (s : Stage) → stage_of x n ≡ s → stage_of x n ≡ Done
      by_stage New e = absurd (met e)
      by_stage (On p) e =
          let place = is.placed n p n_in e in
          let none = subst (IsFramed (length x.path) (length x.waiting)) over is.framed in
          absurd (omega (arith, place.0, none.0))
      by_stage Done e = e

  -- and the least loop of those that are done is that of all
  pub least_of_all : (x : WalkList) (best : Option ℕ)
      → IsPart g c d N x best
      → x.frames ≡ []
      → ((n : ℕ) → IsMember n N → d ≤ priority_at g n → stage_of x n ≡ New → ⊥)
      → IsLeast (λ n. IsMember n N × IsLoop g c d n) best
  least_of_all x best part over met =
      same_least (IsDoneLoop g c d N x) (λ n. IsMember n N × IsLoop g c d n) best (λ n h. (h.0, h.2)) from part.least
    where
      from : (n : ℕ) → IsMember n N × IsLoop g c d n → IsDoneLoop g c d N x n
      from n h = (h.0, all_met x part.under over n h.0 (met n h.0 (omega (arith, h.1.0))), h.1)

-- what a call that went well says, and what follows from it
pub on_ok : {T E : Type 0} → (P Q : Type 0) (answer : Result T E) → (P → Q) → OnOk answer P → OnOk answer Q
on_ok P Q (Ok u) f h = f h
on_ok P Q (Err e) f h = h
