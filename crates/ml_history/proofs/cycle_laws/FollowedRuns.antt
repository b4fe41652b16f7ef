-- The stacks that a run meets.
--
-- Along a run from a state with a stack each state has a stack, and the stacks make a walk with the marks of the steps.
--
--   Followed h w s q    == the item at the end of a run along w, with the walk of stacks to it
--   follow              == each run is followed so
--   follow_accepting    == where the run accepts, so does some step of the walk
--   after-append, marks-append, after_times, marks_times == words one behind another
--   one_stack           == a state has one stack in a history
use Rattle.std.proofs.Common.{ℕ, zero, suc, ◌≡◌, ◌<◌, ◌⊎◌, inl, inr, arith, Bool, true, List, [], ◌∷◌, ◌++◌, map, length, refl, sym, subst, ap, ◌∙◌}
use Rattle.ml_lists.specs.Ascending.{IsAscending}
use Rattle.ml_lists.specs.Member.{IsMember}
use Rattle.ml_lists.specs.Repeated.{repeated}
use Rattle.ml_lists.proofs.Member.{member-map}
use Rattle.ml_trace.specs.declared.letters.Transition.{Transition}
use Rattle.ml_trace.specs.Run.{Run, AcceptingRun, in_letter}
use Rattle.ml_trace.specs.Stack.{Item}
use Rattle.ml_history.specs.HistoryStep.{stepped, step_mark}
use Rattle.ml_history.specs.HistoryRuns.{after, marks_along}
use Rattle.ml_history.proofs.cycle_laws.ConstantFront.{Walk, walk_marks, SomeAccepts}
use Rattle.ml_history.proofs.definition.StackStep.{StackStepTo, stack_step}

-- the item at the end of a run along w to q, with the walk of stacks to it
pub record Followed (h : List (Item ℕ)) (w : List (List Transition)) (s : List ℕ) (q : ℕ) : Type 0 where
  pub item : Item ℕ
  pub member : IsMember item (after h w)
  pub state_is : item.state ≡ q
  pub walk : Walk (length w) s item.stack
  pub marks_are : walk_marks (length w) s item.stack walk ≡ marks_along h w

-- one step in front
in_front : (h : List (Item ℕ)) (l : List Transition) (w : List (List Transition)) (s : List ℕ) (p q : ℕ)
    (accepts : Bool) (t : StackStepTo h l s p accepts)
    → Followed (stepped h l) w t.item.stack q
    → Followed h (l ∷ w) s q
in_front h l w s p q accepts t f = record {
  item = f.item;
  member = f.member;
  state_is = f.state_is;
  walk = (t.item.stack, t.step, f.walk);
  marks_are = ap (λ m. m ∷ walk_marks (length w) t.item.stack f.item.stack f.walk) t.mark_is
      ∙ ap (λ ms. step_mark h l ∷ ms) f.marks_are;
}

-- each run is followed so
pub follow : (h : List (Item ℕ)) (w : List (List Transition)) (p q : ℕ)
    → Run in_letter w p q
    → (a : Item ℕ)
    → IsMember a h
    → a.state ≡ p
    → Followed h w a.stack q
follow h [] p q run a m starts = record { item = a; member = m; state_is = starts ∙ run; walk = refl; marks_are = refl }
follow h (l ∷ w) p q run a m starts =
    let t = stack_step h l a run.0 run.1 m (subst (λ v. in_letter l v run.0 run.1) (sym starts) run.2) in
    in_front h l w a.stack run.0 q run.1 t (follow (stepped h l) w run.0 q run.3 t.item t.member t.state_is)

-- a run that accepts, followed
pub record FollowedAccepting (h : List (Item ℕ)) (w : List (List Transition)) (s : List ℕ) (q : ℕ) : Type 0 where
  pub followed : Followed h w s q
  pub accepts : SomeAccepts (length w) s followed.item.stack followed.walk

-- where the run accepts, so does some step of the walk
pub follow_accepting : (h : List (Item ℕ)) (w : List (List Transition)) (p q : ℕ)
    → AcceptingRun in_letter w p q
    → (a : Item ℕ)
    → IsMember a h
    → a.state ≡ p
    → FollowedAccepting h w a.stack q
unfolding in_front
follow_accepting h [] p q run a m starts = absurd run
follow_accepting h (l ∷ w) p q (inl run) a m starts =
    let t = stack_step h l a run.0 true m (subst (λ v. in_letter l v run.0 true) (sym starts) run.1) in
    record {
      followed = in_front h l w a.stack run.0 q true t
          (follow (stepped h l) w run.0 q run.2 t.item t.member t.state_is);
      accepts = inl t.accepting_is;
    }
follow_accepting h (l ∷ w) p q (inr run) a m starts =
    let t = stack_step h l a run.0 run.1 m (subst (λ v. in_letter l v run.0 run.1) (sym starts) run.2) in
    let f = follow_accepting (stepped h l) w run.0 q run.3 t.item t.member t.state_is in
    record {
      followed = in_front h l w a.stack run.0 q run.1 t f.followed;
      accepts = inr f.accepts;
    }

-- ---- words one behind another

pub after-append : (h : List (Item ℕ)) (u v : List (List Transition)) → after h (u ++ v) ≡ after (after h u) v
after-append h [] v = refl
after-append h (l ∷ u) v = after-append (stepped h l) u v

pub marks-append : (h : List (Item ℕ)) (u v : List (List Transition))
    → marks_along h (u ++ v) ≡ marks_along h u ++ marks_along (after h u) v
marks-append h [] v = refl
marks-append h (l ∷ u) v = ap (λ ms. step_mark h l ∷ ms) (marks-append (stepped h l) u v)

-- a word that leads back does so several times over
pub after_times : (h : List (Item ℕ)) (w : List (List Transition)) (k : ℕ) → after h w ≡ h → after h (repeated k w) ≡ h
after_times h w zero returns = refl
after_times h w (suc k) returns = after-append h w (repeated k w) ∙ ap (λ g. after g (repeated k w)) returns
    ∙ after_times h w k returns

-- with the marks several times over
pub marks_times : (h : List (Item ℕ)) (w : List (List Transition)) (k : ℕ)
    → after h w ≡ h
    → marks_along h (repeated k w) ≡ repeated k (marks_along h w)
marks_times h w zero returns = refl
marks_times h w (suc k) returns =
    marks-append h w (repeated k w)
    ∙ ap (λ g. marks_along h w ++ marks_along g (repeated k w)) returns
    ∙ ap (λ ms. marks_along h w ++ ms) (marks_times h w k returns)

-- ---- one stack for a state

-- a state has one item where states ascend
pub one_stack : (h : List (Item ℕ)) (a b : Item ℕ)
    → IsAscending (map (λ (c : Item ℕ). c.state) h)
    → IsMember a h
    → IsMember b h
    → a.state ≡ b.state
    → a ≡ b
one_stack [] a b ascends ma mb same = absurd ma
one_stack (c ∷ cs) a b ascends ma mb same = by_place ma mb (λ la lb. one_stack cs a b ascends.1 la lb same)
  where
    above : (v : Item ℕ) → IsMember v cs → c.state < v.state
    above v m = ascends.0 v.state (member-map (λ (u : Item ℕ). u.state) v cs m)

    apart : (v u : Item ℕ) → v ≡ c → IsMember u cs → v.state ≡ u.state → ⊥
    apart v u is m e =
        let low = above u m in
        let states = ap (λ (x : Item ℕ). x.state) is in
        omega arith

    by_place : (a ≡ c) ⊎ IsMember a cs → (b ≡ c) ⊎ IsMember b cs → (IsMember a cs → IsMember b cs → a ≡ b) → a ≡ b
    by_place (inl ia) (inl ib) rest = ia ∙ sym ib
    by_place (inl ia) (inr lb) rest = absurd (apart a b ia lb same)
    by_place (inr la) (inl ib) rest = absurd (apart b a ib la (sym same))
    by_place (inr la) (inr lb) rest = rest la lb
