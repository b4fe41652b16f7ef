-- The step of a stack along a transition.
--
-- Along a transition from a state with a stack, the target takes a stack that the offer does not beat, which is then
-- cut and renumbered. The second law looks at a run in this way alone.
--
--   StackStep s u    == a step from the stack s to the stack u
--   stack_step       == each transition of a letter from a state of a history makes one
use Rattle.std.proofs.Common.{ℕ, ◌≡◌, ◌*◌, arith, Bool, true, false, not, List, map, refl, ltb}
use Rattle.std.proofs.lemmas.Bool.{and_parts, and_from, not-true}
use Rattle.ml_lists.specs.Counting.{count}
use Rattle.ml_lists.specs.Member.{IsMember}
use Rattle.ml_trace.specs.declared.letters.Transition.{Transition}
use Rattle.ml_trace.specs.declared.marks.Mark.{Mark}
use Rattle.ml_trace.specs.declared.marks.Mark.TheVariants.{Red, Green}
use Rattle.ml_trace.specs.MarkOrder.{mark_le}
use Rattle.ml_trace.specs.Run.{in_letter}
use Rattle.ml_trace.specs.Stack.{Item, has}
use Rattle.ml_history.specs.HistoryStep.{live, offers, offered, beats, taken_along, is_full, is_red, is_green, survives, through, stepped, step_mark}
use Rattle.ml_history.proofs.definition.Offers.{offer_in}
use Rattle.ml_history.proofs.definition.OneStep.{behind_in, cut_survives, full_below}
use Rattle.ml_history.proofs.definition.StepMark.{mark_of-red, mark_of-le}
use Rattle.ml_history.proofs.definition.TakenOffers.{taken_by}

-- a step from the stack s to the stack u
pub record StackStep (s u : List ℕ) : Type 0 where
  -- how many names are in use before it
  pub used : ℕ
  -- the transition accepts
  pub accepting : Bool
  -- what the target takes, which the offer does not beat
  pub taken : List ℕ
  pub unbeaten : beats (offered used accepting s) taken ≡ false
  -- which names are full, and which survive
  pub full : ℕ → Bool
  pub alive : ℕ → Bool
  pub cut_alive : (z : ℕ) → has z (through full taken) ≡ true → alive z ≡ true
  -- the stack behind the step
  pub behind : u ≡ map (count alive) (through full taken)
  -- the mark of the step
  pub mark : Mark
  pub red_dies : (x : ℕ) → mark ≡ Red x → alive x ≡ false
  pub green_marks : (x : ℕ) → full x ≡ true → alive x ≡ true → mark_le mark (Green x) ≡ true

-- a transition from a state with a stack: the stack of the target behind the step, and the step to it
pub record StackStepTo (h : List (Item ℕ)) (letter : List Transition) (s : List ℕ) (q : ℕ) (accepts : Bool) : Type 0
  where
    pub item : Item ℕ
    pub member : IsMember item (stepped h letter)
    pub state_is : item.state ≡ q
    pub step : StackStep s item.stack
    pub mark_is : step.mark ≡ step_mark h letter
    pub accepting_is : step.accepting ≡ accepts

-- a name below the number of names in use that is full and survives is at or above the mark
green_mark : (h : List (Item ℕ)) (letter : List Transition) (x : ℕ)
    → is_full (taken_along h letter) x ≡ true
    → survives (taken_along h letter) x ≡ true
    → mark_le (step_mark h letter) (Green x) ≡ true
green_mark h letter x full alive =
    let low = full_below h letter x full in
    mark_of-le (is_red (live h) (taken_along h letter)) (is_green (taken_along h letter)) (2 * live h) x (omega arith)
    (and_from (is_full (taken_along h letter) x) (survives (taken_along h letter) x) full alive)

-- the name of a mark Red x does not survive
red_mark : (h : List (Item ℕ)) (letter : List Transition) (x : ℕ)
    → step_mark h letter ≡ Red x
    → survives (taken_along h letter) x ≡ false
red_mark h letter x e =
    let says = mark_of-red (is_red (live h) (taken_along h letter)) (is_green (taken_along h letter)) (2 * live h) x
    e in
    not-true (survives (taken_along h letter) x)
    (and_parts (ltb x (live h)) (not (survives (taken_along h letter) x)) says.passes).1

-- each transition of a letter from a state of a history makes a step of its stack
pub stack_step : (h : List (Item ℕ)) (letter : List Transition) (a : Item ℕ) (q : ℕ) (accepts : Bool)
    → IsMember a h
    → in_letter letter a.state q accepts
    → StackStepTo h letter a.stack q accepts
stack_step h letter a q accepts m t =
    let o : Item ℕ = record { state = q; stack = offered (live h) accepts a.stack } in
    let b = taken_by (offers h letter) o
    (offer_in h letter o
    (record { source = a; member = m; accepting = accepts; transition = t; stack_is = refl })) in
    record {
      item = record {
        state = b.item.state;
        stack = map (count (survives (taken_along h letter))) (through (is_full (taken_along h letter)) b.item.stack);
      };
      member = behind_in (taken_along h letter) b.item b.member;
      state_is = b.state_is;
      step = record {
        used = live h;
        accepting = accepts;
        taken = b.item.stack;
        unbeaten = b.unbeaten;
        full = is_full (taken_along h letter);
        alive = survives (taken_along h letter);
        cut_alive = λ z n. cut_survives (taken_along h letter) b.item z b.member n;
        behind = refl;
        mark = step_mark h letter;
        red_dies = red_mark h letter;
        green_marks = green_mark h letter;
      };
      mark_is = refl;
      accepting_is = refl;
    }
