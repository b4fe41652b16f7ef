-- A constant front of the stacks round a loop.
--
-- A walk is a list of stack steps. On a walk that comes back to its stack, and on which some transition accepts, take
-- the longest front with which all stacks begin. If its last name were full at no step, the accepting transition would
-- give the stack a name behind the front, which then can only fall, and so stays as it is round the loop: the front
-- would not be the longest. So its last name is full at some step; there the mark is at or below green for this name,
-- and no mark on the walk is red for a name at or below it.
--
--   Walk n s c          == n stack steps lead from s to c
--   walk_marks          == their marks
--   SomeAccepts         == some transition of the walk accepts
--   Starts p s          == the stack s begins with p
--   EachStarts p        == each stack on the walk does
--   EachQuiet p         == the last name of p is full at no step
--   SomeFull p          == it is full at some step
--   carry, carry_new    == a name that follows the front goes on to do so; an accepting transition gives one
--   flat                == if it is no lower at the end, it is the same all along
--   front_found         == some front with which all stacks begin has a last name that is full at some step
--   full_mark           == so some mark is at or below green for this name
--   red_above           == and each red mark is above it
use Rattle.std.proofs.Common.{ℕ, zero, suc, ◌≡◌, ◌+◌, ◌<◌, ◌≤◌, ◌⊎◌, inl, inr, arith, Bool, true, false, List, [], ◌∷◌, ◌++◌, refl, sym, subst, ap, ◌∙◌, append_assoc}
use Rattle.std.proofs.lemmas.Bool.{cases_Bool, cases_lt, cases_eq}
use Rattle.ml_lists.specs.Counting.{count}
use Rattle.ml_lists.specs.Member.{IsMember}
use Rattle.ml_lists.proofs.Ranks.{count_lost}
use Rattle.ml_lists.proofs.Entries.{same_head}
use Rattle.ml_trace.specs.declared.marks.Mark.{Mark}
use Rattle.ml_trace.specs.declared.marks.Mark.TheVariants.{Red, Green}
use Rattle.ml_trace.specs.MarkOrder.{mark_le}
use Rattle.ml_trace.specs.Stack.{has, ends_in}
use Rattle.ml_trace.proofs.Stacks.{ends-has, one_end}
use Rattle.ml_history.specs.HistoryStep.{offered, beats, last_name}
use Rattle.ml_history.proofs.cycle_laws.FrontStep.{Quiet, FollowedBy, front_kept, front_followed}
use Rattle.ml_history.proofs.definition.OfferedStacks.{offered-accepting, offered-plain, last_name-ends}
use Rattle.ml_history.proofs.definition.StackStep.{StackStep}

-- n stack steps lead from s to c
abbrev pub Walk : ℕ → List ℕ → List ℕ → Type 0
Walk zero s c = s ≡ c
Walk (suc n) s c = (next : List ℕ) × StackStep s next × Walk n next c

-- the marks of the steps
abbrev pub walk_marks : (n : ℕ) (s c : List ℕ) → Walk n s c → List Mark
walk_marks zero s c w = []
walk_marks (suc n) s c w = w.1.mark ∷ walk_marks n w.0 c w.2

-- some transition accepts
abbrev pub SomeAccepts : (n : ℕ) (s c : List ℕ) → Walk n s c → Type 0
SomeAccepts zero s c w = ⊥
SomeAccepts (suc n) s c w = (w.1.accepting ≡ true) ⊎ SomeAccepts n w.0 c w.2

-- the stack begins with p
pub record Starts (p s : List ℕ) : Type 0 where
  pub rest : List ℕ
  pub is : s ≡ p ++ rest

-- each stack on the walk begins with p
abbrev pub EachStarts : List ℕ → (n : ℕ) (s c : List ℕ) → Walk n s c → Type 0
EachStarts p zero s c w = Starts p s
EachStarts p (suc n) s c w = Starts p s × EachStarts p n w.0 c w.2

-- the last name of p is full at no step
abbrev pub EachQuiet : List ℕ → (n : ℕ) (s c : List ℕ) → Walk n s c → Type 0
EachQuiet p zero s c w = Unit {0}
EachQuiet p (suc n) s c w = Quiet w.1.full p × EachQuiet p n w.0 c w.2

-- the last name of p is full at some step
abbrev pub SomeFull : List ℕ → (n : ℕ) (s c : List ℕ) → Walk n s c → Type 0
SomeFull p zero s c w = ⊥
SomeFull p (suc n) s c w = ((z : ℕ) × (ends_in z p ≡ true) × (w.1.full z ≡ true)) ⊎ SomeFull p n w.0 c w.2

-- ---- lists

-- what follows one front in two ways is the same
same_rest : (p a b : List ℕ) → p ++ a ≡ p ++ b → a ≡ b
same_rest [] a b e = e
same_rest (x ∷ xs) a b e = let f : xs ++ a ≡ xs ++ b = cc in same_rest xs a b f

-- a front with a name at its end
longer_front : (p : List ℕ) (x : ℕ) (rest : List ℕ) → p ++ x ∷ rest ≡ (p ++ x ∷ []) ++ rest
longer_front p x rest = sym (append_assoc p (x ∷ []) rest)

-- ---- one step

-- what is offered begins with p if the stack does
offered_starts : (r : ℕ) (accepts : Bool) (p s : List ℕ) → Starts p s → Starts p (offered r accepts s)
offered_starts r accepts p s st = by_test (cases_Bool accepts)
  where
    by_test : (accepts ≡ true) ⊎ (accepts ≡ false) → Starts p (offered r accepts s)
    by_test (inl t) = record {
      rest = st.rest ++ (r + last_name s) ∷ [];
      is = offered-accepting r accepts s t ∙ ap (λ v. v ++ (r + last_name s) ∷ []) st.is
          ∙ append_assoc p st.rest ((r + last_name s) ∷ []);
    }
    by_test (inr f) = record { rest = st.rest; is = offered-plain r accepts s f ∙ st.is }

-- what is offered has the name behind the front if the stack does
offered_followed : (r : ℕ) (accepts : Bool) (p s : List ℕ) (x : ℕ) (rest : List ℕ)
    → s ≡ p ++ x ∷ rest
    → Starts (p ++ x ∷ []) (offered r accepts s)
offered_followed r accepts p s x rest e =
    offered_starts r accepts (p ++ x ∷ []) s (record { rest = rest; is = e ∙ longer_front p x rest })

-- the step goes from an offer that has x behind the front
from_offer : (p s u : List ℕ) (step : StackStep s u)
    → Quiet step.full p
    → Starts p u
    → (x : ℕ) (o : List ℕ)
    → offered step.used step.accepting s ≡ p ++ x ∷ o
    → FollowedBy p x u
from_offer p s u step quiet st x o e =
    let unbeaten : beats (p ++ x ∷ o) step.taken ≡ false = subst (λ v. beats v step.taken ≡ false) e step.unbeaten in
    let f = front_followed step.full step.alive p o step.taken st.rest x quiet unbeaten (sym step.behind ∙ st.is) in
    record { name = f.name; rest = f.rest; is = st.is ∙ ap (λ v. p ++ v) f.is; low = f.low }

-- a name that follows the front goes on to do so, and doesn't rise
followed_step : (p s u : List ℕ) (step : StackStep s u)
    → Quiet step.full p
    → Starts p u
    → (x : ℕ)
    → FollowedBy p x s
    → FollowedBy p x u
followed_step p s u step quiet st x f =
    let o = offered_followed step.used step.accepting p s f.name f.rest f.is in
    let g = from_offer p s u step quiet st f.name o.rest (o.is ∙ sym (longer_front p f.name o.rest)) in
    record { name = g.name; rest = g.rest; is = g.is; low = omega (arith, g.low, f.low) }

-- some name follows the front
pub record Followed (p s : List ℕ) : Type 0 where
  pub name : ℕ
  pub rest : List ℕ
  pub is : s ≡ p ++ name ∷ rest

-- an accepting transition gives one
followed_new : (p s u : List ℕ) (step : StackStep s u)
    → Quiet step.full p
    → Starts p s
    → Starts p u
    → step.accepting ≡ true
    → Followed p u
followed_new p s u step quiet before st accepts = by_rest before.rest before.is
  where
    from : (x : ℕ) (o : List ℕ) → offered step.used step.accepting s ≡ p ++ x ∷ o → Followed p u
    from x o e = let f = from_offer p s u step quiet st x o e in record { name = f.name; rest = f.rest; is = f.is }

    by_rest : (rest : List ℕ) → s ≡ p ++ rest → Followed p u
    by_rest [] e =
        from (step.used + last_name s) []
        (offered-accepting step.used step.accepting s accepts ∙ ap (λ v. v ++ (step.used + last_name s) ∷ []) e
        ∙ append_assoc p [] ((step.used + last_name s) ∷ []))
    by_rest (x ∷ xs) e =
        from x (xs ++ (step.used + last_name s) ∷ [])
        (offered-accepting step.used step.accepting s accepts ∙ ap (λ v. v ++ (step.used + last_name s) ∷ []) e
        ∙ append_assoc p (x ∷ xs) ((step.used + last_name s) ∷ []))

-- a name of the front survives with its number
kept_at : (p s u : List ℕ) (step : StackStep s u)
    → Starts p s
    → Starts p u
    → (z : ℕ)
    → has z p ≡ true
    → (count step.alive z ≡ z) × (step.alive z ≡ true)
kept_at p s u step before st z n =
    let o = offered_starts step.used step.accepting p s before in
    front_kept step.full step.alive p o.rest step.taken st.rest
    (subst (λ v. beats v step.taken ≡ false) o.is step.unbeaten) (sym step.behind ∙ st.is) step.cut_alive z n

-- ---- walks

-- the first stack begins with p
first_starts : (p : List ℕ) (n : ℕ) (s c : List ℕ) (w : Walk n s c) → EachStarts p n s c w → Starts p s
first_starts p zero s c w each = each
first_starts p (suc n) s c w each = each.0

-- a name that follows the front goes on to do so
carry : (p : List ℕ) (n : ℕ) (s c : List ℕ) (w : Walk n s c)
    → EachStarts p n s c w
    → EachQuiet p n s c w
    → (x : ℕ)
    → FollowedBy p x s
    → FollowedBy p x c
carry p zero s c w each quiet x f = subst (FollowedBy p x) w f
carry p (suc n) s c w each quiet x f =
    carry p n w.0 c w.2 each.1 quiet.1 x (followed_step p s w.0 w.1 quiet.0 (first_starts p n w.0 c w.2 each.1) x f)

-- with an accepting transition, some name follows the front at the end
carry_new : (p : List ℕ) (n : ℕ) (s c : List ℕ) (w : Walk n s c)
    → EachStarts p n s c w
    → EachQuiet p n s c w
    → SomeAccepts n s c w
    → Followed p c
carry_new p zero s c w each quiet some = absurd some
carry_new p (suc n) s c w each quiet (inl here) =
    let f = followed_new p s w.0 w.1 quiet.0 each.0 (first_starts p n w.0 c w.2 each.1) here in
    let g = carry p n w.0 c w.2 each.1 quiet.1 f.name
    (record { name = f.name; rest = f.rest; is = f.is; low = omega arith }) in
    record { name = g.name; rest = g.rest; is = g.is }
carry_new p (suc n) s c w each quiet (inr later) = carry_new p n w.0 c w.2 each.1 quiet.1 later

-- if it is no lower at the end, it is the same in front
same_name : (p : List ℕ) (n : ℕ) (s c : List ℕ) (w : Walk n s c)
    → EachStarts p n s c w
    → EachQuiet p n s c w
    → (x : ℕ) (f : FollowedBy p x s) (z : ℕ) (rest : List ℕ)
    → c ≡ p ++ z ∷ rest
    → x ≤ z
    → Starts (p ++ x ∷ []) s
same_name p n s c w each quiet x f z rest e le =
    let g = carry p n s c w each quiet f.name (record { name = f.name; rest = f.rest; is = f.is; low = omega arith }) in
    let h : g.name ≡ z = same_head g.name z g.rest rest (same_rest p (g.name ∷ g.rest) (z ∷ rest) (sym g.is ∙ e)) in
    let is : f.name ≡ x = omega (arith, f.low, g.low, h) in
    record { rest = f.rest; is = f.is ∙ ap (λ v. p ++ v ∷ f.rest) is ∙ longer_front p x f.rest }

-- and all along
flat : (p : List ℕ) (n : ℕ) (s c : List ℕ) (w : Walk n s c)
    → EachStarts p n s c w
    → EachQuiet p n s c w
    → (x : ℕ) (f : FollowedBy p x s) (z : ℕ) (rest : List ℕ)
    → c ≡ p ++ z ∷ rest
    → x ≤ z
    → EachStarts (p ++ x ∷ []) n s c w
flat p zero s c w each quiet x f z rest e le = same_name p zero s c w each quiet x f z rest e le
flat p (suc n) s c w each quiet x f z rest e le = (
  same_name p (suc n) s c w each quiet x f z rest e le,
  flat p n w.0 c w.2 each.1 quiet.1 x (followed_step p s w.0 w.1 quiet.0 (first_starts p n w.0 c w.2 each.1) x f) z rest
      e le,
)

-- a quiet front of a loop with an accepting transition gets one name longer
pub longer : (p : List ℕ) (n : ℕ) (s c : List ℕ) (w : Walk n s c)
    → c ≡ s
    → EachStarts p n s c w
    → EachQuiet p n s c w
    → SomeAccepts n s c w
    → (x : ℕ) × EachStarts (p ++ x ∷ []) n s c w
longer p n s c w closed each quiet some =
    let f = carry_new p n s c w each quiet some in (
      f.name,
      flat p n s c w each quiet f.name
          (record { name = f.name; rest = f.rest; is = sym closed ∙ f.is; low = omega arith }) f.name f.rest f.is
          (omega arith),
    )

-- ---- the longest front

-- at one step, the last name of p is full or not
full_or_quiet : (full : ℕ → Bool) (p : List ℕ) → ((z : ℕ) × (ends_in z p ≡ true) × (full z ≡ true)) ⊎ Quiet full p
full_or_quiet full [] = inr (λ z e. absurd (cc))
full_or_quiet full (x ∷ xs) = by_test (cases_Bool (full (last_name (x ∷ xs))))
  where
    ends : ends_in (last_name (x ∷ xs)) (x ∷ xs) ≡ true
    ends = last_name-ends (x ∷ xs) (λ e. cc)

    by_test : (full (last_name (x ∷ xs)) ≡ true) ⊎ (full (last_name (x ∷ xs)) ≡ false)
        → ((z : ℕ) × (ends_in z (x ∷ xs) ≡ true) × (full z ≡ true)) ⊎ Quiet full (x ∷ xs)
    by_test (inl t) = inl (last_name (x ∷ xs), ends, t)
    by_test (inr f) = inr (λ z e. subst (λ v. full v ≡ false) (one_end (last_name (x ∷ xs)) z (x ∷ xs) ends e) f)

-- the last name of p is full at some step, or at none
decide : (p : List ℕ) (n : ℕ) (s c : List ℕ) (w : Walk n s c) → SomeFull p n s c w ⊎ EachQuiet p n s c w
decide p zero s c w = inr tt
decide p (suc n) s c w = by_step (full_or_quiet w.1.full p) (decide p n w.0 c w.2)
  where
    by_step : ((z : ℕ) × (ends_in z p ≡ true) × (w.1.full z ≡ true)) ⊎ Quiet w.1.full p
        → SomeFull p n w.0 c w.2 ⊎ EachQuiet p n w.0 c w.2
        → SomeFull p (suc n) s c w ⊎ EachQuiet p (suc n) s c w
    by_step (inl here) rest = inl (inl here)
    by_step (inr quiet) (inl later) = inl (inr later)
    by_step (inr quiet) (inr others) = inr (quiet, others)

-- a front with which all stacks begin, whose last name is full at some step
pub record FrontFound (n : ℕ) (s c : List ℕ) (w : Walk n s c) : Type 0 where
  pub front : List ℕ
  pub each : EachStarts front n s c w
  pub full : SomeFull front n s c w

-- on a loop with an accepting transition there is one: the front p is made longer while its last name is quiet, at
-- most up to the whole stack p, rest
from_front : (p rest : List ℕ) (n : ℕ) (s c : List ℕ) (w : Walk n s c)
    → c ≡ s
    → SomeAccepts n s c w
    → EachStarts p n s c w
    → s ≡ p ++ rest
    → FrontFound n s c w
from_front p [] n s c w closed some each e = by_case (decide p n s c w)
  where
    no_more : (x : ℕ) × EachStarts (p ++ x ∷ []) n s c w → ⊥
    no_more l =
        let st = first_starts (p ++ l.0 ∷ []) n s c w l.1 in
        let wrong : [] ≡ l.0 ∷ st.rest =
        same_rest p [] (l.0 ∷ st.rest) (sym e ∙ st.is ∙ sym (longer_front p l.0 st.rest)) in
        cc

    by_case : SomeFull p n s c w ⊎ EachQuiet p n s c w → FrontFound n s c w
    by_case (inl full) = record { front = p; each = each; full = full }
    by_case (inr quiet) = absurd (no_more (longer p n s c w closed each quiet some))
from_front p (y ∷ ys) n s c w closed some each e =
    by_case (decide p n s c w) (from_front (p ++ y ∷ []) ys n s c w closed some)
  where
    same_next : (x : ℕ) → EachStarts (p ++ x ∷ []) n s c w → x ≡ y
    same_next x l =
        let st = first_starts (p ++ x ∷ []) n s c w l in
        same_head x y st.rest ys (same_rest p (x ∷ st.rest) (y ∷ ys) (longer_front p x st.rest ∙ sym st.is ∙ e))

    by_case : SomeFull p n s c w ⊎ EachQuiet p n s c w
        → (EachStarts (p ++ y ∷ []) n s c w → s ≡ (p ++ y ∷ []) ++ ys → FrontFound n s c w)
        → FrontFound n s c w
    by_case (inl full) more = record { front = p; each = each; full = full }
    by_case (inr quiet) more =
        let l = longer p n s c w closed each quiet some in
        more (subst (λ x. EachStarts (p ++ x ∷ []) n s c w) (same_next l.0 l.1) l.1) (e ∙ longer_front p y ys)

-- all stacks begin with the empty front
all_start : (n : ℕ) (s c : List ℕ) (w : Walk n s c) → EachStarts [] n s c w
all_start zero s c w = record { rest = s; is = refl }
all_start (suc n) s c w = (record { rest = s; is = refl }, all_start n w.0 c w.2)

-- some front with which all stacks begin has a last name that is full at some step
pub front_found : (n : ℕ) (s c : List ℕ) (w : Walk n s c) → c ≡ s → SomeAccepts n s c w → FrontFound n s c w
front_found n s c w closed some = from_front [] s n s c w closed some (all_start n s c w) refl

-- ---- marks

-- a mark of the walk that is at or below Green z, for the last name z of p
pub record MarkFound (p : List ℕ) (n : ℕ) (s c : List ℕ) (w : Walk n s c) : Type 0 where
  pub name : ℕ
  pub ends : ends_in name p ≡ true
  pub mark : Mark
  pub member : IsMember mark (walk_marks n s c w)
  pub low : mark_le mark (Green name) ≡ true

-- where the last name of the front is full at some step, some mark is at or below green for it
pub full_mark : (p : List ℕ) (n : ℕ) (s c : List ℕ) (w : Walk n s c)
    → EachStarts p n s c w
    → SomeFull p n s c w
    → MarkFound p n s c w
full_mark p zero s c w each some = absurd some
full_mark p (suc n) s c w each (inl here) =
    let kept = kept_at p s w.0 w.1 each.0 (first_starts p n w.0 c w.2 each.1) here.0 (ends-has here.0 p here.1) in
    record {
      name = here.0;
      ends = here.1;
      mark = w.1.mark;
      member = inl refl;
      low = w.1.green_marks here.0 here.2 kept.1;
    }
full_mark p (suc n) s c w each (inr later) =
    let m = full_mark p n w.0 c w.2 each.1 later in
    record { name = m.name; ends = m.ends; mark = m.mark; member = inr m.member; low = m.low }

-- each red mark of the walk is above each name of the front
pub red_above : (p : List ℕ) (n : ℕ) (s c : List ℕ) (w : Walk n s c)
    → EachStarts p n s c w
    → (z : ℕ)
    → has z p ≡ true
    → (x : ℕ)
    → IsMember (Red x) (walk_marks n s c w)
    → z < x
red_above p zero s c w each z h x m = absurd m
red_above p (suc n) s c w each z h x (inr later) = red_above p n w.0 c w.2 each.1 z h x later
red_above p (suc n) s c w each z h x (inl here) = by_place (cases_lt z x) (cases_eq x z)
  where
    kept : (count w.1.alive z ≡ z) × (w.1.alive z ≡ true)
    kept = kept_at p s w.0 w.1 each.0 (first_starts p n w.0 c w.2 each.1) z h

    dead : w.1.alive x ≡ false
    dead = w.1.red_dies x (sym here)

    by_place : (z < x) ⊎ (x ≤ z) → (x ≡ z) ⊎ (x ≡ z → ⊥) → z < x
    by_place (inl low) e = low
    by_place (inr high) (inl same) = let wrong : w.1.alive x ≡ true =
        subst (λ v. w.1.alive v ≡ true) (sym same) kept.1 in let d = dead in absurd (cc)
    by_place (inr high) (inr other) = let less : x < z = omega arith in let k = kept in
        absurd (omega (arith, count_lost w.1.alive x z less dead, k.0))
