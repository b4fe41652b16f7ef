-- A step behind an operand, split as a program does it: frames are popped first, and then the sign is taken.
--
--   reduce-popped   == a frame whose operand doesn't take the sign is popped
--   reduce-stops    == one whose operand takes it stays
--   behind-reduce   == a step behind an operand is to reduce, and then to resolve
--   step-behind     == the same, by what reducing gave
--   close-reduce    == so is the end of a text, where nothing follows
--   reduce-same     == signs that no operand takes reduce alike
use Rattle.std.proofs.Common.{◌≡◌, ℕ, true, false, [], ◌∷◌, Option, Some, None, refl, sym, ◌∙◌, ap, ⊎_elim}
use Rattle.std.proofs.lemmas.Bool.{cases_Bool, cond-true, cond-false}
use Rattle.ml_text.specs.Grammar.{Grammar, Mode, Whole, More, right_level, takes}
use Rattle.ml_text.specs.private.Machine.{Frame, Held, Left, Stack, State, frame_sort, frame_level, step, behind, whole_of, close, popped, reduced, reduce, resolve}
use Rattle.ml_text.proofs.Complete.{behind-popped, behind-taken}

pub reduce-popped : (g : Grammar) (n : Option g.Sign) (fr : Frame g) (stack : Stack g) (v : g.Tree)
    → takes g (frame_sort g fr) (frame_level g fr) n ≡ false
    → reduce g n (fr ∷ stack) v ≡ reduced g (λ w. reduce g n stack w) (popped g fr v) stack
reduce-popped g n (Held k) stack v e =
    cond-false (takes g (g.sort k) (g.level k) n) (Whole v, Held k ∷ stack)
    (reduced g (λ w. reduce g n stack w) (g.resume k v) stack) e
reduce-popped g n (Left s m o u) stack v e =
    cond-false (takes g s (right_level g s m) n) (Whole v, Left s m o u ∷ stack) (reduce g n stack (g.join o u v)) e

pub reduce-stops : (g : Grammar) (n : Option g.Sign) (fr : Frame g) (stack : Stack g) (v : g.Tree)
    → takes g (frame_sort g fr) (frame_level g fr) n ≡ true
    → reduce g n (fr ∷ stack) v ≡ (Whole v, fr ∷ stack)
reduce-stops g n (Held k) stack v e =
    cond-true (takes g (g.sort k) (g.level k) n) (Whole v, Held k ∷ stack)
    (reduced g (λ w. reduce g n stack w) (g.resume k v) stack) e
reduce-stops g n (Left s m o u) stack v e =
    cond-true (takes g s (right_level g s m) n) (Whole v, Left s m o u ∷ stack) (reduce g n stack (g.join o u v)) e

-- a state, resolved
abbrev pub resolved : (g : Grammar) → g.Sign → State g → Option (State g)
resolved g t s = resolve g s.0 s.1 t

step-reduced : (g : Grammar) (t : g.Sign) (m : Mode g.Tree g.Wait) (stack : Stack g)
    → ((v : g.Tree) → behind g stack v t ≡ resolved g t (reduce g (Some t) stack v))
    → step g m stack t ≡ resolved g t (reduced g (λ w. reduce g (Some t) stack w) m stack)
step-reduced g t (Whole v) stack later = later v
step-reduced g t (More q) stack later = refl

pub behind-reduce : (g : Grammar) (stack : Stack g) (v : g.Tree) (t : g.Sign)
    → behind g stack v t ≡ resolved g t (reduce g (Some t) stack v)
behind-reduce g [] v t = refl
behind-reduce g (fr ∷ stack) v t =
    ⊎_elim
    (λ (taken : takes g (frame_sort g fr) (frame_level g fr) (Some t) ≡ true). behind-taken g (fr ∷ stack) v t taken
    ∙ sym (ap (resolved g t) (reduce-stops g (Some t) fr stack v taken)))
    (λ (untaken : takes g (frame_sort g fr) (frame_level g fr) (Some t) ≡ false). behind-popped g fr stack v t untaken
    ∙ step-reduced g t (popped g fr v) stack (λ w. behind-reduce g stack w t)
    ∙ sym (ap (resolved g t) (reduce-popped g (Some t) fr stack v untaken)))
    (cases_Bool (takes g (frame_sort g fr) (frame_level g fr) (Some t)))

-- the tree of a whole form
abbrev pub tree_of : {Tree Wait : Type 0} → Mode Tree Wait → Option Tree
tree_of (Whole w) = Some w
tree_of (More q) = None

close-reduced : (g : Grammar) (m : Mode g.Tree g.Wait) (stack : Stack g)
    → ((v : g.Tree) → close g stack v ≡ tree_of (reduce g None stack v).0)
    → whole_of (λ w. close g stack w) m ≡ tree_of (reduced g (λ w. reduce g None stack w) m stack).0
close-reduced g (Whole v) stack later = later v
close-reduced g (More q) stack later = refl

pub close-reduce : (g : Grammar) (stack : Stack g) (v : g.Tree) → close g stack v ≡ tree_of (reduce g None stack v).0
close-reduce g [] v = refl
close-reduce g (Held k ∷ stack) v = close-reduced g (g.resume k v) stack (λ w. close-reduce g stack w)
close-reduce g (Left s m o u ∷ stack) v = close-reduce g stack (g.join o u v)

reduced-same : (g : Grammar) (m : Mode g.Tree g.Wait) (stack : Stack g) (a b : g.Tree → State g)
    → ((w : g.Tree) → a w ≡ b w)
    → reduced g a m stack ≡ reduced g b m stack
reduced-same g (Whole w) stack a b same = same w
reduced-same g (More q) stack a b same = refl

pub reduce-same : (g : Grammar) (n k : Option g.Sign)
    → ((s : g.Sort) (l : ℕ) → takes g s l n ≡ takes g s l k)
    → (stack : Stack g) (v : g.Tree)
    → reduce g n stack v ≡ reduce g k stack v
reduce-same g n k same [] v = refl
reduce-same g n k same (fr ∷ stack) v =
    let here : takes g (frame_sort g fr) (frame_level g fr) n ≡ takes g (frame_sort g fr) (frame_level g fr) k =
    same (frame_sort g fr) (frame_level g fr) in
    ⊎_elim
    (λ (taken : takes g (frame_sort g fr) (frame_level g fr) k ≡ true). reduce-stops g n fr stack v (here ∙ taken)
    ∙ sym (reduce-stops g k fr stack v taken))
    (λ (untaken : takes g (frame_sort g fr) (frame_level g fr) k ≡ false).
    reduce-popped g n fr stack v (here ∙ untaken)
    ∙ reduced-same g (popped g fr v) stack (λ w. reduce g n stack w) (λ w. reduce g k stack w)
    (λ w. reduce-same g n k same stack w)
    ∙ sym (reduce-popped g k fr stack v untaken))
    (cases_Bool (takes g (frame_sort g fr) (frame_level g fr) k))

-- a step behind an operand, by what its reducing gave
pub step-behind : (g : Grammar) (stack under : Stack g) (v : g.Tree) (m : Mode g.Tree g.Wait) (t : g.Sign)
    → (m, under) ≡ reduce g (Some t) stack v
    → resolve g m under t ≡ step g (Whole v) stack t
step-behind g stack under v m t is = ap (resolved g t) is ∙ sym (behind-reduce g stack v t)
