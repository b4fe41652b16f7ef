-- Stacks laid out in flat arrays.
--
--   laid_read            == arrays that are those of some items stand for these items
--   read-length          == they stand for as many items as there are states
--   StackAt, laid-stack  == the stack at a place: the names from its start up to the next one, or to the end
--   laid_one_more        == arrays with one item more
--   laid-renamed         == the arrays of renamed items
use Rattle.std.proofs.Common.{ℕ, zero, suc, ◌≡◌, ◌+◌, ◌-◌, ◌<◌, ◌≤◌, arith, List, [], ◌∷◌, ◌++◌, length, get_or, take, drop, map, refl, sym, subst, ap, ◌∙◌, append_assoc, append-nil}
use Rattle.std.proofs.lemmas.List.{length-append, length-map, map-append}
use Rattle.ml_trace.specs.Stack.{Item}
use Rattle.ml_history.specs.HistoryOrder.{names_of}
use Rattle.ml_history.specs.private.Arrays.{starts_from, part, next_start, read, AreLaidOut, renamed}
use Rattle.ml_history.specs.private.Keys.{stack_at}

-- the middle one of three lists
drop-front : (front back : List ℕ) → drop (length front) (front ++ back) ≡ back
drop-front [] back = refl
drop-front (x ∷ front) back = drop-front front back

take-front : (front back : List ℕ) → take (length front) (front ++ back) ≡ front
take-front [] back = take_none back
  where
    take_none : (xs : List ℕ) → take 0 xs ≡ []
    take_none [] = refl
    take_none (x ∷ xs) = refl
take-front (x ∷ front) back = ap (λ l. x ∷ l) (take-front front back)

part-middle : (front stack back : List ℕ) (i j : ℕ)
    → i ≡ length front
    → j ≡ length front + length stack
    → part (front ++ (stack ++ back)) i j ≡ stack
part-middle front stack back i j at to =
    let long : j - i ≡ length stack = omega (arith, at, to) in
    ap (λ n. take n (drop i (front ++ (stack ++ back)))) long
    ∙ ap (λ n. take (length stack) (drop n (front ++ (stack ++ back)))) at
    ∙ ap (take (length stack)) (drop-front front (stack ++ back))
    ∙ take-front stack back

-- the stack before the starts of the items h ends where they start
next_start-from : (front : List ℕ) (n : ℕ) (h : List (Item ℕ))
    → n ≡ length front
    → next_start (starts_from n h) (front ++ names_of h) ≡ n
next_start-from front n [] is = ap length (append-nil front) ∙ sym is
next_start-from front n (a ∷ as') is = refl

read-behind : (front : List ℕ) (n : ℕ) (h : List (Item ℕ))
    → n ≡ length front
    → read (map (λ (a : Item ℕ). a.state) h) (starts_from n h) (front ++ names_of h) ≡ h
read-behind front n [] is = refl
read-behind front n (a ∷ as') is =
    let names = front ++ (a.stack ++ names_of as') in
    let longer : n + length a.stack ≡ length (front ++ a.stack) = omega (arith, is, length-append front a.stack) in
    let same : (front ++ a.stack) ++ names_of as' ≡ names = append_assoc front a.stack (names_of as') in
    let rest = subst (λ l. read (map (λ (b : Item ℕ). b.state) as') (starts_from (n + length a.stack) as') l ≡ as') same
    (read-behind (front ++ a.stack) (n + length a.stack) as' longer) in
    let next = subst (λ l. next_start (starts_from (n + length a.stack) as') l ≡ n + length a.stack) same
    (next_start-from (front ++ a.stack) (n + length a.stack) as' longer) in
    let stack = part-middle front a.stack (names_of as') n (next_start (starts_from (n + length a.stack) as') names) is
    (omega (arith, next, is)) in
    λ i. record { state = a.state; stack = stack i } ∷ rest i

-- arrays that are those of some items stand for these items
pub laid_read : (states starts names : List ℕ) (h : List (Item ℕ))
    → AreLaidOut states starts names h
    → read states starts names ≡ h
laid_read states starts names h l = (λ i. read (l.states_are i) (l.starts_are i) (l.names_are i))
    ∙ read-behind [] 0 h refl

-- and so they are those of the items that they stand for
pub laid_itself : (states starts names : List ℕ) (h : List (Item ℕ))
    → AreLaidOut states starts names h
    → AreLaidOut states starts names (read states starts names)
laid_itself states starts names h l = subst (AreLaidOut states starts names) (sym (laid_read states starts names h l)) l

starts-length : (n : ℕ) (h : List (Item ℕ)) → length (starts_from n h) ≡ length h
starts-length n [] = refl
starts-length n (a ∷ as') = ap suc (starts-length (n + length a.stack) as')

-- there is a state, and a start, for each item
pub states-length : (states starts names : List ℕ) (h : List (Item ℕ))
    → AreLaidOut states starts names h
    → length states ≡ length h
states-length states starts names h l = ap length l.states_are ∙ length-map h (λ (a : Item ℕ). a.state)

pub laid-starts_length : (states starts names : List ℕ) (h : List (Item ℕ))
    → AreLaidOut states starts names h
    → length starts ≡ length h
laid-starts_length states starts names h l = ap length l.starts_are ∙ starts-length 0 h

-- ---- one stack

-- the stack at a place: the names from its start up to the next one, or to the end
pub record StackAt (starts names : List ℕ) (h : List (Item ℕ)) (i : ℕ) : Type 0 where
  pub up : get_or starts i 0 ≤ get_or starts (i + 1) (length names)
  pub fits : get_or starts (i + 1) (length names) ≤ length names
  pub stack_is : part names (get_or starts i 0) (get_or starts (i + 1) (length names)) ≡ stack_at h i

stack-behind : (front : List ℕ) (n : ℕ) (h : List (Item ℕ)) (i : ℕ)
    → n ≡ length front
    → i < length h
    → StackAt (starts_from n h) (front ++ names_of h) h i
stack-behind front n [] i is low = absurd (omega arith)
stack-behind front n (a ∷ as') zero is low =
    let to = ends as' in
    record {
      up = omega (arith, to);
      fits = omega (arith, to, is, length-append front (a.stack ++ names_of as'), length-append a.stack (names_of as'));
      stack_is = part-middle front a.stack (names_of as') n
          (get_or (starts_from (n + length a.stack) as') 0 (length (front ++ (a.stack ++ names_of as')))) is
          (omega (arith, to, is));
    }
  where
    ends : (bs : List (Item ℕ))
        → get_or (starts_from (n + length a.stack) bs) 0 (length (front ++ (a.stack ++ names_of bs)))
        ≡ n + length a.stack
    ends [] = omega (arith, is, length-append front (a.stack ++ []), length-append a.stack [])
    ends (b ∷ bs) = refl
stack-behind front n (a ∷ as') (suc i) is low =
    let longer : n + length a.stack ≡ length (front ++ a.stack) = omega (arith, is, length-append front a.stack) in
    let same : (front ++ a.stack) ++ names_of as' ≡ front ++ (a.stack ++ names_of as') =
    append_assoc front a.stack (names_of as') in
    let r = subst (λ l. StackAt (starts_from (n + length a.stack) as') l as' i) same
    (stack-behind (front ++ a.stack) (n + length a.stack) as' i longer (omega arith)) in
    let e : suc i + 1 ≡ suc (i + 1) = omega arith in
    let starts = starts_from n (a ∷ as') in
    let names = front ++ names_of (a ∷ as') in
    record {
      up = subst (λ k. get_or starts (suc i) 0 ≤ get_or starts k (length names)) (sym e) r.up;
      fits = subst (λ k. get_or starts k (length names) ≤ length names) (sym e) r.fits;
      stack_is = subst (λ k. part names (get_or starts (suc i) 0) (get_or starts k (length names)) ≡ stack_at as' i)
          (sym e) r.stack_is;
    }

pub laid-stack : (states starts names : List ℕ) (h : List (Item ℕ)) (i : ℕ)
    → AreLaidOut states starts names h
    → i < length h
    → StackAt starts names h i
laid-stack states starts names h i l low =
    subst (λ b. StackAt b names h i) (sym l.starts_are)
    (subst (λ ns. StackAt (starts_from 0 h) ns h i) (sym l.names_are) (stack-behind [] 0 h i refl low))

-- ---- one item more

pub starts-append : (n : ℕ) (h : List (Item ℕ)) (a : Item ℕ)
    → starts_from n (h ++ a ∷ []) ≡ starts_from n h ++ (n + length (names_of h)) ∷ []
starts-append n [] a = let e : n ≡ n + 0 = omega arith in ap (λ m. m ∷ []) e
starts-append n (b ∷ bs) a =
    let e : (n + length b.stack) + length (names_of bs) ≡ n + length (b.stack ++ names_of bs) =
    omega (arith, length-append b.stack (names_of bs)) in
    ap (λ l. n ∷ l) (starts-append (n + length b.stack) bs a
    ∙ ap (λ m. starts_from (n + length b.stack) bs ++ m ∷ []) e)

pub names_of-append : (h g : List (Item ℕ)) → names_of (h ++ g) ≡ names_of h ++ names_of g
names_of-append [] g = refl
names_of-append (a ∷ as') g = ap (λ l. a.stack ++ l) (names_of-append as' g)
    ∙ sym (append_assoc a.stack (names_of as') (names_of g))

-- arrays with one item more
pub laid_one_more : (states starts names : List ℕ) (h : List (Item ℕ)) (a : Item ℕ)
    → AreLaidOut states starts names h
    → AreLaidOut (states ++ a.state ∷ []) (starts ++ length names ∷ []) (names ++ a.stack) (h ++ a ∷ [])
laid_one_more states starts names h a l = record {
  states_are = ap (λ s. s ++ a.state ∷ []) l.states_are ∙ sym (map-append (λ (b : Item ℕ). b.state) h (a ∷ []));
  starts_are = (λ i. l.starts_are i ++ length (l.names_are i) ∷ []) ∙ ap (λ n. starts_from 0 h ++ n ∷ []) from_none
      ∙ sym (starts-append 0 h a);
  names_are = ap (λ s. s ++ a.stack) l.names_are ∙ ap (λ s. names_of h ++ s) (sym (append-nil a.stack))
      ∙ sym (names_of-append h (a ∷ []));
}
  where
    from_none : length (names_of h) ≡ 0 + length (names_of h)
    from_none = omega arith

-- no item
pub laid_none : AreLaidOut [] [] [] []
laid_none = record { states_are = refl; starts_are = refl; names_are = refl }

-- ---- names in place of names

renamed-starts : (number : ℕ → ℕ) (n : ℕ) (h : List (Item ℕ)) → starts_from n (renamed number h) ≡ starts_from n h
renamed-starts number n [] = refl
renamed-starts number n (a ∷ as') =
    ap (λ m. n ∷ starts_from (n + m) (renamed number as')) (length-map a.stack number)
    ∙ ap (λ l. n ∷ l) (renamed-starts number (n + length a.stack) as')

renamed-states : (number : ℕ → ℕ) (h : List (Item ℕ))
    → map (λ (a : Item ℕ). a.state) (renamed number h) ≡ map (λ (a : Item ℕ). a.state) h
renamed-states number [] = refl
renamed-states number (a ∷ as') = ap (λ l. a.state ∷ l) (renamed-states number as')

renamed-names : (number : ℕ → ℕ) (h : List (Item ℕ)) → names_of (renamed number h) ≡ map number (names_of h)
renamed-names number [] = refl
renamed-names number (a ∷ as') = ap (λ l. map number a.stack ++ l) (renamed-names number as')
    ∙ sym (map-append number a.stack (names_of as'))

-- the arrays of the items with other names
pub laid-renamed : (states starts names : List ℕ) (h : List (Item ℕ)) (number : ℕ → ℕ)
    → AreLaidOut states starts names h
    → AreLaidOut states starts (map number names) (renamed number h)
laid-renamed states starts names h number l = record {
  states_are = l.states_are ∙ sym (renamed-states number h);
  starts_are = l.starts_are ∙ sym (renamed-starts number 0 h);
  names_are = ap (map number) l.names_are ∙ sym (renamed-names number h);
}
