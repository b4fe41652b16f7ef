-- A text is accepted or refused, never both, and refused in one way at most.
--
--   refused_once         == the first cause and its place are unique
--   accepted_not_refused == an accepted text is refused for no cause
--   refused_one_way      == but for want of memory, a text has one refusal at most
--   accepted_no_refusal  == an accepted text has no other
--   refused_for          == a cause that comes first has a refusal
--   refused_first        == what comes of a text, where it is a refusal, is one by that cause
--   one_answer           == where what comes of each text is right, texts have one answer
use Rattle.std.proofs.Common.{◌≡◌, ℕ, ◌<◌, ◌≤◌, ◌⊎◌, List, length, refl, sym, ◌∙◌, ap, inl, inr, arith}
use Rattle.ml_base.specs.declared.parse_refusal.ParseRefusal.{ParseRefusal}
use Rattle.ml_base.specs.declared.parse_refusal.ParseRefusal.TheVariants as refusal
use Rattle.ml_text.specs.Answers.{HaveOneAnswer}
use Rattle.ml_text.specs.Refusals.{Item, Cause, Syntax, TooMany, TooNested, NameTooLong, rank, IsRefused, IsAccepted, ComesFirst, IsRefusedBy, offset_of, signs_of}
use Rattle.ml_text.specs.private.Progress.{IsRefusal, refusal_of}
use Rattle.ml_text.specs.private.Reading.{Outcome, Found, Refused}

one_rank : (c d : Cause) → rank c ≤ rank d → rank d ≤ rank c → c ≡ d
one_rank Syntax Syntax a b = refl
one_rank TooMany TooMany a b = refl
one_rank TooNested TooNested a b = refl
one_rank NameTooLong NameTooLong a b = refl
one_rank Syntax TooMany a b = absurd (omega arith)
one_rank Syntax TooNested a b = absurd (omega arith)
one_rank Syntax NameTooLong a b = absurd (omega arith)
one_rank TooMany Syntax a b = absurd (omega arith)
one_rank TooMany TooNested a b = absurd (omega arith)
one_rank TooMany NameTooLong a b = absurd (omega arith)
one_rank TooNested Syntax a b = absurd (omega arith)
one_rank TooNested TooMany a b = absurd (omega arith)
one_rank TooNested NameTooLong a b = absurd (omega arith)
one_rank NameTooLong Syntax a b = absurd (omega arith)
one_rank NameTooLong TooMany a b = absurd (omega arith)
one_rank NameTooLong TooNested a b = absurd (omega arith)

-- one comes first, and so does the other
both_first : (c d : Cause) (k j : ℕ)
    → (k < j) ⊎ ((k ≡ j) × (rank c ≤ rank d))
    → (j < k) ⊎ ((j ≡ k) × (rank d ≤ rank c))
    → (c ≡ d) × (k ≡ j)
both_first c d k j (inl a) (inl b) = absurd (omega arith)
both_first c d k j (inl a) (inr b) = absurd (omega (arith, b.0))
both_first c d k j (inr a) (inl b) = absurd (omega (arith, a.0))
both_first c d k j (inr a) (inr b) = (one_rank c d a.1 b.1, a.0)

pub refused_once : {Sign Tree : Type 0} (R : List Sign → Tree → Type 0) (items : List (Item Sign)) (c d : Cause)
    (k j : ℕ)
    → IsRefused R items c k
    → IsRefused R items d j
    → (c ≡ d) × (k ≡ j)
refused_once R items c d k j a b = both_first c d k j (a.first d j b.comes) (b.first c k a.comes)

pub accepted_not_refused : {Sign Tree : Type 0} (R : List Sign → Tree → Type 0) (items : List (Item Sign)) (f : Tree)
    (c : Cause) (k : ℕ)
    → IsAccepted R items f
    → IsRefused R items c k
    → ⊥
accepted_not_refused R items f c k a b = a.keeps c k b.comes

-- ---- refusals

-- the cause of a refusal, and its place
abbrev cause_of : ParseRefusal → Cause
cause_of (refusal.TooMany at) = TooMany
cause_of (refusal.TooNested at) = TooNested
cause_of (refusal.NameTooLong at) = NameTooLong
cause_of _ = Syntax

abbrev place_of : ParseRefusal → ℕ
place_of (refusal.Syntax at) = at
place_of (refusal.TooMany at) = at
place_of (refusal.TooNested at) = at
place_of (refusal.NameTooLong at) = at
place_of _ = 0

record Reason {Sign Tree : Type 0} (R : List Sign → Tree → Type 0) (items : List (Item Sign)) (end : ℕ)
    (e : ParseRefusal) : Type 0 where
  pub first : ComesFirst R items end (cause_of e) (place_of e)
  pub back : refusal_of (cause_of e) (place_of e) ≡ e

reason : {Sign Tree : Type 0} (R : List Sign → Tree → Type 0) (items : List (Item Sign)) (end : ℕ) (e : ParseRefusal)
    → (e ≡ refusal.NoMemory → ⊥)
    → IsRefusedBy R items end e
    → Reason R items end e
reason R items end (refusal.Syntax at) some is = record { first = is; back = refl }
reason R items end (refusal.TooMany at) some is = record { first = is; back = refl }
reason R items end (refusal.TooNested at) some is = record { first = is; back = refl }
reason R items end (refusal.NameTooLong at) some is = record { first = is; back = refl }
reason R items end (refusal.Unbound at) some is = absurd is
reason R items end (refusal.NotPositive at) some is = absurd is
reason R items end refusal.NoMemory some is = absurd (some refl)

pub refused_one_way : {Sign Tree : Type 0} (R : List Sign → Tree → Type 0) (items : List (Item Sign)) (end : ℕ)
    (e d : ParseRefusal)
    → (e ≡ refusal.NoMemory → ⊥)
    → (d ≡ refusal.NoMemory → ⊥)
    → IsRefusedBy R items end e
    → IsRefusedBy R items end d
    → e ≡ d
refused_one_way R items end e d a b p q =
    let r = reason R items end e a p in
    let s = reason R items end d b q in
    let same = refused_once R items (cause_of e) (cause_of d) (r.first).0 (s.first).0 (r.first).1 (s.first).1 in
    let place : place_of e ≡ place_of d = (r.first).2 ∙ ap (offset_of items end) same.1 ∙ sym (s.first).2 in
    sym r.back ∙ ap (λ c. refusal_of c (place_of e)) same.0 ∙ ap (refusal_of (cause_of d)) place ∙ s.back

never : {Sign Tree : Type 0} (R : List Sign → Tree → Type 0) (items : List (Item Sign)) (end : ℕ) (f : Tree)
    (c : Cause) (at : ℕ)
    → IsAccepted R items f
    → ComesFirst R items end c at
    → ⊥
never R items end f c at accepted first = accepted_not_refused R items f c first.0 accepted first.1

pub accepted_no_refusal : {Sign Tree : Type 0} (R : List Sign → Tree → Type 0) (items : List (Item Sign)) (end : ℕ)
    (f : Tree) (e : ParseRefusal)
    → IsAccepted R items f
    → IsRefusedBy R items end e
    → e ≡ refusal.NoMemory
accepted_no_refusal R items end f (refusal.Syntax at) a is = absurd (never R items end f Syntax at a is)
accepted_no_refusal R items end f (refusal.TooMany at) a is = absurd (never R items end f TooMany at a is)
accepted_no_refusal R items end f (refusal.TooNested at) a is = absurd (never R items end f TooNested at a is)
accepted_no_refusal R items end f (refusal.NameTooLong at) a is = absurd (never R items end f NameTooLong at a is)
accepted_no_refusal R items end f (refusal.Unbound at) a is = absurd is
accepted_no_refusal R items end f (refusal.NotPositive at) a is = absurd is
accepted_no_refusal R items end f refusal.NoMemory a is = refl

pub refused_for : {Sign Tree : Type 0} (R : List Sign → Tree → Type 0) (items : List (Item Sign)) (end : ℕ)
    (c : Cause) (at : ℕ)
    → ComesFirst R items end c at
    → (e : ParseRefusal) × (e ≡ refusal.NoMemory → ⊥) × IsRefusedBy R items end e
refused_for R items end Syntax at first = (refusal.Syntax at, (λ same. cc), first)
refused_for R items end TooMany at first = (refusal.TooMany at, (λ same. cc), first)
refused_for R items end TooNested at first = (refusal.TooNested at, (λ same. cc), first)
refused_for R items end NameTooLong at first = (refusal.NameTooLong at, (λ same. cc), first)

pub refused_first : {Sign Tree Value : Type 0} (R : List Sign → Tree → Type 0) (items : List (Item Sign)) (end : ℕ)
    (out : Outcome Value)
    → ((c : Cause) (at : ℕ) → out ≡ Refused c at → ComesFirst R items end c at)
    → (e : ParseRefusal)
    → IsRefusal e out
    → IsRefusedBy R items end e
refused_first R items end out first (refusal.Syntax at) is = first Syntax at is
refused_first R items end out first (refusal.TooMany at) is = first TooMany at is
refused_first R items end out first (refusal.TooNested at) is = first TooNested at is
refused_first R items end out first (refusal.NameTooLong at) is = first NameTooLong at is
refused_first R items end out first (refusal.Unbound at) is = absurd is
refused_first R items end out first (refusal.NotPositive at) is = absurd is
refused_first R items end out first refusal.NoMemory is = tt

-- what comes of a text is an answer, where it is right
some_answer : {Sign Tree Value : Type 0} (R : List Sign → Tree → Type 0) (items : List (Item Sign)) (end : ℕ)
    (tree : Value → Tree) (out o : Outcome Value)
    → ((v : Value) → out ≡ Found v → IsAccepted R items (tree v))
    → ((c : Cause) (at : ℕ) → out ≡ Refused c at → ComesFirst R items end c at)
    → out ≡ o
    → ((f : Tree) × IsAccepted R items f) ⊎ ((e : ParseRefusal) × (e ≡ refusal.NoMemory → ⊥) × IsRefusedBy R items end e)
some_answer R items end tree out (Found v) found first is = inl (tree v, found v is)
some_answer R items end tree out (Refused c at) found first is = inr (refused_for R items end c at (first c at is))

pub one_answer : {Sign Tree Value : Type 0} (R : List Sign → Tree → Type 0) (items : List ℕ → List (Item Sign))
    (tree : Value → Tree) (out : List ℕ → Outcome Value)
    → ((ts : List Sign) (f g : Tree) → R ts f → R ts g → f ≡ g)
    → ((text : List ℕ) (v : Value) → out text ≡ Found v → IsAccepted R (items text) (tree v))
    → ((text : List ℕ) (c : Cause) (at : ℕ) → out text ≡ Refused c at → ComesFirst R (items text) (length text) c at)
    → HaveOneAnswer (λ text f. IsAccepted R (items text) f) (λ text e. IsRefusedBy R (items text) (length text) e)
one_answer R items tree out one found first = record {
  some =
      λ text. some_answer R (items text) (length text) tree (out text) (out text) (found text) (first text) refl;
  parsed = λ text f g a b. one (signs_of (items text)) f g a.stands b.stands;
  refused = λ text. refused_one_way R (items text) (length text);
  exclusive = λ text. accepted_no_refusal R (items text) (length text);
}
