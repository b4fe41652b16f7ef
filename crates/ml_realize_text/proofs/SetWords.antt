-- Sets of names as words.
--
--   none_members, no_words  == the empty set has no members, and is written `-`
--   without_first, with_first == a set without and with its first name
--   members_behind          == what stands behind the members of a set, where its first name is among them
--   some_members, some_words == each other set below 2^n has members, and is written by them
--   set_some                == the words of a set are some
--   fewer_members           == the members of a set but for the first one are those of a set
--   IsMembers               == the words are the members of some set
use Rattle.std.proofs.Common.{◌≡◌, ◌≢◌, ℕ, ◌+◌, ◌*◌, ◌<◌, ◌^◌, ◌/◌, ◌%◌, ◌==◌, ◌⊎◌, true, false, List, [], ◌∷◌, length, drop, codes, if◌then◌else◌, inl, inr, refl, sym, ap, ◌∙◌, arith}
use Rattle.std.proofs.lemmas.Bool.{cases_eq}
use Rattle.std.proofs.lemmas.Bool.Decides.{nat_tests}
use Rattle.std.proofs.Math.Nat.{pow-succ'}
use Rattle.ml_lines.specs.Lines.{Word}
use Rattle.ml_realize_text.specs.RealizeText.{or_dash, set_words}
use Rattle.ml_task.specs.NameSets.{members}

pub none_members : (ns : List Word) → members ns 0 ≡ []
none_members [] = refl
none_members (n ∷ ns) = none_members ns

pub no_words : (ns : List Word) → set_words ns 0 ≡ codes "-" ∷ []
no_words ns = ap or_dash (none_members ns)

-- ---- the first name

pub with_name : (n : Word) (ns : List Word) (s : ℕ) → s % 2 ≡ 1 → members (n ∷ ns) s ≡ n ∷ members ns (s / 2)
with_name n ns s odd =
    let yes : (s % 2 == 1) ≡ true = grind (arith, nat_tests) in
    ap (λ b. if b then n ∷ members ns (s / 2) else members ns (s / 2)) yes

pub without_name : (n : Word) (ns : List Word) (s : ℕ) → s % 2 ≢ 1 → members (n ∷ ns) s ≡ members ns (s / 2)
without_name n ns s even =
    let no_one : (s % 2 == 1) ≡ false = grind (arith, nat_tests) in
    ap (λ b. if b then n ∷ members ns (s / 2) else members ns (s / 2)) no_one

pub with_first : (n : Word) (ns : List Word) (s : ℕ) → members (n ∷ ns) (2 * s + 1) ≡ n ∷ members ns s
with_first n ns s =
    with_name n ns (2 * s + 1) (omega arith)
    ∙ ap (λ k. n ∷ members ns k) (let e : (2 * s + 1) / 2 ≡ s = omega arith in e)

pub without_first : (n : Word) (ns : List Word) (s : ℕ) → members (n ∷ ns) (2 * s) ≡ members ns s
without_first n ns s =
    without_name n ns (2 * s) (λ odd. omega (arith, odd)) ∙ ap (members ns) (let e : 2 * s / 2 ≡ s = omega arith in e)

pub odd_or_even : (s : ℕ) → (s % 2 ≡ 1) ⊎ (s % 2 ≢ 1)
odd_or_even s = cases_eq (s % 2) 1

pub twice : (n : Word) (ns : List Word) → 2 ^ length (n ∷ ns) ≡ 2 * 2 ^ length ns
twice n ns = pow-succ' 2 (length ns)

-- ---- some members

pub some_members : (ns : List Word) (s : ℕ) → s < 2 ^ length ns → 0 < s → 0 < length (members ns s)
some_members [] s below some = absurd (omega (arith, below, some))
some_members (n ∷ ns) s below some = go (odd_or_even s) (some_members ns (s / 2))
  where
    go : (s % 2 ≡ 1) ⊎ (s % 2 ≢ 1)
        → (s / 2 < 2 ^ length ns → 0 < s / 2 → 0 < length (members ns (s / 2)))
        → 0 < length (members (n ∷ ns) s)
    go (inl odd) more = let e = ap length (with_name n ns s odd) in omega (arith, e)
    go (inr even) more =
        let e = ap length (without_name n ns s even) in
        let half : s / 2 < 2 ^ length ns = omega (arith, below, twice n ns) in
        let one : 0 < s / 2 = omega (arith, some, even) in
        omega (arith, e, more half one)

dash_some : (ws : List Word) → 0 < length (or_dash ws)
dash_some [] = omega arith
dash_some (w ∷ ws) = omega arith

pub set_some : (ns : List Word) (s : ℕ) → 0 < length (set_words ns s)
set_some ns s = dash_some (members ns s)

pub members_alone : (ws : List Word) → 0 < length ws → or_dash ws ≡ ws
members_alone [] some = absurd (omega (arith, some))
members_alone (w ∷ ws) some = refl

pub some_words : (ns : List Word) (s : ℕ) → s < 2 ^ length ns → 0 < s → set_words ns s ≡ members ns s
some_words ns s below some = members_alone (members ns s) (some_members ns s below some)

-- ---- the members but for the first one

abbrev pub IsMembers : List Word → List Word → Type 0
IsMembers ns ws = (s : ℕ) × (ws ≡ members ns s)

pub fewer_members : (ns : List Word) (s : ℕ) (w : Word) (ws : List Word) → w ∷ ws ≡ members ns s → IsMembers ns ws
fewer_members [] s w ws is = absurd (cc)
fewer_members (n ∷ ns) s w ws is = go (odd_or_even s) (fewer_members ns (s / 2) w ws)
  where
    go : (s % 2 ≡ 1) ⊎ (s % 2 ≢ 1)
        → (w ∷ ws ≡ members ns (s / 2) → IsMembers ns ws)
        → IsMembers (n ∷ ns) ws
    go (inl odd) fewer = (2 * (s / 2), ap (drop 1) (is ∙ with_name n ns s odd) ∙ sym (without_first n ns (s / 2)))
    go (inr even) fewer =
        let rest = fewer (is ∙ without_name n ns s even) in (2 * rest.0, rest.1 ∙ sym (without_first n ns rest.0))

pub some_sets : (ns : List Word) → 0 < 2 ^ length ns
some_sets [] = omega arith
some_sets (n ∷ ns) = omega (arith, some_sets ns, twice n ns)
