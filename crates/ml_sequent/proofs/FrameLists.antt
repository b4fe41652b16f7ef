-- Lists of stages, and of frames.
--
--   SomeFrame, some_frame == a list that isn't empty has a first frame
--   drop_member      == what stands behind a place is a member
--   all_done_more    == one node more is done
--   all_done_here, all_done_other == those that are done, and others
--   all_done_length  == as many stages as before
use Rattle.std.proofs.Common.{ℕ, ◌≡◌, ◌+◌, ◌<◌, ◌⊎◌, inl, inr, List, [], ◌∷◌, ◌++◌, length, get_or, set, take, drop, refl, sym, ap, ◌∙◌, subst, arith}
use Rattle.std.proofs.lemmas.Bool.{cases_eq}
use Rattle.std.proofs.lemmas.List.{take_more, get_or-set_same, get_or-set_other, length-set, get_or-drop, length-drop}
use Rattle.ml_lists.specs.Member.{IsMember}
use Rattle.ml_lists.proofs.Member.{Place, member-place, place-member}
use Rattle.ml_sequent.specs.declared.parts.Frame.{Frame}
use Rattle.ml_sequent.specs.declared.parts.Stage.{Stage}
use Rattle.ml_sequent.specs.declared.parts.Stage.TheVariants.{New, Done}
use Rattle.ml_sequent.specs.private.ConnectedParts.{all_done}

all_done-append : (ns : List ℕ) (n : ℕ) (stages : List Stage) → all_done (ns ++ n ∷ []) stages ≡ set (all_done ns stages) n Done
all_done-append [] n stages = refl
all_done-append (k ∷ ns) n stages = all_done-append ns n (set stages k Done)

-- one node more is done
pub all_done_more : (ns : List ℕ) (i : ℕ) (stages : List Stage)
    → i < length ns
    → set (all_done (take i ns) stages) (get_or ns i 0) Done ≡ all_done (take (i + 1) ns) stages
all_done_more ns i stages low =
    sym (ap (λ xs. all_done xs stages) (take_more ns i 0 low) ∙ all_done-append (take i ns) (get_or ns i 0) stages)

-- as many stages as before
pub all_done_length : (ns : List ℕ) (stages : List Stage) → length (all_done ns stages) ≡ length stages
all_done_length [] stages = refl
all_done_length (n ∷ ns) stages = all_done_length ns (set stages n Done) ∙ length-set stages n Done

-- others stay
pub all_done_other : (ns : List ℕ) (stages : List Stage) (n : ℕ)
    → (IsMember n ns → ⊥)
    → get_or (all_done ns stages) n New ≡ get_or stages n New
all_done_other [] stages n apart = refl
all_done_other (k ∷ ns) stages n apart =
    all_done_other ns (set stages k Done) n (λ m. apart (inr m))
    ∙ get_or-set_other stages k n Done New (λ e. apart (inl e))

-- what is done stays so
all_done_kept : (ns : List ℕ) (stages : List Stage) (n : ℕ)
    → n < length stages
    → get_or stages n New ≡ Done
    → get_or (all_done ns stages) n New ≡ Done
all_done_kept [] stages n low is = is
all_done_kept (k ∷ ns) stages n low is =
    all_done_kept ns (set stages k Done) n (omega (arith, length-set stages k Done)) (at (cases_eq n k))
  where
    at : (n ≡ k) ⊎ (n ≡ k → ⊥) → get_or (set stages k Done) n New ≡ Done
    at (inl same) = subst (λ j. get_or (set stages k Done) j New ≡ Done) (sym same) (get_or-set_same stages k Done New (omega arith))
    at (inr other) = get_or-set_other stages k n Done New other ∙ is

-- those that are done
pub all_done_here : (ns : List ℕ) (stages : List Stage) (n : ℕ)
    → n < length stages
    → IsMember n ns
    → get_or (all_done ns stages) n New ≡ Done
all_done_here [] stages n low m = absurd m
all_done_here (k ∷ ns) stages n low (inl same) =
    all_done_kept ns (set stages k Done) n (omega (arith, length-set stages k Done))
    (subst (λ j. get_or (set stages k Done) j New ≡ Done) (sym same) (get_or-set_same stages k Done New (omega arith)))
all_done_here (k ∷ ns) stages n low (inr later) =
    all_done_here ns (set stages k Done) n (omega (arith, length-set stages k Done)) later

-- a list that isn't empty has a first frame
pub record SomeFrame (frames : List Frame) : Type 0 where
  pub first : Frame
  pub rest : List Frame
  pub is : frames ≡ first ∷ rest

pub some_frame : (frames : List Frame) → (frames ≡ [] → ⊥) → SomeFrame frames
some_frame [] some = absurd (some refl)
some_frame (f ∷ fs) some = record { first = f; rest = fs; is = refl }

-- what stands behind a place is a member
pub drop_member : (xs : List ℕ) (k n : ℕ) → IsMember n (drop k xs) → IsMember n xs
drop_member xs k n m = from (member-place n (drop k xs) m)
  where
    from : Place n (drop k xs) → IsMember n xs
    from p =
        let here : get_or xs (k + p.place) 0 ≡ n = sym (get_or-drop k xs p.place 0) ∙ p.holds 0 in
        subst (λ j. IsMember j xs) here
        (place-member xs (k + p.place) 0 (omega (arith, p.below, length-drop k xs)))
