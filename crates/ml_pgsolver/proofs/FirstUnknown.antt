-- The first successor that is none of the ids.
--
--   successors           == successors ought to be ids
--   stranger_among       == a successor of a row that is none of the ids stands somewhere
use Rattle.std.proofs.Common.{◌≡◌, ℕ, nat_le, List, [], sym, subst, refl}
use Rattle.std.specs.List.{flat_map}
use Rattle.std.proofs.lemmas.Bool.{cond-true, cond-false}
use Rattle.ml_lists.specs.Member.{IsMember}
use Rattle.ml_lists.proofs.Member.{member-flat_map}
use Rattle.ml_pgsolver.specs.Tokens.{Token, Number, Name, Parity, Comma, Semicolon, Stray}
use Rattle.ml_pgsolver.specs.GameText.{Row}
use Rattle.ml_pgsolver.specs.Refusals.{successor_at_place, successors_among}
use Rattle.ml_pgsolver.specs.private.Assembled.{HasUnknownIn}
use Rattle.ml_pgsolver.proofs.FirstStranger.{Referring, Stranger, stranger_there}

pub numbers : (n : ℕ) (t : Token) → ((digits : List ℕ) → t ≡ Number digits → ⊥) → successor_at_place n t ≡ []
numbers n (Number digits) other = absurd (other digits refl)
numbers n (Name inner) other = refl
numbers n Parity other = refl
numbers n Comma other = refl
numbers n Semicolon other = refl
numbers n (Stray x) other = refl

abbrev pub successors : Referring
successors = record {
  start = 0;
  refers = nat_le 3;
  role = successor_at_place;
  there = λ n digits is. cond-true _ _ _ is;
  nowhere = λ n digits is. cond-false _ _ _ is;
  numbers = numbers;
}

pub stranger_among : (ids given : List ℕ) (rows : List Row) (ts : List Token)
    → successors_among ts ≡ flat_map (λ r. r.successors) rows
    → given ≡ ids
    → HasUnknownIn given rows
    → Stranger ids successors ts
stranger_among ids given rows ts listed same_ids (r, member, (m, inside, none)) =
    stranger_there ids successors m ts
    (subst (IsMember m) (sym listed) (member-flat_map (λ (r : Row). r.successors) r m rows member inside))
    (subst (λ xs. IsMember m xs → ⊥) same_ids none)
