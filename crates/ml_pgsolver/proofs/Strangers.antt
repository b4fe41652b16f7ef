-- The first id of an entry that is none of the ids.
--
--   references           == the vertices and moves of entries ought to be ids
--   entry_stranger       == an id of a row that is none of the ids stands somewhere
use Rattle.std.proofs.Common.{◌≡◌, ℕ, zero, suc, true, false, ◌||◌, ◌==◌, List, [], ◌∷◌, map, Option, Some, None, refl, sym, ◌∙◌, ap, subst, arith}
use Rattle.std.specs.List.{flat_map}
use Rattle.std.proofs.lemmas.Bool.Decides.{nat_tests}
use Rattle.ml_lines.specs.Reading.{value}
use Rattle.ml_lists.specs.Member.{IsMember}
use Rattle.ml_lists.proofs.Member.{member-flat_map, member-map_from}
use Rattle.ml_pgsolver.specs.Refusals.{roles_from}
use Rattle.ml_pgsolver.specs.SolutionGrammar.{Entry, reference_at_place}
use Rattle.ml_pgsolver.specs.Tokens.{Token, Number, Name, Parity, Comma, Semicolon, Stray}
use Rattle.ml_pgsolver.specs.private.Claiming.{RowsHaveStranger, is_reference, row_ids}
use Rattle.ml_pgsolver.proofs.FirstStranger.{Referring, Stranger, stranger_there}
use Rattle.ml_pgsolver.proofs.SolutionComings.{entry_references, entry_row}

pub reference_there : (n : ℕ) (digits : List ℕ) → is_reference n ≡ true → reference_at_place n (Number digits) ≡ value digits ∷ []
reference_there zero digits is = refl
reference_there (suc zero) digits is = absurd (cc)
reference_there (suc (suc zero)) digits is = refl
reference_there (suc (suc (suc n))) digits is =
    let no_zero : (suc (suc (suc n)) == 0) ≡ false = grind (arith, nat_tests) in
    let no_two : (suc (suc (suc n)) == 2) ≡ false = grind (arith, nat_tests) in
    let neither : is_reference (suc (suc (suc n))) ≡ false =
    ap (λ b. b || (suc (suc (suc n)) == 2)) no_zero ∙ ap (λ b. false || b) no_two in
    let wrong : false ≡ true = sym neither ∙ is in absurd (cc)

pub no_reference : (n : ℕ) (digits : List ℕ) → is_reference n ≡ false → reference_at_place n (Number digits) ≡ []
no_reference zero digits is = absurd (cc)
no_reference (suc zero) digits is = refl
no_reference (suc (suc zero)) digits is = absurd (cc)
no_reference (suc (suc (suc n))) digits is = refl

pub numbers : (n : ℕ) (t : Token) → ((digits : List ℕ) → t ≡ Number digits → ⊥) → reference_at_place n t ≡ []
numbers n (Number digits) other = absurd (other digits refl)
numbers zero (Name inner) other = refl
numbers zero Parity other = refl
numbers zero Comma other = refl
numbers zero Semicolon other = refl
numbers zero (Stray x) other = refl
numbers (suc zero) t other = refl
numbers (suc (suc zero)) (Name inner) other = refl
numbers (suc (suc zero)) Parity other = refl
numbers (suc (suc zero)) Comma other = refl
numbers (suc (suc zero)) Semicolon other = refl
numbers (suc (suc zero)) (Stray x) other = refl
numbers (suc (suc (suc n))) t other = refl

abbrev pub references : Referring
references = record {
  start = 1;
  refers = is_reference;
  role = reference_at_place;
  there = reference_there;
  nowhere = no_reference;
  numbers = numbers;
}

row_references : (e : Entry) (m : ℕ) → IsMember m (row_ids (entry_row e)) → IsMember m (entry_references e)
row_references e m member = by e.move_to member
  where
    by : (to : Option (List ℕ))
        → IsMember m (row_ids (entry_row (record { vertex = e.vertex; winner = e.winner; move_to = to })))
        → IsMember m (entry_references (record { vertex = e.vertex; winner = e.winner; move_to = to }))
    by None inside = inside
    by (Some digits) inside = inside

pub entry_stranger : (ids : List ℕ) (es : List Entry) (ts : List Token)
    → roles_from reference_at_place 1 ts ≡ flat_map entry_references es
    → RowsHaveStranger ids (map entry_row es)
    → Stranger ids references ts
entry_stranger ids es ts listed (r, member, (m, inside, none)) =
    let from = member-map_from entry_row r es member in
    let in_entry = row_references from.from m (subst (λ x. IsMember m (row_ids x)) from.holds inside) in
    stranger_there ids references m ts
    (subst (IsMember m) (sym listed) (member-flat_map entry_references from.from m es from.member in_entry))
    none
