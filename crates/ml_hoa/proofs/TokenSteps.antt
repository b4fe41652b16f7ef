-- One piece of a text, in what comes of the tokens that are left.
--
--   piece_taken    == behind a piece that is read, what comes is what comes of the others
--   piece_stopped  == a piece that is refused is what comes
--   open_behind    == where no `"` is closed, behind a piece none is either
use Rattle.std.proofs.Common.{◌≡◌, ℕ, ◌+◌, ◌-◌, ◌<◌, ◌≤◌, ◌==◌, ◌||◌, Bool, true, false, List, [], ◌∷◌, ◌++◌, length, drop, get_or, Option, Some, None, refl, sym, ◌∙◌, ap, subst, arith}
use Rattle.std.proofs.lemmas.Bool.Decides.{nat_tests}
use Rattle.std.proofs.lemmas.List.{drop_more}
use Rattle.std.proofs.lemmas.Bool.{and_parts}
use Rattle.ml_hoa.specs.declared.refusal.HoaRefusal.{HoaRefusal}
use Rattle.ml_hoa.specs.declared.refusal.HoaRefusal.TheVariants as refusal
use Rattle.ml_hoa.specs.Tokens.{Token, Placed, placed, Piece, front_piece, quoted, closing_quote}
use Rattle.ml_hoa.specs.private.Machine.{State, Turn, Next, Past, Stuck, turn, Outcome, Read, Refused, went, outcome, IsTold, IsOutcome, IsTaken, IsStopped}
use Rattle.ml_hoa.specs.private.Views.{piece_at, is_unclosed, tokens_from}
use Rattle.ml_hoa.proofs.Pieces.{IsWithin, NoneCloses, later_unclosed, piece_within, tokens_step, tokens_end}

pub piece_taken : (s next : State) (o : Option Token) (at : ℕ) (ps : List Placed) → IsTaken s next o at
    → outcome s (placed o at ++ ps) ≡ outcome next ps
unfolding outcome
piece_taken s next None at ps is = ap (λ x. outcome x ps) is
piece_taken s next (Some t) at ps is = ap (λ u. went u at (λ n. outcome n ps)) is

stops : (e : HoaRefusal) (s : State) (t : Token) (at : ℕ) (ps : List Placed) (u : Turn) → turn s t ≡ u → IsTold e at u
    → IsOutcome e (outcome s (record { token = t; at = at } ∷ ps))
unfolding outcome
stops refusal.NoMemory s t at ps u is told = tt
stops (refusal.Syntax k) s t at ps u is told =
    ap (λ v. went v at (λ n. outcome n ps)) (is ∙ told.1) ∙ ap (λ n. Refused (refusal.Syntax n)) (sym told.0)
stops (refusal.TooMany k) s t at ps (Past next) is told =
    ap (λ v. went v at (λ n. outcome n ps)) is ∙ ap (λ n. Refused (refusal.TooMany n)) (sym told.0)
stops (refusal.TooMany k) s t at ps (Next next) is told = absurd told.1
stops (refusal.TooMany k) s t at ps Stuck is told = absurd told.1
stops (refusal.Range k) s t at ps u is told = absurd told

pub piece_stopped : (e : HoaRefusal) (s : State) (o : Option Token) (at : ℕ) (ps : List Placed) → IsStopped e s o at
    → IsOutcome e (outcome s (placed o at ++ ps))
piece_stopped e s None at ps told = absurd told
piece_stopped e s (Some t) at ps told = stops e s t at ps (turn s t) refl told

pub told_along : (e : HoaRefusal) (a b : Outcome) → a ≡ b → IsOutcome e b → IsOutcome e a
told_along e a b is told = subst (IsOutcome e) (sym is) told

-- ---- quotes

not_quoted : (xs : List ℕ) (o : Option ℕ) → (quoted xs o).size ≡ 1 → o ≡ None
not_quoted xs None is = refl
not_quoted xs (Some n) is = absurd (omega arith)

alone : (text : List ℕ) (i size : ℕ) → i < length text → size ≡ (piece_at text i).size → is_unclosed text i size ≡ true
    → closing_quote false 0 (drop (i + 1) text) ≡ None
alone text i size within is still =
    let both = and_parts (get_or text i 0 == 34) (size == 1) still in
    let quote : get_or text i 0 ≡ 34 = let e = both.0 in grind (arith, nat_tests) in
    let one : size ≡ 1 = let e = both.1 in grind (arith, nat_tests) in
    let rest = drop (i + 1) text in
    let same : (piece_at text i).size ≡ (quoted rest (closing_quote false 0 rest)).size =
    ap (λ b. (front_piece i b (drop i text)).size) quote
    ∙ ap (λ xs. (front_piece i 34 xs).size) (drop_more text i 0 within) in
    not_quoted rest (closing_quote false 0 rest) (sym same ∙ sym is ∙ one)

pub open_behind : (text : List ℕ) (i size : ℕ) (unclosed : Bool) → i < length text → size ≡ (piece_at text i).size → 0 < size
    → (unclosed ≡ true → NoneCloses text i)
    → (unclosed || is_unclosed text i size) ≡ true
    → NoneCloses text (i + size)
open_behind text i size true within is some none still = λ j low quote. none refl j (omega arith) quote
open_behind text i size false within is some none still =
    λ j low quote. later_unclosed text i (alone text i size within is still) j (omega arith) quote

-- ---- a piece that the scanner found

pub whole_step : (text : List ℕ) (at : ℕ) (p : Piece) (s next : State) → at < length text → p ≡ piece_at text at
    → IsTaken s next p.token at
    → outcome s (tokens_from text at) ≡ outcome next (tokens_from text (at + p.size))
whole_step text at p s next within is taken =
    let q = piece_at text at in
    ap (outcome s) (tokens_step text at within)
    ∙ piece_taken s next q.token at (tokens_from text (at + q.size)) (subst (λ (r : Piece). IsTaken s next r.token at) is taken)
    ∙ ap (λ (r : Piece). outcome next (tokens_from text (at + r.size))) (sym is)

pub whole_stop : (text : List ℕ) (at : ℕ) (p : Piece) (s : State) (e : HoaRefusal) → at < length text → p ≡ piece_at text at
    → IsStopped e s p.token at
    → IsOutcome e (outcome s (tokens_from text at))
whole_stop text at p s e within is told =
    let q = piece_at text at in
    told_along e _ _ (ap (outcome s) (tokens_step text at within))
    (piece_stopped e s q.token at (tokens_from text (at + q.size)) (subst (λ (r : Piece). IsStopped e s r.token at) is told))

pub size_within : (text : List ℕ) (at : ℕ) (p : Piece) → at < length text → p ≡ piece_at text at
    → IsWithin p.size (length text - at)
size_within text at p within is = subst (λ (r : Piece). IsWithin r.size (length text - at)) (sym is) (piece_within text at within)

none_left : (s : State) → outcome s [] ≡ Read s
unfolding outcome
none_left s = refl

pub whole_end : (text : List ℕ) (at : ℕ) (s : State) → length text ≤ at → outcome s (tokens_from text at) ≡ Read s
whole_end text at s past = ap (outcome s) (tokens_end text at past) ∙ none_left s
