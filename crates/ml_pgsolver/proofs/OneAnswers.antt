-- Each text has one answer.
--
--   one_game_of_text    == a text stands for one game at most
--   one_refusal         == it is refused in one way at most
--   never_both          == what is read is refused by nothing but want of memory
use Rattle.std.proofs.Common.{◌≡◌, ◌≢◌, ℕ, ◌<◌, ◌≤◌, ◌⊎◌, List, [], ◌∷◌, ◌++◌, length, map, Some, Ok, Err, refl, sym, ◌∙◌, ap, subst, arith, inl, inr}
use Rattle.std.proofs.lemmas.List.{append_assoc}
use Rattle.ml_lists.specs.Member.{IsMember}
use Rattle.ml_lists.proofs.Member.{member-append_right, member-append_left, member-flat_map_from, member-map, member-map_from, place-member}
use Rattle.ml_lists.proofs.Permuted.{permuted-member}
use Rattle.std.proofs.lemmas.List.Sorted.{IsPermutation-sym}
use Rattle.ml_pgsolver.specs.Tokens.{Token, tokens, signs_of}
use Rattle.ml_pgsolver.specs.Grammar.{Draft, vertices_of, draft_tokens}
use Rattle.ml_pgsolver.specs.GameText.{Row, NamedGame, IsGameOf, StandsFor, row_of, id_at}
use Rattle.ml_pgsolver.specs.Refusals.{Cause, Syntax, Repeated, TooMany, TooLarge, rank, next_place, place_from, place_behind, roles_from, successor_at_place}
use Rattle.ml_pgsolver.specs.Refusals.{successors_among, IsFirstFault, IsUnknown, IsFirstUnknown, ComesAt, IsReadAs, IsRefusedBy, offset_of}
use Rattle.ml_pgsolver.specs.declared.refusal.GameTextRefusal.{GameTextRefusal}
use Rattle.ml_pgsolver.specs.declared.refusal.GameTextRefusal.TheVariants as refusal
use Rattle.ml_pgsolver.specs.private.Machine.{State, Step}
use Rattle.ml_pgsolver.proofs.Trees.{grown-draft, grown_from, Start}
use Rattle.ml_pgsolver.proofs.Ended.{Whole}
use Rattle.ml_pgsolver.proofs.Outcomes.{RefusedIn}
use Rattle.ml_pgsolver.proofs.Answered.{outcome_of, answered_whole, refused_so}
use Rattle.ml_pgsolver.proofs.OneGame.{one_game, moves-within}

-- ---- one game

pub one_draft : (d e : Draft) → draft_tokens d ≡ draft_tokens e → vertices_of d ≡ vertices_of e
one_draft d e is = let d_run = grown-draft d in let e_run = grown-draft e in
    let both = ap (grown_from (Some Start)) is in cc

pub one_game_of_text : (text : List ℕ) (g h : NamedGame) → StandsFor text g → StandsFor text h → g ≡ h
one_game_of_text text g h a b =
    let same = one_draft b.draft a.draft (sym b.spelled ∙ a.spelled) in
    one_game (map row_of (vertices_of a.draft)) g h a.is_game (subst (λ vs. IsGameOf (map row_of vs) h) same b.is_game)

-- ---- one refusal

-- a refusal, by its cause; the number that ought to be an id and is none; want of memory
pub data Kind : Type 0 where
  Fault : Cause → ℕ → Kind
  Stranger : ℕ → Kind
  Nothing : Kind

abbrev pub kind : GameTextRefusal → Kind
kind (refusal.Syntax at) = Fault Syntax at
kind (refusal.Repeated at) = Fault Repeated at
kind (refusal.Unknown at) = Stranger at
kind (refusal.TooMany at) = Fault TooMany at
kind (refusal.TooLarge at) = Fault TooLarge at
kind refusal.NoMemory = Nothing

abbrev pub refusal_of : Kind → GameTextRefusal
refusal_of (Fault Syntax at) = refusal.Syntax at
refusal_of (Fault Repeated at) = refusal.Repeated at
refusal_of (Fault TooMany at) = refusal.TooMany at
refusal_of (Fault TooLarge at) = refusal.TooLarge at
refusal_of (Stranger at) = refusal.Unknown at
refusal_of Nothing = refusal.NoMemory

pub of_kind : (e : GameTextRefusal) → refusal_of (kind e) ≡ e
of_kind (refusal.Syntax at) = refl
of_kind (refusal.Repeated at) = refl
of_kind (refusal.Unknown at) = refl
of_kind (refusal.TooMany at) = refl
of_kind (refusal.TooLarge at) = refl
of_kind refusal.NoMemory = refl

abbrev Comes : List ℕ → Kind → Type 0
Comes text (Fault c at) = ComesAt text (IsFirstFault c) at
Comes text (Stranger at) = ComesAt text IsFirstUnknown at
Comes text Nothing = ⊥

comes_so : (text : List ℕ) (e : GameTextRefusal) → e ≢ refusal.NoMemory → IsRefusedBy text e → Comes text (kind e)
comes_so text (refusal.Syntax at) other is = is
comes_so text (refusal.Repeated at) other is = is
comes_so text (refusal.Unknown at) other is = is
comes_so text (refusal.TooMany at) other is = is
comes_so text (refusal.TooLarge at) other is = is
comes_so text refusal.NoMemory other is = other refl

pub one_cause : (c d : Cause) → rank c ≡ rank d → c ≡ d
one_cause Syntax Syntax is = refl
one_cause Repeated Repeated is = refl
one_cause TooMany TooMany is = refl
one_cause TooLarge TooLarge is = refl
one_cause c d is = absurd (omega arith)

-- both are the first
pub both_first : (k j m n : ℕ) → (k < j) ⊎ ((k ≡ j) × (m ≤ n)) → (j < k) ⊎ ((j ≡ k) × (n ≤ m)) → (k ≡ j) × (m ≡ n)
both_first k j m n (inl low) (inl high) = absurd (omega arith)
both_first k j m n (inl low) (inr (same, high)) = absurd (omega arith)
both_first k j m n (inr (same, low)) (inl high) = absurd (omega arith)
both_first k j m n (inr (same, low)) (inr (back, high)) = (same, omega arith)

one_kind : (text : List ℕ) (a b : Kind) → Comes text a → Comes text b → a ≡ b
one_kind text (Fault c at) (Fault d to) (k, x, is_at) (j, y, is_to) =
    let both = both_first k j (rank c) (rank d) (x.first d j y.comes) (y.first c k x.comes) in
    let cause = one_cause c d both.1 in
    let place : at ≡ to = is_at ∙ ap (offset_of (length text) (tokens text)) both.0 ∙ sym is_to in cc
one_kind text (Fault c at) (Stranger to) (k, x, is_at) (j, y, is_to) = absurd (y.faultless c k x.comes)
one_kind text (Stranger at) (Fault d to) (k, x, is_at) (j, y, is_to) = absurd (x.faultless d j y.comes)
one_kind text (Stranger at) (Stranger to) (k, x, is_at) (j, y, is_to) =
    let low = x.first j y.comes in
    let high = y.first k x.comes in
    let same : k ≡ j = omega arith in
    let place : at ≡ to = is_at ∙ ap (offset_of (length text) (tokens text)) same ∙ sym is_to in cc
one_kind text Nothing b x y = absurd x
one_kind text (Fault c at) Nothing x y = absurd y
one_kind text (Stranger at) Nothing x y = absurd y

pub one_refusal : (text : List ℕ) (e d : GameTextRefusal) → e ≢ refusal.NoMemory → d ≢ refusal.NoMemory
    → IsRefusedBy text e
    → IsRefusedBy text d
    → e ≡ d
one_refusal text e d e_other d_other e_is d_is =
    sym (of_kind e) ∙ ap refusal_of (one_kind text (kind e) (kind d) (comes_so text e e_other e_is) (comes_so text d d_other d_is))
    ∙ of_kind d

-- ---- not both

-- a text without a fault was read to its end
read_whole : (text : List ℕ) (g : NamedGame) → IsReadAs text g → (s : State) × Whole (signs_of (tokens text)) s
read_whole text g read = by (outcome_of text) refl
  where
    not_refused : (e : GameTextRefusal) → RefusedIn (tokens text) (length text) e → ⊥
    not_refused (refusal.Syntax at) (k, x, is) = read.faultless Syntax k x.comes
    not_refused (refusal.Repeated at) (k, x, is) = read.faultless Repeated k x.comes
    not_refused (refusal.Unknown at) none = none
    not_refused (refusal.TooMany at) (k, x, is) = read.faultless TooMany k x.comes
    not_refused (refusal.TooLarge at) (k, x, is) = read.faultless TooLarge k x.comes
    not_refused refusal.NoMemory none = none

    by : (out : Step) → outcome_of text ≡ out → (s : State) × Whole (signs_of (tokens text)) s
    by (Ok s) is = (s, answered_whole text s is)
    by (Err e) is = absurd (not_refused e (refused_so text e is))

-- in the game of some rows, each successor is an id
successor_known : (rows : List Row) (g : NamedGame) → IsGameOf rows g → (r : Row) → IsMember r rows → (n : ℕ)
    → IsMember n r.successors
    → IsMember n (map (λ r. r.id) rows)
successor_known rows g game r member n inside =
    let ids = g.ids in
    let ordered = permuted-member r rows game.order game.reordered member in
    let listed = subst (IsMember r.successors) (sym game.successors) (member-map (λ (q : Row). q.successors) r game.order ordered) in
    let from = member-map_from (map (id_at ids)) r.successors g.game.successors listed in
    let move = member-map_from (id_at ids) n from.from (subst (IsMember n) from.holds inside) in
    let low = moves-within g.game (length ids) game.is_named.game game.is_named.has_ids.0 from.from from.member move.from move.member in
    let is_id = subst (λ k. IsMember k ids) (sym move.holds) (place-member ids move.from 0 low) in
    let owner = member-map_from (λ (q : Row). q.id) n game.order (subst (IsMember n) game.ids is_id) in
    let there = permuted-member owner.from game.order rows (IsPermutation-sym rows game.order game.reordered) owner.member in
    subst (λ k. IsMember k (map (λ (q : Row). q.id) rows)) (sym owner.holds) (member-map (λ (q : Row). q.id) owner.from rows there)

pub roles-append : (role : ℕ → Token → List ℕ) (n : ℕ) (xs ys : List Token)
    → roles_from role n (xs ++ ys) ≡ roles_from role n xs ++ roles_from role (place_from n xs) ys
roles-append role n [] ys = refl
roles-append role n (x ∷ xs) ys =
    ap (λ zs. role n x ++ zs) (roles-append role (next_place n x) xs ys)
    ∙ sym (append_assoc (role n x) (roles_from role (next_place n x) xs) (roles_from role (place_from (next_place n x) xs) ys))

successor_listed : (ts before : List Token) (t : Token) (behind : List Token) (n : ℕ) → ts ≡ before ++ t ∷ behind
    → successor_at_place (place_behind before) t ≡ n ∷ []
    → IsMember n (successors_among ts)
successor_listed ts before t behind n is role =
    let here : IsMember n (successor_at_place (place_behind before) t) = subst (IsMember n) (sym role) (inl refl) in
    let rest = roles_from successor_at_place (next_place (place_behind before) t) behind in
    subst (IsMember n) (sym (ap successors_among is ∙ roles-append successor_at_place 0 before (t ∷ behind)))
    (member-append_right n (successors_among before) (successor_at_place (place_behind before) t ++ rest)
    (member-append_left n (successor_at_place (place_behind before) t) rest here))

no_stranger : (text : List ℕ) (g : NamedGame) → IsReadAs text g → (k : ℕ) → IsUnknown (signs_of (tokens text)) k → ⊥
no_stranger text g read k (before, t, there, (n, role, none)) =
    let ts = signs_of (tokens text) in
    let w = (read_whole text g read).1 in
    let same = one_draft w.draft read.stands.draft (sym w.spelled ∙ read.stands.spelled) in
    let rows = map row_of (vertices_of w.draft) in
    let game : IsGameOf rows g = subst (λ vs. IsGameOf (map row_of vs) g) (sym same) read.stands.is_game in
    let listed = successor_listed ts before t there.behind n there.all role in
    let from = member-flat_map_from (λ (r : Row). r.successors) n rows (subst (IsMember n) w.successors_there listed) in
    none (subst (IsMember n) (sym w.ids_there) (successor_known rows g game from.from from.member n from.inside))

pub never_both : (text : List ℕ) (g : NamedGame) (e : GameTextRefusal) → IsReadAs text g → IsRefusedBy text e → e ≡ refusal.NoMemory
never_both text g (refusal.Syntax at) read (k, x, is) = absurd (read.faultless Syntax k x.comes)
never_both text g (refusal.Repeated at) read (k, x, is) = absurd (read.faultless Repeated k x.comes)
never_both text g (refusal.Unknown at) read (k, x, is) = absurd (no_stranger text g read k x.comes)
never_both text g (refusal.TooMany at) read (k, x, is) = absurd (read.faultless TooMany k x.comes)
never_both text g (refusal.TooLarge at) read (k, x, is) = absurd (read.faultless TooLarge k x.comes)
never_both text g refusal.NoMemory read is = refl
