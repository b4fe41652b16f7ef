-- Each text of a game with a solution behind it has one answer.
--
--   one_checked         == it stands for one game with one list of claims at most
--   one_check_refusal   == it is refused in one way at most
--   never_both_checked  == what is read is refused by nothing but want of memory
use Rattle.std.proofs.Common.{◌≡◌, ◌≢◌, ℕ, ◌⊎◌, List, [], ◌∷◌, ◌++◌, length, Option, Some, None, Ok, Err, refl, sym, ◌∙◌, ap, subst, arith, inl, inr}
use Rattle.std.specs.List.{flat_map}
use Rattle.std.proofs.lemmas.List.{ext_get_or}
use Rattle.ml_game_check.specs.RightClaims.{Claims, claim_at}
use Rattle.ml_game_check.specs.declared.claims.Claim.{Claim}
use Rattle.ml_lists.specs.Ascending.{IsAscending}
use Rattle.ml_lists.specs.Member.{IsMember}
use Rattle.ml_lists.proofs.Member.{member-append_left, member-append_right, member-flat_map_from, place-member}
use Rattle.ml_pgsolver.specs.CheckedText.{AreClaimsOf, ComesBehind, ComesLast, ComesLater, IsCheckRefusedBy, IsCheckedAs, IsClaimOf, IsFirstStranger, IsMoveOf, IsStranger, game_part, solution_part}
use Rattle.ml_pgsolver.specs.GameText.{NamedGame}
use Rattle.ml_pgsolver.specs.Refusals.{Cause, HasNoFault, HasNoFaultIn, IsReadAs, IsRefusedBy, Repeated, Syntax, TooLarge, TooMany, next_place, offset_of, place_from, rank, roles_from}
use Rattle.ml_pgsolver.specs.SolutionGrammar.{Entry, SolutionDraft, reference_at_place, solution_form, solution_tokens}
use Rattle.ml_pgsolver.specs.Tokens.{Placed, Token, signs_of, tokens}
use Rattle.ml_pgsolver.specs.declared.refusal.GameTextRefusal.{GameTextRefusal}
use Rattle.ml_pgsolver.specs.declared.refusal.GameTextRefusal.TheVariants as refusal
use Rattle.ml_pgsolver.specs.private.EntryMachine.{EntryState, EntryStep, entries_come, start}
use Rattle.ml_pgsolver.specs.private.Signs.{signs_in}
use Rattle.ml_pgsolver.proofs.OneAnswers.{Kind, Fault, Stranger, both_first, kind, never_both, of_kind, refusal_of, one_cause, one_game_of_text, one_refusal, roles-append}
use Rattle.ml_pgsolver.proofs.SolutionAnswers.{WholeSolution, refused_solution, whole_solution}
use Rattle.ml_pgsolver.proofs.SolutionComings.{entry_references, move_reference}
use Rattle.ml_pgsolver.proofs.SolutionOutcomes.{RefusedIn}
use Rattle.ml_pgsolver.proofs.SolutionTrees.{solution-ended}
use Rattle.ml_pgsolver.proofs.OneGame.{one_id}

-- ---- one list of claims

one_move : (ids : List ℕ) → IsAscending ids → (to : Option (List ℕ)) (x y : Option ℕ) → IsMoveOf ids to x → IsMoveOf ids to y
    → x ≡ y
one_move ids up None None None a b = refl
one_move ids up None None (Some y) a b = absurd b
one_move ids up None (Some x) y a b = absurd a
one_move ids up (Some to) None y a b = absurd a
one_move ids up (Some to) (Some x) None a b = absurd b
one_move ids up (Some to) (Some x) (Some y) a b = ap Some (one_id ids up x y a.0 b.0 (a.1 ∙ sym b.1))

one_claim : (ids : List ℕ) → IsAscending ids → (e : Entry) (v w : ℕ) (c d : Claim) → IsClaimOf ids e v c → IsClaimOf ids e w d
    → (v ≡ w) × (c ≡ d)
one_claim ids up e v w c d a b =
    let winner : c.winner ≡ d.winner = a.winner ∙ sym b.winner in
    let move_to = one_move ids up e.move_to c.move_to d.move_to a.move_to b.move_to in (
      one_id ids up v w a.within b.within (a.vertex ∙ sym b.vertex),
      ap (λ p. let x : Claim = record { winner = p; move_to = c.move_to } in x) winner
          ∙ ap (λ m. let x : Claim = record { winner = d.winner; move_to = m } in x) move_to,
    )

-- what one list claims, the other one does
claimed_too : (ids : List ℕ) → IsAscending ids → (es : List Entry) (cs ds : Claims) → AreClaimsOf ids es cs
    → AreClaimsOf ids es ds
    → (v : ℕ) (c : Claim) → claim_at cs v ≡ Some c
    → claim_at ds v ≡ Some c
claimed_too ids up es cs ds a b v c is =
    let e = a.others v c is in
    let f = b.each e.0 e.1 in
    let one = one_claim ids up e.0 v f.0 c f.1 e.2 f.3 in
    ap (claim_at ds) one.0 ∙ f.2 ∙ ap Some (sym one.1)

one_list : (ids : List ℕ) → IsAscending ids → (es : List Entry) (cs ds : Claims) → AreClaimsOf ids es cs
    → AreClaimsOf ids es ds
    → cs ≡ ds
one_list ids up es cs ds a b =
    ext_get_or None cs ds (a.places ∙ sym b.places) (λ v low. at v (claim_at cs v) (claim_at ds v) refl refl)
  where
    at : (v : ℕ) (x y : Option Claim) → claim_at cs v ≡ x → claim_at ds v ≡ y → claim_at cs v ≡ claim_at ds v
    at v (Some c) y is_x is_y = is_x ∙ sym (claimed_too ids up es cs ds a b v c is_x)
    at v None None is_x is_y = is_x ∙ sym is_y
    at v None (Some d) is_x is_y = claimed_too ids up es ds cs b a v d is_y ∙ sym is_y

one_draft : (ts : List Token) (d e : SolutionDraft) → ts ≡ solution_tokens d → ts ≡ solution_tokens e → d.entries ≡ e.entries
one_draft ts d e is_d is_e =
    let d_run = solution-ended ts d is_d in let e_run = solution-ended ts e is_e in cc

pub one_checked : (text : List ℕ) (g h : NamedGame) (cs ds : Claims) → IsCheckedAs text g cs → IsCheckedAs text h ds
    → (g ≡ h) × (cs ≡ ds)
one_checked text g h cs ds a b =
    let game = one_game_of_text (game_part text) g h a.game.stands b.game.stands in
    let entries = one_draft (signs_of (solution_part text)) b.draft a.draft b.spelled a.spelled in
    let b_claims = subst (λ n. AreClaimsOf n.ids a.draft.entries ds) (sym game)
    (subst (λ es. AreClaimsOf h.ids es ds) entries b.claims) in
    (game, one_list g.ids a.game.stands.is_game.is_named.ascends a.draft.entries cs ds a.claims b_claims)

-- ---- not both

-- tokens of a solution without a fault were read to their end
whole_tokens : (all : List Placed) (end : ℕ) → HasNoFaultIn solution_form (signs_of all)
    → (s : EntryState) × WholeSolution (signs_of all) s
whole_tokens all end faultless = by (entries_come end start (signs_in all)) refl
  where
    not_refused : (e : GameTextRefusal) → RefusedIn all end e → ⊥
    not_refused (refusal.Syntax at) r = faultless Syntax r.0 r.1.comes
    not_refused (refusal.Repeated at) r = faultless Repeated r.0 r.1.comes
    not_refused (refusal.Unknown at) r = r
    not_refused (refusal.TooMany at) r = faultless TooMany r.0 r.1.comes
    not_refused (refusal.TooLarge at) r = faultless TooLarge r.0 r.1.comes
    not_refused refusal.NoMemory r = r

    by : (out : EntryStep) → entries_come end start (signs_in all) ≡ out → (s : EntryState) × WholeSolution (signs_of all) s
    by (Ok s) is = (s, whole_solution all end s is)
    by (Err e) is = absurd (not_refused e (refused_solution all end e is))

reference_listed : (ts before : List Token) (t : Token) (rest : List Token) (n : ℕ) → ts ≡ before ++ t ∷ rest
    → reference_at_place (place_from 1 before) t ≡ n ∷ []
    → IsMember n (roles_from reference_at_place 1 ts)
reference_listed ts before t rest n is role =
    let here : IsMember n (reference_at_place (place_from 1 before) t) = subst (IsMember n) (sym role) (inl refl) in
    let others = roles_from reference_at_place (next_place (place_from 1 before) t) rest in
    subst (IsMember n) (sym (ap (roles_from reference_at_place 1) is ∙ roles-append reference_at_place 1 before (t ∷ rest)))
    (member-append_right n (roles_from reference_at_place 1 before) (reference_at_place (place_from 1 before) t ++ others)
    (member-append_left n (reference_at_place (place_from 1 before) t) others here))

-- what an entry with a claim names is an id
move_known : (ids : List ℕ) (to : Option (List ℕ)) (x : Option ℕ) (n : ℕ) → IsMoveOf ids to x → IsMember n (move_reference to)
    → IsMember n ids
move_known ids None x n is member = absurd member
move_known ids (Some to) None n is member = absurd is
move_known ids (Some to) (Some w) n is (inl same) =
    subst (λ k. IsMember k ids) (is.1 ∙ sym same) (place-member ids w 0 is.0)
move_known ids (Some to) (Some w) n is (inr none) = absurd none

entry_known : (ids : List ℕ) (e : Entry) (v : ℕ) (c : Claim) → IsClaimOf ids e v c → (n : ℕ) → IsMember n (entry_references e)
    → IsMember n ids
entry_known ids e v c is n (inl same) = subst (λ k. IsMember k ids) (is.vertex ∙ sym same) (place-member ids v 0 is.within)
entry_known ids e v c is n (inr member) = move_known ids e.move_to c.move_to n is.move_to member

no_stranger_there : (text : List ℕ) (g : NamedGame) (cs : Claims) (a : IsCheckedAs text g cs) (k : ℕ)
    → IsStranger g.ids (signs_of (solution_part text)) k
    → ⊥
no_stranger_there text g cs a k (before, t, there, (n, role, none)) =
    let ts = signs_of (solution_part text) in
    let w = (whole_tokens (solution_part text) 0 a.faultless).1 in
    let entries = one_draft ts w.draft a.draft w.spelled a.spelled in
    let listed = reference_listed ts before t there.behind n there.all role in
    let from = member-flat_map_from entry_references n a.draft.entries
    (subst (IsMember n) (w.references ∙ ap (flat_map entry_references) entries) listed) in
    let claimed = a.claims.each from.from from.member in
    none (entry_known g.ids from.from claimed.0 claimed.1 claimed.3 n from.inside)

pub unknown_told : (at : ℕ) → refusal.Unknown at ≢ refusal.NoMemory
unknown_told at e = cc

module _ (text : List ℕ) (g : NamedGame) (cs : Claims) (a : IsCheckedAs text g cs) where
  not_front : (e : GameTextRefusal) → (e ≡ refusal.NoMemory → ⊥) → IsRefusedBy (game_part text) e → ⊥
  not_front e other refused = other (never_both (game_part text) g e a.game refused)

  not_later : (c : Cause) (at : ℕ) → ComesLater text c at → ⊥
  not_later c at (front, (k, first, is)) = a.faultless c k first.comes

  not_last : (at : ℕ) → ComesLast text at → ⊥
  not_last at (faultless, inl refused) = not_front (refusal.Unknown at) (unknown_told at) refused
  not_last at (faultless, inr (named, game, (k, stranger, is))) =
      let same = one_game_of_text (game_part text) named g game.stands a.game.stands in
      no_stranger_there text g cs a k
      (subst (λ n. IsStranger n.ids (signs_of (solution_part text)) k) same stranger.comes)

  split : (e : GameTextRefusal) (c : Cause) (at : ℕ) → (e ≡ refusal.NoMemory → ⊥)
      → IsRefusedBy (game_part text) e ⊎ ComesLater text c at
      → ⊥
  split e c at other (inl front) = not_front e other front
  split e c at other (inr later) = not_later c at later

pub never_both_checked : (text : List ℕ) (g : NamedGame) (cs : Claims) (e : GameTextRefusal) → IsCheckedAs text g cs
    → IsCheckRefusedBy text e
    → e ≡ refusal.NoMemory
never_both_checked text g cs (refusal.Syntax at) a r = absurd (split text g cs a (refusal.Syntax at) Syntax at (λ e. cc) r)
never_both_checked text g cs (refusal.Repeated at) a r = absurd (split text g cs a (refusal.Repeated at) Repeated at (λ e. cc) r)
never_both_checked text g cs (refusal.Unknown at) a r = absurd (not_last text g cs a at r)
never_both_checked text g cs (refusal.TooMany at) a r = absurd (split text g cs a (refusal.TooMany at) TooMany at (λ e. cc) r)
never_both_checked text g cs (refusal.TooLarge at) a r = absurd (split text g cs a (refusal.TooLarge at) TooLarge at (λ e. cc) r)
never_both_checked text g cs refusal.NoMemory a r = refl

-- ---- one refusal

-- a fault of the game's text, or one behind it
data Comes (text : List ℕ) : Kind → Type 0 where
  in_front : (c : Cause) (at : ℕ) → refusal_of (Fault c at) ≢ refusal.NoMemory
      → IsRefusedBy (game_part text) (refusal_of (Fault c at))
      → Comes text (Fault c at)
  later : (c : Cause) (at : ℕ) → ComesLater text c at → Comes text (Fault c at)
  last : (at : ℕ) → ComesLast text at → Comes text (Stranger at)

comes_so : (text : List ℕ) (e : GameTextRefusal) → e ≢ refusal.NoMemory → IsCheckRefusedBy text e → Comes text (kind e)
comes_so text (refusal.Syntax at) other (inl front) = in_front Syntax at other front
comes_so text (refusal.Syntax at) other (inr more) = later Syntax at more
comes_so text (refusal.Repeated at) other (inl front) = in_front Repeated at other front
comes_so text (refusal.Repeated at) other (inr more) = later Repeated at more
comes_so text (refusal.Unknown at) other r = last at r
comes_so text (refusal.TooMany at) other (inl front) = in_front TooMany at other front
comes_so text (refusal.TooMany at) other (inr more) = later TooMany at more
comes_so text (refusal.TooLarge at) other (inl front) = in_front TooLarge at other front
comes_so text (refusal.TooLarge at) other (inr more) = later TooLarge at more
comes_so text refusal.NoMemory other r = absurd (other refl)

-- a text with a fault among the first four causes has one
front_faulty : (text : List ℕ) (c : Cause) (at : ℕ) → IsRefusedBy text (refusal_of (Fault c at))
    → HasNoFault (signs_of (tokens text))
    → ⊥
front_faulty text Syntax at (k, x, is) faultless = faultless Syntax k x.comes
front_faulty text Repeated at (k, x, is) faultless = faultless Repeated k x.comes
front_faulty text TooMany at (k, x, is) faultless = faultless TooMany k x.comes
front_faulty text TooLarge at (k, x, is) faultless = faultless TooLarge k x.comes

-- where the last cause comes, the game's text has no fault
last_faultless : (text : List ℕ) (at : ℕ) → ComesLast text at → HasNoFault (signs_of (tokens (game_part text)))
last_faultless text at (faultless, inl refused) = refused.1.faultless
last_faultless text at (faultless, inr (named, game, rest)) = game.faultless

kind_of_same : (c d : Cause) (at to : ℕ) → refusal_of (Fault c at) ≡ refusal_of (Fault d to) → Fault c at ≡ Fault d to
kind_of_same c d at to is = sym (back c at) ∙ ap kind is ∙ back d to
  where
    back : (x : Cause) (n : ℕ) → kind (refusal_of (Fault x n)) ≡ Fault x n
    back Syntax n = refl
    back Repeated n = refl
    back TooMany n = refl
    back TooLarge n = refl

one_later : (text : List ℕ) (c d : Cause) (at to : ℕ) → ComesLater text c at → ComesLater text d to → Fault c at ≡ Fault d to
one_later text c d at to (x_front, (k, x, x_is)) (y_front, (j, y, y_is)) =
    let both = both_first k j (rank c) (rank d) (x.first d j y.comes) (y.first c k x.comes) in
    let cause = one_cause c d both.1 in
    let place : at ≡ to = x_is ∙ ap (offset_of (length text) (solution_part text)) both.0 ∙ sym y_is in cc

not_after_last : (text : List ℕ) (c : Cause) (at to : ℕ) → ComesLater text c at → ComesLast text to → ⊥
not_after_last text c at to (front, (k, first, is)) (faultless, comes) = faultless c k first.comes

one_last : (text : List ℕ) (at to : ℕ) → ComesLast text at → ComesLast text to → Stranger at ≡ Stranger to
one_last text at to x y = by x.1 y.1
  where
    Here : ℕ → Type 0
    Here n = (named : NamedGame) × IsReadAs (game_part text) named × ComesBehind text (IsFirstStranger named.ids) n

    not_read : (n : ℕ)
        → IsRefusedBy (game_part text) (refusal.Unknown n)
        → (named : NamedGame)
        → IsReadAs (game_part text) named
        → ⊥
    not_read n refused named game = unknown_told n (never_both (game_part text) named (refusal.Unknown n) game refused)

    by : IsRefusedBy (game_part text) (refusal.Unknown at) ⊎ Here at
        → IsRefusedBy (game_part text) (refusal.Unknown to) ⊎ Here to
        → Stranger at ≡ Stranger to
    by (inl a) (inl b) =
        ap kind (one_refusal (game_part text) (refusal.Unknown at) (refusal.Unknown to) (unknown_told at) (unknown_told to) a b)
    by (inl a) (inr (named, game, rest)) = absurd (not_read at a named game)
    by (inr (named, game, rest)) (inl b) = absurd (not_read to b named game)
    by (inr (named, game, (k, first, is))) (inr (other, also, (j, also_first, also_is))) =
        let same = one_game_of_text (game_part text) other named also.stands game.stands in
        let b_first = subst (λ n. IsFirstStranger n.ids (signs_of (solution_part text)) j) same also_first in
        let low = first.first j b_first.comes in
        let high = b_first.first k first.comes in
        let place : k ≡ j = omega arith in
        ap Stranger (is ∙ ap (offset_of (length text) (solution_part text)) place ∙ sym also_is)

one_kind : (text : List ℕ) (a b : Kind) → Comes text a → Comes text b → a ≡ b
one_kind text _ _ (in_front c at c_other x) (in_front d to d_other y) =
    kind_of_same c d at to (one_refusal (game_part text) (refusal_of (Fault c at)) (refusal_of (Fault d to)) c_other d_other x y)
one_kind text _ _ (in_front c at c_other x) (later d to y) = absurd (front_faulty (game_part text) c at x y.0)
one_kind text _ _ (in_front c at c_other x) (last to y) = absurd (front_faulty (game_part text) c at x (last_faultless text to y))
one_kind text _ _ (later c at x) (in_front d to d_other y) = absurd (front_faulty (game_part text) d to y x.0)
one_kind text _ _ (later c at x) (later d to y) = one_later text c d at to x y
one_kind text _ _ (later c at x) (last to y) = absurd (not_after_last text c at to x y)
one_kind text _ _ (last at x) (in_front d to d_other y) = absurd (front_faulty (game_part text) d to y (last_faultless text at x))
one_kind text _ _ (last at x) (later d to y) = absurd (not_after_last text d to at y x)
one_kind text _ _ (last at x) (last to y) = one_last text at to x y

pub one_check_refusal : (text : List ℕ) (e d : GameTextRefusal) → e ≢ refusal.NoMemory → d ≢ refusal.NoMemory
    → IsCheckRefusedBy text e
    → IsCheckRefusedBy text d
    → e ≡ d
one_check_refusal text e d e_other d_other e_is d_is =
    sym (of_kind e)
    ∙ ap refusal_of (one_kind text (kind e) (kind d) (comes_so text e e_other e_is) (comes_so text d d_other d_is))
    ∙ of_kind d
