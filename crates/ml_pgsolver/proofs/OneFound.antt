-- What is found of the claims of a text.
--
--   some_found       == something is found, or the text is refused
--   one_found        == one thing alone, but for the vertex that is named with the fourth rule
--   found_or_refused == what is found is refused by nothing but want of memory
use Rattle.std.proofs.Common.{◌≡◌, ℕ, ◌⊎◌, ⊎_elim, List, refl, sym, ◌∙◌, ap, subst, inl, inr}
use Rattle.ml_game_check.specs.Laws.{NamesFour as NamesFourth}
use Rattle.ml_game_check.specs.RightClaims.{Claims}
use Rattle.ml_game_check.specs.Verdicts.{IsVerdict}
use Rattle.ml_game_check.specs.declared.verdict.Verdict.{Verdict}
use Rattle.ml_game_check.proofs.OneVerdict.{one_verdict}
use Rattle.ml_game_check.proofs.SomeVerdict.{some_verdict}
use Rattle.ml_pgsolver.specs.CheckedText.{IsCheckRefusedBy, IsCheckedAs, IsFoundIn, finding_of}
use Rattle.ml_pgsolver.specs.GameText.{NamedGame, id_at}
use Rattle.ml_pgsolver.specs.Laws.{NamesFour}
use Rattle.ml_pgsolver.specs.declared.finding.SolutionFinding.{SolutionFinding}
use Rattle.ml_pgsolver.specs.declared.refusal.GameTextRefusal.{GameTextRefusal}
use Rattle.ml_pgsolver.specs.declared.refusal.GameTextRefusal.TheVariants as refusal
use Rattle.ml_pgsolver.proofs.OneChecked.{never_both_checked, one_checked}
use Rattle.ml_pgsolver.proofs.SomeChecked.{IsRefused, some_checked_answer}

pub some_found : (text : List ℕ) → ((f : SolutionFinding) × IsFoundIn text f) ⊎ IsRefused text
some_found text =
    ⊎_elim
    (λ (read : (g : NamedGame) × (cs : Claims) × IsCheckedAs text g cs).
    let named = read.2.game.stands.is_game.is_named in
    let v = some_verdict read.0.game read.1 named.game (read.2.claims.places ∙ named.has_ids.0) in
    inl (
      finding_of read.0.ids v.0,
      record {
        named = read.0;
        claims = read.1;
        is_read = read.2;
        is_found = record { answer = v.0; is_verdict = v.1; is_told = refl };
      },
    ))
    (λ (refused : IsRefused text). inr refused)
    (some_checked_answer text)

four_of : (ids : List ℕ) (v : Verdict) (f : SolutionFinding) → f ≡ finding_of ids v → NamesFourth v → NamesFour f
four_of ids v f told (at, is) = (id_at ids at, told ∙ ap (finding_of ids) is)

pub one_found : (text : List ℕ) (f h : SolutionFinding)
    → IsFoundIn text f
    → IsFoundIn text h
    → (f ≡ h) ⊎ (NamesFour f × NamesFour h)
one_found text f h x y =
    let same = one_checked text x.named y.named x.claims y.claims x.is_read y.is_read in
    let a = x.is_found in
    let b = y.is_found in
    let other = subst (λ cs. IsVerdict x.named.game cs b.answer) (sym same.1)
    (subst (λ (g : NamedGame). IsVerdict g.game y.claims b.answer) (sym same.0) b.is_verdict) in
    let told : h ≡ finding_of x.named.ids b.answer =
    b.is_told ∙ ap (λ (g : NamedGame). finding_of g.ids b.answer) (sym same.0) in
    ⊎_elim
    (λ (one : a.answer ≡ b.answer). inl (a.is_told ∙ ap (finding_of x.named.ids) one ∙ sym told))
    (λ (both : NamesFourth a.answer × NamesFourth b.answer).
    inr (four_of x.named.ids a.answer f a.is_told both.0, four_of x.named.ids b.answer h told both.1))
    (one_verdict x.named.game x.claims a.answer b.answer a.is_verdict other)

pub found_or_refused : (text : List ℕ) (f : SolutionFinding) (e : GameTextRefusal) → IsFoundIn text f → IsCheckRefusedBy text e
    → e ≡ refusal.NoMemory
found_or_refused text f e x = never_both_checked text x.named x.claims e x.is_read
