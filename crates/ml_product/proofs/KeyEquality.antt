-- Keys of tables are equal if they are one.
--
--   site_eq, top_eq           == they are one, field by field
--   site_eq-same, top_eq-same == this holds of no two
use Rattle.std.proofs.Common.{◌≡◌, Bool, true, nat_eq}
use Rattle.std.specs.Ordering.{on, eq_of_both}
use Rattle.std.specs.Cmp.{first_so, second_so}
use Rattle.std.proofs.lemmas.Bool.{eqb-true}
use Rattle.ml_product.specs.declared.stored.Site.{Site}
use Rattle.ml_product.specs.declared.stored.Top.{Top}

-- ---- a sequent and a history

abbrev pub site_eq : Site → Site → Bool
site_eq = eq_of_both (on (λ (x : Site). x.sequent) nat_eq) (on (λ (x : Site). x.history) nat_eq)

pub site_eq-same : (x y : Site) → site_eq x y ≡ true → x ≡ y
site_eq-same x y e =
    let sequents = eqb-true x.sequent y.sequent (first_so (nat_eq x.sequent y.sequent) (nat_eq x.history y.history) e) in
    let histories = eqb-true x.history y.history (second_so (nat_eq x.sequent y.sequent) (nat_eq x.history y.history) e) in
    λ i. record { sequent = sequents i; history = histories i }

-- ---- and a priority

abbrev behind_eq : Top → Top → Bool
behind_eq = eq_of_both (on (λ (x : Top). x.history) nat_eq) (on (λ (x : Top). x.priority) nat_eq)

abbrev pub top_eq : Top → Top → Bool
top_eq = eq_of_both (on (λ (x : Top). x.sequent) nat_eq) behind_eq

pub top_eq-same : (x y : Top) → top_eq x y ≡ true → x ≡ y
top_eq-same x y e =
    let sequents = eqb-true x.sequent y.sequent (first_so (nat_eq x.sequent y.sequent) (behind_eq x y) e) in
    let behind = second_so (nat_eq x.sequent y.sequent) (behind_eq x y) e in
    let histories =
    eqb-true x.history y.history (first_so (nat_eq x.history y.history) (nat_eq x.priority y.priority) behind) in
    let priorities =
    eqb-true x.priority y.priority (second_so (nat_eq x.history y.history) (nat_eq x.priority y.priority) behind) in
    λ i. record { sequent = sequents i; history = histories i; priority = priorities i }
