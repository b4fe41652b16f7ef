-- What rows say, item by item: that the item is a fixed point of its row, and which iterate of it.
--
--   start_of least     == what iterates begin with: nowhere for eventualities, everywhere for others
--   meant              == of each item: it is a fixed point of its row, and the iterate
--   rows_say_the_same, eventualities_are_least, others_are_greatest == the laws
use Rattle.std.proofs.Common.{ℕ, ◌<◌, ◌↔◌, ◌⊎◌, Bool, true, false, inl, subst, ◌≡◌, sym, ap}
use Rattle.ml_lists.specs.Lasso.{Lasso, next_place}
use Rattle.ml_lists.proofs.Decided.{decided_either}
use Rattle.ml_text.specs.declared.token.Operator.{Operator}
use Rattle.ml_text.specs.declared.token.Operator.TheVariants as operator
use Rattle.ml_base.specs.Structure.{Structure}
use Rattle.ml_ctl.specs.Formula as plain
use Rattle.ml_ctl.specs.Formula.{Formula}
use Rattle.ml_ctl.specs.declared.term.Tense.TheVariants as tense
use Rattle.ml_ctl.specs.declared.term.Pairing.TheVariants as pairing
use Rattle.ml_ctl.specs.Laws.{IsDecided}
use Rattle.ml_ctl.specs.Meaning.{Property, Nowhere, Everywhere, TruthAt, Until, Release, until_step, release_step}
use Rattle.ml_ctl.specs.Paths.{places}
use Rattle.ml_ctl.proofs.Iterated.{until_steps, release_steps}
use Rattle.ml_ctl.proofs.Negations.{not_until, until_not, not_release, release_not}
use Rattle.ml_ctl.proofs.StepByStep.{closed}
use Rattle.ml_blocks.specs.Items.{Item}
use Rattle.ml_ctl.specs.Eventualities.{is_eventual}
use Rattle.ml_blocks.specs.Laws.{Asks, RowSays, QuantifiersAreDecided, RowsSayTheSame, EventualitiesAreLeast, OthersAreGreatest}
use Rattle.ml_blocks.proofs.DecidedTruth.{truth_is_decided}
use Rattle.ml_blocks.proofs.RowConnectives as row
use Rattle.ml_blocks.proofs.SteadySteps.{IsIterated, itself, iterated, iterated_at_once}
use Rattle.ml_blocks.specs.ItemSets.{due}

abbrev pub start_of : Bool → Property
start_of true = Nowhere
start_of false = Everywhere

abbrev pub item : ℕ → Formula → Bool → Bool → Item
item i f b t = record { number = i; formula = f; positive = b; later = t }

-- what isn't put off is due as it stands
pub due_now : (x : Item) → x.later ≡ false → due x ≡ x
due_now x e = ap (item x.number x.formula x.positive) (sym e)

module _ (m : Structure) (l : Lasso) (starts : l.start < places l) where
  abbrev next : ℕ → ℕ
  next = next_place l

  abbrev n : ℕ
  n = places l

  abbrev closes : (y : ℕ) → y < n → next y < n
  closes = closed l starts

  -- the row of an item, as a step
  abbrev step : Item → Property → Property
  step x P = RowSays m l P x

  abbrev pub IsMeant : ℕ → Formula → Bool → Bool → ℕ → Type 0
  IsMeant i f b t x = IsIterated n (step (item i f b t)) (start_of (is_eventual f b)) (Asks m l (item i f b t)) x

  decided : (f : Formula) → QuantifiersAreDecided m l f → (x : ℕ) → x < n → IsDecided (TruthAt m l f x)
  decided f given x low = truth_is_decided m l f given x (starts, low)

  -- ---- temporal operators

  module _ (i : ℕ) (f g : Formula) (t : Bool) (decides_f : QuantifiersAreDecided m l f)
      (decides_g : QuantifiersAreDecided m l g) (x : ℕ) (low : x < n) where
    abbrev F : Property
    F = TruthAt m l f

    abbrev G : Property
    G = TruthAt m l g

    abbrev NotF : Property
    NotF y = F y → ⊥

    abbrev NotG : Property
    NotG y = G y → ⊥

    abbrev Either : Property
    Either y = F y ⊎ G y

    abbrev Neither : Property
    Neither y = Either y → ⊥

    decided_f : (y : ℕ) → y < n → IsDecided (F y)
    decided_f = decided f decides_f

    decided_g : (y : ℕ) → y < n → IsDecided (G y)
    decided_g = decided g decides_g

    until : IsMeant i (plain.Paired pairing.Until f g) true t x
    until =
        iterated next (until_step next F G) (step (item i (plain.Paired pairing.Until f g) true t))
        (λ P Q y same. row.unless same) Nowhere n (Until l F G) closes
        (λ y under. itself) (until_steps next F G n closes) x low

    no_until : IsMeant i (plain.Paired pairing.Until f g) false t x
    no_until =
        iterated next (release_step next NotF NotG) (step (item i (plain.Paired pairing.Until f g) false t))
        (λ P Q y same. row.released same) Everywhere n (λ y. Until l F G y → ⊥) closes
        (λ y under. (not_until next n closes F G decided_f n y under, until_not next n closes F G n y))
        (release_steps next NotF NotG n closes) x low

    release : IsMeant i (plain.Paired pairing.Release f g) true t x
    release =
        iterated next (release_step next F G) (step (item i (plain.Paired pairing.Release f g) true t))
        (λ P Q y same. row.released same) Everywhere n (Release l F G) closes
        (λ y under. itself) (release_steps next F G n closes) x low

    no_release : IsMeant i (plain.Paired pairing.Release f g) false t x
    no_release =
        iterated next (until_step next NotF NotG) (step (item i (plain.Paired pairing.Release f g) false t))
        (λ P Q y same. row.unless same) Nowhere n (λ y. Release l F G y → ⊥) closes
        (λ y under. (not_release next n closes F G decided_g n y under, release_not next n closes F G n y))
        (until_steps next NotF NotG n closes) x low

    weak : IsMeant i (plain.Paired pairing.Weak f g) true t x
    weak =
        iterated next (release_step next G Either) (step (item i (plain.Paired pairing.Weak f g) true t))
        (λ P Q y same. row.weakly same) Everywhere n (Release l G Either) closes
        (λ y under. itself) (release_steps next G Either n closes) x low

    no_weak : IsMeant i (plain.Paired pairing.Weak f g) false t x
    no_weak =
        iterated next (until_step next NotG Neither) (step (item i (plain.Paired pairing.Weak f g) false t))
        (λ P Q y same. row.unreleased same) Nowhere n (λ y. Release l G Either y → ⊥) closes
        (λ y under. (
          not_release next n closes G Either (λ z low. decided_either (decided_f z low) (decided_g z low)) n y under,
          release_not next n closes G Either n y,
        ))
        (until_steps next NotG Neither n closes) x low

    finally : IsMeant i (plain.Temporal tense.Finally g) true t x
    finally =
        iterated next (until_step next Everywhere G) (step (item i (plain.Temporal tense.Finally g) true t))
        (λ P Q y same. row.some same tt) Nowhere n (Until l Everywhere G) closes
        (λ y under. itself) (until_steps next Everywhere G n closes) x low

    no_finally : IsMeant i (plain.Temporal tense.Finally g) false t x
    no_finally =
        iterated next (release_step next (λ y. Unit {0} → ⊥) NotG) (step (item i (plain.Temporal tense.Finally g) false t))
        (λ P Q y same. row.all same (λ never. never tt)) Everywhere n (λ y. Until l Everywhere G y → ⊥) closes
        (λ y under. (
          not_until next n closes Everywhere G (λ z low. inl tt) n y under,
          until_not next n closes Everywhere G n y,
        ))
        (release_steps next (λ y. Unit {0} → ⊥) NotG n closes) x low

    globally : IsMeant i (plain.Temporal tense.Globally g) true t x
    globally =
        iterated next (release_step next Nowhere G) (step (item i (plain.Temporal tense.Globally g) true t))
        (λ P Q y same. row.all same (λ none. none)) Everywhere n (Release l Nowhere G) closes
        (λ y under. itself) (release_steps next Nowhere G n closes) x low

    no_globally : IsMeant i (plain.Temporal tense.Globally g) false t x
    no_globally =
        iterated next (until_step next (λ y. ⊥ → ⊥) NotG) (step (item i (plain.Temporal tense.Globally g) false t))
        (λ P Q y same. row.some same (λ none. none)) Nowhere n (λ y. Release l Nowhere G y → ⊥) closes
        (λ y under. (
          not_release next n closes Nowhere G decided_g n y under,
          release_not next n closes Nowhere G n y,
        ))
        (until_steps next (λ y. ⊥ → ⊥) NotG n closes) x low

  -- ---- all items

  -- an item whose row asks nothing of the next place that it asks of this one
  at_once : (y : Item) (x : ℕ)
      → x < n
      → ((P Q : Property) → RowSays m l P y x → RowSays m l Q y x)
      → Asks m l y x ↔ RowSays m l (Asks m l y) y x
      → IsIterated n (step y) Everywhere (Asks m l y) x
  at_once y x low any same = iterated_at_once n (step y) (Asks m l y) x low any same

  connective : (op : Operator) (i : ℕ) (f g : Formula) (b t : Bool)
      → QuantifiersAreDecided m l f
      → QuantifiersAreDecided m l g
      → (x : ℕ)
      → x < n
      → IsMeant i (plain.Binary op f g) b t x
  connective operator.And i f g true t df dg x low =
      at_once (item i (plain.Binary operator.And f g) true t) x low (λ P Q s. s) row.both
  connective operator.And i f g false t df dg x low =
      at_once (item i (plain.Binary operator.And f g) false t) x low (λ P Q s. s) (row.not_both (decided f df x low))
  connective operator.Or i f g true t df dg x low =
      at_once (item i (plain.Binary operator.Or f g) true t) x low (λ P Q s. s) row.either
  connective operator.Or i f g false t df dg x low =
      at_once (item i (plain.Binary operator.Or f g) false t) x low (λ P Q s. s) row.not_either
  connective operator.Implies i f g true t df dg x low =
      at_once (item i (plain.Binary operator.Implies f g) true t) x low (λ P Q s. s) (row.implies (decided f df x low))
  connective operator.Implies i f g false t df dg x low =
      at_once (item i (plain.Binary operator.Implies f g) false t) x low (λ P Q s. s)
      (row.not_implies (decided f df x low))
  connective operator.Iff i f g true t df dg x low =
      at_once (item i (plain.Binary operator.Iff f g) true t) x low (λ P Q s. s) (row.iff (decided f df x low))
  connective operator.Iff i f g false t df dg x low =
      at_once (item i (plain.Binary operator.Iff f g) false t) x low (λ P Q s. s)
      (row.not_iff (decided f df x low) (decided g dg x low))

  pub meant : (i : ℕ) (f : Formula) (b t : Bool) → QuantifiersAreDecided m l f → (x : ℕ) → x < n → IsMeant i f b t x
  meant i (plain.Const c) b t given x low = at_once (item i (plain.Const c) b t) x low (λ P Q s. s) itself
  meant i (plain.Prop p) b t given x low = at_once (item i (plain.Prop p) b t) x low (λ P Q s. s) itself
  meant i (plain.Not f) true t given x low = at_once (item i (plain.Not f) true t) x low (λ P Q s. s) row.only
  meant i (plain.Not f) false t given x low =
      at_once (item i (plain.Not f) false t) x low (λ P Q s. s) (row.not_not (decided f given x low))
  meant i (plain.Binary op f g) b t given x low = connective op i f g b t given.0 given.1 x low
  meant i (plain.Temporal tense.Next f) b t given x low =
      at_once (item i (plain.Temporal tense.Next f) b t) x low (λ P Q s. s) itself
  meant i (plain.Temporal tense.Finally f) true t given x low = finally i f f t given given x low
  meant i (plain.Temporal tense.Finally f) false t given x low = no_finally i f f t given given x low
  meant i (plain.Temporal tense.Globally f) true t given x low = globally i f f t given given x low
  meant i (plain.Temporal tense.Globally f) false t given x low = no_globally i f f t given given x low
  meant i (plain.Paired pairing.Until f g) true t given x low = until i f g t given.0 given.1 x low
  meant i (plain.Paired pairing.Until f g) false t given x low = no_until i f g t given.0 given.1 x low
  meant i (plain.Paired pairing.Release f g) true t given x low = release i f g t given.0 given.1 x low
  meant i (plain.Paired pairing.Release f g) false t given x low = no_release i f g t given.0 given.1 x low
  meant i (plain.Paired pairing.Weak f g) true t given x low = weak i f g t given.0 given.1 x low
  meant i (plain.Paired pairing.Weak f g) false t given x low = no_weak i f g t given.0 given.1 x low
  meant i (plain.Quantified q f) b t given x low = at_once (item i (plain.Quantified q f) b t) x low (λ P Q s. s) itself

pub rows_say_the_same : RowsSayTheSame
rows_say_the_same m l x i place given =
    (meant m l place.0 x.number x.formula x.positive x.later given i place.1).steps

pub eventualities_are_least : EventualitiesAreLeast
eventualities_are_least m l x i place given least =
    let whole = meant m l place.0 x.number x.formula x.positive x.later given i place.1 in
    (subst (λ b. IsIterated (places l) (λ P. RowSays m l P x) (start_of b) (Asks m l x) i) least whole).iterates

pub others_are_greatest : OthersAreGreatest
others_are_greatest m l x i place given least =
    let whole = meant m l place.0 x.number x.formula x.positive x.later given i place.1 in
    (subst (λ b. IsIterated (places l) (λ P. RowSays m l P x) (start_of b) (Asks m l x) i) least whole).iterates
