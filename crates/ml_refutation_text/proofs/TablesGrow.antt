-- Sequents and stacks that grow while entries are read: what was named is still there.
--
--   grows_none, grows_on == nothing was added yet; what grows further
--   same_form            == the form is the same
--   keeps_sequents       == the sequents that were there are still in front
--   named_there          == a list that was added is still named by its place
use Rattle.std.proofs.Common.{◌≡◌, ℕ, List, [], ◌∷◌, ◌++◌, length, slice_index_or, refl, sym, ap, ◌∙◌, append_assoc}
use Rattle.std.proofs.Math.Seq.{get_or-append_seam}
use Rattle.std.proofs.lemmas.List.{append-nil}
use Rattle.ml_base.specs.declared.version.Version.{Version}
use Rattle.ml_base.specs.declared.version.Version.TheVariants.{One, Two}
use Rattle.ml_refutation_text.specs.BodyRules.{ByTables}
use Rattle.ml_refutation_text.specs.private.ReadTables.{Keeps, Grows, form_of}
use Rattle.ml_refutation_text.specs.declared.known.Tables.{Tables}

keeps_all : (ks : List (List ℕ)) → Keeps ks ks
keeps_all ks = record { more = []; is_all = sym (append-nil ks) }

keeps_on : (as' bs cs : List (List ℕ)) → Keeps as' bs → Keeps bs cs → Keeps as' cs
keeps_on as' bs cs first second = record {
  more = first.more ++ second.more;
  is_all =
      second.is_all ∙ ap (λ ks. ks ++ second.more) first.is_all
      ∙ append_assoc as' first.more second.more;
}

pub grows_none : (v : Version) (tables : Tables) → Grows v tables tables
grows_none One tables = (keeps_all tables.sequents, keeps_all tables.stacks)
grows_none Two tables = (refl, refl)

pub grows_on : (v : Version) (old mid new : Tables) → Grows v old mid → Grows v mid new → Grows v old new
grows_on One old mid new first second = (
  keeps_on old.sequents mid.sequents new.sequents first.0 second.0,
  keeps_on old.stacks mid.stacks new.stacks first.1 second.1,
)
grows_on Two old mid new first second = (second.0 ∙ first.0, second.1 ∙ first.1)

pub same_form : (v : Version) (old new : Tables) → Grows v old new → form_of v new ≡ form_of v old
same_form One old new grows = refl
same_form Two old new grows = λ i. ByTables (grows.0 i) (grows.1 i)

-- in both versions
pub keeps_sequents : (v : Version) (old new : Tables) → Grows v old new → Keeps old.sequents new.sequents
keeps_sequents One old new grows = grows.0
keeps_sequents Two old new grows = record { more = []; is_all = grows.0 ∙ sym (append-nil old.sequents) }

pub named_there : (ks more later : List (List ℕ)) (list : List ℕ)
    → more ≡ ks ++ list ∷ []
    → Keeps more later
    → slice_index_or later (length ks) [] ≡ list
named_there ks more later list pushed keeps =
    ap (λ all. slice_index_or all (length ks) [])
    (keeps.is_all ∙ ap (λ all. all ++ keeps.more) pushed ∙ append_assoc ks (list ∷ []) keeps.more)
    ∙ get_or-append_seam ks list keeps.more []
