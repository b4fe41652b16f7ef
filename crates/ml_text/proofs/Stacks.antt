-- The program's stack, whose topmost frame stands last, as the machine's.
--
--   pushed_frame     == a frame put behind the others is the topmost
--   popped_frame     == the frame that was taken off was the topmost
use Rattle.std.proofs.Common.{◌≡◌, List, [], ◌∷◌, ◌++◌, map, reverse, Option, Some, MatchOption, option_to_list, sym, ◌∙◌, ap, subst}
use Rattle.std.proofs.lemmas.List.{map-append, reverse-append}
use Rattle.ml_text.specs.private.Tables.{Tables}
use Rattle.ml_text.specs.private.Views.{frame_view, stack_view, IsStopped, IsUntaken}
use Rattle.ml_text.specs.declared.forms.Frame.{Frame}

pub pushed_frame : {K C S O T W H : Type 0} (t : Tables K C S O T W H) (frames : List (Frame S O T H))
    (f : Frame S O T H)
    → stack_view t (frames ++ f ∷ []) ≡ frame_view t f ∷ stack_view t frames
pushed_frame t frames f =
    ap reverse (map-append (frame_view t) frames (f ∷ []))
    ∙ reverse-append (map (frame_view t) frames) (frame_view t f ∷ [])

pub popped_frame : {K C S O T W H : Type 0} (t : Tables K C S O T W H) (old new : List (Frame S O T H))
    (result : Option (Frame S O T H)) (top : Frame S O T H) (n : t.grammar.Sign)
    → old ≡ new ++ option_to_list result → result ≡ Some top → IsUntaken t.grammar (frame_view t top) n
    → MatchOption result (IsStopped t.grammar (stack_view t old) n × (new ≡ old))
    (λ frame. (stack_view t old ≡ frame_view t frame ∷ stack_view t new)
    × IsUntaken t.grammar (frame_view t frame) n)
popped_frame t old new result top n items is untaken =
    let last : old ≡ new ++ top ∷ [] = items ∙ ap (λ r. new ++ option_to_list r) is in
    subst (λ r. MatchOption r (IsStopped t.grammar (stack_view t old) n × (new ≡ old))
    (λ frame. (stack_view t old ≡ frame_view t frame ∷ stack_view t new)
    × IsUntaken t.grammar (frame_view t frame) n)) (sym is)
    (ap (stack_view t) last ∙ pushed_frame t new top, untaken)
