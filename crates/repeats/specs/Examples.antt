-- What stays where repeats are left out, by computation.
use Rattle.std.specs.Prelude.{List, [], ◌∷◌, ◌≡◌, refl}
use Rattle.sheet.specs.Conditions.{Term, same, apart}
use Rattle.repeats.specs.Repeats.{equal_terms, equal_conditions, repeats, without_repeats, has_terms, any_condition}

-- "same 1 2 or apart 1 3"; its terms in the other order; "same 1 2 or apart 3 1"; its first term alone; and a condition with no term.
abbrev both : List Term
both = same 1 2 ∷ apart 1 3 ∷ []

abbrev reordered : List Term
reordered = apart 1 3 ∷ same 1 2 ∷ []

abbrev turned : List Term
turned = same 1 2 ∷ apart 3 1 ∷ []

abbrev first : List Term
first = same 1 2 ∷ []

abbrev withdrawn : List Term
withdrawn = []

-- Of two equal conditions the first stays. Other orders are other conditions, and so is a beginning of one. With no term they all stay, or one of them, by the
-- rule; and what repeats one of the earlier ones is left out.
pub stay :
    without_repeats has_terms [] (both ∷ withdrawn ∷ reordered ∷ both ∷ turned ∷ withdrawn ∷ first ∷ both ∷ [])
    ∷ without_repeats any_condition [] (both ∷ withdrawn ∷ reordered ∷ both ∷ turned ∷ withdrawn ∷ first ∷ both ∷ [])
    ∷ without_repeats has_terms (withdrawn ∷ first ∷ []) (both ∷ withdrawn ∷ first ∷ both ∷ [])
    ∷ without_repeats any_condition (withdrawn ∷ first ∷ []) (both ∷ withdrawn ∷ first ∷ both ∷ [])
    ∷ []
    ≡ (both ∷ withdrawn ∷ reordered ∷ turned ∷ withdrawn ∷ first ∷ [])
    ∷ (both ∷ withdrawn ∷ reordered ∷ turned ∷ first ∷ [])
    ∷ (both ∷ withdrawn ∷ [])
    ∷ (both ∷ [])
    ∷ []
unfolding equal_terms equal_conditions repeats without_repeats
stay = refl
