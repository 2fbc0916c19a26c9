-- The node rule by classes: which condition is taken, and which of its terms are open. The laws hold for all decisions, contradictory ones too.
use Prim.Native.Nat.{ℕ, suc}
use mathlib.Core.Bool.{Bool, true, false, cond, not, false≢true}
use mathlib.Core.List.{List, [], ◌∷◌, ◌++◌}
use mathlib.Core.Logic.{◌≢◌}
use mathlib.Core.Path.{◌≡◌, refl, sym, ap, ◌∙◌}
use Rattle.sheet.specs.Conditions.{Term, same, apart}
use Rattle.buffers.specs.Lists.{All}
use Rattle.equality.specs.Meaning.{holds, meets_condition}
use Rattle.equality.specs.Node.{Decisions, classes, smallest_lot, share, marked_apart, Value, is_true, is_false, is_open, value, true_or_open_apart, Taken, no_condition, takes, passed_over, taken, open_or, ground_or_split}
use Rattle.equality.proofs.Some.{some_agrees, some_none}
use Rattle.buffers.proofs.Lists.{all_map}

-- ---- the condition taken depends on classes alone

-- A term keeps its condition from being taken exactly where the classes, as an assignment, make it true.
pub settled_by_classes : (ds : Decisions) (t : Term) → true_or_open_apart t (value ds t) ≡ holds (smallest_lot ds) t
unfolding value
settled_by_classes ds (same a b) = go (share ds a b) (marked_apart ds a b)
  where
    go : (p q : Bool) → true_or_open_apart (same a b) (cond p is_true (cond q is_false is_open)) ≡ p
    go true q = refl
    go false true = refl
    go false false = refl
settled_by_classes ds (apart a b) = go (share ds a b) (marked_apart ds a b)
  where
    go : (p q : Bool) → true_or_open_apart (apart a b) (cond p is_false (cond q is_true is_open)) ≡ not p
    go true q = refl
    go false true = refl
    go false false = refl

-- So a condition is passed over exactly where the classes meet it,
pub passed_by_classes : (ds : Decisions) (ts : List Term) → passed_over ds ts ≡ meets_condition (smallest_lot ds) ts
passed_by_classes ds ts = some_agrees (λ t. true_or_open_apart t (value ds t)) (holds (smallest_lot ds)) (settled_by_classes ds) ts

-- and the condition taken is the lowest that an assignment, that of the classes, does not meet.
unfoldable pub lowest_taken : (ℕ → ℕ) → ℕ → List (List Term) → Taken
lowest_taken f c [] = no_condition
lowest_taken f c (ts ∷ tss) = cond (meets_condition f ts) (lowest_taken f (suc c) tss) (takes c ts)

pub taken_by_classes : (ds : Decisions) (c : ℕ) (tss : List (List Term)) → taken ds c tss ≡ lowest_taken (smallest_lot ds) c tss
unfolding taken lowest_taken
taken_by_classes ds c [] = refl
taken_by_classes ds c (ts ∷ tss) = rw (passed_by_classes ds ts) (ap (λ (rest : Taken). cond (meets_condition (smallest_lot ds) ts) rest (takes c ts)) (taken_by_classes ds (suc c) tss))

-- ---- in the taken condition a term is open exactly when it is "same" and its classes are not marked apart

-- The value of a term that the classes do not make true: open or false, by the mark.
abbrev pub open_same : Decisions → Term → Value
open_same ds (same a b) = cond (marked_apart ds a b) is_false is_open
open_same ds (apart a b) = is_false

pub unsettled_value : (ds : Decisions) (t : Term) → holds (smallest_lot ds) t ≡ false → value ds t ≡ open_same ds t
unfolding value
unsettled_value ds (same a b) e = rw e
unsettled_value ds (apart a b) e = go (share ds a b) e
  where
    go : (p : Bool) → not p ≡ false → cond p is_false (cond (marked_apart ds a b) is_true is_open) ≡ is_false
    go true e = refl
    go false e = absurd (false≢true (sym e))

pub taken-values : (ds : Decisions) (ts : List Term) → passed_over ds ts ≡ false → All (λ t. value ds t ≡ open_same ds t) ts
taken-values ds ts e =
    all_map (unsettled_value ds) ts (some_none (holds (smallest_lot ds)) ts (sym (passed_by_classes ds ts) ∙ e))

-- ---- after a pair is set apart the same condition is taken

pub taken-apart : (ds : Decisions) (a b c : ℕ) (tss : List (List Term)) → taken (apart a b ∷ ds) c tss ≡ taken ds c tss
unfolding classes
taken-apart ds a b c tss = taken_by_classes (apart a b ∷ ds) c tss ∙ sym (taken_by_classes ds c tss)

-- ---- and terms that are not open are passed by

pub passed_by : (ds : Decisions) (c : ℕ) (before after : List Term) → All (λ t. value ds t ≢ is_open) before
    → ground_or_split ds c (before ++ after) ≡ ground_or_split ds c after
unfolding ground_or_split
passed_by ds c [] after none = refl
passed_by ds c (t ∷ before) after none = go (value ds t) none.0 ∙ passed_by ds c before after none.1
  where
    go : (v : Value) → v ≢ is_open → open_or t v (ground_or_split ds c (before ++ after)) ≡ ground_or_split ds c (before ++ after)
    go is_true e = refl
    go is_false e = refl
    go is_open e = absurd (e refl)
