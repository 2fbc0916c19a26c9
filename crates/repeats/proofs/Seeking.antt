-- A loop over entries that looks for a condition: it repeats none of those passed, so those that are left decide.
use Prim.Native.Nat.{ℕ, ◌+◌, ◌≤◌, ◌<◌}
use mathlib.Core.Bool.{Bool, true, false, ◌||◌}
use mathlib.Core.List.{List}
use mathlib.Core.Logic.{◌≢◌}
use mathlib.Core.Path.{◌≡◌, refl, sym, ap, ◌∙◌}
use lib.ListN.{length, get_or, drop}
use Rattle.std.proofs.lemmas.List.{drop_more, drop_all}
use Rattle.buffers.specs.Lists.{All}
use Rattle.buffers.proofs.Lists.{all_nth}
use Rattle.sheet.specs.Conditions.{Term, condition_at}
use Rattle.repeats.specs.Repeats.{equal_conditions, repeats}
use Rattle.repeats.specs.Inner.{digest_of, number_in, digest_in, EntryOf, kept_of}
use Rattle.repeats.proofs.Equal.{conditions_equal}

-- Conditions with different digests differ.
digests_differ : (ts us : List Term) → digest_of us ≢ digest_of ts → equal_conditions ts us ≡ false
digests_differ ts us differ = go (equal_conditions ts us) refl
  where
    go : (b : Bool) → equal_conditions ts us ≡ b → b ≡ false
    go true e = absurd (differ (ap digest_of (sym (conditions_equal ts us e))))
    go false e = refl

-- Of these entries of s, the first k have other conditions than ts.
pub record Seeking (ts : List Term) (s entries : List ℕ) (k : ℕ) : Type 0 where
  pub rest : repeats ts (kept_of s entries) ≡ repeats ts (kept_of s (drop k entries))

module _ {ts : List Term} {s entries : List ℕ} {k : ℕ} (l : Seeking ts s entries k) where
  module _ (more : k < length entries) where
    abbrev pub here : List Term
    here = condition_at s (number_in (get_or entries k 0))

    step : repeats ts (kept_of s entries) ≡ (equal_conditions ts here || repeats ts (kept_of s (drop (k + 1) entries)))
    unfolding repeats
    step = l.rest ∙ ap (λ (es : List ℕ). repeats ts (kept_of s es)) (drop_more entries k 0 more)

    -- This one is the same condition;
    pub found : equal_conditions ts here ≡ true → repeats ts (kept_of s entries) ≡ true
    found e = step ∙ rw e

    -- another one;
    pub seeking_next : equal_conditions ts here ≡ false → Seeking ts s entries (k + 1)
    seeking_next e = record { rest = step ∙ rw e }

    -- or one with another digest, and so another one.
    pub seeking_past : All (EntryOf s) entries → digest_in (get_or entries k 0) ≢ digest_of ts → Seeking ts s entries (k + 1)
    seeking_past all differ = seeking_next (digests_differ ts here (λ e. differ ((all_nth (EntryOf s) entries 0 all k more).digest ∙ e)))

  -- None is left.
  pub none_found : length entries ≤ k → repeats ts (kept_of s entries) ≡ false
  unfolding repeats
  none_found past = l.rest ∙ ap (λ (es : List ℕ). repeats ts (kept_of s es)) (drop_all k entries past)
