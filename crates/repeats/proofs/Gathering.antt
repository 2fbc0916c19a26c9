-- A loop over the conditions of a sheet that enters those that stay, behind the entries of another sheet.
use Prim.Native.Nat.{ℕ, suc, ◌+◌, ◌-◌, ◌≤◌, ◌<◌}
use mathlib.Core.Bool.{Bool, true, false}
use mathlib.Core.List.{List, [], ◌∷◌, ◌++◌, map-append, flatten}
use mathlib.Core.Path.{◌≡◌, refl, sym, ap, ap₂, subst, ◌∙◌}
use native.Mathlib.Numerals.{add-one}
use native.Mathlib.Omega.{arith}
use lib.ListN.{length, take, drop, set, length-append, length-set}
use lib.Seq.{take-suc-set}
use Rattle.buffers.specs.Lists.{All}
use Rattle.buffers.proofs.Lists.{all_both}
use Rattle.sheet.specs.Format.{condition_count}
use Rattle.sheet.specs.Checks.{Accepted}
use Rattle.sheet.specs.Conditions.{Term, terms_from, condition_at, conditions}
use Rattle.sheet.specs.Inner.{OnChain}
use Rattle.sheet.proofs.ChainEnds.{head-on}
use Rattle.sheet.proofs.Conditions.{conditions_step, conditions_end}
use Rattle.writer.proofs.Packing.{terms-append}
use Rattle.repeats.specs.Repeats.{has_terms}
use Rattle.repeats.specs.declared.chains.Sought.{Sought}
use Rattle.repeats.specs.Inner.{digest_of, SoughtIn, SoughtAt, number_in, digest_in, EntryOf, kept_of, is_left_out, Gathered}
use Rattle.repeats.proofs.Staying.{Staying, staying_start, staying_past, staying_next, staying_end}

-- ---- one condition more

-- The terms of conditions, with one more.
terms_last : (tss : List (List Term)) (ts : List Term) → length (flatten (tss ++ ts ∷ [])) ≡ length (flatten tss) + length ts
unfolding flatten
terms_last tss ts = omega (arith, terms-append tss (ts ∷ []), length-append ts [])

module _ (s : List ℕ) (upto : ℕ) (entries : List ℕ) (room : upto < length entries) (entry : ℕ) where
  -- The conditions that the entries have, with one more,
  kept_last : kept_of s (take (suc upto) (set entries upto entry)) ≡ kept_of s (take upto entries) ++ condition_at s (number_in entry) ∷ []
  kept_last =
      ap (kept_of s) (take-suc-set entries upto entry room) ∙ map-append (λ e. condition_at s (number_in e)) (take upto entries) (entry ∷ [])

  -- and what they are.
  entered_last : All (EntryOf s) (take upto entries) → EntryOf s entry → All (EntryOf s) (take (suc upto) (set entries upto entry))
  entered_last all one =
      subst (All (EntryOf s)) (sym (take-suc-set entries upto entry room)) (all_both (EntryOf s) (take upto entries) (entry ∷ []) all (one, tt))

-- ---- the loop

module _ (s mine t start : List ℕ) where
  -- The conditions of s that are kept.
  abbrev pub earlier : List (List Term)
  earlier = kept_of s mine

  -- The conditions from number c on.
  abbrev others : ℕ → List (List Term)
  others c = drop (c - 1) (conditions t)

  -- The conditions below number c were looked at; the entries go up to `upto`, and their conditions have so many terms.
  pub record Gathering (c : ℕ) (entries : List ℕ) (upto terms : ℕ) : Type 0 where
    pub low : 1 ≤ c
    pub within : c ≤ condition_count t + 1
    pub sized : length entries ≡ length start
    pub room : upto ≤ length entries
    pub entered : All (EntryOf t) (take upto entries)
    pub few : upto + 1 ≤ c
    pub staying : Staying has_terms earlier (conditions t) (kept_of t (take upto entries)) (others c)
    pub counted : terms ≡ length (flatten (kept_of t (take upto entries)))
    pub short : terms + length (flatten (others c)) ≤ length (flatten (conditions t))

  pub gathering_start : Gathering 1 start 0 0
  unfolding flatten
  gathering_start =
      record {
        low = omega arith;
        within = omega arith;
        sized = refl;
        room = omega arith;
        entered = tt;
        few = omega arith;
        staying = staying_start has_terms earlier (conditions t);
        counted = refl;
        short = omega arith;
      }

  module _ {c : ℕ} {entries : List ℕ} {upto terms : ℕ} (l : Gathering c entries upto terms) where
    module _ (more : c ≤ condition_count t) where
      abbrev pub next : List Term
      next = condition_at t c

      abbrev found : List (List Term)
      found = kept_of t (take upto entries)

      step : others c ≡ next ∷ others (c + 1)
      step =
          let number : suc (c - 1) ≡ c = omega (arith, l.low) in
          let after : suc (c - 1) ≡ c + 1 - 1 = omega (arith, l.low) in
          conditions_step t (c - 1) (omega (arith, l.low, more)) ∙ ap₂ (λ (n k : ℕ). condition_at t n ∷ drop k (conditions t)) number after

      staying_here : Staying has_terms earlier (conditions t) found (next ∷ others (c + 1))
      staying_here = subst (Staying has_terms earlier (conditions t) found) step l.staying

      left : length (flatten (others c)) ≡ length next + length (flatten (others (c + 1)))
      unfolding flatten
      left = ap (λ (tss : List (List Term)). length (flatten tss)) step ∙ length-append next (flatten (others (c + 1)))

      -- Its terms are among all terms.
      pub terms-few : terms + length next ≤ length (flatten (conditions t))
      terms-few = omega (arith, l.short, left)

      module _ {r : Sought} (sought : SoughtAt t c r) where
        -- It is one of the sheet's, as it is looked for;
        pub sought_in : Accepted t → SoughtIn t r
        sought_in ok =
            record {
              on = subst (OnChain t) (sym sought.head) (head-on t ok c l.low more);
              digest = sought.digest ∙ ap (λ h. digest_of (terms_from t h)) (sym sought.head);
            }

        -- and it is asked whether it is left out behind those kept so far.
        abbrev out : Bool
        out = is_left_out (terms_from t r.head.0) (earlier ++ found)

        asked : out ≡ is_left_out next (earlier ++ found)
        asked = ap (λ (h : ℕ). is_left_out (terms_from t h) (earlier ++ found)) sought.head

        -- It is left out,
        pub gathering_past : out ≡ true → Gathering (c + 1) entries upto terms
        gathering_past e =
            record {
              low = omega arith;
              within = omega (arith, more);
              sized = l.sized;
              room = l.room;
              entered = l.entered;
              few = omega (arith, l.few);
              staying = staying_past has_terms earlier (conditions t) staying_here (sym asked ∙ e);
              counted = l.counted;
              short = omega (arith, l.short, left);
            }

        -- or it stays, and is entered.
        pub one_more : out ≡ false → upto < length entries → (entry : ℕ) → (number_in entry ≡ c) × (digest_in entry ≡ r.digest)
            → Gathering (c + 1) (set entries upto entry) (upto + 1) (terms + r.terms)
        one_more e room entry (number, digest) =
            let one : EntryOf t entry =
            record {
              low = omega (arith, number, l.low);
              high = omega (arith, number, more);
              digest = digest ∙ sought.digest ∙ ap (λ (i : ℕ). digest_of (condition_at t i)) (sym number);
            } in
            let kept : kept_of t (take (suc upto) (set entries upto entry)) ≡ found ++ next ∷ [] =
            kept_last t upto entries room entry ∙ ap (λ (i : ℕ). found ++ condition_at t i ∷ []) number in
            let stays : Staying has_terms earlier (conditions t) (found ++ next ∷ []) (others (c + 1)) =
            staying_next has_terms earlier (conditions t) staying_here (sym asked ∙ e) in
            rw (add-one upto)
            record {
              low = omega arith;
              within = omega (arith, more);
              sized = length-set entries upto entry ∙ l.sized;
              room = omega (arith, room, length-set entries upto entry);
              entered = entered_last t upto entries room entry l.entered one;
              few = omega (arith, l.few);
              staying = subst (λ (tss : List (List Term)). Staying has_terms earlier (conditions t) tss (others (c + 1))) (sym kept) stays;
              counted = omega (arith, l.counted, sought.terms, terms_last found next, ap (λ (tss : List (List Term)). length (flatten tss)) kept);
              short = omega (arith, l.short, left, sought.terms);
            }

    -- Past the last condition, all that stay are entered.
    pub gathered : condition_count t < c → Gathered s mine t entries (record { upto = upto; terms = terms })
    gathered past =
        record {
          room = l.room;
          entered = l.entered;
          few = omega (arith, l.few, l.within);
          stay =
              staying_end has_terms earlier (conditions t)
              (subst (Staying has_terms earlier (conditions t) (kept_of t (take upto entries))) (conditions_end t (c - 1) (omega (arith, past))) l.staying);
          terms = l.counted;
          short = omega (arith, l.short);
        }
