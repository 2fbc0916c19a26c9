-- For the contracts of inner functions; this file states nothing of the documents.
use Rattle.std.specs.Prelude.{ℕ, ◌+◌, ◌*◌, ◌/◌, ◌%◌, ◌≤◌, Bool, ◌&&◌, ◌≡◌, eqb, length, take}
use mathlib.Core.List.{List, [], ◌∷◌, ◌++◌, map, flatten}
use Rattle.std.proofs.Math.Seq.{slice}
use Rattle.buffers.specs.Lists.{All}
use Rattle.sheet.specs.declared.Term as code
use Rattle.sheet.specs.Format.{condition_count, head_at}
use Rattle.sheet.specs.Inner.{OnChain}
use Rattle.sheet.specs.Conditions.{Term, sign_of, first_lot, second_lot, terms_from, condition_at, conditions}
use Rattle.repeats.specs.declared.chains.Sought.{Sought}
use Rattle.repeats.specs.declared.kept.Kept.{Kept}
use Rattle.repeats.specs.declared.kept.Both.{Both}
use Rattle.repeats.specs.Repeats.{repeats, without_repeats, has_terms, merged_conditions}

-- ---- terms

-- Two terms, as the code has them, have the same sign, and the same lots in the same order.
abbrev pub equal_fields : code.Term → code.Term → Bool
equal_fields t u = eqb t.sign u.sign && (eqb t.a.0 u.a.0 && eqb t.b.0 u.b.0)

-- ---- digests: equal conditions have equal ones

abbrev pub digest_limit : ℕ
digest_limit = 65521

-- The digest of terms, with one more, which has these fields.
abbrev pub digest_fields : ℕ → ℕ → ℕ → ℕ → ℕ
digest_fields d sign a b = (d * 40503 + ((sign * 129 + b) * 129 + a)) % digest_limit

unfoldable pub digest_from : ℕ → List Term → ℕ
digest_from d [] = d
digest_from d (t ∷ ts) = digest_from (digest_fields d (sign_of t) (first_lot t) (second_lot t)) ts

abbrev pub digest_of : List Term → ℕ
digest_of ts = digest_from 0 ts

-- A condition of the sheet, as it is looked for: that of a chain,
pub record SoughtIn (s : List ℕ) (r : Sought) : Type 0 where
  pub on : OnChain s r.head.0
  pub digest : r.digest ≡ digest_of (terms_from s r.head.0)

-- and condition c.
pub record SoughtAt (s : List ℕ) (c : ℕ) (r : Sought) : Type 0 where
  pub head : r.head.0 ≡ head_at s c
  pub digest : r.digest ≡ digest_of (condition_at s c)
  pub terms : r.terms ≡ length (condition_at s c)

-- ---- entries

-- The number of an entry's condition, and the digest of its terms.
abbrev pub number_in : ℕ → ℕ
number_in entry = entry % 512

abbrev pub digest_in : ℕ → ℕ
digest_in entry = entry / 512

-- An entry of a sheet has the number of one of its conditions, and the digest of that.
pub record EntryOf (s : List ℕ) (entry : ℕ) : Type 0 where
  pub low : 1 ≤ number_in entry
  pub high : number_in entry ≤ condition_count s
  pub digest : digest_in entry ≡ digest_of (condition_at s (number_in entry))

-- The conditions of a sheet that entries have.
abbrev pub kept_of : List ℕ → List ℕ → List (List Term)
kept_of s entries = map (λ entry. condition_at s (number_in entry)) entries

-- A condition is left out behind these.
abbrev pub is_left_out : List Term → List (List Term) → Bool
is_left_out ts earlier = has_terms ts && repeats ts earlier

-- From one place up to another, there are entries of a sheet.
pub record EntriesOf (s : List ℕ) (from upto : ℕ) (entries : List ℕ) : Type 0 where
  pub order : from ≤ upto
  pub room : upto ≤ length entries
  pub each : All (EntryOf s) (slice from upto entries)

-- Behind these entries of s, there are those of t's conditions that stay.
pub record Gathered (s mine t others : List ℕ) (r : Kept) : Type 0 where
  pub room : r.upto ≤ length others
  pub entered : All (EntryOf t) (take r.upto others)
  pub few : r.upto ≤ condition_count t
  pub stay : kept_of t (take r.upto others) ≡ without_repeats has_terms (kept_of s mine) (conditions t)
  pub terms : r.terms ≡ length (flatten (kept_of t (take r.upto others)))
  pub short : r.terms ≤ length (flatten (conditions t))

-- There are the entries of s and then those of t, and together they have the conditions of the result.
pub record Entered (s t entries : List ℕ) (r : Both) : Type 0 where
  pub mine : EntriesOf s 0 r.first entries
  pub others : EntriesOf t r.first r.upto entries
  pub few : r.upto ≤ condition_count s + condition_count t
  pub result : kept_of s (slice 0 r.first entries) ++ kept_of t (slice r.first r.upto entries) ≡ merged_conditions has_terms s t
  pub conditions' : r.upto ≡ length (merged_conditions has_terms s t)
  pub terms : r.terms ≡ length (flatten (merged_conditions has_terms s t))
