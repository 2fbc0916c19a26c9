-- Entries of a sheet: where the chain of one begins, those of a slice that is lent, and that they stay.
use Prim.Native.Nat.{ℕ, ◌+◌, ◌-◌, ◌*◌, ◌≤◌}
use mathlib.Core.List.{List}
use mathlib.Core.Path.{◌≡◌, sym, ap, subst, ◌∙◌}
use native.Mathlib.Omega.{arith}
use lib.ListN.{length, take, drop}
use lib.Seq.{slice}
use Rattle.std.proofs.lemmas.List.{drop-take}
use Rattle.buffers.specs.Lists.{All}
use Rattle.sheet.specs.Format.{head_at}
use Rattle.sheet.specs.Inner.{HasConditions, OnChain}
use Rattle.sheet.proofs.Accepted.{sound}
use Rattle.sheet.proofs.ChainEnds.{head-on}
use Rattle.repeats.specs.Inner.{EntryOf, EntriesOf, number_in}

module _ {s : List ℕ} {m entry : ℕ} (can : HasConditions s m) (one : EntryOf s entry) where
  -- The head of an entry's condition stands in the sheet,
  pub has_head : 6 + 2 * number_in entry ≤ length s
  has_head = omega (arith, one.high, (sound s can.accepted).header.whole)

  -- and its chain is one of the sheet's.
  pub head_on_chain : (r : ℕ) → r ≡ head_at s (number_in entry) → OnChain s r
  head_on_chain r head = subst (OnChain s) (sym head) (head-on s can.accepted _ one.low one.high)

module _ {s : List ℕ} {from upto : ℕ} {entries : List ℕ} (l : EntriesOf s from upto entries) where
  -- A slice of the array has the entries between its ends.
  pub lent : take (upto - from) (drop from entries) ≡ slice from upto entries
  lent =
      let whole : from + (upto - from) ≡ upto = omega (arith, l.order) in
      sym (drop-take from (upto - from) entries) ∙ ap (λ (end : ℕ). drop from (take end entries)) whole

  pub each_lent : All (EntryOf s) (take (upto - from) (drop from entries))
  each_lent = subst (All (EntryOf s)) (sym lent) l.each
