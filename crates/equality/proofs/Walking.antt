-- A loop over the terms of a chain stands at a record: its term, as the code reads it, and what is passed with it.
use Prim.Native.Nat.{ℕ, ◌+◌, ◌≤◌, ◌<◌}
use mathlib.Core.Bool.{Bool, false, true}
use mathlib.Core.List.{List}
use mathlib.Core.Path.{◌≡◌, sym, ap, subst, ◌∙◌}
use native.Mathlib.Omega.{arith}
use lib.ListN.{length}
use Rattle.sheet.specs.declared.Term as code
use Rattle.sheet.specs.Format.{most_lots, next_at}
use Rattle.sheet.specs.Conditions.{Term, term_of, term_at, terms_from, records_from}
use Rattle.sheet.specs.Inner.{HasConditions, HasRecord, term_record_at}
use Rattle.sheet.proofs.Accepted.{sound, has_record}
use Rattle.sheet.proofs.ChainEnds.{on_sound, rest_shorter}
use Rattle.equality.specs.Meaning.{any_term}
use Rattle.equality.proofs.Passing.{Passing, found, passing_next}

module _ {q : Term → Bool} {s : List ℕ} {m head at : ℕ} (can : HasConditions s m) (low : 1 ≤ at) (l : Passing q s head at) where
  pub record_here : HasRecord s m at
  record_here = rw can.counted (has_record (sound s can.accepted).header at low l.on.within)

  -- A number one higher fits.
  pub following_fits : at + 1 < 65536
  following_fits = omega (arith, l.on.within, (sound s can.accepted).header.records)

  module _ {t : code.Term} (read : t ≡ term_record_at s at) where
    -- Its lots have entries in a class map,
    pub lots_here : (t.a.0 ≤ most_lots) × (t.b.0 ≤ most_lots)
    lots_here =
        let fields = on_sound s can.accepted at low l.on in
        let lots = (sound s can.accepted).header.lots in
        rw read (omega (arith, fields.first.high, lots), omega (arith, fields.second.high, lots))

    pub term_here : term_at s at ≡ term_of t.sign t.a.0 t.b.0
    term_here = ap (λ (u : code.Term). term_of u.sign u.a.0 u.b.0) (sym read)

    pub next_here : next_at s at ≡ t.next.0
    next_here = ap (λ (u : code.Term). u.next.0) (sym read)

    -- the rest of the chain is shorter than what is left with it,
    pub rest_here : length (records_from s t.next.0) < length (records_from s at)
    rest_here = subst (λ (r : ℕ). length (records_from s r) < length (records_from s at)) next_here (rest_shorter s can.accepted at low l.on.within)

    -- and where the test is false of the term it is passed, from its next on;
    pub passed_here : q (term_of t.sign t.a.0 t.b.0) ≡ false → Passing q s head t.next.0
    passed_here e = subst (λ (r : ℕ). Passing q s head r) next_here (passing_next q s can.accepted head at l low (ap q term_here ∙ e))

    -- else it is found.
    pub true_here : q (term_of t.sign t.a.0 t.b.0) ≡ true → any_term q (terms_from s head) ≡ true
    true_here e = found q s can.accepted head at l low (ap q term_here ∙ e)
