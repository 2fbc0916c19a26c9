use Rattle.std.proofs.Common.{◌≡◌, ◌+◌, ap, ◌∙◌, ℕ, List}
use native.Mathlib.Numerals.{add-one, add-two, add-four}
use lib.ListN.{set}
use lib.Seq.{sets}
use Rattle.buffers.specs.Bytes.{two_bytes, field_bytes}
use Rattle.buffers.proofs.put_fields.Goals as goal

fields_stored : (l : List ℕ) (at x first second : ℕ)
    → sets (sets (set (set l at x) (at + 1) 0) (at + 2) (two_bytes first)) (at + 4) (two_bytes second) ≡ sets l at (field_bytes x first second)
unfolding two_bytes
fields_stored l at x first second = rw (add-one at, add-two at, add-four at)

pub returns : goal.returns
returns c =
    let a = c.args in
    c.put_number-2.ensures
    ∙ ap (λ (l : List ℕ). sets l (a.at + 4) (two_bytes a.second)) c.put_number.ensures
    ∙ fields_stored a.out.now a.at a.x a.first a.second
