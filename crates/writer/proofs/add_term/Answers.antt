-- `writer::add_term`: the record, and its number where the condition leads on.
use Prim.Native.Nat.{ℕ, ◌+◌}
use mathlib.Core.List.{List}
use mathlib.Core.Path.{ap, ◌∙◌}
use lib.Seq.{sets}
use Rattle.buffers.specs.Bytes.{two_bytes}
use Rattle.sheet.specs.Conditions.{term_of}
use Rattle.writer.specs.Drafts.{draft, with_term}
use Rattle.writer.proofs.Stores.{record_stored}
use Rattle.writer.proofs.add_term.Goals as goal

pub returns : goal.returns
returns c =
    let a = c.args in
    let t = term_of a.sign a.a.0 a.b.0 in
    ap (λ (b : List ℕ). draft b (with_term t (draft a.out.now a.w)).writer)
    (c.put_number-2.ensures
    ∙ ap (λ (l : List ℕ). sets l a.w.link (two_bytes a.w.number.0))
    (c.put_number.ensures
    ∙ ap (λ (l : List ℕ). sets l (a.w.place + 6) (two_bytes 0)) c.put_fields.ensures
    ∙ record_stored a.out.now a.w.place a.sign a.a.0 a.b.0 0 c.requires.0))
