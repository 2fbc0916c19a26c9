-- `writer::begin`: three numbers, one after the other, are the header.
use Prim.Native.Nat.{ℕ}
use mathlib.Core.List.{List}
use mathlib.Core.Path.{ap, ◌∙◌}
use lib.Seq.{sets}
use Rattle.buffers.specs.Bytes.{two_bytes}
use Rattle.writer.specs.Drafts.{draft, begun}
use Rattle.writer.proofs.Stores.{header-stored}
use Rattle.writer.proofs.begin.Goals as goal

pub returns : goal.returns
returns c =
    let a = c.args in
    ap (λ (b : List ℕ). draft b (begun a.n a.m a.k a.out.now).writer)
    (c.put_number-3.ensures
    ∙ ap (λ (l : List ℕ). sets l 4 (two_bytes a.k))
    (c.put_number-2.ensures ∙ ap (λ (l : List ℕ). sets l 2 (two_bytes a.m)) c.put_number.ensures)
    ∙ header-stored a.out.now a.n a.m a.k)
