-- A chain reader that is moved on. For the contracts of the code; this file states nothing of document 01.
use Rattle.sheet.specs.Inner.{term_record_at}
use Rattle.sheet.specs.declared.chain.Chain.{Chain}

-- The same sheet, at the next of the term that was read.
abbrev pub moved_on : Chain → Chain
moved_on c = record { sheet = c.sheet; next = (term_record_at c.sheet.now c.next.0).next }
