-- The reader's checks in the table's order: what those that passed leave of the sheet's verdict, and what the first that refuses makes the answer.
use Prim.Native.Nat.{ℕ}
use mathlib.Core.List.{List}
use mathlib.Core.Path.{◌≡◌, sym, ◌∙◌}
use Rattle.sheet.specs.Verdicts.{Verdict, Passes, Refuses}
use Rattle.sheet.specs.Format.{lowest_lot}
use Rattle.sheet.specs.Checks.{or_else, first_refusal, header_checks, check4, check5, check17_and6, check7, sheet_verdict}
use Rattle.sheet.specs.Answers.{refused, read_answer, read_answer_with}
use Rattle.sheet.proofs.Verdicts.{passed_on}
use Rattle.sheet.proofs.Accepted.{in_order}

-- The verdict of the checks from 17 on, from 5 and from 4.
abbrev pub from17 : List ℕ → Verdict
from17 s = or_else (check17_and6 s) (check7 s)

abbrev pub from5 : List ℕ → Verdict
from5 s = or_else (check5 lowest_lot s) (from17 s)

abbrev pub from4 : List ℕ → Verdict
from4 s = or_else (check4 s) (from5 s)

module _ (s : List ℕ) where
  -- Where the header passes, and then the heads, and then the records.
  pub after_header : Passes ≡ first_refusal (header_checks s) → sheet_verdict s ≡ from4 s
  after_header header = in_order s ∙ passed_on (sym header)

  pub after_heads : Passes ≡ first_refusal (header_checks s) → Passes ≡ check4 s → sheet_verdict s ≡ from5 s
  after_heads header heads = after_header header ∙ passed_on (sym heads)

  pub after_records : Passes ≡ first_refusal (header_checks s) → Passes ≡ check4 s → Passes ≡ check5 lowest_lot s → sheet_verdict s ≡ from17 s
  after_records header heads records = after_heads header heads ∙ passed_on (sym records)

  -- A refusal by the first of what is left is the answer.
  pub refuses_by : {v : Verdict} (w : Verdict) {check place : ℕ} → sheet_verdict s ≡ or_else v w → Refuses check place ≡ v → refused check place ≡ read_answer s
  unfolding read_answer_with
  refuses_by w e refuses = rw (e, ← refuses)
