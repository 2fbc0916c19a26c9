-- `reader::checks::well_formed` meets its contract: of the four tests the first that fails decides, or else the last one.
use Prim.Native.Nat.{ℕ}
use mathlib.Core.Bool.{◌||◌, and-false}
use mathlib.Core.Path.{◌≡◌, sym, ap, ◌∙◌}
use lib.Dec.{eqb}
use borrow.Author.Tests.{not-true, not-false}
use Rattle.sheet.specs.Format.{lowest_lot, same_sign, apart_sign}
use Rattle.sheet.specs.Checks.{well_formed}
use Rattle.sheet.specs.Inner.{sign_spare_at}
use Rattle.reader.proofs.Tests.{record_tests, record_by_tests}
use Rattle.reader.proofs.checks.well_formed.Goals as goal

pub returns-then-not-sign_known : goal.returns-then-not-sign_known
returns-then-not-sign_known c =
    let by_tests : let a = c.args in well_formed lowest_lot a.sheet.now a.r.0 ≡ record_tests a.h c.term_at-t.result (sign_spare_at a.sheet.now a.r.0) = record_by_tests c.args.sheet.now c.args.r.0 c.requires.0 c.term_at-t.ensures in
    let signed : let a = c.args in c.sign_known.result ≡ (eqb (sign_spare_at a.sheet.now a.r.0) same_sign || eqb (sign_spare_at a.sheet.now a.r.0) apart_sign) = c.sign_known.ensures ∙ ap (λ (x : ℕ). eqb x same_sign || eqb x apart_sign) c.sign_spare_at.ensures in
    sym (by_tests ∙ simp (sym (signed) ∙ not-true _ c.if-not-sign_known.true-raw))

pub returns-then-not-in_lots : goal.returns-then-not-in_lots
returns-then-not-in_lots c =
    let by_tests : let a = c.args in well_formed lowest_lot a.sheet.now a.r.0 ≡ record_tests a.h c.term_at-t.result (sign_spare_at a.sheet.now a.r.0) = record_by_tests c.args.sheet.now c.args.r.0 c.requires.0 c.term_at-t.ensures in
    sym (by_tests ∙ simp (sym c.in_lots.ensures ∙ not-true _ c.if-not-in_lots.true-raw, and-false))

pub returns-then-not-in_lots-2 : goal.returns-then-not-in_lots-2
returns-then-not-in_lots-2 c =
    let by_tests : let a = c.args in well_formed lowest_lot a.sheet.now a.r.0 ≡ record_tests a.h c.term_at-t.result (sign_spare_at a.sheet.now a.r.0) = record_by_tests c.args.sheet.now c.args.r.0 c.requires.0 c.term_at-t.ensures in
    sym (by_tests ∙ simp (sym c.in_lots-2.ensures ∙ not-true _ c.if-not-in_lots-2.true-raw, and-false))

pub returns : goal.returns
returns c =
    let by_tests : let a = c.args in well_formed lowest_lot a.sheet.now a.r.0 ≡ record_tests a.h c.term_at-t.result (sign_spare_at a.sheet.now a.r.0) = record_by_tests c.args.sheet.now c.args.r.0 c.requires.0 c.term_at-t.ensures in
    let signed : let a = c.args in c.sign_known.result ≡ (eqb (sign_spare_at a.sheet.now a.r.0) same_sign || eqb (sign_spare_at a.sheet.now a.r.0) apart_sign) = c.sign_known.ensures ∙ ap (λ (x : ℕ). eqb x same_sign || eqb x apart_sign) c.sign_spare_at.ensures in
    sym (by_tests
    ∙ simp (
      sym (signed) ∙ not-false _ c.if-not-sign_known.false-raw,
      sym c.in_lots.ensures ∙ not-false _ c.if-not-in_lots.false-raw,
      sym c.in_lots-2.ensures ∙ not-false _ c.if-not-in_lots-2.false-raw,
    ))
