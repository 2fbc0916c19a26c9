-- `repeats::kept::gather_both`: the conditions of the first sheet that stay behind none, and those of the second that stay behind them.
use mathlib.Core.Path.{sym, subst}
use native.Mathlib.Omega.{arith}
use Rattle.buffers.specs.Lists.{All}
use Rattle.sheet.proofs.Accepted.{sound}
use Rattle.sheet.proofs.Conditions.{terms-length}
use Rattle.repeats.specs.Inner.{EntryOf}
use Rattle.repeats.proofs.Entered.{entered}
use borrow.Author.Rules.{rules}
use Rattle.repeats.proofs.kept.gather_both.Goals as goal

-- Neither sheet has more conditions than a sheet may have.
pub gather-kept-requires : goal.gather-kept-requires
gather-kept-requires c =
    let limit = (sound c.args.first.now c.requires.0.accepted).header.conditions in
    let limit' = (sound c.args.second.now c.requires.1.accepted).header.conditions in
    (search rules, search rules, tt, omega (arith, limit, limit', c.requires.0.counted, c.requires.1.counted, c.requires.2))

pub gather-more-requires : goal.gather-more-requires
gather-more-requires c =
    let limit = (sound c.args.first.now c.requires.0.accepted).header.conditions in
    let limit' = (sound c.args.second.now c.requires.1.accepted).header.conditions in
    let kept = c.gather-kept.ensures in
    let cut = c.split_at_mut-mine.ensures in (
      search rules,
      search rules,
      subst (All (EntryOf _)) (sym cut.front) kept.entered,
      omega (arith, kept.few, limit, limit', c.requires.0.counted, c.requires.1.counted, c.requires.2, c.gather-kept.auto.others, cut.back_len),
    )

pub overflow_add-result-2 : goal.overflow_add-result-2
overflow_add-result-2 c =
    let s = c.args.first.now in
    let t = c.args.second.now in
    let ok = c.requires.0.accepted in
    let ok' = c.requires.1.accepted in
    omega (arith, c.gather-kept.ensures.short, c.gather-more.ensures.short, terms-length s ok, terms-length t ok', (sound s ok).header.records, (sound t ok').header.records)

pub returns : goal.returns
returns c =
    entered _ _ c.gather-kept.ensures c.split_at_mut-mine.ensures.front c.gather-more.ensures
