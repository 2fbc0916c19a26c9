-- Where the chains of a sheet end, reach no vacant record, and reach each record at most once, its walk comes to its end: the converse of what a walk that does
-- says of the chains (`sheet/proofs/Reached`).
use Prim.Native.Nat.{ℕ, zero, suc, ◌+◌, ◌≤◌, ◌<◌}
use mathlib.Core.Bool.{Bool, true, false}
use mathlib.Core.List.{List, ◌∷◌, ◌++◌, map, flatten}
use mathlib.Core.Path.{◌≡◌, refl, ap, ◌∙◌}
use native.Mathlib.Omega.{arith}
use lib.ListN.{length}
use borrow.Author.Tests.{eq-eqb}
use Rattle.sheet.specs.Format.{record_count, head_at, next_at, vacant}
use Rattle.sheet.specs.Checks.{Walk, reached, member, walk_chain, walk_chains}
use Rattle.sheet.specs.Conditions.{chain, count_up}
use Rattle.sheet.proofs.Times.{times, times_append, member_times}
use Rattle.sheet.proofs.Reached.{walked_chain}
use Rattle.sheet.proofs.Walks.{walk_more}

-- After the records `seen`, a walk comes to its end with `records` besides.
pub record Walks (seen records : List ℕ) (walk : Walk) : Type 0 where
  pub out : List ℕ
  pub end : walk ≡ reached out
  pub counts : (x : ℕ) → times x out ≡ times x records + times x seen

here : (r : ℕ) (rs : List ℕ) → 1 ≤ times r (r ∷ rs)
unfolding times
here r rs = rw (eq-eqb r r refl) (omega arith)

absent : (r : ℕ) (seen : List ℕ) → times r seen < 1 → member r seen ≡ false
absent r seen few = go (member r seen) refl
  where
    go : (b : Bool) → member r seen ≡ b → b ≡ false
    go true e = absurd (omega (arith, member_times r seen e))
    go false e = refl

module _ (t : List ℕ) where
  -- One chain.
  chain_walks : (fuel : ℕ) (seen : List ℕ) (r : ℕ) → length (chain t fuel r) < fuel
      → ((x : ℕ) → 1 ≤ times x (chain t fuel r) → vacant t x ≡ false)
      → ((x : ℕ) → times x (chain t fuel r) + times x seen ≤ 1)
      → Walks seen (chain t fuel r) (walk_chain t fuel seen r)
  unfolding walk_chain chain times
  chain_walks zero seen r ends filled once = absurd (omega arith)
  chain_walks (suc fuel) seen zero ends filled once = record { out = seen; end = refl; counts = λ x. omega arith }
  chain_walks (suc fuel) seen (suc r) ends filled once =
      let rest : List ℕ = chain t fuel (next_at t (suc r)) in
      let first = here (suc r) rest in
      let new = absent (suc r) seen (omega (arith, once (suc r), first)) in
      let w = chain_walks fuel (suc r ∷ seen) (next_at t (suc r)) (omega arith) (λ x there. filled x (omega arith)) (λ x. omega (arith, once x)) in
      record {
        out = w.out;
        end = walk_more t fuel seen (suc r) (omega arith) (filled (suc r) first) new ∙ w.end;
        counts = λ x. omega (arith, w.counts x);
      }

  -- Chain after chain.
  pub chains_walk : (count c : ℕ) (seen : List ℕ)
      → ((i : ℕ) → c ≤ i → i < c + count → length (walked_chain t i) < suc (record_count t))
      → ((x : ℕ) → 1 ≤ times x (flatten (map (walked_chain t) (count_up count c))) → vacant t x ≡ false)
      → ((x : ℕ) → times x (flatten (map (walked_chain t) (count_up count c))) + times x seen ≤ 1)
      → Walks seen (flatten (map (walked_chain t) (count_up count c))) (walk_chains t count c (reached seen))
  unfolding walk_chains count_up flatten times
  chains_walk zero c seen ends filled once = record { out = seen; end = refl; counts = λ x. omega arith }
  chains_walk (suc count) c seen ends filled once =
      let rest : List ℕ = flatten (map (walked_chain t) (count_up count (suc c))) in
      let both : (x : ℕ) → times x (walked_chain t c ++ rest) ≡ times x (walked_chain t c) + times x rest = λ x. times_append x (walked_chain t c) rest in
      let one =
      chain_walks (suc (record_count t)) seen (head_at t c) (ends c (omega arith) (omega arith))
      (λ x there. filled x (omega (arith, both x))) (λ x. omega (arith, once x, both x)) in
      let more =
      chains_walk count (suc c) one.out (λ i low high. ends i (omega arith) (omega arith))
      (λ x there. filled x (omega (arith, both x))) (λ x. omega (arith, once x, both x, one.counts x)) in
      record {
        out = more.out;
        end = ap (walk_chains t count (suc c)) one.end ∙ more.end;
        counts = λ x. omega (arith, more.counts x, one.counts x, both x);
      }
